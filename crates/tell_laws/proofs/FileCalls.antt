-- How many calls on the volume COMMIT, WRITE and READ make.
use Rattle.std.proofs.Common.{◌≡◌, ℕ, ◌+◌, ◌≤◌, Bool, true, false, List, Option, Some, None, Result, Ok, Err, length, refl, arith}
use Rattle.block_file.specs.declared.faults.ReadFault.{ReadFault}
use Rattle.block_file.specs.declared.faults.ReadFault.TheVariants as reading
use Rattle.block_file.specs.declared.faults.WriteFault.{WriteFault}
use Rattle.block_file.specs.declared.faults.WriteFault.TheVariants as writing
use Rattle.copy_model.specs.Volume.{bytes_at, file_at}
use Rattle.file_ops.specs.declared.files.ReadArgs.{ReadArgs}
use Rattle.file_ops.specs.declared.files.WriteArgs.{WriteArgs}
use Rattle.file_server.specs.Answering.{meant_id, open_refusal}
use Rattle.file_server.specs.Handles.{byte_file}
use Rattle.file_server.specs.Machine.{Going, Rules, with_call, with_extra}
use Rattle.file_server.specs.Reading.{read, read_bytes, read_eof, read_file, read_length, read_once, read_refusal, read_told, read_unless}
use Rattle.file_server.specs.Writing.{commit, commit_file, commit_told, sync_written, taken_bytes, write, write_at, write_file, write_settled, write_synced, write_told, write_unless}
use Rattle.file_server.specs.declared.extension.Ask.TheVariants as ask
use Rattle.file_server.specs.declared.extension.Caller.{Caller}
use Rattle.nfs_base.specs.declared.status.Status.{Status}
use Rattle.nfs_base.specs.declared.written.Stability.{Stability}
use Rattle.nfs_base.specs.declared.written.Stability.TheVariants.{Unstable, DataSync, FileSync}
use Rattle.nfs_compound.specs.VolumeCalls.{write_calls}
use Rattle.server_volume.specs.Calls as asked
use Rattle.server_volume.specs.Calls.{broken_fault, commit_call, read_call, write_call, write_fault}
use Rattle.server_volume.specs.Choices.{Choice}
use Rattle.state_ids.specs.declared.access.Access.TheVariants as access
use Rattle.tell_laws.proofs.Makes.{Makes, byte_rootless, called_makes, makes_more, makes_none, makes_then}

-- no call was made
abbrev pub Keeps : {X : Type 0} → Going X → Going X → Type 0
Keeps g h = h.used ≡ g.used

-- so many were at most
abbrev pub Calls : {X : Type 0} → ℕ → Going X → Going X → Type 0
Calls most g h = Makes most g.used h.used

none : {X : Type 0} (most : ℕ) (g h : Going X) → Keeps g h → Calls most g h
none most g h same = makes_none most g.used h.used same

one_within : (how : Stability) → 1 ≤ write_calls how
one_within Unstable = omega arith
one_within DataSync = omega arith
one_within FileSync = omega arith

module _ {X : Type 0} where
  -- ---- the three calls

  read_makes : (choice : Choice) (file off len : ℕ) (g : Going X) → (file ≡ 0 → ⊥) → Calls 1 g (with_call (read_call choice g.used g.machine.store file off len) g)
  unfolding read_call
  read_makes choice file off len g off_root =
      called_makes (broken_fault g.machine.store.volume.broken) reading.DiskFailed (choice (length g.used)) (asked.Reads file off len) g.used g.machine.store off_root

  write_makes : (choice : Choice) (file off : ℕ) (bytes : List ℕ) (g : Going X) → (file ≡ 0 → ⊥)
      → Calls 1 g (with_call (write_call choice g.used g.machine.store file off bytes) g)
  unfolding write_call
  write_makes choice file off bytes g off_root =
      called_makes (write_fault g.machine.store.volume off bytes) writing.DiskFailed (choice (length g.used)) (asked.Writes file off bytes) g.used g.machine.store off_root

  commit_makes : (choice : Choice) (file : ℕ) (g : Going X) → (file ≡ 0 → ⊥) → Calls 1 g (with_call (commit_call choice g.used g.machine.store file) g)
  unfolding commit_call
  commit_makes choice file g off_root =
      called_makes (broken_fault g.machine.store.volume.broken) reading.DiskFailed (choice (length g.used)) (asked.Commits file) g.used g.machine.store off_root

  -- what is answered to them makes no more
  along : (most : ℕ) (g h i : Going X) → Calls most g h → Keeps h i → Calls most g i
  along most g h i first same = makes_more (most + 0) most g.used i.used (omega arith) (makes_then most 0 g.used h.used i.used first (none 0 h i same))

  -- ---- COMMIT and WRITE

  commit_told_keeps : (why : Option ReadFault) (g : Going X) → Keeps g (commit_told why g).going
  commit_told_keeps (Some f) g = refl
  commit_told_keeps None g = refl

  commit_file_calls : (choice : Choice) (r : Result ℕ Status) (g : Going X) → byte_file g.machine.store g.held.current ≡ r → Calls 1 g (commit_file choice r g).going
  commit_file_calls choice (Err status) g is = none 1 g g refl
  commit_file_calls choice (Ok file) g is =
      let c = commit_call choice g.used g.machine.store file in
      along 1 g (with_call c g) (commit_told c.fault (with_call c g)).going
      (commit_makes choice file g (byte_rootless g.machine.store g.held.current file is)) (commit_told_keeps c.fault (with_call c g))

  pub commit_calls : (choice : Choice) (g : Going X) → Calls 1 g (commit choice g).going
  unfolding commit
  commit_calls choice g = commit_file_calls choice (byte_file g.machine.store g.held.current) g refl

  synced_keeps : (why : Option ReadFault) (count : ℕ) (g : Going X) → Keeps g (write_synced why count g).going
  synced_keeps (Some f) count g = refl
  synced_keeps None count g = refl

  sync_calls : (choice : Choice) (file count : ℕ) (g : Going X) → (file ≡ 0 → ⊥) → Calls 1 g (sync_written choice file count g).going
  sync_calls choice file count g off_root =
      let c = commit_call choice g.used g.machine.store file in
      along 1 g (with_call c g) (write_synced c.fault count (with_call c g)).going (commit_makes choice file g off_root) (synced_keeps c.fault count (with_call c g))

  settled_calls : (choice : Choice) (file count : ℕ) (how : Stability) (f g : Going X) → (file ≡ 0 → ⊥) → Calls 1 f g
      → Calls (write_calls how) f (write_settled choice file count how g).going
  settled_calls choice file count Unstable f g off_root first = first
  settled_calls choice file count DataSync f g off_root first = makes_then 1 1 f.used g.used _ first (sync_calls choice file count g off_root)
  settled_calls choice file count FileSync f g off_root first = makes_then 1 1 f.used g.used _ first (sync_calls choice file count g off_root)

  write_told_calls : (why : Option WriteFault) (choice : Choice) (file count : ℕ) (how : Stability) (f g : Going X) → (file ≡ 0 → ⊥) → Calls 1 f g
      → Calls (write_calls how) f (write_told why choice file count how g).going
  write_told_calls (Some fault) choice file count how f g off_root first = makes_more 1 (write_calls how) f.used g.used (one_within how) first
  write_told_calls None choice file count how f g off_root first = settled_calls choice file count how f g off_root first

  write_at_calls : (choice : Choice) (off : ℕ) (bytes : List ℕ) (how : Stability) (file : ℕ) (g : Going X) → (file ≡ 0 → ⊥)
      → Calls (write_calls how) g (write_at choice off bytes how file g).going
  write_at_calls choice off bytes how file g off_root =
      let c = write_call choice g.used g.machine.store file off bytes in
      write_told_calls c.fault choice file (length bytes) how g (with_call c g) off_root (write_makes choice file off bytes g off_root)

  write_unless_calls : (why : Option Status) (choice : Choice) (args : WriteArgs) (file : ℕ) (g : Going X) → (file ≡ 0 → ⊥)
      → Calls (write_calls args.stable) g (write_unless why choice args file g).going
  write_unless_calls (Some status) choice args file g off_root = none (write_calls args.stable) g g refl
  write_unless_calls None choice args file g off_root = write_at_calls choice args.offset (taken_bytes args.bytes) args.stable file g off_root

  write_file_calls : (choice : Choice) (args : WriteArgs) (r : Result ℕ Status) (g : Going X) → byte_file g.machine.store g.held.current ≡ r
      → Calls (write_calls args.stable) g (write_file choice args r g).going
  write_file_calls choice args (Err status) g is = none (write_calls args.stable) g g refl
  write_file_calls choice args (Ok file) g is =
      write_unless_calls (open_refusal g.machine.opens (meant_id g.held.id args.state_id) file access.Write) choice args file g
      (byte_rootless g.machine.store g.held.current file is)

  pub write_calls_few : (choice : Choice) (args : WriteArgs) (g : Going X) → Calls (write_calls args.stable) g (write choice args g).going
  unfolding write
  write_calls_few choice args g = write_file_calls choice args (byte_file g.machine.store g.held.current) g refl

  -- ---- READ

  read_told_keeps : (why : Option ReadFault) (eof : Bool) (bytes : List ℕ) (g : Going X) → Keeps g (read_told why eof bytes g).going
  read_told_keeps (Some f) eof bytes g = refl
  read_told_keeps None eof bytes g = refl

  read_bytes_calls : (choice : Choice) (off len : ℕ) (eof : Bool) (file : ℕ) (g : Going X) → (file ≡ 0 → ⊥) → Calls 1 g (read_bytes choice off len eof file g).going
  read_bytes_calls choice off len eof file g off_root =
      let c = read_call choice g.used g.machine.store file off len in
      along 1 g (with_call c g) (read_bytes choice off len eof file g).going (read_makes choice file off len g off_root)
      (read_told_keeps c.fault eof (bytes_at (file_at g.machine.store.volume file).now off len) (with_call c g))

  read_unless_calls : (why : Option Status) (choice : Choice) (off count file : ℕ) (g : Going X) → (file ≡ 0 → ⊥) → Calls 1 g (read_unless why choice off count file g).going
  read_unless_calls (Some status) choice off count file g off_root = none 1 g g refl
  read_unless_calls None choice off count file g off_root =
      let size = length (file_at g.machine.store.volume file).now in
      read_bytes_calls choice off (read_length size off count) (read_eof size off count) file g off_root

  module _ {P : Type 0} (rules : Rules X P) (caller : Caller) (carry : P) where
    read_file_calls : (choice : Choice) (args : ReadArgs) (r : Result ℕ Status) (g : Going X) → byte_file g.machine.store g.held.current ≡ r
        → Calls 1 g (read_file rules choice caller carry args r g).going
    read_file_calls choice args (Err status) g is = none 1 g g refl
    read_file_calls choice args (Ok file) g is =
        let said = rules.gate g.machine.extra caller carry (ask.Read file args.state_id) in
        read_unless_calls (read_refusal said.1 g.machine.opens g.held.id args.state_id file) choice args.offset args.count file (with_extra said.0 g)
        (byte_rootless g.machine.store g.held.current file is)

    read_once_calls : (again : Bool) (choice : Choice) (args : ReadArgs) (g : Going X) → Calls 1 g (read_once again rules choice caller carry args g).going
    read_once_calls true choice args g = none 1 g g refl
    read_once_calls false choice args g = read_file_calls choice args (byte_file g.machine.store g.held.current) g refl

    pub read_calls : (choice : Choice) (args : ReadArgs) (g : Going X) → Calls 1 g (read rules choice caller carry args g).going
    unfolding read
    read_calls choice args g = read_once_calls g.has_read choice args g
