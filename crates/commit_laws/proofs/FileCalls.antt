-- The operations on files change a store by calls alone.
use Rattle.std.proofs.Common.{◌≡◌, ℕ, ◌<◌, Bool, true, false, List, Option, Some, None, Result, Ok, Err, length, refl, subst, sym}
use Rattle.block_file.specs.declared.faults.ReadFault.{ReadFault}
use Rattle.block_file.specs.declared.faults.ReadFault.TheVariants as reading
use Rattle.block_file.specs.declared.faults.WriteFault.{WriteFault}
use Rattle.block_file.specs.declared.faults.WriteFault.TheVariants as writing
use Rattle.copy_model.specs.Volume.{file_at, bytes_at}
use Rattle.file_ops.specs.declared.files.CloseArgs.{CloseArgs}
use Rattle.file_ops.specs.declared.files.ReadArgs.{ReadArgs}
use Rattle.file_ops.specs.declared.files.WriteArgs.{WriteArgs}
use Rattle.file_ops.specs.declared.opening.OpenArgs.{OpenArgs}
use Rattle.file_server.specs.Answering.{meant_id, open_refusal}
use Rattle.file_server.specs.Attributes.{attributes_file, attributes_if, first_word, get_attributes}
use Rattle.file_server.specs.Closing.{close, close_file, close_meant, close_told}
use Rattle.file_server.specs.Handles.{byte_file, current_file, handle_file}
use Rattle.file_server.specs.Machine.{Going, Rules, with_call, with_extra}
use Rattle.file_server.specs.Names.{file_named, lookup, lookup_told, lookup_unless, root_refusal}
use Rattle.file_server.specs.Opening.{access_of, file_opened, open_by_name, open_file, open_told, open_unless}
use Rattle.file_server.specs.Placing.{get, get_current, get_told, is_saved_next, put, put_root, put_tested, put_told, restore, restore_told, save, save_told}
use Rattle.file_server.specs.Reading.{read, read_eof, read_file, read_from, read_length, read_once, read_refusal, read_told, read_unless}
use Rattle.file_server.specs.Writing.{commit, commit_file, commit_told, sync_written, taken_bytes, write, write_at, write_file, write_settled, write_synced, write_told, write_unless}
use Rattle.file_server.specs.declared.extension.Ask.TheVariants as ask
use Rattle.file_server.specs.declared.extension.Caller.{Caller}
use Rattle.file_server.specs.declared.extension.Gate.{Gate}
use Rattle.file_server.specs.declared.extension.Gate.TheVariants as gate
use Rattle.nfs_base.specs.declared.state_id.StateId.{StateId}
use Rattle.nfs_base.specs.declared.status.Status.{Status}
use Rattle.nfs_base.specs.declared.written.Stability.{Stability}
use Rattle.nfs_base.specs.declared.written.Stability.TheVariants.{Unstable, DataSync, FileSync}
use Rattle.server_volume.specs.Calls as calls
use Rattle.server_volume.specs.Calls.{broken_fault, commit_call, read_call, write_call, write_fault}
use Rattle.server_volume.specs.Choices.{Choice}
use Rattle.state_ids.specs.Opens.{OpenTable, close_refusal, open_answer, open_table}
use Rattle.state_ids.specs.declared.access.Access.TheVariants as access
use Rattle.state_ids.specs.declared.opens.Full.{Full}
use Rattle.commit_laws.specs.Calling.{CameByCalls}
use Rattle.commit_laws.specs.CallLaws.{by_none, by_both}
use Rattle.commit_laws.proofs.Called.{byte_there, called_by, files_stay, serves_file, serves_write}

-- one state of a compound came from another by calls alone
abbrev pub Goes : {X : Type 0} → Going X → Going X → Type 0
Goes g h = CameByCalls g.machine.store h.machine.store g.used h.used

-- neither the store nor the calls changed
pub stays : {X : Type 0} (g h : Going X) → h.machine.store ≡ g.machine.store → h.used ≡ g.used → Goes g h
stays g h store used = by_none g.machine.store h.machine.store g.used h.used store used

pub both : {X : Type 0} (f g h : Going X) → Goes f g → Goes g h → Goes f h
both f g h first second = by_both f.machine.store g.machine.store h.machine.store f.used g.used h.used first second

module _ {X : Type 0} where
  -- ---- the three calls

  pub read_goes : (choice : Choice) (file off len : ℕ) (g : Going X) → file < length g.machine.store.volume.files
      → Goes g (with_call (read_call choice g.used g.machine.store file off len) g)
  unfolding read_call
  read_goes choice file off len g there =
      called_by (broken_fault g.machine.store.volume.broken) reading.DiskFailed (choice (length g.used)) (calls.Reads file off len) g.used g.machine.store
      (serves_file g.machine.store file there)

  pub write_goes : (choice : Choice) (file off : ℕ) (bytes : List ℕ) (g : Going X) → file < length g.machine.store.volume.files
      → Goes g (with_call (write_call choice g.used g.machine.store file off bytes) g)
  unfolding write_call
  write_goes choice file off bytes g there =
      called_by (write_fault g.machine.store.volume off bytes) writing.DiskFailed (choice (length g.used)) (calls.Writes file off bytes) g.used g.machine.store
      (serves_write g.machine.store file off bytes there)

  pub commit_goes : (choice : Choice) (file : ℕ) (g : Going X) → file < length g.machine.store.volume.files
      → Goes g (with_call (commit_call choice g.used g.machine.store file) g)
  unfolding commit_call
  commit_goes choice file g there =
      called_by (broken_fault g.machine.store.volume.broken) reading.DiskFailed (choice (length g.used)) (calls.Commits file) g.used g.machine.store
      (serves_file g.machine.store file there)

  -- ---- COMMIT and WRITE

  commit_told_goes : (why : Option ReadFault) (g : Going X) → Goes g (commit_told why g).going
  commit_told_goes (Some f) g = stays g g refl refl
  commit_told_goes None g = stays g g refl refl

  commit_file_goes : (choice : Choice) (r : Result ℕ Status) (g : Going X) → byte_file g.machine.store g.held.current ≡ r → Goes g (commit_file choice r g).going
  commit_file_goes choice (Err status) g is = stays g g refl refl
  commit_file_goes choice (Ok file) g is =
      let c = commit_call choice g.used g.machine.store file in
      both g (with_call c g) (commit_told c.fault (with_call c g)).going (commit_goes choice file g (byte_there g.machine.store g.held.current file is))
      (commit_told_goes c.fault (with_call c g))

  pub commit_by : (choice : Choice) (g : Going X) → Goes g (commit choice g).going
  unfolding commit
  commit_by choice g = commit_file_goes choice (byte_file g.machine.store g.held.current) g refl

  synced_goes : (why : Option ReadFault) (count : ℕ) (g : Going X) → Goes g (write_synced why count g).going
  synced_goes (Some f) count g = stays g g refl refl
  synced_goes None count g = stays g g refl refl

  sync_goes : (choice : Choice) (file count : ℕ) (g : Going X) → file < length g.machine.store.volume.files → Goes g (sync_written choice file count g).going
  sync_goes choice file count g there =
      let c = commit_call choice g.used g.machine.store file in
      both g (with_call c g) (write_synced c.fault count (with_call c g)).going (commit_goes choice file g there) (synced_goes c.fault count (with_call c g))

  settled_goes : (choice : Choice) (file count : ℕ) (how : Stability) (g : Going X) → file < length g.machine.store.volume.files
      → Goes g (write_settled choice file count how g).going
  settled_goes choice file count Unstable g there = stays g g refl refl
  settled_goes choice file count DataSync g there = sync_goes choice file count g there
  settled_goes choice file count FileSync g there = sync_goes choice file count g there

  write_told_goes : (why : Option WriteFault) (choice : Choice) (file count : ℕ) (how : Stability) (g : Going X) → file < length g.machine.store.volume.files
      → Goes g (write_told why choice file count how g).going
  write_told_goes (Some f) choice file count how g there = stays g g refl refl
  write_told_goes None choice file count how g there = settled_goes choice file count how g there

  write_at_goes : (choice : Choice) (off : ℕ) (bytes : List ℕ) (how : Stability) (file : ℕ) (g : Going X) → file < length g.machine.store.volume.files
      → Goes g (write_at choice off bytes how file g).going
  write_at_goes choice off bytes how file g there =
      let c = write_call choice g.used g.machine.store file off bytes in
      let first = write_goes choice file off bytes g there in
      let same = files_stay g.machine.store c.store g.used c.used first in
      both g (with_call c g) (write_told c.fault choice file (length bytes) how (with_call c g)).going first
      (write_told_goes c.fault choice file (length bytes) how (with_call c g) (subst (λ n. file < n) (sym same) there))

  write_unless_goes : (why : Option Status) (choice : Choice) (args : WriteArgs) (file : ℕ) (g : Going X) → file < length g.machine.store.volume.files
      → Goes g (write_unless why choice args file g).going
  write_unless_goes (Some status) choice args file g there = stays g g refl refl
  write_unless_goes None choice args file g there = write_at_goes choice args.offset (taken_bytes args.bytes) args.stable file g there

  write_file_goes : (choice : Choice) (args : WriteArgs) (r : Result ℕ Status) (g : Going X) → byte_file g.machine.store g.held.current ≡ r
      → Goes g (write_file choice args r g).going
  write_file_goes choice args (Err status) g is = stays g g refl refl
  write_file_goes choice args (Ok file) g is =
      write_unless_goes (open_refusal g.machine.opens (meant_id g.held.id args.state_id) file access.Write) choice args file g
      (byte_there g.machine.store g.held.current file is)

  pub write_by : (choice : Choice) (args : WriteArgs) (g : Going X) → Goes g (write choice args g).going
  unfolding write
  write_by choice args g = write_file_goes choice args (byte_file g.machine.store g.held.current) g refl

  -- ---- READ and GETATTR

  read_told_goes : (why : Option ReadFault) (eof : Bool) (bytes : List ℕ) (g : Going X) → Goes g (read_told why eof bytes g).going
  read_told_goes (Some f) eof bytes g = stays g g refl refl
  read_told_goes None eof bytes g = by_none _ _ _ _ refl refl

  read_from_goes : (choice : Choice) (off count file : ℕ) (g : Going X) → file < length g.machine.store.volume.files → Goes g (read_from choice off count file g).going
  read_from_goes choice off count file g there =
      let size = length (file_at g.machine.store.volume file).now in
      let c = read_call choice g.used g.machine.store file off (read_length size off count) in
      let bytes = bytes_at (file_at g.machine.store.volume file).now off (read_length size off count) in
      both g (with_call c g) (read_told c.fault (read_eof size off count) bytes (with_call c g)).going
      (read_goes choice file off (read_length size off count) g there)
      (read_told_goes c.fault (read_eof size off count) bytes (with_call c g))

  read_unless_goes : (why : Option Status) (choice : Choice) (off count file : ℕ) (g : Going X) → file < length g.machine.store.volume.files
      → Goes g (read_unless why choice off count file g).going
  read_unless_goes (Some status) choice off count file g there = stays g g refl refl
  read_unless_goes None choice off count file g there = read_from_goes choice off count file g there

  module _ {P : Type 0} (rules : Rules X P) (caller : Caller) (carry : P) where
    read_file_goes : (choice : Choice) (args : ReadArgs) (r : Result ℕ Status) (g : Going X) → byte_file g.machine.store g.held.current ≡ r
        → Goes g (read_file rules choice caller carry args r g).going
    read_file_goes choice args (Err status) g is = stays g g refl refl
    read_file_goes choice args (Ok file) g is =
        let said = rules.gate g.machine.extra caller carry (ask.Read file args.state_id) in
        read_unless_goes (read_refusal said.1 g.machine.opens g.held.id args.state_id file) choice args.offset args.count file (with_extra said.0 g)
        (byte_there g.machine.store g.held.current file is)

    read_once_goes : (again : Bool) (choice : Choice) (args : ReadArgs) (g : Going X) → Goes g (read_once again rules choice caller carry args g).going
    read_once_goes true choice args g = stays g g refl refl
    read_once_goes false choice args g = read_file_goes choice args (byte_file g.machine.store g.held.current) g refl

    pub read_by : (choice : Choice) (args : ReadArgs) (g : Going X) → Goes g (read rules choice caller carry args g).going
    unfolding read
    read_by choice args g = read_once_goes g.has_read choice args g

    attributes_if_goes : (said : Gate) (mask file : ℕ) (x : X) (g : Going X) → Goes g (attributes_if said mask file (with_extra x g)).going
    attributes_if_goes (gate.Refuse status) mask file x g = by_none _ _ _ _ refl refl
    attributes_if_goes gate.Serve mask file x g = by_none _ _ _ _ refl refl
    attributes_if_goes gate.Usual mask file x g = by_none _ _ _ _ refl refl

    attributes_file_goes : (mask : ℕ) (r : Result ℕ Status) (g : Going X) → Goes g (attributes_file rules caller carry mask r g).going
    attributes_file_goes mask (Err status) g = stays g g refl refl
    attributes_file_goes mask (Ok file) g =
        let said = rules.gate g.machine.extra caller carry (ask.Attributes file) in attributes_if_goes said.1 mask file said.0 g

    pub attributes_by : (asked : List ℕ) (g : Going X) → Goes g (get_attributes rules caller carry asked g).going
    unfolding get_attributes
    attributes_by asked g = attributes_file_goes (first_word asked) (current_file g.machine.store g.held.current) g

  -- ---- operations that make no call

  close_told_goes : (why : Option Status) (id : StateId) (g : Going X) → Goes g (close_told why id g).going
  close_told_goes (Some status) id g = stays g g refl refl
  close_told_goes None id g = by_none _ _ _ _ refl refl

  close_meant_goes : (id : Option StateId) (file : ℕ) (g : Going X) → Goes g (close_meant id file g).going
  close_meant_goes None file g = stays g g refl refl
  close_meant_goes (Some id) file g = close_told_goes (close_refusal g.machine.opens id file) id g

  close_file_goes : (id : StateId) (r : Result ℕ Status) (g : Going X) → Goes g (close_file id r g).going
  close_file_goes id (Err status) g = stays g g refl refl
  close_file_goes id (Ok file) g = close_meant_goes (meant_id g.held.id id) file g

  pub close_by : (args : CloseArgs) (g : Going X) → Goes g (close args g).going
  unfolding close
  close_by args g = close_file_goes args.state_id (current_file g.machine.store g.held.current) g

  open_told_goes : (r : Result StateId Full) (table : OpenTable) (file : ℕ) (g : Going X) → Goes g (open_told r table file g).going
  open_told_goes (Err full) table file g = stays g g refl refl
  open_told_goes (Ok id) table file g = by_none _ _ _ _ refl refl

  open_file_goes : (client : ℕ) (args : OpenArgs) (r : Result ℕ Status) (g : Going X) → Goes g (open_file client args r g).going
  open_file_goes client args (Err status) g = stays g g refl refl
  open_file_goes client args (Ok file) g =
      open_told_goes (open_answer g.machine.opens client args.owner file) (open_table g.machine.opens client args.owner file (access_of args.access)) file g

  open_unless_goes : (why : Option Status) (client : ℕ) (args : OpenArgs) (g : Going X) → Goes g (open_unless why client args g).going
  open_unless_goes (Some status) client args g = stays g g refl refl
  open_unless_goes None client args g = open_file_goes client args (file_opened (length g.machine.store.volume.files) args) g

  pub open_by : (caller : Caller) (args : OpenArgs) (g : Going X) → Goes g (open_by_name caller args g).going
  unfolding open_by_name
  open_by caller args g = open_unless_goes (root_refusal (current_file g.machine.store g.held.current)) caller.client args g

  lookup_told_goes : (r : Result ℕ Status) (g : Going X) → Goes g (lookup_told r g).going
  lookup_told_goes (Err status) g = stays g g refl refl
  lookup_told_goes (Ok file) g = by_none _ _ _ _ refl refl

  lookup_unless_goes : (why : Option Status) (name : List ℕ) (g : Going X) → Goes g (lookup_unless why name g).going
  lookup_unless_goes (Some status) name g = stays g g refl refl
  lookup_unless_goes None name g = lookup_told_goes (file_named (length g.machine.store.volume.files) name) g

  pub lookup_by : (name : List ℕ) (g : Going X) → Goes g (lookup name g).going
  unfolding lookup
  lookup_by name g = lookup_unless_goes (root_refusal (current_file g.machine.store g.held.current)) name g

  pub put_root_by : (g : Going X) → Goes g (put_root g).going
  unfolding put_root
  put_root_by g = by_none _ _ _ _ refl refl

  put_told_goes : (handle : List ℕ) (r : Result ℕ Status) (g : Going X) → Goes g (put_told handle r g).going
  put_told_goes handle (Err status) g = stays g g refl refl
  put_told_goes handle (Ok file) g = by_none _ _ _ _ refl refl

  put_tested_goes : (saved : Bool) (handle : List ℕ) (g : Going X) → Goes g (put_tested saved handle g).going
  put_tested_goes true handle g = put_told_goes handle (Ok 0) g
  put_tested_goes false handle g = put_told_goes handle (handle_file (length g.machine.store.volume.files) g.machine.store.tag handle) g

  pub put_by : (next : Option ℕ) (handle : List ℕ) (g : Going X) → Goes g (put next handle g).going
  unfolding put
  put_by next handle g = put_tested_goes (is_saved_next next) handle g

  get_told_goes : (r : Result ℕ Status) (handle : List ℕ) (g : Going X) → Goes g (get_told r handle g).going
  get_told_goes (Err status) handle g = stays g g refl refl
  get_told_goes (Ok file) handle g = stays g g refl refl

  get_current_goes : (current : Option (List ℕ)) (g : Going X) → Goes g (get_current current g).going
  get_current_goes None g = stays g g refl refl
  get_current_goes (Some handle) g = get_told_goes (handle_file (length g.machine.store.volume.files) g.machine.store.tag handle) handle g

  pub get_by : (g : Going X) → Goes g (get g).going
  unfolding get
  get_by g = get_current_goes g.held.current g

  save_told_goes : (current : Option (List ℕ)) (g : Going X) → Goes g (save_told current g).going
  save_told_goes None g = stays g g refl refl
  save_told_goes (Some handle) g = by_none _ _ _ _ refl refl

  pub save_by : (g : Going X) → Goes g (save g).going
  unfolding save
  save_by g = save_told_goes g.held.current g

  restore_told_goes : (saved : Option (List ℕ)) (g : Going X) → Goes g (restore_told saved g).going
  restore_told_goes None g = stays g g refl refl
  restore_told_goes (Some handle) g = by_none _ _ _ _ refl refl

  pub restore_by : (g : Going X) → Goes g (restore g).going
  unfolding restore
  restore_by g = restore_told_goes g.held.saved g
