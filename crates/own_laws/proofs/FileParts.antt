-- The operations on files leave what a server adds, but for what READ and GETATTR ask of it.
use Rattle.std.proofs.Common.{◌≡◌, ℕ, Bool, true, false, List, Option, Some, None, Result, Ok, Err, length, refl, sym, subst}
use Rattle.block_file.specs.declared.faults.ReadFault.{ReadFault}
use Rattle.block_file.specs.declared.faults.WriteFault.{WriteFault}
use Rattle.file_ops.specs.declared.files.CloseArgs.{CloseArgs}
use Rattle.file_ops.specs.declared.files.ReadArgs.{ReadArgs}
use Rattle.file_ops.specs.declared.files.WriteArgs.{WriteArgs}
use Rattle.file_ops.specs.declared.opening.OpenArgs.{OpenArgs}
use Rattle.file_server.specs.Answering.{meant_id, open_refusal}
use Rattle.file_server.specs.Attributes.{attributes_file, attributes_if, first_word, get_attributes}
use Rattle.file_server.specs.Closing.{close, close_file, close_meant, close_told}
use Rattle.file_server.specs.Handles.{byte_file, current_file, handle_file}
use Rattle.file_server.specs.Machine.{Going, Rules, with_call, with_extra}
use Rattle.file_server.specs.Names.{file_named, lookup, lookup_told, lookup_unless, root_refusal}
use Rattle.file_server.specs.Opening.{access_of, file_opened, open_by_name, open_file, open_told, open_unless}
use Rattle.file_server.specs.Placing.{get, get_current, get_told, is_saved_next, put, put_root, put_tested, put_told, restore, restore_told, save, save_told}
use Rattle.file_server.specs.Reading.{read, read_once, read_file, read_refusal, read_told, read_unless}
use Rattle.file_server.specs.Writing.{commit, commit_file, commit_told, sync_written, taken_bytes, write, write_at, write_file, write_settled, write_synced, write_told, write_unless}
use Rattle.file_server.specs.declared.extension.Ask.{Ask}
use Rattle.file_server.specs.declared.extension.Ask.TheVariants as ask
use Rattle.file_server.specs.declared.extension.Caller.{Caller}
use Rattle.file_server.specs.declared.extension.Gate.{Gate}
use Rattle.file_server.specs.declared.extension.Gate.TheVariants as gate
use Rattle.nfs_base.specs.declared.state_id.StateId.{StateId}
use Rattle.nfs_base.specs.declared.status.Status.{Status}
use Rattle.nfs_base.specs.declared.written.Stability.{Stability}
use Rattle.nfs_base.specs.declared.written.Stability.TheVariants.{Unstable, DataSync, FileSync}
use Rattle.server_volume.specs.Calls.{commit_call, write_call}
use Rattle.server_volume.specs.Choices.{Choice}
use Rattle.state_ids.specs.Opens.{OpenTable, close_refusal, open_answer, open_table}
use Rattle.state_ids.specs.declared.access.Access.TheVariants as access
use Rattle.state_ids.specs.declared.opens.Full.{Full}

-- what the server adds is the same
abbrev pub Keeps : {X : Type 0} → Going X → Going X → Type 0
Keeps g h = h.machine.extra ≡ g.machine.extra

-- and no call is made
abbrev pub IsQuiet : {X : Type 0} → Going X → Going X → Type 0
IsQuiet g h = Keeps g h × (h.used ≡ g.used)

module _ {X : Type 0} where
  -- ---- COMMIT and WRITE

  commit_told_keeps : (why : Option ReadFault) (g : Going X) → Keeps g (commit_told why g).going
  commit_told_keeps (Some f) g = refl
  commit_told_keeps None g = refl

  commit_file_keeps : (choice : Choice) (r : Result ℕ Status) (g : Going X) → Keeps g (commit_file choice r g).going
  commit_file_keeps choice (Err status) g = refl
  commit_file_keeps choice (Ok file) g =
      let c = commit_call choice g.used g.machine.store file in commit_told_keeps c.fault (with_call c g)

  pub commit_keeps : (choice : Choice) (g : Going X) → Keeps g (commit choice g).going
  unfolding commit
  commit_keeps choice g = commit_file_keeps choice (byte_file g.machine.store g.held.current) g

  synced_keeps : (why : Option ReadFault) (count : ℕ) (g : Going X) → Keeps g (write_synced why count g).going
  synced_keeps (Some f) count g = refl
  synced_keeps None count g = refl

  sync_keeps : (choice : Choice) (file count : ℕ) (g : Going X) → Keeps g (sync_written choice file count g).going
  sync_keeps choice file count g =
      let c = commit_call choice g.used g.machine.store file in synced_keeps c.fault count (with_call c g)

  settled_keeps : (choice : Choice) (file count : ℕ) (how : Stability) (g : Going X) → Keeps g (write_settled choice file count how g).going
  settled_keeps choice file count Unstable g = refl
  settled_keeps choice file count DataSync g = sync_keeps choice file count g
  settled_keeps choice file count FileSync g = sync_keeps choice file count g

  write_told_keeps : (why : Option WriteFault) (choice : Choice) (file count : ℕ) (how : Stability) (g : Going X)
      → Keeps g (write_told why choice file count how g).going
  write_told_keeps (Some f) choice file count how g = refl
  write_told_keeps None choice file count how g = settled_keeps choice file count how g

  write_at_keeps : (choice : Choice) (off : ℕ) (bytes : List ℕ) (how : Stability) (file : ℕ) (g : Going X)
      → Keeps g (write_at choice off bytes how file g).going
  write_at_keeps choice off bytes how file g =
      let c = write_call choice g.used g.machine.store file off bytes in write_told_keeps c.fault choice file (length bytes) how (with_call c g)

  write_unless_keeps : (why : Option Status) (choice : Choice) (args : WriteArgs) (file : ℕ) (g : Going X)
      → Keeps g (write_unless why choice args file g).going
  write_unless_keeps (Some status) choice args file g = refl
  write_unless_keeps None choice args file g = write_at_keeps choice args.offset (taken_bytes args.bytes) args.stable file g

  write_file_keeps : (choice : Choice) (args : WriteArgs) (r : Result ℕ Status) (g : Going X) → Keeps g (write_file choice args r g).going
  write_file_keeps choice args (Err status) g = refl
  write_file_keeps choice args (Ok file) g =
      write_unless_keeps (open_refusal g.machine.opens (meant_id g.held.id args.state_id) file access.Write) choice args file g

  pub write_keeps : (choice : Choice) (args : WriteArgs) (g : Going X) → Keeps g (write choice args g).going
  unfolding write
  write_keeps choice args g = write_file_keeps choice args (byte_file g.machine.store g.held.current) g

  -- ---- CLOSE, OPEN and LOOKUP

  close_told_keeps : (why : Option Status) (id : StateId) (g : Going X) → IsQuiet g (close_told why id g).going
  close_told_keeps (Some status) id g = (refl, refl)
  close_told_keeps None id g = (refl, refl)

  close_meant_keeps : (id : Option StateId) (file : ℕ) (g : Going X) → IsQuiet g (close_meant id file g).going
  close_meant_keeps None file g = (refl, refl)
  close_meant_keeps (Some id) file g = close_told_keeps (close_refusal g.machine.opens id file) id g

  close_file_keeps : (id : StateId) (r : Result ℕ Status) (g : Going X) → IsQuiet g (close_file id r g).going
  close_file_keeps id (Err status) g = (refl, refl)
  close_file_keeps id (Ok file) g = close_meant_keeps (meant_id g.held.id id) file g

  pub close_keeps : (args : CloseArgs) (g : Going X) → IsQuiet g (close args g).going
  unfolding close
  close_keeps args g = close_file_keeps args.state_id (current_file g.machine.store g.held.current) g

  open_told_keeps : (r : Result StateId Full) (table : OpenTable) (file : ℕ) (g : Going X) → IsQuiet g (open_told r table file g).going
  open_told_keeps (Err full) table file g = (refl, refl)
  open_told_keeps (Ok id) table file g = (refl, refl)

  open_file_keeps : (client : ℕ) (args : OpenArgs) (r : Result ℕ Status) (g : Going X) → IsQuiet g (open_file client args r g).going
  open_file_keeps client args (Err status) g = (refl, refl)
  open_file_keeps client args (Ok file) g =
      open_told_keeps (open_answer g.machine.opens client args.owner file) (open_table g.machine.opens client args.owner file (access_of args.access)) file g

  open_unless_keeps : (why : Option Status) (client : ℕ) (args : OpenArgs) (g : Going X) → IsQuiet g (open_unless why client args g).going
  open_unless_keeps (Some status) client args g = (refl, refl)
  open_unless_keeps None client args g = open_file_keeps client args (file_opened (length g.machine.store.volume.files) args) g

  pub open_keeps : (caller : Caller) (args : OpenArgs) (g : Going X) → IsQuiet g (open_by_name caller args g).going
  unfolding open_by_name
  open_keeps caller args g = open_unless_keeps (root_refusal (current_file g.machine.store g.held.current)) caller.client args g

  lookup_told_keeps : (r : Result ℕ Status) (g : Going X) → IsQuiet g (lookup_told r g).going
  lookup_told_keeps (Err status) g = (refl, refl)
  lookup_told_keeps (Ok file) g = (refl, refl)

  lookup_unless_keeps : (why : Option Status) (name : List ℕ) (g : Going X) → IsQuiet g (lookup_unless why name g).going
  lookup_unless_keeps (Some status) name g = (refl, refl)
  lookup_unless_keeps None name g = lookup_told_keeps (file_named (length g.machine.store.volume.files) name) g

  pub lookup_keeps : (name : List ℕ) (g : Going X) → IsQuiet g (lookup name g).going
  unfolding lookup
  lookup_keeps name g = lookup_unless_keeps (root_refusal (current_file g.machine.store g.held.current)) name g

  -- ---- the operations on handles

  pub put_root_keeps : (g : Going X) → IsQuiet g (put_root g).going
  unfolding put_root
  put_root_keeps g = (refl, refl)

  put_told_keeps : (handle : List ℕ) (r : Result ℕ Status) (g : Going X) → IsQuiet g (put_told handle r g).going
  put_told_keeps handle (Err status) g = (refl, refl)
  put_told_keeps handle (Ok file) g = (refl, refl)

  put_tested_keeps : (saved : Bool) (handle : List ℕ) (g : Going X) → IsQuiet g (put_tested saved handle g).going
  put_tested_keeps true handle g = (refl, refl)
  put_tested_keeps false handle g = put_told_keeps handle (handle_file (length g.machine.store.volume.files) g.machine.store.tag handle) g

  pub put_keeps : (next : Option ℕ) (handle : List ℕ) (g : Going X) → IsQuiet g (put next handle g).going
  unfolding put
  put_keeps next handle g = put_tested_keeps (is_saved_next next) handle g

  get_told_keeps : (r : Result ℕ Status) (handle : List ℕ) (g : Going X) → IsQuiet g (get_told r handle g).going
  get_told_keeps (Err status) handle g = (refl, refl)
  get_told_keeps (Ok file) handle g = (refl, refl)

  get_current_keeps : (current : Option (List ℕ)) (g : Going X) → IsQuiet g (get_current current g).going
  get_current_keeps None g = (refl, refl)
  get_current_keeps (Some handle) g = get_told_keeps (handle_file (length g.machine.store.volume.files) g.machine.store.tag handle) handle g

  pub get_keeps : (g : Going X) → IsQuiet g (get g).going
  unfolding get
  get_keeps g = get_current_keeps g.held.current g

  save_told_keeps : (current : Option (List ℕ)) (g : Going X) → IsQuiet g (save_told current g).going
  save_told_keeps None g = (refl, refl)
  save_told_keeps (Some handle) g = (refl, refl)

  pub save_keeps : (g : Going X) → IsQuiet g (save g).going
  unfolding save
  save_keeps g = save_told_keeps g.held.current g

  restore_told_keeps : (saved : Option (List ℕ)) (g : Going X) → IsQuiet g (restore_told saved g).going
  restore_told_keeps None g = (refl, refl)
  restore_told_keeps (Some handle) g = (refl, refl)

  pub restore_keeps : (g : Going X) → IsQuiet g (restore g).going
  unfolding restore
  restore_keeps g = restore_told_keeps g.held.saved g

  -- ---- READ and GETATTR, behind what the server says

  read_told_keeps : (why : Option ReadFault) (eof : Bool) (bytes : List ℕ) (g : Going X) → Keeps g (read_told why eof bytes g).going
  read_told_keeps (Some f) eof bytes g = refl
  read_told_keeps None eof bytes g = refl

  read_unless_keeps : (why : Option Status) (choice : Choice) (off count file : ℕ) (g : Going X) → Keeps g (read_unless why choice off count file g).going
  read_unless_keeps (Some status) choice off count file g = refl
  read_unless_keeps None choice off count file g = read_told_keeps _ _ _ _

  attributes_if_keeps : (said : Gate) (mask file : ℕ) (g : Going X) → IsQuiet g (attributes_if said mask file g).going
  attributes_if_keeps (gate.Refuse status) mask file g = (refl, refl)
  attributes_if_keeps gate.Serve mask file g = (refl, refl)
  attributes_if_keeps gate.Usual mask file g = (refl, refl)

  module _ {P : Type 0} (rules : Rules X P) (goes : X → X → Type 0) (same : (x : X) → goes x x)
      (gates : (x : X) (caller : Caller) (carry : P) (ask : Ask) → goes x (rules.gate x caller carry ask).0) (caller : Caller) (carry : P) where
    abbrev Goes : Going X → Going X → Type 0
    Goes g h = goes g.machine.extra h.machine.extra

    read_file_goes : (choice : Choice) (args : ReadArgs) (r : Result ℕ Status) (g : Going X) → Goes g (read_file rules choice caller carry args r g).going
    read_file_goes choice args (Err status) g = same g.machine.extra
    read_file_goes choice args (Ok file) g =
        let said = rules.gate g.machine.extra caller carry (ask.Read file args.state_id) in
        let h = with_extra said.0 g in
        subst (λ y. goes g.machine.extra y)
        (sym (read_unless_keeps (read_refusal said.1 g.machine.opens g.held.id args.state_id file) choice args.offset args.count file h))
        (gates g.machine.extra caller carry (ask.Read file args.state_id))

    read_once_goes : (again : Bool) (choice : Choice) (args : ReadArgs) (g : Going X) → Goes g (read_once again rules choice caller carry args g).going
    read_once_goes true choice args g = same g.machine.extra
    read_once_goes false choice args g = read_file_goes choice args (byte_file g.machine.store g.held.current) g

    pub read_goes : (choice : Choice) (args : ReadArgs) (g : Going X) → Goes g (read rules choice caller carry args g).going
    unfolding read
    read_goes choice args g = read_once_goes g.has_read choice args g

    attributes_file_goes : (mask : ℕ) (r : Result ℕ Status) (g : Going X) → Goes g (attributes_file rules caller carry mask r g).going
    attributes_file_goes mask (Err status) g = same g.machine.extra
    attributes_file_goes mask (Ok file) g =
        let said = rules.gate g.machine.extra caller carry (ask.Attributes file) in
        subst (λ y. goes g.machine.extra y) (sym (attributes_if_keeps said.1 mask file (with_extra said.0 g)).0)
        (gates g.machine.extra caller carry (ask.Attributes file))

    pub attributes_go : (asked : List ℕ) (g : Going X) → Goes g (get_attributes rules caller carry asked g).going
    unfolding get_attributes
    attributes_go asked g = attributes_file_goes (first_word asked) (current_file g.machine.store g.held.current) g

  module _ {P : Type 0} (rules : Rules X P) (caller : Caller) (carry : P) where
    attributes_file_calls_none : (mask : ℕ) (r : Result ℕ Status) (g : Going X) → (attributes_file rules caller carry mask r g).going.used ≡ g.used
    attributes_file_calls_none mask (Err status) g = refl
    attributes_file_calls_none mask (Ok file) g =
        let said = rules.gate g.machine.extra caller carry (ask.Attributes file) in
        (attributes_if_keeps said.1 mask file (with_extra said.0 g)).1

    pub attributes_call_none : (asked : List ℕ) (g : Going X) → (get_attributes rules caller carry asked g).going.used ≡ g.used
    unfolding get_attributes
    attributes_call_none asked g = attributes_file_calls_none (first_word asked) (current_file g.machine.store g.held.current) g
