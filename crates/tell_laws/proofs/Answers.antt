-- What READ and GETATTR answer of a volume.
use Rattle.std.proofs.Common.{◌≡◌, ◌⊎◌, inl, inr, ℕ, ◌≤◌, Bool, true, false, List, length, Option, Some, None, Result, Ok, Err, refl, sym, ap, subst, arith}
use Rattle.std.specs.Prelude.{◌==◌, ◌||◌, min, nat_le, nat_lt, if◌then◌else◌, bit_and, ◌-◌}
use Rattle.block_file.specs.declared.faults.ReadFault.{ReadFault}
use Rattle.block_file.specs.declared.faults.ReadFault.TheVariants as reading
use Rattle.copy_model.specs.Volume.{Volume, bytes_at, file_at}
use Rattle.file_ops.specs.declared.files.ReadArgs.{ReadArgs}
use Rattle.file_ops.specs.declared.files.ReadDone.{ReadDone}
use Rattle.file_ops.specs.declared.results.FileRes.{FileRes}
use Rattle.file_ops.specs.declared.results.FileRes.TheVariants as files
use Rattle.file_server.specs.Answering.{meant_id, open_refusal}
use Rattle.file_server.specs.Attributes.{attributes_at, attributes_file, attributes_if, attributes_told, first_word, get_attributes}
use Rattle.file_server.specs.Handles.{byte_file, current_file, file_in, handle_file, tag_in, unless_root}
use Rattle.file_server.specs.Machine.{Going, Rules, with_call, with_extra}
use Rattle.file_server.specs.Reading.{read, read_bytes, read_eof, read_file, read_length, read_once, read_refusal, read_told, read_unless}
use Rattle.file_server.specs.declared.extension.Ask.{Ask}
use Rattle.file_server.specs.declared.extension.Ask.TheVariants as ask
use Rattle.file_server.specs.declared.extension.Caller.{Caller}
use Rattle.file_server.specs.declared.extension.Gate.{Gate}
use Rattle.file_server.specs.declared.extension.Gate.TheVariants as gate
use Rattle.nfs_base.specs.declared.answer.Answer.TheVariants.{Done, Refused}
use Rattle.nfs_base.specs.declared.limits.TheConstants.{DATA_LIMIT}
use Rattle.nfs_base.specs.declared.state_id.StateId.{StateId}
use Rattle.nfs_base.specs.declared.status.Status.{Status}
use Rattle.nfs_base.specs.declared.status.TheConstants.Status as statuses
use Rattle.server_volume.specs.Calls as calls
use Rattle.server_volume.specs.Calls.{Asked, broken_fault, called, read_call}
use Rattle.server_volume.specs.Choices.{Choice, Fate}
use Rattle.server_volume.specs.Store.{Store}
use Rattle.server_volume.specs.declared.used.Used.{Used}
use Rattle.slot_laws.specs.Fronts.{IsFailure}
use Rattle.state_ids.specs.Opens.{OpenTable, access_bit, access_refusal, check_refusal_of, first_refusal, named_open, seqid_refusal}
use Rattle.state_ids.specs.declared.access.Access.{Access}
use Rattle.state_ids.specs.declared.access.Access.TheVariants as access
use Rattle.state_ids.specs.declared.open_file.OpenFile.{OpenFile}

-- ---- each refusal is by a failure

abbrev pub FailsIf : Option Status → Type 0
FailsIf None = Unit {0}
FailsIf (Some status) = IsFailure status.number

-- what the server's extension says
abbrev pub FailsGate : Gate → Type 0
FailsGate (gate.Refuse status) = IsFailure status.number
FailsGate gate.Serve = Unit {0}
FailsGate gate.Usual = Unit {0}

pub fails_gate : (said : Gate) → ((status : Status) → said ≡ gate.Refuse status → IsFailure status.number) → FailsGate said
fails_gate (gate.Refuse status) fails = fails status refl
fails_gate gate.Serve fails = tt
fails_gate gate.Usual fails = tt

seqid_fails : (a b : Bool) → FailsIf (if a then None else (if b then Some statuses.OLD_STATEID else Some statuses.BAD_STATEID))
seqid_fails true b = tt
seqid_fails false true = (omega arith, λ e. omega (arith, e))
seqid_fails false false = (omega arith, λ e. omega (arith, e))

access_fails : (b : Bool) → FailsIf (if b then Some statuses.OPENMODE else None)
access_fails true = (omega arith, λ e. omega (arith, e))
access_fails false = tt

first_fails : (first second : Option Status) → FailsIf first → FailsIf second → FailsIf (first_refusal first second)
first_fails None second fails more = more
first_fails (Some status) second fails more = fails

check_fails : (found : Option OpenFile) (seqid : ℕ) (need : Access) → FailsIf (check_refusal_of found seqid need)
check_fails None seqid need = (omega arith, λ e. omega (arith, e))
check_fails (Some o) seqid need =
    first_fails (seqid_refusal seqid o.seqid) (access_refusal o.access need)
    (seqid_fails ((seqid == 0) || (seqid == o.seqid)) (nat_lt seqid o.seqid)) (access_fails (bit_and o.access (access_bit need) == 0))

open_fails : (opens : OpenTable) (id : Option StateId) (file : ℕ) (need : Access) → FailsIf (open_refusal opens id file need)
open_fails opens None file need = (omega arith, λ e. omega (arith, e))
open_fails opens (Some id) file need = check_fails (named_open opens id file) id.seqid need

refusal_fails : (said : Gate) (opens : OpenTable) (current : Option StateId) (id : StateId) (file : ℕ) → FailsGate said → FailsIf (read_refusal said opens current id file)
refusal_fails gate.Serve opens current id file fails = tt
refusal_fails (gate.Refuse status) opens current id file fails = fails
refusal_fails gate.Usual opens current id file fails = open_fails opens (meant_id current id) file access.Read

-- ---- the file that a handle names

abbrev pub NamesRight : List ℕ → Result ℕ Status → Type 0
NamesRight handle (Ok file) = file ≡ file_in handle
NamesRight handle (Err status) = IsFailure status.number

handle_test : (handle : List ℕ) (sized past tagged : Bool)
    → NamesRight handle (if sized then (if past then Err statuses.BADHANDLE else (if tagged then Ok (file_in handle) else Err statuses.STALE)) else Err statuses.BADHANDLE)
handle_test handle false past tagged = (omega arith, λ e. omega (arith, e))
handle_test handle true true tagged = (omega arith, λ e. omega (arith, e))
handle_test handle true false true = refl
handle_test handle true false false = (omega arith, λ e. omega (arith, e))

pub handle_right : (count tag : ℕ) (handle : List ℕ) → NamesRight handle (handle_file count tag handle)
handle_right count tag handle = handle_test handle (length handle == 12) (nat_le count (file_in handle)) (tag_in handle == tag)

current_right : (s : Store) (current : Option (List ℕ)) (handle : List ℕ) → current ≡ Some handle → NamesRight handle (current_file s current)
current_right s current handle is =
    subst (λ (c : Option (List ℕ)). NamesRight handle (current_file s c)) (sym is) (handle_right (length s.volume.files) s.tag handle)

root_test : (handle : List ℕ) (file : ℕ) (root : Bool) → file ≡ file_in handle → NamesRight handle (if root then Err statuses.ISDIR else Ok file)
root_test handle file true is = (omega arith, λ e. omega (arith, e))
root_test handle file false is = is

unless_right : (handle : List ℕ) (r : Result ℕ Status) → NamesRight handle r → NamesRight handle (unless_root r)
unless_right handle (Ok file) is = root_test handle file (file == 0) is
unless_right handle (Err status) fails = fails

byte_right : (s : Store) (current : Option (List ℕ)) (handle : List ℕ) → current ≡ Some handle → NamesRight handle (byte_file s current)
byte_right s current handle is = unless_right handle (current_file s current) (current_right s current handle is)

-- ---- READ

-- these are bytes of a file of a volume that isn't broken
pub record IsData (v : Volume) (file off : ℕ) (bytes : List ℕ) : Type 0 where
  pub whole : v.broken ≡ false
  pub len : ℕ
  pub few : len ≤ DATA_LIMIT
  pub is : bytes ≡ bytes_at (file_at v file).now off len

abbrev pub ReadsRight : Volume → (file off : ℕ) → FileRes → Type 0
ReadsRight v file off res =
    ((status : Status) × ((res ≡ files.Read (Refused status)) × IsFailure status.number))
    ⊎ ((d : ReadDone) × ((res ≡ files.Read (Done d)) × IsData v file off d.bytes))

whole_call : (broken : Bool) (fate : Fate) (asked : Asked) (used : List Used) (s : Store)
    → (called (broken_fault broken) reading.DiskFailed fate asked used s).fault ≡ None → broken ≡ false
whole_call true fate asked used s none = absurd cc
whole_call false fate asked used s none = refl

few_bytes : (size off count : ℕ) → read_length size off count ≤ DATA_LIMIT
few_bytes size off count = few_of count (size - off)
  where
    few_of : (count left : ℕ) → min (min count DATA_LIMIT) left ≤ DATA_LIMIT
    few_of count left = omega arith

module _ {X : Type 0} (store : Store) (off : ℕ) where
  told_right : (file : ℕ) (why : Option ReadFault) (eof : Bool) (bytes : List ℕ) (g : Going X) → (why ≡ None → IsData store.volume file off bytes)
      → ReadsRight store.volume file off (read_told why eof bytes g).res
  told_right file (Some f) eof bytes g whole = inl (statuses.IO, (refl, (omega arith, λ e. omega (arith, e))))
  told_right file None eof bytes g whole = inr (record { eof = eof; bytes = bytes }, (refl, whole refl))

  call_whole : (choice : Choice) (file len : ℕ) (g : Going X) → (read_call choice g.used g.machine.store file off len).fault ≡ None → g.machine.store.volume.broken ≡ false
  unfolding read_call
  call_whole choice file len g none =
      whole_call g.machine.store.volume.broken (choice (length g.used)) (calls.Reads file off len) g.used g.machine.store none

  bytes_right : (choice : Choice) (len : ℕ) (eof : Bool) (file : ℕ) (g : Going X) → g.machine.store ≡ store → len ≤ DATA_LIMIT
      → ReadsRight store.volume file off (read_bytes choice off len eof file g).res
  bytes_right choice len eof file g same few =
      let c = read_call choice g.used g.machine.store file off len in
      told_right file c.fault eof (bytes_at (file_at g.machine.store.volume file).now off len) (with_call c g)
      (λ none. record {
        whole = subst (λ (s : Store). s.volume.broken ≡ false) same (call_whole choice file len g none);
        len = len;
        few = few;
        is = ap (λ (s : Store). bytes_at (file_at s.volume file).now off len) same;
      })

  unless_reads : (why : Option Status) (choice : Choice) (count file : ℕ) (g : Going X) → FailsIf why → g.machine.store ≡ store
      → ReadsRight store.volume file off (read_unless why choice off count file g).res
  unless_reads (Some status) choice count file g fails same = inl (status, (refl, fails))
  unless_reads None choice count file g fails same =
      let size = length (file_at g.machine.store.volume file).now in
      bytes_right choice (read_length size off count) (read_eof size off count) file g same (few_bytes size off count)

-- a server's extension that refuses by failures
abbrev pub GateFails : {X P : Type 0} → Rules X P → Type 0
GateFails {X} {P} rules = (x : X) (caller : Caller) (carry : P) (asked : Ask) → FailsGate (rules.gate x caller carry asked).1

module _ {X P : Type 0} (rules : Rules X P) (fails : GateFails rules) (store : Store) (handle : List ℕ) (caller : Caller) (carry : P) where
  file_reads : (choice : Choice) (args : ReadArgs) (r : Result ℕ Status) (g : Going X) → NamesRight handle r → g.machine.store ≡ store
      → ReadsRight store.volume (file_in handle) args.offset (read_file rules choice caller carry args r g).res
  file_reads choice args (Err status) g named same = inl (status, (refl, named))
  file_reads choice args (Ok file) g named same =
      let said = rules.gate g.machine.extra caller carry (ask.Read file args.state_id) in
      let refusal = read_refusal said.1 g.machine.opens g.held.id args.state_id file in
      let res = (read_unless refusal choice args.offset args.count file (with_extra said.0 g)).res in
      subst (λ f. ReadsRight store.volume f args.offset res) named
      (unless_reads store args.offset refusal choice args.count file (with_extra said.0 g)
      (refusal_fails said.1 g.machine.opens g.held.id args.state_id file (fails g.machine.extra caller carry (ask.Read file args.state_id))) same)

  once_reads : (again : Bool) (choice : Choice) (args : ReadArgs) (g : Going X) → g.machine.store ≡ store → g.held.current ≡ Some handle
      → ReadsRight store.volume (file_in handle) args.offset (read_once again rules choice caller carry args g).res
  once_reads true choice args g same held = inl (statuses.REP_TOO_BIG, (refl, (omega arith, λ e. omega (arith, e))))
  once_reads false choice args g same held =
      file_reads choice args (byte_file g.machine.store g.held.current) g (byte_right g.machine.store g.held.current handle held) same

  pub reads_right : (choice : Choice) (args : ReadArgs) (g : Going X) → g.machine.store ≡ store → g.held.current ≡ Some handle
      → ReadsRight store.volume (file_in handle) args.offset (read rules choice caller carry args g).res
  unfolding read
  reads_right choice args g same held = once_reads g.has_read choice args g same held

-- ---- GETATTR

abbrev pub AttributesRight : Volume → (file mask : ℕ) → FileRes → Type 0
AttributesRight v file mask res =
    ((status : Status) × ((res ≡ files.GetAttr (Refused status)) × IsFailure status.number))
    ⊎ (res ≡ files.GetAttr (Done (attributes_told mask (attributes_at v file))))

module _ {X P : Type 0} (rules : Rules X P) (fails : GateFails rules) (store : Store) (handle : List ℕ) (caller : Caller) (carry : P) where
  if_right : (said : Gate) (mask file : ℕ) (g : Going X) → FailsGate said → g.machine.store ≡ store
      → AttributesRight store.volume file mask (attributes_if said mask file g).res
  if_right (gate.Refuse status) mask file g failing same = inl (status, (refl, failing))
  if_right gate.Serve mask file g failing same = inr (ap (λ (s : Store). files.GetAttr (Done (attributes_told mask (attributes_at s.volume file)))) same)
  if_right gate.Usual mask file g failing same = inr (ap (λ (s : Store). files.GetAttr (Done (attributes_told mask (attributes_at s.volume file)))) same)

  file_right : (mask : ℕ) (r : Result ℕ Status) (g : Going X) → NamesRight handle r → g.machine.store ≡ store
      → AttributesRight store.volume (file_in handle) mask (attributes_file rules caller carry mask r g).res
  file_right mask (Err status) g named same = inl (status, (refl, named))
  file_right mask (Ok file) g named same =
      let said = rules.gate g.machine.extra caller carry (ask.Attributes file) in
      subst (λ f. AttributesRight store.volume f mask (attributes_if said.1 mask file (with_extra said.0 g)).res) named
      (if_right said.1 mask file (with_extra said.0 g) (fails g.machine.extra caller carry (ask.Attributes file)) same)

  pub attributes_right : (asked : List ℕ) (g : Going X) → g.machine.store ≡ store → g.held.current ≡ Some handle
      → AttributesRight store.volume (file_in handle) (first_word asked) (get_attributes rules caller carry asked g).res
  unfolding get_attributes
  attributes_right asked g same held =
      file_right (first_word asked) (current_file g.machine.store g.held.current) g (current_right g.machine.store g.held.current handle held) same
