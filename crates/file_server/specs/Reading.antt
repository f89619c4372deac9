-- READ (RFC 8881 section 18.22). Its tests in their order: it is the only READ of its compound (own), the current handle,
-- what the server's extension says, the stateid, the volume.
use Rattle.std.specs.Prelude.{ℕ, ◌-◌, ◌==◌, Bool, true, false, min, Option, Some, None, Result, Ok, Err, List, length}
use Rattle.copy_model.specs.Volume.{file_at, bytes_at}
use Rattle.block_file.specs.declared.faults.ReadFault.{ReadFault}
use Rattle.nfs_base.specs.declared.answer.Answer.TheVariants.{Done, Refused}
use Rattle.nfs_base.specs.declared.limits.TheConstants.{DATA_LIMIT}
use Rattle.nfs_base.specs.declared.state_id.StateId.{StateId}
use Rattle.nfs_base.specs.declared.status.Status.{Status}
use Rattle.nfs_base.specs.declared.status.TheConstants.Status.{IO, REP_TOO_BIG}
use Rattle.file_ops.specs.declared.files.ReadArgs.{ReadArgs}
use Rattle.file_ops.specs.declared.results.FileRes.TheVariants as results
use Rattle.state_ids.specs.Opens.{OpenTable}
use Rattle.state_ids.specs.declared.access.Access.TheVariants as access
use Rattle.server_volume.specs.Choices.{Choice}
use Rattle.server_volume.specs.Calls.{read_call}
use Rattle.file_server.specs.declared.extension.Ask.TheVariants as ask
use Rattle.file_server.specs.declared.extension.Caller.{Caller}
use Rattle.file_server.specs.declared.extension.Gate.{Gate}
use Rattle.file_server.specs.declared.extension.Gate.TheVariants as gate
use Rattle.file_server.specs.Handles.{byte_file}
use Rattle.file_server.specs.Machine.{Going, Answered, Rules, with_call, with_extra}
use Rattle.file_server.specs.Answering.{answered, meant_id, open_refusal}

abbrev pub read_refused : {X : Type 0} → Going X → Status → Answered X
read_refused g status = answered g (results.Read (Refused status))

-- how many bytes are given of a file of this size: at most 65,536, up to its end
abbrev pub read_length : (size off count : ℕ) → ℕ
read_length size off count = min (min count DATA_LIMIT) (size - off)

-- whether nothing of the file is left behind these bytes
abbrev pub read_eof : (size off count : ℕ) → Bool
read_eof size off count = read_length size off count == size - off

abbrev pub read_told : {X : Type 0} → Option ReadFault → Bool → List ℕ → Going X → Answered X
read_told (Some fault) eof bytes g = read_refused g IO
read_told None eof bytes g = answered (record g { has_read = true }) (results.Read (Done (record { eof = eof; bytes = bytes })))

-- so many bytes of a file, and whether it ends with them
abbrev pub read_bytes : {X : Type 0} → Choice → (off len : ℕ) → Bool → (file : ℕ) → Going X → Answered X
read_bytes choice off len eof file g =
    let c = read_call choice g.used g.machine.store file off len in
    read_told c.fault eof (bytes_at (file_at g.machine.store.volume file).now off len) (with_call c g)

abbrev pub read_sized : {X : Type 0} → Choice → (size off count file : ℕ) → Going X → Answered X
read_sized choice size off count file g = read_bytes choice off (read_length size off count) (read_eof size off count) file g

abbrev pub read_from : {X : Type 0} → Choice → (off count file : ℕ) → Going X → Answered X
read_from choice off count file g = read_sized choice (length (file_at g.machine.store.volume file).now) off count file g

abbrev pub read_unless : {X : Type 0} → Option Status → Choice → (off count file : ℕ) → Going X → Answered X
read_unless (Some status) choice off count file g = read_refused g status
read_unless None choice off count file g = read_from choice off count file g

-- why a READ isn't let on
abbrev pub read_refusal : Gate → OpenTable → (current : Option StateId) → StateId → (file : ℕ) → Option Status
read_refusal gate.Serve opens current id file = None
read_refusal (gate.Refuse status) opens current id file = Some status
read_refusal gate.Usual opens current id file = open_refusal opens (meant_id current id) file access.Read

abbrev pub read_file : {X P : Type 0} → Rules X P → Choice → Caller → P → ReadArgs → Result ℕ Status → Going X → Answered X
read_file rules choice caller carry args (Err status) g = read_refused g status
read_file rules choice caller carry args (Ok file) g =
    let said = rules.gate g.machine.extra caller carry (ask.Read file args.state_id) in
    read_unless (read_refusal said.1 g.machine.opens g.held.id args.state_id file) choice args.offset args.count file (with_extra said.0 g)

abbrev pub read_once : {X P : Type 0} → Bool → Rules X P → Choice → Caller → P → ReadArgs → Going X → Answered X
read_once true rules choice caller carry args g = read_refused g REP_TOO_BIG
read_once false rules choice caller carry args g =
    read_file rules choice caller carry args (byte_file g.machine.store g.held.current) g

unfoldable pub read : {X P : Type 0} → Rules X P → Choice → Caller → P → ReadArgs → Going X → Answered X
read rules choice caller carry args g = read_once g.has_read rules choice caller carry args g
