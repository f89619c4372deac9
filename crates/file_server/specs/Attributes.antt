-- GETATTR (RFC 8881 section 18.7). Its tests in their order: the current handle, what the server's extension says. Four
-- attributes are served (section 5.8.1): type, change, size and lease time. Others are left out of the answer.
use Rattle.std.specs.Prelude.{ℕ, ◌==◌, Bool, true, false, not, Result, Ok, Err, List, [], ◌∷◌, ◌++◌, length, bit_and, if◌then◌else◌}
use Rattle.copy_model.specs.Volume.{Volume, file_at}
use Rattle.nfs_base.specs.declared.answer.Answer.TheVariants.{Done, Refused}
use Rattle.nfs_base.specs.declared.limits.TheConstants.{LEASE_SECONDS}
use Rattle.nfs_base.specs.declared.status.Status.{Status}
use Rattle.wire_xdr.specs.Words.{word_bytes, hyper_bytes}
use Rattle.file_ops.specs.declared.files.Attributes.{Attributes}
use Rattle.file_ops.specs.declared.files.TheConstants.{ATTR_TYPE, ATTR_CHANGE, ATTR_SIZE, ATTR_LEASE_TIME}
use Rattle.file_ops.specs.declared.results.FileRes.TheVariants as results
use Rattle.file_server.specs.declared.attributes.FileAttributes.{FileAttributes}
use Rattle.file_server.specs.declared.attributes.TheConstants.{ATTRS_SERVED, TYPE_FILE, TYPE_DIRECTORY}
use Rattle.file_server.specs.declared.extension.Ask.TheVariants as ask
use Rattle.file_server.specs.declared.extension.Caller.{Caller}
use Rattle.file_server.specs.declared.extension.Gate.{Gate}
use Rattle.file_server.specs.declared.extension.Gate.TheVariants as gate
use Rattle.file_server.specs.Handles.{current_file}
use Rattle.file_server.specs.Machine.{Going, Answered, Rules, with_extra}
use Rattle.file_server.specs.Answering.{answered}

-- ---- what is asked for

-- the first word of a bitmap, in which the bits of all that are served stand
abbrev pub first_word : List ℕ → ℕ
first_word [] = 0
first_word (word ∷ words) = word

-- whether an attribute is asked for, by the value of its bit
abbrev pub wants : (mask bit : ℕ) → Bool
wants mask bit = not (bit_and mask bit == 0)

-- the bitmap of those that are asked for and served: it has no word where there are none
abbrev pub mask_words : ℕ → List ℕ
mask_words mask = if mask == 0 then [] else mask ∷ []

abbrev pub served : ℕ → ℕ
served mask = bit_and mask ATTRS_SERVED

-- ---- what is told

-- the root has size 0 and change attribute 0 (own)
abbrev pub attributes_at : Volume → (file : ℕ) → FileAttributes
attributes_at v file =
    if file == 0
    then record { kind = TYPE_DIRECTORY; change = 0; size = 0 }
    else record { kind = TYPE_FILE; change = (file_at v file).change; size = length (file_at v file).now }

abbrev pub bytes_if : Bool → List ℕ → List ℕ
bytes_if true bytes = bytes
bytes_if false bytes = []

-- the values that are asked for, in the order of their bits
abbrev pub values_of : (mask : ℕ) → FileAttributes → List ℕ
values_of mask a =
    bytes_if (wants mask ATTR_TYPE) (word_bytes a.kind)
    ++ (bytes_if (wants mask ATTR_CHANGE) (hyper_bytes a.change)
    ++ (bytes_if (wants mask ATTR_SIZE) (hyper_bytes a.size)
    ++ bytes_if (wants mask ATTR_LEASE_TIME) (word_bytes LEASE_SECONDS)))

abbrev pub attributes_told : (mask : ℕ) → FileAttributes → Attributes
attributes_told mask a = record { mask = mask_words (served mask); values = values_of mask a }

-- ---- the operation

abbrev pub attributes_refused : {X : Type 0} → Going X → Status → Answered X
attributes_refused g status = answered g (results.GetAttr (Refused status))

abbrev pub attributes_of : {X : Type 0} → (mask file : ℕ) → Going X → Answered X
attributes_of mask file g = answered g (results.GetAttr (Done (attributes_told mask (attributes_at g.machine.store.volume file))))

abbrev pub attributes_if : {X : Type 0} → Gate → (mask file : ℕ) → Going X → Answered X
attributes_if (gate.Refuse status) mask file g = attributes_refused g status
attributes_if gate.Serve mask file g = attributes_of mask file g
attributes_if gate.Usual mask file g = attributes_of mask file g

abbrev pub attributes_file : {X P : Type 0} → Rules X P → Caller → P → (mask : ℕ) → Result ℕ Status → Going X → Answered X
attributes_file rules caller carry mask (Err status) g = attributes_refused g status
attributes_file rules caller carry mask (Ok file) g =
    let said = rules.gate g.machine.extra caller carry (ask.Attributes file) in
    attributes_if said.1 mask file (with_extra said.0 g)

unfoldable pub get_attributes : {X P : Type 0} → Rules X P → Caller → P → (asked : List ℕ) → Going X → Answered X
get_attributes rules caller carry asked g =
    attributes_file rules caller carry (first_word asked) (current_file g.machine.store g.held.current) g
