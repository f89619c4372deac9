-- What a source says of a READ under a grant, and of GETATTR under a context that confirms a copy.
use Rattle.std.specs.Prelude.{◌≡◌, ℕ, Bool, true, false, Option, Some, None, Result, Ok, List, if◌then◌else◌, refl}
use Rattle.std.proofs.Common.{ap, ◌∙◌}
use Rattle.copy_grants.specs.Permits.{is_shown, permit_of, permit_refusal, permit_table_of, cause_status, used}
use Rattle.file_ops.specs.declared.files.ReadArgs.{ReadArgs}
use Rattle.file_server.specs.Attributes.{attributes_file, attributes_if, attributes_of, attributes_refused, first_word, get_attributes}
use Rattle.file_server.specs.Handles.{byte_file, current_file}
use Rattle.file_server.specs.Machine.{Answered, Going, Rules, with_extra}
use Rattle.file_server.specs.Reading.{read, read_file, read_from, read_once, read_refusal, read_refused, read_unless}
use Rattle.file_server.specs.declared.extension.Caller.{Caller}
use Rattle.file_server.specs.declared.extension.Gate.TheVariants.{Serve, Refuse, Usual}
use Rattle.gss_ctx.specs.Seals.{Mic}
use Rattle.nfs_base.specs.declared.cause.Cause.{Cause}
use Rattle.nfs_base.specs.declared.status.Status.{Status}
use Rattle.nfs_base.specs.declared.status.TheConstants.Status.{ACCESS}
use Rattle.server_volume.specs.Choices.{Choice}
use Rattle.source_core.specs.Asking.{asked_by, gated, is_confirming, is_of_grant, no_id, permitted, read_by_grant, read_by_open}
use Rattle.source_core.specs.declared.carried.Carried.{Carried}
use Rattle.source_core.specs.declared.source.Source.{Source}

abbrev pub reading_rules : {M : Type 0} → Mic → Rules (Source M) (Option Carried)
reading_rules mic = record { gate = gated mic }

-- ---- READ

-- the grant is used, and nothing else of the source changes
abbrev pub with_use : {M : Type 0} → (number second : ℕ) → Going (Source M) → Going (Source M)
with_use number second g = with_extra (record g.machine.extra { grants = used number second g.machine.extra.grants }) g

-- the refusal is kept until it is told, and nothing else of the source changes
abbrev pub with_refusal : {M : Type 0} → Cause → Going (Source M) → Going (Source M)
with_refusal cause g = with_extra (record g.machine.extra { refusal = Some cause }) g

-- By the first row of the table of READs that holds; where none does, the volume is read.
abbrev pub read_permitted : {M : Type 0} → Option Cause → Choice → Caller → ReadArgs → (file : ℕ) → Going (Source M) → Answered (Source M)
read_permitted (Some cause) choice caller args file g = read_refused (with_refusal cause g) (cause_status cause)
read_permitted None choice caller args file g =
    read_from choice args.offset args.count file (with_use args.state_id.number caller.second g)

-- a READ of a file with a stateid of COPY_NOTIFY, the first of its compound
pub record IsReadOf {M : Type 0} (args : ReadArgs) (file : ℕ) (g : Going (Source M)) : Type 0 where
  pub first : g.has_read ≡ false
  pub current : byte_file g.machine.store g.held.current ≡ Ok file
  pub kind : is_of_grant args.state_id ≡ true

by_cause : {M : Type 0} (why : Option Cause) (choice : Choice) (caller : Caller) (args : ReadArgs) (file : ℕ) (g : Going (Source M))
    → (let said = permitted (permit_of why) (record g.machine.extra { grants = permit_table_of why g.machine.extra.grants args.state_id.number caller.second }) in
    read_unless (read_refusal said.1 g.machine.opens g.held.id args.state_id file) choice args.offset args.count file (with_extra said.0 g))
    ≡ read_permitted why choice caller args file g
by_cause None choice caller args file g = refl
by_cause (Some cause) choice caller args file g = refl

pub read_is : {M : Type 0} (mic : Mic) (choice : Choice) (caller : Caller) (carry : Option Carried) (args : ReadArgs) (file : ℕ) (g : Going (Source M))
    → IsReadOf args file g
    → read (reading_rules mic) choice caller carry args g
    ≡ read_permitted (permit_refusal mic g.machine.extra.grants caller.second (asked_by carry args.state_id file)) choice caller args file g
unfolding read
read_is {M} mic choice caller carry args file g is =
    let rules = reading_rules {M = M} mic in
    let asked = asked_by carry args.state_id file in
    let x = g.machine.extra in
    ap (λ (has_read : Bool). read_once has_read rules choice caller carry args g) is.first
    ∙ ap (λ (current : Result ℕ Status). read_file rules choice caller carry args current g) is.current
    ∙ ap (λ (kind : Bool).
    let said = if kind then read_by_grant mic caller.second asked x else (x, read_by_open carry) in
    read_unless (read_refusal said.1 g.machine.opens g.held.id args.state_id file) choice args.offset args.count file (with_extra said.0 g))
    is.kind
    ∙ by_cause (permit_refusal mic x.grants caller.second asked) choice caller args file g

-- ---- GETATTR

abbrev pub attributes_shown : {M : Type 0} → (shown : Bool) → (mask file : ℕ) → Going (Source M) → Answered (Source M)
attributes_shown true mask file g = attributes_of mask file g
attributes_shown false mask file g = attributes_refused g ACCESS

by_showing : {M : Type 0} (shown : Bool) (mask file : ℕ) (g : Going (Source M))
    → attributes_if (if shown then Serve else Refuse ACCESS) mask file g ≡ attributes_shown shown mask file g
by_showing true mask file g = refl
by_showing false mask file g = refl

pub attributes_are : {M : Type 0} (mic : Mic) (caller : Caller) (carry : Option Carried) (mask : List ℕ) (file : ℕ) (g : Going (Source M))
    → is_confirming carry ≡ true → current_file g.machine.store g.held.current ≡ Ok file
    → get_attributes (reading_rules mic) caller carry mask g
    ≡ attributes_shown (is_shown mic g.machine.extra.grants caller.second (asked_by carry no_id file)) (first_word mask) file g
unfolding get_attributes
attributes_are {M} mic caller carry mask file g confirming current =
    let rules = reading_rules {M = M} mic in
    let shown = is_shown mic g.machine.extra.grants caller.second (asked_by carry no_id file) in
    ap (λ (current : Result ℕ Status). attributes_file rules caller carry (first_word mask) current g) current
    ∙ ap (λ (confirms : Bool). attributes_if (if confirms then (if shown then Serve else Refuse ACCESS) else Usual) (first_word mask) file g) confirming
    ∙ by_showing shown (first_word mask) file g
