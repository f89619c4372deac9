-- What a step tells is right of the volume before it.
use Rattle.std.proofs.Common.{◌≡◌, inl, inr, ℕ, ◌+◌, ◌<◌, ◌≤◌, ◌^◌, false, List, [], ◌∷◌, ◌++◌, length, Option, Some, None, Ok, refl, sym, ap, subst, ◌∙◌, arith}
use Rattle.std.specs.Prelude.{max, option_and_then, slice_get}
use Rattle.std.specs.List.{AllByRecursion, flat_map}
use Rattle.std.proofs.lemmas.Grind.{flat_map-append}
use Rattle.call_results.specs.Results.{at, told_bytes, told_change, told_size}
use Rattle.copy_model.specs.Volume.{Volume, byte_at, bytes_at, file_at}
use Rattle.file_ops.specs.declared.args.FileArg.TheVariants as args
use Rattle.file_ops.specs.declared.files.ReadArgs.{ReadArgs}
use Rattle.file_ops.specs.declared.files.TheConstants.{ATTR_CHANGE}
use Rattle.file_ops.specs.declared.results.FileRes.{FileRes}
use Rattle.file_ops.specs.declared.results.FileRes.TheVariants as files
use Rattle.file_ops.specs.declared.sessions.SequenceArgs.{SequenceArgs}
use Rattle.file_server.specs.Attributes.{attributes_at, attributes_told, values_of}
use Rattle.file_server.specs.Handles.{file_in}
use Rattle.file_server.specs.declared.extension.Caller.{Caller}
use Rattle.nfs_base.specs.declared.answer.Answer.TheVariants.{Done}
use Rattle.nfs_base.specs.declared.limits.TheConstants.{TEXT_LIMIT}
use Rattle.nfs_base.specs.declared.status.TheConstants.Status as statuses
use Rattle.nfs_compound.specs.Compounds.{IsCompound, compound_of}
use Rattle.nfs_compound.specs.Ops.{operation}
use Rattle.nfs_compound.specs.Results.{outcome, reply}
use Rattle.nfs_compound.specs.declared.compound.Compound.{Compound}
use Rattle.nfs_compound.specs.declared.op.Op.{Op}
use Rattle.nfs_compound.specs.declared.op.Op.TheVariants as ops
use Rattle.nfs_compound.specs.declared.reply.Reply.{Reply}
use Rattle.nfs_compound.specs.declared.res.Res.{Res}
use Rattle.nfs_compound.specs.declared.res.Res.TheVariants.{File}
use Rattle.server_volume.specs.Choices.{Choice}
use Rattle.server_volume.specs.Store.{Store}
use Rattle.slot_calls.specs.BytesLaws.{ops_are_bytes}
use Rattle.compound_server.specs.Compounds.{sequence_done}
use Rattle.compound_server.specs.Course.{Course, Service}
use Rattle.compound_server.specs.Performing.{file_done, file_rules, perform}
use Rattle.session_server.specs.Host.{Codes, HostState, Rules, Stepped}
use Rattle.session_server.specs.Steps.{who_calls}
use Rattle.wire_meaning.specs.Meaning.{asked_by, file_asked, meaning, ops_read, place_read, results_read, told_by}
use Rattle.wire_model.specs.CopyLaws.{TellsRight}
use Rattle.wire_model.specs.Meaning.{Place}
use Rattle.wire_model.specs.Wire.{Executed}
use Rattle.wire_xdr.specs.All.{value_of}
use Rattle.wire_xdr.specs.Cursor.{IsBytes}
use Rattle.server_laws.specs.Told.{IsTold, given_in}
use Rattle.tell_laws.specs.ReadBack.{ReadsBack}
use Rattle.tell_laws.specs.Telling.{FitsWords, RefusesByFailures}
use Rattle.tell_laws.proofs.Answers.{AttributesRight, GateFails, IsData, ReadsRight, attributes_right, fails_gate, reads_right}
use Rattle.tell_laws.proofs.Asked.{CHANGE_AND_SIZE, asks_attributes, asks_read}
use Rattle.tell_laws.proofs.CompoundTold.{IsSaid, SaysRight, compound_said}
use Rattle.tell_laws.proofs.Fits.{attributes_fit, attributes_refused_fits, put_fits, read_fits, read_refused_fits, sequence_fits}
use Rattle.tell_laws.proofs.WalkTold.{HasPut}
use Rattle.tell_laws.proofs.Words.{IsKnown, both_short, change_read, change_short, size_read}

-- ---- the third result is read back

short_none : (rs : List Res) → length rs ≤ 2 → slice_get rs 2 ≡ None
short_none [] few = refl
short_none (a ∷ []) few = refl
short_none (a ∷ b ∷ []) few = refl
short_none (a ∷ b ∷ c ∷ rs) few = absurd (omega (arith, few))

-- a result that answers, and says this
pub record SaysThird {T : Type 0} (answer : Res → Type 0) (told : Res → Option T) (x : T) : Type 0 where
  pub third : Res
  pub answers : answer third
  pub says : told third ≡ Some x

module _ (reads : ReadsBack) (answer : Res → Type 0) (fits : (r : Res) → answer r → outcome.Fits r) (a : SequenceArgs) (first_fits : operation.Fits (ops.File (args.Sequence a)))
    (most : ℕ) (bounded : most ≤ 2) (tag : List ℕ) (short : length tag ≤ TEXT_LIMIT) (body : List ℕ) (said : IsSaid tag (SaysRight answer a most) body) where
  module _ {T : Type 0} (told : Res → Option T) (x : T) where
    read_third : (s : SaysRight answer a most said.results) (v : Reply) → value_of reply body ≡ Some v → at 2 told v.results ≡ Some x → SaysThird answer told x
    read_third (inl few) v read h =
        let counted = (reads said.status tag said.results body v said.is short (omega (arith, few)) read).as_many in
        let none : slice_get v.results 2 ≡ None = short_none v.results (omega (arith, few, counted)) in
        absurd (let both : None ≡ Some x = sym (ap (option_and_then told) none) ∙ h in cc)
    read_third (inr s) v read h =
        let third = s.0 in
        let more = s.1.0 in
        let are = s.1.1.0 in
        let three : List Res = sequence_done a ∷ File (files.PutFh statuses.OK) ∷ third ∷ [] in
        let count : length said.results ≡ length (three ++ more) = ap (λ (rs : List Res). length rs) are in
        let few : length said.results < 2 ^ 32 = omega (arith, s.1.1.2, bounded, count) in
        let first =
        (reads said.status tag said.results body v said.is short few read).first three (flat_map outcome.spell more)
        (sequence_fits a first_fits, (put_fits, (fits third s.1.1.1, tt))) (omega (arith, count))
        (ap (λ (rs : List Res). flat_map outcome.spell rs) are ∙ flat_map-append outcome.spell three more) in
        record {
          third = third;
          answers = s.1.1.1;
          says = sym (ap (λ (rs : List Res). at 2 told rs) first.1) ∙ h;
        }

    read_value : (r : Option Reply) → value_of reply body ≡ r → at 2 told (results_read r) ≡ Some x → SaysThird answer told x
    read_value None read h = absurd cc
    read_value (Some v) read h = read_third said.said v read h

    pub says_third : at 2 told (told_by body) ≡ Some x → SaysThird answer told x
    says_third h = read_value (value_of reply body) refl h

-- ---- READ

abbrev ReadAnswers : Store → (file off : ℕ) → Res → Type 0
ReadAnswers store file off third = (r : FileRes) × ((third ≡ File r) × ReadsRight store.volume file off r)

-- what is known of bytes that are read
abbrev pub ReadLength : Type 0
ReadLength = (bytes : List ℕ) (off len : ℕ) → length (bytes_at bytes off len) ≡ len

abbrev pub ReadByte : Type 0
ReadByte = (bytes : List ℕ) (off len k : ℕ) → k < len → byte_at (bytes_at bytes off len) k ≡ byte_at bytes (off + k)

-- data are those bytes of a volume that isn't broken
abbrev pub DataRight : Volume → (file off : ℕ) → List ℕ → Type 0
DataRight v file off bytes = (v.broken ≡ false) × ((i : ℕ) → i < length bytes → byte_at bytes i ≡ byte_at (file_at v file).now (off + i))

some_bytes : (x y : List ℕ) → Some x ≡ Some y → x ≡ y
some_bytes x y same = cc

module _ (read_length : ReadLength) (read_byte : ReadByte) where
  data_length : (v : Volume) (file off : ℕ) (bytes : List ℕ) (d : IsData v file off bytes) → length bytes ≡ d.len
  data_length v file off bytes d = ap (λ (bs : List ℕ). length bs) d.is ∙ read_length (file_at v file).now off d.len

  data_right : (v : Volume) (file off : ℕ) (bytes : List ℕ) → IsData v file off bytes → DataRight v file off bytes
  data_right v file off bytes d =
      let same = data_length v file off bytes d in (
        d.whole,
        λ i below. ap (λ (bs : List ℕ). byte_at bs i) d.is ∙ read_byte (file_at v file).now off d.len i (omega (arith, below, same)),
      )

  read_answer_fits : (store : Store) (file off : ℕ) (third : Res) → ReadAnswers store file off third → outcome.Fits third
  read_answer_fits store file off third (r, (is, inl refusal)) =
      subst outcome.Fits (sym (is ∙ ap (λ (x : FileRes). File x) refusal.1.0)) (read_refused_fits refusal.0 refusal.1.1)
  read_answer_fits store file off third (r, (is, inr done)) =
      let few = done.1.1.few in
      let same = data_length store.volume file off done.0.bytes done.1.1 in
      subst outcome.Fits (sym (is ∙ ap (λ (x : FileRes). File x) done.1.0)) (read_fits done.0 (omega (arith, few, same)))

  read_says : (store : Store) (file off : ℕ) (third : Res) (bytes : List ℕ) → ReadAnswers store file off third → told_bytes third ≡ Some bytes
      → DataRight store.volume file off bytes
  read_says store file off third bytes (r, (is, inl refusal)) h =
      absurd (let none : None ≡ Some bytes = sym (ap told_bytes (is ∙ ap (λ (x : FileRes). File x) refusal.1.0)) ∙ h in cc)
  read_says store file off third bytes (r, (is, inr done)) h =
      let there : Some done.0.bytes ≡ Some bytes = sym (ap told_bytes (is ∙ ap (λ (x : FileRes). File x) done.1.0)) ∙ h in
      subst (DataRight store.volume file off) (some_bytes done.0.bytes bytes there) (data_right store.volume file off done.0.bytes done.1.1)

module _ {X C : Type 0} (v : Service X C) (fails : GateFails (file_rules v)) (store : Store) (handle : List ℕ) (choice : Choice) (caller : Caller) (carry : Option C) where
  pub read_answers : (a : ReadArgs) (next : Option ℕ) (d : Course X) → HasPut handle store d.going
      → ReadAnswers store (file_in handle) a.offset (perform v choice caller carry next (ops.File (args.Read a)) d).res
  unfolding perform file_done
  read_answers a next d put = (_, (refl, reads_right (file_rules v) fails store handle caller carry choice a d.going put.store_is put.held))

-- ---- GETATTR

abbrev AttributesAnswer : Store → (file word : ℕ) → Res → Type 0
AttributesAnswer store file word third = (r : FileRes) × ((third ≡ File r) × AttributesRight store.volume file word r)

told_fits : (store : Store) (file word : ℕ) → IsKnown word → outcome.Fits (File (files.GetAttr (Done (attributes_told word (attributes_at store.volume file)))))
told_fits store file word (inl is) =
    let a = attributes_at store.volume file in
    subst (λ w. outcome.Fits (File (files.GetAttr (Done (attributes_told w a))))) (sym is)
    (attributes_fit ATTR_CHANGE (values_of ATTR_CHANGE a) (omega arith) (change_short a))
told_fits store file word (inr is) =
    let a = attributes_at store.volume file in
    subst (λ w. outcome.Fits (File (files.GetAttr (Done (attributes_told w a))))) (sym is)
    (attributes_fit CHANGE_AND_SIZE (values_of CHANGE_AND_SIZE a) (omega arith) (both_short a))

attributes_answer_fits : (store : Store) (file word : ℕ) → IsKnown word → (third : Res) → AttributesAnswer store file word third → outcome.Fits third
attributes_answer_fits store file word known third (r, (is, inl refusal)) =
    subst outcome.Fits (sym (is ∙ ap (λ (x : FileRes). File x) refusal.1.0)) (attributes_refused_fits refusal.0 refusal.1.1)
attributes_answer_fits store file word known third (r, (is, inr done)) =
    subst outcome.Fits (sym (is ∙ ap (λ (x : FileRes). File x) done)) (told_fits store file word known)

size_says : (store : Store) (file word : ℕ) → FitsWords store.volume → IsKnown word → (third : Res) (size : ℕ) → AttributesAnswer store file word third
    → told_size third ≡ Some size → size ≡ length (file_at store.volume file).now
size_says store file word fits known third size (r, (is, inl refusal)) h =
    absurd (let none : None ≡ Some size = sym (ap told_size (is ∙ ap (λ (x : FileRes). File x) refusal.1.0)) ∙ h in cc)
size_says store file word fits known third size (r, (is, inr done)) h =
    size_read store.volume file word fits known size (sym (ap told_size (is ∙ ap (λ (x : FileRes). File x) done)) ∙ h)

change_says : (store : Store) (file word : ℕ) → FitsWords store.volume → IsKnown word → (third : Res) (change : ℕ) → AttributesAnswer store file word third
    → told_change third ≡ Some change → change ≡ (file_at store.volume file).change
change_says store file word fits known third change (r, (is, inl refusal)) h =
    absurd (let none : None ≡ Some change = sym (ap told_change (is ∙ ap (λ (x : FileRes). File x) refusal.1.0)) ∙ h in cc)
change_says store file word fits known third change (r, (is, inr done)) h =
    change_read store.volume file word fits known change (sym (ap told_change (is ∙ ap (λ (x : FileRes). File x) done)) ∙ h)

module _ {X C : Type 0} (v : Service X C) (fails : GateFails (file_rules v)) (store : Store) (handle : List ℕ) (choice : Choice) (caller : Caller) (carry : Option C) where
  pub attributes_answer : (word : ℕ) (next : Option ℕ) (d : Course X) → HasPut handle store d.going
      → AttributesAnswer store (file_in handle) word (perform v choice caller carry next (ops.File (args.GetAttr (word ∷ []))) d).res
  unfolding perform file_done
  attributes_answer word next d put = (_, (refl, attributes_right (file_rules v) fails store handle caller carry (word ∷ []) d.going put.store_is put.held))

-- ---- a step

abbrev pub Spelled : Type 0
Spelled = (bytes : List ℕ) (c : Compound) → IsBytes bytes → compound_of bytes ≡ Ok c → IsCompound c bytes

module _ (reads : ReadsBack) (read_length : ReadLength) (read_byte : ReadByte) (spelled : Spelled) {X C : Type 0} (rules : Rules X C) (failing : RefusesByFailures rules)
    (codes : Codes) (bytes : List ℕ) (are_bytes : IsBytes bytes) (now : ℕ) (s : HostState X C) (t : Stepped X C) (e : Executed)
    (told : IsTold rules codes bytes now s t e) where
  abbrev c : Compound
  c = told.step.compound

  abbrev store : Store
  store = s.state.machine.store

  abbrev body : List ℕ
  body = (given_in rules codes told.conn bytes (max s.second now) s t told.step).body

  fails : GateFails (file_rules rules.service)
  fails x caller carry asked = fails_gate (rules.service.gate x caller carry asked).1 (failing x caller carry asked)

  found : IsCompound c told.step.args
  found = spelled told.step.args c (subst IsBytes told.step.asked.ops_are (ops_are_bytes bytes are_bytes)) told.step.read

  asked_is : asked_by e.ops ≡ c.ops
  asked_is = ap asked_by told.ops ∙ ap ops_read told.step.read

  module _ (slot : SequenceArgs) (handle : List ℕ) (op : Op) (rest : List Op) (ops_are : c.ops ≡ ops.File (args.Sequence slot) ∷ ops.File (args.PutFh handle) ∷ op ∷ rest)
      (answer : Res → Type 0) (answers : (caller : Caller) (next : Option ℕ) (d : Course X) → HasPut handle store d.going
      → answer (perform rules.service told.step.choice caller told.step.asked.context.carry next op d).res) where
    first_fits : operation.Fits (ops.File (args.Sequence slot))
    first_fits = (subst (λ (os : List Op). AllByRecursion operation.Fits os) ops_are found.fits.ops.1).0

    said : IsSaid c.tag (SaysRight answer slot (length rest + 1)) body
    said =
        compound_said rules.service fails rules.parting told.step.choice
        (who_calls (max s.second now) told.conn (record { number = told.step.asked.number; seq = told.step.asked.seq }) told.step.asked.context)
        told.step.asked.context.principal told.step.asked.context.carry c.tag slot handle op rest answer store answers c refl ops_are s.state refl told.new

  read_told : (place : Place) (bytes_told : List ℕ) → place_read c.ops ≡ Some place → at 2 told_bytes (told_by body) ≡ Some bytes_told → DataRight store.volume place.file place.off bytes_told
  read_told place bytes_told asks h =
      let a = asks_read c.ops place asks in
      let answer : Res → Type 0 = ReadAnswers store (file_in a.handle) a.args_are.offset in
      let answers : (caller : Caller) (next : Option ℕ) (d : Course X) → HasPut a.handle store d.going
      → ReadAnswers store (file_in a.handle) a.args_are.offset (perform rules.service told.step.choice caller told.step.asked.context.carry next (ops.File (args.Read a.args_are)) d).res =
      λ caller next d put. read_answers rules.service fails store a.handle told.step.choice caller told.step.asked.context.carry a.args_are next d put in
      let third = says_third reads answer (read_answer_fits read_length read_byte store (file_in a.handle) a.args_are.offset) a.slot
      (first_fits a.slot a.handle (ops.File (args.Read a.args_are)) [] a.ops_are answer answers) 1 (omega arith) c.tag found.fits.tag body
      (said a.slot a.handle (ops.File (args.Read a.args_are)) [] a.ops_are answer answers) told_bytes bytes_told h in
      subst (λ (p : Place). DataRight store.volume p.file p.off bytes_told) a.place_is
      (read_says read_length read_byte store (file_in a.handle) a.args_are.offset third.third bytes_told third.answers third.says)

  attributes_said : (file : ℕ) → file_asked c.ops ≡ Some file → {T : Type 0} (field : Res → Option T) (x : T) → at 2 field (told_by body) ≡ Some x
      → (word : ℕ) × (IsKnown word × SaysThird (AttributesAnswer store file word) field x)
  attributes_said file asks field x h =
      let a = asks_attributes c.ops file asks in
      let answer : Res → Type 0 = AttributesAnswer store (file_in a.handle) a.word in
      let answers : (caller : Caller) (next : Option ℕ) (d : Course X) → HasPut a.handle store d.going
      → AttributesAnswer store (file_in a.handle) a.word (perform rules.service told.step.choice caller told.step.asked.context.carry next (ops.File (args.GetAttr (a.word ∷ []))) d).res =
      λ caller next d put. attributes_answer rules.service fails store a.handle told.step.choice caller told.step.asked.context.carry a.word next d put in
      let third = says_third reads answer (attributes_answer_fits store (file_in a.handle) a.word a.known) a.slot
      (first_fits a.slot a.handle (ops.File (args.GetAttr (a.word ∷ []))) a.rest a.ops_are answer answers) (length a.rest + 1) (omega (arith, a.few)) c.tag found.fits.tag body
      (said a.slot a.handle (ops.File (args.GetAttr (a.word ∷ []))) a.rest a.ops_are answer answers) field x h in
      (a.word, (a.known, subst (λ f. SaysThird (AttributesAnswer store f a.word) field x) a.file_is third))

  pub tells_right : FitsWords store.volume → TellsRight meaning store.volume e.ops e.results
  tells_right fits = record {
    read = λ place bytes_told asks h.
        read_told place bytes_told (sym (ap place_read asked_is) ∙ asks) (sym (ap (λ (r : List ℕ). at 2 told_bytes (told_by r)) told.results) ∙ h);
    size = λ file size asks h.
        let x = attributes_said file (sym (ap file_asked asked_is) ∙ asks) told_size size (sym (ap (λ (r : List ℕ). at 2 told_size (told_by r)) told.results) ∙ h) in
        size_says store file x.0 fits x.1.0 x.1.1.third size x.1.1.answers x.1.1.says;
    change = λ file change asks h.
        let x = attributes_said file (sym (ap file_asked asked_is) ∙ asks) told_change change (sym (ap (λ (r : List ℕ). at 2 told_change (told_by r)) told.results) ∙ h) in
        change_says store file x.0 fits x.1.0 x.1.1.third change x.1.1.answers x.1.1.says;
  }
