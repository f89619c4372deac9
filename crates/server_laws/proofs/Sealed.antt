-- Which replies of a step are sealed, and what context they tell of.
use Rattle.std.proofs.Common.{◌≡◌, ◌⊎◌, inl, inr, ℕ, zero, suc, ◌+◌, ◌<◌, ◌^◌, List, [], ◌∷◌, length, get_or, map, Contains, Option, Some, None, Result, Ok, Err, refl, sym, ◌∙◌, ap, subst, arith}
use Rattle.std.specs.Prelude.{IsSome}
use Rattle.nfs_base.specs.declared.seal.Seal.{Seal}
use Rattle.gss_ctx.specs.Table.{ContextTable, context_of}
use Rattle.gss_mech.specs.Tokens.{IsSized}
use Rattle.gss_mech.specs.declared.mechanism.Accepted.{Accepted}
use Rattle.nfs_compound.specs.Compounds.{compound_of}
use Rattle.nfs_compound.specs.declared.compound.Compound.{Compound}
use Rattle.outbox.specs.declared.label.CallLabel.TheVariants as calls
use Rattle.outbox.specs.declared.label.Label.TheVariants.{Reply}
use Rattle.outbox.specs.declared.outgoing.Outgoing.{Outgoing}
use Rattle.rpc_calls.specs.Answers.{counted, seal_in}
use Rattle.rpc_calls.specs.Making.{Created, create_answer, create_told, created, made_seal}
use Rattle.rpc_calls.specs.declared.call.Call.{Call}
use Rattle.rpc_calls.specs.declared.call.Under.{Under}
use Rattle.rpc_calls.specs.declared.call.What.{What}
use Rattle.rpc_calls.specs.declared.call.What.TheVariants as whats
use Rattle.rpc_msg.specs.Heads as heads
use Rattle.server_volume.specs.Choices.{choice_of}
use Rattle.streams.specs.declared.draws.Drawn.{Drawn}
use Rattle.wire_model.specs.Spelling as spelling
use Rattle.wire_model.specs.Wire.{Sent}
use Rattle.wire_spelling.specs.Replies.{context_in}
use Rattle.context_laws.specs.View.{AreNumbered, IsNewIn}
use Rattle.context_laws.specs.TableLaws.{counted_follows, counted_made}
use Rattle.context_laws.specs.JudgedLaws.{IsOfCreate}
use Rattle.context_laws.specs.MadeLaws.{IsBegun, IsNotBegun, IsChild, IsNoChild, answers_init, begun_is_new, child_is_new, create_gives, created_child}
use Rattle.session_server.specs.declared.extending.Judgement.{Judgement}
use Rattle.session_server.specs.declared.extending.Judgement.TheVariants as judgements
use Rattle.session_server.specs.Host.{Codes, HostState, Rules, Stepped}
use Rattle.session_server.specs.Steps.{IsCompoundTurn, IsWhatTurn, going_back, granted, judged_create, judgement_under, reply_seal}
use Rattle.server_laws.specs.Acts.{sent_of}

-- ---- what is sent where one record is

abbrev pub Carries : List Outgoing → List ℕ → Seal → Type 0
Carries sent reply seal = Contains (map sent_of sent) (record { bytes = reply; seal = Some seal })

pub sends_none : (reply : List ℕ) (seal : Seal) → Carries [] reply seal → ⊥
sends_none reply seal c = absurd (let below = c.1 in omega arith)

only : (sent x : Sent) → Contains (sent ∷ []) x → sent ≡ x
only sent x c = at c.0 c.1 c.2
  where
    at : (k : ℕ) → k < length (sent ∷ []) → get_or (sent ∷ []) k x ≡ x → sent ≡ x
    at zero below is = is
    at (suc k) below is = absurd (omega arith)

pub sends_one : (o : Outgoing) (reply : List ℕ) (seal : Seal) → Carries (o ∷ []) reply seal → (o.bytes ≡ reply) × (o.seal ≡ Some seal)
sends_one o reply seal c =
    let is = only (sent_of o) (record { bytes = reply; seal = Some seal }) c in
    (ap (λ (x : Sent). x.bytes) is, ap (λ (x : Sent). x.seal) is)

-- one without a seal isn't sealed
pub unsealed_one : (o : Outgoing) → o.seal ≡ None → (reply : List ℕ) (seal : Seal) → Carries (o ∷ []) reply seal → ⊥
unsealed_one o none reply seal c =
    let wrong : None ≡ Some seal = sym none ∙ (sends_one o reply seal c).1 in
    absurd cc

-- nothing that a step sends is sealed
abbrev pub IsUnsealed : {X C : Type 0} → Stepped X C → Type 0
IsUnsealed t = (reply : List ℕ) (seal : Seal) → Carries t.out.sent reply seal → ⊥

-- what is sealed tells of a new root context, that of the seal
abbrev pub TellsRoot : {X C : Type 0} → HostState X C → Stepped X C → Type 0
TellsRoot s t = (reply : List ℕ) (seal : Seal) → Carries t.out.sent reply seal
    → (seal.boot ≡ t.host.contexts.boot) × IsNewIn s.contexts t.host.contexts seal.number seal.number

-- what is sealed and gives a context gives a new one, made under that of the seal
abbrev pub TellsChild : {X C : Type 0} → HostState X C → Stepped X C → Type 0
TellsChild s t = (reply : List ℕ) (seal : Seal) (child : spelling.Context) → Carries t.out.sent reply seal → context_in reply ≡ Some child
    → (child.boot ≡ t.host.contexts.boot) × (seal.boot ≡ t.host.contexts.boot) × IsNewIn s.contexts t.host.contexts child.number seal.number

module _ {X C W : Type 0} (rules : Rules X C) (codes : Codes) (accepted : List ℕ → List ℕ → Option Accepted) (gives : W → Drawn → W → Type 0)
    (second conn : ℕ) (call : Call) (s : HostState X C) (before after : W) (numbered : AreNumbered s.contexts.made s.contexts.entries) where
  unsealed_is : (t u : Stepped X C) → t ≡ u → (o : Outgoing) → u.out.sent ≡ o ∷ [] → o.seal ≡ None → IsUnsealed t
  unsealed_is t u is o sent none reply seal c =
      unsealed_one o none reply seal (subst (λ (x : List Outgoing). Carries x reply seal) (ap (λ (v : Stepped X C). v.out.sent) is ∙ sent) c)

  silent_is : (t u : Stepped X C) → t ≡ u → u.out.sent ≡ [] → IsUnsealed t
  silent_is t u is sent reply seal c =
      sends_none reply seal (subst (λ (x : List Outgoing). Carries x reply seal) (ap (λ (v : Stepped X C). v.out.sent) is ∙ sent) c)

  no_under : call.under ≡ None → reply_seal s.contexts call.under ≡ None
  no_under none = ap (reply_seal s.contexts) none

  -- ---- an answer under no context, but to INIT

  create_unsealed : (judgement : Judgement C) (t : Stepped X C) → call.under ≡ None → t ≡ judged_create judgement rules.parting codes second conn call s → IsUnsealed t
  create_unsealed (judgements.Granted carry) t none is = unsealed_is t (judged_create (judgements.Granted carry) rules.parting codes second conn call s) is _ refl (no_under none)
  create_unsealed judgements.Misspelt t none is = unsealed_is t (judged_create judgements.Misspelt rules.parting codes second conn call s) is _ refl refl
  create_unsealed (judgements.Refused cause) t none is = unsealed_is t (judged_create (judgements.Refused cause) rules.parting codes second conn call s) is _ refl refl

  compound_unsealed : (compound : Result Compound ℕ) (t : Stepped X C) → call.under ≡ None → IsCompoundTurn rules codes second conn call compound s t → IsUnsealed t
  compound_unsealed (Err at) t none is = unsealed_is t _ is _ refl refl
  compound_unsealed (Ok compound) t none is =
      let choice = choice_of t.out.used in
      unsealed_is t _ (is choice (λ n lt. refl)) _ refl (no_under none)

  tells_nothing : (t : Stepped X C) → IsUnsealed t → TellsRoot s t
  tells_nothing t none reply seal c = absurd (none reply seal c)

  begun_seal : (t : Stepped X C) (told : Option ℕ) (contexts : ContextTable C) (o : Outgoing) → t.host.contexts ≡ contexts → t.out.sent ≡ o ∷ [] → o.seal ≡ made_seal contexts told
      → IsBegun second s.contexts contexts told ⊎ IsNotBegun s.contexts contexts told → TellsRoot s t
  begun_seal t told contexts o is sent sealed (inl begun) reply seal c =
      let one = sends_one o reply seal (subst (λ (x : List Outgoing). Carries x reply seal) sent c) in
      let seal_is : Some (seal_in contexts (s.contexts.made + 1) 0) ≡ Some seal = sym (ap (made_seal contexts) begun.told_is) ∙ sym sealed ∙ one.1 in
      let same : seal_in contexts (s.contexts.made + 1) 0 ≡ seal = cc in
      let number : s.contexts.made + 1 ≡ seal.number = ap (λ (x : Seal). x.number) same in (
        sym (ap (λ (x : Seal). x.boot) same) ∙ sym (ap (λ (x : ContextTable C). x.boot) is),
        subst (λ (n : ℕ). IsNewIn s.contexts t.host.contexts n n) number
            (subst (λ (x : ContextTable C). IsNewIn s.contexts x (s.contexts.made + 1) (s.contexts.made + 1)) (sym is)
            (begun_is_new second s.contexts contexts told numbered begun)),
      )
  begun_seal t told contexts o is sent sealed (inr none) reply seal c =
      absurd (unsealed_one o (sealed ∙ ap (made_seal contexts) none.told_none) reply seal (subst (λ (x : List Outgoing). Carries x reply seal) sent c))

  pub root_told : (what : What) (t : Stepped X C) → call.under ≡ None → IsWhatTurn what rules codes accepted gives second conn call s before after t → TellsRoot s t
  root_told (whats.Dropped why) t none turn = tells_nothing t (silent_is t _ turn.0 refl)
  root_told (whats.Denied why) t none turn = tells_nothing t (unsealed_is t _ turn.0 _ refl refl)
  root_told (whats.Failed failure) t none turn = tells_nothing t (unsealed_is t _ turn.0 _ refl refl)
  root_told whats.Null t none turn = tells_nothing t (unsealed_is t _ turn.0 _ refl (no_under none))
  root_told (whats.Init token) t none turn =
      begun_seal t turn.told.made turn.contexts (going_back conn turn.told.bytes (made_seal turn.contexts turn.told.made) (Reply calls.Init turn.told.major))
      (ap (λ (v : Stepped X C). v.host.contexts) turn.is) (ap (λ (v : Stepped X C). v.out.sent) turn.is) refl
      (answers_init codes.mic (accepted token) gives second call.head.xid _ s.contexts turn.contexts before after turn.told turn.answers)
  root_told (whats.Create name privilege) t none turn =
      tells_nothing t (create_unsealed (judgement_under rules second name privilege s call.under) t none turn.0)
  root_told whats.Destroy t none turn = tells_nothing t (unsealed_is t _ turn.0 _ refl (no_under none))
  root_told (whats.Compound args) t none turn = tells_nothing t (compound_unsealed (compound_of args) t none turn.0)

  -- ---- the answer to CREATE

  module _ (sized : IsSized codes.mic) (fits : heads.call.Fits call.head) (small : s.contexts.boot < 2 ^ 32) (few : s.contexts.made + 1 < 2 ^ 32)
      (there : (under : Under) → call.under ≡ Some under → IsSome (context_of under.number s.contexts.entries)) where
    no_child : (t : Stepped X C) → IsUnsealed t → TellsChild s t
    no_child t none reply seal child c given = absurd (none reply seal c)

    -- the number that was given is the next
    next_made : (told : Created C) → IsChild second (counted second call s.contexts) call.under told ⊎ IsNoChild (counted second call s.contexts) told
        → (n : ℕ) → told.made ≡ Some n → n ≡ s.contexts.made + 1
    next_made told (inl made) n is =
        let same : Some n ≡ Some ((counted second call s.contexts).made + 1) = sym is ∙ made.made_is in
        let next : n ≡ (counted second call s.contexts).made + 1 = cc in
        next ∙ ap (λ (k : ℕ). k + 1) (counted_made second call.verdict s.contexts)
    next_made told (inr none) n is = absurd (let wrong : None ≡ Some n = sym none.none_made ∙ is in cc)

    child_new : (told : Created C) → IsChild second (counted second call s.contexts) call.under told ⊎ IsNoChild (counted second call s.contexts) told
        → (n : ℕ) (under : Under) → told.made ≡ Some n → call.under ≡ Some under → IsNewIn s.contexts told.table n under.number
    child_new told (inl made) n under is under_is =
        let new = child_is_new second (counted second call s.contexts) call.under told (counted_follows second call s.contexts numbered).numbered made in
        let next = next_made told (inl made) n is in
        let counted_is = counted_made second call.verdict s.contexts in
        let number : (counted second call s.contexts).made + 1 ≡ n = ap (λ (k : ℕ). k + 1) counted_is ∙ sym next in
        let same : Some made.parent ≡ Some under = sym made.parent_is ∙ under_is in
        let parent : made.parent ≡ under = cc in
        let there_ = subst (λ (k : ℕ). IsNewIn (counted second call s.contexts) told.table k made.parent.number) number new in
        let new_ = subst (λ (u : Under). IsNewIn (counted second call s.contexts) told.table n u.number) parent there_ in
        record { next = next; counted = new_.counted; root_is = new_.root_is }
    child_new told (inr none) n under is under_is = absurd (let wrong : None ≡ Some n = sym none.none_made ∙ is in cc)

    granted_gives : (carry : C) (under : Option Under) → call.under ≡ under → (t : Stepped X C) → t ≡ granted rules.parting codes second conn call carry s → TellsChild s t
    granted_gives carry None none t is reply seal child c given =
        absurd (unsealed_is t (granted rules.parting codes second conn call carry s) is _ refl (no_under none) reply seal c)
    granted_gives carry (Some under) under_is t is reply seal child c given =
        let made = created codes.derived second carry call s.contexts in
        let o = going_back conn (create_answer codes.mic s.contexts call made.made).bytes (reply_seal s.contexts call.under) (Reply calls.Create (create_told s.contexts.boot made.made).major) in
        let one = sends_one o reply seal (subst (λ (x : List Outgoing). Carries x reply seal) (ap (λ (v : Stepped X C). v.out.sent) is) c) in
        let outcome = created_child codes.derived second carry call s.contexts in
        let gives_ = create_gives codes.mic s.contexts call under made.made child sized fits small
        (λ n made_is. let next = next_made made outcome n made_is in omega arith) under_is (there under under_is)
        (ap context_in one.0 ∙ given) in
        let seal_is : Some (seal_in s.contexts under.number under.seq) ≡ Some seal = sym (ap (reply_seal s.contexts) under_is) ∙ one.1 in
        let same : seal_in s.contexts under.number under.seq ≡ seal = cc in
        let contexts : t.host.contexts ≡ made.table = ap (λ (v : Stepped X C). v.host.contexts) is in
        let boot : t.host.contexts.boot ≡ s.contexts.boot = ap (λ (x : ContextTable C). x.boot) contexts ∙ (created_boot made outcome) in
        let new = child_new made outcome gives_.0 under gives_.1 under_is in
        let numbered_ : gives_.0 ≡ child.number = sym (ap (λ (x : spelling.Context). x.number) gives_.2) in
        let sealed : under.number ≡ seal.number = ap (λ (x : Seal). x.number) same in
        let first = subst (λ (x : ContextTable C). IsNewIn s.contexts x gives_.0 under.number) (sym contexts) new in
        let second_ = subst (λ (n : ℕ). IsNewIn s.contexts t.host.contexts n under.number) numbered_ first in (
          ap (λ (x : spelling.Context). x.boot) gives_.2 ∙ sym boot,
          sym (ap (λ (x : Seal). x.boot) same) ∙ sym boot,
          subst (λ (n : ℕ). IsNewIn s.contexts t.host.contexts child.number n) sealed second_,
        )
      where
        created_boot : (told : Created C) → IsChild second (counted second call s.contexts) call.under told ⊎ IsNoChild (counted second call s.contexts) told → told.table.boot ≡ s.contexts.boot
        created_boot told (inl made) = ap (λ (x : ContextTable C). x.boot) made.table_is ∙ (counted_follows second call s.contexts numbered).boot
        created_boot told (inr none) = ap (λ (x : ContextTable C). x.boot) none.same ∙ (counted_follows second call s.contexts numbered).boot

    create_gives_child : (judgement : Judgement C) (t : Stepped X C) → t ≡ judged_create judgement rules.parting codes second conn call s → TellsChild s t
    create_gives_child (judgements.Granted carry) t is = λ reply seal child c given. granted_gives carry call.under refl t is reply seal child c given
    create_gives_child judgements.Misspelt t is = no_child t (unsealed_is t (judged_create judgements.Misspelt rules.parting codes second conn call s) is _ refl refl)
    create_gives_child (judgements.Refused cause) t is = no_child t (unsealed_is t (judged_create (judgements.Refused cause) rules.parting codes second conn call s) is _ refl refl)

    pub child_told : (what : What) (t : Stepped X C) → IsOfCreate what → IsWhatTurn what rules codes accepted gives second conn call s before after t → TellsChild s t
    child_told (whats.Dropped why) t of turn = no_child t (silent_is t _ turn.0 refl)
    child_told (whats.Denied why) t of turn = no_child t (unsealed_is t _ turn.0 _ refl refl)
    child_told (whats.Failed failure) t of turn = no_child t (unsealed_is t _ turn.0 _ refl refl)
    child_told whats.Null t of turn = absurd of
    child_told (whats.Init token) t of turn = absurd of
    child_told (whats.Create name privilege) t of turn = create_gives_child (judgement_under rules second name privilege s call.under) t turn.0
    child_told whats.Destroy t of turn = absurd of
    child_told (whats.Compound args) t of turn = absurd of
