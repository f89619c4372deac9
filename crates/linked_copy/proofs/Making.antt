-- A copy over two links that were dialed for it, by what `copy_once` says.
use Rattle.std.proofs.Common.{◌≡◌, ◌⊎◌, ◌||◌, ℕ, Bool, true, false, Option, None, Some, List, [], ◌∷◌, refl, sym, ap, subst, ◌∙◌, inl, inr}
use Rattle.std.proofs.lemmas.Bool.{false≢true}
use Rattle.std.specs.Prelude.{IfOk, OnErr, Result, Ok, Err}
use Rattle.client_copies.specs.declared.copy.Report.{Report}
use Rattle.client_leaving.specs.declared.leaving.Leaving.{Leaving}
use Rattle.client_steps.specs.declared.setting.Setting.{Setting}
use Rattle.net_links.specs.Links.{Standing, IsNew}
use Rattle.outcome.specs.Causes.{Rose}
use Rattle.rpc_msg.specs.Underway.{Feed, IsFresh}
use Rattle.rpc_msg.specs.Watching.{Watch, no_signs}
use Rattle.single_copy.specs.Answers.{answer_of, copied_by, stopped}
use Rattle.single_copy.specs.Copying.{Copies, Starves}
use Rattle.single_copy.specs.LastReports.{is_stable}
use Rattle.single_copy.specs.Links.{Carries, is_faulty}
use Rattle.single_copy.specs.Turns.{Conduct, Parties}
use Rattle.single_copy.specs.declared.answers.Copied.{Copied}
use Rattle.single_copy.specs.declared.answers.Copied.TheVariants.{Stable, Failed, LinkFault, DrawFault}
use Rattle.single_copy.specs.declared.answers.LastReport.{LastReport}
use Rattle.single_copy.specs.declared.answers.LastReport.TheVariants as lasts
use Rattle.single_copy.specs.declared.phases.Phase.{Phase}
use Rattle.single_copy.specs.declared.phases.Phase.TheVariants.{Fresh, Asking, Told, Parted, Undrawn}
use Rattle.linked_copy.specs.Copying.{Begins, HasCause, HasFailed, IsDialed, Made, Starved, standing_terms}

-- ---- a link's fault is answered only where a call of one failed

abbrev is_fault : Copied → Bool
is_fault (Stable exact) = false
is_fault (Failed status) = false
is_fault (LinkFault stable) = true
is_fault DrawFault = false

stopped_faulty : (stable faulty : Bool) → is_fault (stopped stable faulty) ≡ true → faulty ≡ true
stopped_faulty stable true is = refl
stopped_faulty true false is = absurd (false≢true is)
stopped_faulty false false is = absurd (false≢true is)

last_faulty : (last : LastReport) (faulty : Bool) → is_fault (copied_by last) ≡ true → faulty ≡ true
last_faulty (lasts.Stable exact) faulty is = absurd (false≢true is)
last_faulty (lasts.Failed status) faulty is = absurd (false≢true is)

undrawn_faulty : (last : Option LastReport) (report : Option Report) (faulty : Bool) → is_fault (answer_of (Undrawn last) report faulty) ≡ true → faulty ≡ true
undrawn_faulty None report faulty is = absurd (false≢true is)
undrawn_faulty (Some last) report faulty is = last_faulty last faulty is

answer_faulty : (phase : Phase) (report : Option Report) (faulty : Bool) → is_fault (answer_of phase report faulty) ≡ true → faulty ≡ true
answer_faulty Fresh report faulty is = stopped_faulty (is_stable report) faulty is
answer_faulty Asking report faulty is = stopped_faulty (is_stable report) faulty is
answer_faulty (Told last) report faulty is = last_faulty last faulty is
answer_faulty (Parted last) report faulty is = last_faulty last faulty is
answer_faulty (Undrawn last) report faulty is = undrawn_faulty last report faulty is

-- ---- and then that link's count of faults rose

rose_since : (was before now : ℕ) → before ≡ was → Rose before now → Rose was now
rose_since was before now is rose = subst (λ (n : ℕ). Rose n now) is rose

carried_fault : {M W : Type 0} (conduct : Conduct M W) (old now : Watch Standing) (records : List (List ℕ)) (bytes : List ℕ) → IsDialed old
    → Carries (standing_terms conduct).gives (standing_terms conduct).takes old now records bytes → is_faulty now.signs ≡ true → HasFailed now.link
carried_fault conduct old now records bytes dialed carries faulty =
    elim (carries.cause faulty) [
      | inl before ↦ absurd (false≢true (ap (λ (w : Watch Standing). is_faulty w.signs) (sym dialed.untouched) ∙ before))
      | inr (inl takes) ↦ inl (rose_since 0 old.link.brings.faults now.link.brings.faults dialed.new.reads takes)
      | inr (inr puts) ↦ inr (rose_since 0 old.link.takes.faults now.link.takes.faults dialed.new.puts puts)
    ]

either_fault : (source dest : Bool) (A B : Type 0) → (source || dest) ≡ true → (source ≡ true → A) → (dest ≡ true → B) → A ⊎ B
either_fault true dest A B is a b = inl (a refl)
either_fault false dest A B is a b = inr (b is)

copies_cause : {M W : Type 0} (conduct : Conduct M W) (setting : Setting M) (draws : W) (old now : Parties Standing M W) (copied : Copied) → Begins setting draws old
    → Copies (standing_terms conduct) old copied now → (copied ≡ DrawFault → Rose (conduct.faults old.draws) (conduct.faults now.draws))
    → HasCause conduct draws copied now
copies_cause conduct setting draws old now (Stable exact) begins copies drawn = tt
copies_cause conduct setting draws old now (Failed status) begins copies drawn = tt
copies_cause conduct setting draws old now (LinkFault stable) begins copies drawn =
    either_fault _ _ _ _ (answer_faulty copies.phase _ _ (sym (ap is_fault copies.answer)))
    (carried_fault conduct old.source now.source _ _ begins.source copies.source)
    (carried_fault conduct old.dest now.dest _ _ begins.dest copies.dest)
copies_cause {W = W} conduct setting draws old now DrawFault begins copies drawn =
    subst (λ (d : W). Rose (conduct.faults d) (conduct.faults now.draws)) begins.draws_are (drawn refl)

module _ {M W : Type 0} (conduct : Conduct M W) (setting : Setting M) (draws : W) (Hung : List Standing → Type 0) where
  pub made_of : (old now : Parties Standing M W) (copied : Copied) → Begins setting draws old → Copies (standing_terms conduct) old copied now
      → (copied ≡ DrawFault → Rose (conduct.faults old.draws) (conduct.faults now.draws)) → Hung (now.source.link ∷ now.dest.link ∷ [])
      → Made conduct setting draws Hung copied
  made_of old now copied begins copies drawn hung = record {
    old = old;
    now = now;
    begins = begins;
    copies = copies;
    cause = copies_cause conduct setting draws old now copied begins copies drawn;
    hung = hung;
  }

  pub starved_of : (old : Parties Standing M W) (source dest : Watch Standing) (client : Leaving M) → Begins setting draws old
      → Starves (standing_terms conduct) old source dest client → Hung (source.link ∷ dest.link ∷ []) → Starved conduct setting draws Hung
  starved_of old source dest client begins starves hung =
      record { old = old; source = source; dest = dest; client = client; begins = begins; starves = starves; hung = hung }

-- ---- and so it is with the call's answer

module _ {M W E : Type 0} (conduct : Conduct M W) (setting : Setting M) (draws : W) (Hung : List Standing → Type 0) where
  pub ok_made : (r : Result Copied E) (old now : Parties Standing M W) → Begins setting draws old
      → IfOk r (λ copied. Copies (standing_terms conduct) old copied now)
      → IfOk r (λ copied. copied ≡ DrawFault → Rose (conduct.faults old.draws) (conduct.faults now.draws))
      → Hung (now.source.link ∷ now.dest.link ∷ []) → IfOk r (λ copied. Made conduct setting draws Hung copied)
  ok_made (Ok copied) old now begins copies drawn hung = made_of conduct setting draws Hung old now copied begins copies drawn hung
  ok_made (Err e) old now begins copies drawn hung = tt

  pub err_starved : (r : Result Copied E) (old : Parties Standing M W) (source dest : Watch Standing) (client : Leaving M) → Begins setting draws old
      → OnErr r (Starves (standing_terms conduct) old source dest client) → Hung (source.link ∷ dest.link ∷ [])
      → OnErr r (Starved conduct setting draws Hung)
  err_starved (Ok copied) old source dest client begins starves hung = tt
  err_starved (Err e) old source dest client begins starves hung = starved_of conduct setting draws Hung old source dest client begins starves hung

-- ---- what a copy begins with

pub dialed_of : (watch : Watch Standing) (link : Standing) (feed : Feed) → watch ≡ record { link = link; unread = []; feed = feed; count = 0; sent = 0; signs = no_signs }
    → IsNew link → IsFresh feed → IsDialed watch
dialed_of watch link feed is new fresh =
    subst IsDialed (sym is) (record { new = new; feed = fresh; untouched = refl })
