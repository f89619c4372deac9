-- What calls wait for; and a step in which the client rests.
use Rattle.std.proofs.Common.{◌≡◌, ◌∙◌, ℕ, suc, Bool, true, false, Option, Some, None, refl, sym, ap, inl}
use Rattle.std.specs.Prelude.{is_some, option_map}
use Rattle.client_copies.specs.Copies.{is_stable}
use Rattle.client_copies.specs.Table.{copy_at}
use Rattle.client_copies.specs.Words.{phase_by, phase_of}
use Rattle.client_copies.specs.declared.copy.ClientCopy.{ClientCopy}
use Rattle.client_copies.specs.declared.copy.First.{First}
use Rattle.client_copies.specs.declared.copy.Stage.{Stage}
use Rattle.client_copies.specs.declared.copy.Stage.TheVariants.{Due, Asked, Accepted, Over}
use Rattle.client_core.specs.State.{ClientState}
use Rattle.client_laws.specs.CallerLaws.{is_safe, is_said_stable, knows_first}
use Rattle.client_laws.specs.Speaking.Views.{IsSeenAt, first_seen, says_stable, word_seen}
use Rattle.client_laws.specs.WholeTurns.{Purposes}
use Rattle.nfs_base.specs.declared.seal.End.TheVariants as ends
use Rattle.wire_model.specs.Meaning.{Meaning}
use Rattle.wire_model.specs.Spelling.{Spelling}
use Rattle.wire_model.specs.System.{System}
use Rattle.wire_model.specs.Wire.{Caller, ForCopy, ForLast}
use Rattle.wire_model.specs.Word as words
use Rattle.wire_model.specs.WordLaws as laws

module _ {M : Type 0} (boot : ℕ) (purposes : Purposes) (d : ClientState M) (s : System) (k : ℕ) (to : IsSeenAt boot purposes d s k) where
  pub copy_ready_law : (n : ℕ) → (s.caller ends.Dest ends.Client k).ready (ForCopy n) ≡ true → (first : words.First) × ((s.word k n).first ≡ Some first)
  copy_ready_law n e =
      let r : knows_first (copy_at n d.copies) ≡ true = sym (ap (λ (v : Caller). v.ready (ForCopy n)) to.dest) ∙ e in
      let x = known_by (copy_at n d.copies) r in
      (x.0, ap (λ (w : words.Word). w.first) (to.word n) ∙ x.1)
    where
      known_in : (known : Option First) → is_some known ≡ true → (first : words.First) × (option_map first_seen known ≡ Some first)
      known_in None e = absurd cc
      known_in (Some known) e = (first_seen known, refl)

      known_by : (o : Option ClientCopy) → knows_first o ≡ true → (first : words.First) × ((word_seen o).first ≡ Some first)
      known_by None e = absurd cc
      known_by (Some copy) e = known_in copy.first e

  pub last_ready_law : (n : ℕ) → (s.caller ends.Source ends.Client k).ready (ForLast n) ≡ true → (s.word k n).stable ≡ true
  last_ready_law n e =
      let r : is_said_stable (copy_at n d.copies) ≡ true = sym (ap (λ (v : Caller). v.ready (ForLast n)) to.source) ∙ e in
      ap (λ (w : words.Word). w.stable) (to.word n) ∙ stable_by (copy_at n d.copies) r
    where
      phase_stable : (b : Bool) → is_safe (phase_by b) ≡ true → b ≡ true
      phase_stable true e = refl
      phase_stable false e = absurd cc

      stage_stable : (st : Stage) → is_safe (phase_of st) ≡ true → says_stable st ≡ true
      stage_stable (Due step) e = phase_stable (is_stable step) e
      stage_stable (Asked step) e = phase_stable (is_stable step) e
      stage_stable Accepted e = absurd cc
      stage_stable (Over v) e = absurd cc

      stable_by : (o : Option ClientCopy) → is_said_stable o ≡ true → (word_seen o).stable ≡ true
      stable_by None e = absurd cc
      stable_by (Some copy) e = stage_stable copy.stage e

-- where the client rests, its word does too
pub rests_lawful : {M : Type 0} (spell : Spelling) (meaning : Meaning) (boot : ℕ) (purposes : Purposes) (c : ClientState M) (s : System) (k : ℕ) → IsSeenAt boot purposes c s k
    → IsSeenAt boot purposes c s (suc k) → laws.WordLaws spell meaning s k
rests_lawful spell meaning boot purposes c s k at to =
    let word : (n : ℕ) → s.word (suc k) n ≡ s.word k n = λ n. to.word n ∙ sym (at.word n) in
    record {
      keeps = λ n. record {
        first = λ first e. ap (λ (w : words.Word). w.first) (word n) ∙ e;
        name = λ name e. ap (λ (w : words.Word). w.name) (word n) ∙ e;
        stable = λ e. ap (λ (w : words.Word). w.stable) (word n) ∙ e;
        exact = λ e. ap (λ (w : words.Word). w.exact) (word n) ∙ e;
      };
      first = λ n first e. inl (sym (ap (λ (w : words.Word). w.first) (word n)) ∙ e);
      name = λ n name e. inl (sym (ap (λ (w : words.Word). w.name) (word n)) ∙ e);
      stable = λ n e. inl (sym (ap (λ (w : words.Word). w.stable) (word n)) ∙ e);
      exact = λ n e. inl (sym (ap (λ (w : words.Word). w.exact) (word n)) ∙ e);
      held = λ name e. inl (at.held name ∙ sym (to.held name) ∙ e);
      copy_ready = copy_ready_law boot purposes c s (suc k) to;
      last_ready = last_ready_law boot purposes c s (suc k) to;
    }
