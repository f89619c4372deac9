-- Names that obey their laws by the numbers of one opening obey them behind those of the openings before, where those are others.
use Rattle.std.proofs.Common.{◌≡◌, ℕ, suc, ◌+◌, ◌-◌, ◌<◌, ◌≤◌, true, Some, List, sym, ap, subst, inl, inr, ◌∙◌, arith}
use Rattle.std.proofs.lemmas.Bool.{cases_lt}
use Rattle.copy_model.specs.Job.{Plan}
use Rattle.nfs_base.specs.declared.job.JobName.{JobName}
use Rattle.nfs_base.specs.declared.seal.End.TheVariants.{Client, Dest}
use Rattle.nfs_base.specs.declared.seal.Seal.{Seal}
use Rattle.wire_model.specs.Copies.{Job}
use Rattle.wire_model.specs.Meaning.{Meaning}
use Rattle.wire_model.specs.NameLaws.{IsAccepted, IsReported, NameLaws, TellsBack}
use Rattle.wire_model.specs.Spelling.{Spelling}
use Rattle.wire_model.specs.System.{System}
use Rattle.wire_model.specs.Wire.{Acts, Sends}
use Rattle.opening_laws.specs.Behind.{GoesBehind}

module _ (spell : Spelling) (meaning : Meaning) (base : ℕ) (own : System) (i : ℕ) (s : System) (k : ℕ) (goes : GoesBehind base own i s k) where
  place : (j : ℕ) → base ≤ j → base + (j - base) ≡ j
  place j behind = omega (arith, behind)

  name_before : (j : ℕ) → base ≤ j → s.name k j ≡ own.name i (j - base)
  name_before j behind = subst (λ (n : ℕ). s.name k n ≡ own.name i (j - base)) (place j behind) (goes.before.name (j - base))

  name_after : (j : ℕ) → base ≤ j → s.name (suc k) j ≡ own.name (suc i) (j - base)
  name_after j behind = subst (λ (n : ℕ). s.name (suc k) n ≡ own.name (suc i) (j - base)) (place j behind) (goes.after.name (j - base))

  reported_behind : (name : JobName) → IsReported own (suc i) name → IsReported s (suc k) name
  reported_behind name reported = record {
    copy = base + reported.copy;
    there = omega (arith, reported.there, goes.after.made);
    named = goes.after.name reported.copy ∙ reported.named;
    stable = ap (λ (x : Job). x.stable) (goes.after.job reported.copy) ∙ reported.stable;
  }

  accepted_behind : (plan : Plan) (name : JobName) → IsAccepted own i plan name → IsAccepted s k plan name
  accepted_behind plan name accepted = record {
    copy = base + accepted.copy;
    new = omega (arith, accepted.new, goes.before.made);
    there = omega (arith, accepted.there, goes.after.made);
    plan_is = ap (λ (x : Job). x.plan) (goes.after.job accepted.copy) ∙ accepted.plan_is;
    named = goes.after.name accepted.copy ∙ accepted.named;
  }

  module _ (laws : NameLaws spell meaning own i) where
    stays : (j : ℕ) → j < s.made k → s.name (suc k) j ≡ s.name k j
    stays j there = elim (cases_lt j base) [
      | inl past ↦ goes.names j past
      | inr behind ↦ name_after j behind ∙ laws.stays (j - base) (omega (arith, there, behind, goes.before.made)) ∙ sym (name_before j behind)
    ]

    one : (j l : ℕ) → j < l → s.made k ≤ l → l < s.made (suc k) → s.name (suc k) j ≡ s.name (suc k) l → ⊥
    one j l later new there same =
        let second : base ≤ l = omega (arith, new, goes.before.made) in
        elim (cases_lt j base) [
          | inl past ↦ goes.others j (l - base) past (sym (goes.names j past) ∙ same ∙ name_after l second)
          | inr behind ↦
              laws.one (j - base) (l - base) (omega (arith, later, behind)) (omega (arith, new, goes.before.made)) (omega (arith, there, second, goes.after.made))
              (sym (name_after j behind) ∙ same ∙ name_after l second)
        ]

    tells : (ops results : List ℕ) → (s.acts Dest k).executed ≡ Some (record { ops = ops; results = results }) → TellsBack meaning s k ops results
    tells ops results told =
        let told_here : (own.acts Dest i).executed ≡ Some (record { ops = ops; results = results }) = sym (ap (λ (a : Acts). a.executed) goes.acts) ∙ told in
        let back = laws.tells ops results told_here in
        record {
          copied = λ plan name asks gives. accepted_behind plan name (back.copied plan name asks gives);
          status = λ name asks says. reported_behind name (back.status name asks says);
        }

    reports : (bytes : List ℕ) (seal : Seal) (name : JobName) → Sends (s.acts Dest k) bytes (Some seal) → seal.owner ≡ Client
        → spell.is_callback bytes ≡ true → meaning.reports (spell.ops_of bytes) name ≡ true → IsReported s (suc k) name
    reports bytes seal name sends owned call says =
        reported_behind name
        (laws.reports bytes seal name (subst (λ (a : Acts). Sends a bytes (Some seal)) goes.acts sends) owned call says)

    pub names_behind : NameLaws spell meaning s k
    names_behind = record { stays = stays; one = one; tells = tells; reports = reports }
