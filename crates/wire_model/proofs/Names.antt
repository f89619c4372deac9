-- A copy's name stays and is its own, and what was reported stays so: a report that the client took, or holds, is
-- one of a copy that is stable.
use Rattle.std.proofs.Common.{◌≡◌, ◌⊎◌, ⊎_elim, ℕ, zero, suc, ◌<◌, ◌≤◌, true, Some, refl, sym, ◌∙◌, arith}
use Rattle.std.proofs.lemmas.Bool.{both_ways, cases_lt, cases_order}
use Rattle.nfs_base.specs.declared.job.JobName.{JobName}
use Rattle.nfs_base.specs.declared.seal.End.{End}
use Rattle.nfs_base.specs.declared.seal.End.TheVariants.{Source, Dest, Client}
use Rattle.wire_model.specs.Spelling.{Spelling}
use Rattle.wire_model.specs.Meaning.{Meaning}
use Rattle.wire_model.specs.Wire.{Sends}
use Rattle.wire_model.specs.System.{System}
use Rattle.wire_model.specs.NameLaws.{IsReported}
use Rattle.wire_model.specs.WordLaws.{IsCalledBack}
use Rattle.wire_model.specs.Lawful.{IsLawfulSystem, IsTruthful}
use Rattle.wire_model.proofs.Ends.{from_on}
use Rattle.wire_model.proofs.Below.{Below}
use Rattle.wire_model.proofs.Jobs.{made_rises}

module _ (spell : Spelling) (meaning : Meaning) (s : System) (lawful : IsLawfulSystem spell meaning s)
    (truthful : IsTruthful spell meaning s) (below : Below) where
  pub name_stays : (j i k : ℕ) → i ≤ k → j < s.made i → s.name k j ≡ s.name i j
  name_stays j i k le accepted =
      from_on
      (λ n. s.name n j ≡ s.name i j)
      i
      refl
      (λ n after so_far.
      (truthful.names n).stays j (let rises = made_rises spell meaning s lawful below i n after in omega arith) ∙ so_far)
      k
      le

  -- of two copies the later one has another name
  never_same : (k j l : ℕ) → j < l → l < s.made k → s.name k j ≡ s.name k l → ⊥
  never_same zero j l before there same = absurd (let none = lawful.copies_start.none_made in omega arith)
  never_same (suc k) j l before there same =
      ⊎_elim
      (λ (old : l < s.made k).
      never_same k j l before old (sym ((truthful.names k).stays j (omega arith)) ∙ same ∙ (truthful.names k).stays l old))
      (λ (new : s.made k ≤ l). (truthful.names k).one j l before new there same)
      (cases_lt l (s.made k))

  pub one_job : (k j l : ℕ) → j < s.made k → l < s.made k → s.name k j ≡ s.name k l → j ≡ l
  one_job k j l there there' same =
      ⊎_elim
      (λ (here : j ≡ l). here)
      (λ (other : (j < l) ⊎ (l < j)). absurd (⊎_elim
      (λ (before : j < l). never_same k j l before there' same)
      (λ (after : l < j). never_same k l j after there (sym same))
      other))
      (cases_order j l)

  pub stable_stays : (j i k : ℕ) → i ≤ k → j < s.made i → (s.job i j).stable ≡ true → (s.job k j).stable ≡ true
  stable_stays j i k le accepted stable =
      from_on
      (λ n. (s.job n j).stable ≡ true)
      i
      stable
      (λ n after so_far.
      ((lawful.copies n).marks j (let rises = made_rises spell meaning s lawful below i n after in omega arith)).stable so_far)
      k
      le

  pub reported_stays : (i k : ℕ) (name : JobName) → i ≤ k → IsReported s i name → IsReported s k name
  reported_stays i k name le r =
      let there = r.there in
      let rises = made_rises spell meaning s lawful below i k le in
      record {
        copy = r.copy;
        there = omega arith;
        named = name_stays r.copy i k le r.there ∙ r.named;
        stable = stable_stays r.copy i k le r.there r.stable;
      }

  pub called_back : (k : ℕ) (name : JobName) → IsCalledBack spell meaning s k name → IsReported s k name
  called_back k name c =
      let sealed = (lawful.dest_wire.unmistaken k Client).sealed c.seal c.bytes c.accepted c.took in
      sealed_by sealed.by sealed.other sealed.step sealed.before sealed.sealed
    where
      sealed_by : (by : End) → (by ≡ Client → ⊥) → (i : ℕ) → i < k → Sends (s.acts by i) c.bytes (Some c.seal) → IsReported s k name
      sealed_by Source other i before sends = absurd (truthful.silent i c.bytes c.seal sends c.own)
      sealed_by Dest other i before sends =
          reported_stays (suc i) k name (omega arith) ((truthful.names i).reports c.bytes c.seal name sends c.own c.is_callback c.reports)
      sealed_by Client other i before sends = absurd (other refl)

  pub held_reported : (k : ℕ) (name : JobName) → s.held k name ≡ true → IsReported s k name
  held_reported zero name holds = absurd (both_ways _ (truthful.word_start.none_held name) holds)
  held_reported (suc k) name holds =
      reported_stays k (suc k) name (omega arith) (⊎_elim
      (λ (old : s.held k name ≡ true). held_reported k name old)
      (λ (new : IsCalledBack spell meaning s k name). called_back k name new)
      ((truthful.word k).held name holds))
