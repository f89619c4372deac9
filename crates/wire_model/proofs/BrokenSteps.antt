-- The steps beside the small wire break one law each.
use Rattle.std.proofs.Common.{◌≡◌, ⊎_elim, ℕ, zero, suc, ◌<◌, true, false, Some, List, [], ◌∷◌, refl, ◌∙◌, ap, arith}
use Rattle.std.proofs.lemmas.Bool.{both_ways}
use Rattle.copy_model.specs.Marks.{is_committed}
use Rattle.nfs_base.specs.declared.job.JobName.{JobName}
use Rattle.nfs_base.specs.declared.seal.End.{End}
use Rattle.nfs_base.specs.declared.seal.End.TheVariants.{Source, Dest, Client}
use Rattle.nfs_base.specs.declared.seal.Seal.{Seal}
use Rattle.wire_model.specs.Spelling.{Spelling}
use Rattle.wire_model.specs.Wire.{Sent, Sends, Call}
use Rattle.wire_model.specs.ServerLaws.{ServerLaws}
use Rattle.wire_model.specs.CallerLaws.{IsNew, GoesOn, CallerLaws}
use Rattle.wire_model.specs.Check.{IsRight}
use Rattle.wire_model.specs.Meaning.{Meaning}
use Rattle.wire_model.specs.System.{System}
use Rattle.wire_model.specs.CopyLaws.{CopiesLaws}
use Rattle.wire_model.specs.NameLaws.{NameLaws}
use Rattle.wire_model.specs.Examples.{spelling, called, called_again, kept_answer, seal_of, name, acts_of, with_context, with_answer, mounted, executes_again, makes_again, other_call, calls_other, other_awaited, crossed}
use Rattle.wire_model.proofs.SmallSource.{only, none, some}
use Rattle.wire_model.proofs.SmallDest.{call_of}

pub executed_again_refused : ServerLaws spelling Source with_answer with_answer executes_again → ⊥
executed_again_refused laws =
    let once = laws.once name 1 (8 ∷ []) (record {
      call = called_again;
      seal = seal_of 2;
      took = refl;
      accepted = refl;
      own = refl;
      same_boot = refl;
      in_boot = refl;
      name_is = refl;
      root_is = refl;
      executed = refl;
    }) refl in
    let above = once.0 in
    absurd (omega arith)

pub made_again_refused : ServerLaws spelling Source with_context with_context makes_again → ⊥
made_again_refused laws =
    let made = laws.init (1 ∷ 4 ∷ []) (2 ∷ 4 ∷ []) (seal_of 0) Dest refl refl (0, omega arith, refl) refl in
    let new = made.1.new in
    absurd (omega arith)

pub number_used_twice_refused : CallerLaws spelling Source Dest mounted other_awaited calls_other → ⊥
number_used_twice_refused laws =
    ⊎_elim
    (λ (old : GoesOn mounted other_awaited 0 other_call). absurd (
    let pair = some _ _ (ap call_of old.1.2) in
    let ops : 7 ∷ [] ≡ 8 ∷ [] = ap (λ (p : Seal × Call). p.1.ops) pair in
    cc))
    (λ (new : IsNew mounted other_awaited other_call). absurd (let unused = new.unused refl in omega arith))
    (laws.goes_on 0 3 (seal_of 2) other_call refl)

-- the record that is taken was sealed in a step that took another call
pub crossed_refused : IsRight spelling (acts_of crossed) (λ e k. 1) 6 Dest → ⊥
crossed_refused right =
    let a = right.answers (seal_of 2) kept_answer refl refl refl in
    sealed_by a.by a.other a.step a.before a.sealed a.call a.took a.xid
  where
    by_source : (k : ℕ) → k < 6 → Sends (acts_of crossed Source k) kept_answer (Some (seal_of 2)) → (c : List ℕ)
        → (acts_of crossed Source k).took ≡ Some c → spelling.xid_of c ≡ 3 → ⊥
    by_source zero before sends c took xid = none _ sends
    by_source (suc zero) before sends c took xid = absurd (let other = ap (λ (x : Sent). x.bytes) (only _ _ sends) in cc)
    by_source (suc (suc zero)) before sends c took xid = none _ sends
    by_source (suc (suc (suc zero))) before sends c took xid =
        let first : spelling.xid_of called ≡ 3 = ap spelling.xid_of (some called c took) ∙ xid in
        absurd (omega arith)
    by_source (suc (suc (suc (suc k)))) before sends c took xid = none _ sends

    sealed_by : (by : End) → (by ≡ Dest → ⊥) → (k : ℕ) → k < 6 → Sends (acts_of crossed by k) kept_answer (Some (seal_of 2)) → (c : List ℕ)
        → (acts_of crossed by k).took ≡ Some c → spelling.xid_of c ≡ 3 → ⊥
    sealed_by Source other k before sends c took xid = by_source k before sends c took xid
    sealed_by Dest other k before sends c took xid = other refl
    sealed_by Client other k before sends c took xid = none _ sends

pub early_report_refused : (spell : Spelling) (meaning : Meaning) (s : System) (k : ℕ) (bytes : List ℕ) (seal : Seal) (job : JobName)
    → Sends (s.acts Dest k) bytes (Some seal) → seal.owner ≡ Client → spell.is_callback bytes ≡ true
    → meaning.reports (spell.ops_of bytes) job ≡ true
    → ((j : ℕ) → s.name (suc k) j ≡ job → is_committed (s.job (suc k) j).entries ≡ false)
    → NameLaws spell meaning s k → CopiesLaws spell meaning s k → ⊥
early_report_refused spell meaning s k bytes seal job sends own is_callback reports uncommitted names copies =
    let r = names.reports bytes seal job sends own is_callback reports in
    both_ways _ (uncommitted r.copy r.named) (copies.stable r.copy r.stable)
