-- What is done to the jobs leaves the table kept.
use Rattle.std.proofs.Common.{◌≡◌, ℕ, ◌+◌, ◌<◌, ◌≤◌, Bool, true, false, List, [], ◌∷◌, Option, Some, None, Ok, refl, sym, ap, subst, ◌∙◌, arith}
use Rattle.std.proofs.lemmas.List.Elements.{All-nil}
use Rattle.std.proofs.lemmas.List.Sums.{sum_by-append}
use Rattle.std.specs.Prelude.{not, sum_by}
use Rattle.copy_model.specs.Job.{Committed, IsLawful, has_ended}
use Rattle.copy_privs.specs.declared.peer.Peer.{Peer}
use Rattle.dest_core.specs.Core.{no_copier}
use Rattle.dest_laws.proofs.sound.Logs.{LogLaws, back_follows, claim_follows, commit_follows, land_follows, size_follows, stop_follows}
use Rattle.dest_laws.proofs.sound.Tables.{accept_keeps, end_keeps, good_job, log_keeps}
use Rattle.dest_laws.specs.Deeds.{GoesWithin, entry_in}
use Rattle.dest_laws.specs.Histories.Kinds.{AreOf, TakesAndEnds, is_taking}
use Rattle.dest_laws.specs.Sound.Kept.{IsKept}
use Rattle.dest_tasks.specs.Completing as does
use Rattle.dest_tasks.specs.Completing.{Comes, Deed, Does}
use Rattle.dest_work.specs.Findings.{len_of as length_for}
use Rattle.job_book.specs.Book.{BookView, accept_answer, after_accept, id_of, named, retired}
use Rattle.job_book.specs.Working.{claimed, is_whole, next_chunk, size_in, stopped, with_its}
use Rattle.job_log.specs.Log.{ClaimsAreNew, after_landing, given_back, sized, with_claim, with_entry}
use Rattle.job_log.specs.declared.chunk.Chunk.{Chunk}
use Rattle.job_log.specs.declared.chunk.Landing.TheVariants as landings
use Rattle.job_table.specs.Table.{is_live, is_running, landing_at, passes, table_landing}
use Rattle.job_table.specs.declared.job.Job.{Job}
use Rattle.nfs_base.specs.declared.job.JobName.{JobName}
use Rattle.nfs_base.specs.declared.job.Stop.{Stop}

-- ---- a destination that was just opened has no job

pub none_kept : (boot capacity : ℕ) (source : Peer) (principal : List ℕ) → IsKept (no_copier boot capacity source principal).copies.book.table
none_kept boot capacity source principal = record {
  sound = record {
    lawful = All-nil (λ (x : Job). IsLawful x.plan.consecutive x.log.entries);
    claims = All-nil (λ (x : Job). ClaimsAreNew x.log);
    apart = λ i j d less low. absurd (omega (arith, low));
    few = omega arith;
    rising = λ i j d less low. absurd (omega (arith, low));
    given = All-nil (λ (x : Job). (0 < x.number) × (x.number ≤ 0));
  };
  same_order = All-nil (λ (x : Job). x.log.consecutive ≡ x.plan.consecutive);
}

-- ---- a job that runs

ended_not : (ended : Bool) → not ended ≡ true → ended ≡ false
ended_not false is = refl
ended_not true is = absurd (cc)

runs_by : (found : Option Job) (job : Job) → found ≡ Some job → passes is_live found ≡ true → has_ended job.log.entries ≡ false
runs_by found job is runs = ended_not (has_ended job.log.entries) (ap (λ (o : Option Job). passes is_live o) (sym is) ∙ runs)

runs_so : (b : BookView) (name : JobName) (job : Job) → named b.table name ≡ Some job → is_running b.table (id_of name) ≡ true → has_ended job.log.entries ≡ false
runs_so b name job is runs = runs_by (named b.table name) job is runs

module _ (laws : LogLaws) where
  pub stop_keeps : (cause : Stop) (name : JobName) (b : BookView) → is_running b.table (id_of name) ≡ true → IsKept b.table
      → IsKept (with_its name (λ log. stopped cause log) b).table
  stop_keeps cause name b runs kept =
      log_keeps (λ log. stopped cause log) name b kept
      (λ job is. stop_follows laws b.table.capacity job.plan cause job.log (good_job b.table name job kept is) (runs_so b name job is runs))

  pub commit_keeps : (name : JobName) (b : BookView) → is_running b.table (id_of name) ≡ true → is_whole (named b.table name) ≡ true → IsKept b.table
      → IsKept (with_its name (λ log. with_entry log Committed) b).table
  commit_keeps name b runs whole kept =
      log_keeps (λ log. with_entry log Committed) name b kept
      (λ job is. commit_follows laws b.table.capacity job.plan job.log (good_job b.table name job kept is) (runs_so b name job is runs)
      (ap is_whole (sym is) ∙ whole))

  pub size_keeps : (spare len size : ℕ) (name : JobName) (b : BookView) (job : Job) → named b.table name ≡ Some job → is_running b.table (id_of name) ≡ true
      → size_in (named b.table name) ≡ None → length_for job.plan b.table.capacity size ≡ Ok len → IsKept b.table
      → IsKept (with_its name (λ log. sized (record log { spare = spare }) len) b).table
  size_keeps spare len size name b job there runs unsized gives kept =
      log_keeps (λ log. sized (record log { spare = spare }) len) name b kept
      (λ x is.
      let same : job ≡ x = (let a = there in let e = is in cc) in
      size_follows laws b.table.capacity x.plan spare len size x.log (good_job b.table name x kept is) (runs_so b name x is runs)
      (ap size_in (sym is) ∙ unsized) (subst (λ (y : Job). length_for y.plan b.table.capacity size ≡ Ok len) same gives))

  landing_so : (chunk : Chunk) (found : Option Job) (job : Job) → found ≡ Some job → landing_at found chunk ≡ landings.Landed → landing_at (Some job) chunk ≡ landings.Landed
  landing_so chunk found job is lands = ap (λ (o : Option Job). landing_at o chunk) (sym is) ∙ lands

  pub land_keeps : (name : JobName) (chunk : Chunk) (b : BookView) → table_landing b.table (id_of name) chunk ≡ landings.Landed → IsKept b.table
      → IsKept (with_its name (λ log. after_landing log chunk landings.Landed) b).table
  land_keeps name chunk b lands kept =
      log_keeps (λ log. after_landing log chunk landings.Landed) name b kept
      (λ job is. land_follows laws b.table.capacity job.plan job.log chunk (good_job b.table name job kept is) (landing_so chunk (named b.table name) job is lands))

  -- ---- what gives no entry

  claim_keeps : (name : JobName) (b : BookView) (chunk : Option Chunk) → next_chunk (named b.table name) ≡ chunk → IsKept b.table → IsKept (claimed chunk name b).table
  claim_keeps name b None next kept = kept
  claim_keeps name b (Some chunk) next kept =
      log_keeps (λ log. with_claim log chunk true) name b kept
      (λ job is. claim_follows laws b.table.capacity job.plan job.log chunk (has_ended job.log.entries) (good_job b.table name job kept is) (ap next_chunk (sym is) ∙ next))

  back_keeps : (name : JobName) (chunk : Chunk) (b : BookView) → IsKept b.table → IsKept (with_its name (λ log. given_back log chunk) b).table
  back_keeps name chunk b kept =
      log_keeps (λ log. given_back log chunk) name b kept
      (λ job is. back_follows laws b.table.capacity job.plan job.log chunk (good_job b.table name job kept is))

  by_book : (b c : BookView) → c ≡ b → IsKept b.table → IsKept c.table
  by_book b c is kept = subst (λ (x : BookView). IsKept x.table) (sym is) kept

  deed_keeps : (deed : Deed) (b c : BookView) → entry_in deed ≡ 0 → Does deed b c → IsKept b.table → IsKept c.table
  deed_keeps (does.Accepts plan) b c quiet done kept = by_book (after_accept (accept_answer b.table plan) plan b) c done (accept_keeps plan b kept)
  deed_keeps (does.Sizes spare len name) b c quiet done kept = absurd (omega (arith, quiet))
  deed_keeps (does.Claims name) b c quiet done kept =
      by_book (claimed (next_chunk (named b.table name)) name b) c done (claim_keeps name b (next_chunk (named b.table name)) refl kept)
  deed_keeps (does.GivesBack name chunk) b c quiet done kept = by_book (with_its name (λ log. given_back log chunk) b) c done (back_keeps name chunk b kept)
  deed_keeps (does.Lands name chunk) b c quiet done kept = absurd (omega (arith, quiet))
  deed_keeps (does.Stops cause name) b c quiet done kept = absurd (omega (arith, quiet))
  deed_keeps (does.Commits name) b c quiet done kept = absurd (omega (arith, quiet))
  deed_keeps (does.Retires name) b c quiet done kept = by_book (retired name b) c done (end_keeps name b kept)

  all_keep : (deeds : List Deed) (b c : BookView) → sum_by entry_in deeds ≤ 0 → Comes deeds b c → IsKept b.table → IsKept c.table
  unfolding Comes
  all_keep [] b c few come kept = by_book b c come kept
  all_keep (deed ∷ deeds) b c few come kept =
      let single : sum_by entry_in (deed ∷ []) ≡ 0 + entry_in deed = refl in
      let total : sum_by entry_in (deed ∷ deeds) ≡ sum_by entry_in (deed ∷ []) + sum_by entry_in deeds = sum_by-append entry_in (deed ∷ []) deeds in
      all_keep deeds come.0 c (omega (arith, single, total, few)) come.2 (deed_keeps deed b come.0 (omega (arith, single, total, few)) come.1 kept)

  pub quiet_keeps : {a : ℕ} (b c : BookView) → GoesWithin a 0 b c → IsKept b.table → IsKept c.table
  quiet_keeps b c goes kept = all_keep goes.deeds b c goes.few_entries goes.come kept

  -- ---- copies are taken, and jobs end

  taking_quiet : (deed : Deed) → is_taking deed ≡ true → entry_in deed ≡ 0
  taking_quiet (does.Accepts plan) is = refl
  taking_quiet (does.Sizes spare len name) is = absurd (cc)
  taking_quiet (does.Claims name) is = absurd (cc)
  taking_quiet (does.GivesBack name chunk) is = absurd (cc)
  taking_quiet (does.Lands name chunk) is = absurd (cc)
  taking_quiet (does.Stops cause name) is = absurd (cc)
  taking_quiet (does.Commits name) is = absurd (cc)
  taking_quiet (does.Retires name) is = refl

  taking_keeps : (deeds : List Deed) (b c : BookView) → AreOf is_taking deeds → Comes deeds b c → IsKept b.table → IsKept c.table
  unfolding Comes
  taking_keeps [] b c are come kept = by_book b c come kept
  taking_keeps (deed ∷ deeds) b c are come kept =
      taking_keeps deeds come.0 c are.1 come.2 (deed_keeps deed b come.0 (taking_quiet deed are.0) come.1 kept)

  pub takes_keep : (b c : BookView) → TakesAndEnds b c → IsKept b.table → IsKept c.table
  takes_keep b c takes kept = taking_keeps takes.deeds b c takes.are takes.come kept
