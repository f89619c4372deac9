-- Whole steps of a destination: what each does to its jobs, and why.
use Rattle.std.proofs.Common.{inl, inr, ℕ, List, ◌++◌, Option, refl, sym, subst}
use Rattle.std.specs.Prelude.{max}
use Rattle.dest_core.specs.Stepping.{DestState, DestStep, IsReply, IsWork, around, copier_in, doing_in, failure_step, second_in, tick_step, turn_step, with_copier, without_lapsed}
use Rattle.dest_laws.proofs.copies.Joined.{both, few_entries_of, well_by}
use Rattle.dest_laws.proofs.copies.Turns.{failure_goes, heard_goes, silent, turn_goes}
use Rattle.dest_laws.specs.Copies.Story.{GoesWell, IsMet, Story}
use Rattle.dest_laws.specs.Deeds.{ByDeeds, GoesWithin}
use Rattle.dest_laws.specs.Histories.Kinds.{is_taking}
use Rattle.dest_laws.specs.Own.Begins.{BeginsQuietly}
use Rattle.dest_laws.specs.Own.Going.{jobs_in}
use Rattle.dest_laws.specs.Own.GoingLaws.{after_those, none as ends_none}
use Rattle.dest_steps.specs.Copier.{Codes}
use Rattle.dest_steps.specs.Failing.{failing}
use Rattle.dest_steps.specs.declared.turning.Turn.{Turn as DueTurn}
use Rattle.job_book.specs.Book.{BookView}
use Rattle.server_volume.specs.Choices.{Choice, choice_of}
use Rattle.server_volume.specs.declared.used.Used.{Used}
use Rattle.streams.specs.declared.draws.Drawn.{Drawn}

-- ---- a worker's turn

-- nothing that gives an entry was done yet
turn_step_goes : {M W : Type 0} {gives : W → Drawn → W → Type 0} → BeginsQuietly M gives → (b : BookView) (choice : Choice) (place now : ℕ) (turn : DueTurn) (s : DestState M) → GoesWithin 0 0 b (jobs_in s)
    → GoesWell (IsMet b (turn_step choice place now turn s).out.used) 0 1 b (jobs_in (turn_step choice place now turn s).host)
turn_step_goes quiet b choice place now turn s first =
    let ticked = second_in now s in
    let t = without_lapsed ticked in
    let ended = quiet.lapsed ticked in
    let used = (turn_step choice place now turn s).out.used in
    let came : ByDeeds b (jobs_in t) = (first.deeds ++ ended.deeds, after_those first.deeds ended.deeds b (jobs_in s) (jobs_in t) first.come ended.come) in
    both (IsMet b used) b (jobs_in s) (jobs_in (turn_step choice place now turn s).host) (well_by (IsMet b used) (silent b used) b (jobs_in s) first)
    (both (IsMet b used) (jobs_in s) (jobs_in t) (jobs_in (turn_step choice place now turn s).host) (well_by (IsMet b used) (silent b used) (jobs_in s) (jobs_in t) ended)
    (turn_goes b choice place turn (doing_in t) refl came))

pub work_story : {M W : Type 0} (gives : W → Drawn → W → Type 0) → BeginsQuietly M gives → (started : List ℕ → List ℕ → Option (List ℕ)) (codes : Codes) (place now : ℕ)
    (s : DestState M) (before after : W) (t : DestStep M) → IsWork gives started codes place now s before after t → Story (jobs_in s) (jobs_in t.host) t.out.used
work_story {M} gives quiet started codes place now s before after t work =
    let choice = choice_of t.out.used in
    let start : DestState M = with_copier work.copier s in
    let is = work.is choice (λ n below. refl) in
    inr (subst (λ (u : DestStep M). GoesWell (IsMet (jobs_in s) u.out.used) 0 1 (jobs_in s) (jobs_in u.host)) (sym is)
    (turn_step_goes quiet (jobs_in s) choice place now work.turn start
    (quiet.due started codes (around (max s.second now) s) place (copier_in s) before after (work.turn, work.copier) work.due)))

-- ---- a record of the source

pub reply_story : {M : Type 0} → (codes : Codes) (finish : List ℕ → List ℕ → Option (List ℕ)) (place : ℕ) (message : List ℕ) (now : ℕ)
    (s : DestState M) (t : DestStep M) → IsReply codes finish place message now s t → Story (jobs_in s) (jobs_in t.host) t.out.used
reply_story {M} codes finish place message now s t reply =
    let choice = choice_of t.out.used in
    let start : DestState M = with_copier reply.copier s in
    let is = reply.is choice (λ n below. refl) in
    inr (subst (λ (u : DestStep M). GoesWell (IsMet (jobs_in s) t.out.used) 0 1 (jobs_in s) (jobs_in u.host)) (sym is)
    (heard_goes t.out.used choice place codes finish (around (max s.second now) s) place message (copier_in s) reply.heard reply.copier
    (doing_in (second_in now start)) reply.is_heard refl))

-- ---- a link that failed

pub failure_story : {M : Type 0} → (codes : Codes) (place : ℕ) (s : DestState M)
    → Story (jobs_in s) (jobs_in (failure_step codes place s).host) (failure_step codes place s).out.used
failure_story codes place s =
    inr (failure_goes (jobs_in s) (failure_step codes place s).out.used place (failing codes (around s.second s) place (copier_in s)) (copier_in (second_in s.second s)))

-- ---- a second that comes by itself, and no step at all

pub tick_story : {M W : Type 0} {gives : W → Drawn → W → Type 0} → BeginsQuietly M gives → (codes : Codes) (now : ℕ) (s : DestState M)
    → Story (jobs_in s) (jobs_in (tick_step codes now s).host) (tick_step codes now s).out.used
tick_story quiet codes now s =
    let c = jobs_in (tick_step codes now s).host in
    let used = (tick_step codes now s).out.used in
    inr (few_entries_of (IsMet (jobs_in s) used) (jobs_in s) c (well_by (IsMet (jobs_in s) used) (silent (jobs_in s) used) (jobs_in s) c (quiet.lapsed (second_in now s))))

pub rest_story : {M : Type 0} → (s : DestState M) (used : List Used) → Story (jobs_in s) (jobs_in s) used
rest_story s used = inl (ends_none is_taking (jobs_in s) (jobs_in s) refl)
