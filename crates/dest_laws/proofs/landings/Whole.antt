-- What each step of a destination owes for lengths, landings and what is held.
use Rattle.std.proofs.Common.{◌≡◌, ◌∙◌, ◌⊎◌, inl, inr, ℕ, true, false, List, [], ◌∷◌, length, Option, Some, None, refl, sym, ap, subst}
use Rattle.std.specs.Prelude.{max, suc}
use Rattle.dest_core.specs.Stepping as steps
use Rattle.dest_core.specs.Stepping.{DestState, DestStep, IsReply, IsWork, copier_in, failure_step, tick_step}
use Rattle.dest_laws.proofs.landings.Deeds.{is_plain}
use Rattle.dest_laws.proofs.landings.Fetched.{AreAwaited, AreRead}
use Rattle.dest_laws.proofs.landings.Fronts.{DueLaw}
use Rattle.dest_laws.proofs.landings.Heard.{Brings, IfLands, IsQuiet, Sizes, heard_so, means_of}
use Rattle.dest_laws.proofs.landings.Holdings.{failure_has, holds_so, reply_has, same_has, tick_has, work_has}
use Rattle.dest_laws.proofs.landings.Keeping.{work_at}
use Rattle.dest_laws.proofs.landings.Outcomes.{IsEffect, Outcome, book_at, is_writing, stop_plain}
use Rattle.dest_laws.proofs.landings.Plans.{DeedLaws}
use Rattle.dest_laws.proofs.landings.Pushed.{KeepsLaw}
use Rattle.dest_laws.proofs.landings.Summaries.{IsStep, WasHeld, reply_step_is, work_step}
use Rattle.dest_laws.proofs.landings.Taking.{fetched, sizes_lands_well, used_none}
use Rattle.dest_laws.proofs.landings.Turns.{SendLaws}
use Rattle.dest_laws.proofs.landings.Wells.{call_is, calls_land, landing_is, landing_lands, landing_lands_well, none_is, none_lands, piece_of, plain_lands_well}
use Rattle.dest_laws.specs.Histories.Kinds.{AreOf, Ends, GoesBy, TakesAndEnds, is_end, is_taking}
use Rattle.dest_laws.specs.Landings.Orderly.{IsOrderly, LandsAndHolds}
use Rattle.dest_laws.specs.Landings.Posted.{AreSpelled, IsPosted, asked_at}
use Rattle.dest_laws.specs.Landings.Seating.{SameWork}
use Rattle.dest_laws.specs.Own.Going.{jobs_in}
use Rattle.dest_laws.specs.Own.GoingLaws.{both, none}
use Rattle.dest_laws.specs.View.Steps.{Shows, ShowsStep, part_by}
use Rattle.dest_laws.specs.View.View.{held_in}
use Rattle.dest_steps.specs.Copier.{Codes}
use Rattle.dest_steps.specs.Failing.{failed, failing, given_up}
use Rattle.dest_steps.specs.declared.copier.Copier.{Copier}
use Rattle.dest_steps.specs.declared.failing.Failing.{Failing}
use Rattle.dest_steps.specs.declared.failing.Failing.TheVariants as fails
use Rattle.dest_steps.specs.declared.replying.Effect.{Effect}
use Rattle.dest_steps.specs.declared.replying.Effect.TheVariants as effects
use Rattle.dest_tasks.specs.Completing as deeds
use Rattle.dest_tasks.specs.Completing.{Comes, Deed}
use Rattle.dest_work.specs.Work.{plan_in}
use Rattle.job_book.specs.Book.{BookView, IsSound, named}
use Rattle.job_log.specs.declared.chunk.Chunk.{Chunk}
use Rattle.job_table.specs.declared.job.Job.{Job}
use Rattle.job_table.specs.declared.job.Plan.{Plan}
use Rattle.mount.specs.State.{Mounted}
use Rattle.nfs_base.specs.declared.job.JobName.{JobName}
use Rattle.nfs_base.specs.declared.job.Stop.TheVariants.{LinkFault}
use Rattle.nfs_base.specs.declared.seal.End.{End}
use Rattle.server_volume.specs.declared.used.Used.{Used}
use Rattle.streams.specs.declared.draws.Drawn.{Drawn}
use Rattle.wire_lines.specs.declared.letters.Speaker.{Speaker}
use Rattle.wire_machine.specs.History.{effect_of, is_call}
use Rattle.wire_meaning.specs.Meaning.{meaning}
use Rattle.wire_model.specs.CopyLaws.{IsAtHand, IsFetched}
use Rattle.wire_model.specs.Meaning.{Meaning}
use Rattle.wire_model.specs.Spelling.{Spelling}
use Rattle.wire_model.specs.System.{Chunk as Piece, System}
use Rattle.wire_model.specs.Wire.{Executed}
use Rattle.wire_spelling.specs.Spelling.{spelling}
use Rattle.wire_xdr.specs.Cursor.{IsBytes}

-- ---- copies are taken and jobs end

taking_plain : (all : List Deed) → AreOf is_taking all → AreOf is_plain all
taking_plain [] are = tt
taking_plain (deeds.Accepts plan ∷ more) are = (refl, taking_plain more are.1)
taking_plain (deeds.Sizes spare len name ∷ more) are = absurd cc
taking_plain (deeds.Claims name ∷ more) are = absurd cc
taking_plain (deeds.GivesBack name chunk ∷ more) are = absurd cc
taking_plain (deeds.Lands name chunk ∷ more) are = absurd cc
taking_plain (deeds.Stops cause name ∷ more) are = absurd cc
taking_plain (deeds.Commits name ∷ more) are = absurd cc
taking_plain (deeds.Retires name ∷ more) are = (refl, taking_plain more are.1)

pub taken_plain : (b c : BookView) → TakesAndEnds b c → GoesBy is_plain b c
taken_plain b c goes = record { deeds = goes.deeds; come = goes.come; are = taking_plain goes.deeds goes.are }

ending_plain : (all : List Deed) → AreOf is_end all → AreOf is_plain all
ending_plain [] are = tt
ending_plain (deeds.Accepts plan ∷ more) are = absurd cc
ending_plain (deeds.Sizes spare len name ∷ more) are = absurd cc
ending_plain (deeds.Claims name ∷ more) are = absurd cc
ending_plain (deeds.GivesBack name chunk ∷ more) are = absurd cc
ending_plain (deeds.Lands name chunk ∷ more) are = absurd cc
ending_plain (deeds.Stops cause name ∷ more) are = absurd cc
ending_plain (deeds.Commits name ∷ more) are = absurd cc
ending_plain (deeds.Retires name ∷ more) are = (refl, ending_plain more are.1)

ended_plain : (b c : BookView) → Ends b c → GoesBy is_plain b c
ended_plain b c goes = record { deeds = goes.deeds; come = goes.come; are = ending_plain goes.deeds goes.are }

none_fetched : {spell : Spelling} {meaning : Meaning} {s : System} {k : ℕ} (worker : ℕ) (chunk : Piece) → (s.holds k worker ≡ Some chunk) ⊎ ⊥
    → (s.holds k worker ≡ Some chunk) ⊎ IsFetched spell meaning s k chunk
none_fetched worker chunk (inl was) = inl was
none_fetched worker chunk (inr never) = absurd never

module _ {M : Type 0} (law : KeepsLaw) (spell : Spelling) (meaning : Meaning) (s : System) (k : ℕ) (took : Option (List ℕ)) (speaker : Speaker) (executed : Option Executed)
    (d : DestState M) (t : DestStep M) (shows : ShowsStep spell meaning s k took speaker executed d t) where
  pub record_well : TakesAndEnds (jobs_in d) (jobs_in t.host) → SameWork (copier_in d) (copier_in t.host) → is_call (part_by took speaker t) ≡ true → LandsAndHolds spell meaning s k t
  record_well goes same call = record {
    lands = plain_lands_well law spell meaning s k took speaker executed d t shows (taken_plain (jobs_in d) (jobs_in t.host) goes);
    holds = record {
      lands = calls_land law spell meaning s k took speaker executed d t shows call;
      holds = λ worker chunk is. none_fetched worker chunk
          (holds_so s k d t.host (λ c. ⊥) shows.before shows.after (same_has d (λ c. ⊥) t.host same) worker chunk is);
    };
    effect = call_is law spell meaning s k took speaker executed d t shows call;
  }

-- ---- a worker's turn

held_before : {M : Type 0} (s : System) (k : ℕ) (d : DestState M) (place : ℕ) (job : JobName) (chunk : Chunk) (bytes : List ℕ) → Shows s k d → WasHeld place d job chunk bytes
    → s.holds k place ≡ Some (piece_of job chunk bytes)
held_before s k d place job chunk bytes shown held = shown.holds place ∙ ap held_in held

abbrev HoldsLaw : Spelling → Meaning → System → ℕ → Type 0
HoldsLaw spell meaning s k =
    (worker : ℕ) (chunk : Piece) → s.holds (suc k) worker ≡ Some chunk → (s.holds k worker ≡ Some chunk) ⊎ IsFetched spell meaning s k chunk

module _ {M : Type 0} (law : KeepsLaw) (laws : DeedLaws) (spell : Spelling) (meaning : Meaning) (s : System) (k : ℕ) (took : Option (List ℕ)) (speaker : Speaker) (executed : Option Executed)
    (d : DestState M) (t : DestStep M) (shows : ShowsStep spell meaning s k took speaker executed d t) (sound : IsSound (jobs_in d).table)
    (worker : is_call (part_by took speaker t) ≡ false) (holds : HoldsLaw spell meaning s k) where
  -- by what was done
  pub step_well : (P : JobName → Chunk → List ℕ → Type 0) (step : IsStep P d t)
      → ((job : JobName) (chunk : Chunk) (bytes : List ℕ) → P job chunk bytes → (plan : Plan) → plan_in (named (jobs_in d).table job) ≡ Some plan
      → IsAtHand spell meaning s k (piece_of job chunk bytes))
      → ((job : JobName) (chunk : Chunk) (bytes : List ℕ) → P job chunk bytes → length bytes ≡ chunk.len)
      → Outcome P step.first step.last → LandsAndHolds spell meaning s k t
  step_well P step at_hand whole (inl quiet) =
      record {
        lands = plain_lands_well law spell meaning s k took speaker executed d t shows
            (both is_plain (jobs_in d) (book_at step.first) (jobs_in t.host) step.plain
            (subst (λ (b : BookView). GoesBy is_plain (book_at step.first) b) (sym step.book) quiet.plain));
        holds = record {
          lands = none_lands law spell meaning s k took speaker executed d t shows (λ v. ap (λ (u : List Used). is_writing (effect_of v u)) step.used ∙ quiet.quiet v);
          holds = holds;
        };
        effect = none_is law spell meaning s k took speaker executed d t shows (λ v. ap (λ (u : List Used). is_writing (effect_of v u)) step.used ∙ quiet.quiet v);
      }
  step_well P step at_hand whole (inr (job, chunk, bytes, held, writes)) =
      record {
        lands = landing_lands_well law laws spell meaning s k took speaker executed d t shows P step sound worker job chunk bytes held writes
            (at_hand job chunk bytes held) (whole job chunk bytes held);
        holds = record {
          lands = landing_lands law laws spell meaning s k took speaker executed d t shows P step sound worker job chunk bytes held writes
              (at_hand job chunk bytes held) (whole job chunk bytes held);
          holds = holds;
        };
        effect = landing_is law laws spell meaning s k took speaker executed d t shows P step sound worker job chunk bytes held writes
            (at_hand job chunk bytes held) (whole job chunk bytes held);
      }

pub work_well : {M W : Type 0} (sends : SendLaws) (due : DueLaw) (law : KeepsLaw) (laws : DeedLaws) (spell : Spelling) (meaning : Meaning) (s : System) (k : ℕ)
    (took : Option (List ℕ)) (speaker : Speaker) (executed : Option Executed) (gives : W → Drawn → W → Type 0) (started : List ℕ → List ℕ → Option (List ℕ)) (codes : Codes)
    (place now : ℕ) (d : DestState M) (before after : W) (t : DestStep M) → ShowsStep spell meaning s k took speaker executed d t → is_call (part_by took speaker t) ≡ false
    → IsWork gives started codes place now d before after t → IsSound (jobs_in d).table → IsOrderly d → LandsAndHolds spell meaning s k t
work_well sends due law laws spell meaning s k took speaker executed gives started codes place now d before after t shows worker work sound orderly =
    let step = work_step sends due gives started codes place now d before after t sound orderly.silent work in
    let has = work_has d (λ c. ⊥) sends gives started codes place now before after t sound work in
    step_well law laws spell meaning s k took speaker executed d t shows sound worker
    (λ w chunk is. none_fetched w chunk (holds_so s k d t.host (λ c. ⊥) shows.before shows.after has w chunk is))
    (WasHeld place d) step
    (λ job chunk bytes held plan is. inl (place, held_before s k d place job chunk bytes shows.before held))
    (λ job chunk bytes held. subst (IsPosted (jobs_in d).table (asked_at (work_at d).mount place)) held (orderly.posted place))
    step.outcome

-- ---- a record of the source

effect_brings : (effect : Effect) (job : JobName) (chunk : Chunk) (bytes : List ℕ) (Q : JobName → Chunk → List ℕ → Type 0) → IsEffect effect job chunk bytes → IfLands effect Q → Q job chunk bytes
effect_brings (effects.Drops why) job chunk bytes Q is lands = absurd is
effect_brings (effects.Goes m) job chunk bytes Q is lands = absurd is
effect_brings (effects.Denied name m) job chunk bytes Q is lands = absurd is
effect_brings (effects.Stops name cause told m) job chunk bytes Q is lands = absurd is
effect_brings (effects.Lands name piece data_in_it told m) job chunk bytes Q is lands =
    subst (λ (b : List ℕ). Q job chunk b) is.2 (subst (λ (c : Chunk). Q job c data_in_it) is.1 (subst (λ (n : JobName). Q n piece data_in_it) is.0 lands))

lands_if : (effect : Effect) (P Q : JobName → Chunk → List ℕ → Type 0) → ((job : JobName) (chunk : Chunk) (bytes : List ℕ) → P job chunk bytes → Q job chunk bytes)
    → IfLands effect P → IfLands effect Q
lands_if (effects.Drops why) P Q by lands = tt
lands_if (effects.Goes m) P Q by lands = tt
lands_if (effects.Denied job m) P Q by lands = tt
lands_if (effects.Stops job cause told m) P Q by lands = tt
lands_if (effects.Lands job chunk bytes told m) P Q by lands = by job chunk bytes lands

goes_lands : (effect : Effect) (Q : JobName → Chunk → List ℕ → Type 0) {m : Mounted} → effect ≡ effects.Goes m → IfLands effect Q
goes_lands effect Q {m} is = subst (λ (e : Effect). IfLands e Q) (sym is) tt

a_job : (o : Option Job) (plan : Plan) → plan_in o ≡ Some plan → (job : Job) × (o ≡ Some job)
a_job None plan is = absurd cc
a_job (Some job) plan is = (job, refl)

module _ {M : Type 0} (law : KeepsLaw) (laws : DeedLaws) (read : AreRead) (awaited : AreAwaited) (accepts : List ℕ → Option (List ℕ)) (whose : List ℕ → Option End) (s : System) (k : ℕ)
    (speaker : Speaker) (executed : Option Executed) (codes : Codes) (finish : List ℕ → List ℕ → Option (List ℕ)) (place : ℕ) (message : List ℕ) (now : ℕ)
    (d : DestState M) (t : DestStep M) (shows : ShowsStep (spelling accepts whose) meaning s k (Some message) speaker executed d t)
    (worker : is_call (part_by (Some message) speaker t) ≡ false) (reply : IsReply codes finish place message now d t) (all : IsBytes message)
    (sound : IsSound (jobs_in d).table) (orderly : IsOrderly d) (spelled : AreSpelled (work_at d).mount) where
  abbrev spell : Spelling
  spell = spelling accepts whose

  abbrev Here : JobName → Chunk → List ℕ → Type 0
  Here = Brings (means_of codes finish) place message (copier_in d) reply.heard

  fetch : (job : JobName) (chunk : Chunk) (bytes : List ℕ) → Here job chunk bytes → (found : Job) → named (jobs_in d).table job ≡ Some found
      → IsFetched spell meaning s k (piece_of job chunk bytes)
  fetch job chunk bytes brings found is =
      fetched accepts whose read awaited s k speaker executed codes finish place message now d t shows reply all sound orderly.posted spelled job chunk bytes found brings is

  abbrev FetchedIn : Copier → JobName → Chunk → List ℕ → Type 0
  FetchedIn x job chunk bytes = (found : Job) → named x.copies.book.table job ≡ Some found → IsFetched spell meaning s k (piece_of job chunk bytes)

  holds_by : IfLands reply.heard.effect (FetchedIn reply.copier) → HoldsLaw spell meaning s k
  holds_by brings worker chunk is =
      holds_so s k d t.host (IsFetched spell meaning s k) shows.before shows.after
      (reply_has d (IsFetched spell meaning s k) codes finish place message now t reply brings) worker chunk is

  -- no length becomes known
  quiet_well : IsQuiet (means_of codes finish) place message (copier_in d) reply.heard reply.copier → LandsAndHolds spell meaning s k t
  quiet_well quiet =
      let step = reply_step_is codes finish place message now d t orderly.silent reply quiet.still in
      let brings = subst (λ (x : Copier). IfLands reply.heard.effect (FetchedIn x)) (sym quiet.still)
      (lands_if reply.heard.effect Here (FetchedIn (copier_in d)) (λ job chunk bytes b found is. fetch job chunk bytes b found is) quiet.lands) in
      step_well law laws spell meaning s k (Some message) speaker executed d t shows sound worker (holds_by brings) (IsEffect reply.heard.effect) step
      (λ job chunk bytes is plan planned.
      let found = a_job (named (jobs_in d).table job) plan planned in
      inr (fetch job chunk bytes (effect_brings reply.heard.effect job chunk bytes Here is quiet.lands) found.0 found.1))
      (λ job chunk bytes is. (effect_brings reply.heard.effect job chunk bytes Here is quiet.lands).whole)
      step.outcome

  sized_well : (sizes : Sizes (means_of codes finish) place message (copier_in d) reply.heard reply.copier) → LandsAndHolds spell meaning s k t
  sized_well sizes =
      let none_used = used_none accepts whose read awaited s k speaker executed codes finish place message now d t shows reply all sound orderly.posted spelled sizes in
      record {
        lands = sizes_lands_well accepts whose read awaited s k speaker executed codes finish place message now d t shows reply all sound orderly.posted spelled sizes law;
        holds = record {
          lands = none_lands law spell meaning s k (Some message) speaker executed d t shows (λ v. ap (λ (u : List Used). is_writing (effect_of v u)) none_used);
          holds = holds_by (goes_lands reply.heard.effect (FetchedIn reply.copier) sizes.effect_is);
        };
        effect = none_is law spell meaning s k (Some message) speaker executed d t shows (λ v. ap (λ (u : List Used). is_writing (effect_of v u)) none_used);
      }

  pub reply_well : LandsAndHolds spell meaning s k t
  reply_well =
      let so = heard_so codes finish (steps.around (max d.second now) d) place message (copier_in d) reply.heard reply.copier reply.is_heard in
      elim so.either [
        | inl quiet ↦ quiet_well quiet
        | inr sizes ↦ sized_well sizes
      ]

-- ---- a link that failed, and a second that comes by itself

failed_plain : (f : Failing) (x : Copier) → GoesBy is_plain x.copies.book (failed f x).0.copies.book
failed_plain fails.Nothing x = none is_plain x.copies.book x.copies.book refl
failed_plain (fails.Stops job told) x = stop_plain LinkFault job x.copies

module _ {M : Type 0} (law : KeepsLaw) (spell : Spelling) (meaning : Meaning) (s : System) (k : ℕ) (took : Option (List ℕ)) (speaker : Speaker) (executed : Option Executed) (d : DestState M) where
  pub failure_well : (codes : Codes) (place : ℕ) → ShowsStep spell meaning s k took speaker executed d (failure_step codes place d) → LandsAndHolds spell meaning s k (failure_step codes place d)
  failure_well codes place shows =
      let t = failure_step codes place d in
      record {
        lands = plain_lands_well law spell meaning s k took speaker executed d t shows
            (failed_plain (failing codes (steps.around d.second d) place (copier_in d)) (given_up place (copier_in d)));
        holds = record {
          lands = none_lands law spell meaning s k took speaker executed d t shows (λ v. refl);
          holds = λ worker chunk is. none_fetched worker chunk
              (holds_so s k d t.host (λ c. ⊥) shows.before shows.after (failure_has d (λ c. ⊥) codes place) worker chunk is);
        };
        effect = none_is law spell meaning s k took speaker executed d t shows (λ v. refl);
      }

  pub tick_well : (codes : Codes) (now : ℕ) → Ends (jobs_in d) (jobs_in (tick_step codes now d).host) → ShowsStep spell meaning s k took speaker executed d (tick_step codes now d)
      → LandsAndHolds spell meaning s k (tick_step codes now d)
  tick_well codes now ends shows =
      let t = tick_step codes now d in
      record {
        lands = plain_lands_well law spell meaning s k took speaker executed d t shows (ended_plain (jobs_in d) (jobs_in t.host) ends);
        holds = record {
          lands = none_lands law spell meaning s k took speaker executed d t shows (λ v. refl);
          holds = λ worker chunk is. none_fetched worker chunk
              (holds_so s k d t.host (λ c. ⊥) shows.before shows.after (tick_has d (λ c. ⊥) codes now) worker chunk is);
        };
        effect = none_is law spell meaning s k took speaker executed d t shows (λ v. refl);
      }
