-- What is due, and what goes out by a whole step, tells clients what is right.
use Rattle.std.proofs.Common.{◌≡◌, ℕ, zero, suc, ◌+◌, ◌<◌, ◌^◌, Bool, true, false, List, Option, Some, None, Result, Ok, Err, refl, sym, ap, subst, lit<}
use Rattle.std.specs.Prelude.{max, nat_le, nat_lt, length, if◌then◌else◌, option_map}
use Rattle.dest_back.specs.Callbacks.{CallbackTable, post_at as called_at, sent_in}
use Rattle.dest_back.specs.declared.compound.Ended.{Ended}
use Rattle.dest_back.specs.declared.telling.Sent.{Sent as Callback}
use Rattle.dest_core.specs.Stepping.{DestState, DestStep, IsReply, IsWork, around as seen_around, copier_in, doing_in, failure_step, second_in, tick_step, turn_step, with_copier as put_copier, without_lapsed}
use Rattle.dest_jobs.specs.Ending.{expires}
use Rattle.dest_jobs.specs.declared.copies.Copies.{Copies}
use Rattle.dest_laws.proofs.names.Callbacks.{again_goes, one_more}
use Rattle.dest_laws.proofs.names.Caused.{its_caused, sized_caused, stops_caused}
use Rattle.dest_laws.proofs.names.Sealed.{AskedOwn, SentOwn, again_own, begun_own, for_own, turn_own}
use Rattle.dest_laws.proofs.names.Turned.{HaveIn, IsDone, IsTold, LandingIsTold, TurnIsTold, commit_right, disk_small, landing_right, lands_right, link_small, stop_right, turn_right, xid_small}
use Rattle.dest_laws.specs.Names.Causes.{Fails, HaveCauses}
use Rattle.dest_laws.specs.Names.Posts.{AreNotClients, AreRight, BacksFit, CanCommit, CanStop, FindFailures, Goes, GoRight, GoesRight, IsCommitted}
use Rattle.dest_steps.specs.Calls.{errand_label}
use Rattle.dest_steps.specs.Copier.{Around, Codes, xid_of}
use Rattle.dest_steps.specs.Failing.{failed, failing, failing_for, failing_if, given_up}
use Rattle.dest_steps.specs.Landing.{Doing, Done, with_copier}
use Rattle.dest_steps.specs.Replying.{IsFound, IsHeardBy, IsHeardIf, IsSizedBy, IsSizedIf, IsStill, bytes_due, effect_done, is_read, len_for, may_size, mounted, stop_due, stop_effect, taken_of}
use Rattle.dest_steps.specs.Telling.{call_at, callback}
use Rattle.dest_steps.specs.Ticking.{again, at_next, call_added, call_again, call_by, call_for, call_if, calls_from, job_again, job_told, jobs_from, none_again, told_added, told_by, told_for, told_if}
use Rattle.dest_steps.specs.Turning.{IsDue, IsTurn, IsTurnOf, begun_turn, drawn_turn, held_landing, send_at, with_turn}
use Rattle.dest_steps.specs.declared.copier.Copier.{Copier}
use Rattle.dest_steps.specs.declared.failing.Failing.{Failing}
use Rattle.dest_steps.specs.declared.failing.Failing.TheVariants as fails
use Rattle.dest_steps.specs.declared.replying.Effect.{Effect}
use Rattle.dest_steps.specs.declared.replying.Effect.TheVariants as effects
use Rattle.dest_steps.specs.declared.replying.Heard.{Heard}
use Rattle.dest_steps.specs.declared.ticking.Again.{Again}
use Rattle.dest_steps.specs.declared.turning.Turn.{Turn as DueTurn}
use Rattle.dest_tasks.specs.Posts.{asks, job_in, post_at}
use Rattle.dest_tasks.specs.Seats.{seat_of}
use Rattle.dest_tasks.specs.Tasks.{is_gone}
use Rattle.dest_tasks.specs.declared.post.Errand.{Errand}
use Rattle.dest_tasks.specs.declared.post.Errand.TheVariants as errands
use Rattle.dest_tasks.specs.declared.workers.TheConstants.{WORKERS}
use Rattle.dest_work.specs.Findings.{range_len}
use Rattle.dest_work.specs.Work.{Turn, begun_for, is_due, turn}
use Rattle.dest_work.specs.declared.finding.Finding.{Finding}
use Rattle.dest_work.specs.declared.finding.Finding.TheVariants as findings
use Rattle.dest_work.specs.declared.work.Due.{Due}
use Rattle.dest_work.specs.declared.work.Due.TheVariants as dues
use Rattle.dest_work.specs.declared.work.Taken.{Taken}
use Rattle.dest_work.specs.declared.work.Work.{Work}
use Rattle.job_book.specs.Book.{BookView, client_of, id_of, named, next_name}
use Rattle.job_table.specs.Table.{is_running}
use Rattle.job_table.specs.declared.job.Job.{Job}
use Rattle.mount.specs.Sending.{begun, sent_again}
use Rattle.mount.specs.State.{Mounted, awaited_at, setup_in}
use Rattle.mount.specs.declared.machine.SendAt.{SendAt}
use Rattle.mount.specs.declared.machine.Sent.{Sent}
use Rattle.nfs_base.specs.declared.job.JobName.{JobName}
use Rattle.nfs_base.specs.declared.job.Stop.{Stop}
use Rattle.nfs_base.specs.declared.job.Stop.TheVariants.{DiskFault, LinkFault, NoRoom, PastEnd, SourceRefused}
use Rattle.nfs_base.specs.declared.limits.TheConstants.{MOST_JOBS, NAME_LIMIT}
use Rattle.nfs_base.specs.declared.status.Status.{Status}
use Rattle.nfs_base.specs.declared.status.TheConstants.Status.{PARTNER_NO_AUTH}
use Rattle.server_volume.specs.Choices.{Choice, choice_of}
use Rattle.session_client.specs.declared.setup.Setup.{Setup}
use Rattle.streams.specs.declared.draws.Drawn.{Drawn}
use Rattle.streams.specs.declared.draws.Drawn.TheVariants as draws

pub auth_small : Fails (SourceRefused PARTNER_NO_AUTH)
auth_small status is = let same : PARTNER_NO_AUTH ≡ status = cc in subst (λ (s : Status). (0 < s.number) × (s.number < 2 ^ 32)) same (lit< tt, lit< tt)

pub past_small : Fails PastEnd
past_small status is = let same : record { number = 22 } ≡ status = cc in subst (λ (s : Status). (0 < s.number) × (s.number < 2 ^ 32)) same (lit< tt, lit< tt)

room_small : Fails NoRoom
room_small status is = let same : record { number = 27 } ≡ status = cc in subst (λ (s : Status). (0 < s.number) × (s.number < 2 ^ 32)) same (lit< tt, lit< tt)

module _ (codes : Codes) (right : Ended → Type 0) (around : Around) (backs : BacksFit around.sessions) (can : JobName → Type 0)
    (commits : (name : JobName) → can name → CanCommit around right name) where
  -- ---- what is due in a worker's turn

  record DueIsTold (back : CallbackTable) (was : BookView) (t : DueTurn × Copier) : Type 0 where
    told : TurnIsTold codes right can t.0
    same : t.1.back ≡ back
    book : t.1.copies.book ≡ was

  held_told : (job : Option JobName) (x : Copier) → AreRight right x.back → CanStop around right x.copies.book.table → LandingIsTold codes right (held_landing codes around job x)
  held_told None x are stop = tt
  held_told (Some job) x are stop = landing_right codes right around backs job x are stop

  begun_told : (place : ℕ) (job : JobName) (outcome : Option Sent × Work) (x : Copier) → SentOwn outcome.0 → AreRight right x.back → CanStop around right x.copies.book.table
      → DueIsTold x.back x.copies.book (begun_turn codes around place job outcome x)
  begun_told place job (None, w) x own are stop = record { told = (stop_right codes right around backs job (SourceRefused PARTNER_NO_AUTH) x are stop auth_small, auth_small); same = refl; book = refl }
  begun_told place job (Some sent, w) x own are stop = record { told = own; same = refl; book = refl }

  drawn_told : (started : List ℕ → List ℕ → Option (List ℕ)) (at : SendAt) (job : JobName) (drawn : Drawn) (x : Copier) → AreRight right x.back → CanStop around right x.copies.book.table
      → DueIsTold x.back x.copies.book (drawn_turn started codes around at job drawn x)
  drawn_told started at job draws.Failed x are stop = record { told = tt; same = refl; book = refl }
  drawn_told started at job (draws.Got nonce) x are stop =
      begun_told at.place job (begun_for at.place job (begun at nonce (started x.principal nonce) x.work.mount) x.work) x
      (for_own at.place job (begun at nonce (started x.principal nonce) x.work.mount) x.work (begun_own codes.mic at nonce (started x.principal nonce) x.work.mount)) are stop

  module _ {W : Type 0} (gives : W → Drawn → W → Type 0) (started : List ℕ → List ℕ → Option (List ℕ)) (before after : W) where
    due_told : (at : SendAt) (setup : Setup) (due : Due) (x : Copier) (t : DueTurn × Copier) → AskedOwn due → AreRight right x.back → CanStop around right x.copies.book.table
        → IsDue gives started codes around at setup due x before after t → DueIsTold x.back x.copies.book t
    due_told at setup dues.Rest x t own are stop is = subst (DueIsTold x.back x.copies.book) (sym is.is) (record { told = tt; same = refl; book = refl })
    due_told at setup dues.Land x t own are stop is =
        subst (DueIsTold x.back x.copies.book) (sym is.is) (record { told = held_told (job_in (post_at x.work.workers at.place)) x are stop; same = refl; book = refl })
    due_told at setup (dues.Begin job) x t own are stop is = subst (DueIsTold x.back x.copies.book) (sym is.is) (drawn_told started at job is.drawn x are stop)
    due_told at setup (dues.Asked errand sent) x t own are stop is = subst (DueIsTold x.back x.copies.book) (sym is.is) (record { told = own; same = refl; book = refl })
    due_told at setup (dues.Commit job) x t own are stop is =
        subst (DueIsTold x.back x.copies.book) (sym is.is)
        (record { told = (λ may. commit_right codes right around backs job x are (commits job may), stop_right codes right around backs job DiskFault x are stop disk_small); same = refl; book = refl })

    -- what may be told of the jobs of this table, and of the same once a chunk is claimed
    turn_told : (short : Bool) (xid : Option ℕ) (place : ℕ) (x : Copier) (t : DueTurn × Copier) → AreNotClients x.work.mount.contexts → AreRight right x.back
        → ((at : SendAt) → CanStop around right (turn codes.mic at x.principal around.sessions x.work x.copies.book).book.table)
        → (have : HaveCauses x.copies.book.table) → ((at : SendAt) → HaveCauses (turn codes.mic at x.principal around.sessions x.work x.copies.book).book.table)
        → IsTurn short xid gives started codes around place x before after t → TurnIsTold codes right can t.0 × (t.1.back ≡ x.back) × HaveCauses t.1.copies.book.table
    turn_told false xid place x t own are stop have due is =
        subst (λ (u : DueTurn × Copier). TurnIsTold codes right can u.0 × (u.1.back ≡ x.back) × HaveCauses u.1.copies.book.table) (sym is.is) (tt, refl, have)
    turn_told true None place x t own are stop have due is =
        subst (λ (u : DueTurn × Copier). TurnIsTold codes right can u.0 × (u.1.back ≡ x.back) × HaveCauses u.1.copies.book.table) (sym is.is) (tt, refl, have)
    turn_told true (Some xid) place x t own are stop have keeps is =
        let at = send_at around place xid in
        let due : Turn = turn codes.mic at x.principal around.sessions x.work x.copies.book in
        let told = due_told at (setup_in x.work.mount.standing) due.told.0 (with_turn due x) t (turn_own codes.mic at x.principal x.work own around.sessions x.copies.book) are (stop at) is in
        (told.told, told.same, subst (λ (b : BookView). HaveCauses b.table) (sym told.book) (keeps at))

    pub due_is_told : (place : ℕ) (x : Copier) (t : DueTurn × Copier) → AreNotClients x.work.mount.contexts → AreRight right x.back
        → ((at : SendAt) → CanStop around right (turn codes.mic at x.principal around.sessions x.work x.copies.book).book.table)
        → (have : HaveCauses x.copies.book.table) → ((at : SendAt) → HaveCauses (turn codes.mic at x.principal around.sessions x.work x.copies.book).book.table)
        → IsTurnOf gives started codes around place x before after t → TurnIsTold codes right can t.0 × AreRight right t.1.back × HaveCauses t.1.copies.book.table
    due_is_told place x t own are stop have keeps is =
        let told = turn_told (nat_le (length x.principal) NAME_LIMIT) (xid_of x.work.mount x.back) place x t own are stop have keeps is in
        (told.0, subst (AreRight right) (sym told.1) are, told.2)

  -- ---- what a record of the source does

  abbrev pub EffectIsTold : Effect → Type 0
  EffectIsTold (effects.Stops job cause told m) = IsTold codes right told × Fails cause
  EffectIsTold (effects.Lands job chunk bytes told m) = LandingIsTold codes right told
  EffectIsTold _ = Unit {0}

  record EffectGoes (old new : Copier) (effect : Effect) : Type 0 where
    told : EffectIsTold effect
    same : new.back ≡ old.back
    keeps : HaveCauses old.copies.book.table → HaveCauses new.copies.book.table

  still_goes : (old new : Copier) (effect due : Effect) → EffectIsTold due → IsStill old new effect due → EffectGoes old new effect
  still_goes old new effect due told is = record {
    told = subst EffectIsTold (sym is.is) told;
    same = ap (λ (x : Copier). x.back) is.still;
    keeps = subst (λ (x : Copier). HaveCauses old.copies.book.table → HaveCauses x.copies.book.table) (sym is.still) (λ have. have);
  }

  stop_if : (running : Bool) (job : JobName) (cause : Stop) (m : Mounted) (x : Copier) → AreRight right x.back → CanStop around right x.copies.book.table → Fails cause
      → EffectIsTold (stop_effect running codes around job cause m x)
  stop_if true job cause m x are stop small = (stop_right codes right around backs job cause x are stop small, small)
  stop_if false job cause m x are stop small = tt

  stop_told : (job : JobName) (cause : Stop) (m : Mounted) (x : Copier) → AreRight right x.back → CanStop around right x.copies.book.table → Fails cause
      → EffectIsTold (stop_due codes around job cause m x)
  stop_told job cause m x are stop small = stop_if (is_running x.copies.book.table (id_of job)) job cause m x are stop small

  bytes_told : (job : JobName) (errand : Errand) (bytes : List ℕ) (m : Mounted) (x : Copier) → AreRight right x.back → CanStop around right x.copies.book.table
      → EffectIsTold (bytes_due codes around job errand bytes m x)
  bytes_told job errands.Setup bytes m x are stop = tt
  bytes_told job errands.Confirm bytes m x are stop = tt
  bytes_told job errands.Size bytes m x are stop = tt
  bytes_told job (errands.Bytes chunk) bytes m x are stop = landing_right codes right around backs job x are stop

  len_small : (past room : Bool) (len : ℕ) (cause : Stop) → ◌≡◌ {A = Result ℕ Stop} (if past then Err PastEnd else (if room then Err NoRoom else Ok len)) (Err cause) → Fails cause
  len_small true room len cause is = let same : PastEnd ≡ cause = cc in subst Fails same past_small
  len_small false true len cause is = let same : NoRoom ≡ cause = cc in subst Fails same room_small
  len_small false false len cause is = absurd cc

  sized_by : (job : JobName) (m : Mounted) (len : Option (Result ℕ Stop)) (old : Copier) (effect : Effect) (new : Copier) → AreRight right old.back → CanStop around right old.copies.book.table
      → ((cause : Stop) → len ≡ Some (Err cause) → Fails cause) → IsSizedBy codes around job m len old effect new → EffectGoes old new effect
  sized_by job m None old effect new are stop small is = still_goes old new effect (effects.Goes m) tt is
  sized_by job m (Some (Err cause)) old effect new are stop small is =
      still_goes old new effect (stop_due codes around job cause m old) (stop_told job cause m old are stop (small cause refl)) is
  sized_by job m (Some (Ok len)) old effect new are stop small is = record {
    told = subst EffectIsTold (sym is.effect_is) tt;
    same = ap (λ (x : Copier). x.back) is.is;
    keeps = subst (λ (x : Copier). HaveCauses old.copies.book.table → HaveCauses x.copies.book.table) (sym is.is) (its_caused job _ old.copies.book (sized_caused is.spare len));
  }

  length_small : (capacity size : ℕ) (job : Option Job) (cause : Stop) → len_for capacity size job ≡ Some (Err cause) → Fails cause
  length_small capacity size None cause is = absurd cc
  length_small capacity size (Some job) cause is =
      len_small (nat_lt size (job.plan.src_off + job.plan.count)) (nat_lt capacity (job.plan.dst_off + range_len job.plan size)) (range_len job.plan size) cause (some_is _ _ is)
    where
      some_is : (a b : Result ℕ Stop) → ◌≡◌ {A = Option (Result ℕ Stop)} (Some a) (Some b) → a ≡ b
      some_is a b is = cc

  sized_if : (may : Bool) (job : JobName) (size : ℕ) (m : Mounted) (old : Copier) (effect : Effect) (new : Copier) → AreRight right old.back → CanStop around right old.copies.book.table
      → IsSizedIf may codes around job size m old effect new → EffectGoes old new effect
  sized_if false job size m old effect new are stop is = still_goes old new effect (effects.Goes m) tt is
  sized_if true job size m old effect new are stop is =
      let t = old.copies.book.table in
      sized_by job m (len_for t.capacity size (named t job)) old effect new are stop (length_small t.capacity size (named t job)) is

  found_goes : (job : JobName) (errand : Errand) (finding : Finding) (m : Mounted) (old : Copier) (effect : Effect) (new : Copier) → AreRight right old.back → CanStop around right old.copies.book.table
      → FindFailures finding → IsFound codes around job errand finding m old effect new → EffectGoes old new effect
  found_goes job errand findings.Unmatched m old effect new are stop small is = still_goes old new effect _ tt is
  found_goes job errand findings.GoesOn m old effect new are stop small is = still_goes old new effect _ tt is
  found_goes job errand findings.FirstDenial m old effect new are stop small is = still_goes old new effect _ tt is
  found_goes job errand (findings.Stops cause) m old effect new are stop small is =
      still_goes old new effect (stop_due codes around job cause m old) (stop_told job cause m old are stop small) is
  found_goes job errand (findings.HasSize size) m old effect new are stop small is = sized_if (may_size job old) job size m old effect new are stop is
  found_goes job errand (findings.Brings bytes) m old effect new are stop small is =
      still_goes old new effect (bytes_due codes around job errand bytes m old) (bytes_told job errand bytes m old are stop) is

  by_taken : (t : Option Taken) (old : Copier) (heard : Heard) (new : Copier) → AreRight right old.back → CanStop around right old.copies.book.table
      → ((u : Taken) → t ≡ Some u → FindFailures u.finding) → IsHeardBy codes around t old heard new → EffectGoes old new heard.effect
  by_taken None old heard new are stop small is =
      record {
        told = subst (λ (h : Heard). EffectIsTold h.effect) (sym is.is) tt;
        same = ap (λ (x : Copier). x.back) is.still;
        keeps = subst (λ (x : Copier). HaveCauses old.copies.book.table → HaveCauses x.copies.book.table) (sym is.still) (λ have. have);
      }
  by_taken (Some t) old heard new are stop small is = found_goes t.job t.errand t.finding t.mount old heard.effect new are stop (small t refl) is.effect

  by_read : (read : Bool) (t : Option Taken) (old : Copier) (heard : Heard) (new : Copier) → AreRight right old.back → CanStop around right old.copies.book.table
      → ((u : Taken) → t ≡ Some u → FindFailures u.finding) → IsHeardIf read codes around t old heard new → EffectGoes old new heard.effect
  by_read false t old heard new are stop small is =
      record {
        told = subst (λ (h : Heard). EffectIsTold h.effect) (sym is.is) tt;
        same = ap (λ (x : Copier). x.back) is.still;
        keeps = subst (λ (x : Copier). HaveCauses old.copies.book.table → HaveCauses x.copies.book.table) (sym is.still) (λ have. have);
      }
  by_read true t old heard new are stop small is = by_taken t old heard new are stop small is

  abbrev Leaves : Done → Type 0
  Leaves done = IsDone codes right done.doing.copier done.sent

  effect_right : (choice : Choice) (place : ℕ) (effect : Effect) (d : Doing) → AreRight right d.copier.back → HaveIn codes right d → EffectIsTold effect → Leaves (effect_done choice place effect d)
  effect_right choice place (effects.Drops why) d are have is = record { are = are; go = tt; have = have }
  effect_right choice place (effects.Goes m) d are have is = record { are = are; go = tt; have = have }
  effect_right choice place (effects.Denied job m) d are have is = record { are = are; go = tt; have = have }
  effect_right choice place (effects.Stops job cause told m) d are have is = record { are = is.0.are; go = is.0.go; have = stops_caused cause job d.copier.copies is.1 have }
  effect_right choice place (effects.Lands job chunk bytes told m) d are have is =
      lands_right codes right choice place job chunk bytes told (with_copier (mounted m d.copier) d) are have is

  -- ---- a link that failed

  abbrev pub FailingIsTold : Failing → Type 0
  FailingIsTold fails.Nothing = Unit {0}
  FailingIsTold (fails.Stops job told) = IsTold codes right told

  failing_by : (running : Bool) (job : JobName) (x : Copier) → AreRight right x.back → CanStop around right x.copies.book.table → FailingIsTold (failing_if running codes around job x)
  failing_by true job x are stop = stop_right codes right around backs job LinkFault x are stop link_small
  failing_by false job x are stop = tt

  failing_of : (job : Option JobName) (x : Copier) → AreRight right x.back → CanStop around right x.copies.book.table → FailingIsTold (failing_for codes around job x)
  failing_of None x are stop = tt
  failing_of (Some job) x are stop = failing_by (is_running x.copies.book.table (id_of job)) job x are stop

  failed_right : (failing : Failing) (x : Copier) → AreRight right x.back → HaveCauses x.copies.book.table → FailingIsTold failing → IsDone codes right (failed failing x).0 (failed failing x).1
  failed_right fails.Nothing x are have is = record { are = are; go = tt; have = have }
  failed_right (fails.Stops job told) x are have is = record { are = is.are; go = is.go; have = stops_caused LinkFault job x.copies link_small have }

  -- ---- a second that comes by itself

  record GoesAgain (a : Again) : Type 0 where
    are : AreRight right a.back
    go : GoRight codes.mic right a.sent
    own : AreNotClients a.mount.contexts

  call_goes : (place : ℕ) (errand : Errand) (outcome : Option Sent × Mounted) (a : Again) → SentOwn outcome.0 → AreNotClients outcome.1.contexts → GoesAgain a → GoesAgain (call_added place (errand_label errand (setup_in a.mount.standing)) outcome a)
  call_goes place errand (None, m) a sent own is = record { are = is.are; go = is.go; own = own }
  call_goes place errand (Some call, m) a sent own is = record { are = is.are; go = one_more (GoesRight codes.mic right) a.sent _ is.go sent; own = own }

  call_numbered : (xid : Option ℕ) (place : ℕ) (errand : Errand) (a : Again) → GoesAgain a → GoesAgain (call_by xid codes around place errand a)
  call_numbered None place errand a is = is
  call_numbered (Some xid) place errand a is =
      let goes = again_own codes.mic (send_at around place xid) a.mount is.own in
      call_goes place errand (sent_again codes.mic (send_at around place xid) a.mount) a goes.0 goes.1 is

  call_of : (call : Option (JobName × Errand)) (place : ℕ) (a : Again) → GoesAgain a → GoesAgain (call_for codes around place call a)
  call_of None place a is = is
  call_of (Some call) place a is = call_numbered (xid_of a.mount a.back) place call.1 a is

  call_due : (due : Bool) (place : ℕ) (x : Copier) (a : Again) → GoesAgain a → GoesAgain (call_if due codes around place x a)
  call_due true place x a is = call_of (asks (post_at x.work.workers place)) place a is
  call_due false place x a is = is

  calls_go : (x : Copier) (left place : ℕ) (a : Again) → GoesAgain a → GoesAgain (calls_from codes around x left place a)
  unfolding calls_from
  calls_go x zero place a is = is
  calls_go x (suc left) place a is =
      calls_go x left (place + 1) (call_again codes around place x a)
      (call_due (is_due (option_map (λ w. w.sent_at) (awaited_at a.mount place)) around.second) place x a is)

  told_goes_again : (outcome : Option Callback × CallbackTable) (a : Again) → GoesAgain a → Goes codes.mic right outcome → GoesAgain (told_added outcome a)
  told_goes_again (None, back) a is goes = record { are = record { tells = goes.tells; fit = goes.fit }; go = is.go; own = is.own }
  told_goes_again (Some call, back) a is goes =
      record { are = record { tells = goes.tells; fit = goes.fit }; go = one_more (GoesRight codes.mic right) a.sent (callback call) is.go (goes.sent call refl); own = is.own }

  told_numbered : (xid : Option ℕ) (seat : ℕ) (a : Again) → ((n : ℕ) → xid ≡ Some n → n < 2 ^ 32) → GoesAgain a → GoesAgain (told_by xid codes around seat a)
  told_numbered None seat a small is = is
  told_numbered (Some xid) seat a small is =
      told_goes_again _ a is (again_goes codes.mic codes.derived right around.sessions backs (call_at around seat xid) (small xid refl) a.back is.are.tells is.are.fit)

  told_due : (due : Bool) (seat : ℕ) (a : Again) → GoesAgain a → GoesAgain (told_if due codes around seat a)
  told_due true seat a is = told_numbered (xid_of a.mount a.back) seat a (xid_small a.mount a.back) is
  told_due false seat a is = is

  seat_goes : (seat : Option ℕ) (a : Again) → GoesAgain a → GoesAgain (told_for codes around seat a)
  seat_goes None a is = is
  seat_goes (Some seat) a is = told_due (is_due (sent_in (called_at a.back seat)) around.second) seat a is

  job_goes : (gone : Bool) (seat : Option ℕ) (a : Again) → GoesAgain a → GoesAgain (job_told gone codes around seat a)
  job_goes true seat a is = is
  job_goes false seat a is = seat_goes seat a is

  next_goes : (next : Option JobName) (go : JobName → Again → Again) (a : Again) → ((name : JobName) → GoesAgain (go name a)) → GoesAgain a → GoesAgain (at_next next go a)
  next_goes None go a does is = is
  next_goes (Some name) go a does is = does name

  jobs_go : (x : Copier) (left after : ℕ) (a : Again) → GoesAgain a → GoesAgain (jobs_from codes around x left after a)
  unfolding jobs_from
  jobs_go x zero after a is = is
  jobs_go x (suc left) after a is =
      next_goes (next_name x.copies.book.table after) (λ name b. jobs_from codes around x left name.number (job_again codes around name x b)) a
      (λ name.
      jobs_go x left name.number (job_again codes around name x a)
      (job_goes (is_gone around.sessions around.second (client_of x.copies.book.table name)) (seat_of name.number x.work.seats) a is))
      is

  again_right : (x : Copier) → AreNotClients x.work.mount.contexts → AreRight right x.back → GoesAgain (again codes around x)
  again_right x own are = jobs_go x MOST_JOBS 0 (calls_from codes around x WORKERS 0 (none_again x)) (calls_go x WORKERS 0 (none_again x) (record { are = are; go = tt; own = own }))

-- ---- whole steps

module _ {M : Type 0} (codes : Codes) (right : Ended → Type 0) where
  abbrev pub StepIsDone : DestStep M → Type 0
  StepIsDone t = IsDone codes right (copier_in t.host) t.out.sent

  pub work_goes : {W : Type 0} (gives : W → Drawn → W → Type 0) (started : List ℕ → List ℕ → Option (List ℕ)) (place now : ℕ) (s : DestState M) (before after : W) (t : DestStep M)
      → IsWork gives started codes place now s before after t → AreNotClients (copier_in s).work.mount.contexts → BacksFit s.state.sessions → AreRight right (copier_in s).back
      → (can : JobName → Type 0) → ((name : JobName) → can name → CanCommit (seen_around (max s.second now) s) right name)
      → ((at : SendAt) → CanStop (seen_around (max s.second now) s) right (turn codes.mic at (copier_in s).principal s.state.sessions (copier_in s).work (copier_in s).copies.book).book.table)
      → ((name : JobName) → IsCommitted (copier_in t.host).copies.book.table name → can name)
      → HaveCauses (copier_in s).copies.book.table
      → ((at : SendAt) → HaveCauses (turn codes.mic at (copier_in s).principal s.state.sessions (copier_in s).work (copier_in s).copies.book).book.table)
      → ((x : Copies) → HaveCauses x.book.table → (u : DestState M) → HaveCauses (expires u.state.sessions u.second x).book.table) → StepIsDone t
  work_goes gives started place now s before after t work own backs are can commits stop gets have keeps lapse =
      let choice = choice_of t.out.used in
      let is = work.is choice (λ n below. refl) in
      let mid : DestState M = without_lapsed (second_in now (put_copier work.copier s)) in
      let due = due_is_told codes right (seen_around (max s.second now) s) backs can commits gives started before after place (copier_in s) (work.turn, work.copier) own are stop have keeps work.due in
      let made : DestStep M = turn_step choice place now work.turn (put_copier work.copier s) in
      let gets_made : (name : JobName) → IsCommitted (copier_in made.host).copies.book.table name → can name =
      subst (λ (u : DestStep M). (name : JobName) → IsCommitted (copier_in u.host).copies.book.table name → can name) is gets in
      let done =
      turn_right codes right choice can place work.turn (doing_in mid) due.1 (lapse work.copier.copies due.2 (second_in now (put_copier work.copier s))) due.0 gets_made in
      subst StepIsDone (sym is) (record { are = record { tells = done.are.tells; fit = done.are.fit }; go = done.go; have = done.have })

  pub reply_goes : (finish : List ℕ → List ℕ → Option (List ℕ)) (place : ℕ) (message : List ℕ) (now : ℕ) (s : DestState M) (t : DestStep M)
      → IsReply codes finish place message now s t → BacksFit s.state.sessions → AreRight right (copier_in s).back
      → CanStop (seen_around (max s.second now) s) right (copier_in s).copies.book.table
      → ((u : Taken) → taken_of codes finish place message (copier_in s) ≡ Some u → FindFailures u.finding) → HaveCauses (copier_in s).copies.book.table → StepIsDone t
  reply_goes finish place message now s t reply backs are stop small have =
      let choice = choice_of t.out.used in
      let is = reply.is choice (λ n below. refl) in
      let mid : DestState M = second_in now (put_copier reply.copier s) in
      let heard = by_read codes right (seen_around (max s.second now) s) backs (λ name. ⊥) (λ name never. absurd never) (is_read message) (taken_of codes finish place message (copier_in s)) (copier_in s) reply.heard reply.copier are stop small reply.is_heard in
      let done = effect_right codes right (seen_around (max s.second now) s) backs (λ name. ⊥) (λ name never. absurd never) choice place reply.heard.effect (doing_in mid) (subst (AreRight right) (sym heard.same) are) (heard.keeps have) heard.told in
      subst StepIsDone (sym is) (record { are = record { tells = done.are.tells; fit = done.are.fit }; go = done.go; have = done.have })

  pub failure_goes : (place : ℕ) (s : DestState M) → BacksFit s.state.sessions → AreRight right (copier_in s).back
      → CanStop (seen_around s.second s) right (copier_in s).copies.book.table → HaveCauses (copier_in s).copies.book.table → StepIsDone (failure_step codes place s)
  failure_goes place s backs are stop have =
      let x = copier_in s in
      let told = failing_of codes right (seen_around s.second s) backs (λ name. ⊥) (λ name never. absurd never) (job_in (post_at x.work.workers place)) x are stop in
      let done = failed_right codes right (seen_around s.second s) backs (λ name. ⊥) (λ name never. absurd never) (failing codes (seen_around s.second s) place x) (given_up place (copier_in (second_in s.second s))) are have told in
      record { are = record { tells = done.are.tells; fit = done.are.fit }; go = done.go; have = done.have }

  pub tick_goes : (now : ℕ) (s : DestState M) → AreNotClients (copier_in s).work.mount.contexts → BacksFit s.state.sessions → AreRight right (copier_in s).back
      → AreRight right (copier_in (tick_step codes now s).host).back × GoRight codes.mic right (tick_step codes now s).out.sent
  tick_goes now s own backs are =
      let done = again_right codes right (seen_around (max s.second now) s) backs (λ name. ⊥) (λ name never. absurd never) (copier_in s) own are in
      (record { tells = done.are.tells; fit = done.are.fit }, done.go)

-- ---- sessions stay as they are

pub work_sessions : {M W : Type 0} (gives : W → Drawn → W → Type 0) (started : List ℕ → List ℕ → Option (List ℕ)) (codes : Codes) (place now : ℕ) (s : DestState M) (before after : W) (t : DestStep M)
    → IsWork gives started codes place now s before after t → t.host.state.sessions ≡ s.state.sessions
work_sessions {M} gives started codes place now s before after t work =
    ap (λ (u : DestStep M). u.host.state.sessions) (work.is (choice_of t.out.used) (λ n below. refl))

pub reply_sessions : {M : Type 0} (codes : Codes) (finish : List ℕ → List ℕ → Option (List ℕ)) (place : ℕ) (message : List ℕ) (now : ℕ) (s : DestState M) (t : DestStep M)
    → IsReply codes finish place message now s t → t.host.state.sessions ≡ s.state.sessions
reply_sessions {M} codes finish place message now s t reply =
    ap (λ (u : DestStep M). u.host.state.sessions) (reply.is (choice_of t.out.used) (λ n below. refl))
