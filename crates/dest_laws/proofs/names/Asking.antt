-- What a destination answers to OFFLOAD_STATUS, and that it is read back so.
use Rattle.std.proofs.Common.{◌≡◌, ◌⊎◌, inl, inr, ℕ, ◌<◌, ◌≤◌, ◌^◌, Bool, true, false, List, [], ◌∷◌, ◌++◌, length, Option, Some, None, Result, Ok, Err, refl, sym, ap, subst, ◌∙◌, arith, lit<}
use Rattle.std.specs.Prelude.{◌==◌, ◌&&◌, IfSome, not, nat_lt, if◌then◌else◌, option_and_then, option_map, slice_get}
use Rattle.std.specs.List.{flat_map}
use Rattle.std.proofs.lemmas.Grind.{flat_map-append}
use Rattle.std.proofs.lemmas.Bool.{eqb-true}
use Rattle.call_results.specs.Results.{at, told_progress}
use Rattle.compound_server.specs.Compounds.{by_begin, by_first, by_minor, caller_at, on_compound, sequence, sequence_done, unless_many}
use Rattle.compound_server.specs.Course.{Course, Performed}
use Rattle.compound_server.specs.Performing.{file_done, perform}
use Rattle.compound_server.specs.Refusals.{tail_refusal}
use Rattle.compound_server.specs.State.{Given, State, begun, with_own}
use Rattle.compound_server.specs.Walking.{Walked, at_tail, walk}
use Rattle.compound_server.specs.declared.refusing.TailRefusal.{TailRefusal}
use Rattle.compound_server.specs.declared.who.Who.{Who}
use Rattle.copy_model.specs.Job.{Committed, Entry, Landed, Reported, Sized, Stopped, has_ended}
use Rattle.copy_model.specs.Marks.{is_committed, is_stopped}
use Rattle.copy_ops.specs.Forms.{copy_res, offload_progress}
use Rattle.copy_ops.specs.declared.arg.CopyArg.TheVariants as copy_args
use Rattle.copy_ops.specs.declared.res.CopyRes.TheVariants as copies
use Rattle.copy_ops.specs.declared.results.OffloadProgress.{OffloadProgress}
use Rattle.dest_core.specs.Core.{dest_rules}
use Rattle.dest_core.specs.Serving.{serves}
use Rattle.dest_core.specs.declared.destination.Destination.{Destination}
use Rattle.dest_jobs.specs.Offloads.{is_own, name_in, own_job, progress_told, status_told}
use Rattle.dest_jobs.specs.declared.carried.Carried.{Carried}
use Rattle.dest_laws.proofs.names.Callbacks.{found_all}
use Rattle.dest_laws.proofs.names.Low.{hyper_low, low_hyper}
use Rattle.dest_laws.specs.Names.Causes.{HasCause, HaveCauses}
use Rattle.dest_laws.specs.Names.Posts.{IsCommitted}
use Rattle.file_ops.specs.Args.{file_arg}
use Rattle.file_ops.specs.Free.{zero_word}
use Rattle.file_ops.specs.Results.{file_res}
use Rattle.file_ops.specs.Sessions as forms
use Rattle.file_ops.specs.declared.args.FileArg.TheVariants as args
use Rattle.file_ops.specs.declared.results.FileRes.TheVariants as files
use Rattle.file_ops.specs.declared.sessions.SequenceArgs.{SequenceArgs}
use Rattle.file_server.specs.Handles.{handle_file}
use Rattle.file_server.specs.Placing.{is_saved_next, put, put_tested, put_told}
use Rattle.file_server.specs.declared.extension.Caller.{Caller}
use Rattle.job_book.specs.Book.{id_of, named, status_of as told_of_job}
use Rattle.job_log.specs.Log.{JobView}
use Rattle.job_table.specs.Table.{JobTable, complete_at, complete_of, is_job, status_of}
use Rattle.job_table.specs.declared.job.Job.{Job}
use Rattle.nfs_base.specs.Forms.{answer, status}
use Rattle.nfs_base.specs.declared.answer.Answer.{Answer}
use Rattle.nfs_base.specs.declared.answer.Answer.TheVariants.{Done, Refused}
use Rattle.nfs_base.specs.declared.job.JobName.{JobName}
use Rattle.nfs_base.specs.declared.job.Stop.{Stop}
use Rattle.nfs_base.specs.declared.limits.TheConstants.{MOST_OPERATIONS, TEXT_LIMIT}
use Rattle.nfs_base.specs.declared.state_id.StateId.{StateId}
use Rattle.nfs_base.specs.declared.status.Status.{Status}
use Rattle.nfs_base.specs.declared.status.TheConstants.Status as statuses
use Rattle.nfs_compound.specs.Ops.{op_arg, operation}
use Rattle.nfs_compound.specs.Results.{outcome, reply, res_body, res_status}
use Rattle.nfs_compound.specs.Walk.{last_status, next_number}
use Rattle.nfs_compound.specs.declared.compound.Compound.{Compound}
use Rattle.nfs_compound.specs.declared.compound.TheConstants.{MINOR_VERSION}
use Rattle.nfs_compound.specs.declared.op.Op.{Op}
use Rattle.nfs_compound.specs.declared.op.Op.TheVariants as ops
use Rattle.nfs_compound.specs.declared.reply.Reply.{Reply}
use Rattle.nfs_compound.specs.declared.res.Res.{Res}
use Rattle.nfs_compound.specs.declared.res.Res.TheVariants as res
use Rattle.nfs_compound.specs.declared.tail.Tail.{Tail}
use Rattle.server_volume.specs.Choices.{Choice}
use Rattle.sess_slots.specs.Begins.{begin_of}
use Rattle.sess_slots.specs.declared.answers.Begin.{Begin}
use Rattle.sess_slots.specs.declared.answers.Begin.TheVariants as begin
use Rattle.slot_laws.specs.Turns.{first_retries, is_replay, is_retry}
use Rattle.tell_laws.specs.ReadBack.{ReadsBack}
use Rattle.wire_meaning.specs.Meaning.{is_complete, is_zero, results_read, told_by}
use Rattle.wire_xdr.specs.All.{value_of}
use Rattle.wire_xdr.specs.Parts.{option_spell}
use Rattle.wire_xdr.specs.Words.{word_bytes}

-- ---- what is told of a job, in the table

-- a job that has ended and wasn't stopped is committed
ended_commits : (es : List Entry) → has_ended es ≡ true → is_stopped es ≡ false → is_committed es ≡ true
ended_commits [] ended free = absurd cc
ended_commits (Sized len ∷ es) ended free = ended_commits es ended free
ended_commits (Landed off len ∷ es) ended free = ended_commits es ended free
ended_commits (Stopped ∷ es) ended free = absurd cc
ended_commits (Committed ∷ es) ended free = refl
ended_commits (Reported ∷ es) ended free = ended_commits es ended free

if_ended : (ended : Bool) → is_zero (if ended then Some statuses.OK else None) ≡ true → ended ≡ true
if_ended true is = refl
if_ended false is = absurd cc

never_zero : (n : ℕ) → 0 < n → (n == 0) ≡ true → ⊥
never_zero n above is = let same : n ≡ 0 = eqb-true n 0 is in omega (arith, above, same)

told_fails : (st : Option Status) → ((s : Status) → st ≡ Some s → (0 < s.number) × (s.number < 2 ^ 32)) → is_zero st ≡ true → ⊥
told_fails None fails is = cc
told_fails (Some s) fails is = never_zero s.number (fails s refl).0 is

log_commits : (log : JobView) (cause : Option Stop) → log.cause ≡ cause → HasCause log → is_zero (complete_at cause (has_ended log.entries)) ≡ true → is_committed log.entries ≡ true
log_commits log None is has ok = ended_commits log.entries (if_ended (has_ended log.entries) ok) (has.stopped is)
log_commits log (Some cause) is has ok = absurd (told_fails (status_of cause) (has.fails cause is) ok)

-- what is told of it can be spelled
complete_small : (log : JobView) (cause : Option Stop) (ended : Bool) → log.cause ≡ cause → HasCause log → (s : Status) → complete_at cause ended ≡ Some s → s.number < 2 ^ 32
complete_small log None true is has s told = let same : statuses.OK ≡ s = cc in subst (λ (x : Status). x.number < 2 ^ 32) same (lit< tt)
complete_small log None false is has s told = absurd cc
complete_small log (Some cause) ended is has s told = (has.fails cause is s told).1

job_has : (t : JobTable) (name : JobName) (job : Job) → HaveCauses t → named t name ≡ Some job → HasCause job.log
job_has t name job have there = found_all (λ (j : Job). HasCause j.log) (is_job t.boot (id_of name)) t.jobs job have there

-- the answer to OFFLOAD_STATUS: that there is no such job, or how far it is
pub record TellsJob (t : JobTable) (name : JobName) (told : OffloadProgress) : Type 0 where
  pub job : Job
  pub there : named t name ≡ Some job
  pub is : told.complete ≡ complete_of job.log

abbrev pub TellsStatus : JobTable → JobName → Answer OffloadProgress → Type 0
TellsStatus t name (Refused st) = st ≡ statuses.BAD_STATEID
TellsStatus t name (Done told) = TellsJob t name told

found_told : (t : JobTable) (name : JobName) (job : Option Job) → named t name ≡ job → TellsStatus t name (progress_told (option_map told_of_job job))
found_told t name None there = refl
found_told t name (Some job) there = record { job = job; there = there; is = refl }

own_told : (t : JobTable) (own : Bool) (id : StateId) → TellsStatus t (name_in id) (status_told t (if own then Some (name_in id) else None))
own_told t true id = found_told t (name_in id) (named t (name_in id)) refl
own_told t false id = refl

pub status_tells : (t : JobTable) (client : ℕ) (id : StateId) → TellsStatus t (name_in id) (status_told t (own_job t client id))
status_tells t client id = own_told t (is_own t client id) id

-- ---- as a result

-- the count in as many bytes as are spelled
abbrev low_told : Answer OffloadProgress → Answer OffloadProgress
low_told (Refused st) = Refused st
low_told (Done told) = Done (record told { count = low_hyper told.count })

abbrev status_res : Answer OffloadProgress → Res
status_res a = res.Copy (copies.OffloadStatus a)

low_spelled : (a : Answer OffloadProgress) → outcome.spell (status_res a) ≡ outcome.spell (status_res (low_told a))
unfolding outcome res_body copy_res answer offload_progress
low_spelled (Refused st) = refl
low_spelled (Done told) = ap (λ (count : List ℕ). word_bytes 67 ++ (word_bytes 0 ++ (count ++ option_spell status told.complete))) (hyper_low told.count)

progress_fits : (told : OffloadProgress) → ((s : Status) → told.complete ≡ Some s → s.number < 2 ^ 32) → outcome.Fits (status_res (Done (record told { count = low_hyper told.count })))
unfolding outcome res_body copy_res answer offload_progress status
progress_fits told small = (lit< tt, (refl, (refl, (lit< tt, refl, (omega arith, by told.complete small)))))
  where
    by : (complete : Option Status) → ((s : Status) → complete ≡ Some s → s.number < 2 ^ 32) → IfSome complete (λ s. s.number < 2 ^ 32)
    by None small = tt
    by (Some s) small = small s refl

refused_fits : outcome.Fits (status_res (Refused statuses.BAD_STATEID))
unfolding outcome res_body copy_res answer
refused_fits = (lit< tt, (refl, (refl, (lit< tt, refl, tt))))

low_fits : (t : JobTable) (name : JobName) (a : Answer OffloadProgress) → HaveCauses t → TellsStatus t name a → outcome.Fits (status_res (low_told a))
low_fits t name (Refused st) have tells = subst (λ (s : Status). outcome.Fits (status_res (Refused s))) (sym tells) refused_fits
low_fits t name (Done told) have tells =
    progress_fits told (λ s is. complete_small tells.job.log tells.job.log.cause (has_ended tells.job.log.entries) refl (job_has t name tells.job have tells.there) s (sym tells.is ∙ is))

low_complete : (t : JobTable) (name : JobName) (a : Answer OffloadProgress) → HaveCauses t → TellsStatus t name a → is_complete (told_progress (status_res (low_told a))) ≡ true → IsCommitted t name
low_complete t name (Refused st) have tells is = absurd cc
low_complete t name (Done told) have tells is = record {
  job = tells.job;
  there = tells.there;
  committed = log_commits tells.job.log tells.job.log.cause refl (job_has t name tells.job have tells.there) (sym (ap is_zero tells.is) ∙ is);
}

-- ---- the operations behind SEQUENCE: PUTFH, and OFFLOAD_STATUS behind it

-- the server's own part is as it was
abbrev Extra : {M : Type 0} → Course (Destination M) → Destination M
Extra c = c.going.machine.extra

abbrev pub table_of : {M : Type 0} → Destination M → JobTable
table_of x = x.copier.copies.book.table

record Puts {M : Type 0} (x : Destination M) (a : Performed (Destination M)) : Type 0 where
  status : Status
  res_is : a.res ≡ res.File (files.PutFh status)
  extra_is : Extra a.course ≡ x

-- what is answered behind an operation, or that alone
abbrev went : {X : Type 0} → (ok : Bool) → Performed X → Walked X → Walked X
went ok a w = if ok then record { course = w.course; results = a.res ∷ w.results } else record { course = a.course; results = a.res ∷ [] }

-- an answer to OFFLOAD_STATUS of this job, by the table
pub record Answers (t : JobTable) (name : JobName) (third : Res) : Type 0 where
  pub told : Answer OffloadProgress
  pub is : third ≡ res.Copy (copies.OffloadStatus told)
  pub tells : TellsStatus t name told

-- the results of SEQUENCE and PUTFH and the one behind them, or two at most
abbrev pub Says : JobTable → JobName → SequenceArgs → List Res → Type 0
Says t name a results =
    (length results ≤ 2)
    ⊎ ((third : Res) × ((more : List Res) × ((results ≡ sequence_done a ∷ res.File (files.PutFh statuses.OK) ∷ third ∷ more) × Answers t name third × (length more ≤ 1))))

ok_is : (s : Status) → (s.number == 0) ≡ true → s ≡ statuses.OK
ok_is s is = let none : s.number ≡ 0 = eqb-true s.number 0 is in ap so none
  where
    so : ℕ → Status
    so n = record { number = n }

module _ {M : Type 0} (choice : Choice) (caller : Caller) (carry : Option Carried) (tail : Tail) (handle : List ℕ) (id : StateId) where
  put_by : (r : Result ℕ Status) (c : Course (Destination M))
      → Puts (Extra c) (record { course = record { going = (put_told handle r c.going).going; sessions = c.sessions }; res = res.File (put_told handle r c.going).res })
  put_by (Err status) c = record { status = status; res_is = refl; extra_is = refl }
  put_by (Ok file) c = record { status = statuses.OK; res_is = refl; extra_is = refl }

  put_if : (saved : Bool) (c : Course (Destination M))
      → Puts (Extra c) (record { course = record { going = (put_tested saved handle c.going).going; sessions = c.sessions }; res = res.File (put_tested saved handle c.going).res })
  put_if true c = put_by (Ok 0) c
  put_if false c = put_by (handle_file (length c.going.machine.store.volume.files) c.going.machine.store.tag handle) c

  puts : (next : Option ℕ) (c : Course (Destination M)) → Puts (Extra c) (perform dest_rules.service choice caller carry next (ops.File (args.PutFh handle)) c)
  unfolding perform file_done put
  puts next c = put_if (is_saved_next next) c

  asks : (next : Option ℕ) (c : Course (Destination M)) → Answers (table_of (Extra c)) (name_in id) (perform dest_rules.service choice caller carry next (ops.Copy (copy_args.OffloadStatus id)) c).res
  unfolding perform serves
  asks next c = record {
    told = status_told (table_of (Extra c)) (own_job (table_of (Extra c)) caller.client id);
    is = refl;
    tells = status_tells (table_of (Extra c)) caller.client id;
  }

  tail_few : (r : Option TailRefusal) (c : Course (Destination M)) → length (at_tail r c).results ≤ 1
  tail_few None c = omega arith
  tail_few (Some r) c = omega arith

  -- OFFLOAD_STATUS and what the tail answers
  last_by : (ok : Bool) (a : Performed (Destination M)) (w : Walked (Destination M)) → length w.results ≤ 1
      → (more : List Res) × (((went ok a w).results ≡ a.res ∷ more) × (length more ≤ 1))
  last_by true a w few = (w.results, (refl, few))
  last_by false a w few = ([], (refl, omega arith))

  lasts : (c : Course (Destination M)) → (third : Res) × ((more : List Res)
      × (((walk dest_rules.service choice caller carry tail (ops.Copy (copy_args.OffloadStatus id) ∷ []) c).results ≡ third ∷ more) × Answers (table_of (Extra c)) (name_in id) third × (length more ≤ 1)))
  unfolding walk
  lasts c =
      let a = perform dest_rules.service choice caller carry (next_number []) (ops.Copy (copy_args.OffloadStatus id)) c in
      let last = last_by ((res_status a.res).number == 0) a (at_tail (tail_refusal tail) a.course) (tail_few (tail_refusal tail) a.course) in
      (a.res, (last.0, (last.1.0, asks (next_number []) c, last.1.1)))

  abbrev Walks : Destination M → SequenceArgs → Walked (Destination M) → Type 0
  Walks x a w = Says (table_of x) (name_in id) a (sequence_done a ∷ w.results)

  first_by : (a : SequenceArgs) (x : Destination M) (ok : Bool) (p : Performed (Destination M)) → Puts x p → ((res_status p.res).number == 0) ≡ ok
      → Walks x a (went ok p (walk dest_rules.service choice caller carry tail (ops.Copy (copy_args.OffloadStatus id) ∷ []) p.course))
  first_by a x false p put_so is = inl (omega arith)
  first_by a x true p put_so is =
      let last = lasts p.course in
      let put_ok : p.res ≡ res.File (files.PutFh statuses.OK) =
      put_so.res_is ∙ ap (λ (s : Status). res.File (files.PutFh s)) (ok_is put_so.status (sym (ap (λ (r : Res). (res_status r).number == 0) put_so.res_is) ∙ is)) in
      inr (
        last.0,
        (
          last.1.0,
          (
            ap (λ (r : Res). sequence_done a ∷ r ∷ (walk dest_rules.service choice caller carry tail (ops.Copy (copy_args.OffloadStatus id) ∷ []) p.course).results) put_ok
                ∙ ap (λ (rs : List Res). sequence_done a ∷ res.File (files.PutFh statuses.OK) ∷ rs) last.1.1.0,
            subst (λ (y : Destination M). Answers (table_of y) (name_in id) last.0) put_so.extra_is last.1.1.1,
            last.1.1.2,
          ),
        ),
      )

  walks : (a : SequenceArgs) (c : Course (Destination M))
      → Walks (Extra c) a (walk dest_rules.service choice caller carry tail (ops.File (args.PutFh handle) ∷ ops.Copy (copy_args.OffloadStatus id) ∷ []) c)
  unfolding walk
  walks a c =
      let next = next_number (ops.Copy (copy_args.OffloadStatus id) ∷ []) in
      let p = perform dest_rules.service choice caller carry next (ops.File (args.PutFh handle)) c in
      first_by a (Extra c) ((res_status p.res).number == 0) p (puts next c) refl

-- ---- the whole COMPOUND, which isn't a retry

-- a reply with this tag, and such results
pub record IsSaid (tag : List ℕ) (says : List Res → Type 0) (body : List ℕ) : Type 0 where
  pub status : Status
  pub results : List Res
  pub is : body ≡ reply.spell (record { status = status; tag = tag; results = results })
  pub said : says results

few_said : (t : JobTable) (name : JobName) (a : SequenceArgs) (tag : List ℕ) (st : Status) (results : List Res) → length results ≤ 2
    → IsSaid tag (Says t name a) (reply.spell (record { status = st; tag = tag; results = results }))
few_said t name a tag st results few = record { status = st; results = results; is = refl; said = inl few }

module _ {M : Type 0} (choice : Choice) (who : Who) (principal : List ℕ) (carry : Option Carried) (a : SequenceArgs) (handle : List ℕ) (id : StateId) (x : Destination M) where
  abbrev pub Said : List ℕ → Given (Destination M) → Type 0
  Said tag g = IsSaid tag (Says (table_of x) (name_in id) a) g.body

  abbrev pub behind : List Op
  behind = ops.File (args.PutFh handle) ∷ ops.Copy (copy_args.OffloadStatus id) ∷ []

  begin_said : (b : Begin) (tag : List ℕ) (tail : Tail) (s : State (Destination M)) → s.machine.extra ≡ x → is_replay b ≡ false
      → Said tag (by_begin b dest_rules.service choice who carry tag a behind tail s)
  begin_said (begin.New place) tag tail s same new =
      let w = walk dest_rules.service choice (caller_at who place s.sessions) carry tail behind (begun s) in
      record {
        status = last_status (sequence_done a ∷ w.results);
        results = sequence_done a ∷ w.results;
        is = refl;
        said = subst (λ (y : Destination M). Says (table_of y) (name_in id) a (sequence_done a ∷ w.results)) same
            (walks choice (caller_at who place s.sessions) carry tail handle id a (begun s));
      }
  begin_said (begin.Replay place) tag tail s same new = absurd cc
  begin_said begin.FalseRetry tag tail s same new = few_said (table_of x) (name_in id) a tag _ _ (omega arith)
  begin_said begin.BadSession tag tail s same new = few_said (table_of x) (name_in id) a tag _ _ (omega arith)
  begin_said begin.BadSlot tag tail s same new = few_said (table_of x) (name_in id) a tag _ _ (omega arith)
  begin_said begin.Misordered tag tail s same new = few_said (table_of x) (name_in id) a tag _ _ (omega arith)

  first_said : (tag : List ℕ) (count : ℕ) (tail : Tail) (s : State (Destination M)) → s.machine.extra ≡ x
      → first_retries who.root (ops.File (args.Sequence a) ∷ behind) s.sessions ≡ false
      → Said tag (by_first dest_rules.service dest_rules.parting choice who principal carry tag count (ops.File (args.Sequence a) ∷ behind) tail s)
  unfolding by_first sequence
  first_said tag count tail s same new = begin_said (begin_of s.sessions a.session a.slot a.sequence who.root) tag tail s same new

  module _ (c : Compound) (ops_are : c.ops ≡ ops.File (args.Sequence a) ∷ behind) where
    many_said : (many : Bool) (s : State (Destination M)) → s.machine.extra ≡ x → (not many && first_retries who.root c.ops s.sessions) ≡ false
        → Said c.tag (unless_many many dest_rules.service dest_rules.parting choice who principal carry c s)
    many_said true s same new = few_said (table_of x) (name_in id) a c.tag _ _ (omega arith)
    many_said false s same new =
        subst (λ (os : List Op). Said c.tag (by_first dest_rules.service dest_rules.parting choice who principal carry c.tag c.count os c.tail s)) (sym ops_are)
        (first_said c.tag c.count c.tail s same (ap (λ (os : List Op). first_retries who.root os s.sessions) (sym ops_are) ∙ new))

    minor_said : (minor : Bool) (s : State (Destination M)) → s.machine.extra ≡ x
        → (minor && (not (nat_lt MOST_OPERATIONS c.count) && first_retries who.root c.ops s.sessions)) ≡ false
        → Said c.tag (by_minor minor dest_rules.service dest_rules.parting choice who principal carry c s)
    minor_said false s same new = few_said (table_of x) (name_in id) a c.tag _ _ (omega arith)
    minor_said true s same new = many_said (nat_lt MOST_OPERATIONS c.count) s same new

    pub compound_said : (s : State (Destination M)) → s.machine.extra ≡ x → is_retry who.root c s.sessions ≡ false
        → Said c.tag (on_compound dest_rules.service dest_rules.parting choice who principal carry c s)
    unfolding on_compound
    compound_said s same new = minor_said (c.minor == MINOR_VERSION) (with_own (dest_rules.parting.lapse who.second s.machine.extra) s) same new

-- ---- it is read back

pub sequence_fits : (a : SequenceArgs) → operation.Fits (ops.File (args.Sequence a)) → outcome.Fits (sequence_done a)
unfolding operation op_arg file_arg forms.sequence_args outcome res_body file_res answer forms.sequence_done zero_word
sequence_fits a fits =
    let s = fits.1.2.1 in (
      omega arith,
      (refl, refl, (refl, (omega arith, refl, (s.0, (s.1.0, (s.1.1.0, (omega arith, (omega arith, (omega arith, tt))))))))),
    )

pub put_fits : outcome.Fits (res.File (files.PutFh statuses.OK))
unfolding outcome res_body file_res status
put_fits = (omega arith, (refl, refl, (refl, omega arith)))

short_none : (rs : List Res) → length rs ≤ 2 → slice_get rs 2 ≡ None
short_none [] few = refl
short_none (a ∷ []) few = refl
short_none (a ∷ b ∷ []) few = refl
short_none (a ∷ b ∷ c ∷ rs) few = absurd (omega (arith, few))

module _ (reads : ReadsBack) (t : JobTable) (name : JobName) (have : HaveCauses t) (a : SequenceArgs) (first_fits : operation.Fits (ops.File (args.Sequence a))) (tag : List ℕ) (short : length tag ≤ TEXT_LIMIT)
    (body : List ℕ) (said : IsSaid tag (Says t name a) body) where
  third_is : (s : Says t name a said.results) (v : Reply) → value_of reply body ≡ Some v → is_complete (at 2 told_progress v.results) ≡ true → IsCommitted t name
  third_is (inl few) v read h =
      let counted = (reads said.status tag said.results body v said.is short (omega (arith, few)) read).as_many in
      let none : slice_get v.results 2 ≡ None = short_none v.results (omega (arith, few, counted)) in
      absurd (let wrong = sym (ap (λ (r : Option Res). is_complete (option_and_then told_progress r)) none) ∙ h in cc)
  third_is (inr s) v read h =
      let answers : Answers t name s.0 = s.1.1.1 in
      let first : Res = sequence_done a in
      let second : Res = res.File (files.PutFh statuses.OK) in
      let more : List Res = s.1.0 in
      let low : Res = status_res (low_told answers.told) in
      let three : List Res = first ∷ second ∷ low ∷ [] in
      let count : length said.results ≡ length (three ++ more) = ap (λ (rs : List Res). length rs) s.1.1.0 in
      let few : length said.results < 2 ^ 32 = omega (arith, s.1.1.2, count) in
      let same : outcome.spell s.0 ≡ outcome.spell low = ap (λ (r : Res). outcome.spell r) answers.is ∙ low_spelled answers.told in
      let third =
      (reads said.status tag said.results body v said.is short few read).first three (flat_map outcome.spell more)
      (sequence_fits a first_fits, (put_fits, (low_fits t name answers.told have answers.tells, tt))) (omega (arith, count))
      (ap (λ (rs : List Res). flat_map outcome.spell rs) s.1.1.0
      ∙ ap (λ (b : List ℕ). outcome.spell first ++ (outcome.spell second ++ (b ++ flat_map outcome.spell more))) same ∙ flat_map-append outcome.spell three more) in
      low_complete t name answers.told have answers.tells (sym (ap (λ (rs : List Res). is_complete (at 2 told_progress rs)) third.1) ∙ h)

  value_is : (r : Option Reply) → value_of reply body ≡ r → is_complete (at 2 told_progress (results_read r)) ≡ true → IsCommitted t name
  value_is None read h = absurd cc
  value_is (Some v) read h = third_is said.said v read h

  pub says_committed : is_complete (at 2 told_progress (told_by body)) ≡ true → IsCommitted t name
  says_committed h = value_is (value_of reply body) refl h
