-- What a destination answers to COPY, and that it is read back so: where a name is given, a copy was taken under it.
use Rattle.std.proofs.Common.{◌≡◌, ◌⊎◌, inl, inr, ℕ, ◌+◌, ◌<◌, ◌≤◌, ◌^◌, Bool, true, false, List, [], ◌∷◌, ◌++◌, length, Option, Some, None, Result, Ok, Err, refl, sym, ap, subst, ◌∙◌, arith, lit<}
use Rattle.std.specs.Prelude.{◌==◌, ◌||◌, bit_and, not, nat_le, nat_lt, if◌then◌else◌, is_none}
use Rattle.std.specs.List.{AllByRecursion, list_any}
use Rattle.std.proofs.lemmas.Bool.{eqb-true}
use Rattle.compound_server.specs.Compounds.{sequence_done}
use Rattle.compound_server.specs.Course.{Course, Performed}
use Rattle.compound_server.specs.Performing.{file_done, perform}
use Rattle.compound_server.specs.Refusals.{tail_refusal}
use Rattle.compound_server.specs.Walking.{Walked, at_tail, walk}
use Rattle.compound_server.specs.declared.refusing.TailRefusal.{TailRefusal}
use Rattle.copy_model.specs.Job.{Plan as CopyPlan}
use Rattle.copy_ops.specs.Forms.{copy_answer_arms}
use Rattle.copy_ops.specs.declared.arg.CopyArg.TheVariants as copy_args
use Rattle.copy_ops.specs.declared.args.CopyArgs.{CopyArgs}
use Rattle.copy_ops.specs.declared.res.CopyRes.TheVariants as copies
use Rattle.copy_ops.specs.declared.results.CopyAnswer.{CopyAnswer}
use Rattle.copy_ops.specs.declared.results.CopyAnswer.TheVariants as answers
use Rattle.dest_back.specs.declared.callbacks.Party.{Party}
use Rattle.dest_core.specs.Copying.{copied_here, copy_between, ends_at, ends_of, job_in, room_of, seated_for}
use Rattle.dest_core.specs.Core.{dest_rules}
use Rattle.dest_core.specs.Serving.{serves}
use Rattle.dest_core.specs.declared.destination.Destination.{Destination}
use Rattle.dest_jobs.specs.Copying.{after_copy, allows, copy_begun, copy_told, decided, first_of, is_address, is_among, is_empty, not_synchronous, passes_end, plan_of, refusal, refused_for, refused_if}
use Rattle.dest_jobs.specs.declared.carried.Carried.{Carried}
use Rattle.dest_jobs.specs.declared.copies.Copies.{Copies}
use Rattle.dest_jobs.specs.declared.copying.CopyRoom.{CopyRoom}
use Rattle.dest_jobs.specs.declared.copying.Ends.{Ends}
use Rattle.dest_laws.proofs.names.Asking.{table_of}
use Rattle.dest_laws.specs.View.View.{plan_seen}
use Rattle.dest_steps.specs.Copier.{at_seat}
use Rattle.dest_steps.specs.declared.copier.Copier.{Copier}
use Rattle.dest_tasks.specs.Seats.{free_seat}
use Rattle.file_ops.specs.declared.args.FileArg.TheVariants as args
use Rattle.file_ops.specs.declared.results.FileRes.TheVariants as files
use Rattle.file_ops.specs.declared.sessions.SequenceArgs.{SequenceArgs}
use Rattle.file_server.specs.Answering.{meant_id, open_refusal}
use Rattle.file_server.specs.Handles.{byte_file, file_in, handle_file, tag_in, unless_root}
use Rattle.file_server.specs.Machine.{Going}
use Rattle.file_server.specs.Placing.{is_saved_next, put, put_tested, put_told, save, save_told}
use Rattle.file_server.specs.declared.extension.Caller.{Caller}
use Rattle.job_book.specs.Book.{accept_answer, accept_apart, next_of}
use Rattle.job_book.specs.declared.acceptance.Acceptance.{Acceptance}
use Rattle.job_book.specs.declared.acceptance.Acceptance.TheVariants.{Accepted, Full, Overlap, TooFar}
use Rattle.job_table.specs.Table.{JobTable, overlapped, with_job}
use Rattle.job_table.specs.declared.job.Job.{Job}
use Rattle.job_table.specs.declared.job.Plan.{Plan}
use Rattle.nfs_base.specs.declared.job.JobName.{JobName}
use Rattle.nfs_base.specs.declared.limits.TheConstants.{MOST_JOBS}
use Rattle.nfs_base.specs.declared.net_loc.NetLoc.{NetLoc}
use Rattle.nfs_base.specs.declared.state_id.StateId.{StateId}
use Rattle.nfs_base.specs.declared.status.Status.{Status}
use Rattle.nfs_base.specs.declared.status.TheConstants.Status as statuses
use Rattle.nfs_compound.specs.Results.{res_status}
use Rattle.nfs_compound.specs.Walk.{next_number}
use Rattle.nfs_compound.specs.declared.op.Op.{Op}
use Rattle.nfs_compound.specs.declared.op.Op.TheVariants as ops
use Rattle.nfs_compound.specs.declared.res.Res.{Res}
use Rattle.nfs_compound.specs.declared.res.Res.TheVariants as res
use Rattle.nfs_compound.specs.declared.tail.Tail.{Tail}
use Rattle.server_volume.specs.Choices.{Choice}
use Rattle.server_volume.specs.Store.{Store}
use Rattle.state_ids.specs.Opens.{OpenTable, access_bit, access_refusal, check_refusal_of, first_refusal, named_open, seqid_refusal}
use Rattle.state_ids.specs.declared.access.Access.{Access}
use Rattle.state_ids.specs.declared.access.Access.TheVariants as access
use Rattle.state_ids.specs.declared.open_file.OpenFile.{OpenFile}
use Rattle.wire_meaning.specs.Meaning.{plan_asked}
use Rattle.wire_xdr.specs.Arms.{is_listed}

-- ---- an answer that takes no copy

abbrev pub Plain : Status → Type 0
Plain s = (s.number < 2 ^ 32) × (is_listed copy_answer_arms s.number ≡ false)

abbrev pub PlainIf : Option Status → Type 0
PlainIf None = Unit {0}
PlainIf (Some s) = Plain s

abbrev pub TakesNone : CopyAnswer → Type 0
TakesNone (answers.Done done) = ⊥
TakesNone (answers.NoReqs consecutive synchronous) = Unit {0}
TakesNone (answers.Refused s) = Plain s

seqid_plain : (a b : Bool) → PlainIf (if a then None else (if b then Some statuses.OLD_STATEID else Some statuses.BAD_STATEID))
seqid_plain true b = tt
seqid_plain false true = (lit< tt, refl)
seqid_plain false false = (lit< tt, refl)

access_plain : (b : Bool) → PlainIf (if b then Some statuses.OPENMODE else None)
access_plain true = (lit< tt, refl)
access_plain false = tt

first_plain : (first second : Option Status) → PlainIf first → PlainIf second → PlainIf (first_refusal first second)
first_plain None second one more = more
first_plain (Some s) second one more = one

check_plain : (found : Option OpenFile) (seqid : ℕ) (need : Access) → PlainIf (check_refusal_of found seqid need)
check_plain None seqid need = (lit< tt, refl)
check_plain (Some o) seqid need =
    first_plain (seqid_refusal seqid o.seqid) (access_refusal o.access need)
    (seqid_plain ((seqid == 0) || (seqid == o.seqid)) (nat_lt seqid o.seqid)) (access_plain (bit_and o.access (access_bit need) == 0))

open_plain : (opens : OpenTable) (id : Option StateId) (file : ℕ) (need : Access) → PlainIf (open_refusal opens id file need)
open_plain opens None file need = (lit< tt, refl)
open_plain opens (Some id) file need = check_plain (named_open opens id file) id.seqid need

-- the file that a handle names
abbrev pub Names : List ℕ → Result ℕ Status → Type 0
Names handle (Ok file) = file ≡ file_in handle
Names handle (Err s) = Plain s

handle_test : (handle : List ℕ) (sized past tagged : Bool)
    → Names handle (if sized then (if past then Err statuses.BADHANDLE else (if tagged then Ok (file_in handle) else Err statuses.STALE)) else Err statuses.BADHANDLE)
handle_test handle false past tagged = (lit< tt, refl)
handle_test handle true true tagged = (lit< tt, refl)
handle_test handle true false true = refl
handle_test handle true false false = (lit< tt, refl)

handle_names : (s : Store) (handle : List ℕ) → Names handle (handle_file (length s.volume.files) s.tag handle)
handle_names s handle = handle_test handle (length handle == 12) (nat_le (length s.volume.files) (file_in handle)) (tag_in handle == s.tag)

root_test : (handle : List ℕ) (file : ℕ) (root : Bool) → file ≡ file_in handle → Names handle (if root then Err statuses.ISDIR else Ok file)
root_test handle file true is = (lit< tt, refl)
root_test handle file false is = is

unless_names : (handle : List ℕ) (r : Result ℕ Status) → Names handle r → Names handle (unless_root r)
unless_names handle (Ok file) is = root_test handle file (file == 0) is
unless_names handle (Err s) is = is

byte_names : (s : Store) (handle : List ℕ) → Names handle (byte_file s (Some handle))
byte_names s handle = unless_names handle (handle_file (length s.volume.files) s.tag handle) (handle_names s handle)

-- the table of refusals
abbrev RowTakesNone : Option CopyAnswer → Type 0
RowTakesNone None = Unit {0}
RowTakesNone (Some answer) = TakesNone answer

first_row : (rows : List (Option CopyAnswer)) → AllByRecursion RowTakesNone rows → RowTakesNone (first_of rows)
unfolding first_of
first_row [] all = tt
first_row (Some answer ∷ rows) all = all.0
first_row (None ∷ rows) all = first_row rows all.1

row_if : (b : Bool) (s : Status) → Plain s → RowTakesNone (refused_if b s)
row_if true s plain = plain
row_if false s plain = tt

row_synchronous : (b : Bool) → RowTakesNone (not_synchronous b)
row_synchronous true = tt
row_synchronous false = tt

row_closed : (closed : Option Status) → PlainIf closed → RowTakesNone (refused_for closed)
row_closed None plain = tt
row_closed (Some s) plain = plain

refusal_takes : (source : NetLoc) (carry : Option Carried) (a : CopyArgs) (closed : Option Status) → PlainIf closed → RowTakesNone (refusal source carry a closed)
refusal_takes source carry a closed plain =
    first_row _ (
      row_if (is_none carry) statuses.PARTNER_NO_AUTH (lit< tt, refl),
      (
        row_if (is_empty a.sources) statuses.NOTSUPP (lit< tt, refl),
        (
          row_if (not (list_any is_address a.sources)) statuses.UNION_NOTSUPP (lit< tt, refl),
          (
            row_if (not (is_among a.sources source)) statuses.PARTNER_NOTSUPP (lit< tt, refl),
            (
              row_if (not (allows carry source)) statuses.PARTNER_NO_AUTH (lit< tt, refl),
              (row_synchronous a.synchronous, (row_closed closed plain, (row_if (passes_end a) statuses.INVAL (lit< tt, refl), tt))),
            ),
          ),
        ),
      ),
    )

-- ---- an answer that takes one

-- the job table goes on by a job of this plan, under the next name
pub record Takes (t u : JobTable) (source handle : List ℕ) (a : CopyArgs) (answer : CopyAnswer) : Type 0 where
  pub plan : Plan
  pub table : u ≡ with_job t plan
  pub shown : plan_seen plan ≡ plan_asked source handle a
  pub boot : ℕ
  pub is : answer ≡ answers.Done (copy_begun (next_of t) boot plan.consecutive)

abbrev pub Decides : (t u : JobTable) (source handle : List ℕ) (a : CopyArgs) → CopyAnswer → Type 0
Decides t u source handle a answer = TakesNone answer ⊎ Takes t u source handle a answer

some_taken : (a b : JobName) → ◌≡◌ {A = Acceptance} (Accepted a) (Accepted b) → b ≡ a
some_taken a b is = cc

apart_named : (t : JobTable) (found : Option Job) (few : Bool) (name : JobName) → nat_lt (length t.jobs) MOST_JOBS ≡ few → accept_apart found t ≡ Accepted name → name ≡ next_of t
apart_named t (Some job) few name is told = absurd cc
apart_named t None true name is told = some_taken (next_of t) name (sym (ap (λ (b : Bool). if b then Accepted (next_of t) else Full) is) ∙ told)
apart_named t None false name is told = absurd (let wrong = sym (ap (λ (b : Bool). if b then Accepted (next_of t) else Full) is) ∙ told in cc)

far_named : (t : JobTable) (plan : Plan) (far : Bool) (name : JobName) → (if far then TooFar else accept_apart (overlapped t plan) t) ≡ Accepted name → name ≡ next_of t
far_named t plan true name told = absurd cc
far_named t plan false name told = apart_named t (overlapped t plan) (nat_lt (length t.jobs) MOST_JOBS) name refl told

answer_named : (t : JobTable) (plan : Plan) (name : JobName) → accept_answer t plan ≡ Accepted name → name ≡ next_of t
answer_named t plan name told = far_named t plan (nat_lt t.capacity (plan.dst_off + plan.count)) name told

abbrev decided_by : Acceptance → Plan → (boot : ℕ) → Copies → Copies × CopyAnswer
decided_by answer plan boot x = (after_copy answer plan x, copy_told answer boot plan.consecutive)

module _ (client : ℕ) (a : CopyArgs) (ends : Ends) (room : CopyRoom) (boot : ℕ) (x : Copies) (handle : List ℕ) (file_is : ends.file ≡ file_in handle) where
  abbrev plan : Plan
  plan = plan_of client a ends room

  abbrev Decided : Copies × CopyAnswer → Type 0
  Decided d = Decides x.book.table d.0.book.table ends.source handle a d.1

  accept_by : (answer : Acceptance) → accept_answer x.book.table plan ≡ answer → Decided (decided_by answer plan boot x)
  accept_by (Accepted name) is =
      let named : name ≡ next_of x.book.table = answer_named x.book.table plan name is in
      inr (record {
        plan = plan;
        table = refl;
        shown = ap so file_is;
        boot = boot;
        is = ap (λ (n : JobName). answers.Done (copy_begun n boot plan.consecutive)) named;
      })
    where
      so : ℕ → CopyPlan
      so file = record {
        src_file = file_in ends.source;
        src_off = a.src_off;
        dst_file = file;
        dst_off = a.dst_off;
        count = a.count;
        consecutive = a.consecutive;
      }
  accept_by (Overlap name) is = inl (lit< tt, refl)
  accept_by Full is = inl (lit< tt, refl)
  accept_by TooFar is = inl (lit< tt, refl)

  decide_by : (refused : Option CopyAnswer) → RowTakesNone refused → Decided (decided refused plan boot x)
  decide_by (Some answer) none = inl none
  decide_by None none = accept_by (accept_answer x.book.table plan) refl

-- ---- the operation

seat_keeps : (seat : Option ℕ) (job : JobName) (party : Party) (x : Copier) → (at_seat seat job party x).copies ≡ x.copies
seat_keeps None job party x = refl
seat_keeps (Some seat) job party x = refl

seated_keeps : (session : ℕ) (carry : Option Carried) (job : Option JobName) (x : Copier) → (seated_for session carry job x).copies ≡ x.copies
seated_keeps session None job x = refl
seated_keeps session (Some carried) None x = refl
seated_keeps session (Some carried) (Some job) x = seat_keeps (free_seat job.boot x.copies.book.table x.work.seats) job (record { session = session; key = carried.root }) x

-- a result of COPY, and what is left of the table
pub record Answers (t u : JobTable) (source handle : List ℕ) (a : CopyArgs) (last : Res) : Type 0 where
  pub answer : CopyAnswer
  pub is : last ≡ res.Copy (copies.Copy answer)
  pub decides : Decides t u source handle a answer

-- the handles are held, and the server's own part is as it was
pub record Held {M : Type 0} (x : Destination M) (source handle : List ℕ) (g : Going (Destination M)) : Type 0 where
  pub extra_is : g.machine.extra ≡ x
  pub current : g.held.current ≡ Some handle
  pub saved : g.held.saved ≡ Some source

module _ {M : Type 0} (caller : Caller) (carry : Option Carried) (a : CopyArgs) (source handle : List ℕ) (g : Going (Destination M)) where
  abbrev Before : JobTable
  Before = table_of g.machine.extra

  abbrev After : Result Ends Status → JobTable
  After ends = table_of (copy_between ends caller carry a (room_of carry a) g).going.machine.extra

  between : (r : Result ℕ Status) → Names handle r
      → Answers Before (After (ends_at source r)) source handle a (res.Copy (copy_between (ends_at source r) caller carry a (room_of carry a) g).res)
  between (Err s) names = record { answer = answers.Refused s; is = refl; decides = inl names }
  between (Ok file) names =
      let ends : Ends = record { source = source; file = file } in
      let d = copied_here caller carry a ends (room_of carry a) g in
      let x = g.machine.extra.copier in
      let closed = open_refusal g.machine.opens (meant_id g.held.id a.dst_id) file access.Write in
      let taken : Decides Before d.0.book.table source handle a d.1 =
      decide_by caller.client a ends (room_of carry a) g.machine.store.volume.boot x.copies handle names (refusal x.copies.source.loc carry a closed)
      (refusal_takes x.copies.source.loc carry a closed (open_plain g.machine.opens (meant_id g.held.id a.dst_id) file access.Write)) in
      record {
        answer = d.1;
        is = refl;
        decides = subst (λ (c : Copies). Decides Before c.book.table source handle a d.1) (sym (seated_keeps caller.session carry (job_in d.1) (record x { copies = d.0 }))) taken;
      }

-- ---- the operations behind SEQUENCE

abbrev pub went : {X : Type 0} → (ok : Bool) → Performed X → Walked X → Walked X
went ok a w = if ok then record { course = w.course; results = a.res ∷ w.results } else record { course = a.course; results = a.res ∷ [] }

-- the results of SEQUENCE, PUTFH, SAVEFH, PUTFH and COPY, or four at most
abbrev pub Says : JobTable → JobTable → List ℕ → List ℕ → CopyArgs → SequenceArgs → List Res → Type 0
Says t u source handle a slot results =
    (length results ≤ 4)
    ⊎ ((last : Res) × ((more : List Res)
    × ((results ≡ sequence_done slot ∷ res.File (files.PutFh statuses.OK) ∷ res.File (files.SaveFh statuses.OK) ∷ res.File (files.PutFh statuses.OK) ∷ last ∷ more)
    × Answers t u source handle a last × (length more ≤ 1))))

ok_is : (s : Status) → (s.number == 0) ≡ true → s ≡ statuses.OK
ok_is s is = let none : s.number ≡ 0 = eqb-true s.number 0 is in ap so none
  where
    so : ℕ → Status
    so n = record { number = n }

plain_other : (s : Status) → Plain s → (s.number == 0) ≡ false
plain_other s plain = by (s.number == 0) ((s.number == statuses.OFFLOAD_NO_REQS.number) || false) plain.1
  where
    by : (x y : Bool) → (x || y) ≡ false → x ≡ false
    by true y is = absurd cc
    by false y is = refl

abbrev pub PutOk : Res
PutOk = res.File (files.PutFh statuses.OK)

abbrev pub SaveOk : Res
SaveOk = res.File (files.SaveFh statuses.OK)

module _ {M : Type 0} (choice : Choice) (caller : Caller) (carry : Option Carried) (tail : Tail) (source handle : List ℕ) (a : CopyArgs) (slot : SequenceArgs) where
  abbrev pub Walk : List Op → Course (Destination M) → Walked (Destination M)
  Walk os c = walk dest_rules.service choice caller carry tail os c

  abbrev pub Perform : List Op → Op → Course (Destination M) → Performed (Destination M)
  Perform rest op c = perform dest_rules.service choice caller carry (next_number rest) op c

  tail_few : (r : Option TailRefusal) (c : Course (Destination M)) → length (at_tail r c).results ≤ 1
  tail_few None c = omega arith
  tail_few (Some r) c = omega arith

  tail_keeps : (r : Option TailRefusal) (c : Course (Destination M)) → (at_tail r c).course ≡ c
  tail_keeps None c = refl
  tail_keeps (Some r) c = refl

  -- COPY, and what the tail answers
  last_by : (ok : Bool) (p : Performed (Destination M)) (w : Walked (Destination M)) → length w.results ≤ 1 → w.course ≡ p.course
      → (more : List Res) × (((went ok p w).results ≡ p.res ∷ more) × (length more ≤ 1) × ((went ok p w).course ≡ p.course))
  last_by true p w few same = (w.results, (refl, few, same))
  last_by false p w few same = ([], (refl, omega arith, refl))

  abbrev pub TableOf : Walked (Destination M) → JobTable
  TableOf w = table_of w.course.going.machine.extra

  -- COPY behind handles that are held
  pub record Copies_ (x : Destination M) (w : Walked (Destination M)) : Type 0 where
    pub last : Res
    pub more : List Res
    pub are : w.results ≡ last ∷ more
    pub answers : Answers (table_of x) (TableOf w) source handle a last
    pub few : length more ≤ 1

  copy_answers : (x : Destination M) (rest : List Op) (c : Course (Destination M)) → Held x source handle c.going
      → Answers (table_of x) (table_of (Perform rest (ops.Copy (copy_args.Copy a)) c).course.going.machine.extra) source handle a (Perform rest (ops.Copy (copy_args.Copy a)) c).res
  unfolding perform serves
  copy_answers x rest c held =
      let g = c.going in
      let Is : Option (List ℕ) → Option (List ℕ) → Type 0 =
      λ current saved.
      let ends = ends_of g.machine.store current saved in
      Answers (table_of g.machine.extra) (table_of (copy_between ends caller carry a (room_of carry a) g).going.machine.extra) source handle a
      (res.Copy (copy_between ends caller carry a (room_of carry a) g).res) in
      let here : Is (Some handle) (Some source) = between caller carry a source handle g (byte_file g.machine.store (Some handle)) (byte_names g.machine.store handle) in
      let saved : Is (Some handle) g.held.saved = subst (λ (s : Option (List ℕ)). Is (Some handle) s) (sym held.saved) here in
      let all : Is g.held.current g.held.saved = subst (λ (h : Option (List ℕ)). Is h g.held.saved) (sym held.current) saved in
      subst (λ (y : Destination M). Answers (table_of y) (table_of (copy_between (ends_of g.machine.store g.held.current g.held.saved) caller carry a (room_of carry a) g).going.machine.extra) source handle a
      (res.Copy (copy_between (ends_of g.machine.store g.held.current g.held.saved) caller carry a (room_of carry a) g).res)) held.extra_is all

  copies_by : (x : Destination M) (c : Course (Destination M)) → Held x source handle c.going → Copies_ x (Walk (ops.Copy (copy_args.Copy a) ∷ []) c)
  unfolding walk
  copies_by x c held =
      let p = Perform [] (ops.Copy (copy_args.Copy a)) c in
      let end = last_by ((res_status p.res).number == 0) p (at_tail (tail_refusal tail) p.course) (tail_few (tail_refusal tail) p.course) (tail_keeps (tail_refusal tail) p.course) in
      record {
        last = p.res;
        more = end.0;
        are = end.1.0;
        answers = subst (λ (y : Course (Destination M)). Answers (table_of x) (table_of y.going.machine.extra) source handle a p.res) (sym end.1.2) (copy_answers x [] c held);
        few = end.1.1;
      }

  -- so many results at most, or these and then that of COPY
  pub record Ends_ (x : Destination M) (front : List Res) (w : Walked (Destination M)) : Type 0 where
    pub last : Res
    pub more : List Res
    pub are : w.results ≡ front ++ last ∷ more
    pub answers : Answers (table_of x) (TableOf w) source handle a last
    pub few : length more ≤ 1

  abbrev pub Reaches : Destination M → (most : ℕ) → List Res → Walked (Destination M) → Type 0
  Reaches x most front w = (length w.results ≤ most) ⊎ Ends_ x front w

  stops_there : (x : Destination M) (most : ℕ) (front : List Res) (p : Performed (Destination M)) (w : Walked (Destination M)) (ok : Bool) → ok ≡ false → Reaches x (most + 1) front (went ok p w)
  stops_there x most front p w true is = absurd cc
  stops_there x most front p w false is = inl (omega arith)

  goes_past : (x : Destination M) (most : ℕ) (front : List Res) (r : Res) (p : Performed (Destination M)) (w : Walked (Destination M)) (ok : Bool) → ok ≡ true → p.res ≡ r → Reaches x most front w
      → Reaches x (most + 1) (r ∷ front) (went ok p w)
  goes_past x most front r p w false is same rest = absurd cc
  goes_past x most front r p w true is same (inl few) = inl (omega (arith, few))
  goes_past x most front r p w true is same (inr e) =
      inr (record { last = e.last; more = e.more; are = ap (λ (y : Res). y ∷ w.results) same ∙ ap (λ (rs : List Res). r ∷ rs) e.are; answers = e.answers; few = e.few })

  -- a handle is put
  abbrev PutSo : List ℕ → Destination M → Option (List ℕ) → Performed (Destination M) → Type 0
  PutSo named x saved p =
      (((res_status p.res).number == 0) ≡ false)
      ⊎ ((p.res ≡ res.File (files.PutFh statuses.OK)) × (p.course.going.machine.extra ≡ x) × (p.course.going.held.current ≡ Some named) × (p.course.going.held.saved ≡ saved))

  put_by : (named : List ℕ) (r : Result ℕ Status) (c : Course (Destination M)) → Names named r
      → PutSo named c.going.machine.extra c.going.held.saved (record { course = record { going = (put_told named r c.going).going; sessions = c.sessions }; res = res.File (put_told named r c.going).res })
  put_by named (Err s) c names = inl (plain_other s names)
  put_by named (Ok file) c names = inr (refl, refl, refl, refl)

  put_any : (named : List ℕ) (file : ℕ) (c : Course (Destination M))
      → PutSo named c.going.machine.extra c.going.held.saved (record { course = record { going = (put_told named (Ok file) c.going).going; sessions = c.sessions }; res = res.File (put_told named (Ok file) c.going).res })
  put_any named file c = inr (refl, refl, refl, refl)

  put_if : (named : List ℕ) (next : Bool) (c : Course (Destination M))
      → PutSo named c.going.machine.extra c.going.held.saved (record { course = record { going = (put_tested next named c.going).going; sessions = c.sessions }; res = res.File (put_tested next named c.going).res })
  put_if named true c = put_any named 0 c
  put_if named false c = put_by named (handle_file (length c.going.machine.store.volume.files) c.going.machine.store.tag named) c (handle_names c.going.machine.store named)

  puts : (named : List ℕ) (rest : List Op) (c : Course (Destination M)) → PutSo named c.going.machine.extra c.going.held.saved (Perform rest (ops.File (args.PutFh named)) c)
  unfolding perform file_done put
  puts named rest c = put_if named (is_saved_next (next_number rest)) c

  -- it is saved
  abbrev PutSaved : Performed (Destination M) → Course (Destination M) → Type 0
  PutSaved p c = (p.res ≡ res.File (files.SaveFh statuses.OK)) × (p.course.going.machine.extra ≡ c.going.machine.extra) × (p.course.going.held.saved ≡ Some source)

  save_so : (current : Option (List ℕ)) (c : Course (Destination M)) → c.going.held.current ≡ current → current ≡ Some source
      → PutSaved (record { course = record { going = (save_told current c.going).going; sessions = c.sessions }; res = res.File (save_told current c.going).res }) c
  save_so None c is some = absurd cc
  save_so (Some named) c is some = (refl, refl, some)

  saves : (rest : List Op) (c : Course (Destination M)) → c.going.held.current ≡ Some source → PutSaved (Perform rest (ops.File args.SaveFh) c) c
  unfolding perform file_done save
  saves rest c is = save_so c.going.held.current c refl is

  ok_true : (p : Performed (Destination M)) (r : Res) → p.res ≡ r → ((res_status r).number == 0) ≡ true → ((res_status p.res).number == 0) ≡ true
  ok_true p r is ok = ap (λ (y : Res). (res_status y).number == 0) is ∙ ok

  -- ---- from the last operation to the first

  put_walk : (x : Destination M) (p : Performed (Destination M)) → PutSo handle x (Some source) p
      → Reaches x 1 (PutOk ∷ []) (went ((res_status p.res).number == 0) p (Walk (ops.Copy (copy_args.Copy a) ∷ []) p.course))
  put_walk x p (inl bad) = stops_there x 0 (PutOk ∷ []) p (Walk (ops.Copy (copy_args.Copy a) ∷ []) p.course) ((res_status p.res).number == 0) bad
  put_walk x p (inr so) =
      let e = copies_by x p.course (record { extra_is = so.1; current = so.2; saved = so.3 }) in
      goes_past x 0 [] PutOk p (Walk (ops.Copy (copy_args.Copy a) ∷ []) p.course) ((res_status p.res).number == 0) (ok_true p PutOk so.0 refl) so.0
      (inr (record { last = e.last; more = e.more; are = e.are; answers = e.answers; few = e.few }))

  second_walk : (x : Destination M) (c : Course (Destination M)) → c.going.machine.extra ≡ x → c.going.held.saved ≡ Some source
      → Reaches x 1 (PutOk ∷ []) (Walk (ops.File (args.PutFh handle) ∷ ops.Copy (copy_args.Copy a) ∷ []) c)
  unfolding walk
  second_walk x c extra saved =
      let p = Perform (ops.Copy (copy_args.Copy a) ∷ []) (ops.File (args.PutFh handle)) c in
      let so : PutSo handle x (Some source) p =
      subst (λ (y : Destination M). PutSo handle y (Some source) p) extra
      (subst (λ (h : Option (List ℕ)). PutSo handle c.going.machine.extra h p) saved (puts handle (ops.Copy (copy_args.Copy a) ∷ []) c)) in
      put_walk x p so

  save_walk : (x : Destination M) (c : Course (Destination M)) → c.going.machine.extra ≡ x → c.going.held.current ≡ Some source
      → Reaches x 2 (SaveOk ∷ PutOk ∷ []) (Walk (ops.File args.SaveFh ∷ ops.File (args.PutFh handle) ∷ ops.Copy (copy_args.Copy a) ∷ []) c)
  unfolding walk
  save_walk x c extra current =
      let rest : List Op = ops.File (args.PutFh handle) ∷ ops.Copy (copy_args.Copy a) ∷ [] in
      let p = Perform rest (ops.File args.SaveFh) c in
      let so = saves rest c current in
      goes_past x 1 (PutOk ∷ []) SaveOk p (Walk rest p.course) ((res_status p.res).number == 0) (ok_true p SaveOk so.0 refl) so.0 (second_walk x p.course (so.1 ∙ extra) so.2)

  first_walk : (x : Destination M) (p : Performed (Destination M)) (saved : Option (List ℕ)) → PutSo source x saved p
      → Reaches x 3 (PutOk ∷ SaveOk ∷ PutOk ∷ [])
      (went ((res_status p.res).number == 0) p (Walk (ops.File args.SaveFh ∷ ops.File (args.PutFh handle) ∷ ops.Copy (copy_args.Copy a) ∷ []) p.course))
  first_walk x p saved (inl bad) =
      stops_there x 2 (PutOk ∷ SaveOk ∷ PutOk ∷ []) p (Walk (ops.File args.SaveFh ∷ ops.File (args.PutFh handle) ∷ ops.Copy (copy_args.Copy a) ∷ []) p.course) ((res_status p.res).number == 0) bad
  first_walk x p saved (inr so) =
      goes_past x 2 (SaveOk ∷ PutOk ∷ []) PutOk p (Walk (ops.File args.SaveFh ∷ ops.File (args.PutFh handle) ∷ ops.Copy (copy_args.Copy a) ∷ []) p.course) ((res_status p.res).number == 0)
      (ok_true p PutOk so.0 refl) so.0 (save_walk x p.course so.1 so.2)

  pub all_walk : (c : Course (Destination M)) → Reaches c.going.machine.extra 3 (PutOk ∷ SaveOk ∷ PutOk ∷ [])
      (Walk (ops.File (args.PutFh source) ∷ ops.File args.SaveFh ∷ ops.File (args.PutFh handle) ∷ ops.Copy (copy_args.Copy a) ∷ []) c)
  unfolding walk
  all_walk c =
      let rest : List Op = ops.File args.SaveFh ∷ ops.File (args.PutFh handle) ∷ ops.Copy (copy_args.Copy a) ∷ [] in
      first_walk c.going.machine.extra (Perform rest (ops.File (args.PutFh source)) c) c.going.held.saved (puts source rest c)

  pub walk_says : (x : Destination M) (w : Walked (Destination M)) → Reaches x 3 (PutOk ∷ SaveOk ∷ PutOk ∷ []) w → Says (table_of x) (TableOf w) source handle a slot (sequence_done slot ∷ w.results)
  walk_says x w (inl few) = inl (omega (arith, few))
  walk_says x w (inr e) = inr (e.last, (e.more, (ap (λ (rs : List Res). sequence_done slot ∷ rs) e.are, e.answers, e.few)))
