-- A COPY that gives a name took a copy of this plan, which is the last job of the table then.
use Rattle.std.proofs.Common.{◌≡◌, inl, inr, ℕ, ◌+◌, ◌<◌, ◌≤◌, ◌^◌, Bool, true, false, List, [], ◌∷◌, ◌++◌, length, Option, Some, None, refl, sym, ap, subst, ◌∙◌, arith, lit<}
use Rattle.std.specs.Prelude.{◌==◌, ◌&&◌, max, not, nat_lt, find, option_and_then, option_map, slice_get}
use Rattle.std.specs.List.{AllByRecursion, flat_map}
use Rattle.std.proofs.lemmas.Grind.{flat_map-append}
use Rattle.std.proofs.lemmas.Bool.{eq-eqb, ne_eqb}
use Rattle.call_results.specs.Results.{at, told_accepted}
use Rattle.compound_server.specs.Compounds.{by_begin, by_first, by_minor, caller_at, on_compound, sequence, sequence_done, unless_many}
use Rattle.compound_server.specs.State.{Given, State, begun, with_own}
use Rattle.compound_server.specs.Walking.{walk}
use Rattle.compound_server.specs.declared.who.Who.{Who}
use Rattle.copy_model.specs.Job.{Plan as CopyPlan}
use Rattle.copy_ops.specs.Forms.{copy_answer, copy_done, copy_res}
use Rattle.copy_ops.specs.declared.arg.CopyArg.TheVariants as copy_args
use Rattle.copy_ops.specs.declared.args.CopyArgs.{CopyArgs}
use Rattle.copy_ops.specs.declared.res.CopyRes.TheVariants as copies
use Rattle.copy_ops.specs.declared.results.CopyAnswer.{CopyAnswer}
use Rattle.copy_ops.specs.declared.results.CopyAnswer.TheVariants as answers
use Rattle.dest_core.specs.Core.{dest_rules}
use Rattle.dest_core.specs.Stepping.{DestState, DestStep, IsRecord, IsRecordBy}
use Rattle.dest_core.specs.declared.destination.Destination.{Destination}
use Rattle.dest_jobs.specs.Copying.{copy_begun}
use Rattle.dest_jobs.specs.declared.carried.Carried.{Carried}
use Rattle.dest_laws.proofs.names.Asking.{IsSaid, put_fits, sequence_fits, table_of}
use Rattle.dest_laws.proofs.names.Copied.{Answers, Decides, Says, Takes, TakesNone, all_walk, walk_says}
use Rattle.dest_laws.proofs.names.Stated.{Spelled}
use Rattle.dest_laws.specs.Histories.Linked.{looked_up, name_at}
use Rattle.dest_laws.specs.Histories.Seen.{seen, seen_in}
use Rattle.dest_laws.specs.Names.Holding.{IsFairRecord}
use Rattle.dest_laws.specs.Names.Right.{AreGiven}
use Rattle.dest_laws.specs.View.Steps.{ShowsStep, table_in}
use Rattle.dest_laws.specs.View.View.{plan_seen}
use Rattle.file_ops.specs.Results.{file_res}
use Rattle.file_ops.specs.declared.args.FileArg.TheVariants as args
use Rattle.file_ops.specs.declared.results.FileRes.TheVariants as files
use Rattle.file_ops.specs.declared.sessions.SequenceArgs.{SequenceArgs}
use Rattle.gss_mech.specs.declared.mechanism.Accepted.{Accepted}
use Rattle.job_book.specs.Book.{id_of, named, next_of}
use Rattle.job_table.specs.Table.{JobTable, is_job, new_job, with_job}
use Rattle.job_table.specs.declared.job.Job.{Job}
use Rattle.job_table.specs.declared.job.Plan.{Plan}
use Rattle.nfs_base.specs.Forms.{stability, state_id, status, write_response}
use Rattle.nfs_base.specs.declared.job.JobName.{JobName}
use Rattle.nfs_base.specs.declared.limits.TheConstants.{MOST_OPERATIONS, TEXT_LIMIT}
use Rattle.nfs_base.specs.declared.status.Status.{Status}
use Rattle.nfs_base.specs.declared.status.TheConstants.Status as statuses
use Rattle.nfs_compound.specs.Compounds.{IsCompound}
use Rattle.nfs_compound.specs.Ops.{operation}
use Rattle.nfs_compound.specs.Results.{outcome, reply, res_body}
use Rattle.nfs_compound.specs.Walk.{last_status}
use Rattle.nfs_compound.specs.declared.compound.Compound.{Compound}
use Rattle.nfs_compound.specs.declared.compound.TheConstants.{MINOR_VERSION}
use Rattle.nfs_compound.specs.declared.op.Op.{Op}
use Rattle.nfs_compound.specs.declared.op.Op.TheVariants as ops
use Rattle.nfs_compound.specs.declared.reply.Reply.{Reply}
use Rattle.nfs_compound.specs.declared.res.Res.{Res}
use Rattle.nfs_compound.specs.declared.res.Res.TheVariants as res
use Rattle.nfs_compound.specs.declared.tail.Tail.{Tail}
use Rattle.rpc_calls.specs.Judging.{judged_of}
use Rattle.rpc_calls.specs.declared.call.Judged.{Judged}
use Rattle.rpc_calls.specs.declared.call.Judged.TheVariants as judged
use Rattle.rpc_calls.specs.declared.call.TheConstants.Program as programs
use Rattle.server_laws.specs.Acts.{acts_of, tells, told as told_of}
use Rattle.server_laws.specs.ContextLaws.{InEachStep}
use Rattle.server_laws.specs.Steps.{IsStep}
use Rattle.server_laws.specs.Told.{IsTold, TellsGiven, given_in}
use Rattle.server_volume.specs.Choices.{Choice}
use Rattle.sess_slots.specs.Begins.{begin_of}
use Rattle.sess_slots.specs.declared.answers.Begin.{Begin}
use Rattle.sess_slots.specs.declared.answers.Begin.TheVariants as begin
use Rattle.session_server.specs.Host.{Codes}
use Rattle.session_server.specs.Steps.{IsJudgedTurn, IsTurn, who_calls}
use Rattle.slot_calls.specs.BytesLaws.{ops_are_bytes}
use Rattle.slot_laws.specs.Turns.{first_retries, is_replay, is_retry}
use Rattle.streams.specs.declared.draws.Drawn.{Drawn}
use Rattle.tell_laws.specs.ReadBack.{ReadsBack}
use Rattle.wire_lines.specs.declared.letters.Speaker.{Speaker}
use Rattle.wire_meaning.specs.Meaning.{asked_by, copy_asked, job_named, meaning, ops_read, plan_asked, results_read, told_by}
use Rattle.wire_model.specs.Meaning.{Meaning}
use Rattle.wire_model.specs.NameLaws.{IsAccepted}
use Rattle.wire_model.specs.Spelling.{Spelling}
use Rattle.wire_model.specs.System.{System}
use Rattle.wire_model.specs.Wire.{Executed}
use Rattle.wire_xdr.specs.All.{value_of}
use Rattle.wire_xdr.specs.Cursor.{IsBytes}
use Rattle.wire_xdr.specs.LengthLaws.{hyper_length}

-- ---- the whole COMPOUND, which isn't a retry

module _ {M : Type 0} (choice : Choice) (who : Who) (principal : List ℕ) (carry : Option Carried) (slot : SequenceArgs) (source handle : List ℕ) (a : CopyArgs) (x : Destination M) where
  abbrev pub Said : List ℕ → Given (Destination M) → Type 0
  Said tag g = IsSaid tag (Says (table_of x) (table_of g.state.machine.extra) source handle a slot) g.body

  abbrev pub behind : List Op
  behind = ops.File (args.PutFh source) ∷ ops.File args.SaveFh ∷ ops.File (args.PutFh handle) ∷ ops.Copy (copy_args.Copy a) ∷ []

  few_said : (u : JobTable) (tag : List ℕ) (st : Status) (results : List Res) → length results ≤ 4
      → IsSaid tag (Says (table_of x) u source handle a slot) (reply.spell (record { status = st; tag = tag; results = results }))
  few_said u tag st results few = record { status = st; results = results; is = refl; said = inl few }

  begin_said : (b : Begin) (tag : List ℕ) (tail : Tail) (s : State (Destination M)) → s.machine.extra ≡ x → is_replay b ≡ false
      → Said tag (by_begin b dest_rules.service choice who carry tag slot behind tail s)
  begin_said (begin.New place) tag tail s same new =
      let w = walk dest_rules.service choice (caller_at who place s.sessions) carry tail behind (begun s) in
      record {
        status = last_status (sequence_done slot ∷ w.results);
        results = sequence_done slot ∷ w.results;
        is = refl;
        said = subst (λ (y : Destination M). Says (table_of y) (table_of w.course.going.machine.extra) source handle a slot (sequence_done slot ∷ w.results)) same
            (walk_says choice (caller_at who place s.sessions) carry tail source handle a slot s.machine.extra w
            (all_walk choice (caller_at who place s.sessions) carry tail source handle a slot (begun s)));
      }
  begin_said (begin.Replay place) tag tail s same new = absurd cc
  begin_said begin.FalseRetry tag tail s same new = few_said _ tag _ _ (omega arith)
  begin_said begin.BadSession tag tail s same new = few_said _ tag _ _ (omega arith)
  begin_said begin.BadSlot tag tail s same new = few_said _ tag _ _ (omega arith)
  begin_said begin.Misordered tag tail s same new = few_said _ tag _ _ (omega arith)

  first_said : (tag : List ℕ) (count : ℕ) (tail : Tail) (s : State (Destination M)) → s.machine.extra ≡ x
      → first_retries who.root (ops.File (args.Sequence slot) ∷ behind) s.sessions ≡ false
      → Said tag (by_first dest_rules.service dest_rules.parting choice who principal carry tag count (ops.File (args.Sequence slot) ∷ behind) tail s)
  unfolding by_first sequence
  first_said tag count tail s same new = begin_said (begin_of s.sessions slot.session slot.slot slot.sequence who.root) tag tail s same new

  module _ (c : Compound) (ops_are : c.ops ≡ ops.File (args.Sequence slot) ∷ behind) where
    many_said : (many : Bool) (s : State (Destination M)) → s.machine.extra ≡ x → (not many && first_retries who.root c.ops s.sessions) ≡ false
        → Said c.tag (unless_many many dest_rules.service dest_rules.parting choice who principal carry c s)
    many_said true s same new = few_said _ c.tag _ _ (omega arith)
    many_said false s same new =
        subst (λ (os : List Op). Said c.tag (by_first dest_rules.service dest_rules.parting choice who principal carry c.tag c.count os c.tail s)) (sym ops_are)
        (first_said c.tag c.count c.tail s same (ap (λ (os : List Op). first_retries who.root os s.sessions) (sym ops_are) ∙ new))

    minor_said : (minor : Bool) (s : State (Destination M)) → s.machine.extra ≡ x
        → (minor && (not (nat_lt MOST_OPERATIONS c.count) && first_retries who.root c.ops s.sessions)) ≡ false
        → Said c.tag (by_minor minor dest_rules.service dest_rules.parting choice who principal carry c s)
    minor_said false s same new = few_said _ c.tag _ _ (omega arith)
    minor_said true s same new = many_said (nat_lt MOST_OPERATIONS c.count) s same new

    pub compound_said : (s : State (Destination M)) → s.machine.extra ≡ x → is_retry who.root c s.sessions ≡ false
        → Said c.tag (on_compound dest_rules.service dest_rules.parting choice who principal carry c s)
    unfolding on_compound
    compound_said s same new = minor_said (c.minor == MINOR_VERSION) (with_own (dest_rules.parting.lapse who.second s.machine.extra) s) same new

-- ---- it is read back

save_fits : outcome.Fits (res.File (files.SaveFh statuses.OK))
unfolding outcome res_body file_res status
save_fits = (omega arith, (refl, refl, (refl, omega arith)))

copy_fits : (answer : CopyAnswer) → copy_answer.Fits answer → outcome.Fits (res.Copy (copies.Copy answer))
unfolding outcome res_body copy_res
copy_fits answer fits = (lit< tt, (refl, (refl, fits)))

none_fits : (answer : CopyAnswer) → TakesNone answer → copy_answer.Fits answer
unfolding copy_answer
none_fits (answers.Done done) none = absurd none
none_fits (answers.NoReqs consecutive synchronous) none = (lit< tt, refl, (tt, tt))
none_fits (answers.Refused s) plain = (plain.0, plain.1, tt)

begun_fits : (name : JobName) (boot : ℕ) (consecutive : Bool) → name.boot < 2 ^ 32 → name.number < 2 ^ 32 → copy_answer.Fits (answers.Done (copy_begun name boot consecutive))
unfolding copy_answer copy_done write_response state_id stability
begun_fits name boot consecutive first second = (lit< tt, refl, (((lit< tt, (lit< tt, (first, second))), (lit< tt, ((lit< tt, tt), hyper_length boot))), (tt, tt)))

module _ (t u : JobTable) (source handle : List ℕ) (a : CopyArgs) (boot_small : t.boot < 2 ^ 32) (made_small : t.made + 1 < 2 ^ 32) where
  decides_fits : (answer : CopyAnswer) → Decides t u source handle a answer → copy_answer.Fits answer
  decides_fits answer (inl none) = none_fits answer none
  decides_fits answer (inr takes) = subst copy_answer.Fits (sym takes.is) (begun_fits (next_of t) takes.boot takes.plan.consecutive boot_small made_small)

  -- a name is given only where one is taken, which has it
  abbrev pub Gives : JobName → Type 0
  Gives name = (answer : CopyAnswer) × (Takes t u source handle a answer × (name ≡ next_of t))

  no_name : (answer : CopyAnswer) (name : JobName) → TakesNone answer → option_map job_named (told_accepted (res.Copy (copies.Copy answer))) ≡ Some name → ⊥
  no_name (answers.Done done) name none is = none
  no_name (answers.NoReqs consecutive synchronous) name none is = cc
  no_name (answers.Refused s) name none is = cc

  some_name : (n m : JobName) → ◌≡◌ {A = Option JobName} (Some n) (Some m) → m ≡ n
  some_name n m is = cc

  gives : (answer : CopyAnswer) (name : JobName) → Decides t u source handle a answer → option_map job_named (told_accepted (res.Copy (copies.Copy answer))) ≡ Some name → Gives name
  gives answer name (inl none) is = absurd (no_name answer name none is)
  gives answer name (inr takes) is =
      (answer, (takes, some_name (next_of t) name (sym (ap (λ (x : CopyAnswer). option_map job_named (told_accepted (res.Copy (copies.Copy x)))) takes.is) ∙ is)))

  short_none : (rs : List Res) → length rs ≤ 4 → slice_get rs 4 ≡ None
  short_none [] few = refl
  short_none (p ∷ []) few = refl
  short_none (p ∷ q ∷ []) few = refl
  short_none (p ∷ q ∷ r ∷ []) few = refl
  short_none (p ∷ q ∷ r ∷ s ∷ []) few = refl
  short_none (p ∷ q ∷ r ∷ s ∷ o ∷ rs) few = absurd (omega (arith, few))

  module _ (reads : ReadsBack) (slot : SequenceArgs) (slot_fits : operation.Fits (ops.File (args.Sequence slot))) (tag : List ℕ) (short : length tag ≤ TEXT_LIMIT) (body : List ℕ)
      (said : IsSaid tag (Says t u source handle a slot) body) where
    fifth : (s : Says t u source handle a slot said.results) (v : Reply) (name : JobName) → value_of reply body ≡ Some v → option_map job_named (at 4 told_accepted v.results) ≡ Some name → Gives name
    fifth (inl few) v name read h =
        let counted = (reads said.status tag said.results body v said.is short (omega (arith, few)) read).as_many in
        let none : slice_get v.results 4 ≡ None = short_none v.results (omega (arith, few, counted)) in
        absurd (let wrong = sym (ap (λ (r : Option Res). option_map job_named (option_and_then told_accepted r)) none) ∙ h in cc)
    fifth (inr s) v name read h =
        let answers : Answers t u source handle a s.0 = s.1.1.1 in
        let one : Res = sequence_done slot in
        let put : Res = res.File (files.PutFh statuses.OK) in
        let save : Res = res.File (files.SaveFh statuses.OK) in
        let last : Res = s.0 in
        let more : List Res = s.1.0 in
        let five : List Res = one ∷ put ∷ save ∷ put ∷ last ∷ [] in
        let count : length said.results ≡ length (five ++ more) = ap (λ (rs : List Res). length rs) s.1.1.0 in
        let few : length said.results < 2 ^ 32 = omega (arith, s.1.1.2, count) in
        let last_fits : outcome.Fits last = subst outcome.Fits (sym answers.is) (copy_fits answers.answer (decides_fits answers.answer answers.decides)) in
        let first =
        (reads said.status tag said.results body v said.is short few read).first five (flat_map outcome.spell more)
        (sequence_fits slot slot_fits, (put_fits, (save_fits, (put_fits, (last_fits, tt))))) (omega (arith, count))
        (ap (λ (rs : List Res). flat_map outcome.spell rs) s.1.1.0 ∙ flat_map-append outcome.spell five more) in
        gives answers.answer name answers.decides
        (sym (ap (λ (r : Res). option_map job_named (told_accepted r)) answers.is) ∙ (sym (ap (λ (rs : List Res). option_map job_named (at 4 told_accepted rs)) first.1) ∙ h))

    value_gives : (r : Option Reply) (name : JobName) → value_of reply body ≡ r → option_map job_named (at 4 told_accepted (results_read r)) ≡ Some name → Gives name
    value_gives None name read h = absurd cc
    value_gives (Some v) name read h = fifth said.said v name read h

    pub name_given : (name : JobName) → option_map job_named (at 4 told_accepted (told_by body)) ≡ Some name → Gives name
    name_given name h = value_gives (value_of reply body) name refl h

-- ---- the step

record AsksCopy (os : List Op) (plan : CopyPlan) : Type 0 where
  slot : SequenceArgs
  source : List ℕ
  handle : List ℕ
  a : CopyArgs
  ops_are : os ≡ ops.File (args.Sequence slot) ∷ ops.File (args.PutFh source) ∷ ops.File args.SaveFh ∷ ops.File (args.PutFh handle) ∷ ops.Copy (copy_args.Copy a) ∷ []
  plan_is : plan_asked source handle a ≡ plan

some_plan : (p q : CopyPlan) → ◌≡◌ {A = Option CopyPlan} (Some p) (Some q) → p ≡ q
some_plan p q is = cc

asks_copy : (os : List Op) (plan : CopyPlan) → copy_asked os ≡ Some plan → AsksCopy os plan
asks_copy (ops.File (args.Sequence slot) ∷ ops.File (args.PutFh source) ∷ ops.File args.SaveFh ∷ ops.File (args.PutFh handle) ∷ ops.Copy (copy_args.Copy a) ∷ []) plan h =
    record { slot = slot; source = source; handle = handle; a = a; ops_are = refl; plan_is = some_plan (plan_asked source handle a) plan h }
asks_copy os plan h = absurd cc

-- the table goes on by a job of this plan, which has this name
pub record TakesCopy (t u : JobTable) (plan : CopyPlan) (name : JobName) : Type 0 where
  pub kept : Plan
  pub table : u ≡ with_job t kept
  pub shown : plan_seen kept ≡ plan
  pub named : name ≡ next_of t

module _ {M : Type 0} (reads : ReadsBack) (spelled : Spelled) (codes : Codes) (message : List ℕ) (all : IsBytes message) (now : ℕ) (d : DestState M) (t : DestStep M) (e : Executed)
    (told : IsTold {X = Destination M} {C = Carried} dest_rules codes message now d t e) (boot_small : (table_in d).boot < 2 ^ 32) (made_small : (table_in d).made + 1 < 2 ^ 32) where
  abbrev c : Compound
  c = told.step.compound

  found : IsCompound c told.step.args
  found = spelled told.step.args c (subst IsBytes told.step.asked.ops_are (ops_are_bytes message all)) told.step.read

  asked_is : asked_by e.ops ≡ c.ops
  asked_is = ap asked_by told.ops ∙ ap ops_read told.step.read

  abbrev given : Given (Destination M)
  given = given_in dest_rules codes told.conn message (max d.second now) d t told.step

  table_after : table_in t.host ≡ table_of given.state.machine.extra
  table_after = ap (λ (u : DestStep M). table_in u.host) told.step.step_is

  pub copy_given : (plan : CopyPlan) (name : JobName) → copy_asked (asked_by e.ops) ≡ Some plan → meaning.name_in e.results ≡ Some name → TakesCopy (table_in d) (table_in t.host) plan name
  copy_given plan name asks gives_name =
      let a = asks_copy c.ops plan (sym (ap copy_asked asked_is) ∙ asks) in
      let fits : operation.Fits (ops.File (args.Sequence a.slot)) = (subst (λ (os : List Op). AllByRecursion operation.Fits os) a.ops_are found.fits.ops.1).0 in
      let said =
      compound_said told.step.choice
      (who_calls (max d.second now) told.conn (record { number = told.step.asked.number; seq = told.step.asked.seq }) told.step.asked.context)
      told.step.asked.context.principal told.step.asked.context.carry a.slot a.source a.handle a.a d.state.machine.extra c a.ops_are d.state refl told.new in
      let taken =
      name_given (table_in d) (table_of given.state.machine.extra) a.source a.handle a.a boot_small made_small reads a.slot fits c.tag found.fits.tag given.body said name
      (sym (ap (λ (r : List ℕ). meaning.name_in r) told.results) ∙ gives_name) in
      record {
        kept = taken.1.0.plan;
        table = table_after ∙ taken.1.0.table;
        shown = taken.1.0.shown ∙ a.plan_is;
        named = taken.1.1;
      }

-- ---- the system

find_last : (test : Job → Bool) (jobs : List Job) (job : Job) → AllByRecursion (λ j. test j ≡ false) jobs → test job ≡ true → find test (jobs ++ job ∷ []) ≡ Some job
find_last test [] job none is = rw is refl
find_last test (j ∷ jobs) job none is = rw none.0 (find_last test jobs job none.1 is)

none_yet : (boot made : ℕ) (jobs : List Job) → AllByRecursion (λ (j : Job). (0 < j.number) × (j.number ≤ made)) jobs
    → AllByRecursion (λ j. is_job boot (id_of (record { boot = boot; number = made + 1 })) j ≡ false) jobs
none_yet boot made [] all = tt
none_yet boot made (j ∷ jobs) all =
    let below = all.0.1 in
    let other : ((made + 1) == j.number) ≡ false = ne_eqb (made + 1) j.number (λ same. omega (arith, below, same)) in
    (rw other (and_false (boot == boot)), none_yet boot made jobs all.1)
  where
    and_false : (b : Bool) → (b && false) ≡ false
    and_false true = refl
    and_false false = refl

last_named : (t : JobTable) (plan : Plan) → AreGiven t → named (with_job t plan) (next_of t) ≡ Some (new_job (t.made + 1) plan)
last_named t plan given =
    find_last (is_job t.boot (id_of (next_of t))) t.jobs (new_job (t.made + 1) plan) (none_yet t.boot t.made t.jobs given)
    (rw (eq-eqb t.boot t.boot refl, eq-eqb (t.made + 1) (t.made + 1) refl) refl)

pub copy_accepted : {M : Type 0} (spell : Spelling) (mean : Meaning) (s : System) (k : ℕ) (took : Option (List ℕ)) (speaker : Speaker) (executed : Option Executed) (d : DestState M) (t : DestStep M)
    → ShowsStep spell mean s k took speaker executed d t → AreGiven (table_in d) → (plan : CopyPlan) (name : JobName) → TakesCopy (table_in d) (table_in t.host) plan name → IsAccepted s k plan name
copy_accepted spell mean s k took speaker executed d t shows given plan name takes =
    let before : JobTable = table_in d in
    let now : JobTable = table_in t.host in
    let made_now : now.made ≡ before.made + 1 = ap (λ (u : JobTable). u.made) takes.table in
    let boot_now : now.boot ≡ before.boot = ap (λ (u : JobTable). u.boot) takes.table in
    let old_made = shows.before.made in
    let new_made = shows.after.made in
    let seen_last : seen_in now (name_at now.boot before.made) ≡ seen (Some (new_job (before.made + 1) takes.kept)) =
    ap (λ (u : JobTable). seen_in u (name_at u.boot before.made)) takes.table ∙ ap seen (last_named before takes.kept given) in
    let shown = shows.goes.seen_as before.made (omega (arith, made_now)) in
    record {
      copy = before.made;
      new = omega (arith, old_made);
      there = omega (arith, new_made, made_now);
      plan_is = shown.plan ∙ ap (λ found. (looked_up plan_seen found (s.job k before.made)).plan) seen_last ∙ takes.shown;
      named = shows.after.names before.made ∙ ap (λ (b : ℕ). name_at b before.made) boot_now ∙ sym takes.named;
    }

-- ---- a record on a connection

module _ {M W : Type 0} (reads : ReadsBack) (spelled : Spelled) (codes : Codes) (accepted : List ℕ → List ℕ → Option Accepted) (gives : W → Drawn → W → Type 0)
    (tell : InEachStep {X = Destination M} {C = Carried} {W = W} dest_rules codes accepted gives (TellsGiven dest_rules codes))
    (conn : ℕ) (message : List ℕ) (now : ℕ) (d : DestState M) (before after : W) (t : DestStep M) (fair : IsFairRecord message d t) (e : Executed)
    (is_told : (acts_of codes message now d t).executed ≡ Some e) (plan : CopyPlan) (name : JobName) (asks : copy_asked (asked_by e.ops) ≡ Some plan) (gives_name : meaning.name_in e.results ≡ Some name) where
  abbrev Taken : Type 0
  Taken = TakesCopy (table_in d) (table_in t.host) plan name

  by_turn : IsTurn dest_rules codes accepted gives conn message now d before after t → Taken
  by_turn turn =
      let step : IsStep dest_rules codes accepted gives conn message now d before after t =
      record { good = fair.good; few = fair.few; are_bytes = fair.are_bytes; turn = turn; short = fair.short } in
      copy_given reads spelled codes message fair.are_bytes now d t e (tell conn message now d before after t step e is_told) fair.boot fair.made plan name asks gives_name

  abbrev Tells : Judged → Option Executed
  Tells j = told_of (tells j d.contexts d.state.sessions) message t.out.sent

  by_judged : (j : Judged) → judged_of codes.mic (max d.second now) programs.NFS message d.contexts ≡ j → IsRecordBy j codes accepted gives conn message now d before after t → Taken
  by_judged judged.Reply is turn = absurd (let wrong = sym (ap Tells is) ∙ is_told in cc)
  by_judged judged.Unread is turn = by_turn (subst (λ (j : Judged). IsJudgedTurn j dest_rules codes accepted gives (max d.second now) conn d before after t) (sym is) turn)
  by_judged (judged.Call call) is turn = by_turn (subst (λ (j : Judged). IsJudgedTurn j dest_rules codes accepted gives (max d.second now) conn d before after t) (sym is) turn)

  pub record_copies : IsRecord codes accepted gives conn message now d before after t → Taken
  record_copies turn = by_judged (judged_of codes.mic (max d.second now) programs.NFS message d.contexts) refl turn
