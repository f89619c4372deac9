-- How many calls each part of a client's step makes at most: what a desk counts goes up by so many.
use Rattle.std.proofs.Common.{◌≡◌, ℕ, ◌+◌, ◌*◌, ◌≤◌, Bool, true, false, List, [], ◌∷◌, length, Option, Some, None, refl, arith}
use Rattle.std.specs.Prelude.{min, not}
use Rattle.client_copies.specs.Copies.{due, is_overdue, side_of}
use Rattle.client_copies.specs.Table.{Copies, copy_at, told_at}
use Rattle.client_copies.specs.Copies as copies
use Rattle.client_copies.specs.declared.copy.Asking.{Asking}
use Rattle.client_copies.specs.declared.copy.Asking.TheVariants as asking
use Rattle.client_copies.specs.declared.copy.ClientCopy.{ClientCopy}
use Rattle.client_copies.specs.declared.copy.Query.{Query}
use Rattle.client_copies.specs.declared.copy.Query.TheVariants as queries
use Rattle.client_copies.specs.declared.copy.Step.{Step}
use Rattle.client_copies.specs.declared.copy.Step.TheVariants as steps
use Rattle.client_copies.specs.declared.event.Event.{Event}
use Rattle.client_copies.specs.declared.event.Event.TheVariants as events
use Rattle.client_copies.specs.declared.told.Said.{Said}
use Rattle.client_copies.specs.declared.told.Said.TheVariants.{Nothing, One, Two}
use Rattle.client_core.specs.Commands.{asked_if}
use Rattle.client_site.specs.declared.site.Site.{Site}
use Rattle.client_steps.specs.Calling.{again_sent, call_sent, create_if}
use Rattle.client_steps.specs.Commands as commands
use Rattle.client_steps.specs.Commands.{copies_again, copy_label, ticked}
use Rattle.client_steps.specs.CopySteps as copying
use Rattle.client_steps.specs.CopySteps.{copy_in}
use Rattle.client_steps.specs.Desks.{next_xid, put_out, said_by, sent_out, told_to, with_site}
use Rattle.client_steps.specs.declared.copy_steps.Openings.{Openings}
use Rattle.client_steps.specs.declared.desk.Desk.{Desk}
use Rattle.client_steps.specs.declared.setting.Setting.{Setting}
use Rattle.copy_privs.specs.declared.privilege.Privilege.{Privilege}
use Rattle.gss_ctx.specs.Seals.{Mic}
use Rattle.mount.specs.declared.calling.Under.{Under}
use Rattle.mount.specs.declared.calling.Under.TheVariants.{Root, Child}
use Rattle.mount.specs.declared.machine.Sent.{Sent}
use Rattle.nfs_base.specs.declared.side.Side.{Side}
use Rattle.nfs_base.specs.declared.side.Side.TheVariants.{Source, Dest}
use Rattle.outbox.specs.declared.label.CallLabel.{CallLabel}
use Rattle.session_calls.specs.declared.slot_call.SlotCall.{SlotCall}

-- from one desk to another at most so many calls were made
pub record Calls (n : ℕ) (d e : Desk) : Type 0 where
  pub few : e.calls ≤ d.calls + n

pub no_call : {d e : Desk} → e.calls ≡ d.calls → Calls 0 d e
no_call same = record { few = omega (arith, same) }

pub at_most : (n : ℕ) {d : Desk} → Calls n d d
at_most n = record { few = omega arith }

pub wider : {n : ℕ} (more : ℕ) {d e : Desk} → Calls n d e → Calls (n + more) d e
wider more calls = let few = calls.few in record { few = omega (arith, few) }

pub and_then : {m n : ℕ} {d e f : Desk} → Calls m d e → Calls n e f → Calls (m + n) d f
and_then before behind =
    let one = before.few in
    let two = behind.few in
    record { few = omega (arith, one, two) }

-- so many for each of a list
pub each_then : (m j : ℕ) (js : List ℕ) {d e f : Desk} → Calls m d e → Calls (m * length js) e f → Calls (m * length (j ∷ js)) d f
each_then m j js before behind =
    let one = before.few in
    let two = behind.few in
    let all : m * length (j ∷ js) ≡ m + m * length js = grind arith in
    record { few = omega (arith, one, two, all) }

-- ---- what makes no call

pub said_none : (j : ℕ) (said : Said) (d : Desk) → Calls 0 d (said_by j said d)
said_none j Nothing d = no_call refl
said_none j (One word) d = no_call refl
said_none j (Two first second) d = no_call refl

pub told_none : (j : ℕ) (event : Event) (d : Desk) → Calls 0 d (told_to j event d)
told_none j event d = and_then (copied (told_at j event d.copies).1 d) (said_none j (told_at j event d.copies).0 _)
  where
    copied : (t : Copies) (d : Desk) → Calls 0 d (record d { copies = t })
    copied t d = no_call refl

pub site_none : (side : Side) (s : Site) (d : Desk) → Calls 0 d (with_site side s d)
site_none Source s d = no_call refl
site_none Dest s d = no_call refl

told_if_none : (b : Bool) (j : ℕ) (d : Desk) → Calls 0 d (copying.sent_if b j d)
told_if_none true j d = told_none j events.Sent d
told_if_none false j d = at_most 0

-- ---- one call

next_counts : (calls : ℕ) → next_xid calls ≤ calls + 1
next_counts calls = let next : next_xid calls ≡ min (calls + 1) 4294967295 = refl in grind (arith, next)

out_one : (side : Side) (label : CallLabel) (o : Option Sent) (d : Desk) → Calls 1 d (sent_out side label o d)
out_one side label None d = at_most 1
out_one side label (Some sent) d = record { few = next_counts d.calls }

pub put_one : (side : Side) (label : CallLabel) (o : Option Sent × Site) (d : Desk) → Calls 1 d (put_out side label o d).1
put_one side label o d = and_then (site_none side o.1 d) (out_one side label o.0 (with_site side o.1 d))

pub call_one : (mic : Mic) (side : Side) (place : ℕ) (under : Under) (call : Option SlotCall) (d : Desk) → Calls 1 d (call_sent mic side place under call d).1
call_one mic side place under None d = at_most 1
call_one mic side place under (Some call) d = put_one side _ _ d

again_one : (mic : Mic) (side : Side) (place : ℕ) (label : CallLabel) (d : Desk) → Calls 1 d (again_sent mic side place label d)
again_one mic side place label d = put_one side label _ d

-- ---- the calls of copies

create_one : (b : Bool) (mic : Mic) (side : Side) (j : ℕ) (privilege : Privilege) (d : Desk) → Calls 1 d (create_if b mic side j privilege d).1
create_one true mic side j privilege d = put_one side _ _ d
create_one false mic side j privilege d = at_most 1

module _ {M : Type 0} (s : Setting M) (mic : Mic) where
  allows_one : (side : Side) (j : ℕ) (secret : List ℕ) (d : Desk) → Calls 1 d (copying.allows s mic side j secret d).1
  allows_one side j secret d = create_one _ mic side j _ d

  step_one : (step : Step) (j : ℕ) (c : ClientCopy) (d : Desk) → Calls 1 d (copying.step_call s mic step j c d).1
  step_one steps.OpenSource j c d = call_one mic Source j Root _ d
  step_one steps.OpenAgain j c d = call_one mic Source j Root _ d
  step_one steps.OpenDest j c d = call_one mic Dest j Root _ d
  step_one steps.AllowSource j c d = allows_one Source j c.secret d
  step_one steps.AllowDest j c d = allows_one Dest j c.secret d
  step_one steps.Notify j c d = call_one mic Source j (Child j) _ d
  step_one steps.Copy j c d = call_one mic Dest j (Child j) _ d
  step_one steps.Last j c d = call_one mic Source j Root _ d

  asked_one : (b : Bool) (step : Step) (j : ℕ) (c : ClientCopy) (d : Desk) → Calls 1 d (copying.asked_if b s mic step j c d).1
  asked_one true step j c d = step_one step j c d
  asked_one false step j c d = at_most 1

  told_one : (j : ℕ) (o : Bool × Desk) (d : Desk) → Calls 1 d o.1 → Calls 1 d (copying.told_sent j o)
  told_one j o d one = and_then one (told_if_none o.0 j o.1)

  asks_one : (o : Openings) (j : ℕ) (c : ClientCopy) (step : Option Step) (d : Desk) → Calls 1 d (copying.asks_step s mic o j c step d)
  asks_one o j c None d = at_most 1
  asks_one o j c (Some step) d =
      told_one j (copying.asked_if (copying.may_ask o step c d) s mic step j c d) d (asked_one (copying.may_ask o step c d) step j c d)

  copy_asks_one : (o : Openings) (j : ℕ) (copy : Option ClientCopy) (d : Desk) → Calls 1 d (copying.copy_asks s mic o j copy d)
  copy_asks_one o j None d = at_most 1
  copy_asks_one o j (Some c) d = asks_one o j c (due c.stage) d

  opened_none : (b : Bool) (j : ℕ) (side : Side) (d : Desk) → Calls 0 d (copying.opened_if b j side d)
  opened_none true j side d = told_none j (events.Opened side) d
  opened_none false j side d = at_most 0

  finds_none : (j : ℕ) (c : ClientCopy) (step : Option Step) (d : Desk) → Calls 0 d (copying.finds_open j c step d)
  finds_none j c None d = at_most 0
  finds_none j c (Some step) d = opened_none (copying.is_open step c d) j (side_of step) d

  copy_finds_none : (j : ℕ) (copy : Option ClientCopy) (d : Desk) → Calls 0 d (copying.copy_finds_open j copy d)
  copy_finds_none j None d = at_most 0
  copy_finds_none j (Some c) d = finds_none j c (due c.stage) d

  asking_one : (o : Openings) (j : ℕ) (d : Desk) → Calls 1 d (copying.goes_asking s mic o j d)
  asking_one o j d = copy_asks_one o j (copy_at j d.copies) d

  copy_one : (o : Openings) (j : ℕ) (d : Desk) → Calls 1 d (copying.copy_goes_on s mic o j d)
  copy_one o j d = and_then (copy_finds_none j (copy_at j d.copies) d) (asking_one o j (copying.copy_finds_open j (copy_at j d.copies) d))

  pub copies_each : (o : Openings) (js : List ℕ) (d : Desk) → Calls (1 * length js) d (copying.copies_go_on s mic o js d)
  copies_each o [] d = at_most 0
  copies_each o (j ∷ js) d = each_then 1 j js (copy_one o j d) (copies_each o js (copying.copy_goes_on s mic o j d))

-- ---- what is asked of copies, and what goes out again

module _ (mic : Mic) where
  queried_if_none : (b : Bool) (j : ℕ) (query : Query) (d : Desk) → Calls 0 d (commands.queried_if b j query d)
  queried_if_none true j query d = told_none j (events.Queried query) d
  queried_if_none false j query d = at_most 0

  queried_one : (j : ℕ) (query : Query) (c : ClientCopy) (d : Desk) → Calls 1 d (commands.queried mic j query c d)
  queried_one j query c d =
      let o = call_sent mic Dest j Root (commands.query_call query c d) d in
      and_then (call_one mic Dest j Root (commands.query_call query c d) d) (queried_if_none o.0 j query o.1)

  asked_by_one : (a : Asking) (j : ℕ) (query : Query) (c : ClientCopy) (d : Desk) → Calls 1 d (commands.asked_by a mic j query c d)
  asked_by_one asking.Busy j query c d = wider 1 (no_call refl)
  asked_by_one asking.Idle j query c d = wider 1 (no_call refl)
  asked_by_one asking.Ready j query c d = queried_one j query c d

  asked_of_one : (copy : Option ClientCopy) (j : ℕ) (query : Query) (d : Desk) → Calls 1 d (commands.asked_of copy mic j query d)
  asked_of_one None j query d = wider 1 (no_call refl)
  asked_of_one (Some c) j query d = asked_by_one (copies.asking c) j query c d

  query_one : (j : ℕ) (query : Query) (d : Desk) → Calls 1 d (commands.asked mic j query d)
  query_one j query d = asked_of_one (copy_in j d) j query d

  pub query_if_one : (b : Bool) (j : ℕ) (query : Query) (d : Desk) → Calls 1 d (asked_if b mic j query d)
  query_if_one true j query d = query_one j query d
  query_if_one false j query d = wider 1 (no_call refl)

  ticked_if_one : (b : Bool) (j : ℕ) (c : ClientCopy) (d : Desk) → Calls 1 d (commands.ticked_if b mic j c d)
  ticked_if_one true j c d = queried_one j queries.Status c d
  ticked_if_one false j c d = at_most 1

  ticked_of_one : (copy : Option ClientCopy) (j : ℕ) (d : Desk) → Calls 1 d (commands.ticked_of copy mic j d)
  ticked_of_one None j d = at_most 1
  ticked_of_one (Some c) j d = ticked_if_one (is_overdue d.second c) j c d

  pub ticked_each : (js : List ℕ) (d : Desk) → Calls (1 * length js) d (ticked mic js d)
  unfolding ticked
  ticked_each [] d = at_most 0
  ticked_each (j ∷ js) d = each_then 1 j js (ticked_of_one (copy_in j d) j d) (ticked_each js (commands.ticked_of (copy_in j d) mic j d))

  setup_one : (b : Bool) (side : Side) (d : Desk) → Calls 1 d (commands.setup_again mic b side d)
  setup_one true side d = again_one mic side 0 _ d
  setup_one false side d = at_most 1

  work_one : (b : Bool) (side : Side) (label : CallLabel) (d : Desk) → Calls 1 d (commands.work_again mic b side label d)
  work_one true side label d = again_one mic side 0 label d
  work_one false side label d = at_most 1

  copy_again_one : (side : Side) (j : ℕ) (d : Desk) → Calls 1 d (commands.copy_again mic side j d)
  copy_again_one side j d = again_one mic side j (copy_label side (copy_in j d)) d

  copy_twice : (j : ℕ) (d : Desk) → Calls 2 d (commands.copy_again mic Source j (commands.copy_again mic Dest j d))
  copy_twice j d = and_then (copy_again_one Dest j d) (copy_again_one Source j (commands.copy_again mic Dest j d))

  copies_twice : (js : List ℕ) (d : Desk) → Calls (2 * length js) d (copies_again mic js d)
  unfolding copies_again
  copies_twice [] d = at_most 0
  copies_twice (j ∷ js) d =
      each_then 2 j js (copy_twice j d) (copies_twice js (commands.copy_again mic Source j (commands.copy_again mic Dest j d)))

  setups_two : (source dest : Bool) (d : Desk) → Calls 2 d (commands.setups_again mic source dest d)
  setups_two source dest d = and_then (setup_one source Source d) (setup_one dest Dest (commands.setup_again mic source Source d))

  works_two : (source dest : Bool) (at_source at_dest : CallLabel) (d : Desk) → Calls 2 d (commands.works_again mic source dest at_source at_dest d)
  works_two source dest at_source at_dest d =
      and_then (work_one (not source) Source at_source d) (work_one (not dest) Dest at_dest (commands.work_again mic (not source) Source at_source d))

  pub all_again_few : (source dest : Bool) (at_source at_dest : CallLabel) (d : Desk) → Calls 34 d (commands.all_again mic source dest at_source at_dest d)
  all_again_few source dest at_source at_dest d =
      let set_up = commands.setups_again mic source dest d in
      and_then (and_then (setups_two source dest d) (works_two source dest at_source at_dest set_up))
      (copies_twice copying.all_copies (commands.works_again mic source dest at_source at_dest set_up))
