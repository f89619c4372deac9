-- What is held of copies whose names aren't known yet: only a CB_OFFLOAD brings more.
use Rattle.std.proofs.Common.{◌≡◌, ◌∙◌, ◌⊎◌, inl, inr, ℕ, zero, suc, ◌<◌, arith, Bool, true, false, List, [], ◌∷◌, Option, Some, None, Result, Ok, Err, refl, sym, ap, subst}
use Rattle.std.specs.Prelude.{◌==◌, cond, filter, nat_lt, not, slice_index_or}
use Rattle.std.specs.List.{AllByRecursion, Contains}
use Rattle.std.proofs.lemmas.List.Elements.{Contains-append_cases, Contains-append_left}
use Rattle.callbacks.specs.Callbacks.{Outcome, counted, evaluated, evaluated_by, if_ok, named_outcome, offload_by, op_outcome, is_session, sequence_by, tail_outcome, walked}
use Rattle.client_copies.specs.Held.{has_room, is_for, told_for}
use Rattle.client_copies.specs.Table.{Copies, accepted_at, copy_at, held_if, named_by, offloaded_to, released, said_of, told_at, told_held}
use Rattle.client_copies.specs.declared.copy.Query.{Query}
use Rattle.client_copies.specs.declared.event.Event.TheVariants as events
use Rattle.client_copies.specs.declared.held.HeldOffload.{HeldOffload}
use Rattle.client_copies.specs.declared.table.TheConstants.{MOST_COPIES}
use Rattle.client_copies.specs.declared.told.Said.{Said}
use Rattle.client_core.specs.Callbacks.{IsCompound, called_back, session_under}
use Rattle.client_core.specs.Calls.{created, inited_unless, is_misspelt}
use Rattle.client_core.specs.Commands.{IsBegunBy, asked_if, begun_with, with_work}
use Rattle.client_core.specs.Endings.{IsStep, Ways, acting_at, desk_at, ended_by}
use Rattle.client_core.specs.Records.{IsJudged, IsWhat, heard}
use Rattle.client_core.specs.State.{ClientState, second_at}
use Rattle.client_site.specs.declared.taking.Found.{Found}
use Rattle.client_steps.specs.Acting.{Acting, GoesOn, on_desk, with_desk}
use Rattle.client_steps.specs.Replies.{answered, deed_of, done, started, taken, under_seal}
use Rattle.client_steps.specs.declared.deeds.Deed.{Deed}
use Rattle.client_steps.specs.declared.deeds.Deed.TheVariants as deeds
use Rattle.client_steps.specs.declared.desk.Desk.{Desk}
use Rattle.copy_ops.specs.declared.callback.CbOffload.{CbOffload}
use Rattle.copy_ops.specs.declared.callback.OffloadEnd.{OffloadEnd}
use Rattle.copy_privs.specs.Told.{privilege_told}
use Rattle.gss_ctx.specs.Seals.{Mic}
use Rattle.gss_ctx.specs.Table.{ContextTable}
use Rattle.file_ops.specs.declared.callbacks.CbSeq.{CbSeq}
use Rattle.nfs_base.specs.declared.copy_spec.CopySpec.{CopySpec}
use Rattle.nfs_base.specs.declared.limits.TheConstants.{MOST_OPERATIONS}
use Rattle.nfs_base.specs.declared.side.Side.{Side}
use Rattle.nfs_base.specs.declared.side.Side.TheVariants.{Source, Dest}
use Rattle.nfs_base.specs.declared.state_id.StateId.{StateId}
use Rattle.nfs_compound.specs.Compounds.{cb_compound_of}
use Rattle.nfs_compound.specs.declared.cb_compound.CbCompound.{CbCompound}
use Rattle.nfs_compound.specs.declared.cb_op.CbOp.{CbOp}
use Rattle.nfs_compound.specs.declared.cb_op.CbOp.TheVariants as ops
use Rattle.nfs_compound.specs.declared.compound.TheConstants.{MINOR_VERSION}
use Rattle.nfs_compound.specs.declared.tail.Tail.{Tail}
use Rattle.nfs_compound.specs.declared.tail.Tail.TheVariants as tails
use Rattle.outbox.specs.declared.outgoing.Outbox.{Outbox}
use Rattle.rpc_calls.specs.Answers.{accepted_seal}
use Rattle.rpc_calls.specs.Judging.{judged_of}
use Rattle.rpc_calls.specs.declared.call.Call.{Call}
use Rattle.rpc_calls.specs.declared.call.Judged.{Judged}
use Rattle.rpc_calls.specs.declared.call.Judged.TheVariants as judged
use Rattle.rpc_calls.specs.declared.call.TheConstants.Program as programs
use Rattle.rpc_calls.specs.declared.call.What.{What}
use Rattle.rpc_calls.specs.declared.call.What.TheVariants as whats
use Rattle.rpc_calls.specs.declared.contexts.InitAnswer.{InitAnswer}
use Rattle.streams.specs.declared.draws.Drawn.{Drawn}
use Rattle.streams.specs.declared.draws.Drawn.TheVariants.{Got, Failed}
use Rattle.write_queue.specs.declared.work.Work.{Work}
use Rattle.client_laws.proofs.CalledMoves.{AllBehind, all_copies, called_so, contains_behind, contains_first}
use Rattle.client_laws.proofs.Changed.{said_copies}
use Rattle.client_laws.proofs.HeardMoves.{IsAtPlace, taken_place}
use Rattle.client_laws.proofs.OwnMoves.{own_asked, own_goes_down, own_goes_on, own_idle, own_opens, own_queue, own_retried, own_setup, own_ticked}
use Rattle.client_laws.specs.Causes.{WasCalledBack}
use Rattle.client_laws.specs.Turns.{IsTurn, MayTurn, Turn, Asks, Begins, Hears, Retries, Ticks, Works}

-- what is held then was held before, or this brought it
pub record Holds (brought : HeldOffload → Type 0) (before behind : List HeldOffload) : Type 0 where
  pub each : (one : HeldOffload) → Contains behind one → Contains before one ⊎ brought one

holds_same : {brought : HeldOffload → Type 0} {before behind : List HeldOffload} → behind ≡ before → Holds brought before behind
holds_same same = record { each = λ one there. inl (subst (λ (held : List HeldOffload). Contains held one) same there) }

holds_then : {brought : HeldOffload → Type 0} {a b c : List HeldOffload} → Holds brought a b → Holds brought b c → Holds brought a c
holds_then first second = record {
  each = λ one there.
      elim (second.each one there) [
        | inl before ↦ first.each one before
        | inr now ↦ inr now
      ];
}

-- ---- a reply

kept_by : {X : Type 0} (b : Bool) (y x : X) (zs ys : List X) → (Contains zs x → Contains ys x) → Contains (cond b (y ∷ zs) zs) x → Contains (y ∷ ys) x
kept_by true y x zs ys within there =
    elim (Contains-append_cases (y ∷ []) zs x there) [
      | inl here ↦ Contains-append_left (y ∷ []) ys x here
      | inr more ↦ contains_behind y x ys (within more)
    ]
kept_by false y x zs ys within there = contains_behind y x ys (within there)

filtered : {X : Type 0} (test : X → Bool) (xs : List X) (x : X) → Contains (filter test xs) x → Contains xs x
filtered test [] x there = there
filtered test (y ∷ ys) x there = kept_by (test y) y x (filter test ys) ys (filtered test ys x) there

held_told : (i : ℕ) (o : Option OffloadEnd) (said : Said) (t : Copies) → (told_held i o said t).1.held ≡ t.held
held_told i None said t = refl
held_told i (Some end) said t = refl

held_started : {brought : HeldOffload → Type 0} (i : ℕ) (id : StateId) (sent_at : ℕ) (d : Desk) → Holds brought d.copies.held (started i id sent_at d).copies.held
held_started {brought = brought} i id sent_at d =
    let t = (told_at i (events.Accepted id sent_at) d.copies).1 in
    let o = accepted_at i id sent_at d.copies in
    let next : Desk = record d { copies = o.1 } in
    holds_then {brought = brought} {a = d.copies.held} {b = (released id t).held} {c = (started i id sent_at d).copies.held}
    (record { each = λ one there. inl (filtered (λ (h : HeldOffload). not (is_for id h)) d.copies.held one there) })
    (holds_same {brought = brought}
    (ap (λ (u : Copies). u.held) (said_copies i o.0 next)
    ∙ held_told i (told_for id t.held) (said_of (events.Accepted id sent_at) (copy_at i d.copies)) (released id t)))

held_done : {brought : HeldOffload → Type 0} (deed : Deed) (mic : Mic) (me : List ℕ) (free : Option ℕ) (side : Side) (place sent_at : ℕ) (a : Acting) → place < 256
    → Holds brought a.desk.copies.held (done deed mic me free side place sent_at a).desk.copies.held
held_done deeds.Rests mic me free side place sent_at a small = holds_same refl
held_done deeds.Goes mic me free side place sent_at a small = holds_same (own_setup mic me free side a.desk).held
held_done (deeds.Falls status) mic me free side place sent_at a small = holds_same (own_goes_down side status a).held
held_done (deeds.Opens opened_file) mic me free side place sent_at a small = holds_same (own_opens side place opened_file a small).held
held_done (deeds.Queue event) mic me free side place sent_at a small = holds_same (own_queue side event a).held
held_done (deeds.Copy event) mic me free side place sent_at a small =
    let d = a.desk in
    let next : Desk = record d { copies = (told_at place event d.copies).1 } in
    holds_same (ap (λ (u : Copies). u.held) (said_copies place (said_of event (copy_at place d.copies)) next))
held_done (deeds.Starts id) mic me free side place sent_at a small = held_started place id sent_at a.desk

-- the record is taken: of copies nothing changes
held_site : {brought : HeldOffload → Type 0} (ways : Ways) (side : Side) (message : List ℕ) (d : Desk)
    → Holds brought d.copies.held (taken ways.means message side d).1.copies.held
held_site ways Source message d = holds_same refl
held_site ways Dest message d = holds_same refl

held_answered : {brought : HeldOffload → Type 0} (setting_up : Bool) (mic : Mic) (me : List ℕ) (free : Option ℕ) (side : Side) (o : Option Found) (a : Acting) → IsAtPlace o
    → Holds brought a.desk.copies.held (answered setting_up mic me free side o a).desk.copies.held
held_answered setting_up mic me free side None a small = holds_same refl
held_answered setting_up mic me free side (Some found) a small =
    let b = on_desk (under_seal found.accepted) a in
    held_done (deed_of setting_up found.told side found.place found.sent_at b) mic me free side found.place found.sent_at b small

held_heard : {M : Type 0} {brought : HeldOffload → Type 0} (ways : Ways) (side : Side) (message : List ℕ) (now : ℕ) (c : ClientState M)
    → Holds brought c.copies.held (heard ways side message now c).desk.copies.held
held_heard {brought = brought} ways side message now c =
    let d = desk_at now c in
    let e = (taken ways.means message side d).1 in
    holds_then {brought = brought} {a = c.copies.held} {b = e.copies.held} {c = (heard ways side message now c).desk.copies.held}
    (held_site ways side message d)
    (held_answered _ ways.means.mic c.setting.me _ side (taken ways.means message side d).0 (with_desk e (acting_at now c)) (taken_place ways.means message side d))

-- ---- a CB_COMPOUND: each CB_OFFLOAD of no copy's name is held, where there is room

abbrev Brings : (HeldOffload → Type 0) → CbOp → Type 0
Brings brought (ops.Sequence args) = Unit {0}
Brings brought (ops.Offload args) = brought (record { id = args.id; end = args.end })

only_one : {X : Type 0} (y x : X) → Contains (y ∷ []) x → y ≡ x
only_one y x there = by there.0 there.1 there.2
  where
    by : (k : ℕ) → k < 1 → slice_index_or (y ∷ []) k x ≡ x → y ≡ x
    by zero lt is = is
    by (suc k) lt is = let none : ⊥ = omega arith in absurd none

held_new : {brought : HeldOffload → Type 0} (b : Bool) (one : HeldOffload) (t : Copies) → brought one → Holds brought t.held (held_if b one t).1.held
held_new {brought = brought} true one t why = record {
  each = λ other there.
      elim (Contains-append_cases t.held (one ∷ []) other there) [
        | inl before ↦ inl before
        | inr now ↦ inr (subst brought (only_one one other now) why)
      ];
}
held_new false one t why = holds_same refl

held_offload : {brought : HeldOffload → Type 0} (id : StateId) (end : OffloadEnd) (o : Option ℕ) (t : Copies) → brought (record { id = id; end = end })
    → Holds brought t.held (named_outcome (offloaded_to o id end t)).copies.held
held_offload id end None t why = held_new (has_room t.held) (record { id = id; end = end }) t why
held_offload id end (Some i) t why = holds_same refl

held_sequence : {brought : HeldOffload → Type 0} (first own : Bool) (args : CbSeq) (t : Copies) → Holds brought t.held (sequence_by first own args t).copies.held
held_sequence false own args t = holds_same refl
held_sequence true false args t = holds_same refl
held_sequence true true args t = holds_same refl

held_by : {brought : HeldOffload → Type 0} (first : Bool) (args : CbOffload) (t : Copies) → brought (record { id = args.id; end = args.end })
    → Holds brought t.held (offload_by first args t).copies.held
held_by true args t why = holds_same refl
held_by false args t why = held_offload args.id args.end (named_by args.id t) t why

held_op : {brought : HeldOffload → Type 0} (session : Option (List ℕ)) (first : Bool) (op : CbOp) (t : Copies) → Brings brought op
    → Holds brought t.held (op_outcome session first op t).copies.held
held_op session first (ops.Sequence args) t why = held_sequence first (is_session args.session session) args t
held_op session first (ops.Offload args) t why = held_by first args t why

held_tail : {brought : HeldOffload → Type 0} (tail : Tail) (t : Copies) → Holds brought t.held (tail_outcome tail t).copies.held
held_tail tails.Whole t = holds_same refl
held_tail (tails.Unreadable place op at) t = holds_same refl
held_tail (tails.Unsupported place op) t = holds_same refl
held_tail (tails.Illegal place op) t = holds_same refl

held_ok : {brought : HeldOffload → Type 0} (ok : Bool) (o more : Outcome) (t : Copies) → Holds brought t.held o.copies.held → Holds brought o.copies.held more.copies.held
    → Holds brought t.held (if_ok ok o more).copies.held
held_ok {brought = brought} true o more t first second = holds_then {brought = brought} {a = t.held} {b = o.copies.held} {c = more.copies.held} first second
held_ok false o more t first second = first

held_walked : {brought : HeldOffload → Type 0} (session : Option (List ℕ)) (first : Bool) (list : List CbOp) (tail : Tail) (t : Copies) → AllByRecursion (Brings brought) list
    → Holds brought t.held (walked session first list tail t).copies.held
held_walked session first [] tail t why = held_tail tail t
held_walked {brought = brought} session first (op ∷ more) tail t why =
    let o = op_outcome session first op t in
    held_ok {brought = brought} (o.status.number == 0) o (walked session false more tail o.copies) t (held_op session first op t why.0)
    (held_walked {brought = brought} session false more tail o.copies why.1)

-- nothing is held but behind a CB_SEQUENCE of the session
held_sequenced : {brought : HeldOffload → Type 0} (session : Option (List ℕ)) (own : Bool) (args : CbSeq) (more : List CbOp) (tail : Tail) (t : Copies)
    → (own ≡ true → AllByRecursion (Brings brought) more)
    → Holds brought t.held
    (if_ok ((sequence_by true own args t).status.number == 0) (sequence_by true own args t) (walked session false more tail (sequence_by true own args t).copies)).copies.held
held_sequenced {brought = brought} session true args more tail t why =
    let o = sequence_by true true args t in
    held_ok {brought = brought} (o.status.number == 0) o (walked session false more tail o.copies) t (held_sequence true true args t)
    (held_walked {brought = brought} session false more tail t (why refl))
held_sequenced session false args more tail t why = holds_same refl

held_first : {brought : HeldOffload → Type 0} (session : Option (List ℕ)) (list : List CbOp) (tail : Tail) (t : Copies) → AllBehind session list (Brings brought)
    → Holds brought t.held (walked session true list tail t).copies.held
held_first session [] tail t why = held_tail tail t
held_first {brought = brought} session (ops.Sequence args ∷ more) tail t why =
    held_sequenced {brought = brought} session (is_session args.session session) args more tail t (λ own. why args more own refl)
held_first session (ops.Offload args ∷ more) tail t why = holds_same refl

held_counted : {brought : HeldOffload → Type 0} (many : Bool) (session : Option (List ℕ)) (c : CbCompound) (t : Copies) → AllBehind session c.ops (Brings brought)
    → Holds brought t.held (counted many session c t).copies.held
held_counted true session c t why = holds_same refl
held_counted {brought = brought} false session c t why = held_first {brought = brought} session c.ops c.tail t why

held_evaluated : {brought : HeldOffload → Type 0} (ok : Bool) (session : Option (List ℕ)) (c : CbCompound) (t : Copies) → AllBehind session c.ops (Brings brought)
    → Holds brought t.held (evaluated_by ok session c t).copies.held
held_evaluated {brought = brought} true session c t why = held_counted {brought = brought} (nat_lt MOST_OPERATIONS c.count) session c t why
held_evaluated false session c t why = holds_same refl

all_bring : (brought : HeldOffload → Type 0) (list : List CbOp) → ((args : CbOffload) → Contains list (ops.Offload args) → brought (record { id = args.id; end = args.end }))
    → AllByRecursion (Brings brought) list
all_bring brought [] why = tt
all_bring brought (ops.Sequence args ∷ more) why = (tt, all_bring brought more (λ other there. why other (contains_behind _ _ more there)))
all_bring brought (ops.Offload args ∷ more) why = (why args (contains_first _ more), all_bring brought more (λ other there. why other (contains_behind _ _ more there)))

held_called : {M : Type 0} {brought : HeldOffload → Type 0} (mic : Mic) (side : Side) (call : Call) (compound : CbCompound) (c : ClientState M) (d : Desk)
    → AllBehind (session_under call.under c) compound.ops (Brings brought) → Holds brought d.copies.held (called_back mic side call compound c d).copies.held
held_called {brought = brought} mic side call compound c d why =
    let session = session_under call.under c in
    let o = evaluated session compound d.copies in
    let next : Desk = record (under_seal (accepted_seal c.back call) d) { copies = o.copies } in
    holds_then {brought = brought} {a = d.copies.held} {b = o.copies.held} {c = (called_back mic side call compound c d).copies.held}
    (held_evaluated {brought = brought} (compound.minor == MINOR_VERSION) session compound d.copies why)
    (holds_same {brought = brought} (ap (λ (u : Copies). u.held) (all_copies o.told next)))

-- ---- how a step ends

module _ {M : Type 0} (ways : Ways) (turn : Turn) (c : ClientState M) where
  abbrev Brought : HeldOffload → Type 0
  Brought one = WasCalledBack ways turn c one

  abbrev Ends : ClientState M × Outbox → Type 0
  Ends end = Holds Brought c.copies.held end.0.copies.held

  same_held : (end : ClientState M × Outbox) → end.0.copies ≡ c.copies → Ends end
  same_held end same = holds_same (ap (λ (t : Copies). t.held) same)

  step_to : {W : Type 0} (gives : W → Drawn → W → Type 0) (does : Acting) (back : Acting → ContextTable ℕ) (v w : W) (to : Option Acting)
      → Holds Brought c.copies.held does.desk.copies.held → GoesOn c.setting ways.means.mic ways.started gives does v w to → Ends (ended_by to back c)
  step_to gives does back v w None holds on = holds_same refl
  step_to gives does back v w (Some a) holds on =
      holds_then {brought = Brought} {a = c.copies.held} {b = does.desk.copies.held} {c = a.desk.copies.held} holds
      (holds_same {brought = Brought} (own_goes_on c.setting ways.means.mic ways.started gives does v w a on).held)

  steps : {W : Type 0} (gives : W → Drawn → W → Type 0) (does : Acting) (back : Acting → ContextTable ℕ) (v w : W) (end : ClientState M × Outbox)
      → Holds Brought c.copies.held does.desk.copies.held → IsStep ways gives does back c v w end → Ends end
  steps gives does back v w end holds step = subst Ends (sym step.is) (step_to gives does back v w step.to holds step.goes_on)

  begins : {W : Type 0} (gives : W → Drawn → W → Type 0) (j : ℕ) (spec : CopySpec) (now : ℕ) (drawn : Drawn) (v w : W) (end : ClientState M × Outbox)
      → IsBegunBy drawn ways gives j spec now c v w end → Ends end
  begins gives j spec now (Got secret) v w end step =
      steps gives (on_desk (begun_with j spec secret) (acting_at now c)) (λ a. c.back) v w end (holds_same {brought = Brought} refl) step
  begins gives j spec now Failed v w end step = subst Ends (sym step.0) (holds_same {brought = Brought} refl)

  asks : (b : Bool) (mic : Mic) (j : ℕ) (query : Query) (d : Desk) → j < 256 → (asked_if b mic j query d).copies.held ≡ d.copies.held
  asks true mic j query d small = (own_asked mic j query d small).held
  asks false mic j query d small = (own_idle j d).held

  queues : (side : Side) (work : Work) (now : ℕ) → (with_work side work (acting_at now c)).desk.copies.held ≡ c.copies.held
  queues side work now = refl

  compounds : {W : Type 0} (gives : W → Drawn → W → Type 0) (side : Side) (message : List ℕ) (now : ℕ) (call : Call) (args : List ℕ) (o : Result CbCompound ℕ) (v w : W)
      (end : ClientState M × Outbox) → turn ≡ Hears side message now
      → judged_of ways.means.mic (second_at now c) programs.CALLBACK message c.back ≡ judged.Call call → call.what ≡ whats.Compound args
      → cb_compound_of args ≡ o → IsCompound o ways gives now side call c v w end → Ends end
  compounds gives side message now call args (Err at) v w end is judged_is what read step = subst Ends (sym step.0) (holds_same {brought = Brought} refl)
  compounds gives side message now call args (Ok compound) v w end is judged_is what read step =
      let why : AllBehind (session_under call.under c) compound.ops (Brings Brought) = λ first more own are.
      all_bring Brought more
      (λ offload there. record {
        side = side;
        message = message;
        now = now;
        turn_is = is;
        by = called_so ways message now c call args compound judged_is what read first more own are offload there;
      }) in
      steps gives (on_desk (called_back ways.means.mic side call compound c) (acting_at now c)) _ v w end
      (held_called {brought = Brought} ways.means.mic side call compound c (desk_at now c) why) step

  creates : (misspelt : Bool) (mic : Mic) (second : ℕ) (side : Side) (call : Call) → Ends (created misspelt mic second side call c)
  creates true mic second side call = holds_same {brought = Brought} refl
  creates false mic second side call = holds_same {brought = Brought} refl

  inits : (failed : Bool) (second : ℕ) (side : Side) (told : InitAnswer) (back : ContextTable ℕ) → Ends (inited_unless failed second side told back c)
  inits true second side told back = holds_same {brought = Brought} refl
  inits false second side told back = holds_same {brought = Brought} refl

  whats_at : {W : Type 0} (gives : W → Drawn → W → Type 0) (side : Side) (message : List ℕ) (now : ℕ) (call : Call) (what : What) (v w : W) (end : ClientState M × Outbox)
      → turn ≡ Hears side message now → judged_of ways.means.mic (second_at now c) programs.CALLBACK message c.back ≡ judged.Call call → call.what ≡ what
      → IsWhat what ways gives now side call c v w end → Ends end
  whats_at gives side message now call (whats.Dropped why) v w end is judged_is e step = subst Ends (sym step.0) (holds_same {brought = Brought} refl)
  whats_at gives side message now call (whats.Denied why) v w end is judged_is e step = subst Ends (sym step.0) (holds_same {brought = Brought} refl)
  whats_at gives side message now call (whats.Failed failure) v w end is judged_is e step = subst Ends (sym step.0) (holds_same {brought = Brought} refl)
  whats_at gives side message now call whats.Null v w end is judged_is e step = subst Ends (sym step.0) (holds_same {brought = Brought} refl)
  whats_at gives side message now call (whats.Init token) v w end is judged_is e step =
      subst Ends (sym step.is) (inits step.told.draw_failed (second_at now c) side step.told step.back)
  whats_at gives side message now call (whats.Create name privilege) v w end is judged_is e step =
      subst Ends (sym step.0) (creates (is_misspelt (privilege_told name privilege)) ways.means.mic (second_at now c) side call)
  whats_at gives side message now call whats.Destroy v w end is judged_is e step = subst Ends (sym step.0) (holds_same {brought = Brought} refl)
  whats_at gives side message now call (whats.Compound args) v w end is judged_is e step =
      compounds gives side message now call args (cb_compound_of args) v w end is judged_is e refl step

  judges : {W : Type 0} (gives : W → Drawn → W → Type 0) (side : Side) (message : List ℕ) (now : ℕ) (o : Judged) (v w : W) (end : ClientState M × Outbox)
      → turn ≡ Hears side message now → judged_of ways.means.mic (second_at now c) programs.CALLBACK message c.back ≡ o
      → IsJudged o ways gives side message now c v w end → Ends end
  judges gives side message now judged.Unread v w end is judged_is step = subst Ends (sym step.0) (holds_same {brought = Brought} refl)
  judges gives side message now judged.Reply v w end is judged_is step =
      steps gives (heard ways side message now c) _ v w end (held_heard {brought = Brought} ways side message now c) step
  judges gives side message now (judged.Call call) v w end is judged_is step =
      whats_at gives side message now call call.what v w end is judged_is refl step

pub held_in_turn : {M W : Type 0} (ways : Ways) (gives : W → Drawn → W → Type 0) (turn : Turn) (c d : ClientState M) (v w : W) (out : Outbox) → MayTurn turn c
    → IsTurn ways gives turn c v w (d, out) → Holds (WasCalledBack ways turn c) c.copies.held d.copies.held
held_in_turn ways gives (Begins j spec now) c d v w out may step = begins ways (Begins j spec now) c gives j spec now step.drawn step.middle w (d, out) step.is
held_in_turn ways gives (Asks query j now) c d v w out may step =
    let turn = Asks query j now in
    holds_same {brought = WasCalledBack ways turn c}
    (ap (λ (end : ClientState _ × Outbox). end.0.copies.held) step.0 ∙ asks ways turn c (nat_lt j MOST_COPIES) ways.means.mic j query (desk_at now c) may)
held_in_turn ways gives (Works side work now) c d v w out may step =
    let turn = Works side work now in
    steps ways turn c gives (with_work side work (acting_at now c)) _ v w (d, out) (holds_same {brought = WasCalledBack ways turn c} (queues ways turn c side work now)) step
held_in_turn ways gives (Ticks now) c d v w out may step =
    holds_same {brought = WasCalledBack ways (Ticks now) c}
    (ap (λ (end : ClientState _ × Outbox). end.0.copies.held) step.0 ∙ (own_ticked ways.means.mic (desk_at now c)).held)
held_in_turn ways gives (Retries now) c d v w out may step =
    holds_same {brought = WasCalledBack ways (Retries now) c}
    (ap (λ (end : ClientState _ × Outbox). end.0.copies.held) step.0 ∙ (own_retried ways.means.mic (acting_at now c)).held)
held_in_turn ways gives (Hears side message now) c d v w out may step =
    judges ways (Hears side message now) c gives side message now _ v w (d, out) refl refl step
