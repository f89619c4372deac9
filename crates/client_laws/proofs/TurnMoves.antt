-- What each turn of a client does to its copies.
use Rattle.std.proofs.Common.{◌≡◌, ◌∙◌, ℕ, ◌<◌, ◌≤◌, Bool, true, false, List, [], ◌∷◌, ◌++◌, length, Option, Some, None, Result, Ok, Err, refl, sym, ap, subst, inl, inr}
use Rattle.std.specs.Prelude.{nat_lt}
use Rattle.std.proofs.lemmas.List.{length-set}
use Rattle.callbacks.specs.Callbacks.{Outcome, evaluated, is_session}
use Rattle.client_copies.specs.Table.{Copies, copy_at, names, with_begun}
use Rattle.client_copies.specs.declared.copy.Query.{Query}
use Rattle.client_copies.specs.declared.event.Event.{Event}
use Rattle.client_copies.specs.declared.event.Event.TheVariants as events
use Rattle.client_copies.specs.declared.table.TheConstants.{MOST_COPIES}
use Rattle.client_core.specs.Callbacks.{IsCompound, all_said, called_back, session_under, told_of}
use Rattle.client_core.specs.Calls.{call_dropped, created, denied, destroyed, dropping, failed, inited_unless, is_misspelt, nulled}
use Rattle.client_core.specs.Commands.{IsBegunBy, asked_if, begun_with, with_work}
use Rattle.client_core.specs.Endings.{IsStep, Ways, acting_at, desk_at, ended_by, given, settled, undrawn}
use Rattle.client_core.specs.Records.{IsJudged, IsWhat, heard}
use Rattle.client_core.specs.State.{ClientState, second_at}
use Rattle.client_steps.specs.Acting.{Acting, GoesOn, on_desk}
use Rattle.client_steps.specs.Commands.{retried, ticked}
use Rattle.client_steps.specs.CopySteps as numbers
use Rattle.client_steps.specs.Replies.{under_seal}
use Rattle.client_steps.specs.declared.desk.Desk.{Desk}
use Rattle.copy_ops.specs.declared.callback.CbOffload.{CbOffload}
use Rattle.copy_privs.specs.Told.{privilege_told}
use Rattle.file_ops.specs.declared.callbacks.CbSeq.{CbSeq}
use Rattle.gss_ctx.specs.Seals.{Mic}
use Rattle.gss_ctx.specs.Table.{ContextTable}
use Rattle.nfs_base.specs.declared.copy_spec.CopySpec.{CopySpec}
use Rattle.nfs_base.specs.declared.side.Side.{Side}
use Rattle.nfs_base.specs.declared.side.Side.TheVariants.{Source, Dest}
use Rattle.nfs_compound.specs.Compounds.{cb_compound_of}
use Rattle.nfs_compound.specs.declared.cb_compound.CbCompound.{CbCompound}
use Rattle.nfs_compound.specs.declared.cb_op.CbOp.{CbOp}
use Rattle.nfs_compound.specs.declared.cb_op.CbOp.TheVariants as ops
use Rattle.outbox.specs.declared.note.Dropped.TheVariants.{Unread}
use Rattle.outbox.specs.declared.note.Note.{Note}
use Rattle.outbox.specs.declared.outgoing.Outbox.{Outbox}
use Rattle.rpc_calls.specs.Answers.{accepted_seal}
use Rattle.rpc_calls.specs.Judging.{judged_of}
use Rattle.rpc_calls.specs.declared.call.Call.{Call}
use Rattle.rpc_calls.specs.declared.call.Judged.{Judged}
use Rattle.rpc_calls.specs.declared.call.Judged.TheVariants as judged
use Rattle.rpc_calls.specs.declared.call.TheConstants.Program as programs
use Rattle.rpc_calls.specs.declared.call.What.{What}
use Rattle.rpc_calls.specs.declared.call.What.TheVariants as whats
use Rattle.rpc_calls.specs.declared.contexts.InitAnswer.{InitAnswer}
use Rattle.rpc_msg.specs.declared.reply.Stat.TheVariants.{Garbage}
use Rattle.std.specs.List.{Contains}
use Rattle.streams.specs.declared.draws.Drawn.{Drawn}
use Rattle.streams.specs.declared.draws.Drawn.TheVariants.{Got, Failed}
use Rattle.write_queue.specs.declared.work.Work.{Work}
use Rattle.client_laws.proofs.CalledMoves.{Outcomes, all_copies, all_notes, called_so, each_reports, evaluated_outcomes, told_notes, told_words, words_told}
use Rattle.client_laws.proofs.Changed.{IsStill, changes_none, moves_still, moves_wider}
use Rattle.client_laws.proofs.HeardMoves.{Goes, goes_of, goes_then, heard_goes}
use Rattle.client_laws.proofs.OwnMoves.{OwnMoves, own_asked, own_goes_on, own_idle, own_retried, own_ticked}
use Rattle.client_laws.specs.Causes.{Cause, ByItself, ByCallback}
use Rattle.client_laws.specs.Changes.{Changes, is_own}
use Rattle.client_laws.specs.Telling.{words_of}
use Rattle.client_laws.specs.TurnLaws.{IsStart, TurnChanges}
use Rattle.client_laws.specs.Turns.{IsTurn, MayTurn, Turn, Asks, Begins, Hears, Retries, Ticks, Works}

-- ---- how a step ends

-- a table of copies at the beginning, and what the step came to
abbrev pub EndChanges : {M : Type 0} → (ℕ → Event → Type 0) → Copies → ClientState M × Outbox → Type 0
EndChanges cause start end =
    (length end.0.copies.copies ≡ length start.copies) × ((j : ℕ) → Changes (cause j) (copy_at j start) (copy_at j end.0.copies) (words_of j end.1.notes))

-- nothing happens to copies, and nothing is told of them
pub nothing_changes : {M : Type 0} (cause : ℕ → Event → Type 0) (c : ClientState M) (end : ClientState M × Outbox) → end.0.copies ≡ c.copies
    → ((j : ℕ) → words_of j end.1.notes ≡ []) → EndChanges cause c.copies end
nothing_changes cause c end same silent = (
  ap (λ (t : Copies). length t.copies) same,
  λ j.
      subst (Changes (cause j) (copy_at j c.copies) (copy_at j end.0.copies)) (sym (silent j))
      (subst (λ (t : Copies). Changes (cause j) (copy_at j c.copies) (copy_at j t) []) (sym same) (changes_none (cause j) (copy_at j c.copies))),
)

-- what was done over a desk with no notes yet is what the step comes to
desk_changes : {M : Type 0} (cause : ℕ → Event → Type 0) (d : Desk) (a : Acting) (back : ContextTable ℕ) (c : ClientState M) → d.out.notes ≡ []
    → Goes cause d a.desk → EndChanges cause d.copies (settled a back c, given a)
desk_changes cause d a back c empty goes =
    let notes : a.desk.out.notes ≡ goes.told = goes.notes ∙ ap (λ (ns : List Note). ns ++ goes.told) empty in (
      goes.many,
      λ j. subst (λ (ns : List Note). Changes (cause j) (copy_at j d.copies) (copy_at j a.desk.copies) (words_of j ns)) (sym notes) (goes.each j),
    )

-- a draw failed: nothing changes
pub undrawn_changes : {M : Type 0} (cause : ℕ → Event → Type 0) (c : ClientState M) → EndChanges cause c.copies (undrawn c)
undrawn_changes cause c = nothing_changes cause c (undrawn c) refl (λ j. refl)

step_to : {M W : Type 0} (cause : ℕ → Event → Type 0) (ways : Ways) (gives : W → Drawn → W → Type 0) (d : Desk) (does : Acting) (back : Acting → ContextTable ℕ)
    (c : ClientState M) (v w : W) (to : Option Acting) → d.out.notes ≡ [] → d.copies ≡ c.copies
    → ((j : ℕ) (event : Event) → is_own event ≡ true → cause j event) → Goes cause d does.desk
    → GoesOn c.setting ways.means.mic ways.started gives does v w to → EndChanges cause c.copies (ended_by to back c)
step_to cause ways gives d does back c v w None empty same own goes on = undrawn_changes cause c
step_to cause ways gives d does back c v w (Some a) empty same own goes on =
    subst (λ (t : Copies). EndChanges cause t (settled a (back a) c, given a)) same
    (desk_changes cause d a (back a) c empty (goes_then goes (goes_of (moves_wider own (own_goes_on c.setting ways.means.mic ways.started gives does v w a on)))))

pub step_changes : {M W : Type 0} (cause : ℕ → Event → Type 0) (ways : Ways) (gives : W → Drawn → W → Type 0) (d : Desk) (does : Acting) (back : Acting → ContextTable ℕ)
    (c : ClientState M) (v w : W) (end : ClientState M × Outbox) → d.out.notes ≡ [] → d.copies ≡ c.copies
    → ((j : ℕ) (event : Event) → is_own event ≡ true → cause j event) → Goes cause d does.desk
    → IsStep ways gives does back c v w end → EndChanges cause c.copies end
step_changes cause ways gives d does back c v w end empty same own goes step =
    subst (EndChanges cause c.copies) (sym step.is) (step_to cause ways gives d does back c v w step.to empty same own goes step.goes_on)

-- ---- commands

pub itself : {M : Type 0} (ways : Ways) (turn : Turn) (c : ClientState M) (j : ℕ) (event : Event) → is_own event ≡ true → Cause ways turn c j event
itself ways turn c j event own = ByItself event own

asked_moves : (b : Bool) (mic : Mic) (j : ℕ) (query : Query) (d : Desk) → j < 256 → OwnMoves d (asked_if b mic j query d)
asked_moves true mic j query d small = own_asked mic j query d small
asked_moves false mic j query d small = own_idle j d

pub own_end : {M : Type 0} (ways : Ways) (turn : Turn) (c : ClientState M) (now : ℕ) (a : Acting) → OwnMoves (desk_at now c) a.desk
    → EndChanges (Cause ways turn c) c.copies (settled a c.back c, given a)
own_end ways turn c now a moves = desk_changes (Cause ways turn c) (desk_at now c) a c.back c refl (goes_of (moves_wider (itself ways turn c) moves))

-- a work is queued
pub work_still : {M : Type 0} (side : Side) (work : Work) (now : ℕ) (c : ClientState M) → IsStill (desk_at now c) (with_work side work (acting_at now c)).desk
work_still Source work now c = record { copies = refl; notes = refl }
work_still Dest work now c = record { copies = refl; notes = refl }

-- ---- a copy is begun

begun_to : {M W : Type 0} (ways : Ways) (gives : W → Drawn → W → Type 0) (j : ℕ) (spec : CopySpec) (secret : List ℕ) (now : ℕ) (c : ClientState M) (v w : W) (to : Option Acting)
    → GoesOn c.setting ways.means.mic ways.started gives (on_desk (begun_with j spec secret) (acting_at now c)) v w to
    → TurnChanges ways (Begins j spec now) c (ended_by to (λ a. c.back) c).0 (ended_by to (λ a. c.back) c).1
begun_to ways gives j spec secret now c v w None on =
    let changes = undrawn_changes (Cause ways (Begins j spec now) c) c in
    record { start = c.copies; begins = inl refl; many = changes.0; each = changes.1 }
begun_to ways gives j spec secret now c v w (Some a) on =
    let cause = Cause ways (Begins j spec now) c in
    let begun = begun_with j spec secret (desk_at now c) in
    let does = on_desk (begun_with j spec secret) (acting_at now c) in
    let goes : Goes cause begun a.desk =
    goes_of (moves_wider (itself ways (Begins j spec now) c) (own_goes_on c.setting ways.means.mic ways.started gives does v w a on)) in
    let changes = desk_changes cause begun a c.back c refl goes in
    record {
      start = with_begun j spec secret c.copies;
      begins = inr (secret, refl);
      many = changes.0 ∙ length-set c.copies.copies j _;
      each = changes.1;
    }

pub begun_changes : {M W : Type 0} (ways : Ways) (gives : W → Drawn → W → Type 0) (j : ℕ) (spec : CopySpec) (now : ℕ) (c : ClientState M) (drawn : Drawn) (v w : W)
    (end : ClientState M × Outbox) → IsBegunBy drawn ways gives j spec now c v w end → TurnChanges ways (Begins j spec now) c end.0 end.1
begun_changes ways gives j spec now c (Got secret) v w end step =
    subst (λ (e : ClientState _ × Outbox). TurnChanges ways (Begins j spec now) c e.0 e.1) (sym step.is)
    (begun_to ways gives j spec secret now c v w step.to step.goes_on)
begun_changes ways gives j spec now c Failed v w end step =
    let changes = subst (EndChanges (Cause ways (Begins j spec now) c) c.copies) (sym step.0) (undrawn_changes (Cause ways (Begins j spec now) c) c) in
    record { start = c.copies; begins = inl refl; many = changes.0; each = changes.1 }

-- ---- a CB_COMPOUND

posted_still : {M : Type 0} (mic : Mic) (side : Side) (call : Call) (compound : CbCompound) (o : Outcome) (c : ClientState M) (d : Desk)
    → IsStill (all_said o.told (record d { copies = o.copies })) (told_of mic side call compound o c d)
posted_still mic side call compound o c d = record { copies = refl; notes = refl }

told_goes : {M : Type 0} (cause : ℕ → Event → Type 0) (mic : Mic) (side : Side) (call : Call) (compound : CbCompound) (o : Outcome) (c : ClientState M) (d : Desk)
    → Outcomes cause d.copies d.copies o → Goes cause d (told_of mic side call compound o c d)
told_goes cause mic side call compound o c d done =
    let next : Desk = record d { copies = o.copies } in
    let same = all_copies o.told next in
    goes_then
    (record {
      many = ap (λ (t : Copies). length t.copies) same ∙ done.many;
      told = told_notes o.told;
      notes = all_notes o.told next;
      each = λ j.
          subst (Changes (cause j) (copy_at j d.copies) (copy_at j (all_said o.told next).copies)) (sym (words_told j o.told done.bytes))
          (subst (λ (t : Copies). Changes (cause j) (copy_at j d.copies) (copy_at j t) (told_words j o.told)) (sym same) (done.each j));
    })
    (goes_of (moves_still (posted_still mic side call compound o c d)))

-- the operations of the record are why
reports : {M : Type 0} (ways : Ways) (side : Side) (message : List ℕ) (now : ℕ) (c : ClientState M) (call : Call) (args : List ℕ) (compound : CbCompound)
    → judged_of ways.means.mic (second_at now c) programs.CALLBACK message c.back ≡ judged.Call call → call.what ≡ whats.Compound args
    → cb_compound_of args ≡ Ok compound → (first : CbSeq) (more : List CbOp) → is_session first.session (session_under call.under c) ≡ true
    → compound.ops ≡ ops.Sequence first ∷ more → (offload : CbOffload) → Contains more (ops.Offload offload) → (j : ℕ)
    → names offload.id (copy_at j c.copies) ≡ true → Cause ways (Hears side message now) c j (events.Offloaded offload.end)
reports ways side message now c call args compound is what read first more own are offload there j named =
    ByCallback side message now offload.id offload.end refl named (called_so ways message now c call args compound is what read first more own are offload there)

back_goes : {M : Type 0} (ways : Ways) (side : Side) (message : List ℕ) (now : ℕ) (c : ClientState M) (call : Call) (args : List ℕ) (compound : CbCompound)
    → length c.copies.copies ≤ 256
    → judged_of ways.means.mic (second_at now c) programs.CALLBACK message c.back ≡ judged.Call call → call.what ≡ whats.Compound args
    → cb_compound_of args ≡ Ok compound → Goes (Cause ways (Hears side message now) c) (desk_at now c) (called_back ways.means.mic side call compound c (desk_at now c))
back_goes ways side message now c call args compound few is what read =
    let cause = Cause ways (Hears side message now) c in
    let session = session_under call.under c in
    let sealed = under_seal (accepted_seal c.back call) (desk_at now c) in
    goes_then (goes_of (moves_still (record { copies = refl; notes = refl })))
    (told_goes cause ways.means.mic side call compound (evaluated session compound c.copies) c sealed
    (evaluated_outcomes cause c.copies session compound few
    (λ first more own are. each_reports cause c.copies more (reports ways side message now c call args compound is what read first more own are))))

compound_changes : {M W : Type 0} (ways : Ways) (gives : W → Drawn → W → Type 0) (side : Side) (message : List ℕ) (now : ℕ) (c : ClientState M) (call : Call)
    (args : List ℕ) (o : Result CbCompound ℕ) (v w : W) (end : ClientState M × Outbox) → length c.copies.copies ≤ 256
    → judged_of ways.means.mic (second_at now c) programs.CALLBACK message c.back ≡ judged.Call call → call.what ≡ whats.Compound args
    → cb_compound_of args ≡ o → IsCompound o ways gives now side call c v w end → EndChanges (Cause ways (Hears side message now) c) c.copies end
compound_changes ways gives side message now c call args (Err at) v w end few is what read step =
    subst (EndChanges (Cause ways (Hears side message now) c) c.copies) (sym step.0)
    (nothing_changes (Cause ways (Hears side message now) c) c (failed ways.means.mic (second_at now c) side call Garbage c) refl (λ j. refl))
compound_changes ways gives side message now c call args (Ok compound) v w end few is what read step =
    step_changes (Cause ways (Hears side message now) c) ways gives (desk_at now c) _ _ c v w end refl refl (itself ways (Hears side message now) c)
    (back_goes ways side message now c call args compound few is what read) step

-- ---- other calls: only contexts and the second change

pub created_changes : {M : Type 0} (cause : ℕ → Event → Type 0) (misspelt : Bool) (mic : Mic) (second : ℕ) (side : Side) (call : Call) (c : ClientState M)
    → EndChanges cause c.copies (created misspelt mic second side call c)
created_changes cause true mic second side call c = nothing_changes cause c (created true mic second side call c) refl (λ j. refl)
created_changes cause false mic second side call c = nothing_changes cause c (created false mic second side call c) refl (λ j. refl)

pub inited_changes : {M : Type 0} (cause : ℕ → Event → Type 0) (failed : Bool) (second : ℕ) (side : Side) (told : InitAnswer) (back : ContextTable ℕ) (c : ClientState M)
    → EndChanges cause c.copies (inited_unless failed second side told back c)
inited_changes cause true second side told back c = undrawn_changes cause c
inited_changes cause false second side told back c = nothing_changes cause c (inited_unless false second side told back c) refl (λ j. refl)

what_changes : {M W : Type 0} (ways : Ways) (gives : W → Drawn → W → Type 0) (side : Side) (message : List ℕ) (now : ℕ) (c : ClientState M) (call : Call) (what : What) (v w : W)
    (end : ClientState M × Outbox) → length c.copies.copies ≤ 256 → judged_of ways.means.mic (second_at now c) programs.CALLBACK message c.back ≡ judged.Call call
    → call.what ≡ what → IsWhat what ways gives now side call c v w end → EndChanges (Cause ways (Hears side message now) c) c.copies end
what_changes ways gives side message now c call (whats.Dropped why) v w end few is e step =
    subst (EndChanges (Cause ways (Hears side message now) c) c.copies) (sym step.0) (nothing_changes (Cause ways (Hears side message now) c) c (call_dropped (second_at now c) call why c) refl (λ j. refl))
what_changes ways gives side message now c call (whats.Denied why) v w end few is e step =
    subst (EndChanges (Cause ways (Hears side message now) c) c.copies) (sym step.0) (nothing_changes (Cause ways (Hears side message now) c) c (denied (second_at now c) side call why c) refl (λ j. refl))
what_changes ways gives side message now c call (whats.Failed failure) v w end few is e step =
    subst (EndChanges (Cause ways (Hears side message now) c) c.copies) (sym step.0) (nothing_changes (Cause ways (Hears side message now) c) c (failed ways.means.mic (second_at now c) side call failure c) refl (λ j. refl))
what_changes ways gives side message now c call whats.Null v w end few is e step =
    subst (EndChanges (Cause ways (Hears side message now) c) c.copies) (sym step.0) (nothing_changes (Cause ways (Hears side message now) c) c (nulled ways.means.mic (second_at now c) side call c) refl (λ j. refl))
what_changes ways gives side message now c call (whats.Init token) v w end few is e step =
    subst (EndChanges (Cause ways (Hears side message now) c) c.copies) (sym step.is) (inited_changes (Cause ways (Hears side message now) c) step.told.draw_failed (second_at now c) side step.told step.back c)
what_changes ways gives side message now c call (whats.Create name privilege) v w end few is e step =
    subst (EndChanges (Cause ways (Hears side message now) c) c.copies) (sym step.0) (created_changes (Cause ways (Hears side message now) c) (is_misspelt (privilege_told name privilege)) ways.means.mic (second_at now c) side call c)
what_changes ways gives side message now c call whats.Destroy v w end few is e step =
    subst (EndChanges (Cause ways (Hears side message now) c) c.copies) (sym step.0) (nothing_changes (Cause ways (Hears side message now) c) c (destroyed ways.means.mic (second_at now c) side call c) refl (λ j. refl))
what_changes ways gives side message now c call (whats.Compound args) v w end few is e step =
    compound_changes ways gives side message now c call args (cb_compound_of args) v w end few is e refl step

judged_changes : {M W : Type 0} (ways : Ways) (gives : W → Drawn → W → Type 0) (side : Side) (message : List ℕ) (now : ℕ) (c : ClientState M) (o : Judged) (v w : W)
    (end : ClientState M × Outbox) → length c.copies.copies ≤ 256 → judged_of ways.means.mic (second_at now c) programs.CALLBACK message c.back ≡ o
    → IsJudged o ways gives side message now c v w end → EndChanges (Cause ways (Hears side message now) c) c.copies end
judged_changes ways gives side message now c judged.Unread v w end few is step =
    subst (EndChanges (Cause ways (Hears side message now) c) c.copies) (sym step.0) (nothing_changes (Cause ways (Hears side message now) c) c (dropping (second_at now c) c.back Unread c) refl (λ j. refl))
judged_changes ways gives side message now c judged.Reply v w end few is step =
    step_changes (Cause ways (Hears side message now) c) ways gives (desk_at now c) (heard ways side message now c) _ c v w end refl refl
    (itself ways (Hears side message now) c) (heard_goes ways side message now c) step
judged_changes ways gives side message now c (judged.Call call) v w end few is step =
    what_changes ways gives side message now c call call.what v w end few is refl step

-- ---- every turn

turn_of : {M : Type 0} (ways : Ways) (turn : Turn) (c : ClientState M) (end : ClientState M × Outbox) → IsStart turn c.copies c.copies
    → EndChanges (Cause ways turn c) c.copies end → TurnChanges ways turn c end.0 end.1
turn_of ways turn c end start changes = record { start = c.copies; begins = start; many = changes.0; each = changes.1 }

pub turn_changes : {M W : Type 0} (ways : Ways) (gives : W → Drawn → W → Type 0) (turn : Turn) (c : ClientState M) (v w : W) (d : ClientState M) (out : Outbox)
    → length c.copies.copies ≤ 256 → MayTurn turn c → IsTurn ways gives turn c v w (d, out) → TurnChanges ways turn c d out
turn_changes ways gives (Begins j spec now) c v w d out few may step = begun_changes ways gives j spec now c step.drawn step.middle w (d, out) step.is
turn_changes ways gives (Asks query j now) c v w d out few may step =
    let turn = Asks query j now in
    let a = on_desk (asked_if (nat_lt j MOST_COPIES) ways.means.mic j query) (acting_at now c) in
    turn_of ways turn c (d, out) refl
    (subst (EndChanges (Cause ways turn c) c.copies) (sym step.0) (own_end ways turn c now a (asked_moves (nat_lt j MOST_COPIES) ways.means.mic j query (desk_at now c) may)))
turn_changes ways gives (Works side work now) c v w d out few may step =
    let turn = Works side work now in
    turn_of ways turn c (d, out) refl
    (step_changes (Cause ways turn c) ways gives (desk_at now c) (with_work side work (acting_at now c)) _ c v w (d, out) refl refl (itself ways turn c)
    (goes_of (moves_still (work_still side work now c))) step)
turn_changes ways gives (Ticks now) c v w d out few may step =
    let turn = Ticks now in
    turn_of ways turn c (d, out) refl
    (subst (EndChanges (Cause ways turn c) c.copies) (sym step.0) (own_end ways turn c now (on_desk (ticked ways.means.mic numbers.all_copies) (acting_at now c)) (own_ticked ways.means.mic (desk_at now c))))
turn_changes ways gives (Retries now) c v w d out few may step =
    let turn = Retries now in
    turn_of ways turn c (d, out) refl
    (subst (EndChanges (Cause ways turn c) c.copies) (sym step.0) (own_end ways turn c now (retried ways.means.mic (acting_at now c)) (own_retried ways.means.mic (acting_at now c))))
turn_changes ways gives (Hears side message now) c v w d out few may step =
    turn_of ways (Hears side message now) c (d, out) refl
    (judged_changes ways gives side message now c _ v w (d, out) few refl step)
