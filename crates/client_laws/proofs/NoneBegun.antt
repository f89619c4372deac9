-- A copy comes to be only by the command that begins it.
use Rattle.std.proofs.Common.{◌≡◌, ◌≢◌, ◌∙◌, ℕ, ◌<◌, Bool, true, false, List, [], ◌∷◌, Option, Some, None, Result, Ok, Err, refl, sym, ap, subst, inl, inr, get_or, get_or-set_other, arith}
use Rattle.std.specs.Prelude.{◌==◌, nat_lt, option_map}
use Rattle.callbacks.specs.Callbacks.{Outcome, counted, evaluated, evaluated_by, if_ok, offload_by, op_outcome, is_session, sequence_by, tail_outcome, walked}
use Rattle.client_copies.specs.Copies.{begun}
use Rattle.client_copies.specs.Held.{has_room}
use Rattle.client_copies.specs.Table.{Copies, copy_after, copy_at, named_by, offloaded_to, told_at}
use Rattle.client_copies.specs.Words.{ran}
use Rattle.client_copies.specs.declared.copy.ClientCopy.{ClientCopy}
use Rattle.client_copies.specs.declared.copy.Query.{Query}
use Rattle.client_copies.specs.declared.event.Event.{Event}
use Rattle.client_copies.specs.declared.event.Event.TheVariants as events
use Rattle.client_copies.specs.declared.held.HeldOffload.{HeldOffload}
use Rattle.client_copies.specs.declared.table.TheConstants.{MOST_COPIES}
use Rattle.client_copies.specs.declared.told.Word.{Word}
use Rattle.client_core.specs.Callbacks.{IsCompound, called_back, session_under}
use Rattle.client_core.specs.Calls.{created, inited_unless, is_misspelt}
use Rattle.client_core.specs.Commands.{asked_if, with_work}
use Rattle.client_core.specs.Endings.{IsStep, Ways, acting_at, desk_at, ended_by}
use Rattle.client_core.specs.Records.{IsJudged, IsWhat}
use Rattle.client_core.specs.State.{ClientState, second_at}
use Rattle.client_core.specs.Telling.{copy_if}
use Rattle.client_steps.specs.Acting.{Acting, GoesOn}
use Rattle.client_steps.specs.Replies.{under_seal}
use Rattle.copy_ops.specs.declared.callback.CbOffload.{CbOffload}
use Rattle.copy_ops.specs.declared.callback.OffloadEnd.{OffloadEnd}
use Rattle.copy_privs.specs.Told.{privilege_told}
use Rattle.file_ops.specs.declared.callbacks.CbSeq.{CbSeq}
use Rattle.gss_ctx.specs.Seals.{Mic}
use Rattle.gss_ctx.specs.Table.{ContextTable}
use Rattle.nfs_base.specs.declared.copy_spec.CopySpec.{CopySpec}
use Rattle.nfs_base.specs.declared.limits.TheConstants.{MOST_OPERATIONS}
use Rattle.nfs_base.specs.declared.side.Side.{Side}
use Rattle.nfs_base.specs.declared.state_id.StateId.{StateId}
use Rattle.nfs_compound.specs.Compounds.{cb_compound_of}
use Rattle.nfs_compound.specs.declared.cb_compound.CbCompound.{CbCompound}
use Rattle.nfs_compound.specs.declared.cb_op.CbOp.{CbOp}
use Rattle.nfs_compound.specs.declared.cb_op.CbOp.TheVariants as ops
use Rattle.nfs_compound.specs.declared.compound.TheConstants.{MINOR_VERSION}
use Rattle.nfs_compound.specs.declared.tail.Tail.{Tail}
use Rattle.nfs_compound.specs.declared.tail.Tail.TheVariants as tails
use Rattle.outbox.specs.declared.outgoing.Outbox.{Outbox}
use Rattle.rpc_calls.specs.Answers.{accepted_seal}
use Rattle.rpc_calls.specs.declared.call.Call.{Call}
use Rattle.rpc_calls.specs.declared.call.Judged.{Judged}
use Rattle.rpc_calls.specs.declared.call.Judged.TheVariants as judged
use Rattle.rpc_calls.specs.declared.call.What.{What}
use Rattle.rpc_calls.specs.declared.call.What.TheVariants as whats
use Rattle.rpc_calls.specs.declared.contexts.InitAnswer.{InitAnswer}
use Rattle.streams.specs.declared.draws.Drawn.{Drawn}
use Rattle.write_queue.specs.declared.work.Work.{Work}
use Rattle.client_laws.proofs.CalledMoves.{all_copies, held_same}
use Rattle.client_laws.proofs.HeardMoves.{heard_goes}
use Rattle.client_laws.proofs.OwnMoves.{own_asked, own_goes_on, own_retried, own_ticked}
use Rattle.client_laws.proofs.TurnMoves.{EndChanges, begun_changes, work_still}
use Rattle.client_laws.specs.Changes.{Changes}
use Rattle.client_laws.specs.TurnLaws.{IsStart}
use Rattle.client_laws.specs.Turns.{IsTurn, Turn, Asks, Begins, Hears, Retries, Ticks, Works, begins}
use Rattle.client_laws.specs.TableLaws.{copy_kept, copy_written}

-- a copy that isn't there in the one table isn't there in the other
abbrev NoMore : ℕ → Copies → Copies → Type 0
NoMore j t u = copy_at j t ≡ None → copy_at j u ≡ None

changes_no_more : {cause : Event → Type 0} {a b : Option ClientCopy} {ws : List Word} → Changes cause a b ws → a ≡ None → b ≡ None
changes_no_more f none = f.copy ∙ ap (option_map (ran f.events)) none

end_no_more : {M : Type 0} (cause : ℕ → Event → Type 0) (j : ℕ) (t : Copies) (end : ClientState M × Outbox) → EndChanges cause t end → NoMore j t end.0.copies
end_no_more cause j t end changes = changes_no_more (changes.1 j)

-- ---- a CB_COMPOUND

told_no_more : (b : Bool) (i j : ℕ) (event : Event) (t : Copies) → (i == j) ≡ b → NoMore j t (told_at i event t).1
told_no_more true i j event t e none =
    let same : i ≡ j = grind (arith, e) in
    let gone = subst (λ (n : ℕ). copy_at n t ≡ None) (sym same) none in
    subst (λ (n : ℕ). copy_at n (told_at i event t).1 ≡ None) same (copy_written event i t ∙ ap (copy_after event) gone)
told_no_more false i j event t e none =
    let other : j ≢ i = grind (arith, e) in
    copy_kept i j (copy_after event (copy_at i t)) t other ∙ none

offloaded_no_more : (o : Option ℕ) (j : ℕ) (id : StateId) (end : OffloadEnd) (t : Copies) → NoMore j t (offloaded_to o id end t).1
offloaded_no_more None j id end t none =
    let one : HeldOffload = record { id = id; end = end } in
    ap (λ (xs : List (Option ClientCopy)). get_or xs j None) (held_same (has_room t.held) one t) ∙ none
offloaded_no_more (Some i) j id end t none = told_no_more (i == j) i j (events.Offloaded end) t refl none

sequence_no_more : (first own : Bool) (j : ℕ) (args : CbSeq) (t : Copies) → NoMore j t (sequence_by first own args t).copies
sequence_no_more false own j args t none = none
sequence_no_more true false j args t none = none
sequence_no_more true true j args t none = none

offload_no_more : (first : Bool) (j : ℕ) (args : CbOffload) (t : Copies) → NoMore j t (offload_by first args t).copies
offload_no_more true j args t none = none
offload_no_more false j args t none = offloaded_no_more (named_by args.id t) j args.id args.end t none

op_no_more : (session : Option (List ℕ)) (first : Bool) (op : CbOp) (j : ℕ) (t : Copies) → NoMore j t (op_outcome session first op t).copies
op_no_more session first (ops.Sequence args) j t none = sequence_no_more first (is_session args.session session) j args t none
op_no_more session first (ops.Offload args) j t none = offload_no_more first j args t none

tail_no_more : (tail : Tail) (j : ℕ) (t : Copies) → NoMore j t (tail_outcome tail t).copies
tail_no_more tails.Whole j t none = none
tail_no_more (tails.Unreadable place op at) j t none = none
tail_no_more (tails.Unsupported place op) j t none = none
tail_no_more (tails.Illegal place op) j t none = none

behind_no_more : (ok : Bool) (o more : Outcome) (j : ℕ) (t : Copies) → NoMore j t o.copies → NoMore j o.copies more.copies → NoMore j t (if_ok ok o more).copies
behind_no_more true o more j t x y none = y (x none)
behind_no_more false o more j t x y none = x none

walked_no_more : (session : Option (List ℕ)) (first : Bool) (list : List CbOp) (tail : Tail) (j : ℕ) (t : Copies) → NoMore j t (walked session first list tail t).copies
walked_no_more session first [] tail j t none = tail_no_more tail j t none
walked_no_more session first (op ∷ more) tail j t none =
    let o = op_outcome session first op t in
    behind_no_more (o.status.number == 0) o (walked session false more tail o.copies) j t (op_no_more session first op j t)
    (walked_no_more session false more tail j o.copies) none

counted_no_more : (many : Bool) (session : Option (List ℕ)) (c : CbCompound) (j : ℕ) (t : Copies) → NoMore j t (counted many session c t).copies
counted_no_more true session c j t none = none
counted_no_more false session c j t none = walked_no_more session true c.ops c.tail j t none

evaluated_no_more : (ok : Bool) (session : Option (List ℕ)) (c : CbCompound) (j : ℕ) (t : Copies) → NoMore j t (evaluated_by ok session c t).copies
evaluated_no_more true session c j t none = counted_no_more (nat_lt MOST_OPERATIONS c.count) session c j t none
evaluated_no_more false session c j t none = none

back_no_more : {M : Type 0} (mic : Mic) (side : Side) (call : Call) (compound : CbCompound) (now j : ℕ) (c : ClientState M)
    → NoMore j c.copies (called_back mic side call compound c (desk_at now c)).copies
back_no_more mic side call compound now j c none =
    let sealed = under_seal (accepted_seal c.back call) (desk_at now c) in
    let o = evaluated (session_under call.under c) compound c.copies in
    ap (copy_at j) (all_copies o.told (record sealed { copies = o.copies }))
    ∙ evaluated_no_more (compound.minor == MINOR_VERSION) (session_under call.under c) compound j c.copies none

-- ---- what was done goes on

to_no_more : {M W : Type 0} (ways : Ways) (gives : W → Drawn → W → Type 0) (does : Acting) (back : Acting → ContextTable ℕ) (c : ClientState M) (v w : W)
    (to : Option Acting) (j : ℕ) → NoMore j c.copies does.desk.copies → GoesOn c.setting ways.means.mic ways.started gives does v w to
    → NoMore j c.copies (ended_by to back c).0.copies
to_no_more ways gives does back c v w None j here on none = none
to_no_more ways gives does back c v w (Some a) j here on none =
    changes_no_more ((own_goes_on c.setting ways.means.mic ways.started gives does v w a on).each j) (here none)

step_no_more : {M W : Type 0} (ways : Ways) (gives : W → Drawn → W → Type 0) (does : Acting) (back : Acting → ContextTable ℕ) (c : ClientState M) (v w : W)
    (end : ClientState M × Outbox) (j : ℕ) → NoMore j c.copies does.desk.copies → IsStep ways gives does back c v w end → NoMore j c.copies end.0.copies
step_no_more ways gives does back c v w end j here step none =
    ap (λ (e : ClientState _ × Outbox). copy_at j e.0.copies) step.is ∙ to_no_more ways gives does back c v w step.to j here step.goes_on none

-- the copies stay
stay : {M : Type 0} (j : ℕ) (c : ClientState M) (end made : ClientState M × Outbox) → end ≡ made → made.0.copies ≡ c.copies → NoMore j c.copies end.0.copies
stay j c end made is same none = ap (λ (e : ClientState _ × Outbox). copy_at j e.0.copies) is ∙ ap (copy_at j) same ∙ none

compound_no_more : {M W : Type 0} (o : Result CbCompound ℕ) (ways : Ways) (gives : W → Drawn → W → Type 0) (now : ℕ) (side : Side) (call : Call) (c : ClientState M) (v w : W)
    (end : ClientState M × Outbox) (j : ℕ) → IsCompound o ways gives now side call c v w end → NoMore j c.copies end.0.copies
compound_no_more (Err at) ways gives now side call c v w end j step = stay j c end _ step.0 refl
compound_no_more (Ok compound) ways gives now side call c v w end j step =
    step_no_more ways gives _ _ c v w end j (back_no_more ways.means.mic side call compound now j c) step

-- ---- other records

inited_copies : {M : Type 0} (failed : Bool) (second : ℕ) (side : Side) (told : InitAnswer) (back : ContextTable ℕ) (c : ClientState M)
    → (inited_unless failed second side told back c).0.copies ≡ c.copies
inited_copies true second side told back c = refl
inited_copies false second side told back c = refl

created_copies : {M : Type 0} (misspelt : Bool) (mic : Mic) (second : ℕ) (side : Side) (call : Call) (c : ClientState M)
    → (created misspelt mic second side call c).0.copies ≡ c.copies
created_copies true mic second side call c = refl
created_copies false mic second side call c = refl

what_no_more : {M W : Type 0} (what : What) (ways : Ways) (gives : W → Drawn → W → Type 0) (now : ℕ) (side : Side) (call : Call) (c : ClientState M) (v w : W)
    (end : ClientState M × Outbox) (j : ℕ) → IsWhat what ways gives now side call c v w end → NoMore j c.copies end.0.copies
what_no_more (whats.Dropped why) ways gives now side call c v w end j step = stay j c end _ step.0 refl
what_no_more (whats.Denied why) ways gives now side call c v w end j step = stay j c end _ step.0 refl
what_no_more (whats.Failed failure) ways gives now side call c v w end j step = stay j c end _ step.0 refl
what_no_more whats.Null ways gives now side call c v w end j step = stay j c end _ step.0 refl
what_no_more (whats.Init token) ways gives now side call c v w end j step =
    stay j c end _ step.is (inited_copies step.told.draw_failed (second_at now c) side step.told step.back c)
what_no_more (whats.Create name privilege) ways gives now side call c v w end j step =
    stay j c end _ step.0 (created_copies (is_misspelt (privilege_told name privilege)) ways.means.mic (second_at now c) side call c)
what_no_more whats.Destroy ways gives now side call c v w end j step = stay j c end _ step.0 refl
what_no_more (whats.Compound args) ways gives now side call c v w end j step = compound_no_more (cb_compound_of args) ways gives now side call c v w end j step

judged_no_more : {M W : Type 0} (o : Judged) (ways : Ways) (gives : W → Drawn → W → Type 0) (side : Side) (message : List ℕ) (now : ℕ) (c : ClientState M) (v w : W)
    (end : ClientState M × Outbox) (j : ℕ) → IsJudged o ways gives side message now c v w end → NoMore j c.copies end.0.copies
judged_no_more judged.Unread ways gives side message now c v w end j step = stay j c end _ step.0 refl
judged_no_more judged.Reply ways gives side message now c v w end j step =
    step_no_more ways gives _ _ c v w end j (changes_no_more ((heard_goes ways side message now c).each j)) step
judged_no_more (judged.Call call) ways gives side message now c v w end j step = what_no_more call.what ways gives now side call c v w end j step

-- ---- commands

asked_moves : {M : Type 0} (b : Bool) (mic : Mic) (i j : ℕ) (query : Query) (now : ℕ) (c : ClientState M) → nat_lt i MOST_COPIES ≡ b
    → NoMore j c.copies (asked_if b mic i query (desk_at now c)).copies
asked_moves true mic i j query now c e none =
    let small : i < 256 = grind (arith, e) in
    changes_no_more ((own_asked mic i query (desk_at now c) small).each j) none
asked_moves false mic i j query now c e none = none

work_copies : {M : Type 0} (side : Side) (work : Work) (now : ℕ) (c : ClientState M) → (with_work side work (acting_at now c)).desk.copies ≡ c.copies
work_copies side work now c = (work_still side work now c).copies

begun_start : {M : Type 0} (i j : ℕ) (spec : CopySpec) (now : ℕ) (c : ClientState M) (start : Copies) → (i == j) ≡ false → IsStart (Begins i spec now) c.copies start
    → NoMore j c.copies start
begun_start i j spec now c start other (inl same) none = ap (copy_at j) same ∙ none
begun_start i j spec now c start other (inr one) none =
    let differs : j ≢ i = grind (arith, other) in
    ap (copy_at j) one.1 ∙ get_or-set_other c.copies.copies i j (Some (begun spec one.0)) None differs ∙ none

-- ---- every turn

turn_no_more : {M W : Type 0} (ways : Ways) (gives : W → Drawn → W → Type 0) (turn : Turn) (c : ClientState M) (v w : W) (end : ClientState M × Outbox) (j : ℕ)
    → IsTurn ways gives turn c v w end → begins j turn ≡ false → NoMore j c.copies end.0.copies
turn_no_more ways gives (Begins i spec now) c v w end j step other none =
    let changes = begun_changes ways gives i spec now c step.drawn step.middle w end step.is in
    changes_no_more (changes.each j) (begun_start i j spec now c changes.start other changes.begins none)
turn_no_more ways gives (Asks query i now) c v w end j step other none =
    ap (λ (e : ClientState _ × Outbox). copy_at j e.0.copies) step.0 ∙ asked_moves (nat_lt i MOST_COPIES) ways.means.mic i j query now c refl none
turn_no_more ways gives (Works side work now) c v w end j step other none =
    step_no_more ways gives _ _ c v w end j (λ here. ap (copy_at j) (work_copies side work now c) ∙ here) step none
turn_no_more ways gives (Ticks now) c v w end j step other none =
    ap (λ (e : ClientState _ × Outbox). copy_at j e.0.copies) step.0 ∙ changes_no_more ((own_ticked ways.means.mic (desk_at now c)).each j) none
turn_no_more ways gives (Retries now) c v w end j step other none =
    ap (λ (e : ClientState _ × Outbox). copy_at j e.0.copies) step.0 ∙ changes_no_more ((own_retried ways.means.mic (acting_at now c)).each j) none
turn_no_more ways gives (Hears side message now) c v w end j step other none = judged_no_more _ ways gives side message now c v w end j step none

-- a copy's number is below the last
numbered : {M : Type 0} (b : Bool) (j : ℕ) (c d : ClientState M) → NoMore j c.copies d.copies → copy_if b j c ≡ None → copy_if b j d ≡ None
numbered true j c d no_more none = no_more none
numbered false j c d no_more none = refl

pub none_begun : {M W : Type 0} (ways : Ways) (gives : W → Drawn → W → Type 0) (turn : Turn) (c : ClientState M) (v w : W) (end : ClientState M × Outbox) (j : ℕ)
    → IsTurn ways gives turn c v w end → copy_if (nat_lt j MOST_COPIES) j c ≡ None → begins j turn ≡ false → copy_if (nat_lt j MOST_COPIES) j end.0 ≡ None
none_begun ways gives turn c v w end j step none other = numbered (nat_lt j MOST_COPIES) j c end.0 (turn_no_more ways gives turn c v w end j step other) none
