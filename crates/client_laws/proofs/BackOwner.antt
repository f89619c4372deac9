-- The contexts for callbacks stay those of the same end.
use Rattle.std.proofs.Common.{◌≡◌, ◌∙◌, ℕ, Bool, true, false, List, [], ◌∷◌, Option, Some, None, Result, Ok, Err, refl, sym, subst}
use Rattle.std.specs.Prelude.{nat_lt}
use Rattle.client_core.specs.Backs.{back_added, back_unless, backs_ended}
use Rattle.client_core.specs.Callbacks.{IsCompound}
use Rattle.client_core.specs.Calls.{created, inited_unless, is_misspelt}
use Rattle.client_copies.specs.declared.table.TheConstants.{MOST_COPIES}
use Rattle.client_core.specs.Commands.{IsBegunBy, asked_if}
use Rattle.client_core.specs.Endings.{IsStep, Ways, acting_at, ended_by}
use Rattle.client_core.specs.Records.{IsJudged, IsWhat}
use Rattle.client_core.specs.State.{ClientState, second_at}
use Rattle.client_steps.specs.Acting.{Acting, on_desk}
use Rattle.client_steps.specs.Commands.{retried, ticked}
use Rattle.client_steps.specs.CopySteps.{all_copies}
use Rattle.copy_privs.specs.Told.{privilege_told}
use Rattle.gss_ctx.specs.Seals.{Mic}
use Rattle.gss_ctx.specs.Table.{ContextTable, is_full}
use Rattle.gss_ctx.specs.Table as tables
use Rattle.gss_ctx.specs.declared.admit.Verdict.{Verdict}
use Rattle.nfs_base.specs.declared.copy_spec.CopySpec.{CopySpec}
use Rattle.nfs_base.specs.declared.side.Side.{Side}
use Rattle.nfs_compound.specs.Compounds.{cb_compound_of}
use Rattle.nfs_compound.specs.declared.cb_compound.CbCompound.{CbCompound}
use Rattle.outbox.specs.declared.outgoing.Outbox.{Outbox}
use Rattle.rpc_calls.specs.Answers as answers
use Rattle.rpc_calls.specs.declared.call.Call.{Call}
use Rattle.rpc_calls.specs.declared.call.Judged.{Judged}
use Rattle.rpc_calls.specs.declared.call.Judged.TheVariants as judged
use Rattle.rpc_calls.specs.declared.call.Under.{Under}
use Rattle.rpc_calls.specs.declared.call.What.{What}
use Rattle.rpc_calls.specs.declared.call.What.TheVariants as whats
use Rattle.rpc_calls.specs.declared.contexts.InitAnswer.{InitAnswer}
use Rattle.streams.specs.declared.draws.Drawn.{Drawn}
use Rattle.streams.specs.declared.draws.Drawn.TheVariants.{Got, Failed}
use Rattle.call_replies.specs.SealLaws.{inits_owner}
use Rattle.client_laws.specs.Turns.{IsTurn, Turn, Asks, Begins, Hears, Retries, Ticks, Works}

abbrev Same : {M : Type 0} → ClientState M → ClientState M × Outbox → Type 0
Same c end = end.0.back.owner ≡ c.back.owner

-- ---- tables

ended_owner : (numbers : List ℕ) (table : ContextTable ℕ) → (backs_ended numbers table).owner ≡ table.owner
ended_owner [] table = refl
ended_owner (number ∷ numbers) table = ended_owner numbers (tables.destroyed number table)

added_unless : (full : Bool) (derived : List ℕ → ℕ → List ℕ → List ℕ) (me : List ℕ) (now : ℕ) (key : List ℕ) (table : ContextTable ℕ) → (back_unless full derived me now key table).owner ≡ table.owner
added_unless true derived me now key table = refl
added_unless false derived me now key table = refl

added_owner : (derived : List ℕ → ℕ → List ℕ → List ℕ) (me : List ℕ) (now : ℕ) (made : Option (List ℕ)) (table : ContextTable ℕ) → (back_added derived me now made table).owner ≡ table.owner
added_owner derived me now None table = refl
added_owner derived me now (Some key) table = added_unless (is_full now table.entries) derived me now key table

counted_by : (now : ℕ) (o : Option Verdict) (table : ContextTable ℕ) → (answers.counted_by now o table).owner ≡ table.owner
counted_by now None table = refl
counted_by now (Some verdict) table = refl

counted_owner : (now : ℕ) (call : Call) (table : ContextTable ℕ) → (answers.counted now call table).owner ≡ table.owner
counted_owner now call table = counted_by now call.verdict table

under_owner : (o : Option Under) (table : ContextTable ℕ) → (answers.ended_by o table).owner ≡ table.owner
under_owner None table = refl
under_owner (Some under) table = refl

-- ---- how a step ends

to_owner : {M : Type 0} (to : Option Acting) (back : Acting → ContextTable ℕ) (c : ClientState M) → ((a : Acting) → (back a).owner ≡ c.back.owner) → Same c (ended_by to back c)
to_owner None back c same = refl
to_owner (Some a) back c same = ended_owner a.desk.ended (back a) ∙ same a

step_owner : {M W : Type 0} (ways : Ways) (gives : W → Drawn → W → Type 0) (does : Acting) (back : Acting → ContextTable ℕ) (c : ClientState M) (v w : W) (end : ClientState M × Outbox)
    → ((a : Acting) → (back a).owner ≡ c.back.owner) → IsStep ways gives does back c v w end → Same c end
step_owner ways gives does back c v w end same step = subst (Same c) (sym step.is) (to_owner step.to back c same)

begun_owner : {M W : Type 0} (drawn : Drawn) (ways : Ways) (gives : W → Drawn → W → Type 0) (j : ℕ) (spec : CopySpec) (now : ℕ) (c : ClientState M) (v w : W) (end : ClientState M × Outbox)
    → IsBegunBy drawn ways gives j spec now c v w end → Same c end
begun_owner (Got secret) ways gives j spec now c v w end step = step_owner ways gives _ (λ a. c.back) c v w end (λ a. refl) step
begun_owner Failed ways gives j spec now c v w end step = subst (Same c) (sym step.0) refl

-- ---- records

inited_owner : {M : Type 0} (failed : Bool) (second : ℕ) (side : Side) (told : InitAnswer) (back : ContextTable ℕ) (c : ClientState M) → back.owner ≡ c.back.owner
    → Same c (inited_unless failed second side told back c)
inited_owner true second side told back c same = refl
inited_owner false second side told back c same = same

created_owner : {M : Type 0} (misspelt : Bool) (mic : Mic) (second : ℕ) (side : Side) (call : Call) (c : ClientState M) → Same c (created misspelt mic second side call c)
created_owner true mic second side call c = counted_owner second call c.back
created_owner false mic second side call c = counted_owner second call c.back

compound_owner : {M W : Type 0} (o : Result CbCompound ℕ) (ways : Ways) (gives : W → Drawn → W → Type 0) (now : ℕ) (side : Side) (call : Call) (c : ClientState M) (v w : W)
    (end : ClientState M × Outbox) → IsCompound o ways gives now side call c v w end → Same c end
compound_owner (Err at) ways gives now side call c v w end step = subst (Same c) (sym step.0) (counted_owner (second_at now c) call c.back)
compound_owner (Ok compound) ways gives now side call c v w end step =
    step_owner ways gives _ (λ a. answers.counted (second_at now c) call c.back) c v w end (λ a. counted_owner (second_at now c) call c.back) step

what_owner : {M W : Type 0} (what : What) (ways : Ways) (gives : W → Drawn → W → Type 0) (now : ℕ) (side : Side) (call : Call) (c : ClientState M) (v w : W) (end : ClientState M × Outbox)
    → IsWhat what ways gives now side call c v w end → Same c end
what_owner (whats.Dropped why) ways gives now side call c v w end step = subst (Same c) (sym step.0) (counted_owner (second_at now c) call c.back)
what_owner (whats.Denied why) ways gives now side call c v w end step = subst (Same c) (sym step.0) (counted_owner (second_at now c) call c.back)
what_owner (whats.Failed failure) ways gives now side call c v w end step = subst (Same c) (sym step.0) (counted_owner (second_at now c) call c.back)
what_owner whats.Null ways gives now side call c v w end step = subst (Same c) (sym step.0) (counted_owner (second_at now c) call c.back)
what_owner (whats.Init token) ways gives now side call c v w end step =
    subst (Same c) (sym step.is)
    (inited_owner step.told.draw_failed (second_at now c) side step.told step.back c
    (inits_owner ways.means.mic (ways.accepted token) gives (second_at now c) _ c.back step.back v w step.answers.answer step.answers.inits))
what_owner (whats.Create name privilege) ways gives now side call c v w end step =
    subst (Same c) (sym step.0) (created_owner (is_misspelt (privilege_told name privilege)) ways.means.mic (second_at now c) side call c)
what_owner whats.Destroy ways gives now side call c v w end step =
    subst (Same c) (sym step.0) (under_owner call.under (answers.counted (second_at now c) call c.back) ∙ counted_owner (second_at now c) call c.back)
what_owner (whats.Compound args) ways gives now side call c v w end step = compound_owner (cb_compound_of args) ways gives now side call c v w end step

judged_owner : {M W : Type 0} (o : Judged) (ways : Ways) (gives : W → Drawn → W → Type 0) (side : Side) (message : List ℕ) (now : ℕ) (c : ClientState M) (v w : W)
    (end : ClientState M × Outbox) → IsJudged o ways gives side message now c v w end → Same c end
judged_owner judged.Unread ways gives side message now c v w end step = subst (Same c) (sym step.0) refl
judged_owner judged.Reply ways gives side message now c v w end step =
    step_owner ways gives _ (λ a. back_added ways.means.derived c.setting.me (second_at now c) a.desk.made c.back) c v w end
    (λ a. added_owner ways.means.derived c.setting.me (second_at now c) a.desk.made c.back) step
judged_owner (judged.Call call) ways gives side message now c v w end step = what_owner call.what ways gives now side call c v w end step

pub turn_owner : {M W : Type 0} (ways : Ways) (gives : W → Drawn → W → Type 0) (turn : Turn) (c : ClientState M) (v w : W) (end : ClientState M × Outbox)
    → IsTurn ways gives turn c v w end → end.0.back.owner ≡ c.back.owner
turn_owner ways gives (Begins j spec now) c v w end step = begun_owner step.drawn ways gives j spec now c step.middle w end step.is
turn_owner ways gives (Asks query j now) c v w end step =
    let a = on_desk (asked_if (nat_lt j MOST_COPIES) ways.means.mic j query) (acting_at now c) in
    subst (Same c) (sym step.0) (ended_owner a.desk.ended c.back)
turn_owner ways gives (Works side work now) c v w end step = step_owner ways gives _ (λ a. c.back) c v w end (λ a. refl) step
turn_owner ways gives (Ticks now) c v w end step =
    let a = on_desk (ticked ways.means.mic all_copies) (acting_at now c) in
    subst (Same c) (sym step.0) (ended_owner a.desk.ended c.back)
turn_owner ways gives (Retries now) c v w end step =
    let a = retried ways.means.mic (acting_at now c) in
    subst (Same c) (sym step.0) (ended_owner a.desk.ended c.back)
turn_owner ways gives (Hears side message now) c v w end step = judged_owner _ ways gives side message now c v w end step
