-- Each step of a client is counted, and leaves what it knows from the beginning.
use Rattle.std.proofs.Common.{◌≡◌, ◌+◌, ℕ, Bool, true, false, List, Option, Some, None, Result, Ok, Err, refl, sym, subst}
use Rattle.client_core.specs.Calls.{created, inited_unless}
use Rattle.client_core.specs.Callbacks.{IsCompound}
use Rattle.client_core.specs.Commands.{IsBegunBy}
use Rattle.client_core.specs.Endings.{IsStep, Ways, ended_by}
use Rattle.client_core.specs.Records.{IsJudged, IsWhat}
use Rattle.client_core.specs.State.{ClientState, second_at}
use Rattle.client_steps.specs.Acting.{Acting}
use Rattle.copy_privs.specs.Told.{privilege_told}
use Rattle.client_core.specs.Calls.{is_misspelt}
use Rattle.gss_ctx.specs.Seals.{Mic}
use Rattle.gss_ctx.specs.Table.{ContextTable}
use Rattle.nfs_base.specs.declared.copy_spec.CopySpec.{CopySpec}
use Rattle.nfs_base.specs.declared.side.Side.{Side}
use Rattle.nfs_compound.specs.Compounds.{cb_compound_of}
use Rattle.nfs_compound.specs.declared.cb_compound.CbCompound.{CbCompound}
use Rattle.outbox.specs.declared.outgoing.Outbox.{Outbox}
use Rattle.rpc_calls.specs.declared.call.Call.{Call}
use Rattle.rpc_calls.specs.declared.call.Judged.{Judged}
use Rattle.rpc_calls.specs.declared.call.Judged.TheVariants as judged
use Rattle.rpc_calls.specs.declared.call.What.{What}
use Rattle.rpc_calls.specs.declared.call.What.TheVariants as whats
use Rattle.rpc_calls.specs.declared.contexts.InitAnswer.{InitAnswer}
use Rattle.streams.specs.declared.draws.Drawn.{Drawn}
use Rattle.streams.specs.declared.draws.Drawn.TheVariants.{Got, Failed}
use Rattle.client_laws.specs.Turns.{IsTurn, Turn, Asks, Begins, Hears, Retries, Ticks, Works}

pub record IsCounted {M : Type 0} (c : ClientState M) (end : ClientState M × Outbox) : Type 0 where
  pub steps : end.0.steps ≡ c.steps + 1
  pub setting : end.0.setting ≡ c.setting

ended_counted : {M : Type 0} (to : Option Acting) (back : Acting → ContextTable ℕ) (c : ClientState M) → IsCounted c (ended_by to back c)
ended_counted None back c = record { steps = refl; setting = refl }
ended_counted (Some a) back c = record { steps = refl; setting = refl }

step_counted : {M W : Type 0} (ways : Ways) (gives : W → Drawn → W → Type 0) (does : Acting) (back : Acting → ContextTable ℕ) (c : ClientState M) (v w : W)
    (end : ClientState M × Outbox) → IsStep ways gives does back c v w end → IsCounted c end
step_counted ways gives does back c v w end step = subst (IsCounted c) (sym step.is) (ended_counted step.to back c)

begun_counted : {M W : Type 0} (drawn : Drawn) (ways : Ways) (gives : W → Drawn → W → Type 0) (j : ℕ) (spec : CopySpec) (now : ℕ) (c : ClientState M) (v w : W)
    (end : ClientState M × Outbox) → IsBegunBy drawn ways gives j spec now c v w end → IsCounted c end
begun_counted (Got secret) ways gives j spec now c v w end step = step_counted ways gives _ _ c v w end step
begun_counted Failed ways gives j spec now c v w end step = subst (IsCounted c) (sym step.0) (record { steps = refl; setting = refl })

-- ---- records

inited_counted : {M : Type 0} (failed : Bool) (second : ℕ) (side : Side) (told : InitAnswer) (back : ContextTable ℕ) (c : ClientState M)
    → IsCounted c (inited_unless failed second side told back c)
inited_counted true second side told back c = record { steps = refl; setting = refl }
inited_counted false second side told back c = record { steps = refl; setting = refl }

created_counted : {M : Type 0} (misspelt : Bool) (mic : Mic) (second : ℕ) (side : Side) (call : Call) (c : ClientState M)
    → IsCounted c (created misspelt mic second side call c)
created_counted true mic second side call c = record { steps = refl; setting = refl }
created_counted false mic second side call c = record { steps = refl; setting = refl }

compound_counted : {M W : Type 0} (o : Result CbCompound ℕ) (ways : Ways) (gives : W → Drawn → W → Type 0) (now : ℕ) (side : Side) (call : Call) (c : ClientState M) (v w : W)
    (end : ClientState M × Outbox) → IsCompound o ways gives now side call c v w end → IsCounted c end
compound_counted (Err at) ways gives now side call c v w end step = subst (IsCounted c) (sym step.0) (record { steps = refl; setting = refl })
compound_counted (Ok compound) ways gives now side call c v w end step = step_counted ways gives _ _ c v w end step

what_counted : {M W : Type 0} (what : What) (ways : Ways) (gives : W → Drawn → W → Type 0) (now : ℕ) (side : Side) (call : Call) (c : ClientState M) (v w : W)
    (end : ClientState M × Outbox) → IsWhat what ways gives now side call c v w end → IsCounted c end
what_counted (whats.Dropped why) ways gives now side call c v w end step = subst (IsCounted c) (sym step.0) (record { steps = refl; setting = refl })
what_counted (whats.Denied why) ways gives now side call c v w end step = subst (IsCounted c) (sym step.0) (record { steps = refl; setting = refl })
what_counted (whats.Failed failure) ways gives now side call c v w end step = subst (IsCounted c) (sym step.0) (record { steps = refl; setting = refl })
what_counted whats.Null ways gives now side call c v w end step = subst (IsCounted c) (sym step.0) (record { steps = refl; setting = refl })
what_counted (whats.Init token) ways gives now side call c v w end step =
    subst (IsCounted c) (sym step.is) (inited_counted step.told.draw_failed (second_at now c) side step.told step.back c)
what_counted (whats.Create name privilege) ways gives now side call c v w end step =
    subst (IsCounted c) (sym step.0) (created_counted (is_misspelt (privilege_told name privilege)) ways.means.mic (second_at now c) side call c)
what_counted whats.Destroy ways gives now side call c v w end step = subst (IsCounted c) (sym step.0) (record { steps = refl; setting = refl })
what_counted (whats.Compound args) ways gives now side call c v w end step = compound_counted (cb_compound_of args) ways gives now side call c v w end step

judged_counted : {M W : Type 0} (o : Judged) (ways : Ways) (gives : W → Drawn → W → Type 0) (side : Side) (message : List ℕ) (now : ℕ) (c : ClientState M) (v w : W)
    (end : ClientState M × Outbox) → IsJudged o ways gives side message now c v w end → IsCounted c end
judged_counted judged.Unread ways gives side message now c v w end step = subst (IsCounted c) (sym step.0) (record { steps = refl; setting = refl })
judged_counted judged.Reply ways gives side message now c v w end step = step_counted ways gives _ _ c v w end step
judged_counted (judged.Call call) ways gives side message now c v w end step = what_counted call.what ways gives now side call c v w end step

-- ---- every turn

pub turn_counted : {M W : Type 0} (ways : Ways) (gives : W → Drawn → W → Type 0) (turn : Turn) (c : ClientState M) (v w : W) (end : ClientState M × Outbox)
    → IsTurn ways gives turn c v w end → IsCounted c end
turn_counted ways gives (Begins j spec now) c v w end step = begun_counted step.drawn ways gives j spec now c step.middle w end step.is
turn_counted ways gives (Asks query j now) c v w end step = subst (IsCounted c) (sym step.0) (record { steps = refl; setting = refl })
turn_counted ways gives (Works side work now) c v w end step = step_counted ways gives _ _ c v w end step
turn_counted ways gives (Ticks now) c v w end step = subst (IsCounted c) (sym step.0) (record { steps = refl; setting = refl })
turn_counted ways gives (Retries now) c v w end step = subst (IsCounted c) (sym step.0) (record { steps = refl; setting = refl })
turn_counted ways gives (Hears side message now) c v w end step = judged_counted _ ways gives side message now c v w end step
