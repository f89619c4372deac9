-- Each turn is one step of the client.
use Rattle.std.proofs.Common.{◌≡◌, ◌+◌, ℕ, Bool, true, false, List, Option, Some, None, Result, Ok, Err, refl, sym, subst}
use Rattle.copy_privs.specs.Told.{privilege_told}
use Rattle.gss_ctx.specs.Seals.{Mic}
use Rattle.gss_ctx.specs.Table.{ContextTable}
use Rattle.mount.specs.Taking.{Means}
use Rattle.nfs_base.specs.declared.copy_spec.CopySpec.{CopySpec}
use Rattle.nfs_base.specs.declared.side.Side.{Side}
use Rattle.nfs_base.specs.declared.side.Side.TheVariants.{Source, Dest}
use Rattle.nfs_compound.specs.Compounds.{cb_compound_of}
use Rattle.nfs_compound.specs.declared.cb_compound.CbCompound.{CbCompound}
use Rattle.outbox.specs.declared.outgoing.Outbox.{Outbox}
use Rattle.rpc_calls.specs.declared.call.Call.{Call}
use Rattle.rpc_calls.specs.declared.call.Judged.{Judged}
use Rattle.rpc_calls.specs.declared.call.Judged.TheVariants as judged
use Rattle.rpc_calls.specs.declared.call.What.{What}
use Rattle.rpc_calls.specs.declared.call.What.TheVariants as whats
use Rattle.rpc_calls.specs.declared.contexts.InitAnswer.{InitAnswer}
use Rattle.streams.specs.declared.draws.Drawn.{Drawn}
use Rattle.streams.specs.declared.draws.Drawn.TheVariants.{Got, Failed}
use Rattle.client_steps.specs.Acting.{Acting}
use Rattle.client_core.specs.Calls.{created, inited_unless, is_misspelt}
use Rattle.client_core.specs.Callbacks.{IsCompound}
use Rattle.client_core.specs.Commands.{IsBegunBy}
use Rattle.client_core.specs.Endings.{IsStep, Ways, ended_by}
use Rattle.client_core.specs.Records as records
use Rattle.client_core.specs.State.{ClientState, second_at}
use Rattle.client_leaving.specs.Leaving as leaving
use Rattle.client_leaving.specs.declared.leaving.Leaving.{Leaving}
use Rattle.single_copy.specs.Phases.{has_left}
use Rattle.single_copy.specs.Turns.{Acts, Begins, Conduct, Does, Event, Hears, HearsBy, Leaves, Turn}
use Rattle.single_copy.specs.declared.phases.Phase.{Phase}

-- The step was counted.
pub record IsCounted {M : Type 0} (c : ClientState M) (end : ClientState M × Outbox) : Type 0 where
  pub steps : end.0.steps ≡ c.steps + 1

ended_counted : {M : Type 0} (to : Option Acting) (back : Acting → ContextTable ℕ) (c : ClientState M) → IsCounted c (ended_by to back c)
ended_counted None back c = record { steps = refl }
ended_counted (Some a) back c = record { steps = refl }

step_counted : {M W : Type 0} (ways : Ways) (gives : W → Drawn → W → Type 0) (does : Acting) (back : Acting → ContextTable ℕ) (c : ClientState M) (v w : W)
    (end : ClientState M × Outbox) → IsStep ways gives does back c v w end → IsCounted c end
step_counted ways gives does back c v w end step = subst (IsCounted c) (sym step.is) (ended_counted step.to back c)

begun_counted : {M W : Type 0} (drawn : Drawn) (ways : Ways) (gives : W → Drawn → W → Type 0) (j : ℕ) (spec : CopySpec) (now : ℕ) (c : ClientState M) (v w : W)
    (end : ClientState M × Outbox) → IsBegunBy drawn ways gives j spec now c v w end → IsCounted c end
begun_counted (Got secret) ways gives j spec now c v w end step = step_counted ways gives _ _ c v w end step
begun_counted Failed ways gives j spec now c v w end step = subst (IsCounted c) (sym step.0) (record { steps = refl })

-- ---- records

inited_counted : {M : Type 0} (failed : Bool) (second : ℕ) (side : Side) (told : InitAnswer) (back : ContextTable ℕ) (c : ClientState M)
    → IsCounted c (inited_unless failed second side told back c)
inited_counted true second side told back c = record { steps = refl }
inited_counted false second side told back c = record { steps = refl }

created_counted : {M : Type 0} (misspelt : Bool) (mic : Mic) (second : ℕ) (side : Side) (call : Call) (c : ClientState M)
    → IsCounted c (created misspelt mic second side call c)
created_counted true mic second side call c = record { steps = refl }
created_counted false mic second side call c = record { steps = refl }

compound_counted : {M W : Type 0} (o : Result CbCompound ℕ) (ways : Ways) (gives : W → Drawn → W → Type 0) (now : ℕ) (side : Side) (call : Call) (c : ClientState M) (v w : W)
    (end : ClientState M × Outbox) → IsCompound o ways gives now side call c v w end → IsCounted c end
compound_counted (Err at) ways gives now side call c v w end step = subst (IsCounted c) (sym step.0) (record { steps = refl })
compound_counted (Ok compound) ways gives now side call c v w end step = step_counted ways gives _ _ c v w end step

what_counted : {M W : Type 0} (what : What) (ways : Ways) (gives : W → Drawn → W → Type 0) (now : ℕ) (side : Side) (call : Call) (c : ClientState M) (v w : W)
    (end : ClientState M × Outbox) → records.IsWhat what ways gives now side call c v w end → IsCounted c end
what_counted (whats.Dropped why) ways gives now side call c v w end step = subst (IsCounted c) (sym step.0) (record { steps = refl })
what_counted (whats.Denied why) ways gives now side call c v w end step = subst (IsCounted c) (sym step.0) (record { steps = refl })
what_counted (whats.Failed failure) ways gives now side call c v w end step = subst (IsCounted c) (sym step.0) (record { steps = refl })
what_counted whats.Null ways gives now side call c v w end step = subst (IsCounted c) (sym step.0) (record { steps = refl })
what_counted (whats.Init token) ways gives now side call c v w end step =
    subst (IsCounted c) (sym step.is) (inited_counted step.told.draw_failed (second_at now c) side step.told step.back c)
what_counted (whats.Create name privilege) ways gives now side call c v w end step =
    subst (IsCounted c) (sym step.0) (created_counted (is_misspelt (privilege_told name privilege)) ways.means.mic (second_at now c) side call c)
what_counted whats.Destroy ways gives now side call c v w end step = subst (IsCounted c) (sym step.0) (record { steps = refl })
what_counted (whats.Compound args) ways gives now side call c v w end step = compound_counted (cb_compound_of args) ways gives now side call c v w end step

judged_counted : {M W : Type 0} (o : Judged) (ways : Ways) (gives : W → Drawn → W → Type 0) (side : Side) (message : List ℕ) (now : ℕ) (c : ClientState M) (v w : W)
    (end : ClientState M × Outbox) → records.IsJudged o ways gives side message now c v w end → IsCounted c end
judged_counted judged.Unread ways gives side message now c v w end step = subst (IsCounted c) (sym step.0) (record { steps = refl })
judged_counted judged.Reply ways gives side message now c v w end step = step_counted ways gives _ _ c v w end step
judged_counted (judged.Call call) ways gives side message now c v w end step = what_counted call.what ways gives now side call c v w end step

-- ---- a client that leaves

-- the same of its client
pub record IsLeft {M : Type 0} (l : Leaving M) (end : Leaving M × Outbox) : Type 0 where
  pub steps : end.0.client.steps ≡ l.client.steps + 1

replied_counted : {M : Type 0} (means : Means) (side : Side) (message : List ℕ) (now : ℕ) (l : Leaving M) → IsLeft l (leaving.reply_step means side message now l)
replied_counted means Source message now l = record { steps = refl }
replied_counted means Dest message now l = record { steps = refl }

clients_counted : {M W : Type 0} (ways : Ways) (gives : W → Drawn → W → Type 0) (side : Side) (message : List ℕ) (now : ℕ) (l : Leaving M) (v w : W)
    (end : Leaving M × Outbox) → leaving.IsClients ways gives side message now l v w end → IsLeft l end
clients_counted ways gives side message now l v w end is =
    record { steps = (judged_counted _ ways gives side message now l.client v w (end.0.client, end.1) is.step).steps }

leaving_counted : {M W : Type 0} (o : Judged) (ways : Ways) (gives : W → Drawn → W → Type 0) (side : Side) (message : List ℕ) (now : ℕ) (l : Leaving M) (v w : W)
    (end : Leaving M × Outbox) → leaving.IsJudged o ways gives side message now l v w end → IsLeft l end
leaving_counted judged.Unread ways gives side message now l v w end is = clients_counted ways gives side message now l v w end is
leaving_counted judged.Reply ways gives side message now l v w end is = subst (IsLeft l) (sym is.0) (replied_counted ways.means side message now l)
leaving_counted (judged.Call call) ways gives side message now l v w end is = clients_counted ways gives side message now l v w end is

hears_counted : {M W : Type 0} (left : Bool) (ways : Ways) (gives : W → Drawn → W → Type 0) (side : Side) (message : List ℕ) (now : ℕ) (l : Leaving M) (v w : W)
    (end : Leaving M × Outbox) → HearsBy left ways gives side message now l v w end → IsLeft l end
hears_counted false ways gives side message now l v w end is = clients_counted ways gives side message now l v w end is
hears_counted true ways gives side message now l v w end is = leaving_counted _ ways gives side message now l v w end is

-- ---- every turn

does_counted : {M W : Type 0} (event : Event) (conduct : Conduct M W) (phase : Phase) (second : ℕ) (l : Leaving M) (v w : W) (end : Leaving M × Outbox)
    → Does event conduct phase second l v w end → IsLeft l end
does_counted Begins conduct phase second l v w end does =
    record { steps = (begun_counted does.step.drawn _ _ _ _ second l.client does.step.middle w (end.0.client, end.1) does.step.is).steps }
does_counted (Hears side message) conduct phase second l v w end does = hears_counted (has_left phase) _ _ side message second l v w end does
does_counted Leaves conduct phase second l v w end does = subst (IsLeft l) (sym does.0) (record { steps = refl })

pub acts_counted : {M W : Type 0} (conduct : Conduct M W) (phase : Phase) (turn : Turn) (old new : Leaving M) (v w : W) → Acts conduct phase turn old new v w
    → new.client.steps ≡ old.client.steps + 1
acts_counted conduct phase turn old new v w acts = (does_counted turn.event conduct phase turn.second old v w (new, turn.out) acts.does).steps
