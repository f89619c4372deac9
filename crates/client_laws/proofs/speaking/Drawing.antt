-- Where a draw failed, copies are as they were.
use Rattle.std.proofs.Common.{◌≡◌, ◌∙◌, ℕ, Bool, true, false, List, Option, Some, None, Result, Ok, Err, refl, sym, ap, subst, inl, inr, ◌⊎◌}
use Rattle.client_core.specs.Callbacks.{IsCompound}
use Rattle.client_core.specs.Calls.{created, inited_unless, is_misspelt}
use Rattle.client_core.specs.Commands.{IsBegunBy}
use Rattle.client_core.specs.Endings.{IsStep, Ways, ended_by}
use Rattle.client_core.specs.Records.{IsJudged, IsWhat}
use Rattle.client_core.specs.State.{ClientState, second_at}
use Rattle.client_steps.specs.Acting.{Acting}
use Rattle.copy_privs.specs.Told.{privilege_told}
use Rattle.gss_ctx.specs.Table.{ContextTable}
use Rattle.nfs_base.specs.declared.copy_spec.CopySpec.{CopySpec}
use Rattle.nfs_base.specs.declared.side.Side.{Side}
use Rattle.nfs_compound.specs.Compounds.{cb_compound_of}
use Rattle.nfs_compound.specs.declared.cb_compound.CbCompound.{CbCompound}
use Rattle.outbox.specs.declared.outgoing.Outbox.{Outbox}
use Rattle.rpc_calls.specs.Judging.{judged_of}
use Rattle.rpc_calls.specs.declared.call.Call.{Call}
use Rattle.rpc_calls.specs.declared.call.Judged.{Judged}
use Rattle.rpc_calls.specs.declared.call.Judged.TheVariants as judged
use Rattle.rpc_calls.specs.declared.call.TheConstants.Program as programs
use Rattle.rpc_calls.specs.declared.call.What.{What}
use Rattle.rpc_calls.specs.declared.call.What.TheVariants as whats
use Rattle.rpc_calls.specs.declared.contexts.InitAnswer.{InitAnswer}
use Rattle.streams.specs.declared.draws.Drawn.{Drawn}
use Rattle.streams.specs.declared.draws.Drawn.TheVariants.{Got, Failed}
use Rattle.client_laws.specs.Turns.{Asks, Begins, Hears, IsTurn, Retries, Ticks, Turn, Works}

module _ {M W : Type 0} (ways : Ways) (gives : W → Drawn → W → Type 0) (c : ClientState M) where
  abbrev pub IsDrawnOr : ClientState M × Outbox → Type 0
  IsDrawnOr end = (end.1.undrawn ≡ false) ⊎ (end.0.copies ≡ c.copies)

  ended_drawn : (o : Option Acting) (back : Acting → ContextTable ℕ) → IsDrawnOr (ended_by o back c)
  ended_drawn None back = inr refl
  ended_drawn (Some a) back = inl refl

  step_drawn : (does : Acting) (back : Acting → ContextTable ℕ) (v w : W) (end : ClientState M × Outbox) → IsStep ways gives does back c v w end → IsDrawnOr end
  step_drawn does back v w end step = subst IsDrawnOr (sym step.is) (ended_drawn step.to back)

  same_drawn : (end told : ClientState M × Outbox) → end ≡ told → told.0.copies ≡ c.copies → IsDrawnOr end
  same_drawn end told is same = inr (ap (λ (e : ClientState M × Outbox). e.0.copies) is ∙ same)

  compound_drawn : (o : Result CbCompound ℕ) (now : ℕ) (side : Side) (call : Call) (v w : W) (end : ClientState M × Outbox) → IsCompound o ways gives now side call c v w end → IsDrawnOr end
  compound_drawn (Err at) now side call v w end step = same_drawn end _ step.0 refl
  compound_drawn (Ok compound) now side call v w end step = step_drawn _ _ v w end step

  created_drawn : (b : Bool) (second : ℕ) (side : Side) (call : Call) (end : ClientState M × Outbox) → end ≡ created b ways.means.mic second side call c → IsDrawnOr end
  created_drawn true second side call end is = same_drawn end _ is refl
  created_drawn false second side call end is = same_drawn end _ is refl

  inited_drawn : (b : Bool) (second : ℕ) (side : Side) (told : InitAnswer) (back : ContextTable ℕ) (end : ClientState M × Outbox) → end ≡ inited_unless b second side told back c
      → IsDrawnOr end
  inited_drawn true second side told back end is = same_drawn end _ is refl
  inited_drawn false second side told back end is = same_drawn end _ is refl

  what_drawn : (what : What) (now : ℕ) (side : Side) (call : Call) (v w : W) (end : ClientState M × Outbox) → IsWhat what ways gives now side call c v w end → IsDrawnOr end
  what_drawn (whats.Dropped why) now side call v w end step = same_drawn end _ step.0 refl
  what_drawn (whats.Denied why) now side call v w end step = same_drawn end _ step.0 refl
  what_drawn (whats.Failed failure) now side call v w end step = same_drawn end _ step.0 refl
  what_drawn whats.Null now side call v w end step = same_drawn end _ step.0 refl
  what_drawn (whats.Init token) now side call v w end step = inited_drawn step.told.draw_failed (second_at now c) side step.told step.back end step.is
  what_drawn (whats.Create name privilege) now side call v w end step = created_drawn (is_misspelt (privilege_told name privilege)) (second_at now c) side call end step.0
  what_drawn whats.Destroy now side call v w end step = same_drawn end _ step.0 refl
  what_drawn (whats.Compound args) now side call v w end step = compound_drawn (cb_compound_of args) now side call v w end step

  judged_drawn : (o : Judged) (side : Side) (message : List ℕ) (now : ℕ) (v w : W) (end : ClientState M × Outbox) → IsJudged o ways gives side message now c v w end → IsDrawnOr end
  judged_drawn judged.Unread side message now v w end step = same_drawn end _ step.0 refl
  judged_drawn judged.Reply side message now v w end step = step_drawn _ _ v w end step
  judged_drawn (judged.Call call) side message now v w end step = what_drawn call.what now side call v w end step

  pub heard_drawn : (side : Side) (message : List ℕ) (now : ℕ) (v w : W) (end : ClientState M × Outbox) → IsTurn ways gives (Hears side message now) c v w end → IsDrawnOr end
  heard_drawn side message now v w end step = judged_drawn (judged_of ways.means.mic (second_at now c) programs.CALLBACK message c.back) side message now v w end step

  begun_drawn : (drawn : Drawn) (j : ℕ) (spec : CopySpec) (now : ℕ) (v w : W) (end : ClientState M × Outbox) → IsBegunBy drawn ways gives j spec now c v w end → IsDrawnOr end
  begun_drawn (Got secret) j spec now v w end step = step_drawn _ _ v w end step
  begun_drawn Failed j spec now v w end step = same_drawn end _ step.0 refl

  pub turn_drawn : (turn : Turn) (v w : W) (end : ClientState M × Outbox) → IsTurn ways gives turn c v w end → IsDrawnOr end
  turn_drawn (Begins j spec now) v w end step = begun_drawn step.drawn j spec now step.middle w end step.is
  turn_drawn (Asks query j now) v w end step = subst IsDrawnOr (sym step.0) (inl refl)
  turn_drawn (Works side work now) v w end step = step_drawn _ _ v w end step
  turn_drawn (Ticks now) v w end step = subst IsDrawnOr (sym step.0) (inl refl)
  turn_drawn (Retries now) v w end step = subst IsDrawnOr (sym step.0) (inl refl)
  turn_drawn (Hears side message now) v w end step = heard_drawn side message now v w end step
