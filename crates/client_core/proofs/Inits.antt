-- What INIT leaves of a client.
use Rattle.std.proofs.Common.{◌≡◌, ℕ, ◌+◌, refl, replicate, subst, true, false, List}
use Rattle.std.specs.Prelude.{Option, None}
use Rattle.client_steps.specs.Desks.{going}
use Rattle.gss_ctx.specs.Seals.{Mic}
use Rattle.gss_ctx.specs.Table.{ContextTable}
use Rattle.gss_mech.specs.declared.mechanism.Accepted.{Accepted}
use Rattle.nfs_base.specs.declared.side.Side.{Side}
use Rattle.outbox.specs.Outboxes.{one_reply, undrawn_outbox}
use Rattle.outbox.specs.declared.label.CallLabel.TheVariants as calls
use Rattle.outbox.specs.declared.label.Label.TheVariants as labels
use Rattle.outbox.specs.declared.outgoing.Outbox.{Outbox}
use Rattle.rpc_calls.specs.Making.{AnswersInit, made_seal}
use Rattle.rpc_calls.specs.declared.call.Call.{Call}
use Rattle.rpc_calls.specs.declared.contexts.InitAnswer.{InitAnswer}
use Rattle.streams.specs.declared.draws.Drawn.{Drawn}
use Rattle.client_core.specs.Calls.{IsInit}
use Rattle.client_core.specs.State.{ClientState}
use Rattle.client_core.proofs.Made.{init_same}

-- where the draw failed, nothing but the count of steps
pub init_undrawn : {M W : Type 0} (mic : Mic) (accepted : M → List ℕ → List ℕ → Option Accepted) (gives : W → Drawn → W → Type 0) (second : ℕ)
    (side : Side) (call : Call) (token : List ℕ) (w c new : ClientState M) (before after : W) (told : InitAnswer) (back : ContextTable ℕ) (out : Outbox)
    → w ≡ c
    → AnswersInit mic (accepted w.setting.mech token) gives second call.head.xid (accepted w.setting.mech token (replicate 32 0)) w.back back before after told
    → told.draw_failed ≡ true → new ≡ record w { back = back; steps = w.steps + 1 } → out ≡ undrawn_outbox
    → IsInit mic (accepted c.setting.mech token) gives second side call c before after (new, out)
init_undrawn {M} mic accepted gives second side call token w c new before after told back out same answers failed new_is out_is =
    subst (λ (x : ClientState M). IsInit mic (accepted x.setting.mech token) gives second side call x before after (new, out)) same (record {
      told = told;
      back = back;
      answers = answers;
      is =
          let still : back ≡ w.back =
          init_same mic (accepted w.setting.mech token) gives second call.head.xid (accepted w.setting.mech token (replicate 32 0)) w.back back before after told
          answers failed in rw failed (rw new_is (rw out_is (rw still refl)));
    })

-- else the answer goes back
pub init_answered : {M W : Type 0} (mic : Mic) (accepted : M → List ℕ → List ℕ → Option Accepted) (gives : W → Drawn → W → Type 0) (second : ℕ)
    (side : Side) (call : Call) (token : List ℕ) (w c new : ClientState M) (before after : W) (told : InitAnswer) (back : ContextTable ℕ) (out : Outbox)
    → w ≡ c
    → AnswersInit mic (accepted w.setting.mech token) gives second call.head.xid (accepted w.setting.mech token (replicate 32 0)) w.back back before after told
    → told.draw_failed ≡ false → new ≡ record w { second = second; back = back; steps = w.steps + 1 }
    → out ≡ one_reply None (going side told.bytes (made_seal back told.made) (labels.Reply calls.Init told.major))
    → IsInit mic (accepted c.setting.mech token) gives second side call c before after (new, out)
init_answered {M} mic accepted gives second side call token w c new before after told back out same answers drawn new_is out_is =
    subst (λ (x : ClientState M). IsInit mic (accepted x.setting.mech token) gives second side call x before after (new, out)) same (record {
      told = told;
      back = back;
      answers = answers;
      is = rw drawn (rw new_is (rw out_is refl));
    })
