-- What a record does that comes from a server (RFC 5531 section 9): it is a reply to what is awaited there, or a call of the
-- client's callback program.
use Rattle.std.specs.Prelude.{ℕ, ◌≡◌, List}
use Rattle.copy_privs.specs.Told.{privilege_told}
use Rattle.nfs_base.specs.declared.side.Side.{Side}
use Rattle.nfs_compound.specs.Compounds.{cb_compound_of}
use Rattle.outbox.specs.declared.note.Dropped.TheVariants as dropped
use Rattle.outbox.specs.declared.outgoing.Outbox.{Outbox}
use Rattle.rpc_calls.specs.Judging.{judged_of}
use Rattle.rpc_calls.specs.declared.call.Call.{Call}
use Rattle.rpc_calls.specs.declared.call.Judged.{Judged}
use Rattle.rpc_calls.specs.declared.call.Judged.TheVariants as judged
use Rattle.rpc_calls.specs.declared.call.TheConstants.Program as programs
use Rattle.rpc_calls.specs.declared.call.What.{What}
use Rattle.rpc_calls.specs.declared.call.What.TheVariants as whats
use Rattle.streams.specs.declared.draws.Drawn.{Drawn}
use Rattle.client_steps.specs.Acting.{Acting}
use Rattle.client_steps.specs.Replies.{replied}
use Rattle.client_core.specs.Backs.{back_added, free_number}
use Rattle.client_core.specs.Callbacks.{IsCompound}
use Rattle.client_core.specs.Calls.{IsInit, call_dropped, created, denied, destroyed, dropping, failed, is_misspelt, nulled}
use Rattle.client_core.specs.Endings.{IsStep, Ways, acting_at}
use Rattle.client_core.specs.State.{ClientState, second_at}

-- ---- a reply; where it lets CREATE_SESSION go, a context for callbacks is made

abbrev pub heard : {M : Type 0} → Ways → Side → List ℕ → ℕ → ClientState M → Acting
heard ways side message now c =
    replied ways.means c.setting.me (free_number (second_at now c) c.back) side message (acting_at now c)

abbrev pub IsReply : {M W : Type 0} → Ways → (W → Drawn → W → Type 0) → Side → List ℕ → ℕ → ClientState M → W → W → ClientState M × Outbox → Type 0
IsReply ways gives side message now c before after end =
    IsStep ways gives (heard ways side message now c)
    (λ a. back_added ways.means.derived c.setting.me (second_at now c) a.desk.made c.back) c before after end

-- ---- a call, by what its context says of it

abbrev pub IsWhat : {M W : Type 0} → What → Ways → (W → Drawn → W → Type 0) → ℕ → Side → Call → ClientState M → W → W → ClientState M × Outbox → Type 0
IsWhat (whats.Dropped why) ways gives now side call c before after end =
    (end ≡ call_dropped (second_at now c) call why c) × (after ≡ before)
IsWhat (whats.Denied why) ways gives now side call c before after end =
    (end ≡ denied (second_at now c) side call why c) × (after ≡ before)
IsWhat (whats.Failed failure) ways gives now side call c before after end =
    (end ≡ failed ways.means.mic (second_at now c) side call failure c) × (after ≡ before)
IsWhat whats.Null ways gives now side call c before after end =
    (end ≡ nulled ways.means.mic (second_at now c) side call c) × (after ≡ before)
IsWhat (whats.Init token) ways gives now side call c before after end =
    IsInit ways.means.mic (ways.accepted token) gives (second_at now c) side call c before after end
IsWhat (whats.Create name privilege) ways gives now side call c before after end =
    (end ≡ created (is_misspelt (privilege_told name privilege)) ways.means.mic (second_at now c) side call c) × (after ≡ before)
IsWhat whats.Destroy ways gives now side call c before after end =
    (end ≡ destroyed ways.means.mic (second_at now c) side call c) × (after ≡ before)
IsWhat (whats.Compound args) ways gives now side call c before after end =
    IsCompound (cb_compound_of args) ways gives now side call c before after end

-- ---- a record

abbrev pub IsJudged : {M W : Type 0} → Judged → Ways → (W → Drawn → W → Type 0) → Side → List ℕ → ℕ → ClientState M → W → W → ClientState M × Outbox → Type 0
IsJudged judged.Unread ways gives side message now c before after end =
    (end ≡ dropping (second_at now c) c.back dropped.Unread c) × (after ≡ before)
IsJudged judged.Reply ways gives side message now c before after end = IsReply ways gives side message now c before after end
IsJudged (judged.Call call) ways gives side message now c before after end = IsWhat call.what ways gives now side call c before after end

abbrev pub IsRecord : {M W : Type 0} → Ways → (W → Drawn → W → Type 0) → Side → List ℕ → ℕ → ClientState M → W → W → ClientState M × Outbox → Type 0
IsRecord ways gives side message now c before after end =
    IsJudged (judged_of ways.means.mic (second_at now c) programs.CALLBACK message c.back) ways gives side message now c before after end
