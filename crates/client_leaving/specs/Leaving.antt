-- A client that takes leave of its servers, and its steps.
use Rattle.std.specs.Prelude.{ℕ, ◌≡◌, List}
use Rattle.mount.specs.Taking.{Means}
use Rattle.gss_ctx.specs.Seals.{Mic}
use Rattle.nfs_base.specs.declared.side.Side.{Side}
use Rattle.nfs_base.specs.declared.side.Side.TheVariants.{Source, Dest}
use Rattle.outbox.specs.declared.outgoing.Outbox.{Outbox}
use Rattle.rpc_calls.specs.Judging.{judged_of}
use Rattle.rpc_calls.specs.declared.call.Judged.{Judged}
use Rattle.rpc_calls.specs.declared.call.Judged.TheVariants as judged
use Rattle.rpc_calls.specs.declared.call.TheConstants.Program as programs
use Rattle.streams.specs.declared.draws.Drawn.{Drawn}
use Rattle.client_steps.specs.Acting.{Acting, with_desk}
use Rattle.client_steps.specs.Parting.{leave, parting_replied}
use Rattle.client_steps.specs.declared.desk.Desk.{Desk}
use Rattle.client_steps.specs.declared.parting.Parting.{Parting}
use Rattle.client_core.specs.Endings.{Ways, acting_at, desk_at, ended}
use Rattle.client_core.specs.Records as records
use Rattle.client_core.specs.State.{ClientState, second_at}
use Rattle.client_leaving.specs.declared.leaving.Leaving.{Leaving}

-- ---- what the servers were asked last, and a step's end with it

abbrev pub parting_at : {M : Type 0} → Side → Leaving M → Parting
parting_at Source l = l.source
parting_at Dest l = l.dest

abbrev pub with_parting : {M : Type 0} → Side → Parting → Leaving M → Leaving M
with_parting Source parting l = record l { source = parting }
with_parting Dest parting l = record l { dest = parting }

-- the leave goes on with this client, after this
abbrev pub left_by : {M : Type 0} → Parting → Parting → ClientState M × Outbox → Leaving M × Outbox
left_by source dest end = (record { client = end.0; source = source; dest = dest }, end.1)

-- ---- leave is taken: of the source, then of the destination

abbrev pub left_with : {M : Type 0} → Parting → Parting × Desk → ℕ → Leaving M → Leaving M × Outbox
left_with source dest now l = left_by source dest.0 (ended (with_desk dest.1 (acting_at now l.client)) l.client.back l.client)

abbrev pub left_from : {M : Type 0} → Mic → Parting × Desk → ℕ → Leaving M → Leaving M × Outbox
left_from mic source now l = left_with source.0 (leave mic Dest source.1) now l

abbrev pub farewell_step : {M : Type 0} → Mic → ℕ → Leaving M → Leaving M × Outbox
farewell_step mic now l = left_from mic (leave mic Source (desk_at now l.client)) now l

-- ---- a record: a reply lets the leave go on, and anything else is as for every client

abbrev pub replied_with : {M : Type 0} → Side → Parting → ClientState M × Outbox → Leaving M → Leaving M × Outbox
replied_with side parting end l = (with_parting side parting (record l { client = end.0 }), end.1)

abbrev pub replied_by : {M : Type 0} → Side → Parting × Acting → Leaving M → Leaving M × Outbox
replied_by side o l = replied_with side o.0 (ended o.1 l.client.back l.client) l

abbrev pub reply_step : {M : Type 0} → Means → Side → List ℕ → ℕ → Leaving M → Leaving M × Outbox
reply_step means side message now l = replied_by side (parting_replied means side message (parting_at side l) (acting_at now l.client)) l

pub record IsClients {M W : Type 0} (ways : Ways) (gives : W → Drawn → W → Type 0) (side : Side) (message : List ℕ) (now : ℕ) (l : Leaving M)
    (before after : W) (end : Leaving M × Outbox) : Type 0 where
  pub step : records.IsRecord ways gives side message now l.client before after (end.0.client, end.1)
  pub source : end.0.source ≡ l.source
  pub dest : end.0.dest ≡ l.dest

abbrev pub IsJudged : {M W : Type 0} → Judged → Ways → (W → Drawn → W → Type 0) → Side → List ℕ → ℕ → Leaving M → W → W → Leaving M × Outbox → Type 0
IsJudged judged.Reply ways gives side message now l before after end = (end ≡ reply_step ways.means side message now l) × (after ≡ before)
IsJudged judged.Unread ways gives side message now l before after end = IsClients ways gives side message now l before after end
IsJudged (judged.Call call) ways gives side message now l before after end = IsClients ways gives side message now l before after end

abbrev pub IsRecord : {M W : Type 0} → Ways → (W → Drawn → W → Type 0) → Side → List ℕ → ℕ → Leaving M → W → W → Leaving M × Outbox → Type 0
IsRecord ways gives side message now l before after end =
    IsJudged (judged_of ways.means.mic (second_at now l.client) programs.CALLBACK message l.client.back) ways gives side message now l before after end
