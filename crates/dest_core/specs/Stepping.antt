-- The steps of a destination besides those of every server: a worker's turn, a record of the source, a link that failed, a second
-- that comes by itself, and a client's reply. RFC 7862 sections 4.2, 4.10.1.2 and 16.1; workers are own.
use Rattle.std.specs.Prelude.{◌≡◌, ℕ, Bool, true, false, max, List, [], Option, None}
use Rattle.compound_server.specs.State.{with_own}
use Rattle.compound_server.specs.declared.server.Server.{Server}
use Rattle.dest_jobs.specs.declared.carried.Carried.{Carried}
use Rattle.dest_steps.specs.Copier.{Around, Codes}
use Rattle.dest_steps.specs.Failing.{failing, link_failed}
use Rattle.dest_steps.specs.Hearing.{heard_client, hearing_done}
use Rattle.dest_steps.specs.Landing.{Doing, Done}
use Rattle.dest_steps.specs.Replying.{IsHeard, effect_done}
use Rattle.dest_steps.specs.Ticking.{again, with_again}
use Rattle.dest_steps.specs.Turning.{IsTurnOf}
use Rattle.dest_steps.specs.Working.{turn_made}
use Rattle.dest_steps.specs.declared.copier.Copier.{Copier}
use Rattle.dest_steps.specs.declared.replying.Heard.{Heard}
use Rattle.dest_steps.specs.declared.turning.Turn.{Turn}
use Rattle.dest_steps.specs.declared.turning.Turn.TheVariants as turns
use Rattle.gss_ctx.specs.Seals.{Mic}
use Rattle.gss_mech.specs.declared.mechanism.Accepted.{Accepted}
use Rattle.nfs_base.specs.declared.seal.Seal.{Seal}
use Rattle.outbox.specs.declared.outgoing.Outgoing.{Outgoing}
use Rattle.rpc_calls.specs.Judging.{judged_of}
use Rattle.rpc_calls.specs.declared.call.Judged.{Judged}
use Rattle.rpc_calls.specs.declared.call.Judged.TheVariants as judged
use Rattle.rpc_calls.specs.declared.call.TheConstants.Program as programs
use Rattle.server_volume.specs.Choices.{Agrees, Choice}
use Rattle.server_volume.specs.declared.used.Used.{Used}
use Rattle.session_server.specs.Host as hosts
use Rattle.session_server.specs.Host.{HostState, Stepped}
use Rattle.session_server.specs.Steps.{IsJudgedTurn, ticked}
use Rattle.streams.specs.declared.draws.Drawn.{Drawn}
use Rattle.dest_core.specs.Core.{dest_rules, leases_ended}
use Rattle.dest_core.specs.Judging.{silent, tells}
use Rattle.dest_core.specs.declared.destination.Destination.{Destination}

abbrev pub DestState : Type 0 → Type 0
DestState M = HostState (Destination M) Carried

abbrev pub DestStep : Type 0 → Type 0
DestStep M = Stepped (Destination M) Carried

-- ---- its parts

abbrev pub copier_in : {M : Type 0} → DestState M → Copier
copier_in s = s.state.machine.extra.copier

abbrev pub with_copier : {M : Type 0} → Copier → DestState M → DestState M
with_copier c s = record s { state = with_own (record s.state.machine.extra { copier = c }) s.state }

-- what its jobs see of it in a second
abbrev pub around : {M : Type 0} → (second : ℕ) → DestState M → Around
around second s = record { sessions = s.state.sessions; boot = s.state.machine.store.volume.boot; tag = s.state.machine.store.tag; second = second }

-- the copies and the volume, with no call on it yet
abbrev pub doing_in : {M : Type 0} → DestState M → Doing
doing_in s = record { copier = copier_in s; store = s.state.machine.store; used = [] }

abbrev pub with_doing : {M : Type 0} → Doing → DestState M → DestState M
with_doing d s = let t = with_copier d.copier s in record t { state = record t.state { machine = record t.state.machine { store = d.store } } }

-- the same, of a server in code
abbrev pub put_extra : {D M : Type 0} → Destination M → Server D (Destination M) → Server D (Destination M)
put_extra extra server = let files = record server.files { extra = extra } in record server { files = files }

abbrev pub put_copier : {D M : Type 0} → Copier → Server D (Destination M) → Server D (Destination M)
put_copier c server = put_extra (record server.files.extra { copier = c }) server

abbrev pub around_in : {D M : Type 0} → (second : ℕ) → Server D (Destination M) → Around
around_in second server = record { sessions = server.sessions; boot = server.files.volume.volume.boot; tag = server.files.volume.tag; second = second }

-- ---- what every step does: the second comes, the step is counted, and what is to be told of it goes out

abbrev pub second_in : {M : Type 0} → (now : ℕ) → DestState M → DestState M
second_in now s = ticked dest_rules now s

-- the jobs end whose clients' leases have
abbrev pub without_lapsed : {M : Type 0} → DestState M → DestState M
without_lapsed s = record s { state = with_own (leases_ended s.state.sessions s.second s.state.machine.extra) s.state }

abbrev pub finished : {M : Type 0} → (sent : List Outgoing) → Option Seal → List Used → (undrawn : Bool) → DestState M → DestStep M
finished sent accepted used undrawn s = record {
  host = record s { state = with_own (silent s.state.machine.extra) s.state };
  out = record { sent = sent; notes = tells s.state.machine.extra; accepted = accepted; used = used; undrawn = undrawn };
}

abbrev pub finished_by : {M : Type 0} → Done → Option Seal → (undrawn : Bool) → DestState M → DestStep M
finished_by done accepted undrawn s = finished done.sent accepted done.doing.used undrawn (with_doing done.doing s)

-- ---- a worker's turn, once the leases have ended

abbrev pub is_undrawn : Turn → Bool
is_undrawn turns.Undrawn = true
is_undrawn _ = false

abbrev pub turn_taken : {M : Type 0} → Choice → (place : ℕ) → Turn → DestState M → DestStep M
turn_taken choice place turn s = finished_by (turn_made choice place turn (doing_in s)) None (is_undrawn turn) s

abbrev pub turn_step : {M : Type 0} → Choice → (place now : ℕ) → Turn → DestState M → DestStep M
turn_step choice place now turn s = turn_taken choice place turn (without_lapsed (second_in now s))

-- what is due is known before; a call has gone out by that, and a chunk is claimed
pub record IsWork {M W : Type 0} (gives : W → Drawn → W → Type 0) (started : List ℕ → List ℕ → Option (List ℕ)) (codes : Codes) (place now : ℕ) (s : DestState M) (before after : W) (t : DestStep M) : Type 0 where
  pub turn : Turn
  pub copier : Copier
  pub due : IsTurnOf gives started codes (around (max s.second now) s) place (copier_in s) before after (turn, copier)
  pub is : (choice : Choice) → Agrees choice t.out.used → t ≡ turn_step choice place now turn (with_copier copier s)

-- ---- a record of the source

abbrev pub effect_taken : {M : Type 0} → Choice → (place : ℕ) → Heard → DestState M → DestStep M
effect_taken choice place heard s = finished_by (effect_done choice place heard.effect (doing_in s)) heard.accepted false s

abbrev pub reply_step : {M : Type 0} → Choice → (place now : ℕ) → Heard → DestState M → DestStep M
reply_step choice place now heard s = effect_taken choice place heard (second_in now s)

pub record IsReply {M : Type 0} (codes : Codes) (finish : List ℕ → List ℕ → Option (List ℕ)) (place : ℕ) (message : List ℕ) (now : ℕ) (s : DestState M) (t : DestStep M) : Type 0 where
  pub heard : Heard
  pub copier : Copier
  pub is_heard : IsHeard codes finish (around (max s.second now) s) place message (copier_in s) heard copier
  pub is : (choice : Choice) → Agrees choice t.out.used → t ≡ reply_step choice place now heard (with_copier copier s)

-- ---- a worker's link failed

abbrev pub failure_taken : {M : Type 0} → Copier × List Outgoing → DestState M → DestStep M
failure_taken outcome s = finished outcome.1 None [] false (with_copier outcome.0 s)

abbrev pub failure_step : {M : Type 0} → Codes → (place : ℕ) → DestState M → DestStep M
failure_step codes place s =
    let t = second_in s.second s in
    failure_taken (link_failed place (failing codes (around s.second s) place (copier_in s)) (copier_in t)) t

-- ---- a second comes by itself: what was sent long enough ago goes out again, once the leases have ended

abbrev pub tick_step : {M : Type 0} → Codes → (now : ℕ) → DestState M → DestStep M
tick_step codes now s =
    let a = again codes (around (max s.second now) s) (copier_in s) in
    let t = without_lapsed (second_in now s) in
    finished a.sent None [] false (with_copier (with_again a (copier_in t)) t)

-- ---- a record on a connection: a reply is one to a callback, and else it is as at every server

abbrev pub answer_taken : {M : Type 0} → Copier × Option Seal → DestState M → DestStep M
answer_taken outcome s = finished [] outcome.1 [] false (with_copier outcome.0 s)

abbrev pub answer_step : {M : Type 0} → Mic → (message : List ℕ) → (now : ℕ) → DestState M → DestStep M
answer_step mic message now s =
    let boot = s.state.machine.store.volume.boot in
    let t = second_in now s in
    answer_taken (hearing_done boot (heard_client mic boot message (copier_in s)) (copier_in t)) t

pub record IsAnswer {M W : Type 0} (mic : Mic) (message : List ℕ) (now : ℕ) (s : DestState M) (before after : W) (t : DestStep M) : Type 0 where
  pub is : t ≡ answer_step mic message now s
  pub still : after ≡ before

abbrev pub IsRecordBy : {M W : Type 0} → Judged → hosts.Codes → (List ℕ → List ℕ → Option Accepted) → (W → Drawn → W → Type 0)
    → (conn : ℕ) → (message : List ℕ) → (now : ℕ) → DestState M → W → W → DestStep M → Type 0
IsRecordBy judged.Reply codes accepted gives conn message now s before after t = IsAnswer codes.mic message now s before after t
IsRecordBy judgement codes accepted gives conn message now s before after t =
    IsJudgedTurn judgement dest_rules codes accepted gives (max s.second now) conn s before after t

abbrev pub IsRecord : {M W : Type 0} → hosts.Codes → (List ℕ → List ℕ → Option Accepted) → (W → Drawn → W → Type 0)
    → (conn : ℕ) → (message : List ℕ) → (now : ℕ) → DestState M → W → W → DestStep M → Type 0
IsRecord codes accepted gives conn message now s before after t =
    IsRecordBy (judged_of codes.mic (max s.second now) programs.NFS message s.contexts) codes accepted gives conn message now s before after t
