-- How a caller sets a server up: a context (RFC 2203 section 5.2), then EXCHANGE_ID, CREATE_SESSION and, where it is
-- asked for, RECLAIM_COMPLETE (RFC 8881 sections 18.35, 18.36 and 18.51), each once the one before it was answered OK.
use Rattle.std.specs.Prelude.{ℕ, ◌==◌, ◌||◌, Bool, true, false, if◌then◌else◌, take, Option, Some, None, List, [], ◌∷◌, Result, Ok, Err}
use Rattle.nfs_base.specs.declared.answer.Answer.{Answer}
use Rattle.nfs_base.specs.declared.answer.Answer.TheVariants.{Done, Refused}
use Rattle.nfs_base.specs.declared.status.Status.{Status}
use Rattle.nfs_base.specs.declared.status.TheConstants.Status.{COMPLETE_ALREADY}
use Rattle.file_ops.specs.declared.results.FileRes.{FileRes}
use Rattle.file_ops.specs.declared.results.FileRes.TheVariants as results
use Rattle.file_ops.specs.declared.sessions.CreateSessionDone.{CreateSessionDone}
use Rattle.file_ops.specs.declared.sessions.ExchangeIdDone.{ExchangeIdDone}
use Rattle.nfs_compound.specs.declared.res.Res.{Res}
use Rattle.nfs_compound.specs.declared.res.Res.TheVariants as answers
use Rattle.session_calls.specs.declared.sole_call.BackChannel.{BackChannel}
use Rattle.session_calls.specs.declared.sole_call.SoleCall.{SoleCall}
use Rattle.session_calls.specs.declared.sole_call.SoleCall.TheVariants.{ExchangeId, CreateSession}
use Rattle.session_client.specs.declared.setup.Setup.{Setup}
use Rattle.session_client.specs.declared.setup.Setup.TheVariants.{Down, Rooted, Registered, Joined, Up}

-- ---- what is sent next, alone in its compound

-- the verifier of EXCHANGE_ID is the front of the nonce with which the context was begun
abbrev pub rooted : List ℕ → Setup
rooted nonce = Rooted (take 8 nonce)

abbrev pub next_call : List ℕ → Option BackChannel → Setup → Option SoleCall
next_call principal back (Rooted verifier) = Some (ExchangeId verifier principal)
next_call principal back (Registered client sequence) = Some (CreateSession client sequence back)
next_call principal back _ = None

-- ---- what an answer gives

abbrev pub exchange_done : Answer ExchangeIdDone → Option (ℕ × ℕ)
exchange_done (Done done) = Some (done.client, done.sequence)
exchange_done (Refused status) = None

abbrev pub file_exchanged : FileRes → Option (ℕ × ℕ)
file_exchanged (results.ExchangeId answer) = exchange_done answer
file_exchanged _ = None

abbrev pub res_exchanged : Res → Option (ℕ × ℕ)
res_exchanged (answers.File res) = file_exchanged res
res_exchanged _ = None

-- the client's ID, and its next sequence
abbrev pub exchanged : List Res → Option (ℕ × ℕ)
exchanged [] = None
exchanged (res ∷ more) = res_exchanged res

abbrev pub create_done : Answer CreateSessionDone → Option (List ℕ)
create_done (Done done) = Some done.session
create_done (Refused status) = None

abbrev pub file_created : FileRes → Option (List ℕ)
file_created (results.CreateSession answer) = create_done answer
file_created _ = None

abbrev pub res_created : Res → Option (List ℕ)
res_created (answers.File res) = file_created res
res_created _ = None

-- the session's ID
abbrev pub created : List Res → Option (List ℕ)
created [] = None
created (res ∷ more) = res_created res

-- ---- what an answer leaves: the next step, or the status with which the setup goes down

abbrev pub registered : Status → Option (ℕ × ℕ) → Result Setup Status
registered status None = Err status
registered status (Some client) = Ok (Registered client.0 client.1)

abbrev pub with_session : Bool → ℕ → List ℕ → Setup
with_session true client session = Joined client session
with_session false client session = Up client session

abbrev pub joined : Bool → ℕ → Status → Option (List ℕ) → Result Setup Status
joined reclaims client status None = Err status
joined reclaims client status (Some session) = Ok (with_session reclaims client session)

-- that reclaiming was said to be complete before does no harm
abbrev pub reclaimed : Setup → Status → Result Setup Status
reclaimed up status = if (status.number == 0) || (status.number == COMPLETE_ALREADY.number) then Ok up else Err status

unfoldable pub after_answer : Bool → Status → List Res → Setup → Result Setup Status
after_answer reclaims status told (Rooted verifier) = registered status (exchanged told)
after_answer reclaims status told (Registered client sequence) = joined reclaims client status (created told)
after_answer reclaims status told (Joined client session) = reclaimed (Up client session) status
after_answer reclaims status told Down = Ok Down
after_answer reclaims status told (Up client session) = Ok (Up client session)
