-- A step of a server: what a record is answered by, and what that leaves. RFC 5531 section 9, RFC 2203 section 5.3.3,
-- RFC 7861 section 2.7, RFC 8881 section 2.10.
use Rattle.std.specs.Prelude.{◌≡◌, ℕ, ◌+◌, false, Option, Some, None, Result, Ok, Err, List, [], ◌∷◌, max, replicate}
use Rattle.gss_ctx.specs.declared.context.Context.{Context}
use Rattle.gss_ctx.specs.Table.{ContextTable, context_of}
use Rattle.gss_mech.specs.declared.mechanism.Accepted.{Accepted}
use Rattle.nfs_base.specs.declared.seal.Seal.{Seal}
use Rattle.nfs_compound.specs.declared.compound.Compound.{Compound}
use Rattle.nfs_compound.specs.Compounds.{compound_of}
use Rattle.outbox.specs.Outboxes.{one_reply, silence}
use Rattle.outbox.specs.declared.label.CallLabel.{CallLabel}
use Rattle.outbox.specs.declared.label.CallLabel.TheVariants as calls
use Rattle.outbox.specs.declared.label.Label.{Label}
use Rattle.outbox.specs.declared.label.Label.TheVariants.{Reply}
use Rattle.outbox.specs.declared.note.Dropped.TheVariants.{Unread, Unmatched}
use Rattle.outbox.specs.declared.note.Note.{Note}
use Rattle.outbox.specs.declared.note.Note.TheVariants as notes
use Rattle.outbox.specs.declared.outgoing.Outgoing.{Outgoing}
use Rattle.outbox.specs.declared.outgoing.To.TheVariants.{Conn}
use Rattle.rpc_calls.specs.Answers.{accepted_seal, counted, denial_reply, ended, failure_reply, result_reply, seal_in}
use Rattle.rpc_calls.specs.Judging.{judged_of}
use Rattle.rpc_calls.specs.Making.{AnswersInit, create_answer, create_told, created, made_seal}
use Rattle.rpc_calls.specs.declared.call.Call.{Call}
use Rattle.rpc_calls.specs.declared.call.Judged.{Judged}
use Rattle.rpc_calls.specs.declared.call.Judged.TheVariants as judged
use Rattle.rpc_calls.specs.declared.call.TheConstants.Program as programs
use Rattle.rpc_calls.specs.declared.call.Under.{Under}
use Rattle.rpc_calls.specs.declared.call.What.{What}
use Rattle.rpc_calls.specs.declared.call.What.TheVariants as whats
use Rattle.rpc_calls.specs.declared.contexts.InitAnswer.{InitAnswer}
use Rattle.rpc_calls.specs.declared.numbers.TheConstants.{RPCSEC_GSS_PRIVILEGE_PROBLEM}
use Rattle.rpc_msg.specs.declared.reply.Denial.{Denial}
use Rattle.rpc_msg.specs.declared.reply.Denial.TheVariants.{Auth}
use Rattle.rpc_msg.specs.declared.reply.Stat.{Stat}
use Rattle.rpc_msg.specs.declared.reply.Stat.TheVariants.{Garbage}
use Rattle.server_volume.specs.Choices.{Choice, Agrees}
use Rattle.streams.specs.declared.draws.Drawn.{Drawn}
use Rattle.compound_server.specs.Compounds.{on_compound}
use Rattle.compound_server.specs.State.{Given, Parting, State, with_own}
use Rattle.compound_server.specs.declared.who.Who.{Who}
use Rattle.session_server.specs.declared.empty.Empty.{Empty}
use Rattle.session_server.specs.declared.empty.Empty.TheVariants as empties
use Rattle.session_server.specs.declared.extending.Judgement.{Judgement}
use Rattle.session_server.specs.declared.extending.Judgement.TheVariants as judgements
use Rattle.session_server.specs.Host.{Codes, HostState, Rules, Stepped}
use Rattle.session_server.specs.Labels.{compound_label, denial_label, drop_cause, fault_label, status_in}

-- ---- what a step leaves besides the contexts and what a compound does: the second and its effect, and the count

abbrev pub turned : {X C : Type 0} → (second : ℕ) → ContextTable C → State X → HostState X C → HostState X C
turned second contexts state s = record { contexts = contexts; state = state; second = second; steps = s.steps + 1 }

abbrev pub rested : {X C : Type 0} → Parting X → (second : ℕ) → ContextTable C → HostState X C → HostState X C
rested parting second contexts s = turned second contexts (with_own (parting.lapse second s.state.machine.extra) s.state) s

-- ---- records that are dropped

abbrev pub dropped : {X C : Type 0} → Parting X → (second : ℕ) → ContextTable C → Note → HostState X C → Stepped X C
dropped parting second contexts note s = record { host = rested parting second contexts s; out = silence note }

-- ---- answers that go back on the call's connection

abbrev pub going_back : (conn : ℕ) → (bytes : List ℕ) → Option Seal → Label → Outgoing
going_back conn bytes seal label = record { to = Conn conn; bytes = bytes; seal = seal; label = label }

abbrev pub answered : {X C : Type 0} → Parting X → (second : ℕ) → ContextTable C → Call → Outgoing → HostState X C → Stepped X C
answered parting second contexts call reply s =
    record { host = rested parting second contexts s; out = one_reply (accepted_seal s.contexts call) reply }

-- a denial carries no seal
abbrev pub denied : {X C : Type 0} → Parting X → (second conn : ℕ) → Call → Denial → HostState X C → Stepped X C
denied parting second conn call why s =
    answered parting second (counted second call s.contexts) call (going_back conn (denial_reply call.head.xid why) None (denial_label why)) s

-- nor does a failed call
abbrev pub failed : {X C : Type 0} → Parting X → Codes → (second conn : ℕ) → Call → Stat → HostState X C → Stepped X C
failed parting codes second conn call failure s =
    answered parting second (counted second call s.contexts) call
    (going_back conn (failure_reply codes.mic s.contexts call failure) None (fault_label failure)) s

-- a result is sealed where it is answered under a context
abbrev pub reply_seal : {C : Type 0} → ContextTable C → Option Under → Option Seal
reply_seal table None = None
reply_seal table (Some under) = Some (seal_in table under.number under.seq)

abbrev pub result_back : {C : Type 0} → Codes → ContextTable C → (conn : ℕ) → Call → (result : List ℕ) → Label → Outgoing
result_back codes table conn call result label = going_back conn (result_reply codes.mic table call result) (reply_seal table call.under) label

-- ---- NULL and DESTROY, which have no result

abbrev pub empty_call : Empty → CallLabel
empty_call empties.Null = calls.Null
empty_call empties.Destroy = calls.Destroy

-- DESTROY ends contexts
abbrev pub empty_leaves : {C : Type 0} → Empty → (second : ℕ) → Call → ContextTable C → ContextTable C
empty_leaves empties.Null second call table = counted second call table
empty_leaves empties.Destroy second call table = ended second call table

abbrev pub on_empty : {X C : Type 0} → Empty → Parting X → Codes → (second conn : ℕ) → Call → HostState X C → Stepped X C
on_empty empty parting codes second conn call s =
    answered parting second (empty_leaves empty second call s.contexts) call (result_back codes s.contexts conn call [] (Reply (empty_call empty) 0)) s

abbrev pub on_null : {X C : Type 0} → Parting X → Codes → (second conn : ℕ) → Call → HostState X C → Stepped X C
on_null parting codes second conn call s = on_empty empties.Null parting codes second conn call s

abbrev pub on_destroy : {X C : Type 0} → Parting X → Codes → (second conn : ℕ) → Call → HostState X C → Stepped X C
on_destroy parting codes second conn call s = on_empty empties.Destroy parting codes second conn call s

-- ---- CREATE, by what the server says of the privilege

abbrev pub granted : {X C : Type 0} → Parting X → Codes → (second conn : ℕ) → Call → C → HostState X C → Stepped X C
granted parting codes second conn call carry s =
    let made = created codes.derived second carry call s.contexts in
    answered parting second made.table call
    (going_back conn (create_answer codes.mic s.contexts call made.made).bytes (reply_seal s.contexts call.under)
    (Reply calls.Create (create_told s.contexts.boot made.made).major)) s

-- a refusal is told too
abbrev pub with_note : {X C : Type 0} → Note → Stepped X C → Stepped X C
with_note note t = record t { out = record t.out { notes = note ∷ [] } }

abbrev pub judged_create : {X C : Type 0} → Judgement C → Parting X → Codes → (second conn : ℕ) → Call → HostState X C → Stepped X C
judged_create (judgements.Granted carry) parting codes second conn call s = granted parting codes second conn call carry s
judged_create judgements.Misspelt parting codes second conn call s = failed parting codes second conn call Garbage s
judged_create (judgements.Refused cause) parting codes second conn call s =
    with_note (notes.Privilege cause) (denied parting second conn call (Auth RPCSEC_GSS_PRIVILEGE_PROBLEM) s)

-- it is under a context
abbrev pub judgement_under : {X C : Type 0} → Rules X C → (second : ℕ) → (name privilege : List ℕ) → HostState X C → Option Under → Judgement C
judgement_under rules second name privilege s None = judgements.Misspelt
judgement_under rules second name privilege s (Some under) =
    rules.judge second s.contexts under.number name privilege s.state.machine.extra

abbrev pub on_create : {X C : Type 0} → Rules X C → Codes → (second conn : ℕ) → Call → (name privilege : List ℕ) → HostState X C → Stepped X C
on_create rules codes second conn call name privilege s =
    judged_create (judgement_under rules second name privilege s call.under) rules.parting codes second conn call s

-- ---- INIT, by what the contexts say of the token

abbrev pub inited : {X C : Type 0} → Parting X → (second conn : ℕ) → InitAnswer → ContextTable C → HostState X C → Stepped X C
inited parting second conn told contexts s = record {
  host = rested parting second contexts s;
  out = record (one_reply None (going_back conn told.bytes (made_seal contexts told.made) (Reply calls.Init told.major))) { undrawn = told.draw_failed };
}

pub record IsInit {X C W : Type 0} (rules : Rules X C) (codes : Codes) (accepted : List ℕ → Option Accepted) (gives : W → Drawn → W → Type 0)
    (second conn : ℕ) (call : Call) (s : HostState X C) (before after : W) (t : Stepped X C) : Type 0 where
  pub told : InitAnswer
  pub contexts : ContextTable C
  pub answers : AnswersInit codes.mic accepted gives second call.head.xid (accepted (replicate 32 0)) s.contexts contexts before after told
  pub is : t ≡ inited rules.parting second conn told contexts s

-- ---- COMPOUND

abbrev pub root_number : Option ℕ → ℕ → ℕ
root_number None number = number
root_number (Some parent) number = parent

abbrev pub who_calls : {C : Type 0} → (second conn : ℕ) → Under → Context C → Who
who_calls second conn under context =
    record { context = under.number; root = root_number context.parent under.number; conn = conn; second = second }

-- a context that isn't there serves nobody
abbrev pub nothing_given : {X : Type 0} → State X → Given X
nothing_given state = record { state = state; used = []; body = [] }

abbrev pub given_by : {X C : Type 0} → Rules X C → Choice → (second conn : ℕ) → Under → Option (Context C) → Compound → State X → Given X
given_by rules choice second conn under None compound state = nothing_given state
given_by rules choice second conn under (Some context) compound state =
    on_compound rules.service rules.parting choice (who_calls second conn under context) context.principal context.carry compound state

abbrev pub compound_given : {X C : Type 0} → Rules X C → Choice → (second conn : ℕ) → Option Under → Compound → HostState X C → Given X
compound_given rules choice second conn None compound s = nothing_given s.state
compound_given rules choice second conn (Some under) compound s =
    given_by rules choice second conn under (context_of under.number s.contexts.entries) compound s.state

-- what it gives is sealed, and what the server tells of it is noted
abbrev pub compounded : {X C : Type 0} → Rules X C → Codes → (second conn : ℕ) → Call → Compound → HostState X C → Given X → Stepped X C
compounded rules codes second conn call compound s given = record {
  host = turned second (counted second call s.contexts) (with_own (rules.silent given.state.machine.extra) given.state) s;
  out = record {
    sent = result_back codes s.contexts conn call given.body (Reply (compound_label compound.ops) (status_in given.body)) ∷ [];
    notes = rules.tells given.state.machine.extra;
    accepted = accepted_seal s.contexts call;
    used = given.used;
    undrawn = false;
  };
}

-- At each choice that agrees with the calls on the volume that were made, this is the step.
abbrev pub IsCompoundTurn : {X C : Type 0} → Rules X C → Codes → (second conn : ℕ) → Call → Result Compound ℕ → HostState X C → Stepped X C → Type 0
IsCompoundTurn rules codes second conn call (Err at) s t = t ≡ failed rules.parting codes second conn call Garbage s
IsCompoundTurn rules codes second conn call (Ok compound) s t =
    (choice : Choice) → Agrees choice t.out.used
    → t ≡ compounded rules codes second conn call compound s (compound_given rules choice second conn call.under compound s)

-- ---- a call, and a record; only INIT draws

abbrev pub IsWhatTurn : {X C W : Type 0} → What → Rules X C → Codes → (List ℕ → List ℕ → Option Accepted) → (W → Drawn → W → Type 0)
    → (second conn : ℕ) → Call → HostState X C → W → W → Stepped X C → Type 0
IsWhatTurn (whats.Dropped why) rules codes accepted gives second conn call s before after t =
    (t ≡ dropped rules.parting second (counted second call s.contexts) (notes.Dropped (drop_cause why)) s) × (after ≡ before)
IsWhatTurn (whats.Denied why) rules codes accepted gives second conn call s before after t =
    (t ≡ denied rules.parting second conn call why s) × (after ≡ before)
IsWhatTurn (whats.Failed failure) rules codes accepted gives second conn call s before after t =
    (t ≡ failed rules.parting codes second conn call failure s) × (after ≡ before)
IsWhatTurn whats.Null rules codes accepted gives second conn call s before after t =
    (t ≡ on_null rules.parting codes second conn call s) × (after ≡ before)
IsWhatTurn (whats.Init token) rules codes accepted gives second conn call s before after t =
    IsInit rules codes (accepted token) gives second conn call s before after t
IsWhatTurn (whats.Create name privilege) rules codes accepted gives second conn call s before after t =
    (t ≡ on_create rules codes second conn call name privilege s) × (after ≡ before)
IsWhatTurn whats.Destroy rules codes accepted gives second conn call s before after t =
    (t ≡ on_destroy rules.parting codes second conn call s) × (after ≡ before)
IsWhatTurn (whats.Compound args) rules codes accepted gives second conn call s before after t =
    IsCompoundTurn rules codes second conn call (compound_of args) s t × (after ≡ before)

abbrev pub IsCallTurn : {X C W : Type 0} → Rules X C → Codes → (List ℕ → List ℕ → Option Accepted) → (W → Drawn → W → Type 0)
    → (second conn : ℕ) → Call → HostState X C → W → W → Stepped X C → Type 0
IsCallTurn rules codes accepted gives second conn call s before after t =
    IsWhatTurn call.what rules codes accepted gives second conn call s before after t

abbrev pub IsJudgedTurn : {X C W : Type 0} → Judged → Rules X C → Codes → (List ℕ → List ℕ → Option Accepted) → (W → Drawn → W → Type 0)
    → (second conn : ℕ) → HostState X C → W → W → Stepped X C → Type 0
IsJudgedTurn judged.Unread rules codes accepted gives second conn s before after t =
    (t ≡ dropped rules.parting second s.contexts (notes.Dropped Unread) s) × (after ≡ before)
IsJudgedTurn judged.Reply rules codes accepted gives second conn s before after t =
    (t ≡ dropped rules.parting second s.contexts (notes.Dropped Unmatched) s) × (after ≡ before)
IsJudgedTurn (judged.Call call) rules codes accepted gives second conn s before after t =
    IsCallTurn rules codes accepted gives second conn call s before after t

-- A record comes on a connection in a second; the server goes by the greatest that it was given.
abbrev pub IsTurn : {X C W : Type 0} → Rules X C → Codes → (List ℕ → List ℕ → Option Accepted) → (W → Drawn → W → Type 0)
    → (conn : ℕ) → (bytes : List ℕ) → (now : ℕ) → HostState X C → W → W → Stepped X C → Type 0
IsTurn rules codes accepted gives conn bytes now s before after t =
    IsJudgedTurn (judged_of codes.mic (max s.second now) programs.NFS bytes s.contexts) rules codes accepted gives (max s.second now) conn s before after t

-- a second comes by itself
abbrev pub ticked : {X C : Type 0} → Rules X C → (now : ℕ) → HostState X C → HostState X C
ticked rules now s = rested rules.parting (max s.second now) s.contexts s
