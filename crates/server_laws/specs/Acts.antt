-- What a server does in a step, as a wire sees it.
use Rattle.std.specs.Prelude.{ℕ, max, map, not, Bool, true, false, List, ◌∷◌, Option, Some, None, Result, Ok, Err}
use Rattle.context_laws.specs.View.{root_number}
use Rattle.gss_ctx.specs.Table.{ContextTable, context_of}
use Rattle.gss_ctx.specs.declared.context.Context.{Context}
use Rattle.nfs_compound.specs.Compounds.{compound_of}
use Rattle.nfs_compound.specs.declared.compound.Compound.{Compound}
use Rattle.outbox.specs.declared.outgoing.Outgoing.{Outgoing}
use Rattle.rpc_calls.specs.Judging.{judged_of}
use Rattle.rpc_calls.specs.declared.call.Judged.{Judged}
use Rattle.rpc_calls.specs.declared.call.Judged.TheVariants as judged
use Rattle.rpc_calls.specs.declared.call.TheConstants.Program as programs
use Rattle.rpc_calls.specs.declared.call.Under.{Under}
use Rattle.rpc_calls.specs.declared.call.What.{What}
use Rattle.rpc_calls.specs.declared.call.What.TheVariants as whats
use Rattle.sess_slots.specs.Table.{SessionTable}
use Rattle.session_server.specs.Host.{Codes, HostState, Stepped}
use Rattle.slot_laws.specs.Turns.{is_retry}
use Rattle.wire_model.specs.Wire.{Acts, Executed, Sent}
use Rattle.wire_spelling.specs.Replies.{results_of}
use Rattle.wire_spelling.specs.Slots.{ops_of}

-- ---- whether results are told in a step: a COMPOUND is admitted, and isn't a retry, which is answered as kept

abbrev pub tells_under : {C : Type 0} → (number : ℕ) → Option (Context C) → Compound → SessionTable → Bool
tells_under number None c sessions = false
tells_under number (Some context) c sessions = not (is_retry (root_number context.parent number) c sessions)

abbrev pub tells_for : {C : Type 0} → Option Under → ContextTable C → Compound → SessionTable → Bool
tells_for None contexts c sessions = false
tells_for (Some under) contexts c sessions = tells_under under.number (context_of under.number contexts.entries) c sessions

abbrev pub tells_read : {C : Type 0} → Option Under → ContextTable C → Result Compound ℕ → SessionTable → Bool
tells_read under contexts (Ok c) sessions = tells_for under contexts c sessions
tells_read under contexts (Err at) sessions = false

abbrev pub tells_what : {C : Type 0} → What → Option Under → ContextTable C → SessionTable → Bool
tells_what (whats.Compound args) under contexts sessions = tells_read under contexts (compound_of args) sessions
tells_what _ under contexts sessions = false

abbrev pub tells : {C : Type 0} → Judged → ContextTable C → SessionTable → Bool
tells (judged.Call call) contexts sessions = tells_what call.what call.under contexts sessions
tells _ contexts sessions = false

-- ---- what is seen

abbrev pub sent_of : Outgoing → Sent
sent_of reply = record { bytes = reply.bytes; seal = reply.seal }

-- the operations of a record, and the results that its reply spells
abbrev pub told : Bool → (call : List ℕ) → List Outgoing → Option Executed
told true call (reply ∷ replies) = Some (record { ops = ops_of call; results = results_of reply.bytes })
told _ call _ = None

-- a step in which a record is taken
abbrev pub acts_of : {X C : Type 0} → Codes → (bytes : List ℕ) → (now : ℕ) → HostState X C → Stepped X C → Acts
acts_of codes bytes now s t = record {
  took = Some bytes;
  accepted = t.out.accepted;
  executed = told (tells (judged_of codes.mic (max s.second now) programs.NFS bytes s.contexts) s.contexts s.state.sessions) bytes t.out.sent;
  out = map sent_of t.out.sent;
}
