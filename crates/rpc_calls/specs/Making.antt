-- How INIT and CREATE are answered, and what that leaves of the contexts (RFC 2203 section 5.2.3, RFC 7861 section 2.7).
use Rattle.std.specs.Prelude.{◌≡◌, ℕ, ◌+◌, ◌==◌, Bool, true, false, List, [], ◌++◌, if◌then◌else◌, Option, Some, None}
use Rattle.nfs_base.specs.declared.seal.Seal.{Seal}
use Rattle.streams.specs.declared.draws.Drawn.{Drawn}
use Rattle.rpc_msg.specs.Heads.{reply}
use Rattle.rpc_msg.specs.declared.auth.Auth.{Auth}
use Rattle.rpc_msg.specs.declared.reply.ReplyHead.TheVariants.{Accepted}
use Rattle.rpc_msg.specs.declared.reply.Stat.TheVariants.{Success}
use Rattle.gss_mech.specs.declared.mechanism.Accepted as mechanism
use Rattle.gss_ctx.specs.Calls.{none_auth}
use Rattle.gss_ctx.specs.Forms.{init_result, create_result}
use Rattle.gss_ctx.specs.Making.{Inits, child_context}
use Rattle.gss_ctx.specs.Seals.{Mic, code_auth}
use Rattle.gss_ctx.specs.Table.{ContextTable, context_of, handle_of, is_full, with_new}
use Rattle.gss_ctx.specs.declared.begin.InitResult.{InitResult}
use Rattle.gss_ctx.specs.declared.context.Context.{Context}
use Rattle.gss_ctx.specs.declared.create.CreateResult.{CreateResult}
use Rattle.gss_ctx.specs.declared.making.Inited.{Inited}
use Rattle.gss_ctx.specs.declared.making.Inited.TheVariants.{Made, Refused}
use Rattle.rpc_calls.specs.declared.call.Call.{Call}
use Rattle.rpc_calls.specs.declared.call.Under.{Under}
use Rattle.rpc_calls.specs.declared.children.CreateAnswer.{CreateAnswer}
use Rattle.rpc_calls.specs.declared.contexts.InitAnswer.{InitAnswer}
use Rattle.rpc_calls.specs.declared.numbers.TheConstants.{GSS_S_COMPLETE, GSS_S_DEFECTIVE_TOKEN, GSS_S_FAILURE, MINOR_BAD_TOKEN, MINOR_DRAW_FAILED, MINOR_FULL}
use Rattle.rpc_calls.specs.Answers.{counted, result_reply, seal_in}

-- ---- INIT

abbrev pub refused_major : ℕ → ℕ
refused_major minor = if minor == MINOR_BAD_TOKEN then GSS_S_DEFECTIVE_TOKEN else GSS_S_FAILURE

-- the verifier is the code of the window where a context was made, else empty and of flavor 0
abbrev pub init_verifier : Inited → Auth
init_verifier (Made handle window token verifier) = code_auth verifier
init_verifier (Refused minor) = none_auth

abbrev pub init_told : Inited → InitResult
init_told (Made handle window token verifier) = record { handle = handle; major = GSS_S_COMPLETE; minor = 0; window = window; token = token }
init_told (Refused minor) = record { handle = []; major = refused_major minor; minor = minor; window = 0; token = [] }

-- the context that was made, and whether a draw failed
abbrev pub init_made : ℕ → Inited → Option ℕ
init_made number (Made handle window token verifier) = Some number
init_made number (Refused minor) = None

abbrev pub has_failed_draw : Inited → Bool
has_failed_draw (Made handle window token verifier) = false
has_failed_draw (Refused minor) = minor == MINOR_DRAW_FAILED

abbrev pub init_reply : ℕ → Inited → List ℕ
init_reply xid answer = reply.spell (Accepted xid (init_verifier answer) Success) ++ init_result.spell (init_told answer)

abbrev pub init_answer : ℕ → ℕ → Inited → InitAnswer
init_answer xid number answer = record {
  bytes = init_reply xid answer;
  major = (init_told answer).major;
  made = init_made number answer;
  draw_failed = has_failed_draw answer;
}

-- What the contexts say of the token is told in the reply; the number is the next one.
pub record AnswersInit {P W : Type 0} (mic : Mic) (accepted : List ℕ → Option mechanism.Accepted) (gives : W → Drawn → W → Type 0) (now xid : ℕ)
    (first : Option mechanism.Accepted) (old new : ContextTable P) (before after : W) (told : InitAnswer) : Type 0 where
  pub answer : Inited
  pub inits : Inits mic accepted gives now first old new before after answer
  pub told_is : told ≡ init_answer xid (old.made + 1) answer

-- a reply that says of a context that was made is sealed by it, with number 0 (own)
abbrev pub made_seal : {P : Type 0} → ContextTable P → Option ℕ → Option Seal
made_seal table None = None
made_seal table (Some number) = Some (seal_in table number 0)

-- ---- CREATE

abbrev pub create_told : ℕ → Option ℕ → CreateResult
create_told boot None = record { handle = []; major = GSS_S_FAILURE; minor = MINOR_FULL }
create_told boot (Some number) = record { handle = handle_of boot number; major = GSS_S_COMPLETE; minor = 0 }

-- the contexts, and the number of the child, where there is room for one
pub record Created (P : Type 0) : Type 0 where
  pub table : ContextTable P
  pub made : Option ℕ

abbrev pub created_unless : {P : Type 0} → Bool → (List ℕ → ℕ → List ℕ → List ℕ) → ℕ → ℕ → P → Context P → ContextTable P → Created P
created_unless true derived now parent carry context table = record { table = table; made = None }
created_unless false derived now parent carry context table = record {
  table = with_new now (child_context derived (handle_of table.boot (table.made + 1)) parent context.principal context carry now) table;
  made = Some (table.made + 1);
}

abbrev pub created_of : {P : Type 0} → (List ℕ → ℕ → List ℕ → List ℕ) → ℕ → ℕ → P → Option (Context P) → ContextTable P → Created P
created_of derived now parent carry None table = record { table = table; made = None }
created_of derived now parent carry (Some context) table = created_unless (is_full now table.entries) derived now parent carry context table

abbrev pub created_by : {P : Type 0} → (List ℕ → ℕ → List ℕ → List ℕ) → ℕ → P → Option Under → ContextTable P → ContextTable P → Created P
created_by derived now carry None old table = record { table = table; made = None }
created_by derived now carry (Some under) old table = created_of derived now under.number carry (context_of under.number old.entries) table

-- the call is counted first
abbrev pub created : {P : Type 0} → (List ℕ → ℕ → List ℕ → List ℕ) → ℕ → P → Call → ContextTable P → Created P
created derived now carry call table = created_by derived now carry call.under table (counted now call table)

abbrev pub create_answer : {P : Type 0} → Mic → ContextTable P → Call → Option ℕ → CreateAnswer
create_answer mic table call made = record {
  bytes = result_reply mic table call (create_result.spell (create_told table.boot made));
  major = (create_told table.boot made).major;
  made = made;
}
