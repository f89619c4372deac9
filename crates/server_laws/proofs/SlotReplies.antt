-- The reply to a COMPOUND that is carried out is sealed by its context, and its results are read back from it.
use Rattle.std.proofs.Common.{◌≡◌, ℕ, ◌+◌, ◌≤◌, List, ◌++◌, length, Option, Some, None, refl, ap, ◌∙◌, length-append, arith}
use Rattle.std.specs.Prelude.{option_map}
use Rattle.context_laws.specs.View.{root_at, root_in, root_number}
use Rattle.gss_ctx.specs.Seals.{Mic, reply_front, sealed_reply}
use Rattle.gss_ctx.specs.Table.{ContextTable, context_of, entry_of}
use Rattle.gss_ctx.specs.declared.admit.Verdict.{Verdict}
use Rattle.gss_ctx.specs.declared.context.Context.{Context}
use Rattle.gss_ctx.specs.declared.context.Entry.{Entry}
use Rattle.gss_mech.specs.Tokens.{IsSized}
use Rattle.gss_mech.specs.declared.mechanism.TheConstants.{ACCEPTOR}
use Rattle.rpc_calls.specs.Answers.{counted, counted_by, result_by, result_reply, result_with}
use Rattle.rpc_calls.specs.declared.call.Call.{Call}
use Rattle.rpc_calls.specs.declared.call.Under.{Under}
use Rattle.rpc_msg.specs.Heads as heads
use Rattle.rpc_msg.specs.declared.call.CallHead.{CallHead}
use Rattle.rpc_msg.specs.declared.records.TheConstants.{RECORD_LIMIT}
use Rattle.rpc_msg.specs.declared.reply.Stat.TheVariants.{Success}
use Rattle.slot_calls.specs.Asked.{IsAsked}
use Rattle.wire_spelling.specs.ReadLaws.{sealed_results}
use Rattle.wire_spelling.specs.Replies.{results_of}
use Rattle.wire_xdr.specs.LengthLaws.{opaque_length, word_length}
use Rattle.wire_xdr.specs.Words.{opaque_bytes, word_bytes}

-- a reply under a seal is longer than what it carries
sealed_longer : (mic : Mic) (key : List ℕ) (head : CallHead) (seq : ℕ) (body : List ℕ) → length body + 8 ≤ length (sealed_reply mic key head seq body)
unfolding sealed_reply
sealed_longer mic key head seq body =
    let payload = word_bytes seq ++ body in
    let code = mic key ACCEPTOR payload in
    omega (
      arith,
      length-append (reply_front mic key head seq Success) (opaque_bytes payload ++ opaque_bytes code),
      length-append (opaque_bytes payload) (opaque_bytes code),
      opaque_length payload,
      length-append (word_bytes seq) body,
      word_length seq,
    )

module _ {P : Type 0} (mic : Mic) (table : ContextTable P) (bytes args : List ℕ) (call : Call) (asked : IsAsked table bytes call args) (body : List ℕ) where
  pub reply_is : result_reply mic table call body ≡ sealed_reply mic asked.context.key call.head asked.seq body
  reply_is =
      ap (λ (u : Option Under). result_by mic table call.head body u) asked.under_is
      ∙ ap (λ found. result_with mic call.head asked.seq body found) asked.there

  pub results_are : IsSized mic → heads.call.Fits call.head → length (result_reply mic table call body) ≤ RECORD_LIMIT
      → results_of (result_reply mic table call body) ≡ body
  results_are sized fits short =
      let small : length body + 8 ≤ RECORD_LIMIT =
      omega (arith, short, ap (λ (xs : List ℕ). length xs) reply_is, sealed_longer mic asked.context.key call.head asked.seq body) in
      ap results_of reply_is ∙ sealed_results mic asked.context.key call.head asked.seq body sized fits (omega (arith, small))

-- the root of a context that is there
root_of_found : {P : Type 0} (number : ℕ) (found : Option (Entry P)) (context : Context P) → (λ (o : Option (Entry P)). option_map (λ (e : Entry P). e.context) o) found ≡ Some context
    → root_at number found ≡ Some (root_number context.parent number)
root_of_found number None context h = absurd cc
root_of_found number (Some e) context h =
    let same : e.context ≡ context = some_is e.context context h in
    ap (λ (c : Context _). Some (root_number c.parent number)) same
  where
    some_is : {A : Type 0} (a b : A) → Some a ≡ Some b → a ≡ b
    some_is a b same = cc

pub root_there : {P : Type 0} (table : ContextTable P) (number : ℕ) (context : Context P) → context_of number table.entries ≡ Some context
    → root_in table.entries number ≡ Some (root_number context.parent number)
root_there table number context there = root_of_found number (entry_of number table.entries) context there

counted_boot_by : {P : Type 0} (now : ℕ) (v : Option Verdict) (table : ContextTable P) → (counted_by now v table).boot ≡ table.boot
counted_boot_by now None table = refl
counted_boot_by now (Some v) table = refl

pub counted_boot : {P : Type 0} (now : ℕ) (call : Call) (table : ContextTable P) → (counted now call table).boot ≡ table.boot
counted_boot now call table = counted_boot_by now call.verdict table
