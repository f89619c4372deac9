-- The answer to a CREATE gives its context: what is written is read back (RFC 7861 section 2.7).
use Rattle.std.proofs.Common.{◌≡◌, ℕ, ◌+◌, ◌<◌, ◌^◌, List, length, Option, Some, None, refl, ◌∙◌, ap, arith, lit<}
use Rattle.std.proofs.lemmas.Nat.{from_be_bytes-to_be_bytes_4}
use Rattle.wire_xdr.specs.All.{value_of}
use Rattle.wire_xdr.specs.AllLaws.{spelled_value}
use Rattle.wire_xdr.specs.Words.{word_bytes, opaque_bytes, fixed_bytes}
use Rattle.rpc_msg.specs.Heads.{call}
use Rattle.rpc_msg.specs.declared.call.CallHead.{CallHead}
use Rattle.gss_mech.specs.Tokens.{IsSized}
use Rattle.gss_ctx.specs.Forms.{create_result}
use Rattle.gss_ctx.specs.Seals.{Mic, sealed_reply}
use Rattle.gss_ctx.specs.Table.{boot_named, handle_of, number_named}
use Rattle.rpc_calls.specs.Making.{create_told}
use Rattle.wire_model.specs.Spelling.{Context}
use Rattle.wire_spelling.specs.ReadLaws.{sealed_results}
use Rattle.wire_spelling.specs.Replies.{context_given, context_in, results_of}

boot_back : (boot number : ℕ) → boot < 2 ^ 32 → boot_named (handle_of boot number) ≡ boot
unfolding word_bytes
boot_back boot number small = from_be_bytes-to_be_bytes_4 boot small

number_back : (boot number : ℕ) → number < 2 ^ 32 → number_named (handle_of boot number) ≡ number
unfolding word_bytes
number_back boot number small = from_be_bytes-to_be_bytes_4 number small

told_fits : (boot : ℕ) (made : Option ℕ) → create_result.Fits (create_told boot made)
unfolding create_result word_bytes
told_fits boot None = (omega arith, (lit< tt, lit< tt))
told_fits boot (Some number) = (omega arith, (lit< tt, lit< tt))

told_length : (boot : ℕ) (made : Option ℕ) → length (create_result.spell (create_told boot made)) + 4 < 4294967296
unfolding create_result word_bytes opaque_bytes fixed_bytes
told_length boot None = lit< tt
told_length boot (Some number) = lit< tt

told_back : (boot : ℕ) (made : Option ℕ) → value_of create_result (create_result.spell (create_told boot made)) ≡ Some (create_told boot made)
told_back boot made = spelled_value create_result (create_told boot made) (told_fits boot made)

-- the context of this number
abbrev pub context_numbered : (boot : ℕ) → Option ℕ → Option Context
context_numbered boot None = None
context_numbered boot (Some number) = Some (record { boot = boot; number = number })

abbrev IsSmall : Option ℕ → Type 0
IsSmall None = Unit {0}
IsSmall (Some number) = number < 2 ^ 32

given_back : (boot : ℕ) (made : Option ℕ) → boot < 2 ^ 32 → IsSmall made → context_given (Some (create_told boot made)) ≡ context_numbered boot made
given_back boot None small below = refl
given_back boot (Some number) small below =
    ap (λ (b : ℕ). Some (record { boot = b; number = number_named (handle_of boot number) })) (boot_back boot number small)
    ∙ ap (λ (n : ℕ). Some (record { boot = boot; number = n })) (number_back boot number below)

given_in : (boot : ℕ) (made : Option ℕ) (bytes : List ℕ) → boot < 2 ^ 32 → IsSmall made → results_of bytes ≡ create_result.spell (create_told boot made)
    → context_in bytes ≡ context_numbered boot made
given_in boot made bytes small below is =
    ap (λ (r : List ℕ). context_given (value_of create_result r)) is
    ∙ ap context_given (told_back boot made)
    ∙ given_back boot made small below

pub created_context : (mic : Mic) (key : List ℕ) (head : CallHead) (seq boot number : ℕ) → IsSized mic → call.Fits head → boot < 2 ^ 32 → number < 2 ^ 32
    → context_in (sealed_reply mic key head seq (create_result.spell (create_told boot (Some number)))) ≡ Some (record { boot = boot; number = number })
created_context mic key head seq boot number sized fits small below =
    given_in boot (Some number) (sealed_reply mic key head seq (create_result.spell (create_told boot (Some number)))) small below
    (sealed_results mic key head seq (create_result.spell (create_told boot (Some number))) sized fits (told_length boot (Some number)))

pub no_context_created : (mic : Mic) (key : List ℕ) (head : CallHead) (seq boot : ℕ) → IsSized mic → call.Fits head → boot < 2 ^ 32
    → context_in (sealed_reply mic key head seq (create_result.spell (create_told boot None))) ≡ None
no_context_created mic key head seq boot sized fits small =
    given_in boot None (sealed_reply mic key head seq (create_result.spell (create_told boot None))) small tt
    (sealed_results mic key head seq (create_result.spell (create_told boot None)) sized fits (told_length boot None))
