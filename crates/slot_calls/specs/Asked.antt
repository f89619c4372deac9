-- A COMPOUND that its context admitted (RFC 2203 section 5.3.3), as a server takes it and as a wire sees it.
use Rattle.std.specs.Prelude.{◌≡◌, ◌⊎◌, ℕ, List, Some}
use Rattle.gss_ctx.specs.declared.context.Context.{Context}
use Rattle.gss_ctx.specs.Table.{ContextTable, context_of}
use Rattle.nfs_compound.specs.Compounds.{compound_of}
use Rattle.rpc_calls.specs.Answers.{accepted_seal, seal_in}
use Rattle.rpc_calls.specs.declared.call.Call.{Call}
use Rattle.rpc_calls.specs.declared.call.What.{What}
use Rattle.rpc_calls.specs.declared.call.What.TheVariants as whats
use Rattle.wire_spelling.specs.Slots.{ops_of, slot_asked, slot_of}

-- It is accepted under the seal of its admission, by a context that is there; its arguments are the operations that a wire
-- sees, and the slot is that of their SEQUENCE.
pub record IsAsked {P : Type 0} (table : ContextTable P) (bytes : List ℕ) (call : Call) (args : List ℕ) : Type 0 where
  pub number : ℕ
  pub seq : ℕ
  pub under_is : call.under ≡ Some (record { number = number; seq = seq })
  pub accepted : accepted_seal table call ≡ Some (seal_in table number seq)
  pub context : Context P
  pub there : context_of number table.entries ≡ Some context
  pub ops_are : ops_of bytes ≡ args
  pub slot_is : slot_of bytes ≡ slot_asked (compound_of args)

-- it is dropped, denied or fails, so that no sealed reply answers it
abbrev pub IsUnsealed : What → Type 0
IsUnsealed (whats.Dropped why) = Unit {0}
IsUnsealed (whats.Denied why) = Unit {0}
IsUnsealed (whats.Failed failure) = Unit {0}
IsUnsealed _ = ⊥

-- what may become of a call that names a slot
abbrev pub IsOpen : What → Type 0
IsOpen what = IsUnsealed what ⊎ ((args : List ℕ) × (what ≡ whats.Compound args))
