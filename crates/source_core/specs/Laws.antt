-- What an extension owes: a source gives numbers out by COPY_NOTIFY alone.
use Rattle.std.specs.Prelude.{◌≡◌, ℕ, ◌≤◌, Bool, true, false, if◌then◌else◌, Option, Some, None, refl}
use Rattle.std.proofs.Common.{subst, sym, ◌∙◌}
use Rattle.std.proofs.Math.Nat.{le_refl}
use Rattle.copy_grants.specs.Grants.{GrantTable}
use Rattle.copy_grants.specs.Permits.{Asked, permit_of, permit_refusal, permit_table, permit_table_of}
use Rattle.copy_grants.specs.declared.ask.Permit.{Permit}
use Rattle.copy_grants.specs.declared.ask.Permit.TheVariants.{Permitted, Denied}
use Rattle.file_server.specs.declared.extension.Ask.{Ask}
use Rattle.file_server.specs.declared.extension.Ask.TheVariants as asks
use Rattle.file_server.specs.declared.extension.Caller.{Caller}
use Rattle.file_server.specs.declared.extension.Gate.{Gate}
use Rattle.gss_ctx.specs.Seals.{Mic}
use Rattle.nfs_base.specs.declared.cause.Cause.{Cause}
use Rattle.source_core.specs.Asking.{asked_by, gated, is_of_grant, permitted, read_by_grant, read_by_open}
use Rattle.source_core.specs.Serving.{given}
use Rattle.source_core.specs.declared.carried.Carried.{Carried}
use Rattle.source_core.specs.declared.source.Source.{Source}

no_more : (m n : ℕ) → m ≡ n → m ≤ n
no_more m n same = subst (λ k. k ≤ n) (sym same) (le_refl n)

by_permit : {M : Type 0} (said : Permit) (x : Source M) → given (permitted said x).0 ≡ given x
by_permit Permitted x = refl
by_permit (Denied cause) x = refl

by_use : (why : Option Cause) (table : GrantTable) (number second : ℕ) → (permit_table_of why table number second).made ≡ table.made
by_use None table number second = refl
by_use (Some cause) table number second = refl

by_grant : {M : Type 0} (mic : Mic) (second : ℕ) (asked : Asked) (x : Source M) → given (read_by_grant mic second asked x).0 ≡ given x
by_grant mic second asked x =
    by_permit (permit_of (permit_refusal mic x.grants second asked)) (record x { grants = permit_table mic x.grants second asked })
    ∙ by_use (permit_refusal mic x.grants second asked) x.grants asked.id.number second

by_kind : {M : Type 0} (mic : Mic) (second : ℕ) (asked : Asked) (gate : Gate) (x : Source M) (kind : Bool)
    → given (if kind then read_by_grant mic second asked x else (x, gate)).0 ≡ given x
by_kind mic second asked gate x true = by_grant mic second asked x
by_kind mic second asked gate x false = refl

-- what an operation asks gives none out
pub gates_give_none : {M : Type 0} (mic : Mic) (x : Source M) (caller : Caller) (carry : Option Carried) (ask : Ask)
    → given (gated mic x caller carry ask).0 ≤ given x
gates_give_none mic x caller carry (asks.Operation op) = le_refl (given x)
gates_give_none mic x caller carry (asks.Attributes file) = le_refl (given x)
gates_give_none mic x caller carry (asks.Read file id) =
    no_more _ _ (by_kind mic caller.second (asked_by carry id file) (read_by_open carry) x (is_of_grant id))

-- nor does anything that leaves their number as it is
pub none_given : {M : Type 0} (x : Source M) → given x ≤ given x
none_given x = le_refl (given x)
