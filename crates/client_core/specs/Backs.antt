-- The contexts under which the servers call back (RFC 8881 section 2.10.8.2): one goes with each CREATE_SESSION where there is
-- room for one, and ends with the setup.
use Rattle.std.specs.Prelude.{ℕ, ◌+◌, Bool, true, false, List, [], ◌∷◌, Option, Some, None}
use Rattle.gss_ctx.specs.Making.{callback_context}
use Rattle.gss_ctx.specs.Table.{ContextTable, destroyed, handle_of, is_full, with_new}

-- the number of the next one, where there is room for it
abbrev pub free_unless : Bool → ContextTable ℕ → Option ℕ
free_unless true table = None
free_unless false table = Some (table.made + 1)

abbrev pub free_number : ℕ → ContextTable ℕ → Option ℕ
free_number now table = free_unless (is_full now table.entries) table

-- one is made, with a key that is derived from the root context's
abbrev pub back_unless : Bool → (List ℕ → ℕ → List ℕ → List ℕ) → List ℕ → ℕ → List ℕ → ContextTable ℕ → ContextTable ℕ
back_unless true derived me now key table = table
back_unless false derived me now key table = with_new now (callback_context derived (handle_of table.boot (table.made + 1)) me key now) table

abbrev pub back_added : (List ℕ → ℕ → List ℕ → List ℕ) → List ℕ → ℕ → Option (List ℕ) → ContextTable ℕ → ContextTable ℕ
back_added derived me now None table = table
back_added derived me now (Some key) table = back_unless (is_full now table.entries) derived me now key table

-- those of setups that went down end
abbrev pub backs_ended : List ℕ → ContextTable ℕ → ContextTable ℕ
backs_ended [] table = table
backs_ended (number ∷ numbers) table = backs_ended numbers (destroyed number table)
