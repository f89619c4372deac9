-- A list of calls on the grants of one opening, and the numbers that it gives out.
use Rattle.std.specs.Prelude.{ℕ, ◌+◌, List, [], ◌∷◌, ◌++◌, if◌then◌else◌}
use Rattle.nfs_base.specs.declared.net_loc.NetLoc.{NetLoc}
use Rattle.copy_grants.specs.Grants.{GrantTable, is_full, notify_table, cancelled, expired}
use Rattle.copy_grants.specs.Permits.{used}

-- a call: what it asks, or what it comes to where it changes a table
pub data GrantCall : Type 0 where
  Notifies : ℕ → ℕ → NetLoc → List ℕ → List ℕ → GrantCall
  Uses : ℕ → ℕ → GrantCall
  Cancels : ℕ → GrantCall
  Expires : ℕ → GrantCall

abbrev pub after_call : GrantTable → GrantCall → GrantTable
after_call table (Notifies now file destination user secret) = notify_table table now file destination user secret
after_call table (Uses number now) = used number now table
after_call table (Cancels number) = cancelled number table
after_call table (Expires now) = expired now table

-- the number that a call gives out, if it does
abbrev pub given_by : GrantTable → GrantCall → List ℕ
given_by table (Notifies now file destination user secret) = if is_full table then [] else (table.made + 1) ∷ []
given_by table _ = []

-- the numbers that the calls give out, in their order
abbrev pub given : GrantTable → List GrantCall → List ℕ
given table [] = []
given table (call ∷ calls) = given_by table call ++ given (after_call table call) calls
