-- A list of calls on the opens of one opening of a server, and the numbers that it gives out.
use Rattle.std.specs.Prelude.{ℕ, ◌+◌, List, [], ◌∷◌, ◌++◌, Option, None, Some, if◌then◌else◌, nat_le, length}
use Rattle.nfs_base.specs.declared.limits.TheConstants.{MOST_OPENS}
use Rattle.state_ids.specs.declared.open_file.OpenFile.{OpenFile}
use Rattle.state_ids.specs.Opens.{OpenTable, same_open, open_table, closed, without_client}

abbrev pub no_opens : ℕ → OpenTable
no_opens boot = record { boot = boot; opens = []; numbers = 0; made = 0 }

-- a call that may change the table
pub data OpenCall : Type 0 where
  Opens : ℕ → List ℕ → ℕ → ℕ → OpenCall
  Closes : ℕ → OpenCall
  Ends : ℕ → OpenCall

abbrev pub after_call : OpenTable → OpenCall → OpenTable
after_call table (Opens client owner file access) = open_table table client owner file access
after_call table (Closes number) = closed number table
after_call table (Ends client) = without_client table client

-- the number of a new open, where a call makes one
abbrev pub given_at : Option OpenFile → OpenTable → List ℕ
given_at (Some o) table = []
given_at None table = if nat_le MOST_OPENS (length table.opens) then [] else (table.numbers + 1) ∷ []

abbrev pub given_by : OpenTable → OpenCall → List ℕ
given_by table (Opens client owner file access) = given_at (same_open table client owner file) table
given_by table _ = []

-- the numbers that the calls give to new opens, in their order
abbrev pub given : OpenTable → List OpenCall → List ℕ
given table [] = []
given table (call ∷ calls) = given_by table call ++ given (after_call table call) calls
