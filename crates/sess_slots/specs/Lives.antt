-- The tables of one opening of a server under any list of calls.
use Rattle.std.specs.Prelude.{ℕ, Bool, List, [], ◌∷◌, Option}
use Rattle.sess_slots.specs.declared.answers.Back.{Back}
use Rattle.sess_slots.specs.declared.answers.Place.{Place}
use Rattle.sess_slots.specs.Table.{SessionTable}
use Rattle.sess_slots.specs.Begins.{finished}
use Rattle.sess_slots.specs.Clients.{exchange_table, create_table, destroy_table, reclaim_table, destroy_client_table}

abbrev pub no_clients : ℕ → SessionTable
no_clients boot = record { boot = boot; clients = []; sessions = []; clients_made = 0; sessions_made = 0 }

-- a call that may change the tables
pub data TableCall : Type 0 where
  Exchanges : List ℕ → List ℕ → List ℕ → ℕ → TableCall
  Creates : ℕ → ℕ → Bool → Option Back → TableCall
  Destroys : List ℕ → TableCall
  Finishes : Place → ℕ → List ℕ → ℕ → TableCall
  Reclaims : ℕ → TableCall
  EndsClient : ℕ → Bool → TableCall

abbrev pub after_one : SessionTable → TableCall → SessionTable
after_one table (Exchanges principal owner verifier now) = exchange_table table principal owner verifier now
after_one table (Creates client sequence asked back) = create_table table client sequence asked back
after_one table (Destroys id) = destroy_table table id
after_one table (Finishes place root reply now) = finished table place root reply now
after_one table (Reclaims client) = reclaim_table table client
after_one table (EndsClient client holds) = destroy_client_table table client holds

-- the tables after all of them
abbrev pub after_all : SessionTable → List TableCall → SessionTable
after_all table [] = table
after_all table (call ∷ calls) = after_all (after_one table call) calls
