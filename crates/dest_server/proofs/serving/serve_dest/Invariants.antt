use Rattle.std.specs.Prelude.{Some}
use Rattle.dest_server.proofs.serving.serve_dest.Given as goal

abbrev pub ghosts-serve_all-Q-Ledger : goal.ghosts-serve_all-Q-Ledger
ghosts-serve_all-Q-Ledger g a = record { name = a.calls.name; parts = a.calls.parts }

abbrev pub ghosts-serve_all-Q-Origin : goal.ghosts-serve_all-Q-Origin
ghosts-serve_all-Q-Origin g a = record { origin = Some a.core }

abbrev pub ghosts-serve_all-B-Ledger : goal.ghosts-serve_all-B-Ledger
ghosts-serve_all-B-Ledger g a = record { name = a.own.name; parts = a.own.parts }

abbrev pub ghosts-serve_all-L-Ledger : goal.ghosts-serve_all-L-Ledger
ghosts-serve_all-L-Ledger g a = record { name = a.landed.name; parts = a.landed.parts }

abbrev pub ghosts-serve_all-E-Ledger : goal.ghosts-serve_all-E-Ledger
ghosts-serve_all-E-Ledger g a = record { name = a.turns.name; parts = a.turns.parts }

abbrev pub ghosts-serve_all-G-Ledger : goal.ghosts-serve_all-G-Ledger
ghosts-serve_all-G-Ledger g a = record { name = a.given.name; parts = a.given.parts }
