use Rattle.desk_rows.proofs.running.run_with.Given as goal

abbrev pub ghosts-run_over-L-Ledger : goal.ghosts-run_over-L-Ledger
ghosts-run_over-L-Ledger g a = record { name = a.landed.name; parts = a.landed.parts }

abbrev pub ghosts-run_over-T-Ledger : goal.ghosts-run_over-T-Ledger
ghosts-run_over-T-Ledger g a = record { name = a.turns.name; parts = a.turns.parts }

abbrev pub ghosts-run_over-G-Ledger : goal.ghosts-run_over-G-Ledger
ghosts-run_over-G-Ledger g a = record { name = a.given.name; parts = a.given.parts }
