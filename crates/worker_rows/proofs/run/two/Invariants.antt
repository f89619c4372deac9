use Rattle.worker_rows.proofs.run.two.Given as goal

abbrev pub ghosts-work-L-Ledger : goal.ghosts-work-L-Ledger
ghosts-work-L-Ledger g a = record { name = a.landed.name; parts = a.landed.parts }

abbrev pub ghosts-work-T-Ledger : goal.ghosts-work-T-Ledger
ghosts-work-T-Ledger g a = record { name = a.turns.name; parts = a.turns.parts }

abbrev pub ghosts-work-G-Ledger : goal.ghosts-work-G-Ledger
ghosts-work-G-Ledger g a = record { name = a.given.name; parts = a.given.parts }
