use Rattle.std.specs.Prelude.{Some}
use Rattle.link_rows.proofs.run.run.Given as goal

abbrev pub ghosts-run_by-C-Ledger : goal.ghosts-run_by-C-Ledger
ghosts-run_by-C-Ledger g a = record { name = a.blank.name; parts = a.blank.parts }

abbrev pub ghosts-run_by-C-Origin : goal.ghosts-run_by-C-Origin
ghosts-run_by-C-Origin g a = record { origin = Some a.toy }
