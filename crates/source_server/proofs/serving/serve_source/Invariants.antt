use Rattle.std.specs.Prelude.{Some}
use Rattle.source_server.proofs.serving.serve_source.Given as goal

abbrev pub ghosts-serve_all-L-Ledger : goal.ghosts-serve_all-L-Ledger
ghosts-serve_all-L-Ledger g a = record { name = a.blank.name; parts = a.blank.parts }

abbrev pub ghosts-serve_all-L-Origin : goal.ghosts-serve_all-L-Origin
ghosts-serve_all-L-Origin g a = record { origin = Some a.machine }
