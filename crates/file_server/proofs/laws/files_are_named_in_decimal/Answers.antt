use Rattle.file_server.proofs.NameLaws.{found_by_decimal, found_alone}
use Rattle.file_server.proofs.laws.files_are_named_in_decimal.Goals as goal

pub returns-clause-found : goal.returns-clause-found
returns-clause-found c = found_by_decimal

pub returns-clause-alone : goal.returns-clause-alone
returns-clause-alone c = found_alone
