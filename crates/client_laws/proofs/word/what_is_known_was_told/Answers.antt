use Rattle.std.proofs.Common.{sym, ◌∙◌}
use Rattle.client_laws.proofs.Known.{first_by, id_by}
use Rattle.client_laws.proofs.word.what_is_known_was_told.Goals as goal

pub returns : goal.returns
returns g c = record {
  first = λ ways turn before after out t j copy known is first. first_by _ known _ _ copy (t.each j).caused (sym is ∙ (t.each j).copy) first;
  name = λ ways turn before after out t j copy id is name. id_by _ id _ _ copy (t.each j).caused (sym is ∙ (t.each j).copy) name;
}
