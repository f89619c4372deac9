use Rattle.std.proofs.Common.{inl, refl, rules}
use Rattle.std.proofs.KnownBytes.{Keeps-refl}
use Rattle.linked_copy.specs.declared.ends.CopyEnd.TheVariants.{NoMemory}
use Rattle.port_commands.proofs.copying.copy.Goals as goal

pub returns-in_default-clause-ends : goal.returns-in_default-clause-ends
returns-in_default-clause-ends g c = record {
  end = NoMemory;
  is = search rules;
  says = (Keeps-refl _, inl refl);
}
