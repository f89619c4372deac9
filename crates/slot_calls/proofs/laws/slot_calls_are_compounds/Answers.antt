use Rattle.slot_calls.specs.BytesLaws.{ops_are_bytes, tag_is_short}
use Rattle.slot_calls.specs.JudgedLaws.{call_fits, compound_asked, named_opens}
use Rattle.wire_spelling.specs.Slots.{ops_of}
use Rattle.slot_calls.proofs.laws.slot_calls_are_compounds.Goals as goal

pub returns-clause-asked : goal.returns-clause-asked
returns-clause-asked g c = compound_asked

pub returns-clause-named : goal.returns-clause-named
returns-clause-named g c = named_opens

pub returns-clause-fits : goal.returns-clause-fits
returns-clause-fits g c = call_fits

pub returns-clause-tag : goal.returns-clause-tag
returns-clause-tag g c bytes compound fits read = tag_is_short (ops_of bytes) compound (ops_are_bytes bytes fits) read
