use Rattle.tell_laws.proofs.Tells.{tells_right}
use Rattle.tell_laws.proofs.telling.steps_tell_of_the_volume.Goals as goal

pub returns : goal.returns
returns g c mech failing conn bytes now s before after t step e fits executed =
    tells_right c.results_are_read_back.ensures c.written_bytes.ensures.read_length c.written_bytes.ensures.read c.compounds_are_spelled.ensures.found _ failing _ bytes step.are_bytes now s t e
    (c.steps_carry_compounds_out.ensures.told mech conn bytes now s before after t step e executed) fits
