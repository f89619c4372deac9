use Rattle.slot_laws.specs.CompoundLaws.{compound_turns}
use Rattle.slot_laws.specs.EffectLaws.{turns_below, turns_few, turns_sound}
use Rattle.slot_laws.specs.Turns.{is_retry}
use Rattle.slot_laws.proofs.laws.sessions_are_sound.Goals as goal

pub returns-clause-sound : goal.returns-clause-sound
returns-clause-sound g c gate serve parting choice who principal carry compound s sound =
    turns_sound (is_retry who.root compound s.sessions) who.root compound.tag compound.ops s.sessions _ _ sound
    (compound_turns (record { gate = gate; serve = serve }) parting choice who principal carry compound s sound)

pub returns-clause-few : goal.returns-clause-few
returns-clause-few g c gate serve parting choice who principal carry compound s sound =
    turns_few (is_retry who.root compound s.sessions) who.root compound.tag compound.ops s.sessions _ _
    (compound_turns (record { gate = gate; serve = serve }) parting choice who principal carry compound s sound)

pub returns-clause-below : goal.returns-clause-below
returns-clause-below g c gate serve parting choice who principal carry compound s sound =
    turns_below (is_retry who.root compound s.sessions) who.root compound.tag compound.ops s.sessions _ _ sound
    (compound_turns (record { gate = gate; serve = serve }) parting choice who principal carry compound s sound)
