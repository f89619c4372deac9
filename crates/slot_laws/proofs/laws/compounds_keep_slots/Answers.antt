use Rattle.slot_laws.specs.CompoundLaws.{compound_turns}
use Rattle.slot_laws.specs.EffectLaws.{turns_again, turns_kept, turns_last, turns_once}
use Rattle.slot_laws.specs.Turns.{is_retry}
use Rattle.slot_laws.proofs.laws.compounds_keep_slots.Goals as goal

pub returns-clause-turns : goal.returns-clause-turns
returns-clause-turns g c gate serve parting choice who principal carry compound s sound =
    compound_turns (record { gate = gate; serve = serve }) parting choice who principal carry compound s sound

pub returns-clause-kept : goal.returns-clause-kept
returns-clause-kept g c gate serve parting choice who principal carry compound s sound =
    turns_kept (is_retry who.root compound s.sessions) who.root compound.tag compound.ops s.sessions _ _ sound
    (compound_turns (record { gate = gate; serve = serve }) parting choice who principal carry compound s sound)

pub returns-clause-retry : goal.returns-clause-retry
returns-clause-retry g c gate serve parting choice who principal carry compound s sound =
    turns_again (is_retry who.root compound s.sessions) who.root compound.tag compound.ops s.sessions _ _ sound
    (compound_turns (record { gate = gate; serve = serve }) parting choice who principal carry compound s sound)

pub returns-clause-once : goal.returns-clause-once
returns-clause-once g c gate serve parting choice who principal carry compound s sound =
    turns_once (is_retry who.root compound s.sessions) who.root compound.tag compound.ops s.sessions _ _ sound
    (compound_turns (record { gate = gate; serve = serve }) parting choice who principal carry compound s sound)

pub returns-clause-last : goal.returns-clause-last
returns-clause-last g c gate serve parting choice who principal carry compound s sound =
    turns_last (is_retry who.root compound s.sessions) who.root compound.tag compound.ops s.sessions _ _ sound
    (compound_turns (record { gate = gate; serve = serve }) parting choice who principal carry compound s sound)
