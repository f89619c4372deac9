use Rattle.copy_model.proofs.Entries.{any_keeps, any_cases, any_new, any_other, size_kept, size_same, size_first}
use Rattle.copy_model.proofs.Sound.{sound_none, sound_push, len_grows, len_fixed, same_len, size_rises}
use Rattle.copy_model.proofs.logs.logs_grow.Goals as goal

pub returns-clause-sound_none : goal.returns-clause-sound_none
returns-clause-sound_none c = sound_none

pub returns-clause-sound : goal.returns-clause-sound
returns-clause-sound c = sound_push

pub returns-clause-grows : goal.returns-clause-grows
returns-clause-grows c = len_grows

pub returns-clause-fixed : goal.returns-clause-fixed
returns-clause-fixed c = len_fixed

pub returns-clause-size : goal.returns-clause-size
returns-clause-size c = size_rises

pub returns-clause-stays : goal.returns-clause-stays
returns-clause-stays c = any_keeps

pub returns-clause-rises : goal.returns-clause-rises
returns-clause-rises c = any_cases

pub returns-clause-adds : goal.returns-clause-adds
returns-clause-adds c = any_new

pub returns-clause-len : goal.returns-clause-len
returns-clause-len c = same_len

pub returns-clause-same : goal.returns-clause-same
returns-clause-same c = size_same

pub returns-clause-first : goal.returns-clause-first
returns-clause-first c = size_first

pub returns-clause-fails : goal.returns-clause-fails
returns-clause-fails c = any_other

pub returns-clause-sized : goal.returns-clause-sized
returns-clause-sized c = size_kept
