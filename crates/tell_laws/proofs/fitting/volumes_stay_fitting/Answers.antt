use Rattle.tell_laws.proofs.StaysFitting.{came_few, came_fits, came_opening, crash_fits, fail_commit_fits, fits_words, formatted_fits, ran_few, ran_fits}
use Rattle.tell_laws.proofs.fitting.volumes_stay_fitting.Goals as goal

pub returns-clause-start : goal.returns-clause-start
returns-clause-start c files capacity small = formatted_fits files capacity small

pub returns-clause-step : goal.returns-clause-step
returns-clause-step c old new used ran off_root fits =
    ran_fits c.written_bytes.ensures.length c.written_files.ensures.written c.written_files.ensures.not_written c.written_files.ensures.committed
    c.written_files.ensures.not_committed old new used ran off_root fits

pub returns-clause-under : goal.returns-clause-under
returns-clause-under c v file off_root fits =
    fail_commit_fits c.written_bytes.ensures.length c.written_files.ensures.written c.written_files.ensures.not_written c.written_files.ensures.committed
    c.written_files.ensures.not_committed v file off_root fits

pub returns-clause-crash : goal.returns-clause-crash
returns-clause-crash c v kept next fits = crash_fits v fits kept next

pub returns-clause-words : goal.returns-clause-words
returns-clause-words c v fits = fits_words v fits

pub returns-clause-writes : goal.returns-clause-writes
returns-clause-writes c old new used ran few = ran_few old new used ran few

pub returns-clause-came : goal.returns-clause-came
returns-clause-came c old new used came off_root fits =
    came_fits c.written_bytes.ensures.length c.written_files.ensures.written c.written_files.ensures.not_written c.written_files.ensures.committed
    c.written_files.ensures.not_committed old new used came off_root fits

pub returns-clause-numbered : goal.returns-clause-numbered
returns-clause-numbered c old new used came few = came_few old new used came few

pub returns-clause-opening : goal.returns-clause-opening
returns-clause-opening c old new used came = came_opening old new used came
