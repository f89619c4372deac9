-- The parts of a step's end.
use Rattle.std.specs.Prelude.{Option, option_map}
use Rattle.nfs_base.specs.declared.side.Side.{Side}
use Rattle.nfs_base.specs.declared.side.Side.TheVariants.{Source, Dest}
use Rattle.write_queue.specs.Plan.{planned}
use Rattle.write_queue.specs.Queue.{queued}
use Rattle.write_queue.specs.declared.work.Work.{Work}
use Rattle.client_steps.specs.Acting.{Acting}
use Rattle.client_steps.specs.declared.acting.Course.{Course}
use Rattle.client_steps.specs.declared.desk.Desk.{Desk}
use Rattle.client_core.specs.Backs.{backs_ended}
use Rattle.client_core.specs.State.{ClientState}

-- what a step works on, over the queues of a client
abbrev pub course_of : {M : Type 0} → ClientState M → Course → Acting
course_of c course = record {
  desk = course.desk;
  source_queue = planned course.source_plan c.source_queue;
  dest_queue = planned course.dest_plan c.dest_queue;
}

abbrev pub went_of : {M : Type 0} → ClientState M → Option Course → Option Acting
went_of c to = option_map (course_of c) to

-- one more work is queued
abbrev pub with_pushed : {M : Type 0} → Side → Work → ClientState M → ClientState M
with_pushed Source work c = record c { source_queue = queued work c.source_queue }
with_pushed Dest work c = record c { dest_queue = queued work c.dest_queue }

-- the desk and the queues come in place, but for the count of steps
abbrev pub with_desk : {M : Type 0} → Desk → ClientState M → ClientState M
with_desk d c = record c {
  second = d.second;
  calls = d.calls;
  source = d.source;
  dest = d.dest;
  copies = d.copies;
  back = backs_ended d.ended c.back;
}

abbrev pub placed : {M : Type 0} → Acting → ClientState M → ClientState M
placed a c = record (with_desk a.desk c) { source_queue = a.source_queue; dest_queue = a.dest_queue }
