-- The jobs of a destination's table as a history of a run lists them. Own definitions.
use Rattle.std.specs.Prelude.{List, map}
use Rattle.dest_laws.specs.View.View.{plan_seen}
use Rattle.job_table.specs.Table.{JobTable}
use Rattle.job_table.specs.declared.job.Job.{Job}
use Rattle.wire_machine.specs.History.{Listed}

abbrev pub listed_of : Job → Listed
listed_of job = record { number = job.number; plan = plan_seen job.plan; entries = job.log.entries }

abbrev pub listed_in : JobTable → List Listed
listed_in t = map listed_of t.jobs
