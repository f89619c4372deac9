-- What is asked of a destination's mount of the source, and of the numbers of its jobs, at every moment of a run. Own definitions.
use Rattle.std.specs.Prelude.{ℕ, ◌+◌, ◌<◌, ◌^◌, List}
use Rattle.dest_core.specs.Stepping.{copier_in}
use Rattle.dest_laws.specs.Landings.Posted as posted
use Rattle.dest_laws.specs.Names.Posts as posts
use Rattle.dest_laws.specs.View.View.{made_in}
use Rattle.run_ends.specs.Ends.{RunMachines, RunStep, RunWorld}
use Rattle.run_promise.specs.Dest.Moments.{host_at}
use Rattle.session_server.specs.Host.{Codes}
use Rattle.wire_model.specs.Meaning.{Meaning}
use Rattle.wire_model.specs.Spelling.{Spelling}

module _ {M : Type 0} (m : RunMachines M) (codes : Codes) (spell : Spelling) (meaning : Meaning) (first : RunWorld M) (steps : List (RunStep M)) where
  -- what it awaits in slots is spelled
  abbrev pub AreSpelled : Type 0
  AreSpelled = (k : ℕ) → posted.AreSpelled (copier_in (host_at m codes spell meaning first steps k)).work.mount

  -- no context of it is the client's
  abbrev pub AreNotClients : Type 0
  AreNotClients = (k : ℕ) → posts.AreNotClients (copier_in (host_at m codes spell meaning first steps k)).work.mount.contexts

  -- numbers of jobs have four bytes
  abbrev pub AreFewJobs : Type 0
  AreFewJobs = (k : ℕ) → made_in (host_at m codes spell meaning first steps k) + 1 < 2 ^ 32
