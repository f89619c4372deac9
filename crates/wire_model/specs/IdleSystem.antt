-- A system in which nothing happens. Own example.
use Rattle.std.specs.Prelude.{◌+◌, false, None, []}
use Rattle.copy_model.specs.Volume.{formatted}
use Rattle.copy_model.specs.Effect.{Rests}
use Rattle.wire_model.specs.Wire.{Caller}
use Rattle.wire_model.specs.Meaning.{Meaning}
use Rattle.wire_model.specs.Copies.{Job, Plain}
use Rattle.wire_model.specs.System.{System}
use Rattle.wire_model.specs.Examples.{idle, opened, unknown}

-- an operation that asks nothing, and a result that tells nothing
abbrev pub no_meaning : Meaning
no_meaning = record {
  reads = λ ops. None;
  data_in = λ results. None;
  asks_attributes = λ ops. None;
  size_in = λ results. None;
  change_in = λ results. None;
  copies = λ ops. None;
  name_in = λ results. None;
  asks_status = λ ops. None;
  says_complete = λ results. false;
  reports = λ ops name. false;
}

abbrev pub no_caller : Caller
no_caller = record unknown { ready = λ purpose. false }

abbrev pub no_job : Job
no_job = record {
  plan = record { src_file = 1; src_off = 0; dst_file = 1; dst_off = 0; count = 0; consecutive = false };
  entries = [];
  retired = false;
  lost = false;
  stable = false;
}

abbrev pub idle_system : System
idle_system = record {
  acts = λ e k. idle;
  server = λ e k. opened;
  caller = λ owner e k. no_caller;
  source = λ k. formatted 1 64;
  effect = λ k. Rests;
  dest = λ k. formatted 1 64;
  bare = λ k. formatted 1 64;
  deed = λ k. Plain Rests;
  made = λ k. 0;
  job = λ k j. no_job;
  reach = λ j. 0;
  holds = λ k worker. None;
  name = λ k j. record { boot = 1; number = j + 1 };
  word = λ k n. record { first = None; name = None; stable = false; exact = false };
  held = λ k name. false;
}
