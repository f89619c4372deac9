use Rattle.std.proofs.Common.{rules, refl}
use Rattle.wire_run.proofs.Logs.{grows_none}
use Rattle.wire_run.proofs.stage.Stage.count.Goals as goal

pub returns-in_err-push-clause-keeps : goal.returns-in_err-push-clause-keeps
returns-in_err-push-clause-keeps g c = record {
  source = refl;
  dest = refl;
  client = refl;
  draws = refl;
  clock = refl;
  flowed = refl;
  stops = refl;
  log = grows_none c.args.self.now.log;
  bytes = c.requires;
  choices = search rules;
}

pub returns-clause-keeps : goal.returns-clause-keeps
returns-clause-keeps g c = record {
  source = refl;
  dest = refl;
  client = refl;
  draws = refl;
  clock = refl;
  flowed = refl;
  stops = refl;
  log = grows_none c.args.self.now.log;
  bytes = c.requires;
  choices = search rules;
}
