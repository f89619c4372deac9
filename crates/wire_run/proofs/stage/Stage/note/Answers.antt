use Rattle.wire_run.proofs.Stopping.{put_noted}
use Rattle.wire_run.proofs.stage.Stage.note.Goals as goal

pub returns : goal.returns
returns g c = put_noted c.args.side c.args.self.now c.at-stop.result c.behind.result c.args.used.now c.put.new.self c.at-stop.ensures c.behind.ensures c.put.ensures
