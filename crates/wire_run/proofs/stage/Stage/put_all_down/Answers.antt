use Rattle.std.specs.String.{string_bytes}
use Rattle.wire_run.proofs.Settled.{all_down}
use Rattle.wire_run.proofs.stage.Stage.put_all_down.Goals as goal

pub returns-clause-ok : goal.returns-clause-ok
returns-clause-ok g c =
    all_down c.keep_all.result c.args.ticked c.args.self.now c.keep_all.new.self (string_bytes c.args.text.now) (string_bytes c.put_all_notes.new.text) (string_bytes c.keep_all.new.text)
    c.in_ok-put_all_notes.ensures c.keep_all.ensures.log c.keep_all.ensures.lines c.keep_all.ensures.choices
