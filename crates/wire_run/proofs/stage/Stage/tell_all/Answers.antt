use Rattle.std.proofs.Common.{List, arith, ap, length}
use Rattle.std.specs.String.{string_bytes}
use Rattle.wire_log.specs.Keeping.{sent_bytes}
use Rattle.wire_machine.specs.World.{Posted, bytes_of}
use Rattle.wire_run.specs.declared.stage.Acted.{Acted}
use Rattle.wire_run.proofs.Settled.{all_told, posted_bytes, told_number}
use Rattle.wire_run.proofs.stage.Stage.tell_all.Goals as goal

pub tell-requires-2-clause-bytes : goal.tell-requires-2-clause-bytes
tell-requires-2-clause-bytes g c =
    omega (
      arith,
      ap (λ (l : List Posted). bytes_of l) c.in_ok-tell.ensures.log,
      posted_bytes c.resting.result c.args.self.now,
      ap (λ (a : Acted). sent_bytes a.out.sent) c.resting.ensures,
      ap (λ (a : Acted). sent_bytes a.out.sent) c.resting-2.ensures,
      c.requires,
    )

pub tell-requires-3-clause-bytes : goal.tell-requires-3-clause-bytes
tell-requires-3-clause-bytes g c =
    omega (
      arith,
      ap (λ (l : List Posted). bytes_of l) c.in_ok-tell.ensures.log,
      posted_bytes c.resting.result c.args.self.now,
      ap (λ (l : List Posted). bytes_of l) c.in_ok-tell-2.ensures.log,
      posted_bytes c.resting-2.result c.tell.new.self,
      ap (λ (a : Acted). sent_bytes a.out.sent) c.resting.ensures,
      ap (λ (a : Acted). sent_bytes a.out.sent) c.resting-2.ensures,
      ap (λ (a : Acted). sent_bytes a.out.sent) c.resting-3.ensures,
      c.requires,
    )

pub returns-clause-lines : goal.returns-clause-lines
returns-clause-lines g c =
    all_told c.tell-3.result c.args.ticked (length c.args.self.now.log) (length c.tell.new.self.log) (length c.tell-2.new.self.log)
    c.resting.result c.resting-2.result c.resting-3.result
    (string_bytes c.args.text.now) (string_bytes c.tell.new.text) (string_bytes c.tell-2.new.text) (string_bytes c.tell-3.new.text)
    c.resting.ensures c.resting-2.ensures c.resting-3.ensures
    c.in_ok-tell.ensures.lines c.in_ok-tell-2.ensures.lines c.tell-3.ensures.lines
    (told_number c.resting.result c.args.self.now c.tell.new.self.log c.in_ok-tell.ensures.log)
    (told_number c.resting-2.result c.tell.new.self c.tell-2.new.self.log c.in_ok-tell-2.ensures.log)
