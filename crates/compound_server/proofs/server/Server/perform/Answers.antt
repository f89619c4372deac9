use Rattle.std.proofs.Common.{refl, sym, ap, ◌∙◌}
use Rattle.file_server.specs.Answering.{machine_of}
use Rattle.compound_server.specs.Course.{Service, course_of, seen}
use Rattle.compound_server.specs.Preparing.{op_of}
use Rattle.compound_server.proofs.Steps.{perform_done, perform_refuses, performs_own, performs_refused, ran_still}
use Rattle.compound_server.proofs.server.Server.perform.Goals as goal

pub returns-in-Some-clause-performs : goal.returns-in-Some-clause-performs
returns-in-Some-clause-performs g c = rw c.refusal.ensures.same (λ told choice agrees.
    let s : Service g.row.X.Denot g.row.C.Denot = record { gate = g.X.Extension.gated; serve = g.X.Serving.serves } in
    let old = course_of g.D.Disk.size c.args.self.now c.args.p.now in
    ap (λ a. seen a c.args.p.now.page.bytes)
    (perform_refuses s choice c.args.caller.now c.args.carry.now c.args.next (op_of c.args.one) old c.number-op.result c.in-Some.status
    (λ k. g.met.X.Serving.still _ _ _ k) c.number-op.ensures (sym c.in-Some.is ∙ c.refusal.ensures.refusal))
    ∙ performs_refused (machine_of g.D.Disk.size c.args.self.now.files) c.args.self.now.sessions c.number-op.result c.in-Some.status c.in-Some.status c.refuse.result
    c.args.p.now c.refuse.new.self c.refuse.ensures.says refl c.refuse.ensures.status)

pub returns-in-Some-clause-ran : goal.returns-in-Some-clause-ran
returns-in-Some-clause-ran g c = rw c.refusal.ensures.same (ran_still c.refuse.ensures.says.used)

pub returns-in-File-clause-performs : goal.returns-in-File-clause-performs
returns-in-File-clause-performs g c = λ told choice agrees.
    let s : Service g.row.X.Denot g.row.C.Denot = record { gate = g.X.Extension.gated; serve = g.X.Serving.serves } in
    let old = course_of g.D.Disk.size c.args.self.now c.args.p.now in
    let performs = rw c.refusal.ensures.same at c.file_done.ensures.performs in
    ap (λ a. seen a c.args.p.now.page.bytes)
    (perform_done s choice c.args.caller.now c.args.carry.now c.args.next old c.number-op.result
    (λ k. g.met.X.Serving.still _ _ _ k) c.number-op.ensures (sym c.in_default.is ∙ c.refusal.ensures.refusal) (ap op_of c.in-File.is))
    ∙ performs told choice agrees

pub returns-in-Copy-clause-performs : goal.returns-in-Copy-clause-performs
returns-in-Copy-clause-performs g c = rw c.refusal.ensures.same (λ told choice agrees.
    let s : Service g.row.X.Denot g.row.C.Denot = record { gate = g.X.Extension.gated; serve = g.X.Serving.serves } in
    let old = course_of g.D.Disk.size c.args.self.now c.args.p.now in
    let serves = rw c.refusal.ensures.same at c.serve.ensures.serves in
    ap (λ a. seen a c.args.p.now.page.bytes)
    (perform_done s choice c.args.caller.now c.args.carry.now c.args.next old c.number-op.result
    (λ k. g.met.X.Serving.still _ _ _ k) c.number-op.ensures (sym c.in_default.is ∙ c.refusal.ensures.refusal) (ap op_of c.in-Copy.is))
    ∙ performs_own c.args.self.now.sessions _ c.args.p.now.page.bytes _ _ _ (serves told choice agrees))
