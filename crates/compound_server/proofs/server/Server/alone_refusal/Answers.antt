use Rattle.std.proofs.Common.{rules, ◌≡◌, Bool, false, ap, sym}
use Rattle.std.specs.Prelude.{◌==◌}
use Rattle.compound_server.specs.Compounds.{alone_refusal}
use Rattle.compound_server.specs.Course.{Service}
use Rattle.compound_server.proofs.Outside.{alone_asked}
use Rattle.compound_server.proofs.server.Server.alone_refusal.Goals as goal

pub returns-then-count-ne1-clause-refusal : goal.returns-then-count-ne1-clause-refusal
returns-then-count-ne1-clause-refusal g c =
    let s : Service g.row.X.Denot g.row.C.Denot = record { gate = g.X.Extension.gated; serve = g.X.Serving.serves } in
    let many : (c.args.count == 1) ≡ false = search rules in
    ap (λ (b : Bool). alone_refusal b s c.args.who.now c.args.carry.now c.args.op (g.X.Serving.lapses c.args.who.now.second c.args.self.now.files.extra)) (sym many)

pub returns-clause-refusal : goal.returns-clause-refusal
returns-clause-refusal g c =
    let s : Service g.row.X.Denot g.row.C.Denot = record { gate = g.X.Extension.gated; serve = g.X.Serving.serves } in
    let x = c.args.self.now.files.extra in
    alone_asked s c.args.who.now c.args.carry.now c.args.count c.args.op x (g.X.Serving.lapses c.args.who.now.second x) c.gate_refusal.result
    c.if-count-ne1.false (g.met.X.Serving.timeless _ _ _ _ _) c.gate_refusal.ensures.refusal
