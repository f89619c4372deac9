use Rattle.std.proofs.Common.{rules, ◌≡◌, ℕ, map, Option, List, [], refl, sym, ap, subst, ◌∙◌, arith}
use Rattle.file_server.specs.Answering.{machine_of}
use Rattle.server_volume.specs.Choices.{Agrees}
use Rattle.server_volume.specs.declared.used.Used.{Used}
use Rattle.server_volume.specs.MomentLaws.{counted_none, counted_on}
use Rattle.compound_server.specs.Course.{Service, course_of, seen}
use Rattle.compound_server.specs.Performing.{perform}
use Rattle.compound_server.specs.Preparing.{op_of}
use Rattle.compound_server.proofs.Steps.{performs_refused}
use Rattle.compound_server.proofs.Walks.{walk_on, walk_stops, walk_ends, walk_refuses}
use Rattle.compound_server.proofs.server.Server.evaluate.Goals as goal

-- src/evaluating.rt:62:9
pub operations-init : goal.operations-init
operations-init g c = rw c.into_deque-rest.ensures (record {
  ready = search rules;
  suited = search rules;
  few = search rules;
  opens = search rules;
  given = search rules;
  opened = search rules;
  gave = search rules;
  seats = refl;
  numbers = refl;
  landed = refl;
  room = refl;
  ran = counted_none _ _ _;
  walks = λ told choice agrees. refl;
})

-- src/evaluating.rt:67:17
pub returns-then-status-ne0-clause-walks : goal.returns-then-status-ne0-clause-walks
returns-then-status-ne0-clause-walks g c = rw (← c.into_deque-rest.ensures) (λ told choice agrees.
    let s : Service g.row.X.Denot g.row.C.Denot = record { gate = g.X.Extension.gated; serve = g.X.Serving.serves } in
    let rest = map op_of c.pop_front.new.self.items in
    let was = course_of g.D.Disk.size c.operations.self c.operations.p in
    let performed = c.perform-status in
    let said = ap (λ (next : Option ℕ). seen (perform s choice c.args.caller.now c.args.carry.now next (op_of c.in-Some.one) was) c.operations.p.page.bytes) (sym c.next_number-next.ensures) ∙ performed.ensures.performs told choice agrees in
    c.operations.invariant.walks told choice (performed.ensures.keeps.grows choice agrees)
    ∙ rw c.in-Some.ensures.items (walk_stops s choice c.args.caller.now c.args.carry.now c.args.tail (op_of c.in-Some.one) rest was (course_of g.D.Disk.size performed.new.self performed.new.p)
    c.operations.p.page.bytes performed.new.p.page.bytes c.operations.count performed.result.number said (search rules)))

-- src/evaluating.rt:67:17
pub returns-then-status-ne0-clause-ran : goal.returns-then-status-ne0-clause-ran
returns-then-status-ne0-clause-ran g c = counted_on _ _ _ _ _ _ _ (c.operations.invariant.ran) (c.perform-status.ensures.ran)

-- src/evaluating.rt:62:9
pub operations-preserved : goal.operations-preserved
operations-preserved g c =
    let s : Service g.row.X.Denot g.row.C.Denot = record { gate = g.X.Extension.gated; serve = g.X.Serving.serves } in
    let rest = map op_of c.pop_front.new.self.items in
    let was = course_of g.D.Disk.size c.operations.self c.operations.p in
    let performed = c.perform-status in
    let ready = rw c.in-Some.ensures.items at c.operations.invariant.ready in
    let suited = rw c.in-Some.ensures.items at c.operations.invariant.suited in
    let few = rw c.in-Some.ensures.items at c.operations.invariant.few in
    let opens = rw c.in-Some.ensures.items at c.operations.invariant.opens in
    let given = rw c.in-Some.ensures.items at c.operations.invariant.given in
    let opened = rw c.in-Some.ensures.items at c.operations.invariant.opened in
    let gave = rw c.in-Some.ensures.items at c.operations.invariant.gave in
    let page = ready.page in
    let used = ready.used in
    let kept = performed.ensures.keeps.page in
    let same = performed.ensures.keeps.room in
    let calls = performed.ensures.keeps.used in
    let one_open = performed.ensures.counted.opens in
    let one_given = performed.ensures.counted.own in
    record {
      ready = record { page = omega arith; used = omega arith };
      suited = suited.1;
      few = omega arith;
      opens = omega arith;
      given = omega arith;
      opened = omega arith;
      gave = omega arith;
      seats = performed.ensures.counted.sessions ∙ c.operations.invariant.seats;
      numbers = performed.ensures.counted.numbers ∙ c.operations.invariant.numbers;
      landed = performed.ensures.counted.landed ∙ c.operations.invariant.landed;
      room = performed.ensures.keeps.room ∙ c.operations.invariant.room;
      ran = counted_on _ _ _ _ _ _ _ (c.operations.invariant.ran) (performed.ensures.ran);
      walks = λ told choice agrees.
          let said = ap (λ (next : Option ℕ). seen (perform s choice c.args.caller.now c.args.carry.now next (op_of c.in-Some.one) was) c.operations.p.page.bytes) (sym c.next_number-next.ensures) ∙ performed.ensures.performs told choice agrees in
          c.operations.invariant.walks told choice (performed.ensures.keeps.grows choice agrees)
          ∙ rw c.in-Some.ensures.items (walk_on s choice c.args.caller.now c.args.carry.now c.args.tail (op_of c.in-Some.one) rest was (course_of g.D.Disk.size performed.new.self performed.new.p)
          c.operations.p.page.bytes performed.new.p.page.bytes c.operations.count performed.result.number said c.if-status-ne0.false);
    }

-- src/evaluating.rt:59:5
pub returns-in-None-clause-walks : goal.returns-in-None-clause-walks
returns-in-None-clause-walks g c = rw (← c.into_deque-rest.ensures) (λ told choice agrees.
    let s : Service g.row.X.Denot g.row.C.Denot = record { gate = g.X.Extension.gated; serve = g.X.Serving.serves } in
    let none : c.operations.rest.items ≡ [] = search rules in
    c.operations.invariant.walks told choice agrees
    ∙ rw none (walk_ends s choice c.args.caller.now c.args.carry.now c.args.tail (course_of g.D.Disk.size c.operations.self c.operations.p) c.operations.p.page.bytes c.operations.count (sym c.tail_refusal.ensures ∙ c.in-None.is)))

-- src/evaluating.rt:35:5
pub returns-clause-walks : goal.returns-clause-walks
returns-clause-walks g c = rw (← c.into_deque-rest.ensures) (λ told choice agrees.
    let s : Service g.row.X.Denot g.row.C.Denot = record { gate = g.X.Extension.gated; serve = g.X.Serving.serves } in
    let none : c.operations.rest.items ≡ [] = search rules in
    let r = c.in-Some-tail_refusal.refusal in
    let before : Agrees choice c.operations.p.used = subst (λ (us : List Used). Agrees choice us) c.refuse.ensures.says.used agrees in
    c.operations.invariant.walks told choice before
    ∙ rw none (walk_refuses s choice c.args.caller.now c.args.carry.now c.args.tail (course_of g.D.Disk.size c.operations.self c.operations.p) (course_of g.D.Disk.size c.operations.self c.refuse.new.self)
    c.operations.p.page.bytes c.refuse.new.self.page.bytes c.operations.count c.refuse.result.number r (sym c.tail_refusal.ensures ∙ c.in-Some-tail_refusal.is)
    (performs_refused (machine_of g.D.Disk.size c.operations.self.files) c.operations.self.sessions r.op r.status r.status c.refuse.result c.operations.p c.refuse.new.self c.refuse.ensures.says refl c.refuse.ensures.status)))
