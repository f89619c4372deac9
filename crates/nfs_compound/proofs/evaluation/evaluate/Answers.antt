use Rattle.std.proofs.Common.{sym, ap, ◌∙◌, length, subst, ◌≤◌, List, arith}
use Rattle.nfs_base.specs.declared.status.Status.{Status}
use Rattle.nfs_compound.specs.declared.op.Op.{Op}
use Rattle.nfs_compound.specs.Results.{outcome}
use Rattle.nfs_compound.specs.Walk.{nothing_held}
use Rattle.nfs_compound.proofs.Walking.{goes_on_at, stops_at, ends_whole, last_is, all_on, tail_fits}
use Rattle.nfs_compound.proofs.evaluation.evaluate.Goals as goal

pub returns-then-status-ne0-clause-walks : goal.returns-then-status-ne0-clause-walks
returns-then-status-ne0-clause-walks g c =
    rw (c.from_vec.ensures, c.push_reserved.ensures.items)
    (stops_at g.A.Actor.acts c.args.compound.now.tail c.args.actor.now nothing_held c.args.compound.now.ops c.as_slice-ops.result.now c.loop-place.results.items c.loop-place.actor c.loop-place.held c.loop-place.place c.index-ops-place.result
    c.number_at-next.result c.in_ok-res.res c.act.new.self c.act.new.held
    c.as_slice-ops.ensures c.index-ops-place.is c.loop-place.invariant.so_far c.loop-place-test.true c.number_at-next.ensures c.in_ok-res.ensures.acted c.in_ok-res.ensures.number
    (λ ok. c.if-status-ne0.true (ap (λ (s : Status). s.number) c.status-status.ensures ∙ ok)))

pub returns-then-status-ne0-clause-status : goal.returns-then-status-ne0-clause-status
returns-then-status-ne0-clause-status g c =
    rw (c.from_vec.ensures, c.push_reserved.ensures.items) (c.status-status.ensures ∙ sym (last_is c.loop-place.results.items c.in_ok-res.res))

pub loop-place-preserved : goal.loop-place-preserved
loop-place-preserved g c =
    let res = c.in_ok-res.res in
    let ok = ap (λ (s : Status). s.number) (sym c.status-status.ensures) ∙ c.if-status-ne0.false in
    rw c.push_reserved.ensures.items
    (record {
      so_far =
          goes_on_at g.A.Actor.acts c.args.compound.now.tail c.args.actor.now nothing_held c.args.compound.now.ops c.as_slice-ops.result.now c.loop-place.results.items c.loop-place.actor c.loop-place.held c.loop-place.place c.index-ops-place.result
          c.number_at-next.result res c.act.new.self c.act.new.held
          c.as_slice-ops.ensures c.index-ops-place.is c.loop-place.invariant.so_far c.loop-place-test.true c.number_at-next.ensures c.in_ok-res.ensures.acted c.in_ok-res.ensures.number ok;
      status = last_is c.loop-place.results.items res ∙ ap (λ n. record { number = n }) ok;
      fits = all_on outcome.Fits c.loop-place.results.items res c.loop-place.invariant.fits c.in_ok-res.ensures.fits;
      len = omega (arith, c.push_reserved.ensures.len, c.loop-place.invariant.len);
      room = omega (arith, c.push_reserved.ensures.capacity, c.loop-place.invariant.room);
    })

pub returns-in-Some-clause-status : goal.returns-in-Some-clause-status
returns-in-Some-clause-status g c =
    rw (c.from_vec-in-Some.ensures, c.push_reserved-in-Some.ensures.items) (c.status-status-in-Some.ensures ∙ sym (last_is c.loop-place.results.items c.in-Some.res))

pub returns-in-Some-clause-fits : goal.returns-in-Some-clause-fits
returns-in-Some-clause-fits g c =
    rw (c.from_vec-in-Some.ensures, c.push_reserved-in-Some.ensures.items)
    (all_on outcome.Fits c.loop-place.results.items c.in-Some.res c.loop-place.invariant.fits (tail_fits c.args.compound.now.tail c.in-Some.res c.in-Some.ensures))

pub returns-in-None-clause-walks : goal.returns-in-None-clause-walks
returns-in-None-clause-walks g c =
    rw c.from_vec-in-None.ensures
    (ends_whole g.A.Actor.acts c.args.compound.now.tail c.args.actor.now nothing_held c.args.compound.now.ops c.loop-place.results.items c.loop-place.actor c.loop-place.held c.loop-place.place c.loop-place.invariant.so_far
    (subst (λ (all : List Op). length all ≤ c.loop-place.place) c.as_slice-ops.ensures c.loop-place-test.false) c.in-None.ensures)
