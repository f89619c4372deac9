use Rattle.std.proofs.Common.{ap, arith}
use Rattle.rpc_msg.specs.Watching.{is_down}
use Rattle.copy_workers.proofs.Sent.{sends_join, sends_none, up_by}
use Rattle.copy_workers.specs.GivenLaws.{modest_given}
use Rattle.copy_workers.specs.Workers.{Sends}
use Rattle.copy_workers.proofs.worker.work_all.Goals as goal

pub carry_out-awaited-requires-clause-room : goal.carry_out-awaited-requires-clause-room
carry_out-awaited-requires-clause-room g c =
    let kept = c.turns.invariant in
    let modest = c.in-Gave.ensures.modest in
    omega (arith, c.fetch-reply.ensures.sent, kept.sends.most, kept.few, kept.within, c.requires.turns, modest_given _ _ modest)

pub turns-preserved : goal.turns-preserved
turns-preserved g c =
    let kept = c.turns.invariant in
    let held = c.in-Gave.ensures in
    let modest = held.modest in
    let rest = c.take_rest-pace-in-Gave.ensures in
    let share = ap (λ d. d.share) c.count.ensures in
    let turned = ap (λ d. d.turned) c.count.ensures in
    let given = ap (λ d. d.given) c.count.ensures in
    let fetched : Sends c.turns.done.given 0 c.fetch-reply.new.link.sent (is_down c.fetch-reply.new.link.signs) =
    sends_join kept.sends (sends_none _ _ (is_down c.fetch-reply.new.link.signs) c.fetch-reply.ensures.sent)
    c.fetch-reply.ensures.down (omega arith) in record {
      share_parts = omega (arith, held.share_parts, kept.share_parts);
      turned_parts = omega (arith, held.turned_parts, kept.turned_parts);
      given_parts = omega (arith, held.given_parts, kept.given_parts);
      share = omega (arith, held.share, kept.share, share);
      turned = omega (arith, held.turned, kept.turned, turned);
      given = omega (arith, held.given, kept.given, given);
      within = omega (arith, c.turns-test.true, turned);
      landed = omega (arith, kept.landed, share, turned, modest.one_chunk);
      few = omega (arith, kept.few, given, turned, modest_given _ _ modest);
      sends = rw (rest.sent, rest.signs) (sends_join fetched c.carry_out-awaited.ensures.sends c.carry_out-awaited.ensures.down given);
    }

pub returns-clause-worker : goal.returns-clause-worker
returns-clause-worker g c =
    let kept = c.turns.invariant in
    let up = up_by c.turns.link.signs _ _ c.down-2.ensures c.is_some-2.ensures c.if-is_some-2.false in
    rw c.ending-2.ensures (record {
      turned = kept.within;
      landed = kept.landed;
      sends = kept.sends;
      cause = (up, omega (arith, kept.within, c.turns-test.false));
    })
