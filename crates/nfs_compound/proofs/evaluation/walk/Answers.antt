use Rattle.std.proofs.lemmas.Result.{err_from_is_err_and}
use Rattle.nfs_compound.specs.Walk.{nothing_held}
use Rattle.nfs_compound.proofs.Walking.{breaks_here}
use Rattle.nfs_compound.proofs.Replies.{walks_count, reply_fits}
use Rattle.nfs_compound.proofs.evaluation.walk.Goals as goal

pub returns-in_err-tag-clause-err : goal.returns-in_err-tag-clause-err
returns-in_err-tag-clause-err g c =
    let p = err_from_is_err_and c.from_residual.result c.from_residual.ensures.1 in
    rw p.1 (breaks_here g.A.Actor.acts c.args.actor.now nothing_held c.args.compound.now.ops)

pub returns-in_err-room-clause-err : goal.returns-in_err-room-clause-err
returns-in_err-room-clause-err g c =
    let p = err_from_is_err_and c.from_residual-in_err-room.result c.from_residual-in_err-room.ensures.1 in
    rw p.1 (breaks_here g.A.Actor.acts c.args.actor.now nothing_held c.args.compound.now.ops)

pub returns-clause-count : goal.returns-clause-count
returns-clause-count g c = walks_count g.A.Actor.acts c.args.compound.now.tail c.args.actor.now nothing_held c.args.compound.now.ops c.in_ok-status.results c.evaluate.new.actor c.in_ok-status.ensures.walks

pub returns-clause-written : goal.returns-clause-written
returns-clause-written g c bytes is =
    reply_fits g.A.Actor.acts c.args.actor.now nothing_held c.args.compound.now bytes c.in_ok-tag.tag c.in_ok-status.status c.in_ok-status.results c.evaluate.new.actor c.in_ok-status.ensures.walks
    c.in_ok-tag.ensures c.in_ok-status.ensures.number c.in_ok-status.ensures.fits is
