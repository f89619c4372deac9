use Rattle.std.proofs.Common.{◌==◌}
use Rattle.sess_slots.specs.declared.session.Session.{Session}
use Rattle.sess_slots.specs.Slots.{slots_after}
use Rattle.nfs_base.specs.ChangedLaws.{changed_by, unchanged_by}
use Rattle.sess_slots.proofs.session.keep.Goals as goal

pub returns-in-Some : goal.returns-in-Some
returns-in-Some c =
    let f : Session → Session = λ s. record s { slots = slots_after s.slots c.args.place.slot c.args.root c.args.reply } in
    rw c.finish.ensures
    (changed_by (λ s. s.number == c.args.place.session) f c.args.sessions.now.items c.place_of.result c.in-Some.at c.index_mut.result.now (rw c.as_slice.ensures.value at c.place_of.ensures) c.in-Some.is c.index_mut.ensures.value)

pub returns-in_default : goal.returns-in_default
returns-in_default c =
    let f : Session → Session = λ s. record s { slots = slots_after s.slots c.args.place.slot c.args.root c.args.reply } in
    unchanged_by (λ s. s.number == c.args.place.session) f c.args.sessions.now.items c.place_of.result (rw c.as_slice.ensures.value at c.place_of.ensures) c.in_default.is
