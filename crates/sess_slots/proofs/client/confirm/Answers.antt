use Rattle.std.proofs.Common.{◌==◌, Some}
use Rattle.sess_slots.specs.declared.client.Client.{Client}
use Rattle.nfs_base.specs.ChangedLaws.{changed_by, unchanged_by}
use Rattle.sess_slots.proofs.client.confirm.Goals as goal

pub returns-in-Some : goal.returns-in-Some
returns-in-Some c =
    let f : Client → Client = λ k. record k { last = c.args.sequence; created = Some c.args.made } in
    changed_by (λ k. k.id == c.args.id) f c.args.clients.now.items c.place_of.result c.in-Some.at c.index_mut-client.result.now (rw c.as_slice.ensures.value at c.place_of.ensures) c.in-Some.is c.index_mut-client.ensures.value

pub returns-in_default : goal.returns-in_default
returns-in_default c =
    let f : Client → Client = λ k. record k { last = c.args.sequence; created = Some c.args.made } in
    unchanged_by (λ k. k.id == c.args.id) f c.args.clients.now.items c.place_of.result (rw c.as_slice.ensures.value at c.place_of.ensures) c.in_default.is
