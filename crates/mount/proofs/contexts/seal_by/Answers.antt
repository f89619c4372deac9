use Rattle.std.proofs.Common.{refl}
use Rattle.mount.proofs.ContextLemmas.{told_at, after_at, nowhere}
use Rattle.mount.proofs.contexts.seal_by.Goals as goal

pub returns-in_default-clause-told : goal.returns-in_default-clause-told
returns-in_default-clause-told g c =
    rw (nowhere c.args.name c.args.contexts.now.items c.place_of.result (rw c.as_slice.ensures.value at c.place_of.ensures) c.in_default.is) refl

pub returns-in_default-clause-after : goal.returns-in_default-clause-after
returns-in_default-clause-after g c =
    rw (nowhere c.args.name c.args.contexts.now.items c.place_of.result (rw c.as_slice.ensures.value at c.place_of.ensures) c.in_default.is) refl

pub returns-clause-told : goal.returns-clause-told
returns-clause-told g c =
    told_at g.M.Mechanism.mic_of c.args.name c.args.xid c.in-Some.at c.args.asked.now c.args.contexts.now.items c.index_mut.result.now c.seal.result c.place_of.result
    (rw c.as_slice.ensures.value at c.place_of.ensures) c.in-Some.is c.index_mut.ensures.value c.seal.ensures.told

pub returns-clause-after : goal.returns-clause-after
returns-clause-after g c =
    after_at g.M.Mechanism.mic_of c.args.name c.args.xid c.in-Some.at c.args.asked.now c.args.contexts.now.items c.index_mut.result.now c.seal.new.caller c.seal.result c.place_of.result
    (rw c.as_slice.ensures.value at c.place_of.ensures) c.in-Some.is c.index_mut.ensures.value c.seal.ensures.told c.seal.ensures.after
