use Rattle.std.proofs.Common.{◌≡◌, ℕ, List, subst}
use Rattle.disk_model.specs.declared.store.Call.{Call}
use Rattle.disk_model.specs.Pick.{left_by}
use Rattle.disk_model.specs.Replay.{base_of, moments}
use Rattle.disk_model.proofs.Torn.{crash_leaves}
use Rattle.disk_model.proofs.store.Store.crash.Goals as goal

pub returns-clause-left : goal.returns-clause-left
returns-clause-left c =
    let calls_are = c.deref.ensures.value in
    subst
    (λ (calls : List Call). (b : ℕ) → base_of c.apply-2.new.left b
    ≡ left_by c.args.pick (moments (base_of c.args.self.now.left) calls 0) c.args.until b)
    calls_are
    (crash_leaves c.args.pick c.args.until c.synced_len-synced.result c.args.self.now.left
    (base_of c.args.self.now.left) (base_of c.apply.new.left) (base_of c.apply-2.new.left) c.deref.result.now
    (rw calls_are c.requires) (rw calls_are c.args.self.now.placed) c.synced_len-synced.ensures.open
    (c.synced_len-synced.ensures.rest (base_of c.args.self.now.left)) c.apply.ensures.torn c.apply-2.ensures.torn)

pub invariant_of-self-clause-whole : goal.invariant_of-self-clause-whole
invariant_of-self-clause-whole c = c.apply-2.ensures.whole (c.apply.ensures.whole c.args.self.now.whole)
