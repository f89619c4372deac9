use Rattle.std.proofs.Common.{◌≡◌, ◌++◌, [], ◌∷◌, refl, sym, ◌∙◌, ap, subst, ℕ, length}
use Rattle.disk_model.specs.declared.store.Call.TheVariants.{Wrote}
use Rattle.disk_model.specs.Disk.{Image}
use Rattle.disk_model.proofs.Stored.{still_replayed, still_placed, wrote_replayed, wrote_placed, pushed_with_room}
use Rattle.disk_model.proofs.store.Store.write.Goals as goal

pub invariant_of-self-in-Break-branch-4 : goal.invariant_of-self-in-Break-branch-4
invariant_of-self-in-Break-branch-4 c = record {
  reads = still_replayed c.args.self.now.written c.args.self.now.written c.args.self.now.left c.make_place.new.left _ _
      refl c.make_place.ensures.same c.reserve.ensures.items c.args.self.now.reads;
  placed = still_placed c.args.self.now.left c.make_place.new.left _ _
      c.make_place.ensures.placed c.reserve.ensures.items c.args.self.now.placed;
  whole = subst (λ (image : Image). (b : ℕ) → length (image b) ≡ 4096) (sym c.make_place.ensures.same) c.args.self.now.whole;
}

pub invariant_of-self-in-Break-branch-5 : goal.invariant_of-self-in-Break-branch-5
invariant_of-self-in-Break-branch-5 c = record {
  reads = still_replayed c.args.self.now.written c.insert.new.self c.args.self.now.left c.make_place.new.left _ _
      c.in_err-insert.ensures.err c.make_place.ensures.same c.reserve.ensures.items c.args.self.now.reads;
  placed = still_placed c.args.self.now.left c.make_place.new.left _ _
      c.make_place.ensures.placed c.reserve.ensures.items c.args.self.now.placed;
  whole = subst (λ (image : Image). (b : ℕ) → length (image b) ≡ 4096) (sym c.make_place.ensures.same) c.args.self.now.whole;
}

pub invariant_of-self-2 : goal.invariant_of-self-2
invariant_of-self-2 c =
    let pushed : c.push.new.self.items ≡ c.args.self.now.calls.items ++ Wrote c.args.at c.in_ok-logged.logged ∷ [] =
    pushed_with_room c.push.result c.args.self.now.calls.items c.reserve.new.self.items c.push.new.self.items _ _ _
    c.push.ensures.items c.push.ensures.full c.in_ok-reserve.ensures.ok c.reserve.ensures.items in
    record {
      reads = wrote_replayed c.args.self.now.written c.insert.new.self c.args.self.now.left c.make_place.new.left
          c.args.self.now.calls.items c.push.new.self.items c.args.at c.in_ok-logged.logged c.in_ok-latest.latest
          c.in_ok-insert.ensures.updates (c.in_ok-latest.ensures.ok ∙ sym c.in_ok-logged.ensures.ok) c.make_place.ensures.same pushed c.args.self.now.reads;
      placed = wrote_placed c.args.self.now.left c.make_place.new.left c.args.self.now.calls.items c.push.new.self.items
          c.args.at c.in_ok-logged.logged c.make_place.ensures.placed (c.in_ok-make_place.ensures.ok refl) (ap length c.in_ok-logged.ensures.ok ∙ c.told-block) pushed c.args.self.now.placed;
      whole = subst (λ (image : Image). (b : ℕ) → length (image b) ≡ 4096) (sym c.make_place.ensures.same) c.args.self.now.whole;
    }
