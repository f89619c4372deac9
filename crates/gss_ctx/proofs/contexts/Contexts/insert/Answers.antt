use Rattle.std.proofs.Common.{◌≡◌, ◌<◌, sym, subst, false, ◌++◌, ◌∷◌, [], length, refl, arith}
use Rattle.gss_ctx.specs.Table.{ContextTable, is_full, is_live}
use Rattle.gss_ctx.proofs.KeptLemmas.{kept_filtered, kept_pushed, room_left}
use Rattle.gss_ctx.proofs.contexts.Contexts.insert.Goals as goal

pub unwrap-requires : goal.unwrap-requires
unwrap-requires g c =
    let room : is_full c.args.now c.self.inside.entries.items ≡ false = subst (λ (t : ContextTable _). is_full c.args.now t.entries ≡ false) (sym c.self.view_is) c.requires.room in
    let left : length c.keep_live.new.entries.items < 256 = rw c.keep_live.ensures.items (room_left c.args.now c.self.inside.entries.items room) in
    c.push.ensures.succeeds (omega (arith, c.keep_live.new.entries.ok.0, c.keep_live.ensures.capacity, c.self.invariant.room))

pub invariant_of-self : goal.invariant_of-self
invariant_of-self g c =
    let live = kept_filtered c.self.inside.made (is_live c.args.now) c.self.inside.entries.items c.keep_live.new.entries.items _ _ c.self.invariant c.keep_live.ensures.items c.keep_live.ensures.capacity in
    let items : c.push.new.self.items ≡ c.keep_live.new.entries.items ++ _ ∷ [] = rw c.unwrap.ensures at c.push.ensures.items in
    kept_pushed c.self.inside.made c.keep_live.new.entries.items c.push.new.self.items _ _ _ live refl items c.push.ensures.capacity
