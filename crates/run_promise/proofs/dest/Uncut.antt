-- Where the destination never stops, each step tells what it executed there, and goes on with the copies that were seen.
use Rattle.std.proofs.Common.{◌≡◌, ℕ, zero, suc, List, [], ◌∷◌, slice_get, Option, Some, None, refl, sym, ap, subst}
use Rattle.nfs_base.specs.declared.seal.End.TheVariants.{Dest}
use Rattle.nfs_base.specs.declared.side.Side.TheVariants as sides
use Rattle.run_promise.specs.System.Moments.{later, world_at}
use Rattle.volume_stops.specs.declared.kept.Kept.{Kept}
use Rattle.wire_machine.specs.Ends.{Machines}
use Rattle.wire_machine.specs.History.{At, Telling, acts_in, acts_of, is_reported, jobs_after, lost_if, next, told_unless}
use Rattle.wire_machine.specs.Steps.{NeverStops, Step, cut_of}
use Rattle.wire_machine.specs.World.{World}
use Rattle.wire_model.specs.Meaning.{Meaning}
use Rattle.wire_model.specs.Spelling.{Spelling}
use Rattle.wire_model.specs.Wire.{Acts}

same_step : {X : Type 0} (a b : X) → Some a ≡ Some b → a ≡ b
same_step a b same = cc

-- where one tells nothing, it tells nothing if it stops
pub untold : (o : Option Kept) (acts : Acts) → acts.executed ≡ None → (told_unless o acts).executed ≡ None
untold None acts none = none
untold (Some kept) acts none = refl

module _ {S T C W : Type 0} (m : Machines S T C W) (tell : Telling S T) (spell : Spelling) (meaning : Meaning) where
  pub uncut_at : (first : World S T C W) (steps : List (Step S T C W)) (k : ℕ) (s : Step S T C W) → NeverStops sides.Dest first steps → slice_get steps k ≡ Some s
      → cut_of sides.Dest (world_at m tell spell meaning first steps k) s ≡ None
  uncut_at first [] k s never is = absurd (cc)
  uncut_at first (x ∷ steps) zero s never is = subst (λ (y : Step S T C W). cut_of sides.Dest first y ≡ None) (same_step x s is) never.0
  uncut_at first (x ∷ steps) (suc k) s never is =
      subst (λ (w : World S T C W). cut_of sides.Dest w s ≡ None) (sym (later m tell spell meaning first x steps k)) (uncut_at x.after steps k s never.1 is)

  -- ---- a step in which it doesn't stop

  pub acts_are : (before : World S T C W) (s : Step S T C W) → cut_of sides.Dest before s ≡ None
      → acts_of m tell spell meaning before (Some s) Dest ≡ acts_in tell before s.parts s.after Dest
  acts_are before s uncut = ap (λ (o : Option Kept). told_unless o (acts_in tell before s.parts s.after Dest)) uncut

  pub jobs_are : (at : At m tell spell meaning) (s : Step S T C W) → cut_of sides.Dest at.world s ≡ None
      → (next m tell spell meaning at (Some s)).seen.jobs
      ≡ jobs_after (tell.jobs s.after.dest) (is_reported spell meaning (acts_in tell at.world s.parts s.after Dest)) (m.dest_volume s.after.dest).boot (tell.made s.after.dest) at.seen.jobs
  jobs_are at s uncut =
      ap
      (λ (o : Option Kept). jobs_after (tell.jobs s.after.dest) (is_reported spell meaning (acts_in tell at.world s.parts s.after Dest)) (m.dest_volume s.after.dest).boot
      (tell.made s.after.dest) (lost_if o (m.dest_volume at.world.dest).boot at.seen).jobs)
      uncut
