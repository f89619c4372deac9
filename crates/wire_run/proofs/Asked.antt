-- Stops that are asked for, in small steps one after the other.
use Rattle.std.proofs.Common.{◌≡◌, ◌⊎◌, ◌∙◌, inl, inr, Bool, true, false, List, [], ◌∷◌, ◌++◌, refl, sym, ap}
use Rattle.std.specs.Prelude.{◌||◌}
use Rattle.nfs_base.specs.declared.side.Side.{Side}
use Rattle.wire_machine.specs.Steps.{Step, after_steps}
use Rattle.wire_machine.specs.World.{World}
use Rattle.wire_run.specs.Asked.{StopsAreAsked, fuses_behind}
use Rattle.wire_run.specs.Running.{ArmsRight, Running, armed_of}
use Rattle.wire_run.specs.Watching.{no_side, sets_in}
use Rattle.wire_schedule.specs.declared.event.Event.{Event}

-- ---- tests

pub or_first : (a b : Bool) → a ≡ true → (a || b) ≡ true
or_first true b is = refl
or_first false b is = absurd (cc)

pub or_second : (a b : Bool) → b ≡ true → (a || b) ≡ true
or_second true b is = refl
or_second false b is = is

pub or_some : (a b : Bool) → (a || b) ≡ true → (a ≡ true) ⊎ (b ≡ true)
or_some true b is = inl refl
or_some false b is = inr is

-- what isn't so by the wider test isn't so by the narrower
pub not_wider : (a wide b same : Bool) → (a ≡ true → wide ≡ true) → same ≡ b → (wide || same) ≡ false → (a || b) ≡ false
not_wider true true b same gives is none = none
not_wider true false b same gives is none = sym (gives refl)
not_wider false true b same gives is none = absurd (cc)
not_wider false false b same gives is none = sym is ∙ none

-- ---- small steps one after the other

module _ {S T C W : Type 0} where
  -- a fuse that was set is one behind more steps
  pub fuse_stays : (fuses : Side → Bool) (steps : List (Step S T C W)) (side : Side) → fuses side ≡ true → fuses_behind fuses steps side ≡ true
  fuse_stays fuses [] side is = is
  fuse_stays fuses (s ∷ steps) side is = fuse_stays (λ at. fuses at || sets_in s.event at) steps side (or_first (fuses side) (sets_in s.event side) is)

  pub fuses_join : (fuses : Side → Bool) (steps more : List (Step S T C W)) → fuses_behind fuses (steps ++ more) ≡ fuses_behind (fuses_behind fuses steps) more
  fuses_join fuses [] more = refl
  fuses_join fuses (s ∷ steps) more = fuses_join (λ at. fuses at || sets_in s.event at) steps more

  pub asked_join : (fuses : Side → Bool) (w : World S T C W) (steps more : List (Step S T C W)) → StopsAreAsked fuses w steps
      → StopsAreAsked (fuses_behind fuses steps) (after_steps w steps) more → StopsAreAsked fuses w (steps ++ more)
  asked_join fuses w [] more first later = later
  asked_join fuses w (s ∷ steps) more first later = (first.0, asked_join (λ at. fuses at || sets_in s.event at) s.after steps more first.1 later)

  -- what is armed behind an event more, is so by a line
  pub lit_more : {D M : Type 0} (old new : Running D M) (event : Event) (steps more : List (Step S T C W))
      → ((side : Side) → armed_of old side ≡ true → fuses_behind no_side steps side ≡ true) → ArmsRight old new event
      → ((fuses : Side → Bool) (side : Side) → sets_in event side ≡ true → fuses_behind fuses more side ≡ true) → (side : Side) → armed_of new side ≡ true
      → fuses_behind no_side (steps ++ more) side ≡ true
  lit_more old new event steps more lit arms sets side is =
      ap (λ (fuses : Side → Bool). fuses side) (fuses_join no_side steps more) ∙ by_part (or_some (armed_of old side) (sets_in event side) (arms side is))
    where
      by_part : (armed_of old side ≡ true) ⊎ (sets_in event side ≡ true) → fuses_behind (fuses_behind no_side steps) more side ≡ true
      by_part (inl was) = fuse_stays (fuses_behind no_side steps) more side (lit side was)
      by_part (inr set) = sets (fuses_behind no_side steps) side set
