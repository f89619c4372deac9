-- What a schedule asks for: its servers' volumes, and disks that are large enough.
use Rattle.std.proofs.Common.{◌≡◌, ℕ, ◌*◌, Bool, true, false, ◌||◌, Option, None, Some, List, [], ◌∷◌, ◌++◌, refl, ap, ◌∙◌, is_some}
use Rattle.std.specs.Option.{option_or}
use Rattle.copy_model.specs.Volume.{formatted}
use Rattle.dest_core.specs.Core as new_dest
use Rattle.dest_core.specs.Stepping.{DestState}
use Rattle.nfs_base.specs.declared.side.Side.{Side}
use Rattle.nfs_base.specs.declared.side.Side.TheVariants.{Source, Dest}
use Rattle.source_core.specs.Core as new_source
use Rattle.client_core.specs.State.{new_client}
use Rattle.wire_machine.specs.Runs.{Numbered}
use Rattle.run_ends.specs.Ends.{RunWorld, SourceState}
use Rattle.run_ends.specs.First.{IsFirst, IsFreshDest, IsFreshSource, Shape, shape_by, shape_of, shape_or}
use Rattle.wire_run.specs.Fresh.{Small, event_small}
use Rattle.wire_run.specs.Run.{asks_for, first_small}
use Rattle.wire_run.specs.Running.{world_of}
use Rattle.run_ends.specs.Setting.{dest_name, dest_place, dest_source, source_peers, source_place, user}
use Rattle.run_ends.specs.declared.setting.TheConstants.{SOURCE_TAG, DEST_TAG}

-- ---- servers that were just opened

abbrev pub new_source_state : {M : Type 0} → M → Shape → SourceState M
new_source_state mech shape = record {
  contexts = new_source.no_contexts 1;
  state = record {
    machine = record {
      store = record { volume = formatted shape.files (shape.blocks * 4096); tag = SOURCE_TAG; homes = []; size = 0 };
      opens = new_source.no_opens 1;
      extra = new_source.no_source 1 mech source_peers source_place;
    };
    sessions = new_source.no_sessions 1;
  };
  second = 0;
  steps = 0;
}

abbrev pub new_dest_state : {M : Type 0} → M → Shape → DestState M
new_dest_state mech shape = record {
  contexts = new_dest.no_contexts 1;
  state = record {
    machine = record {
      store = record { volume = formatted shape.files (shape.blocks * 4096); tag = DEST_TAG; homes = []; size = 0 };
      opens = new_dest.no_opens 1;
      extra = new_dest.no_copies 1 (shape.blocks * 4096) mech dest_source dest_name dest_place;
    };
    sessions = new_dest.no_sessions 1;
  };
  second = 0;
  steps = 0;
}

pub fresh_source : {M : Type 0} (mech : M) (shape : Shape) → IsFreshSource mech shape (new_source_state mech shape)
fresh_source mech shape = record {
  contexts = refl;
  opens = refl;
  sessions = refl;
  extra = refl;
  volume = refl;
  tag = refl;
  second = refl;
  steps = refl;
}

pub fresh_dest : {M : Type 0} (mech : M) (shape : Shape) → IsFreshDest mech shape (new_dest_state mech shape)
fresh_dest mech shape = record {
  contexts = refl;
  opens = refl;
  sessions = refl;
  extra = refl;
  volume = refl;
  tag = refl;
  second = refl;
  steps = refl;
}

-- a world of a schedule in which nothing happened yet
abbrev pub idle_world : {M : Type 0} → M → List Numbered → RunWorld M
idle_world mech events =
    world_of (new_source_state mech (shape_of Source events)) (new_dest_state mech (shape_of Dest events))
    (new_client (record { mech = mech; me = user; source = source_place; dest = dest_place })) 0 0 [] []

pub idle_first : {M : Type 0} (mech : M) (events : List Numbered) → IsFirst mech events (idle_world mech events)
idle_first mech events = record {
  source = fresh_source mech (shape_of Source events);
  dest = fresh_dest mech (shape_of Dest events);
  client = refl;
  draws = refl;
  clock = refl;
  steps = refl;
  log = refl;
}

-- ---- events that ask for nothing, and others behind them

or_none : (a b : Bool) → (a || b) ≡ false → (a ≡ false) × (b ≡ false)
or_none false b is = (refl, is)
or_none true b is = absurd (cc)

none_of : (shape : Option Shape) → is_some shape ≡ false → shape ≡ None
none_of None is = refl
none_of (Some shape) is = absurd (cc)

pub shape_behind : (side : Side) (done rest : List Numbered) → asks_for side done ≡ false → shape_of side (done ++ rest) ≡ shape_of side rest
shape_behind side [] rest none = refl
shape_behind side (e ∷ done) rest none =
    let parts = or_none (is_some (shape_by side e.event)) (asks_for side done) none in
    ap (λ (shape : Option Shape). shape_or shape (shape_of side (done ++ rest))) (none_of (shape_by side e.event) parts.0) ∙ shape_behind side done rest parts.1

-- with one more that doesn't ask for it
pub asks_more : (side : Side) (done : List Numbered) (e : Numbered) → asks_for side done ≡ false → shape_by side e.event ≡ None
    → asks_for side (done ++ e ∷ []) ≡ false
asks_more side [] e none is = ap (λ (shape : Option Shape). is_some shape || false) is
asks_more side (x ∷ done) e none is =
    let parts = or_none (is_some (shape_by side x.event)) (asks_for side done) none in
    ap (λ (b : Bool). b || asks_for side (done ++ e ∷ [])) parts.0 ∙ asks_more side done e parts.1 is

-- ---- disks that are large enough

pub small_behind : (source dest : ℕ) (done rest : List Numbered) → first_small source dest done ≡ None → first_small source dest (done ++ rest) ≡ first_small source dest rest
small_behind source dest [] rest none = refl
small_behind source dest (e ∷ done) rest none =
    let parts = or_small (event_small source dest e.event) (first_small source dest done) none in
    ap (λ (small : Option Small). option_or small (first_small source dest (done ++ rest))) parts.0 ∙ small_behind source dest done rest parts.1
  where
    or_small : (a b : Option Small) → option_or a b ≡ None → (a ≡ None) × (b ≡ None)
    or_small None b is = (refl, is)
    or_small (Some small) b is = absurd (cc)
