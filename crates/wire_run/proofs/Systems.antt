-- What each function of a system asks and leaves, by what contracts see of it.
use Rattle.std.proofs.Common.{◌≡◌, ℕ, ◌+◌, ◌≤◌, Bool, true, false, List, [], ◌∷◌, length, Option, Some, None, refl, sym, ap, ◌∙◌, subst, arith}
use Rattle.std.specs.Prelude.{◌||◌, IsTrue, Result, Ok, Err, is_some, map, nat_lt}
use Rattle.std.proofs.lemmas.Bool.{leb-true, ltb-true}
use Rattle.std.proofs.lemmas.List.{get_or-replicate, length-replicate}
use Rattle.std.specs.String.{string_bytes}
use Rattle.std.specs.declared.string.String.{String}
use Rattle.std.specs.declared.alloc.Global.{Global}
use Rattle.block_file.specs.Opened.{MayBeLeft, homes_by}
use Rattle.client_copies.specs.declared.table.TheConstants.{MOST_COPIES}
use Rattle.client_core.specs.State.{ClientState, new_client}
use Rattle.client_core.specs.Telling.{copy_if, copy_of}
use Rattle.client_steps.specs.declared.setting.Setting.{Setting}
use Rattle.dest_core.specs.Stepping.{DestState}
use Rattle.disk_model.specs.Elapsed.{Timeline}
use Rattle.disk_model.specs.declared.fuse.Fuse.{Fuse}
use Rattle.disk_model.specs.declared.fuse.Fuse.TheVariants.{Unset}
use Rattle.nfs_base.specs.Forms.{net_loc}
use Rattle.nfs_base.specs.declared.net_loc.NetLoc.{NetLoc}
use Rattle.nfs_base.specs.declared.side.Side.{Side}
use Rattle.nfs_base.specs.declared.side.Side.TheVariants.{Source, Dest}
use Rattle.wire_machine.specs.Check.{Reading}
use Rattle.wire_machine.specs.World.{bytes_of, waiting}
use Rattle.wire_machine.specs.declared.choice.Choice.{Choice}
use Rattle.run_ends.specs.Ends.{RunMachines, SourceState}
use Rattle.wire_run.specs.Cutting.{StageLoses, disk_at}
use Rattle.wire_run.specs.Fresh.{DestLeft, IsShape, SourceLeft, dest_with, source_with}
use Rattle.wire_run.specs.Making.{AwayAt, IsDiskAt, MakesAt}
use Rattle.wire_run.specs.Running.{ArmsRight, HasDisks, MakesNone, Running, StepIs, armed_of, at_rest, context_after, fault_in, is_there, mech_of, text_in, without}
use Rattle.wire_run.specs.Stage.{AllDelivered, BeginsNone, BeginsOnly, FlowKeeps, FlowKeepsStops, IsFair, IsFit, IsFlowing, SmallKeeps, StageGoes, begun_in, dest_disk, dest_steps, source_disk, source_steps}
use Rattle.run_ends.specs.Setting.{dest_place, source_place, user}
use Rattle.wire_run.specs.System.{DestFits, Holds, IsSingle, IsSound, SourceFits, dest_state, lost_in, running_of, shown_at, source_state}
use Rattle.wire_run.specs.Watching.{KeepsStops, fuse_in, is_armed, no_stop, sets_in, stop_at}
use Rattle.wire_run.specs.declared.ends.DestEnd.{DestEnd}
use Rattle.wire_run.specs.declared.ends.DestEnd.TheVariants as dest_end
use Rattle.wire_run.specs.declared.ends.SourceEnd.{SourceEnd}
use Rattle.wire_run.specs.declared.ends.SourceEnd.TheVariants as source_end
use Rattle.wire_run.specs.declared.fresh.Unmade.{Unmade}
use Rattle.run_ends.specs.declared.setting.TheConstants.{SOURCE_TAG, DEST_TAG}
use Rattle.wire_run.specs.declared.stage.Lost.{Lost}
use Rattle.wire_run.specs.declared.stage.Stage.{Stage}
use Rattle.wire_run.specs.declared.stage.Stop.{Stop}
use Rattle.wire_run.specs.declared.stage.Stops.{Stops}
use Rattle.wire_run.specs.declared.system.Stepped.{Stepped}
use Rattle.wire_run.specs.declared.system.Stepped.TheVariants as stepped
use Rattle.wire_run.proofs.Events.{disks_lost, disks_went, flow_is, flow_lost, once_is, once_lost, went_on}
use Rattle.wire_run.proofs.Servers.{dest_unmade, dest_went, disk_may, lost_dest_sound, lost_source_sound, made_disks, made_sound, shape_is, source_unmade, source_went, unmade_disks}
use Rattle.wire_run.proofs.Sound.{fair, fits, flowing, is_served, is_served_flow, ready, sound_flow, sound_once}
use Rattle.wire_run.proofs.SystemStops.{numbered_none, watched_none}
use Rattle.wire_schedule.specs.Admission.{admits, after, at_start, most_copies}
use Rattle.wire_schedule.specs.declared.context.Context.{Context}
use Rattle.wire_schedule.specs.declared.event.Event.{Event}
use Rattle.wire_schedule.specs.declared.event.Event.TheVariants as kinds

-- ---- a server that is lost

lost_context : {D M : Type 0} (at : Side) (disk : D) (r : Running D M) → (lost_in at disk r).context ≡ without at r.context
lost_context Source disk r = refl
lost_context Dest disk r = refl

lost_armed : {D M : Type 0} (side at : Side) (disk : D) (r : Running D M) → armed_of (lost_in at disk r) side ≡ armed_of r side
lost_armed Source Source disk r = refl
lost_armed Source Dest disk r = refl
lost_armed Dest Source disk r = refl
lost_armed Dest Dest disk r = refl

armed_is : {D M : Type 0} (size : D → ℕ) (context : Context) (s : Stage D M) (side : Side) → armed_of (running_of size context s) side ≡ is_armed side s
armed_is size context s Source = refl
armed_is size context s Dest = refl

gone_none : {A : Type 0} (o : Option A) → is_some o ≡ false → o ≡ None
gone_none None gone = refl
gone_none (Some x) gone = absurd (cc)

or_first : (a b : Bool) → a ≡ true → (a || b) ≡ true
or_first true b is = refl
or_first false b is = absurd (cc)

module _ {D M : Type 0} (told : Type 0) (size : D → ℕ) (fuse : D → Fuse) (context : Context) (mech : M) (s : Stage D M)
    (sound : IsSound told size fuse context mech s) (r : Running D M) (seen : running_of size context s ≡ r) where
  -- its disk takes its place
  pub lost_sound_source : (disk : D) → is_there r Source ≡ false → IsSound told size fuse (record context { source = None }) mech (record s { source = source_end.Disk disk })
  lost_sound_source disk gone =
      lost_source_sound told size fuse context mech s sound disk (gone_none (source_state size s.source) (ap (λ (x : Running D M). is_there x Source) seen ∙ gone))

  pub lost_sound_dest : (disk : D) → is_there r Dest ≡ false → IsSound told size fuse (record context { dest = None }) mech (record s { dest = dest_end.Disk disk })
  lost_sound_dest disk gone =
      lost_dest_sound told size fuse context mech s sound disk (gone_none (dest_state size s.dest) (ap (λ (x : Running D M). is_there x Dest) seen ∙ gone))

  pub lost_view_source : (disk : D) → running_of size (record context { source = None }) (record s { source = source_end.Disk disk }) ≡ lost_in Source disk r
  lost_view_source disk = ap (λ (x : Running D M). lost_in Source disk x) seen

  pub lost_view_dest : (disk : D) → running_of size (record context { dest = None }) (record s { dest = dest_end.Disk disk }) ≡ lost_in Dest disk r
  lost_view_dest disk = ap (λ (x : Running D M). lost_in Dest disk x) seen

  may_be : (event : Event) → IsTrue (admits r.context event) → admits context event ≡ true
  may_be event may = ap (λ (x : Running D M). admits x.context event) seen ∙ may

  disks_be : HasDisks r → HasDisks (running_of size context s)
  disks_be disks = subst (λ (x : Running D M). HasDisks x) (sym seen) disks

  context_be : (event : Event) (now : Context) → now ≡ after context event → now ≡ after r.context event
  context_be event now is = is ∙ ap (λ (x : Running D M). after x.context event) seen

  armed_be : (side : Side) → is_armed side s ≡ armed_of r side
  armed_be side = sym (armed_is size context s side) ∙ ap (λ (x : Running D M). armed_of x side) seen

  -- ---- before an event

  pub once_fair : (event : Event) → IsSingle event → IsTrue (admits r.context event) → HasDisks r → IsFair told size fuse s
  once_fair event single may disks =
      fair told size fuse context mech s sound (ready told size fuse context mech s sound (disks_be disks) (is_served context event single (may_be event may)))

  pub once_fits : (event : Event) → IsSingle event → IsTrue (admits r.context event) → HasDisks r → IsFit told event s
  once_fits event single may disks =
      fits told size fuse context mech s sound event single (ready told size fuse context mech s sound (disks_be disks) (is_served context event single (may_be event may))) (may_be event may)

  pub flow_flows : IsTrue (admits r.context kinds.Flow) → HasDisks r → IsFlowing told size fuse s
  flow_flows may disks =
      flowing told size fuse context mech s sound (ready told size fuse context mech s sound (disks_be disks) (is_served_flow context (may_be kinds.Flow may)))

  -- ---- an event that is one small step

  pub once_sound : (event : Event) (now : Context) (new : Stage D M) → IsSingle event → IsTrue (admits r.context event) → now ≡ after context event → SmallKeeps told s new
      → KeepsStops told size fuse (sets_in event) s new → BeginsOnly (begun_in event) s.client new.client → new.clock ≤ s.clock + 1000000
      → IsSound told size fuse now mech new
  once_sound event now new single may is k stops begun clock =
      subst (λ (c : Context). IsSound told size fuse c mech new) (sym is) (sound_once told size fuse context mech event s new sound single (may_be event may) k stops begun clock)

  pub once_arms : (event : Event) (now : Context) (new : Stage D M) → KeepsStops told size fuse (sets_in event) s new → ArmsRight r (running_of size now new) event
  once_arms event now new stops =
      λ side armed.
      subst (λ (b : Bool). (b || sets_in event side) ≡ true) (armed_be side) (stops.armed side (sym (armed_is size now new side) ∙ armed))

  -- a flow
  pub flow_sound : (now : Context) (new : Stage D M) → IsTrue (admits r.context kinds.Flow) → now ≡ after context kinds.Flow → FlowKeeps told s new
      → FlowKeepsStops told size fuse s new → BeginsNone s.client new.client → IsSound told size fuse now mech new
  flow_sound now new may is k stops begun =
      subst (λ (c : Context). IsSound told size fuse c mech new) (sym is) (sound_flow told size fuse context mech s new sound (may_be kinds.Flow may) k stops begun)

  pub flow_arms : (now : Context) (new : Stage D M) → FlowKeepsStops told size fuse s new → ArmsRight r (running_of size now new) kinds.Flow
  flow_arms now new stops =
      λ side armed.
      or_first (armed_of r side) (sets_in kinds.Flow side) (sym (armed_be side) ∙ stops.armed side (sym (armed_is size now new side) ∙ armed))

  -- a server is made, or not
  pub made_arms : (event : Event) (now : Context) (new : Stage D M) → new.stops ≡ s.stops → ArmsRight r (running_of size now new) event
  made_arms event now new same =
      λ side armed.
      or_first (armed_of r side) (sets_in event side)
      (sym (armed_be side) ∙ (ap (λ (x : Stops). is_some (stop_at side x).armed) (sym same) ∙ (sym (armed_is size now new side) ∙ armed)))

  pub made_stops : (files blocks : ℕ) (faults : D → ℕ) (side : Side) (new : Stage D M) (answer : Result (Unit {0}) Unmade)
      → MakesAt told faults size mech (record { files = files; blocks = blocks }) side s new answer → new.stops ≡ s.stops
  made_stops files blocks faults Source new answer made = ap (λ (x : Stage D M). x.stops) made.rest
  made_stops files blocks faults Dest new answer made = ap (λ (x : Stage D M). x.stops) made.rest

  pub away_stops : (side : Side) (new : Stage D M) → AwayAt side s new → new.stops ≡ s.stops
  away_stops Source new away = ap (λ (x : Stage D M). x.stops) away
  away_stops Dest new away = ap (λ (x : Stage D M). x.stops) away

  -- where one is lost, no fuse is set either
  lost_arms : (event : Event) (now : Context) (new : Stage D M) (at : Side) (disk : D) (later : Running D M) → later ≡ lost_in at disk (running_of size now new)
      → ArmsRight r (running_of size now new) event → ArmsRight r later event
  lost_arms event now new at disk later is arms =
      λ side armed.
      arms side (sym (lost_armed side at disk (running_of size now new)) ∙ (ap (λ (x : Running D M). armed_of x side) (sym is) ∙ armed))

  module _ (m : RunMachines M) (read : Reading) (faults : D → ℕ) where
    -- what is said of an event that was carried out
    pub record Said (event : Event) (later : Running D M) (result : Stepped) : Type 0 where
      pub is : StepIs told m read faults size (mech_of r) r later event result
      pub went : later.context ≡ context_after r.context event result
      pub arms : ArmsRight r later event
      pub disks : HasDisks later

    pub once_says : (event : Event) (now : Context) (new : Stage D M) (result : Stepped) → IsSingle event → now ≡ after context event
        → StageGoes told m read faults size (event ∷ []) s new (text_in result) (fault_in result) → MakesNone result → KeepsStops told size fuse (sets_in event) s new
        → Said event (running_of size now new) result
    once_says event now new result single is goes made stops = record {
      is = subst (λ (x : Running D M). StepIs told m read faults size (mech_of r) x (running_of size now new) event result) seen
          (once_is told m read faults size (mech_of r) context now s new event result single goes made);
      went = context_be event now is ∙ sym (went_on r.context event result made);
      arms = once_arms event now new stops;
      disks = disks_went told m read faults size now (event ∷ []) s new result goes;
    }

    pub once_loses : (event : Event) (now : Context) (new : Stage D M) (lost : Lost D) (later : Running D M) (result : Stepped) → IsSingle event → now ≡ after context event
        → StageLoses told m read faults size (event ∷ []) s new lost → KeepsStops told size fuse (sets_in event) s new
        → later ≡ lost_in lost.side lost.disk (running_of size now new) → result ≡ stepped.Lost lost.side lost.cause → Said event later result
    once_loses event now new lost later result single is loses stops later_is result_is =
        subst (λ (x : Stepped). Said event later x) (sym result_is) (record {
          is = subst (λ (x : Running D M). StepIs told m read faults size (mech_of r) r x event (stepped.Lost lost.side lost.cause)) (sym later_is)
              (subst (λ (x : Running D M). StepIs told m read faults size (mech_of r) x (lost_in lost.side lost.disk (running_of size now new)) event (stepped.Lost lost.side lost.cause)) seen
              (once_lost told m read faults size (mech_of r) context now s new event lost single loses));
          went = ap (λ (x : Running D M). x.context) later_is
              ∙ (lost_context lost.side lost.disk (running_of size now new) ∙ ap (λ (c : Context). without lost.side c) (context_be event now is));
          arms = lost_arms event now new lost.side lost.disk later later_is (once_arms event now new stops);
          disks = subst (λ (x : Running D M). HasDisks x) (sym later_is) (disks_lost told m read faults size now (event ∷ []) s new lost loses);
        })

    pub flow_says : (now : Context) (new : Stage D M) (result : Stepped) → now ≡ after context kinds.Flow
        → StageGoes told m read faults size (map kinds.Deliver (waiting s.log)) s new (text_in result) (fault_in result) → MakesNone result → FlowKeepsStops told size fuse s new
        → Said kinds.Flow (running_of size now new) result
    flow_says now new result is goes made stops = record {
      is = subst (λ (x : Running D M). StepIs told m read faults size (mech_of r) x (running_of size now new) kinds.Flow result) seen
          (flow_is told m read faults size (mech_of r) context now s new result goes made);
      went = context_be kinds.Flow now is ∙ sym (went_on r.context kinds.Flow result made);
      arms = flow_arms now new stops;
      disks = disks_went told m read faults size now (map kinds.Deliver (waiting s.log)) s new result goes;
    }

    pub flow_loses : (now : Context) (new : Stage D M) (lost : Lost D) (later : Running D M) (result : Stepped) → now ≡ after context kinds.Flow
        → StageLoses told m read faults size (map kinds.Deliver (waiting s.log)) s new lost → FlowKeepsStops told size fuse s new
        → later ≡ lost_in lost.side lost.disk (running_of size now new) → result ≡ stepped.Lost lost.side lost.cause → Said kinds.Flow later result
    flow_loses now new lost later result is loses stops later_is result_is =
        subst (λ (x : Stepped). Said kinds.Flow later x) (sym result_is) (record {
          is = subst (λ (x : Running D M). StepIs told m read faults size (mech_of r) r x kinds.Flow (stepped.Lost lost.side lost.cause)) (sym later_is)
              (subst (λ (x : Running D M). StepIs told m read faults size (mech_of r) x (lost_in lost.side lost.disk (running_of size now new)) kinds.Flow (stepped.Lost lost.side lost.cause)) seen
              (flow_lost told m read faults size (mech_of r) context now s new lost loses));
          went = ap (λ (x : Running D M). x.context) later_is
              ∙ (lost_context lost.side lost.disk (running_of size now new) ∙ ap (λ (c : Context). without lost.side c) (context_be kinds.Flow now is));
          arms = lost_arms kinds.Flow now new lost.side lost.disk later later_is (flow_arms now new stops);
          disks = subst (λ (x : Running D M). HasDisks x) (sym later_is) (disks_lost told m read faults size now (map kinds.Deliver (waiting s.log)) s new lost loses);
        })

    -- ---- a server is made

    module _ (files blocks : ℕ) where
      pub make_disk : (side : Side) → IsTrue (admits r.context (kinds.Volume side files blocks)) → HasDisks r → IsDiskAt side s
      make_disk side may disks = disk_may told m read faults size fuse context mech files blocks s sound side (may_be (kinds.Volume side files blocks) may) (disks_be disks)

      pub make_shape : (side : Side) → IsTrue (admits r.context (kinds.Volume side files blocks)) → IsShape files blocks
      make_shape side may = shape_is context side files blocks (may_be (kinds.Volume side files blocks) may)

      pub make_sound : (side : Side) (now : Context) (new : Stage D M) → IsTrue (admits r.context (kinds.Volume side files blocks)) → now ≡ after context (kinds.Volume side files blocks)
          → MakesAt told faults size mech (record { files = files; blocks = blocks }) side s new (Ok tt) → fuse_in fuse (disk_at side new) ≡ Unset → IsSound told size fuse now mech new
      make_sound side now new may is made unset =
          subst (λ (c : Context). IsSound told size fuse c mech new) (sym is)
          (made_sound told m read faults size fuse context mech files blocks s sound side new (may_be (kinds.Volume side files blocks) may) made unset)

      made_steps : (side : Side) (now : Context) (new : Stage D M) (text : String Global) → now ≡ after context (kinds.Volume side files blocks)
          → MakesAt told faults size mech (record { files = files; blocks = blocks }) side s new (Ok tt) → string_bytes text ≡ []
          → StepIs told m read faults size (mech_of r) r (running_of size now new) (kinds.Volume side files blocks) (stepped.Went text)
      made_steps Source now new text is a none =
          subst (λ (c : Context). StepIs told m read faults size (mech_of r) r (running_of size c new) (kinds.Volume Source files blocks) (stepped.Went text)) (sym is)
          (subst (λ (x : Running D M). StepIs told m read faults size (mech_of x) x (running_of size (after context (kinds.Volume Source files blocks)) new) (kinds.Volume Source files blocks) (stepped.Went text)) seen
          (source_went told m read faults size fuse context mech files blocks s sound new text a.makes a.rest none))
      made_steps Dest now new text is a none =
          subst (λ (c : Context). StepIs told m read faults size (mech_of r) r (running_of size c new) (kinds.Volume Dest files blocks) (stepped.Went text)) (sym is)
          (subst (λ (x : Running D M). StepIs told m read faults size (mech_of x) x (running_of size (after context (kinds.Volume Dest files blocks)) new) (kinds.Volume Dest files blocks) (stepped.Went text)) seen
          (dest_went told m read faults size fuse context mech files blocks s sound new text a.makes a.rest none))

      pub make_says : (side : Side) (now : Context) (new : Stage D M) (text : String Global) → now ≡ after context (kinds.Volume side files blocks) → HasDisks r
          → MakesAt told faults size mech (record { files = files; blocks = blocks }) side s new (Ok tt) → string_bytes text ≡ []
          → Said (kinds.Volume side files blocks) (running_of size now new) (stepped.Went text)
      make_says side now new text is disks a none = record {
        is = made_steps side now new text is a none;
        went = context_be (kinds.Volume side files blocks) now is;
        arms = made_arms (kinds.Volume side files blocks) now new (made_stops files blocks faults side new (Ok tt) a);
        disks = made_disks told m read faults size fuse context mech files blocks s sound side new now (disks_be disks) a;
      }

      unmade_steps : (side : Side) (new : Stage D M) (cause : Unmade) → MakesAt told faults size mech (record { files = files; blocks = blocks }) side s new (Err cause)
          → StepIs told m read faults size (mech_of r) r (running_of size context new) (kinds.Volume side files blocks) (stepped.Unmade cause)
      unmade_steps Source new cause a =
          subst (λ (x : Running D M). StepIs told m read faults size (mech_of x) x (running_of size context new) (kinds.Volume Source files blocks) (stepped.Unmade cause)) seen
          (source_unmade told m read faults size fuse context mech files blocks s sound new cause a.makes a.rest)
      unmade_steps Dest new cause a =
          subst (λ (x : Running D M). StepIs told m read faults size (mech_of x) x (running_of size context new) (kinds.Volume Dest files blocks) (stepped.Unmade cause)) seen
          (dest_unmade told m read faults size fuse context mech files blocks s sound new cause a.makes a.rest)

      pub unmake_says : (side : Side) (new : Stage D M) (cause : Unmade) → HasDisks r → MakesAt told faults size mech (record { files = files; blocks = blocks }) side s new (Err cause)
          → Said (kinds.Volume side files blocks) (running_of size context new) (stepped.Unmade cause)
      unmake_says side new cause disks a = record {
        is = unmade_steps side new cause a;
        went = ap (λ (x : Running D M). x.context) seen;
        arms = made_arms (kinds.Volume side files blocks) context new (made_stops files blocks faults side new (Err cause) a);
        disks = unmade_disks told m read faults size fuse context mech files blocks s sound side new cause (disks_be disks) a;
      }

-- ---- disks that are handed back

pub source_holds : {D M : Type 0} (told : Type 0) (timeline : D → Timeline) (size : D → ℕ) (files : Option ℕ) (end : SourceEnd D M) (other : Option (DestState M)) (disk : Option D)
    → SourceFits told files end → told → SourceLeft timeline size end disk → Holds timeline size SOURCE_TAG (shown_at (source_state size end) other Source) disk
source_holds told timeline size (Some n) (source_end.Open core) other None fits t left = λ some. tt
source_holds told timeline size (Some n) (source_end.Open core) other (Some d) fits t left =
    λ some. (
      homes_by core.server.files.volume.homes,
      λ image may. subst (λ (tag : ℕ). MayBeLeft (size d) tag (homes_by core.server.files.volume.homes) core.server.files.volume.volume image) (fits t).1 (left image may),
    )
source_holds told timeline size None (source_end.Open core) other disk fits t left = absurd fits
source_holds told timeline size files source_end.Away other disk fits t left = tt
source_holds told timeline size files (source_end.Disk d) other disk fits t left = tt

pub dest_holds : {D M : Type 0} (told : Type 0) (timeline : D → Timeline) (size : D → ℕ) (files : Option ℕ) (end : DestEnd D M) (other : Option (SourceState M)) (disk : Option D)
    → DestFits told files end → told → DestLeft timeline size end disk → Holds timeline size DEST_TAG (shown_at other (dest_state size end) Dest) disk
dest_holds told timeline size (Some n) (dest_end.Open core) other None fits t left = λ some. tt
dest_holds told timeline size (Some n) (dest_end.Open core) other (Some d) fits t left =
    λ some. (
      homes_by core.server.files.volume.homes,
      λ image may. subst (λ (tag : ℕ). MayBeLeft (size d) tag (homes_by core.server.files.volume.homes) core.server.files.volume.volume image) (fits t).1 (left image may),
    )
dest_holds told timeline size None (dest_end.Open core) other disk fits t left = absurd fits
dest_holds told timeline size files dest_end.Away other disk fits t left = tt
dest_holds told timeline size files (dest_end.Disk d) other disk fits t left = tt

-- by what contracts see
pub source_held : {D M : Type 0} (told : Type 0) (timeline : D → Timeline) (size : D → ℕ) (context : Context) (s : Stage D M) (r : Running D M) (disk : Option D)
    → running_of size context s ≡ r → SourceFits told context.source s.source → told → SourceLeft timeline size s.source disk
    → Holds timeline size SOURCE_TAG (shown_at r.source_state r.dest_state Source) disk
source_held {D} {M} told timeline size context s r disk seen fits t left =
    subst (λ (x : Running D M). Holds timeline size SOURCE_TAG (shown_at x.source_state x.dest_state Source) disk) seen
    (source_holds told timeline size context.source s.source (dest_state size s.dest) disk fits t left)

pub dest_held : {D M : Type 0} (told : Type 0) (timeline : D → Timeline) (size : D → ℕ) (context : Context) (s : Stage D M) (r : Running D M) (disk : Option D)
    → running_of size context s ≡ r → DestFits told context.dest s.dest → told → DestLeft timeline size s.dest disk
    → Holds timeline size DEST_TAG (shown_at r.source_state r.dest_state Dest) disk
dest_held {D} {M} told timeline size context s r disk seen fits t left =
    subst (λ (x : Running D M). Holds timeline size DEST_TAG (shown_at x.source_state x.dest_state Dest) disk) seen
    (dest_holds told timeline size context.dest s.dest (source_state size s.source) disk fits t left)

-- ---- before the first event

pub source_place_fits : net_loc.Fits source_place
unfolding net_loc
source_place_fits = (ltb-true _ _ refl, (leb-true _ _ refl, leb-true _ _ refl))

pub dest_place_fits : net_loc.Fits dest_place
unfolding net_loc
dest_place_fits = (ltb-true _ _ refl, (leb-true _ _ refl, leb-true _ _ refl))

pub client_started : {M : Type 0} (client : ClientState M) (mech : M) (me : List ℕ) (source dest : NetLoc) → client ≡ new_client (record { mech = mech; me = me; source = source; dest = dest })
    → me ≡ user → source ≡ source_place → dest ≡ dest_place → client ≡ new_client (record { mech = mech; me = user; source = source_place; dest = dest_place })
client_started client mech me source dest is p q t =
    is ∙ (ap (λ (x : List ℕ). new_client (record { mech = mech; me = x; source = source; dest = dest })) p
    ∙ (ap (λ (x : NetLoc). new_client (record { mech = mech; me = user; source = x; dest = dest })) q
    ∙ ap (λ (x : NetLoc). new_client (record { mech = mech; me = user; source = source_place; dest = x })) t))

source_none : (D M : Type 0) (told : Type 0) (disk : Option D) → SourceFits {D = D} {M = M} told None (source_with disk)
source_none D M told None = tt
source_none D M told (Some d) = tt

dest_none : (D M : Type 0) (told : Type 0) (disk : Option D) → DestFits {D = D} {M = M} told None (dest_with disk)
dest_none D M told None = tt
dest_none D M told (Some d) = tt

no_source_steps : (D M : Type 0) (disk : Option D) → source_steps {D = D} {M = M} (source_with disk) ≡ 0
no_source_steps D M None = refl
no_source_steps D M (Some d) = refl

no_dest_steps : (D M : Type 0) (disk : Option D) → dest_steps {D = D} {M = M} (dest_with disk) ≡ 0
no_dest_steps D M None = refl
no_dest_steps D M (Some d) = refl

source_disk_with : (D M : Type 0) (disk : Option D) → source_disk {D = D} {M = M} (source_with disk) ≡ disk
source_disk_with D M None = refl
source_disk_with D M (Some d) = refl

dest_disk_with : (D M : Type 0) (disk : Option D) → dest_disk {D = D} {M = M} (dest_with disk) ≡ disk
dest_disk_with D M None = refl
dest_disk_with D M (Some d) = refl

no_source_state : {D M : Type 0} (size : D → ℕ) (disk : Option D) → source_state {D = D} {M = M} size (source_with disk) ≡ None
no_source_state size None = refl
no_source_state size (Some d) = refl

no_dest_state : {D M : Type 0} (size : D → ℕ) (disk : Option D) → dest_state {D = D} {M = M} size (dest_with disk) ≡ None
no_dest_state size None = refl
no_dest_state size (Some d) = refl

no_copy : {M : Type 0} (setting : Setting M) (j : ℕ) → copy_of j (new_client setting) ≡ None
no_copy setting j = by_test (nat_lt j MOST_COPIES) refl
  where
    by_test : (b : Bool) → nat_lt j MOST_COPIES ≡ b → copy_if b j (new_client setting) ≡ None
    by_test true is = get_or-replicate MOST_COPIES j None None (ltb-true j MOST_COPIES is)
    by_test false is = refl

module _ {D M : Type 0} (told : Type 0) (size : D → ℕ) (fuse : D → Fuse) (context : Context) (mech : M) (s : Stage D M) (a b : Option D)
    (context_is : context ≡ at_start) (source_is : s.source ≡ source_with a) (dest_is : s.dest ≡ dest_with b)
    (client_is : s.client ≡ new_client (record { mech = mech; me = user; source = source_place; dest = dest_place }))
    (clock_is : s.clock ≡ 0) (flowed_is : s.flowed ≡ 0) (log_is : s.log ≡ []) (choices_are : s.choices.items ≡ [])
    (source_rests : s.stops.source ≡ no_stop) (dest_rests : s.stops.dest ≡ no_stop) where
  pub new_sound : IsSound told size fuse context mech s
  new_sound =
      let steps_a = ap (λ (e : SourceEnd D M). source_steps e) source_is ∙ no_source_steps _ _ a in
      let steps_b = ap (λ (e : DestEnd D M). dest_steps e) dest_is ∙ no_dest_steps _ _ b in
      let steps_c : s.client.steps ≡ 0 = ap (λ (x : ClientState M). x.steps) client_is in
      let few : length s.choices.items ≡ 0 = ap (λ (l : List Choice). length l) choices_are in
      record {
        source_fits = subst (λ (c : Context). SourceFits told c.source s.source) (sym context_is) (subst (λ (e : SourceEnd D M). SourceFits told None e) (sym source_is) (source_none _ _ told a));
        dest_fits = subst (λ (c : Context). DestFits told c.dest s.dest) (sym context_is) (subst (λ (e : DestEnd D M). DestFits told None e) (sym dest_is) (dest_none _ _ told b));
        mech_is = ap (λ (x : ClientState M). x.setting.mech) client_is;
        events = omega (arith, ap (λ (c : Context). c.events) context_is);
        numbered = ap (λ (c : Context). length c.begun) context_is ∙ length-replicate (most_copies + 1) false;
        below = record { source = omega (arith, steps_a); dest = omega (arith, steps_b); client = omega (arith, steps_c); choices = omega (arith, few) };
        watched = watched_none told size fuse s a b source_is dest_is source_rests dest_rests;
        opened = numbered_none told (context.events + s.flowed) s a b source_is dest_is;
        clock_is = omega (arith, clock_is);
        bytes = omega (arith, ap bytes_of log_is);
        within = omega (arith, flowed_is);
        few = omega (arith, flowed_is);
        delivered = subst (λ (n : ℕ). AllDelivered n s.log) (sym flowed_is) tt;
        unbegun = λ j none. ap (λ (x : ClientState M). copy_of j x) client_is ∙ no_copy _ j;
      }

  pub new_rests : s.draws ≡ 0 → running_of size context s ≡ at_rest mech a b
  new_rests draws_are =
      let one : source_disk s.source ≡ a = ap (λ (e : SourceEnd D M). source_disk e) source_is ∙ source_disk_with _ _ a in
      let two : dest_disk s.dest ≡ b = ap (λ (e : DestEnd D M). dest_disk e) dest_is ∙ dest_disk_with _ _ b in
      let three : source_state size s.source ≡ None = ap (λ (e : SourceEnd D M). source_state size e) source_is ∙ no_source_state size a in
      let four : dest_state size s.dest ≡ None = ap (λ (e : DestEnd D M). dest_state size e) dest_is ∙ no_dest_state size b in
      let five : is_armed Source s ≡ false = ap (λ (x : Stop). is_some x.armed) source_rests in
      let six : is_armed Dest s ≡ false = ap (λ (x : Stop). is_some x.armed) dest_rests in
      cc
