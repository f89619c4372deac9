-- What always holds of a system: before the first event, before each small step, and after each event.
use Rattle.std.proofs.Common.{◌≡◌, ◌≢◌, ℕ, ◌+◌, ◌<◌, ◌≤◌, Bool, true, false, List, length, get_or, set, Option, Some, None, refl, sym, ap, ◌∙◌, subst, arith, get_or-set_same, get_or-set_other, length-set}
use Rattle.std.specs.Option.{option_map_or}
use Rattle.std.specs.Prelude.{◌&&◌, is_some, nat_le, nat_lt, not}
use Rattle.std.proofs.lemmas.Bool.{le-leb, leb-true, ltb-true}
use Rattle.client_steps.specs.declared.setting.Setting.{Setting}
use Rattle.disk_model.specs.declared.fuse.Fuse.{Fuse}
use Rattle.nfs_base.specs.declared.side.Side.{Side}
use Rattle.nfs_base.specs.declared.side.Side.TheVariants.{Source, Dest}
use Rattle.run_ends.specs.Ends.{is_worker}
use Rattle.wire_run.specs.Running.{HasDisks}
use Rattle.wire_run.specs.Stage.{AllDelivered, BeginsNone, BeginsOnly, DestHost, DestKeeps, FlowKeeps, HasFileAt, HasFileBelow, IsBelow, IsDestOpen, IsFair, IsFit, IsFlowing, IsOpenAt, IsReady, IsSourceOpen, SmallKeeps, DestLeaves, FlowKeepsStops, SourceHost, SourceKeeps, SourceLeaves, VolumeKeeps, begun_in, dest_disk, dest_files, source_disk, source_files}
use Rattle.wire_run.specs.System.{DestFits, IsSingle, IsSound, SourceFits, running_of}
use Rattle.wire_run.specs.Watching.{AreNumbered, KeepsStops, sets_in}
use Rattle.wire_run.specs.declared.ends.DestEnd.{DestEnd}
use Rattle.wire_run.specs.declared.ends.DestEnd.TheVariants as dest_end
use Rattle.wire_run.specs.declared.ends.SourceEnd.{SourceEnd}
use Rattle.wire_run.specs.declared.ends.SourceEnd.TheVariants as source_end
use Rattle.wire_run.specs.declared.stage.Stage.{Stage}
use Rattle.wire_run.proofs.SystemStops.{numbered_more}
use Rattle.wire_schedule.specs.Admission.{admits, after, has_begun, has_file, is_between, is_in_order, is_ready, is_within, most_copies, most_events, most_workers}
use Rattle.wire_schedule.specs.declared.context.Context.{Context}
use Rattle.wire_schedule.specs.declared.event.Event.{Event}
use Rattle.wire_schedule.specs.declared.event.Event.TheVariants as kinds

-- ---- tests

both : (a b : Bool) → (a && b) ≡ true → (a ≡ true) × (b ≡ true)
both true b e = (refl, e)
both false b e = absurd cc

not_true : (b : Bool) → not b ≡ true → b ≡ false
not_true false e = refl
not_true true e = absurd cc

one_some : {A : Type 0} (x y : A) → Some x ≡ Some y → x ≡ y
one_some x y e = cc

differs : true ≡ false → ⊥
differs e = cc

-- ---- servers that are there

source_ready : {D M : Type 0} (told : Type 0) (files : Option ℕ) (end : SourceEnd D M) → SourceFits told files end → is_some (source_disk end) ≡ true → is_some files ≡ true → IsSourceOpen end
source_ready told (Some files) (source_end.Open core) fits disk there = tt
source_ready told (Some files) source_end.Away fits disk there = absurd cc
source_ready told (Some files) (source_end.Disk d) fits disk there = absurd fits
source_ready told None end fits disk there = absurd cc

dest_ready : {D M : Type 0} (told : Type 0) (files : Option ℕ) (end : DestEnd D M) → DestFits told files end → is_some (dest_disk end) ≡ true → is_some files ≡ true → IsDestOpen end
dest_ready told (Some files) (dest_end.Open core) fits disk there = tt
dest_ready told (Some files) dest_end.Away fits disk there = absurd cc
dest_ready told (Some files) (dest_end.Disk d) fits disk there = absurd fits
dest_ready told None end fits disk there = absurd cc

-- ---- files that are there

has_some : (files : Option ℕ) (file : ℕ) → option_map_or (λ (n : ℕ). is_between 1 n file) files false ≡ true → is_some files ≡ true
has_some (Some n) file has = refl
has_some None file has = absurd cc

has_in_source : {D M : Type 0} (told : Type 0) (files : Option ℕ) (end : SourceEnd D M) (file : ℕ) → SourceFits told files end
    → option_map_or (λ (n : ℕ). is_between 1 n file) files false ≡ true → IsSourceOpen end → HasFileBelow told file (source_files end)
has_in_source told (Some n) (source_end.Open core) file fits has opened =
    let bounds = both (nat_le 1 file) (nat_le file n) has in
    record { no_root = leb-true 1 file bounds.0; there = λ t. omega (arith, (fits t).0, leb-true file n bounds.1) }
has_in_source told (Some n) source_end.Away file fits has opened = absurd opened
has_in_source told (Some n) (source_end.Disk d) file fits has opened = absurd opened
has_in_source told None end file fits has opened = absurd cc

has_in_dest : {D M : Type 0} (told : Type 0) (files : Option ℕ) (end : DestEnd D M) (file : ℕ) → DestFits told files end
    → option_map_or (λ (n : ℕ). is_between 1 n file) files false ≡ true → IsDestOpen end → HasFileBelow told file (dest_files end)
has_in_dest told (Some n) (dest_end.Open core) file fits has opened =
    let bounds = both (nat_le 1 file) (nat_le file n) has in
    record { no_root = leb-true 1 file bounds.0; there = λ t. omega (arith, (fits t).0, leb-true file n bounds.1) }
has_in_dest told (Some n) dest_end.Away file fits has opened = absurd opened
has_in_dest told (Some n) (dest_end.Disk d) file fits has opened = absurd opened
has_in_dest told None end file fits has opened = absurd cc

-- ---- what an event that may come keeps

within : (context : Context) (event : Event) → admits context event ≡ true → is_within event ≡ true
within context event may = (both (is_within event) (is_in_order context event) (both (nat_lt context.events most_events) _ may).1).0

ordered : (context : Context) (event : Event) → admits context event ≡ true → is_in_order context event ≡ true
ordered context event may = (both (is_within event) (is_in_order context event) (both (nat_lt context.events most_events) _ may).1).1

pub one_event : (context : Context) (event : Event) → admits context event ≡ true → context.events + 1 ≤ most_events
one_event context event may = omega (arith, ltb-true context.events most_events (both (nat_lt context.events most_events) _ may).0)

-- the destination has the workers that a schedule may name
a_worker : (worker : ℕ) → is_between 1 most_workers worker ≡ true → is_worker worker ≡ true
a_worker worker is = is

-- every event but a volume comes when both servers are there
pub is_served : (context : Context) (event : Event) → IsSingle event → admits context event ≡ true → is_ready context ≡ true
is_served context (kinds.Write side file off bytes) single may = (both _ _ (ordered context (kinds.Write side file off bytes) may)).0
is_served context (kinds.Commit side file) single may = (both _ _ (ordered context (kinds.Commit side file) may)).0
is_served context (kinds.Copy copy spec) single may = (both _ _ (ordered context (kinds.Copy copy spec) may)).0
is_served context (kinds.Status copy) single may = (both _ _ (ordered context (kinds.Status copy) may)).0
is_served context (kinds.Cancel copy) single may = (both _ _ (ordered context (kinds.Cancel copy) may)).0
is_served context kinds.Retry single may = ordered context kinds.Retry may
is_served context (kinds.Deliver number) single may = ordered context (kinds.Deliver number) may
is_served context (kinds.Work worker) single may = ordered context (kinds.Work worker) may
is_served context (kinds.Tick seconds) single may = ordered context (kinds.Tick seconds) may
is_served context (kinds.Peek side file off len) single may = (both _ _ (ordered context (kinds.Peek side file off len) may)).0
is_served context (kinds.Crash side pick) single may = ordered context (kinds.Crash side pick) may
is_served context (kinds.CrashAfter side calls pick) single may = ordered context (kinds.CrashAfter side calls pick) may
is_served context (kinds.Volume side files blocks) single may = absurd single
is_served context kinds.Flow single may = absurd single

pub is_served_flow : (context : Context) → admits context kinds.Flow ≡ true → is_ready context ≡ true
is_served_flow context may = ordered context kinds.Flow may

module _ {D M : Type 0} (told : Type 0) (size : D → ℕ) (fuse : D → Fuse) (context : Context) (mech : M) (s : Stage D M) (sound : IsSound told size fuse context mech s) where
  pub ready : HasDisks (running_of size context s) → is_ready context ≡ true → IsReady s
  ready disks there =
      let t = both (is_some context.source) (is_some context.dest) there in
      record {
        source = source_ready told context.source s.source sound.source_fits disks.source_there t.0;
        dest = dest_ready told context.dest s.dest sound.dest_fits disks.dest_there t.1;
      }

  -- so many events are few
  pub fair : IsReady s → IsFair told size fuse s
  fair opened = record {
    ready = opened;
    below = record {
      source = omega (arith, sound.below.source, sound.few, sound.events);
      dest = omega (arith, sound.below.dest, sound.few, sound.events);
      client = omega (arith, sound.below.client, sound.few, sound.events);
      choices = omega (arith, sound.below.choices, sound.few, sound.events);
    };
    bytes = sound.bytes;
    clock = omega (arith, sound.clock_is, sound.events);
    watched = sound.watched;
    numbered = numbered_more told (context.events + s.flowed) 67108862 s (omega (arith, sound.few, sound.events)) sound.opened;
  }

  pub flowing : IsReady s → IsFlowing told size fuse s
  flowing opened = record {
    ready = opened;
    below = record {
      source = omega (arith, sound.below.source, sound.events);
      dest = omega (arith, sound.below.dest, sound.events);
      client = omega (arith, sound.below.client, sound.events);
      choices = omega (arith, sound.below.choices, sound.events);
    };
    watched = sound.watched;
    numbered = numbered_more told (context.events + s.flowed) (1000000 + s.flowed) s (omega (arith, sound.events)) sound.opened;
    bytes = sound.bytes;
    clock = omega (arith, sound.clock_is, sound.events);
    within = sound.within;
    few = sound.few;
    delivered = sound.delivered;
  }

  -- the volume of a server that is there has a file
  pub has_there : (side : Side) (file : ℕ) → IsOpenAt side s → has_file context side file ≡ true → HasFileAt told side file s
  has_there Source file opened has = has_in_source told context.source s.source file sound.source_fits has opened
  has_there Dest file opened has = has_in_dest told context.dest s.dest file sound.dest_fits has opened

  has_file_at : (side : Side) (file : ℕ) → IsReady s → has_file context side file ≡ true → HasFileAt told side file s
  has_file_at Source file opened has = has_there Source file opened.source has
  has_file_at Dest file opened has = has_there Dest file opened.dest has

  -- so it is there
  pub open_at : (side : Side) (file : ℕ) → HasDisks (running_of size context s) → has_file context side file ≡ true → IsOpenAt side s
  open_at Source file disks has = source_ready told context.source s.source sound.source_fits disks.source_there (has_some context.source file has)
  open_at Dest file disks has = dest_ready told context.dest s.dest sound.dest_fits disks.dest_there (has_some context.dest file has)

  -- ---- an event that may come is one that can be carried out

  pub fits : (event : Event) → IsSingle event → IsReady s → admits context event ≡ true → IsFit told event s
  fits (kinds.Deliver number) single opened may = tt
  fits (kinds.Work worker) single opened may = a_worker worker (within context (kinds.Work worker) may)
  fits (kinds.Tick seconds) single opened may = leb-true seconds 1000000 (both (nat_le 1 seconds) (nat_le seconds 1000000) (within context (kinds.Tick seconds) may)).1
  fits (kinds.Peek side file off len) single opened may =
      has_file_at side file opened (both (is_ready context) (has_file context side file) (ordered context (kinds.Peek side file off len) may)).1
  fits (kinds.Write side file off bytes) single opened may = record {
    there = refl;
    new = tt;
    short = leb-true (length bytes) 65536 (both (nat_le 1 (length bytes)) (nat_le (length bytes) 65536) (both _ _ (within context (kinds.Write side file off bytes) may)).0).1;
  }
  fits (kinds.Commit side file) single opened may = record { there = refl; new = tt; short = omega arith }
  fits (kinds.Copy copy spec) single opened may =
      let bounds = both (nat_le 1 copy) (nat_le copy most_copies) (within context (kinds.Copy copy spec) may) in
      record {
        there = refl;
        new = record {
          first = leb-true 1 copy bounds.0;
          last = omega (arith, leb-true copy most_copies bounds.1);
          new = sound.unbegun copy (not_true (has_begun context copy) (both _ _ (both _ _ (ordered context (kinds.Copy copy spec) may)).1).0);
        };
        short = omega arith;
      }
  fits (kinds.Status copy) single opened may = record { there = refl; new = tt; short = omega arith }
  fits (kinds.Cancel copy) single opened may = record { there = refl; new = tt; short = omega arith }
  fits kinds.Retry single opened may = record { there = refl; new = tt; short = omega arith }
  fits (kinds.Crash side pick) single opened may = tt
  fits (kinds.CrashAfter side calls pick) single opened may = tt
  fits (kinds.Volume side files blocks) single opened may = absurd single
  fits kinds.Flow single opened may = absurd single

-- ---- what holds afterwards

fits_source : {D M : Type 0} (told : Type 0) (files : Option ℕ) (was : SourceHost D M) (new : SourceEnd D M) → SourceLeaves told was new
    → SourceFits told files (source_end.Open was) → SourceFits told files new
fits_source told None was new leaves fits = absurd fits
fits_source told (Some n) was (source_end.Open next) leaves fits = λ t. ((leaves t).files ∙ (fits t).0, (leaves t).tag ∙ (fits t).1)
fits_source told (Some n) was source_end.Away leaves fits = tt
fits_source told (Some n) was (source_end.Disk disk) leaves fits = absurd leaves

fits_dest : {D M : Type 0} (told : Type 0) (files : Option ℕ) (was : DestHost D M) (new : DestEnd D M) → DestLeaves told was new
    → DestFits told files (dest_end.Open was) → DestFits told files new
fits_dest told None was new leaves fits = absurd fits
fits_dest told (Some n) was (dest_end.Open next) leaves fits = λ t. ((leaves t).files ∙ (fits t).0, (leaves t).tag ∙ (fits t).1)
fits_dest told (Some n) was dest_end.Away leaves fits = tt
fits_dest told (Some n) was (dest_end.Disk disk) leaves fits = absurd leaves

below_at : {D M : Type 0} (n k : ℕ) (s : Stage D M) → n ≡ k → IsBelow n s → IsBelow k s
below_at n k s e b = subst (λ (i : ℕ). IsBelow i s) e b

below_more : {D M : Type 0} (n k : ℕ) (s : Stage D M) → n ≤ k → IsBelow n s → IsBelow k s
below_more n k s le b = record { source = omega (arith, b.source); dest = omega (arith, b.dest); client = omega (arith, b.client); choices = omega (arith, b.choices) }

begun_at : (begun : List Bool) (copy j : ℕ) → copy ≡ j → copy < length begun → copy ≤ most_copies → (nat_le j most_copies && get_or (set begun copy true) j false) ≡ true
begun_at begun copy j e within last =
    subst (λ (i : ℕ). (nat_le i most_copies && get_or (set begun copy true) i false) ≡ true) e
    (ap (λ (b : Bool). b && get_or (set begun copy true) copy false) (le-leb copy most_copies last) ∙ get_or-set_same begun copy true false within)

-- the copy of a number, where one was begun
copy_unbegun : (context : Context) (copy j : ℕ) → length context.begun ≡ most_copies + 1 → is_between 1 most_copies copy ≡ true
    → (nat_le j most_copies && get_or (set context.begun copy true) j false) ≡ false → (has_begun context j ≡ false) × (Some copy ≢ Some j)
copy_unbegun context copy j long is none =
    let last : copy ≤ most_copies = leb-true copy most_copies (both (nat_le 1 copy) (nat_le copy most_copies) is).1 in
    let other : copy ≢ j = λ e. differs (sym (begun_at context.begun copy j e (omega (arith, last, long)) last) ∙ none) in
    (ap (λ (b : Bool). nat_le j most_copies && b) (sym (get_or-set_other context.begun copy j true false (λ e. other (sym e)))) ∙ none, λ e. other (one_some copy j e))

pub source_fits_on : {D M : Type 0} (told : Type 0) (files : Option ℕ) (old new : SourceEnd D M) → SourceKeeps told old new → SourceFits told files old → SourceFits told files new
source_fits_on {D} {M} told files old new k fits = fits_source told files k.was new k.leaves (subst (λ (e : SourceEnd D M). SourceFits told files e) k.was_is fits)

pub dest_fits_on : {D M : Type 0} (told : Type 0) (files : Option ℕ) (old new : DestEnd D M) → DestKeeps told old new → DestFits told files old → DestFits told files new
dest_fits_on {D} {M} told files old new k fits = fits_dest told files k.was new k.leaves (subst (λ (e : DestEnd D M). DestFits told files e) k.was_is fits)

-- a copy that wasn't begun before an event, and isn't begun in it, isn't begun after it
still_unbegun : (context : Context) (event : Event) (j : ℕ) → IsSingle event → length context.begun ≡ most_copies + 1 → admits context event ≡ true
    → has_begun (after context event) j ≡ false → (has_begun context j ≡ false) × (begun_in event ≢ Some j)
still_unbegun context (kinds.Write side file off bytes) j single long may none = (none, λ e. cc)
still_unbegun context (kinds.Commit side file) j single long may none = (none, λ e. cc)
still_unbegun context (kinds.Copy copy spec) j single long may none = copy_unbegun context copy j long (within context (kinds.Copy copy spec) may) none
still_unbegun context (kinds.Status copy) j single long may none = (none, λ e. cc)
still_unbegun context (kinds.Cancel copy) j single long may none = (none, λ e. cc)
still_unbegun context kinds.Retry j single long may none = (none, λ e. cc)
still_unbegun context (kinds.Deliver number) j single long may none = (none, λ e. cc)
still_unbegun context (kinds.Work worker) j single long may none = (none, λ e. cc)
still_unbegun context (kinds.Tick seconds) j single long may none = (none, λ e. cc)
still_unbegun context (kinds.Peek side file off len) j single long may none = (none, λ e. cc)
still_unbegun context (kinds.Crash side pick) j single long may none = (none, λ e. cc)
still_unbegun context (kinds.CrashAfter side calls pick) j single long may none = (none, λ e. cc)
still_unbegun context (kinds.Volume side files blocks) j single long may none = absurd single
still_unbegun context kinds.Flow j single long may none = absurd single

-- the numbers of copies, and the servers, stay
numbered_on : (context : Context) (event : Event) → length (after context event).begun ≡ length context.begun
numbered_on context (kinds.Volume Source files blocks) = refl
numbered_on context (kinds.Volume Dest files blocks) = refl
numbered_on context (kinds.Write side file off bytes) = refl
numbered_on context (kinds.Commit side file) = refl
numbered_on context (kinds.Copy copy spec) = length-set context.begun copy true
numbered_on context (kinds.Status copy) = refl
numbered_on context (kinds.Cancel copy) = refl
numbered_on context kinds.Retry = refl
numbered_on context (kinds.Deliver number) = refl
numbered_on context kinds.Flow = refl
numbered_on context (kinds.Work worker) = refl
numbered_on context (kinds.Tick seconds) = refl
numbered_on context (kinds.Peek side file off len) = refl
numbered_on context (kinds.Crash side pick) = refl
numbered_on context (kinds.CrashAfter side calls pick) = refl

source_on : (context : Context) (event : Event) → IsSingle event → (after context event).source ≡ context.source
source_on context (kinds.Volume side files blocks) single = absurd single
source_on context kinds.Flow single = absurd single
source_on context (kinds.Write side file off bytes) single = refl
source_on context (kinds.Commit side file) single = refl
source_on context (kinds.Copy copy spec) single = refl
source_on context (kinds.Status copy) single = refl
source_on context (kinds.Cancel copy) single = refl
source_on context kinds.Retry single = refl
source_on context (kinds.Deliver number) single = refl
source_on context (kinds.Work worker) single = refl
source_on context (kinds.Tick seconds) single = refl
source_on context (kinds.Peek side file off len) single = refl
source_on context (kinds.Crash side pick) single = refl
source_on context (kinds.CrashAfter side calls pick) single = refl

dest_on : (context : Context) (event : Event) → IsSingle event → (after context event).dest ≡ context.dest
dest_on context (kinds.Volume side files blocks) single = absurd single
dest_on context kinds.Flow single = absurd single
dest_on context (kinds.Write side file off bytes) single = refl
dest_on context (kinds.Commit side file) single = refl
dest_on context (kinds.Copy copy spec) single = refl
dest_on context (kinds.Status copy) single = refl
dest_on context (kinds.Cancel copy) single = refl
dest_on context kinds.Retry single = refl
dest_on context (kinds.Deliver number) single = refl
dest_on context (kinds.Work worker) single = refl
dest_on context (kinds.Tick seconds) single = refl
dest_on context (kinds.Peek side file off len) single = refl
dest_on context (kinds.Crash side pick) single = refl
dest_on context (kinds.CrashAfter side calls pick) single = refl

pub sound_once : {D M : Type 0} (told : Type 0) (size : D → ℕ) (fuse : D → Fuse) (context : Context) (mech : M) (event : Event) (old new : Stage D M)
    → IsSound told size fuse context mech old → IsSingle event → admits context event ≡ true → SmallKeeps told old new → KeepsStops told size fuse (sets_in event) old new
    → BeginsOnly (begun_in event) old.client new.client → new.clock ≤ old.clock + 1000000 → IsSound told size fuse (after context event) mech new
sound_once told size fuse context mech event old new sound single may k stops begun clock = record {
  source_fits = subst (λ (files : Option ℕ). SourceFits told files new.source) (sym (source_on context event single)) (source_fits_on told context.source old.source new.source k.keeps.source sound.source_fits);
  dest_fits = subst (λ (files : Option ℕ). DestFits told files new.dest) (sym (dest_on context event single)) (dest_fits_on told context.dest old.dest new.dest k.keeps.dest sound.dest_fits);
  mech_is = ap (λ (s : Setting _). s.mech) k.keeps.setting ∙ sound.mech_is;
  events = one_event context event may;
  numbered = numbered_on context event ∙ sound.numbered;
  below = below_at _ _ new (omega (arith, k.flowed)) (k.below (context.events + old.flowed) sound.below);
  watched = stops.watched;
  opened = numbered_more told (context.events + old.flowed + 1) (context.events + 1 + new.flowed) new (omega (arith, k.flowed)) (stops.numbered (context.events + old.flowed) sound.opened);
  clock_is = omega (arith, clock, sound.clock_is);
  bytes = k.keeps.bytes;
  within = omega (arith, k.flowed, sound.within, k.keeps.log.longer);
  few = omega (arith, k.flowed, sound.few);
  delivered = subst (λ (n : ℕ). AllDelivered n new.log) (sym k.flowed) (k.keeps.log.delivered old.flowed sound.within sound.delivered);
  unbegun = λ j none. let u = still_unbegun context event j single sound.numbered may none in begun j u.1 (sound.unbegun j u.0);
}

pub sound_flow : {D M : Type 0} (told : Type 0) (size : D → ℕ) (fuse : D → Fuse) (context : Context) (mech : M) (old new : Stage D M)
    → IsSound told size fuse context mech old → admits context kinds.Flow ≡ true → FlowKeeps told old new → FlowKeepsStops told size fuse old new
    → BeginsNone old.client new.client → IsSound told size fuse (after context kinds.Flow) mech new
sound_flow told size fuse context mech old new sound may k stops begun = record {
  source_fits = source_fits_on told context.source old.source new.source k.keeps.source sound.source_fits;
  dest_fits = dest_fits_on told context.dest old.dest new.dest k.keeps.dest sound.dest_fits;
  mech_is = ap (λ (s : Setting _). s.mech) k.keeps.setting ∙ sound.mech_is;
  events = one_event context kinds.Flow may;
  numbered = sound.numbered;
  below = below_more _ _ new (omega arith) (k.below context.events sound.below);
  watched = stops.watched;
  opened = numbered_more told (context.events + new.flowed) (context.events + 1 + new.flowed) new (omega arith) (stops.numbered context.events sound.opened);
  clock_is = omega (arith, k.clock, sound.clock_is);
  bytes = k.keeps.bytes;
  within = k.within;
  few = k.few;
  delivered = k.delivered;
  unbegun = λ j none. begun j (sound.unbegun j none);
}
