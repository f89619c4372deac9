-- A system in which a server is made, or can't be.
use Rattle.std.proofs.Common.{◌≡◌, ℕ, ◌+◌, ◌*◌, ◌≤◌, Bool, true, false, [], Option, Some, None, refl, sym, ap, ◌∙◌, subst, arith, inl, inr}
use Rattle.std.specs.Prelude.{◌&&◌, Result, Ok, Err, is_none, is_some, nat_le, nat_lt}
use Rattle.std.specs.String.{string_bytes}
use Rattle.std.specs.declared.string.String.{String}
use Rattle.std.specs.declared.alloc.Global.{Global}
use Rattle.std.proofs.lemmas.Bool.{leb-true}
use Rattle.copy_model.specs.Volume.{Volume}
use Rattle.disk_model.specs.declared.fuse.Fuse.{Fuse}
use Rattle.disk_model.specs.declared.fuse.Fuse.TheVariants.{Unset}
use Rattle.nfs_base.specs.declared.side.Side.{Side}
use Rattle.nfs_base.specs.declared.side.Side.TheVariants.{Source, Dest}
use Rattle.outcome.specs.Causes.{Rose}
use Rattle.session_server.specs.Host.{host_of}
use Rattle.wire_machine.specs.Check.{Reading}
use Rattle.wire_run.specs.Cutting.{disk_at}
use Rattle.wire_run.specs.Fresh.{DestOpens, DestStays, IsDestDisk, IsShape, IsSourceDisk, IsUnmade, SourceOpens, SourceStays, small_for}
use Rattle.run_ends.specs.First.{IsFreshDest, IsFreshSource}
use Rattle.wire_run.specs.Making.{AwayAt, IsDiskAt, MakesAt}
use Rattle.wire_run.specs.Running.{HasDisks, Later, UnmadeFor, VolumeIs, faults_in, size_in}
use Rattle.run_ends.specs.Ends.{RunMachines}
use Rattle.wire_run.specs.Stage.{IsBelow, dest_disk, dest_steps, source_disk, source_steps}
use Rattle.wire_run.specs.System.{DestFits, IsSound, SourceFits, dest_state, lost_in, running_of, source_state}
use Rattle.wire_run.specs.Watching.{AreNumbered, DestNumbered, DestWatched, SourceNumbered, SourceWatched, fuse_in, no_stop}
use Rattle.wire_run.specs.declared.ends.DestEnd.{DestEnd}
use Rattle.wire_run.specs.declared.ends.DestEnd.TheVariants as dest_end
use Rattle.wire_run.specs.declared.ends.SourceEnd.{SourceEnd}
use Rattle.wire_run.specs.declared.ends.SourceEnd.TheVariants as source_end
use Rattle.wire_run.specs.declared.fresh.Unmade.{Unmade}
use Rattle.wire_run.specs.declared.fresh.Unmade.TheVariants as unmade
use Rattle.wire_run.specs.declared.stage.Stage.{Stage}
use Rattle.wire_run.specs.declared.stage.Stop.{Stop}
use Rattle.wire_run.specs.declared.system.Stepped.TheVariants as stepped
use Rattle.wire_run.proofs.Making.{fits_none, short_some}
use Rattle.wire_run.proofs.Sound.{one_event}
use Rattle.wire_run.proofs.SystemStops.{dest_gone, dest_rests, numbered_more, source_gone, source_rests, watched_new}
use Rattle.wire_schedule.specs.Admission.{admits, after, is_between, most_events}
use Rattle.wire_schedule.specs.declared.context.Context.{Context}
use Rattle.wire_schedule.specs.declared.event.Event.TheVariants as kinds

both : (a b : Bool) → (a && b) ≡ true → (a ≡ true) × (b ≡ true)
both true b e = (refl, e)
both false b e = absurd cc

none_of : {A : Type 0} (o : Option A) → is_none o ≡ true → o ≡ None
none_of None e = refl
none_of (Some x) e = absurd cc

-- a disk that is there, and no server
source_disk_there : {D M : Type 0} (told : Type 0) (files : Option ℕ) (end : SourceEnd D M) → SourceFits told files end → files ≡ None → is_some (source_disk end) ≡ true → IsSourceDisk end
source_disk_there told None (source_end.Disk disk) fits none there = tt
source_disk_there told None source_end.Away fits none there = absurd cc
source_disk_there told None (source_end.Open core) fits none there = absurd fits
source_disk_there told (Some n) end fits none there = absurd cc

dest_disk_there : {D M : Type 0} (told : Type 0) (files : Option ℕ) (end : DestEnd D M) → DestFits told files end → files ≡ None → is_some (dest_disk end) ≡ true → IsDestDisk end
dest_disk_there told None (dest_end.Disk disk) fits none there = tt
dest_disk_there told None dest_end.Away fits none there = absurd cc
dest_disk_there told None (dest_end.Open core) fits none there = absurd fits
dest_disk_there told (Some n) end fits none there = absurd cc

-- a volume that may come has a shape
pub shape_is : (context : Context) (side : Side) (files blocks : ℕ) → admits context (kinds.Volume side files blocks) ≡ true → IsShape files blocks
shape_is context side files blocks may =
    let w = both (is_between 1 64 files) _ (both _ _ (both (nat_lt context.events most_events) _ may).1).0 in
    let f = both (nat_le 1 files) (nat_le files 64) w.0 in
    let r = both (is_between 1 16384 blocks) (nat_le (files * blocks) 16384) w.1 in
    let b = both (nat_le 1 blocks) (nat_le blocks 16384) r.0 in
    record {
      some_files = leb-true 1 files f.0;
      few_files = leb-true files 64 f.1;
      some_blocks = leb-true 1 blocks b.0;
      few_blocks = leb-true blocks 16384 b.1;
      room = leb-true (files * blocks) 16384 r.1;
    }

-- ---- disks

-- a disk on which nothing failed, as large as before
made_later : {D : Type 0} (faults size : D → ℕ) (o : Option D) (disk now : D) → o ≡ Some disk → faults disk ≤ faults now → size now ≡ size disk → Later faults size 0 o (Some now)
made_later {D} faults size o disk now is later as_large =
    subst (λ (x : Option D). Later faults size 0 x (Some now)) (sym is) (record { there = refl; rose = omega (arith, later); as_large = as_large })

same_later : {D : Type 0} (faults size : D → ℕ) (o : Option D) → Later faults size 0 o o
same_later faults size o = record { there = refl; rose = omega arith; as_large = refl }

rose_at : {D : Type 0} (faults : D → ℕ) (o : Option D) (disk now : D) → o ≡ Some disk → Rose (faults disk) (faults now) → Rose (faults_in faults o) (faults now)
rose_at {D} faults o disk now is rose = subst (λ (x : Option D). Rose (faults_in faults x) (faults now)) (sym is) rose

boot_few : (boot n : ℕ) → boot ≡ 1 → boot ≤ n + 1
boot_few boot n is = omega (arith, is)

module _ {D M : Type 0} (told : Type 0) (m : RunMachines M) (read : Reading) (faults size : D → ℕ) (fuse : D → Fuse) (context : Context) (mech : M) (files blocks : ℕ) (s : Stage D M)
    (sound : IsSound told size fuse context mech s) where
  -- ---- before

  pub source_may : admits context (kinds.Volume Source files blocks) ≡ true → HasDisks (running_of size context s) → IsSourceDisk s.source
  source_may may disks =
      source_disk_there told context.source s.source sound.source_fits (none_of context.source (both _ _ (both (nat_lt context.events most_events) _ may).1).1) disks.source_there

  pub dest_may : admits context (kinds.Volume Dest files blocks) ≡ true → HasDisks (running_of size context s) → IsDestDisk s.dest
  dest_may may disks =
      dest_disk_there told context.dest s.dest sound.dest_fits (none_of context.dest (both _ _ (both (nat_lt context.events most_events) _ may).1).1) disks.dest_there

  -- ---- the source is made

  pub source_sound : (new : Stage D M) → admits context (kinds.Volume Source files blocks) ≡ true → SourceOpens told faults size mech (record { files = files; blocks = blocks }) s.source new.source
      → new ≡ record s { source = new.source } → fuse_in fuse (source_disk new.source) ≡ Unset → IsSound told size fuse (after context (kinds.Volume Source files blocks)) mech new
  source_sound new may o rest unset =
      subst (λ (x : Stage D M). IsSound told size fuse (after context (kinds.Volume Source files blocks)) mech x) (sym (rest ∙ ap (λ (e : SourceEnd D M). record s { source = e }) o.new_is)) (record {
        source_fits = λ t. (o.made.made.count, (o.made.fresh t).tag);
        dest_fits = sound.dest_fits;
        mech_is = sound.mech_is;
        events = one_event context (kinds.Volume Source files blocks) may;
        numbered = sound.numbered;
        below = record {
          source = omega (arith, o.made.made.steps);
          dest = omega (arith, sound.below.dest);
          client = omega (arith, sound.below.client);
          choices = omega (arith, sound.below.choices);
        };
        watched = record {
          source = watched_new told size fuse o.core.server.files.volume s.stops.source files (blocks * 4096) (source_rests told size fuse s.source o.disk s.stops.source o.old_is sound.watched.source)
              (sym (ap (λ (e : SourceEnd D M). fuse_in fuse (source_disk e)) o.new_is) ∙ unset) (λ t. (o.made.fresh t).volume);
          dest = sound.watched.dest;
        };
        opened = record {
          source = λ t. boot_few o.core.server.files.volume.volume.boot (context.events + 1 + s.flowed) (ap (λ (v : Volume). v.boot) (o.made.fresh t).volume);
          dest = λ t. (numbered_more told (context.events + s.flowed) (context.events + 1 + s.flowed) s (omega arith) sound.opened).dest t;
        };
        clock_is = omega (arith, sound.clock_is);
        bytes = sound.bytes;
        within = sound.within;
        few = sound.few;
        delivered = sound.delivered;
        unbegun = sound.unbegun;
      })

  pub source_went : (new : Stage D M) (text : String Global) → SourceOpens told faults size mech (record { files = files; blocks = blocks }) s.source new.source → new ≡ record s { source = new.source } → string_bytes text ≡ []
      → VolumeIs told faults size s.client.setting.mech Source (record { files = files; blocks = blocks }) (running_of size context s)
      (running_of size (after context (kinds.Volume Source files blocks)) new) (kinds.Volume Source files blocks) (stepped.Went text)
  source_went new text o rest none =
      let there : source_disk s.source ≡ Some o.disk = ap (λ (e : SourceEnd D M). source_disk e) o.old_is in
      subst (λ (x : Stage D M). VolumeIs told faults size s.client.setting.mech Source (record { files = files; blocks = blocks }) (running_of size context s)
      (running_of size (after context (kinds.Volume Source files blocks)) x) (kinds.Volume Source files blocks) (stepped.Went text))
      (sym (rest ∙ ap (λ (e : SourceEnd D M). record s { source = e }) o.new_is)) (
        none,
        refl,
        ap (λ (x : Option D). small_for Source (size_in size x) files blocks) there ∙ fits_none Source (size o.disk) files blocks o.made.made.fits,
        (host_of size o.core, refl, λ t. subst (λ (x : M). IsFreshSource x (record { files = files; blocks = blocks }) (host_of size o.core)) (sym sound.mech_is) (o.made.fresh t)),
        made_later faults size (source_disk s.source) o.disk o.core.server.files.volume.disk there o.made.made.later o.made.made.as_large,
        same_later faults size (dest_disk s.dest),
      )

  -- ---- the destination is made

  pub dest_sound : (new : Stage D M) → admits context (kinds.Volume Dest files blocks) ≡ true → DestOpens told faults size mech (record { files = files; blocks = blocks }) s.dest new.dest
      → new ≡ record s { dest = new.dest } → fuse_in fuse (dest_disk new.dest) ≡ Unset → IsSound told size fuse (after context (kinds.Volume Dest files blocks)) mech new
  dest_sound new may o rest unset =
      subst (λ (x : Stage D M). IsSound told size fuse (after context (kinds.Volume Dest files blocks)) mech x) (sym (rest ∙ ap (λ (e : DestEnd D M). record s { dest = e }) o.new_is)) (record {
        source_fits = sound.source_fits;
        dest_fits = λ t. (o.made.made.count, (o.made.fresh t).tag);
        mech_is = sound.mech_is;
        events = one_event context (kinds.Volume Dest files blocks) may;
        numbered = sound.numbered;
        below = record {
          source = omega (arith, sound.below.source);
          dest = omega (arith, o.made.made.steps);
          client = omega (arith, sound.below.client);
          choices = omega (arith, sound.below.choices);
        };
        watched = record {
          source = sound.watched.source;
          dest = watched_new told size fuse o.core.server.files.volume s.stops.dest files (blocks * 4096) (dest_rests told size fuse s.dest o.disk s.stops.dest o.old_is sound.watched.dest)
              (sym (ap (λ (e : DestEnd D M). fuse_in fuse (dest_disk e)) o.new_is) ∙ unset) (λ t. (o.made.fresh t).volume);
        };
        opened = record {
          source = λ t. (numbered_more told (context.events + s.flowed) (context.events + 1 + s.flowed) s (omega arith) sound.opened).source t;
          dest = λ t. boot_few o.core.server.files.volume.volume.boot (context.events + 1 + s.flowed) (ap (λ (v : Volume). v.boot) (o.made.fresh t).volume);
        };
        clock_is = omega (arith, sound.clock_is);
        bytes = sound.bytes;
        within = sound.within;
        few = sound.few;
        delivered = sound.delivered;
        unbegun = sound.unbegun;
      })

  pub dest_went : (new : Stage D M) (text : String Global) → DestOpens told faults size mech (record { files = files; blocks = blocks }) s.dest new.dest → new ≡ record s { dest = new.dest } → string_bytes text ≡ []
      → VolumeIs told faults size s.client.setting.mech Dest (record { files = files; blocks = blocks }) (running_of size context s)
      (running_of size (after context (kinds.Volume Dest files blocks)) new) (kinds.Volume Dest files blocks) (stepped.Went text)
  dest_went new text o rest none =
      let there : dest_disk s.dest ≡ Some o.disk = ap (λ (e : DestEnd D M). dest_disk e) o.old_is in
      subst (λ (x : Stage D M). VolumeIs told faults size s.client.setting.mech Dest (record { files = files; blocks = blocks }) (running_of size context s)
      (running_of size (after context (kinds.Volume Dest files blocks)) x) (kinds.Volume Dest files blocks) (stepped.Went text))
      (sym (rest ∙ ap (λ (e : DestEnd D M). record s { dest = e }) o.new_is)) (
        none,
        refl,
        ap (λ (x : Option D). small_for Dest (size_in size x) files blocks) there ∙ fits_none Dest (size o.disk) files blocks o.made.made.fits,
        (host_of size o.core, refl, λ t. subst (λ (x : M). IsFreshDest x (record { files = files; blocks = blocks }) (host_of size o.core)) (sym sound.mech_is) (o.made.fresh t)),
        same_later faults size (source_disk s.source),
        made_later faults size (dest_disk s.dest) o.disk o.core.server.files.volume.disk there o.made.made.later o.made.made.as_large,
      )

  -- ---- the source can't be made

  source_why : (cause : Unmade) (disk now : D) → source_disk s.source ≡ Some disk → IsUnmade told faults size (record { files = files; blocks = blocks }) disk now cause → s.source ≡ source_end.Disk disk
      → UnmadeFor told faults size (running_of size context s) (running_of size context (record s { source = source_end.Disk now })) (kinds.Volume Source files blocks) cause
  source_why unmade.DiskFailed disk now there u was = inl (rose_at faults (source_disk s.source) disk now there u.why.0)
  source_why (unmade.TooSmall need have) disk now there u was = record {
    side = Source;
    small = short_some Source (size_in size (source_disk s.source)) files blocks need have u.why.need_is (u.why.have_is ∙ sym (ap (λ (x : Option D). size_in size x) there)) u.why.short;
    untouched = ap (λ (d : D). running_of size context (record s { source = source_end.Disk d })) u.why.untouched ∙ ap (λ (e : SourceEnd D M). running_of size context (record s { source = e })) (sym was);
  }
  source_why (unmade.NotVolume block at) disk now there u was = u.why.0

  pub source_unmade : (new : Stage D M) (cause : Unmade) → SourceStays told faults size (record { files = files; blocks = blocks }) s.source new.source cause → new ≡ record s { source = new.source }
      → VolumeIs told faults size s.client.setting.mech Source (record { files = files; blocks = blocks }) (running_of size context s) (running_of size context new) (kinds.Volume Source files blocks) (stepped.Unmade cause)
  source_unmade new cause o rest =
      let there : source_disk s.source ≡ Some o.disk = ap (λ (e : SourceEnd D M). source_disk e) o.old_is in
      subst (λ (x : Stage D M). VolumeIs told faults size s.client.setting.mech Source (record { files = files; blocks = blocks }) (running_of size context s) (running_of size context x) (kinds.Volume Source files blocks) (stepped.Unmade cause))
      (sym (rest ∙ ap (λ (e : SourceEnd D M). record s { source = e }) o.new_is)) (
        source_why cause o.disk o.now there o.unmade o.old_is,
        made_later faults size (source_disk s.source) o.disk o.now there o.unmade.later o.unmade.as_large,
        same_later faults size (dest_disk s.dest),
        refl,
      )

  dest_why : (cause : Unmade) (disk now : D) → dest_disk s.dest ≡ Some disk → IsUnmade told faults size (record { files = files; blocks = blocks }) disk now cause → s.dest ≡ dest_end.Disk disk
      → UnmadeFor told faults size (running_of size context s) (running_of size context (record s { dest = dest_end.Disk now })) (kinds.Volume Dest files blocks) cause
  dest_why unmade.DiskFailed disk now there u was = inr (rose_at faults (dest_disk s.dest) disk now there u.why.0)
  dest_why (unmade.TooSmall need have) disk now there u was = record {
    side = Dest;
    small = short_some Dest (size_in size (dest_disk s.dest)) files blocks need have u.why.need_is (u.why.have_is ∙ sym (ap (λ (x : Option D). size_in size x) there)) u.why.short;
    untouched = ap (λ (d : D). running_of size context (record s { dest = dest_end.Disk d })) u.why.untouched ∙ ap (λ (e : DestEnd D M). running_of size context (record s { dest = e })) (sym was);
  }
  dest_why (unmade.NotVolume block at) disk now there u was = u.why.0

  pub dest_unmade : (new : Stage D M) (cause : Unmade) → DestStays told faults size (record { files = files; blocks = blocks }) s.dest new.dest cause → new ≡ record s { dest = new.dest }
      → VolumeIs told faults size s.client.setting.mech Dest (record { files = files; blocks = blocks }) (running_of size context s) (running_of size context new) (kinds.Volume Dest files blocks) (stepped.Unmade cause)
  dest_unmade new cause o rest =
      let there : dest_disk s.dest ≡ Some o.disk = ap (λ (e : DestEnd D M). dest_disk e) o.old_is in
      subst (λ (x : Stage D M). VolumeIs told faults size s.client.setting.mech Dest (record { files = files; blocks = blocks }) (running_of size context s) (running_of size context x) (kinds.Volume Dest files blocks) (stepped.Unmade cause))
      (sym (rest ∙ ap (λ (e : DestEnd D M). record s { dest = e }) o.new_is)) (
        dest_why cause o.disk o.now there o.unmade o.old_is,
        same_later faults size (source_disk s.source),
        made_later faults size (dest_disk s.dest) o.disk o.now there o.unmade.later o.unmade.as_large,
        refl,
      )

  -- ---- the same by the side

  pub disk_may : (side : Side) → admits context (kinds.Volume side files blocks) ≡ true → HasDisks (running_of size context s) → IsDiskAt side s
  disk_may Source may disks = source_may may disks
  disk_may Dest may disks = dest_may may disks

  pub made_sound : (side : Side) (new : Stage D M) → admits context (kinds.Volume side files blocks) ≡ true
      → MakesAt told faults size mech (record { files = files; blocks = blocks }) side s new (Ok tt) → fuse_in fuse (disk_at side new) ≡ Unset
      → IsSound told size fuse (after context (kinds.Volume side files blocks)) mech new
  made_sound Source new may made unset = source_sound new may made.makes made.rest unset
  made_sound Dest new may made unset = dest_sound new may made.makes made.rest unset

  pub made_disks : (side : Side) (new : Stage D M) (now : Context) → HasDisks (running_of size context s)
      → MakesAt told faults size mech (record { files = files; blocks = blocks }) side s new (Ok tt) → HasDisks (running_of size now new)
  made_disks Source new now disks made = record {
    source_there = let o : SourceOpens told faults size mech (record { files = files; blocks = blocks }) s.source new.source = made.makes in
        ap (λ (e : SourceEnd D M). is_some (source_disk e)) o.new_is;
    dest_there = ap (λ (x : Stage D M). is_some (dest_disk x.dest)) made.rest ∙ disks.dest_there;
  }
  made_disks Dest new now disks made = record {
    source_there = ap (λ (x : Stage D M). is_some (source_disk x.source)) made.rest ∙ disks.source_there;
    dest_there = let o : DestOpens told faults size mech (record { files = files; blocks = blocks }) s.dest new.dest = made.makes in
        ap (λ (e : DestEnd D M). is_some (dest_disk e)) o.new_is;
  }

  pub unmade_disks : (side : Side) (new : Stage D M) (cause : Unmade) → HasDisks (running_of size context s)
      → MakesAt told faults size mech (record { files = files; blocks = blocks }) side s new (Err cause) → HasDisks (running_of size context new)
  unmade_disks Source new cause disks made = record {
    source_there = let o : SourceStays told faults size (record { files = files; blocks = blocks }) s.source new.source cause = made.makes in
        ap (λ (e : SourceEnd D M). is_some (source_disk e)) o.new_is;
    dest_there = ap (λ (x : Stage D M). is_some (dest_disk x.dest)) made.rest ∙ disks.dest_there;
  }
  unmade_disks Dest new cause disks made = record {
    source_there = ap (λ (x : Stage D M). is_some (source_disk x.source)) made.rest ∙ disks.source_there;
    dest_there = let o : DestStays told faults size (record { files = files; blocks = blocks }) s.dest new.dest cause = made.makes in
        ap (λ (e : DestEnd D M). is_some (dest_disk e)) o.new_is;
  }

-- ---- an end that isn't a server takes the place of one

module _ {D M : Type 0} (told : Type 0) (size : D → ℕ) (fuse : D → Fuse) (context : Context) (mech : M) (s : Stage D M) (sound : IsSound told size fuse context mech s) where
  pub with_source : (files : Option ℕ) (end : SourceEnd D M) → SourceFits told files end → source_steps end ≤ context.events + s.flowed → SourceWatched told size fuse end s.stops.source
      → (told → SourceNumbered (context.events + s.flowed) end) → IsSound told size fuse (record context { source = files }) mech (record s { source = end })
  with_source files end fits steps watched numbered = record {
    source_fits = fits;
    dest_fits = sound.dest_fits;
    mech_is = sound.mech_is;
    events = sound.events;
    numbered = sound.numbered;
    below = record { source = steps; dest = sound.below.dest; client = sound.below.client; choices = sound.below.choices };
    watched = record { source = watched; dest = sound.watched.dest };
    opened = record { source = numbered; dest = sound.opened.dest };
    clock_is = sound.clock_is;
    bytes = sound.bytes;
    within = sound.within;
    few = sound.few;
    delivered = sound.delivered;
    unbegun = sound.unbegun;
  }

  pub with_dest : (files : Option ℕ) (end : DestEnd D M) → DestFits told files end → dest_steps end ≤ context.events + s.flowed → DestWatched told size fuse end s.stops.dest
      → (told → DestNumbered (context.events + s.flowed) end) → IsSound told size fuse (record context { dest = files }) mech (record s { dest = end })
  with_dest files end fits steps watched numbered = record {
    source_fits = sound.source_fits;
    dest_fits = fits;
    mech_is = sound.mech_is;
    events = sound.events;
    numbered = sound.numbered;
    below = record { source = sound.below.source; dest = steps; client = sound.below.client; choices = sound.below.choices };
    watched = record { source = sound.watched.source; dest = watched };
    opened = record { source = sound.opened.source; dest = numbered };
    clock_is = sound.clock_is;
    bytes = sound.bytes;
    within = sound.within;
    few = sound.few;
    delivered = sound.delivered;
    unbegun = sound.unbegun;
  }

  -- a server is lost, and its disk is on its own
  pub lost_source_sound : (disk : D) → source_state size s.source ≡ None
      → IsSound told size fuse (record context { source = None }) mech (record s { source = source_end.Disk disk })
  lost_source_sound disk gone =
      with_source None (source_end.Disk disk) tt (omega arith) (source_gone told size fuse s.source s.stops.source gone sound.watched.source) (λ t. tt)

  pub lost_dest_sound : (disk : D) → dest_state size s.dest ≡ None
      → IsSound told size fuse (record context { dest = None }) mech (record s { dest = dest_end.Disk disk })
  lost_dest_sound disk gone =
      with_dest None (dest_end.Disk disk) tt (omega arith) (dest_gone told size fuse s.dest s.stops.dest gone sound.watched.dest) (λ t. tt)

  -- ---- it couldn't be made, or memory ran out

  source_fits_disk : (files : Option ℕ) (disk now : D) → SourceFits {D = D} {M = M} told files (source_end.Disk disk) → SourceFits {D = D} {M = M} told files (source_end.Disk now)
  source_fits_disk None disk now fits = tt
  source_fits_disk (Some n) disk now fits = fits

  dest_fits_disk : (files : Option ℕ) (disk now : D) → DestFits {D = D} {M = M} told files (dest_end.Disk disk) → DestFits {D = D} {M = M} told files (dest_end.Disk now)
  dest_fits_disk None disk now fits = tt
  dest_fits_disk (Some n) disk now fits = fits

  source_fits_away : (files : Option ℕ) → SourceFits {D = D} {M = M} told files source_end.Away
  source_fits_away None = tt
  source_fits_away (Some n) = tt

  dest_fits_away : (files : Option ℕ) → DestFits {D = D} {M = M} told files dest_end.Away
  dest_fits_away None = tt
  dest_fits_away (Some n) = tt

  module _ (faults : D → ℕ) (files blocks : ℕ) where
    unmade_source_sound : (new : Stage D M) (cause : Unmade) → SourceStays told faults size (record { files = files; blocks = blocks }) s.source new.source cause
        → new ≡ record s { source = new.source } → IsSound told size fuse context mech new
    unmade_source_sound new cause o rest =
        subst (λ (x : Stage D M). IsSound told size fuse context mech x) (sym (rest ∙ ap (λ (e : SourceEnd D M). record s { source = e }) o.new_is))
        (with_source context.source (source_end.Disk o.now)
        (source_fits_disk context.source o.disk o.now (subst (λ (e : SourceEnd D M). SourceFits told context.source e) o.old_is sound.source_fits)) (omega arith)
        (source_rests told size fuse s.source o.disk s.stops.source o.old_is sound.watched.source) (λ t. tt))

    unmade_dest_sound : (new : Stage D M) (cause : Unmade) → DestStays told faults size (record { files = files; blocks = blocks }) s.dest new.dest cause
        → new ≡ record s { dest = new.dest } → IsSound told size fuse context mech new
    unmade_dest_sound new cause o rest =
        subst (λ (x : Stage D M). IsSound told size fuse context mech x) (sym (rest ∙ ap (λ (e : DestEnd D M). record s { dest = e }) o.new_is))
        (with_dest context.dest (dest_end.Disk o.now)
        (dest_fits_disk context.dest o.disk o.now (subst (λ (e : DestEnd D M). DestFits told context.dest e) o.old_is sound.dest_fits)) (omega arith)
        (dest_rests told size fuse s.dest o.disk s.stops.dest o.old_is sound.watched.dest) (λ t. tt))

    pub unmade_sound : (side : Side) (new : Stage D M) (cause : Unmade) → MakesAt told faults size mech (record { files = files; blocks = blocks }) side s new (Err cause)
        → IsSound told size fuse context mech new
    unmade_sound Source new cause made = unmade_source_sound new cause made.makes made.rest
    unmade_sound Dest new cause made = unmade_dest_sound new cause made.makes made.rest

  source_disk_rests : (end : SourceEnd D M) (stop : Stop) → IsSourceDisk end → SourceWatched told size fuse end stop → stop ≡ no_stop
  source_disk_rests (source_end.Disk disk) stop is watched = watched
  source_disk_rests source_end.Away stop is watched = absurd is
  source_disk_rests (source_end.Open core) stop is watched = absurd is

  dest_disk_rests : (end : DestEnd D M) (stop : Stop) → IsDestDisk end → DestWatched told size fuse end stop → stop ≡ no_stop
  dest_disk_rests (dest_end.Disk disk) stop is watched = watched
  dest_disk_rests dest_end.Away stop is watched = absurd is
  dest_disk_rests (dest_end.Open core) stop is watched = absurd is

  pub away_sound : (side : Side) (new : Stage D M) → IsDiskAt side s → AwayAt side s new → IsSound told size fuse context mech new
  away_sound Source new is away =
      subst (λ (x : Stage D M). IsSound told size fuse context mech x) (sym away)
      (with_source context.source source_end.Away (source_fits_away context.source) (omega arith) (source_disk_rests s.source s.stops.source is sound.watched.source) (λ t. tt))
  away_sound Dest new is away =
      subst (λ (x : Stage D M). IsSound told size fuse context mech x) (sym away)
      (with_dest context.dest dest_end.Away (dest_fits_away context.dest) (omega arith) (dest_disk_rests s.dest s.stops.dest is sound.watched.dest) (λ t. tt))
