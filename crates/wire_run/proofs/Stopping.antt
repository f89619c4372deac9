-- A server that stopped and was opened anew, or couldn't be; and what else of a stage is as it was then.
use Rattle.std.proofs.Common.{◌≡◌, ℕ, ◌≤◌, List, [], ◌∷◌, ◌++◌, Option, None, Some, refl, sym, ap, ◌∙◌, subst, arith, append-nil, inl, inr}
use Rattle.std.specs.Prelude.{OnErr, Result, Ok, Err}
use Rattle.block_file.specs.declared.faults.OpenFault.{OpenFault}
use Rattle.copy_privs.specs.declared.peer.Peer.{Peer}
use Rattle.dest_core.specs.Core as new_dest
use Rattle.disk_model.specs.Elapsed.{Timeline, set_to}
use Rattle.disk_model.specs.declared.fuse.Fuse.{Fuse}
use Rattle.nfs_base.specs.declared.net_loc.NetLoc.{NetLoc}
use Rattle.nfs_base.specs.declared.side.Side.{Side}
use Rattle.nfs_base.specs.declared.side.Side.TheVariants.{Source, Dest}
use Rattle.run_ends.specs.Opening.{IsNewDest, IsNewSource}
use Rattle.run_ends.specs.Setting.{dest_name, dest_place, dest_source, source_peers, source_place}
use Rattle.run_ends.specs.Stops.Reopening.{IsReopened, IsUnopened}
use Rattle.server_volume.specs.declared.used.Used.{Used}
use Rattle.session_server.specs.Host.{host_of}
use Rattle.source_core.specs.Core as new_source
use Rattle.volume_stops.specs.Stops.{pending_after}
use Rattle.volume_stops.specs.declared.pending.Pending.{Pending}
use Rattle.wire_run.specs.Cutting.{ArmedAt, DestArmed, DestMayReopen, DestReopened, DiskLost, EndReopens, LostAt, MayReopenAt, ReopenedAt, ReopenedBy, SourceArmed, SourceMayReopen, SourceReopened, disk_at, with_end, without_end}
use Rattle.wire_run.specs.Fresh.{unopened}
use Rattle.wire_run.specs.Running.{Later}
use Rattle.wire_run.specs.Stage.{DestHost, SourceHost, dest_disk, source_disk}
use Rattle.wire_run.specs.Watching.{no_stop, noted, noted_at, stop_at, stopped_by, with_stop}
use Rattle.wire_run.specs.declared.ends.DestEnd.{DestEnd}
use Rattle.wire_run.specs.declared.ends.DestEnd.TheVariants as dest_end
use Rattle.wire_run.specs.declared.ends.SourceEnd.{SourceEnd}
use Rattle.wire_run.specs.declared.ends.SourceEnd.TheVariants as source_end
use Rattle.wire_run.specs.declared.fresh.Unmade.{Unmade}
use Rattle.wire_run.specs.declared.stage.Lost.{Lost}
use Rattle.wire_run.specs.declared.stage.Stage.{Stage}
use Rattle.wire_run.specs.declared.stage.Stop.{Stop}
use Rattle.wire_run.specs.declared.stage.Stops.{Stops}

-- ---- a server that was just opened, by what it was opened with

pub source_new : {D M : Type 0} (size : D → ℕ) (mech : M) (peers : List Peer) (own : NetLoc) (core : SourceHost D M) → peers ≡ source_peers → own ≡ source_place
    → new_source.IsNew mech peers own core → IsNewSource mech (host_of size core)
source_new {D} {M} size mech peers own core peers_are own_is new =
    let n = subst (λ (ps : List Peer). new_source.IsNew mech ps source_place core) peers_are
    (subst (λ (loc : NetLoc). new_source.IsNew mech peers loc core) own_is new) in
    record { contexts = n.contexts; opens = n.opens; sessions = n.sessions; extra = n.extra; second = n.second; steps = n.steps }

pub dest_new : {D M : Type 0} (size : D → ℕ) (mech : M) (source : Peer) (name : List ℕ) (own : NetLoc) (core : DestHost D M) → source ≡ dest_source → name ≡ dest_name
    → own ≡ dest_place → new_dest.IsNew mech source name own core → IsNewDest mech (host_of size core)
dest_new {D} {M} size mech source name own core source_is name_is own_is new =
    let n = subst (λ (peer : Peer). new_dest.IsNew mech peer dest_name dest_place core) source_is
    (subst (λ (bytes : List ℕ). new_dest.IsNew mech source bytes dest_place core) name_is
    (subst (λ (loc : NetLoc). new_dest.IsNew mech source name loc core) own_is new)) in
    record { contexts = n.contexts; opens = n.opens; sessions = n.sessions; extra = n.extra; second = n.second; steps = n.steps }

-- ---- what a stop is told by is put

pub put_stop : {D M : Type 0} (side : Side) (s : Stage D M) (stop given : Stop) (stops : Stops) → stop ≡ given → stops ≡ with_stop side stop s.stops
    → ◌≡◌ {A = Stage D M} (record s { stops = stops }) (stopped_by side given s)
put_stop {D} {M} side s stop given stops is put =
    let made : Stops → Stage D M = λ x. record s { stops = x } in
    ap made (put ∙ ap (λ (x : Stop). with_stop side x s.stops) is)

pub put_noted : {D M : Type 0} (side : Side) (s : Stage D M) (stop : Stop) (pending : Option Pending) (used : List Used) (stops : Stops) → stop ≡ stop_at side s.stops
    → pending ≡ pending_after stop.pending used → stops ≡ with_stop side (record { pending = pending; armed = stop.armed }) s.stops
    → ◌≡◌ {A = Stage D M} (record s { stops = stops }) (noted_at side used s)
put_noted {D} {M} side s stop pending used stops is after put =
    let made : Option Pending → Stop = λ p. record { pending = p; armed = stop.armed } in
    put_stop side s (record { pending = pending; armed = stop.armed }) (noted used (stop_at side s.stops)) stops
    (ap made after ∙ ap (λ (x : Stop). noted used x) is) put

-- it is so, where memory is refused too
pub failing : {T E : Type 0} (r : Result T E) (P : Type 0) → P → OnErr r P
failing (Ok x) P p = tt
failing (Err e) P p = p

-- a disk that a server had is lost
pub disk_lost : {D : Type 0} (told : Type 0) (size : D → ℕ) (fuse : D → Fuse) (timeline : D → Timeline) (faults : D → ℕ) (was : Option D) (disk lost : D) (cause : Unmade) (fault : OpenFault)
    → was ≡ Some disk → cause ≡ unopened fault → IsUnopened told size fuse timeline faults disk lost fault → DiskLost told size fuse timeline faults was lost cause
disk_lost told size fuse timeline faults was disk lost cause fault was_is cause_is un =
    record { disk = disk; was_is = was_is; fault = fault; cause_is = cause_is; unopened = un }

module _ {D M : Type 0} (told : Type 0) (size : D → ℕ) (fuse : D → Fuse) (timeline : D → Timeline) (faults : D → ℕ) where
  -- ---- an end was opened anew

  pub source_reopened : (old new : SourceEnd D M) (core next : SourceHost D M) (peers : List Peer) (own : NetLoc) → old ≡ source_end.Open core → new ≡ source_end.Open next
      → IsReopened told size fuse timeline faults core.server.files.volume.disk next.server.files.volume → peers ≡ source_peers → own ≡ source_place
      → new_source.IsNew core.server.files.extra.mech peers own next → SourceReopened told size fuse timeline faults old new
  source_reopened old new core next peers own was is volume peers_are own_is fresh = record {
    was = core;
    next = next;
    was_is = was;
    next_is = is;
    volume = volume;
    fresh = source_new size core.server.files.extra.mech peers own next peers_are own_is fresh;
  }

  pub dest_reopened : (old new : DestEnd D M) (core next : DestHost D M) (source : Peer) (name : List ℕ) (own : NetLoc) → old ≡ dest_end.Open core → new ≡ dest_end.Open next
      → IsReopened told size fuse timeline faults core.server.files.volume.disk next.server.files.volume → source ≡ dest_source → name ≡ dest_name → own ≡ dest_place
      → new_dest.IsNew core.server.files.extra.mech source name own next → DestReopened told size fuse timeline faults old new
  dest_reopened old new core next source name own was is volume source_is name_is own_is fresh = record {
    was = core;
    next = next;
    was_is = was;
    next_is = is;
    volume = volume;
    fresh = dest_new size core.server.files.extra.mech source name own next source_is name_is own_is fresh;
  }

  -- ---- a stage in which an end was opened anew, or is away

  end_reopened : (side : Side) (old mid new : Stage D M) → mid ≡ stopped_by side no_stop old
      → EndReopens told size fuse timeline faults side mid new (Ok tt) → ReopenedBy told size fuse timeline faults side old new
  end_reopened Source old mid new is opens =
      subst (λ (e : SourceEnd D M). SourceReopened told size fuse timeline faults e new.source) (ap (λ (x : Stage D M). x.source) is) opens
  end_reopened Dest old mid new is opens =
      subst (λ (e : DestEnd D M). DestReopened told size fuse timeline faults e new.dest) (ap (λ (x : Stage D M). x.dest) is) opens

  -- it may still be opened anew where only what a stop is told by was put
  pub may_still : (side : Side) (old mid : Stage D M) → mid ≡ stopped_by side no_stop old → MayReopenAt told size fuse timeline faults side old
      → MayReopenAt told size fuse timeline faults side mid
  may_still Source old mid is may =
      subst (λ (e : SourceEnd D M). SourceMayReopen told size fuse timeline faults e) (sym (ap (λ (x : Stage D M). x.source) is)) may
  may_still Dest old mid is may =
      subst (λ (e : DestEnd D M). DestMayReopen told size fuse timeline faults e) (sym (ap (λ (x : Stage D M). x.dest) is)) may

  with_ends : (side : Side) (of old : Stage D M) → with_end side of (stopped_by side no_stop old) ≡ stopped_by side no_stop (with_end side of old)
  with_ends Source of old = refl
  with_ends Dest of old = refl

  without_ends : (side : Side) (old : Stage D M) → without_end side (stopped_by side no_stop old) ≡ stopped_by side no_stop (without_end side old)
  without_ends Source old = refl
  without_ends Dest old = refl

  pub reopened_at : (side : Side) (old mid new : Stage D M) → mid ≡ stopped_by side no_stop old
      → EndReopens told size fuse timeline faults side mid new (Ok tt) → new ≡ with_end side new mid
      → ReopenedAt told size fuse timeline faults side old new
  reopened_at side old mid new is opens rest = record {
    reopened = end_reopened side old mid new is opens;
    rest = rest ∙ (ap (λ (x : Stage D M). with_end side new x) is ∙ with_ends side new old);
  }

  pub away_at : (side : Side) (old mid new : Stage D M) → mid ≡ stopped_by side no_stop old → new ≡ without_end side mid
      → new ≡ stopped_by side no_stop (without_end side old)
  away_at side old mid new is away = away ∙ (ap (λ (x : Stage D M). without_end side x) is ∙ without_ends side old)

  end_lost : (side : Side) (old mid new : Stage D M) (disk : D) (cause : Unmade) → mid ≡ stopped_by side no_stop old
      → EndReopens told size fuse timeline faults side mid new (Err (disk, cause)) → new ≡ with_end side new mid
      → DiskLost told size fuse timeline faults (disk_at side old) disk cause × (new ≡ without_end side mid)
  end_lost Source old mid new disk cause is opens rest = (
    subst (λ (x : Stage D M). DiskLost told size fuse timeline faults (source_disk x.source) disk cause) is opens.0,
    rest ∙ ap (λ (e : SourceEnd D M). record mid { source = e }) opens.1,
  )
  end_lost Dest old mid new disk cause is opens rest = (
    subst (λ (x : Stage D M). DiskLost told size fuse timeline faults (dest_disk x.dest) disk cause) is opens.0,
    rest ∙ ap (λ (e : DestEnd D M). record mid { dest = e }) opens.1,
  )

  pub lost_at : (side : Side) (old mid new : Stage D M) (disk : D) (cause : Unmade) → mid ≡ stopped_by side no_stop old
      → EndReopens told size fuse timeline faults side mid new (Err (disk, cause)) → new ≡ with_end side new mid
      → LostAt told size fuse timeline faults side old new (record { side = side; disk = disk; cause = cause })
  lost_at side old mid new disk cause is opens rest =
      let both = end_lost side old mid new disk cause is opens rest in
      record { side_is = refl; disk = both.0; rest = away_at side old mid new is both.1 }

-- ---- a fuse is set

set_later : {D : Type 0} (faults size : D → ℕ) (disk now : D) → size now ≡ size disk → faults now ≡ faults disk → Later faults size 0 (Some disk) (Some now)
set_later faults size disk now as_large same = record { there = refl; rose = omega (arith, same); as_large = as_large }

module _ {D M : Type 0} (told : Type 0) (size : D → ℕ) (fuse : D → Fuse) (faults : D → ℕ) (calls : ℕ) where
  pub source_armed : (old new : SourceEnd D M) (core next : SourceHost D M) → old ≡ source_end.Open core → new ≡ source_end.Open next
      → fuse next.server.files.volume.disk ≡ set_to (fuse core.server.files.volume.disk) calls → (told → host_of size next ≡ host_of size core) → next.steps ≡ core.steps
      → size next.server.files.volume.disk ≡ size core.server.files.volume.disk → faults next.server.files.volume.disk ≡ faults core.server.files.volume.disk
      → SourceArmed told size fuse faults calls old new
  source_armed old new core next was is set same counted as_large count = record {
    was = core;
    next = next;
    was_is = was;
    next_is = is;
    same = same;
    fuse_is = set;
    counted = counted;
    later = set_later faults size core.server.files.volume.disk next.server.files.volume.disk as_large count;
  }

  pub dest_armed : (old new : DestEnd D M) (core next : DestHost D M) → old ≡ dest_end.Open core → new ≡ dest_end.Open next
      → fuse next.server.files.volume.disk ≡ set_to (fuse core.server.files.volume.disk) calls → (told → host_of size next ≡ host_of size core) → next.steps ≡ core.steps
      → size next.server.files.volume.disk ≡ size core.server.files.volume.disk → faults next.server.files.volume.disk ≡ faults core.server.files.volume.disk
      → DestArmed told size fuse faults calls old new
  dest_armed old new core next was is set same counted as_large count = record {
    was = core;
    next = next;
    was_is = was;
    next_is = is;
    same = same;
    fuse_is = set;
    counted = counted;
    later = set_later faults size core.server.files.volume.disk next.server.files.volume.disk as_large count;
  }
