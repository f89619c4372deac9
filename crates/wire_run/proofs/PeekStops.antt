-- A peek keeps what always holds of a system.
use Rattle.std.proofs.Common.{◌≡◌, ℕ, ◌+◌, ◌≤◌, List, length, Option, Some, None, refl, sym, ap, ◌∙◌, subst, arith}
use Rattle.block_file.specs.Opened.{Opened}
use Rattle.dest_core.specs.Stepping.{DestState}
use Rattle.disk_model.specs.declared.fuse.Fuse.{Fuse}
use Rattle.disk_model.specs.declared.fuse.Fuse.TheVariants.{Unset}
use Rattle.disk_model.specs.Elapsed.{IsOut}
use Rattle.nfs_base.specs.declared.side.Side.{Side}
use Rattle.nfs_base.specs.declared.side.Side.TheVariants.{Source, Dest}
use Rattle.run_ends.specs.Ends.{SourceState}
use Rattle.server_volume.specs.Store.{Store, store_of}
use Rattle.volume_stops.specs.Stops.{pending_in}
use Rattle.wire_run.specs.Cutting.{disk_at}
use Rattle.wire_run.specs.Stage.{DestHost, DestPeeks, Peeks, SourceHost, SourcePeeks, dest_disk, dest_steps, source_disk, source_steps}
use Rattle.wire_run.specs.System.{DestFits, IsSound, SourceFits}
use Rattle.wire_run.specs.Watching.{DestNumbered, DestWatched, IsWatched, SourceNumbered, SourceWatched, fuse_in}
use Rattle.wire_run.specs.declared.ends.DestEnd.{DestEnd}
use Rattle.wire_run.specs.declared.ends.DestEnd.TheVariants as dest_end
use Rattle.wire_run.specs.declared.ends.SourceEnd.{SourceEnd}
use Rattle.wire_run.specs.declared.ends.SourceEnd.TheVariants as source_end
use Rattle.wire_run.specs.declared.stage.Stage.{Stage}
use Rattle.wire_run.specs.declared.stage.Stop.{Stop}
use Rattle.wire_run.specs.declared.system.Peeked.{Peeked}
use Rattle.wire_run.proofs.Servers.{with_dest, with_source}
use Rattle.wire_schedule.specs.declared.context.Context.{Context}

-- a volume that is the same, on a disk with the same fuse
watched_as : {D : Type 0} (told : Type 0) (size : D → ℕ) (fuse : D → Fuse) (v w : Opened D) (stop : Stop) → (told → store_of size w ≡ store_of size v)
    → fuse w.disk ≡ fuse v.disk → IsWatched told size fuse v stop → IsWatched told size fuse w stop
watched_as told size fuse v w stop same burns was = record {
  lit = λ t out. was.lit t (sym burns ∙ out);
  unset = λ t none. burns ∙ was.unset t none;
  pending = λ t. was.pending t ∙ ap (λ (s : Store). pending_in s) (sym (same t));
}

numbered_as : {D : Type 0} (size : D → ℕ) (n : ℕ) (v w : Opened D) → store_of size w ≡ store_of size v → v.volume.boot ≤ n + 1 → w.volume.boot ≤ n + 1
numbered_as size n v w same few = subst (λ (b : ℕ). b ≤ n + 1) (sym (ap (λ (s : Store). s.volume.boot) same)) few

module _ {D M : Type 0} (told : Type 0) (size : D → ℕ) (fuse : D → Fuse) where
  source_fits_as : (files : Option ℕ) (was next : SourceHost D M) → (told → store_of size next.server.files.volume ≡ store_of size was.server.files.volume)
      → SourceFits told files (source_end.Open was) → SourceFits told files (source_end.Open next)
  source_fits_as None was next same fits = absurd fits
  source_fits_as (Some n) was next same fits =
      λ t. (ap (λ (s : Store). length s.volume.files) (same t) ∙ (fits t).0, ap (λ (s : Store). s.tag) (same t) ∙ (fits t).1)

  dest_fits_as : (files : Option ℕ) (was next : DestHost D M) → (told → store_of size next.server.files.volume ≡ store_of size was.server.files.volume)
      → DestFits told files (dest_end.Open was) → DestFits told files (dest_end.Open next)
  dest_fits_as None was next same fits = absurd fits
  dest_fits_as (Some n) was next same fits =
      λ t. (ap (λ (s : Store). length s.volume.files) (same t) ∙ (fits t).0, ap (λ (s : Store). s.tag) (same t) ∙ (fits t).1)

  module _ (context : Context) (mech : M) (s : Stage D M) (sound : IsSound told size fuse context mech s) where
    -- the other server's core takes the place of one
    source_put : (was next : SourceHost D M) → s.source ≡ source_end.Open was → next.steps ≡ was.steps
        → (told → store_of size next.server.files.volume ≡ store_of size was.server.files.volume)
        → fuse next.server.files.volume.disk ≡ fuse was.server.files.volume.disk → IsSound told size fuse context mech (record s { source = source_end.Open next })
    source_put was next was_is counted same burns =
        let steps : source_steps s.source ≡ was.steps = ap (λ (e : SourceEnd D M). source_steps e) was_is in
        let fits : SourceFits told context.source (source_end.Open was) = subst (λ (e : SourceEnd D M). SourceFits told context.source e) was_is sound.source_fits in
        let watched : SourceWatched told size fuse (source_end.Open was) s.stops.source =
        subst (λ (e : SourceEnd D M). SourceWatched told size fuse e s.stops.source) was_is sound.watched.source in
        with_source told size fuse context mech s sound context.source (source_end.Open next) (source_fits_as context.source was next same fits)
        (omega (arith, sound.below.source, steps, counted))
        (watched_as told size fuse was.server.files.volume next.server.files.volume s.stops.source same burns watched)
        (λ t. numbered_as size (context.events + s.flowed) was.server.files.volume next.server.files.volume (same t)
        (subst (λ (e : SourceEnd D M). SourceNumbered (context.events + s.flowed) e) was_is (sound.opened.source t)))

    dest_put : (was next : DestHost D M) → s.dest ≡ dest_end.Open was → next.steps ≡ was.steps
        → (told → store_of size next.server.files.volume ≡ store_of size was.server.files.volume)
        → fuse next.server.files.volume.disk ≡ fuse was.server.files.volume.disk → IsSound told size fuse context mech (record s { dest = dest_end.Open next })
    dest_put was next was_is counted same burns =
        let steps : dest_steps s.dest ≡ was.steps = ap (λ (e : DestEnd D M). dest_steps e) was_is in
        let fits : DestFits told context.dest (dest_end.Open was) = subst (λ (e : DestEnd D M). DestFits told context.dest e) was_is sound.dest_fits in
        let watched : DestWatched told size fuse (dest_end.Open was) s.stops.dest =
        subst (λ (e : DestEnd D M). DestWatched told size fuse e s.stops.dest) was_is sound.watched.dest in
        with_dest told size fuse context mech s sound context.dest (dest_end.Open next) (dest_fits_as context.dest was next same fits)
        (omega (arith, sound.below.dest, steps, counted))
        (watched_as told size fuse was.server.files.volume next.server.files.volume s.stops.dest same burns watched)
        (λ t. numbered_as size (context.events + s.flowed) was.server.files.volume next.server.files.volume (same t)
        (subst (λ (e : DestEnd D M). DestNumbered (context.events + s.flowed) e) was_is (sound.opened.dest t)))

    pub peek_sound : (faults : D → ℕ) (file off : ℕ) (bytes_old bytes_new : List ℕ) (answer : Peeked) (side : Side) (new : Stage D M)
        → Peeks told faults size side file off s new bytes_old bytes_new answer → fuse_in fuse (disk_at side new) ≡ fuse_in fuse (disk_at side s)
        → IsSound told size fuse context mech new
    peek_sound faults file off bytes_old bytes_new answer Source new q burns =
        let p : SourcePeeks told faults size file off s.source new.source bytes_old bytes_new answer = q.peeks in
        subst (λ (x : Stage D M). IsSound told size fuse context mech x) (sym (q.rest ∙ ap (λ (e : SourceEnd D M). record s { source = e }) p.next_is))
        (source_put p.was p.next p.was_is p.counted (λ t. ap (λ (h : SourceState M). h.state.machine.store) (p.same t))
        (sym (ap (λ (e : SourceEnd D M). fuse_in fuse (source_disk e)) p.next_is) ∙ (burns ∙ ap (λ (e : SourceEnd D M). fuse_in fuse (source_disk e)) p.was_is)))
    peek_sound faults file off bytes_old bytes_new answer Dest new q burns =
        let p : DestPeeks told faults size file off s.dest new.dest bytes_old bytes_new answer = q.peeks in
        subst (λ (x : Stage D M). IsSound told size fuse context mech x) (sym (q.rest ∙ ap (λ (e : DestEnd D M). record s { dest = e }) p.next_is))
        (dest_put p.was p.next p.was_is p.counted (λ t. ap (λ (h : DestState M). h.state.machine.store) (p.same t))
        (sym (ap (λ (e : DestEnd D M). fuse_in fuse (dest_disk e)) p.next_is) ∙ (burns ∙ ap (λ (e : DestEnd D M). fuse_in fuse (dest_disk e)) p.was_is)))
