-- Which calls a step of a server made on its volume, by what its core says of it, and that its fuse is as it was where it made none.
use Rattle.std.proofs.Common.{◌≡◌, ℕ, false, [], List, None, refl, sym, ap, ◌∙◌, subst}
use Rattle.std.specs.Prelude.{IfOk, Result, Ok, Err}
use Rattle.block_file.specs.Opened.{Opened, StandsFor}
use Rattle.disk_model.specs.Elapsed.{Timeline}
use Rattle.disk_model.specs.Passes.{passes_none}
use Rattle.disk_model.specs.declared.fuse.Fuse.{Fuse}
use Rattle.outbox.specs.Outboxes.{no_outbox}
use Rattle.outbox.specs.declared.outgoing.Outbox.{Outbox}
use Rattle.run_ends.specs.Stops.Reopening.{MadeCalls}
use Rattle.server_volume.specs.Moments.{Counted, LeftBy, Ran}
use Rattle.server_volume.specs.Store.{Seat, seat_of}
use Rattle.server_volume.specs.declared.used.Used.{Used}
use Rattle.session_server.specs.Host.{HostState, Stepped}
use Rattle.volume_stops.specs.Stops.{IsCertain}
use Rattle.wire_run.specs.Cutting.{DestCalls, SourceCalls}
use Rattle.wire_run.specs.Stage.{DestHost, SourceHost, dest_disk, source_disk}
use Rattle.wire_run.specs.Watching.{fuse_in}
use Rattle.wire_run.specs.declared.ends.DestEnd.{DestEnd}
use Rattle.wire_run.specs.declared.ends.DestEnd.TheVariants as dest_end
use Rattle.wire_run.specs.declared.ends.SourceEnd.{SourceEnd}
use Rattle.wire_run.specs.declared.ends.SourceEnd.TheVariants as source_end

-- no calls ran
none_ran : (s : Seat) → Ran s s [] []
none_ran s = record {
  calls = [];
  noted = refl;
  taken = tt;
  store = refl;
  moments = λ stores now covered. passes_none (LeftBy stores) s.fuse s.timeline now;
}

module _ {D : Type 0} (told : Type 0) (size : D → ℕ) (fuse : D → Fuse) (timeline : D → Timeline) (faults : D → ℕ) where
  made : (old new : Opened D) (used : List Used) → (told → StandsFor timeline size old) → IsCertain old.volume → Counted told (seat_of size fuse timeline faults old) (seat_of size fuse timeline faults new) [] used
      → MadeCalls told size fuse timeline faults old new used
  made old new used stood certain ran = record { stood = stood; certain = certain; as_large = ran.as_large; ran = ran.ran }

  made_none : (v : Opened D) → (told → StandsFor timeline size v) → IsCertain v.volume → MadeCalls told size fuse timeline faults v v []
  made_none v stood certain = record { stood = stood; certain = certain; as_large = refl; ran = λ t. none_ran (seat_of size fuse timeline faults v) }

  made_on : (old new : Opened D) (used : List Used) → (told → StandsFor timeline size old) → IsCertain old.volume → new ≡ old → used ≡ []
      → MadeCalls told size fuse timeline faults old new used
  made_on old new used stood certain same none =
      subst (λ (v : Opened D). MadeCalls told size fuse timeline faults old v used) (sym same)
      (subst (λ (us : List Used). MadeCalls told size fuse timeline faults old old us) (sym none) (made_none old stood certain))

-- ---- an end that is there

module _ {D M : Type 0} (told : Type 0) (size : D → ℕ) (fuse : D → Fuse) (timeline : D → Timeline) (faults : D → ℕ) where
  pub source_calls : (old new : SourceEnd D M) (core next : SourceHost D M) (used : List Used) → old ≡ source_end.Open core → new ≡ source_end.Open next
      → MadeCalls told size fuse timeline faults core.server.files.volume next.server.files.volume used
      → SourceCalls told size fuse timeline faults old new used
  source_calls old new core next used was is calls =
      subst (λ (e : SourceEnd D M). SourceCalls told size fuse timeline faults e new used) (sym was)
      (subst (λ (e : SourceEnd D M). SourceCalls told size fuse timeline faults (source_end.Open core) e used) (sym is) calls)

  pub dest_calls : (old new : DestEnd D M) (core next : DestHost D M) (used : List Used) → old ≡ dest_end.Open core → new ≡ dest_end.Open next
      → MadeCalls told size fuse timeline faults core.server.files.volume next.server.files.volume used
      → DestCalls told size fuse timeline faults old new used
  dest_calls old new core next used was is calls =
      subst (λ (e : DestEnd D M). DestCalls told size fuse timeline faults e new used) (sym was)
      (subst (λ (e : DestEnd D M). DestCalls told size fuse timeline faults (dest_end.Open core) e used) (sym is) calls)

  -- ---- an act that makes calls

  module _ {E : Type 0} where
    pub source_called : (old new : SourceEnd D M) (core next : SourceHost D M) (r : Result Outbox E) → old ≡ source_end.Open core → new ≡ source_end.Open next
        → (told → StandsFor timeline size core.server.files.volume) → IsCertain core.server.files.volume.volume
        → IfOk r (λ out. Counted told (seat_of size fuse timeline faults core.server.files.volume) (seat_of size fuse timeline faults next.server.files.volume) [] out.used)
        → IfOk r (λ out. SourceCalls told size fuse timeline faults old new out.used)
    source_called old new core next (Ok out) was is stood certain ran =
        source_calls old new core next out.used was is (made told size fuse timeline faults core.server.files.volume next.server.files.volume out.used stood certain ran)
    source_called old new core next (Err e) was is stood certain ran = tt

    pub dest_called : (old new : DestEnd D M) (core next : DestHost D M) (r : Result Outbox E) → old ≡ dest_end.Open core → new ≡ dest_end.Open next
        → (told → StandsFor timeline size core.server.files.volume) → IsCertain core.server.files.volume.volume
        → IfOk r (λ out. Counted told (seat_of size fuse timeline faults core.server.files.volume) (seat_of size fuse timeline faults next.server.files.volume) [] out.used)
        → IfOk r (λ out. DestCalls told size fuse timeline faults old new out.used)
    dest_called old new core next (Ok out) was is stood certain ran =
        dest_calls old new core next out.used was is (made told size fuse timeline faults core.server.files.volume next.server.files.volume out.used stood certain ran)
    dest_called old new core next (Err e) was is stood certain ran = tt

    -- ---- an act that makes none

    pub source_quiet : (old new : SourceEnd D M) (core next : SourceHost D M) (r : Result Outbox E) → old ≡ source_end.Open core → new ≡ source_end.Open next
        → (told → StandsFor timeline size core.server.files.volume) → IsCertain core.server.files.volume.volume
        → next.server.files.volume ≡ core.server.files.volume → IfOk r (λ out. out.used ≡ [])
        → IfOk r (λ out. SourceCalls told size fuse timeline faults old new out.used)
    source_quiet old new core next (Ok out) was is stood certain same none =
        source_calls old new core next out.used was is (made_on told size fuse timeline faults core.server.files.volume next.server.files.volume out.used stood certain same none)
    source_quiet old new core next (Err e) was is stood certain same none = tt

    pub dest_quiet : (old new : DestEnd D M) (core next : DestHost D M) (r : Result Outbox E) → old ≡ dest_end.Open core → new ≡ dest_end.Open next
        → (told → StandsFor timeline size core.server.files.volume) → IsCertain core.server.files.volume.volume
        → next.server.files.volume ≡ core.server.files.volume → IfOk r (λ out. out.used ≡ [])
        → IfOk r (λ out. DestCalls told size fuse timeline faults old new out.used)
    dest_quiet old new core next (Ok out) was is stood certain same none =
        dest_calls old new core next out.used was is (made_on told size fuse timeline faults core.server.files.volume next.server.files.volume out.used stood certain same none)
    dest_quiet old new core next (Err e) was is stood certain same none = tt

    -- what rests makes none either
    pub dest_rested : (end : DestEnd D M) (r : Result Outbox E) → DestCalls told size fuse timeline faults end end [] → IfOk r (λ out. out ≡ no_outbox)
        → IfOk r (λ out. DestCalls told size fuse timeline faults end end out.used)
    dest_rested end (Ok out) rests none =
        subst (λ (o : Outbox). DestCalls told size fuse timeline faults end end o.used) (sym none) rests
    dest_rested end (Err e) rests none = tt

-- ---- what gives nothing, and a step that notes no calls

pub nothing_used : {E : Type 0} (r : Result Outbox E) → IfOk r (λ out. out ≡ no_outbox) → IfOk r (λ out. out.used ≡ [])
nothing_used (Ok out) none = ap (λ (o : Outbox). o.used) none
nothing_used (Err e) none = tt

pub stepped_used : {X C E : Type 0} (r : Result Outbox E) (host : HostState X C) (t : Stepped X C) → IfOk r (λ out. ◌≡◌ {A = Stepped X C} (record { host = host; out = out }) t) → t.out.used ≡ []
    → IfOk r (λ out. out.used ≡ [])
stepped_used {X} {C} (Ok out) host t is none = ap (λ (s : Stepped X C). s.out.used) is ∙ none
stepped_used (Err e) host t is none = tt

-- ---- fuses

module _ {D M : Type 0} (fuse : D → Fuse) where
  pub source_fuse : (old : SourceEnd D M) (core next : SourceHost D M) → old ≡ source_end.Open core
      → fuse next.server.files.volume.disk ≡ fuse core.server.files.volume.disk
      → fuse next.server.files.volume.disk ≡ fuse_in fuse (source_disk old)
  source_fuse old core next was same = same ∙ ap (λ (e : SourceEnd D M). fuse_in fuse (source_disk e)) (sym was)

  pub dest_fuse : (old : DestEnd D M) (core next : DestHost D M) → old ≡ dest_end.Open core
      → fuse next.server.files.volume.disk ≡ fuse core.server.files.volume.disk
      → fuse next.server.files.volume.disk ≡ fuse_in fuse (dest_disk old)
  dest_fuse old core next was same = same ∙ ap (λ (e : DestEnd D M). fuse_in fuse (dest_disk e)) (sym was)
