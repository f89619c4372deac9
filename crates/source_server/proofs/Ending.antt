-- How serving ends, by what was done.
use Rattle.std.proofs.Common.{◌≡◌, ◌⊎◌, ◌==◌, ℕ, ◌≤◌, Bool, true, false, List, refl, subst, sym, inl, inr, Some, Ok, Err}
use Rattle.std.specs.Prelude.{Option, Result, IfOk, MatchResult}
use Rattle.std.specs.Io.KnownBytes.{Appends}
use Rattle.std.proofs.KnownBytes.{Keeps-refl}
use Rattle.block_file.specs.Opened.{CanBeOpened, RefusedFor}
use Rattle.block_file.specs.Stored.{flaw_of}
use Rattle.block_file.specs.declared.faults.OpenFault.TheVariants as faults
use Rattle.disk_model.specs.Disk.{Image, MayLeave}
use Rattle.disk_model.specs.Elapsed.{contents, present}
use Rattle.link_server.specs.declared.tally.Stop.{Stop}
use Rattle.link_server.specs.declared.tally.Stop.TheVariants as stops
use Rattle.link_server.specs.declared.tally.Tally.{Tally}
use Rattle.streams.specs.Sink.{AppendsFront}
use Rattle.volume_format.specs.DiskWords.{DiskWords}
use Rattle.volume_format.specs.Lines.{not_volume_text}
use Rattle.volume_format.specs.Puts.{AllPut, FrontPut, NonePut}
use Rattle.source_server.specs.Serving.{NetWords, ServerWords, EndIs, Refused, ServeEnds, Served, ServesNet, end_by, end_if}
use Rattle.source_server.specs.declared.serving.ServeEnd.{ServeEnd}
use Rattle.source_server.specs.declared.serving.ServeEnd.TheVariants as ends

module _ {D K N : Type 0} (w : DiskWords D) (n : NetWords N) (s : ServerWords D K) (conns : ℕ)
    (taken : Option (List ℕ)) (writes : ℕ) (net net_now : N) (disk now : D) where
  if_ends : (b : Bool) → ((end : ServeEnd) → end ≡ end_if b → Served w n s conns taken taken writes writes net net_now disk now end)
      → EndIs w n s conns taken taken writes writes net net_now (end_if b) disk (Some now)
  if_ends true served = served ends.Done refl
  if_ends false served = inr (served ends.NoMemory refl)

  stop_ends : (stop : Stop) (count : ℕ)
      → ((end : ServeEnd) → end ≡ end_by stop count → Served w n s conns taken taken writes writes net net_now disk now end)
      → EndIs w n s conns taken taken writes writes net net_now (end_by stop count) disk (Some now)
  stop_ends stops.Failed count served = served ends.NetFault refl
  stop_ends stops.All count served = if_ends (count == 0) served
  stop_ends stops.End count served = if_ends (count == 0) served
  stop_ends stops.Spent count served = if_ends (count == 0) served

  -- connections were served
  pub served_ends : (before : Option D) (first last : K) (tally : Tally) (end : ServeEnd) → before ≡ Some disk
      → (w.told → flaw_of (w.size disk) (contents (w.timeline disk)) ≡ Option.None) → s.opens disk first
      → ServesNet w n s conns taken taken writes writes net net_now first tally → s.comes first last → s.hands last now → end ≡ end_by tally.stop tally.starved
      → (w.told → (image : Image) → MayLeave (present (w.timeline now)) image → CanBeOpened (w.size now) image)
      → ServeEnds w n s conns taken taken writes writes net net_now before (Some now) end
  served_ends before first last tally end is volume opened serves came back ended again =
      subst (λ (b : Option D). ServeEnds w n s conns taken taken writes writes net net_now b (Some now) end) (sym is)
      (subst (λ (e : ServeEnd). EndIs w n s conns taken taken writes writes net net_now e disk (Some now)) (sym ended)
      (stop_ends tally.stop tally.starved
      (λ e is. record {
        first = first;
        last = last;
        tally = tally;
        volume = volume;
        opened = opened;
        serves = serves;
        came = came;
        back = back;
        again = again;
        is = is;
        puts = Keeps-refl taken;
      })))

module _ {D K N : Type 0} (w : DiskWords D) (n : NetWords N) (s : ServerWords D K) (conns : ℕ)
    (taken taken_now : Option (List ℕ)) (writes writes_now : ℕ) (net : N) (disk now : D) (block at : ℕ) where
  refused : {Puts : List ℕ → Type 0} → (w.told → RefusedFor (flaw_of (w.size disk) (contents (w.timeline disk))) (faults.NotVolume block at))
      → w.size now ≡ w.size disk → w.faults disk ≤ w.faults now → Puts (not_volume_text block at)
      → Refused w n s conns taken taken_now writes writes_now net net disk now Puts
  refused flaw size faults puts = record { block = block; at = at; flaw = flaw; back = record { size = size; faults = faults }; nobody = refl; puts = puts }

  line_ends : {S E : Type 0} (bytes : S → List ℕ) (line : Result S E) (end : ServeEnd)
      → (w.told → RefusedFor (flaw_of (w.size disk) (contents (w.timeline disk))) (faults.NotVolume block at))
      → w.size now ≡ w.size disk → w.faults disk ≤ w.faults now → IfOk line (λ text. bytes text ≡ not_volume_text block at)
      → MatchResult line
      (λ text. AllPut taken taken_now (bytes text) ends.NotVolume end ⊎ FrontPut ends.WriteFault taken taken_now writes writes_now (bytes text) end)
      (λ _. NonePut taken taken_now ends.NoMemory end)
      → EndIs w n s conns taken taken_now writes writes_now net net end disk (Some now)
  line_ends bytes (Ok text) end flaw size faults is (inl all) =
      subst (λ (e : ServeEnd). EndIs w n s conns taken taken_now writes writes_now net net e disk (Some now)) (sym all.end_is)
      (refused flaw size faults (subst (λ (line : List ℕ). Appends taken taken_now line) is all.puts))
  line_ends bytes (Ok text) end flaw size faults is (inr front) =
      subst (λ (e : ServeEnd). EndIs w n s conns taken taken_now writes writes_now net net e disk (Some now)) (sym front.end_is)
      (front.rose, refused flaw size faults (subst (λ (line : List ℕ). AppendsFront taken taken_now line) is front.puts))
  line_ends bytes (Err e) end flaw size faults is none =
      subst (λ (e : ServeEnd). EndIs w n s conns taken taken_now writes writes_now net net e disk (Some now)) (sym none.end_is)
      (inl (record { nobody = refl; puts = none.keeps }, record { size = size; faults = faults }))

  -- the disk held no volume
  pub refused_ends : {S E : Type 0} (bytes : S → List ℕ) (before : Option D) (line : Result S E) (end : ServeEnd) → before ≡ Some disk
      → (w.told → RefusedFor (flaw_of (w.size disk) (contents (w.timeline disk))) (faults.NotVolume block at))
      → w.size now ≡ w.size disk → w.faults disk ≤ w.faults now → IfOk line (λ text. bytes text ≡ not_volume_text block at)
      → MatchResult line
      (λ text. AllPut taken taken_now (bytes text) ends.NotVolume end ⊎ FrontPut ends.WriteFault taken taken_now writes writes_now (bytes text) end)
      (λ _. NonePut taken taken_now ends.NoMemory end)
      → ServeEnds w n s conns taken taken_now writes writes_now net net before (Some now) end
  refused_ends bytes before line end is flaw size faults text put =
      subst (λ (b : Option D). ServeEnds w n s conns taken taken_now writes writes_now net net b (Some now) end) (sym is)
      (line_ends bytes line end flaw size faults text put)
