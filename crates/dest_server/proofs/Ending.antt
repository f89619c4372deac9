-- How serving ends, by what was done.
use Rattle.std.proofs.Common.{◌≡◌, ◌⊎◌, ◌==◌, ℕ, ◌≤◌, Bool, true, false, List, refl, ap, subst, sym, inl, inr, Some, Ok, Err}
use Rattle.std.specs.Prelude.{Option, Result, IfOk, MatchResult}
use Rattle.std.specs.Io.KnownBytes.{Appends}
use Rattle.std.proofs.KnownBytes.{Keeps-refl}
use Rattle.block_file.specs.Opened.{CanBeOpened, RefusedFor}
use Rattle.block_file.specs.Stored.{flaw_of}
use Rattle.block_file.specs.declared.faults.OpenFault.TheVariants as faults
use Rattle.callback_server.specs.Crew.{DialedFor}
use Rattle.callback_server.specs.declared.dialing.DialFault.{DialFault}
use Rattle.callback_server.specs.declared.dialing.DialFault.TheVariants as dials
use Rattle.copy_privs.specs.declared.peer.Peer.{Peer}
use Rattle.dest_core.specs.Core.{IsNew}
use Rattle.dest_core.specs.Landing.{landed, landed_by}
use Rattle.dest_core.specs.declared.destination.Destination.{Destination}
use Rattle.dest_jobs.specs.declared.carried.Carried.{Carried}
use Rattle.disk_model.specs.Disk.{Image, MayLeave}
use Rattle.disk_model.specs.Elapsed.{contents, present}
use Rattle.link_server.specs.Answering.{Caller}
use Rattle.link_server.specs.declared.tally.Stop.{Stop}
use Rattle.link_server.specs.declared.tally.Stop.TheVariants as stops
use Rattle.link_server.specs.declared.tally.Tally.{Tally}
use Rattle.nfs_base.specs.declared.net_loc.NetLoc.{NetLoc}
use Rattle.session_server.specs.declared.host.Host.{Host}
use Rattle.source_server.specs.Serving.{end_by, end_if, NetWords, Refused, ServerWords}
use Rattle.source_server.specs.declared.serving.ServeEnd.{ServeEnd}
use Rattle.source_server.specs.declared.serving.ServeEnd.TheVariants as ends
use Rattle.streams.specs.Sink.{AppendsFront}
use Rattle.volume_format.specs.DiskWords.{DiskWords}
use Rattle.volume_format.specs.Lines.{not_volume_text}
use Rattle.volume_format.specs.Puts.{AllPut, FrontPut, NonePut}
use Rattle.dest_server.specs.declared.serving.DestService.{DestService}
use Rattle.dest_server.specs.Serving.{end_after, DestEnds, EndIs, LeavesNet, MeetsNet, Served}

-- nothing was copied yet
pub nothing_landed : {D M : Type 0} (mech : M) (source : Peer) (principal : List ℕ) (own : NetLoc) (host : Host D (Destination M) Carried)
    → IsNew mech source principal own host → landed_by host ≡ 0
nothing_landed {M = M} mech source principal own host new = ap (λ (x : Destination M). landed x) new.extra

-- no connection was served, for this cause
pub leaves_net : {N : Type 0} (n : NetWords N) (answers : Caller → List ℕ → List ℕ → Caller → Type 0) (service : DestService) (net net_now : N)
    (fault : DialFault) → LeavesNet n answers service net net_now → DialedFor (n.faults net) (n.faults net_now) fault
    → MeetsNet n answers service net net_now (Err fault)
leaves_net n answers service net net_now dials.Failed leaves rose = (leaves, rose)
leaves_net n answers service net net_now dials.NoMemory leaves none = leaves

module _ {D K N : Type 0} (w : DiskWords D) (n : NetWords N) (s : ServerWords D K) (service : DestService)
    (taken : Option (List ℕ)) (writes : ℕ) (net net_now : N) (disk now : D) where
  abbrev Serving : ServeEnd → Type 0
  Serving end = Served w n s service taken taken writes writes net net_now disk now end

  abbrev Ends : ServeEnd → Type 0
  Ends end = EndIs w n s service taken taken writes writes net net_now end disk (Some now)

  if_ends : (b : Bool) → ((end : ServeEnd) → end ≡ end_if b → Serving end) → Ends (end_if b)
  if_ends true served = served ends.Done refl
  if_ends false served = inr (served ends.NoMemory refl)

  stop_ends : (stop : Stop) (count : ℕ) → ((end : ServeEnd) → end ≡ end_by stop count → Serving end) → Ends (end_by stop count)
  stop_ends stops.Failed count served = served ends.NetFault refl
  stop_ends stops.All count served = if_ends (count == 0) served
  stop_ends stops.End count served = if_ends (count == 0) served
  stop_ends stops.Spent count served = if_ends (count == 0) served

  done_ends : (done : Result Tally DialFault) → ((end : ServeEnd) → end ≡ end_after done → Serving end) → Ends (end_after done)
  done_ends (Ok tally) served = stop_ends tally.stop tally.starved served
  done_ends (Err dials.Failed) served = served ends.NetFault refl
  done_ends (Err dials.NoMemory) served = inr (served ends.NoMemory refl)

  -- the volume was opened
  pub served_ends : (before : Option D) (first last : K) (done : Result Tally DialFault) (end : ServeEnd) → before ≡ Some disk
      → (w.told → flaw_of (w.size disk) (contents (w.timeline disk)) ≡ Option.None) → s.opens disk first
      → MeetsNet n (s.answers first) service net net_now done → s.comes first last → s.hands last now → end ≡ end_after done
      → (w.told → (image : Image) → MayLeave (present (w.timeline now)) image → CanBeOpened (w.size now) image)
      → DestEnds w n s service taken taken writes writes net net_now before (Some now) end
  served_ends before first last done end is volume opened meets came back ended again =
      subst (λ (b : Option D). DestEnds w n s service taken taken writes writes net net_now b (Some now) end) (sym is)
      (subst (λ (e : ServeEnd). EndIs w n s service taken taken writes writes net net_now e disk (Some now)) (sym ended)
      (done_ends done
      (λ e is. record {
        first = first;
        last = last;
        done = done;
        volume = volume;
        opened = opened;
        meets = meets;
        came = came;
        back = back;
        again = again;
        is = is;
        puts = Keeps-refl taken;
      })))

module _ {D K N : Type 0} (w : DiskWords D) (n : NetWords N) (s : ServerWords D K) (service : DestService)
    (taken taken_now : Option (List ℕ)) (writes writes_now : ℕ) (net : N) (disk now : D) (block at : ℕ) where
  refused : {Puts : List ℕ → Type 0} → (w.told → RefusedFor (flaw_of (w.size disk) (contents (w.timeline disk))) (faults.NotVolume block at))
      → w.size now ≡ w.size disk → w.faults disk ≤ w.faults now → Puts (not_volume_text block at)
      → Refused w n s service.conns taken taken_now writes writes_now net net disk now Puts
  refused flaw size faults puts = record { block = block; at = at; flaw = flaw; back = record { size = size; faults = faults }; nobody = refl; puts = puts }

  line_ends : {S E : Type 0} (bytes : S → List ℕ) (line : Result S E) (end : ServeEnd)
      → (w.told → RefusedFor (flaw_of (w.size disk) (contents (w.timeline disk))) (faults.NotVolume block at))
      → w.size now ≡ w.size disk → w.faults disk ≤ w.faults now → IfOk line (λ text. bytes text ≡ not_volume_text block at)
      → MatchResult line
      (λ text. AllPut taken taken_now (bytes text) ends.NotVolume end ⊎ FrontPut ends.WriteFault taken taken_now writes writes_now (bytes text) end)
      (λ _. NonePut taken taken_now ends.NoMemory end)
      → EndIs w n s service taken taken_now writes writes_now net net end disk (Some now)
  line_ends bytes (Ok text) end flaw size faults is (inl all) =
      subst (λ (e : ServeEnd). EndIs w n s service taken taken_now writes writes_now net net e disk (Some now)) (sym all.end_is)
      (refused flaw size faults (subst (λ (line : List ℕ). Appends taken taken_now line) is all.puts))
  line_ends bytes (Ok text) end flaw size faults is (inr front) =
      subst (λ (e : ServeEnd). EndIs w n s service taken taken_now writes writes_now net net e disk (Some now)) (sym front.end_is)
      (front.rose, refused flaw size faults (subst (λ (line : List ℕ). AppendsFront taken taken_now line) is front.puts))
  line_ends bytes (Err e) end flaw size faults is none =
      subst (λ (e : ServeEnd). EndIs w n s service taken taken_now writes writes_now net net e disk (Some now)) (sym none.end_is)
      (inl (record { nobody = refl; puts = none.keeps }, record { size = size; faults = faults }))

  -- the disk held no volume
  pub refused_ends : {S E : Type 0} (bytes : S → List ℕ) (before : Option D) (line : Result S E) (end : ServeEnd) → before ≡ Some disk
      → (w.told → RefusedFor (flaw_of (w.size disk) (contents (w.timeline disk))) (faults.NotVolume block at))
      → w.size now ≡ w.size disk → w.faults disk ≤ w.faults now → IfOk line (λ text. bytes text ≡ not_volume_text block at)
      → MatchResult line
      (λ text. AllPut taken taken_now (bytes text) ends.NotVolume end ⊎ FrontPut ends.WriteFault taken taken_now writes writes_now (bytes text) end)
      (λ _. NonePut taken taken_now ends.NoMemory end)
      → DestEnds w n s service taken taken_now writes writes_now net net before (Some now) end
  refused_ends bytes before line end is flaw size faults text put =
      subst (λ (b : Option D). DestEnds w n s service taken taken_now writes writes_now net net b (Some now) end) (sym is)
      (line_ends bytes line end flaw size faults text put)
