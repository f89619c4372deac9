-- How serving a destination ends: for each end why it came, what was put, whom it served, and what the disk holds then.
use Rattle.std.specs.Prelude.{◌≡◌, ◌⊎◌, ℕ, None, Some, List, Result, Ok, Err}
use Rattle.std.specs.declared.option.Option.{Option}
use Rattle.std.specs.Io.KnownBytes.{Keeps, Appends}
use Rattle.block_file.specs.Opened.{CanBeOpened}
use Rattle.block_file.specs.Stored.{flaw_of}
use Rattle.callback_server.specs.Crew.{CrewReport, ServesBeside, ServesNone}
use Rattle.callback_server.specs.declared.dialing.DialFault.{DialFault}
use Rattle.callback_server.specs.declared.dialing.DialFault.TheVariants as dials
use Rattle.disk_model.specs.Disk.{Image, MayLeave}
use Rattle.disk_model.specs.Elapsed.{contents, present}
use Rattle.link_server.specs.Answering.{Caller}
use Rattle.link_server.specs.Keeping.{StopIs}
use Rattle.link_server.specs.declared.tally.Tally.{Tally}
use Rattle.outcome.specs.Causes.{Rose}
use Rattle.source_server.specs.Serving.{end_by, Failed, HandsBack, Idle, NetWords, Refused, ServerWords}
use Rattle.source_server.specs.declared.serving.ServeEnd.{ServeEnd}
use Rattle.source_server.specs.declared.serving.ServeEnd.TheVariants as ends
use Rattle.streams.specs.Sink.{AppendsFront}
use Rattle.volume_format.specs.DiskWords.{DiskWords}
use Rattle.dest_server.specs.declared.serving.DestService.{DestService}
use Rattle.dest_server.specs.declared.serving.TheConstants.{MOST_TURNS}

-- The end of a server whose workers were dialed, or weren't.
abbrev pub end_after : Result Tally DialFault → ServeEnd
end_after (Ok tally) = end_by tally.stop tally.starved
end_after (Err dials.Failed) = ends.NetFault
end_after (Err dials.NoMemory) = ends.NoMemory

module _ {N : Type 0} (n : NetWords N) (answers : Caller → List ℕ → List ℕ → Caller → Type 0) (service : DestService) (net net_now : N) where
  -- Connections were accepted, served and hung up, one after the other, beside as many workers as were asked for, and no more for
  -- this cause. The workers' links were hung up then.
  pub record WorksNet (tally : Tally) : Type 0 where
    pub report : CrewReport
    pub beside : ServesBeside n.told answers (n.books net) (n.books net_now) service.workers MOST_TURNS report tally
    pub stop : StopIs n.told service.conns tally.accepted tally.left (n.coming net_now) (n.faults net) (n.faults net_now) tally.stop

  -- No connection was accepted, since a worker's link wasn't dialed. Those that were are hung up.
  abbrev pub LeavesNet : Type 0
  LeavesNet = ServesNone n.told (n.books net) (n.books net_now) service.workers

  -- What was done with the net, where the volume was opened.
  abbrev pub MeetsNet : Result Tally DialFault → Type 0
  MeetsNet (Ok tally) = WorksNet tally
  MeetsNet (Err dials.Failed) = LeavesNet × Rose (n.faults net) (n.faults net_now)
  MeetsNet (Err dials.NoMemory) = LeavesNet

module _ {D K N : Type 0} (w : DiskWords D) (n : NetWords N) (s : ServerWords D K) (service : DestService)
    (taken taken_now : Option (List ℕ)) (writes writes_now : ℕ) (net net_now : N) where
  -- The volume of the disk was opened; by a server that began with this machine so much was done with the net, and nothing was put. The disk
  -- is that of the machine as it was after the last of all steps, and whatever a crash may leave of it now can be opened again.
  pub record Served (disk now : D) (end : ServeEnd) : Type 0 where
    pub first : K
    pub last : K
    pub done : Result Tally DialFault
    pub volume : w.told → flaw_of (w.size disk) (contents (w.timeline disk)) ≡ None
    pub opened : s.opens disk first
    pub meets : MeetsNet n (s.answers first) service net net_now done
    pub came : s.comes first last
    pub back : s.hands last now
    pub again : w.told → (image : Image) → MayLeave (present (w.timeline now)) image → CanBeOpened (w.size now) image
    pub is : end ≡ end_after done
    pub puts : Keeps taken taken_now

  -- Want of memory has no cause. Nobody was served, and the disk was let go or handed back unopened; or a worker's dial or a connection that
  -- was served wanted memory.
  abbrev pub Starved : D → Option D → Type 0
  Starved disk None = Idle w n s service.conns taken taken_now writes writes_now net net_now
  Starved disk (Some now) =
      (Idle w n s service.conns taken taken_now writes writes_now net net_now
      × HandsBack w n s service.conns taken taken_now writes writes_now net net_now disk now) ⊎ Served disk now ends.NoMemory

  abbrev pub EndIs : ServeEnd → D → Option D → Type 0
  EndIs ends.NoMemory disk now = Starved disk now
  EndIs ends.Done disk (Some now) = Served disk now ends.Done
  EndIs ends.NetFault disk (Some now) = Served disk now ends.NetFault
  EndIs ends.DiskFault disk (Some now) = Failed w n s service.conns taken taken_now writes writes_now net net_now disk now
  EndIs ends.NotVolume disk (Some now) =
      Refused w n s service.conns taken taken_now writes writes_now net net_now disk now (Appends taken taken_now)
  EndIs ends.WriteFault disk (Some now) =
      Rose writes writes_now × Refused w n s service.conns taken taken_now writes writes_now net net_now disk now (AppendsFront taken taken_now)
  EndIs end disk None = ⊥

  -- the disk is the one that was handed in
  abbrev pub DestEnds : Option D → Option D → ServeEnd → Type 0
  DestEnds None now end = ⊥
  DestEnds (Some disk) now end = EndIs end disk now
