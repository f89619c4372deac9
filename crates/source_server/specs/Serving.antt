-- How serving a source ends: for each end why it came, what was put, whom it served, and what the disk holds then.
use Rattle.std.specs.Prelude.{◌≡◌, ◌==◌, ◌⊎◌, ℕ, ◌≤◌, Bool, true, false, Option, None, Some, List}
use Rattle.std.specs.Io.KnownBytes.{Keeps, Appends}
use Rattle.block_file.specs.Opened.{CanBeOpened}
use Rattle.block_file.specs.Stored.{flaw_of}
use Rattle.disk_model.specs.Disk.{Image, MayLeave}
use Rattle.disk_model.specs.Elapsed.{contents, present}
use Rattle.link_server.specs.Answering.{Caller}
use Rattle.link_server.specs.Keeping.{Books, Serves, StopIs}
use Rattle.link_server.specs.declared.tally.Stop.{Stop}
use Rattle.link_server.specs.declared.tally.Stop.TheVariants as stops
use Rattle.link_server.specs.declared.tally.Tally.{Tally}
use Rattle.outcome.specs.Causes.{Rose}
use Rattle.streams.specs.Sink.{AppendsFront}
use Rattle.volume_format.specs.DiskWords.{DiskWords}
use Rattle.volume_format.specs.Lines.{not_volume_text}
use Rattle.source_server.specs.declared.serving.ServeEnd.{ServeEnd}
use Rattle.source_server.specs.declared.serving.ServeEnd.TheVariants as ends

-- The words in which a net speaks of its links: whether it tells of them, how many connections are left to come, its count of faults,
-- and its books of those that were hung up, are up and were accepted.
pub record NetWords (N : Type 0) : Type 1 where
  pub told : Type 0
  pub coming : N → ℕ
  pub faults : N → ℕ
  pub books : N → Books

abbrev pub net_words : {N : Type 0} → Type 0 → (N → ℕ) → (N → ℕ) → (N → Books) → NetWords N
net_words told coming faults books = record { told = told; coming = coming; faults = faults; books = books }

-- The words in which a server's machine speaks of itself: that it was opened from a disk and nobody has called it yet; what a connection gets
-- from a server that began with it; that it comes from one state to another by calls; and that it hands this disk back.
pub record ServerWords (D K : Type 0) : Type 1 where
  pub opens : D → K → Type 0
  pub answers : K → Caller → List ℕ → List ℕ → Caller → Type 0
  pub comes : K → K → Type 0
  pub hands : K → D → Type 0

-- The end of a server that accepted connections: a failure to accept, or else a connection that wanted memory, or none.
abbrev pub end_if : (starved : Bool) → ServeEnd
end_if true = ends.Done
end_if false = ends.NoMemory

abbrev pub end_by : Stop → (starved : ℕ) → ServeEnd
end_by stops.Failed starved = ends.NetFault
end_by stops.All starved = end_if (starved == 0)
end_by stops.End starved = end_if (starved == 0)
end_by stops.Spent starved = end_if (starved == 0)

module _ {D K N : Type 0} (w : DiskWords D) (n : NetWords N) (s : ServerWords D K) (conns : ℕ)
    (taken taken_now : Option (List ℕ)) (writes writes_now : ℕ) (net net_now : N) where
  -- By a server that began with this machine connections were accepted, served and hung up, and no more for this cause.
  pub record ServesNet (first : K) (tally : Tally) : Type 0 where
    pub served : n.told → Serves (s.answers first) (n.books net) (n.books net_now) tally
    pub stop : StopIs n.told conns tally.accepted tally.left (n.coming net_now) (n.faults net) (n.faults net_now) tally.stop

  -- The volume of the disk was opened and served, and nothing was put. The disk is that of the machine as it was after the last of all
  -- calls, and whatever a crash may leave of it now can be opened again.
  pub record Served (disk now : D) (end : ServeEnd) : Type 0 where
    pub first : K
    pub last : K
    pub tally : Tally
    pub volume : w.told → flaw_of (w.size disk) (contents (w.timeline disk)) ≡ None
    pub opened : s.opens disk first
    pub serves : ServesNet first tally
    pub came : s.comes first last
    pub back : s.hands last now
    pub again : w.told → (image : Image) → MayLeave (present (w.timeline now)) image → CanBeOpened (w.size now) image
    pub is : end ≡ end_by tally.stop tally.starved
    pub puts : Keeps taken taken_now

  -- The disk is handed back unopened.
  pub record HandsBack (disk now : D) : Type 0 where
    pub size : w.size now ≡ w.size disk
    pub faults : w.faults disk ≤ w.faults now

  -- The disk holds no volume, and nobody was served. The line that is owed tells the first field that is off.
  pub record Refused (disk now : D) (Puts : List ℕ → Type 0) : Type 0 where
    pub block : ℕ
    pub at : ℕ
    pub flaw : w.told → flaw_of (w.size disk) (contents (w.timeline disk)) ≡ Some (record { block = block; at = at })
    pub back : HandsBack disk now
    pub nobody : net_now ≡ net
    pub puts : Puts (not_volume_text block at)

  -- It failed while it was opened, and nobody was served.
  pub record Failed (disk now : D) : Type 0 where
    pub rose : Rose (w.faults disk) (w.faults now)
    pub back : HandsBack disk now
    pub nobody : net_now ≡ net
    pub puts : Keeps taken taken_now

  -- Nobody was served, and nothing was put.
  pub record Idle : Type 0 where
    pub nobody : net_now ≡ net
    pub puts : Keeps taken taken_now

  -- Want of memory has no cause. Nobody was served, and the disk was let go or handed back unopened; or connections were served that wanted
  -- memory.
  abbrev pub Starved : D → Option D → Type 0
  Starved disk None = Idle
  Starved disk (Some now) = (Idle × HandsBack disk now) ⊎ Served disk now ends.NoMemory

  abbrev pub EndIs : ServeEnd → D → Option D → Type 0
  EndIs ends.NoMemory disk now = Starved disk now
  EndIs ends.Done disk (Some now) = Served disk now ends.Done
  EndIs ends.NetFault disk (Some now) = Served disk now ends.NetFault
  EndIs ends.DiskFault disk (Some now) = Failed disk now
  EndIs ends.NotVolume disk (Some now) = Refused disk now (Appends taken taken_now)
  EndIs ends.WriteFault disk (Some now) = Rose writes writes_now × Refused disk now (AppendsFront taken taken_now)
  EndIs end disk None = ⊥

  -- the disk is the one that was handed in
  abbrev pub ServeEnds : Option D → Option D → ServeEnd → Type 0
  ServeEnds None now end = ⊥
  ServeEnds (Some disk) now end = EndIs end disk now
