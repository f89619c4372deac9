-- How a copy over a net ends: for each end why it came, what was done, and what was put.
use Rattle.std.specs.Prelude.{◌≡◌, ℕ, ◌⊎◌, Option, List}
use Rattle.std.specs.Io.KnownBytes.{Keeps, Appends}
use Rattle.outcome.specs.Causes.{Rose}
use Rattle.streams.specs.Sink.{AppendsFront}
use Rattle.client_steps.specs.declared.setting.Setting.{Setting}
use Rattle.single_copy.specs.Turns.{Conduct}
use Rattle.nfs_base.specs.declared.status.Status.{Status}
use Rattle.single_copy.specs.declared.answers.Copied.{Copied}
use Rattle.single_copy.specs.declared.answers.Copied.TheVariants.{Failed}
use Rattle.linked_copy.specs.Copying.{Made, Starved}
use Rattle.linked_copy.specs.Lines.{end_of, lines_of}
use Rattle.linked_copy.specs.Nets.{NetWords, Returned, Unpaired}
use Rattle.linked_copy.specs.declared.ends.CopyEnd.{CopyEnd}
use Rattle.linked_copy.specs.declared.ends.CopyEnd.TheVariants as ends

-- ---- what was done

-- both servers weren't dialed, and no copy was begun
abbrev pub CopyUnbegun : {N : Type 0} → NetWords N → (net net_now : N) → Type 0
CopyUnbegun n net net_now = Unpaired n.told (n.books net) (n.books net_now)

module _ {M W N : Type 0} (conduct : Conduct M W) (setting : Setting M) (n : NetWords N) (draws : W) (net net_now : N) where
  -- a copy was made with this answer, over two links that were dialed and were hung up
  abbrev pub CopyMade : Copied → Type 0
  CopyMade copied = Made conduct setting draws (Returned n.told (n.books net) (n.books net_now)) copied

  -- one found no memory
  abbrev pub CopyStarved : Type 0
  CopyStarved = Starved conduct setting draws (Returned n.told (n.books net) (n.books net_now))

-- ---- and what was put then

module _ {M W N : Type 0} (conduct : Conduct M W) (setting : Setting M) (n : NetWords N) (draws : W)
    (taken taken_now : Option (List ℕ)) (writes writes_now : ℕ) (net net_now : N) where
  -- A copy was made, and all its lines were put, under the end that goes with its answer.
  pub record Told (end : CopyEnd) : Type 0 where
    pub copied : Copied
    pub is : end ≡ end_of copied
    pub made : CopyMade conduct setting n draws net net_now copied
    pub puts : Appends taken taken_now (lines_of copied)

  -- A copy was made, and a front of its lines was put.
  pub record Cut : Type 0 where
    pub copied : Copied
    pub made : CopyMade conduct setting n draws net net_now copied
    pub puts : AppendsFront taken taken_now (lines_of copied)

  -- A copy was made and failed, of which nothing was put.
  pub record Untold : Type 0 where
    pub status : Status
    pub made : CopyMade conduct setting n draws net net_now (Failed status)

  -- Want of memory has no cause, and nothing was put then: no server was dialed, or the copy found none, or the line of one that
  -- failed.
  abbrev pub CopyEnds : CopyEnd → Type 0
  CopyEnds ends.Stable = Told ends.Stable
  CopyEnds ends.Failed = Told ends.Failed
  CopyEnds ends.LinkFault = Told ends.LinkFault
  CopyEnds ends.DrawFault = Told ends.DrawFault
  CopyEnds ends.DialFault = Rose (n.faults net) (n.faults net_now) × CopyUnbegun n net net_now × Keeps taken taken_now
  CopyEnds ends.WriteFault = Rose writes writes_now × Cut
  CopyEnds ends.NoMemory =
      Keeps taken taken_now × ((net_now ≡ net) ⊎ (CopyStarved conduct setting n draws net net_now ⊎ Untold))
