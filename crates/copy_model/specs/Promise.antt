-- The promise: what holds of every run, whatever comes. Read this file to know what nfscopy is for.
-- Own definitions, in the words of RFC 7862 section 4 (inter-server copy) and section 15.2 (COPY).
--
-- A history is what some machine shows, and its definition is part of what has to be believed. It gives bare
-- its meaning: bare starts as the destination does and takes its writes, its commits (those of copies too) and
-- its crashes, and no landing; a call that the volume refused as broken is in neither. It gives the marks their
-- meaning too: a copy that its server retires is seen as stopped from then on. A mark that rose stays.
use Rattle.std.specs.Prelude.{◌≡◌, ℕ, suc, ◌+◌, ◌-◌, ◌<◌, ◌≤◌, true, false, Some, ◌⊎◌}
use Rattle.copy_model.specs.Job.{Plan}
use Rattle.copy_model.specs.Moment.{Dest, Copy, Did, Rested, Wrote, Landed, Crashed, Moment, History}

-- the destination bytes of a copy: none until it is sized
abbrev pub InRange : Copy → ℕ → Type 0
InRange copy place = (copy.plan.dst_off ≤ place) × (place < copy.plan.dst_off + copy.len)

-- copy j was accepted by moment k
abbrev pub IsAcceptedBy : History → ℕ → ℕ → Type 0
IsAcceptedBy h j k = j < (h k).made

-- copy j was completed by moment k
abbrev pub IsCompletedBy : History → ℕ → ℕ → Type 0
IsCompletedBy h j k = ((h k).copy j).completed ≡ true

-- copy j was reported as stable by moment k
abbrev pub IsStableBy : History → ℕ → ℕ → Type 0
IsStableBy h j k = ((h k).copy j).stable ≡ true

-- copy j was stopped by moment k
abbrev pub IsStoppedBy : History → ℕ → ℕ → Type 0
IsStoppedBy h j k = ((h k).copy j).stopped ≡ true

-- moment i lies between the acceptance of copy j and its completion, both ends with it
abbrev pub IsDuring : History → ℕ → ℕ → Type 0
IsDuring h j i = IsAcceptedBy h j i × ((l : ℕ) → l < i → ((h l).copy j).completed ≡ false)

-- the source's byte that belongs at a place of the destination
abbrev pub source_byte : Moment → Plan → ℕ → ℕ
source_byte m plan place = m.source.now plan.src_file (plan.src_off + (place - plan.dst_off))

-- The source held this value for a place of copy j, at a moment between acceptance and completion at
-- which the source's volume could be read.
pub record Held (h : History) (j : ℕ) (plan : Plan) (place value : ℕ) : Type 0 where
  pub moment : ℕ
  pub during : IsDuring h j moment
  pub readable : (h moment).source.broken ≡ false
  pub byte : source_byte (h moment) plan place ≡ value

-- the source file's change attribute stood still from acceptance to completion
abbrev pub IsStill : History → ℕ → Plan → Type 0
IsStill h j plan =
    (i l : ℕ) → IsDuring h j i → IsDuring h j l → (h i).source.change plan.src_file ≡ (h l).source.change plan.src_file

-- the step was a WRITE to this byte
abbrev pub WritesTo : Did → ℕ → ℕ → Type 0
WritesTo Rested file place = ⊥
WritesTo (Wrote at off len) file place = (at ≡ file) × (off ≤ place) × (place < off + len)
WritesTo (Landed copy off len) file place = ⊥
WritesTo Crashed file place = ⊥

-- the step landed a chunk of copy j
abbrev pub LandsOf : Did → ℕ → Type 0
LandsOf Rested j = ⊥
LandsOf (Wrote at off len) j = ⊥
LandsOf (Landed copy off len) j = copy ≡ j
LandsOf Crashed j = ⊥

-- the step landed a chunk of copy j, whose plan this is, and the chunk has this place of its file
abbrev pub LandsAt : Did → ℕ → Plan → ℕ → Type 0
LandsAt Rested j plan place = ⊥
LandsAt (Wrote at off len) j plan place = ⊥
LandsAt (Landed copy off len) j plan place =
    (copy ≡ j) × (plan.dst_off + off ≤ place) × (place < plan.dst_off + off + len)
LandsAt Crashed j plan place = ⊥

-- the step was a crash of the destination
abbrev pub IsCrash : Did → Type 0
IsCrash Rested = ⊥
IsCrash (Wrote at off len) = ⊥
IsCrash (Landed copy off len) = ⊥
IsCrash Crashed = Unit {0}

-- the step that led to this moment wrote or landed this byte
abbrev pub Reaches : Moment → ℕ → ℕ → Type 0
Reaches m file place =
    WritesTo m.did file place
    ⊎ ((j : ℕ) × LandsAt m.did j (m.copy j).plan place × ((m.copy j).plan.dst_file ≡ file))

-- After its acceptance and by moment k, a WRITE reached this place of copy j's file, or the place came
-- into the range of a copy to that file that was accepted later.
abbrev pub IsTouched : History → ℕ → Plan → ℕ → ℕ → Type 0
IsTouched h j plan place k =
    ((i : ℕ) × (i < k) × IsAcceptedBy h j i × WritesTo (h (suc i)).did plan.dst_file place)
    ⊎ ((l : ℕ) × (j < l) × IsAcceptedBy h l k × (((h k).copy l).plan.dst_file ≡ plan.dst_file) × InRange ((h k).copy l) place)

-- a crash now may leave this value at a place of a file
abbrev pub MayLeave : Dest → ℕ → ℕ → ℕ → Type 0
MayLeave d file place value = (d.safe file place ≡ value) ⊎ (d.doubt file place ≡ Some value)

-- the destination shows this value there: to a reader, while its volume can be read, or after a crash now
abbrev pub Shows : Dest → ℕ → ℕ → ℕ → Type 0
Shows d file place value = ((d.broken ≡ false) × (d.now file place ≡ value)) ⊎ MayLeave d file place value

-- What a copy reported as stable at moment s leaves at a place: one value from then on, which the
-- source held there. Where the source file stood still, it is the value of every such moment.
pub record IsSettled (h : History) (j : ℕ) (plan : Plan) (s place : ℕ) : Type 0 where
  pub value : ℕ
  pub held : Held h j plan place value
  pub stays : (k : ℕ) → s ≤ k → (IsTouched h j plan place k → ⊥) → (x : ℕ) → Shows (h k).dest plan.dst_file place x → x ≡ value
  pub exact : IsStill h j plan → (i : ℕ) → IsDuring h j i → (h i).source.broken ≡ false → source_byte (h i) plan place ≡ value

-- The copied range goes to the end that the source file had at a moment between acceptance and completion.
-- A size is told of a volume that can't be read, too (GETATTR, RFC 8881 section 18.7).
pub record GoesToEnd (h : History) (j : ℕ) (copy : Copy) : Type 0 where
  pub moment : ℕ
  pub during : IsDuring h j moment
  pub end_is : copy.plan.src_off + copy.len ≡ (h moment).source.size copy.plan.src_file

-- The range of a copy is the one that was asked for: so many bytes, or for a count of 0 all to the end of
-- the source file.
pub record HasExtent (h : History) (j : ℕ) (copy : Copy) : Type 0 where
  pub counted : 0 < copy.plan.count → copy.len ≡ copy.plan.count
  pub to_end : copy.plan.count ≡ 0 → GoesToEnd h j copy

-- The destination's byte is what it would be had no chunk ever landed. A landing that failed breaks
-- the destination alone.
pub record IsAlike (d bare : Dest) (file place : ℕ) : Type 0 where
  pub broken : d.broken ≡ false → bare.broken ≡ false
  pub now : d.broken ≡ false → d.now file place ≡ bare.now file place
  pub safe : d.safe file place ≡ bare.safe file place
  pub doubt : d.doubt file place ≡ bare.doubt file place

-- the place lies in no range of a copy to this file that was sized by moment k
abbrev pub IsOutside : History → ℕ → ℕ → ℕ → Type 0
IsOutside h k file place =
    (j : ℕ) → IsAcceptedBy h j k → ((h k).copy j).plan.dst_file ≡ file → InRange ((h k).copy j) place → ⊥

-- A run keeps its copies. whole: a copy that was reported as stable is completed, and its range is the one
-- that was asked for. stable: each byte of it is settled, if it is untouched then or at any later moment.
-- others: a byte in no range is unmoved by copies. zeros: a byte in no range that no WRITE reached is still
-- the zero that it was formatted with.
pub record IsKept (h : History) : Type 0 where
  pub whole : (j s : ℕ) → IsStableBy h j s → IsCompletedBy h j s × HasExtent h j ((h s).copy j)
  pub stable : (j s k place : ℕ) → IsStableBy h j s → InRange ((h s).copy j) place → s ≤ k
      → (IsTouched h j ((h s).copy j).plan place k → ⊥) → IsSettled h j ((h s).copy j).plan s place
  pub others : (k file place : ℕ) → IsOutside h k file place → IsAlike (h k).dest (h k).bare file place
  pub zeros : (k file place : ℕ) → IsOutside h k file place
      → ((i : ℕ) → i < k → WritesTo (h (suc i)).did file place → ⊥)
      → (x : ℕ) → Shows (h k).dest file place x → x ≡ 0
  pub completes : (j k : ℕ) → IsCompletedBy h j k → IsCompletedBy h j (suc k)
  pub reports : (j k : ℕ) → IsStableBy h j k → IsStableBy h j (suc k)

-- A run stops its copies. stays: this mark stays too. lands: no chunk of a copy lands after its stop.
-- completes: nor is it completed. moves: a byte that a step changes at the destination, unless it is a crash, lies in the
-- WRITE that the step executes or in the chunk that it lands.
pub record IsStopped (h : History) : Type 0 where
  pub stays : (j k : ℕ) → IsStoppedBy h j k → IsStoppedBy h j (suc k)
  pub lands : (j i k : ℕ) → IsStoppedBy h j i → i ≤ k → LandsOf (h (suc k)).did j → ⊥
  pub completes : (j i k : ℕ) → IsStoppedBy h j i → i ≤ k → IsCompletedBy h j (suc k) → IsCompletedBy h j k
  pub moves : (k file place : ℕ) → (IsCrash (h (suc k)).did → ⊥) → (h (suc k)).dest.broken ≡ false
      → (Reaches (h (suc k)) file place → ⊥) → (h (suc k)).dest.now file place ≡ (h k).dest.now file place
