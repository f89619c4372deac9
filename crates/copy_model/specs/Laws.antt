-- Laws of single steps. A run whose every step obeys them keeps and stops its copies: the machine below
-- the promise proves these and nothing else. Own definitions.
use Rattle.std.specs.Prelude.{◌≡◌, ℕ, suc, ◌+◌, ◌<◌, ◌≤◌, Bool, true, false, ◌⊎◌}
use Rattle.copy_model.specs.Moment.{Copy, Moment, History}
use Rattle.copy_model.specs.Promise.{InRange, IsAcceptedBy, IsCompletedBy, HasExtent, source_byte, LandsOf, LandsAt, IsCrash, Reaches, Shows, IsAlike}

-- How far a copy is, which no promise speaks of: which bytes of its range have landed, whether it may
-- still land, whether the landed bytes stand (no crash of the destination since), and whether a commit
-- made them safe.
pub record Progress : Type 0 where
  pub landed : ℕ → Bool
  pub live : Bool
  pub intact : Bool
  pub durable : Bool

-- laws of one moment
pub record MomentLaws (m : Moment) (progress : ℕ → Progress) : Type 0 where
  pub stable : (j : ℕ) → (m.copy j).stable ≡ true → (progress j).durable ≡ true
  pub durable : (j : ℕ) → (progress j).durable ≡ true → (m.copy j).completed ≡ true
  pub completed : (j : ℕ) → (m.copy j).completed ≡ true → (progress j).live ≡ false
  pub stopped : (j : ℕ) → (m.copy j).stopped ≡ true → (progress j).live ≡ false
  pub completed_made : (j : ℕ) → (m.copy j).completed ≡ true → j < m.made
  pub stopped_made : (j : ℕ) → (m.copy j).stopped ≡ true → j < m.made
  pub within : (j q : ℕ) → (progress j).landed q ≡ true → q < (m.copy j).len

-- how a copy that was there goes on over one step
pub record CopyLaws (before now : Copy) (earlier later : Progress) : Type 0 where
  pub plan : now.plan ≡ before.plan
  pub grows : before.len ≤ now.len
  pub fixed : before.completed ≡ true → now.len ≡ before.len
  pub completed : before.completed ≡ true → now.completed ≡ true
  pub stopped : before.stopped ≡ true → now.stopped ≡ true
  pub stable : before.stable ≡ true → now.stable ≡ true
  pub durable : earlier.durable ≡ true → later.durable ≡ true
  pub live : later.live ≡ true → earlier.live ≡ true
  pub intact : later.intact ≡ true → earlier.intact ≡ true
  pub completes : now.completed ≡ true → (before.completed ≡ true) ⊎ (earlier.live ≡ true)

-- What a landing owes for each byte: the copy was live, the byte is in its range and in that of no copy
-- accepted later, and it is the source's byte at a moment since the copy's acceptance.
pub record LandingLaws (h : History) (k j place : ℕ) : Type 0 where
  pub within : InRange ((h (suc k)).copy j) place
  pub read : ℕ
  pub in_time : read ≤ suc k
  pub accepted : IsAcceptedBy h j read
  pub readable : (h read).source.broken ≡ false
  pub byte : (h (suc k)).dest.now ((h (suc k)).copy j).plan.dst_file place ≡ source_byte (h read) ((h (suc k)).copy j).plan place
  pub apart : (l : ℕ) → j < l → IsAcceptedBy h l (suc k) → ((h (suc k)).copy l).plan.dst_file ≡ ((h (suc k)).copy j).plan.dst_file
      → InRange ((h (suc k)).copy l) place → ⊥

-- what a step owes that makes a copy durable: all its bytes had landed and stood, and the destination
-- shows from then on what it held
pub record SettlingLaws (h : History) (progress : ℕ → ℕ → Progress) (k j : ℕ) : Type 0 where
  pub intact : (progress k j).intact ≡ true
  pub readable : (h k).dest.broken ≡ false
  pub landed : (q : ℕ) → q < ((h (suc k)).copy j).len → (progress k j).landed q ≡ true
  pub shows : (q x : ℕ) → q < ((h (suc k)).copy j).len
      → Shows (h (suc k)).dest ((h (suc k)).copy j).plan.dst_file (((h (suc k)).copy j).plan.dst_off + q) x
      → x ≡ (h k).dest.now ((h (suc k)).copy j).plan.dst_file (((h (suc k)).copy j).plan.dst_off + q)

-- laws of the step from moment k to the next
pub record StepLaws (h : History) (progress : ℕ → ℕ → Progress) (k : ℕ) : Type 0 where
  pub made : (h k).made ≤ (h (suc k)).made
  pub copies : (j : ℕ) → IsAcceptedBy h j k → CopyLaws ((h k).copy j) ((h (suc k)).copy j) (progress k j) (progress (suc k) j)
  -- a copy just accepted has landed nothing and isn't completed
  pub fresh : (j : ℕ) → ((h k).made ≤ j) → ((q : ℕ) → (progress (suc k) j).landed q ≡ false) × (((h (suc k)).copy j).completed ≡ false)
  -- a byte that has landed landed in this step, or before and not again in this step
  pub landed : (j q : ℕ) → (progress (suc k) j).landed q ≡ true
      → LandsAt (h (suc k)).did j ((h (suc k)).copy j).plan (((h (suc k)).copy j).plan.dst_off + q)
      ⊎ (((progress k j).landed q ≡ true) × (LandsAt (h (suc k)).did j ((h (suc k)).copy j).plan (((h (suc k)).copy j).plan.dst_off + q) → ⊥))
  -- only a live copy lands
  pub live : (j : ℕ) → LandsOf (h (suc k)).did j → IsAcceptedBy h j k × ((progress k j).live ≡ true)
  pub lands : (j place : ℕ) → LandsAt (h (suc k)).did j ((h (suc k)).copy j).plan place → LandingLaws h k j place
  pub settles : (j : ℕ) → (progress k j).durable ≡ false → (progress (suc k) j).durable ≡ true → SettlingLaws h progress k j
  -- a byte that the step doesn't reach stays, but for a crash
  pub quiet : (file place : ℕ) → (Reaches (h (suc k)) file place → ⊥) → (IsCrash (h (suc k)).did → ⊥)
      → (h (suc k)).dest.broken ≡ false
      → ((h k).dest.broken ≡ false) × ((h (suc k)).dest.now file place ≡ (h k).dest.now file place)
  -- a byte that the step doesn't reach shows nothing new, a crash or a commit included
  pub shown : (file place x : ℕ) → (Reaches (h (suc k)) file place → ⊥) → Shows (h (suc k)).dest file place x → Shows (h k).dest file place x
  -- after a crash of the destination nothing that landed before stands for sure
  pub crash : (j : ℕ) → IsCrash (h (suc k)).did → (progress (suc k) j).intact ≡ false
  -- but for landings the destination goes on as its bare volume does
  pub bare : (file place : ℕ) → ((j : ℕ) → LandsAt (h (suc k)).did j ((h (suc k)).copy j).plan place → ((h (suc k)).copy j).plan.dst_file ≡ file → ⊥)
      → IsAlike (h k).dest (h k).bare file place → IsAlike (h (suc k)).dest (h (suc k)).bare file place

-- the first moment: nothing is accepted, and each byte is 0
pub record StartLaws (m : Moment) : Type 0 where
  pub none : m.made ≡ 0
  pub zeros : (file place x : ℕ) → Shows m.dest file place x → x ≡ 0
  pub alike : (file place : ℕ) → IsAlike m.dest m.bare file place

-- all laws of a run
pub record IsLawfulRun (h : History) (progress : ℕ → ℕ → Progress) : Type 0 where
  pub start : StartLaws (h 0)
  pub moments : (k : ℕ) → MomentLaws (h k) (progress k)
  pub steps : (k : ℕ) → StepLaws h progress k
  -- what is completed was copied in full
  pub extent : (j k : ℕ) → IsCompletedBy h j k → HasExtent h j ((h k).copy j)
  -- one change attribute, one contents
  pub same_change : (i k file place : ℕ) → (h i).source.broken ≡ false → (h k).source.broken ≡ false
      → (h i).source.change file ≡ (h k).source.change file → (h i).source.now file place ≡ (h k).source.now file place
