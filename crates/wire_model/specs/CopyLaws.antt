-- What the servers owe for volumes and copies in the step from moment k to the next.
use Rattle.std.specs.Prelude.{◌≡◌, ◌⊎◌, ℕ, suc, ◌+◌, ◌<◌, ◌≤◌, true, false, None, Some, List, [], ◌∷◌, ◌++◌, length}
use Rattle.copy_model.specs.Volume.{Volume, file_at, byte_at}
use Rattle.copy_model.specs.Job.{Plan, Entry, Sized, Landed, Stopped, Committed, Reported, Allows}
use Rattle.copy_model.specs.Marks.{len_of}
use Rattle.copy_model.specs.Effect.{Effect, Commits, after, IsAllowed, IsCrashOf}
use Rattle.nfs_base.specs.declared.seal.End.{End}
use Rattle.nfs_base.specs.declared.seal.End.TheVariants.{Source, Dest}
use Rattle.nfs_base.specs.declared.seal.Seal.{Seal}
use Rattle.wire_model.specs.Spelling.{Spelling}
use Rattle.wire_model.specs.Meaning.{Place, Meaning}
use Rattle.wire_model.specs.Wire.{Purpose, ForJob, Call, Slotted}
use Rattle.wire_model.specs.CallerLaws.{Takes}
use Rattle.wire_model.specs.Copies.{Job, Plain, Lands, IsBlank, may_land, is_safe, effect_of}
use Rattle.wire_model.specs.System.{Chunk, System, plan_at}

-- A volume goes on by one effect that is allowed, where what its server takes calls it once at most (own).
pub record VolumeLaws (v w : Volume) (e : Effect) : Type 0 where
  pub allowed : IsAllowed v e
  pub goes_on : w ≡ after v e

-- What results tell of the source's volume before the step: data are bytes of a volume that can be read (RFC
-- 8881 section 18.22), a size and a change attribute those of the file (RFC 8881 section 18.7).
pub record TellsRight (meaning : Meaning) (v : Volume) (ops results : List ℕ) : Type 0 where
  pub read : (place : Place) (bytes : List ℕ) → meaning.reads ops ≡ Some place → meaning.data_in results ≡ Some bytes
      → (v.broken ≡ false)
      × ((i : ℕ) → i < length bytes → byte_at bytes i ≡ byte_at (file_at v place.file).now (place.off + i))
  pub size : (file size : ℕ) → meaning.asks_attributes ops ≡ Some file → meaning.size_in results ≡ Some size
      → size ≡ length (file_at v file).now
  pub change : (file change : ℕ) → meaning.asks_attributes ops ≡ Some file → meaning.change_in results ≡ Some change
      → change ≡ (file_at v file).change

-- An end takes an answer of a server, to a call that it made for this purpose.
pub record IsAnswerFor (spell : Spelling) (s : System) (server e : End) (k : ℕ) (purpose : Purpose) : Type 0 where
  pub call : Call
  pub seal : Seal
  pub reply : List ℕ
  pub takes : Takes spell (s.caller server e k) (s.acts e k) seal (Slotted seal call) reply
  pub purpose_is : call.purpose ≡ purpose

-- where the source has the chunk of a copy that begins at off
abbrev pub place_in : Plan → ℕ → Place
place_in plan off = record { file = plan.src_file; off = plan.src_off + off }

-- The bytes of a chunk are the data of an answer that this step takes, to the READ for its place of the source.
pub record IsFetched (spell : Spelling) (meaning : Meaning) (s : System) (k : ℕ) (chunk : Chunk) : Type 0 where
  pub answer : IsAnswerFor spell s Source Dest k (ForJob chunk.copy)
  pub reads : meaning.reads answer.call.ops ≡ Some (place_in (plan_at s k chunk.copy) chunk.off)
  pub bytes : meaning.data_in (spell.results_of answer.reply) ≡ Some chunk.bytes

-- a chunk is at hand where a worker holds it or this step fetches it
abbrev pub IsAtHand : Spelling → Meaning → System → ℕ → Chunk → Type 0
IsAtHand spell meaning s k chunk = ((worker : ℕ) × (s.holds k worker ≡ Some chunk)) ⊎ IsFetched spell meaning s k chunk

-- A length is given by an answer with the source's size: the count that was asked for, or for a count of 0 all
-- to the end (RFC 7862 section 15.2.3).
pub record IsSizedBy (spell : Spelling) (meaning : Meaning) (s : System) (k j len : ℕ) : Type 0 where
  pub answer : IsAnswerFor spell s Source Dest k (ForJob j)
  pub asks : meaning.asks_attributes answer.call.ops ≡ Some (plan_at s k j).src_file
  pub size : ℕ
  pub says : meaning.size_in (spell.results_of answer.reply) ≡ Some size
  pub counted : 0 < (plan_at s k j).count → len ≡ (plan_at s k j).count
  pub to_end : (plan_at s k j).count ≡ 0 → (plan_at s k j).src_off + len ≡ size

-- what comes with an entry
abbrev pub IsDue : Spelling → Meaning → System → ℕ → ℕ → Entry → Type 0
IsDue spell meaning s k j (Sized len) = (may_land (s.job k j) ≡ true) × IsSizedBy spell meaning s k j len
IsDue spell meaning s k j (Landed off len) = (bytes : List ℕ) × (s.deed k ≡ Lands j off bytes) × (length bytes ≡ len)
IsDue spell meaning s k j Stopped = may_land (s.job k j) ≡ true
IsDue spell meaning s k j Committed = (may_land (s.job k j) ≡ true) × (s.deed k ≡ Plain (Commits (plan_at s k j).dst_file))
IsDue spell meaning s k j Reported = Unit {0}

-- the log of a job gets one entry, which is allowed and due
pub record Enters (spell : Spelling) (meaning : Meaning) (s : System) (k j : ℕ) : Type 0 where
  pub entry : Entry
  pub pushed : (s.job (suc k) j).entries ≡ (s.job k j).entries ++ entry ∷ []
  pub allowed : Allows (plan_at s k j).consecutive (s.job k j).entries entry
  pub due : IsDue spell meaning s k j entry

-- A chunk lands for a job that may still land, within its range, in a step in which no copy is accepted; it is
-- at hand, and the log says so.
pub record IsLanding (spell : Spelling) (meaning : Meaning) (s : System) (k j off : ℕ) (bytes : List ℕ) : Type 0 where
  pub there : j < s.made k
  pub live : may_land (s.job k j) ≡ true
  pub none_new : s.made (suc k) ≡ s.made k
  pub within : off + length bytes ≤ len_of (s.job k j).entries
  pub entry : (s.job (suc k) j).entries ≡ (s.job k j).entries ++ Landed off (length bytes) ∷ []
  pub at_hand : IsAtHand spell meaning s k (record { copy = j; off = off; bytes = bytes })

-- marks that rose stay
pub record KeepsMarks (before now : Job) : Type 0 where
  pub retired : before.retired ≡ true → now.retired ≡ true
  pub lost : before.lost ≡ true → now.lost ≡ true
  pub stable : before.stable ≡ true → now.stable ≡ true

-- the rooms that two copies claim have no common byte
abbrev pub AreApart : System → ℕ → ℕ → ℕ → Type 0
AreApart s k j l =
    (place : ℕ) → (plan_at s k j).dst_off ≤ place → place < (plan_at s k j).dst_off + s.reach j
    → (plan_at s k l).dst_off ≤ place → place < (plan_at s k l).dst_off + s.reach l → ⊥

-- The laws of the destination's copies (RFC 7862 section 15.2; all own). made, fresh, unmade, plan: copies are accepted
-- in order, begin blank and keep their plans; one may be retired in the step that accepts it. entries: a log gets one
-- entry at most, which is allowed and due. lands: a landing is one of a job that may land, of a chunk at hand. marks,
-- stable: marks stay, and what is stable is safe. crash: a crash loses every job. apart, reach: at its acceptance a copy
-- claims room apart from that of every copy that may still land, and its length stays within. holds: a chunk that is
-- held was at hand. ready: a call for a job is made only once the job is accepted.
pub record CopiesLaws (spell : Spelling) (meaning : Meaning) (s : System) (k : ℕ) : Type 0 where
  pub made : s.made k ≤ s.made (suc k)
  pub fresh : (j : ℕ) → s.made k ≤ j → IsBlank (s.job (suc k) j)
  pub unmade : (j : ℕ) → s.made (suc k) ≤ j → (s.job (suc k) j).retired ≡ false
  pub plan : (j : ℕ) → j < s.made k → plan_at s (suc k) j ≡ plan_at s k j
  pub entries : (j : ℕ) → j < s.made k → ((s.job (suc k) j).entries ≡ (s.job k j).entries) ⊎ Enters spell meaning s k j
  pub lands : (j off : ℕ) (bytes : List ℕ) → s.deed k ≡ Lands j off bytes → IsLanding spell meaning s k j off bytes
  pub marks : (j : ℕ) → j < s.made k → KeepsMarks (s.job k j) (s.job (suc k) j)
  pub stable : (j : ℕ) → (s.job (suc k) j).stable ≡ true → is_safe (s.job (suc k) j) ≡ true
  pub crash : IsCrashOf (effect_of (plan_at s k) (s.deed k)) → (j : ℕ) → j < s.made (suc k) → (s.job (suc k) j).lost ≡ true
  pub apart : (j l : ℕ) → j < l → s.made k ≤ l → l < s.made (suc k) → may_land (s.job (suc k) j) ≡ true
      → (plan_at s (suc k) l).dst_file ≡ (plan_at s (suc k) j).dst_file → AreApart s (suc k) j l
  pub reach : (j : ℕ) → j < s.made (suc k) → len_of (s.job (suc k) j).entries ≤ s.reach j
  pub holds : (worker : ℕ) (chunk : Chunk) → s.holds (suc k) worker ≡ Some chunk
      → (s.holds k worker ≡ Some chunk) ⊎ IsFetched spell meaning s k chunk
  pub ready : (j : ℕ) → (s.caller Source Dest (suc k)).ready (ForJob j) ≡ true → j < s.made (suc k)

-- at the first moment no copy is accepted, and no chunk held
pub record CopiesStart (s : System) : Type 0 where
  pub none_made : s.made 0 ≡ 0
  pub blank : (j : ℕ) → IsBlank (s.job 0 j)
  pub none_retired : (j : ℕ) → (s.job 0 j).retired ≡ false
  pub none_held : (worker : ℕ) → s.holds 0 worker ≡ None
