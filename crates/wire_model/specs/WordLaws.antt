-- What the client owes for its word in the step from moment k to the next. All own.
use Rattle.std.specs.Prelude.{◌≡◌, ◌⊎◌, ℕ, suc, true, false, None, Some, List}
use Rattle.copy_model.specs.Job.{Plan}
use Rattle.nfs_base.specs.declared.job.JobName.{JobName}
use Rattle.nfs_base.specs.declared.seal.End.TheVariants.{Source, Dest, Client}
use Rattle.nfs_base.specs.declared.seal.Seal.{Seal}
use Rattle.wire_model.specs.Spelling.{Spelling}
use Rattle.wire_model.specs.Meaning.{Meaning}
use Rattle.wire_model.specs.Wire.{ForFirst, ForCopy, ForStatus, ForLast}
use Rattle.wire_model.specs.Word.{First, Word}
use Rattle.wire_model.specs.System.{System}
use Rattle.wire_model.specs.CopyLaws.{IsAnswerFor}

-- The first change attribute is told by an answer of the source, under the root of its call.
pub record IsFirst (spell : Spelling) (meaning : Meaning) (s : System) (k n : ℕ) (first : First) : Type 0 where
  pub answer : IsAnswerFor spell s Source Client k (ForFirst n)
  pub root : answer.call.root ≡ first.root
  pub asks : meaning.asks_attributes answer.call.ops ≡ Some first.file
  pub says : meaning.change_in (spell.results_of answer.reply) ≡ Some first.change

-- The name comes with the answer to COPY, which asked for a copy of the file whose first change attribute is known.
pub record IsNamed (spell : Spelling) (meaning : Meaning) (s : System) (k n : ℕ) (name : JobName) : Type 0 where
  pub answer : IsAnswerFor spell s Dest Client k (ForCopy n)
  pub plan : Plan
  pub asks : meaning.copies answer.call.ops ≡ Some plan
  pub says : meaning.name_in (spell.results_of answer.reply) ≡ Some name
  pub first : First
  pub first_is : (s.word k n).first ≡ Some first
  pub file : first.file ≡ plan.src_file

-- The client takes a callback that reports the copy of this name as stable.
pub record IsCalledBack (spell : Spelling) (meaning : Meaning) (s : System) (k : ℕ) (name : JobName) : Type 0 where
  pub bytes : List ℕ
  pub seal : Seal
  pub took : (s.acts Client k).took ≡ Some bytes
  pub accepted : (s.acts Client k).accepted ≡ Some seal
  pub own : seal.owner ≡ Client
  pub is_callback : spell.is_callback bytes ≡ true
  pub reports : meaning.reports (spell.ops_of bytes) name ≡ true

-- The client takes an answer to OFFLOAD_STATUS that the copy of this name completed.
pub record IsComplete (spell : Spelling) (meaning : Meaning) (s : System) (k n : ℕ) (name : JobName) : Type 0 where
  pub answer : IsAnswerFor spell s Dest Client k (ForStatus n)
  pub asks : meaning.asks_status answer.call.ops ≡ Some name
  pub says : meaning.says_complete (spell.results_of answer.reply) ≡ true

-- How the client comes to know that a copy is stable: by a callback now, by one that it held, since it came before
-- COPY's answer, or by a status. The answer to a COMMIT of its own would be one more.
pub data Reports (spell : Spelling) (meaning : Meaning) (s : System) (k n : ℕ) (name : JobName) : Type 0 where
  Calls : (called : IsCalledBack spell meaning s k name) → Reports spell meaning s k n name
  Holds : (holds : s.held k name ≡ true) → Reports spell meaning s k n name
  Completes : (complete : IsComplete spell meaning s k n name) → Reports spell meaning s k n name

-- a copy whose name is known is reported as stable
pub record IsSaidStable (spell : Spelling) (meaning : Meaning) (s : System) (k n : ℕ) : Type 0 where
  pub name : JobName
  pub known : (s.word (suc k) n).name ≡ Some name
  pub reports : Reports spell meaning s k n name

-- The last answer of the source tells the same change attribute of the same file, under the same root context.
pub record IsSaidExact (spell : Spelling) (meaning : Meaning) (s : System) (k n : ℕ) : Type 0 where
  pub answer : IsAnswerFor spell s Source Client k (ForLast n)
  pub first : First
  pub first_is : (s.word k n).first ≡ Some first
  pub same_root : answer.call.root ≡ first.root
  pub asks : meaning.asks_attributes answer.call.ops ≡ Some first.file
  pub says : meaning.change_in (spell.results_of answer.reply) ≡ Some first.change

-- what is known stays known, and what was said stays said
pub record KeepsWord (before now : Word) : Type 0 where
  pub first : (first : First) → before.first ≡ Some first → now.first ≡ Some first
  pub name : (name : JobName) → before.name ≡ Some name → now.name ≡ Some name
  pub stable : before.stable ≡ true → now.stable ≡ true
  pub exact : before.exact ≡ true → now.exact ≡ true

-- The laws of the client's word. keeps: what is known and said stays. first, name, stable, exact: what is new of
-- these has its cause in this step. held: a report is held only where a callback brought it. copy_ready: COPY is
-- sent only once the first change attribute is known. last_ready: the source is asked once more only when the copy
-- was said to be stable.
pub record WordLaws (spell : Spelling) (meaning : Meaning) (s : System) (k : ℕ) : Type 0 where
  pub keeps : (n : ℕ) → KeepsWord (s.word k n) (s.word (suc k) n)
  pub first : (n : ℕ) (first : First) → (s.word (suc k) n).first ≡ Some first
      → ((s.word k n).first ≡ Some first) ⊎ IsFirst spell meaning s k n first
  pub name : (n : ℕ) (name : JobName) → (s.word (suc k) n).name ≡ Some name
      → ((s.word k n).name ≡ Some name) ⊎ IsNamed spell meaning s k n name
  pub stable : (n : ℕ) → (s.word (suc k) n).stable ≡ true → ((s.word k n).stable ≡ true) ⊎ IsSaidStable spell meaning s k n
  pub exact : (n : ℕ) → (s.word (suc k) n).exact ≡ true → ((s.word k n).exact ≡ true) ⊎ IsSaidExact spell meaning s k n
  pub held : (name : JobName) → s.held (suc k) name ≡ true → (s.held k name ≡ true) ⊎ IsCalledBack spell meaning s k name
  pub copy_ready : (n : ℕ) → (s.caller Dest Client (suc k)).ready (ForCopy n) ≡ true
      → (first : First) × ((s.word (suc k) n).first ≡ Some first)
  pub last_ready : (n : ℕ) → (s.caller Source Client (suc k)).ready (ForLast n) ≡ true → (s.word (suc k) n).stable ≡ true

-- at the first moment the client knows nothing, has said nothing and holds no report
pub record WordStart (s : System) : Type 0 where
  pub no_first : (n : ℕ) → (s.word 0 n).first ≡ None
  pub no_name : (n : ℕ) → (s.word 0 n).name ≡ None
  pub not_stable : (n : ℕ) → (s.word 0 n).stable ≡ false
  pub not_exact : (n : ℕ) → (s.word 0 n).exact ≡ false
  pub none_held : (name : JobName) → s.held 0 name ≡ false
