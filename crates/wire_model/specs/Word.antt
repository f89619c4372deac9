-- What the client knows of a copy of its own, and what it has said of it. Own definitions.
use Rattle.std.specs.Prelude.{ℕ, Bool, Option}
use Rattle.nfs_base.specs.declared.job.JobName.{JobName}
use Rattle.wire_model.specs.Spelling.{Context}

-- the change attribute of the source file before COPY, and the root context under which it was told
pub record First : Type 0 where
  pub file : ℕ
  pub root : Context
  pub change : ℕ

-- The first change attribute, once it is known; the name that COPY's answer gave the copy, once it is known; and
-- whether the client has said that the copy is stable, and that it is exact.
pub record Word : Type 0 where
  pub first : Option First
  pub name : Option JobName
  pub stable : Bool
  pub exact : Bool
