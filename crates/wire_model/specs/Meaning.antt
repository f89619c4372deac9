-- What operations ask and what their results say, as functions of their bytes, which the crates above give.
-- RFC 8881 sections 18.7 (GETATTR) and 18.22 (READ), RFC 7862 sections 15.2 (COPY), 15.9 (OFFLOAD_STATUS) and
-- 16.1 (CB_OFFLOAD).
use Rattle.std.specs.Prelude.{ℕ, Bool, Option, List}
use Rattle.copy_model.specs.Job.{Plan}
use Rattle.nfs_base.specs.declared.job.JobName.{JobName}

-- where a READ begins
pub record Place : Type 0 where
  pub file : ℕ
  pub off : ℕ

-- The bytes that a READ asks from, and its data. The file whose size and change attribute a GETATTR asks, and
-- these two. The plan that a COPY asks for, and the name that its answer gives. The name whose state an
-- OFFLOAD_STATUS asks, and whether its answer says that the copy completed without an error. Whether CB_OFFLOADs
-- report that the copy of a name is stable (FILE_SYNC4).
pub record Meaning : Type 0 where
  pub reads : List ℕ → Option Place
  pub data_in : List ℕ → Option (List ℕ)
  pub asks_attributes : List ℕ → Option ℕ
  pub size_in : List ℕ → Option ℕ
  pub change_in : List ℕ → Option ℕ
  pub copies : List ℕ → Option Plan
  pub name_in : List ℕ → Option JobName
  pub asks_status : List ℕ → Option JobName
  pub says_complete : List ℕ → Bool
  pub reports : List ℕ → JobName → Bool
