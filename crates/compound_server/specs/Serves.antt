-- An operation that a particular server answers, in code. RFC 7862 section 15.
use Rattle.std.specs.Prelude.{◌≡◌, ℕ, List, ◌++◌}
use Rattle.copy_ops.specs.declared.res.CopyRes.{CopyRes}
use Rattle.copy_ops.specs.Forms.{copy_res, copy_res_number}
use Rattle.copy_ops.specs.Operations.{copy_res_status}
use Rattle.file_server.specs.Machine.{Going}
use Rattle.server_volume.specs.Choices.{Choice, Agrees}
use Rattle.wire_xdr.specs.Words.{word_bytes}

-- an operation of a copy that a particular server answered
pub record Served (X : Type 0) : Type 0 where
  pub going : Going X
  pub res : CopyRes

-- one that is answered with this result, and changes nothing more
abbrev pub served : {X : Type 0} → Going X → CopyRes → Served X
served g res = record { going = g; res = res }

-- how a result stands in a reply: behind its operation's number
abbrev pub served_bytes : CopyRes → List ℕ
served_bytes res = word_bytes (copy_res_number res) ++ (copy_res (copy_res_number res)).spell res

-- what the code shows of an answer: how far the compound is then, the results behind those before, and the status
pub record Told (X : Type 0) : Type 0 where
  pub going : Going X
  pub bytes : List ℕ
  pub status : ℕ

abbrev pub told_of : {X : Type 0} → Served X → List ℕ → Told X
told_of s before = record { going = s.going; bytes = before ++ served_bytes s.res; status = (copy_res_status s.res).number }

-- At each choice that agrees with the calls that were made, the model's answer is this one.
abbrev pub Serves : {X : Type 0} → (Choice → Served X) → List ℕ → Going X → List ℕ → ℕ → Type 0
Serves served before new after status =
    (choice : Choice) → Agrees choice new.used → told_of (served choice) before ≡ record { going = new; bytes = after; status = status }
