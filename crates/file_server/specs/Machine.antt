-- What every server has and does in a compound, as plain data: the state, how far a compound is, and what a particular
-- server adds. RFC 8881 section 16.2.
use Rattle.std.specs.Prelude.{◌≡◌, ℕ, Bool, List, ◌++◌}
use Rattle.wire_xdr.specs.Words.{word_bytes}
use Rattle.file_ops.specs.declared.results.FileRes.{FileRes}
use Rattle.file_ops.specs.Results.{file_res, file_res_number, file_res_status}
use Rattle.state_ids.specs.Opens.{OpenTable}
use Rattle.server_volume.specs.declared.used.Used.{Used}
use Rattle.server_volume.specs.Choices.{Choice, Agrees}
use Rattle.server_volume.specs.Store.{Store}
use Rattle.server_volume.specs.Calls.{Called}
use Rattle.file_server.specs.declared.held.Held.{Held}
use Rattle.file_server.specs.declared.extension.Ask.{Ask}
use Rattle.file_server.specs.declared.extension.Caller.{Caller}
use Rattle.file_server.specs.declared.extension.Gate.{Gate}

-- The volume, the opens, and what a particular server has.
pub record Machine (X : Type 0) : Type 0 where
  pub store : Store
  pub opens : OpenTable
  pub extra : X

-- How far a compound is: the machine, what its operations handed on to one another, the calls on the volume so far,
-- and whether a READ was among its operations.
pub record Going (X : Type 0) : Type 0 where
  pub machine : Machine X
  pub held : Held
  pub used : List Used
  pub has_read : Bool

-- an operation that was answered
pub record Answered (X : Type 0) : Type 0 where
  pub going : Going X
  pub res : FileRes

-- What a particular server adds: whether it lets an operation go on, by who calls and what its context carries, and
-- what that changes of what the server has.
pub record Rules (X P : Type 0) : Type 1 where
  pub gate : X → Caller → P → Ask → X × Gate

-- ---- a part of it changed

-- a call on the volume was made
abbrev pub with_call : {X F : Type 0} → Called F → Going X → Going X
with_call c g = record g { machine = record g.machine { store = c.store }; used = c.used }

abbrev pub with_extra : {X : Type 0} → X → Going X → Going X
with_extra x g = record g { machine = record g.machine { extra = x } }

-- ---- an operation in code is its model's

-- how a result stands in a reply: behind its operation's number
abbrev pub res_bytes : FileRes → List ℕ
res_bytes res = word_bytes (file_res_number res) ++ (file_res (file_res_number res)).spell res

-- what the code shows of an answer: how far the compound is then, the results behind those before, and the status
pub record Shown (X : Type 0) : Type 0 where
  pub going : Going X
  pub bytes : List ℕ
  pub status : ℕ

abbrev pub shown : {X : Type 0} → Answered X → List ℕ → Shown X
shown a before = record { going = a.going; bytes = before ++ res_bytes a.res; status = (file_res_status a.res).number }

-- At each choice that agrees with the calls that were made, the model's answer is this one.
abbrev pub Does : {X : Type 0} → (Choice → Answered X) → List ℕ → Going X → List ℕ → ℕ → Type 0
Does told before new after status =
    (choice : Choice) → Agrees choice new.used → shown (told choice) before ≡ record { going = new; bytes = after; status = status }
