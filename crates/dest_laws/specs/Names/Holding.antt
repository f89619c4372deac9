-- What holds of a destination's reports between steps, as a system of machines shows it. Own definitions.
use Rattle.std.specs.Prelude.{◌≡◌, ℕ, suc, ◌+◌, ◌<◌, ◌^◌, Bool, true, List, Option, Some}
use Rattle.std.specs.List.{AllByRecursion}
use Rattle.copy_model.specs.Job.{Plan}
use Rattle.copy_model.specs.Marks.{is_committed}
use Rattle.dest_core.specs.Stepping.{DestState, DestStep, copier_in}
use Rattle.dest_laws.specs.Names.Causes.{HaveCauses}
use Rattle.dest_laws.specs.Names.Posts.{AreNotClients, AreRight, SessionsFit}
use Rattle.dest_laws.specs.Names.Right.{AreGiven, TellsRight}
use Rattle.dest_laws.specs.View.Steps.{table_in}
use Rattle.nfs_base.specs.declared.job.JobName.{JobName}
use Rattle.nfs_base.specs.declared.seal.End.TheVariants as sides
use Rattle.nfs_base.specs.declared.seal.End.TheVariants.{Dest}
use Rattle.nfs_base.specs.declared.seal.Seal.{Seal}
use Rattle.outbox.specs.declared.outgoing.Outgoing.{Outgoing}
use Rattle.server_laws.specs.Good.{IsGood}
use Rattle.session_server.specs.Lengths.{AreShort}
use Rattle.session_server.specs.declared.host.TheConstants.{MOST_STEPS}
use Rattle.wire_model.specs.Meaning.{Meaning}
use Rattle.wire_model.specs.NameLaws.{IsAccepted, IsReported}
use Rattle.wire_model.specs.Spelling.{Spelling}
use Rattle.wire_model.specs.System.{System}
use Rattle.wire_model.specs.Wire.{Sends}
use Rattle.wire_xdr.specs.Cursor.{IsBytes}

-- a copy is safe once it is committed
abbrev pub safe_at : System → (k place : ℕ) → Bool
safe_at s k place = is_committed (s.job k place).entries

-- a copy that is marked stable was accepted, and is committed
abbrev pub MarksAreRight : System → (k : ℕ) → Type 0
MarksAreRight s k = (j : ℕ) → (s.job k j).stable ≡ true → (j < s.made k) × (safe_at s k j ≡ true)

-- What awaits its answer tells what is right of the copies, each job has its number, back channels fit, marks are
-- right, and stopped jobs have causes.
pub record IsToldRight {M : Type 0} (s : System) (k : ℕ) (d : DestState M) : Type 0 where
  pub are : AreRight (TellsRight (table_in d).boot (s.made k) (safe_at s k)) (copier_in d).back
  pub given : AreGiven (table_in d)
  pub fit : SessionsFit d.state.sessions
  pub marks : MarksAreRight s k
  pub have : HaveCauses (table_in d)

-- ---- what is known of a step besides

-- what a server answers is sealed by one of its own contexts, if by any
abbrev pub IsServersSeal : Option Seal → Type 0
IsServersSeal sealed = (seal : Seal) → sealed ≡ Some seal → seal.owner ≡ sides.Dest

abbrev pub IsServers : Outgoing → Type 0
IsServers out = IsServersSeal out.seal

-- Numbers of openings and of jobs have four bytes, what goes out is bytes, and no context of the destination's mount is the client's;
-- the last holds of every good mount of the source (`names_are_lawful`, clause own).
pub record IsFair {M : Type 0} (d : DestState M) (t : DestStep M) : Type 0 where
  pub boot : (table_in t.host).boot < 2 ^ 32
  pub made : (table_in t.host).made < 2 ^ 32
  pub bytes : AllByRecursion (λ (out : Outgoing). IsBytes out.bytes) t.out.sent
  pub own : AreNotClients (copier_in d).work.mount.contexts

-- a CB_OFFLOAD that is sealed for the client and says FILE_SYNC4 is one of a copy that is reported as stable (RFC 7862 section 16.1)
abbrev pub ReportsRight : Spelling → Meaning → System → ℕ → Type 0
ReportsRight spell meaning s k =
    (bytes : List ℕ) (seal : Seal) (name : JobName) → Sends (s.acts Dest k) bytes (Some seal) → seal.owner ≡ sides.Client
    → spell.is_callback bytes ≡ true → meaning.reports (spell.ops_of bytes) name ≡ true → IsReported s (suc k) name

-- an answer to OFFLOAD_STATUS that a copy is complete is one of a copy that is reported as stable (RFC 7862 section 15.9)
abbrev pub StatusRight : Meaning → System → ℕ → Type 0
StatusRight meaning s k =
    (ops results : List ℕ) (name : JobName) → (s.acts Dest k).executed ≡ Some (record { ops = ops; results = results })
    → meaning.asks_status ops ≡ Some name → meaning.says_complete results ≡ true → IsReported s (suc k) name

-- a COPY that gives a name accepts the copy that was asked for, under that name (RFC 7862 section 15.2)
abbrev pub CopiesRight : Meaning → System → ℕ → Type 0
CopiesRight meaning s k =
    (ops results : List ℕ) (plan : Plan) (name : JobName) → (s.acts Dest k).executed ≡ Some (record { ops = ops; results = results })
    → meaning.copies ops ≡ Some plan → meaning.name_in results ≡ Some name → IsAccepted s k plan name

-- A record comes to a server that is as it should be and has steps left; what it sends is no longer than a record may be. Numbers
-- of openings and of jobs have four bytes.
pub record IsFairRecord {M : Type 0} (message : List ℕ) (d : DestState M) (t : DestStep M) : Type 0 where
  pub good : IsGood d
  pub few : d.steps < MOST_STEPS
  pub are_bytes : IsBytes message
  pub short : AreShort t.out.sent
  pub owner : d.contexts.owner ≡ sides.Dest
  pub same_owner : t.host.contexts.owner ≡ sides.Dest
  pub boot : (table_in d).boot < 2 ^ 32
  pub made : (table_in d).made + 1 < 2 ^ 32
