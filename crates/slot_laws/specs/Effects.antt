-- What a COMPOUND does to slots, as a wire sees it.
use Rattle.std.specs.Prelude.{◌≡◌, ℕ, ◌<◌, ◌≤◌, Option, Some, List, ◌∷◌}
use Rattle.copy_ops.specs.declared.arg.CopyArg.{CopyArg}
use Rattle.file_ops.specs.declared.args.FileArg.TheVariants as args
use Rattle.file_ops.specs.declared.sessions.SequenceArgs.{SequenceArgs}
use Rattle.file_server.specs.declared.extension.Ask.{Ask}
use Rattle.file_server.specs.declared.extension.Caller.{Caller}
use Rattle.file_server.specs.declared.extension.Gate.{Gate}
use Rattle.file_server.specs.Machine.{Going}
use Rattle.nfs_compound.specs.declared.compound.Compound.{Compound}
use Rattle.nfs_compound.specs.declared.op.Op.{Op}
use Rattle.nfs_compound.specs.declared.op.Op.TheVariants.{File}
use Rattle.server_volume.specs.Choices.{Choice}
use Rattle.sess_slots.specs.Table.{SessionTable, session_id}
use Rattle.compound_server.specs.declared.who.Who.{Who}
use Rattle.compound_server.specs.Compounds.{on_compound}
use Rattle.compound_server.specs.Serves.{Served}
use Rattle.compound_server.specs.State.{Given, Parting, State}
use Rattle.slot_laws.specs.View.{kept_in, last_in}
use Rattle.slot_laws.specs.Sound.{IsSound}

-- A compound's SEQUENCE stands first and names a slot of a session that was made, and a number. RFC 8881 section 18.46.
pub record Names (ops : List Op) (table : SessionTable) (session slot number : ℕ) : Type 0 where
  pub sequence : SequenceArgs
  pub behind : List Op
  pub first : ops ≡ File (args.Sequence sequence) ∷ behind
  pub made : session ≤ table.sessions_made
  pub id_is : session_id table.boot session ≡ sequence.session
  pub slot_is : slot ≡ sequence.slot
  pub number_is : number ≡ sequence.sequence

-- a slot keeps this reply for a root context, under its number
abbrev pub KeepsIn : SessionTable → (session slot number root : ℕ) → (reply : List ℕ) → Type 0
KeepsIn table session slot number root reply =
    kept_in table session slot ≡ Some (record { number = number; root = root; results = reply })

-- A retry: the reply is that kept for its slot, number and root, and nothing changes. RFC 8881 section 2.10.6.1.3.
pub record IsAnsweredAsKept (root : ℕ) (ops : List Op) (v w : SessionTable) (body : List ℕ) : Type 0 where
  pub session : ℕ
  pub slot : ℕ
  pub number : ℕ
  pub names : Names ops v session slot number
  pub keeps : KeepsIn v session slot number root body
  pub same : w ≡ v

-- A call that runs: its number is above the slot's last, and is the last one then. RFC 8881 section 2.10.6.1.
pub record IsRunOnce (ops : List Op) (v w : SessionTable) : Type 0 where
  pub session : ℕ
  pub slot : ℕ
  pub number : ℕ
  pub names : Names ops v session slot number
  pub above : last_in v session slot < number
  pub last : last_in w session slot ≡ number

-- what holds of each COMPOUND of any server, by who calls, the sessions before, and what it gives
abbrev pub EachCompound : (X C : Type 0) → (Who → Compound → SessionTable → Given X → Type 0) → Type 0
EachCompound X C P =
    (gate : X → Caller → Option C → Ask → X × Gate) (serve : Choice → Caller → Option C → CopyArg → Going X → Served X) (parting : Parting X)
    (choice : Choice) (who : Who) (principal : List ℕ) (carry : Option C) (c : Compound) (s : State X) → IsSound s.sessions
    → P who c s.sessions (on_compound (record { gate = gate; serve = serve }) parting choice who principal carry c s)
