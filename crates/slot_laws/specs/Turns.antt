-- What a COMPOUND is to the slots of a server: a new call of one, which runs; a retry, which is answered as kept; or
-- neither, which moves none. RFC 8881 sections 2.10.6.1 and 18.46.
use Rattle.std.specs.Prelude.{◌≡◌, ◌⊎◌, ℕ, ◌==◌, ◌&&◌, Bool, true, false, not, nat_lt, List, ◌∷◌}
use Rattle.file_ops.specs.declared.args.FileArg.TheVariants as args
use Rattle.file_ops.specs.declared.sessions.SequenceArgs.{SequenceArgs}
use Rattle.nfs_base.specs.declared.limits.TheConstants.{MOST_OPERATIONS}
use Rattle.nfs_compound.specs.declared.compound.Compound.{Compound}
use Rattle.nfs_compound.specs.declared.op.Op.{Op}
use Rattle.nfs_compound.specs.declared.op.Op.TheVariants.{File}
use Rattle.sess_slots.specs.declared.answers.Begin.{Begin}
use Rattle.sess_slots.specs.declared.answers.Begin.TheVariants as begin
use Rattle.sess_slots.specs.declared.answers.Place.{Place}
use Rattle.sess_slots.specs.Begins.{begin_of, reply_at}
use Rattle.sess_slots.specs.Table.{SessionTable}
use Rattle.nfs_compound.specs.declared.compound.TheConstants.{MINOR_VERSION}
use Rattle.compound_server.specs.Compounds.{kept_bytes}
use Rattle.slot_laws.specs.Fronts.{SaysNotRun, SaysRun}
use Rattle.slot_laws.specs.Moves.{Moves, Rests}

-- SEQUENCE stands first in a compound, and means this at the server's sessions under a root context.
pub record Means (root : ℕ) (ops : List Op) (table : SessionTable) (answer : Begin) : Type 0 where
  pub sequence : SequenceArgs
  pub behind : List Op
  pub first : ops ≡ File (args.Sequence sequence) ∷ behind
  pub answer_is : begin_of table sequence.session sequence.slot sequence.sequence root ≡ answer

-- It is a new call of a slot: that moves and keeps the reply, which says that the operations ran.
pub record Runs (root : ℕ) (tag : List ℕ) (ops : List Op) (v w : SessionTable) (body : List ℕ) : Type 0 where
  pub place : Place
  pub means : Means root ops v (begin.New place)
  pub moves : Moves place root body v w
  pub says : SaysRun tag body

-- It is a retry: the kept reply answers it, and the sessions are as they were.
pub record Repeats (root : ℕ) (ops : List Op) (v w : SessionTable) (body : List ℕ) : Type 0 where
  pub place : Place
  pub means : Means root ops v (begin.Replay place)
  pub same : w ≡ v
  pub body_is : body ≡ kept_bytes (reply_at v place)

-- It is neither: no slot moves, and the reply doesn't say that operations ran.
pub record Stays (tag : List ℕ) (v w : SessionTable) (body : List ℕ) : Type 0 where
  pub rests : Rests v w
  pub says : SaysNotRun tag body

-- ---- which it is

abbrev pub is_replay : Begin → Bool
is_replay (begin.Replay place) = true
is_replay _ = false

abbrev pub first_retries : (root : ℕ) → List Op → SessionTable → Bool
first_retries root (File (args.Sequence a) ∷ ops) table = is_replay (begin_of table a.session a.slot a.sequence root)
first_retries root _ table = false

-- whether a compound is a retry, under a root context
abbrev pub is_retry : (root : ℕ) → Compound → SessionTable → Bool
is_retry root c table = (c.minor == MINOR_VERSION) && (not (nat_lt MOST_OPERATIONS c.count) && first_retries root c.ops table)

abbrev pub Turns : (retry : Bool) → (root : ℕ) (tag : List ℕ) → List Op → (v w : SessionTable) → (body : List ℕ) → Type 0
Turns true root tag ops v w body = Repeats root ops v w body
Turns false root tag ops v w body = Runs root tag ops v w body ⊎ Stays tag v w body
