-- One copy from its begin to its end: the turns that were made, why no more were, what is answered, and what both links brought
-- and took.
use Rattle.std.specs.Prelude.{◌≡◌, ◌≤◌, ◌||◌, true, List, ◌++◌, length}
use Rattle.rpc_msg.specs.Watching.{Watch, is_down}
use Rattle.nfs_base.specs.declared.side.Side.{Side}
use Rattle.nfs_base.specs.declared.side.Side.TheVariants.{Source, Dest}
use Rattle.client_core.specs.State.{new_client}
use Rattle.client_core.specs.Telling.{copy_of, report_of}
use Rattle.client_leaving.specs.declared.leaving.Leaving.{Leaving}
use Rattle.client_steps.specs.declared.parting.Parting.TheVariants as partings
use Rattle.single_copy.specs.Answers.{answer_of}
use Rattle.single_copy.specs.Links.{Carries, Falls, is_faulty}
use Rattle.single_copy.specs.Turns.{BothUp, Event, Parties, Runs, Terms, Turn, due_at, due_of, heard, listed, message_at, told}
use Rattle.single_copy.specs.declared.answers.Copied.{Copied}
use Rattle.single_copy.specs.declared.links.TheConstants.{MOST_RECORDS}
use Rattle.single_copy.specs.declared.phases.Due.TheVariants as dues
use Rattle.single_copy.specs.declared.phases.Phase.{Phase}
use Rattle.single_copy.specs.declared.phases.Phase.TheVariants.{Fresh}
use Rattle.single_copy.specs.declared.phases.TheConstants.{COPY_NUMBER}

-- a client that was just made, and has taken no leave
abbrev pub IsNew : {M : Type 0} → Leaving M → Type 0
IsNew l = l ≡ record { client = new_client l.client.setting; source = partings.Done; dest = partings.Done }

-- ---- why no more turns were made

-- the link of a server went down when it was asked for a record
abbrev pub FallsAt : {L M W : Type 0} → Side → Terms L M W → Parties L M W → Parties L M W → Type 0
FallsAt Source terms last now = Falls terms.gives terms.takes last.source now.source × (now ≡ record last { source = now.source })
FallsAt Dest terms last now = Falls terms.gives terms.takes last.dest now.dest × (now ≡ record last { dest = now.dest })

-- Nothing is due; a link is down; the link from which a record is due has brought all that are taken; or it goes down.
pub data Stops {L M W : Type 0} (terms : Terms L M W) (turns : List Turn) (phase : Phase) (last now : Parties L M W) : Type 0 where
  Done : due_at phase last.client ≡ dues.Nothing → now ≡ last → Stops terms turns phase last now
  Down : (is_down last.source.signs || is_down last.dest.signs) ≡ true → now ≡ last → Stops terms turns phase last now
  Full : (side : Side) → BothUp last → due_at phase last.client ≡ dues.Hear side → length (heard side turns) ≡ MOST_RECORDS → now ≡ last → Stops terms turns phase last now
  Fell : (side : Side) → BothUp last → due_at phase last.client ≡ dues.Hear side → FallsAt side terms last now → Stops terms turns phase last now

-- ---- the whole

-- what is answered, where both links and the client stand so
abbrev pub answer_at : {L M W : Type 0} → Phase → Parties L M W → Copied
answer_at phase now = answer_of phase (report_of (copy_of COPY_NUMBER now.client.client)) (is_faulty now.source.signs || is_faulty now.dest.signs)

pub record Copies {L M W : Type 0} (terms : Terms L M W) (old : Parties L M W) (copied : Copied) (now : Parties L M W) : Type 0 where
  pub turns : List Turn
  pub phase : Phase
  pub last : Parties L M W
  pub runs : Runs terms old Fresh turns last phase
  pub stops : Stops terms turns phase last now
  pub answer : copied ≡ answer_at phase now
  pub few : (side : Side) → length (heard side turns) ≤ MOST_RECORDS
  pub source : Carries terms.gives terms.takes old.source now.source (heard Source turns) (told Source turns)
  pub dest : Carries terms.gives terms.takes old.dest now.dest (heard Dest turns) (told Dest turns)

-- The same up to the event that found no memory: it was due, the client is as before it, and a record that it took was brought
-- by the link.
pub record Starves {L M W : Type 0} (terms : Terms L M W) (old : Parties L M W) (source_now dest_now : Watch L) (client_now : Leaving M) : Type 0 where
  pub turns : List Turn
  pub phase : Phase
  pub last : Parties L M W
  pub runs : Runs terms old Fresh turns last phase
  pub event : Event
  pub due : due_of event ≡ due_at phase last.client
  pub up : BothUp last
  pub client : client_now ≡ last.client
  pub few : (side : Side) → length (heard side turns ++ listed (message_at side event)) ≤ MOST_RECORDS
  pub source : Carries terms.gives terms.takes old.source source_now (heard Source turns ++ listed (message_at Source event)) (told Source turns)
  pub dest : Carries terms.gives terms.takes old.dest dest_now (heard Dest turns ++ listed (message_at Dest event)) (told Dest turns)
