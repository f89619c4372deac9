-- How a client is seen in a system: what it knows and has said of its copies, and the reports that it holds.
use Rattle.std.specs.Prelude.{ℕ, suc, ◌≡◌, ◌&&◌, Bool, true, false, Option, Some, None, option_map}
use Rattle.std.specs.List.{list_any}
use Rattle.caller_laws.specs.Good.{Identity}
use Rattle.caller_laws.specs.View.{handle_named}
use Rattle.client_copies.specs.Copies.{is_stable}
use Rattle.client_copies.specs.Table.{Copies, copy_at}
use Rattle.client_copies.specs.declared.copy.ClientCopy.{ClientCopy}
use Rattle.client_copies.specs.declared.copy.First.{First}
use Rattle.client_copies.specs.declared.copy.Stage.{Stage}
use Rattle.client_copies.specs.declared.copy.Stage.TheVariants as stages
use Rattle.client_copies.specs.declared.copy.Verdict.TheVariants as verdicts
use Rattle.client_copies.specs.declared.copy.Verdict.{Verdict}
use Rattle.client_copies.specs.declared.held.HeldOffload.{HeldOffload}
use Rattle.client_core.specs.Endings.{Ways}
use Rattle.client_core.specs.State.{ClientState}
use Rattle.client_laws.specs.MountTurns.{TakesBytes}
use Rattle.client_laws.specs.Speaking.Carried.{SendsBytes, seen}
use Rattle.client_laws.specs.Turns.{IsTurn, MayTurn, Turn}
use Rattle.client_laws.specs.WholeTurns.{IsSpelledAtBoth, IsTurnAtBoth, Purposes, acts_of}
use Rattle.file_server.specs.Handles.{file_in}
use Rattle.nfs_base.specs.declared.job.JobName.{JobName}
use Rattle.nfs_base.specs.declared.seal.End.TheVariants as ends
use Rattle.nfs_base.specs.declared.side.Side.TheVariants as sides
use Rattle.outbox.specs.declared.outgoing.Outbox.{Outbox}
use Rattle.streams.specs.declared.draws.Drawn.{Drawn}
use Rattle.wire_meaning.specs.Meaning.{ends_stable, is_name, job_named}
use Rattle.wire_model.specs.System.{System}
use Rattle.wire_model.specs.Word as words

-- ---- a copy

-- the first change attribute, with the file that its handle names and the root under which it was told
abbrev pub first_seen : First → words.First
first_seen known = record { file = file_in known.file; root = handle_named known.session.root; change = known.change }

abbrev pub ended_stable : Verdict → Bool
ended_stable verdicts.Exact = true
ended_stable verdicts.Unsure = true
ended_stable verdicts.Cancelled = false
ended_stable (verdicts.Failed status) = false

abbrev pub ended_exact : Verdict → Bool
ended_exact verdicts.Exact = true
ended_exact verdicts.Unsure = false
ended_exact verdicts.Cancelled = false
ended_exact (verdicts.Failed status) = false

-- it was said to be stable, and to be exact
abbrev pub says_stable : Stage → Bool
says_stable (stages.Due step) = is_stable step
says_stable (stages.Asked step) = is_stable step
says_stable stages.Accepted = false
says_stable (stages.Over verdict) = ended_stable verdict

abbrev pub says_exact : Stage → Bool
says_exact (stages.Due step) = false
says_exact (stages.Asked step) = false
says_exact stages.Accepted = false
says_exact (stages.Over verdict) = ended_exact verdict

abbrev pub word_seen : Option ClientCopy → words.Word
word_seen None = record { first = None; name = None; stable = false; exact = false }
word_seen (Some copy) = record {
  first = option_map first_seen copy.first;
  name = option_map job_named copy.id;
  stable = says_stable copy.stage;
  exact = says_exact copy.stage;
}

-- ---- a report that is held

abbrev pub holds_one : JobName → HeldOffload → Bool
holds_one name held = ends_stable held.end && is_name name (job_named held.id)

abbrev pub held_seen : Copies → JobName → Bool
held_seen t name = list_any (holds_one name) t.held

-- ---- at a moment, and in a step

pub record IsSeenAt {M : Type 0} (boot : ℕ) (purposes : Purposes) (c : ClientState M) (s : System) (k : ℕ) : Type 0 where
  pub source : s.caller ends.Source ends.Client k ≡ seen boot purposes sides.Source c
  pub dest : s.caller ends.Dest ends.Client k ≡ seen boot purposes sides.Dest c
  pub word : (n : ℕ) → s.word k n ≡ word_seen (copy_at n c.copies)
  pub held : (name : JobName) → s.held k name ≡ held_seen c.copies name

-- the step from moment k is this turn of the client
pub record IsClientStep {M W : Type 0} (who : Identity) (ways : Ways) (gives : W → Drawn → W → Type 0) (boot : ℕ) (purposes : Purposes) (turn : Turn)
    (c d : ClientState M) (v w : W) (out : Outbox) (t : IsTurnAtBoth who ways boot purposes turn c d out) (s : System) (k : ℕ) : Type 0 where
  pub before : IsSeenAt boot purposes c s k
  pub after : IsSeenAt boot (λ side. (t side).after) d s (suc k)
  pub acts : s.acts ends.Client k ≡ acts_of turn out
  pub may : MayTurn turn c
  pub takes : TakesBytes turn
  pub step : IsTurn ways gives turn c v w (d, out)
  pub spelled : IsSpelledAtBoth who ways boot purposes turn c d out t
  pub sends : SendsBytes (acts_of turn out)
