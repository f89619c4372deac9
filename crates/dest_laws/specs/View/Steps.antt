-- What ties a system of machines (`wire_model`) to a destination in the step from a moment to the next. Own definitions.
use Rattle.std.specs.Prelude.{◌≡◌, ℕ, suc, ◌<◌, ◌≤◌, ◌||◌, false, List, Option}
use Rattle.dest_core.specs.Stepping.{DestState, DestStep, copier_in}
use Rattle.dest_laws.specs.Histories.Linked.{AreLinked, GoOn, name_at}
use Rattle.dest_laws.specs.View.View.{caller_in, holds_at, made_in, plan_seen}
use Rattle.job_table.specs.Table.{JobTable}
use Rattle.nfs_base.specs.declared.seal.End.TheVariants.{Dest, Source}
use Rattle.wire_lines.specs.declared.letters.Speaker.{Speaker}
use Rattle.wire_machine.specs.History.{deed_of, is_reported, no_job, part_acts}
use Rattle.wire_machine.specs.World.{Part}
use Rattle.wire_model.specs.Meaning.{Meaning}
use Rattle.wire_model.specs.Spelling.{Spelling}
use Rattle.wire_model.specs.System.{System}
use Rattle.wire_model.specs.Wire.{Executed}

abbrev pub table_in : {M : Type 0} → DestState M → JobTable
table_in s = (copier_in s).copies.book.table

-- what the destination did: the record that it took, who tells of it, and what it gave
abbrev pub part_by : {M : Type 0} → Option (List ℕ) → Speaker → DestStep M → Part
part_by took speaker t = record { took = took; speaker = speaker; out = t.out }

-- At moment k the system shows this destination: as a caller of the source, its volume, its jobs and what its workers hold. At
-- places to which no number belongs yet there is no copy.
pub record Shows {M : Type 0} (s : System) (k : ℕ) (d : DestState M) : Type 0 where
  pub caller : s.caller Source Dest k ≡ caller_in d
  pub volume : s.dest k ≡ d.state.machine.store.volume
  pub made : s.made k ≡ made_in d
  pub holds : (worker : ℕ) → s.holds k worker ≡ holds_at d worker
  pub linked : AreLinked plan_seen (table_in d) (λ j. s.job k j)
  pub none_yet : (j : ℕ) → made_in d ≤ j → s.job k j ≡ no_job
  pub unlost : (j : ℕ) → (s.job k j).lost ≡ false
  pub names : (j : ℕ) → s.name k j ≡ name_at (table_in d).boot j

-- In the step from moment k the destination goes from this state to that one and gives this outbox, having taken this record
-- and told this of what it executed; its copies go on as its jobs show them, and are marked stable where it reports them.
pub record ShowsStep {M : Type 0} (spell : Spelling) (meaning : Meaning) (s : System) (k : ℕ) (took : Option (List ℕ)) (speaker : Speaker)
    (executed : Option Executed) (d : DestState M) (t : DestStep M) : Type 0 where
  pub before : Shows s k d
  pub after : Shows s (suc k) t.host
  pub acts : s.acts Dest k ≡ part_acts (part_by took speaker t) executed
  pub deed : s.deed k ≡ deed_of t.host.state.machine.store.volume (part_by took speaker t)
  pub goes : GoOn plan_seen (table_in d) (table_in t.host) (λ j. s.job k j) (λ j. s.job (suc k) j)
  pub marked : (j : ℕ) → j < made_in t.host
      → (s.job (suc k) j).stable ≡ ((s.job k j).stable || is_reported spell meaning (s.acts Dest k) (name_at (table_in t.host).boot j))
