-- The end of a small step in which a server acted: it goes on, or it stopped and was opened anew.
use Rattle.std.proofs.Common.{◌≡◌, ℕ, ◌≤◌, List, [], ◌∷◌, ◌++◌, length, Option, None, Some, refl, sym, ap, ◌∙◌, subst, arith, append-nil, inl, inr}
use Rattle.std.specs.Prelude.{OnOk, Result, Ok, Err}
use Rattle.disk_model.specs.Elapsed.{Timeline}
use Rattle.disk_model.specs.declared.fuse.Fuse.{Fuse}
use Rattle.nfs_base.specs.declared.side.Side.{Side}
use Rattle.nfs_base.specs.declared.side.Side.TheVariants.{Source, Dest}
use Rattle.server_volume.specs.declared.used.Used.{Used}
use Rattle.volume_stops.specs.Stops.{pending_within}
use Rattle.volume_stops.specs.declared.kept.Kept.{Kept}
use Rattle.volume_stops.specs.declared.pending.Pending.{Pending}
use Rattle.wire_lines.specs.LineText.{line_text}
use Rattle.wire_lines.specs.declared.line.Line.TheVariants as lines
use Rattle.wire_log.specs.Keeping.{bytes_at}
use Rattle.wire_machine.specs.Check.{Reading, mistake_in}
use Rattle.wire_machine.specs.Runs as runs
use Rattle.wire_machine.specs.Runs.{most_bytes}
use Rattle.wire_machine.specs.World.{Posted, bytes_of}
use Rattle.wire_machine.specs.declared.choice.Choice.{Choice}
use Rattle.wire_machine.specs.declared.choice.Choice.TheVariants.{Stopped}
use Rattle.wire_machine.specs.declared.mistake.Mistake.{Mistake}
use Rattle.wire_run.specs.Cutting.{DestIsOut, EndKeeps, GoesOnAt, IsDueAt, IsOutAt, LostAt, MayReopenAt, ReopenedAt, ServerEnds, SourceIsOut, boot_at, crash_lines, kept_at, with_end, without_end}
use Rattle.wire_run.specs.Stage.{IsDestOpen, IsOpenAt, IsSourceOpen, SettleKeeps, Settles, faults_named, mistake_by}
use Rattle.wire_run.specs.Watching.{no_stop, noted_at, stop_at, stopped_by}
use Rattle.wire_run.specs.declared.ends.DestEnd.{DestEnd}
use Rattle.wire_run.specs.declared.ends.DestEnd.TheVariants as dest_end
use Rattle.wire_run.specs.declared.ends.SourceEnd.{SourceEnd}
use Rattle.wire_run.specs.declared.ends.SourceEnd.TheVariants as source_end
use Rattle.wire_run.specs.declared.stage.Acted.{Acted}
use Rattle.wire_run.specs.declared.stage.Fault.{Fault}
use Rattle.wire_run.specs.declared.stage.Fault.TheVariants as faults_of
use Rattle.wire_run.specs.declared.stage.Lost.{Lost}
use Rattle.wire_run.specs.declared.stage.Stage.{Stage}
use Rattle.wire_run.specs.declared.stage.Stop.{Stop}
use Rattle.wire_run.proofs.Logs.{grows_none}

-- ---- what is as it was where a server was opened anew

pub record RestStays {D M : Type 0} (old new : Stage D M) : Type 0 where
  pub client : new.client ≡ old.client
  pub draws : new.draws ≡ old.draws
  pub clock : new.clock ≡ old.clock
  pub log : new.log ≡ old.log
  pub choices : new.choices.items ≡ old.choices.items
  pub flowed : new.flowed ≡ old.flowed

end_alone : {D M : Type 0} (side : Side) (of old : Stage D M) → RestStays old (stopped_by side no_stop (with_end side of old))
end_alone Source of old = record { client = refl; draws = refl; clock = refl; log = refl; choices = refl; flowed = refl }
end_alone Dest of old = record { client = refl; draws = refl; clock = refl; log = refl; choices = refl; flowed = refl }

-- nothing happens
pub still : {D M : Type 0} (s : Stage D M) → bytes_of s.log ≤ most_bytes → SettleKeeps s s
still s few =
    record { source = refl; dest = refl; client = refl; draws = refl; clock = refl; flowed = refl; stops = refl; log = grows_none s.log; bytes = few; choices = omega arith }

-- the line of a stop
pub stop_line : {D M : Type 0} (side : Side) (pending : Option Pending) (s : Stage D M) (boot : ℕ) (kept : Kept) → boot ≡ boot_at side s → kept ≡ kept_at side pending s
    → line_text (lines.Crash side boot kept) ≡ crash_lines side pending s
stop_line side pending s boot kept boot_is kept_is =
    ap (λ (n : ℕ). line_text (lines.Crash side n kept)) boot_is
    ∙ (ap (λ (k : Kept). line_text (lines.Crash side (boot_at side s) k)) kept_is
    ∙ sym (append-nil (line_text (lines.Crash side (boot_at side s) (kept_at side pending s)))))

-- it is put, whether or not what follows goes through
pub always : {T E : Type 0} (r : Result T E) (P : Type 0) → P → OnOk r P
always (Ok x) P p = p
always (Err e) P p = tt

-- the calls of a step, by another name
pub noted_as : {D M : Type 0} (side : Side) (used slice : List Used) (old mid : Stage D M) → slice ≡ used → mid ≡ noted_at side slice old → mid ≡ noted_at side used old
noted_as side used slice old mid same is = is ∙ ap (λ (us : List Used). noted_at side us old) same

pub noted_took : {D M : Type 0} (side : Side) (used : List Used) (old mid : Stage D M) (took : ℕ) → mid ≡ noted_at side used old → took ≤ length old.log → took ≤ length mid.log
noted_took {D} {M} side used old mid took is few = subst (λ (x : Stage D M). took ≤ length x.log) (sym is) few

pub noted_bytes : {D M : Type 0} (side : Side) (used : List Used) (old mid : Stage D M) → mid ≡ noted_at side used old → bytes_of old.log ≤ most_bytes → bytes_of mid.log ≤ most_bytes
noted_bytes {D} {M} side used old mid is few = subst (λ (x : Stage D M). bytes_of x.log ≤ most_bytes) (sym is) few

-- what a stop within the calls may find unfinished
pub pending_is : {D M : Type 0} (side : Side) (s : Stage D M) (stop : Stop) (pending : Option Pending) (used slice : List Used) → stop ≡ stop_at side s.stops → slice ≡ used
    → pending ≡ pending_within stop.pending slice → pending ≡ pending_within (stop_at side s.stops).pending used
pending_is side s stop pending used slice is same within =
    within
    ∙ (ap (λ (x : Stop). pending_within x.pending slice) is
    ∙ ap (λ (us : List Used). pending_within (stop_at side s.stops).pending us) same)

-- ---- whether it is due

source_out : {D M : Type 0} (fuse : D → Fuse) (end : SourceEnd D M) → SourceIsOut fuse end → IsSourceOpen end
source_out fuse (source_end.Open core) out = tt
source_out fuse source_end.Away out = absurd out
source_out fuse (source_end.Disk disk) out = absurd out

dest_out : {D M : Type 0} (fuse : D → Fuse) (end : DestEnd D M) → DestIsOut fuse end → IsDestOpen end
dest_out fuse (dest_end.Open core) out = tt
dest_out fuse dest_end.Away out = absurd out
dest_out fuse (dest_end.Disk disk) out = absurd out

pub out_open : {D M : Type 0} (fuse : D → Fuse) (side : Side) (s : Stage D M) → IsOutAt fuse side s → IsOpenAt side s
out_open fuse Source s out = source_out fuse s.source out
out_open fuse Dest s out = dest_out fuse s.dest out

module _ {D M : Type 0} (told : Type 0) (size : D → ℕ) (fuse : D → Fuse) (timeline : D → Timeline) (faults : D → ℕ) where
  pub reopened_rest : (side : Side) (old new : Stage D M) → ReopenedAt told size fuse timeline faults side old new → RestStays old new
  reopened_rest side old new opens = subst (λ (x : Stage D M). RestStays old x) (sym opens.rest) (end_alone side new old)

  -- a server that was opened anew is there
  pub reopened_open : (side : Side) (old new : Stage D M) → ReopenedAt told size fuse timeline faults side old new → IsOpenAt side new
  reopened_open Source old new opens = subst (λ (e : SourceEnd D M). IsSourceOpen e) (sym opens.reopened.next_is) tt
  reopened_open Dest old new opens = subst (λ (e : DestEnd D M). IsDestOpen e) (sym opens.reopened.next_is) tt

  pub reopened_bytes : (side : Side) (old new : Stage D M) → ReopenedAt told size fuse timeline faults side old new → bytes_of old.log ≤ most_bytes → bytes_of new.log ≤ most_bytes
  reopened_bytes side old new opens few =
      subst (λ (log : List Posted). bytes_of log ≤ most_bytes) (sym (reopened_rest side old new opens).log) few

  -- ---- it stopped

  module _ (read : Reading) (side : Side) (acted : Acted) (old : Stage D M) (pick : ℕ) (due : IsDueAt fuse side old pick) where
    -- what was a mistake then was one before
    reopened_mistake : (mid : Stage D M) → ReopenedAt told size fuse timeline faults side old mid → mistake_by read acted mid ≡ mistake_by read acted old
    reopened_mistake mid opens =
        ap (λ (log : List Posted). mistake_in read log acted.end acted.opening acted.out.accepted (bytes_at log acted.took)) (reopened_rest side old mid opens).log

    pub stop_told : (mid new : Stage D M) (text_old text_new : List ℕ) (pending : Option Pending) → ReopenedAt told size fuse timeline faults side old mid
        → pending ≡ pending_within (stop_at side old.stops).pending acted.out.used → mistake_by read acted mid ≡ None
        → SettleKeeps mid new → new.log ≡ mid.log → text_new ≡ text_old ++ crash_lines side pending mid
        → new.choices.items ≡ mid.choices.items ++ Stopped (kept_at side pending mid) ∷ []
        → ServerEnds told size fuse timeline faults read side acted old new text_old text_new (Ok None)
    stop_told mid new text_old text_new pending opens is none keeps log put choices =
        let stays = reopened_rest side old mid opens in
        inr (
          record { pick = pick; due = due },
          sym (reopened_mistake mid opens) ∙ none,
          record {
            reopened = mid;
            opens = opens;
            keeps = keeps;
            log = log ∙ stays.log;
            lines = put ∙ ap (λ (p : Option Pending). text_old ++ crash_lines side p mid) is;
            choices = choices
                ∙ (ap (λ (cs : List Choice). cs ++ Stopped (kept_at side pending mid) ∷ []) stays.choices
                ∙ ap (λ (p : Option Pending). old.choices.items ++ Stopped (kept_at side p mid) ∷ []) is);
          },
        )

    pub stop_mistaken : (mid : Stage D M) (text : List ℕ) (m : Mistake) → ReopenedAt told size fuse timeline faults side old mid → mistake_by read acted mid ≡ Some m
        → ServerEnds told size fuse timeline faults read side acted old mid text text (Ok (Some (faults_of.Mistaken m)))
    stop_mistaken mid text m opens is =
        inr (record { pick = pick; due = due }, (m, sym (reopened_mistake mid opens) ∙ is, refl, record { opens = opens; text = refl }))

    pub stop_lost : (mid : Stage D M) (text : List ℕ) (lost : Lost D) → LostAt told size fuse timeline faults side old mid lost
        → ServerEnds told size fuse timeline faults read side acted old mid text text (Err lost)
    stop_lost mid text lost at = (record { pick = pick; due = due }, at, refl)

  -- ---- what is kept

  pub keeps_reopened : (side : Side) (used : List Used) (old mid new : Stage D M) → ReopenedAt told size fuse timeline faults side old mid → SettleKeeps mid new
      → EndKeeps told size fuse timeline faults side used old new
  keeps_reopened side used old mid new opens keeps = inr (inl (record { reopened = mid; opens = opens; keeps = keeps }))

  pub keeps_mistaken : (side : Side) (used : List Used) (old mid : Stage D M) → ReopenedAt told size fuse timeline faults side old mid → bytes_of old.log ≤ most_bytes
      → EndKeeps told size fuse timeline faults side used old mid
  keeps_mistaken side used old mid opens few = keeps_reopened side used old mid mid opens (still mid (reopened_bytes side old mid opens few))

  pub keeps_away : (side : Side) (used : List Used) (old new : Stage D M) → new ≡ stopped_by side no_stop (without_end side old)
      → EndKeeps told size fuse timeline faults side used old new
  keeps_away side used old new away = inr (inr away)

  -- ---- it goes on

  pub goes_on : (read : Reading) (side : Side) (acted : Acted) (old mid new : Stage D M) (text_old text_new : List ℕ) (fault : Option Fault) → GoesOnAt fuse side old
      → mid ≡ noted_at side acted.out.used old → Settles read acted mid new text_old text_new (faults_named fault) → SettleKeeps mid new
      → ServerEnds told size fuse timeline faults read side acted old new text_old text_new (Ok fault)
  goes_on read side acted old mid new text_old text_new fault on is settles keeps = inl (record {
    on = on;
    settles = subst (λ (x : Stage D M). Settles read acted x new text_old text_new (faults_named fault)) is settles;
    keeps = subst (λ (x : Stage D M). SettleKeeps x new) is keeps;
  })

  pub keeps_going : (side : Side) (used : List Used) (old mid new : Stage D M) → GoesOnAt fuse side old → mid ≡ noted_at side used old → SettleKeeps mid new
      → EndKeeps told size fuse timeline faults side used old new
  keeps_going side used old mid new on is keeps = inl (record { on = on; keeps = subst (λ (x : Stage D M). SettleKeeps x new) is keeps })
