-- A record is delivered: it is marked in the list, and what is known of the stage stays.
use Rattle.std.proofs.Common.{◌≡◌, ℕ, zero, suc, ◌+◌, ◌≤◌, Bool, true, false, List, [], ◌++◌, Option, Some, None, refl, sym, ap, ◌∙◌, subst, arith}
use Rattle.std.proofs.lemmas.List.{append-nil}
use Rattle.std.specs.Prelude.{is_some, IsSome}
use Rattle.client_core.specs.State.{ClientState}
use Rattle.disk_model.specs.declared.fuse.Fuse.{Fuse}
use Rattle.wire_machine.specs.World.{Posted, bytes_of, marked, posted_at}
use Rattle.wire_run.specs.Stage.{Grows, IsFair, IsReady, LogKeeps, SettleKeeps, SmallKeeps, dest_steps, source_steps}
use Rattle.wire_run.specs.Watching.{AreWatched, KeepsStops, no_side}
use Rattle.wire_run.specs.declared.stage.Stage.{Stage}
use Rattle.wire_run.proofs.Comings.{the_record}
use Rattle.wire_run.proofs.Logs.{bytes_of_marked, got_marked, keeps_all, marked_keeps, marked_none}
use Rattle.wire_run.proofs.StopSteps.{dest_stays, small_parts, source_stays, starved_stops, steps_same}

none_if : {A : Type 0} (o : Option A) → is_some o ≡ false → o ≡ None
none_if None e = refl
none_if (Some x) e = absurd cc

-- none has the number
pub none_posted : (number : ℕ) (log : List Posted) (has : Bool) → has ≡ is_some (posted_at number log) → has ≡ false → posted_at number log ≡ None
none_posted number log has is none = none_if (posted_at number log) (sym is ∙ none)

pub unmarked_grows : (number : ℕ) (old new : List Posted) → posted_at number old ≡ None → new ≡ old → Grows (marked number old) new
unmarked_grows number old new none same = ([], same ∙ (sym (marked_none number old none) ∙ sym (append-nil (marked number old))))

-- ---- what is known of the list in which it was just marked

pub marked_fair : {D M : Type 0} (told : Type 0) (size : D → ℕ) (fuse : D → Fuse) (number : ℕ) (s : Stage D M) (log : List Posted) → IsFair told size fuse s → log ≡ marked number s.log
    → IsFair told size fuse (record s { log = log })
marked_fair told size fuse number s log f same = record {
  ready = record { source = f.ready.source; dest = f.ready.dest };
  below = record { source = f.below.source; dest = f.below.dest; client = f.below.client; choices = f.below.choices };
  bytes = omega (arith, ap bytes_of same, bytes_of_marked number s.log, f.bytes);
  clock = f.clock;
  watched = record { source = f.watched.source; dest = f.watched.dest };
  numbered = record { source = f.numbered.source; dest = f.numbered.dest };
}

pub marked_is : (number : ℕ) (log : List Posted) (r : Posted) → posted_at number log ≡ Some r → posted_at number (marked number log) ≡ Some (record r { delivered = true })
marked_is zero log r is = absurd cc
marked_is (suc n) log r is = got_marked n log r is

pub marked_sent : (number : ℕ) (old log : List Posted) → is_some (posted_at number old) ≡ true → log ≡ marked number old → IsSome (posted_at number log)
marked_sent number old log there same =
    let x = the_record number old there in
    ap (λ (l : List Posted). is_some (posted_at number l)) same ∙ ap (λ (o : Option Posted). is_some o) (marked_is number old x.0 x.1)

-- ---- what is kept from there on

pub marked_small : {D M : Type 0} (told : Type 0) (number : ℕ) (s new : Stage D M) (log : List Posted) → log ≡ marked number s.log → SmallKeeps told (record s { log = log }) new → SmallKeeps told s new
marked_small told number s new log same k = record {
  keeps = record {
    source = k.keeps.source;
    dest = k.keeps.dest;
    setting = k.keeps.setting;
    log = keeps_all s.log log new.log (subst (λ (l : List Posted). LogKeeps s.log l) (sym same) (marked_keeps number s.log)) k.keeps.log;
    bytes = k.keeps.bytes;
  };
  below = λ n b. k.below n (record { source = b.source; dest = b.dest; client = b.client; choices = b.choices });
  flowed = k.flowed;
}

pub marked_stops : {D M : Type 0} (told : Type 0) (size : D → ℕ) (fuse : D → Fuse) (s new : Stage D M) (log : List Posted) → KeepsStops told size fuse no_side (record s { log = log }) new
    → KeepsStops told size fuse no_side s new
marked_stops told size fuse s new log k = record {
  watched = k.watched;
  numbered = λ n is. k.numbered n (record { source = is.source; dest = is.dest });
  armed = k.armed;
}

-- ---- nobody acts

pub rest_small : {D M : Type 0} (told : Type 0) (old new : Stage D M) → IsReady old → SettleKeeps old new → SmallKeeps told old new
rest_small {D} {M} told old new ready k =
    small_parts told old new (source_stays told old.source new.source ready.source k.source) (dest_stays told old.dest new.dest ready.dest k.dest)
    (ap (λ (c : ClientState M). c.setting) k.client) k.log k.bytes
    (steps_same _ _ (ap source_steps k.source)) (steps_same _ _ (ap dest_steps k.dest)) (steps_same _ _ (ap (λ (c : ClientState M). c.steps) k.client)) k.choices k.flowed

pub rest_stops : {D M : Type 0} (told : Type 0) (size : D → ℕ) (fuse : D → Fuse) (old new : Stage D M) → AreWatched told size fuse old → SettleKeeps old new
    → KeepsStops told size fuse no_side old new
rest_stops told size fuse old new w k = starved_stops told size fuse old new w k.source k.dest k.stops
