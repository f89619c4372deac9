-- Bytes of a file are shown: a small step in which nobody acts.
use Rattle.std.proofs.Common.{◌≡◌, ℕ, ◌+◌, ◌<◌, ◌≤◌, Bool, false, List, [], ◌∷◌, ◌++◌, length, take, drop, Some, refl, sym, ap, ◌∙◌, subst, arith}
use Rattle.std.proofs.lemmas.List.{append-nil, drop_all, take_all}
use Rattle.client_core.specs.State.{ClientState}
use Rattle.copy_model.specs.Volume.{Volume, bytes_at, file_at}
use Rattle.nfs_base.specs.declared.side.Side.{Side}
use Rattle.nfs_base.specs.declared.side.Side.TheVariants.{Source, Dest}
use Rattle.session_server.specs.Host.{HostState, host_of}
use Rattle.session_server.specs.declared.host.Host.{Host}
use Rattle.wire_lines.specs.LineText.{lines_text}
use Rattle.wire_lines.specs.declared.line.Line.{Line}
use Rattle.wire_machine.specs.Check.{Reading}
use Rattle.wire_machine.specs.Lines.{shown}
use Rattle.wire_machine.specs.World.{Posted, all_idle, bytes_of}
use Rattle.wire_machine.specs.declared.choice.Choice.TheVariants.{Went}
use Rattle.dest_core.specs.Stepping.{DestState}
use Rattle.run_ends.specs.Ends.{SourceState, Words, machines}
use Rattle.wire_run.proofs.Cores.{dest_there, source_there}
use Rattle.wire_run.specs.Running.{Later, is_failed, peek_failed}
use Rattle.wire_run.specs.Stage.{DestPeeks, HasFileAt, IsReady, PeekIs, Peeks, SettleKeeps, SmallDone, SmallKeeps, SourcePeeks, VolumeStays, bit, bytes_lines, choice_by, dest_files, has_failed, source_files, world_at}
use Rattle.wire_run.specs.declared.ends.DestEnd.{DestEnd}
use Rattle.wire_run.specs.declared.ends.SourceEnd.{SourceEnd}
use Rattle.wire_run.specs.declared.stage.Stage.{Stage}
use Rattle.wire_run.specs.declared.system.Peeked.{Peeked}
use Rattle.wire_run.specs.declared.system.Peeked.TheVariants as peeks
use Rattle.wire_run.proofs.Comings.{later_none, one_more, same_world, size_right, world}
use Rattle.wire_run.proofs.Keeping.{dest_stays, dest_still, one_dest, one_source, same_dest, same_source, small_keeps, source_stays, source_still}
use Rattle.wire_run.proofs.Later.{blamed_one}
use Rattle.wire_run.proofs.Lone.{rest_log}
use Rattle.wire_run.proofs.Unstopped.{chosen_peek, made_peek, told_peek, uncut_peek}
use Rattle.wire_schedule.specs.declared.event.Event.TheVariants as kinds

-- ---- the line that is put is that of the bytes as they are

shown_is : (told : Type 0) → told → (v : Volume) (side : Side) (file off len : ℕ) (zeros bytes : List ℕ) (answer : Peeked) → length zeros ≡ len
    → PeekIs told v file off zeros bytes answer → file < length v.files
    → bytes_lines answer side file off bytes ≡ shown v (choice_by (has_failed answer)) side file off len v.broken
shown_is told t v side file off len zeros bytes peeks.Shown long is there =
    let got : bytes ≡ bytes_at (file_at v file).now off len = is.bytes t refl ∙ ap (λ (n : ℕ). bytes_at (file_at v file).now off n) long in
    ap (λ (b : List ℕ). bytes_lines peeks.Shown side file off b) got ∙ sym (ap (λ (b : Bool). shown v Went side file off len b) (is.whole refl))
shown_is told t v side file off len zeros bytes peeks.Refused long is there = sym (ap (λ (b : Bool). shown v Went side file off len b) (is.broken refl there))
shown_is told t v side file off len zeros bytes peeks.Failed long is there = refl

lines_shown : (told : Type 0) → told → (v : Volume) (side : Side) (file off len : ℕ) (zeros bytes text_old text_new : List ℕ) (answer : Peeked) → length zeros ≡ len
    → PeekIs told v file off zeros bytes answer → file < length v.files
    → text_new ≡ text_old ++ lines_text (bytes_lines answer side file off bytes)
    → text_new ≡ text_old ++ lines_text (shown v (choice_by (has_failed answer)) side file off len v.broken ++ [])
lines_shown told t v side file off len zeros bytes text_old text_new answer long is there put =
    put ∙ ap (λ (ls : List Line). text_old ++ lines_text ls) (shown_is told t v side file off len zeros bytes answer long is there ∙ sym (append-nil _))

-- the bytes that a buffer holds that was filled whole
pub filled : (zeros items out : List ℕ) (len : ℕ) → zeros ≡ items → length out ≡ length zeros → length zeros ≡ len → take len (out ++ drop (length out) items) ≡ out
filled zeros items out len same long count =
    ap (λ (rest : List ℕ). take len (out ++ rest)) (drop_all (length out) items (omega (arith, ap (λ (xs : List ℕ). length xs) same, long)))
    ∙ (ap (λ (xs : List ℕ). take len xs) (append-nil out) ∙ take_all len out (omega (arith, long, count)))

-- ---- a failure is one call more at that server

peeked_here : (answer : Peeked) (file off len : ℕ) → peek_failed Source (kinds.Peek Source file off len) (choice_by (has_failed answer)) ≡ has_failed answer
peeked_here peeks.Shown file off len = refl
peeked_here peeks.Refused file off len = refl
peeked_here peeks.Failed file off len = refl

peeked_there : (answer : Peeked) (file off len : ℕ) → peek_failed Dest (kinds.Peek Dest file off len) (choice_by (has_failed answer)) ≡ has_failed answer
peeked_there peeks.Shown file off len = refl
peeked_there peeks.Refused file off len = refl
peeked_there peeks.Failed file off len = refl

not_here : (answer : Peeked) (file off len : ℕ) → peek_failed Source (kinds.Peek Dest file off len) (choice_by (has_failed answer)) ≡ false
not_here peeks.Shown file off len = refl
not_here peeks.Refused file off len = refl
not_here peeks.Failed file off len = refl

not_there : (answer : Peeked) (file off len : ℕ) → peek_failed Dest (kinds.Peek Source file off len) (choice_by (has_failed answer)) ≡ false
not_there peeks.Shown file off len = refl
not_there peeks.Refused file off len = refl
not_there peeks.Failed file off len = refl

-- a failed peek is one at its server
blamed_here : (answer : Peeked) (file off len : ℕ) → bit (is_failed (choice_by (has_failed answer)))
    ≤ bit (peek_failed Source (kinds.Peek Source file off len) (choice_by (has_failed answer))) + bit (peek_failed Dest (kinds.Peek Source file off len) (choice_by (has_failed answer)))
blamed_here peeks.Shown file off len = omega arith
blamed_here peeks.Refused file off len = omega arith
blamed_here peeks.Failed file off len = omega arith

blamed_there : (answer : Peeked) (file off len : ℕ) → bit (is_failed (choice_by (has_failed answer)))
    ≤ bit (peek_failed Source (kinds.Peek Dest file off len) (choice_by (has_failed answer))) + bit (peek_failed Dest (kinds.Peek Dest file off len) (choice_by (has_failed answer)))
blamed_there peeks.Shown file off len = omega arith
blamed_there peeks.Refused file off len = omega arith
blamed_there peeks.Failed file off len = omega arith

later_bit : {D : Type 0} (faults size : D → ℕ) (a b : Bool) (d e : D) → a ≡ b → Later faults size (bit b) (Some d) (Some e) → Later faults size (bit a) (Some d) (Some e)
later_bit faults size a b d e same l = subst (λ (x : Bool). Later faults size (bit x) (Some d) (Some e)) (sym same) l

-- worlds whose servers are alike too
same_source_world : {M : Type 0} (a b : SourceState M) (dest : DestState M) (c : ClientState M) (draws clock n : ℕ) (log : List Posted) → a ≡ b → world a dest c draws clock n log ≡ world b dest c draws clock n log
same_source_world a b dest c draws clock n log e = ap (λ (s : SourceState _). world s dest c draws clock n log) e

same_dest_world : {M : Type 0} (source : SourceState M) (a b : DestState M) (c : ClientState M) (draws clock n : ℕ) (log : List Posted) → a ≡ b → world source a c draws clock n log ≡ world source b c draws clock n log
same_dest_world source a b c draws clock n log e = ap (λ (s : DestState _). world source s c draws clock n log) e

-- what stays of a volume where the server is as it was
pub host_stays : {D X C : Type 0} (size : D → ℕ) (was next : Host D X C) → host_of size next ≡ host_of size was → VolumeStays was.server.files.volume next.server.files.volume
host_stays size was next same = record {
  files = ap (λ (h : HostState _ _). length h.state.machine.store.volume.files) same;
  tag = ap (λ (h : HostState _ _). h.state.machine.store.tag) same;
  boot = ap (λ (h : HostState _ _). h.state.machine.store.volume.boot) same;
}

module _ {D M : Type 0} (told : Type 0) (words : Words M ℕ) (read : Reading) (faults size : D → ℕ) where
  pub source_shown : (file off len : ℕ) (old new : Stage D M) (source : SourceEnd D M) (zeros bytes text_old text_new : List ℕ) (answer : Peeked) → IsReady old → HasFileAt told Source file old
      → SourcePeeks told faults size file off old.source source zeros bytes answer → length zeros ≡ len → text_new ≡ text_old ++ lines_text (bytes_lines answer Source file off bytes)
      → SettleKeeps (record old { source = source }) new → new.log ≡ old.log → new.choices.items ≡ old.choices.items ++ choice_by (has_failed answer) ∷ []
      → SmallDone told (machines words) read faults size (kinds.Peek Source file off len) old new text_old text_new
  source_shown file off len old new source zeros bytes text_old text_new answer ready has p long put k log choices =
      let d = dest_there old.dest ready.dest in
      record {
        source = p.was;
        dest = d.core;
        source_next = p.next;
        dest_next = d.core;
        source_is = p.was_is;
        dest_is = d.is;
        source_next_is = k.source ∙ p.next_is;
        dest_next_is = k.dest ∙ d.is;
        step = record { event = kinds.Peek Source file off len; choice = choice_by (has_failed answer); parts = all_idle; after = world_at size p.next d.core new };
        event_is = refl;
        after_is = refl;
        is = λ t. record {
          small = made_peek (machines words) (has_failed answer) (kinds.Peek Source file off len) (world_at size p.was d.core old) all_idle (world_at size p.next d.core new) (
            refl,
            same_source_world (host_of size p.next) (host_of size p.was) (host_of size d.core) new.client new.draws new.clock (length new.choices.items) new.log (p.same t)
                ∙ same_world (host_of size p.was) (host_of size d.core) k.client k.draws k.clock (one_more old.choices.items new.choices.items _ choices)
                (log ∙ sym (rest_log (machines words) (world_at size p.was d.core old))),
          );
          choice = chosen_peek (machines words) (has_failed answer) Source file off len all_idle;
        };
        right = λ t. size_right new.log k.bytes;
        lines = λ t. lines_shown told t p.was.server.files.volume.volume Source file off len zeros bytes text_old text_new answer long
            p.is (subst (λ (e : SourceEnd D M). file < source_files e) p.was_is (has.there t)) put
            ∙ ap (λ (ls : List Line). text_old ++ lines_text (ls ++ [])) (sym (told_peek (machines words) (has_failed answer) (world_at size p.was d.core old)
            (record { event = kinds.Peek Source file off len; choice = choice_by (has_failed answer); parts = all_idle; after = world_at size p.next d.core new })));
        choices = choices;
        asked = λ at none. uncut_peek (has_failed answer) at _;
        blamed = blamed_one (record { event = kinds.Peek Source file off len; choice = choice_by (has_failed answer); parts = all_idle; after = world_at size p.next d.core new })
            (blamed_here answer file off len);
        source_later = later_bit faults size _ (has_failed answer) _ _ (peeked_here answer file off len) p.later;
        dest_later = later_bit faults size _ false _ _ (not_there answer file off len) (later_none faults size _);
      }

  pub dest_shown : (file off len : ℕ) (old new : Stage D M) (dest : DestEnd D M) (zeros bytes text_old text_new : List ℕ) (answer : Peeked) → IsReady old → HasFileAt told Dest file old
      → DestPeeks told faults size file off old.dest dest zeros bytes answer → length zeros ≡ len → text_new ≡ text_old ++ lines_text (bytes_lines answer Dest file off bytes)
      → SettleKeeps (record old { dest = dest }) new → new.log ≡ old.log → new.choices.items ≡ old.choices.items ++ choice_by (has_failed answer) ∷ []
      → SmallDone told (machines words) read faults size (kinds.Peek Dest file off len) old new text_old text_new
  dest_shown file off len old new dest zeros bytes text_old text_new answer ready has p long put k log choices =
      let s = source_there old.source ready.source in
      record {
        source = s.core;
        dest = p.was;
        source_next = s.core;
        dest_next = p.next;
        source_is = s.is;
        dest_is = p.was_is;
        source_next_is = k.source ∙ s.is;
        dest_next_is = k.dest ∙ p.next_is;
        step = record { event = kinds.Peek Dest file off len; choice = choice_by (has_failed answer); parts = all_idle; after = world_at size s.core p.next new };
        event_is = refl;
        after_is = refl;
        is = λ t. record {
          small = made_peek (machines words) (has_failed answer) (kinds.Peek Dest file off len) (world_at size s.core p.was old) all_idle (world_at size s.core p.next new) (
            refl,
            same_dest_world (host_of size s.core) (host_of size p.next) (host_of size p.was) new.client new.draws new.clock (length new.choices.items) new.log (p.same t)
                ∙ same_world (host_of size s.core) (host_of size p.was) k.client k.draws k.clock (one_more old.choices.items new.choices.items _ choices)
                (log ∙ sym (rest_log (machines words) (world_at size s.core p.was old))),
          );
          choice = chosen_peek (machines words) (has_failed answer) Dest file off len all_idle;
        };
        right = λ t. size_right new.log k.bytes;
        lines = λ t. lines_shown told t p.was.server.files.volume.volume Dest file off len zeros bytes text_old text_new answer long
            p.is (subst (λ (e : DestEnd D M). file < dest_files e) p.was_is (has.there t)) put
            ∙ ap (λ (ls : List Line). text_old ++ lines_text (ls ++ [])) (sym (told_peek (machines words) (has_failed answer) (world_at size s.core p.was old)
            (record { event = kinds.Peek Dest file off len; choice = choice_by (has_failed answer); parts = all_idle; after = world_at size s.core p.next new })));
        choices = choices;
        asked = λ at none. uncut_peek (has_failed answer) at _;
        blamed = blamed_one (record { event = kinds.Peek Dest file off len; choice = choice_by (has_failed answer); parts = all_idle; after = world_at size s.core p.next new })
            (blamed_there answer file off len);
        source_later = later_bit faults size _ false _ _ (not_here answer file off len) (later_none faults size _);
        dest_later = later_bit faults size _ (has_failed answer) _ _ (peeked_there answer file off len) p.later;
      }

  -- ---- what a peek keeps

  pub source_peek_keeps : (file off : ℕ) (old new : Stage D M) (source : SourceEnd D M) (zeros bytes : List ℕ) (answer : Peeked) → IsReady old
      → SourcePeeks told faults size file off old.source source zeros bytes answer → SettleKeeps (record old { source = source }) new → SmallKeeps told old new
  source_peek_keeps file off old new source zeros bytes answer ready p k =
      small_keeps told old new (source_stays told old.source new.source p.was p.next p.was_is (k.source ∙ p.next_is) (λ t. host_stays size p.was p.next (p.same t)))
      (dest_still told old.dest new.dest ready.dest k.dest) (ap (λ (c : ClientState _). c.setting) k.client) k.log k.bytes
      (one_source old.source new.source p.was p.next p.was_is (k.source ∙ p.next_is) (omega (arith, p.counted))) (same_dest old.dest new.dest k.dest)
      (omega (arith, ap (λ (c : ClientState _). c.steps) k.client)) k.choices k.flowed

  pub dest_peek_keeps : (file off : ℕ) (old new : Stage D M) (dest : DestEnd D M) (zeros bytes : List ℕ) (answer : Peeked) → IsReady old
      → DestPeeks told faults size file off old.dest dest zeros bytes answer → SettleKeeps (record old { dest = dest }) new → SmallKeeps told old new
  dest_peek_keeps file off old new dest zeros bytes answer ready p k =
      small_keeps told old new (source_still told old.source new.source ready.source k.source)
      (dest_stays told old.dest new.dest p.was p.next p.was_is (k.dest ∙ p.next_is) (λ t. host_stays size p.was p.next (p.same t)))
      (ap (λ (c : ClientState _). c.setting) k.client) k.log k.bytes
      (same_source old.source new.source k.source) (one_dest old.dest new.dest p.was p.next p.was_is (k.dest ∙ p.next_is) (omega (arith, p.counted)))
      (omega (arith, ap (λ (c : ClientState _). c.steps) k.client)) k.choices k.flowed

  -- ---- at either server

  pub shown_small : (side : Side) (file off len : ℕ) (old mid new : Stage D M) (zeros bytes text_old text_new : List ℕ) (answer : Peeked) → IsReady old → HasFileAt told side file old
      → Peeks told faults size side file off old mid zeros bytes answer → length zeros ≡ len → text_new ≡ text_old ++ lines_text (bytes_lines answer side file off bytes)
      → SettleKeeps mid new → new.log ≡ mid.log → new.choices.items ≡ mid.choices.items ++ choice_by (has_failed answer) ∷ []
      → SmallDone told (machines words) read faults size (kinds.Peek side file off len) old new text_old text_new
  shown_small Source file off len old mid new zeros bytes text_old text_new answer ready has p long put k log choices =
      source_shown file off len old new mid.source zeros bytes text_old text_new answer ready has p.peeks long put
      (subst (λ (x : Stage D M). SettleKeeps x new) p.rest k) (log ∙ ap (λ (x : Stage D M). x.log) p.rest)
      (choices ∙ ap (λ (x : Stage D M). x.choices.items ++ choice_by (has_failed answer) ∷ []) p.rest)
  shown_small Dest file off len old mid new zeros bytes text_old text_new answer ready has p long put k log choices =
      dest_shown file off len old new mid.dest zeros bytes text_old text_new answer ready has p.peeks long put
      (subst (λ (x : Stage D M). SettleKeeps x new) p.rest k) (log ∙ ap (λ (x : Stage D M). x.log) p.rest)
      (choices ∙ ap (λ (x : Stage D M). x.choices.items ++ choice_by (has_failed answer) ∷ []) p.rest)

  pub shown_keeps : (side : Side) (file off : ℕ) (old mid new : Stage D M) (zeros bytes : List ℕ) (answer : Peeked) → IsReady old
      → Peeks told faults size side file off old mid zeros bytes answer → SettleKeeps mid new → SmallKeeps told old new
  shown_keeps Source file off old mid new zeros bytes answer ready p k =
      source_peek_keeps file off old new mid.source zeros bytes answer ready p.peeks (subst (λ (x : Stage D M). SettleKeeps x new) p.rest k)
  shown_keeps Dest file off old mid new zeros bytes answer ready p k =
      dest_peek_keeps file off old new mid.dest zeros bytes answer ready p.peeks (subst (λ (x : Stage D M). SettleKeeps x new) p.rest k)

  -- a peek leaves the records as they are
  pub peeked_bytes : (side : Side) (file off : ℕ) (old mid : Stage D M) (zeros bytes : List ℕ) (answer : Peeked) → Peeks told faults size side file off old mid zeros bytes answer → bytes_of mid.log ≡ bytes_of old.log
  peeked_bytes Source file off old mid zeros bytes answer p = ap (λ (x : Stage D M). bytes_of x.log) p.rest
  peeked_bytes Dest file off old mid zeros bytes answer p = ap (λ (x : Stage D M). bytes_of x.log) p.rest
