-- A small step in which one end acts, or none: what it puts down, its lines, and its check are those of that end.
use Rattle.std.proofs.Common.{◌≡◌, ℕ, ◌+◌, Bool, true, false, List, ◌++◌, Option, Some, None, refl, ap, add-zero}
use Rattle.std.specs.Prelude.{map, ◌||◌, if◌then◌else◌}
use Rattle.std.specs.Option.{option_or}
use Rattle.std.proofs.lemmas.List.{append-nil}
use Rattle.nfs_base.specs.declared.seal.End.TheVariants as ends
use Rattle.outbox.specs.declared.outgoing.Outbox.{Outbox}
use Rattle.wire_lines.specs.declared.letters.Speaker.{Speaker}
use Rattle.wire_lines.specs.declared.letters.Speaker.TheVariants as speakers
use Rattle.wire_lines.specs.declared.line.Line.TheVariants as lines
use Rattle.wire_machine.specs.declared.choice.Choice.TheVariants.{Went, Failed}
use Rattle.wire_machine.specs.Check.{Reading, mistake, mistake_in}
use Rattle.wire_machine.specs.Ends.{Machines}
use Rattle.wire_machine.specs.Lines.{notes_of, records_of, sent_lines}
use Rattle.wire_machine.specs.Steps.{client_part, dest_part, source_part}
use Rattle.wire_machine.specs.World.{Posted, World, all_idle, all_posted, opening_of, with_parts}
use Rattle.wire_run.specs.Stage.{choice_by}

-- ---- what the disks did

pub choice_left : (failed : Bool) → choice_by failed ≡ (if failed || false then Failed else Went)
choice_left true = refl
choice_left false = refl

pub choice_right : (failed : Bool) → choice_by failed ≡ (if false || failed then Failed else Went)
choice_right true = refl
choice_right false = refl

pub or_none : {A : Type 0} (o : Option A) → option_or o None ≡ o
or_none None = refl
or_none (Some x) = refl

-- ---- lines

pub source_lines : (sent : ℕ) (took : Option (List ℕ)) (out : Outbox)
    → notes_of (source_part took out) ++ records_of sent (source_part took out)
    ≡ map (lines.Note speakers.Source) out.notes ++ sent_lines ends.Source (sent + 1) out.sent
source_lines sent took out = simp append-nil

pub dest_lines : (sent : ℕ) (speaker : Speaker) (took : Option (List ℕ)) (out : Outbox)
    → notes_of (dest_part speaker took out) ++ records_of sent (dest_part speaker took out)
    ≡ map (lines.Note speaker) out.notes ++ sent_lines ends.Dest (sent + 1) out.sent
dest_lines sent speaker took out = simp (append-nil, add-zero)

pub client_lines : (sent : ℕ) (took : Option (List ℕ)) (out : Outbox)
    → notes_of (client_part took out) ++ records_of sent (client_part took out)
    ≡ map (lines.Note speakers.Client) out.notes ++ sent_lines ends.Client (sent + 1) out.sent
client_lines sent took out = simp add-zero

module _ {S T C W : Type 0} (m : Machines S T C W) where
  -- ---- records

  pub source_log : (took : Option (List ℕ)) (out : Outbox) (w : World S T C W)
      → (with_parts m (source_part took out) w).log ≡ w.log ++ all_posted ends.Source w.steps (opening_of m ends.Source w) took out.sent
  source_log took out w = ap (λ (more : List Posted). w.log ++ more) (append-nil _)

  pub dest_log : (speaker : Speaker) (took : Option (List ℕ)) (out : Outbox) (w : World S T C W)
      → (with_parts m (dest_part speaker took out) w).log ≡ w.log ++ all_posted ends.Dest w.steps (opening_of m ends.Dest w) took out.sent
  dest_log speaker took out w = ap (λ (more : List Posted). w.log ++ more) (append-nil _)

  pub client_log : (took : Option (List ℕ)) (out : Outbox) (w : World S T C W)
      → (with_parts m (client_part took out) w).log ≡ w.log ++ all_posted ends.Client w.steps 0 took out.sent
  client_log took out w = refl

  pub rest_log : (w : World S T C W) → (with_parts m all_idle w).log ≡ w.log
  rest_log w = append-nil w.log

  -- ---- the check

  pub source_mistake : (read : Reading) (before : World S T C W) (took : Option (List ℕ)) (out : Outbox)
      → mistake m read before (source_part took out) ≡ mistake_in read before.log ends.Source (opening_of m ends.Source before) out.accepted took
  source_mistake read before took out = or_none _

  pub dest_mistake : (read : Reading) (before : World S T C W) (speaker : Speaker) (took : Option (List ℕ)) (out : Outbox)
      → mistake m read before (dest_part speaker took out) ≡ mistake_in read before.log ends.Dest (opening_of m ends.Dest before) out.accepted took
  dest_mistake read before speaker took out = or_none _

  pub client_mistake : (read : Reading) (before : World S T C W) (took : Option (List ℕ)) (out : Outbox)
      → mistake m read before (client_part took out) ≡ mistake_in read before.log ends.Client 0 out.accepted took
  client_mistake read before took out = refl
