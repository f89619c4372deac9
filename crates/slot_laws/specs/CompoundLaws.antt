-- What each COMPOUND is to the slots.
use Rattle.std.proofs.Common.{◌≡◌, inl, inr, ℕ, Bool, true, false, List, [], ◌∷◌, Option, refl, ap, arith}
use Rattle.std.specs.Prelude.{◌==◌, ◌&&◌, not, nat_lt}
use Rattle.file_ops.specs.declared.args.FileArg.TheVariants as args
use Rattle.file_ops.specs.declared.operation.TheConstants.{OP_SEQUENCE}
use Rattle.file_ops.specs.declared.sessions.SequenceArgs.{SequenceArgs}
use Rattle.nfs_base.specs.declared.limits.TheConstants.{MOST_OPERATIONS}
use Rattle.nfs_base.specs.declared.status.Status.{Status}
use Rattle.nfs_base.specs.declared.status.TheConstants.Status as statuses
use Rattle.nfs_compound.specs.declared.compound.Compound.{Compound}
use Rattle.nfs_compound.specs.declared.op.Op.{Op}
use Rattle.nfs_compound.specs.declared.op.Op.TheVariants.{File}
use Rattle.nfs_compound.specs.declared.tail.Tail.{Tail}
use Rattle.nfs_compound.specs.declared.tail.Tail.TheVariants.{Whole, Unreadable, Unsupported, Illegal}
use Rattle.nfs_compound.specs.Walk.{last_status}
use Rattle.server_volume.specs.Choices.{Choice}
use Rattle.sess_slots.specs.declared.answers.Begin.{Begin}
use Rattle.sess_slots.specs.declared.answers.Begin.TheVariants as begin
use Rattle.sess_slots.specs.Begins.{begin_of, reply_kept}
use Rattle.sess_slots.specs.Table.{SessionTable}
use Rattle.nfs_compound.specs.declared.compound.TheConstants.{MINOR_VERSION}
use Rattle.compound_server.specs.declared.who.Who.{Who}
use Rattle.compound_server.specs.Compounds.{by_begin, by_first, by_minor, caller_at, first_number, on_compound, sequence, sequence_done, tail_results, unless_many}
use Rattle.compound_server.specs.Course.{Service}
use Rattle.compound_server.specs.Refusals.{refused, tail_refusal}
use Rattle.compound_server.specs.State.{Given, Parting, State, answered_by, begun, with_own}
use Rattle.compound_server.specs.Walking.{walk}
use Rattle.slot_laws.specs.Fronts.{IsFailure, SaysNotRun}
use Rattle.slot_laws.specs.FrontLaws.{failure_told, front_is, none_is, sequence_spelled}
use Rattle.slot_laws.specs.OutsideLaws.{failure_given, itself, outside_stays}
use Rattle.slot_laws.specs.Sound.{IsSound}
use Rattle.slot_laws.specs.Turns.{Turns, first_retries, is_replay, is_retry}
use Rattle.slot_laws.specs.WalkLaws.{walk_same}

-- what is given is this of the sessions before
abbrev pub GivesTurn : {X : Type 0} → (retry : Bool) → (root : ℕ) (tag : List ℕ) → List Op → SessionTable → Given X → Type 0
GivesTurn retry root tag ops v g = Turns retry root tag ops v g.state.sessions g.body

module _ {X C : Type 0} (v : Service X C) (parting : Parting X) (choice : Choice) (who : Who) (principal : List ℕ) (carry : Option C) where
  -- ---- SEQUENCE

  failed_sequence : (tag : List ℕ) (ops : List Op) (s : State X) (status : Status) → IsSound s.sessions → IsFailure status.number
      → GivesTurn false who.root tag ops s.sessions (answered_by s tag (refused OP_SEQUENCE status ∷ []))
  failed_sequence tag ops s status sound fails = inr (failure_given s.sessions s tag OP_SEQUENCE status fails (itself s.sessions sound))

  by_begin_turns : (answer : Begin) (tag : List ℕ) (a : SequenceArgs) (ops : List Op) (tail : Tail) (s : State X) → IsSound s.sessions
      → begin_of s.sessions a.session a.slot a.sequence who.root ≡ answer
      → GivesTurn (is_replay answer) who.root tag (File (args.Sequence a) ∷ ops) s.sessions (by_begin answer v choice who carry tag a ops tail s)
  by_begin_turns (begin.New place) tag a ops tail s sound is =
      let caller = caller_at who place s.sessions in
      let w = walk v choice caller carry tail ops (begun s) in
      let same = walk_same v choice caller carry tail ops (begun s) in
      inl (record {
        place = place;
        means = record { sequence = a; behind = ops; first = refl; answer_is = is };
        moves = record { made = same.made; sessions = ap (reply_kept place who.root _) same.sessions };
        says = front_is OP_SEQUENCE 0 (sequence_done a) (sequence_spelled a) (last_status (sequence_done a ∷ w.results)) tag w.results;
      })
  by_begin_turns (begin.Replay place) tag a ops tail s sound is =
      record { place = place; means = record { sequence = a; behind = ops; first = refl; answer_is = is }; same = refl; body_is = refl }
  by_begin_turns begin.FalseRetry tag a ops tail s sound is = failed_sequence tag _ s statuses.SEQ_FALSE_RETRY sound (omega arith, λ e. omega (arith, e))
  by_begin_turns begin.BadSession tag a ops tail s sound is = failed_sequence tag _ s statuses.BADSESSION sound (omega arith, λ e. omega (arith, e))
  by_begin_turns begin.BadSlot tag a ops tail s sound is = failed_sequence tag _ s statuses.BADSLOT sound (omega arith, λ e. omega (arith, e))
  by_begin_turns begin.Misordered tag a ops tail s sound is = failed_sequence tag _ s statuses.SEQ_MISORDERED sound (omega arith, λ e. omega (arith, e))

  sequence_turns : (tag : List ℕ) (a : SequenceArgs) (ops : List Op) (tail : Tail) (s : State X) → IsSound s.sessions
      → GivesTurn (is_replay (begin_of s.sessions a.session a.slot a.sequence who.root)) who.root tag (File (args.Sequence a) ∷ ops) s.sessions
      (sequence v choice who carry tag a ops tail s)
  unfolding sequence
  sequence_turns tag a ops tail s sound = by_begin_turns (begin_of s.sessions a.session a.slot a.sequence who.root) tag a ops tail s sound refl

  -- ---- no operation was read

  tail_says : (tail : Tail) (tag : List ℕ) (s : State X) → SaysNotRun tag (answered_by s tag (tail_results (tail_refusal tail))).body
  tail_says Whole tag s = inl (none_is (last_status []) tag)
  tail_says (Unreadable place op at) tag s = failure_told op statuses.BADXDR (omega arith, λ e. omega (arith, e)) _ tag
  tail_says (Unsupported place op) tag s = failure_told op statuses.NOTSUPP (omega arith, λ e. omega (arith, e)) _ tag
  tail_says (Illegal place op) tag s = failure_told _ statuses.OP_ILLEGAL (omega arith, λ e. omega (arith, e)) _ tag

  -- ---- the first operation decides

  first_turns : (tag : List ℕ) (count : ℕ) (ops : List Op) (tail : Tail) (s : State X) → IsSound s.sessions
      → GivesTurn (first_retries who.root ops s.sessions) who.root tag ops s.sessions (by_first v parting choice who principal carry tag count ops tail s)
  unfolding by_first
  first_turns tag count [] tail s sound = inr (record { rests = itself s.sessions sound; says = tail_says tail tag s })
  first_turns tag count (File (args.Sequence a) ∷ ops) tail s sound = sequence_turns tag a ops tail s sound
  first_turns tag count (op ∷ ops) tail s sound = inr (outside_stays parting v who principal carry tag count op s sound)

  many_turns : (many : Bool) (c : Compound) (s : State X) → IsSound s.sessions
      → GivesTurn (not many && first_retries who.root c.ops s.sessions) who.root c.tag c.ops s.sessions (unless_many many v parting choice who principal carry c s)
  many_turns true c s sound =
      inr (failure_given s.sessions s c.tag (first_number c.ops c.tail) statuses.TOO_MANY_OPS (omega arith, λ e. omega (arith, e)) (itself s.sessions sound))
  many_turns false c s sound = first_turns c.tag c.count c.ops c.tail s sound

  minor_turns : (minor : Bool) (c : Compound) (s : State X) → IsSound s.sessions
      → GivesTurn (minor && (not (nat_lt MOST_OPERATIONS c.count) && first_retries who.root c.ops s.sessions)) who.root c.tag c.ops s.sessions
      (by_minor minor v parting choice who principal carry c s)
  minor_turns false c s sound = inr (record { rests = itself s.sessions sound; says = inl (none_is statuses.MINOR_VERS_MISMATCH c.tag) })
  minor_turns true c s sound = many_turns (nat_lt MOST_OPERATIONS c.count) c s sound

  -- each COMPOUND is a retry or not, and where it isn't it is a new call that runs, or moves no slot
  pub compound_turns : (c : Compound) (s : State X) → IsSound s.sessions
      → GivesTurn (is_retry who.root c s.sessions) who.root c.tag c.ops s.sessions (on_compound v parting choice who principal carry c s)
  unfolding on_compound
  compound_turns c s sound = minor_turns (c.minor == MINOR_VERSION) c (with_own (parting.lapse who.second s.machine.extra) s) sound
