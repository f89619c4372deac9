-- The operations behind a SEQUENCE leave the sessions as they are.
use Rattle.std.proofs.Common.{◌≡◌, ℕ, Bool, true, false, List, [], ◌∷◌, Option, Some, None, refl, ◌∙◌}
use Rattle.std.specs.Prelude.{◌==◌, if◌then◌else◌}
use Rattle.file_ops.specs.declared.args.FileArg.{FileArg}
use Rattle.file_ops.specs.declared.args.FileArg.TheVariants as args
use Rattle.file_server.specs.declared.extension.Ask.TheVariants.{Operation}
use Rattle.file_server.specs.declared.extension.Caller.{Caller}
use Rattle.file_server.specs.declared.extension.Gate.{Gate}
use Rattle.file_server.specs.declared.extension.Gate.TheVariants as gate
use Rattle.nfs_base.specs.declared.status.Status.{Status}
use Rattle.nfs_compound.specs.declared.op.Op.{Op}
use Rattle.nfs_compound.specs.declared.op.Op.TheVariants.{Copy, File}
use Rattle.nfs_compound.specs.declared.tail.Tail.{Tail}
use Rattle.nfs_compound.specs.Ops.{op_number}
use Rattle.nfs_compound.specs.Results.{res_status}
use Rattle.nfs_compound.specs.Walk.{next_number}
use Rattle.server_volume.specs.Choices.{Choice}
use Rattle.sess_slots.specs.Table.{SessionTable}
use Rattle.compound_server.specs.Course.{Course, Performed, Service}
use Rattle.compound_server.specs.Performing.{asks_later, done, file_done, gated, perform, placed, unless_refused, with_state}
use Rattle.compound_server.specs.Refusals.{place_refusal, tail_refusal}
use Rattle.compound_server.specs.declared.refusing.TailRefusal.{TailRefusal}
use Rattle.compound_server.specs.Walking.{Walked, at_tail, walk}

-- the sessions are the same, and none was made
pub record HasSame (v w : SessionTable) : Type 0 where
  pub sessions : w.sessions ≡ v.sessions
  pub made : w.sessions_made ≡ v.sessions_made

abbrev itself : (v : SessionTable) → HasSame v v
itself v = record { sessions = refl; made = refl }

same_then : (u v w : SessionTable) → HasSame u v → HasSame v w → HasSame u w
same_then u v w first second = record { sessions = second.sessions ∙ first.sessions; made = second.made ∙ first.made }

-- what is answered behind an operation, or that alone
abbrev went : {X : Type 0} → (ok : Bool) → Performed X → Walked X → Walked X
went ok a w = if ok then record { course = w.course; results = a.res ∷ w.results } else record { course = a.course; results = a.res ∷ [] }

module _ {X C : Type 0} (s : Service X C) (choice : Choice) (caller : Caller) (carry : Option C) where
  -- RECLAIM_COMPLETE is noted at its client; the others leave the tables
  file_same : (next : Option ℕ) (a : FileArg) (c : Course X) → HasSame c.sessions (file_done s choice caller carry next a c).course.sessions
  unfolding file_done
  file_same next (args.ReclaimComplete one_fs) c = record { sessions = refl; made = refl }
  file_same next a c = record { sessions = refl; made = refl }

  done_same : (next : Option ℕ) (op : Op) (c : Course X) → HasSame c.sessions (done s choice caller carry next op c).course.sessions
  done_same next (File a) c = file_same next a c
  done_same next (Copy a) c = itself c.sessions

  said_same : (g : Gate) (next : Option ℕ) (op : Op) (c : Course X) → HasSame c.sessions (unless_refused g s choice caller carry next op c).course.sessions
  said_same (gate.Refuse status) next op c = itself c.sessions
  said_same gate.Serve next op c = done_same next op c
  said_same gate.Usual next op c = done_same next op c

  gated_same : (later : Bool) (next : Option ℕ) (op : Op) (c : Course X) → HasSame c.sessions (gated later s choice caller carry next op c).course.sessions
  gated_same true next op c = done_same next op c
  gated_same false next op c =
      let said = s.gate c.going.machine.extra caller carry (Operation (op_number op)) in
      said_same said.1 next op (with_state said.0 c)

  placed_same : (refusal : Option Status) (next : Option ℕ) (op : Op) (c : Course X) → HasSame c.sessions (placed refusal s choice caller carry next op c).course.sessions
  placed_same (Some status) next op c = itself c.sessions
  placed_same None next op c = gated_same (asks_later (op_number op)) next op c

  perform_same : (next : Option ℕ) (op : Op) (c : Course X) → HasSame c.sessions (perform s choice caller carry next op c).course.sessions
  unfolding perform
  perform_same next op c = placed_same (place_refusal (op_number op)) next op c

  tail_same : (r : Option TailRefusal) (c : Course X) → HasSame c.sessions (at_tail r c).course.sessions
  tail_same None c = itself c.sessions
  tail_same (Some r) c = itself c.sessions

  goes_same : (b : Bool) (c : Course X) (a : Performed X) (w : Walked X) → HasSame c.sessions a.course.sessions → HasSame a.course.sessions w.course.sessions
      → HasSame c.sessions (went b a w).course.sessions
  goes_same true c a w first rest = same_then c.sessions a.course.sessions w.course.sessions first rest
  goes_same false c a w first rest = first

  pub walk_same : (tail : Tail) (ops : List Op) (c : Course X) → HasSame c.sessions (walk s choice caller carry tail ops c).course.sessions
  unfolding walk
  walk_same tail [] c = tail_same (tail_refusal tail) c
  walk_same tail (op ∷ ops) c =
      let a = perform s choice caller carry (next_number ops) op c in
      goes_same ((res_status a.res).number == 0) c a (walk s choice caller carry tail ops a.course)
      (perform_same (next_number ops) op c) (walk_same tail ops a.course)
