-- How many calls on the volume the operations behind a SEQUENCE make, one and all of them in order.
use Rattle.std.proofs.Common.{◌≡◌, ℕ, ◌+◌, Bool, true, false, List, [], ◌∷◌, Option, Some, None, refl, sym, subst, arith}
use Rattle.std.specs.Prelude.{◌==◌, fold, if◌then◌else◌}
use Rattle.file_ops.specs.declared.args.FileArg.{FileArg}
use Rattle.file_ops.specs.declared.args.FileArg.TheVariants as args
use Rattle.file_server.specs.declared.extension.Ask.TheVariants.{Operation}
use Rattle.file_server.specs.declared.extension.Caller.{Caller}
use Rattle.file_server.specs.declared.extension.Gate.{Gate}
use Rattle.file_server.specs.declared.extension.Gate.TheVariants as gate
use Rattle.nfs_base.specs.declared.status.Status.{Status}
use Rattle.nfs_compound.specs.Ops.{op_number}
use Rattle.nfs_compound.specs.Results.{res_status}
use Rattle.nfs_compound.specs.VolumeCalls.{file_calls, op_calls, volume_calls}
use Rattle.nfs_compound.specs.Walk.{next_number}
use Rattle.nfs_compound.specs.declared.op.Op.{Op}
use Rattle.nfs_compound.specs.declared.op.Op.TheVariants.{Copy, File}
use Rattle.nfs_compound.specs.declared.tail.Tail.{Tail}
use Rattle.server_volume.specs.Choices.{Choice}
use Rattle.compound_server.specs.Course.{Course, Performed, Service}
use Rattle.compound_server.specs.Performing.{asks_later, done, file_done, file_rules, gated, perform, placed, unless_refused, with_state}
use Rattle.compound_server.specs.Refusals.{place_refusal, tail_refusal}
use Rattle.compound_server.specs.Walking.{Walked, at_tail, walk}
use Rattle.compound_server.specs.declared.refusing.TailRefusal.{TailRefusal}
use Rattle.own_laws.specs.Quiet.{QuietMakeNoCall}
use Rattle.tell_laws.specs.Volumes.{ServesNone}
use Rattle.tell_laws.proofs.Makes.{Makes, makes_more, makes_none, makes_then}
use Rattle.tell_laws.proofs.FileCalls.{commit_calls, read_calls, write_calls_few}

-- ---- how many calls several operations make at most

sum_from : (n : ℕ) (ops : List Op) → fold (λ (a : ℕ) (op : Op). a + op_calls op) n ops ≡ n + fold (λ (a : ℕ) (op : Op). a + op_calls op) 0 ops
sum_from n [] = omega arith
sum_from n (op ∷ ops) = omega (arith, sum_from (n + op_calls op) ops, sum_from (0 + op_calls op) ops)

pub calls_behind : (op : Op) (ops : List Op) → volume_calls (op ∷ ops) ≡ op_calls op + volume_calls ops
calls_behind op ops = omega (arith, sum_from (0 + op_calls op) ops)

-- what is answered behind an operation, or that alone
abbrev went : {X : Type 0} → (ok : Bool) → Performed X → Walked X → Walked X
went ok a w = if ok then record { course = w.course; results = a.res ∷ w.results } else record { course = a.course; results = a.res ∷ [] }

module _ {X C : Type 0} (v : Service X C) (quiet : QuietMakeNoCall v) (serves : ServesNone v) (choice : Choice) (caller : Caller) (carry : Option C) where
  abbrev pub Calls : ℕ → Course X → Course X → Type 0
  Calls most c d = Makes most c.going.used d.going.used

  file_makes : (next : Option ℕ) (a : FileArg) (c : Course X) → Calls (file_calls a) c (file_done v choice caller carry next a c).course
  unfolding file_done
  file_makes next (args.Commit a) c = commit_calls choice c.going
  file_makes next (args.Read a) c = read_calls (file_rules v) caller carry choice a c.going
  file_makes next (args.Write a) c = write_calls_few choice a c.going
  file_makes next a c = makes_none 0 c.going.used _ (quiet choice caller carry next a c refl)

  done_makes : (next : Option ℕ) (op : Op) (c : Course X) → Calls (op_calls op) c (done v choice caller carry next op c).course
  done_makes next (File a) c = file_makes next a c
  done_makes next (Copy a) c = makes_none 0 c.going.used _ (serves choice caller carry a c.going)

  said_makes : (said : Gate) (next : Option ℕ) (op : Op) (x : X) (c : Course X)
      → Calls (op_calls op) c (unless_refused said v choice caller carry next op (with_state x c)).course
  said_makes (gate.Refuse status) next op x c = makes_none (op_calls op) c.going.used _ refl
  said_makes gate.Serve next op x c = done_makes next op (with_state x c)
  said_makes gate.Usual next op x c = done_makes next op (with_state x c)

  gated_makes : (later : Bool) (next : Option ℕ) (op : Op) (c : Course X) → Calls (op_calls op) c (gated later v choice caller carry next op c).course
  gated_makes true next op c = done_makes next op c
  gated_makes false next op c =
      let said = v.gate c.going.machine.extra caller carry (Operation (op_number op)) in
      said_makes said.1 next op said.0 c

  placed_makes : (refusal : Option Status) (next : Option ℕ) (op : Op) (c : Course X) → Calls (op_calls op) c (placed refusal v choice caller carry next op c).course
  placed_makes (Some status) next op c = makes_none (op_calls op) c.going.used _ refl
  placed_makes None next op c = gated_makes (asks_later (op_number op)) next op c

  perform_makes : (next : Option ℕ) (op : Op) (c : Course X) → Calls (op_calls op) c (perform v choice caller carry next op c).course
  unfolding perform
  perform_makes next op c = placed_makes (place_refusal (op_number op)) next op c

  tail_makes : (r : Option TailRefusal) (c : Course X) → Calls 0 c (at_tail r c).course
  tail_makes None c = makes_none 0 c.going.used _ refl
  tail_makes (Some r) c = makes_none 0 c.going.used _ refl

  on_makes : (ok : Bool) (n m : ℕ) (c : Course X) (a : Performed X) (w : Walked X) → Calls n c a.course → Calls m a.course w.course → Calls (n + m) c (went ok a w).course
  on_makes true n m c a w first rest = makes_then n m c.going.used a.course.going.used w.course.going.used first rest
  on_makes false n m c a w first rest = makes_more n (n + m) c.going.used a.course.going.used (omega arith) first

  pub walk_makes : (tail : Tail) (ops : List Op) (c : Course X) → Calls (volume_calls ops) c (walk v choice caller carry tail ops c).course
  unfolding walk
  walk_makes tail [] c = tail_makes (tail_refusal tail) c
  walk_makes tail (op ∷ ops) c =
      let a = perform v choice caller carry (next_number ops) op c in
      let w = walk v choice caller carry tail ops a.course in
      subst (λ n. Calls n c (went ((res_status a.res).number == 0) a w).course) (sym (calls_behind op ops))
      (on_makes ((res_status a.res).number == 0) (op_calls op) (volume_calls ops) c a w (perform_makes (next_number ops) op c) (walk_makes tail ops a.course))
