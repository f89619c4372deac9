-- The operations behind a SEQUENCE change a store by calls alone, and so does each up to the next.
use Rattle.std.proofs.Common.{◌≡◌, ℕ, Bool, true, false, List, [], ◌∷◌, ◌++◌, Option, Some, None, refl, subst}
use Rattle.std.specs.Prelude.{◌==◌, if◌then◌else◌}
use Rattle.copy_ops.specs.declared.arg.CopyArg.{CopyArg}
use Rattle.file_ops.specs.declared.args.FileArg.{FileArg}
use Rattle.file_ops.specs.declared.args.FileArg.TheVariants as args
use Rattle.file_server.specs.Machine.{Going}
use Rattle.file_server.specs.declared.extension.Ask.TheVariants.{Operation}
use Rattle.file_server.specs.declared.extension.Caller.{Caller}
use Rattle.file_server.specs.declared.extension.Gate.{Gate}
use Rattle.file_server.specs.declared.extension.Gate.TheVariants as gate
use Rattle.nfs_base.specs.declared.status.Status.{Status}
use Rattle.nfs_compound.specs.Ops.{op_number}
use Rattle.nfs_compound.specs.Results.{res_status}
use Rattle.nfs_compound.specs.Walk.{next_number}
use Rattle.nfs_compound.specs.declared.op.Op.{Op}
use Rattle.nfs_compound.specs.declared.op.Op.TheVariants.{Copy, File}
use Rattle.nfs_compound.specs.declared.tail.Tail.{Tail}
use Rattle.server_volume.specs.Choices.{Choice}
use Rattle.compound_server.specs.Course.{Course, Performed, Service}
use Rattle.compound_server.specs.Performing.{asks_later, done, file_done, file_rules, gated, perform, placed, unless_refused, with_state}
use Rattle.compound_server.specs.Refusals.{place_refusal, tail_refusal}
use Rattle.compound_server.specs.Walking.{Walked, at_tail, walk}
use Rattle.compound_server.specs.declared.refusing.TailRefusal.{TailRefusal}
use Rattle.commit_laws.specs.Calling.{CameByCalls}
use Rattle.commit_laws.specs.CallLaws.{by_none}
use Rattle.commit_laws.specs.Executing.{Executed, executed}
use Rattle.commit_laws.proofs.FileCalls.{Goes, attributes_by, both, close_by, commit_by, get_by, lookup_by, open_by, put_by, put_root_by, read_by, restore_by, save_by, stays, write_by}

-- the same of two courses
abbrev pub Runs : {X : Type 0} → Course X → Course X → Type 0
Runs c d = Goes c.going d.going

-- what is answered behind an operation, or that alone
abbrev went : {X : Type 0} → (ok : Bool) → Performed X → Walked X → Walked X
went ok a w = if ok then record { course = w.course; results = a.res ∷ w.results } else record { course = a.course; results = a.res ∷ [] }

-- an extension whose operations change the store by calls alone
abbrev pub ServesByCalls : {X C : Type 0} → Service X C → Type 0
ServesByCalls {X} {C} v =
    (choice : Choice) (caller : Caller) (carry : Option C) (op : CopyArg) (g : Going X)
    → CameByCalls g.machine.store (v.serve choice caller carry op g).going.machine.store g.used (v.serve choice caller carry op g).going.used

-- An operation among those executed: what went before it, what it did, what is executed behind it, and what comes of that.
pub record Passes {X C : Type 0} (v : Service X C) (choice : Choice) (caller : Caller) (carry : Option C) (from : Course X) (e : Executed X) (back : List (Executed X)) (end : Course X) : Type 0 where
  pub to : Runs from e.found
  pub next : Option ℕ
  pub does : e.answered ≡ perform v choice caller carry next e.op e.found
  pub more : List Op
  pub behind : executed v choice caller carry more e.answered.course ≡ back
  pub ends : Runs e.answered.course end

module _ {X C : Type 0} (v : Service X C) (serves : ServesByCalls v) (choice : Choice) (caller : Caller) (carry : Option C) where
  file_runs : (next : Option ℕ) (a : FileArg) (c : Course X) → Runs c (file_done v choice caller carry next a c).course
  unfolding file_done
  file_runs next (args.Close a) c = close_by a c.going
  file_runs next (args.Commit a) c = commit_by choice c.going
  file_runs next (args.GetAttr mask) c = attributes_by (file_rules v) caller carry mask c.going
  file_runs next args.GetFh c = get_by c.going
  file_runs next (args.Lookup name) c = lookup_by name c.going
  file_runs next (args.Open a) c = open_by caller a c.going
  file_runs next (args.PutFh handle) c = put_by next handle c.going
  file_runs next args.PutRootFh c = put_root_by c.going
  file_runs next (args.Read a) c = read_by (file_rules v) caller carry choice a c.going
  file_runs next args.RestoreFh c = restore_by c.going
  file_runs next args.SaveFh c = save_by c.going
  file_runs next (args.Write a) c = write_by choice a c.going
  file_runs next a c = stays c.going c.going refl refl

  done_runs : (next : Option ℕ) (op : Op) (c : Course X) → Runs c (done v choice caller carry next op c).course
  done_runs next (File a) c = file_runs next a c
  done_runs next (Copy a) c = serves choice caller carry a c.going

  said_runs : (said : Gate) (next : Option ℕ) (op : Op) (x : X) (c : Course X) → Runs c (unless_refused said v choice caller carry next op (with_state x c)).course
  said_runs (gate.Refuse status) next op x c = by_none _ _ _ _ refl refl
  said_runs gate.Serve next op x c = done_runs next op (with_state x c)
  said_runs gate.Usual next op x c = done_runs next op (with_state x c)

  gated_runs : (later : Bool) (next : Option ℕ) (op : Op) (c : Course X) → Runs c (gated later v choice caller carry next op c).course
  gated_runs true next op c = done_runs next op c
  gated_runs false next op c =
      let said = v.gate c.going.machine.extra caller carry (Operation (op_number op)) in said_runs said.1 next op said.0 c

  placed_runs : (refusal : Option Status) (next : Option ℕ) (op : Op) (c : Course X) → Runs c (placed refusal v choice caller carry next op c).course
  placed_runs (Some status) next op c = stays c.going c.going refl refl
  placed_runs None next op c = gated_runs (asks_later (op_number op)) next op c

  pub perform_runs : (next : Option ℕ) (op : Op) (c : Course X) → Runs c (perform v choice caller carry next op c).course
  unfolding perform
  perform_runs next op c = placed_runs (place_refusal (op_number op)) next op c

  tail_runs : (r : Option TailRefusal) (c : Course X) → Runs c (at_tail r c).course
  tail_runs None c = stays c.going c.going refl refl
  tail_runs (Some r) c = stays c.going c.going refl refl

  on_runs : (ok : Bool) (c : Course X) (a : Performed X) (w : Walked X) → Runs c a.course → Runs a.course w.course → Runs c (went ok a w).course
  on_runs true c a w first rest = both c.going a.course.going w.course.going first rest
  on_runs false c a w first rest = first

  pub walk_runs : (tail : Tail) (ops : List Op) (c : Course X) → Runs c (walk v choice caller carry tail ops c).course
  unfolding walk
  walk_runs tail [] c = tail_runs (tail_refusal tail) c
  walk_runs tail (op ∷ ops) c =
      let a = perform v choice caller carry (next_number ops) op c in
      on_runs ((res_status a.res).number == 0) c a (walk v choice caller carry tail ops a.course) (perform_runs (next_number ops) op c) (walk_runs tail ops a.course)

  -- ---- an operation among those executed

  abbrev PassesIn : Course X → Executed X → List (Executed X) → Course X → Type 0
  PassesIn from e back end = Passes v choice caller carry from e back end

  first_passes : (ok : Bool) (tail : Tail) (op : Op) (ops : List Op) (c : Course X)
      → let a = perform v choice caller carry (next_number ops) op c in
      PassesIn c (record { op = op; found = c; answered = a }) (if ok then executed v choice caller carry ops a.course else [])
      (went ok a (walk v choice caller carry tail ops a.course)).course
  unfolding executed
  first_passes true tail op ops c =
      let a = perform v choice caller carry (next_number ops) op c in
      record { to = stays c.going c.going refl refl; next = next_number ops; does = refl; more = ops; behind = refl; ends = walk_runs tail ops a.course }
  first_passes false tail op ops c =
      let a = perform v choice caller carry (next_number ops) op c in
      record { to = stays c.going c.going refl refl; next = next_number ops; does = refl; more = []; behind = refl; ends = stays a.course.going a.course.going refl refl }

  none_among : (front : List (Executed X)) (e : Executed X) (back : List (Executed X)) → [] ≡ front ++ e ∷ back → ⊥
  none_among [] e back is = absurd cc
  none_among (x ∷ xs) e back is = absurd cc

  later : (c d : Course X) (e : Executed X) (back : List (Executed X)) (end : Course X) → Runs c d → PassesIn d e back end → PassesIn c e back end
  later c d e back end first p =
      record { to = both c.going d.going e.found.going first p.to; next = p.next; does = p.does; more = p.more; behind = p.behind; ends = p.ends }

  behind_passes : (ok : Bool) (tail : Tail) (ops : List Op) (c : Course X) (a : Performed X) (front : List (Executed X)) (e : Executed X) (back : List (Executed X))
      → (executed v choice caller carry ops a.course ≡ front ++ e ∷ back → PassesIn a.course e back (walk v choice caller carry tail ops a.course).course)
      → Runs c a.course → (if ok then executed v choice caller carry ops a.course else []) ≡ front ++ e ∷ back
      → PassesIn c e back (went ok a (walk v choice caller carry tail ops a.course)).course
  behind_passes true tail ops c a front e back more first is = later c a.course e back _ first (more is)
  behind_passes false tail ops c a front e back more first is = absurd (none_among front e back is)

  pub passes : (tail : Tail) (ops : List Op) (c : Course X) (front : List (Executed X)) (e : Executed X) (back : List (Executed X))
      → executed v choice caller carry ops c ≡ front ++ e ∷ back → PassesIn c e back (walk v choice caller carry tail ops c).course
  unfolding executed walk
  passes tail [] c front e back is = absurd (none_among front e back is)
  passes tail (op ∷ ops) c [] e back is =
      let a = perform v choice caller carry (next_number ops) op c in
      let x : Executed X = record { op = op; found = c; answered = a } in
      let ok = (res_status a.res).number == 0 in
      let end = (went ok a (walk v choice caller carry tail ops a.course)).course in
      let rest = if ok then executed v choice caller carry ops a.course else [] in
      let told : x ∷ rest ≡ e ∷ back = is in
      let same : x ≡ e = cc in
      let after : rest ≡ back = cc in
      subst (λ y. PassesIn c y back end) same (subst (λ (es : List (Executed X)). PassesIn c x es end) after (first_passes ok tail op ops c))
  passes tail (op ∷ ops) c (x ∷ front) e back is =
      let a = perform v choice caller carry (next_number ops) op c in
      let y : Executed X = record { op = op; found = c; answered = a } in
      let ok = (res_status a.res).number == 0 in
      let rest = if ok then executed v choice caller carry ops a.course else [] in
      let told : y ∷ rest ≡ x ∷ (front ++ e ∷ back) = is in
      let after : rest ≡ front ++ e ∷ back = cc in
      behind_passes ok tail ops c a front e back (λ more. passes tail ops a.course front e back more) (perform_runs (next_number ops) op c) after
