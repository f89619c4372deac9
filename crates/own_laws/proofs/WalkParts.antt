-- The operations behind a SEQUENCE go along, and so do all of them in order.
use Rattle.std.proofs.Common.{◌≡◌, ℕ, suc, ◌+◌, Bool, true, false, List, [], ◌∷◌, length, Option, Some, None, sym, subst, arith}
use Rattle.std.specs.Prelude.{◌==◌, if◌then◌else◌}
use Rattle.file_ops.specs.declared.args.FileArg.{FileArg}
use Rattle.file_ops.specs.declared.args.FileArg.TheVariants as args
use Rattle.file_server.specs.declared.extension.Ask.{Ask}
use Rattle.file_server.specs.declared.extension.Ask.TheVariants.{Operation}
use Rattle.file_server.specs.declared.extension.Caller.{Caller}
use Rattle.file_server.specs.declared.extension.Gate.{Gate}
use Rattle.file_server.specs.declared.extension.Gate.TheVariants as gate
use Rattle.nfs_base.specs.declared.status.Status.{Status}
use Rattle.nfs_compound.specs.Ops.{op_number}
use Rattle.nfs_compound.specs.Results.{res_status}
use Rattle.nfs_compound.specs.Walk.{next_number}
use Rattle.nfs_compound.specs.declared.op.Op.{Op}
use Rattle.nfs_compound.specs.declared.op.Op.TheVariants.{Copy, File}
use Rattle.nfs_compound.specs.declared.tail.Tail.{Tail}
use Rattle.server_volume.specs.Choices.{Choice}
use Rattle.compound_server.specs.Course.{Course, Performed, Service}
use Rattle.compound_server.specs.Performing.{asks_later, done, file_done, file_rules, gated, perform, placed, unless_refused, with_state}
use Rattle.compound_server.specs.Refusals.{place_refusal, tail_refusal}
use Rattle.compound_server.specs.State.{Parting}
use Rattle.compound_server.specs.Walking.{Walked, at_tail, walk}
use Rattle.compound_server.specs.declared.refusing.TailRefusal.{TailRefusal}
use Rattle.own_laws.proofs.Grows.{Grows}
use Rattle.own_laws.proofs.FileParts.{attributes_go, close_keeps, commit_keeps, get_keeps, lookup_keeps, open_keeps, put_keeps, put_root_keeps, read_goes, restore_keeps, save_keeps, write_keeps}

-- what is answered behind an operation, or that alone
abbrev went : {X : Type 0} → (ok : Bool) → Performed X → Walked X → Walked X
went ok a w = if ok then record { course = w.course; results = a.res ∷ w.results } else record { course = a.course; results = a.res ∷ [] }

module _ {X C : Type 0} (goes : ℕ → X → X → Type 0) (v : Service X C) (parting : Parting X) (silent : X → X) (f : Grows goes v parting silent)
    (choice : Choice) (caller : Caller) (carry : Option C) where
  abbrev pub Goes : ℕ → Course X → Course X → Type 0
  Goes n c d = goes n c.going.machine.extra d.going.machine.extra

  -- as far as one of its own operations
  abbrev One : Course X → Course X → Type 0
  One c d = Goes 1 c d

  at_gate : (x : X) (caller : Caller) (carry : Option C) (ask : Ask) → goes 1 x (v.gate x caller carry ask).0
  at_gate x caller carry ask = f.more 0 1 _ _ (omega arith) (f.gate x caller carry ask)

  -- what is the same goes along
  along : {x y : X} → y ≡ x → goes 1 x y
  along {x} {y} is = subst (λ z. goes 1 x z) (sym is) (f.same 1 x)

  file_goes : (next : Option ℕ) (a : FileArg) (c : Course X) → One c (file_done v choice caller carry next a c).course
  unfolding file_done
  file_goes next (args.Close a) c = along (close_keeps a c.going).0
  file_goes next (args.Commit a) c = along (commit_keeps choice c.going)
  file_goes next (args.GetAttr mask) c = attributes_go (file_rules v) (goes 1) (f.same 1) at_gate caller carry mask c.going
  file_goes next args.GetFh c = along (get_keeps c.going).0
  file_goes next (args.Lookup name) c = along (lookup_keeps name c.going).0
  file_goes next (args.Open a) c = along (open_keeps caller a c.going).0
  file_goes next (args.PutFh handle) c = along (put_keeps next handle c.going).0
  file_goes next args.PutRootFh c = along (put_root_keeps c.going).0
  file_goes next (args.Read a) c = read_goes (file_rules v) (goes 1) (f.same 1) at_gate caller carry choice a c.going
  file_goes next args.RestoreFh c = along (restore_keeps c.going).0
  file_goes next args.SaveFh c = along (save_keeps c.going).0
  file_goes next (args.Write a) c = along (write_keeps choice a c.going)
  file_goes next a c = f.same 1 c.going.machine.extra

  done_goes : (next : Option ℕ) (op : Op) (c : Course X) → One c (done v choice caller carry next op c).course
  done_goes next (File a) c = file_goes next a c
  done_goes next (Copy a) c = f.serve choice caller carry a c.going

  said_goes : (said : Gate) (next : Option ℕ) (op : Op) (x : X) (c : Course X) → goes 0 c.going.machine.extra x
      → One c (unless_refused said v choice caller carry next op (with_state x c)).course
  said_goes (gate.Refuse status) next op x c first = f.more 0 1 _ _ (omega arith) first
  said_goes gate.Serve next op x c first = f.joins 0 1 _ _ _ first (done_goes next op (with_state x c))
  said_goes gate.Usual next op x c first = f.joins 0 1 _ _ _ first (done_goes next op (with_state x c))

  gated_goes : (later : Bool) (next : Option ℕ) (op : Op) (c : Course X) → One c (gated later v choice caller carry next op c).course
  gated_goes true next op c = done_goes next op c
  gated_goes false next op c =
      let asked = Operation (op_number op) in
      let said = v.gate c.going.machine.extra caller carry asked in
      said_goes said.1 next op said.0 c (f.gate c.going.machine.extra caller carry asked)

  placed_goes : (refusal : Option Status) (next : Option ℕ) (op : Op) (c : Course X) → One c (placed refusal v choice caller carry next op c).course
  placed_goes (Some status) next op c = f.same 1 c.going.machine.extra
  placed_goes None next op c = gated_goes (asks_later (op_number op)) next op c

  perform_goes : (next : Option ℕ) (op : Op) (c : Course X) → One c (perform v choice caller carry next op c).course
  unfolding perform
  perform_goes next op c = placed_goes (place_refusal (op_number op)) next op c

  tail_goes : (r : Option TailRefusal) (c : Course X) → Goes 0 c (at_tail r c).course
  tail_goes None c = f.same 0 c.going.machine.extra
  tail_goes (Some r) c = f.same 0 c.going.machine.extra

  on_goes : (n : ℕ) (ok : Bool) (c : Course X) (a : Performed X) (w : Walked X) → Goes 1 c a.course → Goes n a.course w.course → Goes (suc n) c (went ok a w).course
  on_goes n true c a w first rest = f.more (1 + n) (suc n) _ _ (omega arith) (f.joins 1 n _ _ _ first rest)
  on_goes n false c a w first rest = f.more 1 (suc n) _ _ (omega arith) first

  pub walk_goes : (tail : Tail) (ops : List Op) (c : Course X) → Goes (length ops) c (walk v choice caller carry tail ops c).course
  unfolding walk
  walk_goes tail [] c = tail_goes (tail_refusal tail) c
  walk_goes tail (op ∷ ops) c =
      let a = perform v choice caller carry (next_number ops) op c in
      on_goes (length ops) ((res_status a.res).number == 0) c a (walk v choice caller carry tail ops a.course) (perform_goes (next_number ops) op c) (walk_goes tail ops a.course)
