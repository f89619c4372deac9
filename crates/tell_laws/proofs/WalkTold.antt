-- What the operations behind a SEQUENCE answer, where the first of them is PUTFH.
use Rattle.std.proofs.Common.{◌≡◌, ◌⊎◌, inl, inr, ℕ, ◌+◌, ◌≤◌, Bool, true, false, List, [], ◌∷◌, length, Option, Some, None, Result, Ok, Err, refl, ap, ◌∙◌, ne_eqb, arith}
use Rattle.std.specs.Prelude.{◌==◌, if◌then◌else◌}
use Rattle.file_ops.specs.declared.args.FileArg.TheVariants as args
use Rattle.file_ops.specs.declared.operation.TheConstants.{OP_PUTFH}
use Rattle.file_ops.specs.declared.results.FileRes.TheVariants as files
use Rattle.file_server.specs.Handles.{handle_file}
use Rattle.file_server.specs.Placing.{is_saved_next, put, put_tested, put_told}
use Rattle.file_server.specs.Machine.{Going}
use Rattle.file_server.specs.declared.extension.Ask.TheVariants.{Operation}
use Rattle.file_server.specs.declared.extension.Caller.{Caller}
use Rattle.file_server.specs.declared.extension.Gate.{Gate}
use Rattle.file_server.specs.declared.extension.Gate.TheVariants as gate
use Rattle.nfs_base.specs.declared.status.Status.{Status}
use Rattle.nfs_base.specs.declared.status.TheConstants.Status as statuses
use Rattle.nfs_compound.specs.Results.{res_status}
use Rattle.nfs_compound.specs.Walk.{next_number}
use Rattle.nfs_compound.specs.declared.op.Op.{Op}
use Rattle.nfs_compound.specs.declared.op.Op.TheVariants.{File}
use Rattle.nfs_compound.specs.declared.res.Res.{Res}
use Rattle.nfs_compound.specs.declared.res.Res.TheVariants as res
use Rattle.nfs_compound.specs.declared.tail.Tail.{Tail}
use Rattle.server_volume.specs.Choices.{Choice}
use Rattle.server_volume.specs.Store.{Store}
use Rattle.slot_laws.specs.Fronts.{IsFailure}
use Rattle.compound_server.specs.Course.{Course, Performed, Service}
use Rattle.compound_server.specs.Performing.{file_done, file_rules, perform, unless_refused, with_state}
use Rattle.compound_server.specs.Refusals.{refused, tail_refusal}
use Rattle.compound_server.specs.Walking.{Walked, at_tail, walk}
use Rattle.compound_server.specs.declared.refusing.TailRefusal.{TailRefusal}
use Rattle.tell_laws.proofs.Answers.{FailsGate, GateFails, NamesRight, handle_right}

-- ---- a handle is put

-- it is current then, and the volume is as it was
pub record HasPut {X : Type 0} (handle : List ℕ) (store : Store) (g : Going X) : Type 0 where
  pub store_is : g.machine.store ≡ store
  pub held : g.held.current ≡ Some handle

abbrev pub PutsRight : {X : Type 0} → List ℕ → Store → Performed X → Type 0
PutsRight handle store a =
    ((status : Status) × ((a.res ≡ res.File (files.PutFh status)) × IsFailure status.number))
    ⊎ ((a.res ≡ res.File (files.PutFh statuses.OK)) × HasPut handle store a.course.going)

module _ {X C : Type 0} (v : Service X C) (fails : GateFails (file_rules v)) (choice : Choice) (caller : Caller) (carry : Option C) (handle : List ℕ) where
  told_puts : (next : Option ℕ) (r : Result ℕ Status) (c : Course X) → NamesRight handle r
      → PutsRight handle c.going.machine.store (record { course = record { going = (put_told handle r c.going).going; sessions = c.sessions }; res = res.File (put_told handle r c.going).res })
  told_puts next (Err status) c named = inl (status, (refl, named))
  told_puts next (Ok file) c named = inr (refl, record { store_is = refl; held = refl })

  -- whatever file is named
  any_puts : (file : ℕ) (c : Course X)
      → PutsRight handle c.going.machine.store (record { course = record { going = (put_told handle (Ok file) c.going).going; sessions = c.sessions }; res = res.File (put_told handle (Ok file) c.going).res })
  any_puts file c = inr (refl, record { store_is = refl; held = refl })

  tested_puts : (saved : Bool) (next : Option ℕ) (c : Course X)
      → PutsRight handle c.going.machine.store (record { course = record { going = (put_tested saved handle c.going).going; sessions = c.sessions }; res = res.File (put_tested saved handle c.going).res })
  tested_puts true next c = any_puts 0 c
  tested_puts false next c =
      told_puts next (handle_file (length c.going.machine.store.volume.files) c.going.machine.store.tag handle) c
      (handle_right (length c.going.machine.store.volume.files) c.going.machine.store.tag handle)

  done_puts : (next : Option ℕ) (c : Course X) → PutsRight handle c.going.machine.store (file_done v choice caller carry next (args.PutFh handle) c)
  unfolding file_done put
  done_puts next c = tested_puts (is_saved_next next) next c

  refused_put : (status : Status) → refused OP_PUTFH status ≡ res.File (files.PutFh status)
  unfolding refused
  refused_put status = refl

  said_puts : (said : Gate) (next : Option ℕ) (c : Course X) → FailsGate said
      → PutsRight handle c.going.machine.store (unless_refused said v choice caller carry next (File (args.PutFh handle)) c)
  said_puts (gate.Refuse status) next c failing = inl (status, (refused_put status, failing))
  said_puts gate.Serve next c failing = done_puts next c
  said_puts gate.Usual next c failing = done_puts next c

  pub performs_put : (next : Option ℕ) (c : Course X) → PutsRight handle c.going.machine.store (perform v choice caller carry next (File (args.PutFh handle)) c)
  unfolding perform
  performs_put next c =
      let said = v.gate c.going.machine.extra caller carry (Operation OP_PUTFH) in
      said_puts said.1 next (with_state said.0 c) (fails c.going.machine.extra caller carry (Operation OP_PUTFH))

-- ---- the operations in order

-- what is answered behind an operation, or that alone
abbrev went : {X : Type 0} → (ok : Bool) → Performed X → Walked X → Walked X
went ok a w = if ok then record { course = w.course; results = a.res ∷ w.results } else record { course = a.course; results = a.res ∷ [] }

-- PUTFH and the operation behind it were answered, or one result stands there at most
abbrev pub WalksRight : (Res → Type 0) → (most : ℕ) → List Res → Type 0
WalksRight answer most results =
    (length results ≤ 1) ⊎ ((third : Res) × ((more : List Res) × ((results ≡ res.File (files.PutFh statuses.OK) ∷ third ∷ more) × answer third × (length more ≤ most))))

module _ {X C : Type 0} (v : Service X C) (fails : GateFails (file_rules v)) (choice : Choice) (caller : Caller) (carry : Option C) (tail : Tail) where
  tail_few : (r : Option TailRefusal) (c : Course X) → length (at_tail r c).results ≤ 1
  tail_few None c = omega arith
  tail_few (Some r) c = omega arith

  went_few : (ok : Bool) (a : Performed X) (w : Walked X) (n : ℕ) → length w.results ≤ n → length (went ok a w).results ≤ n + 1
  went_few true a w n few = omega (arith, few)
  went_few false a w n few = omega arith

  walk_few : (ops : List Op) (c : Course X) → length (walk v choice caller carry tail ops c).results ≤ length ops + 1
  unfolding walk
  walk_few [] c = omega (arith, tail_few (tail_refusal tail) c)
  walk_few (op ∷ ops) c =
      let a = perform v choice caller carry (next_number ops) op c in
      let w = walk v choice caller carry tail ops a.course in
      omega (arith, went_few ((res_status a.res).number == 0) a w (length ops + 1) (walk_few ops a.course))

  module _ (handle : List ℕ) (op : Op) (rest : List Op) (answer : Res → Type 0) (store : Store)
      (answers : (next : Option ℕ) (d : Course X) → HasPut handle store d.going → answer (perform v choice caller carry next op d).res) where
    abbrev Walks : Walked X → Type 0
    Walks w = WalksRight answer (length rest + 1) w.results

    second_walks : (ok : Bool) (a : Performed X) (w : Walked X) → a.res ≡ res.File (files.PutFh statuses.OK)
        → (third : Performed X) → answer third.res → (more : Walked X) → length more.results ≤ length rest + 1 → (on : Bool) → w ≡ went on third more
        → ok ≡ true → Walks (went ok a w)
    second_walks true a w is third said more few true same went_on =
        inr (third.res, (more.results, (ap (λ (r : Res). r ∷ w.results) is ∙ ap (λ (x : Walked X). res.File (files.PutFh statuses.OK) ∷ x.results) same, said, few)))
    second_walks true a w is third said more few false same went_on =
        inr (third.res, ([], (ap (λ (r : Res). r ∷ w.results) is ∙ ap (λ (x : Walked X). res.File (files.PutFh statuses.OK) ∷ x.results) same, said, omega arith)))
    second_walks false a w is third said more few on same wrong = absurd cc

    first_fails : (ok : Bool) (a : Performed X) (w : Walked X) → ok ≡ false → Walks (went ok a w)
    first_fails true a w wrong = absurd cc
    first_fails false a w failed = inl (omega arith)

    walked : (next : Option ℕ) (c : Course X) (a : Performed X) → c.going.machine.store ≡ store → PutsRight handle c.going.machine.store a
        → Walks (went ((res_status a.res).number == 0) a (walk v choice caller carry tail (op ∷ rest) a.course))
    unfolding walk
    walked next c a same (inl refusal) =
        let w = walk v choice caller carry tail (op ∷ rest) a.course in
        first_fails ((res_status a.res).number == 0) a w
        (ap (λ (r : Res). (res_status r).number == 0) refusal.1.0 ∙ ne_eqb refusal.0.number 0 refusal.1.1.1)
    walked next c a same (inr put_so) =
        let w = walk v choice caller carry tail (op ∷ rest) a.course in
        let third = perform v choice caller carry (next_number rest) op a.course in
        let more = walk v choice caller carry tail rest third.course in
        second_walks ((res_status a.res).number == 0) a w put_so.0 third
        (answers (next_number rest) a.course (record { store_is = put_so.1.store_is ∙ same; held = put_so.1.held })) more (walk_few rest third.course)
        ((res_status third.res).number == 0) refl (ap (λ (r : Res). (res_status r).number == 0) put_so.0)

    pub walks_right : (c : Course X) → c.going.machine.store ≡ store → Walks (walk v choice caller carry tail (File (args.PutFh handle) ∷ op ∷ rest) c)
    unfolding walk
    walks_right c same =
        let next = next_number (op ∷ rest) in
        let a = perform v choice caller carry next (File (args.PutFh handle)) c in
        walked next c a same (performs_put v fails choice caller carry handle next c)
