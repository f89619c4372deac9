-- How far what a server adds goes in each of its own rules, and how many operations are read of a compound.
use Rattle.std.proofs.Common.{◌≡◌, ℕ, zero, suc, ◌+◌, ◌≤◌, Bool, true, false, List, [], ◌∷◌, length, Option, Result, Ok, Err, subst, arith}
use Rattle.std.specs.Prelude.{◌==◌, ◌++◌, if◌then◌else◌}
use Rattle.copy_ops.specs.declared.arg.CopyArg.{CopyArg}
use Rattle.file_server.specs.Machine.{Going}
use Rattle.file_server.specs.declared.extension.Ask.{Ask}
use Rattle.file_server.specs.declared.extension.Caller.{Caller}
use Rattle.nfs_compound.specs.Body.{after_one, body_at, one_at, with_front}
use Rattle.nfs_compound.specs.Compounds.{compound_at, compound_head, compound_of}
use Rattle.nfs_compound.specs.Ops.{op_arg, op_class, op_is_cut}
use Rattle.nfs_compound.specs.declared.compound.Compound.{Compound}
use Rattle.nfs_compound.specs.declared.op.Op.{Op}
use Rattle.nfs_compound.specs.declared.tail.Tail.{Tail}
use Rattle.nfs_compound.specs.declared.tail.Tail.TheVariants.{Whole}
use Rattle.server_volume.specs.Choices.{Choice}
use Rattle.wire_xdr.specs.All.{start}
use Rattle.wire_xdr.specs.Cursor.{Cursor, ◌>>=◌}
use Rattle.wire_xdr.specs.StepLaws.{bind_ok, ok_is}
use Rattle.compound_server.specs.Course.{Service}
use Rattle.compound_server.specs.State.{Parting}
use Rattle.compound_server.specs.declared.client_end.ClientEnd.{ClientEnd}
use Rattle.session_server.specs.Host.{Rules}
use Rattle.own_laws.specs.Following.{Follows, GivesOne}

-- It goes one step in an operation of its own, and none in its other rules; steps add up.
pub record Grows {X C : Type 0} (goes : ℕ → X → X → Type 0) (service : Service X C) (parting : Parting X) (silenced : X → X) : Type 0 where
  pub same : (n : ℕ) (x : X) → goes n x x
  pub joins : (m n : ℕ) (x y z : X) → goes m x y → goes n y z → goes (m + n) x z
  pub more : (m n : ℕ) (x y : X) → m ≤ n → goes m x y → goes n x y
  pub gate : (x : X) (caller : Caller) (carry : Option C) (ask : Ask) → goes 0 x (service.gate x caller carry ask).0
  pub serve : (choice : Choice) (caller : Caller) (carry : Option C) (op : CopyArg) (g : Going X)
      → goes 1 g.machine.extra (service.serve choice caller carry op g).going.machine.extra
  pub leave : (client : ℕ) (why : ClientEnd) (x : X) → goes 0 x (parting.leave client why x)
  pub lapse : (second : ℕ) (x : X) → goes 0 x (parting.lapse second x)
  pub silent : (x : X) → goes 0 x (silenced x)

-- along a relation however far
pub however_far : {X C : Type 0} (goes : X → X → Type 0) (service : Service X C) (parting : Parting X) (silenced : X → X) → Follows goes service parting silenced
    → Grows (λ n. goes) service parting silenced
however_far goes service parting silenced f = record {
  same = λ n x. f.same x;
  joins = λ m n x y z. f.joins x y z;
  more = λ m n x y le gone. gone;
  gate = f.gate;
  serve = f.serve;
  leave = f.leave;
  lapse = f.lapse;
  silent = f.silent;
}

abbrev pub Counts : {X : Type 0} → (X → ℕ) → ℕ → X → X → Type 0
Counts given n x y = given y ≤ given x + n

pub counted : {X C : Type 0} (given : X → ℕ) (rules : Rules X C) → GivesOne given rules → Grows (Counts given) rules.service rules.parting rules.silent
counted given rules f = record {
  same = λ n x. omega arith;
  joins = λ m n x y z first second. omega (arith, first, second);
  more = λ m n x y le gone. omega (arith, le, gone);
  gate = λ x caller carry ask. let few = f.gate x caller carry ask in omega (arith, few);
  serve = f.serve;
  leave = λ client why x. let few = f.leave client why x in omega (arith, few);
  lapse = λ second x. let few = f.lapse second x in omega (arith, few);
  silent = λ x. let few = f.silent x in omega (arith, few);
}

-- ---- no more operations are read than are counted

module _ {A : Type 0} where
  end_few : (empty : Bool) (at : ℕ) (body : List A × Tail) → ◌≡◌ {A = Result (List A × Tail) ℕ} (if empty then Ok ([], Whole) else Err at) (Ok body) → length body.0 ≤ 0
  end_few true at body is = subst (λ (b : List A × Tail). length b.0 ≤ 0) (ok_is {E = ℕ} ([], Whole) body is) (omega arith)
  end_few false at body is = absurd cc

  front_few : (n : ℕ) (x : A) (told : Result (List A × Tail) ℕ) (body : List A × Tail) → ((b : List A × Tail) → told ≡ Ok b → length b.0 ≤ n)
      → with_front (x ∷ []) told ≡ Ok body → length body.0 ≤ suc n
  front_few n x told body few is =
      let h = bind_ok told (λ (b : List A × Tail). Ok ((x ∷ []) ++ b.0, b.1)) body is in
      let below = few h.0 h.1 in
      subst (λ (b : List A × Tail). length b.0 ≤ suc n) (ok_is {E = ℕ} ((x ∷ []) ++ h.0.0, h.0.1) body h.2) (omega (arith, below))

  cut_few : (n : ℕ) (cut : Bool) (x : A) (told : Result (List A × Tail) ℕ) (body : List A × Tail) → ((b : List A × Tail) → told ≡ Ok b → length b.0 ≤ n)
      → ◌≡◌ {A = Result (List A × Tail) ℕ} (if cut then Ok (x ∷ [], Whole) else with_front (x ∷ []) told) (Ok body) → length body.0 ≤ suc n
  cut_few n true x told body few is = subst (λ (b : List A × Tail). length b.0 ≤ suc n) (ok_is {E = ℕ} (x ∷ [], Whole) body is) (omega arith)
  cut_few n false x told body few is = front_few n x told body few is

  after_few : (n : ℕ) (is_cut : A → Bool) (more : Cursor → Result (List A × Tail) ℕ) (r : Result (A × Cursor) Tail) (body : List A × Tail)
      → ((d : Cursor) (b : List A × Tail) → more d ≡ Ok b → length b.0 ≤ n) → after_one is_cut more r ≡ Ok body → length body.0 ≤ suc n
  after_few n is_cut more (Ok x) body few is = cut_few n (is_cut x.0) x.0 (more x.1) body (few x.1) is
  after_few n is_cut more (Err tail) body few is = subst (λ (b : List A × Tail). length b.0 ≤ suc n) (ok_is {E = ℕ} ([], tail) body is) (omega arith)

  body_few : (one : ℕ → Cursor → Result (A × Cursor) Tail) (is_cut : A → Bool) (n place : ℕ) (c : Cursor) (body : List A × Tail)
      → body_at one is_cut n place c ≡ Ok body → length body.0 ≤ n
  unfolding body_at
  body_few one is_cut zero place c body is = end_few (length c.rest == 0) c.at body is
  body_few one is_cut (suc n) place c body is =
      after_few n is_cut (λ d. body_at one is_cut n (place + 1) d) (one place c) body (λ d b. body_few one is_cut n (place + 1) d b) is

made : (List ℕ × (ℕ × ℕ)) → List Op × Tail → Compound
made head body = record { tag = head.0; minor = head.1.0; count = head.1.1; ops = body.0; tail = body.1 }

pub few_read : (bytes : List ℕ) (c : Compound) → compound_of bytes ≡ Ok c → length c.ops ≤ c.count
unfolding compound_at made
few_read bytes c is =
    let one = one_at op_class op_arg in
    let h = bind_ok (compound_head.read (start bytes)) (λ head. body_at one op_is_cut head.0.1.1 0 head.1 >>= λ body. Ok (made head.0 body)) c is in
    let body = bind_ok (body_at one op_is_cut h.0.0.1.1 0 h.0.1) (λ body. Ok (made h.0.0 body)) c h.2 in
    subst (λ (x : Compound). length x.ops ≤ x.count) (ok_is {E = ℕ} (made h.0.0 body.0) c body.2)
    (body_few one op_is_cut h.0.0.1.1 0 h.0.1 body.0 body.1)
