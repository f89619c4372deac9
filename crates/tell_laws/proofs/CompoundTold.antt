-- What the reply to a COMPOUND says that isn't a retry, where PUTFH stands behind its SEQUENCE.
use Rattle.std.proofs.Common.{◌≡◌, ◌⊎◌, inl, inr, ℕ, ◌+◌, ◌≤◌, Bool, true, false, List, ◌∷◌, length, Option, refl, sym, ap, subst, ◌∙◌, arith}
use Rattle.std.specs.Prelude.{◌==◌, ◌&&◌, not, nat_lt}
use Rattle.file_ops.specs.declared.args.FileArg.TheVariants as args
use Rattle.file_ops.specs.declared.results.FileRes.TheVariants as files
use Rattle.file_ops.specs.declared.sessions.SequenceArgs.{SequenceArgs}
use Rattle.file_server.specs.declared.extension.Caller.{Caller}
use Rattle.nfs_base.specs.declared.limits.TheConstants.{MOST_OPERATIONS}
use Rattle.nfs_base.specs.declared.status.Status.{Status}
use Rattle.nfs_base.specs.declared.status.TheConstants.Status as statuses
use Rattle.nfs_compound.specs.Results.{reply}
use Rattle.nfs_compound.specs.Walk.{last_status}
use Rattle.nfs_compound.specs.declared.compound.Compound.{Compound}
use Rattle.nfs_compound.specs.declared.compound.TheConstants.{MINOR_VERSION}
use Rattle.nfs_compound.specs.declared.op.Op.{Op}
use Rattle.nfs_compound.specs.declared.op.Op.TheVariants.{File}
use Rattle.nfs_compound.specs.declared.res.Res.{Res}
use Rattle.nfs_compound.specs.declared.res.Res.TheVariants as res
use Rattle.nfs_compound.specs.declared.tail.Tail.{Tail}
use Rattle.server_volume.specs.Choices.{Choice}
use Rattle.server_volume.specs.Store.{Store}
use Rattle.sess_slots.specs.Begins.{begin_of}
use Rattle.sess_slots.specs.declared.answers.Begin.{Begin}
use Rattle.sess_slots.specs.declared.answers.Begin.TheVariants as begin
use Rattle.slot_laws.specs.Turns.{first_retries, is_replay, is_retry}
use Rattle.compound_server.specs.Compounds.{by_begin, by_first, by_minor, caller_at, on_compound, sequence, sequence_done, unless_many}
use Rattle.compound_server.specs.Course.{Course, Service}
use Rattle.compound_server.specs.Performing.{file_rules, perform}
use Rattle.compound_server.specs.State.{Given, Parting, State, begun, with_own}
use Rattle.compound_server.specs.Walking.{walk}
use Rattle.compound_server.specs.declared.who.Who.{Who}
use Rattle.tell_laws.proofs.Answers.{GateFails}
use Rattle.tell_laws.proofs.WalkTold.{HasPut, WalksRight, walks_right}

-- the results of SEQUENCE and PUTFH and the one behind them, or two at most
abbrev pub SaysRight : (Res → Type 0) → SequenceArgs → (most : ℕ) → List Res → Type 0
SaysRight answer a most results =
    (length results ≤ 2)
    ⊎ ((third : Res) × ((more : List Res) × ((results ≡ sequence_done a ∷ res.File (files.PutFh statuses.OK) ∷ third ∷ more) × answer third × (length more ≤ most))))

-- a reply with this tag, and such results
pub record IsSaid (tag : List ℕ) (says : List Res → Type 0) (body : List ℕ) : Type 0 where
  pub status : Status
  pub results : List Res
  pub is : body ≡ reply.spell (record { status = status; tag = tag; results = results })
  pub said : says results

few_said : (answer : Res → Type 0) (a : SequenceArgs) (most : ℕ) (tag : List ℕ) (status : Status) (results : List Res) → length results ≤ 2
    → IsSaid tag (SaysRight answer a most) (reply.spell (record { status = status; tag = tag; results = results }))
few_said answer a most tag status results few = record { status = status; results = results; is = refl; said = inl few }

-- SEQUENCE stands before them
behind_sequence : (answer : Res → Type 0) (a : SequenceArgs) (most : ℕ) (results : List Res) → WalksRight answer most results
    → SaysRight answer a most (sequence_done a ∷ results)
behind_sequence answer a most results (inl few) = inl (omega (arith, few))
behind_sequence answer a most results (inr w) =
    inr (w.0, (w.1.0, (ap (λ (rs : List Res). sequence_done a ∷ rs) w.1.1.0, w.1.1.1, w.1.1.2)))

module _ {X C : Type 0} (v : Service X C) (fails : GateFails (file_rules v)) (parting : Parting X) (choice : Choice) (who : Who) (principal : List ℕ) (carry : Option C)
    (tag : List ℕ) (a : SequenceArgs) (handle : List ℕ) (op : Op) (rest : List Op) (answer : Res → Type 0) (store : Store)
    (answers : (caller : Caller) (next : Option ℕ) (d : Course X) → HasPut handle store d.going → answer (perform v choice caller carry next op d).res) where
  abbrev Said : Given X → Type 0
  Said g = IsSaid tag (SaysRight answer a (length rest + 1)) g.body

  abbrev behind : List Op
  behind = File (args.PutFh handle) ∷ op ∷ rest

  begin_said : (b : Begin) (tail : Tail) (s : State X) → s.machine.store ≡ store → is_replay b ≡ false → Said (by_begin b v choice who carry tag a behind tail s)
  begin_said (begin.New place) tail s same new =
      let w = walk v choice (caller_at who place s.sessions) carry tail behind (begun s) in
      record {
        status = last_status (sequence_done a ∷ w.results);
        results = sequence_done a ∷ w.results;
        is = refl;
        said = behind_sequence answer a (length rest + 1) w.results
            (walks_right v fails choice (caller_at who place s.sessions) carry tail handle op rest answer store (answers (caller_at who place s.sessions)) (begun s) same);
      }
  begin_said (begin.Replay place) tail s same new = absurd cc
  begin_said begin.FalseRetry tail s same new = few_said answer a (length rest + 1) tag _ _ (omega arith)
  begin_said begin.BadSession tail s same new = few_said answer a (length rest + 1) tag _ _ (omega arith)
  begin_said begin.BadSlot tail s same new = few_said answer a (length rest + 1) tag _ _ (omega arith)
  begin_said begin.Misordered tail s same new = few_said answer a (length rest + 1) tag _ _ (omega arith)

  first_said : (count : ℕ) (tail : Tail) (s : State X) → s.machine.store ≡ store
      → first_retries who.root (File (args.Sequence a) ∷ behind) s.sessions ≡ false
      → Said (by_first v parting choice who principal carry tag count (File (args.Sequence a) ∷ behind) tail s)
  unfolding by_first sequence
  first_said count tail s same new = begin_said (begin_of s.sessions a.session a.slot a.sequence who.root) tail s same new

  module _ (c : Compound) (tag_is : c.tag ≡ tag) (ops_are : c.ops ≡ File (args.Sequence a) ∷ behind) where
    abbrev SaidOf : Given X → Type 0
    SaidOf g = IsSaid c.tag (SaysRight answer a (length rest + 1)) g.body

    many_said : (many : Bool) (s : State X) → s.machine.store ≡ store → (not many && first_retries who.root c.ops s.sessions) ≡ false
        → SaidOf (unless_many many v parting choice who principal carry c s)
    many_said true s same new = few_said answer a (length rest + 1) c.tag _ _ (omega arith)
    many_said false s same new =
        let here = first_said c.count c.tail s same (ap (λ (ops : List Op). first_retries who.root ops s.sessions) (sym ops_are) ∙ new) in
        let by_tag : IsSaid c.tag (SaysRight answer a (length rest + 1)) (by_first v parting choice who principal carry c.tag c.count (File (args.Sequence a) ∷ behind) c.tail s).body =
        subst (λ (t : List ℕ). IsSaid t (SaysRight answer a (length rest + 1)) (by_first v parting choice who principal carry t c.count (File (args.Sequence a) ∷ behind) c.tail s).body) (sym tag_is) here in
        subst (λ (ops : List Op). SaidOf (by_first v parting choice who principal carry c.tag c.count ops c.tail s)) (sym ops_are) by_tag

    minor_said : (minor : Bool) (s : State X) → s.machine.store ≡ store
        → (minor && (not (nat_lt MOST_OPERATIONS c.count) && first_retries who.root c.ops s.sessions)) ≡ false
        → SaidOf (by_minor minor v parting choice who principal carry c s)
    minor_said false s same new = few_said answer a (length rest + 1) c.tag _ _ (omega arith)
    minor_said true s same new = many_said (nat_lt MOST_OPERATIONS c.count) s same new

    pub compound_said : (s : State X) → s.machine.store ≡ store → is_retry who.root c s.sessions ≡ false → SaidOf (on_compound v parting choice who principal carry c s)
    unfolding on_compound
    compound_said s same new = minor_said (c.minor == MINOR_VERSION) (with_own (parting.lapse who.second s.machine.extra) s) same new
