-- A COMPOUND changes a store by calls alone.
use Rattle.std.proofs.Common.{◌≡◌, ℕ, Bool, true, false, List, [], ◌∷◌, ◌++◌, Option, refl}
use Rattle.std.specs.Prelude.{◌==◌, nat_lt}
use Rattle.file_ops.specs.declared.args.FileArg.TheVariants as args
use Rattle.file_ops.specs.declared.sessions.SequenceArgs.{SequenceArgs}
use Rattle.file_server.specs.declared.extension.Caller.{Caller}
use Rattle.nfs_base.specs.declared.limits.TheConstants.{MOST_OPERATIONS}
use Rattle.nfs_compound.specs.declared.compound.Compound.{Compound}
use Rattle.nfs_compound.specs.declared.op.Op.{Op}
use Rattle.nfs_compound.specs.declared.op.Op.TheVariants.{File}
use Rattle.nfs_compound.specs.declared.tail.Tail.{Tail}
use Rattle.server_volume.specs.Choices.{Choice}
use Rattle.server_volume.specs.Store.{Store}
use Rattle.server_volume.specs.declared.used.Used.{Used}
use Rattle.sess_slots.specs.Begins.{begin_of}
use Rattle.sess_slots.specs.declared.answers.Begin.{Begin}
use Rattle.sess_slots.specs.declared.answers.Begin.TheVariants as begin
use Rattle.nfs_compound.specs.declared.compound.TheConstants.{MINOR_VERSION}
use Rattle.compound_server.specs.declared.who.Who.{Who}
use Rattle.compound_server.specs.Compounds.{by_begin, by_first, by_minor, caller_at, on_compound, sequence, unless_many}
use Rattle.compound_server.specs.Course.{Service}
use Rattle.compound_server.specs.Performing.{perform}
use Rattle.compound_server.specs.State.{Given, Parting, State, begun, with_own}
use Rattle.commit_laws.specs.Calling.{CameByCalls}
use Rattle.commit_laws.specs.CallLaws.{by_none}
use Rattle.commit_laws.specs.Executing as executing
use Rattle.commit_laws.specs.Executing.{Executed, begun_by, executed, if_minor, in_compound, in_session}
use Rattle.commit_laws.proofs.OutsideCalls.{outside_rests}
use Rattle.commit_laws.proofs.WalkCalls.{ServesByCalls, passes, walk_runs}

-- from this store on
abbrev pub GoesTo : {X : Type 0} → Store → Given X → Type 0
GoesTo store g = CameByCalls store g.state.machine.store [] g.used

-- An operation among those that were executed: what went before it, what it did, what is executed behind it, and what
-- comes of that.
pub record Stands {X C : Type 0} (v : Service X C) (choice : Choice) (carry : Option C) (old new : Store) (used : List Used) (e : Executed X) (back : List (Executed X)) : Type 0 where
  pub caller : Caller
  pub to : CameByCalls old e.found.going.machine.store [] e.found.going.used
  pub next : Option ℕ
  pub does : e.answered ≡ perform v choice caller carry next e.op e.found
  pub more : List Op
  pub behind : executed v choice caller carry more e.answered.course ≡ back
  pub ends : CameByCalls e.answered.course.going.machine.store new e.answered.course.going.used used

abbrev pub StandsIn : {X C : Type 0} → Service X C → Choice → Option C → Store → Given X → Executed X → List (Executed X) → Type 0
StandsIn v choice carry store g e back = Stands v choice carry store g.state.machine.store g.used e back

none_among : {X : Type 0} (front : List (Executed X)) (e : Executed X) (back : List (Executed X)) → [] ≡ front ++ e ∷ back → ⊥
none_among [] e back is = absurd cc
none_among (x ∷ xs) e back is = absurd cc

module _ {X C : Type 0} (v : Service X C) (serves : ServesByCalls v) (parting : Parting X) (choice : Choice) (who : Who) (principal : List ℕ) (carry : Option C) where
  -- ---- what all of it does

  begin_goes : (answer : Begin) (tag : List ℕ) (a : SequenceArgs) (ops : List Op) (tail : Tail) (s : State X)
      → GoesTo s.machine.store (by_begin answer v choice who carry tag a ops tail s)
  begin_goes (begin.New place) tag a ops tail s = walk_runs v serves choice (caller_at who place s.sessions) carry tail ops (begun s)
  begin_goes (begin.Replay place) tag a ops tail s = by_none _ _ _ _ refl refl
  begin_goes begin.FalseRetry tag a ops tail s = by_none _ _ _ _ refl refl
  begin_goes begin.BadSession tag a ops tail s = by_none _ _ _ _ refl refl
  begin_goes begin.BadSlot tag a ops tail s = by_none _ _ _ _ refl refl
  begin_goes begin.Misordered tag a ops tail s = by_none _ _ _ _ refl refl

  sequence_goes : (tag : List ℕ) (a : SequenceArgs) (ops : List Op) (tail : Tail) (s : State X)
      → GoesTo s.machine.store (sequence v choice who carry tag a ops tail s)
  unfolding sequence
  sequence_goes tag a ops tail s = begin_goes (begin_of s.sessions a.session a.slot a.sequence who.root) tag a ops tail s

  first_goes : (tag : List ℕ) (count : ℕ) (ops : List Op) (tail : Tail) (s : State X)
      → GoesTo s.machine.store (by_first v parting choice who principal carry tag count ops tail s)
  unfolding by_first
  first_goes tag count [] tail s = by_none _ _ _ _ refl refl
  first_goes tag count (File (args.Sequence a) ∷ ops) tail s = sequence_goes tag a ops tail s
  first_goes tag count (op ∷ ops) tail s =
      let rests = outside_rests parting v who principal carry tag count op s in by_none _ _ _ _ rests.same rests.none

  many_goes : (many : Bool) (c : Compound) (s : State X) → GoesTo s.machine.store (unless_many many v parting choice who principal carry c s)
  many_goes true c s = by_none _ _ _ _ refl refl
  many_goes false c s = first_goes c.tag c.count c.ops c.tail s

  minor_goes : (minor : Bool) (c : Compound) (s : State X) → GoesTo s.machine.store (by_minor minor v parting choice who principal carry c s)
  minor_goes false c s = by_none _ _ _ _ refl refl
  minor_goes true c s = many_goes (nat_lt MOST_OPERATIONS c.count) c s

  pub compound_goes : (c : Compound) (s : State X) → GoesTo s.machine.store (on_compound v parting choice who principal carry c s)
  unfolding on_compound
  compound_goes c s = minor_goes (c.minor == MINOR_VERSION) c (with_own (parting.lapse who.second s.machine.extra) s)

  -- ---- one of the operations that it has executed

  module _ (front : List (Executed X)) (e : Executed X) (back : List (Executed X)) where
    abbrev Is : List (Executed X) → Type 0
    Is es = es ≡ front ++ e ∷ back

    begin_stands : (answer : Begin) (tag : List ℕ) (a : SequenceArgs) (ops : List Op) (tail : Tail) (s : State X) → Is (begun_by answer v choice who carry ops s)
        → StandsIn v choice carry s.machine.store (by_begin answer v choice who carry tag a ops tail s) e back
    begin_stands (begin.New place) tag a ops tail s is =
        let p = passes v serves choice (caller_at who place s.sessions) carry tail ops (begun s) front e back is in
        record { caller = caller_at who place s.sessions; to = p.to; next = p.next; does = p.does; more = p.more; behind = p.behind; ends = p.ends }
    begin_stands (begin.Replay place) tag a ops tail s is = absurd (none_among front e back is)
    begin_stands begin.FalseRetry tag a ops tail s is = absurd (none_among front e back is)
    begin_stands begin.BadSession tag a ops tail s is = absurd (none_among front e back is)
    begin_stands begin.BadSlot tag a ops tail s is = absurd (none_among front e back is)
    begin_stands begin.Misordered tag a ops tail s is = absurd (none_among front e back is)

    sequence_stands : (tag : List ℕ) (a : SequenceArgs) (ops : List Op) (tail : Tail) (s : State X)
        → Is (begun_by (begin_of s.sessions a.session a.slot a.sequence who.root) v choice who carry ops s)
        → StandsIn v choice carry s.machine.store (sequence v choice who carry tag a ops tail s) e back
    unfolding sequence
    sequence_stands tag a ops tail s is = begin_stands (begin_of s.sessions a.session a.slot a.sequence who.root) tag a ops tail s is

    first_stands : (tag : List ℕ) (count : ℕ) (ops : List Op) (tail : Tail) (s : State X) → Is (in_session v choice who carry ops s)
        → StandsIn v choice carry s.machine.store (by_first v parting choice who principal carry tag count ops tail s) e back
    unfolding by_first
    first_stands tag count [] tail s is = absurd (none_among front e back is)
    first_stands tag count (File (args.Sequence a) ∷ ops) tail s is = sequence_stands tag a ops tail s is
    first_stands tag count (op ∷ ops) tail s is = absurd (none_among front e back is)

    many_stands : (many : Bool) (c : Compound) (s : State X) → Is (executing.unless_many many (in_session v choice who carry c.ops s))
        → StandsIn v choice carry s.machine.store (unless_many many v parting choice who principal carry c s) e back
    many_stands true c s is = absurd (none_among front e back is)
    many_stands false c s is = first_stands c.tag c.count c.ops c.tail s is

    minor_stands : (minor : Bool) (c : Compound) (s : State X)
        → Is (if_minor minor (executing.unless_many (nat_lt MOST_OPERATIONS c.count) (in_session v choice who carry c.ops s)))
        → StandsIn v choice carry s.machine.store (by_minor minor v parting choice who principal carry c s) e back
    minor_stands false c s is = absurd (none_among front e back is)
    minor_stands true c s is = many_stands (nat_lt MOST_OPERATIONS c.count) c s is

    pub compound_stands : (c : Compound) (s : State X) → Is (in_compound v parting choice who carry c s)
        → StandsIn v choice carry s.machine.store (on_compound v parting choice who principal carry c s) e back
    unfolding on_compound
    compound_stands c s is = minor_stands (c.minor == MINOR_VERSION) c (with_own (parting.lapse who.second s.machine.extra) s) is
