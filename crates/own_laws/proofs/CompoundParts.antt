-- A COMPOUND goes along.
use Rattle.std.proofs.Common.{◌≡◌, ℕ, suc, ◌+◌, ◌≤◌, Bool, true, false, List, [], ◌∷◌, length, Option, refl, arith}
use Rattle.std.proofs.lemmas.Bool.{ltb-false}
use Rattle.std.specs.Prelude.{◌==◌, nat_lt}
use Rattle.file_ops.specs.declared.args.FileArg.TheVariants as args
use Rattle.file_ops.specs.declared.sessions.SequenceArgs.{SequenceArgs}
use Rattle.nfs_base.specs.declared.limits.TheConstants.{MOST_OPERATIONS}
use Rattle.nfs_compound.specs.declared.compound.Compound.{Compound}
use Rattle.nfs_compound.specs.declared.compound.TheConstants.{MINOR_VERSION}
use Rattle.nfs_compound.specs.declared.op.Op.{Op}
use Rattle.nfs_compound.specs.declared.op.Op.TheVariants.{File}
use Rattle.nfs_compound.specs.declared.tail.Tail.{Tail}
use Rattle.server_volume.specs.Choices.{Choice}
use Rattle.sess_slots.specs.Begins.{begin_of}
use Rattle.sess_slots.specs.declared.answers.Begin.{Begin}
use Rattle.sess_slots.specs.declared.answers.Begin.TheVariants as begin
use Rattle.compound_server.specs.declared.who.Who.{Who}
use Rattle.compound_server.specs.Compounds.{by_begin, by_first, by_minor, caller_at, on_compound, sequence, unless_many}
use Rattle.compound_server.specs.Course.{Service}
use Rattle.compound_server.specs.State.{Given, Parting, State, begun, with_own}
use Rattle.own_laws.proofs.Grows.{Grows}
use Rattle.own_laws.proofs.OutsideParts.{outside_goes}
use Rattle.own_laws.proofs.WalkParts.{walk_goes}

module _ {X C : Type 0} (goes : ℕ → X → X → Type 0) (v : Service X C) (parting : Parting X) (silent : X → X) (f : Grows goes v parting silent)
    (choice : Choice) (who : Who) (principal : List ℕ) (carry : Option C) where
  abbrev GoesTo : ℕ → State X → Given X → Type 0
  GoesTo n s g = goes n s.machine.extra g.state.machine.extra

  begin_goes : (answer : Begin) (tag : List ℕ) (a : SequenceArgs) (ops : List Op) (tail : Tail) (s : State X)
      → GoesTo (length ops) s (by_begin answer v choice who carry tag a ops tail s)
  begin_goes (begin.New place) tag a ops tail s = walk_goes goes v parting silent f choice (caller_at who place s.sessions) carry tail ops (begun s)
  begin_goes (begin.Replay place) tag a ops tail s = f.same (length ops) s.machine.extra
  begin_goes begin.FalseRetry tag a ops tail s = f.same (length ops) s.machine.extra
  begin_goes begin.BadSession tag a ops tail s = f.same (length ops) s.machine.extra
  begin_goes begin.BadSlot tag a ops tail s = f.same (length ops) s.machine.extra
  begin_goes begin.Misordered tag a ops tail s = f.same (length ops) s.machine.extra

  sequence_goes : (tag : List ℕ) (a : SequenceArgs) (ops : List Op) (tail : Tail) (s : State X) → GoesTo (length ops) s (sequence v choice who carry tag a ops tail s)
  unfolding sequence
  sequence_goes tag a ops tail s = begin_goes (begin_of s.sessions a.session a.slot a.sequence who.root) tag a ops tail s

  first_goes : (tag : List ℕ) (count : ℕ) (ops : List Op) (tail : Tail) (s : State X)
      → GoesTo (length ops) s (by_first v parting choice who principal carry tag count ops tail s)
  unfolding by_first
  first_goes tag count [] tail s = f.same 0 s.machine.extra
  first_goes tag count (File (args.Sequence a) ∷ ops) tail s = f.more (length ops) (suc (length ops)) _ _ (omega arith) (sequence_goes tag a ops tail s)
  first_goes tag count (op ∷ ops) tail s =
      f.more 0 (suc (length ops)) _ _ (omega arith) (outside_goes goes v parting silent f who principal carry tag count op s)

  many_goes : (many : Bool) (c : Compound) (s : State X) → length c.ops ≤ c.count → nat_lt MOST_OPERATIONS c.count ≡ many
      → GoesTo MOST_OPERATIONS s (unless_many many v parting choice who principal carry c s)
  many_goes true c s few is = f.same MOST_OPERATIONS s.machine.extra
  many_goes false c s few is =
      let most = ltb-false MOST_OPERATIONS c.count is in
      f.more (length c.ops) MOST_OPERATIONS _ _ (omega (arith, few, most)) (first_goes c.tag c.count c.ops c.tail s)

  minor_goes : (minor : Bool) (c : Compound) (s : State X) → length c.ops ≤ c.count
      → GoesTo MOST_OPERATIONS s (by_minor minor v parting choice who principal carry c s)
  minor_goes false c s few = f.same MOST_OPERATIONS s.machine.extra
  minor_goes true c s few = many_goes (nat_lt MOST_OPERATIONS c.count) c s few refl

  pub compound_goes : (c : Compound) (s : State X) → length c.ops ≤ c.count → GoesTo MOST_OPERATIONS s (on_compound v parting choice who principal carry c s)
  unfolding on_compound
  compound_goes c s few =
      f.more (0 + MOST_OPERATIONS) MOST_OPERATIONS _ _ (omega arith)
      (f.joins 0 MOST_OPERATIONS _ _ _ (f.lapse who.second s.machine.extra)
      (minor_goes (c.minor == MINOR_VERSION) c (with_own (parting.lapse who.second s.machine.extra) s) few))
