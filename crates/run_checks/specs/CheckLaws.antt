-- A run of any three machines in which no small step takes a record by mistake passes the check that a wire's laws ask: at each
-- moment all records of its list were sent as they are listed. Past its last small step the run rests.
use Rattle.std.proofs.Common.{◌≡◌, ℕ, zero, suc, ◌+◌, Bool, true, false, List, [], ◌∷◌, map, slice_get, Option, None, Some, refl, sym, ap, subst, ◌∙◌, arith}
use Rattle.std.proofs.lemmas.Option.{same_Some}
use Rattle.std.specs.Option.{option_or}
use Rattle.nfs_base.specs.declared.seal.End.{End}
use Rattle.nfs_base.specs.declared.seal.End.TheVariants.{Source, Dest, Client}
use Rattle.nfs_base.specs.declared.seal.Seal.{Seal}
use Rattle.nfs_base.specs.declared.side.Side.TheVariants as sides
use Rattle.volume_stops.specs.declared.kept.Kept.{Kept}
use Rattle.wire_model.specs.Check.{IsUnmistaken}
use Rattle.wire_model.specs.Meaning.{Meaning}
use Rattle.wire_model.specs.Spelling.{Spelling}
use Rattle.wire_model.specs.Wire.{Acts}
use Rattle.wire_machine.specs.Check.{Reading, is_right, mistake, mistake_in, mistake_of, mistake_unless, seal_of}
use Rattle.wire_machine.specs.Ends.{Machines}
use Rattle.wire_machine.specs.History.{At, Telling, acts_at, acts_in, acts_of, at_moment, next, sent_of, step_acts, told_unless}
use Rattle.wire_machine.specs.Steps.{AreSteps, IsStep, Step, cut_of}
use Rattle.wire_machine.specs.World.{Parts, Posted, World, opening_of}
use Rattle.run_checks.specs.Growing.{AreActs, all_later, all_sent, counts_one, made_behind, part_of}
use Rattle.run_checks.specs.Listed.{Passes, WereSent, reading_of}
use Rattle.run_checks.specs.Right.{right_by}

-- ---- a server that stopped took, accepted and sent what it did

took_unless : (o : Option Kept) (a : Acts) → (told_unless o a).took ≡ a.took
took_unless None a = refl
took_unless (Some kept) a = refl

accepted_unless : (o : Option Kept) (a : Acts) → (told_unless o a).accepted ≡ a.accepted
accepted_unless None a = refl
accepted_unless (Some kept) a = refl

out_unless : (o : Option Kept) (a : Acts) → (told_unless o a).out ≡ a.out
out_unless None a = refl
out_unless (Some kept) a = refl

-- no small step takes a record by mistake
abbrev pub AreRight : {S T C W : Type 0} → Machines S T C W → Reading → World S T C W → List (Step S T C W) → Type 0
AreRight m read before [] = Unit {0}
AreRight m read before (s ∷ steps) = (mistake m read before s.parts ≡ None) × AreRight m read s.after steps

-- ---- an end that isn't mistaken

neither : {X : Type 0} (a b : Option X) → option_or a b ≡ None → (a ≡ None) × (b ≡ None)
neither None b is = (refl, is)
neither (Some x) b is = absurd (cc)

unless : (right : Bool) (seal : Seal) (sealed : Option Seal) → mistake_unless right seal sealed ≡ None → right ≡ true
unless true seal sealed is = refl
unless false seal sealed is = absurd (cc)

accepts_right : (read : Reading) (log : List Posted) (e : End) (opening : ℕ) (accepted : Option Seal) (took : Option (List ℕ)) (seal : Seal) (bytes : List ℕ)
    → mistake_in read log e opening accepted took ≡ None → accepted ≡ Some seal → took ≡ Some bytes → is_right read log e opening seal bytes ≡ true
accepts_right read log e opening accepted took seal bytes none accepted_is took_is =
    unless (is_right read log e opening seal bytes) seal (seal_of log bytes)
    (subst (λ t. mistake_in read log e opening (Some seal) t ≡ None) took_is (subst (λ a. mistake_in read log e opening a took ≡ None) accepted_is none))

module _ {S T C W : Type 0} (m : Machines S T C W) (read : Reading) where
  none_mistaken : (before : World S T C W) (parts : Parts) → mistake m read before parts ≡ None → (e : End) → mistake_of m read e before (part_of m parts e) ≡ None
  none_mistaken before parts none Source = (neither (mistake_of m read Source before parts.source) _ none).0
  none_mistaken before parts none Dest =
      (neither (mistake_of m read Dest before parts.dest) _ (neither (mistake_of m read Source before parts.source) _ none).1).0
  none_mistaken before parts none Client =
      (neither (mistake_of m read Dest before parts.dest) _ (neither (mistake_of m read Source before parts.source) _ none).1).1

  -- ---- one small step of a run

  record IsDone (before : World S T C W) (number : ℕ) (s : Step S T C W) : Type 0 where
    step : IsStep m before s
    right : mistake m read before s.parts ≡ None
    count : before.steps ≡ number

-- ---- moments

module _ {S T C W : Type 0} (m : Machines S T C W) (tell : Telling S T) (spell : Spelling) (meaning : Meaning) where
  -- what there is at a moment, and in which opening an end is then
  abbrev pub world_at : World S T C W → List (Step S T C W) → ℕ → World S T C W
  world_at first steps k = (at_moment m tell spell meaning first steps k).world

  abbrev pub opening_at : World S T C W → List (Step S T C W) → End → ℕ → ℕ
  opening_at first steps e k = opening_of m e (world_at first steps k)

  next_same : (a b : At m tell spell meaning) (o : Option (Step S T C W)) → a.world ≡ b.world
      → (next m tell spell meaning a o).world ≡ (next m tell spell meaning b o).world
  next_same a b None same = same
  next_same a b (Some s) same = refl

  moment_later : (first : World S T C W) (s : Step S T C W) (steps : List (Step S T C W)) (k : ℕ) → world_at first (s ∷ steps) (suc k) ≡ world_at s.after steps k
  moment_later first s steps zero = refl
  moment_later first s steps (suc k) =
      next_same (at_moment m tell spell meaning first (s ∷ steps) (suc k)) (at_moment m tell spell meaning s.after steps k) (slice_get steps k) (moment_later first s steps k)

  done_at : (first : World S T C W) (steps : List (Step S T C W)) (k number : ℕ) (s : Step S T C W) → AreSteps m first steps → AreRight m (reading_of spell) first steps
      → first.steps ≡ number → slice_get steps k ≡ Some s → IsDone m (reading_of spell) (world_at first steps k) (number + k) s
  done_at first [] k number s are right count is = absurd (cc)
  done_at first (x ∷ steps) zero number s are right count is =
      subst (IsDone m (reading_of spell) first (number + 0)) (same_Some x s is) (record { step = are.0; right = right.0; count = count ∙ omega arith })
  done_at first (x ∷ steps) (suc k) number s are right count is =
      let one = counts_one m first x.parts x.after (made_behind m x.choice x.event first x.parts x.after are.0.small) in
      let sum : number + 1 + k ≡ number + suc k = omega arith in
      subst (λ w. IsDone m (reading_of spell) w (number + suc k) s) (sym (moment_later first x steps k))
      (subst (λ n. IsDone m (reading_of spell) (world_at x.after steps k) n s) sum
      (done_at x.after steps k (number + 1) s are.1 right.1 (one ∙ ap (λ n. n + 1) count) is))

  -- ---- the acts of a step

  took_in : (before : World S T C W) (s : Step S T C W) (e : End) → (step_acts tell before s e).took ≡ (part_of m s.parts e).took
  took_in before s Source = took_unless (cut_of sides.Source before s) (acts_in tell before s.parts s.after Source)
  took_in before s Dest = took_unless (cut_of sides.Dest before s) (acts_in tell before s.parts s.after Dest)
  took_in before s Client = refl

  accepted_in : (before : World S T C W) (s : Step S T C W) (e : End) → (step_acts tell before s e).accepted ≡ (part_of m s.parts e).out.accepted
  accepted_in before s Source = accepted_unless (cut_of sides.Source before s) (acts_in tell before s.parts s.after Source)
  accepted_in before s Dest = accepted_unless (cut_of sides.Dest before s) (acts_in tell before s.parts s.after Dest)
  accepted_in before s Client = refl

  out_in : (before : World S T C W) (s : Step S T C W) (e : End) → (step_acts tell before s e).out ≡ map sent_of (part_of m s.parts e).out.sent
  out_in before s Source = out_unless (cut_of sides.Source before s) (acts_in tell before s.parts s.after Source)
  out_in before s Dest = out_unless (cut_of sides.Dest before s) (acts_in tell before s.parts s.after Dest)
  out_in before s Client = refl

  none_taken : (before : World S T C W) (e : End) → (acts_of m tell spell meaning before None e).took ≡ None
  none_taken before Source = refl
  none_taken before Dest = refl
  none_taken before Client = refl

  -- ---- a run

  module _ (first : World S T C W) (steps : List (Step S T C W)) (empty : first.log ≡ []) (none : first.steps ≡ 0)
      (are : AreSteps m first steps) (right : AreRight m (reading_of spell) first steps) where
    abbrev acts : End → ℕ → Acts
    acts = acts_at m tell spell meaning first steps

    abbrev boot : End → ℕ → ℕ
    boot = opening_at first steps

    acts_done : (k : ℕ) (o : Option (Step S T C W)) → slice_get steps k ≡ o → (e : End) → acts e k ≡ acts_of m tell spell meaning (world_at first steps k) o e
    acts_done k o is e = ap (λ o. acts_of m tell spell meaning (world_at first steps k) o e) is

    next_done : (k : ℕ) (o : Option (Step S T C W)) → slice_get steps k ≡ o
        → world_at first steps (suc k) ≡ (next m tell spell meaning (at_moment m tell spell meaning first steps k) o).world
    next_done k o is = ap (λ o. (next m tell spell meaning (at_moment m tell spell meaning first steps k) o).world) is

    done : (k : ℕ) (s : Step S T C W) → slice_get steps k ≡ Some s → IsDone m (reading_of spell) (world_at first steps k) k s
    done k s is = subst (λ n. IsDone m (reading_of spell) (world_at first steps k) n s) (omega arith) (done_at first steps k 0 s are right none is)

    acts_are : (k : ℕ) (s : Step S T C W) → slice_get steps k ≡ Some s → AreActs m acts boot k s.parts s.after
    acts_are k s is =
        let before = world_at first steps k in
        record {
          took = λ e. ap (λ (a : Acts). a.took) (acts_done k (Some s) is e) ∙ took_in before s e;
          out = λ e. ap (λ (a : Acts). a.out) (acts_done k (Some s) is e) ∙ out_in before s e;
          opening = λ e. ap (opening_of m e) (next_done k (Some s) is);
        }

    sent_next : (k : ℕ) (o : Option (Step S T C W)) → slice_get steps k ≡ o → WereSent acts boot k (world_at first steps k).log
        → WereSent acts boot (suc k) (world_at first steps (suc k)).log
    sent_next k None is were =
        subst (λ (w : World S T C W). WereSent acts boot (suc k) w.log) (sym (next_done k None is)) (all_later acts boot k (world_at first steps k).log were)
    sent_next k (Some s) is were =
        let before = world_at first steps k in
        let d = done k s is in
        subst (λ (w : World S T C W). WereSent acts boot (suc k) w.log) (sym (next_done k (Some s) is))
        (all_sent m acts boot k before s.parts s.after (made_behind m s.choice s.event before s.parts s.after d.step.small) d.count (acts_are k s is) were)

    -- at each moment all records of the list were sent as they are listed
    pub were_sent : (k : ℕ) → WereSent acts boot k (world_at first steps k).log
    were_sent zero = subst (WereSent acts boot 0) (sym empty) tt
    were_sent (suc k) = sent_next k (slice_get steps k) refl (were_sent k)

    passes_by : (k : ℕ) (o : Option (Step S T C W)) → slice_get steps k ≡ o → (e : End) → Passes spell acts boot k e (world_at first steps k).log
    passes_by k None is e =
        λ seal bytes accepted took.
        let rests = ap (λ (a : Acts). a.took) (acts_done k None is e) ∙ none_taken (world_at first steps k) e in
        absurd (cc)
    passes_by k (Some s) is e =
        λ seal bytes accepted took.
        let before = world_at first steps k in
        let same = acts_done k (Some s) is e in
        let part = part_of m s.parts e in
        accepts_right (reading_of spell) before.log e (opening_of m e before) part.out.accepted part.took seal bytes
        (none_mistaken m (reading_of spell) before s.parts (done k s is).right e)
        (sym (ap (λ (a : Acts). a.accepted) same ∙ accepted_in before s e) ∙ accepted)
        (sym (ap (λ (a : Acts). a.took) same ∙ took_in before s e) ∙ took)

    -- no end is mistaken in any step
    pub unmistaken : IsUnmistaken spell acts boot
    unmistaken k e = right_by spell acts boot k e (world_at first steps k).log (were_sent k) (passes_by k (slice_get steps k) refl e)
