-- Disks over several steps: their counts of faults add up.
use Rattle.std.proofs.Common.{◌≡◌, ℕ, ◌+◌, ◌≤◌, Bool, true, false, Option, List, [], ◌∷◌, ◌++◌, map, refl, sym, ap, ◌∙◌, subst, arith}
use Rattle.std.proofs.lemmas.List.{map-append}
use Rattle.std.proofs.lemmas.List.Sums.{sum_by-append}
use Rattle.std.specs.Prelude.{◌||◌, cond, if◌then◌else◌}
use Rattle.outcome.specs.Causes.{Rose, RoseBy}
use Rattle.nfs_base.specs.declared.side.Side.{Side}
use Rattle.nfs_base.specs.declared.side.Side.TheVariants.{Source, Dest}
use Rattle.wire_machine.specs.declared.choice.Choice.{Choice}
use Rattle.wire_machine.specs.declared.choice.Choice.TheVariants.{Went, Failed}
use Rattle.wire_run.specs.Running.{AreBlamed, Later, either, failed_at, failed_calls, failed_steps, faults_in, has_failed_at, is_failed, peek_failed}
use Rattle.run_ends.specs.Ends.{RunStep}
use Rattle.wire_run.specs.Stage.{bit}

rose_sum : (n m a b c : ℕ) → RoseBy n a b → RoseBy m b c → RoseBy (n + m) a c
rose_sum n m a b c p q = omega (arith, p, q)

pub rose_behind : (a b c : ℕ) → RoseBy 0 a b → Rose b c → Rose a c
rose_behind a b c p q = omega (arith, p, q)

pub later_same : {D : Type 0} (faults size : D → ℕ) (d : Option D) → Later faults size 0 d d
later_same faults size d = record { there = refl; rose = omega arith; as_large = refl }

pub later_join : {D : Type 0} (faults size : D → ℕ) (n m : ℕ) (a b c : Option D) → Later faults size n a b → Later faults size m b c
    → Later faults size (n + m) a c
later_join faults size n m a b c first second = record {
  there = second.there ∙ first.there;
  rose = rose_sum n m (faults_in faults a) (faults_in faults b) (faults_in faults c) first.rose second.rose;
  as_large = second.as_large ∙ first.as_large;
}

failed_join : {M : Type 0} (side : Side) (steps more : List (RunStep M)) → failed_calls side (steps ++ more) ≡ failed_calls side steps + failed_calls side more
failed_join {M = M} side steps more =
    sum_by-append (λ (s : RunStep M). cond (either (failed_at side s) (peek_failed side s.event s.choice)) 1 0) steps more

-- ---- each small step in which a call failed is one at a disk

counted_one : (b : Bool) → bit b ≡ 0 + cond b 1 0
counted_one true = refl
counted_one false = refl

-- how often one small step failed at a server
pub failed_one : {M : Type 0} (side : Side) (s : RunStep M) → bit (has_failed_at side s) ≡ failed_calls side (s ∷ [])
failed_one side s = counted_one (has_failed_at side s)

pub blamed_none : (M : Type 0) → AreBlamed {M = M} []
blamed_none M = none
  where
    none : 0 ≤ 0 + 0
    none = omega arith

sum_le : (x y a b c d e f g : ℕ) → x ≤ a + b → y ≤ c + d → e ≡ x + y → f ≡ a + c → g ≡ b + d → e ≤ f + g
sum_le x y a b c d e f g p q r s t = omega (arith, p, q, r, s, t)

same_le : (x a b y c d : ℕ) → x ≡ y → a ≡ c → b ≡ d → x ≤ a + b → y ≤ c + d
same_le x a b y c d p q r le = omega (arith, p, q, r, le)

steps_join : {M : Type 0} (steps more : List (RunStep M)) → failed_steps (map (λ (s : RunStep M). s.choice) (steps ++ more))
    ≡ failed_steps (map (λ (s : RunStep M). s.choice) steps) + failed_steps (map (λ (s : RunStep M). s.choice) more)
steps_join {M = M} steps more =
    ap (λ (cs : List Choice). failed_steps cs) (map-append (λ (s : RunStep M). s.choice) steps more)
    ∙ sum_by-append (λ (c : Choice). cond (is_failed c) 1 0) (map (λ (s : RunStep M). s.choice) steps) (map (λ (s : RunStep M). s.choice) more)

pub blamed_join : {M : Type 0} (steps more : List (RunStep M)) → AreBlamed steps → AreBlamed more → AreBlamed (steps ++ more)
blamed_join steps more first second =
    sum_le _ _ _ _ _ _ _ _ _ first second (steps_join steps more) (failed_join Source steps more) (failed_join Dest steps more)

pub blamed_one : {M : Type 0} (s : RunStep M) → bit (is_failed s.choice) ≤ bit (has_failed_at Source s) + bit (has_failed_at Dest s) → AreBlamed (s ∷ [])
blamed_one s le = same_le _ _ _ _ _ _ (counted_one (is_failed s.choice)) (failed_one Source s) (failed_one Dest s) le

-- no call failed
pub blamed_none_failed : {M : Type 0} (s : RunStep M) → is_failed s.choice ≡ false → AreBlamed (s ∷ [])
blamed_none_failed s went = blamed_one s (none_le (bit (has_failed_at Source s)) (bit (has_failed_at Dest s)) (is_failed s.choice) went)
  where
    none_le : (a b : ℕ) (failed : Bool) → failed ≡ false → bit failed ≤ a + b
    none_le a b true went = absurd (cc)
    none_le a b false went = omega arith

-- a call at either server
pub bits_either : (a b p q : Bool) → bit (is_failed (if a || b then Failed else Went)) ≤ bit (either a p) + bit (either b q)
bits_either true b p q = more (bit (either b q))
  where
    more : (n : ℕ) → 1 ≤ 1 + n
    more n = omega arith
bits_either false true p q = more (bit p)
  where
    more : (n : ℕ) → 1 ≤ n + 1
    more n = omega arith
bits_either false false p q = more (bit p + bit q)
  where
    more : (n : ℕ) → 0 ≤ n
    more n = omega arith

-- ---- with the small steps of one more event

pub later_more : {D M : Type 0} (faults size : D → ℕ) (side : Side) (steps more : List (RunStep M)) (a b c : Option D)
    → Later faults size (failed_calls side steps) a b → Later faults size (failed_calls side more) b c
    → Later faults size (failed_calls side (steps ++ more)) a c
later_more faults size side steps more a b c first second =
    subst (λ (n : ℕ). Later faults size n a c) (sym (failed_join side steps more))
    (later_join faults size (failed_calls side steps) (failed_calls side more) a b c first second)
