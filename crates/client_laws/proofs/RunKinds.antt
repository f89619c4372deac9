-- Kinds of runs of a mount's steps, by what goes out in them and what is lost, and how they follow one another.
use Rattle.std.proofs.Common.{◌≡◌, ◌∙◌, ℕ, ◌+◌, ◌≤◌, Bool, true, false, List, [], ◌∷◌, ◌++◌, refl, sym, ap, subst, inl, inr, arith}
use Rattle.std.specs.Prelude.{◌&&◌, not}
use Rattle.std.specs.List.{AllByRecursion}
use Rattle.std.proofs.lemmas.Bool.{and_parts}
use Rattle.std.proofs.lemmas.List.{append_assoc}
use Rattle.caller_laws.specs.Good.{Identity}
use Rattle.caller_laws.specs.Moves.{done, Again, Begin, BeginAnew, Falls, Finish, Forgets, GivesUp, InSlot, Make, Move, Reclaim, Rests, Sends, SetUp, Takes}
use Rattle.caller_laws.specs.OneStep.Order.{AreAgain, AreAnew, AreLosing, IsEarlyLate, IsOrdered, IsTake, MayAgain, is_anew, is_losing, next_place}
use Rattle.caller_laws.specs.OneStep.Runs.{MountStep}
use Rattle.caller_laws.specs.View.{Above}
use Rattle.client_laws.proofs.Changed.{all_behind, all_wider}
use Rattle.client_laws.specs.CallerLaws.{IsMountRun, goes_to, is_call}
use Rattle.client_laws.specs.Order.{NoneBeginsAnew, begins_anew, count_behind, counted_if, number_if, numbers_in, numbers_of, numbers_to}
use Rattle.mount.specs.State.{Mounted}
use Rattle.mount.specs.Taking.{Means}
use Rattle.nfs_base.specs.declared.side.Side.{Side}
use Rattle.outbox.specs.declared.outgoing.Outgoing.{Outgoing}

-- A record is taken, which tells the root or doesn't; nothing goes out, and what is awaited may be lost; calls of a setup go out, or
-- any but once more, and nothing is lost; what is awaited goes out once more, at places from a lowest on and below another; first
-- nothing goes out, and then nothing is lost; and before that a record is taken.
pub data Kind : Type 0 where
  Hears : (root : Bool) → Kind
  Silent : Kind
  SetsUp : Kind
  Anew : Kind
  OnceMore : (low high : ℕ) → Kind
  Both : Kind
  Whole : Kind

-- whether calls in slots may go out that weren't awaited
abbrev pub is_loud : Kind → Bool
is_loud Anew = true
is_loud Both = true
is_loud Whole = true
is_loud _ = false

-- calls go out, none of them once more, and none that begins the mount anew
abbrev pub is_fresh : Move → Bool
is_fresh move = is_anew move && not (begins_anew move)

abbrev pub AreFresh : List MountStep → Type 0
AreFresh steps = AllByRecursion (λ (step : MountStep). is_fresh step.move ≡ true) steps

abbrev pub AreBetween : ℕ → ℕ → List MountStep → Type 0
AreBetween low high [] = low ≤ high
AreBetween low high (step ∷ more) = MayAgain low step.move × AreBetween (next_place low step.move) high more

pub record IsBoth (steps : List MountStep) : Type 0 where
  losing : List MountStep
  late : List MountStep
  is : steps ≡ losing ++ late
  loses : AreLosing losing
  fresh : AreFresh late

abbrev pub IsOf : Kind → Means → List MountStep → Mounted → Type 0
IsOf (Hears root) means steps m = IsTake means m root steps
IsOf Silent means steps m = AreLosing steps
IsOf SetsUp means steps m = AreFresh steps
IsOf Anew means steps m = AreFresh steps
IsOf (OnceMore low high) means steps m = AreBetween low high steps
IsOf Both means steps m = IsBoth steps
IsOf Whole means steps m = IsEarlyLate means steps m × NoneBeginsAnew steps

-- ---- a mount rests

abbrev pub MayRest : Kind → Type 0
MayRest (OnceMore low high) = low ≤ high
MayRest (Hears root) = ⊥
MayRest Both = ⊥
MayRest Whole = ⊥
MayRest _ = Unit {0}

pub rest_is : (k : Kind) → MayRest k → (means : Means) (a : Above) (m : Mounted) → IsOf k means ((record { move = Rests; above = a }) ∷ []) m
rest_is Silent may means a m = (refl, tt)
rest_is SetsUp may means a m = (refl, tt)
rest_is Anew may means a m = (refl, tt)
rest_is (OnceMore low high) may means a m = (tt, may)
rest_is (Hears root) may means a m = absurd may
rest_is Both may means a m = absurd may
rest_is Whole may means a m = absurd may

-- ---- one run behind another

abbrev pub Joins : Kind → Kind → Kind → Type 0
Joins a b c = (means : Means) (xs ys : List MountStep) (m n : Mounted) → IsOf a means xs m → IsOf b means ys n → IsOf c means (xs ++ ys) m

losing_on : (xs ys : List MountStep) → AreLosing xs → AreLosing ys → AreLosing (xs ++ ys)
losing_on xs ys x y = all_behind (λ (step : MountStep). is_losing step.move ≡ true) xs ys x y

pub silent_silent : Joins Silent Silent Silent
silent_silent means xs ys m n x y = losing_on xs ys x y

fresh_fresh : (xs ys : List MountStep) → AreFresh xs → AreFresh ys → AreFresh (xs ++ ys)
fresh_fresh xs ys x y = all_behind (λ (step : MountStep). is_fresh step.move ≡ true) xs ys x y

pub setup_setup : Joins SetsUp SetsUp SetsUp
setup_setup means xs ys m n x y = fresh_fresh xs ys x y

pub setup_anew : Joins SetsUp Anew Anew
setup_anew means xs ys m n x y = fresh_fresh xs ys x y

pub anew_twice : Joins Anew Anew Anew
anew_twice means xs ys m n x y = fresh_fresh xs ys x y

pub silent_anew : Joins Silent Anew Both
silent_anew means xs ys m n x y = record { losing = xs; late = ys; is = refl; loses = x; fresh = y }

pub silent_both : Joins Silent Both Both
silent_both means xs ys m n x y = record {
  losing = xs ++ y.losing;
  late = y.late;
  is = ap (λ (zs : List MountStep). xs ++ zs) y.is ∙ sym (append_assoc xs y.losing y.late);
  loses = losing_on xs y.losing x y.loses;
  fresh = y.fresh;
}

-- ---- no call begins a mount anew

-- a step is as this says
abbrev Fresh : MountStep → Type 0
Fresh x = is_fresh x.move ≡ true

abbrev NotAnew : MountStep → Type 0
NotAnew x = begins_anew x.move ≡ false

fresh_anew : (steps : List MountStep) → AreFresh steps → AreAnew steps
fresh_anew steps fresh = all_wider Fresh (λ (x : MountStep). is_anew x.move ≡ true) (λ x so. (and_parts (is_anew x.move) (not (begins_anew x.move)) so).0) steps fresh

not_true : (b : Bool) → not b ≡ true → b ≡ false
not_true true e = absurd cc
not_true false e = refl

fresh_none : (steps : List MountStep) → AreFresh steps → NoneBeginsAnew steps
fresh_none steps fresh = all_wider Fresh NotAnew (λ x so. not_true (begins_anew x.move) (and_parts (is_anew x.move) (not (begins_anew x.move)) so).1) steps fresh

losing_none : (steps : List MountStep) → AreLosing steps → NoneBeginsAnew steps
losing_none steps loses = all_wider (λ (x : MountStep). is_losing x.move ≡ true) NotAnew (λ x so. by x.move so) steps loses
  where
    by : (move : Move) → is_losing move ≡ true → begins_anew move ≡ false
    by (Sends at send) so = absurd cc
    by (Takes place message) so = refl
    by (GivesUp place) so = refl
    by (Forgets child) so = refl
    by Falls so = refl
    by Rests so = refl

take_none : (means : Means) (m : Mounted) (root : Bool) (steps : List MountStep) → IsTake means m root steps → NoneBeginsAnew steps
take_none means m root steps take = subst NoneBeginsAnew (sym take.is) (refl, tt)

between_none : (low high : ℕ) (steps : List MountStep) → AreBetween low high steps → NoneBeginsAnew steps
between_none low high [] x = tt
between_none low high (step ∷ more) x = (by low step.move x.0, between_none (next_place low step.move) high more x.1)
  where
    by : (low : ℕ) (move : Move) → MayAgain low move → begins_anew move ≡ false
    by low (Sends at Again) may = refl
    by low (Sends at (InSlot under call)) may = refl
    by low (Sends at (Begin nonce token)) may = refl
    by low (Sends at BeginAnew) may = absurd may
    by low (Sends at (SetUp principal back)) may = refl
    by low (Sends at Reclaim) may = refl
    by low (Sends at (Make child name privilege)) may = refl
    by low (Sends at (Finish ending)) may = refl
    by low (Takes place message) may = refl
    by low (GivesUp place) may = refl
    by low (Forgets child) may = refl
    by low Falls may = refl
    by low Rests may = refl

none_on : (xs ys : List MountStep) → NoneBeginsAnew xs → NoneBeginsAnew ys → NoneBeginsAnew (xs ++ ys)
none_on xs ys x y = all_behind NotAnew xs ys x y

both_none : (steps : List MountStep) → IsBoth steps → NoneBeginsAnew steps
both_none steps x = subst NoneBeginsAnew (sym x.is) (none_on x.losing x.late (losing_none x.losing x.loses) (fresh_none x.late x.fresh))

pub hears_anew : (root : Bool) → Joins (Hears root) Anew Whole
hears_anew root means xs ys m n x y = (
  record { head = xs; losing = []; late = ys; is = refl; root = root; takes = inr x; loses = tt; anew = fresh_anew ys y; keeps_root = λ e. refl },
  none_on xs ys (take_none means m root xs x) (fresh_none ys y),
)

pub hears_both : Joins (Hears false) Both Whole
hears_both means xs ys m n x y = (
  record {
    head = xs;
    losing = y.losing;
    late = y.late;
    is = ap (λ (zs : List MountStep). xs ++ zs) y.is;
    root = false;
    takes = inr x;
    loses = y.loses;
    anew = fresh_anew y.late y.fresh;
    keeps_root = λ e. absurd cc;
  },
  none_on xs ys (take_none means m false xs x) (both_none ys y),
)

between_on : (low mid high : ℕ) (xs ys : List MountStep) → AreBetween low mid xs → AreBetween mid high ys → AreBetween low high (xs ++ ys)
between_on low mid high [] ys x y = lower low mid high ys x y
  where
    next_lower : (low mid : ℕ) (move : Move) → low ≤ mid → next_place low move ≤ next_place mid move
    next_lower low mid (Sends at Again) le = omega arith
    next_lower low mid (Sends at (InSlot under call)) le = le
    next_lower low mid (Sends at (Begin nonce token)) le = le
    next_lower low mid (Sends at BeginAnew) le = le
    next_lower low mid (Sends at (SetUp principal back)) le = le
    next_lower low mid (Sends at Reclaim) le = le
    next_lower low mid (Sends at (Make child name privilege)) le = le
    next_lower low mid (Sends at (Finish ending)) le = le
    next_lower low mid (Takes place message) le = le
    next_lower low mid (GivesUp place) le = le
    next_lower low mid (Forgets child) le = le
    next_lower low mid Falls le = le
    next_lower low mid Rests le = le

    may_lower : (low mid : ℕ) (move : Move) → low ≤ mid → MayAgain mid move → MayAgain low move
    may_lower low mid (Sends at Again) le may = omega arith
    may_lower low mid (Sends at (InSlot under call)) le may = may
    may_lower low mid (Sends at (Begin nonce token)) le may = may
    may_lower low mid (Sends at BeginAnew) le may = may
    may_lower low mid (Sends at (SetUp principal back)) le may = may
    may_lower low mid (Sends at Reclaim) le may = may
    may_lower low mid (Sends at (Make child name privilege)) le may = may
    may_lower low mid (Sends at (Finish ending)) le may = may
    may_lower low mid (Takes place message) le may = may
    may_lower low mid (GivesUp place) le may = may
    may_lower low mid (Forgets child) le may = may
    may_lower low mid Falls le may = may
    may_lower low mid Rests le may = tt

    lower : (low mid high : ℕ) (ys : List MountStep) → low ≤ mid → AreBetween mid high ys → AreBetween low high ys
    lower low mid high [] le y = omega arith
    lower low mid high (step ∷ more) le y =
        (may_lower low mid step.move le y.0, lower (next_place low step.move) (next_place mid step.move) high more (next_lower low mid step.move le) y.1)
between_on low mid high (step ∷ more) ys x y = (x.0, between_on (next_place low step.move) mid high more ys x.1 y)

pub once_more : (low mid high : ℕ) → Joins (OnceMore low mid) (OnceMore mid high) (OnceMore low high)
once_more low mid high means xs ys m n x y = between_on low mid high xs ys x y

again_of : (low high : ℕ) (steps : List MountStep) → AreBetween low high steps → AreAgain low steps
again_of low high [] x = tt
again_of low high (step ∷ more) x = (x.0, again_of (next_place low step.move) high more x.1)

pub both_of : (steps : List MountStep) → AreFresh steps → IsBoth steps
both_of steps x = record { losing = []; late = steps; is = refl; loses = tt; fresh = x }

pub whole_of : (means : Means) (steps : List MountStep) (m : Mounted) → IsBoth steps → IsOf Whole means steps m
whole_of means steps m x = (
  record { head = []; losing = x.losing; late = x.late; is = x.is; root = false; takes = inl refl; loses = x.loses; anew = fresh_anew x.late x.fresh; keeps_root = λ e. absurd cc },
  both_none steps x,
)

-- its steps go in order, and none begins the mount anew
pub record GoesInOrder (means : Means) (steps : List MountStep) (m : Mounted) : Type 0 where
  pub order : IsOrdered means steps m
  pub none_anew : NoneBeginsAnew steps

pub whole_ordered : (means : Means) (steps : List MountStep) (m : Mounted) → IsOf Whole means steps m → GoesInOrder means steps m
whole_ordered means steps m x = record { order = inl x.0; none_anew = x.1 }

pub anew_ordered : (means : Means) (steps : List MountStep) (m : Mounted) → IsOf Anew means steps m → GoesInOrder means steps m
anew_ordered means steps m x = whole_ordered means steps m (whole_of means steps m (both_of steps x))

pub again_ordered : (high : ℕ) (means : Means) (steps : List MountStep) (m : Mounted) → IsOf (OnceMore 0 high) means steps m → GoesInOrder means steps m
again_ordered high means steps m x = record { order = inr (again_of 0 high steps x); none_anew = between_none 0 high steps x }

-- ---- numbers

pub numbers_append : (who : Identity) (means : Means) (xs ys : List MountStep) (a : Above) (m : Mounted) (b : Above) (n : Mounted)
    → IsMountRun who means xs a m b n → numbers_in means (xs ++ ys) m ≡ numbers_in means xs m ++ numbers_in means ys n
numbers_append who means [] ys a m b n r = ap (numbers_in means ys) (sym r.1)
numbers_append who means (x ∷ xs) ys a m b n r =
    let o = done means x.move m in
    let here = numbers_of x.move o.shown.out in
    ap (λ (ns : List ℕ). here ++ ns) (numbers_append who means xs ys x.above o.mount b n r.3)
    ∙ sym (append_assoc here (numbers_in means xs o.mount) (numbers_in means ys n))

pub count_append : (n : ℕ) (xs ys : List Outgoing) → count_behind n (xs ++ ys) ≡ count_behind (count_behind n xs) ys
count_append n [] ys = refl
count_append n (x ∷ xs) ys = count_append (counted_if (is_call x.label) n) xs ys

pub numbers_to_append : (side : Side) (n : ℕ) (xs ys : List Outgoing) → numbers_to side n (xs ++ ys) ≡ numbers_to side n xs ++ numbers_to side (count_behind n xs) ys
numbers_to_append side n [] ys = refl
numbers_to_append side n (x ∷ xs) ys =
    let here = number_if (goes_to side x.to && is_call x.label) (n + 1) in
    let k = counted_if (is_call x.label) n in
    ap (λ (ns : List ℕ). here ++ ns) (numbers_to_append side k xs ys)
    ∙ sym (append_assoc here (numbers_to side k xs) (numbers_to side (count_behind k xs) ys))
