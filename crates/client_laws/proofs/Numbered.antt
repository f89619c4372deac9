-- The calls of a turn have the next numbers as their xids, in their order, whichever server they go to.
use Rattle.std.proofs.Common.{◌≡◌, ◌∙◌, ◌⊎◌, inl, inr, ℕ, zero, suc, ◌+◌, ◌<◌, ◌≤◌, Bool, true, false, List, [], ◌∷◌, ◌++◌, length, get_or, Option, Some, None, refl, sym, ap, subst, arith}
use Rattle.std.specs.Prelude.{Contains, ◌&&◌, ◌||◌, map}
use Rattle.std.specs.List.{AllByRecursion}
use Rattle.std.proofs.lemmas.List.Elements.{Contains-append_cases, Contains-append_left, Contains-append_right}
use Rattle.caller_laws.specs.Good.{Identity, IsGood}
use Rattle.caller_laws.specs.Lawful.{IsStep}
use Rattle.caller_laws.specs.Moves.{Falls, Forgets, GivesUp, Move, Rests, Send, Sends, Takes, done, out_of, sent_by}
use Rattle.caller_laws.specs.OneStep.Runs.{AreSpelled, MountStep, whole}
use Rattle.caller_laws.specs.View.{Above}
use Rattle.client_laws.proofs.SealedFor.{sealed_for}
use Rattle.client_laws.proofs.WholeRuns.{Knows}
use Rattle.client_laws.specs.CallerLaws.{IsMountRun, call_if, calls_to, goes_to, is_call}
use Rattle.client_laws.specs.MountTurns.{IsOut}
use Rattle.client_laws.specs.Order.{count_behind, counted_if, number_if, numbers_in, numbers_of, numbers_to}
use Rattle.client_laws.specs.Turns.{Turn}
use Rattle.client_laws.specs.WholeTurns.{sent_of}
use Rattle.gss_ctx.specs.Seals.{Mic}
use Rattle.mount.specs.State.{Mounted}
use Rattle.mount.specs.Taking.{Means}
use Rattle.mount.specs.declared.machine.SendAt.{SendAt}
use Rattle.mount.specs.declared.machine.Sent as out
use Rattle.nfs_base.specs.declared.seal.End.{End}
use Rattle.nfs_base.specs.declared.seal.Seal.{Seal}
use Rattle.nfs_base.specs.declared.side.Side.{Side}
use Rattle.nfs_base.specs.declared.side.Side.TheVariants.{Source, Dest}
use Rattle.outbox.specs.declared.outgoing.Outgoing.{Outgoing}
use Rattle.wire_model.specs.Wire.{Sent}
use Rattle.wire_spelling.specs.Calls.{xid_in}

abbrev pub xids : List Sent → List ℕ
xids sent = map (λ (one : Sent). xid_in one.bytes) sent

xids_append : (xs ys : List Sent) → xids (xs ++ ys) ≡ xids xs ++ xids ys
xids_append [] ys = refl
xids_append (x ∷ xs) ys = ap (λ (ns : List ℕ). xid_in x.bytes ∷ ns) (xids_append xs ys)

module _ (who : Identity) (means : Means) (knows : Knows who means) where
  shown_numbers : (a b : Above) (m : Mounted) (at : SendAt) (send : Send) → IsStep who means a b m (Sends at send) → (o : Option out.Sent) → (sent_by means.mic at send m).0 ≡ o
      → xids (out_of o) ≡ map (λ (one : Sent). at.xid) (out_of o)
  shown_numbers a b m at send step None is = refl
  shown_numbers a b m at send step (Some sent) is =
      let one : Sent = record { bytes = sent.bytes; seal = sent.seal } in
      let there : Contains (out_of (sent_by means.mic at send m).0) one = subst (λ (o : Option out.Sent). Contains (out_of o) one) (sym is) (0, omega arith, refl) in
      ap (λ (n : ℕ). n ∷ []) (knows.xids a b m at send step sent.bytes sent.seal there)

  step_numbers : (a b : Above) (m : Mounted) (move : Move) → IsStep who means a b m move → xids (done means move m).shown.out ≡ numbers_of move (done means move m).shown.out
  step_numbers a b m (Sends at send) step = shown_numbers a b m at send step (sent_by means.mic at send m).0 refl
  step_numbers a b m (Takes place message) step = refl
  step_numbers a b m (GivesUp place) step = refl
  step_numbers a b m (Forgets child) step = refl
  step_numbers a b m Falls step = refl
  step_numbers a b m Rests step = refl

  pub run_numbers : (steps : List MountStep) (a b : Above) (m n : Mounted) → IsMountRun who means steps a m b n → AreSpelled means steps m → IsGood who m
      → xids (whole means steps m).out ≡ numbers_in means steps m
  run_numbers [] a b m n run spelled g = refl
  run_numbers (x ∷ more) a b m n run spelled g =
      let step : IsStep who means a x.above m x.move = record { good = g; goes_on = run.0; may = run.2 spelled.0 } in
      let o = done means x.move m in
      xids_append o.shown.out (whole means more o.mount).out
      ∙ ap (λ (ns : List ℕ). ns ++ xids (whole means more o.mount).out) (step_numbers a x.above m x.move step)
      ∙ ap (λ (ns : List ℕ). numbers_of x.move o.shown.out ++ ns) (run_numbers more x.above b o.mount n run.3 spelled.1 (knows.keeps a x.above m x.move step))

  -- what is sealed in a run is sealed for its server
  pub run_sealed : (steps : List MountStep) (a b : Above) (m n : Mounted) → IsMountRun who means steps a m b n → AreSpelled means steps m → IsGood who m
      → (bytes : List ℕ) (seal : Seal) → Contains (whole means steps m).out (record { bytes = bytes; seal = Some seal }) → seal.owner ≡ m.server
  run_sealed [] a b m n run spelled g bytes seal there = let lt = there.1 in absurd (omega arith)
  run_sealed (x ∷ more) a b m n run spelled g bytes seal there =
      let step : IsStep who means a x.above m x.move = record { good = g; goes_on = run.0; may = run.2 spelled.0 } in
      let o = done means x.move m in
      let it : Sent = record { bytes = bytes; seal = Some seal } in
      elim (Contains-append_cases o.shown.out (whole means more o.mount).out it there) [
        | inl here ↦ sealed_for who means x.move m g bytes seal here
        | inr later ↦ run_sealed more x.above b o.mount n run.3 spelled.1 (knows.keeps a x.above m x.move step) bytes seal later ∙ knows.server x.move m
      ]

-- ---- in all that goes out

abbrev pub AreNumbered : ℕ → List Outgoing → Type 0
AreNumbered n [] = Unit {0}
AreNumbered n (one ∷ more) = (is_call one.label ≡ true → xid_in one.bytes ≡ n + 1) × AreNumbered (counted_if (is_call one.label) n) more

parts : (b : Bool) (one : Outgoing) (rest : List Sent) (k : ℕ) (ns : List ℕ) → xids (call_if b one ++ rest) ≡ number_if b k ++ ns
    → (b ≡ true → xid_in one.bytes ≡ k) × (xids rest ≡ ns)
parts true one rest k ns e =
    let both : xid_in one.bytes ∷ xids rest ≡ k ∷ ns = e in
    let first : xid_in one.bytes ≡ k = cc in
    let others : xids rest ≡ ns = cc in
    (λ so. first, others)
parts false one rest k ns e = (λ so. absurd cc, e)

or_is : (a b : Bool) → (a || b) ≡ true → (a ≡ true) ⊎ (b ≡ true)
or_is true b e = inl refl
or_is false b e = inr e

and_of : (a b : Bool) → a ≡ true → b ≡ true → (a && b) ≡ true
and_of true true x y = refl
and_of true false x y = absurd cc
and_of false b x y = absurd cc

pub numbered_from : (mic : Mic) (turn : Turn) (owner : End) (n : ℕ) (sent : List Outgoing) → xids (calls_to Source sent) ≡ numbers_to Source n sent → xids (calls_to Dest sent) ≡ numbers_to Dest n sent
    → AllByRecursion (IsOut mic turn owner) sent → AreNumbered n sent
numbered_from mic turn owner n [] source dest outs = tt
numbered_from mic turn owner n (one ∷ more) source dest outs =
    let k = counted_if (is_call one.label) n in
    let s = parts (goes_to Source one.to && is_call one.label) one (calls_to Source more) (n + 1) (numbers_to Source k more) source in
    let d = parts (goes_to Dest one.to && is_call one.label) one (calls_to Dest more) (n + 1) (numbers_to Dest k more) dest in
    (numbered_one outs.0 s.0 d.0, numbered_from mic turn owner k more s.1 d.1 outs.1)
  where
    numbered_one : IsOut mic turn owner one → ((goes_to Source one.to && is_call one.label) ≡ true → xid_in one.bytes ≡ n + 1)
        → ((goes_to Dest one.to && is_call one.label) ≡ true → xid_in one.bytes ≡ n + 1) → is_call one.label ≡ true → xid_in one.bytes ≡ n + 1
    numbered_one (inl to) at_source at_dest call =
        elim (or_is (goes_to Source one.to) (goes_to Dest one.to) to.1) [
          | inl source ↦ at_source (and_of (goes_to Source one.to) (is_call one.label) source call)
          | inr dest ↦ at_dest (and_of (goes_to Dest one.to) (is_call one.label) dest call)
        ]
    numbered_one (inr answer) at_source at_dest call =
        let both : false ≡ true = sym answer.0 ∙ call in
        absurd cc

-- ---- a member is the first, or one of the others

pub first_or : {X : Type 0} (y x : X) (ys : List X) → Contains (y ∷ ys) x → (y ≡ x) ⊎ Contains ys x
first_or y x ys c = by c.0 c.1 c.2
  where
    by : (k : ℕ) → k < length (y ∷ ys) → get_or (y ∷ ys) k x ≡ x → (y ≡ x) ⊎ Contains ys x
    by zero lt is = inl is
    by (suc k) lt is = inr (k, omega arith, is)

numbered_above : (n : ℕ) (sent : List Outgoing) (x : Outgoing) → AreNumbered n sent → Contains sent x → is_call x.label ≡ true → n < xid_in x.bytes
numbered_above n [] x nums there call = let lt = there.1 in absurd (omega arith)
numbered_above n (one ∷ more) x nums there call =
    elim (first_or one x more there) [
      | inl same ↦
          let number : xid_in one.bytes ≡ n + 1 = nums.0 (ap (λ (y : Outgoing). is_call y.label) same ∙ call) in
          let moved : xid_in one.bytes ≡ xid_in x.bytes = ap (λ (y : Outgoing). xid_in y.bytes) same in
          omega arith
      | inr later ↦
          let above = numbered_above (counted_if (is_call one.label) n) more x nums.1 later call in
          let grown = counted_grows (is_call one.label) n in
          omega (arith, above, grown)
    ]
  where
    counted_grows : (b : Bool) (n : ℕ) → n ≤ counted_if b n
    counted_grows true n = omega arith
    counted_grows false n = omega arith

numbered_below : (n : ℕ) (sent : List Outgoing) (x : Outgoing) → AreNumbered n sent → Contains sent x → is_call x.label ≡ true → xid_in x.bytes ≤ count_behind n sent
numbered_below n [] x nums there call = let lt = there.1 in absurd (omega arith)
numbered_below n (one ∷ more) x nums there call =
    elim (first_or one x more there) [
      | inl same ↦
          let so : is_call one.label ≡ true = ap (λ (y : Outgoing). is_call y.label) same ∙ call in
          let number : xid_in one.bytes ≡ n + 1 = nums.0 so in
          let moved : xid_in one.bytes ≡ xid_in x.bytes = ap (λ (y : Outgoing). xid_in y.bytes) same in
          let counted : counted_if (is_call one.label) n ≡ n + 1 = ap (λ (b : Bool). counted_if b n) so in
          let grown = behind_grows (counted_if (is_call one.label) n) more in
          omega (arith, number, moved, counted, grown)
      | inr later ↦ numbered_below (counted_if (is_call one.label) n) more x nums.1 later call
    ]
  where
    counted_rises : (b : Bool) (n : ℕ) → n ≤ counted_if b n
    counted_rises true n = omega arith
    counted_rises false n = omega arith

    behind_grows : (n : ℕ) (sent : List Outgoing) → n ≤ count_behind n sent
    behind_grows n [] = omega arith
    behind_grows n (y ∷ ys) =
        let first = counted_rises (is_call y.label) n in
        let rest = behind_grows (counted_if (is_call y.label) n) ys in
        omega (arith, first, rest)

-- a call's number, in all that goes out
pub record IsCounted (n : ℕ) (sent : List Outgoing) (x : Outgoing) : Type 0 where
  pub above : n < xid_in x.bytes
  pub below : xid_in x.bytes ≤ count_behind n sent

pub counted_in : (n : ℕ) (sent : List Outgoing) (x : Outgoing) → AreNumbered n sent → Contains sent x → is_call x.label ≡ true → IsCounted n sent x
counted_in n sent x nums there call = record { above = numbered_above n sent x nums there call; below = numbered_below n sent x nums there call }

-- so two calls of one xid are one
pub numbered_once : (n : ℕ) (sent : List Outgoing) (x y : Outgoing) → AreNumbered n sent → Contains sent x → Contains sent y → is_call x.label ≡ true → is_call y.label ≡ true
    → xid_in x.bytes ≡ xid_in y.bytes → x ≡ y
numbered_once n [] x y nums at_x at_y call_x call_y same = let lt = at_x.1 in absurd (omega arith)
numbered_once n (one ∷ more) x y nums at_x at_y call_x call_y same =
    elim (first_or one x more at_x) [
      | inl first_x ↦ elim (first_or one y more at_y) [
        | inl first_y ↦ sym first_x ∙ first_y
        | inr later_y ↦ absurd (apart x y first_x call_x later_y call_y same)
      ]
      | inr later_x ↦ elim (first_or one y more at_y) [
        | inl first_y ↦ absurd (apart y x first_y call_y later_x call_x (sym same))
        | inr later_y ↦ numbered_once (counted_if (is_call one.label) n) more x y nums.1 later_x later_y call_x call_y same
      ]
    ]
  where
    apart : (x y : Outgoing) → one ≡ x → is_call x.label ≡ true → Contains more y → is_call y.label ≡ true → xid_in x.bytes ≡ xid_in y.bytes → ⊥
    apart x y first call_x later call_y same =
        let so : is_call one.label ≡ true = ap (λ (z : Outgoing). is_call z.label) first ∙ call_x in
        let number : xid_in one.bytes ≡ n + 1 = nums.0 so in
        let moved : xid_in one.bytes ≡ xid_in x.bytes = ap (λ (z : Outgoing). xid_in z.bytes) first in
        let counted : counted_if (is_call one.label) n ≡ n + 1 = ap (λ (b : Bool). counted_if b n) so in
        let above = numbered_above (counted_if (is_call one.label) n) more y nums.1 later call_y in
        omega (arith, number, moved, counted, above, same)

-- ---- records as the wire sees them

-- what is seen to go out is one of these
pub record IsSeen (sent : List Outgoing) (s : Sent) : Type 0 where
  pub one : Outgoing
  pub there : Contains sent one
  pub is : sent_of one ≡ s

pub seen_in : (sent : List Outgoing) (s : Sent) → Contains (map sent_of sent) s → IsSeen sent s
seen_in [] s there = let lt = there.1 in absurd (omega arith)
seen_in (one ∷ more) s there =
    elim (first_or (sent_of one) s (map sent_of more) there) [
      | inl same ↦ record { one = one; there = (0, omega arith, refl); is = same }
      | inr later ↦
          let it = seen_in more s later in
          record { one = it.one; there = behind one it.one more it.there; is = it.is }
    ]
  where
    behind : (y x : Outgoing) (ys : List Outgoing) → Contains ys x → Contains (y ∷ ys) x
    behind y x ys c = (suc c.0, (let lt = c.1 in omega arith), c.2)

call_seen : (b : Bool) (one : Outgoing) (s : Sent) → Contains (call_if b one) s → sent_of one ≡ s
call_seen true one s there =
    elim (first_or (sent_of one) s [] there) [
      | inl same ↦ same
      | inr later ↦ let lt = later.1 in absurd (omega arith)
    ]
call_seen false one s there = let lt = there.1 in absurd (omega arith)

-- a call to a server is among all that goes out
pub calls_seen : (side : Side) (sent : List Outgoing) (s : Sent) → Contains (calls_to side sent) s → Contains (map sent_of sent) s
calls_seen side [] s there = let lt = there.1 in absurd (omega arith)
calls_seen side (one ∷ more) s there =
    let here = call_if (goes_to side one.to && is_call one.label) one in
    elim (Contains-append_cases here (calls_to side more) s there) [
      | inl first ↦ (0, omega arith, call_seen (goes_to side one.to && is_call one.label) one s first)
      | inr later ↦ let c = calls_seen side more s later in (suc c.0, (let lt = c.1 in omega arith), c.2)
    ]

-- and among those to the server it goes to
pub called : (side : Side) (sent : List Outgoing) (x : Outgoing) → Contains sent x → goes_to side x.to ≡ true → is_call x.label ≡ true → Contains (calls_to side sent) (sent_of x)
called side [] x there to call = let lt = there.1 in absurd (omega arith)
called side (one ∷ more) x there to call =
    let b = goes_to side one.to && is_call one.label in
    elim (first_or one x more there) [
      | inl same ↦
          let so : b ≡ true =
          ap (λ (y : Outgoing). goes_to side y.to && is_call y.label) same ∙ and_of (goes_to side x.to) (is_call x.label) to call in
          let first : Contains (call_if b one) (sent_of x) =
          subst (λ (c : Bool). Contains (call_if c one) (sent_of x)) (sym so) (0, omega arith, ap sent_of same) in
          Contains-append_left (call_if b one) (calls_to side more) (sent_of x) first
      | inr later ↦ Contains-append_right (call_if b one) (calls_to side more) (sent_of x) (called side more x later to call)
    ]

-- each is a call to a server, or an answer
pub out_of_all : (mic : Mic) (turn : Turn) (owner : End) (sent : List Outgoing) (x : Outgoing) → AllByRecursion (IsOut mic turn owner) sent → Contains sent x → IsOut mic turn owner x
out_of_all mic turn owner [] x outs there = let lt = there.1 in absurd (omega arith)
out_of_all mic turn owner (one ∷ more) x outs there =
    elim (first_or one x more there) [
      | inl same ↦ subst (IsOut mic turn owner) same outs.0
      | inr later ↦ out_of_all mic turn owner more x outs.1 later
    ]
