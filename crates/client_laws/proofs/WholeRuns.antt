-- What a client does at a server in a turn obeys the laws of that server's wire as one step, by what is known of runs of a mount's
-- steps (`caller_laws::one_step`). What is ready doesn't change in a turn: it is what is ready in the end.
use Rattle.std.proofs.Common.{◌≡◌, ◌∙◌, ◌⊎◌, ℕ, Bool, true, false, List, [], ◌∷◌, ◌++◌, map, Option, Some, None, refl, sym, ap, subst, inl, inr}
use Rattle.std.specs.List.{AllByRecursion}
use Rattle.std.proofs.lemmas.List.{map-append}
use Rattle.caller_laws.specs.Good.{Identity, IsGood}
use Rattle.caller_laws.specs.Joining.{joined}
use Rattle.caller_laws.specs.Lawful.{IsStep, May, Suits}
use Rattle.caller_laws.specs.Moves.{Again, Begin, BeginAnew, Falls, Finish, Forgets, GivesUp, InSlot, Make, Move, Reclaim, Rests, Send, Sends, SetUp, Takes, done}
use Rattle.caller_laws.specs.OneStep.Order.{AreAgain, AreAnew, AreLosing, IsOrdered, IsTake, MayAgain, is_anew, is_losing, next_place}
use Rattle.caller_laws.specs.OneStep.Runs.{AreSpelled, IsOneStep, IsRun, MountStep, whole}
use Rattle.caller_laws.specs.View.{Above, caller_of}
use Rattle.client_copies.specs.Table.{Copies}
use Rattle.client_laws.proofs.Changed.{all_behind, all_wider}
use Rattle.client_laws.proofs.MountMoves.{outs_of, slot_purpose, takes_of}
use Rattle.client_laws.proofs.TakenFrom.{taken_owner}
use Rattle.client_laws.specs.CallerLaws.{AllAsk, AsksIn, IsMountRun, acts_in, purpose_after, purpose_for, ready_in, taken_by, taken_in}
use Rattle.mount.specs.State.{Mounted}
use Rattle.mount.specs.Taking.{Means}
use Rattle.mount.specs.declared.machine.SendAt.{SendAt}
use Rattle.nfs_base.specs.declared.seal.End.{End}
use Rattle.nfs_base.specs.declared.seal.Seal.{Seal}
use Rattle.wire_model.specs.CallerLaws as wire_laws
use Rattle.wire_model.specs.CallerLaws.{CallerLaws, IsNew, LearnsChild, LearnsRoot}
use Rattle.wire_model.specs.Spelling.{Context, Spelling}
use Rattle.wire_model.specs.Wire as wire
use Rattle.wire_model.specs.Wire.{Acts, Call, Caller, Purpose, Sent, What}
use Rattle.wire_spelling.specs.Calls.{xid_in}
use Rattle.wire_spelling.specs.Replies.{is_reply}
use Rattle.wire_spelling.specs.Spelling.{spelling}

-- ---- what is ready in the end

abbrev pub with_ready : Copies → Above → Above
with_ready t a = record a { ready = ready_in t }

suits_ready : (who : Identity) (t : Copies) (purpose : ℕ → Purpose) (above : Above) (m : Mounted) (at : SendAt) (send : Send)
    → above.purpose ≡ purpose_after (Sends at send) purpose → AsksIn t (Sends at send) → Suits who above m at send → Suits who (with_ready t above) m at send
suits_ready who t purpose above m at (Begin nonce token) is asks s = s
suits_ready who t purpose above m at BeginAnew is asks s = s
suits_ready who t purpose above m at (SetUp me back) is asks s = s
suits_ready who t purpose above m at Reclaim is asks s = (s.0, refl)
suits_ready who t purpose above m at (InSlot under call) is asks s = (
  s.0,
  ap (λ (p : ℕ → Purpose). ready_in t (p at.place)) is ∙ ap (ready_in t) (slot_purpose at.place (purpose_for at.place call) (purpose at.place)) ∙ asks.0,
)
suits_ready who t purpose above m at (Make child name privilege) is asks s = s
suits_ready who t purpose above m at (Finish ending) is asks s = s
suits_ready who t purpose above m at Again is asks s = s

may_ready : (who : Identity) (means : Means) (t : Copies) (a b : Above) (m : Mounted) (move : Move) → b.purpose ≡ purpose_after move a.purpose → AsksIn t move
    → May who means.mic a b m move → May who means.mic (with_ready t a) (with_ready t b) m move
may_ready who means t a b m (Sends at send) is asks may = record {
  place = may.place;
  unused = may.unused;
  fresh = may.fresh;
  counted = may.counted;
  small = may.small;
  suits = suits_ready who t a.purpose b m at send is asks may.suits;
  fits = may.fits;
  are_bytes = may.are_bytes;
}
may_ready who means t a b m (Takes place message) is asks may = may
may_ready who means t a b m (GivesUp place) is asks may = may
may_ready who means t a b m (Forgets child) is asks may = may
may_ready who means t a b m Falls is asks may = may
may_ready who means t a b m Rests is asks may = may

-- ---- the same steps, with that

abbrev step_ready : Copies → MountStep → MountStep
step_ready t step = record { move = step.move; above = with_ready t step.above }

abbrev steps_ready : Copies → List MountStep → List MountStep
steps_ready t steps = map (step_ready t) steps

run_ready : (who : Identity) (means : Means) (t : Copies) (steps : List MountStep) (a b : Above) (m n : Mounted) → IsMountRun who means steps a m b n → AllAsk t steps
    → IsRun who means (steps_ready t steps) (with_ready t a) m (with_ready t b) n
run_ready who means t [] a b m n run asks = (ap (with_ready t) run.0, run.1)
run_ready who means t (x ∷ more) a b m n run asks = (
  record { boot = run.0.boot; calls = run.0.calls; purpose = run.0.purpose },
  λ purpose ready. ready,
  λ spelled. may_ready who means t a x.above m x.move run.1 asks.0 (run.2 spelled),
  run_ready who means t more x.above b (done means x.move m).mount n run.3 asks.1,
)

spelled_ready : (means : Means) (t : Copies) (steps : List MountStep) (m : Mounted) → AreSpelled means steps m → AreSpelled means (steps_ready t steps) m
spelled_ready means t [] m spelled = tt
spelled_ready means t (x ∷ more) m spelled = (spelled.0, spelled_ready means t more (done means x.move m).mount spelled.1)

whole_ready : (means : Means) (t : Copies) (steps : List MountStep) (m : Mounted) → whole means (steps_ready t steps) m ≡ whole means steps m
whole_ready means t [] m = refl
whole_ready means t (x ∷ more) m = ap (joined (done means x.move m).shown) (whole_ready means t more (done means x.move m).mount)

losing_ready : (t : Copies) (steps : List MountStep) → AreLosing steps → AreLosing (steps_ready t steps)
losing_ready t [] loses = tt
losing_ready t (x ∷ more) loses = (loses.0, losing_ready t more loses.1)

anew_ready : (t : Copies) (steps : List MountStep) → AreAnew steps → AreAnew (steps_ready t steps)
anew_ready t [] anew = tt
anew_ready t (x ∷ more) anew = (anew.0, anew_ready t more anew.1)

again_ready : (t : Copies) (low : ℕ) (steps : List MountStep) → AreAgain low steps → AreAgain low (steps_ready t steps)
again_ready t low [] again = tt
again_ready t low (x ∷ more) again = (again.0, again_ready t (next_place low x.move) more again.1)

ordered_ready : (means : Means) (t : Copies) (steps : List MountStep) (m : Mounted) → IsOrdered means steps m → IsOrdered means (steps_ready t steps) m
ordered_ready means t steps m (inl o) =
    inl
    (record {
      head = steps_ready t o.head;
      losing = steps_ready t o.losing;
      late = steps_ready t o.late;
      is =
          ap (steps_ready t) o.is ∙ map-append (step_ready t) o.head (o.losing ++ o.late)
          ∙ ap (λ (xs : List MountStep). steps_ready t o.head ++ xs) (map-append (step_ready t) o.losing o.late);
      root = o.root;
      takes = elim o.takes [
        | inl none ↦ inl (ap (steps_ready t) none)
        | inr take ↦ inr (record { place = take.place; message = take.message; above = with_ready t take.above; is = ap (steps_ready t) take.is; root_is = take.root_is })
      ];
      loses = losing_ready t o.losing o.loses;
      anew = anew_ready t o.late o.anew;
      keeps_root = λ root. ap (steps_ready t) (o.keeps_root root);
    })
ordered_ready means t steps m (inr again) = inr (again_ready t 0 steps again)

-- ---- what was ready before a step is nothing to its laws

module _ (spell : Spelling) (owner own : End) (ready : Purpose → Bool) (v w : Caller) (acts : Acts) where
  abbrev other : Caller
  other = record v { ready = ready }

  takes_of_other : (seal : Seal) (what : What) (reply : List ℕ) → wire_laws.Takes spell other acts seal what reply → wire_laws.Takes spell v acts seal what reply
  takes_of_other seal what reply x = record { place = x.place; took = x.took; is_reply = x.is_reply; accepted = x.accepted; awaited = x.awaited }

  takes_by_other : (seal : Seal) (what : What) (reply : List ℕ) → wire_laws.Takes spell v acts seal what reply → wire_laws.Takes spell other acts seal what reply
  takes_by_other seal what reply x = record { place = x.place; took = x.took; is_reply = x.is_reply; accepted = x.accepted; awaited = x.awaited }

  root_of_other : (root : Context) → LearnsRoot spell owner other acts root → LearnsRoot spell owner v acts root
  root_of_other root x = record { seal = x.seal; reply = x.reply; takes = takes_of_other x.seal _ x.reply x.takes; own = x.own; root_is = x.root_is }

  root_by_other : (root : Context) → LearnsRoot spell owner v acts root → LearnsRoot spell owner other acts root
  root_by_other root x = record { seal = x.seal; reply = x.reply; takes = takes_by_other x.seal _ x.reply x.takes; own = x.own; root_is = x.root_is }

  child_of_other : (child root : Context) → LearnsChild spell other acts child root → LearnsChild spell v acts child root
  child_of_other child root x =
      record { seal = x.seal; reply = x.reply; takes = takes_of_other x.seal _ x.reply x.takes; child_is = x.child_is; root_is = x.root_is; has_root = x.has_root }

  new_of_other : (call : Call) → IsNew other w call → IsNew v w call
  new_of_other call x = record { mounted = x.mounted; unused = x.unused; used = x.used; ready = x.ready }

  laws_of_other : CallerLaws spell owner own other w acts → CallerLaws spell owner own v w acts
  laws_of_other laws = record {
    boot = laws.boot;
    calls = laws.calls;
    fresh = laws.fresh;
    one = laws.one;
    directed = laws.directed;
    simple = laws.simple;
    has = λ context root there.
        elim (laws.has context root there) [
          | inl was ↦ inl was
          | inr learnt ↦ elim learnt [
            | inl l ↦ inr (inl (l.0, root_of_other root l.1))
            | inr l ↦ inr (inr (child_of_other context root l))
          ]
        ];
    begin = λ root learnt. laws.begin root (root_by_other root learnt);
    mount = λ root there.
        elim (laws.mount root there) [
          | inl was ↦ inl was
          | inr learnt ↦ inr (root_of_other root learnt)
        ];
    awaits = laws.awaits;
    goes_on = λ place xid seal call there.
        elim (laws.goes_on place xid seal call there) [
          | inl on ↦ inl on
          | inr new ↦ inr (new_of_other call new)
        ];
    sends = laws.sends;
    in_slot = laws.in_slot;
  }

-- ---- what goes out, and what is taken

pub outs_whole : (means : Means) (steps : List MountStep) (m : Mounted) → outs_of (acts_in means steps m) ≡ (whole means steps m).out
outs_whole means [] m = refl
outs_whole means (x ∷ more) m = ap (λ (sent : List Sent). (done means x.move m).shown.out ++ sent) (outs_whole means more (done means x.move m).mount)

module _ (means : Means) where
  abbrev Untaking : MountStep → Type 0
  Untaking step = (m : Mounted) → (done means step.move m).shown.took ≡ None

  losing_untaking : (move : Move) → is_losing move ≡ true → (m : Mounted) → (done means move m).shown.took ≡ None
  losing_untaking (GivesUp place) e m = refl
  losing_untaking (Forgets child) e m = refl
  losing_untaking Falls e m = refl
  losing_untaking Rests e m = refl
  losing_untaking (Sends at send) e m = refl
  losing_untaking (Takes place message) e m = absurd cc

  anew_untaking : (move : Move) → is_anew move ≡ true → (m : Mounted) → (done means move m).shown.took ≡ None
  anew_untaking (Sends at send) e m = refl
  anew_untaking Rests e m = refl
  anew_untaking (GivesUp place) e m = refl
  anew_untaking (Forgets child) e m = refl
  anew_untaking Falls e m = refl
  anew_untaking (Takes place message) e m = absurd cc

  again_untaking : (low : ℕ) (move : Move) → MayAgain low move → (m : Mounted) → (done means move m).shown.took ≡ None
  again_untaking low (Sends at send) may m = refl
  again_untaking low Rests may m = refl
  again_untaking low (GivesUp place) may m = refl
  again_untaking low (Forgets child) may m = refl
  again_untaking low Falls may m = refl
  again_untaking low (Takes place message) may m = absurd may

  takes_none : (steps : List MountStep) (m : Mounted) → AllByRecursion Untaking steps → takes_of (acts_in means steps m) ≡ []
  takes_none [] m all = refl
  takes_none (x ∷ more) m all =
      let shown = (done means x.move m).shown in
      ap (λ (o : Option (List ℕ)). taken_by o shown.accepted ++ takes_of (acts_in means more (done means x.move m).mount)) (all.0 m) ∙ takes_none more (done means x.move m).mount all.1

  whole_none : (steps : List MountStep) (m : Mounted) → AllByRecursion Untaking steps → taken_in (whole means steps m) ≡ []
  whole_none [] m all = refl
  whole_none (x ∷ more) m all = ap (λ (o : Option (List ℕ)). taken_by o (done means x.move m).shown.accepted) (all.0 m)

  quiet_taken : (steps : List MountStep) (m : Mounted) → AllByRecursion Untaking steps → takes_of (acts_in means steps m) ≡ taken_in (whole means steps m)
  quiet_taken steps m all = takes_none steps m all ∙ sym (whole_none steps m all)

  unheard_untaking : (losing late : List MountStep) → AreLosing losing → AreAnew late → AllByRecursion Untaking (losing ++ late)
  unheard_untaking losing late loses anew =
      all_behind Untaking losing late (all_wider (λ (x : MountStep). is_losing x.move ≡ true) Untaking (λ x so. losing_untaking x.move so) losing loses)
      (all_wider (λ (x : MountStep). is_anew x.move ≡ true) Untaking (λ x so. anew_untaking x.move so) late anew)

  again_all : (low : ℕ) (steps : List MountStep) → AreAgain low steps → AllByRecursion Untaking steps
  again_all low [] again = tt
  again_all low (x ∷ more) again = (again_untaking low x.move again.0, again_all (next_place low x.move) more again.1)

  abbrev TakesSo : List MountStep → Mounted → Type 0
  TakesSo steps m = takes_of (acts_in means steps m) ≡ taken_in (whole means steps m)

  early_taken : (head rest : List MountStep) (root : Bool) (m : Mounted) → (head ≡ []) ⊎ IsTake means m root head → AllByRecursion Untaking rest → TakesSo (head ++ rest) m
  early_taken head rest root m (inl none) all = subst (λ (h : List MountStep). TakesSo (h ++ rest) m) (sym none) (quiet_taken rest m all)
  early_taken head rest root m (inr take) all =
      let move = Takes take.place take.message in
      subst (λ (h : List MountStep). TakesSo (h ++ rest) m) (sym take.is)
      (ap (λ (ts : List (List ℕ × Option Seal)). taken_in (done means move m).shown ++ ts) (takes_none rest (done means move m).mount all))

  -- a run takes what its first step takes
  pub taken_whole : (steps : List MountStep) (m : Mounted) → IsOrdered means steps m → TakesSo steps m
  taken_whole steps m (inl o) =
      subst (λ (xs : List MountStep). TakesSo xs m) (sym o.is) (early_taken o.head (o.losing ++ o.late) o.root m o.takes (unheard_untaking o.losing o.late o.loses o.anew))
  taken_whole steps m (inr again) = quiet_taken steps m (again_all 0 steps again)

  no_seal : {A : Type 0} (seal : Seal) → None ≡ Some seal → A
  no_seal seal e = absurd cc

  -- and accepts it under a seal of its server
  pub whole_owner : (who : Identity) (steps : List MountStep) (m : Mounted) → IsGood who m → (seal : Seal) → (whole means steps m).accepted ≡ Some seal → seal.owner ≡ m.server
  whole_owner who [] m g seal is = no_seal seal is
  whole_owner who (x ∷ more) m g seal is = by x.move is
    where
      by : (move : Move) → (done means move m).shown.accepted ≡ Some seal → seal.owner ≡ m.server
      by (Takes place message) is = taken_owner who means place message m g seal is
      by (Sends at send) is = no_seal seal is
      by (GivesUp place) is = no_seal seal is
      by (Forgets child) is = no_seal seal is
      by Falls is = no_seal seal is
      by Rests is = no_seal seal is

-- ---- what is known of every step and of every run of a mount's steps

pub record Knows (who : Identity) (means : Means) : Type 0 where
  pub keeps : (a b : Above) (m : Mounted) (move : Move) → IsStep who means a b m move → IsGood who (done means move m).mount
  pub server : (move : Move) (m : Mounted) → (done means move m).mount.server ≡ m.server
  pub xids : (a b : Above) (m : Mounted) (at : SendAt) (send : Send) → IsStep who means a b m (Sends at send) → (bytes : List ℕ) (seal : Option Seal)
      → wire.Sends (done means (Sends at send) m).shown bytes seal → xid_in bytes ≡ at.xid
  pub one : (steps : List MountStep) (a b : Above) (m n : Mounted) → IsRun who means steps a m b n → AreSpelled means steps m → IsOrdered means steps m → IsGood who m
      → IsOneStep who means steps a b m n

-- a client's run at a server obeys the laws as one step, and sends calls alone
pub record IsOneRun (who : Identity) (means : Means) (steps : List MountStep) (v w : Caller) (m n : Mounted) : Type 0 where
  pub laws : CallerLaws (spelling who.accepts who.whose) m.server who.own v w (whole means steps m)
  pub calls : (bytes : List ℕ) (seal : Option Seal) → wire.Sends (whole means steps m) bytes seal → is_reply bytes ≡ false
  pub good : IsGood who n
  pub server : n.server ≡ m.server

pub one_run : (who : Identity) (means : Means) (knows : Knows who means) (t : Copies) (steps : List MountStep) (a b : Above) (m n : Mounted)
    → IsMountRun who means steps a m b n → AreSpelled means steps m → AllAsk t steps → IsOrdered means steps m → IsGood who m
    → IsOneRun who means steps (caller_of a m) (caller_of (with_ready t b) n) m n
one_run who means knows t steps a b m n run spelled asks ordered good =
    let v = caller_of a m in
    let w = caller_of (with_ready t b) n in
    let same = whole_ready means t steps m in
    let it = knows.one (steps_ready t steps) (with_ready t a) (with_ready t b) m n (run_ready who means t steps a b m n run asks) (spelled_ready means t steps m spelled)
    (ordered_ready means t steps m ordered) good in
    record {
      laws =
          subst (λ (acts : Acts). CallerLaws (spelling who.accepts who.whose) m.server who.own v w acts) same
          (laws_of_other (spelling who.accepts who.whose) m.server who.own (ready_in t) v w (whole means (steps_ready t steps) m) it.laws);
      calls = λ bytes seal sends. it.calls bytes seal (subst (λ (acts : Acts). wire.Sends acts bytes seal) (sym same) sends);
      good = it.good;
      server = it.server;
    }
