-- A run of a mount's steps that goes in order obeys the laws as one step.
use Rattle.std.proofs.Common.{◌≡◌, ◌≢◌, ◌∙◌, ◌⊎◌, inl, inr, ℕ, Bool, true, false, List, [], ◌∷◌, ◌++◌, get_or, Option, Some, None, refl, sym, ap, subst, get_or-set_other, arith}
use Rattle.std.specs.Prelude.{option_map}
use Rattle.std.proofs.lemmas.List.Elements.{Contains-append_cases}
use Rattle.caller_laws.proofs.one_step.RunFacts.{Known, init_at, init_down, none_some, unmounted}
use Rattle.caller_laws.proofs.one_step.RunJoins.{Ended, Upto, again_joins, laws_of, losing_joins, with_out}
use Rattle.caller_laws.proofs.one_step.Servers.{done_server}
use Rattle.caller_laws.specs.Good.{Identity, IsGood}
use Rattle.caller_laws.specs.Joining.{joined}
use Rattle.caller_laws.specs.Lawful.{GoesOn, IsStep}
use Rattle.caller_laws.specs.Moves.{Falls, Forgets, GivesUp, Move, Rests, Sends, Takes, done, nothing_shown}
use Rattle.caller_laws.specs.OneStep.Order.{AreAgain, AreAnew, AreLosing, IsOrdered, IsTake, MayAgain, is_anew, is_losing, is_root}
use Rattle.caller_laws.specs.OneStep.RootLaws.{IsRooted, rooted_up}
use Rattle.caller_laws.specs.OneStep.Runs.{AreSpelled, IsOneStep, IsRun, MountStep, whole}
use Rattle.caller_laws.specs.View.{Above, awaited_in, caller_of}
use Rattle.gss_ctx.specs.declared.begin.Begun.{Begun}
use Rattle.gss_ctx.specs.declared.begin.Begun.TheVariants as begins
use Rattle.mount.specs.State.{Mounted, awaited_at, context_of, emptied, is_present, pending_at, pending_in, root_name, setup_in}
use Rattle.mount.specs.Taking.{Means, after_call, after_create, after_init, after_reply, after_setup, by_aim, by_awaiting, by_context, by_pending, child_for, parent_of, taken_at}
use Rattle.mount.specs.declared.state.Aim.{Aim}
use Rattle.mount.specs.declared.state.Aim.TheVariants as aims
use Rattle.mount.specs.declared.state.Awaiting.{Awaiting}
use Rattle.mount.specs.declared.state.Context as held
use Rattle.mount.specs.declared.state.Pending.{Pending}
use Rattle.mount.specs.declared.state.Pending.TheVariants.{Init, Under}
use Rattle.mount.specs.declared.state.Standing.{Standing}
use Rattle.mount.specs.declared.state.Standing.TheVariants.{Down, Rooted}
use Rattle.mount.specs.declared.taking.Heard.{Heard}
use Rattle.nfs_base.specs.declared.seal.End.{End}
use Rattle.nfs_base.specs.declared.seal.Seal.{Seal}
use Rattle.nfs_compound.specs.declared.reply.Reply.{Reply}
use Rattle.session_client.specs.Answers.{child_of, taken_of}
use Rattle.session_client.specs.Asked.{ops_of}
use Rattle.session_client.specs.Pending.{Asking, Beginning}
use Rattle.session_client.specs.declared.answers.Taken.{Taken}
use Rattle.session_client.specs.declared.answers.Taken.TheVariants as answers
use Rattle.session_client.specs.declared.answers.TakenChild.{TakenChild}
use Rattle.session_client.specs.declared.answers.TakenChild.TheVariants as children
use Rattle.session_client.specs.declared.setup.Setup.TheVariants as setups
use Rattle.wire_model.specs.CallerLaws.{LearnsRoot}
use Rattle.wire_model.specs.Spelling.{Context}
use Rattle.wire_model.specs.Wire as wire
use Rattle.wire_model.specs.Wire.{Acts, Begins}
use Rattle.wire_spelling.specs.Replies.{is_reply}
use Rattle.wire_spelling.specs.Spelling.{spelling}

-- ---- what a record that is accepted, and doesn't tell the root, leaves of what is awaited, where there is no root

abbrev Leaves : Mounted → Heard × Mounted → Type 0
Leaves m o = (seal : Seal) → o.0.accepted ≡ Some seal → is_root o.0.told ≡ false → o.1.places ≡ m.places

no_seal : {A : Type 0} (seal : Seal) → None ≡ Some seal → A
no_seal seal e = absurd cc

-- with the place emptied
create_leaves : (derived : List ℕ → ℕ → List ℕ → List ℕ) (place child : ℕ) (c : held.Context) (by : Seal) (xid : ℕ) (taken : TakenChild) (m : Mounted)
    → Leaves (emptied place m) (after_create derived place child (parent_of c) by xid taken m)
create_leaves derived place child c by xid (children.Made handle) m seal accepted root = refl
create_leaves derived place child c by xid (children.Refused major) m seal accepted root = refl
create_leaves derived place child c by xid children.Misspelt m seal accepted root = refl
create_leaves derived place child c by xid (children.Failed stat) m seal accepted root = no_seal seal accepted
create_leaves derived place child c by xid (children.Denied why) m seal accepted root = no_seal seal accepted
create_leaves derived place child c by xid children.Unmatched m seal accepted root = no_seal seal accepted

setup_leaves : (st : Standing) (reply : Reply) (accepted : Option Seal) (m : Mounted) → root_name st ≡ None → Leaves m (after_setup st reply accepted m)
setup_leaves (Down kept) reply accepted m down seal is root = refl
setup_leaves (Rooted r) reply accepted m down seal is root = absurd cc

reply_leaves : (aim : Aim) (reply : Reply) (accepted : Option Seal) (m : Mounted) → root_name m.standing ≡ None → Leaves m (after_reply aim false reply accepted m)
reply_leaves aims.Setup reply accepted m down seal is root = setup_leaves m.standing reply accepted m down seal is root
reply_leaves (aims.Child child) reply accepted m down seal is root = refl
reply_leaves aims.Slot reply accepted m down seal is root = refl
reply_leaves aims.End reply accepted m down seal is root = refl

call_leaves : (place : ℕ) (aim : Aim) (by : Seal) (taken : Taken) (m : Mounted) → root_name m.standing ≡ None → Leaves (emptied place m) (after_call place aim false by taken m)
call_leaves place aim by (answers.Answer reply) m down seal is root = reply_leaves aim reply (Some by) (emptied place m) down seal is root
call_leaves place aim by answers.Misspelt m down seal is root = refl
call_leaves place aim by (answers.Failed stat) m down seal is root = no_seal seal is
call_leaves place aim by (answers.Denied why) m down seal is root = no_seal seal is
call_leaves place aim by answers.Unmatched m down seal is root = no_seal seal is

absent : (st : Standing) (c : held.Context) → root_name st ≡ None → is_present st c ≡ false
absent (Down kept) c e = refl
absent (Rooted root) c e = absurd cc

aim_leaves : (means : Means) (place : ℕ) (message : List ℕ) (child : Option ℕ) (aim : Aim) (call : Asking) (c : held.Context) (m : Mounted) → root_name m.standing ≡ None
    → Leaves (emptied place m) (by_aim means place message child aim call c m)
aim_leaves means place message (Some child) aim call c m down =
    create_leaves means.derived place child c call.seal call.awaited.xid (child_of means.mic c.caller.key call.awaited message) m
aim_leaves means place message None aim call c m down =
    let taken = taken_of means.mic c.caller.key call.awaited (ops_of call.asked) message in
    subst (λ (present : Bool). Leaves (emptied place m) (after_call place aim present call.seal taken m)) (sym (absent m.standing c down)) (call_leaves place aim call.seal taken m down)

context_leaves : (means : Means) (place : ℕ) (message : List ℕ) (aim : Aim) (call : Asking) (c : Option held.Context) (m : Mounted) → root_name m.standing ≡ None
    → Leaves (emptied place m) (by_context means place message aim call c m)
context_leaves means place message aim call None m down seal is root = no_seal seal is
context_leaves means place message aim call (Some c) m down seal is root = aim_leaves means place message (child_for aim) aim call c m down seal is root

init_tells : {A : Type 0} (place : ℕ) (init : Beginning) (begun : Begun) (m : Mounted) (seal : Seal) → (after_init place init begun m).0.accepted ≡ Some seal
    → is_root (after_init place init begun m).0.told ≡ false → A
init_tells place init (begins.Made handle key) m seal is root = absurd cc
init_tells place init (begins.Refused major) m seal is root = no_seal seal is
init_tells place init (begins.Failed stat) m seal is root = no_seal seal is
init_tells place init (begins.Denied why) m seal is root = no_seal seal is
init_tells place init begins.Unmatched m seal is root = no_seal seal is

-- an INIT that is awaited stays so
stays_awaited : (means : Means) (place other : ℕ) (message : List ℕ) (m : Mounted) (o : Option Awaiting) (init : Beginning) (seal : Seal) → awaited_at m place ≡ o
    → pending_at m other ≡ Some (Init init) → root_name m.standing ≡ None → (by_awaiting means place message o m).0.accepted ≡ Some seal
    → is_root (by_awaiting means place message o m).0.told ≡ false → pending_at (by_awaiting means place message o m).1 other ≡ Some (Init init)
stays_awaited means place other message m None init seal at there down is root = no_seal seal is
stays_awaited means place other message m (Some a) init seal at there down is root = by a.pending refl is root
  where
    by : (p : Pending) → a.pending ≡ p → (by_pending means place message p m).0.accepted ≡ Some seal → is_root (by_pending means place message p m).0.told ≡ false
        → pending_at (by_pending means place message p m).1 other ≡ Some (Init init)
    by (Init begun) same is root = init_tells place begun _ m seal is root
    by (Under context aim call) same is root =
        let apart : other ≢ place = λ e.
        let here : pending_at m place ≡ Some (Under context aim call) = ap pending_in at ∙ ap (λ (p : Pending). Some p) same in
        let both : Some (Init init) ≡ Some (Under context aim call) = sym there ∙ ap (pending_at m) e ∙ here in
        absurd cc in
        let places = context_leaves means place message aim call (context_of context m.contexts) m down seal is root in
        ap (λ (ps : List (Option Awaiting)). pending_in (get_or ps other None)) places
        ∙ ap pending_in (get_or-set_other m.places place other None None apart)
        ∙ there

module _ (who : Identity) (means : Means) (known : Known who means) (owner : End) where
  -- where a root is learnt, the record tells it
  learns_told : (a b : Above) (m : Mounted) (place : ℕ) (message : List ℕ) (root : Context) → m.server ≡ owner → IsStep who means a b m (Takes place message)
      → LearnsRoot (spelling who.accepts who.whose) owner (caller_of a m) (done means (Takes place message) m).shown root
      → (o : Bool) → is_root (taken_at means place message m).0.told ≡ o → o ≡ true
  learns_told a b m place message root server step learnt true is = refl
  learns_told a b m place message root server step learnt false is =
      let n = (done means (Takes place message) m).mount in
      let it = init_at a m learnt.takes.place _ learnt.takes.awaited in
      let down = init_down who m learnt.takes.place it.init step.good it.there in
      let stays = stays_awaited means place learnt.takes.place message m (awaited_at m place) it.init learnt.seal refl it.there down learnt.takes.accepted is in
      let later : (caller_of b n).awaits learnt.takes.place ≡ Some (record { xid = it.init.xid; what = Begins }) =
      ap (option_map (awaited_in n.contexts (b.purpose learnt.takes.place))) stays in
      absurd ((laws_of who means known owner a b m (Takes place message) server step).begin root learnt learnt.takes.place it.init.xid later)

  up_rooted : (st : Standing) → IsRooted (setup_in st) → root_name st ≡ None → ⊥
  up_rooted (Down kept) up none =
      let is : setups.Down ≡ setups.Rooted up.verifier = up.is in
      absurd cc
  up_rooted (Rooted root) up none = absurd cc

  itself : (m : Mounted) (a : Above) → GoesOn m a a
  itself m a = record { boot = refl; calls = omega arith; purpose = λ place awaiting there. refl }

  rest_first : (a : Above) (m : Mounted) → IsGood who m → m.server ≡ owner → Upto who means known owner (caller_of a m) a m nothing_shown
  rest_first a m g server = record {
    laws = laws_of who means known owner a a m Rests server (record { good = g; goes_on = itself m a; may = tt });
    good = g;
    server = server;
    opening = refl;
    unmounted = λ root learnt. none_some learnt.reply learnt.takes.took;
    rooted = λ root learnt. none_some learnt.reply learnt.takes.took;
  }

  take_first : (a above : Above) (m : Mounted) (place : ℕ) (message : List ℕ) → m.server ≡ owner → GoesOn m a above
      → IsStep who means a above m (Takes place message)
      → Upto who means known owner (caller_of a m) above (done means (Takes place message) m).mount (done means (Takes place message) m).shown
  take_first a above m place message server goes step =
      let n = (done means (Takes place message) m).mount in
      record {
        laws = laws_of who means known owner a above m (Takes place message) server step;
        good = known.keeps a above m (Takes place message) step;
        server = done_server means (Takes place message) m ∙ server;
        opening = goes.boot;
        unmounted = λ root learnt. unmounted (spelling who.accepts who.whose) owner who a m (done means (Takes place message) m).shown root step.good learnt;
        rooted = λ root learnt none.
            let told = learns_told a above m place message root server step learnt (is_root (taken_at means place message m).0.told) refl in
            up_rooted n.standing (rooted_up means place message m told) none;
      }

  -- ---- the whole run as one step

  -- a run that takes nothing shows that it took nothing
  losing_quiet : (move : Move) → is_losing move ≡ true → (m : Mounted) (rest : Acts) → joined (done means move m).shown rest ≡ with_out nothing_shown (joined (done means move m).shown rest).out
  losing_quiet (GivesUp place) e m rest = refl
  losing_quiet (Forgets child) e m rest = refl
  losing_quiet Falls e m rest = refl
  losing_quiet Rests e m rest = refl
  losing_quiet (Sends at send) e m rest = refl
  losing_quiet (Takes place message) e m rest = absurd cc

  anew_quiet : (move : Move) → is_anew move ≡ true → (m : Mounted) (rest : Acts) → joined (done means move m).shown rest ≡ with_out nothing_shown (joined (done means move m).shown rest).out
  anew_quiet (Sends at send) e m rest = refl
  anew_quiet Rests e m rest = refl
  anew_quiet (GivesUp place) e m rest = refl
  anew_quiet (Forgets child) e m rest = refl
  anew_quiet Falls e m rest = refl
  anew_quiet (Takes place message) e m rest = absurd cc

  again_quiet : (low : ℕ) (move : Move) → MayAgain low move → (m : Mounted) (rest : Acts) → joined (done means move m).shown rest ≡ with_out nothing_shown (joined (done means move m).shown rest).out
  again_quiet low (Sends at send) may m rest = refl
  again_quiet low Rests may m rest = refl
  again_quiet low (GivesUp place) may m rest = refl
  again_quiet low (Forgets child) may m rest = refl
  again_quiet low Falls may m rest = refl
  again_quiet low (Takes place message) may m rest = absurd may

  abbrev Quiet : List MountStep → Mounted → Type 0
  Quiet steps m = whole means steps m ≡ with_out nothing_shown (whole means steps m).out

  late_quiet : (late : List MountStep) (m : Mounted) → AreAnew late → Quiet late m
  late_quiet [] m anew = refl
  late_quiet (x ∷ late) m anew = anew_quiet x.move anew.0 m (whole means late (done means x.move m).mount)

  unheard_quiet : (losing late : List MountStep) (m : Mounted) → AreLosing losing → AreAnew late → Quiet (losing ++ late) m
  unheard_quiet [] late m loses anew = late_quiet late m anew
  unheard_quiet (x ∷ losing) late m loses anew = losing_quiet x.move loses.0 m (whole means (losing ++ late) (done means x.move m).mount)

  all_quiet : (low : ℕ) (steps : List MountStep) (m : Mounted) → AreAgain low steps → Quiet steps m
  all_quiet low [] m again = refl
  all_quiet low (x ∷ more) m again = again_quiet low x.move again.0 m (whole means more (done means x.move m).mount)

  abbrev Joins : Above → Above → Mounted → Mounted → List MountStep → Type 0
  Joins a b m n steps = Ended who means known owner (caller_of a m) b n (whole means steps m)

  unheard_joins : (losing late : List MountStep) (a b : Above) (m n : Mounted) → IsRun who means (losing ++ late) a m b n → AreSpelled means (losing ++ late) m
      → AreLosing losing → AreAnew late → IsGood who m → m.server ≡ owner → Joins a b m n (losing ++ late)
  unheard_joins losing late a b m n run spelled loses anew g server =
      subst (Ended who means known owner (caller_of a m) b n) (sym (unheard_quiet losing late m loses anew))
      (losing_joins who means known owner losing late a b m n (caller_of a m) nothing_shown run spelled loses anew refl
      (λ root learnt. none_some learnt.reply learnt.takes.took) (rest_first a m g server))

  heard_joins : (place : ℕ) (message : List ℕ) (above : Above) (root : Bool) (losing late : List MountStep) (a b : Above) (m n : Mounted)
      → is_root (taken_at means place message m).0.told ≡ root
      → IsRun who means ((record { move = Takes place message; above = above }) ∷ (losing ++ late)) a m b n
      → AreSpelled means ((record { move = Takes place message; above = above }) ∷ (losing ++ late)) m
      → AreLosing losing → AreAnew late → (root ≡ true → losing ≡ []) → IsGood who m → m.server ≡ owner
      → Joins a b m n ((record { move = Takes place message; above = above }) ∷ (losing ++ late))
  heard_joins place message above root losing late a b m n told run spelled loses anew keeps g server =
      let step : IsStep who means a above m (Takes place message) = record { good = g; goes_on = run.0; may = spelled.0 } in
      let shown = (done means (Takes place message) m).shown in
      losing_joins who means known owner losing late above b (done means (Takes place message) m).mount n (caller_of a m) shown run.3 spelled.1 loses anew refl
      (λ learnt_root learnt. keeps (learns_told a above m place message learnt_root server step learnt root told)) (take_first a above m place message server run.0 step)

  early_joins : (head losing late : List MountStep) (root : Bool) (a b : Above) (m n : Mounted) → (head ≡ []) ⊎ IsTake means m root head
      → IsRun who means (head ++ (losing ++ late)) a m b n → AreSpelled means (head ++ (losing ++ late)) m
      → AreLosing losing → AreAnew late → (root ≡ true → losing ≡ []) → IsGood who m → m.server ≡ owner → Joins a b m n (head ++ (losing ++ late))
  early_joins head losing late root a b m n (inl none) run spelled loses anew keeps g server =
      let rest = losing ++ late in
      subst (λ (h : List MountStep). Joins a b m n (h ++ rest)) (sym none)
      (unheard_joins losing late a b m n (subst (λ (h : List MountStep). IsRun who means (h ++ rest) a m b n) none run)
      (subst (λ (h : List MountStep). AreSpelled means (h ++ rest) m) none spelled) loses anew g server)
  early_joins head losing late root a b m n (inr take) run spelled loses anew keeps g server =
      let rest = losing ++ late in
      subst (λ (h : List MountStep). Joins a b m n (h ++ rest)) (sym take.is)
      (heard_joins take.place take.message take.above root losing late a b m n take.root_is (subst (λ (h : List MountStep). IsRun who means (h ++ rest) a m b n) take.is run)
      (subst (λ (h : List MountStep). AreSpelled means (h ++ rest) m) take.is spelled) loses anew keeps g server)

  pub run_joins : (steps : List MountStep) (a b : Above) (m n : Mounted) → IsRun who means steps a m b n → AreSpelled means steps m
      → IsOrdered means steps m → IsGood who m → m.server ≡ owner → Joins a b m n steps
  run_joins steps a b m n run spelled (inl o) g server =
      subst (Joins a b m n) (sym o.is)
      (early_joins o.head o.losing o.late o.root a b m n o.takes (subst (λ (xs : List MountStep). IsRun who means xs a m b n) o.is run)
      (subst (λ (xs : List MountStep). AreSpelled means xs m) o.is spelled) o.loses o.anew o.keeps_root g server)
  run_joins steps a b m n run spelled (inr again) g server =
      subst (Ended who means known owner (caller_of a m) b n) (sym (all_quiet 0 steps m again))
      (again_joins who means known owner 0 steps a b m n (caller_of a m) nothing_shown run spelled again
      (λ bytes seal name sends is_own named. let lt = sends.1 in absurd (omega arith)) (rest_first a m g server))

-- ---- calls alone go out

module _ (who : Identity) (means : Means) (known : Known who means) where
  run_calls : (steps : List MountStep) (a b : Above) (m n : Mounted) → IsRun who means steps a m b n → AreSpelled means steps m → IsGood who m
      → (bytes : List ℕ) (seal : Option Seal) → wire.Sends (whole means steps m) bytes seal → is_reply bytes ≡ false
  run_calls [] a b m n run spelled g bytes seal sends = let lt = sends.1 in absurd (omega arith)
  run_calls (x ∷ more) a b m n run spelled g bytes seal sends =
      let step : IsStep who means a x.above m x.move = record { good = g; goes_on = run.0; may = run.2 spelled.0 } in
      let k = (done means x.move m).mount in
      elim (Contains-append_cases (done means x.move m).shown.out (whole means more k).out (record { bytes = bytes; seal = seal }) sends) [
        | inl early ↦ (known.calls a x.above m x.move step bytes seal early).is_call
        | inr late ↦ run_calls more x.above b k n run.3 spelled.1 (known.keeps a x.above m x.move step) bytes seal late
      ]

  pub one_step : (steps : List MountStep) (a b : Above) (m n : Mounted) → IsRun who means steps a m b n → AreSpelled means steps m
      → IsOrdered means steps m → IsGood who m → IsOneStep who means steps a b m n
  one_step steps a b m n run spelled ordered g =
      let ended = run_joins who means known m.server steps a b m n run spelled ordered g refl in
      record {
        laws = ended.laws;
        calls = run_calls steps a b m n run spelled g;
        opening = ended.opening;
        good = ended.good;
        server = ended.server;
      }
