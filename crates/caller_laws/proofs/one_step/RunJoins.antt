-- A run of a mount's steps obeys the laws of its server's wire as one step, where it goes in order.
use Rattle.std.proofs.Common.{◌≡◌, ◌∙◌, ◌⊎◌, inl, inr, ℕ, ◌+◌, ◌<◌, ◌≤◌, true, List, [], ◌∷◌, ◌++◌, Contains, Option, Some, None, refl, sym, ap, subst, arith}
use Rattle.std.proofs.lemmas.List.{append-nil, append_assoc}
use Rattle.std.proofs.lemmas.List.Elements.{Contains-append_cases}
use Rattle.std.specs.Prelude.{option_map}
use Rattle.caller_laws.proofs.one_step.RunFacts.{Known, mount_on, no_init, none_some, own_place, rooted_on, stays_elsewhere}
use Rattle.caller_laws.proofs.one_step.Servers.{LeavesRoot, done_server}
use Rattle.caller_laws.specs.Good.{Identity, IsGood}
use Rattle.caller_laws.specs.Joining.{KeepsSent, joined}
use Rattle.caller_laws.specs.JoiningLaws.{joined_obey}
use Rattle.caller_laws.specs.Lawful.{GoesOn, IsStep, May, Suits}
use Rattle.caller_laws.specs.Moves.{Again, Begin, BeginAnew, Falls, Finish, Forgets, GivesUp, InSlot, Make, Move, Reclaim, Rests, Send, Sends, SetUp, Takes, done, nothing_shown}
use Rattle.caller_laws.specs.OneStep.Order.{AreAgain, AreAnew, AreLosing, MayAgain, is_anew, is_losing, next_place}
use Rattle.caller_laws.specs.OneStep.Runs.{AreSpelled, IsRun, MountStep, StaysReady, whole}
use Rattle.caller_laws.specs.View.{Above, awaited_in, caller_of}
use Rattle.mount.specs.State.{Mounted, awaited_at, pending_at, pending_in, root_name}
use Rattle.mount.specs.Taking.{Means}
use Rattle.mount.specs.declared.machine.SendAt.{SendAt}
use Rattle.mount.specs.declared.state.Awaiting.{Awaiting}
use Rattle.nfs_base.specs.declared.seal.End.{End}
use Rattle.nfs_base.specs.declared.seal.Seal.{Seal}
use Rattle.wire_model.specs.CallerLaws.{CallerLaws, LearnsRoot}
use Rattle.wire_model.specs.Spelling.{Context, SlotName}
use Rattle.wire_model.specs.Wire as wire
use Rattle.wire_model.specs.Wire.{Acts, Awaited, Begins, Caller, Purpose, Sent}
use Rattle.wire_spelling.specs.Slots.{slot_of}
use Rattle.wire_spelling.specs.Spelling.{spelling}

-- the same, but for what goes out
abbrev pub with_out : Acts → List Sent → Acts
with_out a sent = record { took = a.took; accepted = a.accepted; executed = a.executed; out = sent }

anew_leaves : (at : SendAt) (send : Send) → is_anew (Sends at send) ≡ true → LeavesRoot send
anew_leaves at (Begin nonce token) e = tt
anew_leaves at BeginAnew e = tt
anew_leaves at (SetUp me back) e = tt
anew_leaves at Reclaim e = tt
anew_leaves at (InSlot under call) e = tt
anew_leaves at (Make child name privilege) e = tt
anew_leaves at (Finish ending) e = absurd cc
anew_leaves at Again e = absurd cc

-- what goes out anew goes to a free place
anew_free : (who : Identity) (above : Above) (m : Mounted) (at : SendAt) (send : Send) → is_anew (Sends at send) ≡ true → Suits who above m at send → awaited_at m at.place ≡ None
anew_free who above m at (Begin nonce token) e s = s.0
anew_free who above m at BeginAnew e s = s.0
anew_free who above m at (SetUp me back) e s = s.0
anew_free who above m at Reclaim e s = s.0
anew_free who above m at (InSlot under call) e s = s.0
anew_free who above m at (Make child name privilege) e s = s
anew_free who above m at (Finish ending) e s = s
anew_free who above m at Again e s = absurd cc

free_awaits : (a : Above) (m : Mounted) (place : ℕ) → awaited_at m place ≡ None → (caller_of a m).awaits place ≡ None
free_awaits a m place free = ap (λ (o : Option Awaiting). option_map (awaited_in m.contexts (a.purpose place)) (pending_in o)) free

nothing_goes : (acts : Acts) (bytes : List ℕ) (seal : Option Seal) → acts.out ≡ [] → wire.Sends acts bytes seal → ⊥
nothing_goes acts bytes seal none sends =
    let it : Sent = record { bytes = bytes; seal = seal } in
    let there = subst (λ (out : List Sent). Contains out it) none sends in
    let lt = there.1 in
    omega arith

-- in these words: the laws of this server's wire
module _ (who : Identity) (means : Means) (known : Known who means) (owner : End) where
  abbrev pub Laws : Caller → Caller → Acts → Type 0
  Laws v w acts = CallerLaws (spelling who.accepts who.whose) owner who.own v w acts

  abbrev pub seen : Above → Mounted → Caller
  seen a m = caller_of a m

  step_of : (a : Above) (m : Mounted) (x : MountStep) → IsGood who m → GoesOn m a x.above → May who means.mic a x.above m x.move
      → IsStep who means a x.above m x.move
  step_of a m x g goes may = record { good = g; goes_on = record { boot = goes.boot; calls = goes.calls; purpose = goes.purpose }; may = may }

  pub laws_of : (a b : Above) (m : Mounted) (move : Move) → m.server ≡ owner → IsStep who means a b m move → Laws (caller_of a m) (caller_of b (done means move m).mount) (done means move m).shown
  laws_of a b m move is step =
      subst (λ (e : End). CallerLaws (spelling who.accepts who.whose) e who.own (caller_of a m) (caller_of b (done means move m).mount) (done means move m).shown) is
      (known.obeys a b m move step)

  -- what holds in the middle of a run, from v on
  pub record Upto (v : Caller) (a : Above) (m : Mounted) (acts : Acts) : Type 0 where
    pub laws : Laws v (seen a m) acts
    pub good : IsGood who m
    pub server : m.server ≡ owner
    pub opening : v.boot ≡ a.boot
    pub unmounted : (root : Context) → LearnsRoot (spelling who.accepts who.whose) owner v acts root → v.mount ≡ None
    pub rooted : (root : Context) → LearnsRoot (spelling who.accepts who.whose) owner v acts root → root_name m.standing ≡ None → ⊥

  -- a root is learnt as before
  learnt_before : (v : Caller) (a b : Acts) (root : Context) → LearnsRoot (spelling who.accepts who.whose) owner v (joined a b) root
      → LearnsRoot (spelling who.accepts who.whose) owner v a root
  learnt_before v a b root l = record {
    seal = l.seal;
    reply = l.reply;
    takes = record { place = l.takes.place; took = l.takes.took; is_reply = l.takes.is_reply; accepted = l.takes.accepted; awaited = l.takes.awaited };
    own = l.own;
    root_is = l.root_is;
  }

  -- one step more, that takes nothing
  more : (v : Caller) (a : Above) (m : Mounted) (acts : Acts) (x : MountStep) → Upto v a m acts
      → (step : IsStep who means a x.above m x.move)
      → (done means x.move m).shown.took ≡ None
      → (acts.out ≡ []) ⊎ KeepsSent (spelling who.accepts who.whose) owner acts (seen a m) (seen x.above (done means x.move m).mount)
      → ((root : Context) → LearnsRoot (spelling who.accepts who.whose) owner v acts root → root_name (done means x.move m).mount.standing ≡ None → ⊥)
      → Upto v x.above (done means x.move m).mount (joined acts (done means x.move m).shown)
  more v a m acts x u step took keeps rooted =
      let n = (done means x.move m).mount in
      let shown = (done means x.move m).shown in
      let second = laws_of a x.above m x.move u.server step in
      let good = known.keeps a x.above m x.move step in
      record {
        laws = joined_obey (spelling who.accepts who.whose) owner who.own v (seen a m) (seen x.above n) acts shown u.laws second
            (record {
              opening = u.opening;
              same_opening = step.goes_on.boot;
              takes_nothing = took;
              calls = λ bytes seal sends. (known.calls a x.above m x.move step bytes seal sends).is_call;
              keeps = keeps;
              unmounted = u.unmounted;
              begun = λ root learnt place xid there. no_init who x.above n good (rooted root learnt) place xid there;
            });
        good = good;
        server = done_server means x.move m ∙ u.server;
        opening = u.opening ∙ step.goes_on.boot;
        unmounted = λ root learnt. u.unmounted root (learnt_before v acts shown root learnt);
        rooted = λ root learnt. rooted root (learnt_before v acts shown root learnt);
      }

  joined_out : (acts b : Acts) → joined acts b ≡ with_out acts (acts.out ++ b.out)
  joined_out acts b = refl

  -- ---- what goes out anew

  keeps_anew : (v : Caller) (a : Above) (m : Mounted) (acts : Acts) (x : MountStep) (at : SendAt) (send : Send) → is_anew (Sends at send) ≡ true
      → StaysReady a x.above → IsStep who means a x.above m (Sends at send)
      → KeepsSent (spelling who.accepts who.whose) owner acts (seen a m) (seen x.above (done means (Sends at send) m).mount)
  keeps_anew v a m acts x at send anew stays step =
      let u = a in
      let w = x.above in
      record {
        mount = λ root there. mount_on who means known u w m at send step (anew_leaves at send anew) root there;
        ready = stays;
        sent = λ bytes seal name y sends is_own named there.
            stays_elsewhere who means known u w m at send step name.slot y
            (λ same.
            let free = free_awaits u m at.place (anew_free who w m at send anew step.may.suits) in
            none_some y (sym free ∙ ap (λ (place : ℕ). (caller_of u m).awaits place) (sym same) ∙ there))
            there;
      }

  keeps_resting : (a : Above) (m : Mounted) (acts : Acts) (x : MountStep) → GoesOn m a x.above → StaysReady a x.above → KeepsSent (spelling who.accepts who.whose) owner acts (seen a m) (seen x.above m)
  keeps_resting a m acts x goes stays = record {
    mount = λ root there. there;
    ready = stays;
    sent = λ bytes seal name y sends is_own named there. resting_awaits a x.above m goes name.slot y there;
  }
    where
      resting_awaits : (a b : Above) (m : Mounted) → GoesOn m a b → (place : ℕ) (y : Awaited) → (seen a m).awaits place ≡ Some y → (seen b m).awaits place ≡ Some y
      resting_awaits a b m goes place y there = by (awaited_at m place) refl
        where
          by : (o : Option Awaiting) → awaited_at m place ≡ o → (seen b m).awaits place ≡ Some y
          by None is = none_some y (sym (free_awaits a m place is) ∙ there)
          by (Some awaiting) is = ap (λ (p : Purpose). option_map (awaited_in m.contexts p) (pending_at m place)) (goes.purpose place awaiting is) ∙ there

  anew_step : (v : Caller) (a : Above) (m : Mounted) (acts : Acts) (above : Above) (move : Move) → is_anew move ≡ true → Upto v a m acts
      → (step : IsStep who means a above m move) → GoesOn m a above → StaysReady a above
      → Upto v above (done means move m).mount (joined acts (done means move m).shown)
  anew_step v a m acts above (Sends at send) anew u step goes stays =
      more v a m acts (record { move = Sends at send; above = above }) u step refl (inr (keeps_anew v a m acts (record { move = Sends at send; above = above }) at send anew stays step))
      (λ root learnt none. rooted_on who means known a above m at send step (anew_leaves at send anew) (u.rooted root learnt) none)
  anew_step v a m acts above Rests anew u step goes stays =
      more v a m acts (record { move = Rests; above = above }) u step refl (inr (keeps_resting a m acts (record { move = Rests; above = above }) goes stays)) (λ root learnt none. u.rooted root learnt none)
  anew_step v a m acts above (Takes place message) anew u step goes stays = absurd cc
  anew_step v a m acts above (GivesUp place) anew u step goes stays = absurd cc
  anew_step v a m acts above (Forgets child) anew u step goes stays = absurd cc
  anew_step v a m acts above Falls anew u step goes stays = absurd cc

  -- in the end, with all that went out
  pub record Ended (v : Caller) (b : Above) (n : Mounted) (acts : Acts) : Type 0 where
    pub laws : Laws v (seen b n) acts
    pub opening : v.boot ≡ b.boot
    pub good : IsGood who n
    pub server : n.server ≡ owner

  ends : (v : Caller) (a b : Above) (m n : Mounted) (acts : Acts) → Upto v a m acts → b ≡ a → n ≡ m → Ended v b n (with_out acts (acts.out ++ []))
  ends v a b m n acts u above mount =
      subst (λ (x : Above). Ended v x n (with_out acts (acts.out ++ []))) (sym above)
      (subst (λ (x : Mounted). Ended v a x (with_out acts (acts.out ++ []))) (sym mount)
      (subst (λ (sent : List Sent). Ended v a m (with_out acts sent)) (sym (append-nil acts.out)) (record { laws = u.laws; opening = u.opening; good = u.good; server = u.server })))

  grows : (v : Caller) (b : Above) (n : Mounted) (acts shown : Acts) (rest : List Sent) → Ended v b n (with_out (joined acts shown) ((joined acts shown).out ++ rest))
      → Ended v b n (with_out acts (acts.out ++ (shown.out ++ rest)))
  grows v b n acts shown rest e = subst (λ (sent : List Sent). Ended v b n (with_out acts sent)) (append_assoc acts.out shown.out rest) e

  pub late_joins : (late : List MountStep) (a b : Above) (m n : Mounted) (v : Caller) (acts : Acts) → IsRun who means late a m b n → AreSpelled means late m
      → AreAnew late → Upto v a m acts → Ended v b n (with_out acts (acts.out ++ (whole means late m).out))
  late_joins [] a b m n v acts run spelled anew u = ends v a b m n acts u run.0 run.1
  late_joins (x ∷ more_steps) a b m n v acts run spelled anew u =
      let step = step_of a m x u.good run.0 (run.2 spelled.0) in
      let shown = (done means x.move m).shown in
      let next = anew_step v a m acts x.above x.move anew.0 u step run.0 run.1 in
      grows v b n acts shown ((whole means more_steps (done means x.move m).mount).out)
      (late_joins more_steps x.above b (done means x.move m).mount n v (joined acts shown) run.3 spelled.1 anew.1 next)

  -- ---- before that, what loses and sends nothing

  losing_shows : (move : Move) (m : Mounted) → is_losing move ≡ true → (done means move m).shown ≡ nothing_shown
  losing_shows (GivesUp place) m e = refl
  losing_shows (Forgets child) m e = refl
  losing_shows Falls m e = refl
  losing_shows Rests m e = refl
  losing_shows (Sends at send) m e = absurd cc
  losing_shows (Takes place message) m e = absurd cc

  pub losing_joins : (losing late : List MountStep) (a b : Above) (m n : Mounted) (v : Caller) (acts : Acts) → IsRun who means (losing ++ late) a m b n → AreSpelled means (losing ++ late) m
      → AreLosing losing → AreAnew late → acts.out ≡ []
      → ((root : Context) → LearnsRoot (spelling who.accepts who.whose) owner v acts root → losing ≡ [])
      → Upto v a m acts → Ended v b n (with_out acts (acts.out ++ (whole means (losing ++ late) m).out))
  losing_joins [] late a b m n v acts run spelled loses anew none keeps u = late_joins late a b m n v acts run spelled anew u
  losing_joins (x ∷ losing) late a b m n v acts run spelled loses anew none keeps u =
      let step = step_of a m x u.good run.0 (run.2 spelled.0) in
      let shown = (done means x.move m).shown in
      let shows = losing_shows x.move m loses.0 in
      let never : (root : Context) → LearnsRoot (spelling who.accepts who.whose) owner v acts root → ⊥ = λ root learnt. let gone = keeps root learnt in absurd cc in
      let next = more v a m acts x u step (ap (λ (s : Acts). s.took) shows) (inl none) (λ root learnt. absurd (never root learnt)) in
      let silent : (joined acts shown).out ≡ [] = ap (λ (s : Acts). acts.out ++ s.out) shows ∙ append-nil acts.out ∙ none in
      grows v b n acts shown ((whole means (losing ++ late) (done means x.move m).mount).out)
      (losing_joins losing late x.above b (done means x.move m).mount n v (joined acts shown) run.3 spelled.1 loses.1 anew silent
      (λ root learnt. absurd (never root (learnt_before v acts shown root learnt))) next)

  -- ---- what goes out once more, upwards

  abbrev pub SentBelow : ℕ → Acts → Type 0
  SentBelow low acts = (bytes : List ℕ) (seal : Seal) (name : SlotName) → wire.Sends acts bytes (Some seal) → seal.owner ≡ owner → slot_of bytes ≡ Some name → name.slot < low

  keeps_again : (a : Above) (m : Mounted) (acts : Acts) (above : Above) (at : SendAt) (low : ℕ) → low ≤ at.place → SentBelow low acts
      → StaysReady a above → IsStep who means a above m (Sends at Again)
      → KeepsSent (spelling who.accepts who.whose) owner acts (seen a m) (seen above (done means (Sends at Again) m).mount)
  keeps_again a m acts above at low le below stays step =
      let u = a in
      let w = above in
      record {
        mount = λ root there. mount_on who means known u w m at Again step tt root there;
        ready = stays;
        sent = λ bytes seal name y sends is_own named there.
            let lower : name.slot < low = below bytes seal name sends is_own named in
            stays_elsewhere who means known u w m at Again step name.slot y (λ same. let equal : name.slot ≡ at.place = same in omega arith) there;
      }

  sent_more : (a : Above) (m : Mounted) (acts : Acts) (above : Above) (at : SendAt) (low : ℕ) → low ≤ at.place → SentBelow low acts → m.server ≡ owner
      → IsStep who means a above m (Sends at Again) → SentBelow (at.place + 1) (joined acts (done means (Sends at Again) m).shown)
  sent_more a m acts above at low le below server step bytes seal name sends is_own named =
      let shown = (done means (Sends at Again) m).shown in
      let it : Sent = record { bytes = bytes; seal = Some seal } in
      elim (Contains-append_cases acts.out shown.out it sends) [
        | inl early ↦ let lower : name.slot < low = below bytes seal name early is_own named in omega arith
        | inr late ↦
            let same : name.slot ≡ at.place = own_place who means known a above m at Again step bytes seal name late (is_own ∙ sym server) named in
            omega arith
      ]

  sent_still : (acts : Acts) (low : ℕ) → SentBelow low acts → SentBelow low (joined acts nothing_shown)
  sent_still acts low below bytes seal name sends is_own named =
      let it : Sent = record { bytes = bytes; seal = Some seal } in
      elim (Contains-append_cases acts.out [] it sends) [
        | inl early ↦ below bytes seal name early is_own named
        | inr late ↦ let lt = late.1 in absurd (omega arith)
      ]

  -- one step of it
  record GoneOn (v : Caller) (above : Above) (m : Mounted) (acts : Acts) (move : Move) (low : ℕ) : Type 0 where
    upto : Upto v above (done means move m).mount (joined acts (done means move m).shown)
    below : SentBelow (next_place low move) (joined acts (done means move m).shown)

  again_step : (v : Caller) (a : Above) (m : Mounted) (acts : Acts) (above : Above) (move : Move) (low : ℕ) → MayAgain low move → SentBelow low acts → Upto v a m acts
      → (step : IsStep who means a above m move) → GoesOn m a above → StaysReady a above → GoneOn v above m acts move low
  again_step v a m acts above (Sends at Again) low may below u step goes stays = record {
    upto =
        more v a m acts (record { move = Sends at Again; above = above }) u step refl (inr (keeps_again a m acts above at low may below stays step))
        (λ root learnt none. rooted_on who means known a above m at Again step tt (u.rooted root learnt) none);
    below = sent_more a m acts above at low may below u.server step;
  }
  again_step v a m acts above Rests low may below u step goes stays = record {
    upto =
        more v a m acts (record { move = Rests; above = above }) u step refl (inr (keeps_resting a m acts (record { move = Rests; above = above }) goes stays))
        (λ root learnt none. u.rooted root learnt none);
    below = sent_still acts low below;
  }
  again_step v a m acts above (Sends at (Begin nonce token)) low may below u step goes stays = absurd may
  again_step v a m acts above (Sends at BeginAnew) low may below u step goes stays = absurd may
  again_step v a m acts above (Sends at (SetUp me back)) low may below u step goes stays = absurd may
  again_step v a m acts above (Sends at Reclaim) low may below u step goes stays = absurd may
  again_step v a m acts above (Sends at (InSlot under call)) low may below u step goes stays = absurd may
  again_step v a m acts above (Sends at (Make child name privilege)) low may below u step goes stays = absurd may
  again_step v a m acts above (Sends at (Finish ending)) low may below u step goes stays = absurd may
  again_step v a m acts above (Takes place message) low may below u step goes stays = absurd may
  again_step v a m acts above (GivesUp place) low may below u step goes stays = absurd may
  again_step v a m acts above (Forgets child) low may below u step goes stays = absurd may
  again_step v a m acts above Falls low may below u step goes stays = absurd may

  pub again_joins : (low : ℕ) (steps : List MountStep) (a b : Above) (m n : Mounted) (v : Caller) (acts : Acts) → IsRun who means steps a m b n → AreSpelled means steps m
      → AreAgain low steps → SentBelow low acts → Upto v a m acts → Ended v b n (with_out acts (acts.out ++ (whole means steps m).out))
  again_joins low [] a b m n v acts run spelled again below u = ends v a b m n acts u run.0 run.1
  again_joins low (x ∷ more_steps) a b m n v acts run spelled again below u =
      let step = step_of a m x u.good run.0 (run.2 spelled.0) in
      let shown = (done means x.move m).shown in
      let next = again_step v a m acts x.above x.move low again.0 below u step run.0 run.1 in
      grows v b n acts shown ((whole means more_steps (done means x.move m).mount).out)
      (again_joins (next_place low x.move) more_steps x.above b (done means x.move m).mount n v (joined acts shown) run.3 spelled.1 again.1 next.below next.upto)
