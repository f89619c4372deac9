-- What is done over a desk, at one server: steps of its mount, each of which it may take, and what goes out there.
use Rattle.std.proofs.Common.{◌≡◌, ◌≢◌, ◌∙◌, ℕ, ◌+◌, ◌<◌, ◌≤◌, Bool, true, false, List, [], ◌∷◌, ◌++◌, Option, Some, None, refl, sym, ap, subst, inl, inr, ◌⊎◌, arith}
use Rattle.std.specs.Prelude.{is_some, ◌==◌, ◌&&◌, min, nat_lt, not, is_none, if◌then◌else◌, ◌||◌, map}
use Rattle.std.specs.List.{AllByRecursion, flat_map}
use Rattle.std.proofs.lemmas.Bool.{ltb-true}
use Rattle.std.proofs.lemmas.Grind.{flat_map-append}
use Rattle.std.proofs.lemmas.List.{append-nil, append_assoc}
use Rattle.caller_laws.specs.Fitting.Moving.{GivesBytes, SendsFit}
use Rattle.caller_laws.specs.Good.{Identity}
use Rattle.caller_laws.specs.Lawful.{Suits}
use Rattle.caller_laws.specs.Moves.{Rests, Send, Sends, out_of, sent_by}
use Rattle.caller_laws.specs.OneStep.Runs.{MountStep}
use Rattle.caller_laws.specs.View.{Above}
use Rattle.client_copies.specs.Table.{Copies}
use Rattle.client_laws.proofs.Asking.{Stays, stays_same, stays_then}
use Rattle.client_laws.proofs.Changed.{all_behind}
use Rattle.client_laws.proofs.MountRuns.{AllFit, acts_append, fit_append, run_append}
use Rattle.client_laws.proofs.RunKinds.{Anew, IsOf, Joins, Kind, MayRest, anew_twice, count_append, is_loud, numbers_append, numbers_to_append, rest_is}
use Rattle.client_laws.specs.CallerLaws.{AllAsk, AsksIn, IsMountRun, PurposesFit, above_by, acts_in, call_if, calls_to, goes_to, is_call, purpose_after, taken_in}
use Rattle.client_laws.specs.Order.{count_behind, numbers_in, numbers_to}
use Rattle.client_site.specs.Sending.{at_site, may_go, sent_if}
use Rattle.client_site.specs.declared.site.Site.{Site}
use Rattle.client_steps.specs.Desks.{going, next_xid, put_out, send_at, sent_out, site_at, with_site}
use Rattle.client_steps.specs.declared.desk.Desk.{Desk}
use Rattle.gss_ctx.specs.Seals.{Mic}
use Rattle.mount.specs.Laws.{Goes, Went}
use Rattle.mount.specs.State.{Mounted, awaited_at, has_numbers}
use Rattle.mount.specs.Taking.{Means}
use Rattle.mount.specs.declared.machine.SendAt.{SendAt}
use Rattle.mount.specs.declared.machine.Sent.{Sent}
use Rattle.mount.specs.declared.state.Awaiting.{Awaiting}
use Rattle.mount.specs.declared.state.TheConstants.{PLACES}
use Rattle.nfs_base.specs.declared.seal.Seal.{Seal}
use Rattle.nfs_base.specs.declared.side.Side.{Side}
use Rattle.nfs_base.specs.declared.side.Side.TheVariants.{Source, Dest}
use Rattle.outbox.specs.declared.label.CallLabel.{CallLabel}
use Rattle.outbox.specs.declared.label.Label.TheVariants as labels
use Rattle.outbox.specs.declared.outgoing.Outgoing.{Outgoing}
use Rattle.wire_model.specs.Wire as wire
use Rattle.wire_model.specs.Wire.{Acts, Purpose}

abbrev pub mount_in : Side → Desk → Mounted
mount_in side d = (site_at side d).mount

-- what is sent and taken in a run
abbrev pub outs_of : List Acts → List wire.Sent
outs_of acts = flat_map (λ (a : Acts). a.out) acts

abbrev pub takes_of : List Acts → List (List ℕ × Option Seal)
takes_of acts = flat_map taken_in acts

calls_append : (side : Side) (xs ys : List Outgoing) → calls_to side (xs ++ ys) ≡ calls_to side xs ++ calls_to side ys
calls_append side xs ys = flat_map-append (λ (one : Outgoing). call_if (goes_to side one.to && is_call one.label) one) xs ys

-- What goes out besides calls is so; and where it is sure that what is known is fit, the codes are bytes.
pub record Post (mic : Mic) : Type 1 where
  pub of : Outgoing → Type 0
  pub sure : Type 0
  pub codes : sure → GivesBytes mic

-- where nothing is sure
abbrev pub unsure : (mic : Mic) → Post mic
unsure mic = record { of = λ one. Unit {0}; sure = ⊥; codes = λ no. absurd no }

-- ---- at one server

pub record Ran (sure : Type 0) (who : Identity) (means : Means) (boot : ℕ) (kind : Kind) (side : Side) (purpose : ℕ → Purpose) (taken : List (List ℕ × Option Seal)) (more : List Outgoing)
    (d e : Desk) : Type 0 where
  pub after : ℕ → Purpose
  pub steps : List MountStep
  pub run : IsMountRun who means steps (above_by boot d.calls purpose d.copies) (mount_in side d) (above_by boot e.calls after e.copies) (mount_in side e)
  pub outs : outs_of (acts_in means steps (mount_in side d)) ≡ calls_to side more
  pub takes : takes_of (acts_in means steps (mount_in side d)) ≡ taken
  pub asks : (t : Copies) → (is_loud kind ≡ true → Stays e.copies t) → AllAsk t steps
  pub order : IsOf kind means steps (mount_in side d)
  pub numbers : numbers_in means steps (mount_in side d) ≡ numbers_to side d.calls more
  pub fit : sure → AllFit means steps (mount_in side d)

-- what goes out is a call to a server, or as it should be
abbrev pub IsPosted : (Outgoing → Type 0) → Outgoing → Type 0
IsPosted post one = ((is_call one.label ≡ true) × ((goes_to Source one.to || goes_to Dest one.to) ≡ true)) ⊎ ((is_call one.label ≡ false) × post one)

-- while there is an xid left
-- whatever the slots are for
abbrev pub any : (ℕ → Purpose) → Type 0
any purpose = Unit {0}

pub record Runs (who : Identity) (means : Means) (boot : ℕ) (post : Post means.mic) (pre : (ℕ → Purpose) → Type 0) (kind : Kind) (side : Side)
    (taken : List (List ℕ × Option Seal)) (seal : Option Seal → Option Seal) (d e : Desk) : Type 0 where
  pub grows : e.calls < 4294967295 → d.calls ≤ e.calls
  pub accepted : e.out.accepted ≡ seal d.out.accepted
  pub more : List Outgoing
  pub sent : e.out.sent ≡ d.out.sent ++ more
  pub posted : AllByRecursion (IsPosted post.of) more
  pub counts : e.calls < 4294967295 → e.calls ≡ count_behind d.calls more
  pub ran : (purpose : ℕ → Purpose) → e.calls < 4294967295 → Ran post.sure who means boot kind side purpose taken more d e
  pub fits : (purpose : ℕ → Purpose) (small : e.calls < 4294967295) → pre purpose → PurposesFit side purpose d.copies
      → PurposesFit side (ran purpose small).after e.copies

-- nothing of the mount changes, nor the count of calls, and nothing goes out
pub record IsKept (side : Side) (d e : Desk) : Type 0 where
  pub mount : mount_in side e ≡ mount_in side d
  pub calls : e.calls ≡ d.calls
  pub sent : e.out.sent ≡ d.out.sent
  pub accepted : e.out.accepted ≡ d.out.accepted

-- the seal stays
abbrev pub same_seal : Option Seal → Option Seal
same_seal seal = seal

fewer_calls : (e f : ℕ) → (f < 4294967295 → e ≤ f) → f < 4294967295 → e < 4294967295
fewer_calls e f grows small = let later = grows small in omega arith

pub no_calls : false ≡ true → ⊥
no_calls e = absurd cc

-- what goes out changes no copies
sent_copies : (there : Side) (label : CallLabel) (o : Option Sent) (s : Site) (d : Desk) → (sent_out there label o (with_site there s d)).copies ≡ d.copies
sent_copies Source label None s d = refl
sent_copies Source label (Some sent) s d = refl
sent_copies Dest label None s d = refl
sent_copies Dest label (Some sent) s d = refl

pub put_copies : (there : Side) (label : CallLabel) (o : Option Sent × Site) (d : Desk) → (put_out there label o d).1.copies ≡ d.copies
put_copies there label o d = sent_copies there label o.0 o.1 d

-- what the client does of itself leaves what copies' calls ask by, where any goes out
pub record Own (who : Identity) (means : Means) (boot : ℕ) (post : Post means.mic) (kind : Kind) (side : Side) (d e : Desk) : Type 0 where
  pub runs : Runs who means boot post any kind side [] same_seal d e
  pub stays : is_loud kind ≡ true → Stays d.copies e.copies

pub silent_stays : {A : Type 0} (b : Bool) → b ≡ false → b ≡ true → A
silent_stays b silent loud =
    let e : false ≡ true = sym silent ∙ loud in
    absurd (no_calls e)

abbrev pub IsOther : Side → Side → Type 0
IsOther Source Dest = Unit {0}
IsOther Dest Source = Unit {0}
IsOther _ _ = ⊥

pub here_or_other : (side there : Side) → (side ≡ there) ⊎ IsOther side there
here_or_other Source Source = inl refl
here_or_other Dest Dest = inl refl
here_or_other Source Dest = inr tt
here_or_other Dest Source = inr tt

pub other_apart : (side there : Side) → IsOther side there → side ≡ there → ⊥
other_apart Source Source x e = x
other_apart Dest Dest x e = x
other_apart Source Dest x e = absurd cc
other_apart Dest Source x e = absurd cc

module _ (who : Identity) (means : Means) (boot : ℕ) (post : Post means.mic) where
  compose : (pre then_pre : (ℕ → Purpose) → Type 0) (a b c : Kind) → Joins a b c → (side : Side) (xs ys : List (List ℕ × Option Seal)) (first second : Option Seal → Option Seal)
      (d e f : Desk)
      → ((t : Copies) → (is_loud c ≡ true → Stays f.copies t) → is_loud a ≡ true → Stays e.copies t)
      → ((t : Copies) → (is_loud c ≡ true → Stays f.copies t) → is_loud b ≡ true → Stays f.copies t)
      → (x : Runs who means boot post pre a side xs first d e)
      → ((purpose : ℕ → Purpose) (small : e.calls < 4294967295) → pre purpose → then_pre (x.ran purpose small).after)
      → Runs who means boot post then_pre b side ys second e f → Runs who means boot post pre c side (xs ++ ys) (λ seal. second (first seal)) d f
  compose pre then_pre a b c joins side xs ys first second d e f before behind x ready y = record {
    grows = λ small. let later = y.grows small in let sooner = x.grows (omega arith) in omega arith;
    accepted = y.accepted ∙ ap second x.accepted;
    more = x.more ++ y.more;
    sent = y.sent ∙ ap (λ (os : List Outgoing). os ++ y.more) x.sent ∙ append_assoc d.out.sent x.more y.more;
    posted = all_behind (IsPosted post.of) x.more y.more x.posted y.posted;
    counts = λ small.
        let fewer = fewer_calls e.calls f.calls y.grows small in
        y.counts small ∙ ap (λ (n : ℕ). count_behind n y.more) (x.counts fewer) ∙ sym (count_append d.calls x.more y.more);
    ran = λ purpose small.
        let fewer = fewer_calls e.calls f.calls y.grows small in
        let r = x.ran purpose fewer in
        let s = y.ran r.after small in
        let b = above_by boot e.calls r.after e.copies in
        let acts = acts_append who means r.steps s.steps (above_by boot d.calls purpose d.copies) (mount_in side d) b (mount_in side e) r.run in
        record {
          after = s.after;
          steps = r.steps ++ s.steps;
          run = run_append who means r.steps s.steps (above_by boot d.calls purpose d.copies) (mount_in side d) b (mount_in side e)
              (above_by boot f.calls s.after f.copies) (mount_in side f) r.run s.run;
          outs =
              ap outs_of acts ∙ flat_map-append (λ (a : Acts). a.out) (acts_in means r.steps (mount_in side d)) (acts_in means s.steps (mount_in side e))
              ∙ ap (λ (ss : List wire.Sent). ss ++ outs_of (acts_in means s.steps (mount_in side e))) r.outs
              ∙ ap (λ (ss : List wire.Sent). calls_to side x.more ++ ss) s.outs
              ∙ sym (calls_append side x.more y.more);
          takes =
              ap takes_of acts ∙ flat_map-append taken_in (acts_in means r.steps (mount_in side d)) (acts_in means s.steps (mount_in side e))
              ∙ ap (λ (ts : List (List ℕ × Option Seal)). ts ++ takes_of (acts_in means s.steps (mount_in side e))) r.takes
              ∙ ap (λ (ts : List (List ℕ × Option Seal)). xs ++ ts) s.takes;
          asks = λ t stays.
              all_behind (λ (step : MountStep). AsksIn t step.move) r.steps s.steps (r.asks t (before t stays)) (s.asks t (behind t stays));
          order = joins means r.steps s.steps (mount_in side d) (mount_in side e) r.order s.order;
          numbers =
              numbers_append who means r.steps s.steps (above_by boot d.calls purpose d.copies) (mount_in side d) b (mount_in side e) r.run
              ∙ ap (λ (ns : List ℕ). ns ++ numbers_in means s.steps (mount_in side e)) r.numbers
              ∙ ap (λ (ns : List ℕ). numbers_to side d.calls x.more ++ ns) (s.numbers ∙ ap (λ (n : ℕ). numbers_to side n y.more) (x.counts fewer))
              ∙ sym (numbers_to_append side d.calls x.more y.more);
          fit = λ sure.
              fit_append who means r.steps s.steps (above_by boot d.calls purpose d.copies) (mount_in side d) b (mount_in side e) r.run (r.fit sure) (s.fit sure);
        };
    fits = λ purpose small given fit.
        let fewer = fewer_calls e.calls f.calls y.grows small in
        y.fits (x.ran purpose fewer).after small (ready purpose fewer given) (x.fits purpose fewer given fit);
  }

  -- behind one in which no copy's call goes out anew
  pub runs_then : (a b c : Kind) → Joins a b c → is_loud a ≡ false → (is_loud b ≡ true → is_loud c ≡ true) → (side : Side) (xs ys : List (List ℕ × Option Seal))
      (first second : Option Seal → Option Seal) (d e f : Desk)
      → Runs who means boot post any a side xs first d e → Runs who means boot post any b side ys second e f
      → Runs who means boot post any c side (xs ++ ys) (λ seal. second (first seal)) d f
  runs_then a b c joins silent louder side xs ys first second d e f x y =
      compose any any a b c joins side xs ys first second d e f (λ t stays loud. silent_stays (is_loud a) silent loud) (λ t stays loud. stays (louder loud)) x
      (λ purpose small given. tt) y

  -- two of one kind, where what copies' calls ask by stays if any goes out
  pub chain : (k : Kind) → Joins k k k → (side : Side) (xs ys : List (List ℕ × Option Seal)) (first second : Option Seal → Option Seal) (d e f : Desk)
      → (is_loud k ≡ true → Stays e.copies f.copies) → Runs who means boot post any k side xs first d e → Runs who means boot post any k side ys second e f
      → Runs who means boot post any k side (xs ++ ys) (λ seal. second (first seal)) d f
  chain k twice side xs ys first second d e f stay x y =
      compose any any k k k twice side xs ys first second d e f (λ t stays loud. stays_then e.copies f.copies t (stay loud) (stays loud)) (λ t stays loud. stays loud) x
      (λ purpose small given. tt) y

  -- a call went out, by which the copy is told so
  pub sent_then : (then_pre : (ℕ → Purpose) → Type 0) (side : Side) (d e f : Desk) → Stays e.copies f.copies → (x : Runs who means boot post any Anew side [] same_seal d e)
      → ((purpose : ℕ → Purpose) (small : e.calls < 4294967295) → then_pre (x.ran purpose small).after)
      → Runs who means boot post then_pre Anew side [] same_seal e f → Runs who means boot post any Anew side [] same_seal d f
  sent_then then_pre side d e f stay x ready y =
      compose any then_pre Anew Anew Anew anew_twice side [] [] same_seal same_seal d e f (λ t stays loud. stays_then e.copies f.copies t stay (stays loud)) (λ t stays loud. stays loud) x
      (λ purpose small given. ready purpose small) y

  -- a run of one kind is one of another
  pub reshaped : {pre : (ℕ → Purpose) → Type 0} (a b : Kind) → (is_loud a ≡ true → is_loud b ≡ true) → ((steps : List MountStep) (m : Mounted) → IsOf a means steps m → IsOf b means steps m)
      → (side : Side) (xs : List (List ℕ × Option Seal)) (seal : Option Seal → Option Seal) (d e : Desk) → Runs who means boot post pre a side xs seal d e
      → Runs who means boot post pre b side xs seal d e
  reshaped a b louder shape side xs seal d e x = record {
    grows = x.grows;
    accepted = x.accepted;
    more = x.more;
    sent = x.sent;
    posted = x.posted;
    counts = x.counts;
    ran = λ purpose small.
        let r = x.ran purpose small in
        record {
          after = r.after;
          steps = r.steps;
          run = r.run;
          outs = r.outs;
          takes = r.takes;
          asks = λ t stays. r.asks t (λ loud. stays (louder loud));
          order = shape r.steps (mount_in side d) r.order;
          numbers = r.numbers;
          fit = r.fit;
        };
    fits = λ purpose small given fit. x.fits purpose small given fit;
  }

  -- nothing happens to the mount, though calls may go out elsewhere, and answers
  pub rests : (pre : (ℕ → Purpose) → Type 0) (k : Kind) → MayRest k → (side : Side) (seal : Option Seal → Option Seal) (d e : Desk) (more : List Outgoing) → mount_in side e ≡ mount_in side d
      → (e.calls < 4294967295 → d.calls ≤ e.calls) → e.out.sent ≡ d.out.sent ++ more → calls_to side more ≡ []
      → AllByRecursion (IsPosted post.of) more → (e.calls < 4294967295 → e.calls ≡ count_behind d.calls more) → numbers_to side d.calls more ≡ []
      → e.out.accepted ≡ seal d.out.accepted
      → ((purpose : ℕ → Purpose) → pre purpose → PurposesFit side purpose d.copies → PurposesFit side purpose e.copies) → Runs who means boot post pre k side [] seal d e
  rests pre k may side seal d e more same grows sent none posted counts numbers accepted fits = record {
    grows = grows;
    accepted = accepted;
    more = more;
    sent = sent;
    posted = posted;
    counts = counts;
    ran = λ purpose small. record {
      after = purpose;
      steps = (record { move = Rests; above = above_by boot e.calls purpose e.copies }) ∷ [];
      run = (record { boot = refl; calls = grows small; purpose = λ place a is. refl }, refl, λ spelled. tt, (refl, same));
      outs = sym none;
      takes = refl;
      asks = λ t stays. (tt, tt);
      order = rest_is k may means (above_by boot e.calls purpose e.copies) (mount_in side d);
      numbers = sym numbers;
      fit = λ sure. (tt, tt);
    };
    fits = λ purpose small given fit. fits purpose given fit;
  }

  pub kept_when : (pre : (ℕ → Purpose) → Type 0) (k : Kind) → MayRest k → (side : Side) (d e : Desk) → IsKept side d e
      → ((purpose : ℕ → Purpose) → pre purpose → PurposesFit side purpose d.copies → PurposesFit side purpose e.copies) → Runs who means boot post pre k side [] same_seal d e
  kept_when pre k may side d e x fits =
      let calls = x.calls in
      rests pre k may side same_seal d e [] x.mount (λ small. omega arith) (x.sent ∙ sym (append-nil d.out.sent)) refl tt (λ small. calls) refl x.accepted fits

  pub kept : (k : Kind) → MayRest k → (side : Side) (d e : Desk) → IsKept side d e
      → ((purpose : ℕ → Purpose) → PurposesFit side purpose d.copies → PurposesFit side purpose e.copies) → Runs who means boot post any k side [] same_seal d e
  kept k may side d e x fits = kept_when any k may side d e x (λ purpose given fit. fits purpose fit)

  pub none : (k : Kind) → MayRest k → (side : Side) (d : Desk) → Runs who means boot post any k side [] same_seal d d
  none k may side d = kept k may side d d (record { mount = refl; calls = refl; sent = refl; accepted = refl }) (λ purpose fit. fit)

  -- ---- a call goes out

  -- where the call is
  record IsPlaced (side : Side) (s : Site) (calls : ℕ) (more : List Outgoing) (d e : Desk) : Type 0 where
    site : site_at side e ≡ s
    calls_are : e.calls ≡ calls
    copies : e.copies ≡ d.copies
    sent : e.out.sent ≡ d.out.sent ++ more
    accepted : e.out.accepted ≡ d.out.accepted

  placed : (side : Side) (label : CallLabel) (sent : Sent) (s : Site) (d : Desk)
      → IsPlaced side s (next_xid d.calls) (going side sent.bytes sent.seal (labels.Call label) ∷ []) d (sent_out side label (Some sent) (with_site side s d))
  placed Source label sent s d = record { site = refl; calls_are = refl; copies = refl; sent = refl; accepted = refl }
  placed Dest label sent s d = record { site = refl; calls_are = refl; copies = refl; sent = refl; accepted = refl }

  call_here : (side : Side) (label : CallLabel) (sent : Sent) → out_of (Some sent) ≡ calls_to side (going side sent.bytes sent.seal (labels.Call label) ∷ [])
  call_here Source label sent = refl
  call_here Dest label sent = refl

  number_here : (side : Side) (label : CallLabel) (sent : Sent) (n : ℕ) → numbers_to side n (going side sent.bytes sent.seal (labels.Call label) ∷ []) ≡ (n + 1) ∷ []
  number_here Source label sent n = refl
  number_here Dest label sent n = refl

  call_is_posted : (side : Side) (label : CallLabel) (sent : Sent) → AllByRecursion (IsPosted post.of) (going side sent.bytes sent.seal (labels.Call label) ∷ [])
  call_is_posted Source label sent = (inl (refl, refl), tt)
  call_is_posted Dest label sent = (inl (refl, refl), tt)

  kept_site : (side : Side) (s : Site) (d : Desk) → s.mount ≡ mount_in side d → IsKept side d (with_site side s d)
  kept_site Source s d same = record { mount = same; calls = refl; sent = refl; accepted = refl }
  kept_site Dest s d same = record { mount = same; calls = refl; sent = refl; accepted = refl }

  -- what a send wants, and that what is awaited stays for what it is
  pub record MayGo (k : Kind) (side there : Side) (d : Desk) (place : ℕ) (send : Send) : Type 0 where
    pub unused : (mount_in there d).calls < next_xid d.calls
    pub suits : (purpose : ℕ → Purpose) (calls : ℕ)
        → Suits who (above_by boot calls (purpose_after (Sends (send_at place d) send) purpose) d.copies) (mount_in there d) (send_at place d) send
    pub stays : (purpose : ℕ → Purpose) (other : ℕ) (a : Awaiting) → awaited_at (mount_in there d) other ≡ Some a
        → purpose_after (Sends (send_at place d) send) purpose other ≡ purpose other
    pub asks : (t : Copies) → (is_loud k ≡ true → Stays d.copies t) → AsksIn t (Sends (send_at place d) send)
    pub order : side ≡ there → (above : Above) (m : Mounted) → IsOf k means ((record { move = Sends (send_at place d) send; above = above }) ∷ []) m
    pub fits : (purpose : ℕ → Purpose) → PurposesFit there purpose d.copies → PurposesFit there (purpose_after (Sends (send_at place d) send) purpose) d.copies
    pub bounds : post.sure → SendsFit (mount_in there d) (send_at place d) send

  -- it went out, or nothing did; where it did, the slot is for it
  pub record Puts (k : Kind) (side there : Side) (place : ℕ) (send : Send) (d : Desk) (e : Bool × Desk) : Type 0 where
    pub runs : Runs who means boot post any k side [] same_seal d e.1
    pub for_it : side ≡ there → e.0 ≡ true → (purpose : ℕ → Purpose) (small : e.1.calls < 4294967295)
        → (runs.ran purpose small).after ≡ purpose_after (Sends (send_at place d) send) purpose

  own_sent : (k : Kind) → MayRest k → (side : Side) (label : CallLabel) (place : ℕ) (send : Send) (d : Desk) (o : Option Sent) → place < PLACES → MayGo k side side d place send
      → Went (send_at place d) (mount_in side d) (sent_by means.mic (send_at place d) send (mount_in side d))
      → (sent_by means.mic (send_at place d) send (mount_in side d)).0 ≡ o
      → Puts k side side place send d
      (is_some o, sent_out side label o (with_site side (record (site_at side d) { mount = (sent_by means.mic (send_at place d) send (mount_in side d)).1 }) d))
  own_sent k may side label place send d None within go went is =
      let w = (sent_by means.mic (send_at place d) send (mount_in side d)).1 in
      let same : w ≡ mount_in side d = subst (λ (o : Option Sent). Goes (send_at place d) (mount_in side d) o w) is went in
      let s : Site = record (site_at side d) { mount = w } in
      record {
        runs =
            kept k may side d (with_site side s d) (kept_site side s d same)
            (λ purpose fit. subst (PurposesFit side purpose) (sym (sent_copies side label None s d)) fit);
        for_it = λ here none. absurd (no_calls none);
      }
  own_sent k may side label place send d (Some sent) within go went is =
      let at = send_at place d in
      let w = (sent_by means.mic at send (mount_in side d)).1 in
      let s : Site = record (site_at side d) { mount = w } in
      let e = sent_out side label (Some sent) (with_site side s d) in
      let p = placed side label sent s d in
      let counted = p.calls_are in
      let next : next_xid d.calls ≡ min (d.calls + 1) 4294967295 = refl in
      record {
        runs =
            record {
              grows = λ small. grind (arith, small, counted, next);
              accepted = p.accepted;
              more = going side sent.bytes sent.seal (labels.Call label) ∷ [];
              sent = p.sent;
              posted = call_is_posted side label sent;
              counts = λ small. grind (arith, small, counted, next);
              ran = λ purpose small.
                  let above = above_by boot (next_xid d.calls) (purpose_after (Sends at send) purpose) d.copies in
                  let below : d.calls < 4294967295 = grind (arith, small, counted, next) in
                  let more : d.calls < next_xid d.calls = grind (arith, below, next) in
                  record {
                    after = purpose_after (Sends at send) purpose;
                    steps = (record { move = Sends at send; above = above }) ∷ [];
                    run = (
                      record { boot = refl; calls = omega arith; purpose = λ other a there. go.stays purpose other a there },
                      refl,
                      λ spelled. record {
                        place = within;
                        unused = go.unused;
                        fresh = more;
                        counted = omega arith;
                        small = grind (arith, next);
                        suits = go.suits purpose (next_xid d.calls);
                        fits = spelled.0;
                        are_bytes = spelled.1;
                      },
                      (
                        ap (λ (n : ℕ). above_by boot n (purpose_after (Sends at send) purpose) e.copies) p.calls_are
                            ∙ ap (λ (t : Copies). above_by boot (next_xid d.calls) (purpose_after (Sends at send) purpose) t) p.copies,
                        ap (λ (x : Site). x.mount) p.site,
                      ),
                    );
                    outs = ap (λ (o : Option Sent). out_of o ++ []) is ∙ call_here side label sent;
                    takes = refl;
                    asks = λ t stays. (go.asks t (λ loud. stays_then d.copies e.copies t (stays_same d.copies e.copies p.copies) (stays loud)), tt);
                    order = go.order refl above (mount_in side d);
                    numbers =
                        let xid : next_xid d.calls ≡ d.calls + 1 = grind (arith, below, next) in
                        ap (λ (o : Option Sent). map (λ (one : wire.Sent). at.xid) (out_of o) ++ []) is ∙ ap (λ (n : ℕ). n ∷ []) xid ∙ sym (number_here side label sent d.calls);
                    fit = λ sure. (go.bounds sure, tt);
                  };
              fits = λ purpose small given fit. subst (PurposesFit side (purpose_after (Sends at send) purpose)) (sym p.copies) (go.fits purpose fit);
            };
        for_it = λ here some purpose small. refl;
      }

  -- ---- the same at the other server: here nothing happens

  xid_grows : (calls : ℕ) → next_xid calls < 4294967295 → calls ≤ next_xid calls
  xid_grows calls small =
      let next : next_xid calls ≡ min (calls + 1) 4294967295 = refl in
      grind (arith, small, next)

  xid_counts : (calls : ℕ) → next_xid calls < 4294967295 → next_xid calls ≡ calls + 1
  xid_counts calls small =
      let next : next_xid calls ≡ min (calls + 1) 4294967295 = refl in
      grind (arith, small, next)

  other_sent : (k : Kind) → MayRest k → (side there : Side) (label : CallLabel) (o : Option Sent) (s : Site) (d : Desk) → IsOther side there
      → Runs who means boot post any k side [] same_seal d (sent_out there label o (with_site there s d))
  other_sent k may Source Dest label None s d x = kept k may Source d _ (record { mount = refl; calls = refl; sent = refl; accepted = refl }) (λ purpose fit. fit)
  other_sent k may Source Dest label (Some sent) s d x =
      let one = going Dest sent.bytes sent.seal (labels.Call label) in
      rests any k may Source same_seal d _ (one ∷ []) refl (λ small. xid_grows d.calls small) refl refl (call_is_posted Dest label sent) (λ small. xid_counts d.calls small) refl refl
      (λ purpose given fit. fit)
  other_sent k may Dest Source label None s d x = kept k may Dest d _ (record { mount = refl; calls = refl; sent = refl; accepted = refl }) (λ purpose fit. fit)
  other_sent k may Dest Source label (Some sent) s d x =
      let one = going Source sent.bytes sent.seal (labels.Call label) in
      rests any k may Dest same_seal d _ (one ∷ []) refl (λ small. xid_grows d.calls small) refl refl (call_is_posted Source label sent) (λ small. xid_counts d.calls small) refl refl
      (λ purpose given fit. fit)
  other_sent k may Source Source label o s d x = absurd x
  other_sent k may Dest Dest label o s d x = absurd x

  kept_there : (side there : Side) (s : Site) (d : Desk) → s.mount ≡ mount_in there d → IsKept side d (with_site there s d)
  kept_there Source Source s d same = record { mount = same; calls = refl; sent = refl; accepted = refl }
  kept_there Source Dest s d same = record { mount = refl; calls = refl; sent = refl; accepted = refl }
  kept_there Dest Source s d same = record { mount = refl; calls = refl; sent = refl; accepted = refl }
  kept_there Dest Dest s d same = record { mount = same; calls = refl; sent = refl; accepted = refl }

  -- a call that goes out where it may
  puts : (k : Kind) → MayRest k → (side there : Side) (label : CallLabel) (place : ℕ) (send : Send) (d : Desk) → place < PLACES → MayGo k side there d place send
      → Went (send_at place d) (mount_in there d) (sent_by means.mic (send_at place d) send (mount_in there d))
      → Puts k side there place send d (put_out there label (at_site (site_at there d) (sent_by means.mic (send_at place d) send (mount_in there d))) d)
  puts k may Source Source label place send d within go went = own_sent k may Source label place send d _ within go went refl
  puts k may Dest Dest label place send d within go went = own_sent k may Dest label place send d _ within go went refl
  puts k may Source Dest label place send d within go went = record { runs = other_sent k may Source Dest label _ _ d tt; for_it = λ here. absurd (apart here) }
    where
      apart : Source ≡ Dest → ⊥
      apart e = absurd cc
  puts k may Dest Source label place send d within go went = record { runs = other_sent k may Dest Source label _ _ d tt; for_it = λ here. absurd (apart here) }
    where
      apart : Dest ≡ Source → ⊥
      apart e = absurd cc

  pub put : (k : Kind) → MayRest k → (side there : Side) (label : CallLabel) (place : ℕ) (send : Send) (b : Bool) (d : Desk) → place < PLACES → (b ≡ true → MayGo k side there d place send)
      → Went (send_at place d) (mount_in there d) (sent_by means.mic (send_at place d) send (mount_in there d))
      → Puts k side there place send d
      (put_out there label (at_site (site_at there d) (sent_if b (sent_by means.mic (send_at place d) send (mount_in there d)) (mount_in there d))) d)
  put k may side there label place send true d within go went = puts k may side there label place send d within (go refl) went
  put k may side there label place send false d within go went = record {
    runs =
        kept k may side d _ (kept_there side there (record (site_at there d) { mount = mount_in there d }) d refl)
        (λ purpose fit. subst (PurposesFit side purpose) (sym (sent_copies there label None (record (site_at there d) { mount = mount_in there d }) d)) fit);
    for_it = λ here none. absurd (no_calls none);
  }

-- ---- what the tests of a site say

pub none_is : {A : Type 0} (o : Option A) → is_none o ≡ true → o ≡ None
none_is None e = refl
none_is (Some x) e = absurd cc

pub not_is : (b : Bool) → not b ≡ true → b ≡ false
not_is true e = absurd cc
not_is false e = refl

pub and_is : (a b : Bool) → (a && b) ≡ true → (a ≡ true) × (b ≡ true)
and_is true true e = (refl, refl)
and_is true false e = absurd cc
and_is false true e = absurd cc
and_is false false e = absurd cc

pub record IsFree (at : SendAt) (m : Mounted) : Type 0 where
  pub none : awaited_at m at.place ≡ None
  pub unused : m.calls < at.xid

pub three_are : (a b c : Bool) → (a && b && c) ≡ true → (a ≡ true) × (b ≡ true) × (c ≡ true)
three_are true true true e = (refl, refl, refl)
three_are true true false e = absurd cc
three_are true false true e = absurd cc
three_are true false false e = absurd cc
three_are false true true e = absurd cc
three_are false true false e = absurd cc
three_are false false true e = absurd cc
three_are false false false e = absurd cc

pub free_is : (at : SendAt) (m : Mounted) → may_go at m ≡ true → IsFree at m
free_is at m e =
    let all = three_are (is_none (awaited_at m at.place)) (nat_lt m.calls at.xid) (has_numbers m.standing at.place) e in
    record { none = none_is _ all.0; unused = ltb-true m.calls at.xid all.1 }

-- a call in a slot is for what it asks
pub same_number : (n : ℕ) → (n == n) ≡ true
same_number n = grind arith

pub slot_purpose : (n : ℕ) (x y : Purpose) → (if n == n then x else y) ≡ x
slot_purpose n x y = ap (λ (b : Bool). if b then x else y) (same_number n)

other_purpose : (b : Bool) (n place : ℕ) (x y : Purpose) → (n == place) ≡ b → n ≢ place → (if b then x else y) ≡ y
other_purpose true n place x y e other =
    let same : n ≡ place = grind (arith, e) in
    absurd (other same)
other_purpose false n place x y e other = refl

pub slot_stays : (m : Mounted) (place other : ℕ) (a : Awaiting) (x y : Purpose) → awaited_at m place ≡ None → awaited_at m other ≡ Some a
    → (if other == place then x else y) ≡ y
slot_stays m place other a x y free there =
    let differs : other ≢ place = λ same. let moved = ap (awaited_at m) same in let none : Some a ≡ None = sym there ∙ moved ∙ free in absurd cc in
    other_purpose (other == place) other place x y refl differs
