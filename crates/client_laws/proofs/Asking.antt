-- What a copy's calls ask by stays while the client goes on of itself.
use Rattle.std.proofs.Common.{◌≡◌, ◌≢◌, ◌∙◌, ℕ, Bool, true, false, Option, Some, None, refl, sym, ap, arith}
use Rattle.std.specs.Prelude.{◌==◌, is_some}
use Rattle.client_copies.specs.Copies.{is_stable}
use Rattle.client_copies.specs.Steps.{after, is_going, moves, on_opened, on_queried, on_sent, opened_to}
use Rattle.client_copies.specs.Table.{Copies, copy_after, copy_at, told_at}
use Rattle.client_copies.specs.Words.{phase_by, phase_of}
use Rattle.client_copies.specs.declared.copy.ClientCopy.{ClientCopy}
use Rattle.client_copies.specs.declared.copy.First.{First}
use Rattle.client_copies.specs.declared.copy.Query.{Query}
use Rattle.client_copies.specs.declared.copy.Stage.{Stage}
use Rattle.client_copies.specs.declared.copy.Stage.TheVariants.{Due, Asked, Accepted, Over}
use Rattle.client_copies.specs.declared.copy.Step.{Step}
use Rattle.client_copies.specs.declared.copy.Step.TheVariants as steps
use Rattle.client_copies.specs.declared.event.Event.{Event}
use Rattle.client_copies.specs.declared.event.Event.TheVariants as events
use Rattle.nfs_base.specs.declared.side.Side.{Side}
use Rattle.nfs_base.specs.declared.side.Side.TheVariants.{Source, Dest}
use Rattle.session_calls.specs.declared.slot_call.FileCall.TheVariants as asks
use Rattle.session_calls.specs.declared.slot_call.SlotCall.{SlotCall}
use Rattle.session_calls.specs.declared.slot_call.SlotCall.TheVariants as calls
use Rattle.client_laws.specs.CallerLaws.{AsksCopy, AsksLast, AsksName, AsksOf, IsOf, is_safe, is_said_stable, knows_first, purpose_for, range_of, ready_in}
use Rattle.client_laws.specs.TableLaws.{copy_kept, copy_written}

-- the same is known of a copy, and where it was said to be stable, nothing more was said
pub record IsSame (c d : ClientCopy) : Type 0 where
  pub first : d.first ≡ c.first
  pub id : d.id ≡ c.id
  pub spec : d.spec ≡ c.spec
  pub safe : is_safe (phase_of c.stage) ≡ true → is_safe (phase_of d.stage) ≡ true

pub record StaysAs (c : ClientCopy) (o : Option ClientCopy) : Type 0 where
  pub now : ClientCopy
  pub now_is : o ≡ Some now
  pub same : IsSame c now

pub record Stays (t u : Copies) : Type 0 where
  pub each : (j : ℕ) (c : ClientCopy) → copy_at j t ≡ Some c → StaysAs c (copy_at j u)

pub stays_same : (t u : Copies) → u ≡ t → Stays t u
stays_same t u same = record {
  each = λ j c there. record { now = c; now_is = ap (copy_at j) same ∙ there; same = record { first = refl; id = refl; spec = refl; safe = λ e. e } };
}

pub stays_then : (t u v : Copies) → Stays t u → Stays u v → Stays t v
stays_then t u v x y = record {
  each = λ j c there.
      let a = x.each j c there in
      let b = y.each j a.now a.now_is in
      record {
        now = b.now;
        now_is = b.now_is;
        same = record {
          first = b.same.first ∙ a.same.first;
          id = b.same.id ∙ a.same.id;
          spec = b.same.spec ∙ a.same.spec;
          safe = λ e. b.same.safe (a.same.safe e);
        };
      };
}

-- ---- a file that is found open, a call that goes out and a question to the destination leave it

abbrev pub is_gentle : Event → Bool
is_gentle (events.Opened side) = true
is_gentle events.Sent = true
is_gentle (events.Queried query) = true
is_gentle _ = false

unsafe : {A : Type 0} → false ≡ true → A
unsafe e = absurd cc

stays_safe : (old : Stage) (c : ClientCopy) → c.stage ≡ old → is_safe (phase_of old) ≡ true → is_safe (phase_of c.stage) ≡ true
stays_safe old c was safe = ap (λ (st : Stage). is_safe (phase_of st)) was ∙ safe

moved_safe : (side : Side) (step : Step) (c : ClientCopy) → (is_safe (phase_by (is_stable step)) ≡ true → is_safe (phase_of c.stage) ≡ true)
    → is_safe (phase_by (is_stable step)) ≡ true → is_safe (phase_of (moves (opened_to side step) c).1.stage) ≡ true
moved_safe Source steps.OpenSource c was safe = unsafe safe
moved_safe Source steps.AllowSource c was safe = unsafe safe
moved_safe Source steps.Notify c was safe = unsafe safe
moved_safe Source steps.OpenDest c was safe = unsafe safe
moved_safe Source steps.AllowDest c was safe = unsafe safe
moved_safe Source steps.Copy c was safe = unsafe safe
moved_safe Source steps.OpenAgain c was safe = refl
moved_safe Source steps.Last c was safe = was safe
moved_safe Dest steps.OpenSource c was safe = unsafe safe
moved_safe Dest steps.AllowSource c was safe = unsafe safe
moved_safe Dest steps.Notify c was safe = unsafe safe
moved_safe Dest steps.OpenDest c was safe = unsafe safe
moved_safe Dest steps.AllowDest c was safe = unsafe safe
moved_safe Dest steps.Copy c was safe = unsafe safe
moved_safe Dest steps.OpenAgain c was safe = was safe
moved_safe Dest steps.Last c was safe = was safe

opened_safe : (side : Side) (st : Stage) (c : ClientCopy) → c.stage ≡ st → is_safe (phase_of st) ≡ true → is_safe (phase_of (on_opened side st c).1.stage) ≡ true
opened_safe side (Due step) c was safe = moved_safe side step c (λ e. stays_safe (Due step) c was e) safe
opened_safe side (Asked step) c was safe = moved_safe side step c (λ e. stays_safe (Asked step) c was e) safe
opened_safe side Accepted c was safe = stays_safe Accepted c was safe
opened_safe side (Over v) c was safe = stays_safe (Over v) c was safe

sent_safe : (st : Stage) (c : ClientCopy) → c.stage ≡ st → is_safe (phase_of st) ≡ true → is_safe (phase_of (on_sent st c).1.stage) ≡ true
sent_safe (Due step) c was safe = safe
sent_safe (Asked step) c was safe = stays_safe (Asked step) c was safe
sent_safe Accepted c was safe = stays_safe Accepted c was safe
sent_safe (Over v) c was safe = stays_safe (Over v) c was safe

-- but for where the copy is
record IsSameBut (c d : ClientCopy) : Type 0 where
  first : d.first ≡ c.first
  id : d.id ≡ c.id
  spec : d.spec ≡ c.spec

moves_same : (o : Option Step) (c : ClientCopy) → IsSameBut c (moves o c).1
moves_same None c = record { first = refl; id = refl; spec = refl }
moves_same (Some step) c = record { first = refl; id = refl; spec = refl }

opened_same : (side : Side) (st : Stage) (c : ClientCopy) → IsSameBut c (on_opened side st c).1
opened_same side (Due step) c = moves_same (opened_to side step) c
opened_same side (Asked step) c = moves_same (opened_to side step) c
opened_same side Accepted c = record { first = refl; id = refl; spec = refl }
opened_same side (Over v) c = record { first = refl; id = refl; spec = refl }

sent_same : (st : Stage) (c : ClientCopy) → IsSameBut c (on_sent st c).1
sent_same (Due step) c = record { first = refl; id = refl; spec = refl }
sent_same (Asked step) c = record { first = refl; id = refl; spec = refl }
sent_same Accepted c = record { first = refl; id = refl; spec = refl }
sent_same (Over v) c = record { first = refl; id = refl; spec = refl }

queried_same : (query : Query) (b : Bool) (c : ClientCopy) → IsSame c (on_queried query b c).1
queried_same query true c = record { first = refl; id = refl; spec = refl; safe = λ e. e }
queried_same query false c = record { first = refl; id = refl; spec = refl; safe = λ e. e }

with_safe : (c d : ClientCopy) → IsSameBut c d → (is_safe (phase_of c.stage) ≡ true → is_safe (phase_of d.stage) ≡ true) → IsSame c d
with_safe c d same safe = record { first = same.first; id = same.id; spec = same.spec; safe = safe }

gentle_same : (event : Event) (c : ClientCopy) → is_gentle event ≡ true → IsSame c (after event c).1
unfolding after
gentle_same (events.Opened side) c gentle = with_safe c (on_opened side c.stage c).1 (opened_same side c.stage c) (opened_safe side c.stage c refl)
gentle_same events.Sent c gentle = with_safe c (on_sent c.stage c).1 (sent_same c.stage c) (sent_safe c.stage c refl)
gentle_same (events.Queried query) c gentle = queried_same query (is_going c.stage) c
gentle_same (events.Down side status) c gentle = absurd cc
gentle_same events.Allowed c gentle = absurd cc
gentle_same (events.Granted known) c gentle = absurd cc
gentle_same (events.Accepted id sent_at) c gentle = absurd cc
gentle_same (events.Told change session) c gentle = absurd cc
gentle_same (events.Refused why) c gentle = absurd cc
gentle_same (events.Progressed count complete sent_at) c gentle = absurd cc
gentle_same events.Cancelled c gentle = absurd cc
gentle_same (events.QueryRefused why) c gentle = absurd cc
gentle_same (events.Offloaded end) c gentle = absurd cc

told_one : (b : Bool) (i j : ℕ) (event : Event) (t : Copies) (c : ClientCopy) → (i == j) ≡ b → is_gentle event ≡ true → copy_at j t ≡ Some c
    → StaysAs c (copy_at j (told_at i event t).1)
told_one true i j event t c e own there =
    let same : i ≡ j = grind (arith, e) in
    let here : copy_at i t ≡ Some c = ap (λ (n : ℕ). copy_at n t) same ∙ there in
    record {
      now = (after event c).1;
      now_is =
          ap (λ (n : ℕ). copy_at n (told_at i event t).1) (sym same) ∙ copy_written event i t ∙ ap (copy_after event) here;
      same = gentle_same event c own;
    }
told_one false i j event t c e own there =
    let other : j ≢ i = grind (arith, e) in
    record {
      now = c;
      now_is = copy_kept i j (copy_after event (copy_at i t)) t other ∙ there;
      same = record { first = refl; id = refl; spec = refl; safe = λ e. e };
    }

pub stays_told : (i : ℕ) (event : Event) (t : Copies) → is_gentle event ≡ true → Stays t (told_at i event t).1
stays_told i event t own = record { each = λ j c there. told_one (i == j) i j event t c refl own there }

-- ---- so what was asked by it is

still_of : {is : ClientCopy → Type 0} (o q : Option ClientCopy) → ((c d : ClientCopy) → IsSame c d → is c → is d) → ((c : ClientCopy) → o ≡ Some c → StaysAs c q)
    → IsOf o is → IsOf q is
still_of o q moves_on stays_on a =
    let s = stays_on a.own a.own_is in
    record { own = s.now; own_is = s.now_is; so = moves_on a.own s.now s.same a.so }

still_asks : (call : SlotCall) (o q : Option ClientCopy) → ((c : ClientCopy) → o ≡ Some c → StaysAs c q) → AsksOf o call → AsksOf q call
still_asks (calls.Copy source_file source_id file id range source) o q stays_on a =
    still_of {is = AsksCopy source_file source_id range} o q
    (λ c d same x. record {
      first = x.first;
      first_is = same.first ∙ x.first_is;
      file = x.file;
      grant = x.grant;
      range_is = ap range_of same.spec ∙ x.range_is;
    }) stays_on a
still_asks (calls.OnFile file asks.Change) o q stays_on a =
    still_of {is = AsksLast file} o q (λ c d same x. record { first = x.first; first_is = same.first ∙ x.first_is; file_is = x.file_is }) stays_on a
still_asks (calls.OnFile file (asks.Status id)) o q stays_on a = still_of {is = AsksName id} o q (λ c d same x. same.id ∙ x) stays_on a
still_asks (calls.OnFile file (asks.Cancel id)) o q stays_on a = still_of {is = AsksName id} o q (λ c d same x. same.id ∙ x) stays_on a
still_asks (calls.OnFile file (asks.Close id)) o q stays_on a = tt
still_asks (calls.OnFile file (asks.Write id offset bytes)) o q stays_on a = tt
still_asks (calls.OnFile file asks.Commit) o q stays_on a = tt
still_asks (calls.OnFile file asks.ChangeAndSize) o q stays_on a = tt
still_asks (calls.OnFile file (asks.Read id offset count)) o q stays_on a = tt
still_asks calls.ReclaimComplete o q stays_on a = tt
still_asks (calls.Open client owner name) o q stays_on a = tt
still_asks (calls.Notify file id destination) o q stays_on a = tt

known_by : (o q : Option ClientCopy) → ((c : ClientCopy) → o ≡ Some c → StaysAs c q) → knows_first o ≡ true → knows_first q ≡ true
known_by None q stays_on ready = absurd cc
known_by (Some c) q stays_on ready =
    let s = stays_on c refl in
    ap knows_first s.now_is ∙ ap (λ (o : Option First). is_some o) s.same.first ∙ ready

stable_by : (o q : Option ClientCopy) → ((c : ClientCopy) → o ≡ Some c → StaysAs c q) → is_said_stable o ≡ true → is_said_stable q ≡ true
stable_by None q stays_on ready = absurd cc
stable_by (Some c) q stays_on ready =
    let s = stays_on c refl in
    ap is_said_stable s.now_is ∙ s.same.safe ready

still_ready : (call : SlotCall) (j : ℕ) (t u : Copies) → Stays t u → ready_in t (purpose_for j call) ≡ true → ready_in u (purpose_for j call) ≡ true
still_ready (calls.Copy source_file source_id file id range source) j t u s ready = known_by (copy_at j t) (copy_at j u) (s.each j) ready
still_ready (calls.OnFile file asks.Change) j t u s ready = stable_by (copy_at j t) (copy_at j u) (s.each j) ready
still_ready (calls.OnFile file (asks.Status id)) j t u s ready = refl
still_ready (calls.OnFile file (asks.Cancel id)) j t u s ready = refl
still_ready (calls.OnFile file (asks.Close id)) j t u s ready = refl
still_ready (calls.OnFile file (asks.Write id offset bytes)) j t u s ready = refl
still_ready (calls.OnFile file asks.Commit) j t u s ready = refl
still_ready (calls.OnFile file asks.ChangeAndSize) j t u s ready = refl
still_ready (calls.OnFile file (asks.Read id offset count)) j t u s ready = refl
still_ready calls.ReclaimComplete j t u s ready = refl
still_ready (calls.Open client owner name) j t u s ready = refl
still_ready (calls.Notify file id destination) j t u s ready = refl

pub still_asked : (call : SlotCall) (j : ℕ) (t u : Copies) → Stays t u → (ready_in t (purpose_for j call) ≡ true) × AsksOf (copy_at j t) call
    → (ready_in u (purpose_for j call) ≡ true) × AsksOf (copy_at j u) call
still_asked call j t u s a = (still_ready call j t u s a.0, still_asks call (copy_at j t) (copy_at j u) (s.each j) a.1)
