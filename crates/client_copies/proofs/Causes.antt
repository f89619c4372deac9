-- What makes a copy stable, and what makes it exact: an event at a time.
use Rattle.std.proofs.Common.{◌≡◌, ℕ, Bool, true, false, Option, Some, None, refl, sym, ap, arith}
use Rattle.std.specs.Prelude.{◌==◌, ◌&&◌, bytes_eq}
use Rattle.std.specs.List.{list_any}
use Rattle.std.proofs.lemmas.Slice.Eq.{bytes_eq-Decides}
use Rattle.copy_ops.specs.declared.callback.OffloadEnd.{OffloadEnd}
use Rattle.copy_ops.specs.declared.callback.OffloadEnd.TheVariants as ends
use Rattle.nfs_base.specs.declared.side.Side.{Side}
use Rattle.nfs_base.specs.declared.side.Side.TheVariants.{Dest}
use Rattle.nfs_base.specs.declared.state_id.StateId.{StateId}
use Rattle.nfs_base.specs.declared.status.Status.{Status}
use Rattle.nfs_base.specs.declared.written.Stability.{Stability}
use Rattle.nfs_base.specs.declared.written.Stability.TheVariants.{Unstable, DataSync, FileSync}
use Rattle.client_copies.specs.declared.copy.ClientCopy.{ClientCopy}
use Rattle.client_copies.specs.declared.copy.First.{First}
use Rattle.client_copies.specs.declared.copy.Query.{Query}
use Rattle.client_copies.specs.declared.copy.Session.{Session}
use Rattle.client_copies.specs.declared.copy.Stage.{Stage}
use Rattle.client_copies.specs.declared.copy.Stage.TheVariants.{Due, Asked, Accepted, Over}
use Rattle.client_copies.specs.declared.copy.Step.{Step}
use Rattle.client_copies.specs.declared.copy.Step.TheVariants as steps
use Rattle.client_copies.specs.declared.copy.Verdict.TheVariants as verdicts
use Rattle.client_copies.specs.declared.event.Event.{Event}
use Rattle.client_copies.specs.declared.event.Event.TheVariants as events
use Rattle.client_copies.specs.declared.told.Said.{Said}
use Rattle.client_copies.specs.declared.told.Word.{Word}
use Rattle.client_copies.specs.Copies.{is_stable, side_of}
use Rattle.client_copies.specs.Laws.{IsDone, ByCallback, ByStatus, IsSaidStable, IsSaidExact}
use Rattle.client_copies.specs.Refusals.{refused_with}
use Rattle.client_copies.specs.Steps.{after, asked_step, is_going, is_side, is_same_session, lost_by, told_by, stood_still, opened_to, moves, ends_with, fails_if, query_down, completed, progressed, synced, offloaded, on_opened, on_sent, on_allowed, on_granted, on_accepted, on_told, on_refused, on_queried, on_progressed, on_ended, on_offloaded, stage_down}
use Rattle.client_copies.specs.Words.{is_exact_word, is_stable_word, told}

-- an outcome tells a word that passes a test
abbrev says : (Word → Bool) → Said × ClientCopy → Bool
says test o = list_any test (told o.0)

abbrev at : Stage → ClientCopy → ClientCopy
at stage c = record c { stage = stage }

-- an outcome says neither that the copy is stable nor that it is exact
record IsPlain (o : Said × ClientCopy) : Type 0 where
  stable : says is_stable_word o ≡ false
  exact : says is_exact_word o ≡ false

plain_moves : (o : Option Step) (c : ClientCopy) → IsPlain (moves o c)
plain_moves None c = record { stable = refl; exact = refl }
plain_moves (Some s) c = record { stable = refl; exact = refl }

plain_lost : (stable : Bool) (status : Status) (c : ClientCopy) → IsPlain (ends_with (lost_by stable status) c)
plain_lost true status c = record { stable = refl; exact = refl }
plain_lost false status c = record { stable = refl; exact = refl }

plain_opened : (side : Side) (st : Stage) (c : ClientCopy) → IsPlain (on_opened side st c)
plain_opened side (Due s) c = plain_moves (opened_to side s) c
plain_opened side (Asked s) c = plain_moves (opened_to side s) c
plain_opened side Accepted c = record { stable = refl; exact = refl }
plain_opened side (Over v) c = record { stable = refl; exact = refl }

plain_sent : (st : Stage) (c : ClientCopy) → IsPlain (on_sent st c)
plain_sent (Due s) c = record { stable = refl; exact = refl }
plain_sent (Asked s) c = record { stable = refl; exact = refl }
plain_sent Accepted c = record { stable = refl; exact = refl }
plain_sent (Over v) c = record { stable = refl; exact = refl }

plain_allowed : (o : Option Step) (c : ClientCopy) → IsPlain (on_allowed o c)
plain_allowed (Some steps.AllowSource) c = record { stable = refl; exact = refl }
plain_allowed (Some steps.AllowDest) c = record { stable = refl; exact = refl }
plain_allowed (Some _) c = record { stable = refl; exact = refl }
plain_allowed None c = record { stable = refl; exact = refl }

plain_granted : (first : First) (o : Option Step) (c : ClientCopy) → IsPlain (on_granted first o c)
plain_granted first (Some steps.Notify) c = record { stable = refl; exact = refl }
plain_granted first (Some _) c = record { stable = refl; exact = refl }
plain_granted first None c = record { stable = refl; exact = refl }

plain_accepted : (id : StateId) (sent_at : ℕ) (o : Option Step) (c : ClientCopy) → IsPlain (on_accepted id sent_at o c)
plain_accepted id sent_at (Some steps.Copy) c = record { stable = refl; exact = refl }
plain_accepted id sent_at (Some _) c = record { stable = refl; exact = refl }
plain_accepted id sent_at None c = record { stable = refl; exact = refl }

plain_refused : (status : Status) (o : Option Step) (c : ClientCopy) → IsPlain (on_refused status o c)
plain_refused status None c = record { stable = refl; exact = refl }
plain_refused status (Some s) c = plain_lost (is_stable s) status c

plain_queried : (query : Query) (b : Bool) (c : ClientCopy) → IsPlain (on_queried query b c)
plain_queried query true c = record { stable = refl; exact = refl }
plain_queried query false c = record { stable = refl; exact = refl }

plain_failed : (status : Status) (b : Bool) (c : ClientCopy) → IsPlain (on_ended (verdicts.Failed status) b c)
plain_failed status true c = record { stable = refl; exact = refl }
plain_failed status false c = record { stable = refl; exact = refl }

plain_cancelled : (b : Bool) (c : ClientCopy) → IsPlain (on_ended verdicts.Cancelled b c)
plain_cancelled true c = record { stable = refl; exact = refl }
plain_cancelled false c = record { stable = refl; exact = refl }

plain_fails : (b stable : Bool) (status : Status) (c : ClientCopy) → IsPlain (fails_if b (lost_by stable status) c)
plain_fails true stable status c = plain_lost stable status c
plain_fails false stable status c = record { stable = refl; exact = refl }

plain_down : (side : Side) (status : Status) (st : Stage) (c : ClientCopy) → IsPlain (stage_down side status st c)
plain_down side status (Due s) c = plain_fails (is_side side (side_of s)) (is_stable s) status c
plain_down side status (Asked s) c = plain_fails (is_side side (side_of s)) (is_stable s) status c
plain_down side status Accepted c = plain_fails (is_side side Dest) false status c
plain_down side status (Over v) c = record { stable = refl; exact = refl }

-- what is said of a stable copy isn't that it is stable
told_not_stable : (b : Bool) (c : ClientCopy) → says is_stable_word (ends_with (told_by b) c) ≡ false
told_not_stable true c = refl
told_not_stable false c = refl

last_not_stable : (change : ℕ) (session : Session) (o : Option Step) (c : ClientCopy) → says is_stable_word (on_told change session o c) ≡ false
last_not_stable change session (Some steps.Last) c = told_not_stable (stood_still change session c.first) c
last_not_stable change session (Some _) c = refl
last_not_stable change session None c = refl

-- ---- stable

stable_level : (level : Stability) (c : ClientCopy) → says is_stable_word (synced level c) ≡ true → level ≡ FileSync
stable_level FileSync c e = refl
stable_level DataSync c e = absurd cc
stable_level Unstable c e = absurd cc

stable_by_callback : (end : OffloadEnd) (c : ClientCopy) → says is_stable_word (offloaded end c) ≡ true → IsDone (events.Offloaded end)
stable_by_callback (ends.Done response) c e = ByCallback response (stable_level response.committed c e)
stable_by_callback (ends.Failed status count) c e = absurd cc

stable_called_back : (end : OffloadEnd) (st : Stage) (c : ClientCopy) → says is_stable_word (on_offloaded end (is_going st) (at st c)) ≡ true
    → IsSaidStable (events.Offloaded end) (at st c)
stable_called_back end (Due s) c e = absurd cc
stable_called_back end (Asked s) c e = absurd cc
stable_called_back end Accepted c e = record { accepted = refl; done = stable_by_callback end (at Accepted c) e }
stable_called_back end (Over v) c e = absurd cc

ok_completed : (count : ℕ) (ok : Bool) (status : Status) (c : ClientCopy) → says is_stable_word (completed count ok status c) ≡ true → ok ≡ true
ok_completed count true status c e = refl
ok_completed count false status c e = absurd cc

zero_is : (n : ℕ) → (n == 0) ≡ true → n ≡ 0
zero_is n e = grind arith

stable_by_status : (count sent_at : ℕ) (complete : Option Status) (c : ClientCopy) → says is_stable_word (progressed count complete c) ≡ true
    → IsDone (events.Progressed count complete sent_at)
stable_by_status count sent_at None c e = absurd cc
stable_by_status count sent_at (Some status) c e =
    ByStatus count sent_at status (zero_is status.number (ok_completed count (status.number == 0) status c e))

stable_told : (count sent_at : ℕ) (complete : Option Status) (st : Stage) (c : ClientCopy)
    → says is_stable_word (on_progressed count complete (is_going st) (record c { stage = st; query = None; asked_at = sent_at })) ≡ true
    → IsSaidStable (events.Progressed count complete sent_at) (at st c)
stable_told count sent_at complete (Due s) c e = absurd cc
stable_told count sent_at complete (Asked s) c e = absurd cc
stable_told count sent_at complete Accepted c e =
    record { accepted = refl; done = stable_by_status count sent_at complete (record c { stage = Accepted; query = None; asked_at = sent_at }) e }
stable_told count sent_at complete (Over v) c e = absurd cc

-- an outcome that says neither says nothing of the kind
not_both : {A : Type 0} (b : Bool) → b ≡ false → b ≡ true → A
not_both b f t = absurd cc

pub said_stable : (event : Event) (c : ClientCopy) → list_any is_stable_word (told (after event c).0) ≡ true → IsSaidStable event c
unfolding after
said_stable (events.Opened side) c e = not_both _ (plain_opened side c.stage c).stable e
said_stable events.Sent c e = not_both _ (plain_sent c.stage c).stable e
said_stable events.Allowed c e = not_both _ (plain_allowed (asked_step c.stage) c).stable e
said_stable (events.Granted first) c e = not_both _ (plain_granted first (asked_step c.stage) c).stable e
said_stable (events.Accepted id sent_at) c e = not_both _ (plain_accepted id sent_at (asked_step c.stage) c).stable e
said_stable (events.Told change session) c e = not_both _ (last_not_stable change session (asked_step c.stage) c) e
said_stable (events.Refused why) c e = not_both _ (plain_refused (refused_with why) (asked_step c.stage) c).stable e
said_stable (events.Queried query) c e = not_both _ (plain_queried query (is_going c.stage) c).stable e
said_stable (events.Progressed count complete sent_at) c e = stable_told count sent_at complete c.stage c e
said_stable events.Cancelled c e = not_both _ (plain_cancelled (is_going c.stage) (record c { query = None })).stable e
said_stable (events.QueryRefused why) c e = not_both _ (plain_failed (refused_with why) (is_going c.stage) (record c { query = None })).stable e
said_stable (events.Offloaded end) c e = stable_called_back end c.stage c e
said_stable (events.Down side status) c e = not_both _ (plain_down side status c.stage (record c { query = query_down side c.query })).stable e

-- ---- exact

synced_not_exact : (level : Stability) (c : ClientCopy) → says is_exact_word (synced level c) ≡ false
synced_not_exact FileSync c = refl
synced_not_exact DataSync c = refl
synced_not_exact Unstable c = refl

offloaded_not_exact : (end : OffloadEnd) (b : Bool) (c : ClientCopy) → says is_exact_word (on_offloaded end b c) ≡ false
offloaded_not_exact (ends.Done response) true c = synced_not_exact response.committed c
offloaded_not_exact (ends.Failed status count) true c = refl
offloaded_not_exact (ends.Done response) false c = refl
offloaded_not_exact (ends.Failed status count) false c = refl

completed_not_exact : (count : ℕ) (ok : Bool) (status : Status) (c : ClientCopy) → says is_exact_word (completed count ok status c) ≡ false
completed_not_exact count true status c = refl
completed_not_exact count false status c = refl

progressed_not_exact : (count : ℕ) (complete : Option Status) (b : Bool) (c : ClientCopy) → says is_exact_word (on_progressed count complete b c) ≡ false
progressed_not_exact count None true c = refl
progressed_not_exact count (Some status) true c = completed_not_exact count (status.number == 0) status c
progressed_not_exact count None false c = refl
progressed_not_exact count (Some status) false c = refl

exact_stood : (b : Bool) (c : ClientCopy) → says is_exact_word (ends_with (told_by b) c) ≡ true → b ≡ true
exact_stood true c e = refl
exact_stood false c e = absurd cc

left_holds : (a b : Bool) → (a && b) ≡ true → a ≡ true
left_holds true b e = refl
left_holds false b e = absurd cc

right_holds : (a b : Bool) → (a && b) ≡ true → b ≡ true
right_holds true b e = e
right_holds false b e = absurd cc

same_number : (m n : ℕ) → (m == n) ≡ true → n ≡ m
same_number m n e = grind arith

-- the parts of what it is to stand still
record IsStill (first : First) (change : ℕ) (session : Session) : Type 0 where
  id : session.id ≡ first.session.id
  root : session.root ≡ first.session.root
  same : change ≡ first.change

still_parts : (first : First) (change : ℕ) (session : Session)
    → (is_same_session first.session session && (first.change == change)) ≡ true → IsStill first change session
still_parts first change session e =
    let sessions = left_holds (is_same_session first.session session) (first.change == change) e in
    record {
      id = sym ((bytes_eq-Decides first.session.id session.id).0 (left_holds (bytes_eq first.session.id session.id) (bytes_eq first.session.root session.root) sessions));
      root = sym ((bytes_eq-Decides first.session.root session.root).0 (right_holds (bytes_eq first.session.id session.id) (bytes_eq first.session.root session.root) sessions));
      same = same_number first.change change (right_holds (is_same_session first.session session) (first.change == change) e);
    }

exact_first : (change : ℕ) (session : Session) (first : Option First) (c : ClientCopy) → stood_still change session first ≡ true
    → IsSaidExact (events.Told change session) (record c { stage = Asked steps.Last; first = first })
exact_first change session None c e = absurd cc
exact_first change session (Some first) c e =
    let still = still_parts first change session e in
    record {
      asked = refl;
      first = first;
      first_is = refl;
      session = session;
      told = ap (λ n. events.Told n session) still.same;
      same_id = still.id;
      same_root = still.root;
    }

exact_told : (change : ℕ) (session : Session) (st : Stage) (c : ClientCopy)
    → says is_exact_word (on_told change session (asked_step st) (at st c)) ≡ true → IsSaidExact (events.Told change session) (at st c)
exact_told change session (Due s) c e = absurd cc
exact_told change session (Asked steps.Last) c e =
    exact_first change session c.first c (exact_stood (stood_still change session c.first) (at (Asked steps.Last) c) e)
exact_told change session (Asked _) c e = absurd cc
exact_told change session Accepted c e = absurd cc
exact_told change session (Over v) c e = absurd cc

pub said_exact : (event : Event) (c : ClientCopy) → list_any is_exact_word (told (after event c).0) ≡ true → IsSaidExact event c
unfolding after
said_exact (events.Opened side) c e = not_both _ (plain_opened side c.stage c).exact e
said_exact events.Sent c e = not_both _ (plain_sent c.stage c).exact e
said_exact events.Allowed c e = not_both _ (plain_allowed (asked_step c.stage) c).exact e
said_exact (events.Granted first) c e = not_both _ (plain_granted first (asked_step c.stage) c).exact e
said_exact (events.Accepted id sent_at) c e = not_both _ (plain_accepted id sent_at (asked_step c.stage) c).exact e
said_exact (events.Told change session) c e = exact_told change session c.stage c e
said_exact (events.Refused why) c e = not_both _ (plain_refused (refused_with why) (asked_step c.stage) c).exact e
said_exact (events.Queried query) c e = not_both _ (plain_queried query (is_going c.stage) c).exact e
said_exact (events.Progressed count complete sent_at) c e =
    not_both _ (progressed_not_exact count complete (is_going c.stage) (record c { query = None; asked_at = sent_at })) e
said_exact events.Cancelled c e = not_both _ (plain_cancelled (is_going c.stage) (record c { query = None })).exact e
said_exact (events.QueryRefused why) c e = not_both _ (plain_failed (refused_with why) (is_going c.stage) (record c { query = None })).exact e
said_exact (events.Offloaded end) c e = not_both _ (offloaded_not_exact end (is_going c.stage) c) e
said_exact (events.Down side status) c e = not_both _ (plain_down side status c.stage (record c { query = query_down side c.query })).exact e
