-- A copy is said to be stable by a report of the destination, and what is held is a report that a callback brought.
use Rattle.std.proofs.Common.{◌≡◌, ◌∙◌, ℕ, zero, suc, ◌<◌, get_or, Bool, true, false, List, [], ◌∷◌, length, Option, Some, None, Result, Ok, refl, sym, ap, subst, inl, inr, ◌⊎◌, arith}
use Rattle.std.specs.Prelude.{◌==◌, ◌&&◌, ◌||◌, cond, find, if◌then◌else◌, option_map}
use Rattle.std.specs.List.{Contains, list_any}
use Rattle.std.proofs.lemmas.Bool.{eq-eqb, eqb-true}
use Rattle.caller_laws.specs.Good.{Identity}
use Rattle.client_copies.specs.Copies.{is_called, is_same_id}
use Rattle.client_copies.specs.Held.{decides, is_for, is_told_for, told_for}
use Rattle.client_copies.specs.Laws as said
use Rattle.client_copies.specs.Table.{Copies, copy_at, names}
use Rattle.client_copies.specs.Words.{ran}
use Rattle.client_copies.specs.declared.copy.ClientCopy.{ClientCopy}
use Rattle.client_copies.specs.declared.copy.Stage.{Stage}
use Rattle.client_copies.specs.declared.copy.Stage.TheVariants.{Asked, Accepted}
use Rattle.client_copies.specs.declared.copy.Step.TheVariants as steps
use Rattle.client_copies.specs.declared.event.Event.{Event}
use Rattle.client_copies.specs.declared.event.Event.TheVariants as events
use Rattle.client_copies.specs.declared.held.HeldOffload.{HeldOffload}
use Rattle.client_core.specs.Endings.{Ways}
use Rattle.client_core.specs.State.{ClientState, second_at}
use Rattle.client_laws.proofs.speaking.Fields.{IsAnswer, Taking, answer_of, reported_never}
use Rattle.client_laws.proofs.speaking.Judging.{back_judged}
use Rattle.client_laws.proofs.speaking.Mounts.{none_some, some_is}
use Rattle.client_laws.specs.Speaking.SayingLaws.{IsAmong, goes_named, name_kept, stable_among}
use Rattle.client_laws.proofs.speaking.Told.{named_stage, status_told}
use Rattle.client_laws.proofs.speaking.Words.{IsSaidTurn, New, Same, SeenStage, Starts, accepted_of, from_dest, name_after, ran_is, seen_stable, start_said, starts}
use Rattle.client_laws.specs.Causes.{ByAcceptance, ByAnswer, ByCallback, ByHeld, ByItself, Cause, IsAnswered, IsCalledBack, WasCalledBack, desk_heard}
use Rattle.client_laws.specs.Changes.{is_own}
use Rattle.client_laws.specs.Speaking.Views.{IsSeenAt, held_seen, holds_one, says_stable, word_seen}
use Rattle.client_laws.specs.Turns.{Hears, Turn}
use Rattle.client_laws.specs.WholeTurns.{Purposes, acts_of, took_in}
use Rattle.client_laws.specs.WordLaws.{Knew}
use Rattle.client_site.specs.declared.taking.Found.{Found}
use Rattle.client_steps.specs.Answers.{copy_deed}
use Rattle.client_steps.specs.CopySteps.{copy_in}
use Rattle.client_steps.specs.declared.deeds.Deed.{Deed}
use Rattle.client_steps.specs.declared.deeds.Deed.TheVariants as deeds
use Rattle.copy_ops.specs.declared.callback.OffloadEnd.{OffloadEnd}
use Rattle.copy_ops.specs.declared.callback.OffloadEnd.TheVariants as end_as
use Rattle.nfs_base.specs.declared.job.JobName.{JobName}
use Rattle.nfs_base.specs.declared.seal.End.TheVariants as ends
use Rattle.nfs_base.specs.declared.side.Side.{Side}
use Rattle.nfs_base.specs.declared.state_id.StateId.{StateId}
use Rattle.nfs_base.specs.declared.status.Status.{Status}
use Rattle.nfs_base.specs.declared.written.Stability.TheVariants.{FileSync}
use Rattle.nfs_base.specs.declared.written.WriteResponse.{WriteResponse}
use Rattle.nfs_compound.specs.Compounds.{cb_compound_of}
use Rattle.nfs_compound.specs.declared.cb_compound.CbCompound.{CbCompound}
use Rattle.nfs_compound.specs.declared.cb_op.CbOp.TheVariants as ops
use Rattle.outbox.specs.declared.outgoing.Outbox.{Outbox}
use Rattle.rpc_calls.specs.Answers.{accepted_seal, seal_in}
use Rattle.rpc_calls.specs.Judging.{judged_of}
use Rattle.rpc_calls.specs.declared.call.Call.{Call}
use Rattle.rpc_calls.specs.declared.call.Judged.TheVariants as judged
use Rattle.rpc_calls.specs.declared.call.TheConstants.Program as programs
use Rattle.rpc_calls.specs.declared.call.What.TheVariants as whats
use Rattle.wire_meaning.specs.Meaning.{cb_ops_read, ends_stable, is_file_sync, is_name, job_named, meaning, reported_by, reports_one}
use Rattle.wire_model.specs.System.{System}
use Rattle.wire_model.specs.Wire.{Acts, ForStatus}
use Rattle.wire_model.specs.Word as words
use Rattle.wire_model.specs.WordLaws as laws
use Rattle.wire_spelling.specs.Spelling.{spelling}

-- ---- lists

or_left : (a b : Bool) → a ≡ true → (a || b) ≡ true
or_left true b e = refl
or_left false b e = absurd cc

or_right : (a b : Bool) → b ≡ true → (a || b) ≡ true
or_right true b e = refl
or_right false b e = e

and_both : (a b : Bool) → a ≡ true → b ≡ true → (a && b) ≡ true
and_both true b e f = f
and_both false b e f = absurd cc

both_of : (a b : Bool) → (a && b) ≡ true → (a ≡ true) × (b ≡ true)
both_of true b e = (refl, e)
both_of false b e = absurd cc

any_from : {X : Type 0} (test : X → Bool) (xs : List X) (x : X) (i : ℕ) → i < length xs → get_or xs i x ≡ x → test x ≡ true → list_any test xs ≡ true
any_from test [] x i lt is e = absurd (omega arith)
any_from test (y ∷ ys) x zero lt is e = or_left (test y) (list_any test ys) (ap test is ∙ e)
any_from test (y ∷ ys) x (suc i) lt is e = or_right (test y) (list_any test ys) (any_from test ys x i (omega arith) is e)

any_there : {X : Type 0} (test : X → Bool) (xs : List X) (x : X) → Contains xs x → test x ≡ true → list_any test xs ≡ true
any_there test xs x there e = any_from test xs x there.0 there.1 there.2 e

record IsThere {X : Type 0} (test : X → Bool) (xs : List X) : Type 0 where
  x : X
  there : Contains xs x
  so : test x ≡ true

any_is : {X : Type 0} (test : X → Bool) (xs : List X) → list_any test xs ≡ true → IsThere test xs
any_is test [] e = absurd cc
any_is {X} test (y ∷ ys) e = by (test y) refl e (λ later. any_is test ys later)
  where
    by : (b : Bool) → test y ≡ b → (b || list_any test ys) ≡ true → (list_any test ys ≡ true → IsThere test ys) → IsThere test (y ∷ ys)
    by true is e later = record { x = y; there = (0, omega arith, refl); so = is }
    by false is e later =
        let r = later e in
        record { x = r.x; there = (suc r.there.0, (let lt = r.there.1 in omega arith), r.there.2); so = r.so }

-- one that is found is among them
record IsFoundSo {X : Type 0} (test : X → Bool) (xs : List X) (x : X) : Type 0 where
  so : test x ≡ true
  any : (other : X → Bool) → other x ≡ true → list_any other xs ≡ true

found_so : {X : Type 0} (test : X → Bool) (xs : List X) (x : X) → find test xs ≡ Some x → IsFoundSo test xs x
found_so test [] x e = absurd cc
found_so {X} test (y ∷ ys) x e = by (test y) refl e (λ later. found_so test ys x later)
  where
    by : (b : Bool) → test y ≡ b → cond b (Some y) (find test ys) ≡ Some x → (find test ys ≡ Some x → IsFoundSo test ys x) → IsFoundSo test (y ∷ ys) x
    by true is e later =
        let same = some_is y x e in
        record { so = ap test (sym same) ∙ is; any = λ other so. or_left (other y) (list_any other ys) (ap other same ∙ so) }
    by false is e later =
        let r = later e in
        record { so = r.so; any = λ other so. or_right (other y) (list_any other ys) (r.any other so) }

-- ---- names

four_true : (s k b n : Bool) → (s && k && b && n) ≡ true → (b ≡ true) × (n ≡ true)
four_true true true true true e = (refl, refl)
four_true true true true false e = absurd cc
four_true true true false n e = absurd cc
four_true true false b n e = absurd cc
four_true false k b n e = absurd cc

same_name : (a b : StateId) → is_same_id a b ≡ true → is_name (job_named b) (job_named a) ≡ true
same_name a b e =
    let parts = four_true (a.seqid == b.seqid) (a.kind == b.kind) (a.boot == b.boot) (a.number == b.number) e in
    and_both (b.boot == a.boot) (b.number == a.number) (eq-eqb b.boot a.boot (sym (eqb-true a.boot b.boot parts.0))) (eq-eqb b.number a.number (sym (eqb-true a.number b.number parts.1)))

record IsNamedBy (id : StateId) (copy : Option ClientCopy) : Type 0 where
  own : StateId
  knew : Knew (λ (x : ClientCopy). x.id) own copy
  same : is_same_id own id ≡ true

named_by : (id : StateId) (copy : Option ClientCopy) → names id copy ≡ true → IsNamedBy id copy
named_by id None e = absurd cc
named_by id (Some c) e = by c.id refl e
  where
    by : (o : Option StateId) → c.id ≡ o → is_called id o ≡ true → IsNamedBy id (Some c)
    by None is e = absurd cc
    by (Some own) is e = record { own = own; knew = is; same = e }

-- a same name the other way round
turned_name : (a b : StateId) → is_same_id a b ≡ true → is_name (job_named a) (job_named b) ≡ true
turned_name a b e =
    let parts = four_true (a.seqid == b.seqid) (a.kind == b.kind) (a.boot == b.boot) (a.number == b.number) e in
    and_both (a.boot == b.boot) (a.number == b.number) parts.0 parts.1

-- ---- what is held for a name

held_found : (o : Option HeldOffload) (end : OffloadEnd) → option_map (λ (h : HeldOffload). h.end) o ≡ Some end → (h : HeldOffload) × (o ≡ Some h) × (h.end ≡ end)
held_found None end e = absurd cc
held_found (Some h) end e = (h, refl, some_is h.end end e)

told_is : (b : Bool) (d : Bool) → (if b then d else false) ≡ true → b ≡ true
told_is true d e = refl
told_is false d e = absurd cc

held_any : (id : StateId) (held : List HeldOffload) (end : OffloadEnd) → told_for id held ≡ Some end → ends_stable end ≡ true → list_any (holds_one (job_named id)) held ≡ true
held_any id held end told stable =
    let h = held_found (find (is_told_for id) held) end told in
    let x = found_so (is_told_for id) held h.0 h.1 in
    x.any (holds_one (job_named id))
    (and_both (ends_stable h.0.end) (is_name (job_named id) (job_named h.0.id)) (ap ends_stable h.2 ∙ stable) (same_name h.0.id id (told_is (is_for id h.0) (decides h.0.end) x.so)))

-- ---- what makes a copy stable

data Reported (event : Event) : Type 0 where
  ByEnd : (end : OffloadEnd) (is : event ≡ events.Offloaded end) (stable : ends_stable end ≡ true) → Reported event
  ByAsking : (count sent_at : ℕ) (status : Status) (is : event ≡ events.Progressed count (Some status) sent_at) (ok : status.number ≡ 0) → Reported event

sync_stable : (response : WriteResponse) → response.committed ≡ FileSync → is_file_sync response.committed ≡ true
sync_stable response level = ap is_file_sync level

reported_of : (event : Event) → said.IsDone event → Reported event
reported_of event (said.ByCallback response level) = ByEnd (end_as.Done response) refl (sync_stable response level)
reported_of event (said.ByStatus count sent_at status ok) = ByAsking count sent_at status refl ok

-- ---- why a report comes

data Comes {M : Type 0} (ways : Ways) (turn : Turn) (c : ClientState M) (n : ℕ) (end : OffloadEnd) : Type 0 where
  Held : (id : StateId) (a : IsAnswer ways turn c n (deeds.Starts id)) (told : told_for id c.copies.held ≡ Some end) → Comes ways turn c n end
  Called : (side : Side) (message : List ℕ) (now : ℕ) (id : StateId) (turn_is : turn ≡ Hears side message now) (named : names id (copy_at n c.copies) ≡ true)
      (called : IsCalledBack ways message now c id end) → Comes ways turn c n end

own_never : {A : Type 0} (event : Event) (end : OffloadEnd) → is_own event ≡ true → event ≡ events.Offloaded end → A
own_never (events.Opened side) end own e = absurd cc
own_never events.Sent end own e = absurd cc
own_never (events.Queried query) end own e = absurd cc
own_never (events.Down side status) end own e = absurd cc
own_never events.Allowed end own e = absurd cc
own_never (events.Granted known) end own e = absurd cc
own_never (events.Accepted id sent_at) end own e = absurd cc
own_never (events.Told change session) end own e = absurd cc
own_never (events.Refused why) end own e = absurd cc
own_never (events.Progressed count complete sent_at) end own e = absurd cc
own_never events.Cancelled end own e = absurd cc
own_never (events.QueryRefused why) end own e = absurd cc
own_never (events.Offloaded other) end own e = absurd cc

comes_of : {M : Type 0} (ways : Ways) (turn : Turn) (c : ClientState M) (n : ℕ) (event : Event) (end : OffloadEnd) → Cause ways turn c n event → event ≡ events.Offloaded end
    → Comes ways turn c n end
comes_of ways turn c n event end (ByItself event' own) e = own_never event end own e
comes_of ways turn c n event end (ByAnswer side message now event' turn_is answered) e =
    absurd (reported_never ways turn c n end
    (record { side = side; message = message; now = now; turn_is = turn_is; answered = subst (λ (x : Event). IsAnswered ways side message now c n (deeds.Copy x)) e answered }))
comes_of ways turn c n event end (ByAcceptance side message now id sent_at turn_is answered) e = absurd cc
comes_of ways turn c n event end (ByHeld side message now id other turn_is answered told) e =
    let same : other ≡ end = cc in
    Held id (record { side = side; message = message; now = now; turn_is = turn_is; answered = answered }) (told ∙ ap (λ (x : OffloadEnd). Some x) same)
comes_of ways turn c n event end (ByCallback side message now id other turn_is named called) e =
    let same : other ≡ end = cc in
    Called side message now id turn_is named (subst (λ (x : OffloadEnd). IsCalledBack ways message now c id x) same called)

-- ---- two answers in one turn are one

hears_are : (side other : Side) (message message' : List ℕ) (now now' : ℕ) → Hears side message now ≡ Hears other message' now' → (other ≡ side) × (message' ≡ message) × (now' ≡ now)
hears_are side other message message' now now' e =
    let a : other ≡ side = cc in
    let b : message' ≡ message = cc in
    let d : now' ≡ now = cc in
    (a, b, d)

starts_is : (a b : StateId) → deeds.Starts a ≡ deeds.Starts b → a ≡ b
starts_is a b e = cc

one_deed : {M : Type 0} (ways : Ways) (side : Side) (message : List ℕ) (now : ℕ) (c : ClientState M) (n : ℕ) (a b : Deed) → IsAnswered ways side message now c n a
    → IsAnswered ways side message now c n b → a ≡ b
one_deed ways side message now c n a b x y =
    let same = some_is x.found y.found (sym x.found_is ∙ y.found_is) in
    sym x.deed_is
    ∙ ap (λ (f : Found). copy_deed f.told side (copy_in n (desk_heard ways side message now f c)) f.sent_at (desk_heard ways side message now f c)) same ∙ y.deed_is

one_name : {M : Type 0} (ways : Ways) (turn : Turn) (c : ClientState M) (n : ℕ) (id other : StateId) → IsAnswer ways turn c n (deeds.Starts id) → IsAnswer ways turn c n (deeds.Starts other)
    → other ≡ id
one_name ways turn c n id other a b =
    let same = hears_are a.side b.side a.message b.message a.now b.now (sym a.turn_is ∙ b.turn_is) in
    let first = subst (λ (x : Side). IsAnswered ways x b.message b.now c n (deeds.Starts other)) same.0 b.answered in
    let second = subst (λ (x : List ℕ). IsAnswered ways a.side x b.now c n (deeds.Starts other)) same.1 first in
    let third = subst (λ (x : ℕ). IsAnswered ways a.side a.message x c n (deeds.Starts other)) same.2 second in
    starts_is other id (one_deed ways a.side a.message a.now c n (deeds.Starts other) (deeds.Starts id) third a.answered)

-- what is accepted under a callback's seal
abbrev pub Sealing : {M : Type 0} → Ways → Turn → ClientState M → Outbox → Type 0
Sealing ways turn c out =
    (side : Side) (message : List ℕ) (now : ℕ) (call : Call) (args : List ℕ) (compound : CbCompound) → turn ≡ Hears side message now
    → judged_of ways.means.mic (second_at now c) programs.CALLBACK message c.back ≡ judged.Call call → call.what ≡ whats.Compound args → cb_compound_of args ≡ Ok compound
    → out.undrawn ≡ false → out.accepted ≡ accepted_seal c.back call

-- what is held was held, or a callback brings it
abbrev pub Holding : {M : Type 0} → Ways → Turn → ClientState M → ClientState M → Type 0
Holding ways turn c d = (held : HeldOffload) → Contains d.copies.held held → Contains c.copies.held held ⊎ WasCalledBack ways turn c held

module _ {M : Type 0} (who : Identity) (boot : ℕ) (purposes after_purposes : Purposes) (ways : Ways) (turn : Turn) (c d : ClientState M) (out : Outbox)
    (f : IsSaidTurn who boot purposes ways turn c d out) (s : System) (k : ℕ) (at : IsSeenAt boot purposes c s k) (to : IsSeenAt boot after_purposes d s (suc k))
    (acts : s.acts ends.Client k ≡ acts_of turn out) (sealing : Sealing ways turn c out) (holding : Holding ways turn c d) where
  -- a callback that comes is one that the wire sees
  called_seen : (name : JobName) (side : Side) (message : List ℕ) (now : ℕ) (id : StateId) (end : OffloadEnd) → turn ≡ Hears side message now → IsCalledBack ways message now c id end
      → ends_stable end ≡ true → is_name name (job_named id) ≡ true → out.undrawn ≡ false → laws.IsCalledBack (spelling who.accepts who.whose) meaning s k name
  called_seen name side message now id end turn_is b stable named drawn =
      let j = back_judged ways.means.mic (second_at now c) message c.back b.call b.args b.judged_is b.what in
      record {
        bytes = message;
        seal = seal_in c.back j.number j.seq;
        took = ap (λ (a : Acts). a.took) acts ∙ ap took_in turn_is;
        accepted = ap (λ (a : Acts). a.accepted) acts ∙ sealing side message now b.call b.args b.compound turn_is b.judged_is b.what b.read drawn ∙ j.accepted;
        own = f.carried.settled.owner;
        is_callback = j.is_back;
        reports =
            ap (λ (a : List ℕ). reported_by name (cb_ops_read (cb_compound_of a))) j.ops_are
            ∙ ap (λ (r : Result CbCompound ℕ). reported_by name (cb_ops_read r)) b.read
            ∙ ap (reported_by name) b.ops_are
            ∙ any_there (reports_one name) b.more (ops.Offload b.offload) b.there
            (and_both (ends_stable b.offload.end) (is_name name (job_named b.offload.id)) (ap ends_stable b.end_is ∙ stable)
            (ap (λ (i : StateId). is_name name (job_named i)) b.id_is ∙ named));
      }

  -- ---- what is held

  pub held_law : (name : JobName) → s.held (suc k) name ≡ true → (s.held k name ≡ true) ⊎ laws.IsCalledBack (spelling who.accepts who.whose) meaning s k name
  held_law name e = by f.drawn
    where
      brought : (x : IsThere (holds_one name) d.copies.held) → out.undrawn ≡ false → Contains c.copies.held x.x ⊎ WasCalledBack ways turn c x.x
          → (s.held k name ≡ true) ⊎ laws.IsCalledBack (spelling who.accepts who.whose) meaning s k name
      brought x drawn (inl was) = inl (at.held name ∙ any_there (holds_one name) c.copies.held x.x was x.so)
      brought x drawn (inr w) =
          let parts = both_of (ends_stable x.x.end) (is_name name (job_named x.x.id)) x.so in
          inr (called_seen name w.side w.message w.now x.x.id x.x.end w.turn_is w.by parts.0 parts.1 drawn)

      by : (out.undrawn ≡ false) ⊎ (d.copies ≡ c.copies) → (s.held k name ≡ true) ⊎ laws.IsCalledBack (spelling who.accepts who.whose) meaning s k name
      by (inr same) = inl (at.held name ∙ ap (λ (t : Copies). held_seen t name) (sym same) ∙ (sym (to.held name) ∙ e))
      by (inl drawn) =
          let x = any_is (holds_one name) d.copies.held (sym (to.held name) ∙ e) in
          brought x drawn (holding x.x x.there)

  -- ---- a copy is said to be stable

  -- the name that COPY's answer gives now is the copy's from then on
  named_now : (n : ℕ) (id : StateId) (start : ClientCopy) (m : IsAmong (Cause ways turn c n) said.IsSaidStable (f.changes.each n).events start) → Taking who boot purposes ways turn c out
      → IsAnswer ways turn c n (deeds.Starts id) → copy_at n c.copies ≡ Some start → (ran (f.changes.each n).events start).id ≡ Some id
  named_now n id start m taking a is =
      let own = named_stage who boot purposes ways turn c out f.carried f.reading f.coming taking n id a in
      let same = some_is own.own start (sym own.is ∙ is) in
      let one : (other : StateId) (sent_at : ℕ) → Cause ways turn c n (events.Accepted other sent_at) → other ≡ id = λ other sent_at caused.
      one_name ways turn c n id other a (accepted_of ways turn c n (events.Accepted other sent_at) other sent_at caused refl) in
      let early : start.stage ≡ Accepted → start.id ≡ Some id = λ e. never_accepted start.stage (ap (λ (x : ClientCopy). x.stage) (sym same) ∙ own.asked) e in
      let there = goes_named (Cause ways turn c n) id one m.before start m.all early m.so.accepted in
      ap (λ (x : ClientCopy). x.id) m.run ∙ name_kept (Cause ways turn c n) id one (m.event ∷ m.behind) (ran m.before start) (m.caused, m.after_all) there
    where
      never_accepted : {A : Type 0} (st : Stage) → st ≡ Asked steps.Copy → st ≡ Accepted → A
      never_accepted st a b =
          let both : Asked steps.Copy ≡ Accepted = sym a ∙ b in
          absurd cc

  stable_by_end : (n : ℕ) (start copy : ClientCopy) (end : OffloadEnd) (m : IsAmong (Cause ways turn c n) said.IsSaidStable (f.changes.each n).events start)
      → out.undrawn ≡ false → ends_stable end ≡ true → copy_at n f.changes.start ≡ Some start → copy_at n d.copies ≡ Some copy → ran (f.changes.each n).events start ≡ copy
      → Starts (copy_at n c.copies) (copy_at n f.changes.start) → Comes ways turn c n end → laws.IsSaidStable (spelling who.accepts who.whose) meaning s k n
  stable_by_end n start copy end m drawn stable start_is copy_is ran_to starts_so (Called side message now id turn_is named called) =
      let x = named_by id (copy_at n c.copies) named in
      record {
        name = job_named x.own;
        known = name_after who boot purposes after_purposes ways turn c d out f s k at to acts n x.own (f.name n x.own x.knew);
        reports = laws.Calls (called_seen (job_named x.own) side message now id end turn_is called stable (turned_name x.own id x.same) drawn);
      }
  stable_by_end n start copy end m drawn stable start_is copy_is ran_to (Same same) (Held id a told) =
      let named = named_now n id start m (f.taking drawn) a (sym same ∙ start_is) in
      record {
        name = job_named id;
        known =
            name_after who boot purposes after_purposes ways turn c d out f s k at to acts n id
            (subst (Knew (λ (x : ClientCopy). x.id) id) (sym copy_is) (ap (λ (x : ClientCopy). x.id) (sym ran_to) ∙ named));
        reports = laws.Holds (at.held (job_named id) ∙ held_any id c.copies.held end told stable);
      }
  stable_by_end n start copy end m drawn stable start_is copy_is ran_to (New spec secret gone either) (Held id a told) =
      let own = named_stage who boot purposes ways turn c out f.carried f.reading f.coming (f.taking drawn) n id a in
      none_some (copy_at n c.copies) own.own gone own.is

  stable_so : (n : ℕ) (start copy : ClientCopy) (m : IsAmong (Cause ways turn c n) said.IsSaidStable (f.changes.each n).events start) → out.undrawn ≡ false
      → copy_at n f.changes.start ≡ Some start → copy_at n d.copies ≡ Some copy → ran (f.changes.each n).events start ≡ copy → Reported m.event
      → laws.IsSaidStable (spelling who.accepts who.whose) meaning s k n
  stable_so n start copy m drawn start_is copy_is ran_to (ByEnd end is stable) =
      stable_by_end n start copy end m drawn stable start_is copy_is ran_to (starts turn c f.changes.start n f.may f.changes.begins) (comes_of ways turn c n m.event end m.caused is)
  stable_so n start copy m drawn start_is copy_is ran_to (ByAsking count sent_at status is ok) =
      let a = answer_of ways turn c n (events.Progressed count (Some status) sent_at) (subst (Cause ways turn c n) is m.caused) refl in
      let told = status_told who boot purposes ways turn c out f.carried f.reading f.coming (f.taking drawn) n count status sent_at ok a in
      record {
        name = job_named told.id;
        known = name_after who boot purposes after_purposes ways turn c d out f s k at to acts n told.id (f.name n told.id told.knew);
        reports = laws.Completes (record {
          answer = from_dest who boot purposes after_purposes ways turn c d out f s k at to acts (ForStatus n) told.told;
          asks = told.asks;
          says = told.says;
        });
      }

  pub stable_law : (n : ℕ) → (s.word (suc k) n).stable ≡ true → ((s.word k n).stable ≡ true) ⊎ laws.IsSaidStable (spelling who.accepts who.whose) meaning s k n
  stable_law n e = by (seen_stable (copy_at n d.copies) (sym (ap (λ (w : words.Word). w.stable) (to.word n)) ∙ e)) f.drawn
    where
      stays : (copy : ClientCopy) → copy_at n c.copies ≡ Some copy → says_stable copy.stage ≡ true → (s.word k n).stable ≡ true
      stays copy is so = ap (λ (w : words.Word). w.stable) (at.word n ∙ ap word_seen is) ∙ so

      among : (start copy : ClientCopy) → out.undrawn ≡ false → copy_at n f.changes.start ≡ Some start → copy_at n d.copies ≡ Some copy → ran (f.changes.each n).events start ≡ copy
          → (says_stable start.stage ≡ true) ⊎ IsAmong (Cause ways turn c n) said.IsSaidStable (f.changes.each n).events start
          → ((s.word k n).stable ≡ true) ⊎ laws.IsSaidStable (spelling who.accepts who.whose) meaning s k n
      among start copy drawn start_is copy_is ran_to (inl was) =
          inl (stays start (start_said says_stable (copy_at n c.copies) (copy_at n f.changes.start) start (λ spec secret. refl) (starts turn c f.changes.start n f.may f.changes.begins) start_is was) was)
      among start copy drawn start_is copy_is ran_to (inr m) = inr (stable_so n start copy m drawn start_is copy_is ran_to (reported_of m.event m.so.done))

      by : SeenStage (copy_at n d.copies) says_stable → (out.undrawn ≡ false) ⊎ (d.copies ≡ c.copies)
          → ((s.word k n).stable ≡ true) ⊎ laws.IsSaidStable (spelling who.accepts who.whose) meaning s k n
      by x (inr same) = inl (stays x.copy (sym (ap (copy_at n) same) ∙ x.is) x.so)
      by x (inl drawn) =
          let r = ran_is who boot purposes after_purposes ways turn c d out f s k at to acts n x.copy x.is in
          among r.0 x.copy drawn r.1 x.is r.2
          (stable_among (Cause ways turn c n) f.stable_law (f.changes.each n).events r.0 (f.changes.each n).caused (ap (λ (y : ClientCopy). says_stable y.stage) r.2 ∙ x.so))
