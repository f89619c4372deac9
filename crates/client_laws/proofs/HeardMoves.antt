-- What a reply does to copies: what the answer comes to, and what the client then does of itself.
use Rattle.std.proofs.Common.{◌≡◌, ◌∙◌, ℕ, ◌<◌, Bool, true, false, List, [], ◌∷◌, ◌++◌, length, Option, Some, None, refl, sym, ap, subst, lit<}
use Rattle.std.specs.Prelude.{◌==◌}
use Rattle.std.specs.List.{AllByRecursion}
use Rattle.std.proofs.lemmas.List.{append_assoc, length-set}
use Rattle.client_copies.specs.Held.{told_for}
use Rattle.client_copies.specs.Table.{Copies, accepted_at, copy_after, copy_at, joined, released, said_of, told_at, told_held}
use Rattle.client_copies.specs.Words.{told}
use Rattle.client_copies.specs.declared.copy.ClientCopy.{ClientCopy}
use Rattle.client_copies.specs.declared.event.Event.{Event}
use Rattle.client_copies.specs.declared.event.Event.TheVariants as events
use Rattle.client_copies.specs.declared.told.Said.{Said}
use Rattle.client_copies.specs.declared.told.Said.TheVariants.{Nothing, One, Two}
use Rattle.copy_ops.specs.declared.callback.OffloadEnd.{OffloadEnd}
use Rattle.client_steps.specs.Desks.{said_by}
use Rattle.client_steps.specs.declared.desk.Desk.{Desk}
use Rattle.nfs_base.specs.declared.state_id.StateId.{StateId}
use Rattle.outbox.specs.declared.note.Note.{Note}
use Rattle.call_results.specs.declared.files.Opened.{Opened}
use Rattle.call_results.specs.declared.files.Written.{Written}
use Rattle.client_copies.specs.Steps.{after, asked_step, is_going, on_accepted, on_offloaded, synced}
use Rattle.client_copies.specs.declared.copy.Step.{Step}
use Rattle.client_copies.specs.declared.copy.Step.TheVariants as steps
use Rattle.client_copies.specs.declared.held.HeldOffload.{HeldOffload}
use Rattle.client_core.specs.Endings.{Ways, acting_at, desk_at}
use Rattle.client_core.specs.Records.{heard}
use Rattle.client_core.specs.State.{ClientState}
use Rattle.client_site.specs.Falling.{all_places}
use Rattle.client_site.specs.Taking.{found_at, found_by}
use Rattle.client_site.specs.declared.taking.Found.{Found}
use Rattle.client_steps.specs.Acting.{Acting, on_desk, queue_at, with_desk}
use Rattle.client_steps.specs.Answers.{copy_deed, setup_deed, work_answered, work_committed, work_deed, work_done, work_opened, work_told}
use Rattle.client_steps.specs.CopySteps.{copy_in}
use Rattle.client_steps.specs.Desks.{site_at}
use Rattle.client_steps.specs.Replies.{answered, deed_at, deed_of, done, first_deed, started, taken, under_seal}
use Rattle.client_steps.specs.declared.deeds.Deed.{Deed}
use Rattle.client_steps.specs.declared.deeds.Deed.TheVariants as deeds
use Rattle.copy_ops.specs.declared.callback.OffloadEnd.TheVariants as ends
use Rattle.gss_ctx.specs.Seals.{Mic}
use Rattle.mount.specs.State.{Mounted}
use Rattle.mount.specs.Taking.{Means}
use Rattle.mount.specs.declared.taking.Heard.{Heard}
use Rattle.mount.specs.declared.taking.Told.{Told}
use Rattle.mount.specs.declared.taking.Told.TheVariants as tells
use Rattle.nfs_base.specs.declared.seal.Seal.{Seal}
use Rattle.nfs_base.specs.declared.side.Side.{Side}
use Rattle.nfs_base.specs.declared.side.Side.TheVariants.{Source, Dest}
use Rattle.nfs_base.specs.declared.written.Stability.{Stability}
use Rattle.nfs_base.specs.declared.written.Stability.TheVariants.{Unstable, DataSync, FileSync}
use Rattle.nfs_compound.specs.declared.reply.Reply.{Reply}
use Rattle.nfs_compound.specs.declared.res.Res.{Res}
use Rattle.outbox.specs.declared.note.Dropped.TheVariants.{Unmatched}
use Rattle.outbox.specs.declared.note.Note.TheVariants as notes
use Rattle.write_queue.specs.Queue.{Queued, first}
use Rattle.write_queue.specs.declared.queue.Head.{Head}
use Rattle.write_queue.specs.declared.queue.Head.TheVariants as heads
use Rattle.write_queue.specs.declared.work.Work.{Work}
use Rattle.client_laws.proofs.Changed.{IsStill, Moves, changes_then, moves_none, moves_noted, moves_still, moves_told, moves_wider, notes_said, said_copies, said_if, said_notes, told_each, words_append, words_said}
use Rattle.client_laws.proofs.OwnMoves.{own_goes_down, own_opens, own_queue, own_setup}
use Rattle.client_laws.specs.Causes.{Cause, ByItself, ByAnswer, ByAcceptance, ByHeld, IsAnswered, desk_heard}
use Rattle.client_laws.specs.Changes.{Changes, is_own}
use Rattle.client_laws.specs.Telling.{words_of}
use Rattle.client_laws.specs.Turns.{Turn, Hears}

-- ---- what happens over a desk, whatever is held

pub record Goes (cause : ℕ → Event → Type 0) (d e : Desk) : Type 0 where
  pub many : length e.copies.copies ≡ length d.copies.copies
  pub told : List Note
  pub notes : e.out.notes ≡ d.out.notes ++ told
  pub each : (j : ℕ) → Changes (cause j) (copy_at j d.copies) (copy_at j e.copies) (words_of j told)

pub goes_of : {cause : ℕ → Event → Type 0} {d e : Desk} → Moves cause d e → Goes cause d e
goes_of m = record { many = m.many; told = m.told; notes = m.notes; each = m.each }

pub goes_then : {cause : ℕ → Event → Type 0} {d e f : Desk} → Goes cause d e → Goes cause e f → Goes cause d f
goes_then {cause = cause} {d = d} {e = e} {f = f} m n = record {
  many = n.many ∙ m.many;
  told = m.told ++ n.told;
  notes = n.notes ∙ ap (λ ns. ns ++ n.told) m.notes ∙ append_assoc d.out.notes m.told n.told;
  each = λ j.
      subst (Changes (cause j) (copy_at j d.copies) (copy_at j f.copies)) (sym (words_append j m.told n.told))
      (changes_then (cause j) (copy_at j d.copies) (copy_at j e.copies) (copy_at j f.copies) (words_of j m.told) (words_of j n.told) (m.each j) (n.each j));
}

pub goes_none : {cause : ℕ → Event → Type 0} (d : Desk) → Goes cause d d
goes_none d = goes_of (moves_none d)

-- a table of copies comes in place, and what is said of one of them is noted
pub goes_said : {cause : ℕ → Event → Type 0} (i : ℕ) (said : Said) (t : Copies) (d : Desk) → i < 256 → length t.copies ≡ length d.copies.copies
    → ((j : ℕ) → Changes (cause j) (copy_at j d.copies) (copy_at j t) (said_if (i == j) said)) → Goes cause d (said_by i said (record d { copies = t }))
goes_said {cause = cause} i said t d small many each =
    let next : Desk = record d { copies = t } in
    let same = said_copies i said next in
    record {
      many = ap (λ (u : Copies). length u.copies) same ∙ many;
      told = notes_said i said;
      notes = said_notes i said next;
      each = λ j.
          subst (Changes (cause j) (copy_at j d.copies) (copy_at j (said_by i said next).copies)) (sym (words_said j i said small))
          (subst (λ (u : Copies). Changes (cause j) (copy_at j d.copies) (copy_at j u) (said_if (i == j) said)) (sym same) (each j));
    }

-- ---- COPY was answered: the copy is accepted, and then told what was held for its name

-- one word at most
abbrev pub IsShort : Said → Type 0
IsShort Nothing = Unit {0}
IsShort (One word) = Unit {0}
IsShort (Two first second) = ⊥

accepted_short : (id : StateId) (sent_at : ℕ) (o : Option Step) (c : ClientCopy) → IsShort (on_accepted id sent_at o c).0
accepted_short id sent_at (Some steps.Copy) c = tt
accepted_short id sent_at (Some _) c = tt
accepted_short id sent_at None c = tt

accept_short : (id : StateId) (sent_at : ℕ) (o : Option ClientCopy) → IsShort (said_of (events.Accepted id sent_at) o)
unfolding after
accept_short id sent_at None = tt
accept_short id sent_at (Some c) = accepted_short id sent_at (asked_step c.stage) c

synced_short : (level : Stability) (c : ClientCopy) → IsShort (synced level c).0
synced_short FileSync c = tt
synced_short DataSync c = tt
synced_short Unstable c = tt

offloaded_short : (end : OffloadEnd) (b : Bool) (c : ClientCopy) → IsShort (on_offloaded end b c).0
offloaded_short end false c = tt
offloaded_short (ends.Done response) true c = synced_short response.committed c
offloaded_short (ends.Failed status count) true c = tt

offload_short : (end : OffloadEnd) (o : Option ClientCopy) → IsShort (said_of (events.Offloaded end) o)
unfolding after
offload_short end None = tt
offload_short end (Some c) = offloaded_short end (is_going c.stage) c

joined_told : (a b : Said) → IsShort a → IsShort b → told a ++ told b ≡ told (joined a b)
joined_told Nothing b x y = refl
joined_told (One first) Nothing x y = refl
joined_told (One first) (One second) x y = refl
joined_told (One first) (Two second third) x y = absurd y
joined_told (Two first second) b x y = absurd x

joined_if : (b : Bool) (x y : Said) → IsShort x → IsShort y → said_if b x ++ said_if b y ≡ said_if b (joined x y)
joined_if true x y a b = joined_told x y a b
joined_if false x y a b = refl

held_each : (cause : ℕ → Event → Type 0) (i : ℕ) (t : Copies) (o : Option OffloadEnd) (said : Said) (u : Copies) (j : ℕ) → IsShort said
    → ((end : OffloadEnd) → o ≡ Some end → cause i (events.Offloaded end))
    → Changes (cause j) (copy_at j t) (copy_at j u) (said_if (i == j) said)
    → Changes (cause j) (copy_at j t) (copy_at j (told_held i o said u).1) (said_if (i == j) (told_held i o said u).0)
held_each cause i t None said u j short why f = f
held_each cause i t (Some end) said u j short why f =
    let more = said_of (events.Offloaded end) (copy_at i u) in
    let v = (told_at i (events.Offloaded end) u).1 in
    subst (Changes (cause j) (copy_at j t) (copy_at j v)) (joined_if (i == j) said more short (offload_short end (copy_at i u)))
    (changes_then (cause j) (copy_at j t) (copy_at j u) (copy_at j v) (said_if (i == j) said) (said_if (i == j) more) f
    (told_each cause (i == j) j i (events.Offloaded end) u refl (why end refl)))

held_many : (i : ℕ) (o : Option OffloadEnd) (said : Said) (u : Copies) → length (told_held i o said u).1.copies ≡ length u.copies
held_many i None said u = refl
held_many i (Some end) said u = length-set u.copies i (copy_after (events.Offloaded end) (copy_at i u))

pub goes_started : {cause : ℕ → Event → Type 0} (i : ℕ) (id : StateId) (sent_at : ℕ) (d : Desk) → i < 256 → cause i (events.Accepted id sent_at)
    → ((end : OffloadEnd) → told_for id d.copies.held ≡ Some end → cause i (events.Offloaded end)) → Goes cause d (started i id sent_at d)
goes_started {cause = cause} i id sent_at d small accepted held =
    let event = events.Accepted id sent_at in
    let t = (told_at i event d.copies).1 in
    let said = said_of event (copy_at i d.copies) in
    let o = told_for id d.copies.held in
    goes_said i (accepted_at i id sent_at d.copies).0 (accepted_at i id sent_at d.copies).1 d small
    (held_many i o said (released id t) ∙ length-set d.copies.copies i (copy_after event (copy_at i d.copies)))
    (λ j.
    held_each cause i d.copies o said (released id t) j (accept_short id sent_at (copy_at i d.copies)) held
    (told_each cause (i == j) j i event d.copies refl accepted))

-- ---- what an answer comes to

-- why what it does to a copy is done
abbrev pub HasCause : (ℕ → Event → Type 0) → List HeldOffload → ℕ → ℕ → Deed → Type 0
HasCause cause held place sent_at (deeds.Copy event) = cause place event
HasCause cause held place sent_at (deeds.Starts id) =
    cause place (events.Accepted id sent_at) × ((end : OffloadEnd) → told_for id held ≡ Some end → cause place (events.Offloaded end))
HasCause cause held place sent_at _ = Unit {0}

pub goes_done : {cause : ℕ → Event → Type 0} (deed : Deed) (mic : Mic) (me : List ℕ) (free : Option ℕ) (side : Side) (place sent_at : ℕ) (a : Acting) → place < 256
    → ((j : ℕ) (event : Event) → is_own event ≡ true → cause j event) → HasCause cause a.desk.copies.held place sent_at deed
    → Goes cause a.desk (done deed mic me free side place sent_at a).desk
goes_done deeds.Rests mic me free side place sent_at a small own why = goes_none a.desk
goes_done deeds.Goes mic me free side place sent_at a small own why = goes_of (moves_wider own (own_setup mic me free side a.desk))
goes_done (deeds.Falls status) mic me free side place sent_at a small own why = goes_of (moves_wider own (own_goes_down side status a))
goes_done (deeds.Opens opened_file) mic me free side place sent_at a small own why = goes_of (moves_wider own (own_opens side place opened_file a small))
goes_done (deeds.Queue event) mic me free side place sent_at a small own why = goes_of (moves_wider own (own_queue side event a))
goes_done (deeds.Copy event) mic me free side place sent_at a small own why = goes_of (moves_told place event a.desk small why)
goes_done (deeds.Starts id) mic me free side place sent_at a small own why = goes_started place id sent_at a.desk small why.0 why.1

-- ---- at place 0 an answer comes to nothing of a copy

abbrev pub IsNoCopys : Deed → Type 0
IsNoCopys (deeds.Copy event) = ⊥
IsNoCopys (deeds.Starts id) = ⊥
IsNoCopys _ = Unit {0}

setup_none : (told : Told) → IsNoCopys (setup_deed told)
setup_none tells.Rooted = tt
setup_none tells.Stepped = tt
setup_none (tells.Refused major) = tt
setup_none (tells.Stopped status) = tt
setup_none tells.Misspelt = tt
setup_none (tells.Failed stat) = tt
setup_none (tells.Denied why) = tt
setup_none tells.Unmatched = tt
setup_none (tells.Child child) = tt
setup_none (tells.Answer reply) = tt

opened_none : (o : Option Opened) (work : Option Work) → IsNoCopys (work_opened o work)
opened_none (Some opened) (Some work) = tt
opened_none (Some opened) None = tt
opened_none None work = tt

committed_none : (o : Option (List ℕ)) → IsNoCopys (work_committed o)
committed_none None = tt
committed_none (Some verifier) = tt

done_none : (o : Option Written) (rs : List Res) → IsNoCopys (work_done o rs)
done_none None rs = committed_none _
done_none (Some written) rs = tt

told_none : (head : Head) (work : Option Work) (rs : List Res) → IsNoCopys (work_told head work rs)
told_none heads.Opening work rs = opened_none _ work
told_none heads.Due work rs = done_none _ rs
told_none heads.Asked work rs = done_none _ rs

answered_none : (lost ok : Bool) (reply : Reply) (head : Head) (work : Option Work) → IsNoCopys (work_answered lost ok reply head work)
answered_none true ok reply head work = tt
answered_none false false reply head work = tt
answered_none false true reply head work = told_none head work reply.results

work_none : (told : Told) (q : Queued) → IsNoCopys (work_deed told q)
work_none (tells.Answer reply) q = answered_none _ _ reply q.head (first q.works)
work_none tells.Misspelt q = tt
work_none (tells.Failed stat) q = tt
work_none (tells.Denied why) q = tt
work_none (tells.Refused major) q = tt
work_none tells.Unmatched q = tt
work_none tells.Rooted q = tt
work_none (tells.Child child) q = tt
work_none tells.Stepped q = tt
work_none (tells.Stopped status) q = tt

pub first_none : (setting_up : Bool) (told : Told) (side : Side) (a : Acting) → IsNoCopys (first_deed setting_up told side a)
first_none true told side a = setup_none told
first_none false told side a = work_none told (queue_at side a)

pub no_cause : (cause : ℕ → Event → Type 0) (held : List HeldOffload) (place sent_at : ℕ) (deed : Deed) → IsNoCopys deed → HasCause cause held place sent_at deed
no_cause cause held place sent_at deeds.Rests none = tt
no_cause cause held place sent_at deeds.Goes none = tt
no_cause cause held place sent_at (deeds.Falls status) none = tt
no_cause cause held place sent_at (deeds.Opens opened_file) none = tt
no_cause cause held place sent_at (deeds.Queue event) none = tt
no_cause cause held place sent_at (deeds.Copy event) none = absurd none
no_cause cause held place sent_at (deeds.Starts id) none = absurd none

-- ---- the reply is found at a place below 16

abbrev pub IsAtPlace : Option Found → Type 0
IsAtPlace None = Unit {0}
IsAtPlace (Some found) = found.place < 256

by_place : (heard : Bool) (place sent_at : ℕ) (o : Heard × Mounted) (more : Option Found × Mounted) → place < 256 → IsAtPlace more.0
    → IsAtPlace (found_by heard place sent_at o more).0
by_place true place sent_at o more small rest = small
by_place false place sent_at o more small rest = rest

at_places : (means : Means) (message : List ℕ) (places : List ℕ) (m : Mounted) → AllByRecursion (λ p. p < 256) places → IsAtPlace (found_at means message places m).0
at_places means message [] m small = tt
at_places means message (place ∷ places) m small =
    by_place _ place _ _ _ small.0 (at_places means message places _ small.1)

places_small : AllByRecursion (λ p. p < 256) all_places
places_small =
    (lit< tt, (lit< tt, (lit< tt, (lit< tt, (lit< tt, (lit< tt, (lit< tt, (lit< tt, (lit< tt, (lit< tt, (lit< tt, (lit< tt, (lit< tt, (lit< tt, (lit< tt, (lit< tt, tt))))))))))))))))

pub taken_place : (means : Means) (message : List ℕ) (side : Side) (d : Desk) → IsAtPlace (taken means message side d).0
taken_place means message side d = at_places means message all_places (site_at side d).mount places_small

-- ---- the reply is taken

still_taken : (means : Means) (message : List ℕ) (side : Side) (d : Desk) → IsStill d (taken means message side d).1
still_taken means message Source d = record { copies = refl; notes = refl }
still_taken means message Dest d = record { copies = refl; notes = refl }

still_seal : (accepted : Option Seal) (d : Desk) → IsStill d (under_seal accepted d)
still_seal accepted d = record { copies = refl; notes = refl }

-- what the answer is is why it is done
deed_cause : {M : Type 0} (ways : Ways) (side : Side) (message : List ℕ) (now : ℕ) (c : ClientState M) (found : Found) (deed : Deed)
    → (taken ways.means message side (desk_at now c)).0 ≡ Some found
    → copy_deed found.told side (copy_in found.place (desk_heard ways side message now found c)) found.sent_at (desk_heard ways side message now found c) ≡ deed
    → HasCause (Cause ways (Hears side message now) c) c.copies.held found.place found.sent_at deed
deed_cause ways side message now c found deeds.Rests is e = tt
deed_cause ways side message now c found deeds.Goes is e = tt
deed_cause ways side message now c found (deeds.Falls status) is e = tt
deed_cause ways side message now c found (deeds.Opens opened_file) is e = tt
deed_cause ways side message now c found (deeds.Queue event) is e = tt
deed_cause ways side message now c found (deeds.Copy event) is e =
    ByAnswer side message now event refl (record { found = found; found_is = is; place = refl; deed_is = e })
deed_cause ways side message now c found (deeds.Starts id) is e =
    let answered : IsAnswered ways side message now c found.place (deeds.Starts id) = record { found = found; found_is = is; place = refl; deed_is = e } in
    (ByAcceptance side message now id found.sent_at refl answered, λ end held. ByHeld side message now id end refl answered held)

at_deed : {M : Type 0} (ways : Ways) (side : Side) (message : List ℕ) (now : ℕ) (c : ClientState M) (found : Found) (zero : Bool) (setting_up : Bool) (a : Acting)
    → a.desk ≡ desk_heard ways side message now found c → (taken ways.means message side (desk_at now c)).0 ≡ Some found
    → HasCause (Cause ways (Hears side message now) c) c.copies.held found.place found.sent_at
    (deed_at zero setting_up found.told side found.place found.sent_at a)
at_deed ways side message now c found true setting_up a same is = no_cause (Cause ways (Hears side message now) c) c.copies.held found.place found.sent_at _ (first_none setting_up found.told side a)
at_deed ways side message now c found false setting_up a same is =
    subst
    (λ (d : Desk). HasCause (Cause ways (Hears side message now) c) c.copies.held found.place found.sent_at (copy_deed found.told side (copy_in found.place d) found.sent_at d))
    (sym same) (deed_cause ways side message now c found _ is refl)

-- ---- all of it

itself : {M : Type 0} (ways : Ways) (turn : Turn) (c : ClientState M) (j : ℕ) (event : Event) → is_own event ≡ true → Cause ways turn c j event
itself ways turn c j event own = ByItself event own

answered_goes : {M : Type 0} (ways : Ways) (me : List ℕ) (side : Side) (message : List ℕ) (now : ℕ) (c : ClientState M) (setting_up : Bool) (free : Option ℕ) (o : Option Found)
    → (taken ways.means message side (desk_at now c)).0 ≡ o → IsAtPlace o
    → Goes (Cause ways (Hears side message now) c) (taken ways.means message side (desk_at now c)).1
    (answered setting_up ways.means.mic me free side o (with_desk (taken ways.means message side (desk_at now c)).1 (acting_at now c))).desk
answered_goes ways me side message now c setting_up free None is small =
    goes_of (moves_noted (notes.Dropped Unmatched) (taken ways.means message side (desk_at now c)).1 (λ j. refl))
answered_goes ways me side message now c setting_up free (Some found) is small =
    let d = (taken ways.means message side (desk_at now c)).1 in
    let b : Acting = on_desk (under_seal found.accepted) (with_desk d (acting_at now c)) in
    let kept = (still_taken ways.means message side (desk_at now c)).copies in
    goes_then (goes_of (moves_still (still_seal found.accepted d)))
    (goes_done (deed_of setting_up found.told side found.place found.sent_at b) ways.means.mic me free side found.place found.sent_at b small
    (itself ways (Hears side message now) c)
    (subst
    (λ (t : Copies). HasCause (Cause ways (Hears side message now) c) t.held found.place found.sent_at (deed_of setting_up found.told side found.place found.sent_at b))
    (sym kept) (at_deed ways side message now c found (found.place == 0) setting_up b refl is)))

pub heard_goes : {M : Type 0} (ways : Ways) (side : Side) (message : List ℕ) (now : ℕ) (c : ClientState M)
    → Goes (Cause ways (Hears side message now) c) (desk_at now c) (heard ways side message now c).desk
heard_goes ways side message now c =
    goes_then (goes_of (moves_still (still_taken ways.means message side (desk_at now c))))
    (answered_goes ways c.setting.me side message now c _ _ _ refl (taken_place ways.means message side (desk_at now c)))
