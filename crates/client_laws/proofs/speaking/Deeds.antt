-- What an answer comes to leaves what is awaited at each place.
use Rattle.std.proofs.Common.{◌≡◌, ◌≢◌, ◌∙◌, ℕ, zero, suc, Bool, true, false, List, [], ◌∷◌, get_or, Option, Some, None, refl, sym, ap, subst, inl, inr, ◌⊎◌, arith}
use Rattle.std.specs.Prelude.{◌==◌, ◌||◌}
use Rattle.std.specs.List.{list_any}
use Rattle.std.proofs.lemmas.Bool.{cases_eq}
use Rattle.call_results.specs.declared.copies.Granted.{Granted}
use Rattle.call_results.specs.declared.files.Opened.{Opened}
use Rattle.call_results.specs.declared.files.Written.{Written}
use Rattle.caller_laws.specs.OneStep.Counting.{Counted}
use Rattle.client_copies.specs.Held.{told_for}
use Rattle.client_copies.specs.Table.{Copies, accepted_at, copy_at, released, told_at, told_held}
use Rattle.client_copies.specs.declared.copy.ClientCopy.{ClientCopy}
use Rattle.client_copies.specs.declared.copy.Query.{Query}
use Rattle.client_copies.specs.declared.copy.Query.TheVariants as queries
use Rattle.client_copies.specs.declared.copy.Session.{Session}
use Rattle.client_copies.specs.declared.copy.Stage.{Stage}
use Rattle.client_copies.specs.declared.copy.Stage.TheVariants as stages
use Rattle.client_copies.specs.declared.copy.Step.{Step}
use Rattle.client_copies.specs.declared.copy.Step.TheVariants as steps
use Rattle.client_copies.specs.declared.event.Event.{Event}
use Rattle.client_copies.specs.declared.event.Event.TheVariants as events
use Rattle.client_copies.specs.declared.refusal.Refusal.{Refusal}
use Rattle.client_copies.specs.declared.told.Said.{Said}
use Rattle.client_laws.proofs.speaking.Desks.{SparedAt, dest_apart, held_placed, said_placed, source_apart, tells, told_placed}
use Rattle.client_laws.proofs.speaking.Leaving.{Idle, Spares, event_leaves, idle_elsewhere}
use Rattle.client_laws.proofs.speaking.Mounts.{none_some, some_is}
use Rattle.client_laws.proofs.speaking.Takes.{Fell, IsChild, WasHeard, Why}
use Rattle.client_laws.proofs.speaking.Walk.{file_added as file_added_placed, goes_down, half_of, queue_placed, setup_goes_on}
use Rattle.client_laws.specs.Speaking.Places.{AllPlaced, FitsCopy, FitsOwn, IsPlaced, Waits}
use Rattle.client_site.specs.declared.site.OpenFile.{OpenFile}
use Rattle.client_site.specs.declared.site.Site.{Site}
use Rattle.client_steps.specs.Acting.{Acting, on_desk, queue_at}
use Rattle.client_steps.specs.Answers.{accepted_by, copy_answered, copy_by, copy_deed, copy_opened, copy_told, denied_by, granted_by, last_told, progressed, is_ok, query_of, query_told, refuse_call, setup_deed, stage_told, step_told, work_answered, work_committed, work_deed, work_done, work_opened, work_told}
use Rattle.client_steps.specs.CopySteps.{copy_in}
use Rattle.client_steps.specs.Desks.{site_at, told_to}
use Rattle.client_steps.specs.Replies.{deed_at, done, file_added, first_deed, opened, opener_told, started}
use Rattle.client_steps.specs.declared.deeds.Deed.{Deed}
use Rattle.client_steps.specs.declared.deeds.Deed.TheVariants as deeds
use Rattle.client_steps.specs.declared.desk.Desk.{Desk}
use Rattle.copy_ops.specs.declared.callback.OffloadEnd.{OffloadEnd}
use Rattle.copy_ops.specs.declared.results.OffloadProgress.{OffloadProgress}
use Rattle.gss_ctx.specs.Seals.{Mic}
use Rattle.mount.specs.State.{Mounted, awaited_at, is_setting_up, pending_at, pending_in, place_sets_up, sets_up}
use Rattle.mount.specs.Taking.{is_lost}
use Rattle.mount.specs.declared.state.Aim.{Aim}
use Rattle.mount.specs.declared.state.Aim.TheVariants as aims
use Rattle.mount.specs.declared.state.Awaiting.{Awaiting}
use Rattle.mount.specs.declared.state.Pending.{Pending}
use Rattle.mount.specs.declared.state.Pending.TheVariants.{Init, Under}
use Rattle.mount.specs.declared.taking.Told.TheVariants as tells_as
use Rattle.mount.specs.declared.taking.Told.{Told}
use Rattle.nfs_base.specs.declared.side.Side.{Side}
use Rattle.nfs_base.specs.declared.side.Side.TheVariants.{Source, Dest}
use Rattle.nfs_base.specs.declared.state_id.StateId.{StateId}
use Rattle.nfs_base.specs.declared.status.Status.{Status}
use Rattle.nfs_compound.specs.declared.reply.Reply.{Reply}
use Rattle.nfs_compound.specs.declared.res.Res.{Res}
use Rattle.rpc_msg.specs.declared.reply.Denial.{Denial}
use Rattle.session_client.specs.Pending.{Asking}
use Rattle.write_queue.specs.Queue.{Queued, first as first_work}
use Rattle.write_queue.specs.declared.queue.Head.{Head}
use Rattle.write_queue.specs.declared.queue.Head.TheVariants as heads
use Rattle.write_queue.specs.declared.work.Work.{Work}

-- ---- what an answer to a copy's call does to the copy spares the other server

abbrev pub Sparing : Side → ClientCopy → Deed → Type 0
Sparing other c (deeds.Copy event) = Spares other event c
Sparing other c (deeds.Starts id) = Idle other c
Sparing other c _ = Unit {0}

module _ (side other : Side) (c : ClientCopy) (idle : query_of side c ≡ None → Idle other c) (asked : (query : Query) → query_of side c ≡ Some query → other ≡ Source) where
  spare_refuse : (o : Option Query) (why : Refusal) → query_of side c ≡ o → Sparing other c (refuse_call o why)
  spare_refuse None why is = idle is
  spare_refuse (Some query) why is = asked query is

  spare_denied : (creates : Bool) (o : Option Query) → query_of side c ≡ o → Sparing other c (denied_by creates o)
  spare_denied true o is = spare_refuse o _ is
  spare_denied false o is = tt

  spare_grant : (g : Option Granted) (s : Option Session) (f : Option OpenFile) → query_of side c ≡ None → Sparing other c (granted_by g s f)
  spare_grant (Some g) (Some s) (Some f) is = idle is
  spare_grant (Some g) (Some s) None is = idle is
  spare_grant (Some g) None f is = idle is
  spare_grant None s f is = idle is

  spare_name : (o : Option StateId) → query_of side c ≡ None → Sparing other c (accepted_by o)
  spare_name None is = idle is
  spare_name (Some id) is = idle is

  spare_last : (change : Option ℕ) (s : Option Session) → query_of side c ≡ None → Sparing other c (last_told change s)
  spare_last (Some change) (Some s) is = idle is
  spare_last (Some change) None is = idle is
  spare_last None s is = idle is

  spare_open : (o : Option Opened) → query_of side c ≡ None → Sparing other c (copy_opened side c o)
  spare_open None is = idle is
  spare_open (Some opened) is = tt

  spare_step : (step : Step) (rs : List Res) (d : Desk) → query_of side c ≡ None → Sparing other c (step_told step side c rs d)
  spare_step steps.OpenSource rs d is = spare_open _ is
  spare_step steps.OpenDest rs d is = spare_open _ is
  spare_step steps.OpenAgain rs d is = spare_open _ is
  spare_step steps.Notify rs d is = spare_grant _ _ _ is
  spare_step steps.Copy rs d is = spare_name _ is
  spare_step steps.Last rs d is = spare_last _ _ is
  spare_step steps.AllowSource rs d is = tt
  spare_step steps.AllowDest rs d is = tt

  spare_stage : (st : Stage) (rs : List Res) (d : Desk) → query_of side c ≡ None → Sparing other c (stage_told st side c rs d)
  spare_stage (stages.Asked step) rs d is = spare_step step rs d is
  spare_stage (stages.Due step) rs d is = tt
  spare_stage stages.Accepted rs d is = tt
  spare_stage (stages.Over v) rs d is = tt

  spare_progress : (p : Option OffloadProgress) (sent_at : ℕ) (query : Query) → query_of side c ≡ Some query → Sparing other c (progressed p sent_at)
  spare_progress None sent_at query is = asked query is
  spare_progress (Some p) sent_at query is = asked query is

  spare_query : (query : Query) (rs : List Res) (sent_at : ℕ) → query_of side c ≡ Some query → Sparing other c (query_told query rs sent_at)
  spare_query queries.Status rs sent_at is = spare_progress _ sent_at queries.Status is
  spare_query queries.Cancel rs sent_at is = asked queries.Cancel is

  spare_call : (o : Option Query) (rs : List Res) (sent_at : ℕ) (d : Desk) → query_of side c ≡ o → Sparing other c (copy_told o side c rs sent_at d)
  spare_call None rs sent_at d is = spare_stage c.stage rs d is
  spare_call (Some query) rs sent_at d is = spare_query query rs sent_at is

  spare_answered : (lost ok : Bool) (reply : Reply) (sent_at : ℕ) (d : Desk) → Sparing other c (copy_answered lost ok side c reply sent_at d)
  spare_answered true ok reply sent_at d = tt
  spare_answered false false reply sent_at d = spare_refuse (query_of side c) _ refl
  spare_answered false true reply sent_at d = spare_call (query_of side c) reply.results sent_at d refl

  pub spare_by : (told : Told) (sent_at : ℕ) (d : Desk) → ((k : ℕ) → told ≡ tells_as.Child k → Idle other c) → Sparing other c (copy_by told side c sent_at d)
  spare_by (tells_as.Answer reply) sent_at d child = spare_answered _ _ reply sent_at d
  spare_by (tells_as.Child k) sent_at d child = child k refl
  spare_by (tells_as.Refused major) sent_at d child = spare_refuse (query_of side c) _ refl
  spare_by tells_as.Misspelt sent_at d child = spare_refuse (query_of side c) _ refl
  spare_by (tells_as.Failed stat) sent_at d child = spare_refuse (query_of side c) _ refl
  spare_by (tells_as.Denied why) sent_at d child = spare_denied _ (query_of side c) refl
  spare_by tells_as.Unmatched sent_at d child = tt
  spare_by tells_as.Rooted sent_at d child = tt
  spare_by tells_as.Stepped sent_at d child = tt
  spare_by (tells_as.Stopped status) sent_at d child = tt

-- ---- what an answer may come to

-- nothing is awaited at the place any more, and the copy's other server is spared
abbrev pub CanDo : Side → ℕ → Desk → Deed → Type 0
CanDo side place d deeds.Rests = Unit {0}
CanDo side place d deeds.Goes = Unit {0}
CanDo side place d (deeds.Falls status) = Unit {0}
CanDo side place d (deeds.Queue event) = Unit {0}
CanDo side place d (deeds.Opens file) = pending_at (site_at side d).mount place ≡ None
CanDo side place d (deeds.Copy event) =
    (pending_at (site_at side d).mount place ≡ None)
    × ((other : Side) → (side ≡ other → ⊥) → (c : ClientCopy) → copy_at place d.copies ≡ Some c → Spares other event c)
CanDo side place d (deeds.Starts id) =
    (pending_at (site_at side d).mount place ≡ None)
    × ((other : Side) → (side ≡ other → ⊥) → (c : ClientCopy) → copy_at place d.copies ≡ Some c → Idle other c)

happens : (side : Side) (place : ℕ) (event : Event) (d : Desk) → AllPlaced d → pending_at (site_at side d).mount place ≡ None
    → ((other : Side) → (side ≡ other → ⊥) → (c : ClientCopy) → copy_at place d.copies ≡ Some c → Spares other event c) → AllPlaced (told_to place event d)
happens Source place event d x gone spares =
    tells place event d x (λ c is. inl gone) (λ c is. inr (event_leaves Dest event c (spares Dest source_apart c is)))
happens Dest place event d x gone spares =
    tells place event d x (λ c is. inr (event_leaves Source event c (spares Source dest_apart c is))) (λ c is. inl gone)

-- COPY was answered: what was held for its name is told
starts_at : (side : Side) (s : Site) (t : Copies) (j : ℕ) (id : StateId) (sent_at : ℕ) → IsPlaced side s t → SparedAt side s t j (events.Accepted id sent_at)
    → IsPlaced side s (accepted_at j id sent_at t).1
starts_at side s t j id sent_at x spares =
    let u = (told_at j (events.Accepted id sent_at) t).1 in
    let said = (told_at j (events.Accepted id sent_at) t).0 in
    by (told_for id u.held) said (released id u) (held_placed side s u _ (told_placed side s t j (events.Accepted id sent_at) x spares))
  where
    by : (o : Option OffloadEnd) (said : Said) (u : Copies) → IsPlaced side s u → IsPlaced side s (told_held j o said u).1
    by None said u y = y
    by (Some end) said u y = told_placed side s u j (events.Offloaded end) y (λ c is. inr (event_leaves side (events.Offloaded end) c tt))

start_placed : (side : Side) (place : ℕ) (id : StateId) (sent_at : ℕ) (d : Desk) → AllPlaced d → pending_at (site_at side d).mount place ≡ None
    → ((other : Side) → (side ≡ other → ⊥) → (c : ClientCopy) → copy_at place d.copies ≡ Some c → Idle other c) → AllPlaced (started place id sent_at d)
start_placed Source place id sent_at d x gone spares =
    said_placed place (accepted_at place id sent_at d.copies).0 (record d { copies = (accepted_at place id sent_at d.copies).1 }) (record {
      source = starts_at Source d.source d.copies place id sent_at x.source (λ c is. inl gone);
      dest = starts_at Dest d.dest d.copies place id sent_at x.dest (λ c is. inr (event_leaves Dest (events.Accepted id sent_at) c (spares Dest source_apart c is)));
    })
start_placed Dest place id sent_at d x gone spares =
    said_placed place (accepted_at place id sent_at d.copies).0 (record d { copies = (accepted_at place id sent_at d.copies).1 }) (record {
      source = starts_at Source d.source d.copies place id sent_at x.source (λ c is. inr (event_leaves Source (events.Accepted id sent_at) c (spares Source dest_apart c is)));
      dest = starts_at Dest d.dest d.copies place id sent_at x.dest (λ c is. inl gone);
    })

-- a file comes to be open, which changes no mount
opens_same : (side : Side) (place : ℕ) (file : OpenFile) (d : Desk) → pending_at (site_at side (file_added side file d)).mount place ≡ pending_at (site_at side d).mount place
opens_same Source place file d = refl
opens_same Dest place file d = refl

opener_placed : (b : Bool) (side : Side) (place : ℕ) (a : Acting) → AllPlaced a.desk → pending_at (site_at side a.desk).mount place ≡ None → AllPlaced (opener_told b side place a).desk
opener_placed true side place a x gone = queue_placed side _ a x
opener_placed false side place a x gone = happens side place (events.Opened side) a.desk x gone (λ other apart c is. inr apart)

pub done_placed : (deed : Deed) (mic : Mic) (counted : Counted) (me : List ℕ) (free : Option ℕ) (side : Side) (place sent_at : ℕ) (a : Acting) → CanDo side place a.desk deed
    → AllPlaced a.desk → AllPlaced (done deed mic me free side place sent_at a).desk
done_placed deeds.Rests mic counted me free side place sent_at a can x = x
done_placed deeds.Goes mic counted me free side place sent_at a can x = setup_goes_on mic counted me free side a.desk x
done_placed (deeds.Falls status) mic counted me free side place sent_at a can x = goes_down side status a (half_of side a.desk x)
done_placed (deeds.Opens file) mic counted me free side place sent_at a can x =
    opener_placed (place == 0) side place (on_desk (file_added side file) a) (file_added_placed side file a.desk x) (opens_same side place file a.desk ∙ can)
done_placed (deeds.Queue event) mic counted me free side place sent_at a can x = queue_placed side event a x
done_placed (deeds.Copy event) mic counted me free side place sent_at a can x = happens side place event a.desk x can.0 can.1
done_placed (deeds.Starts id) mic counted me free side place sent_at a can x = start_placed side place id sent_at a.desk x can.0 can.1

-- ---- what an answer at place 0 comes to

module _ (side : Side) (place : ℕ) (d : Desk) (gone : pending_at (site_at side d).mount place ≡ None) where
  can_setup : (told : Told) → CanDo side place d (setup_deed told)
  can_setup tells_as.Rooted = tt
  can_setup tells_as.Stepped = tt
  can_setup (tells_as.Refused major) = tt
  can_setup (tells_as.Stopped status) = tt
  can_setup tells_as.Misspelt = tt
  can_setup (tells_as.Failed stat) = tt
  can_setup (tells_as.Denied why) = tt
  can_setup tells_as.Unmatched = tt
  can_setup (tells_as.Child child) = tt
  can_setup (tells_as.Answer reply) = tt

  can_opened : (o : Option Opened) (w : Option Work) → CanDo side place d (work_opened o w)
  can_opened (Some o) (Some w) = gone
  can_opened (Some o) None = tt
  can_opened None w = tt

  can_committed : (o : Option (List ℕ)) → CanDo side place d (work_committed o)
  can_committed None = tt
  can_committed (Some verifier) = tt

  can_done : (o : Option Written) (rs : List Res) → CanDo side place d (work_done o rs)
  can_done (Some written) rs = tt
  can_done None rs = can_committed _

  can_told : (head : Head) (w : Option Work) (rs : List Res) → CanDo side place d (work_told head w rs)
  can_told heads.Opening w rs = can_opened _ w
  can_told heads.Due w rs = can_done _ rs
  can_told heads.Asked w rs = can_done _ rs

  can_answered : (lost ok : Bool) (reply : Reply) (head : Head) (w : Option Work) → CanDo side place d (work_answered lost ok reply head w)
  can_answered true ok reply head w = tt
  can_answered false false reply head w = tt
  can_answered false true reply head w = can_told head w reply.results

  can_work : (told : Told) (q : Queued) → CanDo side place d (work_deed told q)
  can_work (tells_as.Answer reply) q = can_answered _ _ reply q.head _
  can_work tells_as.Misspelt q = tt
  can_work (tells_as.Failed stat) q = tt
  can_work (tells_as.Denied why) q = tt
  can_work (tells_as.Refused major) q = tt
  can_work tells_as.Rooted q = tt
  can_work tells_as.Stepped q = tt
  can_work (tells_as.Stopped status) q = tt
  can_work tells_as.Unmatched q = tt
  can_work (tells_as.Child child) q = tt

  pub can_first : (setting_up : Bool) (told : Told) (a : Acting) → CanDo side place d (first_deed setting_up told side a)
  can_first true told a = can_setup told
  can_first false told a = can_work told (queue_at side a)

-- nothing comes of what isn't an answer
can_copy_unmatched : (side : Side) (place sent_at : ℕ) (o : Option ClientCopy) (d e : Desk) → CanDo side place d (copy_deed tells_as.Unmatched side o sent_at e)
can_copy_unmatched side place sent_at None d e = tt
can_copy_unmatched side place sent_at (Some c) d e = tt

can_unmatched : (first setting_up : Bool) (side : Side) (place sent_at : ℕ) (d : Desk) (a : Acting) → CanDo side place d (deed_at first setting_up tells_as.Unmatched side place sent_at a)
can_unmatched true true side place sent_at d a = tt
can_unmatched true false side place sent_at d a = tt
can_unmatched false setting_up side place sent_at d a = can_copy_unmatched side place sent_at (copy_in place a.desk) d a.desk

-- ---- what an answer to a copy's call comes to

sparing_can : (side : Side) (place : ℕ) (d : Desk) (c : ClientCopy) (deed : Deed) → pending_at (site_at side d).mount place ≡ None → copy_at place d.copies ≡ Some c
    → ((other : Side) → (side ≡ other → ⊥) → Sparing other c deed) → CanDo side place d deed
sparing_can side place d c deeds.Rests gone is spares = tt
sparing_can side place d c deeds.Goes gone is spares = tt
sparing_can side place d c (deeds.Falls status) gone is spares = tt
sparing_can side place d c (deeds.Queue event) gone is spares = tt
sparing_can side place d c (deeds.Opens file) gone is spares = gone
sparing_can side place d c (deeds.Copy event) gone is spares =
    (gone, λ other apart e at. subst (Spares other event) (some_is c e (sym is ∙ at)) (spares other apart))
sparing_can side place d c (deeds.Starts id) gone is spares =
    (gone, λ other apart e at. subst (Idle other) (some_is c e (sym is ∙ at)) (spares other apart))

none_query : (side : Side) (c : ClientCopy) (query : Query) (other : Side) → (side ≡ other → ⊥) → query_of side c ≡ Some query → other ≡ Source
none_query Source c query other apart is = absurd cc
none_query Dest c query Source apart is = refl
none_query Dest c query Dest apart is = absurd (apart refl)

-- what the copy awaits here, it doesn't await there
idle_by : (side other : Side) (files : List OpenFile) (c : ClientCopy) (p : Pending) → (side ≡ other → ⊥) → FitsOwn side files c p → query_of side c ≡ None → Idle other c
idle_by side other files c (Init init) apart f none = absurd f
idle_by side other files c (Under context aims.Setup asking) apart f none = absurd f
idle_by side other files c (Under context aims.End asking) apart f none = absurd f
idle_by side other files c (Under context (aims.Child child) asking) apart f none = idle_elsewhere other side c f.1.step f.1.asked f.1.here apart
idle_by side other files c (Under context aims.Slot asking) apart f none = by f.waits
  where
    by : Waits side c ⊎ ((query : Query) × (query_of side c ≡ Some query)) → Idle other c
    by (inl w) = idle_elsewhere other side c w.step w.asked w.here apart
    by (inr q) = none_some (query_of side c) q.0 none q.1

child_by : (side other : Side) (files : List OpenFile) (c : ClientCopy) (p : Pending) → (side ≡ other → ⊥) → FitsOwn side files c p → IsChild p → Idle other c
child_by side other files c (Init init) apart f child = absurd f
child_by side other files c (Under context aims.Setup asking) apart f child = absurd f
child_by side other files c (Under context aims.End asking) apart f child = absurd f
child_by side other files c (Under context aims.Slot asking) apart f child = absurd child
child_by side other files c (Under context (aims.Child k) asking) apart f child = idle_elsewhere other side c f.1.step f.1.asked f.1.here apart

can_copy : (side : Side) (place sent_at : ℕ) (files : List OpenFile) (p : Pending) (told : Told) (d e : Desk) → pending_at (site_at side d).mount place ≡ None
    → FitsCopy side files (copy_at place d.copies) p → ((k : ℕ) → told ≡ tells_as.Child k → IsChild p) → CanDo side place d (copy_deed told side (copy_at place d.copies) sent_at e)
can_copy side place sent_at files p told d e gone f child =
    let c = f.own in
    subst (λ (o : Option ClientCopy). CanDo side place d (copy_deed told side o sent_at e)) (sym f.own_is)
    (sparing_can side place d c (copy_by told side c sent_at e) gone f.own_is
    (λ other apart.
    spare_by side other c (idle_by side other files c p apart f.fits) (λ query is. none_query side c query other apart is) told sent_at e
    (λ k is. child_by side other files c p apart f.fits (child k is))))

-- ---- an answer that was heard

zero_is : (place : ℕ) → (place == 0) ≡ true → place ≡ 0
zero_is place e = grind (arith, e)

zero_not : (place : ℕ) → (place == 0) ≡ false → place ≡ 0 → ⊥
zero_not place e is = grind (arith, e, is)

pub can_heard : (side : Side) (s : Site) (t : Copies) (place sent_at : ℕ) (told : Told) (setting_up : Bool) (d : Desk) (a : Acting) → IsPlaced side s t
    → (told ≡ tells_as.Unmatched) ⊎ WasHeard s.mount (site_at side d).mount place told → d.copies ≡ t → a.desk.copies ≡ d.copies
    → CanDo side place d (deed_at (place == 0) setting_up told side place sent_at a)
can_heard side s t place sent_at told setting_up d a old (inl un) same also =
    subst (λ (x : Told). CanDo side place d (deed_at (place == 0) setting_up x side place sent_at a)) (sym un) (can_unmatched (place == 0) setting_up side place sent_at d a)
can_heard side s t place sent_at told setting_up d a old (inr heard) same also = by (place == 0) refl
  where
    by : (b : Bool) → (place == 0) ≡ b → CanDo side place d (deed_at b setting_up told side place sent_at a)
    by true e = can_first side place d heard.gone setting_up told a
    by false e =
        let f = old.others place (zero_not place e) heard.p heard.was in
        subst (λ (u : Copies). CanDo side place d (copy_deed told side (copy_at place u) sent_at a.desk)) (sym also)
        (can_copy side place sent_at s.files heard.p told d a.desk heard.gone (subst (λ (u : Copies). FitsCopy side s.files (copy_at place u) heard.p) (sym same) f) heard.child)

-- ---- a mount that fell takes the whole setup down

pub record FallsDown (deed : Deed) : Type 0 where
  pub status : Status
  pub is : deed ≡ deeds.Falls status

falls : (status : Status) (deed : Deed) → deed ≡ deeds.Falls status → FallsDown deed
falls status deed is = record { status = status; is = is }

-- whether the setup goes on
any_false : (l : List (Option Awaiting)) → ((i : ℕ) → place_sets_up (get_or l i None) ≡ false) → list_any place_sets_up l ≡ false
any_false [] none = refl
any_false (x ∷ xs) none = either (place_sets_up x) (list_any place_sets_up xs) (none zero) (any_false xs (λ i. none (suc i)))
  where
    either : (a b : Bool) → a ≡ false → b ≡ false → (a || b) ≡ false
    either false b e f = f
    either true b e f = absurd cc

any_true : (l : List (Option Awaiting)) → place_sets_up (get_or l 0 None) ≡ true → list_any place_sets_up l ≡ true
any_true [] e = absurd cc
any_true (x ∷ xs) e = either (place_sets_up x) (list_any place_sets_up xs) e
  where
    either : (a b : Bool) → a ≡ true → (a || b) ≡ true
    either true b e = refl
    either false b e = absurd cc

sets_up_by : (side : Side) (files : List OpenFile) (copy : Option ClientCopy) (o : Option Awaiting) → ((p : Pending) → pending_in o ≡ Some p → FitsCopy side files copy p) → place_sets_up o ≡ false
sets_up_by side files copy None f = refl
sets_up_by side files copy (Some a) f = let g = f a.pending refl in by a.pending g.own g.fits
  where
    by : (p : Pending) (c : ClientCopy) → FitsOwn side files c p → sets_up p ≡ false
    by (Init init) c g = absurd g
    by (Under context aims.Setup asking) c g = absurd g
    by (Under context aims.Slot asking) c g = refl
    by (Under context (aims.Child child) asking) c g = refl
    by (Under context aims.End asking) c g = absurd g

module _ (side : Side) (s : Site) (t : Copies) (old : IsPlaced side s t) where
  -- a call in the slot of place 0 is awaited: nothing sets up
  slot_calm : (context : ℕ) (asking : Asking) → pending_at s.mount 0 ≡ Some (Under context aims.Slot asking) → is_setting_up s.mount ≡ false
  slot_calm context asking was = any_false s.mount.places (λ i. by i (cases_eq i 0))
    where
      first : (o : Option Awaiting) → pending_in o ≡ Some (Under context aims.Slot asking) → place_sets_up o ≡ false
      first None e = absurd cc
      first (Some a) e = ap sets_up (some_is a.pending (Under context aims.Slot asking) e)

      by : (i : ℕ) → (i ≡ 0) ⊎ (i ≢ 0) → place_sets_up (get_or s.mount.places i None) ≡ false
      by i (inl here) = ap (λ (k : ℕ). place_sets_up (get_or s.mount.places k None)) here ∙ first (awaited_at s.mount 0) was
      by i (inr apart) = sets_up_by side s.files (copy_at i t) (awaited_at s.mount i) (λ p is. old.others i apart p is)

  setup_busy : (context : ℕ) (asking : Asking) → pending_at s.mount 0 ≡ Some (Under context aims.Setup asking) → is_setting_up s.mount ≡ true
  setup_busy context asking was = any_true s.mount.places (first (awaited_at s.mount 0) was)
    where
      first : (o : Option Awaiting) → pending_in o ≡ Some (Under context aims.Setup asking) → place_sets_up o ≡ true
      first None e = absurd cc
      first (Some a) e = ap sets_up (some_is a.pending (Under context aims.Setup asking) e)

  work_lost : (reply : Reply) (q : Queued) → is_lost reply.status ≡ true → FallsDown (work_deed (tells_as.Answer reply) q)
  work_lost reply q lost = falls _ _ (ap (λ (b : Bool). work_answered b (is_ok reply.status) reply q.head (first_work q.works)) lost)

  work_denied : (setting_up : Bool) (why : Denial) (a : Acting) → FallsDown (first_deed setting_up (tells_as.Denied why) side a)
  work_denied true why a = falls _ _ refl
  work_denied false why a = falls _ _ refl

  first_falls : (context : ℕ) (aim : Aim) (asking : Asking) (told : Told) (a : Acting) → pending_at s.mount 0 ≡ Some (Under context aim asking) → Why aim told
      → FallsDown (first_deed (is_setting_up s.mount) told side a)
  first_falls context aims.Slot asking (tells_as.Answer reply) a was why =
      subst (λ (b : Bool). FallsDown (first_deed b (tells_as.Answer reply) side a)) (sym (slot_calm context asking was)) (work_lost reply (queue_at side a) why)
  first_falls context aims.Slot asking (tells_as.Denied denial) a was why = work_denied (is_setting_up s.mount) denial a
  first_falls context aims.Setup asking (tells_as.Stopped status) a was why =
      subst (λ (b : Bool). FallsDown (first_deed b (tells_as.Stopped status) side a)) (sym (setup_busy context asking was)) (falls status _ refl)
  first_falls context aims.Setup asking (tells_as.Denied denial) a was why = work_denied (is_setting_up s.mount) denial a
  first_falls context aims.Slot asking tells_as.Unmatched a was why = absurd why
  first_falls context aims.Slot asking tells_as.Rooted a was why = absurd why
  first_falls context aims.Slot asking (tells_as.Child child) a was why = absurd why
  first_falls context aims.Slot asking (tells_as.Refused major) a was why = absurd why
  first_falls context aims.Slot asking tells_as.Stepped a was why = absurd why
  first_falls context aims.Slot asking (tells_as.Stopped status) a was why = absurd why
  first_falls context aims.Slot asking tells_as.Misspelt a was why = absurd why
  first_falls context aims.Slot asking (tells_as.Failed stat) a was why = absurd why
  first_falls context aims.Setup asking (tells_as.Answer reply) a was why = absurd why
  first_falls context aims.Setup asking tells_as.Unmatched a was why = absurd why
  first_falls context aims.Setup asking tells_as.Rooted a was why = absurd why
  first_falls context aims.Setup asking (tells_as.Child child) a was why = absurd why
  first_falls context aims.Setup asking (tells_as.Refused major) a was why = absurd why
  first_falls context aims.Setup asking tells_as.Stepped a was why = absurd why
  first_falls context aims.Setup asking tells_as.Misspelt a was why = absurd why
  first_falls context aims.Setup asking (tells_as.Failed stat) a was why = absurd why
  first_falls context (aims.Child child) asking told a was why = absurd why
  first_falls context aims.End asking told a was why = absurd why

  copy_falls : (context : ℕ) (aim : Aim) (asking : Asking) (told : Told) (c : ClientCopy) (sent_at : ℕ) (d : Desk) → FitsOwn side s.files c (Under context aim asking) → Why aim told
      → FallsDown (copy_by told side c sent_at d)
  copy_falls context aims.Slot asking (tells_as.Answer reply) c sent_at d f why = falls _ _ (ap (λ (b : Bool). copy_answered b (is_ok reply.status) side c reply sent_at d) why)
  copy_falls context aims.Slot asking (tells_as.Denied denial) c sent_at d f why = falls _ _ (ap (λ (b : Bool). denied_by b (query_of side c)) f.no_create)
  copy_falls context aims.Setup asking told c sent_at d f why = absurd f
  copy_falls context aims.Slot asking tells_as.Unmatched c sent_at d f why = absurd why
  copy_falls context aims.Slot asking tells_as.Rooted c sent_at d f why = absurd why
  copy_falls context aims.Slot asking (tells_as.Child child) c sent_at d f why = absurd why
  copy_falls context aims.Slot asking (tells_as.Refused major) c sent_at d f why = absurd why
  copy_falls context aims.Slot asking tells_as.Stepped c sent_at d f why = absurd why
  copy_falls context aims.Slot asking (tells_as.Stopped status) c sent_at d f why = absurd why
  copy_falls context aims.Slot asking tells_as.Misspelt c sent_at d f why = absurd why
  copy_falls context aims.Slot asking (tells_as.Failed stat) c sent_at d f why = absurd why
  copy_falls context (aims.Child child) asking told c sent_at d f why = absurd why
  copy_falls context aims.End asking told c sent_at d f why = absurd why

  pub fell_falls : (n : Mounted) (place sent_at : ℕ) (told : Told) (a : Acting) → Fell s.mount n place told → a.desk.copies ≡ t
      → FallsDown (deed_at (place == 0) (is_setting_up s.mount) told side place sent_at a)
  fell_falls n place sent_at told a fell same = by (place == 0) refl
    where
      by : (b : Bool) → (place == 0) ≡ b → FallsDown (deed_at b (is_setting_up s.mount) told side place sent_at a)
      by true e = first_falls fell.context fell.aim fell.asking told a (sym (ap (pending_at s.mount) (zero_is place e)) ∙ fell.was) fell.why
      by false e =
          let f = old.others place (zero_not place e) (Under fell.context fell.aim fell.asking) fell.was in
          subst (λ (o : Option ClientCopy). FallsDown (copy_deed told side o sent_at a.desk)) (sym (ap (copy_at place) same ∙ f.own_is))
          (copy_falls fell.context fell.aim fell.asking told f.own sent_at a.desk f.fits fell.why)
