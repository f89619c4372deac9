-- What a client does of itself in a step, at one server: its calls, where they may go out, and how a setup goes down.
use Rattle.std.proofs.Common.{◌≡◌, ◌⊎◌, inl, inr, ◌∙◌, ℕ, ◌+◌, ◌^◌, ◌<◌, ◌≤◌, Bool, true, false, List, [], ◌∷◌, length, Option, Some, None, refl, sym, ap, subst, arith}
use Rattle.std.specs.Prelude.{◌&&◌, IfSome, nat_le, nat_lt, not}
use Rattle.std.proofs.lemmas.List.{append-nil}
use Rattle.std.proofs.lemmas.Bool.{leb-true, ltb-true}
use Rattle.caller_laws.specs.Fitting.Asking.{BackChannelFits, SlotCallIsFit}
use Rattle.caller_laws.specs.Fitting.Bounds.{FixedFits, TextFits}
use Rattle.caller_laws.specs.Fitting.Moving.{SendIsFit, SendsFit}
use Rattle.caller_laws.specs.Good.{Identity, IsOwnToken}
use Rattle.caller_laws.specs.Moves.{Again, Begin, InSlot, Make, Reclaim, SetUp, Send, Sends}
use Rattle.caller_laws.specs.OneStep.Counting.{Counted}
use Rattle.caller_laws.specs.View.{Above}
use Rattle.client_copies.specs.Copies.{is_overdue, asking as asking_of, is_ready, due, side_of}
use Rattle.client_copies.specs.Table.{copy_at, said_of, told_at}
use Rattle.client_copies.specs.declared.copy.Asking.{Asking}
use Rattle.client_copies.specs.declared.copy.Asking.TheVariants as asking
use Rattle.client_copies.specs.declared.copy.ClientCopy.{ClientCopy}
use Rattle.client_copies.specs.declared.copy.First.{First}
use Rattle.client_copies.specs.declared.copy.Query.{Query}
use Rattle.client_copies.specs.declared.copy.Query.TheVariants as queries
use Rattle.client_copies.specs.declared.copy.Step.{Step}
use Rattle.client_copies.specs.declared.copy.Step.TheVariants as steps
use Rattle.client_copies.specs.declared.event.Event.{Event}
use Rattle.client_copies.specs.declared.event.Event.TheVariants as events
use Rattle.client_laws.proofs.Asking.{Stays, is_gentle, stays_same, stays_then, stays_told, still_asked}
use Rattle.client_laws.proofs.Changed.{said_copies}
use Rattle.client_laws.proofs.Fitting.{Free, Wants, WantsQuery, fits_freed, fits_queried, fits_sent, fits_told, free_due, free_none, free_ready, is_plain, is_quiet, wants_copy, wants_first, wants_last, wants_plain}
use Rattle.client_laws.proofs.MountMoves.{Post, Puts, any, chain, here_or_other, IsOther, kept_when, sent_then, IsKept, Own, Runs, and_is, free_is, kept, mount_in, no_calls, none, put_copies, not_is, put, reshaped, runs_then, same_seal, silent_stays, slot_purpose, slot_stays, three_are}
use Rattle.client_laws.proofs.MountParts.{ArePlaces, copies_are, first_place, IsReady, ready_open, ready_notify, ready_copy, ready_last, ready_query, ready_work, never, ready_is, other_slot, kept_noted, kept_said, kept_back, kept_there, back_copies, there_copies, down_is, falls_here}
use Rattle.client_laws.proofs.RunKinds.{Anew, Both, IsOf, Joins, Kind, MayRest, OnceMore, SetsUp, Silent, anew_twice, both_of, is_fresh, is_loud, setup_anew, setup_setup, silent_anew, silent_silent}
use Rattle.client_laws.specs.Bounds.AskLaws as asking_fits
use Rattle.client_laws.specs.Bounds.CallLaws.{xid_small}
use Rattle.client_laws.specs.Bounds.DeskLaws.{site_fits}
use Rattle.client_laws.specs.Bounds.GoLaws as going_fits
use Rattle.client_laws.specs.Bounds.GoLaws.{ActingIsFit, due_fits, file_small, queue_at_fits}
use Rattle.client_laws.specs.Bounds.Known.{CopyIsFit, DeskIsFit, FileIsFit, SettingIsFit, WorkIsFit}
use Rattle.client_laws.specs.Bounds.StepLaws.{ticked_of_fits}
use Rattle.client_laws.specs.CallerLaws.{PurposesFit, purpose_after, purpose_for, ready_in}
use Rattle.client_site.specs.Sending.{is_down, may_begin, may_go}
use Rattle.client_site.specs.declared.site.OpenFile.{OpenFile}
use Rattle.client_site.specs.declared.site.Site.{Site}
use Rattle.client_steps.specs.Acting as acts
use Rattle.client_steps.specs.Acting.{Acting, GoesOn as GoesOnBy, GoesOnAt, IsDrawnOn, downs_told, queue_at, with_desk}
use Rattle.client_steps.specs.Calling as calling
use Rattle.client_steps.specs.Commands as commands
use Rattle.client_steps.specs.Commands.{query_call, query_with}
use Rattle.client_steps.specs.Commands.{ticked}
use Rattle.client_steps.specs.CopySteps as copying
use Rattle.client_steps.specs.CopySteps.{all_copies}
use Rattle.client_steps.specs.Desks.{put_out, noted, send_at, site_at, told_to}
use Rattle.client_steps.specs.Setting as setting
use Rattle.client_steps.specs.declared.copy_steps.Openings.{Openings}
use Rattle.client_steps.specs.declared.desk.Desk.{Desk}
use Rattle.client_steps.specs.declared.setting.Setting.{Setting}
use Rattle.copy_privs.specs.Forms.{privilege_name, privilege_spell}
use Rattle.copy_privs.specs.declared.privilege.Privilege.{Privilege}
use Rattle.mount.specs.State.{Mounted, is_setting_up, setup_in}
use Rattle.mount.specs.Taking.{Means}
use Rattle.mount.specs.declared.calling.Under.TheVariants as unders
use Rattle.mount.specs.declared.calling.Under.{Under}
use Rattle.mount.specs.declared.machine.SendAt.{SendAt}
use Rattle.mount.specs.declared.machine.Sent.{Sent}
use Rattle.mount.specs.declared.state.TheConstants.{PLACES}
use Rattle.nfs_base.specs.declared.limits.TheConstants.{NAME_LIMIT}
use Rattle.nfs_base.specs.declared.limits.TheConstants.{PRIVILEGE_LIMIT}
use Rattle.nfs_base.specs.declared.side.Side.{Side}
use Rattle.nfs_base.specs.declared.side.Side.TheVariants.{Source, Dest}
use Rattle.nfs_base.specs.declared.state_id.StateId.{StateId}
use Rattle.nfs_base.specs.declared.status.Status.{Status}
use Rattle.nfs_base.specs.declared.status.TheConstants.Status as statuses
use Rattle.outbox.specs.declared.label.CallLabel.{CallLabel}
use Rattle.outbox.specs.declared.label.CallLabel.TheVariants as labels
use Rattle.outbox.specs.declared.note.Note.{Note}
use Rattle.session_calls.specs.declared.slot_call.SlotCall.{SlotCall}
use Rattle.session_calls.specs.declared.sole_call.BackChannel.{BackChannel}
use Rattle.streams.specs.declared.draws.Drawn.{Drawn}
use Rattle.streams.specs.declared.draws.Drawn.TheVariants.{Got, Failed}
use Rattle.wire_model.specs.Wire.{Purpose, ForCopy, ForFirst, ForLast, ForStatus}
use Rattle.wire_xdr.specs.Cursor.{IsBytes}
use Rattle.write_queue.specs.Queue.{due as queue_due, file_of, refusals}
use Rattle.write_queue.specs.Steps.{after}
use Rattle.write_queue.specs.declared.work.Line.{Line}
use Rattle.write_queue.specs.declared.work.QueueEvent.{QueueEvent}
use Rattle.write_queue.specs.declared.work.Work.{Work}

module _ (who : Identity) (means : Means) (boot : ℕ) (post : Post means.mic) where
  site_falls : (side there : Side) (d : Desk) → Runs who means boot post any Silent side [] same_seal d (acts.site_falls there d)
  site_falls Source Source d = record {
    grows = λ small. omega arith;
    accepted = refl;
    more = [];
    sent = sym (append-nil d.out.sent);
    posted = tt;
    counts = λ small. refl;
    ran = λ purpose small. falls_here post.sure who means boot purpose d.source.mount d (acts.site_falls Source d) Source refl refl refl refl;
    fits = λ purpose small given fit. fit;
  }
  site_falls Dest Dest d = record {
    grows = λ small. omega arith;
    accepted = refl;
    more = [];
    sent = sym (append-nil d.out.sent);
    posted = tt;
    counts = λ small. refl;
    ran = λ purpose small. falls_here post.sure who means boot purpose d.dest.mount d (acts.site_falls Dest d) Dest refl refl refl refl;
    fits = λ purpose small given fit. fit;
  }
  site_falls Source Dest d = kept who means boot post Silent tt Source d _ (record { mount = refl; calls = refl; sent = refl; accepted = refl }) (λ purpose fit. fit)
  site_falls Dest Source d = kept who means boot post Silent tt Dest d _ (record { mount = refl; calls = refl; sent = refl; accepted = refl }) (λ purpose fit. fit)

  falls_elsewhere : (side there : Side) (d : Desk) → IsOther side there → Runs who means boot post any SetsUp side [] same_seal d (acts.site_falls there d)
  falls_elsewhere Source Dest d x = kept who means boot post SetsUp tt Source d _ (record { mount = refl; calls = refl; sent = refl; accepted = refl }) (λ purpose fit. fit)
  falls_elsewhere Dest Source d x = kept who means boot post SetsUp tt Dest d _ (record { mount = refl; calls = refl; sent = refl; accepted = refl }) (λ purpose fit. fit)
  falls_elsewhere Source Source d x = absurd x
  falls_elsewhere Dest Dest d x = absurd x

module _ (who : Identity) (means : Means) (boot : ℕ) (post : Post means.mic) (counted : Counted) (side : Side) where
  -- where it is sure that what is known is fit, this is
  abbrev pub Fit : Desk → Type 0
  Fit d = post.sure → DeskIsFit d

  abbrev pub Fits : Acting → Type 0
  Fits a = post.sure → ActingIsFit a

  sends_fit : (place : ℕ) (there : Side) (send : Send) (d : Desk) → place < PLACES → (mount_in there d).calls < (send_at place d).xid → SendIsFit send
      → SendsFit (mount_in there d) (send_at place d) send
  sends_fit place there send d within unused fit = record { place = within; unused = unused; small = xid_small d.calls; fits = fit }

  abbrev pub R : Kind → Desk → Desk → Type 0
  R k d e = Own who means boot post k side d e

  -- two of one kind
  pub chained : (k : Kind) → Joins k k k → (d e f : Desk) → R k d e → R k e f → R k d f
  chained k twice d e f x y = record {
    runs = chain who means boot post k twice side [] [] same_seal same_seal d e f y.stays x.runs y.runs;
    stays = λ loud. stays_then d.copies e.copies f.copies (x.stays loud) (y.stays loud);
  }

  pub joins : (d e f : Desk) → R Anew d e → R Anew e f → R Anew d f
  joins d e f x y = chained Anew anew_twice d e f x y

  pub quietly : (d e f : Desk) → R Silent d e → R Silent e f → R Silent d f
  quietly d e f x y = chained Silent silent_silent d e f x y

  setting_up : (d e f : Desk) → R SetsUp d e → R SetsUp e f → R SetsUp d f
  setting_up d e f x y = chained SetsUp setup_setup d e f x y

  pub stays : (k : Kind) → MayRest k → (d e : Desk) → IsKept side d e → e.copies ≡ d.copies → R k d e
  stays k may d e x same_copies = record {
    runs = kept who means boot post k may side d e x (λ purpose fit. subst (PurposesFit side purpose) (sym same_copies) fit);
    stays = λ loud. stays_same d.copies e.copies same_copies;
  }

  pub same : (k : Kind) → MayRest k → (d : Desk) → R k d d
  same k may d = record { runs = none who means boot post k may side d; stays = λ loud. stays_same d.copies d.copies refl }

  pub tells : (k : Kind) → MayRest k → (note : Note) (d : Desk) → R k d (noted note d)
  tells k may note d = stays k may d _ (kept_noted side note d) refl

  told_stays : (j : ℕ) (event : Event) (d : Desk) → is_gentle event ≡ true → Stays d.copies (told_to j event d).copies
  told_stays j event d gentle =
      let t = (told_at j event d.copies).1 in
      let next : Desk = record d { copies = t } in
      stays_then d.copies t (told_to j event d).copies (stays_told j event d.copies gentle)
      (stays_same t (told_to j event d).copies (said_copies j (said_of event (copy_at j d.copies)) next))

  pub told : (k : Kind) → MayRest k → (j : ℕ) (event : Event) (d : Desk) → (is_loud k ≡ true → is_gentle event ≡ true) → is_quiet event ≡ true → R k d (told_to j event d)
  told k may j event d gentle quiet =
      let said = said_of event (copy_at j d.copies) in
      let t = (told_at j event d.copies).1 in
      let next : Desk = record d { copies = t } in
      let same_copies = said_copies j said next in
      record {
        runs =
            kept who means boot post k may side d (told_to j event d) (kept_said side j said t d)
            (λ purpose fit. subst (PurposesFit side purpose) (sym same_copies) (fits_told side purpose j event d.copies quiet fit));
        stays = λ loud. told_stays j event d (gentle loud);
      }

  -- the copy is told that a call of it went out
  told_when : (pre : (ℕ → Purpose) → Type 0) (j : ℕ) (event : Event) (d : Desk)
      → ((purpose : ℕ → Purpose) → pre purpose → PurposesFit side purpose d.copies → PurposesFit side purpose (told_at j event d.copies).1)
      → Runs who means boot post pre Anew side [] same_seal d (told_to j event d)
  told_when pre j event d fits =
      let said = said_of event (copy_at j d.copies) in
      let t = (told_at j event d.copies).1 in
      let next : Desk = record d { copies = t } in
      let same_copies = said_copies j said next in
      kept_when who means boot post pre Anew tt side d (told_to j event d) (kept_said side j said t d)
      (λ purpose given fit. subst (PurposesFit side purpose) (sym same_copies) (fits purpose given fit))

  -- a call goes out, and changes no copies
  goes : (k : Kind) (there : Side) (label : CallLabel) (o : Option Sent × Site) (d : Desk) → Runs who means boot post any k side [] same_seal d (put_out there label o d).1
      → R k d (put_out there label o d).1
  goes k there label o d runs = record { runs = runs; stays = λ loud. stays_same d.copies (put_out there label o d).1.copies (put_copies there label o d) }

  goes_runs : (k : Kind) (there : Side) (label : CallLabel) (o : Option Sent × Site) (d : Desk) {place : ℕ} {send : Send}
      → Puts who means boot post k side there place send d (put_out there label o d) → R k d (put_out there label o d).1
  goes_runs k there label o d x = goes k there label o d x.runs

  -- ---- calls

  -- the slot is for this
  abbrev IsFor : ℕ → Option SlotCall → (ℕ → Purpose) → Type 0
  IsFor place None purpose = ⊥
  IsFor place (Some one) purpose = purpose place ≡ purpose_for place one

  record Called (there : Side) (place : ℕ) (o : Option SlotCall) (d : Desk) (e : Bool × Desk) : Type 0 where
    own : R Anew d e.1
    for_it : side ≡ there → e.0 ≡ true → (purpose : ℕ → Purpose) (small : e.1.calls < 4294967295) → IsFor place o (own.runs.ran purpose small).after
    copies : e.1.copies ≡ d.copies

  slot : (there : Side) (place : ℕ) (under : Under) (call : SlotCall) (d : Desk) → place < PLACES → IsReady d.copies place (Some call) → Free there place d.copies → (post.sure → SlotCallIsFit call)
      → Called there place (Some call) d (calling.slot_sent means.mic there place under call d)
  slot there place under call d within ready open_slot fit =
      let at = send_at place d in
      let m = mount_in there d in
      let x = put who means boot post Anew tt side there (labels.Operation (calling.slot_op call)) place (InSlot under call) (may_go at m) d within
      (λ e.
      let free = free_is at m e in
      record {
        unused = free.unused;
        suits = λ purpose calls. (free.none, ap (ready_in d.copies) (slot_purpose place (purpose_for place call) (purpose place)) ∙ ready.0);
        stays = λ purpose other a awaited. slot_stays m place other a (purpose_for place call) (purpose other) free.none awaited;
        asks = λ t stays. still_asked call place d.copies t (stays refl) ready;
        order = λ here above m. (refl, tt);
        fits = λ purpose freed. fits_freed there place purpose (purpose_after (Sends at (InSlot under call)) purpose) d.copies open_slot
            (λ j other. other_slot j place (purpose_for place call) (purpose j) other) freed;
        bounds = λ sure. sends_fit place there (InSlot under call) d within free.unused (fit sure);
      })
      (counted means.mic at (InSlot under call) m) in
      record {
        own = record { runs = x.runs; stays = λ loud. stays_same d.copies _ (put_copies there _ _ d) };
        for_it = λ here some purpose small.
            ap (λ (q : ℕ → Purpose). q place) (x.for_it here some purpose small) ∙ slot_purpose place (purpose_for place call) (purpose place);
        copies = put_copies there _ _ d;
      }

  call : (there : Side) (place : ℕ) (under : Under) (o : Option SlotCall) (d : Desk) → place < PLACES → IsReady d.copies place o → Free there place d.copies → (post.sure → IfSome o SlotCallIsFit)
      → Called there place o d (calling.call_sent means.mic there place under o d)
  call there place under None d within ready open_slot fit = record { own = same Anew tt d; for_it = λ here none. never none; copies = refl }
  call there place under (Some one) d within ready open_slot fit = slot there place under one d within ready open_slot fit

  create_if : (b : Bool) (there : Side) (j : ℕ) (p : Privilege) (d : Desk) → j < PLACES → (b ≡ true → post.sure → SendIsFit (Make j (privilege_name p) (privilege_spell p)))
      → R Anew d (calling.create_if b means.mic there j p d).1
  create_if true there j p d within fit =
      let at = send_at j d in
      let m = mount_in there d in
      goes_runs Anew there _ _ d (put who means boot post Anew tt side there _ j (Make j (privilege_name p) (privilege_spell p)) (may_go at m) d within
      (λ e.
      let free = free_is at m e in
      record {
        unused = free.unused;
        suits = λ purpose calls. free.none;
        stays = λ purpose other a awaited. refl;
        asks = λ t stays. tt;
        order = λ here above m. (refl, tt);
        fits = λ purpose fit. fit;
        bounds = λ sure. sends_fit j there (Make j (privilege_name p) (privilege_spell p)) d within free.unused (fit refl sure);
      })
      (counted means.mic at (Make j (privilege_name p) (privilege_spell p)) m))
  create_if false there j p d within fit = same Anew tt d

  create : (there : Side) (j : ℕ) (p : Privilege) (d : Desk) → j < PLACES → (post.sure → TextFits NAME_LIMIT (privilege_name p) × IsBytes (privilege_spell p)) → R Anew d (calling.create_sent means.mic there j p d).1
  create there j p d within fit =
      create_if (nat_le (length (privilege_spell p)) PRIVILEGE_LIMIT) there j p d within
      (λ e sure. let known = fit sure in (known.0, record { short = leb-true (length (privilege_spell p)) PRIVILEGE_LIMIT e; are_bytes = known.1 }))

  pub again : (low high : ℕ) → low ≤ high → (there : Side) (place : ℕ) (label : CallLabel) (d : Desk) → place < PLACES
      → (side ≡ there → (low ≤ place) × (place + 1 ≤ high)) → R (OnceMore low high) d (calling.again_sent means.mic there place label d)
  again low high upwards there place label d within within_bounds =
      let at = send_at place d in
      let m = mount_in there d in
      goes_runs (OnceMore low high) there label _ d (put who means boot post (OnceMore low high) upwards side there label place Again (nat_lt m.calls at.xid) d within
      (λ e. record {
        unused = ltb-true m.calls at.xid e;
        suits = λ purpose calls. tt;
        stays = λ purpose other a awaited. refl;
        asks = λ t stays. tt;
        order = λ here above m. within_bounds here;
        fits = λ purpose fit. fit;
        bounds = λ sure. sends_fit place there Again d within (ltb-true m.calls at.xid e) tt;
      })
      (counted means.mic at Again m))

  -- a send of this kind
  abbrev pub MaySend : Kind → Side → Type 0
  MaySend k there = side ≡ there → (at : SendAt) (send : Send) → is_fresh (Sends at send) ≡ true → (above : Above) (m : Mounted)
      → IsOf k means ((record { move = Sends at send; above = above }) ∷ []) m

  pub set_up : (k : Kind) → MayRest k → (there : Side) → MaySend k there → (me : List ℕ) (back : Option BackChannel) (label : CallLabel) (d : Desk)
      → (post.sure → TextFits NAME_LIMIT me × IfSome back BackChannelFits) → R k d (calling.step_sent means.mic me there back label d).1
  set_up k may there sends me back label d fit =
      let at = send_at 0 d in
      let m = mount_in there d in
      goes_runs k there label _ d (put who means boot post k may side there label 0 (SetUp me back) (not (is_setting_up m) && may_go at m) d first_place
      (λ e.
      let tests = and_is (not (is_setting_up m)) (may_go at m) e in
      let free = free_is at m tests.1 in
      record {
        unused = free.unused;
        suits = λ purpose calls. (free.none, not_is _ tests.0);
        stays = λ purpose other a awaited. refl;
        asks = λ t stays. tt;
        order = λ here above m. sends here at (SetUp me back) refl above m;
        fits = λ purpose fit. fit;
        bounds = λ sure. sends_fit 0 there (SetUp me back) d first_place free.unused (fit sure);
      })
      (counted means.mic at (SetUp me back) m))

  pub reclaim : (k : Kind) → MayRest k → (there : Side) → MaySend k there → (d : Desk) → R k d (calling.reclaim_sent means.mic there d).1
  reclaim k may there sends d =
      let at = send_at 0 d in
      let m = mount_in there d in
      goes_runs k there _ _ d (put who means boot post k may side there _ 0 Reclaim (may_go at m) d first_place
      (λ e.
      let free = free_is at m e in
      record {
        unused = free.unused;
        suits = λ purpose calls. (free.none, refl);
        stays = λ purpose other a awaited. refl;
        asks = λ t stays. tt;
        order = λ here above m. sends here at Reclaim refl above m;
        fits = λ purpose fit. fit;
        bounds = λ sure. sends_fit 0 there Reclaim d first_place free.unused tt;
      })
      (counted means.mic at Reclaim m))

  begin : (there : Side) (nonce : List ℕ) (token : Option (List ℕ)) (d : Desk) → ((t : List ℕ) → token ≡ Some t → IsOwnToken who t)
      → (post.sure → SendIsFit (Begin nonce token)) → may_begin (send_at 0 d) (mount_in there d) ≡ true → R SetsUp d (calling.begin_sent nonce token there d).1
  begin there nonce token d own fit may =
      let at = send_at 0 d in
      let m = mount_in there d in
      let tests = three_are (not (is_setting_up m)) (is_down (setup_in m.standing)) (may_go at m) may in
      let free = free_is at m tests.2 in
      goes_runs SetsUp there _ _ d (put who means boot post SetsUp tt side there _ 0 (Begin nonce token) true d first_place
      (λ e. record {
        unused = free.unused;
        suits = λ purpose calls. (free.none, not_is _ tests.0, down_is _ tests.1, own);
        stays = λ purpose other a awaited. refl;
        asks = λ t stays. tt;
        order = λ here above m. (refl, tt);
        fits = λ purpose fit. fit;
        bounds = λ sure. sends_fit 0 there (Begin nonce token) d first_place free.unused (fit sure);
      })
      (counted means.mic at (Begin nonce token) m))

  -- ---- a copy goes on

  opened_if : (b : Bool) (j : ℕ) (there : Side) (d : Desk) → R Anew d (copying.opened_if b j there d)
  opened_if true j there d = told Anew tt j (events.Opened there) d (λ loud. refl) refl
  opened_if false j there d = same Anew tt d

  finds_open : (j : ℕ) (c : ClientCopy) (o : Option Step) (d : Desk) → R Anew d (copying.finds_open j c o d)
  finds_open j c None d = same Anew tt d
  finds_open j c (Some step) d = opened_if (copying.is_open step c d) j (side_of step) d

  copy_finds_open : (j : ℕ) (o : Option ClientCopy) (d : Desk) → R Anew d (copying.copy_finds_open j o d)
  copy_finds_open j None d = same Anew tt d
  copy_finds_open j (Some c) d = finds_open j c (due c.stage) d

  create_copies : (b : Bool) (there : Side) (j : ℕ) (p : Privilege) (d : Desk) → (calling.create_if b means.mic there j p d).1.copies ≡ d.copies
  create_copies true there j p d = put_copies there _ _ d
  create_copies false there j p d = refl

  -- the call of a step
  record Stepped (step : Step) (j : ℕ) (d : Desk) (e : Bool × Desk) : Type 0 where
    own : R Anew d e.1
    wants : e.0 ≡ true → (purpose : ℕ → Purpose) (small : e.1.calls < 4294967295) → Wants side step j (own.runs.ran purpose small).after
    copies : e.1.copies ≡ d.copies

  plain : (step : Step) (j : ℕ) (d : Desk) (e : Bool × Desk) → is_plain step ≡ true → R Anew d e.1 → e.1.copies ≡ d.copies → Stepped step j d e
  plain step j d e is_plain_step own same_copies = record {
    own = own;
    wants = λ some purpose small. wants_plain side step j (own.runs.ran purpose small).after is_plain_step;
    copies = same_copies;
  }

  for_first : {M : Type 0} (s : Setting M) (j : ℕ) (o : Option OpenFile) (q : ℕ → Purpose) → IsFor j (setting.notify_of s o) q → q j ≡ ForFirst j
  for_first s j None q f = absurd f
  for_first s j (Some opened_file) q f = f

  for_copy_with : {M : Type 0} (s : Setting M) (j : ℕ) (c : ClientCopy) (opened_file : OpenFile) (o : Option First) (q : ℕ → Purpose)
      → IsFor j (setting.copy_with s c opened_file o) q → q j ≡ ForCopy j
  for_copy_with s j c opened_file None q f = absurd f
  for_copy_with s j c opened_file (Some known) q f = f

  for_copy : {M : Type 0} (s : Setting M) (j : ℕ) (c : ClientCopy) (o : Option OpenFile) (q : ℕ → Purpose) → IsFor j (setting.copy_of s c o) q → q j ≡ ForCopy j
  for_copy s j c None q f = absurd f
  for_copy s j c (Some opened_file) q f = for_copy_with s j c opened_file c.first q f

  for_last : (j : ℕ) (o : Option First) (q : ℕ → Purpose) → IsFor j (setting.last_of o) q → q j ≡ ForLast j
  for_last j None q f = absurd f
  for_last j (Some known) q f = f

  step_call : {M : Type 0} (s : Setting M) (step : Step) (j : ℕ) (c : ClientCopy) (d : Desk) → j < PLACES → copy_at j d.copies ≡ Some c → due c.stage ≡ Some step
      → (post.sure → SettingIsFit s) → (post.sure → CopyIsFit c) → Fit d → Stepped step j d (copying.step_call s means.mic step j c d)
  step_call s steps.OpenSource j c d within at is k fit h =
      let x = call Source j unders.Root (setting.open_call s.me c.spec.src_file d.source) d within (ready_open d.copies j s.me _ _) (free_due Source j steps.OpenSource c d.copies at is refl)
      (λ sure. asking_fits.open_fits s.me c.spec.src_file d.source (k sure).me (fit sure).asked.src_file (h sure).at_source) in
      plain steps.OpenSource j d _ refl x.own x.copies
  step_call s steps.OpenAgain j c d within at is k fit h =
      let x = call Source j unders.Root (setting.open_call s.me c.spec.src_file d.source) d within (ready_open d.copies j s.me _ _) (free_due Source j steps.OpenAgain c d.copies at is refl)
      (λ sure. asking_fits.open_fits s.me c.spec.src_file d.source (k sure).me (fit sure).asked.src_file (h sure).at_source) in
      plain steps.OpenAgain j d _ refl x.own x.copies
  step_call s steps.OpenDest j c d within at is k fit h =
      let x = call Dest j unders.Root (setting.open_call s.me c.spec.dst_file d.dest) d within (ready_open d.copies j s.me _ _) (free_due Dest j steps.OpenDest c d.copies at is refl)
      (λ sure. asking_fits.open_fits s.me c.spec.dst_file d.dest (k sure).me (fit sure).asked.dst_file (h sure).at_dest) in
      plain steps.OpenDest j d _ refl x.own x.copies
  step_call s steps.AllowSource j c d within at is k fit h =
      plain steps.AllowSource j d _ refl (create Source j (setting.privilege_at s Source c.secret) d within
      (λ sure. (asking_fits.privilege_named s Source c.secret, asking_fits.privilege_are s Source c.secret (k sure) (fit sure).are_bytes))) (create_copies _ Source j (setting.privilege_at s Source c.secret) d)
  step_call s steps.AllowDest j c d within at is k fit h =
      plain steps.AllowDest j d _ refl (create Dest j (setting.privilege_at s Dest c.secret) d within
      (λ sure. (asking_fits.privilege_named s Dest c.secret, asking_fits.privilege_are s Dest c.secret (k sure) (fit sure).are_bytes))) (create_copies _ Dest j (setting.privilege_at s Dest c.secret) d)
  step_call s steps.Notify j c d within at is k fit h =
      let x = call Source j (unders.Child j) (setting.notify_call s c d.source) d within (ready_notify d.copies j s _) (free_due Source j steps.Notify c d.copies at is refl)
      (λ sure. asking_fits.notify_fits s c d.source (k sure) (h sure).at_source) in
      record {
        own = x.own;
        wants = λ some purpose small.
            wants_first side j (x.own.runs.ran purpose small).after (λ here. for_first s j _ (x.own.runs.ran purpose small).after (x.for_it here some purpose small));
        copies = x.copies;
      }
  step_call s steps.Copy j c d within at is k fit h =
      let x = call Dest j (unders.Child j) (setting.copy_call s c d.dest) d within (ready_copy d.copies j s c _ at) (free_due Dest j steps.Copy c d.copies at is refl)
      (λ sure. asking_fits.copy_fits s c d.dest (k sure) (fit sure) (h sure).at_dest) in
      record {
        own = x.own;
        wants = λ some purpose small.
            wants_copy side j (x.own.runs.ran purpose small).after (λ here. for_copy s j c _ (x.own.runs.ran purpose small).after (x.for_it here some purpose small));
        copies = x.copies;
      }
  step_call s steps.Last j c d within at is k fit h =
      let x = call Source j unders.Root (setting.last_call c) d within (ready_last d.copies j c c.first at refl is) (free_due Source j steps.Last c d.copies at is refl) (λ sure. asking_fits.last_fits c (fit sure)) in
      record {
        own = x.own;
        wants = λ some purpose small.
            wants_last side j (x.own.runs.ran purpose small).after (λ here. for_last j c.first (x.own.runs.ran purpose small).after (x.for_it here some purpose small));
        copies = x.copies;
      }

  asked_if : {M : Type 0} (b : Bool) (s : Setting M) (step : Step) (j : ℕ) (c : ClientCopy) (d : Desk) → j < PLACES → copy_at j d.copies ≡ Some c
      → due c.stage ≡ Some step → (post.sure → SettingIsFit s) → (post.sure → CopyIsFit c) → Fit d → Stepped step j d (copying.asked_if b s means.mic step j c d)
  asked_if true s step j c d within at is k fit h = step_call s step j c d within at is k fit h
  asked_if false s step j c d within at is k fit h = record { own = same Anew tt d; wants = λ none. never none; copies = refl }

  -- where it went out, the copy is told so
  sent_so : (b : Bool) (step : Step) (j : ℕ) (c : ClientCopy) (d e : Desk) (x : R Anew d e) → copy_at j e.copies ≡ Some c → due c.stage ≡ Some step
      → (b ≡ true → (purpose : ℕ → Purpose) (small : e.calls < 4294967295) → Wants side step j (x.runs.ran purpose small).after) → R Anew d (copying.sent_if b j e)
  sent_so true step j c d e x at is wants =
      let y = told_when (Wants side step j) j events.Sent e (λ purpose w fit. fits_sent side purpose j c step e.copies at is w fit) in
      let stay = told_stays j events.Sent e refl in
      record {
        runs = sent_then who means boot post (Wants side step j) side d e (told_to j events.Sent e) stay x.runs (wants refl) y;
        stays = λ loud. stays_then d.copies e.copies (told_to j events.Sent e).copies (x.stays refl) stay;
      }
  sent_so false step j c d e x at is wants = x

  asks_step : {M : Type 0} (s : Setting M) (o : Openings) (j : ℕ) (c : ClientCopy) (next : Option Step) (d : Desk) → j < PLACES → copy_at j d.copies ≡ Some c
      → due c.stage ≡ next → (post.sure → SettingIsFit s) → (post.sure → CopyIsFit c) → Fit d → R Anew d (copying.asks_step s means.mic o j c next d)
  asks_step s o j c None d within at is k fit h = same Anew tt d
  asks_step s o j c (Some step) d within at is k fit h =
      let b = copying.may_ask o step c d in
      let e = copying.asked_if b s means.mic step j c d in
      let x = asked_if b s step j c d within at is k fit h in
      sent_so e.0 step j c d e.1 x.own (ap (copy_at j) x.copies ∙ at) is x.wants

  copy_asks : {M : Type 0} (s : Setting M) (o : Openings) (j : ℕ) (copy : Option ClientCopy) (d : Desk) → j < PLACES → copy_at j d.copies ≡ copy
      → (post.sure → SettingIsFit s) → (post.sure → IfSome copy CopyIsFit) → Fit d → R Anew d (copying.copy_asks s means.mic o j copy d)
  copy_asks s o j None d within at k fit h = same Anew tt d
  copy_asks s o j (Some c) d within at k fit h = asks_step s o j c (due c.stage) d within at refl k fit h

  copy_goes_on : {M : Type 0} (s : Setting M) (o : Openings) (j : ℕ) (d : Desk) → j < PLACES → (post.sure → SettingIsFit s) → Fit d → R Anew d (copying.copy_goes_on s means.mic o j d)
  copy_goes_on s o j d within k h =
      let e = copying.copy_finds_open j (copy_at j d.copies) d in
      let found : Fit e = λ sure. going_fits.copy_finds_fits s (k sure) means.mic (post.codes sure) j (copy_at j d.copies) d (h sure) in
      joins d e _ (copy_finds_open j (copy_at j d.copies) d) (copy_asks s o j (copy_at j e.copies) e within refl k (λ sure. (found sure).table j) found)

  copies_go_on : {M : Type 0} (s : Setting M) (o : Openings) (js : List ℕ) (d : Desk) → ArePlaces js → (post.sure → SettingIsFit s) → Fit d → R Anew d (copying.copies_go_on s means.mic o js d)
  copies_go_on s o [] d within k h = same Anew tt d
  copies_go_on s o (j ∷ js) d within k h =
      let e = copying.copy_goes_on s means.mic o j d in
      joins d e _ (copy_goes_on s o j d within.0 k h)
      (copies_go_on s o js e within.1 k (λ sure. going_fits.goes_on_fits s (k sure) means.mic (post.codes sure) o j d within.0 (h sure)))

  -- ---- writes and commits

  line : (k : Kind) → MayRest k → (there : Side) (o : Option Line) (d : Desk) → R k d (acts.line_noted there o d)
  line k may there None d = same k may d
  line k may there (Some one) d = tells k may (acts.line_note there one) d

  lines : (k : Kind) → MayRest k → Joins k k k → (there : Side) (ls : List Line) (d : Desk) → R k d (acts.lines_noted there ls d)
  lines k may twice there [] d = same k may d
  lines k may twice there (one ∷ more) d =
      let e = noted (acts.line_note there one) d in
      chained k twice d e _ (tells k may (acts.line_note there one) d) (lines k may twice there more e)

  pub queue : (k : Kind) → MayRest k → (there : Side) (event : QueueEvent) (a : Acting) → R k a.desk (acts.queue_told there event a).desk
  queue k may there event a = line k may there (after event (queue_at there a)).0 a.desk

  told_if : (b : Bool) (there : Side) (event : QueueEvent) (a : Acting) → R Anew a.desk (acts.told_if b there event a).desk
  told_if true there event a = queue Anew tt there event a
  told_if false there event a = same Anew tt a.desk

  called_for : (there : Side) (o : Option SlotCall) (event : QueueEvent) (a : Acting) → IsReady a.desk.copies 0 o → (post.sure → IfSome o SlotCallIsFit)
      → R Anew a.desk (acts.called_for means.mic there o event a).desk
  called_for there o event a ready fit =
      let e = calling.call_sent means.mic there 0 unders.Root o a.desk in
      joins a.desk e.1 _ (call there 0 unders.Root o a.desk first_place ready (free_none there a.desk.copies) fit).own (told_if e.0 there event (with_desk e.1 a))

  open_if : {M : Type 0} (b : Bool) (s : Setting M) (there : Side) (file : ℕ) (a : Acting) → (post.sure → SettingIsFit s) → (post.sure → file < 2 ^ 32) → Fits a → R Anew a.desk (acts.open_if b s means.mic there file a).desk
  open_if true s there file a k small h = same Anew tt a.desk
  open_if false s there file a k small h =
      called_for there (setting.open_call s.me file (site_at there a.desk)) _ a (ready_open a.desk.copies 0 s.me file _)
      (λ sure. asking_fits.open_fits s.me file (site_at there a.desk) (k sure).me (small sure) (site_fits there a.desk (h sure).0))

  work_sent : {M : Type 0} (s : Setting M) (there : Side) (work : Work) (o : Option OpenFile) (a : Acting) → (post.sure → SettingIsFit s) → (post.sure → WorkIsFit work) → (post.sure → IfSome o FileIsFit) → Fits a
      → R Anew a.desk (acts.work_sent s means.mic there work o a).desk
  work_sent s there work None a k w f h = open_if _ s there (file_of work) a k (λ sure. file_small work (w sure)) h
  work_sent s there work (Some opened_file) a k w f h =
      called_for there (acts.work_call opened_file work) _ a (ready_work a.desk.copies 0 opened_file work) (λ sure. asking_fits.work_fits opened_file work (f sure) (w sure))

  work_due : {M : Type 0} (s : Setting M) (there : Side) (o : Option Work) (a : Acting) → (post.sure → SettingIsFit s) → (post.sure → IfSome o WorkIsFit) → Fits a → R Anew a.desk (acts.work_due s means.mic there o a).desk
  work_due s there None a k w h = same Anew tt a.desk
  work_due s there (Some work) a k w h =
      work_sent s there work (copying.file_on there (file_of work) a.desk) a k w
      (λ sure. asking_fits.file_fits (file_of work) (site_at there a.desk) (site_fits there a.desk (h sure).0)) h

  work_if : {M : Type 0} (b : Bool) (s : Setting M) (there : Side) (a : Acting) → (post.sure → SettingIsFit s) → Fits a → R Anew a.desk (acts.work_if b s means.mic there a).desk
  work_if true s there a k h =
      work_due s there (queue_due (queue_at there a)) a k (λ sure. due_fits (queue_at there a) (queue_at_fits there a (h sure).1)) h
  work_if false s there a k h = same Anew tt a.desk

  queue_goes_on : {M : Type 0} (s : Setting M) (there : Side) (a : Acting) → (post.sure → SettingIsFit s) → Fits a → R Anew a.desk (acts.queue_goes_on s means.mic there a).desk
  queue_goes_on s there a k h = work_if _ s there a k h

  all_go_on : {M : Type 0} (s : Setting M) (a : Acting) → (post.sure → SettingIsFit s) → Fits a → R Anew a.desk (acts.all_go_on s means.mic a).desk
  all_go_on s a k h =
      let b = acts.queue_goes_on s means.mic Source a in
      let c = acts.queue_goes_on s means.mic Dest b in
      let at_b : Fits b = λ sure. going_fits.work_if_fits s (k sure) means.mic (post.codes sure) (copying.is_up Source a.desk) Source a (h sure) in
      let at_c : Fits c = λ sure. going_fits.work_if_fits s (k sure) means.mic (post.codes sure) (copying.is_up Dest b.desk) Dest b (at_b sure) in
      joins a.desk b.desk _ (queue_goes_on s Source a k h)
      (joins b.desk c.desk _ (queue_goes_on s Dest b k at_b) (copies_go_on s (acts.openings c) all_copies c.desk copies_are k (λ sure. (at_c sure).0)))

  -- ---- a setup goes down, or begins

  downs : (k : Kind) → MayRest k → Joins k k k → is_loud k ≡ false → (there : Side) (status : Status) (js : List ℕ) (d : Desk) → R k d (downs_told there status js d)
  unfolding downs_told
  downs k may twice silent there status [] d = same k may d
  downs k may twice silent there status (j ∷ js) d =
      let e = told_to j (events.Down there status) d in
      chained k twice d e _ (told k may j (events.Down there status) d (λ loud. silent_stays (is_loud k) silent loud) refl) (downs k may twice silent there status js e)

  site_down : (k : Kind) → MayRest k → Joins k k k → is_loud k ≡ false → (there : Side) (d : Desk)
      → Runs who means boot post any k side [] same_seal d (acts.site_falls there d) → R k d (acts.site_goes_down there d)
  site_down k may twice silent there d falls =
      let e = acts.site_falls there d in
      chained k twice d e _ (record { runs = falls; stays = λ loud. silent_stays (is_loud k) silent loud })
      (stays k may e _ (kept_back side (site_at there d).back e) (back_copies (site_at there d).back e))

  down : (k : Kind) → MayRest k → Joins k k k → is_loud k ≡ false → (there : Side) (status : Status) (a : Acting)
      → ((d : Desk) → Runs who means boot post any k side [] same_seal d (acts.site_falls there d)) → R k a.desk (acts.goes_down there status a).desk
  down k may twice silent there status a falls =
      let b = with_desk (downs_told there status all_copies a.desk) a in
      let c = acts.all_refused there status b in
      chained k twice a.desk b.desk _ (downs k may twice silent there status all_copies a.desk)
      (chained k twice b.desk c.desk _ (lines k may twice there (refusals status (queue_at there b)) b.desk) (site_down k may twice silent there c.desk (falls c.desk)))

  pub goes_down : (there : Side) (status : Status) (a : Acting) → R Silent a.desk (acts.goes_down there status a).desk
  goes_down there status a = down Silent tt silent_silent refl there status a (λ d. site_falls who means boot post side there d)

  down_elsewhere : (there : Side) (status : Status) (a : Acting) → IsOther side there → R SetsUp a.desk (acts.goes_down there status a).desk
  down_elsewhere there status a x = down SetsUp tt setup_setup refl there status a (λ d. falls_elsewhere who means boot post side there d x)

  -- without a token nothing goes out, and the setup goes down
  untold : (k : Kind) → MayRest k → (there : Side) (nonce : List ℕ) (d : Desk) → R k d (calling.begin_sent nonce None there d).1
  untold k may there nonce d =
      let s : Site = record (site_at there d) { mount = mount_in there d } in
      stays k may d _ (kept_there side there s d refl) (there_copies there s d)

  begins_if : (b : Bool) (nonce : List ℕ) (token : Option (List ℕ)) (there : Side) (a : Acting) → ((t : List ℕ) → token ≡ Some t → IsOwnToken who t) → (post.sure → SendIsFit (Begin nonce token))
      → may_begin (send_at 0 a.desk) (mount_in there a.desk) ≡ b → R Silent a.desk (acts.begins_if b nonce token there a).desk ⊎ R SetsUp a.desk (acts.begins_if b nonce token there a).desk
  begins_if false nonce token there a own fit may = inl (same Silent tt a.desk)
  begins_if true nonce None there a own fit may =
      let e = calling.begin_sent nonce None there a.desk in
      inl (quietly a.desk e.1 _ (untold Silent tt there nonce a.desk) (goes_down there statuses.ACCESS (with_desk e.1 a)))
  begins_if true nonce (Some t) there a own fit may = inr (begin there nonce (Some t) a.desk own fit may)

  -- a mount that is set up doesn't begin
  abbrev pub IsUp : Desk → Type 0
  IsUp d = is_down (setup_in (mount_in side d).standing) ≡ false

  begins_elsewhere : (b : Bool) (nonce : List ℕ) (token : Option (List ℕ)) (there : Side) (a : Acting) → ((t : List ℕ) → token ≡ Some t → IsOwnToken who t) → (post.sure → SendIsFit (Begin nonce token))
      → may_begin (send_at 0 a.desk) (mount_in there a.desk) ≡ b → IsOther side there → R SetsUp a.desk (acts.begins_if b nonce token there a).desk
  begins_elsewhere false nonce token there a own fit may x = same SetsUp tt a.desk
  begins_elsewhere true nonce None there a own fit may x =
      let e = calling.begin_sent nonce None there a.desk in
      setting_up a.desk e.1 _ (untold SetsUp tt there nonce a.desk) (down_elsewhere there statuses.ACCESS (with_desk e.1 a) x)
  begins_elsewhere true nonce (Some t) there a own fit may x = begin there nonce (Some t) a.desk own fit may

  begins_not : (b : Bool) (nonce : List ℕ) (token : Option (List ℕ)) (there : Side) (a : Acting) → may_begin (send_at 0 a.desk) (mount_in there a.desk) ≡ b → side ≡ there → IsUp a.desk
      → R SetsUp a.desk (acts.begins_if b nonce token there a).desk
  begins_not false nonce token there a may here up = same SetsUp tt a.desk
  begins_not true nonce token there a may here up =
      let m = mount_in there a.desk in
      let tests = three_are (not (is_setting_up m)) (is_down (setup_in m.standing)) (may_go (send_at 0 a.desk) m) may in
      let moved = ap (λ (x : Side). is_down (setup_in (mount_in x a.desk).standing)) here in
      absurd (no_calls (sym up ∙ moved ∙ tests.1))

  begins_up : (nonce : List ℕ) (token : Option (List ℕ)) (there : Side) (a : Acting) → ((t : List ℕ) → token ≡ Some t → IsOwnToken who t) → (post.sure → SendIsFit (Begin nonce token)) → IsUp a.desk
      → R SetsUp a.desk (acts.begins nonce token there a).desk
  begins_up nonce token there a own fit up =
      elim (here_or_other side there) [
        | inl here ↦ begins_not (may_begin (send_at 0 a.desk) (mount_in there a.desk)) nonce token there a refl here up
        | inr other ↦ begins_elsewhere (may_begin (send_at 0 a.desk) (mount_in there a.desk)) nonce token there a own fit refl other
      ]

  -- ---- what waits goes on

  abbrev pub Goes : Kind → Desk → Desk → Type 0
  Goes k d e = Runs who means boot post any k side [] same_seal d e

  set_up_then : (d e f : Desk) → R SetsUp d e → R Anew e f → Goes Anew d f
  set_up_then d e f x y = runs_then who means boot post SetsUp Anew Anew setup_anew refl (λ loud. loud) side [] [] same_seal same_seal d e f x.runs y.runs

  anew_both : (d e : Desk) → Goes Anew d e → Goes Both d e
  anew_both d e x = reshaped who means boot post Anew Both (λ loud. loud) (λ steps m. both_of steps) side [] same_seal d e x

  begun_then : (d e f : Desk) → R Silent d e ⊎ R SetsUp d e → R Anew e f → Goes Both d f
  begun_then d e f (inl x) y = runs_then who means boot post Silent Anew Both silent_anew refl (λ loud. loud) side [] [] same_seal same_seal d e f x.runs y.runs
  begun_then d e f (inr x) y = anew_both d f (set_up_then d e f x y)

  abbrev Draws : {W : Type 0} → (List ℕ → Option (List ℕ)) → (W → Drawn → W → Type 0) → Type 0
  Draws {W} started gives = (x y : W) (nonce token : List ℕ) → gives x (Got nonce) y → started nonce ≡ Some token → IsOwnToken who token

  -- what is drawn is nonces, and the tokens that are started are bytes
  abbrev pub DrawsFit : {W : Type 0} → (List ℕ → Option (List ℕ)) → (W → Drawn → W → Type 0) → Type 0
  DrawsFit {W} started gives =
      ((x y : W) (nonce : List ℕ) → gives x (Got nonce) y → FixedFits 32 nonce) × ((nonce : List ℕ) → FixedFits 32 nonce → IfSome (started nonce) IsBytes)

  draws_fit : {W : Type 0} (started : List ℕ → Option (List ℕ)) (gives : W → Drawn → W → Type 0) (v w : W) (nonce : List ℕ) → DrawsFit started gives → gives v (Got nonce) w
      → SendIsFit (Begin nonce (started nonce))
  draws_fit started gives v w nonce fit drew = let n = fit.0 v w nonce drew in (n, fit.1 nonce n)

  begun_at : {M : Type 0} (s : Setting M) (nonce : List ℕ) (token : Option (List ℕ)) (there : Side) (a : Acting) → (post.sure → SettingIsFit s) → (post.sure → SendIsFit (Begin nonce token))
      → Fits a → Fits (acts.begins nonce token there a)
  begun_at s nonce token there a k fit h = λ sure.
      let n = fit sure in
      going_fits.begins_fit s (k sure) means.mic (post.codes sure) (may_begin (send_at 0 a.desk) (site_at there a.desk).mount) nonce token there a refl n.0 n.1 (h sure)

  drawn_on : {M W : Type 0} (s : Setting M) (started : List ℕ → Option (List ℕ)) (gives : W → Drawn → W → Type 0) (there : Side) (drawn : Drawn) (v w : W) (a to : Acting)
      → Draws started gives → gives v drawn w → (post.sure → SettingIsFit s) → (post.sure → DrawsFit started gives) → Fits a → IsDrawnOn s means.mic started there drawn a (Some to) → Goes Both a.desk to.desk
  drawn_on s started gives there (Got nonce) v w a to own drew k df h e =
      let b = acts.begins nonce (started nonce) there a in
      let is : to ≡ acts.all_go_on s means.mic b = cc in
      subst (λ (x : Acting). Goes Both a.desk x.desk) (sym is)
      (begun_then a.desk b.desk _ (begins_if _ nonce (started nonce) there a (λ t. own v w nonce t drew) (λ sure. draws_fit started gives v w nonce (df sure) drew) refl)
      (all_go_on s b k (begun_at s nonce (started nonce) there a k (λ sure. draws_fit started gives v w nonce (df sure) drew) h)))
  drawn_on s started gives there Failed v w a to own drew k df h e = absurd cc

  goes_at : {M W : Type 0} (o : Option Side) (s : Setting M) (started : List ℕ → Option (List ℕ)) (gives : W → Drawn → W → Type 0) (a : Acting) (v w : W) (to : Acting)
      → Draws started gives → (post.sure → SettingIsFit s) → (post.sure → DrawsFit started gives) → Fits a → GoesOnAt o s means.mic started gives a v w (Some to) → Goes Both a.desk to.desk
  goes_at None s started gives a v w to own k df h e =
      let now = e.0 in
      let is : to ≡ acts.all_go_on s means.mic a = cc in
      subst (λ (x : Acting). Goes Both a.desk x.desk) (sym is) (anew_both a.desk _ (all_go_on s a k h).runs)
  goes_at (Some there) s started gives a v w to own k df h e = drawn_on s started gives there e.0 v w a to own e.1 k df h e.2

  pub goes_on : {M W : Type 0} (s : Setting M) (started : List ℕ → Option (List ℕ)) (gives : W → Drawn → W → Type 0) (a : Acting) (v w : W) (to : Acting)
      → Draws started gives → (post.sure → SettingIsFit s) → (post.sure → DrawsFit started gives) → Fits a → GoesOnBy s means.mic started gives a v w (Some to) → Goes Both a.desk to.desk
  goes_on s started gives a v w to own k df h e = goes_at (acts.to_begin a) s started gives a v w to own k df h e

  -- where the setup here goes on, nothing is lost

  drawn_up : {M W : Type 0} (s : Setting M) (started : List ℕ → Option (List ℕ)) (gives : W → Drawn → W → Type 0) (there : Side) (drawn : Drawn) (v w : W) (a to : Acting)
      → Draws started gives → gives v drawn w → IsUp a.desk → (post.sure → SettingIsFit s) → (post.sure → DrawsFit started gives) → Fits a → IsDrawnOn s means.mic started there drawn a (Some to) → Goes Anew a.desk to.desk
  drawn_up s started gives there (Got nonce) v w a to own drew up k df h e =
      let b = acts.begins nonce (started nonce) there a in
      let is : to ≡ acts.all_go_on s means.mic b = cc in
      subst (λ (x : Acting). Goes Anew a.desk x.desk) (sym is)
      (set_up_then a.desk b.desk _ (begins_up nonce (started nonce) there a (λ t. own v w nonce t drew) (λ sure. draws_fit started gives v w nonce (df sure) drew) up)
      (all_go_on s b k (begun_at s nonce (started nonce) there a k (λ sure. draws_fit started gives v w nonce (df sure) drew) h)))
  drawn_up s started gives there Failed v w a to own drew up k df h e = absurd cc

  goes_up_at : {M W : Type 0} (o : Option Side) (s : Setting M) (started : List ℕ → Option (List ℕ)) (gives : W → Drawn → W → Type 0) (a : Acting) (v w : W) (to : Acting)
      → Draws started gives → IsUp a.desk → (post.sure → SettingIsFit s) → (post.sure → DrawsFit started gives) → Fits a → GoesOnAt o s means.mic started gives a v w (Some to) → Goes Anew a.desk to.desk
  goes_up_at None s started gives a v w to own up k df h e =
      let now = e.0 in
      let is : to ≡ acts.all_go_on s means.mic a = cc in
      subst (λ (x : Acting). Goes Anew a.desk x.desk) (sym is) (all_go_on s a k h).runs
  goes_up_at (Some there) s started gives a v w to own up k df h e = drawn_up s started gives there e.0 v w a to own e.1 up k df h e.2

  pub goes_on_up : {M W : Type 0} (s : Setting M) (started : List ℕ → Option (List ℕ)) (gives : W → Drawn → W → Type 0) (a : Acting) (v w : W) (to : Acting)
      → Draws started gives → IsUp a.desk → (post.sure → SettingIsFit s) → (post.sure → DrawsFit started gives) → Fits a → GoesOnBy s means.mic started gives a v w (Some to) → Goes Anew a.desk to.desk
  goes_on_up s started gives a v w to own up k df h e = goes_up_at (acts.to_begin a) s started gives a v w to own up k df h e

  -- ---- the destination is asked

  for_status : (j : ℕ) (query : Query) (id : Option StateId) (o : Option OpenFile) (q : ℕ → Purpose) → query ≡ queries.Status → IsFor j (commands.query_with query id o) q → q j ≡ ForStatus j
  for_status j queries.Status (Some id) (Some opened_file) q is f = f
  for_status j queries.Status (Some id) None q is f = absurd f
  for_status j queries.Status None o q is f = absurd f
  for_status j queries.Cancel id o q is f = absurd cc

  wants_query : (at_side : Side) (query : Query) (j : ℕ) (q : ℕ → Purpose) → (at_side ≡ Dest → query ≡ queries.Status → q j ≡ ForStatus j) → WantsQuery at_side query j q
  wants_query Source query j q f = tt
  wants_query Dest query j q f = f refl

  queried_so : (b : Bool) (query : Query) (j : ℕ) (c : ClientCopy) (d e : Desk) (x : R Anew d e) → copy_at j e.copies ≡ Some c → asking_of c ≡ asking.Ready
      → (b ≡ true → (purpose : ℕ → Purpose) (small : e.calls < 4294967295) → WantsQuery side query j (x.runs.ran purpose small).after) → R Anew d (commands.queried_if b j query e)
  queried_so true query j c d e x at ready wants =
      let y = told_when (WantsQuery side query j) j (events.Queried query) e (λ purpose w fit. fits_queried side purpose j query c e.copies at ready w fit) in
      let stay = told_stays j (events.Queried query) e refl in
      record {
        runs = sent_then who means boot post (WantsQuery side query j) side d e (told_to j (events.Queried query) e) stay x.runs (wants refl) y;
        stays = λ loud. stays_then d.copies e.copies (told_to j (events.Queried query) e).copies (x.stays refl) stay;
      }
  queried_so false query j c d e x at ready wants = x

  queried : (j : ℕ) (query : Query) (c : ClientCopy) (d : Desk) → j < PLACES → copy_at j d.copies ≡ Some c → asking_of c ≡ asking.Ready → (post.sure → CopyIsFit c) → Fit d → R Anew d (commands.queried means.mic j query c d)
  queried j query c d within at ready fit h =
      let o = commands.query_call query c d in
      let e = calling.call_sent means.mic Dest j unders.Root o d in
      let x = call Dest j unders.Root o d within (ready_query d.copies j query c c.id _ at refl) (free_ready j c d.copies at ready)
      (λ sure. asking_fits.query_fits query c.id (copying.file_on Dest c.spec.dst_file d) (fit sure).name (asking_fits.file_fits c.spec.dst_file d.dest (h sure).at_dest)) in
      queried_so e.0 query j c d e.1 x.own (ap (copy_at j) x.copies ∙ at) ready
      (λ some purpose small.
      wants_query side query j (x.own.runs.ran purpose small).after
      (λ here is. for_status j query c.id _ (x.own.runs.ran purpose small).after is (x.for_it here some purpose small)))

  asked_by : (k : Asking) (j : ℕ) (query : Query) (c : ClientCopy) (d : Desk) → j < PLACES → copy_at j d.copies ≡ Some c → asking_of c ≡ k → (post.sure → CopyIsFit c) → Fit d → R Anew d (commands.asked_by k means.mic j query c d)
  asked_by asking.Busy j query c d within at is fit h = tells Anew tt _ d
  asked_by asking.Idle j query c d within at is fit h = tells Anew tt _ d
  asked_by asking.Ready j query c d within at is fit h = queried j query c d within at is fit h

  asked_of : (o : Option ClientCopy) (j : ℕ) (query : Query) (d : Desk) → j < PLACES → copy_at j d.copies ≡ o → (post.sure → IfSome o CopyIsFit) → Fit d → R Anew d (commands.asked_of o means.mic j query d)
  asked_of None j query d within at fit h = tells Anew tt _ d
  asked_of (Some c) j query d within at fit h = asked_by (asking_of c) j query c d within at refl fit h

  pub asked : (j : ℕ) (query : Query) (d : Desk) → j < PLACES → Fit d → R Anew d (commands.asked means.mic j query d)
  asked j query d within h = asked_of (copying.copy_in j d) j query d within refl (λ sure. (h sure).table j) h

  -- ---- a second comes

  ticked_if : (b : Bool) (j : ℕ) (c : ClientCopy) (d : Desk) → j < PLACES → copy_at j d.copies ≡ Some c → is_overdue d.second c ≡ b → (post.sure → CopyIsFit c) → Fit d → R Anew d (commands.ticked_if b means.mic j c d)
  ticked_if true j c d within at is fit h = queried j queries.Status c d within at (ready_is (asking_of c) (and_is (is_ready (asking_of c)) _ is).0) fit h
  ticked_if false j c d within at is fit h = same Anew tt d

  ticked_of : (o : Option ClientCopy) (j : ℕ) (d : Desk) → j < PLACES → copy_at j d.copies ≡ o → (post.sure → IfSome o CopyIsFit) → Fit d → R Anew d (commands.ticked_of o means.mic j d)
  ticked_of None j d within at fit h = same Anew tt d
  ticked_of (Some c) j d within at fit h = ticked_if (is_overdue d.second c) j c d within at refl fit h

  pub ticks : (js : List ℕ) (d : Desk) → ArePlaces js → Fit d → R Anew d (ticked means.mic js d)
  unfolding ticked
  ticks [] d within h = same Anew tt d
  ticks (j ∷ js) d within h =
      let e = commands.ticked_of (copying.copy_in j d) means.mic j d in
      joins d e _ (ticked_of (copying.copy_in j d) j d within.0 refl (λ sure. (h sure).table j) h)
      (ticks js e within.1 (λ sure. ticked_of_fits means.mic (post.codes sure) (copying.copy_in j d) j d within.0 ((h sure).table j) (h sure)))
