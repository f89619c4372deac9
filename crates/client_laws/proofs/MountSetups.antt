-- How a setup goes on at a server, and what the answer to an OPEN does.
use Rattle.std.proofs.Common.{◌≡◌, ◌⊎◌, inl, inr, ◌∙◌, ℕ, Bool, true, false, List, Option, None, refl, sym, ap}
use Rattle.std.specs.Prelude.{◌==◌}
use Rattle.caller_laws.specs.Fitting.Bounds.{TextFits}
use Rattle.caller_laws.specs.Good.{Identity}
use Rattle.caller_laws.specs.OneStep.Counting.{Counted}
use Rattle.client_copies.specs.declared.event.Event.TheVariants as events
use Rattle.client_laws.proofs.Going.{back_setup, reclaimed_setup, stepped_setup}
use Rattle.client_laws.proofs.MountCalls as calls
use Rattle.client_laws.proofs.MountMoves.{Post, here_or_other, IsKept, Own, mount_in, no_calls, other_apart}
use Rattle.client_laws.proofs.MountParts.{kept_there, there_copies, made_copies, kept_made}
use Rattle.client_laws.proofs.RunKinds.{Joins, Kind, MayRest, SetsUp, Silent, setup_setup, silent_silent}
use Rattle.client_laws.specs.Bounds.CallLaws.{back_fits}
use Rattle.client_laws.specs.Bounds.DeskLaws.{site_fits}
use Rattle.client_laws.specs.Bounds.Known.{DeskIsFit}
use Rattle.client_site.specs.Sending as sites
use Rattle.client_site.specs.Sending.{is_down}
use Rattle.client_site.specs.declared.site.OpenFile.{OpenFile}
use Rattle.client_steps.specs.Acting as acts
use Rattle.client_steps.specs.Acting.{Acting, GoesOn as GoesOnBy}
use Rattle.client_steps.specs.Calling as calling
use Rattle.client_steps.specs.Desks.{site_at}
use Rattle.client_steps.specs.Replies as replies
use Rattle.client_steps.specs.declared.desk.Desk.{Desk}
use Rattle.file_ops.specs.declared.operation.TheConstants.{OP_CREATE_SESSION}
use Rattle.mount.specs.State.{setup_in}
use Rattle.mount.specs.Taking.{Means}
use Rattle.nfs_base.specs.declared.limits.TheConstants.{NAME_LIMIT}
use Rattle.nfs_base.specs.declared.side.Side.{Side}
use Rattle.outbox.specs.declared.label.CallLabel.TheVariants as labels
use Rattle.session_client.specs.declared.setup.Setup.{Setup}
use Rattle.session_client.specs.declared.setup.Setup.TheVariants as setups

module _ (who : Identity) (means : Means) (boot : ℕ) (post : Post means.mic) (counted : Counted) (side : Side) where
  abbrev R : Kind → Desk → Desk → Type 0
  R k d e = Own who means boot post k side d e

  abbrev Fit : Desk → Type 0
  Fit d = post.sure → DeskIsFit d

  abbrev IsUp : Desk → Type 0
  IsUp d = calls.IsUp who means boot post counted side d

  abbrev MaySend : Kind → Side → Type 0
  MaySend k there = calls.MaySend who means boot post counted side k there

  same : (k : Kind) → MayRest k → (d : Desk) → R k d d
  same k may d = calls.same who means boot post counted side k may d

  stays : (k : Kind) → MayRest k → (d e : Desk) → IsKept side d e → e.copies ≡ d.copies → R k d e
  stays k may d e x same_copies = calls.stays who means boot post counted side k may d e x same_copies

  chained : (k : Kind) → Joins k k k → (d e f : Desk) → R k d e → R k e f → R k d f
  chained k twice d e f x y = calls.chained who means boot post counted side k twice d e f x y

  -- ---- a setup goes on

  back_if : (k : Kind) → MayRest k → (b : Bool) (free : Option ℕ) (root : Option (List ℕ × List ℕ)) (there : Side) (d : Desk) → R k d (replies.back_if b free root there d)
  back_if k may true free root there d = stays k may d _ (kept_made side there free root d) (made_copies there free root d)
  back_if k may false free root there d = same k may d

  setup_by : (k : Kind) → MayRest k → Joins k k k → (there : Side) → MaySend k there → (s : Setup) (me : List ℕ) (free : Option ℕ) (d : Desk) → (post.sure → TextFits NAME_LIMIT me) → Fit d
      → R k d (replies.setup_by s means.mic me free there d)
  setup_by k may twice there sends (setups.Rooted verifier) me free d name h = calls.set_up who means boot post counted side k may there sends me None _ d (λ sure. (name sure, tt))
  setup_by k may twice there sends (setups.Registered client sequence) me free d name h =
      chained k twice d _ _
      (calls.set_up who means boot post counted side k may there sends me (sites.back_channel free (site_at there d)) _ d (λ sure. (name sure, back_fits free (site_at there d) (site_fits there d (h sure)))))
      (back_if k may _ free _ there _)
  setup_by k may twice there sends (setups.Joined client session) me free d name h = calls.reclaim who means boot post counted side k may there sends d
  setup_by k may twice there sends setups.Down me free d name h = same k may d
  setup_by k may twice there sends (setups.Up client session) me free d name h = same k may d

  -- nothing is done here, or the setup goes on and stays
  abbrev pub GoneOn : Desk → Desk → Type 0
  GoneOn d e = R Silent d e ⊎ (R SetsUp d e × IsUp e)

  up_as : (there : Side) → side ≡ there → (s : Setup) (d e : Desk) → setup_in (mount_in there e).standing ≡ setup_in (mount_in there d).standing
      → setup_in (mount_in there d).standing ≡ s → is_down s ≡ false → IsUp e
  up_as there here s d e stayed is up =
      ap (λ (x : Side). is_down (setup_in (mount_in x e).standing)) here ∙ ap is_down (stayed ∙ is) ∙ up

  abbrev IsNext : Setup → Type 0
  IsNext (setups.Rooted verifier) = Unit {0}
  IsNext (setups.Registered client sequence) = Unit {0}
  IsNext (setups.Joined client session) = Unit {0}
  IsNext _ = ⊥

  stays_there : (there : Side) (s : Setup) (me : List ℕ) (free : Option ℕ) (d : Desk) → setup_in (mount_in there (replies.setup_by s means.mic me free there d)).standing ≡ setup_in (mount_in there d).standing
  stays_there there (setups.Rooted verifier) me free d = stepped_setup means.mic me there None _ d
  stays_there there (setups.Registered client sequence) me free d =
      let o = calling.step_sent means.mic me there (sites.back_channel free (site_at there d)) (labels.Operation OP_CREATE_SESSION) d in
      back_setup o.0 free _ there o.1 ∙ stepped_setup means.mic me there _ _ d
  stays_there there (setups.Joined client session) me free d = reclaimed_setup means.mic there d
  stays_there there setups.Down me free d = refl
  stays_there there (setups.Up client session) me free d = refl

  next_up : (s : Setup) → IsNext s → is_down s ≡ false
  next_up (setups.Rooted verifier) next = refl
  next_up (setups.Registered client sequence) next = refl
  next_up (setups.Joined client session) next = refl
  next_up setups.Down next = absurd next
  next_up (setups.Up client session) next = absurd next

  sets_next : (there : Side) → side ≡ there → (s : Setup) → IsNext s → (me : List ℕ) (free : Option ℕ) (d : Desk) → setup_in (mount_in there d).standing ≡ s → (post.sure → TextFits NAME_LIMIT me) → Fit d
      → R SetsUp d (replies.setup_by s means.mic me free there d) × IsUp (replies.setup_by s means.mic me free there d)
  sets_next there here s next me free d is name h = (
    setup_by SetsUp tt setup_setup there (λ at_here at send anew above m. (anew, tt)) s me free d name h,
    up_as there here s d _ (stays_there there s me free d) is (next_up s next),
  )

  setup_here : (there : Side) → side ≡ there → (s : Setup) (me : List ℕ) (free : Option ℕ) (d : Desk) → setup_in (mount_in there d).standing ≡ s → (post.sure → TextFits NAME_LIMIT me) → Fit d
      → GoneOn d (replies.setup_by s means.mic me free there d)
  setup_here there here setups.Down me free d is name h = inl (same Silent tt d)
  setup_here there here (setups.Up client session) me free d is name h = inl (same Silent tt d)
  setup_here there here (setups.Rooted verifier) me free d is name h = inr (sets_next there here (setups.Rooted verifier) tt me free d is name h)
  setup_here there here (setups.Registered client sequence) me free d is name h = inr (sets_next there here (setups.Registered client sequence) tt me free d is name h)
  setup_here there here (setups.Joined client session) me free d is name h = inr (sets_next there here (setups.Joined client session) tt me free d is name h)

  -- where it is up, it stays
  setup_up : (there : Side) → side ≡ there → (s : Setup) (me : List ℕ) (free : Option ℕ) (d : Desk) → setup_in (mount_in there d).standing ≡ s → IsUp d → (post.sure → TextFits NAME_LIMIT me) → Fit d
      → R SetsUp d (replies.setup_by s means.mic me free there d) × IsUp (replies.setup_by s means.mic me free there d)
  setup_up there here setups.Down me free d is up name h =
      let moved : is_down (setup_in (mount_in there d).standing) ≡ false = ap (λ (x : Side). is_down (setup_in (mount_in x d).standing)) (sym here) ∙ up in
      absurd (no_calls (sym moved ∙ ap is_down is))
  setup_up there here (setups.Up client session) me free d is up name h = (same SetsUp tt d, up)
  setup_up there here (setups.Rooted verifier) me free d is up name h = sets_next there here (setups.Rooted verifier) tt me free d is name h
  setup_up there here (setups.Registered client sequence) me free d is up name h = sets_next there here (setups.Registered client sequence) tt me free d is name h
  setup_up there here (setups.Joined client session) me free d is up name h = sets_next there here (setups.Joined client session) tt me free d is name h

  pub setup_stays : (me : List ℕ) (free : Option ℕ) (there : Side) (d : Desk) → side ≡ there → IsUp d → (post.sure → TextFits NAME_LIMIT me) → Fit d
      → R SetsUp d (replies.setup_goes_on means.mic me free there d) × IsUp (replies.setup_goes_on means.mic me free there d)
  setup_stays me free there d here up name h = setup_up there here (setup_in (mount_in there d).standing) me free d refl up name h

  pub setup_goes_on : (me : List ℕ) (free : Option ℕ) (there : Side) (d : Desk) → (post.sure → TextFits NAME_LIMIT me) → Fit d
      → GoneOn d (replies.setup_goes_on means.mic me free there d)
  setup_goes_on me free there d name h =
      let s = setup_in (mount_in there d).standing in
      elim (here_or_other side there) [
        | inl here ↦ setup_here there here s me free d refl name h
        | inr other ↦ inl (setup_by Silent tt silent_silent there (λ here. absurd (other_apart side there other here)) s me free d name h)
      ]

  -- ---- an OPEN was answered

  opener : (b : Bool) (there : Side) (place : ℕ) (a : Acting) → R Silent a.desk (replies.opener_told b there place a).desk
  opener true there place a = calls.queue who means boot post counted side Silent tt there _ a
  opener false there place a = calls.told who means boot post counted side Silent tt place (events.Opened there) a.desk (λ loud. refl) refl

  pub opens : (there : Side) (place : ℕ) (opened_file : OpenFile) (a : Acting) → R Silent a.desk (replies.opened there place opened_file a).desk
  opens there place opened_file a =
      let b = acts.on_desk (replies.file_added there opened_file) a in
      calls.quietly who means boot post counted side a.desk b.desk _ (stays Silent tt a.desk b.desk (kept_there side there _ a.desk refl) (there_copies there _ a.desk)) (opener (place == 0) there place b)
