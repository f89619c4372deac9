-- A record comes from a server: it is the reply to what is awaited at a place, which does what it does, or to nothing.
use Rattle.std.proofs.Common.{◌≡◌, ◌∙◌, ℕ, ◌⊎◌, Bool, true, false, List, [], ◌∷◌, Option, Some, None, refl, sym, ap, subst, inl, inr, arith}
use Rattle.std.specs.Prelude.{◌==◌}
use Rattle.std.proofs.lemmas.List.{append-nil}
use Rattle.caller_laws.specs.Fitting.Bounds.{TextFits}
use Rattle.caller_laws.specs.Good.{Identity}
use Rattle.caller_laws.specs.Moves.{Takes}
use Rattle.caller_laws.specs.OneStep.Counting.{Counted}
use Rattle.caller_laws.specs.OneStep.Order.{is_root}
use Rattle.caller_laws.specs.OneStep.RootLaws.{rooted_up}
use Rattle.client_copies.specs.Table.{Copies, accepted_at, told_at}
use Rattle.client_copies.specs.declared.copy.ClientCopy.{ClientCopy}
use Rattle.client_copies.specs.declared.event.Event.{Event}
use Rattle.client_laws.proofs.Changed.{said_copies}
use Rattle.client_laws.proofs.Fitting.{IsQuiet, fits_accepted, fits_told, is_quiet, quiet_deed}
use Rattle.client_laws.proofs.MountCalls.{Goes, IsUp, goes_down, queue, quietly, same, stays, tells}
use Rattle.client_laws.proofs.MountMoves.{Post, any, IsOther, Runs, kept, mount_in, none, other_apart, rests, runs_then, same_seal}
use Rattle.client_laws.proofs.MountParts.{kept_said, kept_there, there_copies}
use Rattle.client_laws.proofs.MountSetups.{opens, setup_goes_on, setup_stays}
use Rattle.client_laws.proofs.RunKinds as kinds
use Rattle.client_laws.proofs.RunKinds.{Kind, MayRest, SetsUp, Silent, silent_silent}
use Rattle.client_laws.specs.Bounds.DeedLaws.{taken_fits}
use Rattle.client_laws.specs.Bounds.Known.{DeskIsFit}
use Rattle.client_laws.specs.CallerLaws.{PurposesFit, above_by}
use Rattle.client_site.specs.Falling.{all_places}
use Rattle.client_site.specs.Sending.{is_down}
use Rattle.client_site.specs.Taking.{found_at, found_by}
use Rattle.client_site.specs.declared.site.Site.{Site}
use Rattle.client_site.specs.declared.taking.Found.{Found}
use Rattle.client_steps.specs.Acting.{Acting, on_desk, with_desk}
use Rattle.client_steps.specs.Answers.{copy_deed}
use Rattle.client_steps.specs.CopySteps.{copy_in}
use Rattle.client_steps.specs.Desks.{site_at, with_site, told_to}
use Rattle.client_steps.specs.Replies.{answered, deed_at, deed_of, done, first_deed, started, taken, under_seal}
use Rattle.client_steps.specs.declared.deeds.Deed.{Deed}
use Rattle.client_steps.specs.declared.deeds.Deed.TheVariants as deeds
use Rattle.client_steps.specs.declared.desk.Desk.{Desk}
use Rattle.mount.specs.State.{Mounted, setup_in}
use Rattle.mount.specs.Taking.{Means, taken_at}
use Rattle.mount.specs.declared.taking.Told as mount_told
use Rattle.mount.specs.declared.taking.Told.TheVariants as told_as
use Rattle.nfs_base.specs.declared.limits.TheConstants.{NAME_LIMIT}
use Rattle.nfs_base.specs.declared.seal.Seal.{Seal}
use Rattle.nfs_base.specs.declared.side.Side.{Side}
use Rattle.nfs_base.specs.declared.side.Side.TheVariants.{Source, Dest}
use Rattle.nfs_base.specs.declared.state_id.StateId.{StateId}
use Rattle.outbox.specs.declared.note.Dropped.TheVariants.{Unmatched}
use Rattle.outbox.specs.declared.note.Note.TheVariants as notes
use Rattle.wire_xdr.specs.Cursor.{IsBytes}

-- ---- a record is the reply to what is awaited at a place, or to nothing

pub record IsFoundAs (means : Means) (message : List ℕ) (m : Mounted) (o : Option Found × Mounted) : Type 0 where
  pub found : Found
  pub is : o.0 ≡ Some found
  pub mount : o.1 ≡ (taken_at means found.place message m).1
  pub told : (taken_at means found.place message m).0.told ≡ found.told
  pub accepted : (taken_at means found.place message m).0.accepted ≡ found.accepted

abbrev pub Finds : Means → List ℕ → Mounted → Option Found × Mounted → Type 0
Finds means message m o = ((o.0 ≡ None) × (o.1 ≡ m)) ⊎ IsFoundAs means message m o

finds_by : (means : Means) (message : List ℕ) (place sent : ℕ) (m : Mounted) (b : Bool) (more : Option Found × Mounted) → Finds means message m more
    → Finds means message m (found_by b place sent (taken_at means place message m) more)
finds_by means message place sent m true more rest =
    let o = taken_at means place message m in
    inr (record {
      found = record { place = place; sent_at = sent; told = o.0.told; accepted = o.0.accepted };
      is = refl;
      mount = refl;
      told = refl;
      accepted = refl;
    })
finds_by means message place sent m false more rest = rest

pub finds : (means : Means) (message : List ℕ) (places : List ℕ) (m : Mounted) → Finds means message m (found_at means message places m)
finds means message [] m = inl (refl, refl)
finds means message (place ∷ places) m = finds_by means message place _ m _ _ (finds means message places m)

-- ---- a reply is taken

takes_here : (who : Identity) (means : Means) (boot : ℕ) (post : Post means.mic) (side : Side) (message : List ℕ) (place : ℕ) (accepted : Option Seal) (d e : Desk)
    → mount_in side e ≡ (taken_at means place message (mount_in side d)).1 → (taken_at means place message (mount_in side d)).0.accepted ≡ accepted
    → e.calls ≡ d.calls → e.copies ≡ d.copies → e.out.sent ≡ d.out.sent → e.out.accepted ≡ d.out.accepted → (post.sure → IsBytes message)
    → Runs who means boot post any (kinds.Hears (is_root (taken_at means place message (mount_in side d)).0.told)) side ((message, accepted) ∷ []) same_seal d e
takes_here who means boot post side message place accepted d e mount seal calls copies sent kept_seal bytes = record {
  grows = λ small. omega arith;
  accepted = kept_seal;
  more = [];
  sent = sent ∙ sym (append-nil d.out.sent);
  posted = tt;
  counts = λ small. calls;
  ran = λ purpose small.
      let a = above_by boot d.calls purpose d.copies in
      record {
        after = purpose;
        steps = (record { move = Takes place message; above = a }) ∷ [];
        run = (
          record { boot = refl; calls = omega arith; purpose = λ other awaiting is. refl },
          refl,
          λ spelled. spelled,
          (ap (λ (n : ℕ). above_by boot n purpose e.copies) calls ∙ ap (λ (t : Copies). above_by boot d.calls purpose t) copies, mount),
        );
        outs = refl;
        takes = ap (λ (s : Option Seal). (message, s) ∷ []) seal;
        asks = λ t stays. (tt, tt);
        order = record { place = place; message = message; above = a; is = refl; root_is = refl };
        numbers = refl;
        fit = λ sure. (bytes sure, tt);
      };
  fits = λ purpose small given fit. subst (PurposesFit side purpose) (sym copies) fit;
}

pub kept_seal : (k : Kind) → MayRest k → (side : Side) (accepted : Option Seal) (d : Desk) (who : Identity) (means : Means) (boot : ℕ) (post : Post means.mic)
    → Runs who means boot post any k side [] (λ old. accepted) d (under_seal accepted d)
kept_seal k may Source accepted d who means boot post =
    rests who means boot post any k may Source (λ old. accepted) d _ [] refl (λ small. omega arith) (sym (append-nil d.out.sent)) refl tt (λ small. refl) refl refl (λ purpose given fit. fit)
kept_seal k may Dest accepted d who means boot post =
    rests who means boot post any k may Dest (λ old. accepted) d _ [] refl (λ small. omega arith) (sym (append-nil d.out.sent)) refl tt (λ small. refl) refl refl (λ purpose given fit. fit)

-- a site comes in place
record IsSited (side : Side) (s : Site) (d : Desk) : Type 0 where
  mount : mount_in side (with_site side s d) ≡ s.mount
  calls : (with_site side s d).calls ≡ d.calls
  copies : (with_site side s d).copies ≡ d.copies
  sent : (with_site side s d).out.sent ≡ d.out.sent
  accepted : (with_site side s d).out.accepted ≡ d.out.accepted

sited : (side : Side) (s : Site) (d : Desk) → IsSited side s d
sited Source s d = record { mount = refl; calls = refl; copies = refl; sent = refl; accepted = refl }
sited Dest s d = record { mount = refl; calls = refl; copies = refl; sent = refl; accepted = refl }

sealed_mount : (side : Side) (accepted : Option Seal) (d : Desk) → mount_in side (under_seal accepted d) ≡ mount_in side d
sealed_mount Source accepted d = refl
sealed_mount Dest accepted d = refl

-- where the root is told, the setup goes on or rests
abbrev is_calm : Deed → Bool
is_calm deeds.Goes = true
is_calm deeds.Rests = true
is_calm _ = false

calm_copy : (side : Side) (o : Option ClientCopy) (at : ℕ) (d : Desk) → is_calm (copy_deed told_as.Rooted side o at d) ≡ true
calm_copy side None at d = refl
calm_copy side (Some c) at d = refl

calm_first : (setting_up : Bool) (side : Side) (a : Acting) → is_calm (first_deed setting_up told_as.Rooted side a) ≡ true
calm_first true side a = refl
calm_first false side a = refl

calm_rooted : (first setting_up : Bool) (side : Side) (place at : ℕ) (a : Acting) → is_calm (deed_at first setting_up told_as.Rooted side place at a) ≡ true
calm_rooted true setting_up side place at a = calm_first setting_up side a
calm_rooted false setting_up side place at a = calm_copy side (copy_in place a.desk) at a.desk

root_told : (told : mount_told.Told) → is_root told ≡ true → told ≡ told_as.Rooted
root_told told_as.Rooted e = refl
root_told told_as.Unmatched e = absurd cc
root_told (told_as.Child child) e = absurd cc
root_told (told_as.Refused major) e = absurd cc
root_told told_as.Stepped e = absurd cc
root_told (told_as.Stopped status) e = absurd cc
root_told (told_as.Answer reply) e = absurd cc
root_told told_as.Misspelt e = absurd cc
root_told (told_as.Failed stat) e = absurd cc
root_told (told_as.Denied why) e = absurd cc

calm_deed : (first setting_up : Bool) (told : mount_told.Told) (side : Side) (place at : ℕ) (a : Acting) → is_root told ≡ true → is_calm (deed_at first setting_up told side place at a) ≡ true
calm_deed first setting_up told side place at a e =
    ap (λ (t : mount_told.Told). is_calm (deed_at first setting_up t side place at a)) (root_told told e) ∙ calm_rooted first setting_up side place at a

module _ (who : Identity) (means : Means) (boot : ℕ) (post : Post means.mic) (counted : Counted) (side : Side) where
  begun : (place : ℕ) (id : StateId) (at : ℕ) (d : Desk) → Goes who means boot post counted side Silent d (started place id at d)
  begun place id at d =
      let o = accepted_at place id at d.copies in
      let next : Desk = record d { copies = o.1 } in
      kept who means boot post Silent tt side d _ (kept_said side place o.0 o.1 d)
      (λ purpose fit. subst (PurposesFit side purpose) (sym (said_copies place o.0 next)) (fits_accepted side purpose place id at d.copies fit))

  happens : (place : ℕ) (event : Event) (d : Desk) → is_quiet event ≡ true → Goes who means boot post counted side Silent d (told_to place event d)
  happens place event d quiet =
      let o = told_at place event d.copies in
      let next : Desk = record d { copies = o.1 } in
      kept who means boot post Silent tt side d _ (kept_said side place o.0 o.1 d)
      (λ purpose fit. subst (PurposesFit side purpose) (sym (said_copies place o.0 next)) (fits_told side purpose place event d.copies quiet fit))

  -- nothing goes out here, or the setup goes on and stays
  abbrev pub Comes : Desk → Desk → Type 0
  Comes d e = Goes who means boot post counted side Silent d e ⊎ (Goes who means boot post counted side SetsUp d e × IsUp who means boot post counted side e)

  -- what an answer comes to
  pub does : (deed : Deed) (me : List ℕ) (free : Option ℕ) (there : Side) (place at : ℕ) (a : Acting) → IsQuiet deed → (post.sure → TextFits NAME_LIMIT me) → (post.sure → DeskIsFit a.desk)
      → Comes a.desk (done deed means.mic me free there place at a).desk
  does deeds.Rests me free there place at a quiet name h = inl (same who means boot post counted side Silent tt a.desk).runs
  does deeds.Goes me free there place at a quiet name h =
      elim (setup_goes_on who means boot post counted side me free there a.desk name h) [
        | inl x ↦ inl x.runs
        | inr x ↦ inr (x.0.runs, x.1)
      ]
  does (deeds.Falls status) me free there place at a quiet name h = inl (goes_down who means boot post counted side there status a).runs
  does (deeds.Opens opened_file) me free there place at a quiet name h = inl (opens who means boot post counted side there place opened_file a).runs
  does (deeds.Queue event) me free there place at a quiet name h = inl (queue who means boot post counted side Silent tt there event a).runs
  does (deeds.Copy event) me free there place at a quiet name h = inl (happens place event a.desk quiet)
  does (deeds.Starts id) me free there place at a quiet name h = inl (begun place id at a.desk)

  -- where the root was told
  comes_up : (deed : Deed) (me : List ℕ) (free : Option ℕ) (there : Side) (place at : ℕ) (a : Acting) → is_calm deed ≡ true → side ≡ there → IsUp who means boot post counted side a.desk → (post.sure → TextFits NAME_LIMIT me) → (post.sure → DeskIsFit a.desk)
      → Goes who means boot post counted side SetsUp a.desk (done deed means.mic me free there place at a).desk
      × IsUp who means boot post counted side (done deed means.mic me free there place at a).desk
  comes_up deeds.Rests me free there place at a calm here up name h = ((same who means boot post counted side SetsUp tt a.desk).runs, up)
  comes_up deeds.Goes me free there place at a calm here up name h =
      let x = setup_stays who means boot post counted side me free there a.desk here up name h in
      (x.0.runs, x.1)
  comes_up (deeds.Falls status) me free there place at a calm here up name h = absurd cc
  comes_up (deeds.Opens opened_file) me free there place at a calm here up name h = absurd cc
  comes_up (deeds.Queue event) me free there place at a calm here up name h = absurd cc
  comes_up (deeds.Copy event) me free there place at a calm here up name h = absurd cc
  comes_up (deeds.Starts id) me free there place at a calm here up name h = absurd cc

  -- nothing is taken here, though maybe at the other server
  pub record Unheard (there : Side) (d e : Desk) : Type 0 where
    pub accepted : Option Seal
    pub seal : Option Seal → Option Seal
    pub middle : Desk
    pub first : Runs who means boot post any Silent side [] seal d middle
    pub deed : Comes middle e
    pub is : (accepted ≡ None) ⊎ (side ≡ there → ⊥)
    pub seal_is : seal None ≡ accepted

  -- this record is taken here, and does what it does
  pub record Heard (there : Side) (message : List ℕ) (d e : Desk) : Type 0 where
    pub here : side ≡ there
    pub accepted : Option Seal
    pub root : Bool
    pub behind : Desk
    pub takes : Runs who means boot post any (kinds.Hears root) side ((message, accepted) ∷ []) same_seal d behind
    pub middle : Desk
    pub sealed : (k : Kind) → MayRest k → Runs who means boot post any k side [] (λ old. accepted) behind middle
    pub deed : Comes middle e
    pub rooted : root ≡ true → Goes who means boot post counted side SetsUp middle e × IsUp who means boot post counted side e

  abbrev pub Hearing : Side → List ℕ → Desk → Desk → Type 0
  Hearing there message d e = Unheard there d e ⊎ Heard there message d e

source_apart : Source ≡ Dest → ⊥
source_apart e = absurd cc

dest_apart : Dest ≡ Source → ⊥
dest_apart e = absurd cc

heard_here : (who : Identity) (means : Means) (boot : ℕ) (post : Post means.mic) (counted : Counted) (side : Side) (setting_up : Bool) (me : List ℕ) (free : Option ℕ)
    (message : List ℕ) (a : Acting) → (post.sure → IsBytes message) → (post.sure → TextFits NAME_LIMIT me) → (post.sure → DeskIsFit a.desk)
    → (f : IsFoundAs means message (mount_in side a.desk) (found_at means message all_places (mount_in side a.desk)))
    → Heard who means boot post counted side side message a.desk
    (answered setting_up means.mic me free side (Some f.found) (with_desk (taken means message side a.desk).1 a)).desk
heard_here who means boot post counted side setting_up me free message a bytes name h f =
    let found = f.found in
    let d = a.desk in
    let o = found_at means message all_places (mount_in side d) in
    let s : Site = record (site_at side d) { mount = o.1 } in
    let e = (taken means message side d).1 in
    let x = sited side s d in
    let b : Acting = on_desk (under_seal found.accepted) (with_desk e a) in
    let first = found.place == 0 in
    let deed = deed_of setting_up found.told side found.place found.sent_at b in
    let behind : post.sure → DeskIsFit b.desk = λ sure. taken_fits means message (bytes sure) side d (h sure) in
    record {
      here = refl;
      accepted = found.accepted;
      root = is_root (taken_at means found.place message (mount_in side d)).0.told;
      behind = e;
      takes = takes_here who means boot post side message found.place found.accepted d e (x.mount ∙ f.mount) f.accepted x.calls x.copies x.sent x.accepted bytes;
      middle = b.desk;
      sealed = λ k may. kept_seal k may side found.accepted e who means boot post;
      deed = does who means boot post counted side deed me free side found.place found.sent_at b (quiet_deed first setting_up found.told side found.place found.sent_at b) name behind;
      rooted = λ root.
          comes_up who means boot post counted side deed me free side found.place found.sent_at b
          (calm_deed first setting_up found.told side found.place found.sent_at b (ap is_root (sym f.told) ∙ root)) refl
          (ap (λ (m : Mounted). is_down (setup_in m.standing)) (sealed_mount side found.accepted e ∙ x.mount ∙ f.mount)
          ∙ ap is_down (rooted_up means found.place message (mount_in side d) root).is) name behind;
    }

-- at the other server
kept_elsewhere : (who : Identity) (means : Means) (boot : ℕ) (post : Post means.mic) (side there : Side) (s : Site) (d : Desk) → IsOther side there
    → Runs who means boot post any Silent side [] same_seal d (with_site there s d)
kept_elsewhere who means boot post Source Dest s d x = kept who means boot post Silent tt Source d _ (record { mount = refl; calls = refl; sent = refl; accepted = refl }) (λ purpose fit. fit)
kept_elsewhere who means boot post Dest Source s d x = kept who means boot post Silent tt Dest d _ (record { mount = refl; calls = refl; sent = refl; accepted = refl }) (λ purpose fit. fit)
kept_elsewhere who means boot post Source Source s d x = absurd x
kept_elsewhere who means boot post Dest Dest s d x = absurd x

heard_elsewhere : (who : Identity) (means : Means) (boot : ℕ) (post : Post means.mic) (counted : Counted) (side there : Side) (setting_up : Bool) (me : List ℕ) (free : Option ℕ)
    (message : List ℕ) (a : Acting) → (post.sure → IsBytes message) → (post.sure → TextFits NAME_LIMIT me) → (post.sure → DeskIsFit a.desk) → IsOther side there
    → (f : IsFoundAs means message (mount_in there a.desk) (found_at means message all_places (mount_in there a.desk)))
    → Unheard who means boot post counted side there a.desk
    (answered setting_up means.mic me free there (Some f.found) (with_desk (taken means message there a.desk).1 a)).desk
heard_elsewhere who means boot post counted side there setting_up me free message a bytes name h other f =
    let found = f.found in
    let d = a.desk in
    let e = (taken means message there d).1 in
    let b : Acting = on_desk (under_seal found.accepted) (with_desk e a) in
    record {
      accepted = found.accepted;
      seal = λ old. found.accepted;
      middle = b.desk;
      first =
          runs_then who means boot post Silent Silent Silent silent_silent refl (λ loud. loud) side [] [] same_seal (λ old. found.accepted) d e b.desk
          (kept_elsewhere who means boot post side there _ d other) (kept_seal Silent tt side found.accepted e who means boot post);
      deed = does who means boot post counted side (deed_of setting_up found.told there found.place found.sent_at b) me free there found.place found.sent_at b
          (quiet_deed (found.place == 0) setting_up found.told there found.place found.sent_at b) name
          (λ sure. taken_fits means message (bytes sure) there d (h sure));
      is = inr (other_apart side there other);
      seal_is = refl;
    }

hears_found : (who : Identity) (means : Means) (boot : ℕ) (post : Post means.mic) (counted : Counted) (side there : Side) (setting_up : Bool) (me : List ℕ) (free : Option ℕ)
    (message : List ℕ) (a : Acting) → (post.sure → IsBytes message) → (post.sure → TextFits NAME_LIMIT me) → (post.sure → DeskIsFit a.desk)
    → (f : IsFoundAs means message (mount_in there a.desk) (found_at means message all_places (mount_in there a.desk)))
    → Hearing who means boot post counted side there message a.desk
    (answered setting_up means.mic me free there (Some f.found) (with_desk (taken means message there a.desk).1 a)).desk
hears_found who means boot post counted Source Source setting_up me free message a bytes name h f = inr (heard_here who means boot post counted Source setting_up me free message a bytes name h f)
hears_found who means boot post counted Dest Dest setting_up me free message a bytes name h f = inr (heard_here who means boot post counted Dest setting_up me free message a bytes name h f)
hears_found who means boot post counted Source Dest setting_up me free message a bytes name h f = inl (heard_elsewhere who means boot post counted Source Dest setting_up me free message a bytes name h tt f)
hears_found who means boot post counted Dest Source setting_up me free message a bytes name h f = inl (heard_elsewhere who means boot post counted Dest Source setting_up me free message a bytes name h tt f)

module _ (who : Identity) (means : Means) (boot : ℕ) (post : Post means.mic) (counted : Counted) (side : Side) where
  pub hears : (setting_up : Bool) (me : List ℕ) (free : Option ℕ) (there : Side) (message : List ℕ) (a : Acting) → (post.sure → IsBytes message) → (post.sure → TextFits NAME_LIMIT me) → (post.sure → DeskIsFit a.desk)
      → Hearing who means boot post counted side there message a.desk
      (answered setting_up means.mic me free there (taken means message there a.desk).0 (with_desk (taken means message there a.desk).1 a)).desk
  hears setting_up me free there message a bytes name h =
      let m = mount_in there a.desk in
      let o = found_at means message all_places m in
      elim (finds means message all_places m) [
        | inl unfound ↦
            subst
            (λ (x : Option Found). Hearing who means boot post counted side there message a.desk
            (answered setting_up means.mic me free there x (with_desk (taken means message there a.desk).1 a)).desk) (sym unfound.0)
            (inl (record {
              accepted = None;
              seal = same_seal;
              middle = a.desk;
              first = none who means boot post Silent tt side a.desk;
              deed = inl (quietly who means boot post counted side a.desk (taken means message there a.desk).1 _
                  (stays who means boot post counted side Silent tt a.desk _ (kept_there side there (record (site_at there a.desk) { mount = o.1 }) a.desk unfound.1)
                  (there_copies there (record (site_at there a.desk) { mount = o.1 }) a.desk))
                  (tells who means boot post counted side Silent tt (notes.Dropped Unmatched) (taken means message there a.desk).1)).runs;
              is = inl refl;
              seal_is = refl;
            }))
        | inr f ↦
            subst
            (λ (x : Option Found). Hearing who means boot post counted side there message a.desk
            (answered setting_up means.mic me free there x (with_desk (taken means message there a.desk).1 a)).desk) (sym f.is)
            (hears_found who means boot post counted side there setting_up me free message a bytes name h f)
      ]
