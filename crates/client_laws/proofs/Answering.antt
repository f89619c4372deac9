-- What a client is told as an answer is taken, as the wire of its server sees it, as the reply that its mount awaited.
use Rattle.std.proofs.Common.{◌≡◌, ◌∙◌, ℕ, Bool, true, false, List, Option, Some, None, refl, sym, ap, inl, inr}
use Rattle.std.specs.Prelude.{◌==◌, option_map}
use Rattle.caller_laws.specs.Answers.Awaited.{IsAwaited}
use Rattle.caller_laws.specs.Good.{Identity}
use Rattle.caller_laws.specs.OneStep.Counting.{Counted}
use Rattle.caller_laws.specs.View.{awaited_in, face, handle_named, purpose_of, what_asked, what_under, Face}
use Rattle.client_core.specs.Backs.{back_added, free_number}
use Rattle.client_core.specs.Endings.{IsStep, Ways, acting_at, desk_at, ended_by}
use Rattle.client_core.specs.Records.{IsJudged, heard}
use Rattle.client_core.specs.State.{ClientState, second_at}
use Rattle.client_core.specs.Telling.{mount_at}
use Rattle.client_laws.proofs.Fitting.{quiet_deed}
use Rattle.client_laws.proofs.MountCalls.{goes_on}
use Rattle.client_laws.proofs.MountHears.{Comes, IsFoundAs, does, finds}
use Rattle.client_laws.proofs.MountMoves.{unsure}
use Rattle.client_laws.specs.Answered.{IsAnswerTaken}
use Rattle.client_laws.specs.CallerLaws.{StartsOwn}
use Rattle.client_laws.specs.Turns.{Hears, IsTurn}
use Rattle.client_site.specs.Falling.{all_places}
use Rattle.client_site.specs.Taking.{found_at}
use Rattle.client_site.specs.declared.taking.Found.{Found}
use Rattle.client_steps.specs.Acting.{Acting, GoesOn, on_desk, with_desk}
use Rattle.client_steps.specs.Desks.{site_at}
use Rattle.client_steps.specs.Replies.{answered, deed_of, taken, under_seal}
use Rattle.client_steps.specs.declared.desk.Desk.{Desk}
use Rattle.gss_ctx.specs.Seals.{Mic}
use Rattle.gss_ctx.specs.Table.{ContextTable}
use Rattle.mount.specs.State.{Mounted, context_of, is_setting_up, pending_at}
use Rattle.mount.specs.Taking.{Means, taken_at}
use Rattle.mount.specs.declared.state.Aim.{Aim}
use Rattle.mount.specs.declared.state.Context.{Context}
use Rattle.mount.specs.declared.state.Pending.TheVariants.{Under}
use Rattle.mount.specs.declared.taking.Told.TheVariants as told_as
use Rattle.nfs_base.specs.declared.side.Side.{Side}
use Rattle.nfs_base.specs.declared.side.Side.TheVariants.{Source, Dest}
use Rattle.nfs_compound.specs.declared.reply.Reply.{Reply}
use Rattle.outbox.specs.declared.outgoing.Outbox.{Outbox}
use Rattle.rpc_calls.specs.Judging.{judged_of}
use Rattle.rpc_calls.specs.declared.call.Judged.{Judged}
use Rattle.rpc_calls.specs.declared.call.Judged.TheVariants as judged
use Rattle.rpc_calls.specs.declared.call.Program.{Program}
use Rattle.rpc_calls.specs.declared.call.TheConstants.Program as programs
use Rattle.session_client.specs.Pending.{Asking}
use Rattle.streams.specs.declared.draws.Drawn.{Drawn}
use Rattle.wire_model.specs.Wire as wire
use Rattle.wire_model.specs.Wire.{Purpose}
use Rattle.wire_spelling.specs.Calls.{xid_in}
use Rattle.wire_spelling.specs.Replies.{is_reply}
use Rattle.wire_xdr.specs.Cursor.{IsBytes}

-- ---- in a turn

some_one : {X : Type 0} (x y : X) → Some x ≡ Some y → x ≡ y
some_one x y e = cc

-- the record is found at its place
found_so : (means : Means) (message : List ℕ) (m : Mounted) (found : Found) → (found_at means message all_places m).0 ≡ Some found → IsFoundAs means message m (found_at means message all_places m)
found_so means message m found is =
    elim (finds means message all_places m) [
      | inl none ↦ let both : None ≡ Some found = sym none.0 ∙ is in absurd cc
      | inr f ↦ f
    ]

site_mount : {M : Type 0} (side : Side) (now : ℕ) (c : ClientState M) → (site_at side (desk_at now c)).mount ≡ mount_at side c
site_mount Source now c = refl
site_mount Dest now c = refl

comes_accepted : (who : Identity) (means : Means) (boot : ℕ) (counted : Counted) (side : Side) (d e : Desk) → Comes who means boot (unsure means.mic) counted side d e
    → e.out.accepted ≡ d.out.accepted
comes_accepted who means boot counted side d e (inl x) = x.accepted
comes_accepted who means boot counted side d e (inr x) = x.0.accepted

-- what is awaited where an asking's context is
abbrev awaits : Asking → Aim → Purpose → Option Face → wire.Awaited
awaits asking aim purpose o =
    record { xid = asking.awaited.xid; what = what_under o asking.seal (purpose_of aim purpose) asking.asked }

-- the view's awaited call, where an asking is pending under a context
awaited_face : (m : Mounted) (place xid : ℕ) (purpose : Purpose) (context : ℕ) (aim : Aim) (asking : Asking) (under : Context)
    → pending_at m place ≡ Some (Under context aim asking) → context_of context m.contexts ≡ Some under → asking.awaited.xid ≡ xid
    → option_map (awaited_in m.contexts purpose) (pending_at m place)
    ≡ Some (record { xid = xid; what = what_asked asking.seal (handle_named under.root) (purpose_of aim purpose) asking.asked })
awaited_face m place xid purpose context aim asking under awaited there is =
    ap (option_map (awaited_in m.contexts purpose)) awaited
    ∙ ap (λ (o : Option Context). Some (awaits asking aim purpose (option_map face o))) there
    ∙ ap (λ (n : ℕ). Some (record { xid = n; what = what_asked asking.seal (handle_named under.root) (purpose_of aim purpose) asking.asked })) is

-- what is found is what the place took, at the same mount
told_there : (means : Means) (message : List ℕ) (x m : Mounted) (f found : Found) → x ≡ m → f ≡ found
    → (taken_at means f.place message x).0.told ≡ f.told → (taken_at means found.place message m).0.told ≡ found.told
told_there means message x m f found mounts same is =
    ap (λ (y : Mounted). (taken_at means found.place message y).0.told) (sym mounts) ∙ ap (λ (y : Found). (taken_at means y.place message x).0.told) (sym same)
    ∙ is ∙ ap (λ (y : Found). y.told) same

accepted_there : (means : Means) (message : List ℕ) (x m : Mounted) (f found : Found) → x ≡ m → f ≡ found
    → (taken_at means f.place message x).0.accepted ≡ f.accepted → (taken_at means found.place message m).0.accepted ≡ found.accepted
accepted_there means message x m f found mounts same is =
    ap (λ (y : Mounted). (taken_at means found.place message y).0.accepted) (sym mounts)
    ∙ ap (λ (y : Found). (taken_at means y.place message x).0.accepted) (sym same) ∙ is ∙ ap (λ (y : Found). y.accepted) same

-- so the wire sees that it takes the reply
answer_seen : {M : Type 0} (who : Identity) (boot : ℕ) (purpose : ℕ → Purpose) (side : Side) (message : List ℕ) (now : ℕ) (c : ClientState M) (out : Outbox) (found : Found) (told : Reply)
    (means : Means) (a : IsAwaited means found.place message (mount_at side c) told)
    → (taken_at means found.place message (mount_at side c)).0.accepted ≡ found.accepted → out.accepted ≡ found.accepted
    → IsAnswerTaken who boot purpose side (Hears side message now) message c out found.place told
answer_seen who boot purpose side message now c out found told means a accepted_at accepted = record {
  context = a.context;
  aim = a.aim;
  asking = a.asking;
  under = a.under;
  awaited = a.awaited;
  there = a.there;
  takes = record {
    place = found.place;
    took = refl;
    is_reply = a.is_reply;
    accepted = accepted ∙ sym accepted_at ∙ a.accepted;
    awaited =
        awaited_face (mount_at side c) found.place (xid_in message) (purpose found.place) a.context a.aim a.asking a.under a.awaited a.there (sym a.xid);
  };
  answers = a.answers;
  says = a.says;
}

-- what is known of what a mount takes as an answer, and of what is judged
pub record Answered : Type 0 where
  pub awaited : (means : Means) (place : ℕ) (message : List ℕ) (m : Mounted) (told : Reply) → IsBytes message → (taken_at means place message m).0.told ≡ told_as.Answer told
      → IsAwaited means place message m told
  pub replies : (mic : Mic) (now : ℕ) (program : Program) (bytes : List ℕ) (table : ContextTable ℕ) → IsBytes bytes → is_reply bytes ≡ true
      → judged_of mic now program bytes table ≡ judged.Reply

module _ {M W : Type 0} (knows : Answered) (who : Identity) (ways : Ways) (boot : ℕ) (counted : Counted) (gives : W → Drawn → W → Type 0) (side : Side) (message : List ℕ) (now : ℕ)
    (c : ClientState M) (found : Found) (is : (taken ways.means message side (desk_at now c)).0 ≡ Some found) where
  -- what the reply does goes under its seal
  heard_accepted : (setting_up : Bool) (me : List ℕ) (free : Option ℕ) (a : Acting)
      → (answered setting_up ways.means.mic me free side (Some found) a).desk.out.accepted ≡ found.accepted
  heard_accepted setting_up me free a =
      let b : Acting = on_desk (under_seal found.accepted) a in
      let deed = deed_of setting_up found.told side found.place found.sent_at b in
      comes_accepted who ways.means boot counted side b.desk _
      (does who ways.means boot (unsure ways.means.mic) counted side deed me free side found.place found.sent_at b
      (quiet_deed (found.place == 0) setting_up found.told side found.place found.sent_at b) (λ no. absurd no) (λ no. absurd no))

  replied_accepted : (heard ways side message now c).desk.out.accepted ≡ found.accepted
  replied_accepted =
      let a = acting_at now c in
      let d = desk_at now c in
      let b = with_desk (taken ways.means message side d).1 a in
      let up = is_setting_up (site_at side d).mount in
      ap (λ (o : Option Found). (answered up ways.means.mic c.setting.me (free_number (second_at now c) c.back) side o b).desk.out.accepted) is
      ∙ heard_accepted up c.setting.me (free_number (second_at now c) c.back) b

  accepted_by : (to : Option Acting) (back : Acting → ContextTable ℕ) (v w : W) → StartsOwn who ways gives
      → GoesOn c.setting ways.means.mic ways.started gives (heard ways side message now c) v w to → (ended_by to back c).1.undrawn ≡ false
      → (ended_by to back c).1.accepted ≡ found.accepted
  accepted_by None back v w own on drawn = absurd cc
  accepted_by (Some a) back v w own on drawn =
      (goes_on who ways.means boot (unsure ways.means.mic) counted side c.setting ways.started gives (heard ways side message now c) v w a own (λ no. absurd no) (λ no. absurd no) (λ no. absurd no) on).accepted
      ∙ replied_accepted

  step_accepted : (back : Acting → ContextTable ℕ) (v w : W) (end : ClientState M × Outbox) → StartsOwn who ways gives
      → IsStep ways gives (heard ways side message now c) back c v w end → end.1.undrawn ≡ false → end.1.accepted ≡ found.accepted
  step_accepted back v w end own step drawn =
      ap (λ (e : ClientState M × Outbox). e.1.accepted) step.is
      ∙ accepted_by step.to back v w own step.goes_on (ap (λ (e : ClientState M × Outbox). e.1.undrawn) (sym step.is) ∙ drawn)

  judged_accepted : (o : Judged) (v w : W) (end : ClientState M × Outbox) → o ≡ judged.Reply → StartsOwn who ways gives → IsJudged o ways gives side message now c v w end
      → end.1.undrawn ≡ false → end.1.accepted ≡ found.accepted
  judged_accepted judged.Reply v w end reply own step drawn =
      step_accepted (λ (a : Acting). back_added ways.means.derived c.setting.me (second_at now c) a.desk.made c.back) v w end own step drawn
  judged_accepted judged.Unread v w end reply own step drawn = absurd cc
  judged_accepted (judged.Call call) v w end reply own step drawn = absurd cc

  pub answer_taken : (purpose : ℕ → Purpose) (v w : W) (d : ClientState M) (out : Outbox) (told : Reply) → StartsOwn who ways gives
      → IsTurn ways gives (Hears side message now) c v w (d, out) → out.undrawn ≡ false → IsBytes message → found.told ≡ told_as.Answer told
      → IsAnswerTaken who boot purpose side (Hears side message now) message c out found.place told
  answer_taken purpose v w d out told own step drawn all told_is =
      let m = mount_at side c in
      let f = found_so ways.means message (site_at side (desk_at now c)).mount found is in
      let same : f.found ≡ found = some_one f.found found (sym f.is ∙ is) in
      let mounts = site_mount side now c in
      let told_at = told_there ways.means message (site_at side (desk_at now c)).mount m f.found found mounts same f.told ∙ told_is in
      let accepted_at = accepted_there ways.means message (site_at side (desk_at now c)).mount m f.found found mounts same f.accepted in
      let a = knows.awaited ways.means found.place message m told all told_at in
      let reply = knows.replies ways.means.mic (second_at now c) programs.CALLBACK message c.back all a.is_reply in
      let accepted : out.accepted ≡ found.accepted = judged_accepted _ v w (d, out) reply own step drawn in
      answer_seen who boot purpose side message now c out found told ways.means a accepted_at accepted
