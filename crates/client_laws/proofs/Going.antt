-- At which places what is awaited goes out again, and how far a setup is behind a call of it.
use Rattle.std.proofs.Common.{◌≡◌, ◌∙◌, ℕ, ◌+◌, ◌≤◌, Bool, true, false, List, [], ◌∷◌, Option, Some, None, refl, ap, lit≤, arith}
use Rattle.std.specs.Prelude.{◌&&◌, not}
use Rattle.client_site.specs.Sending.{may_go, sent_if}
use Rattle.client_site.specs.declared.site.Site.{Site}
use Rattle.client_steps.specs.Calling as calling
use Rattle.client_steps.specs.CopySteps.{all_copies}
use Rattle.client_steps.specs.Desks.{send_at, sent_out, site_at, with_site}
use Rattle.client_steps.specs.Replies as replies
use Rattle.client_steps.specs.declared.desk.Desk.{Desk}
use Rattle.gss_ctx.specs.Seals.{Mic}
use Rattle.mount.specs.Sending as sending
use Rattle.mount.specs.State.{Mounted, is_setting_up, root_name, setup_in}
use Rattle.mount.specs.declared.machine.SendAt.{SendAt}
use Rattle.mount.specs.declared.machine.Sent.{Sent}
use Rattle.mount.specs.declared.state.Aim.{Aim}
use Rattle.mount.specs.declared.state.Aim.TheVariants as aims
use Rattle.mount.specs.declared.state.Standing.{Standing}
use Rattle.mount.specs.declared.state.Standing.TheVariants.{Down, Rooted}
use Rattle.nfs_base.specs.declared.side.Side.{Side}
use Rattle.nfs_base.specs.declared.side.Side.TheVariants.{Source, Dest}
use Rattle.outbox.specs.declared.label.CallLabel.{CallLabel}
use Rattle.session_calls.specs.declared.slot_call.SlotCall.TheVariants.{ReclaimComplete}
use Rattle.session_calls.specs.declared.sole_call.BackChannel.{BackChannel}
use Rattle.session_client.specs.declared.asked.Asked.{Asked}
use Rattle.session_client.specs.declared.sealing.SealedCall.{SealedCall}
use Rattle.client_laws.proofs.MountMoves.{mount_in}

-- ---- places upwards

abbrev pub Rise : ℕ → List ℕ → Type 0
Rise low [] = Unit {0}
Rise low (j ∷ js) = (low ≤ j) × Rise (j + 1) js

abbrev pub end_of : ℕ → List ℕ → ℕ
end_of low [] = low
end_of low (j ∷ js) = end_of (j + 1) js

pub copies_rise : Rise 1 all_copies
copies_rise =
    (lit≤ tt, (lit≤ tt, (lit≤ tt, (lit≤ tt, (lit≤ tt, (lit≤ tt, (lit≤ tt, (lit≤ tt, (lit≤ tt, (lit≤ tt, (lit≤ tt, (lit≤ tt, (lit≤ tt, (lit≤ tt, (lit≤ tt, tt)))))))))))))))

-- a copy's call at the destination goes first
abbrev pub behind_dest : Side → ℕ → ℕ
behind_dest Source j = j
behind_dest Dest j = j + 1

pub from_low : (side : Side) (low j : ℕ) → low ≤ j → low ≤ behind_dest side j
from_low Source low j le = le
from_low Dest low j le = omega arith

pub to_next : (side : Side) (j : ℕ) → behind_dest side j ≤ j + 1
to_next Source j = omega arith
to_next Dest j = omega arith

apart : {A : Type 0} → Source ≡ Dest → A
apart e = absurd cc

apart_too : {A : Type 0} → Dest ≡ Source → A
apart_too e = absurd cc

pub dest_within : (side : Side) (j : ℕ) → side ≡ Dest → j + 1 ≤ behind_dest side j
dest_within Source j here = apart here
dest_within Dest j here = omega arith

pub source_within : (side : Side) (j : ℕ) → side ≡ Source → behind_dest side j ≤ j
source_within Source j here = omega arith
source_within Dest j here = apart_too here

-- place 0 is that of the setup, or of the queue
abbrev behind_if : Bool → ℕ
behind_if true = 1
behind_if false = 0

abbrev pub behind_first : Side → Bool → ℕ
behind_first Source source = behind_if source
behind_first Dest source = 0

abbrev pub behind_second : Side → Bool → Bool → ℕ
behind_second Source source dest = behind_if source
behind_second Dest source dest = behind_if dest

abbrev pub behind_third : Side → Bool → ℕ
behind_third Source dest = 1
behind_third Dest dest = behind_if dest

pub rises_first : (side : Side) (source : Bool) → 0 ≤ behind_first side source
rises_first Source true = lit≤ tt
rises_first Source false = lit≤ tt
rises_first Dest source = lit≤ tt

pub rises_second : (side : Side) (source dest : Bool) → behind_first side source ≤ behind_second side source dest
rises_second Source true dest = lit≤ tt
rises_second Source false dest = lit≤ tt
rises_second Dest source true = lit≤ tt
rises_second Dest source false = lit≤ tt

pub rises_third : (side : Side) (source dest : Bool) → behind_second side source dest ≤ behind_third side dest
rises_third Source true dest = lit≤ tt
rises_third Source false dest = lit≤ tt
rises_third Dest source true = lit≤ tt
rises_third Dest source false = lit≤ tt

pub rises_last : (side : Side) (dest : Bool) → behind_third side dest ≤ 1
rises_last Source dest = lit≤ tt
rises_last Dest true = lit≤ tt
rises_last Dest false = lit≤ tt

pub first_within : (side : Side) (source : Bool) → source ≡ true → side ≡ Source → (0 ≤ 0) × (0 + 1 ≤ behind_first side source)
first_within Source true so here = (lit≤ tt, lit≤ tt)
first_within Source false so here = absurd cc
first_within Dest source so here = apart_too here

pub second_within : (side : Side) (source dest : Bool) → dest ≡ true → side ≡ Dest → (behind_first side source ≤ 0) × (0 + 1 ≤ behind_second side source dest)
second_within Source source dest so here = apart here
second_within Dest source true so here = (lit≤ tt, lit≤ tt)
second_within Dest source false so here = absurd cc

pub third_within : (side : Side) (source dest : Bool) → not source ≡ true → side ≡ Source → (behind_second side source dest ≤ 0) × (0 + 1 ≤ behind_third side dest)
third_within Source true dest so here = absurd cc
third_within Source false dest so here = (lit≤ tt, lit≤ tt)
third_within Dest source dest so here = apart_too here

pub last_within : (side : Side) (dest : Bool) → not dest ≡ true → side ≡ Dest → (behind_third side dest ≤ 0) × (0 + 1 ≤ 1)
last_within Source dest so here = apart here
last_within Dest true so here = absurd cc
last_within Dest false so here = (lit≤ tt, lit≤ tt)

-- ---- how far the setup is, behind a call of it

pub called_standing : (at : SendAt) (context : ℕ) (aim : Aim) (asked : Asked) (o : Option SealedCall) (m : Mounted) → (sending.call_awaits at context aim asked o m).1.standing ≡ m.standing
called_standing at context aim asked None m = refl
called_standing at context aim asked (Some call) m = refl

pub asked_standing : (mic : Mic) (at : SendAt) (context : Option ℕ) (aim : Aim) (asked : Option Asked) (m : Mounted) → (sending.sent_by mic at context aim asked m).1.standing ≡ m.standing
asked_standing mic at None aim asked m = refl
asked_standing mic at (Some context) aim None m = refl
asked_standing mic at (Some context) aim (Some asked) m =
    called_standing at context aim asked (sending.sealed_by mic context at.xid asked m.contexts).0 (record m { contexts = (sending.sealed_by mic context at.xid asked m.contexts).1 })

pub stepped_standing : (mic : Mic) (at : SendAt) (me : List ℕ) (back : Option BackChannel) (st : Standing) (m : Mounted) → (sending.stepped_in mic at me back st m).1.standing ≡ m.standing
stepped_standing mic at me back (Down kept) m = refl
stepped_standing mic at me back (Rooted root) m = asked_standing mic at (Some root.name) aims.Setup (sending.step_asked me back root.setup) m

if_standing : (b : Bool) (o : Option Sent × Mounted) (m : Mounted) → o.1.standing ≡ m.standing → (sent_if b o m).1.standing ≡ m.standing
if_standing true o m same = same
if_standing false o m same = refl

numbered_setup : (slot : ℕ) (st : Standing) → setup_in (sending.numbered_in slot st) ≡ setup_in st
numbered_setup slot (Down kept) = refl
numbered_setup slot (Rooted root) = refl

slotted_setup : (slot : ℕ) (o : Option Sent) (m : Mounted) → setup_in (sending.numbered slot o m).1.standing ≡ setup_in m.standing
slotted_setup slot None m = refl
slotted_setup slot (Some sent) m = numbered_setup slot m.standing

if_setup : (b : Bool) (o : Option Sent × Mounted) (m : Mounted) → setup_in o.1.standing ≡ setup_in m.standing → setup_in (sent_if b o m).1.standing ≡ setup_in m.standing
if_setup true o m same = same
if_setup false o m same = refl

put_mount : (there : Side) (label : CallLabel) (o : Option Sent) (s : Site) (d : Desk) → mount_in there (sent_out there label o (with_site there s d)) ≡ s.mount
put_mount Source label None s d = refl
put_mount Source label (Some sent) s d = refl
put_mount Dest label None s d = refl
put_mount Dest label (Some sent) s d = refl

pub stepped_setup : (mic : Mic) (me : List ℕ) (there : Side) (back : Option BackChannel) (label : CallLabel) (d : Desk)
    → setup_in (mount_in there (calling.step_sent mic me there back label d).1).standing ≡ setup_in (mount_in there d).standing
stepped_setup mic me there back label d =
    let at = send_at 0 d in
    let m = mount_in there d in
    let b = not (is_setting_up m) && may_go at m in
    let o = sent_if b (sending.stepped_in mic at me back m.standing m) m in
    ap (λ (x : Mounted). setup_in x.standing) (put_mount there label o.0 (record (site_at there d) { mount = o.1 }) d)
    ∙ ap setup_in (if_standing b (sending.stepped_in mic at me back m.standing m) m (stepped_standing mic at me back m.standing m))

pub reclaimed_setup : (mic : Mic) (there : Side) (d : Desk) → setup_in (mount_in there (calling.reclaim_sent mic there d).1).standing ≡ setup_in (mount_in there d).standing
reclaimed_setup mic there d =
    let at = send_at 0 d in
    let m = mount_in there d in
    let b = may_go at m in
    let made = sending.slotted mic at (root_name m.standing) aims.Setup ReclaimComplete m in
    let o = sent_if b made m in
    let called = sending.sent_by mic at (root_name m.standing) aims.Setup (sending.slot_asked_in at.place ReclaimComplete m.standing) m in
    ap (λ (x : Mounted). setup_in x.standing) (put_mount there _ o.0 (record (site_at there d) { mount = o.1 }) d)
    ∙ if_setup b made m
    (slotted_setup at.place called.0 called.1 ∙ ap setup_in (asked_standing mic at (root_name m.standing) aims.Setup (sending.slot_asked_in at.place ReclaimComplete m.standing) m))

pub back_setup : (b : Bool) (free : Option ℕ) (root : Option (List ℕ × List ℕ)) (there : Side) (d : Desk)
    → setup_in (mount_in there (replies.back_if b free root there d)).standing ≡ setup_in (mount_in there d).standing
back_setup false free root there d = refl
back_setup true None root there d = refl
back_setup true (Some number) None there d = refl
back_setup true (Some number) (Some root) Source d = refl
back_setup true (Some number) (Some root) Dest d = refl
