-- Calls that ask what is fit leave a desk that is.
use Rattle.std.proofs.Common.{◌≡◌, ℕ, ◌<◌, ◌^◌, Bool, true, false, List, length, Option, Some, None, refl, lit<, arith}
use Rattle.std.specs.Prelude.{◌&&◌, IfSome, is_none, nat_le, nat_lt, not}
use Rattle.std.specs.List.{AllByRecursion}
use Rattle.std.proofs.lemmas.Bool.{and_parts, leb-true, ltb-true}
use Rattle.std.proofs.lemmas.List.{length-append}
use Rattle.caller_laws.specs.Fitting.Asking.{BackChannelFits, SlotCallIsFit}
use Rattle.caller_laws.specs.Fitting.Bounds.{TextFits}
use Rattle.caller_laws.specs.Fitting.Fitting.{ContextIsFit}
use Rattle.caller_laws.specs.Fitting.Moving.{GivesBytes, SendIsFit, SendsFit}
use Rattle.caller_laws.specs.Fitting.SendLaws as mounts
use Rattle.caller_laws.specs.Moves.{Send, Begin, SetUp, Reclaim, InSlot, Make, Again, sent_by}
use Rattle.client_laws.specs.Bounds.DeskLaws.{put_fits, site_fits}
use Rattle.client_laws.specs.Bounds.Known.{DeskIsFit, SiteIsFit}
use Rattle.client_site.specs.Sending.{at_site, back_channel, back_under, is_down, may_begin, may_go, sent_if}
use Rattle.client_site.specs.declared.site.Site.{Site}
use Rattle.client_steps.specs.Calling.{again_sent, begin_sent, call_sent, create_if, create_sent, reclaim_sent, slot_sent, step_sent}
use Rattle.client_steps.specs.Desks.{next_xid, send_at, site_at}
use Rattle.client_steps.specs.declared.desk.Desk.{Desk}
use Rattle.copy_privs.specs.Forms.{privilege_name, privilege_spell}
use Rattle.copy_privs.specs.declared.privilege.Privilege.{Privilege}
use Rattle.gss_ctx.specs.Seals.{Mic}
use Rattle.gss_mech.specs.BytesLaws.{glued, word_are}
use Rattle.mount.specs.State.{Mounted, awaited_at, has_numbers, is_setting_up, named, root_context, root_name, setup_in}
use Rattle.mount.specs.declared.calling.Under.{Under}
use Rattle.mount.specs.declared.machine.SendAt.{SendAt}
use Rattle.mount.specs.declared.state.Context.{Context}
use Rattle.mount.specs.declared.state.TheConstants.{PLACES}
use Rattle.nfs_base.specs.declared.limits.TheConstants.{NAME_LIMIT, PRIVILEGE_LIMIT}
use Rattle.nfs_base.specs.declared.side.Side.{Side}
use Rattle.outbox.specs.declared.label.CallLabel.{CallLabel}
use Rattle.session_calls.specs.declared.slot_call.SlotCall.{SlotCall}
use Rattle.session_calls.specs.declared.sole_call.BackChannel.{BackChannel}
use Rattle.wire_xdr.specs.Cursor.{IsBytes}
use Rattle.wire_xdr.specs.LengthLaws.{word_length}
use Rattle.wire_xdr.specs.Words.{word_bytes}

-- ---- what a site's tests say

second_of : (a b c : Bool) → (a && b && c) ≡ true → b ≡ true
second_of true true c e = refl
second_of true false true e = absurd cc
second_of true false false e = absurd cc
second_of false true true e = absurd cc
second_of false true false e = absurd cc
second_of false false true e = absurd cc
second_of false false false e = absurd cc

third_of : (a b c : Bool) → (a && b && c) ≡ true → c ≡ true
third_of true true true e = refl
third_of a b false e = absurd (never a b e)
  where
    never : (a b : Bool) → (a && b && false) ≡ true → ⊥
    never true true e = cc
    never true false e = cc
    never false true e = cc
    never false false e = cc
third_of true false true e = refl
third_of false true true e = refl
third_of false false true e = refl

unused : (at : SendAt) (m : Mounted) → may_go at m ≡ true → m.calls < at.xid
unused at m e = ltb-true m.calls at.xid (second_of (is_none (awaited_at m at.place)) (nat_lt m.calls at.xid) (has_numbers m.standing at.place) e)

pub xid_small : (calls : ℕ) → next_xid calls < 2 ^ 32
xid_small calls = grind arith

-- ---- a call goes out at a site, or none

module _ (mic : Mic) (gives : GivesBytes mic) where
  by_fits : (at : SendAt) (send : Send) (s : Site) → SendsFit s.mount at send → SiteIsFit s → SiteIsFit (at_site s (sent_by mic at send s.mount)).1
  by_fits at send s fit h = record { mount = (mounts.sent_fits mic at send s.mount gives h.mount fit).fits; files = h.files }

  if_fits : (b : Bool) (at : SendAt) (send : Send) (s : Site) → (b ≡ true → SendsFit s.mount at send) → SiteIsFit s
      → SiteIsFit (at_site s (sent_if b (sent_by mic at send s.mount) s.mount)).1
  if_fits true at send s fit h = by_fits at send s (fit refl) h
  if_fits false at send s fit h = record { mount = h.mount; files = h.files }

  module _ (side : Side) (place : ℕ) (d : Desk) (within : place < PLACES) where
    goes : (send : Send) → SendIsFit send → may_go (send_at place d) (site_at side d).mount ≡ true → SendsFit (site_at side d).mount (send_at place d) send
    goes send fit e = record { place = within; unused = unused (send_at place d) (site_at side d).mount e; small = xid_small d.calls; fits = fit }

    slot_fits : (under : Under) (call : SlotCall) → SlotCallIsFit call → DeskIsFit d → DeskIsFit (slot_sent mic side place under call d).1
    slot_fits under call fit h =
        put_fits side _ _ d
        (if_fits (may_go (send_at place d) (site_at side d).mount) (send_at place d) (InSlot under call) (site_at side d) (λ e. goes (InSlot under call) fit e)
        (site_fits side d h)) h

    pub call_fits : (under : Under) (o : Option SlotCall) → IfSome o SlotCallIsFit → DeskIsFit d → DeskIsFit (call_sent mic side place under o d).1
    call_fits under None fit h = h
    call_fits under (Some call) fit h = slot_fits under call fit h

    create_if_fits : (b : Bool) (p : Privilege) → (b ≡ true → TextFits PRIVILEGE_LIMIT (privilege_spell p)) → TextFits NAME_LIMIT (privilege_name p) → DeskIsFit d
        → DeskIsFit (create_if b mic side place p d).1
    create_if_fits false p fit name h = h
    create_if_fits true p fit name h =
        let send = Make place (privilege_name p) (privilege_spell p) in
        put_fits side _ _ d
        (if_fits (may_go (send_at place d) (site_at side d).mount) (send_at place d) send (site_at side d) (λ e. goes send (name, fit refl) e) (site_fits side d h)) h

    pub create_fits : (p : Privilege) → IsBytes (privilege_spell p) → TextFits NAME_LIMIT (privilege_name p) → DeskIsFit d → DeskIsFit (create_sent mic side place p d).1
    create_fits p are name h =
        create_if_fits (nat_le (length (privilege_spell p)) PRIVILEGE_LIMIT) p
        (λ e. record { short = leb-true (length (privilege_spell p)) PRIVILEGE_LIMIT e; are_bytes = are }) name h

    pub again_fits : (label : CallLabel) → DeskIsFit d → DeskIsFit (again_sent mic side place label d)
    again_fits label h =
        let m = (site_at side d).mount in
        put_fits side label _ d
        (if_fits (nat_lt m.calls (send_at place d).xid) (send_at place d) Again (site_at side d)
        (λ e. record { place = within; unused = ltb-true m.calls (send_at place d).xid e; small = xid_small d.calls; fits = tt }) (site_fits side d h)) h

  -- ---- the setup, at the first place

  first : 0 < PLACES
  first = lit< tt

  pub step_fits : (side : Side) (me : List ℕ) (back : Option BackChannel) (label : CallLabel) (d : Desk) → TextFits NAME_LIMIT me → IfSome back BackChannelFits
      → DeskIsFit d → DeskIsFit (step_sent mic me side back label d).1
  step_fits side me back label d m b h =
      let s = site_at side d in
      put_fits side label _ d
      (if_fits (not (is_setting_up s.mount) && may_go (send_at 0 d) s.mount) (send_at 0 d) (SetUp me back) s
      (λ e. goes side 0 d first (SetUp me back) (m, b) (and_parts (not (is_setting_up s.mount)) (may_go (send_at 0 d) s.mount) e).1) (site_fits side d h)) h

  pub reclaim_fits : (side : Side) (d : Desk) → DeskIsFit d → DeskIsFit (reclaim_sent mic side d).1
  reclaim_fits side d h =
      let s = site_at side d in
      put_fits side _ _ d (if_fits (may_go (send_at 0 d) s.mount) (send_at 0 d) Reclaim s (λ e. goes side 0 d first Reclaim tt e) (site_fits side d h)) h

  pub begin_fits : (side : Side) (nonce : List ℕ) (token : Option (List ℕ)) (d : Desk) → SendIsFit (Begin nonce token) → may_begin (send_at 0 d) (site_at side d).mount ≡ true
      → DeskIsFit d → DeskIsFit (begin_sent nonce token side d).1
  begin_fits side nonce token d fit may h =
      let s = site_at side d in
      let m = s.mount in
      put_fits side _ _ d
      (by_fits (send_at 0 d) (Begin nonce token) s
      (goes side 0 d first (Begin nonce token) fit (third_of (not (is_setting_up m)) (is_down (setup_in m.standing)) (may_go (send_at 0 d) m) may)) (site_fits side d h)) h

-- ---- the context under which a server is to call back

named_fits : (o : Option ℕ) (contexts : List Context) → AllByRecursion ContextIsFit contexts → IfSome (named o contexts) ContextIsFit
named_fits None contexts h = tt
named_fits (Some name) contexts h = mounts.context_fits name contexts h

under_fits : (number : ℕ) (o : Option Context) → IfSome o ContextIsFit → IfSome (back_under number o) BackChannelFits
under_fits number None h = tt
under_fits number (Some c) h = record {
  from_server = h.root;
  from_client = record {
    size_is = omega (arith, length-append (word_bytes 0) (word_bytes number), word_length 0, word_length number);
    are_bytes = glued (word_bytes 0) (word_bytes number) (word_are 0) (word_are number);
  };
}

pub back_fits : (free : Option ℕ) (s : Site) → SiteIsFit s → IfSome (back_channel free s) BackChannelFits
back_fits None s h = tt
back_fits (Some number) s h = under_fits number (root_context s.mount) (named_fits (root_name s.mount.standing) s.mount.contexts h.mount.contexts)
