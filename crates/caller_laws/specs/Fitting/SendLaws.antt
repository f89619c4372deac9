-- Each call that goes out of a mount leaves one that is fit, and is bytes.
use Rattle.std.proofs.Common.{◌≡◌, ℕ, ◌+◌, ◌<◌, ◌≤◌, ◌^◌, Bool, true, false, List, Option, Some, None, refl, lit<, arith}
use Rattle.std.specs.Prelude.{◌==◌, IfSome, nat_lt, option_map, slice_index}
use Rattle.std.specs.List.{AllByRecursion}
use Rattle.std.proofs.lemmas.List.{length-append}
use Rattle.caller_laws.specs.Fitting.Asking.{AskedIsFit, BackChannelFits, SlotCallIsFit}
use Rattle.caller_laws.specs.Fitting.Bounds.{FixedFits, TextFits}
use Rattle.caller_laws.specs.Fitting.Fitting.{BeginningIsFit, ContextIsFit, MountIsFit, PendingIsFit, PlaceIsFit, SetupIsFit, StandingIsFit}
use Rattle.caller_laws.specs.Fitting.ListLaws.{changed_holds, found_holds, set_holds}
use Rattle.caller_laws.specs.Fitting.Moving.{GivesBytes, SendIsFit, SendsFit}
use Rattle.caller_laws.specs.Fitting.OperationLaws.{slot_fits, sole_fits}
use Rattle.caller_laws.specs.Fitting.SealedLaws.{call_are, init_are}
use Rattle.caller_laws.specs.Lawful.{asked_by}
use Rattle.caller_laws.specs.Moves.{Send, Begin, BeginAnew, SetUp, Reclaim, InSlot, Make, Finish, Again, sent_by}
use Rattle.gss_ctx.specs.Calls.{Side}
use Rattle.gss_ctx.specs.Forms.{create}
use Rattle.gss_ctx.specs.Seals.{Mic}
use Rattle.gss_mech.specs.BytesLaws.{glued, no_bytes, opaque_are, word_are}
use Rattle.mount.specs.Sending as sends
use Rattle.mount.specs.Sending.{awaits_anew, begun, begun_by, call_awaits, contexts_after, ended_in, ending_bare, ending_by, ending_call, ending_of, init_awaits, numbered, name_under, numbered_in, pending_under, sealed_so, sent_under, session_in, slot_asked, slot_asked_in, slotted, slotted_by, step_asked, stepped_in, under_anew}
use Rattle.mount.specs.State.{Mounted, awaited_at, awaiting_at, context_of, kept_in, root_name, setup_in}
use Rattle.mount.specs.declared.calling.Ending.{Ending}
use Rattle.mount.specs.declared.calling.Ending.TheVariants as endings
use Rattle.mount.specs.declared.machine.SendAt.{SendAt}
use Rattle.mount.specs.declared.machine.Sent as out
use Rattle.mount.specs.declared.state.Aim.{Aim}
use Rattle.mount.specs.declared.state.Aim.TheVariants as aims
use Rattle.mount.specs.declared.state.Awaiting.{Awaiting}
use Rattle.mount.specs.declared.state.Context.{Context}
use Rattle.mount.specs.declared.state.Pending.{Pending}
use Rattle.mount.specs.declared.state.Pending.TheVariants.{Init, Under}
use Rattle.mount.specs.declared.state.Standing.{Standing}
use Rattle.mount.specs.declared.state.Standing.TheVariants.{Down, Rooted}
use Rattle.mount.specs.declared.state.TheConstants.{PLACES}
use Rattle.nfs_base.specs.declared.limits.TheConstants.{NAME_LIMIT, PRIVILEGE_LIMIT}
use Rattle.session_calls.specs.declared.slot_call.SlotCall.{SlotCall}
use Rattle.session_calls.specs.declared.slot_call.SlotCall.TheVariants.{ReclaimComplete}
use Rattle.session_calls.specs.declared.sole_call.BackChannel.{BackChannel}
use Rattle.session_calls.specs.declared.sole_call.SoleCall.TheVariants as soles
use Rattle.session_client.specs.Asked.{args_of, called_if, called_under, create_args, kind_of}
use Rattle.session_client.specs.Pending.{Asking, Beginning, asking}
use Rattle.session_client.specs.declared.asked.Asked.{Asked}
use Rattle.session_client.specs.declared.asked.Asked.TheVariants as asks
use Rattle.session_client.specs.declared.sealing.SealedCall.{SealedCall}
use Rattle.session_client.specs.declared.setup.Setup.{Setup}
use Rattle.session_client.specs.declared.setup.Setup.TheVariants as setups
use Rattle.wire_xdr.specs.Cursor.{IsBytes}
use Rattle.wire_xdr.specs.LengthLaws.{opaque_bounded, word_length}

-- ---- what is asked

step_fits : (principal : List ℕ) (back : Option BackChannel) (setup : Setup) → TextFits NAME_LIMIT principal → IfSome back BackChannelFits → SetupIsFit setup
    → IfSome (step_asked principal back setup) AskedIsFit
step_fits principal back setups.Down p b h = tt
step_fits principal back (setups.Rooted verifier) p b h = sole_fits (soles.ExchangeId verifier principal) (h, p)
step_fits principal back (setups.Registered client sequence) p b h = sole_fits (soles.CreateSession client sequence back) (h.0, h.1, b)
step_fits principal back (setups.Joined client session) p b h = tt
step_fits principal back (setups.Up client session) p b h = tt

module _ (at : SendAt) (within : at.place < PLACES) (small : at.xid < 2 ^ 32) (calls : ℕ) (unused : calls < at.xid) where
  in_session : (numbers : List ℕ) (call : SlotCall) (session : List ℕ) → ((slot : ℕ) → slice_index numbers slot ≤ calls + 1) → SlotCallIsFit call → FixedFits 16 session
      → AskedIsFit (slot_asked at.place numbers call session)
  in_session numbers call session few fits h =
      let number = few at.place in
      slot_fits _ call (record { session = h; slot = omega arith; number = omega arith }) fits

  in_setup : (numbers : List ℕ) (call : SlotCall) (setup : Setup) → ((slot : ℕ) → slice_index numbers slot ≤ calls + 1) → SlotCallIsFit call → SetupIsFit setup
      → IfSome (option_map (slot_asked at.place numbers call) (session_in setup)) AskedIsFit
  in_setup numbers call setups.Down few fits h = tt
  in_setup numbers call (setups.Rooted verifier) few fits h = tt
  in_setup numbers call (setups.Registered client sequence) few fits h = tt
  in_setup numbers call (setups.Joined client session) few fits h = in_session numbers call session few fits h.1
  in_setup numbers call (setups.Up client session) few fits h = in_session numbers call session few fits h.1

  slot_asks : (call : SlotCall) (s : Standing) → SlotCallIsFit call → StandingIsFit calls s → IfSome (slot_asked_in at.place call s) AskedIsFit
  slot_asks call (Down kept) fits h = tt
  slot_asks call (Rooted root) fits h = in_setup root.numbers call root.setup h.numbers fits h.set_up

  -- the slot's number isn't given again
  numbers_fit : (s : Standing) → StandingIsFit calls s → StandingIsFit at.xid (numbered_in at.place s)
  numbers_fit (Down kept) h = h
  numbers_fit (Rooted root) h =
      let here = h.numbers at.place in
      record {
        set_up = h.set_up;
        numbers =
            set_holds (λ (n : ℕ). n ≤ at.xid + 1) 0 root.numbers at.place (slice_index root.numbers at.place + 1)
            (λ slot. let n = h.numbers slot in omega arith) (omega arith);
      }

create_fits : (name privilege : List ℕ) → TextFits NAME_LIMIT name → TextFits PRIVILEGE_LIMIT privilege → AskedIsFit (asks.Create (create_args name privilege))
unfolding create
create_fits name privilege n p =
    let one = opaque_bounded NAME_LIMIT (lit< tt) name n.short in
    let other = opaque_bounded PRIVILEGE_LIMIT (lit< tt) privilege p.short in
    record {
      fits = grind (arith, length-append, word_length);
      are_bytes = search (glued, word_are, opaque_are, n.are_bytes, p.are_bytes) depth 20;
    }

bare_fits : (ending : Ending) → IfSome (ending_bare ending) AskedIsFit
bare_fits endings.Session = tt
bare_fits endings.Client = tt
bare_fits endings.Context = record { fits = tt; are_bytes = no_bytes }

of_fits : (ending : Ending) (client : ℕ) (session : List ℕ) → client < 2 ^ 64 → FixedFits 16 session → IfSome (ending_by ending (ending_of ending client session)) AskedIsFit
of_fits endings.Session client session c s = sole_fits (soles.DestroySession session) s
of_fits endings.Client client session c s = sole_fits (soles.DestroyClientId client) c
of_fits endings.Context client session c s = record { fits = tt; are_bytes = no_bytes }

ending_fits : (ending : Ending) (setup : Setup) → SetupIsFit setup → IfSome (ending_call ending setup) AskedIsFit
ending_fits ending setups.Down h = bare_fits ending
ending_fits ending (setups.Rooted verifier) h = bare_fits ending
ending_fits ending (setups.Registered client sequence) h = bare_fits ending
ending_fits ending (setups.Joined client session) h = of_fits ending client session h.0 h.1
ending_fits ending (setups.Up client session) h = of_fits ending client session h.0 h.1

-- ---- how far the mount is

more_calls : (calls more : ℕ) (s : Standing) → calls ≤ more → StandingIsFit calls s → StandingIsFit more s
more_calls calls more (Down kept) le h = h
more_calls calls more (Rooted root) le h = record { set_up = h.set_up; numbers = λ slot. let n = h.numbers slot in omega arith }

pub setup_fits : (calls : ℕ) (s : Standing) → StandingIsFit calls s → IfSome (kept_in s) BeginningIsFit
setup_fits calls (Down kept) h = h
setup_fits calls (Rooted root) h = tt

-- ---- contexts

pub some_holds : {X : Type 0} (P : X → Type 0) (o : Option X) → ((x : X) → o ≡ Some x → P x) → IfSome o P
some_holds P None h = tt
some_holds P (Some x) h = h x refl

pub context_fits : (name : ℕ) (contexts : List Context) → AllByRecursion ContextIsFit contexts → IfSome (context_of name contexts) ContextIsFit
context_fits name contexts h =
    some_holds ContextIsFit (context_of name contexts) (λ c there. found_holds ContextIsFit (λ (c : Context). c.name == name) contexts c h there)

so_fits : (name : ℕ) (told : Option SealedCall) (side : Side) (contexts : List Context) → IsBytes side.handle → AllByRecursion ContextIsFit contexts
    → AllByRecursion ContextIsFit (sealed_so name told side contexts)
so_fits name None side contexts h all = all
so_fits name (Some call) side contexts h all =
    changed_holds ContextIsFit (λ (c : Context). c.name == name) (λ (c : Context). record c { caller = side }) contexts (λ c fit. record { handle = h; root = fit.root }) all

handle_after : (mic : Mic) (b : Bool) (side : Side) (xid : ℕ) (asked : Asked) → IsBytes side.handle → IsBytes (called_if b mic side xid asked).1.handle
handle_after mic true side xid asked h = h
handle_after mic false side xid asked h = h

after_fits : (mic : Mic) (name xid : ℕ) (asked : Asked) (o : Option Context) (contexts : List Context) → IfSome o ContextIsFit → AllByRecursion ContextIsFit contexts
    → AllByRecursion ContextIsFit (contexts_after mic name xid asked o contexts)
after_fits mic name xid asked None contexts h all = all
after_fits mic name xid asked (Some c) contexts h all =
    so_fits name (called_under mic c.caller xid asked).0 (called_under mic c.caller xid asked).1 contexts
    (handle_after mic (nat_lt c.caller.next 2147483648) c.caller xid asked h.handle) all

-- ---- a call goes out

-- the mount afterwards is fit, and what goes out is bytes
pub record OutFits (o : Option out.Sent × Mounted) : Type 0 where
  pub fits : MountIsFit o.1
  pub are_bytes : IfSome o.0 (λ (sent : out.Sent). IsBytes sent.bytes)

none_out : (m : Mounted) → MountIsFit m → OutFits (None, m)
none_out m h = record { fits = h; are_bytes = tt }

awaits_fit : (at : SendAt) (p : Pending) (m : Mounted) → MountIsFit m → m.calls ≤ at.xid → PendingIsFit p
    → MountIsFit (awaiting_at at.place (record { sent_at = at.now; pending = p }) (record m { calls = at.xid }))
awaits_fit at p m h le fit = record {
  contexts = h.contexts;
  standing = more_calls m.calls at.xid m.standing le h.standing;
  places = set_holds PlaceIsFit None m.places at.place (Some (record { sent_at = at.now; pending = p })) h.places fit;
}

init_out : (at : SendAt) (init : Beginning) (m : Mounted) → MountIsFit m → m.calls ≤ at.xid → BeginningIsFit init → OutFits (init_awaits at init m)
init_out at init m h le fit = record {
  fits = awaits_fit at (Init (record init { xid = at.xid })) m h le (record { nonce = fit.nonce; token = fit.token });
  are_bytes = init_are at.xid init.token fit.token;
}

down_fits : (m : Mounted) → MountIsFit m → MountIsFit (record m { standing = Down None })
down_fits m h = record { contexts = h.contexts; standing = tt; places = h.places }

begun_out : (at : SendAt) (nonce : List ℕ) (token : Option (List ℕ)) (m : Mounted) → MountIsFit m → m.calls ≤ at.xid → SendIsFit (Begin nonce token) → OutFits (begun at nonce token m)
begun_out at nonce None m h le fit = none_out m h
begun_out at nonce (Some token) m h le fit =
    init_out at (record { nonce = nonce; token = token; xid = at.xid }) (record m { standing = Down None }) (down_fits m h) le
    (record { nonce = fit.0; token = fit.1 })

kept_out : (at : SendAt) (kept : Option Beginning) (m : Mounted) → MountIsFit m → m.calls ≤ at.xid → IfSome kept BeginningIsFit → OutFits (begun_by at kept m)
kept_out at None m h le fit = none_out m h
kept_out at (Some init) m h le fit = init_out at init (record m { standing = Down None }) (down_fits m h) le fit

module _ (mic : Mic) (gives : GivesBytes mic) (at : SendAt) where
  called_are : (b : Bool) (side : Side) (asked : Asked) → IsBytes side.handle → IsBytes (args_of asked)
      → IfSome (called_if b mic side at.xid asked).0 (λ (call : SealedCall). IsBytes call.bytes)
  called_are true side asked h a = call_are mic side at.xid (kind_of asked) (args_of asked) gives h a
  called_are false side asked h a = tt

  under_are : (asked : Asked) (o : Option Context) → IfSome o ContextIsFit → IsBytes (args_of asked)
      → IfSome (sends.call_under mic at.xid asked o) (λ (call : SealedCall). IsBytes call.bytes)
  under_are asked None h a = tt
  under_are asked (Some c) h a = called_are (nat_lt c.caller.next 2147483648) c.caller asked h.handle a

  awaits_out : (context : ℕ) (aim : Aim) (asked : Asked) (call : Option SealedCall) (m : Mounted) → MountIsFit m → m.calls ≤ at.xid → AskedIsFit asked
      → IfSome call (λ (c : SealedCall). IsBytes c.bytes) → OutFits (call_awaits at context aim asked call m)
  awaits_out context aim asked None m h le fit are = none_out m h
  awaits_out context aim asked (Some call) m h le fit are = record { fits = awaits_fit at (Under context aim (asking asked call)) m h le fit; are_bytes = are }

  -- the mount with the contexts afterwards
  sealed_fits : (context : ℕ) (asked : Asked) (m : Mounted) → MountIsFit m
      → MountIsFit (record m { contexts = contexts_after mic context at.xid asked (context_of context m.contexts) m.contexts })
  sealed_fits context asked m h = record {
    contexts = after_fits mic context at.xid asked (context_of context m.contexts) m.contexts (context_fits context m.contexts h.contexts) h.contexts;
    standing = h.standing;
    places = h.places;
  }

  under_out : (context : ℕ) (aim : Aim) (asked : Asked) (m : Mounted) → MountIsFit m → m.calls ≤ at.xid → AskedIsFit asked → OutFits (sent_under mic at context aim asked m)
  under_out context aim asked m h le fit =
      awaits_out context aim asked (sends.call_under mic at.xid asked (context_of context m.contexts)) _ (sealed_fits context asked m h) le fit
      (under_are asked (context_of context m.contexts) (context_fits context m.contexts h.contexts) fit.are_bytes)

  by_out : (context : Option ℕ) (aim : Aim) (asked : Option Asked) (m : Mounted) → MountIsFit m → m.calls ≤ at.xid → IfSome asked AskedIsFit
      → OutFits (sends.sent_by mic at context aim asked m)
  by_out None aim asked m h le fit = none_out m h
  by_out (Some context) aim None m h le fit = none_out m h
  by_out (Some context) aim (Some asked) m h le fit = under_out context aim asked m h le fit

  stepped_out : (principal : List ℕ) (back : Option BackChannel) (s : Standing) (m : Mounted) → MountIsFit m → m.calls ≤ at.xid
      → TextFits NAME_LIMIT principal → IfSome back BackChannelFits → StandingIsFit m.calls s → OutFits (stepped_in mic at principal back s m)
  stepped_out principal back (Down kept) m h le p b fit = none_out m h
  stepped_out principal back (Rooted root) m h le p b fit =
      by_out (Some root.name) aims.Setup (step_asked principal back root.setup) m h le (step_fits principal back root.setup p b fit.set_up)

  ended_out : (ending : Ending) (s : Standing) (m : Mounted) → MountIsFit m → m.calls ≤ at.xid → StandingIsFit m.calls s → OutFits (ended_in mic at ending s m)
  ended_out ending (Down kept) m h le fit = none_out m h
  ended_out ending (Rooted root) m h le fit = by_out (Some root.name) aims.End (ending_call ending root.setup) m h le (ending_fits ending root.setup fit.set_up)

  -- ---- in a slot, whose number isn't given again

  module _ (within : at.place < PLACES) (small : at.xid < 2 ^ 32) where
    numbered_out : (context : ℕ) (aim : Aim) (asked : Asked) (call : Option SealedCall) (m : Mounted) → MountIsFit m → m.calls < at.xid → AskedIsFit asked
        → IfSome call (λ (c : SealedCall). IsBytes c.bytes) → OutFits (slotted_by at.place (call_awaits at context aim asked call m))
    numbered_out context aim asked None m h lt fit are = none_out m h
    numbered_out context aim asked (Some call) m h lt fit are =
        let w = awaits_fit at (Under context aim (asking asked call)) m h (omega arith) fit in
        record {
          fits = record { contexts = w.contexts; standing = numbers_fit at within small m.calls lt m.standing h.standing; places = w.places };
          are_bytes = are;
        }

    slotted_out : (context : Option ℕ) (aim : Aim) (asked : Option Asked) (m : Mounted) → MountIsFit m → m.calls < at.xid → IfSome asked AskedIsFit
        → OutFits (slotted_by at.place (sends.sent_by mic at context aim asked m))
    slotted_out None aim asked m h lt fit = none_out m h
    slotted_out (Some context) aim None m h lt fit = none_out m h
    slotted_out (Some context) aim (Some asked) m h lt fit =
        numbered_out context aim asked (sends.call_under mic at.xid asked (context_of context m.contexts)) _ (sealed_fits context asked m h) lt fit
        (under_are asked (context_of context m.contexts) (context_fits context m.contexts h.contexts) fit.are_bytes)

  -- ---- what is awaited goes out again

  anew_under : (context : ℕ) (aim : Aim) (call : Asking) (o : Option SealedCall) (contexts : List Context) (m : Mounted) → MountIsFit m → m.calls ≤ at.xid
      → AllByRecursion ContextIsFit contexts → AskedIsFit call.asked → IfSome o (λ (c : SealedCall). IsBytes c.bytes)
      → OutFits (awaits_anew at (under_anew o) contexts (pending_under context aim call o) m)
  anew_under context aim call None contexts m h le all fit are = none_out m h
  anew_under context aim call (Some sealed) contexts m h le all fit are = record {
    fits = awaits_fit at (Under context aim (asking call.asked sealed)) (record m { contexts = contexts })
        (record { contexts = all; standing = h.standing; places = h.places }) le fit;
    are_bytes = are;
  }

  pending_out : (p : Pending) (m : Mounted) → MountIsFit m → m.calls ≤ at.xid → PendingIsFit p
      → OutFits (awaits_anew at (sends.out_anew mic at.xid m.contexts p) (sends.contexts_anew mic at.xid m.contexts p) (sends.pending_anew mic at.xid m.contexts p) m)
  pending_out (Init init) m h le fit = record {
    fits = awaits_fit at (Init (record init { xid = at.xid })) m h le (record { nonce = fit.nonce; token = fit.token });
    are_bytes = init_are at.xid init.token fit.token;
  }
  pending_out (Under context aim call) m h le fit =
      anew_under context aim call (sends.call_under mic at.xid call.asked (context_of context m.contexts)) _ m h le
      (sealed_fits context call.asked m h).contexts fit
      (under_are call.asked (context_of context m.contexts) (context_fits context m.contexts h.contexts) fit.are_bytes)

  again_out : (o : Option Awaiting) (m : Mounted) → MountIsFit m → m.calls ≤ at.xid → PlaceIsFit o → OutFits (sends.sent_anew mic at o m)
  again_out None m h le fit = none_out m h
  again_out (Some a) m h le fit = pending_out a.pending m h le fit

-- ---- whatever is sent

pub sent_fits : (mic : Mic) (at : SendAt) (send : Send) (m : Mounted) → GivesBytes mic → MountIsFit m → SendsFit m at send → OutFits (sent_by mic at send m)
sent_fits mic at (Begin nonce token) m gives h s = let lt = s.unused in begun_out at nonce token m h (omega arith) s.fits
sent_fits mic at BeginAnew m gives h s = let lt = s.unused in kept_out at (kept_in m.standing) m h (omega arith) (setup_fits m.calls m.standing h.standing)
sent_fits mic at (SetUp principal back) m gives h s =
    let lt = s.unused in stepped_out mic gives at principal back m.standing m h (omega arith) s.fits.0 s.fits.1 h.standing
sent_fits mic at Reclaim m gives h s =
    slotted_out mic gives at s.place s.small (root_name m.standing) aims.Setup _ m h s.unused (slot_asks at s.place s.small m.calls s.unused ReclaimComplete m.standing tt h.standing)
sent_fits mic at (InSlot under call) m gives h s =
    slotted_out mic gives at s.place s.small (name_under under m) aims.Slot _ m h s.unused (slot_asks at s.place s.small m.calls s.unused call m.standing s.fits h.standing)
sent_fits mic at (Make child name privilege) m gives h s =
    let lt = s.unused in by_out mic gives at (root_name m.standing) (aims.Child child) (Some (asks.Create (create_args name privilege))) m h (omega arith) (create_fits name privilege s.fits.0 s.fits.1)
sent_fits mic at (Finish ending) m gives h s = let lt = s.unused in ended_out mic gives at ending m.standing m h (omega arith) h.standing
sent_fits mic at Again m gives h s = let lt = s.unused in again_out mic gives at (awaited_at m at.place) m h (omega arith) (h.places at.place)

-- ---- whatever is asked

set_up_asks : (principal : List ℕ) (back : Option BackChannel) (calls : ℕ) (s : Standing) → TextFits NAME_LIMIT principal → IfSome back BackChannelFits → StandingIsFit calls s
    → IfSome (step_asked principal back (setup_in s)) AskedIsFit
set_up_asks principal back calls (Down kept) p b h = tt
set_up_asks principal back calls (Rooted root) p b h = step_fits principal back root.setup p b h.set_up

finish_asks : (ending : Ending) (calls : ℕ) (s : Standing) → StandingIsFit calls s → IfSome (ending_call ending (setup_in s)) AskedIsFit
finish_asks ending calls (Down kept) h = bare_fits ending
finish_asks ending calls (Rooted root) h = ending_fits ending root.setup h.set_up

pub asks_fit : (at : SendAt) (send : Send) (m : Mounted) → MountIsFit m → SendsFit m at send → IfSome (asked_by at send m) AskedIsFit
asks_fit at (Begin nonce token) m h s = tt
asks_fit at BeginAnew m h s = tt
asks_fit at (SetUp principal back) m h s = set_up_asks principal back m.calls m.standing s.fits.0 s.fits.1 h.standing
asks_fit at Reclaim m h s = slot_asks at s.place s.small m.calls s.unused ReclaimComplete m.standing tt h.standing
asks_fit at (InSlot under call) m h s = slot_asks at s.place s.small m.calls s.unused call m.standing s.fits h.standing
asks_fit at (Make child name privilege) m h s = create_fits name privilege s.fits.0 s.fits.1
asks_fit at (Finish ending) m h s = finish_asks ending m.calls m.standing h.standing
asks_fit at Again m h s = tt
