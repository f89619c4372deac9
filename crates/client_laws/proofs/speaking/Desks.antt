-- What is done over a desk leaves what is awaited at each place: what happens to a copy, and what goes out.
use Rattle.std.proofs.Common.{◌≡◌, ◌≢◌, ◌∙◌, ℕ, ◌<◌, Bool, true, false, List, length, Option, Some, None, refl, sym, ap, subst, inl, inr, ◌⊎◌, lit<}
use Rattle.std.specs.Prelude.{is_some, nat_lt, not, ◌&&◌}
use Rattle.std.proofs.lemmas.Bool.{cases_eq}
use Rattle.caller_laws.specs.Moves.{InSlot, Make, Reclaim, SetUp}
use Rattle.caller_laws.specs.OneStep.Counting.{Counted}
use Rattle.client_copies.specs.Steps.{after}
use Rattle.client_copies.specs.Table.{Copies, copy_after, copy_at, said_of, told_at}
use Rattle.client_copies.specs.declared.copy.ClientCopy.{ClientCopy}
use Rattle.client_copies.specs.declared.event.Event.{Event}
use Rattle.client_copies.specs.declared.held.HeldOffload.{HeldOffload}
use Rattle.client_copies.specs.declared.told.Said.{Said}
use Rattle.client_copies.specs.declared.told.Said.TheVariants.{Nothing, One, Two}
use Rattle.client_laws.proofs.speaking.Leaving.{Leaves, own_stays}
use Rattle.client_laws.proofs.speaking.Mounts.{Awaits, IsCalled, IsSlotted, IsUp, again_placed, begin_placed, child_goes, none_some, placed_more, rooted_idle, slot_goes, step_goes}
use Rattle.client_laws.specs.Speaking.Places.{AllPlaced, FitsCopy, FitsFirst, FitsOwn, IsPlaced}
use Rattle.client_laws.specs.TableLaws.{copy_kept, copy_written}
use Rattle.client_site.specs.Sending.{at_site, is_down, may_begin, may_go, sent_if}
use Rattle.client_site.specs.declared.site.Site.{Site}
use Rattle.client_steps.specs.Calling as calling
use Rattle.client_steps.specs.Desks.{put_out, said_by, send_at, sent_out, site_at, told_to, with_site}
use Rattle.client_steps.specs.declared.desk.Desk.{Desk}
use Rattle.copy_privs.specs.Forms.{privilege_name, privilege_spell}
use Rattle.copy_privs.specs.declared.privilege.Privilege.{Privilege}
use Rattle.gss_ctx.specs.Seals.{Mic}
use Rattle.mount.specs.Laws.{Goes, Went}
use Rattle.mount.specs.Sending.{begun, child_asked, name_under, sent_again, slotted, stepped_in}
use Rattle.mount.specs.State.{Mounted, is_setting_up, pending_at, root_name, setup_in}
use Rattle.mount.specs.declared.calling.Under.{Under}
use Rattle.mount.specs.declared.machine.SendAt.{SendAt}
use Rattle.mount.specs.declared.machine.Sent.{Sent}
use Rattle.mount.specs.declared.state.Aim.{Aim}
use Rattle.mount.specs.declared.state.Aim.TheVariants as aims
use Rattle.mount.specs.declared.state.Pending.{Pending}
use Rattle.mount.specs.declared.state.Pending.TheVariants as pendings
use Rattle.mount.specs.declared.state.Root.{Root}
use Rattle.mount.specs.declared.state.Standing.{Standing}
use Rattle.mount.specs.declared.state.Standing.TheVariants.{Down, Rooted}
use Rattle.mount.specs.declared.state.TheConstants.{PLACES}
use Rattle.nfs_base.specs.declared.side.Side.{Side}
use Rattle.nfs_base.specs.declared.side.Side.TheVariants.{Source, Dest}
use Rattle.outbox.specs.declared.label.CallLabel.{CallLabel}
use Rattle.session_calls.specs.Calls.{slot_compound}
use Rattle.session_calls.specs.declared.slot_call.SlotCall.{SlotCall}
use Rattle.session_calls.specs.declared.slot_call.SlotCall.TheVariants.{ReclaimComplete}
use Rattle.session_calls.specs.declared.slot_call.SlotUse.{SlotUse}
use Rattle.session_calls.specs.declared.sole_call.BackChannel.{BackChannel}
use Rattle.session_client.specs.Pending.{Asking}
use Rattle.session_client.specs.declared.asked.Asked.TheVariants.{Compound}
use Rattle.session_client.specs.declared.setup.Setup.{Setup}
use Rattle.session_client.specs.declared.setup.Setup.TheVariants as setups

-- ---- something happens to a copy

abbrev pub SparedAt : Side → Site → Copies → ℕ → Event → Type 0
SparedAt side s t j event = (c : ClientCopy) → copy_at j t ≡ Some c → (pending_at s.mount j ≡ None) ⊎ Leaves side c (after event c).1

pub told_placed : (side : Side) (s : Site) (t : Copies) (j : ℕ) (event : Event) → IsPlaced side s t → SparedAt side s t j event → IsPlaced side s (told_at j event t).1
told_placed side s t j event old spared = record {
  many = old.many;
  up = old.up;
  down = old.down;
  first = old.first;
  others = λ i some p is. by i some p is (cases_eq i j);
}
  where
    here_by : (p : Pending) → pending_at s.mount j ≡ Some p → (f : FitsCopy side s.files (copy_at j t) p)
        → (pending_at s.mount j ≡ None) ⊎ Leaves side f.own (after event f.own).1 → FitsCopy side s.files (copy_at j (told_at j event t).1) p
    here_by p is f (inl none) = none_some (pending_at s.mount j) p none is
    here_by p is f (inr leaves) = record {
      own = (after event f.own).1;
      own_is = copy_written event j t ∙ ap (copy_after event) f.own_is;
      fits = own_stays side s.files f.own (after event f.own).1 p leaves f.fits;
    }

    by : (i : ℕ) → (i ≡ 0 → ⊥) → (p : Pending) → pending_at s.mount i ≡ Some p → (i ≡ j) ⊎ (i ≢ j) → FitsCopy side s.files (copy_at i (told_at j event t).1) p
    by i some p is (inl here) =
        let moved : pending_at s.mount j ≡ Some p = sym (ap (pending_at s.mount) here) ∙ is in
        let f = old.others j (λ zero_is. some (here ∙ zero_is)) p moved in
        subst (λ (k : ℕ). FitsCopy side s.files (copy_at k (told_at j event t).1) p) (sym here) (here_by p moved f (spared f.own f.own_is))
    by i some p is (inr apart) =
        subst (λ (o : Option ClientCopy). FitsCopy side s.files o p) (sym (copy_kept j i (copy_after event (copy_at j t)) t apart)) (old.others i some p is)

pub held_placed : (side : Side) (s : Site) (t : Copies) (held : List HeldOffload) → IsPlaced side s t → IsPlaced side s (record t { held = held })
held_placed side s t held old = record { many = old.many; up = old.up; down = old.down; first = old.first; others = old.others }

pub said_placed : (j : ℕ) (said : Said) (d : Desk) → AllPlaced d → AllPlaced (said_by j said d)
said_placed j Nothing d x = x
said_placed j (One word) d x = record { source = x.source; dest = x.dest }
said_placed j (Two first second) d x = record { source = x.source; dest = x.dest }

-- it is told so, where this spares what is awaited at both servers
pub tells : (j : ℕ) (event : Event) (d : Desk) → AllPlaced d → SparedAt Source d.source d.copies j event → SparedAt Dest d.dest d.copies j event → AllPlaced (told_to j event d)
tells j event d x at_source at_dest =
    let t = (told_at j event d.copies).1 in
    let e : Desk = record d { copies = t } in
    said_placed j (said_of event (copy_at j d.copies)) e (record {
      source = told_placed Source d.source d.copies j event x.source at_source;
      dest = told_placed Dest d.dest d.copies j event x.dest at_dest;
    })

-- ---- a site comes in place, and records go out

pub at_side : (side : Side) (d : Desk) → AllPlaced d → IsPlaced side (site_at side d) d.copies
at_side Source d x = x.source
at_side Dest d x = x.dest

pub with_placed : (side : Side) (s : Site) (d : Desk) → AllPlaced d → IsPlaced side s d.copies → AllPlaced (with_site side s d)
with_placed Source s d x here = record { source = here; dest = x.dest }
with_placed Dest s d x here = record { source = x.source; dest = here }

sent_placed : (side : Side) (label : CallLabel) (o : Option Sent) (d : Desk) → AllPlaced d → AllPlaced (sent_out side label o d)
sent_placed side label None d x = x
sent_placed side label (Some sent) d x = record { source = x.source; dest = x.dest }

pub put_placed : (side : Side) (label : CallLabel) (o : Option Sent × Mounted) (d : Desk) → AllPlaced d → IsPlaced side (record (site_at side d) { mount = o.1 }) d.copies
    → AllPlaced (put_out side label (at_site (site_at side d) o) d).1
put_placed side label o d x here =
    sent_placed side label o.0 (with_site side (record (site_at side d) { mount = o.1 }) d) (with_placed side (record (site_at side d) { mount = o.1 }) d x here)

-- where nothing goes out, the mount is as it was
pub none_went : (at : SendAt) (m : Mounted) (o : Option Sent × Mounted) → Went at m o → o.0 ≡ None → o.1 ≡ m
none_went at m o went none = by o.0 o.1 went none
  where
    by : (sent : Option Sent) (n : Mounted) → Goes at m sent n → sent ≡ None → n ≡ m
    by None n goes none = goes
    by (Some sent) n goes none = absurd cc

-- what goes out, by whether it does
pub by_sent : (side : Side) (s : Site) (t : Copies) (at : SendAt) (b : Bool) (o : Option Sent × Mounted) → IsPlaced side s t → Went at s.mount o
    → (b ≡ true → (sent : Sent) → o.0 ≡ Some sent → IsPlaced side (record s { mount = o.1 }) t)
    → IsPlaced side (record s { mount = (sent_if b o s.mount).1 }) t
by_sent side s t at false o old went goes = old
by_sent side s t at true o old went goes = by o.0 refl
  where
    by : (sent : Option Sent) → o.0 ≡ sent → IsPlaced side (record s { mount = o.1 }) t
    by None is = subst (λ (n : Mounted). IsPlaced side (record s { mount = n }) t) (sym (none_went at s.mount o went is)) old
    by (Some sent) is = goes refl sent is

root_is : (x y : Root) → Rooted x ≡ Rooted y → x ≡ y
root_is x y e = cc

pub slot_up : (at : SendAt) (aim : Aim) (call : SlotCall) (m n : Mounted) → IsSlotted at aim call m n → IsUp m → IsUp n
slot_up at aim call m n x up root e down =
    let same = root_is x.new root (sym x.is ∙ e) in
    up x.root x.was (sym x.setup ∙ ap (λ (r : Root). r.setup) same ∙ down)

pub slot_rooted : (at : SendAt) (aim : Aim) (call : SlotCall) (m n : Mounted) → IsSlotted at aim call m n → root_name n.standing ≡ None → ⊥
slot_rooted at aim call m n x none = none_some (root_name n.standing) x.new.name none (ap root_name x.is)

pub called_up : (at : SendAt) (aim : Aim) (m n : Mounted) → IsCalled at aim m n → IsUp m → IsUp n
called_up at aim m n x up root e down = up root (sym x.standing ∙ e) down

pub called_rooted : (at : SendAt) (aim : Aim) (m n : Mounted) → IsCalled at aim m n → root_name n.standing ≡ None → ⊥
called_rooted at aim m n x none = x.rooted (sym (ap root_name x.standing) ∙ none)

-- ---- calls at place 0

-- a call in the slot of place 0
pub first_slot_placed : (side : Side) (s : Site) (t : Copies) (mic : Mic) (at : SendAt) (name : Option ℕ) (aim : Aim) (call : SlotCall) (sent : Sent) → at.place ≡ 0
    → ((context : ℕ) (asking : Asking) → FitsFirst (pendings.Under context aim asking)) → IsPlaced side s t → (slotted mic at name aim call s.mount).0 ≡ Some sent
    → IsPlaced side (record s { mount = (slotted mic at name aim call s.mount).1 }) t
first_slot_placed side s t mic at name aim call sent place fits old e =
    let m = s.mount in
    let n = (slotted mic at name aim call m).1 in
    let within : at.place < length m.places = subst (λ (k : ℕ). k < length m.places) (sym place) (subst (λ (k : ℕ). 0 < k) (sym old.many) (lit< tt)) in
    let x = slot_goes mic at name aim call m sent within e in
    placed_more side s n t t at.place (pendings.Under x.context aim x.asking) old x.awaits (λ here. fits x.context x.asking, λ some. absurd (some place)) (λ j apart. refl)
    (slot_up at aim call m n x old.up) (rooted_idle n (slot_rooted at aim call m n x))

pub first_step_placed : (side : Side) (s : Site) (t : Copies) (mic : Mic) (at : SendAt) (me : List ℕ) (back : Option BackChannel) (sent : Sent) → at.place ≡ 0 → IsPlaced side s t
    → (stepped_in mic at me back s.mount.standing s.mount).0 ≡ Some sent → IsPlaced side (record s { mount = (stepped_in mic at me back s.mount.standing s.mount).1 }) t
first_step_placed side s t mic at me back sent place old e =
    let m = s.mount in
    let n = (stepped_in mic at me back m.standing m).1 in
    let within : at.place < length m.places = subst (λ (k : ℕ). k < length m.places) (sym place) (subst (λ (k : ℕ). 0 < k) (sym old.many) (lit< tt)) in
    let x = step_goes mic at me back m sent within e in
    placed_more side s n t t at.place (pendings.Under x.context aims.Setup x.asking) old x.awaits (λ here. tt, λ some. absurd (some place)) (λ j apart. refl)
    (called_up at aims.Setup m n x old.up) (rooted_idle n (called_rooted at aims.Setup m n x))

module _ (mic : Mic) (counted : Counted) where
  pub slot_sent : (side : Side) (under : Under) (call : SlotCall) (d : Desk) → AllPlaced d → AllPlaced (calling.slot_sent mic side 0 under call d).1
  slot_sent side under call d x =
      let at = send_at 0 d in
      let s = site_at side d in
      let o = slotted mic at (name_under under s.mount) aims.Slot call s.mount in
      put_placed side _ (sent_if (may_go at s.mount) o s.mount) d x
      (by_sent side s d.copies at (may_go at s.mount) o (at_side side d x) (counted mic at (InSlot under call) s.mount)
      (λ may sent is. first_slot_placed side s d.copies mic at (name_under under s.mount) aims.Slot call sent refl (λ context asking. tt) (at_side side d x) is))

  pub call_sent : (side : Side) (under : Under) (o : Option SlotCall) (d : Desk) → AllPlaced d → AllPlaced (calling.call_sent mic side 0 under o d).1
  call_sent side under None d x = x
  call_sent side under (Some call) d x = slot_sent side under call d x

  pub reclaim_sent : (side : Side) (d : Desk) → AllPlaced d → AllPlaced (calling.reclaim_sent mic side d).1
  reclaim_sent side d x =
      let at = send_at 0 d in
      let s = site_at side d in
      let o = slotted mic at (root_name s.mount.standing) aims.Setup ReclaimComplete s.mount in
      put_placed side _ (sent_if (may_go at s.mount) o s.mount) d x
      (by_sent side s d.copies at (may_go at s.mount) o (at_side side d x)
      (counted mic at Reclaim s.mount)
      (λ may sent is.
      first_slot_placed side s d.copies mic at (root_name s.mount.standing) aims.Setup ReclaimComplete sent refl
      (λ context asking. tt) (at_side side d x) is))

  pub step_sent : (me : List ℕ) (side : Side) (back : Option BackChannel) (label : CallLabel) (d : Desk) → AllPlaced d → AllPlaced (calling.step_sent mic me side back label d).1
  step_sent me side back label d x =
      let at = send_at 0 d in
      let s = site_at side d in
      let o = stepped_in mic at me back s.mount.standing s.mount in
      let b = not (is_setting_up s.mount) && may_go at s.mount in
      put_placed side label (sent_if b o s.mount) d x
      (by_sent side s d.copies at b o (at_side side d x) (counted mic at (SetUp me back) s.mount)
      (λ may sent is. first_step_placed side s d.copies mic at me back sent refl (at_side side d x) is))

  pub again_sent : (side : Side) (place : ℕ) (label : CallLabel) (d : Desk) → place < PLACES → AllPlaced d → AllPlaced (calling.again_sent mic side place label d)
  again_sent side place label d within x =
      let at = send_at place d in
      let s = site_at side d in
      let old = at_side side d x in
      let o = sent_again mic at s.mount in
      put_placed side label (sent_if (nat_lt s.mount.calls at.xid) o s.mount) d x (by (nat_lt s.mount.calls at.xid) s old (subst (λ (k : ℕ). place < k) (sym old.many) within))
    where
      by : (b : Bool) (s : Site) → IsPlaced side s d.copies → place < length s.mount.places
          → IsPlaced side (record s { mount = (sent_if b (sent_again mic (send_at place d) s.mount) s.mount).1 }) d.copies
      by true s old lt = again_placed side s d.copies old mic (send_at place d) lt
      by false s old lt = old

  -- ---- INIT goes out where nothing is set up

  down_root : (m : Mounted) (st : Standing) → m.standing ≡ st → IsUp m → is_down (setup_in st) ≡ true → root_name m.standing ≡ None
  down_root m (Down kept) is up down = ap root_name is
  down_root m (Rooted root) is up down = absurd (up root is (down_is root.setup down))
    where
      down_is : (setup : Setup) → is_down setup ≡ true → setup ≡ setups.Down
      down_is setups.Down e = refl
      down_is (setups.Rooted verifier) e = absurd cc
      down_is (setups.Registered client sequence) e = absurd cc
      down_is (setups.Joined client session) e = absurd cc
      down_is (setups.Up client session) e = absurd cc

  middle_true : (a b c : Bool) → (a && b && c) ≡ true → b ≡ true
  middle_true true true c e = refl
  middle_true true false c e = absurd cc
  middle_true false b c e = absurd cc

  pub begin_sent : (nonce : List ℕ) (token : List ℕ) (side : Side) (d : Desk) → may_begin (send_at 0 d) (site_at side d).mount ≡ true → AllPlaced d
      → AllPlaced (calling.begin_sent nonce (Some token) side d).1
  begin_sent nonce token side d may x =
      let at = send_at 0 d in
      let s = site_at side d in
      let old = at_side side d x in
      let down = middle_true (not (is_setting_up s.mount)) (is_down (setup_in s.mount.standing)) (may_go at s.mount) may in
      put_placed side _ (begun at nonce (Some token) s.mount) d x
      (begin_placed side s d.copies at nonce token refl old (down_root s.mount s.mount.standing refl old.up down) (subst (λ (k : ℕ). 0 < k) (sym old.many) (lit< tt)))

-- ---- a call goes out at the place of a copy, and the copy is told so

abbrev pub then_told : Bool → ℕ → Event → Desk → Desk
then_told true j event d = told_to j event d
then_told false j event d = d

-- what is awaited at the other server stays
abbrev pub SparesOther : Side → Copies → ℕ → Event → Type 0
SparesOther there t j event = (side : Side) → (there ≡ side → ⊥) → (c : ClientCopy) → copy_at j t ≡ Some c → Leaves side c (after event c).1

pub source_apart : Source ≡ Dest → ⊥
source_apart e = absurd cc

pub dest_apart : Dest ≡ Source → ⊥
dest_apart e = absurd cc

out_then : (there : Side) (label : CallLabel) (sent : Sent) (s : Site) (j : ℕ) (event : Event) (d : Desk) → AllPlaced d → IsPlaced there s (told_at j event d.copies).1
    → SparesOther there d.copies j event → AllPlaced (told_to j event (sent_out there label (Some sent) (with_site there s d)))
out_then Source label sent s j event d x here spares =
    let e = sent_out Source label (Some sent) (with_site Source s d) in
    said_placed j (said_of event (copy_at j e.copies)) (record e { copies = (told_at j event e.copies).1 }) (record {
      source = here;
      dest = told_placed Dest d.dest d.copies j event x.dest (λ c is. inr (spares Dest source_apart c is));
    })
out_then Dest label sent s j event d x here spares =
    let e = sent_out Dest label (Some sent) (with_site Dest s d) in
    said_placed j (said_of event (copy_at j e.copies)) (record e { copies = (told_at j event e.copies).1 }) (record {
      source = told_placed Source d.source d.copies j event x.source (λ c is. inr (spares Source dest_apart c is));
      dest = here;
    })

pub after_put : (there : Side) (label : CallLabel) (j : ℕ) (event : Event) (d : Desk) (o : Option Sent) (n : Mounted) → AllPlaced d → (o ≡ None → n ≡ (site_at there d).mount)
    → ((sent : Sent) → o ≡ Some sent → IsPlaced there (record (site_at there d) { mount = n }) (told_at j event d.copies).1) → SparesOther there d.copies j event
    → AllPlaced (then_told (is_some o) j event (sent_out there label o (with_site there (record (site_at there d) { mount = n }) d)))
after_put there label j event d None n x none goes spares =
    with_placed there (record (site_at there d) { mount = n }) d x
    (subst (λ (k : Mounted). IsPlaced there (record (site_at there d) { mount = k }) d.copies) (sym (none refl)) (at_side there d x))
after_put there label j event d (Some sent) n x none goes spares = out_then there label sent (record (site_at there d) { mount = n }) j event d x (goes sent refl) spares

-- by whether it may go
pub sent_then : (there : Side) (label : CallLabel) (j : ℕ) (event : Event) (d : Desk) (b : Bool) (o : Option Sent × Mounted) → AllPlaced d → (o.0 ≡ None → o.1 ≡ (site_at there d).mount)
    → ((sent : Sent) → o.0 ≡ Some sent → IsPlaced there (record (site_at there d) { mount = o.1 }) (told_at j event d.copies).1) → SparesOther there d.copies j event
    → AllPlaced (then_told (put_out there label (at_site (site_at there d) (sent_if b o (site_at there d).mount)) d).0 j event
    (put_out there label (at_site (site_at there d) (sent_if b o (site_at there d).mount)) d).1)
sent_then there label j event d true o x none goes spares = after_put there label j event d o.0 o.1 x none goes spares
sent_then there label j event d false o x none goes spares = after_put there label j event d None (site_at there d).mount x (λ e. refl) (λ sent e. absurd cc) spares

module _ (mic : Mic) (counted : Counted) (there : Side) (j : ℕ) (d : Desk) (event : Event) (c own : ClientCopy) (x : AllPlaced d) (is : copy_at j d.copies ≡ Some c)
    (becomes : (after event c).1 ≡ own) (within : j < PLACES) (spares : SparesOther there d.copies j event) where
  own_is : copy_at j (told_at j event d.copies).1 ≡ Some own
  own_is = copy_written event j d.copies ∙ ap (copy_after event) is ∙ ap (λ (k : ClientCopy). Some k) becomes

  more : (p : Pending) (n : Mounted) → Awaits j p (site_at there d).mount n → (j ≡ 0 → FitsFirst p) → FitsOwn there (site_at there d).files own p → IsUp n → (root_name n.standing ≡ None → ⊥)
      → IsPlaced there (record (site_at there d) { mount = n }) (told_at j event d.copies).1
  more p n awaits first fits up rooted =
      placed_more there (site_at there d) n d.copies (told_at j event d.copies).1 j p (at_side there d x) awaits
      (first, λ some. record { own = own; own_is = own_is; fits = fits }) (λ i apart. copy_kept j i (copy_after event (copy_at j d.copies)) d.copies apart) up (rooted_idle n rooted)

  lt : j < length (site_at there d).mount.places
  lt = subst (λ (k : ℕ). j < k) (sym (at_side there d x).many) within

  pub slot_then : (under : Under) (call : SlotCall)
      → ((context : ℕ) (asking : Asking) (slot : SlotUse) → asking.asked ≡ Compound (slot_compound slot call) → FitsOwn there (site_at there d).files own (pendings.Under context aims.Slot asking))
      → AllPlaced (then_told (calling.slot_sent mic there j under call d).0 j event (calling.slot_sent mic there j under call d).1)
  slot_then under call fits =
      let at = send_at j d in
      let m = (site_at there d).mount in
      let name = name_under under m in
      let o = slotted mic at name aims.Slot call m in
      sent_then there _ j event d (may_go at m) o x (none_went at m o (counted mic at (InSlot under call) m))
      (λ sent gone.
      let y = slot_goes mic at name aims.Slot call m sent lt gone in
      more (pendings.Under y.context aims.Slot y.asking) o.1 y.awaits (λ zero_is. tt) (fits y.context y.asking y.slot y.asked_is)
      (slot_up at aims.Slot call m o.1 y (at_side there d x).up) (slot_rooted at aims.Slot call m o.1 y)) spares

  pub create_then : (b : Bool) (p : Privilege) → (j ≡ 0 → ⊥) → ((context : ℕ) (asking : Asking) → FitsOwn there (site_at there d).files own (pendings.Under context (aims.Child j) asking))
      → AllPlaced (then_told (calling.create_if b mic there j p d).0 j event (calling.create_if b mic there j p d).1)
  create_then false p some fits = x
  create_then true p some fits =
      let at = send_at j d in
      let m = (site_at there d).mount in
      let o = child_asked mic at j (privilege_name p) (privilege_spell p) m in
      sent_then there _ j event d (may_go at m) o x (none_went at m o (counted mic at (Make j (privilege_name p) (privilege_spell p)) m))
      (λ sent gone.
      let y = child_goes mic at j (privilege_name p) (privilege_spell p) m sent lt gone in
      more (pendings.Under y.context (aims.Child j) y.asking) o.1 y.awaits (λ zero_is. absurd (some zero_is)) (fits y.context y.asking)
      (called_up at (aims.Child j) m o.1 y (at_side there d x).up) (called_rooted at (aims.Child j) m o.1 y)) spares
