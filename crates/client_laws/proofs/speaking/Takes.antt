-- What a record that is taken leaves at a mount's places: less than was awaited, or the mount fell, and then it is told so that the
-- whole setup goes down.
use Rattle.std.proofs.Common.{◌≡◌, ◌≢◌, ◌∙◌, ℕ, Bool, true, false, List, length, Option, Some, None, Result, Ok, Err, refl, sym, ap, inl, inr, ◌⊎◌}
use Rattle.std.specs.Prelude.{◌&&◌}
use Rattle.std.proofs.lemmas.Bool.{cases_eq}
use Rattle.client_copies.specs.Table.{Copies}
use Rattle.client_laws.proofs.speaking.Mounts.{IsIdle, IsLess, IsUp, emptied_gone, emptied_less, emptied_many, fallen_less, fallen_many, none_some, placed_fewer, rooted_idle}
use Rattle.client_laws.specs.Speaking.Places.{IsPlaced}
use Rattle.client_site.specs.declared.site.Site.{Site}
use Rattle.gss_ctx.specs.Replies.{begun_of}
use Rattle.gss_ctx.specs.declared.begin.Begun.{Begun}
use Rattle.gss_ctx.specs.declared.begin.Begun.TheVariants as begins
use Rattle.mount.specs.Falling.{fallen}
use Rattle.mount.specs.State.{Mounted, awaited_at, context_of, emptied, is_present, pending_at, pending_in, root_name}
use Rattle.mount.specs.Taking.{Means, after_call, after_create, after_init, after_setup, after_step, by_aim, by_awaiting, by_context, by_pending, child_for, fallen_if, is_lost, parent_of, stepped_to, taken_at}
use Rattle.mount.specs.declared.state.Aim.{Aim}
use Rattle.mount.specs.declared.state.Aim.TheVariants as aims
use Rattle.mount.specs.declared.state.Awaiting.{Awaiting}
use Rattle.mount.specs.declared.state.Context.{Context}
use Rattle.mount.specs.declared.state.Pending.{Pending}
use Rattle.mount.specs.declared.state.Pending.TheVariants.{Init, Under}
use Rattle.mount.specs.declared.state.Standing.{Standing}
use Rattle.mount.specs.declared.state.Standing.TheVariants.{Down, Rooted}
use Rattle.mount.specs.declared.taking.Heard.{Heard}
use Rattle.mount.specs.declared.taking.Told.TheVariants as tells
use Rattle.mount.specs.declared.taking.Told.{Told}
use Rattle.nfs_base.specs.declared.seal.Seal.{Seal}
use Rattle.nfs_base.specs.declared.side.Side.{Side}
use Rattle.nfs_base.specs.declared.status.Status.{Status}
use Rattle.nfs_compound.specs.declared.reply.Reply.{Reply}
use Rattle.session_client.specs.Answers.{child_of, taken_of}
use Rattle.session_client.specs.Asked.{ops_of}
use Rattle.session_client.specs.Pending.{Asking, Beginning}
use Rattle.session_client.specs.Setup.{after_answer}
use Rattle.session_client.specs.declared.answers.Taken.{Taken}
use Rattle.session_client.specs.declared.answers.Taken.TheVariants as answers
use Rattle.session_client.specs.declared.answers.TakenChild.{TakenChild}
use Rattle.session_client.specs.declared.answers.TakenChild.TheVariants as children
use Rattle.session_client.specs.declared.setup.Setup.{Setup}

-- the call was a CREATE
abbrev pub IsChild : Pending → Type 0
IsChild (Under context (aims.Child child) asking) = Unit {0}
IsChild _ = ⊥

pub record WasHeard (m n : Mounted) (place : ℕ) (told : Told) : Type 0 where
  pub p : Pending
  pub was : pending_at m place ≡ Some p
  pub gone : pending_at n place ≡ None
  pub child : (k : ℕ) → told ≡ tells.Child k → IsChild p

-- why a mount fell, by what the call was for
abbrev pub Why : Aim → Told → Type 0
Why aims.Slot (tells.Answer reply) = is_lost reply.status ≡ true
Why aims.Slot (tells.Denied why) = Unit {0}
Why aims.Setup (tells.Stopped status) = Unit {0}
Why aims.Setup (tells.Denied why) = Unit {0}
Why _ _ = ⊥

pub record Fell (m n : Mounted) (place : ℕ) (told : Told) : Type 0 where
  pub context : ℕ
  pub aim : Aim
  pub asking : Asking
  pub was : pending_at m place ≡ Some (Under context aim asking)
  pub why : Why aim told
  pub many : length n.places ≡ length m.places

pub record Tame (side : Side) (s : Site) (t : Copies) (place : ℕ) (o : Heard × Mounted) : Type 0 where
  pub placed : IsPlaced side (record s { mount = o.1 }) t
  pub heard : (o.0.told ≡ tells.Unmatched) ⊎ WasHeard s.mount o.1 place o.0.told

abbrev pub Outcome : Side → Site → Copies → ℕ → Heard × Mounted → Type 0
Outcome side s t place o = Tame side s t place o ⊎ Fell s.mount o.1 place o.0.told

module _ (side : Side) (s : Site) (t : Copies) (place : ℕ) (old : IsPlaced side s t)
    (init_down : (init : Beginning) → pending_at s.mount place ≡ Some (Init init) → root_name s.mount.standing ≡ None) where
  abbrev m : Mounted
  m = s.mount

  kept : (accepted : Option Seal) → Outcome side s t place (record { told = tells.Unmatched; accepted = accepted }, m)
  kept accepted = inl (record { placed = old; heard = inl refl })

  -- the place is empty afterwards, and nothing more is awaited
  gone : (n : Mounted) (told : Told) (accepted : Option Seal) (p : Pending) → pending_at m place ≡ Some p → length n.places ≡ length m.places → IsLess (emptied place m) n
      → IsUp n → IsIdle n → ((k : ℕ) → told ≡ tells.Child k → IsChild p) → Outcome side s t place (record { told = told; accepted = accepted }, n)
  gone n told accepted p was many less up idle child = inl (record {
    placed = placed_fewer side s n t old many (λ j q is. emptied_less place m j q (less j q is)) up idle;
    heard = inr (record { p = p; was = was; gone = nothing (pending_at n place) refl; child = child });
  })
    where
      nothing : (o : Option Pending) → pending_at n place ≡ o → o ≡ None
      nothing None is = refl
      nothing (Some q) is = none_some (pending_at (emptied place m) place) q (emptied_gone place m) (less place q is)

  -- what was idle stays so with less
  less_idle : (n : Mounted) → root_name n.standing ≡ root_name m.standing → IsLess (emptied place m) n → IsIdle n
  less_idle n same less none other context aim asking is = old.down (sym same ∙ none) other context aim asking (emptied_less place m other _ (less other _ is))

  none_idle : (n : Mounted) → root_name m.standing ≡ None → IsLess (emptied place m) n → IsIdle n
  none_idle n down less none other context aim asking is = old.down down other context aim asking (emptied_less place m other _ (less other _ is))

  same_less : IsLess (emptied place m) (emptied place m)
  same_less j p is = is

  -- only the place is emptied
  only : (told : Told) (accepted : Option Seal) (p : Pending) → pending_at m place ≡ Some p → ((k : ℕ) → told ≡ tells.Child k → IsChild p)
      → Outcome side s t place (record { told = told; accepted = accepted }, emptied place m)
  only told accepted p was child = gone (emptied place m) told accepted p was (emptied_many place m) same_less old.up (less_idle (emptied place m) refl same_less) child

  -- ---- INIT

  take_init : (init : Beginning) (begun : Begun) → pending_at m place ≡ Some (Init init) → IsUp (after_init place init begun m).1 → Outcome side s t place (after_init place init begun m)
  take_init init (begins.Made handle key) was up =
      gone (after_init place init (begins.Made handle key) m).1 tells.Rooted (after_init place init (begins.Made handle key) m).0.accepted (Init init) was
      (emptied_many place m) (λ j p is. is) up
      (rooted_idle (after_init place init (begins.Made handle key) m).1 (λ none. absurd cc)) (λ k e. absurd cc)
  take_init init (begins.Refused major) was up =
      gone (fallen (emptied place m)) (tells.Refused major) None (Init init) was (fallen_many (emptied place m) ∙ emptied_many place m) (fallen_less (emptied place m)) up
      (none_idle (fallen (emptied place m)) (init_down init was) (fallen_less (emptied place m))) (λ k e. absurd cc)
  take_init init (begins.Failed stat) was up =
      gone (after_init place init (begins.Failed stat) m).1 (tells.Failed stat) None (Init init) was (emptied_many place m) (λ j p is. is) up
      (none_idle (after_init place init (begins.Failed stat) m).1 (init_down init was) (λ j p is. is)) (λ k e. absurd cc)
  take_init init (begins.Denied why) was up =
      gone (fallen (emptied place m)) (tells.Denied why) None (Init init) was (fallen_many (emptied place m) ∙ emptied_many place m) (fallen_less (emptied place m)) up
      (none_idle (fallen (emptied place m)) (init_down init was) (fallen_less (emptied place m))) (λ k e. absurd cc)
  take_init init begins.Unmatched was up = kept None

  -- ---- CREATE

  take_create : (derived : List ℕ → ℕ → List ℕ → List ℕ) (context child : ℕ) (asking : Asking) (c : Context) (taken : TakenChild)
      → pending_at m place ≡ Some (Under context (aims.Child child) asking)
      → IsUp (after_create derived place child (parent_of c) asking.seal asking.awaited.xid taken m).1
      → Outcome side s t place (after_create derived place child (parent_of c) asking.seal asking.awaited.xid taken m)
  take_create derived context child asking c (children.Made handle) was up =
      let o = after_create derived place child (parent_of c) asking.seal asking.awaited.xid (children.Made handle) m in
      gone o.1 (tells.Child child) (Some asking.seal) (Under context (aims.Child child) asking) was (emptied_many place m) (λ j p is. is) up
      (less_idle o.1 refl (λ j p is. is)) (λ k e. tt)
  take_create derived context child asking c (children.Refused major) was up = only (tells.Refused major) (Some asking.seal) (Under context (aims.Child child) asking) was (λ k e. tt)
  take_create derived context child asking c children.Misspelt was up = only tells.Misspelt (Some asking.seal) (Under context (aims.Child child) asking) was (λ k e. tt)
  take_create derived context child asking c (children.Failed stat) was up = only (tells.Failed stat) None (Under context (aims.Child child) asking) was (λ k e. tt)
  take_create derived context child asking c (children.Denied why) was up = only (tells.Denied why) None (Under context (aims.Child child) asking) was (λ k e. tt)
  take_create derived context child asking c children.Unmatched was up = kept None

  -- ---- compounds

  fell : (context : ℕ) (aim : Aim) (asking : Asking) (told : Told) (accepted : Option Seal) → pending_at m place ≡ Some (Under context aim asking) → Why aim told
      → Outcome side s t place (record { told = told; accepted = accepted }, fallen (emptied place m))
  fell context aim asking told accepted was why =
      inr (record { context = context; aim = aim; asking = asking; was = was; why = why; many = fallen_many (emptied place m) ∙ emptied_many place m })

  slot_answer : (context : ℕ) (asking : Asking) (present lost : Bool) (reply : Reply) (accepted : Option Seal) → pending_at m place ≡ Some (Under context aims.Slot asking)
      → is_lost reply.status ≡ lost → Outcome side s t place (record { told = tells.Answer reply; accepted = accepted }, fallen_if (present && lost) (emptied place m))
  slot_answer context asking true true reply accepted was is = fell context aims.Slot asking (tells.Answer reply) accepted was is
  slot_answer context asking true false reply accepted was is = only (tells.Answer reply) accepted (Under context aims.Slot asking) was (λ k e. absurd cc)
  slot_answer context asking false lost reply accepted was is = only (tells.Answer reply) accepted (Under context aims.Slot asking) was (λ k e. absurd cc)

  slot_denied : (context : ℕ) (asking : Asking) (present : Bool) (told : Told) → pending_at m place ≡ Some (Under context aims.Slot asking) → Why aims.Slot told
      → ((k : ℕ) → told ≡ tells.Child k → ⊥) → Outcome side s t place (record { told = told; accepted = None }, fallen_if present (emptied place m))
  slot_denied context asking true told was why unlike = fell context aims.Slot asking told None was why
  slot_denied context asking false told was why unlike = only told None (Under context aims.Slot asking) was (λ k e. absurd (unlike k e))

  take_slot : (context : ℕ) (asking : Asking) (present : Bool) (taken : Taken) → pending_at m place ≡ Some (Under context aims.Slot asking)
      → Outcome side s t place (after_call place aims.Slot present asking.seal taken m)
  take_slot context asking present (answers.Answer reply) was = slot_answer context asking present (is_lost reply.status) reply (Some asking.seal) was refl
  take_slot context asking present answers.Misspelt was = only tells.Misspelt (Some asking.seal) (Under context aims.Slot asking) was (λ k e. absurd cc)
  take_slot context asking present (answers.Failed stat) was = only (tells.Failed stat) None (Under context aims.Slot asking) was (λ k e. absurd cc)
  take_slot context asking present (answers.Denied why) was = slot_denied context asking present (tells.Denied why) was tt (λ k e. absurd cc)
  take_slot context asking present answers.Unmatched was = kept None

  setup_denied : (context : ℕ) (asking : Asking) (lost : Bool) (told : Told) (accepted : Option Seal) → pending_at m place ≡ Some (Under context aims.Setup asking) → Why aims.Setup told
      → ((k : ℕ) → told ≡ tells.Child k → ⊥) → Outcome side s t place (record { told = told; accepted = accepted }, fallen_if lost (emptied place m))
  setup_denied context asking true told accepted was why unlike = fell context aims.Setup asking told accepted was why
  setup_denied context asking false told accepted was why unlike = only told accepted (Under context aims.Setup asking) was (λ k e. absurd (unlike k e))

  setup_step : (context : ℕ) (asking : Asking) (name : ℕ) (o : Result Setup Status) → pending_at m place ≡ Some (Under context aims.Setup asking)
      → ((setup : Setup) → root_name (stepped_to setup m.standing) ≡ Some name)
      → IsUp (after_step o (Some asking.seal) (emptied place m)).1 → Outcome side s t place (after_step o (Some asking.seal) (emptied place m))
  setup_step context asking name (Ok setup) was rooted up =
      let n = (after_step (Ok setup) (Some asking.seal) (emptied place m)).1 in
      gone n tells.Stepped (Some asking.seal) (Under context aims.Setup asking) was (emptied_many place m) (λ j p is. is) up
      (rooted_idle n (λ none. none_some (root_name n.standing) name none (rooted setup))) (λ k e. absurd cc)
  setup_step context asking name (Err status) was rooted up =
      setup_denied context asking (is_lost status) (tells.Stopped status) (Some asking.seal) was tt (λ k e. absurd cc)

  setup_answer : (context : ℕ) (asking : Asking) (st : Standing) (reply : Reply) → pending_at m place ≡ Some (Under context aims.Setup asking) → m.standing ≡ st
      → IsUp (after_setup st reply (Some asking.seal) (emptied place m)).1 → Outcome side s t place (after_setup st reply (Some asking.seal) (emptied place m))
  setup_answer context asking (Down before) reply was is up = only (tells.Answer reply) (Some asking.seal) (Under context aims.Setup asking) was (λ k e. absurd cc)
  setup_answer context asking (Rooted root) reply was is up =
      setup_step context asking root.name (after_answer m.reclaims reply.status reply.results root.setup) was (λ setup. ap (λ (x : Standing). root_name (stepped_to setup x)) is) up

  take_setup : (context : ℕ) (asking : Asking) (present : Bool) (taken : Taken) → pending_at m place ≡ Some (Under context aims.Setup asking)
      → IsUp (after_call place aims.Setup present asking.seal taken m).1 → Outcome side s t place (after_call place aims.Setup present asking.seal taken m)
  take_setup context asking present (answers.Answer reply) was up = setup_answer context asking m.standing reply was refl up
  take_setup context asking present answers.Misspelt was up = only tells.Misspelt (Some asking.seal) (Under context aims.Setup asking) was (λ k e. absurd cc)
  take_setup context asking present (answers.Failed stat) was up = only (tells.Failed stat) None (Under context aims.Setup asking) was (λ k e. absurd cc)
  take_setup context asking present (answers.Denied why) was up = setup_denied context asking present (tells.Denied why) None was tt (λ k e. absurd cc)
  take_setup context asking present answers.Unmatched was up = kept None

  -- ---- any

  no_end : (context : ℕ) (asking : Asking) → pending_at m place ≡ Some (Under context aims.End asking) → ⊥
  no_end context asking was = by (cases_eq place 0)
    where
      by : (place ≡ 0) ⊎ (place ≢ 0) → ⊥
      by (inl here) = old.first (Under context aims.End asking) (sym (ap (pending_at m) here) ∙ was)
      by (inr apart) = (old.others place apart (Under context aims.End asking) was).fits

  take_aim : (means : Means) (message : List ℕ) (context : ℕ) (aim : Aim) (asking : Asking) (c : Context) → pending_at m place ≡ Some (Under context aim asking)
      → IsUp (by_aim means place message (child_for aim) aim asking c m).1 → Outcome side s t place (by_aim means place message (child_for aim) aim asking c m)
  take_aim means message context (aims.Child child) asking c was up =
      take_create means.derived context child asking c (child_of means.mic c.caller.key asking.awaited message) was up
  take_aim means message context aims.Slot asking c was up =
      take_slot context asking (is_present m.standing c) (taken_of means.mic c.caller.key asking.awaited (ops_of asking.asked) message) was
  take_aim means message context aims.Setup asking c was up =
      take_setup context asking (is_present m.standing c) (taken_of means.mic c.caller.key asking.awaited (ops_of asking.asked) message) was up
  take_aim means message context aims.End asking c was up = absurd (no_end context asking was)

  take_under : (means : Means) (message : List ℕ) (context : ℕ) (aim : Aim) (asking : Asking) (o : Option Context) → pending_at m place ≡ Some (Under context aim asking)
      → IsUp (by_context means place message aim asking o m).1 → Outcome side s t place (by_context means place message aim asking o m)
  take_under means message context aim asking None was up = kept None
  take_under means message context aim asking (Some c) was up = take_aim means message context aim asking c was up

  take_pending : (means : Means) (message : List ℕ) (p : Pending) → pending_at m place ≡ Some p → IsUp (by_pending means place message p m).1
      → Outcome side s t place (by_pending means place message p m)
  take_pending means message (Init init) was up = take_init init (begun_of means.mic (means.finished init.nonce) init.xid message) was up
  take_pending means message (Under context aim asking) was up = take_under means message context aim asking (context_of context m.contexts) was up

  take_awaiting : (means : Means) (message : List ℕ) (o : Option Awaiting) → awaited_at m place ≡ o → IsUp (by_awaiting means place message o m).1
      → Outcome side s t place (by_awaiting means place message o m)
  take_awaiting means message None was up = kept None
  take_awaiting means message (Some a) was up = take_pending means message a.pending (ap pending_in was) up

  pub take : (means : Means) (message : List ℕ) → IsUp (taken_at means place message m).1 → Outcome side s t place (taken_at means place message m)
  take means message up = take_awaiting means message (awaited_at m place) refl up
