-- A record that is taken at a place: what the mount learns by it, and that the step obeys a wire's laws.
use Rattle.std.proofs.Common.{◌≡◌, inl, inr, ℕ, ◌≤◌, Bool, true, List, set, Option, Some, None, Result, Ok, Err, refl, sym, ap, subst, ◌∙◌, arith}
use Rattle.std.specs.Prelude.{◌&&◌, option_map}
use Rattle.std.proofs.lemmas.List.{length-set}
use Rattle.wire_xdr.specs.Cursor.{IsBytes}
use Rattle.gss_ctx.specs.Calls.{seal_of}
use Rattle.gss_ctx.specs.Replies.{begun_of}
use Rattle.gss_ctx.specs.declared.begin.Begun.{Begun}
use Rattle.gss_ctx.specs.declared.begin.Begun.TheVariants as begins
use Rattle.gss_ctx.specs.declared.numbers.TheConstants.{CHILD_KEY}
use Rattle.nfs_base.specs.declared.seal.Seal.{Seal}
use Rattle.nfs_base.specs.declared.status.Status.{Status}
use Rattle.nfs_compound.specs.declared.reply.Reply.{Reply}
use Rattle.session_client.specs.Answers.{child_of, taken_of}
use Rattle.session_client.specs.Asked as asked
use Rattle.session_client.specs.Pending.{Asking, Beginning}
use Rattle.session_client.specs.Setup.{after_answer, rooted}
use Rattle.session_client.specs.Slots.{fresh_numbers}
use Rattle.session_client.specs.declared.answers.Taken.{Taken}
use Rattle.session_client.specs.declared.answers.Taken.TheVariants as answers
use Rattle.session_client.specs.declared.answers.TakenChild.{TakenChild}
use Rattle.session_client.specs.declared.answers.TakenChild.TheVariants as children
use Rattle.session_client.specs.declared.asked.Asked.{Asked}
use Rattle.session_client.specs.declared.asked.Asked.TheVariants as asks
use Rattle.session_client.specs.declared.setup.Setup.{Setup}
use Rattle.mount.specs.Falling.{fallen, is_used}
use Rattle.mount.specs.State.{Mounted, awaited_at, context_of, emptied, is_present, no_children, pending_at, pending_in, root_name}
use Rattle.mount.specs.Taking.{Means, after_call, after_create, after_init, after_reply, after_setup, after_step, by_aim, by_awaiting, by_context, by_pending, child_for, fallen_if, heard, is_lost, new_side, parent_of, stepped_to, taken_at, with_context}
use Rattle.mount.specs.declared.state.Aim.{Aim}
use Rattle.mount.specs.declared.state.Aim.TheVariants as aims
use Rattle.mount.specs.declared.state.Awaiting.{Awaiting}
use Rattle.mount.specs.declared.state.Context as held
use Rattle.mount.specs.declared.state.Pending.{Pending}
use Rattle.mount.specs.declared.state.Pending.TheVariants.{Init, Under}
use Rattle.mount.specs.declared.state.Root.{Root}
use Rattle.mount.specs.declared.state.Standing.{Standing}
use Rattle.mount.specs.declared.state.Standing.TheVariants as standings
use Rattle.mount.specs.declared.taking.Heard.{Heard}
use Rattle.mount.specs.declared.taking.Told.{Told}
use Rattle.mount.specs.declared.taking.Told.TheVariants as tells
use Rattle.wire_model.specs.CallerLaws as laws
use Rattle.wire_model.specs.Spelling.{Context, SlotName}
use Rattle.wire_model.specs.Wire.{Awaited, ForOther, Purpose, Slotted, Begins, Makes, context_of as sealed_under}
use Rattle.nfs_compound.specs.Compounds.{compound_bytes}
use Rattle.wire_spelling.specs.Calls.{xid_in}
use Rattle.wire_spelling.specs.Slots.{first_slot}
use Rattle.wire_spelling.specs.Spelling.{spelling}
use Rattle.caller_laws.specs.Good.{FitsAim, Identity, IsFair, IsGood, IsUp}
use Rattle.caller_laws.specs.Lawful.{GoesOn}
use Rattle.caller_laws.specs.Moves.{hearing}
use Rattle.caller_laws.specs.View.{Above, Face, awaited_in, caller_of, face, face_of, handle_named, has_in, mount_in, next_in, purpose_of, root_seen, what_asked, what_named, what_under}
use Rattle.caller_laws.proofs.Faces.{held_found, some_is}
use Rattle.caller_laws.proofs.Gained.{apart, awaits_is, face_gained, face_is, face_needed, fair_is, gained, has_is, held_is, pending_is, unnamed_is}
use Rattle.caller_laws.proofs.Heard.{BegunSays, ChildSays, GivesChild, GivesRoot, IsReplyBy, TakenSays, begun_says, child_says, taken_says}
use Rattle.caller_laws.proofs.Losses.{answer_up, emptied_shrinks, fallen_if_shrinks, fallen_shrinks, filled_was, kept_shrinks, no_child, stepped_shrinks, used_root}
use Rattle.caller_laws.proofs.SendMoves.{none_sent, shrinks_itself}
use Rattle.caller_laws.proofs.Shrunk.{Shrinks, in_slot, mapped, seen, shrinks_on, shrunk_good, shrunk_obeys}

-- the mount afterwards is as it should be, and the step obeys
pub record IsHeard (who : Identity) (before after : Above) (m : Mounted) (message : List ℕ) (o : Heard × Mounted) : Type 0 where
  pub good : IsGood who o.1
  pub obeys : laws.CallerLaws (spelling who.accepts who.whose) m.server who.own (caller_of before m) (caller_of after o.1) (hearing message o.0)

-- ---- nothing but an INIT is awaited as one

what_never_begins : (o : Option Face) (seal : Seal) (purpose : Purpose) (a : Asked) → what_under o seal purpose a ≡ Begins → ⊥
what_never_begins None seal purpose a h = cc
what_never_begins (Some f) seal purpose (asks.Compound c) h = named (first_slot c.ops) h
  where
    named : (name : Option SlotName) → what_named seal (handle_named f.root) (compound_bytes c) purpose name ≡ Begins → ⊥
    named None h = cc
    named (Some name) h = cc
what_never_begins (Some f) seal purpose (asks.Create args) h = cc
what_never_begins (Some f) seal purpose asks.Destroy h = cc

record IsBeginning (p : Pending) (xid : ℕ) : Type 0 where
  init : Beginning
  is : p ≡ Init init
  xid_is : init.xid ≡ xid

begins_is : (contexts : List held.Context) (purpose : Purpose) (p : Pending) (xid : ℕ) → awaited_in contexts purpose p ≡ seen xid Begins → IsBeginning p xid
begins_is contexts purpose (Init init) xid h = record { init = init; is = refl; xid_is = ap (λ (x : Awaited). x.xid) h }
begins_is contexts purpose (Under context aim call) xid h =
    absurd (what_never_begins (face_of context contexts) call.seal (purpose_of aim purpose) call.asked (ap (λ (x : Awaited). x.what) h))

record IsBegun (m : Mounted) (place xid : ℕ) : Type 0 where
  init : Beginning
  there : pending_at m place ≡ Some (Init init)
  xid_is : init.xid ≡ xid

begun_at : (above : Above) (m : Mounted) (place xid : ℕ) → (caller_of above m).awaits place ≡ Some (seen xid Begins) → IsBegun m place xid
begun_at above m place xid h =
    let it = mapped (awaited_in m.contexts (above.purpose place)) (pending_at m place) (seen xid Begins) h in
    let b = begins_is m.contexts (above.purpose place) it.from xid it.gives in
    record { init = b.init; there = it.was ∙ ap (λ (p : Pending). Some p) b.is; xid_is = b.xid_is }

rooted_same : {a b : Root} → standings.Rooted a ≡ standings.Rooted b → a ≡ b
rooted_same h = cc

-- a CREATE alone is for a child
record IsCreate (a : Asked) : Type 0 where
  args : List ℕ
  is : a ≡ asks.Create args

create_of : (child : ℕ) (a : Asked) → FitsAim (aims.Child child) a → IsCreate a
create_of child (asks.Compound c) fits = absurd fits
create_of child (asks.Create args) fits = record { args = args; is = refl }
create_of child asks.Destroy fits = absurd fits

module _ (who : Identity) (before after : Above) (m : Mounted) (place : ℕ) (message : List ℕ) (g : IsGood who m) (goes : GoesOn m before after) where
  -- a record that is accepted under no seal teaches no root
  unsealed_unlearnt : (told : Told) (root : Context)
      → laws.LearnsRoot (spelling who.accepts who.whose) m.server (caller_of before m) (hearing message (record { told = told; accepted = None })) root → ⊥
  unsealed_unlearnt told root learnt = let accepted = learnt.takes.accepted in cc

  -- nor does the answer to a call under a context
  under_unlearnt : (context : ℕ) (aim : Aim) (call : Asking) → pending_at m place ≡ Some (Under context aim call) → IsReplyBy call.awaited.xid message → (h : Heard) (root : Context)
      → laws.LearnsRoot (spelling who.accepts who.whose) m.server (caller_of before m) (hearing message h) root → ⊥
  under_unlearnt context aim call there by h root learnt =
      let t = learnt.takes in
      let b = begun_at before m t.place (xid_in learnt.reply) t.awaited in
      let reply_is : message ≡ learnt.reply = some_is message learnt.reply t.took in
      let xids : call.awaited.xid ≡ b.init.xid = sym by.xid_is ∙ ap xid_in reply_is ∙ sym b.xid_is in
      let same : place ≡ t.place = g.distinct place t.place (Under context aim call) (Init b.init) there b.there xids in
      let both : Some (Under context aim call) ≡ Some (Init b.init) = sym there ∙ ap (pending_at m) same ∙ b.there in
      cc

  hears : (o : Heard × Mounted) → Shrinks who m o.1
      → ((root : Context) → laws.LearnsRoot (spelling who.accepts who.whose) m.server (caller_of before m) (hearing message o.0) root → ⊥)
      → IsHeard who before after m message o
  hears o s unlearnt = record {
    good = shrunk_good who m o.1 s g;
    obeys = shrunk_obeys who m o.1 s before after g goes (hearing message o.0) (λ x c. none_sent x c) unlearnt;
  }

  hears_none : (told : Told) (w : Mounted) → Shrinks who m w → IsHeard who before after m message (heard told None w)
  hears_none told w s = hears (heard told None w) s (unsealed_unlearnt told)

  hears_under : (context : ℕ) (aim : Aim) (call : Asking) → pending_at m place ≡ Some (Under context aim call) → IsReplyBy call.awaited.xid message
      → (o : Heard × Mounted) → Shrinks who m o.1 → IsHeard who before after m message o
  hears_under context aim call there by o s = hears o s (under_unlearnt context aim call there by o.0)

  emptied_s : Shrinks who m (emptied place m)
  emptied_s = emptied_shrinks who m place g

  emptied_good : IsGood who (emptied place m)
  emptied_good = shrunk_good who m (emptied place m) emptied_s g

  lost_s : (b : Bool) → Shrinks who m (fallen_if b (emptied place m))
  lost_s b = shrinks_on who m (emptied place m) (fallen_if b (emptied place m)) emptied_s (fallen_if_shrinks who (emptied place m) b emptied_good)

  fallen_s : Shrinks who m (fallen (emptied place m))
  fallen_s = shrinks_on who m (emptied place m) (fallen (emptied place m)) emptied_s (fallen_shrinks who (emptied place m))

  unmatched : IsHeard who before after m message (heard tells.Unmatched None m)
  unmatched = hears_none tells.Unmatched m (shrinks_itself who m g)

  -- ---- the answer to a compound

  step_s : (root : Root) (reclaims : Bool) (status : Status) (told : _) (accepted : Option Seal) → m.standing ≡ standings.Rooted root
      → (next : Result Setup Status) → after_answer reclaims status told root.setup ≡ next → Shrinks who m (after_step next accepted (emptied place m)).1
  step_s root reclaims status told accepted is (Ok setup) next =
      shrinks_on who m (emptied place m) (record (emptied place m) { standing = stepped_to setup m.standing }) emptied_s
      (stepped_shrinks who (emptied place m) setup emptied_good
      (λ r there down.
      let same : root ≡ r = rooted_same (sym is ∙ there) in
      ap (λ (x : Root). x.setup) (sym same) ∙ answer_up reclaims status told root.setup setup next down))
  step_s root reclaims status told accepted is (Err status') next = lost_s (is_lost status')

  setup_s : (st : Standing) (reply : Reply) (accepted : Option Seal) → m.standing ≡ st → Shrinks who m (after_setup st reply accepted (emptied place m)).1
  setup_s (standings.Down kept) reply accepted is = emptied_s
  setup_s (standings.Rooted root) reply accepted is = step_s root m.reclaims reply.status reply.results accepted is (after_answer m.reclaims reply.status reply.results root.setup) refl

  reply_s : (aim : Aim) (present : Bool) (reply : Reply) (accepted : Option Seal) → Shrinks who m (after_reply aim present reply accepted (emptied place m)).1
  reply_s aims.Setup present reply accepted = setup_s m.standing reply accepted refl
  reply_s (aims.Child child) present reply accepted = emptied_s
  reply_s aims.Slot present reply accepted = lost_s (present && is_lost reply.status)
  reply_s aims.End present reply accepted = emptied_s

  call_heard : (context : ℕ) (aim : Aim) (call : Asking) (present : Bool) (taken : Taken) → pending_at m place ≡ Some (Under context aim call)
      → TakenSays call.awaited.xid message taken → IsHeard who before after m message (after_call place aim present call.seal taken m)
  call_heard context aim call present (answers.Answer reply) there says = hears_under context aim call there says _ (reply_s aim present reply (Some call.seal))
  call_heard context aim call present answers.Misspelt there says = hears_under context aim call there says _ emptied_s
  call_heard context aim call present (answers.Failed stat) there says = hears_none (tells.Failed stat) (emptied place m) emptied_s
  call_heard context aim call present (answers.Denied why) there says = hears_none (tells.Denied why) (fallen_if present (emptied place m)) (lost_s present)
  call_heard context aim call present answers.Unmatched there says = unmatched

  -- ---- the answer to INIT

  abbrev new_root : Beginning → List ℕ → List ℕ → held.Context
  new_root init handle key = record { name = init.xid; mount = init.xid; root = handle; key = key; caller = new_side m handle key }

  abbrev standing_new : Beginning → Standing
  standing_new init = standings.Rooted (record { name = init.xid; setup = rooted init.nonce; numbers = fresh_numbers })

  no_init : (init : Beginning) (handle key : List ℕ) → pending_at m place ≡ Some (Init init) → (other : ℕ) (b : Beginning)
      → pending_at (gained m place (new_root init handle key) (standing_new init) no_children) other ≡ Some (Init b) → ⊥
  no_init init handle key there other b at =
      let new : held.Context = new_root init handle key in
      let st : Standing = standing_new init in
      apart who m place new st no_children g other (Init b) at (g.alone other place b init (pending_is who m place new st no_children g other (Init b) at) there)

  root_fair : (init : Beginning) (handle key : List ℕ) → pending_at m place ≡ Some (Init init) → (other : ℕ) (p : Pending)
      → pending_at (gained m place (new_root init handle key) (standing_new init) no_children) other ≡ Some p
      → IsFair who (gained m place (new_root init handle key) (standing_new init) no_children) other p
  root_fair init handle key there other (Init b) at = absurd (no_init init handle key there other b at)
  root_fair init handle key there other (Under context aim call) at =
      let new : held.Context = new_root init handle key in
      let st : Standing = standing_new init in
      let down = (g.fair place (Init init) there).down in
      let fair = g.fair other (Under context aim call) (pending_is who m place new st no_children g other (Under context aim call) at) in
      fair_is who m place new st no_children g (Init init) other context aim call there refl at (λ no. let rooted = fair.rooted no in absurd cc)

  root_heard : (init : Beginning) (handle key : List ℕ) → pending_at m place ≡ Some (Init init) → GivesRoot init.xid message handle
      → IsHeard who before after m message (after_init place init (begins.Made handle key) m)
  root_heard init handle key there gives =
      let fair = g.fair place (Init init) there in
      let new : held.Context = new_root init handle key in
      let st : Standing = standing_new init in
      let w : Mounted = gained m place new st no_children in
      let face_root : face_of init.xid w.contexts ≡ Some (face new) =
      face_gained who m place new st no_children g (used_root init.xid no_children (set m.places place None)) fair.numbered.unnamed in
      let awaits : (other : ℕ) (x : Awaited) → (caller_of after w).awaits other ≡ Some x → (caller_of before m).awaits other ≡ Some x =
      awaits_is who m place new st no_children g before after goes in
      let learnt : laws.LearnsRoot (spelling who.accepts who.whose) m.server (caller_of before m)
      (hearing message (record { told = tells.Rooted; accepted = Some (seal_of (new_side m handle key) 0) })) (handle_named handle) =
      record {
        seal = seal_of (new_side m handle key) 0;
        reply = message;
        takes = record {
          place = place;
          took = refl;
          is_reply = gives.by.is_one;
          accepted = refl;
          awaited = ap (option_map (awaited_in m.contexts (before.purpose place))) there ∙ ap (λ (x : ℕ). Some (seen x Begins)) (sym gives.by.xid_is);
        };
        own = refl;
        root_is = refl;
      } in
      let good : IsGood who w = record {
        places = length-set m.places place None ∙ g.places;
        held = λ name f at. held_is who m place new st no_children g name f gives.eight refl fair.numbered.below at;
        fair = λ other p at. root_fair init handle key there other p at;
        distinct = λ one other p q at_one at_other same.
            g.distinct one other p q (pending_is who m place new st no_children g one p at_one) (pending_is who m place new st no_children g other q at_other) same;
        alone = λ one other a b at_one at_other. absurd (no_init init handle key there one a at_one);
        root = λ name is. record { face = face new; there = ap (λ (n : ℕ). face_of n w.contexts) (sym (some_is init.xid name is)) ∙ face_root; own = refl };
        up = λ r is. subst IsUp (rooted_same is) (record { numbers = refl; set_up = λ down. cc });
        children = λ child name root f h is face_there root_there root_face. absurd (no_child child name is);
        kept = λ i is. absurd cc;
      } in
      record {
        good = good;
        obeys = record {
          boot = omega (arith, goes.boot);
          calls = λ same. goes.calls;
          fresh = λ bytes seal sends call. absurd (none_sent _ sends);
          one = λ bytes other seal seal' sends sends' call call' same. absurd (none_sent _ sends);
          directed = λ bytes call seal sends own reply took. absurd (none_sent _ sends);
          simple = λ bytes seal name sends own named. absurd (none_sent _ sends);
          has = λ context root at.
              elim (has_is who m place new st no_children g context root at) [
                | inl was ↦ inl was
                | inr that ↦
                    inr (inl (
                      that.0 ∙ sym that.1,
                      subst (λ (r : Context). laws.LearnsRoot (spelling who.accepts who.whose) m.server (caller_of before m)
                          (hearing message (record { told = tells.Rooted; accepted = Some (seal_of (new_side m handle key) 0) })) r) (sym that.1) learnt,
                    ))
              ];
          begin = λ root learns other xid at.
              let b = begun_at after w other xid at in
              no_init init handle key there other b.init b.there;
          mount = λ root at.
              let is : handle_named handle ≡ root = some_is (handle_named handle) root (ap root_seen (sym face_root) ∙ at) in
              inr (subst (λ (r : Context). laws.LearnsRoot (spelling who.accepts who.whose) m.server (caller_of before m)
              (hearing message (record { told = tells.Rooted; accepted = Some (seal_of (new_side m handle key) 0) })) r) is learnt);
          awaits = λ other x at. inl (goes.boot, awaits other x at);
          goes_on = λ other xid seal call at. inl (goes.boot, (xid, seal, awaits other (seen xid (Slotted seal call)) at));
          sends = λ bytes seal name sends own named. absurd (none_sent _ sends);
          in_slot = λ other xid seal call at. in_slot who after w other xid seal call good at;
        };
      }

  init_heard : (init : Beginning) (begun : Begun) → pending_at m place ≡ Some (Init init) → BegunSays init.xid message begun
      → IsHeard who before after m message (after_init place init begun m)
  init_heard init (begins.Made handle key) there says = root_heard init handle key there says
  init_heard init (begins.Refused major) there says = hears_none (tells.Refused major) (fallen (emptied place m)) fallen_s
  init_heard init (begins.Failed stat) there says = hears_none (tells.Failed stat) (record (emptied place m) { standing = standings.Down (Some init) }) (kept_shrinks who m place init g there)
  init_heard init (begins.Denied why) there says = hears_none (tells.Denied why) (fallen (emptied place m)) fallen_s
  init_heard init begins.Unmatched there says = unmatched

  -- ---- the answer to CREATE

  abbrev new_child : ℕ → held.Context → List ℕ → List ℕ → held.Context
  new_child name c handle key = record { name = name; mount = c.mount; root = c.root; key = key; caller = new_side m handle key }

  abbrev children_new : ℕ → ℕ → List (Option ℕ)
  children_new child name = set m.children child (Some name)

  child_fair : (context child : ℕ) (call : Asking) (c : held.Context) (handle key : List ℕ) → pending_at m place ≡ Some (Under context (aims.Child child) call) → (other : ℕ) (q : Pending)
      → pending_at (gained m place (new_child call.awaited.xid c handle key) m.standing (children_new child call.awaited.xid)) other ≡ Some q
      → IsFair who (gained m place (new_child call.awaited.xid c handle key) m.standing (children_new child call.awaited.xid)) other q
  child_fair context child call c handle key there other (Init b) at =
      let new : held.Context = new_child call.awaited.xid c handle key in
      let kids : List (Option ℕ) = children_new child call.awaited.xid in
      let fair = g.fair other (Init b) (pending_is who m place new m.standing kids g other (Init b) at) in
      record {
        numbered = unnamed_is who m place new m.standing kids g (Under context (aims.Child child) call) b.xid other there refl (Init b) at refl fair.numbered;
        token = fair.token;
        down = fair.down;
      }
  child_fair context child call c handle key there other (Under under aim k) at =
      let new : held.Context = new_child call.awaited.xid c handle key in
      let kids : List (Option ℕ) = children_new child call.awaited.xid in
      let fair = g.fair other (Under under aim k) (pending_is who m place new m.standing kids g other (Under under aim k) at) in
      fair_is who m place new m.standing kids g (Under context (aims.Child child) call) other under aim k there refl at fair.rooted

  mount_kept : (w : Mounted) → ((name : ℕ) → root_name m.standing ≡ Some name → (f : Face) → face_of name m.contexts ≡ Some f → face_of name w.contexts ≡ Some f)
      → (st : Standing) (root : Context) → m.standing ≡ st → mount_in st w.contexts ≡ Some root
      → (mount_in st m.contexts ≡ Some root) × ((slot : ℕ) → next_in st slot ≤ next_in st slot)
  mount_kept w needed (standings.Down kept) root is at = absurd cc
  mount_kept w needed (standings.Rooted r) root is at =
      let name : root_name m.standing ≡ Some r.name = ap root_name is in
      let k = g.root r.name name in
      (ap root_seen (k.there ∙ sym (needed r.name name k.face k.there)) ∙ at, λ slot. omega arith)

  child_heard : (context child : ℕ) (call : Asking) (c : held.Context) (handle key : List ℕ) → pending_at m place ≡ Some (Under context (aims.Child child) call)
      → context_of context m.contexts ≡ Some c → GivesChild call.awaited.xid message handle
      → IsHeard who before after m message (heard (tells.Child child) (Some call.seal) (with_context child call.awaited.xid (parent_of c) handle key (emptied place m)))
  child_heard context child call c handle key there found gives =
      let p : Pending = Under context (aims.Child child) call in
      let fair = g.fair place p there in
      let xid : ℕ = call.awaited.xid in
      let new : held.Context = new_child xid c handle key in
      let st : Standing = m.standing in
      let kids : List (Option ℕ) = children_new child xid in
      let w : Mounted = gained m place new st kids in
      let at_root : root_name m.standing ≡ Some context = fair.rooted refl in
      let r = g.root context at_root in
      let face_c : face_of context m.contexts ≡ Some (face c) = ap (option_map face) found in
      let root_c : face c ≡ r.face = some_is (face c) r.face (sym face_c ∙ r.there) in
      let own : c.caller.handle ≡ c.root = ap (λ (f : Face). f.handle) root_c ∙ r.own ∙ ap (λ (f : Face). f.root) (sym root_c) in
      let sealed : sealed_under call.seal ≡ handle_named c.root =
      fair.under
      ∙ ap (λ (f : Face). handle_named f.handle) (some_is fair.face (face c) (sym fair.there ∙ face_c))
      ∙ ap handle_named own in
      let created = create_of child call.asked fair.aim_fits in
      let has_root : has_in m.contexts (handle_named c.root) (handle_named c.root) ≡ true =
      subst (λ (h : List ℕ). has_in m.contexts (handle_named h) (handle_named c.root) ≡ true) own (held_found m.contexts context (face c) face_c) in
      let learnt : laws.LearnsChild (spelling who.accepts who.whose) (caller_of before m) (hearing message (record { told = tells.Child child; accepted = Some call.seal }))
      (handle_named handle) (handle_named c.root) =
      record {
        seal = call.seal;
        reply = message;
        takes = record {
          place = place;
          took = refl;
          is_reply = gives.by.is_one;
          accepted = refl;
          awaited = ap (option_map (awaited_in m.contexts (before.purpose place))) there
              ∙ ap (λ (f : Option Face). Some (seen xid (what_under f call.seal ForOther call.asked))) face_c
              ∙ ap (λ (a : Asked). Some (seen xid (what_asked call.seal (handle_named c.root) ForOther a))) created.is
              ∙ ap (λ (x : ℕ). Some (seen x (Makes call.seal))) (sym gives.by.xid_is);
        };
        child_is = gives.given;
        root_is = sealed;
        has_root = has_root;
      } in
      let needed : (name : ℕ) → root_name m.standing ≡ Some name → (f : Face) → face_of name m.contexts ≡ Some f → face_of name w.contexts ≡ Some f =
      λ name is f at.
      face_needed who m place new st kids g name f
      (subst (λ (o : Option ℕ). is_used o kids (set m.places place None) name ≡ true) (sym is) (used_root name kids (set m.places place None))) at in
      let good : IsGood who w = record {
        places = length-set m.places place None ∙ g.places;
        held = λ name f at. held_is who m place new st kids g name f gives.eight refl fair.numbered.below at;
        fair = λ other q at. child_fair context child call c handle key there other q at;
        distinct = λ one other a b at_one at_other same.
            g.distinct one other a b (pending_is who m place new st kids g one a at_one) (pending_is who m place new st kids g other b at_other) same;
        alone = λ one other a b at_one at_other.
            g.alone one other a b (pending_is who m place new st kids g one (Init a) at_one) (pending_is who m place new st kids g other (Init b) at_other);
        root = λ name is.
            let k = g.root name is in
            record { face = k.face; there = needed name is k.face k.there; own = k.own };
        up = g.up;
        children = λ j n root f h is face_there root_there root_face.
            let k = g.root root root_there in
            let h_is : k.face ≡ h = some_is k.face h (sym (needed root root_there k.face k.there) ∙ root_face) in
            let h_was : face_of root m.contexts ≡ Some h = k.there ∙ ap (λ (x : Face). Some x) h_is in
            let same : context ≡ root = some_is context root (sym at_root ∙ root_there) in
            let c_is : face c ≡ h = some_is (face c) h (sym face_c ∙ ap (λ (x : ℕ). face_of x m.contexts) same ∙ h_was) in
            elim (face_is who m place new st kids g n f face_there) [
              | inl was ↦ elim (filled_was m.children child j xid n is) [
                | inl that ↦ let none : face_of n m.contexts ≡ None = ap (λ (x : ℕ). face_of x m.contexts) (sym that) ∙ fair.numbered.unnamed in absurd cc
                | inr child_was ↦ g.children j n root f h child_was was root_there h_was
              ]
              | inr that ↦ ap (λ (x : Face). x.root) (sym that.1) ∙ ap (λ (x : Face). x.root) c_is
            ];
        kept = g.kept;
      } in
      let awaits : (other : ℕ) (x : Awaited) → (caller_of after w).awaits other ≡ Some x → (caller_of before m).awaits other ≡ Some x =
      awaits_is who m place new st kids g before after goes in
      record {
        good = good;
        obeys = record {
          boot = omega (arith, goes.boot);
          calls = λ same. goes.calls;
          fresh = λ bytes seal sends call. absurd (none_sent _ sends);
          one = λ bytes other seal seal' sends sends' call call' same. absurd (none_sent _ sends);
          directed = λ bytes call seal sends own reply took. absurd (none_sent _ sends);
          simple = λ bytes seal name sends own named. absurd (none_sent _ sends);
          has = λ ctx root at.
              elim (has_is who m place new st kids g ctx root at) [
                | inl was ↦ inl was
                | inr that ↦
                    inr (inr (subst (λ (x : Context). laws.LearnsChild (spelling who.accepts who.whose) (caller_of before m)
                    (hearing message (record { told = tells.Child child; accepted = Some call.seal })) x root) (sym that.0)
                    (subst (λ (x : Context). laws.LearnsChild (spelling who.accepts who.whose) (caller_of before m)
                    (hearing message (record { told = tells.Child child; accepted = Some call.seal })) (handle_named handle) x) (sym that.1) learnt)))
              ];
          begin = λ root learns.
              absurd (under_unlearnt context (aims.Child child) call there gives.by (record { told = tells.Child child; accepted = Some call.seal }) root learns);
          mount = λ root at. inl (mount_kept w needed m.standing root refl at);
          awaits = λ other x at. inl (goes.boot, awaits other x at);
          goes_on = λ other xid seal call at. inl (goes.boot, (xid, seal, awaits other (seen xid (Slotted seal call)) at));
          sends = λ bytes seal name sends own named. absurd (none_sent _ sends);
          in_slot = λ other xid seal call at. in_slot who after w other xid seal call good at;
        };
      }

  create_heard : (derived : List ℕ → ℕ → List ℕ → List ℕ) (context child : ℕ) (call : Asking) (c : held.Context) (taken : TakenChild)
      → pending_at m place ≡ Some (Under context (aims.Child child) call) → context_of context m.contexts ≡ Some c → ChildSays call.awaited.xid message taken
      → IsHeard who before after m message (after_create derived place child (parent_of c) call.seal call.awaited.xid taken m)
  create_heard derived context child call c (children.Made handle) there found says = child_heard context child call c handle (derived c.key CHILD_KEY handle) there found says
  create_heard derived context child call c (children.Refused major) there found says = hears_under context (aims.Child child) call there says _ emptied_s
  create_heard derived context child call c children.Misspelt there found says = hears_under context (aims.Child child) call there says _ emptied_s
  create_heard derived context child call c (children.Failed stat) there found says = hears_none (tells.Failed stat) (emptied place m) emptied_s
  create_heard derived context child call c (children.Denied why) there found says = hears_none (tells.Denied why) (emptied place m) emptied_s
  create_heard derived context child call c children.Unmatched there found says = unmatched

  -- ---- a record at a place

  module _ (means : Means) (all : IsBytes message) where
    aim_heard : (context : ℕ) (aim : Aim) (call : Asking) (c : held.Context) → pending_at m place ≡ Some (Under context aim call) → context_of context m.contexts ≡ Some c
        → IsHeard who before after m message (by_aim means place message (child_for aim) aim call c m)
    aim_heard context (aims.Child child) call c there found =
        create_heard means.derived context child call c (child_of means.mic c.caller.key call.awaited message) there found (child_says means.mic c.caller.key call.awaited message all)
    aim_heard context aims.Setup call c there found =
        call_heard context aims.Setup call (is_present m.standing c) (taken_of means.mic c.caller.key call.awaited (asked.ops_of call.asked) message) there
        (taken_says means.mic c.caller.key call.awaited (asked.ops_of call.asked) message all)
    aim_heard context aims.Slot call c there found =
        call_heard context aims.Slot call (is_present m.standing c) (taken_of means.mic c.caller.key call.awaited (asked.ops_of call.asked) message) there
        (taken_says means.mic c.caller.key call.awaited (asked.ops_of call.asked) message all)
    aim_heard context aims.End call c there found =
        call_heard context aims.End call (is_present m.standing c) (taken_of means.mic c.caller.key call.awaited (asked.ops_of call.asked) message) there
        (taken_says means.mic c.caller.key call.awaited (asked.ops_of call.asked) message all)

    context_heard : (context : ℕ) (aim : Aim) (call : Asking) → pending_at m place ≡ Some (Under context aim call) → (o : Option held.Context) → context_of context m.contexts ≡ o
        → IsHeard who before after m message (by_context means place message aim call o m)
    context_heard context aim call there None found = unmatched
    context_heard context aim call there (Some c) found = aim_heard context aim call c there found

    pending_heard : (p : Pending) → pending_at m place ≡ Some p → IsHeard who before after m message (by_pending means place message p m)
    pending_heard (Init init) there =
        init_heard init (begun_of means.mic (means.finished init.nonce) init.xid message) there (begun_says means.mic (means.finished init.nonce) init.xid message all)
    pending_heard (Under context aim call) there = context_heard context aim call there (context_of context m.contexts) refl

    awaiting_heard : (o : Option Awaiting) → awaited_at m place ≡ o → IsHeard who before after m message (by_awaiting means place message o m)
    awaiting_heard None is = unmatched
    awaiting_heard (Some a) is = pending_heard a.pending (ap pending_in is)

    pub take_right : IsHeard who before after m message (taken_at means place message m)
    take_right = awaiting_heard (awaited_at m place) refl
