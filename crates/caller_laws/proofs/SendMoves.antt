-- Each call that goes out of a mount: what is then awaited, and that the step obeys a wire's laws.
use Rattle.std.proofs.Common.{◌≡◌, ◌⊎◌, inl, inr, ℕ, zero, suc, ◌+◌, ◌<◌, ◌≤◌, ◌^◌, Bool, true, false, List, [], ◌∷◌, length, get_or, set, Option, Some, None, refl, sym, ap, subst, ◌∙◌, arith}
use Rattle.std.specs.Prelude.{◌≢◌, Contains, nat_lt, option_map, slice_index}
use Rattle.std.specs.List.{AllByRecursion, list_any}
use Rattle.std.proofs.lemmas.Bool.{false≢true, ltb-true, or_left, or_right}
use Rattle.std.proofs.lemmas.List.{get_or-set_other, get_or-set_same, length-set}
use Rattle.wire_xdr.specs.Cursor.{IsBytes}
use Rattle.gss_mech.specs.Tokens.{IsSized}
use Rattle.gss_ctx.specs.Init.{init_message}
use Rattle.gss_ctx.specs.Seals.{Mic}
use Rattle.nfs_base.specs.declared.seal.End.{End}
use Rattle.nfs_base.specs.declared.seal.Seal.{Seal}
use Rattle.nfs_compound.specs.Compounds.{compound_bytes}
use Rattle.nfs_compound.specs.Ops.{op_is_cut}
use Rattle.nfs_compound.specs.VolumeCalls.{volume_calls}
use Rattle.nfs_compound.specs.declared.compound.Compound.{Compound}
use Rattle.session_calls.specs.Calls.{IsSendable, slot_compound, slot_ops, sole_compound}
use Rattle.session_calls.specs.declared.slot_call.FileCall.{FileCall}
use Rattle.session_calls.specs.declared.slot_call.FileCall.TheVariants as files
use Rattle.session_calls.specs.declared.slot_call.SlotCall.{SlotCall}
use Rattle.session_calls.specs.declared.slot_call.SlotCall.TheVariants as slots
use Rattle.session_calls.specs.declared.slot_call.SlotUse.{SlotUse}
use Rattle.session_calls.specs.declared.sole_call.BackChannel.{BackChannel}
use Rattle.session_calls.specs.declared.sole_call.SoleCall.{SoleCall}
use Rattle.session_calls.specs.declared.sole_call.SoleCall.TheVariants as soles
use Rattle.session_client.specs.Asked.{AskedFits, args_of, asked_call, called_if, create_args}
use Rattle.session_client.specs.Pending.{Asking, Beginning, asking}
use Rattle.session_client.specs.Sealing.{after_call}
use Rattle.session_client.specs.Setup.{next_call}
use Rattle.session_client.specs.Slots.{after_new}
use Rattle.session_client.specs.declared.asked.Asked.{Asked}
use Rattle.session_client.specs.declared.asked.Asked.TheVariants as asks
use Rattle.session_client.specs.declared.sealing.SealedCall.{SealedCall}
use Rattle.session_client.specs.declared.setup.Setup.TheVariants as setups
use Rattle.mount.specs.Falling.{stays_for}
use Rattle.mount.specs.Sending as sends
use Rattle.mount.specs.State.{Mounted, awaited_at, child_name, context_of, is_setting_up, kept_in, pending_at, pending_in, place_sets_up, root_name, sets_up, setup_in}
use Rattle.mount.specs.declared.calling.Ending.{Ending}
use Rattle.mount.specs.declared.calling.Ending.TheVariants as endings
use Rattle.mount.specs.declared.calling.Under as under
use Rattle.mount.specs.declared.calling.Under.TheVariants as unders
use Rattle.mount.specs.declared.machine.SendAt.{SendAt}
use Rattle.mount.specs.declared.machine.Sent as out
use Rattle.mount.specs.declared.state.Aim.{Aim}
use Rattle.mount.specs.declared.state.Aim.TheVariants as aims
use Rattle.mount.specs.declared.state.Awaiting.{Awaiting}
use Rattle.mount.specs.declared.state.Context as held
use Rattle.mount.specs.declared.state.Pending.{Pending}
use Rattle.mount.specs.declared.state.Pending.TheVariants.{Init, Under}
use Rattle.mount.specs.declared.state.Root.{Root}
use Rattle.mount.specs.declared.state.Standing.{Standing}
use Rattle.mount.specs.declared.state.Standing.TheVariants.{Down, Rooted}
use Rattle.wire_model.specs.CallerLaws as laws
use Rattle.wire_model.specs.Spelling.{Context, SlotName}
use Rattle.wire_model.specs.Wire.{Awaited, Call, Purpose, Slotted, Begins}
use Rattle.wire_spelling.specs.Calls.{xid_in}
use Rattle.wire_spelling.specs.Slots.{first_slot, ops_of, slot_of}
use Rattle.wire_spelling.specs.Spelling.{spelling}
use Rattle.caller_laws.specs.Good.{FitsAim, Identity, IsAsked, IsGood, IsOurs, IsOwnToken}
use Rattle.caller_laws.specs.Duties.{SendsOwnCalls}
use Rattle.caller_laws.specs.Joining.{Keeps}
use Rattle.caller_laws.specs.Lawful.{GoesOn, MaySend}
use Rattle.caller_laws.specs.Moves.{Send, Begin, BeginAnew, SetUp, Reclaim, InSlot, Make, Finish, Again, sending, sent_by}
use Rattle.caller_laws.specs.View.{Above, Face, awaited_in, caller_of, face, face_of, handle_named, mount_in, next_in, purpose_of, root_seen, what_asked, what_named, what_under}
use Rattle.caller_laws.proofs.Faces.{numbered_face, numbered_has, some_is}
use Rattle.caller_laws.proofs.SentLaws.{IsSaid, WasRooted, WentOut, kept_on, sent_calls, sent_good, sent_obeys, unnamed_new}
use Rattle.caller_laws.proofs.Shrunk.{Shrinks, awaiting_of, mapped, seen, shrunk_obeys}
use Rattle.caller_laws.proofs.Spoken.{AreRead, IsOpen, SaysAsked, says_asked, says_init, slot_in_asked}

-- what lower layers say: what is written is read, and no call of these ends calls a volume twice
pub record Known : Type 0 where
  pub read : AreRead
  pub in_slot : (slot : SlotUse) (call : SlotCall) → volume_calls (slot_compound slot call).ops ≤ 1
  pub alone : (call : SoleCall) → volume_calls (sole_compound call).ops ≤ 1

-- the mount afterwards is as it should be, and the step obeys
pub record IsRight (who : Identity) (before after : Above) (m : Mounted) (o : Option out.Sent × Mounted) : Type 0 where
  pub good : IsGood who o.1
  pub obeys : laws.CallerLaws (spelling who.accepts who.whose) m.server who.own (caller_of before m) (caller_of after o.1) (sending o.0)
  pub calls : SendsOwnCalls before after (sending o.0)
  pub keeps : ((other : ℕ) (q : Pending) → pending_at m other ≡ Some q → pending_at o.1 other ≡ Some q) → Keeps (caller_of before m) (caller_of after o.1)

abbrev pub Right : Identity → Above → Above → Mounted → Option out.Sent × Mounted → Type 0
Right who before after m o = ((sent : out.Sent) → o.0 ≡ Some sent → IsBytes sent.bytes) → IsRight who before after m o

-- ---- nothing goes out

pub shrinks_itself : (who : Identity) (m : Mounted) → IsGood who m → Shrinks who m m
shrinks_itself who m g = record {
  server = refl;
  calls = refl;
  places = refl;
  faces = λ name f there. there;
  holds = λ context root there. there;
  awaited = λ place p there. there;
  under = λ place context aim call there. refl;
  aims = λ place context aim call there other. refl;
  standing = λ r is. record { was = r; is = is; name = refl; numbers = refl; set_up = λ down. down; face = refl };
  children = λ child name there. there;
  kept = g.kept;
}

pub none_sent : {X : Type 0} (x : X) → Contains [] x → ⊥
none_sent x c = let lt : c.0 < 0 = c.1 in omega arith

pub nothing_goes : (who : Identity) (before after : Above) (m : Mounted) → IsGood who m → GoesOn m before after → IsRight who before after m (None, m)
nothing_goes who before after m g goes = record {
  good = g;
  obeys = shrunk_obeys who m m (shrinks_itself who m g) before after g goes (sending None) (λ x c. none_sent x c) (λ root learnt. let took = learnt.takes.took in cc);
  calls = λ bytes seal sends. absurd (none_sent _ sends);
  keeps = λ stays. kept_on before after m m goes (λ name. refl) refl stays;
}

-- ---- compounds of these ends

uncut_file : (call : FileCall) → (file : _) → AllByRecursion (λ op. op_is_cut op ≡ false) (slot_ops (slots.OnFile file call))
uncut_file (files.Close id) file = (refl, (refl, tt))
uncut_file (files.Write id offset bytes) file = (refl, (refl, tt))
uncut_file files.Commit file = (refl, (refl, tt))
uncut_file files.Change file = (refl, (refl, tt))
uncut_file files.ChangeAndSize file = (refl, (refl, tt))
uncut_file (files.Read id offset count) file = (refl, (refl, tt))
uncut_file (files.Status id) file = (refl, (refl, tt))
uncut_file (files.Cancel id) file = (refl, (refl, tt))

uncut_slot : (call : SlotCall) → AllByRecursion (λ op. op_is_cut op ≡ false) (slot_ops call)
uncut_slot slots.ReclaimComplete = (refl, tt)
uncut_slot (slots.Open client owner name) = (refl, (refl, (refl, tt)))
uncut_slot (slots.OnFile file call) = uncut_file call file
uncut_slot (slots.Notify file id destination) = (refl, (refl, (refl, tt)))
uncut_slot (slots.Copy source_file source_id file id range source) = (refl, (refl, (refl, (refl, tt))))

slot_ours : Known → (slot_use : SlotUse) (call : SlotCall) → IsSendable (slot_compound slot_use call) → IsOurs slot_use.slot (slot_compound slot_use call)
slot_ours known slot_use call whole = record {
  sendable = whole;
  counted = refl;
  uncut = (refl, uncut_slot call);
  simple = known.in_slot slot_use call;
  slot = λ name is. sym (ap (λ (n : SlotName). n.slot) (some_is _ name is));
}

sole_uncut : (call : SoleCall) → AllByRecursion (λ op. op_is_cut op ≡ false) (sole_compound call).ops
sole_uncut (soles.ExchangeId verifier owner) = (refl, tt)
sole_uncut (soles.CreateSession client sequence None) = (refl, tt)
sole_uncut (soles.CreateSession client sequence (Some back)) = (refl, tt)
sole_uncut (soles.DestroySession session) = (refl, tt)
sole_uncut (soles.DestroyClientId client) = (refl, tt)

-- what stands alone names no slot
sole_unslotted : (call : SoleCall) → first_slot (sole_compound call).ops ≡ None
sole_unslotted (soles.ExchangeId verifier owner) = refl
sole_unslotted (soles.CreateSession client sequence None) = refl
sole_unslotted (soles.CreateSession client sequence (Some back)) = refl
sole_unslotted (soles.DestroySession session) = refl
sole_unslotted (soles.DestroyClientId client) = refl

sole_ours : Known → (place : ℕ) (call : SoleCall) → IsSendable (sole_compound call) → IsOurs place (sole_compound call)
sole_ours known place call whole = record {
  sendable = whole;
  counted = refl;
  uncut = sole_uncut call;
  simple = known.alone call;
  slot = λ name is. let none : first_slot (sole_compound call).ops ≡ None = sole_unslotted call in absurd cc;
}

-- ---- what a record under a context says is what is awaited

named_fits : (who : Identity) (owner : End) (bytes : List ℕ) (seal : Seal) (root : Context) (ops : List ℕ) (purpose : Purpose) (name : Option SlotName)
    → seal.owner ≡ owner → slot_of bytes ≡ name → ops_of bytes ≡ ops
    → laws.FitsWhat (spelling who.accepts who.whose) owner who.own bytes (Some seal) (what_named seal root ops purpose name)
named_fits who owner bytes seal root ops purpose None own slot same = tt
named_fits who owner bytes seal root ops purpose (Some name) own slot same = (refl, own, (name, slot, refl, refl), same)

asked_fits : (who : Identity) (owner : End) (xid : ℕ) (bytes : List ℕ) (seal : Seal) (root : Context) (purpose : Purpose) (asked : Asked)
    → seal.owner ≡ owner → SaysAsked xid asked bytes
    → laws.FitsWhat (spelling who.accepts who.whose) owner who.own bytes (Some seal) (what_asked seal root purpose asked)
asked_fits who owner xid bytes seal root purpose (asks.Compound c) own says = named_fits who owner bytes seal root (compound_bytes c) purpose (first_slot c.ops) own says.slot says.ops
asked_fits who owner xid bytes seal root purpose (asks.Create args) own says = (refl, own, says.creates)
asked_fits who owner xid bytes seal root purpose asks.Destroy own says = tt

-- the call of a slot that is asked
abbrev call_named : Context → List ℕ → Purpose → SlotName → Call
call_named root ops purpose name = record { root = root; slot = name.slot; number = name.number; ops = ops; purpose = purpose }

named_on : (Q : Call → Type 0) (seal seal' : Seal) (root : Context) (ops : List ℕ) (purpose : Purpose) (call : Call) (name : Option SlotName)
    → what_named seal root ops purpose name ≡ Slotted seal' call → ((n : SlotName) → name ≡ Some n → Q (call_named root ops purpose n)) → Q call
named_on Q seal seal' root ops purpose call None h made = absurd cc
named_on Q seal seal' root ops purpose call (Some name) h made =
    let same : call_named root ops purpose name ≡ call = cc in
    subst Q same (made name refl)

asked_on : (Q : Call → Type 0) (seal seal' : Seal) (root : Context) (purpose : Purpose) (call : Call) (asked : Asked)
    → what_asked seal root purpose asked ≡ Slotted seal' call
    → ((d : Compound) (n : SlotName) → asked ≡ asks.Compound d → first_slot d.ops ≡ Some n → Q (call_named root (compound_bytes d) purpose n)) → Q call
asked_on Q seal seal' root purpose call (asks.Compound d) h made = named_on Q seal seal' root (compound_bytes d) purpose call (first_slot d.ops) h (λ n named. made d n refl named)
asked_on Q seal seal' root purpose call (asks.Create args) h made = absurd cc
asked_on Q seal seal' root purpose call asks.Destroy h made = absurd cc

-- ---- the machine above gave an xid

pub record IsGiven (before after : Above) (m : Mounted) (at : SendAt) : Type 0 where
  pub place : at.place < 16
  pub unused : m.calls < at.xid
  pub fresh : before.calls < at.xid
  pub counted : at.xid ≤ after.calls
  pub small : at.xid < 2 ^ 32

module _ (who : Identity) (before after : Above) (m : Mounted) (at : SendAt) (g : IsGood who m) (goes : GoesOn m before after) (given : IsGiven before after m at) where
  within : at.place < length m.places
  within =
      let many = g.places in
      let place = given.place in
      omega arith

  placed : (a : Awaiting) → get_or (set m.places at.place (Some a)) at.place None ≡ Some a
  placed a = get_or-set_same m.places at.place (Some a) None within

  elsewhere : (a : Awaiting) (other : ℕ) → other ≢ at.place → get_or (set m.places at.place (Some a)) other None ≡ get_or m.places other None
  elsewhere a other apart = get_or-set_other m.places at.place other (Some a) None apart

  -- ---- INIT

  abbrev init_sent : Beginning → Standing → Mounted
  init_sent init st = record m { calls = at.xid; standing = st; places = set m.places at.place (Some (record { sent_at = at.now; pending = Init (record init { xid = at.xid }) })) }

  init_went : (init : Beginning) (st : Standing) → root_name st ≡ None → root_name m.standing ≡ None → ((i : Beginning) → kept_in st ≡ Some i → IsOwnToken who i.token)
      → IsOwnToken who init.token → ((other : ℕ) (b : Beginning) → pending_at m other ≡ Some (Init b) → other ≡ at.place)
      → WentOut who m (init_sent init st) at.place (Init (record init { xid = at.xid }))
  init_went init st down was_down kept own alone = record {
    server = refl;
    calls = refl;
    rises = given.unused;
    places = length-set m.places at.place _;
    faces = λ name. refl;
    holds = λ context root. refl;
    here = ap pending_in (placed (record { sent_at = at.now; pending = Init (record init { xid = at.xid }) }));
    others = λ other apart. ap pending_in (elsewhere (record { sent_at = at.now; pending = Init (record init { xid = at.xid }) }) other apart);
    fair = record {
      numbered = record { below = omega arith; unnamed = unnamed_new who m at.xid g given.unused };
      token = own;
      down = down;
    };
    alone = λ i is other b there. alone other b there;
    standing = λ r is. let there : root_name st ≡ Some r.name = ap root_name is in absurd cc;
    root = down ∙ sym was_down;
    children = λ child name there. there;
    kept = kept;
  }

  init_right : (init : Beginning) (st : Standing) → root_name st ≡ None → root_name m.standing ≡ None → ((i : Beginning) → kept_in st ≡ Some i → IsOwnToken who i.token)
      → IsOwnToken who init.token → ((other : ℕ) (b : Beginning) → pending_at m other ≡ Some (Init b) → other ≡ at.place)
      → IsRight who before after m (Some (record { bytes = init_message at.xid init.token; seal = None }), init_sent init st)
  init_right init st down was_down kept own alone =
      let w : Mounted = init_sent init st in
      let p : Pending = Init (record init { xid = at.xid }) in
      let sent : out.Sent = record { bytes = init_message at.xid init.token; seal = None } in
      let went : WentOut who m w at.place p = init_went init st down was_down kept own alone in
      let says = says_init who at.xid init.token given.small own in
      let said : IsSaid who before after m w at.place p sent = record {
        says = says.call;
        fresh = given.fresh;
        counted = given.counted;
        fits = says.begun;
        simple = λ name named. let none = says.slot in absurd cc;
        on = λ xid seal call is. let what : Begins ≡ Slotted seal call = ap (λ (x : Awaited). x.what) is in absurd cc;
        slotted = λ seal name sealed named. absurd cc;
      } in
      record {
        good = sent_good who m w at.place p went g;
        obeys = sent_obeys who before after m w at.place p sent went g goes said;
        calls = sent_calls who before after m w at.place p sent went g goes said;
        keeps = λ stays. kept_on before after m w goes went.faces went.root stays;
      }

  -- ---- a call under a context

  module _ (mic : Mic) (sized : IsSized mic) (known : Known) where
    abbrev sealed : Asked → held.Context → SealedCall
    sealed asked c = asked_call mic c.caller at.xid asked

    abbrev awaiting : ℕ → Aim → Asked → held.Context → Awaiting
    awaiting context aim asked c = record { sent_at = at.now; pending = Under context aim (asking asked (sealed asked c)) }

    abbrev call_sent : ℕ → Aim → Asked → held.Context → Standing → Mounted
    call_sent context aim asked c st = record m {
      calls = at.xid;
      contexts = sends.numbered_once context (after_call c.caller) m.contexts;
      standing = st;
      places = set m.places at.place (Some (awaiting context aim asked c));
    }

    abbrev record_sent : Asked → held.Context → out.Sent
    record_sent asked c = record { bytes = (sealed asked c).bytes; seal = Some (sealed asked c).seal }

    -- what a call under a context is to the mount
    record IsCall (context : ℕ) (aim : Aim) (asked : Asked) (c : held.Context) (st : Standing) : Type 0 where
      found : context_of context m.contexts ≡ Some c
      left : c.caller.next < 2147483648
      ours : IsAsked at.place asked
      aim_fits : FitsAim aim asked
      standing : (r : Root) → st ≡ Rooted r → WasRooted m r
      root : root_name st ≡ root_name m.standing
      kept : (init : Beginning) → kept_in st ≡ Some init → IsOwnToken who init.token
      rooted : stays_for aim ≡ false → root_name m.standing ≡ Some context
      on : (d : Compound) (n : SlotName) → asked ≡ asks.Compound d → first_slot d.ops ≡ Some n
          → laws.GoesOn (caller_of before m) (caller_of after (call_sent context aim asked c st)) at.place
          (call_named (handle_named c.root) (compound_bytes d) (purpose_of aim (after.purpose at.place)) n)
          ⊎ laws.IsNew (caller_of before m) (caller_of after (call_sent context aim asked c st))
          (call_named (handle_named c.root) (compound_bytes d) (purpose_of aim (after.purpose at.place)) n)

    module _ (context : ℕ) (aim : Aim) (asked : Asked) (c : held.Context) (st : Standing) (is : IsCall context aim asked c st) where
      abbrev w : Mounted
      w = call_sent context aim asked c st

      abbrev p : Pending
      p = Under context aim (asking asked (sealed asked c))

      face_there : face_of context m.contexts ≡ Some (face c)
      face_there = ap (option_map face) is.found

      faces_same : (n : ℕ) → face_of n w.contexts ≡ face_of n m.contexts
      faces_same n = numbered_face context (after_call c.caller) m.contexts c n is.found refl refl

      face_here : face_of context w.contexts ≡ Some (face c)
      face_here = faces_same context ∙ face_there

      owner_is : (sealed asked c).seal.owner ≡ m.server
      owner_is = (g.held context (face c) face_there).owner

      call_went : WentOut who m w at.place p
      call_went = record {
        server = refl;
        calls = refl;
        rises = given.unused;
        places = length-set m.places at.place _;
        faces = faces_same;
        holds = λ ctx root. numbered_has context (after_call c.caller) m.contexts c ctx root is.found refl;
        here = ap pending_in (placed (awaiting context aim asked c));
        others = λ other apart. ap pending_in (elsewhere (awaiting context aim asked c) other apart);
        fair = record {
          numbered = record { below = omega arith; unnamed = faces_same at.xid ∙ unnamed_new who m at.xid g given.unused };
          face = face c;
          there = face_here;
          owner = owner_is;
          under = refl;
          asked = is.ours;
          aim_fits = is.aim_fits;
          rooted = λ other. is.root ∙ is.rooted other;
        };
        alone = λ init never. absurd cc;
        standing = is.standing;
        root = is.root;
        children = λ child name there. there;
        kept = is.kept;
      }

      open_is : IsOpen mic c.caller at.xid
      open_is = record { sized = sized; eight = (g.held context (face c) face_there).handle; small = given.small; left = is.left }

      purpose_here : Purpose
      purpose_here = purpose_of aim (after.purpose at.place)

      seen_here : awaited_in w.contexts (after.purpose at.place) p ≡ seen at.xid (what_asked (sealed asked c).seal (handle_named c.root) (purpose_of aim (after.purpose at.place)) asked)
      seen_here = ap (λ (f : Option Face). seen at.xid (what_under f (sealed asked c).seal (purpose_of aim (after.purpose at.place)) asked)) face_here

      slotted_here : (a : Asked) → a ≡ asked → (name : SlotName) → slot_in_asked a ≡ Some name → SaysAsked at.xid asked (sealed asked c).bytes
          → laws.IsAwaited (spelling who.accepts who.whose) (caller_of after w) (sealed asked c).bytes (sealed asked c).seal name
      slotted_here (asks.Compound d) same name named says =
          let call : Call = call_named (handle_named c.root) (compound_bytes d) (purpose_of aim (after.purpose at.place)) name in
          let place_is : name.slot ≡ at.place = (subst (IsAsked at.place) (sym same) is.ours).slot name named in
          let what_is : what_asked (sealed asked c).seal (handle_named c.root) (purpose_of aim (after.purpose at.place)) asked ≡ Slotted (sealed asked c).seal call =
          ap (what_asked (sealed asked c).seal (handle_named c.root) (purpose_of aim (after.purpose at.place))) (sym same)
          ∙ ap (what_named (sealed asked c).seal (handle_named c.root) (compound_bytes d) (purpose_of aim (after.purpose at.place))) named in
          let here : (caller_of after w).awaits at.place ≡ Some (seen (xid_in (sealed asked c).bytes) (Slotted (sealed asked c).seal call)) =
          ap (option_map (awaited_in w.contexts (after.purpose at.place))) call_went.here
          ∙ ap (λ (x : Awaited). Some x)
          (seen_here ∙ ap (seen at.xid) what_is ∙ ap (λ (x : ℕ). seen x (Slotted (sealed asked c).seal call)) (sym says.call.xid_is)) in
          record {
            call = call;
            slot = refl;
            number = refl;
            ops = ap args_of same ∙ sym says.ops;
            awaited = subst (λ (n : ℕ). (caller_of after w).awaits n ≡ Some (seen (xid_in (sealed asked c).bytes) (Slotted (sealed asked c).seal call))) (sym place_is) here;
          }
      slotted_here (asks.Create args) same name named says = absurd cc
      slotted_here asks.Destroy same name named says = absurd cc

      call_right : Right who before after m (Some (record_sent asked c), w)
      call_right are_bytes =
          let sent : out.Sent = record_sent asked c in
          let says : SaysAsked at.xid asked (sealed asked c).bytes = says_asked mic c.caller at.xid open_is known.read at.place asked is.ours (are_bytes sent refl) in
          let said : IsSaid who before after m w at.place p sent = record {
            says = says.call;
            fresh = given.fresh;
            counted = given.counted;
            fits = subst (λ (x : Awaited). laws.FitsWhat (spelling who.accepts who.whose) m.server who.own sent.bytes sent.seal x.what) (sym seen_here)
                (asked_fits who m.server at.xid sent.bytes (sealed asked c).seal (handle_named c.root) (purpose_of aim (after.purpose at.place)) asked owner_is says);
            simple = λ name named. says.simple name (sym says.slot ∙ named);
            on = λ xid seal call there.
                asked_on (λ (k : Call). laws.GoesOn (caller_of before m) (caller_of after w) at.place k ⊎ laws.IsNew (caller_of before m) (caller_of after w) k)
                (sealed asked c).seal seal (handle_named c.root) (purpose_of aim (after.purpose at.place)) call asked
                (ap (λ (x : Awaited). x.what) (sym seen_here ∙ there)) is.on;
            slotted = λ seal name sealed_by named.
                subst (λ (s : Seal). laws.IsAwaited (spelling who.accepts who.whose) (caller_of after w) sent.bytes s name) (some_is (sealed asked c).seal seal sealed_by)
                (slotted_here asked refl name (sym says.slot ∙ named) says);
          } in
          record {
            good = sent_good who m w at.place p call_went g;
            obeys = sent_obeys who before after m w at.place p sent call_went g goes said;
            calls = sent_calls who before after m w at.place p sent call_went g goes said;
            keeps = λ stays. kept_on before after m w goes call_went.faces call_went.root stays;
          }

    -- ---- what may become of a call: nothing goes out, or it does

    under_cases : (P : Option out.Sent × Mounted → Type 0) (context : ℕ) (aim : Aim) (asked : Asked) → P (None, m)
        → ((c : held.Context) → context_of context m.contexts ≡ Some c → c.caller.next < 2147483648 → P (Some (record_sent asked c), call_sent context aim asked c m.standing))
        → P (sends.sent_under mic at context aim asked m)
    under_cases P context aim asked nothing goes_out = by (context_of context m.contexts) refl
      where
        by : (o : Option held.Context) → context_of context m.contexts ≡ o
            → P (sends.call_awaits at context aim asked (sends.call_under mic at.xid asked o) (record m { contexts = sends.contexts_after mic context at.xid asked o m.contexts }))
        by None none = nothing
        by (Some c) found = sealing (nat_lt c.caller.next 2147483648) refl
          where
            sealing : (b : Bool) → nat_lt c.caller.next 2147483648 ≡ b
                → P (sends.call_awaits at context aim asked (called_if b mic c.caller at.xid asked).0
                (record m { contexts = sends.sealed_so context (called_if b mic c.caller at.xid asked).0 (called_if b mic c.caller at.xid asked).1 m.contexts }))
            sealing true left = goes_out c found (ltb-true c.caller.next 2147483648 left)
            sealing false none_left = nothing

    by_cases : (P : Option out.Sent × Mounted → Type 0) (context : Option ℕ) (aim : Aim) (asked : Option Asked) → P (None, m)
        → ((n : ℕ) (a : Asked) (c : held.Context) → context ≡ Some n → asked ≡ Some a → context_of n m.contexts ≡ Some c → c.caller.next < 2147483648
        → P (Some (record_sent a c), call_sent n aim a c m.standing))
        → P (sends.sent_by mic at context aim asked m)
    by_cases P None aim asked nothing goes_out = nothing
    by_cases P (Some n) aim None nothing goes_out = nothing
    by_cases P (Some n) aim (Some a) nothing goes_out = under_cases P n aim a nothing (λ c found left. goes_out n a c refl refl found left)

    -- a call that leaves the standing as it is, and names no slot
    plain_call : (n : ℕ) (aim : Aim) (a : Asked) (c : held.Context) → context_of n m.contexts ≡ Some c → c.caller.next < 2147483648 → IsAsked at.place a → FitsAim aim a
        → (stays_for aim ≡ false → root_name m.standing ≡ Some n) → slot_in_asked a ≡ None → IsCall n aim a c m.standing
    plain_call n aim a c found left ours aim_fits rooted unslotted = record {
      found = found;
      left = left;
      ours = ours;
      aim_fits = aim_fits;
      standing = λ r is. record { was = r; is = is; name = refl; grown = λ slot. omega arith; many = refl; set_up = refl };
      root = refl;
      kept = g.kept;
      rooted = rooted;
      on = λ d name is named. let same : slot_in_asked a ≡ Some name = ap slot_in_asked is ∙ named in absurd cc;
    }

    -- ---- the setup, CREATE and the ends

    fits_compound : (place : ℕ) (a : Asked) (call : SoleCall) → asks.Compound (sole_compound call) ≡ a → AskedFits a → IsAsked place a × (slot_in_asked a ≡ None)
    fits_compound place a call is fits =
        let whole : IsSendable (sole_compound call) = subst AskedFits (sym is) fits in
        (subst (IsAsked place) is (sole_ours known place call whole), ap slot_in_asked (sym is) ∙ sole_unslotted call)

    step_right : (principal : List ℕ) (back : Option BackChannel) (st : Standing) → m.standing ≡ st
        → ((a : Asked) → sends.step_asked principal back (setup_in st) ≡ Some a → AskedFits a)
        → Right who before after m (sends.stepped_in mic at principal back st m)
    step_right principal back (Down kept) is fits = λ are_bytes. nothing_goes who before after m g goes
    step_right principal back (Rooted root) is fits =
        by_cases (Right who before after m) (Some root.name) aims.Setup (sends.step_asked principal back root.setup) (λ are_bytes. nothing_goes who before after m g goes)
        (λ n a c context_is asked_is found left.
        let it = mapped (λ (call : SoleCall). asks.Compound (sole_compound call)) (next_call principal back root.setup) a asked_is in
        let both = fits_compound at.place a it.from it.gives (fits a asked_is) in
        call_right n aims.Setup a c m.standing
        (plain_call n aims.Setup a c found left both.0 tt (λ other. ap root_name is ∙ context_is) both.1))

    create_right : (child : ℕ) (args : List ℕ) → AskedFits (asks.Create args)
        → Right who before after m (sends.sent_by mic at (root_name m.standing) (aims.Child child) (Some (asks.Create args)) m)
    create_right child args fits =
        by_cases (Right who before after m) (root_name m.standing) (aims.Child child) (Some (asks.Create args)) (λ are_bytes. nothing_goes who before after m g goes)
        (λ n a c context_is asked_is found left.
        let same : asks.Create args ≡ a = some_is (asks.Create args) a asked_is in
        call_right n (aims.Child child) a c m.standing
        (plain_call n (aims.Child child) a c found left (subst (IsAsked at.place) same fits) (subst (FitsAim (aims.Child child)) same tt)
        (λ other. context_is) (ap slot_in_asked (sym same))))

    ending_fits : (ending : Ending) (sole : Option SoleCall) (a : Asked) → sends.ending_by ending sole ≡ Some a → AskedFits a → IsAsked at.place a × (slot_in_asked a ≡ None)
    ending_fits ending (Some call) a is fits = fits_compound at.place a call (some_is (asks.Compound (sole_compound call)) a is) fits
    ending_fits endings.Session None a is fits = absurd cc
    ending_fits endings.Client None a is fits = absurd cc
    ending_fits endings.Context None a is fits =
        let same : asks.Destroy ≡ a = some_is asks.Destroy a is in
        (subst (IsAsked at.place) same tt, ap slot_in_asked (sym same))

    end_right : (ending : Ending) (st : Standing) → m.standing ≡ st → ((a : Asked) → sends.ending_call ending (setup_in st) ≡ Some a → AskedFits a)
        → Right who before after m (sends.ended_in mic at ending st m)
    end_right ending (Down kept) is fits = λ are_bytes. nothing_goes who before after m g goes
    end_right ending (Rooted root) is fits =
        by_cases (Right who before after m) (Some root.name) aims.End (sends.ending_call ending root.setup) (λ are_bytes. nothing_goes who before after m g goes)
        (λ n a c context_is asked_is found left.
        let both = ending_fits ending (sends.ending_sole ending root.setup) a asked_is (fits a asked_is) in
        call_right n aims.End a c m.standing
        (plain_call n aims.End a c found left both.0 tt (λ other. ap root_name is ∙ context_is) both.1))

    -- ---- a call in a slot

    record IsSlotAsked (call : SlotCall) (st : Standing) (a : Asked) : Type 0 where
      root : Root
      is : st ≡ Rooted root
      session : List ℕ
      asked_is : sends.slot_asked at.place root.numbers call session ≡ a

    slot_asked_is : (call : SlotCall) (st : Standing) (a : Asked) → sends.slot_asked_in at.place call st ≡ Some a → IsSlotAsked call st a
    slot_asked_is call (Down kept) a h = absurd cc
    slot_asked_is call (Rooted root) a h =
        let it = mapped (sends.slot_asked at.place root.numbers call) (sends.session_in root.setup) a h in
        record { root = root; is = refl; session = it.from; asked_is = it.gives }

    grown_by : (numbers : List ℕ) (place slot : ℕ) → slice_index numbers slot ≤ slice_index (after_new numbers place) slot
    grown_by [] place slot = omega arith
    grown_by (n ∷ ns) zero zero = omega arith
    grown_by (n ∷ ns) zero (suc slot) = omega arith
    grown_by (n ∷ ns) (suc place) zero = omega arith
    grown_by (n ∷ ns) (suc place) (suc slot) = grown_by ns place slot

    numbered_standing : (place : ℕ) (st : Standing) (r : Root) → m.standing ≡ st → sends.numbered_in place st ≡ Rooted r → WasRooted m r
    numbered_standing place (Down kept) r is h = absurd cc
    numbered_standing place (Rooted root) r is h =
        let made : Root = record root { numbers = after_new root.numbers place } in
        let same : made ≡ r = cc in
        subst (WasRooted m) same (record { was = root; is = is; name = refl; grown = grown_by root.numbers place; many = length-set root.numbers place _; set_up = refl })

    numbered_name : (place : ℕ) (st : Standing) → root_name (sends.numbered_in place st) ≡ root_name st
    numbered_name place (Down kept) = refl
    numbered_name place (Rooted root) = refl

    numbered_kept : (place : ℕ) (st : Standing) → kept_in (sends.numbered_in place st) ≡ kept_in st
    numbered_kept place (Down kept) = refl
    numbered_kept place (Rooted root) = refl

    abbrev use_of : Root → List ℕ → SlotUse
    use_of root session = record { session = session; slot = at.place; number = slice_index root.numbers at.place }

    -- the context is the root's, or a child's of that
    abbrev IsOfRoot : ℕ → Type 0
    IsOfRoot n = (root_name m.standing ≡ Some n) ⊎ ((child : ℕ) × (child_name m child ≡ Some n))

    same_root : (n : ℕ) (root : Root) (c : held.Context) (f : Face) → IsOfRoot n → m.standing ≡ Rooted root → context_of n m.contexts ≡ Some c
        → face_of root.name m.contexts ≡ Some f → c.root ≡ f.root
    same_root n root c f (inl is) standing found there =
        let name : root.name ≡ n = some_is root.name n (sym (ap root_name standing) ∙ is) in
        let faces : Some (face c) ≡ Some f = sym (ap (option_map face) found) ∙ ap (λ (k : ℕ). face_of k m.contexts) (sym name) ∙ there in
        ap (λ (x : Face). x.root) (some_is (face c) f faces)
    same_root n root c f (inr child) standing found there =
        g.children child.0 n root.name (face c) f child.1 (ap (option_map face) found) (ap root_name standing) there

    slot_call : (n : ℕ) (aim : Aim) (call : SlotCall) (a : Asked) (c : held.Context) → IsSlotAsked call m.standing a → AskedFits a → context_of n m.contexts ≡ Some c
        → c.caller.next < 2147483648 → IsOfRoot n → FitsAim aim a → (stays_for aim ≡ false → root_name m.standing ≡ Some n)
        → after.ready (purpose_of aim (after.purpose at.place)) ≡ true
        → IsCall n aim a c (sends.numbered_in at.place m.standing)
    slot_call n aim call a c asked fits found left of_root aim_fits rooted ready =
        let root = asked.root in
        let slot_use : SlotUse = use_of asked.root asked.session in
        let whole : IsSendable (slot_compound slot_use call) = subst AskedFits (sym asked.asked_is) fits in
        let r = g.root root.name (ap root_name asked.is) in
        let w : Mounted = call_sent n aim a c (sends.numbered_in at.place m.standing) in
        let standing_is : w.standing ≡ Rooted (record root { numbers = after_new root.numbers at.place }) = ap (sends.numbered_in at.place) asked.is in
        let face_is : face_of root.name w.contexts ≡ Some r.face = numbered_face n (after_call c.caller) m.contexts c root.name found refl refl ∙ r.there in
        record {
          found = found;
          left = left;
          ours = subst (IsAsked at.place) asked.asked_is (slot_ours known slot_use call whole);
          aim_fits = aim_fits;
          standing = λ r is. numbered_standing at.place m.standing r refl is;
          root = numbered_name at.place m.standing;
          kept = λ init is. g.kept init (sym (numbered_kept at.place m.standing) ∙ is);
          rooted = rooted;
          on = λ d name is named.
              let same : first_slot (slot_compound slot_use call).ops ≡ Some name = ap slot_in_asked (asked.asked_is ∙ is) ∙ named in
              let name_is = some_is _ name same in
              let slot_is : at.place ≡ name.slot = ap (λ (x : SlotName). x.slot) name_is in
              let number_is : slice_index root.numbers at.place ≡ name.number = ap (λ (x : SlotName). x.number) name_is in
              inr (record {
                mounted = ap (λ (st : Standing). mount_in st w.contexts) standing_is ∙ ap root_seen face_is
                    ∙ ap (λ (h : List ℕ). Some (handle_named h)) (sym (same_root n root c r.face of_root asked.is found r.there));
                unused = λ mounted.
                    let next : next_in m.standing name.slot ≡ slice_index root.numbers name.slot = ap (λ (st : Standing). next_in st name.slot) asked.is in
                    let there : slice_index root.numbers name.slot ≡ name.number = ap (slice_index root.numbers) (sym slot_is) ∙ number_is in
                    omega arith;
                used =
                    let many = (g.up root asked.is).numbers in
                    let place = given.place in
                    let lt : at.place < length root.numbers = omega arith in
                    let next : next_in w.standing name.slot ≡ slice_index root.numbers at.place + 1 =
                    ap (next_in w.standing) (sym slot_is) ∙ ap (λ (st : Standing). next_in st at.place) standing_is
                    ∙ get_or-set_same root.numbers at.place (slice_index root.numbers at.place + 1) 0 lt in
                    omega arith;
                ready = ready;
              });
        }

    slot_right : (context : Option ℕ) (aim : Aim) (call : SlotCall)
        → ((a : Asked) → sends.slot_asked_in at.place call m.standing ≡ Some a → AskedFits a)
        → ((n : ℕ) → context ≡ Some n → IsOfRoot n) → ((c : Compound) → FitsAim aim (asks.Compound c)) → ((n : ℕ) → context ≡ Some n → stays_for aim ≡ false → root_name m.standing ≡ Some n)
        → after.ready (purpose_of aim (after.purpose at.place)) ≡ true
        → Right who before after m (sends.slotted mic at context aim call m)
    slot_right context aim call fits of_root aim_fits rooted ready =
        by_cases (λ o. Right who before after m (sends.slotted_by at.place o)) context aim (sends.slot_asked_in at.place call m.standing)
        (λ are_bytes. nothing_goes who before after m g goes)
        (λ n a c context_is asked_is found left.
        let asked = slot_asked_is call m.standing a asked_is in
        call_right n aim a c (sends.numbered_in at.place m.standing)
        (slot_call n aim call a c asked (fits a asked_is) found left (of_root n context_is) (subst (FitsAim aim) asked.asked_is (aim_fits (slot_compound (use_of asked.root asked.session) call)))
        (rooted n context_is) ready))

    -- ---- what is awaited goes out again

    again_on : (context : ℕ) (aim : Aim) (k : Asking) (c : held.Context) (d : Compound) (n : SlotName) → pending_at m at.place ≡ Some (Under context aim k)
        → context_of context m.contexts ≡ Some c → k.asked ≡ asks.Compound d → first_slot d.ops ≡ Some n
        → laws.GoesOn (caller_of before m) (caller_of after (call_sent context aim k.asked c m.standing)) at.place
        (call_named (handle_named c.root) (compound_bytes d) (purpose_of aim (after.purpose at.place)) n)
    again_on context aim k c d n there found is named =
        let a = awaiting_of (awaited_at m at.place) (Under context aim k) there in
        let purpose : before.purpose at.place ≡ after.purpose at.place = sym (goes.purpose at.place a.a a.is) in (
          goes.boot,
          (
            k.awaited.xid,
            k.seal,
            ap (option_map (awaited_in m.contexts (before.purpose at.place))) there
                ∙ ap (λ (f : Option Face). Some (seen k.awaited.xid (what_under f k.seal (purpose_of aim (before.purpose at.place)) k.asked))) (ap (option_map face) found)
                ∙ ap (λ (q : Purpose). Some (seen k.awaited.xid (what_asked k.seal (handle_named c.root) (purpose_of aim q) k.asked))) purpose
                ∙ ap (λ (x : Asked). Some (seen k.awaited.xid (what_asked k.seal (handle_named c.root) (purpose_of aim (after.purpose at.place)) x))) is
                ∙ ap (λ (x : Option SlotName). Some (seen k.awaited.xid (what_named k.seal (handle_named c.root) (compound_bytes d) (purpose_of aim (after.purpose at.place)) x))) named,
          ),
        )

    again_call : (context : ℕ) (aim : Aim) (k : Asking) (c : held.Context) → pending_at m at.place ≡ Some (Under context aim k) → context_of context m.contexts ≡ Some c
        → c.caller.next < 2147483648 → IsCall context aim k.asked c m.standing
    again_call context aim k c there found left =
        let fair = g.fair at.place (Under context aim k) there in
        record {
          found = found;
          left = left;
          ours = fair.asked;
          aim_fits = fair.aim_fits;
          standing = λ r is. record { was = r; is = is; name = refl; grown = λ slot. omega arith; many = refl; set_up = refl };
          root = refl;
          kept = g.kept;
          rooted = fair.rooted;
          on = λ d name is named. inl (again_on context aim k c d name there found is named);
        }

    again_under : (context : ℕ) (aim : Aim) (k : Asking) → pending_at m at.place ≡ Some (Under context aim k) → (o : Option held.Context) → context_of context m.contexts ≡ o
        → Right who before after m
        (sends.awaits_anew at (sends.under_anew (sends.call_under mic at.xid k.asked o)) (sends.contexts_after mic context at.xid k.asked o m.contexts)
        (sends.pending_under context aim k (sends.call_under mic at.xid k.asked o)) m)
    again_under context aim k there None none = λ are_bytes. nothing_goes who before after m g goes
    again_under context aim k there (Some c) found = sealing (nat_lt c.caller.next 2147483648) refl
      where
        sealing : (b : Bool) → nat_lt c.caller.next 2147483648 ≡ b
            → Right who before after m
            (sends.awaits_anew at (sends.under_anew (called_if b mic c.caller at.xid k.asked).0)
            (sends.sealed_so context (called_if b mic c.caller at.xid k.asked).0 (called_if b mic c.caller at.xid k.asked).1 m.contexts)
            (sends.pending_under context aim k (called_if b mic c.caller at.xid k.asked).0) m)
        sealing true left = call_right context aim k.asked c m.standing (again_call context aim k c there found (ltb-true c.caller.next 2147483648 left))
        sealing false none_left = λ are_bytes. nothing_goes who before after m g goes

    again_pending : (p : Pending) → pending_at m at.place ≡ Some p
        → Right who before after m (sends.awaits_anew at (sends.out_anew mic at.xid m.contexts p) (sends.contexts_anew mic at.xid m.contexts p) (sends.pending_anew mic at.xid m.contexts p) m)
    again_pending (Init init) there =
        let fair = g.fair at.place (Init init) there in
        λ are_bytes. init_right init m.standing fair.down fair.down g.kept fair.token (λ other b at_other. g.alone other at.place b init at_other there)
    again_pending (Under context aim k) there = again_under context aim k there (context_of context m.contexts) refl

    again_right : (o : Option Awaiting) → awaited_at m at.place ≡ o → Right who before after m (sends.sent_anew mic at o m)
    again_right None is = λ are_bytes. nothing_goes who before after m g goes
    again_right (Some a) is = again_pending a.pending (ap pending_in is)

    -- ---- INIT

    any_sets_up : (places : List (Option Awaiting)) (j : ℕ) (b : Beginning) → pending_in (get_or places j None) ≡ Some (Init b) → list_any place_sets_up places ≡ true
    any_sets_up [] j b h = absurd cc
    any_sets_up (None ∷ xs) zero b h = absurd cc
    any_sets_up (Some a ∷ xs) zero b h =
        let is : a.pending ≡ Init b = some_is a.pending (Init b) h in
        or_left (place_sets_up (Some a)) (list_any place_sets_up xs) (ap sets_up is)
    any_sets_up (x ∷ xs) (suc j) b h = or_right (place_sets_up x) (list_any place_sets_up xs) (any_sets_up xs j b h)

    none_begun : is_setting_up m ≡ false → (other : ℕ) (b : Beginning) → pending_at m other ≡ Some (Init b) → other ≡ at.place
    none_begun alone other b there = absurd (false≢true (sym alone ∙ any_sets_up m.places other b there))

    down_name : (st : Standing) → m.standing ≡ st → setup_in st ≡ setups.Down → root_name st ≡ None
    down_name (Down kept) is down = refl
    down_name (Rooted root) is down = absurd ((g.up root is).set_up down)

    begin_right : (nonce : List ℕ) (token : Option (List ℕ)) → is_setting_up m ≡ false → setup_in m.standing ≡ setups.Down → ((t : List ℕ) → token ≡ Some t → IsOwnToken who t)
        → Right who before after m (sends.begun at nonce token m)
    begin_right nonce None alone down own are_bytes = nothing_goes who before after m g goes
    begin_right nonce (Some t) alone down own are_bytes =
        init_right (record { nonce = nonce; token = t; xid = at.xid }) (Down None) refl (down_name m.standing refl down) (λ i never. absurd cc) (own t refl) (none_begun alone)

    kept_down : (st : Standing) (init : Beginning) → kept_in st ≡ Some init → root_name st ≡ None
    kept_down (Down kept) init h = refl
    kept_down (Rooted root) init h = absurd cc

    anew_right : (kept : Option Beginning) → kept_in m.standing ≡ kept → is_setting_up m ≡ false → Right who before after m (sends.begun_by at kept m)
    anew_right None is alone are_bytes = nothing_goes who before after m g goes
    anew_right (Some init) is alone are_bytes =
        init_right init (Down None) refl (kept_down m.standing init is) (λ i never. absurd cc) (g.kept init is) (none_begun alone)

    -- ---- all of them

    child_of_root : (u : under.Under) (n : ℕ) → sends.name_under u m ≡ Some n → IsOfRoot n
    child_of_root unders.Root n is = inl is
    child_of_root (unders.Child child) n is = inr (child, is)

    pub send_right : (send : Send) → MaySend who mic before after m at send → Right who before after m (sent_by mic at send m)
    send_right (Begin nonce token) may = begin_right nonce token may.suits.1 may.suits.2 may.suits.3
    send_right BeginAnew may = anew_right (kept_in m.standing) refl may.suits.1
    send_right (SetUp principal back) may = step_right principal back m.standing refl may.fits
    send_right Reclaim may =
        slot_right (root_name m.standing) aims.Setup slots.ReclaimComplete may.fits (λ n is. inl is) (λ c. tt) (λ n is other. is) may.suits.1
    send_right (InSlot u call) may =
        slot_right (sends.name_under u m) aims.Slot call may.fits (child_of_root u) (λ c. tt) (λ n is never. absurd cc) may.suits.1
    send_right (Make child name privilege) may = create_right child (create_args name privilege) (may.fits (asks.Create (create_args name privilege)) refl)
    send_right (Finish ending) may = end_right ending m.standing refl may.fits
    send_right Again may = again_right (awaited_at m at.place) refl
