-- Each turn of a client leaves what it awaits at each place.
use Rattle.std.proofs.Common.{◌≡◌, ◌∙◌, ℕ, zero, suc, Bool, true, false, List, [], ◌∷◌, length, get_or, replicate, Option, Some, None, Result, Ok, Err, refl, sym, ap, subst, inl, inr, ◌⊎◌, ◌≤◌, ◌<◌, arith}
use Rattle.std.specs.Prelude.{◌==◌, nat_lt}
use Rattle.std.proofs.lemmas.Bool.{cases_eq}
use Rattle.callbacks.specs.Callbacks.{Outcome, counted as many_counted, evaluated, evaluated_by, if_ok, is_session, op_outcome, sequence_by, tail_outcome, walked}
use Rattle.callbacks.specs.declared.evaluation.Told.{Told as CallbackTold}
use Rattle.caller_laws.specs.Good.{Identity, IsGood}
use Rattle.caller_laws.specs.Lawful.{IsStep as IsMountStep}
use Rattle.caller_laws.specs.Moves.{Move, Takes, done as done_move}
use Rattle.caller_laws.specs.OneStep.Counting.{Counted}
use Rattle.caller_laws.specs.View.{Above}
use Rattle.client_copies.specs.Held.{has_room}
use Rattle.client_copies.specs.Table.{Copies, copy_at, held_if, named_by, offloaded_to, with_begun}
use Rattle.client_copies.specs.declared.copy.ClientCopy.{ClientCopy}
use Rattle.client_copies.specs.declared.event.Event.TheVariants as events
use Rattle.client_core.specs.Callbacks.{IsCompound, all_said, called_back, session_under}
use Rattle.client_core.specs.Calls.{created, inited_unless, is_misspelt}
use Rattle.client_core.specs.Commands.{IsBegunBy, with_work}
use Rattle.client_core.specs.Endings.{IsStep, Ways, acting_at, desk_at, ended_by}
use Rattle.client_core.specs.Records.{IsJudged, IsWhat, heard}
use Rattle.client_core.specs.State.{ClientState, new_client, second_at}
use Rattle.client_core.specs.Telling.{copy_if}
use Rattle.client_laws.proofs.speaking.Deeds.{can_heard, done_placed, fell_falls}
use Rattle.client_laws.proofs.speaking.Desks.{at_side, held_placed, said_placed, told_placed, with_placed}
use Rattle.client_laws.proofs.speaking.Leaving.{event_leaves}
use Rattle.client_laws.proofs.speaking.Mounts.{IsUp, none_some}
use Rattle.client_laws.proofs.speaking.Takes.{Fell, Tame, WasHeard, take}
use Rattle.client_laws.proofs.speaking.Walk.{Half, asked_core, copies_are, goes_down, goes_on, note_placed, retried, ticks}
use Rattle.client_laws.specs.MountTurns.{TakesBytes}
use Rattle.client_laws.specs.Speaking.Places.{AllPlaced, FitsCopy, IsPlaced, IsPlacedClient}
use Rattle.client_laws.specs.TableLaws.{copy_kept}
use Rattle.client_laws.specs.Turns.{IsTurn, MayTurn, Turn, Asks, Begins, Hears, Retries, Ticks, Works}
use Rattle.client_laws.specs.WholeTurns.{IsSettled}
use Rattle.client_site.specs.Falling.{all_places}
use Rattle.client_site.specs.Sites.{fresh_site}
use Rattle.client_site.specs.Taking.{found_at, found_by}
use Rattle.client_site.specs.declared.site.Site.{Site}
use Rattle.client_site.specs.declared.taking.Found.{Found}
use Rattle.client_steps.specs.Acting.{Acting, GoesOn, on_desk, with_desk}
use Rattle.client_steps.specs.CopySteps.{all_copies}
use Rattle.client_steps.specs.Desks.{said_by, site_at, with_site}
use Rattle.client_steps.specs.Replies.{answered, deed_of, done, replied, under_seal}
use Rattle.client_steps.specs.declared.deeds.Deed.{Deed}
use Rattle.client_steps.specs.declared.desk.Desk.{Desk}
use Rattle.client_steps.specs.declared.setting.Setting.{Setting}
use Rattle.copy_ops.specs.declared.callback.OffloadEnd.{OffloadEnd}
use Rattle.copy_privs.specs.Told.{privilege_told}
use Rattle.gss_ctx.specs.Seals.{Mic}
use Rattle.gss_ctx.specs.Table.{ContextTable}
use Rattle.mount.specs.State.{Mounted, is_setting_up, pending_at, pending_in, root_name}
use Rattle.mount.specs.Taking.{Means, taken_at}
use Rattle.mount.specs.declared.state.Awaiting.{Awaiting}
use Rattle.mount.specs.declared.state.Pending.{Pending}
use Rattle.mount.specs.declared.state.Pending.TheVariants.{Init}
use Rattle.mount.specs.declared.state.TheConstants.{PLACES}
use Rattle.mount.specs.declared.taking.Told.TheVariants as tells_as
use Rattle.mount.specs.declared.taking.Told.{Told}
use Rattle.nfs_base.specs.declared.copy_spec.CopySpec.{CopySpec}
use Rattle.nfs_base.specs.declared.limits.TheConstants.{MOST_OPERATIONS}
use Rattle.nfs_base.specs.declared.seal.Seal.{Seal}
use Rattle.nfs_base.specs.declared.side.Side.{Side}
use Rattle.nfs_base.specs.declared.side.Side.TheVariants.{Source, Dest}
use Rattle.nfs_base.specs.declared.state_id.StateId.{StateId}
use Rattle.nfs_compound.specs.Compounds.{cb_compound_of}
use Rattle.nfs_compound.specs.declared.cb_compound.CbCompound.{CbCompound}
use Rattle.nfs_compound.specs.declared.cb_op.CbOp.{CbOp}
use Rattle.nfs_compound.specs.declared.cb_op.CbOp.TheVariants as ops
use Rattle.nfs_compound.specs.declared.compound.TheConstants.{MINOR_VERSION}
use Rattle.nfs_compound.specs.declared.tail.Tail.{Tail}
use Rattle.nfs_compound.specs.declared.tail.Tail.TheVariants as tails
use Rattle.outbox.specs.declared.outgoing.Outbox.{Outbox}
use Rattle.rpc_calls.specs.Answers.{accepted_seal}
use Rattle.rpc_calls.specs.Judging.{judged_of}
use Rattle.rpc_calls.specs.declared.call.Call.{Call}
use Rattle.rpc_calls.specs.declared.call.Judged.{Judged}
use Rattle.rpc_calls.specs.declared.call.Judged.TheVariants as judged
use Rattle.rpc_calls.specs.declared.call.TheConstants.Program as programs
use Rattle.rpc_calls.specs.declared.call.What.TheVariants as whats
use Rattle.rpc_calls.specs.declared.call.What.{What}
use Rattle.rpc_calls.specs.declared.contexts.InitAnswer.{InitAnswer}
use Rattle.session_client.specs.Pending.{Beginning}
use Rattle.streams.specs.declared.draws.Drawn.{Drawn}
use Rattle.streams.specs.declared.draws.Drawn.TheVariants.{Got, Failed}
use Rattle.wire_model.specs.Wire.{ForOther}
use Rattle.wire_xdr.specs.Cursor.{IsBytes}
use Rattle.write_queue.specs.declared.work.Work.{Work}

-- ---- a record is the reply to what is awaited at a place, or to nothing

pub record IsFound (means : Means) (message : List ℕ) (m : Mounted) (o : Option Found × Mounted) : Type 0 where
  pub found : Found
  pub is : o.0 ≡ Some found
  pub mount : o.1 ≡ (taken_at means found.place message m).1
  pub told : (taken_at means found.place message m).0.told ≡ found.told

abbrev pub Finds : Means → List ℕ → Mounted → Option Found × Mounted → Type 0
Finds means message m o = ((o.0 ≡ None) × (o.1 ≡ m)) ⊎ IsFound means message m o

finds_by : (means : Means) (message : List ℕ) (place sent : ℕ) (m : Mounted) (b : Bool) (more : Option Found × Mounted) → Finds means message m more
    → Finds means message m (found_by b place sent (taken_at means place message m) more)
finds_by means message place sent m true more rest =
    let o = taken_at means place message m in
    inr (record { found = record { place = place; sent_at = sent; told = o.0.told; accepted = o.0.accepted }; is = refl; mount = refl; told = refl })
finds_by means message place sent m false more rest = rest

pub finds : (means : Means) (message : List ℕ) (places : List ℕ) (m : Mounted) → Finds means message m (found_at means message places m)
finds means message [] m = inl (refl, refl)
finds means message (place ∷ places) m = finds_by means message place _ m _ _ (finds means message places m)

-- ---- a reply is taken, and does what it does

site_is : (side : Side) (s : Site) (accepted : Option Seal) (d : Desk) → site_at side (under_seal accepted (with_site side s d)) ≡ s
site_is Source s accepted d = refl
site_is Dest s accepted d = refl

copies_is : (side : Side) (s : Site) (accepted : Option Seal) (d : Desk) → (under_seal accepted (with_site side s d)).copies ≡ d.copies
copies_is Source s accepted d = refl
copies_is Dest s accepted d = refl

sealed_placed : (accepted : Option Seal) (d : Desk) → AllPlaced d → AllPlaced (under_seal accepted d)
sealed_placed accepted d x = record { source = x.source; dest = x.dest }

half_heard : (side : Side) (s : Site) (accepted : Option Seal) (d : Desk) → AllPlaced d → length s.mount.places ≡ PLACES → Half side (under_seal accepted (with_site side s d))
half_heard Source s accepted d x many = (many, x.dest)
half_heard Dest s accepted d x many = (many, x.source)

-- what is known once a record was found
abbrev Known : Side → Site → Copies → ℕ → Mounted → Told → Type 0
Known side s t place n told = (IsPlaced side (record s { mount = n }) t × ((told ≡ tells_as.Unmatched) ⊎ WasHeard s.mount n place told)) ⊎ Fell s.mount n place told

module _ (means : Means) (counted : Counted) (me : List ℕ) (free : Option ℕ) (side : Side) (message : List ℕ) (a : Acting) (x : AllPlaced a.desk)
    (up : (place : ℕ) → IsUp (taken_at means place message (site_at side a.desk).mount).1)
    (init_down : (place : ℕ) (init : Beginning) → pending_at (site_at side a.desk).mount place ≡ Some (Init init) → root_name (site_at side a.desk).mount.standing ≡ None) where
  abbrev s : Site
  s = site_at side a.desk

  abbrev t : Copies
  t = a.desk.copies

  does : (n : Mounted) (found : Found) → Known side s t found.place n found.told
      → AllPlaced (answered (is_setting_up s.mount) means.mic me free side (Some found) (with_desk (with_site side (record s { mount = n }) a.desk) a)).desk
  does n found (inl tame) =
      let e = with_site side (record s { mount = n }) a.desk in
      let b = on_desk (under_seal found.accepted) (with_desk e a) in
      let moved = sym (ap (λ (k : Site). k.mount) (site_is side (record s { mount = n }) found.accepted a.desk)) in
      done_placed (deed_of (is_setting_up s.mount) found.told side found.place found.sent_at b) means.mic counted me free side found.place found.sent_at b
      (can_heard side s t found.place found.sent_at found.told (is_setting_up s.mount) b.desk b (at_side side a.desk x)
      (subst (λ (k : Mounted). (found.told ≡ tells_as.Unmatched) ⊎ WasHeard s.mount k found.place found.told) moved tame.1)
      (copies_is side (record s { mount = n }) found.accepted a.desk) refl)
      (sealed_placed found.accepted e (with_placed side (record s { mount = n }) a.desk x tame.0))
  does n found (inr fell) =
      let e = with_site side (record s { mount = n }) a.desk in
      let b = on_desk (under_seal found.accepted) (with_desk e a) in
      let f = fell_falls side s t (at_side side a.desk x) n found.place found.sent_at found.told b fell (copies_is side (record s { mount = n }) found.accepted a.desk) in
      subst (λ (deed : Deed). AllPlaced (done deed means.mic me free side found.place found.sent_at b).desk) (sym f.is)
      (goes_down side f.status b (half_heard side (record s { mount = n }) found.accepted a.desk x (fell.many ∙ (at_side side a.desk x).many)))

  known_of : (place : ℕ) → Known side s t place (taken_at means place message s.mount).1 (taken_at means place message s.mount).0.told
  known_of place = by (take side s t place (at_side side a.desk x) (init_down place) means message (up place))
    where
      by : Tame side s t place (taken_at means place message s.mount) ⊎ Fell s.mount (taken_at means place message s.mount).1 place (taken_at means place message s.mount).0.told
          → Known side s t place (taken_at means place message s.mount).1 (taken_at means place message s.mount).0.told
      by (inl tame) = inl (tame.placed, tame.heard)
      by (inr fell) = inr fell

  by_found : (o : Option Found × Mounted) → Finds means message s.mount o
      → AllPlaced (answered (is_setting_up s.mount) means.mic me free side o.0 (with_desk (with_site side (record s { mount = o.1 }) a.desk) a)).desk
  by_found o (inl unfound) =
      subst (λ (f : Option Found). AllPlaced (answered (is_setting_up s.mount) means.mic me free side f (with_desk (with_site side (record s { mount = o.1 }) a.desk) a)).desk) (sym unfound.0)
      (note_placed _ (with_site side (record s { mount = o.1 }) a.desk)
      (with_placed side (record s { mount = o.1 }) a.desk x
      (subst (λ (k : Mounted). IsPlaced side (record s { mount = k }) t) (sym unfound.1) (at_side side a.desk x))))
  by_found o (inr f) =
      let found = f.found in
      let known =
      subst (λ (k : Told). Known side s t found.place o.1 k) f.told
      (subst (λ (n : Mounted). Known side s t found.place n (taken_at means found.place message s.mount).0.told) (sym f.mount) (known_of found.place)) in
      subst (λ (k : Option Found). AllPlaced (answered (is_setting_up s.mount) means.mic me free side k (with_desk (with_site side (record s { mount = o.1 }) a.desk) a)).desk) (sym f.is)
      (does o.1 found known)

  replied_placed : AllPlaced (replied means me free side message a).desk
  replied_placed = by_found (found_at means message all_places s.mount) (finds means message all_places s.mount)

-- ---- a CB_COMPOUND

offloaded_placed : (side : Side) (s : Site) (o : Option ℕ) (id : StateId) (end : OffloadEnd) (t : Copies) → IsPlaced side s t → IsPlaced side s (offloaded_to o id end t).1
offloaded_placed side s (Some number) id end t x = told_placed side s t number (events.Offloaded end) x (λ c is. inr (event_leaves side (events.Offloaded end) c tt))
offloaded_placed side s None id end t x = by (has_room t.held)
  where
    by : (b : Bool) → IsPlaced side s (held_if b (record { id = id; end = end }) t).1
    by true = held_placed side s t _ x
    by false = x

op_placed : (side : Side) (s : Site) (session : Option (List ℕ)) (first : Bool) (op : CbOp) (t : Copies) → IsPlaced side s t → IsPlaced side s (op_outcome session first op t).copies
op_placed side s session first (ops.Sequence args) t x = by first (is_session args.session session)
  where
    by : (first own : Bool) → IsPlaced side s (sequence_by first own args t).copies
    by false own = x
    by true false = x
    by true true = x
op_placed side s session true (ops.Offload args) t x = x
op_placed side s session false (ops.Offload args) t x = offloaded_placed side s (named_by args.id t) args.id args.end t x

tail_placed : (side : Side) (s : Site) (tail : Tail) (t : Copies) → IsPlaced side s t → IsPlaced side s (tail_outcome tail t).copies
tail_placed side s tails.Whole t x = x
tail_placed side s (tails.Unreadable place op at) t x = x
tail_placed side s (tails.Unsupported place op) t x = x
tail_placed side s (tails.Illegal place op) t x = x

ok_placed : (side : Side) (s : Site) (b : Bool) (o more : Outcome) → IsPlaced side s o.copies → IsPlaced side s more.copies → IsPlaced side s (if_ok b o more).copies
ok_placed side s true o more x y = y
ok_placed side s false o more x y = x

walked_placed : (side : Side) (s : Site) (session : Option (List ℕ)) (first : Bool) (all : List CbOp) (tail : Tail) (t : Copies) → IsPlaced side s t
    → IsPlaced side s (walked session first all tail t).copies
walked_placed side s session first [] tail t x = tail_placed side s tail t x
walked_placed side s session first (op ∷ more) tail t x =
    let o = op_outcome session first op t in
    let y = op_placed side s session first op t x in
    ok_placed side s (o.status.number == 0) o (walked session false more tail o.copies) y (walked_placed side s session false more tail o.copies y)

evaluated_placed : (side : Side) (s : Site) (session : Option (List ℕ)) (c : CbCompound) (t : Copies) → IsPlaced side s t → IsPlaced side s (evaluated session c t).copies
evaluated_placed side s session c t x = by (c.minor == MINOR_VERSION) (nat_lt MOST_OPERATIONS c.count)
  where
    many : (b : Bool) → IsPlaced side s (many_counted b session c t).copies
    many true = x
    many false = walked_placed side s session true c.ops c.tail t x

    by : (a b : Bool) → IsPlaced side s (evaluated_by a session c t).copies
    by true b = many (nat_lt MOST_OPERATIONS c.count)
    by false b = x

all_said_placed : (told : List CallbackTold) (d : Desk) → AllPlaced d → AllPlaced (all_said told d)
all_said_placed [] d x = x
all_said_placed (one ∷ more) d x = all_said_placed more (said_by one.copy one.said d) (said_placed one.copy one.said d x)

called_placed : {M : Type 0} (mic : Mic) (side : Side) (call : Call) (compound : CbCompound) (c : ClientState M) (d : Desk) → AllPlaced d → AllPlaced (called_back mic side call compound c d)
called_placed mic side call compound c d x =
    let o = evaluated (session_under call.under c) compound d.copies in
    let e : Desk = record (under_seal (accepted_seal c.back call) d) { copies = o.copies } in
    let y = all_said_placed o.told e (record {
      source = evaluated_placed Source d.source (session_under call.under c) compound d.copies x.source;
      dest = evaluated_placed Dest d.dest (session_under call.under c) compound d.copies x.dest;
    }) in
    record { source = y.source; dest = y.dest }

-- ---- how a step ends

desk_placed : {M : Type 0} (now : ℕ) (c : ClientState M) → IsPlacedClient c → AllPlaced (desk_at now c)
desk_placed now c x = record { source = x.source; dest = x.dest }

end_placed : {M : Type 0} (o : Option Acting) (back : Acting → ContextTable ℕ) (c : ClientState M) → IsPlacedClient c → ((a : Acting) → o ≡ Some a → AllPlaced a.desk)
    → IsPlacedClient (ended_by o back c).0
end_placed None back c x y = record { source = x.source; dest = x.dest }
end_placed (Some a) back c x y = let z = y a refl in record { source = z.source; dest = z.dest }

-- a number that no copy has
pub below : (m n : ℕ) → m < n → nat_lt m n ≡ true
below m n lt = grind (arith, lt)

pub none_if : {M : Type 0} (b : Bool) (j : ℕ) (c : ClientState M) → b ≡ true → copy_if b j c ≡ None → copy_at j c.copies ≡ None
none_if true j c e none = none
none_if false j c e none = absurd cc

module _ {M W : Type 0} (ways : Ways) (gives : W → Drawn → W → Type 0) (counted : Counted) (c : ClientState M) (x : IsPlacedClient c) where
  step_placed : (does : Acting) (back : Acting → ContextTable ℕ) (v w : W) (end : ClientState M × Outbox) → AllPlaced does.desk → IsStep ways gives does back c v w end
      → IsPlacedClient end.0
  step_placed does back v w end y step =
      subst (λ (e : ClientState M × Outbox). IsPlacedClient e.0) (sym step.is)
      (end_placed step.to back c x
      (λ a is.
      goes_on ways.means.mic counted c.setting ways.started gives does v w a
      (subst (λ (o : Option Acting). GoesOn c.setting ways.means.mic ways.started gives does v w o) is step.goes_on) y))

  -- only the contexts and the second change
  rest_placed : (end told : ClientState M × Outbox) → end ≡ told → told.0.source ≡ c.source → told.0.dest ≡ c.dest → told.0.copies ≡ c.copies → IsPlacedClient end.0
  rest_placed end told is source dest copies =
      subst (λ (e : ClientState M × Outbox). IsPlacedClient e.0) (sym is) (record {
        source = subst (λ (u : Copies). IsPlaced Source told.0.source u) (sym copies) (subst (λ (k : Site). IsPlaced Source k c.copies) (sym source) x.source);
        dest = subst (λ (u : Copies). IsPlaced Dest told.0.dest u) (sym copies) (subst (λ (k : Site). IsPlaced Dest k c.copies) (sym dest) x.dest);
      })

  compound_placed : (o : Result CbCompound ℕ) (now : ℕ) (side : Side) (call : Call) (v w : W) (end : ClientState M × Outbox) → IsCompound o ways gives now side call c v w end
      → IsPlacedClient end.0
  compound_placed (Err at) now side call v w end step = rest_placed end _ step.0 refl refl refl
  compound_placed (Ok compound) now side call v w end step =
      step_placed _ _ v w end (called_placed ways.means.mic side call compound c (desk_at now c) (desk_placed now c x)) step

  created_placed : (b : Bool) (second : ℕ) (side : Side) (call : Call) (end : ClientState M × Outbox) → end ≡ created b ways.means.mic second side call c → IsPlacedClient end.0
  created_placed true second side call end is = rest_placed end _ is refl refl refl
  created_placed false second side call end is = rest_placed end _ is refl refl refl

  inited_placed : (b : Bool) (second : ℕ) (side : Side) (told : InitAnswer) (back : ContextTable ℕ) (end : ClientState M × Outbox)
      → end ≡ inited_unless b second side told back c → IsPlacedClient end.0
  inited_placed true second side told back end is = rest_placed end _ is refl refl refl
  inited_placed false second side told back end is = rest_placed end _ is refl refl refl

  what_placed : (what : What) (now : ℕ) (side : Side) (call : Call) (v w : W) (end : ClientState M × Outbox) → IsWhat what ways gives now side call c v w end → IsPlacedClient end.0
  what_placed (whats.Dropped why) now side call v w end step = rest_placed end _ step.0 refl refl refl
  what_placed (whats.Denied why) now side call v w end step = rest_placed end _ step.0 refl refl refl
  what_placed (whats.Failed failure) now side call v w end step = rest_placed end _ step.0 refl refl refl
  what_placed whats.Null now side call v w end step = rest_placed end _ step.0 refl refl refl
  what_placed (whats.Init token) now side call v w end step = inited_placed step.told.draw_failed (second_at now c) side step.told step.back end step.is
  what_placed (whats.Create name privilege) now side call v w end step =
      created_placed (is_misspelt (privilege_told name privilege)) (second_at now c) side call end step.0
  what_placed whats.Destroy now side call v w end step = rest_placed end _ step.0 refl refl refl
  what_placed (whats.Compound args) now side call v w end step = compound_placed (cb_compound_of args) now side call v w end step

  -- ---- each turn

  abbrev FairTake : Turn → Type 0
  FairTake (Hears side message now) = ((place : ℕ) → IsUp (taken_at ways.means place message (site_at side (desk_at now c)).mount).1)
      × ((place : ℕ) (init : Beginning) → pending_at (site_at side (desk_at now c)).mount place ≡ Some (Init init) → root_name (site_at side (desk_at now c)).mount.standing ≡ None)
  FairTake _ = Unit {0}

  judged_placed : (o : Judged) (side : Side) (message : List ℕ) (now : ℕ) (v w : W) (end : ClientState M × Outbox) → FairTake (Hears side message now)
      → IsJudged o ways gives side message now c v w end → IsPlacedClient end.0
  judged_placed judged.Unread side message now v w end fair step = rest_placed end _ step.0 refl refl refl
  judged_placed judged.Reply side message now v w end fair step =
      step_placed (heard ways side message now c) _ v w end
      (replied_placed ways.means counted c.setting.me _ side message (acting_at now c) (desk_placed now c x) fair.0 fair.1) step
  judged_placed (judged.Call call) side message now v w end fair step = what_placed call.what now side call v w end step

  -- a copy is begun at a number that no copy has
  begun_placed : (side : Side) (s : Site) (t : Copies) (j : ℕ) (spec : CopySpec) (secret : List ℕ) → IsPlaced side s t → copy_at j t ≡ None → (j ≡ 0 → ⊥)
      → IsPlaced side s (with_begun j spec secret t)
  begun_placed side s t j spec secret y none some = record {
    many = y.many;
    up = y.up;
    down = y.down;
    first = y.first;
    others = λ i other p is. by i other p is (cases_eq i j);
  }
    where
      by : (i : ℕ) → (i ≡ 0 → ⊥) → (p : Pending) → pending_at s.mount i ≡ Some p → (i ≡ j) ⊎ ((i ≡ j) → ⊥)
          → FitsCopy side s.files (copy_at i (with_begun j spec secret t)) p
      by i other p is (inl here) =
          let f = y.others i other p is in
          none_some (copy_at j t) f.own none (sym (ap (λ (k : ℕ). copy_at k t) here) ∙ f.own_is)
      by i other p is (inr apart) =
          subst (λ (o : Option ClientCopy). FitsCopy side s.files o p) (sym (copy_kept j i _ t apart)) (y.others i other p is)

  begins_placed : (drawn : Drawn) (j : ℕ) (spec : CopySpec) (now : ℕ) (v w : W) (end : ClientState M × Outbox) → copy_at j c.copies ≡ None → (j ≡ 0 → ⊥)
      → IsBegunBy drawn ways gives j spec now c v w end → IsPlacedClient end.0
  begins_placed (Got secret) j spec now v w end none some step =
      step_placed _ _ v w end (record {
        source = begun_placed Source c.source c.copies j spec secret x.source none some;
        dest = begun_placed Dest c.dest c.copies j spec secret x.dest none some;
      }) step
  begins_placed Failed j spec now v w end none some step = rest_placed end _ step.0 refl refl refl

  work_placed : (side : Side) (work : Work) (now : ℕ) → AllPlaced (with_work side work (acting_at now c)).desk
  work_placed Source work now = desk_placed now c x
  work_placed Dest work now = desk_placed now c x

  pub turn_placed : (turn : Turn) (v w : W) (end : ClientState M × Outbox) → MayTurn turn c → FairTake turn → IsTurn ways gives turn c v w end → IsPlacedClient end.0
  turn_placed (Begins j spec now) v w end may fair step =
      let low : 1 ≤ j = may.0 in
      begins_placed step.drawn j spec now step.middle w end (none_if (nat_lt j 16) j c (below j 16 may.1) may.2) (λ zero_is. absurd (omega arith)) step.is
  turn_placed (Asks query j now) v w end may fair step =
      subst (λ (e : ClientState M × Outbox). IsPlacedClient e.0) (sym step.0)
      (let y = asked_core ways.means.mic counted (nat_lt j PLACES) j query (desk_at now c) (desk_placed now c x) refl in record { source = y.source; dest = y.dest })
  turn_placed (Works side work now) v w end may fair step = step_placed _ _ v w end (work_placed side work now) step
  turn_placed (Ticks now) v w end may fair step =
      subst (λ (e : ClientState M × Outbox). IsPlacedClient e.0) (sym step.0)
      (let y = ticks ways.means.mic counted all_copies (desk_at now c) (desk_placed now c x) copies_are in record { source = y.source; dest = y.dest })
  turn_placed (Retries now) v w end may fair step =
      subst (λ (e : ClientState M × Outbox). IsPlacedClient e.0) (sym step.0)
      (let y = retried ways.means.mic counted (acting_at now c) (desk_placed now c x) in record { source = y.source; dest = y.dest })
  turn_placed (Hears side message now) v w end may fair step =
      judged_placed (judged_of ways.means.mic (second_at now c) programs.CALLBACK message c.back) side message now v w end fair step

-- ---- at the beginning

none_awaited : (n j : ℕ) → get_or {A = Option Awaiting} (replicate n None) j None ≡ None
none_awaited zero zero = refl
none_awaited zero (suc j) = refl
none_awaited (suc n) zero = refl
none_awaited (suc n) (suc j) = none_awaited n j

fresh_placed : (side : Side) (t : Copies) → IsPlaced side (fresh_site side) t
fresh_placed Source t = record {
  many = refl;
  up = λ root is down. absurd cc;
  down = λ none place context aim asking is. none_some (pending_at (fresh_site Source).mount place) _ (ap pending_in (none_awaited 16 place)) is;
  first = λ p is. none_some (pending_at (fresh_site Source).mount 0) p (ap pending_in (none_awaited 16 0)) is;
  others = λ j some p is. none_some (pending_at (fresh_site Source).mount j) p (ap pending_in (none_awaited 16 j)) is;
}
fresh_placed Dest t = record {
  many = refl;
  up = λ root is down. absurd cc;
  down = λ none place context aim asking is. none_some (pending_at (fresh_site Dest).mount place) _ (ap pending_in (none_awaited 16 place)) is;
  first = λ p is. none_some (pending_at (fresh_site Dest).mount 0) p (ap pending_in (none_awaited 16 0)) is;
  others = λ j some p is. none_some (pending_at (fresh_site Dest).mount j) p (ap pending_in (none_awaited 16 j)) is;
}

pub begins_placed_at : {M : Type 0} (s : Setting M) → IsPlacedClient (new_client s)
begins_placed_at s = record { source = fresh_placed Source _; dest = fresh_placed Dest _ }

-- ---- what a take wants, where mounts are as they should be

-- a step of a mount leaves it as it should be
abbrev pub Keeping : Identity → Means → Type 0
Keeping who means = (before after : Above) (m : Mounted) (move : Move) → IsMountStep who means before after m move → IsGood who (done_move means move m).mount

any_above : Above
any_above = record { boot = 0; calls = 0; purpose = λ place. ForOther; ready = λ purpose. true }

take_up : (who : Identity) (means : Means) (keeps : Keeping who means) (m : Mounted) (place : ℕ) (message : List ℕ) → IsGood who m → IsBytes message
    → IsUp (taken_at means place message m).1
take_up who means keeps m place message good bytes root is down =
    let after = keeps any_above any_above m (Takes place message)
    (record { good = good; goes_on = record { boot = refl; calls = omega arith; purpose = λ other a there. refl }; may = bytes }) in
    (after.up root is).set_up down

good_down : (who : Identity) (m : Mounted) → IsGood who m → (place : ℕ) (init : Beginning) → pending_at m place ≡ Some (Init init) → root_name m.standing ≡ None
good_down who m good place init is = (good.fair place (Init init) is).down

pub stays_placed : {M W : Type 0} (who : Identity) (ways : Ways) (gives : W → Drawn → W → Type 0) (counted : Counted) (keeps : Keeping who ways.means) (turn : Turn)
    (c : ClientState M) (v w : W) (end : ClientState M × Outbox) → IsSettled who c → MayTurn turn c → TakesBytes turn → IsTurn ways gives turn c v w end → IsPlacedClient c
    → IsPlacedClient end.0
stays_placed who ways gives counted keeps (Hears Source message now) c v w end settled may bytes step x =
    turn_placed ways gives counted c x (Hears Source message now) v w end may
    (λ place. take_up who ways.means keeps c.source.mount place message (settled.good Source) bytes, good_down who c.source.mount (settled.good Source)) step
stays_placed who ways gives counted keeps (Hears Dest message now) c v w end settled may bytes step x =
    turn_placed ways gives counted c x (Hears Dest message now) v w end may
    (λ place. take_up who ways.means keeps c.dest.mount place message (settled.good Dest) bytes, good_down who c.dest.mount (settled.good Dest)) step
stays_placed who ways gives counted keeps (Begins j spec now) c v w end settled may bytes step x = turn_placed ways gives counted c x (Begins j spec now) v w end may tt step
stays_placed who ways gives counted keeps (Asks query j now) c v w end settled may bytes step x = turn_placed ways gives counted c x (Asks query j now) v w end may tt step
stays_placed who ways gives counted keeps (Works side work now) c v w end settled may bytes step x = turn_placed ways gives counted c x (Works side work now) v w end may tt step
stays_placed who ways gives counted keeps (Ticks now) c v w end settled may bytes step x = turn_placed ways gives counted c x (Ticks now) v w end may tt step
stays_placed who ways gives counted keeps (Retries now) c v w end settled may bytes step x = turn_placed ways gives counted c x (Retries now) v w end may tt step
