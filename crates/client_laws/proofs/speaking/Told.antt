-- What the answers to a copy's calls tell, as the wires of their servers see it.
use Rattle.std.proofs.Common.{◌≡◌, ◌∙◌, ℕ, true, false, List, [], ◌∷◌, Option, Some, None, refl, sym, ap, subst}
use Rattle.std.specs.Prelude.{option_map}
use Rattle.std.proofs.lemmas.Bool.{eq-eqb}
use Rattle.call_results.specs.Results as results
use Rattle.call_results.specs.declared.copies.Granted.{Granted}
use Rattle.caller_laws.specs.Good.{Identity}
use Rattle.caller_laws.specs.View.{handle_named}
use Rattle.client_copies.specs.Table.{copy_at}
use Rattle.client_copies.specs.declared.copy.ClientCopy.{ClientCopy}
use Rattle.client_copies.specs.declared.copy.First.{First}
use Rattle.client_copies.specs.declared.copy.Query.TheVariants as queries
use Rattle.client_copies.specs.declared.copy.Session.{Session}
use Rattle.client_copies.specs.declared.copy.Stage.TheVariants as stages
use Rattle.client_copies.specs.declared.copy.Step.{Step}
use Rattle.client_copies.specs.declared.copy.Step.TheVariants as steps
use Rattle.client_copies.specs.declared.event.Event.TheVariants as events
use Rattle.client_core.specs.Endings.{Ways}
use Rattle.client_core.specs.State.{ClientState}
use Rattle.client_laws.proofs.speaking.Fields.{Coming, IsAnswer, Taking, calm_copy, calm_last, calm_notify, calm_past, comes_of, for_copy, for_first, for_last, for_status, heard_at, mounted_at, opened_same, own_at, side_at, some_copy}
use Rattle.client_laws.proofs.speaking.Hearing.{IsHeard, Reading}
use Rattle.client_laws.proofs.speaking.Mounts.{some_is}
use Rattle.client_laws.specs.Causes.{IsAnswered, desk_heard}
use Rattle.client_laws.specs.Speaking.Carried.{IsCarried, Recalls}
use Rattle.client_laws.specs.Speaking.Fields.{IsTold}
use Rattle.client_laws.specs.Turns.{Hears, Turn}
use Rattle.client_laws.specs.WholeTurns.{Purposes}
use Rattle.client_laws.specs.WordLaws.{Accepts, ComesOf, Grants, IsAcceptance, IsGrant, IsLastChange, IsPlain, IsProgress, Knew, Plain, Progresses, Tells}
use Rattle.client_site.specs.declared.site.OpenFile.{OpenFile}
use Rattle.client_steps.specs.Answers.{stage_creates}
use Rattle.client_steps.specs.CopySteps.{copy_in}
use Rattle.client_steps.specs.declared.deeds.Deed.{Deed}
use Rattle.client_steps.specs.declared.deeds.Deed.TheVariants as deeds
use Rattle.client_steps.specs.declared.desk.Desk.{Desk}
use Rattle.copy_model.specs.Job.{Plan}
use Rattle.copy_ops.specs.declared.args.CopyArgs.{CopyArgs}
use Rattle.copy_ops.specs.declared.results.OffloadProgress.{OffloadProgress}
use Rattle.file_server.specs.Handles.{file_in}
use Rattle.mount.specs.declared.taking.Told.{Told}
use Rattle.nfs_base.specs.declared.net_loc.NetLoc.{NetLoc}
use Rattle.nfs_base.specs.declared.side.Side.{Side}
use Rattle.nfs_base.specs.declared.side.Side.TheVariants.{Source, Dest}
use Rattle.nfs_base.specs.declared.state_id.StateId.{StateId}
use Rattle.nfs_base.specs.declared.status.Status.{Status}
use Rattle.nfs_compound.specs.declared.compound.Compound.{Compound as Whole}
use Rattle.nfs_compound.specs.declared.reply.Reply.{Reply}
use Rattle.outbox.specs.declared.outgoing.Outbox.{Outbox}
use Rattle.session_calls.specs.Calls.{sequence_op, slot_compound, slot_ops}
use Rattle.session_calls.specs.declared.slot_call.CopyRange.{CopyRange}
use Rattle.session_calls.specs.declared.slot_call.SlotCall.{SlotCall}
use Rattle.session_client.specs.declared.asked.Asked.TheVariants.{Compound}
use Rattle.wire_meaning.specs.Meaning.{copy_asked, file_asked, is_complete, is_zero, job_named, meaning, plan_asked, results_read, status_asked}
use Rattle.wire_model.specs.Wire.{ForCopy, ForFirst, ForLast, ForStatus}
use Rattle.wire_spelling.specs.Replies.{results_of}

-- ---- which answer comes to what

grant_of : (told : Told) (side : Side) (copy : Option ClientCopy) (sent_at : ℕ) (d : Desk) (deed : Deed) (known : First) → ComesOf told side copy sent_at d deed
    → deed ≡ deeds.Copy (events.Granted known) → IsGrant told copy d known
grant_of told side copy sent_at d deed known (Grants other g) e =
    let same : other ≡ known = cc in
    subst (IsGrant told copy d) same g
grant_of told side copy sent_at d deed known (Accepts id g) e = absurd cc
grant_of told side copy sent_at d deed known (Tells change session g) e = absurd cc
grant_of told side copy sent_at d deed known (Progresses progress g) e = absurd cc
grant_of told side copy sent_at d deed known (Plain other plain) e = absurd (subst IsPlain e plain)

accept_of : (told : Told) (side : Side) (copy : Option ClientCopy) (sent_at : ℕ) (d : Desk) (deed : Deed) (id : StateId) → ComesOf told side copy sent_at d deed
    → deed ≡ deeds.Starts id → IsAcceptance told copy id
accept_of told side copy sent_at d deed id (Accepts other g) e =
    let same : other ≡ id = cc in
    subst (IsAcceptance told copy) same g
accept_of told side copy sent_at d deed id (Grants known g) e = absurd cc
accept_of told side copy sent_at d deed id (Tells change session g) e = absurd cc
accept_of told side copy sent_at d deed id (Progresses progress g) e = absurd cc
accept_of told side copy sent_at d deed id (Plain other plain) e = absurd (subst IsPlain e plain)

last_of : (told : Told) (side : Side) (copy : Option ClientCopy) (sent_at : ℕ) (d : Desk) (deed : Deed) (change : ℕ) (session : Session) → ComesOf told side copy sent_at d deed
    → deed ≡ deeds.Copy (events.Told change session) → IsLastChange told copy d change session
last_of told side copy sent_at d deed change session (Tells other session' g) e =
    let same : other ≡ change = cc in
    let session_same : session' ≡ session = cc in
    subst (λ (k : Session). IsLastChange told copy d change k) session_same (subst (λ (n : ℕ). IsLastChange told copy d n session') same g)
last_of told side copy sent_at d deed change session (Grants known g) e = absurd cc
last_of told side copy sent_at d deed change session (Accepts id g) e = absurd cc
last_of told side copy sent_at d deed change session (Progresses progress g) e = absurd cc
last_of told side copy sent_at d deed change session (Plain other plain) e = absurd (subst IsPlain e plain)

record IsProgressed (told : Told) (side : Side) (copy : Option ClientCopy) (complete : Option Status) : Type 0 where
  progress : OffloadProgress
  is : IsProgress told side copy progress
  same : progress.complete ≡ complete

progress_of : (told : Told) (side : Side) (copy : Option ClientCopy) (sent_at : ℕ) (d : Desk) (deed : Deed) (count : ℕ) (complete : Option Status) (at : ℕ)
    → ComesOf told side copy sent_at d deed → deed ≡ deeds.Copy (events.Progressed count complete at) → IsProgressed told side copy complete
progress_of told side copy sent_at d deed count complete at (Progresses progress g) e = record { progress = progress; is = g; same = cc }
progress_of told side copy sent_at d deed count complete at (Grants known g) e = absurd cc
progress_of told side copy sent_at d deed count complete at (Accepts id g) e = absurd cc
progress_of told side copy sent_at d deed count complete at (Tells change session g) e = absurd cc
progress_of told side copy sent_at d deed count complete at (Plain other plain) e = absurd (subst IsPlain e plain)

-- ---- parts

grant_change : (a : Option ℕ) (b : Option StateId) (g : Granted) → results.both_granted a b ≡ Some g → a ≡ Some g.change
grant_change (Some change) (Some id) g e =
    let same : ◌≡◌ {A = Granted} (record { change = change; id = id }) g = cc in
    ap (λ (k : Granted). Some k.change) same
grant_change (Some change) None g e = absurd cc
grant_change None b g e = absurd cc

compound_ops : (a b : Whole) → Compound a ≡ Compound b → a.ops ≡ b.ops
compound_ops a b e =
    let same : a ≡ b = cc in
    ap (λ (k : Whole). k.ops) same

pub record FirstTold {M : Type 0} (who : Identity) (boot : ℕ) (purposes : Purposes) (c : ClientState M) (turn : Turn) (out : Outbox) (j : ℕ) (known : First) : Type 0 where
  pub told : IsTold who boot purposes c turn out Source (ForFirst j)
  pub root : told.call.root ≡ handle_named known.session.root
  pub asks : meaning.asks_attributes told.call.ops ≡ Some (file_in known.file)
  pub says : meaning.change_in (results_of told.reply) ≡ Some known.change

pub record NameTold {M : Type 0} (who : Identity) (boot : ℕ) (purposes : Purposes) (c : ClientState M) (turn : Turn) (out : Outbox) (j : ℕ) (id : StateId) : Type 0 where
  pub told : IsTold who boot purposes c turn out Dest (ForCopy j)
  pub plan : Plan
  pub asks : meaning.copies told.call.ops ≡ Some plan
  pub says : meaning.name_in (results_of told.reply) ≡ Some (job_named id)
  pub known : First
  pub knew : Knew (λ (x : ClientCopy). x.first) known (copy_at j c.copies)
  pub file : file_in known.file ≡ plan.src_file

pub record LastTold {M : Type 0} (who : Identity) (boot : ℕ) (purposes : Purposes) (c : ClientState M) (turn : Turn) (out : Outbox) (j change : ℕ) (session : Session) : Type 0 where
  pub told : IsTold who boot purposes c turn out Source (ForLast j)
  pub root : told.call.root ≡ handle_named session.root
  pub known : First
  pub knew : Knew (λ (x : ClientCopy). x.first) known (copy_at j c.copies)
  pub asks : meaning.asks_attributes told.call.ops ≡ Some (file_in known.file)
  pub says : meaning.change_in (results_of told.reply) ≡ Some change

pub record StatusTold {M : Type 0} (who : Identity) (boot : ℕ) (purposes : Purposes) (c : ClientState M) (turn : Turn) (out : Outbox) (j : ℕ) : Type 0 where
  pub told : IsTold who boot purposes c turn out Dest (ForStatus j)
  pub id : StateId
  pub knew : Knew (λ (x : ClientCopy). x.id) id (copy_at j c.copies)
  pub asks : meaning.asks_status told.call.ops ≡ Some (job_named id)
  pub says : meaning.says_complete (results_of told.reply) ≡ true

-- the copy that there is awaits the answer to this step
pub record IsStaged (copy : Option ClientCopy) (step : Step) : Type 0 where
  pub own : ClientCopy
  pub is : copy ≡ Some own
  pub asked : own.stage ≡ stages.Asked step

-- the arguments of a COPY
abbrev copy_args : StateId → StateId → CopyRange → NetLoc → CopyArgs
copy_args source_id id range source = record {
  src_id = source_id;
  dst_id = id;
  src_off = range.src_off;
  dst_off = range.dst_off;
  count = range.count;
  consecutive = range.consecutive;
  synchronous = false;
  sources = source ∷ [];
}

module _ {M : Type 0} (who : Identity) (boot : ℕ) (purposes : Purposes) (ways : Ways) (turn : Turn) (c : ClientState M) (out : Outbox) (x : IsCarried who boot purposes c)
    (reading : Reading) (coming : Coming) (taking : Taking who boot purposes ways turn c out) (j : ℕ) where
  -- ---- the first change attribute

  grant_at : (known : First) (a : IsAnswer ways turn c j (deeds.Copy (events.Granted known)))
      → IsGrant a.answered.found.told (copy_in j (desk_heard ways a.side a.message a.now a.answered.found c)) (desk_heard ways a.side a.message a.now a.answered.found c) known
  grant_at known a =
      grant_of _ _ _ _ _ (deeds.Copy (events.Granted known)) known (comes_of who boot purposes ways turn c out x reading coming taking j (deeds.Copy (events.Granted known)) a) refl

  first_heard : (known : First) (a : IsAnswer ways turn c j (deeds.Copy (events.Granted known)))
      → IsHeard who boot purposes c turn out a.side j (grant_at known a).to.asking a.message (grant_at known a).to.reply
  first_heard known a =
      let g = grant_at known a in
      heard_at who boot purposes ways turn c out x reading coming taking j (deeds.Copy (events.Granted known)) a g.to.asking g.to.reply
      (own_at who boot purposes ways turn c out x reading coming taking j (deeds.Copy (events.Granted known)) a g.to.asking g.to.asking_is)
      (ap (stage_creates a.side) g.to.asked ∙ calm_notify a.side) g.to.told_is

  first_by : (known : First) (side : Side) (message : List ℕ) (now : ℕ) → turn ≡ Hears side message now → IsAnswered ways side message now c j (deeds.Copy (events.Granted known)) → side ≡ Source
      → FirstTold who boot purposes c turn out j known
  first_by known Dest message now turn_is answered here = absurd cc
  first_by known Source message now turn_is answered here =
      let a : IsAnswer ways turn c j (deeds.Copy (events.Granted known)) = record { side = Source; message = message; now = now; turn_is = turn_is; answered = answered } in
      let g = grant_at known a in
      let h = first_heard known a in
      let own = g.to.asking in
      let is = own_at who boot purposes ways turn c out x reading coming taking j (deeds.Copy (events.Granted known)) a own g.to.asking_is in
      let some = some_copy who boot purposes ways turn c out x reading coming taking j own is in
      let is_for = ((x.fits Source).each j some own is).first g.to.asked in
      let n = for_first j h.call (h.is_for ∙ is_for) in
      let mounted =
      mounted_at who boot purposes ways turn c out x reading coming taking j message now answered.found g.to.reply known.session own answered.found_is answered.place g.to.told_is g.to.ok h g.session in
      let same_ops = compound_ops (slot_compound h.fits.slot h.fits.call) (slot_compound h.slot h.call) (sym h.fits.asked_is ∙ h.asked_is) in
      let o = opened_same c.source.files own h.fits.slot h.slot h.fits.call n.file n.id n.destination h.fits.opened
      (same_ops ∙ ap (λ (call : SlotCall). sequence_op h.slot ∷ slot_ops call) n.is) in
      let one_file = some_is o.opened g.opened_file (sym o.opened_is ∙ g.opened) in
      let file : n.file ≡ known.file = sym o.handle ∙ ap (λ (f : OpenFile). f.handle) one_file ∙ sym g.file in
      record {
        told = record { seal = h.seal; call = h.wire; reply = message; takes = h.takes; purpose_is = h.purpose_is ∙ is_for };
        root = some_is h.wire.root (handle_named known.session.root) (sym (x.rooted Source h.takes.place _ h.seal h.wire h.takes.awaited) ∙ mounted);
        asks =
            ap file_asked h.asks ∙ ap (λ (call : SlotCall). file_asked (sequence_op h.slot ∷ slot_ops call)) n.is
            ∙ ap (λ (f : List ℕ). Some (file_in f)) file;
        says =
            ap (λ (r : Option Reply). results.at 2 results.told_change (results_read r)) h.says
            ∙ grant_change (results.at 2 results.told_change g.to.reply.results) (results.at 3 results.told_grant g.to.reply.results) g.granted g.says
            ∙ ap (λ (n : ℕ). Some n) (sym g.change);
      }

  pub first_told : (known : First) → IsAnswer ways turn c j (deeds.Copy (events.Granted known)) → FirstTold who boot purposes c turn out j known
  first_told known a =
      let g = grant_at known a in
      first_by known a.side a.message a.now a.turn_is a.answered
      (side_at who boot purposes ways turn c out x reading coming taking j (deeds.Copy (events.Granted known)) a g.to.asking steps.Notify a.message g.to.reply g.to.asking_is g.to.asked
      (λ query unlike. unlike) (first_heard known a))

  -- ---- the name

  accept_at : (id : StateId) (a : IsAnswer ways turn c j (deeds.Starts id))
      → IsAcceptance a.answered.found.told (copy_in j (desk_heard ways a.side a.message a.now a.answered.found c)) id
  accept_at id a = accept_of _ _ _ _ _ (deeds.Starts id) id (comes_of who boot purposes ways turn c out x reading coming taking j (deeds.Starts id) a) refl

  name_heard : (id : StateId) (a : IsAnswer ways turn c j (deeds.Starts id))
      → IsHeard who boot purposes c turn out a.side j (accept_at id a).to.asking a.message (accept_at id a).to.reply
  name_heard id a =
      let g = accept_at id a in
      heard_at who boot purposes ways turn c out x reading coming taking j (deeds.Starts id) a g.to.asking g.to.reply
      (own_at who boot purposes ways turn c out x reading coming taking j (deeds.Starts id) a g.to.asking g.to.asking_is)
      (ap (stage_creates a.side) g.to.asked ∙ calm_copy a.side) g.to.told_is

  name_by : (id : StateId) (side : Side) (message : List ℕ) (now : ℕ) → turn ≡ Hears side message now → IsAnswered ways side message now c j (deeds.Starts id) → side ≡ Dest
      → NameTold who boot purposes c turn out j id
  name_by id Source message now turn_is answered here = absurd cc
  name_by id Dest message now turn_is answered here =
      let a : IsAnswer ways turn c j (deeds.Starts id) = record { side = Dest; message = message; now = now; turn_is = turn_is; answered = answered } in
      let g = accept_at id a in
      let h = name_heard id a in
      let own = g.to.asking in
      let is = own_at who boot purposes ways turn c out x reading coming taking j (deeds.Starts id) a own g.to.asking_is in
      let some = some_copy who boot purposes ways turn c out x reading coming taking j own is in
      let is_for = ((x.fits Dest).each j some own is).copy_is g.to.asked in
      let n = for_copy j h.call (h.is_for ∙ is_for) in
      let recalls = subst (Recalls (copy_at j c.copies)) n.is h.recalls in
      record {
        told = record { seal = h.seal; call = h.wire; reply = message; takes = h.takes; purpose_is = h.purpose_is ∙ is_for };
        plan = plan_asked n.source_file n.file (copy_args n.source_id n.id n.range n.source);
        asks = ap copy_asked h.asks ∙ ap (λ (call : SlotCall). copy_asked (sequence_op h.slot ∷ slot_ops call)) n.is;
        says = ap (λ (r : Option Reply). option_map job_named (results.at 4 results.told_accepted (results_read r))) h.says ∙ ap (option_map job_named) g.says;
        known = recalls.0;
        knew = recalls.1;
        file = ap file_in recalls.2;
      }

  pub name_told : (id : StateId) → IsAnswer ways turn c j (deeds.Starts id) → NameTold who boot purposes c turn out j id
  name_told id a =
      let g = accept_at id a in
      name_by id a.side a.message a.now a.turn_is a.answered
      (side_at who boot purposes ways turn c out x reading coming taking j (deeds.Starts id) a g.to.asking steps.Copy a.message g.to.reply g.to.asking_is g.to.asked
      (λ query unlike. unlike) (name_heard id a))

  -- ---- the last change attribute

  last_at : (change : ℕ) (session : Session) (a : IsAnswer ways turn c j (deeds.Copy (events.Told change session)))
      → IsLastChange a.answered.found.told (copy_in j (desk_heard ways a.side a.message a.now a.answered.found c)) (desk_heard ways a.side a.message a.now a.answered.found c) change session
  last_at change session a =
      last_of _ _ _ _ _ (deeds.Copy (events.Told change session)) change session
      (comes_of who boot purposes ways turn c out x reading coming taking j (deeds.Copy (events.Told change session)) a) refl

  last_heard : (change : ℕ) (session : Session) (a : IsAnswer ways turn c j (deeds.Copy (events.Told change session)))
      → IsHeard who boot purposes c turn out a.side j (last_at change session a).to.asking a.message (last_at change session a).to.reply
  last_heard change session a =
      let g = last_at change session a in
      heard_at who boot purposes ways turn c out x reading coming taking j (deeds.Copy (events.Told change session)) a g.to.asking g.to.reply
      (own_at who boot purposes ways turn c out x reading coming taking j (deeds.Copy (events.Told change session)) a g.to.asking g.to.asking_is)
      (ap (stage_creates a.side) g.to.asked ∙ calm_last a.side) g.to.told_is

  last_by : (change : ℕ) (session : Session) (side : Side) (message : List ℕ) (now : ℕ) → turn ≡ Hears side message now
      → IsAnswered ways side message now c j (deeds.Copy (events.Told change session)) → side ≡ Source → LastTold who boot purposes c turn out j change session
  last_by change session Dest message now turn_is answered here = absurd cc
  last_by change session Source message now turn_is answered here =
      let a : IsAnswer ways turn c j (deeds.Copy (events.Told change session)) = record { side = Source; message = message; now = now; turn_is = turn_is; answered = answered } in
      let g = last_at change session a in
      let h = last_heard change session a in
      let own = g.to.asking in
      let is = own_at who boot purposes ways turn c out x reading coming taking j (deeds.Copy (events.Told change session)) a own g.to.asking_is in
      let some = some_copy who boot purposes ways turn c out x reading coming taking j own is in
      let is_for = ((x.fits Source).each j some own is).last g.to.asked in
      let n = for_last j h.call (h.is_for ∙ is_for) in
      let mounted =
      mounted_at who boot purposes ways turn c out x reading coming taking j message now answered.found g.to.reply session own answered.found_is answered.place g.to.told_is g.to.ok h g.session_is in
      let recalls = subst (Recalls (copy_at j c.copies)) n.is h.recalls in
      record {
        told = record { seal = h.seal; call = h.wire; reply = message; takes = h.takes; purpose_is = h.purpose_is ∙ is_for };
        root = some_is h.wire.root (handle_named session.root) (sym (x.rooted Source h.takes.place _ h.seal h.wire h.takes.awaited) ∙ mounted);
        known = recalls.0;
        knew = recalls.1;
        asks =
            ap file_asked h.asks ∙ ap (λ (call : SlotCall). file_asked (sequence_op h.slot ∷ slot_ops call)) n.is
            ∙ ap (λ (f : List ℕ). Some (file_in f)) (sym recalls.2);
        says = ap (λ (r : Option Reply). results.at 2 results.told_change (results_read r)) h.says ∙ g.says;
      }

  pub last_told : (change : ℕ) (session : Session) → IsAnswer ways turn c j (deeds.Copy (events.Told change session)) → LastTold who boot purposes c turn out j change session
  last_told change session a =
      let g = last_at change session a in
      last_by change session a.side a.message a.now a.turn_is a.answered
      (side_at who boot purposes ways turn c out x reading coming taking j (deeds.Copy (events.Told change session)) a g.to.asking steps.Last a.message g.to.reply g.to.asking_is g.to.asked
      (λ query unlike. unlike) (last_heard change session a))

  -- ---- how far it is

  progress_at : (count : ℕ) (complete : Option Status) (at : ℕ) (a : IsAnswer ways turn c j (deeds.Copy (events.Progressed count complete at)))
      → IsProgressed a.answered.found.told a.side (copy_in j (desk_heard ways a.side a.message a.now a.answered.found c)) complete
  progress_at count complete at a =
      progress_of _ _ _ _ _ (deeds.Copy (events.Progressed count complete at)) count complete at
      (comes_of who boot purposes ways turn c out x reading coming taking j (deeds.Copy (events.Progressed count complete at)) a) refl

  status_by : (count : ℕ) (status : Status) (at : ℕ) (side : Side) (message : List ℕ) (now : ℕ) → status.number ≡ 0 → turn ≡ Hears side message now
      → IsAnswered ways side message now c j (deeds.Copy (events.Progressed count (Some status) at)) → side ≡ Dest → StatusTold who boot purposes c turn out j
  status_by count status at Source message now ok turn_is answered here = absurd cc
  status_by count status at Dest message now ok turn_is answered here =
      let a : IsAnswer ways turn c j (deeds.Copy (events.Progressed count (Some status) at)) = record { side = Dest; message = message; now = now; turn_is = turn_is; answered = answered } in
      let p = progress_at count (Some status) at a in
      let g = p.is in
      let own = g.asking in
      let is = own_at who boot purposes ways turn c out x reading coming taking j (deeds.Copy (events.Progressed count (Some status) at)) a own g.asking_is in
      let some = some_copy who boot purposes ways turn c out x reading coming taking j own is in
      let fits = (x.fits Dest).each j some own is in
      let h = heard_at who boot purposes ways turn c out x reading coming taking j (deeds.Copy (events.Progressed count (Some status) at)) a own g.reply is
      (calm_past own.stage (fits.past queries.Status g.asked)) g.told_is in
      let n = for_status j h.call (h.is_for ∙ fits.status g.asked) in
      let recalls = subst (Recalls (copy_at j c.copies)) n.is h.recalls in
      record {
        told = record { seal = h.seal; call = h.wire; reply = message; takes = h.takes; purpose_is = h.purpose_is ∙ fits.status g.asked };
        id = n.id;
        knew = recalls;
        asks = ap status_asked h.asks ∙ ap (λ (call : SlotCall). status_asked (sequence_op h.slot ∷ slot_ops call)) n.is;
        says =
            ap (λ (r : Option Reply). is_complete (results.at 2 results.told_progress (results_read r))) h.says ∙ ap is_complete g.says ∙ ap is_zero p.same
            ∙ eq-eqb status.number 0 ok;
      }

  pub status_told : (count : ℕ) (status : Status) (at : ℕ) → status.number ≡ 0 → IsAnswer ways turn c j (deeds.Copy (events.Progressed count (Some status) at))
      → StatusTold who boot purposes c turn out j
  status_told count status at ok a =
      status_by count status at a.side a.message a.now ok a.turn_is a.answered (progress_at count (Some status) at a).is.at_dest

  -- ---- one answer doesn't tell both

  pub granted_stage : (known : First) (a : IsAnswer ways turn c j (deeds.Copy (events.Granted known))) → IsStaged (copy_at j c.copies) steps.Notify
  granted_stage known a =
      let g = grant_at known a in
      record {
        own = g.to.asking;
        is = own_at who boot purposes ways turn c out x reading coming taking j (deeds.Copy (events.Granted known)) a g.to.asking g.to.asking_is;
        asked = g.to.asked;
      }

  pub last_stage : (change : ℕ) (session : Session) (a : IsAnswer ways turn c j (deeds.Copy (events.Told change session))) → IsStaged (copy_at j c.copies) steps.Last
  last_stage change session a =
      let g = last_at change session a in
      record {
        own = g.to.asking;
        is = own_at who boot purposes ways turn c out x reading coming taking j (deeds.Copy (events.Told change session)) a g.to.asking g.to.asking_is;
        asked = g.to.asked;
      }

  pub named_stage : (id : StateId) (a : IsAnswer ways turn c j (deeds.Starts id)) → IsStaged (copy_at j c.copies) steps.Copy
  named_stage id a =
      let g = accept_at id a in
      record {
        own = g.to.asking;
        is = own_at who boot purposes ways turn c out x reading coming taking j (deeds.Starts id) a g.to.asking g.to.asking_is;
        asked = g.to.asked;
      }
