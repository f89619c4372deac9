-- What an answer is, that comes to a copy: the reply to the call that stands at its place, which asks by what the copy knows.
use Rattle.std.proofs.Common.{◌≡◌, ◌∙◌, ℕ, true, false, List, ◌∷◌, Some, refl, sym, ap, subst}
use Rattle.caller_laws.specs.Good.{Identity, IsAsked}
use Rattle.caller_laws.specs.View.{handle_named, purpose_of, what_asked}
use Rattle.client_copies.specs.Table.{copy_at}
use Rattle.client_copies.specs.declared.copy.ClientCopy.{ClientCopy}
use Rattle.client_core.specs.State.{ClientState}
use Rattle.client_core.specs.Telling.{mount_at}
use Rattle.client_laws.proofs.speaking.Mounts.{some_is}
use Rattle.client_laws.specs.Answered.{IsAnswerTaken}
use Rattle.client_laws.specs.CallerLaws.{purpose_for}
use Rattle.client_laws.specs.Speaking.Carried.{IsCarried, Recalls, seen}
use Rattle.client_laws.specs.Speaking.Places.{FitsCopy, FitsOwn, FitsSlot, IsPlacedClient}
use Rattle.client_laws.specs.Turns.{Turn}
use Rattle.client_laws.specs.WholeTurns.{Purposes, acts_of}
use Rattle.client_site.specs.declared.site.OpenFile.{OpenFile}
use Rattle.client_steps.specs.Answers.{stage_creates}
use Rattle.mount.specs.State.{pending_at}
use Rattle.mount.specs.declared.state.Aim.{Aim}
use Rattle.mount.specs.declared.state.Aim.TheVariants as aims
use Rattle.mount.specs.declared.state.Context.{Context}
use Rattle.mount.specs.declared.state.Pending.{Pending}
use Rattle.mount.specs.declared.state.Pending.TheVariants.{Under}
use Rattle.nfs_base.specs.declared.seal.Seal.{Seal}
use Rattle.nfs_base.specs.declared.side.Side.{Side}
use Rattle.nfs_base.specs.declared.side.Side.TheVariants.{Source, Dest}
use Rattle.nfs_compound.specs.Compounds.{CompoundFits, compound_bytes}
use Rattle.nfs_compound.specs.Results as compound_results
use Rattle.nfs_compound.specs.declared.reply.Reply.{Reply}
use Rattle.outbox.specs.declared.outgoing.Outbox.{Outbox}
use Rattle.session_calls.specs.Calls.{sequence_op, slot_compound, slot_ops}
use Rattle.session_calls.specs.declared.slot_call.SlotCall.{SlotCall}
use Rattle.session_calls.specs.declared.slot_call.SlotUse.{SlotUse}
use Rattle.session_calls.specs.declared.slot_call.TheConstants.{HIGHEST_SLOT}
use Rattle.session_client.specs.Pending.{Asking}
use Rattle.session_client.specs.declared.asked.Asked.{Asked}
use Rattle.session_client.specs.declared.asked.Asked.TheVariants.{Compound}
use Rattle.wire_meaning.specs.Meaning.{asked_by}
use Rattle.wire_model.specs.CallerLaws.{Takes}
use Rattle.wire_model.specs.Wire.{Call, Slotted, What}
use Rattle.wire_spelling.specs.Replies.{results_of}
use Rattle.wire_spelling.specs.Slots.{slot_named}
use Rattle.wire_spelling.specs.Spelling.{spelling}
use Rattle.wire_xdr.specs.All.{value_of}
use Rattle.wire_xdr.specs.Cursor.{IsBytes}

-- each side of a client is in place
abbrev pub side_files : {M : Type 0} → Side → ClientState M → List OpenFile
side_files Source c = c.source.files
side_files Dest c = c.dest.files

pub others_at : {M : Type 0} (side : Side) (c : ClientState M) → IsPlacedClient c → (j : ℕ) → (j ≡ 0 → ⊥) → (p : Pending) → pending_at (mount_at side c) j ≡ Some p
    → FitsCopy side (side_files side c) (copy_at j c.copies) p
others_at Source c x j some p is = x.source.others j some p is
others_at Dest c x j some p is = x.dest.others j some p is

-- what these operations ask is read back from their bytes
abbrev pub Reading : Type 0
Reading =
    (slot : SlotUse) (call : SlotCall) → IsBytes (compound_bytes (slot_compound slot call)) → CompoundFits (slot_compound slot call)
    → asked_by (compound_bytes (slot_compound slot call)) ≡ sequence_op slot ∷ slot_ops call

-- The reply is to this call of the copy, at this server.
pub record IsHeard {M : Type 0} (who : Identity) (boot : ℕ) (purposes : Purposes) (c : ClientState M) (turn : Turn) (out : Outbox) (side : Side) (j : ℕ) (own : ClientCopy)
    (message : List ℕ) (told : Reply) : Type 0 where
  pub slot : SlotUse
  pub call : SlotCall
  pub seal : Seal
  pub wire : Call
  pub takes : Takes (spelling who.accepts who.whose) (seen boot purposes side c) (acts_of turn out) seal (Slotted seal wire) message
  pub purpose_is : wire.purpose ≡ purposes side j
  pub is_for : purpose_for j call ≡ purposes side j
  pub recalls : Recalls (copy_at j c.copies) call
  pub asks : asked_by wire.ops ≡ sequence_op slot ∷ slot_ops call
  pub says : value_of compound_results.reply (results_of message) ≡ Some told
  pub asked : Asked
  pub asked_is : asked ≡ Compound (slot_compound slot call)
  pub fits : FitsSlot side (side_files side c) own asked
  pub context : ℕ
  pub asking : Asking
  pub there : pending_at (mount_at side c) j ≡ Some (Under context aims.Slot asking)

module _ {M : Type 0} (who : Identity) (boot : ℕ) (purposes : Purposes) (c : ClientState M) (x : IsCarried who boot purposes c) (reading : Reading) (turn : Turn) (out : Outbox)
    (side : Side) (message : List ℕ) (j : ℕ) (some : j ≡ 0 → ⊥) (own : ClientCopy) (is : copy_at j c.copies ≡ Some own) (calm : stage_creates side own.stage ≡ false) (told : Reply) where
  heard_slot : (context : ℕ) (asking : Asking) (under : Context) → pending_at (mount_at side c) j ≡ Some (Under context aims.Slot asking)
      → FitsSlot side (side_files side c) own asking.asked
      → Takes (spelling who.accepts who.whose) (seen boot purposes side c) (acts_of turn out) asking.seal
      (what_asked asking.seal (handle_named under.root) (purposes side j) asking.asked) message
      → value_of compound_results.reply (results_of message) ≡ Some told → IsHeard who boot purposes c turn out side j own message told
  heard_slot context asking under there fits takes says =
      let f = x.asked side j context asking there in
      let name = slot_named (record { session = f.slot.session; sequence = f.slot.number; slot = f.slot.slot; highest_slot = HIGHEST_SLOT; cache_this = false }) in
      let wire : Call = record {
        root = handle_named under.root;
        slot = name.slot;
        number = name.number;
        ops = compound_bytes (slot_compound f.slot f.call);
        purpose = purposes side j;
      } in
      let sees : what_asked asking.seal (handle_named under.root) (purposes side j) asking.asked ≡ Slotted asking.seal wire =
      ap (what_asked asking.seal (handle_named under.root) (purposes side j)) f.asked_is in
      let taken = subst (λ (w : What). Takes (spelling who.accepts who.whose) (seen boot purposes side c) (acts_of turn out) asking.seal w message) sees takes in
      let fair = (x.settled.good side).fair j (Under context aims.Slot asking) there in
      let ours = subst (IsAsked j) f.asked_is fair.asked in
      let bytes = x.bytes side taken.place _ asking.seal wire taken.awaited in
      record {
        slot = f.slot;
        call = f.call;
        seal = asking.seal;
        wire = wire;
        takes = taken;
        purpose_is = refl;
        is_for = f.purpose_is;
        recalls = f.recalls;
        asks = reading f.slot f.call bytes ours.sendable.fits;
        says = says;
        asked = asking.asked;
        asked_is = f.asked_is;
        fits = fits;
        context = context;
        asking = asking;
        there = there;
      }

  heard_by : (context : ℕ) (aim : Aim) (asking : Asking) (under : Context) → pending_at (mount_at side c) j ≡ Some (Under context aim asking)
      → FitsOwn side (side_files side c) own (Under context aim asking)
      → Takes (spelling who.accepts who.whose) (seen boot purposes side c) (acts_of turn out) asking.seal
      (what_asked asking.seal (handle_named under.root) (purpose_of aim (purposes side j)) asking.asked) message
      → value_of compound_results.reply (results_of message) ≡ Some told → IsHeard who boot purposes c turn out side j own message told
  heard_by context aims.Slot asking under there fits takes says = heard_slot context asking under there fits takes says
  heard_by context aims.Setup asking under there fits takes says = absurd fits
  heard_by context aims.End asking under there fits takes says = absurd fits
  heard_by context (aims.Child child) asking under there fits takes says =
      let both : true ≡ false = sym fits.0 ∙ calm in
      absurd cc

  pub heard : IsAnswerTaken who boot (purposes side) side turn message c out j told → IsHeard who boot purposes c turn out side j own message told
  heard taken =
      let f = others_at side c x.placed j some (Under taken.context taken.aim taken.asking) taken.awaited in
      let same = some_is f.own own (sym f.own_is ∙ is) in
      let fits = subst (λ (k : ClientCopy). FitsOwn side (side_files side c) k (Under taken.context taken.aim taken.asking)) same f.fits in
      heard_by taken.context taken.aim taken.asking taken.under taken.awaited fits taken.takes taken.says
