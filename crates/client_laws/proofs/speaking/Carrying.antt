-- What holds of a client between turns stays, turn by turn.
use Rattle.std.proofs.Common.{◌≡◌, ◌∙◌, ℕ, ◌≤◌, Bool, true, false, [], ◌∷◌, ◌++◌, length, Some, None, refl, arith}
use Rattle.std.specs.Prelude.{◌==◌}
use Rattle.caller_laws.specs.Good.{Identity}
use Rattle.caller_laws.specs.OneStep.Counting.{Counted}
use Rattle.client_copies.specs.Table.{Copies, copy_at}
use Rattle.client_copies.specs.declared.copy.ClientCopy.{ClientCopy}
use Rattle.client_copies.specs.declared.copy.First.{First}
use Rattle.client_core.specs.Endings.{Ways}
use Rattle.client_core.specs.State.{ClientState, new_client}
use Rattle.client_core.specs.Telling.{copy_of, mount_at}
use Rattle.client_laws.proofs.speaking.Asking.{run_asked}
use Rattle.client_laws.proofs.speaking.Mounts.{IsIdle, none_some}
use Rattle.client_laws.proofs.speaking.Roots.{bytes_after, rooted_after}
use Rattle.client_laws.proofs.speaking.Sounds.{first_after, name_after, sound_after, sound_first}
use Rattle.client_laws.proofs.speaking.Turns.{Keeping}
use Rattle.client_laws.specs.CallerLaws.{PurposesFit, above_at}
use Rattle.client_laws.specs.Speaking.Carried.{IsCarried, Recalls, SendsBytes, seen}
use Rattle.client_laws.specs.Speaking.Places.{IsPlacedClient}
use Rattle.client_laws.specs.TurnLaws.{TurnChanges}
use Rattle.client_laws.specs.Turns.{Asks, Begins, Hears, MayTurn, Retries, Ticks, Turn, Works, begins}
use Rattle.client_laws.specs.WholeTurns.{IsLawfulTurn, IsSettled, IsSpelledAtBoth, IsTurnAtBoth, Purposes, acts_of}
use Rattle.client_laws.specs.WordLaws.{Knew}
use Rattle.client_site.specs.Sites.{end_of}
use Rattle.client_steps.specs.declared.setting.Setting.{Setting}
use Rattle.mount.specs.State.{pending_at}
use Rattle.mount.specs.declared.state.Aim.TheVariants as aims
use Rattle.mount.specs.declared.state.Pending.TheVariants.{Under}
use Rattle.nfs_base.specs.declared.side.Side.{Side}
use Rattle.nfs_base.specs.declared.side.Side.TheVariants.{Source, Dest}
use Rattle.nfs_base.specs.declared.state_id.StateId.{StateId}
use Rattle.outbox.specs.declared.outgoing.Outbox.{Outbox}
use Rattle.session_calls.specs.declared.slot_call.FileCall.TheVariants as asks
use Rattle.session_calls.specs.declared.slot_call.SlotCall.{SlotCall}
use Rattle.session_calls.specs.declared.slot_call.SlotCall.TheVariants as calls
use Rattle.session_client.specs.Pending.{Asking}
use Rattle.wire_model.specs.CallerLaws.{CallerStart}
use Rattle.wire_model.specs.Wire.{Slotted}

-- ---- what is known stays

record IsKept (t u : Copies) : Type 0 where
  first : (j : ℕ) (known : First) → Knew (λ (x : ClientCopy). x.first) known (copy_at j t) → Knew (λ (x : ClientCopy). x.first) known (copy_at j u)
  name : (j : ℕ) (id : StateId) → Knew (λ (x : ClientCopy). x.id) id (copy_at j t) → Knew (λ (x : ClientCopy). x.id) id (copy_at j u)

recalls_stays : (t u : Copies) (j : ℕ) (call : SlotCall) → IsKept t u → Recalls (copy_at j t) call → Recalls (copy_at j u) call
recalls_stays t u j (calls.Copy source_file source_id file id range source) k r = (r.0, k.first j r.0 r.1, r.2)
recalls_stays t u j (calls.OnFile file asks.Change) k r = (r.0, k.first j r.0 r.1, r.2)
recalls_stays t u j (calls.OnFile file (asks.Status id)) k r = k.name j id r
recalls_stays t u j (calls.OnFile file (asks.Cancel id)) k r = tt
recalls_stays t u j (calls.OnFile file (asks.Close id)) k r = tt
recalls_stays t u j (calls.OnFile file (asks.Write id offset bytes)) k r = tt
recalls_stays t u j (calls.OnFile file asks.Commit) k r = tt
recalls_stays t u j (calls.OnFile file asks.ChangeAndSize) k r = tt
recalls_stays t u j (calls.OnFile file (asks.Read id offset count)) k r = tt
recalls_stays t u j calls.ReclaimComplete k r = tt
recalls_stays t u j (calls.Open client owner name) k r = tt
recalls_stays t u j (calls.Notify file id destination) k r = tt

-- ---- no copy has the number 0

none_begins : {M : Type 0} (turn : Turn) (c : ClientState M) → MayTurn turn c → begins 0 turn ≡ false
none_begins (Begins j spec now) c may = by (j == 0) refl may.0
  where
    by : (b : Bool) → (j == 0) ≡ b → 1 ≤ j → (j == 0) ≡ false
    by true e low =
        let zero_is : j ≡ 0 = grind (arith, e) in
        absurd (omega arith)
    by false e low = e
none_begins (Asks query j now) c may = refl
none_begins (Works side work now) c may = refl
none_begins (Ticks now) c may = refl
none_begins (Retries now) c may = refl
none_begins (Hears side message now) c may = refl

idle_at : {M : Type 0} (side : Side) (c : ClientState M) → IsPlacedClient c → IsIdle (mount_at side c)
idle_at Source c x = x.source.down
idle_at Dest c x = x.dest.down

-- ---- a turn

-- what the laws below give of a turn
pub record IsKnownTurn {M : Type 0} (who : Identity) (ways : Ways) (boot : ℕ) (purposes : Purposes) (turn : Turn) (c d : ClientState M) (out : Outbox)
    (t : IsTurnAtBoth who ways boot purposes turn c d out) : Type 0 where
  pub lawful : (side : Side) → IsLawfulTurn who ways boot purposes turn c d out t side
  pub settled : IsSettled who d
  pub placed : IsPlacedClient d
  pub changes : TurnChanges ways turn c d out
  pub none : copy_of 0 d ≡ None
  pub may : MayTurn turn c

pub none_stays : {M : Type 0} (turn : Turn) (c : ClientState M) → MayTurn turn c → copy_at 0 c.copies ≡ None → (copy_of 0 c ≡ None) × (begins 0 turn ≡ false)
none_stays turn c may none = (none, none_begins turn c may)

pub carried_on : {M : Type 0} (counted : Counted) (who : Identity) (ways : Ways) (keeps : Keeping who ways.means) (boot : ℕ) (purposes : Purposes) (turn : Turn) (c d : ClientState M)
    (out : Outbox) (t : IsTurnAtBoth who ways boot purposes turn c d out) → IsKnownTurn who ways boot purposes turn c d out t
    → IsSpelledAtBoth who ways boot purposes turn c d out t → SendsBytes (acts_of turn out) → IsCarried who boot purposes c → IsCarried who boot (λ side. (t side).after) d
carried_on counted who ways keeps boot purposes turn c d out t known spelled sends x = record {
  settled = known.settled;
  placed = known.placed;
  few = let many = known.changes.many in let few = x.few in omega (arith, many, few);
  none_first = known.none;
  sound = sound_after ways turn c d out known.changes known.may x.sound;
  fits = λ side. (t side).fits (x.fits side);
  asked = λ side.
      let kept : IsKept c.copies d.copies = record {
        first = first_after ways turn c d out known.changes known.may x.sound;
        name = name_after ways turn c d out known.changes known.may x.sound;
      } in
      run_asked counted who ways.means keeps d.copies (t side).steps (above_at boot (purposes side) c) (mount_at side c) (above_at boot (t side).after d) (mount_at side d) (t side).run
      (spelled side) (t side).asks (x.settled.good side)
      (λ place context asking is.
      let f = x.asked side place context asking is in
      record { slot = f.slot; call = f.call; asked_is = f.asked_is; purpose_is = f.purpose_is; recalls = recalls_stays c.copies d.copies place f.call kept f.recalls });
  rooted = λ side.
      rooted_after who (end_of side) (above_at boot (purposes side) c) (above_at boot (t side).after d) (mount_at side c) (mount_at side d) (acts_of turn out) (known.lawful side)
      (x.settled.good side) (known.settled.good side) (idle_at side c x.placed) (idle_at side d known.placed) (x.rooted side);
  bytes = λ side.
      bytes_after who (end_of side) (above_at boot (purposes side) c) (above_at boot (t side).after d) (mount_at side c) (mount_at side d) (acts_of turn out) (known.lawful side)
      (x.settled.good side) (known.settled.good side) (idle_at side c x.placed) (idle_at side d known.placed) (x.bytes side) sends;
}

-- ---- at the beginning

no_pending : {A : Type 0} {M : Type 0} (s : Setting M) (side : Side) (place context : ℕ) (asking : Asking) → IsPlacedClient (new_client s)
    → pending_at (mount_at side (new_client s)) place ≡ Some (Under context aims.Slot asking) → A
no_pending s Source place context asking x is = absurd (x.source.down refl place context aims.Slot asking is)
no_pending s Dest place context asking x is = absurd (x.dest.down refl place context aims.Slot asking is)

pub begins_carried : {M : Type 0} (s : Setting M) (who : Identity) (boot : ℕ) (purposes : Purposes) → IsSettled who (new_client s) → IsPlacedClient (new_client s)
    → ((side : Side) → PurposesFit side (purposes side) (new_client s).copies) → ((side : Side) → CallerStart (seen boot purposes side (new_client s)))
    → IsCarried who boot purposes (new_client s)
begins_carried s who boot purposes settled placed fits start = record {
  settled = settled;
  placed = placed;
  few = let n : length (new_client s).copies.copies ≡ 16 = refl in omega (arith, n);
  none_first = refl;
  sound = sound_first;
  fits = fits;
  asked = λ side place context asking is. no_pending s side place context asking placed is;
  rooted = λ side place xid seal call is. none_some ((seen boot purposes side (new_client s)).awaits place) (record { xid = xid; what = Slotted seal call }) ((start side).none_awaited place) is;
  bytes = λ side place xid seal call is. none_some ((seen boot purposes side (new_client s)).awaits place) (record { xid = xid; what = Slotted seal call }) ((start side).none_awaited place) is;
}
