-- What a mount awaits in its slots stays spelled, in each of its steps whose call can be spelled and goes out as bytes.
use Rattle.std.proofs.Common.{◌≡◌, ◌∙◌, inl, inr, ℕ, zero, suc, ◌+◌, ◌<◌, Bool, true, false, List, [], ◌∷◌, ◌++◌, length, Option, Some, None, refl, sym, ap, subst, get_or, arith}
use Rattle.std.specs.Prelude.{if◌then◌else◌, nat_lt, replicate}
use Rattle.std.proofs.lemmas.Bool.{cases_lt}
use Rattle.std.proofs.lemmas.List.{get_or-append-add, get_or_append_left, get_or_past}
use Rattle.caller_laws.specs.Good.{Identity}
use Rattle.caller_laws.specs.Moves as moves
use Rattle.caller_laws.specs.Moves.{Move, Send}
use Rattle.caller_laws.specs.OneStep.Runs as runs
use Rattle.caller_laws.specs.OneStep.Runs.{IsRun, MountStep}
use Rattle.caller_laws.specs.View.{Above}
use Rattle.dest_laws.proofs.landings.Fetched.{slot_if}
use Rattle.dest_laws.proofs.landings.Places.{Fewer, again_fewer, fewer_fallen, fewer_given_up, fewer_same, seen_of, set_cases, taken_fewer}
use Rattle.dest_laws.specs.Landings.Posted.{AreSpelled, IsSpelled, asked_in}
use Rattle.gss_ctx.specs.Calls.{Side}
use Rattle.gss_ctx.specs.Seals.{Mic, sealed_body}
use Rattle.gss_mech.specs.declared.mechanism.TheConstants.{INITIATOR}
use Rattle.mount.specs.Falling.{fallen, forgotten, given_up, stays_for}
use Rattle.mount.specs.Sending as sends
use Rattle.mount.specs.State.{Mounted, awaiting_at, context_of, fresh, kept_in, root_name}
use Rattle.mount.specs.Taking.{Means, taken_at}
use Rattle.mount.specs.declared.calling.Ending.{Ending}
use Rattle.mount.specs.declared.machine.SendAt.{SendAt}
use Rattle.mount.specs.declared.machine.Sent.{Sent}
use Rattle.mount.specs.declared.state.Aim.{Aim}
use Rattle.mount.specs.declared.state.Aim.TheVariants as aims
use Rattle.mount.specs.declared.state.Awaiting.{Awaiting}
use Rattle.mount.specs.declared.state.Context.{Context}
use Rattle.mount.specs.declared.state.Pending.TheVariants.{Init, Under}
use Rattle.mount.specs.declared.state.Standing.{Standing}
use Rattle.mount.specs.declared.state.Standing.TheVariants.{Down, Rooted}
use Rattle.mount.specs.declared.state.TheConstants.{PLACES}
use Rattle.nfs_base.specs.declared.seal.End.{End}
use Rattle.nfs_compound.specs.declared.compound.Compound.{Compound}
use Rattle.rpc_msg.specs.Heads.{call}
use Rattle.session_calls.specs.declared.slot_call.SlotCall.TheVariants.{ReclaimComplete}
use Rattle.session_calls.specs.declared.sole_call.BackChannel.{BackChannel}
use Rattle.session_client.specs.Asked.{AskedFits, args_of, asked_call, called_if, create_args}
use Rattle.session_client.specs.Pending.{Beginning, asking}
use Rattle.session_client.specs.declared.asked.Asked.{Asked}
use Rattle.session_client.specs.declared.asked.Asked.TheVariants as asks
use Rattle.session_client.specs.declared.sealing.SealedCall.{SealedCall}
use Rattle.wire_xdr.specs.Cursor.{IsBytes}
use Rattle.wire_xdr.specs.Words.{fixed_bytes, opaque_bytes, padding, word_bytes}

-- ---- what a sealed call carries is bytes where the call is

back_bytes : (a b : List ℕ) → IsBytes (a ++ b) → IsBytes b
back_bytes a b all i = subst (λ (n : ℕ). n < 256) (get_or-append-add a b i 0) (all (length a + i))

front_bytes : (a b : List ℕ) → IsBytes (a ++ b) → IsBytes a
front_bytes a b all i =
    elim (cases_lt i (length a)) [
      | inl below ↦ subst (λ (n : ℕ). n < 256) (get_or_append_left a b 0 i below) (all i)
      | inr past ↦ subst (λ (n : ℕ). n < 256) (sym (get_or_past a i 0 past)) (omega arith)
    ]

opaque_carries : (bytes : List ℕ) → IsBytes (opaque_bytes bytes) → IsBytes bytes
unfolding opaque_bytes fixed_bytes
opaque_carries bytes all = front_bytes bytes (replicate (padding (length bytes)) 0) (back_bytes (word_bytes (length bytes)) (bytes ++ replicate (padding (length bytes)) 0) all)

body_carries : (code : List ℕ → List ℕ) (seq : ℕ) (args : List ℕ) → IsBytes (sealed_body code seq args) → IsBytes args
body_carries code seq args all =
    let payload = word_bytes seq ++ args in
    back_bytes (word_bytes seq) args (opaque_carries payload (front_bytes (opaque_bytes payload) (opaque_bytes (code payload)) all))

called_carries : (goes : Bool) (mic : Mic) (side : Side) (xid : ℕ) (asked : Asked) (sealed : SealedCall) → (called_if goes mic side xid asked).0 ≡ Some sealed
    → IsBytes sealed.bytes → IsBytes (args_of asked)
called_carries true mic side xid asked sealed is all =
    let same : asked_call mic side xid asked ≡ sealed = cc in
    let own : IsBytes (asked_call mic side xid asked).bytes = subst (λ (c : SealedCall). IsBytes c.bytes) (sym same) all in
    body_carries (mic side.key INITIATOR) side.next (args_of asked) (back_bytes _ (sealed_body (mic side.key INITIATOR) side.next (args_of asked)) own)
called_carries false mic side xid asked sealed is all = absurd cc

sealed_carries : (mic : Mic) (xid : ℕ) (asked : Asked) (o : Option Context) (sealed : SealedCall) → sends.call_under mic xid asked o ≡ Some sealed
    → IsBytes sealed.bytes → IsBytes (args_of asked)
sealed_carries mic xid asked None sealed is all = absurd cc
sealed_carries mic xid asked (Some c) sealed is all = called_carries (nat_lt c.caller.next 2147483648) mic c.caller xid asked sealed is all

-- ---- less is awaited

none_asked : (c : Compound) → None ≡ Some (Some (asks.Compound c)) → IsSpelled c
none_asked c is = absurd cc

fewer_spelled : (m w : Mounted) → Fewer m w → AreSpelled m → AreSpelled w
fewer_spelled m w less all place c is =
    elim (less place) [
      | inl same ↦ all place c (sym same ∙ is)
      | inr none ↦ none_asked c (sym none ∙ is)
    ]

-- ---- a call goes out

-- what is awaited at its place is spelled, if it is in a slot
abbrev IfSlot : Option Awaiting → Type 0
IfSlot a = (c : Compound) → seen_of a ≡ Some (Some (asks.Compound c)) → IsSpelled c

placed : (place : ℕ) (a : Awaiting) (m : Mounted) → IfSlot (Some a) → AreSpelled m → AreSpelled (awaiting_at place a m)
placed place a m fits all other =
    set_cases IfSlot m.places place other (Some a) None (λ _. fits) (λ c is. absurd cc) (λ _. all other)

init_placed : (sent_at : ℕ) (init : Beginning) → let a : Awaiting = record { sent_at = sent_at; pending = Init init } in IfSlot (Some a)
init_placed sent_at init c is = absurd cc

one_of : (a b : Option Asked) → Some a ≡ Some b → a ≡ b
one_of a b e = cc

-- it was asked in a slot
slot_placed : (aim : Aim) (asked : Asked) (c : Compound) → (stays_for aim ≡ true → AskedFits asked) → (stays_for aim ≡ true → IsBytes (args_of asked))
    → (if stays_for aim then Some asked else None) ≡ Some (asks.Compound c) → IsSpelled c
slot_placed aim asked c fits all is =
    let s = slot_if aim asked c is in
    let stays : stays_for aim ≡ true = ap stays_for s.aim_is in
    record {
      are_bytes = subst (λ (a : Asked). IsBytes (args_of a)) s.asked_is (all stays);
      fits = (subst AskedFits s.asked_is (fits stays)).fits;
    }

module _ (mic : Mic) (at : SendAt) where
  awaits_spelled : (context : ℕ) (aim : Aim) (asked : Asked) (sealed : Option SealedCall) (m : Mounted) → (stays_for aim ≡ true → AskedFits asked)
      → ((s : SealedCall) → sealed ≡ Some s → stays_for aim ≡ true → IsBytes (args_of asked)) → AreSpelled m → AreSpelled (sends.call_awaits at context aim asked sealed m).1
  awaits_spelled context aim asked None m fits bytes all = all
  awaits_spelled context aim asked (Some s) m fits bytes all =
      placed at.place (record { sent_at = at.now; pending = Under context aim (asking asked s) }) (record m { calls = at.xid })
      (λ c is. slot_placed aim asked c fits (bytes s refl) (one_of (asked_in (Under context aim (asking asked s))) (Some (asks.Compound c)) is)) all

  -- where it is in a slot, it can be spelled and goes out as bytes
  abbrev Spells : Aim → Option Asked → Option Sent × Mounted → Type 0
  Spells aim asked o = stays_for aim ≡ true → ((x : Asked) → asked ≡ Some x → AskedFits x) × ((sent : Sent) → o.0 ≡ Some sent → IsBytes sent.bytes)

  sent_spelled : (context : Option ℕ) (aim : Aim) (asked : Option Asked) (m : Mounted) → Spells aim asked (sends.sent_by mic at context aim asked m)
      → AreSpelled m → AreSpelled (sends.sent_by mic at context aim asked m).1
  sent_spelled None aim asked m spells all = all
  sent_spelled (Some context) aim None m spells all = all
  sent_spelled (Some context) aim (Some asked) m spells all =
      let sealed = (sends.sealed_by mic context at.xid asked m.contexts).0 in
      let n = record m { contexts = (sends.sealed_by mic context at.xid asked m.contexts).1 } in
      awaits_spelled context aim asked sealed n (λ slot. (spells slot).0 asked refl)
      (λ s is slot. sealed_carries mic at.xid asked (context_of context m.contexts) s is
      ((spells slot).1 (record { bytes = s.bytes; seal = Some s.seal }) (ap (λ (o : Option SealedCall). (sends.call_awaits at context aim asked o n).0) is))) all

  numbered_spelled : (slot : ℕ) (sent : Option Sent) (m : Mounted) → AreSpelled m → AreSpelled (sends.numbered slot sent m).1
  numbered_spelled slot None m all = all
  numbered_spelled slot (Some sent) m all = all

  numbered_same : (slot : ℕ) (sent : Option Sent) (m : Mounted) → (sends.numbered slot sent m).0 ≡ sent
  numbered_same slot None m = refl
  numbered_same slot (Some sent) m = refl

  never_slot : (aim : Aim) (asked : Option Asked) (o : Option Sent × Mounted) → stays_for aim ≡ false → Spells aim asked o
  never_slot aim asked o other slot = let both : true ≡ false = sym slot ∙ other in absurd cc

  other_sent : (context : Option ℕ) (aim : Aim) (asked : Option Asked) (m : Mounted) → stays_for aim ≡ false → AreSpelled m → AreSpelled (sends.sent_by mic at context aim asked m).1
  other_sent context aim asked m other all = sent_spelled context aim asked m (never_slot aim asked (sends.sent_by mic at context aim asked m) other) all

  step_spelled : (principal : List ℕ) (back : Option BackChannel) (standing : Standing) (m : Mounted) → AreSpelled m → AreSpelled (sends.stepped_in mic at principal back standing m).1
  step_spelled principal back (Down kept) m all = all
  step_spelled principal back (Rooted root) m all =
      other_sent (Some root.name) aims.Setup (sends.step_asked principal back root.setup) m refl all

  ended_spelled : (ending : Ending) (standing : Standing) (m : Mounted) → AreSpelled m → AreSpelled (sends.ended_in mic at ending standing m).1
  ended_spelled ending (Down kept) m all = all
  ended_spelled ending (Rooted root) m all = other_sent (Some root.name) aims.End (sends.ending_call ending root.setup) m refl all

  begun_spelled : (nonce : List ℕ) (token : Option (List ℕ)) (m : Mounted) → AreSpelled m → AreSpelled (sends.begun at nonce token m).1
  begun_spelled nonce None m all = all
  begun_spelled nonce (Some token) m all = placed at.place _ (record m { calls = at.xid; standing = Down None }) (init_placed at.now (record { nonce = nonce; token = token; xid = at.xid })) all

  anew_spelled : (kept : Option Beginning) (m : Mounted) → AreSpelled m → AreSpelled (sends.begun_by at kept m).1
  anew_spelled None m all = all
  anew_spelled (Some init) m all = placed at.place _ (record m { calls = at.xid; standing = Down None }) (init_placed at.now (record init { xid = at.xid })) all

  send_spelled : (send : Send) (m : Mounted) → runs.IsSpelled mic m (moves.Sends at send) → AreSpelled m → AreSpelled (moves.sent_by mic at send m).1
  send_spelled (moves.Begin nonce token) m spells all = begun_spelled nonce token m all
  send_spelled moves.BeginAnew m spells all = anew_spelled (kept_in m.standing) m all
  send_spelled (moves.SetUp principal back) m spells all = step_spelled principal back m.standing m all
  send_spelled moves.Reclaim m spells all =
      let asked = sends.slot_asked_in at.place ReclaimComplete m.standing in
      let o = sends.sent_by mic at (root_name m.standing) aims.Setup asked m in
      numbered_spelled at.place o.0 o.1 (other_sent (root_name m.standing) aims.Setup asked m refl all)
  send_spelled (moves.InSlot under call) m spells all =
      let asked = sends.slot_asked_in at.place call m.standing in
      let o = sends.sent_by mic at (sends.name_under under m) aims.Slot asked m in
      numbered_spelled at.place o.0 o.1
      (sent_spelled (sends.name_under under m) aims.Slot asked m
      (λ slot. (spells.0, λ sent is. spells.1 sent (numbered_same at.place o.0 o.1 ∙ is))) all)
  send_spelled (moves.Make child name privilege) m spells all =
      other_sent (root_name m.standing) (aims.Child child) (Some (asks.Create (create_args name privilege))) m refl all
  send_spelled (moves.Finish ending) m spells all = ended_spelled ending m.standing m all
  send_spelled moves.Again m spells all = fewer_spelled m (sends.sent_again mic at m).1 (again_fewer mic at m) all

-- ---- any step, and a run of them

pub move_spelled : (means : Means) (move : Move) (m : Mounted) → runs.IsSpelled means.mic m move → AreSpelled m → AreSpelled (moves.done means move m).mount
move_spelled means (moves.Sends at send) m spells all = send_spelled means.mic at send m spells all
move_spelled means (moves.Takes place message) m spells all = fewer_spelled m (taken_at means place message m).1 (taken_fewer place m means message) all
move_spelled means (moves.GivesUp place) m spells all = fewer_spelled m (given_up place m) (fewer_given_up place m) all
move_spelled means (moves.Forgets child) m spells all = fewer_spelled m (forgotten child m) (fewer_same m (forgotten child m) refl) all
move_spelled means moves.Falls m spells all = fewer_spelled m (fallen m) (fewer_fallen m) all
move_spelled means moves.Rests m spells all = all

pub run_spelled : (who : Identity) (means : Means) (steps : List MountStep) (a b : Above) (m n : Mounted) → IsRun who means steps a m b n → runs.AreSpelled means steps m
    → AreSpelled m → AreSpelled n
run_spelled who means [] a b m n run spells all = subst AreSpelled (sym run.1) all
run_spelled who means (step ∷ more) a b m n run spells all =
    run_spelled who means more step.above b (moves.done means step.move m).mount n run.3 spells.1 (move_spelled means step.move m spells.0 all)

-- ---- a mount that was just opened

none_at : (n i : ℕ) → let none : Option Awaiting = None in get_or (replicate n none) i none ≡ none
none_at zero zero = refl
none_at zero (suc i) = refl
none_at (suc n) zero = refl
none_at (suc n) (suc i) = none_at n i

pub fresh_spelled : (server : End) (reclaims : Bool) → AreSpelled (fresh server reclaims)
fresh_spelled server reclaims place c is =
    let none : None ≡ Some (Some (asks.Compound c)) = sym (ap seen_of (none_at PLACES place)) ∙ is in
    absurd cc
