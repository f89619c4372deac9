-- A call that is sealed goes out, under the seal of the context that it had before.
use Rattle.std.proofs.Common.{◌≡◌, ℕ, ◌<◌, Bool, true, false, List, Option, Some, None, Result, Ok, Err, refl, sym, ap, ◌∙◌}
use Rattle.std.proofs.lemmas.Bool.{lt-ltb}
use Rattle.std.specs.Prelude.{nat_lt, slice_index, IfOk, if◌then◌else◌}
use Rattle.gss_ctx.specs.Calls.{Side, seal_of}
use Rattle.gss_ctx.specs.Seals.{Mic}
use Rattle.gss_ctx.specs.declared.caller.Sealed.{Sealed}
use Rattle.nfs_base.specs.declared.seal.Seal.{Seal}
use Rattle.sess_slots.specs.Table.{SessionTable, session_id}
use Rattle.sess_slots.specs.declared.answers.Back.{Back}
use Rattle.session_calls.specs.declared.slot_call.SlotUse.{SlotUse}
use Rattle.session_client.specs.Sealing.{after_call}
use Rattle.session_client.specs.Slots.{after_new}
use Rattle.dest_back.specs.Callbacks.{CallbackTable}
use Rattle.dest_back.specs.Telling.{called_on, new_on, sealed_callback, sealed_with, sent_on, slot_use}
use Rattle.dest_back.specs.declared.callbacks.Post.{Post}
use Rattle.dest_back.specs.declared.compound.Ended.{Ended}
use Rattle.dest_back.specs.declared.line.Line.{Line}
use Rattle.dest_back.specs.declared.telling.CallAt.{CallAt}
use Rattle.dest_back.specs.declared.telling.Sent.{Sent}

-- the context's name isn't changed by a call
abbrev either : Bool → Mic → Side → (xid program : ℕ) → SlotUse → Ended → Option Sealed × Side
either left mic side xid program slot told = if left then (Some (sealed_callback mic side xid program slot told), after_call side) else (None, side)

seal_at : (mic : Mic) (side : Side) (xid program : ℕ) (slot : SlotUse) (told : Ended) (seq : ℕ) (left : Bool)
    → seal_of (either left mic side xid program slot told).1 seq ≡ seal_of side seq
seal_at mic side xid program slot told seq true = refl
seal_at mic side xid program slot told seq false = refl

seal_same : (mic : Mic) (side : Side) (xid program : ℕ) (slot : SlotUse) (told : Ended) (seq : ℕ)
    → seal_of (sealed_with mic side xid program slot told).1 seq ≡ seal_of side seq
seal_same mic side xid program slot told seq = seal_at mic side xid program slot told seq (nat_lt side.next 2147483648)

abbrev sent_so : Back → Sealed → Seal → Sent
sent_so back sealed seal = record { conn = back.conn; bytes = sealed.bytes; seal = seal }

abbrev slot_by : List ℕ → (seat number : ℕ) → SlotUse
slot_by session seat number = record { session = session; slot = seat; number = number }

pub call_sent : (mic : Mic) (sessions : SessionTable) (at : CallAt) (post : Post) (back : Back) (line : Line) (number : ℕ) (told : Ended) (c : CallbackTable)
    → (session : List ℕ) (sealed : Sealed) (side : Side) (seal : Seal) → session ≡ session_id at.boot line.session
    → Some sealed ≡ (sealed_with mic line.caller at.xid back.program (slot_by session at.seat number) told).0
    → side ≡ (sealed_with mic line.caller at.xid back.program (slot_by session at.seat number) told).1 → seal ≡ seal_of side sealed.awaited.seq
    → Some (sent_so back sealed seal) ≡ (called_on mic sessions at post back line number told c).0
call_sent mic sessions at post back line number told c session sealed side seal session_is sealed_is side_is seal_is =
    let p = sealed_with mic line.caller at.xid back.program (slot_use at line number) told in
    let there : Some sealed ≡ p.0 = sealed_is ∙ ap (λ (s : List ℕ). (sealed_with mic line.caller at.xid back.program (slot_by s at.seat number) told).0) session_is in
    let under : seal ≡ seal_of line.caller sealed.awaited.seq =
    seal_is
    ∙ ap (λ (s : Side). seal_of s sealed.awaited.seq) side_is
    ∙ seal_same mic line.caller at.xid back.program (slot_by session at.seat number) told sealed.awaited.seq in
    ap (λ (s : Seal). Some (sent_so back sealed s)) under
    ∙ ap (λ (o : Option Sealed). (sent_on sessions at post back line number told (o, p.1) c).0) there

-- what goes out is the same
pub same_sent : {E : Type 0} (r : Result (Option Sent) E) (a b : Option Sent) → IfOk r (λ sent. sent ≡ a) → a ≡ b → IfOk r (λ sent. sent ≡ b)
same_sent (Ok sent) a b is same = is ∙ same
same_sent (Err e) a b is same = tt

-- a new call, while the slot has numbers
abbrev numbered : Line → List ℕ → Line
numbered line numbers = record line { numbers = numbers }

pub new_sent : (mic : Mic) (sessions : SessionTable) (at : CallAt) (post : Post) (back : Back) (told : Ended) (line : Line) (c : CallbackTable)
    → (number : ℕ) (numbers : List ℕ) → number ≡ slice_index line.numbers at.seat → numbers ≡ after_new line.numbers at.seat → number < 4294967295
    → (called_on mic sessions at post back (numbered line numbers) number told c).0 ≡ (new_on mic sessions at post back told line c).0
new_sent mic sessions at post back told line c number numbers number_is numbers_is left =
    let next = slice_index line.numbers at.seat in
    let due = called_on mic sessions at post back (numbered line (after_new line.numbers at.seat)) next told c in
    let has : nat_lt number 4294967295 ≡ true = lt-ltb number 4294967295 left in
    let still : nat_lt next 4294967295 ≡ true = sym (ap (λ (n : ℕ). nat_lt n 4294967295) number_is) ∙ has in
    ap (λ (ns : List ℕ). (called_on mic sessions at post back (numbered line ns) number told c).0) numbers_is
    ∙ ap (λ (n : ℕ). (called_on mic sessions at post back (numbered line (after_new line.numbers at.seat)) n told c).0) number_is
    ∙ sym (ap (λ (b : Bool). (if b then due else (None, c)).0) still)
