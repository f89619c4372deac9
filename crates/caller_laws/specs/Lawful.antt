-- What the machine above a mount may do to it, and what a step that it may do owes a wire.
use Rattle.std.specs.Prelude.{◌≡◌, ℕ, ◌<◌, ◌≤◌, ◌^◌, true, false, List, Option, Some, None}
use Rattle.wire_xdr.specs.Cursor.{IsBytes}
use Rattle.gss_ctx.specs.Seals.{Mic}
use Rattle.session_calls.specs.declared.slot_call.SlotCall.TheVariants.{ReclaimComplete}
use Rattle.session_client.specs.Asked.{AskedFits, create_args}
use Rattle.session_client.specs.declared.asked.Asked.{Asked}
use Rattle.session_client.specs.declared.asked.Asked.TheVariants.{Create}
use Rattle.session_client.specs.declared.setup.Setup.TheVariants as setups
use Rattle.mount.specs.Sending.{ending_call, slot_asked_in, step_asked}
use Rattle.mount.specs.State.{Mounted, awaited_at, is_setting_up, setup_in}
use Rattle.mount.specs.Taking.{Means}
use Rattle.mount.specs.declared.machine.SendAt.{SendAt}
use Rattle.mount.specs.declared.machine.Sent as out
use Rattle.mount.specs.declared.state.Awaiting.{Awaiting}
use Rattle.mount.specs.declared.state.TheConstants.{PLACES}
use Rattle.wire_model.specs.CallerLaws.{CallerLaws}
use Rattle.wire_model.specs.Wire.{ForOther}
use Rattle.wire_spelling.specs.Spelling.{spelling}
use Rattle.caller_laws.specs.Good.{Identity, IsGood, IsOwnToken}
use Rattle.caller_laws.specs.Moves.{Done, Move, Send, Sends, Takes, Begin, BeginAnew, SetUp, Reclaim, InSlot, Make, Finish, Again, done, sent_by}
use Rattle.caller_laws.specs.View.{Above, caller_of}

-- what is asked anew
abbrev pub asked_by : SendAt → Send → Mounted → Option Asked
asked_by at (SetUp principal back) m = step_asked principal back (setup_in m.standing)
asked_by at Reclaim m = slot_asked_in at.place ReclaimComplete m.standing
asked_by at (InSlot under call) m = slot_asked_in at.place call m.standing
asked_by at (Make child name privilege) m = Some (Create (create_args name privilege))
asked_by at (Finish ending) m = ending_call ending (setup_in m.standing)
asked_by at _ m = None

-- what this send wants of the mount, and of the machine above: nothing is awaited in its place; of the setup one call at a time; a
-- token is this end's own; what a call in a slot waits for has come about
abbrev pub Suits : Identity → Above → Mounted → SendAt → Send → Type 0
Suits who above m at (Begin nonce token) =
    (awaited_at m at.place ≡ None) × (is_setting_up m ≡ false) × (setup_in m.standing ≡ setups.Down) × ((t : List ℕ) → token ≡ Some t → IsOwnToken who t)
Suits who above m at BeginAnew = (awaited_at m at.place ≡ None) × (is_setting_up m ≡ false)
Suits who above m at (SetUp principal back) = (awaited_at m at.place ≡ None) × (is_setting_up m ≡ false)
Suits who above m at Reclaim = (awaited_at m at.place ≡ None) × (above.ready ForOther ≡ true)
Suits who above m at (InSlot under call) = (awaited_at m at.place ≡ None) × (above.ready (above.purpose at.place) ≡ true)
Suits who above m at (Make child name privilege) = awaited_at m at.place ≡ None
Suits who above m at (Finish ending) = awaited_at m at.place ≡ None
Suits who above m at Again = Unit {0}

-- Something may be sent: its xid is above that of every call of the machine; it has a spelling, and what goes out is bytes.
pub record MaySend (who : Identity) (mic : Mic) (before after : Above) (m : Mounted) (at : SendAt) (send : Send) : Type 0 where
  pub place : at.place < PLACES
  pub unused : m.calls < at.xid
  pub fresh : before.calls < at.xid
  pub counted : at.xid ≤ after.calls
  pub small : at.xid < 2 ^ 32
  pub suits : Suits who after m at send
  pub fits : (asked : Asked) → asked_by at send m ≡ Some asked → AskedFits asked
  pub are_bytes : (sent : out.Sent) → (sent_by mic at send m).0 ≡ Some sent → IsBytes sent.bytes

abbrev pub May : Identity → Mic → Above → Above → Mounted → Move → Type 0
May who mic before after m (Sends at send) = MaySend who mic before after m at send
May who mic before after m (Takes place message) = IsBytes message
May who mic before after m _ = Unit {0}

-- The machine above goes on: in the same opening, with no fewer calls, and what is awaited stays for what it is.
pub record GoesOn (m : Mounted) (before after : Above) : Type 0 where
  pub boot : before.boot ≡ after.boot
  pub calls : before.calls ≤ after.calls
  pub purpose : (place : ℕ) (a : Awaiting) → awaited_at m place ≡ Some a → after.purpose place ≡ before.purpose place

-- A mount that is as it should be takes a step that it may.
pub record IsStep (who : Identity) (means : Means) (before after : Above) (m : Mounted) (move : Move) : Type 0 where
  pub good : IsGood who m
  pub goes_on : GoesOn m before after
  pub may : May who means.mic before after m move

-- the laws of its server's wire hold in the step
abbrev pub Obeys : Identity → Means → Above → Above → Mounted → Move → Type 0
Obeys who means before after m move =
    let told : Done = done means move m in
    CallerLaws (spelling who.accepts who.whose) m.server who.own (caller_of before m) (caller_of after told.mount) told.shown
