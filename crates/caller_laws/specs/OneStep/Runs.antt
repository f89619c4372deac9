-- A run of a mount's steps (`caller_laws`), each of which the machine above may take, and what is seen of it as one step.
use Rattle.std.specs.Prelude.{◌≡◌, ℕ, true, false, List, [], ◌∷◌, Option, Some}
use Rattle.wire_xdr.specs.Cursor.{IsBytes}
use Rattle.caller_laws.specs.Good.{Identity, IsGood}
use Rattle.caller_laws.specs.Joining.{joined}
use Rattle.caller_laws.specs.Lawful.{GoesOn, May, asked_by}
use Rattle.caller_laws.specs.Moves.{Move, Sends, Takes, done, nothing_shown, sent_by}
use Rattle.caller_laws.specs.View.{Above, caller_of}
use Rattle.gss_ctx.specs.Seals.{Mic}
use Rattle.mount.specs.State.{Mounted}
use Rattle.mount.specs.Taking.{Means}
use Rattle.mount.specs.declared.machine.Sent as outs
use Rattle.nfs_base.specs.declared.seal.Seal.{Seal}
use Rattle.session_client.specs.Asked.{AskedFits}
use Rattle.session_client.specs.declared.asked.Asked.{Asked}
use Rattle.wire_model.specs.CallerLaws.{CallerLaws}
use Rattle.wire_model.specs.Wire as wire
use Rattle.wire_model.specs.Wire.{Acts, Purpose}
use Rattle.wire_spelling.specs.Replies.{is_reply}
use Rattle.wire_spelling.specs.Spelling.{spelling}

-- a step, and what the machine above adds to the mount behind it
pub record MountStep : Type 0 where
  pub move : Move
  pub above : Above

-- What is asked can be spelled, and what goes out or comes is bytes: the code's calls of a mount ask for the first, and its types say
-- the second.
abbrev pub IsSpelled : Mic → Mounted → Move → Type 0
IsSpelled mic m (Sends at send) =
    ((asked : Asked) → asked_by at send m ≡ Some asked → AskedFits asked)
    × ((sent : outs.Sent) → (sent_by mic at send m).0 ≡ Some sent → IsBytes sent.bytes)
IsSpelled mic m (Takes place message) = IsBytes message
IsSpelled mic m _ = Unit {0}

abbrev pub AreSpelled : Means → List MountStep → Mounted → Type 0
AreSpelled means [] m = Unit {0}
AreSpelled means (step ∷ more) m = IsSpelled means.mic m step.move × AreSpelled means more (done means step.move m).mount

-- what was ready stays so
abbrev pub StaysReady : Above → Above → Type 0
StaysReady a b = (purpose : Purpose) → a.ready purpose ≡ true → b.ready purpose ≡ true

-- From a mount, with what the machine above adds to it, these steps lead to another, and each of them is one that it may take.
abbrev pub IsRun : Identity → Means → List MountStep → Above → Mounted → Above → Mounted → Type 0
IsRun who means [] a m b n = (b ≡ a) × (n ≡ m)
IsRun who means (step ∷ more) a m b n =
    GoesOn m a step.above
    × StaysReady a step.above
    × (IsSpelled means.mic m step.move → May who means.mic a step.above m step.move)
    × IsRun who means more step.above (done means step.move m).mount b n

-- what is seen of it: the record that the first step took, and all that went out
abbrev pub whole : Means → List MountStep → Mounted → Acts
whole means [] m = nothing_shown
whole means (step ∷ more) m = joined (done means step.move m).shown (whole means more (done means step.move m).mount)

-- It obeys the laws of its server's wire as one step, sends calls alone, and leaves the mount as it should be.
pub record IsOneStep (who : Identity) (means : Means) (steps : List MountStep) (a b : Above) (m n : Mounted) : Type 0 where
  pub laws : CallerLaws (spelling who.accepts who.whose) m.server who.own (caller_of a m) (caller_of b n) (whole means steps m)
  pub calls : (bytes : List ℕ) (seal : Option Seal) → wire.Sends (whole means steps m) bytes seal → is_reply bytes ≡ false
  pub opening : a.boot ≡ b.boot
  pub good : IsGood who n
  pub server : n.server ≡ m.server
