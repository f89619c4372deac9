-- Each step of a mount.
use Rattle.std.proofs.Common.{◌≡◌, Option, Some, subst}
use Rattle.std.specs.Prelude.{IfSome}
use Rattle.caller_laws.specs.Fitting.Asking.{AskedIsFit}
use Rattle.caller_laws.specs.Fitting.Fitting.{MountIsFit}
use Rattle.caller_laws.specs.Fitting.Moving.{GivesBytes, IsSpelledAt, MoveIsFit, SendsFit}
use Rattle.caller_laws.specs.Fitting.SendLaws.{asks_fit, sent_fits}
use Rattle.caller_laws.specs.Fitting.TakeLaws.{fallen_fits, given_up_fits, takes_fit}
use Rattle.caller_laws.specs.Lawful.{asked_by}
use Rattle.caller_laws.specs.Moves.{Move, Send, Sends, Takes, GivesUp, Forgets, Falls, Rests, done, sent_by}
use Rattle.gss_ctx.specs.Seals.{Mic}
use Rattle.mount.specs.State.{Mounted}
use Rattle.mount.specs.Taking.{Means}
use Rattle.mount.specs.declared.machine.SendAt.{SendAt}
use Rattle.mount.specs.declared.machine.Sent as out
use Rattle.wire_xdr.specs.Cursor.{IsBytes}

pub moved_fits : (means : Means) (move : Move) (m : Mounted) → GivesBytes means.mic → MountIsFit m → MoveIsFit m move → MountIsFit (done means move m).mount
moved_fits means (Sends at send) m gives h fit = (sent_fits means.mic at send m gives h fit).fits
moved_fits means (Takes place message) m gives h fit = (takes_fit means place message fit m h).fits
moved_fits means (GivesUp place) m gives h fit = given_up_fits place m h
moved_fits means (Forgets child) m gives h fit = record { contexts = h.contexts; standing = h.standing; places = h.places }
moved_fits means Falls m gives h fit = fallen_fits m h
moved_fits means Rests m gives h fit = h

there : {A : Type 0} (P : A → Type 0) (o : Option A) (x : A) → IfSome o P → o ≡ Some x → P x
there {A} P o x h is = subst (λ (q : Option A). IfSome q P) is h

pub spelled_at : (mic : Mic) (at : SendAt) (send : Send) (m : Mounted) → GivesBytes mic → MountIsFit m → SendsFit m at send → IsSpelledAt mic m at send
spelled_at mic at send m gives h fit = record {
  asked = λ asked is. (there AskedIsFit (asked_by at send m) asked (asks_fit at send m h fit) is).fits;
  are_bytes = λ sent is. there (λ (s : out.Sent). IsBytes s.bytes) (sent_by mic at send m).0 sent (sent_fits mic at send m gives h fit).are_bytes is;
}
