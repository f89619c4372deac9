-- What is due in a worker's turn, from what the work says.
use Rattle.std.proofs.Common.{◌≡◌, ℕ, Bool, true, nat_le, List, length, Option, Some, sym, subst}
use Rattle.dest_work.specs.Work.{turn}
use Rattle.dest_work.specs.declared.work.Due.{Due}
use Rattle.mount.specs.State.{setup_in}
use Rattle.mount.specs.declared.machine.SendAt.{SendAt}
use Rattle.nfs_base.specs.declared.limits.TheConstants.{NAME_LIMIT}
use Rattle.session_client.specs.declared.setup.Setup.{Setup}
use Rattle.streams.specs.declared.draws.Drawn.{Drawn}
use Rattle.dest_steps.specs.Copier.{Around, Codes, xid_of}
use Rattle.dest_steps.specs.Turning.{send_at, with_turn, IsDue, IsTurn, IsTurnOf}
use Rattle.dest_steps.specs.declared.copier.Copier.{Copier}
use Rattle.dest_steps.specs.declared.turning.Turn.{Turn as Due_turn}

-- what the work's turn said, in code: which call it may be, how far the setup is, what is due, and the copies afterwards
pub record IsWorked (codes : Codes) (around : Around) (place xid : ℕ) (setup : Setup) (due : Due) (x y : Copier) : Type 0 where
  pub short_is : nat_le (length x.principal) NAME_LIMIT ≡ true
  pub xid_is : xid_of x.work.mount x.back ≡ Some xid
  pub setup_is : setup ≡ setup_in x.work.mount.standing
  pub due_is : due ≡ (turn codes.mic (send_at around place xid) x.principal around.sessions x.work x.copies.book).told.0
  pub after_is : y ≡ with_turn (turn codes.mic (send_at around place xid) x.principal around.sessions x.work x.copies.book) x

pub turn_is : {W : Type 0} (gives : W → Drawn → W → Type 0) (started : List ℕ → List ℕ → Option (List ℕ)) (codes : Codes) (around : Around) (place xid : ℕ)
    (setup : Setup) (due : Due) (x y : Copier) (before after : W) (t : Due_turn × Copier)
    → IsWorked codes around place xid setup due x y
    → IsDue gives started codes around (send_at around place xid) setup due y before after t
    → IsTurnOf gives started codes around place x before after t
turn_is gives started codes around place xid setup due x y before after t worked is =
    let at : SendAt = send_at around place xid in
    let by = turn codes.mic at x.principal around.sessions x.work x.copies.book in
    let at_copies = subst (λ (z : Copier). IsDue gives started codes around at setup due z before after t) worked.after_is is in
    let at_due = subst (λ (d : Due). IsDue gives started codes around at setup d (with_turn by x) before after t) worked.due_is at_copies in
    let at_setup = subst (λ (s : Setup). IsDue gives started codes around at s by.told.0 (with_turn by x) before after t) worked.setup_is at_due in
    let at_xid = subst (λ (o : Option ℕ). IsTurn true o gives started codes around place x before after t) (sym worked.xid_is) at_setup in
    subst (λ (b : Bool). IsTurn b (xid_of x.work.mount x.back) gives started codes around place x before after t) (sym worked.short_is) at_xid
