-- Every step of a mount leaves it as it should be, and obeys a wire's laws.
use Rattle.std.proofs.Common.{◌≡◌, ◌<◌, arith, ℕ, zero, suc, Bool, get_or, Option, Some, None, refl, ap}
use Rattle.std.specs.Prelude.{option_map, replicate}
use Rattle.std.proofs.lemmas.List.{length-replicate}
use Rattle.gss_mech.specs.Tokens.{IsSized}
use Rattle.nfs_base.specs.declared.seal.End.{End}
use Rattle.mount.specs.Falling.{fallen, forgotten, given_up}
use Rattle.mount.specs.State.{Mounted, fresh, pending_at, pending_in}
use Rattle.mount.specs.Taking.{Means}
use Rattle.mount.specs.declared.state.Awaiting.{Awaiting}
use Rattle.mount.specs.declared.state.Pending.{Pending}
use Rattle.mount.specs.declared.state.TheConstants.{PLACES}
use Rattle.wire_model.specs.CallerLaws.{CallerLaws, CallerStart}
use Rattle.wire_spelling.specs.Spelling.{spelling}
use Rattle.wire_model.specs.Wire.{Awaited, Begins, Caller, Slotted}
use Rattle.caller_laws.specs.Good.{Identity, IsGood}
use Rattle.caller_laws.specs.Duties.{SendsOwnCalls}
use Rattle.mount.specs.declared.machine.SendAt.{SendAt}
use Rattle.caller_laws.specs.Joining.{Keeps}
use Rattle.caller_laws.specs.Lawful.{GoesOn, IsStep, May, Obeys}
use Rattle.caller_laws.specs.Moves.{Move, Send, Sends, Takes, GivesUp, Forgets, Falls, Rests, done, nothing_shown, sent_by}
use Rattle.caller_laws.specs.View.{Above, awaited_in, caller_of}
use Rattle.caller_laws.proofs.Losses.{fallen_shrinks, forgotten_shrinks, given_up_shrinks}
use Rattle.caller_laws.proofs.SendMoves.{IsGiven, Known, none_sent, send_right, shrinks_itself}
use Rattle.caller_laws.proofs.Shrunk.{Shrinks, shrunk_good, shrunk_obeys}
use Rattle.caller_laws.proofs.TakeMoves.{take_right}

pub record IsDone (who : Identity) (means : Means) (before after : Above) (m : Mounted) (move : Move) : Type 0 where
  pub good : IsGood who (done means move m).mount
  pub obeys : Obeys who means before after m move
  pub calls : SendsOwnCalls before after (done means move m).shown

lost : (who : Identity) (before after : Above) (m w : Mounted) → IsGood who m → GoesOn m before after → Shrinks who m w
    → CallerLaws (spelling who.accepts who.whose) m.server who.own (caller_of before m) (caller_of after w) nothing_shown
lost who before after m w g goes s =
    shrunk_obeys who m w s before after g goes nothing_shown (λ x c. none_sent x c) (λ root learnt. let took = learnt.takes.took in cc)

pub step_done : (who : Identity) (means : Means) (before after : Above) (m : Mounted) (move : Move) → IsSized means.mic → Known → IsStep who means before after m move
    → IsDone who means before after m move
step_done who means before after m move sized known step = by move step.may
  where
    by : (move : Move) → May who means.mic before after m move → IsDone who means before after m move
    by (Sends at send) may =
        let given : IsGiven before after m at = record { place = may.place; unused = may.unused; fresh = may.fresh; counted = may.counted; small = may.small } in
        let right = send_right who before after m at step.good step.goes_on given means.mic sized known send may may.are_bytes in
        record { good = right.good; obeys = right.obeys; calls = right.calls }
    by (Takes place message) may =
        let right = take_right who before after m place message step.good step.goes_on means may in
        record { good = right.good; obeys = right.obeys; calls = λ bytes seal sends. absurd (none_sent _ sends) }
    by (GivesUp place) may =
        let s = given_up_shrinks who m place step.good in
        record { good = shrunk_good who m (given_up place m) s step.good; obeys = lost who before after m (given_up place m) step.good step.goes_on s; calls = λ bytes seal sends. absurd (none_sent _ sends) }
    by (Forgets child) may =
        let s = forgotten_shrinks who m child step.good in
        record { good = shrunk_good who m (forgotten child m) s step.good; obeys = lost who before after m (forgotten child m) step.good step.goes_on s; calls = λ bytes seal sends. absurd (none_sent _ sends) }
    by Falls may =
        let s = fallen_shrinks who m in
        record { good = shrunk_good who m (fallen m) s step.good; obeys = lost who before after m (fallen m) step.good step.goes_on s; calls = λ bytes seal sends. absurd (none_sent _ sends) }
    by Rests may = record { good = step.good; obeys = lost who before after m m step.good step.goes_on (shrinks_itself who m step.good); calls = λ bytes seal sends. absurd (none_sent _ sends) }

-- what is sent follows other steps
pub sending_keeps : (who : Identity) (means : Means) (before after : Above) (m : Mounted) (at : SendAt) (send : Send) → IsSized means.mic → Known
    → IsStep who means before after m (Sends at send)
    → ((place : ℕ) (p : Pending) → pending_at m place ≡ Some p → pending_at (sent_by means.mic at send m).1 place ≡ Some p)
    → Keeps (caller_of before m) (caller_of after (sent_by means.mic at send m).1)
sending_keeps who means before after m at send sized known step stays =
    let may = step.may in
    let given : IsGiven before after m at = record { place = may.place; unused = may.unused; fresh = may.fresh; counted = may.counted; small = may.small } in
    (send_right who before after m at step.good step.goes_on given means.mic sized known send may may.are_bytes).keeps stays

-- ---- before the first call

abbrev free : Option Awaiting
free = None

all_free : (n place : ℕ) → get_or (replicate n free) place free ≡ free
all_free zero place = refl
all_free (suc n) zero = refl
all_free (suc n) (suc place) = all_free n place

nothing_awaited : (server : End) (reclaims : Bool) (place : ℕ) → pending_at (fresh server reclaims) place ≡ None
nothing_awaited server reclaims place = ap pending_in (all_free PLACES place)

never_awaited : (server : End) (reclaims : Bool) (place : ℕ) (p : Pending) → pending_at (fresh server reclaims) place ≡ Some p → ⊥
never_awaited server reclaims place p there = let none : pending_at (fresh server reclaims) place ≡ None = nothing_awaited server reclaims place in cc

pub start_good : (who : Identity) (server : End) (reclaims : Bool) → IsGood who (fresh server reclaims)
start_good who server reclaims = record {
  places = length-replicate PLACES free;
  held = λ name f there. absurd cc;
  fair = λ place p there. absurd (never_awaited server reclaims place p there);
  distinct = λ place other p q at_place at_other same. absurd (never_awaited server reclaims place p at_place);
  alone = λ place other a b at_place at_other. absurd (never_awaited server reclaims place _ at_place);
  root = λ name there. absurd cc;
  up = λ root is. absurd cc;
  children = λ child name root f g there face_there root_there root_face. absurd cc;
  kept = λ init is. absurd cc;
}

pub start_is : (above : Above) (server : End) (reclaims : Bool) → CallerStart (caller_of above (fresh server reclaims))
start_is above server reclaims = record {
  no_context = λ context root. refl;
  no_mount = refl;
  none_awaited = λ place. ap (option_map (awaited_in (fresh server reclaims).contexts (above.purpose place))) (nothing_awaited server reclaims place);
}

-- whatever was there before, an opening with a greater number obeys the laws, where nothing is sent
pub reopened : (who : Identity) (server : End) (reclaims : Bool) (v : Caller) (after : Above) → v.boot < after.boot
    → CallerLaws (spelling who.accepts who.whose) server who.own v (caller_of after (fresh server reclaims)) nothing_shown
reopened who server reclaims v after later =
    let none : (place : ℕ) (x : Awaited) → (caller_of after (fresh server reclaims)).awaits place ≡ Some x → ⊥ = λ place x there.
    let start = (start_is after server reclaims).none_awaited place in
    cc in
    record {
      boot = omega arith;
      calls = λ same. absurd (omega arith);
      fresh = λ bytes seal sends call. absurd (none_sent _ sends);
      one = λ bytes other seal seal' sends sends' call call' same. absurd (none_sent _ sends);
      directed = λ bytes call seal sends own reply took. absurd (none_sent _ sends);
      simple = λ bytes seal name sends own named. absurd (none_sent _ sends);
      has = λ context root there. absurd cc;
      begin = λ root learnt place xid there. none place (record { xid = xid; what = Begins }) there;
      mount = λ root there. absurd cc;
      awaits = λ place x there. absurd (none place x there);
      goes_on = λ place xid seal call there. absurd (none place (record { xid = xid; what = Slotted seal call }) there);
      sends = λ bytes seal name sends own named. absurd (none_sent _ sends);
      in_slot = λ place xid seal call there. absurd (none place (record { xid = xid; what = Slotted seal call }) there);
    }
