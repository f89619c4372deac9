-- What the check of seals looks for among stored records. Where one is at hand, that is looked at first.
use Rattle.std.specs.Prelude.{ℕ, ◌==◌, Bool, false, not, ◌&&◌, ◌||◌, if◌then◌else◌, nat_lt, List, Option, Some, None, find, option_and_then}
use Rattle.std.specs.List.{list_any}
use Rattle.std.specs.Str.{bytes_eq}
use Rattle.nfs_base.specs.declared.seal.End.{End}
use Rattle.nfs_base.specs.declared.seal.Seal.{Seal}
use Rattle.wire_log.specs.declared.check.Awaited.{Awaited}
use Rattle.wire_log.specs.declared.kept.Kept.{Kept}
use Rattle.wire_log.specs.Keeping.{kept_at}
use Rattle.wire_machine.specs.Check.{same_end, has_seal}
use Rattle.wire_spelling.specs.Calls.{xid_in}

-- the record at hand passes, or any of them does
abbrev pub near_or_any : (Kept → Bool) → Kept → List Kept → Bool
near_or_any test near kept = test near || list_any test kept

-- ---- one record

-- another end than this one sealed these bytes so
abbrev pub sealed_so : End → Seal → (bytes : List ℕ) → Kept → Bool
sealed_so end seal bytes k = not (same_end k.from end) && (has_seal seal k.seal && bytes_eq k.bytes bytes)

-- it is one of these calls, and was sent before a step
abbrev pub call_before : Awaited → (before : ℕ) → Kept → Bool
call_before awaited before k =
    same_end k.from awaited.end && ((k.opening == awaited.opening) && (nat_lt k.step before && (not k.is_reply && (xid_in k.bytes == awaited.xid))))

-- and has these bytes
abbrev pub call_with : Awaited → (before : ℕ) → (bytes : List ℕ) → Kept → Bool
call_with awaited before bytes k = bytes_eq bytes k.bytes && call_before awaited before k

-- ---- among all of them

-- the record that a step took is such a call
abbrev pub took_call : List Kept → Awaited → (step : ℕ) → Option Kept → Bool
took_call kept awaited step None = false
took_call kept awaited step (Some call) = call_before awaited step call || list_any (call_with awaited step call.bytes) kept

-- another end sealed these bytes so in a step that took such a call
abbrev pub answer_so : List Kept → Awaited → Seal → (bytes : List ℕ) → Kept → Bool
answer_so kept awaited seal bytes k =
    sealed_so awaited.end seal bytes k && took_call kept awaited k.step (kept_at k.took kept)

-- the calls of an end's opening that a reply can answer
abbrev pub awaited_by : End → (opening : ℕ) → (reply : List ℕ) → Awaited
awaited_by end opening reply = record { end = end; opening = opening; xid = xid_in reply }

abbrev pub right_so : List Kept → End → (opening : ℕ) → Seal → Kept → Bool
right_so kept end opening seal taken =
    if taken.is_reply
    then near_or_any (answer_so kept (awaited_by end opening taken.bytes) seal taken.bytes) taken kept
    else near_or_any (sealed_so end seal taken.bytes) taken kept

-- the seal of the first record with these bytes
abbrev pub first_seal : List Kept → (bytes : List ℕ) → Option Seal
first_seal kept bytes = option_and_then (λ (k : Kept). k.seal) (find (λ (k : Kept). bytes_eq k.bytes bytes) kept)
