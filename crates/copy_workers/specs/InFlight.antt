-- The calls that went out on a worker's link and that await an answer, by their xids, the oldest first. Own definitions; a call and its
-- reply begin with the xid (RFC 5531 section 9).
use Rattle.std.specs.Prelude.{ℕ, ◌==◌, if◌then◌else◌, List, [], ◌∷◌, Option, Some, None, fold}
use Rattle.std.specs.Int.{w32, from_be_bytes}
use Rattle.outbox.specs.Counting.{is_to}
use Rattle.outbox.specs.declared.outgoing.Outgoing.{Outgoing}
use Rattle.copy_workers.specs.declared.in_flight.InFlight.{InFlight}
use Rattle.copy_workers.specs.declared.in_flight.InFlight.TheVariants as flight

abbrev pub xids_of : InFlight → List ℕ
xids_of flight.Nothing = []
xids_of (flight.One first) = first ∷ []
xids_of (flight.Two first second) = first ∷ second ∷ []

-- the first word of a record; a shorter one has none
abbrev pub xid_of : List ℕ → Option ℕ
xid_of (w ∷ x ∷ y ∷ z ∷ bytes) = Some (from_be_bytes w32 (w ∷ x ∷ y ∷ z ∷ []))
xid_of _ = None

-- What is awaited behind one call more. Of three the oldest is given up.
abbrev pub joined_by : Option ℕ → List ℕ → List ℕ
joined_by None xids = xids
joined_by (Some xid) [] = xid ∷ []
joined_by (Some xid) (first ∷ []) = first ∷ xid ∷ []
joined_by (Some xid) (first ∷ second ∷ others) = second ∷ xid ∷ []

-- What is awaited still behind a record that came: it answers the oldest call that has its xid, and no other.
abbrev pub answered_by : Option ℕ → List ℕ → List ℕ
answered_by None xids = xids
answered_by (Some xid) [] = []
answered_by (Some xid) (first ∷ others) = if first == xid then others else first ∷ answered_by (Some xid) others

-- what is awaited behind records, of which those to the worker's link are its calls
abbrev pub with_calls : (worker : ℕ) → List Outgoing → List ℕ → List ℕ
with_calls worker sent xids = fold (λ awaited o. if is_to worker o.to then joined_by (xid_of o.bytes) awaited else awaited) xids sent
