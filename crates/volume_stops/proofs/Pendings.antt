-- What is in doubt behind the calls of a step: the last commit that failed.
use Rattle.std.proofs.Common.{◌≡◌, ℕ, List, [], ◌∷◌, Option, Some, None, refl, sym, ap, subst, ◌∙◌}
use Rattle.std.proofs.lemmas.Bool.{false≢true}
use Rattle.copy_model.specs.Volume.{Doubt, Volume, write}
use Rattle.server_volume.specs.Calls.{Asked, Reads, Writes, Commits, call_of, left_by}
use Rattle.server_volume.specs.Moments.{AreTaken, IsTaken, Made, Ran, after_calls, uses_of}
use Rattle.server_volume.specs.Store.{Seat, Store}
use Rattle.server_volume.specs.declared.used.CallAnswer.{CallAnswer}
use Rattle.server_volume.specs.declared.used.CallAnswer.TheVariants.{Done, DiskFailed, Refused}
use Rattle.server_volume.specs.declared.used.Used.{Used}
use Rattle.volume_stops.specs.Stops.{IsCertain, in_doubt, left_by_call, pending_after, pending_in}
use Rattle.volume_stops.specs.declared.pending.Pending.{Pending}

-- ---- nothing is in doubt unless the volume is broken

written_certain : (v : Volume) (file off : ℕ) (bytes : List ℕ) → IsCertain v → IsCertain (write v file off bytes)
written_certain v file off [] certain = certain
written_certain v file off (b ∷ bs) certain = certain

left_certain : (asked : Asked) (answer : CallAnswer) (s : Store) → IsCertain s.volume → IsCertain (left_by asked answer s).volume
left_certain (Reads file off len) Done s certain = certain
left_certain (Reads file off len) DiskFailed s certain = certain
left_certain (Reads file off len) Refused s certain = certain
left_certain (Writes file off bytes) Done s certain = written_certain s.volume file off bytes certain
left_certain (Writes file off bytes) DiskFailed s certain = λ whole. absurd (false≢true (sym whole))
left_certain (Writes file off bytes) Refused s certain = certain
left_certain (Commits file) Done s certain = certain
left_certain (Commits file) DiskFailed s certain = λ whole. absurd (false≢true (sym whole))
left_certain (Commits file) Refused s certain = certain

-- ---- what one call leaves

written_pending : (homes : List ℕ) (v : Volume) (file off : ℕ) (bytes : List ℕ) → in_doubt homes (write v file off bytes).doubt ≡ in_doubt homes v.doubt
written_pending homes v file off [] = refl
written_pending homes v file off (b ∷ bs) = refl

-- where nothing is in doubt the homes are all the same
none_pending : (homes others : List ℕ) (o : Option Doubt) → o ≡ None → in_doubt homes o ≡ in_doubt others o
none_pending homes others None none = refl
none_pending homes others (Some d) none = absurd (cc)

left_pending : (asked : Asked) (answer : CallAnswer) (s : Store) → IsTaken answer s asked → IsCertain s.volume
    → pending_in (left_by asked answer s) ≡ left_by_call (pending_in s) (call_of asked s) answer
left_pending (Reads file off len) Done s taken certain = refl
left_pending (Reads file off len) DiskFailed s taken certain = refl
left_pending (Reads file off len) Refused s taken certain = refl
left_pending (Writes file off bytes) Done s taken certain = written_pending s.homes s.volume file off bytes
left_pending (Writes file off bytes) DiskFailed s taken certain = refl
left_pending (Writes file off bytes) Refused s taken certain = refl
left_pending (Commits file) Done s taken certain =
    none_pending (left_by (Commits file) Done s).homes s.homes s.volume.doubt (certain taken.whole)
left_pending (Commits file) DiskFailed s taken certain = refl
left_pending (Commits file) Refused s taken certain = refl

-- ---- what all leave

calls_certain : (s : Store) (ms : List Made) → IsCertain s.volume → IsCertain (after_calls s ms).volume
calls_certain s [] certain = certain
calls_certain s (m ∷ ms) certain = calls_certain (left_by m.asked m.answer s) ms (left_certain m.asked m.answer s certain)

calls_pending : (s : Store) (ms : List Made) → AreTaken s ms → IsCertain s.volume
    → pending_in (after_calls s ms) ≡ pending_after (pending_in s) (uses_of s ms)
calls_pending s [] taken certain = refl
calls_pending s (m ∷ ms) taken certain =
    let next = left_by m.asked m.answer s in
    calls_pending next ms taken.1 (left_certain m.asked m.answer s certain)
    ∙ ap (λ (p : Option Pending). pending_after p (uses_of next ms)) (left_pending m.asked m.answer s taken.0 certain)

pub pending : (old new : Seat) (used : List Used) → Ran old new [] used → IsCertain old.store.volume
    → pending_in new.store ≡ pending_after (pending_in old.store) used
pending old new used ran certain =
    ap (λ (s : Store). pending_in s) ran.store ∙ calls_pending old.store ran.calls ran.taken certain
    ∙ ap (λ (us : List Used). pending_after (pending_in old.store) us) (sym ran.noted)

pub stays_certain : (old new : Seat) (used : List Used) → Ran old new [] used → IsCertain old.store.volume → IsCertain new.store.volume
stays_certain old new used ran certain = subst (λ (s : Store). IsCertain s.volume) (sym ran.store) (calls_certain old.store ran.calls certain)
