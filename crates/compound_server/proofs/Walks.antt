-- The operations of a compound one after the other.
use Rattle.std.proofs.Common.{◌≡◌, ℕ, ◌+◌, Bool, false, List, [], ◌∷◌, ◌++◌, length, refl, sym, ap, ◌∙◌, append_assoc, append-nil, arith}
use Rattle.std.specs.Prelude.{◌==◌, Option, Some, None, if◌then◌else◌}
use Rattle.std.specs.List.{flat_map}
use Rattle.file_server.specs.declared.extension.Caller.{Caller}
use Rattle.nfs_compound.specs.declared.op.Op.{Op}
use Rattle.nfs_compound.specs.declared.res.Res.{Res}
use Rattle.nfs_compound.specs.declared.tail.Tail.{Tail}
use Rattle.nfs_compound.specs.Results.{outcome, res_status}
use Rattle.nfs_compound.specs.Walk.{last_status, next_number}
use Rattle.server_volume.specs.Choices.{Choice}
use Rattle.compound_server.specs.Course.{Course, Performed, Service, seen}
use Rattle.compound_server.specs.Performing.{perform}
use Rattle.compound_server.specs.declared.refusing.TailRefusal.{TailRefusal}
use Rattle.compound_server.specs.Refusals.{refused, tail_refusal}
use Rattle.compound_server.specs.Walking.{Walked, Results, at_tail, goes_on, results_of, walk}
use Rattle.compound_server.proofs.Steps.{seen_as}

abbrev results_as : {X : Type 0} → Course X → List ℕ → ℕ → ℕ → Results X
results_as c bytes status count = record { course = c; bytes = bytes; status = status; count = count }

last_number : (r : Res) (rs : List Res) → (res_status r).number ≡ 0 → (last_status (r ∷ rs)).number ≡ (last_status rs).number
last_number r [] zero = zero
last_number r (s ∷ ss) zero = refl

went_on : {X : Type 0} (w : Walked X) (res : Res) (before : List ℕ) (count : ℕ) → (res_status res).number ≡ 0
    → results_of (record { course = w.course; results = res ∷ w.results }) before count ≡ results_of w (before ++ outcome.spell res) (count + 1)
went_on w res before count zero =
    let rs = w.results in
    let more : count + length (res ∷ rs) ≡ count + 1 + length rs = omega arith in
    ap (λ (bytes : List ℕ). results_as w.course bytes (last_status (res ∷ rs)).number (count + length (res ∷ rs))) (sym (append_assoc before (outcome.spell res) (flat_map outcome.spell rs)))
    ∙ ap (λ (n : ℕ). results_as w.course ((before ++ outcome.spell res) ++ flat_map outcome.spell rs) n (count + length (res ∷ rs))) (last_number res rs zero)
    ∙ ap (λ (n : ℕ). results_as w.course ((before ++ outcome.spell res) ++ flat_map outcome.spell rs) (last_status rs).number n) more

on_ok : {X : Type 0} (a : Performed X) (more : Course X → Walked X) (before : List ℕ) (count : ℕ) → (res_status a.res).number ≡ 0
    → results_of (goes_on a more) before count ≡ results_of (more a.course) (before ++ outcome.spell a.res) (count + 1)
on_ok a more before count zero =
    ap (λ (n : ℕ). results_of (if n == 0
    then record { course = (more a.course).course; results = a.res ∷ (more a.course).results }
    else record { course = a.course; results = a.res ∷ [] }) before count) zero
    ∙ went_on (more a.course) a.res before count zero

on_refusal : {X : Type 0} (a : Performed X) (more : Course X → Walked X) (before : List ℕ) (count : ℕ) → ((res_status a.res).number == 0) ≡ false
    → results_of (goes_on a more) before count ≡ results_as a.course (before ++ outcome.spell a.res) (res_status a.res).number (count + 1)
on_refusal a more before count some =
    ap (λ (b : Bool). results_of (if b
    then record { course = (more a.course).course; results = a.res ∷ (more a.course).results }
    else record { course = a.course; results = a.res ∷ [] }) before count) some
    ∙ ap (λ (bytes : List ℕ). results_as a.course (before ++ bytes) (res_status a.res).number (count + 1)) (append-nil (outcome.spell a.res))

-- an operation was answered with status 0, and the others follow
pub walk_on : {X C : Type 0} (s : Service X C) (choice : Choice) (caller : Caller) (carry : Option C) (tail : Tail) (op : Op) (ops : List Op) (c new : Course X)
    (before after : List ℕ) (count status : ℕ) → seen (perform s choice caller carry (next_number ops) op c) before ≡ seen_as new after status → status ≡ 0
    → results_of (walk s choice caller carry tail (op ∷ ops) c) before count ≡ results_of (walk s choice caller carry tail ops new) after (count + 1)
unfolding walk
walk_on s choice caller carry tail op ops c new before after count status e zero =
    let a = perform s choice caller carry (next_number ops) op c in
    on_ok a (λ d. walk s choice caller carry tail ops d) before count (ap (λ x. x.status) e ∙ zero)
    ∙ ap (λ x. results_of (walk s choice caller carry tail ops x.course) x.bytes (count + 1)) e

-- an operation was answered with another status
pub walk_stops : {X C : Type 0} (s : Service X C) (choice : Choice) (caller : Caller) (carry : Option C) (tail : Tail) (op : Op) (ops : List Op) (c new : Course X)
    (before after : List ℕ) (count status : ℕ) → seen (perform s choice caller carry (next_number ops) op c) before ≡ seen_as new after status → (status == 0) ≡ false
    → results_of (walk s choice caller carry tail (op ∷ ops) c) before count ≡ record { course = new; bytes = after; status = status; count = count + 1 }
unfolding walk
walk_stops s choice caller carry tail op ops c new before after count status e some =
    let a = perform s choice caller carry (next_number ops) op c in
    on_refusal a (λ d. walk s choice caller carry tail ops d) before count (ap (λ x. x.status == 0) e ∙ some)
    ∙ ap (λ x. results_as x.course x.bytes x.status (count + 1)) e

-- all were answered with status 0, and nothing stands behind them
pub walk_ends : {X C : Type 0} (s : Service X C) (choice : Choice) (caller : Caller) (carry : Option C) (tail : Tail) (c : Course X) (before : List ℕ) (count : ℕ)
    → tail_refusal tail ≡ None → results_of (walk s choice caller carry tail [] c) before count ≡ record { course = c; bytes = before; status = 0; count = count }
unfolding walk
walk_ends s choice caller carry tail c before count none =
    let zero : count + length {A = Res} [] ≡ count = omega arith in
    ap (λ (r : Option TailRefusal). results_of (at_tail r c) before count) none
    ∙ ap (λ (bytes : List ℕ). results_as c bytes 0 (count + length {A = Res} [])) (append-nil before)
    ∙ ap (λ (n : ℕ). results_as c before 0 n) zero

-- what stands behind them is answered by a status alone
pub walk_refuses : {X C : Type 0} (s : Service X C) (choice : Choice) (caller : Caller) (carry : Option C) (tail : Tail) (c new : Course X) (before after : List ℕ) (count status : ℕ) (r : TailRefusal)
    → tail_refusal tail ≡ Some r → seen (record { course = c; res = refused r.op r.status }) before ≡ seen_as new after status
    → results_of (walk s choice caller carry tail [] c) before count ≡ record { course = new; bytes = after; status = status; count = count + 1 }
unfolding walk
walk_refuses s choice caller carry tail c new before after count status r some e =
    let res = refused r.op r.status in
    ap (λ (t : Option TailRefusal). results_of (at_tail t c) before count) some
    ∙ ap (λ (bytes : List ℕ). results_as c (before ++ bytes) (res_status res).number (count + 1)) (append-nil (outcome.spell res))
    ∙ ap (λ x. results_as x.course x.bytes x.status (count + 1)) e
