-- The operations of a compound behind its SEQUENCE, in order, up to the first status other than 0. RFC 8881 section
-- 16.2.3.
use Rattle.std.specs.Prelude.{◌≡◌, ℕ, ◌+◌, ◌==◌, Option, Some, None, List, [], ◌∷◌, ◌++◌, length, if◌then◌else◌}
use Rattle.std.specs.List.{flat_map}
use Rattle.file_server.specs.declared.extension.Caller.{Caller}
use Rattle.nfs_compound.specs.declared.op.Op.{Op}
use Rattle.nfs_compound.specs.declared.res.Res.{Res}
use Rattle.nfs_compound.specs.declared.tail.Tail.{Tail}
use Rattle.nfs_compound.specs.Results.{outcome, res_status}
use Rattle.nfs_compound.specs.Walk.{next_number, last_status}
use Rattle.server_volume.specs.Choices.{Choice, Agrees}
use Rattle.compound_server.specs.Course.{Course, Performed, Service}
use Rattle.compound_server.specs.Performing.{perform}
use Rattle.compound_server.specs.declared.refusing.TailRefusal.{TailRefusal}
use Rattle.compound_server.specs.Refusals.{refused, tail_refusal}

-- operations that were answered
pub record Walked (X : Type 0) : Type 0 where
  pub course : Course X
  pub results : List Res

-- behind a status other than 0 nothing is evaluated
abbrev pub goes_on : {X : Type 0} → Performed X → (Course X → Walked X) → Walked X
goes_on a more =
    if (res_status a.res).number == 0
    then record { course = (more a.course).course; results = a.res ∷ (more a.course).results }
    else record { course = a.course; results = a.res ∷ [] }

-- where all that were read are answered with status 0, the one behind them is answered too
abbrev pub at_tail : {X : Type 0} → Option TailRefusal → Course X → Walked X
at_tail None c = record { course = c; results = [] }
at_tail (Some r) c = record { course = c; results = refused r.op r.status ∷ [] }

unfoldable pub walk : {X C : Type 0} → Service X C → Choice → Caller → Option C → Tail → List Op → Course X → Walked X
walk s choice caller carry tail [] c = at_tail (tail_refusal tail) c
walk s choice caller carry tail (op ∷ ops) c =
    goes_on (perform s choice caller carry (next_number ops) op c) (λ d. walk s choice caller carry tail ops d)

-- ---- a walk in code is its model's

-- what the code shows of a walk: the results behind those before, the status of the last one, and how many there are
pub record Results (X : Type 0) : Type 0 where
  pub course : Course X
  pub bytes : List ℕ
  pub status : ℕ
  pub count : ℕ

abbrev pub results_of : {X : Type 0} → Walked X → List ℕ → ℕ → Results X
results_of w before count = record {
  course = w.course;
  bytes = before ++ flat_map outcome.spell w.results;
  status = (last_status w.results).number;
  count = count + length w.results;
}

-- At each choice that agrees with the calls that were made, the model's results are these.
abbrev pub Walks : {X : Type 0} → (Choice → Walked X) → List ℕ → (before : ℕ) → Course X → List ℕ → (status count : ℕ) → Type 0
Walks told bytes before new after status count =
    (choice : Choice) → Agrees choice new.going.used
    → results_of (told choice) bytes before ≡ record { course = new; bytes = after; status = status; count = count }
