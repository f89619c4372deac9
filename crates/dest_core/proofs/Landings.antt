-- What a step lands is what it tells.
use Rattle.std.proofs.Common.{◌≡◌, ℕ, ◌+◌, ◌<◌, ◌≤◌, List, [], ◌∷◌, length, refl, ap, arith}
use Rattle.dest_jobs.specs.Counting.{bytes_in, untold_in, Lands}
use Rattle.dest_jobs.specs.declared.copies.Copies.{Copies}
use Rattle.outbox.specs.Counting.{landed_in}
use Rattle.outbox.specs.declared.note.Note.{Note}
use Rattle.outbox.specs.declared.note.TheConstants.{MOST_NOTES}
use Rattle.dest_core.specs.Landing.{LandsTold}

pub none_untold : (x : Copies) → x.told ≡ [] → untold_in x ≡ 0
none_untold x none = ap (λ (ns : List Note). landed_in ns) none

-- a step goes on from copies of which nothing is to be told
pub lands_told : (old came done new : Copies) (notes : List Note) → untold_in came ≡ 0 → length came.told < MOST_NOTES → bytes_in came ≡ bytes_in old
    → Lands came done → notes ≡ done.told → bytes_in new ≡ bytes_in done → LandsTold (bytes_in old) (bytes_in new) notes
lands_told old came done new notes none room before lands told after =
    let grown = lands.landed room in
    let few = lands.one_chunk in
    let same = ap (λ (ns : List Note). landed_in ns) told in
    record { landed = omega (arith, none, before, grown, same, after); one_chunk = omega (arith, none, few, same) }

-- no note is none too many
pub few_told : (old came : Copies) (more : ℕ) → old.told ≡ [] → length came.told ≤ length old.told + more → more < MOST_NOTES → length came.told < MOST_NOTES
few_told old came more none few small =
    let no_length = ap (λ (ns : List Note). length ns) none in
    omega (arith, few, no_length, small)

pub none_told : (old new : List Note) → old ≡ [] → length new ≤ length old → new ≡ []
none_told old [] none few = refl
none_told old (note ∷ new) none few =
    let no_length = ap (λ (ns : List Note). length ns) none in
    absurd (omega (arith, few, no_length))
