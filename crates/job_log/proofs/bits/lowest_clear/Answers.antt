use Rattle.std.specs.Prelude.{◌≢◌, ℕ}
use Rattle.std.specs.Int.{w64, trailing_ones}
use Rattle.std.proofs.Common.{sym, subst, arith}
use Rattle.std.proofs.lemmas.Nat.Bits.{bit_at-trailing_ones}
use Rattle.job_log.specs.Bits.{IsLowestClear}
use Rattle.job_log.proofs.bits.lowest_clear.Goals as goal

pub returns : goal.returns
returns c =
    let found = bit_at-trailing_ones w64 c.args.word (let ne : c.args.word ≢ 18446744073709551615 = c.requires in let fits = c.ranges.word in omega (arith, ne)) in
    let here : IsLowestClear c.args.word (trailing_ones w64 c.args.word) = record { within = found.0; is_clear = found.1; lower = found.2 } in
    let P : ℕ → Type 0 = λ k. IsLowestClear c.args.word k in
    subst P (sym c.trailing_ones.ensures) here
