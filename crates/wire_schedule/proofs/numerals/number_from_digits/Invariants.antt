use Rattle.std.proofs.Common.{◌≡◌, drop}
use Rattle.wire_schedule.specs.Numerals.{number_from}
use Rattle.wire_schedule.proofs.numerals.number_from_digits.Given as goal

abbrev pub invariant-loop-digit : goal.invariant-loop-digit
invariant-loop-digit l = number_from l.n (drop l.digit-index l.digits) ≡ number_from 0 l.digits
