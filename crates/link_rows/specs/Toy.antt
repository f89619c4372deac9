-- What the machine of these tables gives back: the record behind the connection's number, and nothing for one that is empty or
-- as large as a record may be.
use Rattle.std.specs.Prelude.{ℕ, ◌==◌, ◌%◌, ◌||◌, nat_le, List, [], ◌∷◌, length, if◌then◌else◌}
use Rattle.rpc_msg.specs.Records.{record_limit}

abbrev pub gives_back : ℕ → List ℕ → List ℕ
gives_back conn message =
    if (length message == 0) || nat_le record_limit (length message) then [] else ((conn % 256) ∷ message)
