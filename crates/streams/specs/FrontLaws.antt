-- What was put of several pieces, one after the other, is a front of all of them.
use Rattle.std.proofs.Common.{ℕ, ◌+◌, List, ◌++◌, length, arith, length-append}
use Rattle.std.specs.declared.option.Option.{Option}
use Rattle.std.specs.Io.KnownBytes.{Appends}
use Rattle.std.proofs.KnownBytes.{Appends-trans, Appends-nil}
use Rattle.std.proofs.Math.Seq.{take-length, take-append-add}
use Rattle.std.proofs.lemmas.List.{take-append-le}
use Rattle.streams.specs.Sink.{AppendsFront}

-- none of it was put
pub front_none : (old : Option (List ℕ)) (bytes : List ℕ) → AppendsFront old old bytes
front_none old bytes = record { count = 0; within = omega arith; appended = Appends-nil old }

-- all of it was put
pub front_all : (old new : Option (List ℕ)) (bytes : List ℕ) → Appends old new bytes → AppendsFront old new bytes
front_all old new bytes put =
    record { count = length bytes; within = omega arith; appended = rw take-length put }

-- a front of the first piece was put, and nothing of the second
pub front_wider : (old new : Option (List ℕ)) (first second : List ℕ) → AppendsFront old new first
    → AppendsFront old new (first ++ second)
front_wider old new first second put =
    let inside = put.within in
    record {
      count = put.count;
      within = omega (arith, length-append first second);
      appended = rw take-append-le put.appended;
    }

-- all of the first piece was put, and then a front of the second
pub front_more : (old middle new : Option (List ℕ)) (first second : List ℕ) → Appends old middle first
    → AppendsFront middle new second → AppendsFront old new (first ++ second)
front_more old middle new first second put more =
    record {
      count = length first + more.count;
      within = omega (arith, length-append first second, more.within);
      appended = rw take-append-add (Appends-trans _ _ _ _ _ put more.appended);
    }

pub front_join : (a b c : Option (List ℕ)) (x y : List ℕ) → Appends a b x → AppendsFront b c y → AppendsFront a c (x ++ y)
front_join a b c x y first more = front_more a b c x y first more
