-- Several texts written onto a page one behind the other.
use Rattle.std.proofs.Common.{◌≡◌, ℕ, List, ◌++◌, ap, ◌∙◌, append_assoc}
use Rattle.wire_xdr.specs.Page.{Written, Added}

pub added_then : {a b c : Written} {x y : List ℕ} → Added a x b → Added b y c → Added a (x ++ y) c
added_then {a = a} {x = x} {y = y} first second = record {
  is = second.is ∙ ap (λ (bytes : List ℕ). bytes ++ y) first.is ∙ append_assoc a.bytes x y;
  room = second.room ∙ first.room;
}

pub added_as : {a b : Written} {x y : List ℕ} → x ≡ y → Added a x b → Added a y b
added_as {a = a} same added = record { is = added.is ∙ ap (λ (bytes : List ℕ). a.bytes ++ bytes) same; room = added.room }
