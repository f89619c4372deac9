-- Bytes that were sent one after the other.
use Rattle.std.proofs.Common.{◌≡◌, ℕ, ◌+◌, Bool, true, false, if◌then◌else◌, is_some, refl, sym, ap, ◌∙◌, arith}
use Rattle.std.specs.Prelude.{Option, Some, None}
use Rattle.rpc_msg.specs.Watching.{Signs, is_down, down_of}
use Rattle.copy_workers.specs.Workers.{Sends}

pub up_before : (first last : Bool) → (first ≡ true → last ≡ true) → last ≡ false → first ≡ false
up_before false last stays up = refl
up_before true last stays up = sym (stays refl) ∙ up

pub sends_join : {a b len before mid now : ℕ} {first last : Bool}
    → Sends a before mid first → Sends b mid now last → (first ≡ true → last ≡ true) → len ≡ a + b → Sends len before now last
sends_join {a} {b} {len} {before} {mid} {now} {first} {last} one two stays is = record {
  later = omega (arith, one.later, two.later);
  most = omega (arith, one.most, two.most, is);
  whole = λ up. omega (arith, one.whole (up_before first last stays up), two.whole up, is);
}

pub sends_none : (before now : ℕ) (down : Bool) → now ≡ before → Sends 0 before now down
sends_none before now down is = record { later = omega (arith, is); most = omega (arith, is); whole = λ up. omega (arith, is) }

-- whether a link is down, as its own call tells
some_if : {T : Type 0} (b : Bool) (x : T) → is_some (if b then Some x else None) ≡ b
some_if true x = refl
some_if false x = refl

pub up_by : (signs : Signs) (told : Option Signs) (some : Bool) → told ≡ down_of signs → some ≡ is_some told → some ≡ false → is_down signs ≡ false
up_by signs told some told_is some_is none = sym (some_if (is_down signs) signs) ∙ ap is_some (sym told_is) ∙ sym some_is ∙ none
