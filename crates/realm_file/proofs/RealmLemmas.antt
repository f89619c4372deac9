-- The realm of a text, where it is UTF-8 and where not.
use Rattle.std.specs.Prelude.{◌≡◌, ℕ, List, None, option_and_then, IsUtf8, refl}
use Rattle.std.proofs.lemmas.Bool.{false_from_ne_true}
use Rattle.std.proofs.lemmas.Str.{IsUtf8-from_is_utf8, is_utf8-from_IsUtf8}
use Rattle.std.specs.Str.{is_utf8}
use Rattle.std.specs.Str.Lines.{lines}
use Rattle.realm_file.specs.RealmText.{realm_of, principals_of, as_realm}

pub realm_by_lines : (text : List ℕ) → IsUtf8 text → realm_of text ≡ option_and_then as_realm (principals_of (lines text))
unfolding realm_of
realm_by_lines text h = rw (is_utf8-from_IsUtf8 text h) refl

pub none_unless_utf8 : (text : List ℕ) → (IsUtf8 text → ⊥) → realm_of text ≡ None
unfolding realm_of
none_unless_utf8 text h = rw (false_from_ne_true (is_utf8 text) (λ is. h (IsUtf8-from_is_utf8 text is))) refl
