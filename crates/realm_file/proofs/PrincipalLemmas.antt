-- What stands on a line, from where it was cut.
use Rattle.std.specs.Prelude.{◌≡◌, ℕ, false, List, [], Option, None, Some, option_and_then, refl}
use Rattle.std.proofs.Common.{arith, Bor, lit<}
use Rattle.std.proofs.lemmas.List.{drop_all}
use Rattle.std.proofs.lemmas.Str.Pattern.{split_once_first, IsSplitOnceResult}
use Rattle.std.specs.List.{after_first}
use Rattle.realm_file.specs.RealmText.{is_blank, is_name, named, key_of_digits, principal_of}

-- where a line was cut, its principal is read from its parts
pub read_from_parts : (line : List ℕ) (name digits : Bor (List ℕ)) → IsSplitOnceResult 32 line (Some (name, digits))
    → principal_of line ≡ option_and_then (named name.now) (key_of_digits digits.now)
unfolding principal_of
read_from_parts line name digits cut =
    let parts = split_once_first 32 line (Some (name, digits)) cut (lit< tt) in
    rw (parts.1, parts.2) refl

-- a line without a blank has no principal
pub none_without_blank : (line : List ℕ) → IsSplitOnceResult 32 line None → principal_of line ≡ None
unfolding principal_of
none_without_blank line cut =
    let whole = split_once_first 32 line None cut (lit< tt) in
    let ends : after_first is_blank line ≡ [] = drop_all _ line (omega (arith, whole)) in
    rw ends refl

-- what isn't a name is nobody's
pub none_without_name : (name : List ℕ) (key : Option (List ℕ)) → is_name name ≡ false → option_and_then (named name) key ≡ None
none_without_name name None h = refl
none_without_name name (Some key) h = rw h refl

-- a name without a key is nobody's
pub none_without_key : (name : List ℕ) (key : Option (List ℕ)) → key ≡ None → option_and_then (named name) key ≡ None
none_without_key name key h = rw h refl
