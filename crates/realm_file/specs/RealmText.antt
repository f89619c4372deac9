-- The text of a realm: a line for each principal, with its name, a blank and its key. Own format.
use Rattle.std.specs.Prelude.{ℕ, Bool, true, not, ◌&&◌, ◌==◌, nat_le, if◌then◌else◌, List, [], ◌∷◌, length, bytes_eq, Option, None, Some, option_map, option_and_then}
use Rattle.std.specs.List.{before_first, after_first, list_any}
use Rattle.std.specs.Result.{result_ok}
use Rattle.std.specs.Str.{is_utf8}
use Rattle.std.specs.Str.Lines.{lines}
use Rattle.hex.specs.Hex.{decode_sized}
use Rattle.gss_mech.specs.Realm.{Keys}

-- the byte between a name and its key
abbrev pub is_blank : ℕ → Bool
is_blank byte = byte == 32

-- a name has 1 to 64 bytes
abbrev pub is_name : List ℕ → Bool
is_name name = nat_le 1 (length name) && nat_le (length name) 64

-- a name with its key, where the name is one
abbrev pub named : List ℕ → List ℕ → Option (List ℕ × List ℕ)
named name key = if is_name name then Some (name, key) else None

-- the key of 32 bytes that 64 digits of base 16 are, in either case; None where they aren't 64, or aren't digits
abbrev pub key_of_digits : List ℕ → Option (List ℕ)
key_of_digits digits = result_ok (decode_sized digits 32)

-- the principal of a line: its name stands before the first blank, the digits of its key are all that stands behind
unfoldable pub principal_of : List ℕ → Option (List ℕ × List ℕ)
principal_of line = option_and_then (named (before_first is_blank line)) (key_of_digits (after_first is_blank line))

-- a principal before those of the lines behind it
abbrev pub before_others : Option (List ℕ × List ℕ) → Option Keys → Option Keys
before_others principal others = option_and_then (λ first. option_map (λ rest. first ∷ rest) others) principal

-- the principals of all lines, in their order; None where a line has none
abbrev pub principals_of : List (List ℕ) → Option Keys
principals_of [] = Some []
principals_of (line ∷ lines) = before_others (principal_of line) (principals_of lines)

-- whether a name is among those of these principals
abbrev pub has_name : Keys → List ℕ → Bool
has_name keys name = list_any (λ entry. bytes_eq entry.0 name) keys

-- no name stands twice
abbrev pub names_differ : Keys → Bool
names_differ [] = true
names_differ (entry ∷ keys) = not (has_name keys entry.0) && names_differ keys

-- a realm has a principal, and each by a name of its own
abbrev pub as_realm : Keys → Option Keys
as_realm keys = if nat_le 1 (length keys) && names_differ keys then Some keys else None

-- the realm whose principals these lines are
abbrev pub realm_in : List (List ℕ) → Option Keys
realm_in lines = option_and_then as_realm (principals_of lines)

-- the realm of a text in UTF-8, by its lines
unfoldable pub realm_of : List ℕ → Option Keys
realm_of text = if is_utf8 text then realm_in (lines text) else None
