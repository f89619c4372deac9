-- What a transcript's text tells of the copies in it, counted. Own format.
use Rattle.std.specs.Prelude.{◌≡◌, ℕ, ◌+◌, ◌-◌, ◌*◌, ◌^◌, Bool, nat_eq, nat_lt, ◌==◌, Option, None, Some, unwrap_or, List, [], ◌∷◌, ◌++◌, codes, if◌then◌else◌}
use Rattle.std.specs.Char.{is_ascii_digit}
use Rattle.std.specs.List.{starts_with}
use Rattle.wire_tally.specs.declared.tally.Tally.{Tally}

-- nothing is counted yet
abbrev pub no_tally : Tally
no_tally = record { stable = 0; exact = 0; landed = 0 }

-- ---- the number at the end of a line

-- a number with one more digit, while it stays below 2^32
abbrev pub with_digit : Option ℕ → ℕ → Option ℕ
with_digit None digit = None
with_digit (Some n) digit = if nat_lt (n * 10 + digit) (2 ^ 32) then Some (n * 10 + digit) else None

-- what a word spells with one more byte: a space (32) begins a new word, a digit goes on, and any other byte spells no number
unfoldable pub digit_next : Option ℕ → ℕ → Option ℕ
digit_next so_far byte =
    if byte == 32 then Some 0
    else if is_ascii_digit byte then with_digit so_far (byte - 48)
    else None

-- what the last word spells with more bytes
abbrev pub amount_from : Option ℕ → List ℕ → Option ℕ
amount_from so_far [] = so_far
amount_from so_far (byte ∷ bytes) = amount_from (digit_next so_far byte) bytes

-- The number behind the last space of a line; 0 where there is no decimal number below 2^32.
unfoldable pub amount : List ℕ → ℕ
amount line = unwrap_or (amount_from None line) 0

-- ---- lines

-- whether a line begins so
abbrev pub begins_with : List ℕ → List ℕ → Bool
begins_with front line = starts_with nat_eq line front

-- With one more line: `stable J`, `exact J`, `landed J OFF LEN`, or another.
unfoldable pub by_line : List ℕ → Tally → Tally
by_line line t =
    if begins_with (codes "stable ") line then record t { stable = t.stable + 1 }
    else if begins_with (codes "exact ") line then record t { exact = t.exact + 1 }
    else if begins_with (codes "landed ") line then record t { landed = t.landed + amount line }
    else t

-- with a text byte by byte, behind the line so far: a newline (10) ends a line, and it is counted
abbrev pub tally_from : List ℕ → List ℕ → Tally → Tally
tally_from line [] t = t
tally_from line (byte ∷ bytes) t =
    if byte == 10 then tally_from [] bytes (by_line line t)
    else tally_from (line ++ byte ∷ []) bytes t

-- With the lines of a text. What stands behind its last newline is no line.
unfoldable pub tallied : List ℕ → Tally → Tally
tallied text t = tally_from [] text t

-- A text of whole lines: it is empty, or its last byte is a newline.
abbrev pub IsWholeText : List ℕ → Type 0
IsWholeText [] = Unit
IsWholeText (byte ∷ []) = byte ≡ 10
IsWholeText (byte ∷ next ∷ bytes) = IsWholeText (next ∷ bytes)
