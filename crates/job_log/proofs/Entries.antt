-- What one more entry changes in what a log says.
use Rattle.std.proofs.Common.{◌≡◌, ℕ, suc, ◌+◌, Bool, true, false, Option, None, Some, List, [], ◌∷◌, ◌++◌, length, refl, ◌∙◌, ap, arith, length-append}
use Rattle.std.specs.Prelude.{◌||◌, if◌then◌else◌}
use Rattle.std.proofs.lemmas.List.Folds.{list_any-append}
use Rattle.std.proofs.lemmas.List.Sums.{sum_by-append}
use Rattle.copy_model.specs.Job.{Entry, Sized, Landed, Stopped, Committed, Reported, size_of, is_landing, has_landed, is_end, has_ended, is_report, is_reported, bytes_landed, landed_bytes}
use Rattle.job_log.specs.declared.log.Entry.{Entry as Kept}
use Rattle.job_log.specs.Kept.{entry_of, entries_of}

abbrev pub first_size : Option ℕ → Option ℕ → Option ℕ
first_size None b = b
first_size (Some n) b = Some n

pub size_of-append : (es fs : List Entry) → size_of (es ++ fs) ≡ first_size (size_of es) (size_of fs)
size_of-append [] fs = refl
size_of-append (Sized len ∷ es) fs = refl
size_of-append (Landed off len ∷ es) fs = size_of-append es fs
size_of-append (Stopped ∷ es) fs = size_of-append es fs
size_of-append (Committed ∷ es) fs = size_of-append es fs
size_of-append (Reported ∷ es) fs = size_of-append es fs

or_false : (b : Bool) → (b || false) ≡ b
or_false true = refl
or_false false = refl

pub has_landed-append : (es : List Entry) (e : Entry) (off : ℕ) → has_landed (es ++ e ∷ []) off ≡ (has_landed es off || is_landing off e)
has_landed-append es e off = list_any-append (is_landing off) es (e ∷ []) ∙ ap (λ (b : Bool). has_landed es off || b) (or_false (is_landing off e))

pub has_ended-append : (es : List Entry) (e : Entry) → has_ended (es ++ e ∷ []) ≡ (has_ended es || is_end e)
has_ended-append es e = list_any-append is_end es (e ∷ []) ∙ ap (λ (b : Bool). has_ended es || b) (or_false (is_end e))

pub is_reported-append : (es : List Entry) (e : Entry) → is_reported (es ++ e ∷ []) ≡ (is_reported es || is_report e)
is_reported-append es e = list_any-append is_report es (e ∷ []) ∙ ap (λ (b : Bool). is_reported es || b) (or_false (is_report e))

pub landed_bytes-append : (es : List Entry) (e : Entry) → landed_bytes (es ++ e ∷ []) ≡ landed_bytes es + bytes_landed e
landed_bytes-append es e = let h = sum_by-append bytes_landed es (e ∷ []) in omega arith

pub length-more : (es : List Entry) (e : Entry) → length (es ++ e ∷ []) ≡ length es + 1
length-more es e = length-append es (e ∷ [])

map_more : (xs : List Kept) (y : Kept) → entries_of (xs ++ y ∷ []) ≡ entries_of xs ++ entry_of y ∷ []
map_more [] y = refl
map_more (x ∷ xs) y = ap (λ (es : List Entry). entry_of x ∷ es) (map_more xs y)

-- what a push that went through leaves
pub pushed : (items new : List Kept) (e : Kept) (b : Bool) → b ≡ true → new ≡ (if b then items ++ e ∷ [] else items)
    → entries_of new ≡ entries_of items ++ entry_of e ∷ []
pushed items new e b went is =
    ap (λ (xs : List Kept). entries_of xs) (is ∙ ap (λ (x : Bool). if x then items ++ e ∷ [] else items) went) ∙ map_more items e

pub length-entries_of : (xs : List Kept) → length (entries_of xs) ≡ length xs
length-entries_of [] = refl
length-entries_of (x ∷ xs) = ap (λ (n : ℕ). suc n) (length-entries_of xs)
