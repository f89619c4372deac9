-- A log with one more entry that is allowed stays sound.
use Rattle.std.proofs.Common.{◌≡◌, ◌⊎◌, inl, inr, ⊎_elim, ℕ, ◌+◌, ◌*◌, ◌/◌, ◌<◌, ◌≤◌, Bool, true, false, leb, ltb, Option, None, Some, unwrap_or, List, [], ◌∷◌, ◌++◌, refl, sym, ◌∙◌, ap, subst, arith}
use Rattle.std.proofs.lemmas.Bool.{both_ways, eqb-true, and_parts, and_from, leb-true, ltb-true, le-leb, lt-ltb}
use Rattle.copy_model.specs.Job.{Entry, Sized, Landed, Stopped, Committed, Reported, size_of, is_landing, has_ended, is_end, chunk_size, chunk_len, AllowsLanding, AllowsCommit, Allows}
use Rattle.copy_model.specs.Marks.{len_of, covers, is_stop, is_commit, has_byte, is_stopped, is_committed, AreSound}
use Rattle.copy_model.proofs.Entries.{any_keeps, any_new, any_cases, any_implies, size_kept, size_same, size_first, lawful_push, lawful_none}

-- the bytes that a landing covers
landing_covers : (q off len : ℕ) → off ≤ q → q < off + len → covers q (Landed off len) ≡ true
landing_covers q off len from below = and_from (leb off q) (ltb q (off + len)) (le-leb off q from) (lt-ltb q (off + len) below)

covers_landing : (q off len : ℕ) → covers q (Landed off len) ≡ true → (off ≤ q) × (q < off + len)
covers_landing q off len h =
    let parts = and_parts (leb off q) (ltb q (off + len)) h in
    (leb-true off q parts.0, ltb-true q (off + len) parts.1)

pub sound_none : (consecutive : Bool) → AreSound consecutive []
sound_none consecutive =
    record {
      lawful = lawful_none consecutive;
      within = λ q h. absurd (cc);
      whole = λ total off q size landed from below. absurd (cc);
      sized_first = λ off size landed. absurd (cc);
    }

pub len_at : (es : List Entry) (o : Option ℕ) → size_of es ≡ o → len_of es ≡ unwrap_or o 0
len_at es o e = ap (λ s. unwrap_or s 0) e

pub sound_sized : (consecutive : Bool) (es : List Entry) (total : ℕ) → AreSound consecutive es → size_of es ≡ None → has_ended es ≡ false
    → AreSound consecutive (es ++ Sized total ∷ [])
sound_sized consecutive es total sound unsized live =
    let new : Entry = Sized total in
    let none = len_at es None unsized in
    record {
      lawful = lawful_push consecutive es new sound.lawful (unsized, live);
      within = λ q h. ⊎_elim (λ old. absurd (let below = sound.within q old in omega arith)) (λ now. absurd (cc)) (any_cases (covers q) es new h);
      whole = λ other off q size landed from below.
          ⊎_elim (λ old. absurd (sound.sized_first off unsized old)) (λ now. absurd (cc)) (any_cases (is_landing off) es new landed);
      sized_first = λ off size landed. let known = size_first es new unsized in absurd (cc);
    }

-- an entry that lands nothing and gives no size
sound_quiet : (consecutive : Bool) (es : List Entry) (new : Entry) → AreSound consecutive es → Allows consecutive es new
    → size_of (es ++ new ∷ []) ≡ size_of es → ((q : ℕ) → covers q new ≡ false) → ((off : ℕ) → is_landing off new ≡ false)
    → AreSound consecutive (es ++ new ∷ [])
sound_quiet consecutive es new sound allowed same uncovered none =
    let long = len_at (es ++ new ∷ []) (size_of es) same in
    record {
      lawful = lawful_push consecutive es new sound.lawful allowed;
      within = λ q h.
          ⊎_elim (λ old. let below = sound.within q old in omega arith) (λ now. let not_now = uncovered q in absurd (cc)) (any_cases (covers q) es new h);
      whole = λ total off q size landed from below.
          ⊎_elim
          (λ old. any_keeps (covers q) es new (sound.whole total off q (sym same ∙ size) old from below))
          (λ now. let not_now = none off in absurd (cc))
          (any_cases (is_landing off) es new landed);
      sized_first = λ off size landed.
          ⊎_elim (λ old. sound.sized_first off (sym same ∙ size) old) (λ now. let not_now = none off in absurd (cc)) (any_cases (is_landing off) es new landed);
    }

-- a chunk that begins within the range ends within it
pub chunk_within : (total off q : ℕ) → off < total → q < off + chunk_len total off → q < total
chunk_within total off q inside below = omega arith

sound_landed : (consecutive : Bool) (es : List Entry) (off len : ℕ) → AreSound consecutive es → AllowsLanding consecutive es off len
    → has_ended es ≡ false → AreSound consecutive (es ++ Landed off len ∷ [])
sound_landed consecutive es off len sound allowed live =
    let total = allowed.total in
    let size = allowed.is_sized in
    let new : Entry = Landed off len in
    let same : size_of (es ++ new ∷ []) ≡ Some total = size_kept es new total size in
    let long : len_of (es ++ new ∷ []) ≡ total = len_at (es ++ new ∷ []) (Some total) same in
    let was : len_of es ≡ total = len_at es (Some total) size in
    let inside = allowed.chunk.within in
    let length_is = allowed.length_is in
    record {
      lawful = lawful_push consecutive es new sound.lawful (allowed, live);
      within = λ q h.
          ⊎_elim
          (λ old. let below = sound.within q old in omega arith)
          (λ now. let covered = (covers_landing q off len now).1 in let below = chunk_within total off q inside (omega arith) in omega arith)
          (any_cases (covers q) es new h);
      whole = λ other at q size_then landed from below.
          let equal : total ≡ other = cc in
          ⊎_elim
          (λ old. any_keeps (covers q) es new (sound.whole other at q (size ∙ ap Some equal) old from below))
          (λ now. any_new (covers q) es new (covers_at total other off at len q equal (eqb-true off at now) length_is from below))
          (any_cases (is_landing at) es new landed);
      sized_first = λ at size_then landed. absurd (cc);
    }
  where
    covers_at : (total other off at len q : ℕ) → total ≡ other → off ≡ at → len ≡ chunk_len total off → at ≤ q → q < at + chunk_len other at
        → covers q (Landed off len) ≡ true
    covers_at total other off at len q equal here length_is from below =
        landing_covers q off len (omega arith) (subst (λ n. q < n + len) (sym here) (subst (λ l. q < at + l) (sym (length_is ∙ ap (λ n. chunk_len n off) equal ∙ ap (λ n. chunk_len other n) here)) below))

-- where a commit is allowed, each byte of the range has landed
pub all_covered : (consecutive : Bool) (es : List Entry) (q : ℕ) → AreSound consecutive es → AllowsCommit es → q < len_of es → has_byte es q ≡ true
all_covered consecutive es q sound allowed below =
    let total = allowed.total in
    let long : len_of es ≡ total = len_at es (Some total) allowed.is_sized in
    let number = q / chunk_size in
    let off = number * chunk_size in
    sound.whole total off q allowed.is_sized (allowed.all_landed off (record { number = number; start = refl; within = omega arith })) (omega arith) (omega arith)

pub sound_push : (consecutive : Bool) (es : List Entry) (e : Entry) → AreSound consecutive es → Allows consecutive es e → AreSound consecutive (es ++ e ∷ [])
sound_push consecutive es (Sized len) sound allowed = sound_sized consecutive es len sound allowed.0 allowed.1
sound_push consecutive es (Landed off len) sound allowed = sound_landed consecutive es off len sound allowed.0 allowed.1
sound_push consecutive es Stopped sound allowed = sound_quiet consecutive es Stopped sound allowed (size_same es Stopped refl) (λ q. refl) (λ off. refl)
sound_push consecutive es Committed sound allowed = sound_quiet consecutive es Committed sound allowed (size_same es Committed refl) (λ q. refl) (λ off. refl)
sound_push consecutive es Reported sound allowed = sound_quiet consecutive es Reported sound allowed (size_same es Reported refl) (λ q. refl) (λ off. refl)

-- the size is given once
pub size_rises : (es : List Entry) (e : Entry) (len : ℕ) → size_of (es ++ e ∷ []) ≡ Some len → (size_of es ≡ Some len) ⊎ ((size_of es ≡ None) × (e ≡ Sized len))
size_rises es e len size = rises (size_of es) refl
  where
    first : (e : Entry) → size_of (e ∷ []) ≡ Some len → e ≡ Sized len
    first (Sized n) is = ap sized_to is
      where
        sized_to : Option ℕ → Entry
        sized_to None = Stopped
        sized_to (Some l) = Sized l
    first (Landed off n) is = absurd (cc)
    first Stopped is = absurd (cc)
    first Committed is = absurd (cc)
    first Reported is = absurd (cc)

    rises : (o : Option ℕ) → size_of es ≡ o → (size_of es ≡ Some len) ⊎ ((size_of es ≡ None) × (e ≡ Sized len))
    rises None was = inr (was, first e (sym (size_first es e was) ∙ size))
    rises (Some n) was = let kept = size_kept es e n was in inl (let same : n ≡ len = cc in was ∙ ap (λ (l : ℕ). Some l) same)

pub same_len : (es : List Entry) (e : Entry) → size_of (e ∷ []) ≡ None → len_of (es ++ e ∷ []) ≡ len_of es
same_len es e none = ap (λ s. unwrap_or s 0) (size_same es e none)

pub len_grows : (consecutive : Bool) (es : List Entry) (e : Entry) → Allows consecutive es e → len_of es ≤ len_of (es ++ e ∷ [])
len_grows consecutive es (Sized len) allowed = let none = len_at es None allowed.0 in omega arith
len_grows consecutive es (Landed off len) allowed = let same = same_len es (Landed off len) refl in omega arith
len_grows consecutive es Stopped allowed = let same = same_len es Stopped refl in omega arith
len_grows consecutive es Committed allowed = let same = same_len es Committed refl in omega arith
len_grows consecutive es Reported allowed = let same = same_len es Reported refl in omega arith

stop_ends : (e : Entry) → is_stop e ≡ true → is_end e ≡ true
stop_ends (Sized len) h = h
stop_ends (Landed off len) h = h
stop_ends Stopped h = refl
stop_ends Committed h = refl
stop_ends Reported h = h

commit_ends : (e : Entry) → is_commit e ≡ true → is_end e ≡ true
commit_ends (Sized len) h = h
commit_ends (Landed off len) h = h
commit_ends Stopped h = refl
commit_ends Committed h = refl
commit_ends Reported h = h

pub stopped_ended : (es : List Entry) → is_stopped es ≡ true → has_ended es ≡ true
stopped_ended = any_implies is_stop is_end stop_ends

pub committed_ended : (es : List Entry) → is_committed es ≡ true → has_ended es ≡ true
committed_ended = any_implies is_commit is_end commit_ends

-- after a commit only a report may come
pub len_fixed : (consecutive : Bool) (es : List Entry) (e : Entry) → Allows consecutive es e → is_committed es ≡ true → len_of (es ++ e ∷ []) ≡ len_of es
len_fixed consecutive es (Sized len) allowed committed = absurd (both_ways _ allowed.1 (committed_ended es committed))
len_fixed consecutive es (Landed off len) allowed committed = same_len es (Landed off len) refl
len_fixed consecutive es Stopped allowed committed = same_len es Stopped refl
len_fixed consecutive es Committed allowed committed = same_len es Committed refl
len_fixed consecutive es Reported allowed committed = same_len es Reported refl
