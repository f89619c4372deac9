-- A stop in a step that made one call at most is one crash, which kept what the homes tell.
use Rattle.std.proofs.Common.{◌≡◌, ℕ, zero, suc, ◌+◌, ◌-◌, ◌<◌, ◌≤◌, Bool, true, false, Option, Some, None, List, [], ◌∷◌, length, refl, sym, ap, subst, inl, inr, ◌∙◌, arith}
use Rattle.std.specs.Prelude.{◌==◌, nat_le, nat_lt, map, if◌then◌else◌}
use Rattle.std.proofs.lemmas.Bool.{and_from, cond-true, eq-eqb, le-leb, lt-ltb, ne_eqb}
use Rattle.copy_model.specs.Effect.{Crashes, Effect, IsAllowed, IsFirm, after}
use Rattle.copy_model.specs.Volume as volumes
use Rattle.copy_model.specs.Volume.{Doubt, File, Volume, crash, fail_commit, recovered, settled}
use Rattle.block_file.specs.Opened.{homes_by, left_home}
use Rattle.server_volume.specs.Calls.{Asked, Reads, Writes, Commits, call_of, left_by}
use Rattle.server_volume.specs.Moments.{AreTaken, IsServed, IsTaken, Made, stores_within, uses_of, within}
use Rattle.server_volume.specs.Store.{Store}
use Rattle.server_volume.specs.declared.used.CallAnswer.{CallAnswer}
use Rattle.server_volume.specs.declared.used.CallAnswer.TheVariants.{Done, DiskFailed, Refused}
use Rattle.server_volume.specs.declared.used.Used.{Used}
use Rattle.volume_stops.specs.Stops.{IsLeftBy, IsLeftOf, SparesRoot, StopsIn, crash_effect, in_doubt, is_file, kept_at, kept_by, kept_if, met_in_call, pending_in, pending_within, side_of, under_by}
use Rattle.volume_stops.specs.declared.kept.Kept.{Kept}
use Rattle.volume_stops.specs.declared.kept.Kept.TheVariants.{Old, New}
use Rattle.volume_stops.proofs.Along.{opened}

-- ---- what a home tells

other_home : (h : ℕ) → (h == 1 - h) ≡ false
other_home h = ne_eqb h (1 - h) (λ same. omega (arith, same))

kept_old : (h : ℕ) → kept_at (1 - h) h ≡ Old
kept_old h = ap (λ (b : Bool). if b then New else Old) (other_home h)

kept_new : (h : ℕ) → kept_at h h ≡ New
kept_new h = ap (λ (b : Bool). if b then New else Old) (eq-eqb h h refl)

file_is : (files file : ℕ) → 1 ≤ file → file < files → is_file files file ≡ true
file_is files file some there = and_from (nat_le 1 file) (nat_lt file files) (le-leb 1 file some) (lt-ltb file files there)

some_file : (file : ℕ) → (file ≡ 0 → ⊥) → 1 ≤ file
some_file zero other = absurd (other refl)
some_file (suc n) other = omega arith

side_told : (files : ℕ) (homes now : List ℕ) (d : Doubt) (side : volumes.Kept) → is_file files d.file ≡ true
    → homes_by now d.file ≡ left_home (homes_by homes) (Some d) side d.file
    → side_of (kept_by files now (in_doubt homes (Some d))) ≡ side
side_told files homes now d volumes.Old is at =
    let h = homes_by homes d.file in
    ap (λ (b : Bool). side_of (kept_if b (1 - h) (homes_by now d.file))) is ∙ ap (λ (n : ℕ). side_of (kept_at (1 - h) n)) at
    ∙ ap (λ (k : Kept). side_of k) (kept_old h)
side_told files homes now d volumes.New is at =
    let h = homes_by homes d.file in
    let turned : homes_by now d.file ≡ 1 - h = at ∙ cond-true (d.file == d.file) (1 - h) h (eq-eqb d.file d.file refl) in
    ap (λ (b : Bool). side_of (kept_if b (1 - h) (homes_by now d.file))) is ∙ ap (λ (n : ℕ). side_of (kept_at (1 - h) n)) turned
    ∙ ap (λ (k : Kept). side_of k) (kept_new (1 - h))

-- ---- a crash by its files alone

abbrev opened_with : Volume → List File → Volume
opened_with v files = record {
  files = map recovered files;
  capacity = v.capacity;
  boot = v.boot + 1;
  writes = 0;
  broken = false;
  doubt = None;
}

told_side : (files : ℕ) (homes now : List ℕ) (o : Option Doubt) (side : volumes.Kept) → ((d : Doubt) → o ≡ Some d → is_file files d.file ≡ true)
    → ((d : Doubt) → o ≡ Some d → homes_by now d.file ≡ left_home (homes_by homes) o side d.file)
    → (fs : List File) → settled fs o side ≡ settled fs o (side_of (kept_by files now (in_doubt homes o)))
told_side files homes now None side are at fs = refl
told_side files homes now (Some d) side are at fs =
    ap (λ (k : volumes.Kept). settled fs (Some d) k) (sym (side_told files homes now d side (are d refl) (at d refl)))

-- what is in doubt is a file of the volume that was opened
abbrev DoubtsFiles : Store → Store → Type 0
DoubtsFiles s t = (d : Doubt) → s.volume.doubt ≡ Some d → (1 ≤ d.file) × (d.file < length t.volume.files)

told_crash : (s t : Store) → IsLeftOf s t → DoubtsFiles s t
    → t.volume ≡ crash s.volume (side_of (kept_by (length t.volume.files) t.homes (pending_in s)))
told_crash s t of doubts =
    of.volume
    ∙ ap (λ (fs : List File). opened_with s.volume fs)
    (told_side (length t.volume.files) s.homes t.homes s.volume.doubt of.side
    (λ d is. file_is (length t.volume.files) d.file (doubts d is).0 (doubts d is).1)
    (λ d is. of.homes_are d.file (doubts d is).0 (doubts d is).1) s.volume.files)

-- ---- a commit under way: what was there before it is its old side

untouched_home : (homes : ℕ → ℕ) (o : Option Doubt) (side : volumes.Kept) (j : ℕ) → o ≡ None → left_home homes o side j ≡ homes j
untouched_home homes None side j none = refl
untouched_home homes (Some d) side j none = absurd (cc)

untouched_files : (o : Option Doubt) (side : volumes.Kept) (fs : List File) → o ≡ None → settled fs o side ≡ fs
untouched_files None side fs none = refl
untouched_files (Some d) side fs none = absurd (cc)

before_commit : (file : ℕ) (s t : Store) → IsLeftOf s t → s.volume.doubt ≡ None → 1 ≤ file → file < length t.volume.files
    → t.volume ≡ crash (fail_commit s.volume file) (side_of (kept_by (length t.volume.files) t.homes (Some (record { file = file; home = 1 - homes_by s.homes file }))))
before_commit file s t of none some there =
    let h = homes_by s.homes file in
    let now = homes_by t.homes file in
    let at : now ≡ h = of.homes_are file some there ∙ untouched_home (homes_by s.homes) s.volume.doubt of.side file none in
    let told : kept_if (is_file (length t.volume.files) file) (1 - h) now ≡ Old =
    ap (λ (b : Bool). kept_if b (1 - h) now) (file_is (length t.volume.files) file some there) ∙ ap (λ (n : ℕ). kept_at (1 - h) n) at ∙ kept_old h in
    of.volume ∙ ap (λ (fs : List File). opened_with s.volume fs) (untouched_files s.volume.doubt of.side s.volume.files none)
    ∙ ap (λ (k : Kept). crash (fail_commit s.volume file) (side_of k)) (sym told)

-- ---- one call

abbrev kept_in : Store → Store → Asked → CallAnswer → Kept
kept_in s t asked answer = kept_by (length t.volume.files) t.homes (met_in_call (pending_in s) (call_of asked s) answer)

abbrev IsOneCrash : Store → Store → Asked → CallAnswer → Type 0
IsOneCrash s t asked answer = t.volume ≡ after s.volume (Crashes (under_by (call_of asked s) answer) (side_of (kept_in s t asked answer)))

either : (s t : Store) → IsLeftBy (s ∷ s ∷ []) t → IsLeftOf s t
either s t (inl of) = of
either s t (inr (inl of)) = of
either s t (inr (inr none)) = absurd none

same_doubt : (d e : Doubt) → Some d ≡ Some e → d ≡ e
same_doubt d e is = cc

committing : (file : ℕ) (s t : Store) → IsServed s file → IsFirm s.volume → 1 ≤ file → length t.volume.files ≡ length s.volume.files
    → IsLeftBy (s ∷ record s { volume = fail_commit s.volume file } ∷ []) t
    → t.volume ≡ crash (fail_commit s.volume file) (side_of (kept_by (length t.volume.files) t.homes (Some (record { file = file; home = 1 - homes_by s.homes file }))))
committing file s t served firm some same (inl of) =
    before_commit file s t of (firm.certain served.whole) some (subst (λ (n : ℕ). file < n) (sym same) served.there)
committing file s t served firm some same (inr (inl of)) =
    told_crash (record s { volume = fail_commit s.volume file }) t of (λ d is. named d is)
  where
    named : (d : Doubt) → (fail_commit s.volume file).doubt ≡ Some d → (1 ≤ d.file) × (d.file < length t.volume.files)
    named d is =
        let doubted : Doubt = record { file = file; bytes = (volumes.file_at s.volume file).now; change = (volumes.file_at s.volume file).change } in
        let e : doubted ≡ d = same_doubt doubted d is in
        let at : file ≡ d.file = ap (λ (x : Doubt). x.file) e in
        (subst (λ (n : ℕ). 1 ≤ n) at some, subst (λ (n : ℕ). n < length t.volume.files) at (subst (λ (n : ℕ). file < n) (sym same) served.there))
committing file s t served firm some same (inr (inr none)) = absurd none

one_call : (asked : Asked) (answer : CallAnswer) (s t : Store) → IsTaken answer s asked → IsFirm s.volume → DoubtsFiles s t
    → ((file : ℕ) → under_by (call_of asked s) answer ≡ Some file → file ≡ 0 → ⊥) → length t.volume.files ≡ length s.volume.files
    → IsLeftBy (s ∷ within asked answer s ∷ []) t → IsOneCrash s t asked answer
one_call (Reads file off len) answer s t taken firm doubts spares same left = told_crash s t (either s t left) doubts
one_call (Writes file off bytes) answer s t taken firm doubts spares same left = told_crash s t (either s t left) doubts
one_call (Commits file) Done s t taken firm doubts spares same left = committing file s t taken firm (some_file file (spares file refl)) same left
one_call (Commits file) DiskFailed s t taken firm doubts spares same left = committing file s t taken firm (some_file file (spares file refl)) same left
one_call (Commits file) Refused s t taken firm doubts spares same left = told_crash s t (either s t left) doubts

one_allowed : (asked : Asked) (answer : CallAnswer) (s : Store) (kept : Kept) → IsTaken answer s asked
    → IsAllowed s.volume (Crashes (under_by (call_of asked s) answer) (side_of kept))
one_allowed (Reads file off len) answer s kept taken = tt
one_allowed (Writes file off bytes) answer s kept taken = tt
one_allowed (Commits file) Done s kept taken = (taken.whole, taken.there)
one_allowed (Commits file) DiskFailed s kept taken = (taken.whole, taken.there)
one_allowed (Commits file) Refused s kept taken = tt

-- ---- one at most

-- as many files as before
count_same : ((v : Volume) (e : Effect) → length (after v e).files ≡ length v.files) → (s t : Store) → IsLeftOf s t
    → length t.volume.files ≡ length s.volume.files
count_same lengths s t of = ap (λ (v : Volume). length v.files) of.volume ∙ lengths s.volume (Crashes None of.side)

count_within : ((v : Volume) (e : Effect) → length (after v e).files ≡ length v.files) → (asked : Asked) (answer : CallAnswer) (s t : Store)
    → IsLeftOf (within asked answer s) t → length t.volume.files ≡ length s.volume.files
count_within lengths (Reads file off len) answer s t of = count_same lengths s t of
count_within lengths (Writes file off bytes) answer s t of = count_same lengths s t of
count_within lengths (Commits file) Done s t of = count_same lengths (record s { volume = fail_commit s.volume file }) t of
count_within lengths (Commits file) DiskFailed s t of = count_same lengths (record s { volume = fail_commit s.volume file }) t of
count_within lengths (Commits file) Refused s t of = count_same lengths s t of

count_by : ((v : Volume) (e : Effect) → length (after v e).files ≡ length v.files) → (asked : Asked) (answer : CallAnswer) (s t : Store)
    → IsLeftBy (s ∷ within asked answer s ∷ []) t → length t.volume.files ≡ length s.volume.files
count_by lengths asked answer s t (inl of) = count_same lengths s t of
count_by lengths asked answer s t (inr (inl of)) = count_within lengths asked answer s t of
count_by lengths asked answer s t (inr (inr none)) = absurd none

doubts_there : (s t : Store) → IsFirm s.volume → ((d : Doubt) → s.volume.doubt ≡ Some d → d.file ≡ 0 → ⊥)
    → length t.volume.files ≡ length s.volume.files → DoubtsFiles s t
doubts_there s t firm spares same d is =
    (some_file d.file (spares d is), subst (λ (n : ℕ). d.file < n) (sym same) (firm.there d is))

abbrev use_of : Store → Made → Used
use_of s m = record { call = call_of m.asked s; answer = m.answer }

two_calls : (first second : Used) (rest : List Used) → length (first ∷ second ∷ rest) ≤ 1 → ⊥
two_calls first second rest few = omega (arith, few)

crash_by : ((v : Volume) (e : Effect) → length (after v e).files ≡ length v.files) → (s t : Store) (ms : List Made) → AreTaken s ms
    → IsLeftBy (s ∷ stores_within s ms) t → length (uses_of s ms) ≤ 1 → IsFirm s.volume → SparesRoot s (uses_of s ms)
    → t.volume ≡ after s.volume (crash_effect (kept_by (length t.volume.files) t.homes (pending_within (pending_in s) (uses_of s ms))) (uses_of s ms))
crash_by lengths s t [] taken (inl of) few firm spares = told_crash s t of (doubts_there s t firm spares.doubt (count_same lengths s t of))
crash_by lengths s t [] taken (inr none) few firm spares = absurd none
crash_by lengths s t (m ∷ []) taken left few firm spares =
    let same = count_by lengths m.asked m.answer s t left in
    one_call m.asked m.answer s t taken.0 firm (doubts_there s t firm spares.doubt same) spares.call same left
crash_by lengths s t (m ∷ n ∷ ms) taken left few firm spares =
    let next = left_by m.asked m.answer s in
    absurd (two_calls (use_of s m) (use_of next n) (uses_of (left_by n.asked n.answer next) ms) few)

pub crashes : ((v : Volume) (e : Effect) → length (after v e).files ≡ length v.files) → (s t : Store) (used : List Used) (kept : Kept)
    → StopsIn s used kept t → length used ≤ 1 → IsFirm s.volume → SparesRoot s used → t.volume ≡ after s.volume (crash_effect kept used)
crashes lengths s t used kept stops few firm spares =
    let noted = stops.noted in
    let by = crash_by lengths s t stops.calls stops.taken stops.left (subst (λ (us : List Used). length us ≤ 1) noted few) firm
    (subst (λ (us : List Used). SparesRoot s us) noted spares) in
    let told : kept_by (length t.volume.files) t.homes (pending_within (pending_in s) (uses_of s stops.calls)) ≡ kept =
    ap (λ (us : List Used). kept_by (length t.volume.files) t.homes (pending_within (pending_in s) us)) (sym noted) ∙ sym stops.kept_is in
    by ∙ ap (λ (k : Kept). after s.volume (crash_effect k (uses_of s stops.calls))) told
    ∙ ap (λ (us : List Used). after s.volume (crash_effect kept us)) (sym noted)

allowed_by : (s : Store) (ms : List Made) (kept : Kept) → AreTaken s ms → length (uses_of s ms) ≤ 1 → IsAllowed s.volume (crash_effect kept (uses_of s ms))
allowed_by s [] kept taken few = tt
allowed_by s (m ∷ []) kept taken few = one_allowed m.asked m.answer s kept taken.0
allowed_by s (m ∷ n ∷ ms) kept taken few =
    let next = left_by m.asked m.answer s in
    absurd (two_calls (use_of s m) (use_of next n) (uses_of (left_by n.asked n.answer next) ms) few)

pub allowed : (s t : Store) (used : List Used) (kept : Kept) → StopsIn s used kept t → length used ≤ 1 → IsAllowed s.volume (crash_effect kept used)
allowed s t used kept stops few =
    subst (λ (us : List Used). IsAllowed s.volume (crash_effect kept us)) (sym stops.noted)
    (allowed_by s stops.calls kept stops.taken (subst (λ (us : List Used). length us ≤ 1) stops.noted few))

-- ---- however many calls were made

pub boot : (s t : Store) (used : List Used) (kept : Kept) → StopsIn s used kept t → t.volume.boot ≡ s.volume.boot + 1
boot s t used kept stops =
    opened (t.volume.boot ≡ s.volume.boot + 1) s stops.calls t
    (λ u keeps of. ap (λ (v : Volume). v.boot) of.volume ∙ ap (λ (n : ℕ). n + 1) keeps.boot) stops.left

pub tag : (s t : Store) (used : List Used) (kept : Kept) → StopsIn s used kept t → t.tag ≡ s.tag
tag s t used kept stops = opened (t.tag ≡ s.tag) s stops.calls t (λ u keeps of. of.tag_is ∙ keeps.tag_is) stops.left

pub files : ((v : Volume) (e : Effect) → length (after v e).files ≡ length v.files) → (s t : Store) (used : List Used) (kept : Kept)
    → StopsIn s used kept t → length t.volume.files ≡ length s.volume.files
files lengths s t used kept stops =
    opened (length t.volume.files ≡ length s.volume.files) s stops.calls t (λ u keeps of. count_same lengths u t of ∙ keeps.files) stops.left
