-- Volumes stay fitting.
use Rattle.std.proofs.Common.{◌≡◌, ℕ, zero, suc, ◌+◌, ◌<◌, ◌≤◌, ◌^◌, Bool, true, false, List, [], ◌∷◌, length, map, replicate, Option, Some, None, refl, sym, ap, subst, ◌∙◌, eqb-true, arith}
use Rattle.std.specs.Prelude.{◌==◌, max, slice_index_or, slice_set}
use Rattle.std.proofs.Common.{get_or-set_other}
use Rattle.std.proofs.lemmas.Bool.{eqb-false}
use Rattle.copy_model.specs.Volume.{Doubt, File, Kept, New, Old, Volume, change_of, commit, committed, crash, fail_commit, fail_write, file_at, formatted, no_file, recovered, settled, with_bytes_at, write, written}
use Rattle.server_volume.specs.Calls as calls
use Rattle.server_volume.specs.Calls.{Asked, call_of, left_by}
use Rattle.server_volume.specs.Moments.{AreTaken, IsTaken, Made, Ran, after_calls, uses_of}
use Rattle.server_volume.specs.Store.{Seat, Store}
use Rattle.server_volume.specs.declared.used.CallAnswer.{CallAnswer}
use Rattle.server_volume.specs.declared.used.CallAnswer.TheVariants.{Done, DiskFailed, Refused}
use Rattle.server_volume.specs.declared.used.Used.{Used}
use Rattle.commit_laws.specs.Calling.{CameByCalls}
use Rattle.tell_laws.specs.Fitting.{DoubtFits, FileFits, IsFitting}
use Rattle.tell_laws.specs.Telling.{FitsWords}
use Rattle.tell_laws.specs.Volumes.{AreOffRoot, file_called}
use Rattle.tell_laws.proofs.Effects.{WritesOne, roomy}

-- ---- the laws of files that are needed

abbrev pub WrittenLength : Type 0
WrittenLength = (bytes : List ℕ) (off : ℕ) (piece : List ℕ) → length (with_bytes_at bytes off piece) ≡ max (length bytes) (off + length piece)

abbrev pub NotWritten : Type 0
NotWritten = (v : Volume) (file off : ℕ) (piece : List ℕ) (other : ℕ) → (other ≡ file → ⊥) → file_at (write v file off piece) other ≡ file_at v other

abbrev pub CommitsOne : Type 0
CommitsOne = (v : Volume) (file : ℕ) → file_at (commit v file) file ≡ committed (file_at v file)

abbrev pub NotCommitted : Type 0
NotCommitted = (v : Volume) (file other : ℕ) → (other ≡ file → ⊥) → file_at (commit v file) other ≡ file_at v other

-- a fact of one file, and of all others
by_file : (file other : ℕ) (P : Type 0) → (other ≡ file → P) → ((other ≡ file → ⊥) → P) → P
by_file file other P same apart = by (other == file) refl
  where
    by : (b : Bool) → (other == file) ≡ b → P
    by true e = same (eqb-true other file e)
    by false e = apart (eqb-false other file e)

-- ---- what is told of a fitting volume fits

pub fits_words : (v : Volume) → IsFitting v → FitsWords v
fits_words v f = record {
  sizes = λ file. omega (arith, (f.files file).size, f.capacity);
  changes = λ file. (f.files file).change;
  no_size = ap (λ (x : File). length x.now) f.root;
  no_change = ap (λ (x : File). x.change) f.root;
}

-- ---- a volume that was just formatted

no_file_fits : (capacity : ℕ) → FileFits capacity no_file
no_file_fits capacity = record { size = omega arith; safe_size = omega arith; change = omega arith; safe_change = omega arith }

unwritten : (n file : ℕ) → slice_index_or (replicate n no_file) file no_file ≡ no_file
unwritten zero file = refl
unwritten (suc n) zero = refl
unwritten (suc n) (suc file) = unwritten n file

pub formatted_fits : (files capacity : ℕ) → capacity < 2 ^ 64 → IsFitting (formatted files capacity)
formatted_fits files capacity small = record {
  capacity = small;
  boot = omega arith;
  writes = omega arith;
  files = λ file. subst (FileFits capacity) (sym (unwritten (files + 1) file)) (no_file_fits capacity);
  doubt = λ d there. absurd cc;
  root = unwritten (files + 1) 0;
}

-- ---- a call

longest : (now off len capacity : ℕ) → now ≤ capacity → off + len ≤ capacity → max now (off + len) ≤ capacity
longest now off len capacity first second = omega (arith, first, second)

numbered : (boot n : ℕ) → boot < 2 ^ 32 → n < 2 ^ 32 → change_of boot n < 2 ^ 64
numbered boot n first second = omega (arith, first, second)

next_writes : (n : ℕ) → n < 2 ^ 32 → (n ≡ 4294967295 → ⊥) → n + 1 < 2 ^ 32
next_writes n few other = omega (arith, few, other)

module _ (written_length : WrittenLength) (writes_one : WritesOne) (not_written : NotWritten) (commits_one : CommitsOne) (not_committed : NotCommitted) where
  written_fits : (capacity off change : ℕ) (piece : List ℕ) (f : File) → FileFits capacity f → off + length piece ≤ capacity → change < 2 ^ 64
      → FileFits capacity (written f off piece change)
  written_fits capacity off change piece f fits within small = record {
    size = omega (arith, written_length f.now off piece, longest (length f.now) off (length piece) capacity fits.size within);
    safe_size = fits.safe_size;
    change = small;
    safe_change = fits.safe_change;
  }

  write_fits : (v : Volume) (file off : ℕ) (bytes : List ℕ) → IsFitting v → file < length v.files → (file ≡ 0 → ⊥) → off + length bytes ≤ v.capacity
      → (v.writes ≡ 4294967295 → ⊥) → IsFitting (write v file off bytes)
  write_fits v file off [] f there off_root within fresh = f
  write_fits v file off (b ∷ bs) f there off_root within fresh = record {
    capacity = f.capacity;
    boot = f.boot;
    writes = next_writes v.writes f.writes fresh;
    files = λ other. by_file file other (FileFits v.capacity (file_at (write v file off (b ∷ bs)) other))
        (λ same. subst (λ (n : ℕ). FileFits v.capacity (file_at (write v file off (b ∷ bs)) n)) (sym same)
        (subst (FileFits v.capacity) (sym (writes_one v file off b bs there))
        (written_fits v.capacity off (change_of v.boot (v.writes + 1)) (b ∷ bs) (file_at v file) (f.files file) within
        (numbered v.boot (v.writes + 1) f.boot (next_writes v.writes f.writes fresh)))))
        (λ apart. subst (FileFits v.capacity) (sym (not_written v file off (b ∷ bs) other apart)) (f.files other));
    doubt = f.doubt;
    root = not_written v file off (b ∷ bs) 0 (λ e. off_root (sym e)) ∙ f.root;
  }

  committed_fits : (capacity : ℕ) (f : File) → FileFits capacity f → FileFits capacity (committed f)
  committed_fits capacity f fits = record { size = fits.size; safe_size = fits.size; change = fits.change; safe_change = fits.change }

  commit_fits : (v : Volume) (file : ℕ) → IsFitting v → (file ≡ 0 → ⊥) → IsFitting (commit v file)
  commit_fits v file f off_root = record {
    capacity = f.capacity;
    boot = f.boot;
    writes = f.writes;
    files = λ other. by_file file other (FileFits v.capacity (file_at (commit v file) other))
        (λ same. subst (λ (n : ℕ). FileFits v.capacity (file_at (commit v file) n)) (sym same)
        (subst (FileFits v.capacity) (sym (commits_one v file)) (committed_fits v.capacity (file_at v file) (f.files file))))
        (λ apart. subst (FileFits v.capacity) (sym (not_committed v file other apart)) (f.files other));
    doubt = f.doubt;
    root = not_committed v file 0 (λ e. off_root (sym e)) ∙ f.root;
  }

  fail_write_fits : (v : Volume) → IsFitting v → IsFitting (fail_write v)
  fail_write_fits v f =
      record { capacity = f.capacity; boot = f.boot; writes = f.writes; files = f.files; doubt = f.doubt; root = f.root }

  pub fail_commit_fits : (v : Volume) (file : ℕ) → (file ≡ 0 → ⊥) → IsFitting v → IsFitting (fail_commit v file)
  fail_commit_fits v file off_root f = record {
    capacity = f.capacity;
    boot = f.boot;
    writes = f.writes;
    files = f.files;
    doubt = λ d there.
        let same : record { file = file; bytes = (file_at v file).now; change = (file_at v file).change } ≡ d = cc in
        subst (DoubtFits v.capacity) same (record { size = (f.files file).size; change = (f.files file).change; off_root = off_root });
    root = f.root;
  }

  call_fits : (asked : Asked) (answer : CallAnswer) (s : Store) → IsTaken answer s asked → (file_called (call_of asked s) ≡ 0 → ⊥) → IsFitting s.volume
      → IsFitting (left_by asked answer s).volume
  call_fits asked Refused s taken off_root f = f
  call_fits (calls.Reads file off len) Done s taken off_root f = f
  call_fits (calls.Reads file off len) DiskFailed s taken off_root f = f
  call_fits (calls.Writes file off bytes) Done s taken off_root f =
      let v = s.volume in
      let room = roomy v.broken v.writes v.capacity off (length bytes) taken.1 in
      write_fits v file off bytes f taken.0.there off_root room.within room.numbered
  call_fits (calls.Writes file off bytes) DiskFailed s taken off_root f = fail_write_fits s.volume f
  call_fits (calls.Commits file) Done s taken off_root f = commit_fits s.volume file f off_root
  call_fits (calls.Commits file) DiskFailed s taken off_root f = fail_commit_fits s.volume file off_root f

  calls_fit : (s : Store) (ms : List Made) → AreTaken s ms → AreOffRoot (uses_of s ms) → IsFitting s.volume → IsFitting (after_calls s ms).volume
  calls_fit s [] taken off_root f = f
  calls_fit s (m ∷ ms) taken off_root f =
      calls_fit (left_by m.asked m.answer s) ms taken.1 off_root.1 (call_fits m.asked m.answer s taken.0 off_root.0 f)

  pub ran_fits : (old new : Seat) (used : List Used) → Ran old new [] used → AreOffRoot used → IsFitting old.store.volume → IsFitting new.store.volume
  ran_fits old new used ran off_root f =
      subst (λ (s : Store). IsFitting s.volume) (sym ran.store) (calls_fit old.store ran.calls ran.taken (subst AreOffRoot ran.noted off_root) f)

  pub came_fits : (old new : Store) (used : List Used) → CameByCalls old new [] used → AreOffRoot used → IsFitting old.volume → IsFitting new.volume
  came_fits old new used came off_root f =
      subst (λ (s : Store). IsFitting s.volume) (sym came.store) (calls_fit old came.calls came.taken (subst AreOffRoot came.noted off_root) f)

-- ---- a crash

at_recovered : (fs : List File) (file : ℕ) → slice_index_or (map recovered fs) file no_file ≡ recovered (slice_index_or fs file no_file)
at_recovered [] file = refl
at_recovered (f ∷ fs) zero = refl
at_recovered (f ∷ fs) (suc file) = at_recovered fs file

set_holds : (P : File → Type 0) (fs : List File) (at other : ℕ) (x : File) → P x → P (slice_index_or fs other no_file) → P (slice_index_or (slice_set fs at x) other no_file)
set_holds P [] at other x new old = old
set_holds P (f ∷ fs) zero zero x new old = new
set_holds P (f ∷ fs) zero (suc other) x new old = old
set_holds P (f ∷ fs) (suc at) zero x new old = old
set_holds P (f ∷ fs) (suc at) (suc other) x new old = set_holds P fs at other x new old

recovered_fits : (capacity : ℕ) (f : File) → FileFits capacity f → FileFits capacity (recovered f)
recovered_fits capacity f fits = record { size = fits.safe_size; safe_size = fits.safe_size; change = fits.safe_change; safe_change = fits.safe_change }

module _ (v : Volume) (f : IsFitting v) where
  settled_fits : (doubt : Option Doubt) (kept : Kept) → v.doubt ≡ doubt → (file : ℕ) → FileFits v.capacity (slice_index_or (settled v.files doubt kept) file no_file)
  settled_fits None kept is file = f.files file
  settled_fits (Some d) Old is file = f.files file
  settled_fits (Some d) New is file =
      let fits = f.doubt d is in
      let x = record (slice_index_or v.files d.file no_file) { safe = d.bytes; safe_change = d.change } in
      set_holds (FileFits v.capacity) v.files d.file file x
      (record { size = (f.files d.file).size; safe_size = fits.size; change = (f.files d.file).change; safe_change = fits.change }) (f.files file)

  settled_root : (doubt : Option Doubt) (kept : Kept) → v.doubt ≡ doubt → slice_index_or (settled v.files doubt kept) 0 no_file ≡ no_file
  settled_root None kept is = f.root
  settled_root (Some d) Old is = f.root
  settled_root (Some d) New is =
      get_or-set_other v.files d.file 0 (record (slice_index_or v.files d.file no_file) { safe = d.bytes; safe_change = d.change }) no_file
      (λ e. (f.doubt d is).off_root (sym e))
      ∙ f.root

  pub crash_fits : (kept : Kept) → v.boot + 1 < 2 ^ 32 → IsFitting (crash v kept)
  crash_fits kept next = record {
    capacity = f.capacity;
    boot = next;
    writes = omega arith;
    files = λ file. subst (FileFits v.capacity) (sym (at_recovered (settled v.files v.doubt kept) file))
        (recovered_fits v.capacity (slice_index_or (settled v.files v.doubt kept) file no_file) (settled_fits v.doubt kept refl file));
    doubt = λ d there. absurd cc;
    root = at_recovered (settled v.files v.doubt kept) 0 ∙ ap recovered (settled_root v.doubt kept refl);
  }

-- ---- write numbers alone

left_few : (asked : Asked) (answer : CallAnswer) (s : Store) → s.volume.writes < 2 ^ 32 → IsTaken answer s asked → (left_by asked answer s).volume.writes < 2 ^ 32
left_few asked Refused s few taken = few
left_few (calls.Reads file off len) Done s few taken = few
left_few (calls.Reads file off len) DiskFailed s few taken = few
left_few (calls.Writes file off []) Done s few taken = few
left_few (calls.Writes file off (b ∷ bs)) Done s few taken =
    let v = s.volume in
    let room = roomy v.broken v.writes v.capacity off (length (b ∷ bs)) taken.1 in
    next_writes v.writes few room.numbered
left_few (calls.Writes file off bytes) DiskFailed s few taken = few
left_few (calls.Commits file) Done s few taken = few
left_few (calls.Commits file) DiskFailed s few taken = few

calls_few : (s : Store) (ms : List Made) → AreTaken s ms → s.volume.writes < 2 ^ 32 → (after_calls s ms).volume.writes < 2 ^ 32
calls_few s [] taken few = few
calls_few s (m ∷ ms) taken few = calls_few (left_by m.asked m.answer s) ms taken.1 (left_few m.asked m.answer s few taken.0)

pub ran_few : (old new : Seat) (used : List Used) → Ran old new [] used → old.store.volume.writes < 2 ^ 32 → new.store.volume.writes < 2 ^ 32
ran_few old new used ran few = subst (λ (s : Store). s.volume.writes < 2 ^ 32) (sym ran.store) (calls_few old.store ran.calls ran.taken few)

pub came_few : (old new : Store) (used : List Used) → CameByCalls old new [] used → old.volume.writes < 2 ^ 32 → new.volume.writes < 2 ^ 32
came_few old new used came few = subst (λ (s : Store). s.volume.writes < 2 ^ 32) (sym came.store) (calls_few old came.calls came.taken few)

-- ---- the opening's number

left_opening : (asked : Asked) (answer : CallAnswer) (s : Store) → (left_by asked answer s).volume.boot ≡ s.volume.boot
left_opening asked Refused s = refl
left_opening (calls.Reads file off len) Done s = refl
left_opening (calls.Reads file off len) DiskFailed s = refl
left_opening (calls.Writes file off []) Done s = refl
left_opening (calls.Writes file off (b ∷ bs)) Done s = refl
left_opening (calls.Writes file off bytes) DiskFailed s = refl
left_opening (calls.Commits file) Done s = refl
left_opening (calls.Commits file) DiskFailed s = refl

calls_opening : (s : Store) (ms : List Made) → (after_calls s ms).volume.boot ≡ s.volume.boot
calls_opening s [] = refl
calls_opening s (m ∷ ms) = calls_opening (left_by m.asked m.answer s) ms ∙ left_opening m.asked m.answer s

pub came_opening : (old new : Store) (used : List Used) → CameByCalls old new [] used → new.volume.boot ≡ old.volume.boot
came_opening old new used came = ap (λ (s : Store). s.volume.boot) came.store ∙ calls_opening old came.calls
