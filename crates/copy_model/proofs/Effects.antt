-- What a step that is allowed leaves of the bytes of a volume.
use Rattle.std.proofs.Common.{◌≡◌, inl, inr, ⊎_elim, ℕ, ◌+◌, ◌-◌, ◌<◌, ◌≤◌, false, Option, None, Some, List, [], ◌∷◌, length, replicate, refl, sym, ◌∙◌, ap, subst, arith}
use Rattle.std.proofs.lemmas.Bool.{cases_eq, cases_lt}
use Rattle.std.proofs.lemmas.List.{length-set, length-map, length-replicate, get_or-replicate, get_or_past}
use Rattle.copy_model.specs.Volume.{File, Doubt, Volume, Kept, Old, New, no_file, formatted, file_at, byte_at, with_bytes_at, write, commit, fail_commit, settled, recovered, crash}
use Rattle.copy_model.specs.Moment.{seen_dest, doubted}
use Rattle.copy_model.specs.Promise.{Shows, MayLeave, IsAlike}
use Rattle.copy_model.specs.Effect.{Effect, Rests, Writes, Commits, WriteFails, CommitFails, Crashes, committing, after, IsReady, IsAllowed, IsCrashOf, WritesAt, IsWriting, IsFirm}
use Rattle.copy_model.proofs.Bytes.{byte_at-with_bytes_at_before, byte_at-with_bytes_at_within, byte_at-with_bytes_at_behind, file_at-write, file_at-write_other, file_at-commit, file_at-commit_other, file_at-crash}
use Rattle.copy_model.proofs.Leavings.{left_of, left_may_be, doubted-same, doubted-other, left_new, left_other}

-- a byte of the piece that is written, and one that isn't
within : (bytes : List ℕ) (off : ℕ) (piece : List ℕ) (place : ℕ) → off ≤ place → place < off + length piece
    → byte_at (with_bytes_at bytes off piece) place ≡ byte_at piece (place - off)
within bytes off piece place from below =
    let there : off + (place - off) ≡ place = omega arith in
    subst (λ p. byte_at (with_bytes_at bytes off piece) p ≡ byte_at piece (place - off)) there (byte_at-with_bytes_at_within bytes off piece (place - off) (omega arith))

outside : (bytes : List ℕ) (off : ℕ) (piece : List ℕ) (place : ℕ) → (off ≤ place → place < off + length piece → ⊥)
    → byte_at (with_bytes_at bytes off piece) place ≡ byte_at bytes place
outside bytes off piece place out =
    ⊎_elim
    (λ (before : place < off). byte_at-with_bytes_at_before bytes off piece place before)
    (λ (from : off ≤ place). ⊎_elim
    (λ (below : place < off + length piece). absurd (out from below))
    (λ (behind : off + length piece ≤ place). byte_at-with_bytes_at_behind bytes off piece place behind)
    (cases_lt place (off + length piece)))
    (cases_lt place off)

now_written : (v : Volume) (file off : ℕ) (bytes : List ℕ) (place : ℕ) → file < length v.files → off ≤ place → place < off + length bytes
    → byte_at (file_at (write v file off bytes) file).now place ≡ byte_at bytes (place - off)
now_written v file off [] place there from below = absurd (omega arith)
now_written v file off (b ∷ bs) place there from below =
    ap (λ (f : File). byte_at f.now place) (file_at-write v file off b bs there) ∙ within (file_at v file).now off (b ∷ bs) place from below

now_elsewhere : (v : Volume) (file off : ℕ) (bytes : List ℕ) (other place : ℕ) → file < length v.files
    → ((file ≡ other) × (off ≤ place) × (place < off + length bytes) → ⊥)
    → byte_at (file_at (write v file off bytes) other).now place ≡ byte_at (file_at v other).now place
now_elsewhere v file off [] other place there out = refl
now_elsewhere v file off (b ∷ bs) other place there out =
    ⊎_elim
    (λ (same : file ≡ other).
    subst
    (λ i. byte_at (file_at (write v file off (b ∷ bs)) i).now place ≡ byte_at (file_at v i).now place)
    same
    (ap (λ (f : File). byte_at f.now place) (file_at-write v file off b bs there) ∙ outside (file_at v file).now off (b ∷ bs) place (λ from below. out (same, from, below))))
    (λ (apart : file ≡ other → ⊥). ap (λ (f : File). byte_at f.now place) (file_at-write_other v file off (b ∷ bs) other (λ e. apart (sym e))))
    (cases_eq file other)

safe_written : (v : Volume) (file off : ℕ) (bytes : List ℕ) (other place : ℕ) → file < length v.files
    → byte_at (file_at (write v file off bytes) other).safe place ≡ byte_at (file_at v other).safe place
safe_written v file off [] other place there = refl
safe_written v file off (b ∷ bs) other place there =
    ⊎_elim
    (λ (same : file ≡ other).
    subst
    (λ i. byte_at (file_at (write v file off (b ∷ bs)) i).safe place ≡ byte_at (file_at v i).safe place)
    same
    (ap (λ (f : File). byte_at f.safe place) (file_at-write v file off b bs there)))
    (λ (apart : file ≡ other → ⊥). ap (λ (f : File). byte_at f.safe place) (file_at-write_other v file off (b ∷ bs) other (λ e. apart (sym e))))
    (cases_eq file other)

broken_written : (v : Volume) (file off : ℕ) (bytes : List ℕ) → (write v file off bytes).broken ≡ v.broken
broken_written v file off [] = refl
broken_written v file off (b ∷ bs) = refl

doubt_written : (v : Volume) (file off : ℕ) (bytes : List ℕ) → (write v file off bytes).doubt ≡ v.doubt
doubt_written v file off [] = refl
doubt_written v file off (b ∷ bs) = refl

length_written : (v : Volume) (file off : ℕ) (bytes : List ℕ) → length (write v file off bytes).files ≡ length v.files
length_written v file off [] = refl
length_written v file off (b ∷ bs) = length-set v.files file _

length_settled : (files : List File) (doubt : Option Doubt) (kept : Kept) → length (settled files doubt kept) ≡ length files
length_settled files None kept = refl
length_settled files (Some d) Old = refl
length_settled files (Some d) New = length-set files d.file _

committing_files : (v : Volume) (under : Option ℕ) → (committing v under).files ≡ v.files
committing_files v None = refl
committing_files v (Some file) = refl

pub same_files : (v : Volume) (e : Effect) → length (after v e).files ≡ length v.files
same_files v Rests = refl
same_files v (Writes file off bytes) = length_written v file off bytes
same_files v (Commits file) = length-set v.files file _
same_files v WriteFails = refl
same_files v (CommitFails file) = refl
same_files v (Crashes under kept) =
    let c = committing v under in
    length-map (settled c.files c.doubt kept) recovered ∙ length_settled c.files c.doubt kept ∙ ap length (committing_files v under)

pub firm_formatted : (files capacity : ℕ) → IsFirm (formatted files capacity)
firm_formatted files capacity = record { certain = λ whole. refl; there = λ d doubt. absurd (cc) }

pub firm_after : (v : Volume) (e : Effect) → IsFirm v → ((at : ℕ) → e ≡ CommitFails at → at < length v.files) → IsFirm (after v e)
firm_after v Rests firm at_file = firm
firm_after v (Writes file off bytes) firm at_file =
    record {
      certain = λ whole. doubt_written v file off bytes ∙ firm.certain (sym (broken_written v file off bytes) ∙ whole);
      there = λ d doubt. let below = firm.there d (sym (doubt_written v file off bytes) ∙ doubt) in let same = length_written v file off bytes in omega arith;
    }
firm_after v (Commits file) firm at_file =
    record {
      certain = firm.certain;
      there = λ d doubt. let below = firm.there d doubt in let same = same_files v (Commits file) in omega arith;
    }
firm_after v WriteFails firm at_file = record { certain = λ whole. absurd (cc); there = firm.there }
firm_after v (CommitFails file) firm at_file =
    record {
      certain = λ whole. absurd (cc);
      there = λ d doubt.
          let own : Some (record { file = file; bytes = (file_at v file).now; change = (file_at v file).change }) ≡ Some d = doubt in
          let same : file ≡ d.file = ap file_of own in
          let below = at_file file refl in
          omega arith;
    }
  where
    file_of : Option Doubt → ℕ
    file_of None = 0
    file_of (Some d) = d.file
firm_after v (Crashes under kept) firm at_file = record { certain = λ whole. refl; there = λ d doubt. absurd (cc) }

fails_there : (v : Volume) (at : ℕ) → at < length v.files → (other : ℕ) → CommitFails at ≡ CommitFails other → other < length v.files
fails_there v at there other same =
    subst (λ n. n < length v.files) (ap file_in same) there
  where
    file_in : Effect → ℕ
    file_in Rests = 0
    file_in (Writes file off bytes) = 0
    file_in (Commits file) = 0
    file_in WriteFails = 0
    file_in (CommitFails file) = file
    file_in (Crashes under kept) = 0

-- a volume with as many files as one that may do this
pub firm_beside : (v b : Volume) (e : Effect) → IsFirm b → length v.files ≡ length b.files → IsAllowed v e → IsFirm (after b e)
firm_beside v b e firm same allowed =
    firm_after b e firm (λ at is. let there = (subst (IsAllowed v) is allowed).1 in omega arith)

-- commits
now_committed : (v : Volume) (file other place : ℕ) → byte_at (file_at (commit v file) other).now place ≡ byte_at (file_at v other).now place
now_committed v file other place =
    ⊎_elim
    (λ (same : file ≡ other). subst (λ i. byte_at (file_at (commit v file) i).now place ≡ byte_at (file_at v i).now place) same (ap (λ (f : File). byte_at f.now place) (file_at-commit v file)))
    (λ (apart : file ≡ other → ⊥). ap (λ (f : File). byte_at f.now place) (file_at-commit_other v file other (λ e. apart (sym e))))
    (cases_eq file other)

safe_committed : (v : Volume) (file place : ℕ) → byte_at (file_at (commit v file) file).safe place ≡ byte_at (file_at v file).now place
safe_committed v file place = ap (λ (f : File). byte_at f.safe place) (file_at-commit v file)

safe_other : (v : Volume) (file other place : ℕ) → (file ≡ other → ⊥) → byte_at (file_at (commit v file) other).safe place ≡ byte_at (file_at v other).safe place
safe_other v file other place apart = ap (λ (f : File). byte_at f.safe place) (file_at-commit_other v file other (λ e. apart (sym e)))

committed_shown : (v : Volume) (file other place x : ℕ) → v.broken ≡ false → Shows (seen_dest (commit v file)) other place x → Shows (seen_dest v) other place x
committed_shown v file other place x readable (inl now) = inl (readable, sym (now_committed v file other place) ∙ now.1)
committed_shown v file other place x readable (inr (inl safe)) =
    ⊎_elim
    (λ (same : file ≡ other).
    inl (readable, subst (λ i. byte_at (file_at (commit v file) i).safe place ≡ x → byte_at (file_at v i).now place ≡ x) same (λ s. sym (safe_committed v file place) ∙ s) safe))
    (λ (apart : file ≡ other → ⊥). inr (inl (sym (safe_other v file other place apart) ∙ safe)))
    (cases_eq file other)
committed_shown v file other place x readable (inr (inr doubt)) = inr (inr doubt)

pub committed_settles : (v : Volume) (file place x : ℕ) → IsFirm v → IsReady v file
    → Shows (seen_dest (after v (Commits file))) file place x → x ≡ byte_at (file_at v file).now place
committed_settles v file place x firm ready (inl now) = sym now.1 ∙ now_committed v file file place
committed_settles v file place x firm ready (inr (inl safe)) = sym safe ∙ safe_committed v file place
committed_settles v file place x firm ready (inr (inr doubt)) =
    let never : doubted None file place ≡ Some x = subst (λ o. doubted o file place ≡ Some x) (firm.certain ready.0) doubt in
    absurd (cc)

-- commits that fail, or are under way
doubt_own : (v : Volume) (file other place : ℕ) → file ≡ other → doubted (fail_commit v file).doubt other place ≡ Some (byte_at (file_at v file).now place)
doubt_own v file other place same = doubted-same (record { file = file; bytes = (file_at v file).now; change = (file_at v file).change }) other place same

doubt_none : (v : Volume) (file other place : ℕ) → (file ≡ other → ⊥) → doubted (fail_commit v file).doubt other place ≡ None
doubt_none v file other place apart = doubted-other (record { file = file; bytes = (file_at v file).now; change = (file_at v file).change }) other place apart

left_shown : (v : Volume) (file other place x : ℕ) → v.broken ≡ false → MayLeave (seen_dest (fail_commit v file)) other place x → Shows (seen_dest v) other place x
left_shown v file other place x readable (inl safe) = inr (inl safe)
left_shown v file other place x readable (inr doubt) =
    ⊎_elim
    (λ (same : file ≡ other).
    let own = doubt_own v file other place same in
    let now : byte_at (file_at v file).now place ≡ x = cc in
    inl (readable, subst (λ i. byte_at (file_at v i).now place ≡ x) same now))
    (λ (apart : file ≡ other → ⊥). absurd (let none = doubt_none v file other place apart in cc))
    (cases_eq file other)

-- crashes
abbrev left : Kept → Option ℕ → ℕ → ℕ
left Old doubt safe = safe
left New None safe = safe
left New (Some x) safe = x

left_is : (files : List File) (doubt : Option Doubt) (kept : Kept) (file place : ℕ) → ((d : Doubt) → doubt ≡ Some d → d.file < length files)
    → left_of (settled files doubt kept) file place ≡ left kept (doubted doubt file place) (left_of files file place)
left_is files None Old file place there = refl
left_is files None New file place there = refl
left_is files (Some d) Old file place there = refl
left_is files (Some d) New file place there =
    ⊎_elim
    (λ (same : d.file ≡ file).
    left_new files d file place same (there d refl) ∙ ap (λ o. left New o (left_of files file place)) (sym (doubted-same d file place same)))
    (λ (apart : d.file ≡ file → ⊥).
    left_other files d file place apart ∙ ap (λ o. left New o (left_of files file place)) (sym (doubted-other d file place apart)))
    (cases_eq d.file file)

now_crashed : (v : Volume) (kept : Kept) (file place : ℕ) → IsFirm v
    → byte_at (file_at (crash v kept) file).now place ≡ left kept (doubted v.doubt file place) (byte_at (file_at v file).safe place)
now_crashed v kept file place firm =
    ap (λ (f : File). byte_at f.now place) (file_at-crash v kept file) ∙ left_is v.files v.doubt kept file place firm.there

safe_crashed : (v : Volume) (kept : Kept) (file place : ℕ) → byte_at (file_at (crash v kept) file).safe place ≡ byte_at (file_at (crash v kept) file).now place
safe_crashed v kept file place =
    ap (λ (f : File). byte_at f.safe place) (file_at-crash v kept file) ∙ sym (ap (λ (f : File). byte_at f.now place) (file_at-crash v kept file))

crash_shown : (v : Volume) (kept : Kept) (file place x : ℕ) → Shows (seen_dest (crash v kept)) file place x → MayLeave (seen_dest v) file place x
crash_shown v kept file place x (inl now) = left_may_be v kept file place x now.1
crash_shown v kept file place x (inr (inl safe)) = left_may_be v kept file place x (sym (safe_crashed v kept file place) ∙ safe)
crash_shown v kept file place x (inr (inr doubt)) = absurd (cc)

crash_alike : (v b : Volume) (kept : Kept) (file place : ℕ) → IsFirm v → IsFirm b → (byte_at (file_at v file).safe place ≡ byte_at (file_at b file).safe place)
    → (doubted v.doubt file place ≡ doubted b.doubt file place) → IsAlike (seen_dest (crash v kept)) (seen_dest (crash b kept)) file place
crash_alike v b kept file place firm firm' safe doubt =
    record {
      broken = λ whole. refl;
      now = λ whole. now;
      safe = safe_crashed v kept file place ∙ now ∙ sym (safe_crashed b kept file place);
      doubt = refl;
    }
  where
    now : byte_at (file_at (crash v kept) file).now place ≡ byte_at (file_at (crash b kept) file).now place
    now =
        now_crashed v kept file place firm ∙ ap (λ o. left kept o (byte_at (file_at v file).safe place)) doubt
        ∙ ap (λ s. left kept (doubted b.doubt file place) s) safe ∙ sym (now_crashed b kept file place firm')

pub quiet_after : (v : Volume) (e : Effect) (file place : ℕ) → IsAllowed v e → (WritesAt e file place → ⊥) → (IsCrashOf e → ⊥)
    → (after v e).broken ≡ false → (v.broken ≡ false) × (byte_at (file_at (after v e) file).now place ≡ byte_at (file_at v file).now place)
quiet_after v Rests file place allowed out no_crash whole = (whole, refl)
quiet_after v (Writes at off bytes) file place allowed out no_crash whole = (allowed.0.0, now_elsewhere v at off bytes file place allowed.0.1 out)
quiet_after v (Commits at) file place allowed out no_crash whole = (whole, now_committed v at file place)
quiet_after v WriteFails file place allowed out no_crash whole = absurd (cc)
quiet_after v (CommitFails at) file place allowed out no_crash whole = absurd (cc)
quiet_after v (Crashes under kept) file place allowed out no_crash whole = absurd (no_crash tt)

pub shown_after : (v : Volume) (e : Effect) (file place x : ℕ) → IsAllowed v e → (WritesAt e file place → ⊥)
    → Shows (seen_dest (after v e)) file place x → Shows (seen_dest v) file place x
shown_after v Rests file place x allowed out shows = shows
shown_after v (Writes at off bytes) file place x allowed out (inl now) =
    inl (allowed.0.0, sym (now_elsewhere v at off bytes file place allowed.0.1 out) ∙ now.1)
shown_after v (Writes at off bytes) file place x allowed out (inr (inl safe)) =
    inr (inl (sym (safe_written v at off bytes file place allowed.0.1) ∙ safe))
shown_after v (Writes at off bytes) file place x allowed out (inr (inr doubt)) =
    inr (inr (subst (λ o. doubted o file place ≡ Some x) (doubt_written v at off bytes) doubt))
shown_after v (Commits at) file place x allowed out shows = committed_shown v at file place x allowed.0 shows
shown_after v WriteFails file place x allowed out (inl now) = absurd (let whole = now.0 in cc)
shown_after v WriteFails file place x allowed out (inr leaves) = inr leaves
shown_after v (CommitFails at) file place x allowed out (inl now) = absurd (let whole = now.0 in cc)
shown_after v (CommitFails at) file place x allowed out (inr leaves) = left_shown v at file place x allowed.0 leaves
shown_after v (Crashes None kept) file place x allowed out shows = inr (crash_shown v kept file place x shows)
shown_after v (Crashes (Some at) kept) file place x allowed out shows =
    left_shown v at file place x allowed.0 (crash_shown (fail_commit v at) kept file place x shows)

pub written_after : (v : Volume) (e : Effect) (file off : ℕ) (bytes : List ℕ) (place : ℕ) → e ≡ Writes file off bytes → IsAllowed v e
    → WritesAt e file place → byte_at (file_at (after v e) file).now place ≡ byte_at bytes (place - off)
written_after v e file off bytes place is allowed writes =
    subst
    (λ (d : Effect). IsAllowed v d → WritesAt d file place → byte_at (file_at (after v d) file).now place ≡ byte_at bytes (place - off))
    (sym is)
    (λ ok at. now_written v file off bytes place ok.0.1 at.1 at.2)
    allowed
    writes

pub zeros_formatted : (files capacity file place x : ℕ) → Shows (seen_dest (formatted files capacity)) file place x → x ≡ 0
zeros_formatted files capacity file place x shows =
    shown shows
  where
    empty : file_at (formatted files capacity) file ≡ no_file
    empty =
        ⊎_elim
        (λ (there : file < files + 1). get_or-replicate (files + 1) file no_file no_file there)
        (λ (missing : files + 1 ≤ file). get_or_past (replicate (files + 1) no_file) file no_file (omega (arith, length-replicate (files + 1) no_file)))
        (cases_lt file (files + 1))

    shown : Shows (seen_dest (formatted files capacity)) file place x → x ≡ 0
    shown (inl now) = sym now.1 ∙ ap (λ (f : File). byte_at f.now place) empty
    shown (inr (inl safe)) = sym safe ∙ ap (λ (f : File). byte_at f.safe place) empty
    shown (inr (inr doubt)) = absurd (cc)

-- two volumes that take the same step
alike_written : (v b : Volume) (at off : ℕ) (bytes : List ℕ) (file place : ℕ) → at < length v.files → at < length b.files
    → IsAlike (seen_dest v) (seen_dest b) file place → IsAlike (seen_dest (write v at off bytes)) (seen_dest (write b at off bytes)) file place
alike_written v b at off bytes file place there there' alike =
    record {
      broken = λ whole. broken_written b at off bytes ∙ alike.broken (sym (broken_written v at off bytes) ∙ whole);
      now = λ whole. now (sym (broken_written v at off bytes) ∙ whole);
      safe = safe_written v at off bytes file place there ∙ alike.safe ∙ sym (safe_written b at off bytes file place there');
      doubt = ap (λ o. doubted o file place) (doubt_written v at off bytes) ∙ alike.doubt ∙ sym (ap (λ o. doubted o file place) (doubt_written b at off bytes));
    }
  where
    elsewhere : v.broken ≡ false → ((at ≡ file) × (off ≤ place) × (place < off + length bytes) → ⊥)
        → byte_at (file_at (write v at off bytes) file).now place ≡ byte_at (file_at (write b at off bytes) file).now place
    elsewhere whole out =
        now_elsewhere v at off bytes file place there out ∙ alike.now whole ∙ sym (now_elsewhere b at off bytes file place there' out)

    here : at ≡ file → off ≤ place → place < off + length bytes
        → byte_at (file_at (write v at off bytes) file).now place ≡ byte_at (file_at (write b at off bytes) file).now place
    here same from below =
        subst
        (λ i. byte_at (file_at (write v at off bytes) i).now place ≡ byte_at (file_at (write b at off bytes) i).now place)
        same
        (now_written v at off bytes place there from below ∙ sym (now_written b at off bytes place there' from below))

    now : v.broken ≡ false → byte_at (file_at (write v at off bytes) file).now place ≡ byte_at (file_at (write b at off bytes) file).now place
    now whole =
        ⊎_elim
        (λ (same : at ≡ file). ⊎_elim
        (λ (before : place < off). elsewhere whole (λ w. absurd (let from = w.1 in omega arith)))
        (λ (from : off ≤ place). ⊎_elim
        (λ (below : place < off + length bytes). here same from below)
        (λ (behind : off + length bytes ≤ place). elsewhere whole (λ w. absurd (let low = w.2 in omega arith)))
        (cases_lt place (off + length bytes)))
        (cases_lt place off))
        (λ (apart : at ≡ file → ⊥). elsewhere whole (λ w. apart w.0))
        (cases_eq at file)

alike_committed : (v b : Volume) (at file place : ℕ) → v.broken ≡ false → IsAlike (seen_dest v) (seen_dest b) file place
    → IsAlike (seen_dest (commit v at)) (seen_dest (commit b at)) file place
alike_committed v b at file place readable alike =
    record {
      broken = alike.broken;
      now = λ whole. now_committed v at file place ∙ alike.now whole ∙ sym (now_committed b at file place);
      safe =
          ⊎_elim
          (λ (same : at ≡ file).
          subst
          (λ i. byte_at (file_at v i).now place ≡ byte_at (file_at b i).now place → byte_at (file_at (commit v at) i).safe place ≡ byte_at (file_at (commit b at) i).safe place)
          same
          (λ equal. safe_committed v at place ∙ equal ∙ sym (safe_committed b at place))
          (alike.now readable))
          (λ (apart : at ≡ file → ⊥). safe_other v at file place apart ∙ alike.safe ∙ sym (safe_other b at file place apart))
          (cases_eq at file);
      doubt = alike.doubt;
    }

doubt_alike : (v b : Volume) (at file place : ℕ) → v.broken ≡ false → IsAlike (seen_dest v) (seen_dest b) file place
    → doubted (fail_commit v at).doubt file place ≡ doubted (fail_commit b at).doubt file place
doubt_alike v b at file place readable alike =
    ⊎_elim
    (λ (same : at ≡ file).
    doubt_own v at file place same
    ∙ ap (λ (n : ℕ). Some n) (subst (λ i. byte_at (file_at v i).now place ≡ byte_at (file_at b i).now place) (sym same) (alike.now readable))
    ∙ sym (doubt_own b at file place same))
    (λ (apart : at ≡ file → ⊥). doubt_none v at file place apart ∙ sym (doubt_none b at file place apart))
    (cases_eq at file)

pub alike_after : (v b : Volume) (e : Effect) (file place : ℕ) → IsFirm v → IsFirm b → length v.files ≡ length b.files → IsAllowed v e
    → IsAlike (seen_dest v) (seen_dest b) file place → IsAlike (seen_dest (after v e)) (seen_dest (after b e)) file place
alike_after v b Rests file place firm firm' files allowed alike = alike
alike_after v b (Writes at off bytes) file place firm firm' files allowed alike =
    alike_written v b at off bytes file place allowed.0.1 (let there = allowed.0.1 in omega arith) alike
alike_after v b (Commits at) file place firm firm' files allowed alike = alike_committed v b at file place allowed.0 alike
alike_after v b WriteFails file place firm firm' files allowed alike =
    record { broken = λ whole. absurd (cc); now = λ whole. absurd (cc); safe = alike.safe; doubt = alike.doubt }
alike_after v b (CommitFails at) file place firm firm' files allowed alike =
    record { broken = λ whole. absurd (cc); now = λ whole. absurd (cc); safe = alike.safe; doubt = doubt_alike v b at file place allowed.0 alike }
alike_after v b (Crashes None kept) file place firm firm' files allowed alike = crash_alike v b kept file place firm firm' alike.safe alike.doubt
alike_after v b (Crashes (Some at) kept) file place firm firm' files allowed alike =
    let there : at < length b.files = (let here = allowed.1 in omega arith) in
    crash_alike
    (fail_commit v at)
    (fail_commit b at)
    kept
    file
    place
    (firm_after v (CommitFails at) firm (fails_there v at allowed.1))
    (firm_after b (CommitFails at) firm' (fails_there b at there))
    alike.safe
    (doubt_alike v b at file place allowed.0 alike)

pub alike_alone : (v b : Volume) (e : Effect) (file place : ℕ) → IsAllowed v e → IsWriting e → (WritesAt e file place → ⊥)
    → IsAlike (seen_dest v) (seen_dest b) file place → IsAlike (seen_dest (after v e)) (seen_dest b) file place
alike_alone v b Rests file place allowed writing out alike = absurd writing
alike_alone v b (Writes at off bytes) file place allowed writing out alike =
    record {
      broken = λ whole. alike.broken (sym (broken_written v at off bytes) ∙ whole);
      now = λ whole. now_elsewhere v at off bytes file place allowed.0.1 out ∙ alike.now (sym (broken_written v at off bytes) ∙ whole);
      safe = safe_written v at off bytes file place allowed.0.1 ∙ alike.safe;
      doubt = ap (λ o. doubted o file place) (doubt_written v at off bytes) ∙ alike.doubt;
    }
alike_alone v b (Commits at) file place allowed writing out alike = absurd writing
alike_alone v b WriteFails file place allowed writing out alike =
    record { broken = λ whole. absurd (cc); now = λ whole. absurd (cc); safe = alike.safe; doubt = alike.doubt }
alike_alone v b (CommitFails at) file place allowed writing out alike = absurd writing
alike_alone v b (Crashes under kept) file place allowed writing out alike = absurd writing
