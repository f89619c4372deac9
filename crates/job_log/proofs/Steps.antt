-- Each call keeps what the bits and counters of a job's log say of its entries.
use Rattle.std.proofs.Common.{◌≡◌, ℕ, zero, suc, ◌+◌, ◌-◌, ◌*◌, ◌/◌, ◌%◌, ◌<◌, ◌≤◌, Bool, true, false, Option, None, Some, List, [], ◌∷◌, ◌++◌, length, set, replicate, refl, sym, ◌∙◌, ap, subst, arith, inl, inr, length-set}
use Rattle.std.specs.Prelude.{◌≢◌, ◌⊎◌, ◌||◌, ◌&&◌, ◌==◌, not, is_some, if◌then◌else◌}
use Rattle.std.specs.Bool.{OnTrue, OnFalse}
use Rattle.std.proofs.lemmas.Bool.{cases_eq, eqb-true, eq-eqb, ne_eqb}
use Rattle.std.proofs.lemmas.List.{get_or-set_same, get_or-set_other}
use Rattle.copy_model.specs.Job.{Entry, AllowsCommit, Sized, Landed, size_of, is_landing, has_landed, is_end, has_ended, is_report, is_reported, bytes_landed, landed_bytes, chunk_len, chunk_size, chunks_of, IsChunk, Allows, IsLawful}
use Rattle.copy_model.specs.Marks.{AreSound}
use Rattle.job_log.specs.Bits.{Flags, flag}
use Rattle.job_log.specs.declared.chunk.Chunk.{Chunk}
use Rattle.job_log.specs.Log.{JobView, total_of, have_landed, is_claimed, waits}
use Rattle.job_log.specs.Kept.{IsKept, count_set, bytes_set, one_if}
use Rattle.job_log.proofs.Entries.{first_size, size_of-append, has_landed-append, has_ended-append, is_reported-append, landed_bytes-append, length-more}
use Rattle.job_log.proofs.Counts.{count_set-le-length, count_set-set, bytes_set-bound, bytes_set-set, bytes_of_all, all_of_bytes, count_none, bytes_none, flag_none, length_none}
use Rattle.job_log.proofs.Order.{have_landed-one, have_landed-last}

first_none : (o : Option ℕ) → first_size o None ≡ o
first_none None = refl
first_none (Some n) = refl

pub or_same : (b : Bool) → (b || false) ≡ b
or_same true = refl
or_same false = refl

one_most : (b : Bool) → one_if b ≤ 1
one_most true = omega arith
one_most false = omega arith

room_at : (sized ended reported : Bool) → (n count length_of spare total capacity : ℕ) → count ≤ length_of → length_of ≡ chunks_of total
    → n ≡ count + one_if sized + one_if ended + one_if reported → chunks_of spare + 4 ≤ capacity → total ≤ spare → n < capacity
room_at sized ended reported n count length_of spare total capacity a b c d e =
    let x = one_most sized in let y = one_most ended in let z = one_most reported in omega arith

-- there is room for one more entry
pub has_room : (consecutive : Bool) (es : List Entry) (claimed landed : Flags) (first : ℕ) (len : Option ℕ) (bytes : ℕ) (ended reported : Bool) (spare capacity : ℕ)
    → IsKept consecutive es claimed landed first len bytes ended reported spare capacity → length es < capacity
has_room consecutive es claimed landed first len bytes ended reported spare capacity k =
    room_at (is_some len) ended reported _ _ _ spare _ capacity (count_set-le-length landed.flags) k.landed_length k.entries_count k.entries_room k.sized_within

-- an entry that is allowed keeps a log sound
abbrev pub Grows : Bool → Type 0
Grows consecutive = (es : List Entry) (e : Entry) → AreSound consecutive es → Allows consecutive es e → AreSound consecutive (es ++ e ∷ [])

-- an entry that neither sizes nor lands
pub kept_more : (consecutive : Bool) (es : List Entry) (claimed landed : Flags) (first : ℕ) (len : Option ℕ) (bytes : ℕ) (ended reported : Bool) (spare capacity : ℕ)
    (e : Entry) (more : List Entry) (ended_now reported_now : Bool) (capacity_now : ℕ)
    → Grows consecutive → IsKept consecutive es claimed landed first len bytes ended reported spare capacity → more ≡ es ++ e ∷ []
    → Allows consecutive es e → size_of (e ∷ []) ≡ None → bytes_landed e ≡ 0 → ((off : ℕ) → is_landing off e ≡ false)
    → (ended || is_end e) ≡ ended_now → (reported || is_report e) ≡ reported_now
    → one_if ended_now + one_if reported_now ≡ one_if ended + one_if reported + 1 → capacity ≤ capacity_now
    → IsKept consecutive more claimed landed first len bytes ended_now reported_now spare capacity_now
kept_more consecutive es claimed landed first len bytes ended reported spare capacity e more ended_now reported_now capacity_now grow k is allows sizes lands at ends reports ones grows =
    let n = length-more es e in
    let m = ap (λ (l : List Entry). length l) is in
    let b = landed_bytes-append es e in
    let d = ap (λ (l : List Entry). landed_bytes l) is in
    let same : (off : ℕ) → has_landed more off ≡ has_landed es off =
    λ off. ap (λ (l : List Entry). has_landed l off) is ∙ has_landed-append es e off ∙ ap (λ (x : Bool). has_landed es off || x) (at off) ∙ or_same (has_landed es off) in
    record {
      sound = subst (λ (l : List Entry). AreSound consecutive l) (sym is) (grow es e k.sound allows);
      size_is = ap (λ (l : List Entry). size_of l) is ∙ size_of-append es (e ∷ []) ∙ ap (λ (o : Option ℕ). first_size (size_of es) o) sizes ∙ first_none (size_of es) ∙ k.size_is;
      ended_is = ap (λ (l : List Entry). has_ended l) is ∙ has_ended-append es e ∙ ap (λ (x : Bool). x || is_end e) k.ended_is ∙ ends;
      reported_is = ap (λ (l : List Entry). is_reported l) is ∙ is_reported-append es e ∙ ap (λ (x : Bool). x || is_report e) k.reported_is ∙ reports;
      bytes_is = let h = k.bytes_is in omega arith;
      bytes_of_flags = k.bytes_of_flags;
      claimed_length = k.claimed_length;
      landed_length = k.landed_length;
      landed_is = λ i lt. k.landed_is i lt ∙ sym (same (i * chunk_size));
      none_before = λ none off. same off ∙ k.none_before none off;
      apart = k.apart;
      taken = k.taken;
      entries_count = let h = k.entries_count in omega arith;
      entries_room = let h = k.entries_room in omega arith;
      claimed_room = k.claimed_room;
      landed_room = k.landed_room;
      sized_within = k.sized_within;
    }

no_bytes_at : (fs : List Bool) (bytes : ℕ) → length fs ≡ 0 → bytes_set 0 0 fs ≡ bytes → bytes ≡ 0
no_bytes_at [] bytes n e = sym e
no_bytes_at (f ∷ fs) bytes n e = absurd (omega arith)

no_bytes : (fs : List Bool) (len : Option ℕ) (bytes : ℕ) → len ≡ None → length fs ≡ chunks_of (total_of len) → bytes_set (total_of len) 0 fs ≡ bytes → bytes ≡ 0
no_bytes fs None bytes is n e = no_bytes_at fs bytes (omega arith) e
no_bytes fs (Some total) bytes is n e = absurd (cc)

no_count : (fs : List Bool) (len : Option ℕ) → len ≡ None → length fs ≡ chunks_of (total_of len) → count_set fs ≡ 0
no_count fs None is n = let h = count_set-le-length fs in omega arith
no_count fs (Some total) is n = absurd (cc)

-- the range has a length
pub kept_sized : (consecutive : Bool) (es : List Entry) (claimed landed : Flags) (first : ℕ) (len : Option ℕ) (bytes : ℕ) (ended reported : Bool) (spare capacity : ℕ)
    (total : ℕ) (more : List Entry) (claimed_now landed_now : Flags) (capacity_now : ℕ)
    → Grows consecutive → IsKept consecutive es claimed landed first len bytes ended reported spare capacity → more ≡ es ++ Sized total ∷ []
    → size_of es ≡ None → has_ended es ≡ false → total ≤ spare
    → claimed_now.flags ≡ replicate (chunks_of total) false → landed_now.flags ≡ replicate (chunks_of total) false
    → claimed.room ≤ claimed_now.room → landed.room ≤ landed_now.room → capacity ≤ capacity_now
    → IsKept consecutive more claimed_now landed_now 0 (Some total) bytes ended reported spare capacity_now
kept_sized consecutive es claimed landed first len bytes ended reported spare capacity total more claimed_now landed_now capacity_now grow k is unsized running fits cleared fresh room_one room_two grows =
    let n = length-more es (Sized total) in
    let m = ap (λ (l : List Entry). length l) is in
    let b = landed_bytes-append es (Sized total) in
    let d = ap (λ (l : List Entry). landed_bytes l) is in
    let none : len ≡ None = sym k.size_is ∙ unsized in
    let was : bytes ≡ 0 = no_bytes landed.flags len bytes none k.landed_length k.bytes_of_flags in
    let same : (off : ℕ) → has_landed more off ≡ false =
    λ off. ap (λ (l : List Entry). has_landed l off) is ∙ has_landed-append es (Sized total) off ∙ or_same (has_landed es off) ∙ k.none_before none off in
    record {
      sound = subst (λ (l : List Entry). AreSound consecutive l) (sym is) (grow es (Sized total) k.sound (unsized, running));
      size_is = ap (λ (l : List Entry). size_of l) is ∙ size_of-append es (Sized total ∷ []) ∙ ap (λ (o : Option ℕ). first_size o (Some total)) unsized;
      ended_is = ap (λ (l : List Entry). has_ended l) is ∙ has_ended-append es (Sized total) ∙ or_same (has_ended es) ∙ k.ended_is;
      reported_is = ap (λ (l : List Entry). is_reported l) is ∙ is_reported-append es (Sized total) ∙ or_same (is_reported es) ∙ k.reported_is;
      bytes_is = let h = k.bytes_is in omega arith;
      bytes_of_flags = ap (λ (fs : List Bool). bytes_set total 0 fs) fresh ∙ bytes_none total 0 (chunks_of total) ∙ sym was;
      claimed_length = ap (λ (fs : List Bool). length fs) cleared ∙ length_none (chunks_of total);
      landed_length = ap (λ (fs : List Bool). length fs) fresh ∙ length_none (chunks_of total);
      landed_is = λ i lt. ap (λ (fs : List Bool). flag fs i) fresh ∙ flag_none (chunks_of total) i ∙ sym (same (i * chunk_size));
      none_before = λ some off. same off;
      apart = λ i claim. ap (λ (fs : List Bool). flag fs i) fresh ∙ flag_none (chunks_of total) i;
      taken = λ i low lt. absurd (omega arith);
      entries_count =
          let h = k.entries_count in
          let o : one_if (is_some len) ≡ 0 = ap (λ (l : Option ℕ). one_if (is_some l)) none in
          let p = no_count landed.flags len none k.landed_length in
          let q : count_set landed_now.flags ≡ 0 = ap (λ (fs : List Bool). count_set fs) fresh ∙ count_none (chunks_of total) in
          omega arith;
      entries_room = let h = k.entries_room in omega arith;
      claimed_room = let h = k.claimed_room in omega arith;
      landed_room = let h = k.landed_room in omega arith;
      sized_within = fits;
    }

set_flag : (fs : List Bool) (at i : ℕ) (b : Bool) → at < length fs → (i ≡ at) ⊎ (i ≢ at) → flag (set fs at b) i ≡ (if i == at then b else flag fs i)
set_flag fs at i b lt (inl same) = rw same (get_or-set_same fs at b false lt ∙ sym (ap (λ (x : Bool). if x then b else flag fs at) (eq-eqb at at refl)))
set_flag fs at i b lt (inr ne) = get_or-set_other fs at i b false ne ∙ sym (ap (λ (x : Bool). if x then b else flag fs i) (ne_eqb i at ne))

inside : (fs : List Bool) (i : ℕ) → flag fs i ≡ true → i < length fs
inside [] zero e = absurd (cc)
inside [] (suc i) e = absurd (cc)
inside (f ∷ fs) zero e = omega arith
inside (f ∷ fs) (suc i) e = let h = inside fs i e in omega arith

is_sized : (len : Option ℕ) (at : ℕ) → at < chunks_of (total_of len) → Some (total_of len) ≡ len
is_sized None at lt = absurd (omega arith)
is_sized (Some total) at lt = refl

not_false : (b : Bool) → not b ≡ false → b ≡ true
not_false true e = refl
not_false false e = absurd (cc)

before_all : (consecutive : Bool) (es : List Entry) (at : ℕ) → consecutive ≡ true → (consecutive && not (have_landed es at)) ≡ false
    → (earlier total : ℕ) (c : IsChunk total earlier) → c.number < at → has_landed es earlier ≡ true
before_all false es at wanted ready earlier total c lt = absurd (cc)
before_all true es at wanted ready earlier total c lt =
    ap (λ (m : ℕ). has_landed es m) c.start ∙ have_landed-one es at c.number (not_false (have_landed es at) ready) lt

landed_step : (here was has start : Bool) → was ≡ has → start ≡ here → (if here then true else was) ≡ (has || start)
landed_step true was true start e s = refl
landed_step true was false start e s = sym s
landed_step false was has start e s = e ∙ sym (or_same has) ∙ ap (λ (x : Bool). has || x) (sym s)

same_start : (i at off : ℕ) → off ≡ at * chunk_size → (i ≡ at) ⊎ (i ≢ at) → (off == i * chunk_size) ≡ (i == at)
same_start i at off start (inl same) = eq-eqb off (i * chunk_size) (omega arith) ∙ sym (eq-eqb i at same)
same_start i at off start (inr ne) = ne_eqb off (i * chunk_size) (λ e. ne (omega arith)) ∙ sym (ne_eqb i at ne)

apart_step : (here claim was : Bool) → (if here then false else claim) ≡ true → (claim ≡ true → was ≡ false) → (if here then true else was) ≡ false
apart_step true claim was c rest = absurd (cc)
apart_step false claim was c rest = rest c

taken_step : (here claim was : Bool) → (claim || was) ≡ true → ((if here then false else claim) || (if here then true else was)) ≡ true
taken_step true claim was t = refl
taken_step false claim was t = t

-- a claimed chunk has landed
pub kept_landed : (consecutive : Bool) (es : List Entry) (claimed landed : Flags) (first : ℕ) (len : Option ℕ) (bytes : ℕ) (ended reported : Bool) (spare capacity : ℕ)
    (at off size : ℕ) (more : List Entry) (claimed_now landed_now : Flags) (capacity_now : ℕ)
    → Grows consecutive → IsKept consecutive es claimed landed first len bytes ended reported spare capacity → more ≡ es ++ Landed off size ∷ []
    → flag claimed.flags at ≡ true → off ≡ at * chunk_size → size ≡ chunk_len (total_of len) off → ended ≡ false
    → (consecutive && not (have_landed es at)) ≡ false
    → claimed_now ≡ record claimed { flags = set claimed.flags at false } → landed_now ≡ record landed { flags = set landed.flags at true }
    → capacity ≤ capacity_now
    → IsKept consecutive more claimed_now landed_now first len (bytes + size) ended reported spare capacity_now
kept_landed consecutive es claimed landed first len bytes ended reported spare capacity at off size more claimed_now landed_now capacity_now grow k is claim start size_is running ready cleared marked grows =
    let within = inside claimed.flags at claim in
    let cl = k.claimed_length in
    let ll = k.landed_length in
    let below : at < chunks_of (total_of len) = omega arith in
    let new : flag landed.flags at ≡ false = k.apart at claim in
    let not_yet : has_landed es off ≡ false = ap (λ (m : ℕ). has_landed es m) start ∙ sym (k.landed_is at below) ∙ new in
    let n = length-more es (Landed off size) in
    let m = ap (λ (l : List Entry). length l) is in
    let b = landed_bytes-append es (Landed off size) in
    let d = ap (λ (l : List Entry). landed_bytes l) is in
    let flags_one : claimed_now.flags ≡ set claimed.flags at false = ap (λ (f : Flags). f.flags) cleared in
    let flags_two : landed_now.flags ≡ set landed.flags at true = ap (λ (f : Flags). f.flags) marked in
    let sized : Some (total_of len) ≡ len = is_sized len at below in
    let same : (i : ℕ) → has_landed more i ≡ (has_landed es i || (off == i)) =
    λ i. ap (λ (l : List Entry). has_landed l i) is ∙ has_landed-append es (Landed off size) i in
    let one : (i : ℕ) → flag claimed_now.flags i ≡ (if i == at then false else flag claimed.flags i) =
    λ i. ap (λ (fs : List Bool). flag fs i) flags_one ∙ set_flag claimed.flags at i false within (cases_eq i at) in
    let two : (i : ℕ) → flag landed_now.flags i ≡ (if i == at then true else flag landed.flags i) =
    λ i. ap (λ (fs : List Bool). flag fs i) flags_two ∙ set_flag landed.flags at i true (omega arith) (cases_eq i at) in
    record {
      sound = subst (λ (l : List Entry). AreSound consecutive l) (sym is)
          (grow es (Landed off size) k.sound (
            record {
              total = total_of len;
              is_sized = k.size_is ∙ sym sized;
              chunk = record { number = at; start = start; within = omega arith };
              length_is = size_is;
              is_new = not_yet;
              in_order = λ wanted earlier c before. before_all consecutive es at wanted ready earlier (total_of len) c (omega arith);
            },
            k.ended_is ∙ running,
          ));
      size_is = ap (λ (l : List Entry). size_of l) is ∙ size_of-append es (Landed off size ∷ []) ∙ first_none (size_of es) ∙ k.size_is;
      ended_is = ap (λ (l : List Entry). has_ended l) is ∙ has_ended-append es (Landed off size) ∙ or_same (has_ended es) ∙ k.ended_is;
      reported_is = ap (λ (l : List Entry). is_reported l) is ∙ is_reported-append es (Landed off size) ∙ or_same (is_reported es) ∙ k.reported_is;
      bytes_is = let h = k.bytes_is in omega arith;
      bytes_of_flags =
          let h = k.bytes_of_flags in
          let s = bytes_set-set (total_of len) 0 landed.flags at off (omega arith) new (omega arith) in
          ap (λ (fs : List Bool). bytes_set (total_of len) 0 fs) flags_two ∙ omega arith;
      claimed_length = ap (λ (fs : List Bool). length fs) flags_one ∙ length-set claimed.flags at false ∙ cl;
      landed_length = ap (λ (fs : List Bool). length fs) flags_two ∙ length-set landed.flags at true ∙ ll;
      landed_is = λ i lt. two i ∙ landed_step (i == at) (flag landed.flags i) (has_landed es (i * chunk_size)) (off == i * chunk_size) (k.landed_is i lt) (same_start i at off start (cases_eq i at)) ∙ sym (same (i * chunk_size));
      none_before = λ none off. absurd (let e : Some (total_of len) ≡ None = sized ∙ none in cc);
      apart = λ i c. two i ∙ apart_step (i == at) (flag claimed.flags i) (flag landed.flags i) (sym (one i) ∙ c) (λ h. k.apart i h);
      taken = λ i low lt. ap (λ (x : Bool). x || flag landed_now.flags i) (one i) ∙ ap (λ (x : Bool). (if i == at then false else flag claimed.flags i) || x) (two i) ∙ taken_step (i == at) _ _ (k.taken i low lt);
      entries_count =
          let h = k.entries_count in
          let s = count_set-set landed.flags at (omega arith) new in
          let q : count_set landed_now.flags ≡ count_set (set landed.flags at true) = ap (λ (fs : List Bool). count_set fs) flags_two in
          omega arith;
      entries_room = let h = k.entries_room in omega arith;
      claimed_room = let h = k.claimed_room in let r : claimed_now.room ≡ claimed.room = ap (λ (f : Flags). f.room) cleared in omega arith;
      landed_room = let h = k.landed_room in let r : landed_now.room ≡ landed.room = ap (λ (f : Flags). f.room) marked in omega arith;
      sized_within = k.sized_within;
    }

-- the bytes of one more chunk still fit the range
pub fits_more : (consecutive : Bool) (es : List Entry) (claimed landed : Flags) (first : ℕ) (len : Option ℕ) (bytes : ℕ) (ended reported : Bool) (spare capacity : ℕ)
    (at off size : ℕ)
    → IsKept consecutive es claimed landed first len bytes ended reported spare capacity
    → flag claimed.flags at ≡ true → off ≡ at * chunk_size → size ≡ chunk_len (total_of len) off → bytes + size ≤ spare
fits_more consecutive es claimed landed first len bytes ended reported spare capacity at off size k claim start size_is =
    let within = inside claimed.flags at claim in
    let cl = k.claimed_length in
    let ll = k.landed_length in
    let h = k.bytes_of_flags in
    let s = bytes_set-set (total_of len) 0 landed.flags at off (omega arith) (k.apart at claim) (omega arith) in
    let b = bytes_set-bound (total_of len) 0 (set landed.flags at true) in
    let w = k.sized_within in
    omega arith

-- more room
pub kept_room : (consecutive : Bool) (es : List Entry) (claimed landed : Flags) (first : ℕ) (len : Option ℕ) (bytes : ℕ) (ended reported : Bool) (spare capacity : ℕ)
    (same : List Entry) (claimed_now landed_now : Flags) (spare_now capacity_now : ℕ)
    → IsKept consecutive es claimed landed first len bytes ended reported spare capacity → same ≡ es
    → claimed_now.flags ≡ claimed.flags → landed_now.flags ≡ landed.flags → spare ≤ spare_now
    → chunks_of spare_now + 4 ≤ capacity_now → chunks_of spare_now ≤ claimed_now.room → chunks_of spare_now ≤ landed_now.room
    → IsKept consecutive same claimed_now landed_now first len bytes ended reported spare_now capacity_now
kept_room consecutive es claimed landed first len bytes ended reported spare capacity same claimed_now landed_now spare_now capacity_now k is one two more entries_fit claimed_fit landed_fit =
    let flag_one : (i : ℕ) → flag claimed_now.flags i ≡ flag claimed.flags i = λ i. ap (λ (fs : List Bool). flag fs i) one in
    let flag_two : (i : ℕ) → flag landed_now.flags i ≡ flag landed.flags i = λ i. ap (λ (fs : List Bool). flag fs i) two in
    record {
      sound = subst (λ (l : List Entry). AreSound consecutive l) (sym is) k.sound;
      size_is = ap (λ (l : List Entry). size_of l) is ∙ k.size_is;
      ended_is = ap (λ (l : List Entry). has_ended l) is ∙ k.ended_is;
      reported_is = ap (λ (l : List Entry). is_reported l) is ∙ k.reported_is;
      bytes_is = ap (λ (l : List Entry). landed_bytes l) is ∙ k.bytes_is;
      bytes_of_flags = ap (λ (fs : List Bool). bytes_set (total_of len) 0 fs) two ∙ k.bytes_of_flags;
      claimed_length = ap (λ (fs : List Bool). length fs) one ∙ k.claimed_length;
      landed_length = ap (λ (fs : List Bool). length fs) two ∙ k.landed_length;
      landed_is = λ i lt. flag_two i ∙ k.landed_is i lt ∙ sym (ap (λ (l : List Entry). has_landed l (i * chunk_size)) is);
      none_before = λ none off. ap (λ (l : List Entry). has_landed l off) is ∙ k.none_before none off;
      apart = λ i c. flag_two i ∙ k.apart i (sym (flag_one i) ∙ c);
      taken = λ i low lt. ap (λ (x : Bool). x || flag landed_now.flags i) (flag_one i) ∙ ap (λ (x : Bool). flag claimed.flags i || x) (flag_two i) ∙ k.taken i low lt;
      entries_count = ap (λ (l : List Entry). length l) is ∙ k.entries_count ∙ ap (λ (fs : List Bool). count_set fs + one_if (is_some len) + one_if ended + one_if reported) (sym two);
      entries_room = entries_fit;
      claimed_room = claimed_fit;
      landed_room = landed_fit;
      sized_within = let w = k.sized_within in omega arith;
    }

-- what a claim says of its chunk
pub record ClaimMeans (claims : List Bool) (len : Option ℕ) (off size : ℕ) : Type 0 where
  pub start : off ≡ off / chunk_size * chunk_size
  pub claim : flag claims (off / chunk_size) ≡ true
  pub size_is : size ≡ chunk_len (total_of len) off

first_of : (a b : Bool) → (a && b) ≡ true → a ≡ true
first_of true b e = refl
first_of false b e = e

second_of : (a b : Bool) → (a && b) ≡ true → b ≡ true
second_of true b e = e
second_of false b e = absurd (cc)

pub claim_means : (v : JobView) (chunk : Chunk) (len : Option ℕ) → size_of v.entries ≡ len → is_claimed v chunk ≡ true → ClaimMeans v.claims len chunk.off chunk.len
claim_means v chunk len sized claimed =
    let rest = second_of (chunk.off % chunk_size == 0) _ claimed in
    let even = eqb-true (chunk.off % chunk_size) 0 (first_of _ _ claimed) in
    record {
      start = omega arith;
      claim = first_of _ _ rest;
      size_is = eqb-true chunk.len _ (second_of (flag v.claims (chunk.off / chunk_size)) _ rest) ∙ ap (λ (o : Option ℕ). chunk_len (total_of o) chunk.off) sized;
    }

pub claim_inside : (claims : List Bool) (i : ℕ) → flag claims i ≡ true → i < length claims
claim_inside claims i e = inside claims i e

not_same : (a b : Bool) → a ≡ b → not a ≡ not b
not_same a b e = ap (λ (x : Bool). not x) e

-- a chunk of a consecutive job waits where the one before it hasn't landed
pub waits_for_last : (v : JobView) (chunk : Chunk) (b : Bool) → v.consecutive ≡ true → IsLawful v.consecutive v.entries → 0 < chunk.off / chunk_size
    → b ≡ has_landed v.entries ((chunk.off / chunk_size - 1) * chunk_size) → not b ≡ waits v chunk
waits_for_last v chunk b in_order lawful after_first is =
    let n : suc (chunk.off / chunk_size - 1) ≡ chunk.off / chunk_size = omega arith in
    let P : Bool → Type 0 = λ x. IsLawful x v.entries in
    not_same _ _ (is ∙ sym (have_landed-last v.entries (chunk.off / chunk_size - 1) (subst P in_order lawful)) ∙ ap (λ (m : ℕ). have_landed v.entries m) n)
    ∙ ap (λ (x : Bool). x && not (have_landed v.entries (chunk.off / chunk_size))) (sym in_order)

-- where the bytes that landed are as many as the range has, a commit is allowed
pub whole_yes : (consecutive : Bool) (es : List Entry) (claimed landed : Flags) (first : ℕ) (len : ℕ) (bytes : ℕ) (ended reported : Bool) (spare capacity : ℕ)
    → IsKept consecutive es claimed landed first (Some len) bytes ended reported spare capacity → bytes ≡ len → AllowsCommit es
whole_yes consecutive es claimed landed first len bytes ended reported spare capacity k all =
    let b = k.bytes_of_flags in
    let n = k.landed_length in
    record {
      total = len;
      is_sized = k.size_is;
      all_landed = λ off chunk.
          let start = chunk.start in
          let within = chunk.within in
          let below : chunk.number < chunks_of len = omega arith in
          ap (λ (m : ℕ). has_landed es m) start ∙ sym (k.landed_is chunk.number below)
          ∙ all_of_bytes len 0 landed.flags (omega arith) (omega arith) chunk.number (omega arith);
    }

-- and only there
pub whole_no : (consecutive : Bool) (es : List Entry) (claimed landed : Flags) (first : ℕ) (len : ℕ) (bytes : ℕ) (ended reported : Bool) (spare capacity : ℕ)
    → IsKept consecutive es claimed landed first (Some len) bytes ended reported spare capacity → AllowsCommit es → bytes ≡ len
whole_no consecutive es claimed landed first len bytes ended reported spare capacity k allows =
    let b = k.bytes_of_flags in
    let n = k.landed_length in
    let same : Some allows.total ≡ Some len = sym allows.is_sized ∙ k.size_is in
    let total : allows.total ≡ len = cc in
    let h = bytes_of_all len 0 landed.flags (omega arith)
    (λ j lt. k.landed_is j (omega arith) ∙ allows.all_landed (j * chunk_size) (record { number = j; start = refl; within = omega arith })) in
    omega arith

pub if_true : (b : Bool) (P : Type 0) → (b ≡ true → P) → OnTrue b P
if_true true P gives = gives refl
if_true false P gives = tt

pub if_false : (b : Bool) (P : Type 0) → (b ≡ false → P) → OnFalse b P
if_false true P gives = tt
if_false false P gives = gives refl
