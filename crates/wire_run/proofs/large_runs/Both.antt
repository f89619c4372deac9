-- What holds of both files, and what is left of it as disks are read.
use Rattle.std.proofs.Common.{◌≡◌, ◌≢◌, inl, inr, ℕ, ◌+◌, ◌*◌, ◌≤◌, List, length, take, Option, None, Some, true, refl, sym, ap, ◌∙◌, subst, arith}
use Rattle.std.specs.Prelude.{IfSome}
use Rattle.copy_model.specs.Volume.{Volume, bytes_at, file_at}
use Rattle.nfs_base.specs.declared.side.Side.{Side}
use Rattle.nfs_base.specs.declared.side.Side.TheVariants.{Source, Dest}
use Rattle.outcome.specs.Causes.{Rose, RoseBy}
use Rattle.wire_run.proofs.large_runs.Chunks.{all_chunks, chunk_more}
use Rattle.wire_run.specs.LargeRuns.Alike.{AreAlike, AreAlikeAt, AreUnlike, IsUnshown, LeavesAll, MayDiffer, OfBoth}
use Rattle.wire_run.specs.Running.{Later, Running, disk_of, faults_in}
use Rattle.wire_run.specs.System.{IsShown, IsSized, IsUnread, is_broken, shown_at, with_disk}

-- ---- of two volumes that may be there

abbrev now_in : Volume → List ℕ
now_in v = (file_at v 1).now

abbrev Both : Option Volume → Option Volume → (List ℕ → List ℕ → Type 0) → Type 0
Both s d holds = IfSome s (λ s. IfSome d (λ d. holds (now_in s) (now_in d)))

both_from : (s d : Option Volume) (P Q : List ℕ → Type 0) → IfSome s (λ v. P (now_in v)) → IfSome d (λ v. Q (now_in v)) → Both s d (λ s d. P s × Q d)
both_from None d P Q p q = tt
both_from (Some s) None P Q p q = tt
both_from (Some s) (Some d) P Q p q = (p, q)

both_so : (s d : Option Volume) (P Q : List ℕ → List ℕ → Type 0) → ((a b : List ℕ) → P a b → Q a b) → Both s d P → Both s d Q
both_so None d P Q so p = tt
both_so (Some s) None P Q so p = tt
both_so (Some s) (Some d) P Q so p = so (now_in s) (now_in d) p

both_too : (s d : Option Volume) (P Q : List ℕ → List ℕ → Type 0) → Both s d P → Both s d Q → Both s d (λ s d. P s d × Q s d)
both_too None d P Q p q = tt
both_too (Some s) None P Q p q = tt
both_too (Some s) (Some d) P Q p q = (p, q)

-- ---- counts of faults

rose_then : (before between now : ℕ) → RoseBy 0 before between → RoseBy 0 between now → RoseBy 0 before now
rose_then before between now first second = omega (arith, first, second)

rose_later : (before between now : ℕ) → RoseBy 0 before between → Rose between now → Rose before now
rose_later before between now first second = omega (arith, first, second)

pub later_then : {D : Type 0} (faults size : D → ℕ) (old mid new : Option D) → Later faults size 0 old mid → Later faults size 0 mid new → Later faults size 0 old new
later_then faults size old mid new a b =
    record {
      there = b.there ∙ a.there;
      rose = rose_then (faults_in faults old) (faults_in faults mid) (faults_in faults new) a.rose b.rose;
      as_large = b.as_large ∙ a.as_large;
    }

pub later_same : {D : Type 0} (faults size : D → ℕ) (disk : Option D) → Later faults size 0 disk disk
later_same faults size disk = record { there = refl; rose = rose_none (faults_in faults disk); as_large = refl }
  where
    rose_none : (n : ℕ) → RoseBy 0 n n
    rose_none n = omega arith

-- ---- of systems

-- where a chunk ends
next_off : (chunk : ℕ) → chunk * 65536 + 65536 ≡ (chunk + 1) * 65536
next_off chunk = omega arith

module _ {D M : Type 0} where
  leaves_source : (old new : Running D M) (disk : Option D) → new ≡ record old { source = disk } → LeavesAll old new
  leaves_source old new disk is = subst (λ (n : Running D M). LeavesAll old n) (sym is) refl

  leaves_dest : (old new : Running D M) (disk : Option D) → new ≡ record old { dest = disk } → LeavesAll old new
  leaves_dest old new disk is = subst (λ (n : Running D M). LeavesAll old n) (sym is) refl

  pub leaves_one : (side : Side) (old new : Running D M) → new ≡ with_disk side (disk_of new side) old → LeavesAll old new
  leaves_one Source old new is = leaves_source old new new.source is
  leaves_one Dest old new is = leaves_dest old new new.dest is

  pub leaves_then : (old mid new : Running D M) → LeavesAll old mid → LeavesAll mid new → LeavesAll old new
  leaves_then old mid new a b = b ∙ ap (λ (m : Running D M). record m { source = new.source; dest = new.dest }) a

  -- the files are as they were
  as_before : (old new : Running D M) (holds : List ℕ → List ℕ → Type 0) → LeavesAll old new → OfBoth new holds → OfBoth old holds
  as_before old new holds left is = subst (λ (n : Running D M). OfBoth n holds) left is

  pub chunk_before : (old new : Running D M) (off len : ℕ) → LeavesAll old new → AreAlikeAt new off len → AreAlikeAt old off len
  chunk_before old new off len left is = as_before old new (λ s d. bytes_at s off len ≡ bytes_at d off len) left is

  broken_before : (side : Side) (old new : Running D M) → LeavesAll old new → is_broken new side ≡ true → is_broken old side ≡ true
  broken_before Source old new left is = subst (λ (n : Running D M). is_broken n Source ≡ true) left is
  broken_before Dest old new left is = subst (λ (n : Running D M). is_broken n Dest ≡ true) left is

  module _ (faults size : D → ℕ) (old mid new : Running D M) (left : LeavesAll old mid)
      (later : (at : Side) → Later faults size 0 (disk_of old at) (disk_of mid at)) where
    unshown_before : (side : Side) → IsUnshown faults mid new side → IsUnshown faults old new side
    unshown_before side (inl broken) = inl (broken_before side old mid left broken)
    unshown_before side (inr rose) =
        inr (rose_later (faults_in faults (disk_of old side)) (faults_in faults (disk_of mid side)) (faults_in faults (disk_of new side)) (later side).rose rose)

    -- why files may differ now, they may differ from before on
    pub differ_before : MayDiffer faults mid new → MayDiffer faults old new
    differ_before (inl unlike) = inl (as_before old mid (λ s d. s ≢ d) left unlike)
    differ_before (inr (inl source)) = inr (inl (unshown_before Source source))
    differ_before (inr (inr dest)) = inr (inr (unshown_before Dest dest))

  pub later_both : (faults size : D → ℕ) (old new : Running D M) → Later faults size 0 old.source new.source → Later faults size 0 old.dest new.dest
      → (at : Side) → Later faults size 0 (disk_of old at) (disk_of new at)
  later_both faults size old new source dest Source = source
  later_both faults size old new source dest Dest = dest

  -- ---- a chunk

  unread_told : (told : Type 0) (faults : D → ℕ) (old new : Running D M) (side : Side) → told → IsUnread told faults old new side 1 → IsUnshown faults old new side
  unread_told told faults old new side t (inl broken) = inl broken
  unread_told told faults old new side t (inr (inl rose)) = inr rose
  unread_told told faults old new side t (inr (inr lost)) = absurd (lost.1 t)

  pub source_unread : (told : Type 0) (faults : D → ℕ) (old new : Running D M) → told → IsUnread told faults old new Source 1 → MayDiffer faults old new
  source_unread told faults old new t unread = inr (inl (unread_told told faults old new Source t unread))

  pub dest_unread : (told : Type 0) (faults : D → ℕ) (old new : Running D M) → told → IsUnread told faults old new Dest 1 → MayDiffer faults old new
  dest_unread told faults old new t unread = inr (inr (unread_told told faults old new Dest t unread))

  -- what is shown of both
  both_shown : (old mid : Running D M) (off len : ℕ) (s d : List ℕ) → LeavesAll old mid → IsShown old Source 1 off s len → IsShown mid Dest 1 off d len
      → OfBoth old (λ a b. (s ≡ bytes_at a off len) × (d ≡ bytes_at b off len))
  both_shown old mid off len s d left source dest =
      both_from (shown_at old.source_state old.dest_state Source) (shown_at old.source_state old.dest_state Dest)
      (λ a. s ≡ bytes_at a off len) (λ b. d ≡ bytes_at b off len) source
      (subst (λ (n : Running D M). IsShown n Dest 1 off d len) left dest)

  pub shown_alike : (old mid : Running D M) (off len : ℕ) (s d : List ℕ) → LeavesAll old mid → IsShown old Source 1 off s len → IsShown mid Dest 1 off d len
      → s ≡ d → AreAlikeAt old off len
  shown_alike old mid off len s d left source dest same =
      both_so (shown_at old.source_state old.dest_state Source) (shown_at old.source_state old.dest_state Dest)
      (λ a b. (s ≡ bytes_at a off len) × (d ≡ bytes_at b off len)) (λ a b. bytes_at a off len ≡ bytes_at b off len) (λ a b h. sym h.0 ∙ (same ∙ h.1))
      (both_shown old mid off len s d left source dest)

  pub shown_unlike : (old mid : Running D M) (off len : ℕ) (s d : List ℕ) → LeavesAll old mid → IsShown old Source 1 off s len → IsShown mid Dest 1 off d len
      → s ≢ d → AreUnlike old
  shown_unlike old mid off len s d left source dest other =
      both_so (shown_at old.source_state old.dest_state Source) (shown_at old.source_state old.dest_state Dest)
      (λ a b. (s ≡ bytes_at a off len) × (d ≡ bytes_at b off len)) (λ a b. a ≢ b)
      (λ a b h e. other (h.0 ∙ (ap (λ (x : List ℕ). bytes_at x off len) e ∙ sym h.1)))
      (both_shown old mid off len s d left source dest)

  -- ---- all chunks

  both_sized : (r : Running D M) (n m : ℕ) → IsSized r Source 1 n → IsSized r Dest 1 m → OfBoth r (λ s d. (n ≡ length s) × (m ≡ length d))
  both_sized r n m source dest =
      both_from (shown_at r.source_state r.dest_state Source) (shown_at r.source_state r.dest_state Dest) (λ s. n ≡ length s) (λ d. m ≡ length d) source dest

  pub sized_unlike : (r : Running D M) (n m : ℕ) → IsSized r Source 1 n → IsSized r Dest 1 m → m ≢ n → AreUnlike r
  sized_unlike r n m source dest other =
      both_so (shown_at r.source_state r.dest_state Source) (shown_at r.source_state r.dest_state Dest)
      (λ s d. (n ≡ length s) × (m ≡ length d)) (λ s d. s ≢ d)
      (λ s d h e. other (h.1 ∙ (ap (λ (x : List ℕ). length x) (sym e) ∙ sym h.0)))
      (both_sized r n m source dest)

  -- both files are the same up to here
  abbrev pub AreAlikeTo : Running D M → ℕ → Type 0
  AreAlikeTo r off = OfBoth r (λ s d. take off s ≡ take off d)

  pub alike_to_none : (r : Running D M) → AreAlikeTo r 0
  alike_to_none r = none (shown_at r.source_state r.dest_state Source) (shown_at r.source_state r.dest_state Dest)
    where
      none : (s d : Option Volume) → Both s d (λ s d. take 0 s ≡ take 0 d)
      none None d = tt
      none (Some s) None = tt
      none (Some s) (Some d) = refl

  pub alike_to_more : (r : Running D M) (n m off len : ℕ) → IsSized r Source 1 n → IsSized r Dest 1 m → n ≡ m → AreAlikeTo r off → AreAlikeAt r off len → AreAlikeTo r (off + len)
  alike_to_more r n m off len source dest same before chunk =
      let s = shown_at r.source_state r.dest_state Source in
      let d = shown_at r.source_state r.dest_state Dest in
      both_so s d (λ a b. ((n ≡ length a) × (m ≡ length b)) × ((take off a ≡ take off b) × (bytes_at a off len ≡ bytes_at b off len)))
      (λ a b. take (off + len) a ≡ take (off + len) b)
      (λ a b h. chunk_more a b off len (sym h.0.0 ∙ (same ∙ h.0.1)) h.1.0 h.1.1)
      (both_too s d (λ a b. (n ≡ length a) × (m ≡ length b)) (λ a b. (take off a ≡ take off b) × (bytes_at a off len ≡ bytes_at b off len)) (both_sized r n m source dest)
      (both_too s d (λ a b. take off a ≡ take off b) (λ a b. bytes_at a off len ≡ bytes_at b off len) before chunk))

  pub alike_to_next : (r : Running D M) (n m chunk len : ℕ) → IsSized r Source 1 n → IsSized r Dest 1 m → n ≡ m → len ≡ 65536 → AreAlikeTo r (chunk * 65536)
      → AreAlikeAt r (chunk * 65536) len → AreAlikeTo r ((chunk + 1) * 65536)
  alike_to_next r n m chunk len source dest same long before at =
      subst (λ (off : ℕ). AreAlikeTo r off) (next_off chunk)
      (alike_to_more r n m (chunk * 65536) 65536 source dest same before (subst (λ (len : ℕ). AreAlikeAt r (chunk * 65536) len) long at))

  pub alike_to_all : (r : Running D M) (n m off : ℕ) → IsSized r Source 1 n → IsSized r Dest 1 m → n ≡ m → n ≤ off → AreAlikeTo r off → AreAlike r
  alike_to_all r n m off source dest same most before =
      let s = shown_at r.source_state r.dest_state Source in
      let d = shown_at r.source_state r.dest_state Dest in
      both_so s d (λ a b. ((n ≡ length a) × (m ≡ length b)) × (take off a ≡ take off b)) (λ a b. a ≡ b)
      (λ a b h. all_chunks a b off (subst (λ k. k ≤ off) h.0.0 most) (sym h.0.0 ∙ (same ∙ h.0.1)) h.1)
      (both_too s d (λ a b. (n ≡ length a) × (m ≡ length b)) (λ a b. take off a ≡ take off b) (both_sized r n m source dest) before)
