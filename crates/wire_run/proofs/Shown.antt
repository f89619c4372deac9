-- What a peek shows and leaves, by what contracts see of a system.
use Rattle.std.proofs.Common.{◌≡◌, ◌⊎◌, inl, inr, ℕ, ◌<◌, ◌≤◌, Bool, true, false, List, length, Option, Some, refl, sym, ap, ◌∙◌, subst, arith}
use Rattle.std.proofs.lemmas.Bool.{cases_lt}
use Rattle.std.specs.Option.{option_map_or}
use Rattle.std.specs.Prelude.{IfSome, is_some}
use Rattle.copy_model.specs.Volume.{Volume, bytes_at, file_at}
use Rattle.disk_model.specs.declared.fuse.Fuse.{Fuse}
use Rattle.nfs_base.specs.declared.side.Side.{Side}
use Rattle.nfs_base.specs.declared.side.Side.TheVariants.{Source, Dest}
use Rattle.outcome.specs.Causes.{Rose, RoseBy}
use Rattle.dest_core.specs.Stepping.{DestState}
use Rattle.run_ends.specs.Ends.{SourceState}
use Rattle.wire_run.specs.Running.{HasDisks, Later, Running, disk_of, faults_in, size_in}
use Rattle.wire_run.specs.Stage.{DestPeeks, DestSized, HasFileAt, IsOpenAt, IsSizedAt, PeekIs, Peeks, SourcePeeks, SourceSized, bit, dest_disk, dest_files, has_failed, is_shown, source_disk, source_files}
use Rattle.wire_run.specs.System.{HasFile, IsShown, IsSized, IsSound, IsUnread, dest_state, is_broken, running_of, shown_at, source_state, with_disk}
use Rattle.wire_run.specs.declared.ends.DestEnd.{DestEnd}
use Rattle.wire_run.specs.declared.ends.DestEnd.TheVariants as dest_end
use Rattle.wire_run.specs.declared.ends.SourceEnd.{SourceEnd}
use Rattle.wire_run.specs.declared.ends.SourceEnd.TheVariants as source_end
use Rattle.wire_run.specs.declared.stage.Stage.{Stage}
use Rattle.wire_run.specs.declared.system.Peeked.{Peeked}
use Rattle.wire_run.specs.declared.system.Peeked.TheVariants as peeks
use Rattle.wire_run.proofs.Sound.{has_there, open_at}
use Rattle.wire_schedule.specs.declared.context.Context.{Context}

-- What is said of a peek.
pub record Says {D M : Type 0} (told : Type 0) (faults size : D → ℕ) (side : Side) (file off : ℕ) (old new : Running D M) (bytes_old bytes_new : List ℕ) (answer : Peeked) : Type 0 where
  pub shown : told → is_shown answer ≡ true → IsShown old side file off bytes_new (length bytes_old)
  pub unread : is_shown answer ≡ false → IsUnread told faults old new side file
  pub broken : is_broken old side ≡ true → is_shown answer ≡ false
  pub still : told → new ≡ with_disk side (disk_of new side) old
  pub later : (at : Side) → Later faults size 0 (disk_of old at) (disk_of new at)
  pub disks : HasDisks old → HasDisks new

unread_by : (A B C : Type 0) (answer : Peeked) → is_shown answer ≡ false → (answer ≡ peeks.Refused → A ⊎ C) → (answer ≡ peeks.Failed → B) → A ⊎ (B ⊎ C)
unread_by A B C peeks.Shown never refused failed = absurd (cc)
unread_by A B C peeks.Refused never refused failed = by_cause (refused refl)
  where
    by_cause : A ⊎ C → A ⊎ (B ⊎ C)
    by_cause (inl a) = inl a
    by_cause (inr c) = inr (inr c)
unread_by A B C peeks.Failed never refused failed = inr (inl (failed refl))

-- a file that isn't there, at a disk that tells, is one more than there are
refused_by : (told : Type 0) (v : Volume) (file off : ℕ) (old new : List ℕ) (answer : Peeked) → PeekIs told v file off old new answer → (told → file < length v.files)
    → answer ≡ peeks.Refused → (v.broken ≡ true) ⊎ ((length v.files ≤ file) × (told → ⊥))
refused_by told v file off old new answer is there refused =
    elim (cases_lt file (length v.files)) [
      | inl held ↦ inl (is.broken refused held)
      | inr past ↦ inr (past, λ t. none_past file (length v.files) past (there t))
    ]
  where
    none_past : (file files : ℕ) → files ≤ file → file < files → ⊥
    none_past file files past held = omega (arith, past, held)

shown_is : (answer : Peeked) → is_shown answer ≡ true → answer ≡ peeks.Shown
shown_is peeks.Shown shown = refl
shown_is peeks.Refused shown = absurd (cc)
shown_is peeks.Failed shown = absurd (cc)

rose_none : (n before now : ℕ) → RoseBy n before now → RoseBy 0 before now
rose_none n before now rose = omega (arith, rose)

later_none : {D : Type 0} (faults size : D → ℕ) (n : ℕ) (old new : Option D) → Later faults size n old new → Later faults size 0 old new
later_none faults size n old new l =
    record { there = l.there; rose = rose_none n (faults_in faults old) (faults_in faults new) l.rose; as_large = l.as_large }

later_still : {D : Type 0} (faults size : D → ℕ) (old new : Option D) → new ≡ old → Later faults size 0 old new
later_still {D = D} faults size old new same =
    record { there = ap (λ (o : Option D). is_some o) same; rose = rose_still (faults_in faults old) (faults_in faults new) (ap (λ (o : Option D). faults_in faults o) same); as_large = ap (λ (o : Option D). size_in size o) same }
  where
    rose_still : (before now : ℕ) → now ≡ before → RoseBy 0 before now
    rose_still before now same = omega (arith, same)

later_at : {D : Type 0} (faults size : D → ℕ) (n : ℕ) (old new a b : Option D) → old ≡ a → new ≡ b → Later faults size n a b → Later faults size n old new
later_at faults size n old new a b p q l = subst (λ o. Later faults size n o new) (sym p) (subst (λ o. Later faults size n a o) (sym q) l)

both_later : {D M : Type 0} (faults size : D → ℕ) (old new : Running D M) → Later faults size 0 old.source new.source → Later faults size 0 old.dest new.dest
    → (at : Side) → Later faults size 0 (disk_of old at) (disk_of new at)
both_later faults size old new source dest Source = source
both_later faults size old new source dest Dest = dest

rose_failed : {D : Type 0} (faults size : D → ℕ) (old new : Option D) (answer : Peeked) → answer ≡ peeks.Failed → Later faults size (bit (has_failed answer)) old new
    → Rose (faults_in faults old) (faults_in faults new)
rose_failed faults size old new answer failed l = subst (λ a. RoseBy (bit (has_failed a)) (faults_in faults old) (faults_in faults new)) failed l.rose

-- ---- a peek at either server

-- the same of what is seen of the volume
unread_as : (told : Type 0) (v : Volume) (file : ℕ) (broken : Bool) (o : Option Volume) → broken ≡ v.broken → o ≡ Some v
    → (v.broken ≡ true) ⊎ ((length v.files ≤ file) × (told → ⊥)) → (broken ≡ true) ⊎ (IfSome o (λ v. length v.files ≤ file) × (told → ⊥))
unread_as told v file broken o is seen (inl b) = inl (is ∙ b)
unread_as told v file broken o is seen (inr past) = inr (subst (λ (x : Option Volume). IfSome x (λ v. length v.files ≤ file)) (sym seen) past.0, past.1)

not_shown : (told : Type 0) (v : Volume) (file off : ℕ) (old new : List ℕ) (answer : Peeked) → PeekIs told v file off old new answer → v.broken ≡ true
    → is_shown answer ≡ false
not_shown told v file off old new answer is broken = ap is_shown (is.refused broken)

module _ {D M : Type 0} (told : Type 0) (faults size : D → ℕ) (file off : ℕ) (bytes_old bytes_new : List ℕ) (answer : Peeked) where
  -- a system whose servers' disks and states are these
  abbrev seen_as : Context → Stage D M → (source dest : Option D) → Option (SourceState M) → Option (DestState M) → Running D M
  seen_as context s source dest source_state dest_state =
      record (running_of size context s) { source = source; dest = dest; source_state = source_state; dest_state = dest_state }

  source_says : (context : Context) (s new : Stage D M) → HasFileAt told Source file s → Peeks told faults size Source file off s new bytes_old bytes_new answer
      → Says told faults size Source file off (running_of size context s) (running_of size context new) bytes_old bytes_new answer
  source_says context s new has q =
      let p : SourcePeeks told faults size file off s.source new.source bytes_old bytes_new answer = q.peeks in
      let v = p.was.server.files.volume.volume in
      let seen : shown_at (source_state size s.source) (dest_state size s.dest) Source ≡ Some v =
      ap (λ (e : SourceEnd D M). shown_at (source_state size e) (dest_state size s.dest) Source) p.was_is in
      let broken : is_broken (running_of size context s) Source ≡ v.broken = ap (λ (o : Option Volume). option_map_or (λ v. v.broken) o false) seen in
      let was : source_disk s.source ≡ Some p.was.server.files.volume.disk = ap (λ (e : SourceEnd D M). source_disk e) p.was_is in
      let now : source_disk new.source ≡ Some p.next.server.files.volume.disk = ap (λ (e : SourceEnd D M). source_disk e) p.next_is in
      let is : PeekIs told v file off bytes_old bytes_new answer = p.is in
      let there : told → file < length v.files = λ t. subst (λ (e : SourceEnd D M). file < source_files e) p.was_is (has.there t) in
      let later : Later faults size (bit (has_failed answer)) (source_disk s.source) (source_disk new.source) = later_at faults size _ _ _ _ _ was now p.later in
      record {
        shown = λ t shown. subst (λ (o : Option Volume). IfSome o (λ v. bytes_new ≡ bytes_at (file_at v file).now off (length bytes_old))) (sym seen) (is.bytes t (shown_is answer shown));
        unread = λ never. unread_by _ _ _ answer never
            (λ refused. unread_as told v file (is_broken (running_of size context s) Source) _ broken seen (refused_by told v file off bytes_old bytes_new answer is there refused))
            (λ failed. rose_failed faults size (source_disk s.source) (source_disk new.source) answer failed later);
        broken = λ b. not_shown told v file off bytes_old bytes_new answer is (sym broken ∙ b);
        still = λ t.
            ap (λ (x : Stage D M). running_of size context x) q.rest
            ∙ ap (λ (st : Option (SourceState M)). seen_as context s (source_disk new.source) (dest_disk s.dest) st (dest_state size s.dest))
            (ap (λ (e : SourceEnd D M). source_state size e) p.next_is ∙ ap (λ (x : SourceState M). Some x) (p.same t) ∙ sym (ap (λ (e : SourceEnd D M). source_state size e) p.was_is));
        later = both_later faults size (running_of size context s) (running_of size context new) (later_none faults size _ _ _ later)
            (later_still faults size _ _ (ap (λ (x : Stage D M). dest_disk x.dest) q.rest));
        disks = λ there. record { source_there = ap (λ (o : Option D). is_some o) now; dest_there = ap (λ (x : Stage D M). is_some (dest_disk x.dest)) q.rest ∙ there.dest_there };
      }

  dest_says : (context : Context) (s new : Stage D M) → HasFileAt told Dest file s → Peeks told faults size Dest file off s new bytes_old bytes_new answer
      → Says told faults size Dest file off (running_of size context s) (running_of size context new) bytes_old bytes_new answer
  dest_says context s new has q =
      let p : DestPeeks told faults size file off s.dest new.dest bytes_old bytes_new answer = q.peeks in
      let v = p.was.server.files.volume.volume in
      let seen : shown_at (source_state size s.source) (dest_state size s.dest) Dest ≡ Some v =
      ap (λ (e : DestEnd D M). shown_at (source_state size s.source) (dest_state size e) Dest) p.was_is in
      let broken : is_broken (running_of size context s) Dest ≡ v.broken = ap (λ (o : Option Volume). option_map_or (λ v. v.broken) o false) seen in
      let was : dest_disk s.dest ≡ Some p.was.server.files.volume.disk = ap (λ (e : DestEnd D M). dest_disk e) p.was_is in
      let now : dest_disk new.dest ≡ Some p.next.server.files.volume.disk = ap (λ (e : DestEnd D M). dest_disk e) p.next_is in
      let is : PeekIs told v file off bytes_old bytes_new answer = p.is in
      let there : told → file < length v.files = λ t. subst (λ (e : DestEnd D M). file < dest_files e) p.was_is (has.there t) in
      let later : Later faults size (bit (has_failed answer)) (dest_disk s.dest) (dest_disk new.dest) = later_at faults size _ _ _ _ _ was now p.later in
      record {
        shown = λ t shown. subst (λ (o : Option Volume). IfSome o (λ v. bytes_new ≡ bytes_at (file_at v file).now off (length bytes_old))) (sym seen) (is.bytes t (shown_is answer shown));
        unread = λ never. unread_by _ _ _ answer never
            (λ refused. unread_as told v file (is_broken (running_of size context s) Dest) _ broken seen (refused_by told v file off bytes_old bytes_new answer is there refused))
            (λ failed. rose_failed faults size (dest_disk s.dest) (dest_disk new.dest) answer failed later);
        broken = λ b. not_shown told v file off bytes_old bytes_new answer is (sym broken ∙ b);
        still = λ t.
            ap (λ (x : Stage D M). running_of size context x) q.rest
            ∙ ap (λ (st : Option (DestState M)). seen_as context s (source_disk s.source) (dest_disk new.dest) (source_state size s.source) st)
            (ap (λ (e : DestEnd D M). dest_state size e) p.next_is ∙ ap (λ (x : DestState M). Some x) (p.same t) ∙ sym (ap (λ (e : DestEnd D M). dest_state size e) p.was_is));
        later = both_later faults size (running_of size context s) (running_of size context new) (later_still faults size _ _ (ap (λ (x : Stage D M). source_disk x.source) q.rest))
            (later_none faults size _ _ _ later);
        disks = λ there. record { source_there = ap (λ (x : Stage D M). is_some (source_disk x.source)) q.rest ∙ there.source_there; dest_there = ap (λ (o : Option D). is_some o) now };
      }

-- ---- a file's size at either server

source_sized : {D M : Type 0} (size : D → ℕ) (file n : ℕ) (end : SourceEnd D M) (dest : Option (DestState M)) → file < source_files end → SourceSized file end n
    → IfSome (shown_at (source_state size end) dest Source) (λ (v : Volume). n ≡ length (file_at v file).now)
source_sized size file n (source_end.Open core) dest there is = is there
source_sized size file n source_end.Away dest there is = tt
source_sized size file n (source_end.Disk disk) dest there is = tt

dest_sized : {D M : Type 0} (size : D → ℕ) (file n : ℕ) (source : Option (SourceState M)) (end : DestEnd D M) → file < dest_files end → DestSized file end n
    → IfSome (shown_at source (dest_state size end) Dest) (λ (v : Volume). n ≡ length (file_at v file).now)
dest_sized size file n source (dest_end.Open core) there is = is there
dest_sized size file n source dest_end.Away there is = tt
dest_sized size file n source (dest_end.Disk disk) there is = tt

-- ---- of a system as contracts see it

module _ {D M : Type 0} (told : Type 0) (size : D → ℕ) (fuse : D → Fuse) (file : ℕ) (context : Context) (mech : M) (s : Stage D M) (r : Running D M)
    (sound : IsSound told size fuse context mech s) (seen : running_of size context s ≡ r) where
  pub is_open : (side : Side) → HasFile r.context side file → HasDisks r → IsOpenAt side s
  is_open side has disks =
      open_at told size fuse context mech s sound side file (subst HasDisks (sym seen) disks) (subst (λ (x : Running D M). HasFile x.context side file) (sym seen) has)

  has_at : (side : Side) → HasFile r.context side file → HasDisks r → HasFileAt told side file s
  has_at side has disks =
      has_there told size fuse context mech s sound side file (is_open side has disks) (subst (λ (x : Running D M). HasFile x.context side file) (sym seen) has)

  sized_in : (side : Side) (n : ℕ) → HasFileAt told side file s → IsSizedAt side file s n → told → IsSized (running_of size context s) side file n
  sized_in Source n has is t = source_sized size file n s.source (dest_state size s.dest) (has.there t) is
  sized_in Dest n has is t = dest_sized size file n (source_state size s.source) s.dest (has.there t) is

  pub sized : (side : Side) (n : ℕ) → HasFile r.context side file → HasDisks r → IsSizedAt side file s n → told → IsSized r side file n
  sized side n has disks is t = subst (λ (x : Running D M). IsSized x side file n) seen (sized_in side n (has_at side has disks) is t)

module _ {D M : Type 0} (told : Type 0) (faults size : D → ℕ) (file off : ℕ) (bytes_old bytes_new : List ℕ) (answer : Peeked) where
  says_by : (side : Side) (context : Context) (s new : Stage D M) → HasFileAt told side file s → Peeks told faults size side file off s new bytes_old bytes_new answer
      → Says told faults size side file off (running_of size context s) (running_of size context new) bytes_old bytes_new answer
  says_by Source context s new has q = source_says told faults size file off bytes_old bytes_new answer context s new has q
  says_by Dest context s new has q = dest_says told faults size file off bytes_old bytes_new answer context s new has q

  pub says : (fuse : D → Fuse) (context : Context) (mech : M) (s new : Stage D M) (r : Running D M) → IsSound told size fuse context mech s → running_of size context s ≡ r
      → (side : Side) → HasFile r.context side file → HasDisks r → Peeks told faults size side file off s new bytes_old bytes_new answer
      → Says told faults size side file off r (running_of size context new) bytes_old bytes_new answer
  says fuse context mech s new r sound seen side has disks q =
      subst (λ (x : Running D M). Says told faults size side file off x (running_of size context new) bytes_old bytes_new answer) seen
      (says_by side context s new (has_at told size fuse file context mech s r sound seen side has disks) q)
