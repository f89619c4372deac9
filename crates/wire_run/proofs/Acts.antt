-- What a server that is there does in a step, by what its core says of it.
use Rattle.std.proofs.Common.{◌≡◌, ℕ, ◌+◌, ◌≤◌, Bool, true, false, List, [], ◌∷◌, ◌++◌, length, Option, Some, refl, sym, ap, ◌∙◌, subst, arith}
use Rattle.std.proofs.lemmas.List.Elements.{All-nil}
use Rattle.std.specs.Prelude.{IfOk, IfSome, IsOk, Result, Ok, Err, ◌||◌, ◌↔◌, ◌<◌}
use Rattle.copy_model.specs.Volume.{Volume, bytes_at, file_at}
use Rattle.dest_core.specs.Stepping.{DestState}
use Rattle.block_file.specs.declared.faults.ReadFault.{ReadFault}
use Rattle.block_file.specs.declared.faults.ReadFault.TheVariants as read_faults
use Rattle.run_ends.specs.Ends.{RunMachines, Words, hears, is_worker, machines}
use Rattle.wire_run.specs.declared.system.Peeked.{Peeked}
use Rattle.wire_run.specs.declared.system.Peeked.TheVariants as peeks
use Rattle.block_file.specs.Opened.{Opened}
use Rattle.disk_model.specs.Elapsed.{Timeline}
use Rattle.disk_model.specs.declared.fuse.Fuse.{Fuse}
use Rattle.job_table.specs.Fits.{PlansAreFit}
use Rattle.outbox.specs.Outboxes.{no_outbox}
use Rattle.outbox.specs.declared.outgoing.Outbox.{Outbox}
use Rattle.outbox.specs.declared.outgoing.Outgoing.{Outgoing}
use Rattle.outcome.specs.Causes.{Rose, RoseBy}
use Rattle.server_volume.specs.Moments.{Counted, Ran}
use Rattle.server_volume.specs.Store.{Seat, seat_of}
use Rattle.server_volume.specs.declared.used.CallAnswer.{CallAnswer}
use Rattle.server_volume.specs.declared.used.CallAnswer.TheVariants.{Done, DiskFailed, Refused}
use Rattle.server_volume.specs.declared.used.Used.{Used}
use Rattle.session_server.specs.Host.{HostState, Stepped, host_of}
use Rattle.session_server.specs.Lengths.{AreShort, IsShort}
use Rattle.session_server.specs.declared.host.TheConstants as server
use Rattle.volume_laws.specs.Failing as laws
use Rattle.volume_laws.specs.Keeping.{KeepsFiles}
use Rattle.wire_machine.specs.Ends.{DestAct, SourceAct}
use Rattle.wire_machine.specs.Ends as acts
use Rattle.wire_machine.specs.Steps as steps
use Rattle.run_ends.specs.Handling.{AreBytes, IsHandled}
use Rattle.wire_run.specs.Running.{Later}
use Rattle.wire_run.specs.Stage.{DestActs, DestHost, DestPeeks, PeekIs, SourceActs, SourceHost, SourcePeeks, VolumeStays, bit, dest_steps, has_failed, peeked_of, source_steps}
use Rattle.wire_run.specs.declared.ends.DestEnd.{DestEnd}
use Rattle.wire_run.specs.declared.ends.DestEnd.TheVariants as dest_end
use Rattle.wire_run.specs.declared.ends.SourceEnd.{SourceEnd}
use Rattle.wire_run.specs.declared.ends.SourceEnd.TheVariants as source_end
use Rattle.wire_xdr.specs.Cursor.{IsBytes}

-- ---- two names of one test

failed_alike : (answer : CallAnswer) → steps.has_failed answer ≡ laws.has_failed answer
failed_alike Done = refl
failed_alike DiskFailed = refl
failed_alike Refused = refl

any_alike : (used : List Used) → steps.any_failed used ≡ laws.any_failed used
any_alike [] = refl
any_alike (u ∷ us) = ap (λ (b : Bool). b || steps.any_failed us) (failed_alike u.answer) ∙ ap (λ (b : Bool). laws.has_failed u.answer || b) (any_alike us)

-- ---- what the calls of a step leave of a volume and its disk

-- the laws of volumes that say it, of disks that tell what they hold or not
pub record VolumeLaws (told : Type 0) : Type 0 where
  pub keeps : (old new : Seat) (used more : List Used) → Ran old new used more → KeepsFiles old.store new.store
  pub some : (old new : Seat) (used more : List Used) → Counted told old new used (used ++ more) → laws.any_failed more ≡ true → Rose old.faults new.faults
  pub later : (old new : Seat) (used more : List Used) → Counted told old new used more → RoseBy 0 old.faults new.faults

rose_by : (before now : ℕ) (failed : Bool) → (failed ≡ true → Rose before now) → RoseBy 0 before now → RoseBy (bit failed) before now
rose_by before now true some none = some refl
rose_by before now false some none = none

module _ {D : Type 0} (faults size : D → ℕ) where
  -- a volume that no call was made on
  still_later : (old new : Opened D) (failed : Bool) → new ≡ old → failed ≡ false → Later faults size (bit failed) (Some old.disk) (Some new.disk)
  still_later old new failed same none =
      subst (λ (v : Opened D). Later faults size (bit failed) (Some old.disk) (Some v.disk)) (sym same)
      (subst (λ (b : Bool). Later faults size (bit b) (Some old.disk) (Some old.disk)) (sym none) (record { there = refl; rose = omega arith; as_large = refl }))

  still_stays : (old new : Opened D) → new ≡ old → VolumeStays old new
  still_stays old new same = record {
    files = ap (λ (v : Opened D). length v.volume.files) same;
    tag = ap (λ (v : Opened D). v.tag) same;
    boot = ap (λ (v : Opened D). v.volume.boot) same;
  }

  ran_stays : (told : Type 0) (fuse : D → Fuse) (timeline : D → Timeline) (old new : Opened D) (used : List Used) → VolumeLaws told
      → Ran (seat_of size fuse timeline faults old) (seat_of size fuse timeline faults new) [] used → VolumeStays old new
  ran_stays told fuse timeline old new used laws ran =
      let k = laws.keeps (seat_of size fuse timeline faults old) (seat_of size fuse timeline faults new) [] used ran in
      record { files = k.opening.files; tag = k.tag; boot = k.opening.boot }

  ran_later : (told : Type 0) (fuse : D → Fuse) (timeline : D → Timeline) (old new : Opened D) (used : List Used) → VolumeLaws told
      → Counted told (seat_of size fuse timeline faults old) (seat_of size fuse timeline faults new) [] used
      → Later faults size (bit (steps.any_failed used)) (Some old.disk) (Some new.disk)
  ran_later told fuse timeline old new used laws ran = record {
    there = refl;
    rose = rose_by (faults old.disk) (faults new.disk) (steps.any_failed used)
        (λ e. laws.some (seat_of size fuse timeline faults old) (seat_of size fuse timeline faults new) [] used ran (sym (any_alike used) ∙ e))
        (laws.later (seat_of size fuse timeline faults old) (seat_of size fuse timeline faults new) [] used ran);
    as_large = ran.as_large;
  }

-- ---- an act that makes calls on the volume

module _ {D M E : Type 0} (told : Type 0) (m : RunMachines M) (faults size : D → ℕ) (fuse : D → Fuse) (timeline : D → Timeline) (laws : VolumeLaws told) where
  pub source_acts : (act : SourceAct) (now : ℕ) (old new : SourceEnd D M) (core next : SourceHost D M) (before after : ℕ) (r : Result Outbox E)
      → old ≡ source_end.Open core → new ≡ source_end.Open next
      → (told → IfOk r (λ out. m.source act now (host_of size core) before (host_of size next) after out))
      → IfOk r (λ out. Counted told (seat_of size fuse timeline faults core.server.files.volume) (seat_of size fuse timeline faults next.server.files.volume) [] out.used)
      → IfOk r (λ _. next.steps ≡ core.steps + 1)
      → IfOk r (SourceActs told m faults size act now old before new after)
  source_acts act now old new core next before after (Ok out) was is turn ran counted = record {
    was = core;
    next = next;
    was_is = was;
    next_is = is;
    stays = λ t. ran_stays faults size told fuse timeline core.server.files.volume next.server.files.volume out.used laws (ran.ran t);
    acts = λ t. turn t;
    counted = omega (arith, counted);
    later = ran_later faults size told fuse timeline core.server.files.volume next.server.files.volume out.used laws ran;
  }
  source_acts act now old new core next before after (Err e) was is turn ran counted = tt

  pub dest_acts : (act : DestAct) (now : ℕ) (old new : DestEnd D M) (core next : DestHost D M) (before after : ℕ) (r : Result Outbox E)
      → old ≡ dest_end.Open core → new ≡ dest_end.Open next
      → (told → IfOk r (λ out. m.dest act now (host_of size core) before (host_of size next) after out))
      → IfOk r (λ out. Counted told (seat_of size fuse timeline faults core.server.files.volume) (seat_of size fuse timeline faults next.server.files.volume) [] out.used)
      → IfOk r (λ _. next.steps ≡ core.steps + 1)
      → IfOk r (DestActs told m faults size act now old before new after)
  dest_acts act now old new core next before after (Ok out) was is turn ran counted = record {
    was = core;
    next = next;
    was_is = was;
    next_is = is;
    stays = λ t. ran_stays faults size told fuse timeline core.server.files.volume next.server.files.volume out.used laws (ran.ran t);
    acts = λ t. turn t;
    counted = omega (arith, counted);
    later = ran_later faults size told fuse timeline core.server.files.volume next.server.files.volume out.used laws ran;
  }
  dest_acts act now old new core next before after (Err e) was is turn ran counted = tt

-- ---- an act that makes none

module _ {D M E : Type 0} (told : Type 0) (m : RunMachines M) (faults size : D → ℕ) where
  pub source_rests : (act : SourceAct) (now : ℕ) (old new : SourceEnd D M) (core next : SourceHost D M) (before after : ℕ) (r : Result Outbox E)
      → old ≡ source_end.Open core → new ≡ source_end.Open next
      → (told → IfOk r (λ out. m.source act now (host_of size core) before (host_of size next) after out))
      → next.server.files.volume ≡ core.server.files.volume → IfOk r (λ out. steps.any_failed out.used ≡ false)
      → IfOk r (λ _. next.steps ≡ core.steps + 1)
      → IfOk r (SourceActs told m faults size act now old before new after)
  source_rests act now old new core next before after (Ok out) was is turn same none counted = record {
    was = core;
    next = next;
    was_is = was;
    next_is = is;
    stays = λ t. still_stays faults size core.server.files.volume next.server.files.volume same;
    acts = λ t. turn t;
    counted = omega (arith, counted);
    later = still_later faults size core.server.files.volume next.server.files.volume (steps.any_failed out.used) same none;
  }
  source_rests act now old new core next before after (Err e) was is turn same none counted = tt

  pub dest_rests : (act : DestAct) (now : ℕ) (old new : DestEnd D M) (core next : DestHost D M) (before after : ℕ) (r : Result Outbox E)
      → old ≡ dest_end.Open core → new ≡ dest_end.Open next
      → (told → IfOk r (λ out. m.dest act now (host_of size core) before (host_of size next) after out))
      → next.server.files.volume ≡ core.server.files.volume → IfOk r (λ out. steps.any_failed out.used ≡ false)
      → IfOk r (λ _. next.steps ≡ core.steps + 1)
      → IfOk r (DestActs told m faults size act now old before new after)
  dest_rests act now old new core next before after (Ok out) was is turn same none counted = record {
    was = core;
    next = next;
    was_is = was;
    next_is = is;
    stays = λ t. still_stays faults size core.server.files.volume next.server.files.volume same;
    acts = λ t. turn t;
    counted = omega (arith, counted);
    later = still_later faults size core.server.files.volume next.server.files.volume (steps.any_failed out.used) same none;
  }
  dest_rests act now old new core next before after (Err e) was is turn same none counted = tt

-- ---- acts that draw nothing, and acts that make no call

pub all_draws : {E : Type 0} (r : Result Outbox E) (P : ℕ → Outbox → Type 0) → ((d : ℕ) → IfOk r (P d)) → IfOk r (λ out. (d : ℕ) → P d out)
all_draws (Ok out) P f = λ d. f d
all_draws (Err e) P f = tt

pub and_same : {E : Type 0} (r : Result Outbox E) (P : Outbox → Type 0) (d : ℕ) → IfOk r P → IfOk r (λ out. P out × (d ≡ d))
and_same (Ok out) P d p = (p, refl)
and_same (Err e) P d p = tt

pub with_that : {E : Type 0} (r : Result Outbox E) (A : Type 0) (P : Outbox → Type 0) → A → IfOk r P → IfOk r (λ out. A × P out)
with_that (Ok out) A P that p = (that, p)
with_that (Err e) A P that p = tt

pub ticked_alone : {E A : Type 0} (r : Result Outbox E) (d : ℕ) → IfOk r (λ out. out ≡ no_outbox) → (IsOk r → A) → IfOk r (λ out. A × (out ≡ no_outbox) × (d ≡ d))
ticked_alone (Ok out) d none is = (is refl, none, refl)
ticked_alone (Err e) d none is = tt

-- ---- what is known of an act besides

pub source_few : {D M : Type 0} (limit : ℕ) (end : SourceEnd D M) (core : SourceHost D M) → end ≡ source_end.Open core → source_steps end < limit → core.steps < limit
source_few {D} {M} limit end core is few = subst (λ (e : SourceEnd D M). source_steps e < limit) is few

pub dest_few : {D M : Type 0} (limit : ℕ) (end : DestEnd D M) (core : DestHost D M) → end ≡ dest_end.Open core → dest_steps end < limit → core.steps < limit
dest_few {D} {M} limit end core is few = subst (λ (e : DestEnd D M). dest_steps e < limit) is few

-- one result is another
pub same_result : {E : Type 0} (given now : Result Outbox E) (P : Outbox → Type 0) → now ≡ given → IfOk given P → IfOk now P
same_result {E} given now P same is = subst (λ (r : Result Outbox E). IfOk r P) (sym same) is

pub handled : {E : Type 0} (r : Result Outbox E) (made limit : ℕ) (took : Option (List ℕ)) → made < limit → IfSome took IsBytes → IfOk r (λ out. AreBytes out.sent) → IfOk r (IsHandled made limit took)
handled (Ok out) made limit took few taken sent = record { few = few; taken = taken; sent = sent }
handled (Err e) made limit took few taken sent = tt

none_sent : (out : Outbox) (P : List Outgoing → Type 0) → out ≡ no_outbox → P [] → P out.sent
none_sent out P none empty = subst (λ (o : Outbox). P o.sent) (sym none) empty

no_bytes : AreBytes []
no_bytes = All-nil (λ (o : Outgoing). IsBytes o.bytes)

no_short : AreShort []
no_short = All-nil (λ (o : Outgoing). IsShort o.bytes)

pub quiet_bytes : {E : Type 0} (r : Result Outbox E) → IfOk r (λ out. out ≡ no_outbox) → IfOk r (λ out. AreBytes out.sent)
quiet_bytes (Ok out) none = none_sent out AreBytes none no_bytes
quiet_bytes (Err e) none = tt

pub quiet_short : {E : Type 0} (r : Result Outbox E) → IfOk r (λ out. out ≡ no_outbox) → IfOk r (λ out. AreShort out.sent)
quiet_short (Ok out) none = none_sent out AreShort none no_short
quiet_short (Err e) none = tt

-- what an act does, and what is known of it
pub served : {E : Type 0} (r : Result Outbox E) (P Q S : Outbox → Type 0) → IfOk r Q → IfOk r S → IfOk r P → IfOk r (λ out. P out × Q out × S out)
served (Ok out) P Q S q s p = (p, q, s)
served (Err e) P Q S q s p = tt

pub dest_served : {E : Type 0} (r : Result Outbox E) (P Q S : Outbox → Type 0) (T : Type 0) → IfOk r Q → IfOk r S → IfOk r P → T
    → IfOk r (λ out. P out × Q out × S out × T)
dest_served (Ok out) P Q S T q s p t = (p, q, s, t)
dest_served (Err e) P Q S T q s p t = tt

pub nothing_fails : {E : Type 0} (r : Result Outbox E) → IfOk r (λ out. out ≡ no_outbox) → IfOk r (λ out. steps.any_failed out.used ≡ false)
nothing_fails (Ok out) none = ap (λ (o : Outbox). steps.any_failed o.used) none
nothing_fails (Err e) none = tt

pub stepped_fails : {X C E : Type 0} (r : Result Outbox E) (host : HostState X C) (t : Stepped X C) → IfOk r (λ out. ◌≡◌ {A = Stepped X C} (record { host = host; out = out }) t) → steps.any_failed t.out.used ≡ false
    → IfOk r (λ out. steps.any_failed out.used ≡ false)
stepped_fails {X} {C} (Ok out) host t is none = ap (λ (s : Stepped X C). steps.any_failed s.out.used) is ∙ none
stepped_fails (Err e) host t is none = tt

-- a worker that is there hears, and one that isn't doesn't
pub heard_at : {M E : Type 0} (words : Words M ℕ) (there : Bool) (worker : ℕ) (bytes : List ℕ) (now : ℕ) (s t : DestState M) (d : ℕ) (r : Result Outbox E) → there ≡ true
    → IfOk r (λ out. hears words true worker bytes now s t out) → IfOk r (λ out. hears words there worker bytes now s t out × (d ≡ d))
heard_at words there worker bytes now s t d (Ok out) is h = (subst (λ (b : Bool). hears words b worker bytes now s t out) (sym is) h, refl)
heard_at words there worker bytes now s t d (Err e) is h = tt

pub unheard : {D M E : Type 0} (told : Type 0) (words : Words M ℕ) (faults size : D → ℕ) (worker : ℕ) (bytes : List ℕ) (now : ℕ) (end : DestEnd D M) (core : DestHost D M) (r : Result Outbox E)
    → end ≡ dest_end.Open core → core.steps < server.MOST_STEPS → IsBytes bytes → is_worker worker ≡ false → PlansAreFit core.server.files.extra.copier.copies.book.table
    → IfOk r (λ out. out ≡ no_outbox)
    → IfOk r (λ out. (d : ℕ) → DestActs told (machines words) faults size (acts.Hears worker bytes) now end d end d out)
unheard told words faults size worker bytes now end core (Ok out) is few taken none plans quiet = λ d. record {
  was = core;
  next = core;
  was_is = is;
  next_is = is;
  stays = λ t. record { files = refl; tag = refl; boot = refl };
  acts = λ t. (
    (subst (λ (b : Bool). hears words b worker bytes now (host_of size core) (host_of size core) out) (sym none) (refl, quiet), refl),
    record { few = few; taken = taken; sent = none_sent out AreBytes quiet no_bytes },
    none_sent out AreShort quiet no_short,
    plans,
  );
  counted = omega arith;
  later = still_later faults size core.server.files.volume core.server.files.volume (steps.any_failed out.used) refl (ap (λ (o : Outbox). steps.any_failed o.used) quiet);
}
unheard told words faults size worker bytes now end core (Err e) is few taken none plans quiet = tt

-- ---- peeks

not_true : (b : Bool) → (b ≡ true → ⊥) → b ≡ false
not_true true never = absurd (never refl)
not_true false never = refl

peek_is : {A : Type 0} (told : Type 0) (v : Volume) (file off : ℕ) (old new : List ℕ) (r : Result A ReadFault) → ((r ≡ Err read_faults.Broken) ↔ (v.broken ≡ true))
    → (told → IsOk r → new ≡ bytes_at (file_at v file).now off (length old)) → PeekIs told v file off old new (peeked_of r)
peek_is told v file off old new (Ok done) broken bytes = record {
  broken = λ e. absurd cc;
  refused = λ b. let other = broken.1 b in absurd cc;
  whole = λ e. not_true v.broken (λ b. let other = broken.1 b in absurd cc);
  bytes = λ t e. bytes t refl;
}
peek_is told v file off old new (Err read_faults.Broken) broken bytes = record {
  broken = λ e there. broken.0 refl;
  refused = λ b. refl;
  whole = λ e. absurd cc;
  bytes = λ t e. absurd cc;
}
peek_is told v file off old new (Err read_faults.DiskFailed) broken bytes = record {
  broken = λ e. absurd cc;
  refused = λ b. let other = broken.1 b in absurd cc;
  whole = λ e. absurd cc;
  bytes = λ t e. absurd cc;
}

peek_none : (told : Type 0) (v : Volume) (file off : ℕ) (old new : List ℕ) → length v.files ≤ file → PeekIs told v file off old new peeks.Refused
peek_none told v file off old new past = record {
  broken = λ e there. absurd (omega (arith, past, there));
  refused = λ b. refl;
  whole = λ e. absurd cc;
  bytes = λ t e. absurd cc;
}

peek_later : {A D : Type 0} (faults size : D → ℕ) (d e : D) (r : Result A ReadFault) → faults d ≤ faults e → (r ≡ Err read_faults.DiskFailed → Rose (faults d) (faults e)) → size e ≡ size d
    → Later faults size (bit (has_failed (peeked_of r))) (Some d) (Some e)
peek_later faults size d e (Ok done) later cause large = record { there = refl; rose = omega (arith, later); as_large = large }
peek_later faults size d e (Err read_faults.Broken) later cause large = record { there = refl; rose = omega (arith, later); as_large = large }
peek_later faults size d e (Err read_faults.DiskFailed) later cause large = record { there = refl; rose = cause refl; as_large = large }

module _ {A D M : Type 0} (told : Type 0) (faults size : D → ℕ) (file off : ℕ) (bytes_old bytes_new : List ℕ) (r : Result A ReadFault) (answer : Peeked) (is : answer ≡ peeked_of r) where
  pub source_peeks : (old new : SourceEnd D M) (core next : SourceHost D M) → old ≡ source_end.Open core → new ≡ source_end.Open next
      → ((r ≡ Err read_faults.Broken) ↔ (core.server.files.volume.volume.broken ≡ true))
      → (told → IsOk r → bytes_new ≡ bytes_at (file_at core.server.files.volume.volume file).now off (length bytes_old))
      → (told → host_of size next ≡ host_of size core) → next.steps ≡ core.steps
      → faults core.server.files.volume.disk ≤ faults next.server.files.volume.disk
      → (r ≡ Err read_faults.DiskFailed → Rose (faults core.server.files.volume.disk) (faults next.server.files.volume.disk))
      → size next.server.files.volume.disk ≡ size core.server.files.volume.disk
      → SourcePeeks told faults size file off old new bytes_old bytes_new answer
  source_peeks old new core next was now broken bytes same counted later cause large =
      subst (λ (a : Peeked). SourcePeeks told faults size file off old new bytes_old bytes_new a) (sym is) (record {
        was = core;
        next = next;
        was_is = was;
        next_is = now;
        same = same;
        counted = counted;
        is = peek_is told core.server.files.volume.volume file off bytes_old bytes_new r broken bytes;
        later = peek_later faults size core.server.files.volume.disk next.server.files.volume.disk r later cause large;
      })

  pub dest_peeks : (old new : DestEnd D M) (core next : DestHost D M) → old ≡ dest_end.Open core → new ≡ dest_end.Open next
      → ((r ≡ Err read_faults.Broken) ↔ (core.server.files.volume.volume.broken ≡ true))
      → (told → IsOk r → bytes_new ≡ bytes_at (file_at core.server.files.volume.volume file).now off (length bytes_old))
      → (told → host_of size next ≡ host_of size core) → next.steps ≡ core.steps
      → faults core.server.files.volume.disk ≤ faults next.server.files.volume.disk
      → (r ≡ Err read_faults.DiskFailed → Rose (faults core.server.files.volume.disk) (faults next.server.files.volume.disk))
      → size next.server.files.volume.disk ≡ size core.server.files.volume.disk
      → DestPeeks told faults size file off old new bytes_old bytes_new answer
  dest_peeks old new core next was now broken bytes same counted later cause large =
      subst (λ (a : Peeked). DestPeeks told faults size file off old new bytes_old bytes_new a) (sym is) (record {
        was = core;
        next = next;
        was_is = was;
        next_is = now;
        same = same;
        counted = counted;
        is = peek_is told core.server.files.volume.volume file off bytes_old bytes_new r broken bytes;
        later = peek_later faults size core.server.files.volume.disk next.server.files.volume.disk r later cause large;
      })

-- a file that isn't there
pub source_peeks_none : {D M : Type 0} (told : Type 0) (faults size : D → ℕ) (file off files : ℕ) (bytes : List ℕ) (old : SourceEnd D M) (core : SourceHost D M) → old ≡ source_end.Open core
    → files + 1 ≡ length core.server.files.volume.volume.files → files < file
    → SourcePeeks told faults size file off old (source_end.Open core) bytes bytes peeks.Refused
source_peeks_none told faults size file off files bytes old core was count past = record {
  was = core;
  next = core;
  was_is = was;
  next_is = refl;
  same = λ t. refl;
  counted = refl;
  is = peek_none told core.server.files.volume.volume file off bytes bytes (omega (arith, count, past));
  later = record { there = refl; rose = omega arith; as_large = refl };
}

pub dest_peeks_none : {D M : Type 0} (told : Type 0) (faults size : D → ℕ) (file off files : ℕ) (bytes : List ℕ) (old : DestEnd D M) (core : DestHost D M) → old ≡ dest_end.Open core
    → files + 1 ≡ length core.server.files.volume.volume.files → files < file
    → DestPeeks told faults size file off old (dest_end.Open core) bytes bytes peeks.Refused
dest_peeks_none told faults size file off files bytes old core was count past = record {
  was = core;
  next = core;
  was_is = was;
  next_is = refl;
  same = λ t. refl;
  counted = refl;
  is = peek_none told core.server.files.volume.volume file off bytes bytes (omega (arith, count, past));
  later = record { there = refl; rose = omega arith; as_large = refl };
}
