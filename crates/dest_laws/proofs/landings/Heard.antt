-- What is heard of the source: bytes that are to land, a length, or neither; and what is awaited afterwards was.
use Rattle.std.proofs.Common.{◌≡◌, ◌⊎◌, inl, inr, ℕ, Bool, true, false, List, length, Option, Some, None, Result, Ok, Err, refl, sym, ap, subst}
use Rattle.call_results.specs.Results.{at, told_bytes, told_size}
use Rattle.dest_jobs.specs.Progress.{sized_with}
use Rattle.dest_laws.proofs.landings.Doings.{IfMounts}
use Rattle.dest_laws.proofs.landings.Findings.{IsBrought, brings_from, sizes_from}
use Rattle.dest_laws.proofs.landings.Places.{Fewer, fewer_fallen, fewer_given_up, fewer_joins, taken_fewer}
use Rattle.dest_steps.specs.Copier.{Around, Codes}
use Rattle.dest_steps.specs.Replying.{IsDropped, IsFound, IsHeard, IsHeardBy, IsHeardIf, IsSizedBy, IsSizedIf, IsStill, bytes_due, is_read, len_for, may_size, stop_effect}
use Rattle.dest_steps.specs.declared.copier.Copier.{Copier}
use Rattle.dest_steps.specs.declared.replying.Effect.{Effect}
use Rattle.dest_steps.specs.declared.replying.Effect.TheVariants as effects
use Rattle.dest_steps.specs.declared.replying.Heard.{Heard}
use Rattle.dest_tasks.specs.Posts.{asks, post_at}
use Rattle.dest_tasks.specs.Seats.{was_denied}
use Rattle.dest_tasks.specs.declared.post.Errand.{Errand}
use Rattle.dest_tasks.specs.declared.post.Errand.TheVariants as errands
use Rattle.dest_tasks.specs.declared.post.Post.{Post}
use Rattle.dest_tasks.specs.declared.post.Post.TheVariants.{Awaits, Holds, Idle}
use Rattle.dest_work.specs.Findings.{finding_of}
use Rattle.dest_work.specs.Work.{fallen_if, falls, is_orphan, kept_if, mount_after, taken_by}
use Rattle.dest_work.specs.declared.finding.Finding.{Finding}
use Rattle.dest_work.specs.declared.finding.Finding.TheVariants as findings
use Rattle.job_book.specs.Book.{id_of, named}
use Rattle.job_log.specs.declared.chunk.Chunk.{Chunk}
use Rattle.job_table.specs.Table.{JobTable, is_running}
use Rattle.mount.specs.Falling.{fallen}
use Rattle.mount.specs.State.{Mounted}
use Rattle.mount.specs.Taking.{Means, taken_at}
use Rattle.mount.specs.declared.taking.Told.TheVariants as tells
use Rattle.mount.specs.declared.taking.Told.{Told}
use Rattle.nfs_base.specs.declared.job.JobName.{JobName}
use Rattle.nfs_base.specs.declared.job.Stop.{Stop}
use Rattle.nfs_compound.specs.declared.reply.Reply.{Reply}
use Rattle.outbox.specs.declared.note.Dropped.{Dropped}

-- ---- facts

abbrev pub means_of : Codes → (List ℕ → List ℕ → Option (List ℕ)) → Means
means_of codes finished = record { mic = codes.mic; derived = codes.derived; finished = finished }

-- the record is the answer to what this worker awaits
pub record IsAnswered (means : Means) (place : ℕ) (message : List ℕ) (old : Copier) (heard : Heard) (job : JobName) (errand : Errand) : Type 0 where
  pub post : post_at old.work.workers place ≡ Awaits job errand
  pub reply : Reply
  pub told : (taken_at means place message old.work.mount).0.told ≡ tells.Answer reply
  pub accepted : heard.accepted ≡ (taken_at means place message old.work.mount).0.accepted

pub record Brings (means : Means) (place : ℕ) (message : List ℕ) (old : Copier) (heard : Heard) (job : JobName) (chunk : Chunk) (bytes : List ℕ) : Type 0 where
  pub answered : IsAnswered means place message old heard job (errands.Bytes chunk)
  pub has : at 2 told_bytes answered.reply.results ≡ Some bytes
  pub whole : length bytes ≡ chunk.len

pub record Sizes (means : Means) (place : ℕ) (message : List ℕ) (old : Copier) (heard : Heard) (new : Copier) : Type 0 where
  pub job : JobName
  pub size : ℕ
  pub len : ℕ
  pub spare : ℕ
  pub mount : Mounted
  pub answered : IsAnswered means place message old heard job errands.Size
  pub has : at 2 told_size answered.reply.results ≡ Some size
  pub may : may_size job old ≡ true
  pub len_is : len_for old.copies.book.table.capacity size (named old.copies.book.table job) ≡ Some (Ok len)
  pub is : new ≡ record old { copies = sized_with spare len job old.copies }
  pub effect_is : heard.effect ≡ effects.Goes mount

abbrev pub IfLands : Effect → (JobName → Chunk → List ℕ → Type 0) → Type 0
IfLands (effects.Lands job chunk bytes told m) P = P job chunk bytes
IfLands _ P = Unit {0}

pub record IsQuiet (means : Means) (place : ℕ) (message : List ℕ) (old : Copier) (heard : Heard) (new : Copier) : Type 0 where
  pub still : new ≡ old
  pub lands : IfLands heard.effect (Brings means place message old heard)

pub record IsHeardSo (means : Means) (place : ℕ) (message : List ℕ) (old : Copier) (heard : Heard) (new : Copier) : Type 0 where
  pub mounts : IfMounts heard.effect (Fewer old.work.mount)
  pub either : IsQuiet means place message old heard new ⊎ Sizes means place message old heard new

-- ---- the mount afterwards

kept_fewer : (orphan : Bool) (place : ℕ) (m n : Mounted) → Fewer m n → Fewer m (kept_if orphan place m n)
kept_fewer true place m n less = fewer_given_up place m
kept_fewer false place m n less = less

falls_fewer : (b : Bool) (m n : Mounted) → Fewer m n → Fewer m (fallen_if b n)
falls_fewer true m n less = fewer_joins m n (fallen n) less (fewer_fallen n)
falls_fewer false m n less = less

after_fewer : (means : Means) (place : ℕ) (message : List ℕ) (job : JobName) (errand : Errand) (t : JobTable) (m : Mounted)
    → let h = taken_at means place message m in Fewer m (mount_after place job errand h.0.told t m h.1)
after_fewer means place message job errand t m =
    let h = taken_at means place message m in
    falls_fewer (falls errand h.0.told) m (kept_if (is_orphan h.0.told job t) place m h.1)
    (kept_fewer (is_orphan h.0.told job t) place m h.1 (taken_fewer place m means message))

-- ---- by what is found

asks_post : (post : Post) (call : JobName × Errand) → asks post ≡ Some call → post ≡ Awaits call.0 call.1
asks_post Idle call is = absurd cc
asks_post (Awaits job errand) call is =
    let same : (job, errand) ≡ call = cc in
    ap (λ (c : JobName × Errand). Awaits c.0 c.1) same
asks_post (Holds job chunk bytes) call is = absurd cc

module _ (codes : Codes) (finished : List ℕ → List ℕ → Option (List ℕ)) (around : Around) (place : ℕ) (message : List ℕ) (old : Copier) (heard : Heard) (new : Copier) where
  abbrev means : Means
  means = means_of codes finished

  abbrev told : Told
  told = (taken_at means place message old.work.mount).0.told

  abbrev So : Type 0
  So = IsHeardSo means place message old heard new

  still_so : (due : Effect) → IsStill old new heard.effect due → IfMounts due (Fewer old.work.mount) → IfLands due (Brings means place message old heard) → So
  still_so due is mounts lands = record {
    mounts = subst (λ (e : Effect). IfMounts e (Fewer old.work.mount)) (sym is.is) mounts;
    either = inl (record { still = is.still; lands = subst (λ (e : Effect). IfLands e (Brings means place message old heard)) (sym is.is) lands });
  }

  stop_so : (running : Bool) (job : JobName) (cause : Stop) (m : Mounted) → Fewer old.work.mount m → IsStill old new heard.effect (stop_effect running codes around job cause m old) → So
  stop_so true job cause m less is = still_so _ is less tt
  stop_so false job cause m less is = still_so (effects.Goes m) is less tt

  bytes_so : (errand : Errand) (job : JobName) (bytes : List ℕ) (m : Mounted) → Fewer old.work.mount m → post_at old.work.workers place ≡ Awaits job errand
      → heard.accepted ≡ (taken_at means place message old.work.mount).0.accepted → IsBrought errand told bytes
      → IsStill old new heard.effect (bytes_due codes around job errand bytes m old) → So
  bytes_so errands.Setup job bytes m less post accepted from is = still_so (effects.Goes m) is less tt
  bytes_so errands.Confirm job bytes m less post accepted from is = still_so (effects.Goes m) is less tt
  bytes_so errands.Size job bytes m less post accepted from is = still_so (effects.Goes m) is less tt
  bytes_so (errands.Bytes chunk) job bytes m less post accepted from is =
      let errand_is = from.errand_is in
      let same : from.chunk ≡ chunk = cc in
      still_so _ is less (record {
        answered = record { post = post; reply = from.reply; told = from.told_is; accepted = accepted };
        has = from.has;
        whole = subst (λ (c : Chunk). length bytes ≡ c.len) same from.whole;
      })

  module _ (job : JobName) (errand : Errand) (denied : Bool) (m : Mounted) (less : Fewer old.work.mount m) (post : post_at old.work.workers place ≡ Awaits job errand)
      (accepted : heard.accepted ≡ (taken_at means place message old.work.mount).0.accepted) where
    len_so : (size : ℕ) (o : Option (Result ℕ Stop)) → finding_of errand denied told ≡ findings.HasSize size → may_size job old ≡ true
        → len_for old.copies.book.table.capacity size (named old.copies.book.table job) ≡ o → IsSizedBy codes around job m o old heard.effect new → So
    len_so size None found may len is = still_so (effects.Goes m) is less tt
    len_so size (Some (Err cause)) found may len is = stop_so (is_running old.copies.book.table (id_of job)) job cause m less is
    len_so size (Some (Ok n)) found may len is =
        let from = sizes_from errand denied told size found in
        record {
          mounts = subst (λ (e : Effect). IfMounts e (Fewer old.work.mount)) (sym is.effect_is) less;
          either = inr (record {
            job = job;
            size = size;
            len = n;
            spare = is.spare;
            mount = m;
            answered = record { post = subst (λ (e : Errand). post_at old.work.workers place ≡ Awaits job e) from.errand_is post; reply = from.reply; told = from.told_is; accepted = accepted };
            has = from.has;
            may = may;
            len_is = len;
            is = is.is;
            effect_is = is.effect_is;
          });
        }

    size_so : (may : Bool) (size : ℕ) → finding_of errand denied told ≡ findings.HasSize size → may_size job old ≡ may → IsSizedIf may codes around job size m old heard.effect new → So
    size_so false size found may is = still_so (effects.Goes m) is less tt
    size_so true size found may is = len_so size (len_for old.copies.book.table.capacity size (named old.copies.book.table job)) found may refl is

    found_so : (finding : Finding) → finding_of errand denied told ≡ finding → IsFound codes around job errand finding m old heard.effect new → So
    found_so findings.Unmatched found is = still_so _ is tt tt
    found_so findings.GoesOn found is = still_so (effects.Goes m) is less tt
    found_so findings.FirstDenial found is = still_so (effects.Denied job m) is less tt
    found_so (findings.Stops cause) found is = stop_so (is_running old.copies.book.table (id_of job)) job cause m less is
    found_so (findings.HasSize size) found is = size_so (may_size job old) size found refl is
    found_so (findings.Brings bytes) found is = bytes_so errand job bytes m less post accepted (brings_from errand denied told bytes found) is

  dropped_so : (why : Dropped) → IsDropped why old heard new → So
  dropped_so why is = record {
    mounts = subst (λ (h : Heard). IfMounts h.effect (Fewer old.work.mount)) (sym is.is) tt;
    either = inl (record { still = is.still; lands = subst (λ (h : Heard). IfLands h.effect (Brings means place message old heard)) (sym is.is) tt });
  }

  taken_so : (o : Option (JobName × Errand)) → asks (post_at old.work.workers place) ≡ o
      → IsHeardBy codes around (taken_by place old.copies.book.table old.work (taken_at means place message old.work.mount) o) old heard new → So
  taken_so None is heard_by = dropped_so _ heard_by
  taken_so (Some call) is heard_by =
      found_so call.0 call.1 (was_denied call.0.number old.work.seats)
      (mount_after place call.0 call.1 told old.copies.book.table old.work.mount (taken_at means place message old.work.mount).1)
      (after_fewer means place message call.0 call.1 old.copies.book.table old.work.mount)
      (asks_post (post_at old.work.workers place) call is) heard_by.accepted
      (finding_of call.1 (was_denied call.0.number old.work.seats) told) refl heard_by.effect

  read_so : (read : Bool) → IsHeardIf read codes around (taken_by place old.copies.book.table old.work (taken_at means place message old.work.mount) (asks (post_at old.work.workers place))) old heard new → So
  read_so false is = dropped_so _ is
  read_so true is = taken_so (asks (post_at old.work.workers place)) refl is

  pub heard_so : IsHeard codes finished around place message old heard new → So
  heard_so is = read_so (is_read message) is
