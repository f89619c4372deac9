-- An answer brings bytes, or a size, only as the reply, with status 0, to a call that asked for it.
use Rattle.std.proofs.Common.{◌≡◌, ◌∙◌, ℕ, Bool, true, false, List, length, Option, Some, None, refl, sym, ap, arith}
use Rattle.std.specs.Prelude.{◌==◌, ◌&&◌, not, if◌then◌else◌, nat_lt}
use Rattle.std.proofs.lemmas.Bool.{ltb-false}
use Rattle.call_results.specs.Results.{at, told_bytes, told_size}
use Rattle.dest_tasks.specs.Posts.{is_confirm}
use Rattle.dest_tasks.specs.declared.post.Errand.{Errand}
use Rattle.dest_tasks.specs.declared.post.Errand.TheVariants as errands
use Rattle.dest_work.specs.Findings.{answered, brought_by, denied_by, finding_of, is_unknown, sized_by}
use Rattle.dest_work.specs.declared.finding.Finding.TheVariants as findings
use Rattle.job_log.specs.declared.chunk.Chunk.{Chunk}
use Rattle.mount.specs.declared.taking.Told.{Told}
use Rattle.mount.specs.declared.taking.Told.TheVariants as tells
use Rattle.nfs_base.specs.declared.job.Stop.TheVariants.{PastEnd, SourceFailed, SourceRefused}
use Rattle.nfs_base.specs.declared.status.Status.{Status}
use Rattle.nfs_compound.specs.declared.reply.Reply.{Reply}
use Rattle.rpc_msg.specs.declared.numbers.TheConstants.{SUCCESS}

pub record IsBrought (errand : Errand) (told : Told) (bytes : List ℕ) : Type 0 where
  pub reply : Reply
  pub told_is : told ≡ tells.Answer reply
  pub chunk : Chunk
  pub errand_is : errand ≡ errands.Bytes chunk
  pub has : at 2 told_bytes reply.results ≡ Some bytes
  pub whole : length bytes ≡ chunk.len

pub record IsSizeTold (errand : Errand) (told : Told) (size : ℕ) : Type 0 where
  pub reply : Reply
  pub told_is : told ≡ tells.Answer reply
  pub errand_is : errand ≡ errands.Size
  pub has : at 2 told_size reply.results ≡ Some size

-- ---- bytes

record AreThese (asked : ℕ) (got bytes : List ℕ) : Type 0 where
  same : got ≡ bytes
  whole : length got ≡ asked

these_if : (asked : ℕ) (got bytes : List ℕ) (more fewer : Bool) → nat_lt asked (length got) ≡ more → nat_lt (length got) asked ≡ fewer
    → (if more then findings.Stops (SourceFailed SUCCESS) else (if fewer then findings.Stops PastEnd else findings.Brings got)) ≡ findings.Brings bytes
    → AreThese asked got bytes
these_if asked got bytes true fewer m f is = absurd cc
these_if asked got bytes false true m f is = absurd cc
these_if asked got bytes false false m f is =
    let low = ltb-false asked (length got) m in
    let high = ltb-false (length got) asked f in
    record { same = cc; whole = omega (arith, low, high) }

abbrev Brought : Errand → Reply → List ℕ → Type 0
Brought errand reply bytes = IsBrought errand (tells.Answer reply) bytes

bytes_by : (chunk : Chunk) (reply : Reply) (o : Option (List ℕ)) (bytes : List ℕ) → at 2 told_bytes reply.results ≡ o → brought_by chunk.len o ≡ findings.Brings bytes
    → Brought (errands.Bytes chunk) reply bytes
bytes_by chunk reply None bytes has is = absurd cc
bytes_by chunk reply (Some got) bytes has is =
    let these = these_if chunk.len got bytes (nat_lt chunk.len (length got)) (nat_lt (length got) chunk.len) refl refl is in
    record {
      reply = reply;
      told_is = refl;
      chunk = chunk;
      errand_is = refl;
      has = has ∙ ap (λ (b : List ℕ). Some b) these.same;
      whole = sym (ap (λ (b : List ℕ). length b) these.same) ∙ these.whole;
    }

size_never : (o : Option ℕ) {A : Type 0} (bytes : List ℕ) → sized_by o ≡ findings.Brings bytes → A
size_never None bytes is = absurd cc
size_never (Some size) bytes is = absurd cc

answered_brings : (errand : Errand) (reply : Reply) (bytes : List ℕ) → answered errand reply.results ≡ findings.Brings bytes → Brought errand reply bytes
answered_brings errands.Setup reply bytes is = absurd cc
answered_brings errands.Confirm reply bytes is = absurd cc
answered_brings errands.Size reply bytes is = size_never (at 2 told_size reply.results) bytes is
answered_brings (errands.Bytes chunk) reply bytes is = bytes_by chunk reply (at 2 told_bytes reply.results) bytes refl is

status_brings : (ok : Bool) (errand : Errand) (reply : Reply) (bytes : List ℕ)
    → (if ok then answered errand reply.results else findings.Stops (SourceRefused reply.status)) ≡ findings.Brings bytes → Brought errand reply bytes
status_brings true errand reply bytes is = answered_brings errand reply bytes is
status_brings false errand reply bytes is = absurd cc

denied_never : {A : Type 0} (first : Bool) (bytes : List ℕ) → denied_by first ≡ findings.Brings bytes → A
denied_never true bytes is = absurd cc
denied_never false bytes is = absurd cc

refused_never : {A : Type 0} (ok : Bool) (status : Status) (bytes : List ℕ)
    → (if ok then findings.Stops (SourceFailed SUCCESS) else findings.Stops (SourceRefused status)) ≡ findings.Brings bytes → A
refused_never true status bytes is = absurd cc
refused_never false status bytes is = absurd cc

pub brings_from : (errand : Errand) (denied : Bool) (told : Told) (bytes : List ℕ) → finding_of errand denied told ≡ findings.Brings bytes → IsBrought errand told bytes
brings_from errand denied tells.Unmatched bytes is = absurd cc
brings_from errand denied tells.Rooted bytes is = absurd cc
brings_from errand denied (tells.Child child) bytes is = absurd cc
brings_from errand denied (tells.Refused major) bytes is = absurd cc
brings_from errand denied tells.Stepped bytes is = absurd cc
brings_from errand denied (tells.Stopped status) bytes is = refused_never (status.number == 0) status bytes is
brings_from errand denied (tells.Answer reply) bytes is = status_brings (reply.status.number == 0) errand reply bytes is
brings_from errand denied tells.Misspelt bytes is = absurd cc
brings_from errand denied (tells.Failed stat) bytes is = absurd cc
brings_from errand denied (tells.Denied why) bytes is = denied_never (is_confirm errand && (is_unknown why && not denied)) bytes is

-- ---- a size

abbrev Sized : Errand → Reply → ℕ → Type 0
Sized errand reply size = IsSizeTold errand (tells.Answer reply) size

size_by : (reply : Reply) (o : Option ℕ) (size : ℕ) → at 2 told_size reply.results ≡ o → sized_by o ≡ findings.HasSize size → Sized errands.Size reply size
size_by reply None size has is = absurd cc
size_by reply (Some got) size has is =
    let same : got ≡ size = cc in
    record { reply = reply; told_is = refl; errand_is = refl; has = has ∙ ap (λ (n : ℕ). Some n) same }

brought_never : {A : Type 0} (more fewer : Bool) (got : List ℕ) (size : ℕ)
    → (if more then findings.Stops (SourceFailed SUCCESS) else (if fewer then findings.Stops PastEnd else findings.Brings got)) ≡ findings.HasSize size → A
brought_never true fewer got size is = absurd cc
brought_never false true got size is = absurd cc
brought_never false false got size is = absurd cc

bytes_never : {A : Type 0} (asked : ℕ) (o : Option (List ℕ)) (size : ℕ) → brought_by asked o ≡ findings.HasSize size → A
bytes_never asked None size is = absurd cc
bytes_never asked (Some got) size is = brought_never (nat_lt asked (length got)) (nat_lt (length got) asked) got size is

answered_sizes : (errand : Errand) (reply : Reply) (size : ℕ) → answered errand reply.results ≡ findings.HasSize size → Sized errand reply size
answered_sizes errands.Setup reply size is = absurd cc
answered_sizes errands.Confirm reply size is = absurd cc
answered_sizes errands.Size reply size is = size_by reply (at 2 told_size reply.results) size refl is
answered_sizes (errands.Bytes chunk) reply size is = bytes_never chunk.len (at 2 told_bytes reply.results) size is

status_sizes : (ok : Bool) (errand : Errand) (reply : Reply) (size : ℕ)
    → (if ok then answered errand reply.results else findings.Stops (SourceRefused reply.status)) ≡ findings.HasSize size → Sized errand reply size
status_sizes true errand reply size is = answered_sizes errand reply size is
status_sizes false errand reply size is = absurd cc

none_denied : {A : Type 0} (first : Bool) (size : ℕ) → denied_by first ≡ findings.HasSize size → A
none_denied true size is = absurd cc
none_denied false size is = absurd cc

none_refused : {A : Type 0} (ok : Bool) (status : Status) (size : ℕ)
    → (if ok then findings.Stops (SourceFailed SUCCESS) else findings.Stops (SourceRefused status)) ≡ findings.HasSize size → A
none_refused true status size is = absurd cc
none_refused false status size is = absurd cc

pub sizes_from : (errand : Errand) (denied : Bool) (told : Told) (size : ℕ) → finding_of errand denied told ≡ findings.HasSize size → IsSizeTold errand told size
sizes_from errand denied tells.Unmatched size is = absurd cc
sizes_from errand denied tells.Rooted size is = absurd cc
sizes_from errand denied (tells.Child child) size is = absurd cc
sizes_from errand denied (tells.Refused major) size is = absurd cc
sizes_from errand denied tells.Stepped size is = absurd cc
sizes_from errand denied (tells.Stopped status) size is = none_refused (status.number == 0) status size is
sizes_from errand denied (tells.Answer reply) size is = status_sizes (reply.status.number == 0) errand reply size is
sizes_from errand denied tells.Misspelt size is = absurd cc
sizes_from errand denied (tells.Failed stat) size is = absurd cc
sizes_from errand denied (tells.Denied why) size is = none_denied (is_confirm errand && (is_unknown why && not denied)) size is
