-- What is noted while leases end: no landing, and few notes, so that there is room for one.
use Rattle.std.proofs.Common.{◌≡◌, ◌∙◌, ℕ, zero, suc, ◌+◌, ◌≤◌, ◌<◌, Bool, true, false, List, [], ◌∷◌, ◌++◌, length, Option, Some, None, refl, sym, ap, subst, arith}
use Rattle.std.specs.Prelude.{if◌then◌else◌, nat_lt}
use Rattle.std.proofs.lemmas.Bool.{lt-ltb}
use Rattle.std.proofs.lemmas.List.{length-append}
use Rattle.dest_jobs.specs.Ending.{at_next, end_from, end_if, expires, noted, stop_told, takes}
use Rattle.dest_jobs.specs.declared.copies.Copies.{Copies}
use Rattle.job_book.specs.Book.{client_of, id_of, next_name}
use Rattle.job_table.specs.Table.{is_running}
use Rattle.nfs_base.specs.declared.job.JobName.{JobName}
use Rattle.nfs_base.specs.declared.job.Stop.{Stop}
use Rattle.nfs_base.specs.declared.job.Stop.TheVariants.{LeaseExpired}
use Rattle.nfs_base.specs.declared.limits.TheConstants.{MOST_JOBS}
use Rattle.outbox.specs.declared.note.Note.{Note}
use Rattle.outbox.specs.declared.note.Note.TheVariants as notes
use Rattle.outbox.specs.declared.note.TheConstants.{MOST_NOTES}
use Rattle.sess_slots.specs.Begins.{has_lapsed}
use Rattle.sess_slots.specs.Table.{SessionTable}
use Rattle.wire_machine.specs.History.{landing_in}

pub record IsQuiet (most : ℕ) (told : List Note) : Type 0 where
  pub none : landing_in told ≡ None
  pub few : length told ≤ most

pub behind : (told more : List Note) → landing_in told ≡ None → landing_in (told ++ more) ≡ landing_in more
behind [] more none = refl
behind (notes.Landed job off len ∷ told) more none = absurd cc
behind (note ∷ told) more none = behind told more none

weaker : (most all : ℕ) (told : List Note) → most ≤ all → IsQuiet most told → IsQuiet all told
weaker most all told le quiet = record { none = quiet.none; few = let few = quiet.few in omega (arith, few, le) }

noted_if : (b : Bool) (most : ℕ) (note : Note) (told : List Note) → landing_in (note ∷ []) ≡ None → IsQuiet most told → IsQuiet (suc most) (if b then told ++ note ∷ [] else told)
noted_if true most note told silent quiet = record {
  none = behind told (note ∷ []) quiet.none ∙ silent;
  few = let few = quiet.few in omega (arith, few, length-append told (note ∷ []));
}
noted_if false most note told silent quiet = weaker most (suc most) told (omega arith) quiet

stop_quiet : (running : Bool) (cause : Stop) (job : JobName) (most : ℕ) (x : Copies) → IsQuiet most x.told → IsQuiet (suc most) (stop_told running cause job x).told
stop_quiet true cause job most x quiet = noted_if (nat_lt (length x.told) MOST_NOTES) most (notes.Stopped job cause) x.told refl quiet
stop_quiet false cause job most x quiet = weaker most (suc most) x.told (omega arith) quiet

if_quiet : (ends : Bool) (cause : Stop) (job : JobName) (most : ℕ) (x : Copies) → IsQuiet most x.told → IsQuiet (suc most) (end_if ends cause job x).told
if_quiet true cause job most x quiet = stop_quiet (is_running x.book.table (id_of job)) cause job most x quiet
if_quiet false cause job most x quiet = weaker most (suc most) x.told (omega arith) quiet

next_quiet : (next : Option JobName) (go : JobName → Copies → Copies) (most : ℕ) (x : Copies) → IsQuiet most x.told → ((job : JobName) → IsQuiet most (go job x).told)
    → IsQuiet most (at_next next go x).told
next_quiet None go most x quiet does = quiet
next_quiet (Some job) go most x quiet does = does job

from_quiet : (test : ℕ → Bool) (cause : Stop) (left after most all : ℕ) (x : Copies) → most + left ≤ all → IsQuiet most x.told → IsQuiet all (end_from test cause left after x).told
unfolding end_from
from_quiet test cause zero after most all x le quiet = weaker most all x.told (omega (arith, le)) quiet
from_quiet test cause (suc left) after most all x le quiet =
    next_quiet (next_name x.book.table after)
    (λ name y. end_from test cause left name.number (end_if (takes test (client_of y.book.table name)) cause name y)) all x
    (weaker most all x.told (omega (arith, le)) quiet)
    (λ name.
    let y = end_if (takes test (client_of x.book.table name)) cause name x in
    from_quiet test cause left name.number (suc most) all y (omega (arith, le)) (if_quiet (takes test (client_of x.book.table name)) cause name most x quiet))

-- where nothing was noted before
pub lapsed_quiet : (sessions : SessionTable) (second : ℕ) (x : Copies) → x.told ≡ [] → IsQuiet 16 (expires sessions second x).told
lapsed_quiet sessions second x none =
    from_quiet (λ client. has_lapsed sessions client second) LeaseExpired MOST_JOBS 0 0 16 x (omega arith)
    (subst (IsQuiet 0) (sym none) (record { none = refl; few = omega arith }))

pub silent_quiet : (told : List Note) → told ≡ [] → IsQuiet 16 told
silent_quiet told none = subst (IsQuiet 16) (sym none) (record { none = refl; few = omega arith })

-- a landing is noted behind them
pub landing_noted : (told : List Note) (job : JobName) (off len : ℕ) → IsQuiet 16 told → landing_in (noted (notes.Landed job off len) told) ≡ Some (record { job = job; off = off })
landing_noted told job off len quiet =
    let note = notes.Landed job off len in
    let few = quiet.few in
    let room : length told < 33 = omega (arith, few) in
    ap (λ (b : Bool). landing_in (if b then told ++ note ∷ [] else told)) (lt-ltb (length told) 33 room) ∙ behind told (note ∷ []) quiet.none
