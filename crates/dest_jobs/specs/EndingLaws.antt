-- A job's end gives no number out.
use Rattle.std.specs.Prelude.{◌≡◌, ℕ, zero, suc, Bool, true, false, Option, Some, None, refl}
use Rattle.std.proofs.Common.{◌∙◌}
use Rattle.job_table.specs.Table.{is_running}
use Rattle.nfs_base.specs.declared.job.JobName.{JobName}
use Rattle.nfs_base.specs.declared.job.Stop.{Stop}
use Rattle.nfs_base.specs.declared.job.Stop.TheVariants.{LeaseExpired}
use Rattle.nfs_base.specs.declared.limits.TheConstants.{MOST_JOBS}
use Rattle.sess_slots.specs.Begins.{has_lapsed}
use Rattle.sess_slots.specs.Table.{SessionTable}
use Rattle.job_book.specs.Book.{client_of, id_of, next_name}
use Rattle.dest_jobs.specs.Ending.{at_next, end_from, end_if, ended, expires, is_client, leaves, stop_told, takes}
use Rattle.dest_jobs.specs.declared.copies.Copies.{Copies}

abbrev pub numbers : Copies → ℕ
numbers x = x.book.table.made

by_telling : (running : Bool) (cause : Stop) (name : JobName) (x : Copies) → numbers (stop_told running cause name x) ≡ numbers x
by_telling true cause name x = refl
by_telling false cause name x = refl

by_end : (cause : Stop) (name : JobName) (x : Copies) → numbers (ended cause name x) ≡ numbers x
by_end cause name x = by_telling (is_running x.book.table (id_of name)) cause name x

by_one : (ends : Bool) (cause : Stop) (name : JobName) (x : Copies) → numbers (end_if ends cause name x) ≡ numbers x
by_one true cause name x = by_end cause name x
by_one false cause name x = refl

at_one : (next : Option JobName) (go : JobName → Copies → Copies) (x : Copies) → ((name : JobName) → numbers (go name x) ≡ numbers x)
    → numbers (at_next next go x) ≡ numbers x
at_one None go x same = refl
at_one (Some name) go x same = same name

pub ends_give_none : (test : ℕ → Bool) (cause : Stop) (left after : ℕ) (x : Copies) → numbers (end_from test cause left after x) ≡ numbers x
unfolding end_from
ends_give_none test cause zero after x = refl
ends_give_none test cause (suc left) after x =
    at_one (next_name x.book.table after)
    (λ name y. end_from test cause left name.number (end_if (takes test (client_of y.book.table name)) cause name y)) x
    (λ name. ends_give_none test cause left name.number (end_if (takes test (client_of x.book.table name)) cause name x)
    ∙ by_one (takes test (client_of x.book.table name)) cause name x)

-- neither does a client's
pub leaving_gives_none : (client : ℕ) (cause : Stop) (x : Copies) → numbers (leaves client cause x) ≡ numbers x
leaving_gives_none client cause x = ends_give_none (is_client client) cause MOST_JOBS 0 x

-- nor that of leases
pub expiring_gives_none : (sessions : SessionTable) (second : ℕ) (x : Copies) → numbers (expires sessions second x) ≡ numbers x
expiring_gives_none sessions second x = ends_give_none (λ client. has_lapsed sessions client second) LeaseExpired MOST_JOBS 0 x
