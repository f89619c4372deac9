-- The end of jobs that a client brings about: by OFFLOAD_CANCEL, by its own end, or by its lease's. RFC 7862 section
-- 15.8.
use Rattle.std.specs.Prelude.{ℕ, zero, suc, ◌==◌, Bool, true, false, Option, Some, None, List, [], ◌∷◌, ◌++◌, length, nat_lt, if◌then◌else◌}
use Rattle.job_table.specs.Table.{is_running}
use Rattle.nfs_base.specs.declared.job.JobName.{JobName}
use Rattle.nfs_base.specs.declared.job.Stop.{Stop}
use Rattle.nfs_base.specs.declared.job.Stop.TheVariants.{LeaseExpired}
use Rattle.nfs_base.specs.declared.limits.TheConstants.{MOST_JOBS}
use Rattle.outbox.specs.declared.note.Note.{Note}
use Rattle.outbox.specs.declared.note.Note.TheVariants as notes
use Rattle.outbox.specs.declared.note.TheConstants.{MOST_NOTES}
use Rattle.sess_slots.specs.Begins.{has_lapsed}
use Rattle.sess_slots.specs.Table.{SessionTable}
use Rattle.job_book.specs.Book.{client_of, id_of, next_name, retired}
use Rattle.dest_jobs.specs.declared.copies.Copies.{Copies}
use Rattle.dest_jobs.specs.declared.ending.Whose.{Whose}
use Rattle.dest_jobs.specs.declared.ending.Whose.TheVariants.{Client, Lapsed}

-- ---- what is told of a step

-- An operation gives at most one note and the end of a client at most one for each job, so all notes of a step fit.
abbrev pub noted : Note → List Note → List Note
noted note told = if nat_lt (length told) MOST_NOTES then told ++ note ∷ [] else told

abbrev pub with_note : Note → Copies → Copies
with_note note x = record x { told = noted note x.told }

-- ---- one job ends at once: that is told of one that ran, and its place ends

abbrev pub stop_told : (running : Bool) → Stop → JobName → Copies → Copies
stop_told true cause name x = with_note (notes.Stopped name cause) x
stop_told false cause name x = x

abbrev pub with_retired : JobName → Copies → Copies
with_retired name x = record x { book = retired name x.book }

abbrev pub ended : Stop → JobName → Copies → Copies
ended cause name x = with_retired name (stop_told (is_running x.book.table (id_of name)) cause name x)

-- ---- the jobs of some clients end, gone through by number

abbrev pub takes : (ℕ → Bool) → Option ℕ → Bool
takes test None = false
takes test (Some client) = test client

abbrev pub end_if : (ends : Bool) → Stop → JobName → Copies → Copies
end_if true cause name x = ended cause name x
end_if false cause name x = x

abbrev pub at_next : Option JobName → (JobName → Copies → Copies) → Copies → Copies
at_next None go x = x
at_next (Some name) go x = go name x

-- those of this many jobs from a number on whose clients pass the test
unfoldable pub end_from : (ℕ → Bool) → Stop → (left after : ℕ) → Copies → Copies
end_from test cause zero after x = x
end_from test cause (suc left) after x =
    at_next (next_name x.book.table after)
    (λ name y. end_from test cause left name.number (end_if (takes test (client_of y.book.table name)) cause name y)) x

-- there are no more than sixteen
abbrev pub end_all : (ℕ → Bool) → Stop → Copies → Copies
end_all test cause x = end_from test cause MOST_JOBS 0 x

-- one client
abbrev pub is_client : (client asked : ℕ) → Bool
is_client client asked = asked == client

abbrev pub leaves : (client : ℕ) → Stop → Copies → Copies
leaves client cause x = end_all (is_client client) cause x

-- the clients whose lease has ended in a second
abbrev pub expires : SessionTable → (second : ℕ) → Copies → Copies
expires sessions second x = end_all (λ client. has_lapsed sessions client second) LeaseExpired x

-- whose jobs end
abbrev pub test_of : Whose → ℕ → Bool
test_of (Client client) asked = is_client client asked
test_of (Lapsed sessions second) asked = has_lapsed sessions.now asked second
