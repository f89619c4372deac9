-- What a destination has of its copies: how its calls are numbered, and how a job gets its seat.
use Rattle.std.specs.Prelude.{ℕ, List, ◌+◌, ◌-◌, ◌^◌, max, nat_lt, if◌then◌else◌, Option, Some, None}
use Rattle.dest_back.specs.Callbacks.{CallbackTable, posted}
use Rattle.dest_back.specs.declared.callbacks.Party.{Party}
use Rattle.dest_tasks.specs.Seats.{free_seat, seated}
use Rattle.mount.specs.Falling.{forgotten}
use Rattle.mount.specs.State.{Mounted}
use Rattle.nfs_base.specs.declared.job.JobName.{JobName}
use Rattle.sess_slots.specs.Table.{SessionTable}
use Rattle.dest_steps.specs.declared.around.Here.{Here}
use Rattle.dest_steps.specs.declared.copier.Copier.{Copier}

-- how codes are made, and keys derived
pub record Codes : Type 0 where
  pub mic : List ℕ → ℕ → List ℕ → List ℕ
  pub derived : List ℕ → ℕ → List ℕ → List ℕ

-- what a step knows of the server around it: its clients, its boot number, the tag of its volume, and the second
pub record Around : Type 0 where
  pub sessions : SessionTable
  pub boot : ℕ
  pub tag : ℕ
  pub second : ℕ

abbrev pub around_of : SessionTable → Here → Around
around_of sessions here = record { sessions = sessions; boot = here.boot; tag = here.tag; second = here.second }

-- ---- Calls to the source and to clients are numbered together, from 1 on.

abbrev pub last_xid : Mounted → CallbackTable → ℕ
last_xid m c = max m.calls c.calls

abbrev pub xid_of : Mounted → CallbackTable → Option ℕ
xid_of m c = if nat_lt (last_xid m c) (2 ^ 32 - 1) then Some (last_xid m c + 1) else None

-- ---- A job that was accepted gets the lowest seat at which no other job sits. Nothing of the one before is left there.

abbrev pub at_seat : Option ℕ → JobName → Party → Copier → Copier
at_seat None job party x = x
at_seat (Some seat) job party x = record x {
  work = record x.work { mount = forgotten seat x.work.mount; seats = seated job x.copies.book.table x.work.seats };
  back = posted seat job.number party x.back;
}

abbrev pub with_seat : JobName → Party → Copier → Copier
with_seat job party x = at_seat (free_seat job.boot x.copies.book.table x.work.seats) job party x
