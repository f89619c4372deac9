-- What holds of a destination as a caller, between its steps.
use Rattle.std.specs.Prelude.{◌≡◌, ℕ, ◌<◌, ◌≤◌, Option, Some, None}
use Rattle.std.specs.List.{AllByRecursion}
use Rattle.caller_laws.specs.Good.{Identity, IsGood}
use Rattle.dest_back.specs.Callbacks.{CallbackTable, post_at}
use Rattle.dest_back.specs.declared.callbacks.Awaiting.{Awaiting}
use Rattle.dest_back.specs.declared.callbacks.Post.{Post}
use Rattle.dest_back.specs.declared.line.Line.{Line}
use Rattle.dest_steps.specs.declared.copier.Copier.{Copier}
use Rattle.job_table.specs.Table.{JobTable}
use Rattle.job_table.specs.declared.job.Job.{Job}
use Rattle.nfs_base.specs.declared.seal.End.TheVariants.{Client, Source}

-- ---- callbacks go out, and are answered, under contexts of the clients'

abbrev pub IsClientsLine : Line → Type 0
IsClientsLine line = line.caller.owner ≡ Client

abbrev pub IsClientsCall : Option Awaiting → Type 0
IsClientsCall None = Unit {0}
IsClientsCall (Some a) = a.seal.owner ≡ Client

abbrev pub IsClientsPost : Option Post → Type 0
IsClientsPost None = Unit {0}
IsClientsPost (Some post) = IsClientsCall post.awaiting

pub record AreClients (c : CallbackTable) : Type 0 where
  pub lines : AllByRecursion IsClientsLine c.lines
  pub posts : (seat : ℕ) → IsClientsPost (post_at c seat)

-- ---- the jobs that are there have numbers that were given out

abbrev pub IsGivenOut : (made : ℕ) → Job → Type 0
IsGivenOut made job = (0 < job.number) × (job.number ≤ made)

abbrev pub AreGivenOut : JobTable → Type 0
AreGivenOut t = AllByRecursion (IsGivenOut t.made) t.jobs

-- ---- All of it: the mount of the source is as it should be.

pub record IsSettledAs (who : Identity) (x : Copier) : Type 0 where
  pub good : IsGood who x.work.mount
  pub server : x.work.mount.server ≡ Source
  pub clients : AreClients x.back
  pub given : AreGivenOut x.copies.book.table
