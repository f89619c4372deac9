-- What a client tells of itself.
use Rattle.std.specs.Prelude.{ℕ, ◌||◌, is_some, nat_lt, Bool, true, false, List, [], ◌∷◌, Option, Some, None}
use Rattle.client_copies.specs.Copies.{reported}
use Rattle.client_copies.specs.Table.{copy_at}
use Rattle.client_copies.specs.declared.copy.ClientCopy.{ClientCopy}
use Rattle.client_copies.specs.declared.copy.Report.{Report}
use Rattle.client_copies.specs.declared.table.TheConstants.{MOST_COPIES}
use Rattle.client_site.specs.Falling.{all_places}
use Rattle.client_site.specs.Sites.{up_at}
use Rattle.mount.specs.State.{Mounted, awaited_at}
use Rattle.nfs_base.specs.declared.side.Side.{Side}
use Rattle.nfs_base.specs.declared.side.Side.TheVariants.{Source, Dest}
use Rattle.client_core.specs.State.{ClientState}

-- ---- copies, of which none has a number past the last

abbrev pub copy_if : {M : Type 0} → Bool → ℕ → ClientState M → Option ClientCopy
copy_if true j c = copy_at j c.copies
copy_if false j c = None

abbrev pub copy_of : {M : Type 0} → ℕ → ClientState M → Option ClientCopy
copy_of j c = copy_if (nat_lt j MOST_COPIES) j c

abbrev pub report_of : Option ClientCopy → Option Report
report_of None = None
report_of (Some copy) = reported copy.stage

-- ---- servers that are set up

abbrev pub is_up : {M : Type 0} → Side → ClientState M → Bool
is_up Source c = is_some (up_at c.source)
is_up Dest c = is_some (up_at c.dest)

-- ---- answers that are awaited

abbrev pub some_awaits : List ℕ → Mounted → Bool
some_awaits [] m = false
some_awaits (place ∷ places) m = is_some (awaited_at m place) || some_awaits places m

abbrev pub mount_at : {M : Type 0} → Side → ClientState M → Mounted
mount_at Source c = c.source.mount
mount_at Dest c = c.dest.mount

abbrev pub awaits : {M : Type 0} → Side → ClientState M → Bool
awaits side c = some_awaits all_places (mount_at side c)
