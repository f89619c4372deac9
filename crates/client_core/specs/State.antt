-- A client between two steps (RFC 7862 section 4).
use Rattle.std.specs.Prelude.{ℕ, ◌≤◌, max, []}
use Rattle.gss_ctx.specs.Table.{ContextTable}
use Rattle.nfs_base.specs.declared.seal.End.TheVariants as ends
use Rattle.nfs_base.specs.declared.side.Side.TheVariants.{Source, Dest}
use Rattle.client_copies.specs.Table.{Copies, no_copies}
use Rattle.client_site.specs.Sites.{fresh_site}
use Rattle.client_site.specs.declared.site.Site.{Site}
use Rattle.write_queue.specs.Queue.{Queued, nothing_queued}
use Rattle.client_steps.specs.Setting.{IsFit}
use Rattle.client_steps.specs.declared.setting.Setting.{Setting}

-- What it knows from the beginning, the greatest second, the count of its calls to both servers, what it has at them, its
-- copies, its writes and commits, the contexts under which the servers call back, and how many steps it made.
pub record ClientState (M : Type 0) : Type 0 where
  pub setting : Setting M
  pub second : ℕ
  pub calls : ℕ
  pub source : Site
  pub dest : Site
  pub copies : Copies
  pub source_queue : Queued
  pub dest_queue : Queued
  pub back : ContextTable ℕ
  pub steps : ℕ

-- What a client keeps true of itself: its principal and the servers' locations can be spelled, and each step made one
-- context for callbacks at most.
pub record IsKept {M : Type 0} (s : Setting M) (made steps : ℕ) : Type 0 where
  pub fit : IsFit s
  pub counted : made ≤ steps

-- nobody was called yet
abbrev pub new_client : {M : Type 0} → Setting M → ClientState M
new_client s = record {
  setting = s;
  second = 0;
  calls = 0;
  source = fresh_site Source;
  dest = fresh_site Dest;
  copies = no_copies;
  source_queue = nothing_queued;
  dest_queue = nothing_queued;
  back = record { owner = ends.Client; boot = 0; made = 0; entries = [] };
  steps = 0;
}

-- a step goes by the greatest second
abbrev pub second_at : {M : Type 0} → ℕ → ClientState M → ℕ
second_at now c = max c.second now
