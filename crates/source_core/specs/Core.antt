-- The rules of a source, those that every server leaves open, and a source that was just opened.
use Rattle.std.specs.Prelude.{◌≡◌, ℕ, List, [], None}
use Rattle.copy_grants.specs.Grants.{no_grants}
use Rattle.copy_privs.specs.declared.peer.Peer.{Peer}
use Rattle.gss_ctx.specs.Seals.{Mic}
use Rattle.gss_ctx.specs.Table.{ContextTable}
use Rattle.nfs_base.specs.declared.net_loc.NetLoc.{NetLoc}
use Rattle.nfs_base.specs.declared.seal.End.TheVariants as ends
use Rattle.sess_slots.specs.Table.{SessionTable}
use Rattle.session_server.specs.Host.{Rules, rules_of}
use Rattle.session_server.specs.declared.host.Host.{Host}
use Rattle.state_ids.specs.Opens.{OpenTable}
use Rattle.source_core.specs.Asking.{gated}
use Rattle.source_core.specs.Judging.{judges, silent, tells}
use Rattle.source_core.specs.Serving.{lapses, leaves, serves}
use Rattle.source_core.specs.declared.carried.Carried.{Carried}
use Rattle.source_core.specs.declared.source.Source.{Source}

abbrev pub source_rules : {M : Type 0} → Mic → Rules (Source M) Carried
source_rules mic = rules_of (gated mic) serves leaves lapses (judges mic) tells silent

-- ---- just opened: nobody has called, and nothing is granted

abbrev pub no_contexts : (boot : ℕ) → ContextTable Carried
no_contexts boot = record { owner = ends.Source; boot = boot; made = 0; entries = [] }

abbrev pub no_opens : (boot : ℕ) → OpenTable
no_opens boot = record { boot = boot; opens = []; numbers = 0; made = 0 }

abbrev pub no_sessions : (boot : ℕ) → SessionTable
no_sessions boot = record { boot = boot; clients = []; sessions = []; clients_made = 0; sessions_made = 0 }

abbrev pub no_source : {M : Type 0} → (boot : ℕ) → M → List Peer → NetLoc → Source M
no_source boot mech peers own = record { grants = no_grants boot; peers = peers; own = own; refusal = None; mech = mech }

pub record IsNew {D M : Type 0} (mech : M) (peers : List Peer) (own : NetLoc) (host : Host D (Source M) Carried) : Type 0 where
  pub contexts : host.contexts ≡ no_contexts host.server.files.volume.volume.boot
  pub opens : host.server.files.opens ≡ no_opens host.server.files.volume.volume.boot
  pub sessions : host.server.sessions ≡ no_sessions host.server.files.volume.volume.boot
  pub extra : host.server.files.extra ≡ no_source host.server.files.volume.volume.boot mech peers own
  pub second : host.second ≡ 0
  pub steps : host.steps ≡ 0
