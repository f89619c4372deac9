-- The rules of a destination, those that every server leaves open, and a destination that was just opened.
use Rattle.std.specs.Prelude.{◌≡◌, ℕ, List, [], false, None, replicate}
use Rattle.copy_privs.specs.declared.peer.Peer.{Peer}
use Rattle.dest_jobs.specs.Ending.{expires}
use Rattle.dest_back.specs.Callbacks.{no_callbacks}
use Rattle.dest_jobs.specs.declared.carried.Carried.{Carried}
use Rattle.dest_steps.specs.declared.copier.Copier.{Copier}
use Rattle.dest_tasks.specs.declared.post.Post.TheVariants.{Idle}
use Rattle.dest_tasks.specs.declared.seats.TheConstants.{SEATS}
use Rattle.dest_tasks.specs.declared.workers.TheConstants.{WORKERS}
use Rattle.gss_ctx.specs.Table.{ContextTable}
use Rattle.mount.specs.State.{fresh}
use Rattle.nfs_base.specs.declared.net_loc.NetLoc.{NetLoc}
use Rattle.nfs_base.specs.declared.seal.End.TheVariants as ends
use Rattle.sess_slots.specs.Table.{SessionTable}
use Rattle.session_server.specs.Host.{Rules, rules_of}
use Rattle.session_server.specs.declared.host.Host.{Host}
use Rattle.state_ids.specs.Opens.{OpenTable}
use Rattle.dest_core.specs.Asking.{gated}
use Rattle.dest_core.specs.Judging.{judges, silent, tells}
use Rattle.dest_core.specs.Serving.{lapses, leaves, serves}
use Rattle.dest_core.specs.declared.destination.Destination.{Destination}

abbrev pub dest_rules : {M : Type 0} → Rules (Destination M) Carried
dest_rules = rules_of gated serves leaves lapses judges tells silent

-- ---- the jobs end whose clients' leases have

abbrev pub leases_ended : {M : Type 0} → SessionTable → (second : ℕ) → Destination M → Destination M
leases_ended sessions second x = record x { copier = record x.copier { copies = expires sessions second x.copier.copies } }

-- ---- just opened: nobody has called, and nothing is copied

abbrev pub no_contexts : (boot : ℕ) → ContextTable Carried
no_contexts boot = record { owner = ends.Dest; boot = boot; made = 0; entries = [] }

abbrev pub no_opens : (boot : ℕ) → OpenTable
no_opens boot = record { boot = boot; opens = []; numbers = 0; made = 0 }

abbrev pub no_sessions : (boot : ℕ) → SessionTable
no_sessions boot = record { boot = boot; clients = []; sessions = []; clients_made = 0; sessions_made = 0 }

abbrev pub no_copier : (boot capacity : ℕ) → Peer → (principal : List ℕ) → Copier
no_copier boot capacity source principal = record {
  copies = record { book = record { table = record { boot = boot; capacity = capacity; made = 0; jobs = [] }; past = 0 }; told = []; source = source };
  work = record { mount = fresh ends.Source false; workers = replicate WORKERS Idle; seats = replicate SEATS None };
  back = no_callbacks;
  principal = principal;
}

abbrev pub no_copies : {M : Type 0} → (boot capacity : ℕ) → M → Peer → (principal : List ℕ) → NetLoc → Destination M
no_copies boot capacity mech source principal own =
    record { copier = no_copier boot capacity source principal; own = own; mech = mech }

pub record IsNew {D M : Type 0} (mech : M) (source : Peer) (principal : List ℕ) (own : NetLoc) (host : Host D (Destination M) Carried) : Type 0 where
  pub contexts : host.contexts ≡ no_contexts host.server.files.volume.volume.boot
  pub opens : host.server.files.opens ≡ no_opens host.server.files.volume.volume.boot
  pub sessions : host.server.sessions ≡ no_sessions host.server.files.volume.volume.boot
  pub extra : host.server.files.extra ≡ no_copies host.server.files.volume.volume.boot host.server.files.volume.volume.capacity mech source principal own
  pub second : host.second ≡ 0
  pub steps : host.steps ≡ 0
