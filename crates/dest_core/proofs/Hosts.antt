-- What a host of a destination is as plain data after a part of a step, and that it gave out no number in it.
use Rattle.std.proofs.Common.{◌≡◌, ℕ, ◌≤◌, ◌*◌, List, ap, refl, sym, subst, ◌∙◌}
use Rattle.compound_server.specs.declared.server.Server.{Server}
use Rattle.dest_jobs.specs.EndingLaws.{expiring_gives_none}
use Rattle.dest_jobs.specs.declared.carried.Carried.{Carried}
use Rattle.dest_steps.specs.Landing.{doing_of}
use Rattle.dest_steps.specs.declared.copier.Copier.{Copier}
use Rattle.file_server.specs.declared.files.Files.{Files}
use Rattle.gss_ctx.specs.Table.{ContextTable}
use Rattle.nfs_base.specs.declared.limits.TheConstants.{MOST_OPERATIONS}
use Rattle.server_volume.specs.Store.{Store, store_of}
use Rattle.server_volume.specs.declared.used.Used.{Used}
use Rattle.sess_slots.specs.Table.{SessionTable}
use Rattle.session_server.specs.Host.{IsCounted, host_of}
use Rattle.session_server.specs.declared.host.Host.{Host}
use Rattle.state_ids.specs.Opens.{OpenTable}
use Rattle.dest_core.specs.Core.{leases_ended}
use Rattle.dest_core.specs.Serving.{given}
use Rattle.dest_core.specs.Stepping.{DestState, put_copier, put_extra, with_doing, without_lapsed}
use Rattle.dest_core.specs.declared.destination.Destination.{Destination}

abbrev pub with_files : {D M : Type 0} → Files D (Destination M) → Server D (Destination M) → Server D (Destination M)
with_files files server = record server { files = files }

abbrev pub with_server : {D M : Type 0} → Server D (Destination M) → Host D (Destination M) Carried → Host D (Destination M) Carried
with_server server h = record h { server = server }

-- the jobs have ended whose clients' leases have
abbrev pub ended_at : {D M : Type 0} → Host D (Destination M) Carried → Server D (Destination M)
ended_at h = put_extra (leases_ended h.server.sessions h.second h.server.files.extra) h.server

pub leases_gone : {D M : Type 0} (size : D → ℕ) (h : Host D (Destination M) Carried) (server : Server D (Destination M))
    → server ≡ ended_at h → host_of size (with_server server h) ≡ without_lapsed (host_of size h)
leases_gone size h server ended = ap (λ s. host_of size (with_server s h)) ended

-- ---- what a turn or an answer does to the copies and the volume

abbrev hosted : {M : Type 0} → ContextTable Carried → Store → OpenTable → Destination M → SessionTable → (second steps : ℕ) → DestState M
hosted contexts store opens extra sessions second steps = record {
  contexts = contexts;
  state = record { machine = record { store = store; opens = opens; extra = extra }; sessions = sessions };
  second = second;
  steps = steps;
}

pub done_in : {D M : Type 0} (size : D → ℕ) (h : Host D (Destination M) Carried) (files : Files D (Destination M)) (used : List Used)
    → files.opens ≡ h.server.files.opens → files.extra ≡ record h.server.files.extra { copier = files.extra.copier }
    → host_of size (with_server (with_files files h.server) h) ≡ with_doing (doing_of files.extra.copier (store_of size files.volume) used) (host_of size h)
done_in size h files used opens rest =
    ap (λ o. hosted h.contexts (store_of size files.volume) o files.extra h.server.sessions h.second h.steps) opens
    ∙ ap (λ x. hosted h.contexts (store_of size files.volume) h.server.files.opens x h.server.sessions h.second h.steps) rest

-- ---- numbers given out

pub still_counted : {D M : Type 0} (h : Host D (Destination M) Carried) (files : Files D (Destination M))
    → files.opens ≡ h.server.files.opens → given files.extra ≡ given h.server.files.extra
    → IsCounted given h → IsCounted given (with_server (with_files files h.server) h)
still_counted h files opens own counted = record {
  contexts = counted.contexts;
  opens = subst (λ (n : ℕ). n ≤ MOST_OPERATIONS * h.steps) (sym (ap (λ o. o.made) opens)) counted.opens;
  own = subst (λ (n : ℕ). n ≤ MOST_OPERATIONS * h.steps) (sym own) counted.own;
  clients = counted.clients;
}

pub counted_with : {D M : Type 0} (h : Host D (Destination M) Carried) (extra : Destination M)
    → given extra ≡ given h.server.files.extra → IsCounted given h → IsCounted given (with_server (put_extra extra h.server) h)
counted_with h extra own counted = still_counted h (record h.server.files { extra = extra }) refl own counted

pub counted_without_lapsed : {D M : Type 0} (h : Host D (Destination M) Carried) (server : Server D (Destination M))
    → server ≡ ended_at h → IsCounted given h → IsCounted given (with_server server h)
counted_without_lapsed h server ended counted =
    subst (λ s. IsCounted given (with_server s h)) (sym ended)
    (counted_with h (leases_ended h.server.sessions h.second h.server.files.extra)
    (expiring_gives_none h.server.sessions h.second h.server.files.extra.copier.copies) counted)

pub counted_put : {D M : Type 0} (h : Host D (Destination M) Carried) (server : Server D (Destination M)) (copier : Copier)
    → server ≡ put_copier copier h.server → copier.copies.book.table.made ≡ h.server.files.extra.copier.copies.book.table.made
    → IsCounted given h → IsCounted given (with_server server h)
counted_put h server copier same made counted =
    subst (λ s. IsCounted given (with_server s h)) (sym same)
    (counted_with h (record h.server.files.extra { copier = copier }) made counted)
