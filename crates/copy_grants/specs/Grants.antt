-- The grants of a source as contracts see them: what COPY_NOTIFY granted (RFC 7862 sections 4.8 and 15.3).
use Rattle.std.specs.Prelude.{ℕ, ◌+◌, ◌-◌, ◌==◌, ◌++◌, Bool, List, [], ◌∷◌, Option, None, Some, not, find, filter, if◌then◌else◌, nat_lt, nat_le, length, Result, Ok, Err}
use Rattle.nfs_base.specs.declared.limits.TheConstants.{MOST_GRANTS, LEASE_SECONDS}
use Rattle.nfs_base.specs.declared.net_loc.NetLoc.{NetLoc}
use Rattle.nfs_base.specs.declared.state_id.StateId.{StateId}
use Rattle.nfs_base.specs.declared.status.Status.{Status}
use Rattle.nfs_base.specs.declared.status.TheConstants.Status.{BAD_STATEID}
use Rattle.copy_grants.specs.declared.grant.Grant.{Grant}
use Rattle.copy_grants.specs.declared.grants.Full.{Full}

-- the boot number of the server, its grants, and how many numbers it gave to grants
pub record GrantTable : Type 0 where
  pub boot : ℕ
  pub grants : List Grant
  pub made : ℕ

abbrev pub no_grants : ℕ → GrantTable
no_grants boot = record { boot = boot; grants = []; made = 0 }

-- it was used in the last 90 seconds
abbrev pub is_live : ℕ → Grant → Bool
is_live now g = nat_lt (now - g.used) LEASE_SECONDS

abbrev pub grant_numbered : GrantTable → ℕ → Option Grant
grant_numbered table number = find (λ g. g.number == number) table.grants

-- the stateid of a grant: seqid 1 and kind 2
abbrev pub grant_id : ℕ → ℕ → StateId
grant_id boot number = record { seqid = 1; kind = 2; boot = boot; number = number }

-- ---- COPY_NOTIFY

abbrev pub is_full : GrantTable → Bool
is_full table = nat_le MOST_GRANTS (length table.grants)

abbrev pub full : Full
full = record {}

abbrev pub notify_answer : GrantTable → Result StateId Full
notify_answer table = if is_full table then Err full else Ok (grant_id table.boot (table.made + 1))

abbrev pub new_grant : ℕ → ℕ → ℕ → NetLoc → List ℕ → List ℕ → Grant
new_grant number now file destination user secret =
    record { number = number; file = file; destination = destination; user = user; secret = secret; used = now }

abbrev pub with_grant : GrantTable → ℕ → ℕ → NetLoc → List ℕ → List ℕ → GrantTable
with_grant table now file destination user secret =
    record table {
      grants = table.grants ++ new_grant (table.made + 1) now file destination user secret ∷ [];
      made = table.made + 1;
    }

abbrev pub notify_table : GrantTable → ℕ → ℕ → NetLoc → List ℕ → List ℕ → GrantTable
notify_table table now file destination user secret =
    if is_full table then table else with_grant table now file destination user secret

-- ---- OFFLOAD_CANCEL of a grant, and the passing of time

abbrev pub cancel_refusal_of : Bool → Option Grant → Option Status
cancel_refusal_of here None = Some BAD_STATEID
cancel_refusal_of here (Some g) = if here then None else Some BAD_STATEID

-- another boot's stateid, or one that names no grant
abbrev pub cancel_refusal : GrantTable → StateId → Option Status
cancel_refusal table id = cancel_refusal_of (id.boot == table.boot) (grant_numbered table id.number)

abbrev pub cancelled : ℕ → GrantTable → GrantTable
cancelled number table = record table { grants = filter (λ g. not (g.number == number)) table.grants }

-- those last used 180 or more seconds ago are taken out
abbrev pub is_kept : ℕ → Grant → Bool
is_kept now g = nat_lt (now - g.used) 180

abbrev pub expired : ℕ → GrantTable → GrantTable
expired now table = record table { grants = filter (is_kept now) table.grants }
