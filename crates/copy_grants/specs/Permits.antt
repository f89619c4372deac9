-- Whether a READ under a grant is permitted: the first row whose condition holds is the cause, and where none
-- holds the grant is used (RFC 7862 section 4.10.1.3; the rows and their order are this profile's).
use Rattle.std.specs.Prelude.{ℕ, ◌==◌, ◌&&◌, Bool, false, List, Option, None, Some, not, is_none, if◌then◌else◌, bytes_eq, option_map}
use Rattle.std.specs.List.{list_any}
use Rattle.nfs_base.specs.Changed.{changed}
use Rattle.nfs_base.specs.Locations.{same_location}
use Rattle.nfs_base.specs.declared.cause.Cause.{Cause}
use Rattle.nfs_base.specs.declared.cause.Cause.TheVariants.{NoPrivilege, Stale, Unknown, Expired, WrongFile, WrongDestination, WrongUser, Unconfirmed}
use Rattle.nfs_base.specs.declared.net_loc.NetLoc.{NetLoc}
use Rattle.nfs_base.specs.declared.state_id.StateId.{StateId}
use Rattle.nfs_base.specs.declared.status.Status.{Status}
use Rattle.nfs_base.specs.declared.status.TheConstants.Status.{ACCESS, BAD_STATEID, EXPIRED}
use Rattle.copy_privs.specs.Create.{confirms}
use Rattle.copy_grants.specs.declared.ask.Ask.{Ask}
use Rattle.copy_grants.specs.declared.ask.Permit.{Permit}
use Rattle.copy_grants.specs.declared.ask.Permit.TheVariants.{Permitted, Denied}
use Rattle.copy_grants.specs.declared.grant.Grant.{Grant}
use Rattle.copy_grants.specs.Grants.{GrantTable, is_live, grant_numbered}

-- what is asked: the stateid and the current file, the location of the parent's principal, whether the
-- context carries a confirmation, that one's user and code, and the parent's key
pub record Asked : Type 0 where
  pub id : StateId
  pub file : ℕ
  pub peer : Option NetLoc
  pub confirmed : Bool
  pub user : List ℕ
  pub code : List ℕ
  pub key : List ℕ

abbrev pub asked : Ask → Asked
asked a = record { id = a.id; file = a.file; peer = option_map (λ l. l.now) a.peer; confirmed = a.confirmed; user = a.user.now; code = a.code.now; key = a.key.now }

abbrev pub is_at : Option NetLoc → NetLoc → Bool
is_at None loc = false
is_at (Some peer) loc = same_location loc peer

-- rows 5 to 8, of one grant: another file, another destination than the parent's, another user, and a code
-- that isn't that of the grant's secret
abbrev pub use_refusal : (List ℕ → ℕ → List ℕ → List ℕ) → Asked → Grant → Option Cause
use_refusal mic_of a g =
    if not (g.file == a.file) then Some WrongFile
    else (if not (is_at a.peer g.destination) then Some WrongDestination
    else (if not (bytes_eq g.user a.user) then Some WrongUser
    else (if not (confirms mic_of a.code g.secret a.key) then Some Unconfirmed
    else None)))

-- rows 3 and 4: there is no such grant, or its last use was 90 or more seconds ago
abbrev pub grant_refusal : (List ℕ → ℕ → List ℕ → List ℕ) → ℕ → Asked → Option Grant → Option Cause
grant_refusal mic_of now a None = Some Unknown
grant_refusal mic_of now a (Some g) = if not (is_live now g) then Some Expired else use_refusal mic_of a g

-- rows 1 and 2: no confirmation is carried, or the stateid is of another boot
abbrev pub permit_refusal : (List ℕ → ℕ → List ℕ → List ℕ) → GrantTable → ℕ → Asked → Option Cause
permit_refusal mic_of table now a =
    if not a.confirmed then Some NoPrivilege
    else (if not (a.id.boot == table.boot) then Some Stale
    else grant_refusal mic_of now a (grant_numbered table a.id.number))

abbrev pub permit_of : Option Cause → Permit
permit_of None = Permitted
permit_of (Some cause) = Denied cause

-- the grant is used now
abbrev pub used : ℕ → ℕ → GrantTable → GrantTable
used number now table = record table { grants = changed (λ g. g.number == number) (λ g. record g { used = now }) table.grants }

abbrev pub permit_table_of : Option Cause → GrantTable → ℕ → ℕ → GrantTable
permit_table_of None table number now = used number now table
permit_table_of (Some cause) table number now = table

-- the table afterwards
abbrev pub permit_table : (List ℕ → ℕ → List ℕ → List ℕ) → GrantTable → ℕ → Asked → GrantTable
permit_table mic_of table now a = permit_table_of (permit_refusal mic_of table now a) table a.id.number now

-- some live grant passes rows 5 to 8
abbrev pub shown_by : (List ℕ → ℕ → List ℕ → List ℕ) → ℕ → Asked → Grant → Bool
shown_by mic_of now a g = is_live now g && is_none (use_refusal mic_of a g)

abbrev pub is_shown : (List ℕ → ℕ → List ℕ → List ℕ) → GrantTable → ℕ → Asked → Bool
is_shown mic_of table now a = list_any (shown_by mic_of now a) table.grants

-- the status with which a READ is refused for a cause
abbrev pub cause_status : Cause → Status
cause_status NoPrivilege = ACCESS
cause_status Stale = BAD_STATEID
cause_status Unknown = BAD_STATEID
cause_status Expired = EXPIRED
cause_status WrongFile = BAD_STATEID
cause_status WrongDestination = ACCESS
cause_status WrongUser = ACCESS
cause_status Unconfirmed = ACCESS
