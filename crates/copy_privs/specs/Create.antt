-- Which privileges a server takes in CREATE, and why it refuses one: the first cause that holds. Own
-- profile, by RFC 7862 section 4.10.1.2 and RFC 7861 section 2.7.1.
use Rattle.std.specs.Prelude.{ℕ, Bool, true, false, ◌&&◌, List, Option, None, Some, not, if◌then◌else◌, bytes_eq, find, option_map}
use Rattle.std.specs.List.{list_any}
use Rattle.nfs_base.specs.declared.net_loc.NetLoc.{NetLoc}
use Rattle.nfs_base.specs.declared.cause.PrivCause.{PrivCause}
use Rattle.nfs_base.specs.declared.cause.PrivCause.TheVariants.{Unknown, NoMatch, WrongUser, WrongPeer}
use Rattle.nfs_base.specs.Locations.{same_location}
use Rattle.copy_privs.specs.declared.create.Confirming.{Confirming}
use Rattle.copy_privs.specs.declared.peer.Peer.{Peer}
use Rattle.copy_privs.specs.declared.privilege.Privilege.{Privilege}
use Rattle.copy_privs.specs.declared.privilege.Privilege.TheVariants.{From, To, Confirm}
use Rattle.gss_mech.specs.declared.mechanism.TheConstants.{INITIATOR}

-- the code is the initiator's code of the secret under the key
abbrev pub confirms : (List ℕ → ℕ → List ℕ → List ℕ) → List ℕ → List ℕ → List ℕ → Bool
confirms mic_of code secret key = bytes_eq code (mic_of key INITIATOR secret)

-- ---- the servers of the realm

-- the location of a principal: that of the first entry with it
abbrev pub location_of : List Peer → List ℕ → Option NetLoc
location_of peers principal = option_map (λ p. p.loc) (find (λ p. bytes_eq p.principal principal) peers)

abbrev pub is_location : List Peer → NetLoc → Bool
is_location peers loc = list_any (λ p. same_location p.loc loc) peers

-- one of them has this principal and is found there
abbrev pub is_peer : List Peer → List ℕ → NetLoc → Bool
is_peer peers principal loc = list_any (λ p. bytes_eq p.principal principal && same_location p.loc loc) peers

-- ---- copy_from_auth and copy_to_auth

-- at the source: the user is the parent's principal, and the destination one of the servers
abbrev pub from_refusal : List Peer → List ℕ → NetLoc → List ℕ → Option PrivCause
from_refusal peers principal destination user =
    if not (bytes_eq user principal) then Some WrongUser
    else (if not (is_location peers destination) then Some WrongPeer else None)

-- at the destination: the user is the parent's principal, and the places of the source include the one
-- that this server copies from
abbrev pub to_refusal : NetLoc → List ℕ → List NetLoc → List ℕ → Option PrivCause
to_refusal source principal sources user =
    if not (bytes_eq user principal) then Some WrongUser
    else (if not (list_any (λ l. same_location l source) sources) then Some WrongPeer else None)

-- ---- copy_confirm_auth

-- what a confirmation comes with: the parent's principal and key, the code and the user
pub record Confirmation : Type 0 where
  pub principal : List ℕ
  pub key : List ℕ
  pub code : List ℕ
  pub user : List ℕ

abbrev pub confirmation : Confirming → Confirmation
confirmation c = record { principal = c.principal.now; key = c.key.now; code = c.code.now; user = c.user.now }

-- the tests of a privilege that a live child carries
abbrev pub is_from : Privilege → Bool
is_from (From s d u) = true
is_from _ = false

abbrev pub is_coded : (List ℕ → ℕ → List ℕ → List ℕ) → Confirmation → Privilege → Bool
is_coded mic_of c (From s d u) = confirms mic_of c.code s c.key
is_coded mic_of c _ = false

abbrev pub is_users : (List ℕ → ℕ → List ℕ → List ℕ) → Confirmation → Privilege → Bool
is_users mic_of c (From s d u) = confirms mic_of c.code s c.key && bytes_eq u c.user
is_users mic_of c _ = false

abbrev pub is_met : (List ℕ → ℕ → List ℕ → List ℕ) → List Peer → Confirmation → Privilege → Bool
is_met mic_of peers c (From s d u) = confirms mic_of c.code s c.key && bytes_eq u c.user && is_peer peers c.principal d
is_met mic_of peers c _ = false

-- the first that doesn't hold
abbrev pub first_missing : Bool → Bool → Bool → Bool → Option PrivCause
first_missing from coded users met =
    if not from then Some Unknown
    else (if not coded then Some NoMatch else (if not users then Some WrongUser else (if not met then Some WrongPeer else None)))

-- At the source, over what the live children carry: Unknown where none carries copy_from_auth; NoMatch
-- where the code is of none of their secrets; WrongUser where none of those whose secret it is of is for that
-- user; WrongPeer where none of these is for a destination of the parent's principal.
abbrev pub confirm_refusal : (List ℕ → ℕ → List ℕ → List ℕ) → List Peer → Confirmation → List Privilege → Option PrivCause
confirm_refusal mic_of peers c carried =
    first_missing (list_any is_from carried) (list_any (is_coded mic_of c) carried) (list_any (is_users mic_of c) carried) (list_any (is_met mic_of peers c) carried)

-- ---- all three

-- at the source, under a parent with this principal and key, with what its live children carry
abbrev pub source_refusal : (List ℕ → ℕ → List ℕ → List ℕ) → List Peer → List ℕ → List ℕ → List Privilege → Privilege → Option PrivCause
source_refusal mic_of peers principal key carried (From s d u) = from_refusal peers principal d u
source_refusal mic_of peers principal key carried (To s l u) = Some Unknown
source_refusal mic_of peers principal key carried (Confirm m u) =
    confirm_refusal mic_of peers (record { principal = principal; key = key; code = m; user = u }) carried

-- at the destination, which copies from one source
abbrev pub dest_refusal : NetLoc → List ℕ → Privilege → Option PrivCause
dest_refusal source principal (To s l u) = to_refusal source principal l u
dest_refusal source principal _ = Some Unknown
