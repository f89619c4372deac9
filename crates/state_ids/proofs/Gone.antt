-- What is closed is gone.
use Rattle.std.proofs.Common.{◌≡◌, ℕ, true, false, List, [], ◌∷◌, Some, None, refl, arith}
use Rattle.std.specs.Prelude.{◌==◌, ◌&&◌, find, filter, not, if◌then◌else◌}
use Rattle.std.specs.List.{list_any}
use Rattle.std.proofs.lemmas.Grind.{common_steps}
use Rattle.nfs_base.specs.declared.state_id.StateId.{StateId}
use Rattle.nfs_base.specs.declared.status.TheConstants.Status.{BAD_STATEID}
use Rattle.state_ids.specs.declared.access.Access.{Access}
use Rattle.state_ids.specs.declared.open_file.OpenFile.{OpenFile}
use Rattle.state_ids.specs.Opens.{OpenTable, is_open, check_refusal, check_refusal_of, closed, holds_open, without_client}

not_found : (number file : ℕ) (xs : List OpenFile) → find (is_open number file) (filter (λ o. not (o.number == number)) xs) ≡ None
not_found number file [] = refl
not_found number file (x ∷ xs) = grind (arith, common_steps, not_found number file xs)

pub closed_gone : (table : OpenTable) (id : StateId) (file : ℕ) (need : Access) → check_refusal (closed id.number table) id file need ≡ Some BAD_STATEID
closed_gone table id file need =
    elim ((id.boot == table.boot) && (id.kind == 1)) as (λ b. check_refusal_of (if b then find (is_open id.number file) (closed id.number table).opens else None) id.seqid need ≡ Some BAD_STATEID) [
      | true ↦ rw (not_found id.number file table.opens) refl
      | false ↦ refl
    ]

none_held : (client : ℕ) (xs : List OpenFile) → list_any (λ o. o.client == client) (filter (λ o. not (o.client == client)) xs) ≡ false
none_held client [] = refl
none_held client (x ∷ xs) = grind (arith, common_steps, none_held client xs)

pub client_gone : (table : OpenTable) (client : ℕ) → holds_open (without_client table client) client ≡ false
client_gone table client = none_held client table.opens
