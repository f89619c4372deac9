-- A realm (own profile): each principal shares a key with every server, and each token and code is an
-- HMAC whose text begins with a byte that says what it is of.
use Rattle.std.specs.Prelude.{ℕ, List, [], ◌∷◌, ◌++◌, length, take, drop, nat_lt, ◌==◌, if◌then◌else◌, bytes_eq, Option, None, Some, option_map}
use Rattle.gss_mech.specs.declared.mechanism.Accepted.{Accepted}
use Rattle.gss_mech.specs.declared.token.Opening.{Opening}
use Rattle.gss_mech.specs.Hmac.{hmac}
use Rattle.gss_mech.specs.Opening.{opening}
use Rattle.wire_xdr.specs.All.{value_of}

-- names and keys
abbrev pub Keys : Type 0
Keys = List (List ℕ × List ℕ)

-- the key of the first entry with the name
abbrev pub listed_key : Keys → List ℕ → Option (List ℕ)
listed_key [] name = None
listed_key (entry ∷ keys) name = if bytes_eq entry.0 name then Some entry.1 else listed_key keys name

-- the key of a principal; a name of more than 64 bytes is no principal's
abbrev pub key_of : Keys → List ℕ → Option (List ℕ)
key_of keys name = if nat_lt 64 (length name) then None else listed_key keys name

-- the codes of both tokens, and the key of the context between two nonces
abbrev pub opening_code : List ℕ → List ℕ → List ℕ → List ℕ
opening_code key principal initiator = hmac key (1 ∷ (principal ++ initiator))

abbrev pub context_key : List ℕ → List ℕ → List ℕ → List ℕ
context_key key initiator acceptor = hmac key (2 ∷ (initiator ++ acceptor))

abbrev pub reply_code : List ℕ → List ℕ
reply_code key = hmac key (3 ∷ [])

-- the code of bytes by a side, the initiator or the acceptor
unfoldable pub realm_mic : List ℕ → ℕ → List ℕ → List ℕ
realm_mic key side bytes = hmac key (side ∷ bytes)

-- kind 4 makes a child's key from its parent's, kind 5 that of a callback context
unfoldable pub realm_derived : List ℕ → ℕ → List ℕ → List ℕ
realm_derived key kind handle = hmac key (kind ∷ handle)

-- the token that begins a context
abbrev pub opening_of : List ℕ → List ℕ → List ℕ → Opening
opening_of principal initiator key = record { principal = principal; nonce = initiator; code = opening_code key principal initiator }

unfoldable pub realm_started : Keys → List ℕ → List ℕ → Option (List ℕ)
realm_started keys principal initiator = option_map (λ key. opening.spell (opening_of principal initiator key)) (key_of keys principal)

-- the token that goes back: the acceptor's nonce and a code under the context's key
abbrev pub reply_token : List ℕ → List ℕ → List ℕ
reply_token key acceptor = acceptor ++ reply_code key

abbrev pub taken_by : List ℕ → Opening → List ℕ → Accepted
taken_by key token acceptor = record {
  principal = token.principal;
  key = context_key key token.nonce acceptor;
  token = reply_token (context_key key token.nonce acceptor) acceptor;
}

abbrev pub taken_under : Opening → List ℕ → Option (List ℕ) → Option Accepted
taken_under token acceptor None = None
taken_under token acceptor (Some key) = if bytes_eq token.code (opening_code key token.principal token.nonce) then Some (taken_by key token acceptor) else None

abbrev pub taken : Keys → List ℕ → Option Opening → Option Accepted
taken keys acceptor None = None
taken keys acceptor (Some token) = taken_under token acceptor (key_of keys token.principal)

-- a token that spells one, of a principal of the realm, with the code under its key
unfoldable pub realm_accepted : Keys → List ℕ → List ℕ → Option Accepted
realm_accepted keys bytes acceptor = taken keys acceptor (value_of opening bytes)

abbrev pub finished_under : List ℕ → List ℕ → Option (List ℕ)
finished_under key code = if bytes_eq code (reply_code key) then Some key else None

abbrev pub finished_by : Option (List ℕ) → List ℕ → List ℕ → Option (List ℕ)
finished_by None initiator token = None
finished_by (Some key) initiator token =
    if length token == 64
    then finished_under (context_key key initiator (take 32 token)) (drop 32 token)
    else None

-- 64 bytes, of which the second half is the code under the key that the first half gives
unfoldable pub realm_finished : Keys → List ℕ → List ℕ → List ℕ → Option (List ℕ)
realm_finished keys principal initiator token = finished_by (key_of keys principal) initiator token
