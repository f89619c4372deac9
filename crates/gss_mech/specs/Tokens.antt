-- What every mechanism's tokens owe (RFC 2203 section 5.2): two ends of one realm come to one key.
use Rattle.std.specs.Prelude.{◌≡◌, ℕ, ◌≤◌, List, length, Option, Some, None, is_some, IfSome}
use Rattle.gss_mech.specs.declared.mechanism.Accepted.{Accepted}
use Rattle.wire_xdr.specs.Cursor.{IsBytes}

-- a nonce has 32 bytes
abbrev pub IsNonce : List ℕ → Type 0
IsNonce nonce = length nonce ≡ 32

-- The token was accepted as that principal's, and what goes back gives the initiator the key.
abbrev pub IsMet : List ℕ → (List ℕ → Option (List ℕ)) → Option Accepted → Type 0
IsMet principal finish None = ⊥
IsMet principal finish (Some taken) = (taken.principal ≡ principal) × (finish taken.token ≡ Some taken.key)

pub record IsAgreed {S : Type 0}
    (started : S → List ℕ → List ℕ → Option (List ℕ))
    (accepted : S → List ℕ → List ℕ → Option Accepted)
    (finished : S → List ℕ → List ℕ → List ℕ → Option (List ℕ)) : Type 0 where
  -- whether a token is accepted doesn't depend on the acceptor's nonce
  pub steady : (mech : S) (token one other : List ℕ) → IsNonce one → IsNonce other
      → is_some (accepted mech token one) ≡ is_some (accepted mech token other)
  -- what a principal starts is accepted as its own, and finishes with the same key
  pub met : (mech : S) (principal token initiator acceptor : List ℕ) → IsNonce initiator → IsNonce acceptor
      → started mech principal initiator ≡ Some token
      → IsMet principal (finished mech principal initiator) (accepted mech token acceptor)
  -- no token has more than 4,096 bytes
  pub start_within : (mech : S) (principal nonce : List ℕ) → IsNonce nonce
      → IfSome (started mech principal nonce) (λ token. length token ≤ 4096)
  pub accept_within : (mech : S) (token nonce : List ℕ) → IsNonce nonce
      → IfSome (accepted mech token nonce) (λ taken. length taken.token ≤ 4096)

-- every code has 32 bytes
abbrev pub IsSized : (List ℕ → ℕ → List ℕ → List ℕ) → Type 0
IsSized mic_of = (key : List ℕ) (side : ℕ) (bytes : List ℕ) → length (mic_of key side bytes) ≡ 32

-- Every code is bytes, and so is each token that a principal starts.
pub record IsInBytes {S : Type 0} (mic_of : List ℕ → ℕ → List ℕ → List ℕ) (started : S → List ℕ → List ℕ → Option (List ℕ)) : Type 0 where
  pub codes : (key : List ℕ) (side : ℕ) (bytes : List ℕ) → IsBytes (mic_of key side bytes)
  pub tokens : (mech : S) (principal nonce : List ℕ) → IsBytes principal → IsBytes nonce → IfSome (started mech principal nonce) IsBytes

-- both of a mechanism that is seen through another value
pub bytes_along : {R S : Type 0} {mic_of : List ℕ → ℕ → List ℕ → List ℕ} {started : S → List ℕ → List ℕ → Option (List ℕ)} (seen : R → S) → IsInBytes mic_of started
    → IsInBytes mic_of (λ (r : R). started (seen r))
bytes_along seen law = record { codes = law.codes; tokens = λ mech. law.tokens (seen mech) }

pub along : {R S : Type 0}
    {started : S → List ℕ → List ℕ → Option (List ℕ)}
    {accepted : S → List ℕ → List ℕ → Option Accepted}
    {finished : S → List ℕ → List ℕ → List ℕ → Option (List ℕ)} (seen : R → S) → IsAgreed started accepted finished
    → IsAgreed (λ r. started (seen r)) (λ r. accepted (seen r)) (λ r. finished (seen r))
along seen law = record {
  steady = λ mech. law.steady (seen mech);
  met = λ mech. law.met (seen mech);
  start_within = λ mech. law.start_within (seen mech);
  accept_within = λ mech. law.accept_within (seen mech);
}
