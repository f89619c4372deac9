-- Whose a token is, by what a server makes of it that takes it (RFC 2203 section 5.2.2).
use Rattle.std.specs.Prelude.{ℕ, List, Option, option_map}
use Rattle.gss_mech.specs.declared.mechanism.Accepted.{Accepted}
use Rattle.nfs_base.specs.declared.seal.End.{End}
use Rattle.caller_laws.specs.Good.{Identity}

-- the principal that a server finds in a token, with a nonce of its own
abbrev pub principal_in : (List ℕ → List ℕ → Option Accepted) → List ℕ → List ℕ → Option (List ℕ)
principal_in accepted nonce token = option_map (λ (a : Accepted). a.principal) (accepted token nonce)

-- the end that calls, to such a server
abbrev pub known_by : (List ℕ → List ℕ → Option Accepted) → List ℕ → (List ℕ → Option End) → End → Identity
known_by accepted nonce whose own = record { accepts = principal_in accepted nonce; whose = whose; own = own }
