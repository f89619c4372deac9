-- Two ends are the same or not; what goes on from a moment.
use Rattle.std.proofs.Common.{◌≡◌, ◌⊎◌, inl, inr, ⊎_elim, ℕ, zero, suc, ◌≤◌, refl, subst, arith}
use Rattle.nfs_base.specs.declared.seal.End.{End}
use Rattle.nfs_base.specs.declared.seal.End.TheVariants.{Source, Dest, Client}

pub same_end : (a b : End) → (a ≡ b) ⊎ (a ≡ b → ⊥)
same_end Source Source = inl refl
same_end Source Dest = inr (λ e. absurd (cc))
same_end Source Client = inr (λ e. absurd (cc))
same_end Dest Source = inr (λ e. absurd (cc))
same_end Dest Dest = inl refl
same_end Dest Client = inr (λ e. absurd (cc))
same_end Client Source = inr (λ e. absurd (cc))
same_end Client Dest = inr (λ e. absurd (cc))
same_end Client Client = inl refl

pub at_or_before : (i k : ℕ) → i ≤ suc k → (i ≤ k) ⊎ (i ≡ suc k)
at_or_before i k le = grind arith

-- what holds at i and goes on holds from i on
pub from_on : (P : ℕ → Type 0) (i : ℕ) → P i → ((k : ℕ) → i ≤ k → P k → P (suc k)) → (k : ℕ) → i ≤ k → P k
from_on P i here goes zero le = subst P (omega arith) here
from_on P i here goes (suc k) le =
    ⊎_elim (λ before. goes k before (from_on P i here goes k before)) (λ now. subst P now here) (at_or_before i k le)
