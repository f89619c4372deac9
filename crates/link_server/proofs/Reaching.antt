-- One call more.
use Rattle.std.proofs.Common.{◌≡◌, ℕ, ◌+◌, List, [], ◌∷◌, ◌++◌, Option, Some, None, refl, arith}
use Rattle.link_server.specs.Reaching.{Call, Made, Refused, Follows, ReachedFrom, made_in}

made_join : {K : Type 0} (calls : List (Call K)) (one : Call K) → made_in (calls ++ one ∷ []) ≡ made_in calls + made_in (one ∷ [])
made_join [] one = omega arith
made_join (Made conn message reply after ∷ calls) one = omega (arith, made_join calls one)
made_join (Refused after ∷ calls) one = made_join calls one

module _ {K : Type 0} (calls_of : K → ℕ) (step : ℕ → List ℕ → K → List ℕ → K → Type 0) (kept : K → K → Type 0) where
  follows_made : (first before after : K) (calls : List (Call K)) (conn : ℕ) (message reply : List ℕ)
      → Follows calls_of step kept first calls before → step conn message before reply after
      → Follows calls_of step kept first (calls ++ Made conn message reply after ∷ []) after
  follows_made first before after [] conn message reply follows stepped = (rw (← follows) stepped, refl)
  follows_made first before after (Made c m r next ∷ calls) conn message reply follows stepped =
      (follows.0, follows_made next before after calls conn message reply follows.1 stepped)
  follows_made first before after (Refused next ∷ calls) conn message reply follows stepped =
      (follows.0, follows_made next before after calls conn message reply follows.1 stepped)

  follows_refused : (first before after : K) (calls : List (Call K)) → Follows calls_of step kept first calls before → kept before after
      → Follows calls_of step kept first (calls ++ Refused after ∷ []) after
  follows_refused first before after [] follows stays = (rw (← follows) stays, refl)
  follows_refused first before after (Made c m r next ∷ calls) follows stays = (follows.0, follows_refused next before after calls follows.1 stays)
  follows_refused first before after (Refused next ∷ calls) follows stays = (follows.0, follows_refused next before after calls follows.1 stays)

  pub reached_made : (origin : Option K) (before after : K) (conn : ℕ) (message reply : List ℕ)
      → ReachedFrom calls_of step kept origin before → step conn message before reply after → calls_of after ≡ calls_of before + 1
      → ReachedFrom calls_of step kept origin after
  reached_made (Some first) before after conn message reply reached stepped counted = record {
    calls = reached.calls ++ Made conn message reply after ∷ [];
    follows = follows_made first before after reached.calls conn message reply reached.follows stepped;
    counted = omega (arith, reached.counted, counted, made_join reached.calls (Made conn message reply after));
  }
  reached_made None before after conn message reply reached stepped counted = absurd reached

  pub reached_refused : (origin : Option K) (before after : K) → ReachedFrom calls_of step kept origin before → kept before after
      → calls_of after ≡ calls_of before → ReachedFrom calls_of step kept origin after
  reached_refused (Some first) before after reached stays counted = record {
    calls = reached.calls ++ Refused after ∷ [];
    follows = follows_refused first before after reached.calls reached.follows stays;
    counted = omega (arith, reached.counted, counted, made_join reached.calls (Refused after));
  }
  reached_refused None before after reached stays counted = absurd reached
