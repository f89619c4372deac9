-- One more carried privilege: a confirmation goes as far as over those before or over this one.
use Rattle.std.proofs.Common.{◌≡◌, ℕ, Bool, true, false, List, [], ◌∷◌, ◌++◌, refl, arith}
use Rattle.std.specs.Prelude.{◌&&◌, ◌||◌, bytes_eq}
use Rattle.std.specs.List.{list_any}
use Rattle.std.proofs.lemmas.Grind.{common_steps}
use Rattle.copy_privs.specs.declared.peer.Peer.{Peer}
use Rattle.copy_privs.specs.declared.privilege.Privilege.{Privilege}
use Rattle.copy_privs.specs.declared.privilege.Privilege.TheVariants.{From, To, Confirm}
use Rattle.copy_privs.specs.Create.{Confirmation, confirms, is_peer, confirm_refusal, first_missing, is_from, is_coded, is_users, is_met}
use Rattle.copy_privs.specs.Further.{further}

any_more : {X : Type 0} (test : X → Bool) (xs : List X) (x : X) → list_any test (xs ++ x ∷ []) ≡ (list_any test xs || list_any test (x ∷ []))
any_more test [] x = refl
any_more {X} test (y ∷ ys) x = grind (arith, common_steps, any_more test ys x)

any_weaker : {X : Type 0} (test wide : X → Bool) (xs : List X) → ((x : X) → test x ≡ true → wide x ≡ true) → list_any test xs ≡ true → list_any wide xs ≡ true
any_weaker test wide [] within h = cc
any_weaker {X} test wide (y ∷ ys) within h = grind (arith, common_steps, any_weaker test wide ys within, within y)

coded_from : (mic_of : List ℕ → ℕ → List ℕ → List ℕ) (c : Confirmation) (p : Privilege) → is_coded mic_of c p ≡ true → is_from p ≡ true
coded_from mic_of c (From s d u) h = refl
coded_from mic_of c (To s l u) h = cc
coded_from mic_of c (Confirm m u) h = cc

and_first : (a b : Bool) → (a && b) ≡ true → a ≡ true
and_first true b h = refl
and_first false b h = cc

users_coded : (mic_of : List ℕ → ℕ → List ℕ → List ℕ) (c : Confirmation) (p : Privilege) → is_users mic_of c p ≡ true → is_coded mic_of c p ≡ true
users_coded mic_of c (From s d u) h = and_first _ _ h
users_coded mic_of c (To s l u) h = cc
users_coded mic_of c (Confirm m u) h = cc

and_front : (a b d : Bool) → (a && b && d) ≡ true → (a && b) ≡ true
and_front true true d h = refl
and_front true false d h = cc
and_front false b d h = cc

met_users : (mic_of : List ℕ → ℕ → List ℕ → List ℕ) (peers : List Peer) (c : Confirmation) (p : Privilege) → is_met mic_of peers c p ≡ true → is_users mic_of c p ≡ true
met_users mic_of peers c (From s d u) h = and_front (confirms mic_of c.code s c.key) (bytes_eq u c.user) (is_peer peers c.principal d) h
met_users mic_of peers c (To s l u) h = cc
met_users mic_of peers c (Confirm m u) h = cc

-- each test holds only where the one before it does
record Nested (a b c d : Bool) : Type 0 where
  second : b ≡ true → a ≡ true
  third : c ≡ true → b ≡ true
  fourth : d ≡ true → c ≡ true

nested : (mic_of : List ℕ → ℕ → List ℕ → List ℕ) (peers : List Peer) (c : Confirmation) (xs : List Privilege) → Nested (list_any is_from xs) (list_any (is_coded mic_of c) xs) (list_any (is_users mic_of c) xs) (list_any (is_met mic_of peers c) xs)
nested mic_of peers c xs = record {
  second = any_weaker (is_coded mic_of c) is_from xs (coded_from mic_of c);
  third = any_weaker (is_users mic_of c) (is_coded mic_of c) xs (users_coded mic_of c);
  fourth = any_weaker (is_met mic_of peers c) (is_users mic_of c) xs (met_users mic_of peers c);
}

by_stage : (P : Bool → Bool → Bool → Bool → Type 0) → P false false false false → P true false false false → P true true false false → P true true true false → P true true true true → (a b c d : Bool) → Nested a b c d → P a b c d
by_stage P u v w x y true true true true n = y
by_stage P u v w x y true true true false n = x
by_stage P u v w x y true true false false n = w
by_stage P u v w x y true true false true n = let e : false ≡ true = n.fourth refl in absurd cc
by_stage P u v w x y true false false false n = v
by_stage P u v w x y true false true d n = let e : false ≡ true = n.third refl in absurd cc
by_stage P u v w x y true false false true n = let e : false ≡ true = n.fourth refl in absurd cc
by_stage P u v w x y false false false false n = u
by_stage P u v w x y false true c d n = let e : false ≡ true = n.second refl in absurd cc
by_stage P u v w x y false false true d n = let e : false ≡ true = n.third refl in absurd cc
by_stage P u v w x y false false false true n = let e : false ≡ true = n.fourth refl in absurd cc

joined : (a b c d e f g h : Bool) → Nested a b c d → Nested e f g h → further (first_missing a b c d) (first_missing e f g h) ≡ first_missing (a || e) (b || f) (c || g) (d || h)
joined a b c d e f g h m n =
    by_stage (λ a b c d. further (first_missing a b c d) (first_missing e f g h) ≡ first_missing (a || e) (b || f) (c || g) (d || h))
    (by_stage (λ e f g h. further (first_missing false false false false) (first_missing e f g h) ≡ first_missing e f g h) refl refl refl refl refl e f g h n)
    (by_stage (λ e f g h. further (first_missing true false false false) (first_missing e f g h) ≡ first_missing true f g h) refl refl refl refl refl e f g h n)
    (by_stage (λ e f g h. further (first_missing true true false false) (first_missing e f g h) ≡ first_missing true true g h) refl refl refl refl refl e f g h n)
    (by_stage (λ e f g h. further (first_missing true true true false) (first_missing e f g h) ≡ first_missing true true true h) refl refl refl refl refl e f g h n)
    refl a b c d m

pub one_more : (mic_of : List ℕ → ℕ → List ℕ → List ℕ) (peers : List Peer) (c : Confirmation) (seen : List Privilege) (p : Privilege) → further (confirm_refusal mic_of peers c seen) (confirm_refusal mic_of peers c (p ∷ [])) ≡ confirm_refusal mic_of peers c (seen ++ p ∷ [])
one_more mic_of peers c seen p =
    rw (any_more is_from seen p, any_more (is_coded mic_of c) seen p, any_more (is_users mic_of c) seen p, any_more (is_met mic_of peers c) seen p)
    (joined _ _ _ _ _ _ _ _ (nested mic_of peers c seen) (nested mic_of peers c (p ∷ [])))
