-- The realm's tokens agree: its laws as a mechanism.
use Rattle.std.specs.Prelude.{◌≡◌, ℕ, ◌+◌, ◌≤◌, nat_lt, if◌then◌else◌, Bool, true, false, List, [], ◌∷◌, ◌++◌, length, take, drop, bytes_eq, Option, None, Some, option_map, is_some, IfSome, refl}
use Rattle.std.proofs.Common.{subst, arith, rules}
use Rattle.std.proofs.lemmas.List.{length-append}
use Rattle.std.proofs.Math.Seq.{take-append_seam, drop-append_seam}
use Rattle.std.proofs.lemmas.Slice.Eq.{bytes_eq-Decides}
use Rattle.sha2.proofs.Facts256.{length-sha256}
use Rattle.sha2.specs.Sha256.{sha256}
use Rattle.wire_xdr.specs.Cursor.{IsBytes}
use Rattle.wire_xdr.specs.Words.{word_bytes, fixed_bytes, opaque_bytes}
use Rattle.gss_mech.specs.declared.mechanism.Accepted.{Accepted}
use Rattle.gss_mech.specs.declared.token.Opening.{Opening}
use Rattle.gss_mech.specs.Hmac.{hmac}
use Rattle.gss_mech.specs.BytesLaws.{digest_are, fixed_are, glued, opaque_are}
use Rattle.gss_mech.specs.Tokens.{IsNonce, IsMet, IsAgreed, IsInBytes, IsSized}
use Rattle.gss_mech.specs.Opening.{opening}
use Rattle.wire_xdr.specs.All.{value_of}
use Rattle.wire_xdr.specs.AllLaws.{spelled_value}
use Rattle.wire_xdr.specs.LengthLaws.{word_length, fixed_length, padding_below}
use Rattle.gss_mech.specs.Realm.{realm_mic, Keys, key_of, listed_key, opening_of, opening_code, context_key, reply_code, reply_token, taken, taken_under, taken_by, finished_by, realm_started, realm_accepted, realm_finished}

length-hmac : (key text : List ℕ) → length (hmac key text) ≡ 32
unfolding hmac
length-hmac key text = length-sha256 _

same_bytes : (xs : List ℕ) → bytes_eq xs xs ≡ true
same_bytes xs = (bytes_eq-Decides xs xs).1 refl

-- ---- whether a token is accepted doesn't depend on the nonce

steady_test : (b : Bool) (x y : Accepted) → is_some (if b then Some x else None) ≡ is_some (if b then Some y else None)
steady_test true x y = refl
steady_test false x y = refl

steady_under : (t : Opening) (one other : List ℕ) (key : Option (List ℕ)) → is_some (taken_under t one key) ≡ is_some (taken_under t other key)
steady_under t one other None = refl
steady_under t one other (Some key) = steady_test (bytes_eq t.code (opening_code key t.principal t.nonce)) (taken_by key t one) (taken_by key t other)

steady_taken : (keys : Keys) (one other : List ℕ) (t : Option Opening) → is_some (taken keys one t) ≡ is_some (taken keys other t)
steady_taken keys one other None = refl
steady_taken keys one other (Some t) = steady_under t one other (key_of keys t.principal)

steady : (keys : Keys) (token one other : List ℕ) → is_some (realm_accepted keys token one) ≡ is_some (realm_accepted keys token other)
unfolding realm_accepted
steady keys token one other = steady_taken keys one other (value_of opening token)

-- ---- a principal's name has at most 64 bytes

short_if : (b : Bool) (key : Option (List ℕ)) (k : List ℕ) → (if b then None else key) ≡ Some k → b ≡ false
short_if true key k h = let wrong : ⊥ = cc in absurd wrong
short_if false key k h = refl

short_name : (keys : Keys) (name key : List ℕ) → key_of keys name ≡ Some key → length name ≤ 64
short_name keys name key h = let b = short_if (nat_lt 64 (length name)) (listed_key keys name) key h in search (rules, b)

-- ---- what a principal starts

opening_fits : (p ni key : List ℕ) → length p ≤ 64 → IsNonce ni → opening.Fits (opening_of p ni key)
unfolding opening
opening_fits p ni key small nonce = (small, (nonce, length-hmac key _))

finish_met : (key na : List ℕ) (initiator : List ℕ) → IsNonce na
    → finished_by (Some key) initiator (reply_token (context_key key initiator na) na) ≡ Some (context_key key initiator na)
finish_met key na ni nonce =
    let code = reply_code (context_key key ni na) in
    let long : length (na ++ code) ≡ 64 = simp length-append (omega (arith, length-hmac (context_key key ni na) (3 ∷ []))) in
    let front : take 32 (na ++ code) ≡ na = subst (λ (n : ℕ). take n (na ++ code) ≡ na) nonce (take-append_seam na code) in
    let back : drop 32 (na ++ code) ≡ code = subst (λ (n : ℕ). drop n (na ++ code) ≡ code) nonce (drop-append_seam na code) in
    rw (long, front, back, same_bytes code) refl

met_under : (keys : Keys) (p ni na key : List ℕ) → IsNonce ni → IsNonce na → key_of keys p ≡ Some key
    → IsMet p (λ token. finished_by (key_of keys p) ni token) (taken keys na (Some (opening_of p ni key)))
met_under keys p ni na key one other is =
    rw (is, same_bytes (opening_code key p ni)) (refl, finish_met key na ni other)

met_of : (keys : Keys) (p token ni na : List ℕ) → IsNonce ni → IsNonce na → (key : Option (List ℕ)) → key_of keys p ≡ key
    → option_map (λ k. opening.spell (opening_of p ni k)) key ≡ Some token
    → IsMet p (λ t. finished_by (key_of keys p) ni t) (taken keys na (value_of opening token))
met_of keys p token ni na one other None is h = let wrong : ⊥ = cc in absurd wrong
met_of keys p token ni na one other (Some key) is h =
    let v = opening_of p ni key in
    let spelled : opening.spell v ≡ token = cc in
    let whole : value_of opening token ≡ Some v = subst (λ (t : List ℕ). value_of opening t ≡ Some v) spelled (spelled_value opening v (opening_fits p ni key (short_name keys p key is) one)) in
    rw whole (met_under keys p ni na key one other is)

met : (keys : Keys) (p token ni na : List ℕ) → IsNonce ni → IsNonce na → realm_started keys p ni ≡ Some token → IsMet p (realm_finished keys p ni) (realm_accepted keys token na)
unfolding realm_started realm_accepted realm_finished
met keys p token ni na one other h = met_of keys p token ni na one other (key_of keys p) refl h

-- ---- the tokens' lengths

length-parts : (a b c d : List ℕ) → length (a ++ b ++ (c ++ d)) ≡ length a + length b + (length c + length d)
length-parts a b c d = omega (arith, length-append (a ++ b) (c ++ d), length-append a b, length-append c d)

opening_within : (p ni key : List ℕ) → length p ≤ 64 → IsNonce ni → length (opening.spell (opening_of p ni key)) ≤ 4096
unfolding opening opaque_bytes
opening_within p ni key small nonce =
    omega (arith, length-parts (word_bytes (length p)) (fixed_bytes p) (fixed_bytes ni) (fixed_bytes (opening_code key p ni)), word_length (length p), fixed_length p, fixed_length ni, fixed_length (opening_code key p ni), padding_below (length p), padding_below (length ni), padding_below (length (opening_code key p ni)), length-hmac key (1 ∷ (p ++ ni)))

started_within : (keys : Keys) (p ni : List ℕ) → IsNonce ni → (key : Option (List ℕ)) → key_of keys p ≡ key
    → IfSome (option_map (λ k. opening.spell (opening_of p ni k)) key) (λ token. length token ≤ 4096)
started_within keys p ni nonce None is = tt
started_within keys p ni nonce (Some key) is = opening_within p ni key (short_name keys p key is) nonce

start_within : (keys : Keys) (p ni : List ℕ) → IsNonce ni → IfSome (realm_started keys p ni) (λ token. length token ≤ 4096)
unfolding realm_started
start_within keys p ni nonce = started_within keys p ni nonce (key_of keys p) refl

reply_within : (key na : List ℕ) → IsNonce na → length (reply_token key na) ≤ 4096
reply_within key na nonce = simp (length-append, length-hmac) (omega arith)

within_test : (b : Bool) (a : Accepted) → length a.token ≤ 4096 → IfSome (if b then Some a else None) (λ t. length t.token ≤ 4096)
within_test true a h = h
within_test false a h = tt

within_under : (t : Opening) (na : List ℕ) → IsNonce na → (key : Option (List ℕ)) → IfSome (taken_under t na key) (λ a. length a.token ≤ 4096)
within_under t na nonce None = tt
within_under t na nonce (Some key) = within_test (bytes_eq t.code (opening_code key t.principal t.nonce)) (taken_by key t na) (reply_within (context_key key t.nonce na) na nonce)

within_taken : (keys : Keys) (na : List ℕ) → IsNonce na → (t : Option Opening) → IfSome (taken keys na t) (λ a. length a.token ≤ 4096)
within_taken keys na nonce None = tt
within_taken keys na nonce (Some t) = within_under t na nonce (key_of keys t.principal)

accept_within : (keys : Keys) (token na : List ℕ) → IsNonce na → IfSome (realm_accepted keys token na) (λ a. length a.token ≤ 4096)
unfolding realm_accepted
accept_within keys token na nonce = within_taken keys na nonce (value_of opening token)

pub realm_agreed : IsAgreed realm_started realm_accepted realm_finished
realm_agreed = record {
  steady = λ keys token one other _ _. steady keys token one other;
  met = met;
  start_within = start_within;
  accept_within = accept_within;
}

pub realm_sized : IsSized realm_mic
unfolding realm_mic
realm_sized key side bytes = length-hmac key (side ∷ bytes)

-- ---- codes and tokens are bytes

hmac_are : (key text : List ℕ) → IsBytes (hmac key text)
unfolding hmac sha256
hmac_are key text = digest_are _ 8

code_are : (key : List ℕ) (side : ℕ) (bytes : List ℕ) → IsBytes (realm_mic key side bytes)
unfolding realm_mic
code_are key side bytes = hmac_are key (side ∷ bytes)

token_are : (principal nonce : List ℕ) (o : Option (List ℕ)) → IsBytes principal → IsBytes nonce → IfSome (option_map (λ key. opening.spell (opening_of principal nonce key)) o) IsBytes
unfolding opening
token_are principal nonce None p n = tt
token_are principal nonce (Some key) p n = search (glued, opaque_are, fixed_are, p, n, hmac_are) depth 20

tokens_are : (keys : Keys) (principal nonce : List ℕ) → IsBytes principal → IsBytes nonce → IfSome (realm_started keys principal nonce) IsBytes
unfolding realm_started
tokens_are keys principal nonce p n = token_are principal nonce (key_of keys principal) p n

pub realm_in_bytes : IsInBytes realm_mic realm_started
realm_in_bytes = record { codes = code_are; tokens = tokens_are }
