-- How many clients there are, and of one pair of a principal and an owner, once some are taken out, added or
-- confirmed.
use Rattle.std.proofs.Common.{◌≡◌, ℕ, ◌+◌, ◌-◌, ◌<◌, ◌≤◌, Bool, true, false, cond, List, [], ◌∷◌, ◌++◌, length, map, Option, Some, None, refl, subst, arith, length-append}
use Rattle.std.specs.Prelude.{◌==◌, ◌||◌, ◌&&◌, filter, find, not, if◌then◌else◌, nat_lt, option_map, option_to_list, bytes_eq}
use Rattle.std.proofs.lemmas.Bool.{leb-false, ltb-true}
use Rattle.std.proofs.lemmas.Grind.{common_steps}
use Rattle.std.proofs.lemmas.List.{length-map}
use Rattle.std.proofs.lemmas.Slice.Eq.{bytes_eq-Decides}
use Rattle.nfs_base.specs.Changed.{changed}
use Rattle.nfs_base.specs.declared.limits.TheConstants.{MOST_CLIENTS}
use Rattle.sess_slots.specs.declared.client.Client.{Client}
use Rattle.sess_slots.specs.declared.client.CreatedSession.{CreatedSession}
use Rattle.sess_slots.specs.Table.{is_among}
use Rattle.sess_slots.specs.Begins.{is_idle}
use Rattle.sess_slots.specs.Clients.{is_of, is_confirmed, gives_way, beside, ended_for_room, is_full, new_client, old_client, confirmed_by}
use Rattle.sess_slots.proofs.Counting.{many, many_filter, none_left, many_append, many_changed, one_changed, same_changed, one_for_one, none_found, filter_most, changed_most}

-- a client of the pair, and confirmed
abbrev pub is_firm : List ℕ → List ℕ → Client → Bool
is_firm principal owner c = is_of principal owner c && is_confirmed c

pub record ArePaired (clients : List Client) : Type 0 where
  pub few : length clients ≤ MOST_CLIENTS
  pub confirmed : (principal owner : List ℕ) → many (is_firm principal owner) clients ≤ 1
  pub unconfirmed : (principal owner : List ℕ) → many (gives_way principal owner) clients ≤ 1

pub none_paired : ArePaired []
none_paired = record { few = omega arith; confirmed = λ p o. omega arith; unconfirmed = λ p o. omega arith }

pub paired_filter : (stays : Client → Bool) (clients : List Client) → ArePaired clients → ArePaired (filter stays clients)
paired_filter stays clients h = record {
  few = let fewer = filter_most stays clients in omega (arith, fewer, h.few);
  confirmed = λ p o. let fewer = many_filter (is_firm p o) stays clients in omega (arith, fewer, h.confirmed p o);
  unconfirmed = λ p o. let fewer = many_filter (gives_way p o) stays clients in omega (arith, fewer, h.unconfirmed p o);
}

-- a change by which nobody is of another pair, nor confirmed or not
pub paired_changed : (test : Client → Bool) (f : Client → Client) (clients : List Client) → ((c : Client) → f c ≡ record c { reclaimed = (f c).reclaimed; used = (f c).used }) → ArePaired clients → ArePaired (changed test f clients)
paired_changed test f clients same h = record {
  few = rw (changed_most test f clients) h.few;
  confirmed = λ p o.
      let fewer = many_changed (is_firm p o) test f clients (λ c passes. subst (λ d. is_firm p o d ≡ true) (same c) passes) in omega (arith, fewer, h.confirmed p o);
  unconfirmed = λ p o.
      let fewer = many_changed (gives_way p o) test f clients (λ c passes. subst (λ d. gives_way p o d ≡ true) (same c) passes) in omega (arith, fewer, h.unconfirmed p o);
}

-- ---- EXCHANGE_ID

-- these IDs name each of the clients that is idle
AreNamed : ℕ → List ℕ → List Client → Type 0
AreNamed now ids [] = Unit {0}
AreNamed now ids (c ∷ cs) = (is_idle now c ≡ true → is_among ids c.id ≡ true) × AreNamed now ids cs

named_more : (now id : ℕ) (ids : List ℕ) (cs : List Client) → AreNamed now ids cs → AreNamed now (id ∷ ids) cs
unfolding AreNamed
named_more now id ids [] h = tt
named_more now id ids (c ∷ cs) h = (λ idle. let there : is_among ids c.id ≡ true = h.0 idle in grind (arith, common_steps), named_more now id ids cs h.1)

self : (n : ℕ) (rest : Bool) → ((n == n) || rest) ≡ true
self n rest = grind (arith, common_steps)

named_all : (now : ℕ) (cs : List Client) → AreNamed now (map (λ (c : Client). c.id) (filter (is_idle now) cs)) cs
unfolding AreNamed
named_all now [] = tt
named_all now (c ∷ cs) =
    by_case (is_idle now c) refl (named_all now cs)
  where
    by_case : (b : Bool) → is_idle now c ≡ b → AreNamed now (map (λ (d : Client). d.id) (filter (is_idle now) cs)) cs → AreNamed now (map (λ (d : Client). d.id) (cond b (c ∷ filter (is_idle now) cs) (filter (is_idle now) cs))) (c ∷ cs)
    by_case true is rest = (λ idle. self c.id (is_among (map (λ (d : Client). d.id) (filter (is_idle now) cs)) c.id), named_more now c.id (map (λ (d : Client). d.id) (filter (is_idle now) cs)) cs rest)
    by_case false is rest = (λ idle. absurd cc, rest)

-- those that are named are taken out
named_out : (now : ℕ) (ids : List ℕ) (cs : List Client) → AreNamed now ids cs → length (filter (λ c. not (is_among ids c.id)) cs) + length (filter (is_idle now) cs) ≤ length cs
unfolding AreNamed
named_out now ids [] h = omega arith
named_out now ids (c ∷ cs) h =
    let rest : length (filter (λ c. not (is_among ids c.id)) cs) + length (filter (is_idle now) cs) ≤ length cs = named_out now ids cs h.1 in
    let first = h.0 in
    grind (arith, common_steps)

-- where it isn't full, there is room for one more
room_made : (others : List Client) (now : ℕ) → is_full others now ≡ false → length (filter (λ c. not (is_among (ended_for_room others now) c.id)) others) < MOST_CLIENTS
room_made others now unfull =
    by_case (nat_lt (length others) MOST_CLIENTS) refl
  where
    by_case : (b : Bool) → nat_lt (length others) MOST_CLIENTS ≡ b → length (filter (λ c. not (is_among (if nat_lt (length others) MOST_CLIENTS then [] else map (λ (c : Client). c.id) (filter (is_idle now) others)) c.id)) others) < MOST_CLIENTS
    by_case true few =
        let below : length others < MOST_CLIENTS = ltb-true (length others) MOST_CLIENTS few in
        rw few (omega (arith, below, filter_most (λ (c : Client). not (is_among [] c.id)) others))
    by_case false full =
        let left : length others - length (map (λ (c : Client). c.id) (filter (is_idle now) others)) < MOST_CLIENTS = leb-false MOST_CLIENTS _ (rw full at unfull) in
        let idle : length (map (λ (c : Client). c.id) (filter (is_idle now) others)) ≡ length (filter (is_idle now) others) = length-map (filter (is_idle now) others) (λ (c : Client). c.id) in
        let out = named_out now (map (λ (c : Client). c.id) (filter (is_idle now) others)) others (named_all now others) in
        rw full (omega (arith, left, idle, out))

-- a client that isn't confirmed passes no test of confirmed ones
and_false : (b : Bool) → (b && false) ≡ false
and_false true = refl
and_false false = refl

both_first : (a b : Bool) → (a && b) ≡ true → a ≡ true
both_first true b h = refl
both_first false b h = cc

both_second : (a b : Bool) → (a && b) ≡ true → b ≡ true
both_second true b h = h
both_second false b h = absurd cc

-- the new one is of another pair, or its pair has no other that is unconfirmed
one_unconfirmed : (p o principal owner : List ℕ) (stays : Client → Bool) (clients : List Client) → ((p o : List ℕ) → many (gives_way p o) clients ≤ 1) → (b : Bool) → (bytes_eq principal p && bytes_eq owner o) ≡ b
    → many (gives_way p o) (filter stays (beside clients principal owner)) + cond b 1 0 ≤ 1
one_unconfirmed p o principal owner stays clients before true is =
    let first : principal ≡ p = (bytes_eq-Decides principal p).0 (both_first (bytes_eq principal p) (bytes_eq owner o) is) in
    let second : owner ≡ o = (bytes_eq-Decides owner o).0 (both_second (bytes_eq principal p) (bytes_eq owner o) is) in
    let fewer : many (gives_way p o) (filter stays (beside clients principal owner)) ≤ many (gives_way p o) (beside clients principal owner) = many_filter (gives_way p o) stays (beside clients principal owner) in
    let none : many (gives_way principal owner) (beside clients principal owner) ≡ 0 = none_left (gives_way principal owner) clients in
    let none_of : many (gives_way p o) (beside clients principal owner) ≡ 0 = subst (λ q. many (gives_way p q) (beside clients principal owner) ≡ 0) second (subst (λ q. many (gives_way q owner) (beside clients principal owner) ≡ 0) first none) in
    omega (arith, fewer, none_of)
one_unconfirmed p o principal owner stays clients before false is =
    let fewer : many (gives_way p o) (filter stays (beside clients principal owner)) ≤ many (gives_way p o) (beside clients principal owner) = many_filter (gives_way p o) stays (beside clients principal owner) in
    let fewer_yet : many (gives_way p o) (beside clients principal owner) ≤ many (gives_way p o) clients = many_filter (gives_way p o) (λ c. not (gives_way principal owner c)) clients in
    omega (arith, fewer, fewer_yet, before p o)

pub paired_exchange : (clients : List Client) (id : ℕ) (principal owner verifier : List ℕ) (now : ℕ) → is_full (beside clients principal owner) now ≡ false → ArePaired clients
    → ArePaired (filter (λ c. not (is_among (ended_for_room (beside clients principal owner) now) c.id)) (beside clients principal owner) ++ new_client id principal owner verifier now ∷ [])
paired_exchange clients id principal owner verifier now unfull h =
    let new : Client = new_client id principal owner verifier now in
    let stays : Client → Bool = λ c. not (is_among (ended_for_room (beside clients principal owner) now) c.id) in
    let left : List Client = filter stays (beside clients principal owner) in
    let others = paired_filter stays (beside clients principal owner) (paired_filter (λ c. not (gives_way principal owner c)) clients h) in
    record {
      few = let room = room_made (beside clients principal owner) now unfull in rw (length-append left (new ∷ [])) (omega (arith, room));
      confirmed = λ p o.
          let added : many (is_firm p o) (left ++ new ∷ []) ≡ many (is_firm p o) left + cond (is_firm p o new) 1 0 = many_append (is_firm p o) left new in
          rw (added, and_false (is_of p o new)) (omega (arith, others.confirmed p o));
      unconfirmed = λ p o.
          let added : many (gives_way p o) (left ++ new ∷ []) ≡ many (gives_way p o) left + cond (gives_way p o new) 1 0 = many_append (gives_way p o) left new in
          rw (added, and_true (is_of p o new)) (one_unconfirmed p o principal owner stays clients h.unconfirmed (bytes_eq principal p && bytes_eq owner o) refl);
    }
  where
    and_true : (b : Bool) → (b && true) ≡ b
    and_true true = refl
    and_true false = refl

-- ---- CREATE_SESSION

-- nobody is among none, and one is among itself
is_out : (id : ℕ) → not (is_among (id ∷ []) id) ≡ false
is_out id = grind (arith, common_steps)

-- where the pair has a confirmed client already, that one is taken out
one_confirmed : (p o : List ℕ) (clients : List Client) (c : Client) (client : ℕ) (f : Client → Client) (old : Option Client) → find (λ (d : Client). d.id == client) clients ≡ Some c → is_firm p o c ≡ false
    → find (is_firm p o) clients ≡ old → many (is_firm p o) clients ≤ 1
    → many (is_firm p o) (filter (λ (d : Client). not (is_among (option_to_list (option_map (λ (x : Client). x.id) old)) d.id)) (changed (λ (d : Client). d.id == client) f clients)) ≤ 1
one_confirmed p o clients c client f None found failed none before =
    let nobody : many (is_firm p o) clients ≡ 0 = none_found (is_firm p o) clients none in
    let more = one_changed (is_firm p o) (λ (d : Client). d.id == client) f clients in
    let fewer = many_filter (is_firm p o) (λ (d : Client). not (is_among [] d.id)) (changed (λ (d : Client). d.id == client) f clients) in
    omega (arith, nobody, more, fewer)
one_confirmed p o clients c client f (Some old) found failed is before =
    let fewer = one_for_one (is_firm p o) (λ (d : Client). d.id == client) (λ (d : Client). not (is_among (old.id ∷ []) d.id)) f clients c old found failed is (is_out old.id) in
    omega (arith, fewer, before)

-- the client that is confirmed, by whether it is already, and whether it is of the pair
confirmed_at : (p o : List ℕ) (clients : List Client) (c : Client) (client sequence : ℕ) (made : CreatedSession) (firm of : Bool) → find (λ (d : Client). d.id == client) clients ≡ Some c → is_confirmed c ≡ firm → is_of p o c ≡ of
    → many (is_firm p o) clients ≤ 1
    → many (is_firm p o) (filter (λ (d : Client). not (is_among (option_to_list (if firm then None else option_map (λ (x : Client). x.id) (find (is_firm c.principal c.owner) clients))) d.id)) (confirmed_by client sequence made clients)) ≤ 1
confirmed_at p o clients c client sequence made true of found is_c of_c before =
    let f : Client → Client = λ c. record c { last = sequence; created = Some made } in
    let same = same_changed (is_firm p o) (λ (d : Client). d.id == client) f clients c found (rw is_c refl) in
    let fewer = many_filter (is_firm p o) (λ (d : Client). not (is_among [] d.id)) (confirmed_by client sequence made clients) in
    omega (arith, same, fewer, before)
confirmed_at p o clients c client sequence made false false found is_c of_c before =
    let f : Client → Client = λ c. record c { last = sequence; created = Some made } in
    let same = same_changed (is_firm p o) (λ (d : Client). d.id == client) f clients c found (rw of_c refl) in
    let fewer = many_filter (is_firm p o) (λ (d : Client). not (is_among (option_to_list (option_map (λ (x : Client). x.id) (find (is_firm c.principal c.owner) clients))) d.id)) (confirmed_by client sequence made clients) in
    omega (arith, same, fewer, before)
confirmed_at p o clients c client sequence made false true found is_c of_c before =
    let f : Client → Client = λ c. record c { last = sequence; created = Some made } in
    let first : c.principal ≡ p = (bytes_eq-Decides c.principal p).0 (both_first (bytes_eq c.principal p) (bytes_eq c.owner o) of_c) in
    let second : c.owner ≡ o = (bytes_eq-Decides c.owner o).0 (both_second (bytes_eq c.principal p) (bytes_eq c.owner o) of_c) in
    let failed : is_firm p o c ≡ false = rw (of_c, is_c) refl in
    rw (first, second) (one_confirmed p o clients c client f (find (is_firm p o) clients) found failed refl before)

pub paired_create : (clients : List Client) (c : Client) (client sequence : ℕ) (made : CreatedSession) → find (λ (d : Client). d.id == client) clients ≡ Some c → ArePaired clients
    → ArePaired (filter (λ (d : Client). not (is_among (option_to_list (old_client clients c)) d.id)) (confirmed_by client sequence made clients))
paired_create clients c client sequence made found h =
    let f : Client → Client = λ c. record c { last = sequence; created = Some made } in
    let stays : Client → Bool = λ d. not (is_among (option_to_list (old_client clients c)) d.id) in
    record {
      few = let fewer = filter_most stays (confirmed_by client sequence made clients) in let same = changed_most (λ (d : Client). d.id == client) f clients in omega (arith, fewer, same, h.few);
      confirmed = λ p o. confirmed_at p o clients c client sequence made (is_confirmed c) (is_of p o c) found refl refl (h.confirmed p o);
      unconfirmed = λ p o.
          let fewer = many_filter (gives_way p o) stays (confirmed_by client sequence made clients) in
          let same = many_changed (gives_way p o) (λ (d : Client). d.id == client) f clients (λ d passes. let never = and_false (is_of p o d) in absurd cc) in
          omega (arith, fewer, same, h.unconfirmed p o);
    }
