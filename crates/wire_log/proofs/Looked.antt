-- What is found among stored records is what the check of seals asks of those that they stand for.
use Rattle.std.proofs.Common.{◌≡◌, ℕ, zero, suc, Bool, true, false, not, ◌&&◌, ◌||◌, ◌==◌, if◌then◌else◌, cond, nat_lt, List, [], ◌∷◌, map, get_or, slice_get, All, Option, Some, None, option_map, option_and_then, bytes_eq, length, refl, ap, sym, ◌∙◌, subst}
use Rattle.std.proofs.lemmas.List.Elements.{All-weaker, recursion_from_All}
use Rattle.std.proofs.lemmas.List.Folds.{list_any_at, list_any_none}
use Rattle.std.proofs.lemmas.Option.{slice_get_within, get_or_from_slice_get}
use Rattle.std.proofs.lemmas.Slice.Eq.{bytes_eq-Decides}
use Rattle.std.specs.List.{AllByRecursion, list_any}
use Rattle.nfs_base.specs.declared.seal.End.{End}
use Rattle.nfs_base.specs.declared.seal.Seal.{Seal}
use Rattle.wire_log.specs.declared.check.Awaited.{Awaited}
use Rattle.wire_log.specs.declared.kept.Kept.{Kept}
use Rattle.wire_log.specs.Keeping.{AreKept, IsKept, bytes_at, kept_at, posted_all, posted_of, reading}
use Rattle.wire_log.specs.Looking.{answer_so, awaited_by, call_before, call_with, first_seal, near_or_any, right_so, sealed_so, took_call}
use Rattle.wire_log.proofs.Stored.{all_at, bytes_posted}
use Rattle.wire_machine.specs.Check.{answers_awaited, is_awaited, is_right, is_sealed, mistake_in, mistake_unless, same_end, seal_of, took_bytes}
use Rattle.wire_machine.specs.World.{Posted}
use Rattle.wire_spelling.specs.Calls.{xid_in}
use Rattle.wire_spelling.specs.Replies.{is_reply}

-- ---- lists

any_map : {X Y : Type 0} (p : Y → Bool) (f : X → Y) (xs : List X) → list_any p (map f xs) ≡ list_any (λ x. p (f x)) xs
any_map p f [] = refl
any_map p f (x ∷ xs) = ap (λ (b : Bool). p (f x) || b) (any_map p f xs)

any_agree : {X : Type 0} (p q : X → Bool) (xs : List X) → AllByRecursion (λ x. p x ≡ q x) xs → list_any p xs ≡ list_any q xs
any_agree p q [] same = refl
any_agree p q (x ∷ xs) same = ap (λ (b : Bool). b || list_any p xs) same.0 ∙ ap (λ (b : Bool). q x || b) (any_agree p q xs same.1)

or_known : (b rest : Bool) → (b ≡ true → rest ≡ true) → (b || rest) ≡ rest
or_known true rest known = sym (known refl)
or_known false rest known = refl

any_near : {X : Type 0} (p : X → Bool) (xs : List X) (n : ℕ) (x : X) → slice_get xs n ≡ Some x → (p x || list_any p xs) ≡ list_any p xs
any_near p xs n x is =
    or_known (p x) (list_any p xs) (λ passes. list_any_at p xs n x (slice_get_within xs n x is) (ap p (get_or_from_slice_get xs n x x is) ∙ passes))

-- what is looked at first is one of them
near_is : (p : Kept → Bool) (kept : List Kept) (n : ℕ) (k : Kept) → kept_at n kept ≡ Some k → near_or_any p k kept ≡ list_any p kept
near_is p kept zero k is = absurd (cc)
near_is p kept (suc n) k is = any_near p kept n k is

-- ---- the call that a step took

abbrev pub Reads : Kept → Type 0
Reads k = k.is_reply ≡ is_reply k.bytes

and_never : (a b : Bool) → (a && (b && false)) ≡ false
and_never true true = refl
and_never true false = refl
and_never false b = refl

and_false : (a : Bool) → (a && false) ≡ false
and_false true = refl
and_false false = refl

and_true : (a : Bool) → a ≡ (a && true)
and_true true = refl
and_true false = refl

turned : (bytes from opening before call xid : Bool) → (bytes && (from && (opening && (before && (call && xid))))) ≡ ((from && (opening && (call && xid))) && (before && bytes))
turned true true true true true xid = and_true xid
turned true true true true false xid = refl
turned true true true false call xid = sym (and_false (call && xid))
turned true true false before call xid = refl
turned true false opening before call xid = refl
turned false from opening before call xid = sym (and_never (from && (opening && (call && xid))) before)

module _ (kept : List Kept) (reads : All Reads kept) where
  -- an awaited call, which a step took
  abbrev is_taken : End → ℕ → List ℕ → ℕ → Option (List ℕ) → Posted → Bool
  is_taken end opening reply step took call = is_awaited reading end opening reply call && (nat_lt call.step step && took_bytes call.bytes took)

  one_taken : (end : End) (opening : ℕ) (reply : List ℕ) (step : ℕ) (bytes : List ℕ) (k : Kept) → Reads k
      → call_with (awaited_by end opening reply) step bytes k ≡ is_taken end opening reply step (Some bytes) (posted_of kept k)
  one_taken end opening reply step bytes k read =
      turned (bytes_eq bytes k.bytes) (same_end k.from end) (k.opening == opening) (nat_lt k.step step) (not k.is_reply) (xid_in k.bytes == xid_in reply)
      ∙ ap (λ (b : Bool). (same_end k.from end && ((k.opening == opening) && (not b && (xid_in k.bytes == xid_in reply)))) && (nat_lt k.step step && bytes_eq bytes k.bytes)) read

  any_taken : (end : End) (opening : ℕ) (reply : List ℕ) (step : ℕ) (bytes : List ℕ)
      → list_any (call_with (awaited_by end opening reply) step bytes) kept ≡ list_any (is_taken end opening reply step (Some bytes)) (posted_all kept)
  any_taken end opening reply step bytes =
      let a = awaited_by end opening reply in
      let p : Kept → Bool = λ k. call_with a step bytes k in
      let q : Posted → Bool = λ r. is_taken end opening reply step (Some bytes) r in
      let P : Kept → Type 0 = λ k. p k ≡ q (posted_of kept k) in
      any_agree p (λ (k : Kept). q (posted_of kept k)) kept (recursion_from_All P kept (All-weaker Reads P (one_taken end opening reply step bytes) kept reads))
      ∙ sym (any_map q (posted_of kept) kept)

  none_so : (end : End) (opening : ℕ) (reply : List ℕ) (step : ℕ) (r : Posted) → is_taken end opening reply step None r ≡ false
  none_so end opening reply step r = and_never (is_awaited reading end opening reply r) (nat_lt r.step step)

  none_taken : (end : End) (opening : ℕ) (reply : List ℕ) (step : ℕ) → false ≡ list_any (is_taken end opening reply step None) (posted_all kept)
  none_taken end opening reply step =
      sym (list_any_none (is_taken end opening reply step None) (posted_all kept) (λ i d less. none_so end opening reply step (get_or (posted_all kept) i d)))

  same_bytes : (a : Awaited) (step : ℕ) (call : Kept) → call_before a step call ≡ call_with a step call.bytes call
  same_bytes a step call = sym (ap (λ (b : Bool). b && call_before a step call) ((bytes_eq-Decides call.bytes call.bytes).1 refl))

  call_taken : (end : End) (opening : ℕ) (reply : List ℕ) (step n : ℕ) (o : Option Kept) → kept_at n kept ≡ o
      → took_call kept (awaited_by end opening reply) step o ≡ list_any (is_taken end opening reply step (option_map (λ (k : Kept). k.bytes) o)) (posted_all kept)
  call_taken end opening reply step n None is = none_taken end opening reply step
  call_taken end opening reply step n (Some call) is =
      let a = awaited_by end opening reply in
      ap (λ (b : Bool). b || list_any (call_with a step call.bytes) kept) (same_bytes a step call)
      ∙ near_is (call_with a step call.bytes) kept n call is
      ∙ any_taken end opening reply step call.bytes

  -- ---- the check

  one_answer : (end : End) (opening : ℕ) (seal : Seal) (bytes : List ℕ) (k : Kept)
      → answer_so kept (awaited_by end opening bytes) seal bytes k
      ≡ (is_sealed end seal bytes (posted_of kept k) && answers_awaited reading end opening bytes (posted_all kept) (posted_of kept k))
  one_answer end opening seal bytes k = ap (λ (b : Bool). sealed_so end seal bytes k && b) (call_taken end opening bytes k.step k.took (kept_at k.took kept) refl)

  answered_is : (end : End) (opening : ℕ) (seal : Seal) (n : ℕ) (taken : Kept) → kept_at n kept ≡ Some taken
      → near_or_any (answer_so kept (awaited_by end opening taken.bytes) seal taken.bytes) taken kept
      ≡ list_any (λ r. is_sealed end seal taken.bytes r && answers_awaited reading end opening taken.bytes (posted_all kept) r) (posted_all kept)
  answered_is end opening seal n taken is =
      let bytes = taken.bytes in
      let p : Kept → Bool = λ k. answer_so kept (awaited_by end opening bytes) seal bytes k in
      let q : Posted → Bool = λ r. is_sealed end seal bytes r && answers_awaited reading end opening bytes (posted_all kept) r in
      let P : Kept → Type 0 = λ k. p k ≡ q (posted_of kept k) in
      near_is p kept n taken is
      ∙ any_agree p (λ (k : Kept). q (posted_of kept k)) kept (recursion_from_All P kept (All-weaker Reads P (λ (k : Kept) (read : Reads k). one_answer end opening seal bytes k) kept reads))
      ∙ sym (any_map q (posted_of kept) kept)

  sent_is : (end : End) (seal : Seal) (n : ℕ) (taken : Kept) → kept_at n kept ≡ Some taken
      → near_or_any (sealed_so end seal taken.bytes) taken kept ≡ list_any (λ r. is_sealed end seal taken.bytes r) (posted_all kept)
  sent_is end seal n taken is =
      near_is (sealed_so end seal taken.bytes) kept n taken is ∙ sym (any_map (λ (r : Posted). is_sealed end seal taken.bytes r) (posted_of kept) kept)

  -- it is right
  right_is : (end : End) (opening : ℕ) (seal : Seal) (n : ℕ) (taken : Kept) → kept_at n kept ≡ Some taken → Reads taken
      → right_so kept end opening seal taken ≡ is_right reading (posted_all kept) end opening seal taken.bytes
  right_is end opening seal n taken is read =
      let reply = near_or_any (answer_so kept (awaited_by end opening taken.bytes) seal taken.bytes) taken kept in
      let call = near_or_any (sealed_so end seal taken.bytes) taken kept in
      let sent = list_any (λ (r : Posted). is_sealed end seal taken.bytes r) (posted_all kept) in
      ap (λ (b : Bool). if b then reply else call) read
      ∙ ap (λ (b : Bool). if is_reply taken.bytes then reply else b) (sent_is end seal n taken is)
      ∙ ap (λ (b : Bool). if is_reply taken.bytes then b else sent) (answered_is end opening seal n taken is)

-- the record of a number is read so
number_reads : (n : ℕ) (kept : List Kept) (k : Kept) → All Reads kept → kept_at n kept ≡ Some k → Reads k
number_reads zero kept k reads is = absurd (cc)
number_reads (suc n) kept k reads is = all_at Reads kept n k reads is

-- ---- the first record with these bytes

seal_step : (all : List Kept) (b : Bool) (k : Kept) (o : Option Kept) (p : Option Posted)
    → option_and_then (λ (k : Kept). k.seal) o ≡ option_and_then (λ (r : Posted). r.seal) p
    → option_and_then (λ (k : Kept). k.seal) (cond b (Some k) o) ≡ option_and_then (λ (r : Posted). r.seal) (cond b (Some (posted_of all k)) p)
seal_step all true k o p same = refl
seal_step all false k o p same = same

seal_through : (all kept : List Kept) (bytes : List ℕ) → first_seal kept bytes ≡ seal_of (map (posted_of all) kept) bytes
seal_through all [] bytes = refl
seal_through all (k ∷ kept) bytes = seal_step all (bytes_eq k.bytes bytes) k _ _ (seal_through all kept bytes)

-- ---- what an end is mistaken in, where a record has the number

module _ (kept : List Kept) (end : End) (opening : ℕ) (seal : Seal) (n : ℕ) (taken : Kept) (is : kept_at n kept ≡ Some taken) where
  mistake_is : All Reads kept → Reads taken
      → mistake_in reading (posted_all kept) end opening (Some seal) (bytes_at (posted_all kept) n)
      ≡ mistake_unless (right_so kept end opening seal taken) seal (first_seal kept taken.bytes)
  mistake_is reads read =
      let log = posted_all kept in
      let bytes : bytes_at log n ≡ Some taken.bytes = bytes_posted kept kept n ∙ ap (λ (o : Option Kept). option_map (λ (k : Kept). k.bytes) o) is in
      ap (λ (o : Option (List ℕ)). mistake_in reading log end opening (Some seal) o) bytes
      ∙ ap (λ (b : Bool). mistake_unless b seal (seal_of log taken.bytes)) (sym (right_is kept reads end opening seal n taken is read))
      ∙ ap (λ (s : Option Seal). mistake_unless (right_so kept end opening seal taken) seal s) (sym (seal_through kept kept taken.bytes))

  -- as it is found
  pub mistaken : (stored : List Kept) (total : ℕ) (log : List Posted) (accepted : Option Seal) (right : Bool)
      → AreKept stored total → kept ≡ stored → posted_all stored ≡ log → accepted ≡ Some seal → right_so kept end opening seal taken ≡ right
      → mistake_unless right seal (first_seal kept taken.bytes) ≡ mistake_in reading log end opening accepted (bytes_at log n)
  mistaken stored total log accepted right are same seen was rightly =
      let each : All (IsKept (length stored)) kept = subst (λ (ks : List Kept). All (IsKept (length stored)) ks) (sym same) are.each in
      let reads = All-weaker (IsKept (length stored)) Reads (λ (k : Kept) (i : IsKept (length stored) k). i.replies) kept each in
      ap (λ (b : Bool). mistake_unless b seal (first_seal kept taken.bytes)) (sym rightly)
      ∙ sym (mistake_is reads (number_reads n kept taken reads is))
      ∙ ap (λ (l : List Posted). mistake_in reading l end opening (Some seal) (bytes_at l n)) (ap (λ (ks : List Kept). posted_all ks) same ∙ seen)
      ∙ ap (λ (a : Option Seal). mistake_in reading log end opening a (bytes_at log n)) (sym was)
