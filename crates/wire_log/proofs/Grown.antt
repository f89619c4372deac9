-- Records that are sent come behind those before.
use Rattle.std.proofs.Common.{◌≡◌, ℕ, zero, suc, ◌+◌, ◌<◌, ◌≤◌, List, [], ◌∷◌, ◌++◌, length, map, slice_get, All, Option, option_map, refl, ap, sym, ◌∙◌, arith, length-append}
use Rattle.std.proofs.lemmas.List.{length-map, map-append}
use Rattle.std.proofs.lemmas.List.Elements.{All-append, All-map, All-weaker, recursion_from_All}
use Rattle.std.proofs.lemmas.List.Sums.{sum_by-append, sum_by-cons}
use Rattle.std.specs.List.{AllByRecursion}
use Rattle.outbox.specs.declared.outgoing.Outgoing.{Outgoing}
use Rattle.wire_log.specs.declared.kept.Kept.{Kept}
use Rattle.wire_log.specs.declared.kept.Sending.{Sending}
use Rattle.wire_log.specs.declared.kept.TheConstants.{MOST_RECORDS}
use Rattle.wire_log.specs.Keeping.{AreKept, IsKept, all_kept, bytes_at, kept_of, posted_all, posted_of, sent_bytes, stored_bytes, total}
use Rattle.wire_log.proofs.Stored.{bytes_posted}
use Rattle.wire_machine.specs.World.{Posted, all_posted}
use Rattle.wire_spelling.specs.Replies.{is_reply}

get_before : {X : Type 0} (xs ys : List X) (n : ℕ) → n < length xs → slice_get (xs ++ ys) n ≡ slice_get xs n
get_before [] ys n less = absurd (omega arith)
get_before (x ∷ xs) ys zero less = refl
get_before (x ∷ xs) ys (suc n) less = get_before xs ys n (omega arith)

-- the bytes of a record that was there before
bytes_before : (xs ys : List Kept) (n : ℕ) → n ≤ length xs → stored_bytes (xs ++ ys) n ≡ stored_bytes xs n
bytes_before xs ys zero within = refl
bytes_before xs ys (suc n) within = ap (λ (o : Option Kept). option_map (λ (k : Kept). k.bytes) o) (get_before xs ys n (omega arith))

abbrev with_took : Kept → Option (List ℕ) → Posted
with_took k took = record {
  bytes = k.bytes;
  seal = k.seal;
  from = k.from;
  port = k.port;
  step = k.step;
  took = took;
  opening = k.opening;
  delivered = k.delivered;
}

-- a record is seen alike in lists in which what its step took is the same
pub seen_alike : (a b : List Kept) (k : Kept) → stored_bytes a k.took ≡ stored_bytes b k.took → posted_of a k ≡ posted_of b k
seen_alike a b k same = ap (λ (t : Option (List ℕ)). with_took k t) same

pub all_alike : (a b kept : List Kept) → AllByRecursion (λ (k : Kept). stored_bytes a k.took ≡ stored_bytes b k.took) kept → map (posted_of a) kept ≡ map (posted_of b) kept
all_alike a b [] same = refl
all_alike a b (k ∷ kept) same =
    ap (λ (r : Posted). r ∷ map (posted_of a) kept) (seen_alike a b k same.0) ∙ ap (λ (rs : List Posted). posted_of b k ∷ rs) (all_alike a b kept same.1)

before_alike : (xs ys kept : List Kept) → All (IsKept (length xs)) kept → map (posted_of (xs ++ ys)) kept ≡ map (posted_of xs) kept
before_alike xs ys kept each =
    let P : Kept → Type 0 = λ k. stored_bytes (xs ++ ys) k.took ≡ stored_bytes xs k.took in
    all_alike (xs ++ ys) xs kept (recursion_from_All P kept (All-weaker (IsKept (length xs)) P (λ (k : Kept) (is : IsKept (length xs) k). bytes_before xs ys k.took is.took) kept each))

posted_append : (xs ys : List Kept) → All (IsKept (length xs)) xs → All (IsKept (length xs)) ys → posted_all (xs ++ ys) ≡ posted_all xs ++ map (posted_of xs) ys
posted_append xs ys each more =
    map-append (posted_of (xs ++ ys)) xs ys
    ∙ ap (λ (rs : List Posted). rs ++ map (posted_of (xs ++ ys)) ys) (before_alike xs ys xs each)
    ∙ ap (λ (rs : List Posted). map (posted_of xs) xs ++ rs) (before_alike xs ys ys more)

sent_through : (xs : List Kept) (at : Sending) (outs : List Outgoing) → map (posted_of xs) (all_kept at outs) ≡ all_posted at.from at.step at.opening (stored_bytes xs at.took) outs
sent_through xs at [] = refl
sent_through xs at (out ∷ outs) = ap (λ (rs : List Posted). posted_of xs (kept_of at out (is_reply out.bytes)) ∷ rs) (sent_through xs at outs)

each_sent : (count : ℕ) (at : Sending) (outs : List Outgoing) → at.took ≤ count → All (IsKept count) (all_kept at outs)
each_sent count at outs took =
    All-map (IsKept count) (λ (out : Outgoing). kept_of at out (is_reply out.bytes)) outs (λ i out less. record { took = took; replies = refl })

-- what is seen once records are sent
pub posted_sent : (xs : List Kept) (at : Sending) (outs : List Outgoing) → All (IsKept (length xs)) xs → at.took ≤ length xs
    → posted_all (xs ++ all_kept at outs) ≡ posted_all xs ++ all_posted at.from at.step at.opening (bytes_at (posted_all xs) at.took) outs
posted_sent xs at outs each took =
    posted_append xs (all_kept at outs) each (each_sent (length xs) at outs took)
    ∙ ap (λ (rs : List Posted). posted_all xs ++ rs) (sent_through xs at outs)
    ∙ ap (λ (t : Option (List ℕ)). posted_all xs ++ all_posted at.from at.step at.opening t outs) (sym (bytes_posted xs xs at.took))

-- how many bytes they have that are sent
total_sent : (at : Sending) (outs : List Outgoing) → total (all_kept at outs) ≡ sent_bytes outs
total_sent at [] = refl
total_sent at (out ∷ outs) =
    sum_by-cons (λ (k : Kept). length k.bytes) (kept_of at out (is_reply out.bytes)) (all_kept at outs) ∙ ap (λ (n : ℕ). length out.bytes + n) (total_sent at outs)
    ∙ sym (sum_by-cons (λ (out : Outgoing). length out.bytes) out outs)

-- what is known stays so
pub kept_sent : (xs : List Kept) (bytes : ℕ) (at : Sending) (outs : List Outgoing) → AreKept xs bytes → at.took ≤ length xs → length xs + length outs ≤ MOST_RECORDS
    → AreKept (xs ++ all_kept at outs) (bytes + sent_bytes outs)
kept_sent xs bytes at outs are took few =
    let more : length (xs ++ all_kept at outs) ≡ length xs + length outs =
    length-append xs (all_kept at outs) ∙ ap (λ (n : ℕ). length xs + n) (length-map outs (λ (out : Outgoing). kept_of at out (is_reply out.bytes))) in
    let count = length (xs ++ all_kept at outs) in
    record {
      few = omega arith;
      each =
          All-append (IsKept count) xs (all_kept at outs)
          (All-weaker (IsKept (length xs)) (IsKept count) (λ (k : Kept) (is : IsKept (length xs) k). record { took = let before = is.took in omega arith; replies = is.replies }) xs are.each)
          (each_sent count at outs (omega arith));
      bytes_are =
          ap (λ (n : ℕ). n + sent_bytes outs) are.bytes_are ∙ ap (λ (n : ℕ). total xs + n) (sym (total_sent at outs))
          ∙ sym (sum_by-append (λ (k : Kept). length k.bytes) xs (all_kept at outs));
    }
