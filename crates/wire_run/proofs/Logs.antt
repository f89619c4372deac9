-- Lists of records of which one is marked, and to which some are added.
use Rattle.std.proofs.Common.{◌≡◌, ℕ, zero, suc, ◌+◌, ◌≤◌, Bool, true, false, List, [], ◌∷◌, ◌++◌, length, Option, Some, None, refl, sym, ap, ◌∙◌, subst, arith, append_assoc, length-append}
use Rattle.std.specs.Prelude.{cond, find, if◌then◌else◌, slice_get, option_map, option_and_then, ◌||◌, ◌&&◌}
use Rattle.std.specs.List.{list_any}
use Rattle.std.specs.Str.{bytes_eq}
use Rattle.std.proofs.lemmas.List.{append-nil}
use Rattle.std.proofs.lemmas.List.Sums.{sum_by-append, sum_by-cons}
use Rattle.nfs_base.specs.declared.seal.End.{End}
use Rattle.nfs_base.specs.declared.seal.Seal.{Seal}
use Rattle.outbox.specs.declared.outgoing.Outgoing.{Outgoing}
use Rattle.wire_log.specs.Keeping.{bytes_at, sent_bytes}
use Rattle.wire_machine.specs.Check.{Reading, answers, answers_awaited, is_awaited, is_right, is_sealed, mistake_in, mistake_unless, seal_of}
use Rattle.wire_machine.specs.World.{Posted, all_posted, bytes_of, marked, posted, posted_at}
use Rattle.wire_run.specs.Stage.{AllDelivered, Grows, LogKeeps}

-- ---- how many bytes records have

bytes_of_cons : (r : Posted) (log : List Posted) → bytes_of (r ∷ log) ≡ length r.bytes + bytes_of log
bytes_of_cons r log = sum_by-cons (λ (x : Posted). length x.bytes) r log

sent_bytes_cons : (out : Outgoing) (outs : List Outgoing) → sent_bytes (out ∷ outs) ≡ length out.bytes + sent_bytes outs
sent_bytes_cons out outs = sum_by-cons (λ (x : Outgoing). length x.bytes) out outs

pub bytes_of_marked : (n : ℕ) (log : List Posted) → bytes_of (marked n log) ≡ bytes_of log
bytes_of_marked zero log = refl
bytes_of_marked (suc zero) [] = refl
bytes_of_marked (suc (suc n)) [] = refl
bytes_of_marked (suc zero) (r ∷ log) = refl
bytes_of_marked (suc (suc n)) (r ∷ log) =
    bytes_of_cons r (marked (suc n) log) ∙ (ap (λ k. length r.bytes + k) (bytes_of_marked (suc n) log) ∙ sym (bytes_of_cons r log))

pub bytes_of_append : (log more : List Posted) → bytes_of (log ++ more) ≡ bytes_of log + bytes_of more
bytes_of_append log more = sum_by-append (λ (r : Posted). length r.bytes) log more

pub bytes_of_all_posted : (from : End) (step opening : ℕ) (took : Option (List ℕ)) (outs : List Outgoing)
    → bytes_of (all_posted from step opening took outs) ≡ sent_bytes outs
bytes_of_all_posted from step opening took [] = refl
bytes_of_all_posted from step opening took (out ∷ outs) =
    bytes_of_cons (posted from step opening took out) (all_posted from step opening took outs)
    ∙ (ap (λ k. length out.bytes + k) (bytes_of_all_posted from step opening took outs) ∙ sym (sent_bytes_cons out outs))

pub length_marked : (n : ℕ) (log : List Posted) → length (marked n log) ≡ length log
length_marked zero log = refl
length_marked (suc zero) [] = refl
length_marked (suc (suc n)) [] = refl
length_marked (suc zero) (r ∷ log) = refl
length_marked (suc (suc n)) (r ∷ log) = ap suc (length_marked (suc n) log)

-- ---- a mark changes no answer that doesn't look at it

abbrev pub Unlooking : {A : Type 0} → (Posted → A) → Type 0
Unlooking f = (r : Posted) → f (record r { delivered = true }) ≡ f r

pub list_any_marked : (p : Posted → Bool) → Unlooking p → (n : ℕ) (log : List Posted) → list_any p (marked n log) ≡ list_any p log
list_any_marked p un zero log = refl
list_any_marked p un (suc zero) [] = refl
list_any_marked p un (suc (suc n)) [] = refl
list_any_marked p un (suc zero) (r ∷ log) = ap (λ b. b || list_any p log) (un r)
list_any_marked p un (suc (suc n)) (r ∷ log) = ap (λ b. p r || b) (list_any_marked p un (suc n) log)

found_marked : {A : Type 0} (b : Bool) (f : Posted → Option A) → Unlooking f → (r : Posted) (rest : Option Posted)
    → option_and_then f (cond b (Some (record r { delivered = true })) rest) ≡ option_and_then f (cond b (Some r) rest)
found_marked true f same r rest = same r
found_marked false f same r rest = refl

past : {A : Type 0} (b : Bool) (f : Posted → Option A) (here rest other : Option Posted) → option_and_then f rest ≡ option_and_then f other
    → option_and_then f (cond b here rest) ≡ option_and_then f (cond b here other)
past true f here rest other e = refl
past false f here rest other e = e

pub find_marked : {A : Type 0} (p : Posted → Bool) (f : Posted → Option A) → Unlooking p → Unlooking f → (n : ℕ) (log : List Posted)
    → option_and_then f (find p (marked n log)) ≡ option_and_then f (find p log)
find_marked p f un same zero log = refl
find_marked p f un same (suc zero) [] = refl
find_marked p f un same (suc (suc n)) [] = refl
find_marked p f un same (suc zero) (r ∷ log) =
    ap (λ b. option_and_then f (cond b (Some (record r { delivered = true })) (find p log))) (un r) ∙ found_marked (p r) f same r (find p log)
find_marked p f un same (suc (suc n)) (r ∷ log) = past (p r) f (Some r) (find p (marked (suc n) log)) (find p log) (find_marked p f un same (suc n) log)

-- ---- so the check of seals is the same

awaited_marked : (read : Reading) (end : End) (opening : ℕ) (bytes : List ℕ) (n : ℕ) (log : List Posted) (answer : Posted)
    → answers_awaited read end opening bytes (marked n log) answer ≡ answers_awaited read end opening bytes log answer
awaited_marked read end opening bytes n log answer =
    list_any_marked (λ call. is_awaited read end opening bytes call && answers answer call) (λ r. refl) n log

list_any_same : (p q : Posted → Bool) → ((r : Posted) → p r ≡ q r) → (log : List Posted) → list_any p log ≡ list_any q log
list_any_same p q same [] = refl
list_any_same p q same (r ∷ log) = ap (λ b. b || list_any p log) (same r) ∙ ap (λ b. q r || b) (list_any_same p q same log)

reply_marked : (read : Reading) (end : End) (opening : ℕ) (seal : Seal) (bytes : List ℕ) (n : ℕ) (log : List Posted)
    → list_any (λ r. is_sealed end seal bytes r && answers_awaited read end opening bytes (marked n log) r) (marked n log)
    ≡ list_any (λ r. is_sealed end seal bytes r && answers_awaited read end opening bytes log r) log
reply_marked read end opening seal bytes n log =
    list_any_same _ _ (λ r. ap (λ b. is_sealed end seal bytes r && b) (awaited_marked read end opening bytes n log r)) (marked n log)
    ∙ list_any_marked (λ r. is_sealed end seal bytes r && answers_awaited read end opening bytes log r) (λ r. refl) n log

sealed_marked : (end : End) (seal : Seal) (bytes : List ℕ) (n : ℕ) (log : List Posted)
    → list_any (λ r. is_sealed end seal bytes r) (marked n log) ≡ list_any (λ r. is_sealed end seal bytes r) log
sealed_marked end seal bytes n log = list_any_marked (λ r. is_sealed end seal bytes r) (λ r. refl) n log

chosen : (b : Bool) (x y u v : Bool) → x ≡ u → y ≡ v → (if b then x else y) ≡ (if b then u else v)
chosen true x y u v e f = e
chosen false x y u v e f = f

right_marked : (read : Reading) (n : ℕ) (log : List Posted) (end : End) (opening : ℕ) (seal : Seal) (bytes : List ℕ)
    → is_right read (marked n log) end opening seal bytes ≡ is_right read log end opening seal bytes
right_marked read n log end opening seal bytes =
    chosen (read.is_reply bytes) _ _ _ _ (reply_marked read end opening seal bytes n log) (sealed_marked end seal bytes n log)

seal_of_marked : (n : ℕ) (log : List Posted) (bytes : List ℕ) → seal_of (marked n log) bytes ≡ seal_of log bytes
seal_of_marked n log bytes = find_marked (λ (r : Posted). bytes_eq r.bytes bytes) (λ (r : Posted). r.seal) (λ r. refl) (λ r. refl) n log

pub mistake_in_marked : (read : Reading) (n : ℕ) (log : List Posted) (end : End) (opening : ℕ) (accepted : Option Seal) (took : Option (List ℕ))
    → mistake_in read (marked n log) end opening accepted took ≡ mistake_in read log end opening accepted took
mistake_in_marked read n log end opening (Some seal) (Some bytes) =
    ap (λ b. mistake_unless b seal (seal_of (marked n log) bytes)) (right_marked read n log end opening seal bytes)
    ∙ ap (λ o. mistake_unless (is_right read log end opening seal bytes) seal o) (seal_of_marked n log bytes)
mistake_in_marked read n log end opening (Some seal) None = refl
mistake_in_marked read n log end opening None (Some bytes) = refl
mistake_in_marked read n log end opening None None = refl

-- nothing is mistaken where no record was taken
pub mistake_in_none : (read : Reading) (log : List Posted) (end : End) (opening : ℕ) (accepted : Option Seal) → mistake_in read log end opening accepted None ≡ None
mistake_in_none read log end opening None = refl
mistake_in_none read log end opening (Some seal) = refl

-- ---- a record by its number

bytes_got : (n k : ℕ) (log : List Posted) → option_map (λ (r : Posted). r.bytes) (slice_get (marked n log) k) ≡ option_map (λ (r : Posted). r.bytes) (slice_get log k)
bytes_got zero k log = refl
bytes_got (suc zero) k [] = refl
bytes_got (suc (suc n)) k [] = refl
bytes_got (suc zero) zero (r ∷ log) = refl
bytes_got (suc zero) (suc k) (r ∷ log) = refl
bytes_got (suc (suc n)) zero (r ∷ log) = refl
bytes_got (suc (suc n)) (suc k) (r ∷ log) = bytes_got (suc n) k log

pub bytes_at_marked : (n k : ℕ) (log : List Posted) → bytes_at (marked n log) k ≡ bytes_at log k
bytes_at_marked n zero log = refl
bytes_at_marked n (suc k) log = bytes_got n k log

-- a record that was just marked is as it was, but for that
pub got_marked : (n : ℕ) (log : List Posted) (r : Posted) → slice_get log n ≡ Some r → slice_get (marked (suc n) log) n ≡ Some (record r { delivered = true })
got_marked zero (s ∷ log) r e = ap (option_map (λ (x : Posted). record x { delivered = true })) e
got_marked (suc n) (s ∷ log) r e = got_marked n log r e
got_marked n [] r e = absurd cc

-- a number that no record has marks none
pub marked_none : (n : ℕ) (log : List Posted) → posted_at n log ≡ None → marked n log ≡ log
marked_none zero log e = refl
marked_none (suc zero) [] e = refl
marked_none (suc (suc n)) [] e = refl
marked_none (suc zero) (r ∷ log) e = absurd cc
marked_none (suc (suc n)) (r ∷ log) e = ap (λ l. r ∷ l) (marked_none (suc n) log e)

-- ---- records at the front that were delivered

pub delivered_marked : (n k : ℕ) (log : List Posted) → AllDelivered n log → AllDelivered n (marked k log)
delivered_marked n zero log d = d
delivered_marked zero (suc k) log d = tt
delivered_marked (suc n) (suc zero) [] d = tt
delivered_marked (suc n) (suc (suc k)) [] d = tt
delivered_marked (suc n) (suc zero) (r ∷ log) d = (refl, d.1)
delivered_marked (suc n) (suc (suc k)) (r ∷ log) d = (d.0, delivered_marked n (suc k) log d.1)

pub delivered_append : (n : ℕ) (log more : List Posted) → n ≤ length log → AllDelivered n log → AllDelivered n (log ++ more)
delivered_append zero log more within d = tt
delivered_append (suc n) [] more within d = absurd (omega arith)
delivered_append (suc n) (r ∷ log) more within d = (d.0, delivered_append n log more (omega arith) d.1)

-- the next one is marked
pub delivered_next : (n : ℕ) (log : List Posted) → AllDelivered n log → AllDelivered (suc n) (marked (suc n) log)
delivered_next zero [] d = tt
delivered_next zero (r ∷ log) d = (refl, tt)
delivered_next (suc n) [] d = tt
delivered_next (suc n) (r ∷ log) d = (d.0, delivered_next n log d.1)

abbrev delivered_or : Option Posted → Bool
delivered_or None = true
delivered_or (Some r) = r.delivered

-- or was delivered
pub delivered_past : (n : ℕ) (log : List Posted) (r : Posted) → slice_get log n ≡ Some r → r.delivered ≡ true → AllDelivered n log → AllDelivered (suc n) log
delivered_past zero (s ∷ log) r e was d = (ap (λ (o : Option Posted). delivered_or o) e ∙ was, tt)
delivered_past (suc n) (s ∷ log) r e was d = (d.0, delivered_past n log r e was d.1)
delivered_past n [] r e was d = absurd cc

-- ---- what is kept of a list to which records are added, or of which one is marked

pub grows_keeps : (old new : List Posted) → Grows old new → LogKeeps old new
grows_keeps old new g = record {
  longer = omega (arith, ap length g.1, length-append old g.0);
  delivered = λ n within d. subst (λ (l : List Posted). AllDelivered n l) (sym g.1) (delivered_append n old g.0 within d);
}

pub marked_keeps : (n : ℕ) (log : List Posted) → LogKeeps log (marked n log)
marked_keeps n log = record {
  longer = omega (arith, length_marked n log);
  delivered = λ k within d. delivered_marked k n log d;
}

pub keeps_all : (a b c : List Posted) → LogKeeps a b → LogKeeps b c → LogKeeps a c
keeps_all a b c p q = record {
  longer = omega (arith, p.longer, q.longer);
  delivered = λ n within d. q.delivered n (omega (arith, within, p.longer)) (p.delivered n within d);
}

pub keeps_none : (log : List Posted) → LogKeeps log log
keeps_none log = record { longer = omega arith; delivered = λ n within d. d }

pub grows_none : (log : List Posted) → Grows log log
grows_none log = ([], sym (append-nil log))

pub grows_more : (a b c : List Posted) → Grows a b → Grows b c → Grows a c
grows_more a b c p q = (p.0 ++ q.0, q.1 ∙ ap (λ (l : List Posted). l ++ q.0) p.1 ∙ append_assoc a p.0 q.0)
