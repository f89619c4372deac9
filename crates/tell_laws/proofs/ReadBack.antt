-- The results that a reply spells are read back in their order, up to the first that has no spelling of its own.
use Rattle.std.proofs.Common.{◌≡◌, ℕ, zero, suc, ◌+◌, ◌%◌, ◌^◌, ◌<◌, ◌≤◌, List, [], ◌∷◌, ◌++◌, length, Some, Result, Ok, Err, refl, sym, ap, subst, ◌∙◌, append_assoc, lit<, arith}
use Rattle.std.specs.List.{AllByRecursion, flat_map}
use Rattle.std.specs.Result.{result_ok}
use Rattle.nfs_base.specs.Forms.{status}
use Rattle.nfs_base.specs.declared.limits.TheConstants.{TEXT_LIMIT}
use Rattle.nfs_base.specs.declared.status.Status.{Status}
use Rattle.nfs_compound.specs.Results.{outcome, reply}
use Rattle.nfs_compound.specs.declared.reply.Reply.{Reply}
use Rattle.nfs_compound.specs.declared.res.Res.{Res}
use Rattle.wire_xdr.specs.All.{all_of, closed, nothing_behind, start, value_of}
use Rattle.wire_xdr.specs.Cursor.{Cursor, ◌>>=◌}
use Rattle.wire_xdr.specs.Form.{Form}
use Rattle.wire_xdr.specs.Forms.{both, count, list, opaque}
use Rattle.wire_xdr.specs.Parts.{list_read, list_spell, many}
use Rattle.wire_xdr.specs.StepLaws.{bind_ok, ok_is}
use Rattle.wire_xdr.specs.Words.{opaque_bytes, word_bytes}
use Rattle.tell_laws.specs.ReadBack.{ReadsBack}

-- a count is any word
abbrev most_words : ℕ
most_words = 4294967295

-- ---- what was read goes on behind what is spelled

read_past : {A B : Type 0} (a : Form A) (f : A × Cursor → Result B ℕ) (y : B) (at : ℕ) (v : A) (rest : List ℕ) → a.Fits v
    → (a.read (record { at = at; rest = a.spell v ++ rest }) >>= f) ≡ Ok y → f (v, record { at = at + length (a.spell v); rest = rest }) ≡ Ok y
read_past {A} a f y at v rest fits h = sym (ap (λ (r : Result (A × Cursor) ℕ). r >>= f) (a.lawful.again at v rest fits)) ∙ h

read_both : {A B : Type 0} (a : Form A) (b : Form B) (at : ℕ) (x : A) (rest : List ℕ) (v : A × B) (new : Cursor) → a.Fits x
    → (both a b).read (record { at = at; rest = a.spell x ++ rest }) ≡ Ok (v, new) → b.read (record { at = at + length (a.spell x); rest = rest }) ≡ Ok (v.1, new)
read_both {A} {B} a b at x rest v new fits h =
    let behind = read_past a (λ p. b.read p.1 >>= λ y. Ok ((p.0, y.0), y.1)) (v, new) at x rest fits h in
    let y = bind_ok (b.read (record { at = at + length (a.spell x); rest = rest })) (λ y. Ok ((x, y.0), y.1)) (v, new) behind in
    y.1 ∙ ap (λ (p : (A × B) × Cursor). Ok (p.0.1, p.1)) (ok_is {E = ℕ} ((x, y.0.0), y.0.1) (v, new) y.2)

-- several values, of which the first is spelled there
record ReadsFirst {A : Type 0} (a : Form A) (n : ℕ) (v : A) (rest : List ℕ) (vs : List A) (new : Cursor) : Type 0 where
  more : List A
  are : vs ≡ v ∷ more
  at : ℕ
  behind : many a n (record { at = at; rest = rest }) ≡ Ok (more, new)

many_first : {A : Type 0} (a : Form A) (n at : ℕ) (v : A) (rest : List ℕ) (vs : List A) (new : Cursor) → a.Fits v
    → many a (suc n) (record { at = at; rest = a.spell v ++ rest }) ≡ Ok (vs, new) → ReadsFirst a n v rest vs new
unfolding many
many_first {A} a n at v rest vs new fits h =
    let behind = read_past a (λ x. many a n x.1 >>= λ xs. Ok (x.0 ∷ xs.0, xs.1)) (vs, new) at v rest fits h in
    let xs = bind_ok (many a n (record { at = at + length (a.spell v); rest = rest })) (λ xs. Ok (v ∷ xs.0, xs.1)) (vs, new) behind in
    let same : (v ∷ xs.0.0, xs.0.1) ≡ (vs, new) = ok_is {E = ℕ} (v ∷ xs.0.0, xs.0.1) (vs, new) xs.2 in
    record {
      more = xs.0.0;
      are = sym (ap (λ (p : List A × Cursor). p.0) same);
      at = at + length (a.spell v);
      behind = xs.1 ∙ ap (λ (c : Cursor). Ok (xs.0.0, c)) (ap (λ (p : List A × Cursor). p.1) same);
    }

-- as many as are read
many_length : {A : Type 0} (a : Form A) (n : ℕ) (c : Cursor) (vs : List A) (new : Cursor) → many a n c ≡ Ok (vs, new) → length vs ≡ n
unfolding many
many_length {A} a zero c vs new h = sym (ap (λ (p : List A × Cursor). length p.0) (ok_is {E = ℕ} ([], c) (vs, new) h))
many_length {A} a (suc n) c vs new h =
    let x = bind_ok (a.read c) (λ x. many a n x.1 >>= λ xs. Ok (x.0 ∷ xs.0, xs.1)) (vs, new) h in
    let xs = bind_ok (many a n x.0.1) (λ xs. Ok (x.0.0 ∷ xs.0, xs.1)) (vs, new) x.2 in
    sym (ap (λ (p : List A × Cursor). length p.0) (ok_is {E = ℕ} (x.0.0 ∷ xs.0.0, xs.0.1) (vs, new) xs.2)) ∙ ap suc (many_length a n x.0.1 xs.0.0 xs.0.1 xs.1)

-- ---- a reply

word_left : (n : ℕ) → word_bytes n ≡ word_bytes (n % 2 ^ 32)
unfolding word_bytes
word_left n = grind arith

closed_some : {A : Type 0} (r : Result (A × Cursor) ℕ) (v : A) → result_ok (closed r) ≡ Some v → (new : Cursor) × (r ≡ Ok (v, new))
closed_some (Ok read) v h = (read.1, ap (λ w. Ok (w, read.1)) (nothing_more read.1.rest h))
  where
    nothing_more : (rest : List ℕ) → result_ok (nothing_behind read.0 read.1.at rest) ≡ Some v → read.0 ≡ v
    nothing_more [] e = cc
    nothing_more (b ∷ bs) e = absurd cc
closed_some (Err at) v h = absurd cc

-- so many results stand behind its front
record IsReadBack (number : ℕ) (rest : List ℕ) (v : Reply) : Type 0 where
  at : ℕ
  new : Cursor
  results : many outcome number (record { at = at; rest = rest }) ≡ Ok (v.results, new)

read_back : (n : ℕ) (tag : List ℕ) (number : ℕ) (rest : List ℕ) (v : Reply) (new : Cursor) → n < 2 ^ 32 → length tag ≤ TEXT_LIMIT → number ≤ most_words
    → reply.read (start (word_bytes n ++ (opaque_bytes tag ++ (word_bytes number ++ rest)))) ≡ Ok (v, new) → IsReadBack number rest v
unfolding reply list_read status
read_back n tag number rest v new small short few h =
    let tags = opaque TEXT_LIMIT (lit< tt) in
    let results = list most_words (lit< tt) outcome in
    let x = bind_ok ((both status (both tags results)).read (start (word_bytes n ++ (opaque_bytes tag ++ (word_bytes number ++ rest)))))
    (λ x. Ok (record { status = x.0.0; tag = x.0.1.0; results = x.0.1.1 }, x.1)) (v, new) h in
    let parts : Status × (List ℕ × List Res) = x.0.0 in
    let first = read_both status (both tags results) 0 (record { number = n }) (opaque_bytes tag ++ (word_bytes number ++ rest)) parts x.0.1 small x.1 in
    let second = read_both tags results (0 + length (word_bytes n)) tag (word_bytes number ++ rest) parts.1 x.0.1 short first in
    let behind : ℕ = 0 + length (word_bytes n) + length (opaque_bytes tag) in
    let third = read_past (count most_words (lit< tt)) (λ n. many outcome n.0 n.1) (parts.1.1, x.0.1) behind number rest few second in
    let last : ◌≡◌ {A = Reply × Cursor} (record { status = parts.0; tag = parts.1.0; results = parts.1.1 }, x.0.1) (v, new) = ok_is {E = ℕ} _ _ x.2 in
    record {
      at = behind + length (word_bytes number);
      new = x.0.1;
      results = third ∙ ap (λ (rs : List Res). Ok (rs, x.0.1)) (ap (λ (p : Reply × Cursor). p.0.results) last);
    }

reply_is : (s : Status) (tag : List ℕ) (rs : List Res)
    → reply.spell (record { status = s; tag = tag; results = rs }) ≡ word_bytes (s.number % 2 ^ 32) ++ (opaque_bytes tag ++ (word_bytes (length rs) ++ flat_map outcome.spell rs))
unfolding reply list_spell status
reply_is s tag rs = ap (λ (w : List ℕ). w ++ (opaque_bytes tag ++ (word_bytes (length rs) ++ flat_map outcome.spell rs))) (word_left s.number)

-- what is read of a reply with these results
read_reply : (s : Status) (tag : List ℕ) (rs : List Res) (body : List ℕ) (v : Reply) → body ≡ reply.spell (record { status = s; tag = tag; results = rs })
    → length tag ≤ TEXT_LIMIT → length rs ≤ most_words → value_of reply body ≡ Some v → IsReadBack (length rs) (flat_map outcome.spell rs) v
unfolding all_of
read_reply s tag rs body v is short few h =
    let spelled = word_bytes (s.number % 2 ^ 32) ++ (opaque_bytes tag ++ (word_bytes (length rs) ++ flat_map outcome.spell rs)) in
    let read = closed_some (reply.read (start spelled)) v (sym (ap (λ (bytes : List ℕ). value_of reply bytes) (is ∙ reply_is s tag rs)) ∙ h) in
    read_back (s.number % 2 ^ 32) tag (length rs) (flat_map outcome.spell rs) v read.0 (omega arith) short few read.1

-- ---- the results that stand first

first_read : (front : List Res) (number at : ℕ) (rest : List ℕ) (vs : List Res) (new : Cursor) → AllByRecursion outcome.Fits front → length front ≤ number
    → many outcome number (record { at = at; rest = flat_map outcome.spell front ++ rest }) ≡ Ok (vs, new) → (more : List Res) × (vs ≡ front ++ more)
first_read [] number at rest vs new fits few h = (vs, refl)
first_read (r ∷ front) zero at rest vs new fits few h = absurd (omega (arith, few))
first_read (r ∷ front) (suc number) at rest vs new fits few h =
    let behind = flat_map outcome.spell front ++ rest in
    let x = many_first outcome number at r behind vs new fits.0
    (subst (λ (bytes : List ℕ). many outcome (suc number) (record { at = at; rest = bytes }) ≡ Ok (vs, new)) (append_assoc (outcome.spell r) (flat_map outcome.spell front) rest) h) in
    let y = first_read front number x.at rest x.more new fits.1 (omega (arith, few)) x.behind in
    (y.0, x.are ∙ ap (λ (rs : List Res). r ∷ rs) y.1)

pub reads_back : ReadsBack
reads_back status tag told body v is short few read =
    let b = read_reply status tag told body v is short (omega (arith, few)) read in
    record {
      as_many = many_length outcome (length told) (record { at = b.at; rest = flat_map outcome.spell told }) v.results b.new b.results;
      first = λ front rest fits shorter spelled.
          first_read front (length told) b.at rest v.results b.new fits shorter
          (subst (λ (bytes : List ℕ). many outcome (length told) (record { at = b.at; rest = bytes }) ≡ Ok (v.results, b.new)) spelled b.results);
    }
