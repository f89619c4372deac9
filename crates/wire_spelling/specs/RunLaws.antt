-- Whether operations ran is told by how the reply to a COMPOUND begins, whatever stands behind (RFC 8881 sections 16.2 and
-- 18.46); and a session stands by its number.
use Rattle.std.proofs.Common.{◌≡◌, ◌⊎◌, inl, inr, ℕ, ◌+◌, ◌<◌, ◌≤◌, ◌^◌, Bool, true, false, List, [], ◌++◌, length, Ok, Err, refl, sym, ◌∙◌, ap, append_assoc, lit<}
use Rattle.std.specs.Prelude.{◌==◌, ◌&&◌, ◌≢◌}
use Rattle.std.proofs.lemmas.Bool.{ne_eqb}
use Rattle.std.proofs.lemmas.Nat.{from_be_bytes-to_be_bytes_4}
use Rattle.file_ops.specs.declared.operation.TheConstants.{OP_SEQUENCE}
use Rattle.nfs_base.specs.declared.limits.TheConstants.{TEXT_LIMIT}
use Rattle.sess_slots.specs.Table.{session_id}
use Rattle.wire_xdr.specs.All.{start}
use Rattle.wire_xdr.specs.Cursor.{Cursor}
use Rattle.wire_xdr.specs.Form.{Form}
use Rattle.wire_xdr.specs.Forms.{word, opaque, both}
use Rattle.wire_xdr.specs.Parts.{both_read}
use Rattle.wire_xdr.specs.WordReads.{word_read}
use Rattle.wire_xdr.specs.Words.{word_bytes, opaque_bytes}
use Rattle.wire_spelling.specs.Replies.{Front, front, has_begun, has_run}
use Rattle.wire_spelling.specs.Slots.{session_in}

-- a reply that begins so, with its first result
abbrev pub begun_with : (status : ℕ) → (tag : List ℕ) → (count op first : ℕ) → (rest : List ℕ) → List ℕ
begun_with status tag count op first rest =
    word_bytes status ++ (opaque_bytes tag ++ (word_bytes count ++ (word_bytes op ++ (word_bytes first ++ rest))))

-- its numbers and its tag have a spelling
pub record BeginsWell (status : ℕ) (tag : List ℕ) (count op first : ℕ) : Type 0 where
  pub status_small : status < 2 ^ 32
  pub tag_short : length tag ≤ TEXT_LIMIT
  pub count_small : count < 2 ^ 32
  pub op_small : op < 2 ^ 32
  pub first_small : first < 2 ^ 32

joined : (a b c d e rest : List ℕ) → (a ++ (b ++ (c ++ (d ++ e)))) ++ rest ≡ a ++ (b ++ (c ++ (d ++ (e ++ rest))))
joined a b c d e rest = simp append_assoc

pub run_is : (status : ℕ) (tag : List ℕ) (count op first : ℕ) (rest : List ℕ) → BeginsWell status tag count op first
    → has_run (begun_with status tag count op first rest) ≡ ((op == OP_SEQUENCE) && (first == 0))
run_is status tag count op first rest well =
    let v : Front = (status, (tag, (count, (op, first)))) in
    ap has_run (sym (joined (word_bytes status) (opaque_bytes tag) (word_bytes count) (word_bytes op) (word_bytes first) rest))
    ∙ ap has_begun (front.lawful.again 0 v rest (well.status_small, (well.tag_short, (well.count_small, (well.op_small, well.first_small)))))

-- SEQUENCE with status 0 has run
pub has_run_with : (status : ℕ) (tag : List ℕ) (count : ℕ) (rest : List ℕ) → BeginsWell status tag count OP_SEQUENCE 0
    → has_run (begun_with status tag count OP_SEQUENCE 0 rest) ≡ true
has_run_with status tag count rest well = run_is status tag count OP_SEQUENCE 0 rest well

-- another operation hasn't, nor has one with another status
pub not_run_with : (status : ℕ) (tag : List ℕ) (count op first : ℕ) (rest : List ℕ) → BeginsWell status tag count op first
    → (op ≢ OP_SEQUENCE) ⊎ (first ≢ 0) → has_run (begun_with status tag count op first rest) ≡ false
not_run_with status tag count op first rest well cause = run_is status tag count op first rest well ∙ by_cause cause
  where
    no_second : (b : Bool) → (b && false) ≡ false
    no_second true = refl
    no_second false = refl

    by_cause : (op ≢ OP_SEQUENCE) ⊎ (first ≢ 0) → ((op == OP_SEQUENCE) && (first == 0)) ≡ false
    by_cause (inl other) = ap (λ (b : Bool). b && (first == 0)) (ne_eqb op OP_SEQUENCE other)
    by_cause (inr failed) = ap (λ (b : Bool). (op == OP_SEQUENCE) && b) (ne_eqb first 0 failed) ∙ no_second (op == OP_SEQUENCE)

-- ---- a reply without results

at_end : (at : ℕ) → word_read (record { at = at; rest = [] }) ≡ Err at
unfolding word_read
at_end at = refl

-- where the second of two forms is refused, both are
second_refused : {A B : Type 0} (a : Form A) (b : Form B) (c : Cursor) (x : A) (after : Cursor) (place : ℕ) → a.read c ≡ Ok (x, after) → b.read after ≡ Err place
    → both_read a b c ≡ Err place
second_refused a b c x after place read refused = rw read (rw refused refl)

-- and where the first is
first_refused : {A B : Type 0} (a : Form A) (b : Form B) (c : Cursor) (place : ℕ) → a.read c ≡ Err place → both_read a b c ≡ Err place
first_refused a b c place refused = rw refused refl

zero_read : (at : ℕ) → word_read (record { at = at; rest = word_bytes 0 }) ≡ Ok (0, record { at = at + 4; rest = [] })
unfolding word_read word_bytes
zero_read at = refl

pub none_run : (status : ℕ) (tag : List ℕ) → status < 2 ^ 32 → length tag ≤ TEXT_LIMIT → has_run (word_bytes status ++ (opaque_bytes tag ++ word_bytes 0)) ≡ false
none_run status tag small short =
    let text : Form (List ℕ) = opaque TEXT_LIMIT (lit< tt) in
    let two : Form (ℕ × ℕ) = both word word in
    let at : ℕ = 0 + length (word_bytes status) in
    let behind : ℕ = at + length (opaque_bytes tag) in
    let none : both_read word two (record { at = behind; rest = word_bytes 0 }) ≡ Err (behind + 4) =
    second_refused word two (record { at = behind; rest = word_bytes 0 }) 0 (record { at = behind + 4; rest = [] }) (behind + 4) (zero_read behind)
    (first_refused word word (record { at = behind + 4; rest = [] }) (behind + 4) (at_end (behind + 4))) in
    let tagged : both_read text (both word two) (record { at = at; rest = opaque_bytes tag ++ word_bytes 0 }) ≡ Err (behind + 4) =
    second_refused text (both word two) (record { at = at; rest = opaque_bytes tag ++ word_bytes 0 }) tag (record { at = behind; rest = word_bytes 0 }) (behind + 4)
    (text.lawful.again at tag (word_bytes 0) short) none in
    ap has_begun (second_refused word (both text (both word two)) (start (word_bytes status ++ (opaque_bytes tag ++ word_bytes 0))) status
    (record { at = at; rest = opaque_bytes tag ++ word_bytes 0 }) (behind + 4) (word.lawful.again 0 status (opaque_bytes tag ++ word_bytes 0) small) tagged)

-- ---- the number of a session in its ID

pub session_back : (boot number : ℕ) → number < 2 ^ 32 → session_in (session_id boot number) ≡ number
session_back boot number small = from_be_bytes-to_be_bytes_4 number small
