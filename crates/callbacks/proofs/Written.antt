-- The reply to a CB_COMPOUND that was read can be written.
use Rattle.std.proofs.Common.{◌≡◌, ℕ, zero, suc, ◌+◌, ◌*◌, ◌<◌, ◌≤◌, ◌^◌, Bool, true, false, cond, List, [], ◌∷◌, ◌++◌, length, Option, Result, Ok, Err, refl, ap, sym, subst, arith, lit<, lit≤}
use Rattle.std.specs.Prelude.{◌==◌, ◌||◌, nat_lt, sum_by, if◌then◌else◌}
use Rattle.std.specs.List.{AllByRecursion}
use Rattle.std.proofs.lemmas.List.{length-append}
use Rattle.std.proofs.lemmas.List.Sums.{sum_by-cons}
use Rattle.client_copies.specs.Table.{Copies, offloaded_in}
use Rattle.client_copies.specs.declared.table.Named.{Named}
use Rattle.client_copies.specs.declared.table.Named.TheVariants as named
use Rattle.copy_ops.specs.declared.operation.TheConstants.{OP_CB_OFFLOAD}
use Rattle.file_ops.specs.Callbacks.{cb_seq, cb_seq_done}
use Rattle.file_ops.specs.declared.callbacks.CbSeq.{CbSeq}
use Rattle.file_ops.specs.declared.callbacks.CbSeqDone.{CbSeqDone}
use Rattle.file_ops.specs.declared.operation.TheConstants.{OP_CB_SEQUENCE, OP_ILLEGAL}
use Rattle.nfs_base.specs.Forms.{answer, status}
use Rattle.nfs_base.specs.declared.answer.Answer.{Answer}
use Rattle.nfs_base.specs.declared.answer.Answer.TheVariants.{Done, Refused}
use Rattle.nfs_base.specs.declared.limits.TheConstants.{MOST_OPERATIONS, TEXT_LIMIT}
use Rattle.nfs_base.specs.declared.status.Status.{Status}
use Rattle.nfs_base.specs.declared.status.TheConstants.Status as statuses
use Rattle.nfs_compound.specs.Body.{IsBody, behind_number, by_class, one_at, or_unreadable}
use Rattle.nfs_compound.specs.CallLengthLaws.{cb_reply_sized, cb_res_size}
use Rattle.nfs_compound.specs.Callbacks.{cb_arg, cb_class, cb_is_cut, cb_op_number, cb_operation, cb_outcome, cb_reply}
use Rattle.nfs_compound.specs.Compounds.{IsCbCompound}
use Rattle.nfs_compound.specs.declared.cb_compound.CbCompound.{CbCompound}
use Rattle.nfs_compound.specs.declared.cb_op.CbOp.{CbOp}
use Rattle.nfs_compound.specs.declared.cb_op.CbOp.TheVariants as ops
use Rattle.nfs_compound.specs.declared.cb_res.CbRes.{CbRes}
use Rattle.nfs_compound.specs.declared.cb_res.CbRes.TheVariants as results
use Rattle.nfs_compound.specs.declared.compound.TheConstants.{MINOR_VERSION}
use Rattle.nfs_compound.specs.declared.operation.Class.{Class}
use Rattle.nfs_compound.specs.declared.operation.Class.TheVariants as class
use Rattle.nfs_compound.specs.declared.tail.Tail.{Tail}
use Rattle.nfs_compound.specs.declared.tail.Tail.TheVariants as tails
use Rattle.wire_xdr.specs.Cursor.{Cursor, IsBytes}
use Rattle.wire_xdr.specs.WordLaws.{word_is}
use Rattle.wire_xdr.specs.WordReads.{word_read}
use Rattle.callbacks.specs.Callbacks.{Outcome, answered, behind, counted, evaluated, evaluated_by, first_number, if_ok, is_session, named_outcome, op_outcome, refused_res, sequence_by, sequenced, tail_number, tail_outcome, walked}
use Rattle.callbacks.specs.Writing.{CanBeWritten, reply_to}

-- ---- what was read: the tail's operation has a number of four bytes, and there are no more operations than are counted

abbrev TailFits : Tail → Type 0
TailFits tails.Whole = Unit {0}
TailFits (tails.Unreadable place op at) = op < 2 ^ 32
TailFits (tails.Unsupported place op) = op < 2 ^ 32
TailFits (tails.Illegal place op) = Unit {0}

abbrev fault_of : {X : Type 0} → Result X Tail → Tail
fault_of (Ok x) = tails.Whole
fault_of (Err tail) = tail

unreadable_fits : {X : Type 0} (place op : ℕ) (r : Result X ℕ) → op < 2 ^ 32 → TailFits (fault_of (or_unreadable place op r))
unreadable_fits place op (Ok x) small = tt
unreadable_fits place op (Err at) small = small

class_fits : (k : Class) (place op : ℕ) (c : Cursor) → op < 2 ^ 32 → TailFits (fault_of (by_class k cb_arg place op c))
class_fits class.Listed place op c small = unreadable_fits place op ((cb_arg op).read c) small
class_fits class.Unsupported place op c small = small
class_fits class.Illegal place op c small = tt

number_fits : (place : ℕ) (r : Result (ℕ × Cursor) ℕ) → ((n : ℕ) (d : Cursor) → r ≡ Ok (n, d) → n < 2 ^ 32)
    → TailFits (fault_of (behind_number cb_class cb_arg place r))
number_fits place (Ok op) small = class_fits (cb_class op.0) place op.0 op.1 (small op.0 op.1 refl)
number_fits place (Err at) small = lit< tt

one_fits : (place : ℕ) (c : Cursor) → IsBytes c.rest → TailFits (fault_of (one_at cb_class cb_arg place c))
unfolding one_at
one_fits place c bytes = number_fits place (word_read c) (λ n d e. (word_is.takes c n d bytes e).1)

abbrev IsCbBody : ℕ → ℕ → Cursor → List CbOp → Tail → Type 0
IsCbBody n place c ops tail = IsBody cb_operation (one_at cb_class cb_arg) cb_is_cut n place c ops tail

tail_fits : (n place : ℕ) (c : Cursor) (ops : List CbOp) (tail : Tail) → IsBytes c.rest → IsCbBody n place c ops tail → TailFits tail
tail_fits zero place c [] tail bytes b = subst TailFits (sym b.0) tt
tail_fits zero place c (v ∷ vs) tail bytes b = absurd b
tail_fits (suc n) place c [] tail bytes b = subst TailFits (ap fault_of b) (one_fits place c bytes)
tail_fits (suc n) place c (v ∷ vs) tail bytes b = tail_fits n (place + 1) b.0 vs tail b.1.bytes b.3

ops_few : (n place : ℕ) (c : Cursor) (ops : List CbOp) (tail : Tail) → IsCbBody n place c ops tail → length ops ≤ n
ops_few zero place c [] tail b = omega arith
ops_few zero place c (v ∷ vs) tail b = absurd b
ops_few (suc n) place c [] tail b = omega arith
ops_few (suc n) place c (v ∷ vs) tail b = let few = ops_few n (place + 1) b.0 vs tail b.3 in omega arith

-- ---- results that have a spelling

abbrev AreFit : List CbRes → Type 0
AreFit rs = AllByRecursion cb_outcome.Fits rs

-- a status that is no success
record IsRefusal (s : Status) : Type 0 where
  small : s.number < 2 ^ 32
  is : (s.number == 0) ≡ false

status_fits : (s : Status) → s.number < 2 ^ 32 → status.Fits s
unfolding status
status_fits s small = small

refused_answer : (s : Status) → IsRefusal s → (answer cb_seq_done).Fits (Refused s)
unfolding answer
refused_answer s refusal = (refusal.small, rw refusal.is refl, tt)

sequence_fits : (a : Answer CbSeqDone) → (answer cb_seq_done).Fits a → cb_outcome.Fits (results.Sequence a)
unfolding cb_outcome
sequence_fits a fits = (lit< tt, refl, fits)

offload_fits : (s : Status) → s.number < 2 ^ 32 → cb_outcome.Fits (results.Offload s)
unfolding cb_outcome
offload_fits s small = (lit< tt, refl, status_fits s small)

bare_fits : (op : ℕ) (s : Status) → op < 2 ^ 32 → (op == OP_CB_SEQUENCE) ≡ false → (op == OP_CB_OFFLOAD) ≡ false → IsRefusal s
    → cb_outcome.Fits (results.Bare op s)
unfolding cb_outcome
bare_fits op s small no_sequence no_offload refusal =
    (small, rw no_sequence (rw no_offload refl), (rw refusal.is refl, status_fits s refusal.small))

refused_by : (a b : Bool) (op : ℕ) (s : Status) → (op == OP_CB_SEQUENCE) ≡ a → (op == OP_CB_OFFLOAD) ≡ b → op < 2 ^ 32 → IsRefusal s
    → cb_outcome.Fits (cond a (results.Sequence (Refused s)) (cond b (results.Offload s) (results.Bare op s)))
refused_by true b op s e f small refusal = sequence_fits (Refused s) (refused_answer s refusal)
refused_by false true op s e f small refusal = offload_fits s refusal.small
refused_by false false op s e f small refusal = bare_fits op s small e f refusal

refused_fits : (op : ℕ) (s : Status) → op < 2 ^ 32 → IsRefusal s → cb_outcome.Fits (refused_res op s)
refused_fits op s small refusal = refused_by (op == OP_CB_SEQUENCE) (op == OP_CB_OFFLOAD) op s refl refl small refusal

-- ---- an outcome that can be written: few results, each with a spelling

record IsWritable (most : ℕ) (o : Outcome) : Type 0 where
  status : o.status.number < 2 ^ 32
  results : AreFit o.results
  few : length o.results ≤ most

one_result : (s : Status) (r : CbRes) (t : Copies) → s.number < 2 ^ 32 → cb_outcome.Fits r → IsWritable 1 (answered s r t)
one_result s r t small fits = record { status = small; results = (fits, tt); few = lit≤ tt }

refused_one : (op : ℕ) (s : Status) (t : Copies) → op < 2 ^ 32 → IsRefusal s → IsWritable 1 (answered s (refused_res op s) t)
refused_one op s t small refusal = one_result s (refused_res op s) t refusal.small (refused_fits op s small refusal)

tail_writable : (tail : Tail) (t : Copies) → TailFits tail → IsWritable 1 (tail_outcome tail t)
tail_writable tails.Whole t fits = record { status = lit< tt; results = tt; few = lit≤ tt }
tail_writable (tails.Unreadable place op at) t fits = refused_one op statuses.BADXDR t fits (record { small = lit< tt; is = refl })
tail_writable (tails.Unsupported place op) t fits = refused_one op statuses.NOTSUPP t fits (record { small = lit< tt; is = refl })
tail_writable (tails.Illegal place op) t fits = refused_one OP_ILLEGAL statuses.OP_ILLEGAL t (lit< tt) (record { small = lit< tt; is = refl })

-- ---- operations

sequenced_fits : (args : CbSeq) → cb_seq.Fits args → (answer cb_seq_done).Fits (Done (sequenced args))
unfolding answer cb_seq cb_seq_done
sequenced_fits args fits = (lit< tt, refl, (fits.0, (fits.1.0, (fits.1.1.0, (lit< tt, lit< tt)))))

sequence_writable : (first own : Bool) (args : CbSeq) (t : Copies) → cb_seq.Fits args → IsWritable 1 (sequence_by first own args t)
sequence_writable false own args t fits =
    one_result _ _ t (lit< tt) (sequence_fits _ (refused_answer statuses.SEQUENCE_POS (record { small = lit< tt; is = refl })))
sequence_writable true false args t fits =
    one_result _ _ t (lit< tt) (sequence_fits _ (refused_answer statuses.BADSESSION (record { small = lit< tt; is = refl })))
sequence_writable true true args t fits = one_result _ _ t (lit< tt) (sequence_fits _ (sequenced_fits args fits))

named_writable : (o : Named × Copies) → IsWritable 1 (named_outcome o)
named_writable (named.Copy number said, t) = record { status = lit< tt; results = (offload_fits statuses.OK (lit< tt), tt); few = lit≤ tt }
named_writable (named.Held, t) = record { status = lit< tt; results = (offload_fits statuses.OK (lit< tt), tt); few = lit≤ tt }
named_writable (named.Full, t) = record { status = lit< tt; results = (offload_fits statuses.DELAY (lit< tt), tt); few = lit≤ tt }

op_writable : (session : Option (List ℕ)) (first : Bool) (op : CbOp) (t : Copies) → cb_operation.Fits op → IsWritable 1 (op_outcome session first op t)
unfolding cb_operation cb_arg
op_writable session first (ops.Sequence args) t fits = sequence_writable first (is_session args.session session) args t fits.1.1
op_writable session true (ops.Offload args) t fits = one_result _ _ t (lit< tt) (offload_fits statuses.OP_NOT_IN_SESSION (lit< tt))
op_writable session false (ops.Offload args) t fits = named_writable (offloaded_in args.id args.end t)

-- ---- all of them

fit_append : (xs ys : List CbRes) → AreFit xs → AreFit ys → AreFit (xs ++ ys)
fit_append [] ys a b = b
fit_append (x ∷ xs) ys a b = (a.0, fit_append xs ys a.1 b)

joined_writable : (ok : Bool) (m : ℕ) (o more : Outcome) → IsWritable 1 o → IsWritable m more → IsWritable (m + 1) (if_ok ok o more)
joined_writable true m o more a b = record {
  status = b.status;
  results = fit_append o.results more.results a.results b.results;
  few = let x = a.few in let y = b.few in omega (arith, length-append o.results more.results);
}
joined_writable false m o more a b = record { status = a.status; results = a.results; few = let x = a.few in omega arith }

more_writable : (m n : ℕ) (o : Outcome) → m ≤ n → IsWritable m o → IsWritable n o
more_writable m n o le w = record { status = w.status; results = w.results; few = let few = w.few in omega arith }

walked_writable : (session : Option (List ℕ)) (first : Bool) (ops : List CbOp) (tail : Tail) (t : Copies)
    → AllByRecursion cb_operation.Fits ops → TailFits tail → IsWritable (length ops + 1) (walked session first ops tail t)
walked_writable session first [] tail t fits end = tail_writable tail t end
walked_writable session first (op ∷ more) tail t fits end =
    let o = op_outcome session first op t in
    more_writable (length more + 1 + 1) (length (op ∷ more) + 1) _ (omega arith)
    (joined_writable (o.status.number == 0) (length more + 1) o (walked session false more tail o.copies)
    (op_writable session first op t fits.0) (walked_writable session false more tail o.copies fits.1 end))

op_number_small : (op : CbOp) → cb_op_number op < 2 ^ 32
op_number_small (ops.Sequence args) = lit< tt
op_number_small (ops.Offload args) = lit< tt

tail_number_small : (tail : Tail) → TailFits tail → tail_number tail < 2 ^ 32
tail_number_small tails.Whole fits = lit< tt
tail_number_small (tails.Unreadable place op at) fits = fits
tail_number_small (tails.Unsupported place op) fits = fits
tail_number_small (tails.Illegal place op) fits = lit< tt

first_number_small : (ops : List CbOp) (tail : Tail) → TailFits tail → first_number ops tail < 2 ^ 32
first_number_small [] tail fits = tail_number_small tail fits
first_number_small (op ∷ more) tail fits = op_number_small op

counted_writable : (many : Bool) (session : Option (List ℕ)) (c : CbCompound) (t : Copies) → nat_lt MOST_OPERATIONS c.count ≡ many
    → length c.ops ≤ c.count → AllByRecursion cb_operation.Fits c.ops → TailFits c.tail → IsWritable 17 (counted many session c t)
counted_writable true session c t e few fits end =
    more_writable 1 17 _ (lit≤ tt)
    (refused_one (first_number c.ops c.tail) statuses.TOO_MANY_OPS t (first_number_small c.ops c.tail end) (record { small = lit< tt; is = refl }))
counted_writable false session c t e few fits end =
    more_writable (length c.ops + 1) 17 _ (grind (arith, e, few)) (walked_writable session true c.ops c.tail t fits end)

evaluated_writable : (ok : Bool) (session : Option (List ℕ)) (c : CbCompound) (t : Copies)
    → length c.ops ≤ c.count → AllByRecursion cb_operation.Fits c.ops → TailFits c.tail → IsWritable 17 (evaluated_by ok session c t)
evaluated_writable true session c t few fits end = counted_writable (nat_lt MOST_OPERATIONS c.count) session c t refl few fits end
evaluated_writable false session c t few fits end = record { status = lit< tt; results = tt; few = lit≤ tt }

-- ---- the reply

result_size : (r : CbRes) → cb_res_size r ≤ 40
result_size (results.Sequence v) = lit≤ tt
result_size (results.Offload s) = lit≤ tt
result_size (results.Bare op s) = lit≤ tt

results_size : (rs : List CbRes) → sum_by cb_res_size rs ≤ 40 * length rs
results_size [] = omega arith
results_size (r ∷ rs) = omega (arith, result_size r, results_size rs, sum_by-cons cb_res_size r rs)

reply_fits : (c : CbCompound) (o : Outcome) → length c.tag ≤ TEXT_LIMIT → IsWritable 17 o → cb_reply.Fits (reply_to c o)
unfolding cb_reply
reply_fits c o tag w = (status_fits o.status w.status, (tag, (let few = w.few in omega arith, w.results)))

writable : (c : CbCompound) (o : Outcome) → length c.tag ≤ TEXT_LIMIT → IsWritable 17 o → CanBeWritten c o
writable c o tag w =
    let fits = reply_fits c o tag w in
    record {
      fits = fits;
      short = let few = w.few in omega (arith, cb_reply_sized (reply_to c o) fits, results_size o.results);
    }

pub answer_writable : (bytes : List ℕ) (session : Option (List ℕ)) (c : CbCompound) (t : Copies) → IsCbCompound c bytes → CanBeWritten c (evaluated session c t)
answer_writable bytes session c t read =
    writable c (evaluated session c t) read.fits.tag
    (evaluated_writable (c.minor == MINOR_VERSION) session c t
    (ops_few c.count 0 read.behind c.ops c.tail read.body) read.fits.ops.1 (tail_fits c.count 0 read.behind c.ops c.tail read.head.bytes read.body))
