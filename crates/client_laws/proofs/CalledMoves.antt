-- What a CB_COMPOUND does to copies: each CB_OFFLOAD of a copy's name happens to it, in their order, and nothing else.
use Rattle.std.proofs.Common.{◌≡◌, ◌≢◌, ◌∙◌, ℕ, suc, ◌<◌, ◌≤◌, Bool, true, false, List, [], ◌∷◌, ◌++◌, length, Option, Some, None, Ok, refl, sym, ap, subst, get_or, arith}
use Rattle.std.specs.Prelude.{◌==◌, nat_lt}
use Rattle.std.specs.List.{AllByRecursion, flat_map, Contains}
use Rattle.std.proofs.lemmas.List.{append-nil, append_assoc, length-set}
use Rattle.std.proofs.lemmas.List.Quantifiers.{position-Some}
use Rattle.callbacks.specs.Callbacks.{Outcome, counted, evaluated, evaluated_by, if_ok, named_outcome, named_told, offload_by, op_outcome, is_session, sequence_by, tail_outcome, walked}
use Rattle.callbacks.specs.declared.evaluation.Told.{Told}
use Rattle.client_copies.specs.Held.{has_room}
use Rattle.client_copies.specs.Table.{Copies, copy_after, copy_at, held_if, named_by, names, offloaded_to, said_of, told_at}
use Rattle.client_copies.specs.Steps.{after, is_going, on_offloaded, synced}
use Rattle.client_copies.specs.declared.copy.ClientCopy.{ClientCopy}
use Rattle.client_copies.specs.declared.event.Event.{Event}
use Rattle.client_copies.specs.declared.event.Event.TheVariants as events
use Rattle.client_copies.specs.declared.held.HeldOffload.{HeldOffload}
use Rattle.client_copies.specs.declared.told.Word.{Word}
use Rattle.client_core.specs.Callbacks.{all_said, session_under}
use Rattle.client_core.specs.Endings.{Ways}
use Rattle.client_core.specs.State.{ClientState, second_at}
use Rattle.client_steps.specs.Desks.{said_by}
use Rattle.client_steps.specs.declared.desk.Desk.{Desk}
use Rattle.copy_ops.specs.declared.callback.CbOffload.{CbOffload}
use Rattle.copy_ops.specs.declared.callback.OffloadEnd.{OffloadEnd}
use Rattle.copy_ops.specs.declared.callback.OffloadEnd.TheVariants as ends
use Rattle.file_ops.specs.declared.callbacks.CbSeq.{CbSeq}
use Rattle.nfs_base.specs.declared.limits.TheConstants.{MOST_OPERATIONS}
use Rattle.nfs_base.specs.declared.state_id.StateId.{StateId}
use Rattle.nfs_base.specs.declared.written.Stability.{Stability}
use Rattle.nfs_base.specs.declared.written.Stability.TheVariants.{Unstable, DataSync, FileSync}
use Rattle.nfs_compound.specs.Compounds.{cb_compound_of}
use Rattle.nfs_compound.specs.declared.cb_compound.CbCompound.{CbCompound}
use Rattle.nfs_compound.specs.declared.cb_op.CbOp.{CbOp}
use Rattle.nfs_compound.specs.declared.cb_op.CbOp.TheVariants as ops
use Rattle.nfs_compound.specs.declared.compound.TheConstants.{MINOR_VERSION}
use Rattle.nfs_compound.specs.declared.tail.Tail.{Tail}
use Rattle.nfs_compound.specs.declared.tail.Tail.TheVariants as tails
use Rattle.outbox.specs.declared.note.Note.{Note}
use Rattle.rpc_calls.specs.Judging.{judged_of}
use Rattle.rpc_calls.specs.declared.call.Call.{Call}
use Rattle.rpc_calls.specs.declared.call.Judged.TheVariants as judged
use Rattle.rpc_calls.specs.declared.call.TheConstants.Program as programs
use Rattle.rpc_calls.specs.declared.call.Under.{Under}
use Rattle.rpc_calls.specs.declared.call.What.TheVariants as whats
use Rattle.client_laws.proofs.Changed.{changes_none, changes_then, notes_said, said_copies, said_if, said_notes, told_each, words_append, words_said}
use Rattle.client_laws.specs.Causes.{IsCalledBack}
use Rattle.client_laws.specs.Changes.{Changes}
use Rattle.client_laws.specs.Telling.{words_of}
use Rattle.client_laws.specs.TableLaws.{copy_kept, copy_written}

-- ---- a copy's name stays what it is

synced_name : (id : StateId) (level : Stability) (c : ClientCopy) → names id (Some (synced level c).1) ≡ names id (Some c)
synced_name id FileSync c = refl
synced_name id DataSync c = refl
synced_name id Unstable c = refl

offloaded_name : (id : StateId) (end : OffloadEnd) (b : Bool) (c : ClientCopy) → names id (Some (on_offloaded end b c).1) ≡ names id (Some c)
offloaded_name id end false c = refl
offloaded_name id (ends.Done response) true c = synced_name id response.committed c
offloaded_name id (ends.Failed status count) true c = refl

name_kept : (id : StateId) (end : OffloadEnd) (o : Option ClientCopy) → names id (copy_after (events.Offloaded end) o) ≡ names id o
unfolding after
name_kept id end None = refl
name_kept id end (Some c) = offloaded_name id end (is_going c.stage) c

-- ---- what several told records tell of copy j

abbrev pub told_words : ℕ → List Told → List Word
told_words j told = flat_map (λ one. said_if (one.copy == j) one.said) told

abbrev pub told_notes : List Told → List Note
told_notes told = flat_map (λ one. notes_said one.copy one.said) told

-- the copies that are told of have numbers of one byte
abbrev pub AreBytes : List Told → Type 0
AreBytes told = AllByRecursion (λ one. one.copy < 256) told

pub all_notes : (told : List Told) (d : Desk) → (all_said told d).out.notes ≡ d.out.notes ++ told_notes told
all_notes [] d = sym (append-nil d.out.notes)
all_notes (one ∷ more) d =
    all_notes more (said_by one.copy one.said d)
    ∙ ap (λ (ns : List Note). ns ++ told_notes more) (said_notes one.copy one.said d)
    ∙ append_assoc d.out.notes (notes_said one.copy one.said) (told_notes more)

pub all_copies : (told : List Told) (d : Desk) → (all_said told d).copies ≡ d.copies
all_copies [] d = refl
all_copies (one ∷ more) d = all_copies more (said_by one.copy one.said d) ∙ said_copies one.copy one.said d

pub words_told : (j : ℕ) (told : List Told) → AreBytes told → words_of j (told_notes told) ≡ told_words j told
words_told j [] small = refl
words_told j (one ∷ more) small =
    words_append j (notes_said one.copy one.said) (told_notes more)
    ∙ ap (λ (ws : List Word). ws ++ words_of j (told_notes more)) (words_said j one.copy one.said small.0)
    ∙ ap (λ (ws : List Word). said_if (one.copy == j) one.said ++ ws) (words_told j more small.1)

told_words_append : (j : ℕ) (xs ys : List Told) → told_words j (xs ++ ys) ≡ told_words j xs ++ told_words j ys
told_words_append j [] ys = refl
told_words_append j (x ∷ xs) ys =
    ap (λ (ws : List Word). said_if (x.copy == j) x.said ++ ws) (told_words_append j xs ys)
    ∙ sym (append_assoc (said_if (x.copy == j) x.said) (told_words j xs) (told_words j ys))

bytes_append : (xs ys : List Told) → AreBytes xs → AreBytes ys → AreBytes (xs ++ ys)
bytes_append [] ys a b = b
bytes_append (x ∷ xs) ys a b = (a.0, bytes_append xs ys a.1 b)

-- ---- an outcome over the copies

-- t are the copies at the step's beginning, u those before
pub record Outcomes (cause : ℕ → Event → Type 0) (t u : Copies) (o : Outcome) : Type 0 where
  pub many : length o.copies.copies ≡ length u.copies
  pub bytes : AreBytes o.told
  pub named : (id : StateId) (j : ℕ) → names id (copy_at j u) ≡ names id (copy_at j t) → names id (copy_at j o.copies) ≡ names id (copy_at j t)
  pub each : (j : ℕ) → Changes (cause j) (copy_at j u) (copy_at j o.copies) (told_words j o.told)

-- nothing happens to copies
outcomes_none : {cause : ℕ → Event → Type 0} {t u : Copies} {o : Outcome} → o.copies.copies ≡ u.copies → o.told ≡ [] → Outcomes cause t u o
outcomes_none {cause = cause} {t = t} {u = u} {o = o} same none = record {
  many = ap length same;
  bytes = subst AreBytes (sym none) tt;
  named = λ id j e. subst (λ (xs : List (Option ClientCopy)). names id (get_or xs j None) ≡ names id (copy_at j t)) (sym same) e;
  each = λ j.
      subst (λ (told : List Told). Changes (cause j) (copy_at j u) (copy_at j o.copies) (told_words j told)) (sym none)
      (subst (λ (xs : List (Option ClientCopy)). Changes (cause j) (copy_at j u) (get_or xs j None) []) (sym same) (changes_none (cause j) (copy_at j u)));
}

-- why a CB_OFFLOAD happens to copies: it is of their name
abbrev pub Reports : (cause : ℕ → Event → Type 0) → Copies → CbOp → Type 0
Reports cause t (ops.Sequence args) = Unit {0}
Reports cause t (ops.Offload args) = (j : ℕ) → names args.id (copy_at j t) ≡ true → cause j (events.Offloaded args.end)

pub held_same : (b : Bool) (one : HeldOffload) (u : Copies) → (held_if b one u).1.copies ≡ u.copies
held_same true one u = refl
held_same false one u = refl

held_silent : (b : Bool) (one : HeldOffload) (u : Copies) → named_told (held_if b one u).0 ≡ []
held_silent true one u = refl
held_silent false one u = refl

told_name : (id : StateId) (end : OffloadEnd) (i j : ℕ) (b : Bool) (u : Copies) → (i == j) ≡ b
    → names id (copy_at j (told_at i (events.Offloaded end) u).1) ≡ names id (copy_at j u)
told_name id end i j true u e =
    let same : i ≡ j = grind (arith, e) in
    subst (λ (n : ℕ). names id (copy_at n (told_at i (events.Offloaded end) u).1) ≡ names id (copy_at n u)) same
    (ap (names id) (copy_written (events.Offloaded end) i u) ∙ name_kept id end (copy_at i u))
told_name id end i j false u e =
    let other : j ≢ i = grind (arith, e) in
    ap (names id) (copy_kept i j (copy_after (events.Offloaded end) (copy_at i u)) u other)

offload_outcomes : (cause : ℕ → Event → Type 0) (t u : Copies) (id : StateId) (end : OffloadEnd) (o : Option ℕ) → named_by id u ≡ o → length u.copies ≤ 256
    → ((j : ℕ) → names id (copy_at j u) ≡ names id (copy_at j t)) → ((j : ℕ) → names id (copy_at j t) ≡ true → cause j (events.Offloaded end))
    → Outcomes cause t u (named_outcome (offloaded_to o id end u))
offload_outcomes cause t u id end None is few same why =
    let one : HeldOffload = record { id = id; end = end } in
    outcomes_none (held_same (has_room u.held) one u) (held_silent (has_room u.held) one u)
offload_outcomes cause t u id end (Some i) is few same why =
    let at = position-Some (names id) u.copies i None is in
    let small : i < 256 = let lt = at.0 in omega arith in
    record {
      many = length-set u.copies i (copy_after (events.Offloaded end) (copy_at i u));
      bytes = (small, tt);
      named = λ other j e. told_name other end i j (i == j) u refl ∙ e;
      each = λ j.
          subst (Changes (cause j) (copy_at j u) (copy_at j (told_at i (events.Offloaded end) u).1))
          (sym (append-nil (said_if (i == j) (said_of (events.Offloaded end) (copy_at i u)))))
          (told_each cause (i == j) j i (events.Offloaded end) u refl (why i (sym (same i) ∙ at.1)));
    }

sequence_outcomes : (cause : ℕ → Event → Type 0) (t u : Copies) (first own : Bool) (args : CbSeq) → Outcomes cause t u (sequence_by first own args u)
sequence_outcomes cause t u false own args = outcomes_none refl refl
sequence_outcomes cause t u true false args = outcomes_none refl refl
sequence_outcomes cause t u true true args = outcomes_none refl refl

offload_by_outcomes : (cause : ℕ → Event → Type 0) (t u : Copies) (first : Bool) (args : CbOffload) → length u.copies ≤ 256
    → ((id : StateId) (j : ℕ) → names id (copy_at j u) ≡ names id (copy_at j t)) → Reports cause t (ops.Offload args) → Outcomes cause t u (offload_by first args u)
offload_by_outcomes cause t u true args few same why = outcomes_none refl refl
offload_by_outcomes cause t u false args few same why =
    offload_outcomes cause t u args.id args.end (named_by args.id u) refl few (same args.id) why

op_outcomes : (cause : ℕ → Event → Type 0) (t u : Copies) (session : Option (List ℕ)) (first : Bool) (op : CbOp) → length u.copies ≤ 256
    → ((id : StateId) (j : ℕ) → names id (copy_at j u) ≡ names id (copy_at j t)) → Reports cause t op → Outcomes cause t u (op_outcome session first op u)
op_outcomes cause t u session first (ops.Sequence args) few same why = sequence_outcomes cause t u first (is_session args.session session) args
op_outcomes cause t u session first (ops.Offload args) few same why = offload_by_outcomes cause t u first args few same why

tail_outcomes : (cause : ℕ → Event → Type 0) (t u : Copies) (tail : Tail) → Outcomes cause t u (tail_outcome tail u)
tail_outcomes cause t u tails.Whole = outcomes_none refl refl
tail_outcomes cause t u (tails.Unreadable place op at) = outcomes_none refl refl
tail_outcomes cause t u (tails.Unsupported place op) = outcomes_none refl refl
tail_outcomes cause t u (tails.Illegal place op) = outcomes_none refl refl

behind_outcomes : {cause : ℕ → Event → Type 0} {t u : Copies} (ok : Bool) (o more : Outcome) → Outcomes cause t u o → Outcomes cause t o.copies more
    → Outcomes cause t u (if_ok ok o more)
behind_outcomes {cause = cause} {t = t} {u = u} true o more x y = record {
  many = y.many ∙ x.many;
  bytes = bytes_append o.told more.told x.bytes y.bytes;
  named = λ id j e. y.named id j (x.named id j e);
  each = λ j.
      subst (Changes (cause j) (copy_at j u) (copy_at j more.copies)) (sym (told_words_append j o.told more.told))
      (changes_then (cause j) (copy_at j u) (copy_at j o.copies) (copy_at j more.copies) (told_words j o.told) (told_words j more.told) (x.each j) (y.each j));
}
behind_outcomes false o more x y = x

walked_outcomes : (cause : ℕ → Event → Type 0) (t u : Copies) (session : Option (List ℕ)) (first : Bool) (list : List CbOp) (tail : Tail) → length u.copies ≤ 256
    → ((id : StateId) (j : ℕ) → names id (copy_at j u) ≡ names id (copy_at j t)) → AllByRecursion (Reports cause t) list
    → Outcomes cause t u (walked session first list tail u)
walked_outcomes cause t u session first [] tail few same why = tail_outcomes cause t u tail
walked_outcomes cause t u session first (op ∷ more) tail few same why =
    let o = op_outcome session first op u in
    let here = op_outcomes cause t u session first op few same why.0 in
    behind_outcomes (o.status.number == 0) o (walked session false more tail o.copies) here
    (walked_outcomes cause t o.copies session false more tail (let many = here.many in omega (arith, many, few)) (λ id j. here.named id j (same id j)) why.1)

-- the operations behind a CB_SEQUENCE of the session, which stands first
abbrev pub AllBehind : Option (List ℕ) → List CbOp → (CbOp → Type 0) → Type 0
AllBehind session list P =
    (args : CbSeq) (more : List CbOp) → is_session args.session session ≡ true → list ≡ ops.Sequence args ∷ more → AllByRecursion P more

-- nothing is done but behind it
sequenced_outcomes : (cause : ℕ → Event → Type 0) (t : Copies) (session : Option (List ℕ)) (own : Bool) (args : CbSeq) (more : List CbOp) (tail : Tail) → length t.copies ≤ 256
    → (own ≡ true → AllByRecursion (Reports cause t) more)
    → Outcomes cause t t (if_ok ((sequence_by true own args t).status.number == 0) (sequence_by true own args t) (walked session false more tail (sequence_by true own args t).copies))
sequenced_outcomes cause t session true args more tail few why =
    let o = sequence_by true true args t in
    behind_outcomes (o.status.number == 0) o (walked session false more tail o.copies) (sequence_outcomes cause t t true true args)
    (walked_outcomes cause t t session false more tail few (λ id j. refl) (why refl))
sequenced_outcomes cause t session false args more tail few why = sequence_outcomes cause t t true false args

first_outcomes : (cause : ℕ → Event → Type 0) (t : Copies) (session : Option (List ℕ)) (list : List CbOp) (tail : Tail) → length t.copies ≤ 256
    → AllBehind session list (Reports cause t) → Outcomes cause t t (walked session true list tail t)
first_outcomes cause t session [] tail few why = tail_outcomes cause t t tail
first_outcomes cause t session (ops.Sequence args ∷ more) tail few why =
    sequenced_outcomes cause t session (is_session args.session session) args more tail few (λ own. why args more own refl)
first_outcomes cause t session (ops.Offload args ∷ more) tail few why = outcomes_none refl refl

counted_outcomes : (cause : ℕ → Event → Type 0) (t : Copies) (many : Bool) (session : Option (List ℕ)) (c : CbCompound) → length t.copies ≤ 256
    → AllBehind session c.ops (Reports cause t) → Outcomes cause t t (counted many session c t)
counted_outcomes cause t true session c few why = outcomes_none refl refl
counted_outcomes cause t false session c few why = first_outcomes cause t session c.ops c.tail few why

evaluated_if : (cause : ℕ → Event → Type 0) (t : Copies) (ok : Bool) (session : Option (List ℕ)) (c : CbCompound) → length t.copies ≤ 256
    → AllBehind session c.ops (Reports cause t) → Outcomes cause t t (evaluated_by ok session c t)
evaluated_if cause t true session c few why = counted_outcomes cause t (nat_lt MOST_OPERATIONS c.count) session c few why
evaluated_if cause t false session c few why = outcomes_none refl refl

pub evaluated_outcomes : (cause : ℕ → Event → Type 0) (t : Copies) (session : Option (List ℕ)) (c : CbCompound) → length t.copies ≤ 256
    → AllBehind session c.ops (Reports cause t) → Outcomes cause t t (evaluated session c t)
evaluated_outcomes cause t session c few why = evaluated_if cause t (c.minor == MINOR_VERSION) session c few why

-- a call whose session is known came under a context
under_of : {M : Type 0} (c : ClientState M) (o : Option Under) (session : List ℕ) → is_session session (session_under o c) ≡ true → (under : Under) × (o ≡ Some under)
under_of c None session e = absurd cc
under_of c (Some under) session e = (under, refl)

-- so each CB_OFFLOAD behind the CB_SEQUENCE of such a call came by it
pub called_so : {M : Type 0} (ways : Ways) (message : List ℕ) (now : ℕ) (c : ClientState M) (call : Call) (args : List ℕ) (compound : CbCompound)
    → judged_of ways.means.mic (second_at now c) programs.CALLBACK message c.back ≡ judged.Call call → call.what ≡ whats.Compound args
    → cb_compound_of args ≡ Ok compound → (first : CbSeq) (more : List CbOp) → is_session first.session (session_under call.under c) ≡ true
    → compound.ops ≡ ops.Sequence first ∷ more → (offload : CbOffload) → Contains more (ops.Offload offload)
    → IsCalledBack ways message now c offload.id offload.end
called_so ways message now c call args compound is what read first more own are offload there =
    let context = under_of c call.under first.session own in
    record {
      call = call;
      judged_is = is;
      args = args;
      what = what;
      under = context.0;
      under_is = context.1;
      compound = compound;
      read = read;
      first = first;
      more = more;
      ops_are = are;
      offload = offload;
      there = there;
      id_is = refl;
      end_is = refl;
    }

-- ---- each of the operations is one of the compound's

pub contains_first : {X : Type 0} (x : X) (xs : List X) → Contains (x ∷ xs) x
contains_first x xs = (0, omega arith, refl)

pub contains_behind : {X : Type 0} (y x : X) (xs : List X) → Contains xs x → Contains (y ∷ xs) x
contains_behind y x xs there = (suc there.0, (let lt = there.1 in omega arith), there.2)

pub each_reports : (cause : ℕ → Event → Type 0) (t : Copies) (list : List CbOp)
    → ((args : CbOffload) → Contains list (ops.Offload args) → (j : ℕ) → names args.id (copy_at j t) ≡ true → cause j (events.Offloaded args.end))
    → AllByRecursion (Reports cause t) list
each_reports cause t [] why = tt
each_reports cause t (ops.Sequence args ∷ more) why = (tt, each_reports cause t more (λ args there. why args (contains_behind _ _ more there)))
each_reports cause t (ops.Offload args ∷ more) why = (why args (contains_first _ more), each_reports cause t more (λ other there. why other (contains_behind _ _ more there)))
