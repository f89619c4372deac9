-- Each work is answered by one line, in the order in which they came.
use Rattle.std.proofs.Common.{◌≡◌, ℕ, List, [], ◌∷◌, ◌++◌, Option, refl, sym, ap, ◌∙◌, append_assoc}
use Rattle.std.specs.Prelude.{map, option_to_list}
use Rattle.nfs_base.specs.declared.status.Status.{Status}
use Rattle.write_queue.specs.declared.queue.Head.{Head}
use Rattle.write_queue.specs.declared.queue.Head.TheVariants.{Due, Opening, Asked}
use Rattle.write_queue.specs.declared.work.Line.{Line}
use Rattle.write_queue.specs.declared.work.QueueEvent.{QueueEvent}
use Rattle.write_queue.specs.declared.work.QueueEvent.TheVariants as events
use Rattle.write_queue.specs.declared.work.Work.{Work}
use Rattle.write_queue.specs.declared.work.Work.TheVariants.{Write, Commit}
use Rattle.write_queue.specs.Laws.{Turn, Comes, Happens, Falls, come, come_in, line_file, ran, told, turned}
use Rattle.write_queue.specs.Queue.{Queued, file_of, first, refused}
use Rattle.write_queue.specs.Steps.{after, asked, awaited, goes_out, on_opened, on_written, on_committed, on_refused}

-- what is told in one event, and what waits behind it, are of these files
abbrev Keeps : List Work → Option Line × Queued → Type 0
Keeps works o = map line_file (option_to_list o.0) ++ map file_of o.1.works ≡ map file_of works

abbrev with : List Work → Head → Queued → Queued
with works head q = record q { works = works; head = head }

sent_keeps : (to head : Head) (works : List Work) (q : Queued) → Keeps works (goes_out to head (first works) (with works head q))
sent_keeps to Due [] q = refl
sent_keeps to Due (w ∷ ws) q = refl
sent_keeps to Opening ws q = refl
sent_keeps to Asked ws q = refl

opened_keeps : (head : Head) (works : List Work) (q : Queued) → Keeps works (on_opened head (with works head q))
opened_keeps Due ws q = refl
opened_keeps Opening ws q = refl
opened_keeps Asked ws q = refl

written_keeps : (count : ℕ) (verifier : List ℕ) (head : Head) (works : List Work) (q : Queued)
    → Keeps works (on_written count verifier (asked head (first works)) (with works head q))
written_keeps count verifier Due ws q = refl
written_keeps count verifier Opening ws q = refl
written_keeps count verifier Asked [] q = refl
written_keeps count verifier Asked (Write file offset bytes ∷ ws) q = refl
written_keeps count verifier Asked (Commit file ∷ ws) q = refl

committed_keeps : (verifier : List ℕ) (head : Head) (works : List Work) (q : Queued)
    → Keeps works (on_committed verifier (asked head (first works)) (with works head q))
committed_keeps verifier Due ws q = refl
committed_keeps verifier Opening ws q = refl
committed_keeps verifier Asked [] q = refl
committed_keeps verifier Asked (Write file offset bytes ∷ ws) q = refl
committed_keeps verifier Asked (Commit file ∷ ws) q = refl

refused_keeps : (status : Status) (head : Head) (works : List Work) (q : Queued)
    → Keeps works (on_refused status (awaited head (first works)) (with works head q))
refused_keeps status Due ws q = refl
refused_keeps status Opening [] q = refl
refused_keeps status Opening (w ∷ ws) q = refl
refused_keeps status Asked [] q = refl
refused_keeps status Asked (w ∷ ws) q = refl

event_keeps : (event : QueueEvent) (q : Queued) → Keeps q.works (after event q)
unfolding after
event_keeps events.OpenSent q = sent_keeps Opening q.head q.works q
event_keeps events.Opened q = opened_keeps q.head q.works q
event_keeps events.Sent q = sent_keeps Asked q.head q.works q
event_keeps (events.Written count verifier) q = written_keeps count verifier q.head q.works q
event_keeps (events.Committed verifier) q = committed_keeps verifier q.head q.works q
event_keeps (events.Refused status) q = refused_keeps status q.head q.works q

-- ---- a turn

map_append : {X Y : Type 0} (f : X → Y) (xs ys : List X) → map f (xs ++ ys) ≡ map f xs ++ map f ys
map_append f [] ys = refl
map_append f (x ∷ xs) ys = ap (λ zs. f x ∷ zs) (map_append f xs ys)

append_none : {X : Type 0} (xs : List X) → xs ++ [] ≡ xs
append_none [] = refl
append_none (x ∷ xs) = ap (λ ys. x ∷ ys) (append_none xs)

files_refused : (status : Status) (works : List Work) → map line_file (map (refused status) works) ≡ map file_of works
files_refused status [] = refl
files_refused status (w ∷ ws) = ap (λ fs. file_of w ∷ fs) (files_refused status ws)

turn_keeps : (turn : Turn) (q : Queued) → map line_file (turned turn q).0 ++ map file_of (turned turn q).1.works ≡ map file_of q.works ++ map file_of (come_in turn)
turn_keeps (Comes work) q = map_append file_of q.works (work ∷ [])
turn_keeps (Happens event) q = event_keeps event q ∙ sym (append_none (map file_of q.works))
turn_keeps (Falls status) q = ap (λ fs. fs ++ []) (files_refused status q.works)

-- ---- a run

joined : (a b c d e f g : List ℕ) → b ++ c ≡ d ++ e → a ++ d ≡ f ++ g → (a ++ b) ++ c ≡ f ++ (g ++ e)
joined a b c d e f g h k = append_assoc a b c ∙ ap (λ xs. a ++ xs) h ∙ sym (append_assoc a d e) ∙ ap (λ xs. xs ++ e) k ∙ append_assoc f g e

pub run_keeps : (turns : List Turn) (q : Queued) → map line_file (told turns q) ++ map file_of (ran turns q).works ≡ map file_of q.works ++ map file_of (come turns)
run_keeps [] q = sym (append_none (map file_of q.works))
run_keeps (turn ∷ turns) q =
    let one = turned turn q in
    ap (λ xs. xs ++ map file_of (ran turns one.1).works) (map_append line_file one.0 (told turns one.1))
    ∙ joined (map line_file one.0) (map line_file (told turns one.1)) (map file_of (ran turns one.1).works) (map file_of one.1.works) (map file_of (come turns)) (map file_of q.works) (map file_of (come_in turn))
    (run_keeps turns one.1) (turn_keeps turn q)
    ∙ ap (λ xs. map file_of q.works ++ xs) (sym (map_append file_of (come_in turn) (come turns)))
