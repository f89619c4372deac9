-- What was held for a copy is told behind its acceptance, in the order in which it came.
use Rattle.std.proofs.Common.{◌≡◌, ◌<◌, ℕ, zero, suc, List, [], ◌∷◌, length, Option, Some, None, refl, sym, ap, ◌∙◌, set, get_or-set_same, subst}
use Rattle.std.specs.Prelude.{option_map}
use Rattle.copy_ops.specs.declared.callback.OffloadEnd.{OffloadEnd}
use Rattle.nfs_base.specs.declared.state_id.StateId.{StateId}
use Rattle.client_copies.specs.declared.copy.ClientCopy.{ClientCopy}
use Rattle.client_copies.specs.declared.event.Event.{Event}
use Rattle.client_copies.specs.declared.event.Event.TheVariants as events
use Rattle.client_copies.specs.declared.told.Said.{Said}
use Rattle.client_copies.specs.Held.{each_told, held_for, one_told, told_for}
use Rattle.client_copies.specs.Table.{Copies, accepted_at, copy_after, copy_at, released, said_of, told_held, with_copy}
use Rattle.client_copies.specs.Words.{ran}
use Rattle.client_copies.proofs.Holding.{held_after}

set_length : {X : Type 0} (xs : List X) (i : ℕ) (x : X) → length (set xs i x) ≡ length xs
set_length [] zero x = refl
set_length [] (suc i) x = refl
set_length (y ∷ ys) zero x = refl
set_length (y ∷ ys) (suc i) x = ap (λ n. suc n) (set_length ys i x)

written : (t : Copies) (n : ℕ) (x : Option ClientCopy) → n < length t.copies → copy_at n (with_copy n x t) ≡ x
written t n x h = rw get_or-set_same refl

-- a copy behind one event, and behind a run of them
ran_one : (event : Event) (o : Option ClientCopy) → copy_after event o ≡ option_map (ran (event ∷ [])) o
ran_one event None = refl
ran_one event (Some c) = refl

ran_none : (o : Option ClientCopy) → o ≡ option_map (ran []) o
ran_none None = refl
ran_none (Some c) = refl

ran_first : (event : Event) (es : List Event) (o : Option ClientCopy) → option_map (ran es) (copy_after event o) ≡ option_map (ran (event ∷ es)) o
ran_first event es None = refl
ran_first event es (Some c) = refl

ran_held : (id : StateId) (t : Copies) (o : Option ClientCopy)
    → option_map (ran (one_told (told_for id t.held))) o ≡ option_map (ran (each_told (held_for id t.held))) o
ran_held id t None = refl
ran_held id t (Some c) = ap (λ d. Some d) (sym (held_after id t.held c))

told_after : (n : ℕ) (end : Option OffloadEnd) (said : Said) (t : Copies) → n < length t.copies
    → copy_at n (told_held n end said t).1 ≡ option_map (ran (one_told end)) (copy_at n t)
told_after n None said t h = ran_none (copy_at n t)
told_after n (Some end) said t h =
    written t n (copy_after (events.Offloaded end) (copy_at n t)) h ∙ ran_one (events.Offloaded end) (copy_at n t)

pub accept_after : (n : ℕ) (id : StateId) (sent_at : ℕ) (t : Copies) → n < length t.copies
    → copy_at n (accepted_at n id sent_at t).1 ≡ option_map (ran (events.Accepted id sent_at ∷ each_told (held_for id t.held))) (copy_at n t)
accept_after n id sent_at t h =
    let event = events.Accepted id sent_at in
    let copy = copy_after event (copy_at n t) in
    let still : n < length (set t.copies n copy) = subst (λ (m : ℕ). n < m) (sym (set_length t.copies n copy)) h in
    told_after n (told_for id t.held) (said_of event (copy_at n t)) (released id (with_copy n copy t)) still
    ∙ ap (option_map (ran (one_told (told_for id t.held)))) (written t n copy h)
    ∙ ran_held id t copy
    ∙ ran_first event (each_told (held_for id t.held)) (copy_at n t)
