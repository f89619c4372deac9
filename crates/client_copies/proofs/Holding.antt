-- To tell a copy all that was held for it is to tell it the first that decides.
use Rattle.std.proofs.Common.{◌≡◌, Bool, true, false, List, [], ◌∷◌, ◌++◌, Option, Some, refl, ap, ◌∙◌, cond}
use Rattle.std.specs.Prelude.{find, option_map}
use Rattle.copy_ops.specs.declared.callback.OffloadEnd.{OffloadEnd}
use Rattle.copy_ops.specs.declared.callback.OffloadEnd.TheVariants as ends
use Rattle.nfs_base.specs.declared.state_id.StateId.{StateId}
use Rattle.nfs_base.specs.declared.written.Stability.{Stability}
use Rattle.nfs_base.specs.declared.written.Stability.TheVariants.{Unstable, DataSync, FileSync}
use Rattle.client_copies.specs.declared.copy.ClientCopy.{ClientCopy}
use Rattle.client_copies.specs.declared.copy.Stage.{Stage}
use Rattle.client_copies.specs.declared.copy.Stage.TheVariants.{Due, Asked, Accepted, Over}
use Rattle.client_copies.specs.declared.event.Event.{Event}
use Rattle.client_copies.specs.declared.event.Event.TheVariants.{Offloaded}
use Rattle.client_copies.specs.declared.held.HeldOffload.{HeldOffload}
use Rattle.client_copies.specs.declared.told.Said.{Said}
use Rattle.client_copies.specs.declared.told.Word.{Word}
use Rattle.client_copies.specs.Held.{decides, each_told, held_for, is_for, is_sync, is_told_for, one_told, told_for}
use Rattle.client_copies.specs.Steps.{after, is_going, on_offloaded, offloaded, quiet, synced}
use Rattle.client_copies.specs.Words.{ran, told, told_by_run}

-- two runs tell the same of a copy, and leave it alike
record IsAlike (xs ys : List Event) (c : ClientCopy) : Type 0 where
  said : told_by_run xs c ≡ told_by_run ys c
  same : ran xs c ≡ ran ys c

-- behind an event that leads to the same, so do the runs
behind_one : (o : Said × ClientCopy) (e : Event) (xs : List Event) (c : ClientCopy) → after e c ≡ o
    → told_by_run (e ∷ xs) c ≡ told o.0 ++ told_by_run xs o.1
behind_one o e xs c is = ap (λ p. told p.0 ++ told_by_run xs p.1) is

-- a copy that doesn't go on hears no CB_OFFLOAD
deaf_step : (end : OffloadEnd) (c : ClientCopy) → is_going c.stage ≡ false → after (Offloaded end) c ≡ quiet c
unfolding after
deaf_step end c e = ap (λ b. on_offloaded end b c) e

deaf : (held : List HeldOffload) (c : ClientCopy) → is_going c.stage ≡ false → IsAlike (each_told held) [] c
deaf [] c e = record { said = refl; same = refl }
deaf (h ∷ hs) c e = record {
  said = ap (λ p. told p.0 ++ told_by_run (each_told hs) p.1) (deaf_step h.end c e) ∙ (deaf hs c e).said;
  same = ap (λ p. ran (each_told hs) p.1) (deaf_step h.end c e) ∙ (deaf hs c e).same;
}

-- one that decides nothing changes nothing
idle_level : (level : Stability) (c : ClientCopy) → is_sync level ≡ false → synced level c ≡ quiet c
idle_level FileSync c e = absurd cc
idle_level DataSync c e = refl
idle_level Unstable c e = refl

idle_end : (end : OffloadEnd) (c : ClientCopy) → decides end ≡ false → offloaded end c ≡ quiet c
idle_end (ends.Done response) c e = idle_level response.committed c e
idle_end (ends.Failed status count) c e = absurd cc

idle_on : (end : OffloadEnd) (b : Bool) (c : ClientCopy) → decides end ≡ false → on_offloaded end b c ≡ quiet c
idle_on end true c e = idle_end end c e
idle_on end false c e = refl

idle_step : (end : OffloadEnd) (c : ClientCopy) → decides end ≡ false → after (Offloaded end) c ≡ quiet c
unfolding after
idle_step end c e = idle_on end (is_going c.stage) c e

-- behind one that decides the copy doesn't go on
decided_level : (level : Stability) (c : ClientCopy) → is_sync level ≡ true → is_going (synced level c).1.stage ≡ false
decided_level FileSync c e = refl
decided_level DataSync c e = absurd cc
decided_level Unstable c e = absurd cc

decided_end : (end : OffloadEnd) (c : ClientCopy) → decides end ≡ true → is_going (offloaded end c).1.stage ≡ false
decided_end (ends.Done response) c e = decided_level response.committed c e
decided_end (ends.Failed status count) c e = refl

decided_on : (end : OffloadEnd) (st : Stage) (c : ClientCopy) → decides end ≡ true → is_going (on_offloaded end (is_going st) (record c { stage = st })).1.stage ≡ false
decided_on end (Due s) c e = refl
decided_on end (Asked s) c e = refl
decided_on end Accepted c e = decided_end end (record c { stage = Accepted }) e
decided_on end (Over v) c e = refl

decided_step : (end : OffloadEnd) (c : ClientCopy) → decides end ≡ true → is_going (after (Offloaded end) c).1.stage ≡ false
unfolding after
decided_step end c e = decided_on end c.stage c e

-- ---- all that are held, one after the other

append_none : (xs : List Word) → xs ++ [] ≡ xs
append_none [] = refl
append_none (x ∷ xs) = ap (λ ys. x ∷ ys) (append_none xs)

decided_more : (h : HeldOffload) (hs : List HeldOffload) (c : ClientCopy) → decides h.end ≡ true → IsAlike (each_told (h ∷ hs)) (one_told (Some h.end)) c
decided_more h hs c e =
    let rest = deaf hs (after (Offloaded h.end) c).1 (decided_step h.end c e) in
    record { said = ap (λ ws. told (after (Offloaded h.end) c).0 ++ ws) rest.said; same = rest.same }

idle_more : (h : HeldOffload) (hs : List HeldOffload) (ys : List Event) (c : ClientCopy) → decides h.end ≡ false → IsAlike (each_told hs) ys c
    → IsAlike (each_told (h ∷ hs)) ys c
idle_more h hs ys c e more = record {
  said = ap (λ p. told p.0 ++ told_by_run (each_told hs) p.1) (idle_step h.end c e) ∙ more.said;
  same = ap (λ p. ran (each_told hs) p.1) (idle_step h.end c e) ∙ more.same;
}

-- the first of a list, by whether it is for the stateid and whether it decides
by_both : (h : HeldOffload) (for decided : Bool) (xs : List HeldOffload) (o : Option HeldOffload) (c : ClientCopy) → decides h.end ≡ decided
    → IsAlike (each_told xs) (one_told (option_map (λ x. x.end) o)) c
    → IsAlike (each_told (cond for (h ∷ xs) xs)) (one_told (option_map (λ x. x.end) (cond (cond for decided false) (Some h) o))) c
by_both h true true xs o c e more = decided_more h xs c e
by_both h true false xs o c e more = idle_more h xs (one_told (option_map (λ x. x.end) o)) c e more
by_both h false true xs o c e more = more
by_both h false false xs o c e more = more

all_held : (id : StateId) (held : List HeldOffload) (c : ClientCopy) → IsAlike (each_told (held_for id held)) (one_told (told_for id held)) c
all_held id [] c = record { said = refl; same = refl }
all_held id (h ∷ hs) c = by_both h (is_for id h) (decides h.end) (held_for id hs) (find (is_told_for id) hs) c refl (all_held id hs c)

pub held_said : (id : StateId) (held : List HeldOffload) (c : ClientCopy) → told_by_run (each_told (held_for id held)) c ≡ told_by_run (one_told (told_for id held)) c
held_said id held c = (all_held id held c).said

pub held_after : (id : StateId) (held : List HeldOffload) (c : ClientCopy) → ran (each_told (held_for id held)) c ≡ ran (one_told (told_for id held)) c
held_after id held c = (all_held id held c).same
