-- A reply that comes does what it does.
use Rattle.std.proofs.Common.{◌≡◌, ◌∙◌, ℕ, ap, refl, subst, sym, List}
use Rattle.std.specs.Prelude.{Option}
use Rattle.client_steps.specs.Acting.{Acting, acting}
use Rattle.client_steps.specs.Replies.{replied}
use Rattle.client_steps.specs.declared.acting.Course.{Course}
use Rattle.client_steps.specs.declared.acting.Queues.{Queues}
use Rattle.gss_mech.specs.declared.mechanism.Accepted.{Accepted}
use Rattle.nfs_base.specs.declared.side.Side.{Side}
use Rattle.client_core.specs.Backs.{free_number}
use Rattle.client_core.specs.Endings.{Ways, acting_at, ways_of}
use Rattle.client_core.specs.Parts.{course_of}
use Rattle.client_core.specs.Records.{heard}
use Rattle.client_core.specs.State.{ClientState, second_at}

heard_is : {M : Type 0} (ways : Ways) (side : Side) (message : List ℕ) (now : ℕ) (c : ClientState M) (free : Option ℕ) (at : ℕ) (start did : Acting)
    → did ≡ replied ways.means c.setting.me free side message start → free ≡ free_number at c.back → at ≡ second_at now c
    → start ≡ acting_at now c → did ≡ heard ways side message now c
heard_is ways side message now c free at start did does frees second begins =
    does ∙ ap (λ (a : Acting). replied ways.means c.setting.me free side message a) begins
    ∙ ap (λ (n : Option ℕ). replied ways.means c.setting.me n side message (acting_at now c)) (frees ∙ ap (λ (n : ℕ). free_number n c.back) second)

-- the client that is worked on is this one
pub hears : {M : Type 0} (mic derived : List ℕ → ℕ → List ℕ → List ℕ) (finished : M → List ℕ → List ℕ → List ℕ → Option (List ℕ))
    (started : M → List ℕ → List ℕ → Option (List ℕ)) (accepted : M → List ℕ → List ℕ → Option Accepted) (side : Side) (message : List ℕ) (now : ℕ)
    (w c : ClientState M) (queues : Queues) (free : Option ℕ) (at : ℕ) (start did : Course) → w ≡ c → w.source_queue ≡ queues.source
    → w.dest_queue ≡ queues.dest
    → acting queues did ≡ replied (ways_of mic derived finished started accepted w.setting).means w.setting.me free side message (acting queues start)
    → free ≡ free_number at w.back → at ≡ second_at now c → course_of c start ≡ acting_at now c
    → course_of c did ≡ heard (ways_of mic derived finished started accepted c.setting) side message now c
hears {M} mic derived finished started accepted side message now w c queues free at start did same source dest does frees second begins =
    subst
    (λ (x : ClientState M). at ≡ second_at now x → course_of x start ≡ acting_at now x
    → course_of x did ≡ heard (ways_of mic derived finished started accepted x.setting) side message now x)
    same
    (λ at_is start_is.
    let of_did : course_of w did ≡ acting queues did = rw source (rw dest refl) in
    let of_start : course_of w start ≡ acting queues start = rw source (rw dest refl) in
    heard_is (ways_of mic derived finished started accepted w.setting) side message now w free at (acting queues start) (course_of w did)
    (of_did ∙ does) frees at_is (sym of_start ∙ start_is))
    second begins
