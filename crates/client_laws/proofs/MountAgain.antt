-- All that is awaited goes out again at one server, upwards: first at the place of the setup or of the queue, then at those of copies.
use Rattle.std.proofs.Common.{◌≡◌, ℕ, ◌+◌, ◌≤◌, Bool, true, false, List, [], ◌∷◌, refl, arith}
use Rattle.std.specs.Prelude.{not}
use Rattle.caller_laws.specs.Good.{Identity}
use Rattle.caller_laws.specs.OneStep.Counting.{Counted}
use Rattle.client_laws.proofs.Going.{Rise, behind_dest, behind_first, behind_second, behind_third, copies_rise, dest_within, end_of, first_within, from_low, last_within, rises_first, rises_last, rises_second, rises_third, second_within, source_within, third_within, to_next}
use Rattle.client_laws.proofs.MountCalls.{again, same}
use Rattle.client_laws.proofs.MountMoves.{Own, Post, no_calls, runs_then, same_seal}
use Rattle.client_laws.proofs.MountParts.{ArePlaces, copies_are, first_place}
use Rattle.client_laws.proofs.RunKinds.{Kind, OnceMore, once_more}
use Rattle.client_steps.specs.Acting.{Acting}
use Rattle.client_steps.specs.Commands as commands
use Rattle.client_steps.specs.Commands.{copies_again}
use Rattle.client_steps.specs.CopySteps.{all_copies}
use Rattle.client_steps.specs.declared.desk.Desk.{Desk}
use Rattle.mount.specs.State.{is_setting_up}
use Rattle.mount.specs.Taking.{Means}
use Rattle.nfs_base.specs.declared.side.Side.{Side}
use Rattle.nfs_base.specs.declared.side.Side.TheVariants.{Source, Dest}
use Rattle.outbox.specs.declared.label.CallLabel.{CallLabel}

module _ (who : Identity) (means : Means) (boot : ℕ) (post : Post means.mic) (counted : Counted) (side : Side) where
  abbrev R : Kind → Desk → Desk → Type 0
  R k d e = Own who means boot post k side d e

  upwards : (low mid high : ℕ) (d e f : Desk) → R (OnceMore low mid) d e → R (OnceMore mid high) e f → R (OnceMore low high) d f
  upwards low mid high d e f x y = record {
    runs = runs_then who means boot post (OnceMore low mid) (OnceMore mid high) (OnceMore low high) (once_more low mid high) refl (λ loud. loud) side [] [] same_seal same_seal d e f
        x.runs y.runs;
    stays = λ loud. absurd (no_calls loud);
  }

  abbrev Within : Bool → Side → ℕ → ℕ → Type 0
  Within b there low high = b ≡ true → side ≡ there → (low ≤ 0) × (0 + 1 ≤ high)

  setup_again : (low high : ℕ) → low ≤ high → (b : Bool) (there : Side) (d : Desk) → Within b there low high → R (OnceMore low high) d (commands.setup_again means.mic b there d)
  setup_again low high rises true there d within = again who means boot post counted side low high rises there 0 _ d first_place (λ here. within refl here)
  setup_again low high rises false there d within = same who means boot post counted side (OnceMore low high) rises d

  work_again : (low high : ℕ) → low ≤ high → (b : Bool) (there : Side) (label : CallLabel) (d : Desk) → Within b there low high
      → R (OnceMore low high) d (commands.work_again means.mic b there label d)
  work_again low high rises true there label d within = again who means boot post counted side low high rises there 0 label d first_place (λ here. within refl here)
  work_again low high rises false there label d within = same who means boot post counted side (OnceMore low high) rises d

  again_all : (low : ℕ) (js : List ℕ) (d : Desk) → ArePlaces js → Rise low js → R (OnceMore low (end_of low js)) d (copies_again means.mic js d)
  unfolding copies_again
  again_all low [] d within rises = same who means boot post counted side (OnceMore low low) (omega arith) d
  again_all low (j ∷ js) d within rises =
      let e = commands.copy_again means.mic Dest j d in
      let f = commands.copy_again means.mic Source j e in
      let mid = behind_dest side j in
      let low_mid : low ≤ mid = from_low side low j rises.0 in
      let mid_high : mid ≤ j + 1 = to_next side j in
      let both = upwards low mid (j + 1) d e f (again who means boot post counted side low mid low_mid Dest j _ d within.0 (λ here. (rises.0, dest_within side j here)))
      (again who means boot post counted side mid (j + 1) mid_high Source j _ e within.0 (λ here. (source_within side j here, omega arith))) in
      upwards low (j + 1) (end_of (j + 1) js) d f _ both (again_all (j + 1) js f within.1 rises.1)

  pub retried : (a : Acting) → R (OnceMore 0 16) a.desk (commands.retried means.mic a).desk
  retried a =
      let d = a.desk in
      let source = is_setting_up d.source.mount in
      let dest = is_setting_up d.dest.mount in
      let at_source = commands.queue_label a.source_queue in
      let at_dest = commands.queue_label a.dest_queue in
      let e = commands.setup_again means.mic source Source d in
      let f = commands.setup_again means.mic dest Dest e in
      let g = commands.work_again means.mic (not source) Source at_source f in
      let h = commands.work_again means.mic (not dest) Dest at_dest g in
      let first = behind_first side source in
      let second = behind_second side source dest in
      let third = behind_third side dest in
      upwards 0 first 16 d e _ (setup_again 0 first (rises_first side source) source Source d (first_within side source))
      (upwards first second 16 e f _ (setup_again first second (rises_second side source dest) dest Dest e (second_within side source dest))
      (upwards second third 16 f g _ (work_again second third (rises_third side source dest) (not source) Source at_source f (third_within side source dest))
      (upwards third 1 16 g h _ (work_again third 1 (rises_last side dest) (not dest) Dest at_dest g (last_within side dest)) (again_all 1 all_copies h copies_are copies_rise))))
