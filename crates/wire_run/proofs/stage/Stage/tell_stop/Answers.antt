use Rattle.std.proofs.Common.{◌≡◌, ℕ, List, ◌++◌, ◌∷◌, [], ap, ◌∙◌, subst, OnOk}
use Rattle.std.specs.String.{string_bytes}
use Rattle.volume_stops.specs.declared.kept.Kept.{Kept}
use Rattle.wire_machine.specs.declared.choice.Choice.TheVariants.{Stopped}
use Rattle.wire_run.proofs.Cuts.{always, still, stop_line}
use Rattle.wire_run.proofs.stage.Stage.tell_stop.Goals as goal

pub returns-in_err-push_to-clause-keeps : goal.returns-in_err-push_to-clause-keeps
returns-in_err-push_to-clause-keeps g c = still c.args.self.now c.requires.bytes

pub returns-clause-lines : goal.returns-clause-lines
returns-clause-lines g c =
    always c.count.result _
    (c.in_ok-push_to.ensures ∙ ap (λ (t : List ℕ). string_bytes c.args.text.now ++ t)
    (stop_line c.args.side c.args.pending c.args.self.now c.opening.result c.kept-kept.result c.opening.ensures c.kept-kept.ensures))

pub returns-clause-choices : goal.returns-clause-choices
returns-clause-choices g c =
    subst (λ (k : Kept). OnOk c.count.result (c.count.new.self.choices.items ≡ c.args.self.now.choices.items ++ Stopped k ∷ [])) c.kept-kept.ensures c.count.ensures.choices
