-- The ways in which the destination of a run goes on. Own definitions.
use Rattle.std.specs.Prelude.{ℕ, List, Option}
use Rattle.dest_core.specs.Stepping.{DestState, DestStep}
use Rattle.run_ends.specs.Ends.{Words}
use Rattle.run_promise.specs.Dest.Ways as ways
use Rattle.run_promise.specs.Dest.Ways.{GoesBy, Way, words_by}
use Rattle.wire_lines.specs.declared.letters.Speaker.{Speaker}
use Rattle.wire_model.specs.System.{System}

-- it goes by its own mechanism, and what that starts and finishes for its principal
abbrev pub words_in : {M : Type 0} → Words M ℕ → DestState M → ways.Words ℕ
words_in words d =
    words_by (record { mic = words.mic; derived = words.derived }) (words.accepted d.state.machine.extra.mech) (words.started d.state.machine.extra.mech)
    (words.finished d.state.machine.extra.mech d.state.machine.extra.copier.principal) words.gives

-- it goes on in some way
abbrev pub GoesOn : {M : Type 0} → Words M ℕ → System → ℕ → Option (List ℕ) → Speaker → DestState M → DestStep M → Type 0
GoesOn words s k took speaker d t = (way : Way) × GoesBy (words_in words d) s k took speaker d t way
