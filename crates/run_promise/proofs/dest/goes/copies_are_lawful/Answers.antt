use Rattle.std.specs.Prelude.{ℕ}
use Rattle.run_ends.specs.Ends.{count_gives, machines, words_of}
use Rattle.run_promise.proofs.dest.GoesAlong.{goes_at}
use Rattle.run_promise.proofs.dest.goes.copies_are_lawful.Goals as goal
use Rattle.run_promise.specs.Dest.Moments.{host_at}
use Rattle.run_promise.specs.System.System.{opening_of}
use Rattle.wire_meaning.specs.Meaning.{meaning}
use Rattle.wire_spelling.specs.Spelling.{spelling}

pub returns : goal.returns
returns g c mech first steps accepts whose seen purposes is are never spelled safe =
    let t = g.M.Mechanism in
    let words = words_of t.mic_of t.derived t.started t.accepted t.finished count_gives in
    let s = opening_of (machines words) (record { mic = t.mic_of; derived = t.derived }) (spelling accepts whose) meaning seen first steps purposes in
    let host = host_at (machines words) (record { mic = t.mic_of; derived = t.derived }) (spelling accepts whose) meaning first steps in
    let shown = c.destinations_are_shown.ensures.run mech first steps (spelling accepts whose) meaning seen purposes is are never in
    let on = λ (k : ℕ). c.destinations_go_on.ensures mech first steps (spelling accepts whose) meaning seen purposes is are never k (spelled k) in
    let goes = goes_at words (spelling accepts whose) meaning first steps s shown on in
    let orderly = c.workers_ask_by_plans.ensures.begin _ _ _ _ _ _ first.dest is.opened.extra in
    let well = c.runs_land_well.ensures in
    let mechs = λ (k : ℕ). (host k).state.machine.extra.mech in
    let started = λ (k : ℕ). t.started (host k).state.machine.extra.mech in
    let finished = λ (k : ℕ). t.finished (host k).state.machine.extra.mech (host k).state.machine.extra.copier.principal in
    c.shown_copies_are_lawful.ensures mech first steps (spelling accepts whose) meaning seen purposes is are never
    (well.lands mechs started finished accepts whose s host _ (λ (k : ℕ). (on k).0) shown.run orderly goes)
    (well.holds mechs started finished accepts whose s host _ (λ (k : ℕ). (on k).0) shown.run orderly goes) safe
