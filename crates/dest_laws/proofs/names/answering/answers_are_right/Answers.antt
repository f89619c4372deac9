use Rattle.std.proofs.Common.{◌≡◌, ◌∙◌, ap, suc, sym, true}
use Rattle.dest_core.specs.Stepping.{copier_in}
use Rattle.dest_laws.proofs.names.Caused.{takes_caused}
use Rattle.dest_laws.proofs.names.CopyTold.{copy_accepted, record_copies}
use Rattle.dest_laws.proofs.names.Shown.{are_then, are_told, held_then, none_sealed, reports_then, safe_then, status_then}
use Rattle.dest_laws.proofs.names.Stated.{committed_shown, record_says}
use Rattle.dest_laws.proofs.names.answering.answers_are_right.Goals as goal
use Rattle.dest_laws.specs.Names.Holding.{safe_at}
use Rattle.dest_laws.specs.Names.Right.{IsSafe}
use Rattle.dest_laws.specs.Own.Going.{jobs_in}
use Rattle.dest_laws.specs.View.Steps.{table_in}
use Rattle.nfs_base.specs.declared.job.JobName.{JobName}
use Rattle.server_laws.specs.Acts.{acts_of}
use Rattle.session_server.specs.Host.{Codes}
use Rattle.wire_machine.specs.History.{says_stable}
use Rattle.wire_meaning.specs.Meaning.{meaning}
use Rattle.wire_model.specs.Wire.{Acts}

pub returns : goal.returns
returns g c =
    let mic = g.M.Mechanism.mic_of in
    let read = c.callbacks_are_read.ensures in
    let keep = c.histories_stay_linked.ensures.keeps in
    let later = c.entries_grow_by_deeds.ensures.later in
    let taken = c.records_tell_nothing.ensures in
    λ accepts whose s k speaker mech conn message now d before after t is shows fair held.
    let codes : Codes = record { mic = g.M.Mechanism.mic_of; derived = g.M.Mechanism.derived } in
    let by = c.steps_go_by_deeds.ensures.record_ mech conn message now d before after t is in
    let are =
    are_told _ (copier_in d).back (copier_in t.host).back (taken.told mech conn message now d before after t is) (are_then accepts whose mic read s k _ speaker _ d t shows keep later by held) in
    let sealed = none_sealed (IsSafe (table_in t.host).boot (s.made (suc k)) (safe_at s (suc k))) t.out.sent (taken.sealed mech conn message now d before after t is fair.owner fair.same_owner) in
    let says : (name : JobName) → says_stable meaning name (acts_of codes message now d t).executed ≡ true → IsSafe (table_in t.host).boot (s.made (suc k)) (safe_at s (suc k)) name =
    λ name says.
    safe_then accepts whose mic read s k _ speaker _ d t shows keep later by name
    (committed_shown s k d name shows.before held.given
    (record_says c.results_are_read_back.ensures c.compounds_are_spelled.ensures.found codes _ _ (c.steps_carry_compounds_out.ensures.told mech) conn message now d before after t fair held.have is name says)) in (
      held_then accepts whose mic read s k _ speaker _ d t shows keep later by held are sealed says (taken.sessions mech conn message now d before after t is held.fit) (takes_caused (jobs_in d) (jobs_in t.host) (c.records_take_and_end.ensures.record_ mech conn message now d before after t is) held.have),
      reports_then accepts whose mic read s k _ speaker _ d t shows keep later by held are sealed says,
      λ os results plan name executed asks named.
          copy_accepted _ _ s k _ speaker _ d t shows held.given plan name
          (record_copies c.results_are_read_back.ensures c.compounds_are_spelled.ensures.found codes _ _ (c.steps_carry_compounds_out.ensures.told mech) conn message now d before after t fair
          (record { ops = os; results = results }) (sym (ap (λ (a : Acts). a.executed) shows.acts) ∙ executed) plan name asks named is),
      status_then accepts whose mic read s k _ speaker _ d t shows keep later by held are sealed says,
    )
