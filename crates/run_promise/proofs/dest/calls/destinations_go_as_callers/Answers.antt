use Rattle.std.specs.Prelude.{false}
use Rattle.caller_laws.specs.Good.{Identity}
use Rattle.nfs_base.specs.declared.seal.End.TheVariants.{Dest, Source}
use Rattle.run_ends.specs.Ends.{count_gives, words_of}
use Rattle.run_ends.specs.Setting.{dest_name, dest_source}
use Rattle.run_promise.proofs.dest.CallerRuns.{begins_fit, begins_kept, begins_planned, begins_settled, counts_fit, name_is_bytes, run_goes}
use Rattle.run_promise.proofs.dest.Plans.{plans_stay}
use Rattle.run_promise.proofs.dest.calls.destinations_go_as_callers.Goals as goal
use Rattle.wire_spelling.specs.Spelling.{spelling}

pub returns : goal.returns
returns g c mech first steps accepts whose is are never own gives_bytes tokens =
    let k = g.M.Mechanism in
    let words = words_of k.mic_of k.derived k.started k.accepted k.finished count_gives in
    let me : Identity = record { accepts = accepts; whose = whose; own = Dest } in
    run_goes words accepts whose mech first steps (c.runs_are_seen.ensures mech first steps accepts whose own are never) gives_bytes
    (counts_fit (k.started mech dest_name) c.counted_draws_are_nonces.ensures tokens) name_is_bytes
    (plans_stay words mech (spelling accepts whose) first steps are never (begins_planned mech first.dest is.opened))
    (λ s t shown it fit sends. c.fit_steps_are_spelled.ensures mech dest_name me s t shown it gives_bytes fit sends)
    (λ s t shown it spelled settled deeds. c.seen_steps_are_lawful.ensures.settled mech dest_name me s t shown it spelled settled deeds)
    (begins_kept mech first.dest is.opened)
    (begins_settled mech first.dest is.opened me (λ boot capacity. c.destinations_begin_settled.ensures me boot capacity dest_source dest_name))
    (begins_fit mech first.dest is.opened (c.mounts_stay_fit.ensures.begin Source false))
