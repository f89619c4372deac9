use Rattle.std.specs.Prelude.{false, suc}
use Rattle.caller_laws.specs.Good.{Identity}
use Rattle.nfs_base.specs.declared.seal.End.TheVariants.{Dest, Source}
use Rattle.run_ends.specs.Ends.{count_gives, words_of}
use Rattle.run_ends.specs.Setting.{dest_name}
use Rattle.run_promise.proofs.dest.CallerRuns.{acts, begins_start, dest, lawful_shown}
use Rattle.run_promise.proofs.dest.calls.destinations_are_lawful_callers.Goals as goal

pub returns : goal.returns
returns g c mech first steps accepts whose view purposes is goes =
    let k = g.M.Mechanism in
    let words = words_of k.mic_of k.derived k.started k.accepted k.finished count_gives in
    let me : Identity = record { accepts = accepts; whose = whose; own = Dest } in
    let at = dest words accepts whose mech first steps in
    let shown = acts words accepts whose mech first steps in
    lawful_shown words accepts whose mech first steps view purposes
    (begins_start mech first.dest is.opened (λ above. c.mounts_begin_lawful.ensures.start above Source false))
    (λ n. c.seen_steps_are_lawful.ensures.laws mech dest_name me (at n) (at (suc n)) (shown n) (goes n).seen (goes n).spelled (goes n).settled)
