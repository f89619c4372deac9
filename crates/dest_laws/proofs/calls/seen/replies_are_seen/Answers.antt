use Rattle.dest_laws.proofs.calls.Replying.{reply_seen}
use Rattle.dest_laws.proofs.calls.seen.replies_are_seen.Goals as goal
use Rattle.dest_laws.specs.Own.Going.{jobs_in}
use Rattle.mount.specs.Taking.{Means}

pub returns : goal.returns
returns g c mech principal who place now message s t speaker executed settled comes reply =
    let means : Means = record { mic = g.M.Mechanism.mic_of; derived = g.M.Mechanism.derived; finished = g.M.Mechanism.finished mech principal } in
    let deeds = c.steps_go_by_deeds.ensures.reply (record { mic = means.mic; derived = means.derived }) means.finished place message now s t reply in
    let later = c.entries_grow_by_deeds.ensures.later deeds.0 (jobs_in s) (jobs_in t.host) deeds.1 in
    let once = c.answers_are_taken_once.ensures in
    reply_seen who means (c.steps_are_lawful.ensures.laws mech principal who)
    (record { once = λ q bytes m heard. once.once means q bytes m heard; unmatched = λ q bytes m unheard. once.unmatched means q bytes m unheard }) place now message comes s t
    speaker executed settled later.made reply
