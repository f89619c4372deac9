use Rattle.std.specs.Prelude.{max}
use Rattle.std.proofs.Common.{sym}
use Rattle.dest_laws.proofs.calls.Records.{record_seen}
use Rattle.dest_laws.proofs.calls.seen.records_are_seen.Goals as goal
use Rattle.dest_laws.specs.Own.Going.{jobs_in}
use Rattle.mount.specs.Taking.{Means}

pub returns : goal.returns
returns g c mech principal who conn message now s before after t speaker executed settled owner comes turn =
    let means : Means = record { mic = g.M.Mechanism.mic_of; derived = g.M.Mechanism.derived; finished = g.M.Mechanism.finished mech principal } in
    let tokens = g.M.Mechanism.accepted mech in
    let deeds = c.steps_go_by_deeds.ensures.record_ mech conn message now s before after t turn in
    let later = c.entries_grow_by_deeds.ensures.later deeds.0 (jobs_in s) (jobs_in t.host) deeds.1 in
    record_seen who means tokens g.W.Draws.gives (c.own_parts_go_on.ensures.step mech) conn message now s before after t speaker executed settled owner later.made
    (λ so. sym (c.volumes_stay_fitting.ensures.opening s.state.machine.store t.host.state.machine.store t.out.used (c.steps_change_by_calls.ensures mech conn message now s before after t so)))
    (λ so. c.servers_send_replies.ensures.answers tokens (max s.second now) conn message s before after t c.tokens_agree.ensures.codes comes so) turn
