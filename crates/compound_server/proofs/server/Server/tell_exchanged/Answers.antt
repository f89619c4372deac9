use Rattle.std.proofs.Common.{ℕ, List, ◌++◌, ap, ◌∙◌}
use Rattle.compound_server.specs.declared.client_end.ClientEnd.TheVariants.{Lapsed}
use Rattle.compound_server.specs.State.{Parting, state_of, without_all}
use Rattle.compound_server.proofs.Telling.{exchanged_refused, exchanged_known, exchanged_res, done_text}
use Rattle.compound_server.specs.PageLaws.{added_then}
use Rattle.compound_server.proofs.server.Server.tell_exchanged.Goals as goal
use Rattle.compound_server.proofs.server.Server.tell_exchanged.Goals.{in-Refused, in-Client}

pub returns-clause-gives : goal.returns-clause-gives
returns-clause-gives g c =
    let parting : Parting g.row.X.Denot = record { leave = g.X.Serving.leaves; lapse = g.X.Serving.lapses } in
    let tag = c.args.tag.now in
    let old = state_of g.D.Disk.size c.args.self.now in
    let new = state_of g.D.Disk.size c.match-answer.self in
    elim c.match-answer.branch [
      | in-Refused w ↦ exchanged_refused parting c.args.answer w.in-Refused.status tag old new c.args.used c.finish.result
          w.in-Refused.is (ap (state_of g.D.Disk.size) w.self-is) c.requires.unused
          (c.finish.ensures ∙ ap (λ page. page.bytes) w.page-is ∙ w.put_refusal.ensures.bytes)
      | in-Client w ↦
          let id = w.in-Client.id in
          let sequence = w.in-Client.sequence in
          let confirmed = w.in-Client.confirmed in
          exchanged_known parting c.args.answer id sequence confirmed w.in-Client.ended tag old new c.args.used c.finish.result
          w.in-Client.is
          (ap (state_of g.D.Disk.size) w.self-is ∙ w.end_clients.ensures.left ∙ ap (λ (ids : List ℕ). without_all parting Lapsed ids old) w.as_slice.ensures)
          c.requires.unused
          (c.finish.ensures ∙ ap (λ page. page.bytes) w.page-is ∙ (added_then w.put_head.ensures.added w.put_exchanged.ensures.added).is
          ∙ ap (λ (bytes : List ℕ). bytes ++ done_text tag (exchanged_res w.tag.result id sequence confirmed)) c.requires.empty
          ∙ ap (λ (n : ℕ). done_text tag (exchanged_res n id sequence confirmed)) (w.tag.ensures ∙ ap (λ volume. volume.tag) w.end_clients.ensures.rest.volume))
    ]
