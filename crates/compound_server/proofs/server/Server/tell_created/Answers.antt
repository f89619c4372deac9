use Rattle.std.proofs.Common.{ℕ, List, ◌++◌, ap, ◌∙◌}
use Rattle.compound_server.specs.State.{Parting, state_of}
use Rattle.compound_server.proofs.Telling.{created_refused, created_made, created_res, done_text}
use Rattle.compound_server.specs.PageLaws.{added_then}
use Rattle.compound_server.proofs.server.Server.tell_created.Goals as goal
use Rattle.compound_server.proofs.server.Server.tell_created.Goals.{in-Refused, in-Made}

pub returns-clause-gives : goal.returns-clause-gives
returns-clause-gives g c =
    let parting : Parting g.row.X.Denot = record { leave = g.X.Serving.leaves; lapse = g.X.Serving.lapses } in
    let tag = c.args.tag.now in
    let old = state_of g.D.Disk.size c.args.self.now in
    let new = state_of g.D.Disk.size c.match-answer.self in
    elim c.match-answer.branch [
      | in-Refused w ↦ created_refused parting c.args.answer w.in-Refused.status tag old new c.args.used c.finish.result
          w.in-Refused.is (ap (state_of g.D.Disk.size) w.self-is) c.requires.unused
          (c.finish.ensures ∙ ap (λ page. page.bytes) w.page-is ∙ w.put_refusal.ensures.bytes)
      | in-Made w ↦ created_made parting c.args.answer w.in-Made.session w.in-Made.sequence w.in-Made.ended w.in-Made.asked tag old new c.args.used c.finish.result
          w.in-Made.is (ap (state_of g.D.Disk.size) w.self-is ∙ w.end_client_if.ensures.left) c.requires.unused
          (c.finish.ensures ∙ ap (λ page. page.bytes) w.page-is ∙ (added_then w.put_head.ensures.added w.put_created.ensures.added).is
          ∙ ap (λ (bytes : List ℕ). bytes ++ done_text tag (created_res w.in-Made.session w.in-Made.sequence w.in-Made.asked)) c.requires.empty)
    ]
