use Rattle.std.proofs.Common.{◌≡◌, ◌∙◌, length}
use Rattle.link_server.specs.Keeping.{books_of}
use Rattle.callback_server.specs.Crew.{standing_of}
use Rattle.callback_server.specs.CrewLaws.{crew_none, crew_then, few_standing}
use Rattle.dest_server.specs.Coming.{core_words}
use Rattle.dest_server.specs.Desk.{desk_answers}
use Rattle.dest_server.proofs.crew.serve_desk.Goals as goal

-- a worker's link wasn't dialed
pub returns-in-Some-clause-none : goal.returns-in-Some-clause-none
returns-in-Some-clause-none g c =
    let crew = c.dial_all-dialed.new.crew.items in
    record {
      links = standing_of crew;
      few = few_standing crew c.args.service.workers c.in-Some.ensures.why.0;
      hung = λ told. crew_none (books_of g.N.Net.hung g.N.Net.up g.N.Net.accepted c.args.net.now)
          (books_of g.N.Net.hung g.N.Net.up g.N.Net.accepted c.dial_all-dialed.new.net)
          (books_of g.N.Net.hung g.N.Net.up g.N.Net.accepted c.hang_all.new.net) crew (c.dial_all-dialed.ensures.dials told) (c.hang_all.ensures.hung told);
    }

-- all were, and hung up in the end
pub returns-clause-beside : goal.returns-clause-beside
returns-clause-beside g c =
    let crew = c.dial_all-dialed.new.crew.items in
    let count : length crew ≡ c.args.service.workers = c.in_default.ensures.why in
    let beside = c.serve_beside-worked.ensures in
    let links = c.serve_beside-worked.result.1.links.items in
    record {
      crew = links;
      worked = rw (← count) beside.worked;
      served = λ told. crew_then (desk_answers (core_words g.K.Core.takes_record g.K.Core.ticks g.K.Core.works g.K.Core.takes_reply g.K.Core.fails_link)
          g.K.Core.landed g.K.Core.steps g.Q.Origin.origin) (books_of g.N.Net.hung g.N.Net.up g.N.Net.accepted c.args.net.now)
          (books_of g.N.Net.hung g.N.Net.up g.N.Net.accepted c.dial_all-dialed.new.net)
          (books_of g.N.Net.hung g.N.Net.up g.N.Net.accepted c.serve_beside-worked.new.net)
          (books_of g.N.Net.hung g.N.Net.up g.N.Net.accepted c.hang_all-2.new.net) links c.args.service.workers c.serve_beside-worked.result.0
          (beside.worked.count ∙ count) (rw count at (c.dial_all-dialed.ensures.dials told)) (beside.served told) (c.hang_all-2.ensures.hung told);
    }
