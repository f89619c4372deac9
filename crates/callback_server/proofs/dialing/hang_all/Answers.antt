use Rattle.std.proofs.Common.{◌<◌, ◌∙◌, length, ap, arith}
use Rattle.net_links.specs.Links.{Standing}
use Rattle.link_server.specs.Keeping.{books_of}
use Rattle.callback_server.proofs.Crews.{hangs_as, hangs_front, hangs_if_none}
use Rattle.callback_server.proofs.dialing.hang_all.Goals as goal

pub links-preserved : goal.links-preserved
links-preserved g c =
    let some : 0 < length c.links.crew.items = omega (arith, c.remove.ensures.len, c.links.crew.ok.0) in
    let link = c.remove.result.link in
    record {
      up = λ told. omega (arith, c.hang_up.ensures.up told, c.links.invariant.up told, c.remove.ensures.len, c.links.crew.ok.0, c.remove.new.self.ok.0);
      hangs = λ told now hangs. c.links.invariant.hangs told now (hangs_front c.links.crew.items c.remove.new.self.items c.remove.result
          (books_of g.N.Net.hung g.N.Net.up g.N.Net.accepted c.links.net) (books_of g.N.Net.hung g.N.Net.up g.N.Net.accepted c.hang_up.new.self) now
          some c.remove.ensures.value c.remove.ensures.by_index.2
          (hangs_as _ _ _ _ link (c.halves-from.ensures.from ∙ ap (λ (l : Standing). l.brings) c.into_link.ensures)
          (c.halves-from.ensures.to ∙ ap (λ (l : Standing). l.takes) c.into_link.ensures) (c.hang_up.ensures.hung told))
          (c.hang_up.ensures.up told) (c.hang_up.ensures.accepted told) hangs);
      coming = λ told. c.hang_up.ensures.coming told ∙ c.links.invariant.coming told;
      faults = c.hang_up.ensures.faults ∙ c.links.invariant.faults;
    }

pub returns-clause-hung : goal.returns-clause-hung
returns-clause-hung g c = λ told. c.links.invariant.hangs told _
    (hangs_if_none c.links.crew.items _ (omega (arith, c.links-test.false, c.len.ensures, c.links.crew.ok.0)))
