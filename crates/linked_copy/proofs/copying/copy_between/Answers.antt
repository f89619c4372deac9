use Rattle.std.proofs.Common.{refl}
use Rattle.linked_copy.proofs.Ending.{hung_as}
use Rattle.linked_copy.proofs.Making.{dialed_of, err_starved, ok_made}
use Rattle.linked_copy.proofs.copying.copy_between.Goals as goal

pub returns-clause-ok : goal.returns-clause-ok
returns-clause-ok g c =
    ok_made _ _ _ _ c.copy_once-copied.result
    (record { source = c.new-source.result; dest = c.new-dest.result; client = c.args.prepared.client; draws = c.args.draws })
    (record { source = c.copy_once-copied.new.source; dest = c.copy_once-copied.new.dest; client = c.copy_once-copied.new.client; draws = c.copy_once-copied.new.draws })
    (record {
      source = dialed_of _ _ _ c.new-source.ensures c.requires.source c.requires.source_feed;
      dest = dialed_of _ _ _ c.new-dest.ensures c.requires.dest c.requires.dest_feed;
      client = c.requires.client;
      draws_are = refl;
    })
    c.copy_once-copied.ensures.ok c.copy_once-copied.ensures.draw_fault
    (hung_as _ _ _ c.copy_once-copied.new.source.link c.copy_once-copied.new.dest.link _ _ c.into_link.ensures c.into_link-2.ensures c.hang_both.ensures.hung)

pub returns-clause-err : goal.returns-clause-err
returns-clause-err g c =
    err_starved _ _ _ _ c.copy_once-copied.result
    (record { source = c.new-source.result; dest = c.new-dest.result; client = c.args.prepared.client; draws = c.args.draws })
    c.copy_once-copied.new.source c.copy_once-copied.new.dest c.copy_once-copied.new.client
    (record {
      source = dialed_of _ _ _ c.new-source.ensures c.requires.source c.requires.source_feed;
      dest = dialed_of _ _ _ c.new-dest.ensures c.requires.dest c.requires.dest_feed;
      client = c.requires.client;
      draws_are = refl;
    })
    c.copy_once-copied.ensures.err
    (hung_as _ _ _ c.copy_once-copied.new.source.link c.copy_once-copied.new.dest.link _ _ c.into_link.ensures c.into_link-2.ensures c.hang_both.ensures.hung)
