use Rattle.wire_run.proofs.stop_laws.servers_stop.Goals as goal

pub returns-clause-stops : goal.returns-clause-stops
returns-clause-stops g c =
    let anew = c.servers_open_anew.ensures in
    let one = c.one_stop_is_one_crash.ensures in
    record {
      may = anew.may;
      stops = anew.stops;
      fails = anew.fails;
      noted = anew.noted;
      unset = anew.unset;
      fresh = anew.fresh;
      boot = one.boot;
      tag_is = one.tag;
      files = one.files;
    }
