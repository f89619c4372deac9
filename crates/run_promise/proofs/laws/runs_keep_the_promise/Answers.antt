use Rattle.std.proofs.Common.{◌≡◌, ℕ, List, Option, Some, subst}
use Rattle.caller_laws.specs.Good.{Identity}
use Rattle.caller_laws.specs.Tokens.{principal_in}
use Rattle.client_core.specs.Endings.{ways_of}
use Rattle.client_core.specs.State.{ClientState}
use Rattle.client_laws.specs.CallerLaws as client_laws
use Rattle.client_steps.specs.declared.setting.Setting.{Setting}
use Rattle.copy_model.specs.Moment.{History}
use Rattle.copy_model.specs.Promise.{IsKept, IsStopped}
use Rattle.dest_laws.specs.Calls.Steps as dest_calls
use Rattle.nfs_base.specs.declared.seal.End.TheVariants as ends
use Rattle.nfs_base.specs.declared.side.Side.TheVariants as sides
use Rattle.run_checks.specs.RunLaws.{runs_right}
use Rattle.run_ends.specs.Ends.{count_gives, machines, ways, words_of}
use Rattle.run_ends.specs.Setting.{dest_name, dest_place, source_place, user}
use Rattle.run_promise.proofs.Histories.{alike}
use Rattle.run_promise.proofs.laws.runs_keep_the_promise.Goals as goal
use Rattle.run_promise.specs.Accepted.{shapes_few}
use Rattle.run_promise.specs.Assembled.{AreLawful, lawful, truthful}
use Rattle.run_promise.specs.Client.View.{client_view}
use Rattle.run_promise.specs.Dest.Kept.{TokensAreBytes}
use Rattle.run_promise.specs.Promise.{any_nonce, run_shows, run_spelling, seen_by, whose}
use Rattle.run_promise.specs.Setting.{client_is, dest_bytes, dest_is, drawn_fits, nonce_is, setting_fits, token_bytes}
use Rattle.wire_log.specs.Keeping.{reading}
use Rattle.wire_machine.specs.Runs as runs
use Rattle.wire_meaning.specs.Meaning.{meaning}
use Rattle.wire_model.specs.System.{history}
use Rattle.wire_schedule.specs.Admission.{at_start}

pub returns : goal.returns
returns g c = λ mech events first steps end accepted is_first goes.
    let M = g.M.Mechanism in
    let words = words_of M.mic_of M.derived M.started M.accepted M.finished count_gives in
    let accepts = principal_in (M.accepted mech) any_nonce in
    let spell = run_spelling words mech in
    let setting : Setting _ = record { mech = mech; me = user; source = source_place; dest = dest_place } in
    let are = (runs_right (machines words) reading first events steps end goes).steps in
    let nonces = drawn_fits c.counted_draws_are_nonces.ensures in
    let client : Identity = record { accepts = accepts; whose = whose; own = ends.Client } in
    let dest : Identity = record { accepts = accepts; whose = whose; own = ends.Dest } in
    let client_owns : client_laws.StartsOwn client (ways_of M.mic_of M.derived M.finished M.started M.accepted setting) count_gives = λ v w nonce token given started.
    c.tokens_are_their_senders.ensures.token mech user nonce any_nonce token whose ends.Client (nonces v w nonce given).size_is nonce_is client_is started in
    let dest_owns : dest_calls.StartsOwn dest (M.started mech dest_name) count_gives = λ v w nonce token given started.
    c.tokens_are_their_senders.ensures.token mech dest_name nonce any_nonce token whose ends.Dest (nonces v w nonce given).size_is nonce_is dest_is started in
    let tokens : TokensAreBytes (M.started mech dest_name) = λ nonce token fit started.
    token_bytes (M.started mech dest_name nonce) token started (c.tokens_agree.ensures.in_bytes.tokens mech dest_name nonce dest_bytes fit.are_bytes) in
    let may = c.clients_may_go.ensures reading spell meaning setting first events steps end accepted is_first.client goes in
    let fit_ways = c.clients_have_fit_ways.ensures setting (setting_fits mech) nonces in
    let along = c.clients_go_by_turns.ensures spell meaning client setting first steps is_first.client are client_owns fit_ways (setting_fits mech) may in
    let s = seen_by words mech first steps along.purposes in
    let source =
    c.sources_are_lawful.ensures mech events first steps accepts whose client_view along.purposes is_first (shapes_few sides.Source at_start events accepted) are in
    let owes = c.runs_owe_all.ensures mech events first steps accepts whose client_view along.purposes is_first are dest_owns c.tokens_agree.ensures.in_bytes.codes tokens in
    let parts : AreLawful spell meaning s = record {
      source = source;
      dest = c.destinations_are_lawful_servers.ensures.laws mech events first steps accepts whose client_view along.purposes is_first are;
      source_calls = c.sources_call_nobody.ensures first steps accepts whose client_view along.purposes source;
      dest_calls = owes.calls;
      client_at_source = record {
        start = c.clients_are_lawful.ensures.start spell meaning client_view setting first steps along.purposes sides.Source is_first.client;
        laws = c.clients_are_lawful.ensures.laws meaning client_view client first steps along sides.Source;
      };
      client_at_dest = record {
        start = c.clients_are_lawful.ensures.start spell meaning client_view setting first steps along.purposes sides.Dest is_first.client;
        laws = c.clients_are_lawful.ensures.laws meaning client_view client first steps along sides.Dest;
      };
      unmistaken = λ owner. c.wires_are_unmistaken.ensures spell meaning client_view first steps along.purposes owner events end is_first.log is_first.steps goes;
      volume = owes.volume;
      copies_start = owes.start;
      copies = owes.copies;
      names = owes.names;
      word_start = c.runs_keep_the_word.ensures.start client first steps setting along is_first.client;
      word = λ k.
          c.runs_keep_the_word.ensures.laws client first steps setting along k is_first.client
          (λ v w nonce token given started.
          client_owns v w nonce token given
          (subst (λ (o : ClientState _). (ways words o).started nonce ≡ Some token) is_first.client started));
    } in
    let is_lawful = lawful spell meaning s parts in
    let same = alike (history s) (run_shows words mech first steps) (λ k. c.systems_show_histories.ensures spell meaning client_view first steps along.purposes k) in
    record {
      kept = subst (λ (h : History). IsKept h) same (c.lawful_systems.ensures.kept spell meaning s is_lawful);
      stopped = subst (λ (h : History). IsStopped h) same (c.lawful_systems.ensures.stopped spell meaning s is_lawful);
      purposes = along.purposes;
      word = c.lawful_systems.ensures.word spell meaning s is_lawful (truthful spell meaning s parts);
      tells = record {
        once = λ n. c.lines_say_stable_once.ensures.once client spell meaning first steps setting n are along is_first.client;
        none_behind = λ n. c.lines_say_stable_once.ensures.none_behind client spell meaning first steps setting n are along is_first.client;
        says_all = c.lines_tell_what_is_told.ensures first steps are;
        stable = λ k n. c.what_is_told_is_the_word.ensures.stable client spell meaning first steps setting along k n is_first.client;
        exact = λ k n. c.what_is_told_is_the_word.ensures.exact client spell meaning first steps setting along k n is_first.client;
      };
    }
