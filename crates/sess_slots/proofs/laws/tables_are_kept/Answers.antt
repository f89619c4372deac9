use Rattle.std.proofs.Common.{map, suc, ◌+◌, ◌*◌, ◌^◌}
use Rattle.sess_slots.specs.Lives.{no_clients, after_all}
use Rattle.sess_slots.proofs.Rising.{rising_apart}
use Rattle.sess_slots.proofs.Lasting.{all_kept, new_kept}
use Rattle.sess_slots.proofs.laws.tables_are_kept.Goals as goal

pub returns-clause-clients : goal.returns-clause-clients
returns-clause-clients c boot calls = (all_kept (no_clients boot) calls (new_kept boot)).paired.few

pub returns-clause-confirmed : goal.returns-clause-confirmed
returns-clause-confirmed c boot calls principal owner = (all_kept (no_clients boot) calls (new_kept boot)).paired.confirmed principal owner

pub returns-clause-unconfirmed : goal.returns-clause-unconfirmed
returns-clause-unconfirmed c boot calls principal owner = (all_kept (no_clients boot) calls (new_kept boot)).paired.unconfirmed principal owner

pub returns-clause-sessions : goal.returns-clause-sessions
returns-clause-sessions c boot calls = (all_kept (no_clients boot) calls (new_kept boot)).most

pub returns-clause-client_ids : goal.returns-clause-client_ids
returns-clause-client_ids c boot calls i j below there =
    let table = after_all (no_clients boot) calls in
    rising_apart 0 (map (λ c. c.id) table.clients) (suc (table.boot * 2 ^ 32 + table.clients_made)) i j (all_kept (no_clients boot) calls (new_kept boot)).clients below there

pub returns-clause-session_numbers : goal.returns-clause-session_numbers
returns-clause-session_numbers c boot calls i j below there =
    let table = after_all (no_clients boot) calls in
    rising_apart 0 (map (λ s. s.number) table.sessions) (suc table.sessions_made) i j (all_kept (no_clients boot) calls (new_kept boot)).sessions below there
