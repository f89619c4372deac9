use Rattle.run_promise.proofs.client.told.stable_stands_once.Goals as goal

pub returns : goal.returns
returns g c who spell meaning first steps s n along new =
    let told = c.clients_tell_in_turns.ensures who spell meaning first steps s along new in
    c.stable_is_told_once.ensures _ told.turns s _ _ n told.run
