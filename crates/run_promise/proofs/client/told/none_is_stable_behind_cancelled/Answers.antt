use Rattle.run_promise.proofs.client.told.none_is_stable_behind_cancelled.Goals as goal

pub returns : goal.returns
returns g c who spell meaning first steps s n along new =
    let told = c.clients_tell_in_turns.ensures who spell meaning first steps s along new in
    c.none_is_stable_once_cancelled.ensures _ told.turns s _ _ n told.run
