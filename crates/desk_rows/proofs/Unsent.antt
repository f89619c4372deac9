use Rattle.std.specs.Prelude.{◌≡◌, ◌∷◌, ◌++◌, [], List}
use Rattle.copy_workers.specs.Workers.{AllUnsent}
use Rattle.rpc_msg.specs.Watching.{Watch}

-- one more link that took nothing
pub unsent_last : {L : Type 0} (links : List (Watch L)) (link : Watch L) → AllUnsent links → link.sent ≡ 0 → AllUnsent (links ++ link ∷ [])
unsent_last [] link all none = (none, tt)
unsent_last (first ∷ links) link all none = (all.0, unsent_last links link all.1 none)
