-- What is seen of a client's copies in a run: what it knows and has said of each, and of which names it holds reports.
use Rattle.client_copies.specs.Table.{copy_at}
use Rattle.client_laws.specs.Speaking.Views.{held_seen, word_seen}
use Rattle.run_promise.specs.System.System.{ClientView}

abbrev pub client_view : {M : Type 0} → ClientView M
client_view = record { word = λ c n. word_seen (copy_at n c.copies); held = λ c name. held_seen c.copies name }
