-- What happens to a copy in a step, event by event (`client_copies`), each event with its cause.
use Rattle.std.specs.Prelude.{◌≡◌, Bool, true, false, List, [], Option, Some, None, option_map}
use Rattle.std.specs.List.{AllByRecursion}
use Rattle.client_copies.specs.Words.{ran, told_by_run}
use Rattle.client_copies.specs.declared.copy.ClientCopy.{ClientCopy}
use Rattle.client_copies.specs.declared.event.Event.{Event}
use Rattle.client_copies.specs.declared.event.Event.TheVariants as events
use Rattle.client_copies.specs.declared.told.Word.{Word}

-- what a copy tells in these events; one that wasn't begun tells nothing
abbrev pub told_by : List Event → Option ClientCopy → List Word
told_by es None = []
told_by es (Some c) = told_by_run es c

-- These events, each with a cause, made of the copy what it is afterwards, and told these words.
pub record Changes (cause : Event → Type 0) (before after : Option ClientCopy) (told : List Word) : Type 0 where
  pub events : List Event
  pub caused : AllByRecursion cause events
  pub copy : after ≡ option_map (ran events) before
  pub words : told ≡ told_by events before

-- what the client does of itself: a file is found open, a call goes out, the destination is asked, a setup goes down
abbrev pub is_own : Event → Bool
is_own (events.Opened side) = true
is_own events.Sent = true
is_own (events.Queried query) = true
is_own (events.Down side status) = true
is_own _ = false
