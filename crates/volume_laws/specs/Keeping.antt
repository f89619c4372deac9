-- What stays of a server's volume, whatever calls are made. Own definitions.
use Rattle.std.specs.Prelude.{◌≡◌}
use Rattle.block_file.specs.Opened.{SameOpening}
use Rattle.server_volume.specs.Store.{Store}

-- How many files there are and how long they may be, the number of the opening, the tag that the volume was formatted with, and
-- how many blocks its disk has.
pub record KeepsFiles (old new : Store) : Type 0 where
  pub opening : SameOpening old.volume new.volume
  pub tag : new.tag ≡ old.tag
  pub size : new.size ≡ old.size
