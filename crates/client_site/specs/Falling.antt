-- A setup goes down: nothing is awaited of that server any more, nothing is open there, and it doesn't call back.
use Rattle.std.specs.Prelude.{ℕ, List, [], ◌∷◌, None}
use Rattle.mount.specs.Falling.{fallen, given_up}
use Rattle.mount.specs.State.{Mounted}
use Rattle.client_site.specs.declared.site.Site.{Site}

abbrev pub given_up_at : List ℕ → Mounted → Mounted
given_up_at [] m = m
given_up_at (place ∷ places) m = given_up_at places (given_up place m)

abbrev pub all_places : List ℕ
all_places = 0 ∷ 1 ∷ 2 ∷ 3 ∷ 4 ∷ 5 ∷ 6 ∷ 7 ∷ 8 ∷ 9 ∷ 10 ∷ 11 ∷ 12 ∷ 13 ∷ 14 ∷ 15 ∷ []

abbrev pub gone_down : Site → Site
gone_down s = record { mount = fallen (given_up_at all_places s.mount); files = []; back = None }
