-- A record comes from a server: it is the reply to what is awaited at the first place at which it is one. At none,
-- nothing changes.
use Rattle.std.specs.Prelude.{ℕ, Bool, true, false, List, [], ◌∷◌, Option, Some, None, option_map, unwrap_or}
use Rattle.mount.specs.Laws.{is_heard}
use Rattle.mount.specs.State.{Mounted, awaited_at}
use Rattle.mount.specs.Taking.{Means, taken_at}
use Rattle.mount.specs.declared.taking.Heard.{Heard}
use Rattle.client_site.specs.Falling.{all_places}
use Rattle.client_site.specs.declared.site.Site.{Site}
use Rattle.client_site.specs.declared.taking.Found.{Found}

-- the second in which a call was last sent
abbrev pub sent_at : Mounted → ℕ → ℕ
sent_at m place = unwrap_or (option_map (λ a. a.sent_at) (awaited_at m place)) 0

abbrev pub found_by : Bool → ℕ → ℕ → Heard × Mounted → Option Found × Mounted → Option Found × Mounted
found_by true place sent_at o more = (Some (record { place = place; sent_at = sent_at; told = o.0.told; accepted = o.0.accepted }), o.1)
found_by false place sent_at o more = more

abbrev pub found_at : Means → List ℕ → List ℕ → Mounted → Option Found × Mounted
found_at means message [] m = (None, m)
found_at means message (place ∷ places) m =
    found_by (is_heard (taken_at means place message m).0.told) place (sent_at m place) (taken_at means place message m)
    (found_at means message places m)

abbrev pub found_in : Means → List ℕ → Site → Option Found × Site
found_in means message s =
    let o = found_at means message all_places s.mount in
    (o.0, record s { mount = o.1 })
