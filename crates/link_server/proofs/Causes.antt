-- Why the connections were hung up that a server served, one after another.
use Rattle.std.proofs.Common.{◌≡◌, ℕ, ◌+◌, ◌-◌, ◌≤◌, List, [], ◌∷◌, ◌++◌, ◌⊎◌, Option, Some, None, refl, ap, arith}
use Rattle.rpc_msg.specs.declared.pump.Pumped.{Pumped}
use Rattle.net_links.specs.Links.{Standing}
use Rattle.link_server.specs.Answering.{Caller}
use Rattle.link_server.specs.Serving.{ServedIs, newcomer}
use Rattle.link_server.specs.Hanging.{HungIs, AllHung, AllForCause, WhyHung, Sums, starved_by, sums_after}
use Rattle.link_server.specs.HangingLaws.{pumps_why, unread}
use Rattle.link_server.specs.declared.tally.TheConstants.{ALL_RECORDS, EACH_RECORDS}

none_starved : (answers : Caller → List ℕ → List ℕ → Caller → Type 0) (earlier : ℕ) (now : Standing) (given unused : ℕ) (end : Option Pumped)
    → starved_by end ≡ 0 → ((given ≡ EACH_RECORDS) ⊎ ((given ≤ EACH_RECORDS) × (earlier + given ≡ ALL_RECORDS)))
    → ServedIs answers given unused end now → WhyHung earlier now
none_starved answers earlier now given unused (Some end) none gave by =
    pumps_why answers (newcomer by.conn) by.last by.start now earlier given unused end
    (unread by.start by.new) by.new.puts by.same gave by.went
none_starved answers earlier now given unused None none gave by = absurd (omega arith)

hung_why : (answers : Caller → List ℕ → List ℕ → Caller → Type 0) (earlier : Sums) (link : Standing) (one : HungIs answers earlier link)
    → starved_by one.end ≡ 0 → WhyHung earlier.taken link
hung_why answers earlier link one none = none_starved answers earlier.taken link one.given one.unused one.end none one.gave one.served

more_starve : (answers : Caller → List ℕ → List ℕ → Caller → Type 0) (earlier now : Sums) (links : List Standing)
    → AllHung answers earlier links now → earlier.starved ≤ now.starved
more_starve answers earlier now [] all = let e = ap (λ sums. sums.starved) all in omega (arith, e)
more_starve answers earlier now (link ∷ links) all =
    omega (arith, more_starve answers (sums_after earlier (all.0.given - all.0.unused) all.0.end) now links all.1)

pub all_for_cause : (answers : Caller → List ℕ → List ℕ → Caller → Type 0) (earlier now : Sums) (links : List Standing)
    → AllHung answers earlier links now → now.starved ≡ earlier.starved → AllForCause earlier.taken links
all_for_cause answers earlier now [] all none = tt
all_for_cause answers earlier now (link ∷ links) all none =
    let one = all.0 in
    let later = sums_after earlier (one.given - one.unused) one.end in
    let more = more_starve answers later now links all.1 in
    (hung_why answers earlier link one (omega (arith, more, none)), one.given - one.unused, all_for_cause answers later now links all.1 (omega (arith, more, none)))

-- ---- one more

pub one_more : (answers : Caller → List ℕ → List ℕ → Caller → Type 0) (earlier now : Sums) (links : List Standing) (link : Standing)
    → AllHung answers earlier links now → (one : HungIs answers now link)
    → AllHung answers earlier (links ++ link ∷ []) (sums_after now (one.given - one.unused) one.end)
one_more answers earlier now [] link all one = rw (← all) (one, refl)
one_more answers earlier now (first ∷ links) link all one =
    (all.0, one_more answers (sums_after earlier (all.0.given - all.0.unused) all.0.end) now links link all.1 one)
