-- A server while it accepts: what it keeps of the connections that threads serve, and what its parts do to that. Own definitions.
use Rattle.std.specs.Prelude.{◌≡◌, ℕ, ◌+◌, ◌*◌, ◌≤◌, List, ◌⊎◌}
use Rattle.outcome.specs.Causes.{Rose}
use Rattle.link_server.specs.Answering.{Caller}
use Rattle.link_server.specs.Keeping.{Books, Kept}
use Rattle.link_server.specs.declared.tally.Stop.{Stop}
use Rattle.link_server.specs.declared.tally.Stop.TheVariants as stops
use Rattle.link_server.specs.declared.tally.Tally.{Tally}
use Rattle.link_server.specs.declared.tally.TheConstants.{EACH_RECORDS}

-- How the net stood when it began, how many connections it serves now, and what it did.
pub record SiteState : Type 0 where
  pub before : Books
  pub running : ℕ
  pub tally : Tally

-- Each connection that is served by a thread was lent the records of one connection.
abbrev pub KeptAt : (Caller → List ℕ → List ℕ → Caller → Type 0) → (now : Books) → SiteState → Type 0
KeptAt answers now site = Kept answers site.before now site.running (EACH_RECORDS * site.running) site.tally

-- The same with one more, which was lent so many records.
abbrev pub KeptWith : (Caller → List ℕ → List ℕ → Caller → Type 0) → (now : Books) → (given : ℕ) → SiteState → Type 0
KeptWith answers now given site = Kept answers site.before now (site.running + 1) (EACH_RECORDS * site.running + given) site.tally

-- The same with one more, which was accepted just now.
abbrev pub KeptNew : (Caller → List ℕ → List ℕ → Caller → Type 0) → (now : Books) → SiteState → Type 0
KeptNew answers now site = Kept answers site.before now (site.running + 1) (EACH_RECORDS * site.running)
    (record site.tally { accepted = site.tally.accepted + 1 })

-- The records that one is lent: those of one connection, or all that are left where no other is served.
abbrev pub LentIs : (given : ℕ) → SiteState → Type 0
LentIs given site = (given ≡ EACH_RECORDS) ⊎ ((given ≤ EACH_RECORDS) × (site.running ≡ 0) × (site.tally.left ≡ 0))

-- No connection was accepted in between.
pub record Waits (old new : SiteState) : Type 0 where
  pub before : new.before ≡ old.before
  pub accepted : new.tally.accepted ≡ old.tally.accepted

-- Why no more are accepted.
abbrev pub Stops : (told : Type 0) → (coming faults faults_now : ℕ) → (now : SiteState) → Stop → Type 0
Stops told coming faults faults_now now stops.All = ⊥
Stops told coming faults faults_now now stops.End = told → coming ≡ 0
Stops told coming faults faults_now now stops.Failed = Rose faults faults_now
Stops told coming faults faults_now now stops.Spent = (now.running ≡ 0) × (now.tally.left ≡ 0)
