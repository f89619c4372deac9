-- What a client does to make one copy, turn by turn: the copy is begun, records are taken, and leave is taken.
use Rattle.std.specs.Prelude.{◌≡◌, ℕ, ◌≤◌, Bool, true, false, List, [], ◌∷◌, Option, Some, None}
use Rattle.std.specs.List.{flat_map}
use Rattle.outcome.specs.Causes.{Rose}
use Rattle.streams.specs.Stream.{Giving, Taking}
use Rattle.streams.specs.declared.draws.Drawn.{Drawn}
use Rattle.rpc_msg.specs.Watching.{Watch, is_down}
use Rattle.nfs_base.specs.declared.copy_spec.CopySpec.{CopySpec}
use Rattle.nfs_base.specs.declared.side.Side.{Side}
use Rattle.nfs_base.specs.declared.side.Side.TheVariants.{Source, Dest}
use Rattle.outbox.specs.declared.outgoing.Outbox.{Outbox}
use Rattle.client_steps.specs.declared.setting.Setting.{Setting}
use Rattle.client_core.specs.Commands.{IsBegun}
use Rattle.client_core.specs.Endings.{Ways}
use Rattle.client_core.specs.Telling.{awaits, copy_of, report_of}
use Rattle.client_leaving.specs.Leaving.{IsClients, IsRecord, farewell_step}
use Rattle.client_leaving.specs.declared.leaving.Leaving.{Leaving}
use Rattle.single_copy.specs.Links.{Brings, Sends}
use Rattle.single_copy.specs.Phases.{due_in, has_left, parted, went_on}
use Rattle.single_copy.specs.Sending.{put_to}
use Rattle.single_copy.specs.declared.phases.Due.{Due}
use Rattle.single_copy.specs.declared.phases.Due.TheVariants as dues
use Rattle.single_copy.specs.declared.phases.Phase.{Phase}
use Rattle.single_copy.specs.declared.phases.TheConstants.{COPY_NUMBER}

-- ---- turns

-- The copy is begun, a record is taken that came from a server, or leave is taken.
pub data Event : Type 0 where
  Begins : Event
  Hears : Side → List ℕ → Event
  Leaves : Event

-- An event, the second in which it came, and what the client's step gave.
pub record Turn : Type 0 where
  pub event : Event
  pub second : ℕ
  pub out : Outbox

abbrev pub due_of : Event → Due
due_of Begins = dues.Begin
due_of (Hears side message) = dues.Hear side
due_of Leaves = dues.Leave

-- ---- who takes part

-- How the client and the draws do what they do, the draws' count of faults, and what is to be copied.
pub record Conduct (M W : Type 0) : Type 1 where
  pub ways : Setting M → Ways
  pub draws : W → Drawn → W → Type 0
  pub faults : W → ℕ
  pub copy : CopySpec

abbrev pub conduct_of : {M W : Type 0} → (Setting M → Ways) → (W → Drawn → W → Type 0) → (W → ℕ) → CopySpec → Conduct M W
conduct_of ways draws faults copy = record { ways = ways; draws = draws; faults = faults; copy = copy }

-- And how the links do.
pub record Terms (L M W : Type 0) : Type 1 where
  pub gives : L → Giving
  pub takes : L → Taking
  pub conduct : Conduct M W

abbrev pub terms_of : {L M W : Type 0} → (L → Giving) → (L → Taking) → Conduct M W → Terms L M W
terms_of gives takes conduct = record { gives = gives; takes = takes; conduct = conduct }

-- The links to both servers, the client, and the draws.
pub record Parties (L M W : Type 0) : Type 0 where
  pub source : Watch L
  pub dest : Watch L
  pub client : Leaving M
  pub draws : W

-- what is due, by what the client awaits
abbrev pub due_at : {M : Type 0} → Phase → Leaving M → Due
due_at phase l = due_in phase (awaits Source l.client) (awaits Dest l.client)

-- ---- what the client does in a turn

-- a record is taken as by every client, and, once leave was taken, by one that leaves
abbrev pub HearsBy : {M W : Type 0} → (left : Bool) → Ways → (W → Drawn → W → Type 0) → Side → List ℕ → (second : ℕ) → Leaving M → W → W → Leaving M × Outbox → Type 0
HearsBy false ways gives side message second l before after end = IsClients ways gives side message second l before after end
HearsBy true ways gives side message second l before after end = IsRecord ways gives side message second l before after end

-- the client's own part of its leave stays
pub record Begun {M W : Type 0} (conduct : Conduct M W) (second : ℕ) (l : Leaving M) (before after : W) (end : Leaving M × Outbox) : Type 0 where
  pub step : IsBegun (conduct.ways l.client.setting) conduct.draws COPY_NUMBER conduct.copy second l.client before after (end.0.client, end.1)
  pub source : end.0.source ≡ l.source
  pub dest : end.0.dest ≡ l.dest

abbrev pub Does : {M W : Type 0} → Event → Conduct M W → Phase → (second : ℕ) → Leaving M → W → W → Leaving M × Outbox → Type 0
Does Begins conduct phase second l before after end = Begun conduct second l before after end
Does (Hears side message) conduct phase second l before after end =
    HearsBy (has_left phase) (conduct.ways l.client.setting) conduct.draws side message second l before after end
Does Leaves conduct phase second l before after end =
    (end ≡ farewell_step (conduct.ways l.client.setting).means.mic second l) × (after ≡ before)

-- A draw is said to have failed only where the draws' count of faults rose.
pub record Acts {M W : Type 0} (conduct : Conduct M W) (phase : Phase) (turn : Turn) (old new : Leaving M) (before after : W) : Type 0 where
  pub does : Does turn.event conduct phase turn.second old before after (new, turn.out)
  pub undrawn : turn.out.undrawn ≡ true → Rose (conduct.faults before) (conduct.faults after)
  pub later : conduct.faults before ≤ conduct.faults after

-- ---- what becomes of a link in a turn

-- the record that an event takes from a server's link
abbrev pub message_at : Side → Event → Option (List ℕ)
message_at side Begins = None
message_at Source (Hears Source message) = Some message
message_at Source (Hears Dest message) = None
message_at Dest (Hears Source message) = None
message_at Dest (Hears Dest message) = Some message
message_at side Leaves = None

abbrev pub TakesFrom : {L M W : Type 0} → Terms L M W → Option (List ℕ) → Watch L → Watch L → Type 0
TakesFrom terms None old new = new ≡ old
TakesFrom terms (Some message) old new = Brings terms.gives terms.takes old new message

-- A record is taken from it, or none, and then what the client sends to this server is put to it.
pub record Moves {L M W : Type 0} (terms : Terms L M W) (side : Side) (turn : Turn) (old new : Watch L) : Type 0 where
  pub middle : Watch L
  pub took : TakesFrom terms (message_at side turn.event) old middle
  pub sent : Sends terms.gives terms.takes middle new (put_to side turn.out.sent)

-- ---- a turn, and turns in their order

abbrev pub phase_after : Event → (undrawn : Bool) → {M : Type 0} → Leaving M → Phase → Phase
phase_after Begins undrawn l phase = went_on undrawn (report_of (copy_of COPY_NUMBER l.client)) phase
phase_after (Hears side message) undrawn l phase = went_on undrawn (report_of (copy_of COPY_NUMBER l.client)) phase
phase_after Leaves undrawn l phase = parted phase

pub record BothUp {L M W : Type 0} (p : Parties L M W) : Type 0 where
  pub source : is_down p.source.signs ≡ false
  pub dest : is_down p.dest.signs ≡ false

-- Both links are up, and what is due is done.
pub record IsTurn {L M W : Type 0} (terms : Terms L M W) (old : Parties L M W) (was : Phase) (turn : Turn) (new : Parties L M W) (phase : Phase) : Type 0 where
  pub up : BothUp old
  pub due : due_of turn.event ≡ due_at was old.client
  pub acts : Acts terms.conduct was turn old.client new.client old.draws new.draws
  pub source : Moves terms Source turn old.source new.source
  pub dest : Moves terms Dest turn old.dest new.dest
  pub becomes : phase ≡ phase_after turn.event turn.out.undrawn new.client was

abbrev pub Runs : {L M W : Type 0} → Terms L M W → Parties L M W → Phase → List Turn → Parties L M W → Phase → Type 0
Runs terms old was [] new phase = (new ≡ old) × (phase ≡ was)
Runs {L} {M} {W} terms old was (turn ∷ turns) new phase =
    (middle : Parties L M W) × (between : Phase) × IsTurn terms old was turn middle between × Runs terms middle between turns new phase

-- ---- what the turns took from a server's link, and what was to be put to it

abbrev pub listed : Option (List ℕ) → List (List ℕ)
listed None = []
listed (Some message) = message ∷ []

abbrev pub heard : Side → List Turn → List (List ℕ)
heard side turns = flat_map (λ turn. listed (message_at side turn.event)) turns

abbrev pub told : Side → List Turn → List ℕ
told side turns = flat_map (λ turn. put_to side turn.out.sent) turns
