-- What serving a stream of records does: each whole record is given to the handler, and its reply is
-- put with its mark, if it isn't empty. Own definitions.
use Rattle.std.specs.Prelude.{◌≡◌, ℕ, ◌+◌, ◌<◌, ◌≤◌, List, [], ◌∷◌, ◌++◌, length, take, ⊤, MatchResult}
use Rattle.std.specs.List.{flat_map}
use Rattle.std.specs.declared.option.Option.{Option}
use Rattle.std.specs.declared.option.Option.TheVariants.{None, Some}
use Rattle.std.specs.declared.result.Result.{Result}
use Rattle.std.specs.Io.KnownBytes.{Appends, Consumes, IsAtEnd}
use Rattle.outcome.specs.Causes.{Rose}
use Rattle.rpc_msg.specs.Records.{marked}
use Rattle.streams.specs.Stream.{Taking}
use Rattle.streams.specs.Sink.{AppendsFront, Offers}
use Rattle.rpc_msg.specs.Underway.{Feed, State, Open, Shut, fresh, flow}
use Rattle.rpc_msg.specs.declared.pump.Pumped.{Pumped}
use Rattle.rpc_msg.specs.declared.pump.Pumped.TheVariants as pumped
use Rattle.rpc_msg.specs.declared.pump.Piece.{Piece}
use Rattle.rpc_msg.specs.declared.pump.Piece.TheVariants as piece

-- The handler answers these records with these replies, one after another.
abbrev pub Serves : {H : Type 0} → (H → List ℕ → List ℕ → H → Type 0) → H → List (List ℕ) → List (List ℕ) → H → Type 0
Serves answers old [] [] new = new ≡ old
Serves {H} answers old (first ∷ records) (reply ∷ replies) new =
    (middle : H) × answers old first reply middle × Serves answers middle records replies new
Serves answers old [] (reply ∷ replies) new = ⊥
Serves answers old (first ∷ records) [] new = ⊥

-- What is put for a reply: nothing for an empty one.
abbrev pub sent : List ℕ → List ℕ
sent [] = []
sent (byte ∷ bytes) = marked (byte ∷ bytes)

-- Each reply in turn was offered to the sink as one piece with its mark, and nothing for an empty one.
abbrev pub OffersEach : Option (List (List ℕ)) → Option (List (List ℕ)) → List (List ℕ) → Type 0
OffersEach old new [] = new ≡ old
OffersEach old new (reply ∷ replies) =
    (middle : Option (List (List ℕ))) × Offers old middle (sent reply) × OffersEach middle new replies

-- Where the stream stands, so many bytes after its last whole record.
abbrev pub state_from : Option ℕ → ℕ → Feed → State
state_from None count feed = Open count feed.under
state_from (Some sum) count feed = Shut sum

abbrev pub state_of : ℕ → Feed → State
state_of count feed = state_from feed.large count feed

-- Some bytes of the stream were passed, from one state to another. Each record that ended in them
-- was served, its reply was put, and `left` fell by one for it.
pub record Passed {H : Type 0} (answers : H → List ℕ → List ℕ → H → Type 0)
    (Puts : Option (List ℕ) → Option (List ℕ) → List ℕ → Type 0)
    (old_state new_state : State) (old new : H) (old_put new_put : Taking) (old_left new_left : ℕ)
    (bytes : List ℕ) : Type 0 where
  pub replies : List (List ℕ)
  pub state : (flow old_state bytes).state ≡ new_state
  pub served : Serves answers old (flow old_state bytes).records replies new
  pub put : Puts old_put.taken new_put.taken (flat_map sent replies)
  pub offered : OffersEach old_put.pieces new_put.pieces replies
  pub counted : old_left ≡ new_left + length (flow old_state bytes).records

-- One record was served: the handler gave a reply, which was put, or a front of it before a fault.
pub record Served {H T E : Type 0} (answers : H → List ℕ → List ℕ → H → Type 0) (old new : H) (told : List ℕ)
    (old_put new_put : Taking) (put : Result T E) : Type 0 where
  pub reply : List ℕ
  pub answered : answers old told reply new
  pub all_put : MatchResult put (λ _. Appends old_put.taken new_put.taken (sent reply)) (λ _. AppendsFront old_put.taken new_put.taken (sent reply))
  pub offered : Offers old_put.pieces new_put.pieces (sent reply)

-- What became of a piece: the front of it that was passed.
pub record PassedFront {H : Type 0} (answers : H → List ℕ → List ℕ → H → Type 0)
    (Puts : Option (List ℕ) → Option (List ℕ) → List ℕ → Type 0)
    (old_state new_state : State) (old new : H) (old_put new_put : Taking) (old_left new_left : ℕ)
    (bytes : List ℕ) : Type 0 where
  pub count : ℕ
  pub within : count ≤ length bytes
  pub passed : Passed answers Puts old_state new_state old new old_put new_put old_left new_left (take count bytes)

-- Memory was wanted at a record, the one that the feed lends: those before it were served, each reply
-- was put, and `left` fell by one for each; it wasn't answered and isn't counted.
pub record Stops {H : Type 0} (answers : H → List ℕ → List ℕ → H → Type 0) (old_state : State) (old new : H)
    (old_put new_put : Taking) (old_left new_left : ℕ) (bytes : List ℕ) (feed : Feed) : Type 0 where
  pub records : List (List ℕ)
  pub replies : List (List ℕ)
  pub told : flow old_state bytes ≡ record { records = records ++ feed.told ∷ []; state = Open 0 fresh }
  pub served : Serves answers old records replies new
  pub put : Appends old_put.taken new_put.taken (flat_map sent replies)
  pub offered : OffersEach old_put.pieces new_put.pieces replies
  pub counted : old_left ≡ new_left + length records

pub record StopsFront {H : Type 0} (answers : H → List ℕ → List ℕ → H → Type 0) (old_state : State) (old new : H)
    (old_put new_put : Taking) (old_left new_left : ℕ) (bytes : List ℕ) (feed : Feed) : Type 0 where
  pub count : ℕ
  pub within : count ≤ length bytes
  pub stopped : Stops answers old_state old new old_put new_put old_left new_left (take count bytes) feed

abbrev pub PieceIs : {H : Type 0} → (H → List ℕ → List ℕ → H → Type 0) → State → Feed → H → H → Taking → Taking
    → ℕ → ℕ → List ℕ → Piece → Type 0
PieceIs answers state feed old new old_put new_put old_left new_left bytes (piece.Taken rest) =
    Passed answers Appends state (Open rest feed.under) old new old_put new_put old_left new_left bytes
    × (feed.large ≡ None) × (0 < new_left)
PieceIs answers state feed old new old_put new_put old_left new_left bytes (piece.TooLarge sum) =
    PassedFront answers Appends state (Shut sum) old new old_put new_put old_left new_left bytes
    × (feed.large ≡ Some sum) × (0 < new_left)
PieceIs answers state feed old new old_put new_put old_left new_left bytes piece.Enough =
    PassedFront answers Appends state (state_of 0 feed) old new old_put new_put old_left new_left bytes
    × (new_left ≡ 0)
PieceIs answers state feed old new old_put new_put old_left new_left bytes piece.WriteFault =
    PassedFront answers AppendsFront state (state_of 0 feed) old new old_put new_put old_left new_left bytes

-- The source gave these bytes: those that were passed, and others that came with them.
pub record Ran {H : Type 0} (answers : H → List ℕ → List ℕ → H → Type 0)
    (Puts : Option (List ℕ) → Option (List ℕ) → List ℕ → Type 0)
    (old_state new_state : State) (old new : H) (old_put new_put : Taking) (old_left new_left : ℕ)
    (old_source new_source : Option (List ℕ)) (budget : ℕ) : Type 0 where
  pub bytes : List ℕ
  pub over : List ℕ
  pub taken : Consumes old_source new_source (bytes ++ over)
  pub within : length bytes ≤ budget
  pub passed : Passed answers Puts old_state new_state old new old_put new_put old_left new_left bytes

-- The same where the source gave these bytes, and others that came with them.
pub record RanShort {H : Type 0} (answers : H → List ℕ → List ℕ → H → Type 0) (old_state : State) (old new : H)
    (old_put new_put : Taking) (old_left new_left : ℕ)
    (old_source new_source : Option (List ℕ)) (budget : ℕ) (feed : Feed) : Type 0 where
  pub bytes : List ℕ
  pub over : List ℕ
  pub taken : Consumes old_source new_source (bytes ++ over)
  pub within : length bytes ≤ budget
  pub stopped : Stops answers old_state old new old_put new_put old_left new_left bytes feed

-- Why no more records are taken, and what was done. The bytes of the stream are counted from where the feed stood:
-- what it was given before isn't in `rest`.
abbrev pub PumpIs : {H : Type 0} → (H → List ℕ → List ℕ → H → Type 0) → Feed → Feed → H → H → Taking → Taking
    → ℕ → ℕ → Option (List ℕ) → Option (List ℕ) → ℕ → Pumped → Type 0
PumpIs answers feed now old new old_put new_put old_left new_left source source_now budget (pumped.End rest) =
    (ran : Ran answers Appends (state_of 0 feed) (Open rest now.under) old new old_put new_put old_left new_left source source_now budget)
    × (ran.over ≡ []) × IsAtEnd source_now × (0 < new_left)
PumpIs answers feed now old new old_put new_put old_left new_left source source_now budget (pumped.TooLarge sum) =
    Ran answers Appends (state_of 0 feed) (Shut sum) old new old_put new_put old_left new_left source source_now budget
    × (now.large ≡ Some sum) × (0 < new_left)
PumpIs answers feed now old new old_put new_put old_left new_left source source_now budget pumped.TooMuch =
    (rest : ℕ) × (ran : Ran answers Appends (state_of 0 feed) (Open rest now.under) old new old_put new_put old_left new_left source source_now budget)
    × (length ran.bytes ≡ budget) × (0 < length ran.over) × (0 < new_left)
PumpIs answers feed now old new old_put new_put old_left new_left source source_now budget pumped.Enough =
    Ran answers Appends (state_of 0 feed) (state_of 0 now) old new old_put new_put old_left new_left source source_now budget
    × (new_left ≡ 0)
PumpIs answers feed now old new old_put new_put old_left new_left source source_now budget pumped.ReadFault =
    (rest : ℕ) × Ran answers Appends (state_of 0 feed) (Open rest now.under) old new old_put new_put old_left new_left source source_now budget
    × (0 < new_left)
PumpIs answers feed now old new old_put new_put old_left new_left source source_now budget pumped.WriteFault =
    Ran answers AppendsFront (state_of 0 feed) (state_of 0 now) old new old_put new_put old_left new_left source source_now budget

-- A fault is answered only where its count rose.
abbrev pub PumpHasCause : ℕ → ℕ → ℕ → ℕ → Pumped → Type 0
PumpHasCause read read_now put put_now pumped.ReadFault = Rose read read_now
PumpHasCause read read_now put put_now pumped.WriteFault = Rose put put_now
PumpHasCause read read_now put put_now _ = ⊤

abbrev pub PieceHasCause : ℕ → ℕ → Piece → Type 0
PieceHasCause put put_now piece.WriteFault = Rose put put_now
PieceHasCause put put_now _ = ⊤

-- At most so many bytes came after the last whole record.
abbrev pub RestWithin : ℕ → Piece → Type 0
RestWithin most (piece.Taken rest) = rest ≤ most
RestWithin most _ = ⊤
