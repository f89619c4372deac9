-- What showing a stream puts, piece by piece and as a whole. Own definitions.
use Rattle.std.specs.Prelude.{◌≡◌, ℕ, ◌+◌, ◌≤◌, Bool, true, false, List, length, IfSome, ⊤, Result, Ok, Err}
use Rattle.std.specs.declared.option.Option.{Option}
use Rattle.std.specs.declared.option.Option.TheVariants.{None}
use Rattle.std.specs.Io.KnownBytes.{Appends, IsAtEnd}
use Rattle.outcome.specs.Causes.{Rose}
use Rattle.outcome.specs.declared.memory.NoMemory.{NoMemory}
use Rattle.streams.specs.declared.whole.WriteFault.{WriteFault}
use Rattle.streams.specs.Sink.{AppendsFront}
use Rattle.rpc_msg.specs.Underway.{Feed, State, Open, Shut, flow}
use Rattle.wire_show.specs.declared.piece.Piece.{Piece}
use Rattle.wire_show.specs.declared.piece.Piece.TheVariants as piece
use Rattle.wire_show.specs.declared.show.Shown.{Shown}
use Rattle.wire_show.specs.declared.show.Shown.TheVariants as ends
use Rattle.wire_show.specs.Text.{lines_text}
use Rattle.wire_show.specs.Shown.{all_lines, shown, refused}

-- A text was put, or a front of it: after a fault, and without memory.
abbrev pub PutsText : Option (List ℕ) → Option (List ℕ) → List ℕ → Result (Result (Unit {0}) WriteFault) NoMemory → Type 0
PutsText old new text (Ok (Ok done)) = Appends old new text
PutsText old new text (Ok (Err fault)) = AppendsFront old new text
PutsText old new text (Err e) = AppendsFront old new text

-- Some bytes of the stream were passed, from one state to another, and the lines of each record that ended in
-- them were put. `number` is that of the next record.
pub record Passed (old_state new_state : State) (old_put new_put : Option (List ℕ)) (number new_number : ℕ) (bytes : List ℕ) : Type 0 where
  pub state : (flow old_state bytes).state ≡ new_state
  pub put : Appends old_put new_put (lines_text (all_lines number (flow old_state bytes).records))
  pub counted : new_number ≡ number + length (flow old_state bytes).records

-- What became of a piece. Once a record is too large, the rest of the piece brings nothing more.
abbrev pub PieceIs : State → Feed → Option (List ℕ) → Option (List ℕ) → ℕ → ℕ → List ℕ → Result Piece NoMemory → Type 0
PieceIs state feed old new number new_number bytes (Ok (piece.Taken rest)) =
    Passed state (Open rest feed.under) old new number new_number bytes × (feed.large ≡ None)
PieceIs state feed old new number new_number bytes (Ok (piece.TooLarge sum)) = Passed state (Shut sum) old new number new_number bytes
PieceIs state feed old new number new_number bytes (Ok piece.WriteFault) = AppendsFront old new (lines_text (all_lines number (flow state bytes).records))
PieceIs state feed old new number new_number bytes (Err e) = AppendsFront old new (lines_text (all_lines number (flow state bytes).records))

abbrev pub PieceHasCause : ℕ → ℕ → Piece → Type 0
PieceHasCause before now piece.WriteFault = Rose before now
PieceHasCause before now _ = ⊤

-- at most so many bytes came after the last whole record
abbrev pub RestWithin : ℕ → Piece → Type 0
RestWithin most (piece.Taken rest) = rest ≤ most
RestWithin most _ = ⊤

-- The last line was put, or a front of it. Whether it refuses the stream is said in the answer.
abbrev pub LastIs : Bool → Option (List ℕ) → Option (List ℕ) → List ℕ → Result Shown NoMemory → Type 0
LastIs refusal old new text (Ok ends.Whole) = (refusal ≡ false) × Appends old new text
LastIs refusal old new text (Ok ends.Refused) = (refusal ≡ true) × Appends old new text
LastIs refusal old new text (Ok ends.ReadFault) = ⊥
LastIs refusal old new text (Ok ends.WriteFault) = AppendsFront old new text
LastIs refusal old new text (Err e) = AppendsFront old new text

abbrev pub LastHasCause : ℕ → ℕ → Shown → Type 0
LastHasCause before now ends.WriteFault = Rose before now
LastHasCause before now _ = ⊤

-- all of the lines that are due were put, or a front of them
abbrev pub PutsAll : Option (List ℕ) → Option (List ℕ) → List ℕ → Type 0
PutsAll old new bytes = Appends old new (lines_text (shown bytes))

abbrev pub PutsFront : Option (List ℕ) → Option (List ℕ) → List ℕ → Type 0
PutsFront old new bytes = AppendsFront old new (lines_text (shown bytes))

-- How showing ended, where the source tells its bytes, from those that it had left before to those it has now.
abbrev pub ShowIs : Option (List ℕ) → Option (List ℕ) → Option (List ℕ) → Option (List ℕ) → Result Shown NoMemory → Type 0
ShowIs left now old new (Ok ends.Whole) = IsAtEnd now × IfSome left (λ bytes. (refused bytes ≡ false) × PutsAll old new bytes)
ShowIs left now old new (Ok ends.Refused) = IfSome left (λ bytes. (refused bytes ≡ true) × PutsAll old new bytes)
ShowIs left now old new (Ok ends.ReadFault) = IfSome left (λ bytes. PutsFront old new bytes)
ShowIs left now old new (Ok ends.WriteFault) = IfSome left (λ bytes. PutsFront old new bytes)
ShowIs left now old new (Err e) = IfSome left (λ bytes. PutsFront old new bytes)

-- a fault is answered only where its count rose
abbrev pub ShowHasCause : ℕ → ℕ → ℕ → ℕ → Shown → Type 0
ShowHasCause read read_now put put_now ends.ReadFault = Rose read read_now
ShowHasCause read read_now put put_now ends.WriteFault = Rose put put_now
ShowHasCause read read_now put put_now _ = ⊤
