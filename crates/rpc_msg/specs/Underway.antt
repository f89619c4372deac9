-- A record under way: what a stream that comes in pieces has given of it so far. Each byte changes it
-- as the fragments of `Records` say; `records_are_fragments` says that both tell the same. Own definitions.
use Rattle.std.specs.Prelude.{◌≡◌, ℕ, ◌+◌, ◌*◌, ◌-◌, ◌==◌, Bool, false, nat_lt, List, [], ◌∷◌, ◌++◌, length, if◌then◌else◌}
use Rattle.std.specs.declared.option.Option.{Option}
use Rattle.std.specs.declared.option.Option.TheVariants.{None, Some}
use Rattle.rpc_msg.specs.Records.{record_limit, is_last, fragment_len, End, Rest, TooLarge, Told}
use Rattle.rpc_msg.specs.declared.records.Fed.{Fed}
use Rattle.rpc_msg.specs.declared.records.Fed.TheVariants as fed
use Rattle.rpc_msg.specs.declared.fragments.Progress.{Progress}
use Rattle.rpc_msg.specs.declared.fragments.Progress.TheVariants as progress

pub record Under : Type 0 where
  pub joined : List ℕ  -- the bytes of its fragments so far
  pub header_bytes : ℕ  -- how many bytes of the next header came
  pub header : ℕ  -- and their number
  pub lacking : ℕ  -- the bytes that the fragment under way lacks
  pub last : Bool  -- whether that fragment is the record's last

-- The next fragment's header is to come.
abbrev pub between : List ℕ → Under
between joined = record { joined = joined; header_bytes = 0; header = 0; lacking = 0; last = false }

-- No byte of a record came.
abbrev pub fresh : Under
fresh = between []

-- What more bytes make of it: it goes on, it ends as a record, or its lengths pass the limit.
pub data Step : Type 0 where
  Goes : Under → Step
  Ends : List ℕ → Step
  Passes : ℕ → Step

-- A fragment's last byte came.
abbrev pub on_end : List ℕ → Bool → Step
on_end joined last = if last then Ends joined else Goes (between joined)

-- A whole header came, which said `last` and `len`.
abbrev pub on_fragment : List ℕ → Bool → ℕ → Step
on_fragment joined last len =
    if nat_lt record_limit (length joined + len) then Passes (length joined + len)
    else (if len == 0 then on_end joined last
    else Goes (record { joined = joined; header_bytes = 0; header = 0; lacking = len; last = last }))

abbrev pub on_header : List ℕ → ℕ → Step
on_header joined header = on_fragment joined (is_last header) (fragment_len header)

abbrev pub on_header_byte : Under → ℕ → Step
on_header_byte under byte =
    if under.header_bytes == 3 then on_header under.joined (under.header * 256 + byte)
    else Goes (record under { header_bytes = under.header_bytes + 1; header = under.header * 256 + byte })

-- Bytes of the fragment came, at most those that it lacks.
abbrev pub on_body : Under → List ℕ → Step
on_body under bytes =
    if length bytes == under.lacking then on_end (under.joined ++ bytes) under.last
    else Goes (record under { joined = under.joined ++ bytes; lacking = under.lacking - length bytes })

unfoldable pub on_byte : Under → ℕ → Step
on_byte under byte = if nat_lt 0 under.lacking then on_body under (byte ∷ []) else on_header_byte under byte

-- What a piece brings: part of a record, a record and the bytes after it, or lengths past the limit
-- and the bytes after the header that passed it.
pub data Cut : Type 0 where
  Part : Under → Cut
  Whole : List ℕ → List ℕ → Cut
  Large : ℕ → List ℕ → Cut

abbrev pub cut_on : Step → List ℕ → (Under → Cut) → Cut
cut_on (Goes under) bytes next = next under
cut_on (Ends joined) bytes next = Whole joined bytes
cut_on (Passes sum) bytes next = Large sum bytes

-- The piece up to the end of one record.
unfoldable pub cut : Under → List ℕ → Cut
cut under [] = Part under
cut under (byte ∷ bytes) = cut_on (on_byte under byte) bytes (λ next. cut next bytes)

-- Where a stream stands: so many bytes after its last whole record, and what they made; or shut, since
-- a record was too large.
pub data State : Type 0 where
  Open : ℕ → Under → State
  Shut : ℕ → State

-- The records of some bytes of a stream, and where it stands after them.
pub record Flow : Type 0 where
  pub records : List (List ℕ)
  pub state : State

-- First this, and then what follows where it stands.
abbrev pub then_flow : Flow → (State → Flow) → Flow
then_flow first next = record {
  records = first.records ++ (next first.state).records;
  state = (next first.state).state;
}

abbrev pub flow_step : Step → ℕ → Flow
flow_step (Goes under) count = record { records = []; state = Open (count + 1) under }
flow_step (Ends joined) count = record { records = joined ∷ []; state = Open 0 fresh }
flow_step (Passes sum) count = record { records = []; state = Shut sum }

abbrev pub flow_byte : State → ℕ → Flow
flow_byte (Open count under) byte = flow_step (on_byte under byte) count
flow_byte (Shut sum) byte = record { records = []; state = Shut sum }

unfoldable pub flow : State → List ℕ → Flow
flow state [] = record { records = []; state = state }
flow state (byte ∷ bytes) = then_flow (flow_byte state byte) (λ next. flow next bytes)

-- The same for a piece of so many bytes that is cut in this way: its first record, and what follows.
abbrev pub flow_of : ℕ → ℕ → Cut → Flow
flow_of count len (Part under) = record { records = []; state = Open (count + len) under }
flow_of count len (Whole joined rest) = then_flow (record { records = joined ∷ []; state = Open 0 fresh }) (λ next. flow next rest)
flow_of count len (Large sum rest) = record { records = []; state = Shut sum }

-- What a stream told where it stands now.
abbrev pub end_of : State → End
end_of (Open count under) = Rest count
end_of (Shut sum) = TooLarge sum

abbrev pub told_of : Flow → Told
told_of told = record { records = told.records; end = end_of told.state }

-- A feed: the record under way, the bytes that it lends, and the sum that passed the limit.
pub record Feed : Type 0 where
  pub under : Under
  pub told : List ℕ
  pub large : Option ℕ

-- No piece was given since the feed was made.
abbrev pub IsFresh : Feed → Type 0
IsFresh feed = (feed.under ≡ fresh) × (feed.large ≡ None)

-- A piece was cut at the end of one record, or taken whole.
pub record FeedsPart (under : Under) (piece : List ℕ) (taken : ℕ) (said : Fed) (new : Feed) : Type 0 where
  pub taken_whole : taken ≡ length piece
  pub answer : said ≡ fed.Need
  pub under_way : new.under ≡ under
  pub small : new.large ≡ None

pub record FeedsWhole (told rest piece : List ℕ) (taken : ℕ) (said : Fed) (new : Feed) : Type 0 where
  pub left_over : taken + length rest ≡ length piece
  pub answer : said ≡ fed.Whole
  pub record_told : new.told ≡ told
  pub under_way : new.under ≡ fresh
  pub small : new.large ≡ None

pub record FeedsLarge (sum : ℕ) (rest piece : List ℕ) (taken : ℕ) (said : Fed) (new : Feed) : Type 0 where
  pub left_over : taken + length rest ≡ length piece
  pub answer : said ≡ fed.TooLarge sum
  pub large : new.large ≡ Some sum

abbrev pub FeedsCut : Cut → List ℕ → ℕ → Fed → Feed → Type 0
FeedsCut (Part under) piece taken said new = FeedsPart under piece taken said new
FeedsCut (Whole told rest) piece taken said new = FeedsWhole told rest piece taken said new
FeedsCut (Large sum rest) piece taken said new = FeedsLarge sum rest piece taken said new

-- What one call of a feed answers and leaves. Once too large it takes nothing and stays as it is.
abbrev pub Feeds : Option ℕ → Feed → List ℕ → ℕ × Fed → Feed → Type 0
Feeds (Some sum) old piece result new = (result ≡ (0, fed.TooLarge sum)) × (new ≡ old)
Feeds None old piece result new = FeedsCut (cut old.under piece) piece result.0 result.1 new

-- Parts of the whole for the methods of the record under way.
abbrev pub Makes : Step → Progress → Under → Type 0
Makes (Goes under) made new = (made ≡ progress.Goes) × (new ≡ under)
Makes (Ends joined) made new = (made ≡ progress.Ends) × (new.joined ≡ joined)
Makes (Passes sum) made new = made ≡ progress.Passes sum

-- What a part of a piece made of it, with these bytes left of the piece.
abbrev pub MakesCut : Cut → List ℕ → Progress → Under → Type 0
MakesCut before left progress.Goes new = before ≡ cut new left
MakesCut before left progress.Ends new = before ≡ Whole new.joined left
MakesCut before left (progress.Passes sum) new = before ≡ Large sum left
