-- A link from which records are taken, and what makes it count as down. Own definitions, over those of
-- a stream of records (RFC 5531 section 11).
use Rattle.std.specs.Prelude.{◌≡◌, ℕ, ◌+◌, ◌<◌, ◌≤◌, ◌||◌, ◌&&◌, Bool, true, false, min, nat_lt, List, [], ◌∷◌, ◌++◌, length, if◌then◌else◌, MatchBool}
use Rattle.std.specs.declared.option.Option.{Option}
use Rattle.std.specs.declared.option.Option.TheVariants.{None, Some}
use Rattle.std.specs.Io.KnownBytes.{Consumes, Keeps, IsAtEnd}
use Rattle.outcome.specs.Causes.{Rose}
use Rattle.rpc_msg.specs.declared.watched.TheConstants.{BYTES_LIMIT}
use Rattle.rpc_msg.specs.Records.{record_limit}
use Rattle.rpc_msg.specs.Underway.{fresh, Cut, Part, Whole, Large, cut, State, Open, Shut, flow, Feed}
use Rattle.streams.specs.declared.sink.Put.{Put}
use Rattle.streams.specs.declared.sink.Put.TheVariants as puts
use Rattle.rpc_msg.specs.declared.watched.Got.{Got}
use Rattle.rpc_msg.specs.declared.watched.Got.TheVariants as got
use Rattle.rpc_msg.specs.declared.watched.Brought.{Brought}
use Rattle.rpc_msg.specs.declared.watched.Brought.TheVariants as brought
use Rattle.rpc_msg.specs.declared.watched.Asked.{Asked}
use Rattle.rpc_msg.specs.declared.watched.Asked.TheVariants as asked

-- No more bytes than this may come without a record's end (own limit).
abbrev pub bytes_limit : ℕ
bytes_limit = BYTES_LIMIT

-- What speaks against a link: how many of its calls failed, whether it ended, and the length or the
-- bytes that passed a limit, 0 where none did.
pub record Signs : Type 0 where
  pub faults : ℕ
  pub ended : Bool
  pub large : ℕ

abbrev pub no_signs : Signs
no_signs = record { faults = 0; ended = false; large = 0 }

abbrev pub is_down : Signs → Bool
is_down signs = nat_lt 0 signs.faults || (signs.ended || nat_lt 0 signs.large)

abbrev pub down_of : Signs → Option Signs
down_of signs = if is_down signs then Some signs else None

abbrev pub got_of : Signs → Got
got_of signs = if is_down signs then got.Down else got.Whole

-- The link; the bytes that it gave and that no record has taken; the feed; how many bytes were fed
-- since the last record's end; how many bytes the link took; and what speaks against it.
pub record Watch (L : Type 0) : Type 0 where
  pub link : L
  pub unread : List ℕ
  pub feed : Feed
  pub count : ℕ
  pub sent : ℕ
  pub signs : Signs

-- Where the stream of records stands.
abbrev pub standing : {L : Type 0} → Watch L → State
standing watch = Open watch.count watch.feed.under

-- A put goes to the link, and is counted.
abbrev pub PutsThrough : {L : Type 0} → Watch L → Watch L → Put → Type 0
PutsThrough old new (puts.Put n) = new ≡ record old { link = new.link; sent = min (old.sent + n) 18446744073709551615 }
PutsThrough old new puts.Failed = new ≡ record old {
  link = new.link;
  signs = record old.signs { faults = min (old.signs.faults + 1) 18446744073709551615 };
}

-- Bytes were read: the first of those unread and then of those that the link gave. They end these
-- records, and the stream stands in this state after them.
pub record Reads {L : Type 0} (left : L → Option (List ℕ)) (old new : Watch L) (records : List (List ℕ)) (state : State) : Type 0 where
  pub given : List ℕ
  pub bytes : List ℕ
  pub gave : Consumes (left old.link) (left new.link) given
  pub parts : old.unread ++ given ≡ bytes ++ new.unread
  pub told : flow (standing old) bytes ≡ record { records = records; state = state }
  pub few : old.count + length bytes ≤ bytes_limit

-- Why a link is down: it ended, a call of it failed, a record's fragments have this sum, or so many
-- bytes came without a record's end.
pub data Why : Type 0 where
  Ended : Why
  Failed : Why
  TooLarge : ℕ → Why
  TooLong : Why

abbrev pub signs_of : Why → Signs
signs_of Ended = record { faults = 0; ended = true; large = 0 }
signs_of Failed = record { faults = 1; ended = false; large = 0 }
signs_of (TooLarge sum) = record { faults = 0; ended = false; large = sum }
signs_of TooLong = record { faults = 0; ended = false; large = bytes_limit }

abbrev pub state_by : Why → State → State
state_by Ended now = now
state_by Failed now = now
state_by (TooLarge sum) now = Shut sum
state_by TooLong now = now

-- The link told its end, or its count of faults rose, or a limit was passed.
abbrev pub Because : {L : Type 0} → (L → Option (List ℕ)) → (L → ℕ) → Why → Watch L → Watch L → Type 0
Because left faults Ended old new = (new.unread ≡ []) × IsAtEnd (left new.link)
Because left faults Failed old new = (new.unread ≡ []) × Rose (faults old.link) (faults new.link)
Because left faults (TooLarge sum) old new = record_limit < sum
Because left faults TooLong old new = new.count ≡ bytes_limit

pub record GoesDown {L : Type 0} (left : L → Option (List ℕ)) (faults : L → ℕ) (old new : Watch L) : Type 0 where
  pub why : Why
  pub signs : new.signs ≡ signs_of why
  pub cause : Because left faults why old new
  pub read : Reads left old new [] (state_by why (standing new))
  pub sent : new.sent ≡ old.sent

-- What taking the next record does: the bytes that were read are one record, which is lent, and the
-- link is up as before; or the link was down and nothing changes; or it goes down, and no record ended.
abbrev pub NextIs : {L : Type 0} → (L → Option (List ℕ)) → (L → ℕ) → Watch L → Watch L → Got → Type 0
NextIs left faults old new got.Whole =
    (is_down old.signs ≡ false) × (new.signs ≡ old.signs) × (new.sent ≡ old.sent) × (standing new ≡ Open 0 fresh)
    × Reads left old new (new.feed.told ∷ []) (Open 0 fresh)
NextIs left faults old new got.Down = MatchBool (is_down old.signs) (new ≡ old) (GoesDown left faults old new)

abbrev pub is_part : Cut → Bool
is_part (Part under) = true
is_part (Whole told rest) = false
is_part (Large sum rest) = false

-- Whether the unread bytes are but part of a record, and more bytes may come.
abbrev pub wants : {L : Type 0} → Watch L → Bool
wants watch = nat_lt (watch.count + length watch.unread) bytes_limit && is_part (cut watch.feed.under watch.unread)

-- Parts of the whole. Unread bytes were read: all of them as part of a record, or those up to a
-- record's end, or up to where a limit was passed. The link is as before.
pub record ReadsFront {L : Type 0} (old new : Watch L) (records : List (List ℕ)) (state : State) : Type 0 where
  pub bytes : List ℕ
  pub parts : old.unread ≡ bytes ++ new.unread
  pub told : flow (standing old) bytes ≡ record { records = records; state = state }
  pub few : old.count + length bytes ≤ bytes_limit

pub record ReadsPart {L : Type 0} (old new : Watch L) : Type 0 where
  pub rest : new ≡ record old { unread = []; feed = new.feed; count = new.count }
  pub counted : new.count ≡ old.count + length old.unread
  pub few : new.count < bytes_limit
  pub told : flow (standing old) old.unread ≡ record { records = []; state = standing new }
  pub wanted : wants old ≡ true

pub record ReadsWhole {L : Type 0} (old new : Watch L) : Type 0 where
  pub rest : new ≡ record old { unread = new.unread; feed = new.feed; count = 0 }
  pub under : new.feed.under ≡ fresh
  pub read : ReadsFront old new (new.feed.told ∷ []) (Open 0 fresh)
  pub wanted : wants old ≡ false

pub record ReadsDown {L : Type 0} (old new : Watch L) : Type 0 where
  pub why : Why
  pub rest : new ≡ record old { unread = new.unread; feed = new.feed; count = new.count; signs = signs_of why }
  pub cause : (left : L → Option (List ℕ)) (faults : L → ℕ) (first : Watch L) → Because left faults why first new
  pub read : ReadsFront old new [] (state_by why (standing new))
  pub wanted : wants old ≡ false

abbrev pub Brings : {L : Type 0} → Watch L → Watch L → Brought → Type 0
Brings old new brought.Part = ReadsPart old new
Brings old new brought.Whole = ReadsWhole old new
Brings old new brought.Down = ReadsDown old new

-- The link was asked for bytes once.
abbrev pub Asks : {L : Type 0} → (L → Option (List ℕ)) → (L → ℕ) → Watch L → Watch L → Asked → Type 0
Asks left faults old new asked.More =
    (new ≡ record old { link = new.link; unread = new.unread }) × (0 < length new.unread)
    × Consumes (left old.link) (left new.link) new.unread
Asks left faults old new asked.Ended =
    (new ≡ record old { link = new.link; signs = signs_of Ended })
    × Keeps (left old.link) (left new.link) × IsAtEnd (left new.link)
Asks left faults old new asked.Failed =
    (new ≡ record old { link = new.link; signs = signs_of Failed })
    × Keeps (left old.link) (left new.link) × Rose (faults old.link) (faults new.link)

-- What was told since a stream began: the link gave these bytes, and these are their records so far.
pub record HasTold {L : Type 0} (left : L → Option (List ℕ)) (start : L) (now : Watch L) (records : List (List ℕ)) : Type 0 where
  pub given : List ℕ
  pub bytes : List ℕ
  pub gave : Consumes (left start) (left now.link) given
  pub parts : given ≡ bytes ++ now.unread
  pub told : flow (Open 0 fresh) bytes ≡ record { records = records; state = standing now }
