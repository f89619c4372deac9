-- What is done to a link: a record is taken from it, it goes down when it is asked for one, or bytes are put to it. Own
-- definitions, over those of a watched link.
use Rattle.std.specs.Prelude.{◌≡◌, ℕ, ◌≤◌, ◌+◌, nat_le, nat_lt, Bool, true, false, List, [], ◌++◌, ◌⊎◌, length, take, if◌then◌else◌}
use Rattle.std.specs.Io.KnownBytes.{Appends}
use Rattle.outcome.specs.Causes.{Rose}
use Rattle.rpc_msg.specs.Records.{marked, record_limit}
use Rattle.rpc_msg.specs.Watching.{Watch, Signs, Failed, GoesDown, HasTold, NextIs, is_down, signs_of}
use Rattle.rpc_msg.specs.declared.watched.Got.TheVariants as got
use Rattle.streams.specs.Sink.{AppendsFront}
use Rattle.streams.specs.Stream.{Giving, Taking, faults_of, left_of}
use Rattle.streams.specs.declared.sink.Put.{Put}
use Rattle.streams.specs.declared.sink.Put.TheVariants as puts
use Rattle.single_copy.specs.declared.links.Took.{Took}
use Rattle.single_copy.specs.declared.links.Took.TheVariants as took

-- What no call changes of a link; and its counts of faults never fall.
pub record Stays {L : Type 0} (gives : L → Giving) (takes : L → Taking) (old new : L) : Type 0 where
  pub whole : (gives new).whole ≡ (gives old).whole
  pub takes_failing : (gives new).failing ≡ (gives old).failing
  pub puts_failing : (takes new).failing ≡ (takes old).failing
  pub takes_later : (gives old).faults ≤ (gives new).faults
  pub puts_later : (takes old).faults ≤ (takes new).faults

-- whether a call of the link failed
abbrev pub is_faulty : Signs → Bool
is_faulty signs = nat_lt 0 signs.faults

-- ---- taking

-- The link was up, and brought a record.
pub record Brings {L : Type 0} (gives : L → Giving) (takes : L → Taking) (old new : Watch L) (message : List ℕ) : Type 0 where
  pub next : NextIs (left_of gives) (faults_of gives) old new got.Whole
  pub told : new.feed.told ≡ message
  pub puts : takes new.link ≡ takes old.link
  pub stays : Stays gives takes old.link new.link

-- The link was asked for a record, and went down.
pub record Falls {L : Type 0} (gives : L → Giving) (takes : L → Taking) (old new : Watch L) : Type 0 where
  pub down : GoesDown (left_of gives) (faults_of gives) old new
  pub puts : takes new.link ≡ takes old.link
  pub stays : Stays gives takes old.link new.link

-- So many records may still be taken from the link: it brought one, or it counts as ended, or it went down.
abbrev pub Takes : {L : Type 0} → (L → Giving) → (L → Taking) → (old new : Watch L) → (left left_now : ℕ) → Took → Type 0
Takes gives takes old new left left_now took.Whole = Brings gives takes old new new.feed.told × (left ≡ left_now + 1)
Takes gives takes old new left left_now took.Full = (new ≡ old) × (left ≡ 0) × (left_now ≡ left)
Takes gives takes old new left left_now took.Down = Falls gives takes old new × (left_now ≡ left)

-- ---- putting

-- Bytes were put to a link that was up: all of them, or a front of them, and then a put failed and took it down. To one that was
-- down nothing was put. The records that it brings stay the same.
pub record Sends {L : Type 0} (gives : L → Giving) (takes : L → Taking) (old new : Watch L) (bytes : List ℕ) : Type 0 where
  pub front : AppendsFront (takes old.link).taken (takes new.link).taken bytes
  pub whole : is_down new.signs ≡ false → Appends (takes old.link).taken (takes new.link).taken bytes
  pub down : is_down old.signs ≡ true → new ≡ old
  pub failed : is_down old.signs ≡ false → is_down new.signs ≡ true
      → (new.signs ≡ signs_of Failed) × Rose (takes old.link).faults (takes new.link).faults
  pub told : (start : L) (records : List (List ℕ)) → HasTold (left_of gives) start old records → HasTold (left_of gives) start new records
  pub stays : Stays gives takes old.link new.link

-- what one put was offered and took, or, where it failed, was offered
abbrev pub offered : Put → List ℕ → List ℕ
offered (puts.Put n) piece = take n piece
offered puts.Failed piece = piece

abbrev pub is_failed : Put → Bool
is_failed (puts.Put n) = false
is_failed puts.Failed = true

-- a record with its mark; one that is longer than any record may be isn't put
abbrev pub carried : List ℕ → List ℕ
carried bytes = if nat_le (length bytes) record_limit then marked bytes else []

-- ---- both, one after the other

-- the link stands as it did, or it went down when it was asked for a record
abbrev pub StoodOrFell : {L : Type 0} → (L → Giving) → (L → Taking) → (last now : Watch L) → Type 0
StoodOrFell gives takes last now = (now ≡ last) ⊎ Falls gives takes last now

-- The link brought these records, in their order, and at most its end behind them. These bytes were put to it; a front of them
-- where it had been down before, or where a put failed. A call of it had failed before, or its count of faults rose.
pub record Carries {L : Type 0} (gives : L → Giving) (takes : L → Taking) (old now : Watch L) (records : List (List ℕ)) (bytes : List ℕ) : Type 0 where
  pub last : Watch L
  pub brought : (start : L) (earlier : List (List ℕ)) → HasTold (left_of gives) start old earlier → HasTold (left_of gives) start last (earlier ++ records)
  pub since : StoodOrFell gives takes last now
  pub front : AppendsFront (takes old.link).taken (takes now.link).taken bytes
  pub whole : is_down old.signs ≡ false → is_faulty now.signs ≡ false → Appends (takes old.link).taken (takes now.link).taken bytes
  pub cause : is_faulty now.signs ≡ true
      → (is_faulty old.signs ≡ true) ⊎ (Rose (gives old.link).faults (gives now.link).faults ⊎ Rose (takes old.link).faults (takes now.link).faults)
  pub stays : Stays gives takes old.link now.link
