-- What follows of serving one connection: how many records it leaves, and why it was hung up then.
use Rattle.std.proofs.Common.{◌≡◌, ℕ, ◌+◌, ◌≤◌, List, [], ◌++◌, ◌⊎◌, length, Option, Some, None, IfSome, refl, ◌∙◌, arith, inl, inr}
use Rattle.std.specs.Io.KnownBytes.{Consumes}
use Rattle.rpc_msg.specs.declared.pump.Pumped.{Pumped}
use Rattle.rpc_msg.specs.declared.pump.Pumped.TheVariants as pumped
use Rattle.rpc_msg.specs.Serving.{state_of}
use Rattle.rpc_msg.specs.Underway.{Feed, IsFresh, Open, fresh, flow}
use Rattle.net_links.specs.Links.{Standing, IsNew}
use Rattle.streams.specs.Stream.{Giving}
use Rattle.link_server.specs.Answering.{Caller}
use Rattle.link_server.specs.Serving.{IsUnread, Pumps, PumpsShort, Untouched, Went}
use Rattle.link_server.specs.Hanging.{WhyHung, Ended, ReadFailed, PutFailed, TooLarge, Many, AllTaken, TooLong, Brought}
use Rattle.link_server.specs.declared.tally.TheConstants.{ALL_RECORDS, EACH_RECORDS}

-- ---- no more records are left than were given

pumps_few : (answers : Caller → List ℕ → List ℕ → Caller → Type 0) (first last : Caller) (start now : Standing) (given unused : ℕ) (end : Pumped)
    → Pumps answers first last start now given unused end → unused ≤ given
pumps_few answers first last start now given unused (pumped.End rest) by = omega (arith, by.pump.0.passed.counted)
pumps_few answers first last start now given unused (pumped.TooLarge sum) by = omega (arith, by.pump.0.passed.counted)
pumps_few answers first last start now given unused pumped.TooMuch by = omega (arith, by.pump.1.passed.counted)
pumps_few answers first last start now given unused pumped.Enough by = omega (arith, by.pump.0.passed.counted)
pumps_few answers first last start now given unused pumped.ReadFault by = omega (arith, by.pump.1.passed.counted)
pumps_few answers first last start now given unused pumped.WriteFault by = omega (arith, by.pump.passed.counted)

short_few : (answers : Caller → List ℕ → List ℕ → Caller → Type 0) (first last : Caller) (start now : Standing) (given unused : ℕ)
    → (PumpsShort answers first last start now given unused ⊎ Untouched first last start now given unused) → unused ≤ given
short_few answers first last start now given unused (inl by) = omega (arith, by.short.stopped.counted)
short_few answers first last start now given unused (inr by) = omega (arith, by.records)

pub went_few : (answers : Caller → List ℕ → List ℕ → Caller → Type 0) (first last : Caller) (start now : Standing) (given unused : ℕ) (end : Option Pumped)
    → Went answers first last start now given unused end → unused ≤ given
went_few answers first last start now given unused (Some end) by = pumps_few answers first last start now given unused end by
went_few answers first last start now given unused None by = short_few answers first last start now given unused by

-- ---- why it was hung up

fresh_open : (feed : Feed) → IsFresh feed → state_of 0 feed ≡ Open 0 fresh
fresh_open feed new = rw (new.1, new.0) refl

-- nothing was taken from a new link
all_left : (whole left taken : Option (List ℕ)) → IfSome whole (λ all. (left ≡ Some all) × (taken ≡ Some [])) → IfSome whole (λ all. left ≡ Some all)
all_left None left taken told = tt
all_left (Some all) left taken told = told.0

pub unread : (link : Standing) → IsNew link → IsUnread link.brings
unread link new = record { all = all_left link.brings.whole link.brings.left link.takes.taken new.told; faults = new.reads }

-- A link of which nothing was taken has all left that it brings, where it tells that.
brings_all : (whole left now : Option (List ℕ)) (bytes : List ℕ) → IfSome whole (λ all. left ≡ Some all) → Consumes left now bytes → Consumes whole now bytes
brings_all None left now bytes told took = tt
brings_all (Some all) left now bytes told took = rw told at took

brought : (start : Giving) (now : Standing) (bytes over : List ℕ) → IsUnread start → now.brings.whole ≡ start.whole
    → Consumes start.left now.brings.left (bytes ++ over) → Brought now bytes over
brought start now bytes over new same took = rw same (brings_all start.whole start.left now.brings.left (bytes ++ over) new.all took)

-- All records that it was given were taken.
spends : (earlier : ℕ) (now : Standing) (bytes over : List ℕ) (given : ℕ) → Brought now bytes over
    → length (flow (Open 0 fresh) bytes).records ≡ given
    → ((given ≡ EACH_RECORDS) ⊎ ((given ≤ EACH_RECORDS) × (earlier + given ≡ ALL_RECORDS))) → WhyHung earlier now
spends earlier now bytes over given brings count (inl each) = Many bytes over brings (count ∙ each)
spends earlier now bytes over given brings count (inr rest) = AllTaken bytes over brings (omega (arith, count, rest.1))

pub pumps_why : (answers : Caller → List ℕ → List ℕ → Caller → Type 0) (first last : Caller) (start now : Standing) (earlier given unused : ℕ) (end : Pumped)
    → IsUnread start.brings → start.takes.faults ≡ 0 → now.brings.whole ≡ start.brings.whole
    → ((given ≡ EACH_RECORDS) ⊎ ((given ≤ EACH_RECORDS) × (earlier + given ≡ ALL_RECORDS)))
    → Pumps answers first last start now given unused end → WhyHung earlier now
pumps_why answers first last start now earlier given unused (pumped.End rest) new none same gave by = Ended by.pump.2
pumps_why answers first last start now earlier given unused (pumped.TooLarge sum) new none same gave by =
    let ran = by.pump.0 in
    TooLarge ran.bytes ran.over sum (brought start.brings now ran.bytes ran.over new same ran.taken) (rw (fresh_open by.feed by.fresh) at ran.passed.state)
pumps_why answers first last start now earlier given unused pumped.TooMuch new none same gave by =
    let ran = by.pump.1 in
    TooLong ran.bytes ran.over (brought start.brings now ran.bytes ran.over new same ran.taken) by.pump.2 by.pump.3
pumps_why answers first last start now earlier given unused pumped.Enough new none same gave by =
    let ran = by.pump.0 in
    let counted = rw (fresh_open by.feed by.fresh) at ran.passed.counted in
    spends earlier now ran.bytes ran.over given (brought start.brings now ran.bytes ran.over new same ran.taken) (omega (arith, counted, by.pump.1)) gave
pumps_why answers first last start now earlier given unused pumped.ReadFault new none same gave by = ReadFailed (rw new.faults at by.cause)
pumps_why answers first last start now earlier given unused pumped.WriteFault new none same gave by = PutFailed (rw none at by.cause)
