-- Why the connections were hung up that a server served beside workers, one after another.
use Rattle.std.proofs.Common.{◌≡◌, ℕ, ◌+◌, ◌-◌, ◌≤◌, List, [], ◌∷◌, ◌⊎◌, Option, Some, None, refl, ap, arith}
use Rattle.rpc_msg.specs.declared.pump.Pumped.{Pumped}
use Rattle.net_links.specs.Links.{Standing}
use Rattle.link_server.specs.Answering.{Caller}
use Rattle.link_server.specs.Serving.{newcomer}
use Rattle.link_server.specs.Hanging.{AllForCause, WhyHung, Ended, ReadFailed, PutFailed, TooLarge, Many, AllTaken, TooLong, Sums, starved_by, sums_after}
use Rattle.link_server.specs.HangingLaws.{pumps_why}
use Rattle.link_server.specs.declared.tally.TheConstants.{ALL_RECORDS, EACH_RECORDS}
use Rattle.callback_server.specs.Hanging.{AllHung, HungIs}
use Rattle.callback_server.specs.Serving.{heard, AttendedIs}

-- what is so of a connection as its own handle tells it is so of it, also where others' puts failed on its way
heard_why : (earlier failed : ℕ) (now : Standing) → failed ≤ now.takes.faults → WhyHung earlier (heard now.brings failed) → WhyHung earlier now
heard_why earlier failed now counted (Ended at) = Ended at
heard_why earlier failed now counted (ReadFailed rose) = ReadFailed rose
heard_why earlier failed now counted (PutFailed rose) = PutFailed (omega (arith, rose, counted))
heard_why earlier failed now counted (TooLarge bytes over sum brings state) = TooLarge bytes over sum brings state
heard_why earlier failed now counted (Many bytes over brings count) = Many bytes over brings count
heard_why earlier failed now counted (AllTaken bytes over brings count) = AllTaken bytes over brings count
heard_why earlier failed now counted (TooLong bytes over brings long more) = TooLong bytes over brings long more

one_why : (answers : Caller → List ℕ → List ℕ → Caller → Type 0) (earlier : ℕ) (now : Standing) (given unused : ℕ) (end : Option Pumped)
    → starved_by end ≡ 0 → ((given ≡ EACH_RECORDS) ⊎ ((given ≤ EACH_RECORDS) × (earlier + given ≡ ALL_RECORDS)))
    → AttendedIs answers given unused end now → WhyHung earlier now
one_why answers earlier now given unused (Some end) none gave by =
    heard_why earlier by.failed now by.counted (pumps_why answers (newcomer by.conn) by.last (heard by.start 0) (heard now.brings by.failed)
    earlier given unused end by.new refl by.same gave by.went)
one_why answers earlier now given unused None none gave by = absurd (omega arith)

hung_why : (answers : Caller → List ℕ → List ℕ → Caller → Type 0) (earlier : Sums) (link : Standing) (one : HungIs answers earlier link)
    → starved_by one.end ≡ 0 → WhyHung earlier.taken link
hung_why answers earlier link one none = one_why answers earlier.taken link one.given one.unused one.end none one.gave one.served

more_starve : (answers : Caller → List ℕ → List ℕ → Caller → Type 0) (earlier now : Sums) (links : List Standing)
    → AllHung answers earlier links now → earlier.starved ≤ now.starved
more_starve answers earlier now [] all = let e = ap (λ sums. sums.starved) all in omega (arith, e)
more_starve answers earlier now (link ∷ links) all =
    omega (arith, more_starve answers (sums_after earlier (all.0.given - all.0.unused) all.0.end) now links all.1)

pub all_for_cause : (answers : Caller → List ℕ → List ℕ → Caller → Type 0) (earlier now : Sums) (links : List Standing)
    → AllHung answers earlier links now → now.starved ≡ earlier.starved → AllForCause earlier.taken links
all_for_cause answers earlier now [] all none = tt
all_for_cause answers earlier now (link ∷ links) all none =
    let one = all.0 in
    let later = sums_after earlier (one.given - one.unused) one.end in
    let more = more_starve answers later now links all.1 in
    (hung_why answers earlier link one (omega (arith, more, none)), one.given - one.unused, all_for_cause answers later now links all.1 (omega (arith, more, none)))
