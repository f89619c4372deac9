-- What a fit mount awaits in its slots has a spelling.
use Rattle.std.proofs.Common.{◌≡◌, Option, Some, None, subst}
use Rattle.caller_laws.specs.Fitting.Asking.{AskedIsFit}
use Rattle.caller_laws.specs.Fitting.Fitting.{MountIsFit, PendingIsFit, PlaceIsFit}
use Rattle.dest_laws.proofs.landings.Fetched.{slot_if}
use Rattle.dest_laws.proofs.landings.Places.{seen_of}
use Rattle.dest_laws.specs.Landings.Posted.{AreSpelled, IsSpelled, asked_in}
use Rattle.mount.specs.State.{Mounted, awaited_at}
use Rattle.mount.specs.declared.state.Awaiting.{Awaiting}
use Rattle.mount.specs.declared.state.Pending.{Pending}
use Rattle.mount.specs.declared.state.Pending.TheVariants.{Init, Under}
use Rattle.nfs_compound.specs.declared.compound.Compound.{Compound}
use Rattle.session_client.specs.declared.asked.Asked.{Asked}
use Rattle.session_client.specs.declared.asked.Asked.TheVariants as asks

compound_spelled : (c : Compound) → AskedIsFit (asks.Compound c) → IsSpelled c
compound_spelled c fit = record { are_bytes = fit.are_bytes; fits = fit.fits.fits }

one_of : (a b : Option Asked) → Some a ≡ Some b → a ≡ b
one_of a b e = cc

pending_spelled : (p : Pending) (c : Compound) → PendingIsFit p → Some (asked_in p) ≡ Some (Some (asks.Compound c)) → IsSpelled c
pending_spelled (Init init) c fit is = absurd cc
pending_spelled (Under context aim call) c fit is =
    let s = slot_if aim call.asked c (one_of (asked_in (Under context aim call)) (Some (asks.Compound c)) is) in
    compound_spelled c (subst AskedIsFit s.asked_is fit)

place_spelled : (a : Option Awaiting) (c : Compound) → PlaceIsFit a → seen_of a ≡ Some (Some (asks.Compound c)) → IsSpelled c
place_spelled None c fit is = absurd cc
place_spelled (Some a) c fit is = pending_spelled a.pending c fit is

pub all_spelled : (m : Mounted) → MountIsFit m → AreSpelled m
all_spelled m fit place c is = place_spelled (awaited_at m place) c (fit.places place) is
