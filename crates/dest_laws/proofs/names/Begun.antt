-- A destination that was just opened has told nothing yet.
use Rattle.std.proofs.Common.{◌≡◌, ℕ, zero, suc, ◌≤◌, true, false, List, [], Option, None, refl, sym, ap, subst, ◌∙◌, arith}
use Rattle.std.specs.Prelude.{replicate, slice_index_or}
use Rattle.copy_privs.specs.declared.peer.Peer.{Peer}
use Rattle.dest_back.specs.Callbacks.{no_callbacks}
use Rattle.dest_back.specs.declared.callbacks.Post.{Post}
use Rattle.dest_back.specs.declared.compound.Ended.{Ended}
use Rattle.dest_core.specs.Core.{no_copies, no_sessions}
use Rattle.dest_core.specs.Stepping.{DestState, copier_in}
use Rattle.dest_core.specs.declared.destination.Destination.{Destination}
use Rattle.dest_laws.specs.Names.Causes.{HaveCauses}
use Rattle.dest_laws.specs.Names.Holding.{IsToldRight, safe_at}
use Rattle.dest_laws.specs.Names.Posts.{AreRight, IsAwaited, SessionsFit}
use Rattle.dest_laws.specs.Names.Right.{AreGiven, TellsRight}
use Rattle.dest_laws.specs.View.Steps.{Shows, table_in}
use Rattle.dest_tasks.specs.declared.seats.TheConstants.{SEATS}
use Rattle.job_table.specs.Table.{JobTable}
use Rattle.nfs_base.specs.declared.net_loc.NetLoc.{NetLoc}
use Rattle.wire_model.specs.Copies.{Job as Copy}
use Rattle.wire_model.specs.System.{System}

none_there : (n seat : ℕ) → ◌≡◌ {A = Option Post} (slice_index_or (replicate n None) seat None) None
none_there zero seat = refl
none_there (suc n) zero = refl
none_there (suc n) (suc seat) = none_there n seat

none_awaited : (told : Ended) → IsAwaited no_callbacks told → ⊥
none_awaited told is = let both = sym (none_there SEATS is.seat) ∙ is.there in cc

none_told : (right : Ended → Type 0) → AreRight right no_callbacks
none_told right = record { tells = λ told is. absurd (none_awaited told is); fit = tt }

pub begins_right : {M : Type 0} (s : System) (k boot capacity : ℕ) (mech : M) (source : Peer) (principal : List ℕ) (own : NetLoc) (d : DestState M)
    → d.state.machine.extra ≡ no_copies boot capacity mech source principal own → d.state.sessions ≡ no_sessions boot → Shows s k d → IsToldRight s k d
begins_right {M} s k boot capacity mech source principal own d extra sessions shows =
    let t : table_in d ≡ record { boot = boot; capacity = capacity; made = 0; jobs = [] } = ap (λ (x : Destination M). x.copier.copies.book.table) extra in
    let back : (copier_in d).back ≡ no_callbacks = ap (λ (x : Destination M). x.copier.back) extra in
    record {
      are = subst (AreRight (TellsRight (table_in d).boot (s.made k) (safe_at s k))) (sym back) (none_told (TellsRight (table_in d).boot (s.made k) (safe_at s k)));
      given = subst AreGiven (sym t) tt;
      fit = subst SessionsFit (sym sessions) tt;
      marks = λ j is. absurd (never j is (subst (λ (n : ℕ). n ≤ j) (sym (ap (λ (x : JobTable). x.made) t)) (omega arith)));
      have = subst HaveCauses (sym t) tt;
    }
  where
    never : (j : ℕ) → (s.job k j).stable ≡ true → (table_in d).made ≤ j → ⊥
    never j is above = let none : (s.job k j).stable ≡ false = ap (λ (c : Copy). c.stable) (shows.none_yet j above) in let both = sym none ∙ is in cc
