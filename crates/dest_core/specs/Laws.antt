-- What an extension owes: a destination gives numbers out by COPY alone, and lands nothing for a client's end.
use Rattle.std.specs.Prelude.{◌≡◌, ℕ, ◌≤◌}
use Rattle.std.proofs.Common.{subst, sym}
use Rattle.std.proofs.Math.Nat.{le_refl}
use Rattle.compound_server.specs.declared.client_end.ClientEnd.{ClientEnd}
use Rattle.dest_jobs.specs.EndingLaws.{leaving_gives_none}
use Rattle.dest_jobs.specs.LandedLaws as landing
use Rattle.dest_core.specs.Landing.{landed}
use Rattle.dest_core.specs.Serving.{given, leaves, stop_of}
use Rattle.dest_core.specs.declared.destination.Destination.{Destination}

pub same_given : {M : Type 0} (x : Destination M) → given x ≤ given x
same_given x = le_refl (given x)

pub leaving_gives : {M : Type 0} (client : ℕ) (why : ClientEnd) (x : Destination M) → given (leaves client why x) ≤ given x
leaving_gives client why x =
    subst (λ n. n ≤ given x) (sym (leaving_gives_none client (stop_of why) x.copier.copies)) (le_refl (given x))

pub leaving_lands_none : {M : Type 0} (client : ℕ) (why : ClientEnd) (x : Destination M) → landed (leaves client why x) ≡ landed x
leaving_lands_none client why x = (landing.leaving_lands_none client (stop_of why) x.copier.copies).bytes
