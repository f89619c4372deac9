-- A disk that crashed before it was formatted, so that no fuse is set, is as large and counted as many faults.
use Rattle.std.proofs.Common.{◌≡◌, ℕ, ◌≤◌, ◌<◌, sym, ap, ◌∙◌, subst, arith}
use Rattle.block_file.specs.Layout.{blocks_of}
use Rattle.run_ends.specs.First.{Shape}
use Rattle.session_server.specs.declared.host.Host.{Host}
use Rattle.wire_run.specs.Fresh.{IsMadeOn, IsUnmade, IsUnmadeFor}
use Rattle.wire_run.specs.declared.fresh.Unmade.{Unmade}
use Rattle.wire_run.specs.declared.fresh.Unmade.TheVariants as unmade

module _ {D : Type 0} (faults size : D → ℕ) (shape : Shape) (disk mid : D) (as_large : size mid ≡ size disk) (count : faults mid ≡ faults disk) where
  pub made_from : {X C : Type 0} (core : Host D X C) → IsMadeOn faults size shape mid core → IsMadeOn faults size shape disk core
  made_from core made = record {
    steps = made.steps;
    count = made.count;
    fits = omega (arith, made.fits, as_large);
    later = omega (arith, made.later, count);
    as_large = made.as_large ∙ as_large;
  }

  why_from : (told : Type 0) (now : D) (cause : Unmade) → (size disk < blocks_of shape.files shape.blocks → mid ≡ disk) → IsUnmadeFor told faults size shape mid now cause
      → IsUnmadeFor told faults size shape disk now cause
  why_from told now unmade.DiskFailed same why = (omega (arith, why.0, count), omega (arith, why.1, as_large))
  why_from told now (unmade.TooSmall need have) same why = record {
    need_is = why.need_is;
    have_is = why.have_is ∙ as_large;
    short = why.short;
    untouched = why.untouched ∙ same (omega (arith, why.need_is, why.have_is, why.short, as_large));
  }
  why_from told now (unmade.NotVolume block at) same why = (why.0, omega (arith, why.1, as_large))

  pub unmade_from : (told : Type 0) (now : D) (cause : Unmade) → (size disk < blocks_of shape.files shape.blocks → mid ≡ disk) → IsUnmade told faults size shape mid now cause
      → IsUnmade told faults size shape disk now cause
  unmade_from told now cause same u =
      record { why = why_from told now cause same u.why; later = omega (arith, u.later, count); as_large = u.as_large ∙ as_large }
