-- A system in which nothing happens obeys all laws.
use Rattle.std.proofs.Common.{inl, ℕ, refl, arith}
use Rattle.std.proofs.lemmas.Bool.{false≢true}
use Rattle.nfs_base.specs.declared.seal.End.{End}
use Rattle.wire_model.specs.Told.{IsLawfulWire}
use Rattle.wire_model.specs.System.{wire_of}
use Rattle.wire_model.specs.CopyLaws.{CopiesLaws}
use Rattle.wire_model.specs.Lawful.{IsLawfulSystem, IsTruthful}
use Rattle.wire_model.specs.Examples.{spelling, opened}
use Rattle.wire_model.specs.IdleSystem.{no_meaning, no_caller, idle_system}
use Rattle.wire_model.proofs.SmallSource as source
use Rattle.wire_model.proofs.SmallSource.{none}
use Rattle.wire_model.proofs.SmallDest as dest

idle_wire : (owner : End) → IsLawfulWire spelling (wire_of idle_system owner)
idle_wire owner = record {
  server_start = record { no_context = λ number. refl; none_kept = λ session slot. refl };
  server = λ k. source.rests owner opened;
  caller_start = λ e out. record { no_context = λ c r. refl; no_mount = refl; none_awaited = λ place. refl };
  caller = λ e out k. dest.rests owner e no_caller (λ place xid seal c is. absurd (cc));
  unmistaken = λ k e. record { sealed = λ seal bytes accepted. absurd (cc); answers = λ seal reply accepted. absurd (cc) };
}

idle_copies : (k : ℕ) → CopiesLaws spelling no_meaning idle_system k
idle_copies k = record {
  made = omega arith;
  fresh = λ j new. record { entries = refl; stable = refl };
  unmade = λ j past. refl;
  plan = λ j there. refl;
  entries = λ j there. inl refl;
  lands = λ j off bytes is. absurd (cc);
  marks = λ j there. record { retired = λ up. up; lost = λ up. up; stable = λ up. up };
  stable = λ j up. absurd (false≢true up);
  crash = λ crash. absurd crash;
  apart = λ j l later new there. absurd (omega arith);
  reach = λ j there. omega arith;
  holds = λ worker chunk held. absurd (cc);
  ready = λ j ready. absurd (false≢true ready);
}

pub idle_is_lawful : IsLawfulSystem spelling no_meaning idle_system
idle_is_lawful = record {
  source_wire = idle_wire _;
  dest_wire = idle_wire _;
  source_files = 1;
  source_capacity = 64;
  source_start = refl;
  source = λ k simple. record { allowed = tt; goes_on = refl };
  tells = λ k ops results executed. absurd (cc);
  dest_files = 1;
  dest_capacity = 64;
  dest_start = refl;
  dest = λ k simple. record { allowed = tt; goes_on = refl };
  bare_start = refl;
  bare = λ k. refl;
  copies_start = record { none_made = refl; blank = λ j. record { entries = refl; stable = refl }; none_retired = λ j. refl; none_held = λ worker. refl };
  copies = idle_copies;
}

pub idle_is_truthful : IsTruthful spelling no_meaning idle_system
idle_is_truthful = record {
  opening = λ k. refl;
  silent = λ k bytes seal sends own. none _ sends;
  names = λ k. record {
    stays = λ j there. refl;
    one = λ j l before new there same. absurd (omega arith);
    tells = λ ops results executed. absurd (cc);
    reports = λ bytes seal name sends. absurd (none _ sends);
  };
  word_start = record {
    no_first = λ n. refl;
    no_name = λ n. refl;
    not_stable = λ n. refl;
    not_exact = λ n. refl;
    none_held = λ name. refl;
  };
  word = λ k. record {
    keeps = λ n. record { first = λ first is. is; name = λ name is. is; stable = λ said. said; exact = λ said. said };
    first = λ n first is. inl is;
    name = λ n name is. inl is;
    stable = λ n said. inl said;
    exact = λ n said. inl said;
    held = λ name holds. inl holds;
    copy_ready = λ n ready. absurd (false≢true ready);
    last_ready = λ n ready. absurd (false≢true ready);
  };
}
