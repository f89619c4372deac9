-- A source calls nobody: as a caller of the destination it obeys the laws, since all that it sends are replies.
use Rattle.std.proofs.Common.{◌≡◌, ℕ, suc, ◌≤◌, Bool, true, false, List, Some, refl, sym, ◌∙◌, arith}
use Rattle.client_laws.specs.WholeTurns.{Purposes}
use Rattle.nfs_base.specs.declared.seal.End.TheVariants.{Dest, Source}
use Rattle.nfs_base.specs.declared.seal.Seal.{Seal}
use Rattle.run_ends.specs.Ends.{RunStep, RunWorld, Words, machines}
use Rattle.run_promise.specs.Serving.Lawful.{IsLawfulSource, IsSilentCaller, SendsReplies}
use Rattle.run_promise.specs.System.System.{ClientView, no_caller, system_of}
use Rattle.session_server.specs.Host.{Codes}
use Rattle.wire_model.specs.CallerLaws.{CallerLaws, CallerStart}
use Rattle.wire_model.specs.Meaning.{Meaning}
use Rattle.wire_model.specs.Spelling.{Spelling}
use Rattle.wire_model.specs.Wire.{Acts, Sends}

both_false : (b : Bool) → b ≡ true → b ≡ false → ⊥
both_false b is other = absurd (let both : true ≡ false = sym is ∙ other in cc)

never_dest : (seal : Seal) → seal.owner ≡ Source → seal.owner ≡ Dest → ⊥
never_dest seal source dest = let both : Source ≡ Dest = sym source ∙ dest in absurd cc

-- ---- an end that calls nobody

calls_nobody : (spell : Spelling) (before now : ℕ) (a : Acts) → before ≤ now → ((bytes : List ℕ) (seal : Seal) → Sends a bytes (Some seal) → seal.owner ≡ Source)
    → SendsReplies spell a → CallerLaws spell Dest Source (no_caller before) (no_caller now) a
calls_nobody spell before now a le own replies = record {
  boot = le;
  calls = λ same. omega arith;
  fresh = λ bytes seal sends is_call. absurd (both_false (spell.is_reply bytes) (replies bytes seal sends) is_call);
  one = λ bytes other seal also sends more is_call is_other same. absurd (both_false (spell.is_reply bytes) (replies bytes seal sends) is_call);
  directed = λ bytes call seal sends dest is_reply took. absurd (never_dest seal (own bytes seal sends) dest);
  simple = λ bytes seal name sends dest named. absurd (never_dest seal (own bytes seal sends) dest);
  has = λ context root there. absurd cc;
  begin = λ root learns place xid awaits. absurd cc;
  mount = λ root mounted. absurd cc;
  awaits = λ place x awaited. absurd cc;
  goes_on = λ place xid seal call awaited. absurd cc;
  sends = λ bytes seal name sends dest named. absurd (never_dest seal (own bytes seal sends) dest);
  in_slot = λ place xid seal call awaited. absurd cc;
}

starts_alone : (boot : ℕ) → CallerStart (no_caller boot)
starts_alone boot = record { no_context = λ context root. refl; no_mount = refl; none_awaited = λ place. refl }

module _ {M : Type 0} (words : Words M ℕ) (codes : Codes) (spell : Spelling) (meaning : Meaning) (seen : ClientView M) (first : RunWorld M) (steps : List (RunStep M))
    (purposes : ℕ → Purposes) where
  pub silent_caller : IsLawfulSource spell meaning (system_of (machines words) codes spell meaning seen first steps purposes)
      → IsSilentCaller spell (system_of (machines words) codes spell meaning seen first steps purposes)
  unfolding system_of
  silent_caller lawful = record {
    start = starts_alone _;
    laws = λ k. calls_nobody spell _ _ _ (omega (arith, lawful.opening k, lawful.opening (suc k), (lawful.server k).boot)) (lawful.seals k) (lawful.replies k);
  }
