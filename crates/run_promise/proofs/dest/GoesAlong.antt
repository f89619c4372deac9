-- So at all moments of a run that a system shows.
use Rattle.std.proofs.Common.{ℕ, List, Option, sym, subst}
use Rattle.run_ends.specs.Ends.{RunMachines, RunStep, RunWorld, Words, machines}
use Rattle.run_promise.specs.Dest.Goes.{GoesOn, words_in}
use Rattle.run_promise.specs.Dest.Moments.{ShowsAs, host_at, part_at, step_at}
use Rattle.run_promise.specs.Dest.Ways.{GoesBy}
use Rattle.session_server.specs.Host as hosts
use Rattle.wire_lines.specs.declared.letters.Speaker.{Speaker}
use Rattle.wire_model.specs.Meaning.{Meaning}
use Rattle.wire_model.specs.Spelling.{Spelling}
use Rattle.wire_model.specs.System.{System}

module _ {M : Type 0} (words : Words M ℕ) (spell : Spelling) (meaning : Meaning) (first : RunWorld M) (steps : List (RunStep M)) where
  abbrev m : RunMachines M
  m = machines words

  abbrev codes : hosts.Codes
  codes = record { mic = words.mic; derived = words.derived }

  module _ (s : System) (shown : ShowsAs m codes spell meaning first steps s)
      (on : (k : ℕ) → GoesOn words s k (part_at m codes spell meaning first steps k).took (part_at m codes spell meaning first steps k).speaker
      (host_at m codes spell meaning first steps k) (step_at m codes spell meaning first steps k)) where
    pub goes_at : (k : ℕ) → GoesBy (words_in words (host_at m codes spell meaning first steps k)) s k (shown.run.took k) (shown.run.speaker k)
        (host_at m codes spell meaning first steps k) (step_at m codes spell meaning first steps k) (on k).0
    goes_at k =
        subst
        (λ (o : Option (List ℕ)). GoesBy (words_in words (host_at m codes spell meaning first steps k)) s k o (shown.run.speaker k)
        (host_at m codes spell meaning first steps k) (step_at m codes spell meaning first steps k) (on k).0)
        (sym (shown.took k))
        (subst
        (λ (x : Speaker). GoesBy (words_in words (host_at m codes spell meaning first steps k)) s k (part_at m codes spell meaning first steps k).took x
        (host_at m codes spell meaning first steps k) (step_at m codes spell meaning first steps k) (on k).0)
        (sym (shown.speaker k)) (on k).1)
