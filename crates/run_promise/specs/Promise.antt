-- What is promised of a run of the three machines. Own definitions.
use Rattle.std.specs.Prelude.{◌≡◌, ◌≤◌, ◌++◌, ◌∷◌, ℕ, suc, true, false, List, Option, None, Some, bytes_eq, count_by, if◌then◌else◌, replicate}
use Rattle.std.specs.List.{list_any}
use Rattle.caller_laws.specs.Tokens.{principal_in}
use Rattle.client_laws.specs.Telling.{tells_stable}
use Rattle.client_laws.specs.WholeTurns.{Purposes}
use Rattle.copy_model.specs.Moment.{History}
use Rattle.copy_model.specs.Promise.{IsKept, IsStopped}
use Rattle.nfs_base.specs.declared.seal.End.{End}
use Rattle.nfs_base.specs.declared.seal.End.TheVariants.{Client, Dest}
use Rattle.outbox.specs.declared.note.Note.{Note}
use Rattle.outbox.specs.declared.note.Note.TheVariants as notes
use Rattle.run_ends.specs.Ends.{RunStep, RunWorld, Words, machines}
use Rattle.run_ends.specs.Setting.{dest_name, user}
use Rattle.run_promise.specs.Client.Lines.{told_in_lines}
use Rattle.run_promise.specs.Client.Told.{notes_along, notes_at, tells_exact}
use Rattle.run_promise.specs.Client.View.{client_view}
use Rattle.run_promise.specs.System.System.{system_of, telling}
use Rattle.session_server.specs.Host.{Codes}
use Rattle.wire_machine.specs.History.{history}
use Rattle.wire_machine.specs.Lines.{lines_of}
use Rattle.wire_meaning.specs.Meaning.{meaning}
use Rattle.wire_model.specs.Spelling.{Spelling}
use Rattle.wire_model.specs.System.{System}
use Rattle.wire_model.specs.WordKept.{IsWordKept}
use Rattle.wire_spelling.specs.Spelling.{spelling}

-- the end that a principal is
abbrev pub whose : List ℕ → Option End
whose name = if bytes_eq name user then Some Client else (if bytes_eq name dest_name then Some Dest else None)

-- a nonce of an acceptor; whose a token is doesn't depend on it
abbrev pub any_nonce : List ℕ
any_nonce = replicate 32 0

module _ {M : Type 0} (words : Words M ℕ) (mech : M) where
  abbrev pub codes_of : Codes
  codes_of = record { mic = words.mic; derived = words.derived }

  -- how records are read: a token is its principal's
  abbrev pub run_spelling : Spelling
  run_spelling = spelling (principal_in (words.accepted mech) any_nonce) whose

  module _ (first : RunWorld M) (steps : List (RunStep M)) where
    -- what the run shows of its copies, computed from what its steps did
    abbrev pub run_shows : History
    run_shows = history (machines words) (telling codes_of) run_spelling meaning first steps

    -- and all that is seen of its machines, where the client's calls are for these purposes
    abbrev pub seen_by : (ℕ → Purposes) → System
    seen_by purposes = system_of (machines words) codes_of run_spelling meaning client_view first steps purposes

    -- what its lines say that the client tells
    abbrev pub lines_tell : List Note
    lines_tell = told_in_lines (lines_of (machines words) first steps)

    -- The lines say `stable` at most once of each copy, and not behind `cancelled`. Where the client tells it in a step, or that a
    -- copy is exact, it is so by the client's word behind that step.
    pub record TellsItsWord (purposes : ℕ → Purposes) : Type 0 where
      pub once : (n : ℕ) → count_by (tells_stable n) lines_tell ≤ 1
      pub none_behind : (n : ℕ) (before after : List Note) → lines_tell ≡ before ++ notes.Cancelled n ∷ after → list_any (tells_stable n) after ≡ false
      pub says_all : lines_tell ≡ notes_along steps
      pub stable : (k n : ℕ) → list_any (tells_stable n) (notes_at steps k) ≡ true → ((seen_by purposes).word (suc k) n).stable ≡ true
      pub exact : (k n : ℕ) → list_any (tells_exact n) (notes_at steps k) ≡ true → ((seen_by purposes).word (suc k) n).exact ≡ true

    -- Its copies are kept and stopped, the client keeps its word, and tells no more than that.
    pub record KeepsPromise : Type 0 where
      pub kept : IsKept run_shows
      pub stopped : IsStopped run_shows
      pub purposes : ℕ → Purposes
      pub word : IsWordKept meaning (seen_by purposes)
      pub tells : TellsItsWord purposes
