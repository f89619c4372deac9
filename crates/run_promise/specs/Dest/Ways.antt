-- The ways in which a destination goes on, moment by moment. Own definitions.
use Rattle.std.specs.Prelude.{◌≡◌, ℕ, suc, true, false, List, Option, Some}
use Rattle.caller_laws.specs.Good.{Identity}
use Rattle.caller_laws.specs.OneStep.Runs as runs
use Rattle.caller_laws.specs.OneStep.Runs.{IsRun, MountStep}
use Rattle.caller_laws.specs.View.{Above}
use Rattle.copy_model.specs.Effect as volumes
use Rattle.dest_core.specs.Stepping.{DestState, DestStep, IsRecord, IsReply, IsWork, copier_in, failure_step, tick_step}
use Rattle.dest_laws.specs.Landings.Posted.{AreSpelled}
use Rattle.dest_laws.specs.View.Steps.{part_by}
use Rattle.dest_steps.specs.Copier.{Codes}
use Rattle.gss_mech.specs.declared.mechanism.Accepted.{Accepted}
use Rattle.mount.specs.State.{Mounted}
use Rattle.mount.specs.Taking.{Means}
use Rattle.session_server.specs.Host as hosts
use Rattle.streams.specs.declared.draws.Drawn.{Drawn}
use Rattle.wire_lines.specs.declared.letters.Speaker.{Speaker}
use Rattle.wire_machine.specs.History.{is_call}
use Rattle.wire_model.specs.Copies.{Plain}
use Rattle.wire_model.specs.CopyLaws.{VolumeLaws}
use Rattle.wire_model.specs.System.{System, dest_effect}
use Rattle.wire_xdr.specs.Cursor.{IsBytes}

-- what it goes by: its codes and tokens, and what is drawn for it
pub record Words (W : Type 0) : Type 1 where
  pub codes : hosts.Codes
  pub accepted : List ℕ → List ℕ → Option Accepted
  pub started : List ℕ → List ℕ → Option (List ℕ)
  pub finished : List ℕ → List ℕ → Option (List ℕ)
  pub gives : W → Drawn → W → Type 0

abbrev pub words_by : {W : Type 0} → hosts.Codes → (List ℕ → List ℕ → Option Accepted) → (started finished : List ℕ → List ℕ → Option (List ℕ)) → (W → Drawn → W → Type 0) → Words W
words_by codes accepted started finished gives = record { codes = codes; accepted = accepted; started = started; finished = finished; gives = gives }

-- at each moment by the mechanism, and what its principal starts and finishes, that it has then
abbrev pub words_at : {M W : Type 0} → hosts.Codes → (M → List ℕ → List ℕ → Option Accepted) → (mech : ℕ → M) → (started finished : ℕ → List ℕ → List ℕ → Option (List ℕ))
    → (W → Drawn → W → Type 0) → ℕ → Words W
words_at codes accepted mech started finished gives k = words_by codes (accepted (mech k)) (started k) (finished k) gives

-- a record on a connection, a worker's turn, a record of the source, a link that failed, a second that comes by itself, or nothing
pub data Way : Type 0 where
  Hears : (conn : ℕ) (message : List ℕ) (now : ℕ) → Way
  Works : (place now : ℕ) → Way
  Takes : (place : ℕ) (message : List ℕ) (now : ℕ) → Way
  Fails : (place : ℕ) → Way
  Ticks : (now : ℕ) → Way
  Rests : Way

module _ {M W : Type 0} (words : Words W) (s : System) (k : ℕ) (took : Option (List ℕ)) (speaker : Speaker)
    (d : DestState M) (t : DestStep M) where
  abbrev pub steps_codes : Codes
  steps_codes = record { mic = words.codes.mic; derived = words.codes.derived }

  pub record HearsSo (conn : ℕ) (message : List ℕ) (now : ℕ) : Type 0 where
    pub before : W
    pub after : W
    pub is : IsRecord words.codes words.accepted words.gives conn message now d before after t
    pub call : is_call (part_by took speaker t) ≡ true

  pub record WorksSo (place now : ℕ) : Type 0 where
    pub before : W
    pub after : W
    pub is : IsWork words.gives words.started steps_codes place now d before after t
    pub worker : is_call (part_by took speaker t) ≡ false

  pub record TakesSo (place : ℕ) (message : List ℕ) (now : ℕ) : Type 0 where
    pub is : IsReply steps_codes words.finished place message now d t
    pub took_it : took ≡ Some message
    pub worker : is_call (part_by took speaker t) ≡ false
    pub all : IsBytes message
    pub spelled : AreSpelled (copier_in d).work.mount

  pub record RestsSo : Type 0 where
    pub same : t.host ≡ d
    pub jobs : (j : ℕ) → s.job (suc k) j ≡ s.job k j
    pub deed : s.deed k ≡ Plain volumes.Rests

  -- it goes on in this way
  abbrev pub GoesBy : Way → Type 0
  GoesBy (Hears conn message now) = HearsSo conn message now
  GoesBy (Works place now) = WorksSo place now
  GoesBy (Takes place message now) = TakesSo place message now
  GoesBy (Fails place) = t ≡ failure_step steps_codes place d
  GoesBy (Ticks now) = t ≡ tick_step steps_codes now d
  GoesBy Rests = RestsSo

-- what the moment owes for the volume, but where a record comes on a connection
abbrev pub VolumeOwes : Way → System → ℕ → Type 0
VolumeOwes (Hears conn message now) s k = Unit {0}
VolumeOwes way s k = VolumeLaws (s.dest k) (s.dest (suc k)) (dest_effect s k)

-- from a mount to another by moves whose calls can be spelled
pub record GoesSpelled (m n : Mounted) : Type 0 where
  pub who : Identity
  pub means : Means
  pub moves : List MountStep
  pub before : Above
  pub after : Above
  pub run : IsRun who means moves before m after n
  pub spelled : runs.AreSpelled means moves m
