-- Along a run the volume of the destination goes on lawfully, and so it is with what it tells of its copies.
use Rattle.std.proofs.Common.{◌≡◌, inl, inr, ℕ, zero, suc, ◌+◌, ◌<◌, ◌^◌, List, Option, sym, ap, subst}
use Rattle.dest_core.specs.Stepping.{DestState, DestStep, IsRecord, IsReply, IsWork, copier_in}
use Rattle.dest_laws.specs.Landings.Posted.{AreSpelled}
use Rattle.dest_laws.specs.Names.Holding.{IsToldRight}
use Rattle.dest_laws.specs.Names.Posts.{AreNotClients}
use Rattle.dest_laws.specs.View.Steps.{ShowsStep, table_in}
use Rattle.dest_steps.specs.Copier.{Codes}
use Rattle.job_book.specs.Book.{IsSound}
use Rattle.nfs_base.specs.declared.seal.End.{End}
use Rattle.nfs_base.specs.declared.seal.End.TheVariants.{Dest}
use Rattle.run_ends.specs.Ends.{Words}
use Rattle.run_promise.proofs.dest.DestServers.{IsServer, server_on}
use Rattle.run_promise.proofs.dest.Names.{IsNamed, StaysRight, Steps, named_by}
use Rattle.run_promise.proofs.dest.Numbers.{AreCounted, HasNumbers, numbers_on}
use Rattle.run_promise.proofs.dest.Records.{AreServed, codes_of}
use Rattle.run_promise.proofs.dest.Volumes.{AreDue, AreOrderly, GoOn, HasVolume, VolumeGoes, volume_goes}
use Rattle.run_promise.specs.Dest.Kinds.{Kind}
use Rattle.tell_laws.specs.Volumes.{volume_of}
use Rattle.wire_lines.specs.declared.letters.Speaker.{Speaker}
use Rattle.wire_meaning.specs.Meaning.{meaning}
use Rattle.wire_model.specs.CopyLaws.{VolumeLaws}
use Rattle.wire_model.specs.NameLaws.{NameLaws}
use Rattle.wire_model.specs.Spelling.{Spelling}
use Rattle.wire_model.specs.System.{System, dest_effect}
use Rattle.wire_model.specs.Told.{TakesSimple}
use Rattle.wire_model.specs.Wire.{Executed}
use Rattle.wire_spelling.specs.Spelling.{spelling}

-- ---- the number of an opening of the volume stays

pub record KeepOpening {M : Type 0} (words : Words M ℕ) : Type 0 where
  pub record_ : (mech : M) (conn : ℕ) (message : List ℕ) (now : ℕ) (d : DestState M) (before after : ℕ) (t : DestStep M)
      → IsRecord (codes_of words) (words.accepted mech) words.gives conn message now d before after t → (volume_of t.host).boot ≡ (volume_of d).boot
  pub work : (started : List ℕ → List ℕ → Option (List ℕ)) (codes : Codes) (place now : ℕ) (d : DestState M) (before after : ℕ) (t : DestStep M)
      → IsWork words.gives started codes place now d before after t → (volume_of t.host).boot ≡ (volume_of d).boot
  pub reply : (codes : Codes) (finish : List ℕ → List ℕ → Option (List ℕ)) (place : ℕ) (message : List ℕ) (now : ℕ) (d : DestState M) (t : DestStep M)
      → IsReply codes finish place message now d t → (volume_of t.host).boot ≡ (volume_of d).boot

opening_on : {M : Type 0} (words : Words M ℕ) → KeepOpening words → (d : DestState M) (t : DestStep M) (took : Option (List ℕ)) (speaker : Speaker) (executed : Option Executed)
    → Kind words d t took speaker executed → (volume_of t.host).boot ≡ (volume_of d).boot
opening_on words keep d t took speaker executed (inl r) = keep.record_ d.state.machine.extra.mech r.conn r.bytes r.now d r.draws r.left t r.is
opening_on words keep d t took speaker executed (inr (inl r)) =
    keep.work (words.started d.state.machine.extra.mech) (record { mic = words.mic; derived = words.derived }) r.place r.now d r.draws r.left t r.is
opening_on words keep d t took speaker executed (inr (inr (inl r))) =
    keep.reply (record { mic = words.mic; derived = words.derived }) (words.finished d.state.machine.extra.mech d.state.machine.extra.copier.principal) r.place r.bytes r.now d t r.is
opening_on {M} words keep d t took speaker executed (inr (inr (inr (inl r)))) = ap (λ (x : DestStep M). (volume_of x.host).boot) r.is
opening_on {M} words keep d t took speaker executed (inr (inr (inr (inr r)))) = ap (λ (x : DestState M). (volume_of x).boot) r.same

-- a destination at its moments: what it took in each step, who tells of it, and what it executed
module _ {M : Type 0} (words : Words M ℕ) (host : ℕ → DestState M) (step : ℕ → DestStep M) (took : ℕ → Option (List ℕ)) (speaker : ℕ → Speaker) (executed : ℕ → Option Executed)
    (goes_on : (k : ℕ) → (step k).host ≡ host (suc k)) (kinds : (k : ℕ) → Kind words (host k) (step k) (took k) (speaker k) (executed k)) (served : AreServed words)
    (begun : IsServer (host 0)) where
  pub server_then : (k : ℕ) → IsServer (host k) → IsServer (step k).host
  server_then k is = server_on words served (host k) (step k) (took k) (speaker k) (executed k) (kinds k) is

  pub server_at : (k : ℕ) → IsServer (host k)
  server_at zero = begun
  server_at (suc k) = subst (λ (d : DestState M). IsServer d) (goes_on k) (server_then k (server_at k))

  pub numbers_at : AreCounted words → HasNumbers (host 0) → (k : ℕ) → HasNumbers (host k)
  numbers_at counted none zero = none
  numbers_at counted none (suc k) =
      subst (λ (d : DestState M). HasNumbers d) (goes_on k)
      (numbers_on words counted (host k) (step k) (took k) (speaker k) (executed k) (kinds k) (server_at k).good (numbers_at counted none k))

-- and a system shows it
module _ {M : Type 0} (words : Words M ℕ) (accepts : List ℕ → Option (List ℕ)) (whose : List ℕ → Option End) (s : System) (host : ℕ → DestState M) (step : ℕ → DestStep M)
    (took : ℕ → Option (List ℕ)) (speaker : ℕ → Speaker) (executed : ℕ → Option Executed) (goes_on : (k : ℕ) → (step k).host ≡ host (suc k))
    (shows : (k : ℕ) → ShowsStep (spelling accepts whose) meaning s k (took k) (speaker k) (executed k) (host k) (step k))
    (kinds : (k : ℕ) → Kind words (host k) (step k) (took k) (speaker k) (executed k)) (served : AreServed words) (begun : IsServer (host 0)) where
  abbrev spell : Spelling
  spell = spelling accepts whose

  at_server : (k : ℕ) → IsServer (host k)
  at_server k = server_at words host step took speaker executed goes_on kinds served begun k

  then_server : (k : ℕ) → IsServer (step k).host
  then_server k = server_then words host step took speaker executed goes_on kinds served begun k (at_server k)

  module _ (orderly : AreOrderly words) (due : AreDue words accepts whose s) (go_on : GoOn words accepts whose s) (sound : (k : ℕ) → IsSound (table_in (host k)))
      (spelled : (k : ℕ) → AreSpelled (copier_in (host k)).work.mount) (has : HasVolume words (host 0)) where
    goes : (k : ℕ) → HasVolume words (host k) → VolumeGoes words (spelling accepts whose) s k (step k)
    goes k now =
        volume_goes words accepts whose s served orderly due go_on k (host k) (step k) (took k) (speaker k) (executed k) (shows k) (at_server k) now (kinds k)
        (sound k) (spelled k)

    has_at : (k : ℕ) → HasVolume words (host k)
    has_at zero = has
    has_at (suc k) = subst (λ (d : DestState M). HasVolume words d) (goes_on k) (goes k (has_at k)).then

    pub volume_at : (k : ℕ) → TakesSimple (spelling accepts whose) Dest (s.acts Dest k) → VolumeLaws (s.dest k) (s.dest (suc k)) (dest_effect s k)
    volume_at k simple = (goes k (has_at k)).laws simple

  boot_at : KeepOpening words → (volume_of (host 0)).boot < 2 ^ 32 → (k : ℕ) → (volume_of (host k)).boot < 2 ^ 32
  boot_at keep low zero = low
  boot_at keep low (suc k) =
      subst (λ (d : DestState M). (volume_of d).boot < 2 ^ 32) (goes_on k)
      (subst (λ (n : ℕ). n < 2 ^ 32) (sym (opening_on words keep (host k) (step k) (took k) (speaker k) (executed k) (kinds k))) (boot_at keep low k))

  module _ (keep : KeepOpening words) (low : (volume_of (host 0)).boot < 2 ^ 32) (opening : (k : ℕ) → (table_in (host k)).boot ≡ (volume_of (host k)).boot) (few : (k : ℕ) → (table_in (host k)).made + 1 < 2 ^ 32)
      (own : (k : ℕ) → AreNotClients (copier_in (host k)).work.mount.contexts) (right : IsToldRight s 0 (host 0))
      (stays : Steps words accepts whose s (StaysRight words accepts whose s)) where
    boots : (k : ℕ) → (table_in (host k)).boot < 2 ^ 32
    boots k = subst (λ (n : ℕ). n < 2 ^ 32) (sym (opening k)) (boot_at keep low k)

    boot_then : (k : ℕ) → (table_in (step k).host).boot < 2 ^ 32
    boot_then k = subst (λ (d : DestState M). (table_in d).boot < 2 ^ 32) (sym (goes_on k)) (boots (suc k))

    few_then : (k : ℕ) → (table_in (step k).host).made + 1 < 2 ^ 32
    few_then k = subst (λ (d : DestState M). (table_in d).made + 1 < 2 ^ 32) (sym (goes_on k)) (few (suc k))

    by_steps : (Goes : (k : ℕ) → DestState M → Type 0) → Steps words accepts whose s Goes → (k : ℕ) → IsToldRight s k (host k) → Goes k (step k).host
    by_steps Goes known k now =
        named_by words accepts whose s Goes known k (host k) (step k) (took k) (speaker k) (executed k) (shows k) (at_server k) (then_server k)
        (boots k) (boot_then k) (few k) (few_then k) (own k) now (kinds k)

    pub right_at : (k : ℕ) → IsToldRight s k (host k)
    right_at zero = right
    right_at (suc k) =
        subst (λ (d : DestState M). IsToldRight s (suc k) d) (goes_on k) (by_steps (StaysRight words accepts whose s) stays k (right_at k))

    pub named_at : Steps words accepts whose s (IsNamed words accepts whose s) → (k : ℕ) → NameLaws (spelling accepts whose) meaning s k
    named_at known k = by_steps (IsNamed words accepts whose s) known k (right_at k)
