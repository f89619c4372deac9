-- In each moment of a run its destination goes on in one of its ways.
use Rattle.std.proofs.Common.{◌≡◌, ◌⊎◌, ◌∙◌, inl, inr, ℕ, ◌-◌, Bool, true, false, List, [], Option, Some, None, refl, ap}
use Rattle.dest_core.specs.Stepping.{DestState, DestStep, copier_in}
use Rattle.dest_laws.specs.Landings.Posted.{AreSpelled}
use Rattle.dest_laws.specs.View.Steps.{ShowsStep}
use Rattle.outbox.specs.declared.outgoing.Outbox.{Outbox}
use Rattle.run_ends.specs.Ends.{RunMachines, RunStep, RunWorld, Words, dest_goes, hears, is_worker, machines}
use Rattle.run_ends.specs.Handling.{dest_took}
use Rattle.run_promise.proofs.dest.Resting.{deed, jobs_stay}
use Rattle.run_promise.specs.Dest.Acts.{DestDid, speaker_of}
use Rattle.run_promise.specs.Dest.Goes.{GoesOn}
use Rattle.run_promise.specs.Dest.Moments.{dest_part}
use Rattle.run_promise.specs.Dest.Ways as ways
use Rattle.run_promise.specs.System.System.{telling}
use Rattle.session_server.specs.Host as hosts
use Rattle.wire_lines.specs.declared.letters.Speaker.{Speaker}
use Rattle.wire_lines.specs.declared.letters.Speaker.TheVariants as speakers
use Rattle.wire_machine.specs.Ends as acts
use Rattle.wire_machine.specs.Ends.{DestAct}
use Rattle.wire_machine.specs.History.{At, next, takes_call}
use Rattle.wire_machine.specs.World.{Part, Parts}
use Rattle.wire_model.specs.Meaning.{Meaning}
use Rattle.wire_model.specs.Spelling.{Spelling}
use Rattle.wire_model.specs.System.{System}
use Rattle.wire_model.specs.Wire.{Executed}
use Rattle.wire_xdr.specs.Cursor.{IsBytes}

module _ {M : Type 0} (words : Words M ℕ) (spell : Spelling) (meaning : Meaning) (s : System) (k : ℕ) where
  -- ---- an act

  module _ (took : Option (List ℕ)) (speaker : Speaker) (executed : Option Executed) (d : DestState M) (t : DestStep M)
      (shows : ShowsStep spell meaning s k took speaker executed d t) (quiet : (took ≡ None) ⊎ (speaker ≡ speakers.Worker) → executed ≡ None)
      (spelled : AreSpelled (copier_in d).work.mount) where
    abbrev On : Type 0
    On = GoesOn words s k took speaker d t

    rests : t.host ≡ d → t.out.sent ≡ [] → t.out.used ≡ [] → executed ≡ None → On
    rests same sent used none = (
      ways.Rests,
      record {
        same = same;
        jobs = jobs_stay spell meaning s k took speaker executed d t shows used same sent none;
        deed = deed spell meaning s k took speaker executed d t shows used;
      },
    )

    call_by : (bytes : Option (List ℕ)) (who : Speaker) → took ≡ bytes → speaker ≡ who → takes_call speaker took ≡ takes_call who bytes
    call_by bytes who took_is speaker_is =
        ap (λ (o : Option (List ℕ)). takes_call speaker o) took_is ∙ ap (λ (x : Speaker). takes_call x bytes) speaker_is

    hears_so : (there : Bool) (worker : ℕ) (bytes : List ℕ) (now : ℕ) → hears words there worker bytes now d t.host t.out → took ≡ Some bytes
        → speaker ≡ speakers.Worker → IsBytes bytes → On
    hears_so true worker bytes now goes took_is speaker_is all = (
      ways.Takes (worker - 1) bytes now,
      record {
        is = goes;
        took_it = took_is;
        worker = call_by (Some bytes) speakers.Worker took_is speaker_is;
        all = all;
        spelled = spelled;
      },
    )
    hears_so false worker bytes now goes took_is speaker_is all =
        rests goes.0 (ap (λ (o : Outbox). o.sent) goes.1) (ap (λ (o : Outbox). o.used) goes.1) (quiet (inr speaker_is))

    act_way : (act : DestAct) (now draws left : ℕ) → dest_goes words act now d draws t.host left t.out → took ≡ dest_took act → speaker ≡ speaker_of act → On
    act_way (acts.DestTakes conn bytes) now draws left goes took_is speaker_is =
        (ways.Hears conn bytes now, record { before = draws; after = left; is = goes.0; call = call_by (Some bytes) speakers.Dest took_is speaker_is })
    act_way (acts.Works worker) now draws left goes took_is speaker_is =
        (ways.Works (worker - 1) now, record { before = draws; after = left; is = goes.0.1; worker = call_by None speakers.Dest took_is speaker_is })
    act_way (acts.Hears worker bytes) now draws left goes took_is speaker_is =
        hears_so (is_worker worker) worker bytes now goes.0.0 took_is speaker_is goes.1.taken
    act_way acts.DestTicks now draws left goes took_is speaker_is = (ways.Ticks now, goes.0.0)

  -- ---- a moment

  abbrev m : RunMachines M
  m = machines words

  abbrev codes : hosts.Codes
  codes = record { mic = words.mic; derived = words.derived }

  module _ (executed : Option Executed) (before : RunWorld M) (parts : Parts) (after : RunWorld M)
      (shows : ShowsStep spell meaning s k parts.dest.took parts.dest.speaker executed before.dest (record { host = after.dest; out = parts.dest.out }))
      (quiet : (parts.dest.took ≡ None) ⊎ (parts.dest.speaker ≡ speakers.Worker) → executed ≡ None) (spelled : AreSpelled (copier_in before.dest).work.mount) where
    did_way : DestDid words before parts after → GoesOn words s k parts.dest.took parts.dest.speaker before.dest (record { host = after.dest; out = parts.dest.out })
    did_way (inl a) =
        act_way parts.dest.took parts.dest.speaker executed before.dest (record { host = after.dest; out = parts.dest.out }) shows quiet spelled
        a.act a.now a.draws a.left a.goes a.took a.speaker
    did_way (inr r) =
        rests parts.dest.took parts.dest.speaker executed before.dest (record { host = after.dest; out = parts.dest.out }) shows quiet spelled r.same
        (ap (λ (p : Part). p.out.sent) r.part) (ap (λ (p : Part). p.out.used) r.part) (quiet (inl (ap (λ (p : Part). p.took) r.part)))

  pub goes_on : (at : At m (telling codes) spell meaning) (o : Option (RunStep M)) (executed : Option Executed)
      → ShowsStep spell meaning s k (dest_part o).took (dest_part o).speaker executed at.world.dest
      (record { host = (next m (telling codes) spell meaning at o).world.dest; out = (dest_part o).out })
      → (((dest_part o).took ≡ None) ⊎ ((dest_part o).speaker ≡ speakers.Worker) → executed ≡ None) → AreSpelled (copier_in at.world.dest).work.mount
      → ((x : RunStep M) → o ≡ Some x → DestDid words at.world x.parts x.after)
      → GoesOn words s k (dest_part o).took (dest_part o).speaker at.world.dest
      (record { host = (next m (telling codes) spell meaning at o).world.dest; out = (dest_part o).out })
  goes_on at None executed shows quiet spelled did =
      rests None speakers.Dest executed at.world.dest (record { host = at.world.dest; out = (dest_part {M = M} None).out }) shows quiet spelled refl refl refl (quiet (inl refl))
  goes_on at (Some x) executed shows quiet spelled did = did_way executed at.world x.parts x.after shows quiet spelled (did x refl)
