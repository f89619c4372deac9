-- What each moment of an opening is to its destination.
use Rattle.std.proofs.Common.{◌≡◌, ◌∙◌, inl, inr, ℕ, suc, ◌-◌, Bool, true, false, List, slice_get, Option, Some, None, refl, sym, ap, subst}
use Rattle.dest_core.specs.Stepping.{DestState, DestStep}
use Rattle.nfs_base.specs.declared.seal.End.TheVariants.{Dest}
use Rattle.nfs_base.specs.declared.side.Side.TheVariants as sides
use Rattle.outbox.specs.declared.outgoing.Outbox.{Outbox}
use Rattle.run_ends.specs.Ends.{RunMachines, RunStep, RunWorld, Words, dest_goes, hears, is_worker, machines}
use Rattle.run_ends.specs.Handling.{IsHandled, dest_took}
use Rattle.run_promise.proofs.dest.Uncut.{acts_are, uncut_at}
use Rattle.run_promise.specs.Dest.Acts.{DestDid, IsSecond, speaker_of}
use Rattle.run_promise.specs.Dest.Kinds.{Kind}
use Rattle.run_promise.specs.Dest.Moments.{dest_part}
use Rattle.run_promise.specs.System.System.{telling, told_in}
use Rattle.server_laws.specs.Acts.{acts_of}
use Rattle.session_server.specs.Host.{Codes}
use Rattle.session_server.specs.declared.host.TheConstants.{MOST_STEPS}
use Rattle.wire_lines.specs.declared.letters.Speaker.{Speaker}
use Rattle.wire_lines.specs.declared.letters.Speaker.TheVariants as speakers
use Rattle.wire_machine.specs.Ends as acts
use Rattle.wire_machine.specs.Ends.{DestAct}
use Rattle.wire_machine.specs.History as history
use Rattle.wire_machine.specs.History.{At, at_moment, called_with, is_call, next, takes_call, told_by}
use Rattle.wire_machine.specs.Steps.{NeverStops}
use Rattle.wire_machine.specs.World.{Part, Parts}
use Rattle.wire_model.specs.Meaning.{Meaning}
use Rattle.wire_model.specs.Spelling.{Spelling}
use Rattle.wire_model.specs.Wire.{Acts, Executed}

-- ---- what is told

called : (part : Part) (f : List ℕ → Option Executed) (bytes : List ℕ) → part.took ≡ Some bytes → part.speaker ≡ speakers.Dest
    → told_by f (called_with (is_call part) part.took) ≡ f bytes
called part f bytes took speaker =
    ap (λ (o : Option (List ℕ)). told_by f (called_with (takes_call part.speaker o) o)) took
    ∙ ap (λ (x : Speaker). told_by f (called_with (takes_call x (Some bytes)) (Some bytes))) speaker

none_taken : (f : List ℕ → Option Executed) (call : Bool) (took : Option (List ℕ)) → took ≡ None → told_by f (called_with call took) ≡ None
none_taken f true took none = ap (told_by f) none
none_taken f false took none = refl

heard : (part : Part) (f : List ℕ → Option Executed) (bytes : List ℕ) → part.took ≡ Some bytes → part.speaker ≡ speakers.Worker
    → told_by f (called_with (is_call part) part.took) ≡ None
heard part f bytes took speaker =
    ap (λ (o : Option (List ℕ)). told_by f (called_with (takes_call part.speaker o) o)) took
    ∙ ap (λ (x : Speaker). told_by f (called_with (takes_call x (Some bytes)) (Some bytes))) speaker

module _ {M : Type 0} (words : Words M ℕ) (spell : Spelling) (meaning : Meaning) where
  abbrev m : RunMachines M
  m = machines words

  abbrev codes : Codes
  codes = record { mic = words.mic; derived = words.derived }

  abbrev Moment : Type 0
  Moment = At m (telling codes) spell meaning

  -- ---- an act

  module _ (d : DestState M) (t : DestStep M) (part : Part) (clock : ℕ) (out_is : t.out ≡ part.out) where
    abbrev executed : Option Executed
    executed = told_by (λ bytes. told_in codes bytes clock d t.host part.out) (called_with (is_call part) part.took)

    abbrev Here : Type 0
    Here = Kind words d t part.took part.speaker executed

    told_so : (bytes : List ℕ) (now : ℕ) → now ≡ clock → part.took ≡ Some bytes → part.speaker ≡ speakers.Dest → executed ≡ (acts_of codes bytes now d t).executed
    told_so bytes now second took speaker =
        called part (λ bytes. told_in codes bytes clock d t.host part.out) bytes took speaker
        ∙ (ap (λ (o : Outbox). told_in codes bytes clock d t.host o) (sym out_is) ∙ ap (λ (n : ℕ). (acts_of codes bytes n d t).executed) (sym second))

    none_here : part.took ≡ None → executed ≡ None
    none_here took = none_taken (λ bytes. told_in codes bytes clock d t.host part.out) (is_call part) part.took took

    hears_by : (there : Bool) (worker : ℕ) (bytes : List ℕ) (now : ℕ) → hears words there worker bytes now d t.host t.out → part.took ≡ Some bytes → part.speaker ≡ speakers.Worker
        → IsHandled d.steps MOST_STEPS (Some bytes) t.out → Here
    hears_by true worker bytes now goes took speaker handled =
        inr (inr (inl (record {
          place = worker - 1;
          bytes = bytes;
          now = now;
          is = goes;
          took_is = took;
          speaker_is = speaker;
          none = heard part (λ bytes. told_in codes bytes clock d t.host part.out) bytes took speaker;
          handled = handled;
        })))
    hears_by false worker bytes now goes took speaker handled =
        inr (inr (inr (inr (record {
          same = goes.0;
          used = ap (λ (o : Outbox). o.used) goes.1;
          sent = ap (λ (o : Outbox). o.sent) goes.1;
          none = heard part (λ bytes. told_in codes bytes clock d t.host part.out) bytes took speaker;
        }))))

    act_kind : (act : DestAct) (now draws left : ℕ) → IsSecond act clock now → dest_goes words act now d draws t.host left t.out
        → part.took ≡ dest_took act → part.speaker ≡ speaker_of act → Here
    act_kind (acts.DestTakes conn bytes) now draws left second goes took speaker =
        inl (record {
          conn = conn;
          bytes = bytes;
          now = now;
          draws = draws;
          left = left;
          is = goes.0;
          took_is = took;
          speaker_is = speaker;
          told = told_so bytes now second took speaker;
          handled = goes.1;
          short = goes.2;
        })
    act_kind (acts.Works worker) now draws left second goes took speaker =
        inr (inl (record {
          place = worker - 1;
          now = now;
          draws = draws;
          left = left;
          is = goes.0.1;
          took_is = took;
          speaker_is = speaker;
          none = none_here took;
          handled = goes.1;
        }))
    act_kind (acts.Hears worker bytes) now draws left second goes took speaker =
        hears_by (is_worker worker) worker bytes now goes.0.0 took speaker goes.1
    act_kind acts.DestTicks now draws left second goes took speaker =
        inr (inr (inr (inl (record { now = now; is = goes.0.0; took_is = took; none = none_here took; handled = goes.1 }))))

  -- ---- a moment

  did_kind : (before : RunWorld M) (parts : Parts) (after : RunWorld M) → DestDid words before parts after
      → Kind words before.dest (record { host = after.dest; out = parts.dest.out }) parts.dest.took parts.dest.speaker
      (told_by (λ bytes. told_in codes bytes before.clock before.dest after.dest parts.dest.out) (called_with (is_call parts.dest) parts.dest.took))
  did_kind before parts after (inl a) =
      act_kind before.dest (record { host = after.dest; out = parts.dest.out }) parts.dest before.clock refl a.act a.now a.draws a.left a.second a.goes a.took a.speaker
  did_kind before parts after (inr r) =
      inr (inr (inr (inr (record {
        same = r.same;
        used = ap (λ (p : Part). p.out.used) r.part;
        sent = ap (λ (p : Part). p.out.sent) r.part;
        none = none_here before.dest (record { host = after.dest; out = parts.dest.out }) parts.dest before.clock refl (ap (λ (p : Part). p.took) r.part);
      }))))

  module _ (first : RunWorld M) (steps : List (RunStep M)) (never : NeverStops sides.Dest first steps)
      (did : (k : ℕ) (s : RunStep M) → slice_get steps k ≡ Some s → DestDid words (at_moment m (telling codes) spell meaning first steps k).world s.parts s.after) where
    kind_by : (k : ℕ) (o : Option (RunStep M)) → slice_get steps k ≡ o
        → Kind words (at_moment m (telling codes) spell meaning first steps k).world.dest
        (record { host = (next m (telling codes) spell meaning (at_moment m (telling codes) spell meaning first steps k) o).world.dest; out = (dest_part o).out })
        (dest_part o).took (dest_part o).speaker (history.acts_of m (telling codes) spell meaning (at_moment m (telling codes) spell meaning first steps k).world o Dest).executed
    kind_by k None is = inr (inr (inr (inr (record { same = refl; used = refl; sent = refl; none = refl }))))
    kind_by k (Some s) is =
        let before = (at_moment m (telling codes) spell meaning first steps k).world in
        let uncut = uncut_at m (telling codes) spell meaning first steps k s never is in
        subst (λ (acts : Acts). Kind words before.dest (record { host = s.after.dest; out = s.parts.dest.out }) s.parts.dest.took s.parts.dest.speaker acts.executed)
        (sym (acts_are m (telling codes) spell meaning before s uncut)) (did_kind before s.parts s.after (did k s is))

    pub kind_at : (k : ℕ)
        → Kind words (at_moment m (telling codes) spell meaning first steps k).world.dest
        (record { host = (at_moment m (telling codes) spell meaning first steps (suc k)).world.dest; out = (dest_part (slice_get steps k)).out })
        (dest_part (slice_get steps k)).took (dest_part (slice_get steps k)).speaker (history.acts_at m (telling codes) spell meaning first steps Dest k).executed
    kind_at k = kind_by k (slice_get steps k) refl
