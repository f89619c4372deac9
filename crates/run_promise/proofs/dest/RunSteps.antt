-- In each step the destination is seen as it should be.
use Rattle.std.proofs.Common.{◌≡◌, ◌∙◌, inl, inr, ℕ, ◌-◌, ◌<◌, ◌≤◌, Bool, true, false, List, [], Option, Some, None, refl, sym, ap, subst, arith}
use Rattle.std.proofs.lemmas.Bool.{and_parts, leb-true}
use Rattle.std.specs.Prelude.{nat_le}
use Rattle.caller_laws.specs.Good.{Identity}
use Rattle.dest_core.specs.Stepping.{DestState, DestStep, IsRecord, IsReply, IsWork, copier_in, tick_step}
use Rattle.dest_laws.specs.Calls.Fits.{WorkIsFit}
use Rattle.dest_laws.specs.Calls.Settled.{IsSettledAs}
use Rattle.dest_laws.specs.Calls.Steps.{IsSeenPlain, IsSeenWhere, StartsOwn}
use Rattle.dest_laws.specs.Deeds.{ByDeeds}
use Rattle.dest_laws.specs.Own.Going.{jobs_in}
use Rattle.dest_laws.specs.View.Steps.{part_by}
use Rattle.dest_steps.specs.Copier.{Codes}
use Rattle.dest_tasks.specs.declared.workers.TheConstants.{WORKERS}
use Rattle.nfs_base.specs.declared.seal.End.TheVariants.{Dest}
use Rattle.outbox.specs.Outboxes.{no_outbox}
use Rattle.outbox.specs.declared.outgoing.Outbox.{Outbox}
use Rattle.run_ends.specs.Ends.{RunWorld, Words, dest_goes, hears, is_worker}
use Rattle.run_ends.specs.Handling.{dest_took}
use Rattle.run_ends.specs.Setting.{dest_name}
use Rattle.run_promise.specs.Dest.Acts.{DestDid}
use Rattle.run_promise.specs.Dest.Kept.{Fits, GoesSeen, IsKept, means_of}
use Rattle.wire_lines.specs.declared.letters.Speaker.{Speaker}
use Rattle.wire_lines.specs.declared.letters.Speaker.TheVariants as speakers
use Rattle.wire_machine.specs.Ends as acts
use Rattle.wire_machine.specs.Ends.{DestAct}
use Rattle.wire_machine.specs.History.{part_acts}
use Rattle.wire_machine.specs.World.{Part, Parts}
use Rattle.wire_model.specs.Wire.{Acts, Executed}
use Rattle.wire_xdr.specs.Cursor.{IsBytes}

abbrev dest_part : Speaker → Option (List ℕ) → Outbox → Part
dest_part speaker took out = record { took = took; speaker = speaker; out = out }

-- the laws of a destination's steps
pub record AreKnown {M : Type 0} (words : Words M ℕ) (who : Identity) (mech : M) : Type 0 where
  pub work : (started : List ℕ → List ℕ → Option (List ℕ)) (place now : ℕ) (s : DestState M) (before after : ℕ) (t : DestStep M) (speaker : Speaker) (executed : Option Executed)
      → IsSettledAs who (copier_in s) → place < WORKERS → StartsOwn who (started (copier_in s).principal) words.gives
      → IsWork words.gives started (record { mic = words.mic; derived = words.derived }) place now s before after t
      → IsSeenWhere (WorkIsFit words.mic words.gives started (copier_in s)) who (means_of words mech) s t.host (part_acts (part_by None speaker t) executed)
  pub reply : (place now : ℕ) (message : List ℕ) (s : DestState M) (t : DestStep M) (speaker : Speaker) (executed : Option Executed)
      → IsSettledAs who (copier_in s) → IsBytes message → IsReply (record { mic = words.mic; derived = words.derived }) (words.finished mech dest_name) place message now s t
      → IsSeenPlain who (means_of words mech) s t.host (part_acts (part_by (Some message) speaker t) executed)
  pub tick : (now : ℕ) (s : DestState M) (speaker : Speaker) (executed : Option Executed) → IsSettledAs who (copier_in s)
      → IsSeenPlain who (means_of words mech) s (tick_step (record { mic = words.mic; derived = words.derived }) now s).host
      (part_acts (part_by None speaker (tick_step (record { mic = words.mic; derived = words.derived }) now s)) executed)
  pub record_ : (conn : ℕ) (message : List ℕ) (now : ℕ) (s : DestState M) (before after : ℕ) (t : DestStep M) (speaker : Speaker) (executed : Option Executed)
      → IsSettledAs who (copier_in s) → s.contexts.owner ≡ Dest → IsBytes message
      → IsRecord (record { mic = words.mic; derived = words.derived }) (words.accepted mech) words.gives conn message now s before after t
      → IsSeenPlain who (means_of words mech) s t.host (part_acts (part_by (Some message) speaker t) executed)
  pub rest : (s : DestState M) (shown : Acts) → IsSettledAs who (copier_in s) → shown.accepted ≡ None → shown.out ≡ [] → IsSeenPlain who (means_of words mech) s s shown
  pub record_deeds : (conn : ℕ) (message : List ℕ) (now : ℕ) (s : DestState M) (before after : ℕ) (t : DestStep M)
      → IsRecord (record { mic = words.mic; derived = words.derived }) (words.accepted mech) words.gives conn message now s before after t → ByDeeds (jobs_in s) (jobs_in t.host)
  pub work_deeds : (started : List ℕ → List ℕ → Option (List ℕ)) (codes : Codes) (place now : ℕ) (s : DestState M) (before after : ℕ) (t : DestStep M)
      → IsWork words.gives started codes place now s before after t → ByDeeds (jobs_in s) (jobs_in t.host)
  pub reply_deeds : (codes : Codes) (finish : List ℕ → List ℕ → Option (List ℕ)) (place : ℕ) (message : List ℕ) (now : ℕ) (s : DestState M) (t : DestStep M)
      → IsReply codes finish place message now s t → ByDeeds (jobs_in s) (jobs_in t.host)
  pub tick_deeds : (codes : Codes) (now : ℕ) (s : DestState M) → ByDeeds (jobs_in s) (jobs_in (tick_step codes now s).host)
  pub none_deeds : (s : DestState M) → ByDeeds (jobs_in s) (jobs_in s)
  pub record_kept : (conn : ℕ) (message : List ℕ) (now : ℕ) (s : DestState M) (before after : ℕ) (t : DestStep M)
      → IsRecord (record { mic = words.mic; derived = words.derived }) (words.accepted mech) words.gives conn message now s before after t → IsKept mech s → IsKept mech t.host
  pub work_kept : (started : List ℕ → List ℕ → Option (List ℕ)) (codes : Codes) (place now : ℕ) (s : DestState M) (before after : ℕ) (t : DestStep M)
      → IsWork words.gives started codes place now s before after t → IsKept mech s → IsKept mech t.host
  pub reply_kept : (codes : Codes) (finish : List ℕ → List ℕ → Option (List ℕ)) (place : ℕ) (message : List ℕ) (now : ℕ) (s : DestState M) (t : DestStep M)
      → IsReply codes finish place message now s t → IsKept mech s → IsKept mech t.host
  pub tick_kept : (codes : Codes) (now : ℕ) (s : DestState M) → IsKept mech s → IsKept mech (tick_step codes now s).host

module _ {M : Type 0} (words : Words M ℕ) (who : Identity) (mech : M) (known : AreKnown words who mech) (own : StartsOwn who (words.started mech dest_name) words.gives) where
  abbrev Goes : DestState M → DestState M → Acts → Type 0
  Goes s t shown = GoesSeen (Fits words mech s) who (means_of words mech) mech s t shown

  -- where nothing is asked that wasn't before
  plain : (s t : DestState M) (shown : Acts) → IsSeenPlain who (means_of words mech) s t shown → IsSeenWhere (Fits words mech s) who (means_of words mech) s t shown
  plain s t shown it = record { seen = it.seen; sends = λ fit. it.sends }

  within : (worker : ℕ) → is_worker worker ≡ true → worker - 1 < WORKERS
  within worker is =
      let parts = and_parts (nat_le 1 worker) (nat_le worker WORKERS) is in
      let low : 1 ≤ worker = leb-true 1 worker parts.0 in
      let high : worker ≤ WORKERS = leb-true worker WORKERS parts.1 in
      omega arith

  heard : (there : Bool) (worker : ℕ) (bytes : List ℕ) (now : ℕ) (s t : DestState M) (out : Outbox) (speaker : Speaker) (executed : Option Executed) → IsBytes bytes
      → hears words there worker bytes now s t out → IsKept mech s → IsSettledAs who (copier_in s)
      → Goes s t (part_acts (dest_part speaker (Some bytes) out) executed)
  heard true worker bytes now s t out speaker executed comes is kept settled =
      let u : DestStep M = record { host = t; out = out } in
      let so =
      subst (λ (f : List ℕ → List ℕ → Option (List ℕ)). IsReply (record { mic = words.mic; derived = words.derived }) f (worker - 1) bytes now s u)
      (ap (λ (x : M). words.finished x (copier_in s).principal) kept.mech_is ∙ ap (words.finished mech) kept.principal) is in
      record {
        seen = plain s t _ (known.reply (worker - 1) now bytes s u speaker executed settled comes so);
        kept = known.reply_kept (record { mic = words.mic; derived = words.derived }) (words.finished mech dest_name) (worker - 1) bytes now s u so kept;
        deeds = known.reply_deeds (record { mic = words.mic; derived = words.derived }) (words.finished mech dest_name) (worker - 1) bytes now s u so;
      }
  heard false worker bytes now s t out speaker executed comes is kept settled =
      subst (λ (x : DestState M). Goes s x (part_acts (dest_part speaker (Some bytes) out) executed)) (sym is.0)
      (record {
        seen = plain s s _ (known.rest s (part_acts (dest_part speaker (Some bytes) out) executed) settled (ap (λ (o : Outbox). o.accepted) is.1)
            (ap (λ (o : Outbox). (part_acts (dest_part speaker (Some bytes) o) executed).out) is.1));
        kept = kept;
        deeds = known.none_deeds s;
      })

  acted : (act : DestAct) (now : ℕ) (s t : DestState M) (before after : ℕ) (out : Outbox) (speaker : Speaker) (executed : Option Executed)
      → dest_goes words act now s before t after out → IsKept mech s → IsSettledAs who (copier_in s) → Goes s t (part_acts (dest_part speaker (dest_took act) out) executed)
  acted (acts.DestTakes conn bytes) now s t before after out speaker executed goes kept settled =
      let u : DestStep M = record { host = t; out = out } in
      let so =
      subst (λ (x : M). IsRecord (record { mic = words.mic; derived = words.derived }) (words.accepted x) words.gives conn bytes now s before after u) kept.mech_is goes.0 in
      record {
        seen = plain s t _ (known.record_ conn bytes now s before after u speaker executed settled kept.owner goes.1.taken so);
        kept = known.record_kept conn bytes now s before after u so kept;
        deeds = known.record_deeds conn bytes now s before after u so;
      }
  acted (acts.Works worker) now s t before after out speaker executed goes kept settled =
      let u : DestStep M = record { host = t; out = out } in
      let so =
      subst (λ (x : M). IsWork words.gives (words.started x) (record { mic = words.mic; derived = words.derived }) (worker - 1) now s before after u) kept.mech_is goes.0.1 in
      record {
        seen =
            known.work (words.started mech) (worker - 1) now s before after u speaker executed settled (within worker goes.0.0)
            (subst (λ (p : List ℕ). StartsOwn who (words.started mech p) words.gives) (sym kept.principal) own) so;
        kept = known.work_kept (words.started mech) (record { mic = words.mic; derived = words.derived }) (worker - 1) now s before after u so kept;
        deeds = known.work_deeds (words.started mech) (record { mic = words.mic; derived = words.derived }) (worker - 1) now s before after u so;
      }
  acted (acts.Hears worker bytes) now s t before after out speaker executed goes kept settled =
      heard (is_worker worker) worker bytes now s t out speaker executed goes.1.taken goes.0.0 kept settled
  acted acts.DestTicks now s t before after out speaker executed goes kept settled =
      let codes : Codes = record { mic = words.mic; derived = words.derived } in
      subst (λ (u : DestStep M). Goes s u.host (part_acts (part_by None speaker u) executed)) (sym goes.0.0)
      (record {
        seen = plain s _ _ (known.tick now s speaker executed settled);
        kept = known.tick_kept codes now s kept;
        deeds = known.tick_deeds codes now s;
      })

  pub did : (before : RunWorld M) (parts : Parts) (after : RunWorld M) (executed : Option Executed) → DestDid words before parts after → IsKept mech before.dest
      → IsSettledAs who (copier_in before.dest) → Goes before.dest after.dest (part_acts parts.dest executed)
  did before parts after executed (inl a) kept settled =
      subst (λ (o : Option (List ℕ)). Goes before.dest after.dest (part_acts (dest_part parts.dest.speaker o parts.dest.out) executed)) (sym a.took)
      (acted a.act a.now before.dest after.dest a.draws a.left parts.dest.out parts.dest.speaker executed a.goes kept settled)
  did before parts after executed (inr r) kept settled =
      subst (λ (p : Part). Goes before.dest after.dest (part_acts p executed)) (sym r.part)
      (rests before.dest after.dest speakers.Dest executed r.same kept settled)
    where
      rests : (s t : DestState M) (speaker : Speaker) (executed : Option Executed) → t ≡ s → IsKept mech s → IsSettledAs who (copier_in s)
          → GoesSeen (Fits words mech s) who (means_of words mech) mech s t (part_acts (dest_part speaker None no_outbox) executed)
      rests s t speaker executed same kept settled =
          subst (λ (x : DestState M). GoesSeen (Fits words mech s) who (means_of words mech) mech s x (part_acts (dest_part speaker None no_outbox) executed)) (sym same)
          (record {
            seen = plain s s _ (known.rest s (part_acts (dest_part speaker None no_outbox) executed) settled refl refl);
            kept = kept;
            deeds = known.none_deeds s;
          })

  -- nothing happens past the last step
  pub rested : (s : DestState M) (speaker : Speaker) (executed : Option Executed) → IsKept mech s → IsSettledAs who (copier_in s)
      → Goes s s (part_acts (dest_part speaker None no_outbox) executed)
  rested s speaker executed kept settled = record {
    seen = plain s s _ (known.rest s (part_acts (dest_part speaker None no_outbox) executed) settled refl refl);
    kept = kept;
    deeds = known.none_deeds s;
  }
