-- In each step the volume of a destination goes on by one effect that is allowed, and its writes can still be numbered.
use Rattle.std.proofs.Common.{◌≡◌, ◌∙◌, inl, inr, ℕ, suc, ◌<◌, ◌^◌, Bool, true, false, List, [], ◌∷◌, Option, Some, None, refl, sym, ap, subst, arith}
use Rattle.copy_model.specs.Effect as effects
use Rattle.copy_model.specs.Effect.{Effect, after}
use Rattle.copy_model.specs.Volume.{Volume}
use Rattle.dest_core.specs.Stepping.{DestState, DestStep, IsRecord, IsReply, IsWork, copier_in, tick_step}
use Rattle.dest_laws.specs.Landings.Orderly.{IsOrderly, LandsAndHolds}
use Rattle.dest_laws.specs.Landings.Posted.{AreSpelled}
use Rattle.dest_laws.specs.Own.Going.{jobs_in}
use Rattle.dest_laws.specs.View.Steps.{Shows, ShowsStep, part_by}
use Rattle.dest_steps.specs.Copier.{Codes}
use Rattle.job_book.specs.Book.{IsSound}
use Rattle.nfs_base.specs.declared.seal.End.{End}
use Rattle.nfs_base.specs.declared.seal.End.TheVariants.{Dest}
use Rattle.run_ends.specs.Ends.{Words}
use Rattle.run_promise.proofs.dest.DestServers.{IsServer}
use Rattle.run_promise.proofs.dest.Records.{AreServed, codes_of, comes}
use Rattle.run_promise.specs.Dest.Kinds.{Kind, TakesNone, TakesRecord, TakesReply, TakesSecond, TakesTurn}
use Rattle.server_volume.specs.declared.used.Used.{Used}
use Rattle.tell_laws.specs.Volumes.{volume_of}
use Rattle.wire_lines.specs.declared.letters.Speaker.{Speaker}
use Rattle.wire_lines.specs.declared.letters.Speaker.TheVariants as speakers
use Rattle.wire_machine.specs.History.{Place, deed_by, effect_of, is_call, landing_in}
use Rattle.wire_meaning.specs.Meaning.{meaning}
use Rattle.wire_model.specs.Copies.{Plain}
use Rattle.wire_model.specs.CopyLaws.{VolumeLaws}
use Rattle.wire_model.specs.Spelling.{Spelling}
use Rattle.wire_model.specs.System.{System, dest_effect}
use Rattle.wire_model.specs.Told.{TakesSimple}
use Rattle.wire_model.specs.Wire.{Acts, Executed}
use Rattle.wire_spelling.specs.Spelling.{spelling}
use Rattle.wire_xdr.specs.Cursor.{IsBytes}

-- ---- by an effect that is allowed writes stay numbered

after_writes : (v : Volume) (e : Effect) → effects.IsAllowed v e → v.writes < 2 ^ 32 → (after v e).writes < 2 ^ 32
after_writes v effects.Rests allowed few = few
after_writes v (effects.Writes file off []) allowed few = few
after_writes v (effects.Writes file off (b ∷ bs)) allowed few = let below = allowed.1 in omega (arith, below)
after_writes v (effects.Commits file) allowed few = few
after_writes v effects.WriteFails allowed few = few
after_writes v (effects.CommitFails file) allowed few = few
after_writes v (effects.Crashes under kept) allowed few = omega arith

lawful_writes : (v w : Volume) (e : Effect) → VolumeLaws v w e → v.writes < 2 ^ 32 → w.writes < 2 ^ 32
lawful_writes v w e laws few = subst (λ (x : Volume). x.writes < 2 ^ 32) (sym laws.goes_on) (after_writes v e laws.allowed few)

rest_deed : (call : Bool) (o : Option Place) → deed_by call effects.Rests o ≡ Plain effects.Rests
rest_deed true None = refl
rest_deed true (Some place) = refl
rest_deed false None = refl
rest_deed false (Some place) = refl

-- ---- what is known of the steps of every destination

module _ {M : Type 0} (words : Words M ℕ) where
  -- it stays orderly
  pub record AreOrderly : Type 0 where
    pub record_ : (mech : M) (conn : ℕ) (message : List ℕ) (now : ℕ) (d : DestState M) (before after : ℕ) (t : DestStep M)
        → IsRecord (codes_of words) (words.accepted mech) words.gives conn message now d before after t → IsOrderly d → IsOrderly t.host
    pub work : (started : List ℕ → List ℕ → Option (List ℕ)) (codes : Codes) (place now : ℕ) (d : DestState M) (before after : ℕ) (t : DestStep M)
        → IsWork words.gives started codes place now d before after t → IsSound (jobs_in d).table → IsOrderly d → IsOrderly t.host
    pub reply : (codes : Codes) (finish : List ℕ → List ℕ → Option (List ℕ)) (place : ℕ) (message : List ℕ) (now : ℕ) (d : DestState M) (t : DestStep M)
        → IsReply codes finish place message now d t → IsOrderly d → IsOrderly t.host
    pub tick : (codes : Codes) (now : ℕ) (d : DestState M) → IsOrderly d → IsOrderly (tick_step codes now d).host

  -- what lands was at hand, and what a step is to the volume is the effect of its call
  pub record AreDue (accepts : List ℕ → Option (List ℕ)) (whose : List ℕ → Option End) (s : System) : Type 0 where
    pub record_ : (k : ℕ) (took : Option (List ℕ)) (speaker : Speaker) (executed : Option Executed) (mech : M)
        (conn : ℕ) (message : List ℕ) (now : ℕ) (d : DestState M) (before after : ℕ) (t : DestStep M)
        → ShowsStep (spelling accepts whose) meaning s k took speaker executed d t → is_call (part_by took speaker t) ≡ true
        → IsRecord (codes_of words) (words.accepted mech) words.gives conn message now d before after t → LandsAndHolds (spelling accepts whose) meaning s k t
    pub work : (k : ℕ) (took : Option (List ℕ)) (speaker : Speaker) (executed : Option Executed)
        (started : List ℕ → List ℕ → Option (List ℕ)) (codes : Codes) (place now : ℕ) (d : DestState M) (before after : ℕ) (t : DestStep M)
        → ShowsStep (spelling accepts whose) meaning s k took speaker executed d t → is_call (part_by took speaker t) ≡ false
        → IsWork words.gives started codes place now d before after t → IsSound (jobs_in d).table → IsOrderly d → LandsAndHolds (spelling accepts whose) meaning s k t
    pub reply : (k : ℕ) (speaker : Speaker) (executed : Option Executed)
        (codes : Codes) (finish : List ℕ → List ℕ → Option (List ℕ)) (place : ℕ) (message : List ℕ) (now : ℕ) (d : DestState M) (t : DestStep M)
        → ShowsStep (spelling accepts whose) meaning s k (Some message) speaker executed d t → is_call (part_by (Some message) speaker t) ≡ false
        → IsReply codes finish place message now d t → IsBytes message → IsSound (jobs_in d).table → IsOrderly d
        → AreSpelled (copier_in d).work.mount → LandsAndHolds (spelling accepts whose) meaning s k t

  pub record GoOn (accepts : List ℕ → Option (List ℕ)) (whose : List ℕ → Option End) (s : System) : Type 0 where
    pub work : (k : ℕ) (took : Option (List ℕ)) (speaker : Speaker) (executed : Option Executed)
        (started : List ℕ → List ℕ → Option (List ℕ)) (codes : Codes) (place now : ℕ) (d : DestState M) (before after : ℕ) (t : DestStep M)
        → ShowsStep (spelling accepts whose) meaning s k took speaker executed d t → IsWork words.gives started codes place now d before after t
        → LandsAndHolds (spelling accepts whose) meaning s k t → d.state.machine.store.volume.writes < 2 ^ 32 → VolumeLaws (s.dest k) (s.dest (suc k)) (dest_effect s k)
    pub reply : (k : ℕ) (took : Option (List ℕ)) (speaker : Speaker) (executed : Option Executed)
        (codes : Codes) (finish : List ℕ → List ℕ → Option (List ℕ)) (place : ℕ) (message : List ℕ) (now : ℕ) (d : DestState M) (t : DestStep M)
        → ShowsStep (spelling accepts whose) meaning s k took speaker executed d t → IsReply codes finish place message now d t
        → LandsAndHolds (spelling accepts whose) meaning s k t → d.state.machine.store.volume.writes < 2 ^ 32 → VolumeLaws (s.dest k) (s.dest (suc k)) (dest_effect s k)
    pub tick : (k : ℕ) (took : Option (List ℕ)) (speaker : Speaker) (executed : Option Executed) (codes : Codes) (now : ℕ) (d : DestState M)
        → ShowsStep (spelling accepts whose) meaning s k took speaker executed d (tick_step codes now d) → VolumeLaws (s.dest k) (s.dest (suc k)) (dest_effect s k)
    pub rest : (k : ℕ) (d : DestState M) → Shows s k d → Shows s (suc k) d → s.deed k ≡ Plain effects.Rests → VolumeLaws (s.dest k) (s.dest (suc k)) (dest_effect s k)

  -- ---- a step

  pub record HasVolume (d : DestState M) : Type 0 where
    pub writes : (volume_of d).writes < 2 ^ 32
    pub orderly : IsOrderly d

  pub record VolumeGoes (spell : Spelling) (s : System) (k : ℕ) (t : DestStep M) : Type 0 where
    pub then : HasVolume t.host
    pub laws : TakesSimple spell Dest (s.acts Dest k) → VolumeLaws (s.dest k) (s.dest (suc k)) (dest_effect s k)

  module _ (accepts : List ℕ → Option (List ℕ)) (whose : List ℕ → Option End) (s : System) (served : AreServed words) (orderly : AreOrderly) (due : AreDue accepts whose s)
      (go_on : GoOn accepts whose s) where
    abbrev spell : Spelling
    spell = spelling accepts whose

    abbrev codes : Codes
    codes = record { mic = words.mic; derived = words.derived }

    module _ (k : ℕ) (d : DestState M) (t : DestStep M) (took : Option (List ℕ)) (speaker : Speaker) (executed : Option Executed)
        (shows : ShowsStep spell meaning s k took speaker executed d t) (is : IsServer d) (has : HasVolume d) where
      shows_with : (o : Option (List ℕ)) (x : Speaker) → took ≡ o → speaker ≡ x → ShowsStep spell meaning s k o x executed d t
      shows_with o x took_is speaker_is =
          subst (λ (y : Speaker). ShowsStep spell meaning s k o y executed d t) speaker_is
          (subst (λ (p : Option (List ℕ)). ShowsStep spell meaning s k p speaker executed d t) took_is shows)

      -- what a law says of the system's volumes it says of the destination's
      writes_then : VolumeLaws (s.dest k) (s.dest (suc k)) (dest_effect s k) → (volume_of t.host).writes < 2 ^ 32
      writes_then laws =
          subst (λ (v : Volume). v.writes < 2 ^ 32) shows.after.volume
          (lawful_writes (s.dest k) (s.dest (suc k)) (dest_effect s k) laws (subst (λ (v : Volume). v.writes < 2 ^ 32) (sym shows.before.volume) has.writes))

      goes_by : VolumeLaws (s.dest k) (s.dest (suc k)) (dest_effect s k) → IsOrderly t.host → VolumeGoes spell s k t
      goes_by laws still = record { then = record { writes = writes_then laws; orderly = still }; laws = λ simple. laws }

      record_goes : TakesRecord words d t took speaker executed → VolumeGoes spell s k t
      record_goes r =
          let mech = d.state.machine.extra.mech in
          let c = comes words served d t took speaker executed r is.good in
          let so = shows_with (Some r.bytes) speakers.Dest r.took_is r.speaker_is in
          let effect = (due.record_ k (Some r.bytes) speakers.Dest executed mech r.conn r.bytes r.now d r.draws r.left t so refl r.is).effect in
          record {
            then = record { writes = c.writes has.writes; orderly = orderly.record_ mech r.conn r.bytes r.now d r.draws r.left t r.is has.orderly };
            laws = λ simple.
                subst (λ (e : Effect). VolumeLaws (s.dest k) (s.dest (suc k)) e) (sym effect)
                (subst (λ (w : Volume). VolumeLaws (s.dest k) w (effect_of (volume_of t.host) t.out.used)) (sym shows.after.volume)
                (subst (λ (v : Volume). VolumeLaws v (volume_of t.host) (effect_of (volume_of t.host) t.out.used)) (sym shows.before.volume)
                (c.changes Dest accepts whose is.owner (subst (λ (a : Acts). TakesSimple spell Dest a) so.acts simple) has.writes)));
          }

      turn_goes : TakesTurn words d t took speaker executed → IsSound (jobs_in d).table → VolumeGoes spell s k t
      turn_goes r sound =
          let started = words.started d.state.machine.extra.mech in
          let so = shows_with None speakers.Dest r.took_is r.speaker_is in
          let well = due.work k None speakers.Dest executed started codes r.place r.now d r.draws r.left t so refl r.is sound has.orderly in
          goes_by (go_on.work k None speakers.Dest executed started codes r.place r.now d r.draws r.left t so r.is well has.writes)
          (orderly.work started codes r.place r.now d r.draws r.left t r.is sound has.orderly)

      reply_goes : TakesReply words d t took speaker executed → IsSound (jobs_in d).table → AreSpelled (copier_in d).work.mount → VolumeGoes spell s k t
      reply_goes r sound spelled =
          let finish = words.finished d.state.machine.extra.mech d.state.machine.extra.copier.principal in
          let so = shows_with (Some r.bytes) speakers.Worker r.took_is r.speaker_is in
          let well = due.reply k speakers.Worker executed codes finish r.place r.bytes r.now d t so refl r.is r.handled.taken sound has.orderly spelled in
          goes_by (go_on.reply k (Some r.bytes) speakers.Worker executed codes finish r.place r.bytes r.now d t so r.is well has.writes)
          (orderly.reply codes finish r.place r.bytes r.now d t r.is has.orderly)

      tick_goes : TakesSecond words d t took speaker executed → VolumeGoes spell s k t
      tick_goes r =
          let so = subst (λ (x : DestStep M). ShowsStep spell meaning s k took speaker executed d x) r.is shows in
          goes_by (go_on.tick k took speaker executed codes r.now d so)
          (subst (λ (x : DestStep M). IsOrderly x.host) (sym r.is) (orderly.tick codes r.now d has.orderly))

      rest_goes : TakesNone words d t took speaker executed → VolumeGoes spell s k t
      rest_goes r =
          let none : effect_of (volume_of t.host) t.out.used ≡ effects.Rests = ap (λ (used : List Used). effect_of (volume_of t.host) used) r.used in
          let deed : s.deed k ≡ Plain effects.Rests =
          shows.deed
          ∙ (ap (λ (e : Effect). deed_by (is_call (part_by took speaker t)) e (landing_in t.out.notes)) none
          ∙ rest_deed (is_call (part_by took speaker t)) (landing_in t.out.notes)) in
          goes_by (go_on.rest k d shows.before (subst (λ (x : DestState M). Shows s (suc k) x) r.same shows.after) deed)
          (subst (λ (x : DestState M). IsOrderly x) (sym r.same) has.orderly)

      pub volume_goes : Kind words d t took speaker executed → IsSound (jobs_in d).table → AreSpelled (copier_in d).work.mount
          → VolumeGoes (spelling accepts whose) s k t
      volume_goes (inl r) sound spelled = record_goes r
      volume_goes (inr (inl r)) sound spelled = turn_goes r sound
      volume_goes (inr (inr (inl r))) sound spelled = reply_goes r sound spelled
      volume_goes (inr (inr (inr (inl r)))) sound spelled = tick_goes r
      volume_goes (inr (inr (inr (inr r)))) sound spelled = rest_goes r
