-- A run of events in which no server is stopped and no fuse is set: none of its small steps stops a server.
use Rattle.std.proofs.Common.{◌≡◌, ◌⊎◌, inl, inr, Bool, true, false, Option, None, Some, List, [], ◌∷◌, ◌++◌, map, refl, sym, ap, ◌∙◌}
use Rattle.std.proofs.lemmas.List.{map-append}
use Rattle.std.proofs.lemmas.List.Folds.{list_any-append}
use Rattle.std.specs.List.{list_any}
use Rattle.std.specs.Prelude.{◌||◌}
use Rattle.nfs_base.specs.declared.side.Side.{Side}
use Rattle.nfs_base.specs.declared.side.Side.TheVariants.{Source, Dest}
use Rattle.run_ends.specs.Ends.{RunStep, RunWorld}
use Rattle.wire_machine.specs.Runs.{Numbered}
use Rattle.wire_machine.specs.Steps.{NeverStops, cut_by, stops_at}
use Rattle.wire_machine.specs.declared.choice.Choice.{Choice}
use Rattle.wire_machine.specs.declared.choice.Choice.TheVariants.{Went, Failed, Stopped}
use Rattle.wire_run.proofs.Asked.{or_first, or_second, or_some}
use Rattle.wire_run.specs.Run.{is_stop, stops_in, stops_server}
use Rattle.wire_run.specs.Running.{ArmsRight, Running, armed_of, is_asked}
use Rattle.wire_run.specs.Watching.{crashes_in, sets_in}
use Rattle.wire_schedule.specs.declared.event.Event.{Event}
use Rattle.wire_schedule.specs.declared.event.Event.TheVariants as kinds

-- ---- tests

or_none : (a b : Bool) → (a || b) ≡ false → (a ≡ false) × (b ≡ false)
or_none false b is = (refl, is)
or_none true b is = absurd (cc)

or_both : (a b : Bool) → a ≡ false → b ≡ false → (a || b) ≡ false
or_both false b p q = q
or_both true b p q = absurd (cc)

-- what would be true otherwise
not_so : (a b : Bool) → (a ≡ true → b ≡ true) → b ≡ false → a ≡ false
not_so true b gives none = let both : true ≡ false = sym (gives refl) ∙ none in absurd (cc)
not_so false b gives none = refl

-- ---- events that stop a server, or set a fuse

sets_stop : (event : Event) (side : Side) → sets_in event side ≡ true → stops_server event ≡ true
sets_stop (kinds.Crash at pick) side is = refl
sets_stop (kinds.CrashAfter at calls pick) side is = refl
sets_stop event side is = absurd (cc)

crashes_stop : (event : Event) (side : Side) → crashes_in event side ≡ true → stops_server event ≡ true
crashes_stop (kinds.Crash at pick) side is = refl
crashes_stop (kinds.CrashAfter at calls pick) side is = refl
crashes_stop event side is = absurd (cc)

stops_join : (xs ys : List Numbered) → stops_in (xs ++ ys) ≡ (stops_in xs || stops_in ys)
stops_join xs ys = list_any-append (λ (e : Numbered). stops_server e.event) xs ys

-- where there is none, there is none in a front, nor is the next event one
stops_none : (done : List Numbered) (e : Numbered) (rest : List Numbered) → stops_in (done ++ e ∷ rest) ≡ false → (stops_in done ≡ false) × (stops_server e.event ≡ false)
stops_none done e rest none =
    let parts = or_none (stops_in done) (stops_in (e ∷ rest)) (sym (stops_join done (e ∷ rest)) ∙ none) in
    (parts.0, (or_none (stops_server e.event) (stops_in rest) parts.1).0)

stops_front : (done rest : List Numbered) → stops_in done ≡ true → stops_in (done ++ rest) ≡ true
stops_front done rest is = stops_join done rest ∙ or_first (stops_in done) (stops_in rest) is

stops_next : (done : List Numbered) (e : Numbered) (rest : List Numbered) → stops_server e.event ≡ true → stops_in (done ++ e ∷ rest) ≡ true
stops_next done e rest is =
    stops_join done (e ∷ rest) ∙ or_second (stops_in done) (stops_in (e ∷ rest)) (or_first (stops_server e.event) (stops_in rest) is)

-- ---- fuses are set by these events alone

abbrev pub AreArmedBy : {D M : Type 0} → List Numbered → Running D M → Type 0
AreArmedBy done r = (side : Side) → armed_of r side ≡ true → stops_in done ≡ true

module _ {D M : Type 0} (done : List Numbered) (old : Running D M) (armed : AreArmedBy done old) (e : Numbered) where
  pub armed_more : (new : Running D M) → ArmsRight old new e.event → AreArmedBy (done ++ e ∷ []) new
  armed_more new arms side is = by_part (or_some (armed_of old side) (sets_in e.event side) (arms side is))
    where
      by_part : (armed_of old side ≡ true) ⊎ (sets_in e.event side ≡ true) → stops_in (done ++ e ∷ []) ≡ true
      by_part (inl was) = stops_front done (e ∷ []) (armed side was)
      by_part (inr sets) = stops_next done e [] (sets_stop e.event side sets)

  -- a server that is asked to stop is asked by one of these events
  pub asked_by : (rest : List Numbered) (side : Side) → is_asked old side e.event ≡ true → stops_in (done ++ e ∷ rest) ≡ true
  asked_by rest side is = by_part (or_some (armed_of old side) (crashes_in e.event side) is)
    where
      by_part : (armed_of old side ≡ true) ⊎ (crashes_in e.event side ≡ true) → stops_in (done ++ e ∷ rest) ≡ true
      by_part (inl was) = stops_front done (e ∷ rest) (armed side was)
      by_part (inr crashes) = stops_next done e rest (crashes_stop e.event side crashes)

  pub none_asked : (rest : List Numbered) → stops_in (done ++ e ∷ rest) ≡ false → (side : Side) → is_asked old side e.event ≡ false
  none_asked rest none side = not_so (is_asked old side e.event) (stops_in (done ++ e ∷ rest)) (asked_by rest side) none

-- ---- small steps that stop no server

abbrev pub NoneStops : {M : Type 0} → List (RunStep M) → Type 0
NoneStops {M = M} steps = list_any (λ (choice : Choice). is_stop choice) (map (λ (s : RunStep M). s.choice) steps) ≡ false

not_stop : (at : Side) (choice : Choice) → cut_by Source at choice ≡ None → cut_by Dest at choice ≡ None → is_stop choice ≡ false
not_stop at Went source dest = refl
not_stop at Failed source dest = refl
not_stop Source (Stopped kept) source dest = absurd (cc)
not_stop Dest (Stopped kept) source dest = absurd (cc)

none_stops : {M : Type 0} (w : RunWorld M) (steps : List (RunStep M)) → NeverStops Source w steps → NeverStops Dest w steps → NoneStops steps
none_stops w [] source dest = refl
none_stops w (s ∷ steps) source dest =
    or_both (is_stop s.choice) _ (not_stop (stops_at s.event w.log) s.choice source.0 dest.0) (none_stops s.after steps source.1 dest.1)

none_join : {M : Type 0} (steps more : List (RunStep M)) → NoneStops steps → NoneStops more → NoneStops (steps ++ more)
none_join {M = M} steps more first second =
    ap (λ (cs : List Choice). list_any (λ (choice : Choice). is_stop choice) cs) (map-append (λ (s : RunStep M). s.choice) steps more)
    ∙ (list_any-append (λ (choice : Choice). is_stop choice) (map (λ (s : RunStep M). s.choice) steps) (map (λ (s : RunStep M). s.choice) more)
    ∙ or_both _ _ first second)

-- with the small steps of one more event
pub none_more : {D M : Type 0} (done : List Numbered) (e : Numbered) (rest : List Numbered) (old : Running D M) (w : RunWorld M) (steps more : List (RunStep M))
    → AreArmedBy done old → (stops_in done ≡ false → NoneStops steps) → ((side : Side) → is_asked old side e.event ≡ false → NeverStops side w more)
    → stops_in (done ++ e ∷ rest) ≡ false → NoneStops (steps ++ more)
none_more done e rest old w steps more armed was never none =
    let parts = stops_none done e rest none in
    none_join steps more (was parts.0)
    (none_stops w more (never Source (none_asked done old armed e rest none Source)) (never Dest (none_asked done old armed e rest none Dest)))
