-- Along the run of accepted events each act of the client is one that it may make.
use Rattle.std.proofs.Common.{◌≡◌, ℕ, ◌+◌, ◌*◌, ◌<◌, ◌≤◌, Bool, false, List, [], ◌∷◌, ◌++◌, length, Option, Some, None, refl, sym, subst, ◌∙◌, arith}
use Rattle.std.proofs.lemmas.Option.{same_Some}
use Rattle.client_core.specs.Endings.{Ways}
use Rattle.client_core.specs.State.{ClientState}
use Rattle.client_core.specs.Telling.{copy_of}
use Rattle.client_core.specs.declared.client.TheConstants as caller
use Rattle.client_laws.specs.Fits.{TurnIsFit}
use Rattle.client_laws.specs.MountTurns.{TakesBytes}
use Rattle.client_laws.specs.Turns.{IsTurn, MayTurn, Turn, begins}
use Rattle.outbox.specs.declared.outgoing.Outbox.{Outbox}
use Rattle.run_ends.specs.Ends.{RunStep, RunWorld, Words, machines, ways}
use Rattle.run_promise.proofs.client.Asked.{AreAsked, IsAsked, asked, begun_all, begun_by, begun_size, is_begun, other_copy, smalls_asked, smalls_begin}
use Rattle.run_promise.proofs.client.Turning.{is_turn}
use Rattle.run_promise.specs.Client.Accepted.{AreAccepted}
use Rattle.run_promise.specs.Client.Along.{MayAct}
use Rattle.run_promise.specs.Client.Steps.{step_does}
use Rattle.run_promise.specs.Client.Turns.{Acted, Does, act_in, delivered_in, second_in, taken_at, turn_of}
use Rattle.wire_machine.specs.Check.{Reading}
use Rattle.wire_machine.specs.Ends.{ClientAct}
use Rattle.wire_machine.specs.Runs.{End, EventGoes, Fault, Goes, GoesBy, Numbered, Runs, RunsBy, fault_of}
use Rattle.wire_machine.specs.Steps.{IsStep, after_steps, small_steps}
use Rattle.wire_machine.specs.World.{Part, Posted, posted_at}
use Rattle.wire_machine.specs.declared.port.Port.{Port}
use Rattle.wire_machine.specs.declared.port.Port.TheVariants as ports
use Rattle.wire_schedule.specs.Admission.{after}
use Rattle.wire_schedule.specs.declared.context.Context.{Context}
use Rattle.wire_schedule.specs.declared.event.Event.{Event}
use Rattle.wire_schedule.specs.declared.event.Event.TheVariants as events

-- ---- what is known of a client between steps: it has no copy but those that were begun, and made 34 calls a step at most

pub record IsWithin {M : Type 0} (begun : List Bool) (c : ClientState M) : Type 0 where
  pub size : length begun ≡ 16
  pub none : (j : ℕ) → is_begun begun j ≡ false → copy_of j c ≡ None
  pub few : c.calls ≤ 34 * c.steps

-- no copy but those that are begun behind it is begun in the act
abbrev BeginsNew : (begun next : List Bool) → (begins : ℕ → Bool) → Type 0
BeginsNew begun next begins = (j : ℕ) → is_begun next j ≡ false → (is_begun begun j ≡ false) × (begins j ≡ false)

-- an act is within bounds
record IsBounded {M : Type 0} (begun next : List Bool) (act : ClientAct) (now : ℕ) (c : ClientState M) : Type 0 where
  may : MayTurn (turn_of act now) c
  fit : TakesBytes (turn_of act now) → TurnIsFit (turn_of act now)
  new : BeginsNew begun next (λ j. begins j (turn_of act now))

abbrev AreBounded : {M : Type 0} → (begun next : List Bool) → Option ClientAct → (now : ℕ) → ClientState M → Type 0
AreBounded begun next None now c = (j : ℕ) → is_begun next j ≡ false → is_begun begun j ≡ false
AreBounded begun next (Some act) now c = IsBounded begun next act now c

-- ---- the act of a small step that is asked for

taken_bounded : {M : Type 0} (port : Option Port) (bytes : List ℕ) (begun : List Bool) (now : ℕ) (c : ClientState M)
    → AreBounded begun begun (taken_at port bytes) now c
taken_bounded None bytes begun now c = λ j is. is
taken_bounded (Some (ports.Source conn)) bytes begun now c = λ j is. is
taken_bounded (Some ports.Dest) bytes begun now c = λ j is. is
taken_bounded (Some (ports.Worker worker)) bytes begun now c = λ j is. is
taken_bounded (Some (ports.Client from)) bytes begun now c = record { may = tt; fit = λ are. are; new = λ j is. (is, refl) }

delivered_bounded : {M : Type 0} (o : Option Posted) (begun : List Bool) (now : ℕ) (c : ClientState M) → AreBounded begun begun (delivered_in o) now c
delivered_bounded None begun now c = λ j is. is
delivered_bounded (Some r) begun now c = taken_bounded r.port r.bytes begun now c

small_bounded : {M : Type 0} (small : Event) (log : List Posted) (clock : ℕ) (begun : List Bool) (c : ClientState M) → IsAsked begun small → IsWithin begun c
    → AreBounded begun (begun_by small begun) (act_in small log) (second_in small clock) c
small_bounded (events.Write side file off bytes) log clock begun c is within = record { may = tt; fit = λ are. is; new = λ j none. (none, refl) }
small_bounded (events.Commit side file) log clock begun c is within = record { may = tt; fit = λ are. is; new = λ j none. (none, refl) }
small_bounded (events.Copy copy spec) log clock begun c is within = record {
  may = (is.0.first, is.0.last, within.none copy is.0.new);
  fit = λ are. is.1;
  new = λ j none. other_copy begun copy j within.size is.0.last none;
}
small_bounded (events.Status copy) log clock begun c is within = record { may = is; fit = λ are. tt; new = λ j none. (none, refl) }
small_bounded (events.Cancel copy) log clock begun c is within = record { may = is; fit = λ are. tt; new = λ j none. (none, refl) }
small_bounded events.Retry log clock begun c is within = record { may = tt; fit = λ are. tt; new = λ j none. (none, refl) }
small_bounded (events.Deliver number) log clock begun c is within = delivered_bounded (posted_at number log) begun clock c
small_bounded (events.Tick seconds) log clock begun c is within = record { may = tt; fit = λ are. tt; new = λ j none. (none, refl) }
small_bounded (events.Volume side files blocks) log clock begun c is within = λ j none. none
small_bounded events.Flow log clock begun c is within = λ j none. none
small_bounded (events.Work worker) log clock begun c is within = λ j none. none
small_bounded (events.Peek side file off len) log clock begun c is within = λ j none. none
small_bounded (events.Crash side pick) log clock begun c is within = λ j none. none
small_bounded (events.CrashAfter side calls pick) log clock begun c is within = λ j none. none

-- ---- along small steps each act of the client is one that it may make

abbrev pub StepMay : {M : Type 0} → RunWorld M → RunStep M → Type 0
StepMay before s = (act : ClientAct) → act_in s.event before.log ≡ Some act → MayAct act (second_in s.event before.clock) before.client s.after.client

abbrev pub AllMay : {M : Type 0} → RunWorld M → List (RunStep M) → Type 0
AllMay before [] = Unit {0}
AllMay before (s ∷ steps) = StepMay before s × AllMay s.after steps

module _ {M : Type 0} (words : Words M ℕ) where
  -- the laws of a client's turns
  pub record Laws : Type 0 where
    pub few : (ways : Ways) (turn : Turn) (c d : ClientState M) (v w : ℕ) (out : Outbox) → IsTurn ways words.gives turn c v w (d, out) → d.calls ≤ c.calls + 34
    pub steps : (ways : Ways) (turn : Turn) (c d : ClientState M) (v w : ℕ) (out : Outbox) → IsTurn ways words.gives turn c v w (d, out) → d.steps ≡ c.steps + 1
    pub none : (ways : Ways) (turn : Turn) (c d : ClientState M) (v w : ℕ) (out : Outbox) (j : ℕ) → IsTurn ways words.gives turn c v w (d, out)
        → copy_of j c ≡ None → begins j turn ≡ false → copy_of j d ≡ None

  module _ (laws : Laws) where
    -- what an act leaves
    record GoesWithin (next : List Bool) (act : ClientAct) (now : ℕ) (c d : ClientState M) : Type 0 where
      may : MayAct act now c d
      within : IsWithin next d

    act_within : (act : ClientAct) (now : ℕ) (begun next : List Bool) (c d : ClientState M) (part : Part) → length next ≡ 16 → Acted words act now c d part
        → IsWithin begun c → IsBounded begun next act now c → GoesWithin next act now c d
    act_within act now begun next c d part size a within bounded =
        let turn = is_turn words act now c d a.draws a.after part.out a.goes.0 in
        let more = laws.few (ways words c) (turn_of act now) c d a.draws a.after part.out turn in
        let one = laws.steps (ways words c) (turn_of act now) c d a.draws a.after part.out turn in
        let before = within.few in
        let left : c.steps < caller.MOST_STEPS = a.goes.1.few in
        let most : caller.MOST_STEPS ≡ 67108863 = refl in
        record {
          may = record { may = bounded.may; fit = bounded.fit; few = omega (arith, more, before, left, most) };
          within = record {
            size = size;
            none = λ j none.
                let new = bounded.new j none in
                laws.none (ways words c) (turn_of act now) c d a.draws a.after part.out j turn (within.none j new.0) new.1;
            few = omega (arith, more, before, one);
          };
        }

    -- what a small step leaves of the client
    record StepsWithin (next : List Bool) (o : Option ClientAct) (now : ℕ) (c d : ClientState M) : Type 0 where
      may : (act : ClientAct) → o ≡ Some act → MayAct act now c d
      within : IsWithin next d

    none_acts : {X : Type 0} (act : ClientAct) → None ≡ Some act → X
    none_acts act is = absurd (cc)

    does_within : (o : Option ClientAct) (now : ℕ) (begun next : List Bool) (c d : ClientState M) (part : Part) → length next ≡ 16 → Does words o now c d part
        → IsWithin begun c → AreBounded begun next o now c → StepsWithin next o now c d
    does_within None now begun next c d part size rest within bounded =
        record {
          may = λ act is. none_acts act is;
          within = subst (λ (x : ClientState M). IsWithin next x) (sym rest.same)
              (record { size = size; none = λ j none. within.none j (bounded j none); few = within.few });
        }
    does_within (Some act) now begun next c d part size a within bounded =
        let goes = act_within act now begun next c d part size a within bounded in
        record { may = λ other is. subst (λ (x : ClientAct). MayAct x now c d) (same_Some act other is) goes.may; within = goes.within }

    -- ---- along small steps

    step_within : (before : RunWorld M) (s : RunStep M) (begun : List Bool) → IsStep (machines words) before s → IsAsked begun s.event
        → IsWithin begun before.client
        → StepsWithin (begun_by s.event begun) (act_in s.event before.log) (second_in s.event before.clock) before.client s.after.client
    step_within before s begun step is within =
        does_within (act_in s.event before.log) (second_in s.event before.clock) begun (begun_by s.event begun) before.client s.after.client s.parts.client
        (begun_size s.event begun ∙ within.size) (step_does words before s step) within
        (small_bounded s.event before.log before.clock begun before.client is within)

    -- the small steps that are done may be made; where no fault ended them, the client is within its bounds behind them
    pub record AreDone (next : List Bool) (before : RunWorld M) (steps : List (RunStep M)) (fault : Option Fault) : Type 0 where
      pub may : AllMay before steps
      pub within : fault ≡ None → IsWithin next (after_steps before steps).client

    some_fault : {X : Type 0} (fault : Fault) (o : Option Fault) → o ≡ Some fault → o ≡ None → X
    some_fault fault o is none = absurd (cc)

    module _ (read : Reading) where
      goes_by : (before : RunWorld M) (s : RunStep M) (o : Option Fault) (go_on : List (RunStep M) → Type 0) (steps : List (RunStep M)) (fault : Option Fault)
          (next : List Bool) → StepMay before s → ((rest : List (RunStep M)) → go_on rest → AreDone next s.after rest fault)
          → GoesBy (machines words) read o s go_on steps fault → AreDone next before steps fault
      goes_by before s None go_on steps fault next may later by =
          let rest = later by.0 by.2 in
          subst (λ (xs : List (RunStep M)). AreDone next before xs fault) (sym by.1) (record { may = (may, rest.may); within = rest.within })
      goes_by before s (Some f) go_on steps fault next may later by =
          subst (λ (xs : List (RunStep M)). AreDone next before xs fault) (sym by.0) (record { may = tt; within = λ none. some_fault f fault by.1 none })

      goes_within : (before : RunWorld M) (smalls : List Event) (begun : List Bool) (steps : List (RunStep M)) (fault : Option Fault) → AreAsked begun smalls
          → IsWithin begun before.client → Goes (machines words) read before smalls steps fault → AreDone (begun_all smalls begun) before steps fault
      goes_within before [] begun steps fault are within goes =
          subst (λ (xs : List (RunStep M)). AreDone begun before xs fault) (sym goes.0) (record { may = tt; within = λ none. within })
      goes_within before (small ∷ smalls) begun steps fault are within goes =
          let s = goes.0 in
          let is : IsAsked begun s.event = subst (λ (e : Event). IsAsked begun e) (sym goes.1) are.0 in
          let one = step_within before s begun goes.2 is within in
          let next : IsWithin (begun_by small begun) s.after.client = subst (λ (e : Event). IsWithin (begun_by e begun) s.after.client) goes.1 one.within in
          goes_by before s (fault_of (machines words) read before s) _ steps fault (begun_all smalls (begun_by small begun)) one.may
          (λ rest on. goes_within s.after smalls (begun_by small begun) rest fault are.1 next on) goes.3

      all_joined : (before : RunWorld M) (front rest : List (RunStep M)) → AllMay before front → AllMay (after_steps before front) rest
          → AllMay before (front ++ rest)
      all_joined before [] rest one two = two
      all_joined before (s ∷ front) rest one two = (one.0, all_joined s.after front rest one.1 two)

      runs_by : (before : RunWorld M) (o : Option Fault) (line : ℕ) (first : List (RunStep M)) (go_on : List (RunStep M) → Type 0)
          (steps : List (RunStep M)) (end : End) (next : List Bool) → AreDone next before first o
          → (IsWithin next (after_steps before first).client → (rest : List (RunStep M)) → go_on rest → AllMay (after_steps before first) rest)
          → RunsBy (machines words) read o line first go_on steps end → AllMay before steps
      runs_by before None line first go_on steps end next done later by =
          subst (λ (xs : List (RunStep M)). AllMay before xs) (sym by.1) (all_joined before first by.0 done.may (later (done.within refl) by.0 by.2))
      runs_by before (Some fault) line first go_on steps end next done later by =
          subst (λ (xs : List (RunStep M)). AllMay before xs) (sym by.0) done.may

      event_within : (before : RunWorld M) (context : Context) (event : Event) (steps : List (RunStep M)) (fault : Option Fault) → IsAsked context.begun event
          → IsWithin context.begun before.client → EventGoes (machines words) read before event steps fault
          → AreDone (after context event).begun before steps fault
      event_within before context event steps fault is within goes =
          subst (λ (b : List Bool). AreDone b before steps fault) (smalls_begin before context event)
          (goes_within before (small_steps before event) context.begun steps fault (smalls_asked before context event is) within goes)

      -- the events of a schedule
      pub runs_within : (context : Context) (events : List Numbered) (before : RunWorld M) (steps : List (RunStep M)) (end : End) → AreAccepted context events
          → IsWithin context.begun before.client → Runs (machines words) read before events steps end → AllMay before steps
      runs_within context [] before steps end are within runs = subst (λ (xs : List (RunStep M)). AllMay before xs) (sym runs.0) tt
      runs_within context (e ∷ events) before steps end are within runs =
          runs_by before runs.1 e.line runs.0 _ steps end (after context e.event).begun
          (event_within before context e.event runs.0 runs.1 (asked context e.event are.0 are.1) within runs.2)
          (λ next rest on. runs_within (after context e.event) events (after_steps before runs.0) rest end are.2 next on) runs.3
