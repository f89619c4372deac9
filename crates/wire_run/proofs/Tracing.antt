-- Events that happen one after the other.
use Rattle.std.proofs.Common.{◌≡◌, ℕ, ◌+◌, ◌≤◌, ◌-◌, Bool, ◌&&◌, Option, None, Some, List, [], ◌∷◌, ◌++◌, map, refl, sym, ap, subst, ◌∙◌, append_assoc, append-nil, arith, IsTrue, zero, suc}
use Rattle.std.proofs.lemmas.Bool.{and_parts}
use Rattle.streams.specs.Stream.{Taking}
use Rattle.wire_machine.specs.Check.{Reading}
use Rattle.wire_machine.specs.Runs.{Numbered, events_in, numbered}
use Rattle.wire_run.specs.Run.{RanOut}
use Rattle.wire_run.specs.Running.{HasDisks, Running, context_after, mech_of}
use Rattle.run_ends.specs.Ends.{RunMachines}
use Rattle.wire_run.specs.Trace.{GoesOn, Happen, Happens, IsCut, PutsLines, events_at}
use Rattle.wire_run.specs.declared.run.Ran.{Ran}
use Rattle.wire_run.specs.declared.run.Ran.TheVariants as ran
use Rattle.wire_run.specs.declared.system.Stepped.{Stepped}
use Rattle.wire_run.specs.declared.system.Stepped.TheVariants as stepped
use Rattle.wire_run.proofs.Ending.{starved}
use Rattle.wire_run.proofs.Final.{Ended, ended}
use Rattle.wire_run.proofs.Going.{went}
use Rattle.wire_run.proofs.Middle.{InRun}
use Rattle.wire_schedule.specs.Admission.{admits, after}
use Rattle.wire_schedule.specs.Expansion.{after_all, are_admitted, events_of, events_of_all, repeated}
use Rattle.wire_schedule.specs.declared.context.Context.{Context}
use Rattle.wire_schedule.specs.declared.directive.Entry.{Entry}
use Rattle.wire_schedule.specs.declared.event.Event.{Event}

-- ---- the events of numbered ones

pub numbered_join : (line : ℕ) (xs ys : List Event) → numbered line (xs ++ ys) ≡ numbered line xs ++ numbered line ys
numbered_join line [] ys = refl
numbered_join line (x ∷ xs) ys = ap (λ (events : List Numbered). record { line = line; event = x } ∷ events) (numbered_join line xs ys)

pub numbered_events : (line : ℕ) (events : List Event) → events_at (numbered line events) ≡ events
numbered_events line [] = refl
numbered_events line (e ∷ events) = ap (λ (others : List Event). e ∷ others) (numbered_events line events)

events_join : (xs ys : List Numbered) → events_at (xs ++ ys) ≡ events_at xs ++ events_at ys
events_join [] ys = refl
events_join (x ∷ xs) ys = ap (λ (others : List Event). x.event ∷ others) (events_join xs ys)

pub events_of_entries : (entries : List Entry) → events_at (events_in entries) ≡ events_of_all entries
events_of_entries [] = refl
events_of_entries (entry ∷ entries) =
    events_join (numbered entry.line (events_of entry.directive)) (events_in entries)
    ∙ (ap (λ (xs : List Event). xs ++ events_at (events_in entries)) (numbered_events entry.line (events_of entry.directive))
    ∙ ap (λ (xs : List Event). events_of entry.directive ++ xs) (events_of_entries entries))

pub repeated_more : (n : ℕ) (events : List Event) → repeated (suc n) events ≡ repeated n events ++ events
repeated_more zero events = append-nil events
repeated_more (suc n) events = ap (λ (xs : List Event). events ++ xs) (repeated_more n events) ∙ sym (append_assoc events (repeated n events) events)

-- ---- events that may come one after the other

pub admitted_join : (context : Context) (xs ys : List Event) → IsTrue (are_admitted context (xs ++ ys))
    → IsTrue (are_admitted context xs) × IsTrue (are_admitted (after_all context xs) ys)
admitted_join context [] ys admitted = (refl, admitted)
admitted_join context (x ∷ xs) ys admitted =
    let parts = and_parts (admits context x) (are_admitted (after context x) (xs ++ ys)) admitted in
    let more = admitted_join (after context x) xs ys parts.1 in
    (ap (λ (b : Bool). b && are_admitted (after context x) xs) parts.0 ∙ more.0, more.1)

module _ {D M : Type 0} (told : Type 0) (m : RunMachines M) (read : Reading) (faults size : D → ℕ) where
  abbrev On : List Numbered → (old new : Running D M) → (before now : Taking) → Option Ran → Type 0
  On events old new before now result = Happen told m read faults size events old new before now result

  -- one event
  pub happen_one : (e : Numbered) (old new : Running D M) (before now : Taking) (result : Option Ran)
      → Happens told m read faults size e old new before now result → On (e ∷ []) old new before now result
  happen_one e old new before now None happens = (new, now, None, happens, (refl, refl, refl))
  happen_one e old new before now (Some end) happens = (new, now, Some end, happens, (refl, refl, refl))

  none_some : (end : Ran) → None ≡ Some end → ⊥
  none_some end is = cc

  -- others behind them
  pub happen_join : (xs ys : List Numbered) (old middle new : Running D M) (before put now : Taking) (result : Option Ran)
      → On xs old middle before put None → On ys middle new put now result → On (xs ++ ys) old new before now result
  happen_join [] ys old middle new before put now result first later =
      subst (λ (r : Running D M). On ys r new before now result) first.0 (subst (λ (k : Taking). On ys middle new k now result) first.1 later)
  happen_join (x ∷ xs) ys old middle new before put now result first later =
      by_first first.2 first.3 first.4 (λ goes. happen_join xs ys first.0 middle new first.1 put now result goes later)
    where
      by_first : (r : Option Ran) → Happens told m read faults size x old first.0 before first.1 r
          → GoesOn told m read faults size r (On xs first.0 middle first.1 put None) first.0 middle first.1 put None
          → (On xs first.0 middle first.1 put None → On (xs ++ ys) first.0 new first.1 now result) → On (x ∷ (xs ++ ys)) old new before now result
      by_first None happens goes next = (first.0, first.1, None, happens, next goes)
      by_first (Some end) happens goes next = absurd (none_some end goes.2)

  -- a run that ended goes no further
  pub happen_end : (xs ys : List Numbered) (old new : Running D M) (before now : Taking) (end : Ran)
      → On xs old new before now (Some end) → On (xs ++ ys) old new before now (Some end)
  happen_end [] ys old new before now end over = absurd (none_some end (sym over.2))
  happen_end (x ∷ xs) ys old new before now end over =
      by_first over.2 over.3 over.4 (λ goes. happen_end xs ys over.0 new over.1 now end goes)
    where
      by_first : (r : Option Ran) → Happens told m read faults size x old over.0 before over.1 r
          → GoesOn told m read faults size r (On xs over.0 new over.1 now (Some end)) over.0 new over.1 now (Some end)
          → (On xs over.0 new over.1 now (Some end) → On (xs ++ ys) over.0 new over.1 now (Some end)) → On (x ∷ (xs ++ ys)) old new before now (Some end)
      by_first None happens goes next = (over.0, over.1, None, happens, next goes)
      by_first (Some other) happens goes next = (over.0, over.1, Some other, happens, goes)

  -- ---- what an event leaves where the run goes on

  context_of : (context : Context) (line : ℕ) (event : Event) (became : Stepped) (before now : Taking) → PutsLines line became before now None
      → context_after context event became ≡ after context event
  context_of context line event (stepped.Went text) before now puts = refl
  context_of context line event (stepped.OverLimit text) before now puts = refl
  context_of context line event (stepped.Mistaken text mistake) before now puts = refl
  context_of context line event (stepped.Unmade cause) before now puts = absurd (none_some (ran.Unmade cause) puts.1)
  context_of context line event (stepped.Lost side cause) before now puts = absurd (none_some (ran.Lost cause) puts.1)

  lines_later : (line : ℕ) (became : Stepped) (before now : Taking) (result : Option Ran) → PutsLines line became before now result → before.faults ≤ now.faults
  lines_later line (stepped.Went text) before now result puts = puts.later
  lines_later line (stepped.OverLimit text) before now result puts = puts.later
  lines_later line (stepped.Mistaken text mistake) before now result puts = puts.later
  lines_later line (stepped.Unmade cause) before now result puts = let same = ap (λ (k : Taking). k.faults) puts.0 in omega (arith, same)
  lines_later line (stepped.Lost side cause) before now result puts = let same = ap (λ (k : Taking). k.faults) puts.0 in omega (arith, same)

  -- the disks are there
  pub disks_along : (events : List Numbered) (old new : Running D M) (before now : Taking) (result : Option Ran) → HasDisks old
      → On events old new before now result → HasDisks new
  disks_along [] old new before now result disks ran = subst (λ (r : Running D M). HasDisks r) (sym ran.0) disks
  disks_along (e ∷ events) old new before now result disks ran =
      by_first ran.2 ran.3 ran.4 (λ there goes. disks_along events ran.0 new ran.1 now result there goes)
    where
      by_first : (r : Option Ran) → Happens told m read faults size e old ran.0 before ran.1 r
          → GoesOn told m read faults size r (On events ran.0 new ran.1 now result) ran.0 new ran.1 now result
          → (HasDisks ran.0 → On events ran.0 new ran.1 now result → HasDisks new) → HasDisks new
      by_first None happens goes next = next happens.disks goes
      by_first (Some end) happens goes next = subst (λ (r : Running D M). HasDisks r) (sym goes.0) happens.disks

  -- the context moves on
  pub context_along : (events : List Numbered) (old new : Running D M) (before now : Taking) → On events old new before now None
      → new.context ≡ after_all old.context (events_at events)
  context_along [] old new before now ran = ap (λ (r : Running D M). r.context) ran.0
  context_along (e ∷ events) old new before now ran =
      by_first ran.2 ran.3 ran.4 (λ goes. context_along events ran.0 new ran.1 now goes)
    where
      by_first : (r : Option Ran) → Happens told m read faults size e old ran.0 before ran.1 r
          → GoesOn told m read faults size r (On events ran.0 new ran.1 now None) ran.0 new ran.1 now None
          → (On events ran.0 new ran.1 now None → new.context ≡ after_all (ran.0).context (events_at events)) → new.context ≡ after_all (after old.context e.event) (events_at events)
      by_first None happens goes next =
          next goes
          ∙ ap (λ (c : Context). after_all c (events_at events)) (happens.context ∙ context_of old.context e.line e.event happens.became before ran.1 happens.puts)
      by_first (Some end) happens goes next = absurd (none_some end goes.2)

  -- the sink's count never falls
  pub faults_along : (events : List Numbered) (old new : Running D M) (before now : Taking) (result : Option Ran) → On events old new before now result
      → before.faults ≤ now.faults
  faults_along [] old new before now result ran = let same = ap (λ (k : Taking). k.faults) ran.1 in omega (arith, same)
  faults_along (e ∷ events) old new before now result ran =
      by_first ran.2 ran.3 ran.4 (λ goes. faults_along events ran.0 new ran.1 now result goes)
    where
      by_first : (r : Option Ran) → Happens told m read faults size e old ran.0 before ran.1 r
          → GoesOn told m read faults size r (On events ran.0 new ran.1 now result) ran.0 new ran.1 now result
          → (On events ran.0 new ran.1 now result → (ran.1).faults ≤ now.faults) → before.faults ≤ now.faults
      by_first None happens goes next =
          let first = lines_later e.line happens.became before ran.1 None happens.puts in
          let later = next goes in
          omega (arith, first, later)
      by_first (Some end) happens goes next =
          let first = lines_later e.line happens.became before ran.1 (Some end) happens.puts in
          let same = ap (λ (k : Taking). k.faults) goes.1 in
          omega (arith, first, same)

  -- ---- through a run

  -- events that went through
  pub through : (done events : List Numbered) (start old new : Running D M) (taken : Option (List ℕ)) (before now : Taking)
      → InRun told m read faults size done start old taken before.taken → IsTrue (are_admitted old.context (events_at events))
      → On events old new before now None → InRun told m read faults size (done ++ events) start new taken now.taken
  through done [] start old new taken before now was admitted ran =
      subst (λ (r : Running D M). InRun told m read faults size (done ++ []) start r taken now.taken) (sym ran.0)
      (subst (λ (k : Taking). InRun told m read faults size (done ++ []) start old taken k.taken) (sym ran.1)
      (subst (λ (events : List Numbered). InRun told m read faults size events start old taken before.taken) (sym (append-nil done)) was))
  through done (e ∷ events) start old new taken before now was admitted ran =
      by_first ran.2 ran.3 ran.4 (λ on next goes. through (done ++ e ∷ []) events start ran.0 new taken ran.1 now on next goes)
    where
      by_first : (r : Option Ran) → Happens told m read faults size e old ran.0 before ran.1 r
          → GoesOn told m read faults size r (On events ran.0 new ran.1 now None) ran.0 new ran.1 now None
          → (InRun told m read faults size (done ++ e ∷ []) start ran.0 taken (ran.1).taken → IsTrue (are_admitted (ran.0).context (events_at events))
          → On events ran.0 new ran.1 now None → InRun told m read faults size ((done ++ e ∷ []) ++ events) start new taken now.taken)
          → InRun told m read faults size (done ++ e ∷ events) start new taken now.taken
      by_first None happens goes further =
          let parts = and_parts (admits old.context e.event) (are_admitted (after old.context e.event) (events_at events)) admitted in
          let next : IsTrue (are_admitted (ran.0).context (events_at events)) =
          subst (λ (c : Context). IsTrue (are_admitted c (events_at events)))
          (sym (happens.context ∙ context_of old.context e.line e.event happens.became before ran.1 happens.puts)) parts.1 in
          subst (λ (all : List Numbered). InRun told m read faults size all start new taken now.taken) (append_assoc done (e ∷ []) events)
          (further (went told m read faults size done start old ran.0 taken before ran.1 e was parts.0 happens) next goes)
      by_first (Some end) happens goes further = absurd (none_some end goes.2)

  abbrev EndedBy : (all : List Numbered) → (start r : Running D M) → (taken : Option (List ℕ)) → (k : Taking) → (begun : ℕ) → Option Ran → Type 0
  EndedBy all start r taken k begun None = ⊥
  EndedBy all start r taken k begun (Some x) = Ended told m read faults size all start r taken k.taken begun k.faults x

  -- events with which a run ends
  pub ends_in : (done events : List Numbered) (start old new : Running D M) (taken : Option (List ℕ)) (begun : ℕ) (before now : Taking) (end : Ran)
      → begun ≤ before.faults → InRun told m read faults size done start old taken before.taken → IsTrue (are_admitted old.context (events_at events))
      → On events old new before now (Some end) → Ended told m read faults size (done ++ events) start new taken now.taken begun now.faults end
  ends_in done [] start old new taken begun before now end le was admitted ran = absurd (none_some end (sym ran.2))
  ends_in done (e ∷ events) start old new taken begun before now end le was admitted ran =
      by_first ran.2 ran.3 ran.4 (λ later on next goes. ends_in (done ++ e ∷ []) events start ran.0 new taken begun ran.1 now end later on next goes)
    where
      by_first : (r : Option Ran) → Happens told m read faults size e old ran.0 before ran.1 r
          → GoesOn told m read faults size r (On events ran.0 new ran.1 now (Some end)) ran.0 new ran.1 now (Some end)
          → (begun ≤ (ran.1).faults → InRun told m read faults size (done ++ e ∷ []) start ran.0 taken (ran.1).taken
          → IsTrue (are_admitted (ran.0).context (events_at events)) → On events ran.0 new ran.1 now (Some end)
          → Ended told m read faults size ((done ++ e ∷ []) ++ events) start new taken now.taken begun now.faults end)
          → Ended told m read faults size (done ++ e ∷ events) start new taken now.taken begun now.faults end
      by_first None happens goes further =
          let parts = and_parts (admits old.context e.event) (are_admitted (after old.context e.event) (events_at events)) admitted in
          let next : IsTrue (are_admitted (ran.0).context (events_at events)) =
          subst (λ (c : Context). IsTrue (are_admitted c (events_at events)))
          (sym (happens.context ∙ context_of old.context e.line e.event happens.became before ran.1 happens.puts)) parts.1 in
          let later = lines_later e.line happens.became before ran.1 None happens.puts in
          subst (λ (all : List Numbered). Ended told m read faults size all start new taken now.taken begun now.faults end) (append_assoc done (e ∷ []) events)
          (further (omega (arith, le, later))
          (went told m read faults size done start old ran.0 taken before ran.1 e was parts.0 happens) next goes)
      by_first (Some other) happens goes further =
          let parts = and_parts (admits old.context e.event) (are_admitted (after old.context e.event) (events_at events)) admitted in
          let last = ended told m read faults size done start old ran.0 taken begun before ran.1 e events other le was parts.0 happens in
          subst (λ (k : Taking). Ended told m read faults size (done ++ e ∷ events) start new taken k.taken begun k.faults end) (sym goes.1)
          (subst (λ (r : Running D M). Ended told m read faults size (done ++ e ∷ events) start r taken (ran.1).taken begun (ran.1).faults end) (sym goes.0)
          (subst (λ (o : Option Ran). EndedBy (done ++ e ∷ events) start ran.0 taken ran.1 begun o) (sym goes.2) last))

  -- memory ran out
  pub cut_in : (events : List Numbered) (start : Running D M) (before now : Taking) → InRun told m read faults size [] start start before.taken before.taken
      → IsTrue (are_admitted start.context (events_at events)) → IsCut told m read faults size events start before now
      → RanOut told m read (mech_of start) events before.taken now.taken
  cut_in events start before now was admitted cut =
      let all : IsTrue (are_admitted start.context (events_at cut.done ++ events_at cut.rest)) =
      subst (λ (xs : List Event). IsTrue (are_admitted start.context xs)) (ap events_at cut.are ∙ events_join cut.done cut.rest) admitted in
      subst (λ (xs : List Numbered). RanOut told m read (mech_of start) xs before.taken now.taken) (sym cut.are)
      (starved told m read faults size cut.done cut.rest start cut.new before.taken now.taken
      (through [] cut.done start start cut.new before.taken before now was (admitted_join start.context (events_at cut.done) (events_at cut.rest) all).0 cut.happened))

  pub cut_later : (events : List Numbered) (start : Running D M) (before now : Taking) → IsCut told m read faults size events start before now → before.faults ≤ now.faults
  cut_later events start before now cut = faults_along cut.done start cut.new before now None cut.happened
