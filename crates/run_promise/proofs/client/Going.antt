-- A run of three machines as its client goes: what holds of the client between turns, and the laws of its word.
use Rattle.std.proofs.Common.{◌≡◌, ◌∙◌, ℕ, zero, suc, ◌<◌, List, [], ◌∷◌, length, map, Option, Some, None, refl, sym, ap, subst, arith}
use Rattle.std.specs.Prelude.{IfSome, slice_get, slice_index_or}
use Rattle.std.specs.List.{AllByRecursion}
use Rattle.std.proofs.lemmas.List.Elements.{recursion_from_All}
use Rattle.caller_laws.specs.Good.{Identity}
use Rattle.client_core.specs.Endings.{ways_of}
use Rattle.client_core.specs.State.{ClientState}
use Rattle.client_laws.specs.CallerLaws.{StartsOwn}
use Rattle.client_laws.specs.MountTurns.{TakesBytes}
use Rattle.client_laws.specs.Speaking.Carried.{IsCarried, SendsBytes}
use Rattle.client_laws.specs.Speaking.Views.{IsClientStep, IsSeenAt}
use Rattle.client_laws.specs.Turns.{IsTurn, MayTurn, Turn}
use Rattle.client_laws.specs.WholeTurns.{IsSpelledAtBoth, IsTurnAtBoth, Purposes, acts_of, sent_of, took_in}
use Rattle.client_steps.specs.declared.setting.Setting.{Setting}
use Rattle.dest_core.specs.Stepping.{DestState}
use Rattle.nfs_base.specs.declared.seal.End.TheVariants as ends
use Rattle.outbox.specs.declared.outgoing.Outbox.{Outbox}
use Rattle.outbox.specs.declared.outgoing.Outgoing.{Outgoing}
use Rattle.run_ends.specs.Ends.{RunStep, RunWorld, SourceState, Words, client_does, machines, ways}
use Rattle.run_ends.specs.Handling.{client_took}
use Rattle.run_promise.specs.Client.Along.{GoesAlong, Goes, Turned, act_at, client_at, codes_of, part_by, run_at, second_at}
use Rattle.run_promise.specs.Client.Turns.{turn_of}
use Rattle.run_promise.specs.Client.View.{client_view}
use Rattle.run_promise.specs.System.System.{system_of, telling}
use Rattle.wire_machine.specs.Ends as acts
use Rattle.wire_machine.specs.Ends.{ClientAct}
use Rattle.wire_machine.specs.History as histories
use Rattle.wire_machine.specs.History.{Telling, part_acts}
use Rattle.wire_machine.specs.World.{Part}
use Rattle.wire_meaning.specs.Meaning.{meaning}
use Rattle.wire_model.specs.Meaning.{Meaning}
use Rattle.wire_model.specs.Spelling.{Spelling}
use Rattle.wire_model.specs.System.{System}
use Rattle.wire_model.specs.Wire.{Sent}
use Rattle.wire_model.specs.WordLaws.{WordLaws}
use Rattle.wire_spelling.specs.Spelling.{spelling}
use Rattle.wire_xdr.specs.Cursor.{IsBytes}

-- ---- an act is a turn

took_same : (act : ClientAct) (now : ℕ) → client_took act ≡ took_in (turn_of act now)
took_same (acts.Writes side file off bytes) now = refl
took_same (acts.Commits side file) now = refl
took_same (acts.Begins copy spec) now = refl
took_same (acts.Asks copy) now = refl
took_same (acts.Cancels copy) now = refl
took_same acts.Retries now = refl
took_same (acts.ClientTakes from bytes) now = refl
took_same acts.ClientTicks now = refl

takes_bytes : (act : ClientAct) (now : ℕ) → IfSome (client_took act) IsBytes → TakesBytes (turn_of act now)
takes_bytes (acts.Writes side file off bytes) now taken = tt
takes_bytes (acts.Commits side file) now taken = tt
takes_bytes (acts.Begins copy spec) now taken = tt
takes_bytes (acts.Asks copy) now taken = tt
takes_bytes (acts.Cancels copy) now taken = tt
takes_bytes acts.Retries now taken = tt
takes_bytes (acts.ClientTakes from bytes) now taken = taken
takes_bytes acts.ClientTicks now taken = tt

sent_bytes : (sent : List Outgoing) (k : ℕ) (x : Sent) → AllByRecursion (λ (o : Outgoing). IsBytes o.bytes) sent → k < length (map sent_of sent)
    → slice_index_or (map sent_of sent) k x ≡ x → IsBytes x.bytes
sent_bytes [] k x all lt is = absurd (grind (arith, lt))
sent_bytes (o ∷ sent) zero x all lt is = subst (λ (y : Sent). IsBytes y.bytes) is all.0
sent_bytes (o ∷ sent) (suc k) x all lt is = sent_bytes sent k x all.1 (grind (arith, lt)) is

part_same : (act : ClientAct) (now : ℕ) (part : Part) → part.took ≡ client_took act → part_acts part None ≡ acts_of (turn_of act now) part.out
part_same act now part took =
    ap (λ (o : Option (List ℕ)). record { took = o; accepted = part.out.accepted; executed = None; out = map sent_of part.out.sent }) (took ∙ took_same act now)

module _ {M : Type 0} (words : Words M ℕ) where
  is_turn : (act : ClientAct) (now : ℕ) (c d : ClientState M) (v w : ℕ) (out : Outbox) → client_does words act now c v d w out
      → IsTurn (ways words c) words.gives (turn_of act now) c v w (d, out)
  is_turn (acts.Writes side file off bytes) now c d v w out does = does
  is_turn (acts.Commits side file) now c d v w out does = does
  is_turn (acts.Begins copy spec) now c d v w out does = does
  is_turn (acts.Asks copy) now c d v w out does = does
  is_turn (acts.Cancels copy) now c d v w out does = does
  is_turn acts.Retries now c d v w out does = does
  is_turn (acts.ClientTakes from bytes) now c d v w out does = does
  is_turn acts.ClientTicks now c d v w out does = does

  -- ---- what is proved of a client's turn (`client_laws::speaking`)

  abbrev pub CarriesOn : Type 0
  CarriesOn =
      (s : Setting M) (who : Identity) (boot : ℕ) (purposes : Purposes) (turn : Turn) (c d : ClientState M) (v w : ℕ) (out : Outbox)
      (t : IsTurnAtBoth who (ways_of words.mic words.derived words.finished words.started words.accepted s) boot purposes turn c d out)
      → MayTurn turn c → TakesBytes turn → IsTurn (ways_of words.mic words.derived words.finished words.started words.accepted s) words.gives turn c v w (d, out)
      → IsSpelledAtBoth who (ways_of words.mic words.derived words.finished words.started words.accepted s) boot purposes turn c d out t
      → SendsBytes (acts_of turn out) → IsCarried who boot purposes c → IsCarried who boot (λ side. (t side).after) d

  abbrev pub AreLawful : Type 0
  AreLawful =
      (s : Setting M) (who : Identity) (boot : ℕ) (purposes : Purposes) (turn : Turn) (c d : ClientState M) (v w : ℕ) (out : Outbox)
      (t : IsTurnAtBoth who (ways_of words.mic words.derived words.finished words.started words.accepted s) boot purposes turn c d out) (system : System) (k : ℕ)
      → StartsOwn who (ways_of words.mic words.derived words.finished words.started words.accepted s) words.gives → IsCarried who boot purposes c
      → IsClientStep who (ways_of words.mic words.derived words.finished words.started words.accepted s) words.gives boot purposes turn c d v w out t system k
      → WordLaws (spelling who.accepts who.whose) meaning system k

  abbrev pub MayRest : Type 0
  MayRest =
      (spell : Spelling) (meaning : Meaning) (boot : ℕ) (purposes : Purposes) (c : ClientState M) (s : System) (k : ℕ)
      → IsSeenAt boot purposes c s k → IsSeenAt boot purposes c s (suc k) → WordLaws spell meaning s k

  -- ---- a step

  module _ (who : Identity) (p q : Purposes) (c d : ClientState M) (part : Part) (now : ℕ) where
    sends : (act : ClientAct) → Turned words who p q act now c d part → SendsBytes (acts_of (turn_of act now) part.out)
    sends act t bytes seal there =
        sent_bytes part.out.sent there.0 (record { bytes = bytes; seal = seal }) (recursion_from_All (λ (o : Outgoing). IsBytes o.bytes) part.out.sent t.acted.goes.1.sent) there.1 there.2

    pub carried_on : CarriesOn → (o : Option ClientAct) → Goes words who p q o now c d part → IsCarried who 0 p c → IsCarried who 0 q d
    carried_on law None goes x =
        subst (λ (y : ClientState M). IsCarried who 0 q y) (sym goes.0.same) (subst (λ (r : Purposes). IsCarried who 0 r c) (sym goes.1) x)
    carried_on law (Some act) t x =
        subst (λ (r : Purposes). IsCarried who 0 r d) (sym t.after)
        (law c.setting who 0 p (turn_of act now) c d t.acted.draws t.acted.after part.out t.spelled.turns t.may (takes_bytes act now t.acted.goes.1.taken)
        (is_turn act now c d t.acted.draws t.acted.after part.out t.acted.goes.0) t.spelled.spelled (sends act t) x)

    pub worded : AreLawful → MayRest → (s : System) (k : ℕ) → (o : Option ClientAct) → Goes words who p q o now c d part → IsCarried who 0 p c
        → StartsOwn who (ways words c) words.gives → IsSeenAt 0 p c s k → IsSeenAt 0 q d s (suc k) → s.acts ends.Client k ≡ part_acts part None
        → WordLaws (spelling who.accepts who.whose) meaning s k
    worded law rest s k None goes x own before after acts_are =
        rest (spelling who.accepts who.whose) meaning 0 p c s k before
        (subst (λ (r : Purposes). IsSeenAt 0 r c s (suc k)) goes.1 (subst (λ (y : ClientState M). IsSeenAt 0 q y s (suc k)) goes.0.same after))
    worded law rest s k (Some act) t x own before after acts_are =
        law c.setting who 0 p (turn_of act now) c d t.acted.draws t.acted.after part.out t.spelled.turns s k own x
        (record {
          before = before;
          after = subst (λ (r : Purposes). IsSeenAt 0 r d s (suc k)) t.after after;
          acts = acts_are ∙ part_same act now part t.acted.took;
          may = t.may;
          takes = takes_bytes act now t.acted.goes.1.taken;
          step = is_turn act now c d t.acted.draws t.acted.after part.out t.acted.goes.0;
          spelled = t.spelled.spelled;
          sends = sends act t;
        })

  -- ---- along a run

  acts_same : (tell : Telling (SourceState M) (DestState M)) (spell : Spelling) (mean : Meaning) (before : RunWorld M) (o : Option (RunStep M))
      → histories.acts_of (machines words) tell spell mean before o ends.Client ≡ part_acts (part_by o) None
  acts_same tell spell mean before None = refl
  acts_same tell spell mean before (Some s) = refl

  module _ (who : Identity) (spell : Spelling) (mean : Meaning) (first : RunWorld M) (steps : List (RunStep M)) (along : GoesAlong words spell mean first steps who) where
    pub carried_at : CarriesOn → IsCarried who 0 (along.purposes 0) first.client → (k : ℕ) → IsCarried who 0 (along.purposes k) (client_at words spell mean first steps k)
    carried_at law start zero = start
    carried_at law start (suc k) =
        carried_on who (along.purposes k) (along.purposes (suc k)) (client_at words spell mean first steps k) (client_at words spell mean first steps (suc k))
        (part_by (slice_get steps k)) (second_at words spell mean first steps k) law (act_at words spell mean first steps k) (along.goes k) (carried_at law start k)

    abbrev pub system : System
    system = system_of (machines words) (codes_of words) spell mean client_view first steps along.purposes

    pub seen_at : (k : ℕ) → IsSeenAt 0 (along.purposes k) (client_at words spell mean first steps k) system k
    unfolding system_of
    seen_at k = record { source = refl; dest = refl; word = λ n. refl; held = λ name. refl }

    pub acts_at : (k : ℕ) → system.acts ends.Client k ≡ part_acts (part_by (slice_get steps k)) None
    unfolding system_of
    acts_at k = acts_same (telling (codes_of words)) spell mean (run_at words spell mean first steps k) (slice_get steps k)
