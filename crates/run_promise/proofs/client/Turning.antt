-- From a client that is fit and settled, each act leads to another, and what its calls in slots are for goes along.
use Rattle.std.proofs.Common.{◌≡◌, ℕ, zero, suc, ◌<◌, Option, Some, None, refl, sym, subst, ◌∙◌}
use Rattle.std.specs.Prelude.{IfSome}
use Rattle.caller_laws.specs.Good.{Identity}
use Rattle.client_core.specs.Endings.{Ways, ways_of}
use Rattle.client_core.specs.State.{ClientState}
use Rattle.client_laws.specs.Bounds.Known.{ClientIsFit}
use Rattle.client_laws.specs.Bounds.Ways.{WaysAreFit}
use Rattle.client_laws.specs.CallerLaws.{StartsOwn}
use Rattle.client_laws.specs.Fits.{TurnIsFit}
use Rattle.client_laws.specs.MountTurns.{TakesBytes}
use Rattle.client_laws.specs.Turns.{IsTurn, MayTurn, Turn}
use Rattle.client_laws.specs.WholeTurns.{IsSettled, IsSpelledAtBoth, IsSpelledTurn, IsTurnAtBoth, Purposes}
use Rattle.client_steps.specs.declared.setting.Setting.{Setting}
use Rattle.outbox.specs.declared.outgoing.Outbox.{Outbox}
use Rattle.run_ends.specs.Ends.{Words, client_does, ways}
use Rattle.run_ends.specs.Handling.{client_took}
use Rattle.run_promise.specs.Client.Along.{Goes, MayAct}
use Rattle.run_promise.specs.Client.Turns.{Acted, Does, turn_of}
use Rattle.wire_machine.specs.Ends as acts
use Rattle.wire_machine.specs.Ends.{ClientAct}
use Rattle.wire_machine.specs.World.{Part}
use Rattle.wire_model.specs.Wire.{ForOther}
use Rattle.wire_xdr.specs.Cursor.{IsBytes}

module _ {M : Type 0} (words : Words M ℕ) where
  abbrev pub ways_at : Setting M → Ways
  ways_at s = ways_of words.mic words.derived words.finished words.started words.accepted s

  pub is_turn : (act : ClientAct) (now : ℕ) (c d : ClientState M) (v w : ℕ) (out : Outbox) → client_does words act now c v d w out
      → IsTurn (ways words c) words.gives (turn_of act now) c v w (d, out)
  is_turn (acts.Writes side file off bytes) now c d v w out does = does
  is_turn (acts.Commits side file) now c d v w out does = does
  is_turn (acts.Begins copy spec) now c d v w out does = does
  is_turn (acts.Asks copy) now c d v w out does = does
  is_turn (acts.Cancels copy) now c d v w out does = does
  is_turn acts.Retries now c d v w out does = does
  is_turn (acts.ClientTakes from bytes) now c d v w out does = does
  is_turn acts.ClientTicks now c d v w out does = does

  pub takes_bytes : (act : ClientAct) (now : ℕ) → IfSome (client_took act) IsBytes → TakesBytes (turn_of act now)
  takes_bytes (acts.Writes side file off bytes) now are = tt
  takes_bytes (acts.Commits side file) now are = tt
  takes_bytes (acts.Begins copy spec) now are = tt
  takes_bytes (acts.Asks copy) now are = tt
  takes_bytes (acts.Cancels copy) now are = tt
  takes_bytes acts.Retries now are = tt
  takes_bytes (acts.ClientTakes from bytes) now are = are
  takes_bytes acts.ClientTicks now are = tt

  -- the laws of a client's turns
  pub record Laws (who : Identity) : Type 0 where
    pub spelled : (ways : Ways) (purposes : Purposes) (turn : Turn) (c d : ClientState M) (v w : ℕ) (out : Outbox) → StartsOwn who ways words.gives → MayTurn turn c
        → WaysAreFit ways words.gives → ClientIsFit c → TurnIsFit turn → IsTurn ways words.gives turn c v w (d, out) → d.calls < 4294967295
        → IsSpelledTurn who ways 0 purposes turn c d out
    pub fit : (ways : Ways) (turn : Turn) (c d : ClientState M) (v w : ℕ) (out : Outbox) → WaysAreFit ways words.gives → ClientIsFit c → TurnIsFit turn
        → IsTurn ways words.gives turn c v w (d, out) → ClientIsFit d
    pub setting : (ways : Ways) (turn : Turn) (c d : ClientState M) (v w : ℕ) (out : Outbox) → IsTurn ways words.gives turn c v w (d, out) → d.setting ≡ c.setting
    pub settled : (s : Setting M) (purposes : Purposes) (turn : Turn) (c d : ClientState M) (v w : ℕ) (out : Outbox)
        (t : IsTurnAtBoth who (ways_at s) 0 purposes turn c d out) → IsTurn (ways_at s) words.gives turn c v w (d, out) → IsSettled who c → TakesBytes turn
        → IsSpelledAtBoth who (ways_at s) 0 purposes turn c d out t → IsSettled who d

-- what is known of it between steps
pub record IsKnown {M : Type 0} (s : Setting M) (c : ClientState M) : Type 0 where
  pub setting : c.setting ≡ s
  pub fit : ClientIsFit c

module _ {M : Type 0} (words : Words M ℕ) (who : Identity) (laws : Laws words who) (s : Setting M) (starts : StartsOwn who (ways_at words s) words.gives)
    (fits : WaysAreFit (ways_at words s) words.gives) where
  starts_at : (c : ClientState M) → c.setting ≡ s → StartsOwn who (ways words c) words.gives
  starts_at c is = subst (λ (x : Setting M). StartsOwn who (ways_at words x) words.gives) (sym is) starts

  fits_at : (c : ClientState M) → c.setting ≡ s → WaysAreFit (ways words c) words.gives
  fits_at c is = subst (λ (x : Setting M). WaysAreFit (ways_at words x) words.gives) (sym is) fits

  abbrev turn_in : (act : ClientAct) (now : ℕ) (c d : ClientState M) (part : Part) → (a : Acted words act now c d part)
      → IsTurn (ways words c) words.gives (turn_of act now) c a.draws a.after (d, part.out)
  turn_in act now c d part a = is_turn words act now c d a.draws a.after part.out a.goes.0

  bytes_in : (act : ClientAct) (now : ℕ) (c d : ClientState M) (part : Part) → Acted words act now c d part → TakesBytes (turn_of act now)
  bytes_in act now c d part a = takes_bytes words act now a.goes.1.taken

  pub known_next : (o : Option ClientAct) (now : ℕ) (c d : ClientState M) (part : Part) → Does words o now c d part
      → ((act : ClientAct) → o ≡ Some act → MayAct act now c d) → IsKnown s c → IsKnown s d
  known_next None now c d part rest may known = subst (λ (x : ClientState M). IsKnown s x) (sym rest.same) known
  known_next (Some act) now c d part a may known =
      let turn = turn_in act now c d part a in
      record {
        setting = laws.setting (ways words c) (turn_of act now) c d a.draws a.after part.out turn ∙ known.setting;
        fit = laws.fit (ways words c) (turn_of act now) c d a.draws a.after part.out (fits_at c known.setting) known.fit
            ((may act refl).fit (bytes_in act now c d part a)) turn;
      }

  pub spelled_in : (purposes : Purposes) (act : ClientAct) (now : ℕ) (c d : ClientState M) (part : Part) → Acted words act now c d part → MayAct act now c d → IsKnown s c
      → IsSpelledTurn who (ways words c) 0 purposes (turn_of act now) c d part.out
  spelled_in purposes act now c d part a may known =
      laws.spelled (ways words c) purposes (turn_of act now) c d a.draws a.after part.out (starts_at c known.setting) may.may (fits_at c known.setting) known.fit
      (may.fit (bytes_in act now c d part a)) (turn_in act now c d part a) may.few

  abbrev pub purposes_next : (o : Option ClientAct) (now : ℕ) (c d : ClientState M) (part : Part) → Does words o now c d part
      → ((act : ClientAct) → o ≡ Some act → MayAct act now c d) → IsKnown s c → Purposes → Purposes
  purposes_next None now c d part rest may known purposes = purposes
  purposes_next (Some act) now c d part a may known purposes = λ side. ((spelled_in purposes act now c d part a (may act refl) known).turns side).after

  goes_next : (o : Option ClientAct) (now : ℕ) (c d : ClientState M) (part : Part) (does : Does words o now c d part)
      (may : (act : ClientAct) → o ≡ Some act → MayAct act now c d) (known : IsKnown s c) (purposes : Purposes)
      → Goes words who purposes (purposes_next o now c d part does may known purposes) o now c d part
  goes_next None now c d part rest may known purposes = (rest, refl)
  goes_next (Some act) now c d part a may known purposes =
      record { acted = a; may = (may act refl).may; spelled = spelled_in purposes act now c d part a (may act refl) known; after = refl }

  settled_next : (o : Option ClientAct) (now : ℕ) (c d : ClientState M) (part : Part) (before next : Purposes) → Goes words who before next o now c d part
      → IsSettled who c → IsSettled who d
  settled_next None now c d part before next goes settled = subst (λ (x : ClientState M). IsSettled who x) (sym goes.0.same) settled
  settled_next (Some act) now c d part before next goes settled =
      laws.settled c.setting before (turn_of act now) c d goes.acted.draws goes.acted.after part.out goes.spelled.turns (turn_in act now c d part goes.acted) settled
      (bytes_in act now c d part goes.acted) goes.spelled.spelled

  -- ---- along all moments

  module _ (o : ℕ → Option ClientAct) (now : ℕ → ℕ) (c : ℕ → ClientState M) (part : ℕ → Part) (does : (k : ℕ) → Does words (o k) (now k) (c k) (c (suc k)) (part k))
      (may : (k : ℕ) (act : ClientAct) → o k ≡ Some act → MayAct act (now k) (c k) (c (suc k))) (begin : (c 0).setting ≡ s) (fit : ClientIsFit (c 0)) where
    pub known_at : (k : ℕ) → IsKnown s (c k)
    known_at zero = record { setting = begin; fit = fit }
    known_at (suc k) = known_next (o k) (now k) (c k) (c (suc k)) (part k) (does k) (may k) (known_at k)

    pub fit_at : (k : ℕ) → ClientIsFit (c k)
    fit_at k = (known_at k).fit

    pub setting_at : (k : ℕ) → (c k).setting ≡ (c 0).setting
    setting_at k = (known_at k).setting ∙ sym begin

    abbrev pub purposes_at : ℕ → Purposes
    purposes_at zero = λ side place. ForOther
    purposes_at (suc k) = purposes_next (o k) (now k) (c k) (c (suc k)) (part k) (does k) (may k) (known_at k) (purposes_at k)

    pub goes_at : (k : ℕ) → Goes words who (purposes_at k) (purposes_at (suc k)) (o k) (now k) (c k) (c (suc k)) (part k)
    goes_at k = goes_next (o k) (now k) (c k) (c (suc k)) (part k) (does k) (may k) (known_at k) (purposes_at k)

    pub settled_at : IsSettled who (c 0) → (k : ℕ) → IsSettled who (c k)
    settled_at settled zero = settled
    settled_at settled (suc k) = settled_next (o k) (now k) (c k) (c (suc k)) (part k) (purposes_at k) (purposes_at (suc k)) (goes_at k) (settled_at settled k)
