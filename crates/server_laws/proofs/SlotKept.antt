-- What a COMPOUND that is carried out is to the slots, and that it leaves sessions as they should be.
use Rattle.std.proofs.Common.{◌≡◌, ℕ, ◌+◌, List, sym, ap, subst, ◌∙◌, add-one, arith}
use Rattle.context_laws.specs.View.{root_number}
use Rattle.sess_slots.specs.Table.{SessionTable}
use Rattle.compound_server.specs.State.{Given}
use Rattle.session_server.specs.Host.{Codes, HostState, Rules, Stepped}
use Rattle.session_server.specs.Steps.{who_calls}
use Rattle.slot_laws.specs.CompoundLaws.{compound_turns}
use Rattle.slot_laws.specs.EffectLaws.{turns_below, turns_few, turns_sound}
use Rattle.slot_laws.specs.Sound.{AreBelow, IsSound}
use Rattle.slot_laws.specs.Turns.{Turns, is_retry}
use Rattle.server_laws.specs.Slots.{HasSlots, IsCompoundStep, given_under}

module _ {X C : Type 0} (rules : Rules X C) (codes : Codes) (conn : ℕ) (bytes : List ℕ) (second : ℕ) (s : HostState X C) (t : Stepped X C)
    (has : HasSlots s) (k : IsCompoundStep rules codes conn bytes second s t) where
  -- the root of the calling context
  abbrev pub root : ℕ
  root = root_number k.asked.context.parent k.asked.number

  abbrev pub given : Given X
  given = given_under rules k.choice second conn k.asked.number k.asked.seq k.asked.context k.compound s

  pub turn : Turns (is_retry root k.compound s.state.sessions) root k.compound.tag k.compound.ops s.state.sessions given.state.sessions given.body
  turn =
      compound_turns rules.service rules.parting k.choice (who_calls second conn (record { number = k.asked.number; seq = k.asked.seq }) k.asked.context)
      k.asked.context.principal k.asked.context.carry k.compound s.state has.sound

  pub sessions_are : t.host.state.sessions ≡ given.state.sessions
  sessions_are = ap (λ x. x.host.state.sessions) k.step_is

  pub compound_has : HasSlots t.host
  compound_has =
      let retry = is_retry root k.compound s.state.sessions in
      let steps : t.host.steps ≡ s.steps + 1 = ap (λ x. x.host.steps) k.step_is in
      let few = turns_few retry root k.compound.tag k.compound.ops s.state.sessions given.state.sessions given.body turn in
      record {
        sound =
            subst IsSound (sym sessions_are)
            (turns_sound retry root k.compound.tag k.compound.ops s.state.sessions given.state.sessions given.body has.sound turn);
        few = omega (arith, few, ap (λ (x : SessionTable). x.sessions_made) sessions_are, steps, has.few);
        below =
            subst (λ (x : SessionTable). AreBelow t.host.steps x) (sym sessions_are)
            (subst (λ n. AreBelow n given.state.sessions) (sym (steps ∙ add-one s.steps))
            (turns_below retry root k.compound.tag k.compound.ops s.state.sessions given.state.sessions given.body has.sound turn s.steps has.below));
      }
