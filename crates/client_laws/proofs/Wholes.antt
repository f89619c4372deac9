-- In a turn the client owes each of its servers what every caller owes, in all that it took and sent.
use Rattle.std.proofs.Common.{◌≡◌, ◌∙◌, ◌⊎◌, inl, inr, ℕ, ◌<◌, ◌≤◌, Bool, true, false, List, [], ◌∷◌, Option, Some, None, refl, sym, ap, subst, arith}
use Rattle.std.specs.Prelude.{Contains, ◌||◌}
use Rattle.caller_laws.specs.Good.{Identity, IsGood}
use Rattle.caller_laws.specs.OneStep.Runs.{whole}
use Rattle.caller_laws.specs.View.{caller_of}
use Rattle.client_core.specs.Endings.{Ways}
use Rattle.client_core.specs.State.{ClientState}
use Rattle.client_core.specs.Telling.{mount_at}
use Rattle.client_laws.proofs.MountMoves.{takes_of}
use Rattle.client_laws.proofs.Numbered.{AreNumbered, IsSeen, called, calls_seen, counted_in, numbered_from, numbered_once, out_of_all, run_numbers, run_sealed, seen_in, xids}
use Rattle.client_laws.proofs.WholeRuns.{IsOneRun, Knows, one_run, outs_whole, taken_whole, whole_owner}
use Rattle.client_laws.specs.CallerLaws.{above_at, acts_in, calls_to, goes_to, is_call, taken_by, taken_in}
use Rattle.client_laws.specs.MountTurns.{HearsAt, HearsElsewhere, IsOut, TakesBytes}
use Rattle.client_laws.specs.Order.{count_behind, numbers_to}
use Rattle.client_laws.specs.Turns.{Hears, Turn}
use Rattle.client_laws.specs.WholeTurns.{IsLawfulTurn, IsSettled, IsSpelledAtBoth, IsTurnAtBoth, Purposes, acts_of, sent_of, took_in}
use Rattle.client_site.specs.Sites.{end_of}
use Rattle.gss_mech.specs.Tokens.{IsSized}
use Rattle.nfs_base.specs.declared.seal.End.{End}
use Rattle.nfs_base.specs.declared.seal.End.TheVariants as ends
use Rattle.nfs_base.specs.declared.seal.Seal.{Seal}
use Rattle.nfs_base.specs.declared.side.Side.{Side}
use Rattle.nfs_base.specs.declared.side.Side.TheVariants.{Source, Dest}
use Rattle.outbox.specs.declared.outgoing.Outbox.{Outbox}
use Rattle.outbox.specs.declared.outgoing.Outgoing.{Outgoing}
use Rattle.wire_model.specs.CallerLaws.{CallerLaws, IsSent, LearnsChild, LearnsRoot, Takes}
use Rattle.wire_model.specs.Spelling.{Context}
use Rattle.wire_model.specs.Wire as wire
use Rattle.wire_model.specs.Wire.{Acts, Awaited, Caller, Sent, What}
use Rattle.wire_spelling.specs.Calls.{xid_in}
use Rattle.wire_spelling.specs.Replies.{is_reply}
use Rattle.wire_spelling.specs.Spelling.{spelling}

one_end : (a b : Side) → end_of a ≡ end_of b → a ≡ b
one_end Source Source e = refl
one_end Dest Dest e = refl
one_end Source Dest e = absurd cc
one_end Dest Source e = absurd cc

no_client : {A : Type 0} (side : Side) → ends.Client ≡ end_of side → A
no_client Source e = absurd cc
no_client Dest e = absurd cc

abbrev hears_there : Turn → Option Side
hears_there (Hears side message now) = Some side
hears_there _ = None

one_side : (a b : Side) (x y : List ℕ) (i j : ℕ) → Hears a x i ≡ Hears b y j → a ≡ b
one_side a b x y i j e =
    let both : Some a ≡ Some b = ap hears_there e in
    cc

either_of : (a b : Bool) → (a || b) ≡ true → (a ≡ true) ⊎ (b ≡ true)
either_of true b e = inl refl
either_of false b e = inr e

-- what was taken, as two tell it
record IsSameTaken (took : Option (List ℕ)) (accepted : Option Seal) (message : List ℕ) (by : Option Seal) : Type 0 where
  took_is : took ≡ Some message
  accepted_is : accepted ≡ by

same_taken : (took : Option (List ℕ)) (accepted : Option Seal) (message : List ℕ) (by : Option Seal) → taken_by took accepted ≡ (message, by) ∷ [] → IsSameTaken took accepted message by
same_taken None accepted message by e = absurd cc
same_taken (Some reply) accepted message by e =
    let both : (reply, accepted) ∷ [] ≡ (message, by) ∷ [] = e in
    let pair : (reply, accepted) ≡ (message, by) = cc in
    record { took_is = ap (λ (p : List ℕ × Option Seal). Some p.0) pair; accepted_is = ap (λ (p : List ℕ × Option Seal). p.1) pair }

untaken : {A : Type 0} (took : Option (List ℕ)) (accepted : Option Seal) (reply : List ℕ) → taken_by took accepted ≡ [] → took ≡ Some reply → A
untaken None accepted reply e is = absurd cc
untaken (Some taken) accepted reply e is = absurd cc

module _ {M : Type 0} (who : Identity) (ways : Ways) (knows : Knows who ways.means) (boot : ℕ) (purposes : Purposes) (turn : Turn) (c d : ClientState M) (out : Outbox)
    (t : IsTurnAtBoth who ways boot purposes turn c d out) (settled : IsSettled who c) (sized : IsSized ways.means.mic) (bytes_come : TakesBytes turn)
    (spelled : IsSpelledAtBoth who ways boot purposes turn c d out t) where
  abbrev v_at : Side → Caller
  v_at side = caller_of (above_at boot (purposes side) c) (mount_at side c)

  abbrev w_at : Side → Caller
  w_at side = caller_of (above_at boot (t side).after d) (mount_at side d)

  joined_at : (side : Side) → IsOneRun who ways.means (t side).steps (v_at side) (w_at side) (mount_at side c) (mount_at side d)
  joined_at side =
      let x = t side in
      one_run who ways.means knows d.copies x.steps (above_at boot (purposes side) c) (above_at boot x.after d) (mount_at side c) (mount_at side d) x.run (spelled side) x.asks
      x.order (settled.good side)

  abbrev own_acts : Side → Acts
  own_acts side = whole ways.means (t side).steps (mount_at side c)

  abbrev outs_at : Side → List Sent
  outs_at side = (own_acts side).out

  sent_at : (side : Side) → outs_at side ≡ calls_to side out.sent
  sent_at side = sym (outs_whole ways.means (t side).steps (mount_at side c)) ∙ (t side).sent

  abbrev Own : (side : Side) → Type 0
  Own side = CallerLaws (spelling who.accepts who.whose) (end_of side) who.own (v_at side) (w_at side) (own_acts side)

  laws_at : (side : Side) → Own side
  laws_at side =
      subst (λ (owner : End). CallerLaws (spelling who.accepts who.whose) owner who.own (v_at side) (w_at side) (own_acts side)) (settled.server side) (joined_at side).laws

  -- ---- what goes out

  numbers_at : (side : Side) → xids (calls_to side out.sent) ≡ numbers_to side c.calls out.sent
  numbers_at side =
      let x = t side in
      ap xids (sym (sent_at side))
      ∙ run_numbers who ways.means knows x.steps (above_at boot (purposes side) c) (above_at boot x.after d) (mount_at side c) (mount_at side d) x.run (spelled side) (settled.good side)
      ∙ x.numbers

  numbered : AreNumbered c.calls out.sent
  numbered = numbered_from ways.means.mic turn c.back.owner c.calls out.sent (numbers_at Source) (numbers_at Dest) (t Source).goes_out

  forth : (side : Side) (bytes : List ℕ) (seal : Option Seal) → wire.Sends (own_acts side) bytes seal → wire.Sends (acts_of turn out) bytes seal
  forth side bytes seal sends =
      let it : Sent = record { bytes = bytes; seal = seal } in
      calls_seen side out.sent it (subst (λ (sent : List Sent). Contains sent it) (sent_at side) sends)

  called_at : (side : Side) (one : Outgoing) → Contains out.sent one → goes_to side one.to ≡ true → is_call one.label ≡ true → Contains (outs_at side) (sent_of one)
  called_at side one there to call = subst (λ (sent : List Sent). Contains sent (sent_of one)) (sym (sent_at side)) (called side out.sent one there to call)

  sealed_at : (side : Side) (bytes : List ℕ) (seal : Seal) → Contains (outs_at side) (record { bytes = bytes; seal = Some seal }) → seal.owner ≡ end_of side
  sealed_at side bytes seal there =
      let x = t side in
      run_sealed who ways.means knows x.steps (above_at boot (purposes side) c) (above_at boot x.after d) (mount_at side c) (mount_at side d) x.run (spelled side) (settled.good side)
      bytes seal there
      ∙ settled.server side

  -- what is sealed for a server is one of its run's calls
  by_side : (side at : Side) (one : Outgoing) (bytes : List ℕ) (seal : Seal) → Contains out.sent one → sent_of one ≡ record { bytes = bytes; seal = Some seal } → seal.owner ≡ end_of side
      → goes_to at one.to ≡ true → is_call one.label ≡ true → wire.Sends (own_acts side) bytes (Some seal)
  by_side side at one bytes seal there is own to call =
      let it : Sent = record { bytes = bytes; seal = Some seal } in
      let here : Contains (outs_at at) it = subst (λ (s : Sent). Contains (outs_at at) s) is (called_at at one there to call) in
      let same : at ≡ side = one_end at side (sym (sealed_at at bytes seal here) ∙ own) in
      subst (λ (x : Side). Contains (outs_at x) it) same here

  own_answer : {A : Type 0} (side : Side) (one : Outgoing) (bytes : List ℕ) (seal : Seal) → IsOut ways.means.mic turn c.back.owner one → is_call one.label ≡ false
      → sent_of one ≡ record { bytes = bytes; seal = Some seal } → seal.owner ≡ end_of side → A
  own_answer side one bytes seal (inl call) none is own =
      let both : true ≡ false = sym call.0 ∙ none in
      absurd cc
  own_answer side one bytes seal (inr answer) none is own =
      no_client side (sym settled.owner ∙ sym (answer.1.0 seal (ap (λ (s : Sent). s.seal) is)) ∙ own)

  back : (side : Side) (bytes : List ℕ) (seal : Seal) → wire.Sends (acts_of turn out) bytes (Some seal) → seal.owner ≡ end_of side → wire.Sends (own_acts side) bytes (Some seal)
  back side bytes seal sends own =
      let it = seen_in out.sent (record { bytes = bytes; seal = Some seal }) sends in
      by it (out_of_all ways.means.mic turn c.back.owner out.sent it.one (t side).goes_out it.there)
    where
      by : (it : IsSeen out.sent (record { bytes = bytes; seal = Some seal })) → IsOut ways.means.mic turn c.back.owner it.one → wire.Sends (own_acts side) bytes (Some seal)
      by it (inl call) =
          elim (either_of (goes_to Source it.one.to) (goes_to Dest it.one.to) call.1) [
            | inl source ↦ by_side side Source it.one bytes seal it.there it.is own source call.0
            | inr dest ↦ by_side side Dest it.one bytes seal it.there it.is own dest call.0
          ]
      by it (inr answer) = own_answer side it.one bytes seal (inr answer) answer.0 it.is own

  -- what is no reply is a call
  record IsCall (bytes : List ℕ) : Type 0 where
    one : Outgoing
    there : Contains out.sent one
    call : is_call one.label ≡ true
    bytes_are : one.bytes ≡ bytes

  call_of : (bytes : List ℕ) (seal : Option Seal) → wire.Sends (acts_of turn out) bytes seal → is_reply bytes ≡ false → IsCall bytes
  call_of bytes seal sends none =
      let it = seen_in out.sent (record { bytes = bytes; seal = seal }) sends in
      by it (out_of_all ways.means.mic turn c.back.owner out.sent it.one (t Source).goes_out it.there)
    where
      by : (it : IsSeen out.sent (record { bytes = bytes; seal = seal })) → IsOut ways.means.mic turn c.back.owner it.one → IsCall bytes
      by it (inl call) = record { one = it.one; there = it.there; call = call.0; bytes_are = ap (λ (s : Sent). s.bytes) it.is }
      by it (inr answer) =
          let reply : is_reply it.one.bytes ≡ true = answer.1.1 sized bytes_come in
          let both : true ≡ false = sym reply ∙ ap is_reply (ap (λ (s : Sent). s.bytes) it.is) ∙ none in
          absurd cc

  fresh_all : (side : Side) (bytes : List ℕ) (seal : Option Seal) → wire.Sends (acts_of turn out) bytes seal → is_reply bytes ≡ false
      → (boot ≡ boot) × (c.calls < xid_in bytes) × (xid_in bytes ≤ d.calls)
  fresh_all side bytes seal sends none =
      let x = call_of bytes seal sends none in
      let counted = counted_in c.calls out.sent x.one numbered x.there x.call in
      let same : xid_in x.one.bytes ≡ xid_in bytes = ap xid_in x.bytes_are in
      let above = counted.above in
      let below = counted.below in
      let counts : d.calls ≡ count_behind c.calls out.sent = (t side).counts in
      (refl, omega (arith, above, same), omega (arith, below, same, counts))

  one_all : (bytes other : List ℕ) (seal seal' : Option Seal) → wire.Sends (acts_of turn out) bytes seal → wire.Sends (acts_of turn out) other seal'
      → is_reply bytes ≡ false → is_reply other ≡ false → xid_in bytes ≡ xid_in other → bytes ≡ other
  one_all bytes other seal seal' sends sends' none none' same =
      let x = call_of bytes seal sends none in
      let y = call_of other seal' sends' none' in
      let once = numbered_once c.calls out.sent x.one y.one numbered x.there y.there x.call y.call (ap xid_in x.bytes_are ∙ same ∙ sym (ap xid_in y.bytes_are)) in
      sym x.bytes_are ∙ ap (λ (o : Outgoing). o.bytes) once ∙ y.bytes_are

  -- ---- what is taken

  -- what its run took is what the client took
  record IsTook (side : Side) (reply : List ℕ) : Type 0 where
    took : took_in turn ≡ Some reply
    accepted : out.accepted ≡ (own_acts side).accepted

  taken_at : (side : Side) → takes_of (acts_in ways.means (t side).steps (mount_at side c)) ≡ taken_in (own_acts side)
  taken_at side = taken_whole ways.means (t side).steps (mount_at side c) (t side).order

  took_all : (side : Side) (reply : List ℕ) → (own_acts side).took ≡ Some reply → IsTook side reply
  took_all side reply is =
      let shown = own_acts side in
      elim ((t side).taken) [
        | inl none ↦ untaken shown.took shown.accepted reply (sym (taken_at side) ∙ none.0) is
        | inr heard ↦
            let same = same_taken shown.took shown.accepted heard.message out.accepted (sym (taken_at side) ∙ heard.is) in
            record { took = ap took_in heard.turn_is ∙ sym same.took_is ∙ is; accepted = sym same.accepted_is }
      ]

  takes_all : (side : Side) (seal : Seal) (what : What) (reply : List ℕ) → Takes (spelling who.accepts who.whose) (v_at side) (own_acts side) seal what reply
      → Takes (spelling who.accepts who.whose) (v_at side) (acts_of turn out) seal what reply
  takes_all side seal what reply x =
      let k = took_all side reply x.took in
      record { place = x.place; took = k.took; is_reply = x.is_reply; accepted = k.accepted ∙ x.accepted; awaited = x.awaited }

  root_all : (side : Side) (root : Context) → LearnsRoot (spelling who.accepts who.whose) (end_of side) (v_at side) (own_acts side) root
      → LearnsRoot (spelling who.accepts who.whose) (end_of side) (v_at side) (acts_of turn out) root
  root_all side root x = record { seal = x.seal; reply = x.reply; takes = takes_all side x.seal _ x.reply x.takes; own = x.own; root_is = x.root_is }

  child_all : (side : Side) (child root : Context) → LearnsChild (spelling who.accepts who.whose) (v_at side) (own_acts side) child root
      → LearnsChild (spelling who.accepts who.whose) (v_at side) (acts_of turn out) child root
  child_all side child root x = record {
    seal = x.seal;
    reply = x.reply;
    takes = takes_all side x.seal _ x.reply x.takes;
    child_is = x.child_is;
    root_is = x.root_is;
    has_root = x.has_root;
  }

  -- what its mount took is accepted under its seal
  accepted_at : (side : Side) (seal : Seal) (taken : List (List ℕ × Option Seal)) → takes_of (acts_in ways.means (t side).steps (mount_at side c)) ≡ taken
      → HearsAt side turn out.accepted taken → out.accepted ≡ Some seal → seal.owner ≡ end_of side
  accepted_at side seal taken taken_is heard is =
      let shown = own_acts side in
      let same = same_taken shown.took shown.accepted heard.message out.accepted (sym (taken_at side) ∙ taken_is ∙ heard.is) in
      whole_owner ways.means who (t side).steps (mount_at side c) (settled.good side) seal (same.accepted_is ∙ is) ∙ settled.server side

  -- what is accepted from the other server isn't under a seal of this one
  heard_at : {A : Type 0} (side : Side) (seal : Seal) (there : HearsElsewhere side turn) → out.accepted ≡ Some seal → seal.owner ≡ end_of side → A
  heard_at side seal there is own =
      let at = there.there in
      elim ((t at).taken) [
        | inl none ↦ elim (none.1 seal is) [
          | inl answer ↦ no_client side (sym settled.owner ∙ sym answer ∙ own)
          | inr other ↦ absurd (other.elsewhere (one_side at other.there there.message other.message there.now other.now (sym there.turn_is ∙ other.turn_is)))
        ]
        | inr heard ↦
            let theirs : seal.owner ≡ end_of at = accepted_at at seal _ refl heard is in
            absurd (there.elsewhere (sym (one_end at side (sym theirs ∙ own))))
      ]

  root_own : (side : Side) (root : Context) → LearnsRoot (spelling who.accepts who.whose) (end_of side) (v_at side) (acts_of turn out) root
      → LearnsRoot (spelling who.accepts who.whose) (end_of side) (v_at side) (own_acts side) root
  root_own side root l =
      let shown = own_acts side in
      elim ((t side).taken) [
        | inl none ↦ elim (none.1 l.seal l.takes.accepted) [
          | inl answer ↦ no_client side (sym settled.owner ∙ sym answer ∙ l.own)
          | inr other ↦ heard_at side l.seal other l.takes.accepted l.own
        ]
        | inr heard ↦
            let same = same_taken shown.took shown.accepted heard.message out.accepted (sym (taken_at side) ∙ heard.is) in
            record {
              seal = l.seal;
              reply = l.reply;
              takes = record {
                place = l.takes.place;
                took = same.took_is ∙ sym (ap took_in heard.turn_is) ∙ l.takes.took;
                is_reply = l.takes.is_reply;
                accepted = same.accepted_is ∙ l.takes.accepted;
                awaited = l.takes.awaited;
              };
              own = l.own;
              root_is = l.root_is;
            }
      ]

  calls_at : (side : Side) (bytes : List ℕ) (seal : Option Seal) → wire.Sends (own_acts side) bytes seal → is_reply bytes ≡ false
  calls_at side bytes seal there = (joined_at side).calls bytes seal there

  sent_all : (side : Side) (x : Awaited) → IsSent (spelling who.accepts who.whose) (end_of side) who.own (own_acts side) x
      → IsSent (spelling who.accepts who.whose) (end_of side) who.own (acts_of turn out) x
  sent_all side x s = record {
    bytes = s.bytes;
    seal = s.seal;
    sent = forth side s.bytes s.seal s.sent;
    xid = s.xid;
    is_call = s.is_call;
    no_callback = s.no_callback;
    fits = s.fits;
  }

  pub lawful : (side : Side) → IsLawfulTurn who ways boot purposes turn c d out t side
  lawful side =
      let laws = laws_at side in
      record {
        boot = laws.boot;
        calls = laws.calls;
        fresh = λ bytes seal sends call. fresh_all side bytes seal sends call;
        one = λ bytes other seal seal' sends sends' call call' same. one_all bytes other seal seal' sends sends' call call' same;
        directed = λ bytes call seal sends own reply took.
            let none = calls_at side bytes (Some seal) (back side bytes seal sends own) in
            let both : true ≡ false = sym reply ∙ none in
            absurd cc;
        simple = λ bytes seal name sends own named. laws.simple bytes seal name (back side bytes seal sends own) own named;
        has = λ context root there.
            elim (laws.has context root there) [
              | inl was ↦ inl was
              | inr learnt ↦ elim learnt [
                | inl l ↦ inr (inl (l.0, root_all side root l.1))
                | inr l ↦ inr (inr (child_all side context root l))
              ]
            ];
        begin = λ root learnt place xid there. laws.begin root (root_own side root learnt) place xid there;
        mount = λ root there.
            elim (laws.mount root there) [
              | inl was ↦ inl was
              | inr learnt ↦ inr (root_all side root learnt)
            ];
        awaits = λ place x there.
            elim (laws.awaits place x there) [
              | inl was ↦ inl was
              | inr sent ↦ inr (sent.0, sent_all side x sent.1)
            ];
        goes_on = laws.goes_on;
        sends = λ bytes seal name sends own named. laws.sends bytes seal name (back side bytes seal sends own) own named;
        in_slot = laws.in_slot;
      }

  -- both mounts are as they should be afterwards
  pub good_after : (side : Side) → IsGood who (mount_at side d)
  good_after side = (joined_at side).good

  pub server_after : (side : Side) → (mount_at side d).server ≡ end_of side
  server_after side = (joined_at side).server ∙ settled.server side
