-- What a run's system shows of the client as a caller, and of the openings of all ends.
use Rattle.std.proofs.Common.{◌≡◌, ℕ, suc, List, slice_get, Option, Some, None, refl, sym, subst, ◌∙◌}
use Rattle.caller_laws.specs.Good.{Identity}
use Rattle.caller_laws.specs.View.{caller_of}
use Rattle.client_core.specs.Telling.{mount_at}
use Rattle.client_laws.specs.CallerLaws.{above_at}
use Rattle.client_laws.specs.WholeTurns.{Purposes}
use Rattle.client_site.specs.Sites.{end_of}
use Rattle.nfs_base.specs.declared.seal.End.{End}
use Rattle.nfs_base.specs.declared.seal.End.TheVariants.{Source, Dest, Client}
use Rattle.nfs_base.specs.declared.side.Side.{Side}
use Rattle.nfs_base.specs.declared.side.Side.TheVariants as sides
use Rattle.run_checks.specs.CheckLaws.{opening_at}
use Rattle.run_ends.specs.Ends.{RunStep, RunWorld, Words, machines}
use Rattle.run_promise.proofs.client.Lawful.{Obeys, WireLaws, obeys}
use Rattle.run_promise.specs.Client.Along.{GoesAlong, act_at, client_at, codes_of, part_by, run_at, second_at}
use Rattle.run_promise.specs.System.System.{ClientView, system_of, telling}
use Rattle.wire_machine.specs.History.{acts_at, acts_of, part_acts}
use Rattle.wire_model.specs.CallerLaws.{CallerLaws, CallerStart}
use Rattle.wire_model.specs.Check.{IsUnmistaken}
use Rattle.wire_model.specs.Meaning.{Meaning}
use Rattle.wire_model.specs.Spelling.{Spelling}
use Rattle.wire_model.specs.System.{wire_of}
use Rattle.wire_model.specs.Told.{opening}
use Rattle.wire_model.specs.Wire.{Acts}
use Rattle.wire_spelling.specs.Spelling.{spelling}

retimed : (spell : Spelling) (acts : End → ℕ → Acts) (boot other : End → ℕ → ℕ) → ((e : End) (k : ℕ) → boot e k ≡ other e k) → IsUnmistaken spell acts boot
    → IsUnmistaken spell acts other
retimed spell acts boot other same is k e =
    let right = is k e in
    record {
      sealed = right.sealed;
      answers = λ seal reply accepted took is_reply.
          let a = right.answers seal reply accepted took is_reply in
          record {
            by = a.by;
            other = a.other;
            step = a.step;
            before = a.before;
            sealed = a.sealed;
            call = a.call;
            took = a.took;
            sent = a.sent;
            in_order = a.in_order;
            seal_sent = a.seal_sent;
            sends = a.sends;
            is_call = a.is_call;
            xid = a.xid;
            opening = sym (same e (suc a.sent)) ∙ a.opening ∙ same e k;
          };
    }

module _ {M : Type 0} (words : Words M ℕ) (spell : Spelling) (meaning : Meaning) (seen : ClientView M) (first : RunWorld M) (steps : List (RunStep M)) (purposes : ℕ → Purposes) where
  same_opening : (owner e : End) (k : ℕ)
      → opening_at (machines words) (telling (codes_of words)) spell meaning first steps e k
      ≡ opening (wire_of (system_of (machines words) (codes_of words) spell meaning seen first steps purposes) owner) e k
  unfolding system_of
  same_opening Source Source k = refl
  same_opening Source Dest k = refl
  same_opening Source Client k = refl
  same_opening Dest Source k = refl
  same_opening Dest Dest k = refl
  same_opening Dest Client k = refl
  same_opening Client Source k = refl
  same_opening Client Dest k = refl
  same_opening Client Client k = refl

  pub unmistaken_in : IsUnmistaken spell (acts_at (machines words) (telling (codes_of words)) spell meaning first steps)
      (opening_at (machines words) (telling (codes_of words)) spell meaning first steps) → (owner : End)
      → IsUnmistaken spell (system_of (machines words) (codes_of words) spell meaning seen first steps purposes).acts
      (opening (wire_of (system_of (machines words) (codes_of words) spell meaning seen first steps purposes) owner))
  unfolding system_of
  unmistaken_in is owner = retimed spell (acts_at (machines words) (telling (codes_of words)) spell meaning first steps) _ _ (same_opening owner) is

  -- ---- the client at its beginning

  pub starts_in : ((side : Side) → CallerStart (caller_of (above_at 0 (purposes 0 side) first.client) (mount_at side first.client))) → (side : Side)
      → CallerStart ((system_of (machines words) (codes_of words) spell meaning seen first steps purposes).caller (end_of side) Client 0)
  unfolding system_of
  starts_in start sides.Source = start sides.Source
  starts_in start sides.Dest = start sides.Dest

-- ---- its steps

shown_at : {M : Type 0} (words : Words M ℕ) (spell : Spelling) (meaning : Meaning) (before : RunWorld M) (o : Option (RunStep M))
    → acts_of (machines words) (telling (codes_of words)) spell meaning before o Client ≡ part_acts (part_by o) None
shown_at words spell meaning before None = refl
shown_at words spell meaning before (Some s) = refl

module _ {M : Type 0} (words : Words M ℕ) (who : Identity) (laws : WireLaws words who) (meaning : Meaning) (seen : ClientView M) (first : RunWorld M) (steps : List (RunStep M))
    (along : GoesAlong words (spelling who.accepts who.whose) meaning first steps who) where
  obeys_at : (side : Side) (k : ℕ) → Obeys words who side (along.purposes k) (along.purposes (suc k))
      (client_at words (spelling who.accepts who.whose) meaning first steps k) (client_at words (spelling who.accepts who.whose) meaning first steps (suc k))
      (acts_at (machines words) (telling (codes_of words)) (spelling who.accepts who.whose) meaning first steps Client k)
  obeys_at side k =
      let spell = spelling who.accepts who.whose in
      subst (λ (shown : Acts). Obeys words who side (along.purposes k) (along.purposes (suc k)) (client_at words spell meaning first steps k) (client_at words spell meaning first steps (suc k)) shown)
      (sym (shown_at words spell meaning (run_at words spell meaning first steps k) (slice_get steps k)))
      (obeys words who laws (act_at words spell meaning first steps k) (second_at words spell meaning first steps k) _ _ (part_by (slice_get steps k)) _ _ side (along.goes k) (along.settled k))

  pub obeys_in : (side : Side) (k : ℕ) → CallerLaws (spelling who.accepts who.whose) (end_of side) who.own
      ((system_of (machines words) (codes_of words) (spelling who.accepts who.whose) meaning seen first steps along.purposes).caller (end_of side) Client k)
      ((system_of (machines words) (codes_of words) (spelling who.accepts who.whose) meaning seen first steps along.purposes).caller (end_of side) Client (suc k))
      ((system_of (machines words) (codes_of words) (spelling who.accepts who.whose) meaning seen first steps along.purposes).acts Client k)
  unfolding system_of
  obeys_in sides.Source k = obeys_at sides.Source k
  obeys_in sides.Dest k = obeys_at sides.Dest k
