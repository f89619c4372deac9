-- The small wire is lawful, and the step that told the answer is the one that executed the call.
use Rattle.std.proofs.Common.{◌≡◌, ℕ, zero, suc, true, None, Some, List, refl, sym, ◌∙◌, subst, arith}
use Rattle.nfs_base.specs.declared.seal.End.{End}
use Rattle.nfs_base.specs.declared.seal.End.TheVariants.{Source, Dest, Client}
use Rattle.nfs_base.specs.declared.seal.Seal.{Seal}
use Rattle.wire_model.specs.Wire.{Slotted}
use Rattle.wire_model.specs.CallerLaws.{Takes, CallerStart}
use Rattle.wire_model.specs.Check.{WasSealed, AnswersCall, IsRight, IsUnmistaken}
use Rattle.wire_model.specs.Told.{IsLawfulWire, WasTold, opening}
use Rattle.wire_model.specs.Examples.{spelling, init, begun, called, called_again, kept_answer, seal_of, call, wire}
use Rattle.wire_model.proofs.SmallSource.{some, server_steps}
use Rattle.wire_model.proofs.SmallDest.{caller_steps}

-- a step at an end that accepts nothing, and one that accepts this record under this seal
takes_nothing : (k : ℕ) (e : End) → (wire.acts e k).accepted ≡ None → IsRight spelling wire.acts (opening wire) k e
takes_nothing k e nothing = record {
  sealed = λ seal bytes accepted. absurd (let here = nothing in cc);
  answers = λ seal reply accepted. absurd (let here = nothing in cc);
}

takes_right : (k : ℕ) (e : End) (seal : Seal) (bytes : List ℕ) → (wire.acts e k).accepted ≡ Some seal → (wire.acts e k).took ≡ Some bytes
    → WasSealed wire.acts k e seal bytes
    → (spelling.is_reply bytes ≡ true → AnswersCall spelling wire.acts (opening wire) k e seal bytes)
    → IsRight spelling wire.acts (opening wire) k e
takes_right k e seal bytes accepted took was answers = record {
  sealed = λ o b accepted' took'.
      subst (λ x. WasSealed wire.acts k e x b) (some seal o (sym accepted ∙ accepted'))
      (subst (λ y. WasSealed wire.acts k e seal y) (some bytes b (sym took ∙ took')) was);
  answers = λ o b accepted' took' is_reply.
      let same = some bytes b (sym took ∙ took') in
      subst (λ x. AnswersCall spelling wire.acts (opening wire) k e x b) (some seal o (sym accepted ∙ accepted'))
      (subst (λ y. AnswersCall spelling wire.acts (opening wire) k e seal y) same (answers (subst (λ y. spelling.is_reply y ≡ true) (sym same) is_reply)));
}

source_right : (k : ℕ) → IsRight spelling wire.acts (opening wire) k Source
source_right zero = takes_nothing 0 Source refl
source_right (suc zero) = takes_nothing 1 Source refl
source_right (suc (suc zero)) = takes_nothing 2 Source refl
source_right (suc (suc (suc zero))) =
    takes_right 3 Source (seal_of 1) called refl refl
    (record { by = Dest; other = λ e. absurd (cc); step = 2; before = omega arith; sealed = (0, omega arith, refl) })
    (λ is_reply. absurd (cc))
source_right (suc (suc (suc (suc zero)))) = takes_nothing 4 Source refl
source_right (suc (suc (suc (suc (suc zero))))) =
    takes_right 5 Source (seal_of 2) called_again refl refl
    (record { by = Dest; other = λ e. absurd (cc); step = 4; before = omega arith; sealed = (0, omega arith, refl) })
    (λ is_reply. absurd (cc))
source_right (suc (suc (suc (suc (suc (suc k)))))) = takes_nothing (suc (suc (suc (suc (suc (suc k)))))) Source refl

dest_right : (k : ℕ) → IsRight spelling wire.acts (opening wire) k Dest
dest_right zero = takes_nothing 0 Dest refl
dest_right (suc zero) = takes_nothing 1 Dest refl
dest_right (suc (suc zero)) =
    takes_right 2 Dest (seal_of 0) begun refl refl
    (record { by = Source; other = λ e. absurd (cc); step = 1; before = omega arith; sealed = (0, omega arith, refl) })
    (λ is_reply. record {
      by = Source;
      other = λ e. absurd (cc);
      step = 1;
      before = omega arith;
      sealed = (0, omega arith, refl);
      call = init;
      took = refl;
      sent = 0;
      in_order = omega arith;
      seal_sent = None;
      sends = (0, omega arith, refl);
      is_call = refl;
      xid = refl;
      opening = refl;
    })
dest_right (suc (suc (suc zero))) = takes_nothing 3 Dest refl
dest_right (suc (suc (suc (suc zero)))) = takes_nothing 4 Dest refl
dest_right (suc (suc (suc (suc (suc zero))))) = takes_nothing 5 Dest refl
dest_right (suc (suc (suc (suc (suc (suc zero)))))) =
    takes_right 6 Dest (seal_of 2) kept_answer refl refl
    (record { by = Source; other = λ e. absurd (cc); step = 5; before = omega arith; sealed = (0, omega arith, refl) })
    (λ is_reply. record {
      by = Source;
      other = λ e. absurd (cc);
      step = 5;
      before = omega arith;
      sealed = (0, omega arith, refl);
      call = called_again;
      took = refl;
      sent = 4;
      in_order = omega arith;
      seal_sent = Some (seal_of 2);
      sends = (0, omega arith, refl);
      is_call = refl;
      xid = refl;
      opening = refl;
    })
dest_right (suc (suc (suc (suc (suc (suc (suc k))))))) = takes_nothing (suc (suc (suc (suc (suc (suc (suc k))))))) Dest refl

right : IsUnmistaken spelling wire.acts (opening wire)
right k Source = source_right k
right k Dest = dest_right k
right k Client = takes_nothing k Client refl

starts : (e : End) → CallerStart (wire.caller e 0)
starts Source = record { no_context = λ c r. refl; no_mount = refl; none_awaited = λ place. refl }
starts Dest = record { no_context = λ c r. refl; no_mount = refl; none_awaited = λ place. refl }
starts Client = record { no_context = λ c r. refl; no_mount = refl; none_awaited = λ place. refl }

pub wire_is_lawful : IsLawfulWire spelling wire
wire_is_lawful = record {
  server_start = record { no_context = λ number. refl; none_kept = λ session slot. refl };
  server = server_steps;
  caller_start = λ e out. starts e;
  caller = caller_steps;
  unmistaken = right;
}

pub takes_kept_answer : Takes spelling (wire.caller Dest 6) (wire.acts Dest 6) (seal_of 2) (Slotted (seal_of 2) call) kept_answer
takes_kept_answer = record { place = 0; took = refl; is_reply = refl; accepted = refl; awaited = refl }

pub told_once : (results : List ℕ) (t : WasTold wire 6 Dest call results) → t.step ≡ 3
told_once results t = executed_at t.step t.executed
  where
    executed_at : (k : ℕ) → (wire.acts Source k).executed ≡ Some (record { ops = call.ops; results = results }) → k ≡ 3
    executed_at zero x = absurd (cc)
    executed_at (suc zero) x = absurd (cc)
    executed_at (suc (suc zero)) x = absurd (cc)
    executed_at (suc (suc (suc zero))) x = refl
    executed_at (suc (suc (suc (suc zero)))) x = absurd (cc)
    executed_at (suc (suc (suc (suc (suc zero))))) x = absurd (cc)
    executed_at (suc (suc (suc (suc (suc (suc k)))))) x = absurd (cc)
