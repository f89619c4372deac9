-- A CB_COMPOUND that a context admitted is the one that a wire sees.
use Rattle.std.proofs.Common.{◌≡◌, ℕ, true, List, Some, refl, ap, ◌∙◌}
use Rattle.std.specs.Prelude.{drop}
use Rattle.std.proofs.lemmas.Bool.{eq-eqb}
use Rattle.gss_ctx.specs.Seals.{Mic}
use Rattle.gss_ctx.specs.Table.{ContextTable}
use Rattle.gss_ctx.specs.declared.admit.Admit.{Admit}
use Rattle.nfs_base.specs.declared.programs.TheConstants.{CALLBACK_PROGRAM}
use Rattle.rpc_calls.specs.Answers.{accepted_seal, admitted_seal, seal_in}
use Rattle.rpc_calls.specs.Judging.{judged_of, without_args}
use Rattle.rpc_calls.specs.declared.call.Call.{Call}
use Rattle.rpc_calls.specs.declared.call.Judged.TheVariants as judged
use Rattle.rpc_calls.specs.declared.call.TheConstants.Program as programs
use Rattle.rpc_calls.specs.declared.call.What.TheVariants as whats
use Rattle.slot_calls.specs.AdmittedLaws.{verdict_admits}
use Rattle.slot_calls.specs.JudgedLaws.{call_is_read, call_seen, compound_judged, heads_call}
use Rattle.wire_spelling.specs.Calls.{calls_back, is_callback}
use Rattle.wire_spelling.specs.ReadLaws.{unsealed_carried}
use Rattle.wire_spelling.specs.Slots.{ops_in, ops_of}

-- it is accepted under a seal of its context, goes to the callback program, and its arguments are the operations that a wire sees
pub record IsBack {P : Type 0} (table : ContextTable P) (bytes : List ℕ) (call : Call) (args : List ℕ) : Type 0 where
  pub number : ℕ
  pub seq : ℕ
  pub accepted : accepted_seal table call ≡ Some (seal_in table number seq)
  pub is_back : is_callback bytes ≡ true
  pub ops_are : ops_of bytes ≡ args

pub back_judged : {P : Type 0} (mic : Mic) (now : ℕ) (bytes : List ℕ) (table : ContextTable P) (call : Call) (args : List ℕ)
    → judged_of mic now programs.CALLBACK bytes table ≡ judged.Call call → call.what ≡ whats.Compound args → IsBack table bytes call args
back_judged mic now bytes table call args judged is =
    let r = call_is_read mic now programs.CALLBACK bytes table call (heads_call bytes) refl judged in
    let body = drop r.at bytes in
    let c = compound_judged mic now programs.CALLBACK r.head body table args call r.call_is is in
    let a = verdict_admits mic now r.head body table c.number c.seq args c.cred c.cred_is c.answer_is in
    let seen = call_seen mic now programs.CALLBACK bytes table call r in
    record {
      number = c.number;
      seq = c.seq;
      accepted = ap (accepted_seal table) c.call_is ∙ ap (λ (answer : Admit). admitted_seal table (without_args answer)) c.answer_is;
      is_back = ap calls_back seen ∙ eq-eqb r.head.prog CALLBACK_PROGRAM c.prog_is;
      ops_are = ap ops_in seen ∙ unsealed_carried _ c.cred.seq_num body args a.carries;
    }
