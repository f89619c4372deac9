-- A COMPOUND under a context that is there.
use Rattle.std.proofs.Common.{◌≡◌, sym, ap, refl, ◌∙◌, ℕ, ◌+◌, ◌*◌, ◌≤◌, List, [], ◌∷◌, false, arith}
use Rattle.std.specs.Prelude.{Option, Some}
use Rattle.gss_ctx.specs.declared.context.Context.{Context}
use Rattle.gss_ctx.specs.Table.{ContextTable, context_of}
use Rattle.nfs_base.specs.declared.seal.Seal.{Seal}
use Rattle.nfs_compound.specs.declared.compound.Compound.{Compound}
use Rattle.outbox.specs.declared.label.CallLabel.{CallLabel}
use Rattle.outbox.specs.declared.label.Label.TheVariants.{Reply}
use Rattle.outbox.specs.declared.note.Note.{Note}
use Rattle.rpc_calls.specs.Answers.{accepted_seal, counted, result_reply}
use Rattle.rpc_calls.specs.declared.call.Call.{Call}
use Rattle.rpc_calls.specs.declared.call.Under.{Under}
use Rattle.server_volume.specs.Choices.{Choice}
use Rattle.compound_server.specs.Compounds.{on_compound}
use Rattle.compound_server.specs.State.{Given, with_own}
use Rattle.compound_server.specs.declared.who.Who.{Who}
use Rattle.session_server.specs.Host.{Codes, HostState, Rules, Stepped}
use Rattle.session_server.specs.Labels.{compound_label, status_in}
use Rattle.session_server.specs.Steps.{compound_given, compounded, going_back, reply_seal, turned, who_calls}

-- what it gives is what its server gives to who calls
pub given_is : {X C : Type 0} (rules : Rules X C) (choice : Choice) (second conn : ℕ) (call : Call) (compound : Compound) (s : HostState X C) (under : Under)
    (context : Context C) → call.under ≡ Some under → context_of under.number s.contexts.entries ≡ Some context
    → compound_given rules choice second conn call.under compound s
    ≡ on_compound rules.service rules.parting choice (who_calls second conn under context) context.principal context.carry compound s.state
given_is rules choice second conn call compound s under context is found = rw is (rw found refl)

-- what code has of the step: the contexts, what the server gave, what it has of its own then, and the outbox's parts
abbrev parts : {X C : Type 0} → (second conn : ℕ) → HostState X C → Given X → ContextTable C → X → List ℕ → (seal accepted : Option Seal) → CallLabel → ℕ → List Note
    → Stepped X C
parts second conn s given contexts own bytes seal accepted label status notes = record {
  host = turned second contexts (with_own own given.state) s;
  out = record { sent = going_back conn bytes seal (Reply label status) ∷ []; notes = notes; accepted = accepted; used = given.used; undrawn = false };
}

-- they are those of the model's step
pub compounded_is : {X C : Type 0} (rules : Rules X C) (codes : Codes) (choice : Choice) (second conn : ℕ) (call : Call) (compound : Compound) (s : HostState X C)
    (under : Under) (context : Context C) (who : Who) (given : Given X) (contexts : ContextTable C) (own : X) (bytes : List ℕ) (seal accepted : Option Seal)
    (label : CallLabel) (status : ℕ) (notes : List Note)
    → call.under ≡ Some under → context_of under.number s.contexts.entries ≡ Some context → who ≡ who_calls second conn under context
    → on_compound rules.service rules.parting choice who context.principal context.carry compound s.state ≡ given
    → contexts ≡ counted second call s.contexts → own ≡ rules.silent given.state.machine.extra → bytes ≡ result_reply codes.mic s.contexts call given.body
    → seal ≡ reply_seal s.contexts call.under → accepted ≡ accepted_seal s.contexts call → label ≡ compound_label compound.ops → status ≡ status_in given.body
    → notes ≡ rules.tells given.state.machine.extra
    → parts second conn s given contexts own bytes seal accepted label status notes
    ≡ compounded rules codes second conn call compound s (compound_given rules choice second conn call.under compound s)
compounded_is rules codes choice second conn call compound s under context who given contexts own bytes seal accepted label status notes
    is found who_is gives contexts_is own_is bytes_is seal_is accepted_is label_is status_is notes_is =
    let same : given ≡ compound_given rules choice second conn call.under compound s =
    sym gives ∙ ap (λ (w : Who). on_compound rules.service rules.parting choice w context.principal context.carry compound s.state) who_is
    ∙ sym (given_is rules choice second conn call compound s under context is found) in
    rw contexts_is (rw own_is (rw bytes_is (rw seal_is (rw accepted_is (rw label_is (rw status_is (rw notes_is (ap (compounded rules codes second conn call compound s) same))))))))

-- what a step counts of what a server gives out of its own
pub own_counted : (before middle after steps : ℕ) → after ≤ middle → middle ≤ before + 16 → before ≤ 16 * steps → after ≤ 16 * (steps + 1)
own_counted before middle after steps silent more had = omega arith
