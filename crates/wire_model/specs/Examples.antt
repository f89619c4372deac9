-- A small wire, written by hand: the destination sets up a context at the source and makes one call in slot 0; the
-- answer is lost, it calls again, and takes the answer that the source kept. Beside it steps that break one law
-- each. Own examples.
use Rattle.std.specs.Prelude.{ℕ, zero, suc, Bool, true, false, ◌&&◌, ◌||◌, ◌==◌, if◌then◌else◌, Option, None, Some, List, [], ◌∷◌, slice_index, slice_index_or, drop}
use Rattle.nfs_base.specs.declared.seal.End.{End}
use Rattle.nfs_base.specs.declared.seal.End.TheVariants.{Source, Dest, Client}
use Rattle.nfs_base.specs.declared.seal.Seal.{Seal}
use Rattle.wire_model.specs.Spelling.{Context, SlotName, Spelling}
use Rattle.wire_model.specs.Wire.{Sent, Acts, Kept, Server, ForOther, Call, Begins, Slotted, Awaited, Caller, Wire}

-- A record is its kind (an INIT 1, its answer 2, a call of the slot 3, its answer 4), its xid, of a call its number,
-- and then the operations or their results.
abbrev pub kind_of : List ℕ → ℕ
kind_of bytes = slice_index bytes 0

abbrev pub spelling : Spelling
spelling = record {
  is_reply = λ bytes. kind_of bytes == 2 || kind_of bytes == 4;
  xid_of = λ bytes. slice_index bytes 1;
  is_callback = λ bytes. false;
  begun_by = λ bytes. if kind_of bytes == 1 then Some Dest else None;
  is_create = λ bytes. false;
  slot_of = λ bytes. if kind_of bytes == 3 then Some (record { session = 0; slot = 0; number = slice_index bytes 2 }) else None;
  ops_of = λ bytes. drop 3 bytes;
  results_of = λ bytes. drop 2 bytes;
  context_in = λ bytes. None;
  is_simple = λ ops. true;
  has_run = λ results. true;
}

-- The records: INIT, its answer, the call and its answer, which is lost, and both again with another xid.
abbrev pub init : List ℕ
init = 1 ∷ 1 ∷ []

abbrev pub begun : List ℕ
begun = 2 ∷ 1 ∷ []

abbrev pub called : List ℕ
called = 3 ∷ 2 ∷ 1 ∷ 7 ∷ []

abbrev pub answer : List ℕ
answer = 4 ∷ 2 ∷ 9 ∷ []

abbrev pub called_again : List ℕ
called_again = 3 ∷ 3 ∷ 1 ∷ 7 ∷ []

abbrev pub kept_answer : List ℕ
kept_answer = 4 ∷ 3 ∷ 9 ∷ []

-- the source's first context, and the seals under it
abbrev pub root : Context
root = record { boot = 1; number = 1 }

abbrev pub seal_of : ℕ → Seal
seal_of seq = record { owner = Source; boot = 1; number = 1; seq = seq }

-- the call: operation 7 under number 1 of slot 0
abbrev pub call : Call
call = record { root = root; slot = 0; number = 1; ops = 7 ∷ []; purpose = ForOther }

abbrev pub name : SlotName
name = record { session = 0; slot = 0; number = 1 }

-- What the two ends do in the steps, in order.
abbrev pub idle : Acts
idle = record { took = None; accepted = None; executed = None; out = [] }

abbrev pub sealed : List ℕ → ℕ → List Sent
sealed bytes seq = record { bytes = bytes; seal = Some (seal_of seq) } ∷ []

abbrev pub makes : Acts
makes = record idle { took = Some init; out = sealed begun 0 }

abbrev pub executes : Acts
executes = record {
  took = Some called;
  accepted = Some (seal_of 1);
  executed = Some (record { ops = 7 ∷ []; results = 9 ∷ [] });
  out = sealed answer 1;
}

abbrev pub answers : Acts
answers = record { took = Some called_again; accepted = Some (seal_of 2); executed = None; out = sealed kept_answer 2 }

abbrev pub source_steps : List Acts
source_steps = idle ∷ makes ∷ idle ∷ executes ∷ idle ∷ answers ∷ []

abbrev pub begins : Acts
begins = record idle { out = record { bytes = init; seal = None } ∷ [] }

abbrev pub calls : Acts
calls = record { took = Some begun; accepted = Some (seal_of 0); executed = None; out = sealed called 1 }

abbrev pub retries : Acts
retries = record idle { out = sealed called_again 2 }

abbrev pub takes : Acts
takes = record idle { took = Some kept_answer; accepted = Some (seal_of 2) }

abbrev pub dest_steps : List Acts
dest_steps = begins ∷ idle ∷ calls ∷ idle ∷ retries ∷ idle ∷ takes ∷ []

abbrev pub acts_of : List Acts → End → ℕ → Acts
acts_of steps Source k = slice_index_or steps k idle
acts_of steps Dest k = slice_index_or dest_steps k idle
acts_of steps Client k = idle

-- The source's states: opened, with a context, with an answer kept.
abbrev pub roots : ℕ → Option ℕ
roots zero = None
roots (suc zero) = Some 1
roots (suc (suc number)) = None

abbrev pub one_kept : ℕ → ℕ → Option Kept
one_kept zero zero = Some (record { number = 1; root = 1; results = 9 ∷ [] })
one_kept zero (suc slot) = None
one_kept (suc session) slot = None

abbrev pub opened : Server
opened = record { boot = 1; made = 0; root = λ number. None; kept = λ session slot. None; last = λ session slot. 0 }

abbrev pub with_context : Server
with_context = record opened { made = 1; root = roots }

abbrev pub with_answer : Server
with_answer = record with_context { kept = one_kept; last = λ session slot. 1 }

-- The destination's: nothing yet, INIT awaited, the call awaited, the same by its second sending, answered.
abbrev pub at_zero : Awaited → ℕ → Option Awaited
at_zero x zero = Some x
at_zero x (suc place) = None

abbrev pub has_root : Context → Context → Bool
has_root c r = (c.boot == 1 && c.number == 1) && (r.boot == 1 && r.number == 1)

abbrev pub unknown : Caller
unknown = record {
  boot = 1;
  calls = 0;
  has = λ c r. false;
  mount = None;
  next = λ slot. 0;
  awaits = λ place. None;
  ready = λ purpose. true;
}

abbrev pub begun_call : Awaited
begun_call = record { xid = 1; what = Begins }

abbrev pub awaited : ℕ → ℕ → Awaited
awaited xid seq = record { xid = xid; what = Slotted (seal_of seq) call }

abbrev pub beginning : Caller
beginning = record unknown { calls = 1; awaits = at_zero begun_call }

abbrev pub mounted : Caller
mounted = record unknown { calls = 2; has = has_root; mount = Some root; next = λ slot. 2; awaits = at_zero (awaited 2 1) }

abbrev pub retried : Caller
retried = record mounted { calls = 3; awaits = at_zero (awaited 3 2) }

abbrev pub answered : Caller
answered = record retried { awaits = λ place. None }

abbrev pub callers : End → ℕ → Caller
callers Source k = unknown
callers Dest k = slice_index_or (unknown ∷ beginning ∷ beginning ∷ mounted ∷ mounted ∷ retried ∷ retried ∷ []) k answered
callers Client k = unknown

abbrev pub wire : Wire
wire = record {
  owner = Source;
  server = λ k. slice_index_or (opened ∷ opened ∷ with_context ∷ with_context ∷ []) k with_answer;
  caller = callers;
  acts = acts_of source_steps;
}

-- The source executes the retry once more, in the place of its last step.
abbrev pub executes_again : Acts
executes_again = record answers { executed = Some (record { ops = 7 ∷ []; results = 8 ∷ [] }) }

-- It answers a second INIT with the context that it made for the first.
abbrev pub makes_again : Acts
makes_again = record idle { took = Some (1 ∷ 4 ∷ []); out = sealed (2 ∷ 4 ∷ []) 0 }

-- The destination gives the number of its call to another one, with operation 8.
abbrev pub other_call : Call
other_call = record call { ops = 8 ∷ [] }

abbrev pub calls_other : Acts
calls_other = record idle { out = sealed (3 ∷ 3 ∷ 1 ∷ 8 ∷ []) 2 }

abbrev pub other_awaited : Caller
other_awaited = record retried { awaits = at_zero (record { xid = 3; what = Slotted (seal_of 2) other_call }) }

-- The source answers the first call with the xid of the second, and the destination takes that.
abbrev pub crossed : List Acts
crossed = idle ∷ makes ∷ idle ∷ record executes { out = sealed kept_answer 2 } ∷ []
