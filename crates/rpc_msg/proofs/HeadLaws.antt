-- A head is read exactly where the bytes begin with its spelling; so is a value that all of the bytes spell.
use Rattle.std.proofs.Common.{◌≡◌, ℕ, zero-add, Bool, false, eqb, List, [], ◌∷◌, ◌++◌, length, Result, Ok, Err, refl, ap, ◌∙◌}
use Rattle.std.specs.Prelude.{Option, Some, IfOk, if◌then◌else◌}
use Rattle.outcome.specs.declared.memory.NoMemory.{NoMemory}
use Rattle.wire_xdr.specs.declared.form.bad.BadXdr.{BadXdr}
use Rattle.wire_xdr.specs.Cursor.{Cursor}
use Rattle.wire_xdr.specs.Words.{word_bytes}
use Rattle.wire_xdr.specs.Form.{Form}
use Rattle.wire_xdr.specs.All as all
use Rattle.wire_xdr.specs.All.{all_of, ReadsAll}
use Rattle.rpc_msg.specs.declared.call.CallHead.{CallHead}
use Rattle.rpc_msg.specs.declared.reply.ReplyHead.{ReplyHead}
use Rattle.rpc_msg.specs.declared.messages.RpcFault.{RpcFault}
use Rattle.rpc_msg.specs.declared.messages.RpcFault.TheVariants as faults
use Rattle.rpc_msg.specs.Heads.{call, reply}
use Rattle.rpc_msg.specs.Messages.{first, kind_of, behind, unless_other, head_told, IsHead, ReadsHead, nothing_behind, whole, ReadsWhole}

-- the message type of what is spelled
pub call_kind : (head : CallHead) (body : List ℕ) → kind_of (call.spell head ++ body) ≡ Some 0
unfolding call word_bytes
call_kind head body = refl

pub reply_kind : (head : ReplyHead) (body : List ℕ) → kind_of (reply.spell head ++ body) ≡ Some 1
unfolding reply word_bytes
reply_kind head body = refl

-- what is spelled is read
head_only : {A : Type 0} (form : Form A) (other kind : ℕ) → ((head : A) (body : List ℕ) → kind_of (form.spell head ++ body) ≡ Some kind) → eqb kind other ≡ false
    → (bytes : List ℕ) (told : Result (A × ℕ) RpcFault) → told ≡ head_told form other bytes
    → (head : A) (body : List ℕ) → form.Fits head → bytes ≡ form.spell head ++ body → told ≡ Ok (head, length (form.spell head))
head_only {A} form other kind is differs bytes told exact head body fits e =
    let text = form.spell head ++ body in
    exact
    ∙ ap (λ (b : List ℕ). head_told form other b) e
    ∙ ap (λ (k : Option ℕ). unless_other other k (behind (form.read (first text)))) (is head body)
    ∙ ap (λ (b : Bool). if b then Err (faults.OtherKind kind) else behind (form.read (first text))) differs
    ∙ ap (λ (r : Result (A × Cursor) ℕ). behind r) (form.lawful.again 0 head body fits)
    ∙ ap (λ (n : ℕ). Ok (head, n)) (zero-add (length (form.spell head)))

pub reads_head : {A : Type 0} (form : Form A) (other kind : ℕ) → ((head : A) (body : List ℕ) → kind_of (form.spell head ++ body) ≡ Some kind) → eqb kind other ≡ false
    → (bytes : List ℕ) (r : Result (Result (A × ℕ) RpcFault) NoMemory) → IfOk r (λ told. told ≡ head_told form other bytes)
    → IfOk r (λ told. IfOk told (λ head. IsHead form bytes head.0 head.1)) → IfOk r (ReadsHead form other bytes)
reads_head form other kind is differs bytes (Ok told) exact found = record { exact = exact; found = found; only = head_only form other kind is differs bytes told exact }
reads_head form other kind is differs bytes (Err e) exact found = tt

-- ---- what is read of all of the bytes

same_behind : {A : Type 0} (v : A) (at : ℕ) (rest : List ℕ) → all.nothing_behind v at rest ≡ nothing_behind v at rest
same_behind v at [] = refl
same_behind v at (byte ∷ bytes) = refl

same_whole : {A : Type 0} (read : Result (A × Cursor) ℕ) → all.closed read ≡ whole read
same_whole (Ok read) = same_behind read.0 read.1.at read.1.rest
same_whole (Err at) = refl

pub reads_whole : {A : Type 0} (form : Form A) (bytes : List ℕ) (r : Result (Result A BadXdr) NoMemory) → IfOk r (ReadsAll form bytes) → IfOk r (ReadsWhole form bytes)
unfolding all_of
reads_whole form bytes (Ok told) read = record { exact = read.exact ∙ same_whole (form.read (first bytes)); found = read.found; only = read.only }
reads_whole form bytes (Err e) read = tt
