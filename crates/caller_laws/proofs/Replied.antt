-- A reply that was read is the spelling of its head and what stands behind it, and its first word is its xid.
use Rattle.std.proofs.Common.{◌≡◌, ℕ, Bool, true, false, List, ◌++◌, Option, Some, None, Result, Ok, Err, refl, subst}
use Rattle.std.specs.Prelude.{◌==◌, if◌then◌else◌}
use Rattle.std.proofs.lemmas.Nat.{from_be_bytes-to_be_bytes_4}
use Rattle.wire_xdr.specs.Cursor.{Cursor, IsBytes}
use Rattle.wire_xdr.specs.Words.{word_bytes}
use Rattle.gss_ctx.specs.Replies.{result_of}
use Rattle.gss_ctx.specs.declared.caller.Checked.TheVariants as checked
use Rattle.rpc_msg.specs.Heads.{reply}
use Rattle.rpc_msg.specs.Messages.{behind, first, unless_other}
use Rattle.rpc_msg.specs.declared.messages.RpcFault.TheVariants.{OtherKind}
use Rattle.rpc_msg.specs.declared.reply.ReplyHead.{ReplyHead}
use Rattle.rpc_msg.specs.declared.reply.ReplyHead.TheVariants.{Accepted, Denied}
use Rattle.session_client.specs.Records.{head_xid}
use Rattle.wire_spelling.specs.Calls.{xid_in}

pub record IsSpelled (head : ReplyHead) (bytes : List ℕ) : Type 0 where
  pub rest : List ℕ
  pub is : bytes ≡ reply.spell head ++ rest
  pub fits : reply.Fits head

behind_spelled : (bytes : List ℕ) (told : Result (ReplyHead × Cursor) ℕ) (read : ReplyHead × ℕ) → reply.read (first bytes) ≡ told → behind told ≡ Ok read → IsBytes bytes
    → IsSpelled read.0 bytes
behind_spelled bytes (Ok x) read is h all =
    let same : (x.0, x.1.at) ≡ read = cc in
    let passed = reply.lawful.takes (first bytes) x.0 x.1 all is in
    subst (λ (r : ReplyHead × ℕ). IsSpelled r.0 bytes) same (record { rest = x.1.rest; is = passed.0.parts; fits = passed.1 })
behind_spelled bytes (Err at) read is h all = absurd cc

pub unless_spelled : (bytes : List ℕ) (kind : Option ℕ) (read : ReplyHead × ℕ) → unless_other 0 kind (behind (reply.read (first bytes))) ≡ Ok read → IsBytes bytes → IsSpelled read.0 bytes
unless_spelled bytes None read h all = behind_spelled bytes (reply.read (first bytes)) read refl h all
unless_spelled bytes (Some kind) read h all = by (kind == 0) h
  where
    by : (b : Bool) → (if b then Err (OtherKind kind) else behind (reply.read (first bytes))) ≡ Ok read → IsSpelled read.0 bytes
    by true h = absurd cc
    by false h = behind_spelled bytes (reply.read (first bytes)) read refl h all

pub xid_spelled : (head : ReplyHead) (rest : List ℕ) → reply.Fits head → xid_in (reply.spell head ++ rest) ≡ head_xid head
unfolding reply word_bytes
xid_spelled (Accepted xid verf stat) rest fits = from_be_bytes-to_be_bytes_4 xid fits.0
xid_spelled (Denied xid why) rest fits = from_be_bytes-to_be_bytes_4 xid fits.0

-- ---- a result that was checked

pub guarded : (a b : Bool) (o : Option (List ℕ)) (result : List ℕ) → (if a then (if b then result_of o else checked.Unmatched) else checked.Unmatched) ≡ checked.Result result
    → (a ≡ true) × (o ≡ Some result)
guarded true true (Some x) result h = (refl, cc)
guarded true true None result h = absurd cc
guarded true false o result h = absurd cc
guarded false b o result h = absurd cc
