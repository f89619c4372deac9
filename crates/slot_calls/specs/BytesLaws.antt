-- What a record carries is bytes, and the tag of a COMPOUND that is read from it is short.
use Rattle.std.proofs.Common.{◌≡◌, ℕ, ◌≤◌, List, [], ◌++◌, length, drop, replicate, Option, Some, None, Result, Ok, Err, refl, ap, subst, arith}
use Rattle.std.proofs.lemmas.List.{drop_at, take_at}
use Rattle.nfs_base.specs.declared.limits.TheConstants.{TEXT_LIMIT}
use Rattle.nfs_compound.specs.Body.{body_at, one_at}
use Rattle.nfs_compound.specs.Compounds.{compound_at, compound_head, compound_of}
use Rattle.nfs_compound.specs.Ops.{op_arg, op_class, op_is_cut}
use Rattle.nfs_compound.specs.declared.compound.Compound.{Compound}
use Rattle.gss_ctx.specs.Seals.{two_opaques}
use Rattle.rpc_msg.specs.Heads as heads
use Rattle.rpc_msg.specs.Messages.{head_told}
use Rattle.rpc_msg.specs.declared.call.CallHead.{CallHead}
use Rattle.rpc_msg.specs.declared.messages.RpcFault.{RpcFault}
use Rattle.rpc_msg.specs.declared.numbers.TheConstants.{REPLY}
use Rattle.wire_xdr.specs.All.{start, value_of}
use Rattle.wire_xdr.specs.AllLaws.{value_spelled}
use Rattle.wire_xdr.specs.Cursor.{IsBytes}
use Rattle.wire_xdr.specs.StepLaws.{IsBytes-drop, IsBytes-take, bind_ok}
use Rattle.wire_xdr.specs.Words.{fixed_bytes, opaque_bytes, padding, word_bytes}
use Rattle.wire_spelling.specs.Calls.{call_read}
use Rattle.wire_spelling.specs.Slots.{carried_by, ops_in, ops_of}

first_bytes : (xs ys : List ℕ) → IsBytes (xs ++ ys) → IsBytes xs
first_bytes xs ys h = subst IsBytes (take_at xs ys (length xs) refl) (IsBytes-take (length xs) (xs ++ ys) h)

second_bytes : (xs ys : List ℕ) → IsBytes (xs ++ ys) → IsBytes ys
second_bytes xs ys h = subst IsBytes (drop_at xs ys (length xs) refl) (IsBytes-drop (length xs) (xs ++ ys) h)

no_bytes : IsBytes []
no_bytes i = omega arith

fixed_are : (bytes : List ℕ) → IsBytes (fixed_bytes bytes) → IsBytes bytes
unfolding fixed_bytes
fixed_are bytes h = first_bytes bytes (replicate (padding (length bytes)) 0) h

opaque_are : (bytes : List ℕ) → IsBytes (opaque_bytes bytes) → IsBytes bytes
unfolding opaque_bytes
opaque_are bytes h = fixed_are bytes (second_bytes (word_bytes (length bytes)) (fixed_bytes bytes) h)

parts_are : (parts : List ℕ × List ℕ) (body : List ℕ) → body ≡ two_opaques.spell parts → IsBytes body → IsBytes parts.0
unfolding two_opaques
parts_are parts body is h = opaque_are parts.0 (first_bytes (opaque_bytes parts.0) (opaque_bytes parts.1) (subst IsBytes is h))

carried_are : (body : List ℕ) (parts : Option (List ℕ × List ℕ)) → value_of two_opaques body ≡ parts → IsBytes body → IsBytes (carried_by parts)
carried_are body None is h = no_bytes
carried_are body (Some parts) is h = IsBytes-drop 4 parts.0 (parts_are parts body ((value_spelled two_opaques parts body h).0 is).1 h)

read_are : (bytes : List ℕ) (told : Result (CallHead × ℕ) RpcFault) → IsBytes bytes → IsBytes (ops_in (call_read bytes told))
read_are bytes (Ok read) h = carried_are (drop read.1 bytes) (value_of two_opaques (drop read.1 bytes)) refl (IsBytes-drop read.1 bytes h)
read_are bytes (Err fault) h = no_bytes

pub ops_are_bytes : (bytes : List ℕ) → IsBytes bytes → IsBytes (ops_of bytes)
ops_are_bytes bytes h = read_are bytes (head_told heads.call REPLY bytes) h

pub tag_is_short : (args : List ℕ) (c : Compound) → IsBytes args → compound_of args ≡ Ok c → length c.tag ≤ TEXT_LIMIT
unfolding compound_at
tag_is_short args c h read =
    let head = bind_ok (compound_head.read (start args)) _ c read in
    let body = bind_ok (body_at (one_at op_class op_arg) op_is_cut head.0.0.1.1 0 head.0.1) _ c head.2 in
    let fits = (compound_head.lawful.takes (start args) head.0.0 head.0.1 h head.1).1 in
    let same : head.0.0.0 ≡ c.tag = tag_of _ c body.2 in
    subst (λ (tag : List ℕ). length tag ≤ TEXT_LIMIT) same fits.0
  where
    tag_of : (made c : Compound) → ◌≡◌ {A = Result Compound ℕ} (Ok made) (Ok c) → made.tag ≡ c.tag
    tag_of made c is = let same : made ≡ c = cc in ap (λ (x : Compound). x.tag) same
