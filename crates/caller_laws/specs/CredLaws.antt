-- A credential under a context has few bytes, since the handle of one has eight.
use Rattle.std.proofs.Common.{◌≡◌, ℕ, ◌+◌, ◌≤◌, List, ◌++◌, length, arith}
use Rattle.std.proofs.lemmas.List.{length-append}
use Rattle.rpc_msg.specs.GssCred.{gss_cred}
use Rattle.rpc_msg.specs.declared.gss_cred.GssCred.{GssCred}
use Rattle.wire_xdr.specs.LengthLaws.{word_length, opaque_length, padding_below}
use Rattle.wire_xdr.specs.Words.{word_bytes, opaque_bytes}

short_handle : (handle : List ℕ) → length handle ≡ 8 → length (opaque_bytes handle) ≤ 15
short_handle handle eight = omega (arith, opaque_length handle, padding_below (length handle))

length-five : (a b c d e : List ℕ) → length (a ++ (b ++ (c ++ (d ++ e)))) ≡ length a + (length b + (length c + (length d + length e)))
length-five a b c d e =
    omega (arith, length-append a (b ++ (c ++ (d ++ e))), length-append b (c ++ (d ++ e)), length-append c (d ++ e), length-append d e)

pub short_cred : (v : GssCred) → length v.handle ≡ 8 → length (gss_cred.spell v) ≤ 400
unfolding gss_cred
short_cred v eight =
    omega (
      arith,
      length-five (word_bytes v.version) (word_bytes v.gss_proc) (word_bytes v.seq_num) (word_bytes v.service) (opaque_bytes v.handle),
      word_length v.version,
      word_length v.gss_proc,
      word_length v.seq_num,
      word_length v.service,
      short_handle v.handle eight,
    )
