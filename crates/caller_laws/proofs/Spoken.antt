-- What a call says that goes out: its xid, its operations, the slot that they name, and whose INIT it is.
use Rattle.std.proofs.Common.{◌≡◌, ℕ, ◌+◌, ◌<◌, ◌≤◌, ◌^◌, Bool, true, false, List, ◌++◌, length, Option, Some, None, Result, Ok, ap, subst, ◌∙◌, arith, lit<, lit≤}
use Rattle.std.specs.Prelude.{◌==◌, ◌&&◌, nat_le, [], if◌then◌else◌}
use Rattle.std.proofs.lemmas.Bool.{le-leb}
use Rattle.nfs_base.specs.declared.programs.TheConstants.{NFS_PROGRAM, PROC_COMPOUND}
use Rattle.nfs_compound.specs.VolumeCalls.{volume_calls}
use Rattle.std.specs.List.{AllByRecursion}
use Rattle.wire_xdr.specs.All.{value_of}
use Rattle.wire_xdr.specs.AllLaws.{spelled_value}
use Rattle.wire_xdr.specs.Cursor.{IsBytes}
use Rattle.wire_xdr.specs.Words.{word_bytes, opaque_bytes, fixed_bytes}
use Rattle.gss_mech.specs.Tokens.{IsSized}
use Rattle.gss_ctx.specs.Calls.{Side, call_cred, sealed_call, verified, with_cred}
use Rattle.gss_ctx.specs.Forms.{init_token}
use Rattle.gss_ctx.specs.Init.{asked_cred, asked_head, init_head, init_message}
use Rattle.gss_ctx.specs.Seals.{Mic, cred_of, header_of, sealed_body}
use Rattle.nfs_base.specs.declared.limits.TheConstants.{TOKEN_LIMIT}
use Rattle.nfs_compound.specs.Compounds.{CompoundFits, compound_bytes, compound_of}
use Rattle.nfs_compound.specs.Ops.{op_is_cut}
use Rattle.nfs_compound.specs.declared.compound.Compound.{Compound}
use Rattle.nfs_compound.specs.declared.tail.Tail.TheVariants.{Whole}
use Rattle.rpc_msg.specs.GssCred.{gss_cred}
use Rattle.rpc_msg.specs.Heads.{auth, call}
use Rattle.rpc_msg.specs.declared.call.CallHead.{CallHead}
use Rattle.rpc_msg.specs.declared.gss_cred.GssCred.{GssCred}
use Rattle.session_client.specs.Asked.{args_of, asked_call}
use Rattle.session_client.specs.declared.asked.Asked.{Asked}
use Rattle.session_client.specs.declared.asked.Asked.TheVariants as asks
use Rattle.slot_calls.specs.BytesLaws.{ops_are_bytes}
use Rattle.wire_model.specs.Spelling.{SlotName}
use Rattle.wire_spelling.specs.Calls.{asks_for, begun_by, begun_in, call_in, calls_back, creates, end_of, is_callback, is_create, xid_in}
use Rattle.wire_spelling.specs.ReadLaws.{call_is_no_reply, call_read_back, call_xid, carried_back, ops_back}
use Rattle.wire_spelling.specs.Replies.{is_reply}
use Rattle.wire_spelling.specs.Slots.{asks_compound, carried_in, calls_in, first_slot, is_simple, ops_of, slot_asked, slot_in, slot_of}
use Rattle.caller_laws.specs.CredLaws.{short_cred}
use Rattle.caller_laws.specs.Good.{Identity, IsAsked, IsOurs, IsOwnToken}

-- a call by this xid, and to no callback program
pub record SaysCall (xid : ℕ) (bytes : List ℕ) : Type 0 where
  pub xid_is : xid_in bytes ≡ xid
  pub is_call : is_reply bytes ≡ false
  pub no_callback : is_callback bytes ≡ false

-- what is asked, as its record says it
abbrev pub slot_in_asked : Asked → Option SlotName
slot_in_asked (asks.Compound c) = first_slot c.ops
slot_in_asked _ = None

abbrev pub creates_asked : Asked → Bool
creates_asked (asks.Create args) = true
creates_asked _ = false

pub record SaysAsked (xid : ℕ) (asked : Asked) (bytes : List ℕ) : Type 0 where
  pub call : SaysCall xid bytes
  pub ops : ops_of bytes ≡ args_of asked
  pub creates : is_create bytes ≡ creates_asked asked
  pub slot : slot_of bytes ≡ slot_in_asked asked
  pub simple : (name : SlotName) → slot_in_asked asked ≡ Some name → is_simple (ops_of bytes) ≡ true

-- a compound that is written whole is read again
abbrev pub AreRead : Type 0
AreRead =
    (c : Compound) → IsBytes (compound_bytes c) → c.tail ≡ Whole → c.count ≡ length c.ops → CompoundFits c
    → AllByRecursion (λ op. op_is_cut op ≡ false) c.ops → compound_of (compound_bytes c) ≡ Ok c

-- ---- a call under a context

-- the side of a context may seal a call by this xid
pub record IsOpen (mic : Mic) (side : Side) (xid : ℕ) : Type 0 where
  pub sized : IsSized mic
  pub eight : length side.handle ≡ 8
  pub small : xid < 2 ^ 32
  pub left : side.next < 2 ^ 31

abbrev cred_sent : Side → ℕ → GssCred
cred_sent side gss = call_cred side.handle side.next (asked_cred gss)

abbrev head_sent : Mic → Side → ℕ → ℕ → ℕ → CallHead
head_sent mic side xid proc gss = verified mic side.key (with_cred (asked_head xid proc gss) (cred_sent side gss))

head_fits : (mic : Mic) (side : Side) (xid proc gss : ℕ) → IsOpen mic side xid → proc < 2 ^ 32 → call.Fits (head_sent mic side xid proc gss)
unfolding call auth
head_fits mic side xid proc gss o proc_small =
    let short = short_cred (cred_sent side gss) o.eight in
    let code = o.sized side.key 0 (header_of 0 (with_cred (asked_head xid proc gss) (cred_sent side gss))) in
    (o.small, (lit< tt, ((lit< tt, (lit< tt, (lit< tt, proc_small))), ((lit< tt, short), (lit< tt, omega arith)))))

cred_fits : (mic : Mic) (side : Side) (xid gss : ℕ) → IsOpen mic side xid → gss < 2 ^ 32 → gss_cred.Fits (cred_sent side gss)
unfolding gss_cred
cred_fits mic side xid gss o gss_small =
    let left = o.left in
    let eight = o.eight in
    (lit< tt, (gss_small, (omega arith, (lit< tt, omega arith))))

cred_is : (mic : Mic) (side : Side) (xid proc gss : ℕ) → IsOpen mic side xid → gss < 2 ^ 32 → cred_of (head_sent mic side xid proc gss) ≡ Some (cred_sent side gss)
cred_is mic side xid proc gss o gss_small = spelled_value gss_cred (cred_sent side gss) (cred_fits mic side xid gss o gss_small)

read_sent : (mic : Mic) (side : Side) (xid proc gss : ℕ) (body : List ℕ) → IsOpen mic side xid → proc < 2 ^ 32
    → call_in (call.spell (head_sent mic side xid proc gss) ++ body) ≡ Some (record { head = head_sent mic side xid proc gss; body = body })
read_sent mic side xid proc gss body o proc_small = call_read_back (head_sent mic side xid proc gss) body (head_fits mic side xid proc gss o proc_small)

says_call : (mic : Mic) (side : Side) (xid proc gss : ℕ) (body : List ℕ) → IsOpen mic side xid → proc < 2 ^ 32
    → SaysCall xid (call.spell (head_sent mic side xid proc gss) ++ body)
says_call mic side xid proc gss body o proc_small = record {
  xid_is = call_xid (head_sent mic side xid proc gss) body o.small;
  is_call = call_is_no_reply (head_sent mic side xid proc gss) body;
  no_callback = ap calls_back (read_sent mic side xid proc gss body o proc_small);
}

creates_sent : (mic : Mic) (side : Side) (xid proc gss : ℕ) (body : List ℕ) → IsOpen mic side xid → proc < 2 ^ 32 → gss < 2 ^ 32
    → is_create (call.spell (head_sent mic side xid proc gss) ++ body) ≡ (gss == 5)
creates_sent mic side xid proc gss body o proc_small gss_small =
    ap creates (read_sent mic side xid proc gss body o proc_small) ∙ ap (asks_for 5) (cred_is mic side xid proc gss o gss_small)

ops_sent : (mic : Mic) (side : Side) (xid proc gss : ℕ) (args : List ℕ) → IsOpen mic side xid → proc < 2 ^ 32 → length args < 4294967292
    → ops_of (sealed_call mic side.key (with_cred (asked_head xid proc gss) (cred_sent side gss)) side.next args) ≡ args
ops_sent mic side xid proc gss args o proc_small short =
    ops_back (mic side.key 0) (head_sent mic side xid proc gss) side.next args (o.sized side.key 0) (head_fits mic side xid proc gss o proc_small) (omega arith)

-- what is sent by a slot calls a volume once at most
simple_by : (read : Result Compound ℕ) (c : Compound) → read ≡ Ok c → volume_calls c.ops ≤ 1 → nat_le (calls_in read) 1 ≡ true
simple_by read c is simple = ap (λ (r : Result Compound ℕ). nat_le (calls_in r) 1) is ∙ le-leb (volume_calls c.ops) 1 simple

module _ (mic : Mic) (side : Side) (xid : ℕ) (o : IsOpen mic side xid) where
  says_compound : AreRead → (place : ℕ) (c : Compound) → IsOurs place c → IsBytes (asked_call mic side xid (asks.Compound c)).bytes
      → SaysAsked xid (asks.Compound c) (asked_call mic side xid (asks.Compound c)).bytes
  says_compound written place c ours are_bytes =
      let args : List ℕ = compound_bytes c in
      let body : List ℕ = sealed_body (mic side.key 0) side.next args in
      let head : CallHead = head_sent mic side xid 1 0 in
      let bytes : List ℕ = call.spell head ++ body in
      let whole = ours.sendable in
      let short : length args < 4294967292 = omega (arith, whole.short) in
      let ops : ops_of bytes ≡ args = ops_sent mic side xid 1 0 args o (lit< tt) short in
      let again : compound_of args ≡ Ok c = written c (subst IsBytes ops (ops_are_bytes bytes are_bytes)) whole.all ours.counted whole.fits ours.uncut in
      let asks_is : asks_compound (record { head = head; body = body }) ≡ true =
      ap (λ (b : Bool). (head.prog == NFS_PROGRAM) && (head.proc == PROC_COMPOUND) && b) (ap (asks_for 0) (cred_is mic side xid 1 0 o (lit< tt))) in
      record {
        call = says_call mic side xid 1 0 body o (lit< tt);
        ops = ops;
        creates = creates_sent mic side xid 1 0 body o (lit< tt) (lit< tt);
        slot = ap slot_in (read_sent mic side xid 1 0 body o (lit< tt))
            ∙ ap (λ (b : Bool). if b then slot_asked (compound_of (carried_in body)) else None) asks_is
            ∙ ap (λ (xs : List ℕ). slot_asked (compound_of xs)) (carried_back (mic side.key 0) side.next args (o.sized side.key 0) (omega arith))
            ∙ ap slot_asked again;
        simple = λ name named. ap is_simple ops ∙ simple_by (compound_of args) c again ours.simple;
      }

  says_create : (args : List ℕ) → length args < 4294967292 → SaysAsked xid (asks.Create args) (asked_call mic side xid (asks.Create args)).bytes
  says_create args short =
      let body : List ℕ = sealed_body (mic side.key 0) side.next args in
      record {
        call = says_call mic side xid 0 5 body o (lit< tt);
        ops = ops_sent mic side xid 0 5 args o (lit< tt) short;
        creates = creates_sent mic side xid 0 5 body o (lit< tt) (lit< tt);
        slot = ap slot_in (read_sent mic side xid 0 5 body o (lit< tt));
        simple = λ name named. absurd cc;
      }

  says_destroy : SaysAsked xid asks.Destroy (asked_call mic side xid asks.Destroy).bytes
  says_destroy =
      let body : List ℕ = sealed_body (mic side.key 0) side.next [] in
      record {
        call = says_call mic side xid 0 3 body o (lit< tt);
        ops = ops_sent mic side xid 0 3 [] o (lit< tt) (lit< tt);
        creates = creates_sent mic side xid 0 3 body o (lit< tt) (lit< tt);
        slot = ap slot_in (read_sent mic side xid 0 3 body o (lit< tt));
        simple = λ name named. absurd cc;
      }

  pub says_asked : AreRead → (place : ℕ) (asked : Asked) → IsAsked place asked → IsBytes (asked_call mic side xid asked).bytes
      → SaysAsked xid asked (asked_call mic side xid asked).bytes
  says_asked written place (asks.Compound c) ours are_bytes = says_compound written place c ours are_bytes
  says_asked written place (asks.Create args) short are_bytes = says_create args (omega (arith, short))
  says_asked written place asks.Destroy any are_bytes = says_destroy

-- ---- INIT

empty_short : length (gss_cred.spell (asked_cred 1)) ≤ 400
unfolding gss_cred opaque_bytes word_bytes fixed_bytes
empty_short = lit≤ tt

init_cred_fits : gss_cred.Fits (asked_cred 1)
unfolding gss_cred
init_cred_fits = (lit< tt, (lit< tt, (lit< tt, (lit< tt, lit≤ tt))))

init_fits : (xid : ℕ) → xid < 2 ^ 32 → call.Fits (init_head xid)
unfolding call auth
init_fits xid small =
    (small, (lit< tt, ((lit< tt, (lit< tt, (lit< tt, lit< tt))), ((lit< tt, empty_short), (lit< tt, omega arith)))))

token_back : (token : List ℕ) → length token ≤ TOKEN_LIMIT → value_of init_token (opaque_bytes token) ≡ Some token
unfolding init_token
token_back token short = spelled_value init_token token short

pub record SaysInit (who : Identity) (xid : ℕ) (bytes : List ℕ) : Type 0 where
  pub call : SaysCall xid bytes
  pub begun : begun_by who.accepts who.whose bytes ≡ Some who.own
  pub slot : slot_of bytes ≡ None

pub says_init : (who : Identity) (xid : ℕ) (token : List ℕ) → xid < 2 ^ 32 → IsOwnToken who token → SaysInit who xid (init_message xid token)
says_init who xid token small ours =
    let read : call_in (init_message xid token) ≡ Some (record { head = init_head xid; body = opaque_bytes token }) =
    call_read_back (init_head xid) (opaque_bytes token) (init_fits xid small) in
    let cred : cred_of (init_head xid) ≡ Some (asked_cred 1) = spelled_value gss_cred (asked_cred 1) init_cred_fits in
    record {
      call = record {
        xid_is = call_xid (init_head xid) (opaque_bytes token) small;
        is_call = call_is_no_reply (init_head xid) (opaque_bytes token);
        no_callback = ap calls_back read;
      };
      begun = ap (begun_in who.accepts who.whose) read
          ∙ ap (λ (c : Option GssCred). if asks_for 1 c then end_of who.accepts who.whose (value_of init_token (opaque_bytes token)) else None) cred
          ∙ ap (end_of who.accepts who.whose) (token_back token ours.short)
          ∙ ours.own;
      slot = ap slot_in read;
    }
