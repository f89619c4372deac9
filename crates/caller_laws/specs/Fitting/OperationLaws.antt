-- Each operation of these ends has a spelling, of bytes.
use Rattle.std.proofs.Common.{ℕ, ◌+◌, ◌<◌, ◌≤◌, ◌^◌, false, List, [], ◌∷◌, ◌++◌, length, Some, None, refl, arith}
use Rattle.std.specs.Prelude.{IfSome, sum_by, Option}
use Rattle.std.specs.List.{AllByRecursion}
use Rattle.std.proofs.lemmas.List.Sums.{sum_by-cons}
use Rattle.caller_laws.specs.Fitting.Asking.{AskedIsFit, BackChannelFits, FileCallIsFit, SlotCallIsFit, SoleCallIsFit}
use Rattle.caller_laws.specs.Fitting.Bounds.{FixedFits, NetLocFits, RangeFits, SlotUseFits, TextFits}
use Rattle.caller_laws.specs.Fitting.BytesLaws.{flag_are, hyper_are, list_are, state_id_are}
use Rattle.copy_ops.specs.Forms.{copy_arg, copy_args, notify_args}
use Rattle.file_ops.specs.Args.{file_arg}
use Rattle.file_ops.specs.Files.{close_args, commit_args, read_args, write_args}
use Rattle.file_ops.specs.Opening.{claim, open_args, open_how}
use Rattle.file_ops.specs.Parms.{channel_attrs, gss_parm, sec_parm}
use Rattle.file_ops.specs.Sessions.{create_session_args, exchange_id_args, protection, sequence_args}
use Rattle.file_ops.specs.declared.args.FileArg.TheVariants as files
use Rattle.file_ops.specs.declared.files.TheConstants.{ATTR_CHANGE}
use Rattle.gss_mech.specs.BytesLaws.{fixed_are, glued, no_bytes, opaque_are, word_are}
use Rattle.nfs_base.specs.Bounds.{HandleFits, StateIdFits}
use Rattle.nfs_base.specs.Forms.{handle, net_loc, stability, state_id}
use Rattle.nfs_base.specs.declared.limits.TheConstants.{NAME_LIMIT}
use Rattle.nfs_base.specs.declared.net_loc.NetLoc.{NetLoc}
use Rattle.nfs_base.specs.declared.net_loc.NetLoc.TheVariants.{Name, Url, Addr}
use Rattle.nfs_base.specs.declared.state_id.StateId.{StateId}
use Rattle.nfs_compound.specs.CallLengthLaws.{compound_sized, op_size}
use Rattle.nfs_compound.specs.Compounds.{CompoundFits, compound_bytes}
use Rattle.nfs_compound.specs.Ops.{op_arg, operation}
use Rattle.nfs_compound.specs.declared.op.Op.{Op}
use Rattle.nfs_compound.specs.declared.op.Op.TheVariants.{File}
use Rattle.session_calls.specs.Calls.{attributes_op, back_parm, channel, copy_op, create_op, file_op, notify_op, open_op, sequence_op, slot_compound, slot_ops, sole_compound, sole_op, whole}
use Rattle.session_calls.specs.declared.slot_call.CopyRange.{CopyRange}
use Rattle.session_calls.specs.declared.slot_call.FileCall.{FileCall}
use Rattle.session_calls.specs.declared.slot_call.FileCall.TheVariants as asks
use Rattle.session_calls.specs.declared.slot_call.SlotCall.{SlotCall}
use Rattle.session_calls.specs.declared.slot_call.SlotCall.TheVariants as slots
use Rattle.session_calls.specs.declared.slot_call.SlotUse.{SlotUse}
use Rattle.session_calls.specs.declared.sole_call.BackChannel.{BackChannel}
use Rattle.session_calls.specs.declared.sole_call.SoleCall.{SoleCall}
use Rattle.session_calls.specs.declared.sole_call.SoleCall.TheVariants as soles
use Rattle.session_client.specs.declared.asked.Asked.TheVariants.{Compound}
use Rattle.wire_xdr.specs.Cursor.{IsBytes}
use Rattle.wire_xdr.specs.Forms.{word}
use Rattle.wire_xdr.specs.Parts.{option_spell}
use Rattle.wire_xdr.specs.Words.{flag_bytes, hyper_bytes, opaque_bytes, word_bytes}

-- the operation has a spelling, of bytes and so long
record IsSpelled (size : ℕ) (op : Op) : Type 0 where
  fits : operation.Fits op
  are_bytes : IsBytes (operation.spell op)
  size_is : op_size op ≤ size

id_fits : (id : StateId) → StateIdFits id → state_id.Fits id
unfolding state_id
id_fits id h = (h.seqid, (h.kind, (h.boot, h.number)))

loc_fits : (loc : NetLoc) → NetLocFits loc → net_loc.Fits loc
unfolding net_loc
loc_fits (Name name) h = (omega arith, h.short)
loc_fits (Url url) h = (omega arith, h.short)
loc_fits (Addr netid addr) h = (omega arith, (h.0.short, h.1.short))

pub loc_are : (loc : NetLoc) → NetLocFits loc → IsBytes (net_loc.spell loc)
unfolding net_loc
loc_are (Name name) h = glued (word_bytes _) _ (word_are _) (opaque_are name h.are_bytes)
loc_are (Url url) h = glued (word_bytes _) _ (word_are _) (opaque_are url h.are_bytes)
loc_are (Addr netid addr) h =
    glued (word_bytes _) _ (word_are _) (glued (opaque_bytes netid) (opaque_bytes addr) (opaque_are netid h.0.are_bytes) (opaque_are addr h.1.are_bytes))

-- ---- the operations

sequence_is : (place : SlotUse) → SlotUseFits place → IsSpelled 200 (sequence_op place)
unfolding operation op_arg file_arg sequence_args
sequence_is place h = record {
  fits = (omega arith, (refl, refl, (refl, (h.session.size_is, (h.number, (h.slot, (omega arith, tt)))))));
  are_bytes = glued (word_bytes _) _ (word_are _) (glued _ _ (fixed_are place.session h.session.are_bytes) (search (glued, word_are, flag_are) depth 20));
  size_is = omega arith;
}

put_is : (file : List ℕ) → HandleFits file → IsSpelled 200 (File (files.PutFh file))
unfolding operation op_arg file_arg handle
put_is file h = record {
  fits = (omega arith, (refl, refl, (refl, (h.least, h.short))));
  are_bytes = glued (word_bytes _) _ (word_are _) (opaque_are file h.are_bytes);
  size_is = omega (arith, h.short);
}

put_root_is : IsSpelled 200 (File files.PutRootFh)
unfolding operation op_arg file_arg
put_root_is = record { fits = (omega arith, (refl, refl, (refl, tt))); are_bytes = glued (word_bytes _) [] (word_are _) no_bytes; size_is = omega arith }

get_is : IsSpelled 200 (File files.GetFh)
unfolding operation op_arg file_arg
get_is = record { fits = (omega arith, (refl, refl, (refl, tt))); are_bytes = glued (word_bytes _) [] (word_are _) no_bytes; size_is = omega arith }

save_is : IsSpelled 200 (File files.SaveFh)
unfolding operation op_arg file_arg
save_is = record { fits = (omega arith, (refl, refl, (refl, tt))); are_bytes = glued (word_bytes _) [] (word_are _) no_bytes; size_is = omega arith }

reclaim_is : IsSpelled 200 (File (files.ReclaimComplete false))
unfolding operation op_arg file_arg
reclaim_is = record { fits = (omega arith, (refl, refl, (refl, tt))); are_bytes = glued (word_bytes _) _ (word_are _) (flag_are false); size_is = omega arith }

attributes_is : (mask : ℕ) → mask < 2 ^ 32 → IsSpelled 200 (attributes_op mask)
unfolding operation op_arg file_arg
attributes_is mask small = record {
  fits = (omega arith, (refl, refl, (refl, (omega arith, (small, tt)))));
  are_bytes = glued (word_bytes _) _ (word_are _) (list_are word (mask ∷ []) (word_are mask, tt));
  size_is = omega arith;
}

open_is : (client : ℕ) (owner name : List ℕ) → client < 2 ^ 64 → TextFits NAME_LIMIT owner → TextFits NAME_LIMIT name → IsSpelled 300 (open_op client owner name)
unfolding operation op_arg file_arg open_args open_how claim
open_is client owner name small o n = record {
  fits = (
    omega arith,
    (refl, refl, (refl, (omega arith, (omega arith, (omega arith, (small, (omega (arith, o.short), (omega arith, (omega arith, refl, omega (arith, n.short)))))))))),
  );
  are_bytes = search (glued, word_are, hyper_are, opaque_are, o.are_bytes, n.are_bytes) depth 20;
  size_is = omega (arith, o.short, n.short);
}

file_is : (call : FileCall) → FileCallIsFit call → IsSpelled 66000 (file_op call)
unfolding operation op_arg file_arg copy_arg close_args write_args commit_args read_args stability
file_is (asks.Close id) h = record {
  fits = (omega arith, (refl, refl, (refl, (omega arith, id_fits id h))));
  are_bytes = search (glued, word_are, state_id_are) depth 20;
  size_is = omega arith;
}
file_is (asks.Write id offset bytes) h = record {
  fits = (omega arith, (refl, refl, (refl, (id_fits id h.0, (h.1, ((omega arith, tt), omega (arith, h.2.short)))))));
  are_bytes = search (glued, word_are, hyper_are, state_id_are, opaque_are, no_bytes, h.2.are_bytes) depth 20;
  size_is = omega (arith, h.2.short);
}
file_is asks.Commit h = record {
  fits = (omega arith, (refl, refl, (refl, (omega arith, omega arith))));
  are_bytes = search (glued, word_are, hyper_are) depth 20;
  size_is = omega arith;
}
file_is asks.Change h = let a = attributes_is ATTR_CHANGE (omega arith) in record { fits = a.fits; are_bytes = a.are_bytes; size_is = omega (arith, a.size_is) }
file_is asks.ChangeAndSize h =
    let a = attributes_is 24 (omega arith) in
    record { fits = a.fits; are_bytes = a.are_bytes; size_is = omega (arith, a.size_is) }
file_is (asks.Read id offset count) h = record {
  fits = (omega arith, (refl, refl, (refl, (id_fits id h.0, (h.1, h.2)))));
  are_bytes = search (glued, word_are, hyper_are, state_id_are) depth 20;
  size_is = omega arith;
}
file_is (asks.Status id) h = record { fits = (omega arith, (refl, (refl, id_fits id h))); are_bytes = search (glued, word_are, state_id_are) depth 20; size_is = omega arith }
file_is (asks.Cancel id) h = record { fits = (omega arith, (refl, (refl, id_fits id h))); are_bytes = search (glued, word_are, state_id_are) depth 20; size_is = omega arith }

notify_is : (id : StateId) (destination : NetLoc) → StateIdFits id → NetLocFits destination → IsSpelled 20000 (notify_op id destination)
unfolding operation op_arg copy_arg notify_args
notify_is id destination i d = record {
  fits = (omega arith, (refl, (refl, (id_fits id i, loc_fits destination d))));
  are_bytes = glued (word_bytes _) _ (word_are _) (glued (state_id.spell id) (net_loc.spell destination) (state_id_are id) (loc_are destination d));
  size_is = omega arith;
}

copy_is : (source_id id : StateId) (range : CopyRange) (source : NetLoc) → StateIdFits source_id → StateIdFits id → RangeFits range → NetLocFits source
    → IsSpelled 20000 (copy_op source_id id range source)
unfolding operation op_arg copy_arg copy_args
copy_is source_id id range source s i r l = record {
  fits = (
    omega arith,
    (refl, (refl, ((id_fits source_id s, (id_fits id i, (r.src_off, r.dst_off))), (r.count, (tt, (tt, (omega arith, (loc_fits source l, tt)))))))),
  );
  are_bytes =
      glued (word_bytes _) _ (word_are _)
      (glued (state_id.spell source_id ++ (state_id.spell id ++ (hyper_bytes range.src_off ++ hyper_bytes range.dst_off))) _
      (search (glued, state_id_are, hyper_are) depth 20)
      (glued (hyper_bytes range.count) _ (hyper_are range.count)
      (glued (flag_bytes range.consecutive) _ (flag_are range.consecutive)
      (glued (flag_bytes false) _ (flag_are false) (list_are net_loc (source ∷ []) (loc_are source l, tt))))));
  size_is = omega arith;
}

-- ---- alone

exchange_is : (verifier owner : List ℕ) → FixedFits 8 verifier → TextFits NAME_LIMIT owner → IsSpelled 2000 (File (sole_op (soles.ExchangeId verifier owner)))
unfolding operation op_arg file_arg exchange_id_args protection option_spell
exchange_is verifier owner v o = record {
  fits = (omega arith, (refl, refl, (refl, (v.size_is, (omega (arith, o.short), (omega arith, (omega arith, refl, tt)))))));
  are_bytes = search (glued, word_are, flag_are, fixed_are, opaque_are, v.are_bytes, o.are_bytes) depth 20;
  size_is = omega (arith, o.short);
}

channel_fits : channel_attrs.Fits channel
unfolding channel_attrs
channel_fits = (omega arith, (omega arith, (omega arith, (omega arith, (omega arith, (omega arith, tt))))))

channel_are : IsBytes (channel_attrs.spell channel)
unfolding channel_attrs option_spell
channel_are = search (glued, word_are, flag_are) depth 20

parm_fits : (back : BackChannel) → BackChannelFits back → sec_parm.Fits (back_parm back)
unfolding sec_parm gss_parm
parm_fits back h = (omega arith, (omega arith, (omega (arith, h.from_server.size_is), omega (arith, h.from_client.size_is))))

parm_are : (back : BackChannel) → BackChannelFits back → IsBytes (sec_parm.spell (back_parm back))
unfolding sec_parm gss_parm
parm_are back h = search (glued, word_are, opaque_are, h.from_server.are_bytes, h.from_client.are_bytes) depth 20

create_is : (client sequence : ℕ) (back : Option BackChannel) → client < 2 ^ 64 → sequence < 2 ^ 32 → IfSome back BackChannelFits
    → IsSpelled 2000 (File (create_op client sequence back))
unfolding operation op_arg file_arg create_session_args
create_is client sequence None c s h = record {
  fits = (omega arith, (refl, refl, (refl, (c, (s, (omega arith, (channel_fits, (channel_fits, (omega arith, (omega arith, tt))))))))));
  are_bytes = search (glued, word_are, hyper_are, channel_are, list_are sec_parm [] tt) depth 20;
  size_is = omega arith;
}
create_is client sequence (Some back) c s h = record {
  fits = (omega arith, (refl, refl, (refl, (c, (s, (omega arith, (channel_fits, (channel_fits, (omega arith, (omega arith, (parm_fits back h, tt)))))))))));
  are_bytes = search (glued, word_are, hyper_are, channel_are, list_are sec_parm (back_parm back ∷ []) (parm_are back h, tt)) depth 20;
  size_is = omega (arith, h.from_server.size_is, h.from_client.size_is);
}

sole_is : (call : SoleCall) → SoleCallIsFit call → IsSpelled 2000 (File (sole_op call))
unfolding operation op_arg file_arg
sole_is (soles.ExchangeId verifier owner) h = exchange_is verifier owner h.0 h.1
sole_is (soles.CreateSession client sequence back) h = create_is client sequence back h.0 h.1 h.2
sole_is (soles.DestroySession session) h = record {
  fits = (omega arith, (refl, refl, (refl, h.size_is)));
  are_bytes = search (glued, word_are, fixed_are, h.are_bytes) depth 20;
  size_is = omega arith;
}
sole_is (soles.DestroyClientId client) h = record {
  fits = (omega arith, (refl, refl, (refl, h)));
  are_bytes = search (glued, word_are, hyper_are) depth 20;
  size_is = omega arith;
}

-- ---- operations one after the other

record AreSpelled (size : ℕ) (ops : List Op) : Type 0 where
  fits : AllByRecursion operation.Fits ops
  are_bytes : AllByRecursion (λ op. IsBytes (operation.spell op)) ops
  size_is : sum_by op_size ops ≤ size

no_more : AreSpelled 0 []
no_more = record { fits = tt; are_bytes = tt; size_is = omega arith }

and_more : (size more : ℕ) (op : Op) (ops : List Op) → IsSpelled size op → AreSpelled more ops → AreSpelled (size + more) (op ∷ ops)
and_more size more op ops h k = record {
  fits = (h.fits, k.fits);
  are_bytes = (h.are_bytes, k.are_bytes);
  size_is = omega (arith, sum_by-cons op_size op ops, h.size_is, k.size_is);
}

widened : (size : ℕ) (ops : List Op) {more : ℕ} → size ≤ more → AreSpelled size ops → AreSpelled more ops
widened size ops le h = record { fits = h.fits; are_bytes = h.are_bytes; size_is = omega (arith, h.size_is, le) }

slot_are : (call : SlotCall) → SlotCallIsFit call → AreSpelled 70000 (slot_ops call)
slot_are slots.ReclaimComplete h = widened 200 _ (omega arith) (and_more 200 0 _ [] reclaim_is no_more)
slot_are (slots.Open client owner name) h =
    widened 700 _ (omega arith)
    (and_more 200 500 _ _ put_root_is (and_more 300 200 _ _ (open_is client owner name h.0 h.1 h.2) (and_more 200 0 _ [] get_is no_more)))
slot_are (slots.OnFile file call) h = widened 66200 _ (omega arith) (and_more 200 66000 _ _ (put_is file h.0) (and_more 66000 0 _ [] (file_is call h.1) no_more))
slot_are (slots.Notify file id destination) h =
    widened 20400 _ (omega arith)
    (and_more 200 20200 _ _ (put_is file h.0)
    (and_more 200 20000 _ _ (attributes_is ATTR_CHANGE (omega arith)) (and_more 20000 0 _ [] (notify_is id destination h.1 h.2) no_more)))
slot_are (slots.Copy source_file source_id file id range source) h =
    widened 20600 _ (omega arith)
    (and_more 200 20400 _ _ (put_is source_file h.0)
    (and_more 200 20200 _ _ save_is
    (and_more 200 20000 _ _ (put_is file h.2) (and_more 20000 0 _ [] (copy_is source_id id range source h.1 h.3 h.4 h.5) no_more))))

slot_few : (call : SlotCall) → length (slot_ops call) ≤ 4
slot_few slots.ReclaimComplete = omega arith
slot_few (slots.Open client owner name) = omega arith
slot_few (slots.OnFile file call) = omega arith
slot_few (slots.Notify file id destination) = omega arith
slot_few (slots.Copy source_file source_id file id range source) = omega arith

-- ---- as a compound

sendable : (ops : List Op) → length ops ≤ 16 → AreSpelled 72000 ops → AskedIsFit (Compound (whole ops))
unfolding compound_bytes
sendable ops few h =
    let fits : CompoundFits (whole ops) = record { tag = omega arith; minor = omega arith; ops = (omega (arith, few), h.fits) } in
    record {
      fits = record { all = refl; fits = fits; short = omega (arith, compound_sized (whole ops) fits, h.size_is) };
      are_bytes = glued (opaque_bytes []) _ (opaque_are [] no_bytes) (glued (word_bytes _) _ (word_are _) (list_are operation ops h.are_bytes));
    }

pub slot_fits : (place : SlotUse) (call : SlotCall) → SlotUseFits place → SlotCallIsFit call → AskedIsFit (Compound (slot_compound place call))
slot_fits place call p h =
    sendable (sequence_op place ∷ slot_ops call) (omega (arith, slot_few call))
    (widened 70200 _ (omega arith) (and_more 200 70000 _ _ (sequence_is place p) (slot_are call h)))

pub sole_fits : (call : SoleCall) → SoleCallIsFit call → AskedIsFit (Compound (sole_compound call))
sole_fits call h = sendable (File (sole_op call) ∷ []) (omega arith) (widened 2000 _ (omega arith) (and_more 2000 0 _ [] (sole_is call h) no_more))
