-- No call is made by an operation on files that is counted as none.
use Rattle.std.proofs.Common.{◌≡◌, ℕ, Option, refl, arith}
use Rattle.compound_server.specs.Course.{Course, Service}
use Rattle.compound_server.specs.Performing.{file_done, file_rules}
use Rattle.file_ops.specs.declared.args.FileArg.{FileArg}
use Rattle.file_ops.specs.declared.args.FileArg.TheVariants as args
use Rattle.file_server.specs.declared.extension.Caller.{Caller}
use Rattle.nfs_base.specs.declared.written.Stability.{Stability}
use Rattle.nfs_base.specs.declared.written.Stability.TheVariants.{Unstable, DataSync, FileSync}
use Rattle.nfs_compound.specs.VolumeCalls.{file_calls, write_calls}
use Rattle.server_volume.specs.Choices.{Choice}
use Rattle.own_laws.proofs.FileParts.{attributes_call_none, close_keeps, get_keeps, lookup_keeps, open_keeps, put_keeps, put_root_keeps, restore_keeps, save_keeps}

writes_call : (how : Stability) → write_calls how ≡ 0 → ⊥
writes_call Unstable none = omega (arith, none)
writes_call DataSync none = omega (arith, none)
writes_call FileSync none = omega (arith, none)

pub calls_none : {X C : Type 0} (v : Service X C) (choice : Choice) (caller : Caller) (carry : Option C) (next : Option ℕ) (a : FileArg) (c : Course X) → file_calls a ≡ 0
    → (file_done v choice caller carry next a c).course.going.used ≡ c.going.used
unfolding file_done
calls_none v choice caller carry next (args.Close a) c none = (close_keeps a c.going).1
calls_none v choice caller carry next (args.Commit a) c none = absurd (omega (arith, none))
calls_none v choice caller carry next (args.GetAttr mask) c none = attributes_call_none (file_rules v) caller carry mask c.going
calls_none v choice caller carry next args.GetFh c none = (get_keeps c.going).1
calls_none v choice caller carry next (args.Lookup name) c none = (lookup_keeps name c.going).1
calls_none v choice caller carry next (args.Open a) c none = (open_keeps caller a c.going).1
calls_none v choice caller carry next (args.PutFh handle) c none = (put_keeps next handle c.going).1
calls_none v choice caller carry next args.PutRootFh c none = (put_root_keeps c.going).1
calls_none v choice caller carry next (args.Read a) c none = absurd (omega (arith, none))
calls_none v choice caller carry next args.RestoreFh c none = (restore_keeps c.going).1
calls_none v choice caller carry next args.SaveFh c none = (save_keeps c.going).1
calls_none v choice caller carry next (args.Write a) c none = absurd (writes_call a.stable none)
calls_none v choice caller carry next a c none = refl
