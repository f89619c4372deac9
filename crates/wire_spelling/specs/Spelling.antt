-- The spelling of records by which the laws of a wire are said of these ends. It goes by what the mechanism makes of a
-- token, which is the principal that sent it, and by whose a principal is.
use Rattle.std.specs.Prelude.{ℕ, List, Option}
use Rattle.nfs_base.specs.declared.seal.End.{End}
use Rattle.wire_model.specs.Spelling.{Spelling}
use Rattle.wire_spelling.specs.Calls.{xid_in, is_callback, begun_by, is_create}
use Rattle.wire_spelling.specs.Replies.{is_reply, results_of, context_in, has_run}
use Rattle.wire_spelling.specs.Slots.{slot_of, ops_of, is_simple}

abbrev pub spelling : (accepts : List ℕ → Option (List ℕ)) → (whose : List ℕ → Option End) → Spelling
spelling accepts whose = record {
  is_reply = is_reply;
  xid_of = xid_in;
  is_callback = is_callback;
  begun_by = begun_by accepts whose;
  is_create = is_create;
  slot_of = slot_of;
  ops_of = ops_of;
  results_of = results_of;
  context_in = context_in;
  is_simple = is_simple;
  has_run = has_run;
}
