use Rattle.std.proofs.Common.{◌≡◌, ℕ, List, true, ◌++◌, refl, sym, ap, ◌∙◌, append_assoc}
use Rattle.nfs_base.specs.declared.state_id.StateId.{StateId}
use Rattle.nfs_base.specs.Forms.{state_id}
use Rattle.wire_xdr.specs.Parts.{list_spell}
use Rattle.wire_xdr.specs.Words.{word_bytes, hyper_bytes, flag_bytes}
use Rattle.file_ops.specs.Free.{zero_word}
use Rattle.file_ops.specs.Opening.{open_done}
use Rattle.file_server.specs.Opening.{opened_as}
use Rattle.file_server.proofs.opening.put_opened.Goals as goal

abbrev unchanged : List ℕ
unchanged = flag_bytes true ++ (hyper_bytes 0 ++ (hyper_bytes 0 ++ (word_bytes 0 ++ (word_bytes 0 ++ word_bytes 0))))

opened_spelled : (id : StateId) → open_done.spell (opened_as id) ≡ state_id.spell id ++ unchanged
unfolding open_done list_spell zero_word word_bytes
opened_spelled id = refl

pub returns-clause-added : goal.returns-clause-added
returns-clause-added c =
    let before = c.args.page.now.bytes in
    record {
      is =
          c.put_unchanged.ensures.added.is
          ∙ ap (λ (bytes : List ℕ). bytes ++ unchanged) c.put_state_id.ensures.added.is
          ∙ append_assoc before (state_id.spell c.args.id.now) unchanged
          ∙ ap (λ (text : List ℕ). before ++ text) (sym (opened_spelled c.args.id.now));
      room = c.put_unchanged.ensures.added.room ∙ c.put_state_id.ensures.added.room;
    }
