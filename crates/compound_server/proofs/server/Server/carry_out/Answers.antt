use Rattle.std.proofs.Common.{◌≡◌, ℕ, List, ◌++◌, map, sym, ap, ◌∙◌}
use Rattle.file_server.specs.Answering.{machine_of}
use Rattle.nfs_compound.specs.Results.{outcome}
use Rattle.sess_slots.specs.Begins.{finished}
use Rattle.sess_slots.specs.Table.{SessionTable}
use Rattle.wire_xdr.specs.Page.{Written}
use Rattle.wire_xdr.specs.Words.{word_bytes, opaque_bytes}
use Rattle.compound_server.specs.Compounds.{executed, sequence_done}
use Rattle.compound_server.specs.Course.{Course, Service, course_of}
use Rattle.compound_server.specs.Preparing.{op_of}
use Rattle.compound_server.specs.State.{Given}
use Rattle.compound_server.specs.Walking.{Walked, results_of, walk}
use Rattle.compound_server.proofs.Executed.{executed_as, sequence_text}
use Rattle.compound_server.specs.PageLaws.{added_then}
use Rattle.compound_server.proofs.Steps.{begun_as}
use Rattle.compound_server.proofs.server.Server.carry_out.Goals as goal

-- src/compounds.rt:369:5
pub returns-clause-gives : goal.returns-clause-gives
returns-clause-gives g c = λ told choice agrees.
    let s : Service g.row.X.Denot g.row.C.Denot = record { gate = g.X.Extension.gated; serve = g.X.Serving.serves } in
    let who = c.args.who.now in
    let tag = c.args.tag.now in
    let a = c.args.args.now in
    let done = c.evaluate-done in
    let walked : Course g.row.X.Denot → Walked g.row.X.Denot = λ course. walk s choice c.args.caller.now c.args.carry.now c.args.tail (map op_of c.args.ops) course in
    let from = course_of g.D.Disk.size c.args.self.now c.args.p in
    let text = sequence_text tag a done.new.p.page.bytes done.result.status.number done.result.count in
    let walks = ap (λ (before : List ℕ). results_of (walked from) before 1) (sym c.requires.new.page) ∙ done.ensures.walks told choice agrees in
    let added = added_then c.put_head.ensures.added (added_then c.put_sequence.ensures.added c.append.ensures.added) in
    let head = word_bytes done.result.status.number ++ (opaque_bytes tag ++ word_bytes done.result.count) in
    let whole : c.append.new.self.bytes ≡ text =
    added.is ∙ ap (λ (b : Written). b.bytes ++ (head ++ (outcome.spell (sequence_done a) ++ c.as_slice.result.now))) c.requires.body
    ∙ ap (λ (bytes : List ℕ). head ++ (outcome.spell (sequence_done a) ++ bytes)) c.as_slice.ensures in
    let kept : c.finish.result ≡ text =
    c.finish.ensures ∙ c.append-2.ensures.added.is ∙ ap (λ (k : Written). k.bytes ++ c.as_slice-2.result.now) c.requires.kept ∙ c.as_slice-2.ensures ∙ whole in
    let left : SessionTable → List ℕ → Given g.row.X.Denot = λ table bytes. record {
      state = record { machine = machine_of g.D.Disk.size done.new.self.files; sessions = table };
      used = done.new.p.used;
      body = bytes;
    } in
    let table : c.finish-2.new.self ≡ finished done.new.self.sessions c.args.place who.root text who.second =
    c.finish-2.ensures ∙ ap (λ (k : List ℕ). finished done.new.self.sessions c.args.place who.root k who.second) kept in
    ap (λ course. executed who c.args.place tag a (walked course)) (begun_as (machine_of g.D.Disk.size c.args.self.now.files) c.args.self.now.sessions c.args.p c.requires.new)
    ∙ executed_as who c.args.place tag a (walked from) _ walks
    ∙ ap (λ t. left t text) (sym table)
    ∙ ap (λ bytes. left c.finish-2.new.self bytes) (sym (c.finish-3.ensures ∙ whole))
