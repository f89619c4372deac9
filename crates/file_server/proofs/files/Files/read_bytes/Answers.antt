use Rattle.std.proofs.Common.{◌≡◌, ℕ, List, ◌++◌, length, None, refl, sym, ap, ◌∙◌, arith, Bool, true}
use Rattle.copy_model.specs.Volume.{file_at, bytes_at}
use Rattle.block_file.specs.declared.faults.ReadFault.{ReadFault}
use Rattle.server_volume.specs.Calls.{Called, read_call}
use Rattle.server_volume.specs.Store.{Store}
use Rattle.server_volume.specs.declared.used.Used.{Used}
use Rattle.server_volume.specs.Choices.{Choice}
use Rattle.wire_xdr.specs.Page.{Written, Added}
use Rattle.wire_xdr.specs.Words.{word_bytes, flag_bytes, opaque_bytes}
use Rattle.file_ops.specs.declared.operation.TheConstants.{OP_READ}
use Rattle.nfs_base.specs.declared.answer.Answer.TheVariants.{Refused}
use Rattle.nfs_base.specs.declared.status.TheConstants.Status.{IO}
use Rattle.nfs_base.specs.Forms.{answer}
use Rattle.file_ops.specs.declared.results.FileRes.TheVariants as results
use Rattle.file_ops.specs.Results.{file_res}
use Rattle.file_server.specs.Machine.{Going, shown, with_call}
use Rattle.file_server.specs.Answering.{going_of, machine_of, set_aside}
use Rattle.file_server.specs.Reading.{read_told, read_bytes}
use Rattle.file_server.proofs.Steps.{going_of_parts, shown_as, agrees_as, does_said, read_said, keeps_said}
use Rattle.file_server.proofs.files.Files.read_bytes.Goals as goal

abbrev gone : Store → List Used → Called ReadFault
gone store used = record { store = store; used = used; fault = None }

-- what a READ answers, once its call went through
after_read : {X : Type 0} (choice : Choice) (old : Going X) (off file len n : ℕ) (store : Store) (used : List Used) (before new : Written) (eof : Bool) (bytes : List ℕ)
    → n ≡ len → read_call choice old.used old.machine.store file off n ≡ gone store used
    → bytes ≡ bytes_at (file_at old.machine.store.volume file).now off n
    → Added before (word_bytes OP_READ ++ (word_bytes 0 ++ (flag_bytes eof ++ opaque_bytes bytes))) new
    → shown (read_bytes choice off len eof file old) before.bytes
    ≡ shown_as (going_of_parts (record old.machine { store = store }) old.held used true) new.bytes 0
after_read choice old off file len n store used before new eof bytes is call same added =
    let now = (file_at old.machine.store.volume file).now in
    ap (λ (k : ℕ). shown (read_bytes choice off k eof file old) before.bytes) (sym is)
    ∙ ap (λ (x : Called ReadFault). shown (read_told x.fault eof (bytes_at now off n) (with_call x old)) before.bytes) call
    ∙ read_said (record old.machine { store = store }) old.held used before new eof eof bytes (bytes_at now off n) added refl (sym same)

pub returns-in-Err-clause-does : goal.returns-in-Err-clause-does
unfolding file_res answer word_bytes
returns-in-Err-clause-does g c = λ told choice agrees.
    let old = going_of g.D.Disk.size c.args.self.now c.args.p.now in
    let q = record c.args.p.now { used = c.call_read.new.used } in
    let m = machine_of g.D.Disk.size (record c.args.self.now { volume = c.call_read.new.volume }) in
    let now = (file_at c.args.self.now.volume.volume c.args.file).now in
    let call = c.in-Err.ensures.makes told choice (agrees_as choice c.call_read.new.used c.refuse.new.self.used c.refuse.ensures.says.used agrees) in
    ap (λ (k : ℕ). shown (read_bytes choice c.args.off k c.args.eof c.args.file old) c.args.p.now.page.bytes) (sym c.requires.out)
    ∙ ap (λ (x : Called ReadFault). shown (read_told x.fault c.args.eof (bytes_at now c.args.off (length c.args.out.now)) (with_call x old)) c.args.p.now.page.bytes) call
    ∙ does_said m (results.Read (Refused IO)) q c.refuse.new.self _ c.refuse.result c.refuse.ensures.says refl (sym c.refuse.ensures.status)

pub returns-in-Err-clause-keeps : goal.returns-in-Err-clause-keeps
returns-in-Err-clause-keeps g c =
    keeps_said c.args.p.now (record c.args.p.now { used = c.call_read.new.used }) c.refuse.new.self _ c.refuse.ensures.says refl refl c.call_read.ensures.grows
    (omega (arith, c.call_read.ensures.counted)) (omega (arith, c.refuse.ensures.len))

pub returns-in-Ok-clause-keeps : goal.returns-in-Ok-clause-keeps
returns-in-Ok-clause-keeps g c = record {
  page = let aside = ap (λ (b : Bool). set_aside b) c.requires.first in
      omega (arith, aside, c.requires.short, c.requires.out, c.say_read.ensures.len);
  room = c.say_read.ensures.added.room;
  used = omega (arith, c.call_read.ensures.counted);
  grows = c.call_read.ensures.grows;
}

pub returns-in-Ok-clause-does : goal.returns-in-Ok-clause-does
returns-in-Ok-clause-does g c = λ told choice agrees.
    let old = going_of g.D.Disk.size c.args.self.now c.args.p.now in
    after_read choice old c.args.off c.args.file c.args.len (length c.args.out.now) _ c.call_read.new.used c.args.p.now.page c.say_read.new.page c.args.eof
    c.call_read.new.out c.requires.out (c.in-Ok.ensures.makes told choice agrees) (c.in-Ok.ensures.bytes told refl) c.say_read.ensures.added
