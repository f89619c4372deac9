use Rattle.std.proofs.Common.{List, ◌++◌, ◌∷◌, [], ap, ◌∙◌, refl}
use Rattle.std.specs.String.{string_bytes}
use Rattle.wire_lines.specs.LineText.{lines_text}
use Rattle.wire_log.specs.Keeping.{reading}
use Rattle.wire_machine.specs.declared.choice.Choice.{Choice}
use Rattle.run_ends.specs.Ends.{count_gives, words_of}
use Rattle.wire_run.specs.Stage.{bytes_lines, choice_by}
use Rattle.wire_run.proofs.Keeping.{rest_kept}
use Rattle.wire_run.proofs.Peeks.{filled, peeked_bytes, shown_keeps, shown_small}
use Rattle.wire_run.proofs.Settled.{kept_all}
use Rattle.wire_run.proofs.Watched.{peeked_stops, stops_same, stops_settled}
use Rattle.wire_run.specs.Watching.{no_side}
use Rattle.std.proofs.Common.{ℕ, arith, Bool}
use Rattle.wire_run.proofs.stage.Stage.show.Goals as goal

pub returns-in_err-shown-clause-keeps : goal.returns-in_err-shown-clause-keeps
returns-in_err-shown-clause-keeps g c = rest_kept g.D.Disk.Told c.args.self.now c.args.self.now c.requires.fair.ready (kept_all c.args.self.now c.requires.fair.bytes)

pub returns-in_err-put_bytes-clause-keeps : goal.returns-in_err-put_bytes-clause-keeps
returns-in_err-put_bytes-clause-keeps g c =
    shown_keeps g.D.Disk.Told (words_of g.M.Mechanism.mic_of g.M.Mechanism.derived g.M.Mechanism.started g.M.Mechanism.accepted g.M.Mechanism.finished count_gives) reading g.D.Disk.faults g.D.Disk.size
    c.args.side c.args.file c.args.off c.args.self.now c.read-read.new.self c.read-read.new.self c.deref_mut.result.now c.read-read.new.out c.read-read.result c.requires.fair.ready c.read-read.ensures.peeks
    (kept_all c.read-read.new.self (omega (
      arith,
      c.requires.fair.bytes,
      peeked_bytes g.D.Disk.Told (words_of g.M.Mechanism.mic_of g.M.Mechanism.derived g.M.Mechanism.started g.M.Mechanism.accepted g.M.Mechanism.finished count_gives) reading g.D.Disk.faults g.D.Disk.size c.args.side c.args.file c.args.off c.args.self.now c.read-read.new.self c.deref_mut.result.now c.read-read.new.out c.read-read.result c.read-read.ensures.peeks,
    )))

pub returns-in_err-count-clause-keeps : goal.returns-in_err-count-clause-keeps
returns-in_err-count-clause-keeps g c =
    shown_keeps g.D.Disk.Told (words_of g.M.Mechanism.mic_of g.M.Mechanism.derived g.M.Mechanism.started g.M.Mechanism.accepted g.M.Mechanism.finished count_gives) reading g.D.Disk.faults g.D.Disk.size
    c.args.side c.args.file c.args.off c.args.self.now c.read-read.new.self c.count.new.self c.deref_mut.result.now c.read-read.new.out c.read-read.result c.requires.fair.ready c.read-read.ensures.peeks c.count.ensures.keeps

pub returns-clause-small : goal.returns-clause-small
returns-clause-small g c =
    shown_small g.D.Disk.Told (words_of g.M.Mechanism.mic_of g.M.Mechanism.derived g.M.Mechanism.started g.M.Mechanism.accepted g.M.Mechanism.finished count_gives) reading g.D.Disk.faults g.D.Disk.size
    c.args.side c.args.file c.args.off c.args.len c.args.self.now c.read-read.new.self c.count.new.self c.deref_mut.result.now c.read-read.new.out (string_bytes c.args.text.now) (string_bytes c.put_bytes.new.text) c.read-read.result
    c.requires.fair.ready c.requires.there c.read-read.ensures.peeks (c.deref_mut.ensures.len ∙ c.in_ok-shown.ensures.len)
    (c.in_ok-put_bytes.ensures ∙ ap (λ (bytes : List ℕ). string_bytes c.args.text.now ++ lines_text (bytes_lines c.read-read.result c.args.side c.args.file c.args.off bytes))
    (filled c.deref_mut.result.now c.in_ok-shown.shown.items c.read-read.new.out c.in_ok-shown.shown.len c.deref_mut.ensures.value c.read-read.auto.out c.deref_mut.ensures.len))
    c.count.ensures.keeps c.count.ensures.log
    (c.in_ok-count.ensures.choices ∙ ap (λ (x : Choice). c.read-read.new.self.choices.items ++ x ∷ []) (c.choice_by.ensures ∙ ap (λ (b : Bool). choice_by b) c.is_failure.ensures))

pub returns-clause-keeps : goal.returns-clause-keeps
returns-clause-keeps g c =
    shown_keeps g.D.Disk.Told (words_of g.M.Mechanism.mic_of g.M.Mechanism.derived g.M.Mechanism.started g.M.Mechanism.accepted g.M.Mechanism.finished count_gives) reading g.D.Disk.faults g.D.Disk.size
    c.args.side c.args.file c.args.off c.args.self.now c.read-read.new.self c.count.new.self c.deref_mut.result.now c.read-read.new.out c.read-read.result c.requires.fair.ready c.read-read.ensures.peeks c.count.ensures.keeps

pub returns-in_err-shown-clause-stops : goal.returns-in_err-shown-clause-stops
returns-in_err-shown-clause-stops g c = stops_same g.D.Disk.Told g.D.Disk.size g.D.Disk.fuse no_side c.args.self.now c.args.self.now c.requires.fair.watched refl refl refl

pub returns-in_err-put_bytes-clause-stops : goal.returns-in_err-put_bytes-clause-stops
returns-in_err-put_bytes-clause-stops g c =
    peeked_stops g.D.Disk.Told g.D.Disk.size g.D.Disk.fuse g.D.Disk.faults no_side c.args.side c.args.file c.args.off c.args.self.now c.read-read.new.self c.deref_mut.result.now c.read-read.new.out c.read-read.result
    c.requires.fair.watched c.read-read.ensures.peeks c.read-read.ensures.fuse

pub returns-in_err-count-clause-stops : goal.returns-in_err-count-clause-stops
returns-in_err-count-clause-stops g c =
    stops_settled g.D.Disk.Told g.D.Disk.size g.D.Disk.fuse no_side c.args.self.now c.read-read.new.self c.count.new.self
    (peeked_stops g.D.Disk.Told g.D.Disk.size g.D.Disk.fuse g.D.Disk.faults no_side c.args.side c.args.file c.args.off c.args.self.now c.read-read.new.self c.deref_mut.result.now c.read-read.new.out c.read-read.result
    c.requires.fair.watched c.read-read.ensures.peeks c.read-read.ensures.fuse)
    c.count.ensures.keeps

pub returns-clause-stops : goal.returns-clause-stops
returns-clause-stops g c =
    stops_settled g.D.Disk.Told g.D.Disk.size g.D.Disk.fuse no_side c.args.self.now c.read-read.new.self c.count.new.self
    (peeked_stops g.D.Disk.Told g.D.Disk.size g.D.Disk.fuse g.D.Disk.faults no_side c.args.side c.args.file c.args.off c.args.self.now c.read-read.new.self c.deref_mut.result.now c.read-read.new.out c.read-read.result
    c.requires.fair.watched c.read-read.ensures.peeks c.read-read.ensures.fuse)
    c.count.ensures.keeps
