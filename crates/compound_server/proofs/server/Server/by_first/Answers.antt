use Rattle.std.proofs.Common.{rules, ◌≡◌, ℕ, false, ◌∷◌, length, refl, sym, ap, ◌∙◌}
use Rattle.std.specs.Prelude.{◌==◌}
use Rattle.file_ops.specs.declared.args.FileArg.TheVariants as args
use Rattle.file_ops.specs.declared.sessions.SequenceArgs.{SequenceArgs}
use Rattle.nfs_compound.specs.declared.op.Op.TheVariants.{File}
use Rattle.server_volume.specs.Store.{seat_of}
use Rattle.compound_server.specs.Course.{Service}
use Rattle.compound_server.specs.State.{Parting, state_of, with_own}
use Rattle.compound_server.proofs.Executed.{ran_told}
use Rattle.compound_server.proofs.Outside.{first_taken, gives_at, outside_first}
use Rattle.compound_server.proofs.Uncalled.{outside_used}
use Rattle.compound_server.proofs.server.Server.by_first.Goals as goal
use Rattle.compound_server.proofs.server.Server.by_first.Goals.{in_default-via-in-File+in_default, in_default-via-in_default}

pub returns-then-is_empty-clause-ran : goal.returns-then-is_empty-clause-ran
returns-then-is_empty-clause-ran g c =
    ran_told g.D.Disk.Told g.D.Disk.size c.at_tail.new.self c.at_tail.result _ _ _ c.at_tail.ensures.gives refl (ap (seat_of g.D.Disk.size g.D.Disk.fuse g.D.Disk.timeline g.D.Disk.faults) c.at_tail.ensures.volume)

pub returns-in_default-clause-ran : goal.returns-in_default-clause-ran
returns-in_default-clause-ran g c =
    ran_told g.D.Disk.Told g.D.Disk.size c.outside_session-told.new.self c.outside_session-told.result _ _ _ c.outside_session-told.ensures.gives (outside_used _ _ _ _ _ _ _ _ _) (ap (seat_of g.D.Disk.size g.D.Disk.fuse g.D.Disk.timeline g.D.Disk.faults) c.outside_session-told.ensures.volume)

pub returns-in_default-clause-gives : goal.returns-in_default-clause-gives
returns-in_default-clause-gives g c told =
    let s : Service g.row.X.Denot g.row.C.Denot = record { gate = g.X.Extension.gated; serve = g.X.Serving.serves } in
    let parting : Parting g.row.X.Denot = record { leave = g.X.Serving.leaves; lapse = g.X.Serving.lapses } in
    let some : (length c.args.ops.items == 0) ≡ false =
    ap (λ (n : ℕ). n == 0) (sym c.args.ops.ok.0) ∙ sym c.is_empty.ensures ∙ c.if-is_empty.false in
    let taken : c.args.ops.items ≡ c.remove-first.result ∷ c.remove-first.new.self.items =
    first_taken c.args.ops.items c.remove-first.new.self.items c.remove-first.result some c.remove-first.ensures.value c.remove-first.ensures.items in
    let other : (a : SequenceArgs) → c.remove-first.result ≡ File (args.Sequence a) → ⊥ =
    elim c.in_default.branch [
      | in_default-via-in-File+in_default w ↦ λ a e.
          let same : w.in_default.field-0 ≡ args.Sequence a = cc (sym w.in_default.is ∙ e) in
          search rules
      | in_default-via-in_default w ↦ λ a e. absurd (cc (sym w.in_default.is ∙ e))
    ] in
    gives_at g.D.Disk.size c.outside_session-told.new.self c.outside_session-told.result _ _
    (λ choice. outside_first s parting choice c.args.who.now c.args.principal.now c.args.carry.now c.args.tag.now c.args.tag.now c.args.count c.remove-first.result
    c.args.ops.items c.remove-first.new.self.items c.args.tail (with_own (g.X.Serving.lapses c.args.who.now.second c.args.self.now.files.extra) (state_of g.D.Disk.size c.args.self.now))
    other taken refl)
    c.outside_session-told.ensures.gives
