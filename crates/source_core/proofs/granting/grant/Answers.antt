use Rattle.std.proofs.Common.{sym, ap, ◌∙◌, Result}
use Rattle.compound_server.specs.Serves.{served, told_of}
use Rattle.copy_grants.specs.Grants.{GrantTable, notify_table}
use Rattle.copy_grants.specs.declared.grants.Full.{Full}
use Rattle.copy_ops.specs.declared.res.CopyRes.TheVariants as results
use Rattle.file_server.specs.Answering.{going_of, machine_of}
use Rattle.nfs_base.specs.declared.answer.Answer.TheVariants.{Done, Refused}
use Rattle.nfs_base.specs.declared.state_id.StateId.{StateId}
use Rattle.nfs_base.specs.declared.status.TheConstants.Status.{DELAY}
use Rattle.source_core.specs.Serving.{grant_told, notify_refused, notify_told, with_grants}
use Rattle.compound_server.specs.SayingLaws.{notify_done_spelled, notify_refused_spelled, serves_said}
use Rattle.source_core.proofs.granting.grant.Goals as goal

pub returns-in-Err-clause-serves : goal.returns-in-Err-clause-serves
returns-in-Err-clause-serves g c = λ choice agrees.
    let size = g.D.Disk.size in
    let files = c.args.files.now in
    let x = files.extra in
    let p = c.args.p.now in
    let old = going_of size files p in
    let table = notify_table x.grants c.args.second c.args.file c.args.destination c.args.strings.user c.args.strings.secret in
    ap (λ (a : Result StateId Full). told_of (notify_told a x.own (with_grants table old)) p.page.bytes) (sym c.notify_taken.ensures.answer ∙ c.in-Err.is)
    ∙ ap (λ (t : GrantTable). told_of (notify_refused (with_grants t old) DELAY) p.page.bytes) (sym c.notify_taken.ensures.done)
    ∙ serves_said (machine_of size (record files { extra = record x { grants = c.notify_taken.new.self } })) (results.CopyNotify (Refused DELAY)) p c.refuse.new.self _ c.refuse.result
    c.refuse.ensures.says (notify_refused_spelled DELAY) (sym c.refuse.ensures.status)

pub returns-in-Ok-clause-serves : goal.returns-in-Ok-clause-serves
returns-in-Ok-clause-serves g c = λ choice agrees.
    let size = g.D.Disk.size in
    let files = c.args.files.now in
    let x = files.extra in
    let p = c.args.p.now in
    let old = going_of size files p in
    let table = notify_table x.grants c.args.second c.args.file c.args.destination c.args.strings.user c.args.strings.secret in
    ap (λ (a : Result StateId Full). told_of (notify_told a x.own (with_grants table old)) p.page.bytes) (sym c.notify_taken.ensures.answer ∙ c.in-Ok.is)
    ∙ ap (λ (t : GrantTable). told_of (served (with_grants t old) (results.CopyNotify (Done (grant_told c.in-Ok.id x.own)))) p.page.bytes) (sym c.notify_taken.ensures.done)
    ∙ serves_said (machine_of size (record files { extra = record x { grants = c.notify_taken.new.self } })) (results.CopyNotify (Done (grant_told c.in-Ok.id x.own))) p c.say_granted.new.p _ c.say_granted.result
    c.say_granted.ensures.says (notify_done_spelled (grant_told c.in-Ok.id x.own)) (sym c.say_granted.ensures.status)
