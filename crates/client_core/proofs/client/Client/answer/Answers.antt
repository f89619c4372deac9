use Rattle.std.proofs.Common.{◌≤◌, length, ap, subst, sym}
use Rattle.client_steps.specs.declared.desk.Desk.{Desk}
use Rattle.nfs_compound.specs.Callbacks.{cb_reply}
use Rattle.nfs_compound.specs.declared.cb_reply.CbReply.{CbReply}
use Rattle.client_core.specs.Callbacks.{session_under}
use Rattle.client_core.proofs.Answered.{reply_is}
use Rattle.client_core.proofs.client.Client.answer.Goals as goal

pub send_back-requires-clause-fits : goal.send_back-requires-clause-fits
send_back-requires-clause-fits g c =
    let own = session_under c.args.call.now.under c.args.self.now in
    let d = c.args.desk.now in
    let a = c.in_ok-answered in
    let same = reply_is c.session_under-session.result own c.args.compound d.copies c.accept.new.self.copies a.answered.status a.answered.results
    c.reply_to.result c.reply_to.ensures a.ensures.status a.ensures.results c.session_under-session.ensures
    (ap (λ (x : Desk). x.copies) c.accept.ensures) in
    subst (λ (r : CbReply). cb_reply.Fits r) (sym same)
    (c.answers_can_be_written.ensures c.requires.read.0 own c.args.compound d.copies c.requires.read.1).fits

pub send_back-requires-clause-short : goal.send_back-requires-clause-short
send_back-requires-clause-short g c =
    let own = session_under c.args.call.now.under c.args.self.now in
    let d = c.args.desk.now in
    let a = c.in_ok-answered in
    let same = reply_is c.session_under-session.result own c.args.compound d.copies c.accept.new.self.copies a.answered.status a.answered.results
    c.reply_to.result c.reply_to.ensures a.ensures.status a.ensures.results c.session_under-session.ensures
    (ap (λ (x : Desk). x.copies) c.accept.ensures) in
    subst (λ (r : CbReply). length (cb_reply.spell r) ≤ 2048) (sym same)
    (c.answers_can_be_written.ensures c.requires.read.0 own c.args.compound d.copies c.requires.read.1).short
