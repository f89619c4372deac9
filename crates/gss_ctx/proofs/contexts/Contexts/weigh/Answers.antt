use Rattle.std.proofs.Common.{◌≡◌, rules, subst, IfSome, IsSome, Some}
use Rattle.gss_ctx.specs.declared.admit.Admit.{Admit}
use Rattle.gss_ctx.specs.declared.admit.Verdict.{Verdict}
use Rattle.gss_ctx.specs.Table.{ContextTable, AreDistinct, context_of}
use Rattle.gss_ctx.specs.Seals.{cred_of}
use Rattle.gss_ctx.specs.Admission.{verdict_of, number_of, IsNamed, IsGranted}
use Rattle.gss_ctx.proofs.GrantedLemmas.{verdict_granted}
use Rattle.gss_ctx.proofs.NamedLemmas.{verdict_there, verdict_named}
use Rattle.gss_ctx.proofs.contexts.Contexts.weigh.Goals as goal

pub returns-clause-there : goal.returns-clause-there
unfolding verdict_of
returns-clause-there g c =
    let is : (verdict_of g.M.Mechanism.mic_of c.args.now c.args.head.now c.args.body.now c.args.self.now).answer ≡ c.in_ok-seen_answer.field-0 = search rules in
    subst (λ (a : Admit). IfSome (number_of a) (λ number. IsSome (context_of number c.args.self.now.entries))) is
    (verdict_there g.M.Mechanism.mic_of c.args.now c.args.head.now c.args.body.now c.args.self.now
    (subst (λ (t : ContextTable _). AreDistinct t.entries) c.self.view_is c.self.invariant.distinct))

pub returns-clause-named : goal.returns-clause-named
unfolding verdict_of
returns-clause-named g c =
    let is : (verdict_of g.M.Mechanism.mic_of c.args.now c.args.head.now c.args.body.now c.args.self.now).answer ≡ c.in_ok-seen_answer.field-0 = search rules in
    subst (λ (a : Admit). IfSome (number_of a) (IsNamed c.args.now (cred_of c.args.head.now) c.args.self.now)) is
    (verdict_named g.M.Mechanism.mic_of c.args.now c.args.head.now c.args.body.now c.args.self.now
    (subst (λ (t : ContextTable _). AreDistinct t.entries) c.self.view_is c.self.invariant.distinct))

pub returns-clause-granted : goal.returns-clause-granted
unfolding verdict_of
returns-clause-granted g c =
    let is : verdict_of g.M.Mechanism.mic_of c.args.now c.args.head.now c.args.body.now c.args.self.now ≡ record { answer = c.in_ok-seen_answer.field-0; seen = Some (_, _) } = search rules in
    subst (λ (v : Verdict). IsGranted (cred_of c.args.head.now) c.args.self.now.entries v.seen v.answer) is
    (verdict_granted g.M.Mechanism.mic_of c.args.now c.args.head.now c.args.body.now c.args.self.now
    (subst (λ (t : ContextTable _). AreDistinct t.entries) c.self.view_is c.self.invariant.distinct))
