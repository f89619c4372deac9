use Rattle.std.proofs.Common.{◌≡◌, ◌∙◌, ap, sym, refl, Some, arith, rules}
use Rattle.gss_ctx.specs.Seals.{sealed_reply, sealed_with}
use Rattle.rpc_calls.specs.Answers.{result_reply}
use Rattle.compound_server.specs.State.{Given, state_of}
use Rattle.session_server.proofs.Compounded.{compounded_is, own_counted}
use Rattle.session_server.proofs.Counting.{counted_made}
use Rattle.session_server.proofs.Lengths.{result_short, sends_short}
use Rattle.session_server.specs.Host.{host_of, rules_of}
use Rattle.session_server.specs.Labels.{compound_label, status_in}
use Rattle.session_server.proofs.host.Host.evaluate.Goals as goal

pub returns-clause-is : goal.returns-clause-is
returns-clause-is g c = λ told choice agrees.
    let is : c.args.call.now.under ≡ Some c.unwrap-under.result = c.unwrap-under.ensures in
    let lent = rw c.unwrap-context.ensures at c.context.ensures in
    let found = sym lent in
    let mic = g.X.Mech.Mechanism.mic_of in
    let body = c.in_ok-told.told.body in
    let context = c.unwrap-context.result.now in
    let sealed = rw found at c.in_ok-sealer.ensures.seals in
    let reply : result_reply mic c.args.self.now.contexts c.args.call.now body ≡ sealed_reply mic context.key c.args.call.now.head c.unwrap-under.result.seq body =
    rw is (rw found refl) in
    let bytes : c.seal-bytes.result ≡ result_reply mic c.args.self.now.contexts c.args.call.now body =
    c.seal-bytes.ensures ∙ ap (sealed_with mic c.in_ok-sealer.sealer) c.as_slice-4.ensures ∙ sealed body ∙ sym reply in
    let gives = rw c.as_slice-2.ensures at (c.in_ok-told.ensures.gives told choice agrees) in
    let status = c.status_in-status.ensures ∙ ap status_in c.as_slice-3.ensures in
    let label = c.compound_label-label.ensures ∙ ap compound_label c.as_slice.ensures in
    let given : Given g.row.X.Denot = record { state = state_of g.D.Disk.size c.on_compound.new.self; used = c.in_ok-told.told.used; body = body } in
    let rules = rules_of g.X.Extension.gated g.X.Serving.serves g.X.Serving.leaves g.X.Serving.lapses g.X.Extending.judges g.X.Extending.tells g.X.Extending.silent in
    rw c.one_reply-out.ensures (rw c.going_back.ensures
    (compounded_is rules (record { mic = mic; derived = g.X.Mech.Mechanism.derived }) choice c.args.second c.args.conn c.args.call.now c.args.compound (host_of g.D.Disk.size c.args.self.now)
    c.unwrap-under.result context c.who_calls-who.result given _ _ _ _ _ _ _ _ is found c.who_calls-who.ensures gives c.count.ensures
    c.tell.ensures.silent bytes c.reply_seal-seal.ensures c.accepted-accepted.ensures label status c.tell.ensures.notes))

pub returns-clause-short : goal.returns-clause-short
returns-clause-short g c =
    let is : c.args.call.now.under ≡ Some c.unwrap-under.result = c.unwrap-under.ensures in
    let lent = rw c.unwrap-context.ensures at c.context.ensures in
    let found = sym lent in
    let mic = g.X.Mech.Mechanism.mic_of in
    let body = c.in_ok-told.told.body in
    let sealed = rw found at c.in_ok-sealer.ensures.seals in
    let reply : result_reply mic c.args.self.now.contexts c.args.call.now body ≡ sealed_reply mic c.unwrap-context.result.now.key c.args.call.now.head c.unwrap-under.result.seq body =
    rw is (rw found refl) in
    let bytes : c.seal-bytes.result ≡ result_reply mic c.args.self.now.contexts c.args.call.now body =
    c.seal-bytes.ensures ∙ ap (sealed_with mic c.in_ok-sealer.sealer) c.as_slice-4.ensures ∙ sealed body ∙ sym reply in
    sends_short _ _ _ _ c.one_reply-out.ensures c.going_back.ensures
    (rw bytes (result_short mic g.met.X.Mech.Mechanism.sized c.args.self.now.contexts c.args.call.now body (let short = c.in_ok-told.ensures.short in omega (arith, short))))

pub returns-clause-step : goal.returns-clause-step
returns-clause-step g c =
    let told = c.on_compound.ensures.counted in
    let made : c.count.new.contexts.made ≡ c.args.self.now.contexts.made =
    ap (λ t. t.made) c.count.ensures ∙ counted_made c.args.second c.args.call.now c.args.self.now.contexts in
    let left = c.on_compound.new.self.files.extra in
    let by_telling = g.met.X.Extending.by_telling left in
    let silent = c.tell.ensures.silent in
    let given = ap g.X.Serving.given silent in
    let none = ap g.X.Extending.untold silent ∙ g.met.X.Extending.all_told left in
    record {
      steps = search rules;
      err = search rules;
      counted = record {
        contexts = let few = c.requires.counted.contexts in omega arith;
        opens = own_counted _ _ _ _ (let same = told.opens in omega arith) told.opens c.requires.counted.opens;
        own = own_counted _ _ _ _ (rw given by_telling) told.own c.requires.counted.own;
        clients = let few = c.requires.counted.clients in let more = told.clients in omega arith;
      };
      own = record {
        landed = ap g.X.Serving.landed silent ∙ g.met.X.Extending.telling_lands_none left ∙ told.landed;
        untold = omega (arith, none);
      };
    }
