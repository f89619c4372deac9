use Rattle.gss_ctx.specs.Forms.{init_result}
use Rattle.gss_ctx.specs.declared.making.Inited.TheVariants.{Refused}
use Rattle.rpc_calls.specs.Making.{init_told}
use Rattle.rpc_msg.specs.declared.reply.Stat.TheVariants.{Success}
use Rattle.wire_spelling.specs.CreateLaws.{created_context, no_context_created}
use Rattle.wire_spelling.specs.ReadLaws.{begun_is, denial_is, failure_is, plain_is, reply_is_no_call, sealed_reply_is, sealed_results, success_fits}
use Rattle.wire_spelling.proofs.laws.replies_read_back.Goals as goal

pub returns : goal.returns
returns g c =
    let mic = g.M.Mechanism.mic_of in
    let sized = g.met.M.Mechanism.sized in
    record {
      no_call = reply_is_no_call;
      denial = denial_is;
      plain = plain_is;
      failure = λ key head seq what. failure_is mic key head seq what sized;
      refused = λ xid minor small. plain_is xid Success (init_result.spell (init_told (Refused minor))) small success_fits;
      begun = begun_is;
      result = λ key head seq result. sealed_reply_is mic key head seq result sized;
      results = λ key head seq result. sealed_results mic key head seq result sized;
      created = λ key head seq boot number. created_context mic key head seq boot number sized;
      none_created = λ key head seq boot. no_context_created mic key head seq boot sized;
    }
