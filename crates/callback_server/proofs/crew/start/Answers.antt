use denote.Param.Send.{given_send, param_send}
use Rattle.std.proofs.Common.{rules}
use Rattle.callback_server.proofs.crew.start.Goals as goal

-- what may be sent by the function's own bounds may be sent by those of what it calls
pub job-requires-after_bounds : goal.job-requires-after_bounds
job-requires-after_bounds g c κs within = (
  search rules,
  param_send _ _ (given_send _ _ g.row.H c.type_bounds.send-H),
  param_send _ _ (given_send _ _ g.row.N c.type_bounds.send-N),
  param_send _ _ (given_send _ _ g.row.Z c.type_bounds.send-Z),
  param_send _ _ (given_send _ _ g.row.L c.type_bounds.send-L),
  param_send _ _ (given_send _ _ g.row.T c.type_bounds.send-T),
  param_send _ _ (given_send _ _ g.row.G c.type_bounds.send-G),
  search rules,
  search rules,
  search rules,
  search rules,
  search rules,
  search rules,
  search rules,
  search rules,
  search rules,
  search rules,
  search rules,
  search rules,
  search rules,
)
