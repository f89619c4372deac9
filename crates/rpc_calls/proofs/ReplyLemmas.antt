-- Heads of replies that have a spelling.
use Rattle.std.specs.Prelude.{ℕ, ◌<◌, ◌^◌}
use Rattle.std.proofs.Common.{lit<, arith}
use Rattle.rpc_msg.specs.Heads.{auth, denial, reply, stat}
use Rattle.rpc_msg.specs.declared.reply.Denial.{Denial}
use Rattle.rpc_msg.specs.declared.reply.ReplyHead.TheVariants as heads
use Rattle.rpc_msg.specs.declared.reply.Stat.{Stat}
use Rattle.gss_ctx.specs.Calls.{none_auth}

pub denied_fits : (xid : ℕ) (why : Denial) → xid < 2 ^ 32 → denial.Fits why → reply.Fits (heads.Denied xid why)
unfolding reply
denied_fits xid why small fits = (small, (lit< tt, (lit< tt, fits)))

pub plain_fits : (xid : ℕ) (what : Stat) → xid < 2 ^ 32 → stat.Fits what → reply.Fits (heads.Accepted xid none_auth what)
unfolding reply auth
plain_fits xid what small fits = (small, (lit< tt, (lit< tt, ((lit< tt, omega arith), fits))))
