use Rattle.std.proofs.Common.{◌≡◌, ◌∙◌, ap, refl, ◌++◌, ℕ, List, length}
use Rattle.gss_ctx.proofs.MessageLemmas.{message_is, rest_is}
use Rattle.gss_ctx.proofs.sealing.put_sealed.Goals as goal

pub returns : goal.returns
returns g c =
    let made : length c.mic-code.result ≡ 32 = ap length c.mic-code.ensures ∙ g.met.M.Mechanism.sized _ _ _ in
    let code = g.M.Mechanism.mic_of c.args.key.now c.args.side in
    message_is code c.args.page.now.bytes c.args.payload.now c.mic-code.result
    c.args.page.now.bytes c.u32.new.self.bytes c.u32-2.new.self.bytes c.append.new.self.bytes
    c.append-2.new.self.bytes c.u32-3.new.self.bytes c.append-3.new.self.bytes c.args.seq
    refl c.u32.ensures.added.is c.u32-2.ensures.added.is c.append.ensures.added.is
    (c.mic-code.ensures ∙ ap code (rw (c.as_slice.ensures, c.len-start.ensures) (rest_is (length c.u32.new.self.bytes) (length c.u32.new.self.bytes) c.append.new.self.bytes refl)))
    made
    (c.append-2.ensures.added.is ∙ ap (λ (x : List ℕ). c.append.new.self.bytes ++ x) c.zeros_behind.ensures)
    c.u32-3.ensures.added.is c.append-3.ensures.added.is
