use Rattle.std.proofs.Common.{ℕ, List, Option, Some, IsSome, option_map, ap, sym, ◌∙◌, subst}
use Rattle.wire_log.specs.declared.kept.Kept.{Kept}
use Rattle.wire_log.specs.Keeping.{bytes_at}
use Rattle.wire_log.proofs.Stored.{bytes_posted, kept_read, number_within}
use Rattle.wire_log.proofs.log.Log.stored.Goals as goal
use Rattle.wire_machine.specs.World.{Posted, posted_at}

pub returns : goal.returns
returns c =
    let kept = c.self.inside.records.items in
    let number = c.args.number in
    let within = number_within kept number (subst (λ (log : List Posted). IsSome (posted_at number log)) (sym c.self.view_is) c.requires) in
    ap (λ (log : List Posted). bytes_at log number) (sym c.self.view_is)
    ∙ bytes_posted kept kept number
    ∙ ap (λ (o : Option Kept). option_map (λ (k : Kept). k.bytes) o) (kept_read kept number c.index.result.now within.0 within.1 c.index.ensures)
    ∙ ap (λ (bytes : List ℕ). Some bytes) (sym c.as_slice.ensures)
