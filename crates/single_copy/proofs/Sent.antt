-- The records of an outbox that were put so far.
use Rattle.std.proofs.Common.{◌≡◌, ℕ, ◌+◌, ◌<◌, List, [], ◌∷◌, ◌++◌, length, get_or, take, sym, ap, ◌∙◌, append-nil}
use Rattle.std.proofs.lemmas.Grind.{flat_map-append}
use Rattle.std.proofs.lemmas.List.{take_more}
use Rattle.nfs_base.specs.declared.side.Side.{Side}
use Rattle.outbox.specs.declared.outgoing.Outgoing.{Outgoing}
use Rattle.single_copy.specs.Sending.{put_for, put_to}

pub sent_more : (side : Side) (sent : List Outgoing) (i : ℕ) (o : Outgoing) → i < length sent → o ≡ get_or sent i o
    → put_to side (take i sent) ++ put_for side o ≡ put_to side (take (i + 1) sent)
sent_more side sent i o within is =
    sym (ap (put_to side) (take_more sent i o within ∙ ap (λ x. take i sent ++ x ∷ []) (sym is))
    ∙ flat_map-append (put_for side) (take i sent) (o ∷ [])
    ∙ ap (λ l. put_to side (take i sent) ++ l) (append-nil (put_for side o)))
