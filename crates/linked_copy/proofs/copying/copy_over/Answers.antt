use Rattle.std.proofs.Common.{ap, inl, inr}
use Rattle.std.proofs.KnownBytes.{Keeps-refl}
use Rattle.linked_copy.proofs.Ending.{made_returned, starved_returned, told_ends}
use Rattle.linked_copy.proofs.copying.copy_over.Goals as goal

pub returns-in-Ok-copy_between-clause-ends : goal.returns-in-Ok-copy_between-clause-ends
returns-in-Ok-copy_between-clause-ends g c =
    told_ends _ _ _ _ _ _ _ _ _ _ c.in-Ok-copy_between.copied c.tell.result
    (made_returned _ _ _ _ _ _ _ c.in-Ok.prepared.client.client.setting c.in-Ok-copy_between.copied
    (ap (λ l. l.client.setting) c.in-Ok.ensures.client) c.in-Some.ensures.dials c.in-Ok-copy_between.ensures.ok)
    c.tell.ensures.tells

pub returns-in-Err-clause-ends : goal.returns-in-Err-clause-ends
returns-in-Err-clause-ends g c = (
  Keeps-refl _,
  inr (inl (starved_returned _ _ _ _ _ _ _ c.in-Ok.prepared.client.client.setting
      (ap (λ l. l.client.setting) c.in-Ok.ensures.client) c.in-Some.ensures.dials c.in-Err.ensures.err)),
)
