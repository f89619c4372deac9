-- The contexts of a destination are its own and as they should be, at every moment of a run.
use Rattle.std.proofs.Common.{◌≡◌, ◌∙◌, inl, inr, ℕ, ◌+◌, Option, List, refl, sym, ap, subst}
use Rattle.dest_core.specs.Stepping.{DestState, DestStep}
use Rattle.dest_jobs.specs.declared.carried.Carried.{Carried}
use Rattle.gss_ctx.specs.Table.{ContextTable}
use Rattle.nfs_base.specs.declared.seal.End.TheVariants.{Dest}
use Rattle.run_ends.specs.Ends.{Words}
use Rattle.run_promise.proofs.dest.Records.{AreServed, comes, good_on}
use Rattle.run_promise.specs.Dest.Kinds.{Kind}
use Rattle.server_laws.specs.Good.{IsGood}
use Rattle.server_volume.specs.Choices.{choice_of}
use Rattle.wire_lines.specs.declared.letters.Speaker.{Speaker}
use Rattle.wire_model.specs.Wire.{Executed}

pub record IsServer {M : Type 0} (d : DestState M) : Type 0 where
  pub good : IsGood d
  pub owner : d.contexts.owner ≡ Dest

module _ {M : Type 0} (words : Words M ℕ) (served : AreServed words) where
  own_step : (d t : DestState M) → t.contexts ≡ d.contexts → t.steps ≡ d.steps + 1 → IsServer d → IsServer t
  own_step d t same more is = record {
    good = good_on d t same more is.good;
    owner = ap (λ (c : ContextTable Carried). c.owner) same ∙ is.owner;
  }

  pub server_on : (d : DestState M) (t : DestStep M) (took : Option (List ℕ)) (speaker : Speaker) (executed : Option Executed)
      → Kind words d t took speaker executed → IsServer d → IsServer t.host
  server_on d t took speaker executed (inl r) is =
      let c = comes words served d t took speaker executed r is.good in
      record { good = c.good; owner = c.owner ∙ is.owner }
  server_on d t took speaker executed (inr (inl r)) is =
      let by = r.is.is (choice_of t.out.used) (λ n below. refl) in
      own_step d t.host (ap (λ (x : DestStep M). x.host.contexts) by) (ap (λ (x : DestStep M). x.host.steps) by) is
  server_on d t took speaker executed (inr (inr (inl r))) is =
      let by = r.is.is (choice_of t.out.used) (λ n below. refl) in
      own_step d t.host (ap (λ (x : DestStep M). x.host.contexts) by) (ap (λ (x : DestStep M). x.host.steps) by) is
  server_on d t took speaker executed (inr (inr (inr (inl r)))) is =
      own_step d t.host (ap (λ (x : DestStep M). x.host.contexts) r.is) (ap (λ (x : DestStep M). x.host.steps) r.is) is
  server_on d t took speaker executed (inr (inr (inr (inr r)))) is = subst (λ (x : DestState M). IsServer x) (sym r.same) is
