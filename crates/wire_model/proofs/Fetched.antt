-- The bytes of a chunk at hand, and the size by which a job is sized, were told by the source at a moment since the
-- job's acceptance.
use Rattle.std.proofs.Common.{◌≡◌, inl, inr, ⊎_elim, ℕ, zero, suc, ◌+◌, ◌<◌, true, false, Some, List, length, ◌∙◌, ap, subst, arith}
use Rattle.copy_model.specs.Volume.{file_at, byte_at}
use Rattle.copy_model.specs.Job.{Plan}
use Rattle.nfs_base.specs.declared.seal.End.TheVariants.{Source, Dest}
use Rattle.wire_model.specs.Spelling.{Spelling}
use Rattle.wire_model.specs.Meaning.{Meaning}
use Rattle.wire_model.specs.Wire.{Purpose, ForJob}
use Rattle.wire_model.specs.System.{System, Chunk, wire_of, plan_at}
use Rattle.wire_model.specs.CopyLaws.{place_in, IsAnswerFor, IsFetched, IsAtHand}
use Rattle.wire_model.specs.Lawful.{IsLawfulSystem}
use Rattle.wire_model.proofs.Answered.{answers_told}
use Rattle.wire_model.proofs.Below.{Below}
use Rattle.wire_model.proofs.Jobs.{made_rises, plan_stays}

-- the source executed these operations with these results, since the acceptance of a job and before step k
pub record WasAsked (s : System) (k j : ℕ) (ops results : List ℕ) : Type 0 where
  pub step : ℕ
  pub before : step < k
  pub accepted : j < s.made step
  pub executed : (s.acts Source step).executed ≡ Some (record { ops = ops; results = results })

-- the bytes of a chunk are those of the source at a moment since its copy's acceptance
pub record WasRead (s : System) (k : ℕ) (chunk : Chunk) : Type 0 where
  pub moment : ℕ
  pub before : moment < k
  pub accepted : chunk.copy < s.made moment
  pub readable : (s.source moment).broken ≡ false
  pub byte : (i : ℕ) → i < length chunk.bytes
      → byte_at chunk.bytes i ≡ byte_at (file_at (s.source moment) (plan_at s moment chunk.copy).src_file).now ((plan_at s moment chunk.copy).src_off + chunk.off + i)

other_ends : Dest ≡ Source → ⊥
other_ends e = absurd (cc)

module _ (spell : Spelling) (meaning : Meaning) (s : System) (lawful : IsLawfulSystem spell meaning s) (below : Below) where
  pub was_asked : (k j : ℕ) (a : IsAnswerFor spell s Source Dest k (ForJob j)) → WasAsked s k j a.call.ops (spell.results_of a.reply)
  was_asked k j a =
      let t = answers_told spell (wire_of s Source) lawful.source_wire k Dest a.call a.seal a.reply other_ends a.takes in
      let ready = subst (λ (p : Purpose). (s.caller Source Dest (suc t.sent)).ready p ≡ true) a.purpose_is t.ready in
      let there = (lawful.copies t.sent).ready j ready in
      let after = t.after in
      let rises = made_rises spell meaning s lawful below (suc t.sent) t.step (omega arith) in
      record { step = t.step; before = t.before; accepted = omega arith; executed = t.executed }

  was_read : (k : ℕ) (chunk : Chunk) → IsFetched spell meaning s k chunk → WasRead s k chunk
  was_read k chunk f =
      let a = was_asked k chunk.copy f.answer in
      let early = a.before in
      let plan = plan_stays spell meaning s lawful below chunk.copy a.step k (omega arith) a.accepted in
      let tells = (lawful.tells a.step f.answer.call.ops (spell.results_of f.answer.reply) a.executed).read (place_in (plan_at s a.step chunk.copy) chunk.off) chunk.bytes (f.reads ∙ ap (λ (p : Plan). Some (place_in p chunk.off)) plan) f.bytes in
      record { moment = a.step; before = a.before; accepted = a.accepted; readable = tells.0; byte = tells.1 }

  held_read : (k worker : ℕ) (chunk : Chunk) → s.holds k worker ≡ Some chunk → WasRead s k chunk
  held_read zero worker chunk holds = absurd (let none = lawful.copies_start.none_held worker in cc)
  held_read (suc k) worker chunk holds =
      ⊎_elim
      (λ (old : s.holds k worker ≡ Some chunk). later (held_read k worker chunk old))
      (λ (new : IsFetched spell meaning s k chunk). later (was_read k chunk new))
      ((lawful.copies k).holds worker chunk holds)
    where
      later : WasRead s k chunk → WasRead s (suc k) chunk
      later r = let early = r.before in record { moment = r.moment; before = omega arith; accepted = r.accepted; readable = r.readable; byte = r.byte }

  pub at_hand_read : (k : ℕ) (chunk : Chunk) → IsAtHand spell meaning s k chunk → WasRead s k chunk
  at_hand_read k chunk (inl held) = held_read k held.0 chunk held.1
  at_hand_read k chunk (inr fetched) = was_read k chunk fetched
