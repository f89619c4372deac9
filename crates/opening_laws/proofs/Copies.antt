-- Copies that obey their laws by the numbers of one opening obey them behind those of the openings before.
use Rattle.std.proofs.Common.{◌≡◌, ◌⊎◌, ℕ, suc, ◌+◌, ◌-◌, ◌<◌, ◌≤◌, Bool, true, false, Option, None, Some, List, [], ◌∷◌, ◌++◌, length, refl, sym, ap, subst, inl, inr, ◌∙◌, arith}
use Rattle.std.specs.Prelude.{nat_lt, not, ◌&&◌}
use Rattle.std.specs.Option.{option_map}
use Rattle.std.proofs.lemmas.Bool.{and_right, cases_lt, cond-false, false≢true, le-ltb}
use Rattle.copy_model.specs.Effect.{Commits, IsCrashOf}
use Rattle.copy_model.specs.Job.{Allows, Committed, Entry, Landed, Plan, Reported, Sized, Stopped, has_ended}
use Rattle.copy_model.specs.Marks.{len_of}
use Rattle.nfs_base.specs.declared.seal.End.TheVariants.{Dest, Source}
use Rattle.wire_model.specs.Copies.{Deed, IsBlank, Job, LandFails, Lands, Plain, effect_of, is_safe, may_land}
use Rattle.wire_model.specs.CopyLaws.{AreApart, CopiesLaws, Enters, IsAnswerFor, IsAtHand, IsDue, IsFetched, IsLanding, IsSizedBy, KeepsMarks, place_in}
use Rattle.wire_model.specs.Meaning.{Meaning}
use Rattle.wire_model.specs.Spelling.{Spelling}
use Rattle.wire_model.specs.System.{Chunk, System, plan_at}
use Rattle.wire_model.specs.Wire.{Acts, Call, Caller, ForJob, Purpose, Slotted}
use Rattle.wire_model.specs.CallerLaws.{Takes}
use Rattle.opening_laws.specs.Behind.{GoesBehind, caller_behind, chunk_behind, call_behind, deed_behind, purpose_behind, ready_behind}
use Rattle.opening_laws.proofs.Callers.{takes_behind}
use Rattle.opening_laws.proofs.Options.{none_is_some, some_same}

abbrev chunk_of : (copy off : ℕ) → List ℕ → Chunk
chunk_of copy off bytes = record { copy = copy; off = off; bytes = bytes }

-- a chunk that is held there is held here
pub record WasHeld (base : ℕ) (o : Option Chunk) (chunk : Chunk) : Type 0 where
  pub own : Chunk
  pub there : o ≡ Some own
  pub is : chunk_behind base own ≡ chunk

was_held : (base : ℕ) (o : Option Chunk) (chunk : Chunk) → option_map (chunk_behind base) o ≡ Some chunk → WasHeld base o chunk
was_held base None chunk e = absurd (none_is_some None chunk refl e)
was_held base (Some own) chunk e = record { own = own; there = refl; is = some_same (chunk_behind base own) chunk e }

-- a landing there is one here
pub record WasLanding (base : ℕ) (deed : Deed) (j off : ℕ) (bytes : List ℕ) : Type 0 where
  pub own : ℕ
  pub there : deed ≡ Lands own off bytes
  pub is : base + own ≡ j

lands_copy : (a b c d : ℕ) (x y : List ℕ) → Lands a b x ≡ Lands c d y → a ≡ c
lands_copy a b c d x y e = cc

lands_off : (a b c d : ℕ) (x y : List ℕ) → Lands a b x ≡ Lands c d y → b ≡ d
lands_off a b c d x y e = cc

lands_bytes : (a b c d : ℕ) (x y : List ℕ) → Lands a b x ≡ Lands c d y → x ≡ y
lands_bytes a b c d x y e = cc

was_landing : (base : ℕ) (deed : Deed) (j off : ℕ) (bytes : List ℕ) → deed_behind base deed ≡ Lands j off bytes → WasLanding base deed j off bytes
was_landing base (Plain effect) j off bytes e = absurd (cc)
was_landing base (Lands copy at piece) j off bytes e = record {
  own = copy;
  there = ap (λ (n : ℕ). Lands copy n piece) (lands_off (base + copy) at j off piece bytes e)
      ∙ ap (λ (x : List ℕ). Lands copy off x) (lands_bytes (base + copy) at j off piece bytes e);
  is = lands_copy (base + copy) at j off piece bytes e;
}
was_landing base LandFails j off bytes e = absurd (cc)

-- one that is lost may not land
lost_stays : (job : Job) → job.lost ≡ true → may_land job ≡ false
lost_stays job lost =
    ap (λ (b : Bool). not (has_ended job.entries) && (not job.retired && not b)) lost
    ∙ and_right (not (has_ended job.entries)) (not job.retired && false) (and_right (not job.retired) false refl)

marks_same : (before now : Job) → now ≡ before → KeepsMarks before now
marks_same before now is = record {
  retired = λ up. ap (λ (x : Job). x.retired) is ∙ up;
  lost = λ up. ap (λ (x : Job). x.lost) is ∙ up;
  stable = λ up. ap (λ (x : Job). x.stable) is ∙ up;
}

module _ (spell : Spelling) (meaning : Meaning) (base : ℕ) (own : System) (i : ℕ) (s : System) (k : ℕ) (goes : GoesBehind base own i s k) where
  -- ---- a copy at a place behind those before

  place : (j : ℕ) → base ≤ j → base + (j - base) ≡ j
  place j behind = omega (arith, behind)

  job_before : (j : ℕ) → base ≤ j → s.job k j ≡ own.job i (j - base)
  job_before j behind = subst (λ (n : ℕ). s.job k n ≡ own.job i (j - base)) (place j behind) (goes.before.job (j - base))

  job_after : (j : ℕ) → base ≤ j → s.job (suc k) j ≡ own.job (suc i) (j - base)
  job_after j behind = subst (λ (n : ℕ). s.job (suc k) n ≡ own.job (suc i) (j - base)) (place j behind) (goes.after.job (j - base))

  was_made : (j : ℕ) → j < s.made k → base ≤ j → j - base < own.made i
  was_made j there behind = omega (arith, there, behind, goes.before.made)

  is_made : (j : ℕ) → j < s.made (suc k) → base ≤ j → j - base < own.made (suc i)
  is_made j there behind = omega (arith, there, behind, goes.after.made)

  reach_at : (j : ℕ) → j < s.made (suc k) → base ≤ j → s.reach j ≡ own.reach (j - base)
  reach_at j there behind = subst (λ (n : ℕ). s.reach n ≡ own.reach (j - base)) (place j behind) (goes.reach (j - base) (is_made j there behind))

  behind_made : (j : ℕ) → s.made k ≤ j → base ≤ j
  behind_made j new = omega (arith, new, goes.before.made)

  unmade : (j : ℕ) → s.made k ≤ j → own.made i ≤ j - base
  unmade j new = omega (arith, new, goes.before.made)

  plan_before : (j : ℕ) → base ≤ j → plan_at s k j ≡ plan_at own i (j - base)
  plan_before j behind = ap (λ (x : Job). x.plan) (job_before j behind)

  plan_after : (j : ℕ) → base ≤ j → plan_at s (suc k) j ≡ plan_at own (suc i) (j - base)
  plan_after j behind = ap (λ (x : Job). x.plan) (job_after j behind)

  -- ---- answers

  abbrev answer_behind : (j : ℕ) → base ≤ j → IsAnswerFor spell own Source Dest i (ForJob (j - base)) → IsAnswerFor spell s Source Dest k (ForJob j)
  answer_behind j behind answer =
      let call : Call = call_behind base answer.call in
      record {
        call = call;
        seal = answer.seal;
        reply = answer.reply;
        takes = subst (λ (v : Caller). Takes spell v (s.acts Dest k) answer.seal (Slotted answer.seal call) answer.reply) (sym goes.before.caller)
            (subst (λ (a : Acts). Takes spell (caller_behind base (own.caller Source Dest i)) a answer.seal (Slotted answer.seal call) answer.reply) (sym goes.acts)
            (takes_behind spell base (own.caller Source Dest i) (own.acts Dest i) answer.seal (Slotted answer.seal answer.call) answer.reply answer.takes));
        purpose_is = ap (λ (p : Purpose). purpose_behind base p) answer.purpose_is ∙ ap (λ (n : ℕ). ForJob n) (place j behind);
      }

  sized_behind : (j len : ℕ) → base ≤ j → IsSizedBy spell meaning own i (j - base) len → IsSizedBy spell meaning s k j len
  sized_behind j len behind sized =
      let plan = plan_before j behind in
      record {
        answer = answer_behind j behind sized.answer;
        asks = subst (λ (p : Plan). meaning.asks_attributes sized.answer.call.ops ≡ Some p.src_file) (sym plan) sized.asks;
        size = sized.size;
        says = sized.says;
        counted = subst (λ (p : Plan). 0 < p.count → len ≡ p.count) (sym plan) sized.counted;
        to_end = subst (λ (p : Plan). p.count ≡ 0 → p.src_off + len ≡ sized.size) (sym plan) sized.to_end;
      }

  fetched_behind : (j off : ℕ) (bytes : List ℕ) → base ≤ j → IsFetched spell meaning own i (record { copy = j - base; off = off; bytes = bytes })
      → IsFetched spell meaning s k (record { copy = j; off = off; bytes = bytes })
  fetched_behind j off bytes behind fetched = record {
    answer = answer_behind j behind fetched.answer;
    reads = subst (λ (p : Plan). meaning.reads fetched.answer.call.ops ≡ Some (place_in p off)) (sym (plan_before j behind)) fetched.reads;
    bytes = fetched.bytes;
  }

  -- ---- entries

  due_behind : (j : ℕ) (entry : Entry) → base ≤ j → IsDue spell meaning own i (j - base) entry → IsDue spell meaning s k j entry
  due_behind j (Sized len) behind due =
      (subst (λ (x : Job). may_land x ≡ true) (sym (job_before j behind)) due.0, sized_behind j len behind due.1)
  due_behind j (Landed off len) behind due =
      let lands : deed_behind base (own.deed i) ≡ Lands j off due.0 =
      ap (λ (d : Deed). deed_behind base d) due.1 ∙ ap (λ (n : ℕ). Lands n off due.0) (place j behind) in
      (due.0, goes.deed ∙ lands, due.2)
  due_behind j Stopped behind due = subst (λ (x : Job). may_land x ≡ true) (sym (job_before j behind)) due
  due_behind j Committed behind due =
      let commits : s.deed k ≡ Plain (Commits (plan_at own i (j - base)).dst_file) = goes.deed ∙ ap (λ (d : Deed). deed_behind base d) due.1 in (
        subst (λ (x : Job). may_land x ≡ true) (sym (job_before j behind)) due.0,
        subst (λ (p : Plan). s.deed k ≡ Plain (Commits p.dst_file)) (sym (plan_before j behind)) commits,
      )
  due_behind j Reported behind due = tt

  enters_behind : (j : ℕ) → base ≤ j → Enters spell meaning own i (j - base) → Enters spell meaning s k j
  enters_behind j behind enters =
      let was = job_before j behind in
      let now = job_after j behind in
      record {
        entry = enters.entry;
        pushed = ap (λ (x : Job). x.entries) now ∙ enters.pushed ∙ ap (λ (x : Job). x.entries ++ enters.entry ∷ []) (sym was);
        allowed = subst (λ (x : Job). Allows x.plan.consecutive x.entries enters.entry) (sym was) enters.allowed;
        due = due_behind j enters.entry behind enters.due;
      }

  module _ (laws : CopiesLaws spell meaning own i) where
    entries : (j : ℕ) → j < s.made k → ((s.job (suc k) j).entries ≡ (s.job k j).entries) ⊎ Enters spell meaning s k j
    entries j there = elim (cases_lt j base) [
      | inl past ↦ inl (ap (λ (x : Job). x.entries) (goes.past j past))
      | inr behind ↦ elim (laws.entries (j - base) (was_made j there behind)) [
        | inl same ↦ inl (ap (λ (x : Job). x.entries) (job_after j behind) ∙ same ∙ ap (λ (x : Job). x.entries) (sym (job_before j behind)))
        | inr enters ↦ inr (enters_behind j behind enters)
      ]
    ]

    -- ---- landings

    hand_behind : (j off : ℕ) (bytes : List ℕ) → base ≤ j → IsAtHand spell meaning own i (record { copy = j - base; off = off; bytes = bytes })
        → IsAtHand spell meaning s k (record { copy = j; off = off; bytes = bytes })
    hand_behind j off bytes behind (inl held) =
        inl (
          held.0,
          goes.before.holds held.0 ∙ ap (λ (o : Option Chunk). option_map (chunk_behind base) o) held.1
              ∙ ap (λ (n : ℕ). Some (chunk_of n off bytes)) (place j behind),
        )
    hand_behind j off bytes behind (inr fetched) = inr (fetched_behind j off bytes behind fetched)

    landing_behind : (j off : ℕ) (bytes : List ℕ) → base ≤ j → IsLanding spell meaning own i (j - base) off bytes → IsLanding spell meaning s k j off bytes
    landing_behind j off bytes behind landing =
        let was = job_before j behind in
        let now = job_after j behind in
        record {
          there = omega (arith, behind, landing.there, goes.before.made);
          live = subst (λ (x : Job). may_land x ≡ true) (sym was) landing.live;
          none_new = omega (arith, landing.none_new, goes.before.made, goes.after.made);
          within = subst (λ (x : Job). off + length bytes ≤ len_of x.entries) (sym was) landing.within;
          entry = ap (λ (x : Job). x.entries) now ∙ landing.entry ∙ ap (λ (x : Job). x.entries ++ Landed off (length bytes) ∷ []) (sym was);
          at_hand = hand_behind j off bytes behind landing.at_hand;
        }

    lands : (j off : ℕ) (bytes : List ℕ) → s.deed k ≡ Lands j off bytes → IsLanding spell meaning s k j off bytes
    lands j off bytes is =
        let was = was_landing base (own.deed i) j off bytes (sym goes.deed ∙ is) in
        let behind : base ≤ j = omega (arith, was.is) in
        let number : was.own ≡ j - base = omega (arith, was.is) in
        landing_behind j off bytes behind
        (subst (λ (n : ℕ). IsLanding spell meaning own i n off bytes) number (laws.lands was.own off bytes was.there))

    -- ---- marks

    marks : (j : ℕ) → j < s.made k → KeepsMarks (s.job k j) (s.job (suc k) j)
    marks j there = elim (cases_lt j base) [
      | inl past ↦ marks_same (s.job k j) (s.job (suc k) j) (goes.past j past)
      | inr behind ↦
          subst (λ (x : Job). KeepsMarks x (s.job (suc k) j)) (sym (job_before j behind))
          (subst (λ (x : Job). KeepsMarks (own.job i (j - base)) x) (sym (job_after j behind)) (laws.marks (j - base) (was_made j there behind)))
    ]

    stable : (j : ℕ) → (s.job (suc k) j).stable ≡ true → is_safe (s.job (suc k) j) ≡ true
    stable j up = elim (cases_lt j base) [
      | inl past ↦
          let same = goes.past j past in
          ap (λ (x : Job). is_safe x) same ∙ goes.safe j past (sym (ap (λ (x : Job). x.stable) same) ∙ up)
      | inr behind ↦
          let now = job_after j behind in
          ap (λ (x : Job). is_safe x) now ∙ laws.stable (j - base) (sym (ap (λ (x : Job). x.stable) now) ∙ up)
    ]

    plan : (j : ℕ) → j < s.made k → plan_at s (suc k) j ≡ plan_at s k j
    plan j there = elim (cases_lt j base) [
      | inl past ↦ ap (λ (x : Job). x.plan) (goes.past j past)
      | inr behind ↦ plan_after j behind ∙ laws.plan (j - base) (was_made j there behind) ∙ sym (plan_before j behind)
    ]

    -- ---- a crash

    crashes : (deed : Deed) → IsCrashOf (effect_of (plan_at s k) (deed_behind base deed)) → IsCrashOf (effect_of (plan_at own i) deed)
    crashes (Plain effect) crash = crash
    crashes (Lands copy off bytes) crash = absurd crash
    crashes LandFails crash = absurd crash

    crash : IsCrashOf (effect_of (plan_at s k) (s.deed k)) → (j : ℕ) → j < s.made (suc k) → (s.job (suc k) j).lost ≡ true
    crash is j there = elim (cases_lt j base) [
      | inl past ↦ ap (λ (x : Job). x.lost) (goes.past j past) ∙ goes.lost j past
      | inr behind ↦
          let here = crashes (own.deed i) (subst (λ (d : Deed). IsCrashOf (effect_of (plan_at s k) d)) goes.deed is) in
          ap (λ (x : Job). x.lost) (job_after j behind) ∙ laws.crash here (j - base) (is_made j there behind)
    ]

    -- ---- rooms

    apart_behind : (j l : ℕ) → j < l → l < s.made (suc k) → base ≤ j → base ≤ l → AreApart own (suc i) (j - base) (l - base)
        → AreApart s (suc k) j l
    apart_behind j l later there first second apart =
        let j_plan = plan_after j first in
        let l_plan = plan_after l second in
        let j_reach = reach_at j (omega (arith, later, there)) first in
        let l_reach = reach_at l there second in
        λ byte j_from j_to l_from l_to.
        apart byte (subst (λ (p : Plan). p.dst_off ≤ byte) j_plan j_from)
        (subst (λ (n : ℕ). byte < (plan_at own (suc i) (j - base)).dst_off + n) j_reach (subst (λ (p : Plan). byte < p.dst_off + s.reach j) j_plan j_to))
        (subst (λ (p : Plan). p.dst_off ≤ byte) l_plan l_from)
        (subst (λ (n : ℕ). byte < (plan_at own (suc i) (l - base)).dst_off + n) l_reach (subst (λ (p : Plan). byte < p.dst_off + s.reach l) l_plan l_to))

    apart : (j l : ℕ) → j < l → s.made k ≤ l → l < s.made (suc k) → may_land (s.job (suc k) j) ≡ true
        → (plan_at s (suc k) l).dst_file ≡ (plan_at s (suc k) j).dst_file → AreApart s (suc k) j l
    apart j l later new there live same = elim (cases_lt j base) [
      | inl past ↦
          let gone : (s.job (suc k) j).lost ≡ true = ap (λ (x : Job). x.lost) (goes.past j past) ∙ goes.lost j past in
          absurd (false≢true (sym (lost_stays (s.job (suc k) j) gone) ∙ live))
      | inr behind ↦
          let second = behind_made l new in
          apart_behind j l later there behind second
          (laws.apart (j - base) (l - base) (omega (arith, later, behind)) (unmade l new) (is_made l there second)
          (subst (λ (x : Job). may_land x ≡ true) (job_after j behind) live)
          (sym (ap (λ (p : Plan). p.dst_file) (plan_after l second)) ∙ same ∙ ap (λ (p : Plan). p.dst_file) (plan_after j behind)))
    ]

    reach : (j : ℕ) → j < s.made (suc k) → len_of (s.job (suc k) j).entries ≤ s.reach j
    reach j there = elim (cases_lt j base) [
      | inl past ↦ subst (λ (x : Job). len_of x.entries ≤ s.reach j) (sym (goes.past j past)) (goes.room j past)
      | inr behind ↦
          subst (λ (x : Job). len_of x.entries ≤ s.reach j) (sym (job_after j behind))
          (subst (λ (n : ℕ). len_of (own.job (suc i) (j - base)).entries ≤ n) (sym (reach_at j there behind)) (laws.reach (j - base) (is_made j there behind)))
    ]

    -- ---- chunks that are held, and calls

    chunk_at : (own_chunk chunk : Chunk) → chunk_behind base own_chunk ≡ chunk → own_chunk ≡ chunk_of (chunk.copy - base) chunk.off chunk.bytes
    chunk_at own_chunk chunk is =
        let copy : base + own_chunk.copy ≡ chunk.copy = ap (λ (x : Chunk). x.copy) is in
        let number : own_chunk.copy ≡ chunk.copy - base = omega (arith, copy) in
        ap (λ (n : ℕ). chunk_of n own_chunk.off own_chunk.bytes) number
        ∙ ap (λ (x : Chunk). chunk_of (chunk.copy - base) x.off x.bytes) is

    holds : (worker : ℕ) (chunk : Chunk) → s.holds (suc k) worker ≡ Some chunk → (s.holds k worker ≡ Some chunk) ⊎ IsFetched spell meaning s k chunk
    holds worker chunk held =
        let was = was_held base (own.holds (suc i) worker) chunk (sym (goes.after.holds worker) ∙ held) in
        let copy : base + was.own.copy ≡ chunk.copy = ap (λ (x : Chunk). x.copy) was.is in
        let behind : base ≤ chunk.copy = omega (arith, copy) in
        elim (laws.holds worker was.own was.there) [
          | inl before ↦
              inl (goes.before.holds worker ∙ ap (λ (o : Option Chunk). option_map (chunk_behind base) o) before ∙ ap (λ (x : Chunk). Some x) was.is)
          | inr fetched ↦
              inr (fetched_behind chunk.copy chunk.off chunk.bytes behind
              (subst (λ (x : Chunk). IsFetched spell meaning own i x) (chunk_at was.own chunk was.is) fetched))
        ]

    ready : (j : ℕ) → (s.caller Source Dest (suc k)).ready (ForJob j) ≡ true → j < s.made (suc k)
    ready j up = elim (cases_lt j base) [
      | inl past ↦ omega (arith, past, goes.after.made)
      | inr behind ↦
          let calls = own.caller Source Dest (suc i) in
          let there : ready_behind base calls.ready (ForJob j) ≡ true = sym (ap (λ (v : Caller). v.ready (ForJob j)) goes.after.caller) ∙ up in
          let here : calls.ready (ForJob (j - base)) ≡ true =
          sym (cond-false (nat_lt j base) true (calls.ready (ForJob (j - base))) (le-ltb j base behind)) ∙ there in
          let below : j - base < own.made (suc i) = laws.ready (j - base) here in
          omega (arith, below, behind, goes.after.made)
    ]

    pub copies_behind : CopiesLaws spell meaning s k
    copies_behind = record {
      made = omega (arith, laws.made, goes.before.made, goes.after.made);
      fresh = λ j new. subst IsBlank (sym (job_after j (behind_made j new))) (laws.fresh (j - base) (unmade j new));
      unmade = λ j past.
          let behind : base ≤ j = omega (arith, past, goes.after.made) in
          let none : own.made (suc i) ≤ j - base = omega (arith, past, goes.after.made) in
          ap (λ (x : Job). x.retired) (job_after j behind) ∙ laws.unmade (j - base) none;
      plan = plan;
      entries = entries;
      lands = lands;
      marks = marks;
      stable = stable;
      crash = crash;
      apart = apart;
      reach = reach;
      holds = holds;
      ready = ready;
    }
