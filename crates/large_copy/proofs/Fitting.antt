-- The numbers and limits of each line of a large copy.
use Rattle.std.proofs.Common.{ℕ, ◌*◌, ◌^◌, ◌<◌, ◌≤◌, ◌∷◌, ◌++◌, length, IsTrue, refl, sym, subst, arith, lit<}
use Rattle.std.proofs.lemmas.List.Elements.{All-append, All-cons, All-replicate}
use Rattle.std.proofs.lemmas.List.FromFn.{get_or-map-range_with_len, length-map-range_with_len}
use Rattle.std.specs.List.{All}
use Rattle.nfs_base.specs.declared.side.Side.TheVariants.{Source, Dest}
use Rattle.wire_schedule.specs.Expansion.{keeps_limits}
use Rattle.wire_schedule.specs.Spelling.{FitsFields}
use Rattle.wire_schedule.specs.declared.directive.Directive.{Directive}
use Rattle.wire_schedule.specs.declared.directive.Directive.TheVariants.{Once, Rounds}
use Rattle.wire_schedule.specs.declared.directive.Entry.{Entry}
use Rattle.wire_schedule.specs.declared.event.Event.TheVariants.{Volume, Flow}
use Rattle.large_copy.specs.Large.{blocks_of, copy, file_bytes, flows, flows_of, large_lines, large_schedule, rounds, rounds_of, write, writes, writes_of}
use Rattle.large_copy.proofs.Admitted.{volume_within, write_within}
use Rattle.large_copy.proofs.Lines.{file_bytes_at, length-entries_from, length-file_bytes, numbered_at}

-- ---- a fact of each kind of line

module _ (P : Directive → Type 0) (n : ℕ) where
  writes_each : ((k : ℕ) → k < writes_of n → P (write k)) → All P (writes n)
  writes_each each i d lt =
      let near : i < writes_of n = omega (arith, length-map-range_with_len write 0 (writes_of n)) in
      subst P (sym (get_or-map-range_with_len write 0 (writes_of n) i i d near (omega arith))) (each i near)

  every_line : P (Once (Volume Source 1 (blocks_of n))) → P (Once (Volume Dest 1 (blocks_of n))) → ((k : ℕ) → k < writes_of n → P (write k))
      → P (Once Flow) → P copy → P (Rounds 1) → All P (large_lines n)
  unfolding large_lines
  every_line source dest each flow copies round =
      All-cons P (Once (Volume Source 1 (blocks_of n))) (Once (Volume Dest 1 (blocks_of n)) ∷ (writes n ++ (flows n ++ copy ∷ rounds n))) source
      (All-cons P (Once (Volume Dest 1 (blocks_of n))) (writes n ++ (flows n ++ copy ∷ rounds n)) dest
      (All-append P (writes n) (flows n ++ copy ∷ rounds n) (writes_each each)
      (All-append P (flows n) (copy ∷ rounds n) (All-replicate P (flows_of n) (Once Flow) flow)
      (All-cons P copy (rounds n) copies (All-replicate P (rounds_of n) (Rounds 1) round)))))

-- ---- they fit

bytes_fit : (off count : ℕ) → All (λ b. b < 256) (file_bytes off count)
bytes_fit off count k d lt =
    let near : k < count = omega (arith, length-file_bytes off count) in
    subst (λ (b : ℕ). b < 256) (sym (file_bytes_at off count k d near)) (omega arith)

blocks_fit : (n : ℕ) → n ≤ 64 → 256 * n < 2 ^ 32
blocks_fit n few = omega arith

off_fits : (k : ℕ) → k < 1024 → 65536 * k < 2 ^ 64
off_fits k near = omega arith

pub lines_fit : (n : ℕ) → n ≤ 64 → All FitsFields (large_lines n)
lines_fit n few =
    every_line FitsFields n (lit< tt, blocks_fit n few) (lit< tt, blocks_fit n few)
    (λ k near. (lit< tt, off_fits k (omega arith), bytes_fit (65536 * k) 65536)) tt
    (lit< tt, record { src_file = lit< tt; src_off = lit< tt; dst_file = lit< tt; dst_off = lit< tt; count = lit< tt }) (lit< tt)

pub entries_fit : (n : ℕ) → n ≤ 64 → All (λ (entry : Entry). FitsFields entry.directive) (large_schedule n)
unfolding large_schedule
entries_fit n few k d lt =
    let near : k < length (large_lines n) = omega (arith, length-entries_from 1 (large_lines n)) in
    subst (λ (entry : Entry). FitsFields entry.directive) (sym (numbered_at 1 (large_lines n) k d near)) (lines_fit n few k d.directive near)

-- ---- they are within their limits

pub lines_within : (n : ℕ) → 1 ≤ n → n ≤ 64 → All (λ (line : Directive). IsTrue (keeps_limits line)) (large_lines n)
lines_within n some few =
    every_line (λ (line : Directive). IsTrue (keeps_limits line)) n (volume_within Source n some few) (volume_within Dest n some few)
    (λ k near. write_within k (omega arith)) refl refl refl
