-- What a crash leaves of a cell, around each of the two blocks that a put lands.
use Rattle.std.proofs.Common.{◌≡◌, ◌≢◌, ℕ, ◌+◌, ◌-◌, ◌≤◌, List, ◌⊎◌, inl, inr, refl, sym, ◌∙◌, ap, subst, arith}
use Rattle.std.proofs.lemmas.Bool.{cases_eq}
use Rattle.disk_model.specs.declared.disk.Io.{Io}
use Rattle.disk_model.specs.declared.disk.Io.TheVariants.{Done}
use Rattle.disk_model.specs.declared.fuse.Fuse.{Fuse}
use Rattle.disk_model.specs.Disk.{Image, DiskState, MayLeave, Writes, Syncs}
use Rattle.disk_model.specs.Elapsed.{Timeline, present, contents, Elapses}
use Rattle.disk_model.specs.Passes.{Passes, passes_one, passes_on, passes_only}
use Rattle.block_file.specs.Cell.{gate_of, cell_of, IsCell, OldOrNew, Outside, Lands, Spares}

-- after a write alone
pub spares_write : (at : ℕ) (block : List ℕ) (result : Io) (old new : DiskState) → Writes at block result old new
    → (image : Image) → MayLeave new image → Spares at old image
spares_write at block result old new w image left = λ b ne closed.
    left b ((w.elsewhere b ne).1 ∙ closed) ∙ (w.elsewhere b ne).0

pub spares_now : (at : ℕ) (s : DiskState) (image : Image) → MayLeave s image → Spares at s image
spares_now at s image left = λ b ne closed. left b closed

pub write_passes : (at : ℕ) (block : List ℕ) (result : Io) (f g : Fuse) (old new : Timeline)
    → Writes at block result (present old) (present new) → Elapses f g old new → new.latest ≤ old.latest + 1
    → Passes f g old new (Spares at (present old))
write_passes at block result f g old new w time soon =
    passes_one (Spares at (present old)) f g old new time soon
    (λ image left. spares_now at (present old) image left)
    (λ image left. spares_write at block result (present old) (present new) w image left)

pub lands : (at : ℕ) (block : List ℕ) (second : Io) (old middle new : DiskState)
    → Writes at block Done old middle → Syncs second middle new → Lands at block second old new
lands at block second old middle new w s = record {
  reads = λ b ne. s.same b ∙ (w.elsewhere b ne).0;
  kept = λ b ne closed. s.kept b ((w.elsewhere b ne).1 ∙ closed);
  here = λ done. s.same at ∙ w.here refl;
  settled = λ done. s.settled done;
}

-- the home in force is none of the others
home_apart : (at home : ℕ) → home ≤ 1 → (at + 1 + home ≢ at + 1 + (1 - home)) × (at ≢ at + 1 + (1 - home))
home_apart at home two = (omega arith, omega arith)

outside_home : (at home b : ℕ) → home ≤ 1 → Outside at b → (b ≢ at + 1 + (1 - home)) × (b ≢ at)
outside_home at home b two (inl lt) = (omega arith, omega arith)
outside_home at home b two (inr gt) = (omega arith, omega arith)

-- where a cell's gate and its home are safe, it holds what a read gives
cell_is : (c : Image) (at home : ℕ) → gate_of (c at) ≡ home → cell_of c at ≡ c (at + 1 + home)
cell_is c at home e = ap (λ (h : ℕ). c (at + 1 + h)) e

-- the other place was being written: the cell holds the old block
pub before_home : (at home : ℕ) (s : DiskState) (new : List ℕ) → home ≤ 1 → IsCell s at home
    → (image : Image) → Spares (at + 1 + (1 - home)) s image → OldOrNew at s (cell_of s.reads at) new image
before_home at home s new two cell image spares =
    let apart = home_apart at home two in
    let gate = spares at apart.1 cell.gate_kept in
    let same : gate_of (image at) ≡ home = ap gate_of gate ∙ cell.gate in
    inl (record {
      cell = cell_is image at home same ∙ (spares (at + 1 + home) apart.0 cell.home_kept ∙ sym (cell_is s.reads at home cell.gate));
      gate = ap gate_of gate;
      rest = λ b out closed. spares b (outside_home at home b two out).0 closed;
    })

-- a gate names one of two places
gate_cases : (at home : ℕ) (image : Image) → home ≤ 1 → (gate_of (image at) ≡ home) ⊎ (gate_of (image at) ≡ 1 - home)
gate_cases at home image two =
    let bit : gate_of (image at) ≤ 1 = omega arith in
    elim (cases_eq (gate_of (image at)) home) [ inl e ↦ inl e | inr ne ↦ inr (omega arith) ]

-- The gate was being written, once all else was safe: whichever place it names, the cell is whole.
pub at_gate : (at home : ℕ) (s middle : DiskState) (new : List ℕ) → home ≤ 1 → IsCell s at home
    → Lands (at + 1 + (1 - home)) new Done s middle → (image : Image) → Spares at middle image
    → OldOrNew at s (cell_of s.reads at) new image
at_gate at home s middle new two cell lands image spares =
    let apart = home_apart at home two in
    let is : (b : ℕ) → b ≢ at → image b ≡ middle.reads b = λ b ne. spares b ne (lands.settled refl b) in
    let rest : (b : ℕ) → Outside at b → image b ≡ s.reads b =
    λ b out. is b (outside_home at home b two out).1 ∙ lands.reads b (outside_home at home b two out).0 in
    elim (gate_cases at home image two) [
      | inl same ↦
          let off : at + 1 + home ≢ at = omega arith in
          inl (record {
            cell = cell_is image at home same ∙ (is (at + 1 + home) off ∙ (lands.reads (at + 1 + home) apart.0 ∙ sym (cell_is s.reads at home cell.gate)));
            gate = same ∙ sym cell.gate;
            rest = λ b out closed. rest b out;
          })
      | inr turned ↦
          let off : at + 1 + (1 - home) ≢ at = omega arith in
          inr (record {
            cell = cell_is image at (1 - home) turned ∙ (is (at + 1 + (1 - home)) off ∙ lands.here refl);
            gate = turned ∙ sym (ap (λ (h : ℕ). 1 - h) cell.gate);
            rest = rest;
          })
    ]

-- a put that has landed nothing but its block
pub put_first : (at home place : ℕ) (block : List ℕ) (f g : Fuse) (old new : Timeline) → home ≤ 1
    → place ≡ at + 1 + (1 - home) → IsCell (present old) at home → Passes f g old new (Spares place (present old))
    → Passes f g old new (OldOrNew at (present old) (cell_of (contents old) at) block)
put_first at home place block f g old new two e cell passes =
    passes_only (Spares place (present old)) (OldOrNew at (present old) (cell_of (contents old) at) block) f g old new
    (λ image spares. before_home at home (present old) block two cell image
    (subst (λ (p : ℕ). Spares p (present old) image) e spares))
    passes

-- a put that has landed its block, and then the gate
pub put_both : (at home place : ℕ) (block : List ℕ) (f g h : Fuse) (old middle new : Timeline) → home ≤ 1
    → place ≡ at + 1 + (1 - home) → IsCell (present old) at home → Passes f g old middle (Spares place (present old))
    → Lands place block Done (present old) (present middle) → Passes g h middle new (Spares at (present middle))
    → Passes f h old new (OldOrNew at (present old) (cell_of (contents old) at) block)
put_both at home place block f g h old middle new two e cell first lands second =
    let landed : Lands (at + 1 + (1 - home)) block Done (present old) (present middle) =
    subst (λ (p : ℕ). Lands p block Done (present old) (present middle)) e lands in
    passes_on (OldOrNew at (present old) (cell_of (contents old) at) block) f g h old middle new
    (put_first at home place block f g old middle two e cell first)
    (passes_only (Spares at (present middle)) (OldOrNew at (present old) (cell_of (contents old) at) block) g h middle new
    (λ image spares. at_gate at home (present old) (present middle) block two cell landed image spares)
    second)
