use Rattle.std.proofs.Common.{◌≡◌, ℕ, List, inl, inr, sym, subst}
use Rattle.disk_model.specs.Disk.{Image}
use Rattle.block_file.specs.Opened.{CanBeOpened}
use Rattle.block_file.proofs.laws.may_be_opened.Goals as goal

pub returns-clause-formatted : goal.returns-clause-formatted
returns-clause-formatted c = λ size files blocks tag image is. inl is.clean

pub returns-clause-volume : goal.returns-clause-volume
returns-clause-volume c = λ size tag homes v image is. inl is.1.clean

pub returns-clause-opening : goal.returns-clause-opening
returns-clause-opening c = λ size s image could is. elim is [
  | inl before ↦ could image before
  | inr raised ↦ elim raised [ inl same ↦ inl same.clean | inr next ↦ inl next.clean ]
]

pub returns-clause-settled : goal.returns-clause-settled
returns-clause-settled c = λ size s image settled could left.
    let same : ◌≡◌ {A = ℕ → List ℕ} s.reads image = λ i b. sym (left b (settled b)) i in
    subst (λ (im : Image). CanBeOpened size im) same could
