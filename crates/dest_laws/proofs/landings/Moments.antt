-- A moment in which nothing happens.
use Rattle.std.proofs.Common.{◌≡◌, ◌∙◌, inl, ℕ, List, [], ◌∷◌, ◌++◌, sym, ap}
use Rattle.std.specs.Prelude.{suc}
use Rattle.copy_model.specs.Effect.{Rests}
use Rattle.copy_model.specs.Job.{Entry}
use Rattle.dest_laws.proofs.landings.Pushed.{not_longer}
use Rattle.dest_laws.specs.View.Dues.{HoldsWell, LandsWell}
use Rattle.wire_model.specs.Copies.{Job, Lands, Plain}
use Rattle.wire_model.specs.Meaning.{Meaning}
use Rattle.wire_model.specs.Spelling.{Spelling}
use Rattle.wire_model.specs.System.{System}

none_pushed : {A : Type 0} (now was : Job) (entry : Entry) → now ≡ was → now.entries ≡ was.entries ++ entry ∷ [] → A
none_pushed now was entry same is = not_longer was.entries entry (sym (ap (λ (j : Job). j.entries) same) ∙ is)

pub rest_lands : (spell : Spelling) (meaning : Meaning) (s : System) (k : ℕ) → ((j : ℕ) → s.job (suc k) j ≡ s.job k j) → LandsWell spell meaning s k
rest_lands spell meaning s k same = record {
  sizes = λ j len pushed. none_pushed (s.job (suc k) j) (s.job k j) _ (same j) pushed.1;
  lands = λ j off len pushed. none_pushed (s.job (suc k) j) (s.job k j) _ (same j) pushed.1;
}

never : {A : Type 0} (j off : ℕ) (bytes : List ℕ) → Plain Rests ≡ Lands j off bytes → A
never j off bytes is = absurd cc

pub rest_holds : (spell : Spelling) (meaning : Meaning) (s : System) (k : ℕ) → ((worker : ℕ) → s.holds (suc k) worker ≡ s.holds k worker)
    → s.deed k ≡ Plain Rests → HoldsWell spell meaning s k
rest_holds spell meaning s k same deed = record {
  lands = λ j off bytes is. never j off bytes (sym deed ∙ is);
  holds = λ worker chunk is. inl (sym (same worker) ∙ is);
}
