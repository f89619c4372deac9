use Rattle.std.proofs.Common.{◌≡◌, ◌∙◌, ℕ, zero, suc, Option, None, refl, ap, get_or, replicate}
use Rattle.client_copies.specs.declared.copy.ClientCopy.{ClientCopy}
use Rattle.client_laws.proofs.speaking.word.words_begin.Goals as goal
use Rattle.client_laws.specs.Speaking.Views.{word_seen}
use Rattle.wire_model.specs.Word.{Word}

none_at : (n j : ℕ) → get_or {A = Option ClientCopy} (replicate n None) j None ≡ None
none_at zero zero = refl
none_at zero (suc j) = refl
none_at (suc n) zero = refl
none_at (suc n) (suc j) = none_at n j

pub returns : goal.returns
returns g c = λ setting boot purposes s x. record {
  no_first = λ n. ap (λ (w : Word). w.first) (x.word n ∙ ap word_seen (none_at 16 n));
  no_name = λ n. ap (λ (w : Word). w.name) (x.word n ∙ ap word_seen (none_at 16 n));
  not_stable = λ n. ap (λ (w : Word). w.stable) (x.word n ∙ ap word_seen (none_at 16 n));
  not_exact = λ n. ap (λ (w : Word). w.exact) (x.word n ∙ ap word_seen (none_at 16 n));
  none_held = λ name. x.held name;
}
