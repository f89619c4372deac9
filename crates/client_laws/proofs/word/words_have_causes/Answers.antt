use Rattle.client_copies.specs.Laws.{IsSaidExact, IsSaidStable}
use Rattle.client_copies.specs.Words.{is_exact_word, is_stable_word}
use Rattle.client_laws.proofs.Whence.{said_happened}
use Rattle.client_laws.proofs.word.words_have_causes.Goals as goal

pub returns : goal.returns
returns g c = record {
  stable = λ ways turn before after out t j said.
      said_happened is_stable_word _ IsSaidStable c.only_these_are_stable_and_exact.ensures.stable _ _ _ (t.each j) said;
  exact = λ ways turn before after out t j said.
      said_happened is_exact_word _ IsSaidExact c.only_these_are_stable_and_exact.ensures.exact _ _ _ (t.each j) said;
}
