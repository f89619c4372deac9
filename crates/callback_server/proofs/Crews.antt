-- The workers' links, link by link.
use Rattle.std.proofs.Common.{◌≡◌, ℕ, ◌+◌, ◌<◌, List, [], ◌∷◌, ◌++◌, length, take, drop, slice_index_or, refl, sym, ap, ◌∙◌, arith, append_assoc, append-nil}
use Rattle.net_links.specs.Links.{Standing, HangsUp}
use Rattle.streams.specs.Stream.{Giving, Taking}
use Rattle.copy_workers.specs.Workers.{AllUnsent}
use Rattle.rpc_msg.specs.Watching.{Watch}
use Rattle.link_server.specs.Keeping.{Books}
use Rattle.callback_server.specs.Crew.{standing_of, Dials, HangsAll}

-- one more link that took nothing
pub unsent_last : {L : Type 0} (links : List (Watch L)) (link : Watch L) → AllUnsent links → link.sent ≡ 0 → AllUnsent (links ++ link ∷ [])
unsent_last [] link all none = (none, tt)
unsent_last (first ∷ links) link all none = (all.0, unsent_last links link all.1 none)

abbrev books_with : List Standing → ℕ → ℕ → Books
books_with hung up accepted = record { hung = hung; up = up; accepted = accepted }

same_books : (h i : List Standing) (u v a b : ℕ) → h ≡ i → u ≡ v → a ≡ b → books_with h u a ≡ books_with i v b
same_books h i u v a b hung up accepted = rw (hung, up, accepted) refl

-- One link more was dialed.
pub dials_more : (count count_now : ℕ) (before mid now : Books) → Dials count before mid → now.hung ≡ mid.hung → now.up ≡ mid.up + 1
    → now.accepted ≡ mid.accepted → count_now ≡ count + 1 → Dials count_now before now
dials_more count count_now before mid now dials hung up accepted more =
    same_books now.hung before.hung now.up (before.up + count_now) now.accepted before.accepted (hung ∙ ap (λ (b : Books). b.hung) dials)
    (let e = ap (λ (b : Books). b.up) dials in omega (arith, up, e, more)) (accepted ∙ ap (λ (b : Books). b.accepted) dials)

-- nothing was hung up yet
pub hangs_none : (now : Books) → HangsAll [] now now
hangs_none now = record { hung = sym (append-nil now.hung); told = tt; up = omega arith; accepted = refl }

pub hangs_if_none : (crew : List (Watch Standing)) (now : Books) → length crew ≡ 0 → HangsAll (standing_of crew) now now
hangs_if_none [] now none = hangs_none now
hangs_if_none (watch ∷ crew) now none = absurd (omega (arith, none))

-- One was hung up, and then the others.
pub hangs_first : (link : Standing) (links : List Standing) (before mid now : Books) → HangsUp before.hung mid.hung link → before.up ≡ mid.up + 1
    → mid.accepted ≡ before.accepted → HangsAll links mid now → HangsAll (link ∷ links) before now
hangs_first link links before mid now first up accepted others = record {
  hung = others.hung ∙ ap (λ xs. xs ++ links) first.kept ∙ append_assoc before.hung (link ∷ []) links;
  told = (first.told, others.told);
  up = omega (arith, up, others.up);
  accepted = others.accepted ∙ accepted;
}

-- the link that its two ways were
pub hangs_as : (before now : List Standing) (brings : Giving) (takes : Taking) (link : Standing) → brings ≡ link.brings → takes ≡ link.takes
    → HangsUp before now (record { brings = brings; takes = takes }) → HangsUp before now link
hangs_as before now brings takes link b t hung = rw (b, t) at hung

-- The first of the links was hung up, and then the others.
pub hangs_front : (crew rest : List (Watch Standing)) (first : Watch Standing) (before mid now : Books) → 0 < length crew
    → first ≡ slice_index_or crew 0 first → rest ≡ take 0 crew ++ drop 1 crew → HangsUp before.hung mid.hung first.link → before.up ≡ mid.up + 1
    → mid.accepted ≡ before.accepted → HangsAll (standing_of rest) mid now → HangsAll (standing_of crew) before now
hangs_front [] rest first before mid now some is others hung up accepted hangs = absurd (omega (arith, some))
hangs_front (watch ∷ crew) rest first before mid now some is others hung up accepted hangs =
    hangs_first watch.link (standing_of crew) before mid now (rw is at hung) up accepted (rw others at hangs)
