-- What a run of turns makes of a copy, and tells of it.
use Rattle.std.proofs.Common.{◌≡◌, ◌≢◌, ◌∙◌, ℕ, zero, suc, ◌<◌, ◌≤◌, Bool, true, false, List, [], ◌∷◌, ◌++◌, length, replicate, Option, Some, None, refl, sym, ap, subst, inl, inr, get_or, get_or-set_same, get_or-set_other, arith}
use Rattle.std.specs.Prelude.{◌==◌, nat_lt, count_by, option_map}
use Rattle.std.proofs.lemmas.List.{append-nil, append_assoc, length-replicate}
use Rattle.client_copies.specs.Copies.{begun}
use Rattle.client_copies.specs.Table.{Copies, copy_at, no_copies, with_begun}
use Rattle.client_copies.specs.Words.{is_final, is_stable_word, ran, told_by_run}
use Rattle.client_copies.specs.declared.copy.ClientCopy.{ClientCopy}
use Rattle.client_copies.specs.declared.event.Event.{Event}
use Rattle.client_copies.specs.declared.table.TheConstants.{MOST_COPIES}
use Rattle.client_copies.specs.declared.told.Word.{Word}
use Rattle.client_core.specs.Endings.{Ways}
use Rattle.client_core.specs.State.{ClientState, new_client}
use Rattle.client_core.specs.Telling.{copy_if}
use Rattle.client_steps.specs.declared.setting.Setting.{Setting}
use Rattle.nfs_base.specs.declared.copy_spec.CopySpec.{CopySpec}
use Rattle.outbox.specs.declared.note.Note.{Note}
use Rattle.streams.specs.declared.draws.Drawn.{Drawn}
use Rattle.client_laws.proofs.Changed.{ran_append, told_append, words_append}
use Rattle.client_laws.proofs.TurnMoves.{turn_changes}
use Rattle.client_laws.specs.Changes.{Changes, told_by}
use Rattle.client_laws.specs.Lives.{Lives}
use Rattle.client_laws.specs.Telling.{words_of}
use Rattle.client_laws.specs.TurnLaws.{IsStart}
use Rattle.client_laws.specs.Turns.{IsRun, MayTurn, Turn, Asks, Begins, Hears, Retries, Ticks, Works}

-- ---- events more

lived_on : (cause : Event → Type 0) (a b : Option ClientCopy) (ws more : List Word) → Lives a ws → Changes cause a b more → Lives b (ws ++ more)
lived_on cause a b ws more (inl none) f =
    inl (
      f.copy ∙ ap (option_map (ran f.events)) none.0,
      ap (λ (xs : List Word). xs ++ more) none.1 ∙ f.words ∙ ap (λ (o : Option ClientCopy). told_by f.events o) none.0,
    )
lived_on cause a b ws more (inr life) f =
    let c = begun life.spec life.secret in
    inr
    (record {
      spec = life.spec;
      secret = life.secret;
      events = life.events ++ f.events;
      is = f.copy ∙ ap (option_map (ran f.events)) life.is ∙ ap (λ (x : ClientCopy). Some x) (sym (ran_append life.events f.events c));
      words =
          ap (λ (xs : List Word). xs ++ more) life.words
          ∙ ap (λ (xs : List Word). told_by_run life.events c ++ xs) (f.words ∙ ap (told_by f.events) life.is)
          ∙ sym (told_append life.events f.events c);
    })

-- ---- a turn begins

some_not_none : {X : Type 0} (x : X) → Some x ≡ None → ⊥
some_not_none x e = absurd cc

pub none_if : {M : Type 0} (b : Bool) (i : ℕ) (c : ClientState M) → b ≡ true → copy_if b i c ≡ None → copy_at i c.copies ≡ None
none_if true i c e out = out
none_if false i c e out = absurd cc

pub below : (m n : ℕ) → m < n → nat_lt m n ≡ true
below m n lt = grind (arith, lt)

started_at : {M : Type 0} (b : Bool) (i j : ℕ) (spec : CopySpec) (secret : List ℕ) (c : ClientState M) (ws : List Word) → (i == j) ≡ b → i < length c.copies.copies
    → copy_at i c.copies ≡ None → Lives (copy_at j c.copies) ws → Lives (copy_at j (with_begun i spec secret c.copies)) ws
started_at false i j spec secret c ws e there none life =
    let other : j ≢ i = grind (arith, e) in
    subst (λ (o : Option ClientCopy). Lives o ws) (sym (get_or-set_other c.copies.copies i j (Some (begun spec secret)) None other)) life
started_at true i j spec secret c ws e there none (inl life) =
    let same : i ≡ j = grind (arith, e) in
    inr
    (record {
      spec = spec;
      secret = secret;
      events = [];
      is =
          subst (λ (n : ℕ). copy_at n (with_begun i spec secret c.copies) ≡ Some (begun spec secret)) same
          (get_or-set_same c.copies.copies i (Some (begun spec secret)) None there);
      words = life.1;
    })
started_at true i j spec secret c ws e there none (inr life) =
    let same : i ≡ j = grind (arith, e) in
    absurd (some_not_none _ (sym life.is ∙ subst (λ (n : ℕ). copy_at n c.copies ≡ None) same none))

start_lives : {M : Type 0} (turn : Turn) (c : ClientState M) (t : Copies) (j : ℕ) (ws : List Word) → length c.copies.copies ≡ MOST_COPIES → MayTurn turn c
    → IsStart turn c.copies t → Lives (copy_at j c.copies) ws → Lives (copy_at j t) ws
start_lives (Begins i spec now) c t j ws many may (inl same) life = subst (λ (u : Copies). Lives (copy_at j u) ws) (sym same) life
start_lives (Begins i spec now) c t j ws many may (inr begun_one) life =
    let there : i < length c.copies.copies = subst (λ (n : ℕ). i < n) (sym many) may.1 in
    subst (λ (u : Copies). Lives (copy_at j u) ws) (sym begun_one.1)
    (started_at (i == j) i j spec begun_one.0 c ws refl there (none_if (nat_lt i MOST_COPIES) i c (below i MOST_COPIES may.1) may.2) life)
start_lives (Asks query i now) c t j ws many may same life = subst (λ (u : Copies). Lives (copy_at j u) ws) (sym same) life
start_lives (Works side work now) c t j ws many may same life = subst (λ (u : Copies). Lives (copy_at j u) ws) (sym same) life
start_lives (Ticks now) c t j ws many may same life = subst (λ (u : Copies). Lives (copy_at j u) ws) (sym same) life
start_lives (Retries now) c t j ws many may same life = subst (λ (u : Copies). Lives (copy_at j u) ws) (sym same) life
start_lives (Hears side message now) c t j ws many may same life = subst (λ (u : Copies). Lives (copy_at j u) ws) (sym same) life

-- ---- a run

pub few_of : (n : ℕ) → n ≡ MOST_COPIES → n ≤ 256
few_of n e = omega (arith, e)

run_from : {M W : Type 0} (ways : Ways) (gives : W → Drawn → W → Type 0) (turns : List Turn) (c d : ClientState M) (told : List Note) (j : ℕ) (ws : List Word)
    → length c.copies.copies ≡ MOST_COPIES → Lives (copy_at j c.copies) ws → IsRun ways gives turns c d told → Lives (copy_at j d.copies) (ws ++ words_of j told)
run_from ways gives [] c d told j ws many life run =
    subst (λ (ns : List Note). Lives (copy_at j d.copies) (ws ++ words_of j ns)) (sym run.1)
    (subst (λ (x : ClientState _). Lives (copy_at j x.copies) (ws ++ [])) (sym run.0)
    (subst (λ (xs : List Word). Lives (copy_at j c.copies) xs) (sym (append-nil ws)) life))
run_from ways gives (turn ∷ turns) c d told j ws many life run =
    let e = run.0 in
    let out = run.1 in
    let more = run.4 in
    let changes = turn_changes ways gives turn c run.2 run.3 e out (few_of (length c.copies.copies) many) run.5 run.6 in
    let start = start_lives turn c changes.start j ws many run.5 changes.begins life in
    let next = lived_on _ (copy_at j changes.start) (copy_at j e.copies) ws (words_of j out.notes) start (changes.each j) in
    let rest = run_from ways gives turns e d more j (ws ++ words_of j out.notes) (changes.many ∙ many) next run.8 in
    subst (λ (xs : List Word). Lives (copy_at j d.copies) xs)
    (append_assoc ws (words_of j out.notes) (words_of j more)
    ∙ ap (λ (xs : List Word). ws ++ xs) (sym (words_append j out.notes more) ∙ ap (words_of j) (sym run.7))) rest

none_in : {X : Type 0} (n j : ℕ) → get_or (replicate {A = Option X} n None) j None ≡ None
none_in zero zero = refl
none_in zero (suc j) = refl
none_in (suc n) zero = refl
none_in (suc n) (suc j) = none_in n j

pub none_at : (j : ℕ) → copy_at j no_copies ≡ None
none_at j = none_in MOST_COPIES j

pub run_lives : {M W : Type 0} (ways : Ways) (gives : W → Drawn → W → Type 0) (turns : List Turn) (s : Setting M) (d : ClientState M) (told : List Note) (j : ℕ)
    → IsRun ways gives turns (new_client s) d told → Lives (copy_at j d.copies) (words_of j told)
run_lives ways gives turns s d told j run = run_from ways gives turns (new_client s) d told j [] (length-replicate {A = Option ClientCopy} MOST_COPIES None) (inl (none_at j, refl)) run

-- ---- what follows for the words, by the laws of a copy (`client_copies`)

pub once : (copy : Option ClientCopy) (ws : List Word)
    → ((es : List Event) (spec : CopySpec) (secret : List ℕ) → count_by is_stable_word (told_by_run es (begun spec secret)) ≤ 1)
    → Lives copy ws → count_by is_stable_word ws ≤ 1
once copy ws law (inl none) = subst (λ (xs : List Word). count_by is_stable_word xs ≤ 1) (sym none.1) (omega arith)
once copy ws law (inr life) = subst (λ (xs : List Word). count_by is_stable_word xs ≤ 1) (sym life.words) (law life.events life.spec life.secret)

nothing_behind : {X : Type 0} (xs : List X) (x : X) (ys : List X) → [] ≡ xs ++ x ∷ ys → ys ≡ []
nothing_behind [] x ys e = absurd cc
nothing_behind (y ∷ xs) x ys e = absurd cc

pub last : (copy : Option ClientCopy) (ws : List Word)
    → ((es : List Event) (c : ClientCopy) (before : List Word) (word : Word) (more : List Word) → is_final word ≡ true → told_by_run es c ≡ before ++ word ∷ more → more ≡ [])
    → Lives copy ws → (before : List Word) (word : Word) (more : List Word) → is_final word ≡ true → ws ≡ before ++ word ∷ more → more ≡ []
last copy ws law (inl none) before word more final is = nothing_behind before word more (sym none.1 ∙ is)
last copy ws law (inr life) before word more final is =
    law life.events (begun life.spec life.secret) before word more final (sym life.words ∙ is)
