-- The source of the small wire obeys the laws of a server.
use Rattle.std.proofs.Common.{◌≡◌, inl, inr, ℕ, zero, suc, ◌<◌, Option, Some, List, [], ◌∷◌, length, get_or, Contains, refl, sym, ◌∙◌, ap, subst, arith}
use Rattle.std.proofs.lemmas.Bool.{false≢true}
use Rattle.nfs_base.specs.declared.seal.End.{End}
use Rattle.nfs_base.specs.declared.seal.End.TheVariants.{Source}
use Rattle.nfs_base.specs.declared.seal.Seal.{Seal}
use Rattle.wire_model.specs.Spelling.{SlotName}
use Rattle.wire_model.specs.Wire.{Sent, Kept, Server}
use Rattle.wire_model.specs.ServerLaws.{IsMade, Executes, Keeps, IsAnswered, ServerLaws}
use Rattle.wire_model.specs.Examples.{spelling, init, called, answer, called_again, kept_answer, seal_of, name, idle, makes, executes, answers, roots, one_kept, opened, with_context, with_answer, wire}

-- what is sent where one record is, and that nothing is where none is
pub only : (sent x : Sent) → Contains (sent ∷ []) x → sent ≡ x
only sent x c = at c.0 c.1 c.2
  where
    at : (k : ℕ) → k < length (sent ∷ []) → get_or (sent ∷ []) k x ≡ x → sent ≡ x
    at zero below is = is
    at (suc k) below is = absurd (omega arith)

pub none : (x : Sent) → Contains [] x → ⊥
none x c = absurd (let below = c.1 in omega arith)

pub bytes_are : (sent : Sent) (bytes : List ℕ) (seal : Option Seal) → Contains (sent ∷ []) (record { bytes = bytes; seal = seal }) → sent.bytes ≡ bytes
bytes_are sent bytes seal c = ap (λ (x : Sent). x.bytes) (only sent _ c)

pub seal_is : (sent : Sent) (own : Seal) (bytes : List ℕ) (seal : Seal) → sent.seal ≡ Some own → Contains (sent ∷ []) (record { bytes = bytes; seal = Some seal }) → own ≡ seal
seal_is sent own bytes seal is c =
    let same : Some own ≡ Some seal = sym is ∙ ap (λ (x : Sent). x.seal) (only sent _ c) in
    cc

pub some : {A : Type 0} (a b : A) → Some a ≡ Some b → a ≡ b
some a b same = cc

-- the source's steps
pub rests : (owner : End) (v : Server) → ServerLaws spelling owner v v idle
rests owner v =
    record {
      boot = omega arith;
      made = λ same. omega arith;
      root = λ number r there. inl (refl, there);
      init = λ c reply seal by took. absurd (cc);
      create = λ c reply seal child took. absurd (cc);
      slot = λ c reply seal n took. absurd (cc);
      kept = λ n r results keeps. inl (refl, keeps);
      once = λ n r results x ran. absurd (let took = x.took in cc);
      last = λ n same. omega arith;
    }

made_now : (number r : ℕ) → roots number ≡ Some r → IsMade opened with_context number r
made_now zero r there = absurd (cc)
made_now (suc zero) r there = record { same_boot = refl; new = omega arith; counted = omega arith; root_is = there }
made_now (suc (suc number)) r there = absurd (cc)

makes_lawful : ServerLaws spelling Source opened with_context makes
makes_lawful =
    record {
      boot = omega arith;
      made = λ same. omega arith;
      root = λ number r there. inr (made_now number r there);
      init = λ c reply seal by took begun_by sends is_reply.
          subst (λ (s : Seal). (s.boot ≡ 1) × IsMade opened with_context s.number s.number) (seal_is _ (seal_of 0) reply seal refl sends) (refl, made_now 1 1 refl);
      create = λ c reply seal child took is_create. absurd (false≢true is_create);
      slot = λ c reply seal n took named. absurd (let here = subst (λ b. spelling.slot_of b ≡ Some n) (sym (some init c took)) named in cc);
      kept = λ n r results keeps. absurd (cc);
      once = λ n r results x ran. absurd (let executed = x.executed in cc);
      last = λ n same. omega arith;
    }

abbrev numbered : ℕ → SlotName
numbered number = record { session = 0; slot = 0; number = number }

executes_lawful : ServerLaws spelling Source with_context with_answer executes
executes_lawful =
    record {
      boot = omega arith;
      made = λ same. omega arith;
      root = λ number r there. inl (refl, there);
      init = λ c reply seal by took begun_by. absurd (let here = subst (λ b. spelling.begun_by b ≡ Some by) (sym (some called c took)) begun_by in cc);
      create = λ c reply seal child took is_create. absurd (false≢true is_create);
      slot = λ c reply seal n took named sends is_reply.
          let here = subst (λ b. spelling.slot_of b ≡ Some n) (sym (some called c took)) named in
          subst (λ m. IsAnswered spelling Source with_context with_answer executes m seal reply) (some name n here)
          (subst (λ b. IsAnswered spelling Source with_context with_answer executes name seal b) (bytes_are _ reply _ sends)
          (subst (λ s. IsAnswered spelling Source with_context with_answer executes name s answer) (seal_is _ (seal_of 1) reply seal refl sends)
          (record { accepted = refl; in_boot = refl; same_boot = refl; root = 1; root_is = refl; results = inl executed })));
      kept = λ n r results keeps. inr (executed_for n r results keeps);
      once = λ n r results x ran.
          let n_is = number_is n r results x in
          (omega arith, omega arith);
      last = λ n same. omega arith;
    }
  where
    executed : Executes spelling Source with_context with_answer executes name 1 (9 ∷ [])
    executed = record {
      call = called;
      seal = seal_of 1;
      took = refl;
      accepted = refl;
      own = refl;
      same_boot = refl;
      in_boot = refl;
      name_is = refl;
      root_is = refl;
      executed = refl;
    }

    number_is : (n : SlotName) (r : ℕ) (results : List ℕ) → Executes spelling Source with_context with_answer executes n r results → 1 ≡ n.number
    number_is n r results x =
        let here = subst (λ b. spelling.slot_of b ≡ Some n) (sym (some called x.call x.took)) x.name_is in
        ap (λ (m : SlotName). m.number) (some name n here)

    -- what is kept is what this step executed
    executed_for : (n : SlotName) (r : ℕ) (results : List ℕ) → Keeps with_answer n r results
        → Executes spelling Source with_context with_answer executes n r results
    executed_for n r results keeps = by_slot n.session n.slot n.number refl keeps
      where
        by_slot : (session slot number : ℕ) → record { session = session; slot = slot; number = number } ≡ n
            → one_kept session slot ≡ Some (record { number = number; root = r; results = results })
            → Executes spelling Source with_context with_answer executes n r results
        by_slot zero zero number is found =
            let k = some _ _ found in
            subst (λ m. Executes spelling Source with_context with_answer executes m r results) (ap numbered (ap (λ (x : Kept). x.number) k) ∙ is)
            (subst (λ i. Executes spelling Source with_context with_answer executes name i results) (ap (λ (x : Kept). x.root) k)
            (subst (λ o. Executes spelling Source with_context with_answer executes name 1 o) (ap (λ (x : Kept). x.results) k) executed))
        by_slot zero (suc slot) number is found = absurd (cc)
        by_slot (suc session) slot number is found = absurd (cc)

answers_lawful : ServerLaws spelling Source with_answer with_answer answers
answers_lawful =
    record {
      boot = omega arith;
      made = λ same. omega arith;
      root = λ number r there. inl (refl, there);
      init = λ c reply seal by took begun_by. absurd (let here = subst (λ b. spelling.begun_by b ≡ Some by) (sym (some called_again c took)) begun_by in cc);
      create = λ c reply seal child took is_create. absurd (false≢true is_create);
      slot = λ c reply seal n took named sends is_reply.
          let here = subst (λ b. spelling.slot_of b ≡ Some n) (sym (some called_again c took)) named in
          subst (λ m. IsAnswered spelling Source with_answer with_answer answers m seal reply) (some name n here)
          (subst (λ b. IsAnswered spelling Source with_answer with_answer answers name seal b) (bytes_are _ reply _ sends)
          (subst (λ s. IsAnswered spelling Source with_answer with_answer answers name s kept_answer) (seal_is _ (seal_of 2) reply seal refl sends)
          (record { accepted = refl; in_boot = refl; same_boot = refl; root = 1; root_is = refl; results = inr refl })));
      kept = λ n r results keeps. inl (refl, keeps);
      once = λ n r results x ran. absurd (let executed = x.executed in cc);
      last = λ n same. omega arith;
    }

pub server_steps : (k : ℕ) → ServerLaws spelling Source (wire.server k) (wire.server (suc k)) (wire.acts Source k)
server_steps zero = rests Source opened
server_steps (suc zero) = makes_lawful
server_steps (suc (suc zero)) = rests Source with_context
server_steps (suc (suc (suc zero))) = executes_lawful
server_steps (suc (suc (suc (suc zero)))) = rests Source with_answer
server_steps (suc (suc (suc (suc (suc zero))))) = answers_lawful
server_steps (suc (suc (suc (suc (suc (suc k)))))) = rests Source with_answer
