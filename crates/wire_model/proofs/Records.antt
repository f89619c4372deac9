-- What the numbered list says of a record is what its step did, so that the check made over the list is the one
-- that the theorem asks.
use Rattle.std.proofs.Common.{◌≡◌, ◌⊎◌, inl, inr, ⊎_elim, ℕ, zero, suc, ◌<◌, Option, Some, List, [], ◌∷◌, ◌++◌, Contains, ◌∙◌, ap, subst, arith}
use Rattle.nfs_base.specs.declared.seal.End.{End}
use Rattle.nfs_base.specs.declared.seal.End.TheVariants.{Source, Dest, Client}
use Rattle.nfs_base.specs.declared.seal.Seal.{Seal}
use Rattle.wire_model.specs.Spelling.{Spelling}
use Rattle.wire_model.specs.Wire.{Sent, Acts, Sends}
use Rattle.wire_model.specs.Check.{IsUnmistaken}
use Rattle.wire_model.specs.Log.{Logged, logged, sent_in, log, IsAmong, PassesCheck}

-- a record of the list is one that its end sent in its step
record IsTrue (acts : End → ℕ → Acts) (boot : End → ℕ → ℕ) (k : ℕ) (r : Logged) : Type 0 where
  before : r.step < k
  sent : Sends (acts r.by r.step) r.bytes r.seal
  took : (acts r.by r.step).took ≡ r.took
  opening : boot r.by (suc r.step) ≡ r.opening

among_either : (r : Logged) (xs ys : List Logged) → IsAmong r (xs ++ ys) → IsAmong r xs ⊎ IsAmong r ys
among_either r [] ys among = inr among
among_either r (x ∷ xs) ys (inl here) = inl (inl here)
among_either r (x ∷ xs) ys (inr later) = ⊎_elim (λ a. inl (inr a)) (λ b. inr b) (among_either r xs ys later)

abbrev sent_of : Logged → Sent
sent_of r = record { bytes = r.bytes; seal = r.seal }

was_sent : (e : End) (k : ℕ) (took : Option (List ℕ)) (opening : ℕ) (out : List Sent) (r : Logged) → IsAmong r (logged e k took opening out)
    → Contains out (sent_of r) × (e ≡ r.by) × (k ≡ r.step) × (took ≡ r.took) × (opening ≡ r.opening)
was_sent e k took opening [] r among = absurd among
was_sent e k took opening (x ∷ xs) r (inl here) =
    ((0, omega arith, ap sent_of here), ap (λ (l : Logged). l.by) here, ap (λ (l : Logged). l.step) here, ap (λ (l : Logged). l.took) here, ap (λ (l : Logged). l.opening) here)
was_sent e k took opening (x ∷ xs) r (inr later) =
    let rest = was_sent e k took opening xs r later in
    let in_list = rest.0 in
    ((suc in_list.0, (let below = in_list.1 in omega arith), in_list.2), rest.1, rest.2, rest.3, rest.4)

module _ (acts : End → ℕ → Acts) (boot : End → ℕ → ℕ) where
  true_now : (k : ℕ) (e : End) (r : Logged) → IsAmong r (sent_in acts boot k e) → IsTrue acts boot (suc k) r
  true_now k e r among =
      let w = was_sent e k (acts e k).took (boot e (suc k)) (acts e k).out r among in
      let step = w.2 in
      record {
        before = omega arith;
        sent = subst (λ o. Sends (acts o r.step) r.bytes r.seal) w.1 (subst (λ n. Sends (acts e n) r.bytes r.seal) w.2 w.0);
        took = subst (λ o. (acts o r.step).took ≡ r.took) w.1 (subst (λ n. (acts e n).took ≡ r.took) w.2 w.3);
        opening = subst (λ o. boot o (suc r.step) ≡ r.opening) w.1 (subst (λ n. boot e (suc n) ≡ r.opening) w.2 w.4);
      }

  true_at : (k : ℕ) (r : Logged) → IsAmong r (log acts boot k) → IsTrue acts boot k r
  true_at zero r among = absurd among
  true_at (suc k) r among =
      ⊎_elim
      (λ (old : IsAmong r (log acts boot k)).
      let t = true_at k r old in
      let early = t.before in
      record { before = omega arith; sent = t.sent; took = t.took; opening = t.opening })
      (λ (new : IsAmong r (sent_in acts boot k Source ++ (sent_in acts boot k Dest ++ sent_in acts boot k Client))).
      ⊎_elim
      (λ (a : IsAmong r (sent_in acts boot k Source)). true_now k Source r a)
      (λ (b : IsAmong r (sent_in acts boot k Dest ++ sent_in acts boot k Client)).
      ⊎_elim
      (λ (d : IsAmong r (sent_in acts boot k Dest)). true_now k Dest r d)
      (λ (c : IsAmong r (sent_in acts boot k Client)). true_now k Client r c)
      (among_either r (sent_in acts boot k Dest) (sent_in acts boot k Client) b))
      (among_either r (sent_in acts boot k Source) (sent_in acts boot k Dest ++ sent_in acts boot k Client) new))
      (among_either r (log acts boot k) (sent_in acts boot k Source ++ (sent_in acts boot k Dest ++ sent_in acts boot k Client)) among)

  pub all_sent : (k : ℕ) (r : Logged) → IsAmong r (log acts boot k) → Sends (acts r.by r.step) r.bytes r.seal
  all_sent k r among = (true_at k r among).sent

  sealed_as : (k : ℕ) (r : Logged) (bytes : List ℕ) (seal : Seal) → IsTrue acts boot k r → r.bytes ≡ bytes → r.seal ≡ Some seal
      → Sends (acts r.by r.step) bytes (Some seal)
  sealed_as k r bytes seal t same seal_is =
      subst (λ s. Sends (acts r.by r.step) bytes s) seal_is (subst (λ b. Sends (acts r.by r.step) b r.seal) same t.sent)

  pub passes_right : (spell : Spelling) → ((k : ℕ) (e : End) → PassesCheck spell acts boot k e) → IsUnmistaken spell acts boot
  passes_right spell passes k e =
      record {
        sealed = λ seal bytes accepted took.
            let f = (passes k e).sealed seal bytes accepted took in
            let t = true_at k f.found f.listed in
            record { by = f.found.by; other = f.other; step = f.found.step; before = t.before; sealed = sealed_as k f.found bytes seal t f.bytes_are f.seal_is };
        answers = λ seal reply accepted took is_reply.
            let f = (passes k e).answers seal reply accepted took is_reply in
            let t = true_at k f.found f.listed in
            let c = true_at k f.call f.call_listed in
            record {
              by = f.found.by;
              other = f.other;
              step = f.found.step;
              before = t.before;
              sealed = sealed_as k f.found reply seal t f.bytes_are f.seal_is;
              call = f.call.bytes;
              took = t.took ∙ f.took;
              sent = f.call.step;
              in_order = f.in_order;
              seal_sent = f.call.seal;
              sends = subst (λ o. Sends (acts o f.call.step) f.call.bytes f.call.seal) f.own c.sent;
              is_call = f.is_call;
              xid = f.xid;
              opening = subst (λ o. boot o (suc f.call.step) ≡ boot e k) f.own (c.opening ∙ f.present);
            };
      }
