-- How a step is seen as a run of its mount's steps, by what goes out and comes.
use Rattle.std.proofs.Common.{◌≡◌, ◌∙◌, ◌⊎◌, inl, inr, ℕ, ◌<◌, ◌≤◌, true, false, List, [], ◌∷◌, ◌++◌, Option, Some, None, refl, sym, ap, arith}
use Rattle.std.proofs.lemmas.Bool.{lt-ltb, ltb-true}
use Rattle.std.specs.Prelude.{◌^◌}
use Rattle.caller_laws.specs.Fitting.Moving.{SendIsFit}
use Rattle.caller_laws.specs.Good.{Identity}
use Rattle.caller_laws.specs.Lawful.{GoesOn, Suits}
use Rattle.caller_laws.specs.Moves.{Falls, GivesUp, Rests, Send, Sends, Takes, sent_by}
use Rattle.caller_laws.specs.OneStep.Besides.{AreBesides, Stays}
use Rattle.caller_laws.specs.OneStep.Order.{is_anew, is_root}
use Rattle.caller_laws.specs.OneStep.Runs.{StaysReady}
use Rattle.caller_laws.specs.OneStep.Whole.{IsWholeStep}
use Rattle.caller_laws.specs.View.{Above, caller_of}
use Rattle.dest_laws.specs.Calls.Fits.{MovesAreFit, SendsAreFit}
use Rattle.dest_laws.specs.View.View.{ready_by}
use Rattle.mount.specs.Falling.{fallen, given_up}
use Rattle.mount.specs.State.{Mounted, awaited_at}
use Rattle.mount.specs.Taking.{Means, taken_at}
use Rattle.mount.specs.declared.machine.SendAt.{SendAt}
use Rattle.mount.specs.declared.machine.Sent as out
use Rattle.mount.specs.declared.state.Awaiting.{Awaiting}
use Rattle.mount.specs.declared.state.TheConstants.{PLACES}
use Rattle.wire_model.specs.CallerLaws.{LearnsRoot}
use Rattle.wire_model.specs.Spelling.{Context}
use Rattle.wire_model.specs.Wire.{Acts, ForCopy, ForFirst, ForJob, ForLast, ForOther, ForStatus, Purpose, Sent}
use Rattle.wire_spelling.specs.Spelling.{spelling}
use Rattle.wire_xdr.specs.Cursor.{IsBytes}

-- ---- what is ready

pub stays_ready : (before after : ℕ) → before ≤ after → (purpose : Purpose) → ready_by before purpose ≡ true → ready_by after purpose ≡ true
stays_ready before after le (ForJob job) is =
    let below : job < before = ltb-true job before is in
    lt-ltb job after (omega arith)
stays_ready before after le (ForFirst copy) is = refl
stays_ready before after le (ForCopy copy) is = refl
stays_ready before after le (ForStatus copy) is = refl
stays_ready before after le (ForLast copy) is = refl
stays_ready before after le ForOther is = refl

-- ---- from what the machine adds to a mount to what it adds behind, while these calls are awaited

pub record Moves (m : Mounted) (a b : Above) : Type 0 where
  pub boot : a.boot ≡ b.boot
  pub ready : StaysReady a b
  pub purpose : (place : ℕ) (x : Awaiting) → awaited_at m place ≡ Some x → b.purpose place ≡ a.purpose place

-- the same with this count of calls
abbrev pub counting : ℕ → Above → Above
counting n a = record a { calls = n }

pub goes : (m : Mounted) (a b : Above) (n : ℕ) → a.calls ≤ n → Moves m a b → GoesOn m a (counting n b)
goes m a b n le moves = record { boot = moves.boot; calls = le; purpose = moves.purpose }

pub stays_seen : (b : Above) (n : Mounted) (calls : ℕ) → Stays (caller_of (counting calls b) n) (caller_of b n)
stays_seen b n calls = record { boot = refl; has = refl; mount = refl; next = refl; awaits = refl; ready = λ purpose is. is }

-- a step that asks nothing new, and one that does, by what is within its bounds where this holds
pub record Plain (who : Identity) (means : Means) (a b : Above) (m n : Mounted) (shown : Acts) : Type 0 where
  pub step : IsWholeStep who means a b m n shown
  pub sends : SendsAreFit step.steps
  pub fits : MovesAreFit means step.steps m

pub record Asks (who : Identity) (means : Means) (fit : Type 0) (a b : Above) (m n : Mounted) (shown : Acts) : Type 0 where
  pub step : IsWholeStep who means a b m n shown
  pub sends : fit → SendsAreFit step.steps
  pub fits : SendsAreFit step.steps → MovesAreFit means step.steps m

module _ (who : Identity) (means : Means) (a b : Above) (m n : Mounted) (shown : Acts) where
  -- nothing is done at the server
  pub rest_whole : n ≡ m → Moves m a b → shown.took ≡ None ⊎ shown.accepted ≡ None → (besides : List Sent) → shown.out ≡ besides
      → AreBesides (spelling who.accepts who.whose) m.server a.calls besides b.calls → Plain who means a b m n shown
  rest_whole same moves unlearnt besides is are = record {
    step = record {
      steps = (record { move = Rests; above = counting a.calls b }) ∷ [];
      middle = counting a.calls b;
      run = (goes m a b a.calls (omega arith) moves, moves.ready, λ spelled. tt, (refl, same));
      ordered = inl (record {
        head = [];
        losing = [];
        late = (record { move = Rests; above = counting a.calls b }) ∷ [];
        is = refl;
        root = false;
        takes = inl refl;
        loses = tt;
        anew = (refl, tt);
        keeps_root = λ e. refl;
      });
      besides = besides;
      stays = stays_seen b n a.calls;
      takes = inr (
        refl,
        λ root learnt.
            elim unlearnt [
              | inl none ↦ let took = learnt.takes.took in cc
              | inr none ↦ let accepted = learnt.takes.accepted in cc
            ],
      );
      out = is;
      are = are;
    };
    sends = (tt, tt);
    fits = (tt, tt);
  }

  -- a call goes out
  pub send_whole : (at : SendAt) (send : Send) (sent : out.Sent) → (sent_by means.mic at send m).0 ≡ Some sent → n ≡ (sent_by means.mic at send m).1 → is_anew (Sends at send) ≡ true
      → Moves m a b → at.place < PLACES → m.calls < at.xid → a.calls < at.xid → at.xid ≤ b.calls → at.xid < 2 ^ 32 → Suits who b m at send
      → shown.out ≡ (record { bytes = sent.bytes; seal = sent.seal }) ∷ [] → shown.took ≡ None → Asks who means (SendIsFit send) a b m n shown
  send_whole at send sent goes_out same anew moves place unused fresh counted small suits is took = record {
    step = record {
      steps = (record { move = Sends at send; above = b }) ∷ [];
      middle = b;
      run = (
        record { boot = moves.boot; calls = omega arith; purpose = moves.purpose },
        moves.ready,
        λ spelled. record {
          place = place;
          unused = unused;
          fresh = fresh;
          counted = counted;
          small = small;
          suits = suits;
          fits = spelled.0;
          are_bytes = spelled.1;
        },
        (refl, same),
      );
      ordered = inl (record {
        head = [];
        losing = [];
        late = (record { move = Sends at send; above = b }) ∷ [];
        is = refl;
        root = false;
        takes = inl refl;
        loses = tt;
        anew = (anew, tt);
        keeps_root = λ e. refl;
      });
      besides = [];
      stays = stays_seen b n b.calls;
      takes = inr (refl, λ root learnt. let it = learnt.takes.took in cc);
      out = is ∙ ap (λ (o : Option out.Sent). (whole_out o ++ []) ++ []) (sym goes_out);
      are = omega arith;
    };
    sends = λ fit. (fit, tt);
    fits = λ sends. (record { place = place; unused = unused; small = small; fits = sends.0 }, tt);
  }
    where
      whole_out : Option out.Sent → List Sent
      whole_out None = []
      whole_out (Some s) = (record { bytes = s.bytes; seal = s.seal }) ∷ []

  -- what is awaited at a place is given up; the answer, if it is one, teaches no root
  pub gives_whole : (place : ℕ) → n ≡ given_up place m → Moves (given_up place m) a b
      → ((root : Context) → LearnsRoot (spelling who.accepts who.whose) m.server (caller_of a m) shown root → ⊥) → (besides : List Sent) → shown.out ≡ besides
      → AreBesides (spelling who.accepts who.whose) m.server a.calls besides b.calls → Plain who means a b m n shown
  gives_whole place same moves never besides is are = record {
    step = record {
      steps = (record { move = GivesUp place; above = a }) ∷ (record { move = Rests; above = counting a.calls b }) ∷ [];
      middle = counting a.calls b;
      run = (
        record { boot = refl; calls = omega arith; purpose = λ q x there. refl },
        λ purpose ready. ready,
        λ spelled. tt,
        (goes (given_up place m) a b a.calls (omega arith) moves, moves.ready, λ spelled. tt, (refl, same)),
      );
      ordered = inl (record {
        head = [];
        losing = (record { move = GivesUp place; above = a }) ∷ [];
        late = (record { move = Rests; above = counting a.calls b }) ∷ [];
        is = refl;
        root = false;
        takes = inl refl;
        loses = (refl, tt);
        anew = (refl, tt);
        keeps_root = λ e. absurd cc;
      });
      besides = besides;
      stays = stays_seen b n a.calls;
      takes = inr (refl, never);
      out = is;
      are = are;
    };
    sends = (tt, (tt, tt));
    fits = (tt, (tt, tt));
  }

  -- a record is taken
  pub take_whole : (place : ℕ) (message : List ℕ) → IsBytes message → n ≡ (taken_at means place message m).1 → Moves (taken_at means place message m).1 a b
      → shown.took ≡ Some message → shown.accepted ≡ (taken_at means place message m).0.accepted → (besides : List Sent) → shown.out ≡ besides
      → AreBesides (spelling who.accepts who.whose) m.server a.calls besides b.calls → Plain who means a b m n shown
  take_whole place message comes same moves took accepted besides is are = record {
    step = record {
      steps = (record { move = Takes place message; above = a }) ∷ (record { move = Rests; above = counting a.calls b }) ∷ [];
      middle = counting a.calls b;
      run = (
        record { boot = refl; calls = omega arith; purpose = λ q x there. refl },
        λ purpose ready. ready,
        λ spelled. spelled,
        (goes (taken_at means place message m).1 a b a.calls (omega arith) moves, moves.ready, λ spelled. tt, (refl, same)),
      );
      ordered = inl (record {
        head = (record { move = Takes place message; above = a }) ∷ [];
        losing = [];
        late = (record { move = Rests; above = counting a.calls b }) ∷ [];
        is = refl;
        root = is_root (taken_at means place message m).0.told;
        takes = inr (record { place = place; message = message; above = a; is = refl; root_is = refl });
        loses = tt;
        anew = (refl, tt);
        keeps_root = λ e. refl;
      });
      besides = besides;
      stays = stays_seen b n a.calls;
      takes = inl (took, accepted);
      out = is;
      are = are;
    };
    sends = (tt, (tt, tt));
    fits = (comes, (tt, tt));
  }

  -- and then the mount begins again
  pub fall_whole : (place : ℕ) (message : List ℕ) → IsBytes message → n ≡ fallen (taken_at means place message m).1 → Moves (fallen (taken_at means place message m).1) a b
      → is_root (taken_at means place message m).0.told ≡ false → shown.took ≡ Some message → shown.accepted ≡ (taken_at means place message m).0.accepted
      → (besides : List Sent) → shown.out ≡ besides
      → AreBesides (spelling who.accepts who.whose) m.server a.calls besides b.calls → Plain who means a b m n shown
  fall_whole place message comes same moves unrooted took accepted besides is are = record {
    step = record {
      steps = (record { move = Takes place message; above = a }) ∷ (record { move = Falls; above = a }) ∷ (record { move = Rests; above = counting a.calls b }) ∷ [];
      middle = counting a.calls b;
      run = (
        record { boot = refl; calls = omega arith; purpose = λ q x there. refl },
        λ purpose ready. ready,
        λ spelled. spelled,
        (
          record { boot = refl; calls = omega arith; purpose = λ q x there. refl },
          λ purpose ready. ready,
          λ spelled. tt,
          (goes (fallen (taken_at means place message m).1) a b a.calls (omega arith) moves, moves.ready, λ spelled. tt, (refl, same)),
        ),
      );
      ordered = inl (record {
        head = (record { move = Takes place message; above = a }) ∷ [];
        losing = (record { move = Falls; above = a }) ∷ [];
        late = (record { move = Rests; above = counting a.calls b }) ∷ [];
        is = refl;
        root = false;
        takes = inr (record { place = place; message = message; above = a; is = refl; root_is = unrooted });
        loses = (refl, tt);
        anew = (refl, tt);
        keeps_root = λ e. absurd cc;
      });
      besides = besides;
      stays = stays_seen b n a.calls;
      takes = inl (took, accepted);
      out = is;
      are = are;
    };
    sends = (tt, (tt, (tt, tt)));
    fits = (comes, (tt, (tt, tt)));
  }
