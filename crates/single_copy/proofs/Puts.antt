-- Bytes that are put to a link one after the other.
use Rattle.std.proofs.Common.{◌≡◌, ℕ, ◌+◌, ◌-◌, Bool, true, false, List, [], ◌++◌, length, take, drop, refl, sym, ap, subst, ◌∙◌, inl, inr, arith, take-append-drop, length-drop}
use Rattle.std.proofs.Math.Seq.{take-add, take-length}
use Rattle.std.proofs.lemmas.Bool.{false≢true, cases_Bool}
use Rattle.std.proofs.KnownBytes.{Appends-nil, Appends-trans}
use Rattle.rpc_msg.specs.Watching.{Watch, is_down}
use Rattle.streams.specs.FrontLaws.{front_none, front_wider, front_more}
use Rattle.streams.specs.Stream.{Giving, Taking}
use Rattle.single_copy.specs.Links.{Sends, Stays}

pub stays_same : {L : Type 0} (gives : L → Giving) (takes : L → Taking) (link : L) → Stays gives takes link link
stays_same gives takes link = record { whole = refl; takes_failing = refl; puts_failing = refl; takes_later = omega arith; puts_later = omega arith }

pub stays_join : {L : Type 0} (gives : L → Giving) (takes : L → Taking) (a b c : L) → Stays gives takes a b → Stays gives takes b c → Stays gives takes a c
stays_join gives takes a b c one two = record {
  whole = two.whole ∙ one.whole;
  takes_failing = two.takes_failing ∙ one.takes_failing;
  puts_failing = two.puts_failing ∙ one.puts_failing;
  takes_later = omega (arith, one.takes_later, two.takes_later);
  puts_later = omega (arith, one.puts_later, two.puts_later);
}

-- a link that is up isn't down
pub not_both : {P : Type 0} (b : Bool) → b ≡ false → b ≡ true → P
not_both b up down = absurd (false≢true (sym up ∙ down))

-- ---- nothing is put: there is nothing, or the link is down

pub sends_none : {L : Type 0} (gives : L → Giving) (takes : L → Taking) (link : Watch L) → Sends gives takes link link []
sends_none gives takes link = record {
  front = front_none _ [];
  whole = λ up. Appends-nil _;
  down = λ down. refl;
  failed = λ up down. not_both _ up down;
  told = λ start records told. told;
  stays = stays_same gives takes link.link;
}

pub sends_unsent : {L : Type 0} (gives : L → Giving) (takes : L → Taking) (link : Watch L) (bytes : List ℕ) → is_down link.signs ≡ true
    → Sends gives takes link link bytes
sends_unsent gives takes link bytes is = record {
  front = front_none _ bytes;
  whole = λ up. not_both _ up is;
  down = λ down. refl;
  failed = λ up down. not_both _ up down;
  told = λ start records told. told;
  stays = stays_same gives takes link.link;
}

-- ---- one after the other

pub sends_join : {L : Type 0} (gives : L → Giving) (takes : L → Taking) (a b c : Watch L) (first second : List ℕ)
    → Sends gives takes a b first → Sends gives takes b c second → Sends gives takes a c (first ++ second)
sends_join gives takes a b c first second one two =
    elim (cases_Bool (is_down b.signs)) [
      | inl is ↦ (
          let same = two.down is in
          subst (λ last. Sends gives takes a last (first ++ second)) (sym same) (record {
            front = front_wider _ _ first second one.front;
            whole = λ up. not_both _ up is;
            down = λ down. one.down down;
            failed = λ up down. one.failed up down;
            told = λ start records told. one.told start records told;
            stays = one.stays;
          }))
      | inr is ↦ record {
        front = front_more _ _ _ first second (one.whole is) two.front;
        whole = λ up. Appends-trans _ _ _ first second (one.whole is) (two.whole up);
        down = λ down. absurd (false≢true (sym is ∙ ap (λ w. is_down w.signs) (one.down down) ∙ down));
        failed = λ up down. (
          (two.failed is down).0,
          omega (arith, (two.failed is down).1, one.stays.puts_later),
        );
        told = λ start records told. two.told start records (one.told start records told);
        stays = stays_join gives takes a.link b.link c.link one.stays two.stays;
      }
    ]

-- ---- a piece, put by put

-- what stands from a place on
rest_whole : (piece : List ℕ) (place : ℕ) → take (length piece - place) (drop place piece) ≡ drop place piece
rest_whole piece place = subst (λ (n : ℕ). take n (drop place piece) ≡ drop place piece) (length-drop place piece) (take-length (drop place piece))

-- a front of the piece was put, and then more of it
pub sends_more : {L : Type 0} (gives : L → Giving) (takes : L → Taking) (a b c : Watch L) (piece : List ℕ) (place count : ℕ)
    → Sends gives takes a b (take place piece) → Sends gives takes b c (take count (take (length piece - place) (drop place piece)))
    → Sends gives takes a c (take (place + count) piece)
sends_more gives takes a b c piece place count one two =
    let whole = ap (λ (l : List ℕ). take place piece ++ take count l) (rest_whole piece place) in
    subst (Sends gives takes a c) (whole ∙ sym (take-add place count piece)) (sends_join gives takes a b c (take place piece) _ one two)

-- and then all that was left
pub sends_rest : {L : Type 0} (gives : L → Giving) (takes : L → Taking) (a b c : Watch L) (piece : List ℕ) (place : ℕ)
    → Sends gives takes a b (take place piece) → Sends gives takes b c (take (length piece - place) (drop place piece)) → Sends gives takes a c piece
sends_rest gives takes a b c piece place one two =
    let whole = ap (λ (l : List ℕ). take place piece ++ l) (rest_whole piece place) in
    subst (Sends gives takes a c) (whole ∙ take-append-drop place piece) (sends_join gives takes a b c (take place piece) _ one two)
