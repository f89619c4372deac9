-- What a link brings and takes, turn after turn.
use Rattle.std.proofs.Common.{◌≡◌, ℕ, true, false, List, [], ◌∷◌, ◌++◌, ◌⊎◌, inl, inr, refl, sym, ap, subst, ◌∙◌, arith, append-nil, append_assoc}
use Rattle.std.proofs.lemmas.Bool.{false≢true, cases_Bool}
use Rattle.std.specs.Io.KnownBytes.{Appends}
use Rattle.std.proofs.KnownBytes.{Appends-nil, Appends-trans}
use Rattle.outcome.specs.Causes.{Rose}
use Rattle.rpc_msg.specs.Watching.{Watch, Signs, Why, Ended, Failed, TooLarge, TooLong, HasTold, Reads, Because, is_down, signs_of, standing}
use Rattle.streams.specs.FrontLaws.{front_none, front_more}
use Rattle.streams.specs.Sink.{AppendsFront}
use Rattle.streams.specs.Stream.{Giving, Taking, faults_of, left_of}
use Rattle.single_copy.specs.Links.{Brings, Carries, Falls, Sends, Stays, is_faulty}
use Rattle.single_copy.proofs.Puts.{not_both, stays_join, stays_same}

-- What the calls of a watched link tell, taken together.
abbrev pub TellsOn : {L : Type 0} → (L → Giving) → Type 0
TellsOn {L} gives = (start : L) (old new : Watch L) (records others : List (List ℕ)) → HasTold (left_of gives) start old records
    → Reads (left_of gives) old new others (standing new) → HasTold (left_of gives) start new (records ++ others)

-- Turns were made, none with a link that was down.
pub record Goes {L : Type 0} (gives : L → Giving) (takes : L → Taking) (old now : Watch L) (records : List (List ℕ)) (bytes : List ℕ) : Type 0 where
  pub brought : (start : L) (earlier : List (List ℕ)) → HasTold (left_of gives) start old earlier → HasTold (left_of gives) start now (earlier ++ records)
  pub front : AppendsFront (takes old.link).taken (takes now.link).taken bytes
  pub whole : is_down now.signs ≡ false → Appends (takes old.link).taken (takes now.link).taken bytes
  pub down : is_down old.signs ≡ true → now ≡ old
  pub failed : is_down old.signs ≡ false → is_down now.signs ≡ true
      → (now.signs ≡ signs_of Failed) × Rose (takes old.link).faults (takes now.link).faults
  pub stays : Stays gives takes old.link now.link

pub goes_none : {L : Type 0} (gives : L → Giving) (takes : L → Taking) (link : Watch L) → Goes gives takes link link [] []
goes_none gives takes link = record {
  brought = λ start earlier told. subst (HasTold (left_of gives) start link) (sym (append-nil earlier)) told;
  front = front_none _ [];
  whole = λ up. Appends-nil _;
  down = λ down. refl;
  failed = λ up down. not_both _ up down;
  stays = stays_same gives takes link.link;
}

-- ---- one turn

pub goes_sent : {L : Type 0} (gives : L → Giving) (takes : L → Taking) (old now : Watch L) (bytes : List ℕ) → Sends gives takes old now bytes
    → Goes gives takes old now [] bytes
goes_sent gives takes old now bytes sends = record {
  brought = λ start earlier told. subst (HasTold (left_of gives) start now) (sym (append-nil earlier)) (sends.told start earlier told);
  front = sends.front;
  whole = sends.whole;
  down = sends.down;
  failed = sends.failed;
  stays = sends.stays;
}

pub goes_heard : {L : Type 0} (gives : L → Giving) (takes : L → Taking) (old middle now : Watch L) (message bytes : List ℕ) → TellsOn gives
    → Brings gives takes old middle message → Sends gives takes middle now bytes → Goes gives takes old now (message ∷ []) bytes
goes_heard gives takes old middle now message bytes tells brings sends =
    let next = brings.next in
    let up : is_down middle.signs ≡ false = ap is_down next.1 ∙ next.0 in
    let taken = ap (λ t. t.taken) brings.puts in
    let faults = ap (λ t. t.faults) brings.puts in
    let reads = subst (λ (m : List ℕ). Reads (left_of gives) old middle (m ∷ []) (standing middle)) brings.told (rw (← next.3) at next.4) in
    record {
      brought = λ start earlier told. sends.told start (earlier ++ message ∷ []) (tells start old middle earlier (message ∷ []) told reads);
      front = rw taken at sends.front;
      whole = λ still. rw taken at (sends.whole still);
      down = λ down. not_both _ next.0 down;
      failed = λ was down. ((sends.failed up down).0, rw faults at (sends.failed up down).1);
      stays = stays_join gives takes old.link middle.link now.link brings.stays sends.stays;
    }

-- ---- one turn after another

pub goes_join : {L : Type 0} (gives : L → Giving) (takes : L → Taking) (a b c : Watch L) (records more : List (List ℕ)) (bytes rest : List ℕ)
    → Goes gives takes a b records bytes → is_down b.signs ≡ false → Goes gives takes b c more rest → Goes gives takes a c (records ++ more) (bytes ++ rest)
goes_join gives takes a b c records more bytes rest one up two = record {
  brought = λ start earlier told.
      subst (HasTold (left_of gives) start c) (append_assoc earlier records more) (two.brought start (earlier ++ records) (one.brought start earlier told));
  front = front_more _ _ _ bytes rest (one.whole up) two.front;
  whole = λ still. Appends-trans _ _ _ bytes rest (one.whole up) (two.whole still);
  down = λ down. absurd (false≢true (sym up ∙ ap (λ w. is_down w.signs) (one.down down) ∙ down));
  failed = λ was down. ((two.failed up down).0, omega (arith, (two.failed up down).1, one.stays.puts_later));
  stays = stays_join gives takes a.link b.link c.link one.stays two.stays;
}

pub goes_last : {L : Type 0} (gives : L → Giving) (takes : L → Taking) (a b : Watch L) (records : List (List ℕ)) (bytes : List ℕ)
    → Goes gives takes a b records bytes → Goes gives takes a b (records ++ []) (bytes ++ [])
goes_last gives takes a b records bytes one = rw (append-nil records, append-nil bytes) one

-- ---- the end

-- a link of which a call failed is down
faulty_down : (signs : Signs) → is_faulty signs ≡ true → is_down signs ≡ true
faulty_down signs faulty = rw faulty refl

stood_cause : {L : Type 0} (gives : L → Giving) (takes : L → Taking) (old now : Watch L) (records : List (List ℕ)) (bytes : List ℕ) → Goes gives takes old now records bytes
    → is_faulty now.signs ≡ true
    → (is_faulty old.signs ≡ true) ⊎ (Rose (gives old.link).faults (gives now.link).faults ⊎ Rose (takes old.link).faults (takes now.link).faults)
stood_cause gives takes old now records bytes goes faulty =
    elim (cases_Bool (is_down old.signs)) [
      | inl is ↦ inl (sym (ap (λ w. is_faulty w.signs) (goes.down is)) ∙ faulty)
      | inr is ↦ inr (inr (goes.failed is (faulty_down now.signs faulty)).1)
    ]

stood_whole : {L : Type 0} (gives : L → Giving) (takes : L → Taking) (old now : Watch L) (records : List (List ℕ)) (bytes : List ℕ) → Goes gives takes old now records bytes
    → is_down old.signs ≡ false → is_faulty now.signs ≡ false → Appends (takes old.link).taken (takes now.link).taken bytes
stood_whole gives takes old now records bytes goes up fine =
    elim (cases_Bool (is_down now.signs)) [
      | inl is ↦ absurd (false≢true (sym fine ∙ ap is_faulty (goes.failed up is).0))
      | inr is ↦ goes.whole is
    ]

pub stood_carries : {L : Type 0} (gives : L → Giving) (takes : L → Taking) (old now : Watch L) (records : List (List ℕ)) (bytes : List ℕ)
    → Goes gives takes old now records bytes → Carries gives takes old now records bytes
stood_carries gives takes old now records bytes goes = record {
  last = now;
  brought = goes.brought;
  since = inl refl;
  front = goes.front;
  whole = stood_whole gives takes old now records bytes goes;
  cause = stood_cause gives takes old now records bytes goes;
  stays = goes.stays;
}

fell_cause : {L : Type 0} (gives : L → Giving) (why : Why) (last now : Watch L) → now.signs ≡ signs_of why → Because (left_of gives) (faults_of gives) why last now
    → is_faulty now.signs ≡ true → Rose (gives last.link).faults (gives now.link).faults
fell_cause gives Ended last now signs because faulty = absurd (false≢true (sym (ap is_faulty signs) ∙ faulty))
fell_cause gives Failed last now signs because faulty = because.1
fell_cause gives (TooLarge sum) last now signs because faulty = absurd (false≢true (sym (ap is_faulty signs) ∙ faulty))
fell_cause gives TooLong last now signs because faulty = absurd (false≢true (sym (ap is_faulty signs) ∙ faulty))

pub fell_carries : {L : Type 0} (gives : L → Giving) (takes : L → Taking) (old last now : Watch L) (records : List (List ℕ)) (bytes : List ℕ)
    → Goes gives takes old last records bytes → is_down last.signs ≡ false → Falls gives takes last now → Carries gives takes old now records bytes
fell_carries gives takes old last now records bytes goes up falls =
    let taken = ap (λ t. t.taken) falls.puts in
    record {
      last = last;
      brought = goes.brought;
      since = inr falls;
      front = rw taken goes.front;
      whole = λ was fine. rw taken (goes.whole up);
      cause = λ faulty. inr (inl (omega (arith, fell_cause gives falls.down.why last now falls.down.signs falls.down.cause faulty, goes.stays.takes_later)));
      stays = stays_join gives takes old.link last.link now.link goes.stays falls.stays;
    }
