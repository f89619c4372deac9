use Rattle.std.proofs.Common.{◌≡◌, ℕ, ◌+◌, List, [], ◌++◌, length, refl, sym, ap, ◌∙◌, arith, append-nil}
use Rattle.rpc_msg.specs.Watching.{TooLarge, TooLong}
use Rattle.rpc_msg.specs.declared.records.Fed.{Fed}
use Rattle.rpc_msg.specs.FeedLaws.{flow_said}
use Rattle.rpc_msg.proofs.Watching.{fact, between_places, places_none}
use Rattle.rpc_msg.proofs.watched.Watched.read.Goals as goal

pub invariant_of-self-in-TooLarge : goal.invariant_of-self-in-TooLarge
invariant_of-self-in-TooLarge g c =
    let up = ap (λ w. w.signs) c.self.view_is ∙ c.requires.up in
    let large = ap (λ s. s.large) up in
    let few = c.self.invariant.few large in
    let said = fact c.self.inside.feed c.feed-taken.new.self c.self.inside.room c.self.inside.from c.self.inside.until c.min-end.result c.self.inside.count c.feed-taken.result
    (c.self.invariant.small large) c.self.invariant.inside (omega (arith, c.self.told, c.self.invariant.room)) few c.min-end.ensures
    (rw c.as_slice.ensures at c.feed-taken.ensures.exact) (rw c.as_slice.ensures at c.feed-taken.ensures.within) in
    let over = rw c.in-TooLarge.is at said.over in
    record {
      inside = said.within;
      room = c.self.invariant.room;
      few = λ zero. few;
      small = λ zero. absurd (omega (arith, over, zero));
    }

pub returns-then-self-lt-BYTES_LIMIT : goal.returns-then-self-lt-BYTES_LIMIT
returns-then-self-lt-BYTES_LIMIT g c =
    let up = ap (λ w. w.signs) c.self.view_is ∙ c.requires.up in
    let large = ap (λ s. s.large) up in
    let few = c.self.invariant.few large in
    let said = fact c.self.inside.feed c.feed-taken.new.self c.self.inside.room c.self.inside.from c.self.inside.until c.min-end.result c.self.inside.count c.feed-taken.result
    (c.self.invariant.small large) c.self.invariant.inside (omega (arith, c.self.told, c.self.invariant.room)) few c.min-end.ensures
    (rw c.as_slice.ensures at c.feed-taken.ensures.exact) (rw c.as_slice.ensures at c.feed-taken.ensures.within) in
    let all = said.all c.if-self-lt-BYTES_LIMIT.true c.in-Need.is in
    let none : between_places c.self.inside.room (c.self.inside.from + c.feed-taken.result.0) c.self.inside.until ≡ [] = places_none _ _ _ all in
    let whole : between_places c.self.inside.room c.self.inside.from c.self.inside.until ≡ said.bytes =
    said.parts ∙ ap (λ (l : List ℕ). said.bytes ++ l) none ∙ append-nil said.bytes in
    let wanted = rw c.in-Need.is at said.wanted in
    let told = said.told ∙ ap (λ (s : Fed). flow_said c.self.inside.count c.feed-taken.result.0 s c.feed-taken.new.self) c.in-Need.is in
    rw (← c.self.view_is) (record {
      rest = rw none refl;
      counted = ap (λ (n : ℕ). c.self.inside.count + n) (sym said.len ∙ ap length (sym whole));
      few = c.if-self-lt-BYTES_LIMIT.true;
      told = rw whole told;
      wanted = wanted.0 c.if-self-lt-BYTES_LIMIT.true;
    })

pub returns-in-Whole : goal.returns-in-Whole
returns-in-Whole g c =
    let up = ap (λ w. w.signs) c.self.view_is ∙ c.requires.up in
    let large = ap (λ s. s.large) up in
    let few = c.self.invariant.few large in
    let said = fact c.self.inside.feed c.feed-taken.new.self c.self.inside.room c.self.inside.from c.self.inside.until c.min-end.result c.self.inside.count c.feed-taken.result
    (c.self.invariant.small large) c.self.invariant.inside (omega (arith, c.self.told, c.self.invariant.room)) few c.min-end.ensures
    (rw c.as_slice.ensures at c.feed-taken.ensures.exact) (rw c.as_slice.ensures at c.feed-taken.ensures.within) in
    let now = rw c.in-Whole.is at said.said_is in
    let told = said.told ∙ ap (λ (s : Fed). flow_said c.self.inside.count c.feed-taken.result.0 s c.feed-taken.new.self) c.in-Whole.is in
    rw (← c.self.view_is) (record {
      rest = refl;
      under = now.0;
      read = record { bytes = said.bytes; parts = said.parts; told = told; few = omega (arith, said.few, said.len) };
      wanted = rw c.in-Whole.is at said.wanted;
    })

pub returns-in-TooLarge : goal.returns-in-TooLarge
returns-in-TooLarge g c =
    let up = ap (λ w. w.signs) c.self.view_is ∙ c.requires.up in
    let faults = ap (λ s. s.faults) up in
    let ended = ap (λ s. s.ended) up in
    let large = ap (λ s. s.large) up in
    let few = c.self.invariant.few large in
    let said = fact c.self.inside.feed c.feed-taken.new.self c.self.inside.room c.self.inside.from c.self.inside.until c.min-end.result c.self.inside.count c.feed-taken.result
    (c.self.invariant.small large) c.self.invariant.inside (omega (arith, c.self.told, c.self.invariant.room)) few c.min-end.ensures
    (rw c.as_slice.ensures at c.feed-taken.ensures.exact) (rw c.as_slice.ensures at c.feed-taken.ensures.within) in
    let over = rw c.in-TooLarge.is at said.over in
    let told = said.told ∙ ap (λ (s : Fed). flow_said c.self.inside.count c.feed-taken.result.0 s c.feed-taken.new.self) c.in-TooLarge.is in
    rw (← c.self.view_is) (record {
      why = TooLarge c.in-TooLarge.len;
      rest = rw (faults, ended) refl;
      cause = λ left. λ faults. λ first. over;
      read = record { bytes = said.bytes; parts = said.parts; told = told; few = omega (arith, said.few, said.len) };
      wanted = rw c.in-TooLarge.is at said.wanted;
    })

pub returns-else-self-lt-BYTES_LIMIT : goal.returns-else-self-lt-BYTES_LIMIT
returns-else-self-lt-BYTES_LIMIT g c =
    let up = ap (λ w. w.signs) c.self.view_is ∙ c.requires.up in
    let faults = ap (λ s. s.faults) up in
    let ended = ap (λ s. s.ended) up in
    let large = ap (λ s. s.large) up in
    let few = c.self.invariant.few large in
    let said = fact c.self.inside.feed c.feed-taken.new.self c.self.inside.room c.self.inside.from c.self.inside.until c.min-end.result c.self.inside.count c.feed-taken.result
    (c.self.invariant.small large) c.self.invariant.inside (omega (arith, c.self.told, c.self.invariant.room)) few c.min-end.ensures
    (rw c.as_slice.ensures at c.feed-taken.ensures.exact) (rw c.as_slice.ensures at c.feed-taken.ensures.within) in
    let wanted = rw c.in-Need.is at said.wanted in
    let told = said.told ∙ ap (λ (s : Fed). flow_said c.self.inside.count c.feed-taken.result.0 s c.feed-taken.new.self) c.in-Need.is in
    rw (← c.self.view_is) (record {
      why = TooLong;
      rest = rw (faults, ended) refl;
      cause = λ left. λ faults. λ first. omega (arith, said.few, c.if-self-lt-BYTES_LIMIT.false);
      read = record { bytes = said.bytes; parts = said.parts; told = told; few = omega (arith, said.few, said.len) };
      wanted = wanted.1 c.if-self-lt-BYTES_LIMIT.false;
    })
