-- A callback that goes out tells what is right, and what then awaits its answer does too.
use Rattle.std.proofs.Common.{◌≡◌, inl, inr, ℕ, ◌<◌, ◌^◌, Bool, true, false, List, [], ◌∷◌, ◌++◌, length, Option, Some, None, refl, sym, ap, subst, ◌∙◌}
use Rattle.std.specs.Prelude.{◌-◌, nat_lt, slice_index, if◌then◌else◌, find, filter}
use Rattle.std.specs.List.{AllByRecursion}
use Rattle.dest_back.specs.Callbacks.{CallbackTable, line_for, line_of, or_fresh, post_at, stays, with_line, with_post}
use Rattle.dest_back.specs.Telling.{awaiting_of, again_at, again_for, again_to, called_on, new_on, sealed_callback, sent_on, slot_use, told, told_again, told_at, told_to}
use Rattle.dest_back.specs.declared.callbacks.Awaiting.{Awaiting}
use Rattle.dest_back.specs.declared.callbacks.Post.{Post}
use Rattle.dest_back.specs.declared.compound.Ended.{Ended}
use Rattle.dest_back.specs.declared.line.Line.{Line}
use Rattle.dest_back.specs.declared.telling.CallAt.{CallAt}
use Rattle.dest_back.specs.declared.telling.Sent.{Sent}
use Rattle.dest_laws.specs.Names.GoingLaws.{set_gives}
use Rattle.dest_laws.specs.Names.Posts.{BacksFit, Goes, IsAwaited, LinesFit, TellRight}
use Rattle.gss_ctx.specs.Calls.{seal_of}
use Rattle.gss_ctx.specs.Seals.{Mic}
use Rattle.sess_slots.specs.Begins.{back_at}
use Rattle.sess_slots.specs.Table.{SessionTable}
use Rattle.sess_slots.specs.declared.answers.Back.{Back}
use Rattle.session_client.specs.Sealing.{after_call}
use Rattle.session_client.specs.Slots.{after_new}

-- ---- lists

module _ {A : Type 0} (P : A → Type 0) (test : A → Bool) where
  kept_by : (x : A) (xs : List A) (passes : Bool) → P x → AllByRecursion P xs → AllByRecursion P (if passes then x ∷ xs else xs)
  kept_by x xs true p all = (p, all)
  kept_by x xs false p all = all

  pub all_kept : (xs : List A) → AllByRecursion P xs → AllByRecursion P (filter test xs)
  all_kept [] all = tt
  all_kept (x ∷ xs) all = kept_by x (filter test xs) (test x) all.0 (all_kept xs all.1)

  found_by : (x y : A) (xs : List A) (passes : Bool) → P x → AllByRecursion P xs → ((z : A) → find test xs ≡ Some z → P z)
      → (if passes then Some x else find test xs) ≡ Some y → P y
  found_by x y xs true p all rest is = let same : x ≡ y = cc in subst P same p
  found_by x y xs false p all rest is = rest y is

  pub found_all : (xs : List A) (y : A) → AllByRecursion P xs → find test xs ≡ Some y → P y
  found_all [] y all is = absurd cc
  found_all (x ∷ xs) y all is = found_by x y xs (test x) all.0 all.1 (λ z there. found_all xs z all.1 there) is

pub one_more : {A : Type 0} (P : A → Type 0) (xs : List A) (y : A) → AllByRecursion P xs → P y → AllByRecursion P (xs ++ y ∷ [])
one_more P [] y all p = (p, tt)
one_more P (x ∷ xs) y all p = (all.0, one_more P xs y all.1 p)

-- ---- what is told at a seat

post_tells : (right : Ended → Type 0) (seat : ℕ) (post : Post) (c : CallbackTable) → ((a : Awaiting) → post.awaiting ≡ Some a → right a.told)
    → TellRight right c → TellRight right (with_post seat post c)
post_tells right seat post c by all told is =
    elim (set_gives c.posts seat is.seat (Some post) None) [
      | inl new ↦
          let same : post ≡ is.post = some_is post is.post (sym new ∙ is.there) in
          subst right is.told_is (by is.awaiting (ap (λ (p : Post). p.awaiting) same ∙ is.awaits))
      | inr old ↦
          all told (record { seat = is.seat; post = is.post; awaiting = is.awaiting; there = sym old ∙ is.there; awaits = is.awaits; told_is = is.told_is })
    ]
  where
    some_is : (p q : Post) → ◌≡◌ {A = Option Post} (Some p) (Some q) → p ≡ q
    some_is p q is = cc

-- nobody is told yet how a job ends that sits down
pub seated_tells : (right : Ended → Type 0) (seat : ℕ) (post : Post) (c : CallbackTable) → post.awaiting ≡ None → TellRight right c → TellRight right (with_post seat post c)
seated_tells right seat post c none all = post_tells right seat post c (λ a is. absurd (never a is)) all
  where
    never : (a : Awaiting) → post.awaiting ≡ Some a → ⊥
    never a is = cc

-- ---- a call goes out

same_told : (x a : Awaiting) → ◌≡◌ {A = Option Awaiting} (Some x) (Some a) → x.told ≡ a.told
same_told x a is = let same : x ≡ a = cc in ap (λ (w : Awaiting). w.told) same

same_bytes : (x y : Sent) → ◌≡◌ {A = Option Sent} (Some x) (Some y) → y.bytes ≡ x.bytes
same_bytes x y is = let same : x ≡ y = cc in ap (λ (w : Sent). w.bytes) (sym same)

module _ (mic : Mic) (derived : List ℕ → ℕ → List ℕ → List ℕ) (right : Ended → Type 0) (sessions : SessionTable) (backs : BacksFit sessions) (at : CallAt) (small : at.xid < 2 ^ 32)
    (c : CallbackTable) (tells : TellRight right c) (fit : LinesFit c) where
  abbrev Right : Option Sent × CallbackTable → Type 0
  Right outcome = Goes mic right outcome

  nothing : Right (None, c)
  nothing = record { tells = tells; fit = fit; sent = λ call is. absurd cc }

  either : (b : Bool) (x y : Option Sent × CallbackTable) → Right x → Right y → Right (if b then x else y)
  either true x y p q = p
  either false x y p q = q

  abbrev Eight : Line → Type 0
  Eight line = length line.caller.handle ≡ 8

  module _ (post : Post) (back : Back) (ended : Ended) (is_right : right ended) where
    sealed_goes : (line : Line) (number : ℕ) (left : Bool) → Eight line
        → Right (sent_on sessions at post back line number ended
        (if left then (Some (sealed_callback mic line.caller at.xid back.program (slot_use at line number) ended), after_call line.caller) else (None, line.caller)) c)
    sealed_goes line number false eight = nothing
    sealed_goes line number true eight =
        let sealed = sealed_callback mic line.caller at.xid back.program (slot_use at line number) ended in
        let waiting : Awaiting = awaiting_of at line number ended sealed in
        let next : Line = record line { caller = after_call line.caller } in
        let d : CallbackTable = record c { calls = at.xid; lines = with_line sessions next c.lines } in
        record {
          tells = post_tells right at.seat (record post { awaiting = Some waiting }) d (λ a is. subst right (same_told waiting a is) is_right) (λ told is. tells told (earlier told is));
          fit = one_more Eight (filter (stays sessions line.session) c.lines) next (all_kept Eight (stays sessions line.session) c.lines fit) eight;
          sent = λ call is. record {
            side = line.caller;
            xid = at.xid;
            program = back.program;
            slot = slot_use at line number;
            told = ended;
            is = same_bytes (record { conn = back.conn; bytes = sealed.bytes; seal = seal_of line.caller sealed.awaited.seq }) call is;
            handle = eight;
            small = small;
            session = refl;
            right_is = is_right;
          };
        }
      where
        earlier : (told : Ended) → IsAwaited (record c { calls = at.xid; lines = with_line sessions (record line { caller = after_call line.caller }) c.lines }) told → IsAwaited c told
        earlier told is = record { seat = is.seat; post = is.post; awaiting = is.awaiting; there = is.there; awaits = is.awaits; told_is = is.told_is }

    called_goes : (line : Line) (number : ℕ) → Eight line → Right (called_on mic sessions at post back line number ended c)
    called_goes line number eight = sealed_goes line number (nat_lt line.caller.next 2147483648) eight

    new_goes : (line : Line) → Eight line → Right (new_on mic sessions at post back ended line c)
    new_goes line eight =
        either (nat_lt (slice_index line.numbers at.seat) (2 ^ 32 - 1))
        (called_on mic sessions at post back (record line { numbers = after_new line.numbers at.seat }) (slice_index line.numbers at.seat) ended c) (None, c)
        (called_goes (record line { numbers = after_new line.numbers at.seat }) (slice_index line.numbers at.seat) eight) nothing

  line_eight : (post : Post) (back : Back) (line : Option Line) → length back.handle ≡ 8 → ((l : Line) → line ≡ Some l → Eight l) → Eight (or_fresh derived post.party back line)
  line_eight post back None eight found = eight
  line_eight post back (Some line) eight found = found line refl

  eight_for : (post : Post) (back : Back) → length back.handle ≡ 8 → Eight (line_for derived post.party back c.lines)
  eight_for post back eight =
      line_eight post back (line_of post.party.session c.lines) eight
      (λ l is. found_all Eight _ c.lines l fit is)

  to_goes : (ended : Ended) (post : Post) (back : Option Back) → right ended → back_at sessions post.party.session ≡ back → Right (told_to mic derived sessions at ended post back c)
  to_goes ended post None is there = nothing
  to_goes ended post (Some back) is there = new_goes post back ended is (line_for derived post.party back c.lines) (eight_for post back (backs post.party.session back there))

  at_goes : (ended : Ended) (post : Option Post) → right ended → Right (told_at mic derived sessions at ended post c)
  at_goes ended None is = nothing
  at_goes ended (Some post) is = to_goes ended post (back_at sessions post.party.session) is refl

  pub told_goes : (ended : Ended) → right ended → Right (told mic derived sessions at ended c)
  told_goes ended is = at_goes ended (post_at c at.seat) is

  -- ---- the same once more

  back_again : (post : Post) (a : Awaiting) (back : Option Back) → right a.told → back_at sessions post.party.session ≡ back → Right (again_to mic derived sessions at post a back c)
  back_again post a None is there = nothing
  back_again post a (Some back) is there =
      called_goes post back a.told is (line_for derived post.party back c.lines) a.number (eight_for post back (backs post.party.session back there))

  await_again : (post : Post) (awaiting : Option Awaiting) → ((a : Awaiting) → awaiting ≡ Some a → right a.told) → Right (again_for mic derived sessions at post awaiting c)
  await_again post None is = nothing
  await_again post (Some a) is = back_again post a (back_at sessions post.party.session) (is a refl) refl

  seat_again : (post : Option Post) → post_at c at.seat ≡ post → Right (again_at mic derived sessions at post c)
  seat_again None there = nothing
  seat_again (Some post) there =
      await_again post post.awaiting
      (λ a is. tells a.told (record { seat = at.seat; post = post; awaiting = a; there = there; awaits = is; told_is = refl }))

  pub again_goes : Right (told_again mic derived sessions at c)
  again_goes = seat_again (post_at c at.seat) refl
