-- What a mount loses: what was awaited at a place, a child, or, where it begins again, its root and all that belongs to it.
use Rattle.std.proofs.Common.{◌≡◌, ◌⊎◌, inl, inr, ℕ, zero, suc, Bool, true, false, List, [], ◌∷◌, get_or, set, Option, Some, None, Ok, Err, refl, sym, ap, subst, ◌∙◌}
use Rattle.std.specs.Prelude.{◌==◌, ◌||◌, if◌then◌else◌, map, replicate}
use Rattle.std.specs.List.{list_any}
use Rattle.std.proofs.lemmas.Bool.{eq-eqb, or_left, or_right}
use Rattle.std.proofs.lemmas.List.{length-map, length-set}
use Rattle.nfs_base.specs.declared.status.Status.{Status}
use Rattle.nfs_compound.specs.declared.res.Res.{Res}
use Rattle.session_client.specs.Pending.{Asking, Beginning}
use Rattle.session_client.specs.Setup.{after_answer, joined, registered, exchanged, created}
use Rattle.session_client.specs.declared.setup.Setup.{Setup}
use Rattle.session_client.specs.declared.setup.Setup.TheVariants as setups
use Rattle.mount.specs.Falling.{awaits_under, fallen, forgotten, given_up, is_used, pends_under, standing_without, stays_for, stays_pending, staying}
use Rattle.mount.specs.State.{Mounted, awaited_at, emptied, is_name, kept_in, no_children, pending_at, pending_in, root_name}
use Rattle.mount.specs.Taking.{fallen_if, stepped_to}
use Rattle.mount.specs.declared.state.Aim.{Aim}
use Rattle.mount.specs.declared.state.Awaiting.{Awaiting}
use Rattle.mount.specs.declared.state.Pending.{Pending}
use Rattle.mount.specs.declared.state.Pending.TheVariants.{Init, Under}
use Rattle.mount.specs.declared.state.Root.{Root}
use Rattle.mount.specs.declared.state.Standing.{Standing}
use Rattle.mount.specs.declared.state.Standing.TheVariants.{Down, Rooted}
use Rattle.mount.specs.declared.state.TheConstants.{PLACES}
use Rattle.caller_laws.specs.Good.{Identity, IsGood, IsOwnToken}
use Rattle.caller_laws.proofs.Faces.{face_was, has_was, kept_face, some_is}
use Rattle.caller_laws.proofs.Shrunk.{Shrinks, StaysRooted, awaiting_of}
use Rattle.caller_laws.proofs.SendMoves.{shrinks_itself}

-- ---- places and children by their index

pub emptied_was : {X : Type 0} (xs : List (Option X)) (i j : ℕ) (x : X) → get_or (set xs i None) j None ≡ Some x → get_or xs j None ≡ Some x
emptied_was [] i j x h = h
emptied_was (y ∷ ys) zero zero x h = absurd cc
emptied_was (y ∷ ys) zero (suc j) x h = h
emptied_was (y ∷ ys) (suc i) zero x h = h
emptied_was (y ∷ ys) (suc i) (suc j) x h = emptied_was ys i j x h

pub emptied_is : {X : Type 0} (xs : List (Option X)) (i : ℕ) → get_or (set xs i None) i None ≡ None
emptied_is [] i = refl
emptied_is (y ∷ ys) zero = refl
emptied_is (y ∷ ys) (suc i) = emptied_is ys i

pub filled_was : {X : Type 0} (xs : List (Option X)) (i j : ℕ) (y x : X) → get_or (set xs i (Some y)) j None ≡ Some x → (y ≡ x) ⊎ (get_or xs j None ≡ Some x)
filled_was [] i j y x h = inr h
filled_was (z ∷ zs) zero zero y x h = inl (some_is y x h)
filled_was (z ∷ zs) zero (suc j) y x h = inr h
filled_was (z ∷ zs) (suc i) zero y x h = inr h
filled_was (z ∷ zs) (suc i) (suc j) y x h = filled_was zs i j y x h

abbrev no_name : Option ℕ
no_name = None

none_there : (n j : ℕ) → get_or (replicate n no_name) j no_name ≡ no_name
none_there zero j = refl
none_there (suc n) zero = refl
none_there (suc n) (suc j) = none_there n j

pub no_child : (j name : ℕ) → get_or no_children j None ≡ Some name → ⊥
no_child j name h = let none : get_or no_children j None ≡ None = none_there PLACES j in cc

pub pending_was : (places : List (Option Awaiting)) (i j : ℕ) (p : Pending) → pending_in (get_or (set places i None) j None) ≡ Some p → pending_in (get_or places j None) ≡ Some p
pending_was places i j p h =
    let a = awaiting_of (get_or (set places i None) j None) p h in
    ap pending_in (emptied_was places i j a.a a.is) ∙ ap (λ (q : Pending). Some q) a.pending

-- what stays where a mount begins again
record IsStaying (o : Option Awaiting) (p : Pending) : Type 0 where
  was : pending_in o ≡ Some p
  stays : stays_pending p ≡ true

staying_one : (o : Option Awaiting) (p : Pending) → pending_in (staying o) ≡ Some p → IsStaying o p
staying_one None p h = absurd cc
staying_one (Some a) p h = by (stays_pending a.pending) refl h
  where
    by : (b : Bool) → stays_pending a.pending ≡ b → pending_in (if b then Some a else None) ≡ Some p → IsStaying (Some a) p
    by true stays h =
        let same : a.pending ≡ p = some_is a.pending p h in
        record { was = h; stays = ap stays_pending (sym same) ∙ stays }
    by false goes h = absurd cc

staying_was : (places : List (Option Awaiting)) (j : ℕ) (p : Pending) → pending_in (get_or (map staying places) j None) ≡ Some p → IsStaying (get_or places j None) p
staying_was [] j p h = absurd cc
staying_was (x ∷ xs) zero p h = staying_one x p h
staying_was (x ∷ xs) (suc j) p h = staying_was xs j p h

-- ---- a context that is needed is used

or_first : (a b c : Bool) → a ≡ true → (a || b || c) ≡ true
or_first true b c h = refl
or_first false b c h = absurd cc

or_last : (a b c : Bool) → c ≡ true → (a || b || c) ≡ true
or_last true b c h = refl
or_last false true c h = refl
or_last false false c h = h

any_awaits : (places : List (Option Awaiting)) (j context : ℕ) (aim : Aim) (call : Asking) → pending_in (get_or places j None) ≡ Some (Under context aim call)
    → list_any (awaits_under context) places ≡ true
any_awaits [] j context aim call h = absurd cc
any_awaits (None ∷ xs) zero context aim call h = absurd cc
any_awaits (Some a ∷ xs) zero context aim call h =
    let is : a.pending ≡ Under context aim call = some_is a.pending (Under context aim call) h in
    or_left (awaits_under context (Some a)) (list_any (awaits_under context) xs)
    (ap (λ (p : Pending). pends_under p context) is ∙ eq-eqb context context refl)
any_awaits (x ∷ xs) (suc j) context aim call h =
    or_right (awaits_under context x) (list_any (awaits_under context) xs) (any_awaits xs j context aim call h)

pub used_awaited : (root : Option ℕ) (children : List (Option ℕ)) (places : List (Option Awaiting)) (j context : ℕ) (aim : Aim) (call : Asking)
    → pending_in (get_or places j None) ≡ Some (Under context aim call) → is_used root children places context ≡ true
used_awaited root children places j context aim call h =
    or_last (is_name root context) (list_any (λ child. is_name child context) children) (list_any (awaits_under context) places) (any_awaits places j context aim call h)

pub used_root : (name : ℕ) (children : List (Option ℕ)) (places : List (Option Awaiting)) → is_used (Some name) children places name ≡ true
used_root name children places =
    or_first (name == name) (list_any (λ child. is_name child name) children) (list_any (awaits_under name) places) (eq-eqb name name refl)

-- ---- what is lost

pub emptied_shrinks : (who : Identity) (m : Mounted) (place : ℕ) → IsGood who m → Shrinks who m (emptied place m)
emptied_shrinks who m place g = record {
  server = refl;
  calls = refl;
  places = length-set m.places place None;
  faces = λ name f there. there;
  holds = λ context root there. there;
  awaited = λ other p there. pending_was m.places place other p there;
  under = λ other context aim call there. refl;
  aims = λ other context aim call there no. refl;
  standing = λ r is. record { was = r; is = is; name = refl; numbers = refl; set_up = λ down. down; face = refl };
  children = λ child name there. there;
  kept = g.kept;
}

pub fallen_shrinks : (who : Identity) (m : Mounted) → Shrinks who m (fallen m)
fallen_shrinks who m =
    let used : ℕ → Bool = is_used None no_children (map staying m.places) in
    record {
      server = refl;
      calls = refl;
      places = length-map m.places staying;
      faces = λ name f there. face_was used m.contexts name f there;
      holds = λ context root there. has_was used m.contexts context root there;
      awaited = λ other p there. (staying_was m.places other p there).was;
      under = λ other context aim call there. kept_face used m.contexts context (used_awaited None no_children (map staying m.places) other context aim call there);
      aims = λ other context aim call there no. let stays : stays_for aim ≡ true = (staying_was m.places other (Under context aim call) there).stays in absurd cc;
      standing = λ r is. absurd cc;
      children = λ child name there. absurd (no_child child name there);
      kept = λ init is. absurd cc;
    }

pub fallen_if_shrinks : (who : Identity) (m : Mounted) (b : Bool) → IsGood who m → Shrinks who m (fallen_if b m)
fallen_if_shrinks who m true g = fallen_shrinks who m
fallen_if_shrinks who m false g = shrinks_itself who m g

pub forgotten_shrinks : (who : Identity) (m : Mounted) (child : ℕ) → IsGood who m → Shrinks who m (forgotten child m)
forgotten_shrinks who m child g = record {
  server = refl;
  calls = refl;
  places = refl;
  faces = λ name f there. there;
  holds = λ context root there. there;
  awaited = λ other p there. there;
  under = λ other context aim call there. refl;
  aims = λ other context aim call there no. refl;
  standing = λ r is. record { was = r; is = is; name = refl; numbers = refl; set_up = λ down. down; face = refl };
  children = λ other name there. emptied_was m.children child other name there;
  kept = g.kept;
}

-- an INIT that is given up, or failed, is kept
pub kept_shrinks : (who : Identity) (m : Mounted) (place : ℕ) (init : Beginning) → IsGood who m → pending_at m place ≡ Some (Init init)
    → Shrinks who m (record (emptied place m) { standing = Down (Some init) })
kept_shrinks who m place init g there =
    let fair = g.fair place (Init init) there in
    record {
      server = refl;
      calls = refl;
      places = length-set m.places place None;
      faces = λ name f there. there;
      holds = λ context root there. there;
      awaited = λ other p there. pending_was m.places place other p there;
      under = λ other context aim call there. refl;
      aims = λ other context aim call there no. sym fair.down;
      standing = λ r is. absurd cc;
      children = λ child name there. there;
      kept = λ i is. subst (λ (x : Beginning). IsOwnToken who x.token) (some_is init i is) fair.token;
    }

pub given_up_shrinks : (who : Identity) (m : Mounted) (place : ℕ) → IsGood who m → Shrinks who m (given_up place m)
given_up_shrinks who m place g = by (awaited_at m place) refl
  where
    pending : (a : Awaiting) (p : Pending) → a.pending ≡ p → awaited_at m place ≡ Some a → Shrinks who m (record (emptied place m) { standing = standing_without m.standing (Some (record a { pending = p })) })
    pending a (Init init) is at = kept_shrinks who m place init g (ap pending_in at ∙ ap (λ (p : Pending). Some p) is)
    pending a (Under context aim call) is at = emptied_shrinks who m place g

    by : (o : Option Awaiting) → awaited_at m place ≡ o → Shrinks who m (record (emptied place m) { standing = standing_without m.standing o })
    by None at = emptied_shrinks who m place g
    by (Some a) at = pending a a.pending refl at

-- ---- a step of the setup

up_registered : (status : Status) (client : Option (ℕ × ℕ)) (next : Setup) → registered status client ≡ Ok next → next ≡ setups.Down → ⊥
up_registered status None next h down = absurd cc
up_registered status (Some client) next h down =
    let is : setups.Registered client.0 client.1 ≡ next = cc in
    cc

up_joined : (reclaims : Bool) (client : ℕ) (status : Status) (session : Option (List ℕ)) (next : Setup) → joined reclaims client status session ≡ Ok next → next ≡ setups.Down → ⊥
up_joined reclaims client status None next h down = absurd cc
up_joined true client status (Some session) next h down =
    let is : setups.Joined client session ≡ next = cc in
    cc
up_joined false client status (Some session) next h down =
    let is : setups.Up client session ≡ next = cc in
    cc

up_reclaimed : (b : Bool) (up next : Setup) (status : Status) → (up ≡ setups.Down → ⊥) → (if b then Ok up else Err status) ≡ Ok next → next ≡ setups.Down → ⊥
up_reclaimed true up next status above h down = let is : up ≡ next = cc in above (is ∙ down)
up_reclaimed false up next status above h down = absurd cc

-- the setup doesn't go down by an answer
pub answer_up : (reclaims : Bool) (status : Status) (told : List Res) (setup next : Setup) → after_answer reclaims status told setup ≡ Ok next → next ≡ setups.Down → setup ≡ setups.Down
unfolding after_answer
answer_up reclaims status told setups.Down next h down = refl
answer_up reclaims status told (setups.Rooted verifier) next h down = absurd (up_registered status (exchanged told) next h down)
answer_up reclaims status told (setups.Registered client sequence) next h down = absurd (up_joined reclaims client status (created told) next h down)
answer_up reclaims status told (setups.Joined client session) next h down =
    absurd (up_reclaimed _ (setups.Up client session) next status (λ up. cc) h down)
answer_up reclaims status told (setups.Up client session) next h down = absurd (let is : setups.Up client session ≡ next = cc in cc)

pub stepped_shrinks : (who : Identity) (m : Mounted) (setup : Setup) → IsGood who m → ((r : Root) → m.standing ≡ Rooted r → setup ≡ setups.Down → r.setup ≡ setups.Down)
    → Shrinks who m (record m { standing = stepped_to setup m.standing })
stepped_shrinks who m setup g up = record {
  server = refl;
  calls = refl;
  places = refl;
  faces = λ name f there. there;
  holds = λ context root there. there;
  awaited = λ other p there. there;
  under = λ other context aim call there. refl;
  aims = λ other context aim call there no. same_name m.standing;
  standing = λ r is. was m.standing refl r is;
  children = λ child name there. there;
  kept = λ init is. g.kept init (sym (same_kept m.standing) ∙ is);
}
  where
    same_name : (st : Standing) → root_name (stepped_to setup st) ≡ root_name st
    same_name (Down kept) = refl
    same_name (Rooted root) = refl

    same_kept : (st : Standing) → kept_in (stepped_to setup st) ≡ kept_in st
    same_kept (Down kept) = refl
    same_kept (Rooted root) = refl

    was : (st : Standing) → m.standing ≡ st → (r : Root) → stepped_to setup st ≡ Rooted r → StaysRooted m (record m { standing = stepped_to setup m.standing }) r
    was (Down kept) is r h = absurd cc
    was (Rooted root) is r h =
        let made : Root = record root { setup = setup } in
        let same : made ≡ r = cc in
        subst (StaysRooted m (record m { standing = stepped_to setup m.standing })) same
        (record { was = root; is = is; name = refl; numbers = refl; set_up = λ down. up root is down; face = refl })
