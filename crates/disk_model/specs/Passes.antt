-- What a crash since a moment might have left. Own model.
use Rattle.std.proofs.Common.{◌≡◌, ℕ, ◌+◌, ◌≤◌, refl, sym, ◌∙◌, subst, arith, inl, inr, ◌⊎◌}
use Rattle.std.proofs.lemmas.Bool.{cases_lt}
use Rattle.disk_model.specs.declared.fuse.Fuse.{Fuse}
use Rattle.disk_model.specs.declared.fuse.Fuse.TheVariants.{Unset, Burning, Out}
use Rattle.disk_model.specs.Disk.{Image, DiskState, MayLeave}
use Rattle.disk_model.specs.Elapsed.{Timeline, present, crash_moment, IsOut, Elapses}

-- Time goes on from one moment to another, and whatever a crash at any moment from the one to the
-- other, both included, might have left is as P says.
pub record Passes (old_fuse new_fuse : Fuse) (old new : Timeline) (P : Image → Type 0) : Type 0 where
  pub time : Elapses old_fuse new_fuse old new
  pub each : (k : ℕ) → old.latest ≤ k → k ≤ new.latest → (image : Image) → MayLeave (new.state k) image → P image

-- a machine has stopped or hasn't
pub cases_out : (fuse : Fuse) → IsOut fuse ⊎ (IsOut fuse → ⊥)
cases_out Unset = inr (λ out. cc)
cases_out (Burning _) = inr (λ out. cc)
cases_out Out = inl refl

-- a machine that has stopped crashes as of the stop, and any other as of now
pub crash_at_stop : (fuse : Fuse) (t : Timeline) → IsOut fuse → crash_moment fuse t ≡ t.stop
crash_at_stop Unset t out = absurd (cc)
crash_at_stop (Burning _) t out = absurd (cc)
crash_at_stop Out t out = refl

pub crash_now : (fuse : Fuse) (t : Timeline) → (IsOut fuse → ⊥) → crash_moment fuse t ≡ t.latest
crash_now Unset t lit = refl
crash_now (Burning _) t lit = refl
crash_now Out t lit = absurd (lit refl)

-- where no call is made
pub elapses_none : (fuse : Fuse) (t : Timeline) → Elapses fuse fuse t t
elapses_none fuse t = record {
  later = omega arith;
  past = λ k le. refl;
  stays = λ out. (out, refl);
  stops = λ lit out. absurd (lit out);
  unset = λ is. is;
}

-- where calls are made in two parts
pub elapses_on : (first second third : Fuse) (old middle new : Timeline)
    → Elapses first second old middle → Elapses second third middle new → Elapses first third old new
elapses_on first second third old middle new before after = record {
  later = omega (arith, before.later, after.later);
  past = λ k le. after.past k (omega (arith, before.later)) ∙ before.past k le;
  stays = λ out.
      let was = before.stays out in
      let is = after.stays was.0 in
      (is.0, is.1 ∙ was.1);
  stops = λ lit out. elim (cases_out second) [
    | inl was ↦
        let within = before.stops lit was in
        let same = (after.stays was).1 in
        (omega (arith, within.0, same), omega (arith, within.1, same, after.later))
    | inr still ↦
        let within = after.stops still out in
        (omega (arith, within.0, before.later), within.1)
  ];
  unset = λ is. after.unset (before.unset is);
}

pub passes_none : (P : Image → Type 0) (fuse : Fuse) (t : Timeline)
    → ((image : Image) → MayLeave (present t) image → P image) → Passes fuse fuse t t P
passes_none P fuse t now = record {
  time = elapses_none fuse t;
  each = λ k from to image.
      let e : t.latest ≡ k = omega arith in
      subst (λ (k : ℕ). MayLeave (t.state k) image → P image) e (now image);
}

-- One call: what a crash before it might have left, and what one after it might.
pub passes_one : (P : Image → Type 0) (old_fuse new_fuse : Fuse) (old new : Timeline)
    → Elapses old_fuse new_fuse old new → new.latest ≤ old.latest + 1
    → ((image : Image) → MayLeave (present old) image → P image)
    → ((image : Image) → MayLeave (present new) image → P image)
    → Passes old_fuse new_fuse old new P
passes_one P old_fuse new_fuse old new time soon before after = record {
  time = time;
  each = λ k from to image. elim (cases_lt k new.latest) [
    | inl earlier ↦
        let e : old.latest ≡ k = omega arith in
        let same : old.state old.latest ≡ new.state k =
        subst (λ (k : ℕ). old.state old.latest ≡ new.state k) e (sym (time.past old.latest (omega arith))) in
        subst (λ (s : DiskState). MayLeave s image → P image) same (before image)
    | inr last ↦
        let e : new.latest ≡ k = omega arith in
        subst (λ (k : ℕ). MayLeave (new.state k) image → P image) e (after image)
  ];
}

pub passes_on : (P : Image → Type 0) (first second third : Fuse) (old middle new : Timeline)
    → Passes first second old middle P → Passes second third middle new P → Passes first third old new P
passes_on P first second third old middle new before after = record {
  time = elapses_on first second third old middle new before.time after.time;
  each = λ k from to image. elim (cases_lt k middle.latest) [
    | inl earlier ↦
        subst (λ (s : DiskState). MayLeave s image → P image) (sym (after.time.past k (omega arith)))
        (before.each k from (omega arith) image)
    | inr later ↦ after.each k later to image
  ];
}

pub passes_only : (P Q : Image → Type 0) (old_fuse new_fuse : Fuse) (old new : Timeline)
    → ((image : Image) → P image → Q image) → Passes old_fuse new_fuse old new P → Passes old_fuse new_fuse old new Q
passes_only P Q old_fuse new_fuse old new gives passes = record {
  time = passes.time;
  each = λ k from to image left. gives image (passes.each k from to image left);
}

-- What a crash leaves after calls before which the machine hadn't stopped.
pub crashed : (P : Image → Type 0) (old_fuse new_fuse : Fuse) (old new : Timeline) (image : Image)
    → Passes old_fuse new_fuse old new P → (IsOut old_fuse → ⊥)
    → MayLeave (new.state (crash_moment new_fuse new)) image → P image
crashed P old_fuse new_fuse old new image passes lit left = elim (cases_out new_fuse) [
  | inl out ↦
      let within = passes.time.stops lit out in
      passes.each new.stop within.0 within.1 image
      (subst (λ (k : ℕ). MayLeave (new.state k) image) (crash_at_stop new_fuse new out) left)
  | inr still ↦
      passes.each new.latest passes.time.later (omega arith) image
      (subst (λ (k : ℕ). MayLeave (new.state k) image) (crash_now new_fuse new still) left)
]
