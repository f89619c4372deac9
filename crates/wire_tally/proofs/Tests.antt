-- A choice by a test, case by case.
use Rattle.std.proofs.Common.{◌≡◌, Bool, true, false, cond, refl}

pub by_test : {A : Type 0} (P : A → Type 0) (b : Bool) (x y : A) → (b ≡ true → P x) → (b ≡ false → P y) → P (cond b x y)
by_test P true x y then_holds else_holds = then_holds refl
by_test P false x y then_holds else_holds = else_holds refl

-- the same choice before and after a function
pub through_test : {A B : Type 0} (f : A → B) (b : Bool) (x y : B) (u v : A) → x ≡ f u → y ≡ f v → cond b x y ≡ f (cond b u v)
through_test f true x y u v then_is else_is = then_is
through_test f false x y u v then_is else_is = else_is
