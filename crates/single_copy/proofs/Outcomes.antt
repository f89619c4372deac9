-- What holds of a call's answer, by what holds of a callee's.
use Rattle.std.specs.Prelude.{IfNone, IfOk, IfSome, OnErr, Option, Some, None, Result, Ok, Err}

pub ok_join : {T E : Type 0} (r : Result T E) (P Q S : T → Type 0) → IfOk r P → IfOk r Q → ((v : T) → P v → Q v → S v) → IfOk r S
ok_join (Ok v) P Q S p q f = f v p q
ok_join (Err e) P Q S p q f = tt

pub some_join : {T E : Type 0} (r : Result (Option T) E) (P Q S : T → Type 0) → IfOk r (λ o. IfSome o P) → IfOk r (λ o. IfSome o Q)
    → ((v : T) → P v → Q v → S v) → IfOk r (λ o. IfSome o S)
some_join (Ok (Some v)) P Q S p q f = f v p q
some_join (Ok None) P Q S p q f = tt
some_join (Err e) P Q S p q f = tt

pub none_weaker : {T E : Type 0} (r : Result (Option T) E) (P Q : Type 0) → IfOk r (λ o. IfNone o P) → (P → Q) → IfOk r (λ o. IfNone o Q)
none_weaker (Ok (Some v)) P Q p f = tt
none_weaker (Ok None) P Q p f = f p
none_weaker (Err e) P Q p f = tt

pub err_weaker : {T E : Type 0} (r : Result T E) (P Q : Type 0) → OnErr r P → (P → Q) → OnErr r Q
err_weaker (Ok v) P Q p f = tt
err_weaker (Err e) P Q p f = f p

pub on_err : {T E : Type 0} (r : Result T E) (P : Type 0) → P → OnErr r P
on_err (Ok v) P p = tt
on_err (Err e) P p = p
