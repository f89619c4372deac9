-- What is done to the desk alone.
use Rattle.std.proofs.Common.{◌≡◌, ap, Result, IfOk}
use Rattle.std.proofs.lemmas.Result.{IfOk-weaker}
use Rattle.client_steps.specs.Acting.{Acting, with_desk}
use Rattle.client_steps.specs.declared.desk.Desk.{Desk}

pub desk_after : {T E : Type 0} (r : Result T E) (a : Acting) (d to : Desk) → IfOk r (λ _. d ≡ to) → IfOk r (λ _. with_desk d a ≡ with_desk to a)
desk_after r a d to h = IfOk-weaker r (λ _. d ≡ to) (λ _. with_desk d a ≡ with_desk to a) (λ _ e. ap (λ (x : Desk). with_desk x a) e) h
