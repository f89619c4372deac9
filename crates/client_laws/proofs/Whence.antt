-- Whence what a client knows and says of a copy.
use Rattle.std.proofs.Common.{◌≡◌, ◌∙◌, ℕ, Bool, true, false, List, [], ◌∷◌, ◌++◌, Option, Some, None, refl, sym, ap, inl, inr, ◌⊎◌, arith}
use Rattle.std.specs.Prelude.{◌==◌, ◌||◌}
use Rattle.std.specs.List.{AllByRecursion, list_any}
use Rattle.call_results.specs.Results as results
use Rattle.call_results.specs.declared.copies.Granted.{Granted}
use Rattle.call_results.specs.declared.files.Opened.{Opened}
use Rattle.client_copies.specs.Steps.{after}
use Rattle.client_copies.specs.Words.{ran, told, told_by_run}
use Rattle.client_copies.specs.declared.copy.ClientCopy.{ClientCopy}
use Rattle.client_copies.specs.declared.copy.Query.{Query}
use Rattle.client_copies.specs.declared.copy.Query.TheVariants as queries
use Rattle.client_copies.specs.declared.copy.Session.{Session}
use Rattle.client_copies.specs.declared.copy.Stage.{Stage}
use Rattle.client_copies.specs.declared.copy.Stage.TheVariants as stages
use Rattle.client_copies.specs.declared.copy.Step.{Step}
use Rattle.client_copies.specs.declared.copy.Step.TheVariants as steps
use Rattle.client_copies.specs.declared.event.Event.{Event}
use Rattle.client_copies.specs.declared.told.Word.{Word}
use Rattle.client_site.specs.Sites.{session_at}
use Rattle.client_site.specs.declared.site.OpenFile.{OpenFile}
use Rattle.client_steps.specs.Answers.{accepted_by, copy_answered, copy_by, copy_deed, copy_opened, copy_told, denied_by, granted_by, is_ok, last_told, progressed, query_of, query_told, refuse_call, stage_creates, stage_told, step_told}
use Rattle.client_steps.specs.CopySteps.{file_on}
use Rattle.client_steps.specs.declared.desk.Desk.{Desk}
use Rattle.client_copies.specs.declared.refusal.Refusal.{Refusal}
use Rattle.copy_ops.specs.declared.results.OffloadProgress.{OffloadProgress}
use Rattle.mount.specs.Taking.{is_lost}
use Rattle.mount.specs.declared.taking.Told.{Told}
use Rattle.mount.specs.declared.taking.Told.TheVariants as tells
use Rattle.nfs_base.specs.declared.side.Side.{Side}
use Rattle.nfs_base.specs.declared.side.Side.TheVariants.{Source, Dest}
use Rattle.nfs_base.specs.declared.state_id.StateId.{StateId}
use Rattle.nfs_compound.specs.declared.reply.Reply.{Reply}
use Rattle.client_laws.specs.Changes.{Changes, told_by}
use Rattle.client_laws.specs.WordLaws.{ComesOf, Grants, Accepts, Tells, Progresses, Plain, Happened, IsReplyTo}

-- ---- what an answer comes to

zero_is : (n : ℕ) → (n == 0) ≡ true → n ≡ 0
zero_is n e = grind arith

granted_of : {told : Told} {side : Side} {o : Option ClientCopy} {sent_at : ℕ} {d : Desk} (to : IsReplyTo steps.Notify told o) (g : Option Granted) (s : Option Session) (f : Option OpenFile)
    → results.grant_in to.reply.results ≡ g → session_at d.source ≡ s → file_on Source to.asking.spec.src_file d ≡ f
    → ComesOf told side o sent_at d (granted_by g s f)
granted_of to (Some g) (Some s) (Some f) x y z =
    Grants _ (record { to = to; granted = g; says = x; change = refl; grant = refl; session = y; opened_file = f; opened = z; file = refl })
granted_of to (Some g) (Some s) None x y z = Plain _ tt
granted_of to (Some g) None f x y z = Plain _ tt
granted_of to None s f x y z = Plain _ tt

accepted_of : {told : Told} {side : Side} {o : Option ClientCopy} {sent_at : ℕ} {d : Desk} (to : IsReplyTo steps.Copy told o) (id : Option StateId)
    → results.at 4 results.told_accepted to.reply.results ≡ id → ComesOf told side o sent_at d (accepted_by id)
accepted_of to None x = Plain _ tt
accepted_of to (Some id) x = Accepts id (record { to = to; says = x })

last_of : {told : Told} {side : Side} {o : Option ClientCopy} {sent_at : ℕ} {d : Desk} (to : IsReplyTo steps.Last told o) (change : Option ℕ) (s : Option Session)
    → results.at 2 results.told_change to.reply.results ≡ change → session_at d.source ≡ s → ComesOf told side o sent_at d (last_told change s)
last_of to (Some change) (Some s) x y = Tells change s (record { to = to; says = x; session_is = y })
last_of to (Some change) None x y = Plain _ tt
last_of to None s x y = Plain _ tt

opened_of : {told : Told} {o : Option ClientCopy} {sent_at : ℕ} {d : Desk} (side : Side) (c : ClientCopy) (opened : Option Opened) → ComesOf told side o sent_at d (copy_opened side c opened)
opened_of side c None = Plain _ tt
opened_of side c (Some opened) = Plain _ tt

step_of : {told : Told} {sent_at : ℕ} (step : Step) (side : Side) (c : ClientCopy) (reply : Reply) (d : Desk) → told ≡ tells.Answer reply → is_ok reply.status ≡ true
    → c.stage ≡ stages.Asked step → ComesOf told side (Some c) sent_at d (step_told step side c reply.results d)
step_of steps.OpenSource side c reply d is ok at = opened_of side c _
step_of steps.OpenDest side c reply d is ok at = opened_of side c _
step_of steps.OpenAgain side c reply d is ok at = opened_of side c _
step_of steps.Notify side c reply d is ok at =
    granted_of (record { asking = c; asking_is = refl; asked = at; reply = reply; told_is = is; ok = zero_is reply.status.number ok }) _ _ _ refl refl refl
step_of steps.Copy side c reply d is ok at =
    accepted_of (record { asking = c; asking_is = refl; asked = at; reply = reply; told_is = is; ok = zero_is reply.status.number ok }) _ refl
step_of steps.Last side c reply d is ok at =
    last_of (record { asking = c; asking_is = refl; asked = at; reply = reply; told_is = is; ok = zero_is reply.status.number ok }) _ _ refl refl
step_of steps.AllowSource side c reply d is ok at = Plain _ tt
step_of steps.AllowDest side c reply d is ok at = Plain _ tt

stage_of : {told : Told} {sent_at : ℕ} (stage : Stage) (side : Side) (c : ClientCopy) (reply : Reply) (d : Desk) → told ≡ tells.Answer reply → is_ok reply.status ≡ true
    → c.stage ≡ stage → ComesOf told side (Some c) sent_at d (stage_told stage side c reply.results d)
stage_of (stages.Asked step) side c reply d is ok at = step_of step side c reply d is ok at
stage_of (stages.Due step) side c reply d is ok at = Plain _ tt
stage_of stages.Accepted side c reply d is ok at = Plain _ tt
stage_of (stages.Over verdict) side c reply d is ok at = Plain _ tt

progress_of : {told : Told} {sent_at : ℕ} {d : Desk} (c : ClientCopy) (reply : Reply) (p : Option OffloadProgress) → told ≡ tells.Answer reply → is_ok reply.status ≡ true
    → c.query ≡ Some queries.Status → results.at 2 results.told_progress reply.results ≡ p → ComesOf told Dest (Some c) sent_at d (progressed p sent_at)
progress_of c reply None is ok query x = Plain _ tt
progress_of c reply (Some p) is ok query x =
    Progresses p
    (record { at_dest = refl; asking = c; asking_is = refl; asked = query; reply = reply; told_is = is; ok = zero_is reply.status.number ok; says = x })

query_told_of : {told : Told} {sent_at : ℕ} {d : Desk} (query : Query) (c : ClientCopy) (reply : Reply) → told ≡ tells.Answer reply → is_ok reply.status ≡ true
    → c.query ≡ Some query → ComesOf told Dest (Some c) sent_at d (query_told query reply.results sent_at)
query_told_of queries.Status c reply is ok asked = progress_of c reply _ is ok asked refl
query_told_of queries.Cancel c reply is ok asked = Plain _ tt

dest_told : {told : Told} {sent_at : ℕ} (query : Option Query) (c : ClientCopy) (reply : Reply) (d : Desk) → told ≡ tells.Answer reply → is_ok reply.status ≡ true
    → c.query ≡ query → ComesOf told Dest (Some c) sent_at d (copy_told query Dest c reply.results sent_at d)
dest_told None c reply d is ok asked = stage_of c.stage Dest c reply d is ok refl
dest_told (Some query) c reply d is ok asked = query_told_of query c reply is ok asked

told_of : {told : Told} {sent_at : ℕ} (side : Side) (c : ClientCopy) (reply : Reply) (d : Desk) → told ≡ tells.Answer reply → is_ok reply.status ≡ true
    → ComesOf told side (Some c) sent_at d (copy_told (query_of side c) side c reply.results sent_at d)
told_of Source c reply d is ok = stage_of c.stage Source c reply d is ok refl
told_of Dest c reply d is ok = dest_told c.query c reply d is ok refl

refused_of : {told : Told} {side : Side} {o : Option ClientCopy} {sent_at : ℕ} {d : Desk} (query : Option Query) (why : Refusal) → ComesOf told side o sent_at d (refuse_call query why)
refused_of None why = Plain _ tt
refused_of (Some query) why = Plain _ tt

denied_of : {told : Told} {side : Side} {o : Option ClientCopy} {sent_at : ℕ} {d : Desk} (creates : Bool) (query : Option Query) → ComesOf told side o sent_at d (denied_by creates query)
denied_of true query = refused_of query _
denied_of false query = Plain _ tt

answered_of : {told : Told} {sent_at : ℕ} (lost ok : Bool) (side : Side) (c : ClientCopy) (reply : Reply) (d : Desk) → told ≡ tells.Answer reply → is_ok reply.status ≡ ok
    → ComesOf told side (Some c) sent_at d (copy_answered lost ok side c reply sent_at d)
answered_of true ok side c reply d is e = Plain _ tt
answered_of false false side c reply d is e = refused_of (query_of side c) _
answered_of false true side c reply d is e = told_of side c reply d is e

copy_of : (told : Told) (side : Side) (c : ClientCopy) (sent_at : ℕ) (d : Desk) → ComesOf told side (Some c) sent_at d (copy_by told side c sent_at d)
copy_of (tells.Answer reply) side c sent_at d = answered_of (is_lost reply.status) (is_ok reply.status) side c reply d refl refl
copy_of (tells.Child child) side c sent_at d = Plain _ tt
copy_of (tells.Refused major) side c sent_at d = refused_of (query_of side c) _
copy_of tells.Misspelt side c sent_at d = refused_of (query_of side c) _
copy_of (tells.Failed stat) side c sent_at d = refused_of (query_of side c) _
copy_of (tells.Denied why) side c sent_at d = denied_of (stage_creates side c.stage) (query_of side c)
copy_of tells.Unmatched side c sent_at d = Plain _ tt
copy_of tells.Rooted side c sent_at d = Plain _ tt
copy_of tells.Stepped side c sent_at d = Plain _ tt
copy_of (tells.Stopped status) side c sent_at d = Plain _ tt

pub deed_comes : (told : Told) (side : Side) (o : Option ClientCopy) (sent_at : ℕ) (d : Desk) → ComesOf told side o sent_at d (copy_deed told side o sent_at d)
deed_comes told side None sent_at d = Plain _ tt
deed_comes told side (Some c) sent_at d = copy_of told side c sent_at d

-- ---- what is said in a run of events is said at one of them

or_split : (a b : Bool) → (a || b) ≡ true → (a ≡ true) ⊎ (b ≡ true)
or_split true b e = inl refl
or_split false b e = inr e

or_first : (a b : Bool) → a ≡ true → (a || b) ≡ true
or_first true b e = refl
or_first false b e = absurd cc

or_second : (a b : Bool) → b ≡ true → (a || b) ≡ true
or_second true b e = refl
or_second false b e = e

any_split : {X : Type 0} (test : X → Bool) (xs ys : List X) → list_any test (xs ++ ys) ≡ true → (list_any test xs ≡ true) ⊎ (list_any test ys ≡ true)
any_split test [] ys e = inr e
any_split test (x ∷ xs) ys e =
    elim (or_split (test x) (list_any test (xs ++ ys)) e) [
      | inl here ↦ inl (or_first (test x) (list_any test xs) here)
      | inr there ↦
          elim (any_split test xs ys there) [
            | inl left ↦ inl (or_second (test x) (list_any test xs) left)
            | inr right ↦ inr right
          ]
    ]

record IsSaidIn (cause : Event → Type 0) (is : Event → ClientCopy → Type 0) (c : ClientCopy) : Type 0 where
  before : List Event
  event : Event
  caused : cause event
  so : is event (ran before c)

said_in : (test : Word → Bool) (cause : Event → Type 0) (is : Event → ClientCopy → Type 0)
    → ((event : Event) (c : ClientCopy) → list_any test (told (after event c).0) ≡ true → is event c)
    → (es : List Event) (c : ClientCopy) → AllByRecursion cause es → list_any test (told_by_run es c) ≡ true → IsSaidIn cause is c
said_in test cause is law [] c caused e = absurd cc
said_in test cause is law (event ∷ es) c caused e =
    elim (any_split test (told (after event c).0) (told_by_run es (after event c).1) e) [
      | inl here ↦ record { before = []; event = event; caused = caused.0; so = law event c here }
      | inr there ↦
          let more = said_in test cause is law es (after event c).1 caused.1 there in
          record { before = event ∷ more.before; event = more.event; caused = more.caused; so = more.so }
    ]

said_of_some : (test : Word → Bool) (cause : Event → Type 0) (is : Event → ClientCopy → Type 0)
    → ((event : Event) (c : ClientCopy) → list_any test (told (after event c).0) ≡ true → is event c)
    → (es : List Event) (o : Option ClientCopy) → AllByRecursion cause es → list_any test (told_by es o) ≡ true → Happened cause is o
said_of_some test cause is law es None caused e = absurd cc
said_of_some test cause is law es (Some c) caused e =
    let said = said_in test cause is law es c caused e in
    record { first = c; first_is = refl; before = said.before; event = said.event; caused = said.caused; so = said.so }

pub said_happened : (test : Word → Bool) (cause : Event → Type 0) (is : Event → ClientCopy → Type 0)
    → ((event : Event) (c : ClientCopy) → list_any test (told (after event c).0) ≡ true → is event c)
    → (a b : Option ClientCopy) (ws : List Word) → Changes cause a b ws → list_any test ws ≡ true → Happened cause is a
said_happened test cause is law a b ws f e =
    said_of_some test cause is law f.events a f.caused (ap (list_any test) (sym f.words) ∙ e)
