-- What a client's calls at one server wait for and ask by, what of a step changes nothing there, and how a mount goes down.
use Rattle.std.proofs.Common.{◌≡◌, ◌≢◌, ◌∙◌, ℕ, ◌<◌, Bool, true, false, List, [], ◌∷◌, Option, Some, None, refl, sym, ap, subst, lit<, arith}
use Rattle.std.specs.Prelude.{if◌then◌else◌, ◌==◌, is_some}
use Rattle.std.specs.List.{AllByRecursion, flat_map}
use Rattle.caller_laws.specs.Good.{Identity}
use Rattle.caller_laws.specs.Lawful.{GoesOn}
use Rattle.caller_laws.specs.Moves.{Falls, GivesUp}
use Rattle.caller_laws.specs.OneStep.Order.{AreLosing}
use Rattle.caller_laws.specs.OneStep.Runs.{MountStep}
use Rattle.caller_laws.specs.View.{Above}
use Rattle.client_copies.specs.Copies.{is_ready, due, is_stable}
use Rattle.client_copies.specs.Table.{Copies, copy_at}
use Rattle.client_copies.specs.Words.{phase_by, phase_of}
use Rattle.client_copies.specs.declared.copy.Asking.{Asking}
use Rattle.client_copies.specs.declared.copy.Asking.TheVariants as asking
use Rattle.client_copies.specs.declared.copy.ClientCopy.{ClientCopy}
use Rattle.client_copies.specs.declared.copy.First.{First}
use Rattle.client_copies.specs.declared.copy.Query.{Query}
use Rattle.client_copies.specs.declared.copy.Query.TheVariants as queries
use Rattle.client_copies.specs.declared.copy.Stage.{Stage}
use Rattle.client_copies.specs.declared.copy.Stage.TheVariants.{Due, Asked, Accepted, Over}
use Rattle.client_copies.specs.declared.copy.Step.{Step}
use Rattle.client_copies.specs.declared.copy.Step.TheVariants as steps
use Rattle.client_copies.specs.declared.told.Said.{Said}
use Rattle.client_copies.specs.declared.told.Said.TheVariants.{Nothing, One, Two}
use Rattle.client_laws.proofs.MountMoves.{IsKept, Ran, mount_in}
use Rattle.client_laws.proofs.MountRuns.{AllFit}
use Rattle.client_laws.proofs.RunKinds.{Silent}
use Rattle.client_laws.specs.CallerLaws.{AllAsk, AsksOf, IsMountRun, above_by, acts_in, is_safe, is_said_stable, knows_first, purpose_for, ready_in, taken_in}
use Rattle.client_laws.specs.Order.{numbers_in}
use Rattle.client_site.specs.Falling.{all_places, given_up_at}
use Rattle.client_site.specs.Sending.{is_down}
use Rattle.client_site.specs.declared.site.OpenFile.{OpenFile}
use Rattle.client_site.specs.declared.site.Site.{Site}
use Rattle.client_steps.specs.Acting as acts
use Rattle.client_steps.specs.Commands as commands
use Rattle.client_steps.specs.CopySteps.{all_copies}
use Rattle.client_steps.specs.Desks.{noted, said_by, with_site}
use Rattle.client_steps.specs.Replies as replies
use Rattle.client_steps.specs.Setting as setting
use Rattle.client_steps.specs.declared.desk.Desk.{Desk}
use Rattle.client_steps.specs.declared.setting.Setting.{Setting}
use Rattle.mount.specs.Falling.{fallen, given_up}
use Rattle.mount.specs.State.{Mounted}
use Rattle.mount.specs.Taking.{Means}
use Rattle.mount.specs.declared.state.TheConstants.{PLACES}
use Rattle.nfs_base.specs.declared.side.Side.{Side}
use Rattle.nfs_base.specs.declared.side.Side.TheVariants.{Source, Dest}
use Rattle.nfs_base.specs.declared.state_id.StateId.{StateId}
use Rattle.outbox.specs.declared.note.Note.{Note}
use Rattle.session_calls.specs.declared.slot_call.SlotCall.{SlotCall}
use Rattle.session_client.specs.declared.setup.Setup.{Setup}
use Rattle.session_client.specs.declared.setup.Setup.TheVariants as setups
use Rattle.wire_model.specs.Wire.{Acts, Purpose}
use Rattle.write_queue.specs.declared.work.Work.TheVariants as works
use Rattle.write_queue.specs.declared.work.Work.{Work}

-- ---- places

abbrev pub ArePlaces : List ℕ → Type 0
ArePlaces js = AllByRecursion (λ j. j < PLACES) js

pub copies_are : ArePlaces all_copies
copies_are =
    (lit< tt, (lit< tt, (lit< tt, (lit< tt, (lit< tt, (lit< tt, (lit< tt, (lit< tt, (lit< tt, (lit< tt, (lit< tt, (lit< tt, (lit< tt, (lit< tt, (lit< tt, tt)))))))))))))))

pub first_place : 0 < PLACES
first_place = lit< tt

-- ---- what the calls in slots wait for has come about

abbrev pub IsReady : Copies → ℕ → Option SlotCall → Type 0
IsReady t j None = Unit {0}
IsReady t j (Some call) = (ready_in t (purpose_for j call) ≡ true) × AsksOf (copy_at j t) call

pub ready_open : (t : Copies) (j : ℕ) (me : List ℕ) (file : ℕ) (o : Option (ℕ × List ℕ)) → IsReady t j (setting.open_by me file o)
ready_open t j me file None = tt
ready_open t j me file (Some up) = (refl, tt)

pub ready_notify : {M : Type 0} (t : Copies) (j : ℕ) (s : Setting M) (o : Option OpenFile) → IsReady t j (setting.notify_of s o)
ready_notify t j s None = tt
ready_notify t j s (Some opened_file) = (refl, tt)

pub ready_copy_with : {M : Type 0} (t : Copies) (j : ℕ) (s : Setting M) (c : ClientCopy) (opened_file : OpenFile) (o : Option First) → copy_at j t ≡ Some c → c.first ≡ o
    → IsReady t j (setting.copy_with s c opened_file o)
ready_copy_with t j s c opened_file None at first = tt
ready_copy_with t j s c opened_file (Some known) at first = (
  ap knows_first at ∙ ap (λ (o : Option First). is_some o) first,
  record { own = c; own_is = at; so = record { first = known; first_is = first; file = refl; grant = refl; range_is = refl } },
)

pub ready_copy : {M : Type 0} (t : Copies) (j : ℕ) (s : Setting M) (c : ClientCopy) (o : Option OpenFile) → copy_at j t ≡ Some c → IsReady t j (setting.copy_of s c o)
ready_copy t j s c None at = tt
ready_copy t j s c (Some opened_file) at = ready_copy_with t j s c opened_file c.first at refl

pub last_is_safe : (st : Stage) → due st ≡ Some steps.Last → is_safe (phase_of st) ≡ true
last_is_safe (Due step) e =
    let same : step ≡ steps.Last = cc in
    ap (λ (x : Step). is_safe (phase_by (is_stable x))) same
last_is_safe (Asked step) e = absurd cc
last_is_safe Accepted e = absurd cc
last_is_safe (Over v) e = absurd cc

pub ready_last : (t : Copies) (j : ℕ) (c : ClientCopy) (o : Option First) → copy_at j t ≡ Some c → c.first ≡ o → due c.stage ≡ Some steps.Last → IsReady t j (setting.last_of o)
ready_last t j c None at first last = tt
ready_last t j c (Some known) at first last = (
  ap is_said_stable at ∙ last_is_safe c.stage last,
  record { own = c; own_is = at; so = record { first = known; first_is = first; file_is = refl } },
)

pub ready_query : (t : Copies) (j : ℕ) (query : Query) (c : ClientCopy) (id : Option StateId) (o : Option OpenFile) → copy_at j t ≡ Some c → c.id ≡ id
    → IsReady t j (commands.query_with query id o)
ready_query t j queries.Status c (Some id) (Some opened_file) at is = (refl, record { own = c; own_is = at; so = is })
ready_query t j queries.Cancel c (Some id) (Some opened_file) at is = (refl, record { own = c; own_is = at; so = is })
ready_query t j queries.Status c (Some id) None at is = tt
ready_query t j queries.Cancel c (Some id) None at is = tt
ready_query t j queries.Status c None o at is = tt
ready_query t j queries.Cancel c None o at is = tt

pub ready_write : (t : Copies) (j : ℕ) (b : Bool) (opened_file : OpenFile) (offset : ℕ) (bytes : List ℕ) → IsReady t j (acts.write_call b opened_file offset bytes)
ready_write t j true opened_file offset bytes = (refl, tt)
ready_write t j false opened_file offset bytes = tt

pub ready_work : (t : Copies) (j : ℕ) (opened_file : OpenFile) (work : Work) → IsReady t j (acts.work_call opened_file work)
ready_work t j opened_file (works.Write file offset bytes) = ready_write t j _ opened_file offset bytes
ready_work t j opened_file (works.Commit file) = (refl, tt)

pub never : {A : Type 0} → false ≡ true → A
never e = absurd cc

pub ready_is : (k : Asking) → is_ready k ≡ true → k ≡ asking.Ready
ready_is asking.Ready e = refl
ready_is asking.Busy e = absurd cc
ready_is asking.Idle e = absurd cc

-- the other slots stay for what they are
pub other_slot : (j place : ℕ) (x y : Purpose) → j ≢ place → (if j == place then x else y) ≡ y
other_slot j place x y other = by (j == place) refl
  where
    by : (b : Bool) → (j == place) ≡ b → (if b then x else y) ≡ y
    by true e =
        let same : j ≡ place = grind (arith, e) in
        absurd (other same)
    by false e = refl

-- ---- what changes nothing at a server

pub kept_noted : (side : Side) (note : Note) (d : Desk) → IsKept side d (noted note d)
kept_noted Source note d = record { mount = refl; calls = refl; sent = refl; accepted = refl }
kept_noted Dest note d = record { mount = refl; calls = refl; sent = refl; accepted = refl }

pub kept_said : (side : Side) (j : ℕ) (said : Said) (t : Copies) (d : Desk) → IsKept side d (said_by j said (record d { copies = t }))
kept_said Source j Nothing t d = record { mount = refl; calls = refl; sent = refl; accepted = refl }
kept_said Source j (One word) t d = record { mount = refl; calls = refl; sent = refl; accepted = refl }
kept_said Source j (Two first second) t d = record { mount = refl; calls = refl; sent = refl; accepted = refl }
kept_said Dest j Nothing t d = record { mount = refl; calls = refl; sent = refl; accepted = refl }
kept_said Dest j (One word) t d = record { mount = refl; calls = refl; sent = refl; accepted = refl }
kept_said Dest j (Two first second) t d = record { mount = refl; calls = refl; sent = refl; accepted = refl }

pub kept_back : (side : Side) (o : Option ℕ) (d : Desk) → IsKept side d (acts.back_ended o d)
kept_back Source None d = record { mount = refl; calls = refl; sent = refl; accepted = refl }
kept_back Source (Some number) d = record { mount = refl; calls = refl; sent = refl; accepted = refl }
kept_back Dest None d = record { mount = refl; calls = refl; sent = refl; accepted = refl }
kept_back Dest (Some number) d = record { mount = refl; calls = refl; sent = refl; accepted = refl }

pub kept_there : (side there : Side) (s : Site) (d : Desk) → s.mount ≡ mount_in there d → IsKept side d (with_site there s d)
kept_there Source Source s d same = record { mount = same; calls = refl; sent = refl; accepted = refl }
kept_there Source Dest s d same = record { mount = refl; calls = refl; sent = refl; accepted = refl }
kept_there Dest Source s d same = record { mount = refl; calls = refl; sent = refl; accepted = refl }
kept_there Dest Dest s d same = record { mount = same; calls = refl; sent = refl; accepted = refl }

pub back_copies : (o : Option ℕ) (d : Desk) → (acts.back_ended o d).copies ≡ d.copies
back_copies None d = refl
back_copies (Some number) d = refl

pub there_copies : (there : Side) (s : Site) (d : Desk) → (with_site there s d).copies ≡ d.copies
there_copies Source s d = refl
there_copies Dest s d = refl

pub made_copies : (there : Side) (free : Option ℕ) (root : Option (List ℕ × List ℕ)) (d : Desk) → (replies.back_made free root there d).copies ≡ d.copies
made_copies there None root d = refl
made_copies there (Some number) None d = refl
made_copies Source (Some number) (Some root) d = refl
made_copies Dest (Some number) (Some root) d = refl

pub kept_made : (side there : Side) (free : Option ℕ) (root : Option (List ℕ × List ℕ)) (d : Desk) → IsKept side d (replies.back_made free root there d)
kept_made Source there None root d = record { mount = refl; calls = refl; sent = refl; accepted = refl }
kept_made Dest there None root d = record { mount = refl; calls = refl; sent = refl; accepted = refl }
kept_made Source there (Some number) None d = record { mount = refl; calls = refl; sent = refl; accepted = refl }
kept_made Dest there (Some number) None d = record { mount = refl; calls = refl; sent = refl; accepted = refl }
kept_made Source Source (Some number) (Some root) d = record { mount = refl; calls = refl; sent = refl; accepted = refl }
kept_made Source Dest (Some number) (Some root) d = record { mount = refl; calls = refl; sent = refl; accepted = refl }
kept_made Dest Source (Some number) (Some root) d = record { mount = refl; calls = refl; sent = refl; accepted = refl }
kept_made Dest Dest (Some number) (Some root) d = record { mount = refl; calls = refl; sent = refl; accepted = refl }

pub down_is : (s : Setup) → is_down s ≡ true → s ≡ setups.Down
down_is setups.Down e = refl
down_is (setups.Rooted verifier) e = absurd cc
down_is (setups.Registered client sequence) e = absurd cc
down_is (setups.Joined client session) e = absurd cc
down_is (setups.Up client session) e = absurd cc

-- ---- a mount goes down: what is awaited is given up, place by place, and it falls

abbrev pub falling : Above → List ℕ → List MountStep
falling a [] = (record { move = Falls; above = a }) ∷ []
falling a (place ∷ places) = (record { move = GivesUp place; above = a }) ∷ falling a places

pub itself : (m : Mounted) (a : Above) → GoesOn m a a
itself m a = record { boot = refl; calls = omega arith; purpose = λ place awaiting there. refl }

pub falls_run : (who : Identity) (means : Means) (a : Above) (places : List ℕ) (m : Mounted) → IsMountRun who means (falling a places) a m a (fallen (given_up_at places m))
falls_run who means a [] m = (itself m a, refl, λ spelled. tt, (refl, refl))
falls_run who means a (place ∷ places) m = (itself m a, refl, λ spelled. tt, falls_run who means a places (given_up place m))

pub shows_nothing : (means : Means) (a : Above) (places : List ℕ) (m : Mounted) → flat_map (λ (x : Acts). x.out) (acts_in means (falling a places) m) ≡ []
shows_nothing means a [] m = refl
shows_nothing means a (place ∷ places) m = shows_nothing means a places (given_up place m)

pub takes_nothing : (means : Means) (a : Above) (places : List ℕ) (m : Mounted) → flat_map taken_in (acts_in means (falling a places) m) ≡ []
takes_nothing means a [] m = refl
takes_nothing means a (place ∷ places) m = takes_nothing means a places (given_up place m)

pub falls_lose : (a : Above) (places : List ℕ) → AreLosing (falling a places)
falls_lose a [] = (refl, tt)
falls_lose a (place ∷ places) = (refl, falls_lose a places)

pub falls_uncounted : (means : Means) (a : Above) (places : List ℕ) (m : Mounted) → numbers_in means (falling a places) m ≡ []
falls_uncounted means a [] m = refl
falls_uncounted means a (place ∷ places) m = falls_uncounted means a places (given_up place m)

pub falls_ask : (t : Copies) (a : Above) (places : List ℕ) → AllAsk t (falling a places)
falls_ask t a [] = (tt, tt)
falls_ask t a (place ∷ places) = (tt, falls_ask t a places)

pub falls_fit : (means : Means) (a : Above) (places : List ℕ) (m : Mounted) → AllFit means (falling a places) m
falls_fit means a [] m = (tt, tt)
falls_fit means a (place ∷ places) m = (tt, falls_fit means a places (given_up place m))

abbrev pub falls_here : (sure : Type 0) (who : Identity) (means : Means) (boot : ℕ) (purpose : ℕ → Purpose) (m : Mounted) (d e : Desk) (side : Side)
    → mount_in side d ≡ m → mount_in side e ≡ fallen (given_up_at all_places m) → e.calls ≡ d.calls → e.copies ≡ d.copies → Ran sure who means boot Silent side purpose [] [] d e
falls_here sure who means boot purpose m d e side before behind calls copies =
    let a = above_by boot d.calls purpose d.copies in
    record {
      after = purpose;
      steps = falling a all_places;
      run =
          subst (λ (x : Mounted). IsMountRun who means (falling a all_places) a x (above_by boot e.calls purpose e.copies) (mount_in side e)) (sym before)
          (subst (λ (x : Mounted). IsMountRun who means (falling a all_places) a m (above_by boot e.calls purpose e.copies) x) (sym behind)
          (subst (λ (x : Above). IsMountRun who means (falling a all_places) a m x (fallen (given_up_at all_places m)))
          (ap (λ (t : Copies). above_by boot d.calls purpose t) (sym copies) ∙ ap (λ (n : ℕ). above_by boot n purpose e.copies) (sym calls))
          (falls_run who means a all_places m)));
      outs = shows_nothing means a all_places (mount_in side d);
      takes = takes_nothing means a all_places (mount_in side d);
      asks = λ t stays. falls_ask t a all_places;
      order = falls_lose a all_places;
      numbers = falls_uncounted means a all_places (mount_in side d);
      fit = λ known. falls_fit means a all_places (mount_in side d);
    }
