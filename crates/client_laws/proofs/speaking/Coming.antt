-- What an answer to a copy's call may come to: for a step's call what that step awaits, for a query what it asked; never a report.
use Rattle.std.proofs.Common.{◌≡◌, ◌∙◌, ℕ, Bool, true, false, List, Option, Some, None, refl, sym, ap, subst}
use Rattle.std.specs.Prelude.{◌==◌, ◌&&◌, ◌||◌}
use Rattle.call_results.specs.declared.copies.Granted.{Granted}
use Rattle.call_results.specs.declared.files.Opened.{Opened}
use Rattle.client_copies.specs.declared.copy.ClientCopy.{ClientCopy}
use Rattle.client_copies.specs.declared.copy.Query.{Query}
use Rattle.client_copies.specs.declared.copy.Query.TheVariants as queries
use Rattle.client_copies.specs.declared.copy.Session.{Session}
use Rattle.client_copies.specs.declared.copy.Stage.{Stage}
use Rattle.client_copies.specs.declared.copy.Stage.TheVariants as stages
use Rattle.client_copies.specs.declared.copy.Step.{Step}
use Rattle.client_copies.specs.declared.copy.Step.TheVariants as steps
use Rattle.client_copies.specs.declared.event.Event.TheVariants as events
use Rattle.client_copies.specs.declared.refusal.Refusal.{Refusal}
use Rattle.client_laws.proofs.speaking.Mounts.{some_is}
use Rattle.client_site.specs.declared.site.OpenFile.{OpenFile}
use Rattle.client_steps.specs.Answers.{accepted_by, copy_answered, copy_by, copy_opened, copy_told, denied_by, granted_by, last_told, progressed, query_of, query_told, refuse_call, stage_told, step_told}
use Rattle.client_steps.specs.declared.deeds.Deed.{Deed}
use Rattle.client_steps.specs.declared.deeds.Deed.TheVariants as deeds
use Rattle.client_steps.specs.declared.desk.Desk.{Desk}
use Rattle.copy_ops.specs.declared.results.OffloadProgress.{OffloadProgress}
use Rattle.mount.specs.State.{Mounted, awaited_at, context_of, emptied, is_present, pending_at, pending_in}
use Rattle.mount.specs.Taking.{Means, after_call, by_awaiting, by_context, by_pending, fallen_if, is_lost, taken_at}
use Rattle.mount.specs.declared.state.Aim.TheVariants as aims
use Rattle.mount.specs.declared.state.Awaiting.{Awaiting}
use Rattle.mount.specs.declared.state.Context.{Context}
use Rattle.mount.specs.declared.state.Pending.{Pending}
use Rattle.mount.specs.declared.state.Pending.TheVariants.{Under}
use Rattle.mount.specs.declared.taking.Told.TheVariants as tells
use Rattle.mount.specs.declared.taking.Told.{Told}
use Rattle.nfs_base.specs.declared.seal.Seal.{Seal}
use Rattle.nfs_base.specs.declared.side.Side.{Side}
use Rattle.nfs_base.specs.declared.state_id.StateId.{StateId}
use Rattle.nfs_base.specs.declared.status.TheConstants.Status.{BADSESSION, STALE_CLIENTID}
use Rattle.nfs_compound.specs.declared.reply.Reply.{Reply}
use Rattle.nfs_compound.specs.declared.res.Res.{Res}
use Rattle.session_client.specs.Answers.{taken_of}
use Rattle.session_client.specs.Asked.{ops_of}
use Rattle.session_client.specs.Pending.{Asking}
use Rattle.session_client.specs.declared.answers.Taken.{Taken}
use Rattle.session_client.specs.declared.answers.Taken.TheVariants as answers

abbrev pub OfStep : Deed → Type 0
OfStep (deeds.Copy (events.Refused why)) = Unit {0}
OfStep (deeds.Copy (events.Granted known)) = Unit {0}
OfStep (deeds.Copy (events.Told change session)) = Unit {0}
OfStep (deeds.Copy events.Allowed) = Unit {0}
OfStep (deeds.Copy event) = ⊥
OfStep _ = Unit {0}

abbrev pub OfQuery : Deed → Type 0
OfQuery (deeds.Copy (events.QueryRefused why)) = Unit {0}
OfQuery (deeds.Copy (events.Progressed count complete sent_at)) = Unit {0}
OfQuery (deeds.Copy events.Cancelled) = Unit {0}
OfQuery (deeds.Copy events.Allowed) = Unit {0}
OfQuery (deeds.Copy event) = ⊥
OfQuery (deeds.Starts id) = ⊥
OfQuery _ = Unit {0}

abbrev pub By : Option Query → Deed → Type 0
By None deed = OfStep deed
By (Some query) deed = OfQuery deed

by_refuse : (o : Option Query) (why : Refusal) → By o (refuse_call o why)
by_refuse None why = tt
by_refuse (Some query) why = tt

by_denied : (creates : Bool) (o : Option Query) → By o (denied_by creates o)
by_denied true o = by_refuse o _
by_denied false None = tt
by_denied false (Some query) = tt

by_allowed : (o : Option Query) → By o (deeds.Copy events.Allowed)
by_allowed None = tt
by_allowed (Some query) = tt

by_falls : (o : Option Query) (deed : Deed) → OfStep deed → OfQuery deed → By o deed
by_falls None deed a b = a
by_falls (Some query) deed a b = b

step_grant : (g : Option Granted) (s : Option Session) (f : Option OpenFile) → OfStep (granted_by g s f)
step_grant (Some g) (Some s) (Some f) = tt
step_grant (Some g) (Some s) None = tt
step_grant (Some g) None f = tt
step_grant None s f = tt

step_name : (o : Option StateId) → OfStep (accepted_by o)
step_name None = tt
step_name (Some id) = tt

step_last : (change : Option ℕ) (s : Option Session) → OfStep (last_told change s)
step_last (Some change) (Some s) = tt
step_last (Some change) None = tt
step_last None s = tt

step_open : (side : Side) (c : ClientCopy) (o : Option Opened) → OfStep (copy_opened side c o)
step_open side c None = tt
step_open side c (Some opened) = tt

of_step : (step : Step) (side : Side) (c : ClientCopy) (rs : List Res) (d : Desk) → OfStep (step_told step side c rs d)
of_step steps.OpenSource side c rs d = step_open side c _
of_step steps.OpenDest side c rs d = step_open side c _
of_step steps.OpenAgain side c rs d = step_open side c _
of_step steps.Notify side c rs d = step_grant _ _ _
of_step steps.Copy side c rs d = step_name _
of_step steps.Last side c rs d = step_last _ _
of_step steps.AllowSource side c rs d = tt
of_step steps.AllowDest side c rs d = tt

of_stage : (st : Stage) (side : Side) (c : ClientCopy) (rs : List Res) (d : Desk) → OfStep (stage_told st side c rs d)
of_stage (stages.Asked step) side c rs d = of_step step side c rs d
of_stage (stages.Due step) side c rs d = tt
of_stage stages.Accepted side c rs d = tt
of_stage (stages.Over v) side c rs d = tt

of_progress : (p : Option OffloadProgress) (sent_at : ℕ) → OfQuery (progressed p sent_at)
of_progress None sent_at = tt
of_progress (Some p) sent_at = tt

of_query : (query : Query) (rs : List Res) (sent_at : ℕ) → OfQuery (query_told query rs sent_at)
of_query queries.Status rs sent_at = of_progress _ sent_at
of_query queries.Cancel rs sent_at = tt

by_told : (o : Option Query) (side : Side) (c : ClientCopy) (rs : List Res) (sent_at : ℕ) (d : Desk) → By o (copy_told o side c rs sent_at d)
by_told None side c rs sent_at d = of_stage c.stage side c rs d
by_told (Some query) side c rs sent_at d = of_query query rs sent_at

by_answered : (lost ok : Bool) (side : Side) (c : ClientCopy) (reply : Reply) (sent_at : ℕ) (d : Desk) → By (query_of side c) (copy_answered lost ok side c reply sent_at d)
by_answered true ok side c reply sent_at d = by_falls (query_of side c) _ tt tt
by_answered false false side c reply sent_at d = by_refuse (query_of side c) _
by_answered false true side c reply sent_at d = by_told (query_of side c) side c reply.results sent_at d

pub comes_by : (told : Told) (side : Side) (c : ClientCopy) (sent_at : ℕ) (d : Desk) → By (query_of side c) (copy_by told side c sent_at d)
comes_by (tells.Answer reply) side c sent_at d = by_answered _ _ side c reply sent_at d
comes_by (tells.Child child) side c sent_at d = by_allowed (query_of side c)
comes_by (tells.Refused major) side c sent_at d = by_refuse (query_of side c) _
comes_by tells.Misspelt side c sent_at d = by_refuse (query_of side c) _
comes_by (tells.Failed stat) side c sent_at d = by_refuse (query_of side c) _
comes_by (tells.Denied why) side c sent_at d = by_denied _ (query_of side c)
comes_by tells.Unmatched side c sent_at d = by_falls (query_of side c) _ tt tt
comes_by tells.Rooted side c sent_at d = by_falls (query_of side c) _ tt tt
comes_by tells.Stepped side c sent_at d = by_falls (query_of side c) _ tt tt
comes_by (tells.Stopped status) side c sent_at d = by_falls (query_of side c) _ tt tt

-- ---- an answer to a call in a slot, with a status that loses nothing, leaves the mount but for its place

pub not_lost : (reply : Reply) → reply.status.number ≡ 0 → is_lost reply.status ≡ false
not_lost reply ok = ap (λ (n : ℕ). (n == BADSESSION.number) || (n == STALE_CLIENTID.number)) ok

stays_if : (present lost : Bool) (m : Mounted) → lost ≡ false → fallen_if (present && lost) m ≡ m
stays_if true true m e = absurd cc
stays_if true false m e = refl
stays_if false lost m e = refl

module _ (means : Means) (place : ℕ) (message : List ℕ) (m : Mounted) (reply : Reply) (kept : is_lost reply.status ≡ false) where
  call_told : (present : Bool) (seal : Seal) (taken : Taken) → (after_call place aims.Slot present seal taken m).0.told ≡ tells.Answer reply
      → (after_call place aims.Slot present seal taken m).1 ≡ emptied place m
  call_told present seal (answers.Answer told) e =
      let same : told ≡ reply = cc in
      stays_if present (is_lost told.status) (emptied place m) (ap (λ (r : Reply). is_lost r.status) same ∙ kept)
  call_told present seal answers.Misspelt e = absurd cc
  call_told present seal (answers.Failed stat) e = absurd cc
  call_told present seal (answers.Denied why) e = absurd cc
  call_told present seal answers.Unmatched e = absurd cc

  context_told : (asking : Asking) (o : Option Context) → (by_context means place message aims.Slot asking o m).0.told ≡ tells.Answer reply
      → (by_context means place message aims.Slot asking o m).1 ≡ emptied place m
  context_told asking None e = absurd cc
  context_told asking (Some c) e = call_told (is_present m.standing c) asking.seal (taken_of means.mic c.caller.key asking.awaited (ops_of asking.asked) message) e

  pending_told : (context : ℕ) (asking : Asking) (p : Pending) → p ≡ Under context aims.Slot asking → (by_pending means place message p m).0.told ≡ tells.Answer reply
      → (by_pending means place message p m).1 ≡ emptied place m
  pending_told context asking p is e =
      subst (λ (q : Pending). (by_pending means place message q m).1 ≡ emptied place m) (sym is)
      (context_told asking (context_of context m.contexts) (subst (λ (q : Pending). (by_pending means place message q m).0.told ≡ tells.Answer reply) is e))

  awaiting_told : (context : ℕ) (asking : Asking) (o : Option Awaiting) → pending_in o ≡ Some (Under context aims.Slot asking)
      → (by_awaiting means place message o m).0.told ≡ tells.Answer reply → (by_awaiting means place message o m).1 ≡ emptied place m
  awaiting_told context asking None is e = absurd cc
  awaiting_told context asking (Some a) is e = pending_told context asking a.pending (some_is a.pending (Under context aims.Slot asking) is) e

  pub slot_told : (context : ℕ) (asking : Asking) → pending_at m place ≡ Some (Under context aims.Slot asking) → (taken_at means place message m).0.told ≡ tells.Answer reply
      → (taken_at means place message m).1 ≡ emptied place m
  slot_told context asking is e = awaiting_told context asking (awaited_at m place) is e
