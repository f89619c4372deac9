-- Steps that did something to the desk alone, or queued a work, and then went on by what waits.
use Rattle.std.proofs.Common.{◌≡◌, ◌∙◌, ℕ, List, Option, Some, None, Result, IfOk, ap, refl, subst}
use Rattle.std.proofs.lemmas.Result.{IfOk-weaker}
use Rattle.gss_ctx.specs.Table.{ContextTable}
use Rattle.gss_mech.specs.declared.mechanism.Accepted.{Accepted}
use Rattle.nfs_base.specs.declared.copy_spec.CopySpec.{CopySpec}
use Rattle.nfs_base.specs.declared.side.Side.{Side}
use Rattle.nfs_base.specs.declared.side.Side.TheVariants.{Source, Dest}
use Rattle.outbox.specs.declared.outgoing.Outbox.{Outbox}
use Rattle.streams.specs.declared.draws.Drawn.{Drawn}
use Rattle.streams.specs.declared.draws.Drawn.TheVariants.{Got, Failed}
use Rattle.write_queue.specs.declared.work.Work.{Work}
use Rattle.client_steps.specs.Acting.{Acting, GoesOn, on_desk}
use Rattle.client_steps.specs.declared.acting.Course.{Course}
use Rattle.client_steps.specs.declared.desk.Desk.{Desk}
use Rattle.client_core.specs.Commands.{IsBegun, IsWork, begun_with}
use Rattle.client_core.specs.Endings.{IsStep, Ways, acting_at, ended, ended_by, undrawn, ways_of}
use Rattle.client_core.specs.Parts.{course_of, with_pushed}
use Rattle.client_core.specs.State.{ClientState}

-- ---- what was done to the desk is done to what is worked on

pub desk_done : {M : Type 0} (c : ClientState M) (now : ℕ) (does : Desk → Desk) (course next : Course) → next.desk ≡ does course.desk
    → next.source_plan ≡ course.source_plan → next.dest_plan ≡ course.dest_plan → course_of c course ≡ acting_at now c
    → course_of c next ≡ on_desk does (acting_at now c)
desk_done c now does course next desk source dest start =
    let same : course_of c next ≡ on_desk does (course_of c course) = rw desk (rw source (rw dest refl)) in
    same ∙ ap (on_desk does) start

-- ---- what was worked on goes on

pub step_of : {M W : Type 0} (ways : Ways) (gives : W → Drawn → W → Type 0) (a does : Acting) (back : Acting → ContextTable ℕ) (c : ClientState M)
    (before after : W) (end : ClientState M × Outbox) → a ≡ does → IsStep ways gives a back c before after end → IsStep ways gives does back c before after end
step_of ways gives a does back c before after end same step = subst (λ (x : Acting). IsStep ways gives x back c before after end) same step

pub step_went : {M W : Type 0} (ways : Ways) (gives : W → Drawn → W → Type 0) (a does : Acting) (back : Acting → ContextTable ℕ) (c : ClientState M)
    (before after : W) (to : Option Acting) (end : ClientState M × Outbox)
    → a ≡ does → GoesOn c.setting ways.means.mic ways.started gives a before after to → end ≡ ended_by to back c
    → IsStep ways gives does back c before after end
step_went ways gives a does back c before after to end same goes is = record {
  to = to;
  goes_on = subst (λ (x : Acting). GoesOn c.setting ways.means.mic ways.started gives x before after to) same goes;
  is = is;
}

pub step_undrawn : {M W E : Type 0} (ways : Ways) (gives : W → Drawn → W → Type 0) (a does : Acting) (back : Acting → ContextTable ℕ) (c : ClientState M)
    (before after : W) (r : Result Outbox E) (new : ClientState M)
    → a ≡ does → GoesOn c.setting ways.means.mic ways.started gives a before after None → IfOk r (λ out. (new, out) ≡ undrawn c)
    → IfOk r (λ out. IsStep ways gives does back c before after (new, out))
step_undrawn ways gives a does back c before after r new same goes =
    IfOk-weaker r (λ out. (new, out) ≡ undrawn c) (λ out. IsStep ways gives does back c before after (new, out))
    (λ out is. step_went ways gives a does back c before after None (new, out) same goes is)

pub ended_as : {M : Type 0} (c : ClientState M) (a does : Acting) (end : ClientState M × Outbox) → a ≡ does → end ≡ ended a c.back c → end ≡ ended does c.back c
ended_as c a does end same is = is ∙ ap (λ (x : Acting). ended x c.back c) same

-- ---- a copy was begun with what was drawn; no secret was drawn

pub begun_on : {M W E : Type 0} (ways : Ways) (gives : W → Drawn → W → Type 0) (j : ℕ) (spec : CopySpec) (now : ℕ) (c : ClientState M)
    (before middle after : W) (secret : List ℕ) (a : Acting) (r : Result Outbox E) (new : ClientState M)
    → gives before (Got secret) middle → a ≡ on_desk (begun_with j spec secret) (acting_at now c)
    → IfOk r (λ out. IsStep ways gives a (λ _. c.back) c middle after (new, out))
    → IfOk r (λ out. IsBegun ways gives j spec now c before after (new, out))
begun_on ways gives j spec now c before middle after secret a r new gave same =
    IfOk-weaker r (λ out. IsStep ways gives a (λ _. c.back) c middle after (new, out)) (λ out. IsBegun ways gives j spec now c before after (new, out))
    (λ out step. record {
      drawn = Got secret;
      middle = middle;
      gave = gave;
      is = step_of ways gives a (on_desk (begun_with j spec secret) (acting_at now c)) (λ _. c.back) c middle after (new, out) same step;
    })

pub not_begun : {M W E : Type 0} (ways : Ways) (gives : W → Drawn → W → Type 0) (j : ℕ) (spec : CopySpec) (now : ℕ) (c : ClientState M)
    (before after : W) (r : Result Outbox E) (new : ClientState M) → gives before Failed after → IfOk r (λ out. (new, out) ≡ undrawn c)
    → IfOk r (λ out. IsBegun ways gives j spec now c before after (new, out))
not_begun ways gives j spec now c before after r new gave =
    IfOk-weaker r (λ out. (new, out) ≡ undrawn c) (λ out. IsBegun ways gives j spec now c before after (new, out))
    (λ out is. record { drawn = Failed; middle = after; gave = gave; is = (is, refl) })

-- ---- a work was queued

-- What waits goes on in this way for a client whose mechanism starts tokens so.
abbrev pub Went : {M W : Type 0} → (List ℕ → ℕ → List ℕ → List ℕ) → (M → List ℕ → List ℕ → Option (List ℕ)) → (W → Drawn → W → Type 0) → ℕ → ClientState M → W → W
    → Option Acting → Type 0
Went mic started gives now p before after to = GoesOn p.setting mic (started p.setting.mech p.setting.me) gives (acting_at now p) before after to

pub work_went : {M W : Type 0} (mic derived : List ℕ → ℕ → List ℕ → List ℕ) (finished : M → List ℕ → List ℕ → List ℕ → Option (List ℕ))
    (started : M → List ℕ → List ℕ → Option (List ℕ)) (accepted : M → List ℕ → List ℕ → Option Accepted) (gives : W → Drawn → W → Type 0)
    (side : Side) (work : Work) (now : ℕ) (c p : ClientState M) (before after : W) (course : Course) (end : ClientState M × Outbox)
    → p ≡ with_pushed side work c → Went mic started gives now p before after (Some (course_of p course)) → end ≡ ended (course_of p course) p.back p
    → IsWork (ways_of mic derived finished started accepted c.setting) gives side work now c before after end
work_went {M = M} mic derived finished started accepted gives Source work now c p before after course end pushed went is = record {
  to = Some (course_of (with_pushed Source work c) course);
  goes_on = subst (λ (q : ClientState M). Went mic started gives now q before after (Some (course_of q course))) pushed went;
  is = is ∙ ap (λ (q : ClientState M). ended (course_of q course) q.back q) pushed;
}
work_went {M = M} mic derived finished started accepted gives Dest work now c p before after course end pushed went is = record {
  to = Some (course_of (with_pushed Dest work c) course);
  goes_on = subst (λ (q : ClientState M). Went mic started gives now q before after (Some (course_of q course))) pushed went;
  is = is ∙ ap (λ (q : ClientState M). ended (course_of q course) q.back q) pushed;
}

-- where a draw failed, and it was taken out again
pub work_undrawn : {M W E : Type 0} (mic derived : List ℕ → ℕ → List ℕ → List ℕ) (finished : M → List ℕ → List ℕ → List ℕ → Option (List ℕ))
    (started : M → List ℕ → List ℕ → Option (List ℕ)) (accepted : M → List ℕ → List ℕ → Option Accepted) (gives : W → Drawn → W → Type 0)
    (side : Side) (work : Work) (now : ℕ) (c p q : ClientState M) (before after : W) (r : Result Outbox E) (new : ClientState M)
    → p ≡ with_pushed side work c → Went mic started gives now p before after None → q ≡ c → IfOk r (λ out. (new, out) ≡ undrawn q)
    → IfOk r (λ out. IsWork (ways_of mic derived finished started accepted c.setting) gives side work now c before after (new, out))
work_undrawn {M = M} mic derived finished started accepted gives Source work now c p q before after r new pushed went same =
    IfOk-weaker r (λ out. (new, out) ≡ undrawn q)
    (λ out. IsWork (ways_of mic derived finished started accepted c.setting) gives Source work now c before after (new, out))
    (λ out is. record {
      to = None;
      goes_on = subst (λ (q : ClientState M). Went mic started gives now q before after None) pushed went;
      is = is ∙ ap (λ (q : ClientState M). undrawn q) same;
    })
work_undrawn {M = M} mic derived finished started accepted gives Dest work now c p q before after r new pushed went same =
    IfOk-weaker r (λ out. (new, out) ≡ undrawn q)
    (λ out. IsWork (ways_of mic derived finished started accepted c.setting) gives Dest work now c before after (new, out))
    (λ out is. record {
      to = None;
      goes_on = subst (λ (q : ClientState M). Went mic started gives now q before after None) pushed went;
      is = is ∙ ap (λ (q : ClientState M). undrawn q) same;
    })
