-- A step of a client that takes its leave is what its definition says.
use Rattle.std.proofs.Common.{◌≡◌, ◌∙◌, ℕ, List, ap, refl, sym}
use Rattle.gss_ctx.specs.Seals.{Mic}
use Rattle.mount.specs.Taking.{Means}
use Rattle.nfs_base.specs.declared.side.Side.{Side}
use Rattle.nfs_base.specs.declared.side.Side.TheVariants.{Source, Dest}
use Rattle.outbox.specs.declared.outgoing.Outbox.{Outbox}
use Rattle.client_steps.specs.Acting.{Acting, acting, with_desk}
use Rattle.client_steps.specs.Parting.{leave, parting_replied}
use Rattle.client_steps.specs.declared.acting.Course.{Course}
use Rattle.client_steps.specs.declared.acting.Queues.{Queues}
use Rattle.client_steps.specs.declared.desk.Desk.{Desk}
use Rattle.client_steps.specs.declared.parting.Parting.{Parting}
use Rattle.client_core.specs.Endings.{acting_at, desk_at, ended}
use Rattle.client_leaving.specs.Leaving.{farewell_step, left_by, left_from, left_with, parting_at, replied_with, reply_step, with_parting}
use Rattle.client_core.specs.Parts.{course_of}
use Rattle.client_core.specs.State.{ClientState}
use Rattle.client_leaving.specs.declared.leaving.Leaving.{Leaving}

-- leave was taken of the source, which left this desk, and then of the destination
pub farewell_is : {M : Type 0} (mic : Mic) (now : ℕ) (l : Leaving M) (course next : Course) (between : Desk) (source dest : Parting) (end : ClientState M × Outbox)
    → course_of l.client course ≡ acting_at now l.client → source ≡ (leave mic Source course.desk).0 → between ≡ (leave mic Source course.desk).1
    → dest ≡ (leave mic Dest between).0 → next.desk ≡ (leave mic Dest between).1 → next.source_plan ≡ course.source_plan
    → next.dest_plan ≡ course.dest_plan → end ≡ ended (course_of l.client next) l.client.back l.client
    → left_by source dest end ≡ farewell_step mic now l
farewell_is mic now l course next between source dest end start source_is between_is dest_is next_is source_plan dest_plan ends =
    let c = l.client in
    let same : course_of c next ≡ with_desk next.desk (course_of c course) = rw source_plan (rw dest_plan refl) in
    let worked : course_of c next ≡ with_desk next.desk (acting_at now c) = same ∙ ap (with_desk next.desk) start in
    let desk : course.desk ≡ desk_at now c = ap (λ (a : Acting). a.desk) start in
    ap (left_by source dest) (ends ∙ ap (λ (a : Acting). ended a c.back c) worked)
    ∙ ap (λ (p : Parting). left_with source (p, next.desk) now l) dest_is
    ∙ ap (λ (d : Desk). left_with source ((leave mic Dest between).0, d) now l) next_is
    ∙ ap (λ (d : Desk). left_with source (leave mic Dest d) now l) between_is
    ∙ ap (λ (p : Parting). left_from mic (p, (leave mic Source course.desk).1) now l) source_is
    ∙ ap (λ (d : Desk). left_from mic (leave mic Source d) now l) desk

-- a reply was taken
pub reply_is : {M : Type 0} (means : Means) (side : Side) (message : List ℕ) (now : ℕ) (l left : Leaving M) (queues : Queues) (course next : Course)
    (asked then_asked : Parting) (end : ClientState M × Outbox) → l.client.source_queue ≡ queues.source → l.client.dest_queue ≡ queues.dest
    → course_of l.client course ≡ acting_at now l.client → asked ≡ parting_at side l
    → then_asked ≡ (parting_replied means side message asked (acting queues course)).0
    → acting queues next ≡ (parting_replied means side message asked (acting queues course)).1
    → end ≡ ended (course_of l.client next) l.client.back l.client → left ≡ with_parting side then_asked (record l { client = end.0 })
    → (left, end.1) ≡ reply_step means side message now l
reply_is {M} means side message now l left queues course next asked then_asked end source dest start asked_is then_is next_is ends left_is =
    let c = l.client in
    let of_course : course_of c course ≡ acting queues course = rw source (rw dest refl) in
    let of_start : acting queues course ≡ acting_at now c = sym of_course ∙ start in
    let of_next : course_of c next ≡ acting queues next = rw source (rw dest refl) in
    let told : then_asked ≡ (parting_replied means side message (parting_at side l) (acting_at now c)).0 =
    then_is ∙ ap (λ (p : Parting). (parting_replied means side message p (acting queues course)).0) asked_is
    ∙ ap (λ (a : Acting). (parting_replied means side message (parting_at side l) a).0) of_start in
    let worked : course_of c next ≡ (parting_replied means side message (parting_at side l) (acting_at now c)).1 =
    of_next ∙ next_is ∙ ap (λ (p : Parting). (parting_replied means side message p (acting queues course)).1) asked_is
    ∙ ap (λ (a : Acting). (parting_replied means side message (parting_at side l) a).1) of_start in
    ap (λ (x : Leaving M). (x, end.1)) left_is
    ∙ ap (λ (e : ClientState M × Outbox). replied_with side then_asked e l) (ends ∙ ap (λ (a : Acting). ended a c.back c) worked)
    ∙ ap (λ (p : Parting). replied_with side p (ended (parting_replied means side message (parting_at side l) (acting_at now c)).1 c.back c) l) told
