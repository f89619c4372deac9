-- An answer that a worker takes is one to a call that was made for its job, as the wire sees it.
use Rattle.std.proofs.Common.{◌≡◌, ◌∙◌, ℕ, ◌+◌, ◌<◌, false, List, ◌∷◌, Option, Some, None, refl, sym, ap, subst, arith}
use Rattle.std.specs.Prelude.{◌-◌, if◌then◌else◌, option_map}
use Rattle.call_results.specs.Results.{at, told_bytes}
use Rattle.caller_laws.specs.Answers.Awaited.{IsAwaited}
use Rattle.caller_laws.specs.View.{awaited_in, face, face_of, handle_named, purpose_of, what_under}
use Rattle.copy_model.specs.Job.{Plan as CopyPlan}
use Rattle.dest_core.specs.Stepping.{DestState, copier_in}
use Rattle.dest_laws.proofs.landings.Turns.{AreGiven, there}
use Rattle.dest_laws.specs.Histories.Linked.{AreLinked, IsShown, name_at}
use Rattle.dest_laws.specs.Histories.Seen.{seen}
use Rattle.dest_laws.specs.Landings.Posted.{AreSpelled, Asks, asked_at, asked_in}
use Rattle.dest_laws.specs.View.View.{caller_in, errand_purpose, place_of, plan_seen, post_purpose}
use Rattle.dest_tasks.specs.Posts.{post_at}
use Rattle.dest_tasks.specs.declared.post.Errand.{Errand}
use Rattle.dest_tasks.specs.declared.post.Post.{Post}
use Rattle.dest_tasks.specs.declared.post.Post.TheVariants.{Awaits}
use Rattle.dest_work.specs.Sending.{read_call}
use Rattle.job_book.specs.Book.{named}
use Rattle.job_log.specs.declared.chunk.Chunk.{Chunk}
use Rattle.job_table.specs.Table.{JobTable}
use Rattle.job_table.specs.declared.job.Job.{Job}
use Rattle.job_table.specs.declared.job.Plan.{Plan}
use Rattle.mount.specs.Falling.{stays_for}
use Rattle.mount.specs.State.{Mounted, context_of, pending_at}
use Rattle.mount.specs.Taking.{Means, taken_at}
use Rattle.mount.specs.declared.state.Aim.{Aim}
use Rattle.mount.specs.declared.state.Aim.TheVariants as aims
use Rattle.mount.specs.declared.state.Context as held
use Rattle.mount.specs.declared.state.Pending.{Pending}
use Rattle.mount.specs.declared.state.Pending.TheVariants.{Under}
use Rattle.mount.specs.declared.taking.Told.TheVariants as tells
use Rattle.nfs_base.specs.declared.job.JobName.{JobName}
use Rattle.nfs_base.specs.declared.seal.End.{End}
use Rattle.nfs_base.specs.declared.seal.End.TheVariants.{Dest, Source}
use Rattle.nfs_compound.specs.Compounds.{CompoundFits, compound_bytes}
use Rattle.nfs_compound.specs.Results as results
use Rattle.nfs_compound.specs.declared.compound.Compound.{Compound}
use Rattle.nfs_compound.specs.declared.reply.Reply.{Reply}
use Rattle.session_calls.specs.Calls.{sequence_op, slot_compound, slot_ops}
use Rattle.session_calls.specs.declared.slot_call.SlotCall.{SlotCall}
use Rattle.session_calls.specs.declared.slot_call.SlotCall.TheVariants.{OnFile}
use Rattle.session_calls.specs.declared.slot_call.SlotUse.{SlotUse}
use Rattle.session_client.specs.Pending.{Asking}
use Rattle.session_client.specs.declared.asked.Asked.{Asked}
use Rattle.session_client.specs.declared.asked.Asked.TheVariants as asks
use Rattle.wire_meaning.specs.Meaning.{asked_by, meaning, place_read, results_read}
use Rattle.wire_model.specs.CopyLaws.{IsAnswerFor, IsFetched, place_in}
use Rattle.wire_model.specs.System.{System, plan_at}
use Rattle.wire_model.specs.Wire.{Awaited, Call, Caller, ForJob, Purpose, Slotted, What}
use Rattle.wire_spelling.specs.Replies.{results_of}
use Rattle.wire_spelling.specs.Spelling.{spelling}
use Rattle.wire_xdr.specs.All.{value_of}
use Rattle.wire_xdr.specs.Cursor.{IsBytes}

-- ---- what was awaited at a place asked so

pub record IsSlot (aim : Aim) (asked : Asked) (c : Compound) : Type 0 where
  pub aim_is : aim ≡ aims.Slot
  pub asked_is : asked ≡ asks.Compound c

pub slot_if : (aim : Aim) (asked : Asked) (c : Compound) → (if stays_for aim then Some asked else None) ≡ Some (asks.Compound c) → IsSlot aim asked c
slot_if aims.Setup asked c is = absurd cc
slot_if (aims.Child child) asked c is = absurd cc
slot_if aims.Slot asked c is = record { aim_is = refl; asked_is = cc }
slot_if aims.End asked c is = absurd cc

record IsAsked (context : ℕ) (aim : Aim) (asking : Asking) (m : Mounted) (place : ℕ) (call : SlotCall) : Type 0 where
  slot : SlotUse
  aim_is : aim ≡ aims.Slot
  asked_is : asking.asked ≡ asks.Compound (slot_compound slot call)
  spelled : asked_at m place ≡ Some (Some (asks.Compound (slot_compound slot call)))

is_asked : (context : ℕ) (aim : Aim) (asking : Asking) (m : Mounted) (place : ℕ) (call : SlotCall) → pending_at m place ≡ Some (Under context aim asking)
    → Asks (asked_at m place) call → IsAsked context aim asking m place call
is_asked context aim asking m place call at asks_it =
    let seen : asked_at m place ≡ Some (asked_in (Under context aim asking)) = ap (λ (p : Option Pending). option_map asked_in p) at in
    let it = asks_it (asked_in (Under context aim asking)) seen in
    let s = slot_if aim asking.asked (slot_compound it.0 call) it.1 in
    record { slot = it.0; aim_is = s.aim_is; asked_is = s.asked_is; spelled = seen ∙ ap (λ (o : Option Asked). Some o) it.1 }

-- ---- the answer, as the wire sees it

-- the call as the wire sees it: its root, and what it is for
abbrev pub call_seen : List ℕ → SlotUse → SlotCall → Purpose → Call
call_seen root slot call purpose = record {
  root = handle_named root;
  slot = slot.slot;
  number = slot.number;
  ops = compound_bytes (slot_compound slot call);
  purpose = purpose;
}

seen_under : (contexts : List held.Context) (context : ℕ) (under : held.Context) (aim : Aim) (asking : Asking) (slot : SlotUse) (call : SlotCall) (purpose : Purpose)
    → context_of context contexts ≡ Some under → aim ≡ aims.Slot → asking.asked ≡ asks.Compound (slot_compound slot call)
    → awaited_in contexts purpose (Under context aim asking) ≡ record { xid = asking.awaited.xid; what = Slotted asking.seal (call_seen under.root slot call purpose) }
seen_under contexts context under aim asking slot call purpose is aim_is asked_is =
    let x = asking.awaited.xid in
    let first : awaited_in contexts purpose (Under context aim asking) ≡ record { xid = x; what = what_under (face_of context contexts) asking.seal (purpose_of aims.Slot purpose) asking.asked }
    = ap (λ (a : Aim). awaited_in contexts purpose (Under context a asking)) aim_is in
    let second : what_under (face_of context contexts) asking.seal purpose asking.asked ≡ what_under (Some (face under)) asking.seal purpose asking.asked
    = ap (λ (c : Option held.Context). what_under (option_map face c) asking.seal purpose asking.asked) is in
    let third : what_under (Some (face under)) asking.seal purpose asking.asked ≡ Slotted asking.seal (call_seen under.root slot call purpose)
    = ap (λ (a : Asked). what_under (Some (face under)) asking.seal purpose a) asked_is in
    first ∙ ap (λ (w : What). record { xid = x; what = w }) (second ∙ third)

-- the law of answers
abbrev pub AreAwaited : Type 0
AreAwaited = (means : Means) (place : ℕ) (message : List ℕ) (m : Mounted) (told : Reply) → IsBytes message → (taken_at means place message m).0.told ≡ tells.Answer told
    → IsAwaited means place message m told

-- an answer for a job, to this call in a slot
pub record Answers (accepts : List ℕ → Option (List ℕ)) (whose : List ℕ → Option End) (s : System) (k : ℕ) (purpose : Purpose) (call : SlotCall) (told : Reply) : Type 0 where
  pub slot : SlotUse
  pub answer : IsAnswerFor (spelling accepts whose) s Source Dest k purpose
  pub ops : answer.call.ops ≡ compound_bytes (slot_compound slot call)
  pub says : value_of results.reply (results_of answer.reply) ≡ Some told
  pub are_bytes : IsBytes (compound_bytes (slot_compound slot call))
  pub fits : CompoundFits (slot_compound slot call)

module _ {M : Type 0} (accepts : List ℕ → Option (List ℕ)) (whose : List ℕ → Option End) (s : System) (k : ℕ) (d : DestState M) (message : List ℕ) (means : Means) (place : ℕ) where
  abbrev mount : Mounted
  mount = (copier_in d).work.mount

  answers_so : (job : JobName) (errand : Errand) (call : SlotCall) (told : Reply)
      → s.caller Source Dest k ≡ caller_in d → (s.acts Dest k).took ≡ Some message → (s.acts Dest k).accepted ≡ (taken_at means place message mount).0.accepted
      → AreSpelled mount → post_at (copier_in d).work.workers place ≡ Awaits job errand → Asks (asked_at mount place) call
      → IsAwaited means place message mount told
      → Answers accepts whose s k (errand_purpose job errand) call told
  answers_so job errand call told caller took accepted spelled post asks_it a =
      let purpose = errand_purpose job errand in
      let q = is_asked a.context a.aim a.asking mount place call a.awaited asks_it in
      let seen : Call = call_seen a.under.root q.slot call purpose in
      let spells = spelled place (slot_compound q.slot call) q.spelled in
      let shown : awaited_in mount.contexts (post_purpose (post_at (copier_in d).work.workers place)) (Under a.context a.aim a.asking)
      ≡ record { xid = a.asking.awaited.xid; what = Slotted a.asking.seal seen }
      = ap (λ (p : Post). awaited_in mount.contexts (post_purpose p) (Under a.context a.aim a.asking)) post
      ∙ seen_under mount.contexts a.context a.under a.aim a.asking q.slot call purpose a.there q.aim_is q.asked_is in
      let awaited : (s.caller Source Dest k).awaits place ≡ Some (record { xid = a.asking.awaited.xid; what = Slotted a.asking.seal seen })
      = ap (λ (c : Caller). c.awaits place) caller
      ∙ (ap (λ (p : Option Pending). option_map (awaited_in mount.contexts (post_purpose (post_at (copier_in d).work.workers place))) p) a.awaited
      ∙ ap (λ (x : Awaited). Some x) shown) in
      record {
        slot = q.slot;
        answer = record {
          call = seen;
          seal = a.asking.seal;
          reply = message;
          takes = record {
            place = place;
            took = took;
            is_reply = a.is_reply;
            accepted = accepted ∙ a.accepted;
            awaited = awaited ∙ ap (λ (x : ℕ). Some (record { xid = x; what = Slotted a.asking.seal seen })) (sym a.xid);
          };
          purpose_is = refl;
        };
        ops = refl;
        says = a.says;
        are_bytes = spells.are_bytes;
        fits = spells.fits;
      }

  pub answers_taken : AreAwaited → (job : JobName) (errand : Errand) (call : SlotCall) (told : Reply)
      → s.caller Source Dest k ≡ caller_in d → (s.acts Dest k).took ≡ Some message → (s.acts Dest k).accepted ≡ (taken_at means place message mount).0.accepted
      → IsBytes message → AreSpelled mount → post_at (copier_in d).work.workers place ≡ Awaits job errand → Asks (asked_at mount place) call
      → (taken_at means place message mount).0.told ≡ tells.Answer told → Answers accepts whose s k (errand_purpose job errand) call told
  answers_taken law job errand call told caller took accepted all spelled post asks_it is =
      answers_so job errand call told caller took accepted spelled post asks_it (law means place message mount told all is)

-- ---- the plan of a job that is there, as the system shows it

pub record IsShownJob (s : System) (k : ℕ) (t : JobTable) (name : JobName) (job : Job) : Type 0 where
  pub below : place_of name < t.made
  pub named_at : name_at t.boot (place_of name) ≡ name
  pub plan : plan_at s k (place_of name) ≡ plan_seen job.plan
  pub entries : (s.job k (place_of name)).entries ≡ job.log.entries
  pub unretired : (s.job k (place_of name)).retired ≡ false

shown_by : (s : System) (k : ℕ) (place : ℕ) (job : Job) → (o : Option Job) → o ≡ Some job → IsShown plan_seen (seen o) (s.job k place)
    → ((s.job k place).retired ≡ false) × ((s.job k place).plan ≡ plan_seen job.plan) × ((s.job k place).entries ≡ job.log.entries)
shown_by s k place job o is shown = subst (λ (x : Option Job). IsShown plan_seen (seen x) (s.job k place)) is shown

again : (n : ℕ) → 0 < n → (n - 1) + 1 ≡ n
again n h = omega (arith, h)

named_again : (boot : ℕ) (name : JobName) → name.boot ≡ boot → 0 < name.number → name_at boot (place_of name) ≡ name
named_again boot name is first =
    ap (λ (n : ℕ). let x : JobName = record { boot = boot; number = n } in x) (again name.number first)
    ∙ ap (λ (b : ℕ). let x : JobName = record { boot = b; number = name.number } in x) (sym is)

pub shown_job : (s : System) (k : ℕ) (t : JobTable) (name : JobName) (job : Job) → AreGiven t → AreLinked plan_seen t (λ j. s.job k j) → named t name ≡ Some job
    → IsShownJob s k t name job
shown_job s k t name job all linked is =
    let h = there t name job all is in
    let first = h.first in
    let given = h.given in
    let below : place_of name < t.made = omega (arith, first, given) in
    let same = named_again t.boot name h.boot h.first in
    let shown = shown_by s k (place_of name) job (named t (name_at t.boot (place_of name))) (ap (λ (n : JobName). named t n) same ∙ is) (linked (place_of name) below) in
    record { below = below; named_at = same; plan = shown.1; entries = shown.2; unretired = shown.0 }

-- ---- bytes that a job's READ brings, and the size

-- the law of questions
abbrev pub AreRead : Type 0
AreRead = (slot : SlotUse) (call : SlotCall) → IsBytes (compound_bytes (slot_compound slot call)) → CompoundFits (slot_compound slot call)
    → asked_by (compound_bytes (slot_compound slot call)) ≡ sequence_op slot ∷ slot_ops call

pub fetched_so : (accepts : List ℕ → Option (List ℕ)) (whose : List ℕ → Option End) (s : System) (k : ℕ) (name : JobName) (plan : Plan) (chunk : Chunk) (bytes : List ℕ) (told : Reply)
    → AreRead → plan_at s k (place_of name) ≡ plan_seen plan → at 2 told_bytes told.results ≡ Some bytes
    → Answers accepts whose s k (ForJob (place_of name)) (OnFile plan.source (read_call plan chunk)) told
    → IsFetched (spelling accepts whose) meaning s k (record { copy = place_of name; off = chunk.off; bytes = bytes })
fetched_so accepts whose s k name plan chunk bytes told law planned has a =
    let read = law a.slot (OnFile plan.source (read_call plan chunk)) a.are_bytes a.fits in
    record {
      answer = a.answer;
      reads = ap meaning.reads a.ops ∙ (ap place_read read ∙ ap (λ (p : CopyPlan). Some (place_in p chunk.off)) (sym planned));
      bytes = ap (λ (o : Option Reply). at 2 told_bytes (results_read o)) a.says ∙ has;
    }
