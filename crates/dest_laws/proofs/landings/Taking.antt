-- A record of the source that brings bytes, or a size, is the answer to a call for its job, as the system shows it.
use Rattle.std.proofs.Common.{◌≡◌, ◌∙◌, ℕ, ◌+◌, ◌<◌, ◌≤◌, Bool, true, false, List, [], ◌∷◌, ◌++◌, Option, Some, None, Ok, Err, refl, sym, ap, subst, arith, append-nil}
use Rattle.std.specs.Prelude.{◌-◌, ◌==◌, ◌&&◌, if◌then◌else◌, is_none, nat_lt, not}
use Rattle.std.proofs.lemmas.Bool.{eqb-false, eqb-true, ltb-false}
use Rattle.call_results.specs.Results.{at, told_size}
use Rattle.copy_model.specs.Job.{Entry, Landed, Plan as CopyPlan, Sized, has_ended}
use Rattle.dest_core.specs.Stepping.{DestState, DestStep, IsReply, copier_in, doing_in, reply_step, second_in, with_copier}
use Rattle.dest_laws.proofs.landings.Fetched.{Answers, AreAwaited, AreRead, IsShownJob, answers_taken, fetched_so, shown_job}
use Rattle.dest_laws.proofs.landings.Heard.{Brings, Sizes, means_of}
use Rattle.dest_laws.proofs.landings.Pushed.{KeepsLaw, entry_own, pushed_in}
use Rattle.dest_laws.proofs.landings.Wells.{is_live_copy, piece_of, same_names}
use Rattle.dest_laws.specs.Histories.Linked.{name_at}
use Rattle.dest_laws.specs.Histories.Seen.{entries_if}
use Rattle.dest_laws.specs.Landings.Posted.{ArePosted, AreSpelled, IsPosted, asked_at, size_asked}
use Rattle.dest_laws.specs.Own.Going.{jobs_in}
use Rattle.dest_laws.specs.View.Dues.{LandsWell}
use Rattle.dest_laws.specs.View.Steps.{ShowsStep}
use Rattle.dest_laws.specs.View.View.{place_of}
use Rattle.dest_steps.specs.Copier.{Codes}
use Rattle.dest_steps.specs.Landing.{Doing}
use Rattle.dest_steps.specs.Replying.{effect_done, len_for}
use Rattle.dest_steps.specs.declared.copier.Copier.{Copier}
use Rattle.dest_steps.specs.declared.replying.Effect.{Effect}
use Rattle.dest_tasks.specs.Completing as deeds
use Rattle.dest_tasks.specs.Completing.{Comes, Deed, Does}
use Rattle.dest_tasks.specs.Posts.{is_same}
use Rattle.dest_tasks.specs.declared.post.Errand.TheVariants as errands
use Rattle.dest_work.specs.Findings.{len_of, range_len}
use Rattle.dest_work.specs.Sending.{read_call}
use Rattle.dest_work.specs.Work.{plan_in}
use Rattle.job_book.specs.Book.{IsSound, id_of, named}
use Rattle.job_book.specs.Working.{size_in, with_its}
use Rattle.job_log.specs.Log.{sized}
use Rattle.job_log.specs.declared.chunk.Chunk.{Chunk}
use Rattle.job_table.specs.Table.{is_live, is_running, passes}
use Rattle.job_table.specs.declared.job.Job.{Job}
use Rattle.job_table.specs.declared.job.Plan.{Plan}
use Rattle.mount.specs.Taking.{Means}
use Rattle.nfs_base.specs.declared.job.JobName.{JobName}
use Rattle.nfs_base.specs.declared.job.Stop.TheVariants.{NoRoom, PastEnd}
use Rattle.nfs_base.specs.declared.seal.End.{End}
use Rattle.nfs_base.specs.declared.seal.End.TheVariants.{Dest}
use Rattle.nfs_compound.specs.declared.reply.Reply.{Reply}
use Rattle.server_volume.specs.Choices.{choice_of}
use Rattle.session_calls.specs.declared.slot_call.SlotCall.TheVariants.{OnFile}
use Rattle.wire_lines.specs.declared.letters.Speaker.{Speaker}
use Rattle.wire_meaning.specs.Meaning.{file_asked, meaning, results_read}
use Rattle.wire_model.specs.Copies.{may_land}
use Rattle.wire_model.specs.CopyLaws.{IsFetched, IsSizedBy}
use Rattle.wire_model.specs.System.{System}
use Rattle.wire_model.specs.Wire.{Acts, Executed, ForJob}
use Rattle.wire_spelling.specs.Spelling.{spelling}
use Rattle.wire_xdr.specs.Cursor.{IsBytes}

-- ---- how a length comes from a size

record IsLen (plan : Plan) (size len : ℕ) : Type 0 where
  counted : 0 < plan.count → len ≡ plan.count
  to_end : plan.count ≡ 0 → plan.src_off + len ≡ size

range_by : (plan : Plan) (size len : ℕ) (none : Bool) → (plan.count == 0) ≡ none → plan.src_off + plan.count ≤ size → (if none then size - plan.src_off else plan.count) ≡ len
    → IsLen plan size len
range_by plan size len true is within same =
    let zero_count = eqb-true plan.count 0 is in
    record { counted = λ some. absurd (omega (arith, zero_count, some)); to_end = λ none. omega (arith, within, same, none) }
range_by plan size len false is within same =
    let some_count = eqb-false plan.count 0 is in
    record { counted = λ some. sym same; to_end = λ none. absurd (some_count none) }

len_by : (plan : Plan) (capacity size len : ℕ) (past full : Bool) → nat_lt size (plan.src_off + plan.count) ≡ past
    → (if past then Err PastEnd else (if full then Err NoRoom else Ok (range_len plan size))) ≡ Ok len → IsLen plan size len
len_by plan capacity size len true full is same = absurd cc
len_by plan capacity size len false true is same = absurd cc
len_by plan capacity size len false false is same =
    let range : range_len plan size ≡ len = cc in
    range_by plan size len (plan.count == 0) refl (ltb-false size (plan.src_off + plan.count) is) range

len_in : (capacity size len : ℕ) (o : Option Job) → len_for capacity size o ≡ Some (Ok len) → (job : Job) × (o ≡ Some job) × IsLen job.plan size len
len_in capacity size len None is = absurd cc
len_in capacity size len (Some job) is =
    let made : len_of job.plan capacity size ≡ Ok len = cc in
    (job, refl, len_by job.plan capacity size len (nat_lt size (job.plan.src_off + job.plan.count)) (nat_lt capacity (job.plan.dst_off + range_len job.plan size)) refl made)

-- ---- a job that runs

both_so : (a b : Bool) → (a && b) ≡ true → (a ≡ true) × (b ≡ true)
both_so true b is = (refl, is)
both_so false b is = absurd cc

none_so : (o : Option ℕ) → is_none o ≡ true → o ≡ None
none_so None is = refl
none_so (Some n) is = absurd cc

not_so : (b : Bool) → not b ≡ true → b ≡ false
not_so true is = absurd cc
not_so false is = refl

runs_so : (o : Option Job) (job : Job) → o ≡ Some job → passes is_live o ≡ true → has_ended job.log.entries ≡ false
runs_so o job is runs = not_so (has_ended job.log.entries) (subst (λ (x : Option Job). passes is_live x ≡ true) is runs)

ends_so : (same : Bool) (entry : Entry) → entries_if same entry ++ [] ≡ entries_if same entry
ends_so same entry = append-nil (entries_if same entry)

module _ {M : Type 0} (accepts : List ℕ → Option (List ℕ)) (whose : List ℕ → Option End) (read : AreRead) (awaited : AreAwaited) (s : System) (k : ℕ) (speaker : Speaker) (executed : Option Executed)
    (codes : Codes) (finish : List ℕ → List ℕ → Option (List ℕ)) (place : ℕ) (message : List ℕ) (now : ℕ) (d : DestState M) (t : DestStep M)
    (shows : ShowsStep (spelling accepts whose) meaning s k (Some message) speaker executed d t) (reply : IsReply codes finish place message now d t)
    (all : IsBytes message) (sound : IsSound (jobs_in d).table) (posted : ArePosted (copier_in d)) (spelled : AreSpelled (copier_in d).work.mount) where
  abbrev means : Means
  means = means_of codes finish

  took : (s.acts Dest k).took ≡ Some message
  took = ap (λ (a : Acts). a.took) shows.acts

  accepted : (s.acts Dest k).accepted ≡ reply.heard.accepted
  accepted = ap (λ (a : Acts). a.accepted) shows.acts ∙ ap (λ (u : DestStep M). u.out.accepted) (reply.is (choice_of t.out.used) (λ n below. refl))

  shown : (name : JobName) (job : Job) → named (jobs_in d).table name ≡ Some job → IsShownJob s k (jobs_in d).table name job
  shown name job is = shown_job s k (jobs_in d).table name job sound.given shows.before.linked is

  pub fetched : (name : JobName) (chunk : Chunk) (bytes : List ℕ) (job : Job) → Brings means place message (copier_in d) reply.heard name chunk bytes
      → named (jobs_in d).table name ≡ Some job → IsFetched (spelling accepts whose) meaning s k (piece_of name chunk bytes)
  fetched name chunk bytes job brings is =
      let a = brings.answered in
      let asks = subst (IsPosted (jobs_in d).table (asked_at (copier_in d).work.mount place)) a.post (posted place) in
      fetched_so accepts whose s k name job.plan chunk bytes a.reply read (shown name job is).plan brings.has
      (answers_taken accepts whose s k d message means place awaited name (errands.Bytes chunk) (OnFile job.plan.source (read_call job.plan chunk)) a.reply
      shows.before.caller took (accepted ∙ a.accepted) all spelled a.post (asks.asks job.plan (ap plan_in is)) a.told)

  -- ---- a length becomes known

  module _ (sizes : Sizes means place message (copier_in d) reply.heard reply.copier) where
    abbrev name : JobName
    name = sizes.job

    found : (job : Job) × (named (jobs_in d).table name ≡ Some job) × IsLen job.plan sizes.size sizes.len
    found = len_in (jobs_in d).table.capacity sizes.size sizes.len (named (jobs_in d).table name) sizes.len_is

    parts : (is_running (jobs_in d).table (id_of name) ≡ true) × (is_none (size_in (named (jobs_in d).table name)) ≡ true)
    parts = both_so (is_running (jobs_in d).table (id_of name)) (is_none (size_in (named (jobs_in d).table name))) sizes.may

    abbrev start : DestState M
    start = with_copier reply.copier d

    abbrev doing : Doing
    doing = doing_in (second_in now start)

    step_is : t ≡ reply_step (choice_of t.out.used) place now reply.heard start
    step_is = reply.is (choice_of t.out.used) (λ n below. refl)

    book_is : jobs_in t.host ≡ with_its name (λ log. sized (record log { spare = sizes.spare }) sizes.len) (jobs_in d)
    book_is =
        ap (λ (u : DestStep M). jobs_in u.host) step_is
        ∙ (ap (λ (e : Effect). (effect_done (choice_of t.out.used) place e doing).doing.copier.copies.book) sizes.effect_is
        ∙ ap (λ (x : Copier). x.copies.book) sizes.is)

    pub used_none : t.out.used ≡ []
    used_none =
        ap (λ (u : DestStep M). u.out.used) step_is
        ∙ ap (λ (e : Effect). (effect_done (choice_of t.out.used) place e doing).doing.used) sizes.effect_is

    come : Comes (deeds.Sizes sizes.spare sizes.len name ∷ []) (jobs_in d) (jobs_in t.host)
    unfolding Comes
    come = (jobs_in t.host, (none_so (size_in (named (jobs_in d).table name)) parts.1, book_is), refl)

    answers : Answers accepts whose s k (ForJob (place_of name)) (size_asked found.0.plan) sizes.answered.reply
    answers =
        let a = sizes.answered in
        let asks = subst (IsPosted (jobs_in d).table (asked_at (copier_in d).work.mount place)) a.post (posted place) in
        answers_taken accepts whose s k d message means place awaited name errands.Size (size_asked found.0.plan) a.reply
        shows.before.caller took (accepted ∙ a.accepted) all spelled a.post (asks.asks found.0.plan (ap plan_in found.1)) a.told

    job_shown : IsShownJob s k (jobs_in d).table name found.0
    job_shown = shown name found.0 found.1

    sized_by : IsSizedBy (spelling accepts whose) meaning s k (place_of name) sizes.len
    sized_by =
        let a = answers in
        let asked = read a.slot (size_asked found.0.plan) a.are_bytes a.fits in
        let planned = job_shown.plan in
        let len = found.2 in
        record {
          answer = a.answer;
          asks = ap meaning.asks_attributes a.ops ∙ (ap file_asked asked ∙ ap (λ (p : CopyPlan). Some p.src_file) (sym planned));
          size = sizes.size;
          says = ap (λ (o : Option Reply). at 2 told_size (results_read o)) a.says ∙ sizes.has;
          counted = λ some. subst (λ (p : CopyPlan). sizes.len ≡ p.count) (sym planned) (len.counted (subst (λ (p : CopyPlan). 0 < p.count) planned some));
          to_end = λ none. subst (λ (p : CopyPlan). p.src_off + sizes.len ≡ sizes.size) (sym planned) (len.to_end (subst (λ (p : CopyPlan). p.count ≡ 0) planned none));
        }

    live : may_land (s.job k (place_of name)) ≡ true
    live =
        is_live_copy s k (place_of name) (ap has_ended job_shown.entries ∙ runs_so (named (jobs_in d).table name) found.0 found.1 parts.0) job_shown.unretired
        (shows.before.unlost (place_of name))

    pub sizes_lands_well : KeepsLaw → LandsWell (spelling accepts whose) meaning s k
    sizes_lands_well law = record {
      sizes = λ j len pushed.
          let other = name_at (jobs_in t.host).table.boot j in
          let own = entry_own (is_same name other) (Sized sizes.len) (Sized len)
          (sym (ends_so (is_same name other) (Sized sizes.len)) ∙ pushed_in law (spelling accepts whose) meaning s k (Some message) speaker executed d t shows
          (deeds.Sizes sizes.spare sizes.len name ∷ []) come j (Sized len) pushed) in
          let same = own.1 in
          let same_len : sizes.len ≡ len = cc in
          let same_name : name ≡ other = same_names name other own.0 in
          let number : name.number ≡ j + 1 = ap (λ (n : JobName). n.number) same_name in
          let same_j : place_of name ≡ j = omega (arith, number) in (
            subst (λ (i : ℕ). may_land (s.job k i) ≡ true) same_j live,
            subst (λ (n : ℕ). IsSizedBy (spelling accepts whose) meaning s k j n) same_len
                (subst (λ (i : ℕ). IsSizedBy (spelling accepts whose) meaning s k i sizes.len) same_j sized_by),
          );
      lands = λ j off len pushed.
          let other = name_at (jobs_in t.host).table.boot j in
          let own = entry_own (is_same name other) (Sized sizes.len) (Landed off len)
          (sym (ends_so (is_same name other) (Sized sizes.len)) ∙ pushed_in law (spelling accepts whose) meaning s k (Some message) speaker executed d t shows
          (deeds.Sizes sizes.spare sizes.len name ∷ []) come j (Landed off len) pushed) in
          let different = own.1 in
          absurd cc;
    }
