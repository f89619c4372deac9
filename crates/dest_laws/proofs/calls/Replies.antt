-- A record of the source, as the source sees it.
use Rattle.std.proofs.Common.{◌≡◌, ◌∙◌, ◌⊎◌, inl, inr, ℕ, Bool, true, false, List, length, Option, Some, None, Result, Ok, Err, refl, sym, ap, subst}
use Rattle.std.proofs.lemmas.Bool.{and_parts}
use Rattle.std.specs.Prelude.{◌&&◌, ◌==◌, is_none, nat_lt, not, if◌then◌else◌}
use Rattle.call_results.specs.Results.{at, told_bytes, told_size}
use Rattle.caller_laws.specs.Good.{Identity}
use Rattle.caller_laws.specs.Moves.{done}
use Rattle.caller_laws.specs.OneStep.Order.{is_root}
use Rattle.dest_back.specs.Callbacks.{CallbackTable}
use Rattle.dest_laws.proofs.calls.Callbacks.{TellsBy, Tells, stop_goes, tells_none}
use Rattle.dest_laws.proofs.calls.Landings.{Ends, KeepsPurposes, LandingTells, keeps_on, landed_ends, stopped_ends}
use Rattle.dest_laws.proofs.calls.Settling.{settled_keeps}
use Rattle.dest_laws.proofs.calls.TakenCalls.{taken_calls}
use Rattle.dest_laws.specs.Calls.Settled.{AreClients}
use Rattle.dest_steps.specs.Copier.{Around, Codes}
use Rattle.dest_steps.specs.Landing.{Doing, Done}
use Rattle.dest_steps.specs.Replying as replyings
use Rattle.dest_steps.specs.Replying.{IsFound, IsHeardBy, IsHeardIf, effect_done, mounted}
use Rattle.dest_steps.specs.Turning.{landing_for, landing_if}
use Rattle.dest_steps.specs.declared.copier.Copier.{Copier}
use Rattle.dest_steps.specs.declared.replying.Effect.{Effect}
use Rattle.dest_steps.specs.declared.replying.Effect.TheVariants as effects
use Rattle.dest_steps.specs.declared.replying.Heard.{Heard}
use Rattle.dest_tasks.specs.Posts.{asks, is_confirm, post_at}
use Rattle.dest_tasks.specs.Seats.{was_denied}
use Rattle.dest_tasks.specs.declared.post.Errand.{Errand}
use Rattle.dest_tasks.specs.declared.post.Errand.TheVariants as errands
use Rattle.dest_work.specs.Findings as findings_of
use Rattle.dest_work.specs.Findings.{finding_of}
use Rattle.dest_work.specs.Work.{fallen_if, falls, is_child, is_denial, is_orphan, kept_if, mount_after, settled, taken_by, taken_for, with_mount}
use Rattle.dest_work.specs.declared.finding.Finding.{Finding}
use Rattle.dest_work.specs.declared.finding.Finding.TheVariants as findings
use Rattle.job_book.specs.Book.{client_of, id_of, named}
use Rattle.job_table.specs.Table.{JobTable, is_running}
use Rattle.mount.specs.Falling.{fallen, given_up}
use Rattle.mount.specs.Laws.{is_heard}
use Rattle.mount.specs.State.{Mounted, awaited_at}
use Rattle.mount.specs.Taking.{Means, taken_at}
use Rattle.mount.specs.declared.taking.Told.TheVariants as tells
use Rattle.mount.specs.declared.taking.Told.{Told}
use Rattle.nfs_base.specs.declared.job.JobName.{JobName}
use Rattle.nfs_base.specs.declared.job.Stop.{Stop}
use Rattle.nfs_base.specs.declared.job.Stop.TheVariants.{DiskFault, PastEnd, SourceFailed, SourceRefused, Worn}
use Rattle.outbox.specs.declared.note.Dropped.{Dropped}
use Rattle.outbox.specs.declared.note.Dropped.TheVariants.{Unmatched, Unread}
use Rattle.rpc_msg.specs.declared.numbers.TheConstants.{SUCCESS}
use Rattle.server_volume.specs.Choices.{Choice}

-- ---- what becomes of the mount

module _ (means : Means) (place : ℕ) (message : List ℕ) (m : Mounted) where
  -- the record is taken, and maybe the mount begins again; or a child comes too late, and the call is given up
  abbrev pub IsTaken : Mounted → Type 0
  IsTaken n = n ≡ (taken_at means place message m).1

  abbrev pub IsFallen : Mounted → Type 0
  IsFallen n = (n ≡ fallen (taken_at means place message m).1) × (is_root (taken_at means place message m).0.told ≡ false)

  abbrev pub IsLate : Mounted → Type 0
  IsLate n = (n ≡ given_up place m) × (is_child (taken_at means place message m).0.told ≡ true)

  abbrev pub Becomes : Mounted → Type 0
  Becomes n = IsTaken n ⊎ (IsFallen n ⊎ IsLate n)

  denied_root : (told : Told) → is_denial told ≡ true → is_root told ≡ false
  denied_root tells.Unmatched e = refl
  denied_root tells.Rooted e = absurd cc
  denied_root (tells.Child child) e = refl
  denied_root (tells.Refused major) e = refl
  denied_root tells.Stepped e = refl
  denied_root (tells.Stopped status) e = refl
  denied_root (tells.Answer reply) e = refl
  denied_root tells.Misspelt e = refl
  denied_root (tells.Failed stat) e = refl
  denied_root (tells.Denied why) e = refl

  denied_child : {A : Type 0} (told : Told) → is_denial told ≡ true → is_child told ≡ true → A
  denied_child tells.Unmatched e f = absurd cc
  denied_child tells.Rooted e f = absurd cc
  denied_child (tells.Child child) e f = absurd cc
  denied_child (tells.Refused major) e f = absurd cc
  denied_child tells.Stepped e f = absurd cc
  denied_child (tells.Stopped status) e f = absurd cc
  denied_child (tells.Answer reply) e f = absurd cc
  denied_child tells.Misspelt e f = absurd cc
  denied_child (tells.Failed stat) e f = absurd cc
  denied_child (tells.Denied why) e f = absurd cc

  becomes : (job : JobName) (errand : Errand) (t : JobTable)
      → Becomes (mount_after place job errand (taken_at means place message m).0.told t m (taken_at means place message m).1)
  becomes job errand t = by (falls errand (taken_at means place message m).0.told) (is_orphan (taken_at means place message m).0.told job t) refl refl
    where
      by : (f o : Bool) → falls errand (taken_at means place message m).0.told ≡ f → is_orphan (taken_at means place message m).0.told job t ≡ o
          → Becomes (fallen_if f (kept_if o place m (taken_at means place message m).1))
      by true true e g =
          let denied = (and_parts (is_confirm errand) (is_denial (taken_at means place message m).0.told) e).1 in
          let child = (and_parts (is_child (taken_at means place message m).0.told) (is_none (client_of t job)) g).0 in
          denied_child (taken_at means place message m).0.told denied child
      by true false e g =
          let denied = (and_parts (is_confirm errand) (is_denial (taken_at means place message m).0.told) e).1 in
          inr (inl (refl, denied_root (taken_at means place message m).0.told denied))
      by false true e g =
          let child = (and_parts (is_child (taken_at means place message m).0.told) (is_none (client_of t job)) g).0 in
          inr (inr (refl, child))
      by false false e g = inl refl

  pub calls_same : (n : Mounted) → Becomes n → n.calls ≡ m.calls
  calls_same n (inl is) = ap (λ (k : Mounted). k.calls) is ∙ taken_calls means place message m
  calls_same n (inr (inl is)) = ap (λ (k : Mounted). k.calls) is.0 ∙ taken_calls means place message m
  calls_same n (inr (inr is)) = ap (λ (k : Mounted). k.calls) is.0

  -- bytes for a job are an answer, which is taken
  brought : (errand : Errand) (denied : Bool) (told : Told) (bytes : List ℕ) → finding_of errand denied told ≡ findings.Brings bytes
      → (is_heard told ≡ true) × (is_denial told ≡ false) × (is_child told ≡ false)
  brought errand denied tells.Unmatched bytes e = absurd cc
  brought errand denied tells.Rooted bytes e = absurd cc
  brought errand denied (tells.Child child) bytes e = absurd cc
  brought errand denied (tells.Refused major) bytes e = absurd cc
  brought errand denied tells.Stepped bytes e = absurd cc
  brought errand denied (tells.Stopped status) bytes e = absurd (refused (status.number == 0) e)
    where
      refused : (b : Bool) → (if b then findings.Stops (SourceFailed SUCCESS) else findings.Stops (SourceRefused status)) ≡ findings.Brings bytes → ⊥
      refused true f = cc
      refused false f = cc
  brought errand denied (tells.Answer reply) bytes e = (refl, refl, refl)
  brought errand denied tells.Misspelt bytes e = absurd cc
  brought errand denied (tells.Failed stat) bytes e = absurd cc
  brought errand denied (tells.Denied why) bytes e = absurd (denying (is_confirm errand && (findings_of.is_unknown why && not denied)) e)
    where
      denying : (b : Bool) → findings_of.denied_by b ≡ findings.Brings bytes → ⊥
      denying true f = cc
      denying false f = cc

-- ---- what is to be done

-- of the mount m, with which it was heard, and of the mount n, which there is then
abbrev pub Effects : Identity → Mounted → CallbackTable → ℕ → Mounted → Effect → Type 0
Effects who m back place n (effects.Drops why) = ⊥
Effects who m back place n (effects.Goes k) = k ≡ n
Effects who m back place n (effects.Denied job k) = k ≡ n
Effects who m back place n (effects.Stops job cause told k) = (k ≡ n) × TellsBy who m back told
Effects who m back place n (effects.Lands job chunk bytes told k) = (k ≡ n) × LandingTells who m back told × (awaited_at k place ≡ None)

pub record EffectEnds (who : Identity) (m n : Mounted) (d : Doing) (done : Done) : Type 0 where
  pub mount : done.doing.copier.work.mount ≡ n
  pub posts : KeepsPurposes n d.copier.work.workers done.doing.copier.work.workers
  pub tells : Tells who m d.copier.back done.sent done.doing.copier.back

module _ (who : Identity) (m : Mounted) (place : ℕ) (choice : Choice) (d : Doing) (clients : AreClients d.copier.back) where
  after_mounted : (n : Mounted) (done : Done) → Ends who m (record d { copier = mounted n d.copier }) done → EffectEnds who m n d done
  after_mounted n done ends = record {
    mount = ends.mount;
    posts = keeps_on n d.copier.work.workers (settled (with_mount n d.copier.work)).workers done.doing.copier.work.workers (settled_keeps n d.copier.work) ends.posts;
    tells = ends.tells;
  }

  pub effect_ends : (n : Mounted) (effect : Effect) → Effects who m d.copier.back place n effect → EffectEnds who m n d (effect_done choice place effect d)
  effect_ends n (effects.Drops why) does = absurd does
  effect_ends n (effects.Goes k) does =
      subst (λ (x : Mounted). EffectEnds who m x d (effect_done choice place (effects.Goes k) d)) does
      (record { mount = refl; posts = settled_keeps k d.copier.work; tells = tells_none who m d.copier.back clients })
  effect_ends n (effects.Denied job k) does =
      subst (λ (x : Mounted). EffectEnds who m x d (effect_done choice place (effects.Denied job k) d)) does
      (record { mount = refl; posts = settled_keeps k d.copier.work; tells = tells_none who m d.copier.back clients })
  effect_ends n (effects.Stops job cause told k) does =
      subst (λ (x : Mounted). EffectEnds who m x d (effect_done choice place (effects.Stops job cause told k) d)) does.0
      (after_mounted k (effect_done choice place (effects.Stops job cause told k) d) (stopped_ends who m job cause told (record d { copier = mounted k d.copier }) does.1))
  effect_ends n (effects.Lands job chunk bytes told k) does =
      subst (λ (x : Mounted). EffectEnds who m x d (effect_done choice place (effects.Lands job chunk bytes told k) d)) does.0
      (after_mounted k (effect_done choice place (effects.Lands job chunk bytes told k) d)
      (landed_ends who m choice place job chunk bytes told (record d { copier = mounted k d.copier }) clients does.1 does.2))

-- ---- what is heard: nothing, or what is to be done, of the mount that there is then

pub record IsNothing (x : Copier) (heard : Heard) (y : Copier) : Type 0 where
  pub work : y.work ≡ x.work
  pub back_is : y.back ≡ x.back
  pub why : Dropped
  pub effect : heard.effect ≡ effects.Drops why
  pub accepted : heard.accepted ≡ None

pub record IsSomething (who : Identity) (means : Means) (place : ℕ) (message : List ℕ) (x : Copier) (heard : Heard) (y : Copier) : Type 0 where
  pub work : y.work ≡ x.work
  pub back_is : y.back ≡ x.back
  pub mount : Mounted
  pub becomes : Becomes means place message x.work.mount mount
  pub effect : Effects who x.work.mount x.back place mount heard.effect
  pub accepted : heard.accepted ≡ (taken_at means place message x.work.mount).0.accepted

-- it is no reply to the call that is awaited
pub record IsUnmatched (means : Means) (place : ℕ) (message : List ℕ) (x : Copier) (heard : Heard) (y : Copier) : Type 0 where
  pub work : y.work ≡ x.work
  pub back_is : y.back ≡ x.back
  pub why : Dropped
  pub effect : heard.effect ≡ effects.Drops why
  pub mount : x.work.mount ≡ (taken_at means place message x.work.mount).1
  pub accepted : heard.accepted ≡ (taken_at means place message x.work.mount).0.accepted

-- the laws of mounts on what is taken
pub record TakenOnce (means : Means) : Type 0 where
  pub once : (place : ℕ) (message : List ℕ) (m : Mounted) → is_heard (taken_at means place message m).0.told ≡ true → awaited_at (taken_at means place message m).1 place ≡ None
  pub unmatched : (place : ℕ) (message : List ℕ) (m : Mounted) → is_heard (taken_at means place message m).0.told ≡ false → (taken_at means place message m).1 ≡ m

module _ (who : Identity) (means : Means) (laws : TakenOnce means) (codes : Codes) (around : Around) (place : ℕ) (message : List ℕ) (x : Copier) (clients : AreClients x.back) where
  abbrev pub HeardSo : Heard → Copier → Type 0
  HeardSo heard y = IsNothing x heard y ⊎ (IsUnmatched means place message x heard y ⊎ IsSomething who means place message x heard y)

  landing_tells : (job : JobName) → LandingTells who x.work.mount x.back (landing_for codes around job x)
  landing_tells job = by (is_running x.copies.book.table (id_of job))
    where
      by : (b : Bool) → LandingTells who x.work.mount x.back (landing_if b codes around job x)
      by true = (stop_goes who codes around x clients job DiskFault, stop_goes who codes around x clients job Worn)
      by false = tt

  stop_effects : (job : JobName) (cause : Stop) (n : Mounted) → Effects who x.work.mount x.back place n (replyings.stop_due codes around job cause n x)
  stop_effects job cause n = by (is_running x.copies.book.table (id_of job))
    where
      by : (b : Bool) → Effects who x.work.mount x.back place n (replyings.stop_effect b codes around job cause n x)
      by true = (refl, stop_goes who codes around x clients job cause)
      by false = refl

  bytes_effects : (job : JobName) (errand : Errand) (bytes : List ℕ) (n : Mounted) → awaited_at n place ≡ None
      → Effects who x.work.mount x.back place n (replyings.bytes_due codes around job errand bytes n x)
  bytes_effects job errands.Setup bytes n free = refl
  bytes_effects job errands.Confirm bytes n free = refl
  bytes_effects job errands.Size bytes n free = refl
  bytes_effects job (errands.Bytes chunk) bytes n free = (refl, landing_tells job, free)

  sized_effects : (may : Bool) (job : JobName) (size : ℕ) (n : Mounted) (effect : Effect) (y : Copier) → replyings.IsSizedIf may codes around job size n x effect y
      → (y.work ≡ x.work) × (y.back ≡ x.back) × Effects who x.work.mount x.back place n effect
  sized_effects false job size n effect y is =
      (ap (λ (c : Copier). c.work) is.still, ap (λ (c : Copier). c.back) is.still, subst (Effects who x.work.mount x.back place n) (sym is.is) refl)
  sized_effects true job size n effect y is = by (replyings.len_for x.copies.book.table.capacity size (named x.copies.book.table job)) is
    where
      by : (o : Option (Result ℕ Stop)) → replyings.IsSizedBy codes around job n o x effect y
          → (y.work ≡ x.work) × (y.back ≡ x.back) × Effects who x.work.mount x.back place n effect
      by None so = (ap (λ (c : Copier). c.work) so.still, ap (λ (c : Copier). c.back) so.still, subst (Effects who x.work.mount x.back place n) (sym so.is) refl)
      by (Some (Err cause)) so = (
        ap (λ (c : Copier). c.work) so.still,
        ap (λ (c : Copier). c.back) so.still,
        subst (Effects who x.work.mount x.back place n) (sym so.is) (stop_effects job cause n),
      )
      by (Some (Ok len)) so =
          (ap (λ (c : Copier). c.work) so.is, ap (λ (c : Copier). c.back) so.is, subst (Effects who x.work.mount x.back place n) (sym so.effect_is) refl)

  abbrev Told_by : Told
  Told_by = (taken_at means place message x.work.mount).0.told

  abbrev After : JobName → Errand → Mounted
  After job errand = mount_after place job errand Told_by x.copies.book.table x.work.mount (taken_at means place message x.work.mount).1

  -- where bytes were brought, nothing is awaited
  brought_free : (job : JobName) (errand : Errand) (bytes : List ℕ) → finding_of errand (was_denied job.number x.work.seats) Told_by ≡ findings.Brings bytes
      → awaited_at (After job errand) place ≡ None
  brought_free job errand bytes is =
      let it = brought means place message x.work.mount errand (was_denied job.number x.work.seats) Told_by bytes is in
      let stands : falls errand Told_by ≡ false = both_false (is_confirm errand) (is_denial Told_by) it.1 in
      let own : is_orphan Told_by job x.copies.book.table ≡ false = ap (λ (b : Bool). b && is_none (client_of x.copies.book.table job)) it.2 in
      ap (λ (f : Bool). awaited_at (fallen_if f (kept_if (is_orphan Told_by job x.copies.book.table) place x.work.mount (taken_at means place message x.work.mount).1)) place) stands
      ∙ ap (λ (o : Bool). awaited_at (kept_if o place x.work.mount (taken_at means place message x.work.mount).1) place) own
      ∙ laws.once place message x.work.mount it.0
    where
      both_false : (a b : Bool) → b ≡ false → (a && b) ≡ false
      both_false true b e = e
      both_false false b e = refl

  found_effects : (job : JobName) (errand : Errand) (finding : Finding) (effect : Effect) (y : Copier)
      → finding_of errand (was_denied job.number x.work.seats) Told_by ≡ finding → (finding ≡ findings.Unmatched → ⊥)
      → IsFound codes around job errand finding (After job errand) x effect y
      → (y.work ≡ x.work) × (y.back ≡ x.back) × Effects who x.work.mount x.back place (After job errand) effect
  found_effects job errand findings.Unmatched effect y finds matched is = absurd (matched refl)
  found_effects job errand findings.GoesOn effect y finds matched is =
      (ap (λ (c : Copier). c.work) is.still, ap (λ (c : Copier). c.back) is.still, subst (Effects who x.work.mount x.back place (After job errand)) (sym is.is) refl)
  found_effects job errand findings.FirstDenial effect y finds matched is =
      (ap (λ (c : Copier). c.work) is.still, ap (λ (c : Copier). c.back) is.still, subst (Effects who x.work.mount x.back place (After job errand)) (sym is.is) refl)
  found_effects job errand (findings.Stops cause) effect y finds matched is = (
    ap (λ (c : Copier). c.work) is.still,
    ap (λ (c : Copier). c.back) is.still,
    subst (Effects who x.work.mount x.back place (After job errand)) (sym is.is) (stop_effects job cause (After job errand)),
  )
  found_effects job errand (findings.HasSize size) effect y finds matched is =
      sized_effects (replyings.may_size job x) job size (After job errand) effect y is
  found_effects job errand (findings.Brings bytes) effect y finds matched is = (
    ap (λ (c : Copier). c.work) is.still,
    ap (λ (c : Copier). c.back) is.still,
    subst (Effects who x.work.mount x.back place (After job errand)) (sym is.is)
        (bytes_effects job errand bytes (After job errand) (brought_free job errand bytes finds)),
  )

  -- only what was told as unmatched is found so
  unmatched_told : (errand : Errand) (denied : Bool) (told : Told) → is_heard told ≡ true → finding_of errand denied told ≡ findings.Unmatched → ⊥
  unmatched_told errand denied tells.Unmatched heard e = absurd cc
  unmatched_told errand denied tells.Rooted heard e = cc
  unmatched_told errand denied (tells.Child child) heard e = cc
  unmatched_told errand denied (tells.Refused major) heard e = cc
  unmatched_told errand denied tells.Stepped heard e = cc
  unmatched_told errand denied (tells.Stopped status) heard e = refused (status.number == 0) e
    where
      refused : (b : Bool) → (if b then findings.Stops (SourceFailed SUCCESS) else findings.Stops (SourceRefused status)) ≡ findings.Unmatched → ⊥
      refused true f = cc
      refused false f = cc
  unmatched_told errand denied (tells.Answer reply) heard e = by (reply.status.number == 0) e
    where
      sized : (o : Option ℕ) → findings_of.sized_by o ≡ findings.Unmatched → ⊥
      sized None f = cc
      sized (Some size) f = cc

      brings : (asked : ℕ) (bytes : List ℕ) (more less : Bool)
          → (if more then findings.Stops (SourceFailed SUCCESS) else (if less then findings.Stops PastEnd else findings.Brings bytes)) ≡ findings.Unmatched → ⊥
      brings asked bytes true less f = cc
      brings asked bytes false true f = cc
      brings asked bytes false false f = cc

      brought_in : (asked : ℕ) (o : Option (List ℕ)) → findings_of.brought_by asked o ≡ findings.Unmatched → ⊥
      brought_in asked None f = cc
      brought_in asked (Some bytes) f = brings asked bytes (nat_lt asked (length bytes)) (nat_lt (length bytes) asked) f

      answers : (errand : Errand) → findings_of.answered errand reply.results ≡ findings.Unmatched → ⊥
      answers errands.Setup f = cc
      answers errands.Confirm f = cc
      answers errands.Size f = sized (at 2 told_size reply.results) f
      answers (errands.Bytes chunk) f = brought_in chunk.len (at 2 told_bytes reply.results) f

      by : (b : Bool) → (if b then findings_of.answered errand reply.results else findings.Stops (SourceRefused reply.status)) ≡ findings.Unmatched → ⊥
      by true f = answers errand f
      by false f = cc
  unmatched_told errand denied tells.Misspelt heard e = cc
  unmatched_told errand denied (tells.Failed stat) heard e = cc
  unmatched_told errand denied (tells.Denied why) heard e = denying (is_confirm errand && (findings_of.is_unknown why && not denied)) e
    where
      denying : (b : Bool) → findings_of.denied_by b ≡ findings.Unmatched → ⊥
      denying true f = cc
      denying false f = cc

  call_heard : (job : JobName) (errand : Errand) (heard : Heard) (y : Copier)
      → replyings.IsHeardAs codes around (taken_for place job errand x.copies.book.table x.work (taken_at means place message x.work.mount)) x heard y → HeardSo heard y
  call_heard job errand heard y is = by (is_heard Told_by) refl
    where
      unheard : (told : Told) → is_heard told ≡ false → finding_of errand (was_denied job.number x.work.seats) told ≡ findings.Unmatched
      unheard tells.Unmatched e = refl
      unheard tells.Rooted e = absurd cc
      unheard (tells.Child child) e = absurd cc
      unheard (tells.Refused major) e = absurd cc
      unheard tells.Stepped e = absurd cc
      unheard (tells.Stopped status) e = absurd cc
      unheard (tells.Answer reply) e = absurd cc
      unheard tells.Misspelt e = absurd cc
      unheard (tells.Failed stat) e = absurd cc
      unheard (tells.Denied why) e = absurd cc

      by : (b : Bool) → is_heard (taken_at means place message x.work.mount).0.told ≡ b → HeardSo heard y
      by true e =
          let told = (taken_at means place message x.work.mount).0.told in
          let it = found_effects job errand (finding_of errand (was_denied job.number x.work.seats) told) heard.effect y refl
          (unmatched_told errand (was_denied job.number x.work.seats) told e) is.effect in
          inr (inr (record {
            work = it.0;
            back_is = it.1;
            mount = mount_after place job errand told x.copies.book.table x.work.mount (taken_at means place message x.work.mount).1;
            becomes = becomes means place message x.work.mount job errand x.copies.book.table;
            effect = it.2;
            accepted = is.accepted;
          }))
      by false e =
          let told = (taken_at means place message x.work.mount).0.told in
          let none = unheard told e in
          let so = subst (λ (f : Finding). IsFound codes around job errand f
          (mount_after place job errand told x.copies.book.table x.work.mount (taken_at means place message x.work.mount).1) x heard.effect y) none is.effect in
          inr (inl (record {
            work = ap (λ (c : Copier). c.work) so.still;
            back_is = ap (λ (c : Copier). c.back) so.still;
            why = Unmatched;
            effect = so.is;
            mount = sym (laws.unmatched place message x.work.mount e);
            accepted = is.accepted;
          }))

  dropped_heard : (why : Dropped) (heard : Heard) (y : Copier) → replyings.IsDropped why x heard y → HeardSo heard y
  dropped_heard why heard y is = inl (record {
    work = ap (λ (c : Copier). c.work) is.still;
    back_is = ap (λ (c : Copier). c.back) is.still;
    why = why;
    effect = ap (λ (h : Heard). h.effect) is.is;
    accepted = ap (λ (h : Heard). h.accepted) is.is;
  })

  asked_heard : (o : Option (JobName × Errand)) (heard : Heard) (y : Copier)
      → IsHeardBy codes around (taken_by place x.copies.book.table x.work (taken_at means place message x.work.mount) o) x heard y → HeardSo heard y
  asked_heard None heard y is = dropped_heard Unmatched heard y is
  asked_heard (Some call) heard y is = call_heard call.0 call.1 heard y is

  pub heard_so : (read : Bool) (heard : Heard) (y : Copier)
      → IsHeardIf read codes around (taken_by place x.copies.book.table x.work (taken_at means place message x.work.mount) (asks (post_at x.work.workers place))) x heard y
      → HeardSo heard y
  heard_so false heard y is = dropped_heard Unread heard y is
  heard_so true heard y is = asked_heard (asks (post_at x.work.workers place)) heard y is
