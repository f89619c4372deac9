-- What goes out where a worker hears a record of the source are calls: it answers nothing.
use Rattle.std.proofs.Common.{◌≡◌, ℕ, Bool, true, false, List, length, Option, Some, None, Result, Ok, Err, refl, sym, ap, subst}
use Rattle.std.specs.Prelude.{max, nat_lt, slice_index, if◌then◌else◌}
use Rattle.block_file.specs.declared.faults.WriteFault.TheVariants as faults
use Rattle.block_file.specs.declared.faults.WriteFault.{WriteFault}
use Rattle.copy_ops.specs.declared.callback.OffloadEnd.{OffloadEnd}
use Rattle.copy_ops.specs.declared.callback.OffloadEnd.TheVariants as offloads
use Rattle.dest_back.specs.Callbacks.{CallbackTable, line_for, post_at}
use Rattle.dest_back.specs.Telling as backs
use Rattle.dest_back.specs.declared.callbacks.Post.{Post}
use Rattle.dest_back.specs.declared.compound.Ended.{Ended}
use Rattle.dest_back.specs.declared.line.Line.{Line}
use Rattle.dest_back.specs.declared.telling.CallAt.{CallAt}
use Rattle.dest_core.specs.Stepping.{DestState, DestStep, IsReply, around, copier_in, reply_step, with_copier}
use Rattle.dest_laws.specs.Calls.Steps.{AreCalls}
use Rattle.dest_steps.specs.Copier.{Around, Codes, xid_of}
use Rattle.dest_steps.specs.Landing as landings
use Rattle.dest_steps.specs.Landing.{Doing, landed}
use Rattle.dest_steps.specs.Replying as replyings
use Rattle.dest_steps.specs.Replying.{IsFound, IsHeardBy, IsHeardIf, effect_done, is_read, taken_of}
use Rattle.dest_steps.specs.Telling as tellings
use Rattle.dest_steps.specs.Turning.{landing_for, landing_if}
use Rattle.dest_steps.specs.declared.copier.Copier.{Copier}
use Rattle.dest_steps.specs.declared.landing.Landing.{Landing}
use Rattle.dest_steps.specs.declared.replying.Effect.{Effect}
use Rattle.dest_steps.specs.declared.replying.Effect.TheVariants as effects
use Rattle.dest_steps.specs.declared.replying.Heard.{Heard}
use Rattle.dest_tasks.specs.Seats.{seat_of}
use Rattle.dest_tasks.specs.declared.post.Errand.{Errand}
use Rattle.dest_tasks.specs.declared.post.Errand.TheVariants as errands
use Rattle.dest_work.specs.declared.finding.Finding.{Finding}
use Rattle.dest_work.specs.declared.finding.Finding.TheVariants as findings
use Rattle.dest_work.specs.declared.work.Taken.{Taken}
use Rattle.gss_ctx.specs.Seals.{Mic}
use Rattle.job_book.specs.Book.{id_of, named}
use Rattle.job_log.specs.declared.chunk.Chunk.{Chunk}
use Rattle.job_log.specs.declared.chunk.Landing.{Landing as TakesIt}
use Rattle.job_log.specs.declared.chunk.Landing.TheVariants as takes
use Rattle.job_table.specs.Table.{is_running, status_of, table_landing}
use Rattle.job_table.specs.declared.job.Job.{Job}
use Rattle.mount.specs.State.{Mounted}
use Rattle.nfs_base.specs.declared.job.JobName.{JobName}
use Rattle.nfs_base.specs.declared.job.Stop.{Stop}
use Rattle.nfs_base.specs.declared.job.Stop.TheVariants.{DiskFault, Worn}
use Rattle.nfs_base.specs.declared.status.Status.{Status}
use Rattle.server_volume.specs.Calls.{write_call}
use Rattle.server_volume.specs.Choices.{Choice, choice_of}
use Rattle.sess_slots.specs.Begins.{back_at}
use Rattle.sess_slots.specs.Table.{SessionTable}
use Rattle.sess_slots.specs.declared.answers.Back.{Back}
use Rattle.session_client.specs.Sealing.{after_call}
use Rattle.session_client.specs.Slots.{after_new}
use Rattle.wire_spelling.specs.ReadLaws.{call_is_no_reply}

-- ---- a callback is a call

module _ (mic : Mic) (sessions : SessionTable) (at : CallAt) where
  called_calls : (post : Post) (back : Back) (line : Line) (number : ℕ) (told : Ended) (c : CallbackTable)
      → AreCalls (tellings.callbacks (backs.called_on mic sessions at post back line number told c).0)
  called_calls post back line number told c = by (nat_lt line.caller.next 2147483648)
    where
      by : (b : Bool) → AreCalls (tellings.callbacks (backs.sent_on sessions at post back line number told
          (if b then (Some (backs.sealed_callback mic line.caller at.xid back.program (backs.slot_use at line number) told), after_call line.caller) else (None, line.caller)) c).0)
      by true = (call_is_no_reply _ _, tt)
      by false = tt

  new_calls : (post : Post) (back : Back) (told : Ended) (line : Line) (c : CallbackTable) → AreCalls (tellings.callbacks (backs.new_on mic sessions at post back told line c).0)
  new_calls post back told line c = by (nat_lt (slice_index line.numbers at.seat) 4294967295)
    where
      by : (b : Bool) → AreCalls (tellings.callbacks (if b
          then backs.called_on mic sessions at post back (record line { numbers = after_new line.numbers at.seat }) (slice_index line.numbers at.seat) told c
          else (None, c)).0)
      by true = called_calls post back (record line { numbers = after_new line.numbers at.seat }) (slice_index line.numbers at.seat) told c
      by false = tt

  told_calls : (derived : List ℕ → ℕ → List ℕ → List ℕ) (ended : Ended) (c : CallbackTable) (post : Option Post)
      → AreCalls (tellings.callbacks (backs.told_at mic derived sessions at ended post c).0)
  told_calls derived ended c None = tt
  told_calls derived ended c (Some post) = by (back_at sessions post.party.session)
    where
      by : (o : Option Back) → AreCalls (tellings.callbacks (backs.told_to mic derived sessions at ended post o c).0)
      by None = tt
      by (Some back) = new_calls post back ended (line_for derived post.party back c.lines) c

-- ---- how a job ended

module _ (codes : Codes) (around : Around) (x : Copier) where
  telling_calls : (name : JobName) (end : OffloadEnd) → AreCalls (tellings.telling codes around name end x).sent
  telling_calls name end = by (xid_of x.work.mount x.back) (seat_of name.number x.work.seats) (named x.copies.book.table name)
    where
      by : (xid seat : Option ℕ) (job : Option Job) → AreCalls (tellings.telling_by codes around name end xid seat job x).sent
      by None seat job = tt
      by (Some xid) None job = tt
      by (Some xid) (Some seat) None = tt
      by (Some xid) (Some seat) (Some job) =
          told_calls codes.mic around.sessions (tellings.call_at around seat xid) codes.derived (tellings.ended_of around name job end) x.back (post_at x.back seat)

  stop_calls : (name : JobName) (cause : Stop) → AreCalls (tellings.stop_telling codes around name cause x).sent
  stop_calls name cause = by (status_of cause)
    where
      by : (o : Option Status) → AreCalls (tellings.stop_telling_by codes around name o x).sent
      by None = tt
      by (Some status) = telling_calls name (offloads.Failed status (tellings.landed_by name x))

-- ---- what is to be done

abbrev LandingCalls : Option Landing → Type 0
LandingCalls None = Unit {0}
LandingCalls (Some told) = AreCalls told.fault.sent × AreCalls told.worn.sent

abbrev EffectCalls : Effect → Type 0
EffectCalls (effects.Stops job cause told m) = AreCalls told.sent
EffectCalls (effects.Lands job chunk bytes told m) = LandingCalls told
EffectCalls effect = Unit {0}

fault_calls : (fault : WriteFault) (told : Landing) → AreCalls told.fault.sent → AreCalls told.worn.sent → AreCalls (landings.told_of fault told).sent
fault_calls faults.Worn told fault worn = worn
fault_calls faults.TooFar told fault worn = fault
fault_calls faults.DiskFailed told fault worn = fault
fault_calls faults.Broken told fault worn = fault

written_calls : (job : JobName) (chunk : Chunk) (told : Landing) (d : Doing) → LandingCalls (Some told) → (o : Option WriteFault)
    → AreCalls (landings.written job chunk told o d).sent
written_calls job chunk told d calls None = tt
written_calls job chunk told d calls (Some fault) = fault_calls fault told calls.0 calls.1

where_calls : (choice : Choice) (job : JobName) (chunk : Chunk) (bytes : List ℕ) (told : Landing) (d : Doing) → LandingCalls (Some told) → (o : Option (ℕ × ℕ))
    → AreCalls (landings.written_where choice job chunk bytes told o d).sent
where_calls choice job chunk bytes told d calls None = tt
where_calls choice job chunk bytes told d calls (Some place) =
    let c = write_call choice d.used d.store place.0 place.1 bytes in
    written_calls job chunk told (landings.with_write c d) calls c.fault

if_calls : (choice : Choice) (job : JobName) (chunk : Chunk) (bytes : List ℕ) (d : Doing) (told : Option Landing) → LandingCalls told
    → AreCalls (landings.written_if choice job chunk bytes told d).sent
if_calls choice job chunk bytes d None calls = tt
if_calls choice job chunk bytes d (Some told) calls =
    where_calls choice job chunk bytes told d calls (landings.target d.store chunk (length bytes) (named d.copier.copies.book.table job))

landed_calls : (choice : Choice) (place : ℕ) (job : JobName) (chunk : Chunk) (bytes : List ℕ) (told : Option Landing) (d : Doing) → LandingCalls told
    → AreCalls (landed choice place job chunk bytes told d).sent
landed_calls choice place job chunk bytes told d calls = by (table_landing d.copier.copies.book.table (id_of job) chunk)
  where
    by : (t : TakesIt) → AreCalls (landings.landed_by t choice place job chunk bytes told d).sent
    by takes.Late = tt
    by takes.Held = tt
    by takes.Landed = if_calls choice job chunk bytes d told calls

done_calls : (choice : Choice) (place : ℕ) (effect : Effect) (d : Doing) → EffectCalls effect → AreCalls (effect_done choice place effect d).sent
done_calls choice place (effects.Drops why) d calls = tt
done_calls choice place (effects.Goes m) d calls = tt
done_calls choice place (effects.Denied job m) d calls = tt
done_calls choice place (effects.Stops job cause told m) d calls = calls
done_calls choice place (effects.Lands job chunk bytes told m) d calls =
    landed_calls choice place job chunk bytes told (landings.with_copier (replyings.mounted m d.copier) d) calls

-- ---- what is heard

module _ (codes : Codes) (around : Around) (x : Copier) where
  due_calls : (job : JobName) (cause : Stop) (m : Mounted) → EffectCalls (replyings.stop_due codes around job cause m x)
  due_calls job cause m = by (is_running x.copies.book.table (id_of job))
    where
      by : (b : Bool) → EffectCalls (replyings.stop_effect b codes around job cause m x)
      by true = stop_calls codes around x job cause
      by false = tt

  landing_calls : (job : JobName) → LandingCalls (landing_for codes around job x)
  landing_calls job = by (is_running x.copies.book.table (id_of job))
    where
      by : (b : Bool) → LandingCalls (landing_if b codes around job x)
      by true = (stop_calls codes around x job DiskFault, stop_calls codes around x job Worn)
      by false = tt

  bytes_calls : (job : JobName) (errand : Errand) (bytes : List ℕ) (m : Mounted) → EffectCalls (replyings.bytes_due codes around job errand bytes m x)
  bytes_calls job errands.Setup bytes m = tt
  bytes_calls job errands.Confirm bytes m = tt
  bytes_calls job errands.Size bytes m = tt
  bytes_calls job (errands.Bytes chunk) bytes m = landing_calls job

  sized_calls : (may : Bool) (job : JobName) (size : ℕ) (m : Mounted) (effect : Effect) (y : Copier) → replyings.IsSizedIf may codes around job size m x effect y
      → EffectCalls effect
  sized_calls false job size m effect y is = subst EffectCalls (sym is.is) tt
  sized_calls true job size m effect y is = by (replyings.len_for x.copies.book.table.capacity size (named x.copies.book.table job)) is
    where
      by : (o : Option (Result ℕ Stop)) → replyings.IsSizedBy codes around job m o x effect y → EffectCalls effect
      by None so = subst EffectCalls (sym so.is) tt
      by (Some (Err cause)) so = subst EffectCalls (sym so.is) (due_calls job cause m)
      by (Some (Ok len)) so = subst EffectCalls (sym so.effect_is) tt

  found_calls : (job : JobName) (errand : Errand) (finding : Finding) (m : Mounted) (effect : Effect) (y : Copier) → IsFound codes around job errand finding m x effect y
      → EffectCalls effect
  found_calls job errand findings.Unmatched m effect y is = subst EffectCalls (sym is.is) tt
  found_calls job errand findings.GoesOn m effect y is = subst EffectCalls (sym is.is) tt
  found_calls job errand findings.FirstDenial m effect y is = subst EffectCalls (sym is.is) tt
  found_calls job errand (findings.Stops cause) m effect y is = subst EffectCalls (sym is.is) (due_calls job cause m)
  found_calls job errand (findings.HasSize size) m effect y is = sized_calls (replyings.may_size job x) job size m effect y is
  found_calls job errand (findings.Brings bytes) m effect y is = subst EffectCalls (sym is.is) (bytes_calls job errand bytes m)

  taken_calls : (t : Option Taken) (heard : Heard) (y : Copier) → IsHeardBy codes around t x heard y → EffectCalls heard.effect
  taken_calls None heard y is = subst EffectCalls (sym (ap (λ (h : Heard). h.effect) is.is)) tt
  taken_calls (Some t) heard y is = found_calls t.job t.errand t.finding t.mount heard.effect y is.effect

  heard_calls : (read : Bool) (t : Option Taken) (heard : Heard) (y : Copier) → IsHeardIf read codes around t x heard y → EffectCalls heard.effect
  heard_calls false t heard y is = subst EffectCalls (sym (ap (λ (h : Heard). h.effect) is.is)) tt
  heard_calls true t heard y is = taken_calls t heard y is

-- ---- the step

pub reply_calls : {M : Type 0} (codes : Codes) (finish : List ℕ → List ℕ → Option (List ℕ)) (place : ℕ) (message : List ℕ) (now : ℕ) (s : DestState M) (t : DestStep M)
    → IsReply codes finish place message now s t → AreCalls t.out.sent
reply_calls {M} codes finish place message now s t reply =
    let choice = choice_of t.out.used in
    let is : t ≡ reply_step choice place now reply.heard (with_copier reply.copier s) = reply.is choice (λ n below. refl) in
    subst (λ (u : DestStep M). AreCalls u.out.sent) (sym is)
    (done_calls choice place reply.heard.effect _
    (heard_calls codes (around (max s.second now) s) (copier_in s) (is_read message) (taken_of codes finish place message (copier_in s)) reply.heard reply.copier reply.is_heard))
