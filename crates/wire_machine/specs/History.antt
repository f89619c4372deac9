-- What a run shows of its copies: a history as the promise speaks of it, computed from what the small steps did, so that no
-- mark says what no step did. Own definitions.
use Rattle.std.specs.Prelude.{ℕ, zero, suc, ◌+◌, ◌-◌, ◌==◌, ◌&&◌, ◌||◌, Bool, true, false, List, [], ◌∷◌, ◌++◌, length, map, slice_get, Option, Some, None, option_and_then, if◌then◌else◌}
use Rattle.std.specs.List.{list_any}
use Rattle.copy_model.specs.Effect.{Effect, Rests, Writes, Commits, WriteFails, CommitFails, after}
use Rattle.copy_model.specs.Job.{Plan, Entry}
use Rattle.copy_model.specs.Moment.{History, seen_dest, seen_source}
use Rattle.copy_model.specs.Volume.{Volume, bytes_at, file_at}
use Rattle.nfs_base.specs.declared.job.JobName.{JobName}
use Rattle.nfs_base.specs.declared.seal.End.{End}
use Rattle.nfs_base.specs.declared.seal.End.TheVariants as ends
use Rattle.nfs_base.specs.declared.seal.Seal.{Seal}
use Rattle.nfs_base.specs.declared.side.Side.TheVariants as sides
use Rattle.opening_laws.specs.Behind.{deed_behind}
use Rattle.outbox.specs.declared.note.Note.{Note}
use Rattle.outbox.specs.declared.note.Note.TheVariants as notes
use Rattle.outbox.specs.declared.outgoing.Outbox.{Outbox}
use Rattle.outbox.specs.declared.outgoing.Outgoing.{Outgoing}
use Rattle.past_copies.specs.Past.{Past, all_copies, copy_at, past_after}
use Rattle.server_volume.specs.declared.used.CallAnswer.{CallAnswer}
use Rattle.server_volume.specs.declared.used.CallAnswer.TheVariants as answers
use Rattle.server_volume.specs.declared.used.Used.{Used}
use Rattle.server_volume.specs.declared.used.VolumeCall.{VolumeCall}
use Rattle.server_volume.specs.declared.used.VolumeCall.TheVariants as calls
use Rattle.volume_stops.specs.Stops.{crash_effect}
use Rattle.volume_stops.specs.declared.kept.Kept.{Kept}
use Rattle.wire_lines.specs.declared.letters.Speaker.{Speaker}
use Rattle.wire_lines.specs.declared.letters.Speaker.TheVariants as speakers
use Rattle.wire_model.specs.Copies.{Deed, Job, Plain, Lands, LandFails, bare_effect, copy_of, did_of}
use Rattle.wire_model.specs.Meaning.{Meaning}
use Rattle.wire_model.specs.Spelling.{Spelling}
use Rattle.wire_model.specs.Wire.{Acts, Executed, Sent}
use Rattle.wire_machine.specs.Check.{same_end}
use Rattle.wire_machine.specs.Ends.{Machines}
use Rattle.wire_machine.specs.Steps.{Step, cut_of}
use Rattle.wire_machine.specs.World.{Part, Parts, World, all_idle}

-- ---- what the servers tell of themselves besides

-- a job that isn't retired: its number in its opening, its plan and its entries
pub record Listed : Type 0 where
  pub number : ℕ
  pub plan : Plan
  pub entries : List Entry

-- The jobs of a destination that aren't retired, and how many numbers of jobs it gave out; and what a server told anew in a step
-- in which it took a record in a second: operations and their results.
pub record Telling (S T : Type 0) : Type 0 where
  pub jobs : T → List Listed
  pub made : T → ℕ
  pub source_told : (bytes : List ℕ) → (now : ℕ) → S → S → Outbox → Option Executed
  pub dest_told : (bytes : List ℕ) → (now : ℕ) → T → T → Outbox → Option Executed

-- ---- what a step does to a volume, by the call that it made. Bytes that were written are those that stand there then.

abbrev pub effect_by : Volume → VolumeCall → CallAnswer → Effect
effect_by v (calls.Write file off len) answers.Done = Writes file off (bytes_at (file_at v file).now off len)
effect_by v (calls.Write file off len) answers.DiskFailed = WriteFails
effect_by v (calls.Commit file home) answers.Done = Commits file
effect_by v (calls.Commit file home) answers.DiskFailed = CommitFails file
effect_by v _ _ = Rests

-- no step makes more than one
abbrev pub effect_of : Volume → List Used → Effect
effect_of v [] = Rests
effect_of v (used ∷ more) = effect_by v used.call used.answer

-- ---- what a step does at the destination. A call of a client is one that it takes on its connection; all else is a worker's:
-- a chunk that lands, which is noted, or a commit.

abbrev pub takes_call : Speaker → Option (List ℕ) → Bool
takes_call speakers.Dest (Some bytes) = true
takes_call _ _ = false

abbrev pub is_call : Part → Bool
is_call part = takes_call part.speaker part.took

-- a chunk's job, and where it begins in the copied range
pub record Place : Type 0 where
  pub job : JobName
  pub off : ℕ

abbrev pub landing_in : List Note → Option Place
landing_in [] = None
landing_in (notes.Landed job off len ∷ more) = Some (record { job = job; off = off })
landing_in (note ∷ more) = landing_in more

-- jobs are numbered from 1 in the order of their acceptance
abbrev pub place_of : JobName → ℕ
place_of job = job.number - 1

abbrev pub deed_by : (call : Bool) → Effect → Option Place → Deed
deed_by false (Writes file off bytes) (Some chunk) = Lands (place_of chunk.job) chunk.off bytes
deed_by false WriteFails landing = LandFails
deed_by call effect landing = Plain effect

abbrev pub deed_of : Volume → Part → Deed
deed_of v part = deed_by (is_call part) (effect_of v part.out.used) (landing_in part.out.notes)

-- ---- what each end did, as a wire sees it

abbrev pub sent_of : Outgoing → Sent
sent_of out = record { bytes = out.bytes; seal = out.seal }

abbrev pub part_acts : Part → Option Executed → Acts
part_acts part executed = record { took = part.took; accepted = part.out.accepted; executed = executed; out = map sent_of part.out.sent }

-- only a call is executed
abbrev pub called_with : (call : Bool) → Option (List ℕ) → Option (List ℕ)
called_with true took = took
called_with false took = None

abbrev pub told_by : (List ℕ → Option Executed) → Option (List ℕ) → Option Executed
told_by told took = option_and_then told took

-- a server that stopped in the step told nothing
abbrev pub told_unless : Option Kept → Acts → Acts
told_unless None acts = acts
told_unless (Some kept) acts = record acts { executed = None }

module _ {S T C W : Type 0} (tell : Telling S T) where
  abbrev pub acts_in : World S T C W → Parts → World S T C W → End → Acts
  acts_in before parts now ends.Source =
      part_acts parts.source (told_by (λ bytes. tell.source_told bytes before.clock before.source now.source parts.source.out) parts.source.took)
  acts_in before parts now ends.Dest =
      part_acts parts.dest
      (told_by (λ bytes. tell.dest_told bytes before.clock before.dest now.dest parts.dest.out) (called_with (is_call parts.dest) parts.dest.took))
  acts_in before parts now ends.Client = part_acts parts.client None

  abbrev pub step_acts : World S T C W → Step S T C W → End → Acts
  step_acts before s ends.Source = told_unless (cut_of sides.Source before s) (acts_in before s.parts s.after ends.Source)
  step_acts before s ends.Dest = told_unless (cut_of sides.Dest before s) (acts_in before s.parts s.after ends.Dest)
  step_acts before s ends.Client = acts_in before s.parts s.after ends.Client

-- ---- which copies a step reports as stable: a CB_OFFLOAD under a context of the client's says so, or an OFFLOAD_STATUS was
-- answered that it is complete

abbrev pub is_name : JobName → Option JobName → Bool
is_name name None = false
is_name name (Some other) = (name.boot == other.boot) && (name.number == other.number)

abbrev pub is_clients : Option Seal → Bool
is_clients None = false
is_clients (Some seal) = same_end seal.owner ends.Client

abbrev pub reports : Spelling → Meaning → JobName → Sent → Bool
reports spell meaning name sent = is_clients sent.seal && (spell.is_callback sent.bytes && meaning.reports (spell.ops_of sent.bytes) name)

abbrev pub says_stable : Meaning → JobName → Option Executed → Bool
says_stable meaning name None = false
says_stable meaning name (Some told) = is_name name (meaning.asks_status told.ops) && meaning.says_complete told.results

abbrev pub is_reported : Spelling → Meaning → Acts → JobName → Bool
is_reported spell meaning acts name = list_any (reports spell meaning name) acts.out || says_stable meaning name acts.executed

-- ---- the copies in the order of their acceptance, the copy of number n at place n - 1. One that is listed has its entries
-- there; one whose number was given out, and that is listed no more, was retired, be it in the step in which it was accepted.

abbrev pub no_plan : Plan
no_plan = record { src_file = 0; src_off = 0; dst_file = 0; dst_off = 0; count = 0; consecutive = false }

-- at a place at which no copy was accepted
abbrev pub no_job : Job
no_job = record { plan = no_plan; entries = []; retired = false; lost = false; stable = false }

abbrev pub listed_at : (number : ℕ) → List Listed → Option Listed
listed_at number [] = None
listed_at number (l ∷ more) = if l.number == number then Some l else listed_at number more

abbrev pub looked_up : Option Listed → Job → Job
looked_up (Some l) job = record job { plan = l.plan; entries = l.entries }
looked_up None job = record job { retired = true }

abbrev pub marked_stable : Bool → Job → Job
marked_stable reported job = record job { stable = job.stable || reported }

module _ (listed : List Listed) (stable : JobName → Bool) (boot : ℕ) where
  -- a job that was seen as this one
  abbrev pub seen_next : (number : ℕ) → Job → Job
  seen_next number job = marked_stable (stable (record { boot = boot; number = number })) (looked_up (listed_at number listed) job)

  -- those that were seen before, by number from one on
  abbrev pub seen_again : (number : ℕ) → List Job → List Job
  seen_again number [] = []
  seen_again number (job ∷ jobs) = seen_next number job ∷ seen_again (number + 1) jobs

  -- so many more, whose numbers were given out in this step
  abbrev pub newly : (left number : ℕ) → List Job
  newly zero number = []
  newly (suc left) number = seen_next number no_job ∷ newly left (number + 1)

  abbrev pub jobs_after : (made : ℕ) → List Job → List Job
  jobs_after made jobs = seen_again 1 jobs ++ newly (made - length jobs) (length jobs + 1)

-- ---- what was seen up to a moment: the copies of the destination's openings before, those of its present one, its volume had no
-- chunk landed, and what the last step did

pub record Seen : Type 0 where
  pub past : List Past
  pub jobs : List Job
  pub bare : Volume
  pub deed : Deed

abbrev pub job_at : Seen → ℕ → Job
job_at seen place = copy_at no_job seen.past seen.jobs place

abbrev pub seen_first : Volume → Seen
seen_first v = record { past = []; jobs = []; bare = v; deed = Plain Rests }

-- where the destination stopped, its opening of this number has ended, and all copies are lost
abbrev pub lost_if : Option Kept → (boot : ℕ) → Seen → Seen
lost_if None boot seen = seen
lost_if (Some kept) boot seen = record seen { past = past_after boot seen.past seen.jobs; jobs = [] }

-- what the step did to its volume: a crash, or a deed among the copies of its opening, which stand behind so many
abbrev pub dest_deed : Option Kept → (base : ℕ) → Volume → Part → Deed
dest_deed None base v part = deed_behind base (deed_of v part)
dest_deed (Some kept) base v part = Plain (crash_effect kept part.out.used)

module _ {S T C W : Type 0} (m : Machines S T C W) (tell : Telling S T) (spell : Spelling) (meaning : Meaning) where
  abbrev pub sees : World S T C W → Step S T C W → Seen → Seen
  sees before s seen =
      let cut = cut_of sides.Dest before s in
      let was = lost_if cut (m.dest_volume before.dest).boot seen in
      let deed = dest_deed cut (length seen.past) (m.dest_volume s.after.dest) s.parts.dest in
      record {
        past = was.past;
        jobs = jobs_after (tell.jobs s.after.dest) (is_reported spell meaning (acts_in tell before s.parts s.after ends.Dest)) (m.dest_volume s.after.dest).boot
            (tell.made s.after.dest) was.jobs;
        bare = after seen.bare (bare_effect deed);
        deed = deed;
      }

  -- a moment of a run: what there is, and what was seen
  pub record At : Type 0 where
    pub world : World S T C W
    pub seen : Seen

  abbrev pub at_first : World S T C W → At
  at_first w = record { world = w; seen = seen_first (m.dest_volume w.dest) }

  -- past its last small step a run rests
  abbrev pub next : At → Option (Step S T C W) → At
  next at None = record at { seen = record at.seen { deed = Plain Rests } }
  next at (Some s) = record { world = s.after; seen = sees at.world s at.seen }

  abbrev pub at_moment : World S T C W → List (Step S T C W) → ℕ → At
  at_moment first steps zero = at_first first
  at_moment first steps (suc k) = next (at_moment first steps k) (slice_get steps k)

  -- ---- the history, and what a wire sees of each step

  abbrev pub history : World S T C W → List (Step S T C W) → History
  history first steps =
      λ k.
      let at = at_moment first steps k in
      record {
        source = seen_source (m.source_volume at.world.source);
        dest = seen_dest (m.dest_volume at.world.dest);
        bare = seen_dest at.seen.bare;
        made = length (all_copies at.seen.past at.seen.jobs);
        copy = λ j. copy_of (job_at at.seen j);
        did = did_of at.seen.deed;
      }

  abbrev pub acts_of : World S T C W → Option (Step S T C W) → End → Acts
  acts_of before None e = acts_in tell before all_idle before e
  acts_of before (Some s) e = step_acts tell before s e

  abbrev pub acts_at : World S T C W → List (Step S T C W) → End → ℕ → Acts
  acts_at first steps e k = acts_of (at_moment first steps k).world (slice_get steps k) e
