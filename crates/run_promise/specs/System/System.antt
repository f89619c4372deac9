-- A run of three machines as a system that the promise speaks of (`wire_model`): what is seen of each end at each moment, and what
-- each did in each step. The copies of a run are those of all openings of the destination, in their order. Own definitions.
use Rattle.std.specs.Prelude.{ℕ, suc, Bool, false, List, length, slice_get, slice_index_or, Option, Some, None}
use Rattle.std.specs.Option.{option_map}
use Rattle.caller_laws.specs.View.{caller_of}
use Rattle.client_core.specs.State.{ClientState}
use Rattle.client_core.specs.Telling.{mount_at}
use Rattle.client_laws.specs.CallerLaws.{above_at}
use Rattle.client_laws.specs.WholeTurns.{Purposes}
use Rattle.copy_model.specs.Effect.{Effect, Rests}
use Rattle.copy_model.specs.Marks.{len_of}
use Rattle.dest_core.specs.Stepping.{DestState}
use Rattle.dest_laws.specs.Histories.Linked as opened
use Rattle.dest_laws.specs.View.Steps.{table_in}
use Rattle.dest_laws.specs.View.View.{caller_in, holds_at, made_in}
use Rattle.nfs_base.specs.declared.job.JobName.{JobName}
use Rattle.nfs_base.specs.declared.seal.End.{End}
use Rattle.nfs_base.specs.declared.seal.End.TheVariants.{Client, Dest, Source}
use Rattle.nfs_base.specs.declared.side.Side.TheVariants as sides
use Rattle.opening_laws.specs.Behind.{caller_behind, chunk_behind}
use Rattle.outbox.specs.declared.outgoing.Outbox.{Outbox}
use Rattle.past_copies.specs.Past.{all_copies, name_at}
use Rattle.run_ends.specs.Ends.{RunMachines, RunStep, RunWorld, SourceState}
use Rattle.run_promise.specs.System.Listing.{listed_in}
use Rattle.server_laws.specs.Acts.{acts_of}
use Rattle.server_laws.specs.View.{view}
use Rattle.session_server.specs.Host.{Codes, HostState}
use Rattle.volume_stops.specs.Stops.{crash_effect}
use Rattle.volume_stops.specs.declared.kept.Kept.{Kept}
use Rattle.wire_machine.specs.History.{Seen, Telling, acts_at, at_moment, deed_of, effect_of, job_at, no_job}
use Rattle.wire_machine.specs.Steps.{cut_of}
use Rattle.wire_model.specs.Copies.{Deed, Job, Plain}
use Rattle.wire_model.specs.Meaning.{Meaning}
use Rattle.wire_model.specs.Spelling.{Spelling}
use Rattle.wire_model.specs.System.{System}
use Rattle.wire_model.specs.Wire.{Caller, Executed, Server}
use Rattle.wire_model.specs.Word.{Word}

-- ---- what the servers tell of themselves

-- what a server told anew in a step in which it took a record on a connection
abbrev pub told_in : {X C : Type 0} → Codes → (bytes : List ℕ) → (now : ℕ) → HostState X C → HostState X C → Outbox → Option Executed
told_in codes bytes now s t out = (acts_of codes bytes now s (record { host = t; out = out })).executed

abbrev pub telling : {M : Type 0} → Codes → Telling (SourceState M) (DestState M)
telling codes = record {
  jobs = λ d. listed_in (table_in d);
  made = made_in;
  source_told = told_in codes;
  dest_told = told_in codes;
}

-- ---- views of the ends

-- an end that is no server
abbrev pub no_server : Server
no_server = record { boot = 0; made = 0; root = λ number. None; kept = λ session slot. None; last = λ session slot. 0 }

-- an end that calls nobody
abbrev pub no_caller : (boot : ℕ) → Caller
no_caller boot = record {
  boot = boot;
  calls = 0;
  has = λ context root. false;
  mount = None;
  next = λ slot. 0;
  awaits = λ place. None;
  ready = λ purpose. false;
}

abbrev pub server_in : {M : Type 0} → End → RunWorld M → Server
server_in Source w = view w.source
server_in Dest w = view w.dest
server_in Client w = no_server

-- the client is opened once; what its calls in slots are for goes along with it
abbrev pub client_at_source : {M : Type 0} → Purposes → ClientState M → Caller
client_at_source purposes c = caller_of (above_at 0 (purposes sides.Source) c) (mount_at sides.Source c)

abbrev pub client_at_dest : {M : Type 0} → Purposes → ClientState M → Caller
client_at_dest purposes c = caller_of (above_at 0 (purposes sides.Dest) c) (mount_at sides.Dest c)

-- the caller of a server (the first end) that another end is, where the destination stands by the copies of its present opening
abbrev pub caller_by : {M : Type 0} → End → End → Purposes → RunWorld M → Caller
caller_by Source Dest purposes w = caller_in w.dest
caller_by Source Client purposes w = client_at_source purposes w.client
caller_by Source Source purposes w = no_caller w.source.state.machine.store.volume.boot
caller_by Dest Client purposes w = client_at_dest purposes w.client
caller_by Dest Source purposes w = no_caller w.source.state.machine.store.volume.boot
caller_by Dest Dest purposes w = no_caller w.dest.state.machine.store.volume.boot
caller_by Client Source purposes w = no_caller w.source.state.machine.store.volume.boot
caller_by Client Dest purposes w = no_caller w.dest.state.machine.store.volume.boot
caller_by Client Client purposes w = no_caller 0

-- the same where its copies stand behind so many of its openings before
abbrev pub caller_over : {M : Type 0} → (base : ℕ) → End → End → Purposes → RunWorld M → Caller
caller_over base Source Dest purposes w = caller_behind base (caller_in w.dest)
caller_over base owner e purposes w = caller_by owner e purposes w

-- ---- the system

-- how a client's copies are seen: what it knows and has said of each, and of which names it holds reports
pub record ClientView (M : Type 0) : Type 0 where
  pub word : ClientState M → ℕ → Word
  pub held : ClientState M → JobName → Bool

module _ {M : Type 0} (m : RunMachines M) (codes : Codes) (spell : Spelling) (meaning : Meaning) (seen : ClientView M) (first : RunWorld M)
    (steps : List (RunStep M)) (purposes : ℕ → Purposes) where
  abbrev pub world_at : ℕ → RunWorld M
  world_at k = (at_moment m (telling codes) spell meaning first steps k).world

  abbrev pub seen_at : ℕ → Seen
  seen_at k = (at_moment m (telling codes) spell meaning first steps k).seen

  -- what the source did to its volume, past the last step nothing
  abbrev pub source_effect_by : Option Kept → RunStep M → Effect
  source_effect_by None s = effect_of (m.source_volume s.after.source) s.parts.source.out.used
  source_effect_by (Some kept) s = crash_effect kept s.parts.source.out.used

  abbrev pub source_effect : RunWorld M → Option (RunStep M) → Effect
  source_effect before None = Rests
  source_effect before (Some s) = source_effect_by (cut_of sides.Source before s) s

  -- ---- the copies of all openings

  -- a copy takes as much room as its length is in the end
  abbrev pub last_length : ℕ → ℕ
  last_length j = len_of (job_at (seen_at (length steps)) j).entries

  unfoldable pub system_of : System
  system_of = record {
    acts = acts_at m (telling codes) spell meaning first steps;
    server = λ owner k. server_in owner (world_at k);
    caller = λ owner e k. caller_over (length (seen_at k).past) owner e (purposes k) (world_at k);
    source = λ k. m.source_volume (world_at k).source;
    effect = λ k. source_effect (world_at k) (slice_get steps k);
    dest = λ k. m.dest_volume (world_at k).dest;
    bare = λ k. (seen_at k).bare;
    deed = λ k. (seen_at (suc k)).deed;
    made = λ k. length (all_copies (seen_at k).past (seen_at k).jobs);
    job = λ k j. job_at (seen_at k) j;
    reach = last_length;
    holds = λ k worker. option_map (chunk_behind (length (seen_at k).past)) (holds_at (world_at k).dest worker);
    name = λ k j. name_at (table_in (world_at k).dest).boot (seen_at k).past j;
    word = λ k n. seen.word (world_at k).client n;
    held = λ k name. seen.held (world_at k).client name;
  }

  -- ---- The copies of one opening, by its own numbers: of a run from the moment of the opening on, in which the destination never stops.

  abbrev pub own_job : ℕ → ℕ → Job
  own_job k j = slice_index_or (seen_at k).jobs j no_job

  abbrev pub own_deed : Option (RunStep M) → Deed
  own_deed None = Plain Rests
  own_deed (Some s) = deed_of (m.dest_volume s.after.dest) s.parts.dest

  unfoldable pub opening_of : System
  opening_of = record {
    acts = acts_at m (telling codes) spell meaning first steps;
    server = λ owner k. server_in owner (world_at k);
    caller = λ owner e k. caller_by owner e (purposes k) (world_at k);
    source = λ k. m.source_volume (world_at k).source;
    effect = λ k. source_effect (world_at k) (slice_get steps k);
    dest = λ k. m.dest_volume (world_at k).dest;
    bare = λ k. (seen_at k).bare;
    deed = λ k. own_deed (slice_get steps k);
    made = λ k. length (seen_at k).jobs;
    job = own_job;
    reach = λ j. len_of (own_job (length steps) j).entries;
    holds = λ k worker. holds_at (world_at k).dest worker;
    name = λ k j. opened.name_at (table_in (world_at k).dest).boot j;
    word = λ k n. seen.word (world_at k).client n;
    held = λ k name. seen.held (world_at k).client name;
  }
