-- What small steps keep.
use Rattle.std.proofs.Common.{◌≡◌, ℕ, ◌+◌, ◌≤◌, List, length, refl, sym, ap, ◌∙◌, subst, arith}
use Rattle.block_file.specs.Opened.{Opened}
use Rattle.client_core.specs.State.{ClientState}
use Rattle.client_core.specs.Telling.{copy_of}
use Rattle.wire_machine.specs.Runs.{most_bytes}
use Rattle.wire_machine.specs.World.{bytes_of}
use Rattle.outbox.specs.declared.outgoing.Outbox.{Outbox}
use Rattle.wire_machine.specs.declared.choice.Choice.{Choice}
use Rattle.wire_machine.specs.Ends.{DestAct, SourceAct, ClientAct}
use Rattle.run_ends.specs.Ends.{RunMachines}
use Rattle.wire_run.proofs.Cores.{dest_there, source_there}
use Rattle.wire_run.specs.Stage.{BeginsNone, ClientActs, LooksOnly, later_clock, DestActs, DestHost, DestKeeps, Grows, IsBelow, IsDestOpen, IsReady, IsSourceOpen, SettleKeeps, SmallKeeps, SourceActs, SourceHost, SourceKeeps, SourceLeaves, StageKeeps, DestLeaves, VolumeKeeps, VolumeStays, dest_steps, source_steps}
use Rattle.wire_run.specs.declared.ends.DestEnd.{DestEnd}
use Rattle.wire_run.specs.declared.ends.DestEnd.TheVariants as dest_end
use Rattle.wire_run.specs.declared.ends.SourceEnd.{SourceEnd}
use Rattle.wire_run.specs.declared.ends.SourceEnd.TheVariants as source_end
use Rattle.wire_run.specs.declared.stage.Stage.{Stage}
use Rattle.wire_run.proofs.Logs.{grows_keeps, grows_none, keeps_all}

pub keeps_still : {D : Type 0} (v : Opened D) → VolumeKeeps v v
keeps_still v = record { files = refl; tag = refl }

pub keeps_of : {D : Type 0} (old new : Opened D) → VolumeStays old new → VolumeKeeps old new
keeps_of old new stays = record { files = stays.files; tag = stays.tag }

-- a server that is there afterwards
pub source_left : {D M : Type 0} (told : Type 0) (was next : SourceHost D M) (new : SourceEnd D M) → new ≡ source_end.Open next
    → (told → VolumeKeeps was.server.files.volume next.server.files.volume) → SourceLeaves told was new
source_left {D} {M} told was next new is keeps = subst (λ (e : SourceEnd D M). SourceLeaves told was e) (sym is) keeps

pub dest_left : {D M : Type 0} (told : Type 0) (was next : DestHost D M) (new : DestEnd D M) → new ≡ dest_end.Open next
    → (told → VolumeKeeps was.server.files.volume next.server.files.volume) → DestLeaves told was new
dest_left {D} {M} told was next new is keeps = subst (λ (e : DestEnd D M). DestLeaves told was e) (sym is) keeps

-- one whose volume stays
pub source_stays : {D M : Type 0} (told : Type 0) (old new : SourceEnd D M) (was next : SourceHost D M) → old ≡ source_end.Open was → new ≡ source_end.Open next
    → (told → VolumeStays was.server.files.volume next.server.files.volume) → SourceKeeps told old new
source_stays told old new was next was_is next_is stays =
    record { was = was; was_is = was_is; leaves = source_left told was next new next_is (λ t. keeps_of _ _ (stays t)) }

pub dest_stays : {D M : Type 0} (told : Type 0) (old new : DestEnd D M) (was next : DestHost D M) → old ≡ dest_end.Open was → new ≡ dest_end.Open next
    → (told → VolumeStays was.server.files.volume next.server.files.volume) → DestKeeps told old new
dest_stays told old new was next was_is next_is stays =
    record { was = was; was_is = was_is; leaves = dest_left told was next new next_is (λ t. keeps_of _ _ (stays t)) }

-- an end that is another's
pub source_as : {D M : Type 0} (told : Type 0) (old mid new : SourceEnd D M) → SourceKeeps told old mid → new ≡ mid → SourceKeeps told old new
source_as {D} {M} told old mid new k same = subst (λ (e : SourceEnd D M). SourceKeeps told old e) (sym same) k

pub dest_as : {D M : Type 0} (told : Type 0) (old mid new : DestEnd D M) → DestKeeps told old mid → new ≡ mid → DestKeeps told old new
dest_as {D} {M} told old mid new k same = subst (λ (e : DestEnd D M). DestKeeps told old e) (sym same) k

-- ---- a server that does nothing

pub source_still : {D M : Type 0} (told : Type 0) (old new : SourceEnd D M) → IsSourceOpen old → new ≡ old → SourceKeeps told old new
source_still told old new opened same =
    let c = source_there old opened in
    record { was = c.core; was_is = c.is; leaves = source_left told c.core c.core new (same ∙ c.is) (λ t. keeps_still _) }

pub dest_still : {D M : Type 0} (told : Type 0) (old new : DestEnd D M) → IsDestOpen old → new ≡ old → DestKeeps told old new
dest_still told old new opened same =
    let c = dest_there old opened in
    record { was = c.core; was_is = c.is; leaves = dest_left told c.core c.core new (same ∙ c.is) (λ t. keeps_still _) }

-- ---- no copy is begun where the client is as it was

pub begins_same : {M : Type 0} (old new : ClientState M) → new ≡ old → BeginsNone old new
begins_same old new same = λ j none. ap (copy_of j) same ∙ none

-- ---- from the parts

pub small_keeps : {D M : Type 0} (told : Type 0) (old new : Stage D M) → SourceKeeps told old.source new.source → DestKeeps told old.dest new.dest
    → new.client.setting ≡ old.client.setting → Grows old.log new.log → bytes_of new.log ≤ most_bytes
    → source_steps new.source ≤ source_steps old.source + 1 → dest_steps new.dest ≤ dest_steps old.dest + 1 → new.client.steps ≤ old.client.steps + 1
    → length new.choices.items ≤ length old.choices.items + 1 → new.flowed ≡ old.flowed
    → SmallKeeps told old new
small_keeps told old new source dest setting grows bytes s d c k flowed = record {
  keeps = record { source = source; dest = dest; setting = setting; log = grows_keeps old.log new.log grows; bytes = bytes };
  below = λ n b. record {
    source = omega (arith, b.source, s);
    dest = omega (arith, b.dest, d);
    client = omega (arith, b.client, c);
    choices = omega (arith, b.choices, k);
  };
  flowed = flowed;
}

-- steps of a server that is as it was, and of one that made one
pub same_source : {D M : Type 0} (old new : SourceEnd D M) → new ≡ old → source_steps new ≤ source_steps old + 1
same_source old new same = omega (arith, ap source_steps same)

pub same_dest : {D M : Type 0} (old new : DestEnd D M) → new ≡ old → dest_steps new ≤ dest_steps old + 1
same_dest old new same = omega (arith, ap dest_steps same)

pub one_source : {D M : Type 0} (old new : SourceEnd D M) (was next : SourceHost D M) → old ≡ source_end.Open was → new ≡ source_end.Open next → next.steps ≤ was.steps + 1
    → source_steps new ≤ source_steps old + 1
one_source old new was next p q counted =
    let a : source_steps old ≡ was.steps = ap source_steps p in
    let b : source_steps new ≡ next.steps = ap source_steps q in
    omega (arith, a, b, counted)

pub one_dest : {D M : Type 0} (old new : DestEnd D M) (was next : DestHost D M) → old ≡ dest_end.Open was → new ≡ dest_end.Open next → next.steps ≤ was.steps + 1
    → dest_steps new ≤ dest_steps old + 1
one_dest old new was next p q counted =
    let a : dest_steps old ≡ was.steps = ap dest_steps p in
    let b : dest_steps new ≡ next.steps = ap dest_steps q in
    omega (arith, a, b, counted)

-- ---- memory ran out in an act of an end: the end is as it was

pub starved : {D M : Type 0} (told : Type 0) (old : Stage D M) (source : SourceEnd D M) (dest : DestEnd D M) (client : ClientState M) (draws clock : ℕ)
    → IsReady old → bytes_of old.log ≤ most_bytes → source ≡ old.source → dest ≡ old.dest → client ≡ old.client
    → SmallKeeps told old (record old { source = source; dest = dest; client = client; draws = draws; clock = clock })
starved told old source dest client draws clock ready bytes p q r =
    small_keeps told old _ (source_still told old.source source ready.source p) (dest_still told old.dest dest ready.dest q)
    (ap (λ (c : ClientState _). c.setting) r) (grows_none old.log) bytes (same_source old.source source p) (same_dest old.dest dest q)
    (omega (arith, ap (λ (c : ClientState _). c.steps) r)) (omega arith) refl

-- ---- an end acted, and what it gave was settled

pub source_kept : {D M : Type 0} (told : Type 0) (m : RunMachines M) (faults size : D → ℕ) (act : SourceAct) (now : ℕ) (old new : Stage D M)
    (source : SourceEnd D M) (draws : ℕ) (out : Outbox) → IsReady old
    → SourceActs told m faults size act now old.source old.draws source draws out → SettleKeeps (record old { source = source; draws = draws }) new
    → SmallKeeps told old new
source_kept told m faults size act now old new source draws out ready acts k =
    small_keeps told old new
    (source_stays told old.source new.source acts.was acts.next acts.was_is (k.source ∙ acts.next_is) acts.stays)
    (dest_still told old.dest new.dest ready.dest k.dest) (ap (λ (c : ClientState _). c.setting) k.client) k.log k.bytes
    (one_source old.source new.source acts.was acts.next acts.was_is (k.source ∙ acts.next_is) acts.counted) (same_dest old.dest new.dest k.dest)
    (omega (arith, ap (λ (c : ClientState _). c.steps) k.client)) k.choices k.flowed

pub dest_kept : {D M : Type 0} (told : Type 0) (m : RunMachines M) (faults size : D → ℕ) (act : DestAct) (now : ℕ) (old new : Stage D M)
    (dest : DestEnd D M) (draws : ℕ) (out : Outbox) → IsReady old
    → DestActs told m faults size act now old.dest old.draws dest draws out → SettleKeeps (record old { dest = dest; draws = draws }) new
    → SmallKeeps told old new
dest_kept told m faults size act now old new dest draws out ready acts k =
    small_keeps told old new (source_still told old.source new.source ready.source k.source)
    (dest_stays told old.dest new.dest acts.was acts.next acts.was_is (k.dest ∙ acts.next_is) acts.stays)
    (ap (λ (c : ClientState _). c.setting) k.client) k.log k.bytes
    (same_source old.source new.source k.source) (one_dest old.dest new.dest acts.was acts.next acts.was_is (k.dest ∙ acts.next_is) acts.counted)
    (omega (arith, ap (λ (c : ClientState _). c.steps) k.client)) k.choices k.flowed

pub client_kept : {D M : Type 0} (told : Type 0) (m : RunMachines M) (act : ClientAct) (now : ℕ) (old new : Stage D M)
    (client : ClientState M) (draws : ℕ) (out : Outbox) → IsReady old
    → ClientActs m act now old.client old.draws client draws out → SettleKeeps (record old { client = client; draws = draws }) new
    → SmallKeeps told old new
client_kept told m act now old new client draws out ready acts k =
    small_keeps told old new (source_still told old.source new.source ready.source k.source) (dest_still told old.dest new.dest ready.dest k.dest)
    (ap (λ (c : ClientState _). c.setting) k.client ∙ acts.setting) k.log k.bytes
    (same_source old.source new.source k.source) (same_dest old.dest new.dest k.dest)
    (omega (arith, ap (λ (c : ClientState _). c.steps) k.client, acts.counted)) k.choices k.flowed

-- nobody acted
pub rest_kept : {D M : Type 0} (told : Type 0) (old new : Stage D M) → IsReady old → SettleKeeps old new → SmallKeeps told old new
rest_kept told old new ready k =
    small_keeps told old new (source_still told old.source new.source ready.source k.source) (dest_still told old.dest new.dest ready.dest k.dest)
    (ap (λ (c : ClientState _). c.setting) k.client) k.log k.bytes
    (same_source old.source new.source k.source) (same_dest old.dest new.dest k.dest)
    (omega (arith, ap (λ (c : ClientState _). c.steps) k.client)) k.choices k.flowed

-- ---- ends that look at the clock, one after the other

pub source_keeps_by : {D M : Type 0} (told : Type 0) (m : RunMachines M) (faults size : D → ℕ) (act : SourceAct) (now : ℕ) (old new : SourceEnd D M) (before after : ℕ) (out : Outbox)
    → SourceActs told m faults size act now old before new after out → SourceKeeps told old new
source_keeps_by told m faults size act now old new before after out a = source_stays told old new a.was a.next a.was_is a.next_is a.stays

pub dest_keeps_by : {D M : Type 0} (told : Type 0) (m : RunMachines M) (faults size : D → ℕ) (act : DestAct) (now : ℕ) (old new : DestEnd D M) (before after : ℕ) (out : Outbox)
    → DestActs told m faults size act now old before new after out → DestKeeps told old new
dest_keeps_by told m faults size act now old new before after out a = dest_stays told old new a.was a.next a.was_is a.next_is a.stays

pub looked_keeps : {D M : Type 0} (told : Type 0) (old : Stage D M) (source : SourceEnd D M) (dest : DestEnd D M) (client : ClientState M) → bytes_of old.log ≤ most_bytes
    → SourceKeeps told old.source source → DestKeeps told old.dest dest → client.setting ≡ old.client.setting
    → source_steps source ≤ source_steps old.source + 1 → dest_steps dest ≤ dest_steps old.dest + 1 → client.steps ≤ old.client.steps + 1
    → SmallKeeps told old (record old { source = source; dest = dest; client = client })
looked_keeps told old source dest client bytes s d setting p q r =
    small_keeps told old _ s d setting (grows_none old.log) bytes p q r (omega arith) refl

pub tick_kept : {D M : Type 0} (told : Type 0) (seconds : ℕ) (old looked new : Stage D M) → SmallKeeps told (later_clock seconds old) looked → LooksOnly (later_clock seconds old) looked
    → SettleKeeps looked new → SmallKeeps told old new
tick_kept {D} {M} told seconds old looked new k only settled = record {
  keeps = record {
    source = source_as told old.source looked.source new.source k.keeps.source settled.source;
    dest = dest_as told old.dest looked.dest new.dest k.keeps.dest settled.dest;
    setting = ap (λ (c : ClientState M). c.setting) settled.client ∙ k.keeps.setting;
    log = keeps_all old.log looked.log new.log k.keeps.log (grows_keeps looked.log new.log settled.log);
    bytes = settled.bytes;
  };
  below = λ n b.
      let c : IsBelow n (later_clock seconds old) = record { source = b.source; dest = b.dest; client = b.client; choices = b.choices } in
      let l = k.below n c in
      record {
        source = omega (arith, ap (λ (e : SourceEnd D M). source_steps e) settled.source, l.source);
        dest = omega (arith, ap (λ (e : DestEnd D M). dest_steps e) settled.dest, l.dest);
        client = omega (arith, ap (λ (x : ClientState M). x.steps) settled.client, l.client);
        choices = omega (arith, settled.choices, ap (λ (cs : List Choice). length cs) only.choices, b.choices);
      };
  flowed = settled.flowed ∙ k.flowed;
}

-- ---- one stage after the other

keeps_on : {D : Type 0} (a b c : Opened D) → VolumeKeeps a b → VolumeKeeps b c → VolumeKeeps a c
keeps_on a b c p q = record { files = q.files ∙ p.files; tag = q.tag ∙ p.tag }

source_further : {D M : Type 0} (told : Type 0) (a b : SourceHost D M) (c : SourceEnd D M) → (told → VolumeKeeps a.server.files.volume b.server.files.volume)
    → SourceLeaves told b c → SourceLeaves told a c
source_further told a b (source_end.Open next) first later =
    λ t. keeps_on a.server.files.volume b.server.files.volume next.server.files.volume (first t) (later t)
source_further told a b source_end.Away first later = tt
source_further told a b (source_end.Disk disk) first later = absurd later

dest_further : {D M : Type 0} (told : Type 0) (a b : DestHost D M) (c : DestEnd D M) → (told → VolumeKeeps a.server.files.volume b.server.files.volume)
    → DestLeaves told b c → DestLeaves told a c
dest_further told a b (dest_end.Open next) first later =
    λ t. keeps_on a.server.files.volume b.server.files.volume next.server.files.volume (first t) (later t)
dest_further told a b dest_end.Away first later = tt
dest_further told a b (dest_end.Disk disk) first later = absurd later

source_on : {D M : Type 0} (told : Type 0) (a b c : SourceEnd D M) → SourceKeeps told a b → SourceKeeps told b c → SourceKeeps told a c
source_on {D} {M} told a b c p q = record {
  was = p.was;
  was_is = p.was_is;
  leaves = source_further told p.was q.was c (subst (λ (e : SourceEnd D M). SourceLeaves told p.was e) q.was_is p.leaves) q.leaves;
}

dest_on : {D M : Type 0} (told : Type 0) (a b c : DestEnd D M) → DestKeeps told a b → DestKeeps told b c → DestKeeps told a c
dest_on {D} {M} told a b c p q = record {
  was = p.was;
  was_is = p.was_is;
  leaves = dest_further told p.was q.was c (subst (λ (e : DestEnd D M). DestLeaves told p.was e) q.was_is p.leaves) q.leaves;
}

pub stage_keeps_on : {D M : Type 0} (told : Type 0) (a b c : Stage D M) → StageKeeps told a b → StageKeeps told b c → StageKeeps told a c
stage_keeps_on told a b c p q = record {
  source = source_on told a.source b.source c.source p.source q.source;
  dest = dest_on told a.dest b.dest c.dest p.dest q.dest;
  setting = q.setting ∙ p.setting;
  log = keeps_all a.log b.log c.log p.log q.log;
  bytes = q.bytes;
}
