-- What becomes of a server in a small step in which it acts: it goes on, it is opened anew, or it is away. The rest stays.
use Rattle.std.proofs.Common.{◌≡◌, ◌⊎◌, ℕ, ◌+◌, ◌≤◌, Bool, true, List, length, Some, None, refl, sym, ap, subst, ◌∙◌, inl, inr, arith}
use Rattle.std.specs.Prelude.{is_some}
use Rattle.block_file.specs.Opened.{Opened}
use Rattle.client_core.specs.State.{ClientState}
use Rattle.client_core.specs.Telling.{copy_of}
use Rattle.disk_model.specs.Elapsed.{IsOut, Timeline}
use Rattle.disk_model.specs.declared.fuse.Fuse.{Fuse}
use Rattle.nfs_base.specs.declared.side.Side.{Side}
use Rattle.nfs_base.specs.declared.side.Side.TheVariants.{Source, Dest}
use Rattle.run_ends.specs.Opening.{IsNewDest, IsNewSource}
use Rattle.run_ends.specs.Stops.Reopening.{IsReopened, MadeCalls, MayReopen}
use Rattle.server_volume.specs.declared.used.Used.{Used}
use Rattle.session_server.specs.Host.{host_of}
use Rattle.wire_machine.specs.Runs.{most_bytes}
use Rattle.wire_machine.specs.World.{Posted, bytes_of}
use Rattle.wire_machine.specs.declared.choice.Choice.{Choice}
use Rattle.wire_run.proofs.Logs.{grows_none}
use Rattle.wire_run.proofs.Stops.{boot_anew, keeps_anew, watched_anew, watched_on}
use Rattle.wire_run.specs.Cutting.{DestCalls, DestIsOut, DestMayReopen, DestReopened, EndKeeps, ReopenedAt, SourceCalls, SourceIsOut, SourceMayReopen, SourceReopened, with_end, without_end}
use Rattle.wire_run.specs.Stage.{BeginsNone, DestHost, DestLeaves, Grows, IsDestOpen, IsSourceOpen, SettleKeeps, SourceHost, SourceLeaves, VolumeStays, dest_steps, source_steps}
use Rattle.wire_run.specs.Stopping.{StopLaws}
use Rattle.wire_run.specs.Watching.{DestNumbered, DestWatched, IsWatched, SourceNumbered, SourceWatched, no_stop, noted, noted_at, stopped_by}
use Rattle.wire_run.specs.declared.ends.DestEnd.{DestEnd}
use Rattle.wire_run.specs.declared.ends.DestEnd.TheVariants as dest_end
use Rattle.wire_run.specs.declared.ends.SourceEnd.{SourceEnd}
use Rattle.wire_run.specs.declared.ends.SourceEnd.TheVariants as source_end
use Rattle.wire_run.specs.declared.stage.Stage.{Stage}
use Rattle.wire_run.specs.declared.stage.Stop.{Stop}
use Rattle.wire_run.specs.declared.stage.Stops.{Stops}

source_same : {D M : Type 0} (a b : SourceHost D M) → ◌≡◌ {A = SourceEnd D M} (source_end.Open a) (source_end.Open b) → a ≡ b
source_same a b e = cc

dest_same : {D M : Type 0} (a b : DestHost D M) → ◌≡◌ {A = DestEnd D M} (dest_end.Open a) (dest_end.Open b) → a ≡ b
dest_same a b e = cc

-- ---- all but the servers and their stops: the client, the draws and the clock stay, and records may be sent

pub record RestKeeps {D M : Type 0} (old new : Stage D M) : Type 0 where
  pub client : new.client ≡ old.client
  pub draws : new.draws ≡ old.draws
  pub clock : new.clock ≡ old.clock
  pub flowed : new.flowed ≡ old.flowed
  pub log : Grows old.log new.log
  pub bytes : bytes_of new.log ≤ most_bytes
  pub choices : length new.choices.items ≤ length old.choices.items + 1

-- so no copy is begun
pub rest_begins : {D M : Type 0} (old new : Stage D M) → RestKeeps old new → BeginsNone old.client new.client
rest_begins old new r = λ j none. ap (copy_of j) r.client ∙ none

-- of one behind another that differs from it in the servers and their stops alone
behind_rest : {D M : Type 0} (old mid new : Stage D M) → mid.client ≡ old.client → mid.draws ≡ old.draws → mid.clock ≡ old.clock → mid.flowed ≡ old.flowed
    → mid.log ≡ old.log → mid.choices.items ≡ old.choices.items → SettleKeeps mid new → RestKeeps old new
behind_rest old mid new client draws clock flowed log choices k = record {
  client = k.client ∙ client;
  draws = k.draws ∙ draws;
  clock = k.clock ∙ clock;
  flowed = k.flowed ∙ flowed;
  log = subst (λ (l : List Posted). Grows l new.log) log k.log;
  bytes = k.bytes;
  choices = omega (arith, k.choices, ap (λ (cs : List Choice). length cs) choices);
}

same_rest : {D M : Type 0} (old new : Stage D M) → new.client ≡ old.client → new.draws ≡ old.draws → new.clock ≡ old.clock → new.flowed ≡ old.flowed
    → new.log ≡ old.log → new.choices.items ≡ old.choices.items → bytes_of old.log ≤ most_bytes → RestKeeps old new
same_rest old new client draws clock flowed log choices few = record {
  client = client;
  draws = draws;
  clock = clock;
  flowed = flowed;
  log = subst (λ (l : List Posted). Grows old.log l) (sym log) (grows_none old.log);
  bytes = omega (arith, few, ap bytes_of log);
  choices = omega (arith, ap (λ (cs : List Choice). length cs) choices);
}

-- no fuse is set where none is known
armed_none : is_some no_stop.armed ≡ true → ⊥
armed_none e = cc

none_le : (n m : ℕ) → n ≡ 0 → n ≤ m + 1
none_le n m e = omega arith

still_few : (n boot next : ℕ) → boot ≤ n + 1 → next ≡ boot → next ≤ n + 1 + 1
still_few n boot next few same = omega (arith, few, same)

one_few : (n boot next : ℕ) → boot ≤ n + 1 → next ≡ boot + 1 → next ≤ n + 1 + 1
one_few n boot next few more = omega (arith, few, more)

came_rest : {D M : Type 0} (side : Side) (old mid new : Stage D M) → mid ≡ stopped_by side no_stop (with_end side mid old) → SettleKeeps mid new → RestKeeps old new
came_rest {D} {M} Source old mid new is k =
    behind_rest old mid new (ap (λ (s : Stage D M). s.client) is) (ap (λ (s : Stage D M). s.draws) is) (ap (λ (s : Stage D M). s.clock) is)
    (ap (λ (s : Stage D M). s.flowed) is) (ap (λ (s : Stage D M). s.log) is) (ap (λ (s : Stage D M). s.choices.items) is) k
came_rest {D} {M} Dest old mid new is k =
    behind_rest old mid new (ap (λ (s : Stage D M). s.client) is) (ap (λ (s : Stage D M). s.draws) is) (ap (λ (s : Stage D M). s.clock) is)
    (ap (λ (s : Stage D M). s.flowed) is) (ap (λ (s : Stage D M). s.log) is) (ap (λ (s : Stage D M). s.choices.items) is) k

gone_rest : {D M : Type 0} (side : Side) (old new : Stage D M) → bytes_of old.log ≤ most_bytes → new ≡ stopped_by side no_stop (without_end side old) → RestKeeps old new
gone_rest {D} {M} Source old new few is =
    same_rest old new (ap (λ (s : Stage D M). s.client) is) (ap (λ (s : Stage D M). s.draws) is) (ap (λ (s : Stage D M). s.clock) is)
    (ap (λ (s : Stage D M). s.flowed) is) (ap (λ (s : Stage D M). s.log) is) (ap (λ (s : Stage D M). s.choices.items) is) few
gone_rest {D} {M} Dest old new few is =
    same_rest old new (ap (λ (s : Stage D M). s.client) is) (ap (λ (s : Stage D M). s.draws) is) (ap (λ (s : Stage D M). s.clock) is)
    (ap (λ (s : Stage D M). s.flowed) is) (ap (λ (s : Stage D M). s.log) is) (ap (λ (s : Stage D M). s.choices.items) is) few

module _ {D M : Type 0} (told : Type 0) (size : D → ℕ) (fuse : D → Fuse) (timeline : D → Timeline) (faults : D → ℕ) where
  pub end_rest : (side : Side) (used : List Used) (old new : Stage D M) → bytes_of old.log ≤ most_bytes → EndKeeps told size fuse timeline faults side used old new
      → RestKeeps old new
  end_rest side used old new few (inl k) = behind_rest old (noted_at side used old) new refl refl refl refl refl refl k.keeps
  end_rest side used old new few (inr (inl k)) = came_rest side old k.reopened new k.opens.rest k.keeps
  end_rest side used old new few (inr (inr is)) = gone_rest side old new few is

  -- where it is opened anew between two steps, or away
  pub reopened_rest : (side : Side) (old mid new : Stage D M) → ReopenedAt told size fuse timeline faults side old mid → SettleKeeps mid new → RestKeeps old new
  reopened_rest side old mid new opens k = came_rest side old mid new opens.rest k

  -- ---- the source

  pub record SourceAnew (core : SourceHost D M) (end : SourceEnd D M) : Type 0 where
    pub next : SourceHost D M
    pub is : end ≡ source_end.Open next
    pub volume : IsReopened told size fuse timeline faults core.server.files.volume.disk next.server.files.volume
    pub fresh : IsNewSource core.server.files.extra.mech (host_of size next)

  pub source_anew : (core : SourceHost D M) (old new : SourceEnd D M) → old ≡ source_end.Open core → SourceReopened told size fuse timeline faults old new
      → SourceAnew core new
  source_anew core old new is r =
      let same : r.was ≡ core = source_same r.was core (sym r.was_is ∙ is) in
      record {
        next = r.next;
        is = r.next_is;
        volume = subst (λ (h : SourceHost D M). IsReopened told size fuse timeline faults h.server.files.volume.disk r.next.server.files.volume) same r.volume;
        fresh = subst (λ (h : SourceHost D M). IsNewSource h.server.files.extra.mech (host_of size r.next)) same r.fresh;
      }

  -- what is known of its volume
  pub source_made : (was next : SourceHost D M) (old new : SourceEnd D M) (used : List Used) → old ≡ source_end.Open was → new ≡ source_end.Open next
      → SourceCalls told size fuse timeline faults old new used
      → MadeCalls told size fuse timeline faults was.server.files.volume next.server.files.volume used
  source_made was next old new used p q calls =
      subst (λ (e : SourceEnd D M). SourceCalls told size fuse timeline faults (source_end.Open was) e used) q
      (subst (λ (e : SourceEnd D M). SourceCalls told size fuse timeline faults e new used) p calls)

  pub source_watched_in : (core : SourceHost D M) (end : SourceEnd D M) (stop : Stop) → end ≡ source_end.Open core → SourceWatched told size fuse end stop
      → IsWatched told size fuse core.server.files.volume stop
  source_watched_in core end stop is w = subst (λ (e : SourceEnd D M). SourceWatched told size fuse e stop) is w

  pub source_may : (core : SourceHost D M) (end : SourceEnd D M) → end ≡ source_end.Open core
      → MayReopen told size fuse timeline core.server.files.volume.disk → SourceMayReopen told size fuse timeline faults end
  source_may core end is may = subst (λ (e : SourceEnd D M). SourceMayReopen told size fuse timeline faults e) (sym is) may

  -- ---- what becomes of it

  pub record SourceOn (core : SourceHost D M) (used : List Used) (old : Stop) (end : SourceEnd D M) (new : Stop) : Type 0 where
    pub is : end ≡ source_end.Open core
    pub stop : new ≡ noted used old
    pub on : (old.armed ≡ None) ⊎ (IsOut (fuse core.server.files.volume.disk) → ⊥)

  pub record SourceCame (core : SourceHost D M) (end : SourceEnd D M) (new : Stop) : Type 0 where
    pub anew : SourceAnew core end
    pub stop : new ≡ no_stop

  pub record SourceGone (end : SourceEnd D M) (new : Stop) : Type 0 where
    pub is : end ≡ source_end.Away
    pub stop : new ≡ no_stop

  abbrev pub SourceBecame : SourceHost D M → List Used → Stop → SourceEnd D M → Stop → Type 0
  SourceBecame core used old end new = SourceOn core used old end new ⊎ (SourceCame core end new ⊎ SourceGone end new)

  source_goes_on : (core : SourceHost D M) (end : SourceEnd D M) (stop : Stop) → end ≡ source_end.Open core
      → (stop.armed ≡ None) ⊎ (SourceIsOut fuse end → ⊥) → (stop.armed ≡ None) ⊎ (IsOut (fuse core.server.files.volume.disk) → ⊥)
  source_goes_on core end stop is (inl none) = inl none
  source_goes_on core end stop is (inr lit) = inr (subst (λ (e : SourceEnd D M). SourceIsOut fuse e → ⊥) is lit)

  pub source_became : (core : SourceHost D M) (used : List Used) (old new : Stage D M) → old.source ≡ source_end.Open core
      → EndKeeps told size fuse timeline faults Source used old new → SourceBecame core used old.stops.source new.source new.stops.source
  source_became core used old new is (inl k) = inl (record {
    is = k.keeps.source ∙ is;
    stop = ap (λ (s : Stops). s.source) k.keeps.stops;
    on = source_goes_on core old.source old.stops.source is k.on;
  })
  source_became core used old new is (inr (inl k)) =
      let anew = source_anew core old.source k.reopened.source is k.opens.reopened in
      inr (inl (record {
        anew = record { next = anew.next; is = k.keeps.source ∙ anew.is; volume = anew.volume; fresh = anew.fresh };
        stop = ap (λ (s : Stops). s.source) k.keeps.stops ∙ ap (λ (s : Stage D M). s.stops.source) k.opens.rest;
      }))
  source_became core used old new is (inr (inr gone)) =
      inr (inr (record { is = ap (λ (s : Stage D M). s.source) gone; stop = ap (λ (s : Stage D M). s.stops.source) gone }))

  -- the other one stays
  pub source_alone : (used : List Used) (old new : Stage D M) → EndKeeps told size fuse timeline faults Source used old new
      → (new.dest ≡ old.dest) × (new.stops.dest ≡ old.stops.dest)
  source_alone used old new (inl k) = (k.keeps.dest, ap (λ (s : Stops). s.dest) k.keeps.stops)
  source_alone used old new (inr (inl k)) = (
    k.keeps.dest ∙ ap (λ (s : Stage D M). s.dest) k.opens.rest,
    ap (λ (s : Stops). s.dest) k.keeps.stops ∙ ap (λ (s : Stage D M). s.stops.dest) k.opens.rest,
  )
  source_alone used old new (inr (inr gone)) = (ap (λ (s : Stage D M). s.dest) gone, ap (λ (s : Stage D M). s.stops.dest) gone)

  module _ (laws : StopLaws told size fuse timeline faults) (was core : SourceHost D M) (used : List Used) (old : Stop) (end : SourceEnd D M) (new : Stop)
      (made : MadeCalls told size fuse timeline faults was.server.files.volume core.server.files.volume used)
      (w : IsWatched told size fuse was.server.files.volume old) where
    pub source_leaves : (told → VolumeStays was.server.files.volume core.server.files.volume) → SourceBecame core used old end new → SourceLeaves told was end
    source_leaves stays (inl b) =
        subst (λ (e : SourceEnd D M). SourceLeaves told was e) (sym b.is) (λ t. record { files = (stays t).files; tag = (stays t).tag })
    source_leaves stays (inr (inl b)) =
        subst (λ (e : SourceEnd D M). SourceLeaves told was e) (sym b.anew.is)
        (keeps_anew told size fuse timeline faults laws was.server.files.volume core.server.files.volume b.anew.next.server.files.volume used old made w b.anew.volume)
    source_leaves stays (inr (inr b)) = subst (λ (e : SourceEnd D M). SourceLeaves told was e) (sym b.is) tt

    pub source_counted : core.steps ≤ was.steps + 1 → SourceBecame core used old end new → source_steps end ≤ was.steps + 1
    source_counted few (inl b) = subst (λ (e : SourceEnd D M). source_steps e ≤ was.steps + 1) (sym b.is) few
    source_counted few (inr (inl b)) =
        subst (λ (e : SourceEnd D M). source_steps e ≤ was.steps + 1) (sym b.anew.is) (none_le b.anew.next.steps was.steps b.anew.fresh.steps)
    source_counted few (inr (inr b)) = subst (λ (e : SourceEnd D M). source_steps e ≤ was.steps + 1) (sym b.is) (none_le 0 was.steps refl)

    pub source_watched : SourceBecame core used old end new → SourceWatched told size fuse end new
    source_watched (inl b) =
        subst (λ (e : SourceEnd D M). SourceWatched told size fuse e new) (sym b.is)
        (subst (λ (s : Stop). IsWatched told size fuse core.server.files.volume s) (sym b.stop)
        (watched_on told size fuse timeline faults laws was.server.files.volume core.server.files.volume used old made w b.on))
    source_watched (inr (inl b)) =
        subst (λ (e : SourceEnd D M). SourceWatched told size fuse e new) (sym b.anew.is)
        (subst (λ (s : Stop). IsWatched told size fuse b.anew.next.server.files.volume s) (sym b.stop)
        (watched_anew told size fuse timeline faults laws core.server.files.volume.disk b.anew.next.server.files.volume b.anew.volume))
    source_watched (inr (inr b)) = subst (λ (e : SourceEnd D M). SourceWatched told size fuse e new) (sym b.is) b.stop

    pub source_numbered : (told → VolumeStays was.server.files.volume core.server.files.volume) → SourceBecame core used old end new
        → (n : ℕ) → told → was.server.files.volume.volume.boot ≤ n + 1 → SourceNumbered (n + 1) end
    source_numbered stays (inl b) n t few =
        subst (λ (e : SourceEnd D M). SourceNumbered (n + 1) e) (sym b.is) (still_few n _ _ few (stays t).boot)
    source_numbered stays (inr (inl b)) n t few =
        subst (λ (e : SourceEnd D M). SourceNumbered (n + 1) e) (sym b.anew.is) (one_few n _ _ few
        (boot_anew told size fuse timeline faults laws was.server.files.volume core.server.files.volume b.anew.next.server.files.volume used old made w b.anew.volume t))
    source_numbered stays (inr (inr b)) n t few = subst (λ (e : SourceEnd D M). SourceNumbered (n + 1) e) (sym b.is) tt

    pub source_armed : SourceBecame core used old end new → is_some new.armed ≡ true → is_some old.armed ≡ true
    source_armed (inl b) e = subst (λ (s : Stop). is_some s.armed ≡ true) b.stop e
    source_armed (inr (inl b)) e = absurd (armed_none (subst (λ (s : Stop). is_some s.armed ≡ true) b.stop e))
    source_armed (inr (inr b)) e = absurd (armed_none (subst (λ (s : Stop). is_some s.armed ≡ true) b.stop e))

  -- ---- the destination

  pub record DestAnew (core : DestHost D M) (end : DestEnd D M) : Type 0 where
    pub next : DestHost D M
    pub is : end ≡ dest_end.Open next
    pub volume : IsReopened told size fuse timeline faults core.server.files.volume.disk next.server.files.volume
    pub fresh : IsNewDest core.server.files.extra.mech (host_of size next)

  pub dest_anew : (core : DestHost D M) (old new : DestEnd D M) → old ≡ dest_end.Open core → DestReopened told size fuse timeline faults old new
      → DestAnew core new
  dest_anew core old new is r =
      let same : r.was ≡ core = dest_same r.was core (sym r.was_is ∙ is) in
      record {
        next = r.next;
        is = r.next_is;
        volume = subst (λ (h : DestHost D M). IsReopened told size fuse timeline faults h.server.files.volume.disk r.next.server.files.volume) same r.volume;
        fresh = subst (λ (h : DestHost D M). IsNewDest h.server.files.extra.mech (host_of size r.next)) same r.fresh;
      }

  -- what is known of its volume
  pub dest_made : (was next : DestHost D M) (old new : DestEnd D M) (used : List Used) → old ≡ dest_end.Open was → new ≡ dest_end.Open next
      → DestCalls told size fuse timeline faults old new used
      → MadeCalls told size fuse timeline faults was.server.files.volume next.server.files.volume used
  dest_made was next old new used p q calls =
      subst (λ (e : DestEnd D M). DestCalls told size fuse timeline faults (dest_end.Open was) e used) q
      (subst (λ (e : DestEnd D M). DestCalls told size fuse timeline faults e new used) p calls)

  pub dest_watched_in : (core : DestHost D M) (end : DestEnd D M) (stop : Stop) → end ≡ dest_end.Open core → DestWatched told size fuse end stop
      → IsWatched told size fuse core.server.files.volume stop
  dest_watched_in core end stop is w = subst (λ (e : DestEnd D M). DestWatched told size fuse e stop) is w

  pub dest_may : (core : DestHost D M) (end : DestEnd D M) → end ≡ dest_end.Open core
      → MayReopen told size fuse timeline core.server.files.volume.disk → DestMayReopen told size fuse timeline faults end
  dest_may core end is may = subst (λ (e : DestEnd D M). DestMayReopen told size fuse timeline faults e) (sym is) may

  -- ---- what becomes of it

  pub record DestOn (core : DestHost D M) (used : List Used) (old : Stop) (end : DestEnd D M) (new : Stop) : Type 0 where
    pub is : end ≡ dest_end.Open core
    pub stop : new ≡ noted used old
    pub on : (old.armed ≡ None) ⊎ (IsOut (fuse core.server.files.volume.disk) → ⊥)

  pub record DestCame (core : DestHost D M) (end : DestEnd D M) (new : Stop) : Type 0 where
    pub anew : DestAnew core end
    pub stop : new ≡ no_stop

  pub record DestGone (end : DestEnd D M) (new : Stop) : Type 0 where
    pub is : end ≡ dest_end.Away
    pub stop : new ≡ no_stop

  abbrev pub DestBecame : DestHost D M → List Used → Stop → DestEnd D M → Stop → Type 0
  DestBecame core used old end new = DestOn core used old end new ⊎ (DestCame core end new ⊎ DestGone end new)

  dest_goes_on : (core : DestHost D M) (end : DestEnd D M) (stop : Stop) → end ≡ dest_end.Open core
      → (stop.armed ≡ None) ⊎ (DestIsOut fuse end → ⊥) → (stop.armed ≡ None) ⊎ (IsOut (fuse core.server.files.volume.disk) → ⊥)
  dest_goes_on core end stop is (inl none) = inl none
  dest_goes_on core end stop is (inr lit) = inr (subst (λ (e : DestEnd D M). DestIsOut fuse e → ⊥) is lit)

  pub dest_became : (core : DestHost D M) (used : List Used) (old new : Stage D M) → old.dest ≡ dest_end.Open core
      → EndKeeps told size fuse timeline faults Dest used old new → DestBecame core used old.stops.dest new.dest new.stops.dest
  dest_became core used old new is (inl k) = inl (record {
    is = k.keeps.dest ∙ is;
    stop = ap (λ (s : Stops). s.dest) k.keeps.stops;
    on = dest_goes_on core old.dest old.stops.dest is k.on;
  })
  dest_became core used old new is (inr (inl k)) =
      let anew = dest_anew core old.dest k.reopened.dest is k.opens.reopened in
      inr (inl (record {
        anew = record { next = anew.next; is = k.keeps.dest ∙ anew.is; volume = anew.volume; fresh = anew.fresh };
        stop = ap (λ (s : Stops). s.dest) k.keeps.stops ∙ ap (λ (s : Stage D M). s.stops.dest) k.opens.rest;
      }))
  dest_became core used old new is (inr (inr gone)) =
      inr (inr (record { is = ap (λ (s : Stage D M). s.dest) gone; stop = ap (λ (s : Stage D M). s.stops.dest) gone }))

  -- the other one stays
  pub dest_alone : (used : List Used) (old new : Stage D M) → EndKeeps told size fuse timeline faults Dest used old new
      → (new.source ≡ old.source) × (new.stops.source ≡ old.stops.source)
  dest_alone used old new (inl k) = (k.keeps.source, ap (λ (s : Stops). s.source) k.keeps.stops)
  dest_alone used old new (inr (inl k)) = (
    k.keeps.source ∙ ap (λ (s : Stage D M). s.source) k.opens.rest,
    ap (λ (s : Stops). s.source) k.keeps.stops ∙ ap (λ (s : Stage D M). s.stops.source) k.opens.rest,
  )
  dest_alone used old new (inr (inr gone)) = (ap (λ (s : Stage D M). s.source) gone, ap (λ (s : Stage D M). s.stops.source) gone)

  module _ (laws : StopLaws told size fuse timeline faults) (was core : DestHost D M) (used : List Used) (old : Stop) (end : DestEnd D M) (new : Stop)
      (made : MadeCalls told size fuse timeline faults was.server.files.volume core.server.files.volume used)
      (w : IsWatched told size fuse was.server.files.volume old) where
    pub dest_leaves : (told → VolumeStays was.server.files.volume core.server.files.volume) → DestBecame core used old end new → DestLeaves told was end
    dest_leaves stays (inl b) =
        subst (λ (e : DestEnd D M). DestLeaves told was e) (sym b.is) (λ t. record { files = (stays t).files; tag = (stays t).tag })
    dest_leaves stays (inr (inl b)) =
        subst (λ (e : DestEnd D M). DestLeaves told was e) (sym b.anew.is)
        (keeps_anew told size fuse timeline faults laws was.server.files.volume core.server.files.volume b.anew.next.server.files.volume used old made w b.anew.volume)
    dest_leaves stays (inr (inr b)) = subst (λ (e : DestEnd D M). DestLeaves told was e) (sym b.is) tt

    pub dest_counted : core.steps ≤ was.steps + 1 → DestBecame core used old end new → dest_steps end ≤ was.steps + 1
    dest_counted few (inl b) = subst (λ (e : DestEnd D M). dest_steps e ≤ was.steps + 1) (sym b.is) few
    dest_counted few (inr (inl b)) =
        subst (λ (e : DestEnd D M). dest_steps e ≤ was.steps + 1) (sym b.anew.is) (none_le b.anew.next.steps was.steps b.anew.fresh.steps)
    dest_counted few (inr (inr b)) = subst (λ (e : DestEnd D M). dest_steps e ≤ was.steps + 1) (sym b.is) (none_le 0 was.steps refl)

    pub dest_watched : DestBecame core used old end new → DestWatched told size fuse end new
    dest_watched (inl b) =
        subst (λ (e : DestEnd D M). DestWatched told size fuse e new) (sym b.is)
        (subst (λ (s : Stop). IsWatched told size fuse core.server.files.volume s) (sym b.stop)
        (watched_on told size fuse timeline faults laws was.server.files.volume core.server.files.volume used old made w b.on))
    dest_watched (inr (inl b)) =
        subst (λ (e : DestEnd D M). DestWatched told size fuse e new) (sym b.anew.is)
        (subst (λ (s : Stop). IsWatched told size fuse b.anew.next.server.files.volume s) (sym b.stop)
        (watched_anew told size fuse timeline faults laws core.server.files.volume.disk b.anew.next.server.files.volume b.anew.volume))
    dest_watched (inr (inr b)) = subst (λ (e : DestEnd D M). DestWatched told size fuse e new) (sym b.is) b.stop

    pub dest_numbered : (told → VolumeStays was.server.files.volume core.server.files.volume) → DestBecame core used old end new
        → (n : ℕ) → told → was.server.files.volume.volume.boot ≤ n + 1 → DestNumbered (n + 1) end
    dest_numbered stays (inl b) n t few =
        subst (λ (e : DestEnd D M). DestNumbered (n + 1) e) (sym b.is) (still_few n _ _ few (stays t).boot)
    dest_numbered stays (inr (inl b)) n t few =
        subst (λ (e : DestEnd D M). DestNumbered (n + 1) e) (sym b.anew.is) (one_few n _ _ few
        (boot_anew told size fuse timeline faults laws was.server.files.volume core.server.files.volume b.anew.next.server.files.volume used old made w b.anew.volume t))
    dest_numbered stays (inr (inr b)) n t few = subst (λ (e : DestEnd D M). DestNumbered (n + 1) e) (sym b.is) tt

    pub dest_armed : DestBecame core used old end new → is_some new.armed ≡ true → is_some old.armed ≡ true
    dest_armed (inl b) e = subst (λ (s : Stop). is_some s.armed ≡ true) b.stop e
    dest_armed (inr (inl b)) e = absurd (armed_none (subst (λ (s : Stop). is_some s.armed ≡ true) b.stop e))
    dest_armed (inr (inr b)) e = absurd (armed_none (subst (λ (s : Stop). is_some s.armed ≡ true) b.stop e))
