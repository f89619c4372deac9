-- What the client does with a record or a command is a small step, whatever the end of it, and so is a look at the clock.
use Rattle.std.proofs.Common.{◌≡◌, ℕ, Bool, true, false, List, [], Option, Some, None, refl, sym, ap, ◌∙◌, subst, arith}
use Rattle.std.proofs.lemmas.List.{append-nil}
use Rattle.std.specs.Prelude.{is_some, option_and_then, option_map, IfOk, IfSome, IsSome, Result, Ok, Err}
use Rattle.client_core.specs.State.{ClientState}
use Rattle.client_core.specs.Telling.{copy_of}
use Rattle.nfs_base.specs.declared.side.Side.{Side}
use Rattle.outbox.specs.declared.outgoing.Outbox.{Outbox}
use Rattle.wire_lines.specs.declared.letters.Speaker.TheVariants as speakers
use Rattle.wire_log.specs.Keeping.{bytes_at}
use Rattle.wire_machine.specs.Check.{Reading}
use Rattle.wire_machine.specs.Ends.{ClientAct, DestAct}
use Rattle.wire_machine.specs.Ends as acts
use Rattle.wire_machine.specs.Steps.{AllTick, Arrives, ClientDoes, DestDoes, SourceDoes, command_of}
use Rattle.wire_machine.specs.World.{Posted, bytes_of, marked, posted_at}
use Rattle.wire_machine.specs.declared.port.Port.{Port}
use Rattle.wire_machine.specs.declared.port.Port.TheVariants as ports
use Rattle.run_ends.specs.Ends.{Words, machines}
use Rattle.wire_run.specs.Stage.{AllLook, BeginsOnly, ClientActs, Comes, DestActs, Grows, HandsOver, IsFair, IsReady, LogKeeps, LooksOnly, SettleKeeps, Settles, SettlesAll, SmallIs, SmallKeeps, SourceActs, TakesAt, begun_in, dest_boot, faults_named, later_clock, source_boot, world_at}
use Rattle.wire_run.specs.declared.ends.DestEnd.{DestEnd}
use Rattle.wire_run.specs.declared.ends.SourceEnd.{SourceEnd}
use Rattle.wire_run.specs.declared.stage.Fault.{Fault}
use Rattle.wire_run.specs.declared.stage.Stage.{Stage}
use Rattle.wire_run.specs.declared.stage.Ticked.{Ticked}
use Rattle.wire_run.proofs.Keeping.{client_kept}
use Rattle.wire_run.proofs.Logs.{bytes_of_marked, keeps_all, marked_keeps, marked_none}
use Rattle.wire_run.proofs.Smalls.{command_fits, deliver_small, got_of, quiet_command, quiet_tick, quiet_work, small_from}
use Rattle.wire_schedule.specs.declared.event.Event.TheVariants as kinds
use Rattle.wire_run.proofs.Comings.{all_ticked, by_client, by_dest, by_source, client_acted, dest_acted, source_acted, taken, the_record}
use Rattle.wire_schedule.specs.declared.event.Event.{Event}

abbrev ok_of : Option Fault → Result (Option Fault) ℕ
ok_of fault = Ok fault

begun_same : {M : Type 0} (copy : Option ℕ) (old client new : ClientState M) → BeginsOnly copy old client → new ≡ client → BeginsOnly copy old new
begun_same copy old client new begun same = λ j other none. ap (copy_of j) same ∙ begun j other none

module _ {D M : Type 0} (told : Type 0) (words : Words M ℕ) (read : Reading) (faults size : D → ℕ) where
  -- ---- a record arrives at the client

  pub client_comes : {E : Type 0} (from : Side) (number : ℕ) (bytes : List ℕ) (old new : Stage D M) (client : ClientState M) (draws : ℕ) (out : Outbox) (text_old text_new : List ℕ)
      (r : Result (Option Fault) E) → IsReady old → bytes_at old.log number ≡ Some bytes
      → ClientActs (machines words) (acts.ClientTakes from bytes) old.clock old.client old.draws client draws out
      → SettleKeeps (record old { client = client; draws = draws }) new
      → IfOk r (λ fault. Settles read (client_acted number out) (record old { client = client; draws = draws }) new text_old text_new (faults_named fault))
      → IfOk r (λ fault. Comes told (machines words) read faults size (TakesAt (machines words) (ports.Client from) number) old new text_old text_new (faults_named fault))
  client_comes from number bytes old new client draws out text_old text_new (Ok fault) ready stored did k put =
      taken told words read faults size (ClientDoes (machines words) (acts.ClientTakes from bytes) (bytes_at old.log number)) (TakesAt (machines words) (ports.Client from) number)
      old new text_old text_new (faults_named fault)
      (λ s d parts after does. (bytes, stored, subst (λ (took : Option (List ℕ)). ClientDoes (machines words) (acts.ClientTakes from bytes) took (world_at size s d old) parts after) stored does))
      (by_client told words read faults size (acts.ClientTakes from bytes) number old new client draws out text_old text_new (faults_named fault) ready did k put)
  client_comes from number bytes old new client draws out text_old text_new (Err e) ready stored did k put = tt

  -- ---- a command of the client

  pub command_comes : {E : Type 0} (event : Event) (old new : Stage D M) (client : ClientState M) (draws : ℕ) (out : Outbox) (text_old text_new : List ℕ)
      (r : Result (Option Fault) E) → IsReady old → IsSome (command_of event)
      → IfSome (command_of event) (λ (act : ClientAct). ClientActs (machines words) act old.clock old.client old.draws client draws out)
      → SettleKeeps (record old { client = client; draws = draws }) new
      → IfOk r (λ fault. Settles read (client_acted 0 out) (record old { client = client; draws = draws }) new text_old text_new (faults_named fault))
      → IfOk r (λ fault. Comes told (machines words) read faults size (λ before parts after. IfSome (command_of event) (λ (act : ClientAct). ClientDoes (machines words) act None before parts after))
      old new text_old text_new (faults_named fault))
  command_comes event old new client draws out text_old text_new (Err e) ready there did k put = tt
  command_comes event old new client draws out text_old text_new (Ok fault) ready there did k put = commanded (command_of event) there did
    where
      commanded : (o : Option ClientAct) → IsSome o → IfSome o (λ (act : ClientAct). ClientActs (machines words) act old.clock old.client old.draws client draws out)
          → Comes told (machines words) read faults size (λ before parts after. IfSome o (λ (act : ClientAct). ClientDoes (machines words) act None before parts after))
          old new text_old text_new (faults_named fault)
      commanded (Some act) there did = by_client told words read faults size act 0 old new client draws out text_old text_new (faults_named fault) ready did k put
      commanded None there did = absurd cc

  -- ---- the same of another name of an event

  pub small_as : {E : Type 0} (event other : Event) (old new : Stage D M) (text_old text_new : List ℕ) (r : Result (Option Fault) E) → event ≡ other
      → IfOk r (λ fault. SmallIs told (machines words) read faults size other old new text_old text_new (faults_named fault))
      → IfOk r (λ fault. SmallIs told (machines words) read faults size event old new text_old text_new (faults_named fault))
  small_as event other old new text_old text_new r same c =
      subst (λ (e : Event). IfOk r (λ fault. SmallIs told (machines words) read faults size e old new text_old text_new (faults_named fault))) (sym same) c

  pub tick_small : {E : Type 0} (event : Event) (seconds : ℕ) (old new : Stage D M) (text_old text_new : List ℕ) (r : Result (Option Fault) E) → event ≡ kinds.Tick seconds
      → IfOk r (λ fault. Comes told (machines words) read faults size (AllTick (machines words) seconds) old new text_old text_new (faults_named fault))
      → IfOk r (λ fault. SmallIs told (machines words) read faults size event old new text_old text_new (faults_named fault))
  tick_small event seconds old new text_old text_new (Ok fault) same c =
      small_as event (kinds.Tick seconds) old new text_old text_new (ok_of fault) same
      (small_from told (machines words) read faults size (kinds.Tick seconds) (AllTick (machines words) seconds) (λ before parts after d. d)
      (quiet_tick told (machines words) read faults size seconds) old new text_old text_new (faults_named fault) c)
  tick_small event seconds old new text_old text_new (Err e) same c = tt

  pub command_small : {E : Type 0} (event : Event) (old new : Stage D M) (text_old text_new : List ℕ) (r : Result (Option Fault) E) → IsSome (command_of event)
      → IfOk r (λ fault. Comes told (machines words) read faults size (λ before parts after. IfSome (command_of event) (λ (act : ClientAct). ClientDoes (machines words) act None before parts after))
      old new text_old text_new (faults_named fault))
      → IfOk r (λ fault. SmallIs told (machines words) read faults size event old new text_old text_new (faults_named fault))
  command_small event old new text_old text_new (Ok fault) there c =
      small_from told (machines words) read faults size event (λ before parts after. IfSome (command_of event) (λ (act : ClientAct). ClientDoes (machines words) act None before parts after))
      (command_fits told (machines words) read faults size event there) (quiet_command told (machines words) read faults size event there)
      old new text_old text_new (faults_named fault) c
  command_small event old new text_old text_new (Err e) there c = tt

  -- ---- a command: what it keeps, and which copy it begins

  pub command_kept : (o : Option ClientAct) (old new : Stage D M) (client : ClientState M) (draws : ℕ) (out : Outbox) → IsReady old → IsSome o
      → IfSome o (λ (act : ClientAct). ClientActs (machines words) act old.clock old.client old.draws client draws out)
      → SettleKeeps (record old { client = client; draws = draws }) new → SmallKeeps told old new
  command_kept (Some act) old new client draws out ready there did k = client_kept told (machines words) act old.clock old new client draws out ready did k
  command_kept None old new client draws out ready there did k = absurd cc

  pub command_begun : (event : Event) (now : ℕ) (old client new : ClientState M) (before draws : ℕ) (out : Outbox) → IsSome (command_of event)
      → IfSome (command_of event) (λ (act : ClientAct). ClientActs (machines words) act now old before client draws out) → new ≡ client → BeginsOnly (begun_in event) old new
  command_begun (kinds.Write side file off bytes) now old client new before draws out there did same = begun_same _ old client new did.begun same
  command_begun (kinds.Commit side file) now old client new before draws out there did same = begun_same _ old client new did.begun same
  command_begun (kinds.Copy copy spec) now old client new before draws out there did same = begun_same _ old client new did.begun same
  command_begun (kinds.Status copy) now old client new before draws out there did same = begun_same _ old client new did.begun same
  command_begun (kinds.Cancel copy) now old client new before draws out there did same = begun_same _ old client new did.begun same
  command_begun kinds.Retry now old client new before draws out there did same = begun_same _ old client new did.begun same
  command_begun (kinds.Volume side files blocks) now old client new before draws out there did same = absurd cc
  command_begun (kinds.Deliver number) now old client new before draws out there did same = absurd cc
  command_begun kinds.Flow now old client new before draws out there did same = absurd cc
  command_begun (kinds.Work worker) now old client new before draws out there did same = absurd cc
  command_begun (kinds.Tick seconds) now old client new before draws out there did same = absurd cc
  command_begun (kinds.Peek side file off len) now old client new before draws out there did same = absurd cc
  command_begun (kinds.Crash side pick) now old client new before draws out there did same = absurd cc
  command_begun (kinds.CrashAfter side calls pick) now old client new before draws out there did same = absurd cc

  -- ---- the clock moves on

  pub tick_comes : {E : Type 0} (seconds : ℕ) (old looked new : Stage D M) (ticked : Ticked) (text_old text_new : List ℕ) (r : Result (Option Fault) E)
      → AllLook told (machines words) faults size (later_clock seconds old) looked ticked → LooksOnly (later_clock seconds old) looked → SettleKeeps looked new
      → IfOk r (λ fault. SettlesAll ticked looked new text_old text_new (faults_named fault))
      → IfOk r (λ fault. Comes told (machines words) read faults size (AllTick (machines words) seconds) old new text_old text_new (faults_named fault))
  tick_comes seconds old looked new ticked text_old text_new (Ok fault) look only k put =
      all_ticked told words read faults size seconds old looked new ticked text_old text_new (faults_named fault) look only k put
  tick_comes seconds old looked new ticked text_old text_new (Err e) look only k put = tt

  -- the clock, where its seconds are told by another name
  pub tick_as : {E : Type 0} (seconds other : ℕ) (old new : Stage D M) (text_old text_new : List ℕ) (r : Result (Option Fault) E) → other ≡ seconds
      → IfOk r (λ fault. Comes told (machines words) read faults size (AllTick (machines words) other) old new text_old text_new (faults_named fault))
      → IfOk r (λ fault. Comes told (machines words) read faults size (AllTick (machines words) seconds) old new text_old text_new (faults_named fault))
  tick_as seconds other old new text_old text_new r same c =
      subst (λ (k : ℕ). IfOk r (λ fault. Comes told (machines words) read faults size (AllTick (machines words) k) old new text_old text_new (faults_named fault))) same c
