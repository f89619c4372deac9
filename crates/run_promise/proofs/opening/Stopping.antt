-- A step in which the destination stops opens it anew.
use Rattle.std.proofs.Common.{◌≡◌, ℕ, List, [], Option, Some, None, sym, ap, subst, ◌∙◌}
use Rattle.dest_core.specs.Stepping.{DestState}
use Rattle.nfs_base.specs.declared.side.Side.{Side}
use Rattle.nfs_base.specs.declared.side.Side.TheVariants as sides
use Rattle.outbox.specs.declared.outgoing.Outbox.{Outbox}
use Rattle.run_ends.specs.Ends.{RunMachines, RunStep, RunWorld, Words, machines}
use Rattle.run_ends.specs.Opening.{IsDestAnew, silenced}
use Rattle.server_volume.specs.declared.used.Used.{Used}
use Rattle.volume_stops.specs.declared.kept.Kept.{Kept}
use Rattle.wire_lines.specs.declared.letters.Speaker.{Speaker}
use Rattle.wire_machine.specs.declared.choice.Choice.{Choice}
use Rattle.wire_machine.specs.declared.choice.Choice.TheVariants.{Failed, Stopped, Went}
use Rattle.wire_machine.specs.declared.port.Port.{Port}
use Rattle.wire_machine.specs.declared.port.Port.TheVariants as ports
use Rattle.wire_machine.specs.Ends.{DestAct}
use Rattle.wire_machine.specs.Steps.{CrashesAt, DestCrashes, DestStops, IsCut, IsMade, IsStep, StopsDelivered, StopsTaking, cut_by, cut_of, kept_if, port_in, same_side, side_at, stops_at}
use Rattle.wire_machine.specs.World.{Part, Parts, Posted, marked, posted_at}
use Rattle.wire_schedule.specs.declared.event.Event.{Event}
use Rattle.wire_schedule.specs.declared.event.Event.TheVariants as events

same_kept : (a b : Kept) → Some a ≡ Some b → a ≡ b
same_kept a b e = cc

-- it made these calls, sent nothing, and was opened anew
pub record StopsAnew {M : Type 0} (before : DestState M) (part : Part) (kept : Kept) (now : DestState M) : Type 0 where
  pub anew : IsDestAnew before part.out.used kept now
  pub sent : part.out.sent ≡ []

module _ {M : Type 0} (words : Words M ℕ) where
  abbrev m : RunMachines M
  m = machines words

  abbrev Anew : RunWorld M → Parts → Kept → RunWorld M → Type 0
  Anew before parts kept after = StopsAnew before.dest parts.dest kept after.dest

  -- in an act
  acting : (act : DestAct) (speaker : Speaker) (took : Option (List ℕ)) (kept : Kept) (before : RunWorld M) (parts : Parts) (after : RunWorld M)
      → DestStops m act speaker took kept before parts after → Anew before parts kept after
  acting act speaker took kept before parts after d =
      let out : parts.dest.out ≡ silenced d.stops.1 = ap (λ (p : Parts). p.dest.out) d.parts_are ∙ d.stops.4 in
      let used : parts.dest.out.used ≡ d.stops.1.used = ap (λ (o : Outbox). o.used) out in
      let dest : after.dest ≡ d.dest = ap (λ (w : RunWorld M). w.dest) d.after_is in
      record {
        anew = subst (λ (u : List Used). IsDestAnew before.dest u kept after.dest) (sym used)
            (subst (λ (t : DestState M). IsDestAnew before.dest d.stops.1.used kept t) (sym dest) d.stops.3);
        sent = ap (λ (o : Outbox). o.sent) out;
      }

  -- or between two
  between : (kept : Kept) (before : RunWorld M) (parts : Parts) (after : RunWorld M) → DestCrashes m kept before parts after → Anew before parts kept after
  between kept before parts after d =
      let used : parts.dest.out.used ≡ [] = ap (λ (p : Parts). p.dest.out.used) d.parts_are in
      let dest : after.dest ≡ d.dest = ap (λ (w : RunWorld M). w.dest) d.after_is in
      record {
        anew = subst (λ (u : List Used). IsDestAnew before.dest u kept after.dest) (sym used)
            (subst (λ (t : DestState M). IsDestAnew before.dest [] kept t) (sym dest) d.crashes);
        sent = ap (λ (p : Parts). p.dest.out.sent) d.parts_are;
      }

  -- ---- it is the destination that stops

  abbrev At : Side → Kept → Kept → Type 0
  At side was kept = kept_if (same_side sides.Dest side) was ≡ Some kept

  this : (was kept : Kept) (before : RunWorld M) (parts : Parts) (after : RunWorld M) → At sides.Dest was kept → Anew before parts was after
      → Anew before parts kept after
  this was kept before parts after at anew = subst (λ (x : Kept). Anew before parts x after) (same_kept was kept at) anew

  crashing : (side : Side) (was kept : Kept) (before : RunWorld M) (parts : Parts) (after : RunWorld M) → CrashesAt m side was before parts after
      → At side was kept → Anew before parts kept after
  crashing sides.Source was kept before parts after d at = absurd (cc)
  crashing sides.Dest was kept before parts after d at = this was kept before parts after at (between was before parts after d)

  taking : (port : Option Port) (bytes : List ℕ) (was kept : Kept) (before : RunWorld M) (parts : Parts) (after : RunWorld M)
      → StopsTaking m port bytes was before parts after → At (side_at port) was kept → Anew before parts kept after
  taking None bytes was kept before parts after d at = absurd d
  taking (Some (ports.Source conn)) bytes was kept before parts after d at = absurd (cc)
  taking (Some ports.Dest) bytes was kept before parts after d at = this was kept before parts after at (acting _ _ _ was before parts after d)
  taking (Some (ports.Worker worker)) bytes was kept before parts after d at = this was kept before parts after at (acting _ _ _ was before parts after d)
  taking (Some (ports.Client from)) bytes was kept before parts after d at = absurd d

  delivered : (number : ℕ) (o : Option Posted) (was kept : Kept) (before : RunWorld M) (parts : Parts) (after : RunWorld M)
      → StopsDelivered m number o was before parts after → At (side_at (port_in o)) was kept → Anew before parts kept after
  delivered number None was kept before parts after d at = absurd d
  delivered number (Some r) was kept before parts after d at =
      taking r.port r.bytes was kept (record before { log = marked number before.log }) parts after d at

  cutting : (event : Event) (was kept : Kept) (before : RunWorld M) (parts : Parts) (after : RunWorld M) → IsCut m event was before parts after
      → At (stops_at event before.log) was kept → Anew before parts kept after
  cutting (events.Volume side files blocks) was kept before parts after d at = absurd d
  cutting (events.Write side file off bytes) was kept before parts after d at = absurd d
  cutting (events.Commit side file) was kept before parts after d at = absurd d
  cutting (events.Copy copy spec) was kept before parts after d at = absurd d
  cutting (events.Status copy) was kept before parts after d at = absurd d
  cutting (events.Cancel copy) was kept before parts after d at = absurd d
  cutting events.Retry was kept before parts after d at = absurd d
  cutting (events.Deliver number) was kept before parts after d at = delivered number (posted_at number before.log) was kept before parts after d at
  cutting events.Flow was kept before parts after d at = absurd d
  cutting (events.Work worker) was kept before parts after d at = this was kept before parts after at (acting _ _ _ was before parts after d)
  cutting (events.Tick seconds) was kept before parts after d at = absurd d
  cutting (events.Peek side file off len) was kept before parts after d at = absurd d
  cutting (events.Crash side pick) was kept before parts after d at = crashing side was kept before parts after d at
  cutting (events.CrashAfter side calls pick) was kept before parts after d at = absurd d

  made : (choice : Choice) (event : Event) (kept : Kept) (before : RunWorld M) (parts : Parts) (after : RunWorld M) → IsMade m choice event before parts after
      → cut_by sides.Dest (stops_at event before.log) choice ≡ Some kept → Anew before parts kept after
  made Went event kept before parts after d is = absurd (cc)
  made Failed event kept before parts after d is = absurd (cc)
  made (Stopped was) event kept before parts after d is = cutting event was kept before parts after d is

  pub stops_anew : (before : RunWorld M) (s : RunStep M) (kept : Kept) → IsStep (machines words) before s → cut_of sides.Dest before s ≡ Some kept
      → StopsAnew before.dest s.parts.dest kept s.after.dest
  stops_anew before s kept step is = made s.choice s.event kept before s.parts s.after step.small is
