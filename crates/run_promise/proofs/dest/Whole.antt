-- From its opening on a destination does so.
use Rattle.std.proofs.Common.{◌≡◌, ℕ, suc, ◌<◌, ◌≤◌, ◌^◌, List, [], slice_get, Option, Some, refl, sym, ap, subst, arith}
use Rattle.copy_privs.specs.declared.peer.Peer.{Peer}
use Rattle.dest_core.specs.Core.{no_copies, no_sessions}
use Rattle.dest_core.specs.Stepping.{DestState}
use Rattle.dest_core.specs.declared.destination.Destination.{Destination}
use Rattle.dest_jobs.specs.declared.carried.Carried.{Carried}
use Rattle.dest_laws.specs.Landings.Orderly.{IsOrderly}
use Rattle.dest_laws.specs.Names.Holding.{IsToldRight}
use Rattle.dest_laws.specs.View.Steps.{Shows, ShowsStep, table_in}
use Rattle.dest_laws.specs.View.View.{made_in}
use Rattle.gss_ctx.specs.Table.{ContextTable}
use Rattle.job_book.specs.Book.{IsSound}
use Rattle.nfs_base.specs.declared.net_loc.NetLoc.{NetLoc}
use Rattle.nfs_base.specs.declared.seal.End.{End}
use Rattle.nfs_base.specs.declared.seal.End.TheVariants.{Dest}
use Rattle.nfs_base.specs.declared.side.Side.TheVariants as sides
use Rattle.run_ends.specs.Ends.{RunMachines, RunStep, RunWorld, Words, machines}
use Rattle.run_ends.specs.Setting.{dest_name, dest_place, dest_source}
use Rattle.run_promise.proofs.dest.DestMoments.{kind_at}
use Rattle.run_promise.proofs.dest.DestServers.{IsServer}
use Rattle.run_promise.proofs.dest.Names.{IsNamed, StaysRight, Steps}
use Rattle.run_promise.proofs.dest.Numbers.{AreCounted, HasNumbers, few_jobs}
use Rattle.run_promise.proofs.dest.Records.{AreServed}
use Rattle.run_promise.proofs.dest.Runs.{KeepOpening, named_at, numbers_at, right_at, volume_at}
use Rattle.run_promise.proofs.dest.Volumes.{AreDue, AreOrderly, GoOn, HasVolume}
use Rattle.run_promise.specs.Dest.Acts.{DestDid}
use Rattle.run_promise.specs.Dest.Begun.{IsBegun}
use Rattle.run_promise.specs.Dest.Kinds.{Kind}
use Rattle.run_promise.specs.Dest.Moments.{host_at, part_at, step_at}
use Rattle.run_promise.specs.Dest.Mounts.{AreFewJobs, AreNotClients, AreSpelled}
use Rattle.run_promise.specs.System.System.{telling}
use Rattle.server_laws.specs.Good.{IsGood}
use Rattle.session_server.specs.Host.{Codes}
use Rattle.tell_laws.specs.Volumes.{volume_of}
use Rattle.wire_machine.specs.History.{acts_at, at_moment}
use Rattle.wire_machine.specs.Steps.{NeverStops}
use Rattle.wire_meaning.specs.Meaning.{meaning}
use Rattle.wire_model.specs.CopyLaws.{VolumeLaws}
use Rattle.wire_model.specs.NameLaws.{NameLaws}
use Rattle.wire_model.specs.Spelling.{Spelling}
use Rattle.wire_model.specs.System.{System, dest_effect}
use Rattle.wire_model.specs.Told.{TakesSimple}
use Rattle.wire_spelling.specs.Spelling.{spelling}

module _ {M : Type 0} (words : Words M ℕ) (accepts : List ℕ → Option (List ℕ)) (whose : List ℕ → Option End) (first : RunWorld M) (steps : List (RunStep M)) where
  abbrev pub m : RunMachines M
  m = machines words

  abbrev pub codes : Codes
  codes = record { mic = words.mic; derived = words.derived }

  abbrev pub spell : Spelling
  spell = spelling accepts whose

  abbrev pub host : ℕ → DestState M
  host k = host_at m codes spell meaning first steps k

  abbrev pub ShowsAll : System → Type 0
  ShowsAll s =
      (k : ℕ) → ShowsStep spell meaning s k (part_at m codes spell meaning first steps k).took (part_at m codes spell meaning first steps k).speaker
      (acts_at m (telling codes) spell meaning first steps Dest k).executed (host k) (step_at m codes spell meaning first steps k)

  abbrev pub DidAll : Type 0
  DidAll =
      (k : ℕ) (x : RunStep M) → slice_get steps k ≡ Some x
      → DestDid words (at_moment m (telling codes) spell meaning first steps k).world x.parts x.after

  module _ (mech : M) (is : IsBegun mech first.dest) (never : NeverStops sides.Dest first steps) (served : AreServed words) (did : DidAll)
      (starts : (d : DestState M) → d.contexts.boot < 2 ^ 32 → d.contexts.made ≤ d.steps → d.contexts.entries ≡ [] → IsGood d) where
    begun : IsServer (host 0)
    begun =
        let none = is.opened.contexts in
        let made : (host 0).contexts.made ≡ 0 = ap (λ (x : ContextTable Carried). x.made) none in
        let boot : (host 0).contexts.boot ≡ (volume_of (host 0)).boot = ap (λ (x : ContextTable Carried). x.boot) none in
        record {
          good = starts (host 0) (subst (λ (n : ℕ). n < 2 ^ 32) (sym boot) is.numbered) (omega (arith, made)) (ap (λ (x : ContextTable Carried). x.entries) none);
          owner = ap (λ (x : ContextTable Carried). x.owner) none;
        }

    abbrev boot : ℕ
    boot = (volume_of (host 0)).boot

    abbrev capacity : ℕ
    capacity = (volume_of (host 0)).capacity

    kinds : (k : ℕ)
        → Kind words (host k) (step_at m codes spell meaning first steps k) (part_at m codes spell meaning first steps k).took (part_at m codes spell meaning first steps k).speaker
        (acts_at m (telling codes) spell meaning first steps Dest k).executed
    kinds k = kind_at words spell meaning first steps never did k

    none_yet : HasNumbers (host 0)
    none_yet =
        let none : made_in (host 0) ≡ 0 = ap (λ (x : Destination M). x.copier.copies.book.table.made) is.opened.extra in
        let steps : (host 0).steps ≡ 0 = is.opened.steps in
        record { counted = omega (arith, none); few = omega (arith, steps) }

    -- numbers of jobs have four bytes
    pub few_at : AreCounted words → AreFewJobs m codes spell meaning first steps
    few_at counted k =
        few_jobs (host k)
        (numbers_at words host (λ k. step_at m codes spell meaning first steps k) (λ k. (part_at m codes spell meaning first steps k).took)
        (λ k. (part_at m codes spell meaning first steps k).speaker) (λ k. (acts_at m (telling codes) spell meaning first steps Dest k).executed) (λ k. refl) kinds served begun
        counted none_yet k)

    module _ (s : System) (shows : ShowsAll s) where
      has : ((boot capacity : ℕ) (mech : M) (source : Peer) (principal : List ℕ) (own : NetLoc) (d : DestState M)
          → d.state.machine.extra ≡ no_copies boot capacity mech source principal own → IsOrderly d) → HasVolume words (host 0)
      has opened =
          let none : (volume_of (host 0)).writes ≡ 0 = is.unwritten in
          record {
            writes = omega (arith, none);
            orderly = opened boot capacity mech dest_source dest_name dest_place (host 0) is.opened.extra;
          }

      module _ (orderly : AreOrderly words) (due : AreDue words accepts whose s) (go_on : GoOn words accepts whose s) (sound : (k : ℕ) → IsSound (table_in (host k)))
          (spelled : AreSpelled m codes spell meaning first steps)
          (opened : (boot capacity : ℕ) (mech : M) (source : Peer) (principal : List ℕ) (own : NetLoc) (d : DestState M)
          → d.state.machine.extra ≡ no_copies boot capacity mech source principal own → IsOrderly d) where
        pub volumes : (k : ℕ) → TakesSimple spell Dest (s.acts Dest k) → VolumeLaws (s.dest k) (s.dest (suc k)) (dest_effect s k)
        volumes k simple =
            volume_at words accepts whose s host (λ k. step_at m codes spell meaning first steps k) (λ k. (part_at m codes spell meaning first steps k).took)
            (λ k. (part_at m codes spell meaning first steps k).speaker) (λ k. (acts_at m (telling codes) spell meaning first steps Dest k).executed) (λ k. refl) shows kinds served begun
            orderly due go_on sound spelled (has opened) k simple

      module _ (keep : KeepOpening words) (opening : (k : ℕ) → (table_in (host k)).boot ≡ (volume_of (host k)).boot)
          (few : AreFewJobs m codes spell meaning first steps) (own : AreNotClients m codes spell meaning first steps)
          (tells : (s : System) (k boot capacity : ℕ) (mech : M) (source : Peer) (principal : List ℕ) (own : NetLoc) (d : DestState M)
          → d.state.machine.extra ≡ no_copies boot capacity mech source principal own → d.state.sessions ≡ no_sessions boot → Shows s k d → IsToldRight s k d)
          (stays : Steps words accepts whose s (StaysRight words accepts whose s)) where
        low : (volume_of (host 0)).boot < 2 ^ 32
        low = is.numbered

        told : IsToldRight s 0 (host 0)
        told = tells s 0 boot capacity mech dest_source dest_name dest_place (host 0) is.opened.extra is.opened.sessions (shows 0).before

        pub rights : (k : ℕ) → IsToldRight s k (host k)
        rights k =
            right_at words accepts whose s host (λ k. step_at m codes spell meaning first steps k) (λ k. (part_at m codes spell meaning first steps k).took)
            (λ k. (part_at m codes spell meaning first steps k).speaker) (λ k. (acts_at m (telling codes) spell meaning first steps Dest k).executed) (λ k. refl) shows kinds served begun
            keep low opening few own told stays k

        pub names : Steps words accepts whose s (IsNamed words accepts whose s) → (k : ℕ) → NameLaws spell meaning s k
        names named k =
            named_at words accepts whose s host (λ k. step_at m codes spell meaning first steps k) (λ k. (part_at m codes spell meaning first steps k).took)
            (λ k. (part_at m codes spell meaning first steps k).speaker) (λ k. (acts_at m (telling codes) spell meaning first steps Dest k).executed) (λ k. refl) shows kinds served begun
            keep low opening few own told stays named k
