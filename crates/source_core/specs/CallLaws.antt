-- The operations of a source make no call on its volume.
use Rattle.std.specs.Prelude.{◌≡◌, ℕ, Bool, true, false, Option, Some, None, Result, Ok, Err, refl}
use Rattle.commit_laws.specs.Calling.{CameByCalls}
use Rattle.commit_laws.specs.CallLaws.{by_none}
use Rattle.compound_server.specs.Serves.{Served}
use Rattle.copy_grants.specs.Grants.{GrantTable, notify_answer, notify_table}
use Rattle.copy_grants.specs.declared.grants.Full.{Full}
use Rattle.copy_ops.specs.declared.arg.CopyArg.{CopyArg}
use Rattle.copy_ops.specs.declared.arg.CopyArg.TheVariants as args
use Rattle.copy_ops.specs.declared.args.NotifyArgs.{NotifyArgs}
use Rattle.file_server.specs.Answering.{meant_id, open_refusal}
use Rattle.file_server.specs.Handles.{current_file}
use Rattle.file_server.specs.Machine.{Going}
use Rattle.file_server.specs.declared.extension.Caller.{Caller}
use Rattle.nfs_base.specs.declared.net_loc.NetLoc.{NetLoc}
use Rattle.nfs_base.specs.declared.state_id.StateId.{StateId}
use Rattle.nfs_base.specs.declared.status.Status.{Status}
use Rattle.server_volume.specs.Choices.{Choice}
use Rattle.state_ids.specs.declared.access.Access.TheVariants as access
use Rattle.source_core.specs.Serving.{allows, notify_allowed, notify_file, notify_told, notify_unless, serves, strings_of, with_grants}
use Rattle.source_core.specs.declared.carried.Carried.{Carried}
use Rattle.source_core.specs.declared.serving.GrantStrings.{GrantStrings}
use Rattle.source_core.specs.declared.source.Source.{Source}

abbrev Stays : {M : Type 0} → Going (Source M) → Served (Source M) → Type 0
Stays g s = CameByCalls g.machine.store s.going.machine.store g.used s.going.used

still : {M : Type 0} (g : Going (Source M)) (s : Served (Source M)) → s.going.machine.store ≡ g.machine.store → s.going.used ≡ g.used → Stays g s
still g s store used = by_none g.machine.store s.going.machine.store g.used s.going.used store used

module _ {M : Type 0} where
  told_stays : (r : Result StateId Full) (own : NetLoc) (grants : GrantTable) (g : Going (Source M)) → Stays g (notify_told r own (with_grants grants g))
  told_stays (Err full) own grants g = by_none _ _ _ _ refl refl
  told_stays (Ok id) own grants g = by_none _ _ _ _ refl refl

  unless_stays : (why : Option Status) (second file : ℕ) (destination : NetLoc) (strings : GrantStrings) (g : Going (Source M))
      → Stays g (notify_unless why second file destination strings g)
  unless_stays (Some status) second file destination strings g = by_none _ _ _ _ refl refl
  unless_stays None second file destination strings g =
      let x = g.machine.extra in
      told_stays (notify_answer x.grants) x.own (notify_table x.grants second file destination strings.user strings.secret) g

  allowed_stays : (allowed : Bool) (second file : ℕ) (asked : NotifyArgs) (strings : GrantStrings) (g : Going (Source M))
      → Stays g (notify_allowed allowed second file asked strings g)
  allowed_stays false second file asked strings g = by_none _ _ _ _ refl refl
  allowed_stays true second file asked strings g =
      unless_stays (open_refusal g.machine.opens (meant_id g.held.id asked.src_id) file access.Read) second file asked.destination strings g

  file_stays : (second : ℕ) (carry : Option Carried) (r : Result ℕ Status) (asked : NotifyArgs) (g : Going (Source M)) → Stays g (notify_file second carry r asked g)
  file_stays second carry (Err status) asked g = by_none _ _ _ _ refl refl
  file_stays second carry (Ok file) asked g = allowed_stays (allows carry asked.destination) second file asked (strings_of carry) g

  pub serves_by_calls : (choice : Choice) (caller : Caller) (carry : Option Carried) (op : CopyArg) (g : Going (Source M)) → Stays g (serves choice caller carry op g)
  unfolding serves
  serves_by_calls choice caller carry (args.Copy a) g = by_none _ _ _ _ refl refl
  serves_by_calls choice caller carry (args.CopyNotify a) g =
      file_stays caller.second carry (current_file g.machine.store g.held.current) a g
  serves_by_calls choice caller carry (args.OffloadCancel id) g = by_none _ _ _ _ refl refl
  serves_by_calls choice caller carry (args.OffloadStatus id) g = by_none _ _ _ _ refl refl
  serves_by_calls choice caller carry (args.Clone a) g = by_none _ _ _ _ refl refl
