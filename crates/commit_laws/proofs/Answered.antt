-- What a WRITE and a COMMIT did that were answered with status 0.
use Rattle.std.proofs.Common.{◌≡◌, ◌⊎◌, inl, inr, ℕ, ◌<◌, List, [], ◌∷◌, Option, Some, None, Result, Ok, Err, length, refl, sym, ap, subst, ◌∙◌}
use Rattle.block_file.specs.declared.faults.ReadFault.{ReadFault}
use Rattle.block_file.specs.declared.faults.ReadFault.TheVariants as reading
use Rattle.block_file.specs.declared.faults.WriteFault.{WriteFault}
use Rattle.block_file.specs.declared.faults.WriteFault.TheVariants as writing
use Rattle.copy_model.specs.Volume.{Volume}
use Rattle.copy_model.specs.Volume as volumes
use Rattle.file_ops.specs.declared.args.FileArg.TheVariants as args
use Rattle.file_ops.specs.declared.files.CommitArgs.{CommitArgs}
use Rattle.file_ops.specs.declared.files.WriteArgs.{WriteArgs}
use Rattle.file_ops.specs.declared.files.WriteDone.{WriteDone}
use Rattle.file_ops.specs.declared.operation.TheConstants.{OP_COMMIT, OP_WRITE}
use Rattle.file_ops.specs.declared.results.FileRes.TheVariants as results
use Rattle.file_server.specs.Answering.{meant_id, open_refusal}
use Rattle.file_server.specs.Handles.{byte_file}
use Rattle.file_server.specs.Machine.{Answered, Going, with_call}
use Rattle.file_server.specs.Writing.{commit, commit_file, commit_told, sync_written, taken_bytes, write, write_at, write_file, write_settled, write_synced, write_told, write_unless}
use Rattle.file_server.specs.declared.extension.Ask.TheVariants.{Operation}
use Rattle.file_server.specs.declared.extension.Caller.{Caller}
use Rattle.file_server.specs.declared.extension.Gate.{Gate}
use Rattle.file_server.specs.declared.extension.Gate.TheVariants as gate
use Rattle.nfs_base.specs.declared.answer.Answer.TheVariants.{Done, Refused}
use Rattle.nfs_base.specs.declared.status.Status.{Status}
use Rattle.nfs_base.specs.declared.written.Stability.{Stability}
use Rattle.nfs_base.specs.declared.written.Stability.TheVariants.{Unstable, DataSync, FileSync}
use Rattle.nfs_compound.specs.declared.op.Op.TheVariants.{File}
use Rattle.nfs_compound.specs.declared.res.Res.TheVariants as res
use Rattle.server_volume.specs.Calls as calls
use Rattle.server_volume.specs.Calls.{broken_fault, called, commit_call, done_by, write_call, write_fault}
use Rattle.server_volume.specs.Choices.{Choice, Fate, Went, Failed}
use Rattle.server_volume.specs.Moments.{IsServed, Serves}
use Rattle.server_volume.specs.Store.{Store}
use Rattle.state_ids.specs.declared.access.Access.TheVariants as access
use Rattle.wire_xdr.specs.Words.{hyper_bytes}
use Rattle.compound_server.specs.Course.{Course, Performed, Service}
use Rattle.compound_server.specs.Performing.{file_done, perform, unless_refused, with_state}
use Rattle.compound_server.specs.Refusals.{refused}
use Rattle.commit_laws.proofs.Called.{byte_there, serves_file, serves_write, written_there}

-- ---- COMMIT

-- the file was committed, of a volume that isn't broken, and the verifier is the number of its opening
pub record Committed (old new : Store) (file : ℕ) (verifier : List ℕ) : Type 0 where
  pub served : IsServed old file
  pub is : new ≡ done_by (calls.Commits file) old
  pub number : verifier ≡ hyper_bytes old.volume.boot

module _ {X : Type 0} where
  committed_by : (why : Option ReadFault) (fate : Fate) (file : ℕ) (verifier : List ℕ) (g : Going X) → file < length g.machine.store.volume.files
      → broken_fault g.machine.store.volume.broken ≡ why
      → let c = called why reading.DiskFailed fate (calls.Commits file) g.used g.machine.store in
      (commit_told c.fault (with_call c g)).res ≡ results.Commit (Done verifier)
      → Committed g.machine.store (commit_told c.fault (with_call c g)).going.machine.store file verifier
  committed_by (Some f) fate file verifier g there none is = absurd cc
  committed_by None Failed file verifier g there none is = absurd cc
  committed_by None Went file verifier g there none is =
      let same : results.Commit (Done (hyper_bytes g.machine.store.volume.boot)) ≡ results.Commit (Done verifier) = is in
      record { served = serves_file g.machine.store file there none; is = refl; number = cc }

  committed_file : (choice : Choice) (r : Result ℕ Status) (file : ℕ) (verifier : List ℕ) (g : Going X) → byte_file g.machine.store g.held.current ≡ Ok file
      → r ≡ Ok file → (commit_file choice r g).res ≡ results.Commit (Done verifier) → Committed g.machine.store (commit_file choice r g).going.machine.store file verifier
  unfolding commit_call
  committed_file choice (Err status) file verifier g finds same is = absurd cc
  committed_file choice (Ok n) file verifier g finds same is =
      let own : n ≡ file = cc in
      subst (λ f. Committed g.machine.store (commit_file choice (Ok n) g).going.machine.store f verifier) own
      (committed_by (broken_fault g.machine.store.volume.broken) (choice (length g.used)) n verifier g
      (subst (λ k. k < length g.machine.store.volume.files) (sym own) (byte_there g.machine.store g.held.current file finds)) refl is)

  commit_done : (choice : Choice) (file : ℕ) (verifier : List ℕ) (g : Going X) → byte_file g.machine.store g.held.current ≡ Ok file
      → (commit choice g).res ≡ results.Commit (Done verifier) → Committed g.machine.store (commit choice g).going.machine.store file verifier
  unfolding commit
  commit_done choice file verifier g finds is =
      committed_file choice (byte_file g.machine.store g.held.current) file verifier g finds finds is

-- ---- WRITE

-- the bytes were written, and then the file was committed or not
abbrev pub Settled : (old new : Store) → (file off : ℕ) → List ℕ → Type 0
Settled old new file off bytes =
    let middle = done_by (calls.Writes file off bytes) old in
    (new ≡ middle) ⊎ (IsServed middle file × (new ≡ done_by (calls.Commits file) middle))

pub record Written (old new : Store) (file off : ℕ) (bytes verifier : List ℕ) : Type 0 where
  pub serves : Serves old (calls.Writes file off bytes)
  pub settled : Settled old new file off bytes
  pub number : verifier ≡ hyper_bytes old.volume.boot

-- a write leaves the number of the opening
pub same_boot : (v : Volume) (file off : ℕ) (bytes : List ℕ) → (volumes.write v file off bytes).boot ≡ v.boot
same_boot v file off [] = refl
same_boot v file off (b ∷ bs) = refl

module _ {X : Type 0} where
  -- what a WRITE made safe of what it had written
  synced_by : (why : Option ReadFault) (fate : Fate) (file count : ℕ) (d : WriteDone) (g : Going X) → file < length g.machine.store.volume.files
      → broken_fault g.machine.store.volume.broken ≡ why
      → let c = called why reading.DiskFailed fate (calls.Commits file) g.used g.machine.store in
      (write_synced c.fault count (with_call c g)).res ≡ results.Write (Done d)
      → Committed g.machine.store (write_synced c.fault count (with_call c g)).going.machine.store file d.verifier
  synced_by (Some f) fate file count d g there none is = absurd cc
  synced_by None Failed file count d g there none is = absurd cc
  synced_by None Went file count d g there none is =
      let done : WriteDone = record { count = count; committed = FileSync; verifier = hyper_bytes g.machine.store.volume.boot } in
      let told : results.Write (Done done) ≡ results.Write (Done d) = is in
      let same : done ≡ d = cc in
      record { served = serves_file g.machine.store file there none; is = refl; number = sym (ap (λ (x : WriteDone). x.verifier) same) }

  sync_done : (choice : Choice) (file count : ℕ) (d : WriteDone) (g : Going X) → file < length g.machine.store.volume.files
      → (sync_written choice file count g).res ≡ results.Write (Done d)
      → Committed g.machine.store (sync_written choice file count g).going.machine.store file d.verifier
  unfolding commit_call
  sync_done choice file count d g there is =
      synced_by (broken_fault g.machine.store.volume.broken) (choice (length g.used)) file count d g there refl is

  module _ (choice : Choice) (file off : ℕ) (bytes : List ℕ) (d : WriteDone) (g : Going X) (serves : Serves g.machine.store (calls.Writes file off bytes)) where
    -- the compound once the bytes are written
    abbrev after_write : Going X
    after_write = with_call (called None writing.DiskFailed Went (calls.Writes file off bytes) g.used g.machine.store) g

    abbrev Wrote : Answered X → Type 0
    Wrote a = Written g.machine.store a.going.machine.store file off bytes d.verifier

    boot_kept : after_write.machine.store.volume.boot ≡ g.machine.store.volume.boot
    boot_kept = same_boot g.machine.store.volume file off bytes

    by_sync : (count : ℕ) → (sync_written choice file count after_write).res ≡ results.Write (Done d) → Wrote (sync_written choice file count after_write)
    by_sync count is =
        let c = sync_done choice file count d after_write (written_there g.machine.store file off bytes serves.0.there) is in
        record { serves = serves; settled = inr (c.served, c.is); number = c.number ∙ ap hyper_bytes boot_kept }

    settled_done : (count : ℕ) (how : Stability) → (write_settled choice file count how after_write).res ≡ results.Write (Done d)
        → Wrote (write_settled choice file count how after_write)
    settled_done count Unstable is =
        let done : WriteDone = record { count = count; committed = Unstable; verifier = hyper_bytes after_write.machine.store.volume.boot } in
        let told : results.Write (Done done) ≡ results.Write (Done d) = is in
        let same : done ≡ d = cc in
        record { serves = serves; settled = inl refl; number = sym (ap (λ (x : WriteDone). x.verifier) same) ∙ ap hyper_bytes boot_kept }
    settled_done count DataSync is = by_sync count is
    settled_done count FileSync is = by_sync count is

  written_by : (why : Option WriteFault) (fate : Fate) (choice : Choice) (file off : ℕ) (bytes : List ℕ) (how : Stability) (d : WriteDone) (g : Going X)
      → file < length g.machine.store.volume.files → write_fault g.machine.store.volume off bytes ≡ why
      → let c = called why writing.DiskFailed fate (calls.Writes file off bytes) g.used g.machine.store in
      (write_told c.fault choice file (length bytes) how (with_call c g)).res ≡ results.Write (Done d)
      → Written g.machine.store (write_told c.fault choice file (length bytes) how (with_call c g)).going.machine.store file off bytes d.verifier
  written_by (Some f) fate choice file off bytes how d g there none is = absurd cc
  written_by None Failed choice file off bytes how d g there none is = absurd cc
  written_by None Went choice file off bytes how d g there none is =
      settled_done choice file off bytes d g (serves_write g.machine.store file off bytes there none) (length bytes) how is

  written_at : (choice : Choice) (off : ℕ) (bytes : List ℕ) (how : Stability) (file : ℕ) (d : WriteDone) (g : Going X) → file < length g.machine.store.volume.files
      → (write_at choice off bytes how file g).res ≡ results.Write (Done d)
      → Written g.machine.store (write_at choice off bytes how file g).going.machine.store file off bytes d.verifier
  unfolding write_call
  written_at choice off bytes how file d g there is =
      written_by (write_fault g.machine.store.volume off bytes) (choice (length g.used)) choice file off bytes how d g there refl is

  unless_done : (why : Option Status) (choice : Choice) (a : WriteArgs) (file : ℕ) (d : WriteDone) (g : Going X) → file < length g.machine.store.volume.files
      → (write_unless why choice a file g).res ≡ results.Write (Done d)
      → Written g.machine.store (write_unless why choice a file g).going.machine.store file a.offset (taken_bytes a.bytes) d.verifier
  unless_done (Some status) choice a file d g there is = absurd cc
  unless_done None choice a file d g there is = written_at choice a.offset (taken_bytes a.bytes) a.stable file d g there is

  file_done_by : (choice : Choice) (a : WriteArgs) (r : Result ℕ Status) (file : ℕ) (d : WriteDone) (g : Going X) → byte_file g.machine.store g.held.current ≡ Ok file
      → r ≡ Ok file → (write_file choice a r g).res ≡ results.Write (Done d)
      → Written g.machine.store (write_file choice a r g).going.machine.store file a.offset (taken_bytes a.bytes) d.verifier
  file_done_by choice a (Err status) file d g finds same is = absurd cc
  file_done_by choice a (Ok n) file d g finds same is =
      let own : n ≡ file = cc in
      subst (λ f. Written g.machine.store (write_file choice a (Ok n) g).going.machine.store f a.offset (taken_bytes a.bytes) d.verifier) own
      (unless_done (open_refusal g.machine.opens (meant_id g.held.id a.state_id) n access.Write) choice a n d g
      (subst (λ k. k < length g.machine.store.volume.files) (sym own) (byte_there g.machine.store g.held.current file finds)) is)

  write_done_by : (choice : Choice) (a : WriteArgs) (file : ℕ) (d : WriteDone) (g : Going X) → byte_file g.machine.store g.held.current ≡ Ok file
      → (write choice a g).res ≡ results.Write (Done d)
      → Written g.machine.store (write choice a g).going.machine.store file a.offset (taken_bytes a.bytes) d.verifier
  unfolding write
  write_done_by choice a file d g finds is = file_done_by choice a (byte_file g.machine.store g.held.current) file d g finds finds is

-- ---- behind the tests that a server makes of every operation

module _ {X C : Type 0} (v : Service X C) (choice : Choice) (caller : Caller) (carry : Option C) (next : Option ℕ) (c : Course X) where
  abbrev store_at : Course X → Store
  store_at d = d.going.machine.store

  module _ (asked : CommitArgs) (file : ℕ) (verifier : List ℕ) (finds : byte_file c.going.machine.store c.going.held.current ≡ Ok file) where
    abbrev IsCommitted : Performed X → Type 0
    IsCommitted p = p.res ≡ res.File (results.Commit (Done verifier)) → Committed (store_at c) (store_at p.course) file verifier

    commit_file_done : (x : X) → IsCommitted (file_done v choice caller carry next (args.Commit asked) (with_state x c))
    unfolding file_done
    commit_file_done x is =
        let told : res.File (commit choice (with_state x c).going).res ≡ res.File (results.Commit (Done verifier)) = is in
        commit_done choice file verifier (with_state x c).going finds cc

    commit_said : (said : Gate) (x : X) → IsCommitted (unless_refused said v choice caller carry next (File (args.Commit asked)) (with_state x c))
    unfolding refused
    commit_said (gate.Refuse status) x is =
        let wrong : res.File (results.Commit (Refused status)) ≡ res.File (results.Commit (Done verifier)) = is in absurd cc
    commit_said gate.Serve x is = commit_file_done x is
    commit_said gate.Usual x is = commit_file_done x is

    pub commit_performed : IsCommitted (perform v choice caller carry next (File (args.Commit asked)) c)
    unfolding perform
    commit_performed is =
        let said = v.gate c.going.machine.extra caller carry (Operation OP_COMMIT) in commit_said said.1 said.0 is

  module _ (asked : WriteArgs) (file : ℕ) (d : WriteDone) (finds : byte_file c.going.machine.store c.going.held.current ≡ Ok file) where
    abbrev IsWritten : Performed X → Type 0
    IsWritten p = p.res ≡ res.File (results.Write (Done d)) → Written (store_at c) (store_at p.course) file asked.offset (taken_bytes asked.bytes) d.verifier

    write_file_done : (x : X) → IsWritten (file_done v choice caller carry next (args.Write asked) (with_state x c))
    unfolding file_done
    write_file_done x is =
        let told : res.File (write choice asked (with_state x c).going).res ≡ res.File (results.Write (Done d)) = is in
        write_done_by choice asked file d (with_state x c).going finds cc

    write_said : (said : Gate) (x : X) → IsWritten (unless_refused said v choice caller carry next (File (args.Write asked)) (with_state x c))
    unfolding refused
    write_said (gate.Refuse status) x is =
        let wrong : res.File (results.Write (Refused status)) ≡ res.File (results.Write (Done d)) = is in absurd cc
    write_said gate.Serve x is = write_file_done x is
    write_said gate.Usual x is = write_file_done x is

    pub write_performed : IsWritten (perform v choice caller carry next (File (args.Write asked)) c)
    unfolding perform
    write_performed is =
        let said = v.gate c.going.machine.extra caller carry (Operation OP_WRITE) in write_said said.1 said.0 is
