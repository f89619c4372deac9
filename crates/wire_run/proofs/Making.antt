-- A server that was just made is the one that was asked for, and why none was made.
use Rattle.std.proofs.Common.{◌≡◌, ℕ, ◌+◌, ◌*◌, ◌<◌, ◌≤◌, nat_lt, length, ⊎_elim, Bool, true, false, Option, None, Some, refl, sym, ap, ◌∙◌, arith, if◌then◌else◌}
use Rattle.std.proofs.lemmas.List.{length-replicate}
use Rattle.std.proofs.lemmas.Bool.{cases_lt, le-ltb, lt-ltb}
use Rattle.block_file.specs.Layout.{blocks_of}
use Rattle.block_file.specs.Opened.{RefusedFor}
use Rattle.block_file.specs.Stored.{IsFormatted, Place}
use Rattle.block_file.specs.declared.faults.FormatFault.{FormatFault}
use Rattle.block_file.specs.declared.faults.FormatFault.TheVariants as formatting
use Rattle.block_file.specs.declared.faults.OpenFault.{OpenFault}
use Rattle.block_file.specs.declared.faults.OpenFault.TheVariants as opening
use Rattle.copy_model.specs.Volume.{Volume, formatted, no_file}
use Rattle.disk_model.specs.Disk.{Image, MayLeave}
use Rattle.disk_model.specs.Elapsed.{Timeline, contents, present}
use Rattle.dest_core.specs.Core as new_dest
use Rattle.dest_core.specs.declared.destination.Destination.{Destination}
use Rattle.dest_jobs.specs.declared.carried.Carried as of_dest
use Rattle.nfs_base.specs.declared.side.Side.{Side}
use Rattle.outcome.specs.Causes.{Rose}
use Rattle.session_server.specs.Host.{host_of}
use Rattle.session_server.specs.declared.host.Host.{Host}
use Rattle.source_core.specs.Core as new_source
use Rattle.source_core.specs.declared.carried.Carried as of_source
use Rattle.source_core.specs.declared.source.Source as made_source
use Rattle.run_ends.specs.First.{IsFreshDest, IsFreshSource, Shape}
use Rattle.wire_run.specs.Fresh.{IsShort, IsUnmadeFor, Small, small_for, unformatted, unopened}
use Rattle.run_ends.specs.Setting.{dest_name, dest_place, dest_source, source_peers, source_place}
use Rattle.run_ends.specs.declared.setting.TheConstants.{SOURCE_TAG, DEST_TAG}

-- ---- why none was made

module _ {D : Type 0} (told : Type 0) (faults size : D → ℕ) (shape : Shape) where
  not_short : (n need have : ℕ) (fault : FormatFault) → (n < need → fault ≡ formatting.TooSmall need have) → fault ≡ formatting.DiskFailed → need ≤ n
  not_short n need have fault short is = ⊎_elim small (λ le. le) (cases_lt n need)
    where
      small : n < need → need ≤ n
      small lt = let both = short lt in absurd (cc)

  pub unformatted_why : (disk now : D) (fault : FormatFault)
      → (size disk < blocks_of shape.files shape.blocks → fault ≡ formatting.TooSmall (blocks_of shape.files shape.blocks) (size disk))
      → (blocks_of shape.files shape.blocks ≤ size disk → fault ≡ formatting.DiskFailed)
      → (size disk < blocks_of shape.files shape.blocks → now ≡ disk) → (fault ≡ formatting.DiskFailed → Rose (faults disk) (faults now))
      → IsUnmadeFor told faults size shape disk now (unformatted fault)
  unformatted_why disk now formatting.DiskFailed short long same rose =
      (rose refl, not_short (size disk) (blocks_of shape.files shape.blocks) (size disk) formatting.DiskFailed short refl)
  unformatted_why disk now (formatting.TooSmall need have) short long same rose = ⊎_elim small large (cases_lt (size disk) (blocks_of shape.files shape.blocks))
    where
      small : size disk < blocks_of shape.files shape.blocks → IsShort size shape need have disk now
      small lt =
          let is = short lt in
          let need_is : need ≡ blocks_of shape.files shape.blocks = cc in
          let have_is : have ≡ size disk = cc in
          record { need_is = need_is; have_is = have_is; short = omega arith; untouched = same lt }

      large : blocks_of shape.files shape.blocks ≤ size disk → IsShort size shape need have disk now
      large le = let is = long le in absurd (cc)

  pub unopened_why : (disk made now : D) (flaw : Option Place) (fault : OpenFault) → blocks_of shape.files shape.blocks ≤ size disk → faults disk ≤ faults made
      → (fault ≡ opening.DiskFailed → Rose (faults made) (faults now)) → (told → flaw ≡ None) → (told → RefusedFor flaw fault)
      → IsUnmadeFor told faults size shape disk now (unopened fault)
  unopened_why disk made now flaw opening.DiskFailed fits later rose sound refused = let rises = rose refl in (omega arith, fits)
  unopened_why disk made now flaw (opening.NotVolume block at) fits later rose sound refused = (
    λ t. let none = sound t in let some : flaw ≡ Some (record { block = block; at = at }) = refused t in absurd (cc),
    fits,
  )

-- what a read gives of a disk on which a volume was just formatted
pub read_formatted : (size files blocks tag : ℕ) (t : Timeline) → ((image : Image) → MayLeave (present t) image → IsFormatted size files blocks tag image)
    → IsFormatted size files blocks tag (contents t)
read_formatted size files blocks tag t all = all (contents t) (λ b settled. refl)

-- such a volume has as many files as were asked for
pub formatted_files : (v : Volume) (files capacity : ℕ) → v ≡ formatted files capacity → length v.files ≡ files + 1
formatted_files v files capacity is = ap (λ (v : Volume). length v.files) is ∙ length-replicate (files + 1) no_file

-- ---- whether a server's disk is too small

abbrev small_if : Side → (need have : ℕ) → Bool → Option Small
small_if side need have b = if b then Some (record { side = side; need = need; have = have }) else None

small_true : (side : Side) (need have : ℕ) (b : Bool) → b ≡ true → small_if side need have b ≡ Some (record { side = side; need = need; have = have })
small_true side need have true is = refl
small_true side need have false is = absurd (cc)

small_false : (side : Side) (need have : ℕ) (b : Bool) → b ≡ false → small_if side need have b ≡ None
small_false side need have true is = absurd (cc)
small_false side need have false is = refl

pub fits_none : (side : Side) (size files blocks : ℕ) → blocks_of files blocks ≤ size → small_for side size files blocks ≡ None
fits_none side size files blocks le =
    small_false side (blocks_of files blocks) size (nat_lt size (blocks_of files blocks)) (le-ltb size (blocks_of files blocks) le)

pub short_some : (side : Side) (size files blocks need have : ℕ) → need ≡ blocks_of files blocks → have ≡ size → have < need
    → small_for side size files blocks ≡ Some (record { side = side; need = need; have = have })
short_some side size files blocks need have need_is have_is short =
    small_true side (blocks_of files blocks) size (nat_lt size (blocks_of files blocks)) (lt-ltb size (blocks_of files blocks) (omega arith))
    ∙ (ap (λ (n : ℕ). small_if side n size true) (sym need_is) ∙ ap (λ (n : ℕ). small_if side need n true) (sym have_is))

-- ---- servers that are new

pub source_fresh : {D M : Type 0} (size : D → ℕ) (mech : M) (shape : Shape) (core : Host D (made_source.Source M) of_source.Carried)
    → new_source.IsNew mech source_peers source_place core → core.server.files.volume.volume ≡ formatted shape.files (shape.blocks * 4096)
    → core.server.files.volume.tag ≡ SOURCE_TAG → IsFreshSource mech shape (host_of size core)
source_fresh size mech shape core new volume tag =
    let boot : (core.server.files.volume.volume).boot ≡ 1 = ap (λ (v : Volume). v.boot) volume in
    record {
      contexts = new.contexts ∙ ap (λ (n : ℕ). new_source.no_contexts n) boot;
      opens = new.opens ∙ ap (λ (n : ℕ). new_source.no_opens n) boot;
      sessions = new.sessions ∙ ap (λ (n : ℕ). new_source.no_sessions n) boot;
      extra = new.extra ∙ ap (λ (n : ℕ). new_source.no_source n mech source_peers source_place) boot;
      volume = volume;
      tag = tag;
      second = new.second;
      steps = new.steps;
    }

pub dest_fresh : {D M : Type 0} (size : D → ℕ) (mech : M) (shape : Shape) (core : Host D (Destination M) of_dest.Carried)
    → new_dest.IsNew mech dest_source dest_name dest_place core → core.server.files.volume.volume ≡ formatted shape.files (shape.blocks * 4096)
    → core.server.files.volume.tag ≡ DEST_TAG → IsFreshDest mech shape (host_of size core)
dest_fresh size mech shape core new volume tag =
    let boot : (core.server.files.volume.volume).boot ≡ 1 = ap (λ (v : Volume). v.boot) volume in
    let capacity : (core.server.files.volume.volume).capacity ≡ shape.blocks * 4096 = ap (λ (v : Volume). v.capacity) volume in
    record {
      contexts = new.contexts ∙ ap (λ (n : ℕ). new_dest.no_contexts n) boot;
      opens = new.opens ∙ ap (λ (n : ℕ). new_dest.no_opens n) boot;
      sessions = new.sessions ∙ ap (λ (n : ℕ). new_dest.no_sessions n) boot;
      extra = new.extra
          ∙ (ap (λ (n : ℕ). new_dest.no_copies n (core.server.files.volume.volume).capacity mech dest_source dest_name dest_place) boot
          ∙ ap (λ (n : ℕ). new_dest.no_copies 1 n mech dest_source dest_name dest_place) capacity);
      volume = volume;
      tag = tag;
      second = new.second;
      steps = new.steps;
    }
