-- What a server's steps do to its volume.
use Rattle.std.specs.Prelude.{◌≡◌, ℕ, ◌<◌, ◌≤◌, ◌^◌, List, [], ◌∷◌, length, Option}
use Rattle.copy_model.specs.Volume.{Volume}
use Rattle.copy_ops.specs.declared.arg.CopyArg.{CopyArg}
use Rattle.file_server.specs.Machine.{Going}
use Rattle.file_server.specs.declared.extension.Caller.{Caller}
use Rattle.nfs_base.specs.declared.seal.End.{End}
use Rattle.server_volume.specs.Choices.{Choice}
use Rattle.server_volume.specs.declared.used.Used.{Used}
use Rattle.server_volume.specs.declared.used.VolumeCall.{VolumeCall}
use Rattle.server_volume.specs.declared.used.VolumeCall.TheVariants as calls
use Rattle.compound_server.specs.Course.{Service}
use Rattle.session_server.specs.Host.{Codes, HostState, Rules, Stepped}
use Rattle.wire_machine.specs.History.{effect_of}
use Rattle.wire_model.specs.CopyLaws.{VolumeLaws}
use Rattle.wire_model.specs.Told.{TakesSimple}
use Rattle.wire_spelling.specs.Spelling.{spelling}
use Rattle.server_laws.specs.Acts.{acts_of}
use Rattle.tell_laws.specs.Fitting.{IsFitting}

-- a server's volume
abbrev pub volume_of : {X C : Type 0} → HostState X C → Volume
volume_of s = s.state.machine.store.volume

-- The operations that a particular server adds make no call on the volume.
abbrev pub ServesNone : {X C : Type 0} → Service X C → Type 0
ServesNone {X} {C} service =
    (choice : Choice) (caller : Caller) (carry : Option C) (op : CopyArg) (g : Going X) → (service.serve choice caller carry op g).going.used ≡ g.used

abbrev pub CallsNone : {X C : Type 0} → Rules X C → Type 0
CallsNone rules = ServesNone rules.service

-- Where a server takes only what calls its volume once at most, it makes one call at most.
abbrev pub CallsOnce : {X C : Type 0} → Codes → List ℕ → ℕ → HostState X C → Stepped X C → Type 0
CallsOnce codes bytes now s t =
    (owner : End) (accepts : List ℕ → Option (List ℕ)) (whose : List ℕ → Option End) → s.contexts.owner ≡ owner
    → TakesSimple (spelling accepts whose) owner (acts_of codes bytes now s t) → length t.out.used ≤ 1

-- ---- the root holds no bytes, and no call goes to it

abbrev pub file_called : VolumeCall → ℕ
file_called (calls.Read file off len) = file
file_called (calls.Write file off len) = file
file_called (calls.Commit file home) = file

abbrev pub AreOffRoot : List Used → Type 0
AreOffRoot [] = Unit {0}
AreOffRoot (used ∷ more) = (file_called used.call ≡ 0 → ⊥) × AreOffRoot more

abbrev pub SparesRoot : {X C : Type 0} → List ℕ → ℕ → HostState X C → Stepped X C → Type 0
SparesRoot bytes now s t = AreOffRoot t.out.used

-- ---- what a step leaves

-- Where a server takes only what calls its volume once at most, the step is to the volume one effect that is allowed: the one that
-- is seen of its call and of the volume afterwards.
abbrev pub ChangesLawfully : {X C : Type 0} → Codes → List ℕ → ℕ → HostState X C → Stepped X C → Type 0
ChangesLawfully codes bytes now s t =
    (owner : End) (accepts : List ℕ → Option (List ℕ)) (whose : List ℕ → Option End) → s.contexts.owner ≡ owner
    → TakesSimple (spelling accepts whose) owner (acts_of codes bytes now s t) → (volume_of s).writes < 2 ^ 32
    → VolumeLaws (volume_of s) (volume_of t.host) (effect_of (volume_of t.host) t.out.used)

-- write numbers stay within a word
abbrev pub KeepsWrites : {X C : Type 0} → List ℕ → ℕ → HostState X C → Stepped X C → Type 0
KeepsWrites bytes now s t = (volume_of s).writes < 2 ^ 32 → (volume_of t.host).writes < 2 ^ 32

-- the volume stays fitting
abbrev pub KeepsFitting : {X C : Type 0} → List ℕ → ℕ → HostState X C → Stepped X C → Type 0
KeepsFitting bytes now s t = IsFitting (volume_of s) → IsFitting (volume_of t.host)

-- the number of its opening stays
abbrev pub KeepsOpening : {X C : Type 0} → List ℕ → ℕ → HostState X C → Stepped X C → Type 0
KeepsOpening bytes now s t = (volume_of t.host).boot ≡ (volume_of s).boot
