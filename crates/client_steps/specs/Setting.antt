-- What a client asks by what it knows from the beginning: its principal, and where the servers are.
use Rattle.std.specs.Prelude.{ℕ, ◌≤◌, List, [], ◌∷◌, length, decimal, Option, Some, None, option_map}
use Rattle.copy_privs.specs.declared.privilege.Privilege.{Privilege}
use Rattle.copy_privs.specs.declared.privilege.Privilege.TheVariants.{From, To}
use Rattle.nfs_base.specs.Forms.{net_loc}
use Rattle.nfs_base.specs.declared.limits.TheConstants.{NAME_LIMIT}
use Rattle.nfs_base.specs.declared.side.Side.{Side}
use Rattle.nfs_base.specs.declared.side.Side.TheVariants.{Source, Dest}
use Rattle.client_copies.specs.declared.copy.ClientCopy.{ClientCopy}
use Rattle.client_copies.specs.declared.copy.First.{First}
use Rattle.client_site.specs.Sites.{file_at, up_at}
use Rattle.client_site.specs.declared.site.OpenFile.{OpenFile}
use Rattle.client_site.specs.declared.site.Site.{Site}
use Rattle.session_calls.specs.declared.slot_call.FileCall.TheVariants as asks
use Rattle.session_calls.specs.declared.slot_call.SlotCall.{SlotCall}
use Rattle.session_calls.specs.declared.slot_call.SlotCall.TheVariants as calls
use Rattle.client_steps.specs.declared.setting.Setting.{Setting}

-- The principal's name and the locations have a spelling.
pub record IsFit {M : Type 0} (s : Setting M) : Type 0 where
  pub me : length s.me ≤ NAME_LIMIT
  pub source : net_loc.Fits s.source
  pub dest : net_loc.Fits s.dest

-- OPEN by a file's number in decimal
abbrev pub open_by : List ℕ → ℕ → Option (ℕ × List ℕ) → Option SlotCall
open_by me file None = None
open_by me file (Some up) = Some (calls.Open up.0 me (decimal file))

abbrev pub open_call : List ℕ → ℕ → Site → Option SlotCall
open_call me file s = open_by me file (up_at s)

-- ---- privileges: copy_from_auth at the source, copy_to_auth at the destination

abbrev pub to_read : {M : Type 0} → Setting M → List ℕ → Privilege
to_read s secret = From secret s.dest s.me

abbrev pub to_write : {M : Type 0} → Setting M → List ℕ → Privilege
to_write s secret = To secret (s.source ∷ []) s.me

abbrev pub privilege_at : {M : Type 0} → Setting M → Side → List ℕ → Privilege
privilege_at s Source secret = to_read s secret
privilege_at s Dest secret = to_write s secret

-- ---- COPY_NOTIFY, COPY, and the last GETATTR

abbrev pub notify_of : {M : Type 0} → Setting M → Option OpenFile → Option SlotCall
notify_of s None = None
notify_of s (Some opened_file) = Some (calls.Notify opened_file.handle opened_file.id s.dest)

abbrev pub notify_call : {M : Type 0} → Setting M → ClientCopy → Site → Option SlotCall
notify_call s c source = notify_of s (file_at c.spec.src_file source)

abbrev pub copy_with : {M : Type 0} → Setting M → ClientCopy → OpenFile → Option First → Option SlotCall
copy_with s c opened_file None = None
copy_with s c opened_file (Some first) = Some (calls.Copy first.file first.grant opened_file.handle opened_file.id
    (record { src_off = c.spec.src_off; dst_off = c.spec.dst_off; count = c.spec.count; consecutive = c.spec.consecutive }) s.source)

abbrev pub copy_of : {M : Type 0} → Setting M → ClientCopy → Option OpenFile → Option SlotCall
copy_of s c None = None
copy_of s c (Some opened_file) = copy_with s c opened_file c.first

abbrev pub copy_call : {M : Type 0} → Setting M → ClientCopy → Site → Option SlotCall
copy_call s c dest = copy_of s c (file_at c.spec.dst_file dest)

abbrev pub last_of : Option First → Option SlotCall
last_of None = None
last_of (Some first) = Some (calls.OnFile first.file asks.Change)

abbrev pub last_call : ClientCopy → Option SlotCall
last_call c = last_of c.first
