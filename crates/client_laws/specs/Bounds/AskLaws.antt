-- What a client asks of itself is fit, where what it knows is.
use Rattle.std.proofs.Common.{◌≡◌, ℕ, zero, suc, ◌+◌, ◌<◌, ◌≤◌, ◌^◌, ◌%◌, ◌/◌, Bool, true, false, List, [], ◌∷◌, length, Option, Some, None, refl, arith}
use Rattle.std.specs.Prelude.{◌==◌, IfSome, codes, decimal, if◌then◌else◌, nat_le, nat_lt}
use Rattle.std.specs.Fmt.{digit_glyph, digits, digits_onto}
use Rattle.std.proofs.lemmas.Bool.{leb-true}
use Rattle.std.proofs.lemmas.Fmt.{length-decimal-le}
use Rattle.caller_laws.specs.Fitting.Asking.{SlotCallIsFit}
use Rattle.caller_laws.specs.Fitting.Bounds.{TextFits}
use Rattle.caller_laws.specs.Fitting.BytesLaws.{all_below, below_are, list_are}
use Rattle.caller_laws.specs.Fitting.Fitting.{SetupIsFit, StandingIsFit}
use Rattle.caller_laws.specs.Fitting.ListLaws.{found_holds}
use Rattle.caller_laws.specs.Fitting.OperationLaws.{loc_are}
use Rattle.caller_laws.specs.Fitting.SendLaws.{some_holds}
use Rattle.client_copies.specs.declared.copy.ClientCopy.{ClientCopy}
use Rattle.client_copies.specs.declared.copy.First.{First}
use Rattle.client_copies.specs.declared.copy.Query.{Query}
use Rattle.client_copies.specs.declared.copy.Query.TheVariants as queries
use Rattle.client_laws.specs.Bounds.Known.{CopyIsFit, FileIsFit, FirstIsFit, SettingIsFit, SiteIsFit, SpecIsFit, WorkIsFit}
use Rattle.client_site.specs.Sites.{file_at, up_at, up_in}
use Rattle.client_site.specs.declared.site.OpenFile.{OpenFile}
use Rattle.client_site.specs.declared.site.Site.{Site}
use Rattle.client_steps.specs.Acting.{work_call, write_call}
use Rattle.client_steps.specs.Commands.{query_with}
use Rattle.client_steps.specs.Setting.{copy_call, copy_of, copy_with, last_call, last_of, notify_call, notify_of, open_by, open_call, privilege_at}
use Rattle.client_steps.specs.declared.setting.Setting.{Setting}
use Rattle.copy_privs.specs.Forms.{privilege, privilege_name, privilege_spell}
use Rattle.gss_mech.specs.BytesLaws.{glued, no_bytes, one_more, opaque_are}
use Rattle.mount.specs.State.{setup_in}
use Rattle.mount.specs.declared.state.Standing.{Standing}
use Rattle.mount.specs.declared.state.Standing.TheVariants.{Down, Rooted}
use Rattle.nfs_base.specs.Bounds.{StateIdFits}
use Rattle.nfs_base.specs.Forms.{net_loc}
use Rattle.nfs_base.specs.declared.limits.TheConstants.{DATA_LIMIT, NAME_LIMIT}
use Rattle.nfs_base.specs.declared.side.Side.{Side}
use Rattle.nfs_base.specs.declared.side.Side.TheVariants.{Source, Dest}
use Rattle.nfs_base.specs.declared.state_id.StateId.{StateId}
use Rattle.session_client.specs.declared.setup.Setup.{Setup}
use Rattle.session_client.specs.declared.setup.Setup.TheVariants as setups
use Rattle.wire_xdr.specs.Cursor.{IsBytes}
use Rattle.wire_xdr.specs.Words.{opaque_bytes}
use Rattle.write_queue.specs.declared.work.Work.TheVariants.{Write, Commit}
use Rattle.write_queue.specs.declared.work.Work.{Work}

-- ---- a file's name is its number in decimal

glyph_below : (d : ℕ) → d < 10 → digit_glyph false d < 256
glyph_below d small = by (nat_lt d 10)
  where
    by : (b : Bool) → (if b then 48 + d else (if false then 55 + d else 87 + d)) < 256
    by true = omega arith
    by false = omega arith

digit_small : (n : ℕ) → n % 10 < 10
digit_small n = omega arith

onto_are : (k n : ℕ) (text : List ℕ) → IsBytes text → IsBytes (digits_onto k 10 false n text)
onto_are zero n text h = h
onto_are (suc k) n text h =
    let front = one_more (digit_glyph false (n % 10)) text (glyph_below (n % 10) (digit_small n)) h in
    by (n / 10 == 0) front (onto_are k (n / 10) (digit_glyph false (n % 10) ∷ text) front)
  where
    by : (b : Bool) → IsBytes (digit_glyph false (n % 10) ∷ text) → IsBytes (digits_onto k 10 false (n / 10) (digit_glyph false (n % 10) ∷ text))
        → IsBytes (if b then digit_glyph false (n % 10) ∷ text else digits_onto k 10 false (n / 10) (digit_glyph false (n % 10) ∷ text))
    by true x y = x
    by false x y = y

decimal_are : (n : ℕ) → IsBytes (decimal n)
unfolding digits
decimal_are n = onto_are 64 n [] no_bytes

name_fits : (file : ℕ) → file < 2 ^ 32 → TextFits NAME_LIMIT (decimal file)
name_fits file small =
    let ten = length-decimal-le 10 file (omega arith) (omega arith) (omega arith) in
    record { short = omega arith; are_bytes = decimal_are file }

-- ---- OPEN

up_fits : (setup : Setup) → SetupIsFit setup → IfSome (up_in setup) (λ (up : ℕ × List ℕ). up.0 < 2 ^ 64)
up_fits setups.Down h = tt
up_fits (setups.Rooted verifier) h = tt
up_fits (setups.Registered client sequence) h = tt
up_fits (setups.Joined client session) h = tt
up_fits (setups.Up client session) h = h.0

standing_fits : (calls : ℕ) (s : Standing) → StandingIsFit calls s → IfSome (up_in (setup_in s)) (λ (up : ℕ × List ℕ). up.0 < 2 ^ 64)
standing_fits calls (Down kept) h = tt
standing_fits calls (Rooted root) h = up_fits root.setup h.set_up

open_by_fits : (me : List ℕ) (file : ℕ) (o : Option (ℕ × List ℕ)) → TextFits NAME_LIMIT me → file < 2 ^ 32 → IfSome o (λ (up : ℕ × List ℕ). up.0 < 2 ^ 64)
    → IfSome (open_by me file o) SlotCallIsFit
open_by_fits me file None m small h = tt
open_by_fits me file (Some up) m small h = (h, m, name_fits file small)

pub open_fits : (me : List ℕ) (file : ℕ) (s : Site) → TextFits NAME_LIMIT me → file < 2 ^ 32 → SiteIsFit s → IfSome (open_call me file s) SlotCallIsFit
open_fits me file s m small h = open_by_fits me file (up_at s) m small (standing_fits s.mount.calls s.mount.standing h.mount.standing)

-- ---- a file that is open

pub file_fits : (file : ℕ) (s : Site) → SiteIsFit s → IfSome (file_at file s) FileIsFit
file_fits file s h = some_holds FileIsFit (file_at file s) (λ f there. found_holds FileIsFit (λ (one : OpenFile). one.file == file) s.files f h.files there)

notify_of_fits : {M : Type 0} (s : Setting M) (o : Option OpenFile) → SettingIsFit s → IfSome o FileIsFit → IfSome (notify_of s o) SlotCallIsFit
notify_of_fits s None k h = tt
notify_of_fits s (Some opened_file) k h = (h.handle, h.id, k.dest)

pub notify_fits : {M : Type 0} (s : Setting M) (c : ClientCopy) (source : Site) → SettingIsFit s → SiteIsFit source → IfSome (notify_call s c source) SlotCallIsFit
notify_fits s c source k h = notify_of_fits s (file_at c.spec.src_file source) k (file_fits c.spec.src_file source h)

copy_with_fits : {M : Type 0} (s : Setting M) (c : ClientCopy) (opened_file : OpenFile) (o : Option First) → SettingIsFit s → SpecIsFit c.spec → FileIsFit opened_file
    → IfSome o FirstIsFit → IfSome (copy_with s c opened_file o) SlotCallIsFit
copy_with_fits s c opened_file None k a f h = tt
copy_with_fits s c opened_file (Some known) k a f h =
    (h.file, h.grant, f.handle, f.id, record { src_off = a.src_off; dst_off = a.dst_off; count = a.count }, k.source)

copy_of_fits : {M : Type 0} (s : Setting M) (c : ClientCopy) (o : Option OpenFile) → SettingIsFit s → CopyIsFit c → IfSome o FileIsFit → IfSome (copy_of s c o) SlotCallIsFit
copy_of_fits s c None k c_fits h = tt
copy_of_fits s c (Some opened_file) k c_fits h = copy_with_fits s c opened_file c.first k c_fits.asked h c_fits.told

pub copy_fits : {M : Type 0} (s : Setting M) (c : ClientCopy) (dest : Site) → SettingIsFit s → CopyIsFit c → SiteIsFit dest → IfSome (copy_call s c dest) SlotCallIsFit
copy_fits s c dest k c_fits h = copy_of_fits s c (file_at c.spec.dst_file dest) k c_fits (file_fits c.spec.dst_file dest h)

last_of_fits : (o : Option First) → IfSome o FirstIsFit → IfSome (last_of o) SlotCallIsFit
last_of_fits None h = tt
last_of_fits (Some known) h = (h.file, tt)

pub last_fits : (c : ClientCopy) → CopyIsFit c → IfSome (last_call c) SlotCallIsFit
last_fits c h = last_of_fits c.first h.told

pub query_fits : (query : Query) (id : Option StateId) (o : Option OpenFile) → IfSome id StateIdFits → IfSome o FileIsFit → IfSome (query_with query id o) SlotCallIsFit
query_fits queries.Status (Some id) (Some opened_file) i h = (h.handle, i)
query_fits queries.Cancel (Some id) (Some opened_file) i h = (h.handle, i)
query_fits query (Some id) None i h = tt
query_fits query None o i h = tt

-- ---- a write or a commit

write_fits : (b : Bool) (opened_file : OpenFile) (offset : ℕ) (bytes : List ℕ) → (b ≡ true → length bytes ≤ DATA_LIMIT) → FileIsFit opened_file → offset < 2 ^ 64 → IsBytes bytes
    → IfSome (write_call b opened_file offset bytes) SlotCallIsFit
write_fits true opened_file offset bytes short f small are = (f.handle, (f.id, small, record { short = short refl; are_bytes = are }))
write_fits false opened_file offset bytes short f small are = tt

pub work_fits : (opened_file : OpenFile) (work : Work) → FileIsFit opened_file → WorkIsFit work → IfSome (work_call opened_file work) SlotCallIsFit
work_fits opened_file (Write file offset bytes) f w =
    write_fits (nat_le (length bytes) DATA_LIMIT) opened_file offset bytes (λ e. leb-true (length bytes) DATA_LIMIT e) f w.1 w.2
work_fits opened_file (Commit file) f w = (f.handle, tt)

-- ---- privileges

pub privilege_are : {M : Type 0} (s : Setting M) (side : Side) (secret : List ℕ) → SettingIsFit s → IsBytes secret → IsBytes (privilege_spell (privilege_at s side secret))
unfolding privilege
privilege_are s Source secret k are =
    glued (opaque_bytes secret) _ (opaque_are secret are) (glued (net_loc.spell s.dest) (opaque_bytes s.me) (loc_are s.dest k.dest) (opaque_are s.me k.me.are_bytes))
privilege_are s Dest secret k are =
    glued (opaque_bytes secret) _ (opaque_are secret are)
    (glued _ (opaque_bytes s.me) (list_are net_loc (s.source ∷ []) (loc_are s.source k.source, tt)) (opaque_are s.me k.me.are_bytes))

pub privilege_named : {M : Type 0} (s : Setting M) (side : Side) (secret : List ℕ) → TextFits NAME_LIMIT (privilege_name (privilege_at s side secret))
unfolding all_below
privilege_named s Source secret = record { short = omega arith; are_bytes = below_are (codes "copy_from_auth") refl }
privilege_named s Dest secret = record { short = omega arith; are_bytes = below_are (codes "copy_to_auth") refl }
