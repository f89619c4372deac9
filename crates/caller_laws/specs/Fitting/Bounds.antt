-- Numbers below the bounds of their types, and bytes within their limits: what has a spelling, and is spelled in bytes.
use Rattle.std.specs.Prelude.{◌≡◌, ℕ, ◌<◌, ◌≤◌, ◌^◌, List, length}
use Rattle.nfs_base.specs.declared.limits.TheConstants.{TEXT_LIMIT}
use Rattle.nfs_base.specs.declared.net_loc.NetLoc.{NetLoc}
use Rattle.nfs_base.specs.declared.net_loc.NetLoc.TheVariants.{Name, Url, Addr}
use Rattle.session_calls.specs.declared.slot_call.CopyRange.{CopyRange}
use Rattle.session_calls.specs.declared.slot_call.SlotUse.{SlotUse}
use Rattle.wire_xdr.specs.Cursor.{IsBytes}

-- so many bytes
pub record FixedFits (size : ℕ) (fixed : List ℕ) : Type 0 where
  pub size_is : length fixed ≡ size
  pub are_bytes : IsBytes fixed

-- at most so many bytes
pub record TextFits (limit : ℕ) (text : List ℕ) : Type 0 where
  pub short : length text ≤ limit
  pub are_bytes : IsBytes text

abbrev pub NetLocFits : NetLoc → Type 0
NetLocFits (Name name) = TextFits TEXT_LIMIT name
NetLocFits (Url url) = TextFits TEXT_LIMIT url
NetLocFits (Addr netid addr) = TextFits TEXT_LIMIT netid × TextFits TEXT_LIMIT addr

pub record RangeFits (range : CopyRange) : Type 0 where
  pub src_off : range.src_off < 2 ^ 64
  pub dst_off : range.dst_off < 2 ^ 64
  pub count : range.count < 2 ^ 64

-- the session, the slot and the number there of a call
pub record SlotUseFits (place : SlotUse) : Type 0 where
  pub session : FixedFits 16 place.session
  pub slot : place.slot < 2 ^ 32
  pub number : place.number < 2 ^ 32
