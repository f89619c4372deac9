-- What a machine does in a step besides what it does at one server: it takes a record that is nothing to that, and sends records under
-- contexts of other ends, replies, and calls by numbers of its own.
use Rattle.std.specs.Prelude.{◌≡◌, ◌⊎◌, ℕ, ◌<◌, ◌≤◌, true, false, List, [], ◌∷◌, ◌++◌, Option, Some, None}
use Rattle.nfs_base.specs.declared.seal.End.{End}
use Rattle.nfs_base.specs.declared.seal.Seal.{Seal}
use Rattle.wire_model.specs.CallerLaws.{LearnsRoot}
use Rattle.wire_model.specs.Spelling.{Context, Spelling}
use Rattle.wire_model.specs.Wire.{Acts, Caller, Purpose, Sends, Sent}

-- no seal of it is this end's
abbrev pub IsElsewhere : End → Sent → Type 0
IsElsewhere owner one = (seal : Seal) → one.seal ≡ Some seal → seal.owner ≡ owner → ⊥

-- each is a reply, or a call by a number above all before it, up to the last
abbrev pub AreBesides : Spelling → End → (low : ℕ) → List Sent → (last : ℕ) → Type 0
AreBesides spell owner low [] last = low ≤ last
AreBesides spell owner low (one ∷ more) last =
    IsElsewhere owner one
    × (((spell.is_reply one.bytes ≡ true) × AreBesides spell owner low more last)
    ⊎ ((low < spell.xid_of one.bytes) × AreBesides spell owner (spell.xid_of one.bytes) more last))

-- the record that was taken is the same, or none was taken there and it gives no root
abbrev pub IsTakenSo : Spelling → End → Caller → Acts → Acts → Type 0
IsTakenSo spell owner v a c =
    ((c.took ≡ a.took) × (c.accepted ≡ a.accepted)) ⊎ ((a.took ≡ None) × ((root : Context) → LearnsRoot spell owner v c root → ⊥))

-- as a caller it stays, but for the count of its calls and what is ready
pub record Stays (u w : Caller) : Type 0 where
  pub boot : u.boot ≡ w.boot
  pub has : w.has ≡ u.has
  pub mount : w.mount ≡ u.mount
  pub next : w.next ≡ u.next
  pub awaits : w.awaits ≡ u.awaits
  pub ready : (purpose : Purpose) → u.ready purpose ≡ true → w.ready purpose ≡ true

-- all of the step, c, from v to w: what was done at the server, a, from v to u, and what besides
pub record GoesBeside (spell : Spelling) (owner : End) (v u w : Caller) (a c : Acts) : Type 0 where
  pub besides : List Sent
  pub opening : v.boot ≡ u.boot
  pub stays : Stays u w
  pub calls : (bytes : List ℕ) (seal : Option Seal) → Sends a bytes seal → spell.is_reply bytes ≡ false
  pub takes : IsTakenSo spell owner v a c
  pub out : c.out ≡ a.out ++ besides
  pub are : AreBesides spell owner u.calls besides w.calls
