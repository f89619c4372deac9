-- The contexts of an acceptor, and what each call does to them (RFC 2203, RFC 7861).
use Rattle.std.specs.Prelude.{◌≢◌, ◌≤◌, ℕ, ◌+◌, ◌-◌, ◌==◌, ◌||◌, ◌&&◌, Bool, false, not, nat_lt, nat_le, if◌then◌else◌, List, [], ◌∷◌, ◌++◌, take, drop, filter, find, fold, count_by, min, is_none, bytes_eq, Option, Some, None, option_map}
use Rattle.std.specs.Int.{w32, from_be_bytes}
use Rattle.std.specs.List.{AllByRecursion}
use Rattle.nfs_base.specs.declared.limits.TheConstants.{CONTEXT_IDLE, MOST_CONTEXTS}
use Rattle.nfs_base.specs.declared.seal.End.{End}
use Rattle.wire_xdr.specs.Words.{word_bytes}
use Rattle.gss_ctx.specs.declared.context.Context.{Context}
use Rattle.gss_ctx.specs.declared.context.Entry.{Entry}
use Rattle.gss_ctx.specs.Window.{none_seen, noted}

-- whose contexts these are and in which boot, how many numbers were given out, and the contexts
pub record ContextTable (P : Type 0) : Type 0 where
  pub owner : End
  pub boot : ℕ
  pub made : ℕ
  pub entries : List (Entry P)

-- no context has a number that wasn't given out yet
abbrev pub IsNumbered : {P : Type 0} → ContextTable P → Type 0
IsNumbered table = AllByRecursion (λ e. e.number ≤ table.made) table.entries

-- no two contexts have one number
abbrev pub AreDistinct : {P : Type 0} → List (Entry P) → Type 0
AreDistinct [] = Unit {0}
AreDistinct (e ∷ entries) = AllByRecursion (λ other. other.number ≢ e.number) entries × AreDistinct entries

-- what contexts keep true of themselves: both, and that there is room for as many as there may be
pub record IsKept {P : Type 0} (made : ℕ) (entries : List (Entry P)) (capacity : ℕ) : Type 0 where
  pub given : AllByRecursion (λ e. e.number ≤ made) entries
  pub distinct : AreDistinct entries
  pub room : MOST_CONTEXTS ≤ capacity

-- a handle is the boot and the context's number (own profile)
abbrev pub handle_of : ℕ → ℕ → List ℕ
handle_of boot number = word_bytes boot ++ word_bytes number

-- the boot and the number that a handle names
abbrev pub boot_named : List ℕ → ℕ
boot_named handle = from_be_bytes w32 (take 4 handle)

abbrev pub number_named : List ℕ → ℕ
number_named handle = from_be_bytes w32 (drop 4 handle)

-- it admitted something in the last 3,600 seconds, or was made in them
abbrev pub is_live : {P : Type 0} → ℕ → Entry P → Bool
is_live now entry = nat_lt (now - entry.context.used) CONTEXT_IDLE

-- 256 live contexts are held
abbrev pub is_full : {P : Type 0} → ℕ → List (Entry P) → Bool
is_full now entries = nat_le MOST_CONTEXTS (count_by (is_live now) entries)

abbrev pub entry_of : {P : Type 0} → ℕ → List (Entry P) → Option (Entry P)
entry_of number entries = find (λ e. e.number == number) entries

abbrev pub context_of : {P : Type 0} → ℕ → List (Entry P) → Option (Context P)
context_of number entries = option_map (λ e. e.context) (entry_of number entries)

-- the live context of a handle
abbrev pub is_named : {P : Type 0} → ℕ → ℕ → List ℕ → Entry P → Bool
is_named boot now handle e = bytes_eq (handle_of boot e.number) handle && is_live now e

abbrev pub live_entry : {P : Type 0} → ℕ → ℕ → List ℕ → List (Entry P) → Option (Entry P)
live_entry boot now handle entries = find (is_named boot now handle) entries

-- the lowest number of a live context above another number
abbrev pub lower : Option ℕ → ℕ → Option ℕ
lower None n = Some n
lower (Some m) n = Some (min m n)

abbrev pub lower_live : {P : Type 0} → ℕ → ℕ → Option ℕ → Entry P → Option ℕ
lower_live after now lowest e = if nat_lt after e.number && is_live now e then lower lowest e.number else lowest

abbrev pub lowest_above : {P : Type 0} → ℕ → ℕ → List (Entry P) → Option ℕ
lowest_above after now entries = fold (lower_live after now) None entries

-- a live context that isn't a child
abbrev pub is_root : {P : Type 0} → ℕ → ℕ → Entry P → Bool
is_root now number e = (e.number == number) && is_live now e && is_none e.context.parent

abbrev pub root_of : {P : Type 0} → ℕ → ℕ → List (Entry P) → Option (Entry P)
root_of now number entries = find (is_root now number) entries

abbrev pub is_number : Option ℕ → ℕ → Bool
is_number None n = false
is_number (Some m) n = m == n

-- a sequence number is seen on a context
abbrev pub noted_on : {P : Type 0} → ℕ → ℕ → Entry P → Entry P
noted_on number seq e = if e.number == number then record e { window = noted seq e.window } else e

-- a context is used now, and so is its parent
abbrev pub used_on : {P : Type 0} → ℕ → Option ℕ → ℕ → Entry P → Entry P
used_on number parent now e = if (e.number == number) || is_number parent e.number then record e { context = record e.context { used = now } } else e

-- A new context: its number is the next one, and the dead contexts are taken out.
abbrev pub new_entry : {P : Type 0} → ℕ → Context P → Entry P
new_entry number context = record { number = number; context = context; window = none_seen }

abbrev pub with_new : {P : Type 0} → ℕ → Context P → ContextTable P → ContextTable P
with_new now context table = record table {
  made = table.made + 1;
  entries = filter (is_live now) table.entries ++ new_entry (table.made + 1) context ∷ [];
}

-- A context and its children are gone.
abbrev pub is_kept : {P : Type 0} → ℕ → Entry P → Bool
is_kept number e = not ((e.number == number) || is_number e.context.parent number)

abbrev pub destroyed : {P : Type 0} → ℕ → ContextTable P → ContextTable P
destroyed number table = record table { entries = filter (is_kept number) table.entries }
