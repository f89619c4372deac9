-- What records say, as far as the laws of a wire speak of it: functions of a record's bytes, which the
-- crates above give. Bytes that aren't a record of a kind have None there. RFC 5531 (xid, calls and replies),
-- RFC 2203 (contexts), RFC 7861 (children), RFC 8881 section 2.10.6 (slots).
use Rattle.std.specs.Prelude.{ℕ, Bool, Option, List}
use Rattle.nfs_base.specs.declared.seal.End.{End}

-- A security context of one server: the opening in which it was made, and its number there.
pub record Context : Type 0 where
  pub boot : ℕ
  pub number : ℕ

-- what SEQUENCE names (RFC 8881 section 18.46): a session, a slot in it, and the call's number there
pub record SlotName : Type 0 where
  pub session : ℕ
  pub slot : ℕ
  pub number : ℕ

-- Whether a record is a reply, and the xid that it carries (RFC 5531 section 9). Whether a call is one to a
-- callback program (RFC 8881 section 2.10.3.1). The principal whose INIT a call is (RFC 2203 section 5.2.2).
-- Whether it makes a child (RFC 7861 section 2.5). The slot that it names, its operations, and, for a reply,
-- their results. The context that an answer to a CREATE gives. Whether operations call a volume once at most. Whether
-- results are those of operations that ran in their slot: SEQUENCE stands first in them with status 0 (RFC 8881 section
-- 18.46). A SEQUENCE that is refused moves no slot.
pub record Spelling : Type 0 where
  pub is_reply : List ℕ → Bool
  pub xid_of : List ℕ → ℕ
  pub is_callback : List ℕ → Bool
  pub begun_by : List ℕ → Option End
  pub is_create : List ℕ → Bool
  pub slot_of : List ℕ → Option SlotName
  pub ops_of : List ℕ → List ℕ
  pub results_of : List ℕ → List ℕ
  pub context_in : List ℕ → Option Context
  pub is_simple : List ℕ → Bool
  pub has_run : List ℕ → Bool
