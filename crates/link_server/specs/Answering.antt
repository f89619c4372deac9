-- What a connection gets from a machine that other connections call too. Own definitions.
use Rattle.std.specs.Prelude.{◌≡◌, ◌==◌, ℕ, ◌+◌, ◌<◌, ◌≤◌, List, [], ◌∷◌, if◌then◌else◌, Option}
use Rattle.std.specs.Int.{w32, from_be_bytes}
use Rattle.rpc_msg.specs.declared.numbers.TheConstants.{AUTH_NONE, CALL}
use Rattle.rpc_msg.specs.declared.reply.ReplyHead.TheVariants.{Accepted}
use Rattle.rpc_msg.specs.declared.reply.Stat.TheVariants.{SystemErr}
use Rattle.rpc_msg.specs.Heads.{reply}
use Rattle.link_server.specs.Reaching.{ReachedFrom}
use Rattle.link_server.specs.declared.machine.TheConstants.{MOST_CALLS}

-- no machine makes more calls
abbrev pub most_calls : ℕ
most_calls = MOST_CALLS

-- The number of a call: the first word of a record whose second word says that it is one, and 0 of any other record (RFC 5531
-- section 9).
abbrev pub xid_of : List ℕ → ℕ
xid_of (w ∷ x ∷ y ∷ z ∷ a ∷ b ∷ c ∷ d ∷ bytes) =
    if from_be_bytes w32 (a ∷ b ∷ c ∷ d ∷ []) == CALL then from_be_bytes w32 (w ∷ x ∷ y ∷ z ∷ []) else 0
xid_of _ = 0

-- the reply for want of memory
abbrev pub system_error_of : List ℕ → List ℕ
system_error_of told = reply.spell (Accepted (xid_of told) (record { flavor = AUTH_NONE; body = [] }) SystemErr)

-- A connection: its number, and how many calls of the machine it has made that found memory.
pub record Caller : Type 0 where
  pub conn : ℕ
  pub calls : ℕ

module _ {K : Type 0} (calls_of : K → ℕ) (step : ℕ → List ℕ → K → List ℕ → K → Type 0) (kept : K → K → Type 0) (reached : K → Type 0) where
  -- The machine answered by one step of it, from a state of which so much is known, and which had made as many calls at least as this
  -- connection had.
  pub record Stepped (before after : K) (old : Caller) (told reply : List ℕ) (new : Caller) : Type 0 where
    pub known : reached before
    pub enough : old.calls ≤ calls_of before
    pub few : calls_of before < most_calls
    pub stepped : step old.conn told before reply after
    pub counted : new ≡ record old { calls = old.calls + 1 }

  -- The machine had no call left: nothing is answered.
  pub record Spent (before : K) (old : Caller) (reply : List ℕ) (new : Caller) : Type 0 where
    pub known : reached before
    pub full : most_calls ≤ calls_of before
    pub nothing : reply ≡ []
    pub same : new ≡ old

  -- The machine found no memory, and stayed as it was.
  pub record Starved (before after : K) (old : Caller) (told reply : List ℕ) (new : Caller) : Type 0 where
    pub known : reached before
    pub enough : old.calls ≤ calls_of before
    pub few : calls_of before < most_calls
    pub stays : kept before after
    pub error : reply ≡ system_error_of told
    pub same : new ≡ old

  -- What a connection gets for a record, from such a state of the machine.
  pub data AnswersAt (old : Caller) (told reply : List ℕ) (new : Caller) : Type 0 where
    Step : (before after : K) → Stepped before after old told reply new → AnswersAt old told reply new
    Full : (before : K) → Spent before old reply new → AnswersAt old told reply new
    Short : (before after : K) → Starved before after old told reply new → AnswersAt old told reply new

-- The same from a state to which the machine had come by calls from that in which the server began.
abbrev pub Answers : {K : Type 0} → (K → ℕ) → (ℕ → List ℕ → K → List ℕ → K → Type 0) → (K → K → Type 0) → (origin : Option K)
    → Caller → List ℕ → List ℕ → Caller → Type 0
Answers calls_of step kept origin = AnswersAt calls_of step kept (ReachedFrom calls_of step kept origin)
