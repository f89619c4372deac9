-- What a destination tells its clients: at each seat of a job who is told how it ends, and the call that tells it and awaits
-- its answer; and the back channels of sessions, from the side that calls (RFC 8881 section 2.10.3.1, RFC 2203 section 5).
use Rattle.std.specs.Prelude.{ℕ, ◌==◌, ◌&&◌, not, Bool, List, [], ◌∷◌, ◌++◌, filter, find, replicate, slice_index_or, slice_set, is_some, Option, Some, None, option_map}
use Rattle.dest_tasks.specs.declared.seats.TheConstants.{SEATS}
use Rattle.gss_ctx.specs.declared.numbers.TheConstants.{CALLBACK_KEY}
use Rattle.nfs_base.specs.declared.seal.End.TheVariants as ends
use Rattle.sess_slots.specs.Table.{SessionTable}
use Rattle.sess_slots.specs.Begins.{back_at}
use Rattle.sess_slots.specs.declared.answers.Back.{Back}
use Rattle.session_client.specs.Slots.{fresh_numbers}
use Rattle.dest_back.specs.declared.callbacks.Party.{Party}
use Rattle.dest_back.specs.declared.callbacks.Post.{Post}
use Rattle.dest_back.specs.declared.line.Line.{Line}

-- the xid of the last call, 0 before the first; what is at each seat; the lines
pub record CallbackTable : Type 0 where
  pub calls : ℕ
  pub posts : List (Option Post)
  pub lines : List Line

abbrev pub no_callbacks : CallbackTable
no_callbacks = record { calls = 0; posts = replicate SEATS None; lines = [] }

abbrev pub post_at : CallbackTable → (seat : ℕ) → Option Post
post_at c seat = slice_index_or c.posts seat None

abbrev pub with_post : (seat : ℕ) → Post → CallbackTable → CallbackTable
with_post seat post c = record c { posts = slice_set c.posts seat (Some post) }

-- a job sits there from now on, and this party is told how it ends
abbrev pub posted : (seat job : ℕ) → Party → CallbackTable → CallbackTable
posted seat job party c = with_post seat (record { job = job; party = party; awaiting = None }) c

-- the second in which the call was last sent that awaits its answer
abbrev pub sent_in : Option Post → Option ℕ
sent_in None = None
sent_in (Some post) = option_map (λ a. a.sent_at) post.awaiting

-- ---- lines

-- The key of the context that the client made for callbacks is derived from that of the root context under which the COPY
-- came, and the handle that it gave with its session.
abbrev pub fresh_line : (derived : List ℕ → ℕ → List ℕ → List ℕ) → Party → Back → Line
fresh_line derived party back = let key = derived party.key CALLBACK_KEY back.handle in record {
  session = party.session;
  key = key;
  caller = record { owner = ends.Client; handle = back.handle; key = key; next = 1 };
  numbers = fresh_numbers;
}

abbrev pub line_of : (session : ℕ) → List Line → Option Line
line_of session lines = find (λ l. l.session == session) lines

abbrev pub or_fresh : (derived : List ℕ → ℕ → List ℕ → List ℕ) → Party → Back → Option Line → Line
or_fresh derived party back None = fresh_line derived party back
or_fresh derived party back (Some line) = line

abbrev pub line_for : (derived : List ℕ → ℕ → List ℕ → List ℕ) → Party → Back → List Line → Line
line_for derived party back lines = or_fresh derived party back (line_of party.session lines)

-- a line is so from now on, and those are let go whose session is gone
abbrev pub stays : SessionTable → (session : ℕ) → Line → Bool
stays sessions session line = not (line.session == session) && is_some (back_at sessions line.session)

abbrev pub with_line : SessionTable → Line → List Line → List Line
with_line sessions line lines = filter (stays sessions line.session) lines ++ line ∷ []
