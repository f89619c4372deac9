-- A machine that found no memory, and its reply.
use Rattle.std.proofs.Common.{◌≡◌, ℕ, List}
use Rattle.link_server.specs.Answering.{AnswersAt, Caller, Short, Starved, system_error_of}

pub answers_short : {K : Type 0} (calls_of : K → ℕ) (step : ℕ → List ℕ → K → List ℕ → K → Type 0) (kept : K → K → Type 0)
    (reached : K → Type 0) (before after : K) (old : Caller) (told reply : List ℕ) (new : Caller)
    → Starved calls_of step kept reached before after old told (system_error_of told) new → reply ≡ system_error_of told
    → AnswersAt calls_of step kept reached old told reply new
answers_short calls_of step kept reached before after old told reply new starved is =
    Short before after (record {
      known = starved.known;
      enough = starved.enough;
      few = starved.few;
      stays = starved.stays;
      error = is;
      same = starved.same;
    })
