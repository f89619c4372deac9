-- What there is between two small steps of a run: the three machines, the draws, the clock, and the numbered list of all
-- records. Own definitions.
use Rattle.std.specs.Prelude.{ℕ, zero, suc, ◌+◌, Bool, true, false, List, [], ◌∷◌, ◌++◌, length, sum_by, slice_get, Option, None, if◌then◌else◌}
use Rattle.nfs_base.specs.declared.seal.End.{End}
use Rattle.nfs_base.specs.declared.seal.End.TheVariants.{Source, Dest, Client}
use Rattle.nfs_base.specs.declared.seal.Seal.{Seal}
use Rattle.outbox.specs.Outboxes.{no_outbox}
use Rattle.outbox.specs.declared.outgoing.Outbox.{Outbox}
use Rattle.outbox.specs.declared.outgoing.Outgoing.{Outgoing}
use Rattle.wire_lines.specs.declared.letters.Speaker.{Speaker}
use Rattle.wire_lines.specs.declared.letters.Speaker.TheVariants as speakers
use Rattle.wire_machine.specs.declared.port.Port.{Port}
use Rattle.wire_machine.specs.Ends.{Machines, port_of}

-- ---- records

-- A record that was sent: its bytes and seal, who sent it and where it goes in, the small step in which it was sent, what
-- that step took, the number of the sender's opening, and whether it was delivered.
pub record Posted : Type 0 where
  pub bytes : List ℕ
  pub seal : Option Seal
  pub from : End
  pub port : Option Port
  pub step : ℕ
  pub took : Option (List ℕ)
  pub opening : ℕ
  pub delivered : Bool

-- the record of a number; they are counted from 1
abbrev pub posted_at : ℕ → List Posted → Option Posted
posted_at zero log = None
posted_at (suc n) log = slice_get log n

-- that record is delivered
abbrev pub marked : ℕ → List Posted → List Posted
marked zero log = log
marked (suc n) [] = []
marked (suc zero) (r ∷ log) = record r { delivered = true } ∷ log
marked (suc (suc n)) (r ∷ log) = r ∷ marked (suc n) log

-- the numbers of those that weren't delivered, counted on from one
abbrev pub waiting_from : ℕ → List Posted → List ℕ
waiting_from number [] = []
waiting_from number (r ∷ log) = if r.delivered then waiting_from (number + 1) log else number ∷ waiting_from (number + 1) log

abbrev pub waiting : List Posted → List ℕ
waiting log = waiting_from 1 log

-- how many bytes they have
abbrev pub bytes_of : List Posted → ℕ
bytes_of log = sum_by (λ r. length r.bytes) log

-- ---- what an end did in a small step: the record that it took, who tells the notes, and what it gave

pub record Part : Type 0 where
  pub took : Option (List ℕ)
  pub speaker : Speaker
  pub out : Outbox

pub record Parts : Type 0 where
  pub source : Part
  pub dest : Part
  pub client : Part

-- an end that does nothing
abbrev pub idle : Speaker → Part
idle speaker = record { took = None; speaker = speaker; out = no_outbox }

abbrev pub all_idle : Parts
all_idle = record { source = idle speakers.Source; dest = idle speakers.Dest; client = idle speakers.Client }

-- ---- all of it

pub record World (S T C W : Type 0) : Type 0 where
  pub source : S
  pub dest : T
  pub client : C
  pub draws : W
  pub clock : ℕ
  pub steps : ℕ
  pub log : List Posted

-- records that an end sends in a step, in which it took this
abbrev pub posted : End → (step opening : ℕ) → Option (List ℕ) → Outgoing → Posted
posted from step opening took out = record {
  bytes = out.bytes;
  seal = out.seal;
  from = from;
  port = port_of from out.to;
  step = step;
  took = took;
  opening = opening;
  delivered = false;
}

abbrev pub all_posted : End → (step opening : ℕ) → Option (List ℕ) → List Outgoing → List Posted
all_posted from step opening took [] = []
all_posted from step opening took (out ∷ outs) = posted from step opening took out ∷ all_posted from step opening took outs

module _ {S T C W : Type 0} where
  -- the number of an end's opening: a server's is its volume's, and a client is opened once
  abbrev pub opening_of : Machines S T C W → End → World S T C W → ℕ
  opening_of m Source w = (m.source_volume w.source).boot
  opening_of m Dest w = (m.dest_volume w.dest).boot
  opening_of m Client w = 0

  -- what an end sends, in a world in which the machines have made their step
  abbrev pub sent_by : Machines S T C W → World S T C W → End → Part → List Posted
  sent_by m w from part = all_posted from w.steps (opening_of m from w) part.took part.out.sent

  -- the records of a small step come behind those before, the source's before the destination's, and the client's last
  abbrev pub with_parts : Machines S T C W → Parts → World S T C W → World S T C W
  with_parts m parts w = record w {
    log = w.log ++ (sent_by m w Source parts.source ++ (sent_by m w Dest parts.dest ++ sent_by m w Client parts.client));
    steps = w.steps + 1;
  }

  -- before the first small step: the servers were just opened on volumes that were just formatted
  abbrev pub first_world : S → T → C → W → World S T C W
  first_world source dest client draws =
      record { source = source; dest = dest; client = client; draws = draws; clock = 0; steps = 0; log = [] }
