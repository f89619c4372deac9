-- Turns in their order, and what both links bring and take in them.
use Rattle.std.proofs.Common.{◌≡◌, ℕ, false, List, [], ◌∷◌, ◌++◌, Option, Some, None, refl, sym, ap, subst, ◌∙◌, append-nil, append_assoc}
use Rattle.nfs_base.specs.declared.side.Side.{Side}
use Rattle.nfs_base.specs.declared.side.Side.TheVariants.{Source, Dest}
use Rattle.rpc_msg.specs.Watching.{Watch, is_down}
use Rattle.single_copy.specs.Copying.{FallsAt, Stops, Done, Down, Full, Fell}
use Rattle.single_copy.specs.Links.{Carries, Sends}
use Rattle.single_copy.specs.Sending.{put_to}
use Rattle.single_copy.specs.Turns.{BothUp, IsTurn, Moves, Parties, Runs, TakesFrom, Terms, Turn, heard, listed, message_at, told}
use Rattle.single_copy.specs.declared.phases.Phase.{Phase}
use Rattle.single_copy.proofs.Carrying.{Goes, TellsOn, fell_carries, goes_heard, goes_join, goes_last, goes_none, goes_sent, stood_carries}
use Rattle.single_copy.proofs.Puts.{sends_none}

-- ---- one turn more

pub runs_more : {L M W : Type 0} (terms : Terms L M W) (a b c : Parties L M W) (p q r : Phase) (turns : List Turn) (turn : Turn)
    → Runs terms a p turns b q → IsTurn terms b q turn c r → Runs terms a p (turns ++ turn ∷ []) c r
runs_more terms a b c p q r [] turn runs is =
    (c, r, subst (λ x. IsTurn terms x p turn c r) runs.0 (subst (λ x. IsTurn terms b x turn c r) runs.1 is), (refl, refl))
runs_more terms a b c p q r (first ∷ turns) turn runs is =
    (runs.0, runs.1, runs.2, runs_more terms runs.0 b c runs.1 q r turns turn runs.3 is)

heard_last : (side : Side) (turn : Turn) → heard side (turn ∷ []) ≡ listed (message_at side turn.event)
heard_last side turn = append-nil (listed (message_at side turn.event))

pub heard_more : (side : Side) (turns : List Turn) (turn : Turn) → heard side (turns ++ turn ∷ []) ≡ heard side turns ++ listed (message_at side turn.event)
heard_more side [] turn = heard_last side turn
heard_more side (first ∷ turns) turn =
    ap (λ l. listed (message_at side first.event) ++ l) (heard_more side turns turn)
    ∙ sym (append_assoc (listed (message_at side first.event)) (heard side turns) (listed (message_at side turn.event)))

-- ---- one link

abbrev pub link_at : {L M W : Type 0} → Side → Parties L M W → Watch L
link_at Source p = p.source
link_at Dest p = p.dest

pub moves_at : {L M W : Type 0} (terms : Terms L M W) (side : Side) (old new : Parties L M W) (p q : Phase) (turn : Turn) → IsTurn terms old p turn new q
    → Moves terms side turn (link_at side old) (link_at side new)
moves_at terms Source old new p q turn is = is.source
moves_at terms Dest old new p q turn is = is.dest

pub up_at : {L M W : Type 0} (side : Side) (p : Parties L M W) → BothUp p → is_down (link_at side p).signs ≡ false
up_at Source p up = up.source
up_at Dest p up = up.dest

goes_took : {L M W : Type 0} (terms : Terms L M W) (message : Option (List ℕ)) (old middle new : Watch L) (bytes : List ℕ) → TellsOn terms.gives
    → TakesFrom terms message old middle → Sends terms.gives terms.takes middle new bytes → Goes terms.gives terms.takes old new (listed message) bytes
goes_took terms None old middle new bytes tells took sends =
    goes_sent terms.gives terms.takes old new bytes (subst (λ w. Sends terms.gives terms.takes w new bytes) took sends)
goes_took terms (Some message) old middle new bytes tells took sends =
    goes_heard terms.gives terms.takes old middle new message bytes tells took sends

pub goes_moves : {L M W : Type 0} (terms : Terms L M W) (side : Side) (turn : Turn) (old new : Watch L) → TellsOn terms.gives → Moves terms side turn old new
    → Goes terms.gives terms.takes old new (listed (message_at side turn.event)) (put_to side turn.out.sent)
goes_moves terms side turn old new tells moves = goes_took terms (message_at side turn.event) old moves.middle new (put_to side turn.out.sent) tells moves.took moves.sent

pub goes_runs : {L M W : Type 0} (terms : Terms L M W) (side : Side) (a b : Parties L M W) (p q : Phase) (turns : List Turn) → TellsOn terms.gives
    → Runs terms a p turns b q → Goes terms.gives terms.takes (link_at side a) (link_at side b) (heard side turns) (told side turns)
goes_runs terms side a b p q [] tells runs =
    subst (λ x. Goes terms.gives terms.takes (link_at side a) (link_at side x) [] []) (sym runs.0) (goes_none terms.gives terms.takes (link_at side a))
goes_runs terms side a b p q (turn ∷ []) tells runs =
    let first = goes_moves terms side turn _ _ tells (moves_at terms side a runs.0 p runs.1 turn runs.2) in
    subst (λ x. Goes terms.gives terms.takes (link_at side a) (link_at side x) (heard side (turn ∷ [])) (told side (turn ∷ []))) (sym runs.3.0)
    (goes_last terms.gives terms.takes _ _ (listed (message_at side turn.event)) (put_to side turn.out.sent) first)
goes_runs terms side a b p q (turn ∷ next ∷ turns) tells runs =
    let first = goes_moves terms side turn _ _ tells (moves_at terms side a runs.0 p runs.1 turn runs.2) in
    goes_join terms.gives terms.takes _ _ _ (listed (message_at side turn.event)) (heard side (next ∷ turns)) (put_to side turn.out.sent) (told side (next ∷ turns))
    first (up_at side runs.0 runs.3.2.up) (goes_runs terms side runs.0 b runs.1 q (next ∷ turns) tells runs.3)

-- ---- to the end

source_fell : {L M W : Type 0} (terms : Terms L M W) (side : Side) (old : Watch L) (last now : Parties L M W) (records : List (List ℕ)) (bytes : List ℕ)
    → Goes terms.gives terms.takes old last.source records bytes → BothUp last → FallsAt side terms last now → Carries terms.gives terms.takes old now.source records bytes
source_fell terms Source old last now records bytes goes up fell = fell_carries terms.gives terms.takes old last.source now.source records bytes goes up.source fell.0
source_fell terms Dest old last now records bytes goes up fell =
    subst (λ w. Carries terms.gives terms.takes old w records bytes) (sym (ap (λ p. p.source) fell.1)) (stood_carries terms.gives terms.takes old last.source records bytes goes)

dest_fell : {L M W : Type 0} (terms : Terms L M W) (side : Side) (old : Watch L) (last now : Parties L M W) (records : List (List ℕ)) (bytes : List ℕ)
    → Goes terms.gives terms.takes old last.dest records bytes → BothUp last → FallsAt side terms last now → Carries terms.gives terms.takes old now.dest records bytes
dest_fell terms Dest old last now records bytes goes up fell = fell_carries terms.gives terms.takes old last.dest now.dest records bytes goes up.dest fell.0
dest_fell terms Source old last now records bytes goes up fell =
    subst (λ w. Carries terms.gives terms.takes old w records bytes) (sym (ap (λ p. p.dest) fell.1)) (stood_carries terms.gives terms.takes old last.dest records bytes goes)

pub link_stops : {L M W : Type 0} (terms : Terms L M W) (side : Side) (old : Watch L) (turns : List Turn) (phase : Phase) (last now : Parties L M W)
    (records : List (List ℕ)) (bytes : List ℕ) → Goes terms.gives terms.takes old (link_at side last) records bytes → Stops terms turns phase last now
    → Carries terms.gives terms.takes old (link_at side now) records bytes
link_stops terms side old turns phase last now records bytes goes (Done due same) =
    subst (λ p. Carries terms.gives terms.takes old (link_at side p) records bytes) (sym same) (stood_carries terms.gives terms.takes old _ records bytes goes)
link_stops terms side old turns phase last now records bytes goes (Down is same) =
    subst (λ p. Carries terms.gives terms.takes old (link_at side p) records bytes) (sym same) (stood_carries terms.gives terms.takes old _ records bytes goes)
link_stops terms side old turns phase last now records bytes goes (Full full up due count same) =
    subst (λ p. Carries terms.gives terms.takes old (link_at side p) records bytes) (sym same) (stood_carries terms.gives terms.takes old _ records bytes goes)
link_stops terms Source old turns phase last now records bytes goes (Fell fell up due falls) = source_fell terms fell old last now records bytes goes up falls
link_stops terms Dest old turns phase last now records bytes goes (Fell fell up due falls) = dest_fell terms fell old last now records bytes goes up falls

-- where an event found no memory
pub link_starves : {L M W : Type 0} (terms : Terms L M W) (message : Option (List ℕ)) (old last now : Watch L) (records : List (List ℕ)) (bytes : List ℕ)
    → TellsOn terms.gives → Goes terms.gives terms.takes old last records bytes → is_down last.signs ≡ false → TakesFrom terms message last now
    → Carries terms.gives terms.takes old now (records ++ listed message) bytes
link_starves terms message old last now records bytes tells goes up took =
    let more = goes_took terms message last now now [] tells took (sends_none terms.gives terms.takes now) in
    stood_carries terms.gives terms.takes old now (records ++ listed message) bytes
    (subst (Goes terms.gives terms.takes old now (records ++ listed message)) (append-nil bytes)
    (goes_join terms.gives terms.takes old last now records (listed message) bytes [] goes up more))
