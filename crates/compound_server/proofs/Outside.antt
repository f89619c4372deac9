-- What answers a COMPOUND outside a session, by its first operation.
use Rattle.std.proofs.Common.{◌≡◌, ℕ, true, false, List, [], ◌∷◌, ◌++◌, length, Result, Ok, Err, refl, sym, ap, ◌∙◌, append-nil}
use Rattle.std.specs.Prelude.{◌==◌, IfOk, Option, remove, slice_index_or}
use Rattle.file_ops.specs.declared.args.FileArg.TheVariants as args
use Rattle.file_ops.specs.declared.sessions.SequenceArgs.{SequenceArgs}
use Rattle.file_server.specs.declared.extension.Ask.TheVariants.{Operation}
use Rattle.nfs_base.specs.declared.status.Status.{Status}
use Rattle.nfs_compound.specs.declared.op.Op.{Op}
use Rattle.nfs_compound.specs.declared.op.Op.TheVariants.{File}
use Rattle.nfs_compound.specs.declared.tail.Tail.{Tail}
use Rattle.nfs_compound.specs.Results.{reply}
use Rattle.server_volume.specs.declared.used.Used.{Used}
use Rattle.server_volume.specs.Choices.{Choice}
use Rattle.wire_xdr.specs.Page.{Added, Written}
use Rattle.wire_xdr.specs.Words.{word_bytes, opaque_bytes}
use Rattle.compound_server.specs.declared.compounds.Reply.{Reply}
use Rattle.compound_server.specs.declared.server.Server.{Server}
use Rattle.compound_server.specs.declared.who.Who.{Who}
use Rattle.compound_server.specs.Compounds.{alone_refusal, by_first, outside, outside_session}
use Rattle.compound_server.specs.Course.{Service}
use Rattle.compound_server.specs.Performing.{gate_refusal}
use Rattle.compound_server.specs.State.{Given, Gives, Parting, State, given_of, state_of}
use Rattle.compound_server.proofs.Replies.{reply_spelled}

-- ---- replies

-- a reply without results
pub none_spelled : (s : Status) (tag : List ℕ) → reply.spell (record { status = s; tag = tag; results = [] }) ≡ word_bytes s.number ++ (opaque_bytes tag ++ word_bytes 0)
none_spelled s tag =
    reply_spelled s tag []
    ∙ ap (λ (bytes : List ℕ). word_bytes s.number ++ (opaque_bytes tag ++ bytes)) (append-nil (word_bytes 0))

-- such a reply on a page that was empty
pub none_said : (page new : Written) (room : ℕ) (s : Status) (tag body : List ℕ)
    → page ≡ record { bytes = []; room = room } → Added page (word_bytes s.number ++ (opaque_bytes tag ++ word_bytes 0)) new → body ≡ new.bytes
    → body ≡ reply.spell (record { status = s; tag = tag; results = [] })
none_said page new room s tag body empty added is =
    is ∙ added.is
    ∙ ap (λ (p : Written). p.bytes ++ (word_bytes s.number ++ (opaque_bytes tag ++ word_bytes 0))) empty
    ∙ sym (none_spelled s tag)

abbrev given_by : {X : Type 0} → State X → List Used → List ℕ → Given X
given_by state used body = record { state = state; used = used; body = body }

-- what is given, part by part
pub given_is : {X : Type 0} (s t : State X) (us vs : List Used) (b c : List ℕ) → s ≡ t → us ≡ vs → b ≡ c
    → given_by s us b ≡ given_by t vs c
given_is {X = X} s t us vs b c states calls bodies =
    ap (λ (r : State X). given_by r us b) states
    ∙ ap (λ (ws : List Used). given_by t ws b) calls
    ∙ ap (λ (bytes : List ℕ). given_by t vs bytes) bodies

-- ---- operations that stand alone

-- why the server's extension lets one not go on
pub alone_asked : {X C : Type 0} (v : Service X C) (who : Who) (carry : Option C) (count op : ℕ) (x y : X) (told : Option Status) → count ≡ 1
    → (v.gate y (outside who) carry (Operation op)).1 ≡ (v.gate x (outside who) carry (Operation op)).1
    → told ≡ gate_refusal (v.gate x (outside who) carry (Operation op)).1
    → told ≡ alone_refusal (count == 1) v who carry op y
alone_asked v who carry count op x y told one timeless is =
    is ∙ ap gate_refusal (sym timeless) ∙ ap (λ (n : ℕ). alone_refusal (n == 1) v who carry op y) (sym one)

-- ---- the first operation

-- it is taken off the list
pub first_taken : {A : Type 0} (xs rest : List A) (x : A) → (length xs == 0) ≡ false → x ≡ slice_index_or xs 0 x → rest ≡ remove xs 0 → xs ≡ x ∷ rest
first_taken [] rest x some is left = let e : true ≡ false = some in absurd cc
first_taken {A = A} (y ∷ ys) rest x some is left =
    ap (λ (z : A). z ∷ ys) (sym is) ∙ ap (λ (zs : List A). x ∷ zs) (sym left)

other_first : {X C : Type 0} (v : Service X C) (parting : Parting X) (choice : Choice) (who : Who) (principal : List ℕ) (carry : Option C) (tag : List ℕ) (count : ℕ) (op : Op) (ops : List Op) (tail : Tail) (s : State X)
    → ((a : SequenceArgs) → op ≡ File (args.Sequence a) → ⊥)
    → by_first v parting choice who principal carry tag count (op ∷ ops) tail s ≡ outside_session v parting who principal carry tag count op s
unfolding by_first
other_first v parting choice who principal carry tag count (File (args.Sequence a)) ops tail s other = absurd (other a refl)
other_first v parting choice who principal carry tag count op ops tail s other = refl

-- it isn't SEQUENCE
pub outside_first : {X C : Type 0} (v : Service X C) (parting : Parting X) (choice : Choice) (who : Who) (principal : List ℕ) (carry : Option C) (tag said : List ℕ) (count : ℕ) (op : Op) (ops rest : List Op) (tail : Tail) (s : State X)
    → ((a : SequenceArgs) → op ≡ File (args.Sequence a) → ⊥) → ops ≡ op ∷ rest → said ≡ tag
    → by_first v parting choice who principal carry tag count ops tail s ≡ outside_session v parting who principal carry said count op s
outside_first v parting choice who principal carry tag said count op ops rest tail s other taken is =
    ap (λ (os : List Op). by_first v parting choice who principal carry tag count os tail s) taken
    ∙ other_first v parting choice who principal carry tag count op rest tail s other
    ∙ ap (λ (t : List ℕ). outside_session v parting who principal carry t count op s) (sym is)

-- what is given at any choice
pub gives_at : {D X E : Type 0} (size : D → ℕ) (new : Server D X) (r : Result Reply E) (a : Given X) (told : Choice → Given X)
    → ((choice : Choice) → told choice ≡ a) → IfOk r (λ t. given_of size new t ≡ a)
    → IfOk r (λ t. Gives told (state_of size new) t.used t.body)
gives_at size new (Ok t) a told always given = λ choice agrees. always choice ∙ sym given
gives_at size new (Err e) a told always given = given
