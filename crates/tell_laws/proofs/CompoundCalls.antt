-- How many calls on the volume a COMPOUND makes: those of its operations at most, and none where SEQUENCE isn't its first.
use Rattle.std.proofs.Common.{◌≡◌, ℕ, Bool, true, false, List, [], ◌∷◌, Option, Some, None, refl, sym, subst, arith}
use Rattle.std.specs.Prelude.{◌==◌, nat_lt}
use Rattle.file_ops.specs.declared.args.FileArg.TheVariants as args
use Rattle.file_ops.specs.declared.operation.TheConstants.{OP_EXCHANGE_ID, OP_CREATE_SESSION, OP_DESTROY_SESSION, OP_DESTROY_CLIENTID}
use Rattle.file_ops.specs.declared.sessions.CreateSessionArgs.{CreateSessionArgs}
use Rattle.file_ops.specs.declared.sessions.ExchangeIdArgs.{ExchangeIdArgs}
use Rattle.file_ops.specs.declared.sessions.Protection.{Protection}
use Rattle.file_ops.specs.declared.sessions.Protection.TheVariants.{Unprotected, Protected}
use Rattle.file_ops.specs.declared.sessions.SequenceArgs.{SequenceArgs}
use Rattle.nfs_base.specs.declared.limits.TheConstants.{MOST_OPERATIONS}
use Rattle.nfs_base.specs.declared.status.Status.{Status}
use Rattle.nfs_compound.specs.VolumeCalls.{volume_calls}
use Rattle.nfs_compound.specs.declared.compound.Compound.{Compound}
use Rattle.nfs_compound.specs.declared.compound.TheConstants.{MINOR_VERSION}
use Rattle.nfs_compound.specs.declared.op.Op.{Op}
use Rattle.nfs_compound.specs.declared.op.Op.TheVariants.{File}
use Rattle.nfs_compound.specs.declared.tail.Tail.{Tail}
use Rattle.server_volume.specs.Choices.{Choice}
use Rattle.sess_slots.specs.Begins.{begin_of}
use Rattle.sess_slots.specs.Clients as tables
use Rattle.sess_slots.specs.declared.answers.Begin.{Begin}
use Rattle.sess_slots.specs.declared.answers.Begin.TheVariants as begin
use Rattle.sess_slots.specs.declared.answers.Created.{Created}
use Rattle.sess_slots.specs.declared.answers.Created.TheVariants as created
use Rattle.sess_slots.specs.declared.answers.Exchanged.{Exchanged}
use Rattle.sess_slots.specs.declared.answers.Exchanged.TheVariants as exchanged
use Rattle.wire_spelling.specs.Slots.{first_slot}
use Rattle.compound_server.specs.Clients.{asks_back, back_handle, by_created, by_exchanged, by_protection, create_session, destroy_clientid, destroy_session, exchange_id}
use Rattle.compound_server.specs.Compounds.{alone_refusal, by_begin, by_first, by_minor, caller_at, on_compound, outside_session, sequence, unless, unless_many}
use Rattle.compound_server.specs.Course.{Service}
use Rattle.compound_server.specs.State.{Given, Parting, State, begun, with_own, with_sessions}
use Rattle.compound_server.specs.declared.who.Who.{Who}
use Rattle.own_laws.specs.Quiet.{QuietMakeNoCall}
use Rattle.tell_laws.specs.Volumes.{ServesNone}
use Rattle.tell_laws.proofs.Makes.{Makes, makes_none}
use Rattle.tell_laws.proofs.WalkCalls.{calls_behind, walk_makes}

-- no call was made
abbrev pub IsUnused : {X : Type 0} → Given X → Type 0
IsUnused g = g.used ≡ []

-- ---- operations outside a session

module _ {X C : Type 0} (v : Service X C) (parting : Parting X) where
  exchanged_unused : (answer : Exchanged) (tag : List ℕ) (s : State X) → IsUnused (by_exchanged answer parting tag s)
  exchanged_unused (exchanged.Client id sequence confirmed ended) tag s = refl
  exchanged_unused (exchanged.Refused status) tag s = refl

  protection_unused : (p : Protection) (who : Who) (principal tag : List ℕ) (a : ExchangeIdArgs) (s : State X)
      → IsUnused (by_protection p parting who principal tag a s)
  protection_unused (Protected how) who principal tag a s = refl
  protection_unused (Unprotected id) who principal tag a s =
      exchanged_unused (tables.exchange_answer s.sessions principal a.owner a.verifier who.second) tag
      (with_sessions (tables.exchange_table s.sessions principal a.owner a.verifier who.second) s)

  exchange_unused : (who : Who) (principal tag : List ℕ) (a : ExchangeIdArgs) (s : State X) → IsUnused (exchange_id parting who principal tag a s)
  unfolding exchange_id
  exchange_unused who principal tag a s = protection_unused a.protection who principal tag a s

  created_unused : (answer : Created) (tag : List ℕ) (s : State X) → IsUnused (by_created answer parting tag s)
  created_unused (created.Made session sequence ended asked) tag s = refl
  created_unused (created.Refused status) tag s = refl

  create_unused : (who : Who) (tag : List ℕ) (a : CreateSessionArgs) (s : State X) → IsUnused (create_session parting who tag a s)
  unfolding create_session
  create_unused who tag a s =
      let asked = asks_back a.flags in
      let back = tables.asked_back who.conn a.program (back_handle a) in
      created_unused (tables.create_answer s.sessions a.client a.sequence asked) tag
      (with_sessions (tables.create_table s.sessions a.client a.sequence asked back) s)

  destroy_unused : (tag session : List ℕ) (s : State X) → IsUnused (destroy_session tag session s)
  unfolding destroy_session
  destroy_unused tag session s = refl

  end_unused : (tag : List ℕ) (client : ℕ) (s : State X) → IsUnused (destroy_clientid parting tag client s)
  unfolding destroy_clientid
  end_unused tag client s = refl

  unless_unused : (r : Option Status) (tag : List ℕ) (op : ℕ) (more : State X → Given X) (s : State X) → IsUnused (more s) → IsUnused (unless r tag op more s)
  unless_unused (Some status) tag op more s unused = refl
  unless_unused None tag op more s unused = unused

  pub outside_unused : (who : Who) (principal : List ℕ) (carry : Option C) (tag : List ℕ) (count : ℕ) (op : Op) (s : State X)
      → IsUnused (outside_session v parting who principal carry tag count op s)
  unfolding outside_session
  outside_unused who principal carry tag count (File (args.ExchangeId a)) s =
      unless_unused (alone_refusal (count == 1) v who carry OP_EXCHANGE_ID s.machine.extra) tag OP_EXCHANGE_ID (exchange_id parting who principal tag a) s
      (exchange_unused who principal tag a s)
  outside_unused who principal carry tag count (File (args.CreateSession a)) s =
      unless_unused (alone_refusal (count == 1) v who carry OP_CREATE_SESSION s.machine.extra) tag OP_CREATE_SESSION (create_session parting who tag a) s
      (create_unused who tag a s)
  outside_unused who principal carry tag count (File (args.DestroySession id)) s =
      unless_unused (alone_refusal (count == 1) v who carry OP_DESTROY_SESSION s.machine.extra) tag OP_DESTROY_SESSION (destroy_session tag id) s
      (destroy_unused tag id s)
  outside_unused who principal carry tag count (File (args.DestroyClientId client)) s =
      unless_unused (alone_refusal (count == 1) v who carry OP_DESTROY_CLIENTID s.machine.extra) tag OP_DESTROY_CLIENTID (destroy_clientid parting tag client) s
      (end_unused tag client s)
  outside_unused who principal carry tag count op s = refl

-- ---- a COMPOUND

-- calls are made for its operations, behind a SEQUENCE
pub record CallsFew {X : Type 0} (ops : List Op) (g : Given X) : Type 0 where
  pub makes : Makes (volume_calls ops) [] g.used
  pub outside : first_slot ops ≡ None → IsUnused g

unused_few : {X : Type 0} (ops : List Op) (g : Given X) → IsUnused g → CallsFew ops g
unused_few ops g unused = record { makes = makes_none (volume_calls ops) [] g.used unused; outside = λ none. unused }

-- SEQUENCE makes none
same_behind : (a : SequenceArgs) (ops : List Op) → volume_calls (File (args.Sequence a) ∷ ops) ≡ volume_calls ops
same_behind a ops = omega (arith, calls_behind (File (args.Sequence a)) ops)

module _ {X C : Type 0} (v : Service X C) (quiet : QuietMakeNoCall v) (serves : ServesNone v) (parting : Parting X) (choice : Choice) (who : Who) (principal : List ℕ) (carry : Option C) where
  begin_makes : (answer : Begin) (tag : List ℕ) (a : SequenceArgs) (ops : List Op) (tail : Tail) (s : State X)
      → Makes (volume_calls ops) [] (by_begin answer v choice who carry tag a ops tail s).used
  begin_makes (begin.New place) tag a ops tail s = walk_makes v quiet serves choice (caller_at who place s.sessions) carry tail ops (begun s)
  begin_makes (begin.Replay place) tag a ops tail s = makes_none (volume_calls ops) [] [] refl
  begin_makes begin.FalseRetry tag a ops tail s = makes_none (volume_calls ops) [] [] refl
  begin_makes begin.BadSession tag a ops tail s = makes_none (volume_calls ops) [] [] refl
  begin_makes begin.BadSlot tag a ops tail s = makes_none (volume_calls ops) [] [] refl
  begin_makes begin.Misordered tag a ops tail s = makes_none (volume_calls ops) [] [] refl

  sequence_few : (tag : List ℕ) (a : SequenceArgs) (ops : List Op) (tail : Tail) (s : State X)
      → CallsFew (File (args.Sequence a) ∷ ops) (sequence v choice who carry tag a ops tail s)
  unfolding sequence
  sequence_few tag a ops tail s =
      let answer = begin_of s.sessions a.session a.slot a.sequence who.root in
      record {
        makes = subst (λ n. Makes n [] (by_begin answer v choice who carry tag a ops tail s).used) (sym (same_behind a ops))
            (begin_makes answer tag a ops tail s);
        outside = λ none. absurd cc;
      }

  first_few : (tag : List ℕ) (count : ℕ) (ops : List Op) (tail : Tail) (s : State X) → CallsFew ops (by_first v parting choice who principal carry tag count ops tail s)
  unfolding by_first
  first_few tag count [] tail s = unused_few [] _ refl
  first_few tag count (File (args.Sequence a) ∷ ops) tail s = sequence_few tag a ops tail s
  first_few tag count (op ∷ ops) tail s = unused_few (op ∷ ops) _ (outside_unused v parting who principal carry tag count op s)

  many_few : (many : Bool) (c : Compound) (s : State X) → CallsFew c.ops (unless_many many v parting choice who principal carry c s)
  many_few true c s = unused_few c.ops _ refl
  many_few false c s = first_few c.tag c.count c.ops c.tail s

  minor_few : (minor : Bool) (c : Compound) (s : State X) → CallsFew c.ops (by_minor minor v parting choice who principal carry c s)
  minor_few false c s = unused_few c.ops _ refl
  minor_few true c s = many_few (nat_lt MOST_OPERATIONS c.count) c s

  pub compound_few : (c : Compound) (s : State X) → CallsFew c.ops (on_compound v parting choice who principal carry c s)
  unfolding on_compound
  compound_few c s = minor_few (c.minor == MINOR_VERSION) c (with_own (parting.lapse who.second s.machine.extra) s)
