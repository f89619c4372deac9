-- Operations outside a session make no call, and leave the store.
use Rattle.std.proofs.Common.{◌≡◌, ℕ, Bool, true, false, List, [], ◌∷◌, Option, Some, None, refl}
use Rattle.std.specs.Prelude.{◌==◌}
use Rattle.file_ops.specs.declared.args.FileArg.TheVariants as args
use Rattle.file_ops.specs.declared.operation.TheConstants.{OP_EXCHANGE_ID, OP_CREATE_SESSION, OP_DESTROY_SESSION, OP_DESTROY_CLIENTID}
use Rattle.file_ops.specs.declared.sessions.CreateSessionArgs.{CreateSessionArgs}
use Rattle.file_ops.specs.declared.sessions.ExchangeIdArgs.{ExchangeIdArgs}
use Rattle.file_ops.specs.declared.sessions.Protection.{Protection}
use Rattle.file_ops.specs.declared.sessions.Protection.TheVariants.{Unprotected, Protected}
use Rattle.nfs_base.specs.declared.status.Status.{Status}
use Rattle.nfs_compound.specs.declared.op.Op.{Op}
use Rattle.nfs_compound.specs.declared.op.Op.TheVariants.{File}
use Rattle.sess_slots.specs.Clients as tables
use Rattle.sess_slots.specs.declared.answers.Created.{Created}
use Rattle.sess_slots.specs.declared.answers.Created.TheVariants as created
use Rattle.sess_slots.specs.declared.answers.Exchanged.{Exchanged}
use Rattle.sess_slots.specs.declared.answers.Exchanged.TheVariants as exchanged
use Rattle.server_volume.specs.Store.{Store}
use Rattle.state_ids.specs.Opens.{holds_open}
use Rattle.compound_server.specs.declared.client_end.ClientEnd.{ClientEnd}
use Rattle.compound_server.specs.declared.client_end.ClientEnd.TheVariants.{Lapsed, Gone}
use Rattle.compound_server.specs.declared.who.Who.{Who}
use Rattle.compound_server.specs.Clients.{asks_back, back_handle, by_created, by_exchanged, by_protection, create_session, destroy_clientid, destroy_session, exchange_id, left_if}
use Rattle.compound_server.specs.Compounds.{alone_refusal, outside_session, unless}
use Rattle.compound_server.specs.Course.{Service}
use Rattle.compound_server.specs.State.{Given, Parting, State, with_sessions, without_all, without_one}

-- the store is this one, and no call was made
pub record Rests {X : Type 0} (store : Store) (g : Given X) : Type 0 where
  pub same : g.state.machine.store ≡ store
  pub none : g.used ≡ []

module _ {X : Type 0} (parting : Parting X) where
  left_same : (why : ClientEnd) (clients : List ℕ) (s : State X) → (without_all parting why clients s).machine.store ≡ s.machine.store
  unfolding without_all
  left_same why [] s = refl
  left_same why (client ∷ clients) s = left_same why clients (without_one parting why client s)

  left_one : (b : Bool) (client : ℕ) (s : State X) → (left_if b parting client s).machine.store ≡ s.machine.store
  left_one true client s = refl
  left_one false client s = refl

  exchanged_rests : (answer : Exchanged) (tag : List ℕ) (s : State X) → Rests s.machine.store (by_exchanged answer parting tag s)
  exchanged_rests (exchanged.Client id sequence confirmed ended) tag s = record { same = left_same Lapsed ended s; none = refl }
  exchanged_rests (exchanged.Refused status) tag s = record { same = refl; none = refl }

  protection_rests : (p : Protection) (who : Who) (principal tag : List ℕ) (a : ExchangeIdArgs) (s : State X)
      → Rests s.machine.store (by_protection p parting who principal tag a s)
  protection_rests (Protected how) who principal tag a s = record { same = refl; none = refl }
  protection_rests (Unprotected id) who principal tag a s =
      exchanged_rests (tables.exchange_answer s.sessions principal a.owner a.verifier who.second) tag
      (with_sessions (tables.exchange_table s.sessions principal a.owner a.verifier who.second) s)

  exchange_rests : (who : Who) (principal tag : List ℕ) (a : ExchangeIdArgs) (s : State X) → Rests s.machine.store (exchange_id parting who principal tag a s)
  unfolding exchange_id
  exchange_rests who principal tag a s = protection_rests a.protection who principal tag a s

  created_rests : (answer : Created) (tag : List ℕ) (s : State X) → Rests s.machine.store (by_created answer parting tag s)
  created_rests (created.Made session sequence ended asked) tag s = record { same = left_same Gone _ s; none = refl }
  created_rests (created.Refused status) tag s = record { same = refl; none = refl }

  create_rests : (who : Who) (tag : List ℕ) (a : CreateSessionArgs) (s : State X) → Rests s.machine.store (create_session parting who tag a s)
  unfolding create_session
  create_rests who tag a s =
      let asked = asks_back a.flags in
      let back = tables.asked_back who.conn a.program (back_handle a) in
      created_rests (tables.create_answer s.sessions a.client a.sequence asked) tag
      (with_sessions (tables.create_table s.sessions a.client a.sequence asked back) s)

  destroy_rests : (tag session : List ℕ) (s : State X) → Rests s.machine.store (destroy_session tag session s)
  unfolding destroy_session
  destroy_rests tag session s = record { same = refl; none = refl }

  end_rests : (tag : List ℕ) (client : ℕ) (s : State X) → Rests s.machine.store (destroy_clientid parting tag client s)
  unfolding destroy_clientid
  end_rests tag client s =
      let holds = holds_open s.machine.opens client in
      let status = tables.destroy_client_answer s.sessions client holds in
      record {
        same = left_one (status.number == 0) client (with_sessions (tables.destroy_client_table s.sessions client holds) s);
        none = refl;
      }

  unless_rests : (r : Option Status) (tag : List ℕ) (op : ℕ) (more : State X → Given X) (s : State X) → Rests s.machine.store (more s)
      → Rests s.machine.store (unless r tag op more s)
  unless_rests (Some status) tag op more s rests = record { same = refl; none = refl }
  unless_rests None tag op more s rests = rests

  pub outside_rests : {C : Type 0} (v : Service X C) (who : Who) (principal : List ℕ) (carry : Option C) (tag : List ℕ) (count : ℕ) (op : Op) (s : State X)
      → Rests s.machine.store (outside_session v parting who principal carry tag count op s)
  unfolding outside_session
  outside_rests v who principal carry tag count (File (args.ExchangeId a)) s =
      unless_rests (alone_refusal (count == 1) v who carry OP_EXCHANGE_ID s.machine.extra) tag OP_EXCHANGE_ID (exchange_id parting who principal tag a) s
      (exchange_rests who principal tag a s)
  outside_rests v who principal carry tag count (File (args.CreateSession a)) s =
      unless_rests (alone_refusal (count == 1) v who carry OP_CREATE_SESSION s.machine.extra) tag OP_CREATE_SESSION (create_session parting who tag a) s
      (create_rests who tag a s)
  outside_rests v who principal carry tag count (File (args.DestroySession id)) s =
      unless_rests (alone_refusal (count == 1) v who carry OP_DESTROY_SESSION s.machine.extra) tag OP_DESTROY_SESSION (destroy_session tag id) s
      (destroy_rests tag id s)
  outside_rests v who principal carry tag count (File (args.DestroyClientId client)) s =
      unless_rests (alone_refusal (count == 1) v who carry OP_DESTROY_CLIENTID s.machine.extra) tag OP_DESTROY_CLIENTID (destroy_clientid parting tag client) s
      (end_rests tag client s)
  outside_rests v who principal carry tag count op s = record { same = refl; none = refl }
