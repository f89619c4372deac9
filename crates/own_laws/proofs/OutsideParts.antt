-- Operations outside a session go along: what a client's end leaves does.
use Rattle.std.proofs.Common.{ℕ, Bool, true, false, List, [], ◌∷◌, Option, Some, None}
use Rattle.std.specs.Prelude.{◌==◌, option_to_list}
use Rattle.file_ops.specs.declared.args.FileArg.TheVariants as args
use Rattle.file_ops.specs.declared.operation.TheConstants.{OP_EXCHANGE_ID, OP_CREATE_SESSION, OP_DESTROY_SESSION, OP_DESTROY_CLIENTID}
use Rattle.file_ops.specs.declared.sessions.CreateSessionArgs.{CreateSessionArgs}
use Rattle.file_ops.specs.declared.sessions.ExchangeIdArgs.{ExchangeIdArgs}
use Rattle.file_ops.specs.declared.sessions.Protection.{Protection}
use Rattle.file_ops.specs.declared.sessions.Protection.TheVariants.{Unprotected, Protected}
use Rattle.nfs_base.specs.declared.status.Status.{Status}
use Rattle.nfs_compound.specs.declared.op.Op.{Op}
use Rattle.nfs_compound.specs.declared.op.Op.TheVariants.{File}
use Rattle.sess_slots.specs.Clients as tables
use Rattle.sess_slots.specs.declared.answers.Created.{Created}
use Rattle.sess_slots.specs.declared.answers.Created.TheVariants as created
use Rattle.sess_slots.specs.declared.answers.Exchanged.{Exchanged}
use Rattle.sess_slots.specs.declared.answers.Exchanged.TheVariants as exchanged
use Rattle.state_ids.specs.Opens.{holds_open}
use Rattle.compound_server.specs.declared.client_end.ClientEnd.{ClientEnd}
use Rattle.compound_server.specs.declared.client_end.ClientEnd.TheVariants.{Lapsed, Gone}
use Rattle.compound_server.specs.declared.who.Who.{Who}
use Rattle.compound_server.specs.Clients.{asks_back, back_handle, by_created, by_exchanged, by_protection, create_session, destroy_clientid, destroy_session, exchange_id, left_if}
use Rattle.compound_server.specs.Compounds.{alone_refusal, outside_session, unless}
use Rattle.compound_server.specs.Course.{Service}
use Rattle.compound_server.specs.State.{Given, Parting, State, with_sessions, without_all, without_one}
use Rattle.own_laws.proofs.Grows.{Grows}

module _ {X C : Type 0} (goes : ℕ → X → X → Type 0) (v : Service X C) (parting : Parting X) (silent : X → X) (f : Grows goes v parting silent) where
  -- from what the server had on
  abbrev pub GoesTo : State X → Given X → Type 0
  GoesTo s g = goes 0 s.machine.extra g.state.machine.extra

  left_goes : (why : ClientEnd) (clients : List ℕ) (s : State X) → goes 0 s.machine.extra (without_all parting why clients s).machine.extra
  unfolding without_all
  left_goes why [] s = f.same 0 s.machine.extra
  left_goes why (client ∷ clients) s = f.joins 0 0 _ _ _ (f.leave client why s.machine.extra) (left_goes why clients (without_one parting why client s))

  left_one : (b : Bool) (client : ℕ) (s : State X) → goes 0 s.machine.extra (left_if b parting client s).machine.extra
  left_one true client s = f.leave client Gone s.machine.extra
  left_one false client s = f.same 0 s.machine.extra

  exchanged_goes : (answer : Exchanged) (tag : List ℕ) (s : State X) → GoesTo s (by_exchanged answer parting tag s)
  exchanged_goes (exchanged.Client id sequence confirmed ended) tag s = left_goes Lapsed ended s
  exchanged_goes (exchanged.Refused status) tag s = f.same 0 s.machine.extra

  protection_goes : (p : Protection) (who : Who) (principal tag : List ℕ) (a : ExchangeIdArgs) (s : State X)
      → GoesTo s (by_protection p parting who principal tag a s)
  protection_goes (Protected how) who principal tag a s = f.same 0 s.machine.extra
  protection_goes (Unprotected id) who principal tag a s =
      exchanged_goes (tables.exchange_answer s.sessions principal a.owner a.verifier who.second) tag
      (with_sessions (tables.exchange_table s.sessions principal a.owner a.verifier who.second) s)

  exchange_goes : (who : Who) (principal tag : List ℕ) (a : ExchangeIdArgs) (s : State X) → GoesTo s (exchange_id parting who principal tag a s)
  unfolding exchange_id
  exchange_goes who principal tag a s = protection_goes a.protection who principal tag a s

  created_goes : (answer : Created) (tag : List ℕ) (s : State X) → GoesTo s (by_created answer parting tag s)
  created_goes (created.Made session sequence ended asked) tag s = left_goes Gone (option_to_list ended) s
  created_goes (created.Refused status) tag s = f.same 0 s.machine.extra

  create_goes : (who : Who) (tag : List ℕ) (a : CreateSessionArgs) (s : State X) → GoesTo s (create_session parting who tag a s)
  unfolding create_session
  create_goes who tag a s =
      let asked = asks_back a.flags in
      let back = tables.asked_back who.conn a.program (back_handle a) in
      created_goes (tables.create_answer s.sessions a.client a.sequence asked) tag
      (with_sessions (tables.create_table s.sessions a.client a.sequence asked back) s)

  destroy_goes : (tag session : List ℕ) (s : State X) → GoesTo s (destroy_session tag session s)
  unfolding destroy_session
  destroy_goes tag session s = f.same 0 s.machine.extra

  end_goes : (tag : List ℕ) (client : ℕ) (s : State X) → GoesTo s (destroy_clientid parting tag client s)
  unfolding destroy_clientid
  end_goes tag client s =
      let holds = holds_open s.machine.opens client in
      let status = tables.destroy_client_answer s.sessions client holds in
      left_one (status.number == 0) client (with_sessions (tables.destroy_client_table s.sessions client holds) s)

  unless_goes : (r : Option Status) (tag : List ℕ) (op : ℕ) (more : State X → Given X) (s : State X) → GoesTo s (more s) → GoesTo s (unless r tag op more s)
  unless_goes (Some status) tag op more s goes = f.same 0 s.machine.extra
  unless_goes None tag op more s goes = goes

  pub outside_goes : (who : Who) (principal : List ℕ) (carry : Option C) (tag : List ℕ) (count : ℕ) (op : Op) (s : State X)
      → GoesTo s (outside_session v parting who principal carry tag count op s)
  unfolding outside_session
  outside_goes who principal carry tag count (File (args.ExchangeId a)) s =
      unless_goes (alone_refusal (count == 1) v who carry OP_EXCHANGE_ID s.machine.extra) tag OP_EXCHANGE_ID (exchange_id parting who principal tag a) s
      (exchange_goes who principal tag a s)
  outside_goes who principal carry tag count (File (args.CreateSession a)) s =
      unless_goes (alone_refusal (count == 1) v who carry OP_CREATE_SESSION s.machine.extra) tag OP_CREATE_SESSION (create_session parting who tag a) s
      (create_goes who tag a s)
  outside_goes who principal carry tag count (File (args.DestroySession id)) s =
      unless_goes (alone_refusal (count == 1) v who carry OP_DESTROY_SESSION s.machine.extra) tag OP_DESTROY_SESSION (destroy_session tag id) s
      (destroy_goes tag id s)
  outside_goes who principal carry tag count (File (args.DestroyClientId client)) s =
      unless_goes (alone_refusal (count == 1) v who carry OP_DESTROY_CLIENTID s.machine.extra) tag OP_DESTROY_CLIENTID (destroy_clientid parting tag client) s
      (end_goes tag client s)
  outside_goes who principal carry tag count op s = f.same 0 s.machine.extra
