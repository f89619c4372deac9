-- Operations outside a session move no slot, and their replies don't say that operations ran in one.
use Rattle.std.proofs.Common.{◌≡◌, ℕ, Bool, true, false, List, [], ◌∷◌, Option, Some, None, refl, sym, subst, arith}
use Rattle.std.specs.Prelude.{◌==◌}
use Rattle.file_ops.specs.declared.args.FileArg.TheVariants as args
use Rattle.file_ops.specs.declared.operation.TheConstants.{OP_EXCHANGE_ID, OP_CREATE_SESSION, OP_DESTROY_SESSION, OP_DESTROY_CLIENTID}
use Rattle.file_ops.specs.declared.sessions.CreateSessionArgs.{CreateSessionArgs}
use Rattle.file_ops.specs.declared.sessions.ExchangeIdArgs.{ExchangeIdArgs}
use Rattle.file_ops.specs.declared.sessions.Protection.{Protection}
use Rattle.file_ops.specs.declared.sessions.Protection.TheVariants.{Unprotected, Protected}
use Rattle.nfs_base.specs.declared.status.Status.{Status}
use Rattle.nfs_base.specs.declared.status.TheConstants.Status as statuses
use Rattle.nfs_compound.specs.declared.op.Op.{Op}
use Rattle.nfs_compound.specs.declared.op.Op.TheVariants.{File}
use Rattle.nfs_compound.specs.Ops.{op_number}
use Rattle.nfs_compound.specs.Walk.{last_status}
use Rattle.sess_slots.specs.declared.answers.Created.{Created}
use Rattle.sess_slots.specs.declared.answers.Created.TheVariants as created
use Rattle.sess_slots.specs.declared.answers.Exchanged.{Exchanged}
use Rattle.sess_slots.specs.declared.answers.Exchanged.TheVariants as exchanged
use Rattle.sess_slots.specs.Clients as tables
use Rattle.sess_slots.specs.Table.{SessionTable}
use Rattle.state_ids.specs.Opens.{holds_open}
use Rattle.wire_xdr.specs.Words.{hyper_bytes}
use Rattle.compound_server.specs.declared.client_end.ClientEnd.{ClientEnd}
use Rattle.compound_server.specs.declared.client_end.ClientEnd.TheVariants.{Lapsed, Gone}
use Rattle.compound_server.specs.declared.who.Who.{Who}
use Rattle.compound_server.specs.Clients.{asks_back, back_handle, by_created, by_exchanged, by_protection, create_done, create_session, destroy_clientid, destroy_session, exchange_done, exchange_id, left_if}
use Rattle.compound_server.specs.Compounds.{alone_refusal, outside_session, unless}
use Rattle.compound_server.specs.Course.{Service}
use Rattle.compound_server.specs.Refusals.{refused}
use Rattle.compound_server.specs.State.{Given, Parting, State, refusal, with_sessions, without_all, without_one}
use Rattle.slot_laws.specs.Fronts.{IsFailure, IsOther}
use Rattle.slot_laws.specs.FrontLaws.{create_spelled, exchange_spelled, failure_told, other_told, refused_spelled}
use Rattle.slot_laws.specs.Moves.{Rests}
use Rattle.slot_laws.specs.Sound.{IsSound}
use Rattle.slot_laws.specs.TableLaws.{create_rests, destroy_rests, end_rests, exchange_rests, rests_same}
use Rattle.slot_laws.specs.Turns.{Stays}

abbrev pub itself : (v : SessionTable) → IsSound v → Rests v v
itself v sound = rests_same v v sound refl refl

-- what is given moves no slot of the sessions before
abbrev pub GivesStays : {X : Type 0} → (tag : List ℕ) → SessionTable → Given X → Type 0
GivesStays tag v g = Stays tag v g.state.sessions g.body

-- an operation that is refused by another name than SEQUENCE
other_refused : {X : Type 0} (v : SessionTable) (s : State X) (tag : List ℕ) (op : ℕ) (status : Status) → IsOther op → Rests v s.sessions
    → GivesStays tag v (refusal s tag op status)
other_refused v s tag op status other rests = record {
  rests = rests;
  says = other_told op status.number (refused op status) (refused_spelled op status) other (last_status (refused op status ∷ [])) tag;
}

-- one that fails
pub failure_given : {X : Type 0} (v : SessionTable) (s : State X) (tag : List ℕ) (op : ℕ) (status : Status) → IsFailure status.number → Rests v s.sessions
    → GivesStays tag v (refusal s tag op status)
failure_given v s tag op status fails rests =
    record { rests = rests; says = failure_told op status fails (last_status (refused op status ∷ [])) tag }

module _ {X : Type 0} (parting : Parting X) where
  left_same : (why : ClientEnd) (clients : List ℕ) (s : State X) → (without_all parting why clients s).sessions ≡ s.sessions
  unfolding without_all
  left_same why [] s = refl
  left_same why (client ∷ clients) s = left_same why clients (without_one parting why client s)

  left_rests : (v : SessionTable) (why : ClientEnd) (clients : List ℕ) (s : State X) → Rests v s.sessions → Rests v (without_all parting why clients s).sessions
  left_rests v why clients s rests = subst (λ w. Rests v w) (sym (left_same why clients s)) rests

  left_one : (b : Bool) (v : SessionTable) (client : ℕ) (s : State X) → Rests v s.sessions → Rests v (left_if b parting client s).sessions
  left_one true v client s rests = rests
  left_one false v client s rests = rests

  is_exchange : IsOther OP_EXCHANGE_ID
  is_exchange = (omega arith, λ e. omega (arith, e))

  is_create : IsOther OP_CREATE_SESSION
  is_create = (omega arith, λ e. omega (arith, e))

  is_destroy : IsOther OP_DESTROY_SESSION
  is_destroy = (omega arith, λ e. omega (arith, e))

  is_end : IsOther OP_DESTROY_CLIENTID
  is_end = (omega arith, λ e. omega (arith, e))

  -- ---- EXCHANGE_ID

  exchanged_stays : (v : SessionTable) (answer : Exchanged) (tag : List ℕ) (s : State X) → Rests v s.sessions
      → GivesStays tag v (by_exchanged answer parting tag s)
  exchanged_stays v (exchanged.Client id sequence confirmed ended) tag s rests =
      let done = exchange_done (hyper_bytes s.machine.store.tag) id sequence confirmed in
      record { rests = left_rests v Lapsed ended s rests; says = other_told OP_EXCHANGE_ID 0 _ (exchange_spelled done) is_exchange _ tag }
  exchanged_stays v (exchanged.Refused status) tag s rests = other_refused v s tag OP_EXCHANGE_ID status is_exchange rests

  protection_stays : (p : Protection) (who : Who) (principal tag : List ℕ) (a : ExchangeIdArgs) (s : State X) → IsSound s.sessions
      → GivesStays tag s.sessions (by_protection p parting who principal tag a s)
  protection_stays (Protected how) who principal tag a s sound = other_refused s.sessions s tag OP_EXCHANGE_ID statuses.NOTSUPP is_exchange (itself s.sessions sound)
  protection_stays (Unprotected id) who principal tag a s sound =
      exchanged_stays s.sessions (tables.exchange_answer s.sessions principal a.owner a.verifier who.second) tag
      (with_sessions (tables.exchange_table s.sessions principal a.owner a.verifier who.second) s)
      (exchange_rests s.sessions principal a.owner a.verifier who.second sound)

  exchange_stays : (who : Who) (principal tag : List ℕ) (a : ExchangeIdArgs) (s : State X) → IsSound s.sessions
      → GivesStays tag s.sessions (exchange_id parting who principal tag a s)
  unfolding exchange_id
  exchange_stays who principal tag a s sound = protection_stays a.protection who principal tag a s sound

  -- ---- CREATE_SESSION

  created_stays : (v : SessionTable) (answer : Created) (tag : List ℕ) (s : State X) → Rests v s.sessions
      → GivesStays tag v (by_created answer parting tag s)
  created_stays v (created.Made session sequence ended asked) tag s rests =
      record { rests = left_rests v Gone _ s rests; says = other_told OP_CREATE_SESSION 0 _ (create_spelled (create_done session sequence asked)) is_create _ tag }
  created_stays v (created.Refused status) tag s rests = other_refused v s tag OP_CREATE_SESSION status is_create rests

  create_stays : (who : Who) (tag : List ℕ) (a : CreateSessionArgs) (s : State X) → IsSound s.sessions
      → GivesStays tag s.sessions (create_session parting who tag a s)
  unfolding create_session
  create_stays who tag a s sound =
      let asked = asks_back a.flags in
      let back = tables.asked_back who.conn a.program (back_handle a) in
      created_stays s.sessions (tables.create_answer s.sessions a.client a.sequence asked) tag
      (with_sessions (tables.create_table s.sessions a.client a.sequence asked back) s)
      (create_rests s.sessions a.client a.sequence asked back sound)

  -- ---- DESTROY_SESSION and DESTROY_CLIENTID

  destroy_stays : (tag session : List ℕ) (s : State X) → IsSound s.sessions → GivesStays tag s.sessions (destroy_session tag session s)
  unfolding destroy_session
  destroy_stays tag session s sound =
      other_refused s.sessions (with_sessions (tables.destroy_table s.sessions session) s) tag OP_DESTROY_SESSION (tables.destroy_answer s.sessions session) is_destroy
      (destroy_rests s.sessions session sound)

  end_stays : (tag : List ℕ) (client : ℕ) (s : State X) → IsSound s.sessions → GivesStays tag s.sessions (destroy_clientid parting tag client s)
  unfolding destroy_clientid
  end_stays tag client s sound =
      let holds = holds_open s.machine.opens client in
      let status = tables.destroy_client_answer s.sessions client holds in
      let ended = with_sessions (tables.destroy_client_table s.sessions client holds) s in
      other_refused s.sessions (left_if (status.number == 0) parting client ended) tag OP_DESTROY_CLIENTID status is_end
      (left_one (status.number == 0) s.sessions client ended (end_rests s.sessions client holds sound))

  -- ---- each of them

  unless_stays : (r : Option Status) (tag : List ℕ) (op : ℕ) (more : State X → Given X) (s : State X) → IsOther op → IsSound s.sessions
      → GivesStays tag s.sessions (more s) → GivesStays tag s.sessions (unless r tag op more s)
  unless_stays (Some status) tag op more s other sound stays = other_refused s.sessions s tag op status other (itself s.sessions sound)
  unless_stays None tag op more s other sound stays = stays

  pub outside_stays : {C : Type 0} (v : Service X C) (who : Who) (principal : List ℕ) (carry : Option C) (tag : List ℕ) (count : ℕ) (op : Op) (s : State X)
      → IsSound s.sessions → GivesStays tag s.sessions (outside_session v parting who principal carry tag count op s)
  unfolding outside_session
  outside_stays v who principal carry tag count (File (args.ExchangeId a)) s sound =
      unless_stays (alone_refusal (count == 1) v who carry OP_EXCHANGE_ID s.machine.extra) tag OP_EXCHANGE_ID (exchange_id parting who principal tag a) s
      is_exchange sound (exchange_stays who principal tag a s sound)
  outside_stays v who principal carry tag count (File (args.CreateSession a)) s sound =
      unless_stays (alone_refusal (count == 1) v who carry OP_CREATE_SESSION s.machine.extra) tag OP_CREATE_SESSION (create_session parting who tag a) s
      is_create sound (create_stays who tag a s sound)
  outside_stays v who principal carry tag count (File (args.DestroySession id)) s sound =
      unless_stays (alone_refusal (count == 1) v who carry OP_DESTROY_SESSION s.machine.extra) tag OP_DESTROY_SESSION (destroy_session tag id) s
      is_destroy sound (destroy_stays tag id s sound)
  outside_stays v who principal carry tag count (File (args.DestroyClientId client)) s sound =
      unless_stays (alone_refusal (count == 1) v who carry OP_DESTROY_CLIENTID s.machine.extra) tag OP_DESTROY_CLIENTID (destroy_clientid parting tag client) s
      is_end sound (end_stays tag client s sound)
  outside_stays v who principal carry tag count op s sound =
      failure_given s.sessions s tag (op_number op) statuses.OP_NOT_IN_SESSION (omega arith, λ e. omega (arith, e)) (itself s.sessions sound)
