-- The back channels of a server's sessions go by contexts whose handles have eight bytes, whatever the server does.
use Rattle.std.proofs.Common.{◌≡◌, ℕ, ◌+◌, Bool, true, false, List, [], ◌∷◌, length, Option, Some, None, refl, sym, ap, subst}
use Rattle.std.specs.Prelude.{◌==◌, ◌&&◌, ◌||◌, not, nat_le, nat_lt, if◌then◌else◌, find, option_and_then, option_map, option_to_list}
use Rattle.std.specs.List.{AllByRecursion}
use Rattle.std.proofs.lemmas.Bool.{eqb-true}
use Rattle.compound_server.specs.Clients.{asks_back, back_handle, by_created, by_exchanged, by_protection, create_session, destroy_clientid, destroy_session, exchange_id, handle_in, is_usable, left_if}
use Rattle.compound_server.specs.Compounds.{alone_refusal, by_begin, by_first, by_minor, caller_at, on_compound, outside_session, sequence, unless, unless_many}
use Rattle.compound_server.specs.Course.{Service}
use Rattle.compound_server.specs.State.{Given, Parting, State, begun, with_own, with_sessions, without_all, without_one}
use Rattle.compound_server.specs.Walking.{walk}
use Rattle.compound_server.specs.declared.client_end.ClientEnd.{ClientEnd}
use Rattle.compound_server.specs.declared.client_end.ClientEnd.TheVariants.{Gone, Lapsed}
use Rattle.compound_server.specs.declared.who.Who.{Who}
use Rattle.dest_laws.proofs.names.Callbacks.{all_kept, found_all, one_more}
use Rattle.dest_laws.specs.Names.Posts.{BackFits, SessionsFit}
use Rattle.file_ops.specs.declared.args.FileArg.TheVariants as args
use Rattle.file_ops.specs.declared.operation.TheConstants.{OP_CREATE_SESSION, OP_DESTROY_CLIENTID, OP_DESTROY_SESSION, OP_EXCHANGE_ID}
use Rattle.file_ops.specs.declared.parms.SecParm.{SecParm}
use Rattle.file_ops.specs.declared.parms.SecParm.TheVariants.{Gss}
use Rattle.file_ops.specs.declared.sessions.CreateSessionArgs.{CreateSessionArgs}
use Rattle.file_ops.specs.declared.sessions.ExchangeIdArgs.{ExchangeIdArgs}
use Rattle.file_ops.specs.declared.sessions.Protection.{Protection}
use Rattle.file_ops.specs.declared.sessions.Protection.TheVariants.{Protected, Unprotected}
use Rattle.file_ops.specs.declared.sessions.SequenceArgs.{SequenceArgs}
use Rattle.nfs_base.specs.Changed.{changed}
use Rattle.nfs_base.specs.declared.limits.TheConstants.{MOST_OPERATIONS, MOST_SESSIONS}
use Rattle.nfs_base.specs.declared.status.Status.{Status}
use Rattle.nfs_compound.specs.declared.compound.Compound.{Compound}
use Rattle.nfs_compound.specs.declared.compound.TheConstants.{MINOR_VERSION}
use Rattle.nfs_compound.specs.declared.op.Op.{Op}
use Rattle.nfs_compound.specs.declared.op.Op.TheVariants.{File}
use Rattle.nfs_compound.specs.declared.tail.Tail.{Tail}
use Rattle.server_volume.specs.Choices.{Choice}
use Rattle.sess_slots.specs.Begins.{back_at, begin_of, reply_kept}
use Rattle.sess_slots.specs.Clients as tables
use Rattle.sess_slots.specs.Slots.{next_number, slots_after}
use Rattle.sess_slots.specs.Table.{SessionTable, client_of_id, has_id, is_among, session_numbered, without}
use Rattle.sess_slots.specs.declared.answers.Back.{Back}
use Rattle.sess_slots.specs.declared.answers.Begin.{Begin}
use Rattle.sess_slots.specs.declared.answers.Begin.TheVariants as begin
use Rattle.sess_slots.specs.declared.answers.Created.{Created}
use Rattle.sess_slots.specs.declared.answers.Created.TheVariants as created
use Rattle.sess_slots.specs.declared.answers.Exchanged.{Exchanged}
use Rattle.sess_slots.specs.declared.answers.Exchanged.TheVariants as exchanged
use Rattle.sess_slots.specs.declared.answers.Place.{Place}
use Rattle.sess_slots.specs.declared.client.Client.{Client}
use Rattle.sess_slots.specs.declared.session.Session.{Session}
use Rattle.slot_laws.specs.WalkLaws.{walk_same}
use Rattle.state_ids.specs.Opens.{holds_open}

abbrev Fits : Session → Type 0
Fits s = BackFits s.back

-- ---- a table with other sessions

same_fit : (v w : SessionTable) → w.sessions ≡ v.sessions → SessionsFit v → SessionsFit w
same_fit v w same fit = subst (λ (ss : List Session). AllByRecursion Fits ss) (sym same) fit

fewer_fit : (ids : List ℕ) (v : SessionTable) → SessionsFit v → SessionsFit (without ids v)
fewer_fit ids v fit = all_kept Fits (λ s. not (is_among ids s.client)) v.sessions fit

changed_fit : (test : Session → Bool) (f : Session → Session) (ss : List Session) → ((s : Session) → Fits s → Fits (f s)) → AllByRecursion Fits ss → AllByRecursion Fits (changed test f ss)
changed_fit test f [] keeps all = tt
changed_fit test f (s ∷ ss) keeps all = by (test s) (changed_fit test f ss keeps all.1)
  where
    by : (b : Bool) → AllByRecursion Fits (changed test f ss) → AllByRecursion Fits (if b then f s ∷ ss else s ∷ changed test f ss)
    by true rest = (keeps s all.0, all.1)
    by false rest = (all.0, rest)

-- ---- a back channel that is made

usable_eight : (p : SecParm) → is_usable p ≡ true → length (handle_in p) ≡ 8
usable_eight (Gss parm) is = eqb-true (length parm.handle_from_client) 8 (and_right _ _ is)
  where
    and_right : (a b : Bool) → (a && b) ≡ true → b ≡ true
    and_right true b is = is
    and_right false b is = absurd cc
usable_eight _ is = absurd cc

find_passes : (parms : List SecParm) (p : SecParm) → find is_usable parms ≡ Some p → is_usable p ≡ true
find_passes [] p is = absurd cc
find_passes (q ∷ parms) p is = by (is_usable q) refl is (λ found. find_passes parms p found)
  where
    by : (b : Bool) → is_usable q ≡ b → (if b then Some q else find is_usable parms) ≡ Some p → (find is_usable parms ≡ Some p → is_usable p ≡ true) → is_usable p ≡ true
    by true usable found rest = let same : q ≡ p = cc in subst (λ (r : SecParm). is_usable r ≡ true) same usable
    by false usable found rest = rest found

asked_fits : (conn program : ℕ) (parm : Option SecParm) → ((p : SecParm) → parm ≡ Some p → length (handle_in p) ≡ 8) → BackFits (tables.asked_back conn program (option_map handle_in parm))
asked_fits conn program None eight = tt
asked_fits conn program (Some p) eight = eight p refl

made_fits : (conn : ℕ) (a : CreateSessionArgs) → BackFits (tables.asked_back conn a.program (back_handle a))
made_fits conn a = by (asks_back a.flags)
  where
    by : (asks : Bool) → BackFits (tables.asked_back conn a.program (if asks then option_map handle_in (find is_usable a.parms) else None))
    by true = asked_fits conn a.program (find is_usable a.parms) (λ p is. usable_eight p (find_passes a.parms p is))
    by false = tt

-- ---- what makes and ends clients and sessions

exchange_fits : (known : Option Client) (v : SessionTable) (principal owner verifier : List ℕ) (now : ℕ) → SessionsFit v
    → SessionsFit (tables.exchange_table_at known v principal owner verifier now)
exchange_fits (Some c) v principal owner verifier now fit = fit
exchange_fits None v principal owner verifier now fit = by (tables.is_full (tables.beside v.clients principal owner) now)
  where
    by : (full : Bool) → SessionsFit (if full then v else tables.with_client v principal owner verifier now)
    by true = fit
    by false = fewer_fit (tables.ended_for_room (tables.beside v.clients principal owner) now) v fit

session_fits : (found : Option Client) (v : SessionTable) (client sequence : ℕ) (asked : Bool) (back : Option Back) → BackFits back → SessionsFit v
    → SessionsFit (tables.create_table_at found v client sequence asked back)
session_fits None v client sequence asked back is fit = fit
session_fits (Some c) v client sequence asked back is fit = by (sequence == next_number c.last) (nat_le MOST_SESSIONS (length v.sessions))
  where
    by : (next full : Bool) → SessionsFit (if next then (if full then v else tables.with_session v c client sequence asked back) else v)
    by true true = fit
    by true false =
        fewer_fit (option_to_list (tables.old_client v.clients c)) (tables.session_added v client sequence asked back)
        (one_more Fits v.sessions (tables.new_session (v.sessions_made + 1) client back) fit is)
    by false full = fit

end_fits : (found : Option Client) (v : SessionTable) (id : ℕ) (busy : Bool) → SessionsFit v → SessionsFit (tables.destroy_client_table_at found v id busy)
end_fits None v id busy fit = fit
end_fits (Some c) v id true fit = fit
end_fits (Some c) v id false fit = fewer_fit (id ∷ []) v fit

module _ {X : Type 0} (parting : Parting X) where
  left_same : (why : ClientEnd) (clients : List ℕ) (s : State X) → (without_all parting why clients s).sessions ≡ s.sessions
  unfolding without_all
  left_same why [] s = refl
  left_same why (client ∷ clients) s = left_same why clients (without_one parting why client s)

  left_fit : (why : ClientEnd) (clients : List ℕ) (s : State X) → SessionsFit s.sessions → SessionsFit (without_all parting why clients s).sessions
  left_fit why clients s fit = same_fit s.sessions (without_all parting why clients s).sessions (ap (λ (v : SessionTable). v.sessions) (left_same why clients s)) fit

  left_one : (b : Bool) (client : ℕ) (s : State X) → SessionsFit s.sessions → SessionsFit (left_if b parting client s).sessions
  left_one true client s fit = fit
  left_one false client s fit = fit

  exchanged_fits : (answer : Exchanged) (tag : List ℕ) (s : State X) → SessionsFit s.sessions → SessionsFit (by_exchanged answer parting tag s).state.sessions
  exchanged_fits (exchanged.Client id sequence confirmed ended) tag s fit = left_fit Lapsed ended s fit
  exchanged_fits (exchanged.Refused status) tag s fit = fit

  protection_fits : (p : Protection) (who : Who) (principal tag : List ℕ) (a : ExchangeIdArgs) (s : State X) → SessionsFit s.sessions
      → SessionsFit (by_protection p parting who principal tag a s).state.sessions
  protection_fits (Protected how) who principal tag a s fit = fit
  protection_fits (Unprotected id) who principal tag a s fit =
      exchanged_fits (tables.exchange_answer s.sessions principal a.owner a.verifier who.second) tag
      (with_sessions (tables.exchange_table s.sessions principal a.owner a.verifier who.second) s)
      (exchange_fits (tables.known_client s.sessions.clients principal a.owner a.verifier) s.sessions principal a.owner a.verifier who.second fit)

  exchange_id_fits : (who : Who) (principal tag : List ℕ) (a : ExchangeIdArgs) (s : State X) → SessionsFit s.sessions
      → SessionsFit (exchange_id parting who principal tag a s).state.sessions
  unfolding exchange_id
  exchange_id_fits who principal tag a s fit = protection_fits a.protection who principal tag a s fit

  created_fits : (answer : Created) (tag : List ℕ) (s : State X) → SessionsFit s.sessions → SessionsFit (by_created answer parting tag s).state.sessions
  created_fits (created.Made session sequence ended asked) tag s fit = left_fit Gone (option_to_list ended) s fit
  created_fits (created.Refused status) tag s fit = fit

  create_fits : (who : Who) (tag : List ℕ) (a : CreateSessionArgs) (s : State X) → SessionsFit s.sessions → SessionsFit (create_session parting who tag a s).state.sessions
  unfolding create_session
  create_fits who tag a s fit =
      let asked = asks_back a.flags in
      let back = tables.asked_back who.conn a.program (back_handle a) in
      created_fits (tables.create_answer s.sessions a.client a.sequence asked) tag (with_sessions (tables.create_table s.sessions a.client a.sequence asked back) s)
      (session_fits (client_of_id s.sessions.clients a.client) s.sessions a.client a.sequence asked back (made_fits who.conn a) fit)

  destroy_fits : (tag session : List ℕ) (s : State X) → SessionsFit s.sessions → SessionsFit (destroy_session tag session s).state.sessions
  unfolding destroy_session
  destroy_fits tag session s fit = all_kept Fits (λ x. not (has_id s.sessions.boot session x)) s.sessions.sessions fit

  ended_fits : (tag : List ℕ) (client : ℕ) (s : State X) → SessionsFit s.sessions → SessionsFit (destroy_clientid parting tag client s).state.sessions
  unfolding destroy_clientid
  ended_fits tag client s fit =
      let holds = holds_open s.machine.opens client in
      let status = tables.destroy_client_answer s.sessions client holds in
      let ended = with_sessions (tables.destroy_client_table s.sessions client holds) s in
      left_one (status.number == 0) client ended (end_fits (client_of_id s.sessions.clients client) s.sessions client (holds || tables.has_session s.sessions client) fit)

  unless_fits : (r : Option Status) (tag : List ℕ) (op : ℕ) (more : State X → Given X) (s : State X) → SessionsFit s.sessions → SessionsFit (more s).state.sessions
      → SessionsFit (unless r tag op more s).state.sessions
  unless_fits (Some status) tag op more s fit done = fit
  unless_fits None tag op more s fit done = done

  module _ {C : Type 0} (v : Service X C) where
    outside_fits : (who : Who) (principal : List ℕ) (carry : Option C) (tag : List ℕ) (count : ℕ) (op : Op) (s : State X) → SessionsFit s.sessions
        → SessionsFit (outside_session v parting who principal carry tag count op s).state.sessions
    unfolding outside_session
    outside_fits who principal carry tag count (File (args.ExchangeId a)) s fit =
        unless_fits (alone_refusal (count == 1) v who carry OP_EXCHANGE_ID s.machine.extra) tag OP_EXCHANGE_ID (exchange_id parting who principal tag a) s fit
        (exchange_id_fits who principal tag a s fit)
    outside_fits who principal carry tag count (File (args.CreateSession a)) s fit =
        unless_fits (alone_refusal (count == 1) v who carry OP_CREATE_SESSION s.machine.extra) tag OP_CREATE_SESSION (create_session parting who tag a) s fit
        (create_fits who tag a s fit)
    outside_fits who principal carry tag count (File (args.DestroySession id)) s fit =
        unless_fits (alone_refusal (count == 1) v who carry OP_DESTROY_SESSION s.machine.extra) tag OP_DESTROY_SESSION (destroy_session tag id) s fit
        (destroy_fits tag id s fit)
    outside_fits who principal carry tag count (File (args.DestroyClientId client)) s fit =
        unless_fits (alone_refusal (count == 1) v who carry OP_DESTROY_CLIENTID s.machine.extra) tag OP_DESTROY_CLIENTID (destroy_clientid parting tag client) s fit
        (ended_fits tag client s fit)
    outside_fits who principal carry tag count op s fit = fit

    -- ---- in a session: the operations leave the sessions, and the reply is kept

    kept_fits : (place : Place) (root : ℕ) (body : List ℕ) (w : SessionTable) → SessionsFit w → AllByRecursion Fits (reply_kept place root body w.sessions)
    kept_fits place root body w fit =
        changed_fit (λ s. s.number == place.session) (λ s. record s { slots = slots_after s.slots place.slot root body }) w.sessions (λ s is. is) fit

    begun_fits : (answer : Begin) (choice : Choice) (who : Who) (carry : Option C) (tag : List ℕ) (a : SequenceArgs) (ops : List Op) (tail : Tail) (s : State X) → SessionsFit s.sessions
        → SessionsFit (by_begin answer v choice who carry tag a ops tail s).state.sessions
    begun_fits (begin.New place) choice who carry tag a ops tail s fit =
        let w = walk v choice (caller_at who place s.sessions) carry tail ops (begun s) in
        kept_fits place who.root _ w.course.sessions (same_fit s.sessions w.course.sessions (walk_same v choice (caller_at who place s.sessions) carry tail ops (begun s)).sessions fit)
    begun_fits (begin.Replay place) choice who carry tag a ops tail s fit = fit
    begun_fits begin.FalseRetry choice who carry tag a ops tail s fit = fit
    begun_fits begin.BadSession choice who carry tag a ops tail s fit = fit
    begun_fits begin.BadSlot choice who carry tag a ops tail s fit = fit
    begun_fits begin.Misordered choice who carry tag a ops tail s fit = fit

    sequence_fits : (choice : Choice) (who : Who) (carry : Option C) (tag : List ℕ) (a : SequenceArgs) (ops : List Op) (tail : Tail) (s : State X) → SessionsFit s.sessions
        → SessionsFit (sequence v choice who carry tag a ops tail s).state.sessions
    unfolding sequence
    sequence_fits choice who carry tag a ops tail s fit = begun_fits (begin_of s.sessions a.session a.slot a.sequence who.root) choice who carry tag a ops tail s fit

    first_fits : (choice : Choice) (who : Who) (principal : List ℕ) (carry : Option C) (tag : List ℕ) (count : ℕ) (ops : List Op) (tail : Tail) (s : State X) → SessionsFit s.sessions
        → SessionsFit (by_first v parting choice who principal carry tag count ops tail s).state.sessions
    unfolding by_first
    first_fits choice who principal carry tag count [] tail s fit = fit
    first_fits choice who principal carry tag count (File (args.Sequence a) ∷ ops) tail s fit = sequence_fits choice who carry tag a ops tail s fit
    first_fits choice who principal carry tag count (op ∷ ops) tail s fit = outside_fits who principal carry tag count op s fit

    many_fits : (many : Bool) (choice : Choice) (who : Who) (principal : List ℕ) (carry : Option C) (c : Compound) (s : State X) → SessionsFit s.sessions
        → SessionsFit (unless_many many v parting choice who principal carry c s).state.sessions
    many_fits true choice who principal carry c s fit = fit
    many_fits false choice who principal carry c s fit = first_fits choice who principal carry c.tag c.count c.ops c.tail s fit

    minor_fits : (minor : Bool) (choice : Choice) (who : Who) (principal : List ℕ) (carry : Option C) (c : Compound) (s : State X) → SessionsFit s.sessions
        → SessionsFit (by_minor minor v parting choice who principal carry c s).state.sessions
    minor_fits false choice who principal carry c s fit = fit
    minor_fits true choice who principal carry c s fit = many_fits (nat_lt MOST_OPERATIONS c.count) choice who principal carry c s fit

    pub compound_fits : (choice : Choice) (who : Who) (principal : List ℕ) (carry : Option C) (c : Compound) (s : State X) → SessionsFit s.sessions
        → SessionsFit (on_compound v parting choice who principal carry c s).state.sessions
    unfolding on_compound
    compound_fits choice who principal carry c s fit =
        minor_fits (c.minor == MINOR_VERSION) choice who principal carry c (with_own (parting.lapse who.second s.machine.extra) s) fit

-- ---- so back channels are

back_fits : (found : Option Session) (back : Back) → ((s : Session) → found ≡ Some s → Fits s) → option_and_then (λ s. s.back) found ≡ Some back → length back.handle ≡ 8
back_fits None back fit is = absurd cc
back_fits (Some s) back fit is = subst BackFits is (fit s refl)

pub backs_fit : (v : SessionTable) → SessionsFit v → (session : ℕ) (back : Back) → back_at v session ≡ Some back → length back.handle ≡ 8
backs_fit v fit session back is = back_fits (session_numbered v.sessions session) back (λ s there. found_all Fits _ v.sessions s fit there) is
