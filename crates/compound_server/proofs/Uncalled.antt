-- Operations outside a session make no call on the volume.
use Rattle.std.proofs.Common.{◌≡◌, ℕ, List, [], refl}
use Rattle.std.specs.Prelude.{◌==◌, Option, Some, None}
use Rattle.file_ops.specs.declared.args.FileArg.TheVariants as args
use Rattle.file_ops.specs.declared.operation.TheConstants.{OP_EXCHANGE_ID, OP_CREATE_SESSION, OP_DESTROY_SESSION, OP_DESTROY_CLIENTID}
use Rattle.file_ops.specs.declared.sessions.CreateSessionArgs.{CreateSessionArgs}
use Rattle.file_ops.specs.declared.sessions.ExchangeIdArgs.{ExchangeIdArgs}
use Rattle.file_ops.specs.declared.sessions.Protection.{Protection}
use Rattle.file_ops.specs.declared.sessions.Protection.TheVariants.{Unprotected, Protected}
use Rattle.nfs_base.specs.declared.status.Status.{Status}
use Rattle.nfs_compound.specs.declared.op.Op.{Op}
use Rattle.nfs_compound.specs.declared.op.Op.TheVariants.{File}
use Rattle.sess_slots.specs.declared.answers.Created.{Created}
use Rattle.sess_slots.specs.declared.answers.Created.TheVariants as created
use Rattle.sess_slots.specs.declared.answers.Exchanged.{Exchanged}
use Rattle.sess_slots.specs.declared.answers.Exchanged.TheVariants as exchanged
use Rattle.sess_slots.specs.Clients.{asked_back, create_answer, create_table, exchange_answer, exchange_table}
use Rattle.compound_server.specs.declared.who.Who.{Who}
use Rattle.compound_server.specs.Clients.{asks_back, back_handle, by_created, by_exchanged, by_protection, exchange_id, create_session, destroy_session, destroy_clientid}
use Rattle.compound_server.specs.Compounds.{alone_refusal, outside_session, unless}
use Rattle.compound_server.specs.Course.{Service}
use Rattle.compound_server.specs.State.{Given, Parting, State, with_sessions}

unless_used : {X : Type 0} (r : Option Status) (tag : List ℕ) (op : ℕ) (more : State X → Given X) (s : State X) → (more s).used ≡ [] → (unless r tag op more s).used ≡ []
unless_used (Some told) tag op more s none = refl
unless_used None tag op more s none = none

exchanged_used : {X : Type 0} (e : Exchanged) (parting : Parting X) (tag : List ℕ) (s : State X) → (by_exchanged e parting tag s).used ≡ []
exchanged_used (exchanged.Client id sequence confirmed ended) parting tag s = refl
exchanged_used (exchanged.Refused told) parting tag s = refl

created_used : {X : Type 0} (e : Created) (parting : Parting X) (tag : List ℕ) (s : State X) → (by_created e parting tag s).used ≡ []
created_used (created.Made session sequence ended asked) parting tag s = refl
created_used (created.Refused told) parting tag s = refl

protection_used : {X : Type 0} (p : Protection) (parting : Parting X) (who : Who) (principal tag : List ℕ) (a : ExchangeIdArgs) (s : State X)
    → (by_protection p parting who principal tag a s).used ≡ []
protection_used (Protected how) parting who principal tag a s = refl
protection_used (Unprotected id) parting who principal tag a s =
    exchanged_used (exchange_answer s.sessions principal a.owner a.verifier who.second) parting tag (with_sessions (exchange_table s.sessions principal a.owner a.verifier who.second) s)

exchange_used : {X : Type 0} (parting : Parting X) (who : Who) (principal tag : List ℕ) (a : ExchangeIdArgs) (s : State X) → (exchange_id parting who principal tag a s).used ≡ []
unfolding exchange_id
exchange_used parting who principal tag a s = protection_used a.protection parting who principal tag a s

create_used : {X : Type 0} (parting : Parting X) (who : Who) (tag : List ℕ) (a : CreateSessionArgs) (s : State X) → (create_session parting who tag a s).used ≡ []
unfolding create_session
create_used parting who tag a s =
    created_used (create_answer s.sessions a.client a.sequence (asks_back a.flags)) parting tag
    (with_sessions (create_table s.sessions a.client a.sequence (asks_back a.flags) (asked_back who.conn a.program (back_handle a))) s)

destroy_used : {X : Type 0} (tag session : List ℕ) (s : State X) → (destroy_session tag session s).used ≡ []
unfolding destroy_session
destroy_used tag session s = refl

end_used : {X : Type 0} (parting : Parting X) (tag : List ℕ) (client : ℕ) (s : State X) → (destroy_clientid parting tag client s).used ≡ []
unfolding destroy_clientid
end_used parting tag client s = refl

pub outside_used : {X C : Type 0} (v : Service X C) (parting : Parting X) (who : Who) (principal : List ℕ) (carry : Option C) (tag : List ℕ) (count : ℕ) (op : Op) (s : State X)
    → (outside_session v parting who principal carry tag count op s).used ≡ []
unfolding outside_session
outside_used v parting who principal carry tag count (File (args.ExchangeId a)) s =
    unless_used (alone_refusal (count == 1) v who carry OP_EXCHANGE_ID s.machine.extra) tag OP_EXCHANGE_ID (exchange_id parting who principal tag a) s (exchange_used parting who principal tag a s)
outside_used v parting who principal carry tag count (File (args.CreateSession a)) s =
    unless_used (alone_refusal (count == 1) v who carry OP_CREATE_SESSION s.machine.extra) tag OP_CREATE_SESSION (create_session parting who tag a) s (create_used parting who tag a s)
outside_used v parting who principal carry tag count (File (args.DestroySession id)) s =
    unless_used (alone_refusal (count == 1) v who carry OP_DESTROY_SESSION s.machine.extra) tag OP_DESTROY_SESSION (destroy_session tag id) s (destroy_used tag id s)
outside_used v parting who principal carry tag count (File (args.DestroyClientId client)) s =
    unless_used (alone_refusal (count == 1) v who carry OP_DESTROY_CLIENTID s.machine.extra) tag OP_DESTROY_CLIENTID (destroy_clientid parting tag client) s (end_used parting tag client s)
outside_used v parting who principal carry tag count op s = refl
