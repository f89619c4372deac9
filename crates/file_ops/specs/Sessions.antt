-- Forms of the operations on clients and sessions (RFC 8881 sections 18.35, 18.36 and 18.46).
use Rattle.std.specs.Prelude.{ℕ, Bool, List, [], ◌∷◌, refl, Option}
use Rattle.std.proofs.Common.{lit<}
use Rattle.nfs_base.specs.declared.limits.TheConstants.{TEXT_LIMIT}
use Rattle.nfs_base.specs.Forms.{time}
use Rattle.nfs_base.specs.declared.time.Time.{Time}
use Rattle.file_ops.specs.declared.zero.Zero.{Zero}
use Rattle.file_ops.specs.declared.parms.ChannelAttrs.{ChannelAttrs}
use Rattle.file_ops.specs.declared.parms.SecParm.{SecParm}
use Rattle.file_ops.specs.declared.sessions.ImplId.{ImplId}
use Rattle.file_ops.specs.declared.sessions.Protection.{Protection}
use Rattle.file_ops.specs.declared.sessions.Protection.TheVariants.{Unprotected, Protected}
use Rattle.file_ops.specs.declared.sessions.ExchangeIdArgs.{ExchangeIdArgs}
use Rattle.file_ops.specs.declared.sessions.ExchangeIdDone.{ExchangeIdDone}
use Rattle.file_ops.specs.declared.sessions.CreateSessionArgs.{CreateSessionArgs}
use Rattle.file_ops.specs.declared.sessions.CreateSessionDone.{CreateSessionDone}
use Rattle.file_ops.specs.declared.sessions.SequenceArgs.{SequenceArgs}
use Rattle.file_ops.specs.declared.sessions.SequenceDone.{SequenceDone}
use Rattle.wire_xdr.specs.Form.{Form}
use Rattle.wire_xdr.specs.Arms.{Case, ArmOf, IsPicked, arm, holds, defaults, other_arm}
use Rattle.wire_xdr.specs.Forms.{word, hyper, flag, fixed, opaque, void, both, seen_as, option, union_or}
use Rattle.file_ops.specs.Free.{bytes, list_of, zero_word}
use Rattle.file_ops.specs.Parms.{channel_attrs, sec_parm}

-- ---- who made an implementation, and when

abbrev pub impl_id_of : List ℕ × (List ℕ × Time) → ImplId
impl_id_of v = record { domain = v.0; name = v.1.0; date = v.1.1 }

unfoldable pub impl_id : Form ImplId
impl_id = seen_as impl_id_of (λ v. (v.domain, (v.name, v.date))) (λ v. refl) (λ v. refl) (both bytes (both bytes time))

-- ---- EXCHANGE_ID: with state protection 0 an implementation may follow; with any other the operation is
-- cut behind that word

abbrev pub protection_case : Protection → Case Protection
protection_case (Unprotected id) = holds 0 (option impl_id) Unprotected id
protection_case (Protected how) = defaults how void (λ v. Protected how) tt

abbrev pub protection_arms : List (ArmOf protection_case)
protection_arms = arm 0 (option impl_id) Unprotected (λ v. refl) ∷ []

pub protection_picked : (v : Protection) → IsPicked protection_arms (other_arm (λ n. void) (λ n v. Protected n)) v
protection_picked (Unprotected id) = record { reads = λ otherwise c. refl; whole = refl }
protection_picked _ = record { reads = λ otherwise c. refl; whole = refl }

unfoldable pub protection : Form Protection
protection = union_or protection_arms (λ n. void) (λ n v. Protected n) (λ n v. refl) protection_picked

abbrev pub exchange_id_of : List ℕ × (List ℕ × (ℕ × Protection)) → ExchangeIdArgs
exchange_id_of v = record { verifier = v.0; owner = v.1.0; flags = v.1.1.0; protection = v.1.1.1 }

unfoldable pub exchange_id_args : Form ExchangeIdArgs
exchange_id_args = seen_as exchange_id_of (λ v. (v.verifier, (v.owner, (v.flags, v.protection)))) (λ v. refl) (λ v. refl) (both (fixed 8) (both (opaque TEXT_LIMIT (lit< tt)) (both word protection)))

abbrev pub exchange_id_done_of : (ℕ × (ℕ × (ℕ × Zero))) × (ℕ × (List ℕ × (List ℕ × Option ImplId))) → ExchangeIdDone
exchange_id_done_of v = record { client = v.0.0; sequence = v.0.1.0; flags = v.0.1.1.0; protection = v.0.1.1.1; minor_id = v.1.0; major_id = v.1.1.0; scope = v.1.1.1.0; impl_id = v.1.1.1.1 }

unfoldable pub exchange_id_done : Form ExchangeIdDone
exchange_id_done = seen_as exchange_id_done_of (λ v. ((v.client, (v.sequence, (v.flags, v.protection))), (v.minor_id, (v.major_id, (v.scope, v.impl_id))))) (λ v. refl) (λ v. refl) (both (both hyper (both word (both word zero_word))) (both hyper (both bytes (both bytes (option impl_id)))))

-- ---- CREATE_SESSION

abbrev pub create_session_of : ℕ × (ℕ × (ℕ × (ChannelAttrs × (ChannelAttrs × (ℕ × List SecParm))))) → CreateSessionArgs
create_session_of v = record { client = v.0; sequence = v.1.0; flags = v.1.1.0; fore = v.1.1.1.0; back = v.1.1.1.1.0; program = v.1.1.1.1.1.0; parms = v.1.1.1.1.1.1 }

unfoldable pub create_session_args : Form CreateSessionArgs
create_session_args = seen_as create_session_of (λ v. (v.client, (v.sequence, (v.flags, (v.fore, (v.back, (v.program, v.parms))))))) (λ v. refl) (λ v. refl) (both hyper (both word (both word (both channel_attrs (both channel_attrs (both word (list_of sec_parm)))))))

abbrev pub create_session_done_of : List ℕ × (ℕ × (ℕ × (ChannelAttrs × ChannelAttrs))) → CreateSessionDone
create_session_done_of v = record { session = v.0; sequence = v.1.0; flags = v.1.1.0; fore = v.1.1.1.0; back = v.1.1.1.1 }

unfoldable pub create_session_done : Form CreateSessionDone
create_session_done = seen_as create_session_done_of (λ v. (v.session, (v.sequence, (v.flags, (v.fore, v.back))))) (λ v. refl) (λ v. refl) (both (fixed 16) (both word (both word (both channel_attrs channel_attrs))))

-- ---- SEQUENCE

abbrev pub sequence_of : List ℕ × (ℕ × (ℕ × (ℕ × Bool))) → SequenceArgs
sequence_of v = record { session = v.0; sequence = v.1.0; slot = v.1.1.0; highest_slot = v.1.1.1.0; cache_this = v.1.1.1.1 }

unfoldable pub sequence_args : Form SequenceArgs
sequence_args = seen_as sequence_of (λ v. (v.session, (v.sequence, (v.slot, (v.highest_slot, v.cache_this))))) (λ v. refl) (λ v. refl) (both (fixed 16) (both word (both word (both word flag))))

abbrev pub sequence_done_of : List ℕ × (ℕ × (ℕ × (ℕ × (ℕ × Zero)))) → SequenceDone
sequence_done_of v = record { session = v.0; sequence = v.1.0; slot = v.1.1.0; highest_slot = v.1.1.1.0; target_highest_slot = v.1.1.1.1.0; status_flags = v.1.1.1.1.1 }

unfoldable pub sequence_done : Form SequenceDone
sequence_done = seen_as sequence_done_of (λ v. (v.session, (v.sequence, (v.slot, (v.highest_slot, (v.target_highest_slot, v.status_flags)))))) (λ v. refl) (λ v. refl) (both (fixed 16) (both word (both word (both word (both word zero_word)))))
