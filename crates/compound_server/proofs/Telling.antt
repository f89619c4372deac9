-- What is told of clients and sessions that were made.
use Rattle.std.proofs.Common.{◌≡◌, ℕ, Bool, List, [], ◌++◌, refl, sym, ap, ◌∙◌}
use Rattle.std.specs.Prelude.{Option, option_to_list}
use Rattle.file_ops.specs.declared.operation.TheConstants.{OP_CREATE_SESSION, OP_EXCHANGE_ID}
use Rattle.file_ops.specs.declared.results.FileRes.TheVariants as results
use Rattle.nfs_base.specs.declared.answer.Answer.TheVariants.{Done}
use Rattle.nfs_base.specs.declared.status.Status.{Status}
use Rattle.nfs_base.specs.declared.status.TheConstants.Status.{OK}
use Rattle.nfs_compound.specs.declared.res.Res.{Res}
use Rattle.nfs_compound.specs.declared.res.Res.TheVariants.{File}
use Rattle.nfs_compound.specs.Results.{outcome, res_status}
use Rattle.server_volume.specs.declared.used.Used.{Used}
use Rattle.sess_slots.specs.declared.answers.Created.{Created}
use Rattle.sess_slots.specs.declared.answers.Created.TheVariants as created
use Rattle.sess_slots.specs.declared.answers.Exchanged.{Exchanged}
use Rattle.sess_slots.specs.declared.answers.Exchanged.TheVariants as exchanged
use Rattle.wire_xdr.specs.Words.{word_bytes, hyper_bytes, opaque_bytes}
use Rattle.compound_server.specs.declared.client_end.ClientEnd.TheVariants.{Lapsed, Gone}
use Rattle.compound_server.specs.Clients.{by_created, by_exchanged, create_done, exchange_done, one_result}
use Rattle.compound_server.specs.State.{Given, Parting, State, refusal_bytes, without_all}
use Rattle.compound_server.proofs.Replies.{one_spelled}

abbrev given : {X : Type 0} → State X → List Used → List ℕ → Given X
given s used body = record { state = s; used = used; body = body }

same_given : {X : Type 0} (s t : State X) (used more : List Used) (body text : List ℕ) → s ≡ t → used ≡ more → body ≡ text → given s used body ≡ given t more text
same_given s t used more body text same calls told =
    ap (λ x. given x used body) same ∙ ap (λ (us : List Used). given t us body) calls ∙ ap (λ (bytes : List ℕ). given t more bytes) told

abbrev pub done_text : (tag : List ℕ) → Res → List ℕ
done_text tag res = (word_bytes 0 ++ (opaque_bytes tag ++ word_bytes 1)) ++ outcome.spell res

-- an operation that was done, and what stands on the page
one_given : {X : Type 0} (s t : State X) (tag : List ℕ) (res : Res) (used : List Used) (body : List ℕ) → res_status res ≡ OK
    → t ≡ s → used ≡ [] → body ≡ done_text tag res → given t used body ≡ one_result s tag res
one_given s t tag res used body ok same calls told =
    same_given t s used [] body _ same calls (told ∙ sym (one_spelled OK tag (outcome.spell res) res ok refl))

abbrev pub created_res : List ℕ → ℕ → Bool → Res
created_res session sequence asked = File (results.CreateSession (Done (create_done session sequence asked)))

abbrev pub exchanged_res : (volume_tag client sequence : ℕ) → Bool → Res
exchanged_res volume_tag client sequence confirmed = File (results.ExchangeId (Done (exchange_done (hyper_bytes volume_tag) client sequence confirmed)))

pub created_refused : {X : Type 0} (parting : Parting X) (answer : Created) (status : Status) (tag : List ℕ) (s t : State X) (used : List Used) (body : List ℕ)
    → answer ≡ created.Refused status → t ≡ s → used ≡ [] → body ≡ refusal_bytes tag OP_CREATE_SESSION status
    → given t used body ≡ by_created answer parting tag s
created_refused parting answer status tag s t used body is same calls told =
    same_given t s used [] body (refusal_bytes tag OP_CREATE_SESSION status) same calls told ∙ ap (λ (a : Created). by_created a parting tag s) (sym is)

pub created_made : {X : Type 0} (parting : Parting X) (answer : Created) (session : List ℕ) (sequence : ℕ) (ended : Option ℕ) (asked : Bool) (tag : List ℕ) (s t : State X)
    (used : List Used) (body : List ℕ) → answer ≡ created.Made session sequence ended asked → t ≡ without_all parting Gone (option_to_list ended) s → used ≡ []
    → body ≡ done_text tag (created_res session sequence asked) → given t used body ≡ by_created answer parting tag s
created_made parting answer session sequence ended asked tag s t used body is same calls told =
    one_given (without_all parting Gone (option_to_list ended) s) t tag (created_res session sequence asked) used body refl same calls told
    ∙ ap (λ (a : Created). by_created a parting tag s) (sym is)

pub exchanged_refused : {X : Type 0} (parting : Parting X) (answer : Exchanged) (status : Status) (tag : List ℕ) (s t : State X) (used : List Used) (body : List ℕ)
    → answer ≡ exchanged.Refused status → t ≡ s → used ≡ [] → body ≡ refusal_bytes tag OP_EXCHANGE_ID status
    → given t used body ≡ by_exchanged answer parting tag s
exchanged_refused parting answer status tag s t used body is same calls told =
    same_given t s used [] body (refusal_bytes tag OP_EXCHANGE_ID status) same calls told ∙ ap (λ (a : Exchanged). by_exchanged a parting tag s) (sym is)

pub exchanged_known : {X : Type 0} (parting : Parting X) (answer : Exchanged) (id sequence : ℕ) (confirmed : Bool) (ended : List ℕ) (tag : List ℕ) (s t : State X)
    (used : List Used) (body : List ℕ) → answer ≡ exchanged.Client id sequence confirmed ended → t ≡ without_all parting Lapsed ended s → used ≡ []
    → body ≡ done_text tag (exchanged_res s.machine.store.tag id sequence confirmed) → given t used body ≡ by_exchanged answer parting tag s
exchanged_known parting answer id sequence confirmed ended tag s t used body is same calls told =
    one_given (without_all parting Lapsed ended s) t tag (exchanged_res s.machine.store.tag id sequence confirmed) used body refl same calls told
    ∙ ap (λ (a : Exchanged). by_exchanged a parting tag s) (sym is)
