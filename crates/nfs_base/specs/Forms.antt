-- The types that more than one operation has, a table: how each is spelled (RFC 8881 section 3, RFC 7862
-- section 4.8 and RFC 7863).
use Rattle.std.specs.Prelude.{ℕ, List, [], ◌∷◌, refl}
use Rattle.std.proofs.Common.{lit<}
use Rattle.nfs_base.specs.declared.answer.Answer.{Answer}
use Rattle.nfs_base.specs.declared.answer.Answer.TheVariants.{Done, Refused}
use Rattle.nfs_base.specs.declared.limits.TheConstants.{HANDLE_LIMIT, TEXT_LIMIT}
use Rattle.nfs_base.specs.declared.net_loc.TheConstants.{NL4_NAME, NL4_URL, NL4_NETADDR}
use Rattle.nfs_base.specs.declared.net_loc.NetLoc.{NetLoc}
use Rattle.nfs_base.specs.declared.net_loc.NetLoc.TheVariants.{Name, Url, Addr}
use Rattle.nfs_base.specs.declared.state_id.StateId.{StateId}
use Rattle.nfs_base.specs.declared.status.Status.{Status}
use Rattle.nfs_base.specs.declared.status.TheConstants.Status.{OK}
use Rattle.nfs_base.specs.declared.time.Time.{Time}
use Rattle.nfs_base.specs.declared.written.TheConstants.{UNSTABLE4, DATA_SYNC4, FILE_SYNC4}
use Rattle.nfs_base.specs.declared.written.Stability.{Stability}
use Rattle.nfs_base.specs.declared.written.Stability.TheVariants.{Unstable, DataSync, FileSync}
use Rattle.nfs_base.specs.declared.written.WriteResponse.{WriteResponse}
use Rattle.wire_xdr.specs.Form.{Form}
use Rattle.wire_xdr.specs.Arms.{Case, ArmOf, IsListed, IsPicked, arm, holds, defaults, other_arm}
use Rattle.wire_xdr.specs.Forms.{word, hyper, signed, fixed, opaque, opaque_between, void, both, seen_as, option, union, union_or}

-- nfsstat4: any number
unfoldable pub status : Form Status
status = seen_as (λ n. record { number = n }) (λ v. v.number) (λ v. refl) (λ v. refl) word

-- stateid4: a seqid and twelve bytes, which are a kind, a boot and a number
unfoldable pub state_id : Form StateId
state_id = seen_as (λ v. record { seqid = v.0; kind = v.1.0; boot = v.1.1.0; number = v.1.1.1 }) (λ v. (v.seqid, (v.kind, (v.boot, v.number)))) (λ v. refl) (λ v. refl) (both word (both word (both word word)))

-- nfs_fh4, of at least one byte
unfoldable pub handle : Form (List ℕ)
handle = opaque_between 1 HANDLE_LIMIT (lit< tt)

-- nfstime4
unfoldable pub time : Form Time
time = seen_as (λ v. record { secs = v.0; nanos = v.1 }) (λ v. (v.secs, v.nanos)) (λ v. refl) (λ v. refl) (both signed word)

-- a string of a network location
abbrev pub text : Form (List ℕ)
text = opaque TEXT_LIMIT (lit< tt)

-- netloc4: 1 and a name, 2 and a URL, 3 and a network's name and an address
abbrev pub net_loc_case : NetLoc → Case NetLoc
net_loc_case (Name name) = holds NL4_NAME text Name name
net_loc_case (Url url) = holds NL4_URL text Url url
net_loc_case (Addr netid addr) = holds NL4_NETADDR (both text text) (λ v. Addr v.0 v.1) (netid, addr)

abbrev pub net_loc_arms : List (ArmOf net_loc_case)
net_loc_arms = arm NL4_NAME text Name (λ v. refl) ∷ arm NL4_URL text Url (λ v. refl) ∷ arm NL4_NETADDR (both text text) (λ v. Addr v.0 v.1) (λ v. refl) ∷ []

pub net_loc_listed : (v : NetLoc) → IsListed net_loc_arms v
net_loc_listed (Name name) = record { reads = λ otherwise c. refl; whole = refl }
net_loc_listed _ = record { reads = λ otherwise c. refl; whole = refl }

unfoldable pub net_loc : Form NetLoc
net_loc = union net_loc_arms net_loc_listed

-- stable_how4: UNSTABLE4 0, DATA_SYNC4 1, FILE_SYNC4 2
abbrev pub stability_case : Stability → Case Stability
stability_case Unstable = holds UNSTABLE4 void (λ v. Unstable) tt
stability_case DataSync = holds DATA_SYNC4 void (λ v. DataSync) tt
stability_case FileSync = holds FILE_SYNC4 void (λ v. FileSync) tt

abbrev pub stability_arms : List (ArmOf stability_case)
stability_arms = arm UNSTABLE4 void (λ v. Unstable) (λ v. refl) ∷ arm DATA_SYNC4 void (λ v. DataSync) (λ v. refl) ∷ arm FILE_SYNC4 void (λ v. FileSync) (λ v. refl) ∷ []

pub stability_listed : (v : Stability) → IsListed stability_arms v
stability_listed Unstable = record { reads = λ otherwise c. refl; whole = refl }
stability_listed _ = record { reads = λ otherwise c. refl; whole = refl }

unfoldable pub stability : Form Stability
stability = union stability_arms stability_listed

-- write_response4
unfoldable pub write_response : Form WriteResponse
write_response = seen_as (λ v. record { callback_id = v.0; count = v.1.0; committed = v.1.1.0; verifier = v.1.1.1 }) (λ v. (v.callback_id, (v.count, (v.committed, v.verifier)))) (λ v. refl) (λ v. refl) (both (option state_id) (both hyper (both stability (fixed 8))))

-- what an operation answers: status 0 and what it did, or another status alone
abbrev pub answer_case : {T : Type 0} → Form T → Answer T → Case (Answer T)
answer_case form (Done v) = holds OK.number form Done v
answer_case form (Refused refused) = defaults refused.number void (λ v. Refused refused) tt

abbrev pub answer_arms : {T : Type 0} (form : Form T) → List (ArmOf (answer_case form))
answer_arms form = arm OK.number form Done (λ v. refl) ∷ []

-- a refusal with this number
abbrev pub refused_with : {T : Type 0} → ℕ → Unit {0} → Answer T
refused_with n v = Refused (record { number = n })

pub answer_picked : {T : Type 0} (form : Form T) (v : Answer T) → IsPicked (answer_arms form) (other_arm (λ n. void) refused_with) v
answer_picked form (Done v) = record { reads = λ otherwise c. refl; whole = refl }
answer_picked form _ = record { reads = λ otherwise c. refl; whole = refl }

unfoldable pub answer : {T : Type 0} → Form T → Form (Answer T)
answer form = union_or (answer_arms form) (λ n. void) refused_with (λ n v. refl) (answer_picked form)
