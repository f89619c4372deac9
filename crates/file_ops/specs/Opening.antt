-- Forms of OPEN (RFC 8881 section 18.16).
use Rattle.std.specs.Prelude.{ℕ, Bool, List, [], ◌∷◌, refl}
use Rattle.std.proofs.Common.{lit<}
use Rattle.nfs_base.specs.declared.limits.TheConstants.{TEXT_LIMIT}
use Rattle.nfs_base.specs.Forms.{state_id}
use Rattle.nfs_base.specs.declared.state_id.StateId.{StateId}
use Rattle.file_ops.specs.declared.zero.Zero.{Zero}
use Rattle.file_ops.specs.declared.opening.Claim.{Claim}
use Rattle.file_ops.specs.declared.opening.Claim.TheVariants.{Null, Other}
use Rattle.file_ops.specs.declared.opening.OpenHow.{OpenHow}
use Rattle.file_ops.specs.declared.opening.OpenHow.TheVariants.{NoCreate, Create}
use Rattle.file_ops.specs.declared.opening.OpenArgs.{OpenArgs}
use Rattle.file_ops.specs.declared.opening.OpenDone.{OpenDone}
use Rattle.wire_xdr.specs.Form.{Form}
use Rattle.wire_xdr.specs.Arms.{Case, ArmOf, IsListed, IsPicked, arm, holds, defaults, other_arm}
use Rattle.wire_xdr.specs.Forms.{word, hyper, flag, opaque, void, both, seen_as, union, union_or}
use Rattle.file_ops.specs.Free.{bytes, bitmap, zero_word}

-- ---- a claim: 0 and a name; with any other the operation is cut behind that word

abbrev pub claim_case : Claim → Case Claim
claim_case (Null name) = holds 0 bytes Null name
claim_case (Other claim) = defaults claim void (λ v. Other claim) tt

abbrev pub claim_arms : List (ArmOf claim_case)
claim_arms = arm 0 bytes Null (λ v. refl) ∷ []

pub claim_picked : (v : Claim) → IsPicked claim_arms (other_arm (λ n. void) (λ n v. Other n)) v
claim_picked (Null name) = record { reads = λ otherwise c. refl; whole = refl }
claim_picked _ = record { reads = λ otherwise c. refl; whole = refl }

unfoldable pub claim : Form Claim
claim = union_or claim_arms (λ n. void) (λ n v. Other n) (λ n v. refl) claim_picked

-- ---- an open type: 0 and a claim; with 1 the operation is cut behind the create mode, which is any word

abbrev pub how_case : OpenHow → Case OpenHow
how_case (NoCreate of) = holds 0 claim NoCreate of
how_case (Create mode) = holds 1 word Create mode

abbrev pub how_arms : List (ArmOf how_case)
how_arms = arm 0 claim NoCreate (λ v. refl) ∷ arm 1 word Create (λ v. refl) ∷ []

pub how_listed : (v : OpenHow) → IsListed how_arms v
how_listed (NoCreate of) = record { reads = λ otherwise c. refl; whole = refl }
how_listed _ = record { reads = λ otherwise c. refl; whole = refl }

unfoldable pub open_how : Form OpenHow
open_how = union how_arms how_listed

-- ---- arguments and answer

abbrev pub open_of : ℕ × (ℕ × (ℕ × (ℕ × (List ℕ × OpenHow)))) → OpenArgs
open_of v = record { seqid = v.0; access = v.1.0; deny = v.1.1.0; client = v.1.1.1.0; owner = v.1.1.1.1.0; how = v.1.1.1.1.1 }

unfoldable pub open_args : Form OpenArgs
open_args = seen_as open_of (λ v. (v.seqid, (v.access, (v.deny, (v.client, (v.owner, v.how)))))) (λ v. refl) (λ v. refl) (both word (both word (both word (both hyper (both (opaque TEXT_LIMIT (lit< tt)) open_how)))))

abbrev pub open_done_of : StateId × (Bool × (ℕ × (ℕ × (ℕ × (List ℕ × Zero))))) → OpenDone
open_done_of v = record { state_id = v.0; atomic = v.1.0; before = v.1.1.0; after = v.1.1.1.0; flags = v.1.1.1.1.0; attributes_set = v.1.1.1.1.1.0; delegation = v.1.1.1.1.1.1 }

unfoldable pub open_done : Form OpenDone
open_done = seen_as open_done_of (λ v. (v.state_id, (v.atomic, (v.before, (v.after, (v.flags, (v.attributes_set, v.delegation))))))) (λ v. refl) (λ v. refl) (both state_id (both flag (both hyper (both hyper (both word (both bitmap zero_word))))))
