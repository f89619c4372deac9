-- Forms of what a session is made of (RFC 8881 section 18.36).
use Rattle.std.specs.Prelude.{ℕ, List, [], ◌∷◌, refl, Option}
use Rattle.std.proofs.Common.{lit<}
use Rattle.file_ops.specs.declared.parms.ChannelAttrs.{ChannelAttrs}
use Rattle.file_ops.specs.declared.parms.SysParm.{SysParm}
use Rattle.file_ops.specs.declared.parms.GssParm.{GssParm}
use Rattle.file_ops.specs.declared.parms.SecParm.{SecParm}
use Rattle.file_ops.specs.declared.parms.SecParm.TheVariants.{NoAuth, Sys, Gss}
use Rattle.wire_xdr.specs.Form.{Form}
use Rattle.wire_xdr.specs.Arms.{Case, ArmOf, IsListed, arm, holds}
use Rattle.wire_xdr.specs.Forms.{word, opaque, void, both, seen_as, list, option, union}
use Rattle.file_ops.specs.Free.{bytes}

-- ---- the attributes of a channel

abbrev pub attrs_of : ℕ × (ℕ × (ℕ × (ℕ × (ℕ × (ℕ × Option ℕ))))) → ChannelAttrs
attrs_of v = record { header_padding = v.0; max_request = v.1.0; max_response = v.1.1.0; max_cached_response = v.1.1.1.0; max_operations = v.1.1.1.1.0; max_requests = v.1.1.1.1.1.0; rdma = v.1.1.1.1.1.1 }

unfoldable pub channel_attrs : Form ChannelAttrs
channel_attrs = seen_as attrs_of (λ v. (v.header_padding, (v.max_request, (v.max_response, (v.max_cached_response, (v.max_operations, (v.max_requests, v.rdma))))))) (λ v. refl) (λ v. refl) (both word (both word (both word (both word (both word (both word (option word)))))))

-- ---- who may call back: nobody by name, a user of a machine, or a context

abbrev pub sys_of : ℕ × (List ℕ × (ℕ × (ℕ × List ℕ))) → SysParm
sys_of v = record { stamp = v.0; machine = v.1.0; uid = v.1.1.0; gid = v.1.1.1.0; gids = v.1.1.1.1 }

unfoldable pub sys_parm : Form SysParm
sys_parm = seen_as sys_of (λ v. (v.stamp, (v.machine, (v.uid, (v.gid, v.gids))))) (λ v. refl) (λ v. refl) (both word (both (opaque 255 (lit< tt)) (both word (both word (list 16 (lit< tt) word)))))

abbrev pub gss_of : ℕ × (List ℕ × List ℕ) → GssParm
gss_of v = record { service = v.0; handle_from_server = v.1.0; handle_from_client = v.1.1 }

unfoldable pub gss_parm : Form GssParm
gss_parm = seen_as gss_of (λ v. (v.service, (v.handle_from_server, v.handle_from_client))) (λ v. refl) (λ v. refl) (both word (both bytes bytes))

abbrev pub parm_case : SecParm → Case SecParm
parm_case NoAuth = holds 0 void (λ v. NoAuth) tt
parm_case (Sys parm) = holds 1 sys_parm Sys parm
parm_case (Gss parm) = holds 6 gss_parm Gss parm

abbrev pub parm_arms : List (ArmOf parm_case)
parm_arms = arm 0 void (λ v. NoAuth) (λ v. refl) ∷ arm 1 sys_parm Sys (λ v. refl) ∷ arm 6 gss_parm Gss (λ v. refl) ∷ []

pub parm_listed : (v : SecParm) → IsListed parm_arms v
parm_listed NoAuth = record { reads = λ otherwise c. refl; whole = refl }
parm_listed _ = record { reads = λ otherwise c. refl; whole = refl }

unfoldable pub sec_parm : Form SecParm
sec_parm = union parm_arms parm_listed
