-- The arguments and results of INIT (RFC 2203 section 5.2.2) and CREATE (own framing of RFC 7861 section 2.7).
use Rattle.std.specs.Prelude.{ℕ, List, [], ◌∷◌, refl}
use Rattle.std.proofs.Common.{lit<}
use Rattle.nfs_base.specs.declared.limits.TheConstants.{NAME_LIMIT, PRIVILEGE_LIMIT, TOKEN_LIMIT}
use Rattle.wire_xdr.specs.Form.{Form}
use Rattle.wire_xdr.specs.Arms.{Case, ArmOf, IsListed, arm, holds}
use Rattle.wire_xdr.specs.Forms.{word, opaque, both, seen_as, union}
use Rattle.gss_ctx.specs.declared.begin.InitResult.{InitResult}
use Rattle.gss_ctx.specs.declared.create.Create.{Create}
use Rattle.gss_ctx.specs.declared.create.CreateResult.{CreateResult}

-- bytes without a limit of their own
abbrev pub bytes : Form (List ℕ)
bytes = opaque 4294967295 (lit< tt)

-- ---- the argument of INIT: a token

unfoldable pub init_token : Form (List ℕ)
init_token = opaque TOKEN_LIMIT (lit< tt)

-- ---- the result of INIT: handle, major and minor status, window, token

unfoldable pub init_result : Form InitResult
init_result =
    seen_as (λ v. record { handle = v.0; major = v.1.0; minor = v.1.1.0; window = v.1.1.1.0; token = v.1.1.1.1 })
    (λ v. (v.handle, (v.major, (v.minor, (v.window, v.token))))) (λ v. refl) (λ v. refl)
    (both bytes (both word (both word (both word bytes))))

-- ---- the argument of CREATE: one assertion, of type 1, with the privilege's name and its bytes

abbrev pub CreateFields : Type 0
CreateFields = List ℕ × List ℕ

abbrev pub create_fields : Form CreateFields
create_fields = both (opaque NAME_LIMIT (lit< tt)) (opaque PRIVILEGE_LIMIT (lit< tt))

abbrev pub kind_case : CreateFields → Case CreateFields
kind_case v = holds 1 create_fields (λ fields. fields) v

abbrev pub kind_arms : List (ArmOf kind_case)
kind_arms = arm 1 create_fields (λ fields. fields) (λ v. refl) ∷ []

pub kind_listed : (v : CreateFields) → IsListed kind_arms v
kind_listed v = record { reads = λ otherwise c. refl; whole = refl }

abbrev pub kind : Form CreateFields
kind = union kind_arms kind_listed

abbrev pub count_case : CreateFields → Case CreateFields
count_case v = holds 1 kind (λ fields. fields) v

abbrev pub count_arms : List (ArmOf count_case)
count_arms = arm 1 kind (λ fields. fields) (λ v. refl) ∷ []

pub count_listed : (v : CreateFields) → IsListed count_arms v
count_listed v = record { reads = λ otherwise c. refl; whole = refl }

unfoldable pub create : Form Create
create = seen_as (λ v. record { name = v.0; privilege = v.1 }) (λ v. (v.name, v.privilege)) (λ v. refl) (λ v. refl) (union count_arms count_listed)

-- ---- the result of CREATE: handle, major and minor status

unfoldable pub create_result : Form CreateResult
create_result = seen_as (λ v. record { handle = v.0; major = v.1.0; minor = v.1.1 }) (λ v. (v.handle, (v.major, v.minor))) (λ v. refl) (λ v. refl) (both bytes (both word word))
