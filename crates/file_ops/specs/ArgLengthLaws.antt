-- How many bytes the arguments of the operations have, by their parts.
use Rattle.std.proofs.Common.{ℕ, ◌+◌, refl, arith}
use Rattle.std.specs.Prelude.{sum_by}
use Rattle.std.proofs.lemmas.List.{length-append}
use Rattle.wire_xdr.specs.Forms.{void}
use Rattle.wire_xdr.specs.LengthLaws.{IsSized, AreSized, word_length, hyper_length, flag_length, list_sized, union_sized, union_or_sized}
use Rattle.nfs_base.specs.Forms.{handle}
use Rattle.nfs_base.specs.LengthLaws.{eight_bounded, sixteen_bounded}
use Rattle.file_ops.specs.declared.args.FileArg.{FileArg}
use Rattle.file_ops.specs.declared.args.FileArg.TheVariants as arguments
use Rattle.file_ops.specs.declared.opening.Claim.{Claim}
use Rattle.file_ops.specs.declared.opening.Claim.TheVariants.{Null, Other}
use Rattle.file_ops.specs.declared.opening.OpenArgs.{OpenArgs}
use Rattle.file_ops.specs.declared.opening.OpenHow.{OpenHow}
use Rattle.file_ops.specs.declared.opening.OpenHow.TheVariants.{NoCreate, Create}
use Rattle.file_ops.specs.declared.parms.SecParm.{SecParm}
use Rattle.file_ops.specs.declared.parms.SecParm.TheVariants.{NoAuth, Sys, Gss}
use Rattle.file_ops.specs.declared.sessions.CreateSessionArgs.{CreateSessionArgs}
use Rattle.file_ops.specs.declared.sessions.ExchangeIdArgs.{ExchangeIdArgs}
use Rattle.file_ops.specs.declared.sessions.Protection.{Protection}
use Rattle.file_ops.specs.declared.sessions.Protection.TheVariants.{Unprotected, Protected}
use Rattle.file_ops.specs.Args.{arg_case, file_arg}
use Rattle.file_ops.specs.LengthLaws.{bytes_size, bytes_sized, bitmap_size, bitmap_sized, impl_id_size, impl_id_sized, channel_attrs_bounded, close_args_bounded, commit_args_bounded, read_args_bounded, write_args_sized, sequence_args_bounded}
use Rattle.file_ops.specs.Opening.{claim_case, claim_arms, claim_picked, claim, how_case, how_arms, how_listed, open_how, open_args}
use Rattle.file_ops.specs.Parms.{sys_parm, gss_parm, parm_case, parm_arms, parm_listed, sec_parm}
use Rattle.file_ops.specs.Sessions.{protection_case, protection_arms, protection_picked, protection, exchange_id_args, create_session_args}

-- ---- OPEN

-- what stands behind the number of a claim, and behind that of an open type
abbrev pub claim_body_size : Claim → ℕ
claim_body_size (Null name) = bytes_size name
claim_body_size (Other number) = 0

claim_bodies : AreSized claim_case claim_body_size
claim_bodies (Null name) fits = bytes_sized name
claim_bodies (Other number) fits = omega arith

claim_sized : IsSized claim (λ v. 4 + claim_body_size v)
unfolding claim
claim_sized = union_or_sized claim_arms (λ n. void) (λ n v. Other n) (λ n v. refl) claim_picked claim_body_size claim_bodies

abbrev pub how_body_size : OpenHow → ℕ
how_body_size (NoCreate of) = 4 + claim_body_size of
how_body_size (Create mode) = 4

how_bodies : AreSized how_case how_body_size
how_bodies (NoCreate of) fits = claim_sized of fits
how_bodies (Create mode) fits = omega (arith, word_length mode)

how_sized : IsSized open_how (λ v. 4 + how_body_size v)
unfolding open_how
how_sized = union_sized how_arms how_listed how_body_size how_bodies

abbrev pub open_args_size : OpenArgs → ℕ
open_args_size v = 24 + bytes_size v.owner + how_body_size v.how

pub open_args_sized : IsSized open_args open_args_size
unfolding open_args
open_args_sized v fits =
    let owner = bytes_sized v.owner in
    let how = how_sized v.how fits.1.1.1.1.1 in
    grind (arith, length-append, word_length, hyper_length)

-- ---- EXCHANGE_ID

abbrev pub protection_body_size : Protection → ℕ
protection_body_size (Unprotected who) = impl_id_size who
protection_body_size (Protected how) = 0

protection_bodies : AreSized protection_case protection_body_size
protection_bodies (Unprotected who) fits = impl_id_sized who fits
protection_bodies (Protected how) fits = omega arith

protection_sized : IsSized protection (λ v. 4 + protection_body_size v)
unfolding protection
protection_sized = union_or_sized protection_arms (λ n. void) (λ n v. Protected n) (λ n v. refl) protection_picked protection_body_size protection_bodies

abbrev pub exchange_id_args_size : ExchangeIdArgs → ℕ
exchange_id_args_size v = 16 + bytes_size v.owner + protection_body_size v.protection

pub exchange_id_args_sized : IsSized exchange_id_args exchange_id_args_size
unfolding exchange_id_args
exchange_id_args_sized v fits =
    let verifier = eight_bounded v.verifier fits.0 in
    let owner = bytes_sized v.owner in
    let protected = protection_sized v.protection fits.1.1.1 in
    grind (arith, length-append, word_length)

-- ---- CREATE_SESSION

-- what stands behind the flavor of a parm
abbrev pub parm_body_size : SecParm → ℕ
parm_body_size NoAuth = 0
parm_body_size (Sys parm) = 12 + bytes_size parm.machine + bitmap_size parm.gids
parm_body_size (Gss parm) = 4 + bytes_size parm.handle_from_server + bytes_size parm.handle_from_client

sys_parm_sized : IsSized sys_parm (λ v. 12 + bytes_size v.machine + bitmap_size v.gids)
unfolding sys_parm
sys_parm_sized v fits =
    let machine = bytes_sized v.machine in
    let gids = bitmap_sized v.gids in
    grind (arith, length-append, word_length)

gss_parm_sized : IsSized gss_parm (λ v. 4 + bytes_size v.handle_from_server + bytes_size v.handle_from_client)
unfolding gss_parm
gss_parm_sized v fits =
    let server = bytes_sized v.handle_from_server in
    let client = bytes_sized v.handle_from_client in
    grind (arith, length-append, word_length)

parm_bodies : AreSized parm_case parm_body_size
parm_bodies NoAuth fits = omega arith
parm_bodies (Sys parm) fits = sys_parm_sized parm fits
parm_bodies (Gss parm) fits = gss_parm_sized parm fits

abbrev pub parm_size : SecParm → ℕ
parm_size v = 4 + parm_body_size v

pub parm_sized : IsSized sec_parm parm_size
unfolding sec_parm
parm_sized = union_sized parm_arms parm_listed parm_body_size parm_bodies

abbrev pub create_session_args_size : CreateSessionArgs → ℕ
create_session_args_size v = 88 + sum_by parm_size v.parms

pub create_session_args_sized : IsSized create_session_args create_session_args_size
unfolding create_session_args
create_session_args_sized v fits =
    let fore = channel_attrs_bounded v.fore fits.1.1.1.0 in
    let back = channel_attrs_bounded v.back fits.1.1.1.1.0 in
    let parms = list_sized sec_parm parm_size parm_sized v.parms fits.1.1.1.1.1.1.1 in
    grind (arith, length-append, word_length, hyper_length)

-- ---- any operation

-- how many bytes the arguments of an operation have at most, its number apart
abbrev pub file_arg_size : FileArg → ℕ
file_arg_size (arguments.Close v) = 20
file_arg_size (arguments.Commit v) = 12
file_arg_size (arguments.GetAttr v) = bitmap_size v
file_arg_size (arguments.Lookup v) = bytes_size v
file_arg_size (arguments.Open v) = open_args_size v
file_arg_size (arguments.PutFh v) = bytes_size v
file_arg_size (arguments.Read v) = 28
file_arg_size (arguments.Write v) = 28 + bytes_size v.bytes
file_arg_size (arguments.ExchangeId v) = exchange_id_args_size v
file_arg_size (arguments.CreateSession v) = create_session_args_size v
file_arg_size (arguments.DestroySession v) = 16
file_arg_size (arguments.Sequence v) = 32
file_arg_size (arguments.DestroyClientId v) = 8
file_arg_size (arguments.ReclaimComplete v) = 4
file_arg_size _ = 0

handle_sized : IsSized handle bytes_size
unfolding handle
handle_sized v fits = bytes_sized v

file_arg_bodies : AreSized arg_case file_arg_size
file_arg_bodies (arguments.Close v) fits = close_args_bounded v fits
file_arg_bodies (arguments.Commit v) fits = commit_args_bounded v fits
file_arg_bodies (arguments.GetAttr v) fits = omega (arith, bitmap_sized v)
file_arg_bodies arguments.GetFh fits = omega arith
file_arg_bodies (arguments.Lookup v) fits = bytes_sized v
file_arg_bodies (arguments.Open v) fits = open_args_sized v fits
file_arg_bodies (arguments.PutFh v) fits = handle_sized v fits
file_arg_bodies arguments.PutRootFh fits = omega arith
file_arg_bodies (arguments.Read v) fits = read_args_bounded v fits
file_arg_bodies arguments.RestoreFh fits = omega arith
file_arg_bodies arguments.SaveFh fits = omega arith
file_arg_bodies (arguments.Write v) fits = write_args_sized v fits
file_arg_bodies (arguments.ExchangeId v) fits = exchange_id_args_sized v fits
file_arg_bodies (arguments.CreateSession v) fits = create_session_args_sized v fits
file_arg_bodies (arguments.DestroySession v) fits = sixteen_bounded v fits
file_arg_bodies (arguments.Sequence v) fits = sequence_args_bounded v fits
file_arg_bodies (arguments.DestroyClientId v) fits = omega (arith, hyper_length v)
file_arg_bodies (arguments.ReclaimComplete v) fits = omega (arith, flag_length v)
file_arg_bodies arguments.Illegal fits = omega arith

pub file_arg_sized : (op : ℕ) → IsSized (file_arg op) file_arg_size
unfolding file_arg
file_arg_sized op v fits = file_arg_bodies v fits.1
