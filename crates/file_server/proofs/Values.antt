-- How many bytes the values of attributes have, and that they have no padding.
use Rattle.std.proofs.Common.{◌≡◌, ℕ, ◌+◌, ◌%◌, Bool, true, false, List, ◌++◌, length, refl, append-nil, length-append, arith}
use Rattle.std.specs.Prelude.{if◌then◌else◌}
use Rattle.nfs_base.specs.declared.limits.TheConstants.{LEASE_SECONDS}
use Rattle.wire_xdr.specs.Words.{word_bytes, hyper_bytes, fixed_bytes, opaque_bytes, padding}
use Rattle.file_server.specs.declared.attributes.FileAttributes.{FileAttributes}
use Rattle.file_ops.specs.declared.files.TheConstants.{ATTR_TYPE, ATTR_CHANGE, ATTR_SIZE, ATTR_LEASE_TIME}
use Rattle.file_server.specs.Attributes.{bytes_if, values_of, wants}

abbrev pub length_if : Bool → ℕ → ℕ
length_if wanted n = if wanted then n else 0

word_length : (wanted : Bool) (n : ℕ) → length (bytes_if wanted (word_bytes n)) ≡ length_if wanted 4
unfolding word_bytes
word_length true n = refl
word_length false n = refl

hyper_length : (wanted : Bool) (n : ℕ) → length (bytes_if wanted (hyper_bytes n)) ≡ length_if wanted 8
unfolding hyper_bytes
hyper_length true n = refl
hyper_length false n = refl

-- how many there are of the four
abbrev pub lengths_of : ℕ → ℕ
lengths_of mask = length_if (wants mask ATTR_TYPE) 4 + length_if (wants mask ATTR_CHANGE) 8 + length_if (wants mask ATTR_SIZE) 8 + length_if (wants mask ATTR_LEASE_TIME) 4

pub values_length : (mask : ℕ) (a : FileAttributes) → length (values_of mask a) ≡ lengths_of mask
values_length mask a =
    let kind = word_length (wants mask ATTR_TYPE) a.kind in
    let change = hyper_length (wants mask ATTR_CHANGE) a.change in
    let size = hyper_length (wants mask ATTR_SIZE) a.size in
    let lease = word_length (wants mask ATTR_LEASE_TIME) LEASE_SECONDS in
    omega (arith, length-append {A = ℕ})

four_whole : (wanted : Bool) → length_if wanted 4 % 4 ≡ 0
four_whole true = refl
four_whole false = refl

eight_whole : (wanted : Bool) → length_if wanted 8 % 4 ≡ 0
eight_whole true = refl
eight_whole false = refl

lengths_whole : (mask : ℕ) → lengths_of mask % 4 ≡ 0
lengths_whole mask =
    omega (arith, four_whole (wants mask ATTR_TYPE), eight_whole (wants mask ATTR_CHANGE), eight_whole (wants mask ATTR_SIZE), four_whole (wants mask ATTR_LEASE_TIME))

no_padding : (bytes : List ℕ) → length bytes % 4 ≡ 0 → fixed_bytes bytes ≡ bytes
unfolding fixed_bytes
no_padding bytes whole =
    let none : padding (length bytes) ≡ 0 = omega arith in
    rw none (append-nil bytes)

-- values are spelled behind their length, and nothing stands behind them
pub values_spelled : (mask : ℕ) (a : FileAttributes) → opaque_bytes (values_of mask a) ≡ word_bytes (length (values_of mask a)) ++ values_of mask a
unfolding opaque_bytes
values_spelled mask a =
    rw (no_padding (values_of mask a) (omega (arith, values_length mask a, lengths_whole mask))) refl
