-- HMAC over SHA-256 (RFC 2104): a block has 64 bytes and a digest 32.
use Rattle.std.specs.Prelude.{ℕ, ◌-◌, List, ◌++◌, length, map, replicate, bit_xor}
use Rattle.sha2.specs.Sha256.{sha256}

-- a key of at most a block, filled up with zeros (section 2, step 1)
abbrev pub block_of : List ℕ → List ℕ
block_of key = key ++ replicate (64 - length key) 0

-- each byte with the bits of the pad turned (steps 2 and 5)
abbrev pub masked : ℕ → List ℕ → List ℕ
masked pad bytes = map (λ b. bit_xor b pad) bytes

-- H(K xor opad, H(K xor ipad, text)), with ipad the byte 0x36 and opad the byte 0x5c repeated
unfoldable pub hmac : List ℕ → List ℕ → List ℕ
hmac key text = sha256 (masked 0x5c (block_of key) ++ sha256 (masked 0x36 (block_of key) ++ text))
