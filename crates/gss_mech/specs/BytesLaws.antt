-- What is spelled of bytes is bytes.
use Rattle.std.proofs.Common.{ℕ, zero, suc, ◌<◌, ◌%◌, ◌/◌, ◌^◌, List, [], ◌∷◌, ◌++◌, length, replicate, arith}
use Rattle.std.specs.Int.{byte_at, bytes_high_first, to_be_bytes, w32}
use Rattle.std.specs.Prelude.{slice_index}
use Rattle.sha2.specs.Sha256.{digest_bytes}
use Rattle.wire_xdr.specs.Cursor.{IsBytes}
use Rattle.wire_xdr.specs.Words.{fixed_bytes, opaque_bytes, padding, word_bytes}

pub no_bytes : IsBytes []
no_bytes i = omega arith

pub one_more : (x : ℕ) (xs : List ℕ) → x < 256 → IsBytes xs → IsBytes (x ∷ xs)
one_more x xs small h zero = small
one_more x xs small h (suc i) = h i

pub glued : (xs ys : List ℕ) → IsBytes xs → IsBytes ys → IsBytes (xs ++ ys)
glued [] ys h k = k
glued (x ∷ xs) ys h k = one_more x (xs ++ ys) (h 0) (glued xs ys (λ i. h (suc i)) k)

-- ---- numbers

below : (n : ℕ) → n % 256 < 256
below n = omega arith

byte_below : (i n : ℕ) → byte_at i n < 256
byte_below zero n = below n
byte_below (suc i) n = below (n / 256 ^ suc i)

pub high_first : (k n : ℕ) → IsBytes (bytes_high_first k n)
high_first zero n = no_bytes
high_first (suc k) n = one_more (byte_at k n) (bytes_high_first k n) (byte_below k n) (high_first k n)

pub word_are : (n : ℕ) → IsBytes (word_bytes n)
unfolding word_bytes
word_are n = high_first 4 n

-- ---- bytes with padding, and behind their length

zeros : (n : ℕ) → IsBytes (replicate n 0)
zeros zero = no_bytes
zeros (suc n) = one_more 0 (replicate n 0) (omega arith) (zeros n)

pub fixed_are : (bytes : List ℕ) → IsBytes bytes → IsBytes (fixed_bytes bytes)
unfolding fixed_bytes
fixed_are bytes h = glued bytes (replicate (padding (length bytes)) 0) h (zeros (padding (length bytes)))

pub opaque_are : (bytes : List ℕ) → IsBytes bytes → IsBytes (opaque_bytes bytes)
unfolding opaque_bytes
opaque_are bytes h = glued (word_bytes (length bytes)) (fixed_bytes bytes) (word_are (length bytes)) (fixed_are bytes h)

-- ---- digests (FIPS 180-4 section 6.2)

pub digest_are : (h : List ℕ) (n : ℕ) → IsBytes (digest_bytes h n)
unfolding digest_bytes word_bytes
digest_are h zero = no_bytes
digest_are h (suc n) = glued (digest_bytes h n) (to_be_bytes w32 (slice_index h n)) (digest_are h n) (word_are (slice_index h n))
