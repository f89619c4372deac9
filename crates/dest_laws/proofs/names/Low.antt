-- A number and its lowest bytes are spelled alike.
use Rattle.std.proofs.Common.{◌≡◌, ℕ, ◌%◌, List, [], ◌∷◌, arith}
use Rattle.std.specs.Int.{byte_at}
use Rattle.wire_xdr.specs.Words.{hyper_bytes, word_bytes}

abbrev pub low_word : ℕ → ℕ
low_word n = n % 4294967296

abbrev pub low_hyper : ℕ → ℕ
low_hyper n = n % 18446744073709551616

four : (a b c d e f g h : ℕ) → a ≡ e → b ≡ f → c ≡ g → d ≡ h → ◌≡◌ {A = List ℕ} (a ∷ b ∷ c ∷ d ∷ []) (e ∷ f ∷ g ∷ h ∷ [])
four a b c d e f g h p q r s = cc

pub word_low : (n : ℕ) → word_bytes n ≡ word_bytes (low_word n)
unfolding word_bytes
word_low n =
    let m = low_word n in
    four (byte_at 3 n) (byte_at 2 n) (byte_at 1 n) (byte_at 0 n) (byte_at 3 m) (byte_at 2 m) (byte_at 1 m) (byte_at 0 m)
    (omega arith) (omega arith) (omega arith) (omega arith)

eight : (a b c d e f g h i j k l m n o p : ℕ) → a ≡ i → b ≡ j → c ≡ k → d ≡ l → e ≡ m → f ≡ n → g ≡ o → h ≡ p
    → ◌≡◌ {A = List ℕ} (a ∷ b ∷ c ∷ d ∷ e ∷ f ∷ g ∷ h ∷ []) (i ∷ j ∷ k ∷ l ∷ m ∷ n ∷ o ∷ p ∷ [])
eight a b c d e f g h i j k l m n o p p0 p1 p2 p3 p4 p5 p6 p7 = cc

pub hyper_low : (n : ℕ) → hyper_bytes n ≡ hyper_bytes (low_hyper n)
unfolding hyper_bytes
hyper_low n =
    let m = low_hyper n in
    eight (byte_at 7 n) (byte_at 6 n) (byte_at 5 n) (byte_at 4 n) (byte_at 3 n) (byte_at 2 n) (byte_at 1 n) (byte_at 0 n)
    (byte_at 7 m) (byte_at 6 m) (byte_at 5 m) (byte_at 4 m) (byte_at 3 m) (byte_at 2 m) (byte_at 1 m) (byte_at 0 m)
    (omega arith) (omega arith) (omega arith) (omega arith) (omega arith) (omega arith) (omega arith) (omega arith)
