-- Numbers of two and of four bytes, written and read back.
use Rattle.std.proofs.Common.{◌≡◌, ℕ, zero, suc, ◌+◌, ◌*◌, ◌/◌, ◌%◌, ◌^◌, ◌<◌, ◌≤◌, List, [], ◌∷◌, ◌++◌, map, length, get_or, take, drop, refl, ap, ◌∙◌, arith}
use Rattle.std.specs.List.{flat_map}
use Rattle.std.specs.Simd.{first_chunks}
use Rattle.std.proofs.lemmas.List.{get_or-drop}
use Rattle.record.specs.Written.{two, four}
use Rattle.record.specs.Read.{number_of_two, number_of_four, pair_in, pairs_from}

pub two_back : (n : ℕ) → n < 2 ^ 16 → n % 256 + n / 256 % 256 * 256 ≡ n
two_back n h = omega arith

pub two_fits : (n : ℕ) → n % 256 + n / 256 % 256 * 256 < 2 ^ 16
two_fits n = omega arith

by_256 : (n : ℕ) → n / 65536 ≡ n / 256 / 256
by_256 n = omega arith

by_65536 : (n : ℕ) → n / 16777216 ≡ n / 65536 / 256
by_65536 n = omega arith

split : (n : ℕ) → n % 256 + n / 256 * 256 ≡ n
split n = omega arith

pub four_back : (n : ℕ) → n < 2 ^ 32 → n % 256 + n / 256 % 256 * 256 + n / 65536 % 256 * 65536 + n / 16777216 % 256 * 16777216 ≡ n
four_back n h =
    let e = split n in
    let f = split (n / 256) in
    let g = split (n / 65536) in
    let p = by_256 n in
    let q = by_65536 n in
    let k : n / 16777216 % 256 ≡ n / 16777216 = omega arith in
    omega arith

pub four-fits : (n : ℕ) → n % 256 + n / 256 % 256 * 256 + n / 65536 % 256 * 65536 + n / 16777216 % 256 * 16777216 < 2 ^ 32
four-fits n = omega arith

low : (a b : ℕ) → a < 256 → (a + b * 256) % 256 ≡ a
low a b h = omega arith

high : (a b : ℕ) → a < 256 → (a + b * 256) / 256 ≡ b
high a b h = omega arith

small : (a : ℕ) → a < 256 → a % 256 ≡ a
small a h = omega arith

pub two_of : (a b : ℕ) → a < 256 → b < 256 → two (a + b * 256) ≡ a ∷ b ∷ []
two_of a b h k =
    let p = low a b h in
    let q : (a + b * 256) / 256 % 256 ≡ b = ap (λ n. n % 256) (high a b h) ∙ small b k in
    cc

pub four_of : (a b c d : ℕ) → a < 256 → b < 256 → c < 256 → d < 256 → four (a + b * 256 + c * 65536 + d * 16777216) ≡ a ∷ b ∷ c ∷ d ∷ []
four_of a b c d h k l m =
    let n = a + b * 256 + c * 65536 + d * 16777216 in
    let e : n ≡ a + (b + (c + d * 256) * 256) * 256 = omega arith in
    let p : n % 256 ≡ a = ap (λ x. x % 256) e ∙ low a _ h in
    let q₁ : n / 256 ≡ b + (c + d * 256) * 256 = ap (λ x. x / 256) e ∙ high a _ h in
    let q : n / 256 % 256 ≡ b = ap (λ x. x % 256) q₁ ∙ low b _ k in
    let r₁ : n / 65536 ≡ c + d * 256 = by_256 n ∙ ap (λ x. x / 256) q₁ ∙ high b _ k in
    let r : n / 65536 % 256 ≡ c = ap (λ x. x % 256) r₁ ∙ low c _ l in
    let s₁ : n / 16777216 ≡ d = by_65536 n ∙ ap (λ x. x / 256) r₁ ∙ high c _ l in
    let s : n / 16777216 % 256 ≡ d = ap (λ x. x % 256) s₁ ∙ small d m in
    cc

-- each is a byte
abbrev pub AreBytes : List ℕ → Type 0
AreBytes bs = (k : ℕ) → get_or bs k 0 < 256

pub rest_bytes : (n : ℕ) (bs : List ℕ) → AreBytes bs → AreBytes (drop n bs)
rest_bytes n bs h = λ k. rw (get_or-drop n bs k 0) (h (n + k))

-- the numbers at the front of bytes, written again
pub two_front : (bs : List ℕ) → 2 ≤ length bs → AreBytes bs → two (number_of_two bs) ≡ take 2 bs
two_front [] l h = absurd (omega arith)
two_front (a ∷ []) l h = absurd (omega arith)
two_front (a ∷ b ∷ bs) l h = two_of a b (h 0) (h 1)

pub four_front : (bs : List ℕ) → 4 ≤ length bs → AreBytes bs → four (number_of_four bs) ≡ take 4 bs
four_front [] l h = absurd (omega arith)
four_front (a ∷ []) l h = absurd (omega arith)
four_front (a ∷ b ∷ []) l h = absurd (omega arith)
four_front (a ∷ b ∷ c ∷ []) l h = absurd (omega arith)
four_front (a ∷ b ∷ c ∷ d ∷ bs) l h = four_of a b c d (h 0) (h 1) (h 2) (h 3)

-- a table of pairs, cut into its pairs
pub chunk_pairs : (n : ℕ) (bs : List ℕ) → 4 * n ≤ length bs → map pair_in (first_chunks 4 n (take (4 * n) bs)) ≡ pairs_from n bs
chunk_pairs zero bs l = refl
chunk_pairs (suc n) [] l = absurd (omega arith)
chunk_pairs (suc n) (a ∷ []) l = absurd (omega arith)
chunk_pairs (suc n) (a ∷ b ∷ []) l = absurd (omega arith)
chunk_pairs (suc n) (a ∷ b ∷ c ∷ []) l = absurd (omega arith)
chunk_pairs (suc n) (a ∷ b ∷ c ∷ d ∷ bs) l =
    let e : 4 * suc n ≡ suc (suc (suc (suc (4 * n)))) = omega arith in
    ap (λ m. map pair_in (first_chunks 4 (suc n) (take m (a ∷ b ∷ c ∷ d ∷ bs)))) e
    ∙ ap (λ ps. (a + b * 256, c + d * 256) ∷ ps) (chunk_pairs n bs (omega arith))

-- and written again
abbrev pub pair_bytes : ℕ × ℕ → List ℕ
pair_bytes p = two p.0 ++ two p.1

pub pairs_bytes : (n : ℕ) (bs : List ℕ) → 4 * n ≤ length bs → AreBytes bs → flat_map pair_bytes (pairs_from n bs) ≡ take (4 * n) bs
pairs_bytes zero bs l h = refl
pairs_bytes (suc n) [] l h = absurd (omega arith)
pairs_bytes (suc n) (a ∷ []) l h = absurd (omega arith)
pairs_bytes (suc n) (a ∷ b ∷ []) l h = absurd (omega arith)
pairs_bytes (suc n) (a ∷ b ∷ c ∷ []) l h = absurd (omega arith)
pairs_bytes (suc n) (a ∷ b ∷ c ∷ d ∷ bs) l h =
    let e : suc (suc (suc (suc (4 * n)))) ≡ 4 * suc n = omega arith in
    let p = two_of a b (h 0) (h 1) in
    let q = two_of c d (h 2) (h 3) in
    let r = pairs_bytes n bs (omega arith) (λ k. h (suc (suc (suc (suc k))))) in
    (λ i. (p i ++ q i) ++ r i) ∙ ap (λ m. take m (a ∷ b ∷ c ∷ d ∷ bs)) e
