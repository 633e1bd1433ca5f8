-- MD5 as RFC 1321 defines it. A message is a list of bytes.
use Rattle.std.specs.Prelude.{ℕ, zero, suc, ◌+◌, ◌-◌, ◌*◌, ◌/◌, ◌%◌, ◌^◌, List, [], ◌∷◌, ◌++◌, length, replicate, bit_and, bit_or, bit_xor, slice_index}
use Rattle.md5_digest.specs.declared.State.{State}
use Rattle.md5_digest.specs.declared.Auxiliary.{Auxiliary}
use Rattle.md5_digest.specs.declared.Auxiliary.TheVariants.{F, G, H, I}

-- RFC 1321, 2: the word whose four bytes start at byte i, the low-order byte first
unfoldable pub word_at : List ℕ → ℕ → ℕ
word_at l i = slice_index l i + 256 * slice_index l (i + 1) + 65536 * slice_index l (i + 2) + 16777216 * slice_index l (i + 3)

-- RFC 1321, 2: the n low-order bytes of x, the lowest first
unfoldable pub low_first : ℕ → ℕ → List ℕ
low_first zero x = []
low_first (suc n) x = x % 256 ∷ low_first n (x / 256)

-- RFC 1321, 2: X + Y, the sum of two words modulo 2^32
infixl 60 ◌⊞◌
abbrev pub ◌⊞◌ : ℕ → ℕ → ℕ
x ⊞ y = (x + y) % 2 ^ 32

-- RFC 1321, 2: X <<< s, the word X rotated left by s bits
infixl 50 ◌⋘◌
unfoldable pub ◌⋘◌ : ℕ → ℕ → ℕ
x ⋘ s = (x * 2 ^ (s % 32)) % 2 ^ 32 + x / 2 ^ (32 - s % 32)

-- RFC 1321, 2: not(X), the complement of a word
abbrev pub not32 : ℕ → ℕ
not32 x = (2 ^ 32 - 1) - x

-- RFC 1321, 3.1: how many zero bytes after the bit 1 make n bytes 56 modulo 64 (448 bits modulo 512)
abbrev pub zeros_after : ℕ → ℕ
zeros_after n = (64 + 55 - n % 64) % 64

-- RFC 1321, 3.1 and 3.2: the bit 1 with seven zero bits, z zero bytes, and the count of bits in eight bytes
unfoldable pub padding : ℕ → ℕ → List ℕ
padding z bits = 128 ∷ (replicate z 0 ++ low_first 8 bits)

-- RFC 1321, 3.2: the count of bits of n bytes, of which the low-order 64 bits are used
abbrev pub bit_count : ℕ → ℕ
bit_count n = (8 * n) % 2 ^ 64

-- RFC 1321, 3.1 and 3.2: the end l of a message, of which `done` bytes came before, with its padding
unfoldable pub padded : ℕ → List ℕ → List ℕ
padded done l = l ++ padding (zeros_after (length l)) (bit_count (done + length l))

-- RFC 1321, 3.3: the registers before the first block
unfoldable pub start : State
start = record { a = 0x67452301; b = 0xefcdab89; c = 0x98badcfe; d = 0x10325476 }

-- RFC 1321, 3.4: the auxiliary functions F, G, H and I of three words
unfoldable pub auxiliary_of : Auxiliary → ℕ → ℕ → ℕ → ℕ
auxiliary_of F x y z = bit_or (bit_and x y) (bit_and (not32 x) z)
auxiliary_of G x y z = bit_or (bit_and x z) (bit_and y (not32 z))
auxiliary_of H x y z = bit_xor (bit_xor x y) z
auxiliary_of I x y z = bit_xor y (bit_or x (not32 z))

-- RFC 1321, 3.4: the table T[1] to T[64] made from the sine, with the values of appendix A.3
abbrev pub sines : List ℕ
sines =
    0xd76aa478 ∷ 0xe8c7b756 ∷ 0x242070db ∷ 0xc1bdceee ∷
    0xf57c0faf ∷ 0x4787c62a ∷ 0xa8304613 ∷ 0xfd469501 ∷
    0x698098d8 ∷ 0x8b44f7af ∷ 0xffff5bb1 ∷ 0x895cd7be ∷
    0x6b901122 ∷ 0xfd987193 ∷ 0xa679438e ∷ 0x49b40821 ∷
    0xf61e2562 ∷ 0xc040b340 ∷ 0x265e5a51 ∷ 0xe9b6c7aa ∷
    0xd62f105d ∷ 0x02441453 ∷ 0xd8a1e681 ∷ 0xe7d3fbc8 ∷
    0x21e1cde6 ∷ 0xc33707d6 ∷ 0xf4d50d87 ∷ 0x455a14ed ∷
    0xa9e3e905 ∷ 0xfcefa3f8 ∷ 0x676f02d9 ∷ 0x8d2a4c8a ∷
    0xfffa3942 ∷ 0x8771f681 ∷ 0x6d9d6122 ∷ 0xfde5380c ∷
    0xa4beea44 ∷ 0x4bdecfa9 ∷ 0xf6bb4b60 ∷ 0xbebfbc70 ∷
    0x289b7ec6 ∷ 0xeaa127fa ∷ 0xd4ef3085 ∷ 0x04881d05 ∷
    0xd9d4d039 ∷ 0xe6db99e5 ∷ 0x1fa27cf8 ∷ 0xc4ac5665 ∷
    0xf4292244 ∷ 0x432aff97 ∷ 0xab9423a7 ∷ 0xfc93a039 ∷
    0x655b59c3 ∷ 0x8f0ccc92 ∷ 0xffeff47d ∷ 0x85845dd1 ∷
    0x6fa87e4f ∷ 0xfe2ce6e0 ∷ 0xa3014314 ∷ 0x4e0811a1 ∷
    0xf7537e82 ∷ 0xbd3af235 ∷ 0x2ad7d2bb ∷ 0xeb86d391 ∷ []

-- RFC 1321, 3.4: T[i], counted from 1
unfoldable pub sine_of : ℕ → ℕ
sine_of i = slice_index sines (i - 1)

-- RFC 1321, 3.4: what the operation on a, b, c, d puts in a: b + ((a + F(b,c,d) + X[k] + T[i]) <<< s)
unfoldable pub operation_of : Auxiliary → ℕ → ℕ → ℕ → ℕ → ℕ → ℕ → ℕ → ℕ
operation_of f a b c d x s t = b ⊞ ((a ⊞ auxiliary_of f b c d ⊞ x ⊞ t) ⋘ s)

-- RFC 1321, 3.4: the operation on the registers A B C D, D A B C, C D A B or B C D A, the first of which it changes
module _ (f : Auxiliary) (x s t : ℕ) (r : State) where
  unfoldable pub on_abcd : State
  on_abcd = record { a = operation_of f r.a r.b r.c r.d x s t; b = r.b; c = r.c; d = r.d }

  unfoldable pub on_dabc : State
  on_dabc = record { a = r.a; b = r.b; c = r.c; d = operation_of f r.d r.a r.b r.c x s t }

  unfoldable pub on_cdab : State
  on_cdab = record { a = r.a; b = r.b; c = operation_of f r.c r.d r.a r.b x s t; d = r.d }

  unfoldable pub on_bcda : State
  on_bcda = record { a = r.a; b = operation_of f r.b r.c r.d r.a x s t; c = r.c; d = r.d }

-- RFC 1321, 3.4: an operation as the rounds list them, [ABCD k s i]
pub data Operation : Type 0 where
  ABCD : ℕ → ℕ → ℕ → Operation
  DABC : ℕ → ℕ → ℕ → Operation
  CDAB : ℕ → ℕ → ℕ → Operation
  BCDA : ℕ → ℕ → ℕ → Operation

-- RFC 1321, 3.4: [abcd k s i] on the words X of a block
unfoldable pub operate : Auxiliary → List ℕ → Operation → State → State
operate f x (ABCD k s i) r = on_abcd f (slice_index x k) s (sine_of i) r
operate f x (DABC k s i) r = on_dabc f (slice_index x k) s (sine_of i) r
operate f x (CDAB k s i) r = on_cdab f (slice_index x k) s (sine_of i) r
operate f x (BCDA k s i) r = on_bcda f (slice_index x k) s (sine_of i) r

-- RFC 1321, 3.4: round 1
unfoldable pub operations_f : List Operation
operations_f =
    ABCD 0 7 1 ∷ DABC 1 12 2 ∷ CDAB 2 17 3 ∷ BCDA 3 22 4 ∷
    ABCD 4 7 5 ∷ DABC 5 12 6 ∷ CDAB 6 17 7 ∷ BCDA 7 22 8 ∷
    ABCD 8 7 9 ∷ DABC 9 12 10 ∷ CDAB 10 17 11 ∷ BCDA 11 22 12 ∷
    ABCD 12 7 13 ∷ DABC 13 12 14 ∷ CDAB 14 17 15 ∷ BCDA 15 22 16 ∷ []

-- RFC 1321, 3.4: round 2
unfoldable pub operations_g : List Operation
operations_g =
    ABCD 1 5 17 ∷ DABC 6 9 18 ∷ CDAB 11 14 19 ∷ BCDA 0 20 20 ∷
    ABCD 5 5 21 ∷ DABC 10 9 22 ∷ CDAB 15 14 23 ∷ BCDA 4 20 24 ∷
    ABCD 9 5 25 ∷ DABC 14 9 26 ∷ CDAB 3 14 27 ∷ BCDA 8 20 28 ∷
    ABCD 13 5 29 ∷ DABC 2 9 30 ∷ CDAB 7 14 31 ∷ BCDA 12 20 32 ∷ []

-- RFC 1321, 3.4: round 3
unfoldable pub operations_h : List Operation
operations_h =
    ABCD 5 4 33 ∷ DABC 8 11 34 ∷ CDAB 11 16 35 ∷ BCDA 14 23 36 ∷
    ABCD 1 4 37 ∷ DABC 4 11 38 ∷ CDAB 7 16 39 ∷ BCDA 10 23 40 ∷
    ABCD 13 4 41 ∷ DABC 0 11 42 ∷ CDAB 3 16 43 ∷ BCDA 6 23 44 ∷
    ABCD 9 4 45 ∷ DABC 12 11 46 ∷ CDAB 15 16 47 ∷ BCDA 2 23 48 ∷ []

-- RFC 1321, 3.4: round 4
unfoldable pub operations_i : List Operation
operations_i =
    ABCD 0 6 49 ∷ DABC 7 10 50 ∷ CDAB 14 15 51 ∷ BCDA 5 21 52 ∷
    ABCD 12 6 53 ∷ DABC 3 10 54 ∷ CDAB 10 15 55 ∷ BCDA 1 21 56 ∷
    ABCD 8 6 57 ∷ DABC 15 10 58 ∷ CDAB 6 15 59 ∷ BCDA 13 21 60 ∷
    ABCD 4 6 61 ∷ DABC 11 10 62 ∷ CDAB 2 15 63 ∷ BCDA 9 21 64 ∷ []

-- RFC 1321, 3.4: the operations of a round, one after the other
unfoldable pub round_of : Auxiliary → List Operation → List ℕ → State → State
round_of f [] x r = r
round_of f (o ∷ os) x r = round_of f os x (operate f x o r)

-- RFC 1321, 3.4: the four rounds over the words of a block
unfoldable pub rounds_of : List ℕ → State → State
rounds_of x r = round_of I operations_i x (round_of H operations_h x (round_of G operations_g x (round_of F operations_f x r)))

-- RFC 1321, 3.4: the rounds of a block, and then each register increased by the value it had before
unfoldable pub block_of : List ℕ → State → State
block_of x r =
    let q = rounds_of x r in
    record { a = q.a ⊞ r.a; b = q.b ⊞ r.b; c = q.c ⊞ r.c; d = q.d ⊞ r.d }

-- RFC 1321, 3.4: the first n words of what starts at byte i
unfoldable pub words_at : List ℕ → ℕ → ℕ → List ℕ
words_at l i zero = []
words_at l i (suc n) = words_at l i n ++ (word_at l (i + 4 * n) ∷ [])

-- RFC 1321, 3.4: the first n blocks of 16 words, one after the other
unfoldable pub blocks_of : ℕ → List ℕ → State → State
blocks_of zero l r = r
blocks_of (suc n) l r = block_of (words_at l (64 * n) 16) (blocks_of n l r)

-- RFC 1321, 3.5: the registers A, B, C, D, each from its low-order byte
unfoldable pub digest_of : State → List ℕ
digest_of r = low_first 4 r.a ++ (low_first 4 r.b ++ (low_first 4 r.c ++ low_first 4 r.d))

-- RFC 1321, 3: the digest of a message from the state r that its first `done` bytes led to, and the bytes l after them
unfoldable pub md5_from : State → ℕ → List ℕ → List ℕ
md5_from r done l = digest_of (blocks_of (length (padded done l) / 64) (padded done l) r)

-- RFC 1321, 3: the digest of a message
unfoldable pub md5_of : List ℕ → List ℕ
md5_of l = md5_from start 0 l
