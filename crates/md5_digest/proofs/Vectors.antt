-- Vectors of RFC 1321, appendix A.5, by computation.
use Rattle.std.proofs.Common.{◌≡◌, ℕ, List, [], ◌∷◌, map, refl}
use Rattle.md5_digest.specs.Md5.{auxiliary_of, operation_of, on_abcd, on_dabc, on_cdab, on_bcda, operate, operations_f, operations_g, operations_h, operations_i, round_of, rounds_of, block_of, word_at, words_at, blocks_of, low_first, padding, padded, digest_of, sine_of, start, md5_from, md5_of, ◌⋘◌}

-- "", "a" and "abc", and their digests
abbrev pub messages : List (List ℕ)
messages = [] ∷ (0x61 ∷ []) ∷ (0x61 ∷ 0x62 ∷ 0x63 ∷ []) ∷ []

abbrev pub digests : List (List ℕ)
digests =
    (0xd4 ∷ 0x1d ∷ 0x8c ∷ 0xd9 ∷ 0x8f ∷ 0x00 ∷ 0xb2 ∷ 0x04 ∷ 0xe9 ∷ 0x80 ∷ 0x09 ∷ 0x98 ∷ 0xec ∷ 0xf8 ∷ 0x42 ∷ 0x7e ∷ []) ∷
    (0x0c ∷ 0xc1 ∷ 0x75 ∷ 0xb9 ∷ 0xc0 ∷ 0xf1 ∷ 0xb6 ∷ 0xa8 ∷ 0x31 ∷ 0xc3 ∷ 0x99 ∷ 0xe2 ∷ 0x69 ∷ 0x77 ∷ 0x26 ∷ 0x61 ∷ []) ∷
    (0x90 ∷ 0x01 ∷ 0x50 ∷ 0x98 ∷ 0x3c ∷ 0xd2 ∷ 0x4f ∷ 0xb0 ∷ 0xd6 ∷ 0x96 ∷ 0x3f ∷ 0x7d ∷ 0x28 ∷ 0xe1 ∷ 0x7f ∷ 0x72 ∷ []) ∷ []

-- MD5 of the messages
pub vectors : map md5_of messages ≡ digests
unfolding auxiliary_of operation_of on_abcd on_dabc on_cdab on_bcda operate operations_f operations_g operations_h operations_i round_of rounds_of block_of word_at words_at blocks_of low_first padding padded digest_of sine_of start md5_from md5_of ◌⋘◌
vectors = refl
