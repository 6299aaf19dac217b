-- Published test vectors, computed by the definitions.
use Rattle.std.proofs.Common.{◌≡◌, ◌+◌, ◌^◌, [], ◌∷◌, refl}
use Rattle.seeded_search.specs.ChaCha20.{quarter_round, quarter_round_at, inner_block, inner_blocks, add_states, chacha20_block, words_of_bytes}
use Rattle.seeded_search.specs.Words.{block, word, step_words, pick}

-- RFC 8439, 2.1.1
quarter_round_vector : quarter_round 0x11111111 0x01020304 0x9b8d6f43 0x01234567 ≡ (0xea2a92f4, 0xcb1cf8ce, 0x4581472e, 0x5881c4bb)
unfolding quarter_round
quarter_round_vector = refl

-- RFC 8439, 2.3.2: the key bytes 0 to 31, counter 1, a nonce
block_vector : chacha20_block
    (0x03020100 ∷ 0x07060504 ∷ 0x0b0a0908 ∷ 0x0f0e0d0c ∷ 0x13121110 ∷ 0x17161514 ∷ 0x1b1a1918 ∷ 0x1f1e1d1c ∷ []) 1 (0x09000000 ∷ 0x4a000000 ∷ 0 ∷ [])
    ≡ 0xe4e7f110 ∷ 0x15593bd1 ∷ 0x1fdd0f50 ∷ 0xc47120a3 ∷ 0xc7f4d1c7 ∷ 0x0368c033 ∷ 0x9aaa2204 ∷ 0x4e6cd4c3
    ∷ 0x466482d2 ∷ 0x09aa9f07 ∷ 0x05d7c214 ∷ 0xa2028bd9 ∷ 0xd19c12b5 ∷ 0xb94e16de ∷ 0xe883d0cb ∷ 0x4e3c50a2 ∷ []
unfolding quarter_round quarter_round_at inner_block inner_blocks add_states chacha20_block
block_vector = refl

-- RFC 8439, A.1, test vectors 1 and 2: the zero key and nonce, counters 0 and 1
step_0 : step_words 0 0
    ≡ 0xade0b876 ∷ 0x903df1a0 ∷ 0xe56a5d40 ∷ 0x28bd8653 ∷ 0xb819d2bd ∷ 0x1aed8da0 ∷ 0xccef36a8 ∷ 0xc70d778b
    ∷ 0x7c5941da ∷ 0x8d485751 ∷ 0x3fe02477 ∷ 0x374ad8b8 ∷ 0xf4b8436a ∷ 0x1ca11815 ∷ 0x69b687c3 ∷ 0x8665eeb2 ∷ []
unfolding quarter_round quarter_round_at inner_block inner_blocks add_states chacha20_block words_of_bytes block word step_words
step_0 = refl

step_1 : step_words 0 1
    ≡ 0xbee7079f ∷ 0x7a385155 ∷ 0x7c97ba98 ∷ 0x0d082d73 ∷ 0xa0290fcb ∷ 0x6965e348 ∷ 0x3e53c612 ∷ 0xed7aee32
    ∷ 0x7621b729 ∷ 0x434ee69c ∷ 0xb03371d5 ∷ 0xd539d874 ∷ 0x281fed31 ∷ 0x45fb0a51 ∷ 0x1f0ae1ac ∷ 0x6f4d794b ∷ []
unfolding quarter_round quarter_round_at inner_block inner_blocks add_states chacha20_block words_of_bytes block word step_words
step_1 = refl

-- a block whose number has a high half, of a seed with eight different bytes. The words are those of ChaCha20 in
-- Python's package `cryptography`, whose nonce of 16 bytes begins with the block's number in 8 bytes
late_step : step_words 0x0123456789abcdef (2 ^ 32 + 5)
    ≡ 0x7442b8f8 ∷ 0x5ba394b1 ∷ 0x16838905 ∷ 0xc8db901a ∷ 0x3ff31e08 ∷ 0xf15737d0 ∷ 0x4ac058d2 ∷ 0xfff8b785
    ∷ 0x5255bc22 ∷ 0x7ccab750 ∷ 0xa7937aa5 ∷ 0x0f68ee0f ∷ 0x183cfe51 ∷ 0xab6ab535 ∷ 0x280ed136 ∷ 0x2a1386be ∷ []
unfolding quarter_round quarter_round_at inner_block inner_blocks add_states chacha20_block words_of_bytes block word step_words
late_step = refl

-- the numbers that the first five words of seed 0 pick
picks : pick 0xade0b876 4 ∷ pick 0x903df1a0 3 ∷ pick 0xe56a5d40 3 ∷ pick 0x28bd8653 3 ∷ pick 0xb819d2bd 2 ∷ [] ≡ 2 ∷ 1 ∷ 2 ∷ 0 ∷ 1 ∷ []
picks = refl
