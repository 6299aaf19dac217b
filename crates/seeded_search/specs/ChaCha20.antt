-- ChaCha20's block function, line by line as in sections 2.1 to 2.3 of RFC 8439. A word is a number below 2 ^
-- 32, a state a list of sixteen words.
use Rattle.std.specs.Prelude.{ℕ, zero, suc, ◌+◌, ◌*◌, ◌%◌, ◌^◌, List, [], ◌∷◌, ◌++◌, bit_xor, slice_index, slice_set}
use Rattle.std.specs.Int.{w32, rotate_left}

-- x += y, without the carry
abbrev pub add : ℕ → ℕ → ℕ
add x y = (x + y) % 2 ^ 32

-- x ^= y; x <<<= n
abbrev pub xor_rotate : ℕ → ℕ → ℕ → ℕ
xor_rotate x y n = rotate_left w32 (bit_xor x y) n

-- the quarter round (2.1)
unfoldable pub quarter_round : ℕ → ℕ → ℕ → ℕ → ℕ × ℕ × ℕ × ℕ
quarter_round a b c d =
    let a = add a b in let d = xor_rotate d a 16 in
    let c = add c d in let b = xor_rotate b c 12 in
    let a = add a b in let d = xor_rotate d a 8 in
    let c = add c d in let b = xor_rotate b c 7 in
    (a, b, c, d)

-- QUARTERROUND(x, y, z, w): the quarter round on the words with these indices (2.2)
unfoldable pub quarter_round_at : ℕ → ℕ → ℕ → ℕ → List ℕ → List ℕ
quarter_round_at x y z w state =
    let q = quarter_round (slice_index state x) (slice_index state y) (slice_index state z) (slice_index state w) in
    slice_set (slice_set (slice_set (slice_set state x q.0) y q.1) z q.2) w q.3

-- `inner_block`: a round on the columns and a round on the diagonals (2.3.1)
unfoldable pub inner_block : List ℕ → List ℕ
inner_block state =
    let state = quarter_round_at 0 4 8 12 state in
    let state = quarter_round_at 1 5 9 13 state in
    let state = quarter_round_at 2 6 10 14 state in
    let state = quarter_round_at 3 7 11 15 state in
    let state = quarter_round_at 0 5 10 15 state in
    let state = quarter_round_at 1 6 11 12 state in
    let state = quarter_round_at 2 7 8 13 state in
    quarter_round_at 3 4 9 14 state

-- n inner blocks, one after another
unfoldable pub inner_blocks : ℕ → List ℕ → List ℕ
inner_blocks zero state = state
inner_blocks (suc n) state = inner_block (inner_blocks n state)

-- state += initial_state, word by word
unfoldable pub add_states : List ℕ → List ℕ → List ℕ
add_states (x ∷ xs) (y ∷ ys) = add x y ∷ add_states xs ys
add_states _ _ = []

-- the state's first four words (2.3)
abbrev pub constants : List ℕ
constants = 0x61707865 ∷ 0x3320646e ∷ 0x79622d32 ∷ 0x6b206574 ∷ []

-- `chacha20_block`: the block of a key of eight words, a counter of one word and a nonce of three words (2.3.1). The
-- result is the state; the RFC writes it as bytes, each word with its low byte first
unfoldable pub chacha20_block : List ℕ → ℕ → List ℕ → List ℕ
chacha20_block key counter nonce =
    let initial_state = constants ++ key ++ counter ∷ nonce in
    add_states (inner_blocks 10 initial_state) initial_state

-- bytes read as words, four bytes each, the low byte first (2.3)
unfoldable pub words_of_bytes : List ℕ → List ℕ
words_of_bytes (a ∷ b ∷ c ∷ d ∷ bytes) = (a + b * 2 ^ 8 + c * 2 ^ 16 + d * 2 ^ 24) ∷ words_of_bytes bytes
words_of_bytes _ = []
