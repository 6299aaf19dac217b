-- The block function of the RFC equals that of rand_chacha's contracts.
use Rattle.std.proofs.Common.{◌≡◌, ℕ, zero, suc, ◌<◌, ◌%◌, ◌/◌, ◌^◌, List, [], ◌∷◌, ◌++◌, refl, sym, ap, ◌∙◌, length, get_or, arith}
use Rattle.std.specs.Prelude.{slice_index}
use Rattle.std.proofs.lemmas.Nat.{mod_below}
use Rattle.seeded_search.specs.ChaCha20.{add, quarter_round, quarter_round_at, inner_block, inner_blocks, add_states, constants, chacha20_block, words_of_bytes}
use Rattle.seeded_search.specs.Words.{key_bytes, block, word}
use Rattle.rand_core.specs.Steps.{u32_at}
use Rattle.rand_chacha.specs.Block as kit
use Rattle.rand_chacha.specs.ChaCha.{key_of, word_at}

-- sixteen words, written out
abbrev sixteen : List ℕ → List ℕ
sixteen x =
    slice_index x 0 ∷ slice_index x 1 ∷ slice_index x 2 ∷ slice_index x 3 ∷ slice_index x 4 ∷ slice_index x 5 ∷ slice_index x 6 ∷ slice_index x 7
    ∷ slice_index x 8 ∷ slice_index x 9 ∷ slice_index x 10 ∷ slice_index x 11 ∷ slice_index x 12 ∷ slice_index x 13 ∷ slice_index x 14 ∷ slice_index x 15 ∷ []

-- a column round and a diagonal round, once by the indices of each quarter round and once row by row
one_double_round : (x : List ℕ) → inner_block (sixteen x) ≡ kit.diagonal_round (kit.column_round (sixteen x))
unfolding inner_block quarter_round_at quarter_round kit.quarter_round kit.column_round kit.diagonal_round
one_double_round x = refl

module _ (state : List ℕ) (whole : state ≡ sixteen state) where
  rounds_whole : (n : ℕ) → kit.double_rounds n state ≡ sixteen (kit.double_rounds n state)
  unfolding kit.double_rounds kit.diagonal_round
  rounds_whole zero = whole
  rounds_whole (suc n) = refl

  rounds_same : (n : ℕ) → inner_blocks n state ≡ kit.double_rounds n state
  unfolding inner_blocks kit.double_rounds
  rounds_same zero = refl
  rounds_same (suc n) =
      ap inner_block (rounds_same n ∙ rounds_whole n) ∙ one_double_round (kit.double_rounds n state)
      ∙ ap (λ x. kit.diagonal_round (kit.column_round x)) (sym (rounds_whole n))

get_or-add_states : (xs ys : List ℕ) (k : ℕ) → k < length xs → k < length ys → get_or (add_states xs ys) k 0 ≡ add (get_or xs k 0) (get_or ys k 0)
unfolding add_states
get_or-add_states [] ys k p q = absurd (omega arith)
get_or-add_states (x ∷ xs) [] k p q = absurd (omega arith)
get_or-add_states (x ∷ xs) (y ∷ ys) zero p q = refl
get_or-add_states (x ∷ xs) (y ∷ ys) (suc k) p q = get_or-add_states xs ys k (omega arith) (omega arith)

length-add_states : (xs ys : List ℕ) → length xs ≡ length ys → length (add_states xs ys) ≡ length xs
unfolding add_states
length-add_states [] ys e = refl
length-add_states (x ∷ xs) [] e = absurd (omega arith)
length-add_states (x ∷ xs) (y ∷ ys) e = ap suc (length-add_states xs ys (omega arith))

-- the initial state of a block of a seed's key stream
start : ℕ → ℕ → List ℕ
start seed b = kit.initial_state (key_of (key_bytes seed)) b 0

start_same : (seed b : ℕ) → constants ++ words_of_bytes (key_bytes seed) ++ (b % 2 ^ 32) ∷ (b / 2 ^ 32) ∷ 0 ∷ 0 ∷ [] ≡ start seed b
unfolding start words_of_bytes u32_at
start_same seed b = refl

start_whole : (seed b : ℕ) → start seed b ≡ sixteen (start seed b)
unfolding start
start_whole seed b = refl

block_same : (seed b : ℕ) → block seed b ≡ add_states (kit.double_rounds 10 (start seed b)) (start seed b)
unfolding block chacha20_block
block_same seed b =
    ap (λ x. add_states (inner_blocks 10 x) x) (start_same seed b) ∙ ap (λ y. add_states y (start seed b)) (rounds_same (start seed b) (start_whole seed b) 10)

length_rounds : (seed b n : ℕ) → length (kit.double_rounds n (start seed b)) ≡ 16
length_rounds seed b n = ap length (rounds_whole (start seed b) (start_whole seed b) n)

length_start : (seed b : ℕ) → length (start seed b) ≡ 16
length_start seed b = ap length (start_whole seed b)

pub length-block : (seed b : ℕ) → length (block seed b) ≡ 16
length-block seed b =
    ap length (block_same seed b) ∙ length-add_states _ _ (length_rounds seed b 10 ∙ sym (length_start seed b)) ∙ length_rounds seed b 10

-- the word at place p of a seed's key stream is the one by rand_chacha's contracts
pub word_same : (seed p : ℕ) → word seed p ≡ word_at 10 (key_of (key_bytes seed)) 0 p
unfolding word start kit.block_word
word_same seed p =
    let k : p % 16 < 16 = mod_below p 16 (omega arith) in
    ap (λ x. slice_index x (p % 16)) (block_same seed (p / 16))
    ∙ get_or-add_states _ _ (p % 16) (omega (arith, length_rounds seed (p / 16) 10)) (omega (arith, length_start seed (p / 16)))
