-- The first line of a text and the other lines, and the text from its lines.
use Rattle.std.proofs.Common.{◌≡◌, ℕ, zero, suc, ◌+◌, ◌<◌, ◌≤◌, Bool, true, false, cond, ◌⊎◌, inl, inr, List, [], ◌∷◌, ◌++◌, length, get_or, take, drop, map, eqb, refl, ap, ◌∙◌, arith}
use Rattle.std.specs.List.{All, onto_first, flat_map}
use Rattle.std.specs.Str.Lines.{strip_carriage_return}
use Rattle.std.proofs.lemmas.Bool.{eq-eqb, ne_eqb, eqb-true, eqb-false}
use Rattle.std.proofs.lemmas.List.{length-map}
use Rattle.std.proofs.lemmas.List.Elements.{All-nil, All-cons, All-head, All-tail}
use Rattle.text_lines.specs.Lines.{pieces_of, lines_of, with_line_feed, HasNoLineFeed, IsCutAtLineFeeds, LastIsNotEmpty}

-- a text with one more byte at the beginning
pieces_cons : (b : ℕ) (bs : List ℕ) (t : Bool) → eqb b 10 ≡ t → pieces_of (b ∷ bs) ≡ cond t ([] ∷ pieces_of bs) (onto_first b (pieces_of bs))
unfolding pieces_of
pieces_cons b bs t e = ap (λ c. cond c ([] ∷ pieces_of bs) (onto_first b (pieces_of bs))) e

pub pieces_nil : pieces_of [] ≡ []
unfolding pieces_of
pieces_nil = refl

-- the case in which the first line feed is at place k
pub pieces_at : (xs : List ℕ) (k : ℕ) → k < length xs → ((j : ℕ) → j < k → get_or xs j 0 ≡ 10 → ⊥) → get_or xs k 0 ≡ 10
    → pieces_of xs ≡ take k xs ∷ pieces_of (drop (suc k) xs)
pieces_at [] k l none here = absurd (omega arith)
pieces_at (b ∷ bs) zero l none here = pieces_cons b bs true (eq-eqb b 10 here)
pieces_at (b ∷ bs) (suc k) l none here =
    pieces_cons b bs false (ne_eqb b 10 (none 0 (omega arith)))
    ∙ ap (onto_first b) (pieces_at bs k (omega arith) (λ j h. none (suc j) (omega arith)) here)

-- a text without a line feed is a single piece
pub pieces_whole : (xs : List ℕ) → 0 < length xs → ((j : ℕ) → j < length xs → get_or xs j 0 ≡ 10 → ⊥) → pieces_of xs ≡ xs ∷ []
pieces_whole [] l none = absurd (omega arith)
pieces_whole (b ∷ []) l none = pieces_cons b [] false (ne_eqb b 10 (none 0 (omega arith))) ∙ ap (onto_first b) pieces_nil
pieces_whole (b ∷ c ∷ bs) l none =
    pieces_cons b (c ∷ bs) false (ne_eqb b 10 (none 0 (omega arith)))
    ∙ ap (onto_first b) (pieces_whole (c ∷ bs) (omega arith) (λ j h. none (suc j) (omega arith)))

length-onto_first-le : (b : ℕ) (ps : List (List ℕ)) → length (onto_first b ps) ≤ length ps + 1
length-onto_first-le b [] = omega arith
length-onto_first-le b (p ∷ ps) = omega arith

length-cond_pieces : (b : ℕ) (ps : List (List ℕ)) (t : Bool) → length (cond t ([] ∷ ps) (onto_first b ps)) ≤ length ps + 1
length-cond_pieces b ps true = omega arith
length-cond_pieces b ps false = length-onto_first-le b ps

pub length-pieces_of-le : (xs : List ℕ) → length (pieces_of xs) ≤ length xs
length-pieces_of-le [] = omega (arith, ap length pieces_nil)
length-pieces_of-le (b ∷ bs) =
    omega (arith, ap length (pieces_cons b bs (eqb b 10) refl), length-cond_pieces b (pieces_of bs) (eqb b 10), length-pieces_of-le bs)

pub length-lines_of-le : (xs : List ℕ) → length (lines_of xs) ≤ length xs
unfolding lines_of
length-lines_of-le xs = omega (arith, length-map (pieces_of xs) strip_carriage_return, length-pieces_of-le xs)

-- the lines from a first piece and the rest
pub lines_from_pieces : (xs p rest : List ℕ) → pieces_of xs ≡ p ∷ pieces_of rest → lines_of xs ≡ strip_carriage_return p ∷ lines_of rest
unfolding lines_of
lines_from_pieces xs p rest e = ap (map strip_carriage_return) e

pub lines_nil : lines_of [] ≡ []
unfolding lines_of
lines_nil = ap (map strip_carriage_return) pieces_nil

-- the joined pieces of a text are the text, except for a last line feed
abbrev Joins : List ℕ → List (List ℕ) → Type 0
Joins xs ps = (flat_map with_line_feed ps ≡ xs) ⊎ ((flat_map with_line_feed ps ≡ xs ++ 10 ∷ []) × LastIsNotEmpty ps)

longer : (b : ℕ) (p : List ℕ) (ps : List (List ℕ)) → LastIsNotEmpty (p ∷ ps) → LastIsNotEmpty ((b ∷ p) ∷ ps)
longer b p [] h = omega arith
longer b p (q ∷ ps) h = h

joins_more : (b : ℕ) (bs : List ℕ) (ps : List (List ℕ)) → Joins bs ps → Joins (b ∷ bs) (onto_first b ps)
joins_more b [] [] h = inr (refl, omega arith)
joins_more b (c ∷ bs) [] (inl e) = absurd (cc)
joins_more b (c ∷ bs) [] (inr (e, last)) = absurd (cc)
joins_more b bs (p ∷ ps) (inl e) = inl (ap (λ l. b ∷ l) e)
joins_more b bs (p ∷ ps) (inr (e, last)) = inr (ap (λ l. b ∷ l) e, longer b p ps last)

pub nil_feed : (xs : List ℕ) → [] ≡ xs ++ 10 ∷ [] → ⊥
nil_feed [] e = cc
nil_feed (x ∷ xs) e = cc

joins_feed : (bs : List ℕ) (ps : List (List ℕ)) → Joins bs ps → Joins (10 ∷ bs) ([] ∷ ps)
joins_feed bs ps (inl e) = inl (ap (λ l. 10 ∷ l) e)
joins_feed bs [] (inr (e, last)) = absurd (nil_feed bs e)
joins_feed bs (p ∷ ps) (inr (e, last)) = inr (ap (λ l. 10 ∷ l) e, last)

no_feed_more : (b : ℕ) (p : List ℕ) → eqb b 10 ≡ false → HasNoLineFeed p → HasNoLineFeed (b ∷ p)
no_feed_more b p e h (zero, l, here) = eqb-false b 10 e here
no_feed_more b p e h (suc k, l, here) = h (k, omega arith, here)

no_feed_nil : HasNoLineFeed []
no_feed_nil (k, l, here) = omega arith

no_feeds_more : (b : ℕ) (ps : List (List ℕ)) → eqb b 10 ≡ false → All HasNoLineFeed ps → All HasNoLineFeed (onto_first b ps)
no_feeds_more b [] e h = All-cons HasNoLineFeed (b ∷ []) [] (no_feed_more b [] e no_feed_nil) (All-nil HasNoLineFeed)
no_feeds_more b (p ∷ ps) e h =
    All-cons HasNoLineFeed (b ∷ p) ps (no_feed_more b p e (All-head HasNoLineFeed p ps h)) (All-tail HasNoLineFeed p ps h)

cut_step : (b : ℕ) (bs : List ℕ) (ps : List (List ℕ)) (t : Bool) → eqb b 10 ≡ t → All HasNoLineFeed ps × Joins bs ps
    → All HasNoLineFeed (cond t ([] ∷ ps) (onto_first b ps)) × Joins (b ∷ bs) (cond t ([] ∷ ps) (onto_first b ps))
cut_step b bs ps true e h =
    (All-cons HasNoLineFeed [] ps no_feed_nil h.0, let here : b ≡ 10 = eqb-true b 10 e in rw here (joins_feed bs ps h.1))
cut_step b bs ps false e h = (no_feeds_more b ps e h.0, joins_more b bs ps h.1)

pub pieces_are_cut : (text : List ℕ) → IsCutAtLineFeeds text (pieces_of text)
unfolding pieces_of
pieces_are_cut [] = (All-nil HasNoLineFeed, inl refl)
pieces_are_cut (b ∷ bs) = cut_step b bs (pieces_of bs) (eqb b 10) refl (pieces_are_cut bs)
