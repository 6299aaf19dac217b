-- A written text reads back as the routes and the cost that were written.
use Rattle.std.proofs.Common.{◌≡◌, ℕ, ◌+◌, ◌-◌, ◌≤◌, ◌<◌, ◌^◌, Bool, true, false, not, cond, eqb, List, [], ◌∷◌, ◌++◌, length, get_or, map, Some, None, Ok, inl, inr, refl, sym, ap, ◌∙◌, arith}
use Rattle.std.specs.Prelude.{codes, nat_le, ◌↔◌}
use Rattle.std.specs.Char.{is_ascii_digit}
use Rattle.std.specs.Fmt.{decimal}
use Rattle.std.specs.List.{AllByRecursion, list_all, concat}
use Rattle.std.specs.Str.Lines.{strip_carriage_return}
use Rattle.std.proofs.lemmas.Bool.{and_parts, and_from, leb-true, le-leb, ne_eqb, lt-ltb}
use Rattle.std.proofs.lemmas.List.{append-nil, append_assoc, get_or_default, length-append}
use Rattle.std.proofs.lemmas.List.Sums.{AllPass-from_list_all}
use Rattle.text_lines.specs.Lines.{LinesEndAtFeeds, HasNoLineFeed, lines_of}
use Rattle.text_lines.specs.Words.{EndsWord, ConsistsOfWords, IsWord, is_blank, is_blank_line, words_of}
use Rattle.text_lines.specs.Numbers.{DecimalsParseBack, is_digits}
use Rattle.text_lines.proofs.PrefixLemmas.{digit_no_blank}
use Rattle.sol_text.specs.LineShapes.{route_tail, cost_word}
use Rattle.sol_text.specs.Values.{customer_of, cost_of}
use Rattle.sol_text.specs.Reading.{customers_of, line_of, prepend_line, reading, solution_of, with_routes}
use Rattle.sol_text.specs.Laws.{begins_with_colon}
use Rattle.sol_text.proofs.ShapeLemmas.{all_digits, cost_word_from_line, route_tail_from_line}
use Rattle.route_sched.specs.Cost.{used_routes}
use Rattle.sol_text.specs.Written.{customers_text, route_text, routes_text, cost_text, solution_text}
use Rattle.sol_text.specs.declared.lines.Line.TheVariants.{Route, Cost}

-- ---- bytes that do not end a line
printable : ℕ → Bool
printable b = nat_le 32 b

abbrev Printable : List ℕ → Type 0
Printable xs = list_all printable xs ≡ true

printable-append : (xs ys : List ℕ) → Printable xs → Printable ys → Printable (xs ++ ys)
printable-append [] ys p q = q
printable-append (x ∷ xs) ys p q =
    let parts = and_parts (printable x) (list_all printable xs) p in
    and_from (printable x) (list_all printable (xs ++ ys)) parts.0 (printable-append xs ys parts.1 q)

digit_printable : (b : ℕ) → is_ascii_digit b ≡ true → printable b ≡ true
unfolding printable
digit_printable b is = le-leb 32 b (omega (arith, leb-true 48 b (and_parts (nat_le 48 b) (nat_le b 57) is).0))

digits_printable : (xs : List ℕ) → list_all is_ascii_digit xs ≡ true → Printable xs
digits_printable [] is = refl
digits_printable (x ∷ xs) is =
    let parts = and_parts (is_ascii_digit x) (list_all is_ascii_digit xs) is in
    and_from (printable x) (list_all printable xs) (digit_printable x parts.0) (digits_printable xs parts.1)

-- a line of printable bytes is not changed by reading
printable_at : (xs : List ℕ) (j b : ℕ) → Printable xs → j < length xs → get_or xs j 0 ≡ b → 32 ≤ b
unfolding printable
printable_at xs j b p h is = omega (arith, leb-true 32 (get_or xs j 0) (AllPass-from_list_all printable xs p j 0 h), is)

no_feed : (line : List ℕ) → Printable line → HasNoLineFeed line
no_feed line p (j, h, here) = absurd (omega (arith, printable_at line j 10 p h (get_or_default line j 0 10 h ∙ here)))

whole_line : (line : List ℕ) → Printable line → strip_carriage_return line ≡ line
whole_line [] p = refl
whole_line (x ∷ xs) p =
    let no_return : eqb (get_or (x ∷ xs) (length (x ∷ xs) - 1) 0) 13 ≡ false =
    ne_eqb (get_or (x ∷ xs) (length (x ∷ xs) - 1) 0) 13 (λ e. absurd (omega (arith, printable_at (x ∷ xs) (length (x ∷ xs) - 1) 13 p (omega arith) e))) in
    rw no_return refl

-- ---- words
-- a word of digits has no blank
digits_apart : (ds : List ℕ) → list_all is_ascii_digit ds ≡ true → AllByRecursion (λ b. is_blank b ≡ false) ds
digits_apart [] is = tt
digits_apart (d ∷ ds) is = let parts = and_parts (is_ascii_digit d) (list_all is_ascii_digit ds) is in (digit_no_blank d parts.0, digits_apart ds parts.1)

digits_are_word : (ds : List ℕ) → is_digits ds ≡ true → IsWord ds
digits_are_word ds is = let all = all_digits ds is in (all.0, digits_apart ds all.1)

no_colon : (ds : List ℕ) → is_digits ds ≡ true → begins_with_colon ds ≡ false
unfolding is_digits
no_colon [] is = refl
no_colon (d ∷ ds) is =
    let range = leb-true d 57 (and_parts (nat_le 48 d) (nat_le d 57) (and_parts (is_ascii_digit d) (list_all is_ascii_digit ds) is).0).1 in
    ne_eqb d 58 (λ e. absurd (omega (arith, range, e)))

-- after a customer comes a blank or nothing
customers_end : (route : List ℕ) → EndsWord (customers_text route)
customers_end [] = tt
customers_end (n ∷ route) = refl

route_shown : (number : ℕ) (route : List ℕ) → is_blank_line (route_text number route) ≡ false
unfolding route_text
route_shown number route = refl

cost_shown : (cost : ℕ) → is_blank_line (cost_text cost) ≡ false
unfolding cost_text
cost_shown cost = refl

no_route : (cost : ℕ) → route_tail (cost_text cost) ≡ None
unfolding route_tail cost_text
no_route cost = refl

abbrev pub AreSmall : List (List ℕ) → Type 0
AreSmall routes = AllByRecursion (λ route. AllByRecursion (λ n. n < 2 ^ 32) route) routes

-- ---- the numbers of a plan
part_small : (xs ys : List ℕ) → AllByRecursion (λ n. n ≤ 40000) (xs ++ ys) → AllByRecursion (λ n. n < 2 ^ 32) xs × AllByRecursion (λ n. n ≤ 40000) ys
part_small [] ys all = (tt, all)
part_small (x ∷ xs) ys all = let parts = part_small xs ys all.1 in ((omega (arith, all.0), parts.0), parts.1)

pub used_small : (routes : List (List ℕ)) → AllByRecursion (λ n. n ≤ 40000) (concat routes) → AreSmall (used_routes routes)
used_small [] all = tt
used_small (route ∷ routes) all =
    let parts = part_small route (concat routes) all in one (not (eqb (length route) 0)) parts.0 (used_small routes parts.1)
  where
    one : (b : Bool) → AllByRecursion (λ n. n < 2 ^ 32) route → AreSmall (used_routes routes)
        → AreSmall (cond b (route ∷ used_routes routes) (used_routes routes))
    one true small rest = (small, rest)
    one false small rest = rest

-- the line of each route has at least one byte
length-routes_text : (number : ℕ) (routes : List (List ℕ)) → length routes ≤ length (routes_text number routes)
length-routes_text number [] = omega arith
length-routes_text number (route ∷ routes) =
    omega (arith, length-append (route_text number route) (10 ∷ routes_text (number + 1) routes), length-routes_text (number + 1) routes)

pub length-solution_text : (routes : List (List ℕ)) (cost : ℕ) → 1 + length routes ≤ length (solution_text routes cost)
length-solution_text routes cost =
    omega (arith, length-append (routes_text 1 routes) (cost_text cost ++ 10 ∷ []), length-append (cost_text cost) (10 ∷ []), length-routes_text 1 routes)

-- the reading of texts that are put together from lines, words and numbers
module _ (ended : LinesEndAtFeeds) (made_of : (line : List ℕ) (words : List (List ℕ)) → (words_of line ≡ words) ↔ ConsistsOfWords line words) (read : DecimalsParseBack) where
  line_ends : (line rest : List ℕ) → Printable line → lines_of (line ++ 10 ∷ rest) ≡ line ∷ lines_of rest
  line_ends line rest p =
      ended line rest (no_feed line p) ∙ ap (λ l. l ∷ lines_of rest) (whole_line line p)

  -- ---- numbers
  decimal_digits : (n : ℕ) → n < 2 ^ 64 → list_all is_ascii_digit (decimal n) ≡ true
  decimal_digits n small = (all_digits (decimal n) (read n small).0).1

  -- ---- a route line
  route_tail-written : (number : ℕ) (route : List ℕ) → number < 2 ^ 64 → route_tail (route_text number route) ≡ Some (customers_text route)
  unfolding route_text
  route_tail-written number route small =
      route_tail_from_line (route_text number route) (customers_text route) (record {
        key = codes "Route";
        before_mark = 32 ∷ [];
        mark = 35 ∷ [];
        before_number = [];
        number = decimal number;
        before_colon = [];
        whole = refl;
        is_key = refl;
        blank_mark = refl;
        is_mark = inr refl;
        blank_number = refl;
        is_number = (read number small).0;
        blank_colon = refl;
      })

  words-written : (route : List ℕ) → AllByRecursion (λ n. n < 2 ^ 32) route → words_of (customers_text route) ≡ map decimal route
  words-written route small = (made_of (customers_text route) (map decimal route)).1 (made route small)
    where
      made : (route : List ℕ) → AllByRecursion (λ n. n < 2 ^ 32) route → ConsistsOfWords (customers_text route) (map decimal route)
      made [] small = refl
      made (n ∷ route) small =
          (32 ∷ [], customers_text route, refl, refl, digits_are_word (decimal n) (read n (omega (arith, small.0))).0, customers_end route, made route small.1)

  customer-written : (n : ℕ) → n < 2 ^ 32 → customer_of (decimal n) ≡ Some n
  unfolding customer_of
  customer-written n small = rw ((read n (omega (arith, small))).1, lt-ltb n (2 ^ 32) small) refl

  customers-written : (route : List ℕ) → AllByRecursion (λ n. n < 2 ^ 32) route → customers_of (map decimal route) ≡ Some route
  customers-written [] small = refl
  customers-written (n ∷ route) small = rw (customer-written n small.0, customers-written route small.1) refl

  line_of-route : (k number : ℕ) (route : List ℕ) → number < 2 ^ 64 → AllByRecursion (λ n. n < 2 ^ 32) route
      → line_of false k (route_text number route) ≡ Ok (Route route)
  unfolding line_of
  line_of-route k number route fits small =
      rw (route_shown number route, route_tail-written number route fits, words-written route small, customers-written route small) refl

  -- ---- a cost line
  cost_word-written : (cost : ℕ) → cost < 2 ^ 64 → cost_word (cost_text cost) ≡ Some (decimal cost)
  unfolding cost_text
  cost_word-written cost fits =
      let digits = (read cost fits).0 in
      cost_word_from_line made_of (cost_text cost) (decimal cost) (record {
        key = codes "Cost";
        before_colon = 32 ∷ [];
        colon = [];
        before_word = [];
        following = [];
        whole = ap (λ ds. codes "Cost " ++ ds) (sym (append-nil (decimal cost)));
        is_key = refl;
        blank_colon = refl;
        is_colon = inl refl;
        separated = omega arith;
        blank_word = refl;
        is_word = digits_are_word (decimal cost) digits;
        bare = λ _. no_colon (decimal cost) digits;
        blank_after = refl;
      })

  cost-written : (cost : ℕ) → cost < 2 ^ 64 → cost_of (decimal cost) ≡ Some cost
  unfolding cost_of
  cost-written cost fits = rw ((read cost fits).2, lt-ltb cost (2 ^ 64) fits) refl

  line_of-cost : (k cost : ℕ) → cost < 2 ^ 64 → line_of false k (cost_text cost) ≡ Ok (Cost (Ok cost))
  unfolding line_of
  line_of-cost k cost fits = rw (cost_shown cost, no_route cost, cost_word-written cost fits, cost-written cost fits) refl

  -- ---- the lines
  decimal_printable : (n : ℕ) → n < 2 ^ 64 → Printable (decimal n)
  decimal_printable n fits = digits_printable (decimal n) (decimal_digits n fits)

  customers_printable : (route : List ℕ) → AllByRecursion (λ n. n < 2 ^ 32) route → Printable (customers_text route)
  unfolding printable
  customers_printable [] small = refl
  customers_printable (n ∷ route) small =
      printable-append (32 ∷ decimal n) (customers_text route) (space (decimal n) (decimal_printable n (omega (arith, small.0))))
      (customers_printable route small.1)
    where
      space : (xs : List ℕ) → Printable xs → Printable (32 ∷ xs)
      space xs p = and_from (printable 32) (list_all printable xs) (le-leb 32 32 (omega arith)) p

  route_printable : (number : ℕ) (route : List ℕ) → number < 2 ^ 64 → AllByRecursion (λ n. n < 2 ^ 32) route → Printable (route_text number route)
  unfolding route_text printable
  route_printable number route fits small =
      printable-append (codes "Route #") (decimal number ++ (58 ∷ customers_text route)) refl
      (printable-append (decimal number) (58 ∷ customers_text route) (decimal_printable number fits)
      (printable-append (58 ∷ []) (customers_text route) refl (customers_printable route small)))

  cost_printable : (cost : ℕ) → cost < 2 ^ 64 → Printable (cost_text cost)
  unfolding cost_text printable
  cost_printable cost fits = printable-append (codes "Cost ") (decimal cost) refl (decimal_printable cost fits)

  -- the text of some routes and a cost reads back as these routes and this cost
  reading-written : (k number : ℕ) (routes : List (List ℕ)) (cost : ℕ) → number + length routes < 2 ^ 64 → AreSmall routes → cost < 2 ^ 64
      → reading false k (lines_of (routes_text number routes ++ (cost_text cost ++ 10 ∷ []))) ≡ Ok (record { routes = routes; cost = Ok cost })
  unfolding reading
  reading-written k number [] cost few small fits =
      ap (λ ls. reading false k ls) (line_ends (cost_text cost) [] (cost_printable cost fits))
      ∙ ap (λ l. prepend_line l false (λ still. reading still (k + 1) (lines_of []))) (line_of-cost (k + 1) cost fits)
  reading-written k number (route ∷ routes) cost few small fits =
      let later = routes_text (number + 1) routes ++ (cost_text cost ++ 10 ∷ []) in
      let small_number : number < 2 ^ 64 = omega arith in
      ap (λ t. reading false k (lines_of t)) (append_assoc (route_text number route) (10 ∷ routes_text (number + 1) routes) (cost_text cost ++ 10 ∷ []))
      ∙ (ap (λ ls. reading false k ls) (line_ends (route_text number route) later (route_printable number route small_number small.0))
      ∙ (ap (λ l. prepend_line l false (λ still. reading still (k + 1) (lines_of later))) (line_of-route (k + 1) number route small_number small.0)
      ∙ ap (λ r. with_routes (route ∷ []) r) (reading-written (k + 1) (number + 1) routes cost (omega arith) small.1 fits)))

  pub reads_back : (routes : List (List ℕ)) (cost : ℕ) → 1 + length routes < 2 ^ 64 → AreSmall routes → cost < 2 ^ 64
      → solution_of (reading false 0 (lines_of (solution_text routes cost))) ≡ Ok (record { routes = routes; cost = cost })
  reads_back routes cost few small fits = ap solution_of (reading-written 0 1 routes cost few small fits)
