-- One step of each loop that checks or writes.
use Rattle.std.proofs.Common.{◌≡◌, ℕ, zero, suc, ◌+◌, ◌-◌, ◌<◌, Bool, true, false, ◌&&◌, List, [], ◌∷◌, ◌++◌, drop, map, slice_get, Option, Some, None, refl, sym, ap, ◌∙◌, arith, append_assoc}
use Rattle.std.specs.List.{cons_option, list_all}
use Rattle.std.specs.Option.{option_map_or}
use Rattle.std.proofs.lemmas.List.Concat.{flat_map-append}
use Rattle.plan_types.specs.Instance.{Instance, stop_at}
use Rattle.plan_types.specs.declared.requests.Request.{Request}
use Rattle.plan_types.specs.declared.requests.Stop.{Stop}
use Rattle.instance_text.specs.Formats.{are_customers, is_customer}
use Rattle.instance_text.specs.Texts.{lines_text, stops_from}

all_next : {X : Type 0} (test : X → Bool) (xs : List X) (i : ℕ) → list_all test (drop i xs) ≡ (option_map_or test (slice_get xs i) true && list_all test (drop (suc i) xs))
all_next test [] zero = refl
all_next test [] (suc i) = refl
all_next test (x ∷ xs) zero = refl
all_next test (x ∷ xs) (suc i) = all_next test xs i

customers_next : (n : ℕ) (es : List (ℕ × Request)) (i : ℕ)
    → are_customers n (drop i es) ≡ (option_map_or (λ e. is_customer n e.1) (slice_get es i) true && are_customers (n + 1) (drop (suc i) es))
customers_next n [] zero = refl
customers_next n [] (suc i) = refl
customers_next n (e ∷ es) zero = refl
customers_next n (e ∷ es) (suc i) = customers_next n es i

-- the lines of the stops from number n on are the line of stop n, if there is such a stop, and the lines of
-- those after it
module _ (p : Instance) (line : Stop → List ℕ) where
  one_more : (o : Option Stop) (ss : List Stop) → lines_text (map line (cons_option o ss)) ≡ lines_text (map line (cons_option o [])) ++ lines_text (map line ss)
  one_more None ss = refl
  one_more (Some s) ss = flat_map-append (λ l. l ++ 10 ∷ []) (line s ∷ []) (map line ss)

  pub stops_next : (n next : ℕ) → n < next
      → lines_text (map line (stops_from p n (next - n))) ≡ lines_text (map line (stops_from p n 1)) ++ lines_text (map line (stops_from p (n + 1) (next - (n + 1))))
  stops_next n next less =
      ap (λ k. lines_text (map line (stops_from p n k))) (let e : next - n ≡ suc (next - (n + 1)) = omega arith in e)
      ∙ one_more (stop_at p n) (stops_from p (n + 1) (next - (n + 1)))

-- if an entry fails the test, the list fails; if it passes, the rest decides
module _ {X : Type 0} (test : X → Bool) (xs : List X) (i : ℕ) where
  pub all_fails : option_map_or test (slice_get xs i) true ≡ false → list_all test (drop i xs) ≡ false
  all_fails fails = all_next test xs i ∙ ap (λ b. b && list_all test (drop (suc i) xs)) fails

  pub all_passes : option_map_or test (slice_get xs i) true ≡ true → list_all test (drop i xs) ≡ list_all test (drop (i + 1) xs)
  all_passes passes = all_next test xs i ∙ ap (λ b. b && list_all test (drop (suc i) xs)) passes ∙ ap (λ k. list_all test (drop k xs)) (let e : suc i ≡ i + 1 = omega arith in e)

module _ (n : ℕ) (es : List (ℕ × Request)) (i : ℕ) where
  pub customers_fail : option_map_or (λ e. is_customer n e.1) (slice_get es i) true ≡ false → are_customers n (drop i es) ≡ false
  customers_fail fails = customers_next n es i ∙ ap (λ b. b && are_customers (n + 1) (drop (suc i) es)) fails

  pub customers_pass : option_map_or (λ e. is_customer n e.1) (slice_get es i) true ≡ true → are_customers n (drop i es) ≡ are_customers (n + 1) (drop (i + 1) es)
  customers_pass passes = customers_next n es i ∙ ap (λ b. b && are_customers (n + 1) (drop (suc i) es)) passes ∙ ap (λ k. are_customers (n + 1) (drop k es)) (let e : suc i ≡ i + 1 = omega arith in e)

-- a text of four parts is the text of their joined lines
pub parts_joined : (a b c d : List (List ℕ)) (s t u v : List ℕ) → s ≡ lines_text a → t ≡ s ++ lines_text b → u ≡ t ++ lines_text c → v ≡ u ++ lines_text d → v ≡ lines_text (a ++ (b ++ (c ++ d)))
parts_joined a b c d s t u v first second third fourth =
    let join : (xs ys : List (List ℕ)) → lines_text (xs ++ ys) ≡ lines_text xs ++ lines_text ys = flat_map-append (λ l. l ++ 10 ∷ []) in
    let whole : lines_text (a ++ (b ++ (c ++ d))) ≡ lines_text a ++ (lines_text b ++ (lines_text c ++ lines_text d)) =
    join a (b ++ (c ++ d)) ∙ ap (λ x. lines_text a ++ x) (join b (c ++ d)) ∙ ap (λ x. lines_text a ++ (lines_text b ++ x)) (join c d)
    in
    fourth
    ∙ ap (λ x. x ++ lines_text d) (third ∙ ap (λ x. x ++ lines_text c) (second ∙ ap (λ x. x ++ lines_text b) first))
    ∙ append_assoc (lines_text a ++ lines_text b) (lines_text c) (lines_text d)
    ∙ append_assoc (lines_text a) (lines_text b) (lines_text c ++ lines_text d)
    ∙ sym whole

-- a text of three parts, too
pub three_joined : (a b c : List (List ℕ)) (s t u : List ℕ) → s ≡ lines_text a → t ≡ s ++ lines_text b → u ≡ t ++ lines_text c → u ≡ lines_text (a ++ (b ++ c))
three_joined a b c s t u first second third =
    let join : (xs ys : List (List ℕ)) → lines_text (xs ++ ys) ≡ lines_text xs ++ lines_text ys = flat_map-append (λ l. l ++ 10 ∷ []) in
    third
    ∙ ap (λ x. x ++ lines_text c) (second ∙ ap (λ x. x ++ lines_text b) first)
    ∙ append_assoc (lines_text a) (lines_text b) (lines_text c)
    ∙ sym (join a (b ++ c) ∙ ap (λ x. lines_text a ++ x) (join b c))
