-- Parts of texts.
use Rattle.std.proofs.Common.{◌≡◌, ◌∙◌, ℕ, ◌+◌, ◌<◌, List, [], ◌∷◌, ◌++◌, Some, None, true, false, zero, suc, sym, ap, subst, arith, append_assoc, inl, inr}
use Rattle.std.specs.Prelude.{slice_get}
use Rattle.std.specs.List.{flat_map}
use Rattle.std.proofs.lemmas.Bool.{cases_eq, false≢true}
use Rattle.std.proofs.lemmas.List.{append-nil}
use Rattle.std.proofs.lemmas.List.Concat.{flat_map-append}
use Rattle.plan_types.specs.Instance.{Instance, stop_at}
use Rattle.plan_types.specs.declared.requests.Stop.{Stop}
use Rattle.plan_picture.specs.DrawnStops.{listed, stops_below}
use Rattle.plan_picture.specs.Laws.{IsIn}
use Rattle.plan_picture.specs.Svg.{each}

pub in_whole : (t : List ℕ) → IsIn t t
in_whole t = ([], [], sym (append-nil t))

pub in_left : (a b c : List ℕ) → IsIn a b → IsIn a (b ++ c)
in_left a b c (x, y, e) = (x, y ++ c, ap (λ z. z ++ c) e ∙ (append_assoc x (a ++ y) c ∙ ap (λ z. x ++ z) (append_assoc a y c)))

pub in_right : (a b c : List ℕ) → IsIn a c → IsIn a (b ++ c)
in_right a b c (x, y, e) = (b ++ x, y, ap (λ z. b ++ z) e ∙ sym (append_assoc b x (a ++ y)))

-- The text of a stop is in the text of all stops below a greater number.
pub stop_in_all : (f : Stop → List ℕ) (p : Instance) (n : ℕ) (s : Stop) (m : ℕ) → stop_at p n ≡ Some s → n < m → IsIn (f s) (flat_map f (stops_below p m))
stop_in_all f p n s zero at less = absurd (omega (arith, less))
stop_in_all f p n s (suc m) at less =
    subst (λ t. IsIn (f s) t) (sym (flat_map-append f (stops_below p m) (listed (stop_at p m))))
    (elim (cases_eq n m) [
      | inl e ↦ (
          let here : flat_map f (listed (stop_at p m)) ≡ f s = ap (λ o. flat_map f (listed o)) (ap (stop_at p) (sym e) ∙ at) ∙ append-nil (f s) in
          in_right (f s) (flat_map f (stops_below p m)) (flat_map f (listed (stop_at p m))) (subst (λ t. IsIn (f s) t) (sym here) (in_whole (f s))))
      | inr ne ↦ (
          let below : n < m = omega (arith, less, ne) in
          in_left (f s) (flat_map f (stops_below p m)) (flat_map f (listed (stop_at p m))) (stop_in_all f p n s m at below))
    ])

none_some : {X : Type 0} (x : X) → None ≡ Some x → ⊥
none_some x h = let g : false ≡ true = (let k : None ≡ Some x = h in cc) in false≢true g

-- The text of a route is in the text of all routes.
pub route_in_all : (f : ℕ → List ℕ → List ℕ) (k : ℕ) (routes : List (List ℕ)) (r : ℕ) (route : List ℕ) → slice_get routes r ≡ Some route → IsIn (f (k + r) route) (each f k routes)
route_in_all f k [] r route at = absurd (none_some route at)
route_in_all f k (x ∷ routes) zero route at =
    let same : x ≡ route = (let g : Some x ≡ Some route = at in cc) in
    let number : k ≡ k + zero = omega arith in
    subst (λ t. IsIn t (f k x ++ each f (k + 1) routes)) (ap (λ y. f k y) same ∙ ap (λ j. f j route) number) (in_left (f k x) (f k x) (each f (k + 1) routes) (in_whole (f k x)))
route_in_all f k (x ∷ routes) (suc r) route at =
    let number : k + 1 + r ≡ k + suc r = omega arith in
    in_right (f (k + suc r) route) (f k x) (each f (k + 1) routes)
    (subst (λ j. IsIn (f j route) (each f (k + 1) routes)) number (route_in_all f (k + 1) routes r route at))
