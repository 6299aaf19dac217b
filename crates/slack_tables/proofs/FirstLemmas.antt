-- The insertion that comes first by distance and then by place, found by offering the insertions in order of a key.
use Rattle.std.proofs.Common.{◌≡◌, ℕ, ◌+◌, ◌<◌, ◌≤◌, ◌⊎◌, ℤ, ◌≤ℤ◌, ◌<ℤ◌, int_lt, true, false, T, Option, Some, None, refl, sym, ap, ◌∙◌, arith, subst, inl, inr}
use Rattle.std.specs.Prelude.{MatchOption}
use Rattle.std.proofs.lemmas.Bool.{cases_lt, cond_both}
use Rattle.std.proofs.lemmas.Option.{none-some, same_Some}
use Rattle.std.proofs.lemmas.Int.{ints, by_lt_z}
use Rattle.slack_tables.specs.Best.{ComesFirst, IsFirstOf}
use Rattle.slack_tables.specs.Scan.{CostsLess, offered}
use Rattle.slack_tables.specs.declared.scan.PricedInsertion.{PricedInsertion}
use Rattle.slack_tables.specs.declared.scan.Best.{Best}

pub int_lt-true : (x y : ℤ) → int_lt x y ≡ true → x <ℤ y
int_lt-true x y h = record { lt = subst T (sym h) tt }

int_lt-false : (x y : ℤ) → int_lt x y ≡ false → x <ℤ y → ⊥
int_lt-false x y h less = subst T h (less.lt)

pub first-less : (a b : PricedInsertion) → a.distance <ℤ b.distance → ComesFirst a b
first-less a b less = record {
  distance = omega (arith, ints);
  pickup = λ same. absurd (omega (arith, ints));
  delivery = λ same _. absurd (omega (arith, ints));
}

pub first-pickup : (a b : PricedInsertion) → a.distance ≤ℤ b.distance → a.pickup < b.pickup → ComesFirst a b
first-pickup a b le before = record { distance = le; pickup = λ _. omega arith; delivery = λ _ same. absurd (omega arith) }

pub first-delivery : (a b : PricedInsertion) → a.distance ≤ℤ b.distance → a.pickup ≡ b.pickup → a.delivery ≤ b.delivery → ComesFirst a b
first-delivery a b le same before = record { distance = le; pickup = λ _. omega arith; delivery = λ _ _. before }

module _ (Is : PricedInsertion → Type 0) (key : PricedInsertion → ℕ)
    (order : (a b : PricedInsertion) → Is a → Is b → a.distance ≤ℤ b.distance → key a < key b → ComesFirst a b) where
  -- the first insertion with a key below n, and the bound below which the distance of the next ones has to be
  unfoldable pub SoFar : ℤ → ℕ → ℤ → Option PricedInsertion → Type 0
  SoFar below n bound best =
      MatchOption best ((bound ≡ below) × ((a : PricedInsertion) → Is a → key a < n → a.distance <ℤ below → ⊥))
      (λ b. (bound ≡ b.distance) × Is b × (key b < n) × (b.distance <ℤ below)
      × ((a : PricedInsertion) → Is a → key a < n → a.distance <ℤ below → ComesFirst b a))

  pub none-yet : (below : ℤ) (n : ℕ) → ((a : PricedInsertion) → Is a → key a < n → ⊥) → SoFar below n below None
  unfolding SoFar
  none-yet below n never = (refl, λ a is lt _. never a is lt)

  at : (n : ℕ) (a : PricedInsertion) → n ≤ key a → key a < n + 1 → key a ≡ n
  at n a h l = omega arith

  pub none-here : (below bound : ℤ) (n : ℕ) (best : Option PricedInsertion) → SoFar below n bound best
      → ((a : PricedInsertion) → Is a → key a ≡ n → a.distance <ℤ bound → ⊥) → SoFar below (n + 1) bound best
  unfolding SoFar
  none-here below bound n None so never = (so.0, λ a is lt under. by a is lt under (cases_lt (key a) n))
    where
      by : (a : PricedInsertion) → Is a → key a < n + 1 → a.distance <ℤ below → (key a < n) ⊎ (n ≤ key a) → ⊥
      by a is lt under (inl before) = so.1 a is before under
      by a is lt under (inr here) = never a is (at n a here lt) (subst (λ x. a.distance <ℤ x) (sym so.0) under)
  none-here below bound n (Some b) so never = (so.0, so.1, let lt = so.2 in omega arith, so.3, λ a is lt under. by a is lt under (cases_lt (key a) n))
    where
      by : (a : PricedInsertion) → Is a → key a < n + 1 → a.distance <ℤ below → (key a < n) ⊎ (n ≤ key a) → ComesFirst b a
      by a is lt under (inl before) = so.4 a is before under
      by a is lt under (inr here) =
          by_lt_z {P = ComesFirst b a} a.distance bound (λ less. absurd (never a is (at n a here lt) less))
          (λ le. let lt = so.2 in order b a so.1 is (subst (λ x. x ≤ℤ a.distance) so.0 le) (omega arith))

  under-all : (below bound : ℤ) (n : ℕ) (best : Option PricedInsertion) (x : ℤ) → SoFar below n bound best → x <ℤ bound → x <ℤ below
  unfolding SoFar
  under-all below bound n None x so less = subst (λ y. x <ℤ y) so.0 less
  under-all below bound n (Some b) x so less = let same = so.0 in let under = so.3 in omega (arith, ints)

  before-first : (below bound : ℤ) (n : ℕ) (best : Option PricedInsertion) (found a : PricedInsertion) → SoFar below n bound best
      → found.distance <ℤ bound → Is a → key a < n → a.distance <ℤ below → ComesFirst found a
  unfolding SoFar
  before-first below bound n None found a so less is lt under = absurd (so.1 a is lt under)
  before-first below bound n (Some b) found a so less is lt under =
      let first = so.4 a is lt under in
      first-less found a (omega (arith, ints))

  pub better-here : (below bound : ℤ) (n : ℕ) (best : Option PricedInsertion) (found : PricedInsertion) → SoFar below n bound best → Is found
      → key found ≡ n → found.distance <ℤ bound → ((a : PricedInsertion) → Is a → key a ≡ n → a.distance <ℤ bound → ComesFirst found a)
      → SoFar below (n + 1) found.distance (Some found)
  unfolding SoFar
  better-here below bound n best found so it here less first =
      (refl, it, omega arith, under-all below bound n best found.distance so less, λ a is lt under. by a is lt under (cases_lt (key a) n))
    where
      by : (a : PricedInsertion) → Is a → key a < n + 1 → a.distance <ℤ below → (key a < n) ⊎ (n ≤ key a) → ComesFirst found a
      by a is lt under (inl before) = before-first below bound n best found a so less is before under
      by a is lt under (inr there) =
          by_lt_z {P = ComesFirst found a} a.distance bound (λ under. first a is (at n a there lt) under) (λ le. first-less found a (omega (arith, ints)))

  pub all-cursor : (below bound : ℤ) (n : ℕ) (best : Option PricedInsertion) → SoFar below n bound best → ((a : PricedInsertion) → Is a → key a < n)
      → IsFirstOf (CostsLess Is below) best
  unfolding SoFar
  all-cursor below bound n None so all = λ a is. so.1 a is.0 (all a is.0) is.1
  all-cursor below bound n (Some b) so all = ((so.1, so.3), λ a is. so.4 a is.0 (all a is.0) is.1)

  -- the best is final if all other insertions add at least the bound
  pub rest-dear : (below bound : ℤ) (n : ℕ) (best : Option PricedInsertion) → SoFar below n bound best
      → ((a : PricedInsertion) → Is a → n ≤ key a → a.distance <ℤ bound → ⊥) → IsFirstOf (CostsLess Is below) best
  unfolding SoFar
  rest-dear below bound n None so dear = λ a is. by a is (cases_lt (key a) n)
    where
      by : (a : PricedInsertion) → CostsLess Is below a → (key a < n) ⊎ (n ≤ key a) → ⊥
      by a is (inl before) = so.1 a is.0 before is.1
      by a is (inr following) = dear a is.0 following (subst (λ x. a.distance <ℤ x) (sym so.0) is.1)
  rest-dear below bound n (Some b) so dear = ((so.1, so.3), λ a is. by a is (cases_lt (key a) n))
    where
      by : (a : PricedInsertion) → CostsLess Is below a → (key a < n) ⊎ (n ≤ key a) → ComesFirst b a
      by a is (inl before) = so.4 a is.0 before is.1
      by a is (inr following) =
          by_lt_z {P = ComesFirst b a} a.distance bound (λ less. absurd (dear a is.0 following less))
          (λ le. let lt = so.2 in order b a so.1 is.0 (subst (λ x. x ≤ℤ a.distance) so.0 le) (omega arith))

  -- the insertion with the next key is offered
  module _ (added : ℕ → Option ℤ) (adds : (a : PricedInsertion) → Is a → added (key a) ≡ Some a.distance) (below : ℤ) (n i j : ℕ)
      (best : Best) (so : SoFar below n best.bound best.found)
      (least : (a : PricedInsertion) → Is a → key a ≡ n → (a.pickup ≡ i) × (j ≤ a.delivery))
      (keyed : (x : ℤ) → key (record { distance = x; pickup = i; delivery = j }) ≡ n)
      (puts : (x : ℤ) → added n ≡ Some x → Is (record { distance = x; pickup = i; delivery = j })) where
    here : (a : PricedInsertion) → Is a → key a ≡ n → added n ≡ Some a.distance
    here a is at = ap added (sym at) ∙ adds a is

    pub offered-more : (next : Best) → next ≡ offered best (added n) i j → SoFar below (n + 1) next.bound next.found
    offered-more next made = subst (λ b. SoFar below (n + 1) b.bound b.found) (sym made) (by (added n) refl)
      where
        by : (o : Option ℤ) → added n ≡ o → SoFar below (n + 1) (offered best o i j).bound (offered best o i j).found
        by None none = none-here below best.bound n best.found so (λ a is at _. none-some a.distance (sym none ∙ here a is at))
        by (Some x) some =
            cond_both (int_lt x best.bound) (record { bound = x; found = Some (record { distance = x; pickup = i; delivery = j }) }) best
            (λ b. SoFar below (n + 1) b.bound b.found)
            (λ less. better-here below best.bound n best.found (record { distance = x; pickup = i; delivery = j }) so (puts x some)
            (keyed x) (int_lt-true x best.bound less)
            (λ a is at _.
            (let same = same_Some x a.distance (sym some ∙ here a is at) in
            let first = least a is at in
            first-delivery (record { distance = x; pickup = i; delivery = j }) a (omega (arith, ints)) (sym first.0) first.1)))
            (λ dear. none-here below best.bound n best.found so
            (λ a is at under. int_lt-false x best.bound dear
            (subst (λ y. y <ℤ best.bound) (sym (same_Some x a.distance (sym some ∙ here a is at))) under)))
