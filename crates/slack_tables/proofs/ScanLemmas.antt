-- The loops over the places of a table: one place after another.
use Rattle.std.proofs.Common.{◌≡◌, ℕ, ◌+◌, ◌<◌, ◌≤◌, ℤ, ◌≤ℤ◌, w64, to_z, of_z, List, length, Option, Some, None, refl, sym, ◌∙◌, arith, subst}
use mir.Val.{SFits}
use Rattle.std.proofs.lemmas.Int.{ints, to_z-of_z}
use Rattle.std.proofs.lemmas.Option.{none-some}
use Rattle.plan_types.specs.declared.requests.Stop.{Stop}
use Rattle.slack_tables.specs.Best.{ComesFirst, IsFirstOf}
use Rattle.slack_tables.specs.DriveSteps.{with_single, with_pair}
use Rattle.slack_tables.specs.Scan.{InsertsSingle, AddsSingle, InsertsPair, AddsPair, InsertsDelivery, AddsDelivery, none_below, offered, accepted}
use Rattle.slack_tables.specs.declared.progress.Limits.{Limits}
use Rattle.slack_tables.specs.declared.progress.PlaceSlack.{PlaceSlack}
use Rattle.slack_tables.specs.declared.scan.PricedInsertion.{PricedInsertion}
use Rattle.slack_tables.specs.declared.scan.Best.{Best}
use Rattle.slack_tables.proofs.FirstLemmas.{SoFar, first-pickup, first-delivery, none-yet, none-here, better-here, all-cursor, rest-dear, offered-more}

abbrev pub by_pickup : PricedInsertion → ℕ
by_pickup a = a.pickup

abbrev pub by_delivery : PricedInsertion → ℕ
by_delivery a = a.delivery

-- a bound that is passed as a 64-bit number stays a bound
pub bits-below : (x y : ℤ) → SFits w64 x → to_z w64 (of_z w64 x) ≤ℤ y → x ≤ℤ y
bits-below x y fits le = subst (λ z. z ≤ℤ y) (to_z-of_z w64 x fits) le

-- ---- a single
module _ (limits : Limits) (places : List PlaceSlack) (s : Stop) (kept : ℕ) (d : PlaceSlack) where
  pub order : (a b : PricedInsertion) → InsertsSingle limits places s kept d a → InsertsSingle limits places s kept d b → a.distance ≤ℤ b.distance
      → a.pickup < b.pickup → ComesFirst a b
  order a b _ _ le lt = first-pickup a b le lt

  abbrev pub SinglesSoFar : ℤ → ℕ → Best → Type 0
  SinglesSoFar below n best = SoFar (InsertsSingle limits places s kept d) by_pickup order below n best.bound best.found

  pub singles-begin : (below : ℤ) (best : Best) → best ≡ none_below below → SinglesSoFar below (kept + 1) best
  singles-begin below best made =
      subst (SinglesSoFar below (kept + 1)) (sym made)
      (none-yet (InsertsSingle limits places s kept d) by_pickup order below (kept + 1) (λ a is lt. let following = is.following in omega arith))

  pub single-more : (below : ℤ) (i : ℕ) (best : Best) → SinglesSoFar below i best → kept < i → i < length places → (next : Best)
      → next ≡ offered best (with_single limits places s i d) i i → SinglesSoFar below (i + 1) next
  single-more below i best so following within =
      offered-more (InsertsSingle limits places s kept d) by_pickup order (λ i. with_single limits places s i d)
      (λ a is. is.added) below i i i best so (λ a is here. (here, let one = is.one in omega arith)) (λ x. refl)
      (λ x some. record { following = following; within = within; one = refl; added = some })

  pub singles-end : (below : ℤ) (i : ℕ) (best : Best) → SinglesSoFar below i best → length places ≤ i
      → IsFirstOf (AddsSingle limits places s kept below d) best.found
  singles-end below i best so end =
      all-cursor (InsertsSingle limits places s kept d) by_pickup order below best.bound i best.found so
      (λ a is. let within = is.within in omega arith)

-- ---- the delivery of a pair
module _ (limits : Limits) (places : List PlaceSlack) (p q : Stop) (i : ℕ) (d : PlaceSlack) where
  pub order_here : (a b : PricedInsertion) → InsertsDelivery limits places p q i d a → InsertsDelivery limits places p q i d b
      → a.distance ≤ℤ b.distance → a.delivery < b.delivery → ComesFirst a b
  order_here a b is it le lt = first-delivery a b le (is.here ∙ sym (it.here)) (omega arith)

  abbrev pub DeliveriesSoFar : ℤ → ℕ → Best → Type 0
  DeliveriesSoFar below n best = SoFar (InsertsDelivery limits places p q i d) by_delivery order_here below n best.bound best.found

  pub deliveries-begin : (below : ℤ) (best : Best) → best ≡ none_below below → DeliveriesSoFar below (i + 1) best
  deliveries-begin below best made =
      subst (DeliveriesSoFar below (i + 1)) (sym made)
      (none-yet (InsertsDelivery limits places p q i d) by_delivery order_here below (i + 1) (λ a is lt. let following = is.order in omega arith))

  pub delivery-more : (below : ℤ) (j : ℕ) (best : Best) → DeliveriesSoFar below j best → i < j → j ≤ length places → (next : Best)
      → next ≡ offered best (with_pair limits places p q i j d) i j → DeliveriesSoFar below (j + 1) next
  delivery-more below j best so order within =
      offered-more (InsertsDelivery limits places p q i d) by_delivery order_here (λ j. with_pair limits places p q i j d)
      (λ a is. is.added) below j i j best so (λ a is there. (is.here, omega arith)) (λ x. refl)
      (λ x some. record { here = refl; order = order; within = within; added = some })

  -- if no remaining place of the delivery adds less than the best so far, the best so far is the best of all
  pub deliveries-stop : (below : ℤ) (j : ℕ) (best : Best) → DeliveriesSoFar below j best
      → ((k : ℕ) (x : ℤ) → j ≤ k → k ≤ length places → with_pair limits places p q i k d ≡ Some x → best.bound ≤ℤ x)
      → IsFirstOf (AddsDelivery limits places p q i below d) best.found
  deliveries-stop below j best so dear =
      rest-dear (InsertsDelivery limits places p q i d) by_delivery order_here below best.bound j best.found so
      (λ a is following less. let le = dear a.delivery a.distance following is.within is.added in absurd (omega (arith, ints)))

  -- if no place of the delivery adds less than the bound, there is no best one
  pub deliveries-none : (below : ℤ)
      → ((k : ℕ) (x : ℤ) → i + 1 ≤ k → k ≤ length places → with_pair limits places p q i k d ≡ Some x → below ≤ℤ x)
      → IsFirstOf (AddsDelivery limits places p q i below d) None
  deliveries-none below dear = λ a is.
      (let le = dear a.delivery a.distance (let order = is.0.order in omega arith) is.0.within is.0.added in
      let less = is.1 in
      absurd (omega (arith, ints)))

-- ---- a pair
module _ (limits : Limits) (places : List PlaceSlack) (p q : Stop) (kept : ℕ) (d : PlaceSlack) where
  pub order_pair : (a b : PricedInsertion) → InsertsPair limits places p q kept d a → InsertsPair limits places p q kept d b
      → a.distance ≤ℤ b.distance → a.pickup < b.pickup → ComesFirst a b
  order_pair a b _ _ le lt = first-pickup a b le lt

  abbrev pub PairsSoFar : ℤ → ℕ → Best → Type 0
  PairsSoFar below n best = SoFar (InsertsPair limits places p q kept d) by_pickup order_pair below n best.bound best.found

  pub pairs-begin : (below : ℤ) (n : ℕ) (best : Best) → n ≤ kept + 1 → best ≡ none_below below → PairsSoFar below n best
  pairs-begin below n best few made =
      subst (PairsSoFar below n) (sym made)
      (none-yet (InsertsPair limits places p q kept d) by_pickup order_pair below n (λ a is lt. let following = is.following in omega arith))

  at-pickup : (a : PricedInsertion) (i : ℕ) → InsertsPair limits places p q kept d a → a.pickup ≡ i → InsertsDelivery limits places p q i d a
  at-pickup a i is here =
      record {
        here = here;
        order = subst (λ k. k < a.delivery) here is.order;
        within = is.within;
        added = subst (λ k. with_pair limits places p q k a.delivery d ≡ Some a.distance) here is.added;
      }

  of-pickup : (a : PricedInsertion) (i : ℕ) → kept < i → InsertsDelivery limits places p q i d a → InsertsPair limits places p q kept d a
  of-pickup a i following is =
      let here : i ≡ a.pickup = sym (is.here) in
      record {
        following = subst (λ k. kept < k) here following;
        order = subst (λ k. k < a.delivery) here is.order;
        within = is.within;
        added = subst (λ k. with_pair limits places p q k a.delivery d ≡ Some a.distance) here is.added;
      }

  module _ (below : ℤ) (i : ℕ) (best : Best) (so : PairsSoFar below i best) where
    pub pair-more : (o : Option PricedInsertion) (next : Best) → kept < i → IsFirstOf (AddsDelivery limits places p q i best.bound d) o
        → next ≡ accepted best o → PairsSoFar below (i + 1) next
    pair-more None next following never made =
        subst (PairsSoFar below (i + 1)) (sym made)
        (none-here (InsertsPair limits places p q kept d) by_pickup order_pair below best.bound i best.found so
        (λ a is here under. never a (at-pickup a i is here, under)))
    pair-more (Some found) next following is made =
        subst (PairsSoFar below (i + 1)) (sym made)
        (better-here (InsertsPair limits places p q kept d) by_pickup order_pair below best.bound i best.found found so
        (of-pickup found i following is.0.0) (is.0.0.here) is.0.1 (λ a it here under. is.1 a (at-pickup a i it here, under)))

  -- the case in which no later place of the pickup is left
  pub pairs-stop : (below : ℤ) (i : ℕ) (best : Best) → PairsSoFar below i best
      → ((k j : ℕ) → i ≤ k → k < j → j ≤ length places → with_pair limits places p q k j d ≡ None)
      → IsFirstOf (AddsPair limits places p q kept below d) best.found
  pairs-stop below i best so over =
      rest-dear (InsertsPair limits places p q kept d) by_pickup order_pair below best.bound i best.found so
      (λ a is following less. none-some a.distance (sym (over a.pickup a.delivery following is.order is.within) ∙ is.added))

  pub pairs-end : (below : ℤ) (i : ℕ) (best : Best) → PairsSoFar below i best → length places ≤ i
      → IsFirstOf (AddsPair limits places p q kept below d) best.found
  pairs-end below i best so end =
      all-cursor (InsertsPair limits places p q kept d) by_pickup order_pair below best.bound i best.found so
      (λ a is. let within = is.within in let order = is.order in omega arith)
