-- The result of a scan over the places of a table is the best insertion by the definitions.
use Rattle.std.proofs.Common.{◌≡◌, ℕ, ◌+◌, ◌<◌, ℤ, List, get_or, length, Option, Some, None, refl, ap, arith, subst}
use Rattle.std.proofs.lemmas.Int.{ints}
use Rattle.plan_types.specs.Instance.{Instance, IsInstance}
use Rattle.plan_types.specs.Laws.{NamedRequestsAreFound}
use Rattle.plan_types.specs.declared.requests.Stop.{Stop}
use Rattle.plan_types.specs.declared.requests.Request.{Request}
use Rattle.plan_types.specs.declared.requests.Request.TheVariants.{Single, Pair}
use Rattle.nint_dist.specs.Distance.{distance}
use Rattle.slack_tables.specs.Best.{IsFirstOf, IsBestAddition}
use Rattle.slack_tables.specs.Along.{stop_on}
use Rattle.slack_tables.specs.Course.{Course, course_route, IsCourseIn}
use Rattle.slack_tables.specs.DriveSteps.{with_single, with_pair}
use Rattle.slack_tables.specs.TableFields.{AreKnown}
use Rattle.slack_tables.specs.Insertion.{request_named, inserted, ArePlaces, IsAdded}
use Rattle.slack_tables.specs.Legs.{AreLinked, AreAscending}
use Rattle.slack_tables.specs.Scan.{InsertsSingle, AddsSingle, InsertsPair, AddsPair, CostsLess}
use Rattle.slack_tables.specs.declared.progress.PlaceSlack.{PlaceSlack}
use Rattle.slack_tables.specs.declared.scan.PricedInsertion.{PricedInsertion}
use Rattle.slack_tables.proofs.AlongLemmas.{start-next, length-next}
use Rattle.slack_tables.proofs.CourseLemmas.{long-on}
use Rattle.slack_tables.proofs.InsertLemmas.{limits_of, single-added, pair-added}

pub first-same : (C D : PricedInsertion → Type 0) → ((a : PricedInsertion) → C a → D a) → ((a : PricedInsertion) → D a → C a) → (o : Option PricedInsertion) → IsFirstOf C o → IsFirstOf D o
first-same C D to from None never = λ a is. never a (from a is)
first-same C D to from (Some b) first = (to b first.0, λ a is. first.1 a (from a is))

-- the added distance is unique
added-once : (p : Instance) (old new : List ℕ) (o : Option ℤ) (x : ℤ) → IsAdded p old new o → IsAdded p old new (Some x) → o ≡ Some x
added-once p old new None x never is = absurd (never is.0)
added-once p old new (Some y) x is it =
    let same : y ≡ x = omega (arith, ints) in
    ap (λ z. Some z) same

module _ (p : Instance) (c : Course) (places : List PlaceSlack) (table : AreKnown c places) (valid : IsInstance p) (is : IsCourseIn p c)
    (law : NamedRequestsAreFound) (name : ℕ) (kept : ℕ) (below : ℤ) (d : PlaceSlack) where
  long : length places ≡ length (course_route c) + 2
  long = let places_long = table.long in omega (arith, long-on p (course_route c) c is)

  -- the result is the best insertion, if `adds` returns the distance that an insertion at each place adds
  best-is : (r : Request) (Puts : PricedInsertion → Type 0) (adds : ℕ → ℕ → Option ℤ)
      → ((i j : ℕ) → ArePlaces r (length (course_route c)) i j → IsAdded p (course_route c) (inserted r i j (course_route c)) (adds i j))
      → ((a : PricedInsertion) → Puts a → ArePlaces r (length (course_route c)) a.pickup a.delivery × (kept < a.pickup) × (adds a.pickup a.delivery ≡ Some a.distance))
      → ((a : PricedInsertion) → ArePlaces r (length (course_route c)) a.pickup a.delivery → kept < a.pickup → adds a.pickup a.delivery ≡ Some a.distance → Puts a)
      → (o : Option PricedInsertion) → IsFirstOf (CostsLess Puts below) o → IsBestAddition p (course_route c) r kept below o
  best-is r Puts adds answer to from o first =
      first-same _ _
      (λ a puts.
      (let is = to a puts.0 in
      record {
        places = is.0;
        following = is.1;
        added = subst (IsAdded p (course_route c) (inserted r a.pickup a.delivery (course_route c))) is.2 (answer a.pickup a.delivery is.0);
        cheaper = puts.1;
      }))
      (λ a is. (from a is.places is.following (added-once p _ _ _ a.distance (answer a.pickup a.delivery is.places) is.added), is.cheaper)) o first

  pub single-best : (s : Stop) (o : Option PricedInsertion) → request_named p name ≡ Some (Single s)
      → IsFirstOf (AddsSingle (limits_of c) places s kept below d) o → IsBestAddition p (course_route c) (Single s) kept below o
  single-best s o named =
      best-is (Single s) (InsertsSingle (limits_of c) places s kept d) (λ i _. with_single (limits_of c) places s i d)
      (λ i j are. single-added p c places table valid is law name i j s d _ named are refl)
      (λ a puts. (let following = puts.following in let within = puts.within in let count = long in ((omega arith, omega arith, puts.one), following, puts.added)))
      (λ a are following added. (let count = long in let last = are.1 in record { following = following; within = omega arith; one = are.2; added = added })) o

  pub pair-best : (s t : Stop) (o : Option PricedInsertion) → request_named p name ≡ Some (Pair s t)
      → IsFirstOf (AddsPair (limits_of c) places s t kept below d) o → IsBestAddition p (course_route c) (Pair s t) kept below o
  pair-best s t o named =
      best-is (Pair s t) (InsertsPair (limits_of c) places s t kept d) (λ i j. with_pair (limits_of c) places s t i j d)
      (λ i j are. pair-added p c places table valid is law name i j s t d _ named are refl)
      (λ a puts. (let following = puts.following in let within = puts.within in let count = long in ((omega arith, puts.order, omega arith), following, puts.added)))
      (λ a are following added. (let count = long in let last = are.2 in record { following = following; order = are.1; within = omega arith; added = added })) o

-- the distances in a table grow by the legs
pub linked : (c : Course) (places : List PlaceSlack) → AreKnown c places → AreLinked places
linked c places table = λ k d h.
    let here = (table.known k d (omega arith)).at in
    let next = (table.known (k + 1) d h).at in
    let way : distance (get_or places k d).at.stop (get_or places (k + 1) d).at.stop ≡ distance (stop_on c k) (stop_on c (k + 1)) =
    rw (here.stop, next.stop) refl in
    omega (arith, length-next (stop_on c) k)

-- the starts in a table do not decrease
pub ascending : (c : Course) (places : List PlaceSlack) → AreKnown c places → AreAscending places
ascending c places table = λ k d h.
    let here = (table.known k d (omega arith)).at.start in
    let next = (table.known (k + 1) d h).at.start in
    omega (arith, start-next (stop_on c) k)
