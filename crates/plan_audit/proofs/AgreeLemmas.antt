-- Feasibility of a route alone depends only on the route's own requests.
use Rattle.std.proofs.Common.{◌≡◌, ℕ, ◌+◌, Bool, true, false, not, ◌&&◌, ◌||◌, nat_le, int_lt, pos, List, [], ◌∷◌, length, Option, Some, None, refl, sym, ap, ◌∙◌, eqb}
use Rattle.std.specs.List.{AllByRecursion, list_all}
use Rattle.std.specs.Option.{option_map, option_and_then, option_or, option_map_or}
use Rattle.std.proofs.lemmas.List.Elements.{All-from_recursion, recursion_from_All}
use Rattle.plan_types.specs.Instance.{Instance, first_some, stop_at, partner_at, request_with, pickup_at}
use Rattle.plan_types.specs.Request.{stop_in, partner_in, pickup_in}
use Rattle.plan_types.specs.declared.requests.Stop.{Stop}
use Rattle.plan_types.specs.declared.requests.Request.{Request}
use Rattle.plan_types.specs.declared.requests.Kind.{Kind}
use Rattle.plan_types.specs.declared.requests.Kind.TheVariants.{LiLim, Vrp}
use Rattle.route_sched.specs.Agreement.{HasSameSchedule, SchedulesAgree}
use Rattle.route_sched.specs.Route.{place}
use Rattle.route_sched.specs.Schedule.{start, load}
use Rattle.plan_audit.specs.Passes.{has, has_whole_pairs, picks_up_first, places_of, keeps_capacity, keeps_windows, is_back_in_time, keeps_times, feasible_alone}
use Rattle.plan_audit.specs.Locality.{AgreeOnRequests, FeasibilityIsLocal}

-- the stop with a number is a stop of the request that owns the number
stop_of_request : (n : ℕ) (es : List (ℕ × Request))
    → first_some (stop_in n) es ≡ option_and_then (stop_in n) (first_some (λ r. option_map (λ _. r) (stop_in n r)) es)
stop_of_request n [] = refl
stop_of_request n (e ∷ es) = by (stop_in n e.1) refl (stop_of_request n es)
  where
    by : (o : Option Stop) → stop_in n e.1 ≡ o
        → first_some (stop_in n) es ≡ option_and_then (stop_in n) (first_some (λ r. option_map (λ _. r) (stop_in n r)) es)
        → option_or (stop_in n e.1) (first_some (stop_in n) es)
        ≡ option_and_then (stop_in n) (option_or (option_map (λ _. e.1) (stop_in n e.1)) (first_some (λ r. option_map (λ _. r) (stop_in n r)) es))
    by None at rest =
        ap (λ (o : Option Stop). option_or o (first_some (stop_in n) es)) at ∙ rest
        ∙ ap (λ (o : Option Stop). option_and_then (stop_in n) (option_or (option_map (λ _. e.1) o) (first_some (λ r. option_map (λ _. r) (stop_in n r)) es)))
        (sym at)
    by (Some s) at rest =
        ap (λ (o : Option Stop). option_or o (first_some (stop_in n) es)) at ∙ sym at
        ∙ ap (λ (o : Option Stop). option_and_then (stop_in n) (option_or (option_map (λ _. e.1) o) (first_some (λ r. option_map (λ _. r) (stop_in n r)) es)))
        (sym at)

all_same : {X : Type 0} (f g : X → Bool) (xs : List X) → AllByRecursion (λ x. f x ≡ g x) xs → list_all f xs ≡ list_all g xs
all_same f g [] same = refl
all_same f g (x ∷ xs) same = ap (λ b. b && list_all f xs) same.0 ∙ ap (λ b. g x && b) (all_same f g xs same.1)

each_same : (f g : ℕ → Bool) (xs : List ℕ) → ((x : ℕ) → f x ≡ g x) → list_all f xs ≡ list_all g xs
each_same f g [] same = refl
each_same f g (x ∷ xs) same = ap (λ b. b && list_all f xs) (same x) ∙ ap (λ b. g x && b) (each_same f g xs same)

weaker : (P Q : ℕ → Type 0) (xs : List ℕ) → ((x : ℕ) → P x → Q x) → AllByRecursion P xs → AllByRecursion Q xs
weaker P Q [] to all = tt
weaker P Q (x ∷ xs) to all = (to x all.0, weaker P Q xs to all.1)

module _ (p q : Instance) where
  abbrev Same : ℕ → Type 0
  Same n = request_with p n ≡ request_with q n

  stops_same : (n : ℕ) → Same n → stop_at p n ≡ stop_at q n
  stops_same n same = stop_of_request n p.requests ∙ ap (option_and_then (stop_in n)) same ∙ sym (stop_of_request n q.requests)

  partners_same : (n : ℕ) → Same n → partner_at p n ≡ partner_at q n
  partners_same n same = ap (option_and_then (partner_in n)) same

  first_same : (ns : List ℕ) → AllByRecursion Same ns → picks_up_first p ns ≡ picks_up_first q ns
  first_same [] same = refl
  first_same (n ∷ ns) same =
      ap (λ (o : Option Request). not (option_map_or (has ns) (option_and_then (pickup_in n) o) false) && picks_up_first p ns) same.0
      ∙ ap (λ b. not (option_map_or (has ns) (pickup_at q n) false) && b) (first_same ns same.1)

  module _ (route : List ℕ) (agree : AgreeOnRequests p q route) (schedules : SchedulesAgree) where
    all_numbers : AllByRecursion Same route
    all_numbers = recursion_from_All Same route (agree.requests)

    schedule : HasSameSchedule p q route
    schedule = schedules p q route (record {
      depot = agree.depot;
      stops = All-from_recursion (λ n. stop_at p n ≡ stop_at q n) route (weaker Same (λ n. stop_at p n ≡ stop_at q n) route stops_same all_numbers);
    })

    pairs_same : has_whole_pairs p route ≡ has_whole_pairs q route
    pairs_same =
        all_same (λ n. option_map_or (has route) (partner_at p n) true) (λ n. option_map_or (has route) (partner_at q n) true) route
        (weaker Same (λ n. option_map_or (has route) (partner_at p n) true ≡ option_map_or (has route) (partner_at q n) true) route
        (λ n same. ap (λ (o : Option ℕ). option_map_or (has route) o true) (partners_same n same)) all_numbers)

    capacity_same : keeps_capacity p route ≡ keeps_capacity q route
    capacity_same =
        let loads = schedule.loads in
        each_same (λ i. not (int_lt (pos p.capacity) (load p route i))) (λ i. not (int_lt (pos q.capacity) (load q route i))) (places_of route)
        (λ i. ap (λ c. not (int_lt (pos c) (load p route i))) (agree.capacity) ∙ ap (λ z. not (int_lt (pos q.capacity) z)) (loads i))

    windows_same : keeps_windows p route ≡ keeps_windows q route
    windows_same =
        let starts = schedule.starts in
        let places = schedule.places in
        each_same (λ i. nat_le (start p route i) (place p route i).latest) (λ i. nat_le (start q route i) (place q route i).latest) (places_of route)
        (λ i. ap (λ t. nat_le t (place p route i).latest) (starts i) ∙ ap (λ (s : Stop). nat_le (start q route i) s.latest) (places i))

    back_same : is_back_in_time p route ≡ is_back_in_time q route
    back_same =
        let starts = schedule.starts in
        ap (λ t. eqb (length route) 0 || nat_le t p.depot.latest) (starts (length route + 1))
        ∙ ap (λ (s : Stop). eqb (length route) 0 || nat_le (start q route (length route + 1)) s.latest) (agree.depot)

    times_same : keeps_times p.kind p route ≡ keeps_times q.kind q route
    times_same = by p.kind ∙ ap (λ k. keeps_times k q route) (agree.kind)
      where
        by : (kind : Kind) → keeps_times kind p route ≡ keeps_times kind q route
        by Vrp = refl
        by LiLim = ap (λ b. b && is_back_in_time p route) windows_same ∙ ap (λ b. keeps_windows q route && b) back_same

    same : feasible_alone p route ≡ feasible_alone q route
    unfolding feasible_alone
    same =
        ap (λ b. b && (picks_up_first p route && (keeps_capacity p route && keeps_times p.kind p route))) pairs_same
        ∙ ap (λ b. has_whole_pairs q route && (b && (keeps_capacity p route && keeps_times p.kind p route))) (first_same route all_numbers)
        ∙ ap (λ b. has_whole_pairs q route && (picks_up_first q route && (b && keeps_times p.kind p route))) capacity_same
        ∙ ap (λ b. has_whole_pairs q route && (picks_up_first q route && (keeps_capacity q route && b))) times_same

pub feasibility_is_local : SchedulesAgree → FeasibilityIsLocal
feasibility_is_local schedules p q route agree = same p q route agree schedules
