-- The customers of a draft as requests.
use Rattle.std.proofs.Common.{◌≡◌, ℕ, zero, suc, ◌+◌, ◌-◌, ◌<◌, ◌≤◌, true, false, cond, ⊎_elim, List, length, map, eqb, Option, Some, None, refl, sym, ap, subst, ◌∙◌, arith, ℤ, pos, w32}
use Rattle.std.specs.Prelude.{All, FitsSigned, IfSome, is_some, unwrap_or, slice_index_or}
use Rattle.std.specs.List.{AllByRecursion, range_with_len}
use Rattle.std.specs.Option.{option_or}
use Rattle.std.specs.Prelude.{max}
use Rattle.std.proofs.lemmas.Bool.{cases_lt, false≢true, ne_eqb}
use Rattle.std.proofs.lemmas.Int.{ints}
use Rattle.std.proofs.lemmas.List.{get_or_past}
use Rattle.std.proofs.lemmas.List.FromFn.{map-range_with_len_more}
use Rattle.plan_types.specs.Instance.{Instance, IsTaken, first_some, stop_at, with_request}
use Rattle.plan_types.specs.Limits.{IsCapacity, IsDemand, IsDepot, IsFleet, IsVisit}
use Rattle.plan_types.specs.Request.{IsRequest, stop_in}
use Rattle.plan_types.specs.declared.requests.Request.{Request}
use Rattle.plan_types.specs.declared.requests.Request.TheVariants.{Single}
use Rattle.plan_types.specs.declared.requests.Stop.{Stop}
use Rattle.instance_read.specs.declared.vrp_draft.VrpDraft.{VrpDraft}
use Rattle.instance_read.specs.Drafts.{IsDraft, IsPoint, nodes_in}
use Rattle.instance_read.specs.DraftLines.{customer_in, customers_in, demand_at, drafted_stop, point_at}
use Rattle.instance_read.specs.Scales.{times_ℤ}
use Rattle.instance_read.proofs.PairLemmas.{not_some, with_entry-last}
use Rattle.instance_read.proofs.ScaleLemmas.{coordinate_fits, origin_within}

-- an entry within its limits, or the default, which is within them too
module _ {X : Type 0} (P : X → Type 0) (default : X) (here : P default) where
  entry_within : (o : Option X) → IfSome o P → P (unwrap_or o default)
  entry_within None h = here
  entry_within (Some x) h = h

  table_within : (table : List (Option X)) → All (λ entry. IfSome entry P) table → (n : ℕ) → P (unwrap_or (slice_index_or table n None) default)
  table_within table all n =
      let Q : Option X → Type 0 = λ o. P (unwrap_or o default) in
      ⊎_elim
      (λ l. entry_within (slice_index_or table n None) (all n None l))
      (λ past. subst Q (sym (get_or_past table n None past)) here)
      (cases_lt n (length table))

module _ (draft : VrpDraft) (valid : IsDraft draft) where
  point_within : (n : ℕ) → IsPoint draft.scale (point_at draft n)
  point_within n = table_within (IsPoint draft.scale) (pos 0, pos 0) (origin_within draft.scale) draft.coordinates.items valid.coordinates n

  -- the products of a point with the scale fit their types
  pub point_fits : (n : ℕ) (p : ℤ × ℤ) → p ≡ point_at draft n → FitsSigned w32 (times_ℤ draft.scale p.0) × FitsSigned w32 (times_ℤ draft.scale p.1)
  point_fits n p is =
      let P : ℤ × ℤ → Type 0 = λ q. FitsSigned w32 (times_ℤ draft.scale q.0) × FitsSigned w32 (times_ℤ draft.scale q.1) in
      subst P (sym is) (coordinate_fits _ (point_within n).0, coordinate_fits _ (point_within n).1)

  pub demand_within : (n : ℕ) → IsDemand (demand_at draft n)
  demand_within n = table_within IsDemand (pos 0) (grind (arith, ints), grind (arith, ints)) draft.demands.items valid.demands n

  pub visit_within : (demand : ℤ) (n : ℕ) → IsVisit (drafted_stop draft demand n)
  visit_within demand n = record { x = (point_within n).0; y = (point_within n).1; window = omega arith; latest = omega arith; service = omega arith }

  pub depot_valid : (s : Stop) → s ≡ drafted_stop draft (pos 0) 0 → IsDepot s
  depot_valid s is = subst IsDepot (sym is) (record { number = refl; demand = refl; service = refl; visit = visit_within (pos 0) 0 })

  capacity_within : (o : Option ℕ) → IfSome o IsCapacity → IsCapacity (unwrap_or o 0)
  capacity_within None h = omega arith
  capacity_within (Some n) h = h

  pub capacity_valid : (n : ℕ) → n ≡ unwrap_or draft.capacity 0 → IsCapacity n
  capacity_valid n is = subst IsCapacity (sym is) (capacity_within draft.capacity valid.capacity)

  fleet_within : (o : Option ℕ) → is_some o ≡ true → IfSome o (λ n. (2 ≤ n) × (n ≤ 40001)) → IsFleet (unwrap_or o 0 - 1)
  fleet_within None some h = absurd (false≢true some)
  fleet_within (Some n) some h = (omega (arith, h.0), omega (arith, h.1))

  pub fleet_valid : is_some draft.nodes ≡ true → (n : ℕ) → n ≡ nodes_in draft → IsFleet (n - 1)
  fleet_valid some n is = let P : ℕ → Type 0 = λ k. IsFleet (k - 1) in subst P (sym is) (fleet_within draft.nodes some valid.nodes)

  max_nodes : (o : Option ℕ) → IfSome o (λ n. (2 ≤ n) × (n ≤ 40001)) → unwrap_or o 0 ≤ 40001
  max_nodes None h = omega arith
  max_nodes (Some n) h = h.1

  pub customer_valid : (n : ℕ) → 1 ≤ n → n < nodes_in draft → IsRequest (Single (drafted_stop draft (demand_at draft n) n))
  customer_valid n one below =
      (record { from_one = one; to_max = omega (arith, below, max_nodes draft.nodes valid.nodes); visit = visit_within (demand_at draft n) n }, demand_within n)

-- a number above those of the customers is free
none_before : (draft : VrpDraft) (n from count : ℕ) → from + count ≤ n → first_some (stop_in n) (map (customer_in draft) (range_with_len from count)) ≡ None
none_before draft n from zero le = refl
none_before draft n from (suc count) le =
    let other : eqb from n ≡ false = ne_eqb from n (omega (arith, le)) in
    ap (λ b. option_or (cond b (Some (drafted_stop draft (demand_at draft from) from)) None) (first_some (stop_in n) (map (customer_in draft) (range_with_len (from + 1) count)))) other
    ∙ none_before draft n (from + 1) count (omega (arith, le))

pub customer_free : (draft : VrpDraft) (problem : Instance) (n : ℕ) → 1 ≤ n → problem.requests ≡ customers_in draft (n - 1) → IsTaken problem (Single (drafted_stop draft (demand_at draft n) n)) → ⊥
customer_free draft problem n one is taken =
    not_some (stop_at problem n) (ap (first_some (stop_in n)) is ∙ none_before draft n 1 (n - 1) (omega (arith, one))) taken

all_below : (draft : VrpDraft) (n from count : ℕ) → from + count ≤ n → AllByRecursion (λ (e : ℕ × Request). e.0 < n) (map (customer_in draft) (range_with_len from count))
all_below draft n from zero le = tt
all_below draft n from (suc count) le = (omega (arith, le), all_below draft n (from + 1) count (omega (arith, le)))

-- adding the next customer to the problem of the customers before it
pub customer_put : (draft : VrpDraft) (base before after : Instance) (n : ℕ) → 1 ≤ n → before ≡ record base { requests = customers_in draft (n - 1); next_number = n }
    → after ≡ with_request before (Single (drafted_stop draft (demand_at draft n) n)) → after ≡ record base { requests = customers_in draft n; next_number = n + 1 }
customer_put draft base before after n one is put =
    let s = drafted_stop draft (demand_at draft n) n in
    let es = customers_in draft (n - 1) in
    let count : n - 1 + 1 ≡ n = omega (arith, one) in
    let more = with_entry-last n es (Single s) refl (all_below draft n 1 (n - 1) (omega (arith, one)))
    ∙ sym (map-range_with_len_more (customer_in draft) 1 (n - 1) n (omega (arith, one))) ∙ ap (λ k. customers_in draft k) count in
    let next : max n (n + 1) ≡ n + 1 = omega arith in
    put ∙ ap (λ p. with_request p (Single s)) is
    ∙ ap (λ xs. record base { requests = xs; next_number = max n (n + 1) }) more
    ∙ ap (λ k. record base { requests = customers_in draft n; next_number = k }) next
