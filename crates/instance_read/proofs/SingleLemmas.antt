-- The requests of customers in ascending order: each can be added, and comes after those with smaller numbers.
use Rattle.std.proofs.Common.{◌≡◌, ℕ, ◌+◌, ◌<◌, List, [], ◌∷◌, ◌++◌, length, get_or, take, map, cond, Some, None, refl, sym, ap, subst, ◌∙◌, arith, pos}
use Rattle.std.specs.Prelude.{◌≤ℤ◌}
use Rattle.std.specs.List.{AllByRecursion}
use Rattle.std.specs.Option.{option_or}
use Rattle.std.proofs.lemmas.Bool.{ne_eqb}
use Rattle.std.proofs.lemmas.List.{get_or-take, length-take, map-append, take_more}
use Rattle.std.proofs.lemmas.List.Elements.{All-from_recursion, recursion_from_All}
use Rattle.plan_types.specs.Instance.{Instance, IsTaken, first_some, new_instance, numbers_among, stop_at, with_entry}
use Rattle.plan_types.specs.Request.{IsRequest, stop_in}
use Rattle.plan_types.specs.declared.requests.Kind.TheVariants.{LiLim}
use Rattle.plan_types.specs.declared.requests.Request.{Request}
use Rattle.plan_types.specs.declared.requests.Request.TheVariants.{Single}
use Rattle.instance_read.specs.declared.tasks.FleetLine.{FleetLine}
use Rattle.instance_read.specs.declared.tasks.Task.{Task}
use Rattle.instance_read.specs.Lilim.{depot_from}
use Rattle.instance_read.specs.Pairs.{last_number}
use Rattle.instance_read.specs.Solomon.{single_of, singles_problem}
use Rattle.instance_read.specs.Tables.{AreLoads, AreTasks, AscendsFrom, IsCustomer}
use Rattle.instance_read.proofs.PairLemmas.{all_below_last, ascending_at, below_next, not_some, with_entry-last}

-- the numbers of these customers are below n
abbrev AreBelow : ℕ → List Task → Type 0
AreBelow n ts = AllByRecursion (λ t. t.stop.number < n) ts

none_has : (n : ℕ) (ts : List Task) → AreBelow n ts → first_some (stop_in n) (map single_of ts) ≡ None
none_has n [] below = refl
none_has n (t ∷ ts) below =
    ap (λ b. option_or (cond b (Some t.stop) None) (first_some (stop_in n) (map single_of ts))) (ne_eqb t.stop.number n (λ e. omega (arith, e, below.0)))
    ∙ none_has n ts below.1

names_below : (n : ℕ) (ts : List Task) → AreBelow n ts → AllByRecursion (λ (e : ℕ × Request). e.0 < n) (map single_of ts)
names_below n [] below = tt
names_below n (t ∷ ts) below = (below.0, names_below n ts below.1)

numbers_below : (n : ℕ) (ts : List Task) → AreBelow n ts → AllByRecursion (λ m. m < n) (numbers_among (map single_of ts))
numbers_below n [] below = tt
numbers_below n (t ∷ ts) below = (below.0, numbers_below n ts below.1)

-- one step of a loop over the customers: the request of the customer t at place i
module _ (tasks : List Task) (i : ℕ) (t : Task) (valid : AllByRecursion IsCustomer tasks) (loads : AreLoads tasks) (ascending : AscendsFrom 0 tasks) (l : i < length tasks)
    (at : t ≡ get_or tasks i t) where
  pub single_valid : IsRequest (Single t.stop)
  single_valid =
      let P : Task → Type 0 = λ u. IsRequest (Single u.stop) in
      let customer = All-from_recursion IsCustomer tasks valid i t l in
      let load = All-from_recursion (λ u. pos 0 ≤ℤ u.stop.demand) tasks loads i t l in
      subst P (sym at) (customer.stop, (load, customer.demand))

  earlier : AreBelow t.stop.number (take i tasks)
  earlier =
      let P : Task → Type 0 = λ u. AreBelow u.stop.number (take i tasks) in
      subst P (sym at) (recursion_from_All (λ u. u.stop.number < (get_or tasks i t).stop.number) (take i tasks) (λ k e h.
      let small : k < i = omega (arith, length-take i tasks) in
      rw get_or-take (ascending_at 0 tasks k i t e ascending small l)))

  pub single_free : (problem : Instance) → problem.requests ≡ map single_of (take i tasks) → IsTaken problem (Single t.stop) → ⊥
  single_free problem is taken =
      not_some (stop_at problem t.stop.number) (ap (first_some (stop_in t.stop.number)) is ∙ none_has t.stop.number (take i tasks) earlier) taken

  pub single_last : with_entry (map single_of (take i tasks)) (Single t.stop) ≡ map single_of (take (i + 1) tasks)
  single_last =
      with_entry-last t.stop.number (map single_of (take i tasks)) (Single t.stop) refl (names_below t.stop.number (take i tasks) earlier)
      ∙ ap (λ u. map single_of (take i tasks) ++ single_of u ∷ []) at
      ∙ sym (map-append single_of (take i tasks) (get_or tasks i t ∷ []))
      ∙ sym (ap (map single_of) (take_more tasks i t l))

-- the problem after its requests are added and its next number is set
module _ (depot : Task) (tasks : List Task) (known : AreTasks depot tasks) where
  pub singles_above : AllByRecursion (λ m. m < last_number depot tasks + 1) (numbers_among (map single_of tasks))
  singles_above =
      let P : ℕ → Type 0 = λ n. AscendsFrom n tasks in
      numbers_below (last_number depot tasks + 1) tasks
      (below_next (last_number depot tasks) tasks (all_below_last depot tasks (subst P (sym known.first) known.ascending)))

pub singles_finished : (header : FleetLine) (depot : Task) (tasks : List Task) (fresh put done : Instance) (n : ℕ)
    → fresh ≡ new_instance LiLim (depot_from depot) header.capacity header.fleet → put ≡ record fresh { requests = map single_of tasks; next_number = put.next_number }
    → done ≡ record put { next_number = n } → n ≡ last_number depot tasks + 1 → done ≡ singles_problem header.fleet header.capacity depot tasks
singles_finished header depot tasks fresh put done n new puts sets next =
    sets
    ∙ ap (λ (p : Instance). record p { next_number = n }) puts
    ∙ ap (λ (p : Instance). record p { requests = map single_of tasks; next_number = n }) new
    ∙ ap (λ k. record (new_instance LiLim (depot_from depot) header.capacity header.fleet) { requests = map single_of tasks; next_number = k }) next
