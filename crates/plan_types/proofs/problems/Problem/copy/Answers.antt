-- A clone of the requests has the same entries, so the copy is the same problem, and its table agrees with
-- them.
use Rattle.std.proofs.Common.{rules, ◌≡◌, ◌∙◌, ap, List, Option}
use Rattle.std.proofs.lemmas.Map.Entries.{entries_from_clone}
use Rattle.plan_types.specs.StopEntry.{table_entry}
use Rattle.plan_types.specs.declared.problems.StopEntry.{StopEntry}
use Rattle.plan_types.proofs.problems.Problem.copy.Goals as goal

-- a clone of the requests has the same entries
same_requests : (c : goal.After-result-2-1) → c.in_ok-requests.requests.entries ≡ c.self.inside.requests.entries
same_requests c =
    entries_from_clone _ _ (λ x y h. search rules)
    (λ v w h. search rules) c.self.inside.requests.entries c.in_ok-requests.requests.entries c.in_ok-requests.ensures.cases

pub invariant_of-result : goal.invariant_of-result
invariant_of-result c = record {
  valid = rw (same_requests c) c.self.invariant.valid;
  by_number = λ n. rw (same_requests c)
      (ap (λ (l : List (Option StopEntry)). table_entry l n) (c.in_ok-by_number.ensures.items ∙ c.as_slice.ensures.value) ∙ c.self.invariant.by_number n);
}

pub returns : goal.returns
returns c = rw (same_requests c) c.self.view_is
