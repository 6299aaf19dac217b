-- The problem without the request is valid, and the table without the request's stops agrees with it.
use Rattle.std.proofs.Common.{rules, ◌≡◌, List, Option, Some, None, nat_eq, ap, ◌∙◌, cond, is_some}
use Rattle.std.specs.Map.{lookup}
use Rattle.plan_types.specs.Instance.{Instance, without_request}
use Rattle.plan_types.specs.Request.{stop_in}
use Rattle.plan_types.specs.StopEntry.{instance_of, table_entry}
use Rattle.plan_types.specs.declared.problems.StopEntry.{StopEntry}
use Rattle.plan_types.proofs.LookupLemmas.{take-overwritten}
use Rattle.plan_types.proofs.TakeLemmas.{reaches, cleared, removed, IsInstance-without_request}
use Rattle.plan_types.proofs.problems.Problem.take.Goals as goal

pub remove_from_table-requires : goal.remove_from_table-requires
remove_from_table-requires c =
    let at : lookup (nat_eq c.args.name) c.self.inside.requests.entries ≡ Some c.in_ok-request.request = search rules in
    rw (c.deref_mut.ensures.value)
    (reaches (instance_of c.self.inside) c.args.name c.in_ok-request.request c.self.inside.by_number.items c.self.invariant.valid c.self.invariant.by_number at)

pub returns-in_err-request-clause-after : goal.returns-in_err-request-clause-after
returns-in_err-request-clause-after c =
    let left = c.in_err-request.ensures.entries ∙ removed c.self.inside.requests.entries c.args.name c.self.invariant.valid.ascending in
    rw (left) (ap (λ (p : Instance). without_request p c.args.name) c.self.view_is)

pub invariant_of-self-2 : goal.invariant_of-self-2
invariant_of-self-2 c =
    let p = instance_of c.self.inside in
    let at : lookup (nat_eq c.args.name) c.self.inside.requests.entries ≡ Some c.in_ok-request.request = search rules in
    let left = c.in_ok-request.ensures.entries ∙ removed c.self.inside.requests.entries c.args.name c.self.invariant.valid.ascending in
    record {
      valid = rw (left) (IsInstance-without_request p c.args.name c.self.invariant.valid);
      by_number = λ n.
          rw (left)
          (ap (λ (l : List (Option StopEntry)). table_entry l n)
          (take-overwritten c.self.inside.by_number.len c.remove_from_table.new.by_number c.self.inside.by_number.items (search rules))
          ∙ c.remove_from_table.ensures n
          ∙ ap (cond (is_some (stop_in n c.in_ok-request.request)) None)
          (ap (λ (l : List (Option StopEntry)). table_entry l n) c.deref_mut.ensures.value ∙ c.self.invariant.by_number n)
          ∙ cleared p c.args.name n c.in_ok-request.request c.self.invariant.valid at);
    }

pub returns-clause-after : goal.returns-clause-after
returns-clause-after c =
    let left = c.in_ok-request.ensures.entries ∙ removed c.self.inside.requests.entries c.args.name c.self.invariant.valid.ascending in
    rw (left) (ap (λ (p : Instance). without_request p c.args.name) c.self.view_is)
