-- A request with free numbers also has a free name. So the problem with it is valid, and its table has the
-- entries of all requests.
use Rattle.std.proofs.Common.{rules, List, Option, sym, ap, ◌∙◌}
use Rattle.plan_types.specs.Request.{IsRequest}
use Rattle.plan_types.specs.StopEntry.{instance_of, entry_in, table_entry}
use Rattle.plan_types.specs.Instance.{IsTaken}
use Rattle.plan_types.proofs.InstanceLemmas.{IsInstance-with_request}
use Rattle.plan_types.proofs.InsertLemmas.{splits_free}
use Rattle.plan_types.proofs.LookupLemmas.{lookup-name-free, by_number-asks, found-with_entry, take-overwritten}
use Rattle.std.specs.Option.{option_or}
use Rattle.plan_types.specs.declared.problems.StopEntry.{StopEntry}
use Rattle.plan_types.proofs.problems.Problem.add.Goals as goal

pub insert_by_name-requires-clause-absent : goal.insert_by_name-requires-clause-absent
insert_by_name-requires-clause-absent c =
    let free : IsTaken (instance_of c.self.inside) c.args.request → ⊥ = search rules in
    lookup-name-free (instance_of c.self.inside) c.args.request c.self.invariant.valid free

pub invariant_of-self-2 : goal.invariant_of-self-2
invariant_of-self-2 c =
    let p = instance_of c.self.inside in
    let fits : IsRequest c.args.request = search rules in
    let free : IsTaken (instance_of c.self.inside) c.args.request → ⊥ = search rules in
    let put = c.in_ok-insert_by_name.ensures in
    record {
      valid = rw (put.ok, c.max-self-inside.ensures, c.number_after-after.ensures)
          (IsInstance-with_request p c.args.request c.self.invariant.valid fits free (splits_free p c.args.request c.self.invariant.valid free));
      by_number = λ n.
          rw (put.ok)
          (ap (λ (l : List (Option StopEntry)). table_entry l n)
          (take-overwritten c.make_room.new.by_number.len c.add_to_table.new.by_number c.make_room.new.by_number.items (search rules))
          ∙ c.add_to_table.ensures n
          ∙ ap (option_or (entry_in n c.args.request))
          (ap (λ (l : List (Option StopEntry)). table_entry l n) c.deref_mut.ensures.value ∙ c.in_ok-make_room.ensures.same n ∙ c.self.invariant.by_number n)
          ∙ sym (found-with_entry p c.args.request n (entry_in n) (by_number-asks n) free (splits_free p c.args.request c.self.invariant.valid free)));
    }
