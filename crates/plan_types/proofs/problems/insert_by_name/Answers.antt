-- A request with a new name goes last if all names are smaller, otherwise between the last smaller and the
-- first greater name.
use Rattle.std.proofs.Common.{sym, ◌∙◌, ◌≡◌, None, subst, nat_eq, ℕ}
use Rattle.std.specs.Map.{lookup}
use Rattle.plan_types.proofs.InsertLemmas.{inserted_before, inserted_last, with_entry-at}
use Rattle.plan_types.proofs.problems.insert_by_name.Goals as goal

pub returns-clause-ok : goal.returns-clause-ok
returns-clause-ok c =
    let es = c.args.requests.now.entries in
    let named = c.name-name.ensures in
    let place = c.insertion_place-place in
    let absent : lookup (nat_eq c.name-name.result) es ≡ None = subst (λ (n : ℕ). lookup (nat_eq n) es ≡ None) (sym named) c.requires.absent in
    c.in_ok-insert_before.ensures.entries
    ∙ inserted_before c.name-name.result c.args.request es place.result c.in_ok-insert_before.field-0.0 place.ensures.within absent
    c.in_ok-insert_before.ensures.index
    ∙ with_entry-at es c.name-name.result c.args.request place.result named place.ensures.lesser place.ensures.greater

pub returns-then-is_above_all-clause-ok : goal.returns-then-is_above_all-clause-ok
returns-then-is_above_all-clause-ok c =
    let named = c.name-name.ensures in
    let es = c.args.requests.now.entries in
    c.in_ok-insert.ensures.entries
    ∙ inserted_last c.name-name.result es (c.is_above_all.ensures.0 c.if-is_above_all.true) c.args.request named
    (subst (λ (n : ℕ). lookup (nat_eq n) es ≡ None) (sym named) c.requires.absent)
