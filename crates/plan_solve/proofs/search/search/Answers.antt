-- An operation of the search and the remaining steps make up the whole search.
use Rattle.std.proofs.Common.{◌≡◌, ◌∙◌, ◌+◌, ◌-◌, ap, sym, rules, arith}
use Rattle.command_core.specs.Effects.{effect}
use Rattle.command_types.specs.declared.commands.Command.TheVariants.{Search}
use Rattle.plan_solve.proofs.SearchLemmas.{more_made, none_made}
use Rattle.plan_solve.proofs.search.search.Goals as goal

pub loop-left-preserved : goal.loop-left-preserved
loop-left-preserved c =
    let l = c.loop-left in
    let count = c.next_count-count.result in
    let left = l.left - c.from-left.result in
    let adds : count + left ≡ l.left = omega (arith, c.from-left.ensures, c.next_count-count.ensures.most) in
    ap (λ s. effect s (Search left)) c.in_ok-execute.ensures ∙ more_made c.searches_add_up.ensures.two c.searches_add_up.ensures.many l.planner count left l.left adds ∙ l.invariant

pub returns : goal.returns
returns c =
    let none : c.loop-left.left ≡ 0 = search rules in
    sym (none_made c.searches_add_up.ensures.two c.searches_add_up.ensures.many c.loop-left.planner)
    ∙ ap (λ n. effect c.loop-left.planner (Search n)) (sym none) ∙ c.loop-left.invariant
