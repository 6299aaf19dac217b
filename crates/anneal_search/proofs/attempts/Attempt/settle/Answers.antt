-- A plan leaves out so few requests that after one more step each counter is at most 40,001 times the number of
-- steps, and none overflows
use Rattle.std.proofs.Common.{rules, ◌≡◌, ◌*◌, arith, ap, ◌∙◌, length}
use Rattle.std.proofs.lemmas.Result.{on_ok_weaker}
use Rattle.move_ops.specs.Drafts.{draft_of}
use Rattle.anneal_search.specs.AttemptState.{counted}
use Rattle.anneal_search.proofs.AttemptLemmas.{few_left, few_then}
use Rattle.anneal_search.proofs.attempts.Attempt.settle.Goals as goal

pub count-requires : goal.count-requires
count-requires c =
    let search_state = c.args.self.now.annealing.search_state in
    let few = few_left c.args.context.now.problem.now
    (draft_of search_state.draft) c.in_ok-left_out.left_out.items c.args.missing.now c.requires.keeps.annealing.search_state.draft.valid c.requires.missing c.in_ok-left_out.ensures in
    let same : length c.deref-2.result.now ≡ length c.in_ok-left_out.left_out.items = ap length c.deref-2.ensures.value in
    record { few = (40001 * c.args.self.now.made, c.requires.keeps.few, omega (arith, few, same, c.requires.most)) }

pub returns-then-not-follows-clause-attempt : goal.returns-then-not-follows-clause-attempt
returns-then-not-follows-clause-attempt c =
    let old = c.args.self.now in
    let counts = c.count.ensures ∙ ap (counted old.absences.items) c.deref-2.ensures.value in
    record {
      annealing = search rules;
      few =
          few_then c.args.context.now.problem.now
          (draft_of old.annealing.search_state.draft) old.made c.in_ok-left_out.left_out.items c.args.missing.now old.absences.items c.count.new.absences.items c.requires.keeps.annealing.search_state.draft.valid
          c.requires.missing c.in_ok-left_out.ensures c.requires.keeps.few counts;
    }

pub returns-clause-attempt : goal.returns-clause-attempt
returns-clause-attempt c =
    let old = c.args.self.now in
    let counts = c.count.ensures ∙ ap (counted old.absences.items) c.deref-2.ensures.value in
    let few =
    few_then c.args.context.now.problem.now (draft_of old.annealing.search_state.draft) old.made c.in_ok-left_out.left_out.items c.args.missing.now
    old.absences.items c.count.new.absences.items c.requires.keeps.annealing.search_state.draft.valid c.requires.missing
    c.in_ok-left_out.ensures c.requires.keeps.few counts in
    on_ok_weaker c.accept.result (λ h. record { annealing = h; few = few }) c.accept.ensures.annealing
