-- If the requests so far and the remaining ones are pairs, all requests are.
use Rattle.std.proofs.Common.{sym, ◌∙◌}
use Rattle.instance_text.specs.Formats.{is_pair}
use Rattle.instance_text.proofs.WriteLemmas.{all_fails, all_passes}
use Rattle.instance_text.proofs.formats.are_pairs.Goals as goal

pub returns-then-not-is_pair_at : goal.returns-then-not-is_pair_at
returns-then-not-is_pair_at c =
    sym (sym c.loop-index.invariant ∙ all_fails (λ e. is_pair e.1) c.args.problem.now.requests c.loop-index.index (sym c.is_pair_at.ensures ∙ c.if-not-is_pair_at.true))

pub loop-index-preserved : goal.loop-index-preserved
loop-index-preserved c =
    sym (all_passes (λ e. is_pair e.1) c.args.problem.now.requests c.loop-index.index (sym c.is_pair_at.ensures ∙ c.if-not-is_pair_at.false)) ∙ c.loop-index.invariant
