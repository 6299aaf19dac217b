-- If the requests so far and the remaining ones have one stop, all requests do.
use Rattle.std.proofs.Common.{sym, ◌∙◌}
use Rattle.instance_text.specs.Formats.{is_single}
use Rattle.instance_text.proofs.WriteLemmas.{all_fails, all_passes}
use Rattle.instance_text.proofs.formats.each_is_single.Goals as goal

pub returns-then-not-is_single_at : goal.returns-then-not-is_single_at
returns-then-not-is_single_at c =
    sym (sym c.loop-index.invariant ∙ all_fails (λ e. is_single e.1) c.args.problem.now.requests c.loop-index.index (sym c.is_single_at.ensures ∙ c.if-not-is_single_at.true))

pub loop-index-preserved : goal.loop-index-preserved
loop-index-preserved c =
    sym (all_passes (λ e. is_single e.1) c.args.problem.now.requests c.loop-index.index (sym c.is_single_at.ensures ∙ c.if-not-is_single_at.false)) ∙ c.loop-index.invariant
