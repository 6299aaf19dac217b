-- All requests are pairs if the remaining ones are.
use Rattle.std.proofs.Common.{◌≡◌, drop}
use Rattle.std.specs.List.{list_all}
use Rattle.instance_text.specs.Formats.{is_pair}
use Rattle.instance_text.proofs.formats.are_pairs.Given as goal

abbrev pub invariant-loop-index : goal.invariant-loop-index
invariant-loop-index l = list_all (λ e. is_pair e.1) (drop l.index l.problem.requests) ≡ list_all (λ e. is_pair e.1) l.problem.requests
