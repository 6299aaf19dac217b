-- The result is the place of the first tab, or the length of the line if there is none.
use Rattle.std.proofs.Common.{◌∙◌, rules, tests}
use Rattle.std.proofs.lemmas.Iterator.{YieldsList-from_slice}
use Rattle.std.proofs.lemmas.Iterator.Search.{position_from_yields_List}
use Rattle.text_lines.proofs.PlaceLemmas.{place_or_len}
use Rattle.auditor_cli.specs.Columns.{is_tab}
use Rattle.auditor_cli.proofs.columns.tab_at.Goals as goal

pub returns-clause-value : goal.returns-clause-value
returns-clause-value c =
    let text = c.args.line.now in
    c.unwrap_or.ensures
    ∙ place_or_len is_tab text c.position.result
    (position_from_yields_List is_tab _ _ c.position.result c.position.ensures.ran (YieldsList-from_slice text cc) (λ x b q k. search (rules, tests)))
