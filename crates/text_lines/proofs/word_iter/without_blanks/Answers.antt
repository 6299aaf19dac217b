-- The leading blanks end at the first byte that is not a blank, or at the end of the text.
use Rattle.std.proofs.Common.{drop, not, ap, ◌∙◌, rules, tests}
use Rattle.std.proofs.lemmas.Iterator.{YieldsList-from_slice}
use Rattle.std.proofs.lemmas.Iterator.Search.{position_from_yields_List}
use Rattle.std.proofs.lemmas.List.{take_rest}
use Rattle.text_lines.specs.Words.{is_blank}
use Rattle.text_lines.proofs.PlaceLemmas.{front_or_len}
use Rattle.text_lines.proofs.word_iter.without_blanks.Goals as goal

pub returns : goal.returns
returns c =
    let text = c.args.text.now in
    let len = c.unwrap_or-blanks.ensures
    ∙ front_or_len is_blank text c.position.result
    (position_from_yields_List (λ b. not (is_blank b)) _ _ c.position.result c.position.ensures.ran (YieldsList-from_slice text cc)
    (λ x b q k. search (rules, tests))) in
    take_rest text c.unwrap_or-blanks.result ∙ ap (λ n. drop n text) len
