-- The values are those of all words of the line, and no word is left.
use Rattle.std.proofs.Common.{ℕ, List, subst, sym, ◌∙◌}
use Rattle.instance_read.specs.FieldValues.{HasNumbers}
use Rattle.instance_read.proofs.FieldLemmas.{no_more}
use Rattle.instance_read.proofs.fields.values.Goals as goal

pub returns-in-None : goal.returns-in-None
returns-in-None g c =
    let limits = c.args.limits.now in
    let values = c.in_ok-values.values in
    let read = c.in_ok-values.ensures.values in
    let P : List (List ℕ) → Type 0 = λ words. HasNumbers g.row.N limits words values in
    subst P c.new-words.ensures.words (no_more g.row.N limits c.new-words.result values read (sym c.in_ok-values.ensures.rest ∙ c.in-None.ensures.steps.0), read)
