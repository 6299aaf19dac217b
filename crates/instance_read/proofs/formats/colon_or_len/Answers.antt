-- A word without a colon is all layout.
use Rattle.std.proofs.Common.{◌≡◌, ℕ, ◌≤◌, List, MatchOption, Option, Some, None, length, arith, ◌∙◌}
use Rattle.std.specs.Prelude.{unwrap_or, not}
use Rattle.std.specs.List.{position_or_len}
use Rattle.std.proofs.lemmas.List.Sums.{prefix_len-le-length}
use Rattle.instance_read.specs.VrpLines.{is_colon}
use Rattle.instance_read.proofs.formats.colon_or_len.Goals as goal

-- the place, or the length if there is none
or_len : (word : List ℕ) (o : Option ℕ) → MatchOption o (length word ≤ position_or_len is_colon word) (λ colon. colon ≡ position_or_len is_colon word)
    → unwrap_or o (length word) ≡ position_or_len is_colon word
or_len word None past = omega (arith, past, prefix_len-le-length (λ b. not (is_colon b)) word)
or_len word (Some colon) is = is

pub returns : goal.returns
returns c = c.unwrap_or.ensures ∙ or_len c.args.word.now c.colon_place.result c.colon_place.ensures.place
