-- The value of DIMENSION is taken within its limits, unless an earlier line has the key.
use Rattle.std.proofs.Common.{◌∷◌, [], ap, ◌∙◌, get_or, pos, w32, rules, arith}
use Rattle.std.proofs.lemmas.Int.{to_z-of_z}
use Rattle.std.specs.Int.RustNames.{unsigned_abs}
use Rattle.std.specs.Prelude.{FitsSigned}
use Rattle.text_lines.specs.Words.{words_of}
use Rattle.instance_read.proofs.NumberLemmas.{value_is}
use Rattle.instance_read.proofs.VrpFieldLemmas.{dimension_none, dimension_repeated}
use Rattle.instance_read.proofs.vrp_fields.read_dimension.Goals as goal

pub returns-then-stands-clause-read : goal.returns-then-stands-clause-read
returns-then-stands-clause-read c =
    dimension_repeated c.args.stands (words_of c.args.value.now) c.in-Ok.values c.in-Ok.ensures c.if-stands.true

pub returns-clause-read : goal.returns-clause-read
returns-clause-read c =
    let words = words_of c.args.value.now in
    let values = c.in-Ok.values in
    let fits : FitsSigned w32 (get_or values 0 (pos 0)) = search rules in (
      dimension_none c.args.stands words values c.in-Ok.ensures c.if-stands.false,
      c.unsigned_abs.ensures.value ∙ ap unsigned_abs (to_z-of_z w32 (get_or values 0 (pos 0)) fits ∙ value_is 1 ((pos 2, pos 40001) ∷ []) words values c.in-Ok.ensures 0 (omega arith)),
    )
