-- The next word has the value of the next field, and the words after it are left.
use Rattle.std.proofs.Common.{drop, arith, ◌∙◌, ap, w32, rules}
use Rattle.std.proofs.lemmas.List.{drop-drop, length-set}
use Rattle.std.proofs.lemmas.Int.{to_z-of_z}
use Rattle.std.specs.Prelude.{FitsSigned}
use Rattle.instance_read.proofs.FieldLemmas.{values_more}
use Rattle.instance_read.proofs.fields.next_values.Goals as goal

pub loop-i-preserved : goal.loop-i-preserved
loop-i-preserved g c =
    let i = c.loop-i.i in
    let words = c.args.words.now in
    let value = c.in_ok-values.field-0 in
    let fits : FitsSigned w32 value = search rules in
    record {
      rest = c.next_value.ensures.rest ∙ ap (λ ws. drop 1 ws) c.loop-i.invariant.rest ∙ drop-drop 1 i words;
      sized = simp length-set c.loop-i.invariant.sized;
      read = rw (to_z-of_z w32 value fits) (values_more c.args.limits.now words c.loop-i.words c.loop-i.values i value
          (omega (arith, c.loop-i.invariant.sized)) c.loop-i.invariant.rest c.loop-i.invariant.read c.in_ok-values.ensures.value);
    }
