-- Each bound is the smaller or the greater of two coordinates.
use Rattle.std.proofs.Common.{◌∙◌, w32}
use Rattle.std.proofs.lemmas.Int.{to_z-of_z}
use Rattle.plan_picture.proofs.frame.Bounds.widened.Goals as goal

pub returns : goal.returns
returns c = λ i. record {
  left = (to_z-of_z w32 c.smaller.result (record { sfits = c.smaller.type_inv }) ∙ c.smaller.ensures) i;
  right = (to_z-of_z w32 c.larger.result (record { sfits = c.larger.type_inv }) ∙ c.larger.ensures) i;
  bottom = (to_z-of_z w32 c.smaller-2.result (record { sfits = c.smaller-2.type_inv }) ∙ c.smaller-2.ensures) i;
  top = (to_z-of_z w32 c.larger-2.result (record { sfits = c.larger-2.type_inv }) ∙ c.larger-2.ensures) i;
}
