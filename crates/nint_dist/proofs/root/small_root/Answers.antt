-- If the product is this close to the number, the nearest root is the guess or the next number.
use Rattle.std.proofs.Common.{◌+◌, sym, subst, ◌∙◌, ap}
use Rattle.nint_dist.specs.NearestRoot.{IsNearestRoot}
use Rattle.nint_dist.proofs.Roots.{beside, as_sum}
use Rattle.nint_dist.proofs.root.small_root.Goals as goal

pub returns-then-s-product : goal.returns-then-s-product
returns-then-s-product c =
    let guess = c.from-guess.result in
    subst (IsNearestRoot c.args.s) (as_sum guess _ ∙ ap (λ k. guess + k) (sym c.from.ensures))
    (beside c.args.s guess (λ _. c.if-product-s.true) c.if-s-product.true)
