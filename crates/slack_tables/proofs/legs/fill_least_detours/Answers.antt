-- The smaller one of the detour here and the least later detour is a lower bound on all detours from here on.
use Rattle.std.proofs.Common.{◌≡◌, ◌∙◌, ◌+◌, ◌-◌, w64, to_z, of_z, rules, pos, set, get_or, ◌^◌, ◌≤◌, ◌≤ℤ◌, arith, subst, sym, ap}
use Rattle.std.specs.Prelude.{unsigned_abs}
use Rattle.std.specs.Int.{int_min}
use mir.Val.{SFits}
use Rattle.std.proofs.lemmas.Int.{to_z-of_z}
use Rattle.nint_dist.specs.Distance.{distance}
use Rattle.slack_tables.specs.Legs.{detour_of}
use Rattle.slack_tables.proofs.LegLemmas.{AreLeastFrom, detour-below, least-more}
use Rattle.slack_tables.proofs.legs.fill_least_detours.Goals as goal

pub loop-k-preserved : goal.loop-k-preserved
loop-k-preserved c =
    let is = c.loop-k.invariant in
    let next : c.loop-k.k ≡ c.loop-k.k - 1 + 1 = omega arith in
    let small : unsigned_abs (get_or c.loop-k.least (c.loop-k.k - 1 + 1) (pos 0)) ≤ 2 ^ 60 =
    subst (λ k. unsigned_abs (get_or c.loop-k.least k (pos 0)) ≤ 2 ^ 60) next
    (is.least.small c.loop-k.k (omega arith) (let long = is.least.long in omega arith)) in
    let fits_next : SFits w64 (get_or c.loop-k.least (c.loop-k.k - 1 + 1) (pos 0)) = record { sfits = omega arith } in
    let made : c.min_of.result ≡ int_min c.detour.result (get_or c.loop-k.least (c.loop-k.k - 1 + 1) (pos 0)) =
    c.min_of.ensures
    ∙ (ap (λ x. int_min x (to_z w64 (of_z w64 (get_or c.loop-k.least (c.loop-k.k - 1 + 1) (pos 0)))))
    (to_z-of_z w64 c.detour.result (search rules))
    ∙ ap (λ x. int_min c.detour.result x) (to_z-of_z w64 (get_or c.loop-k.least (c.loop-k.k - 1 + 1) (pos 0)) fits_next)) in
    record {
      following = let following = is.following in omega arith;
      least =
          subst (λ x. AreLeastFrom c.args.places.now c.args.stop.now (c.loop-k.k - 1) (set c.loop-k.least (c.loop-k.k - 1) x))
          (sym (to_z-of_z w64 c.min_of.result (search rules)))
          (least-more c.args.places.now c.args.stop.now (c.loop-k.k - 1) c.loop-k.least c.detour.result c.min_of.result
          (subst (λ k. AreLeastFrom c.args.places.now c.args.stop.now k c.loop-k.least) next is.least) (omega arith)
          (λ d. subst (λ x. x ≤ℤ detour_of c.args.places.now c.args.stop.now (c.loop-k.k - 1) d) (sym (c.detour.ensures.value))
          (detour-below c.args.places.now c.args.stop.now (c.loop-k.k - 1) d _ _ c.leg_lower_bound-to.result c.loop-k.from
          (c.small_row-here.ensures.place d) (c.small_row-next.ensures.place d) (c.leg_lower_bound-to.ensures.value d)
          (subst (λ k. c.loop-k.from ≤ distance (get_or c.args.places.now k d).at.stop c.args.stop.now) next (is.from d))))
          made c.detour.ensures.small);
      from = c.leg_lower_bound-to.ensures.value;
      bound = c.leg_lower_bound-to.ensures.bound;
    }
