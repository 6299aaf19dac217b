-- A route is copied from the draft if the two differ, and kept if they don't. After the used parts of both
-- plans no vehicle has stops, so at the end all routes are those of the draft.
use Rattle.std.proofs.Common.{rules, ◌≡◌, ℕ, ◌+◌, ◌<◌, ◌≤◌, [], length, get_or, set, slice_get, refl, sym, ap, subst, ◌∙◌, arith}
use Rattle.std.proofs.lemmas.List.{length-set}
use Rattle.std.proofs.lemmas.Option.{slice_get_read, get_or_from_slice_get}
use Rattle.move_ops.specs.Drafts.{draft_of}
use Rattle.move_ops.specs.Insertion.{route_of}
use Rattle.seeded_search.proofs.RouteLemmas.{SameBelow, same_more, same_set, stays_more, stays_set, same_all}
use Rattle.seeded_search.proofs.incumbent.copy_draft.Goals as goal
use Rattle.seeded_search.proofs.incumbent.copy_draft.Goals.{then-ne+in_ok-from_slice, else-ne}

pub loop-index-preserved : goal.loop-index-preserved
loop-index-preserved c =
    let plan = draft_of c.args.draft.now in
    let routes = c.loop-index.routes in
    let n = c.loop-index.index in
    let below = c.loop-index-test.true in
    let high = c.reach-index-end.ensures.within in
    let long = c.loop-index.invariant.long in
    let before = c.requires.long in
    let within : n < length routes = omega arith in
    let is : c.route-stops.result.now ≡ route_of plan (n + 1) = search rules in
    elim c.if-ne.branch [
      | then-ne+in_ok-from_slice w ↦ (
          let made : c.if-ne.routes ≡ set routes n c.route-stops.result.now = search rules in
          record {
            long = ap length made ∙ (length-set routes n c.route-stops.result.now ∙ c.loop-index.invariant.long);
            same = subst (λ rs. SameBelow rs plan (n + 1)) (sym made) (same_set routes plan n c.route-stops.result.now c.loop-index.invariant.same within is);
            stays = subst (λ rs. (k : ℕ) → n + 1 ≤ k → get_or rs k [] ≡ get_or c.args.routes.now k []) (sym made)
                (stays_set c.args.routes.now routes n c.route-stops.result.now c.loop-index.invariant.stays);
          })
      | else-ne w ↦ (
          let made : c.if-ne.routes ≡ routes = search rules in
          let same : c.index-as_slice-index.result ≡ c.route-stops.result.now = search rules in
          let inside : n < length c.as_slice.result.now = search rules in
          let there = ap (λ rs. slice_get rs n) (sym c.as_slice.ensures)
          ∙ slice_get_read c.as_slice.result.now (length c.as_slice.result.now) n c.index-as_slice-index.result refl inside c.index-as_slice-index.is in
          record {
            long = ap length made ∙ c.loop-index.invariant.long;
            same = subst (λ rs. SameBelow rs plan (n + 1)) (sym made)
                (same_more routes plan n c.loop-index.invariant.same (get_or_from_slice_get routes n c.index-as_slice-index.result [] there ∙ (same ∙ is)));
            stays = subst (λ rs. (k : ℕ) → n + 1 ≤ k → get_or rs k [] ≡ get_or c.args.routes.now k []) (sym made) (stays_more c.args.routes.now routes n c.loop-index.invariant.stays);
          })
    ]

pub returns : goal.returns
returns c =
    let end : c.loop-index.index ≡ c.reach-index-end.result = search rules in
    same_all c.args.routes.now c.loop-index.routes
    (draft_of c.args.draft.now) c.loop-index.index c.args.used_len c.used_len.result c.loop-index.invariant.long c.requires.long c.loop-index.invariant.same c.loop-index.invariant.stays
    (subst (λ n. (v : ℕ) → n < v → v ≤ length c.args.routes.now → (c.args.used_len < v) × (c.used_len.result < v)) (sym end) c.reach-index-end.ensures.enough) c.requires.idle c.used_len.ensures.idle
