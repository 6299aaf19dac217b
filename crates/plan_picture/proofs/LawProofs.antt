-- The contents of every picture.
use Rattle.std.proofs.Common.{◌≡◌, ◌∙◌, ℕ, ◌+◌, Bool, true, false, List, [], ◌++◌, map, ap, sym, subst, arith, refl}
use Rattle.std.specs.Prelude.{is_some, length, if◌then◌else◌}
use Rattle.std.specs.Option.{option_map}
use Rattle.std.specs.List.{flat_map}
use Rattle.std.proofs.lemmas.Option.{slice_get-map}
use Rattle.plan_types.specs.Instance.{Instance}
use Rattle.plan_types.specs.Laws.{StopsAreBelowNext}
use Rattle.plan_types.specs.declared.requests.Stop.{Stop}
use Rattle.plan_audit.specs.declared.rules.Verdict.{Verdict}
use Rattle.plan_picture.specs.Days.{days_text}
use Rattle.plan_picture.specs.Heads.{title_text, unserved_text}
use Rattle.plan_picture.specs.DrawnStops.{kept_of, stops_in_order, unserved}
use Rattle.plan_picture.specs.Labels.{labels_of}
use Rattle.plan_picture.specs.Laws.{frame_of, IsIn, RoutesAreDrawn, StopsAreMarked, stop_mark}
use Rattle.plan_picture.specs.Map.{
  is_delivery,
  labels_text,
  line_text,
  lines_text,
  map_in,
  mark_text,
  marks_text,
  opening_text,
  upper_mark,
  upper_layer_text,
  pairs_text,
  rings_text,
  lower_mark,
  lower_shape,
  lower_layer_text,
}
use Rattle.plan_picture.specs.Picture.{broken_route, broken_stop, map_and_table_text, sized_head, whole_text}
use Rattle.plan_picture.specs.Svg.{each}
use Rattle.plan_picture.specs.Table.{grid_of, rows_text}
use Rattle.plan_picture.specs.Tags.{fixed}
use Rattle.plan_picture.specs.declared.frame.Frame.{Frame}
use Rattle.plan_picture.specs.declared.tags.Tag.TheVariants as tags
use Rattle.plan_picture.proofs.PartLemmas.{in_left, in_right, route_in_all, stop_in_all}

-- the map of all routes
map_of : Instance → List (List ℕ) → Verdict → List ℕ
map_of p kept verdict = map_in (frame_of p) p (stops_in_order p) 1 kept (broken_route verdict) (broken_stop verdict)

-- A part of the map is a part of the picture.
in_picture : (a : List ℕ) (p : Instance) (kept : List (List ℕ)) (verdict : Verdict) → IsIn a (map_of p kept verdict) → IsIn a (whole_text p kept verdict ++ fixed tags.End)
unfolding whole_text map_and_table_text map_of
in_picture a p kept verdict within =
    let head = sized_head p (length kept) ++ title_text p kept verdict 0 ++ unserved_text (length (unserved kept (stops_in_order p))) in
    let map = map_of p kept verdict in
    let rows = rows_text p (grid_of p.kind (length kept)) (broken_route verdict) 1 kept in
    let days = days_text p.kind p kept in
    in_left a (head ++ (map ++ rows ++ days)) (fixed tags.End)
    (in_right a head (map ++ rows ++ days) (in_left a (map ++ rows) days (in_left a map rows within)))

-- the mark of each stop is in one of the two layers
mark_in_layers : (p : Instance) (f : Frame) (s : Stop) (t : List ℕ) → (is_delivery p s ≡ true → IsIn (upper_mark p f s) t)
    → (is_delivery p s ≡ false → IsIn (lower_mark p f s) t) → IsIn (stop_mark p f s) t
mark_in_layers p f s t over under = by (is_delivery p s) refl
  where
    by : (b : Bool) → is_delivery p s ≡ b → IsIn (stop_mark p f s) t
    by true e =
        subst (λ x. IsIn x t) (ap (λ b. if b then mark_text tags.DeliveryMark f s else []) e ∙ sym (ap (λ b. mark_text (if b then tags.DeliveryMark else lower_shape p s) f s) e)) (over e)
    by false e =
        subst (λ x. IsIn x t) (ap (λ b. if b then [] else mark_text (lower_shape p s) f s) e ∙ sym (ap (λ b. mark_text (if b then tags.DeliveryMark else lower_shape p s) f s) e)) (under e)

module _ (below : StopsAreBelowNext) where
  pub stops_are_marked : StopsAreMarked
  unfolding map_of map_in upper_layer_text marks_text
  stops_are_marked p routes verdict n s valid at =
      let f = frame_of p in
      let stops = stops_in_order p in
      let kept = map (kept_of p) routes in
      let stop = broken_stop verdict in
      let mark = stop_mark p f s in
      let less = below p n valid (ap is_some at) in
      let depot = mark_text tags.DepotMark f p.depot in
      let under = flat_map (lower_mark p f) stops in
      let over = flat_map (upper_mark p f) stops in
      let marks : IsIn mark (marks_text p f stops) =
      mark_in_layers p f s (depot ++ under ++ over) (λ _. in_right (upper_mark p f s) (depot ++ under) over (stop_in_all (upper_mark p f) p n s p.next_number at less))
      (λ _. in_left (lower_mark p f s) (depot ++ under) over (in_right (lower_mark p f s) depot under (stop_in_all (lower_mark p f) p n s p.next_number at less)))
      in
      let rings = rings_text f stops (unserved kept stops) stop in
      let labels = labels_text f (labels_of p f 1 kept stops) in
      in_picture mark p kept verdict
      (in_right mark (lower_layer_text p f stops 1 kept (broken_route verdict)) (upper_layer_text p f stops 1 kept stop)
      (in_left mark (marks_text p f stops ++ rings) labels (in_left mark (marks_text p f stops) rings marks)))

pub routes_are_drawn : RoutesAreDrawn
unfolding map_of map_in lower_layer_text lines_text
routes_are_drawn p routes verdict r route at =
    let f = frame_of p in
    let stops = stops_in_order p in
    let kept = map (kept_of p) routes in
    let broken = broken_route verdict in
    let line = line_text p f broken (r + 1) (kept_of p route) in
    let there = slice_get-map (kept_of p) routes r ∙ ap (option_map (kept_of p)) at in
    let number : 1 + r ≡ r + 1 = omega arith in
    let all = each (line_text p f broken) 1 kept in
    let lines : IsIn line (lines_text p f broken 1 kept) =
    in_left line (fixed tags.Legs ++ all) (fixed tags.GroupEnd)
    (in_right line (fixed tags.Legs) all (subst (λ j. IsIn (line_text p f broken j (kept_of p route)) all) number (route_in_all (line_text p f broken) 1 kept r (kept_of p route) there)))
    in
    in_picture line p kept verdict
    (in_left line (lower_layer_text p f stops 1 kept broken) (upper_layer_text p f stops 1 kept (broken_stop verdict))
    (in_right line (opening_text f ++ pairs_text p f stops) (lines_text p f broken 1 kept) lines))
