-- The length of each part of an encoding
use Rattle.std.proofs.Common.{◌≡◌, ℕ, ◌+◌, ◌*◌, List, [], ◌∷◌, ◌++◌, length, refl, arith, length-append}
use Rattle.std.specs.List.{concat}
use Rattle.plan_types.specs.Laws.{StopsAreBelowNext}
use Rattle.plan_types.specs.Instance.{numbers_among}
use Rattle.plan_types.specs.declared.requests.Request.{Request}
use Rattle.plan_types.specs.declared.requests.Request.TheVariants.{Single, Pair}
use Rattle.command_types.specs.Job.{JobValue}
use Rattle.command_types.specs.declared.states.State.TheVariants.{Empty, Loaded}
use Rattle.state_codec.specs.declared.version.Version.TheVariants.{Two}
use Rattle.state_codec.specs.Bytes.{number_bytes, signed_bytes, requests_bytes, stops_bytes, vehicles_bytes, routes_bytes, head_bytes}
use Rattle.state_codec.specs.Lengths.{EncodingsFit}
use Rattle.plan_types.proofs.RequestCounts.{few_numbers, requests_below}
use Rattle.state_codec.proofs.SizeLemmas.{sizes}

len_stops : (ns : List ℕ) → length (stops_bytes Two ns) ≡ 4 * length ns
unfolding number_bytes
len_stops [] = refl
len_stops (n ∷ ns) = let h = len_stops ns in omega (arith, h)

len_routes : (rs : List (List ℕ)) → length (routes_bytes Two rs) ≡ 4 * length rs + 4 * length (concat rs)
unfolding number_bytes
len_routes [] = refl
len_routes (r ∷ rs) =
    let h = len_routes rs in
    omega (
      arith,
      h,
      len_stops r,
      length-append (number_bytes 4 (length r) ++ stops_bytes Two r) (routes_bytes Two rs),
      length-append r (concat rs),
      length-append (number_bytes 4 (length r)) (stops_bytes Two r),
    )

len_vehicles : (ps rs : List (List ℕ)) → length ps ≡ length rs → length (vehicles_bytes Two ps rs) ≡ 8 * length rs + 4 * length (concat rs)
unfolding number_bytes
len_vehicles [] [] same = refl
len_vehicles [] (r ∷ rs) same = absurd (omega (arith, same))
len_vehicles (p ∷ ps) [] same = absurd (omega (arith, same))
len_vehicles (p ∷ ps) (r ∷ rs) same =
    let h = len_vehicles ps rs (omega (arith, same)) in
    omega (arith, h, len_stops r, length-append (number_bytes 4 (length p) ++ (number_bytes 4 (length r) ++ stops_bytes Two r)) (vehicles_bytes Two ps rs), length-append r (concat rs))

len_requests : (es : List (ℕ × Request)) → length (requests_bytes Two es) ≡ length es + 28 * length (numbers_among es)
unfolding number_bytes signed_bytes
len_requests [] = refl
len_requests ((n, Single s) ∷ es) = let h = len_requests es in omega (arith, h)
len_requests ((n, Pair a b) ∷ es) = let h = len_requests es in omega (arith, h)

len_head : (j : JobValue) → length (head_bytes Two j) ≡ 49
unfolding number_bytes signed_bytes
len_head j = refl

len_count : (n : ℕ) → length (number_bytes 4 n) ≡ 4
unfolding number_bytes
len_count n = refl

pub encodings_fit : StopsAreBelowNext → EncodingsFit
encodings_fit law Empty is = (refl, omega arith)
encodings_fit law (Loaded j) is =
    let s = sizes law j is in
    let count = number_bytes 4 (length j.problem.requests) in
    let requests = requests_bytes Two j.problem.requests in
    let vehicles = vehicles_bytes Two j.pins j.plan in
    let routes = routes_bytes Two j.work in (
      omega (
        arith,
        len_head j,
        len_count (length j.problem.requests),
        len_requests j.problem.requests,
        len_vehicles j.pins j.plan s.same,
        len_routes j.work,
        length-append (head_bytes Two j) (count ++ (requests ++ (vehicles ++ routes))),
        length-append count (requests ++ (vehicles ++ routes)),
        length-append requests (vehicles ++ routes),
        length-append vehicles routes,
      ),
      omega (arith, few_numbers j.problem is.problem, requests_below j.problem is.problem, s.plan.total, s.work.total, s.plan.fleet, s.work.fleet, is.problem.fleet.1, is.problem.next_number_max),
    )
