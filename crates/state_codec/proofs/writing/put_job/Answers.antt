-- The lists of a job fit the fields of their lengths, and its five parts follow each other
use Rattle.std.proofs.Common.{◌≡◌, ◌<◌, ◌^◌, ◌++◌, All, List, ℕ, length, sym, subst, ap, ◌∙◌, arith}
use Rattle.command_types.specs.Job.{JobValue, IsJob}
use Rattle.plan_types.specs.Instance.{Instance}
use Rattle.state_codec.specs.declared.version.Version.TheVariants.{Two}
use Rattle.state_codec.specs.Bytes.{head_bytes, count_bytes, requests_bytes, vehicles_bytes, routes_bytes}
use Rattle.state_codec.proofs.SizeLemmas.{sizes, fit}
use Rattle.state_codec.proofs.WritingLemmas.{in_five}
use Rattle.state_codec.proofs.writing.put_job.Goals as goal

pub overflow_cast-len : goal.overflow_cast-len
overflow_cast-len c =
    let s = sizes c.numbers_are_below_next_number.ensures.stops c.args.job.now (subst IsJob c.job.view_is c.job.invariant) in
    let problem : length c.problem.inside.requests.entries ≡ length c.args.job.now.problem.requests = ap (λ (p : Instance). length p.requests) c.problem.view_is
    ∙ ap (λ (v : JobValue). length v.problem.requests) c.job.view_is in
    record { fits = omega (arith, s.requests, problem, c.len.ensures.len) }

pub put_vehicles-requires-clause-same : goal.put_vehicles-requires-clause-same
put_vehicles-requires-clause-same c =
    let s = sizes c.numbers_are_below_next_number.ensures.stops c.args.job.now (subst IsJob c.job.view_is c.job.invariant) in
    let pins : c.as_slice.result.now ≡ c.args.job.now.pins = c.as_slice.ensures ∙ ap (λ (v : JobValue). v.pins) c.job.view_is in
    let plan : c.as_slice-2.result.now ≡ c.args.job.now.plan = c.as_slice-2.ensures ∙ ap (λ (v : JobValue). v.plan) c.job.view_is in
    ap length pins ∙ s.same ∙ ap length (sym plan)

pub put_vehicles-requires-clause-pins : goal.put_vehicles-requires-clause-pins
put_vehicles-requires-clause-pins c =
    let s = sizes c.numbers_are_below_next_number.ensures.stops c.args.job.now (subst IsJob c.job.view_is c.job.invariant) in
    let pins : c.as_slice.result.now ≡ c.args.job.now.pins = c.as_slice.ensures ∙ ap (λ (v : JobValue). v.pins) c.job.view_is in
    subst (λ (rs : List (List ℕ)). All (λ r. length r < 2 ^ 32) rs) (sym pins) (fit c.args.job.now.pins s.pins)

pub put_vehicles-requires-clause-routes : goal.put_vehicles-requires-clause-routes
put_vehicles-requires-clause-routes c =
    let s = sizes c.numbers_are_below_next_number.ensures.stops c.args.job.now (subst IsJob c.job.view_is c.job.invariant) in
    let plan : c.as_slice-2.result.now ≡ c.args.job.now.plan = c.as_slice-2.ensures ∙ ap (λ (v : JobValue). v.plan) c.job.view_is in
    subst (λ (rs : List (List ℕ)). All (λ r. length r < 2 ^ 32) rs) (sym plan) (fit c.args.job.now.plan s.plan.each)

pub put_routes-requires : goal.put_routes-requires
put_routes-requires c =
    let s = sizes c.numbers_are_below_next_number.ensures.stops c.args.job.now (subst IsJob c.job.view_is c.job.invariant) in
    let work : c.as_slice-3.result.now ≡ c.args.job.now.work = c.as_slice-3.ensures ∙ ap (λ (v : JobValue). v.work) c.job.view_is in
    subst (λ (rs : List (List ℕ)). All (λ r. length r < 2 ^ 32) rs) (sym work) (fit c.args.job.now.work s.work.each)

pub returns : goal.returns
returns c =
    let j = c.args.job.now in
    let pins : c.as_slice.result.now ≡ j.pins = c.as_slice.ensures ∙ ap (λ (v : JobValue). v.pins) c.job.view_is in
    let plan : c.as_slice-2.result.now ≡ j.plan = c.as_slice-2.ensures ∙ ap (λ (v : JobValue). v.plan) c.job.view_is in
    let work : c.as_slice-3.result.now ≡ j.work = c.as_slice-3.ensures ∙ ap (λ (v : JobValue). v.work) c.job.view_is in
    let problem : length c.problem.inside.requests.entries ≡ length j.problem.requests = ap (λ (p : Instance). length p.requests) c.problem.view_is
    ∙ ap (λ (v : JobValue). length v.problem.requests) c.job.view_is in
    let entries : c.problem.inside.requests.entries ≡ j.problem.requests = ap (λ (p : Instance). p.requests) c.problem.view_is ∙ ap (λ (v : JobValue). v.problem.requests) c.job.view_is in
    let requests : c.put_requests.new.out.items ≡ c.put_u32.new.out.items ++ requests_bytes Two j.problem.requests = c.in_ok-put_requests.ensures
    ∙ ap (λ es. c.put_u32.new.out.items ++ requests_bytes Two es) entries in
    let count : c.put_u32.new.out.items ≡ c.put_head.new.out.items ++ count_bytes Two (length j.problem.requests) = c.in_ok-put_u32.ensures
    ∙ ap (λ n. c.put_head.new.out.items ++ count_bytes Two n) (c.len.ensures.len ∙ problem) in
    let vehicles : c.put_vehicles.new.out.items ≡ c.put_requests.new.out.items ++ vehicles_bytes Two j.pins j.plan = c.in_ok-put_vehicles.ensures
    ∙ ap (λ rs. c.put_requests.new.out.items ++ vehicles_bytes Two rs c.as_slice-2.result.now) pins
    ∙ ap (λ rs. c.put_requests.new.out.items ++ vehicles_bytes Two j.pins rs) plan in
    let routes : c.put_routes.new.out.items ≡ c.put_vehicles.new.out.items ++ routes_bytes Two j.work = c.in_ok-put_routes.ensures
    ∙ ap (λ rs. c.put_vehicles.new.out.items ++ routes_bytes Two rs) work in
    in_five c.args.out.now.items (head_bytes Two j) (count_bytes Two (length j.problem.requests)) (requests_bytes Two j.problem.requests)
    (vehicles_bytes Two j.pins j.plan) (routes_bytes Two j.work) c.put_head.new.out.items c.put_u32.new.out.items c.put_requests.new.out.items
    c.put_vehicles.new.out.items c.put_routes.new.out.items c.in_ok-put_head.ensures count requests vehicles routes
