-- Either the store in the file is served, or there is a reason why it was not opened.
use Rattle.std.proofs.Common.{◌∙◌, ap, inl, refl}
use Rattle.std.specs.Prelude.{Some}
use Rattle.std.proofs.lemmas.Result.{IfOk-weaker}
use Rattle.planner_cli.specs.Opening.{PrintsOpenFailure}
use Rattle.planner_cli.proofs.StoreLemmas.{unopened_runs, unopened_serves}
use Rattle.planner_cli.proofs.MessageLemmas.{reported_apart}
use Rattle.planner_cli.proofs.stores.run_store.Goals as goal

pub returns-in-Ok-clause-runs : goal.returns-in-Ok-clause-runs
returns-in-Ok-clause-runs g c =
    let o = c.in-Ok.opened in
    let is = c.in-Ok.ensures.opens in
    IfOk-weaker c.serve_opened-reported.result.0 _ _ (λ status runs. inl (is.device, is.ready, inl (o.session, o.replayed, is.opens, runs))) c.serve_opened-reported.ensures.runs

pub returns-in-Ok-clause-serves : goal.returns-in-Ok-clause-serves
returns-in-Ok-clause-serves g c =
    let o = c.in-Ok.opened in
    let is = c.in-Ok.ensures.opens in
    let new = c.serve_opened-reported.new.session in
    inl (is.device, is.ready, inl (o.session, o.replayed, is.opens, (new, ap (λ d. Some d) c.close_store-device.ensures, c.serve_opened-reported.ensures.serves)))

pub returns-in-Err-clause-runs : goal.returns-in-Err-clause-runs
returns-in-Err-clause-runs g c =
    let unopened = c.in-Err.unopened in
    IfOk-weaker c.print_open_failure-reported.result.0 _ _
    (λ status reported. unopened_runs _ _ _ _ _ _ _ _ _ status unopened c.in-Err.ensures.opens
    (reported_apart g.W.Write.contents (λ x y. PrintsOpenFailure c.args.store.now unopened x y status) _ _ _ _ c.into_parts-writer.ensures.inner c.from_parts.ensures.inner reported)) c.print_open_failure-reported.ensures.reported.0

pub returns-in-Err-clause-serves : goal.returns-in-Err-clause-serves
returns-in-Err-clause-serves g c =
    let reported = c.print_open_failure-reported in
    unopened_serves _ _ c.args.store.now _ _ _ _ _ _ c.in-Err.unopened reported.result.1 c.in-Err.ensures.opens reported.ensures.left
    (record { reads = refl; events = c.from_parts.ensures.log ∙ c.into_parts-writer.ensures.log })
