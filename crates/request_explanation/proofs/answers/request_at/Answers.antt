-- If a stop belongs to no request, none is found; otherwise its request is found under the request's name.
use Rattle.std.proofs.Common.{◌∙◌, sym}
use Rattle.plan_audit.proofs.FirstLemmas.{map-none}
use Rattle.plan_types.specs.Instance.{request_with}
use Rattle.plan_types.specs.Request.{request_name}
use Rattle.request_explanation.proofs.answers.request_at.Goals as goal

pub returns-in-None-clause-found : goal.returns-in-None-clause-found
returns-in-None-clause-found c = sym (map-none request_name (request_with c.args.problem.now c.args.stop) (sym c.name_of.ensures.found ∙ c.in-None.is))
