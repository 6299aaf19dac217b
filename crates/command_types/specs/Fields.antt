-- The fields of a `Job`
use Rattle.command_types.specs.Job.{JobValue, IsJob}
use Rattle.command_types.specs.declared.states.Job.TheInside.{Inside}

-- The value of a `Job` in contracts
abbrev pub job_of : Inside → JobValue
job_of a = record { problem = a.problem; pins = a.pins.routes; plan = a.plan.routes; work = a.work.routes; deviation = a.deviation; seed = a.seed; steps = a.steps }

abbrev pub KeepsInvariant : Inside → Type 0
KeepsInvariant a = IsJob (job_of a)
