-- The questions about a job, their answers, and their refusals.
use Rattle.std.specs.Prelude.{ℕ, List, [], Option, Some, None, if◌then◌else◌, unwrap_or}
use Rattle.plan_types.specs.Instance.{Instance, name_at}
use Rattle.plan_timetable.specs.Timetable.{timetable_text, vehicle_text}
use Rattle.plan_timetable.specs.declared.forms.Form.TheVariants.{Columns}
use Rattle.request_explanation.specs.Why.{why_at}
use Rattle.move_ops.specs.Insertion.{route_of}
use Rattle.seeded_search.specs.Steps.{unplanned_names}
use Rattle.command_types.specs.Job.{JobValue}
use Rattle.command_core.specs.Refusals.{is_vehicle}
use Rattle.command_types.specs.declared.refusals.Refusal.{Refusal}
use Rattle.command_types.specs.declared.refusals.Refusal.TheVariants.{NoSuchRequest, Range}
use Rattle.command_text.specs.declared.questions.Question.{Question}
use Rattle.command_text.specs.declared.questions.Question.TheVariants.{Timetable, VehicleTimetable, Why}

-- The refusal of a vehicle that the fleet does not have. Vehicles count from 1.
abbrev pub vehicle_refusal : Instance → ℕ → Option Refusal
vehicle_refusal p v = if is_vehicle p v then None else Some Range

-- The refusal of a stop that no request has, given the name of the request that has it.
abbrev pub stop_refusal : Option ℕ → Option Refusal
stop_refusal None = Some NoSuchRequest
stop_refusal (Some name) = None

-- The refusal of a question, if it is refused.
abbrev pub question_refusal : JobValue → Question → Option Refusal
question_refusal j Timetable = None
question_refusal j (VehicleTimetable v) = vehicle_refusal j.problem v
question_refusal j (Why stop) = stop_refusal (name_at j.problem stop)

-- The answer about the incumbent plan, for people. It is the timetable of all vehicles or of one, or where and
-- when a request is served, or why it is in no route.
abbrev pub question_text : JobValue → Question → List ℕ
question_text j Timetable = timetable_text Columns j.problem j.pins j.plan (unplanned_names j.problem j.plan)
question_text j (VehicleTimetable v) = vehicle_text Columns j.problem v (route_of j.plan v)
question_text j (Why stop) = unwrap_or (why_at j.problem j.pins j.plan stop) []
