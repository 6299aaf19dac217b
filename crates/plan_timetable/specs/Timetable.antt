-- A timetable as text: the block of each used vehicle, then the unplanned requests, each with the reason.
-- Vehicles count from 1.
use Rattle.std.specs.Prelude.{ℕ, ◌+◌, ◌==◌, Bool, true, false, List, [], ◌∷◌, ◌++◌, length, if◌then◌else◌}
use Rattle.std.specs.Fmt.{signed_decimal}
use Rattle.std.specs.List.{flat_map}
use Rattle.plan_types.specs.Instance.{Instance}
use Rattle.plan_types.specs.declared.requests.Kind.{Kind}
use Rattle.plan_types.specs.declared.requests.Kind.TheVariants.{LiLim, Vrp}
use Rattle.text_lines.specs.Lines.{with_line_feed}
use Rattle.plan_audit.specs.declared.rules.Verdict.{Verdict}
use Rattle.plan_explain.specs.VerdictTexts.{verdict_schedule_is_known}
use Rattle.plan_explain.specs.Summaries.{summary_of, waiting_time}
use Rattle.plan_explain.specs.Tables.{departure}
use Rattle.plan_explain.specs.declared.summaries.Summary.{Summary}
use Rattle.request_explanation.specs.Why.{reason_text}
use Rattle.request_explanation.specs.declared.line_prefixes.LinePrefix.{LinePrefix}
use Rattle.request_explanation.specs.declared.line_prefixes.LinePrefix.TheVariants.{Named, Tabbed}
use Rattle.plan_timetable.specs.Cells.{load_cell, field, number, optional_number}
use Rattle.plan_timetable.specs.Entries.{entries_of}
use Rattle.plan_timetable.specs.Words.{word}
use Rattle.plan_timetable.specs.declared.entries.Entry.{Entry}
use Rattle.plan_timetable.specs.declared.entries.Role.{Role}
use Rattle.plan_timetable.specs.declared.entries.Role.TheVariants as role
use Rattle.plan_timetable.specs.declared.forms.Form.{Form}
use Rattle.plan_timetable.specs.declared.forms.Form.TheVariants.{Columns, Tabs}
use Rattle.plan_timetable.specs.declared.words.Word.{Word}
use Rattle.plan_timetable.specs.declared.words.Word.TheVariants.{
  Vehicle,
  Stops,
  Distance,
  Load,
  Departure,
  Return,
  Waiting,
  TimesHeading,
  LoadsHeading,
  Stop,
  Pickup,
  Delivery,
  Single,
  ReturnStop,
  PinMayEnd,
  PinMayNotEnd,
  Gap,
  Unplanned,
}

-- with tabs, each line of a stop has the number of its vehicle
abbrev pub line_prefix : Form → ℕ → List ℕ
line_prefix Columns v = []
line_prefix Tabs v = field Tabs Stop v

abbrev pub role_word : Role → Word
role_word role.Pickup = Pickup
role_word role.Delivery = Delivery
role_word role.Single = Single
role_word role.Return = ReturnStop

abbrev pub pin_word : Bool → Word
pin_word true = PinMayEnd
pin_word false = PinMayNotEnd

-- the place and the stop; with tabs, the vehicle before them
abbrev pub place_text : Form → ℕ → Entry → List ℕ
place_text form v e = line_prefix form v ++ number form 5 e.visit.row.place ++ number form 5 e.visit.row.stop

abbrev pub role_text : Form → Entry → List ℕ
role_text form e = word form (role_word e.role) ++ optional_number form e.partner

-- the departure from the place before, the arrival, the start, and the waiting time
abbrev pub times_text : Form → Entry → List ℕ
times_text form e = number form 8 (departure e.visit) ++ number form 8 e.visit.row.arrival ++ number form 8 e.visit.row.start ++ number form 8 (waiting_time e.visit.row)

-- the duration of service, its window, and the latest start
abbrev pub window_text : Form → Entry → List ℕ
window_text form e = number form 8 e.visit.service ++ number form 8 e.visit.row.earliest ++ number form 8 e.visit.row.latest ++ optional_number form e.latest

-- the times of a place; in a problem of kind `Vrp` only the arrival
abbrev pub when_text : Form → Kind → Entry → List ℕ
when_text form LiLim e = times_text form e ++ window_text form e
when_text form Vrp e = number form 8 e.visit.row.arrival

-- the load after the place, and whether a pin may end at the place
abbrev pub load_text : Form → Entry → List ℕ
load_text form e = with_line_feed (load_cell form e.visit.row.load ++ word form (pin_word e.pin_may_end))

-- the line of a place
abbrev pub entry_text : Form → Kind → ℕ → Entry → List ℕ
entry_text form kind v e = place_text form v e ++ role_text form e ++ when_text form kind e ++ load_text form e

-- the totals of a vehicle
abbrev pub totals_text : Form → ℕ → Summary → List ℕ
totals_text form v s = field form Vehicle v ++ field form Stops s.stops ++ field form Distance s.distance

abbrev pub top_load_text : Form → Summary → List ℕ
top_load_text form s = word form Load ++ signed_decimal s.load

abbrev pub day_text : Form → Kind → Summary → List ℕ
day_text form LiLim s = field form Departure s.departure ++ field form Return s.return_time ++ field form Waiting s.waiting
day_text form Vrp s = []

abbrev pub vehicle_line : Form → Kind → ℕ → Summary → List ℕ
vehicle_line form kind v s = totals_text form v s ++ top_load_text form s ++ with_line_feed (day_text form kind s)

abbrev pub heading : Kind → Word
heading LiLim = TimesHeading
heading Vrp = LoadsHeading

-- a used vehicle: its totals, and a line for each place
abbrev pub block_text : Form → Instance → ℕ → List ℕ → List ℕ
block_text form p v route = vehicle_line form p.kind v (summary_of p route) ++ word form (heading p.kind) ++ flat_map (entry_text form p.kind v) (entries_of p route)

-- the block of this vehicle, if it is used
abbrev pub vehicle_text : Form → Instance → ℕ → List ℕ → List ℕ
vehicle_text form p v route = if length route == 0 then [] else block_text form p v route

-- the block of each vehicle; the first has number v
abbrev pub blocks_from : Form → Instance → ℕ → List (List ℕ) → List ℕ
blocks_from form p v [] = []
blocks_from form p v (route ∷ routes) = vehicle_text form p v route ++ blocks_from form p (v + 1) routes

abbrev pub unplanned_line : Form → ℕ → List ℕ
unplanned_line form n = with_line_feed (field form Unplanned n)

-- the prefix of the lines that explain a request
abbrev pub line_prefix_of : Form → LinePrefix
line_prefix_of Columns = Named
line_prefix_of Tabs = Tabbed

-- a request by its name, and why it is in no route, with these pins
abbrev pub unplanned_block : Form → Instance → List (List ℕ) → List (List ℕ) → ℕ → List ℕ
unplanned_block form p pins routes n = unplanned_line form n ++ reason_text (line_prefix_of form) p pins routes n

-- the gap before the unplanned requests, if there are any
abbrev pub gap : Form → List ℕ → List ℕ
gap form names = if length names == 0 then [] else word form Gap

-- the lines of all unplanned requests, after the gap
abbrev pub unplanned_text : Form → Instance → List (List ℕ) → List (List ℕ) → List ℕ → List ℕ
unplanned_text form p pins routes names = gap form names ++ flat_map (unplanned_block form p pins routes) names

-- the whole timetable, with these pins and the names of the unplanned requests
abbrev pub timetable_text : Form → Instance → List (List ℕ) → List (List ℕ) → List ℕ → List ℕ
timetable_text form p pins routes unplanned = blocks_from form p 1 routes ++ unplanned_text form p pins routes unplanned

-- the timetable of a printed solution, which has no pins; empty if a stop is unknown or appears twice
abbrev pub solution_timetable_text : Form → Instance → List (List ℕ) → List ℕ → Verdict → List ℕ
solution_timetable_text form p routes unplanned verdict = if verdict_schedule_is_known verdict then timetable_text form p [] routes unplanned else []
