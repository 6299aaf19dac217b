-- The words of a timetable, in columns and with tabs.
use Rattle.std.specs.Prelude.{ℕ, List, codes}
use Rattle.plan_timetable.specs.declared.forms.Form.{Form}
use Rattle.plan_timetable.specs.declared.forms.Form.TheVariants.{Columns, Tabs}
use Rattle.plan_timetable.specs.declared.words.Word.{Word}
use Rattle.plan_timetable.specs.declared.words.Word.TheVariants as the

-- the words in columns, or those with tabs
abbrev pub in_form : Form → List ℕ → List ℕ → List ℕ
in_form Columns columns tabs = columns
in_form Tabs columns tabs = tabs

unfoldable pub word : Form → Word → List ℕ
word form the.Vehicle = in_form form (codes "\nvehicle ") (codes "vehicle\t")
word form the.Stops = in_form form (codes ": stops ") (codes "\t")
word form the.Distance = in_form form (codes ", distance ") (codes "\t")
word form the.Load = in_form form (codes ", load ") (codes "\t")
word form the.Departure = in_form form (codes ", set off ") (codes "\t")
word form the.Return = in_form form (codes ", return ") (codes "\t")
word form the.Waiting = in_form form (codes ", waiting ") (codes "\t")
word form the.TimesHeading = in_form form (codes " place  stop  kind      partner  set off  arrival    start  waiting  service     from       to   latest     load\n") (codes "")
word form the.LoadsHeading = in_form form (codes " place  stop  kind      partner  arrival     load\n") (codes "")
word form the.Stop = in_form form (codes "") (codes "stop\t")
word form the.Pickup = in_form form (codes "  pickup  ") (codes "\tpickup")
word form the.Delivery = in_form form (codes "  delivery") (codes "\tdelivery")
word form the.Single = in_form form (codes "  single  ") (codes "\tsingle")
word form the.ReturnStop = in_form form (codes "  return  ") (codes "\treturn")
word form the.Nothing = in_form form (codes "        -") (codes "\t-")
word form the.PinMayEnd = in_form form (codes " pin") (codes "\tpin")
word form the.PinMayNotEnd = in_form form (codes "") (codes "\t-")
word form the.Gap = in_form form (codes "\n") (codes "")
word form the.Unplanned = in_form form (codes "unplanned ") (codes "unplanned\t")
