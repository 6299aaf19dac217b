-- The parsing of a line, given without its line feed and the one carriage return before it. A command's name is
-- its first word, and a field is a number that the line has.
use Rattle.std.specs.Prelude.{ℕ, ◌+◌, ◌^◌, ◌&&◌, ◌||◌, Bool, false, nat_le, int_le, int_lt, if◌then◌else◌, List, [], ◌∷◌, length, codes, bytes_eq, ℤ, pos, negsuc, Option, Some, None}
use Rattle.std.specs.Int.RustNames.{unsigned_abs}
use Rattle.std.specs.Option.{option_and_then, option_map, option_map_or}
use Rattle.text_lines.specs.Words.{words_of}
use Rattle.text_lines.specs.Numbers.{integer_of, below}
use Rattle.instance_read.specs.Formats.{format_named}
use Rattle.instance_read.specs.declared.formats.Format.{Format}
use Rattle.plan_types.specs.declared.limits.TheConstants.{MAX_REQUESTED_STEPS, MAX_STEPS, MAX_TIME}
use Rattle.command_types.specs.declared.commands.Spot.{Spot}
use Rattle.command_types.specs.declared.commands.Command.{Command}
use Rattle.command_types.specs.declared.commands.Command.TheVariants as command
use Rattle.command_types.specs.declared.refusals.Refusal.{Refusal}
use Rattle.command_types.specs.declared.refusals.Refusal.TheVariants.{Range, NoSuchRequest, NoSuchPlace}
use Rattle.command_text.specs.declared.fields.Field.{Field}
use Rattle.command_text.specs.declared.verbs.Verb.{Verb}
use Rattle.command_text.specs.declared.verbs.Verb.TheVariants as verb
use Rattle.command_text.specs.declared.parsed_command.TheConstants.{MAX_LINE_LEN, MAX_TEXT_LEN}
use Rattle.command_text.specs.declared.parsed_command.ParsedCommand.{ParsedCommand}
use Rattle.command_text.specs.declared.parsed_command.Purpose.{Purpose}
use Rattle.command_text.specs.declared.parsed_command.Purpose.TheVariants as purpose
use Rattle.command_text.specs.declared.parsed_command.ParsedCommand.TheVariants.{Nothing, BadLine, BadText, TextRange, Text, Plain, Refused, Steps, Print, PrintInstance, Show, Ask, Next, Help}
use Rattle.command_text.specs.declared.questions.Question.{Question}
use Rattle.command_text.specs.declared.questions.Question.TheVariants as question
use Rattle.command_text.specs.declared.steps.StepRequest.{StepRequest}
use Rattle.command_text.specs.declared.steps.StepRequest.TheVariants as goal

-- An integer as an `i32` and as a `u64`, or none for a type that it does not fit.
abbrev pub field_of : ℤ → Field
field_of z = record {
  signed = if int_le (negsuc 2147483647) z && int_le z (pos 2147483647) then Some z else None;
  unsigned = if int_le (pos 0) z && int_lt z (pos (2 ^ 64)) then Some (unsigned_abs z) else None;
}

-- The integer that a word represents, if it represents one.
abbrev pub field_in : List ℕ → Option Field
field_in word = option_map field_of (integer_of word)

-- The integers that the words represent, if each word represents one.
unfoldable pub fields_of : List (List ℕ) → Option (List Field)
fields_of [] = Some []
fields_of (w ∷ ws) = option_and_then (λ f. option_map (λ fs. f ∷ fs) (fields_of ws)) (field_in w)

-- The number, if it fits a `u32`.
abbrev pub as_u32 : Field → Option ℕ
as_u32 f = below (2 ^ 32) f.unsigned

-- An operation if its numbers fit their fields, otherwise this refusal.
abbrev pub plain_or : Refusal → Option Command → ParsedCommand
plain_or refusal None = Refused refusal
plain_or refusal (Some c) = Plain c

-- The spot X Y E L S: coordinates, earliest and latest start, service time; none if a number does not fit its
-- field.
abbrev pub spot_of : Field → Field → Field → Field → Field → Option Spot
spot_of x y e l s =
    option_and_then (λ x. option_and_then (λ y. option_and_then (λ e. option_and_then (λ l. option_map (λ s.
    record { x = x; y = y; earliest = e; latest = l; service = s })
    (as_u32 s)) (as_u32 l)) (as_u32 e)) y.signed) x.signed

-- The operation that adds a pair with this demand, pickup and delivery; none if a number does not fit its field.
abbrev pub add_of : Field → Option Spot → Option Spot → Option Command
add_of q a b = option_and_then (λ q. option_and_then (λ a. option_map (λ b. command.Add q a b) b) a) (as_u32 q)

-- The operation that adds a request of one stop with this demand; none if a number does not fit its field.
abbrev pub add1_of : Field → Option Spot → Option Command
add1_of q a = option_and_then (λ q. option_map (λ a. command.Add1 q a) a) (as_u32 q)

-- The operation that pins the first k stops of vehicle v; none if a number does not fit its field.
abbrev pub pin_of : Field → Field → Option Command
pin_of v k = option_and_then (λ v. option_map (λ k. command.Pin v k) (as_u32 k)) (as_u32 v)

-- A request for steps if its numbers are within their limits, otherwise the refusal `Range`.
abbrev pub steps_or : Option StepRequest → ParsedCommand
steps_or None = Refused Range
steps_or (Some g) = Steps g

-- The number of steps N, if it is in 1..=`MAX_REQUESTED_STEPS`.
abbrev pub count_of : Option ℕ → Option ℕ
count_of None = None
count_of (Some n) = if nat_le 1 n && nat_le n MAX_REQUESTED_STEPS then Some n else None

-- `search N`: the request for N search steps, if N is within its limits.
abbrev pub search_of : Option ℕ → Option StepRequest
search_of n = option_map goal.Search (count_of n)

-- `anneal N`: the request for N annealing steps, if N is within its limits.
abbrev pub anneal_of : Option ℕ → Option StepRequest
anneal_of n = option_map goal.Anneal (count_of n)

-- `reduce N`: the request for N steps for fewer vehicles, if N is within its limits.
abbrev pub reduce_of : Option ℕ → Option StepRequest
reduce_of n = option_map goal.Reduce (count_of n)

-- `freeze T`: the request for the pins at time T, if T is in 0..=`MAX_TIME`.
abbrev pub freeze_of : Option ℕ → Option StepRequest
freeze_of None = None
freeze_of (Some t) = if nat_le t MAX_TIME then Some (goal.Freeze t) else None

-- `reach N`: the request for search steps up to step N, if N is in 0..=`MAX_STEPS`.
abbrev pub reach_of : Option ℕ → Option StepRequest
reach_of None = None
reach_of (Some n) = if nat_le n MAX_STEPS then Some (goal.Reach n) else None

-- `anneal FROM TO`: the request for annealing in stages, if TO is in 0..=`MAX_STEPS` and FROM is not above it.
abbrev pub stages_of : Option ℕ → Option ℕ → Option StepRequest
stages_of (Some from) (Some to) = if nat_le from to && nat_le to MAX_STEPS then Some (goal.Stages from to) else None
stages_of _ _ = None

-- A question if its number fits its field, otherwise this refusal.
abbrev pub question_or : Refusal → Option Question → ParsedCommand
question_or refusal None = Refused refusal
question_or refusal (Some q) = Ask q

-- A command without numbers.
abbrev pub parse_no_numbers : Verb → ParsedCommand
parse_no_numbers verb.Build = Plain command.Build
parse_no_numbers verb.Checkpoint = Plain command.Checkpoint
parse_no_numbers verb.Print = Print
parse_no_numbers verb.Instance = PrintInstance
parse_no_numbers verb.Show = Show
parse_no_numbers verb.Timetable = Ask question.Timetable
parse_no_numbers verb.Next = Next
parse_no_numbers verb.Help = Help
parse_no_numbers _ = BadLine

-- A command with one number: R, V, N, D or T.
abbrev pub parse_one_number : Verb → Field → ParsedCommand
parse_one_number verb.Withdraw r = plain_or NoSuchRequest (option_map command.Withdraw (as_u32 r))
parse_one_number verb.Unpin v = plain_or NoSuchPlace (option_map command.Unpin (as_u32 v))
parse_one_number verb.Timetable v = question_or Range (option_map question.VehicleTimetable (as_u32 v))
parse_one_number verb.Why r = question_or NoSuchRequest (option_map question.Why (as_u32 r))
parse_one_number verb.Search n = steps_or (search_of n.unsigned)
parse_one_number verb.Reach n = steps_or (reach_of n.unsigned)
parse_one_number verb.Anneal n = steps_or (anneal_of n.unsigned)
parse_one_number verb.Reduce n = steps_or (reduce_of n.unsigned)
parse_one_number verb.Freeze t = steps_or (freeze_of t.unsigned)
parse_one_number verb.Deviation d = plain_or Range (option_map command.Deviation (as_u32 d))
parse_one_number _ n = BadLine

-- A command with two numbers: V K, or FROM TO.
abbrev pub parse_two_numbers : Verb → Field → Field → ParsedCommand
parse_two_numbers verb.Pin v k = plain_or NoSuchPlace (pin_of v k)
parse_two_numbers verb.Anneal from to = steps_or (stages_of from.unsigned to.unsigned)
parse_two_numbers _ v k = BadLine

-- A command with a demand and one spot: Q X Y E L S.
abbrev pub parse_spot : Verb → Field → Option Spot → ParsedCommand
parse_spot verb.Add1 q a = plain_or Range (add1_of q a)
parse_spot _ q a = BadLine

-- A command with a demand and two spots: Q X Y E L S X Y E L S.
abbrev pub parse_two_spots : Verb → Field → Option Spot → Option Spot → ParsedCommand
parse_two_spots verb.Add q a b = plain_or Range (add_of q a b)
parse_two_spots _ q a b = BadLine

-- A command by its name and its numbers; a bad line if no command has this name and this count of numbers.
unfoldable pub parse_numbers : Verb → List Field → ParsedCommand
parse_numbers v [] = parse_no_numbers v
parse_numbers v (n ∷ []) = parse_one_number v n
parse_numbers v (n ∷ k ∷ []) = parse_two_numbers v n k
parse_numbers v (q ∷ x ∷ y ∷ e ∷ l ∷ s ∷ []) = parse_spot v q (spot_of x y e l s)
parse_numbers v (q ∷ x ∷ y ∷ e ∷ l ∷ s ∷ x' ∷ y' ∷ e' ∷ l' ∷ s' ∷ []) = parse_two_spots v q (spot_of x y e l s) (spot_of x' y' e' l' s')
parse_numbers v _ = BadLine

-- A line that announces a text of this length, in 0..=`MAX_TEXT_LEN`, or that is out of range without one.
abbrev pub text_within : Purpose → Option ℕ → ParsedCommand
text_within purpose (Some len) = Text purpose len
text_within purpose None = TextRange

-- A `load` command with this seed and length, or a line that is out of range if the seed is not in 0..=2^64 - 1.
abbrev pub load_within : Format → Option ℕ → Option ℕ → ParsedCommand
load_within format (Some seed) len = text_within (purpose.Load format seed) len
load_within format None len = TextRange

-- A `load` command by its format and its numbers SEED and LEN; a bad line if the format or a number is missing.
abbrev pub load_with : Option Format → Option (List Field) → ParsedCommand
load_with (Some format) (Some (seed ∷ len ∷ [])) = load_within format seed.unsigned (below (MAX_TEXT_LEN + 1) len.unsigned)
load_with _ _ = BadText

-- A `load` command by the words after its name: KIND SEED LEN.
abbrev pub parse_load : List (List ℕ) → ParsedCommand
parse_load [] = BadText
parse_load (kind ∷ words) = load_with (format_named kind) (fields_of words)

-- An `adopt` command by its only number, LEN; a bad line if there is another count of numbers.
abbrev pub adopt_with : Option (List Field) → ParsedCommand
adopt_with (Some (len ∷ [])) = text_within purpose.Adopt (below (MAX_TEXT_LEN + 1) len.unsigned)
adopt_with _ = BadText

-- All commands with their names.
abbrev pub the_verbs : List (List ℕ × Verb)
the_verbs =
    (codes "load", verb.Load) ∷
    (codes "adopt", verb.Adopt) ∷
    (codes "add", verb.Add) ∷
    (codes "add1", verb.Add1) ∷
    (codes "withdraw", verb.Withdraw) ∷
    (codes "pin", verb.Pin) ∷
    (codes "unpin", verb.Unpin) ∷
    (codes "freeze", verb.Freeze) ∷
    (codes "build", verb.Build) ∷
    (codes "checkpoint", verb.Checkpoint) ∷
    (codes "search", verb.Search) ∷
    (codes "reach", verb.Reach) ∷
    (codes "deviation", verb.Deviation) ∷
    (codes "anneal", verb.Anneal) ∷
    (codes "reduce", verb.Reduce) ∷
    (codes "print", verb.Print) ∷
    (codes "instance", verb.Instance) ∷
    (codes "show", verb.Show) ∷
    (codes "timetable", verb.Timetable) ∷
    (codes "why", verb.Why) ∷
    (codes "next", verb.Next) ∷
    (codes "help", verb.Help) ∷
    []

-- The command with this name in a table, if there is one.
unfoldable pub verb_among : List (List ℕ × Verb) → List ℕ → Option Verb
verb_among [] word = None
verb_among (named ∷ rest) word = if bytes_eq named.0 word then Some named.1 else verb_among rest word

-- The command with this name, if there is one.
unfoldable pub verb_named : List ℕ → Option Verb
verb_named word = verb_among the_verbs word

-- A command and the words after its name; a bad line if no command has the name.
abbrev pub parse_command : Option Verb → List (List ℕ) → ParsedCommand
parse_command None words = BadLine
parse_command (Some verb.Load) words = parse_load words
parse_command (Some verb.Adopt) words = adopt_with (fields_of words)
parse_command (Some v) words = option_map_or (parse_numbers v) (fields_of words) BadLine

-- The words of a line, parsed: nothing without a word, otherwise the command that the first word names.
abbrev pub parse_words : List (List ℕ) → ParsedCommand
parse_words [] = Nothing
parse_words (word ∷ words) = parse_command (verb_named word) words

-- Whether the first word is `load` or `adopt`, so that the line announces a text.
abbrev pub announces_text : List (List ℕ) → Bool
announces_text [] = false
announces_text (word ∷ words) = bytes_eq (codes "load") word || bytes_eq (codes "adopt") word

-- A line, parsed. A line of more than `MAX_LINE_LEN` bytes is bad, whatever it contains.
unfoldable pub parsed_line : List ℕ → ParsedCommand
parsed_line line =
    if nat_le (length line) MAX_LINE_LEN then parse_words (words_of line) else if announces_text (words_of line) then BadText else BadLine
