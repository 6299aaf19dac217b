-- The parsing of arguments that do not begin with a hyphen.
use Rattle.std.proofs.Common.{
  ◌≡◌,
  ◌∙◌,
  ◌⊎◌,
  ◌==◌,
  ◌&&◌,
  ◌||◌,
  Result,
  Ok,
  Err,
  IsErrAnd,
  option_map,
  subst,
  ℕ,
  Bool,
  true,
  false,
  not,
  refl,
  sym,
  ap,
  ap₂,
  List,
  [],
  ◌∷◌,
  ◌++◌,
  Option,
  Some,
  None,
  codes,
  Bor,
  inl,
  inr,
  true≢false,
  append_assoc,
  append-nil,
}
use Rattle.std.specs.Prelude.{drop, find, fold, is_some}
use Rattle.clap.specs.Words.{
  App,
  Kinds,
  Row,
  Rule,
  Shape,
  Text,
  HasKind,
  HasMatchesOf,
  app_of,
  fault_of,
  first_of,
  first_value,
  is_simple,
  is_simple_and_free,
  kind_of,
  found_of,
  rows_of,
  subcommand_name_of,
  subcommand_of,
  subcommand_rows_of,
  IsAmong,
}
use Rattle.clap.specs.declared.parser.ArgMatches.{ArgMatches}
use Rattle.clap.specs.declared.builder.Command.{Command}
use Rattle.clap.specs.declared.error.Error.{Error}
use Rattle.clap.specs.declared.parser.matches.Found.{Found}
use Rattle.clap.specs.declared.parser.matches.ArgMatches.TheViews.{out-ArgMatches, out-SubCommand}
use Rattle.std.specs.Box.{box_value}
use Rattle.clap.specs.Walk.{
  Held,
  Names,
  Walk,
  answers_to,
  arg_by_index,
  finished,
  idle,
  is_multiple,
  next_position,
  nothing_held,
  positional_held,
  settled,
  stop_after,
  subcommand_met,
  subcommand_or_other,
  to_positional,
  value,
  walk,
  walk_from,
  walked,
}
use Rattle.clap.specs.Simple.{built, built_leaf, entered, label_of, names_of, rows_at}
use Rattle.clap.specs.Faults.{built_fault, check_fault, defaults_fault, entered_fault, level_fault, other_fault, settle_fault, step_fault, turn_fault, walk_fault}
use Rattle.clap.specs.declared.error.kind.ErrorKind.TheVariants as kind
use Rattle.clap.specs.declared.error.kind.ErrorKind.{ErrorKind}
use Rattle.instance_read.specs.Formats.{format_named}
use Rattle.instance_read.specs.declared.formats.Format.{Format}
use Rattle.std.specs.Str.{bytes_eq}
use Rattle.std.specs.Prelude.{if◌then◌else◌}
use Rattle.clap.specs.Kinds.{or_else}
use Rattle.std.specs.List.{list_all, list_any}
use Rattle.std.specs.Option.{option_map_or}
use Rattle.std.proofs.lemmas.Slice.Eq.{bytes_eq-Decides}
use Rattle.clap.proofs.WalkLemmas.{first_value-rows, list_any-map}
use Rattle.clap.proofs.OnLiterals.{clap_on_literals}
use Rattle.command_line.proofs.KindNames.{word_accepted}
use Rattle.command_line.specs.declared.arguments.Invocation.{Invocation}
use Rattle.command_line.specs.Invocations.{
  ArePositional,
  InvocationValue,
  IsRefusal,
  PathsValue,
  ReadsMatches,
  ReadsWords,
  parsed_adopt,
  adopt_in,
  parsed_words,
  parsed_command,
  asks_help,
  audit,
  check,
  deviation_or_none,
  parsed_draw,
  draw_in,
  explain,
  format,
  is_positional_word,
  parsed_audit,
  audit_from,
  audit_in,
  parsed_audits,
  audits_from,
  audits_in,
  load,
  parsed_load,
  load_from,
  load_in,
  run,
  parsed_run,
  run_in,
  seed_named,
  solve,
  solves,
  steps_named,
  parsed_store,
  store_in,
  store_instance,
  parsed_solve,
  solve_from,
  solve_in,
  parsed_solves,
  solves_from,
  solves_in,
  parsed_timetable,
  timetable_in,
  matched_command,
  matched_other_command,
  matched_invocation,
  matched_store_command,
  parsed_upgrade,
  upgrade_in,
  usage_status_of,
}
use Rattle.command_line.specs.CommandLine.{
  IsKindNames,
  IsModeNames,
  IsPlannerCommand,
  adopt_app,
  audits_app,
  draw_app,
  load_app,
  paths_app,
  planner_app,
  run_app,
  solve_app,
  solves_app,
  store_app,
  timetable_app,
  upgrade_app,
}

-- ---- an argument that does not begin with a hyphen is a value

is_no_hyphen : (b : Bool) → not b ≡ true → b ≡ false
is_no_hyphen true e = absurd (true≢false (sym e))
is_no_hyphen false e = refl

word_is_value : (c : List Rule) (position : ℕ) (w : Text) (h : Held) → is_positional_word w ≡ true → subcommand_or_other c None idle position w h ≡ (h, value)
word_is_value c position [] h p = refl
word_is_value c position (b ∷ []) h p = by (b == 45) refl
  where
    by : (t : Bool) → (b == 45) ≡ t → subcommand_or_other c None idle position (b ∷ []) h ≡ (h, value)
    by true e = rw (e, e) refl
    by false e = rw (e, e) refl
word_is_value c position (b ∷ d ∷ bs) h p = let e : (b == 45) ≡ false = is_no_hyphen (b == 45) p in rw (e, e) refl

word_passes : (s : Shape) (w : Text) (h : Held) → is_positional_word w ≡ true → other_fault s None w h ≡ []
word_passes s [] h p = refl
word_passes s (b ∷ []) h p = by (b == 45) refl
  where
    by : (t : Bool) → (b == 45) ≡ t → other_fault s None (b ∷ []) h ≡ []
    by true e = rw (e, e) refl
    by false e = rw (e, e) refl
word_passes s (b ∷ d ∷ bs) h p = let e : (b == 45) ≡ false = is_no_hyphen (b == 45) p in rw (e, e) refl

-- a state of the parse between two arguments
abbrev standing : Held → ℕ → Walk
standing h position = record { held = h; waiting = idle; position = position; is_trailing = false; stopped = None }

abbrev after_value : List Rule → Held → ℕ → Text → Walk
after_value c h position w = to_positional c (arg_by_index c position) w (standing h position) h

walked-value : (c : List Rule) (h : Held) (position : ℕ) (w : Text) → is_positional_word w ≡ true → walked c [] (standing h position) w ≡ after_value c h position w
unfolding walked
walked-value c h position w p = rw (word_is_value c position w h p) refl

turn_fault-value : (s : Shape) (h : Held) (position : ℕ) (w : Text) → is_positional_word w ≡ true → turn_fault s [] (standing h position) w ≡ step_fault s position h value
turn_fault-value s h position w p = rw (word_passes s w h p, word_is_value s.rules position w h p) refl

-- ---- after the subcommand's name

abbrev stopped_at : Text → List Text → Walk
stopped_at name words = record { held = nothing_held; waiting = idle; position = 1; is_trailing = false; stopped = Some (name, words) }

stopped_fault : (s : Shape) (names : Names) (name : Text) (before words : List Text) → walk_fault s names (stopped_at name before) words ≡ []
unfolding walk_fault walked
stopped_fault s names name before [] = refl
stopped_fault s names name before (w ∷ words) = stopped_fault s names name (before ++ w ∷ []) words

stopped_walk : (c : List Rule) (names : Names) (name : Text) (before words : List Text) → fold (walked c names) (stopped_at name before) words ≡ stopped_at name (before ++ words)
unfolding walked
stopped_walk c names name before [] = ap (stopped_at name) (sym (append-nil before))
stopped_walk c names name before (w ∷ words) = stopped_walk c names name (before ++ w ∷ []) words ∙ ap (stopped_at name) (append_assoc before (w ∷ []) words)

or_else-nil : (kinds : Kinds) → or_else kinds [] ≡ kinds
or_else-nil [] = refl
or_else-nil (k ∷ ks) = refl

-- ---- the two levels of commands

abbrev the_app : Bor (List (Bor Text)) → Bor (List (Bor Text)) → App
the_app names modes = built (planner_app names modes)

pub no_words : (names modes : Bor (List (Bor Text))) → built_fault (the_app names modes) nothing_held [] ≡ []
unfolding clap_on_literals
no_words names modes = refl

-- ---- commands whose arguments are values

-- the rule takes exactly one argument
abbrev takes_one : Rule → Bool
takes_one a = not (is_multiple a) && not a.trailing_var_arg

abbrev take_one_each : List Rule → Bool
take_one_each rules = list_all takes_one rules

both_true : (a b : Bool) → (a && b) ≡ true → (a ≡ true) × (b ≡ true)
both_true true b h = (refl, h)
both_true false b h = absurd (true≢false (sym h))

found_takes : (test takes : Rule → Bool) (rules : List Rule) (a : Rule) → list_all takes rules ≡ true → find test rules ≡ Some a → takes a ≡ true
found_takes test takes [] a all is = absurd (let h : None ≡ Some a = is in cc)
found_takes test takes (x ∷ xs) a all is = by (test x) refl (found_takes test takes xs a (both_true (takes x) _ all).1)
  where
    by : (b : Bool) → test x ≡ b → (find test xs ≡ Some a → takes a ≡ true) → takes a ≡ true
    by true e later = let same : x ≡ a = (let h : Some x ≡ Some a = rw e at is in cc) in subst (λ y. takes y ≡ true) same (both_true (takes x) _ all).0
    by false e later = later (rw e at is)

-- the values held after one more argument, if a rule takes it
abbrev taken : List Rule → Option Rule → Text → Held → Held
taken rules None w h = h
taken rules (Some a) w h = positional_held rules a w h

abbrev position_after : Option Rule → ℕ → ℕ
position_after None position = position
position_after (Some a) position = next_position a position

-- the values held after these arguments, one by one
abbrev held_after : List Rule → Held → ℕ → List Text → Held
held_after rules h position [] = h
held_after rules h position (w ∷ words) = held_after rules (taken rules (arg_by_index rules position) w h) (position_after (arg_by_index rules position) position) words

abbrev fault_among : Shape → Held → ℕ → List Text → Kinds
fault_among s h position [] = []
fault_among s h position (w ∷ words) =
    or_else (step_fault s position h value) (fault_among s (taken s.rules (arg_by_index s.rules position) w h) (position_after (arg_by_index s.rules position) position) words)

abbrev fault_at_end : Shape → Held → Kinds
fault_at_end s h = or_else (settle_fault s.rules s.args_override_self h) (or_else (defaults_fault (settled s.rules h).rows s.rules) (check_fault s (finished s.rules h) false))

-- the fault of a command with these arguments, if there is one
abbrev leaf_fault : Shape → List Text → Kinds
leaf_fault s words = or_else (fault_among s nothing_held 1 words) (fault_at_end s (held_after s.rules nothing_held 1 words))

abbrev leaf_rows : Shape → List Text → List Row
leaf_rows s words = finished s.rules (held_after s.rules nothing_held 1 words)

stands_after : (rules : List Rule) (o : Option Rule) (w : Text) (h : Held) (position : ℕ) → ((a : Rule) → o ≡ Some a → takes_one a ≡ true)
    → to_positional rules o w (standing h position) h ≡ standing (taken rules o w h) (position_after o position)
stands_after rules None w h position one = refl
stands_after rules (Some a) w h position one =
    let both = both_true (not (is_multiple a)) (not a.trailing_var_arg) (one a refl) in
    let single : is_multiple a ≡ false = is_no_hyphen (is_multiple a) both.0 in
    let free : a.trailing_var_arg ≡ false = is_no_hyphen a.trailing_var_arg both.1 in
    rw (single, free) refl

module _ (s : Shape) (one : take_one_each s.rules ≡ true) where
  walked_on : (h : Held) (position : ℕ) (w : Text) → is_positional_word w ≡ true
      → walked s.rules [] (standing h position) w ≡ standing (taken s.rules (arg_by_index s.rules position) w h) (position_after (arg_by_index s.rules position) position)
  walked_on h position w p =
      walked-value s.rules h position w p
      ∙ stands_after s.rules (arg_by_index s.rules position) w h position (λ a is. found_takes (λ a. option_map_or (λ k. k == position) a.index false) takes_one s.rules a one is)

  walk_holds : (h : Held) (position : ℕ) (words : List Text) → ArePositional words → (fold (walked s.rules []) (standing h position) words).held ≡ held_after s.rules h position words
  walk_holds h position [] p = refl
  walk_holds h position (w ∷ words) p =
      let both = both_true (is_positional_word w) _ p in
      ap (λ (x : Walk). (fold (walked s.rules []) x words).held) (walked_on h position w both.0)
      ∙ walk_holds (taken s.rules (arg_by_index s.rules position) w h) (position_after (arg_by_index s.rules position) position) words both.1

  walk_fails : (h : Held) (position : ℕ) (words : List Text) → ArePositional words → walk_fault s [] (standing h position) words ≡ fault_among s h position words
  unfolding walk_fault
  walk_fails h position [] p = refl
  walk_fails h position (w ∷ words) p =
      let both = both_true (is_positional_word w) _ p in
      ap₂ {C = Kinds} or_else (turn_fault-value s h position w both.0)
      (ap (λ (x : Walk). walk_fault s [] x words) (walked_on h position w both.0)
      ∙ walk_fails (taken s.rules (arg_by_index s.rules position) w h) (position_after (arg_by_index s.rules position) position) words both.1)

  level_is : (words : List Text) → ArePositional words → level_fault s [] nothing_held words false [] ≡ leaf_fault s words
  level_is words p = ap₂ {C = Kinds} (λ (f : Kinds) (h : Held). or_else f (fault_at_end s h)) (walk_fails nothing_held 1 words p) (walk_holds nothing_held 1 words p)

  rows_are : (words : List Text) → ArePositional words → (rows_at s words).1 ≡ leaf_rows s words
  rows_are words p = ap (finished s.rules) (walk_holds nothing_held 1 words p)

-- ---- the result of the parse

-- each kind of error is a usage error
abbrev AreMistakes : Kinds → Type 0
AreMistakes [] = Unit {0}
AreMistakes (k ∷ ks) = (usage_status_of k ≡ 64) × AreMistakes ks

abbrev IsFault : Kinds → Type 0
IsFault [] = ⊥
IsFault (k ∷ ks) = (usage_status_of k ≡ 64) × AreMistakes ks

abbrev IsSomeKind : Kinds → Type 0
IsSomeKind [] = ⊥
IsSomeKind (k ∷ ks) = Unit {0}

-- either the parse succeeds and its matches mean what the arguments mean, or the arguments have no meaning and
-- the parse fails with a usage error or for help
abbrev pub IsJudged : Type 0 → Kinds → Option InvocationValue → Option InvocationValue → Type 0
IsJudged Help faults asked reported = ((faults ≡ []) × (asked ≡ reported)) ⊎ ((IsFault faults ⊎ (Help × IsSomeKind faults)) × (asked ≡ None))

fault_then : (a b : Kinds) → AreMistakes a → IsFault b → IsFault (or_else a b)
fault_then [] b m h = h
fault_then (k ∷ ks) b m h = m

fault_first : (a b : Kinds) → IsFault a → IsFault (or_else a b)
fault_first [] b h = absurd h
fault_first (k ∷ ks) b h = h

-- the fault of an argument that must be one of some names
abbrev unless_named : Bool → Kinds
unless_named true = []
unless_named false = kind.InvalidValue ∷ []

accepted_by : (a : Bool) → or_else (if a then [] else kind.InvalidValue ∷ []) [] ≡ unless_named a
accepted_by true = refl
accepted_by false = refl

accepts_names : (names : Bor (List (Bor Text))) (k : Text) → IsKindNames names → list_any (λ name. bytes_eq name.now k) names.now ≡ is_some (format_named k)
accepts_names names k kinds =
    list_any-map (λ t. bytes_eq t k) (λ (n : Bor Text). n.now) names.now
    ∙ ap (list_any (λ t. bytes_eq t k)) kinds
    ∙ word_accepted k

-- the fault of an argument that must be a kind
abbrev fault_of_kind : Text → Kinds
fault_of_kind k = unless_named (is_some (format_named k))

known_fault : (names : Bor (List (Bor Text))) (k : Text) → IsKindNames names → or_else (if list_any (λ name. bytes_eq name.now k) names.now then [] else kind.InvalidValue ∷ []) [] ≡ fault_of_kind k
known_fault names k kinds = ap (λ b. or_else (if b then [] else kind.InvalidValue ∷ []) []) (accepts_names names k kinds) ∙ accepted_by (is_some (format_named k))

mistakes_by : (a : Bool) → AreMistakes (unless_named a)
mistakes_by true = tt
mistakes_by false = (refl, tt)

kind_mistakes : (fault : Kinds) (k : Text) → fault ≡ fault_of_kind k → AreMistakes fault
kind_mistakes fault k is = subst AreMistakes (sym is) (mistakes_by (is_some (format_named k)))

-- if there are as many arguments as needed, only the kind can be wrong
judged_kind : (Help : Type 0) (o : Option Format) (faults : Kinds) (asked reported : Option InvocationValue) → faults ≡ unless_named (is_some o)
    → (o ≡ None → asked ≡ None)
    → asked ≡ reported → IsJudged Help faults asked reported
judged_kind Help (Some named) faults asked reported f e same = inl (f, same)
judged_kind Help None faults asked reported f e same = inr (inl (subst IsFault (sym f) (refl, tt)), e refl)

judged_leaf : (Help : Type 0) (s : Shape) → take_one_each s.rules ≡ true → (words : List Text) → ArePositional words → (asked : Option InvocationValue) (tell : List Row → Option InvocationValue)
    → IsJudged Help (leaf_fault s words) asked (tell (leaf_rows s words)) → IsJudged Help (level_fault s [] nothing_held words false []) asked (tell (rows_at s words).1)
judged_leaf Help s one words p asked tell judged =
    subst (λ (f : Kinds). IsJudged Help f asked (tell (rows_at s words).1)) (sym (level_is s one words p))
    (subst (λ (rows : List Row). IsJudged Help (leaf_fault s words) asked (tell rows)) (sym (rows_are s one words p)) judged)

-- ---- commands with an argument that is a kind

abbrev missing : Kinds
missing = kind.MissingRequiredArgument ∷ []

-- the fault of the argument KIND, as the parser finds it
abbrev kind_fault : Bor (List (Bor Text)) → Text → Kinds
kind_fault names k = or_else (if list_any (λ name. bytes_eq name.now k) names.now then [] else kind.InvalidValue ∷ []) []

-- a command with the arguments of `audit`, as `clap` builds it
abbrev paths_shape : Text → Bor (List (Bor Text)) → Shape
paths_shape name names = built_leaf (paths_app name names).top

abbrev audits_shape : Bor (List (Bor Text)) → Shape
audits_shape names = built_leaf (audits_app names).top

abbrev solve_shape : Bor (List (Bor Text)) → Shape
solve_shape names = built_leaf (solve_app names).top

abbrev solves_shape : Bor (List (Bor Text)) → Shape
solves_shape names = built_leaf (solves_app names).top

abbrev load_shape : Bor (List (Bor Text)) → Shape
load_shape names = built_leaf (load_app names).top

-- without a kind the arguments have no meaning
no_kind_no_paths : (does : PathsValue → Bool → InvocationValue) (o : Option Format) (i s : Text) (last : Option Text) → o ≡ None
    → audit_from does (option_map (λ k. record { format = k; instance = i; solution = s }) o) last ≡ None
no_kind_no_paths does o i s last none = ap (λ o. audit_from does (option_map (λ k. record { format = k; instance = i; solution = s }) o) last) none

no_kind_no_list : (o : Option Format) (l : Text) (last : Option Text) → o ≡ None → audits_from o l last ≡ None
no_kind_no_list o l last none = ap (λ o. audits_from o l last) none

no_kind_no_task : (o : Option Format) (i : Text) (n s : Option ℕ) (d : Option (Option ℕ)) → o ≡ None → option_map solve (solve_from o i n s d) ≡ None
no_kind_no_task o i n s d none = ap (λ o. option_map solve (solve_from o i n s d)) none

no_kind_no_tasks : (o : Option Format) (l : Text) (n s : Option ℕ) → o ≡ None → option_map solves (solves_from o l n s) ≡ None
no_kind_no_tasks o l n s none = ap (λ o. option_map solves (solves_from o l n s)) none

no_kind_no_load : (w : Text) (o : Option Format) (i : Text) (s : Option ℕ) → o ≡ None → option_map load (load_from w o i s) ≡ None
no_kind_no_load w o i s none = ap (λ o. option_map load (load_from w o i s)) none

module _ (Help : Type 0) (names : Bor (List (Bor Text))) (kinds : IsKindNames names) where
  too_few : (k : Text) (reported : Option InvocationValue) → IsJudged Help (or_else (kind_fault names k) missing) None reported
  too_few k reported = inr (inl (fault_then (kind_fault names k) missing (kind_mistakes _ k (known_fault names k kinds)) (refl, tt)), refl)

  still_too_few : (k : Text) (reported : Option InvocationValue) → IsJudged Help (or_else (or_else (kind_fault names k) []) missing) None reported
  still_too_few k reported = subst (λ (f : Kinds). IsJudged Help (or_else f missing) None reported) (sym (or_else-nil (kind_fault names k))) (too_few k reported)

  too_many : (k : Text) (end : Kinds) (reported : Option InvocationValue) → IsJudged Help (or_else (or_else (kind_fault names k) (kind.UnknownArgument ∷ [])) end) None reported
  too_many k end reported =
      inr (inl (fault_first _ end (fault_then (kind_fault names k) (kind.UnknownArgument ∷ []) (kind_mistakes _ k (known_fault names k kinds)) (refl, tt))), refl)

  enough : (k : Text) (asked reported : Option InvocationValue) → (format_named k ≡ None → asked ≡ None) → asked ≡ reported → IsJudged Help (or_else (or_else (kind_fault names k) []) []) asked reported
  enough k asked reported none same =
      judged_kind Help (format_named k) _ asked reported (or_else-nil _ ∙ or_else-nil _ ∙ known_fault names k kinds) none same

  judged_paths : (does : PathsValue → Bool → InvocationValue) (name : Text) (words : List Text)
      → IsJudged Help (leaf_fault (paths_shape name names) words) (parsed_audit does words) (audit_in does (leaf_rows (paths_shape name names) words))
  unfolding clap_on_literals
  judged_paths does name [] = inr (inl (refl, tt), refl)
  judged_paths does name (k ∷ []) = too_few k _
  judged_paths does name (k ∷ i ∷ []) = still_too_few k _
  judged_paths does name (k ∷ i ∷ s ∷ []) = enough k _ _ (no_kind_no_paths does (format_named k) i s None) refl
  judged_paths does name (k ∷ i ∷ s ∷ r ∷ []) = enough k _ _ (no_kind_no_paths does (format_named k) i s (Some r)) refl
  judged_paths does name (k ∷ i ∷ s ∷ r ∷ x ∷ rest) = too_many k _ _

  judged_list : (words : List Text) → IsJudged Help (leaf_fault (audits_shape names) words) (parsed_audits words) (audits_in (leaf_rows (audits_shape names) words))
  unfolding clap_on_literals
  judged_list [] = inr (inl (refl, tt), refl)
  judged_list (k ∷ []) = too_few k _
  judged_list (k ∷ l ∷ []) = enough k _ _ (no_kind_no_list (format_named k) l None) refl
  judged_list (k ∷ l ∷ r ∷ []) = enough k _ _ (no_kind_no_list (format_named k) l (Some r)) refl
  judged_list (k ∷ l ∷ r ∷ x ∷ rest) = too_many k _ _

  judged_task : (words : List Text)
      → IsJudged Help (leaf_fault (solve_shape names) words) (option_map solve (parsed_solve words)) (option_map solve (solve_in (leaf_rows (solve_shape names) words)))
  unfolding clap_on_literals
  judged_task [] = inr (inl (refl, tt), refl)
  judged_task (k ∷ []) = too_few k _
  judged_task (k ∷ i ∷ []) = still_too_few k _
  judged_task (k ∷ i ∷ n ∷ []) = enough k _ _ (no_kind_no_task (format_named k) i (steps_named n) (Some 0) (Some None)) refl
  judged_task (k ∷ i ∷ n ∷ s ∷ []) = enough k _ _ (no_kind_no_task (format_named k) i (steps_named n) (seed_named s) (Some None)) refl
  judged_task (k ∷ i ∷ n ∷ s ∷ d ∷ []) = enough k _ _ (no_kind_no_task (format_named k) i (steps_named n) (seed_named s) (deviation_or_none (Some d))) refl
  judged_task (k ∷ i ∷ n ∷ s ∷ d ∷ x ∷ rest) = too_many k _ _

  judged_tasks : (words : List Text)
      → IsJudged Help (leaf_fault (solves_shape names) words) (option_map solves (parsed_solves words)) (option_map solves (solves_in (leaf_rows (solves_shape names) words)))
  unfolding clap_on_literals
  judged_tasks [] = inr (inl (refl, tt), refl)
  judged_tasks (k ∷ []) = too_few k _
  judged_tasks (k ∷ l ∷ []) = still_too_few k _
  judged_tasks (k ∷ l ∷ n ∷ []) = enough k _ _ (no_kind_no_tasks (format_named k) l (steps_named n) (Some 0)) refl
  judged_tasks (k ∷ l ∷ n ∷ s ∷ []) = enough k _ _ (no_kind_no_tasks (format_named k) l (steps_named n) (seed_named s)) refl
  judged_tasks (k ∷ l ∷ n ∷ s ∷ x ∷ rest) = too_many k _ _

  judged_load : (words : List Text)
      → IsJudged Help (leaf_fault (load_shape names) words) (option_map load (parsed_load words)) (option_map load (load_in (leaf_rows (load_shape names) words)))
  unfolding clap_on_literals
  judged_load [] = inr (inl (refl, tt), refl)
  judged_load (w ∷ []) = inr (inl (refl, tt), refl)
  judged_load (w ∷ k ∷ []) = too_few k _
  judged_load (w ∷ k ∷ i ∷ []) = enough k _ _ (no_kind_no_load w (format_named k) i (Some 0)) refl
  judged_load (w ∷ k ∷ i ∷ s ∷ []) = enough k _ _ (no_kind_no_load w (format_named k) i (seed_named s)) refl
  judged_load (w ∷ k ∷ i ∷ s ∷ x ∷ rest) = too_many k _ _

-- ---- the other commands

abbrev store_shape : Text → Shape
store_shape name = built_leaf (store_app name).top

abbrev run_shape : Bor (List (Bor Text)) → Shape
run_shape modes = built_leaf (run_app modes).top

abbrev adopt_shape : Shape
adopt_shape = built_leaf adopt_app.top

abbrev upgrade_shape : Shape
upgrade_shape = built_leaf upgrade_app.top

abbrev table_shape : Shape
table_shape = built_leaf timetable_app.top

abbrev draw_shape : Shape
draw_shape = built_leaf draw_app.top

-- the fault of an argument that must be `strict`
abbrev unless_strict : Bool → Kinds
unless_strict true = []
unless_strict false = kind.InvalidValue ∷ []

strict_by : (a : Bool) → or_else (if (a || false) then [] else kind.InvalidValue ∷ []) [] ≡ unless_strict a
strict_by true = refl
strict_by false = refl

accepts_modes : (modes : Bor (List (Bor Text))) (m : Text) → IsModeNames modes → list_any (λ name. bytes_eq name.now m) modes.now ≡ (bytes_eq (codes "strict") m || false)
accepts_modes modes m named = list_any-map (λ t. bytes_eq t m) (λ (n : Bor Text). n.now) modes.now ∙ ap (list_any (λ t. bytes_eq t m)) named

known_mode : (modes : Bor (List (Bor Text))) (m : Text) → IsModeNames modes
    → or_else (if list_any (λ name. bytes_eq name.now m) modes.now then [] else kind.InvalidValue ∷ []) [] ≡ unless_strict (bytes_eq (codes "strict") m)
known_mode modes m named = ap (λ b. or_else (if b then [] else kind.InvalidValue ∷ []) []) (accepts_modes modes m named) ∙ strict_by (bytes_eq (codes "strict") m)

judged_mode : (Help : Type 0) (a : Bool) (store : Text) (faults : Kinds) → faults ≡ unless_strict a
    → let asked = option_map (run store) (if a then Some true else None) in IsJudged Help faults asked asked
judged_mode Help true store faults f = inl (f, refl)
judged_mode Help false store faults f = inr (inl (subst IsFault (sym f) (refl, tt)), refl)

module _ (Help : Type 0) where
  judged_store : (does : Text → InvocationValue) (name : Text) (words : List Text)
      → IsJudged Help (leaf_fault (store_shape name) words) (option_map does (parsed_store words)) (option_map does (store_in (leaf_rows (store_shape name) words)))
  unfolding clap_on_literals
  judged_store does name [] = inr (inl (refl, tt), refl)
  judged_store does name (w ∷ []) = inl (refl, refl)
  judged_store does name (w ∷ x ∷ rest) = inr (inl (refl, tt), refl)

  judged_run : (modes : Bor (List (Bor Text))) → IsModeNames modes → (words : List Text)
      → IsJudged Help (leaf_fault (run_shape modes) words) (parsed_run words) (run_in (leaf_rows (run_shape modes) words))
  unfolding clap_on_literals
  judged_run modes named [] = inr (inl (refl, tt), refl)
  judged_run modes named (w ∷ []) = inl (refl, refl)
  judged_run modes named (w ∷ m ∷ []) = judged_mode Help (bytes_eq (codes "strict") m) w _ (or_else-nil _ ∙ known_mode modes m named)
  judged_run modes named (w ∷ m ∷ x ∷ rest) = inr (inl (refl, tt), refl)

  judged_adopt : (words : List Text) → IsJudged Help (leaf_fault adopt_shape words) (parsed_adopt words) (adopt_in (leaf_rows adopt_shape words))
  unfolding clap_on_literals
  judged_adopt [] = inr (inl (refl, tt), refl)
  judged_adopt (store ∷ []) = inr (inl (refl, tt), refl)
  judged_adopt (store ∷ solution ∷ []) = inl (refl, refl)
  judged_adopt (store ∷ solution ∷ x ∷ rest) = inr (inl (refl, tt), refl)

  judged_upgrade : (words : List Text) → IsJudged Help (leaf_fault upgrade_shape words) (parsed_upgrade words) (upgrade_in (leaf_rows upgrade_shape words))
  unfolding clap_on_literals
  judged_upgrade [] = inr (inl (refl, tt), refl)
  judged_upgrade (old ∷ []) = inr (inl (refl, tt), refl)
  judged_upgrade (old ∷ new ∷ []) = inl (refl, refl)
  judged_upgrade (old ∷ new ∷ x ∷ rest) = inr (inl (refl, tt), refl)

  judged_table : (words : List Text) → IsJudged Help (leaf_fault table_shape words) (parsed_timetable words) (timetable_in (leaf_rows table_shape words))
  unfolding clap_on_literals
  judged_table [] = inr (inl (refl, tt), refl)
  judged_table (a ∷ []) = inl (refl, refl)
  judged_table (a ∷ b ∷ []) = inl (refl, refl)
  judged_table (a ∷ b ∷ c ∷ []) = inl (refl, refl)
  judged_table (a ∷ b ∷ c ∷ d ∷ []) = inl (refl, refl)
  judged_table (a ∷ b ∷ c ∷ d ∷ x ∷ rest) = inr (inl (refl, tt), refl)

  judged_draw : (words : List Text) → IsJudged Help (leaf_fault draw_shape words) (parsed_draw words) (draw_in (leaf_rows draw_shape words))
  unfolding clap_on_literals
  judged_draw [] = inr (inl (refl, tt), refl)
  judged_draw (a ∷ []) = inl (refl, refl)
  judged_draw (a ∷ b ∷ []) = inl (refl, refl)
  judged_draw (a ∷ b ∷ c ∷ []) = inl (refl, refl)
  judged_draw (a ∷ b ∷ c ∷ d ∷ []) = inl (refl, refl)
  judged_draw (a ∷ b ∷ c ∷ d ∷ x ∷ rest) = inr (inl (refl, tt), refl)

-- ---- the subcommands

-- the first argument is a subcommand, `help`, or one that is not expected
abbrev stop_in : Bor (List (Bor Text)) → Bor (List (Bor Text)) → List Text → Option (Text × List Row)
stop_in names modes words = entered (the_app names modes) (stop_after (the_app names modes).top.rules (names_of (the_app names modes)) words)

-- the name is that of a subcommand, and not `help`
abbrev IsNamed : App → Text → Shape → Type 0
IsNamed app name s =
    (subcommand_met (names_of app) idle name ≡ Some name) × (find (λ s. answers_to name (label_of s)) app.subs ≡ Some s) × (bytes_eq name (codes "help") ≡ false)

module _ (names modes : Bor (List (Bor Text))) (name : Text) (s : Shape) (named : IsNamed (the_app names modes) name s) (words : List Text) where
  abbrev app : App
  app = the_app names modes

  name_walked : walked app.top.rules (names_of app) (walk_from nothing_held) name ≡ stopped_at name []
  unfolding walked
  name_walked = rw named.0 refl

  name_turn : turn_fault app.top (names_of app) (walk_from nothing_held) name ≡ []
  name_turn = rw (named.0, named.2) refl

  words_walked : walk app.top.rules (names_of app) nothing_held (name ∷ words) ≡ stopped_at name words
  words_walked = ap (λ (w : Walk). fold (walked app.top.rules (names_of app)) w words) name_walked ∙ stopped_walk app.top.rules (names_of app) name [] words

  no_walk_fault : walk_fault app.top (names_of app) (walk_from nothing_held) (name ∷ words) ≡ []
  unfolding walk_fault
  no_walk_fault =
      ap₂ {C = Kinds} or_else name_turn (ap (λ (w : Walk). walk_fault app.top (names_of app) w words) name_walked ∙ stopped_fault app.top (names_of app) name [] words)

  -- after the subcommand's name, the fault is that of the subcommand with the remaining arguments
  named_fault : built_fault app nothing_held (name ∷ words) ≡ level_fault s [] nothing_held words false []
  unfolding clap_on_literals
  named_fault =
      ap₂ {C = Kinds} (λ (f : Kinds) (w : Walk).
      or_else f (or_else (entered_fault app w.stopped) (or_else (settle_fault app.top.rules app.top.args_override_self w.held)
      (or_else (defaults_fault (settled app.top.rules w.held).rows app.top.rules) (check_fault app.top (finished app.top.rules w.held) (is_some (entered app w.stopped)))))))
      no_walk_fault words_walked
      ∙ rw named.1 (or_else-nil (level_fault s [] nothing_held words false []))

  named_stop : matched_invocation (stop_in names modes (name ∷ words)) ≡ matched_command s.name (rows_at s words).1
  named_stop = ap (λ (w : Walk). matched_invocation (entered app w.stopped)) words_walked ∙ rw named.1 refl

  -- the arguments are valid if those of the subcommand are
  judged_named : (Help : Type 0) (w : Text) (asked : Option InvocationValue) → take_one_each s.rules ≡ true → ArePositional words → name ≡ w
      → IsJudged Help (leaf_fault s words) asked (matched_command s.name (leaf_rows s words)) → IsJudged Help (built_fault app nothing_held (w ∷ words)) asked (matched_invocation (stop_in names modes (w ∷ words)))
  judged_named Help w asked one p is judged =
      subst (λ (v : Text). IsJudged Help (built_fault app nothing_held (v ∷ words)) asked (matched_invocation (stop_in names modes (v ∷ words)))) is
      (subst (λ (f : Kinds). IsJudged Help f asked (matched_invocation (stop_in names modes (name ∷ words)))) (sym named_fault)
      (subst (λ (t : Option InvocationValue). IsJudged Help (level_fault s [] nothing_held words false []) asked t) (sym named_stop)
      (judged_leaf Help s one words p asked (matched_command s.name) judged)))

help_fault : (names modes : Bor (List (Bor Text))) (words : List Text) → IsSomeKind (built_fault (the_app names modes) nothing_held (codes "help" ∷ words))
unfolding clap_on_literals
help_fault names modes words = tt

abbrev all_names : Names
all_names =
    (codes "audit", []) ∷ (codes "audits", []) ∷ (codes "explain", []) ∷ (codes "timetable", []) ∷ (codes "draw", []) ∷ (codes "solve", []) ∷
    (codes "solves", []) ∷ (codes "format", []) ∷ (codes "load", []) ∷ (codes "run", []) ∷ (codes "adopt", []) ∷ (codes "instance", []) ∷
    (codes "check", []) ∷ (codes "upgrade", []) ∷ (codes "help", []) ∷ []

-- the argument is not the name of a subcommand
record IsOther (w : Text) : Type 0 where
  positional : is_positional_word w ≡ true
  no_audit : bytes_eq (codes "audit") w ≡ false
  no_audits : bytes_eq (codes "audits") w ≡ false
  no_explain : bytes_eq (codes "explain") w ≡ false
  no_draw : bytes_eq (codes "draw") w ≡ false
  no_solve : bytes_eq (codes "solve") w ≡ false
  no_format : bytes_eq (codes "format") w ≡ false
  no_load : bytes_eq (codes "load") w ≡ false
  no_run : bytes_eq (codes "run") w ≡ false
  no_adopt : bytes_eq (codes "adopt") w ≡ false
  no_instance : bytes_eq (codes "instance") w ≡ false
  no_check : bytes_eq (codes "check") w ≡ false
  no_upgrade : bytes_eq (codes "upgrade") w ≡ false
  no_timetable : bytes_eq (codes "timetable") w ≡ false
  no_solves : bytes_eq (codes "solves") w ≡ false

no_subcommand : (w : Text) → IsOther w → bytes_eq (codes "help") w ≡ false → subcommand_met all_names idle w ≡ None
no_subcommand w o h = rw (
  o.no_audit,
  o.no_audits,
  o.no_explain,
  o.no_draw,
  o.no_solve,
  o.no_format,
  o.no_load,
  o.no_run,
  o.no_adopt,
  o.no_instance,
  o.no_check,
  o.no_upgrade,
  o.no_timetable,
  o.no_solves,
  h,
) refl

turn_fault-stray : (s : Shape) (w : Text) → IsOther w → bytes_eq (codes "help") w ≡ false → turn_fault s all_names (standing nothing_held 1) w ≡ step_fault s 1 nothing_held value
turn_fault-stray s w o h = rw (no_subcommand w o h, word_passes s w nothing_held o.positional, word_is_value s.rules 1 w nothing_held o.positional) refl

stray_first : (names modes : Bor (List (Bor Text))) (w : Text) (words : List Text) → IsOther w → bytes_eq (codes "help") w ≡ false
    → IsFault (walk_fault (the_app names modes).top all_names (walk_from nothing_held) (w ∷ words))
unfolding walk_fault
stray_first names modes w words o h = fault_first _ _ (subst IsFault (sym (turn_fault-stray (the_app names modes).top w o h)) (refl, (refl, tt)))

judged_other : (names modes : Bor (List (Bor Text))) (w : Text) (words : List Text) (is_help : Bool) → bytes_eq (codes "help") w ≡ is_help → IsOther w
    → IsFault (built_fault (the_app names modes) nothing_held (w ∷ words)) ⊎ ((asks_help (w ∷ words) ≡ true) × IsSomeKind (built_fault (the_app names modes) nothing_held (w ∷ words)))
judged_other names modes w words true h o =
    let is : codes "help" ≡ w = (bytes_eq-Decides (codes "help") w).0 h in
    inr (h, subst (λ (v : Text). IsSomeKind (built_fault (the_app names modes) nothing_held (v ∷ words))) is (help_fault names modes words))
judged_other names modes w words false h o = inl (fault_first _ _ (stray_first names modes w words o h))

-- a property of the meaning holds if it holds both when the argument is this name and when it is another
by_name : (P : Option InvocationValue → Type 0) (name w : Text) (this other : Option InvocationValue) → (name ≡ w → P this) → (bytes_eq name w ≡ false → P other) → P (if bytes_eq name w then this else other)
by_name P name w this other here there = by (bytes_eq name w) refl
  where
    by : (b : Bool) → bytes_eq name w ≡ b → P (if b then this else other)
    by true e = here ((bytes_eq-Decides name w).0 e)
    by false e = there e

module _ (names modes : Bor (List (Bor Text))) (kinds : IsKindNames names) (known : IsModeNames modes) (w : Text) (words : List Text) (positional : ArePositional (w ∷ words)) where
  abbrev AsksHelp : Type 0
  AsksHelp = asks_help (w ∷ words) ≡ true

  abbrev Judged : Option InvocationValue → Type 0
  Judged asked = IsJudged AsksHelp (built_fault (the_app names modes) nothing_held (w ∷ words)) asked (matched_invocation (stop_in names modes (w ∷ words)))

  of_command : (name : Text) (s : Shape) (asked : Option InvocationValue) → IsNamed (the_app names modes) name s → take_one_each s.rules ≡ true
      → IsJudged AsksHelp (leaf_fault s words) asked (matched_command s.name (leaf_rows s words)) → name ≡ w → Judged asked
  of_command name s asked named one judged is = judged_named names modes name s named words AsksHelp w asked one (both_true (is_positional_word w) _ positional).1 is judged

  judged_first : Judged (parsed_command words w)
  judged_first =
      by_name Judged (codes "audit") w _ _ (of_command (codes "audit") (paths_shape (codes "audit") names) _ (refl, refl, refl) refl
      (judged_paths AsksHelp names kinds audit (codes "audit") words)) (λ no_audit.
      by_name Judged (codes "audits") w _ _ (of_command (codes "audits") (audits_shape names) _ (refl, refl, refl) refl (judged_list AsksHelp names kinds words)) (λ no_audits.
      by_name Judged (codes "explain") w _ _ (of_command (codes "explain") (paths_shape (codes "explain") names) _ (refl, refl, refl) refl
      (judged_paths AsksHelp names kinds explain (codes "explain") words)) (λ no_explain.
      by_name Judged (codes "draw") w _ _ (of_command (codes "draw") draw_shape _ (refl, refl, refl) refl (judged_draw AsksHelp words)) (λ no_draw.
      by_name Judged (codes "solve") w _ _ (of_command (codes "solve") (solve_shape names) _ (refl, refl, refl) refl (judged_task AsksHelp names kinds words)) (λ no_solve.
      by_name Judged (codes "format") w _ _ (of_command (codes "format") (store_shape (codes "format")) _ (refl, refl, refl) refl (judged_store AsksHelp format (codes "format") words)) (λ no_format.
      by_name Judged (codes "load") w _ _ (of_command (codes "load") (load_shape names) _ (refl, refl, refl) refl (judged_load AsksHelp names kinds words)) (λ no_load.
      by_name Judged (codes "run") w _ _ (of_command (codes "run") (run_shape modes) _ (refl, refl, refl) refl (judged_run AsksHelp modes known words)) (λ no_run.
      by_name Judged (codes "upgrade") w _ _ (of_command (codes "upgrade") upgrade_shape _ (refl, refl, refl) refl (judged_upgrade AsksHelp words)) (λ no_upgrade.
      by_name Judged (codes "timetable") w _ _ (of_command (codes "timetable") table_shape _ (refl, refl, refl) refl (judged_table AsksHelp words)) (λ no_timetable.
      by_name Judged (codes "adopt") w _ _ (of_command (codes "adopt") adopt_shape _ (refl, refl, refl) refl (judged_adopt AsksHelp words)) (λ no_adopt.
      by_name Judged (codes "instance") w _ _ (of_command (codes "instance") (store_shape (codes "instance")) _ (refl, refl, refl) refl
      (judged_store AsksHelp store_instance (codes "instance") words)) (λ no_instance.
      by_name Judged (codes "check") w _ _ (of_command (codes "check") (store_shape (codes "check")) _ (refl, refl, refl) refl (judged_store AsksHelp check (codes "check") words)) (λ no_check.
      by_name Judged (codes "solves") w _ _ (of_command (codes "solves") (solves_shape names) _ (refl, refl, refl) refl (judged_tasks AsksHelp names kinds words)) (λ no_solves.
      inr (
        judged_other names modes w words (bytes_eq (codes "help") w) refl (record {
          positional = (both_true (is_positional_word w) _ positional).0;
          no_audit = no_audit;
          no_audits = no_audits;
          no_explain = no_explain;
          no_draw = no_draw;
          no_solve = no_solve;
          no_format = no_format;
          no_load = no_load;
          no_run = no_run;
          no_adopt = no_adopt;
          no_instance = no_instance;
          no_check = no_check;
          no_upgrade = no_upgrade;
          no_timetable = no_timetable;
          no_solves = no_solves;
        }),
        refl,
      )))))))))))))))

-- parsing arguments that do not begin with a hyphen
pub judged_words : (names modes : Bor (List (Bor Text))) (words : List Text) → IsKindNames names → IsModeNames modes → ArePositional words
    → IsJudged (asks_help words ≡ true) (built_fault (the_app names modes) nothing_held words) (parsed_words words) (matched_invocation (stop_in names modes words))
judged_words names modes [] kinds known p = inl (no_words names modes, refl)
judged_words names modes (w ∷ words) kinds known p = judged_first names modes kinds known w words p

-- ---- the values of arguments

pub value_is : (f : Found) (id : Text) (o : Option Text) → o ≡ first_value f id → first_of id (rows_of f) ≡ o
value_is f id o e = sym (e ∙ first_value-rows f id)

is_not : (b : Bool) → (b ≡ true → ⊥) → b ≡ false
is_not true n = absurd (n refl)
is_not false n = refl

-- ---- the name of a command that takes no solution

other_name : (name w : Text) → (w ≡ name → ⊥) → bytes_eq name w ≡ false
other_name name w n = is_not (bytes_eq name w) (λ e. n (sym ((bytes_eq-Decides name w).0 e)))

pub reported_other : (w : Text) (rows : List Row) → (w ≡ codes "audit" → ⊥) → (w ≡ codes "explain" → ⊥) → matched_command w rows ≡ matched_other_command w rows
reported_other w rows a e = rw (other_name (codes "audit") w a, other_name (codes "explain") w e) refl

pub reported_store : (w : Text) (rows : List Row) → (w ≡ codes "audits" → ⊥) → (w ≡ codes "solve" → ⊥) → (w ≡ codes "solves" → ⊥) → (w ≡ codes "draw" → ⊥)
    → (w ≡ codes "timetable" → ⊥) → matched_other_command w rows ≡ matched_store_command w rows
reported_store w rows a s ss d t = rw (
  other_name (codes "audits") w a,
  other_name (codes "solve") w s,
  other_name (codes "solves") w ss,
  other_name
      (codes "draw") w d,
  other_name (codes "timetable") w t,
) refl

pub reported_run : (w : Text) (rows : List Row) → (w ≡ codes "format" → ⊥) → (w ≡ codes "load" → ⊥) → (w ≡ codes "adopt" → ⊥) → (w ≡ codes "instance" → ⊥)
    → (w ≡ codes "check" → ⊥) → (w ≡ codes "upgrade" → ⊥) → matched_store_command w rows ≡ run_in rows
reported_run w rows f l a i c u =
    rw (
      other_name (codes "format") w f,
      other_name (codes "load") w l,
      other_name (codes "adopt") w a,
      other_name (codes "instance") w i,
      other_name
          (codes "check") w c,
      other_name (codes "upgrade") w u,
    ) refl

-- ---- the parse

simple_app : (names modes : Bor (List (Bor Text))) → is_simple_and_free (planner_app names modes) ≡ true
simple_app names modes = refl

is_simple_app : (names modes : Bor (List (Bor Text))) → is_simple (planner_app names modes) ≡ true
is_simple_app names modes = refl

pub is_simple_command : (command : Command) → IsPlannerCommand command → is_simple_and_free (app_of command) ≡ true
is_simple_command command h = ap is_simple_and_free h.app ∙ simple_app h.names h.mode_names

judged_app : (names modes : Bor (List (Bor Text))) (texts : List Text) → IsKindNames names → IsModeNames modes → ArePositional (drop 1 texts)
    → IsJudged (asks_help (drop 1 texts) ≡ true) (fault_of (planner_app names modes) texts) (parsed_words (drop 1 texts)) (matched_invocation (subcommand_of (planner_app names modes) texts))
judged_app names modes texts kinds named p = judged_words names modes (drop 1 texts) kinds named p

pub judged : (command : Command) (texts : List Text) → IsPlannerCommand command → ArePositional (drop 1 texts)
    → IsJudged (asks_help (drop 1 texts) ≡ true) (fault_of (app_of command) texts) (parsed_words (drop 1 texts)) (matched_invocation (subcommand_of (app_of command) texts))
judged command texts h p =
    subst (λ (a : App). IsJudged (asks_help (drop 1 texts) ≡ true) (fault_of a texts) (parsed_words (drop 1 texts)) (matched_invocation (subcommand_of a texts))) (sym h.app)
    (judged_app h.names h.mode_names texts h.kinds h.modes p)

mistakes : (faults : Kinds) → IsFault faults → AreMistakes faults
mistakes [] h = absurd h
mistakes (k ∷ ks) h = h

mistake_among : (k : ErrorKind) (faults : Kinds) → AreMistakes faults → IsAmong k faults → usage_status_of k ≡ 64
mistake_among k [] h a = absurd a
mistake_among k (x ∷ xs) h (inl e) = ap usage_status_of e ∙ h.0
mistake_among k (x ∷ xs) h (inr a) = mistake_among k xs h.1 a

pub refused : (words : List Text) (faults : Kinds) (reported : Option InvocationValue) (e : Error) → IsJudged (asks_help words ≡ true) faults (parsed_words words) reported → HasKind faults e → IsRefusal words e
refused words faults reported e (inl passed) has =
    let in_none : HasKind [] e = subst (λ (f : Kinds). HasKind f e) passed.0 has in
    elim in_none [ inl m ↦ inl m | inr none ↦ absurd none ]
refused words faults reported e (inr failing) has =
    elim has [
      | inl m ↦ inl m
      | inr among ↦ inr (
        failing.1,
        elim failing.0 [
          | inl fault ↦ inr (mistake_among (kind_of e) faults (mistakes faults fault) among)
          | inr help ↦ inl help.0
        ],
      )
    ]

nothing_failed : (faults : Kinds) → faults ≡ [] → IsSomeKind faults → ⊥
nothing_failed faults none h = subst IsSomeKind none h

pub accepted : (Help : Type 0) (faults : Kinds) (asked reported : Option InvocationValue) → IsJudged Help faults asked reported → faults ≡ [] → asked ≡ reported
accepted Help faults asked reported (inl passed) none = passed.1
accepted Help faults asked reported (inr failing) none =
    elim failing.0 [ inl fault ↦ absurd (subst IsFault none fault) | inr help ↦ absurd (nothing_failed faults none help.1) ]

-- if the parse returns matches, they mean what the arguments mean
pub parsed : (command : Command) (texts : List Text) (m : ArgMatches) → IsPlannerCommand command → ArePositional (drop 1 texts)
    → (is_simple_and_free (app_of command) ≡ true → fault_of (app_of command) texts ≡ [])
    → HasMatchesOf (app_of command) texts m → parsed_words (drop 1 texts) ≡ matched_invocation (subcommand_rows_of m)
parsed command texts m h p no_fault matches =
    accepted _ _ _ _ (judged command texts h p) (no_fault (is_simple_command command h)) ∙ ap matched_invocation (sym (matches (ap is_simple h.app ∙ is_simple_app h.names h.mode_names)).1)

-- `?` returns the error unchanged
pub passed_up : (words : List Text) (r : Result Invocation Error) (e : Error) → IsErrAnd r (λ y. y ≡ e) → IsRefusal words e → ReadsWords words r
passed_up words (Ok x) e is h = absurd is
passed_up words (Err y) e is h = subst (λ (z : Error). IsRefusal words z) (sym is) h

-- the matches are read as the invocation that the arguments mean
pub read_of : (words : List Text) (reported : Option InvocationValue) (r : Result Invocation Error) → parsed_words words ≡ reported → ReadsMatches reported r → ReadsWords words r
read_of words reported (Ok invocation) same read = same ∙ read
read_of words reported (Err error) same (inl memory) = inl memory
read_of words reported (Err error) same (inr refused) = inr (same ∙ refused.0, inr refused.1)

-- ---- the subcommand's name and its rows

abbrev pair_with : {B : Type 0} → (B → Text) → (B → List Row) → Option B → Option (Text × List Row)
pair_with f g o = option_map {U = Text × List Row} (λ b. (f b, g b)) o

paired : {B : Type 0} (o : Option B) (f : B → Text) (g : B → List Row) (n : Text) (r : List Row) → Some n ≡ option_map f o → Some r ≡ option_map (λ (p : Text × List Row). p.1) (pair_with f g o)
    → pair_with f g o ≡ Some (n, r)
paired None f g n r en er = cc
paired (Some b) f g n r en er =
    let e : f b ≡ n = cc in
    let e' : g b ≡ r = cc in
    rw (e, e') refl

pub reported_name : (m : ArgMatches) (n : Text) (r : List Row) → Some n ≡ subcommand_name_of m
    → Some r ≡ option_map (λ (p : Text × List Row). p.1) (subcommand_rows_of m) → matched_command n r ≡ matched_invocation (subcommand_rows_of m)
reported_name m n r en er =
    sym (ap matched_invocation (paired (out-ArgMatches m).subcommand (λ b. (out-SubCommand (box_value b)).name.now) (λ b. rows_of (found_of (out-SubCommand (box_value b)).matches)) n r en er))
