-- The meaning of the command line's arguments, those after the program's name.
use Rattle.std.specs.Prelude.{
  ◌≡◌,
  ◌+◌,
  ◌==◌,
  ◌&&◌,
  ◌⊎◌,
  ◌^◌,
  ℕ,
  ℤ,
  pos,
  int_le,
  int_lt,
  Bool,
  true,
  false,
  not,
  List,
  [],
  ◌∷◌,
  codes,
  Option,
  Some,
  None,
  Result,
  MatchResult,
  if◌then◌else◌,
  option_and_then,
  option_map,
}
use Rattle.std.specs.Int.RustNames.{unsigned_abs}
use Rattle.std.specs.List.{list_all}
use Rattle.std.specs.Str.{bytes_eq}
use Rattle.clap.specs.Words.{Row, Text, first_of, kind_of}
use Rattle.clap.specs.declared.error.Error.{Error}
use Rattle.clap.specs.declared.error.kind.ErrorKind.TheVariants.{DisplayHelp, DisplayVersion, OutOfMemory}
use Rattle.clap.specs.declared.error.kind.ErrorKind.{ErrorKind}
use Rattle.instance_read.specs.Formats.{format_named}
use Rattle.instance_read.specs.declared.formats.Format.{Format as InstanceFormat}
use Rattle.text_lines.specs.Numbers.{below, digits_of, integer_of}
use Rattle.plan_types.specs.declared.limits.TheConstants.{MAX_REQUESTED_STEPS, MAX_DEVIATION}
use Rattle.command_line.specs.declared.arguments.Paths.{Paths}
use Rattle.command_line.specs.declared.arguments.Invocation.{Invocation}
use Rattle.command_line.specs.declared.arguments.Invocation.TheVariants.{
  Adopt,
  Audit,
  Audits,
  BuiltIn,
  Check,
  Draw,
  DrawStore,
  Explain,
  Format,
  Load,
  Run,
  Solve,
  Solves,
  StoreInstance,
  StoreTimetable,
  Timetable,
  Upgrade,
}
use Rattle.command_line.specs.declared.arguments.LoadArgs.{LoadArgs}
use Rattle.command_line.specs.declared.arguments.SolveArgs.{SolveArgs}
use Rattle.command_line.specs.declared.arguments.SolvesArgs.{SolvesArgs}

-- The paths of two files, and the format of their instance.
pub record PathsValue : Type 0 where
  pub format : InstanceFormat
  pub instance : Text
  pub solution : Text

-- The file of an instance, and the arguments for solving it.
pub record SolveArgsValue : Type 0 where
  pub format : InstanceFormat
  pub instance : Text
  pub steps : ℕ
  pub seed : ℕ
  pub deviation : Option ℕ

-- The file of a list of instances, and the arguments for solving each of them.
pub record SolvesArgsValue : Type 0 where
  pub format : InstanceFormat
  pub list : Text
  pub steps : ℕ
  pub seed : ℕ

-- A store's file, an instance's file, and the seed of the store's searches.
pub record LoadArgsValue : Type 0 where
  pub store : Text
  pub format : InstanceFormat
  pub instance : Text
  pub seed : ℕ

-- The value of an `Invocation` in contracts.
pub data InvocationValue : Type 0 where
  built_in : InvocationValue
  audit : PathsValue → Bool → InvocationValue
  audits : InstanceFormat → Text → Bool → InvocationValue
  explain : PathsValue → Bool → InvocationValue
  draw : PathsValue → Option ℕ → InvocationValue
  draw_store : Text → Option ℕ → InvocationValue
  solve : SolveArgsValue → InvocationValue
  solves : SolvesArgsValue → InvocationValue
  format : Text → InvocationValue
  load : LoadArgsValue → InvocationValue
  run : Text → Bool → InvocationValue
  adopt : Text → Text → InvocationValue
  store_instance : Text → InvocationValue
  check : Text → InvocationValue
  upgrade : Text → Text → InvocationValue
  timetable : PathsValue → Bool → InvocationValue
  store_timetable : Text → Bool → InvocationValue

abbrev pub paths_of : Paths → PathsValue
paths_of paths = record { format = paths.format; instance = paths.instance.now; solution = paths.solution.now }

abbrev pub task_of : SolveArgs → SolveArgsValue
task_of task = record { format = task.format; instance = task.instance.now; steps = task.steps; seed = task.seed; deviation = task.deviation }

abbrev pub tasks_of : SolvesArgs → SolvesArgsValue
tasks_of tasks = record { format = tasks.format; list = tasks.list.now; steps = tasks.steps; seed = tasks.seed }

abbrev pub load_of : LoadArgs → LoadArgsValue
load_of loading = record { store = loading.store.now; format = loading.format; instance = loading.instance.now; seed = loading.seed }

abbrev pub invocation_value : Invocation → InvocationValue
invocation_value BuiltIn = built_in
invocation_value (Audit paths routes_alone) = audit (paths_of paths) routes_alone
invocation_value (Audits kind list routes_alone) = audits kind list.now routes_alone
invocation_value (Explain paths routes_alone) = explain (paths_of paths) routes_alone
invocation_value (Draw paths route) = draw (paths_of paths) route
invocation_value (DrawStore store route) = draw_store store.now route
invocation_value (Solve task) = solve (task_of task)
invocation_value (Solves tasks) = solves (tasks_of tasks)
invocation_value (Format store) = format store.now
invocation_value (Load loading) = load (load_of loading)
invocation_value (Run store is_strict) = run store.now is_strict
invocation_value (Adopt store solution) = adopt store.now solution.now
invocation_value (StoreInstance store) = store_instance store.now
invocation_value (Check store) = check store.now
invocation_value (Upgrade old new) = upgrade old.now new.now
invocation_value (Timetable paths is_tabbed) = timetable (paths_of paths) is_tabbed
invocation_value (StoreTimetable store is_tabbed) = store_timetable store.now is_tabbed

-- A number of steps, in digits only.
abbrev pub steps_named : Text → Option ℕ
steps_named word = below (MAX_REQUESTED_STEPS + 1) (digits_of word)

-- A number, if a `u64` holds it.
abbrev pub as_u64 : ℤ → Option ℕ
as_u64 z = if int_le (pos 0) z && int_lt z (pos (2 ^ 64)) then Some (unsigned_abs z) else None

-- A seed as in a `load` command of `run`, without a minus sign.
abbrev pub seed_named : Text → Option ℕ
seed_named [] = None
seed_named (b ∷ bs) = if b == 45 then None else option_and_then as_u64 (integer_of (b ∷ bs))

-- The seed, 0 if none is given.
abbrev pub seed_or_none : Option Text → Option ℕ
seed_or_none None = Some 0
seed_or_none (Some word) = seed_named word

infixl 10 ◌>>=◌
-- The function applied to the value, if there is one.
abbrev pub ◌>>=◌ : {A B : Type 0} → Option A → (A → Option B) → Option B
o >>= f = option_and_then f o

abbrev pub paths_from : Text → Text → Text → Option PathsValue
paths_from kind instance solution = option_map (λ k. record { format = k; instance = instance; solution = solution }) (format_named kind)

-- Whether the last argument is given. It must be this word.
abbrev pub flag_named : Text → Option Text → Option Bool
flag_named name None = Some false
flag_named name (Some word) = if bytes_eq name word then Some true else None

abbrev pub audit_from : (PathsValue → Bool → InvocationValue) → Option PathsValue → Option Text → Option InvocationValue
audit_from does paths last = do
  paths ← paths
  routes_alone ← flag_named (codes "routes") last
  Some (does paths routes_alone)

-- `KIND INSTANCE SOLUTION [routes]`.
abbrev pub parsed_audit : (PathsValue → Bool → InvocationValue) → List Text → Option InvocationValue
parsed_audit does (kind ∷ instance ∷ solution ∷ []) = audit_from does (paths_from kind instance solution) None
parsed_audit does (kind ∷ instance ∷ solution ∷ last ∷ []) = audit_from does (paths_from kind instance solution) (Some last)
parsed_audit does _ = None

abbrev pub audits_from : Option InstanceFormat → Text → Option Text → Option InvocationValue
audits_from kind list last = do
  kind ← kind
  routes_alone ← flag_named (codes "routes") last
  Some (audits kind list routes_alone)

-- `KIND LIST [routes]`.
abbrev pub parsed_audits : List Text → Option InvocationValue
parsed_audits (kind ∷ list ∷ []) = audits_from (format_named kind) list None
parsed_audits (kind ∷ list ∷ last ∷ []) = audits_from (format_named kind) list (Some last)
parsed_audits _ = None

-- A deviation, in digits only, or `None` if this argument is missing.
abbrev pub deviation_or_none : Option Text → Option (Option ℕ)
deviation_or_none None = Some None
deviation_or_none (Some word) = option_map (λ d. Some d) (below (MAX_DEVIATION + 1) (digits_of word))

abbrev pub solve_from : Option InstanceFormat → Text → Option ℕ → Option ℕ → Option (Option ℕ) → Option SolveArgsValue
solve_from kind instance steps seed deviation = do
  kind ← kind
  steps ← steps
  seed ← seed
  deviation ← deviation
  Some (record { format = kind; instance = instance; steps = steps; seed = seed; deviation = deviation })

-- `KIND INSTANCE STEPS [SEED [DEVIATION]]`.
abbrev pub parsed_solve : List Text → Option SolveArgsValue
parsed_solve (kind ∷ instance ∷ steps ∷ []) = solve_from (format_named kind) instance (steps_named steps) (Some 0) (Some None)
parsed_solve (kind ∷ instance ∷ steps ∷ seed ∷ []) = solve_from (format_named kind) instance (steps_named steps) (seed_named seed) (Some None)
parsed_solve (kind ∷ instance ∷ steps ∷ seed ∷ deviation ∷ []) =
    solve_from (format_named kind) instance (steps_named steps) (seed_named seed) (deviation_or_none (Some deviation))
parsed_solve _ = None

abbrev pub solves_from : Option InstanceFormat → Text → Option ℕ → Option ℕ → Option SolvesArgsValue
solves_from kind list steps seed = do
  kind ← kind
  steps ← steps
  seed ← seed
  Some (record { format = kind; list = list; steps = steps; seed = seed })

-- `KIND LIST STEPS [SEED]`.
abbrev pub parsed_solves : List Text → Option SolvesArgsValue
parsed_solves (kind ∷ list ∷ steps ∷ []) = solves_from (format_named kind) list (steps_named steps) (Some 0)
parsed_solves (kind ∷ list ∷ steps ∷ seed ∷ []) = solves_from (format_named kind) list (steps_named steps) (seed_named seed)
parsed_solves _ = None

-- `STORE`.
abbrev pub parsed_store : List Text → Option Text
parsed_store (store ∷ []) = Some store
parsed_store _ = None

abbrev pub load_from : Text → Option InstanceFormat → Text → Option ℕ → Option LoadArgsValue
load_from store kind instance seed = do
  kind ← kind
  seed ← seed
  Some (record { store = store; format = kind; instance = instance; seed = seed })

abbrev pub run_from : Text → Option Text → Option InvocationValue
run_from store mode = option_map (run store) (flag_named (codes "strict") mode)

-- `STORE [strict]`.
abbrev pub parsed_run : List Text → Option InvocationValue
parsed_run (store ∷ []) = run_from store None
parsed_run (store ∷ mode ∷ []) = run_from store (Some mode)
parsed_run _ = None

-- `STORE KIND INSTANCE [SEED]`.
abbrev pub parsed_load : List Text → Option LoadArgsValue
parsed_load (store ∷ kind ∷ instance ∷ []) = load_from store (format_named kind) instance (Some 0)
parsed_load (store ∷ kind ∷ instance ∷ seed ∷ []) = load_from store (format_named kind) instance (seed_named seed)
parsed_load _ = None

-- `STORE SOLUTION`.
abbrev pub parsed_adopt : List Text → Option InvocationValue
parsed_adopt (store ∷ solution ∷ []) = Some (adopt store solution)
parsed_adopt _ = None

-- `OLD NEW`.
abbrev pub parsed_upgrade : List Text → Option InvocationValue
parsed_upgrade (old ∷ new ∷ []) = Some (upgrade old new)
parsed_upgrade _ = None

-- `STORE [tabs]`.
abbrev pub store_timetable_from : Text → Option Text → Option InvocationValue
store_timetable_from store last = option_map (store_timetable store) (flag_named (codes "tabs") last)

-- `KIND INSTANCE SOLUTION [tabs]`.
abbrev pub timetable_from : Text → Text → Text → Option Text → Option InvocationValue
timetable_from kind instance solution last = do
  paths ← paths_from kind instance solution
  is_tabbed ← flag_named (codes "tabs") last
  Some (timetable paths is_tabbed)

-- The invocation of `timetable`, with one or two arguments for a store, or three or four for a solution.
abbrev pub parsed_timetable : List Text → Option InvocationValue
parsed_timetable (store ∷ []) = store_timetable_from store None
parsed_timetable (store ∷ last ∷ []) = store_timetable_from store (Some last)
parsed_timetable (kind ∷ instance ∷ solution ∷ []) = timetable_from kind instance solution None
parsed_timetable (kind ∷ instance ∷ solution ∷ last ∷ []) = timetable_from kind instance solution (Some last)
parsed_timetable _ = None

-- The number of a route, in digits only, or `None` if this argument is missing.
abbrev pub route_or_none : Option Text → Option (Option ℕ)
route_or_none None = Some None
route_or_none (Some word) = option_map (λ n. Some n) (below (2 ^ 32) (digits_of word))

-- `STORE [ROUTE]`.
abbrev pub store_draw_from : Text → Option Text → Option InvocationValue
store_draw_from store last = option_map (draw_store store) (route_or_none last)

-- `KIND INSTANCE SOLUTION [ROUTE]`.
abbrev pub draw_from : Text → Text → Text → Option Text → Option InvocationValue
draw_from kind instance solution last = do
  paths ← paths_from kind instance solution
  route ← route_or_none last
  Some (draw paths route)

-- The invocation of `draw`, with one or two arguments for a store, or three or four for a solution.
abbrev pub parsed_draw : List Text → Option InvocationValue
parsed_draw (store ∷ []) = store_draw_from store None
parsed_draw (store ∷ last ∷ []) = store_draw_from store (Some last)
parsed_draw (kind ∷ instance ∷ solution ∷ []) = draw_from kind instance solution None
parsed_draw (kind ∷ instance ∷ solution ∷ route ∷ []) = draw_from kind instance solution (Some route)
parsed_draw _ = None

-- The invocation of the command with this name and these arguments. There are no other commands.
abbrev pub parsed_command : List Text → Text → Option InvocationValue
parsed_command words command = if bytes_eq (codes "audit") command then parsed_audit audit words
    else (if bytes_eq (codes "audits") command then parsed_audits words
    else (if bytes_eq (codes "explain") command then parsed_audit explain words
    else (if bytes_eq (codes "draw") command then parsed_draw words
    else (if bytes_eq (codes "solve") command then option_map solve (parsed_solve words)
    else (if bytes_eq (codes "format") command then option_map format (parsed_store words)
    else (if bytes_eq (codes "load") command then option_map load (parsed_load words)
    else (if bytes_eq (codes "run") command then parsed_run words
    else (if bytes_eq (codes "upgrade") command then parsed_upgrade words
    else (if bytes_eq (codes "timetable") command then parsed_timetable words
    else (if bytes_eq (codes "adopt") command then parsed_adopt words
    else (if bytes_eq (codes "instance") command then option_map store_instance (parsed_store words)
    else (if bytes_eq (codes "check") command then option_map check (parsed_store words)
    else (if bytes_eq (codes "solves") command then option_map solves (parsed_solves words) else None)))))))))))))

-- The invocation of a command with its arguments, or of no arguments.
abbrev pub parsed_words : List Text → Option InvocationValue
parsed_words [] = Some built_in
parsed_words (command ∷ words) = parsed_command words command

-- The values of `KIND INSTANCE SOLUTION`.
abbrev pub paths_in : List Row → Option PathsValue
paths_in rows = do
  kind ← first_of (codes "KIND") rows
  instance ← first_of (codes "INSTANCE") rows
  solution ← first_of (codes "SOLUTION") rows
  paths_from kind instance solution

-- The values of `KIND INSTANCE SOLUTION [routes]`.
abbrev pub audit_in : (PathsValue → Bool → InvocationValue) → List Row → Option InvocationValue
audit_in does rows = audit_from does (paths_in rows) (first_of (codes "routes") rows)

-- The values of `KIND LIST [routes]`.
abbrev pub audits_in : List Row → Option InvocationValue
audits_in rows = do
  kind ← first_of (codes "KIND") rows >>= format_named
  list ← first_of (codes "LIST") rows
  routes_alone ← flag_named (codes "routes") (first_of (codes "routes") rows)
  Some (audits kind list routes_alone)

abbrev pub seed_in : List Row → Option ℕ
seed_in rows = seed_or_none (first_of (codes "SEED") rows)

-- The values of `KIND INSTANCE STEPS [SEED [DEVIATION]]`.
abbrev pub solve_in : List Row → Option SolveArgsValue
solve_in rows = do
  kind ← first_of (codes "KIND") rows >>= format_named
  instance ← first_of (codes "INSTANCE") rows
  steps ← first_of (codes "STEPS") rows >>= steps_named
  seed ← seed_in rows
  deviation ← deviation_or_none (first_of (codes "DEVIATION") rows)
  Some (record { format = kind; instance = instance; steps = steps; seed = seed; deviation = deviation })

-- The values of `KIND LIST STEPS [SEED]`.
abbrev pub solves_in : List Row → Option SolvesArgsValue
solves_in rows = do
  kind ← first_of (codes "KIND") rows >>= format_named
  list ← first_of (codes "LIST") rows
  steps ← first_of (codes "STEPS") rows >>= steps_named
  seed ← seed_in rows
  Some (record { format = kind; list = list; steps = steps; seed = seed })

-- The value of `STORE`.
abbrev pub store_in : List Row → Option Text
store_in rows = first_of (codes "STORE") rows

-- The values of `STORE [strict]`.
abbrev pub run_in : List Row → Option InvocationValue
run_in rows = store_in rows >>= (λ store. run_from store (first_of (codes "strict") rows))

-- The values of `STORE KIND INSTANCE [SEED]`.
abbrev pub load_in : List Row → Option LoadArgsValue
load_in rows = do
  store ← store_in rows
  kind ← first_of (codes "KIND") rows >>= format_named
  instance ← first_of (codes "INSTANCE") rows
  seed ← seed_in rows
  Some (record { store = store; format = kind; instance = instance; seed = seed })

-- The values of `STORE SOLUTION`.
abbrev pub adopt_in : List Row → Option InvocationValue
adopt_in rows = do
  store ← store_in rows
  solution ← first_of (codes "SOLUTION") rows
  Some (adopt store solution)

-- The values of `OLD NEW`.
abbrev pub upgrade_in : List Row → Option InvocationValue
upgrade_in rows = do
  old ← first_of (codes "OLD") rows
  new ← first_of (codes "NEW") rows
  Some (upgrade old new)

-- The values of `STORE [tabs]`, or of `KIND INSTANCE SOLUTION [tabs]`.
abbrev pub timetable_with : Text → Option Text → Option Text → Option Text → Option InvocationValue
timetable_with store last None _ = store_timetable_from store last
timetable_with kind second (Some solution) last = second >>= (λ instance. timetable_from kind instance solution last)

abbrev pub timetable_in : List Row → Option InvocationValue
timetable_in rows = first_of (codes "STORE|KIND") rows >>= (λ first.
    timetable_with first (first_of (codes "tabs|INSTANCE") rows) (first_of (codes "SOLUTION") rows) (first_of (codes "tabs") rows))

-- The values of `STORE [ROUTE]`, or of `KIND INSTANCE SOLUTION [ROUTE]`.
abbrev pub draw_with : Text → Option Text → Option Text → Option Text → Option InvocationValue
draw_with store last None _ = store_draw_from store last
draw_with kind second (Some solution) last = second >>= (λ instance. draw_from kind instance solution last)

abbrev pub draw_in : List Row → Option InvocationValue
draw_in rows = first_of (codes "STORE|KIND") rows >>= (λ first.
    draw_with first (first_of (codes "ROUTE|INSTANCE") rows) (first_of (codes "SOLUTION") rows) (first_of (codes "ROUTE") rows))

-- The invocation of `format`, `load`, `adopt`, `instance`, `check`, `upgrade` or `run`.
abbrev pub matched_store_command : Text → List Row → Option InvocationValue
matched_store_command name rows =
    if bytes_eq (codes "format") name then option_map format (store_in rows)
    else (if bytes_eq (codes "load") name then option_map load (load_in rows)
    else (if bytes_eq (codes "adopt") name then adopt_in rows
    else (if bytes_eq (codes "instance") name then option_map store_instance (store_in rows)
    else (if bytes_eq (codes "check") name then option_map check (store_in rows)
    else (if bytes_eq (codes "upgrade") name then upgrade_in rows else run_in rows)))))

-- The invocation of a subcommand whose arguments are not `KIND INSTANCE SOLUTION [routes]`. There are no other
-- subcommands.
abbrev pub matched_other_command : Text → List Row → Option InvocationValue
matched_other_command name rows =
    if bytes_eq (codes "audits") name then audits_in rows
    else (if bytes_eq (codes "solve") name then option_map solve (solve_in rows)
    else (if bytes_eq (codes "solves") name then option_map solves (solves_in rows)
    else (if bytes_eq (codes "draw") name then draw_in rows
    else (if bytes_eq (codes "timetable") name then timetable_in rows else matched_store_command name rows))))

-- The invocation of the subcommand with this name.
abbrev pub matched_command : Text → List Row → Option InvocationValue
matched_command name rows = if bytes_eq (codes "audit") name then audit_in audit rows
    else (if bytes_eq (codes "explain") name then audit_in explain rows else matched_other_command name rows)

-- The invocation of the subcommand, or of no arguments.
abbrev pub matched_invocation : Option (Text × List Row) → Option InvocationValue
matched_invocation None = Some built_in
matched_invocation (Some found) = matched_command found.0 found.1

-- The argument does not begin with a hyphen, or is only a hyphen.
abbrev pub is_positional_word : Text → Bool
is_positional_word (b ∷ c ∷ bs) = not (b == 45)
is_positional_word _ = true

abbrev pub ArePositional : List Text → Type 0
ArePositional words = list_all is_positional_word words ≡ true

-- Whether the arguments request help. The version can be requested only by an argument that begins with a
-- hyphen.
abbrev pub asks_help : List Text → Bool
asks_help [] = false
asks_help (command ∷ words) = bytes_eq (codes "help") command

-- The status of an error of the arguments: 0 for help or the version, 4 for out of memory, else 64.
abbrev pub usage_status_of : ErrorKind → ℕ
usage_status_of DisplayHelp = 0
usage_status_of DisplayVersion = 0
usage_status_of OutOfMemory = 4
usage_status_of _ = 64

-- An error other than out of memory occurs only if the arguments have no meaning. It has the status of a usage
-- error, unless they request help.
abbrev pub IsRefusal : List Text → Error → Type 0
IsRefusal words error = (kind_of error ≡ OutOfMemory) ⊎ ((parsed_words words ≡ None) × ((asks_help words ≡ true) ⊎ (usage_status_of (kind_of error) ≡ 64)))

-- The result is the invocation of the subcommand. An error other than out of memory occurs only if the
-- subcommand has no invocation, and has the status of a usage error.
abbrev pub ReadsMatches : Option InvocationValue → Result Invocation Error → Type 0
ReadsMatches reported r = MatchResult r
    (λ invocation. reported ≡ Some (invocation_value invocation))
    (λ error. (kind_of error ≡ OutOfMemory) ⊎ ((reported ≡ None) × (usage_status_of (kind_of error) ≡ 64)))

-- The result is the invocation that the arguments mean.
abbrev pub ReadsWords : List Text → Result Invocation Error → Type 0
ReadsWords words r = MatchResult r (λ invocation. parsed_words words ≡ Some (invocation_value invocation)) (IsRefusal words)

-- The status for arguments without a meaning: that of a usage error, of output that could not be printed, or of
-- out of memory.
abbrev pub IsUsageStatus : ℕ → Type 0
IsUsageStatus status = (status ≡ 64) ⊎ ((status ≡ 3) ⊎ (status ≡ 4))
