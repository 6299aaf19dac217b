-- The answers to `show` and `print`. Vehicles count from 1.
use Rattle.std.specs.Prelude.{ℕ, ◌+◌, ◌*◌, ◌==◌, if◌then◌else◌, List, [], ◌∷◌, ◌++◌, length, codes, decimal}
use Rattle.std.specs.List.{flat_map}
use Rattle.route_sched.specs.Cost.{cost_of, total_length, used_routes}
use Rattle.seeded_search.specs.Steps.{unplanned_names}
use Rattle.sol_text.specs.Written.{customers_text, solution_text}
use Rattle.plan_types.specs.declared.solutions.Solution.{Solution}
use Rattle.command_types.specs.Job.{JobValue}
use Rattle.command_text.specs.Answers.{cost_text, line}

-- The line `KEY V: a b ..` with the stops of vehicle V, or nothing if there are none.
abbrev pub list_text : List ℕ → ℕ → List ℕ → List ℕ
list_text key vehicle stops =
    if length stops == 0 then [] else line (key ++ codes " " ++ decimal vehicle ++ codes ":" ++ customers_text stops)

-- The lines `KEY V: a b ..` of vehicles with stops; the first list is that of the given vehicle.
abbrev pub lists_text : List ℕ → ℕ → List (List ℕ) → List ℕ
lists_text key vehicle [] = []
lists_text key vehicle (stops ∷ lists) = list_text key vehicle stops ++ lists_text key (vehicle + 1) lists

-- The line `unplanned R` of a request in no route, by its name.
abbrev pub unplanned_text : ℕ → List ℕ
unplanned_text name = line (codes "unplanned " ++ decimal name)

-- The lines `requests N next X` and `steps S place P`. X is the number of the next request, and P is the
-- position of the next step's random words.
abbrev pub counts_text : JobValue → List ℕ
counts_text j =
    line (codes "requests " ++ decimal (length j.problem.requests) ++ codes " next " ++ decimal j.problem.next_number)
    ++ line (codes "steps " ++ decimal j.steps ++ codes " place " ++ decimal (16 * j.steps))

-- The lines `deviation D` and `work U V D` with the cost of the working plan, or nothing if the deviation is 0.
abbrev pub work_text : JobValue → List ℕ
work_text j =
    if j.deviation == 0 then [] else line (codes "deviation " ++ decimal j.deviation) ++ line (codes "work " ++ cost_text (cost_of j.problem j.work))

-- The answer to `show`: the counts, pins and routes, the requests in no route in ascending order of name, the
-- cost, and the lines of the working plan.
abbrev pub show_text : JobValue → List ℕ
show_text j =
    counts_text j
    ++ lists_text (codes "pin") 1 j.pins
    ++ lists_text (codes "vehicle") 1 j.plan
    ++ flat_map unplanned_text (unplanned_names j.problem j.plan)
    ++ line (codes "cost " ++ cost_text (cost_of j.problem j.plan))
    ++ work_text j

-- The solution that `print` prints: the routes that are not empty, and their distance.
abbrev pub solution_of : JobValue → Solution
solution_of j = record { routes = used_routes j.plan; cost = total_length j.problem j.plan }

-- The answer to `print`: the text of the printed solution.
abbrev pub print_text : JobValue → List ℕ
print_text j = solution_text (used_routes j.plan) (total_length j.problem j.plan)
