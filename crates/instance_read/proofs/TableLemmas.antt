-- The last of the tasks, and the table of their places by number.
use Rattle.std.proofs.Common.{◌≡◌, ℕ, suc, ◌+◌, ◌-◌, Bool, true, false, cond, List, [], ◌∷◌, length, get_or, Option, Some, None, refl, sym, ap, ◌∙◌, Bor, arith, ltb}
use Rattle.std.specs.Prelude.{◌==◌, IfSome, is_some, find, option_and_then, slice_get, unwrap_or}
use Rattle.std.specs.List.{last_or, position_from}
use Rattle.std.specs.Option.{option_copied}
use Rattle.std.proofs.lemmas.Bool.{ltb-true, ltb-false}
use Rattle.std.proofs.lemmas.Option.{slice_get_past, slice_get_read}
use Rattle.instance_read.specs.declared.tasks.Task.{Task}
use Rattle.instance_read.specs.Pairs.{find_task, last_number}
use Rattle.instance_read.specs.Tables.{place_of}
use Rattle.instance_read.proofs.TaskFaultLemmas.{last_or-is}

last_number-is : (t u : Task) (ts : List Task) → (unwrap_or (last_or (Some u) ts) t).stop.number ≡ last_number u ts
last_number-is t u [] = refl
last_number-is t u (v ∷ ts) = last_number-is t v ts

last_number-or : (t : Task) (ts : List Task) → (unwrap_or (last_or None ts) t).stop.number ≡ last_number t ts
last_number-or t [] = refl
last_number-or t (u ∷ ts) = last_number-is t u ts

unwrapped : (o : Option (Bor Task)) (d : Bor Task) → (unwrap_or o d).now ≡ unwrap_or (option_copied o) d.now
unwrapped None d = refl
unwrapped (Some x) d = refl

-- the values that `last` and `unwrap_or` return
pub last_number-ref : (o : Option (Bor Task)) (d r : Bor Task) (ts : List Task) → option_copied o ≡ slice_get ts (length ts - 1) → r ≡ unwrap_or o d → r.now.stop.number ≡ last_number d.now ts
last_number-ref o d r ts last is =
    ap (λ (x : Bor Task). x.now.stop.number) is ∙ ap (λ t. t.stop.number) (unwrapped o d)
    ∙ ap (λ p. (unwrap_or p d.now).stop.number) (last ∙ last_or-is ts) ∙ last_number-or d.now ts

-- the element that a search finds is at the place that it finds; `at` returns the elements from place k on
place_cond : {X : Type 0} (at : ℕ → Option X) (k : ℕ) (x : X) (b : Bool) (place : Option ℕ) (found : Option X) → at k ≡ Some x → option_and_then at place ≡ found
    → option_and_then at (cond b (Some k) place) ≡ cond b (Some x) found
place_cond at k x true place found here later = here
place_cond at k x false place found here later = later

place_from : {X : Type 0} (p : X → Bool) (at : ℕ → Option X) (k : ℕ) (xs : List X) → ((i : ℕ) → at (k + i) ≡ slice_get xs i) → option_and_then at (position_from p k xs) ≡ find p xs
place_from p at k [] same = refl
place_from p at k (x ∷ xs) same =
    place_cond at k x (p x) (position_from p (k + 1) xs) (find p xs) (ap at (omega arith) ∙ same 0)
    (place_from p at (k + 1) xs (λ i. ap at (omega arith) ∙ same (suc i)))

-- the value that `get` returns
pub slice_get-ref : {X : Type 0} (xs : List X) (i : ℕ) (o : Option (Bor X)) → is_some o ≡ ltb i (length xs) → IfSome o (λ x. x.now ≡ get_or xs i x.now) → option_copied o ≡ slice_get xs i
slice_get-ref xs i None there is = sym (slice_get_past xs i (ltb-false i (length xs) (sym there)))
slice_get-ref xs i (Some x) there is = sym (slice_get_read xs (length xs) i x.now refl (ltb-true i (length xs) (sym there)) is)

pub find_task-place : (n : ℕ) (tasks : List Task) → option_and_then (slice_get tasks) (place_of n tasks) ≡ find_task n tasks
find_task-place n tasks = place_from (λ t. t.stop.number == n) (slice_get tasks) 0 tasks (λ i. ap (slice_get tasks) (omega arith))
