-- Lemmas about consecutive searches, and about the progress lines between them.
use Rattle.std.proofs.Common.{◌≡◌, ◌∙◌, ℕ, suc, ◌+◌, ◌-◌, ◌*◌, ◌<◌, ◌≤◌, Bool, true, false, List, [], ◌∷◌, ◌++◌, Option, refl, sym, ap, subst, arith, append_assoc, append-nil}
use Rattle.std.specs.Prelude.{nat_lt, map, if◌then◌else◌}
use Rattle.std.specs.List.{range_with_len}
use Rattle.std.specs.Io.KnownBytes.{Appends}
use Rattle.std.proofs.KnownBytes.{Appends-trans}
use Rattle.std.proofs.Math.Nat.{mul-le-mul_right}
use Rattle.std.proofs.lemmas.Bool.{lt-ltb, ltb-true}
use Rattle.command_core.specs.Effects.{effect, searched}
use Rattle.command_types.specs.Job.{JobValue}
use Rattle.command_core.specs.RunLaws.{RunsAreOneSearch, SearchesAddUp}
use Rattle.command_types.specs.declared.commands.Command.TheVariants.{Search}
use Rattle.command_types.specs.declared.states.State.{State}
use Rattle.command_types.specs.declared.states.State.TheVariants.{Empty, Loaded}
use Rattle.command_text.specs.Answers.{at_text, line}
use Rattle.plan_solve.specs.Solved.{above, marks, twentieths}
use Rattle.plan_solve.specs.ProgressState.{HasMade, remaining_marks, reported}

pub same_job : (a b : JobValue) → Loaded a ≡ Loaded b → a ≡ b
same_job a b e = cc

module _ (add_up : SearchesAddUp) (many : RunsAreOneSearch) where
  none_searched : (j : JobValue) → searched j 0 ≡ j
  none_searched j = sym (same_job j (searched j 0) (many j [] refl))

  pub none_made : (s : State) → effect s (Search 0) ≡ s
  none_made Empty = refl
  none_made (Loaded j) = ap Loaded (none_searched j)

  pub more_made : (s : State) (a b n : ℕ) → a + b ≡ n → effect (effect s (Search a)) (Search b) ≡ effect s (Search n)
  more_made Empty a b n e = refl
  more_made (Loaded j) a b n e = ap Loaded (add_up j a b ∙ ap (searched j) e)

-- ---- the marks

twentieths_rise : (n k : ℕ) → twentieths n k ≤ twentieths n (k + 1)
twentieths_rise n k = let more : k * n ≤ (k + 1) * n = mul-le-mul_right n (omega arith) in omega (arith, more)

range_step : (k : ℕ) → k < 20 → range_with_len (k + 1) (20 - k) ≡ (k + 1) ∷ range_with_len (k + 1 + 1) (20 - (k + 1))
range_step k less = let e : 20 - k ≡ suc (20 - (k + 1)) = omega (arith, less) in ap (range_with_len (k + 1)) e

marks_step : (n done k : ℕ) → k < 20
    → remaining_marks n done k ≡ (if nat_lt done (twentieths n (k + 1)) then twentieths n (k + 1) ∷ remaining_marks n (twentieths n (k + 1)) (k + 1) else remaining_marks n done (k + 1))
marks_step n done k less = ap (λ ks. above done (map (twentieths n) ks)) (range_step k less)

pub marks_reported : (n done k : ℕ) → k < 20 → done < twentieths n (k + 1) → remaining_marks n done k ≡ twentieths n (k + 1) ∷ remaining_marks n (twentieths n (k + 1)) (k + 1)
marks_reported n done k less above_it =
    marks_step n done k less
    ∙ ap (λ (b : Bool). if b then twentieths n (k + 1) ∷ remaining_marks n (twentieths n (k + 1)) (k + 1) else remaining_marks n done (k + 1)) (lt-ltb done (twentieths n (k + 1)) above_it)

pub marks_passed : (n done k : ℕ) → k < 20 → twentieths n (k + 1) ≤ done → remaining_marks n done k ≡ remaining_marks n done (k + 1)
marks_passed n done k less within = by (nat_lt done (twentieths n (k + 1))) refl
  where
    by : (b : Bool) → nat_lt done (twentieths n (k + 1)) ≡ b → remaining_marks n done k ≡ remaining_marks n done (k + 1)
    by true e = absurd (omega (arith, within, ltb-true done (twentieths n (k + 1)) e))
    by false e = marks_step n done k less ∙ ap (λ (b : Bool). if b then twentieths n (k + 1) ∷ remaining_marks n (twentieths n (k + 1)) (k + 1) else remaining_marks n done (k + 1)) e

-- ---- The search, line by line

-- The loop of the search after k twentieths: the planner has the job after the steps of the last line. The lines
-- so far and the remaining ones make up the progress lines, and they are written unless one could not be.
pub record IsTelling (begun : JobValue) (steps : ℕ) (before now : Option (List ℕ)) (is_written : Bool) (planner : State) (d k : ℕ) : Type 0 where
  pub lines : List ℕ
  pub written : is_written ≡ true → Appends before now lines
  pub whole : lines ++ reported begun (remaining_marks steps d k) ≡ reported begun (marks steps)
  pub made : planner ≡ Loaded (searched begun d)
  pub done : d ≡ twentieths steps k
  pub parts : k ≤ 20

module _ (add_up : SearchesAddUp) (many : RunsAreOneSearch) (begun : JobValue) (steps : ℕ) (before : Option (List ℕ)) where
  pub begins : (now : Option (List ℕ)) (is_written : Bool) (planner : State) (j : JobValue) → planner ≡ Loaded begun → planner ≡ Loaded j → (is_written ≡ true → Appends before now (line (at_text j)))
      → IsTelling begun steps before now is_written planner 0 0
  unfolding marks
  begins now is_written planner j is holds written =
      let none : begun ≡ searched begun 0 = sym (none_searched add_up many begun) in
      let same : j ≡ searched begun 0 = same_job j begun (sym holds ∙ is) ∙ none in
      record {
        lines = line (at_text j);
        written = written;
        whole = ap (λ i. line (at_text i) ++ reported begun (remaining_marks steps 0 0)) same;
        made = is ∙ ap Loaded none;
        done = omega arith;
        parts = omega arith;
      }

  pub passes : (now : Option (List ℕ)) (is_written : Bool) (planner : State) (done parts : ℕ) → IsTelling begun steps before now is_written planner done parts
      → parts < 20 → twentieths steps (parts + 1) ≤ done
      → IsTelling begun steps before now is_written planner done (parts + 1)
  passes now is_written planner done parts h less within = record {
    lines = h.lines;
    written = h.written;
    whole = ap (λ ms. h.lines ++ reported begun ms) (sym (marks_passed steps done parts less within)) ∙ h.whole;
    made = h.made;
    done = let rises = twentieths_rise steps parts in let is = h.done in omega (arith, rises, is, within);
    parts = omega (arith, less);
  }

  pub tells : (now next : Option (List ℕ)) (is_written later : Bool) (planner new : State) (j : JobValue) (done parts : ℕ) → IsTelling begun steps before now is_written planner done parts → parts < 20
      → done < twentieths steps (parts + 1) → new ≡ effect planner (Search (twentieths steps (parts + 1) - done)) → new ≡ Loaded j
      → (later ≡ true → (is_written ≡ true) × Appends now next (line (at_text j)))
      → IsTelling begun steps before next later new (twentieths steps (parts + 1)) (parts + 1)
  tells now next is_written later planner new j done parts h less above_it makes holds written =
      let mark = twentieths steps (parts + 1) in
      let adds : done + (mark - done) ≡ mark = omega (arith, above_it) in
      let is : new ≡ Loaded (searched begun mark) = makes ∙ ap (λ s. effect s (Search (mark - done))) h.made ∙ more_made add_up many (Loaded begun) done (mark - done) mark adds in
      record {
        lines = h.lines ++ line (at_text j);
        written = λ t. Appends-trans before now next h.lines (line (at_text j)) (h.written (written t).0) (written t).1;
        whole =
            append_assoc h.lines (line (at_text j)) (reported begun (remaining_marks steps mark (parts + 1)))
            ∙ ap (λ i. h.lines ++ (line (at_text i) ++ reported begun (remaining_marks steps mark (parts + 1)))) (same_job j (searched begun mark) (sym holds ∙ is))
            ∙ ap (λ ms. h.lines ++ reported begun ms) (sym (marks_reported steps done parts less above_it)) ∙ h.whole;
        made = is;
        done = refl;
        parts = omega (arith, less);
      }

  pub ends : (now : Option (List ℕ)) (is_written : Bool) (planner : State) (done parts : ℕ) → IsTelling begun steps before now is_written planner done parts → 20 ≤ parts
      → HasMade before now (searched begun steps) (reported begun (marks steps)) planner is_written
  ends now is_written planner done parts h all =
      let last : parts ≡ 20 = let most = h.parts in omega (arith, most, all) in
      let is : done ≡ steps = h.done ∙ ap (twentieths steps) last ∙ twenty steps in record {
        made = h.made ∙ ap (λ n. Loaded (searched begun n)) is;
        written =
            λ t. subst (Appends before now) (sym (append-nil h.lines) ∙ ap (λ k. h.lines ++ reported begun (remaining_marks steps done k)) (sym last) ∙ h.whole) (h.written t);
      }
    where
      twenty : (n : ℕ) → twentieths n 20 ≡ n
      twenty n = omega arith
