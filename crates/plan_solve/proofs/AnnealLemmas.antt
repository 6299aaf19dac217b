-- Lemmas about sequences of operations, and about the progress lines between them.
use Rattle.std.proofs.Common.{◌≡◌, ◌∙◌, ℕ, suc, ◌<◌, true, List, [], ◌∷◌, ◌++◌, length, Option, refl, sym, ap, subst, arith, append_assoc, append-nil}
use Rattle.std.specs.Prelude.{max}
use Rattle.std.specs.Io.KnownBytes.{Appends}
use Rattle.std.proofs.KnownBytes.{Appends-trans}
use Rattle.std.proofs.lemmas.Bool.{le-leb}
use Rattle.plan_types.specs.declared.limits.TheConstants.{MAX_REQUESTED_STEPS}
use Rattle.command_core.specs.Effects.{effect, job_after}
use Rattle.command_types.specs.Job.{JobValue}
use Rattle.command_core.specs.Runs.{after}
use Rattle.command_types.specs.declared.commands.Command.{Command}
use Rattle.command_types.specs.declared.states.State.{State}
use Rattle.command_types.specs.declared.states.State.TheVariants.{Loaded}
use Rattle.command_text.specs.Answering.{commands_of}
use Rattle.command_text.specs.Answers.{at_text, line}
use Rattle.command_text.specs.declared.steps.StepCursor.{StepCursor}
use Rattle.command_text.specs.declared.steps.StepCursor.TheVariants as makes
use Rattle.command_text.proofs.RepeatLemmas.{uncut}
use Rattle.plan_solve.specs.Solved.{AnnealingEqualsOneCommand, AnnealingEqualsCommands, anneal_lines, annealed, begun, commands_from, final_job, line_after, lines_after, twentieths_made}
use Rattle.plan_solve.specs.ProgressState.{HasMade}
use Rattle.plan_solve.specs.declared.annealing.ProgressState.{ProgressState}
use Rattle.plan_solve.proofs.SearchLemmas.{same_job}

-- The loop of annealing after some operations: the remaining ones lead from the planner's job to the result of
-- all. The lines so far and the remaining ones make up the progress lines, and they are written unless one could
-- not be.
pub record IsAnnealing (begun : JobValue) (steps : ℕ) (before now : Option (List ℕ)) (reported : ProgressState) (planner : State) (left : StepCursor) : Type 0 where
  pub job : JobValue
  pub is : planner ≡ Loaded job
  pub lines : List ℕ
  pub written : reported.is_written ≡ true → Appends before now lines
  pub made : final_job job (commands_of left planner) ≡ annealed begun steps
  pub whole : lines ++ lines_after steps reported.parts job (commands_of left planner) ≡ anneal_lines begun steps

pub begins : (j : JobValue) (steps to : ℕ) (before now : Option (List ℕ)) (reported : ProgressState) (planner : State) (i : JobValue) → to ≡ steps → planner ≡ Loaded j → planner ≡ Loaded i → reported.parts ≡ 0
    → (reported.is_written ≡ true → Appends before now (line (at_text i))) → IsAnnealing j steps before now reported planner (makes.Stages 0 to)
begins j steps to before now reported planner i all is holds none written =
    let same = same_job i j (sym holds ∙ is) in
    let commands : commands_of (makes.Stages 0 to) planner ≡ commands_from j steps = ap (commands_of (makes.Stages 0 to)) is ∙ ap (commands_from j) all in
    record {
      job = j;
      is = is;
      lines = line (at_text j);
      written = λ t. subst (λ i. Appends before now (line (at_text i))) same (written t);
      made = ap (final_job j) commands;
      whole =
          ap (λ cs. line (at_text j) ++ lines_after steps reported.parts j cs) commands ∙ ap (λ parts. line (at_text j) ++ lines_after steps parts j (commands_from j steps)) none;
    }

pub fewer : (planner new : State) (left following : StepCursor) (c : Command) → commands_of left planner ≡ c ∷ commands_of following (effect planner c) → new ≡ effect planner c
    → length (commands_of following new) < length (commands_of left planner)
fewer planner new left following c all makes =
    let follow : commands_of left planner ≡ c ∷ commands_of following new = all ∙ ap (λ s. c ∷ commands_of following s) (sym makes) in
    let counted : length (commands_of left planner) ≡ suc (length (commands_of following new)) = ap length follow in
    omega (arith, counted)

module _ (begun : JobValue) (steps : ℕ) (before : Option (List ℕ)) where
  pub goes_on : (now later : Option (List ℕ)) (reported next : ProgressState) (planner new : State) (left following : StepCursor) (c : Command) (i : JobValue) → IsAnnealing begun steps before now reported planner left
      → commands_of left planner ≡ c ∷ commands_of following (effect planner c) → new ≡ effect planner c → new ≡ Loaded i
      → next.parts ≡ max reported.parts (twentieths_made steps i) → (next.is_written ≡ true → (reported.is_written ≡ true) × Appends now later (line_after steps reported.parts i))
      → IsAnnealing begun steps before later next new following
  goes_on now later reported next planner new left following c i h all makes holds parts written =
      let job = job_after h.job c in
      let effect_is : effect planner c ≡ Loaded job = ap (λ s. effect s c) h.is in
      let same : i ≡ job = same_job i job (sym holds ∙ makes ∙ effect_is) in
      let rest = commands_of following new in
      let follow : commands_of left planner ≡ c ∷ rest = all ∙ ap (λ s. c ∷ commands_of following s) (sym makes) in
      record {
        job = job;
        is = makes ∙ effect_is;
        lines = h.lines ++ line_after steps reported.parts i;
        written = λ t. Appends-trans before now later h.lines (line_after steps reported.parts i) (h.written (written t).0) (written t).1;
        made = ap (final_job h.job) (sym follow) ∙ h.made;
        whole =
            append_assoc h.lines (line_after steps reported.parts i) (lines_after steps next.parts job rest)
            ∙ ap (λ parts. h.lines ++ (line_after steps reported.parts i ++ lines_after steps parts job rest)) parts
            ∙ ap (λ i. h.lines ++ (line_after steps reported.parts i ++ lines_after steps (max reported.parts (twentieths_made steps i)) job rest)) same
            ∙ ap (λ cs. h.lines ++ lines_after steps reported.parts h.job cs) (sym follow) ∙ h.whole;
      }

  pub ends : (now : Option (List ℕ)) (reported : ProgressState) (planner : State) (left : StepCursor) → IsAnnealing begun steps before now reported planner left → commands_of left planner ≡ []
      → HasMade before now (annealed begun steps) (anneal_lines begun steps) planner reported.is_written
  ends now reported planner left h none = record {
    made = h.is ∙ ap Loaded (ap (final_job h.job) (sym none) ∙ h.made);
    written = λ t. subst (Appends before now) (sym (append-nil h.lines) ∙ ap (λ cs. h.lines ++ lines_after steps reported.parts h.job cs) (sym none) ∙ h.whole) (h.written t);
  }

-- ---- Laws

pub after_all : (cs : List Command) (j : JobValue) → after (Loaded j) cs ≡ Loaded (final_job j cs)
after_all [] j = refl
after_all (c ∷ cs) j = after_all cs (job_after j c)

pub stages_make_it : AnnealingEqualsCommands
stages_make_it p seed steps = after_all (commands_from (begun p seed) steps) (begun p seed)

pub line_leaves_it : AnnealingEqualsOneCommand
line_leaves_it p seed steps few =
    let least = le-leb 0 0 (omega arith) in
    let most = le-leb steps MAX_REQUESTED_STEPS few in
    uncut 0 steps (omega (arith, few)) (begun p seed) (rw (least, most) refl) ∙ after_all (commands_from (begun p seed) steps) (begun p seed)
