-- Serving an input is a run of the operations that it requests, so the headline applies to it.
use Rattle.std.proofs.Common.{List, [], ◌++◌, sym, ap, append-nil}
use Rattle.std.specs.Prelude.{Result, Ok, Err}
use Rattle.command_types.specs.declared.commands.Command.{Command}
use Rattle.command_types.specs.declared.states.State.{State}
use Rattle.command_text.specs.Answering.{Fate, pieces_reply}
use Rattle.command_text.specs.Cutting.{pieces_of}
use Rattle.checkpoint.specs.declared.faults.StoreFault.{StoreFault}
use Rattle.checkpoint.specs.declared.faults.StoreFault.TheVariants.{NotFormatted, BadVersion, Codec, Spent, OutOfMemory, DeviceFault}
use Rattle.recover.specs.Headline.{Headline}
use Rattle.recover.specs.Opening.{ReturnsUnlessFailed}
use Rattle.sector_disk.specs.declared.sectors.Sectors as sectors
use Rattle.command_server.specs.Acts.{commands_of, fates_of, kept_of, replies_of, without_failures}
use Rattle.command_server.specs.ServeContract.{as_server_state, still}
use Rattle.command_server.specs.CrashRecovery.{IsRunOfInput, ServedHeadline, ServingsAreRuns, acts_of}
use Rattle.command_server.proofs.ActLemmas.{requests_both, begins_as, run_both}
use Rattle.command_server.proofs.AttemptLemmas.{requested_both}

module _ {D : Type 0} (on : sectors.Ghosts D) where
  pub servings_are_runs : ServingsAreRuns on
  servings_are_runs reading old new input before after_it (Ok done) served = record { run = served.run; requested = served.requested; requests_kept = served.requests_kept }
  servings_are_runs reading old new input before after_it (Err fault) cut =
      let first = cut.answered.acts in
      let last = cut.reports.acts in
      let all : List Fate → List Command = λ fates. (pieces_reply reading (as_server_state old fates) (pieces_of input)).commands in
      record {
        run = run_both on old cut.reported new first last cut.answered.run cut.reports.run;
        requested = requested_both first last old cut.reported (λ s. pieces_reply reading s (pieces_of input)) (still reading cut.commands cut.following) cut.text cut.answered.says cut.answered.requested cut.reports.requested;
        requests_kept = begins_as (kept_of (first ++ last)) _ _ (ap all (sym (append-nil (without_failures (fates_of (first ++ last))))))
            (requests_both first last old cut.reported (λ s. pieces_reply reading s (pieces_of input)) (still reading cut.commands cut.following) cut.text cut.answered.says cut.answered.requests_kept cut.reports.requests_kept []);
      }

pub weaker : (P Q : State → Type 0) → ((state : State) → P state → Q state) → (outcome : Result State StoreFault) → ReturnsUnlessFailed P outcome → ReturnsUnlessFailed Q outcome
weaker P Q so (Ok state) h = so state h
weaker P Q so (Err OutOfMemory) h = tt
weaker P Q so (Err DeviceFault) h = tt
weaker P Q so (Err NotFormatted) h = elim h [ ]
weaker P Q so (Err BadVersion) h = elim h [ ]
weaker P Q so (Err (Codec _)) h = elim h [ ]
weaker P Q so (Err Spent) h = elim h [ ]

-- the operations that the acts of serving keep are a prefix of those requested, and the headline applies to their
-- run
pub served_headline : {D E : Type 0} (on : sectors.Ghosts D) (again : sectors.Ghosts E) → Headline on again → ServedHeadline on again
served_headline on again law reading old new input before after_it r m image device left outcome served whole honest moments failed_answer reads settled opens =
    let acts = acts_of on r reading old input before after_it new served in
    let run : IsRunOfInput on reading old input acts new = servings_are_runs on reading old new input before after_it r served in (
      run.requests_kept,
      law old new (commands_of acts) (replies_of acts) m image device left outcome whole honest
          (λ w h n stop at_moment. (moments (commands_of acts) (replies_of acts) run.run w h).each n stop at_moment) failed_answer reads settled opens,
    )
