-- The end of strict serving: nothing is executed after the answer that ends it.
use Rattle.std.specs.Prelude.{◌≡◌, ◌≤◌, ℕ, List, ◌++◌, length, take, Option, Some, None, Result, ⊤}
use Rattle.text_lines.specs.Lines.{HasNoLineFeed}
use Rattle.command_types.specs.declared.commands.Command.{Command}
use Rattle.command_text.specs.Answering.{Fate, pieces_reply}
use Rattle.command_text.specs.Cutting.{Piece, pieces_of}
use Rattle.command_text.specs.Readings.{Reading}
use Rattle.recover.specs.Sessions.{SessionValue}
use Rattle.sector_disk.specs.declared.sectors.Sectors as sectors
use Rattle.command_server.specs.Acts.{Act, executed_of, fates_of}
use Rattle.command_server.specs.ServeContract.{Begins, EndsOrIsCut, as_server_state, preceded, still}
use Rattle.command_server.specs.CrashRecovery.{acts_of}
use Rattle.command_server.specs.Streams.{Stream, put_by}
use Rattle.command_server.specs.Strict.{ReportsLast, failed_answer_in}
use Rattle.command_server.specs.declared.answering.ServeFault.{ServeFault}
use Rattle.command_server.specs.declared.strict.FailedAnswer.{FailedAnswer}

-- These acts served the pieces, and `put` was written. It consists of `before`, which reports all acts except the
-- last and whose last complete line reports no failure, and of the written part of `answer`, which reports the
-- last act. The line that ends serving is within this part.
pub record AreReportedByOneAnswer {D : Type 0} (reading : Reading) (old : SessionValue D) (pieces : List Piece) (acts : List Act) (put : List ℕ) : Type 0 where
  pub first : List Act
  pub last : List Act
  pub split : acts ≡ first ++ last
  pub few : length last ≤ 1
  pub before : List ℕ
  pub answer : List ℕ
  pub len : ℕ
  pub whole : put ≡ before ++ take len answer
  pub allows : failed_answer_in before ≡ None
  pub ends : HasNoLineFeed (take len answer) → ⊥
  pub reports : (later : List Fate) → Begins before first (pieces_reply reading (as_server_state old (fates_of first ++ later)) pieces)

-- Serving ended at this answer, and nothing was executed after it. The answer is one to at most one piece.
-- Whatever the fates of later attempts, the session would next answer the steps that are left of its command, if
-- any, and then the remaining pieces.
pub record EndsAtAnswer {D : Type 0} (reading : Reading) (old : SessionValue D) (pieces : List Piece) (acts : List Act) (put : List ℕ) (new : SessionValue D) : Type 0 where
  pub reported : AreReportedByOneAnswer reading old pieces acts put
  pub steps : Option (List Command)
  pub front : List Piece
  pub begun : List Piece
  pub following : List Piece
  pub split : pieces ≡ front ++ (begun ++ following)
  pub one : length begun ≤ 1
  pub says : (later : List Fate) → pieces_reply reading (as_server_state old (fates_of acts ++ later)) pieces
      ≡ preceded (reported.before ++ reported.answer) (executed_of acts) (still reading steps following (as_server_state new later))

module _ {D : Type 0} (on : sectors.Ghosts D) where
  -- Law: if the last complete line that strict serving wrote reports a failure, serving ends at the answer that
  -- contains this line.
  abbrev pub FailedAnswersEndServings : Type 0
  FailedAnswersEndServings = (reading : Reading) (old new : SessionValue D) (input : List ℕ) (before after_it : Stream) (r : Result ⊤ ServeFault) (why : FailedAnswer)
      → (served : EndsOrIsCut on r reading old input before after_it new) → (last : ReportsLast before after_it (Some why))
      → EndsAtAnswer reading old (pieces_of input) (acts_of on r reading old input before after_it new served) (put_by last.events) new
