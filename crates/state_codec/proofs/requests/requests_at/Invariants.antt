-- The requests so far and the remaining ones make up the result
use Rattle.std.proofs.Common.{◌≡◌, ◌-◌, []}
use Rattle.state_codec.specs.Reading.{times, next_request}
use Rattle.state_codec.specs.FilledProblem.{IsFilledBelow}
use Rattle.state_codec.proofs.FieldLaws.{IsBytes}
use Rattle.state_codec.proofs.requests.requests_at.Given as goal

abbrev pub invariant-loop : goal.invariant-loop
invariant-loop l = record {
  read : times (next_request l.version l.next) (l.count - l.counter) l.problem.requests l.rest ≡ times (next_request l.version l.next) l.count [] l.bytes;
  bytes : IsBytes l.rest;
  filled : IsFilledBelow l.fn.problem l.next l.problem;
}
