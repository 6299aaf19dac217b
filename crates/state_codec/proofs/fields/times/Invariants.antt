-- The items so far and the remaining ones make up the result
use Rattle.std.proofs.Common.{◌≡◌, ◌-◌, ℕ, List}
use Rattle.state_codec.specs.Fields.{Field}
use Rattle.state_codec.specs.Reading.{ReadsMore, times}
use Rattle.state_codec.proofs.fields.times.Given as goal

abbrev pub invariant-loop : goal.invariant-loop
invariant-loop g l = (next : _ → List ℕ → Field _) → ReadsMore (goal.F-post g l.more) next
    → times next (l.count - l.counter) l.all l.rest ≡ times next l.count l.fn.before l.fn.bytes
