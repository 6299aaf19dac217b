-- Each pick is below the count of the remaining numbers, so it picks a number that is not drawn yet. This number is
-- appended.
use Rattle.std.proofs.Common.{rules, ◌≡◌, ◌-◌, ◌<◌, ◌≤◌, ◌++◌, ◌∷◌, [], length, drop, slice_index, refl, ap}
use Rattle.seeded_search.specs.Words.{pick}
use Rattle.seeded_search.specs.Steps.{drawn}
use Rattle.seeded_search.specs.Draws.{left_of, index_of}
use Rattle.seeded_search.proofs.DrawLemmas.{none_left, drawn_end, index_within, drawn_more}
use Rattle.seeded_search.proofs.draws.drawn.Goals as goal

pub returns-then-numbers-len : goal.returns-then-numbers-len
returns-then-numbers-len c =
    let taken = c.loop-word.taken.items in
    let numbers = c.args.numbers.now in
    let all : length numbers ≤ length taken = search rules in
    drawn_end c.loop-word.names.items (drop c.loop-word.word-index c.args.words.now) (left_of taken numbers)
    (drawn c.args.words.now numbers) c.loop-word.invariant.drawn (none_left taken numbers c.loop-word.invariant.taken all)

pub bounds-numbers-index_of : goal.bounds-numbers-index_of
bounds-numbers-index_of c =
    let taken = c.loop-word.taken.items in
    let numbers = c.args.numbers.now in
    let low : c.place-index.result < length numbers - length taken = search rules in
    index_within taken numbers c.place-index.result c.index_of.result c.loop-word.invariant.taken low (search rules)

pub offset_bounds-numbers-index_of : goal.offset_bounds-numbers-index_of
offset_bounds-numbers-index_of c =
    let taken = c.loop-word.taken.items in
    let numbers = c.args.numbers.now in
    let low : c.place-index.result < length numbers - length taken = search rules in
    let inside = index_within taken numbers c.place-index.result c.index_of.result c.loop-word.invariant.taken low (search rules) in
    search rules

pub loop-word-preserved : goal.loop-word-preserved
loop-word-preserved c =
    let taken = c.loop-word.taken.items in
    let numbers = c.args.numbers.now in
    let words = c.args.words.now in
    let k = c.place-index.result in
    let x = slice_index numbers c.index_of.result in
    let low : k < length numbers - length taken = search rules in
    let is : c.index_of.result ≡ index_of taken k = search rules in
    let within : c.loop-word.word-index < length words = search rules in
    let picks : k ≡ pick (slice_index words c.loop-word.word-index) (length numbers - length taken) = search rules in
    let made : c.push.new.self.items ≡ c.loop-word.names.items ++ x ∷ [] = search rules in
    let took : c.insert.new.self.items ≡ k ∷ taken = search rules in
    let more = drawn_more c.loop-word.names.items c.push.new.self.items (drawn words numbers) words c.loop-word.word-index
    (slice_index words c.loop-word.word-index) k x taken c.insert.new.self.items numbers
    c.loop-word.invariant.taken c.loop-word.invariant.drawn within refl picks low (ap (slice_index numbers) is) made took in
    record { drawn = more.0; taken = more.1 }
