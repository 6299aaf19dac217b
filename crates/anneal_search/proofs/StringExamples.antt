-- Strings worked out by hand. The second number of each is the drawn word of 32 bits.
use Rattle.std.proofs.Common.{◌≡◌, ◌^◌, ◌-◌, [], ◌∷◌, Some, None, refl}
use Rattle.anneal_search.specs.Strings.{longest, route_count, cut_of}

-- A route of one stop
alone : cut_of 1 (2 ^ 32 - 1) 1 0 ≡ record { first = 0; end = 1; kept = None }
alone = refl

-- The greatest word removes a whole route of four stops, and none stays
whole : cut_of 10 (2 ^ 32 - 1) 4 2 ≡ record { first = 0; end = 4; kept = None }
whole = refl

-- A string around the third of five stops removes two of them. By the rest of the word, one more stop inside the
-- string stays, and the string begins at the first stop.
split : cut_of 3 (2 ^ 31) 5 2 ≡ record { first = 0; end = 3; kept = Some 1 }
split = refl

-- A smaller word removes only that stop
single : cut_of 3 (2 ^ 30) 5 2 ≡ record { first = 2; end = 3; kept = None }
single = refl

-- At the end of a route, a string can begin at only one place
last : cut_of 2 (2 ^ 31) 3 2 ≡ record { first = 1; end = 3; kept = None }
last = refl

-- Routes of one stop: the greatest word cuts twelve. Routes of ten stops: three.
short_routes : route_count 1 (2 ^ 32 - 1) ≡ 12
short_routes = refl

long_routes : route_count 10 (2 ^ 32 - 1) ≡ 3
long_routes = refl

-- The mean length of a route of three stops and one of two, rounded down; and 0 if no route has stops
mean : longest ((1 ∷ 2 ∷ 3 ∷ []) ∷ [] ∷ (4 ∷ 5 ∷ []) ∷ []) ≡ 2
mean = refl

mean_of_none : longest ([] ∷ [] ∷ []) ≡ 0
mean_of_none = refl
