-- The state of a reader after the pieces of a text. A text without `'`, `<`, `&` and `>` leaves the state as it
-- was, between tags and in a value.
use Rattle.std.proofs.Common.{◌≡◌, ◌∙◌, ℕ, ◌+◌, ◌/◌, ◌%◌, ◌<◌, ℤ, pos, negsuc, Bool, true, false, not, ◌||◌, List, [], ◌∷◌, ◌++◌, zero, suc, refl, ap, arith}
use Rattle.std.specs.Prelude.{◌==◌, nat_lt, decimal, if◌then◌else◌}
use Rattle.std.specs.Fmt.{digit_glyph, digits, digits_onto, signed_decimal}
use Rattle.std.specs.List.{AllByRecursion, flat_map}
use Rattle.std.proofs.lemmas.Bool.{ltb-true, ne_eqb}
use Rattle.plan_picture.specs.Svg.{each}
use Rattle.plan_picture.specs.WellFormed.{ReaderState, inside, is_plain, malformed, opened, quoted, read_all, step, unquoted}

-- reading this text leads from one state to another
abbrev pub Goes : ReaderState → List ℕ → ReaderState → Type 0
Goes a t b = read_all a t ≡ b

pub read_append : (a : ReaderState) (t u : List ℕ) → read_all a (t ++ u) ≡ read_all (read_all a t) u
read_append a [] u = refl
read_append a (c ∷ t) u = read_append (step a c) t u

pub goes_on : (a : ReaderState) (t u : List ℕ) {b c : ReaderState} → Goes a t b → Goes b u c → Goes a (t ++ u) c
goes_on a t u first next = read_append a t u ∙ (ap (λ p. read_all p u) first ∙ next)

-- a text between tags that leaves the open elements as they were
abbrev pub Stays : List ℕ → Type 0
Stays t = (n : List ℕ) (os : List (List ℕ)) → Goes (inside (n ∷ os)) t (inside (n ∷ os))

pub stays_with : (t u : List ℕ) → Stays t → Stays u → Stays (t ++ u)
stays_with t u first next n os = goes_on (inside (n ∷ os)) t u (first n os) (next n os)

pub stays_if : (b : Bool) (t u : List ℕ) → Stays t → Stays u → Stays (if b then t else u)
stays_if true t u first next = first
stays_if false t u first next = next

pub stays_all : {X : Type 0} (f : X → List ℕ) (xs : List X) → ((x : X) → Stays (f x)) → Stays (flat_map f xs)
stays_all f [] each_stays = λ n os. refl
stays_all f (x ∷ xs) each_stays = stays_with (f x) (flat_map f xs) (each_stays x) (stays_all f xs each_stays)

pub stays_each : (f : ℕ → List ℕ → List ℕ) (k : ℕ) (routes : List (List ℕ)) → ((j : ℕ) (route : List ℕ) → Stays (f j route)) → Stays (each f k routes)
stays_each f k [] each_stays = λ n os. refl
stays_each f k (route ∷ routes) each_stays = stays_with (f k route) (each f (k + 1) routes) (each_stays k route) (stays_each f (k + 1) routes each_stays)

-- characters none of which is `'`, `<`, `&` or `>`
abbrev pub IsPlain : List ℕ → Type 0
IsPlain t = AllByRecursion (λ c. is_plain c ≡ true) t

abbrev pub Keeps : ReaderState → Type 0
Keeps a = (t : List ℕ) → IsPlain t → Goes a t a

pub inside_keeps : (os : List (List ℕ)) → Keeps (inside os)
inside_keeps os [] plain = refl
inside_keeps os (c ∷ t) plain = ap (λ b. read_all (if b then inside os else if c == 60 then opened os else malformed) t) plain.0 ∙ inside_keeps os t plain.1

pub quoted_keeps : (n : List ℕ) (os : List (List ℕ)) → Keeps (quoted n os)
quoted_keeps n os [] plain = refl
quoted_keeps n os (c ∷ t) plain = ap (λ b. read_all (if b then quoted n os else if c == 39 then unquoted n os else malformed) t) plain.0 ∙ quoted_keeps n os t plain.1

-- a character that is none of `'`, `<`, `&` and `>`
plain_by : (c : ℕ) → (c == 39) ≡ false → (c == 60) ≡ false → (c == 38) ≡ false → (c == 62) ≡ false → is_plain c ≡ true
plain_by c a b d e =
    ap (λ x. not (x || (c == 60) || (c == 38) || (c == 62))) a
    ∙ (ap (λ x. not (x || (c == 38) || (c == 62))) b ∙ (ap (λ x. not (x || (c == 62))) d ∙ ap not e))

glyph_plain : (d : ℕ) → is_plain (digit_glyph false d) ≡ true
glyph_plain d = by (nat_lt d 10) refl
  where
    by : (b : Bool) → nat_lt d 10 ≡ b → is_plain (digit_glyph false d) ≡ true
    by true e =
        let less : d < 10 = ltb-true d 10 e in
        ap (λ b. is_plain (if b then 48 + d else 87 + d)) e
        ∙ plain_by (48 + d) (ne_eqb (48 + d) 39 (λ h. omega (arith, h, less))) (ne_eqb (48 + d) 60 (λ h. omega (arith, h, less)))
        (ne_eqb (48 + d) 38 (λ h. omega (arith, h, less))) (ne_eqb (48 + d) 62 (λ h. omega (arith, h, less)))
    by false e =
        ap (λ b. is_plain (if b then 48 + d else 87 + d)) e
        ∙ plain_by (87 + d) (ne_eqb (87 + d) 39 (λ h. omega (arith, h))) (ne_eqb (87 + d) 60 (λ h. omega (arith, h)))
        (ne_eqb (87 + d) 38 (λ h. omega (arith, h))) (ne_eqb (87 + d) 62 (λ h. omega (arith, h)))

plain_if : (b : Bool) (t u : List ℕ) → IsPlain t → IsPlain u → IsPlain (if b then t else u)
plain_if true t u first next = first
plain_if false t u first next = next

plain_onto : (k n : ℕ) (t : List ℕ) → IsPlain t → IsPlain (digits_onto k 10 false n t)
plain_onto zero n t plain = plain
plain_onto (suc k) n t plain =
    let more = digit_glyph false (n % 10) ∷ t in
    plain_if (n / 10 == 0) more (digits_onto k 10 false (n / 10) more) (glyph_plain (n % 10), plain)
    (plain_onto k (n / 10) more (glyph_plain (n % 10), plain))

pub plain_decimal : (n : ℕ) → IsPlain (decimal n)
unfolding digits
plain_decimal n = plain_onto 64 n [] tt

pub plain_signed : (z : ℤ) → IsPlain (signed_decimal z)
plain_signed (pos n) = plain_decimal n
plain_signed (negsuc n) = (refl, plain_decimal (suc n))
