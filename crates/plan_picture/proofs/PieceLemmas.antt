-- The pieces of SVG are well-formed.
use Rattle.std.proofs.Common.{ℕ, ◌+◌, ◌*◌, ◌%◌, Bool, true, false, List, [], ◌∷◌, ◌++◌, refl, codes}
use Rattle.std.specs.Prelude.{◌==◌, decimal, if◌then◌else◌}
use Rattle.plan_picture.specs.Svg.{at_text, attribute, bar, colour, word_and_number, numbered, placed_tag, placed_text, word_and_nonzero}
use Rattle.plan_picture.specs.Styles.{style}
use Rattle.plan_picture.specs.Tags.{fixed}
use Rattle.plan_picture.specs.WellFormed.{ReaderState, inside, quoted, unquoted}
use Rattle.plan_picture.specs.Words.{word}
use Rattle.plan_picture.specs.declared.frame.Point.{Point}
use Rattle.plan_picture.specs.declared.styles.Style.TheVariants as styles
use Rattle.plan_picture.specs.declared.tags.Tag.{Tag}
use Rattle.plan_picture.specs.declared.tags.Tag.TheVariants as tags
use Rattle.plan_picture.specs.declared.words.Word.{Word}
use Rattle.plan_picture.proofs.ReadLemmas.{Goes, inside_keeps, Keeps, goes_on, plain_decimal, quoted_keeps, Stays, stays_with}

-- a tag and a number after it
pub numbered_goes : (a b : ReaderState) (t : Tag) (n : ℕ) → Keeps b → Goes a (fixed t) b → Goes a (numbered t n) b
unfolding numbered
numbered_goes a b t n keeps first = goes_on a (fixed t) (decimal n) first (keeps (decimal n) (plain_decimal n))

-- words and a number between tags leave the open elements as they were
pub value_stays : (w : Word) (n : ℕ) → Stays (word w) → Stays (word_and_number w n)
unfolding word_and_number
value_stays w n first = stays_with (word w) (decimal n) first (λ m os. inside_keeps (m ∷ os) (decimal n) (plain_decimal n))

pub some_value_stays : (w : Word) (n : ℕ) → Stays (word w) → Stays (word_and_nonzero w n)
some_value_stays w n first = by (n == 0)
  where
    by : (b : Bool) → Stays (if b then [] else word_and_number w n)
    by true = λ m os. refl
    by false = value_stays w n first

-- an attribute that begins in a tag, and ends in it
pub attribute_goes : (a : ReaderState) (m : List ℕ) (os : List (List ℕ)) (t : Tag) (n : ℕ) → Goes a (fixed t) (quoted m os) → Goes a (attribute t n) (unquoted m os)
unfolding attribute fixed
attribute_goes a m os t n first =
    goes_on a (fixed t ++ decimal n) (fixed tags.Quote) (goes_on a (fixed t) (decimal n) first (quoted_keeps m os (decimal n) (plain_decimal n))) refl

pub x_begins : (m : List ℕ) (os : List (List ℕ)) → Goes (unquoted m os) (fixed tags.X) (quoted m os)
unfolding fixed
x_begins m os = refl

pub y_begins : (m : List ℕ) (os : List (List ℕ)) → Goes (unquoted m os) (fixed tags.Y) (quoted m os)
unfolding fixed
y_begins m os = refl

pub width_begins : (m : List ℕ) (os : List (List ℕ)) → Goes (unquoted m os) (fixed tags.Width) (quoted m os)
unfolding fixed
width_begins m os = refl

pub height_begins : (m : List ℕ) (os : List (List ℕ)) → Goes (unquoted m os) (fixed tags.Height) (quoted m os)
unfolding fixed
height_begins m os = refl

pub tag_closes : (m n : List ℕ) (os : List (List ℕ)) → Goes (unquoted m (n ∷ os)) (fixed tags.Close) (inside (n ∷ os))
unfolding fixed
tag_closes m n os = refl

pub x_goes : (m : List ℕ) (os : List (List ℕ)) (n : ℕ) → Goes (unquoted m os) (attribute tags.X n) (unquoted m os)
x_goes m os n = attribute_goes (unquoted m os) m os tags.X n (x_begins m os)

pub y_goes : (m : List ℕ) (os : List (List ℕ)) (n : ℕ) → Goes (unquoted m os) (attribute tags.Y n) (unquoted m os)
y_goes m os n = attribute_goes (unquoted m os) m os tags.Y n (y_begins m os)

pub width_goes : (m : List ℕ) (os : List (List ℕ)) (n : ℕ) → Goes (unquoted m os) (attribute tags.Width n) (unquoted m os)
width_goes m os n = attribute_goes (unquoted m os) m os tags.Width n (width_begins m os)

pub height_goes : (m : List ℕ) (os : List (List ℕ)) (n : ℕ) → Goes (unquoted m os) (attribute tags.Height n) (unquoted m os)
height_goes m os n = attribute_goes (unquoted m os) m os tags.Height n (height_begins m os)

-- a tag with its position
pub placed_goes : (a : ReaderState) (m : List ℕ) (os : List (List ℕ)) (t : Tag) (point : Point) → Goes a (fixed t) (unquoted m os) → Goes a (placed_tag t point) (unquoted m os)
unfolding placed_tag
placed_goes a m os t point first =
    goes_on a (fixed t ++ attribute tags.X point.x) (attribute tags.Y point.y) (goes_on a (fixed t) (attribute tags.X point.x) first (x_goes m os point.x)) (y_goes m os point.y)

-- a colour
pub colour_goes : (a : ReaderState) (m : List ℕ) (os : List (List ℕ)) (t : Tag) (n : ℕ) → Goes a (fixed t) (quoted m os) → Goes a (colour t n) (unquoted m os)
unfolding colour fixed style
colour_goes a m os t n first =
    let hue = 137 * n % 360 in
    let light = 30 + n % 7 * 4 in
    goes_on a (numbered t hue ++ style styles.Saturation ++ decimal light) (fixed tags.ColourEnd)
    (goes_on a (numbered t hue ++ style styles.Saturation) (decimal light)
    (goes_on a (numbered t hue) (style styles.Saturation) (numbered_goes a (quoted m os) t hue (quoted_keeps m os) first) refl)
    (quoted_keeps m os (decimal light) (plain_decimal light))) refl

-- a point in a value
pub at_goes : (m : List ℕ) (os : List (List ℕ)) (point : Point) → Goes (quoted m os) (at_text point) (quoted m os)
unfolding at_text fixed
at_goes m os point =
    goes_on (quoted m os) (numbered tags.Blank point.x) (numbered tags.Comma point.y) (numbered_goes (quoted m os) (quoted m os) tags.Blank point.x (quoted_keeps m os) refl)
    (numbered_goes (quoted m os) (quoted m os) tags.Comma point.y (quoted_keeps m os) refl)

-- this text begins an element `text`
abbrev pub BeginsText : Tag → Type 0
BeginsText t = (n : List ℕ) (os : List (List ℕ)) → Goes (inside (n ∷ os)) (fixed t) (unquoted (codes "text") (n ∷ os))

pub tag_opens : (m : List ℕ) (os : List (List ℕ)) → Goes (unquoted m os) (fixed tags.TagEnd) (inside (m ∷ os))
unfolding fixed
tag_opens m os = refl

pub text_ends : (n : List ℕ) (os : List (List ℕ)) → Goes (inside (codes "text" ∷ n ∷ os)) (fixed tags.TextEnd) (inside (n ∷ os))
unfolding fixed
text_ends n os = refl

-- a number in an element `text`
pub number_goes : (m n : List ℕ) (os : List (List ℕ)) (k : ℕ) → Goes (unquoted m (n ∷ os)) (numbered tags.TagEnd k) (inside (m ∷ n ∷ os))
number_goes m n os k = numbered_goes (unquoted m (n ∷ os)) (inside (m ∷ n ∷ os)) tags.TagEnd k (inside_keeps (m ∷ n ∷ os)) (tag_opens m (n ∷ os))

pub placed_text_stays : (t : Tag) (x k : ℕ) → BeginsText t → Stays (placed_text t x k)
unfolding placed_text
placed_text_stays t x k begins n os =
    let a = inside (n ∷ os) in
    let name = codes "text" in
    goes_on a (fixed t ++ attribute tags.X x ++ numbered tags.TagEnd k) (fixed tags.TextEnd)
    (goes_on a (fixed t ++ attribute tags.X x) (numbered tags.TagEnd k) (goes_on a (fixed t) (attribute tags.X x) (begins n os) (x_goes name (n ∷ os) x)) (number_goes name n os k)) (text_ends n os)

-- this text begins an element `rect`
abbrev pub BeginsBox : Tag → Type 0
BeginsBox t = (n : List ℕ) (os : List (List ℕ)) → Goes (inside (n ∷ os)) (fixed t) (unquoted (codes "rect") (n ∷ os))

pub bar_stays : (t : Tag) (first width : ℕ) → BeginsBox t → Stays (bar t first width)
unfolding bar
bar_stays t first width begins = by (width == 0)
  where
    by : (b : Bool) → Stays (if b then [] else fixed t ++ attribute tags.X first ++ attribute tags.Width width ++ fixed tags.Close)
    by true n os = refl
    by false n os =
        let a = inside (n ∷ os) in
        let name = codes "rect" in
        goes_on a (fixed t ++ attribute tags.X first ++ attribute tags.Width width) (fixed tags.Close)
        (goes_on a (fixed t ++ attribute tags.X first) (attribute tags.Width width)
        (goes_on a (fixed t) (attribute tags.X first) (begins n os) (x_goes name (n ∷ os) first)) (width_goes name (n ∷ os) width))
        (tag_closes name n os)

-- this text opens a group, and its end closes it
abbrev pub OpensGroup : List ℕ → Type 0
OpensGroup t = (n : List ℕ) (os : List (List ℕ)) → Goes (inside (n ∷ os)) t (inside (codes "g" ∷ n ∷ os))

pub group_ends : (n : List ℕ) (os : List (List ℕ)) → Goes (inside (codes "g" ∷ n ∷ os)) (fixed tags.GroupEnd) (inside (n ∷ os))
unfolding fixed
group_ends n os = refl

pub group_stays : (t body : List ℕ) → OpensGroup t → Stays body → Stays (t ++ body ++ fixed tags.GroupEnd)
group_stays t body opens within n os =
    let a = inside (n ∷ os) in
    goes_on a (t ++ body) (fixed tags.GroupEnd) (goes_on a t body (opens n os) (within (codes "g") (n ∷ os))) (group_ends n os)
