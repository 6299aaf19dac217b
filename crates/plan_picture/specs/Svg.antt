-- The pieces of SVG that make up a picture.
use Rattle.std.specs.Prelude.{ℕ, ◌+◌, ◌*◌, ◌%◌, ◌==◌, if◌then◌else◌, List, [], ◌∷◌, ◌++◌, decimal, length}
use Rattle.plan_picture.specs.Styles.{style}
use Rattle.plan_picture.specs.Tags.{fixed}
use Rattle.plan_picture.specs.Words.{word}
use Rattle.plan_picture.specs.declared.frame.Point.{Point}
use Rattle.plan_picture.specs.declared.styles.Style.TheVariants as styles
use Rattle.plan_picture.specs.declared.tags.Tag.{Tag}
use Rattle.plan_picture.specs.declared.tags.Tag.TheVariants as tags
use Rattle.plan_picture.specs.declared.words.Word.{Word}

-- a tag and the number after it
unfoldable pub numbered : Tag → ℕ → List ℕ
numbered t n = fixed t ++ decimal n

-- a tag, a number, and the quote that ends an attribute
unfoldable pub attribute : Tag → ℕ → List ℕ
attribute t n = fixed t ++ decimal n ++ fixed tags.Quote

-- a tag and the words after it
unfoldable pub tagged : Tag → Word → List ℕ
tagged t w = fixed t ++ word w

-- words and the number after them
unfoldable pub word_and_number : Word → ℕ → List ℕ
word_and_number w n = word w ++ decimal n

-- words and the number after them, or nothing if it is 0
abbrev pub word_and_nonzero : Word → ℕ → List ℕ
word_and_nonzero w n = if n == 0 then [] else word_and_number w n

-- a point of a line, as ` X,Y`
unfoldable pub at_text : Point → List ℕ
at_text point = numbered tags.Blank point.x ++ numbered tags.Comma point.y

-- a number as an element `text`, whose start tag begins with this tag
unfoldable pub placed_text : Tag → ℕ → ℕ → List ℕ
placed_text t x n = fixed t ++ attribute tags.X x ++ numbered tags.TagEnd n ++ fixed tags.TextEnd

-- how many digits a number has
abbrev pub digit_count : ℕ → ℕ
digit_count n = length (decimal n)

-- a tag and its position, without the end of the tag
unfoldable pub placed_tag : Tag → Point → List ℕ
placed_tag t point = fixed t ++ attribute tags.X point.x ++ attribute tags.Y point.y

-- the colour of the route with this number: neighbors are 137 degrees apart on the wheel of 360
unfoldable pub colour : Tag → ℕ → List ℕ
colour t number = numbered t (137 * number % 360) ++ style styles.Saturation ++ decimal (30 + number % 7 * 4) ++ fixed tags.ColourEnd

-- a bar that begins at a time, unless it is empty
unfoldable pub bar : Tag → ℕ → ℕ → List ℕ
bar t first width =
    if width == 0 then [] else fixed t ++ attribute tags.X first ++ attribute tags.Width width ++ fixed tags.Close

-- the class of the route that breaks a rule
unfoldable pub broken_class : ℕ → ℕ → List ℕ
broken_class broken number = if number == broken then fixed tags.BrokenClass else []

-- a text for each route, in order; the first route has this number
abbrev pub each : (ℕ → List ℕ → List ℕ) → ℕ → List (List ℕ) → List ℕ
each f number [] = []
each f number (route ∷ routes) = f number route ++ each f (number + 1) routes
