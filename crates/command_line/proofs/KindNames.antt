-- The words that name a kind of instance.
use Rattle.std.proofs.Common.{◌≡◌, ℕ, Bool, true, false, ◌++◌, length, take, drop, Option, Some, None, refl, sym, ap, ◌∙◌}
use Rattle.std.specs.Prelude.{codes, is_some, if◌then◌else◌, map, option_and_then, option_map, ◌&&◌, ◌||◌}
use Rattle.std.specs.Bool.{Decides}
use Rattle.std.specs.List.{list_any, position_or_len}
use Rattle.std.specs.Str.{bytes_eq}
use Rattle.std.proofs.Math.Seq.{drop-append_seam, take-append_seam}
use Rattle.std.proofs.lemmas.Bool.{false≢true}
use Rattle.std.proofs.lemmas.Bool.Decides.{same_from_decides}
use Rattle.std.proofs.lemmas.List.{take-append-drop}
use Rattle.std.proofs.lemmas.Slice.Eq.{bytes_eq-Decides}
use Rattle.clap.specs.Words.{Text}
use Rattle.instance_read.specs.Formats.{format_named}
use Rattle.instance_read.specs.VrpLines.{is_colon}
use Rattle.instance_read.specs.declared.formats.Format.{Format}
use Rattle.instance_read.specs.declared.formats.Layout.TheVariants.{LiLim, Solomon, Vrp}
use Rattle.instance_read.specs.declared.scales.Scale.TheVariants.{One, Ten, Hundred, Thousand}
use Rattle.command_line.specs.CommandLine.{kind_words}

and_parts : (a b : Bool) → (a && b) ≡ true → (a ≡ true) × (b ≡ true)
and_parts true b e = (refl, e)
and_parts false b e = absurd (false≢true e)

-- a word equals a name and what follows it if its parts before and from the colon equal them
module _ (k : Text) where
  abbrev colon : ℕ
  colon = position_or_len is_colon k

  abbrev SameParts : Text → Text → Bool
  SameParts name scale = bytes_eq name (take colon k) && bytes_eq scale (drop colon k)

  parts_decide : (name scale : Text) → position_or_len is_colon (name ++ scale) ≡ length name → Decides (SameParts name scale) (name ++ scale ≡ k)
  parts_decide name scale at = (
    λ same.
        let parts = and_parts (bytes_eq name (take colon k)) (bytes_eq scale (drop colon k)) same in
        let front : name ≡ take colon k = (bytes_eq-Decides name (take colon k)).0 parts.0 in
        let back : scale ≡ drop colon k = (bytes_eq-Decides scale (drop colon k)).0 parts.1 in
        (λ i. front i ++ back i) ∙ take-append-drop colon k,
    λ is.
        let here : colon ≡ length name = ap (position_or_len is_colon) (sym is) ∙ at in
        let front : name ≡ take colon k = sym (take-append_seam name scale) ∙ (λ i. take (sym here i) (is i)) in
        let back : scale ≡ drop colon k = sym (drop-append_seam name scale) ∙ (λ i. drop (sym here i) (is i)) in
        (λ i. (bytes_eq-Decides name (take colon k)).1 front i && (bytes_eq-Decides scale (drop colon k)).1 back i),
  )

  parts_are : (name scale : Text) → position_or_len is_colon (name ++ scale) ≡ length name → bytes_eq (name ++ scale) k ≡ SameParts name scale
  parts_are name scale at = same_from_decides (bytes_eq (name ++ scale) k) (SameParts name scale) (bytes_eq-Decides (name ++ scale) k) (parts_decide name scale at)

-- the format that a word names, by the tests for the names of layouts and for the scales
abbrev format_by : Bool → Bool → Bool → Bool → Bool → Bool → Bool → Bool → Option Format
format_by a b c d e f g h =
    option_and_then (λ layout. option_map (λ scale. record { layout = layout; scale = scale })
    (if d then Some One else if e then Some One else if f then Some Ten else if g then Some Hundred else if h then Some Thousand else None))
    (if a then Some LiLim else if b then Some Solomon else if c then Some Vrp else None)

-- a word is one of the kinds if it names a format
some_named : (a b c d e f g h : Bool)
    → ((a && d) || ((a && e) || ((a && f) || ((a && g) || ((a && h) || ((b && d) || ((b && e) || ((b && f) || ((b && g) || ((b && h) || ((c && d) || ((c && e) || ((c && f) || ((c && g) || ((c && h) || false)))))))))))))))
    ≡ is_some (format_by a b c d e f g h)
some_named true b c true e f g h = refl
some_named true b c false true f g h = refl
some_named true b c false false true g h = refl
some_named true b c false false false true h = refl
some_named true b c false false false false true = refl
some_named true true true false false false false false = refl
some_named true true false false false false false false = refl
some_named true false true false false false false false = refl
some_named true false false false false false false false = refl
some_named false true c true e f g h = refl
some_named false true c false true f g h = refl
some_named false true c false false true g h = refl
some_named false true c false false false true h = refl
some_named false true c false false false false true = refl
some_named false true true false false false false false = refl
some_named false true false false false false false false = refl
some_named false false true true e f g h = refl
some_named false false true false true f g h = refl
some_named false false true false false true g h = refl
some_named false false true false false false true h = refl
some_named false false true false false false false true = refl
some_named false false true false false false false false = refl
some_named false false false d e f g h = refl

pub word_accepted : (k : Text) → list_any (λ t. bytes_eq t k) kind_words ≡ is_some (format_named k)
word_accepted k =
    let named = λ (name scale : Text) (at : position_or_len is_colon (name ++ scale) ≡ length name). parts_are k name scale at in
    let ad = named (codes "lilim") (codes "") refl in
    let ae = named (codes "lilim") (codes ":1") refl in
    let af = named (codes "lilim") (codes ":10") refl in
    let ag = named (codes "lilim") (codes ":100") refl in
    let ah = named (codes "lilim") (codes ":1000") refl in
    let bd = named (codes "solomon") (codes "") refl in
    let be = named (codes "solomon") (codes ":1") refl in
    let bf = named (codes "solomon") (codes ":10") refl in
    let bg = named (codes "solomon") (codes ":100") refl in
    let bh = named (codes "solomon") (codes ":1000") refl in
    let cd = named (codes "vrp") (codes "") refl in
    let ce = named (codes "vrp") (codes ":1") refl in
    let cf = named (codes "vrp") (codes ":10") refl in
    let cg = named (codes "vrp") (codes ":100") refl in
    let ch = named (codes "vrp") (codes ":1000") refl in
    (λ i. ad i || (ae i || (af i || (ag i || (ah i || (bd i || (be i || (bf i || (bg i || (bh i || (cd i || (ce i || (cf i || (cg i || (ch i || false)))))))))))))))
    ∙ some_named (bytes_eq (codes "lilim") (take (colon k) k)) (bytes_eq (codes "solomon") (take (colon k) k)) (bytes_eq (codes "vrp") (take (colon k) k))
    (bytes_eq (codes "") (drop (colon k) k)) (bytes_eq (codes ":1") (drop (colon k) k)) (bytes_eq (codes ":10") (drop (colon k) k))
    (bytes_eq (codes ":100") (drop (colon k) k)) (bytes_eq (codes ":1000") (drop (colon k) k))
