-- The formats of instance texts: their names, and the kinds of their problems.
use Rattle.std.specs.Prelude.{ℕ, List, ◌++◌, take, drop, codes, Option, Some, None, if◌then◌else◌, option_and_then, option_map}
use Rattle.std.specs.List.{position_or_len}
use Rattle.std.specs.Str.{bytes_eq}
use Rattle.plan_types.specs.declared.requests.Kind.{Kind}
use Rattle.plan_types.specs.declared.requests.Kind.TheVariants as kinds
use Rattle.instance_read.specs.declared.formats.Format.{Format}
use Rattle.instance_read.specs.declared.formats.Layout.{Layout}
use Rattle.instance_read.specs.declared.formats.Layout.TheVariants.{LiLim, Solomon, Vrp}
use Rattle.instance_read.specs.declared.scales.Scale.{Scale}
use Rattle.instance_read.specs.declared.scales.Scale.TheVariants.{One, Ten, Hundred, Thousand}
use Rattle.instance_read.specs.VrpLines.{is_colon}

abbrev pub layout_named : List ℕ → Option Layout
layout_named word =
    if bytes_eq (codes "lilim") word then Some LiLim
    else if bytes_eq (codes "solomon") word then Some Solomon
    else if bytes_eq (codes "vrp") word then Some Vrp
    else None

-- the scale that the rest of a word names, from its colon on; without a colon it is 1
abbrev pub scale_named : List ℕ → Option Scale
scale_named rest =
    if bytes_eq (codes "") rest then Some One
    else if bytes_eq (codes ":1") rest then Some One
    else if bytes_eq (codes ":10") rest then Some Ten
    else if bytes_eq (codes ":100") rest then Some Hundred
    else if bytes_eq (codes ":1000") rest then Some Thousand
    else None

-- the format that a word names: the name of its layout, and its scale after a colon
abbrev pub format_named : List ℕ → Option Format
format_named word =
    let colon = position_or_len is_colon word in
    option_and_then (λ layout. option_map (λ scale. record { layout = layout; scale = scale }) (scale_named (drop colon word))) (layout_named (take colon word))

abbrev pub layout_word : Layout → List ℕ
layout_word LiLim = codes "lilim"
layout_word Solomon = codes "solomon"
layout_word Vrp = codes "vrp"

abbrev pub scale_word : Scale → List ℕ
scale_word One = codes ""
scale_word Ten = codes ":10"
scale_word Hundred = codes ":100"
scale_word Thousand = codes ":1000"

-- the word that names a format
abbrev pub format_word : Format → List ℕ
format_word format = layout_word format.layout ++ scale_word format.scale

abbrev pub layout_of : Kind → Layout
layout_of kinds.LiLim = LiLim
layout_of kinds.Vrp = Vrp

-- the format that has the name of this kind, with scale 1
abbrev pub format_of : Kind → Format
format_of kind = record { layout = layout_of kind; scale = One }

abbrev pub kind_by : Layout → Kind
kind_by LiLim = kinds.LiLim
kind_by Solomon = kinds.LiLim
kind_by Vrp = kinds.Vrp

-- the kind of the problems that texts in this format spell
abbrev pub kind_of : Format → Kind
kind_of format = kind_by format.layout
