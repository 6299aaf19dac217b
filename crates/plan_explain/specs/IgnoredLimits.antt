-- Limits in a `.vrp` file that this project ignores, like any other unknown key. Lines count from 1.
use Rattle.std.specs.Prelude.{ℕ, ◌+◌, ◌||◌, Bool, List, [], ◌∷◌, codes, Option, Some, None, if◌then◌else◌}
use Rattle.std.specs.Str.{str_eq_ignore_ascii_case}
use Rattle.instance_read.specs.VrpLines.{key_text}
use Rattle.instance_read.specs.declared.formats.Format.{Format}
use Rattle.instance_read.specs.declared.formats.Layout.{Layout}
use Rattle.instance_read.specs.declared.formats.Layout.TheVariants.{LiLim, Solomon, Vrp}
use Rattle.text_lines.specs.Lines.{lines_of}
use Rattle.plan_explain.specs.Quotes.{is_key}

-- the key limits the number of vehicles, or the length, the stops or the risk of a route; keys of LKH and of
-- extensions of TSPLIB, in any letter case
abbrev pub is_limit : List ℕ → Bool
is_limit key = str_eq_ignore_ascii_case key (codes "VEHICLES") || (str_eq_ignore_ascii_case key (codes "SALESMEN")
    || (str_eq_ignore_ascii_case key (codes "MAX_DURATION") || (str_eq_ignore_ascii_case key (codes "MAX_DISTANCE")
    || (str_eq_ignore_ascii_case key (codes "MTSP_MIN_SIZE") || (str_eq_ignore_ascii_case key (codes "MTSP_MAX_SIZE")
    || str_eq_ignore_ascii_case key (codes "RISK_THRESHOLD"))))))

-- the number of the first line before the line `EOF` whose key is a limit; the first line of the list has number
-- n
abbrev pub limit_from : ℕ → List (List ℕ) → Option ℕ
limit_from n [] = None
limit_from n (line ∷ lines) = if is_key (codes "EOF") line then None else if is_limit (key_text line) then Some n else limit_from (n + 1) lines

-- the number of the first line whose key is a limit; only the layout of `.vrp` files has keys
abbrev pub limit_line_of : Layout → List ℕ → Option ℕ
limit_line_of LiLim text = None
limit_line_of Solomon text = None
limit_line_of Vrp text = limit_from 1 (lines_of text)

-- the number of the first line whose key is an ignored limit, in an instance in this format
abbrev pub ignored_limit_line : Format → List ℕ → Option ℕ
ignored_limit_line format text = limit_line_of format.layout text
