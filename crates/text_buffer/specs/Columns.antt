-- Numbers in decimal, in columns.
use Rattle.std.specs.Prelude.{ℕ, ◌-◌, ◌^◌, ℤ, List}
use Rattle.std.specs.Fmt.{format_spec, styled_decimal, styled_signed_decimal}

-- a number right-aligned in a column of this width, padded with spaces; a wider number is not cut
abbrev pub right : ℕ → ℕ → List ℕ
right width n = styled_decimal (format_spec 32 3 0 width (2 ^ 64 - 1)) n

abbrev pub right_signed : ℕ → ℤ → List ℕ
right_signed width n = styled_signed_decimal (format_spec 32 3 0 width (2 ^ 64 - 1)) n

-- a number left-aligned in a column of this width, padded with spaces
abbrev pub left : ℕ → ℕ → List ℕ
left width n = styled_decimal (format_spec 32 1 0 width (2 ^ 64 - 1)) n
