-- Words that are numbers, and their values.
use Rattle.std.specs.Prelude.{
  negsuc,
  ◌≡◌,
  ◌<◌,
  ◌^◌,
  ℕ,
  Bool,
  true,
  false,
  ◌&&◌,
  ◌==◌,
  nat_lt,
  nat_le,
  if◌then◌else◌,
  List,
  [],
  ◌∷◌,
  ◌++◌,
  ◌⊎◌,
  ◌↔◌,
  length,
  replicate,
  take,
  drop,
  codes,
  Option,
  Some,
  None,
  ℤ,
  pos,
  neg_ℤ,
  int_le,
  slice_get,
}
use Rattle.std.specs.Char.{is_ascii_digit}
use Rattle.std.specs.Fmt.{decimal}
use Rattle.std.specs.List.{list_all, prefix_len}
use Rattle.std.specs.Option.{SomeIff, option_and_then, option_map}
use Rattle.std.specs.Str.Parse.{digits_value, starts_with_minus, without_leading_sign}

-- one or more digits, and nothing else
unfoldable pub is_digits : List ℕ → Bool
is_digits [] = false
is_digits (b ∷ bs) = list_all is_ascii_digit (b ∷ bs)

-- the value of a word of digits
unfoldable pub digits_of : List ℕ → Option ℕ
digits_of word = if is_digits word then Some (digits_value 10 word) else None

-- the value of these digits, if it fits a `u64`
abbrev pub IsFittingValue : List ℕ → Option ℕ → Type 0
IsFittingValue digits value = SomeIff value (digits_value 10 digits < 2 ^ 64) (digits_value 10 digits)

-- a number, if it is below the limit
abbrev pub below : ℕ → Option ℕ → Option ℕ
below limit None = None
below limit (Some n) = if nat_lt n limit then Some n else None

abbrev pub is_zero : ℕ → Bool
is_zero b = b == 48

-- nothing, or a point with only zeros after it
abbrev pub is_zero_fraction : List ℕ → Bool
is_zero_fraction [] = true
is_zero_fraction (b ∷ zeros) = b == 46 && list_all is_zero zeros

-- the value of the leading digits, if there are some and only a fraction of zeros, or nothing, follows
unfoldable pub whole_of : List ℕ → Option ℕ
whole_of body =
    let n = prefix_len is_ascii_digit body in
    if nat_lt 0 n && is_zero_fraction (drop n body) then Some (digits_value 10 (take n body)) else None

-- the number with this sign and magnitude
abbrev pub signed : Bool → ℕ → ℤ
signed true n = neg_ℤ (pos n)
signed false n = pos n

-- the value of a word that is a number: a plus, a minus or no sign, digits, and optionally a point with only
-- zeros, or nothing, after it
unfoldable pub number_of : List ℕ → Option ℤ
number_of word = option_map (signed (starts_with_minus word)) (whole_of (without_leading_sign word))

-- the number as a natural number, if it is not negative
abbrev pub magnitude : ℤ → Option ℕ
magnitude (pos n) = Some n
magnitude (negsuc n) = None

-- nothing, a plus or a minus
abbrev pub IsSign : List ℕ → Type 0
IsSign sign = (sign ≡ []) ⊎ ((sign ≡ codes "+") ⊎ (sign ≡ codes "-"))

-- nothing, or a point and any number of zeros
abbrev pub IsZeroFraction : List ℕ → Type 0
IsZeroFraction fraction = (fraction ≡ []) ⊎ ((zeros : ℕ) × (fraction ≡ codes "." ++ replicate zeros 48))

-- a word that is a number: a sign or none, one or more digits, and optionally a point and zeros; its value is
-- that of the digits, with this sign
pub record IsNumber (word : List ℕ) (number : ℤ) : Type 0 where
  pub sign : List ℕ
  pub digits : List ℕ
  pub fraction : List ℕ
  pub whole : word ≡ sign ++ (digits ++ fraction)
  pub is_sign : IsSign sign
  pub are_digits : is_digits digits ≡ true
  pub is_fraction : IsZeroFraction fraction
  pub value : number ≡ signed (starts_with_minus sign) (digits_value 10 digits)

-- a word has a value as a number exactly if it follows the grammar of `IsNumber`
abbrev pub NumbersFollowGrammar : Type 0
NumbersFollowGrammar = (word : List ℕ) (number : ℤ) → (number_of word ≡ Some number) ↔ IsNumber word number

-- the first word as a number, if there is a word and it is a number
abbrev pub first_number : List (List ℕ) → Option ℤ
first_number words = option_and_then number_of (slice_get words 0)

-- a number, if it is within these limits
abbrev pub within : ℤ → ℤ → Option ℤ → Option ℤ
within least most None = None
within least most (Some z) = if int_le least z && int_le z most then Some z else None

-- the word without a leading minus
abbrev pub without_minus : List ℕ → List ℕ
without_minus word = if starts_with_minus word then drop 1 word else word

-- the value of an integer with at most 20 digits and a minus or no sign
unfoldable pub integer_of : List ℕ → Option ℤ
integer_of word =
    if nat_le (length (without_minus word)) 20 then option_map (signed (starts_with_minus word)) (digits_of (without_minus word)) else None

-- the decimal digits of a number are a word of digits with its value, and parse as that number
abbrev pub DecimalsParseBack : Type 0
DecimalsParseBack = (n : ℕ) → n < 2 ^ 64 → (is_digits (decimal n) ≡ true) × (digits_of (decimal n) ≡ Some n) × (number_of (decimal n) ≡ Some (pos n))
