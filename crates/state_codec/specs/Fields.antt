-- Reading a field from the start of bytes returns its value and the bytes after it, or a fault. Bytes that end
-- before or inside the field are `Truncated`; a value that the rule of the field refuses is a `BadField`.
use Rattle.std.specs.Prelude.{◌≡◌, ℕ, ℤ, pos, Bool, ◌&&◌, nat_lt, nat_le, int_le, List, [], ◌∷◌, length, drop, Result, Ok, Err, if◌then◌else◌}
use Rattle.std.specs.Int.{w32, cast_signed}
use Rattle.byteorder.specs.Endian.{big_number}
use Rattle.plan_types.specs.declared.limits.TheConstants.{MAX_DEMAND, MAX_SERVICE, MAX_TIME}
use Rattle.command_types.specs.AddedRequests.{is_coordinate}
use Rattle.state_codec.specs.declared.fault.CodecFault.{CodecFault}
use Rattle.state_codec.specs.declared.fault.CodecFault.TheVariants.{Truncated, BadField, PlanRefused, OutOfMemory}

infixl 10 ◌>>=◌
abbrev pub ◌>>=◌ : {A B : Type 0} → Result A CodecFault → (A → Result B CodecFault) → Result B CodecFault
(Ok x) >>= f = f x
(Err e) >>= f = Err e

-- The value of a field and the bytes after it
abbrev pub Field : Type 0 → Type 0
Field X = Result (X × List ℕ) CodecFault

-- The value of a field if it satisfies its rule, otherwise `BadField`
abbrev pub only : {X : Type 0} → (X → Bool) → Field X → Field X
only rule field = field >>= λ x. if rule x.0 then Ok x else Err BadField

-- One byte
unfoldable pub byte_at : List ℕ → Field ℕ
byte_at [] = Err Truncated
byte_at (b ∷ rest) = Ok (b, rest)

-- A number of k bytes
unfoldable pub number_at : ℕ → List ℕ → Field ℕ
number_at k bytes = if nat_lt (length bytes) k then Err Truncated else Ok (big_number k bytes, drop k bytes)

-- A signed number of four bytes
unfoldable pub signed_at : List ℕ → Field ℤ
signed_at bytes = if nat_lt (length bytes) 4 then Err Truncated else Ok (cast_signed w32 (big_number 4 bytes), drop 4 bytes)

-- The rules of single fields
abbrev pub int_eq : ℤ → ℤ → Bool
int_eq x y = int_le x y && int_le y x

abbrev pub is_demand : ℤ → Bool
is_demand q = int_le (pos 0) q && int_le q MAX_DEMAND

abbrev pub is_time : ℕ → Bool
is_time t = nat_le t MAX_TIME

abbrev pub is_service : ℕ → Bool
is_service t = nat_le t MAX_SERVICE

-- x and y
unfoldable pub point_at : List ℕ → Field (ℤ × ℤ)
point_at bytes = do
  x ← only is_coordinate (signed_at bytes)
  y ← only is_coordinate (signed_at x.1)
  Ok ((x.0, y.0), y.1)

-- The begin and the end of a time window
unfoldable pub window_at : List ℕ → Field (ℕ × ℕ)
window_at bytes = do
  earliest ← only is_time (number_at 4 bytes)
  latest ← only (λ t. nat_le earliest.0 t && is_time t) (number_at 4 earliest.1)
  Ok ((earliest.0, latest.0), latest.1)

-- The result of a function, mapped by `view`, is the result of reading.
abbrev pub Reads : {X Y : Type 0} → (X → Y) → Result X CodecFault → Result Y CodecFault → Type 0
Reads view (Ok x) read = read ≡ Ok (view x)
Reads view (Err e) read = read ≡ Err e

-- The result is this fault, unless memory ran out.
abbrev pub Fails : {Y : Type 0} → CodecFault → Result Y CodecFault → Type 0
Fails OutOfMemory read = Unit {0}
Fails Truncated read = read ≡ Err Truncated
Fails BadField read = read ≡ Err BadField
Fails (PlanRefused rule) read = read ≡ Err (PlanRefused rule)

abbrev pub Gives : {X Y : Type 0} → (X → Y) → Result X CodecFault → Result Y CodecFault → Type 0
Gives view (Ok x) read = read ≡ Ok (view x)
Gives view (Err e) read = Fails e read
