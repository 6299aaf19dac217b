-- A field that is read is the one that was written, and a field that was written is read back
use Rattle.std.proofs.Common.{
  ◌≡◌,
  ℕ,
  ◌+◌,
  ◌^◌,
  ◌<◌,
  ◌≤◌,
  ℤ,
  pos,
  Bool,
  true,
  false,
  cond,
  ltb,
  List,
  [],
  ◌∷◌,
  ◌++◌,
  length,
  get_or,
  take,
  drop,
  Result,
  Ok,
  Err,
  refl,
  sym,
  ap,
  subst,
  ◌∙◌,
  append_assoc,
  arith,
  inl,
  inr,
}
use Rattle.std.specs.Int.{w32, cast_signed, cast_unsigned}
use Rattle.std.proofs.lemmas.Bool.{cases_lt, ltb-false, le-ltb}
use Rattle.std.proofs.lemmas.List.{drop_at, take-append-drop, length-append, length-take, get_or-drop, get_or-take, get_or_past}
use Rattle.std.proofs.lemmas.Nat.{be_bytes_2, be_bytes_4, be_bytes_8}
use Rattle.std.proofs.lemmas.Int.{of_z-to_z, to_z-of_z, ints}
use Rattle.std.specs.Prelude.{negsuc, ◌≤ℤ◌}
use mir.Val.{SFits}
use Rattle.std.proofs.Math.Facts.{Fits-of_z}
use Rattle.byteorder.specs.Endian.{big_bytes, big_number}
use Rattle.byteorder.specs.Numbers.{big_number-reads_back, big_from-lt, length-bytes_high_first}
use Rattle.state_codec.specs.declared.version.Version.{Version}
use Rattle.state_codec.specs.declared.version.Version.TheVariants.{One, Two}
use Rattle.state_codec.specs.declared.fault.CodecFault.{CodecFault}
use Rattle.state_codec.specs.declared.fault.CodecFault.TheVariants.{Truncated, BadField}
use Rattle.state_codec.specs.Bytes.{number_bytes, signed_bytes, width}
use Rattle.state_codec.specs.Fields.{◌>>=◌, Field, only, number_at, signed_at}

abbrev pub IsBytes : List ℕ → Type 0
IsBytes bytes = (i : ℕ) → get_or bytes i 0 < 256

IsBytes-drop : (n : ℕ) (bytes : List ℕ) → IsBytes bytes → IsBytes (drop n bytes)
IsBytes-drop n bytes h i = rw get_or-drop (h (n + i))

IsBytes-take : (n : ℕ) (bytes : List ℕ) → IsBytes bytes → IsBytes (take n bytes)
IsBytes-take n bytes h i =
    elim (cases_lt i n) [
      | inl lt ↦ rw (get_or-take n bytes i 0 lt) (h i)
      | inr le ↦ rw (get_or_past (take n bytes) i 0 (omega (arith, length-take n bytes))) (omega arith)
    ]

-- If two steps in sequence succeed, the first has returned a value and the second has returned the result
pub bind_ok : {A B : Type 0} (r : Result A CodecFault) (f : A → Result B CodecFault) (y : B) → (r >>= f) ≡ Ok y → (x : A) × (r ≡ Ok x) × (f x ≡ Ok y)
bind_ok (Ok x) f y e = (x, refl, e)
bind_ok (Err d) f y e = absurd cc

-- If a guarded value was returned, the guard did not fail
guard_ok : {A : Type 0} (b : Bool) (d : CodecFault) (x y : A) → cond b (Err d) (Ok x) ≡ Ok y → (b ≡ false) × (x ≡ y)
guard_ok true d x y e = absurd cc
guard_ok false d x y e = (refl, cc)

kept_ok : {A : Type 0} (b : Bool) (d : CodecFault) (x y : A) → cond b (Ok x) (Err d) ≡ Ok y → (b ≡ true) × (x ≡ y)
kept_ok true d x y e = (refl, cc)
kept_ok false d x y e = absurd cc

-- If a field was accepted, it was read and its rule accepts the value
pub only_ok : {X : Type 0} (rule : X → Bool) (field : Field X) (y : X × List ℕ) → only rule field ≡ Ok y → (field ≡ Ok y) × (rule y.0 ≡ true)
only_ok rule (Err d) y e = absurd cc
only_ok rule (Ok x) y e = let k = kept_ok (rule x.0) BadField x y e in (ap Ok k.1, ap (λ z. rule z.0) (sym k.1) ∙ k.0)

pub only_again : {X : Type 0} (rule : X → Bool) (field : Field X) (y : X × List ℕ) → field ≡ Ok y → rule y.0 ≡ true → only rule field ≡ Ok y
only_again rule field y e h = rw (e, h) refl

abbrev pub done : {A : Type 0} → A → Result A CodecFault
done x = Ok x

pub ok_is : {A : Type 0} (x y : A) → done x ≡ done y → x ≡ y
ok_is x y e = cc

-- The bytes that a reader consumed
pub record Takes (bytes text rest : List ℕ) : Type 0 where
  pub parts : bytes ≡ text ++ rest
  pub rest_fits : IsBytes rest

pub takes_then : (a x b y c : List ℕ) → Takes a x b → Takes b y c → Takes a (x ++ y) c
takes_then a x b y c p q = record { parts = p.parts ∙ ap (λ t. x ++ t) q.parts ∙ sym (append_assoc x y c); rest_fits = q.rest_fits }

-- ---- numbers

back2 : (bytes : List ℕ) → IsBytes bytes → 2 ≤ length bytes → big_bytes 2 (big_number 2 bytes) ≡ take 2 bytes
back2 (a ∷ b ∷ rest) fits le = be_bytes_2 (a ∷ b ∷ []) (big_number 2 (a ∷ b ∷ rest)) refl (IsBytes-take 2 (a ∷ b ∷ rest) fits) (omega arith)
back2 (a ∷ []) fits le = absurd (omega arith)
back2 [] fits le = absurd (omega arith)

back4 : (bytes : List ℕ) → IsBytes bytes → 4 ≤ length bytes → big_bytes 4 (big_number 4 bytes) ≡ take 4 bytes
back4 (a ∷ b ∷ c ∷ d ∷ rest) fits le = be_bytes_4 (a ∷ b ∷ c ∷ d ∷ []) (big_number 4 (a ∷ b ∷ c ∷ d ∷ rest)) refl (IsBytes-take 4 (a ∷ b ∷ c ∷ d ∷ rest) fits) (omega arith)
back4 (a ∷ b ∷ c ∷ []) fits le = absurd (omega arith)
back4 (a ∷ b ∷ []) fits le = absurd (omega arith)
back4 (a ∷ []) fits le = absurd (omega arith)
back4 [] fits le = absurd (omega arith)

back8 : (bytes : List ℕ) → IsBytes bytes → 8 ≤ length bytes → big_bytes 8 (big_number 8 bytes) ≡ take 8 bytes
back8 (a ∷ b ∷ c ∷ d ∷ e ∷ f ∷ g ∷ h ∷ rest) fits le = be_bytes_8 (a ∷ b ∷ c ∷ d ∷ e ∷ f ∷ g ∷ h ∷ [])
    (big_number 8 (a ∷ b ∷ c ∷ d ∷ e ∷ f ∷ g ∷ h ∷ rest)) refl (IsBytes-take 8 (a ∷ b ∷ c ∷ d ∷ e ∷ f ∷ g ∷ h ∷ rest) fits) (omega arith)
back8 (a ∷ b ∷ c ∷ d ∷ e ∷ f ∷ g ∷ []) fits le = absurd (omega arith)
back8 (a ∷ b ∷ c ∷ d ∷ e ∷ f ∷ []) fits le = absurd (omega arith)
back8 (a ∷ b ∷ c ∷ d ∷ e ∷ []) fits le = absurd (omega arith)
back8 (a ∷ b ∷ c ∷ d ∷ []) fits le = absurd (omega arith)
back8 (a ∷ b ∷ c ∷ []) fits le = absurd (omega arith)
back8 (a ∷ b ∷ []) fits le = absurd (omega arith)
back8 (a ∷ []) fits le = absurd (omega arith)
back8 [] fits le = absurd (omega arith)

-- Reading a number of `size` bytes and writing it again yields the same bytes
abbrev pub IsSize : ℕ → Type 0
IsSize size = (bytes : List ℕ) → IsBytes bytes → size ≤ length bytes → big_bytes size (big_number size bytes) ≡ take size bytes

pub of_width : (v : Version) → IsSize (width v)
of_width One = back2
of_width Two = back4

pub of_4 : IsSize 4
of_4 = back4

pub of_8 : IsSize 8
of_8 = back8

pub number_takes : (size : ℕ) → IsSize size → (bytes : List ℕ) (x : ℕ × List ℕ) → IsBytes bytes → number_at size bytes ≡ Ok x → Takes bytes (number_bytes size x.0) x.1 × (x.0 < 256 ^ size)
unfolding number_at number_bytes
number_takes size is bytes x fits e =
    let g = guard_ok (ltb (length bytes) size) Truncated (big_number size bytes, drop size bytes) x e in
    let long : size ≤ length bytes = ltb-false _ _ g.0 in
    let number-is : big_number size bytes ≡ x.0 = ap (λ (p : ℕ × List ℕ). p.0) g.1 in
    let rest-is : drop size bytes ≡ x.1 = ap (λ (p : ℕ × List ℕ). p.1) g.1 in
    let prefix : big_bytes size x.0 ≡ take size bytes = ap (big_bytes size) (sym number-is) ∙ is bytes fits long in (
      record {
        parts = sym (ap (λ t. t ++ x.1) prefix ∙ ap (λ t. take size bytes ++ t) (sym rest-is) ∙ take-append-drop size bytes);
        rest_fits = subst IsBytes rest-is (IsBytes-drop size bytes fits);
      },
      subst (λ n. n < 256 ^ size) number-is (big_from-lt 0 size bytes fits),
    )

pub number_again : (size n : ℕ) (rest : List ℕ) → n < 256 ^ size → number_at size (number_bytes size n ++ rest) ≡ Ok (n, rest)
unfolding number_at number_bytes
number_again size n rest lt =
    let len = length-bytes_high_first size n in
    let long : ltb (length (big_bytes size n ++ rest)) size ≡ false = le-ltb _ _ (omega (arith, length-append (big_bytes size n) rest, len)) in
    rw (long, drop_at (big_bytes size n) rest size len, big_number-reads_back size n rest lt) refl

pub length-number_bytes : (size n : ℕ) → length (number_bytes size n) ≡ size
unfolding number_bytes
length-number_bytes size n = length-bytes_high_first size n

-- ---- signed numbers

pub signed_takes : (bytes : List ℕ) (x : ℤ × List ℕ) → IsBytes bytes → signed_at bytes ≡ Ok x → Takes bytes (signed_bytes x.0) x.1
unfolding signed_at signed_bytes
signed_takes bytes x fits e =
    let g = guard_ok (ltb (length bytes) 4) Truncated (cast_signed w32 (big_number 4 bytes), drop 4 bytes) x e in
    let long : 4 ≤ length bytes = ltb-false _ _ g.0 in
    let number-is : cast_signed w32 (big_number 4 bytes) ≡ x.0 = ap (λ (p : ℤ × List ℕ). p.0) g.1 in
    let rest-is : drop 4 bytes ≡ x.1 = ap (λ (p : ℤ × List ℕ). p.1) g.1 in
    let same : cast_unsigned w32 x.0 ≡ big_number 4 bytes = ap (cast_unsigned w32) (sym number-is) ∙ of_z-to_z w32 (big_number 4 bytes) (big_from-lt 0 4 bytes fits) in
    let prefix : big_bytes 4 (cast_unsigned w32 x.0) ≡ take 4 bytes = ap (big_bytes 4) same ∙ back4 bytes fits long in
    record {
      parts = sym (ap (λ t. t ++ x.1) prefix ∙ ap (λ t. take 4 bytes ++ t) (sym rest-is) ∙ take-append-drop 4 bytes);
      rest_fits = subst IsBytes rest-is (IsBytes-drop 4 bytes fits);
    }

pub signed_again : (z : ℤ) (rest : List ℕ) → SFits w32 z → signed_at (signed_bytes z ++ rest) ≡ Ok (z, rest)
unfolding signed_at signed_bytes
signed_again z rest fits =
    let n = cast_unsigned w32 z in
    let long : ltb (length (big_bytes 4 n ++ rest)) 4 ≡ false = le-ltb _ _ (omega (arith, length-append (big_bytes 4 n) rest, length-bytes_high_first 4 n)) in
    let number-is : big_number 4 (big_bytes 4 n ++ rest) ≡ n = big_number-reads_back 4 n rest (Fits-of_z fits).fits in
    rw (long, drop_at (big_bytes 4 n) rest 4 refl, number-is, to_z-of_z w32 z fits) refl

pub small : (z : ℤ) → negsuc 999999 ≤ℤ z → z ≤ℤ pos 1000000 → SFits w32 z
small z low high = record { sfits = grind (arith, ints, low, high) }

-- If reading a field and then more succeeded, the field was read and its bytes were consumed
pub step : {A B G : Type 0} (field : Field A) (f : A × List ℕ → Result B CodecFault) (y : B) (bytes : List ℕ) (text : A → List ℕ) (P : A → Type 0)
    → ((a : A × List ℕ) → field ≡ Ok a → Takes bytes (text a.0) a.1 × P a.0)
    → (field >>= f) ≡ Ok y → ((a : A × List ℕ) → Takes bytes (text a.0) a.1 → P a.0 → f a ≡ Ok y → G) → G
step field f y bytes text P each e more =
    let b = bind_ok field f y e in
    let t = each b.0 b.1 in
    more b.0 t.0 t.1 b.2
