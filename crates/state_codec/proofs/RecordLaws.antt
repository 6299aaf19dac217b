-- A command that is written is read back
use Rattle.std.proofs.Common.{◌≡◌, ℕ, ◌-◌, ◌^◌, ◌<◌, List, ◌++◌, length, drop, Ok, refl, sym, ap, ◌∙◌, append_assoc, arith, length-append}
use Rattle.std.specs.Prelude.{◌&&◌, true, pos, replicate}
use Rattle.std.proofs.lemmas.Bool.{and_parts, le-leb, leb-true}
use Rattle.std.proofs.lemmas.List.{drop_at}
use Rattle.plan_types.specs.Limits.{IsVisit}
use Rattle.plan_types.specs.declared.limits.TheConstants.{MAX_DEVIATION}
use Rattle.command_types.specs.Commands.{is_recorded, fits_record}
use Rattle.command_types.specs.AddedRequests.{is_demand, is_spot, stop_at_spot}
use Rattle.command_types.specs.declared.commands.Spot.{Spot}
use Rattle.command_types.specs.declared.commands.Command.{Command}
use Rattle.command_types.specs.declared.commands.Command.TheVariants.{Add, Add1, Withdraw, Pin, Unpin, Build, Search, Deviation}
use Rattle.command_types.proofs.AddLemmas.{visit}
use Rattle.state_codec.specs.declared.version.Version.{Version}
use Rattle.state_codec.specs.declared.version.Version.TheVariants.{One, Two}
use Rattle.state_codec.specs.Bytes.{number_bytes, signed_bytes, count_bytes, spot_bytes, command_bytes, fields_bytes, record_bytes, width}
use Rattle.state_codec.specs.Limits.{IsRecorded}
use Rattle.state_codec.specs.Fields.{byte_at, number_at}
use Rattle.state_codec.specs.Laws.{RecordEncodingIsInjective}
use Rattle.state_codec.specs.Records.{spot_at, add_at, add1_at, withdraw_at, pin_at, unpin_at, search_at, deviation_at, command_at}
use Rattle.state_codec.proofs.FieldLaws.{done, ok_is, number_again, signed_again, small, length-number_bytes}

spot_again : (s : Spot) (rest : List ℕ) → is_spot s ≡ true → spot_at (spot_bytes s ++ rest) ≡ Ok (s, rest)
unfolding spot_at
spot_again s rest test =
    let is : IsVisit (stop_at_spot s 0 (pos 0)) = visit s 0 (pos 0) test in
    let service = number_bytes 4 s.service ++ rest in
    let latest = number_bytes 4 s.latest ++ service in
    let earliest = number_bytes 4 s.earliest ++ latest in
    let y = signed_bytes s.y ++ earliest in
    let regrouped : spot_bytes s ++ rest ≡ signed_bytes s.x ++ y = simp append_assoc in
    ap spot_at regrouped
    ∙ rw (
      signed_again s.x y (small s.x is.x.0 is.x.1),
      signed_again s.y earliest (small s.y is.y.0 is.y.1),
      number_again 4 s.earliest latest
          (omega (arith, is.window, is.latest)),
      number_again 4 s.latest service (omega (arith, is.latest)),
      number_again 4 s.service rest
          (omega (arith, is.service)),
    ) refl

add_again : (demand : ℕ) (pickup delivery : Spot) (rest : List ℕ) → is_demand demand ≡ true → is_spot pickup ≡ true → is_spot delivery ≡ true
    → add_at ((number_bytes 4 demand ++ (spot_bytes pickup ++ spot_bytes delivery)) ++ rest) ≡ Ok (Add demand pickup delivery, rest)
unfolding add_at
add_again demand pickup delivery rest is p d =
    let second = spot_bytes delivery ++ rest in
    let first = spot_bytes pickup ++ second in
    let regrouped : (number_bytes 4 demand ++ (spot_bytes pickup ++ spot_bytes delivery)) ++ rest ≡ number_bytes 4 demand ++ first = simp append_assoc in
    ap add_at regrouped ∙ rw (number_again 4 demand first (omega (arith, leb-true demand 1000000 is)), spot_again pickup second p, spot_again delivery rest d) refl

add1_again : (demand : ℕ) (spot : Spot) (rest : List ℕ) → is_demand demand ≡ true → is_spot spot ≡ true → add1_at ((number_bytes 4 demand ++ spot_bytes spot) ++ rest) ≡ Ok (Add1 demand spot, rest)
unfolding add1_at
add1_again demand spot rest is s =
    ap add1_at (append_assoc (number_bytes 4 demand) (spot_bytes spot) rest)
    ∙ rw (number_again 4 demand (spot_bytes spot ++ rest) (omega (arith, leb-true demand 1000000 is)), spot_again spot rest s) refl

pin_again : (v : Version) (vehicle k : ℕ) (rest : List ℕ) → vehicle < 256 ^ width v → k < 256 ^ width v → pin_at v ((count_bytes v vehicle ++ count_bytes v k) ++ rest) ≡ Ok (Pin vehicle k, rest)
unfolding pin_at
pin_again v vehicle k rest p q =
    ap (pin_at v) (append_assoc (count_bytes v vehicle) (count_bytes v k) rest) ∙ rw (number_again (width v) vehicle (count_bytes v k ++ rest) p, number_again (width v) k rest q) refl

command_again : (v : Version) (c : Command) (rest : List ℕ) → IsRecorded v c → command_at v (command_bytes v c ++ rest) ≡ Ok (c, rest)
unfolding command_at byte_at withdraw_at unpin_at search_at deviation_at
command_again v (Add demand pickup delivery) rest is =
    let goods = and_parts (is_demand demand) (is_spot pickup && is_spot delivery) is in
    let spots = and_parts (is_spot pickup) (is_spot delivery) goods.1 in
    add_again demand pickup delivery rest goods.0 spots.0 spots.1
command_again v (Add1 demand spot) rest is =
    let both = and_parts (is_demand demand) (is_spot spot) is in
    add1_again demand spot rest both.0 both.1
command_again v (Withdraw name) rest is = rw (number_again (width v) name rest is) refl
command_again v (Pin vehicle k) rest is = pin_again v vehicle k rest is.0 is.1
command_again v (Unpin vehicle) rest is = rw (number_again (width v) vehicle rest is) refl
command_again v Build rest is = refl
command_again v (Search count) rest is = rw (number_again 2 count rest (omega (arith, is.1))) refl
command_again One (Deviation deviation) rest is = absurd is
command_again Two (Deviation deviation) rest is = rw (number_again 4 deviation rest (omega (arith, is))) refl
command_again v c rest is = absurd is

-- A command that has a record is one that a store writes as a record, and its fields fit
pub recorded_fits : (v : Version) (c : Command) → IsRecorded v c → (is_recorded c ≡ true) × (fits_record c ≡ true)
recorded_fits v (Add demand pickup delivery) is = (refl, is)
recorded_fits v (Add1 demand spot) is = (refl, is)
recorded_fits v (Withdraw name) is = (refl, refl)
recorded_fits v (Pin vehicle k) is = (refl, refl)
recorded_fits v (Unpin vehicle) is = (refl, refl)
recorded_fits v Build is = (refl, refl)
recorded_fits v (Search count) is = (refl, rw (le-leb 1 count is.0, le-leb count 256 is.1) refl)
recorded_fits One (Deviation deviation) is = absurd is
recorded_fits Two (Deviation deviation) is = (refl, le-leb deviation MAX_DEVIATION is)
recorded_fits v c is = absurd is

-- The fields of a record after its sequence and index are read back as its command
pub record_again : (v : Version) (sector : List ℕ) (sequence index : ℕ) (c : Command) → IsRecorded v c → sector ≡ record_bytes v sequence index c
    → (rest : List ℕ) × (command_at v (drop 12 sector) ≡ Ok (c, rest))
record_again v sector sequence index c is e =
    let zeros = replicate (512 - length (fields_bytes v sequence index c)) 0 in
    let prefix = number_bytes 8 sequence ++ number_bytes 4 index in
    let long : length prefix ≡ 12 = omega (arith, length-append (number_bytes 8 sequence) (number_bytes 4 index), length-number_bytes 8 sequence, length-number_bytes 4 index) in
    let regrouped : record_bytes v sequence index c ≡ prefix
    ++ (command_bytes v c ++ zeros) = ap (λ t. t ++ zeros) (sym (append_assoc (number_bytes 8 sequence) (number_bytes 4 index) (command_bytes v c)))
    ∙ append_assoc prefix (command_bytes v c) zeros in
    (zeros, ap (λ s. command_at v (drop 12 s)) (e ∙ regrouped) ∙ ap (command_at v) (drop_at prefix (command_bytes v c ++ zeros) 12 long) ∙ command_again v c zeros is)

-- The sequence and the index are read back
place_again : (q i : ℕ) (command zeros : List ℕ) → q < 256 ^ 8 → number_at 8 ((number_bytes 8 q ++ (number_bytes 4 i ++ command)) ++ zeros) ≡ Ok (q, number_bytes 4 i ++ (command ++ zeros))
place_again q i command zeros lt =
    let regrouped : (number_bytes 8 q ++ (number_bytes 4 i ++ command)) ++ zeros ≡ number_bytes 8 q
    ++ (number_bytes 4 i ++ (command ++ zeros)) = append_assoc (number_bytes 8 q) (number_bytes 4 i ++ command) zeros
    ∙ ap (λ t. number_bytes 8 q ++ t) (append_assoc (number_bytes 4 i) command zeros) in
    ap (number_at 8) regrouped ∙ number_again 8 q (number_bytes 4 i ++ (command ++ zeros)) lt

read_same : {X : Type 0} (m n : X) (a b : List ℕ) → done {A = X × List ℕ} (m, a) ≡ done {A = X × List ℕ} (n, b) → (m ≡ n) × (a ≡ b)
read_same {X} m n a b e = let h = ok_is {A = X × List ℕ} (m, a) (n, b) e in (ap (λ (x : X × List ℕ). x.0) h, ap (λ (x : X × List ℕ). x.1) h)

places_differ : (p q i k : ℕ) (c d x y : List ℕ) → p < 256 ^ 8 → q < 256 ^ 8 → i < 256 ^ 4 → k < 256 ^ 4
    → (number_bytes 8 p ++ (number_bytes 4 i ++ c)) ++ x ≡ (number_bytes 8 q ++ (number_bytes 4 k ++ d)) ++ y → (p ≡ q) × (i ≡ k)
places_differ p q i k c d x y lp lq li lk e =
    let first = read_same p q (number_bytes 4 i ++ (c ++ x)) (number_bytes 4 k ++ (d ++ y)) (sym (place_again p i c x lp) ∙ ap (number_at 8) e ∙ place_again q k d y lq) in
    let second = read_same i k (c ++ x) (d ++ y) (sym (number_again 4 i (c ++ x) li) ∙ ap (number_at 4) first.1 ∙ number_again 4 k (d ++ y) lk) in
    (first.0, second.0)

pub records_differ : RecordEncodingIsInjective
records_differ v p q i k c d lp lq li lk rc rd e =
    let a = record_again v (record_bytes v p i c) p i c rc refl in
    let b = record_again v (record_bytes v p i c) q k d rd e in
    let prefixes = places_differ p q i k (command_bytes v c) (command_bytes v d) (replicate (512 - length (fields_bytes v p i c)) 0)
    (replicate (512 - length (fields_bytes v q k d)) 0) (omega (arith, lp)) (omega (arith, lq)) (omega (arith, li)) (omega (arith, lk)) e in
    (prefixes.0, prefixes.1, (read_same c d a.0 b.0 (sym a.1 ∙ b.1)).0)
