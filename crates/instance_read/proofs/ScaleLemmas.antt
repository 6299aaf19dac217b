-- Numbers within the limits that a scale leaves keep the limits of a problem when they are multiplied.
use Rattle.std.proofs.Common.{◌≡◌, ℕ, suc, ◌*◌, ◌<◌, ◌≤◌, ◌^◌, Bool, false, true, cond, List, [], ◌∷◌, map, Option, Some, None, refl, sym, ap, subst, ◌∙◌, arith, ℤ, pos, negsuc, w32}
use Rattle.std.specs.Prelude.{find, int_lt, ◌≤ℤ◌, ◌*ℤ◌, ◌==◌, if◌then◌else◌, FitsSigned}
use Rattle.std.specs.Int.RustNames.{unsigned_abs}
use Rattle.std.specs.List.{AllByRecursion}
use Rattle.std.specs.Option.{option_map, option_map_or}
use Rattle.std.proofs.lemmas.Bool.{or_parts, ltb-false, false≢true}
use Rattle.std.proofs.lemmas.Int.{ints}
use Rattle.plan_types.specs.Limits.{IsCoordinate}
use Rattle.instance_read.specs.declared.scales.Scale.{Scale}
use Rattle.instance_read.specs.declared.scales.Scale.TheVariants.{One, Ten, Hundred, Thousand}
use Rattle.instance_read.specs.declared.tasks.Task.{Task}
use Rattle.instance_read.specs.Drafts.{IsPoint}
use Rattle.instance_read.specs.Fields.{is_beyond}
use Rattle.instance_read.specs.Pairs.{find_task, is_mismatched, is_wrong_delivery, is_wrong_pickup, scaled_task, task_in, task_of}
use Rattle.instance_read.specs.Rows.{Row}
use Rattle.instance_read.specs.Scales.{coordinate_range, times, times_ℤ, unscaled_limit}
use Rattle.instance_read.specs.Tables.{ArePaired}

pub within_from : (least most z : ℤ) → is_beyond (least, most) z ≡ false → (least ≤ℤ z) × (z ≤ℤ most)
within_from least most z e =
    let parts = or_parts (int_lt z least) (int_lt most z) e in
    let low = parts.0 in
    let high = parts.1 in
    (grind (arith, ints, low), grind (arith, ints, high))

-- a number in 0..most has an absolute value of at most `most`
pub magnitude_le : (most : ℕ) (z : ℤ) → is_beyond (pos 0, pos most) z ≡ false → unsigned_abs z ≤ most
magnitude_le most (pos n) e = ltb-false most n (or_parts (int_lt (pos n) (pos 0)) (int_lt (pos most) (pos n)) e).1
magnitude_le most (negsuc n) e = absurd (false≢true (sym e))

pub times_le : (scale : Scale) (most n : ℕ) → n ≤ unscaled_limit scale most → times scale n ≤ most
times_le One most n l = l
times_le Ten most n l = omega arith
times_le Hundred most n l = omega arith
times_le Thousand most n l = omega arith

pub times_ordered : (scale : Scale) (m n : ℕ) → m ≤ n → times scale m ≤ times scale n
times_ordered One m n l = l
times_ordered Ten m n l = omega arith
times_ordered Hundred m n l = omega arith
times_ordered Thousand m n l = omega arith

-- a number of 0 or more within the limits, times the scale
pub times_within : (scale : Scale) (most : ℕ) (z : ℤ) → is_beyond (pos 0, pos (unscaled_limit scale most)) z ≡ false → times scale (unsigned_abs z) ≤ most
times_within scale most z e = times_le scale most (unsigned_abs z) (magnitude_le (unscaled_limit scale most) z e)

pub coordinate_within : (scale : Scale) (z : ℤ) → is_beyond (coordinate_range scale) z ≡ false → IsCoordinate (times_ℤ scale z)
coordinate_within One z e = within_from (negsuc 999999) (pos 1000000) z e
coordinate_within Ten z e = let p = within_from (negsuc 99999) (pos 100000) z e in (omega (arith, ints, p.0, p.1), omega (arith, ints, p.0, p.1))
coordinate_within Hundred z e = let p = within_from (negsuc 9999) (pos 10000) z e in (omega (arith, ints, p.0, p.1), omega (arith, ints, p.0, p.1))
coordinate_within Thousand z e = let p = within_from (negsuc 999) (pos 1000) z e in (omega (arith, ints, p.0, p.1), omega (arith, ints, p.0, p.1))

pub coordinate_fits : (z : ℤ) → IsCoordinate z → FitsSigned w32 z
coordinate_fits (pos n) h = let small : n ≤ 1000000 = grind (arith, ints, h.1) in record { sfits = omega (arith, small) }
coordinate_fits (negsuc n) h = let small : n ≤ 999999 = grind (arith, ints, h.0) in record { sfits = omega (arith, small) }

pub origin_within : (scale : Scale) → IsPoint scale (pos 0, pos 0)
origin_within One = ((grind (arith, ints), grind (arith, ints)), (grind (arith, ints), grind (arith, ints)))
origin_within Ten = ((grind (arith, ints), grind (arith, ints)), (grind (arith, ints), grind (arith, ints)))
origin_within Hundred = ((grind (arith, ints), grind (arith, ints)), (grind (arith, ints), grind (arith, ints)))
origin_within Thousand = ((grind (arith, ints), grind (arith, ints)), (grind (arith, ints), grind (arith, ints)))

-- tasks in the unit of the text, and times the scale
module _ (scale : Scale) where
  abbrev scaled : Task → Task
  scaled = scaled_task scale

  cond_scaled : (b : Bool) (t : Task) (o : Option Task) → cond b (Some (scaled t)) (option_map scaled o) ≡ option_map scaled (cond b (Some t) o)
  cond_scaled true t o = refl
  cond_scaled false t o = refl

  pub find_scaled : (test its : Task → Bool) → ((t : Task) → its (scaled t) ≡ test t) → (ts : List Task) → find its (map scaled ts) ≡ option_map scaled (find test ts)
  find_scaled test its same [] = refl
  find_scaled test its same (t ∷ ts) =
      ap (λ b. cond b (Some (scaled t)) (find its (map scaled ts))) (same t) ∙ ap (λ o. cond (test t) (Some (scaled t)) o) (find_scaled test its same ts)
      ∙ cond_scaled (test t) t (find test ts)

  wrong_delivery : (t : Task) (o : Option Task) → option_map_or (is_wrong_delivery (scaled t)) (option_map scaled o) true ≡ option_map_or (is_wrong_delivery t) o true
  wrong_delivery t None = refl
  wrong_delivery t (Some d) = refl

  wrong_pickup : (t : Task) (o : Option Task) → option_map_or (is_wrong_pickup (scaled t)) (option_map scaled o) true ≡ option_map_or (is_wrong_pickup t) o true
  wrong_pickup t None = refl
  wrong_pickup t (Some p) = refl

  -- the scale does not change which tasks form pairs
  pub same_mismatch : (tasks : List Task) (t : Task) → is_mismatched (map scaled tasks) (scaled t) ≡ is_mismatched tasks t
  same_mismatch tasks t =
      let named = λ (n : ℕ). find_scaled (λ (u : Task). u.stop.number == n) (λ u. u.stop.number == n) (λ u. refl) tasks in
      let delivery = ap (λ o. option_map_or (is_wrong_delivery (scaled t)) o true) (named t.delivery) ∙ wrong_delivery t (find_task t.delivery tasks) in
      let pickup = ap (λ o. option_map_or (is_wrong_pickup (scaled t)) o true) (named t.pickup) ∙ wrong_pickup t (find_task t.pickup tasks) in
      λ i. if t.pickup == 0 then (if t.delivery == 0 then true else delivery i) else (if t.delivery == 0 then pickup i else true)

  paired_among : (all ts : List Task) → AllByRecursion (λ t. is_mismatched (map scaled all) t ≡ false) (map scaled ts) → AllByRecursion (λ t. is_mismatched all t ≡ false) ts
  paired_among all [] h = tt
  paired_among all (t ∷ ts) h = (sym (same_mismatch all t) ∙ h.0, paired_among all ts h.1)

  found_by : (t : Task) (o : Option Task) → option_map scaled o ≡ Some t → (u : Task) × (o ≡ Some u) × (t.line ≡ u.line)
  found_by t None e = absurd (cc)
  found_by t (Some u) e = let same : scaled u ≡ t = cc in (u, refl, sym (ap (λ (x : Task). x.line) same))

  tasks_in : (rows : List Row) → map (task_in scale) rows ≡ map scaled (map task_of rows)
  tasks_in [] = refl
  tasks_in (row ∷ rows) = ap (λ ts. task_in scale row ∷ ts) (tasks_in rows)

  pub paired_unscaled : (rows : List Row) → ArePaired (map (task_in scale) rows) → ArePaired (map task_of rows)
  paired_unscaled rows h = paired_among (map task_of rows) (map task_of rows) (subst ArePaired (tasks_in rows) h)

  pub mismatch_unscaled : (rows : List Row) (t : Task) → find (is_mismatched (map (task_in scale) rows)) (map (task_in scale) rows) ≡ Some t
      → (u : Task) × (find (is_mismatched (map task_of rows)) (map task_of rows) ≡ Some u) × (t.line ≡ u.line)
  mismatch_unscaled rows t e =
      let tasks = map task_of rows in
      let found = ap (λ ts. find (is_mismatched ts) ts) (tasks_in rows) in
      found_by t (find (is_mismatched tasks) tasks)
      (sym (find_scaled (is_mismatched tasks) (is_mismatched (map scaled tasks)) (same_mismatch tasks) tasks) ∙ sym found ∙ e)
