-- A loop that reads one item after the other has the result of reading n items
use Rattle.std.proofs.Common.{◌≡◌, ℕ, suc, ◌-◌, ◌+◌, ◌≤◌, ◌<◌, List, Result, Ok, Err, refl, sym, ap, ◌∙◌, arith}
use Rattle.state_codec.specs.declared.fault.CodecFault.{CodecFault}
use Rattle.state_codec.specs.declared.fault.CodecFault.TheVariants.{Truncated, BadField, PlanRefused, OutOfMemory}
use Rattle.state_codec.specs.Fields.{◌>>=◌, Field, Fails}
use Rattle.state_codec.specs.Reading.{times}

-- If reading fails with this fault, so does the function
pub fails : {Y : Type 0} (e : CodecFault) (read : Result Y CodecFault) → read ≡ Err e → Fails e read
fails Truncated read h = h
fails BadField read h = h
fails (PlanRefused rule) read h = h
fails OutOfMemory read h = tt

pub fails_on : {X Y : Type 0} (e : CodecFault) (read : Result X CodecFault) (f : X → Result Y CodecFault) → Fails e read → Fails e (read >>= f)
fails_on Truncated read f h = rw h refl
fails_on BadField read f h = rw h refl
fails_on (PlanRefused rule) read f h = rw h refl
fails_on OutOfMemory read f h = tt

module _ {A : Type 0} (more : A → List ℕ → Field A) (count i : ℕ) (before : A) (bytes : List ℕ) (total : Field A) (so_far : times more (count - i) before bytes ≡ total) where
  pub goes_on : i < count → (b : A) (after : List ℕ) → more before bytes ≡ Ok (b, after) → times more (count - (i + 1)) b after ≡ total
  unfolding times
  goes_on lt b after h =
      let k : count - i ≡ suc (count - (i + 1)) = omega arith in
      let one : times more (count - i) before bytes ≡ times more (count - (i + 1)) b after = rw (k, h) refl in
      sym one ∙ so_far

  pub ends : i < count → (e : CodecFault) → Fails e (more before bytes) → Fails e total
  unfolding times
  ends lt e h =
      let k : count - i ≡ suc (count - (i + 1)) = omega arith in
      let one : (more before bytes >>= λ x. times more (count - (i + 1)) x.0 x.1) ≡ total = sym (ap (λ n. times more n before bytes) k) ∙ so_far in
      rw (← one) (fails_on e (more before bytes) (λ x. times more (count - (i + 1)) x.0 x.1) h)

  pub is_done : count ≤ i → total ≡ Ok (before, bytes)
  unfolding times
  is_done le =
      let k : count - i ≡ 0 = omega arith in
      sym (sym (ap (λ n. times more n before bytes) k) ∙ so_far)
