-- The result of decoding follows from what was read and from the checks of it
use Rattle.std.proofs.Common.{◌≡◌, ◌⊎◌, ℕ, ◌<◌, ◌≤◌, arith, List, [], ◌∷◌, ◌++◌, Option, Some, None, Result, Ok, Err, refl, sym, ap, subst, ◌∙◌, true, inl, inr}
use Rattle.std.specs.List.{list_all}
use Rattle.std.proofs.lemmas.Bool.{and_parts}
use Rattle.plan_types.specs.Instance.{Instance}
use Rattle.plan_types.specs.Laws.{StopsAreBelowNext}
use Rattle.route_sched.specs.Cost.{cost_of}
use Rattle.plan_audit.specs.Alone.{IsFeasibleAlone, IsFaultAlone}
use Rattle.plan_audit.specs.Passes.{feasible_alone, passes}
use Rattle.plan_audit.specs.Verdict.{planned, rule_number}
use Rattle.plan_audit.specs.Locality.{VerdictsAreUnique, PassesDecidesTheVerdict, FeasibleAloneDecidesFeasibility}
use Rattle.plan_audit.specs.declared.rules.Verdict.TheVariants.{Pass, Broken}
use Rattle.command_types.specs.Job.{JobValue, IsJob}
use Rattle.command_types.specs.States.{IsState}
use Rattle.command_types.specs.declared.states.State.{State}
use Rattle.command_types.specs.declared.states.State.TheVariants.{Empty, Loaded}
use Rattle.state_codec.specs.declared.version.Version.{Version}
use Rattle.state_codec.specs.declared.fault.CodecFault.{CodecFault}
use Rattle.state_codec.specs.declared.fault.CodecFault.TheVariants.{Truncated, BadField, PlanRefused, OutOfMemory}
use Rattle.state_codec.specs.Bytes.{state_bytes}
use Rattle.state_codec.specs.Limits.{IsStateOf}
use Rattle.state_codec.specs.Fields.{Fails}
use Rattle.state_codec.specs.Parts.{IsWithin}
use Rattle.state_codec.specs.Reading.{whole_state_at}
use Rattle.state_codec.specs.Laws.{StateEncodingIsInjective, StatesHaveNoFault, FaultsAreOne, IsWholeResult, BadFieldsPersist, ExtraBytesAreBad, PrefixesAreTruncated}
use Rattle.state_codec.specs.DecodeResults.{Decodes, IsDecoded, option_of, IsUnlessOutOfMemory, IsRefused, IsPlanRefused, IsPinRefused, ReportsRule}
use Rattle.state_codec.proofs.FieldLaws.{IsBytes}
use Rattle.state_codec.proofs.RoundTripLaws.{whole_again, empty_again}
use Rattle.state_codec.proofs.JobLaws.{whole_takes}
use Rattle.state_codec.proofs.ExtraByteLaws.{whole_is_plain, whole_stays, whole_and_more, prefix_is_truncated}

pub by_fault : (v : Version) (bytes : List ℕ) (e : CodecFault) → Fails e (whole_state_at v bytes) → IsDecoded v bytes (Err e)
by_fault v bytes Truncated h = h
by_fault v bytes BadField h = h
by_fault v bytes (PlanRefused rule) h = absurd (whole_is_plain v bytes rule h)
by_fault v bytes OutOfMemory h = tt

module _ (v : Version) (bytes : List ℕ) (j : JobValue) (read : whole_state_at v bytes ≡ Ok (Some j)) where
  pub within : IsBytes bytes → IsWithin j
  within fits = let known = (whole_takes v bytes fits (Some j) read).1 in record { fleet = known.fleet; deviation = known.deviation; seed = known.seed; steps = known.steps }

  pub by_job : (k : JobValue) → k ≡ j → IsDecoded v bytes (Ok (Loaded k))
  by_job k same = rw same read

  pub by_rule : (e : CodecFault) → ReportsRule (IsRefused j) e → IsDecoded v bytes (Err e)
  by_rule Truncated h = absurd h
  by_rule BadField h = absurd h
  by_rule (PlanRefused rule) h = (j, read, h)
  by_rule OutOfMemory h = tt

-- The result of decoding in terms of the bytes
pub decodes : (v : Version) (bytes : List ℕ) → IsBytes bytes → (r : Result State CodecFault) → IsDecoded v bytes r → Decodes v bytes r
decodes v bytes fits (Ok Empty) h = whole_takes v bytes fits None h
decodes v bytes fits (Ok (Loaded j)) h = let k = whole_takes v bytes fits (Some j) h in (k.0, k.1.of)
decodes v bytes fits (Err Truncated) h = h
decodes v bytes fits (Err BadField) h = h
decodes v bytes fits (Err (PlanRefused rule)) h = let k = whole_takes v bytes fits (Some h.0) h.1 in (h.0, h.1, k.0, k.1.of, h.2)
decodes v bytes fits (Err OutOfMemory) h = tt

-- ---- two first faults are the same

first_no_later : {A : Type 0} {m n : ℕ} → (m < n) ⊎ ((m ≡ n) × A) → m ≤ n
first_no_later (inl lt) = omega (arith, lt)
first_no_later (inr e) = omega (arith, e.0)

least_same : (m n : ℕ) → m ≤ n → n ≤ m → m ≡ n
least_same m n a b = omega (arith, a, b)

-- ---- a state is determined by what is read

pub same_state : (s t : State) → option_of s ≡ option_of t → s ≡ t
same_state Empty Empty e = refl
same_state Empty (Loaded k) e = absurd cc
same_state (Loaded j) Empty e = absurd cc
same_state (Loaded j) (Loaded k) e = cc

pub reads : StopsAreBelowNext → (v : Version) (bytes : List ℕ) (s : State) → IsState s → IsStateOf v s → bytes ≡ state_bytes v s → whole_state_at v bytes ≡ Ok (option_of s)
reads law v bytes Empty is of e = ap (whole_state_at v) e ∙ empty_again v
reads law v bytes (Loaded j) is of e = ap (whole_state_at v) e ∙ whole_again law v j is of

pub states_differ : StopsAreBelowNext → StateEncodingIsInjective
states_differ law v s t is-s is-t of-s of-t e =
    let both = sym (reads law v (state_bytes v s) s is-s of-s refl) ∙ reads law v (state_bytes v s) t is-t of-t e in
    same_state s t cc

-- ---- longer bytes, and prefixes of bytes

pub bad_stays : BadFieldsPersist
bad_stays v bytes more h = whole_stays v bytes more h

read_whole : StopsAreBelowNext → (v : Version) (bytes : List ℕ) (r : Result State CodecFault) → IsWholeResult r → Decodes v bytes r → (o : Option JobValue) × (whole_state_at v bytes ≡ Ok o)
read_whole law v bytes (Ok s) is h = (option_of s, reads law v bytes s is h.1 h.0)
read_whole law v bytes (Err (PlanRefused rule)) is h = (Some h.0, h.1)
read_whole law v bytes (Err Truncated) is h = absurd is
read_whole law v bytes (Err BadField) is h = absurd is
read_whole law v bytes (Err OutOfMemory) is h = absurd is

pub extra_byte_is_bad : StopsAreBelowNext → ExtraBytesAreBad
extra_byte_is_bad law v bytes b more r is h = let w = read_whole law v bytes r is h in whole_and_more v bytes b more w.0 w.1

pub prefixes_are_truncated : StopsAreBelowNext → PrefixesAreTruncated
prefixes_are_truncated law v prefix b rest r is h = let w = read_whole law v (prefix ++ b ∷ rest) r is h in prefix_is_truncated v prefix b rest w.0 w.1

-- ---- a state that satisfies its invariants is not refused

module _ (unique : VerdictsAreUnique) (pass : PassesDecidesTheVerdict) (feasible : FeasibleAloneDecidesFeasibility) where
  plan_kept : (p : Instance) (pins routes : List (List ℕ)) (rule : ℕ) → passes p pins routes ≡ true → IsPlanRefused p pins routes rule → ⊥
  plan_kept p pins routes rule h r =
      let same = unique p (planned routes pins) (Pass (cost_of p routes)) (Broken rule r.0 r.1 r.2) ((pass p pins routes).0 h) r.3 in
      absurd cc

  fault_kept : (p : Instance) (pin : List ℕ) (rule : ℕ) → IsFeasibleAlone p pin → IsFaultAlone p pin rule → ⊥
  fault_kept p pin rule kept f =
      let least = f.2.3 in
      kept f.0 f.2.0 f.2.1 f.2.2 least.from least.to least.broken

  pins_kept : (p : Instance) (pins : List (List ℕ)) (rule : ℕ) → list_all (feasible_alone p) pins ≡ true → IsPinRefused p pins rule → ⊥
  pins_kept p [] rule h r = absurd r
  pins_kept p (pin ∷ pins) rule h (inl f) =
      let q = and_parts (feasible_alone p pin) (list_all (feasible_alone p) pins) h in
      fault_kept p pin rule ((feasible p pin).0 q.0) f
  pins_kept p (pin ∷ pins) rule h (inr g) =
      let q = and_parts (feasible_alone p pin) (list_all (feasible_alone p) pins) h in
      pins_kept p pins rule q.1 g.1

  not_refused : (j : JobValue) (rule : ℕ) → IsJob j → IsRefused j rule → ⊥
  not_refused j rule is (inl f) = plan_kept j.problem j.pins j.plan rule is.plan f
  not_refused j rule is (inr (inl f)) = pins_kept j.problem j.pins rule is.pins f.1
  not_refused j rule is (inr (inr f)) = plan_kept j.problem j.pins j.work rule is.work f.2

  some_job : (s : State) (j : JobValue) (rule : ℕ) → IsState s → option_of s ≡ Some j → IsRefused j rule → ⊥
  some_job Empty j rule is e r = absurd cc
  some_job (Loaded k) j rule is e r = let same : k ≡ j = cc in not_refused j rule (subst IsJob same is) r

  module _ (law : StopsAreBelowNext) (v : Version) (bytes : List ℕ) where
    pub only_this : (r : Result State CodecFault) → IsDecoded v bytes r → (s : State) → IsState s → IsStateOf v s → bytes ≡ state_bytes v s → IsUnlessOutOfMemory s r
    only_this (Ok t) h s is of e = let both = sym h ∙ reads law v bytes s is of e in same_state t s cc
    only_this (Err Truncated) h s is of e = let both = sym h ∙ reads law v bytes s is of e in absurd cc
    only_this (Err BadField) h s is of e = let both = sym h ∙ reads law v bytes s is of e in absurd cc
    only_this (Err (PlanRefused rule)) h s is of e = let both = sym (reads law v bytes s is of e) ∙ h.1 in let is-job : option_of s ≡ Some h.0 = cc in absurd (some_job s h.0 rule is is-job h.2)
    only_this (Err OutOfMemory) h s is of e = refl

  -- A result in terms of the bytes determines the result in terms of what was read
  is_decoded : (v : Version) (bytes : List ℕ) (f : CodecFault) → Decodes v bytes (Err f) → IsDecoded v bytes (Err f)
  is_decoded v bytes Truncated h = h
  is_decoded v bytes BadField h = h
  is_decoded v bytes (PlanRefused rule) h = (h.0, h.1, h.4)
  is_decoded v bytes OutOfMemory h = tt

  pub no_fault : StopsAreBelowNext → StatesHaveNoFault
  no_fault law v s fault is of h = only_this law v (state_bytes v s) (Err fault) (is_decoded v (state_bytes v s) fault h) s is of refl

  -- ---- at most one rule is reported

  one_plan : (p : Instance) (pins routes : List (List ℕ)) (a b : ℕ) → IsPlanRefused p pins routes a → IsPlanRefused p pins routes b → a ≡ b
  one_plan p pins routes a b x y =
      let same = unique p (planned routes pins) (Broken a x.0 x.1 x.2) (Broken b y.0 y.1 y.2) x.3 y.3 in
      cc

  one_alone : (p : Instance) (pin : List ℕ) (a b : ℕ) → IsFaultAlone p pin a → IsFaultAlone p pin b → a ≡ b
  one_alone p pin a b x y =
      let m = x.2.3 in
      let n = y.2.3 in
      x.1 ∙ least_same (rule_number x.0) (rule_number y.0) (first_no_later (m.least y.0 y.2.0 y.2.1 y.2.2 n.from n.to n.broken))
      (first_no_later (n.least x.0 x.2.0 x.2.1 x.2.2 m.from m.to m.broken)) ∙ sym y.1

  one_pin : (p : Instance) (pins : List (List ℕ)) (a b : ℕ) → IsPinRefused p pins a → IsPinRefused p pins b → a ≡ b
  one_pin p [] a b x y = absurd x
  one_pin p (pin ∷ pins) a b (inl x) (inl y) = one_alone p pin a b x y
  one_pin p (pin ∷ pins) a b (inl x) (inr y) = absurd (fault_kept p pin a y.0 x)
  one_pin p (pin ∷ pins) a b (inr x) (inl y) = absurd (fault_kept p pin b x.0 y)
  one_pin p (pin ∷ pins) a b (inr x) (inr y) = one_pin p pins a b x.1 y.1

  one_rule : (j : JobValue) (a b : ℕ) → IsRefused j a → IsRefused j b → a ≡ b
  one_rule j a b (inl x) (inl y) = one_plan j.problem j.pins j.plan a b x y
  one_rule j a b (inl x) (inr (inl y)) = absurd (plan_kept j.problem j.pins j.plan a y.0 x)
  one_rule j a b (inl x) (inr (inr y)) = absurd (plan_kept j.problem j.pins j.plan a y.0 x)
  one_rule j a b (inr (inl x)) (inl y) = absurd (plan_kept j.problem j.pins j.plan b x.0 y)
  one_rule j a b (inr (inl x)) (inr (inl y)) = one_pin j.problem j.pins a b x.1 y.1
  one_rule j a b (inr (inl x)) (inr (inr y)) = absurd (pins_kept j.problem j.pins a y.1 x.1)
  one_rule j a b (inr (inr x)) (inl y) = absurd (plan_kept j.problem j.pins j.plan b x.0 y)
  one_rule j a b (inr (inr x)) (inr (inl y)) = absurd (pins_kept j.problem j.pins b x.1 y.1)
  one_rule j a b (inr (inr x)) (inr (inr y)) = one_plan j.problem j.pins j.work a b x.2 y.2

  pub one_fault : FaultsAreOne
  one_fault v bytes Truncated Truncated le lf h g = refl
  one_fault v bytes Truncated BadField le lf h g = let both = sym h ∙ g in absurd cc
  one_fault v bytes Truncated (PlanRefused b) le lf h g = let both = sym h ∙ g.1 in absurd cc
  one_fault v bytes BadField Truncated le lf h g = let both = sym h ∙ g in absurd cc
  one_fault v bytes BadField BadField le lf h g = refl
  one_fault v bytes BadField (PlanRefused b) le lf h g = let both = sym h ∙ g.1 in absurd cc
  one_fault v bytes (PlanRefused a) Truncated le lf h g = let both = sym h.1 ∙ g in absurd cc
  one_fault v bytes (PlanRefused a) BadField le lf h g = let both = sym h.1 ∙ g in absurd cc
  one_fault v bytes (PlanRefused a) (PlanRefused b) le lf h g =
      let both = sym h.1 ∙ g.1 in
      let same : h.0 ≡ g.0 = cc in
      ap (λ r. PlanRefused r) (one_rule g.0 a b (subst (λ j. IsRefused j a) same h.4) g.4)
  one_fault v bytes OutOfMemory f le lf h g = absurd (le refl)
  one_fault v bytes e OutOfMemory le lf h g = absurd (lf refl)
