-- A sector is the record of some command, or of none
use Rattle.std.proofs.Common.{◌≡◌, ◌≢◌, ◌⊎◌, ℕ, ◌<◌, ◌≤◌, ◌^◌, Bool, true, false, List, [], ◌∷◌, drop, Ok, Err, refl, sym, ap, subst, ◌∙◌, arith, inl, inr}
use Rattle.std.specs.Prelude.{◌&&◌}
use Rattle.std.proofs.lemmas.Bool.{cases_lt}
use Rattle.std.proofs.lemmas.Bool.Decides.{eqb_tells}
use Rattle.plan_types.specs.declared.limits.TheConstants.{MAX_DEVIATION}
use Rattle.command_types.specs.AddedRequests.{is_spot, is_demand}
use Rattle.command_types.specs.declared.commands.Command.{Command}
use Rattle.command_types.specs.declared.commands.Command.TheVariants.{Add, Add1, Withdraw, Pin, Unpin, Build, Search, Deviation}
use Rattle.state_codec.specs.declared.version.Version.{Version}
use Rattle.state_codec.specs.declared.version.Version.TheVariants.{One, Two}
use Rattle.state_codec.specs.Bytes.{record_bytes, width}
use Rattle.state_codec.specs.Fields.{Field}
use Rattle.state_codec.specs.Laws.{RecordsAreDecided}
use Rattle.state_codec.specs.Limits.{IsDeviationOf, IsRecorded}
use Rattle.state_codec.specs.Records.{command_at}
use Rattle.state_codec.proofs.FieldLaws.{ok_is}
use Rattle.state_codec.proofs.RecordLaws.{record_again}

-- A property is decided: it holds, or it does not
abbrev pub Settled : Type 0 → Type 0
Settled P = P ⊎ (P → ⊥)

pub by_test : {P : Type 0} (b : Bool) → (b ≡ true → P) → (P → b ≡ true) → Settled P
by_test true f g = inl (f refl)
by_test false f g = inr (λ p. let e = g p in absurd cc)

pub settled_both : {P Q : Type 0} → Settled P → Settled Q → Settled (P × Q)
settled_both (inl p) (inl q) = inl (p, q)
settled_both (inl p) (inr q) = inr (λ h. q h.1)
settled_both (inr p) q = inr (λ h. p h.0)

at_most : (a b : ℕ) → Settled (a ≤ b)
at_most a b = elim (cases_lt b a) [
  | inl lt ↦ inr (λ h. omega (arith, lt, h))
  | inr le ↦ inl le
]

below : (a b : ℕ) → Settled (a < b)
below a b = elim (cases_lt a b) [
  | inl lt ↦ inl lt
  | inr le ↦ inr (λ h. omega (arith, le, h))
]

holds : (b : Bool) → Settled (b ≡ true)
holds b = by_test b (λ h. h) (λ h. h)

deviation : (v : Version) (d : ℕ) → Settled (IsDeviationOf v d)
deviation One d = inr (λ h. h)
deviation Two d = at_most d MAX_DEVIATION

recorded : (v : Version) (c : Command) → Settled (IsRecorded v c)
recorded v (Add demand pickup delivery) = holds (is_demand demand && (is_spot pickup && is_spot delivery))
recorded v (Add1 demand spot) = holds (is_demand demand && is_spot spot)
recorded v (Withdraw name) = below name (256 ^ width v)
recorded v (Pin vehicle k) = settled_both (below vehicle (256 ^ width v)) (below k (256 ^ width v))
recorded v (Unpin vehicle) = below vehicle (256 ^ width v)
recorded v Build = inl tt
recorded v (Search count) = settled_both (at_most 1 count) (at_most count 256)
recorded v (Deviation d) = deviation v d
recorded v c = inr (λ h. h)

same_numbers : (xs ys : List ℕ) → Settled (xs ≡ ys)
same_numbers [] [] = inl refl
same_numbers [] (y ∷ ys) = inr (λ e. absurd cc)
same_numbers (x ∷ xs) [] = inr (λ e. absurd cc)
same_numbers (x ∷ xs) (y ∷ ys) = elim (settled_both (number x y) (same_numbers xs ys)) [
  | inl p ↦ (let first : x ≡ y = p.0 in let others : xs ≡ ys = p.1 in inl cc)
  | inr n ↦ inr (λ e. n (cc, cc))
]
  where
    number : (a b : ℕ) → Settled (a ≡ b)
    number a b = elim (eqb_tells a b) [
      | inl t ↦ inl t.1
      | inr t ↦ inr t.1
    ]

pub records_decided : RecordsAreDecided
records_decided v sector sequence index = by_read (command_at v (drop 12 sector)) refl
  where
    only : (x : Command × List ℕ) → command_at v (drop 12 sector) ≡ Ok x → (c : Command) → IsRecorded v c → sector ≡ record_bytes v sequence index c → c ≡ x.0
    only x e c is h = let a = record_again v sector sequence index c is h in ap (λ (y : Command × List ℕ). y.0) (ok_is {A = Command × List ℕ} (c, a.0) x (sym a.1 ∙ e))

    by_read : (r : Field Command) → command_at v (drop 12 sector) ≡ r
        → ((c : Command) × IsRecorded v c × (sector ≡ record_bytes v sequence index c))
        ⊎ ((c : Command) → IsRecorded v c → sector ≢ record_bytes v sequence index c)
    by_read (Err f) e = inr (λ c is h. let a = record_again v sector sequence index c is h in let both = sym e ∙ a.1 in absurd cc)
    by_read (Ok x) e = elim (settled_both (recorded v x.0) (same_numbers sector (record_bytes v sequence index x.0))) [
      | inl p ↦ inl (x.0, p.0, p.1)
      | inr n ↦ inr (λ c is h. let same = only x e c is h in n (subst (IsRecorded v) same is, h ∙ ap (record_bytes v sequence index) same))
    ]
