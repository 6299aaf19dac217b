-- The faults of a node's line, if the node is known to be taken or free.
use Rattle.std.proofs.Common.{◌≡◌, ℕ, zero, suc, ◌-◌, ◌≤◌, Bool, true, false, ◌⊎◌, inl, inr, ⊎_elim, List, Option, Some, None, set, Result, Ok, Err, refl, sym}
use Rattle.std.proofs.Common.{ap, subst, ◌∙◌, arith, ℤ, pos, negsuc, to_z, of_z, to_z-of_z, w32}
use Rattle.std.specs.Prelude.{All, IfSome, MatchResult, is_some, slice_index_or, unwrap_or}
use Rattle.std.specs.Int.RustNames.{unsigned_abs}
use Rattle.std.proofs.lemmas.Bool.{false≢true}
use Rattle.std.proofs.lemmas.Int.{ints}
use Rattle.std.proofs.lemmas.List.Elements.{All-set}
use Rattle.text_lines.specs.Words.{words_of}
use Rattle.plan_types.specs.Limits.{IsDemand}
use Rattle.instance_read.specs.declared.faults.ReadFaultKind.{ReadFaultKind}
use Rattle.instance_read.specs.declared.faults.ReadFaultKind.TheVariants.{BadNumber, Range, FieldCount, NodeRepeated}
use Rattle.instance_read.specs.declared.vrp_draft.VrpDraft.{VrpDraft}
use Rattle.instance_read.specs.declared.vrp_lines.Section.TheVariants.{CoordinateLine, DemandLine}
use Rattle.instance_read.specs.Drafts.{IsDraft, IsPoint, TakesLine, is_taken, node_index, unnumbered}
use Rattle.instance_read.specs.Faults.{rank}
use Rattle.instance_read.specs.Fields.{field, passes_test, value_at}
use Rattle.instance_read.specs.Vrp.{node_fault}
use Rattle.instance_read.specs.TaskFaults.{HasNoKind, IsFirstKind}

module _ (count : ℕ) (given limits : List (ℤ × ℤ)) (same : given ≡ limits) (words : List (List ℕ)) (read : HasNoKind (node_fault count given (λ _. false) words)) (taken : ℤ → Bool) where
  none : HasNoKind (node_fault count limits (λ _. false) words)
  none = let P : List (ℤ × ℤ) → Type 0 = λ l. HasNoKind (node_fault count l (λ _. false) words) in subst P same read

  -- the only possible fault of the line is that its node is taken
  no_other : (k : ReadFaultKind) → (node_fault count limits taken words k ≡ false) ⊎ (k ≡ NodeRepeated)
  no_other FieldCount = inl (none FieldCount)
  no_other BadNumber = inl (none BadNumber)
  no_other Range = inl (none Range)
  no_other NodeRepeated = inr refl
  no_other _ = inl refl

  pub node_none : passes_test taken (field words 0) ≡ false → HasNoKind (node_fault count limits taken words)
  node_none free k = ⊎_elim (λ no. no) (λ is. ap (node_fault count limits taken words) is ∙ free) (no_other k)

  no_lesser : (k : ReadFaultKind) → node_fault count limits taken words k ≡ true → rank NodeRepeated ≤ rank k
  no_lesser k e = ⊎_elim (λ no. absurd (false≢true (sym no ∙ e))) (λ is. omega (arith, ap rank is)) (no_other k)

  pub node_repeated : passes_test taken (field words 0) ≡ true → IsFirstKind (node_fault count limits taken words) NodeRepeated
  node_repeated h = (h, no_lesser)

-- the entry of the node that a line names
module _ {T : Type 0} (table : List (Option T)) (words : List (List ℕ)) where
  taken_at : (node : ℕ) (number : Option ℤ) → 1 ≤ node → number ≡ Some (pos node) → passes_test (is_taken table) number ≡ is_some (slice_index_or table (node - 1) None)
  taken_at zero number one at = absurd (omega arith)
  taken_at (suc n) number one at =
      let same : suc n - 1 ≡ n = omega arith in
      ap (passes_test (is_taken table)) at ∙ sym (ap (λ k. is_some (slice_index_or table k None)) same)

  pub taken_is : (node : ℕ) → 1 ≤ node → field words 0 ≡ Some (pos node) → passes_test (is_taken table) (field words 0) ≡ is_some (slice_index_or table (node - 1) None)
  taken_is node one at = taken_at node (field words 0) one at

pub index_is : (words : List (List ℕ)) (node : ℕ) → field words 0 ≡ Some (pos node) → node_index words ≡ node - 1
index_is words node at = ap (λ (o : Option ℤ). unsigned_abs (unwrap_or o (pos 0)) - 1) at

-- a table of nodes after the line of a node; `given` equals `limits`
module _ {T : Type 0} (count : ℕ) (given limits : List (ℤ × ℤ)) (same : given ≡ limits) (words : List (List ℕ))
    (read : HasNoKind (node_fault count given (λ _. false) words)) (node : ℕ) (one : 1 ≤ node) (at : field words 0 ≡ Some (pos node)) (items table new : List (Option T))
    (is : table ≡ items) (value : T) where
  abbrev pub IsPut : {X : Type 0} → Result X ReadFaultKind → Type 0
  IsPut result =
      let entry = slice_index_or table (node - 1) None in
      MatchResult result (λ _. (is_some entry ≡ false) × (new ≡ set table (node - 1) (Some value))) (λ kind. (is_some entry ≡ true) × (kind ≡ NodeRepeated))

  taken : (b : Bool) → is_some (slice_index_or table (node - 1) None) ≡ b → passes_test (is_taken items) (field words 0) ≡ b
  taken b e = taken_is items words node one at ∙ ap (λ t. is_some (slice_index_or t (node - 1) None)) (sym is) ∙ e

  -- the new table has the node's value, or an earlier line named the node
  pub put_is : {X P Q : Type 0} (result : Result X ReadFaultKind) → IsPut result → (new ≡ set items (node_index words) (Some value) → P × Q)
      → MatchResult result (λ _. HasNoKind (node_fault count limits (is_taken items) words) × P × Q) (IsFirstKind (node_fault count limits (is_taken items) words))
  put_is (Ok x) h follows =
      let both = follows (h.1 ∙ ap (λ k. set table k (Some value)) (sym (index_is words node at)) ∙ ap (λ t. set t (node_index words) (Some value)) is) in
      (node_none count given limits same words read (is_taken items) (taken false h.0), both.0, both.1)
  put_is (Err kind) h follows = subst (IsFirstKind (node_fault count limits (is_taken items) words)) (sym h.1) (node_repeated count given limits same words read (is_taken items) (taken true h.0))

-- a demand is the same after a conversion to 32 bits and back
pub demand_kept : (z : ℤ) → IsDemand z → to_z w32 (of_z w32 z) ≡ z
demand_kept (pos n) h =
    let small : n ≤ 1000000 = grind (arith, ints, h.1) in
    to_z-of_z {w = w32} {z = pos n} (record { sfits = omega (arith, small) })
demand_kept (negsuc n) h = absurd (grind (arith, ints, h.0))

-- facts about the draft with the new table
module _ (old new : VrpDraft) (text : List ℕ) (valid : IsDraft old) where
  pub takes_point : (point : ℤ × ℤ) → IsPoint old.scale point → point ≡ (value_at (words_of text) 1, value_at (words_of text) 2) → new ≡ record old { coordinates = new.coordinates }
      → new.coordinates.items ≡ set old.coordinates.items (node_index (words_of text)) (Some point) → TakesLine old (unnumbered text) (CoordinateLine 0) new × IsDraft new
  takes_point point within is other put =
      let AreWithin = All (λ entry. IfSome entry (IsPoint old.scale)) in
      let all : AreWithin new.coordinates.items = subst AreWithin (sym put)
      (All-set (λ entry. IfSome entry (IsPoint old.scale)) old.coordinates.items (node_index (words_of text)) (Some point) within valid.coordinates) in (
        (other, put ∙ ap (λ p. set old.coordinates.items (node_index (words_of text)) (Some p)) is),
        subst IsDraft (sym other) (record { keys = valid.keys; nodes = valid.nodes; capacity = valid.capacity; coordinates = all; demands = valid.demands }),
      )

  pub takes_demand : (demand : ℤ) → IsDemand demand → demand ≡ value_at (words_of text) 1 → new ≡ record old { demands = new.demands }
      → new.demands.items ≡ set old.demands.items (node_index (words_of text)) (Some (to_z w32 (of_z w32 demand))) → TakesLine old (unnumbered text) (DemandLine 0) new × IsDraft new
  takes_demand demand within is other put =
      let set_to : ℤ → List (Option ℤ) = λ d. set old.demands.items (node_index (words_of text)) (Some d) in
      let kept = put ∙ ap set_to (demand_kept demand within) in
      let AreWithin = All (λ entry. IfSome entry IsDemand) in
      let all : AreWithin new.demands.items = subst AreWithin (sym kept)
      (All-set (λ entry. IfSome entry IsDemand) old.demands.items (node_index (words_of text)) (Some demand) within valid.demands) in (
        (other, kept ∙ ap set_to is),
        subst IsDraft (sym other) (record { keys = valid.keys; nodes = valid.nodes; capacity = valid.capacity; coordinates = valid.coordinates; demands = all }),
      )
