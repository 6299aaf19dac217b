-- A line outside the sections, by the key and the value that were read.
use Rattle.std.proofs.Common.{◌≡◌, ℕ, Bool, List, subst}
use Rattle.std.specs.Prelude.{is_some}
use Rattle.instance_read.specs.declared.faults.ReadFaultKind.{ReadFaultKind}
use Rattle.instance_read.specs.declared.vrp_draft.VrpDraft.{VrpDraft}
use Rattle.instance_read.specs.declared.vrp_lines.Key.{Key}
use Rattle.instance_read.specs.declared.vrp_lines.Section.{Section}
use Rattle.instance_read.specs.declared.vrp_lines.Section.TheVariants.{Outside}
use Rattle.instance_read.specs.Drafts.{TakesLine, TakesValue, ReportsKind, has_seen, line_fault, with_key}
use Rattle.instance_read.specs.Rows.{Row}
use Rattle.instance_read.specs.Vrp.{key_fault}
use Rattle.instance_read.specs.VrpLines.{key_from, key_text, value_text, trimmed, key_of, value_of, place_after, place_after_key}
use Rattle.instance_read.specs.TaskFaults.{HasNoKind}

pub same_key : (row : Row) (key : Key) → key ≡ key_from (key_text row.text) (trimmed row.text) → key ≡ key_of row
unfolding key_of
same_key row key is = is

pub same_value : (row : Row) (value : List ℕ) → value ≡ value_text row.text → value ≡ value_of row
unfolding value_of
same_value row value is = is

module _ (old : VrpDraft) (row : Row) (key : Key) (value : List ℕ) (stands : Bool) (key_is : key ≡ key_of row) (value_is : value ≡ value_of row) (before : stands ≡ has_seen old key) where
  pub tells_key : (kind : ReadFaultKind) → ReportsKind (key_fault (is_some old.nodes) stands value key) kind → ReportsKind (line_fault old row Outside) kind
  tells_key kind h =
      let P : Bool → Type 0 = λ b. ReportsKind (key_fault (is_some old.nodes) b value key) kind in
      let Q : List ℕ → Type 0 = λ v. ReportsKind (key_fault (is_some old.nodes) (has_seen old key) v key) kind in
      let R : Key → Type 0 = λ k. ReportsKind (key_fault (is_some old.nodes) (has_seen old k) (value_of row) k) kind in
      subst R key_is (subst Q value_is (subst P before h))

  pub takes_key : (mid new : VrpDraft) (next : Section) → mid ≡ with_key old key → next ≡ place_after_key old.nodes key
      → HasNoKind (key_fault (is_some mid.nodes) stands value key) → TakesValue mid row.line value key new
      → HasNoKind (line_fault old row Outside) × TakesLine old row Outside new × (next ≡ place_after old.nodes row Outside)
  takes_key mid new next marked goes none takes =
      let M : VrpDraft → Type 0 = λ m. HasNoKind (key_fault (is_some m.nodes) stands value key) × TakesValue m row.line value key new in
      let P : Bool → Type 0 = λ b. HasNoKind (key_fault (is_some old.nodes) b value key) × TakesValue (with_key old key) row.line value key new in
      let Q : List ℕ → Type 0 = λ v. HasNoKind (key_fault (is_some old.nodes) (has_seen old key) v key) × TakesValue (with_key old key) row.line v key new in
      let R : Key → Type 0 = λ k.
      HasNoKind (key_fault (is_some old.nodes) (has_seen old k) (value_of row) k) × TakesValue (with_key old k) row.line (value_of row) k new × (next ≡ place_after_key old.nodes k) in
      let both = subst Q value_is (subst P before (subst M marked (none, takes))) in
      subst R key_is (both.0, both.1, goes)
