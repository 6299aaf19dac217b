-- The steps of the loops of a crash.
use Rattle.std.proofs.Common.{
  ◌≡◌,
  ℕ,
  zero,
  suc,
  ◌+◌,
  ◌-◌,
  ◌<◌,
  ◌≤◌,
  true,
  false,
  List,
  [],
  ◌∷◌,
  ◌++◌,
  length,
  map,
  take,
  drop,
  get_or,
  refl,
  sym,
  ◌∙◌,
  ap,
  arith,
  length-append,
  Option,
  Some,
  None,
  IsTrue,
  ◌&&◌,
  Vec,
  length-take-le,
}
use Rattle.std.specs.Prelude.{is_some, slice_get}
use Rattle.std.specs.Option.{option_to_list, option_copied}
use Rattle.std.specs.Borrow.{Bor}
use Rattle.std.specs.declared.alloc.Global.{Global}
use Rattle.std.proofs.lemmas.List.{map-append}
use Rattle.std.specs.List.{flat_map, filter_map, list_all, cons_option}
use Rattle.std.proofs.lemmas.List.{map_more, drop_more, take_more, drop-append-le}
use Rattle.std.proofs.lemmas.List.Elements.{filter_map-append}
use Rattle.std.proofs.lemmas.List.Folds.{list_all-append}
use Rattle.std.proofs.lemmas.Bool.{and_from, false≢true}
use Rattle.sector_disk.specs.Model.{Disk, settled, run}
use Rattle.sector_disk.specs.ModelLaws.{run-append}
use Rattle.sector_disk.specs.Memory.{Call, Synced, events_of}
use Rattle.sector_disk.specs.Consistency.{call_of}
use Rattle.sector_disk.specs.Crash.{content_of, is_write, IsSettledBy}
use Rattle.sector_disk.specs.declared.mem_device.Call.{Call as Kept}
use Rattle.sector_disk.specs.declared.mem_device.Call.TheVariants.{Write as KeptWrite, Torn as KeptTorn, Sync as KeptSync}
use Rattle.sector_disk.proofs.ConsistencySteps.{seen_after, seen-push, events-push}

module _ (kept : List Kept) (i : ℕ) (d : Kept) (lt : i < length kept) where
  pub calls_more : map call_of (take (i + 1) kept) ≡ map call_of (take i kept) ++ call_of (get_or kept i d) ∷ []
  calls_more = map_more call_of kept i d lt

  pub seen_more : (start : List ℕ)
      → (run (settled start) (flat_map events_of (map call_of (take (i + 1) kept)))).seen
      ≡ seen_after (call_of (get_or kept i d)) (run (settled start) (flat_map events_of (map call_of (take i kept)))).seen
  seen_more start =
      ap (λ (l : List Call). (run (settled start) (flat_map events_of l)).seen) calls_more
      ∙ seen-push (settled start) (map call_of (take i kept)) (call_of (get_or kept i d))

  pub length-filter_more : (sector : ℕ) → length (filter_map (content_of sector) (map call_of (take (i + 1) kept)))
      ≡ length (filter_map (content_of sector) (map call_of (take i kept))) + length (option_to_list (content_of sector (call_of (get_or kept i d))))
  length-filter_more sector =
      ap (λ (l : List Call). length (filter_map (content_of sector) l)) calls_more
      ∙ ap length (filter_map-append (content_of sector) (map call_of (take i kept)) (call_of (get_or kept i d) ∷ []))
      ∙ length-append (filter_map (content_of sector) (map call_of (take i kept))) (filter_map (content_of sector) (call_of (get_or kept i d) ∷ []))
      ∙ ap (λ (n : ℕ). length (filter_map (content_of sector) (map call_of (take i kept))) + n) (alone (content_of sector (call_of (get_or kept i d))))
    where
      alone : (o : Option (List ℕ)) → length (cons_option o []) ≡ length (option_to_list o)
      alone None = refl
      alone (Some x) = refl

  pub filter_rest : (sector : ℕ) → filter_map (content_of sector) (map call_of (drop i kept))
      ≡ cons_option (content_of sector (call_of (get_or kept i d))) (filter_map (content_of sector) (map call_of (drop (i + 1) kept)))
  filter_rest sector = ap (λ (l : List Kept). filter_map (content_of sector) (map call_of l)) (drop_more kept i d lt)

  -- A sync settles the device.
  pub settled_more : call_of (get_or kept i d) ≡ Synced → IsSettledBy (map call_of (take (i + 1) kept))
  settled_more is start =
      let calls = map call_of (take i kept) in
      let same : flat_map events_of (map call_of (take (i + 1) kept)) ≡ flat_map events_of calls ++ events_of Synced =
      ap (flat_map events_of) (calls_more ∙ ap (λ (c : Call). calls ++ c ∷ []) is) ∙ events-push calls Synced in
      let after : run (settled start) (flat_map events_of (map call_of (take (i + 1) kept))) ≡ settled (run (settled start) (flat_map events_of calls)).seen =
      ap (run (settled start)) same ∙ run-append (settled start) (flat_map events_of calls) (events_of Synced) in
      after ∙ ap (λ (disk : Disk). settled disk.seen) (sym after)

  pub writes_more : (synced : ℕ) → synced ≤ i → IsTrue (is_write (call_of (get_or kept i d)))
      → IsTrue (list_all is_write (map call_of (drop synced (take i kept)))) → IsTrue (list_all is_write (map call_of (drop synced (take (i + 1) kept))))
  writes_more synced le write all =
      let e = get_or kept i d in
      let long : synced ≤ length (take i kept) = omega (arith, length-take-le i kept (omega arith)) in
      let rest : drop synced (take (i + 1) kept) ≡ drop synced (take i kept) ++ e ∷ [] =
      ap (drop synced) (take_more kept i d lt) ∙ drop-append-le synced (take i kept) (e ∷ []) long in
      ap (λ (l : List Kept). list_all is_write (map call_of l)) rest
      ∙ ap (list_all is_write) (map-append call_of (drop synced (take i kept)) (e ∷ []))
      ∙ list_all-append is_write (map call_of (drop synced (take i kept))) (call_of e ∷ [])
      ∙ and_from (list_all is_write (map call_of (drop synced (take i kept)))) (is_write (call_of e) && true) all
      (and_from (is_write (call_of e)) true write refl)

pub not_sync : (e : Kept) → (e ≡ KeptSync → ⊥) → IsTrue (is_write (call_of e))
not_sync (KeptWrite first bytes) h = refl
not_sync (KeptTorn first bytes) h = refl
not_sync KeptSync h = absurd (h refl)

pub not_write : (e : Kept) → ((first : ℕ) (bytes : Vec ℕ Global) → e ≡ KeptWrite first bytes → ⊥) → (seen : List ℕ) → seen_after (call_of e) seen ≡ seen
not_write (KeptWrite first bytes) h seen = absurd (h first bytes refl)
not_write (KeptTorn first bytes) h seen = refl
not_write KeptSync h seen = refl

-- If a call writes to the sector, it adds one content.
pub one_content : (r : Option (Bor (List ℕ))) (o : Option (List ℕ)) → option_copied r ≡ o → is_some r ≡ true → length (option_to_list o) ≡ 1
one_content None o is some = absurd (false≢true some)
one_content (Some x) o is some = ap (λ o. length (option_to_list o)) (sym is)

pub no_content : (r : Option (Bor (List ℕ))) (o : Option (List ℕ)) → option_copied r ≡ o → is_some r ≡ false → length (option_to_list o) ≡ 0
no_content None o is some = ap (λ o. length (option_to_list o)) (sym is)
no_content (Some x) o is some = absurd (false≢true (sym some))

pub is_none : (r : Option (Bor (List ℕ))) → ((x : Bor (List ℕ)) → r ≡ Some x → ⊥) → option_copied r ≡ None
is_none None h = refl
is_none (Some x) h = absurd (h x refl)

-- If the first content is not the wanted one, one fewer remains to be skipped.
pub slice_get_later : (x : List ℕ) (xs : List (List ℕ)) (n : ℕ) → 0 < n → slice_get (x ∷ xs) n ≡ slice_get xs (n - 1)
slice_get_later x xs zero h = absurd (omega arith)
slice_get_later x xs (suc n) h = ap (slice_get xs) (omega arith)
