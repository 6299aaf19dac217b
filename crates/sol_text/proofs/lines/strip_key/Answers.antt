-- A text begins with a key exactly if its first bytes spell the key in any letter case.
use Rattle.std.proofs.Common.{◌≡◌, ℕ, List, ◌++◌, map, take, drop, sym, ap, ◌∙◌}
use Rattle.std.specs.Char.{to_ascii_lowercase}
use Rattle.std.specs.Option.{option_copied}
use Rattle.std.proofs.lemmas.Bool.{both_ways}
use Rattle.std.proofs.lemmas.List.{take-append-drop}
use Rattle.sol_text.specs.LineShapes.{after_key}
use Rattle.sol_text.proofs.ShapeLemmas.{key_is, key_other, key_short}
use Rattle.sol_text.proofs.lines.strip_key.Goals as goal

joined : (n : ℕ) (text front rest : List ℕ) → front ≡ take n text → rest ≡ drop n text → text ≡ front ++ rest
joined n text front rest f r = sym (take-append-drop n text) ∙ ap (λ xs. xs ++ drop n text) (sym f) ∙ ap (λ xs. front ++ xs) (sym r)

pub returns-in_err-front : goal.returns-in_err-front
returns-in_err-front c =
    ap (λ o. option_copied o) c.from_residual.ensures ∙ sym (key_short c.args.key.now c.args.text.now c.in_err-front.ensures.cases)

pub returns-then-not-eq_ignore_ascii_case : goal.returns-then-not-eq_ignore_ascii_case
returns-then-not-eq_ignore_ascii_case c =
    let key = c.args.key.now in
    let front = c.in_ok-front.front.now in
    let rest = c.in_ok-front.rest.now in
    let parts = c.in_ok-front.ensures.cases in
    sym (key_other key front rest parts.3 (λ same. both_ways _ c.if-not-eq_ignore_ascii_case.true (c.eq_ignore_ascii_case.ensures.test.1 same)))
    ∙ ap (after_key (map to_ascii_lowercase key)) (sym (joined _ c.args.text.now front rest parts.1 parts.2))

pub returns : goal.returns
returns c =
    let key = c.args.key.now in
    let front = c.in_ok-front.front.now in
    let rest = c.in_ok-front.rest.now in
    let parts = c.in_ok-front.ensures.cases in
    sym (key_is (map to_ascii_lowercase key) front rest (c.eq_ignore_ascii_case.ensures.test.0 c.if-not-eq_ignore_ascii_case.false))
    ∙ ap (after_key (map to_ascii_lowercase key)) (sym (joined _ c.args.text.now front rest parts.1 parts.2))
