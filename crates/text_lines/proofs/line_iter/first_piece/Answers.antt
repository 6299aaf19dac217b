-- The first line feed ends the first piece of a text; a text without a line feed is a single piece.
use Rattle.std.proofs.Common.{◌≡◌, [], ◌∷◌, ◌-◌, length, take, drop, get_or, arith, ap, ◌∙◌, sym, add-one}
use Rattle.std.proofs.lemmas.List.{take_rest, drop_all}
use Rattle.std.proofs.lemmas.Bool.{eq-eqb, eqb-true}
use Rattle.text_lines.specs.Lines.{pieces_of}
use Rattle.text_lines.proofs.PieceLemmas.{pieces_at, pieces_whole, pieces_nil}
use Rattle.text_lines.proofs.line_iter.first_piece.Goals as goal

pub returns-in-Some : goal.returns-in-Some
returns-in-Some c =
    let text = c.args.text.now in
    let end = c.in-Some.end in
    let first = c.in-Some.ensures in
    rw (take_rest, add-one) (pieces_at text end first.0.high
    (λ j l here. first.0.before j (omega arith) l (eq-eqb (get_or text j 0) 10 here))
    (eqb-true (get_or text end 0) 10 first.1))

pub returns-in-None : goal.returns-in-None
returns-in-None c =
    let text = c.args.text.now in
    let none : take (length text - length text) (drop (length text) text) ≡ [] = take_rest text (length text) ∙ drop_all (length text) text (omega arith) in
    pieces_whole text c.requires (λ j l here. c.in-None.ensures j (omega arith) l (eq-eqb (get_or text j 0) 10 here))
    ∙ ap (λ ps. text ∷ ps) (sym (ap pieces_of none ∙ pieces_nil))
