-- The first piece of the rest is the next line, and one line fewer is left; if the rest is empty, there is no
-- line.
use Rattle.std.proofs.Common.{◌∷◌, ap, sym, ◌∙◌, arith, length}
use Rattle.std.proofs.lemmas.Bool.{eqb-true}
use Rattle.std.proofs.lemmas.List.{nil_from_length}
use Rattle.text_lines.specs.Lines.{lines_of}
use Rattle.text_lines.proofs.PieceLemmas.{lines_from_pieces, lines_nil}
use Rattle.text_lines.proofs.line_iter.LinesIterator.next.Goals as goal

pub returns-then-is_empty-clause-steps : goal.returns-then-is_empty-clause-steps
returns-then-is_empty-clause-steps c =
    let rest = c.self.inside.rest.now in
    let empty = nil_from_length rest (eqb-true (length rest) 0 (sym c.is_empty.ensures ∙ c.if-is_empty.true)) in
    let none = sym c.self.view_is ∙ ap lines_of empty ∙ lines_nil in
    (none, none)

pub returns-clause-steps : goal.returns-clause-steps
returns-clause-steps c =
    let rest = c.first_piece.result.1.now in
    sym c.self.view_is ∙ lines_from_pieces c.self.inside.rest.now c.first_piece.result.0.now rest c.first_piece.ensures
    ∙ ap (λ line. line ∷ lines_of rest) (sym c.without_carriage_return.ensures)

pub returns-clause-goes : goal.returns-clause-goes
returns-clause-goes c =
    let rest = c.first_piece.result.1.now in
    let steps = sym c.self.view_is ∙ lines_from_pieces c.self.inside.rest.now c.first_piece.result.0.now rest c.first_piece.ensures in
    record { on = λ _. (tt, tt, omega (arith, ap length steps)); keeps = tt; rests = λ _. tt }
