-- The kinds of knowledge about an input.
use Rattle.std.specs.Prelude.{ℕ, List, Option, Some, ⊤}
use Rattle.command_server.specs.declared.streams.Source as sources

-- The bytes of the input are known beforehand; or the input is this text, which begins with the bytes that its
-- reads returned.
pub data InputKnowledge : Type 0 where
  Beforehand : InputKnowledge
  ByReads : List ℕ → InputKnowledge

module _ {R : Type 0} (on : sources.Ghosts R) where
  -- The knowledge fits the reader: a text begins with the bytes that the reads so far returned.
  abbrev pub Fits : InputKnowledge → R → Type 0
  Fits Beforehand reader = ⊤
  Fits (ByReads text) reader = on.gave reader text

  -- The bytes that the reader has left, if the input is known in this way.
  abbrev pub left_by : InputKnowledge → R → Option (List ℕ)
  left_by Beforehand reader = on.remaining reader
  left_by (ByReads text) reader = Some (on.left reader text)
