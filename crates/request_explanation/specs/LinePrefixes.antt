-- The beginning of each line of an answer.
use Rattle.std.specs.Prelude.{ℕ, List, [], ◌++◌}
use Rattle.request_explanation.specs.Words.{word_and_number, word}
use Rattle.request_explanation.specs.declared.line_prefixes.LinePrefix.{LinePrefix}
use Rattle.request_explanation.specs.declared.line_prefixes.LinePrefix.TheVariants.{Nothing, Named, Tabbed}
use Rattle.request_explanation.specs.declared.words.Word.TheVariants.{Why, Colon, WhyTab, Tab}

-- the prefix of each line about the request with this name
abbrev pub line_prefix_text : LinePrefix → ℕ → List ℕ
line_prefix_text Nothing name = []
line_prefix_text Named name = word_and_number Why name ++ word Colon
line_prefix_text Tabbed name = word_and_number WhyTab name ++ word Tab
