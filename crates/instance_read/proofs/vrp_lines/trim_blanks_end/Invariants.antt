-- The rest is a prefix of the text, and the bytes cut off are blanks at its end.
use Rattle.std.proofs.Common.{◌≡◌, ◌+◌, ◌≤◌, length, take}
use Rattle.std.specs.List.{suffix_len}
use Rattle.text_lines.specs.Words.{is_blank}
use Rattle.instance_read.proofs.vrp_lines.trim_blanks_end.Given as goal

-- the bytes cut off so far are blanks at the end
abbrev pub invariant-loop-rest : goal.invariant-loop-rest
invariant-loop-rest l = record {
  front : l.rest ≡ take (length l.rest) l.text;
  within : length l.rest ≤ length l.text;
  blanks : length l.rest + suffix_len is_blank l.text ≡ length l.text + suffix_len is_blank l.rest;
}

abbrev pub decreases-loop-rest : goal.decreases-loop-rest
decreases-loop-rest l = length l.rest
