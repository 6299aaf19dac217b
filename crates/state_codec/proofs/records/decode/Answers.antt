-- The record of a command is read as this command, and its record is the sector
use Rattle.std.proofs.Common.{◌≡◌, ◌∙◌, sym, ap, true, List, ℕ, length, take, drop, arith, length-drop, Ok, Err, not}
use Rattle.std.specs.Str.{bytes_eq}
use Rattle.std.proofs.lemmas.Slice.Eq.{bytes_eq-Decides}
use Rattle.std.proofs.lemmas.List.{take_all}
use Rattle.command_types.specs.declared.commands.Command.{Command}
use Rattle.state_codec.specs.declared.version.Version.{Version}
use Rattle.state_codec.specs.declared.fault.CodecFault.{CodecFault}
use Rattle.state_codec.specs.Bytes.{record_bytes}
use Rattle.state_codec.specs.Limits.{IsRecorded}
use Rattle.state_codec.specs.Records.{command_at}
use Rattle.state_codec.proofs.RecordLaws.{record_again}
use Rattle.state_codec.proofs.records.decode.Goals as goal

-- The bytes after the sequence and the index are read as the command
module _ (v : Version) (sector : List ℕ) (sequence index : ℕ) (c : Command) (is : IsRecorded v c) (e : sector ≡ record_bytes v sequence index c) (long : length sector ≡ 512) where
  whole : take 500 (drop 12 sector) ≡ drop 12 sector
  whole = take_all 500 (drop 12 sector) (omega (arith, length-drop 12 sector, long))

  reads : (x : Command × List ℕ) → command_at v (take 500 (drop 12 sector)) ≡ Ok x → x.0 ≡ c
  reads x h = let again = record_again v sector sequence index c is e in let same = sym h ∙ ap (command_at v) whole ∙ again.1 in cc

  no_fault : (f : CodecFault) → command_at v (take 500 (drop 12 sector)) ≡ Err f → ⊥
  no_fault f h = let again = record_again v sector sequence index c is e in let same = sym h ∙ ap (command_at v) whole ∙ again.1 in absurd cc

differs : (xs ys : List ℕ) → xs ≡ ys → true ≡ not (bytes_eq xs ys) → ⊥
differs xs ys e h = let same = (bytes_eq-Decides xs ys).1 e in let no = h ∙ ap not same in absurd cc

pub returns-in-Err : goal.returns-in-Err
returns-in-Err c = λ d is e. no_fault c.args.version c.args.sector.now c.args.sequence c.args.index d is e c.told-sector c.in-Err.field-0 c.in-Err.ensures

pub returns-then-not-is_recorded : goal.returns-then-not-is_recorded
returns-then-not-is_recorded c = λ d is e.
    let same = reads c.args.version c.args.sector.now c.args.sequence c.args.index d is e c.told-sector (c.in-Ok.read.0, c.in-Ok.read.1.now) c.in-Ok.ensures in
    let yes = c.if-not-is_recorded.ensures.1 (rw same is) in
    absurd cc

pub returns-then-ne : goal.returns-then-ne
returns-then-ne c = λ d is e.
    let same = reads c.args.version c.args.sector.now c.args.sequence c.args.index d is e c.told-sector (c.in-Ok.read.0, c.in-Ok.read.1.now) c.in-Ok.ensures in
    differs c.record-whole.result c.args.sector.now (c.record-whole.ensures ∙ ap (record_bytes c.args.version c.args.sequence c.args.index) same ∙ sym e) c.if-ne.ensures
