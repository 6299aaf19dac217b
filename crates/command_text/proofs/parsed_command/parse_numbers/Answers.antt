-- A line of eleven numbers is an `add` command or a bad line.
use Rattle.std.proofs.Common.{None}
use Rattle.command_text.specs.declared.fields.Field.{Field}
use Rattle.command_text.proofs.FieldLemmas.{eleven_read}
use Rattle.command_text.proofs.parsed_command.parse_numbers.Goals as goal

pub returns-in-len11 : goal.returns-in-len11
returns-in-len11 c =
    let none : Field = record { signed = None; unsigned = None } in
    eleven_read c.args.verb c.args.fields.now none c.spot_of-in-len11.result c.spot_of-in-len11-2.result c.parse_two_spots.result c.in-len11.len_at_least c.in-len11.len_below
    c.spot_of-in-len11.ensures c.spot_of-in-len11-2.ensures c.parse_two_spots.ensures
