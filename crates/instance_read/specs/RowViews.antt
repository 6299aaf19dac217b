-- A numbered line of the code as plain data.
use Rattle.instance_read.specs.Rows.{Row}
use Rattle.instance_read.specs.declared.rows.NumberedLine.{NumberedLine}

abbrev pub row_view : NumberedLine → Row
row_view l = record { line = l.number; text = l.text.now }
