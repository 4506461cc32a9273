-- Tables that are lent as slices. Assumes nothing.
use Rattle.std.specs.Prelude.{List}
use Rattle.closure_tables.specs.declared.rows.Cell.{Cell}
use Rattle.closure_tables.specs.declared.rows.Argument.{Argument}
use Rattle.closure_tables.specs.declared.rows.Entry.{Entry}
use Rattle.closure_tables.specs.Tables.{Tables}

abbrev pub lent : List Cell → List Entry → List Argument → Argument → Tables
lent cells entries stack hand = record { cells = cells; entries = entries; stack = stack; hand = hand }
