-- The tables that a view lends. Assumes nothing.
use Rattle.closure_tables.specs.Tables.{Tables}
use Rattle.closure_view.specs.declared.views.View.{View}
use Rattle.closure_view.specs.Lent.{lent}

abbrev pub tables_of : View → Tables
tables_of v = lent v.cells.now v.entries.now v.stack.now v.hand
