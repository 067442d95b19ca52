-- The tables that the code of the search for images is lent.
use Rattle.finding.specs.declared.sources.ListTables.{ListTables}
use Rattle.finding.specs.ImageSearch.{Tables, tables}

abbrev pub tables_of : ListTables → Tables
tables_of list = tables list.moves.now list.count list.labels list.follow.now list.enter.now
