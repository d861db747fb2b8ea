-- The table of a draft: its rows so far.
use Rattle.table.specs.Tables.{made}
use Rattle.table.specs.declared.Table.{Table}
use Rattle.table.specs.declared.draft.Draft.{Draft}

abbrev pub drafted : Draft → Table
drafted d = made d.counts d.rows
