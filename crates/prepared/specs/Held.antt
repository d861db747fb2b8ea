-- The table that a component holds.
use Rattle.model.specs.Tables.{Table}
use Rattle.prepared.specs.Prepared.{table_in}
use Rattle.prepared.specs.declared.component.Component.{Component}

abbrev pub held : Component → Table
held k = table_in k.rows k.index
