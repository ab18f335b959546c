use Rattle.std.proofs.Common.{ap, false}
use Rattle.mea_once_model.specs.OnceHall.{Onces, OnceCells, Maps, Groups}
use Rattle.mea_once.specs.Actions.{meant, turn_action, whole_action, table_action, value_action}
use Rattle.mea_once.specs.Halls.{parts}
use Rattle.mea_once.proofs.Playing.{tables_rest, cells_act, tables_act}
use Rattle.mea_once.proofs.kinds.Kinds.act.Goals as goal

pub returns-in-Onces : goal.returns-in-Onces
returns-in-Onces c = cells_act (parts c.args.self.now.onces c.args.self.now.cells c.args.self.now.maps c.args.self.now.groups) c.args.number (meant c.args.meaning) Onces (turn_action c.in-Onces.action) c.act.result c.act.new.self c.args.ready.now c.act.new.ready (ap meant c.in-Onces.is) c.act.ensures

pub returns-in-Cells : goal.returns-in-Cells
returns-in-Cells c = cells_act (parts c.args.self.now.onces c.args.self.now.cells c.args.self.now.maps c.args.self.now.groups) c.args.number (meant c.args.meaning) OnceCells (turn_action c.in-Cells.action) c.act-in-Cells.result c.act-in-Cells.new.self c.args.ready.now c.act-in-Cells.new.ready (ap meant c.in-Cells.is) c.act-in-Cells.ensures

pub returns-in-OnlyCells : goal.returns-in-OnlyCells
returns-in-OnlyCells c = cells_act (parts c.args.self.now.onces c.args.self.now.cells c.args.self.now.maps c.args.self.now.groups) c.args.number (meant c.args.meaning) OnceCells (whole_action c.in-OnlyCells.action) c.act_whole.result c.act_whole.new.self c.args.ready.now c.act_whole.new.ready (ap meant c.in-OnlyCells.is) c.act_whole.ensures

pub returns-in-Maps : goal.returns-in-Maps
returns-in-Maps c = tables_act (parts c.args.self.now.onces c.args.self.now.cells c.args.self.now.maps c.args.self.now.groups) c.args.number (meant c.args.meaning) Maps (table_action c.in-Maps.action) c.act-in-Maps.result c.act-in-Maps.new.self c.args.ready.now c.act-in-Maps.new.ready (ap meant c.in-Maps.is) c.act-in-Maps.ensures

pub returns-in-OnlyMaps : goal.returns-in-OnlyMaps
returns-in-OnlyMaps c = tables_act (parts c.args.self.now.onces c.args.self.now.cells c.args.self.now.maps c.args.self.now.groups) c.args.number (meant c.args.meaning) Maps (value_action c.in-OnlyMaps.action) c.act_value.result c.act_value.new.self c.args.ready.now c.args.ready.now (ap meant c.in-OnlyMaps.is) (tables_rest false c.args.self.now.maps c.args.number (value_action c.in-OnlyMaps.action) c.act_value.result c.act_value.new.self c.args.ready.now c.act_value.ensures)

pub returns-in-Groups : goal.returns-in-Groups
returns-in-Groups c = tables_act (parts c.args.self.now.onces c.args.self.now.cells c.args.self.now.maps c.args.self.now.groups) c.args.number (meant c.args.meaning) Groups (table_action c.in-Groups.action) c.act-in-Groups.result c.act-in-Groups.new.self c.args.ready.now c.act-in-Groups.new.ready (ap meant c.in-Groups.is) c.act-in-Groups.ensures
