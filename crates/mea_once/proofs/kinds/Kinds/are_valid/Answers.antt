use Rattle.mea_once_model.proofs.Validity.{cells_later, tables_later}
use Rattle.mea_once.proofs.kinds.Kinds.are_valid.Goals as goal

pub returns : goal.returns
returns c = λ n below. record {
  onces = cells_later c.args.self.now.onces.next n below.onces c.args.self.now.onces.hall c.is_valid.ensures;
  cells = cells_later c.args.self.now.cells.next n below.cells c.args.self.now.cells.hall c.is_valid-2.ensures;
  maps = tables_later c.args.self.now.maps.next n below.maps c.args.self.now.maps.hall c.is_valid-3.ensures;
  groups = tables_later c.args.self.now.groups.next n below.groups c.args.self.now.groups.hall c.is_valid-4.ensures;
}
