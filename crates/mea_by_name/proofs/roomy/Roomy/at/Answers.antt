use Rattle.std.proofs.Common.{sym, ap, ◌∙◌}
use Rattle.std.specs.Option.{option_copied}
use Rattle.std.specs.FinMap.{get}
use Rattle.mea_base.proofs.Maps.{is_some_of}
use Rattle.mea_by_name.proofs.Kept.{copied_some}
use Rattle.mea_by_name.proofs.roomy.Roomy.at.Goals as goal

pub unwrap-requires : goal.unwrap-requires
unwrap-requires g c = copied_some c.get.result (is_some_of (get c.args.self.now.things c.args.name) (option_copied c.get.result) (sym c.get.ensures) c.requires)

pub returns : goal.returns
returns g c = sym c.get.ensures ∙ ap option_copied c.unwrap.ensures
