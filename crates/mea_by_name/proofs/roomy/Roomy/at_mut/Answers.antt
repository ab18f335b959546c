use Rattle.std.proofs.Common.{refl, sym, ap, ◌∙◌}
use Rattle.std.specs.Option.{option_copied_mut}
use Rattle.std.specs.FinMap.{get}
use Rattle.mea_base.proofs.Maps.{is_some_of, lent_some}
use Rattle.mea_by_name.proofs.roomy.Roomy.at_mut.Goals as goal

pub unwrap-requires : goal.unwrap-requires
unwrap-requires g c = lent_some c.get_mut.result (is_some_of (get c.args.self.now.things c.args.name) (option_copied_mut c.get_mut.result) (sym c.get_mut.ensures.value) c.requires)

pub returns : goal.returns
returns g c = (
  (refl {a = c.unwrap.result.ghost_name}, λ w. refl),
  record { writes_back = tt; value = sym c.get_mut.ensures.value ∙ ap option_copied_mut c.unwrap.ensures },
)
