use Rattle.std.proofs.Common.{ap, ◌∙◌, refl}
use Rattle.std.specs.Option.{option_map}
use Rattle.mea_lock.specs.Parts.{guard_seen}
use Rattle.mea_lock.proofs.PartEvents.{guard_of}
use Rattle.mea_lock.proofs.part.LockPart.guard.Goals as goal

pub returns : goal.returns
returns g c = ap (option_map guard_seen) (c.copied.ensures ∙ c.get.ensures) ∙ guard_of c.self.inside.locks c.self.inside.futures c.self.inside.guards.things c.self.inside.next c.self.view_is c.args.g _ refl
