use Rattle.std.proofs.Common.{[], refl}
use Rattle.mea_base.proofs.NamedMaps.{named_none}
use Rattle.mea_share_core.proofs.Kept.{none-len}
use Rattle.mea_share_core.proofs.admitted.Admitted.new.Goals as goal

pub returns-clause-is : goal.returns-clause-is
returns-clause-is c = named_none [] refl

pub returns-clause-none : goal.returns-clause-none
returns-clause-none c = none-len [] refl
