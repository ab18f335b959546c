use Rattle.std.proofs.Common.{sym, ap, ◌∙◌}
use Rattle.mea_share_core.specs.Share.{kept}
use Rattle.mea_share_core.specs.Admitted.{numbers_of}
use Rattle.mea_share_core.proofs.Kept.{kept-same}
use Rattle.mea_share_core.proofs.admitted.Admitted.reserve.Goals as goal

pub returns-in-Many-clause-members : goal.returns-in-Many-clause-members
returns-in-Many-clause-members c =
    kept-same c.deref_mut.result.now.entries c.reserve.new.self.entries c.reserve.ensures.entries.2
    ∙ ap (λ (t : _). kept t.entries) c.deref_mut.ensures.value
    ∙ ap (λ x. kept (numbers_of x)) (sym c.in-Many.is) ∙ ap (λ (m : _). m.members) c.self.view_is
