use Rattle.std.proofs.Common.{[], is_some, sym, ap, ◌∙◌}
use Rattle.std.specs.FinMap.{get}
use Rattle.mea_base.specs.Named.{at}
use Rattle.mea_base.proofs.NamedMaps.{kept-at}
use Rattle.mea_share_core.specs.Share.{kept}
use Rattle.mea_share_core.specs.Admitted.{numbers_of}
use Rattle.mea_share_core.proofs.Alone.{has_alone}
use Rattle.mea_share_core.proofs.admitted.Admitted.has.Goals as goal

pub returns-in-Empty : goal.returns-in-Empty
returns-in-Empty c =
    ap is_some (sym (kept-at [] c.args.number)) ∙ ap (λ x. is_some (get (kept (numbers_of x)) c.args.number)) (sym c.in-Empty.is)
    ∙ ap (λ (m : _). is_some (get m.members c.args.number)) c.self.view_is

pub returns-in-One : goal.returns-in-One
returns-in-One c =
    has_alone c.in-One.one c.args.number tt ∙ ap (λ x. is_some (get (kept (numbers_of x)) c.args.number)) (sym c.in-One.is)
    ∙ ap (λ (m : _). is_some (get m.members c.args.number)) c.self.view_is

pub returns-in-Many : goal.returns-in-Many
returns-in-Many c =
    c.contains_key.ensures ∙ ap (λ (t : _). is_some (at t.entries c.args.number)) c.deref.ensures
    ∙ ap is_some (sym (kept-at c.in-Many.table.value.entries c.args.number)) ∙ ap (λ x. is_some (get (kept (numbers_of x)) c.args.number)) (sym c.in-Many.is)
    ∙ ap (λ (m : _). is_some (get m.members c.args.number)) c.self.view_is
