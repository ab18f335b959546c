use Rattle.std.proofs.Common.{[], is_some, sym, ap, ◌∙◌}
use Rattle.std.specs.FinMap.{get}
use Rattle.mea_base.proofs.NamedMaps.{kept-at}
use Rattle.mea_share_core.specs.Share.{kept}
use Rattle.mea_share_core.specs.Waiters.{wakers_of}
use Rattle.mea_share_core.proofs.Alone.{has_alone}
use Rattle.mea_share_core.proofs.Kept.{tree-kept}
use Rattle.mea_share_core.proofs.waiters.Waiters.has.Goals as goal

pub returns-in-Empty : goal.returns-in-Empty
returns-in-Empty g c =
    ap is_some (sym (kept-at [] c.args.number)) ∙ ap (λ x. is_some (get (kept (wakers_of x)) c.args.number)) (sym c.in-Empty.is)
    ∙ ap (λ m. is_some (get m c.args.number)) c.self.view_is

pub returns-in-One : goal.returns-in-One
returns-in-One g c =
    has_alone c.in-One.one c.args.number c.in-One.field-1 ∙ ap (λ x. is_some (get (kept (wakers_of x)) c.args.number)) (sym c.in-One.is)
    ∙ ap (λ m. is_some (get m c.args.number)) c.self.view_is

pub returns-in-Many : goal.returns-in-Many
returns-in-Many g c =
    c.contains_key.ensures ∙ ap is_some (sym (tree-kept c.in-Many.tree.entries c.args.number))
    ∙ ap (λ x. is_some (get (kept (wakers_of x)) c.args.number)) (sym c.in-Many.is) ∙ ap (λ m. is_some (get m c.args.number)) c.self.view_is
