use Rattle.std.proofs.Common.{◌+◌, [], IsSome, sym, ap, subst, ◌∙◌}
use Rattle.std.specs.FinMap.{get, len, remove}
use Rattle.mea_base.proofs.Maps.{not_none}
use Rattle.mea_base.proofs.NamedMaps.{kept-at}
use Rattle.mea_share_core.specs.Share.{kept}
use Rattle.mea_share_core.specs.Waiters.{wakers_of}
use Rattle.mea_share_core.proofs.Alone.{get-alone, none_left}
use Rattle.mea_share_core.proofs.Kept.{tree-kept, tree_remove, len-fewer}
use Rattle.mea_share_core.proofs.waiters.Waiters.remove.Goals as goal

pub unreachable-requires : goal.unreachable-requires
unreachable-requires g c =
    not_none (get c.args.self.now c.args.number) c.requires
    (ap (λ m. get m c.args.number) (sym c.self.view_is) ∙ ap (λ x. get (kept (wakers_of x)) c.args.number) (sym c.in-Empty.ensures.value) ∙ kept-at [] c.args.number)

pub unreachable-requires-in-None : goal.unreachable-requires-in-None
unreachable-requires-in-None g c =
    not_none (get c.args.self.now c.args.number) c.requires
    (ap (λ m. get m c.args.number) (sym c.self.view_is) ∙ ap (λ x. get (kept (wakers_of x)) c.args.number) (sym c.in-Many.ensures.value)
    ∙ tree-kept c.in-Many.tree.entries c.args.number ∙ sym c.remove-removed.ensures.value ∙ c.in-None.is)

pub returns-in-One-clause-value : goal.returns-in-One-clause-value
returns-in-One-clause-value g c =
    let seen = ap (λ x. kept (wakers_of x)) c.in-One.ensures.value ∙ c.self.view_is in
    ap (λ m. get m c.args.number) (sym seen)
    ∙ get-alone c.in-One.field-0 c.args.number c.in-One.waker (subst (λ m. IsSome (get m c.args.number)) (sym seen) c.requires)

pub returns-in-One-clause-rest : goal.returns-in-One-clause-rest
returns-in-One-clause-rest g c =
    let seen = ap (λ x. kept (wakers_of x)) c.in-One.ensures.value ∙ c.self.view_is in
    ap (λ x. kept (wakers_of x)) c.in-One.ensures.after
    ∙ none_left c.in-One.field-0 c.args.number c.in-One.waker (subst (λ m. IsSome (get m c.args.number)) (sym seen) c.requires)
    ∙ ap (λ m. remove m c.args.number) seen

pub returns-in-One-clause-fewer : goal.returns-in-One-clause-fewer
returns-in-One-clause-fewer g c = ap (λ m. len m + 1) (returns-in-One-clause-rest g c) ∙ len-fewer c.args.self.now c.args.number c.requires

pub returns-in-Some-clause-value : goal.returns-in-Some-clause-value
returns-in-Some-clause-value g c =
    ap (λ m. get m c.args.number) (sym c.self.view_is) ∙ ap (λ x. get (kept (wakers_of x)) c.args.number) (sym c.in-Many.ensures.value)
    ∙ tree-kept c.in-Many.tree.entries c.args.number ∙ sym c.remove-removed.ensures.value ∙ c.in-Some.is

pub returns-in-Some-clause-rest : goal.returns-in-Some-clause-rest
returns-in-Some-clause-rest g c =
    tree_remove c.in-Many.tree.entries c.remove-removed.new.self.entries c.args.number c.remove-removed.ensures.updates.0
    ∙ ap (λ x. remove (kept (wakers_of x)) c.args.number) c.in-Many.ensures.value ∙ ap (λ m. remove m c.args.number) c.self.view_is

pub returns-in-Some-clause-fewer : goal.returns-in-Some-clause-fewer
returns-in-Some-clause-fewer g c = ap (λ m. len m + 1) (returns-in-Some-clause-rest g c) ∙ len-fewer c.args.self.now c.args.number c.requires
