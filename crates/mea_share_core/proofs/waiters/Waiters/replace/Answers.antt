use Rattle.std.proofs.Common.{[], IsSome, sym, ap, subst, ◌∙◌}
use Rattle.std.specs.Option.{option_copied_mut}
use Rattle.std.specs.FinMap.{get, insert, len}
use Rattle.mea_base.proofs.Maps.{not_none}
use Rattle.mea_base.proofs.NamedMaps.{kept-at}
use Rattle.mea_share_core.specs.Share.{kept}
use Rattle.mea_share_core.specs.Waiters.{wakers_of}
use Rattle.mea_share_core.proofs.Alone.{put_in_place}
use Rattle.mea_share_core.proofs.Kept.{tree-kept, tree_put, len-again}
use Rattle.mea_share_core.proofs.waiters.Waiters.replace.Goals as goal
use Rattle.mea_share_core.proofs.waiters.Waiters.replace.Goals.{in-One, in-Many+in-Some}

pub unreachable-requires : goal.unreachable-requires
unreachable-requires g c =
    not_none (get c.args.self.now c.args.number) c.requires
    (ap (λ m. get m c.args.number) (sym c.self.view_is) ∙ ap (λ x. get (kept (wakers_of x)) c.args.number) c.in-Empty.is ∙ kept-at [] c.args.number)

pub unreachable-requires-in-None : goal.unreachable-requires-in-None
unreachable-requires-in-None g c =
    not_none (get c.args.self.now c.args.number) c.requires
    (ap (λ m. get m c.args.number) (sym c.self.view_is) ∙ ap (λ x. get (kept (wakers_of x)) c.args.number) c.in-Many.is
    ∙ tree-kept c.in-Many.tree.entries c.args.number ∙ sym c.get_mut.ensures.value ∙ ap option_copied_mut c.in-None.is)

pub returns-clause-is : goal.returns-clause-is
returns-clause-is g c =
    elim c.match-self.branch [
      | in-One w ↦
          let seen = ap (λ x. kept (wakers_of x)) (sym w.in-One.is) ∙ c.self.view_is in
          ap (λ (i : _). kept (wakers_of i.wakers)) w.self-inside-is
          ∙ put_in_place w.in-One.field-0 c.args.number w.in-One.place (subst (λ m. IsSome (get m c.args.number)) (sym seen) c.requires) c.args.waker
          ∙ ap (λ m. insert m c.args.number c.args.waker) seen
      | in-Many+in-Some w ↦
          let seen = ap (λ x. kept (wakers_of x)) (sym w.in-Many.is) ∙ c.self.view_is in
          ap (λ (i : _). kept (wakers_of i.wakers)) w.self-inside-is
          ∙ tree_put w.in-Many.tree.entries (w.get_mut.follows.lender c.args.waker).entries c.args.number c.args.waker
          (((w.get_mut.follows.holds c.args.waker).3
          (subst (λ o. IsSome o) (ap (λ m. get m c.args.number) (sym seen) ∙ tree-kept w.in-Many.tree.entries c.args.number) c.requires)).0)
          ∙ ap (λ m. insert m c.args.number c.args.waker) seen
    ]

pub returns-clause-as_many : goal.returns-clause-as_many
returns-clause-as_many g c = ap len (returns-clause-is g c) ∙ len-again c.args.self.now c.args.number c.args.waker c.requires
