use Rattle.std.proofs.Common.{◌≡◌, ◌∷◌, ◌++◌, sym, ap, ◌∙◌, inl, inr}
use Rattle.mea_base.specs.WaitListLinks.{next_in, prev_in, next_of}
use Rattle.mea_base.proofs.WaitLinks.{linked_node}
use Rattle.mea_base.proofs.Chains.{behind, absent_behind}
use Rattle.mea_base.proofs.wait_list.WaitList.next.Goals as goal

pub index-requires : goal.index-requires
index-requires g c =
    linked_node c.self.inside.nodes.slots _ c.args.number c.self.invariant.ring (rw (← c.self.view_is) at c.requires)

pub returns-then-next-eq-SENTINEL-clause-last : goal.returns-then-next-eq-SENTINEL-clause-last
returns-then-next-eq-SENTINEL-clause-last g c =
    let ring = c.self.invariant.ring in
    let next : next_in c.self.inside.nodes.slots c.args.number ≡ 0 = ap next_of c.index.ensures ∙ c.if-next-eq-SENTINEL.true in
    rw (← c.self.view_is) (
    elim (behind (next_in c.self.inside.nodes.slots) (prev_in c.self.inside.nodes.slots) 0 _ 0 c.args.number ring.chain (rw (← c.self.view_is) at c.requires)) [
      | inl last ↦ last.1
      | inr before ↦ absurd (absent_behind 0 _ _ _ before.0 before.1 ring.distinct.0 before.2 next)
    ])

pub returns-else-next-eq-SENTINEL-clause-some : goal.returns-else-next-eq-SENTINEL-clause-some
returns-else-next-eq-SENTINEL-clause-some g c =
    let next = ap next_of c.index.ensures in
    rw (← c.self.view_is) (
    elim (behind (next_in c.self.inside.nodes.slots) (prev_in c.self.inside.nodes.slots) 0 _ 0 c.args.number c.self.invariant.ring.chain (rw (← c.self.view_is) at c.requires)) [
      | inl last ↦ absurd (c.if-next-eq-SENTINEL.false (sym next ∙ last.0))
      | inr before ↦ (before.0, before.1, before.2 ∙ ap (λ n. before.0 ++ c.args.number ∷ n ∷ before.1) next)
    ])
