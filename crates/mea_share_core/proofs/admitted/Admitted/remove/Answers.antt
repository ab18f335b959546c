use Rattle.std.proofs.Common.{◌≡◌, ◌+◌, [], IsSome, sym, ap, subst, ◌∙◌}
use Rattle.std.specs.FinMap.{get, len, remove}
use Rattle.mea_base.proofs.Maps.{not_none}
use Rattle.mea_base.proofs.NamedMaps.{kept-at, named_remove}
use Rattle.mea_share_core.specs.Share.{kept}
use Rattle.mea_share_core.specs.Admitted.{numbers_of}
use Rattle.mea_share_core.proofs.Alone.{none_left}
use Rattle.mea_share_core.proofs.Kept.{len-fewer}
use Rattle.mea_share_core.proofs.admitted.Admitted.remove.Goals as goal
use Rattle.mea_share_core.proofs.admitted.Admitted.remove.Goals.{in-Many-1, in-Empty-1}

pub returns-in-Empty-clause-members : goal.returns-in-Empty-clause-members
returns-in-Empty-clause-members c = absurd (not_none (get c.args.self.now.members c.args.number) c.requires
    (ap (λ (m : _). get m.members c.args.number) (sym c.self.view_is) ∙ ap (λ x. get (kept (numbers_of x)) c.args.number) (sym c.in-Empty.ensures.value) ∙ kept-at [] c.args.number))

pub returns-in-Empty-clause-fewer : goal.returns-in-Empty-clause-fewer
returns-in-Empty-clause-fewer c = ap (λ m. len m + 1) (returns-in-Empty-clause-members c) ∙ len-fewer c.args.self.now.members c.args.number c.requires

pub returns-in-One-clause-members : goal.returns-in-One-clause-members
returns-in-One-clause-members c =
    let seen = ap (λ x. kept (numbers_of x)) c.in-One.ensures.value ∙ ap (λ (m : _). m.members) c.self.view_is in
    ap (λ x. kept (numbers_of x)) c.in-One.ensures.after
    ∙ none_left c.in-One.field-0 c.args.number tt (subst (λ m. IsSome (get m c.args.number)) (sym seen) c.requires)
    ∙ ap (λ m. remove m c.args.number) seen

pub returns-in-One-clause-fewer : goal.returns-in-One-clause-fewer
returns-in-One-clause-fewer c = ap (λ m. len m + 1) (returns-in-One-clause-members c) ∙ len-fewer c.args.self.now.members c.args.number c.requires

pub returns-in-Many-clause-members : goal.returns-in-Many-clause-members
returns-in-Many-clause-members c =
    elim c.match-self.branch [
      | in-Many-1 w ↦ ap (λ (m : _). m.members) w.self-is ∙ gone
      | in-Empty-1 w ↦ ap (λ (m : _). m.members) w.self-is ∙ gone
    ]
  where
    gone : kept c.remove.new.self.entries ≡ remove c.args.self.now.members c.args.number
    gone =
        named_remove (λ k x. x) c.deref_mut.result.now.entries c.remove.new.self.entries c.args.number c.remove.ensures.updates.0
        ∙ ap (λ (t : _). remove (kept t.entries) c.args.number) c.deref_mut.ensures.value
        ∙ ap (λ x. remove (kept (numbers_of x)) c.args.number) c.in-Many.ensures.value
        ∙ ap (λ (m : _). remove m.members c.args.number) c.self.view_is

pub returns-in-Many-clause-fewer : goal.returns-in-Many-clause-fewer
returns-in-Many-clause-fewer c = ap (λ m. len m + 1) (returns-in-Many-clause-members c) ∙ len-fewer c.args.self.now.members c.args.number c.requires
