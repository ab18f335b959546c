use Rattle.std.proofs.Common.{◌≤◌, ◌+◌, length, ◌∙◌, ap, sym, subst}
use Rattle.mea_sem_core.specs.Core.{Core, held_of}
use Rattle.mea_once_core.specs.Permit.{passed_on}
use Rattle.mea_once_core.proofs.Permits.{gives, gives_permit, few_gives}
use Rattle.mea_once_core.proofs.permit.Permit.pass_on.Goals as goal

pub invariant_of-self : goal.invariant_of-self
invariant_of-self g c = gives_permit c.self.inside.sem c.give_back.new.self c.self.invariant (subst (λ s. 1 ≤ held_of s) (sym c.self.view_is) c.requires) c.give_back.ensures.given c.give_back.ensures.sound c.give_back.ensures.steady

pub returns-clause-is : goal.returns-clause-is
returns-clause-is g c = gives c.self.inside.sem c.give_back.new.self c.self.invariant (subst (λ s. 1 ≤ held_of s) (sym c.self.view_is) c.requires) c.give_back.ensures.given ∙ ap passed_on c.self.view_is

pub returns-clause-sound : goal.returns-clause-sound
returns-clause-sound g c = gives_permit c.self.inside.sem c.give_back.new.self c.self.invariant (subst (λ s. 1 ≤ held_of s) (sym c.self.view_is) c.requires) c.give_back.ensures.given c.give_back.ensures.sound c.give_back.ensures.steady

pub returns-clause-few : goal.returns-clause-few
returns-clause-few g c =
    subst (λ (s : Core g.row.W.Denot). length c.give_back.new.self.queue + length c.give_back.new.self.wakes ≤ length s.queue + length s.wakes) c.self.view_is
    (few_gives c.self.inside.sem c.give_back.new.self c.self.invariant (subst (λ s. 1 ≤ held_of s) (sym c.self.view_is) c.requires) c.give_back.ensures.given)
