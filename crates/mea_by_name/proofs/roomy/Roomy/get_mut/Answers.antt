use Rattle.std.proofs.Common.{sym, ap, ◌∙◌}
use Rattle.std.specs.HashMap.{spare}
use Rattle.std.specs.FinMap.{get}
use Rattle.mea_base.specs.Named.{at}
use Rattle.mea_by_name.specs.Room.{Room, room_of, with_thing}
use Rattle.mea_by_name.proofs.Beside.{one_at, other_at, one_written, written_apart}
use Rattle.mea_by_name.proofs.Kept.{agree, written}
use Rattle.mea_by_name.proofs.roomy.Roomy.get_mut.Goals as goal

pub invariant_of-self-lent-else-stands : goal.invariant_of-self-lent-else-stands
invariant_of-self-lent-else-stands g c = λ lent. (
  λ w. written_apart c.self.inside.name c.self.inside.one c.self.inside.map.entries (c.get_mut.follows.lender w).entries (c.get_mut.follows.holds w).1 c.self.invariant,
  λ some. ap (λ m. at m.entries c.self.inside.name) c.get_mut.follows.holds-at-none ∙ c.self.invariant some,
)

pub returns-then-stands : goal.returns-then-stands
returns-then-stands g c =
    let is = sym c.stands.ensures ∙ c.if-stands.true in (
      agree c.as_mut.result _ _ _ _
          (λ there w. (λ i. record { things = one_written c.self.inside.name c.self.inside.one c.self.inside.map.entries c.args.name w is i; spare = spare c.self.inside.map }) ∙ ap (λ (r : Room _). with_thing r c.args.name w) c.self.view_is)
          c.self.view_is,
      record {
        writes_back = tt;
        value = c.as_mut.ensures.value ∙ sym (one_at c.self.inside.name c.self.inside.one c.self.inside.map.entries c.args.name is) ∙ ap (λ (m : _). get m.things c.args.name) c.self.view_is;
      },
    )

pub returns-else-stands : goal.returns-else-stands
returns-else-stands g c =
    let other = sym c.stands.ensures ∙ c.if-stands.false in (
      agree c.get_mut.result _ _ _ _
          (λ there w. let held = c.get_mut.follows.holds w in
          written c.self.inside.name c.self.inside.one c.self.inside.map (c.get_mut.follows.lender w) c.args.name w c.args.self.now other ((held.3 (rw c.get_mut.ensures.value at there)).0) held.6 c.self.view_is)
          (ap (room_of c.self.inside.name c.self.inside.one) c.get_mut.follows.holds-at-none ∙ c.self.view_is),
      record {
        writes_back = tt;
        value = c.get_mut.ensures.value ∙ sym (other_at c.self.inside.name c.self.inside.one c.self.inside.map.entries c.args.name other) ∙ ap (λ (m : _). get m.things c.args.name) c.self.view_is;
      },
    )
