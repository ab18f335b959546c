use Rattle.std.proofs.Common.{refl, rules, ◌+◌, sym, ap, ◌∙◌, arith}
use Rattle.std.specs.Option.{option_copied_mut, option_map}
use Rattle.mea_sem.specs.declared.entries.PermitEntry.{PermitEntry}
use Rattle.mea_sem.specs.Store.{permit_of}
use Rattle.mea_sem.proofs.Things.{at-entries, entries_put, entries_gone}
use Rattle.mea_sem.proofs.Meets.{Meets, MeetsPermit, kept_as_permits, kept_store, seen_store}
use Rattle.mea_sem.proofs.Refusals.{permit-at, refuses_unknown}
use Rattle.mea_sem.proofs.StandingPermits.{home_living, written_back, unmergeable, of_none, may_merge, sizes_fit, permit_counted, merged, permit_thing}
use Rattle.mea_sem.proofs.Endings.{living_in, beside}
use Rattle.mea_sem.proofs.Lists.{alone, own, rests}
use Rattle.mea_sem.proofs.Inside.{lone, part_of, seen_alone}
use Rattle.mea_sem.proofs.family.SemFamily.merge.Goals as goal
use Rattle.mea_sem.proofs.family.SemFamily.merge.Goals.{In-Some-get_mut, In-Some-get_mut-2}

entered : (c : In-Some-get_mut) → Meets (alone c.self.inside) (lone c.args.self.now) c.args.number
entered c = record { seen = (seen_alone c.self.view_is); kept = c.self.invariant; least = c.requires; low = omega arith }

-- the permit that goes and its semaphore, as they were found
met : (c : In-Some-get_mut-2) → MeetsPermit (alone c.self.inside) (lone c.args.self.now) c.args.number c.args.q c.in-Some.other c.in-Some-get_mut-2.entry.now
met c = record {
  meets = record { seen = (seen_alone c.self.view_is); kept = c.self.invariant; least = c.requires; low = omega arith };
  is = at-entries _ _ ∙ sym c.get.ensures ∙ sym c.copied.ensures ∙ c.in-Some.is;
  there = living_in (alone c.self.inside) _ _ (sym c.get_mut-2.ensures.value ∙ ap option_copied_mut c.in-Some-get_mut-2.is);
}

pub returns-in_default-clause-refused : goal.returns-in_default-clause-refused
returns-in_default-clause-refused c = refuses_unknown _ _ (
    unmergeable (lone c.args.self.now) c.args.p c.args.q _ _ refl
    (permit-at (alone c.self.inside) (seen_alone c.self.view_is) c.args.q ∙ ap (option_map permit_of) (at-entries _ _ ∙ sym c.get.ensures ∙ sym c.copied.ensures ∙ c.in_default.is)) (of_none _)) refl

pub invariant_of-self : goal.invariant_of-self
invariant_of-self c = own (kept_as_permits (alone c.self.inside) c.self.invariant (search rules))

pub returns-in_default-get_mut-clause-refused : goal.returns-in_default-get_mut-clause-refused
returns-in_default-get_mut-clause-refused c = refuses_unknown _ _ (
    unmergeable (lone c.args.self.now) c.args.p c.args.q _ _
    (permit-at (alone c.self.inside) (seen_alone c.self.view_is) c.args.p ∙ ap (option_map permit_of) (at-entries _ _ ∙ sym c.get_mut.ensures.value ∙ ap option_copied_mut c.in_default-get_mut.is)) refl refl) refl

pub invariant_of-self-then-not-are_alike : goal.invariant_of-self-then-not-are_alike
invariant_of-self-then-not-are_alike c = own (kept_store (alone c.self.inside) c.self.invariant (
    written_back (alone c.self.inside) c.args.p c.in-Some-get_mut.permit.now _ (at-entries _ _ ∙ sym c.get_mut.ensures.value ∙ ap option_copied_mut c.in-Some-get_mut.is)
    (entries_put _ _ _ c.in-Some-get_mut.permit.now refl)))

pub returns-then-not-are_alike-clause-refused : goal.returns-then-not-are_alike-clause-refused
returns-then-not-are_alike-clause-refused c = refuses_unknown _ _ (
    unmergeable (lone c.args.self.now) c.args.p c.args.q _ _
    (permit-at (alone c.self.inside) (seen_alone c.self.view_is) c.args.p ∙ ap (option_map permit_of) (at-entries _ _ ∙ sym c.get_mut.ensures.value ∙ ap option_copied_mut c.in-Some-get_mut.is))
    (permit-at (alone c.self.inside) (seen_alone c.self.view_is) c.args.q ∙ ap (option_map permit_of) (at-entries _ _ ∙ sym c.get.ensures ∙ sym c.copied.ensures ∙ c.in-Some.is))
    (sym c.are_alike.ensures ∙ c.if-not-are_alike.true)) refl

pub returns-then-not-are_alike-clause-err : goal.returns-then-not-are_alike-clause-err
returns-then-not-are_alike-clause-err c = ap part_of (seen_store (alone c.self.inside) (seen_alone c.self.view_is) (
    written_back (alone c.self.inside) c.args.p c.in-Some-get_mut.permit.now _ (at-entries _ _ ∙ sym c.get_mut.ensures.value ∙ ap option_copied_mut c.in-Some-get_mut.is)
    (entries_put _ _ _ c.in-Some-get_mut.permit.now refl)))

pub overflow_add-permit : goal.overflow_add-permit
overflow_add-permit c =
    omega (
      arith,
      sizes_fit (entered (goal.at.overflow_add-permit c).In-Some-get_mut) c.args.p c.args.q c.if-p-q.false c.in-Some-get_mut.permit.now c.in-Some.other
          (at-entries _ _ ∙ sym c.get_mut.ensures.value ∙ ap option_copied_mut c.in-Some-get_mut.is) (at-entries _ _ ∙ sym c.get.ensures ∙ sym c.copied.ensures ∙ c.in-Some.is)
          (sym c.are_alike.ensures ∙ c.if-not-are_alike.false),
    )

pub unreachable-requires : goal.unreachable-requires
unreachable-requires c =
    home_living (alone c.self.inside) c.args.q c.self.invariant (at-entries _ _ ∙ sym c.get.ensures ∙ sym c.copied.ensures ∙ c.in-Some.is)
    (sym c.get_mut-2.ensures.value ∙ ap option_copied_mut c.in_default-get_mut-2.is)

pub discount-requires-clause-thing : goal.discount-requires-clause-thing
discount-requires-clause-thing c = permit_thing (met (goal.at.discount-requires-clause-thing c).In-Some-get_mut-2)

pub discount-requires-clause-plain : goal.discount-requires-clause-plain
discount-requires-clause-plain c = permit_counted (met (goal.at.discount-requires-clause-plain c).In-Some-get_mut-2)

pub invariant_of-self-2 : goal.invariant_of-self-2
invariant_of-self-2 c =
    let w = (goal.at.invariant_of-self-2 c).In-Some-get_mut-2 in
    let grown : PermitEntry = record c.in-Some-get_mut.permit.now { size = c.in-Some-get_mut.permit.now.size + c.in-Some.other.size } in
    own ((merged (met w).meets c.args.p c.args.q c.if-p-q.false c.in-Some-get_mut.permit.now c.in-Some.other
    (at-entries _ _ ∙ sym c.get_mut.ensures.value ∙ ap option_copied_mut c.in-Some-get_mut.is) (met w).is (sym c.are_alike.ensures ∙ c.if-not-are_alike.false)
    _ _ _ c.in-Some-get_mut-2.entry.now c.discount.new.self (met w).there
    c.discount.ensures (beside (alone c.self.inside) _ _ _ ((c.get_mut-2.follows.holds c.discount.new.self).3 (search rules)).0)
    (entries_put _ _ _ grown refl) (entries_gone _ _ _ c.take-other.ensures.rest)).kept)

pub returns-clause-played : goal.returns-clause-played
returns-clause-played c =
    let w = (goal.at.returns-clause-played c).In-Some-get_mut-2 in
    let grown : PermitEntry = record c.in-Some-get_mut.permit.now { size = c.in-Some-get_mut.permit.now.size + c.in-Some.other.size } in
    (rests (met w).meets refl (merged (met w).meets c.args.p c.args.q c.if-p-q.false c.in-Some-get_mut.permit.now c.in-Some.other
    (at-entries _ _ ∙ sym c.get_mut.ensures.value ∙ ap option_copied_mut c.in-Some-get_mut.is) (met w).is (sym c.are_alike.ensures ∙ c.if-not-are_alike.false)
    _ _ _ c.in-Some-get_mut-2.entry.now c.discount.new.self (met w).there
    c.discount.ensures (beside (alone c.self.inside) _ _ _ ((c.get_mut-2.follows.holds c.discount.new.self).3 (search rules)).0)
    (entries_put _ _ _ grown refl) (entries_gone _ _ _ c.take-other.ensures.rest)))

pub returns-clause-allowed : goal.returns-clause-allowed
returns-clause-allowed c =
    may_merge (entered (goal.at.returns-clause-allowed c).In-Some-get_mut) c.args.p c.args.q c.if-p-q.false c.in-Some-get_mut.permit.now c.in-Some.other
    (at-entries _ _ ∙ sym c.get_mut.ensures.value ∙ ap option_copied_mut c.in-Some-get_mut.is) (at-entries _ _ ∙ sym c.get.ensures ∙ sym c.copied.ensures ∙ c.in-Some.is)
    (sym c.are_alike.ensures ∙ c.if-not-are_alike.false)
