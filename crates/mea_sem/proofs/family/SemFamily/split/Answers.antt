use Rattle.std.proofs.Common.{◌≡◌, inl, inr, refl, rules, ◌+◌, ◌-◌, sym, ap, ◌∙◌, arith}
use Rattle.std.specs.Option.{option_copied_mut}
use Rattle.std.specs.FinMap.{entries}
use Rattle.mea_base.proofs.Maps.{inside}
use Rattle.mea_sem.specs.declared.entries.PermitEntry.{PermitEntry}
use Rattle.mea_sem.proofs.Things.{at-entries, entries_put, stands_put}
use Rattle.mea_sem.proofs.Meets.{Meets, MeetsPermit, kept_as_permits, kept_store, seen_store, permits_semaphore}
use Rattle.mea_sem.proofs.Refusals.{permit_known, permit_unknown}
use Rattle.mea_sem.proofs.StandingSemaphores.{plain_fits, things_fit}
use Rattle.mea_sem.proofs.StandingPermits.{home_living, too_small, halved, undone}
use Rattle.mea_sem.proofs.Endings.{living_in, beside}
use Rattle.mea_sem.proofs.Lists.{alone, own, rests}
use Rattle.mea_sem.proofs.Inside.{lone, part_of, seen_alone}
use Rattle.mea_sem.proofs.family.SemFamily.split.Goals as goal
use Rattle.mea_sem.proofs.family.SemFamily.split.Goals.{In-Some, In-Some-get_mut-2}

entered : (c : In-Some) → Meets (alone c.self.inside) (lone c.args.self.now) c.args.number
entered c = record { seen = (seen_alone c.self.view_is); kept = c.self.invariant; least = c.requires; low = omega arith }

-- the permit and its semaphore, as they were found
met : (c : In-Some-get_mut-2) → MeetsPermit (alone c.self.inside) (lone c.args.self.now) c.args.number c.args.p c.in-Some.permit.now c.in-Some-get_mut-2.entry.now
met c = record {
  meets = record { seen = (seen_alone c.self.view_is); kept = c.self.invariant; least = c.requires; low = omega arith };
  is = at-entries _ _ ∙ sym c.get_mut.ensures.value ∙ ap option_copied_mut c.in-Some.is;
  there = living_in (alone c.self.inside) _ _ (sym c.get_mut-2.ensures.value ∙ ap option_copied_mut c.in-Some-get_mut-2.is);
}

pub invariant_of-self : goal.invariant_of-self
invariant_of-self c = own (kept_as_permits (alone c.self.inside) c.self.invariant (search rules))

pub returns-in_default-clause-refused : goal.returns-in_default-clause-refused
returns-in_default-clause-refused c = inl (permit_unknown (alone c.self.inside) (seen_alone c.self.view_is) c.args.p (at-entries _ _ ∙ sym c.get_mut.ensures.value ∙ ap option_copied_mut c.in_default.is))

-- ---- it is smaller
pub invariant_of-self-then-n-permit : goal.invariant_of-self-then-n-permit
invariant_of-self-then-n-permit c =
    own ((too_small (entered (goal.at.invariant_of-self-then-n-permit c).In-Some) c.args.p c.args.n c.in-Some.permit.now _
    (at-entries _ _ ∙ sym c.get_mut.ensures.value ∙ ap option_copied_mut c.in-Some.is) (entries_put _ _ _ c.in-Some.permit.now refl) c.if-n-permit.true).kept)

pub returns-then-n-permit-clause-played : goal.returns-then-n-permit-clause-played
returns-then-n-permit-clause-played c =
    (rests (entered (goal.at.returns-then-n-permit-clause-played c).In-Some) refl (too_small (entered (goal.at.returns-then-n-permit-clause-played c).In-Some) c.args.p c.args.n c.in-Some.permit.now _
    (at-entries _ _ ∙ sym c.get_mut.ensures.value ∙ ap option_copied_mut c.in-Some.is) (entries_put _ _ _ c.in-Some.permit.now refl) c.if-n-permit.true))

pub returns-then-n-permit-clause-allowed : goal.returns-then-n-permit-clause-allowed
returns-then-n-permit-clause-allowed c = permit_known (alone c.self.inside) (seen_alone c.self.view_is) c.args.p c.in-Some.permit.now (at-entries _ _ ∙ sym c.get_mut.ensures.value ∙ ap option_copied_mut c.in-Some.is)

-- ---- the part found no room
pub unreachable-requires : goal.unreachable-requires
unreachable-requires c =
    let there = stands_put c.self.inside.permits _ c.args.p _ c.in_default-insert.ensures.err in
    let none = sym c.get_mut-in_default-insert.ensures.value ∙ ap option_copied_mut c.in_default-get_mut.is in
    let both = sym none ∙ there in
    cc

pub overflow_add-permit : goal.overflow_add-permit
overflow_add-permit c =
    let smaller : PermitEntry = record c.in-Some.permit.now { size = c.in-Some.permit.now.size - c.args.n } in
    let there = stands_put c.self.inside.permits _ c.args.p smaller c.in_default-insert.ensures.err in
    let found : c.in-Some-get_mut.permit.now ≡ smaller = inside (sym (ap option_copied_mut c.in-Some-get_mut.is) ∙ c.get_mut-in_default-insert.ensures.value ∙ there) in
    omega (arith, ap (λ (x : PermitEntry). x.size) found, c.if-n-permit.false)

pub invariant_of-self-in_default-insert : goal.invariant_of-self-in_default-insert
invariant_of-self-in_default-insert c =
    let smaller : PermitEntry = record c.in-Some.permit.now { size = c.in-Some.permit.now.size - c.args.n } in
    let whole : PermitEntry = record c.in-Some-get_mut.permit.now { size = c.in-Some-get_mut.permit.now.size + c.args.n } in
    own (kept_store (alone c.self.inside) c.self.invariant (undone (alone c.self.inside) c.args.p c.args.n c.in-Some.permit.now c.in-Some-get_mut.permit.now _ _ _
    (at-entries _ _ ∙ sym c.get_mut.ensures.value ∙ ap option_copied_mut c.in-Some.is) (omega (arith, c.if-n-permit.false))
    (entries_put _ _ _ smaller refl) (ap entries c.in_default-insert.ensures.err)
    (at-entries _ _ ∙ sym c.get_mut-in_default-insert.ensures.value ∙ ap option_copied_mut c.in-Some-get_mut.is)
    (entries_put _ _ _ whole refl)))

pub returns-in_default-insert-clause-refused : goal.returns-in_default-insert-clause-refused
returns-in_default-insert-clause-refused c = inr (permit_known (alone c.self.inside) (seen_alone c.self.view_is) c.args.p c.in-Some.permit.now (at-entries _ _ ∙ sym c.get_mut.ensures.value ∙ ap option_copied_mut c.in-Some.is), refl)

pub returns-in_default-insert-clause-err : goal.returns-in_default-insert-clause-err
returns-in_default-insert-clause-err c =
    let smaller : PermitEntry = record c.in-Some.permit.now { size = c.in-Some.permit.now.size - c.args.n } in
    let whole : PermitEntry = record c.in-Some-get_mut.permit.now { size = c.in-Some-get_mut.permit.now.size + c.args.n } in
    ap part_of (seen_store (alone c.self.inside) (seen_alone c.self.view_is) (undone (alone c.self.inside) c.args.p c.args.n c.in-Some.permit.now c.in-Some-get_mut.permit.now _ _ _
    (at-entries _ _ ∙ sym c.get_mut.ensures.value ∙ ap option_copied_mut c.in-Some.is) (omega (arith, c.if-n-permit.false))
    (entries_put _ _ _ smaller refl) (ap entries c.in_default-insert.ensures.err)
    (at-entries _ _ ∙ sym c.get_mut-in_default-insert.ensures.value ∙ ap option_copied_mut c.in-Some-get_mut.is)
    (entries_put _ _ _ whole refl)))

-- ---- it is split
pub unreachable-requires-in_default-get_mut-2 : goal.unreachable-requires-in_default-get_mut-2
unreachable-requires-in_default-get_mut-2 c =
    home_living (alone c.self.inside) c.args.p c.self.invariant (at-entries _ _ ∙ sym c.get_mut.ensures.value ∙ ap option_copied_mut c.in-Some.is)
    (sym c.get_mut-2.ensures.value ∙ ap option_copied_mut c.in_default-get_mut-2.is)

pub count-requires : goal.count-requires
count-requires c = let m = met (goal.at.count-requires c).In-Some-get_mut-2 in record { few_things = things_fit (permits_semaphore m); few = plain_fits (permits_semaphore m) }

pub invariant_of-self-2 : goal.invariant_of-self-2
invariant_of-self-2 c =
    let smaller : PermitEntry = record c.in-Some.permit.now { size = c.in-Some.permit.now.size - c.args.n } in
    own ((halved (met (goal.at.invariant_of-self-2 c).In-Some-get_mut-2) _ _ _ c.args.n c.count.new.self (omega (arith, c.if-n-permit.false))
    c.count.ensures (beside (alone c.self.inside) _ _ _ ((c.get_mut-2.follows.holds c.count.new.self).3 (search rules)).0)
    (entries_put _ _ _ smaller refl) (entries_put _ _ _ _ c.in-Ok.ensures.ok)).kept)

pub returns-clause-played : goal.returns-clause-played
returns-clause-played c =
    let smaller : PermitEntry = record c.in-Some.permit.now { size = c.in-Some.permit.now.size - c.args.n } in
    (rests (met (goal.at.returns-clause-played c).In-Some-get_mut-2).meets refl (halved (met (goal.at.returns-clause-played c).In-Some-get_mut-2) _ _ _ c.args.n c.count.new.self (omega (arith, c.if-n-permit.false))
    c.count.ensures (beside (alone c.self.inside) _ _ _ ((c.get_mut-2.follows.holds c.count.new.self).3 (search rules)).0)
    (entries_put _ _ _ smaller refl) (entries_put _ _ _ _ c.in-Ok.ensures.ok)))

pub returns-clause-allowed : goal.returns-clause-allowed
returns-clause-allowed c = permit_known (alone c.self.inside) (seen_alone c.self.view_is) c.args.p c.in-Some.permit.now (at-entries _ _ ∙ sym c.get_mut.ensures.value ∙ ap option_copied_mut c.in-Some.is)
