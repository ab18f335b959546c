use Rattle.std.proofs.Common.{rules, true, false, refl, ap, sym, ◌∙◌}
use Rattle.mea_family.specs.Causes.{unknown_unless}
use Rattle.mea_family.specs.Forms.{is_plain}
use Rattle.mea_share_model.specs.Actions.{Begin}
use Rattle.mea_share.proofs.Sites.{site, nameless, unknown, lacks_memory}
use Rattle.mea_share.proofs.Events.{unchanged, few_things, use_cause, begins_one}
use Rattle.mea_share.proofs.part.SharePart.begin.Goals as goal

pub returns-in_default : goal.returns-in_default
returns-in_default c = (unknown (site c.self.inside.admissions c.self.inside.futures c.self.inside.permits.things c.self.inside.next c.self.view_is c.self.invariant c.requires c.ranges.number.fits) (Begin c.args.o c.args.k (is_plain c.args.form)) (ap unknown_unless (nameless (site c.self.inside.admissions c.self.inside.futures c.self.inside.permits.things c.self.inside.next c.self.view_is c.self.invariant c.requires c.ranges.number.fits) c.args.o (sym c.in_default.ensures.value))), search rules)

pub invariant_of-self-then-not-is_named : goal.invariant_of-self-then-not-is_named
invariant_of-self-then-not-is_named c = (unchanged (site c.self.inside.admissions c.self.inside.futures c.self.inside.permits.things c.self.inside.next c.self.view_is c.self.invariant c.requires c.ranges.number.fits) c.args.o c.in-Some.entry.now (sym c.in-Some.ensures.value) c.in-Some.entry.now refl).0

pub returns-then-not-is_named : goal.returns-then-not-is_named
returns-then-not-is_named c = (unknown (site c.self.inside.admissions c.self.inside.futures c.self.inside.permits.things c.self.inside.next c.self.view_is c.self.invariant c.requires c.ranges.number.fits) (Begin c.args.o c.args.k (is_plain c.args.form)) (use_cause (site c.self.inside.admissions c.self.inside.futures c.self.inside.permits.things c.self.inside.next c.self.view_is c.self.invariant c.requires c.ranges.number.fits) c.args.o c.in-Some.entry.now (sym c.in-Some.ensures.value) false (sym c.is_named.ensures ∙ c.if-not-is_named.true)), (unchanged (site c.self.inside.admissions c.self.inside.futures c.self.inside.permits.things c.self.inside.next c.self.view_is c.self.invariant c.requires c.ranges.number.fits) c.args.o c.in-Some.entry.now (sym c.in-Some.ensures.value) c.in-Some.entry.now refl).1)

pub invariant_of-self-in_default-new : goal.invariant_of-self-in_default-new
invariant_of-self-in_default-new c = (unchanged (site c.self.inside.admissions c.self.inside.futures c.self.inside.permits.things c.self.inside.next c.self.view_is c.self.invariant c.requires c.ranges.number.fits) c.args.o c.in-Some.entry.now (sym c.in-Some.ensures.value) c.in-Some.entry.now refl).0

pub returns-in_default-new : goal.returns-in_default-new
returns-in_default-new c = (lacks_memory (site c.self.inside.admissions c.self.inside.futures c.self.inside.permits.things c.self.inside.next c.self.view_is c.self.invariant c.requires c.ranges.number.fits) (Begin c.args.o c.args.k (is_plain c.args.form)) (use_cause (site c.self.inside.admissions c.self.inside.futures c.self.inside.permits.things c.self.inside.next c.self.view_is c.self.invariant c.requires c.ranges.number.fits) c.args.o c.in-Some.entry.now (sym c.in-Some.ensures.value) true (sym c.is_named.ensures ∙ c.if-not-is_named.false)) (λ no. no), (unchanged (site c.self.inside.admissions c.self.inside.futures c.self.inside.permits.things c.self.inside.next c.self.view_is c.self.invariant c.requires c.ranges.number.fits) c.args.o c.in-Some.entry.now (sym c.in-Some.ensures.value) c.in-Some.entry.now refl).1)

pub invariant_of-self-in_default-insert : goal.invariant_of-self-in_default-insert
invariant_of-self-in_default-insert c = rw c.in_default-insert.ensures.err (unchanged (site c.self.inside.admissions c.self.inside.futures c.self.inside.permits.things c.self.inside.next c.self.view_is c.self.invariant c.requires c.ranges.number.fits) c.args.o c.in-Some.entry.now (sym c.in-Some.ensures.value) c.in-Some.entry.now refl).0

pub returns-in_default-insert : goal.returns-in_default-insert
returns-in_default-insert c = rw c.in_default-insert.ensures.err (lacks_memory (site c.self.inside.admissions c.self.inside.futures c.self.inside.permits.things c.self.inside.next c.self.view_is c.self.invariant c.requires c.ranges.number.fits) (Begin c.args.o c.args.k (is_plain c.args.form)) (use_cause (site c.self.inside.admissions c.self.inside.futures c.self.inside.permits.things c.self.inside.next c.self.view_is c.self.invariant c.requires c.ranges.number.fits) c.args.o c.in-Some.entry.now (sym c.in-Some.ensures.value) true (sym c.is_named.ensures ∙ c.if-not-is_named.false)) (λ no. no), (unchanged (site c.self.inside.admissions c.self.inside.futures c.self.inside.permits.things c.self.inside.next c.self.view_is c.self.invariant c.requires c.ranges.number.fits) c.args.o c.in-Some.entry.now (sym c.in-Some.ensures.value) c.in-Some.entry.now refl).1)

pub begin-requires-clause-plain : goal.begin-requires-clause-plain
begin-requires-clause-plain c = (few_things (site c.self.inside.admissions c.self.inside.futures c.self.inside.permits.things c.self.inside.next c.self.view_is c.self.invariant c.requires c.ranges.number.fits) c.args.o c.in-Some.entry.now (sym c.in-Some.ensures.value)).1

pub invariant_of-self-2 : goal.invariant_of-self-2
invariant_of-self-2 c = rw (c.begin.ensures, c.in-Ok-insert.ensures.ok) (begins_one (site c.self.inside.admissions c.self.inside.futures c.self.inside.permits.things c.self.inside.next c.self.view_is c.self.invariant c.requires c.ranges.number.fits) c.args.o c.in-Some.entry.now (sym c.in-Some.ensures.value) c.is_plain-plain.result c.args.k c.new-2.result (use_cause (site c.self.inside.admissions c.self.inside.futures c.self.inside.permits.things c.self.inside.next c.self.view_is c.self.invariant c.requires c.ranges.number.fits) c.args.o c.in-Some.entry.now (sym c.in-Some.ensures.value) true (sym c.is_named.ensures ∙ c.if-not-is_named.false)) (rw c.in-Ok.ensures.ok at c.new-2.ensures)).0

pub returns : goal.returns
returns c = rw (← c.is_plain-plain.ensures) (rw (c.begin.ensures, c.in-Ok-insert.ensures.ok) (begins_one (site c.self.inside.admissions c.self.inside.futures c.self.inside.permits.things c.self.inside.next c.self.view_is c.self.invariant c.requires c.ranges.number.fits) c.args.o c.in-Some.entry.now (sym c.in-Some.ensures.value) c.is_plain-plain.result c.args.k c.new-2.result (use_cause (site c.self.inside.admissions c.self.inside.futures c.self.inside.permits.things c.self.inside.next c.self.view_is c.self.invariant c.requires c.ranges.number.fits) c.args.o c.in-Some.entry.now (sym c.in-Some.ensures.value) true (sym c.is_named.ensures ∙ c.if-not-is_named.false)) (rw c.in-Ok.ensures.ok at c.new-2.ensures)).1)
