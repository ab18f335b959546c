use Rattle.std.proofs.Common.{rules, true, false, refl, ap, sym, ◌∙◌, arith}
use Rattle.mea_family.specs.Causes.{unknown_unless}
use Rattle.mea_family.specs.Forms.{is_plain}
use Rattle.mea_share_model.specs.Actions.{Try}
use Rattle.mea_share_core.specs.Fair.{Fair}
use Rattle.mea_share.specs.Kept.{KeptAdmission}
use Rattle.mea_share.proofs.Sites.{site, nameless, unknown, lacks_memory}
use Rattle.mea_share.proofs.Events.{unchanged, few_things, use_cause, holds_one, lacks, not_tried}
use Rattle.mea_share.proofs.part.SharePart.try_acquire.Goals as goal

pub returns-in_default : goal.returns-in_default
returns-in_default c = (unknown (site c.self.inside.admissions c.self.inside.futures c.self.inside.permits.things c.self.inside.next c.self.view_is c.self.invariant c.requires c.ranges.number.fits) (Try c.args.o c.args.k (is_plain c.args.form)) (ap unknown_unless (nameless (site c.self.inside.admissions c.self.inside.futures c.self.inside.permits.things c.self.inside.next c.self.view_is c.self.invariant c.requires c.ranges.number.fits) c.args.o (sym c.in_default.ensures.value))), search rules)

pub invariant_of-self-then-not-is_named : goal.invariant_of-self-then-not-is_named
invariant_of-self-then-not-is_named c = (unchanged (site c.self.inside.admissions c.self.inside.futures c.self.inside.permits.things c.self.inside.next c.self.view_is c.self.invariant c.requires c.ranges.number.fits) c.args.o c.in-Some.entry.now (sym c.in-Some.ensures.value) c.in-Some.entry.now refl).0

pub returns-then-not-is_named : goal.returns-then-not-is_named
returns-then-not-is_named c = (unknown (site c.self.inside.admissions c.self.inside.futures c.self.inside.permits.things c.self.inside.next c.self.view_is c.self.invariant c.requires c.ranges.number.fits) (Try c.args.o c.args.k (is_plain c.args.form)) (use_cause (site c.self.inside.admissions c.self.inside.futures c.self.inside.permits.things c.self.inside.next c.self.view_is c.self.invariant c.requires c.ranges.number.fits) c.args.o c.in-Some.entry.now (sym c.in-Some.ensures.value) false (sym c.is_named.ensures ∙ c.if-not-is_named.true)), (unchanged (site c.self.inside.admissions c.self.inside.futures c.self.inside.permits.things c.self.inside.next c.self.view_is c.self.invariant c.requires c.ranges.number.fits) c.args.o c.in-Some.entry.now (sym c.in-Some.ensures.value) c.in-Some.entry.now refl).1)

pub invariant_of-self-in_default-new : goal.invariant_of-self-in_default-new
invariant_of-self-in_default-new c = (unchanged (site c.self.inside.admissions c.self.inside.futures c.self.inside.permits.things c.self.inside.next c.self.view_is c.self.invariant c.requires c.ranges.number.fits) c.args.o c.in-Some.entry.now (sym c.in-Some.ensures.value) c.in-Some.entry.now refl).0

pub returns-in_default-new : goal.returns-in_default-new
returns-in_default-new c = (lacks_memory (site c.self.inside.admissions c.self.inside.futures c.self.inside.permits.things c.self.inside.next c.self.view_is c.self.invariant c.requires c.ranges.number.fits) (Try c.args.o c.args.k (is_plain c.args.form)) (use_cause (site c.self.inside.admissions c.self.inside.futures c.self.inside.permits.things c.self.inside.next c.self.view_is c.self.invariant c.requires c.ranges.number.fits) c.args.o c.in-Some.entry.now (sym c.in-Some.ensures.value) true (sym c.is_named.ensures ∙ c.if-not-is_named.false)) (λ no. no), (unchanged (site c.self.inside.admissions c.self.inside.futures c.self.inside.permits.things c.self.inside.next c.self.view_is c.self.invariant c.requires c.ranges.number.fits) c.args.o c.in-Some.entry.now (sym c.in-Some.ensures.value) c.in-Some.entry.now refl).1)

pub invariant_of-self-in_default-reserve : goal.invariant_of-self-in_default-reserve
invariant_of-self-in_default-reserve c = rw c.reserve.ensures.things (unchanged (site c.self.inside.admissions c.self.inside.futures c.self.inside.permits.things c.self.inside.next c.self.view_is c.self.invariant c.requires c.ranges.number.fits) c.args.o c.in-Some.entry.now (sym c.in-Some.ensures.value) c.in-Some.entry.now refl).0

pub returns-in_default-reserve : goal.returns-in_default-reserve
returns-in_default-reserve c = rw c.reserve.ensures.things (lacks_memory (site c.self.inside.admissions c.self.inside.futures c.self.inside.permits.things c.self.inside.next c.self.view_is c.self.invariant c.requires c.ranges.number.fits) (Try c.args.o c.args.k (is_plain c.args.form)) (use_cause (site c.self.inside.admissions c.self.inside.futures c.self.inside.permits.things c.self.inside.next c.self.view_is c.self.invariant c.requires c.ranges.number.fits) c.args.o c.in-Some.entry.now (sym c.in-Some.ensures.value) true (sym c.is_named.ensures ∙ c.if-not-is_named.false)) (λ no. no), (unchanged (site c.self.inside.admissions c.self.inside.futures c.self.inside.permits.things c.self.inside.next c.self.view_is c.self.invariant c.requires c.ranges.number.fits) c.args.o c.in-Some.entry.now (sym c.in-Some.ensures.value) c.in-Some.entry.now refl).1)

pub invariant_of-self-then-available_permits-eq0 : goal.invariant_of-self-then-available_permits-eq0
invariant_of-self-then-available_permits-eq0 c = (lacks (site c.self.inside.admissions c.self.inside.futures c.self.inside.permits.things c.self.inside.next c.self.view_is c.self.invariant c.requires c.ranges.number.fits) c.args.o c.in-Some.entry.now (sym c.in-Some.ensures.value) (is_plain c.args.form) c.args.k (use_cause (site c.self.inside.admissions c.self.inside.futures c.self.inside.permits.things c.self.inside.next c.self.view_is c.self.invariant c.requires c.ranges.number.fits) c.args.o c.in-Some.entry.now (sym c.in-Some.ensures.value) true (sym c.is_named.ensures ∙ c.if-not-is_named.false)) (sym (c.available_permits.ensures.is ∙ (ap (λ (f : Fair _ _). f.free) c.core.ensures)) ∙ c.if-available_permits-eq0.true)).0

pub returns-then-available_permits-eq0 : goal.returns-then-available_permits-eq0
returns-then-available_permits-eq0 c = (lacks (site c.self.inside.admissions c.self.inside.futures c.self.inside.permits.things c.self.inside.next c.self.view_is c.self.invariant c.requires c.ranges.number.fits) c.args.o c.in-Some.entry.now (sym c.in-Some.ensures.value) (is_plain c.args.form) c.args.k (use_cause (site c.self.inside.admissions c.self.inside.futures c.self.inside.permits.things c.self.inside.next c.self.view_is c.self.invariant c.requires c.ranges.number.fits) c.args.o c.in-Some.entry.now (sym c.in-Some.ensures.value) true (sym c.is_named.ensures ∙ c.if-not-is_named.false)) (sym (c.available_permits.ensures.is ∙ (ap (λ (f : Fair _ _). f.free) c.core.ensures)) ∙ c.if-available_permits-eq0.true)).1

pub invariant_of-self-in_default-take : goal.invariant_of-self-in_default-take
invariant_of-self-in_default-take c = rw c.reserve.ensures.things (not_tried (site c.self.inside.admissions c.self.inside.futures c.self.inside.permits.things c.self.inside.next c.self.view_is c.self.invariant c.requires c.ranges.number.fits) c.args.o c.in-Some.entry.now (sym c.in-Some.ensures.value) c.take.new.self c.in_default-take.ensures.err).0

pub returns-in_default-take : goal.returns-in_default-take
returns-in_default-take c = rw c.reserve.ensures.things (lacks_memory (site c.self.inside.admissions c.self.inside.futures c.self.inside.permits.things c.self.inside.next c.self.view_is c.self.invariant c.requires c.ranges.number.fits) (Try c.args.o c.args.k (is_plain c.args.form)) (use_cause (site c.self.inside.admissions c.self.inside.futures c.self.inside.permits.things c.self.inside.next c.self.view_is c.self.invariant c.requires c.ranges.number.fits) c.args.o c.in-Some.entry.now (sym c.in-Some.ensures.value) true (sym c.is_named.ensures ∙ c.if-not-is_named.false)) (λ no. no), (not_tried (site c.self.inside.admissions c.self.inside.futures c.self.inside.permits.things c.self.inside.next c.self.view_is c.self.invariant c.requires c.ranges.number.fits) c.args.o c.in-Some.entry.now (sym c.in-Some.ensures.value) c.take.new.self c.in_default-take.ensures.err).1)

pub begin-requires-clause-plain : goal.begin-requires-clause-plain
begin-requires-clause-plain c =
    let same = ap (λ (d : KeptAdmission). d.plain) c.in-Ok-take.ensures.took.rest in
    omega (arith, same, (few_things (site c.self.inside.admissions c.self.inside.futures c.self.inside.permits.things c.self.inside.next c.self.view_is c.self.invariant c.requires c.ranges.number.fits) c.args.o c.in-Some.entry.now (sym c.in-Some.ensures.value)).1)

pub invariant_of-self-2 : goal.invariant_of-self-2
invariant_of-self-2 c = rw (c.begin.ensures, c.insert.ensures.things, c.reserve.ensures.things, c.in-Ok.ensures.1) (holds_one (site c.self.inside.admissions c.self.inside.futures c.self.inside.permits.things c.self.inside.next c.self.view_is c.self.invariant c.requires c.ranges.number.fits) c.args.o c.in-Some.entry.now (sym c.in-Some.ensures.value) c.is_plain-plain.result _ c.args.k c.take.new.self (use_cause (site c.self.inside.admissions c.self.inside.futures c.self.inside.permits.things c.self.inside.next c.self.view_is c.self.invariant c.requires c.ranges.number.fits) c.args.o c.in-Some.entry.now (sym c.in-Some.ensures.value) true (sym c.is_named.ensures ∙ c.if-not-is_named.false)) (λ none. c.if-available_permits-eq0.false (c.available_permits.ensures.is ∙ (ap (λ (f : Fair _ _). f.free) c.core.ensures) ∙ none)) (rw c.in-Ok.ensures.0 at c.in-Ok-take.ensures.took)).0

pub returns : goal.returns
returns c = rw (← c.is_plain-plain.ensures, c.begin.ensures, c.insert.ensures.things, c.reserve.ensures.things, c.in-Ok.ensures.1) (holds_one (site c.self.inside.admissions c.self.inside.futures c.self.inside.permits.things c.self.inside.next c.self.view_is c.self.invariant c.requires c.ranges.number.fits) c.args.o c.in-Some.entry.now (sym c.in-Some.ensures.value) c.is_plain-plain.result _ c.args.k c.take.new.self (use_cause (site c.self.inside.admissions c.self.inside.futures c.self.inside.permits.things c.self.inside.next c.self.view_is c.self.invariant c.requires c.ranges.number.fits) c.args.o c.in-Some.entry.now (sym c.in-Some.ensures.value) true (sym c.is_named.ensures ∙ c.if-not-is_named.false)) (λ none. c.if-available_permits-eq0.false (c.available_permits.ensures.is ∙ (ap (λ (f : Fair _ _). f.free) c.core.ensures) ∙ none)) (rw c.in-Ok.ensures.0 at c.in-Ok-take.ensures.took)).1
