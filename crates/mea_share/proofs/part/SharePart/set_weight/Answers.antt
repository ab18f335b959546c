use Rattle.std.proofs.Common.{Some, rules, refl, ap, sym, ◌∙◌}
use Rattle.mea_share_model.specs.Actions.{Weigh, zero_by}
use Rattle.mea_share.proofs.Sites.{site, nameless, unknown, refuses, lacks_memory}
use Rattle.mea_share.proofs.Events.{unchanged, weighs, weight_cause}
use Rattle.mea_share.proofs.part.SharePart.set_weight.Goals as goal

pub returns-in_default : goal.returns-in_default
returns-in_default c = (unknown (site c.self.inside.admissions c.self.inside.futures c.self.inside.permits.things c.self.inside.next c.self.view_is c.self.invariant c.requires c.ranges.number.fits) (Weigh c.args.o c.args.k c.args.weight) (ap (λ b. zero_by b c.args.weight) (nameless (site c.self.inside.admissions c.self.inside.futures c.self.inside.permits.things c.self.inside.next c.self.view_is c.self.invariant c.requires c.ranges.number.fits) c.args.o (sym c.in_default.ensures.value))), search rules)

pub invariant_of-self-in-Some-cause_of_weight : goal.invariant_of-self-in-Some-cause_of_weight
invariant_of-self-in-Some-cause_of_weight c = (unchanged (site c.self.inside.admissions c.self.inside.futures c.self.inside.permits.things c.self.inside.next c.self.view_is c.self.invariant c.requires c.ranges.number.fits) c.args.o c.in-Some.entry.now (sym c.in-Some.ensures.value) c.in-Some.entry.now refl).0

pub returns-in-Some-cause_of_weight : goal.returns-in-Some-cause_of_weight
returns-in-Some-cause_of_weight c = (refuses (site c.self.inside.admissions c.self.inside.futures c.self.inside.permits.things c.self.inside.next c.self.view_is c.self.invariant c.requires c.ranges.number.fits) (Weigh c.args.o c.args.k c.args.weight) c.in-Some-cause_of_weight.stop (weight_cause (site c.self.inside.admissions c.self.inside.futures c.self.inside.permits.things c.self.inside.next c.self.view_is c.self.invariant c.requires c.ranges.number.fits) c.args.o c.in-Some.entry.now (sym c.in-Some.ensures.value) c.args.k c.args.weight ∙ sym c.in-Some-cause_of_weight.ensures.is) (λ no. c.in-Some-cause_of_weight.ensures.tells (ap (λ s. Some s) no)), (unchanged (site c.self.inside.admissions c.self.inside.futures c.self.inside.permits.things c.self.inside.next c.self.view_is c.self.invariant c.requires c.ranges.number.fits) c.args.o c.in-Some.entry.now (sym c.in-Some.ensures.value) c.in-Some.entry.now refl).1)

pub invariant_of-self-in_default-new : goal.invariant_of-self-in_default-new
invariant_of-self-in_default-new c = (unchanged (site c.self.inside.admissions c.self.inside.futures c.self.inside.permits.things c.self.inside.next c.self.view_is c.self.invariant c.requires c.ranges.number.fits) c.args.o c.in-Some.entry.now (sym c.in-Some.ensures.value) c.in-Some.entry.now refl).0

pub returns-in_default-new : goal.returns-in_default-new
returns-in_default-new c = (lacks_memory (site c.self.inside.admissions c.self.inside.futures c.self.inside.permits.things c.self.inside.next c.self.view_is c.self.invariant c.requires c.ranges.number.fits) (Weigh c.args.o c.args.k c.args.weight) (weight_cause (site c.self.inside.admissions c.self.inside.futures c.self.inside.permits.things c.self.inside.next c.self.view_is c.self.invariant c.requires c.ranges.number.fits) c.args.o c.in-Some.entry.now (sym c.in-Some.ensures.value) c.args.k c.args.weight ∙ sym c.in_default-cause_of_weight.ensures.is) (λ no. no), (unchanged (site c.self.inside.admissions c.self.inside.futures c.self.inside.permits.things c.self.inside.next c.self.view_is c.self.invariant c.requires c.ranges.number.fits) c.args.o c.in-Some.entry.now (sym c.in-Some.ensures.value) c.in-Some.entry.now refl).1)

pub invariant_of-self-in_default-set_weight : goal.invariant_of-self-in_default-set_weight
invariant_of-self-in_default-set_weight c = (unchanged (site c.self.inside.admissions c.self.inside.futures c.self.inside.permits.things c.self.inside.next c.self.view_is c.self.invariant c.requires c.ranges.number.fits) c.args.o c.in-Some.entry.now (sym c.in-Some.ensures.value) c.set_weight.new.self c.in_default-set_weight.ensures.err).0

pub returns-in_default-set_weight : goal.returns-in_default-set_weight
returns-in_default-set_weight c = (lacks_memory (site c.self.inside.admissions c.self.inside.futures c.self.inside.permits.things c.self.inside.next c.self.view_is c.self.invariant c.requires c.ranges.number.fits) (Weigh c.args.o c.args.k c.args.weight) (weight_cause (site c.self.inside.admissions c.self.inside.futures c.self.inside.permits.things c.self.inside.next c.self.view_is c.self.invariant c.requires c.ranges.number.fits) c.args.o c.in-Some.entry.now (sym c.in-Some.ensures.value) c.args.k c.args.weight ∙ sym c.in_default-cause_of_weight.ensures.is) (λ no. no), (unchanged (site c.self.inside.admissions c.self.inside.futures c.self.inside.permits.things c.self.inside.next c.self.view_is c.self.invariant c.requires c.ranges.number.fits) c.args.o c.in-Some.entry.now (sym c.in-Some.ensures.value) c.set_weight.new.self c.in_default-set_weight.ensures.err).1)

pub invariant_of-self-2 : goal.invariant_of-self-2
invariant_of-self-2 c =
    let did = rw c.in-Ok.ensures.ok at c.in-Ok-set_weight.ensures.ok in
    (weighs (site c.self.inside.admissions c.self.inside.futures c.self.inside.permits.things c.self.inside.next c.self.view_is c.self.invariant c.requires c.ranges.number.fits) c.args.o c.in-Some.entry.now (sym c.in-Some.ensures.value) c.args.k c.args.weight c.set_weight.new.self (weight_cause (site c.self.inside.admissions c.self.inside.futures c.self.inside.permits.things c.self.inside.next c.self.view_is c.self.invariant c.requires c.ranges.number.fits) c.args.o c.in-Some.entry.now (sym c.in-Some.ensures.value) c.args.k c.args.weight ∙ sym c.in_default-cause_of_weight.ensures.is) did).0

pub returns : goal.returns
returns c =
    let did = rw c.in-Ok.ensures.ok at c.in-Ok-set_weight.ensures.ok in
    (weighs (site c.self.inside.admissions c.self.inside.futures c.self.inside.permits.things c.self.inside.next c.self.view_is c.self.invariant c.requires c.ranges.number.fits) c.args.o c.in-Some.entry.now (sym c.in-Some.ensures.value) c.args.k c.args.weight c.set_weight.new.self (weight_cause (site c.self.inside.admissions c.self.inside.futures c.self.inside.permits.things c.self.inside.next c.self.view_is c.self.invariant c.requires c.ranges.number.fits) c.args.o c.in-Some.entry.now (sym c.in-Some.ensures.value) c.args.k c.args.weight ∙ sym c.in_default-cause_of_weight.ensures.is) did).1
