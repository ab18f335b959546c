use Rattle.std.proofs.Common.{Some, rules, refl, ap, sym, ◌∙◌}
use Rattle.mea_share_model.specs.Actions.{Drop}
use Rattle.mea_share.proofs.Sites.{site, unknown, refuses}
use Rattle.mea_share.proofs.LookUps.{over_put}
use Rattle.mea_share.proofs.Events.{unchanged, drop_unknown, drops, drop_cause}
use Rattle.mea_share.proofs.part.SharePart.end_name.Goals as goal

pub returns-in_default : goal.returns-in_default
returns-in_default c = (unknown (site c.self.inside.admissions c.self.inside.futures c.self.inside.permits.things c.self.inside.next c.self.view_is c.self.invariant c.requires c.ranges.number.fits) (Drop c.args.o) (drop_unknown (site c.self.inside.admissions c.self.inside.futures c.self.inside.permits.things c.self.inside.next c.self.view_is c.self.invariant c.requires c.ranges.number.fits) c.args.o (sym c.in_default.ensures.value)), search rules)

pub invariant_of-self-in-Some-cause_of_drop : goal.invariant_of-self-in-Some-cause_of_drop
invariant_of-self-in-Some-cause_of_drop c = (unchanged (site c.self.inside.admissions c.self.inside.futures c.self.inside.permits.things c.self.inside.next c.self.view_is c.self.invariant c.requires c.ranges.number.fits) c.args.o c.in-Some.entry.now (sym c.in-Some.ensures.value) c.in-Some.entry.now refl).0

pub returns-in-Some-cause_of_drop : goal.returns-in-Some-cause_of_drop
returns-in-Some-cause_of_drop c = (refuses (site c.self.inside.admissions c.self.inside.futures c.self.inside.permits.things c.self.inside.next c.self.view_is c.self.invariant c.requires c.ranges.number.fits) (Drop c.args.o) c.in-Some-cause_of_drop.stop (drop_cause (site c.self.inside.admissions c.self.inside.futures c.self.inside.permits.things c.self.inside.next c.self.view_is c.self.invariant c.requires c.ranges.number.fits) c.args.o c.in-Some.entry.now (sym c.in-Some.ensures.value) ∙ sym c.in-Some-cause_of_drop.ensures.is) (λ no. c.in-Some-cause_of_drop.ensures.tells (ap (λ s. Some s) no)), (unchanged (site c.self.inside.admissions c.self.inside.futures c.self.inside.permits.things c.self.inside.next c.self.view_is c.self.invariant c.requires c.ranges.number.fits) c.args.o c.in-Some.entry.now (sym c.in-Some.ensures.value) c.in-Some.entry.now refl).1)

pub remove_if-requires : goal.remove_if-requires
remove_if-requires c = λ over. over_put (site c.self.inside.admissions c.self.inside.futures c.self.inside.permits.things c.self.inside.next c.self.view_is c.self.invariant c.requires c.ranges.number.fits) c.args.o c.unname.new.self

pub invariant_of-self-2 : goal.invariant_of-self-2
invariant_of-self-2 c = rw (c.remove_if.ensures, c.is_over-over.ensures, c.unname.ensures) (drops (site c.self.inside.admissions c.self.inside.futures c.self.inside.permits.things c.self.inside.next c.self.view_is c.self.invariant c.requires c.ranges.number.fits) c.args.o c.in-Some.entry.now (sym c.in-Some.ensures.value) (drop_cause (site c.self.inside.admissions c.self.inside.futures c.self.inside.permits.things c.self.inside.next c.self.view_is c.self.invariant c.requires c.ranges.number.fits) c.args.o c.in-Some.entry.now (sym c.in-Some.ensures.value) ∙ sym c.in_default-cause_of_drop.ensures.is)).0

pub returns : goal.returns
returns c = rw (c.remove_if.ensures, c.is_over-over.ensures, c.unname.ensures) (drops (site c.self.inside.admissions c.self.inside.futures c.self.inside.permits.things c.self.inside.next c.self.view_is c.self.invariant c.requires c.ranges.number.fits) c.args.o c.in-Some.entry.now (sym c.in-Some.ensures.value) (drop_cause (site c.self.inside.admissions c.self.inside.futures c.self.inside.permits.things c.self.inside.next c.self.view_is c.self.invariant c.requires c.ranges.number.fits) c.args.o c.in-Some.entry.now (sym c.in-Some.ensures.value) ∙ sym c.in_default-cause_of_drop.ensures.is)).1
