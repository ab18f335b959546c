use Rattle.std.proofs.Common.{refl, sym}
use Rattle.mea_share_model.specs.Actions.{End}
use Rattle.mea_share.proofs.Sites.{site, unknown}
use Rattle.mea_share.proofs.LookUps.{without_permit, ends_nothing, its_room, over_put, future_none}
use Rattle.mea_share.proofs.Events.{good, permit_lives, permit_counts, ends_permit}
use Rattle.mea_share.proofs.part.SharePart.end_permit.Goals as goal

pub invariant_of-self : goal.invariant_of-self
invariant_of-self c = rw c.take.ensures.things (without_permit (site c.self.inside.admissions c.self.inside.futures c.self.inside.permits.things c.self.inside.next c.self.view_is c.self.invariant c.requires.next c.ranges.number.fits) c.args.p (sym c.in_default.ensures.value)).0

pub returns-in_default : goal.returns-in_default
returns-in_default c = (unknown (site c.self.inside.admissions c.self.inside.futures c.self.inside.permits.things c.self.inside.next c.self.view_is c.self.invariant c.requires.next c.ranges.number.fits) (End c.args.p) (ends_nothing (site c.self.inside.admissions c.self.inside.futures c.self.inside.permits.things c.self.inside.next c.self.view_is c.self.invariant c.requires.next c.ranges.number.fits) c.args.p (future_none (site c.self.inside.admissions c.self.inside.futures c.self.inside.permits.things c.self.inside.next c.self.view_is c.self.invariant c.requires.next c.ranges.number.fits) c.args.p c.requires.apart) (sym c.in_default.ensures.value)), rw c.take.ensures.things (without_permit (site c.self.inside.admissions c.self.inside.futures c.self.inside.permits.things c.self.inside.next c.self.view_is c.self.invariant c.requires.next c.ranges.number.fits) c.args.p (sym c.in_default.ensures.value)).1, refl)

pub end_permit-requires : goal.end_permit-requires
end_permit-requires c = record { lives = rw c.key.ensures (permit_lives (site c.self.inside.admissions c.self.inside.futures c.self.inside.permits.things c.self.inside.next c.self.view_is c.self.invariant c.requires.next c.ranges.number.fits) c.admission-o.result c.at_mut-entry.result.now c.at_mut-entry.ensures.value c.args.p c.in-Some.permit (sym c.in-Some.ensures.value) (sym c.admission-o.ensures)); quiet = (good (site c.self.inside.admissions c.self.inside.futures c.self.inside.permits.things c.self.inside.next c.self.view_is c.self.invariant c.requires.next c.ranges.number.fits) c.admission-o.result c.at_mut-entry.result.now c.at_mut-entry.ensures.value).quiet; room = its_room (site c.self.inside.admissions c.self.inside.futures c.self.inside.permits.things c.self.inside.next c.self.view_is c.self.invariant c.requires.next c.ranges.number.fits) c.admission-o.result c.at_mut-entry.result.now c.args.ready.now c.at_mut-entry.ensures.value c.requires.room }

pub finish-requires : goal.finish-requires
finish-requires c = record { things = rw c.end_permit.ensures.2.rest (permit_counts (site c.self.inside.admissions c.self.inside.futures c.self.inside.permits.things c.self.inside.next c.self.view_is c.self.invariant c.requires.next c.ranges.number.fits) c.admission-o.result c.at_mut-entry.result.now c.at_mut-entry.ensures.value c.args.p c.in-Some.permit (sym c.in-Some.ensures.value) (sym c.admission-o.ensures)).0; plain = rw (c.end_permit.ensures.2.rest, c.is_plain.ensures) (permit_counts (site c.self.inside.admissions c.self.inside.futures c.self.inside.permits.things c.self.inside.next c.self.view_is c.self.invariant c.requires.next c.ranges.number.fits) c.admission-o.result c.at_mut-entry.result.now c.at_mut-entry.ensures.value c.args.p c.in-Some.permit (sym c.in-Some.ensures.value) (sym c.admission-o.ensures)).1 }

pub remove_if-requires : goal.remove_if-requires
remove_if-requires c = λ over. over_put (site c.self.inside.admissions c.self.inside.futures c.self.inside.permits.things c.self.inside.next c.self.view_is c.self.invariant c.requires.next c.ranges.number.fits) c.admission-o.result c.finish.new.self

pub invariant_of-self-2 : goal.invariant_of-self-2
invariant_of-self-2 c = rw (c.remove_if.ensures, c.is_over-over.ensures, c.finish.ensures, c.take.ensures.things, c.is_plain.ensures)
    (ends_permit (site c.self.inside.admissions c.self.inside.futures c.self.inside.permits.things c.self.inside.next c.self.view_is c.self.invariant c.requires.next c.ranges.number.fits) c.admission-o.result c.at_mut-entry.result.now c.at_mut-entry.ensures.value c.args.p c.in-Some.permit (sym c.in-Some.ensures.value) (sym c.admission-o.ensures) c.end_permit.new.self c.args.ready.now c.end_permit.new.ready (future_none (site c.self.inside.admissions c.self.inside.futures c.self.inside.permits.things c.self.inside.next c.self.view_is c.self.invariant c.requires.next c.ranges.number.fits) c.args.p c.requires.apart) (rw c.key.ensures at c.end_permit.ensures)).0

pub returns : goal.returns
returns c = rw (c.remove_if.ensures, c.is_over-over.ensures, c.finish.ensures, c.take.ensures.things, c.is_plain.ensures)
    (ends_permit (site c.self.inside.admissions c.self.inside.futures c.self.inside.permits.things c.self.inside.next c.self.view_is c.self.invariant c.requires.next c.ranges.number.fits) c.admission-o.result c.at_mut-entry.result.now c.at_mut-entry.ensures.value c.args.p c.in-Some.permit (sym c.in-Some.ensures.value) (sym c.admission-o.ensures) c.end_permit.new.self c.args.ready.now c.end_permit.new.ready (future_none (site c.self.inside.admissions c.self.inside.futures c.self.inside.permits.things c.self.inside.next c.self.view_is c.self.invariant c.requires.next c.ranges.number.fits) c.args.p c.requires.apart) (rw c.key.ensures at c.end_permit.ensures)).1
