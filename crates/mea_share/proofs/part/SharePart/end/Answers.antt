use Rattle.std.proofs.Common.{◌≡◌, ◌≤◌, sym, subst}
use Rattle.std.specs.FinMap.{remove}
use Rattle.mea_by_name.proofs.Own.{seen-none}
use Rattle.mea_family.specs.Play.{Part}
use Rattle.mea_share_model.specs.Admissions.{ShareHall, registered}
use Rattle.mea_share_model.specs.Actions.{End}
use Rattle.mea_share.specs.Kept.{future_seen}
use Rattle.mea_share.specs.Halls.{Acts}
use Rattle.mea_share.proofs.Sites.{site, part_of}
use Rattle.mea_share.proofs.LookUps.{without_future, nothing_left, future_home, its_room, over_put}
use Rattle.mea_share.proofs.Events.{good, belongs, future_counts, ends_future}
use Rattle.mea_share.proofs.part.SharePart.end.Goals as goal

pub invariant_of-self : goal.invariant_of-self
invariant_of-self c = rw c.take.ensures.rest (without_future (site c.self.inside.admissions c.self.inside.futures c.self.inside.permits.things c.self.inside.next c.self.view_is c.self.invariant c.requires.next c.ranges.number.fits) c.args.x (sym c.in_default.ensures.value)).0

pub end_permit-requires : goal.end_permit-requires
end_permit-requires c =
    let left : ◌≡◌ {A = Part ShareHall} (part_of c.self.inside.admissions c.take.new.self c.self.inside.permits.things c.self.inside.next) c.args.self.now = rw c.take.ensures.rest (without_future (site c.self.inside.admissions c.self.inside.futures c.self.inside.permits.things c.self.inside.next c.self.view_is c.self.invariant c.requires.next c.ranges.number.fits) c.args.x (sym c.in_default.ensures.value)).1 in
    record { next = (site c.self.inside.admissions c.self.inside.futures c.self.inside.permits.things c.self.inside.next c.self.view_is c.self.invariant c.requires.next c.ranges.number.fits).later; apart = rw c.take.ensures.rest (seen-none future_seen (remove c.self.inside.futures c.args.x) c.args.x (nothing_left c.self.inside.futures c.args.x)); room = subst (λ (p : Part ShareHall). registered p.hall ≤ c.args.ready.now.registered) (sym left) c.requires.room }

pub returns-in_default : goal.returns-in_default
returns-in_default c =
    let left : ◌≡◌ {A = Part ShareHall} (part_of c.self.inside.admissions c.take.new.self c.self.inside.permits.things c.self.inside.next) c.args.self.now = rw c.take.ensures.rest (without_future (site c.self.inside.admissions c.self.inside.futures c.self.inside.permits.things c.self.inside.next c.self.view_is c.self.invariant c.requires.next c.ranges.number.fits) c.args.x (sym c.in_default.ensures.value)).1 in
    subst (λ (p : Part ShareHall). Acts p c.args.number (End c.args.x) c.end_permit.result c.end_permit.new.self c.args.ready.now c.end_permit.new.ready) left c.end_permit.ensures

pub at_mut-entry-requires : goal.at_mut-entry-requires
at_mut-entry-requires c = rw c.admission-o.ensures (future_home (site c.self.inside.admissions c.self.inside.futures c.self.inside.permits.things c.self.inside.next c.self.view_is c.self.invariant c.requires.next c.ranges.number.fits) c.args.x c.in-Some.future (sym c.in-Some.ensures.value))

pub end_future-requires : goal.end_future-requires
end_future-requires c = record { belongs = belongs (site c.self.inside.admissions c.self.inside.futures c.self.inside.permits.things c.self.inside.next c.self.view_is c.self.invariant c.requires.next c.ranges.number.fits) c.admission-o.result c.at_mut-entry.result.now c.at_mut-entry.ensures.value c.args.x c.in-Some.future (sym c.in-Some.ensures.value) (sym c.admission-o.ensures); quiet = (good (site c.self.inside.admissions c.self.inside.futures c.self.inside.permits.things c.self.inside.next c.self.view_is c.self.invariant c.requires.next c.ranges.number.fits) c.admission-o.result c.at_mut-entry.result.now c.at_mut-entry.ensures.value).quiet; room = its_room (site c.self.inside.admissions c.self.inside.futures c.self.inside.permits.things c.self.inside.next c.self.view_is c.self.invariant c.requires.next c.ranges.number.fits) c.admission-o.result c.at_mut-entry.result.now c.args.ready.now c.at_mut-entry.ensures.value c.requires.room }

pub finish-requires : goal.finish-requires
finish-requires c = record { things = rw c.end_future.ensures.2.rest (future_counts (site c.self.inside.admissions c.self.inside.futures c.self.inside.permits.things c.self.inside.next c.self.view_is c.self.invariant c.requires.next c.ranges.number.fits) c.admission-o.result c.at_mut-entry.result.now c.at_mut-entry.ensures.value c.args.x c.in-Some.future (sym c.in-Some.ensures.value) (sym c.admission-o.ensures)).0; plain = rw (c.end_future.ensures.2.rest, c.is_plain-plain.ensures) (future_counts (site c.self.inside.admissions c.self.inside.futures c.self.inside.permits.things c.self.inside.next c.self.view_is c.self.invariant c.requires.next c.ranges.number.fits) c.admission-o.result c.at_mut-entry.result.now c.at_mut-entry.ensures.value c.args.x c.in-Some.future (sym c.in-Some.ensures.value) (sym c.admission-o.ensures)).1 }

pub remove_if-requires : goal.remove_if-requires
remove_if-requires c = λ over. over_put (site c.self.inside.admissions c.self.inside.futures c.self.inside.permits.things c.self.inside.next c.self.view_is c.self.invariant c.requires.next c.ranges.number.fits) c.admission-o.result c.finish.new.self

pub invariant_of-self-2 : goal.invariant_of-self-2
invariant_of-self-2 c = rw (c.remove_if.ensures, c.is_over-over.ensures, c.finish.ensures, c.take.ensures.rest, c.is_plain-plain.ensures)
    (ends_future (site c.self.inside.admissions c.self.inside.futures c.self.inside.permits.things c.self.inside.next c.self.view_is c.self.invariant c.requires.next c.ranges.number.fits) c.admission-o.result c.at_mut-entry.result.now c.at_mut-entry.ensures.value c.args.x c.in-Some.future (sym c.in-Some.ensures.value) (sym c.admission-o.ensures) c.end_future.new.self c.args.ready.now c.end_future.new.ready c.end_future.ensures).0

pub returns : goal.returns
returns c = rw (c.remove_if.ensures, c.is_over-over.ensures, c.finish.ensures, c.take.ensures.rest, c.is_plain-plain.ensures)
    (ends_future (site c.self.inside.admissions c.self.inside.futures c.self.inside.permits.things c.self.inside.next c.self.view_is c.self.invariant c.requires.next c.ranges.number.fits) c.admission-o.result c.at_mut-entry.result.now c.at_mut-entry.ensures.value c.args.x c.in-Some.future (sym c.in-Some.ensures.value) (sym c.admission-o.ensures) c.end_future.new.self c.args.ready.now c.end_future.new.ready c.end_future.ensures).1
