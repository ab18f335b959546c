use Rattle.std.proofs.Common.{ℕ, ◌<◌, ◌≤◌, ◌+◌, List, Option, length, arith, subst, sym}
use Rattle.mea_sets.specs.declared.place.Place.{Place}
use Rattle.mea_meet_seats.specs.Seats.{AllThere}
use Rattle.mea_meet_seats.proofs.Places.{keeps_there, keeps_room}
use Rattle.mea_meet_seats.proofs.count_seats.CountSeats.poll.Goals as goal

pub invariant_of-self-2 : goal.invariant_of-self-2
invariant_of-self-2 g c =
    let count = c.self.inside.countdown.count in
    let free = c.self.inside.free.places in
    let has_place = c.is_registered-has_place.result in
    let positive : 0 < count.number = grind (arith, c.if-count-eq0.false, c.count.ensures) in
    let all = c.self.invariant.there positive in
    let there = keeps_there count free has_place c.seat.new.wait _ c.poll.result c.poll.new.self.count c.poll.new.slot positive all c.poll.ensures.polls in
    let size = length c.seat.new.self.places + c.seat.new.self.spare in
    let counted = c.registered-places.ensures.count in
    let room = keeps_room count free has_place c.args.wait.now c.seat.new.wait _ c.poll.result c.poll.new.self.count c.poll.new.slot
    size positive all c.is_registered-has_place.ensures c.in-Ok.ensures.place c.poll.ensures.polls
    (subst (λ (n : ℕ). n ≤ size) counted c.in-Ok.ensures.room)
    (λ none empty. subst (λ (n : ℕ). n + 1 ≤ size) counted (c.in-Ok.ensures.more none empty)) in
    record {
      there = λ _. subst (λ (places : List (Option Place)). AllThere c.poll.new.self.count.waiting places) (sym c.in-Ok.ensures.others) there;
      room = room;
    }
