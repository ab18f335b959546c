use Rattle.mea_text.proofs.Places.{taken_is_position, position_within}
use Rattle.mea_text.proofs.cutting.newline_of.Goals as goal

pub returns-clause-place : goal.returns-clause-place
returns-clause-place c = taken_is_position 10 c.args.bytes.now c.memchr_iter-places.result c.next.new.self c.next.result c.memchr_iter-places.ensures.value c.next.ensures.steps

pub returns-clause-within : goal.returns-clause-within
returns-clause-within c =
    position_within 10 c.args.bytes.now c.next.result
    (taken_is_position 10 c.args.bytes.now c.memchr_iter-places.result c.next.new.self c.next.result c.memchr_iter-places.ensures.value c.next.ensures.steps)
