use Rattle.std.proofs.Common.{◌≡◌, ◌+◌, arith, ap, sym, subst, ◌∙◌}
use Rattle.mea_hall.specs.World.{Play, Plays, registered}
use Rattle.mea_hall.specs.Families.{world_of}
use Rattle.mea_hall.proofs.EachFamily.{grows}
use Rattle.mea_hall.proofs.hall.Hall.act.Goals as goal

pub invariant_of-self-2 : goal.invariant_of-self-2
invariant_of-self-2 c =
    let played = c.in_ok-answer.ensures.played in
    record {
      fits = omega (arith, ap (λ (p : Play). p.events) c.self.view_is, c.requires);
      below = played.below;
      counted = omega (arith, played.counted, c.self.invariant.counted);
      few = omega (arith, played.counted, c.self.invariant.counted, c.self.invariant.few, ap registered played.world, grows (world_of c.self.inside.families) c.self.inside.events c.args.event.now);
    }

pub invariant_of-self : goal.invariant_of-self
invariant_of-self c =
    let held = c.self.invariant in
    rw (c.in_err-answer.ensures.err.0, c.in_err-answer.ensures.err.1) (record { fits = held.fits; below = held.below; counted = held.counted; few = held.few })
