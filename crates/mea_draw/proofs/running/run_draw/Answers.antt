use Rattle.std.proofs.Common.{◌≡◌, ◌⊎◌, ap, subst}
use Rattle.mea_hall.specs.World.{Play, World}
use Rattle.mea_marks.specs.Script.{shown_of}
use Rattle.mea_picture.specs.Drawing.{draw_status, IsDrawFault, Draws}
use Rattle.mea_draw.specs.Drawing.{hall_steps}
use Rattle.mea_draw.proofs.running.run_draw.Goals as goal

pub returns-clause-status : goal.returns-clause-status
returns-clause-status g c = λ script words left.
    subst (λ (w : World). IsDrawFault c.draw_script.result ⊎ (c.draw_script.result ≡ draw_status (shown_of hall_steps w script)))
    (ap (λ (h : Play). h.world) c.new-machine.ensures) (c.draw_script.ensures.status script left)

pub returns-clause-drawn : goal.returns-clause-drawn
returns-clause-drawn g c = λ script before words left taken.
    subst (λ (w : World). Draws (shown_of hall_steps w script) c.draw_script.result before (g.K.Sink.taken c.draw_script.new.sink))
    (ap (λ (h : Play). h.world) c.new-machine.ensures) (c.draw_script.ensures.drawn script before left taken)
