use Rattle.std.proofs.Common.{◌≡◌, ◌⊎◌, subst, ◌∙◌}
use Rattle.mea_marks.specs.Script.{Shown, shown_of, seen}
use Rattle.mea_picture.specs.Drawing.{draw_status, IsDrawFault, Draws}
use Rattle.mea_marks.proofs.Lines.{shown_read}
use Rattle.mea_picture.proofs.running.draw_script.Goals as goal

pub returns-in-Ok-show-clause-status : goal.returns-in-Ok-show-clause-status
returns-in-Ok-show-clause-status g c = λ script left.
    let whole : seen c.in-Ok-show.past ≡ shown_of g.P.Playing.steps (g.P.Playing.state c.args.player) script =
    c.in-Ok-show.ensures ∙ shown_read g.P.Playing.steps (g.P.Playing.state c.args.player) script _ (c.as_slice.ensures.value ∙ c.in-Ok.ensures.ok script left) in
    subst (λ (shown : Shown). IsDrawFault c.write_picture.result ⊎ (c.write_picture.result ≡ draw_status shown)) whole c.write_picture.ensures.status

pub returns-in-Ok-show-clause-drawn : goal.returns-in-Ok-show-clause-drawn
returns-in-Ok-show-clause-drawn g c = λ script before left is.
    let whole : seen c.in-Ok-show.past ≡ shown_of g.P.Playing.steps (g.P.Playing.state c.args.player) script =
    c.in-Ok-show.ensures ∙ shown_read g.P.Playing.steps (g.P.Playing.state c.args.player) script _ (c.as_slice.ensures.value ∙ c.in-Ok.ensures.ok script left) in
    subst (λ (shown : Shown). Draws shown c.write_picture.result before (g.K.Sink.taken c.write_picture.new.sink)) whole (c.write_picture.ensures.drawn before is)
