use Rattle.std.proofs.Common.{ℕ, List, []}
use Rattle.mea_events.specs.declared.event.Event.{Event}
use Rattle.mea_hall.specs.World.{World, empty_world, step}
use Rattle.mea_text.specs.Reply.{reply_text}
use Rattle.mea_marks.proofs.Events.{shows_stages, shows_wakes}
use Rattle.mea_picture.proofs.Played.{ends_alike}
use Rattle.mea_draw.specs.Drawing.{hall_steps}
use Rattle.mea_draw.proofs.Deeds.{polls_alike}
use Rattle.mea_draw.proofs.running.drawings_are_faithful.Goals as goal

pub returns-clause-stages : goal.returns-clause-stages
returns-clause-stages c = shows_stages hall_steps empty_world

pub returns-clause-wakes : goal.returns-clause-wakes
returns-clause-wakes c = shows_wakes hall_steps empty_world

pub returns-clause-polls : goal.returns-clause-polls
returns-clause-polls c = polls_alike

pub returns-clause-alike : goal.returns-clause-alike
returns-clause-alike c = ends_alike hall_steps (λ (w : World) (n : ℕ) (e : Event). reply_text (step w n e).reply.0 (step w n e).reply.1) (λ (w : World) (n : ℕ). []) empty_world
