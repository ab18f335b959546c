use Rattle.std.proofs.Common.{◌∙◌, ap, sym, None, if◌then◌else◌}
use Rattle.mea_script.proofs.Begins.{kept_whole}
use Rattle.mea_script.proofs.begun.Begun.event.Goals as goal

pub returns-else-self-clause-event : goal.returns-else-self-clause-event
returns-else-self-clause-event g c = λ line keeps.
    let m = g.M.Machine.rules in
    let s = g.M.Machine.state c.args.machine.now in
    let short = sym keeps.more ∙ c.if-self.false in
    c.event_of_line.ensures ∙ ap (m.event s) (c.as_slice.ensures.value ∙ kept_whole c.args.self.now.kept.items line keeps.first short)
    ∙ ap (λ t. if t then None else m.event s line) (sym short)
