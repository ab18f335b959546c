use Rattle.std.proofs.Common.{sym}
use Rattle.mea_script.proofs.Tells.{told_cut, stops_alike}
use Rattle.mea_script.proofs.player.Player.cut_off.Goals as goal

pub returns-clause-stops : goal.returns-clause-stops
returns-clause-stops g c = λ line bytes unended some.
    let p = c.args.self.now in
    stops_alike c.end.result p.text.items c.end.new.self.text.items _ _
    (sym (told_cut g.M.Machine.rules (g.M.Machine.state c.args.machine.now) p.lines line bytes unended some))
    (c.end.ensures.stops (λ e. cc))
