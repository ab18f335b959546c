use Rattle.std.proofs.Common.{◌∙◌, sym, false, []}
use Rattle.mea_script.specs.Player.{due_from}
use Rattle.mea_script.proofs.Dues.{due_last, due_none, stops_due, has_bytes, has_none}
use Rattle.mea_script.proofs.player.Player.finish.Goals as goal
use Rattle.mea_script.proofs.player.Player.finish.Goals.{then-not-is_empty+in-Ok, else-not-is_empty}

pub returns-in-Err-clause-stops : goal.returns-in-Err-clause-stops
returns-in-Err-clause-stops g c = λ line room keeps unended fits.
    let some = has_bytes c.is_empty.result line c.if-not-is_empty.true (c.is_empty.ensures line keeps) in
    stops_due c.in-Err.status c.play_line.new.self.text.items _ _
    (due_last g.M.Machine.rules (g.M.Machine.state c.args.machine.now) c.args.self.now line room unended some fits)
    (c.in-Err.ensures.stops line false [] keeps)

pub returns-clause-stops : goal.returns-clause-stops
returns-clause-stops g c = λ line room keeps unended fits.
    let m = g.M.Machine.rules in
    let state = g.M.Machine.state in
    stops_due c.end_input.result c.end_input.new.self.text.items _ (due_from m (state c.if-not-is_empty.machine) c.if-not-is_empty.self false []) (elim c.if-not-is_empty.branch [
      | then-not-is_empty+in-Ok w ↦
          let some = has_bytes c.is_empty.result line w.if-not-is_empty.true (c.is_empty.ensures line keeps) in
          due_last m (state c.args.machine.now) c.args.self.now line room unended some fits ∙ w.in-Ok.ensures.played line false [] keeps
          ∙ sym (λ i. due_from m (state (w.machine-is i)) (w.self-is i) false [])
      | else-not-is_empty w ↦
          due_none m (state c.args.machine.now) c.args.self.now line room (has_none c.is_empty.result line w.if-not-is_empty.false (c.is_empty.ensures line keeps))
          ∙ sym (λ i. due_from m (state (w.machine-is i)) (w.self-is i) false [])
    ]) c.end_input.ensures.stops
