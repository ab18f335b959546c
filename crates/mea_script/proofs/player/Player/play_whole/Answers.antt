use Rattle.std.proofs.Common.{◌∷◌, ◌+◌, ◌∙◌, None, List, ℕ, Bool, sym}
use Rattle.std.proofs.lemmas.Result.{IfErr-weaker, on_ok_weaker}
use Rattle.mea_script.specs.Player.{Stops, due_from}
use Rattle.mea_script.specs.Told.{with_text, told_line, told_from}
use Rattle.mea_script.proofs.Dues.{long_line, short_line, line_played, line_stops}
use Rattle.mea_script.proofs.player.Player.play_whole.Goals as goal

pub returns-then-line-gt-MOST-clause-played : goal.returns-then-line-gt-MOST-clause-played
returns-then-line-gt-MOST-clause-played g c =
    let m = g.M.Machine.rules in
    let s = g.M.Machine.state c.args.machine.now in
    on_ok_weaker c.play_event.result
    (line_played m s (g.M.Machine.state c.play_event.new.machine) c.args.self.now c.play_event.new.self c.args.line.now None (long_line m s c.args.line.now c.if-line-gt-MOST.true))
    c.play_event.ensures.played

pub returns-then-line-gt-MOST-clause-stops : goal.returns-then-line-gt-MOST-clause-stops
returns-then-line-gt-MOST-clause-stops g c =
    let m = g.M.Machine.rules in
    let s = g.M.Machine.state c.args.machine.now in
    let p = c.args.self.now in
    let new = c.play_event.new.self.text.items in
    IfErr-weaker c.play_event.result
    (λ status. (long : Bool) (lines : List (List ℕ)) → Stops status (with_text p.text.items (told_line m s p.lines None (λ after. told_from m long after (p.lines + 1) lines))) new)
    (λ status. (long : Bool) (lines : List (List ℕ)) → Stops status (due_from m s p long (c.args.line.now ∷ lines)) new)
    (λ status stops. line_stops m s s p p c.args.line.now None (long_line m s c.args.line.now c.if-line-gt-MOST.true) status new stops)
    c.play_event.ensures.stops

pub returns-clause-played : goal.returns-clause-played
returns-clause-played g c =
    let m = g.M.Machine.rules in
    let s = g.M.Machine.state c.args.machine.now in
    on_ok_weaker c.play_event-2.result
    (line_played m s (g.M.Machine.state c.play_event-2.new.machine) c.args.self.now c.play_event-2.new.self c.args.line.now c.event_of_line-event.result
    (short_line m s c.args.line.now c.if-line-gt-MOST.false ∙ sym c.event_of_line-event.ensures))
    c.play_event-2.ensures.played

pub returns-clause-stops : goal.returns-clause-stops
returns-clause-stops g c =
    let m = g.M.Machine.rules in
    let s = g.M.Machine.state c.args.machine.now in
    let p = c.args.self.now in
    let new = c.play_event-2.new.self.text.items in
    let event = c.event_of_line-event.result in
    IfErr-weaker c.play_event-2.result
    (λ status. (long : Bool) (lines : List (List ℕ)) → Stops status (with_text p.text.items (told_line m s p.lines event (λ after. told_from m long after (p.lines + 1) lines))) new)
    (λ status. (long : Bool) (lines : List (List ℕ)) → Stops status (due_from m s p long (c.args.line.now ∷ lines)) new)
    (λ status stops. line_stops m s s p p c.args.line.now event (short_line m s c.args.line.now c.if-line-gt-MOST.false ∙ sym c.event_of_line-event.ensures) status new stops)
    c.play_event-2.ensures.stops
