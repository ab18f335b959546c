use Rattle.std.proofs.Common.{◌∷◌, ◌++◌, ◌+◌, List, ℕ, Bool, subst}
use Rattle.std.proofs.lemmas.Result.{IfErr-weaker}
use Rattle.mea_script.specs.Begun.{Keeps}
use Rattle.mea_script.specs.Player.{Stops, due_from}
use Rattle.mea_script.specs.Told.{with_text, told_line, told_from}
use Rattle.mea_script.proofs.player.Player.play_begun.Goals as goal

pub returns-in-Ok-clause-stops : goal.returns-in-Ok-clause-stops
returns-in-Ok-clause-stops g c =
    let m = g.M.Machine.rules in
    let s = g.M.Machine.state c.args.machine.now in
    let p = c.args.self.now in
    let new = c.play_event.new.self.text.items in
    IfErr-weaker c.play_event.result
    (λ status. (long : Bool) (lines : List (List ℕ)) → Stops status (with_text p.text.items (told_line m s p.lines c.in-Ok.event (λ after. told_from m long after (p.lines + 1) lines))) new)
    (λ status. (line : List ℕ) (long : Bool) (lines : List (List ℕ)) → Keeps p.begun line → Stops status (due_from m s p long ((line ++ c.args.end.now) ∷ lines)) new)
    (λ status stops. λ line long lines keeps.
    subst (λ o. Stops status (with_text p.text.items (told_line m s p.lines o (λ after. told_from m long after (p.lines + 1) lines))) new) (c.in-Ok.ensures.event line keeps) (stops long lines))
    c.play_event.ensures.stops
