use Rattle.std.proofs.Common.{◌∷◌, ◌++◌, [], List, ℕ, Bool, sym, subst}
use Rattle.std.proofs.lemmas.Result.{IfErr-weaker, on_ok_weaker}
use Rattle.mea_script.specs.declared.begun.Begun.{Begun}
use Rattle.mea_script.specs.Begun.{Keeps}
use Rattle.mea_script.specs.Player.{Stops, due_from}
use Rattle.mea_script.proofs.Dues.{has_none, alone_played, alone_stops}
use Rattle.mea_script.proofs.player.Player.play_line.Goals as goal

pub returns-then-is_empty-clause-begun : goal.returns-then-is_empty-clause-begun
returns-then-is_empty-clause-begun g c = on_ok_weaker c.play_whole.result (λ counted line keeps.
    let none = has_none c.is_empty.result line c.if-is_empty.true (c.is_empty.ensures line keeps) in
    subst (λ (b : Begun). Keeps b []) (sym c.play_whole.ensures.begun) (subst (Keeps c.args.self.now.begun) none keeps)) c.play_whole.ensures.counted

pub returns-then-is_empty-clause-played : goal.returns-then-is_empty-clause-played
returns-then-is_empty-clause-played g c = on_ok_weaker c.play_whole.result (λ played line long lines keeps.
    let none = has_none c.is_empty.result line c.if-is_empty.true (c.is_empty.ensures line keeps) in
    alone_played g.M.Machine.rules (g.M.Machine.state c.args.machine.now) (g.M.Machine.state c.play_whole.new.machine) c.args.self.now c.play_whole.new.self line c.args.end.now none played long lines) c.play_whole.ensures.played

pub returns-then-is_empty-clause-stops : goal.returns-then-is_empty-clause-stops
returns-then-is_empty-clause-stops g c =
    let m = g.M.Machine.rules in
    let s = g.M.Machine.state c.args.machine.now in
    let p = c.args.self.now in
    let new = c.play_whole.new.self.text.items in
    IfErr-weaker c.play_whole.result
    (λ status. (long : Bool) (lines : List (List ℕ)) → Stops status (due_from m s p long (c.args.end.now ∷ lines)) new)
    (λ status. (line : List ℕ) (long : Bool) (lines : List (List ℕ)) → Keeps p.begun line → Stops status (due_from m s p long ((line ++ c.args.end.now) ∷ lines)) new)
    (λ status stops. λ line long lines keeps.
    alone_stops m s p line c.args.end.now new status (has_none c.is_empty.result line c.if-is_empty.true (c.is_empty.ensures line keeps)) stops long lines)
    c.play_whole.ensures.stops
