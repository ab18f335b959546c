use Rattle.std.proofs.Common.{◌<◌, ap, sym, subst, refl, ◌∙◌, arith, take, length}
use Rattle.std.proofs.lemmas.Grind.{common_steps}
use Rattle.mea_script.specs.Lines.{is_long}
use Rattle.mea_marks.specs.Marks.{board_of}
use Rattle.mea_marks.specs.Script.{Shown, seen}
use Rattle.mea_marks.proofs.Lines.{at_start, ended_alike, line_goes, line_ends, is_too_long, is_short, shown_long, shown_last}
use Rattle.mea_marks.proofs.reading.show.Goals as goal

pub loop-line-init : goal.loop-line-init
loop-line-init g c =
    let begun = c.new-past.ensures in
    let lines = ap (λ (s : Shown). s.lines) begun in
    record {
      stands = subst (g.P.Playing.stands_at c.args.player.now) (sym lines) c.requires;
      few = omega (arith, lines);
      whole = ap (λ (s : Shown). s.ending) begun;
      told = at_start g.P.Playing.steps (g.P.Playing.state c.args.player.now) c.args.script.now (take c.min.result c.args.script.now)
          (board_of c.new-past.result.board) c.new-past.result.lines (ap (λ k. take k c.args.script.now) c.min.ensures) (ap (λ (s : Shown). s.board) begun) lines;
    }

pub loop-line-preserved : goal.loop-line-preserved
loop-line-preserved g c = record {
  stands = c.in_ok-on.ensures.stands c.if-on.true;
  few = c.in_ok-on.ensures.few c.if-on.true;
  whole = c.in_ok-on.ensures.whole c.if-on.true ∙ c.loop-line.invariant.whole;
  told = c.loop-line.invariant.told
      ∙ line_goes g.P.Playing.steps (g.P.Playing.state c.loop-line.player) (g.P.Playing.state c.play_line.new.player) (board_of c.loop-line.past.board) (board_of c.play_line.new.self.board)
      c.loop-line.past.lines c.play_line.new.self.lines c.loop-line.rest.now c.in-Some.line.now c.in-Some.after.now (is_long c.args.script.now)
      (rw c.in-Some.is at c.cut.ensures) (c.in_ok-on.ensures.next c.if-on.true) (c.in_ok-on.ensures.counted c.if-on.true);
}

pub returns-else-on : goal.returns-else-on
returns-else-on g c =
    sym (c.loop-line.invariant.told
    ∙ line_ends g.P.Playing.steps (g.P.Playing.state c.loop-line.player) (g.P.Playing.state c.loop-line.player) (board_of c.loop-line.past.board) (board_of c.loop-line.past.board)
    c.loop-line.past.lines c.loop-line.past.lines c.loop-line.rest.now c.in-Some.line.now c.in-Some.after.now (is_long c.args.script.now)
    (rw c.in-Some.is at c.cut.ensures) (seen c.play_line.new.self) (c.in_ok-on.ensures.last c.if-on.false))

pub returns-then-script-gt-LIMIT : goal.returns-then-script-gt-LIMIT
returns-then-script-gt-LIMIT g c =
    shown_long g.P.Playing.steps (g.P.Playing.state c.loop-line.player) (g.P.Playing.state c.loop-line.player) (board_of c.loop-line.past.board) (board_of c.loop-line.past.board)
    c.loop-line.past.lines c.loop-line.past.lines c.loop-line.rest.now _ (is_long c.args.script.now) c.loop-line.invariant.told
    (is_too_long c.args.script.now c.if-script-gt-LIMIT.true) (rw c.in_default.is at c.cut.ensures)

pub returns : goal.returns
returns g c =
    let some : 0 < length c.loop-line.rest.now = grind (arith, common_steps, c.if-is_empty.ensures, c.if-is_empty.false) in
    shown_last g.P.Playing.steps (g.P.Playing.state c.loop-line.player) (g.P.Playing.state c.play_line-2.new.player) (board_of c.loop-line.past.board) (board_of c.play_line-2.new.self.board)
    c.loop-line.past.lines c.play_line-2.new.self.lines c.loop-line.rest.now _ (is_long c.args.script.now) c.loop-line.invariant.told
    c.in_ok-play_line.field-0 (seen c.play_line-2.new.self) (is_short c.args.script.now c.if-script-gt-LIMIT.false) (rw c.in_default.is at c.cut.ensures) some
    (λ on. c.in_ok-play_line.ensures.next on) (λ on. c.in_ok-play_line.ensures.counted on)
    (λ on. ended_alike _ _ _ _ _ _ refl (c.in_ok-play_line.ensures.whole on ∙ c.loop-line.invariant.whole) refl)
    (λ off. c.in_ok-play_line.ensures.last off)
