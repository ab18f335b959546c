use Rattle.std.proofs.Common.{◌+◌, ◌++◌, ◌∷◌, [], length, ap, sym, subst, arith, inl, inr, refl, length-append}
use Rattle.std.proofs.lemmas.Result.{err_from_is_err_and}
use Rattle.mea_script.specs.declared.begun.Begun.{Begun}
use Rattle.mea_script.specs.Begun.{Keeps}
use Rattle.mea_script.proofs.Unended.{unended_append, cut_joins, cut_nothing}
use Rattle.mea_script.proofs.Ended.{none_ended, one_ended}
use Rattle.mea_script.proofs.Tells.{goes_alike, goes_further}
use Rattle.mea_script.proofs.Dues.{goes_line, goes_written, ends_in_part, ends_line, stops_at_line, ends_at_fault, due_begun}
use Rattle.mea_script.proofs.Pieces.{stops_later_status, stops_later}
use Rattle.mea_script.proofs.player.Player.play.Goals as goal

pub returns-in_err-play_line-clause-status : goal.returns-in_err-play_line-clause-status
returns-in_err-play_line-clause-status g c =
    let p = err_from_is_err_and c.from_residual.result c.from_residual.ensures.1 in
    rw (p.1, p.2) (λ line bytes room keeps unended.
    let so_far = c.loop-end.invariant.told line bytes room keeps unended in
    let parts = cut_joins c.loop-end.rest.now c.in-Some.end.now c.in-Some.after.now (rw c.in-Some.is at c.cut_line.ensures) in
    stops_later_status _ _ _ _ so_far.3 c.in_err-play_line.field-0.0 c.play_line.new.self.text.items
    (stops_at_line g.M.Machine.rules (g.M.Machine.state c.loop-end.machine) c.loop-end.self so_far.0 c.in-Some.end.now c.in-Some.after.now c.loop-end.rest.now bytes room
    c.in_err-play_line.field-0.0 c.play_line.new.self.text.items parts.0 (unended_append so_far.0 c.in-Some.end.now so_far.2 parts.1)
    (λ long lines. c.in_err-play_line.ensures.stops so_far.0 long lines so_far.1)))

pub returns-in_err-play_line-clause-text : goal.returns-in_err-play_line-clause-text
returns-in_err-play_line-clause-text g c =
    let p = err_from_is_err_and c.from_residual.result c.from_residual.ensures.1 in
    rw (p.1, p.2) (λ line bytes before room keeps unended is.
    let so_far = c.loop-end.invariant.told line bytes room keeps unended in
    let parts = cut_joins c.loop-end.rest.now c.in-Some.end.now c.in-Some.after.now (rw c.in-Some.is at c.cut_line.ensures) in
    stops_later _ _ _ _ so_far.3 c.in_err-play_line.field-0.0 c.play_line.new.self.text.items
    (stops_at_line g.M.Machine.rules (g.M.Machine.state c.loop-end.machine) c.loop-end.self so_far.0 c.in-Some.end.now c.in-Some.after.now c.loop-end.rest.now bytes room
    c.in_err-play_line.field-0.0 c.play_line.new.self.text.items parts.0 (unended_append so_far.0 c.in-Some.end.now so_far.2 parts.1)
    (λ long lines. c.in_err-play_line.ensures.stops so_far.0 long lines so_far.1)) before is)

pub returns-in_err-write_full-clause-text : goal.returns-in_err-write_full-clause-text
returns-in_err-write_full-clause-text g c =
    let p = err_from_is_err_and c.from_residual-in_err-write_full.result c.from_residual-in_err-write_full.ensures.1 in
    rw (p.1, p.2) (λ line bytes before room keeps unended is.
    let so_far = c.loop-end.invariant.told line bytes room keeps unended in
    let parts = cut_joins c.loop-end.rest.now c.in-Some.end.now c.in-Some.after.now (rw c.in-Some.is at c.cut_line.ensures) in
    ends_line g.M.Machine.rules (g.M.Machine.state c.loop-end.machine) (g.M.Machine.state c.play_line.new.machine) _ c.loop-end.self c.play_line.new.self so_far.0 c.in-Some.end.now c.in-Some.after.now c.loop-end.rest.now bytes before room _ _ _
    c.in_err-write_full.field-0.0 c.write_full.new.self.text.items so_far.3 parts.0 (unended_append so_far.0 c.in-Some.end.now so_far.2 parts.1)
    (λ long lines. c.in_ok-play_line.ensures.played so_far.0 long lines so_far.1)
    (elim c.in_err-write_full.ensures.fault [ inl none ↦ inr (inr none) | inr failed ↦ inr (inl failed.0) ]) c.in_err-write_full.ensures.part.0 c.in_err-write_full.ensures.part.1 is)

pub loop-end-preserved : goal.loop-end-preserved
loop-end-preserved g c =
    let parts = cut_joins c.loop-end.rest.now c.in-Some.end.now c.in-Some.after.now (rw c.in-Some.is at c.cut_line.ensures) in
    record {
      stands = subst (g.M.Machine.stands_at c.play_line.new.machine) (sym c.write_full.ensures.lines) c.in_ok-play_line.ensures.stands;
      more = omega (arith, c.write_full.ensures.lines, c.in_ok-play_line.ensures.counted, c.loop-end.invariant.more);
      counted = omega (arith, c.write_full.ensures.lines, c.in_ok-play_line.ensures.counted, c.loop-end.invariant.counted, one_ended c.loop-end.rest.now c.in-Some.end.now c.in-Some.after.now parts.0 parts.1);
      few = omega (arith, c.write_full.ensures.lines, c.in_ok-play_line.ensures.counted, c.loop-end.invariant.few, ap length parts.0, length-append c.in-Some.end.now (10 ∷ c.in-Some.after.now));
      faults = omega (arith, c.loop-end.invariant.faults, c.write_full.ensures.faults);
      told = λ line bytes room keeps unended.
          let so_far = c.loop-end.invariant.told line bytes room keeps unended in
          let wrote = c.in_ok-write_full.ensures.written in (
            [],
            subst (λ (b : Begun). Keeps b []) (sym c.write_full.ensures.begun) (c.in_ok-play_line.ensures.begun so_far.0 so_far.1),
            omega arith,
            goes_line g.M.Machine.rules (g.M.Machine.state c.loop-end.machine) (g.M.Machine.state c.play_line.new.machine) _ c.loop-end.self c.play_line.new.self c.write_full.new.self so_far.0 c.in-Some.end.now c.in-Some.after.now c.loop-end.rest.now bytes wrote.0 room _ _ _
                so_far.3 parts.0 (unended_append so_far.0 c.in-Some.end.now so_far.2 parts.1)
                (λ long lines. c.in_ok-play_line.ensures.played so_far.0 long lines so_far.1)
                c.write_full.ensures.lines wrote.1 wrote.2,
          );
    }

pub returns-in_err-play_line-clause-line : goal.returns-in_err-play_line-clause-line
returns-in_err-play_line-clause-line g c =
    let p = err_from_is_err_and c.from_residual.result c.from_residual.ensures.1 in
    rw (p.1, p.2) (λ n is. omega (arith, c.in_err-play_line.ensures.line n is, c.loop-end.invariant.more))

pub returns-in-Ok-clause-counted : goal.returns-in-Ok-clause-counted
returns-in-Ok-clause-counted g c = omega (arith, c.loop-end.invariant.counted, none_ended c.loop-end.rest.now (cut_nothing c.loop-end.rest.now (rw c.in_default.is at c.cut_line.ensures)))

pub returns-in-Ok-clause-goes_on : goal.returns-in-Ok-clause-goes_on
returns-in-Ok-clause-goes_on g c = λ line bytes room keeps unended.
    let so_far = c.loop-end.invariant.told line bytes room keeps unended in
    let m = g.M.Machine.rules in
    let s = g.M.Machine.state c.loop-end.machine in
    let rest = c.loop-end.rest.now in
    let wrote = c.in_ok-write_kept.ensures.written in (
      so_far.0 ++ rest,
      c.in-Ok.ensures so_far.0 (subst (λ (b : Begun). Keeps b so_far.0) (sym c.write_kept.ensures.begun) so_far.1),
      unended_append so_far.0 rest so_far.2 (cut_nothing rest (rw c.in_default.is at c.cut_line.ensures)),
      goes_alike _ _ _ _ _ (due_begun m s c.write_kept.new.self so_far.0 rest bytes room)
          (goes_further _ _ _ _ _ _ so_far.3
          (goes_written m s c.loop-end.self c.write_kept.new.self (length so_far.0 + (length rest + room)) (so_far.0 ++ (rest ++ bytes)) wrote.0 _ _
          c.write_kept.ensures.lines wrote.1 wrote.2)),
    )

pub returns-in_err-write_kept-clause-text : goal.returns-in_err-write_kept-clause-text
returns-in_err-write_kept-clause-text g c =
    let p = err_from_is_err_and c.from_residual-in_err-write_kept.result c.from_residual-in_err-write_kept.ensures.1 in
    rw (p.1, p.2) (λ line bytes before room keeps unended is.
    let so_far = c.loop-end.invariant.told line bytes room keeps unended in
    ends_in_part _ _ c.loop-end.self.text.items before _ _ _ c.in_err-write_kept.field-0.0 c.write_kept.new.self.text.items so_far.3
    (elim c.in_err-write_kept.ensures.fault [ inl none ↦ inr (inr none) | inr failed ↦ inr (inl failed.0) ]) c.in_err-write_kept.ensures.part.0 c.in_err-write_kept.ensures.part.1 is)

pub returns-in-Err-clause-text : goal.returns-in-Err-clause-text
returns-in-Err-clause-text g c = λ line bytes before room keeps unended is.
    let so_far = c.loop-end.invariant.told line bytes room keeps unended in
    let m = g.M.Machine.rules in
    let s = g.M.Machine.state c.loop-end.machine in
    let wrote = c.in_ok-write_kept.ensures.written in
    ends_at_fault m s _ c.write_kept.new.self _ _ before _ _ _
    (goes_further _ _ _ _ _ _ so_far.3
    (goes_written m s c.loop-end.self c.write_kept.new.self (length so_far.0 + (length c.loop-end.rest.now + room)) (so_far.0 ++ (c.loop-end.rest.now ++ bytes)) wrote.0 _ _
    c.write_kept.ensures.lines wrote.1 wrote.2))
    (inr (inr refl)) is
