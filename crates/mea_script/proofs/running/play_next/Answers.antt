use Rattle.std.proofs.Common.{◌-◌, drop, arith}
use Rattle.std.proofs.lemmas.Result.{err_from_is_err_and}
use Rattle.mea_script.proofs.Pieces.{took, due_piece, due_whole, goes_from, ends_from, status_from}
use Rattle.mea_script.proofs.running.play_next.Goals as goal

pub returns-in_err-play-in-Ok-clause-status : goal.returns-in_err-play-in-Ok-clause-status
returns-in_err-play-in-Ok-clause-status g c =
    let p = err_from_is_err_and c.from_residual.result c.from_residual.ensures.1 in
    rw (p.1, p.2) (λ line rest room keeps unended is fits.
    let takes = took _ _ _ rest c.in-Ok.count is c.in-Ok.ensures.told in
    status_from _ _ c.in_err-play-in-Ok.field-0.0 (due_whole g.M.Machine.rules (g.M.Machine.state c.args.machine.now) c.args.player.now line rest _ c.in-Ok.count takes.1 takes.2 room (omega (arith, c.in-Ok.ensures.within)))
    (c.in_err-play-in-Ok.ensures.status line (drop c.in-Ok.count rest) (room - c.in-Ok.count) keeps unended))

pub returns-in_err-play-in-Ok-clause-text : goal.returns-in_err-play-in-Ok-clause-text
returns-in_err-play-in-Ok-clause-text g c =
    let p = err_from_is_err_and c.from_residual.result c.from_residual.ensures.1 in
    rw (p.1, p.2) (λ line rest before room keeps unended is fits told.
    let takes = took _ _ _ rest c.in-Ok.count is c.in-Ok.ensures.told in
    ends_from _ _ c.in_err-play-in-Ok.field-0.0 before _ _ (due_whole g.M.Machine.rules (g.M.Machine.state c.args.machine.now) c.args.player.now line rest _ c.in-Ok.count takes.1 takes.2 room (omega (arith, c.in-Ok.ensures.within)))
    (c.in_err-play-in-Ok.ensures.text line (drop c.in-Ok.count rest) before (room - c.in-Ok.count) keeps unended told))

pub returns-in_ok-play-in-Ok-clause-goes_on : goal.returns-in_ok-play-in-Ok-clause-goes_on
returns-in_ok-play-in-Ok-clause-goes_on g c = λ line rest room keeps unended is.
    let takes = took _ _ _ rest c.in-Ok.count is c.in-Ok.ensures.told in
    let next = c.in_ok-play-in-Ok.ensures.goes_on line (drop c.in-Ok.count rest) room keeps unended in (
      next.0,
      next.1,
      next.2,
      takes.0,
      takes.3 (omega (arith, c.requires.buffer, c.take.auto.into)),
      goes_from _ _ _ _ _ (due_piece g.M.Machine.rules (g.M.Machine.state c.args.machine.now) c.args.player.now line rest _ c.in-Ok.count takes.1 takes.2 room) next.3,
    )
