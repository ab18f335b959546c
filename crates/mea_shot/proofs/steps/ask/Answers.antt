use Rattle.std.proofs.Common.{ap, lit<, ◌≡◌, []}
use Rattle.mea_shot.proofs.Cases.{ask_allowed}
use Rattle.mea_shot.proofs.steps.ask.Goals as goal

pub load-requires : goal.load-requires
load-requires g c =
    let fits = g.T.Message.fits in
    (c.requires.board.0, rw c.requires.board.1 (lit< tt), let e : c.args.seat.now.me ≡ (c.args.seat.now.me.0, []) = ap (λ xs. (c.args.seat.now.me.0, xs)) c.requires.empty in rw (e, c.requires.board.2) (ask_allowed fits c.args.seat.now.id c.args.seat.now.me.0 c.requires.stage))
