use Rattle.std.proofs.Common.{refl, rules, ◌≡◌, [], ◌∷◌, Some}
use Rattle.mea_shot.specs.declared.message.Content.TheVariants.{Waker}
use Rattle.mea_shot.proofs.receiving.publish_on.Goals as goal

pub waker_out-waker-requires-clause-held : goal.waker_out-waker-requires-clause-held
waker_out-waker-requires-clause-held g c =
    let held : c.publish-found.new.seat.me.1 ≡ (1, Some (Waker c.args.waker)) ∷ [] = search rules in
    (c.args.waker, rw held refl)
