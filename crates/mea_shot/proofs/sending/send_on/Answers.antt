use Rattle.std.proofs.Common.{refl, rules, ◌≡◌, [], ◌∷◌, Some}
use Rattle.mea_shot.specs.declared.message.Content.TheVariants.{Message}
use Rattle.mea_shot.proofs.sending.send_on.Goals as goal

pub message_out-requires-clause-held : goal.message_out-requires-clause-held
message_out-requires-clause-held g c =
    let held : c.put-found.new.seat.me.1 ≡ (0, Some (Message c.args.message)) ∷ [] = search rules in
    (c.args.message, rw held refl)
