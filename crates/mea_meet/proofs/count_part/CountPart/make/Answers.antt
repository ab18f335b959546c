use Rattle.std.proofs.Common.{refl}
use Rattle.mea_base.proofs.Maps.{get-there, is_there}
use Rattle.mea_meet.specs.Actions.{new_seen}
use Rattle.mea_meet.proofs.CountSites.{site}
use Rattle.mea_meet.proofs.CountCalls.{untold}
use Rattle.mea_meet.proofs.CountMade.{fair, made, put_there, no_holder_left, no_sender_left}
use Rattle.mea_family.proofs.Refusals.{lacking}
use Rattle.mea_meet.proofs.count_part.CountPart.make.Goals as goal

pub remove-requires : goal.remove-requires
remove-requires g c = rw c.in-Ok.ensures.ok (is_there _ _ (get-there c.self.inside.holders c.args.number _))

pub invariant_of-self-in_default-insert_if : goal.invariant_of-self-in_default-insert_if
invariant_of-self-in_default-insert_if g c = (untold (site c.self.inside.points c.self.inside.senders c.self.inside.holders c.self.inside.waits c.self.inside.next c.self.view_is c.self.invariant c.requires.next) _ _ _ _ refl c.in_default-insert_if.ensures.err (no_holder_left (site c.self.inside.points c.self.inside.senders c.self.inside.holders c.self.inside.waits c.self.inside.next c.self.view_is c.self.invariant c.requires.next) _ _ _ c.in-Ok.ensures.ok c.remove.ensures.rest) refl).0

pub returns-in_default-insert_if : goal.returns-in_default-insert_if
returns-in_default-insert_if g c = (lacking _ _ refl (λ none. none), (untold (site c.self.inside.points c.self.inside.senders c.self.inside.holders c.self.inside.waits c.self.inside.next c.self.view_is c.self.invariant c.requires.next) _ _ _ _ refl c.in_default-insert_if.ensures.err (no_holder_left (site c.self.inside.points c.self.inside.senders c.self.inside.holders c.self.inside.waits c.self.inside.next c.self.view_is c.self.invariant c.requires.next) _ _ _ c.in-Ok.ensures.ok c.remove.ensures.rest) refl).1)

pub remove-requires-in_default-insert : goal.remove-requires-in_default-insert
remove-requires-in_default-insert g c = rw c.in-Ok.ensures.ok (is_there _ _ (get-there c.self.inside.holders c.args.number _))

pub remove_if-requires : goal.remove_if-requires
remove_if-requires g c = λ sends. rw c.in-Ok-insert_if.ensures.ok (put_there c.self.inside.senders c.args.number c.args.new.sends sends)

pub invariant_of-self-in_default-insert : goal.invariant_of-self-in_default-insert
invariant_of-self-in_default-insert g c = (untold (site c.self.inside.points c.self.inside.senders c.self.inside.holders c.self.inside.waits c.self.inside.next c.self.view_is c.self.invariant c.requires.next) _ _ _ _ c.in_default-insert.ensures.err (no_sender_left (site c.self.inside.points c.self.inside.senders c.self.inside.holders c.self.inside.waits c.self.inside.next c.self.view_is c.self.invariant c.requires.next) c.args.new.sends _ _ c.in-Ok-insert_if.ensures.ok c.remove_if.ensures) (no_holder_left (site c.self.inside.points c.self.inside.senders c.self.inside.holders c.self.inside.waits c.self.inside.next c.self.view_is c.self.invariant c.requires.next) _ _ _ c.in-Ok.ensures.ok c.remove-in_default-insert.ensures.rest) refl).0

pub returns-in_default-insert : goal.returns-in_default-insert
returns-in_default-insert g c = (lacking _ _ refl (λ none. none), (untold (site c.self.inside.points c.self.inside.senders c.self.inside.holders c.self.inside.waits c.self.inside.next c.self.view_is c.self.invariant c.requires.next) _ _ _ _ c.in_default-insert.ensures.err (no_sender_left (site c.self.inside.points c.self.inside.senders c.self.inside.holders c.self.inside.waits c.self.inside.next c.self.view_is c.self.invariant c.requires.next) c.args.new.sends _ _ c.in-Ok-insert_if.ensures.ok c.remove_if.ensures) (no_holder_left (site c.self.inside.points c.self.inside.senders c.self.inside.holders c.self.inside.waits c.self.inside.next c.self.view_is c.self.invariant c.requires.next) _ _ _ c.in-Ok.ensures.ok c.remove-in_default-insert.ensures.rest) refl).1)

pub invariant_of-self-2 : goal.invariant_of-self-2
invariant_of-self-2 g c = (made (site c.self.inside.points c.self.inside.senders c.self.inside.holders c.self.inside.waits c.self.inside.next c.self.view_is c.self.invariant c.requires.next) (new_seen c.args.new) (fair g.C.CountCore.kind (new_seen c.args.new) c.requires.fits) (g.C.CountCore.point_of c.make.result) c.make.ensures c.new-entry.result c.new-entry.ensures _ c.in-Ok-insert.ensures.ok _ c.in-Ok-insert_if.ensures.ok _ c.in-Ok.ensures.ok).0

pub returns : goal.returns
returns g c = (made (site c.self.inside.points c.self.inside.senders c.self.inside.holders c.self.inside.waits c.self.inside.next c.self.view_is c.self.invariant c.requires.next) (new_seen c.args.new) (fair g.C.CountCore.kind (new_seen c.args.new) c.requires.fits) (g.C.CountCore.point_of c.make.result) c.make.ensures c.new-entry.result c.new-entry.ensures _ c.in-Ok-insert.ensures.ok _ c.in-Ok-insert_if.ensures.ok _ c.in-Ok.ensures.ok).1
