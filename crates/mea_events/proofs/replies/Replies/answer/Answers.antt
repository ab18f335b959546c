use Rattle.std.proofs.Common.{◌≡◌, ℕ, ◌<◌, List, length, get_or, Some, ap, refl}
use Rattle.std.specs.Option.{option_map}
use Rattle.std.specs.List.{slice_get}
use Rattle.std.proofs.lemmas.Option.{slice_get_read}
use Rattle.mea_family.specs.declared.answer.Answer.{Answer}
use Rattle.mea_events.specs.declared.replies.Reply.{Reply}
use Rattle.mea_events.specs.RepliesInside.{replies_of, AreOrdered}
use Rattle.mea_events.proofs.ToldReplies.{within_items, reply_at}
use Rattle.mea_events.proofs.replies.Replies.answer.Goals as goal

answer_at : (rs : List Reply) (ws : List ℕ) (i n : ℕ) (r : Reply) → AreOrdered rs (length ws) → n ≡ length rs → i < n → r ≡ get_or rs i r
    → option_map {T = Answer × List ℕ} (λ told. told.0) (slice_get (replies_of rs ws) i) ≡ Some r.answer
answer_at rs ws i n r h size within is = ap (option_map {T = Answer × List ℕ} (λ told. told.0))
    (reply_at rs ws i r h (slice_get_read rs n i r size within is)).seen

pub index-requires : goal.index-requires
index-requires c = within_items c.self.inside.replies.items c.self.inside.wakes.items c.args.index c.self.inside.replies.len _ _ c.self.view_is refl c.requires c.self.inside.replies.ok.0

pub returns : goal.returns
returns c =
    let within = within_items c.self.inside.replies.items c.self.inside.wakes.items c.args.index c.self.inside.replies.len _ _ c.self.view_is refl c.requires c.self.inside.replies.ok.0 in
    rw (← c.self.view_is) (answer_at c.self.inside.replies.items c.self.inside.wakes.items c.args.index c.self.inside.replies.len c.index.result.now c.self.invariant c.self.inside.replies.ok.0 within c.index.ensures)
