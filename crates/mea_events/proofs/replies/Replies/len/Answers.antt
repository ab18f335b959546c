use Rattle.std.proofs.Common.{sym, ◌∙◌}
use Rattle.mea_events.proofs.ToldReplies.{length-replies_of}
use Rattle.mea_events.proofs.replies.Replies.len.Goals as goal

pub returns : goal.returns
returns c = rw (← c.self.view_is) (c.len.ensures ∙ c.self.inside.replies.ok.0 ∙ sym (length-replies_of c.self.inside.replies.items c.self.inside.wakes.items))
