use Rattle.std.proofs.Common.{◌≡◌, ℕ, ◌-◌, ◌++◌, ◌∷◌, List, [], length, ◌∙◌, arith, vec_len, vec_capacity}
use Rattle.mea_family.specs.declared.answer.Answer.{Answer}
use Rattle.mea_events.specs.declared.replies.Reply.{Reply}
use Rattle.mea_events.specs.RepliesInside.{replies_of, AreOrdered}
use Rattle.mea_events.proofs.ToldReplies.{replies_of-push, AreOrdered-push}
use Rattle.mea_events.proofs.replies.Replies.push.Goals as goal

ordered : (rs new : List Reply) (ws : List ℕ) (n : ℕ) (answer : Answer) → new ≡ rs ++ record { answer = answer; first = n } ∷ [] → n ≡ length ws
    → AreOrdered rs (length ws) → AreOrdered new (length ws)
ordered rs new ws n answer is at_end h = rw (is, at_end) (AreOrdered-push rs (length ws) answer h)

seen : (rs new : List Reply) (ws : List ℕ) (n : ℕ) (answer : Answer) → new ≡ rs ++ record { answer = answer; first = n } ∷ [] → n ≡ length ws
    → replies_of new ws ≡ replies_of rs ws ++ (answer, []) ∷ []
seen rs new ws n answer is at_end = rw (is, at_end) (replies_of-push rs ws answer)

pub invariant_of-self : goal.invariant_of-self
invariant_of-self c =
    ordered c.self.inside.replies.items c.push_reserved.new.self.items c.self.inside.wakes.items c.len-first.result c.args.answer c.push_reserved.ensures.items (c.len-first.ensures ∙ c.self.inside.wakes.ok.0) c.self.invariant

pub returns : goal.returns
returns c =
    let replies = seen c.self.inside.replies.items c.push_reserved.new.self.items c.self.inside.wakes.items c.len-first.result c.args.answer c.push_reserved.ensures.items (c.len-first.ensures ∙ c.self.inside.wakes.ok.0) in
    let room : vec_capacity c.push_reserved.new.self - vec_len c.push_reserved.new.self ≡ vec_capacity c.self.inside.replies - vec_len c.self.inside.replies - 1 = omega (arith, c.push_reserved.ensures.len, c.push_reserved.ensures.capacity) in
    rw (← c.self.view_is) (λ i. record { replies = replies i; room = room i; spare = vec_capacity c.self.inside.wakes - vec_len c.self.inside.wakes })
