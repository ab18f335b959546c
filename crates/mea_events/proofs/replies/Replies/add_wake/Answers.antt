use Rattle.std.proofs.Common.{◌≡◌, ◌≢◌, ℕ, ◌-◌, ◌++◌, ◌∷◌, List, [], length, refl, sym, arith, vec_len, vec_capacity, subst}
use Rattle.std.proofs.lemmas.List.{length_push}
use Rattle.mea_events.specs.declared.replies.Reply.{Reply}
use Rattle.mea_events.specs.Replies.{ReplyList, with_wake}
use Rattle.mea_events.specs.RepliesInside.{replies_of, AreOrdered}
use Rattle.mea_events.proofs.ToldReplies.{replies_of-more, AreOrdered-more}
use Rattle.mea_events.proofs.replies.Replies.add_wake.Goals as goal

ordered : (rs : List Reply) (ws new : List ℕ) (w : ℕ) → new ≡ ws ++ w ∷ [] → AreOrdered rs (length ws) → AreOrdered rs (length new)
ordered rs ws new w is h = rw (is, length_push ws w) (AreOrdered-more rs (length ws) h)

seen : (rs : List Reply) (ws new : List ℕ) (w : ℕ) → new ≡ ws ++ w ∷ [] → AreOrdered rs (length ws) → replies_of rs ws ≢ []
    → replies_of rs new ≡ with_wake (replies_of rs ws) w
seen [] ws new w is h some = absurd (some refl)
seen (r ∷ rs) ws new w is h some = rw is (replies_of-more (r ∷ rs) ws w (omega arith) h)

pub invariant_of-self : goal.invariant_of-self
invariant_of-self c = ordered c.self.inside.replies.items c.self.inside.wakes.items c.push_reserved.new.self.items c.args.waker c.push_reserved.ensures.items c.self.invariant

pub returns : goal.returns
returns c =
    let some = subst (λ (t : ReplyList). t.replies ≢ []) (sym c.self.view_is) c.requires.last in
    let replies = seen c.self.inside.replies.items c.self.inside.wakes.items c.push_reserved.new.self.items c.args.waker c.push_reserved.ensures.items c.self.invariant some in
    let spare : vec_capacity c.push_reserved.new.self - vec_len c.push_reserved.new.self ≡ vec_capacity c.self.inside.wakes - vec_len c.self.inside.wakes - 1 = omega (arith, c.push_reserved.ensures.len, c.push_reserved.ensures.capacity) in
    rw (← c.self.view_is) (λ i. record { replies = replies i; room = vec_capacity c.self.inside.replies - vec_len c.self.inside.replies; spare = spare i })
