-- what the fields of `Replies` stand for
use Rattle.std.specs.Prelude.{ℕ, ◌≤◌, List, [], ◌∷◌, drop, slice_range}
use Rattle.mea_family.specs.declared.answer.Answer.{Answer}
use Rattle.mea_events.specs.declared.replies.Reply.{Reply}

-- each answer with the wakes from its first up to the first of the next answer
abbrev pub replies_of : List Reply → List ℕ → List (Answer × List ℕ)
replies_of [] wakes = []
replies_of (r ∷ []) wakes = (r.answer, drop r.first wakes) ∷ []
replies_of (r ∷ next ∷ rs) wakes = (r.answer, slice_range wakes r.first next.first) ∷ replies_of (next ∷ rs) wakes

-- the first wakes do not fall, and are within n
abbrev pub AreOrdered : List Reply → ℕ → Type 0
AreOrdered [] n = Unit {0}
AreOrdered (r ∷ []) n = r.first ≤ n
AreOrdered (r ∷ next ∷ rs) n = (r.first ≤ next.first) × AreOrdered (next ∷ rs) n
