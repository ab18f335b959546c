-- a hall in play, and what an event does to it
use Rattle.std.specs.Prelude.{ℕ, ◌+◌, ◌≡◌, ◌++◌, List, [], Option, Some, None, refl}
use Rattle.std.specs.Coded.{Coded, code_by, coded×, coded_ℕ, coded_list}
use Rattle.mea_family.specs.declared.answer.Answer.{Answer}
use Rattle.mea_family.specs.declared.answer.Answer.TheVariants as answers
use Rattle.mea_family.specs.Family.{Outcome, quietly}
use Rattle.mea_base.specs.Ready.{Waking}

-- a hall with the wakers that are ready, and the least number that the next event may have
pub record Play (H : Type 0) : Type 0 where
  pub hall : H
  pub wakes : List ℕ
  pub next : ℕ

abbrev pub play_code : {H : Type 0} → Coded H → Coded (Play H)
play_code {H} code = code_by (H × (List ℕ × ℕ)) (coded× code (coded× (coded_list coded_ℕ) coded_ℕ)) (λ p. (p.hall, (p.wakes, p.next))) (λ p. record { hall = p.0; wakes = p.1.0; next = p.1.1 }) (λ _. refl)

-- event number i had this outcome, and this was replied
pub record Yields {H : Type 0} (old : Play H) (i : ℕ) (o : Outcome H) (answer : Answer) (new : Play H) : Type 0 where
  pub replied : answer ≡ o.reply
  pub moved : new ≡ record { hall = o.hall; wakes = old.wakes ++ o.wakes; next = i + 1 }

-- the things of one kind, and the least number that the next event may have
pub record Part (H : Type 0) : Type 0 where
  pub hall : H
  pub next : ℕ

abbrev pub part_code : {H : Type 0} → Coded H → Coded (Part H)
part_code {H} code = code_by (H × ℕ) (coded× code coded_ℕ) (λ p. (p.hall, p.next)) (λ p. record { hall = p.0; next = p.1 }) (λ _. refl)

module _ {H : Type 0} (registered : H → ℕ) where
  -- event number i had this outcome, and this was replied; its wakes were appended to those that are ready, and the
  -- registered wakers were counted
  pub record PartYields (old : Part H) (i : ℕ) (o : Outcome H) (answer : Answer) (new : Part H) (before after : Waking ℕ) : Type 0 where
    pub replied : answer ≡ o.reply
    pub moved : new ≡ record { hall = o.hall; next = i + 1 }
    pub woken : after.wakers ≡ before.wakers ++ o.wakes
    pub counted : after.registered + registered old.hall ≡ before.registered + registered o.hall

  -- and no waker was made ready, and as many are registered
  pub record PartRests (old : Part H) (i : ℕ) (o : Outcome H) (answer : Answer) (new : Part H) : Type 0 where
    pub replied : answer ≡ o.reply
    pub moved : new ≡ record { hall = o.hall; next = i + 1 }
    pub silent : o.wakes ≡ []
    pub counted : registered o.hall ≡ registered old.hall

-- what is done with a thing that is found; nothing, where it is not
abbrev pub found : {H X : Type 0} → Option X → H → (X → Outcome H) → Outcome H
found None h act = quietly h answers.Done
found (Some x) h act = act x

-- what is replied where a content is told
abbrev pub content : Option ℕ → Answer
content None = answers.Lacking
content (Some v) = answers.Value v
