-- the receipts of rounds
use Rattle.std.proofs.Common.{◌≡◌, ℕ, ◌+◌, ◌*◌, ◌≤◌, ◌++◌, ◌⊎◌, inl, inr, true, [], List, length, refl, ap, sym, subst, ◌∙◌, arith, append_assoc, append-nil}
use Rattle.std.proofs.lemmas.List.{length-append}
use Rattle.mea_family.specs.declared.answer.Answer.{Answer}
use Rattle.mea_family.specs.declared.answer.Answer.TheVariants.{Held}
use Rattle.mea_family.specs.declared.stop.Stop.TheVariants as stops
use Rattle.mea_events.specs.declared.sem_event.SemEvent.TheVariants.{Try, End}
use Rattle.mea_recorded.specs.declared.pass.Noted.{Noted}
use Rattle.mea_recorded.specs.declared.receipt.Refused.{Refused}
use Rattle.mea_recorded.specs.History.{IsAnsweredAfter, IsRefusedAfter}
use Rattle.mea_crew_run.specs.Rounds.{is_held, IsRound, Misses, Passes, AreRounds, NoRounds, Rounds, GoOn, GoOnOnce, StopsWorker}

one_or_two : (ns : List Noted) → IsRound ns → (1 ≤ length ns) × (length ns ≤ 2)
one_or_two ns (Misses n asked missed) = (omega arith, omega arith)
one_or_two ns (Passes n m asked held ended) = (omega arith, omega arith)

-- each round has one receipt or two
pub rounds_are_counted : (k : ℕ) (ns : List Noted) → AreRounds k ns → (k ≤ length ns) × (length ns ≤ 2 * k)
rounds_are_counted k ns NoRounds = (omega arith, omega arith)
rounds_are_counted k ns (Rounds j ms more before round) =
    let few = rounds_are_counted j ms before in
    let one = one_or_two more round in
    let long : length (ms ++ more) ≡ length ms + length more = length-append ms more in
    (omega (arith, few.0, one.0, long), omega (arith, few.1, one.1, long))

pub no_rounds : (ns : List Noted) → GoOn 0 ns ns
no_rounds ns = ([], sym (append-nil ns), NoRounds)

pub one_more : (k : ℕ) (start old new : List Noted) → GoOn k start old → GoOnOnce old new → GoOn (k + 1) start new
one_more k start old new rounds once = (
  rounds.0 ++ once.0,
  once.1 ∙ ap (λ ns. ns ++ once.0) rounds.1 ∙ append_assoc start rounds.0 once.0,
  Rounds k rounds.0 once.0 rounds.2 once.2,
)

held : (a : Answer) → is_held a ≡ true → a ≡ Held
held Held is = refl
held _ is = absurd (cc)

-- the end of a permit that a try got was refused
pub end_stops : (k : ℕ) (a : Answer) (r : Refused) → IsAnsweredAfter k (Try 0 1) a → is_held a ≡ true → IsRefusedAfter r.at (End k) r.stop ⊎ (r.stop ≡ stops.NoMemory) → StopsWorker r
end_stops k a r answered is (inl refused) = inl (inr (k, subst (IsAnsweredAfter k (Try 0 1)) (held a is) answered, refused))
end_stops k a r answered is (inr lacks) = inr lacks
