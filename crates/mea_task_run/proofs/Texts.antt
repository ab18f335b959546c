-- texts that grow by one more
use Rattle.std.proofs.Common.{◌≡◌, ℕ, suc, ◌+◌, ◌++◌, List, [], ap, ◌∙◌, arith, append_assoc}
use Rattle.mea_family.specs.declared.answer.Answer.TheVariants.{Account}
use Rattle.mea_family.specs.declared.ledger.Ledger.{Ledger}
use Rattle.mea_sem_model.specs.Step.{ledger_of}
use Rattle.mea_text.specs.Reply.{reply_text}
use Rattle.mea_task_core.specs.Machine.{Machine, name_of}
use Rattle.mea_task_run.specs.Results.{texts_below, account_text}

pub one_more : (text : ℕ → List ℕ) (old mid new : List ℕ) (n : ℕ) → mid ≡ old ++ texts_below text n → new ≡ mid ++ text n → new ≡ old ++ texts_below text (n + 1)
one_more text old mid new n so_far put =
    let next : suc n ≡ n + 1 = omega arith in
    put
    ∙ ap (λ front. front ++ text n) so_far
    ∙ append_assoc old (texts_below text n) (text n)
    ∙ ap (λ k. old ++ texts_below text k) next

-- no account tells how many events there were
pub same_account : (m n : Machine) (events s : ℕ) → ◌≡◌ {A = Machine} n (record m { events = events }) → account_text n s ≡ account_text m s
same_account m n events s is = ap (λ (x : Machine). account_text x s) is

-- one more account is put
pub account_put : (m n : Machine) (events s : ℕ) (ledger : Ledger) (old mid new : List ℕ) → ◌≡◌ {A = Machine} n (record m { events = events }) → ledger ≡ ledger_of n.hall (name_of n s)
    → mid ≡ old ++ texts_below (account_text m) s → new ≡ mid ++ reply_text (Account ledger) [] → new ≡ old ++ texts_below (account_text m) (s + 1)
account_put m n events s ledger old mid new is told so_far put =
    one_more (account_text m) old mid new s so_far
    (put ∙ ap (λ (l : Ledger). mid ++ reply_text (Account l) []) told ∙ ap (λ t. mid ++ t) (same_account m n events s is))

-- which was one more event
pub counted_once_more : (m n after : Machine) (s : ℕ) → ◌≡◌ {A = Machine} n (record m { events = m.events + s }) → ◌≡◌ {A = Machine} after (record n { events = n.events + 1 })
    → ◌≡◌ {A = Machine} after (record m { events = m.events + (s + 1) })
counted_once_more m n after s is next =
    let sum : m.events + s + 1 ≡ m.events + (s + 1) = omega arith in
    next
    ∙ ap {A = Machine} {B = Machine} (λ (x : Machine). record x { events = x.events + 1 }) is
    ∙ ap {A = ℕ} {B = Machine} (λ (e : ℕ). record m { events = e }) sum
